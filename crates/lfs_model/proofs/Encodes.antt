-- What a writer has laid out is what a reader finds.
use Rattle.std.proofs.Common.{◌≡◌, ◌<◌, ◌≤◌, ⊎_elim, ◌+◌, ◌*◌, ◌-◌, ◌/◌, ◌%◌, nat_lt, ℕ, zero, suc, List, [], length, take, Option, Some}
use Rattle.std.proofs.Common.{None, refl, sym, ◌∙◌, ap, subst, arith, slice_index}
use Rattle.std.proofs.Math.Path.{fun_ext}
use Rattle.std.proofs.lemmas.List.{drop_all, nil_from_length}
use Rattle.std.proofs.lemmas.Bool.{cases_eq, cases_lt, lt-ltb, le-ltb, cond-true, cond-false}
use Rattle.lfs_model.specs.Entry.{Entry, Data, Leaf, Double, Inode, Map, Usage, Header, header, word}
use Rattle.lfs_model.specs.Checkpoint.{CheckpointValue}
use Rattle.lfs_model.specs.Fields.{number_of, part, read32}
use Rattle.lfs_model.specs.Content.{Content, block}
use Rattle.lfs_model.specs.Reach.{linked, View, view, view_by}
use Rattle.lfs_model.specs.Stands.{LogMap, EnoughClean, StandsAt, Stages, Fresh, label_at, header_in, HasWord}
use Rattle.lfs_model.specs.Encodes.{HasData, HasInode, IsLogMap, Encodes, Encoding}
use Rattle.lfs_model.proofs.Reach.{address_unique}

pub word_nil : (k : ℕ) → word [] k ≡ 0
unfolding word read32 part
word_nil k = ap (λ (b : List ℕ). number_of (take 4 b)) (drop_all (4 * k) [] (omega arith))

word_past : (b : List ℕ) (k : ℕ) → length b ≡ 512 → 128 ≤ k → word b k ≡ 0
unfolding word read32 part
word_past b k long past = ap (λ (b : List ℕ). number_of (take 4 b)) (drop_all (4 * k) b (omega arith))

-- an entry of no block has no children
word_none : (c : Content) (a k : ℕ) → (0 < a → ⊥) → word (block c a) k ≡ 0
word_none c zero k none = word_nil k
word_none c (suc a) k none = absurd (none (omega arith))

same_zero : (a : ℕ) → (0 < a → ⊥) → a ≡ 0
same_zero a none = omega arith

module _ (c : Content) (k : CheckpointValue) (A : Entry → ℕ) (m : LogMap) (formed : IsLogMap m) (en : Encodes c k A m) where
  -- a pointer that stands in a block, or in none
  pointer : (parent child : Entry) (place : ℕ) → (0 < A parent → word (block c (A parent)) place ≡ A child) → (0 < A child → 0 < A parent)
      → A child ≡ word (block c (A parent)) place
  pointer parent child place there up =
      ⊎_elim
      (λ (none : A parent ≡ 0). same_zero (A child) (λ lt. let h = up lt in omega arith)
      ∙ sym (word_none c (A parent) place (λ lt. omega arith)))
      (λ (some : A parent ≡ 0 → ⊥). sym (there (omega arith)))
      (cases_eq (A parent) 0)

  has_inode : (n i : ℕ) → HasData m n i → 0 < A (Inode n)
  has_inode n i has = let h = formed.within n i has in en.stored (Inode n) (h.0, h.1)

  has_leaf : (n i : ℕ) → 112 ≤ i → HasData m n i → 0 < A (Leaf n ((i - 112) / 128))
  has_leaf n i le has =
      let e : i ≡ 112 + 128 * ((i - 112) / 128) + (i - 112) % 128 = omega arith in
      en.stored (Leaf n ((i - 112) / 128)) ((i - 112) % 128, omega arith, subst (HasData m n) e has)

  links : (e : Entry) → A e ≡ linked k (λ x. block c (A x)) e
  links (Map j) = en.map j
  links (Usage j) = en.usage j
  links (Inode n) =
      let e : 128 * (n / 128) + n % 128 ≡ n = omega arith in
      pointer (Map (n / 128)) (Inode n) (n % 128)
      (λ lt. en.spells (Map (n / 128)) lt (n % 128) (omega arith) ∙ ap (λ (x : ℕ). A (Inode x)) e)
      (λ lt. en.stored (Map (n / 128)) (n % 128, omega arith, subst (HasInode m) (sym e) (en.only (Inode n) lt)))
  links (Double n) =
      pointer (Inode n) (Double n) 121 (λ lt. (en.spells (Inode n) lt).double)
      (λ lt. let h = en.only (Double n) lt in has_inode n (112 + 128 * suc h.0 + h.2.0) h.2.2)
  links (Leaf n zero) =
      pointer (Inode n) (Leaf n zero) 120 (λ lt. (en.spells (Inode n) lt).single)
      (λ lt. let h = en.only (Leaf n zero) lt in has_inode n (112 + 128 * 0 + h.0) h.2)
  links (Leaf n (suc q)) =
      ⊎_elim
      (λ (low : q < 128). pointer (Double n) (Leaf n (suc q)) q (λ lt. en.spells (Double n) lt q low)
      (λ lt. en.stored (Double n) (q, low, en.only (Leaf n (suc q)) lt)))
      (λ (high : 128 ≤ q).
      let none : 0 < A (Leaf n (suc q)) → ⊥ = λ lt. let h = en.only (Leaf n (suc q)) lt in
      let s = formed.small n (112 + 128 * suc q + h.0) h.2 in omega arith in
      pointer (Double n) (Leaf n (suc q)) q (λ lt. word_past (block c (A (Double n))) q (en.long (Double n) lt) high
      ∙ sym (same_zero (A (Leaf n (suc q))) none)) (λ lt. absurd (none lt)))
      (cases_lt q 128)
  links (Data n i) =
      ⊎_elim
      (λ (low : i < 112).
      pointer (Inode n) (Data n i) (8 + i) (λ lt. (en.spells (Inode n) lt).direct i low) (λ lt. has_inode n i (en.only (Data n i) lt))
      ∙ sym (cond-true (nat_lt i 112) (word (block c (A (Inode n))) (8 + i))
      (word (block c (A (Leaf n ((i - 112) / 128)))) ((i - 112) % 128)) (lt-ltb i 112 low)))
      (λ (high : 112 ≤ i).
      let e : 112 + 128 * ((i - 112) / 128) + (i - 112) % 128 ≡ i = omega arith in
      pointer (Leaf n ((i - 112) / 128)) (Data n i) ((i - 112) % 128)
      (λ lt. en.spells (Leaf n ((i - 112) / 128)) lt ((i - 112) % 128) (omega arith) ∙ ap (λ (x : ℕ). A (Data n x)) e)
      (λ lt. has_leaf n i high (en.only (Data n i) lt))
      ∙ sym (cond-false (nat_lt i 112) (word (block c (A (Inode n))) (8 + i))
      (word (block c (A (Leaf n ((i - 112) / 128)))) ((i - 112) % 128)) (le-ltb i 112 high)))
      (cases_lt i 112)

  -- the assignment is what the checkpoint reaches
  pub assigned : view_by c k A ≡ view c k
  assigned = ap (view_by c k) (fun_ext (address_unique c k A links))

  -- a block's name tells where it stands, so no two stand at one place
  apart : (e f : Entry) → 0 < A e → A f ≡ A e → f ≡ e
  apart e f lt same =
      let ne = en.named e lt in
      let nf = en.named f (let s = same in omega arith) in
      let both : Some f ≡ Some e = sym nf ∙ ap (label_at (view_by c k A)) same ∙ ne in
      cc

  fresh : (stage : ℕ) → Fresh (view_by c k A) stage
  fresh stage e is lt = let w = en.within e lt in (w.0, w.1, λ f le same. apart e f lt same)

  header_of : (n : ℕ) (h : Header) → m.header n ≡ Some h → (0 < A (Inode n)) × (h ≡ header (block c (A (Inode n))))
  header_of n h is =
      let lt = en.stored (Inode n) (h, is) in
      let there : Some h ≡ Some (header (block c (A (Inode n)))) = sym is ∙ (en.spells (Inode n) lt).header in
      (lt, cc)

  data_is : (n i : ℕ) → m.block n i ≡ block c (A (Data n i))
  data_is n i =
      ⊎_elim
      (λ (none : A (Data n i) ≡ 0).
      nil_from_length (m.block n i) (same_zero (length (m.block n i)) (λ lt. let s = en.stored (Data n i) lt in omega arith))
      ∙ sym (ap (block c) none))
      (λ (some : A (Data n i) ≡ 0 → ⊥). sym (en.spells (Data n i) (omega arith)))
      (cases_eq (A (Data n i)) 0)

  word_of : (e child : Entry) (place : ℕ) → place < 128 → word (block c (A e)) place ≡ A child → 0 < A child → HasWord (view_by c k A) e
  word_of e child place low is lt = (place, low, omega arith)

  stages : Stages (view_by c k A)
  stages = record {
    usages = record {
      addresses = λ j. (en.only (Usage j), en.stored (Usage j));
      fresh = fresh 1;
      readable = λ j lt. en.long (Usage j) lt;
      fit = en.fit;
      whole = en.whole;
      less = en.less;
      both = en.both;
      past = en.past;
    };
    rows = en.rows;
    maps = record {
      fresh = fresh 3;
      nonempty = λ j lt.
          let h = en.only (Map j) lt in
          word_of (Map j) (Inode (128 * j + h.0)) h.0 h.1 (en.spells (Map j) lt h.0 h.1) (en.stored (Inode (128 * j + h.0)) h.2);
      none = same_zero (A (Inode 0)) (λ lt. let h = en.only (Inode 0) lt in formed.none h.0 h.1);
      root = let r = formed.root in en.stored (Inode 1) (r.0, r.1);
    };
    inodes = record {
      fresh = fresh 4;
      formed = λ n lt. (en.spells (Inode n) lt).formed;
      root = let r = formed.root in ap (λ (h : Header). h.kind) (sym (header_of 1 r.0 r.1).1) ∙ r.2;
    };
    roots = record {
      fresh = fresh 5;
      single = λ n lt.
          let h = en.only (Leaf n 0) lt in
          word_of (Leaf n 0) (Data n (112 + 128 * 0 + h.0)) h.0 h.1 (en.spells (Leaf n 0) lt h.0 h.1)
          (en.stored (Data n (112 + 128 * 0 + h.0)) h.2);
      double = λ n lt.
          let h = en.only (Double n) lt in
          word_of (Double n) (Leaf n (suc h.0)) h.0 h.1 (en.spells (Double n) lt h.0 h.1) (en.stored (Leaf n (suc h.0)) h.2);
    };
    leaves = record {
      fresh = fresh 6;
      nonempty = λ n q lt.
          let h = en.only (Leaf n (suc q)) lt in
          word_of (Leaf n (suc q)) (Data n (112 + 128 * suc q + h.0)) h.0 h.1 (en.spells (Leaf n (suc q)) lt h.0 h.1)
          (en.stored (Data n (112 + 128 * suc q + h.0)) h.2);
    };
    blocks = record {
      fresh = fresh 7;
      nonzero = λ n i lt.
          subst (λ (b : List ℕ). (o : ℕ) × (0 < slice_index b o)) (data_is n i) (formed.nonzero n i (en.only (Data n i) lt));
      within = λ n i lt. let h = formed.within n i (en.only (Data n i) lt) in let e = ap (λ (x : Header). x.size) (header_of n h.0 h.1).1 in
          let w = h.2 in omega arith;
      past = λ n i lt o past.
          let h = formed.within n i (en.only (Data n i) lt) in
          let e = ap (λ (x : Header). x.size) (header_of n h.0 h.1).1 in
          ap (λ (b : List ℕ). slice_index b o) (sym (data_is n i)) ∙ formed.past n i o h.0 h.1 (omega arith);
    };
    named = en.named;
    counted = en.counted;
  }

  headers : (n : ℕ) → m.header n ≡ header_in (view_by c k A) n
  headers n = go (m.header n) refl
    where
      go : (o : Option Header) → m.header n ≡ o → m.header n ≡ header_in (view_by c k A) n
      go None is =
          let none : 0 < A (Inode n) → ⊥ = λ lt. let h = en.only (Inode n) lt in let e : None ≡ Some h.0 = sym is ∙ h.1 in cc in
          is ∙ sym (cond-false (nat_lt 0 (A (Inode n))) (Some (header (block c (A (Inode n))))) None (le-ltb 0 (A (Inode n)) (omega arith)))
      go (Some h) is =
          let t = header_of n h is in
          is ∙ ap Some t.1
          ∙ sym (cond-true (nat_lt 0 (A (Inode n))) (Some (header (block c (A (Inode n))))) None (lt-ltb 0 (A (Inode n)) t.0))

  pub stands : StandsAt c k m
  stands = record {
    holds = record {
      size = en.size;
      stages = subst Stages assigned stages;
      header = λ n. headers n ∙ ap (λ (v : View). header_in v n) assigned;
      block = λ n i. data_is n i ∙ ap (λ (v : View). v.block (Data n i)) assigned;
      version = en.version;
    };
    clean = subst EnoughClean assigned en.clean;
  }

pub encoding : Encoding
encoding c k A m formed en = stands c k A m formed en
