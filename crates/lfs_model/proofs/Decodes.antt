-- What a reader finds is laid out as a writer would.
use Rattle.std.proofs.Common.{◌≡◌, ◌<◌, ◌≤◌, ⊎_elim, ◌+◌, ◌*◌, ◌-◌, ◌/◌, ◌%◌, ◌==◌, ◌&&◌, nat_lt, nat_le, Bool, true, false, ℕ, zero, suc}
use Rattle.std.proofs.Common.{List, [], ◌∷◌, length, Option, Some, None, refl, sym, ◌∙◌, ap, ap₂, subst, arith, slice_index}
use Rattle.std.proofs.lemmas.Bool.{cases_eq, cases_lt, lt-ltb, le-ltb, ltb-true, cond-true, cond-false}
use Rattle.std.proofs.lemmas.Bool.{and_parts, leb-true}
use Rattle.lfs_model.specs.declared.Kind.{Kind}
use Rattle.lfs_model.specs.declared.Kind.TheVariants.{File, Directory, Link}
use Rattle.lfs_model.specs.Inode.{InodeValue, IsForm, inode_in, inode_of, inode_sector, is_form, is_size, may_be_inode}
use Rattle.lfs_model.specs.Entry.{Entry, Data, Leaf, Double, Inode, Map, Usage, Header, IsInode, header, word}
use Rattle.lfs_model.specs.Checkpoint.{CheckpointValue, layout_version}
use Rattle.lfs_model.specs.Content.{Content, bytes_of, block}
use Rattle.lfs_model.specs.Device.{IsSector, cell_at}
use Rattle.lfs_model.specs.Fields.{part, read32}
use Rattle.lfs_model.proofs.Cells.{sector_at}
use Rattle.std.specs.List.{AllByRecursion}
use Rattle.lfs_model.specs.Reach.{address, View, view}
use Rattle.lfs_model.specs.Stands.{LogMap, EnoughClean, HoldsAt, Stages, HasWord}
use Rattle.lfs_model.specs.Tree.{slot_len}
use Rattle.lfs_model.specs.Encodes.{Has, HasData, HasLeaf, HasInode, IsLogMap, Spells, Encodes}
use Rattle.lfs_model.specs.Decodes.{IsSized, Decoding}
use Rattle.lfs_model.proofs.Reach.{address_linked}
use Rattle.lfs_model.proofs.Encodes.{word_nil}
use Rattle.lfs_model.proofs.Decoding.{value_found}
use Rattle.lfs_model.proofs.InodePlaces.{widest}

pub reached_within : (v : View) → Stages v → (e : Entry) → 0 < v.address e
    → (2 ≤ v.address e) × (v.address e < 2 + 64 * v.checkpoint.segments)
reached_within v s (Usage j) lt = let f = s.usages.fresh (Usage j) refl lt in (f.0, f.1)
reached_within v s (Map j) lt = let f = s.maps.fresh (Map j) refl lt in (f.0, f.1)
reached_within v s (Inode n) lt = let f = s.inodes.fresh (Inode n) refl lt in (f.0, f.1)
reached_within v s (Double n) lt = let f = s.roots.fresh (Double n) refl lt in (f.0, f.1)
reached_within v s (Leaf n zero) lt = let f = s.roots.fresh (Leaf n zero) refl lt in (f.0, f.1)
reached_within v s (Leaf n (suc q)) lt = let f = s.leaves.fresh (Leaf n (suc q)) refl lt in (f.0, f.1)
reached_within v s (Data n i) lt = let f = s.blocks.fresh (Data n i) refl lt in (f.0, f.1)

nonempty_index : (b : List ℕ) (o : ℕ) → 0 < slice_index b o → 0 < length b
nonempty_index [] o lt = lt
nonempty_index (x ∷ b) o lt = omega arith

nonempty_word : (b : List ℕ) (i : ℕ) → 0 < word b i → 0 < length b
nonempty_word [] i lt = let z = word_nil i in omega arith
nonempty_word (x ∷ b) i lt = omega arith

sized_bytes : (s : Option (List ℕ)) → ((b : List ℕ) → s ≡ Some b → length b ≡ 512) → 0 < length (bytes_of s) → length (bytes_of s) ≡ 512
sized_bytes None sized lt = absurd (omega arith)
sized_bytes (Some b) sized lt = sized b refl

sized_block : (c : Content) → IsSized c → (a : ℕ) → 0 < length (block c a) → length (block c a) ≡ 512
sized_block c sized zero lt = absurd (omega arith)
sized_block c sized (suc a) lt = sized_bytes (cell_at c (suc a)) (sized (suc a)) lt

address_of_block : (c : Content) (a : ℕ) → 0 < length (block c a) → 0 < a
address_of_block c zero lt = absurd (omega arith)
address_of_block c (suc a) lt = omega arith

pub address_of_word : (c : Content) (a i : ℕ) → 0 < word (block c a) i → 0 < a
address_of_word c a i lt = address_of_block c a (nonempty_word (block c a) i lt)

-- what an inode may have, as bytes: 16,624 blocks
kind_size : (form : ℕ) (k : Kind) (n : ℕ) → is_size form k n ≡ true → n ≤ 8511488
unfolding is_size
kind_size form File n e = leb-true n 8511488 e
kind_size form Directory n e = let parts = and_parts (n % slot_len form == 0) (nat_le n (1024 * slot_len form)) e in
    let le = leb-true n (1024 * slot_len form) parts.1 in let most = widest form in omega arith
kind_size form Link n e = let parts = and_parts (nat_le 1 n) (nat_le n 1023) e in let le : n ≤ 1023 = leb-true n 1023 parts.1 in omega arith

small_size : (version n : ℕ) (b : List ℕ) → IsInode version n b → (header b).size ≤ 8511488
unfolding inode_in header
small_size version n b i =
    let found = value_found inode_of may_be_inode inode_sector b i.value i.spelt in
    let i = inode_of b in
    let numbers = and_parts (nat_le 1 i.number && nat_le i.number 4095) _ found.1 in
    let links = and_parts (nat_le 1 i.links && nat_le i.links 1000) (is_form i.kind i.form && is_size i.form i.kind i.size) numbers.1 in
    kind_size i.form i.kind i.size (and_parts (is_form i.kind i.form) (is_size i.form i.kind i.size) links.1).1

-- its form is one of the version
of_version : (version n : ℕ) (b : List ℕ) → IsInode version n b → IsForm version (header b).kind (header b).form
unfolding inode_in header
of_version version n b i =
    let found = value_found inode_of may_be_inode inode_sector b i.value i.spelt in
    subst (λ (v : InodeValue). IsForm version v.kind v.form) (sym found.0) i.form

-- no inode is spelled by no bytes
no_inode : inode_in [] ≡ None
unfolding inode_in read32 part
no_inode = refl

formed_nonempty : (version n : ℕ) (b : List ℕ) → IsInode version n b → 0 < length b
formed_nonempty version n [] i = let e : None ≡ Some i.value = sym no_inode ∙ i.spelt in absurd (cc)
formed_nonempty version n (x ∷ b) i = omega arith

-- a device's sectors have 512 bytes
pub are_sized : (c : Content) → AllByRecursion IsSector c → IsSized c
are_sized c all at bytes there = (subst IsSector there (sector_at c at all)).size

-- what a content that holds a log map has, whether enough segments are clean or not
module _ (c : Content) (k : CheckpointValue) (m : LogMap) (sized : IsSized c) (st : HoldsAt c k m) where
  A : Entry → ℕ
  A = address c k

  -- where the pointers stand
  at_data : (n i : ℕ) → i < 112 → word (block c (address c k (Inode n))) (8 + i) ≡ address c k (Data n i)
  at_data n i low =
      sym (address_linked c k (Data n i)
      ∙ cond-true (nat_lt i 112) (word (block c (address c k (Inode n))) (8 + i))
      (word (block c (address c k (Leaf n ((i - 112) / 128)))) ((i - 112) % 128)) (lt-ltb i 112 low))

  in_leaf : (n q i : ℕ) → i < 128 → word (block c (address c k (Leaf n q))) i ≡ address c k (Data n (112 + 128 * q + i))
  in_leaf n q i low =
      let b = 112 + 128 * q + i in
      let eq : (b - 112) / 128 ≡ q = omega arith in
      let ei : (b - 112) % 128 ≡ i = omega arith in
      sym (address_linked c k (Data n b)
      ∙ cond-false (nat_lt b 112) (word (block c (address c k (Inode n))) (8 + b))
      (word (block c (address c k (Leaf n ((b - 112) / 128)))) ((b - 112) % 128)) (le-ltb b 112 (omega arith))
      ∙ ap₂ (λ (x y : ℕ). word (block c (address c k (Leaf n x))) y) eq ei)

  in_double : (n q : ℕ) → word (block c (address c k (Double n))) q ≡ address c k (Leaf n (suc q))
  in_double n q = sym (address_linked c k (Leaf n (suc q)))

  in_map : (j i : ℕ) → i < 128 → word (block c (address c k (Map j))) i ≡ address c k (Inode (128 * j + i))
  in_map j i low =
      let n = 128 * j + i in
      let ej : n / 128 ≡ j = omega arith in
      let ei : n % 128 ≡ i = omega arith in
      sym (address_linked c k (Inode n) ∙ ap₂ (λ (x y : ℕ). word (block c (address c k (Map x))) y) ej ei)

  data_of : (n i : ℕ) → HasData m n i → 0 < address c k (Data n i)
  data_of n i has = address_of_block c (address c k (Data n i)) (subst (λ (b : List ℕ). 0 < length b) (st.block n i) has)

  has_data : (n i : ℕ) → 0 < address c k (Data n i) → HasData m n i
  has_data n i lt =
      let z = st.stages.blocks.nonzero n i lt in
      subst (λ (b : List ℕ). 0 < length b) (sym (st.block n i)) (nonempty_index (block c (address c k (Data n i))) z.0 z.1)

  leaf_of : (n q : ℕ) → HasLeaf m n q → 0 < address c k (Leaf n q)
  leaf_of n q has = let lt = data_of n (112 + 128 * q + has.0) has.2 in let e = in_leaf n q has.0 has.1 in
      address_of_word c (address c k (Leaf n q)) has.0 (omega arith)

  leaf_word : (n q : ℕ) → 0 < address c k (Leaf n q) → HasWord (view c k) (Leaf n q)
  leaf_word n zero lt = st.stages.roots.single n lt
  leaf_word n (suc q) lt = st.stages.leaves.nonempty n q lt

  has_leaf : (n q : ℕ) → 0 < address c k (Leaf n q) → HasLeaf m n q
  has_leaf n q lt =
      let w = leaf_word n q lt in
      let e = in_leaf n q w.0 w.1 in
      let v = w.2 in
      (w.0, w.1, has_data n (112 + 128 * q + w.0) (omega arith))

  inode_reached : (n : ℕ) → HasInode m n → 0 < address c k (Inode n)
  inode_reached n has = go (nat_lt 0 (address c k (Inode n))) refl
    where
      go : (t : Bool) → nat_lt 0 (address c k (Inode n)) ≡ t → 0 < address c k (Inode n)
      go true is = ltb-true 0 (address c k (Inode n)) is
      go false is =
          let none = cond-false (nat_lt 0 (address c k (Inode n))) (Some (header (block c (address c k (Inode n))))) None is in
          let e : Some has.0 ≡ None = sym has.1 ∙ st.header n ∙ none in
          absurd (cc)

  pub header_at : (n : ℕ) → 0 < address c k (Inode n) → m.header n ≡ Some (header (block c (address c k (Inode n))))
  header_at n lt = st.header n ∙ cond-true (nat_lt 0 (address c k (Inode n))) (Some (header (block c (address c k (Inode n))))) None
      (lt-ltb 0 (address c k (Inode n)) lt)

  pub stored : (e : Entry) → Has m k.segments e → 0 < address c k e
  stored (Data n i) has = data_of n i has
  stored (Leaf n q) has = leaf_of n q has
  stored (Double n) has = let lt = leaf_of n (suc has.0) has.2 in let e = in_double n has.0 in
      address_of_word c (address c k (Double n)) has.0 (omega arith)
  stored (Inode n) has = inode_reached n has
  stored (Map j) has = let lt = inode_reached (128 * j + has.0) has.2 in let e = in_map j has.0 has.1 in
      address_of_word c (address c k (Map j)) has.0 (omega arith)
  stored (Usage j) has = (st.stages.usages.addresses j).1 has

  pub only : (e : Entry) → 0 < address c k e → Has m k.segments e
  only (Data n i) lt = has_data n i lt
  only (Leaf n q) lt = has_leaf n q lt
  only (Double n) lt = let w = st.stages.roots.double n lt in let e = in_double n w.0 in let v = w.2 in
      (w.0, w.1, has_leaf n (suc w.0) (omega arith))
  only (Inode n) lt = (header (block c (address c k (Inode n))), header_at n lt)
  only (Map j) lt =
      let w = st.stages.maps.nonempty j lt in
      let e = in_map j w.0 w.1 in
      let v = w.2 in
      (w.0, w.1, (header (block c (address c k (Inode (128 * j + w.0)))), header_at (128 * j + w.0) (omega arith)))
  only (Usage j) lt = (st.stages.usages.addresses j).0 lt

  pub long : (e : Entry) → 0 < address c k e → length (block c (address c k e)) ≡ 512
  long (Data n i) lt = let z = st.stages.blocks.nonzero n i lt in
      sized_block c sized (address c k (Data n i)) (nonempty_index (block c (address c k (Data n i))) z.0 z.1)
  long (Leaf n q) lt = let z = leaf_word n q lt in
      sized_block c sized (address c k (Leaf n q)) (nonempty_word (block c (address c k (Leaf n q))) z.0 z.2)
  long (Double n) lt = let z = st.stages.roots.double n lt in
      sized_block c sized (address c k (Double n)) (nonempty_word (block c (address c k (Double n))) z.0 z.2)
  long (Inode n) lt = sized_block c sized (address c k (Inode n))
      (formed_nonempty (layout_version k) n (block c (address c k (Inode n))) (st.stages.inodes.formed n lt))
  long (Map j) lt = let z = st.stages.maps.nonempty j lt in
      sized_block c sized (address c k (Map j)) (nonempty_word (block c (address c k (Map j))) z.0 z.2)
  long (Usage j) lt = st.stages.usages.readable j lt

  spells : (e : Entry) → 0 < address c k e → Spells m (layout_version k) (address c k) (block c (address c k e)) e
  spells (Data n i) lt = sym (st.block n i)
  spells (Leaf n q) lt = in_leaf n q
  spells (Double n) lt = λ q low. in_double n q
  spells (Inode n) lt = record {
    formed = st.stages.inodes.formed n lt;
    header = header_at n lt;
    direct = at_data n;
    single = sym (address_linked c k (Leaf n zero));
    double = sym (address_linked c k (Double n));
  }
  spells (Map j) lt = in_map j
  spells (Usage j) lt = tt

  encodes : EnoughClean (view c k) → Encodes c k (address c k) m
  unfolding address
  encodes clean = record {
    size = st.size;
    version = st.version;
    map = λ j. refl;
    usage = λ j. refl;
    stored = stored;
    only = only;
    within = reached_within (view c k) st.stages;
    long = long;
    spells = spells;
    rows = st.stages.rows;
    named = st.stages.named;
    fit = st.stages.usages.fit;
    whole = st.stages.usages.whole;
    less = st.stages.usages.less;
    both = st.stages.usages.both;
    past = st.stages.usages.past;
    counted = st.stages.counted;
    clean = clean;
  }

  inode_of_double : (n : ℕ) → 0 < address c k (Double n) → 0 < address c k (Inode n)
  inode_of_double n lt = let e = address_linked c k (Double n) in address_of_word c (address c k (Inode n)) 121 (omega arith)

  inode_of_leaf : (n q : ℕ) → 0 < address c k (Leaf n q) → 0 < address c k (Inode n)
  inode_of_leaf n zero lt = let e = address_linked c k (Leaf n zero) in address_of_word c (address c k (Inode n)) 120 (omega arith)
  inode_of_leaf n (suc q) lt = let e = address_linked c k (Leaf n (suc q)) in
      inode_of_double n (address_of_word c (address c k (Double n)) q (omega arith))

  inode_at : (n i : ℕ) → 0 < address c k (Data n i) → 0 < address c k (Inode n)
  inode_at n i lt =
      ⊎_elim
      (λ (low : i < 112). let e = at_data n i low in address_of_word c (address c k (Inode n)) (8 + i) (omega arith))
      (λ (high : 112 ≤ i).
      let q = (i - 112) / 128 in
      let ei : 112 + 128 * ((i - 112) / 128) + (i - 112) % 128 ≡ i = omega arith in
      let e = in_leaf n q ((i - 112) % 128) (omega arith) in
      let f = ap (λ (x : ℕ). address c k (Data n x)) ei in
      inode_of_leaf n q (address_of_word c (address c k (Leaf n q)) ((i - 112) % 128) (omega arith)))
      (cases_lt i 112)

  past_end : (n i o : ℕ) (h : Header) → m.header n ≡ Some h → h.size ≤ 512 * i + o → slice_index (m.block n i) o ≡ 0
  past_end n i o h is le =
      ⊎_elim
      (λ (none : address c k (Data n i) ≡ 0). ap (λ (b : List ℕ). slice_index b o) (st.block n i ∙ ap (block c) none))
      (λ (some : address c k (Data n i) ≡ 0 → ⊥).
      let lt : 0 < address c k (Data n i) = omega arith in
      let both : Some h ≡ Some (header (block c (address c k (Inode n)))) = sym is ∙ header_at n (inode_at n i lt) in
      let same : h ≡ header (block c (address c k (Inode n))) = cc in
      let e = ap (λ (x : Header). x.size) same in
      ap (λ (b : List ℕ). slice_index b o) (st.block n i) ∙ st.stages.blocks.past n i lt o (omega arith))
      (cases_eq (address c k (Data n i)) 0)

  pub formed : IsLogMap m
  formed = record {
    none = λ h is. let lt = inode_reached 0 (h, is) in let z = st.stages.maps.none in omega arith;
    root =
        let lt = st.stages.maps.root in
        (header (block c (address c k (Inode 1))), header_at 1 lt, st.stages.inodes.root);
    forms = λ n h is.
        let lt = inode_reached n (h, is) in
        let both : Some h ≡ Some (header (block c (address c k (Inode n)))) = sym is ∙ header_at n lt in
        let same : h ≡ header (block c (address c k (Inode n))) = cc in
        subst (λ (v : ℕ). IsForm v h.kind h.form) (sym st.version)
        (subst (λ (x : Header). IsForm (layout_version k) x.kind x.form) (sym same)
        (of_version (layout_version k) n (block c (address c k (Inode n))) (st.stages.inodes.formed n lt)));
    within = λ n i has.
        let lt = data_of n i has in
        let linode = inode_at n i lt in
        (header (block c (address c k (Inode n))), header_at n linode, st.stages.blocks.within n i lt);
    small = λ n i has.
        let lt = data_of n i has in
        let w = st.stages.blocks.within n i lt in
        let s : (header (block c (address c k (Inode n)))).size ≤ 8511488 =
        small_size (layout_version k) n (block c (address c k (Inode n))) (st.stages.inodes.formed n (inode_at n i lt)) in
        omega arith;
    nonzero = λ n i has.
        subst (λ (b : List ℕ). (o : ℕ) × (0 < slice_index b o)) (sym (st.block n i)) (st.stages.blocks.nonzero n i (data_of n i has));
    past = past_end;
  }

pub decoding : Decoding
decoding c k m sized st = (formed c k m sized st.holds, encodes c k m sized st.holds st.clean)
