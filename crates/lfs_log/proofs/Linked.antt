-- What a checkpoint keeps: files with links. A mounted log map has no others, and one that goes leaves the rest.
use Rattle.std.proofs.Common.{◌≡◌, ◌<◌, ◌≤◌, ◌==◌, ⊎_elim, nat_lt, true, false, cond, ℕ, Bool, List, [], ◌∷◌, length, Option, Some, None}
use Rattle.std.proofs.Common.{refl, sym, ◌∙◌, ap, ap₂, arith}
use Rattle.std.proofs.Math.Path.{fun_ext}
use Rattle.std.proofs.lemmas.Bool.{cases_eq, lt-ltb, and_parts, leb-true, cond-true, cond-false, eqb-true, le-ltb}
use Rattle.lfs_model.specs.Checkpoint.{CheckpointValue}
use Rattle.lfs_model.specs.Content.{Content, block}
use Rattle.lfs_model.specs.Decodes.{IsSized}
use Rattle.lfs_model.specs.Encodes.{IsLogMap}
use Rattle.lfs_model.specs.Entry.{Header, Inode, IsInode, header}
use Rattle.lfs_model.specs.Inode.{inode_in, inode_of, inode_sector, may_be_inode}
use Rattle.lfs_model.specs.Memory.{is_nameless, is_unlinked}
use Rattle.lfs_model.specs.Reach.{address}
use Rattle.lfs_model.specs.Stands.{LogMap, StandsAt}
use Rattle.lfs_model.specs.TreeOf.{dropped, kept}
use Rattle.lfs_model.proofs.Decodes.{decoding}
use Rattle.lfs_model.proofs.Decoding.{value_found}
use Rattle.lfs_memory.specs.Removing.{without_file}

-- an inode on a device has a link
links_some : {version : ℕ} (n : ℕ) {b : List ℕ} → IsInode version n b → 1 ≤ (header b).links
unfolding inode_in header
links_some n {b} is =
    let found = value_found inode_of may_be_inode inode_sector b is.value is.spelt in
    leb-true 1 (inode_of b).links (and_parts _ _ (and_parts _ _ (and_parts _ _ found.1).1).0).0

module _ {c : Content} {k : CheckpointValue} (m : LogMap) (sized : IsSized c) (st : StandsAt c k m) where
  formed : IsLogMap m
  formed = (decoding c k m sized st).0

  some_links : (n : ℕ) (h : Header) → m.header n ≡ Some h → 0 < h.links
  some_links n h is = ⊎_elim
      (λ (none : address c k (Inode n) ≡ 0).
      let e : None ≡ Some h =
      sym (st.holds.header n ∙ ap (λ (a : ℕ). cond (nat_lt 0 a) (Some (header (block c (address c k (Inode n))))) None) none) ∙ is in
      absurd (cc))
      (λ (some : address c k (Inode n) ≡ 0 → ⊥).
      let lt : 0 < address c k (Inode n) = omega (arith, some) in
      let e : Some (header (block c (address c k (Inode n)))) ≡ Some h =
      sym (st.holds.header n ∙ cond-true (nat_lt 0 (address c k (Inode n))) _ _ (lt-ltb 0 (address c k (Inode n)) lt)) ∙ is in
      let same : header (block c (address c k (Inode n))) ≡ h = cc in
      let one : 1 ≤ (header (block c (address c k (Inode n)))).links =
      links_some n (st.holds.stages.inodes.formed n lt) in
      let links = ap (λ (x : Header). x.links) same in
      omega (arith, one, links))
      (cases_eq (address c k (Inode n)) 0)

  kept_some : {X : Type 0} (n : ℕ) (h : Header) (some none : X) → m.header n ≡ Some h → kept (m.header n) some none ≡ some
  kept_some n h some none is = ap (λ (o : Option Header). kept o some none) is
      ∙ cond-true (nat_lt 0 h.links) some none (lt-ltb 0 h.links (some_links n h is))

  no_data : (n i : ℕ) → m.header n ≡ None → m.block n i ≡ []
  no_data n i none = by (m.block n i) refl
    where
      by : (b : List ℕ) → m.block n i ≡ b → b ≡ []
      by [] is = refl
      by (x ∷ b) is =
          let long = ap length is in
          let there = formed.within n i (omega (arith, long)) in
          let e : None ≡ Some there.0 = sym none ∙ there.1 in
          absurd (cc)

  header_same : (n : ℕ) → m.header n ≡ (dropped m).header n
  header_same n = by (m.header n) refl
    where
      by : (o : Option Header) → m.header n ≡ o → m.header n ≡ (dropped m).header n
      by None is = is ∙ sym (ap (λ (o : Option Header). kept o o None) is)
      by (Some h) is = sym (kept_some n h _ None is)

  block_same : (n i : ℕ) → m.block n i ≡ (dropped m).block n i
  block_same n i = by (m.header n) refl
    where
      by : (o : Option Header) → m.header n ≡ o → m.block n i ≡ (dropped m).block n i
      by None is = no_data n i is ∙ sym (ap (λ (o : Option Header). kept o (m.block n i) []) is)
      by (Some h) is = sym (kept_some n h _ [] is)

  pub all_linked : m ≡ dropped m
  all_linked =
      ap₂ (λ (hs : ℕ → Option Header) (bs : ℕ → ℕ → List ℕ). record { header = hs; block = bs; version = m.version }) (fun_ext header_same)
      (fun_ext (λ n. fun_ext (λ i. block_same n i)))

-- ---- a file without a name goes
not_kept : {X : Type 0} (o : Option Header) (some none : X) → is_unlinked o ≡ true → kept o some none ≡ none
not_kept None some none off = refl
not_kept (Some h) some none off =
    let links : h.links ≡ 0 = eqb-true h.links 0 off in
    cond-false (nat_lt 0 h.links) some none (le-ltb 0 h.links (omega (arith, links)))

-- with a file gone that isn't kept, what is kept is the same
kept_same : {X : Type 0} (b : Bool) (o : Option Header) (x none : X) → (b ≡ true → is_unlinked o ≡ true)
    → kept (cond b None o) (cond b none x) none ≡ kept o x none
kept_same true o x none off = sym (not_kept o x none (off refl))
kept_same false o x none off = refl

pub same_dropped : (m : LogMap) (n : ℕ) → is_nameless m n ≡ true → dropped (without_file n m) ≡ dropped m
same_dropped m n off =
    ap₂ (λ (hs : ℕ → Option Header) (bs : ℕ → ℕ → List ℕ). record { header = hs; block = bs; version = m.version })
    (fun_ext (λ k. kept_same _ _ _ None (gone k))) (fun_ext (λ k. fun_ext (λ i. kept_same _ _ _ [] (gone k))))
  where
    gone : (k : ℕ) → (k == n) ≡ true → is_unlinked (m.header k) ≡ true
    gone k here = ap (λ (l : ℕ). is_unlinked (m.header l)) (eqb-true k n here) ∙ off
