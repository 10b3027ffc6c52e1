-- The texts of links, by their blocks, and in the tree.
use Rattle.std.specs.Prelude.{min}
use Rattle.std.proofs.Common.{◌≡◌, ◌≢◌, ◌<◌, ◌≤◌, ⊎_elim, ◌+◌, ◌-◌, ◌*◌, ℕ, true, false, Bool, List, get_or, Option, Some, None, refl, sym}
use Rattle.std.proofs.Common.{◌∙◌, ap, arith, slice_index}
use Rattle.std.proofs.lemmas.Bool.{cases_lt}
use Rattle.std.specs.List.{AllByRecursion}
use Rattle.lfs_model.specs.declared.Kind.{Kind}
use Rattle.lfs_model.specs.declared.Kind.TheVariants as kind
use Rattle.lfs_model.specs.Entry as entry
use Rattle.lfs_model.specs.Objects.{byte_in}
use Rattle.lfs_model.specs.Stands.{LogMap}
use Rattle.lfs_model.specs.Tree.{Link, node}
use Rattle.lfs_model.specs.TreeOf.{AreTexts, node_by, node_of, object, tree_in}
use Rattle.lfs_model.proofs.ObjectBytes.{object_byte}
use Rattle.lfs_model.proofs.ObjectNeeds.{block_byte}
use Rattle.lfs_model.proofs.Standing.{node_is, object_length}
use Rattle.lfs_files.specs.declared.header.Header.{Header}
use Rattle.lfs_files.specs.Files.{HoldsBlock}
use Rattle.lfs_files.specs.Headers.{as_header}
use Rattle.lfs_tree.specs.Reading.{TellsHeaders}
use Rattle.lfs_tree.specs.Texts.{Decides, HasNoZero, IsGoodText}
use Rattle.lfs_tree.proofs.ObjectNames.{AreHeaders, all_at, all_from, head_told, node_at}

-- ---- a block more
module _ (m : LogMap) (n : ℕ) {i : ℕ} (size : ℕ) {count : ℕ} {block : List ℕ} (holds : HoldsBlock m n i block) (low : 512 * i < size)
    (is : count ≡ min (size - 512 * i) 512) where
  in_block : (p : ℕ) → 512 * i ≤ p → p < 512 * i + 512 → slice_index block (p - 512 * i) ≡ byte_in m n p
  in_block p le lt =
      holds.bytes (p - 512 * i) ∙ sym (block_byte m n i (p - 512 * i) (omega arith)) ∙ ap (byte_in m n) (omega arith)

  pub texts_go_on : HasNoZero m n (min (512 * i) size) → ((j : ℕ) → j < count → slice_index block j ≢ 0)
      → HasNoZero m n (min (512 * (i + 1)) size)
  texts_go_on was each p lt none = ⊎_elim
      (λ (before : p < 512 * i). was p (omega arith) none)
      (λ (le : 512 * i ≤ p). each (p - 512 * i) (omega arith) (in_block p le (omega arith) ∙ none))
      (cases_lt p (512 * i))

  pub texts_fail : (((j : ℕ) → j < count → slice_index block j ≢ 0) → ⊥) → HasNoZero m n size → ⊥
  texts_fail other all = other (λ j lt none. all (512 * i + j) (omega arith) (cc (block_byte m n i j (omega arith), holds.bytes j)))

-- ---- the stage, and each object by itself
module _ (m : LogMap) (are : AreHeaders m) where
  link_node : (n : ℕ) (h : entry.Header) → m.header n ≡ Some h → h.kind ≡ kind.Link → node (tree_in m) n ≡ Some (Link (object m n h))
  link_node n h at link = node_at m are n ∙ ap (node_of m n) at ∙ ap (λ (k : Kind). Some (node_by m k n h)) link

  pub text_if_stage : AreTexts m → (n : ℕ) → IsGoodText m n
  text_if_stage is n h at link p low none =
      all_at (λ c. c ≢ 0) (object m n h) p 0 (is n (object m n h) (link_node n h at link)) (omega (arith, object_length m n h))
      (object_byte m n h p low ∙ none)

  pub stage_if_text : ((n : ℕ) → n < 4096 → IsGoodText m n) → AreTexts m
  stage_if_text good n text is =
      let at = node_is m n (Link text) is in
      let high = ((are n at.0 at.1).number).1 in
      by at.0 at.1 (omega arith) at.0.kind refl at.2
    where
      by : (h : entry.Header) → m.header n ≡ Some h → n < 4096 → (k : Kind) → h.kind ≡ k → Link text ≡ node_by m h.kind n h
          → AllByRecursion (λ c. c ≢ 0) text
      by h at low kind.File e same = cc
      by h at low kind.Directory e same = cc
      by h at low kind.Link e same =
          let own : text ≡ object m n h = cc in
          let long = object_length m n h in
          rw own (all_from (λ c. c ≢ 0) (object m n h) 0 (λ p lt none.
          let inside : p < h.size = omega arith in
          good n low h at e p inside (sym (object_byte m n h p inside) ∙ none)))

-- ---- one object
module _ (m : LogMap) (headers : List (Option Header)) (told : TellsHeaders m headers 4096) (n : ℕ) (low : n < 4096) where
  module _ (head : Header) (is : get_or headers n None ≡ Some head) where
    own : (h : entry.Header) → m.header n ≡ Some h → as_header head ≡ h
    own h at = cc (head_told m headers told n low is)

    pub text_decided : (r : Bool) → head.kind ≡ kind.Link → Decides (HasNoZero m n head.size) r → Decides (IsGoodText m n) r
    text_decided true link good = λ h at also. rw (← own h at) good
    text_decided false link bad = λ all. bad (all (as_header head) (head_told m headers told n low is) link)

pub decided_true : (P : Type 0) {r : Bool} → r ≡ true → Decides P r → P
decided_true P is = λ d. rw is at d

pub decided_false : (P : Type 0) {r : Bool} → r ≡ false → Decides P r → P → ⊥
decided_false P is = λ d. rw is at d
