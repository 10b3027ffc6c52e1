-- What a block spells, as what stands below it gets other addresses.
use Rattle.std.proofs.Common.{◌≡◌, ◌<◌, ◌≤◌, ⊎_elim, ◌+◌, ◌*◌, ◌-◌, ◌^◌, ◌/◌, ◌%◌, ℕ, zero, suc, Some, List, length, refl, sym, ◌∙◌, ap}
use Rattle.std.proofs.Common.{subst, arith}
use Rattle.std.proofs.lemmas.Bool.{cases_eq, cases_lt}
use Rattle.lfs_model.specs.Entry.{Entry, Data, Leaf, Double, Inode, Map, Usage, word}
use Rattle.lfs_model.specs.Stands.{LogMap}
use Rattle.lfs_model.specs.Memory.{parent, pointer, patched}
use Rattle.lfs_model.specs.Laid.{SpellsBlock, SpellsFile}
use Rattle.lfs_model.proofs.Entries.{data_parent_low, data_pointer_low, data_parent_high, data_pointer_high, leaf_parent, leaf_pointer}
use Rattle.lfs_model.proofs.Entries.{is_inode_child, child_of_inode, child_of_leaf, child_of_double, no_data_parent}
use Rattle.lfs_model.proofs.Patching.{word_at, word_other, header_patched, holds_patched}

-- two log maps say the same of an entry's block
abbrev pub SameAt : LogMap → LogMap → Entry → Type 0
SameAt m m' (Data n i) = m'.block n i ≡ m.block n i
SameAt m m' (Leaf n q) = Unit {0}
SameAt m m' (Double n) = Unit {0}
SameAt m m' (Inode n) = m'.header n ≡ m.header n
SameAt m m' (Map j) = Unit {0}
SameAt m m' (Usage j) = Unit {0}

pub same_at : (m : LogMap) (p : Entry) → SameAt m m p
same_at m (Data n i) = refl
same_at m (Leaf n q) = tt
same_at m (Double n) = tt
same_at m (Inode n) = refl
same_at m (Map j) = tt
same_at m (Usage j) = tt

-- a block is right as long as what stands below it has the same addresses
pub spells_children : (m m' : LogMap) (A B : Entry → ℕ) (b : List ℕ) (p : Entry) → SameAt m m' p
    → ((y : Entry) → (y ≡ p → ⊥) → parent y ≡ p → B y ≡ A y)
    → SpellsBlock m A b p → SpellsBlock m' B b p
spells_children m m' A B b (Data n i) like same is = is ∙ sym like
spells_children m m' A B b (Leaf n q) like same is = λ i low.
    is i low ∙ sym (same (Data n (112 + 128 * q + i)) (λ e. absurd (cc)) (leaf_parent n q i low))
spells_children m m' A B b (Double n) like same is = λ q low. is q low ∙ sym (same (Leaf n (suc q)) (λ e. absurd (cc)) refl)
spells_children m m' A B b (Inode n) like same is = record {
  formed = is.formed;
  header = like ∙ is.header;
  direct = λ i low. is.direct i low ∙ sym (same (Data n i) (λ e. absurd (cc)) (data_parent_low n i low));
  single = is.single ∙ sym (same (Leaf n 0) (λ e. absurd (cc)) refl);
  double = is.double ∙ sym (same (Double n) (λ e. absurd (cc)) refl);
}
spells_children m m' A B b (Map j) like same is = tt
spells_children m m' A B b (Usage j) like same is = tt

-- a block that doesn't point to x stays right while x moves
pub spells_other : (m : LogMap) (A B : Entry → ℕ) (x : Entry) → ((y : Entry) → (y ≡ x → ⊥) → B y ≡ A y) → (b : List ℕ) (p : Entry)
    → (parent x ≡ p → x ≡ p) → SpellsBlock m A b p → SpellsBlock m B b p
spells_other m A B x others b p top =
    spells_children m m A B b p (same_at m p) (λ y ne up. others y (λ e. ne (e ∙ top (ap parent (sym e) ∙ up))))

module _ (A B : Entry → ℕ) (x : Entry) (others : (y : Entry) → (y ≡ x → ⊥) → B y ≡ A y) (b : List ℕ)
    (long : length b ≡ 512) (small : B x < 2 ^ 32) (low : pointer x < 128) where
  -- the word of a child of the patched block
  word_step : (y : Entry) (w : ℕ) → w < 128 → pointer y ≡ w → (pointer y ≡ pointer x → y ≡ x) → word b w ≡ A y
      → word (patched (pointer x) (B x) b) w ≡ B y
  word_step y w lt at one was =
      ⊎_elim
      (λ (here : w ≡ pointer x).
      let e : y ≡ x = one (at ∙ here) in
      ap (word (patched (pointer x) (B x) b)) here ∙ word_at (pointer x) (B x) b long low small ∙ ap B (sym e))
      (λ (away : w ≡ pointer x → ⊥). word_other (pointer x) (B x) b long low w lt away ∙ was
      ∙ sym (others y (λ e. away (sym at ∙ ap pointer e))))
      (cases_eq w (pointer x))

  -- the block above x, patched with x's new address, spells its entry
  pub spells_patched : (m : LogMap) (p : Entry) → parent x ≡ p → (x ≡ p → ⊥) → SpellsBlock m A b p
      → SpellsBlock m B (patched (pointer x) (B x) b) p
  spells_patched m (Data n i) px ne is = absurd (no_data_parent n i x px)
  spells_patched m (Leaf n q) px ne is = λ i lt.
      word_step (Data n (112 + 128 * q + i)) i lt (leaf_pointer n q i lt)
      (λ same. child_of_leaf n q (Data n (112 + 128 * q + i)) x (leaf_parent n q i lt) px same) (is i lt)
  spells_patched m (Double n) px ne is = λ q lt.
      word_step (Leaf n (suc q)) q lt refl (λ same. child_of_double n (Leaf n (suc q)) x refl px same) (is q lt)
  spells_patched m (Inode n) px ne is =
      let range = is_inode_child n x ne px in
      record {
        formed = holds_patched n (pointer x) (B x) b is.formed range.1 range.2 small;
        header = is.header ∙ ap Some (sym (header_patched (pointer x) (B x) b long range.1 range.2));
        direct = λ i lt. word_step (Data n i) (8 + i) (omega arith) (data_pointer_low n i lt)
            (λ same. child_of_inode n (Data n i) x (λ e. absurd (cc)) ne (data_parent_low n i lt) px same) (is.direct i lt);
        single = word_step (Leaf n 0) 120 (omega arith) refl (λ same. child_of_inode n (Leaf n 0) x (λ e. absurd (cc)) ne refl px same)
            is.single;
        double = word_step (Double n) 121 (omega arith) refl (λ same. child_of_inode n (Double n) x (λ e. absurd (cc)) ne refl px same)
            is.double;
      }
  spells_patched m (Map j) px ne is = tt
  spells_patched m (Usage j) px ne is = tt

-- a block that spells its entry has at each pointer the address of what stands below
pub pointer_spelled : (m : LogMap) (A : Entry → ℕ) (b : Entry → List ℕ) (x : Entry) → (parent x ≡ x → ⊥)
    → ((n q : ℕ) → x ≡ Leaf n q → q ≤ 128)
    → SpellsBlock m A (b (parent x)) (parent x) → word (b (parent x)) (pointer x) ≡ A x
pointer_spelled m A b (Data n i) ne low is =
    ⊎_elim
    (λ (l : i < 112).
    let up = data_parent_low n i l in
    let spelt : SpellsFile m A n (b (Inode n)) = subst (λ (p : Entry). SpellsBlock m A (b p) p) up is in
    ap (λ (p : Entry). word (b p) (pointer (Data n i))) up ∙ ap (word (b (Inode n))) (data_pointer_low n i l) ∙ spelt.direct i l)
    (λ (h : 112 ≤ i).
    let up = data_parent_high n i h in
    let q = (i - 112) / 128 in
    let w = (i - 112) % 128 in
    let spelt : (k : ℕ) → k < 128 → word (b (Leaf n ((i - 112) / 128))) k ≡ A (Data n (112 + 128 * ((i - 112) / 128) + k)) =
    subst (λ (p : Entry). SpellsBlock m A (b p) p) up is in
    let e : 112 + 128 * ((i - 112) / 128) + (i - 112) % 128 ≡ i = omega arith in
    ap (λ (p : Entry). word (b p) (pointer (Data n i))) up ∙ ap (word (b (Leaf n ((i - 112) / 128)))) (data_pointer_high n i h)
    ∙ spelt ((i - 112) % 128) (omega arith) ∙ ap (λ (k : ℕ). A (Data n k)) e)
    (cases_lt i 112)
pointer_spelled m A b (Leaf n zero) ne low is = is.single
pointer_spelled m A b (Leaf n (suc q)) ne low is = is q (let l : suc q ≤ 128 = low n (suc q) refl in omega arith)
pointer_spelled m A b (Double n) ne low is = is.double
pointer_spelled m A b (Inode n) ne low is = absurd (ne refl)
pointer_spelled m A b (Map j) ne low is = absurd (ne refl)
pointer_spelled m A b (Usage j) ne low is = absurd (ne refl)
