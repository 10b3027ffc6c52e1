-- A block of pointers comes empty, or goes when it is.
use Rattle.std.proofs.Common.{◌≡◌, ◌<◌, ◌≤◌, ◌↔◌, ⊎_elim, ◌+◌, ◌*◌, ◌^◌, ℕ, suc, List, length, refl, sym, ◌∙◌, ap, subst, arith}
use Rattle.std.proofs.lemmas.Bool.{cases_eq}
use Rattle.lfs_model.specs.Entry.{Entry, Data, Leaf, Double, Inode, Map, Usage, word}
use Rattle.lfs_model.specs.Content.{Content}
use Rattle.lfs_model.specs.Stands.{LogMap}
use Rattle.lfs_model.specs.Encodes.{HasData}
use Rattle.lfs_model.specs.Memory.{Memory, parent, pointer, patched, IsPointers}
use Rattle.lfs_model.specs.Laid.{IsLaid, SpellsBlock}
use Rattle.lfs_model.specs.Lifting.{IsTaken}
use Rattle.lfs_model.specs.Changing.{IsPointed, Growing, Shrinking}
use Rattle.lfs_model.proofs.Entries.{pointers_below, below_of_file, pointer_low, leaf_parent}
use Rattle.lfs_model.proofs.Spelling.{same_at, pointer_spelled}
use Rattle.lfs_model.proofs.BlockMoves.{IsStep, above_long, above_spells, mapped_step, taken_laid}
use Rattle.lfs_model.proofs.BlockChanges.{inodes_same}

-- an empty block of pointers is right where nothing stands below it
spells_empty : (m : LogMap) (A : Entry → ℕ) (b : List ℕ) (x : Entry) → IsPointers x → ((i : ℕ) → i < 128 → word b i ≡ 0)
    → ((y : Entry) → (y ≡ x → ⊥) → parent y ≡ x → A y ≡ 0) → SpellsBlock m A b x
spells_empty m A b (Data n i) is empty none = absurd is
spells_empty m A b (Leaf n q) is empty none = λ i low. empty i low
    ∙ sym (none (Data n (112 + 128 * q + i)) (λ e. absurd (cc)) (leaf_parent n q i low))
spells_empty m A b (Double n) is empty none = λ q low. empty q low ∙ sym (none (Leaf n (suc q)) (λ e. absurd (cc)) refl)
spells_empty m A b (Inode n) is empty none = absurd is
spells_empty m A b (Map j) is empty none = absurd is
spells_empty m A b (Usage j) is empty none = absurd is

module _ (e : Content) (m : LogMap) (M : Memory) (o : ℕ) (laid : IsLaid e m M o) (x : Entry) (M' : Memory) (is : IsPointers x) (v : ℕ)
    (t : IsTaken M x v M') (p : IsPointed M x v M')
    (low : (n q : ℕ) → x ≡ Leaf n q → q ≤ 128) where
  no_data : (n i : ℕ) → Data n i ≡ x → ⊥
  no_data n i h = subst IsPointers (sym h) is

  no_inode : (n : ℕ) → Inode n ≡ x → ⊥
  no_inode n h = subst IsPointers (sym h) is

  below : parent x ≡ x → ⊥
  below = pointers_below x is

  small : M'.at x < 2 ^ 32
  small = let a = t.at in let l = t.least in omega arith

  patch : M'.bytes (parent x) ≡ patched (pointer x) (M'.at x) (M.bytes (parent x))
  patch = p.patched ∙ ap (λ (v : ℕ). patched (pointer x) v (M.bytes (parent x))) (sym t.at)

  blocks_same : (n i : ℕ) → HasData m n i ↔ 0 < M'.at (Data n i)
  blocks_same n i =
      let s = t.others (Data n i) (no_data n i) in
      (λ has. let lt = (laid.blocks n i).0 has in omega arith, λ lt. (laid.blocks n i).1 (omega arith))

  module _ (children : (y : Entry) → (y ≡ x → ⊥) → parent y ≡ x → 0 < M.at y → 0 < v)
      (long : 0 < v → length (M'.bytes x) ≡ 512) (spells : 0 < v → SpellsBlock m M'.at (M'.bytes x) x) where
    positive : 0 < M'.at x → 0 < v
    positive lt = let a = t.at in omega arith

    step : IsStep m m M x M'
    step = record {
      segments = t.segments;
      of_file = below_of_file x below;
      others = t.others;
      kept = p.kept;
      same = λ y ne. same_at m y;
      blocks = blocks_same;
      inodes = inodes_same e m m M M' o laid (λ k. refl) (λ k. t.others (Inode k) (no_inode k));
      above = λ ne. p.above;
      above_long = λ ne. above_long e m M o laid x M' t.others small low ne p.above patch;
      above_spells = λ ne. above_spells e m M o laid x M' t.others small low ne p.above patch m (same_at m (parent x));
      lowest = λ y ne here one. let lt = children y ne here (omega arith) in let a = t.at in let l = t.least in omega arith;
      children = λ y ne here some. let lt = children y ne here some in let a = t.at in omega arith;
      low = λ n q h lt. low n q h;
      some = λ h le. let a = t.at in let l = t.least in absurd (omega arith);
      long = λ lt. long (positive lt);
      spells = λ lt. spells (positive lt);
      mapped = mapped_step m m M M' x (below_of_file x below) t.others p.kept (λ k ne. refl)
          (λ k h none. absurd (no_inode k h)) laid.mapped;
    }

    pub changed : IsLaid e m M' o
    changed = taken_laid e m m M o laid x M' step v t

pub growing : Growing
growing e m M o x M' laid p =
    changed e m M o laid x M' p.pointers 1 p.taken p.pointed p.low (λ y ne here lt. omega arith) (λ lt. p.long)
    (λ lt. spells_empty m M'.at (M'.bytes x) x p.pointers p.empty (λ y ne here. p.taken.others y ne ∙ none y here))
  where
    none : (y : Entry) → parent y ≡ x → M.at y ≡ 0
    none y here = ⊎_elim
        (λ (z : M.at y ≡ 0). z)
        (λ (some : M.at y ≡ 0 → ⊥). let d = laid.down y (omega arith) in let s = ap M.at here in let w = p.was in absurd (omega arith))
        (cases_eq (M.at y) 0)

pub shrinking : Shrinking
shrinking e m M o x M' laid p =
    changed e m M o laid x M' p.pointers 0 p.taken p.pointed (λ n q h. laid.low n q
    (subst (λ (z : Entry). 0 < M.at z) h (omega (arith, p.was)))) no_child (λ lt. absurd (omega arith)) (λ lt. absurd (omega arith))
  where
    -- what stood below it would have its pointer there
    no_child : (y : Entry) → (y ≡ x → ⊥) → parent y ≡ x → 0 < M.at y → 0 < 0
    no_child y ne here some =
        let low : (n q : ℕ) → y ≡ Leaf n q → q ≤ 128 = λ n q h. laid.low n q (subst (λ (z : Entry). 0 < M.at z) h some) in
        let own : parent y ≡ y → ⊥ = λ top. ne (sym top ∙ here) in
        let above = laid.down y some in
        let spelt = pointer_spelled m M.at M.bytes y own low (laid.spells (parent y) above) in
        let empty : word (M.bytes (parent y)) (pointer y) ≡ 0 = ap (λ (z : Entry). word (M.bytes z) (pointer y)) here
        ∙ p.empty (pointer y) (pointer_low y low) in
        omega arith
