-- A data block is another, comes or goes.
use Rattle.std.proofs.Common.{◌≡◌, ◌<◌, ◌≤◌, ◌↔◌, ⊎_elim, ◌^◌, ℕ, List, [], length, refl, sym, ◌∙◌, ap, ap₂, subst, arith}
use Rattle.lfs_model.specs.Entry.{Entry, Data, Leaf, Double, Inode, Map, Usage}
use Rattle.lfs_model.specs.Content.{Content}
use Rattle.lfs_model.specs.Stands.{LogMap}
use Rattle.lfs_model.specs.Encodes.{HasData, HasInode}
use Rattle.lfs_model.specs.Memory.{Memory, parent, pointer, patched}
use Rattle.lfs_model.specs.Laid.{IsLaid, SpellsBlock}
use Rattle.lfs_model.specs.Lifting.{IsTaken}
use Rattle.lfs_model.specs.Changing.{IsWithBlock, IsInPlace, IsPointed, Rewriting, Adding, Removing}
use Rattle.lfs_model.proofs.Entries.{same_entry, no_data_parent, data_below, file_of_parent}
use Rattle.lfs_model.proofs.Spelling.{SameAt, spells_children}
use Rattle.lfs_model.proofs.BlockMoves.{IsStep, above_long, above_spells, mapped_step, taken_laid}

-- addresses that stay
pub in_place : (M M' : Memory) (x : Entry) → IsInPlace M M' → M.at x ≡ 1 → IsTaken M x 1 M'
in_place M M' x p was = record {
  segments = p.segments;
  least = omega arith;
  at = ap (λ (f : Entry → ℕ). f x) p.at ∙ was;
  others = λ y ne. ap (λ (f : Entry → ℕ). f y) p.at;
  rows = p.rows;
}

-- the inodes that are there stay, with their headers
pub inodes_same : (e : Content) (m m' : LogMap) (M M' : Memory) (o : ℕ) → IsLaid e m M o → ((k : ℕ) → m'.header k ≡ m.header k)
    → ((k : ℕ) → M'.at (Inode k) ≡ M.at (Inode k))
    → (k : ℕ) → HasInode m' k ↔ 0 < M'.at (Inode k)
inodes_same e m m' M M' o laid headers at k =
    let s = at k in (
      λ has. let lt = (laid.inodes k).0 (has.0, sym (headers k) ∙ has.1) in omega arith,
      λ lt. let h = (laid.inodes k).1 (omega arith) in (h.0, headers k ∙ h.1),
    )

module _ (e : Content) (m m' : LogMap) (M : Memory) (o : ℕ) (laid : IsLaid e m M o) (n i : ℕ) (bytes : List ℕ) (M' : Memory)
    (map : IsWithBlock m n i bytes m') where
  same_but_block : (y : Entry) → (y ≡ Data n i → ⊥) → SameAt m m' y
  same_but_block (Data k l) ne = map.others k l ne
  same_but_block (Leaf k q) ne = tt
  same_but_block (Double k) ne = tt
  same_but_block (Inode k) ne = map.header k
  same_but_block (Map j) ne = tt
  same_but_block (Usage j) ne = tt

  not_inode : (k : ℕ) → Inode k ≡ Data n i → ⊥
  not_inode k h = cc

  module _ (v : ℕ) (t : IsTaken M (Data n i) v M') (stored : (0 < length bytes) ↔ (0 < M'.at (Data n i))) where
    blocks_but : (k l : ℕ) → HasData m' k l ↔ 0 < M'.at (Data k l)
    blocks_but k l = ⊎_elim
        (λ (here : Data k l ≡ Data n i).
        let s : k ≡ n = cc in
        let u : l ≡ i = cc in
        let b = ap length (ap₂ m'.block s u ∙ map.own) in
        let a = ap M'.at here in
        let f = stored in
        (λ has. let lt = f.0 (omega arith) in omega arith, λ lt. let has = f.1 (omega arith) in omega arith))
        (λ (away : Data k l ≡ Data n i → ⊥).
        let b = ap length (map.others k l away) in
        let a = t.others (Data k l) away in (
          λ has. let lt = (laid.blocks k l).0 (omega arith) in omega arith,
          λ lt. let has = (laid.blocks k l).1 (omega arith) in
              omega arith,
        ))
        (same_entry (Data k l) (Data n i))

    module _ (kept : (y : Entry) → (y ≡ Data n i → ⊥) → (y ≡ parent (Data n i) → ⊥) → M'.bytes y ≡ M.bytes y)
        (above : M.at (parent (Data n i)) ≡ 1)
        (long_up : length (M'.bytes (parent (Data n i))) ≡ 512)
        (spells_up : SpellsBlock m' M'.at (M'.bytes (parent (Data n i))) (parent (Data n i)))
        (long : 0 < M'.at (Data n i) → length (M'.bytes (Data n i)) ≡ 512) (own : 0 < M'.at (Data n i) → M'.bytes (Data n i) ≡ bytes) where
      step : IsStep m m' M (Data n i) M'
      step = record {
        segments = t.segments;
        of_file = (n, refl);
        others = t.others;
        kept = kept;
        same = same_but_block;
        blocks = blocks_but;
        inodes = inodes_same e m m' M M' o laid map.header (λ k. t.others (Inode k) (not_inode k));
        above = λ ne. above;
        above_long = λ ne. long_up;
        above_spells = λ ne. spells_up;
        lowest = λ y ne here one. absurd (no_data_parent n i y here);
        children = λ y ne here lt. absurd (no_data_parent n i y here);
        low = λ k q h lt. let bad : Data n i ≡ Leaf k q = h in absurd (cc);
        some = λ h le. absurd h;
        long = long;
        spells = λ lt. own lt ∙ sym map.own;
        mapped = mapped_step m m' M M' (Data n i) (n, refl) t.others kept (λ k ne. map.header k)
            (λ k h none. absurd (not_inode k h)) laid.mapped;
      }

      pub changed : IsLaid e m' M' o
      changed = taken_laid e m m' M o laid (Data n i) M' step v t

    -- the block above points to it
    module _ (p : IsPointed M (Data n i) v M') where
      patch : M'.bytes (parent (Data n i)) ≡ patched (pointer (Data n i)) (M'.at (Data n i)) (M.bytes (parent (Data n i)))
      patch = p.patched ∙ ap (λ (v : ℕ). patched (pointer (Data n i)) v (M.bytes (parent (Data n i)))) (sym t.at)

      small : M'.at (Data n i) < 2 ^ 32
      small = let a = t.at in let l = t.least in omega arith

      no_leaf : (k q : ℕ) → Data n i ≡ Leaf k q → q ≤ 128
      no_leaf k q h = absurd (cc)

      pub pointed : (0 < M'.at (Data n i) → length (M'.bytes (Data n i)) ≡ 512) → (0 < M'.at (Data n i) → M'.bytes (Data n i) ≡ bytes)
          → IsLaid e m' M' o
      pointed = changed p.kept p.above
          (above_long e m M o laid (Data n i) M' t.others small no_leaf (data_below n i) p.above patch)
          (above_spells e m M o laid (Data n i) M' t.others small no_leaf (data_below n i) p.above patch m'
          (same_but_block (parent (Data n i)) (data_below n i)))

pub rewriting : Rewriting
rewriting e m M o n i bytes m' M' laid p =
    changed e m m' M o laid n i bytes M' p.map 1 taken (λ lt. let a = taken.at in omega arith, λ lt. let l = p.long in omega arith)
    (λ y ne away. p.kept y ne) above
    (ap length up ∙ laid.long (parent (Data n i)) (n, file_of_parent (Data n i)) (omega arith))
    (subst (λ (b : List ℕ). SpellsBlock m' M'.at b (parent (Data n i))) (sym up)
    (spells_children m m' M.at M'.at (M.bytes (parent (Data n i))) (parent (Data n i))
    (same_but_block e m m' M o laid n i bytes M' p.map (parent (Data n i)) (data_below n i))
    (λ y ne here. ap (λ (f : Entry → ℕ). f y) p.place.at) (laid.spells (parent (Data n i)) (omega arith))))
    (λ lt. ap length p.own ∙ p.long) (λ lt. p.own)
  where
    taken : IsTaken M (Data n i) 1 M'
    taken = in_place M M' (Data n i) p.place p.was

    above : M.at (parent (Data n i)) ≡ 1
    above = laid.up (Data n i) p.was

    up : M'.bytes (parent (Data n i)) ≡ M.bytes (parent (Data n i))
    up = p.kept (parent (Data n i)) (data_below n i)

pub adding : Adding
adding e m M o n i bytes m' M' laid p =
    let a = p.taken.at in
    let l = p.long in
    pointed e m m' M o laid n i bytes M' p.map 1 p.taken (λ lt. omega arith, λ lt. omega arith) p.pointed (λ lt. ap length p.own ∙ p.long)
    (λ lt. p.own)

pub removing : Removing
removing e m M o n i m' M' laid p =
    let a = p.taken.at in
    pointed e m m' M o laid n i [] M' p.map 0 p.taken (λ lt. absurd (omega arith), λ lt. absurd (omega arith)) p.pointed
    (λ lt. absurd (omega arith)) (λ lt. absurd (omega arith))
