-- A stop of a memory device whose units are sectors.
use Rattle.std.proofs.Common.{◌≡◌, inl, inr, ℕ, zero, suc, None, List, [], ◌∷◌, length, drop, Bool, true, false}
use Rattle.std.proofs.Common.{refl, sym, ◌∙◌, subst, arith}
use Rattle.std.specs.Prelude.{IsSome, is_none, if◌then◌else◌}
use Rattle.std.proofs.lemmas.Bool.{false≢true}
use Rattle.std.proofs.lemmas.List.{ext_get_or}
use Rattle.lfs_model.specs.Device.{AreSectors}
use Rattle.lfs_device.specs.declared.rows.Row.{Row}
use Rattle.lfs_device.specs.declared.rows.Left.{Left}
use Rattle.lfs_device.specs.declared.rows.Left.TheVariants.{Old, New, Bad}
use Rattle.lfs_device.specs.Rows.{AreSpoilt, chosen, chosen_row, chosen_rows, first_or, row_at, stands_at, stopped}
use Rattle.lfs_device.proofs.Spoiling.{length_either, length-chosen_rows, was_it_written}

-- what becomes of a sector that is still unsynced once all is chosen, and of another
data BySector (mid new : Row) : Type 0 where
  as_chosen : (IsSome mid.written → ⊥) → new ≡ mid → BySector mid new
  as_bad : IsSome mid.written → new ≡ stands_at None → BySector mid new

by_choice : (choice : Left) (row : Row) → IsSome row.written → BySector (chosen_row choice row) (stands_at (chosen choice row))
by_choice Old row some = as_chosen false≢true refl
by_choice New row some = as_chosen false≢true refl
by_choice Bad row some = as_bad some refl

-- the same test decides both
abbrev first_of : Bool → Row → Row → List Row → List Row → List Row
first_of b x y xs ys = if b then x ∷ xs else y ∷ ys

at_first : (row : Row) (choice : Left) (xs ys xs' ys' : List Row)
    → BySector (row_at (first_of (is_none row.written) (stands_at row.present) (chosen_row choice row) xs ys) 0)
    (row_at (first_of (is_none row.written) (stands_at row.present) (stands_at (chosen choice row)) xs' ys') 0)
at_first row choice xs ys xs' ys' = elim (was_it_written row.written) [
  | inl none ↦ subst motive (sym none) (as_chosen false≢true refl)
  | inr some ↦ subst motive (sym some.0) (by_choice choice row some.1)
]
  where
    motive : Bool → Type 0
    motive b = BySector (row_at (first_of b (stands_at row.present) (chosen_row choice row) xs ys) 0)
        (row_at (first_of b (stands_at row.present) (stands_at (chosen choice row)) xs' ys') 0)

at_rest : (b : Bool) (x y x' y' : Row) (xs ys xs' ys' : List Row) (k : ℕ) → BySector (row_at xs k) (row_at xs' k)
    → BySector (row_at ys k) (row_at ys' k)
    → BySector (row_at (first_of b x y xs ys) (suc k)) (row_at (first_of b x' y' xs' ys') (suc k))
at_rest true x y x' y' xs ys xs' ys' k one two = one
at_rest false x y x' y' xs ys xs' ys' k one two = two

by_sector_at : (choices : List Left) (rest : Left) (rows : List Row) (k : ℕ)
    → BySector (row_at (chosen_rows choices rest rows) k) (row_at (stopped choices rest rows) k)
by_sector_at choices rest [] k = as_chosen false≢true refl
by_sector_at choices rest (row ∷ rows) zero = at_first row (first_or rest choices) _ _ _ _
by_sector_at choices rest (row ∷ rows) (suc k) =
    at_rest (is_none row.written) _ _ _ _ _ _ _ _ k (by_sector_at choices rest rows k) (by_sector_at (drop 1 choices) rest rows k)

length-stopped : (choices : List Left) (rest : Left) (rows : List Row) → length (stopped choices rest rows) ≡ length rows
length-stopped choices rest [] = refl
length-stopped choices rest (row ∷ rows) =
    length_either (is_none row.written) _ _ _ _ (length-stopped choices rest rows) (length-stopped (drop 1 choices) rest rows) ∙ omega arith

pub stopped_of_sectors : (unit : ℕ → ℕ) (choices : List Left) (rest : Left) (old new : List Row) → AreSectors unit
    → AreSpoilt unit (chosen_rows choices rest old) new → new ≡ stopped choices rest old
stopped_of_sectors unit choices rest old new sectors are =
    ext_get_or (stands_at None) new (stopped choices rest old)
    (are.size ∙ length-chosen_rows choices rest old ∙ sym (length-stopped choices rest old))
    (λ k inside. elim (are.each k) [
      | inl (touched, lost) ↦ elim (by_sector_at choices rest old k) [
        | as_chosen synced same ↦ absurd (synced (subst (λ (j : ℕ). IsSome (row_at (chosen_rows choices rest old) j).written)
            (sectors touched.0 k touched.1) touched.2))
        | as_bad unsynced bad ↦ lost ∙ sym bad
      ]
      | inr (alone, kept) ↦ elim (by_sector_at choices rest old k) [
        | as_chosen synced same ↦ kept ∙ sym same
        | as_bad unsynced bad ↦ absurd (alone (k, refl, unsynced))
      ]
    ])
