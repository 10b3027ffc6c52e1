use Rattle.std.proofs.Common.{◌≡◌, ◌<◌, ℕ, get_or, length, drop, ◌||◌, ◌==◌}
use Rattle.std.specs.Prelude.{false}
use Rattle.std.specs.List.{list_any}
use Rattle.lfs_put.proofs.telling.mark_taken.Given as goal

-- a number is marked, or one of the rows that are left gives it, where one of all rows does
abbrev pub invariant-loop-row : goal.invariant-loop-row
invariant-loop-row l = (length l.taken ≡ 4096)
    × ((n : ℕ) → n < 4096 → (get_or l.taken n false || list_any (λ row. row.number == n) (drop l.row-index l.rows))
    ≡ list_any (λ row. row.number == n) l.rows)
