use Rattle.std.proofs.Common.{◌≡◌, ◌<◌, ℕ, true, get_or}
use Rattle.std.specs.Prelude.{false}
use Rattle.lfs_put.proofs.telling.has_free.Given as goal

-- the numbers so far are taken
abbrev pub invariant-loop-number : goal.invariant-loop-number
invariant-loop-number l = (n : ℕ) → n < l.number → 1 < n → get_or l.taken n false ≡ true
