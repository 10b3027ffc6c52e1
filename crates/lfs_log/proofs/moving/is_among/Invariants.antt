use Rattle.std.proofs.Common.{◌≡◌, ◌<◌, ℕ, get_or}
use Rattle.lfs_log.proofs.moving.is_among.Given as goal

abbrev pub invariant-loop-victim : goal.invariant-loop-victim
invariant-loop-victim l = (i : ℕ) → i < l.victim-index → get_or l.victims i 0 ≡ l.segment → ⊥
