use Rattle.std.proofs.Common.{◌≡◌, ◌<◌, ◌+◌, ℕ, length, get_or, cond, nat_lt}
use Rattle.lfs_format.proofs.image.usage_addresses.Given as goal

abbrev pub invariant-loop-index : goal.invariant-loop-index
invariant-loop-index l = record {
  count : length l.usage ≡ 16;
  each : (k : ℕ) → k < 16 → get_or l.usage k 0 ≡ cond (nat_lt k l.index) (5 + k) 0;
}
