use Rattle.std.proofs.Common.{◌≡◌, drop}
use Rattle.std.specs.Prelude.{nat_lt}
use Rattle.std.specs.List.{list_any}
use Rattle.lfs_path.proofs.text.has_zero.Given as goal

-- a zero is to be found among the bytes that are left
abbrev pub invariant-loop-c : goal.invariant-loop-c
invariant-loop-c l = list_any (λ c. nat_lt c 1) (drop l.c-index l.path) ≡ list_any (λ c. nat_lt c 1) l.path
