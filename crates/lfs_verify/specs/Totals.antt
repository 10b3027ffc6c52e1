-- What the marks say of how many blocks files have.
-- All of it is an own choice.
use Rattle.std.specs.Prelude.{ℕ, Bool, List, get_or, nat_lt}
use Rattle.lfs_model.specs.Checkpoint.{CheckpointValue}
use Rattle.lfs_model.specs.Content.{Content}
use Rattle.lfs_model.specs.Decodes.{IsSized}
use Rattle.lfs_model.specs.Reach.{view}
use Rattle.lfs_model.specs.Stands.{LogMap, HoldsAt, count_up}
use Rattle.lfs_model.specs.Totals.{IsCounted}
use Rattle.lfs_verify.specs.Walk.{Walked}
use Rattle.lfs_verify.specs.declared.order.TheConstants.{ALL_STEPS}

abbrev pub is_above : List ℕ → ℕ → ℕ → Bool
is_above marks mark a = nat_lt mark (get_or marks a 0)

-- how many of the first n sectors have a mark above this one
unfoldable pub above_count : List ℕ → ℕ → ℕ → ℕ
above_count marks mark n = count_up (is_above marks mark) n

-- These are the totals of a log map that a content holds, after a whole walk over it.
abbrev pub CountsByMarks : List ℕ → ℕ → ℕ → Type 0
CountsByMarks marks blocks others = (c : Content) (k : CheckpointValue) → IsSized c → (m : LogMap) → HoldsAt c k m
    → Walked (view c k) marks ALL_STEPS → IsCounted m blocks others

-- These are the totals of the log map that a content holds by a checkpoint.
abbrev pub CountsLog : Content → CheckpointValue → ℕ → ℕ → Type 0
CountsLog c k blocks others = (m : LogMap) → HoldsAt c k m → IsCounted m blocks others
