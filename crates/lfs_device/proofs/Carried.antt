-- A call that is noted carries a device on.
use Rattle.std.proofs.Common.{◌≡◌, ◌⊎◌, inl, inr, ℕ, ◌+◌, ◌≤◌, List, ◌∷◌, length, refl, sym, subst, arith}
use Rattle.lfs_model.specs.Device.{Cell, Carries, Grows, MayWriteUnit, left_old}
use Rattle.lfs_model.specs.declared.Order.{Order}
use Rattle.lfs_model.proofs.Moments.{grows_none, grows_one}
use Rattle.lfs_device.specs.Fate.{Fate}
use Rattle.lfs_device.specs.Bench.{HasNoFault}
use Rattle.lfs_model.proofs.Pasts.{holds_before, until_before}
use Rattle.lfs_device.specs.File.{AreAnswers, MayLeave, answered, content_after, failed_orders_in, failures_in}
use Rattle.lfs_device.specs.File.{orders_in, file_state}
use Rattle.lfs_model.proofs.UnitWrites.{to_unit}
use Rattle.lfs_device.specs.declared.bench.Bench.{Bench}
use Rattle.lfs_device.specs.Memory.{memory_state}
use Rattle.lfs_device.specs.Rows.{CanLeave, LeftBetween, LeftIn, PassedThrough, count}
use Rattle.lfs_device.specs.declared.rows.Row.{Row}
use Rattle.lfs_device.specs.declared.rows.Count.{Count}
use Rattle.lfs_device.specs.History.{Call, Given, Written, Refused, Synced, FailedRead, FailedSync}

-- a file
failed_before : (call : Call) (calls : List Call) → failures_in calls ≤ failures_in (call ∷ calls)
failed_before (Given sector bytes) calls = omega arith
failed_before (Written sector bytes) calls = omega arith
failed_before (Refused sector bytes) calls = omega arith
failed_before Synced calls = omega arith
failed_before FailedRead calls = omega arith
failed_before FailedSync calls = omega arith

orders_before : (call : Call) (calls : List Call) → failed_orders_in calls ≤ failed_orders_in (call ∷ calls)
orders_before (Given sector bytes) calls = omega arith
orders_before (Written sector bytes) calls = omega arith
orders_before (Refused sector bytes) calls = omega arith
orders_before Synced calls = omega arith
orders_before FailedRead calls = omega arith
orders_before FailedSync calls = omega arith

reads_before : (call : Call) (calls : List Call)
    → failures_in calls + failed_orders_in (call ∷ calls) ≤ failures_in (call ∷ calls) + failed_orders_in calls
reads_before (Given sector bytes) calls = omega arith
reads_before (Written sector bytes) calls = omega arith
reads_before (Refused sector bytes) calls = omega arith
reads_before Synced calls = omega arith
reads_before FailedRead calls = omega arith
reads_before FailedSync calls = omega arith

told_before : (call : Call) (calls : List Call) → Grows (orders_in calls) (orders_in (call ∷ calls))
told_before (Given sector bytes) calls = grows_none _ _ refl
told_before (Written sector bytes) calls = grows_one _ _ _ refl
told_before (Refused sector bytes) calls = grows_none _ _ refl
told_before Synced calls = grows_one _ _ _ refl
told_before FailedRead calls = grows_none _ _ refl
told_before FailedSync calls = grows_none _ _ refl

one_call : {n : ℕ} (fate : Fate n) (call : Call) (calls : List Call) → Carries (file_state n fate calls) (file_state n fate (call ∷ calls))
one_call fate call calls = record {
  size = refl;
  kept_before = answered fate call calls;
  unit = refl;
  failures = failed_before call calls;
  failed_orders = orders_before call calls;
  failed_reads = reads_before call calls;
  later = omega arith;
  remembers = λ t c le left. inr left;
  kept_as = λ u le. holds_before (AreAnswers fate) (answered fate) call calls u le;
  left_as = λ t u c le. until_before (MayLeave fate) call calls t u c le;
  start = refl;
  told = told_before call calls;
  bears = λ n bears. bears;
  borne = λ n bears few. absurd bears;
}

pub call_carries : {n : ℕ} (fate : Fate n) (call : Call) (old : List Call) {new : List Call} → new ≡ call ∷ old
    → Carries (file_state n fate old) (file_state n fate new)
call_carries {n} fate call old is =
    subst (λ (calls : List Call). Carries (file_state n fate old) (file_state n fate calls)) (sym is) (one_call fate call old)

pub refused_may : {n : ℕ} (fate : Fate n) (sector : ℕ) (bytes : List ℕ) (old : List Call) {new : List Call}
    → new ≡ Refused sector bytes ∷ old → MayWriteUnit fate.unit sector bytes (content_after fate old) (content_after fate new)
refused_may fate sector bytes old is =
    subst (λ (calls : List Call). MayWriteUnit fate.unit sector bytes (content_after fate old) (content_after fate calls)) (sym is)
    (to_unit fate.unit sector bytes _ _ (left_old refl))

-- a memory device: what a call makes of the counts of failures
pub record Counts (failed failed' orders orders' : Count) (bench : Bench) : Type 0 where
  pub more : count failed ≤ count failed'
  pub more_orders : count orders ≤ count orders'
  pub more_reads : count failed + count orders' ≤ count failed' + count orders
  pub none : HasNoFault bench → count failed' ≡ count failed

pub counts_same : {failed orders : Count} {bench : Bench} → Counts failed failed orders orders bench
counts_same = record { more = omega arith; more_orders = omega arith; more_reads = omega arith; none = λ no_fault. refl }

-- a call that fails: one that isn't to fail doesn't
pub counts_order : {failed failed' orders orders' : Count} {bench : Bench} → count failed' ≡ count failed + 1
    → count orders' ≡ count orders + 1 → (HasNoFault bench → ⊥) → Counts failed failed' orders orders' bench
counts_order one two fails = record {
  more = omega (arith, one);
  more_orders = omega (arith, two);
  more_reads = omega (arith, one, two);
  none = λ no_fault. absurd (fails no_fault);
}

passed : (unit : ℕ → ℕ) (rows rows' : List Row) (past : List (List Row)) (t : ℕ) (c : List Cell) → t ≤ length past
    → CanLeave unit rows (PassedThrough unit past) c ⊎ LeftIn unit past t c
    → CanLeave unit rows' (PassedThrough unit (rows ∷ past)) c ⊎ LeftIn unit (rows ∷ past) t c
passed unit rows rows' past t c le (inl now) = inr (inl (le, now))
passed unit rows rows' past t c le (inr was) = inr (inr was)

-- of a new state nothing is known up to an earlier one
between_before : (unit : ℕ → ℕ) (rows rows' : List Row) (past : List (List Row)) (t u : ℕ) (c : List Cell) → u ≤ length past
    → LeftBetween unit (rows' ∷ rows ∷ past) t u c → LeftBetween unit (rows ∷ past) t u c
between_before unit rows rows' past t u c le (inl late) = absurd (let low = late.1 in omega (arith, low, le))
between_before unit rows rows' past t u c le (inr there) = there

pub change_carries : (unit : ℕ → ℕ) (rows rows' : List Row) (past : List (List Row)) {past' : List (List Row)}
    (failed failed' orders orders' : Count) (told told' : List Order) {bench bench' : Bench}
    → length rows' ≡ length rows → past' ≡ rows ∷ past → Counts failed failed' orders orders' bench → (HasNoFault bench → HasNoFault bench')
    → Grows told told'
    → Carries (memory_state unit rows past failed orders told bench) (memory_state unit rows' past' failed' orders' told' bench')
change_carries unit rows rows' past failed failed' orders orders' told told' {bench} {bench'} size is counts faultless grows =
    subst (λ (p : List (List Row)). Carries (memory_state unit rows past failed orders told bench)
    (memory_state unit rows' p failed' orders' told' bench')) (sym is)
    (record {
      size = size;
      kept_before = λ k. k;
      unit = refl;
      failures = counts.more;
      failed_orders = counts.more_orders;
      failed_reads = counts.more_reads;
      later = omega arith;
      remembers = passed unit rows rows' past;
      kept_as = λ u le. (λ kept. kept, λ kept. kept);
      left_as = λ t u c le. (between_before unit rows rows' past t u c le, λ left. inr left);
      start = refl;
      told = grows;
      bears = λ n no_fault. faultless no_fault;
      borne = λ n no_fault few. counts.none no_fault;
    })
