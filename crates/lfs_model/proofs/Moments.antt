-- How a run of device calls goes on.
use Rattle.std.proofs.Common.{◌≢◌, inl, inr, ⊎_elim, ℕ, ◌+◌, ◌<◌, ◌≤◌, Some, None, List, [], refl, sym, ◌∙◌, ap, subst, arith, length-set}
use Rattle.std.proofs.Common.{get_or-set_other}
use Rattle.std.specs.Prelude.{◌≡◌, ◌∷◌, length, slice_set}
use Rattle.lfs_model.specs.Device.{Cell, DeviceState, put, lose, MayWrite, left_old, left_new, left_bad, AllLeft, Carries, Elapses}
use Rattle.lfs_model.specs.Device.{IsUntouched, CrashWrites, IsLawful, LeavesOnly, ComesFrom, SameOutside, IsBeginning, Grows}
use Rattle.lfs_model.specs.declared.Order.{Order}

abbrev Set : Type 1
Set = List Cell → Type 0

begins_later : (first : List Order) (order : Order) (told : List Order) → IsBeginning first told → IsBeginning first (order ∷ told)
unfolding IsBeginning
begins_later first order told begins = inr begins

pub grows_none : (old new : List Order) → new ≡ old → Grows old new
grows_none old new is first begins = subst (λ (l : List Order). IsBeginning first l) (sym is) begins

pub grows_one : (order : Order) (old new : List Order) → new ≡ order ∷ old → Grows old new
grows_one order old new is first begins = subst (λ (l : List Order). IsBeginning first l) (sym is) (begins_later first order old begins)

-- what was told is a beginning of itself
begins_itself : (told : List Order) → IsBeginning told told
unfolding IsBeginning
begins_itself [] = refl
begins_itself (order ∷ told) = inl refl

begins_shorter : (first told : List Order) → IsBeginning first told → length first ≤ length told
unfolding IsBeginning
begins_shorter first [] begins = let same = ap (λ (l : List Order). length l) begins in omega (arith, same)
begins_shorter first (order ∷ told) (inl same) = let long = ap (λ (l : List Order). length l) same in omega (arith, long)
begins_shorter first (order ∷ told) (inr begins) = let low = begins_shorter first told begins in omega (arith, low)

pub grows_longer : (old new : List Order) → Grows old new → length old ≤ length new
grows_longer old new grows = begins_shorter old new (grows old (begins_itself old))

pub carries_none : {d : DeviceState} → Carries d d
carries_none = record {
  size = refl;
  kept_before = λ k. k;
  unit = refl;
  failures = omega arith;
  failed_orders = omega arith;
  failed_reads = omega arith;
  later = omega arith;
  remembers = λ t c le left. left;
  kept_as = λ u le. (λ kept. kept, λ kept. kept);
  left_as = λ t u c le. (λ left. left, λ left. left);
  start = refl;
  told = λ first begins. begins;
  bears = λ n bears. bears;
  borne = λ n bears few. refl;
}

pub carries_then : {a b c : DeviceState} → Carries a b → Carries b c → Carries a c
carries_then one two = record {
  size = two.size ∙ one.size;
  kept_before = λ k. one.kept_before (two.kept_before k);
  unit = two.unit ∙ one.unit;
  failures = omega (arith, one.failures, two.failures);
  failed_orders = omega (arith, one.failed_orders, two.failed_orders);
  failed_reads = omega (arith, one.failed_reads, two.failed_reads);
  later = omega (arith, one.later, two.later);
  remembers = λ t x le left. two.remembers t x (omega (arith, le, one.later)) (one.remembers t x le left);
  kept_as = λ u le.
      let first = one.kept_as u le in
      let second = two.kept_as u (omega (arith, le, one.later)) in
      (λ kept. first.0 (second.0 kept), λ kept. second.1 (first.1 kept));
  left_as = λ t u x le.
      let first = one.left_as t u x le in
      let second = two.left_as t u x (omega (arith, le, one.later)) in
      (λ left. first.0 (second.0 left), λ left. second.1 (first.1 left));
  start = two.start ∙ one.start;
  told = λ first begins. two.told first (one.told first begins);
  bears = λ n bears. two.bears n (one.bears n bears);
  borne = λ n bears few. two.borne n (one.bears n bears) few
      ∙ one.borne n bears (let longer = grows_longer _ _ two.told in omega (arith, few, longer));
}

-- where no call fails, no order does
pub same_orders : {old new : DeviceState} → Carries old new → new.failures ≡ old.failures → new.failed_orders ≡ old.failed_orders
same_orders carries same = let more = carries.failed_orders in let reads = carries.failed_reads in omega (arith, more, reads, same)

-- before the first call
pub started : {d : DeviceState} (P : Set) → IsLawful d → AllLeft d P → LeavesOnly d d P
started P lawful here = record {
  later = omega arith;
  each = λ c left. here c (lawful.only_now c left);
  before = λ t c le left. inl left;
}

-- one call more, after which a stop leaves what has P
pub goes_on : {old mid new : DeviceState} (P : Set) → LeavesOnly old mid P → Carries mid new → Elapses mid new → AllLeft new P
    → LeavesOnly old new P
goes_on {old} P so_far carries time here = record {
  later = omega (arith, so_far.later, carries.later);
  each = λ c left. ⊎_elim (so_far.each c) (here c) (time old.moment c so_far.later left);
  before = λ t c le left. ⊎_elim (so_far.before t c le) (λ now. inr (here c now)) (time t c (omega (arith, le, so_far.later)) left);
}

-- two runs, one after the other
pub joined : {a b c : DeviceState} (P Q R : Set) → LeavesOnly a b P → LeavesOnly b c Q → ((x : List Cell) → P x → R x)
    → ((x : List Cell) → Q x → R x) → LeavesOnly a c R
joined {a} P Q R one two p q = record {
  later = omega (arith, one.later, two.later);
  each = λ x left. ⊎_elim (λ was. p x (one.each x was)) (q x) (two.before a.moment x one.later left);
  before = λ t x le left. ⊎_elim (λ was. ⊎_elim (λ first. inl first) (λ mid. inr (p x mid)) (one.before t x le was)) (λ now. inr (q x now))
      (two.before t x (omega (arith, le, one.later)) left);
}

pub weaker : {old new : DeviceState} (P Q : Set) → ((x : List Cell) → P x → Q x) → LeavesOnly old new P → LeavesOnly old new Q
weaker P Q to leaves = record {
  later = leaves.later;
  each = λ x left. to x (leaves.each x left);
  before = λ t x le left. ⊎_elim (λ was. inl was) (λ has. inr (to x has)) (leaves.before t x le left);
}

-- A run of calls: a stop at any moment since its start leaves what has P, and so does a stop now.
pub record Run (old new : DeviceState) (P : Set) : Type 0 where
  pub carries : Carries old new
  pub leaves : LeavesOnly old new P
  pub now : AllLeft new P

pub run_none : (d : DeviceState) (P : Set) → IsLawful d → AllLeft d P → Run d d P
run_none d P lawful here = record { carries = carries_none; leaves = started P lawful here; now = here }

pub run_call : (old mid new : DeviceState) (P : Set) → Run old mid P → Carries mid new → Elapses mid new → AllLeft new P → Run old new P
run_call old mid new P run carries time here = record {
  carries = carries_then run.carries carries;
  leaves = goes_on P run.leaves carries time here;
  now = here;
}

-- a read or a sync
pub run_untouched : (old mid new : DeviceState) (P : Set) → Run old mid P → IsUntouched mid new → Carries mid new → Elapses mid new
    → Run old new P
run_untouched old mid new P run same carries time = run_call old mid new P run carries time (λ c left. run.now c (same.crash c left))

-- what a write makes of what a stop may leave
pub all_left_write : (old new : DeviceState) (P Q : Set) (sector : ℕ) (bytes : List ℕ) → AllLeft old P → CrashWrites sector bytes old new
    → ((d c : List Cell) → P d → MayWrite sector bytes d c → Q c) → AllLeft new Q
all_left_write old new P Q sector bytes before crash goes c left = let from = crash c left in goes from.0 c (before from.0 from.1) from.2

-- P stays true where these bytes come into the sector, and where it becomes unreadable
pub record Survives (sector : ℕ) (bytes : List ℕ) (P : Set) : Type 0 where
  pub written : (c : List Cell) → P c → P (put c sector bytes)
  pub lost : (c : List Cell) → P c → P (lose c sector)

pub survives : (sector : ℕ) (bytes : List ℕ) (P : Set) → Survives sector bytes P → (d c : List Cell) → P d → MayWrite sector bytes d c → P c
survives sector bytes P s d c has (left_old is) = subst P (sym is) has
survives sector bytes P s d c has (left_new is) = subst P (sym is) (s.written d has)
survives sector bytes P s d c has (left_bad is) = subst P (sym is) (s.lost d has)

-- a write that P survives
pub run_write : (old mid new : DeviceState) (P : Set) (sector : ℕ) (bytes : List ℕ) → Run old mid P → Survives sector bytes P
    → CrashWrites sector bytes mid new → Carries mid new → Elapses mid new → Run old new P
run_write old mid new P sector bytes run s crash carries time =
    run_call old mid new P run carries time (all_left_write mid new P P sector bytes run.now crash (survives sector bytes P s))

pub run_from_write : (old mid new : DeviceState) (R : List Cell → List Cell → Type 0) (sector : ℕ) (bytes : List ℕ)
    → Run old mid (ComesFrom old R)
    → ((d c e : List Cell) → R d c → MayWrite sector bytes c e → R d e) → CrashWrites sector bytes mid new → Carries mid new
    → Elapses mid new → Run old new (ComesFrom old R)
run_from_write old mid new R sector bytes run goes crash carries time =
    run_call old mid new (ComesFrom old R) run carries time
    (all_left_write mid new (ComesFrom old R) (ComesFrom old R) sector bytes run.now crash
    (λ c e from write. (from.0, from.1, goes from.0 c e from.2 write)))

-- a write inside the range
pub same_outside_none : (first n : ℕ) (c : List Cell) → SameOutside first n c c
same_outside_none first n c = record { size = refl; before = λ k le. refl; after = λ k le. refl }

set_outside : (first n s : ℕ) (d c : List Cell) (x : Cell) → first ≤ s → s < first + n → SameOutside first n d c
    → SameOutside first n d (slice_set c s x)
set_outside first n s d c x low high same = record {
  size = length-set c s x ∙ same.size;
  before = λ k lt. let other : k ≢ s = omega arith in get_or-set_other c s k x None other ∙ same.before k lt;
  after = λ k le. let other : k ≢ s = omega arith in get_or-set_other c s k x None other ∙ same.after k le;
}

pub write_outside : (first n s : ℕ) (bytes : List ℕ) → first ≤ s → s < first + n → (d c e : List Cell) → SameOutside first n d c
    → MayWrite s bytes c e → SameOutside first n d e
write_outside first n s bytes low high d c e same (left_old is) = subst (SameOutside first n d) (sym is) same
write_outside first n s bytes low high d c e same (left_new is) =
    subst (SameOutside first n d) (sym is) (set_outside first n s d c (Some bytes) low high same)
write_outside first n s bytes low high d c e same (left_bad is) =
    subst (SameOutside first n d) (sym is) (set_outside first n s d c None low high same)
