-- Calls that only read, a call that opens a file, and calls that a fault ends, as steps of the model.
use Rattle.lfs_fs.proofs.Prelude.{◌≡◌, ◌+◌, ◌*◌, ℕ, Bool, true, false, ◌&&◌, refl, inl, inr, Answer, Call, Refuse, Room, Space, changes}
use Rattle.lfs_fs.proofs.Prelude.{cleans, commits, is_ok, takes_no_memory, DeviceState, IsLawful, Refusal, Step, TotalsOfTree, IsStill}
use Rattle.lfs_fs.proofs.Prelude.{Mounted, Serves, segments_of, acknowledges, ap, LogMap, State, CheckpointValue, IsIn, Worn, ◌<◌, ◌≤◌, ◌^◌}
use Rattle.lfs_fs.proofs.Prelude.{arith}
use Rattle.lfs_model.specs.Refusal.{NoMemory}
use Rattle.lfs_fs.proofs.calls.AnyDevice.{IsOrdinary, memory_behaves}
use Rattle.lfs_fs.proofs.calls.Steps.{never_worn, refused_not_worn, space_step, not_worn}
use Rattle.lfs_fs.proofs.calls.Drafts.{InEach, not_acknowledged}
use Rattle.lfs_fs.proofs.volume.Map.{headers_of_volume, map_of_volume}
use Rattle.lfs_fs.proofs.calls.Exits.{served_by, served_still}
use Rattle.lfs_model.specs.Run.{WouldBeOk}

-- What holds of each state that the volume may be in, where the device keeps the model to the end.
abbrev Each : {D : Type 0} → (D → DeviceState) → Mounted D → Mounted D → (State → Type 0) → Type 0
Each state old new P = (k : CheckpointValue) (m0 m : LogMap) (s : State) → (state new.log.device).keeps_model → IsIn state old k m0 m s
    → P s

-- ---- faults

module _ {D : Type 0} {state : D → DeviceState} {old new : Mounted D} {call : Call} (lawful : IsLawful (state old.log.device))
    (still : IsStill state old new) (was : old.log.halted ≡ false) where
  -- memory was refused
  pub memory_serves : takes_no_memory call ≡ false → Serves state old new call (Refuse NoMemory)
  memory_serves takes =
      served_by state old new lawful still was (λ e. absurd (cc)) (memory_behaves state old new call still takes)
      (λ p keeps here k m0 m is. inr (NoMemory, refl, takes, refl)) (not_acknowledged call NoMemory)

  -- a refusal of the model's, where nothing has changed
  pub refused_serves : {r : Refusal} → IsOrdinary (Refuse r) → cleans call ≡ false
      → Each state old new (λ s. Step (segments_of old) s call (Refuse r) s) → Serves state old new call (Refuse r)
  refused_serves {r} ordinary unclean steps =
      served_still state call lawful still was ordinary (λ p keeps here k m0 m is. (
      let step = steps k m0 m p.state keeps is in
      inl (step, refused_not_worn (segments_of old) p step unclean))) (not_acknowledged call r)

  -- a change that changes nothing is made below the last number,
  pub done_serves : {a : Answer} → IsOrdinary a → (acknowledges call a ≡ true → ⊥) → old.log.number < 2 ^ 62
      → Each state old new (λ s. Step (segments_of old) s call a s) → Serves state old new call a
  done_serves ordinary none low steps = served_still state call lawful still was ordinary (λ p keeps here k m0 m is.
      inl (steps k m0 m p.state keeps is, not_worn (segments_of old) call p (let n = here.number in omega (arith, n, low)))) none

  -- and none is from there on
  pub worn_serves : changes call ≡ true → 2 ^ 62 ≤ old.log.number → Each state old new (λ s. WouldBeOk (segments_of old) s call)
      → Serves state old new call (Refuse Worn)
  worn_serves change high would = served_still state call lawful still was tt (λ p keeps here k m0 m is.
      inr (Worn, refl, ((let n = here.number in omega (arith, n, high)), inr (change, would k m0 m p.state keeps is)), refl))
      (not_acknowledged call Worn)

  -- an answer of the model's to a call that changes nothing, and commits nothing
  pub told_serves : {a : Answer} → IsOrdinary a → changes call ≡ false → cleans call ≡ false → commits call ≡ false
      → InEach state old (λ m s. Step (segments_of old) s call a s) → Serves state old new call a
  told_serves {a} ordinary leaves unclean free steps = served_still state call {a = a} lawful still was ordinary (λ p keeps here k m0 m is.
      inl (steps k m0 m p.state (still.reads.looks.carries.kept_before keeps) is, never_worn (segments_of old) call p leaves unclean))
      (λ e. let no : acknowledges call a ≡ false = ap (λ (b : Bool). b && is_ok a) free in cc)

-- ---- space

module _ {D : Type 0} (state : D → DeviceState) {old new : Mounted D} (lawful : IsLawful (state old.log.device))
    (still : IsStill state old new) (was : old.log.halted ≡ false) where
  abbrev stored : ℕ
  stored = old.log.totals.data_blocks

  abbrev above : ℕ
  above = old.log.totals.meta_blocks

  pub space_serves : TotalsOfTree
      → Serves state old new Space (Room stored above (stored + 7 * above + 720) (47 * segments_of old))
  space_serves totals = told_serves lawful still was tt refl refl refl (λ k m0 m s keeps is.
      space_step m s (map_of_volume is) totals (headers_of_volume is) above is.counted)
