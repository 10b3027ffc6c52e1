-- What a call that begins makes of its end, and ends after which nothing has changed.
use Rattle.lfs_fs.proofs.Prelude.{◌≡◌, ◌<◌, ◌+◌, ◌*◌, ℕ, Bool, true, false, ◌&&◌, refl, sym, ◌∙◌, ap, subst, inl, inr, arith, Answer, Call}
use Rattle.lfs_fs.proofs.Prelude.{FormatVersion, Refuse, Space, Version, changes, cleans, commits, is_ok, never_for_device}
use Rattle.lfs_fs.proofs.Prelude.{CheckpointValue, DeviceState, IsLawful, Device, LogMap, Step, State, totals_of_tree, drafted_of}
use Rattle.lfs_fs.proofs.Prelude.{reads_none, FsError, Fs, refusal_of, Begins, seen, IsIn, IsStill, Mounted, Serves, segments_of}
use Rattle.lfs_fs.specs.declared.error.FsError.TheVariants as error
use Rattle.lfs_fs.specs.declared.rows.Space as space
use Rattle.lfs_fs.specs.Answers.{room_of}
use Rattle.lfs_fs.proofs.calls.AnyDevice.{IsOrdinary}
use Rattle.lfs_fs.proofs.calls.Steps.{never_worn}
use Rattle.lfs_fs.proofs.calls.Drafts.{not_acknowledged}
use Rattle.lfs_fs.proofs.volume.Map.{version_of_volume}
use Rattle.lfs_fs.proofs.paths.Steps.{version_done}
use Rattle.lfs_fs.proofs.calls.Exits.{served_halted, served_still}
use Rattle.lfs_fs.proofs.calls.Reads.{space_serves, told_serves}

module _ {D : Type 0} (state : D → DeviceState) where
  -- a volume is still where nothing is read
  pub still_none : (v : Mounted D) → IsStill state v v
  still_none v = record { reads = reads_none state v.log; table = refl }

  -- a call of a halted volume doesn't begin
  pub halted_serves : {old new : Fs D} (call : Call) {fault : FsError} → IsLawful (state (seen old).log.device) → new ≡ old
      → (seen old).log.halted ≡ true → fault ≡ error.Halted
      → Serves state (seen old) (seen new) call (Refuse (refusal_of fault))
  halted_serves {old} {new} call lawful same halted is =
      rw is (rw same (served_halted state (seen old) call lawful halted))

  -- one that began does what it does then
  pub begun_serves : {old mid : Fs D} {new : Mounted D} {call : Call} {a : Answer} → Begins old mid → Serves state (seen mid) new call a
      → Serves state (seen old) new call a
  begun_serves {new} {call} {a} begun = subst (λ (v : Mounted D). Serves state v new call a) begun.same

  -- then it isn't halted
  pub begun_running : {old mid : Fs D} → Begins old mid → (seen mid).log.halted ≡ false
  begun_running begun = ap (λ (v : Mounted D). v.log.halted) begun.same ∙ begun.running

  pub begun_space : {old mid : Fs D} → IsLawful (state (seen mid).log.device) → Begins old mid → (r : space.Space)
      → r.data_blocks ≡ (drafted_of mid.store).data_blocks → r.meta_blocks ≡ (drafted_of mid.store).meta_blocks
      → r.need ≡ (drafted_of mid.store).data_blocks + 7 * (drafted_of mid.store).meta_blocks + 720
      → r.limit ≡ 47 * (seen mid).log.segments → Serves state (seen old) (seen mid) Space (room_of r)
  begun_space {old} {mid} lawful begun r stored above need limit = begun_serves begun
      (rw (stored, above, need, limit, begun.drafted)
      (space_serves state lawful (still_none (seen mid)) (begun_running begun) totals_of_tree))

  pub begun_version : {old mid : Fs D} → IsLawful (state (seen mid).log.device) → Begins old mid → {version : ℕ}
      → version ≡ (seen mid).log.version → Serves state (seen old) (seen mid) Version (FormatVersion version)
  begun_version {old} {mid} lawful begun {version} told = begun_serves begun
      (told_serves {call = Version} lawful (still_none (seen mid)) (begun_running begun)
      {a = FormatVersion version} tt refl refl refl (λ k m0 m s keeps is.
      rw (← version_of_volume is ∙ sym told) (version_done (segments_of (seen mid)) s)))

-- ---- ends after which nothing has changed

module _ {D : Type 0} {state : D → DeviceState} (old : Mounted D) {new : Mounted D} (call : Call) (lawful : IsLawful (state old.log.device))
    (still : IsStill state old new) (was : old.log.halted ≡ false) where
  -- What holds of each state that the volume may be in, where its device keeps the model up to the end.
  abbrev pub AfterEach : (LogMap → State → Type 0) → Type 0
  AfterEach P = (k : CheckpointValue) (m0 m : LogMap) (s : State) → (state new.log.device).keeps_model → IsIn state old k m0 m s → P m s

  -- a step of a call that changes nothing
  pub step_serves : (a : Answer) → IsOrdinary a → changes call ≡ false → cleans call ≡ false → commits call ≡ false
      → AfterEach (λ m s. Step (segments_of old) s call a s) → Serves state old new call a
  step_serves a ordinary leaves unclean free steps = served_still state call {a = a} lawful still was ordinary
      (λ p keeps here k m0 m is. inl (steps k m0 m p.state keeps is, never_worn (segments_of old) call p leaves unclean))
      (λ e. none (commits call) free e)
    where
      none : (b : Bool) → b ≡ false → (b && is_ok a) ≡ true → ⊥
      none true off e = cc
      none false off e = cc

  -- a call of the device failed
  pub failed_serves : never_for_device call ≡ false → AfterEach (λ m s. (state old.log.device).failures < (state new.log.device).failures)
      → Serves state old new call (Refuse Device)
  failed_serves free rises = served_still state call lawful still was tt (λ p keeps here k m0 m is. (
      let rose = rises k m0 m p.state keeps is in
      inr (Device, refl, (free, (let f = here.failures in omega (arith, f, rose))), refl)))
      (not_acknowledged call Device)
