-- What a device that bears its calls leaves no room for.
use Rattle.lfs_fs.proofs.Prelude.{◌≡◌, ◌⊎◌, ◌≤◌, ℕ, false, None, Option, Some}
use Rattle.lfs_fs.proofs.Prelude.{refl, sym, ◌∙◌, ap, inl, inr, ⊎_elim, arith}
use Rattle.lfs_fs.proofs.Prelude.{Answer, Call, Refuse, Fsync, Sync, Done, DeviceState, Point, State, find, nat_cmp}
use Rattle.lfs_model.proofs.Uses.{no_device, no_halt}
use Rattle.lfs_model.specs.Call.{Open, Create, Close, Pread, Pwrite, Truncate, Mkdir, LinkTo, Symlink}
use Rattle.lfs_model.specs.Call.{Readlink, Unlink, Rmdir, Rename, StatOf}
use Rattle.lfs_model.specs.Call.{LstatOf, Readdir, Clean, Space, Version, Upgrade, Widen, ListTree}
use Rattle.lfs_model.specs.Refusal.{Refusal, BadHandle, Device, Halted, NoMemory, Stuck, Worn}
use Rattle.lfs_model.specs.Run.{IsExcused}
use Rattle.lfs_model.specs.Step.{Step}
use Rattle.lfs_fs.proofs.calls.Steps.{never_worn}
use Rattle.lfs_fs.specs.Available.{CallsAreAvailable, IsBorne, SyncsAreDone}
use Rattle.lfs_fs.specs.Volume.{Mounted, ServesAt, segments_of}

module _ {D : Type 0} (state : D → DeviceState) where
  module _ {old new : Mounted D} {call : Call} {answer : Answer} (is : IsBorne state old new call answer) where
    -- no call of the device fails
    none_fails : (state new.log.device).failures ≡ (state old.log.device).failures
    none_fails = is.serves.carries.borne _ is.bears (let told = is.serves.behaves.told in omega (arith, told))

    abbrev served : ServesAt state old new call answer is.point
    served = is.serves.model is.point is.keeps is.at

    few : served.next.failures ≤ is.point.failures
    few = let before = is.at.failures in let after = served.at.failures in let same = none_fails in omega (arith, before, after, same)

    on : is.point.halted ≡ false
    on = is.at.halted ∙ is.running

    no_halt_here : answer ≡ Refuse Halted → ⊥
    no_halt_here = no_halt (segments_of old) call is.point served.next answer served.answers on few

    no_device_here : answer ≡ Refuse Device → ⊥
    no_device_here = no_device (segments_of old) call is.point served.next answer served.answers few

  pub calls_are_available : CallsAreAvailable state
  calls_are_available old new call answer is = (no_device_here is, no_halt_here is)

  -- a sync is done by its step, and an fsync of a file that is open
  sync_step : (N : ℕ) (s s' : State) (a : Answer) → Step N s Sync a s' → (a ≡ Done) ⊎ (a ≡ Refuse BadHandle)
  sync_step N s s' a step = inl (sym step.answer)

  fsync_step : (N : ℕ) (s s' : State) (h : ℕ) (a : Answer) → Step N s (Fsync h) a s' → (a ≡ Done) ⊎ (a ≡ Refuse BadHandle)
  fsync_step N s s' h a step = by (find nat_cmp h s.handles) refl
    where
      by : (o : Option ℕ) → find nat_cmp h s.handles ≡ o → (a ≡ Done) ⊎ (a ≡ Refuse BadHandle)
      by None none = inr (sym step.answer ∙ rw none refl)
      by (Some n) some = inl (sym step.answer ∙ rw some refl)

  sync_excused : (N : ℕ) (p q : Point) (r : Refusal) → IsExcused N Sync p q r → (r ≡ Halted → ⊥) → ⊥
  sync_excused N p q NoMemory e fine = absurd (cc)
  sync_excused N p q Device e fine = absurd (let no = e.0 in cc)
  sync_excused N p q Halted e fine = fine refl
  sync_excused N p q Stuck e fine = ⊎_elim (λ no. absurd (cc)) (λ no. absurd (cc)) e
  sync_excused N p q Worn e fine = never_worn N Sync p refl refl e
  sync_excused N p q other e fine = absurd e

  fsync_excused : (N h : ℕ) (p q : Point) (r : Refusal) → IsExcused N (Fsync h) p q r → (r ≡ Halted → ⊥) → ⊥
  fsync_excused N h p q NoMemory e fine = absurd (cc)
  fsync_excused N h p q Device e fine = absurd (let no = e.0 in cc)
  fsync_excused N h p q Halted e fine = fine refl
  fsync_excused N h p q Stuck e fine = ⊎_elim (λ no. absurd (cc)) (λ no. absurd (cc)) e
  fsync_excused N h p q Worn e fine = never_worn N (Fsync h) p refl refl e
  fsync_excused N h p q other e fine = absurd e

  sync_done : (old new : Mounted D) (answer : Answer) → IsBorne state old new Sync answer → (answer ≡ Done) ⊎ (answer ≡ Refuse BadHandle)
  sync_done old new answer is = ⊎_elim
      (λ step. sync_step (segments_of old) is.point.state (served is).next.state answer step.0)
      (λ refused. absurd (sync_excused (segments_of old) is.point (served is).next refused.0 refused.2
      (λ halted. no_halt_here is (refused.1 ∙ ap Refuse halted))))
      (served is).answers.steps

  fsync_done_or : (old new : Mounted D) (h : ℕ) (answer : Answer) → IsBorne state old new (Fsync h) answer
      → (answer ≡ Done) ⊎ (answer ≡ Refuse BadHandle)
  fsync_done_or old new h answer is = ⊎_elim
      (λ step. fsync_step (segments_of old) is.point.state (served is).next.state h answer step.0)
      (λ refused. absurd (fsync_excused (segments_of old) h is.point (served is).next refused.0 refused.2
      (λ halted. no_halt_here is (refused.1 ∙ ap Refuse halted))))
      (served is).answers.steps

  pub syncs_are_done : SyncsAreDone state
  syncs_are_done old new (Fsync h) answer saves is = fsync_done_or old new h answer is
  syncs_are_done old new Sync answer saves is = sync_done old new answer is
  syncs_are_done old new (Open p) answer saves is = absurd (cc)
  syncs_are_done old new (Create p) answer saves is = absurd (cc)
  syncs_are_done old new (Close h) answer saves is = absurd (cc)
  syncs_are_done old new (Pread h off n) answer saves is = absurd (cc)
  syncs_are_done old new (Pwrite h off w) answer saves is = absurd (cc)
  syncs_are_done old new (Truncate h n) answer saves is = absurd (cc)
  syncs_are_done old new (Mkdir p) answer saves is = absurd (cc)
  syncs_are_done old new (LinkTo p q) answer saves is = absurd (cc)
  syncs_are_done old new (Symlink text p) answer saves is = absurd (cc)
  syncs_are_done old new (Readlink p) answer saves is = absurd (cc)
  syncs_are_done old new (Unlink p) answer saves is = absurd (cc)
  syncs_are_done old new (Rmdir p) answer saves is = absurd (cc)
  syncs_are_done old new (Rename p q) answer saves is = absurd (cc)
  syncs_are_done old new (StatOf p) answer saves is = absurd (cc)
  syncs_are_done old new (LstatOf p) answer saves is = absurd (cc)
  syncs_are_done old new (Readdir p) answer saves is = absurd (cc)
  syncs_are_done old new Clean answer saves is = absurd (cc)
  syncs_are_done old new Space answer saves is = absurd (cc)
  syncs_are_done old new Version answer saves is = absurd (cc)
  syncs_are_done old new Upgrade answer saves is = absurd (cc)
  syncs_are_done old new (Widen p) answer saves is = absurd (cc)
  syncs_are_done old new ListTree answer saves is = absurd (cc)
