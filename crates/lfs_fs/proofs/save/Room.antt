-- A sync never finds too few clean segments, and never lacks a number.
use Rattle.lfs_fs.proofs.Prelude.{◌≡◌, ◌<◌, ◌≤◌, ◌+◌, ◌-◌, ◌*◌, ◌^◌, false, refl, ⊎_elim, arith, Refuse, Sync, DeviceState, IsLawful}
use Rattle.lfs_fs.proofs.Prelude.{Device, State, carries_none, IsFull, Mounted, Runs, Serves, commit_orders, segment_count}
use Rattle.lfs_fs.proofs.calls.AnyDevice.{sync_bounded, tells_none, write_behaves}

module _ {D : Type 0} (state : D → DeviceState) (v : Mounted D) (lawful : IsLawful (state v.log.device)) (was : v.log.halted ≡ false)
    (unsaved : v.log.saved ≡ false) (full : IsFull v.log) where
  never_full : {s : State} → Runs state v s → ⊥
  never_full r =
      let ready = r.is.ready unsaved in
      let clean = ready.0 in
      let low = ready.1 in
      let count = segment_count state lawful r.is.holds in
      let eighths = count.eighths in
      let most = count.most in
      ⊎_elim
      (λ (few : 8 * v.log.clean < v.log.segments + 64). omega (arith, eighths, clean, few))
      (λ (high : 2 ^ 64 - 1 ≤ v.log.number). omega (arith, low, high, most))
      full

  pub full_serves : Serves state v v Sync (Refuse Device)
  full_serves = record {
    carries = carries_none;
    segments = λ e. refl;
    orderly = λ e. absurd (cc);
    halts = λ e. absurd (cc);
    behaves = write_behaves state Sync (Refuse Device) refl refl (λ e. cc) (λ takes e. absurd (cc))
        (sync_bounded state v v (omega arith) (tells_none state v.log v.log commit_orders refl) (λ all. refl));
    model = λ p keeps at. absurd (never_full (at.running was));
  }
