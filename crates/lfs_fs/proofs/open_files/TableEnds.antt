-- Calls that change the table of open files alone, as steps of the model.
use Rattle.lfs_fs.proofs.Prelude.{◌≡◌, true, false, refl, sym, ◌∙◌, subst, inl, arith, Answer, Call, is_ok, CheckpointValue, DeviceState}
use Rattle.lfs_fs.proofs.Prelude.{IsLawful, Halted, Point, StepsOr, acknowledges, LogMap, State, Reads, Mounted, Serves, changes_handles}
use Rattle.lfs_fs.proofs.Prelude.{segments_of, IsMapOf, Refuse, Behaves, AreTotals, BlockTotals, Holds, held_still}
use Rattle.lfs_fs.proofs.calls.AnyDevice.{ok_refuses_none, opens_behaves}
use Rattle.lfs_fs.proofs.calls.Drafts.{runs_on}
use Rattle.lfs_fs.proofs.calls.Exits.{point_of, quiet, AtEach}
use Rattle.lfs_store.specs.log.LogState.{Alters}
use Rattle.lfs_store.proofs.Recounted.{alters_read}
use Rattle.lfs_fs.proofs.volume.Map.{runs_over}

module _ {D : Type 0} (state : D → DeviceState) (old new : Mounted D) (call : Call) (a : Answer) where
  -- What a call that changes no more than memory makes of a state that the volume is in.
  pub record Alterations (p : Point) (k : CheckpointValue) (m0 : LogMap) : Type 0 where
    pub next : State
    pub present : LogMap
    pub saved : new.log.saved ≡ old.log.saved
    pub holds : Holds state new.log k m0 present
    pub map : IsMapOf (segments_of old) present next
    pub handles : next.handles ≡ new.table
    pub counted : AreTotals present new.log.totals
    pub steps : StepsOr (segments_of old) call p a (point_of state new next)

  -- what another table makes of a state that the volume is in
  pub record Turns (p : Point) (m : LogMap) : Type 0 where
    pub next : State
    pub map : IsMapOf (segments_of old) m next
    pub handles : next.handles ≡ new.table
    pub steps : StepsOr (segments_of old) call p a (point_of state new next)

module _ {D : Type 0} {state : D → DeviceState} (old new : Mounted D) (lawful : IsLawful (state old.log.device))
    (after : IsLawful (state new.log.device)) (was : old.log.halted ≡ false) where
  -- ---- calls that change no more than memory
  module _ (call : Call) (a : Answer) where
    pub altered_serves : Alters state old.log new.log 0 false → Behaves state old new call a → (a ≡ Refuse Halted → ⊥)
        → (acknowledges call a ≡ true → ⊥)
        → AtEach state old new (λ p k m0 m. Alterations state old new call a p k m0) → Serves state old new call a
    altered_serves alters behaves fine none each =
        runs_on state old new call lawful after alters.looks.carries alters.segments was (let same = alters.number in omega (arith, same))
        fine behaves (alters.halted ∙ was) (λ p keeps here k m0 m is. (
        let does = each p keeps here k m0 m is in record {
          next = does.next;
          runs = runs_over new k m is does.next
              record { checkpoint = k; acknowledged = m0; either = inl refl; same = refl; holds = does.holds }
              alters.segments does.map does.handles does.counted
              (λ e. (
              let r = is.ready (sym does.saved ∙ e) in let low = r.1 in let clean = r.0 in
              let number = alters.number in let now = alters.clean in let segments = alters.segments in
              (omega (arith, clean, now, segments), omega (arith, low, number, segments))));
          steps = does.steps;
          moment = quiet state new.log lawful alters.looks is.holds;
          saves = λ e. absurd (none e);
        }))

    -- the table alone
    pub table_serves : Reads state old.log new.log → changes_handles call ≡ true → is_ok a ≡ true → (acknowledges call a ≡ true → ⊥)
        → AtEach state old new (λ p k m0 m. Turns state old new call a p m) → Serves state old new call a
    table_serves reads moves ok none each =
        altered_serves (alters_read old.log new.log reads) (opens_behaves state call a reads.looks reads.number moves ok)
        (ok_refuses_none {a = a} {r = Halted} ok) none
        (λ p keeps here k m0 m is. (
        let turns = each p keeps here k m0 m is in record {
          next = turns.next;
          present = m;
          saved = reads.saved;
          holds = held_still state reads is.holds;
          map = turns.map;
          handles = turns.handles;
          counted = subst (λ (t : BlockTotals). AreTotals m t) (sym reads.totals) is.counted;
          steps = turns.steps;
        }))
