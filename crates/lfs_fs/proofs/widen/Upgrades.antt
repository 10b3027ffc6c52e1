-- The exits of upgrade, and of changes that find nothing to do, as steps of the model.
use Rattle.lfs_fs.proofs.Prelude.{◌≡◌, ◌≢◌, ◌==◌, ◌<◌, ◌≤◌, ◌+◌, ◌*◌, ◌^◌, inl, inr, ℕ, true, false, Some, refl, sym, ◌∙◌, ap, subst}
use Rattle.lfs_fs.proofs.Prelude.{Result, Ok, Err, OnOk, OnErr, IfErr, Call, Done, Refuse, Upgrade, changes, CheckpointValue, DeviceState}
use Rattle.lfs_fs.proofs.Prelude.{IsLawful, Worn, acknowledges, LogMap, Step, State, Tree, links, Store, AreTotals}
use Rattle.lfs_fs.proofs.Prelude.{totals_of_tree, draft_of, drafted_of, volume_of, with_draft, FsError, Fs, StagesDraft, TurnsDown}
use Rattle.lfs_fs.proofs.Prelude.{Begins, answer_by, seen, IsIn, IsStill, Mounted, Serves, segments_of, IsMapOf, room_shaped}
use Rattle.lfs_fs.proofs.Prelude.{arith, ne_eqb, asked_by, length, shaped_map}
use Rattle.std.proofs.lemmas.Bool.{cond-false}
use Rattle.lfs_model.specs.Entry.{Header}
use Rattle.lfs_model.specs.Raising.{raised}
use Rattle.lfs_model.specs.Step.{raised_version}
use Rattle.lfs_model.specs.TreeOf.{AreFormed, object, slots}
use Rattle.lfs_model.proofs.Raising.{raised_kept, raised_tree}
use Rattle.lfs_model.proofs.Widening.{upgrade_keeps}
use Rattle.lfs_store.specs.Making.{DraftsUpgrade}
use Rattle.lfs_store.specs.Recounting.{CountsUpgraded}
use Rattle.lfs_store.proofs.Growths.{room_few}
use Rattle.lfs_fs.specs.Asking.{most_asked}
use Rattle.lfs_fs.specs.declared.error.FsError.TheVariants as error
use Rattle.lfs_fs.proofs.calls.Steps.{not_worn, worn}
use Rattle.lfs_fs.proofs.calls.Drafts.{not_acknowledged}
use Rattle.lfs_fs.proofs.volume.Map.{headers_of_volume, map_of_volume, version_of_volume}
use Rattle.lfs_fs.proofs.read.Ends.{begun_running}
use Rattle.lfs_fs.proofs.calls.Exits.{point_of, served_still}
use Rattle.lfs_fs.proofs.calls.StoreCalls.{still_logged}
use Rattle.lfs_steps.proofs.widen.Steps.{upgrade_step, upgraded}
use Rattle.lfs_fs.proofs.write.Ends.{draft_ends}

-- ---- a change that finds nothing to do

module _ {D : Type 0} {state : D → DeviceState} (lawful : (d : D) → IsLawful (state d)) {v new : Mounted D} (still : IsStill state v new)
    (was : v.log.halted ≡ false) {call : Call} (change : changes call ≡ true) (none : acknowledges call Done ≡ true → ⊥)
    (step : (k : CheckpointValue) (m0 m : LogMap) (s : State) → (state new.log.device).keeps_model → IsIn state v k m0 m s
    → Step (segments_of v) s call Done s) where
  nothing_done : new.log.number < 2 ^ 62 → Serves state v new call Done
  nothing_done low = served_still state call {a = Done} (lawful v.log.device) still was tt
      (λ p keeps at k m0 m is.
      let number = at.number in
      let same = still.reads.number in
      inl (step k m0 m p.state keeps is, not_worn (segments_of v) call p (omega (arith, number, same, low)))) none

  nothing_worn : 2 ^ 62 ≤ new.log.number → Serves state v new call (Refuse Worn)
  nothing_worn high = served_still state call (lawful v.log.device) still was tt
      (λ p keeps at k m0 m is. inr (
        Worn,
        refl,
        worn (segments_of v) p (point_of state new p.state)
            (let number = at.number in let same = still.reads.number in omega (arith, number, same, high)) change
            (step k m0 m p.state keeps is) refl,
        refl,
      ))
      (not_acknowledged call Worn)

  pub nothing_ends : {X : Type 0} (r : Result X FsError) → OnOk r (new.log.number < 2 ^ 62) → OnErr r (2 ^ 62 ≤ new.log.number)
      → IfErr r (λ fault. fault ≡ error.Worn) → Serves state v new call (answer_by (λ _. Done) r)
  nothing_ends (Ok x) young old is = nothing_done young
  nothing_ends (Err fault) young old is =
      rw is (nothing_worn old)

-- ---- the version is raised

formed_raised : (m : LogMap) → AreFormed m → AreFormed (raised true m)
unfolding object slots
formed_raised m is n h there dir = is n h there dir

pub raised_map : (N : ℕ) (m : LogMap) (s : State) → s.version ≡ 1 → IsMapOf N m s → IsMapOf N (raised true m) (upgraded s)
raised_map N m s first is = record {
  map = raised_kept m true low is.map;
  long = λ n i has. is.long n i has;
  log = record {
    sound = upgrade_keeps N s (upgraded s) Done is.log.sound (upgrade_step N s);
    is = is.log.is ∙ sym (raised_tree m true);
    version = ap raised_version first;
    formed = formed_raised m is.log.formed;
    links = λ n h there. is.log.links n h there ∙ ap (λ (t : Tree). links t n) (sym (raised_tree m true));
  };
}
  where
    low : m.version ≤ 2
    low = let same = is.log.version in omega (arith, same, first)

-- ---- upgrade

module _ {D : Type 0} {state : D → DeviceState} (lawful : (d : D) → IsLawful (state d)) {old mid : Fs D} (begun : Begins old mid) where
  running : (seen mid).log.halted ≡ false
  running = begun_running state begun

  same_state : (s : State) → s.version ≢ 1 → upgraded s ≡ s
  same_state s later = ap (λ (n : ℕ). record { tree = s.tree; handles = s.handles; version = n })
      (cond-false (s.version == 1) 2 s.version (ne_eqb s.version 1 later))

  -- the volume has a later version
  pub upgrade_nothing : (seen mid).log.version ≢ 1 → {X : Type 0} (r : Result X FsError) → OnOk r ((seen mid).log.number < 2 ^ 62)
      → OnErr r (2 ^ 62 ≤ (seen mid).log.number) → IfErr r (λ fault. fault ≡ error.Worn)
      → Serves state (seen mid) (seen mid) Upgrade (answer_by (λ _. Done) r)
  upgrade_nothing later =
      nothing_ends lawful (still_logged state mid mid refl refl) running refl (λ e. cc)
      (λ k m0 m s keeps is. subst (λ (x : State). Step (segments_of (seen mid)) s Upgrade Done x)
      (same_state s (λ one. later (sym (version_of_volume is) ∙ one))) (upgrade_step (segments_of (seen mid)) s))

  module _ (b : Store D) (same_log : volume_of b ≡ (seen mid).log) (same_drafted : drafted_of b ≡ drafted_of mid.store)
      (drafts : DraftsUpgrade (draft_of b)) (counts : CountsUpgraded (draft_of b)) (first : (seen mid).log.version ≡ 1) where
    abbrev ready : Fs D
    ready = record { alloc = mid.alloc; store = b; handles = mid.handles }

    still : IsStill state (seen mid) (seen ready)
    still = still_logged state mid ready same_log refl

    module _ (k : CheckpointValue) {m0 : LogMap} (m : LogMap) (s : State) (is : IsIn state (seen mid) k m0 m s) where
      after : IsMapOf (segments_of (seen mid)) (with_draft (draft_of b) m) (upgraded s)
      after = rw (drafts.map m) (raised_map (segments_of (seen mid)) m s (version_of_volume is ∙ first) (map_of_volume is))

      totals : AreTotals (with_draft (draft_of b) m) (drafted_of b)
      totals = rw (same_drafted ∙ begun.drafted) (counts m (seen mid).log.totals is.counted)

      headers : (n : ℕ) (h : Header) → (with_draft (draft_of b) m).header n ≡ Some h → m.header n ≡ Some h
      headers n h there = ap (λ (x : LogMap). x.header n) (sym (drafts.map m)) ∙ there

      room : (drafted_of b).data_blocks + 7 * (drafted_of b).meta_blocks + 720 ≤ 47 * segments_of (seen mid)
      room = room_shaped totals_of_tree (segments_of (seen mid)) after (shaped_map (segments_of (seen mid)) after
          (λ n h there. headers_of_volume is n h (headers n h there))) totals

    -- it asks for next to nothing
    small : asked_by (draft_of b) ≤ most_asked Upgrade
    small = room_few (draft_of b).changes 0 0 (omega (arith, ap length drafts.headers)) (omega (arith, ap length drafts.blocks))

    pub upgrade_ends : (new : Fs D) → new.handles ≡ ready.handles → {X : Type 0} (r : Result X FsError)
        → OnOk r (StagesDraft state ready new) → IfErr r (TurnsDown state ready new)
        → Serves state (seen mid) (seen new) Upgrade (answer_by (λ _. Done) r)
    upgrade_ends new rest r done down =
        draft_ends state lawful (seen mid) ready new Upgrade Done still running rest small refl refl refl refl
        (λ keeps k m0 m s is. record {
          next = upgraded s;
          answer = Done;
          ok = refl;
          fits = drafts.fits m (is.holds.version ∙ first);
          counted = totals k m s is;
          map = λ has_room. after k m s is;
          done = λ has_room. upgrade_step (segments_of (seen mid)) s;
          lacks = λ more. absurd (let most = room k m s is in omega (arith, most, more));
        }) refl (λ keeps k m0 m s is. (refl, is.handles)) r done down
