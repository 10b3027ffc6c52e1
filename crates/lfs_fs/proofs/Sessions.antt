-- A use of a volume, from its mount to a stop: which states it goes from, and what a stop in it leaves.
use Rattle.std.proofs.Common.{Some, arith, slice_get}
use Rattle.lfs_fs.proofs.Prelude.{◌≡◌, ◌⊎◌, ℕ, false, List, ◌∷◌, sym, ◌∙◌, ap, subst, inl, inr, Answer, Call, CheckpointValue, Content}
use Rattle.lfs_fs.proofs.Prelude.{AllLeft, DeviceState, Carries, IsLawful, LeavesOnly, Only, Point, Line, State, drop_nameless}
use Rattle.lfs_model.proofs.Moments.{same_orders}
use Rattle.lfs_fs.proofs.Prelude.{LeavesOne, Stands, StandsForSome, LeavesPrefix, joined, single_state, Some-injective, settled, Fs}
use Rattle.lfs_fs.proofs.Prelude.{FindsState, RanAt, RunsLines, TellsLines, seen, IsAt, Mounted, Runs, final, segments_of}
use Rattle.lfs_model.specs.Content.{newest}
use Rattle.lfs_model.specs.Device.{IsUntouched}
use Rattle.lfs_model.specs.Since.{UsesNoted, UsesUntil}
use Rattle.lfs_model.specs.Use.{Continues, IsNumbered, UsesVolume}
use Rattle.lfs_model.specs.Volume.{StandsForPrefix}
use Rattle.lfs_model.proofs.Committed.{nothing_dropped}
use Rattle.lfs_model.proofs.UnitsKept.{shape_alone}
use Rattle.lfs_fs.specs.Mounting.{MountsAt}
use Rattle.lfs_fs.specs.Volume.{LeavesAll}

-- what a content stands for, under another name of the state
stands_as : {c : Content} {s t : State} → t ≡ s → Stands c s → Stands c t
stands_as same is = record {
  checkpoint = is.checkpoint;
  log = is.log;
  found = is.found;
  stands = is.stands;
  tree = rw same is.tree;
  version = ap (λ (x : State). x.version) same ∙ is.version;
  closed = ap (λ (x : State). x.handles) same ∙ is.closed;
}

-- while no commit failed, what a stop leaves has the number of the acknowledged checkpoint
numbered : {D : Type 0} (state : D → DeviceState) (v : Mounted D) {p : Point} → IsAt state v p → p.halted ≡ false
    → AllLeft (state v.log.device) (IsNumbered p.number)
numbered state v {p} at on c left =
    let r : Runs state v p.state = at.running (sym at.halted ∙ on) in
    let holds = r.is.holds in
    let is = settled state holds in
    (r.checkpoint, (is.each c left).newest, at.number ∙ sym holds.number)

module _ {D : Type 0} {state : D → DeviceState} (d : D) (lawful : IsLawful (state d)) (v : Fs D)
    (finds : FindsState state d v)
    (durable : (state (seen v).log.device).keeps_model → Only (state d).content (state (seen v).log.device))
    (untouched : IsUntouched (state d) (state (seen v).log.device))
    (carries : Carries (state d) (state (seen v).log.device))
    (moment : LeavesOnly (state d) (state (seen v).log.device) (state d).may_leave)
    (no_failure : (state (seen v).log.device).failures ≡ (state d).failures) where
  -- ---- the mount, where the device kept the model
  module _ (kept : (state (seen v).log.device).keeps_model) where
    abbrev mounted : MountsAt state v (finds kept).0
    mounted = (finds kept).2

    -- the state that is found is the one that the volume is in
    stands_first : Stands (state d).content mounted.point.state
    stands_first = stands_as mounted.same (finds kept).1

    -- after the mount a stop leaves it alone
    alone_first : LeavesOne (state (seen v).log.device) (drop_nameless mounted.point.state)
    alone_first c left =
        let same : drop_nameless mounted.point.state ≡ mounted.point.state =
        nothing_dropped (state d).content mounted.point.state stands_first in
        subst (Stands c) (sym same) (rw (durable kept c left) stands_first)

    first_running : Runs state (seen v) mounted.point.state
    first_running = mounted.at.running mounted.running

    -- the volume knows the checkpoint by which the content stands
    first_checkpoint : first_running.checkpoint ≡ stands_first.checkpoint
    first_checkpoint = Some-injective (sym (settled state first_running.is.holds).newest ∙ ap newest untouched.content ∙ stands_first.found)

  module _ {new : Mounted D} {lines : List Line} {answers : List Answer} where
    module _ (runs : RunsLines state (seen v) new lines answers) (keeps : (state new.log.device).keeps_model)
        (rans : (p : Point) → IsAt state (seen v) p → RanAt state (seen v) new lines answers p) where
      kept : (state (seen v).log.device).keeps_model
      kept = runs.carries.kept_before keeps

      abbrev at : MountsAt state v (finds kept).0
      at = mounted kept

      abbrev stands : Stands (state d).content at.point.state
      stands = stands_first kept

      abbrev alone : LeavesOne (state (seen v).log.device) (drop_nameless at.point.state)
      alone = alone_first kept

      abbrev ran : RanAt state (seen v) new lines answers at.point
      ran = rans at.point at.at

      abbrev running : Runs state (seen v) at.point.state
      running = first_running kept

      abbrev same_checkpoint : running.checkpoint ≡ stands.checkpoint
      same_checkpoint = first_checkpoint kept

      abbrev Leaves : Content → Type 0
      Leaves = StandsForSome (at.point ∷ ran.points)

      -- what a stop meanwhile leaves, by what one before might have left
      moments_by : (P : Content → Type 0) → AllLeft (state d) P → LeavesOnly (state d) (state new.log.device) (λ c. P c ⊎ Leaves c)
      moments_by P was = joined (state d).may_leave Leaves
          (λ c. P c ⊎ Leaves c) moment (ran.moments alone)
          (λ c left. inl (was c left)) (λ c some. inr some)

      -- where that was pending in an earlier run, so is the state at the beginning
      module _ (before : List Point) (calls : List Call) (given : List Answer) (was : LeavesPrefix (state d) before calls given) where
        pending : StandsForPrefix (state d).content before calls given
        pending = was (state d).content (lawful.present (carries.kept_before kept))

        goes_on_from : Continues (state d) (state new.log.device) before calls given at.point ran.points
        goes_on_from = record {
          began = (pending.0, pending.1, single_state (state d).content at.point.state (drop_nameless pending.0) stands pending.2);
          moments = moments_by (λ c. StandsForPrefix c before calls given) was;
        }

      uses_by : UsesVolume (state d) (state new.log.device) lines answers
      uses_by = record {
        first = at.point;
        points = ran.points;
        segments = segments_of (seen v);
        stands = stands;
        same_segments = sym running.is.holds.segments ∙ ap (λ (k : CheckpointValue). k.segments) same_checkpoint;
        same_number = at.at.number ∙ sym running.is.holds.number ∙ ap (λ (k : CheckpointValue). k.number) same_checkpoint;
        running = at.at.halted ∙ at.running;
        run = ran.run;
        unstuck = runs.unstuck;
        failures_before = at.at.failures ∙ no_failure;
        failures_after = ran.at.failures;
        orders_before = at.at.failed_orders ∙ same_orders carries no_failure;
        orders_after = ran.at.failed_orders;
        number_after = numbered state new ran.at;
        same_shape = shape_alone (state (seen v).log.device) (state new.log.device) (state d).content (durable kept) ran.shape;
        moments = moments_by (state d).may_leave (λ c left. left);
        pending = ran.pending alone;
        continues = goes_on_from;
      }

    pub uses_volume : RunsLines state (seen v) new lines answers → (state new.log.device).keeps_model
        → UsesVolume (state d) (state new.log.device) lines answers
    uses_volume runs keeps = uses_by runs keeps (λ p is. runs.model p keeps is)

    pub uses_told : {clocks : List ℕ} → TellsLines state (seen v) new lines answers clocks → (state new.log.device).keeps_model
        → UsesNoted (state d) (state new.log.device) lines answers clocks
    unfolding uses_by
    uses_told tells keeps =
        let rans : ((p : Point) → IsAt state (seen v) p → RanAt state (seen v) new lines answers p) = λ p is. (tells.told p keeps is).ran in
        let mounted = at tells.runs keeps rans in
        record {
          uses = uses_by tells.runs keeps rans;
          since = (tells.told mounted.point keeps mounted.at).kept
              (alone tells.runs keeps rans);
        }

    -- what was told by a reply is kept whatever came behind it
    pub uses_until : (after : IsLawful (state new.log.device)) (before : IsLawful (state (seen v).log.device)) {clocks : List ℕ}
        → TellsLines state (seen v) new lines answers clocks → (j u : ℕ) → slice_get clocks j ≡ Some u → (state new.log.device).kept_until u
        → UsesUntil (state d) (state new.log.device) lines answers clocks j u
    uses_until after before tells j u is until =
        let began = (state (seen v).log.device).moment in
        let first = after.kept_earlier began u (tells.clocks_within j u is).0 until in
        let kept = before.kept_now.0 ((tells.runs.carries.kept_as began (omega arith)).0 first) in
        record {
          first = (mounted kept).point;
          segments = segments_of (seen v);
          stands = stands_first kept;
          same_segments = sym (first_running kept).is.holds.segments ∙ ap (λ (k : CheckpointValue). k.segments) (first_checkpoint kept);
          running = (mounted kept).at.halted ∙ (mounted kept).running;
          kept = tells.until j u is until (mounted kept).point (mounted kept).at (alone_first kept);
        }

    -- Where all is saved, and no commit failed, a stop leaves the state behind the last line.
    pub told_saved : {clocks : List ℕ} (tells : TellsLines state (seen v) new lines answers clocks)
        (keeps : (state new.log.device).keeps_model) → LeavesAll state new
        → (final (uses_told tells keeps).uses.first (uses_told tells keeps).uses.points).halted ≡ false → LeavesOne (state new.log.device)
        (drop_nameless (final (uses_told tells keeps).uses.first (uses_told tells keeps).uses.points).state)
    unfolding uses_told uses_by
    told_saved tells keeps all on =
        let rans : ((p : Point) → IsAt state (seen v) p → RanAt state (seen v) new lines answers p) = λ p is. (tells.told p keeps is).ran in
        let mounted = at tells.runs keeps rans in
        let last = (ran tells.runs keeps rans).at in
        all (final mounted.point (ran tells.runs keeps rans).points) (sym last.halted ∙ on) last
