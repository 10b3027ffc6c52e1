-- A recorder that began on a volume that is saved goes by its state.
use Rattle.std.proofs.Common.{◌≡◌, ℕ, true, false, Bool, IsTrue, List, [], ◌∷◌, Option, map, refl, sym, ap, ◌∙◌, subst}
use Rattle.std.specs.List.{AllByRecursion}
use Rattle.std.proofs.lemmas.Bool.{false≢true}
use Rattle.lfs_model.specs.Call.{Answer, Call, is_ok}
use Rattle.lfs_model.specs.Device.{DeviceState}
use Rattle.lfs_model.specs.Run.{Answers, Point, Run, final}
use Rattle.lfs_model.specs.Tree.{State, drop_nameless}
use Rattle.lfs_model.specs.TreeOf.{Stands}
use Rattle.lfs_model.proofs.Pendings.{at_final}
use Rattle.lfs_fs.specs.InARow.{CallsAreKept, ServesInARow, is_served, is_tended, no_more}
use Rattle.lfs_fs.specs.Volume.{Mounted, segments_of}
use Rattle.lfs_record.specs.Beginning.{Begins, GoesOn, IsButHandles, TakesUp, has_newest, has_none, is_empty, is_opened, is_whole}
use Rattle.lfs_record.specs.Beginning.{not_own, not_whole}
use Rattle.lfs_record.specs.Keeping.{LeavesFiles}
use Rattle.lfs_record.specs.Kept.{RecordFile, files_in}
use Rattle.lfs_record.specs.Moves.{Calls}
use Rattle.lfs_record.specs.Saving.{BeginsAreSaved, SessionsAreSaved}
use Rattle.lfs_record.specs.declared.recorder.Present.{Present}
use Rattle.lfs_record.specs.declared.recorder.Recorder.{Recorder}
use Rattle.lfs_record.proofs.Saved.{lines_are_saved}

-- none of these calls was refused
abbrev AreDone : Calls → Type 0
AreDone = AllByRecursion (λ c. is_ok c.1 ≡ true)

goes_done : (h : ℕ) (day : List ℕ) (size : ℕ) (calls : Calls) (present : Option Present) → GoesOn h day size calls present → AreDone calls
goes_done h day size calls present (is_empty none) = tt
goes_done h day size calls present is_whole = (refl, tt)
goes_done h day size calls present (not_whole bytes) = (refl, (refl, tt))

takes_done : (name : List ℕ) (calls : Calls) (present : Option Present) → TakesUp name calls present → AreDone calls
takes_done name calls present (not_own stat other) = (refl, tt)
takes_done name calls present (is_opened {calls = rest} stat handle own goes) =
    (refl, (refl, goes_done handle _ stat.size rest present goes))

begins_done : (bytes files : ℕ) (calls : Calls) (r : Recorder) → Begins bytes files calls r → AreDone calls
begins_done bytes files calls r (has_none entries none) = (refl, tt)
begins_done bytes files calls r (has_newest {calls = rest} {present = present} entries entry is takes) =
    (refl, takes_done entry.name rest present takes)

-- a volume that wasn't halted isn't behind calls that were done
true_or_false : (b : Bool) → (IsTrue b → ⊥) → b ≡ false
true_or_false true never = absurd (never refl)
true_or_false false never = refl

done_running : (N : ℕ) (call : Call) (a : Answer) (p q : Point) → is_ok a ≡ true → Answers N call p a q → q.halted ≡ false
done_running N call a p q ok does =
    true_or_false q.halted (λ halted. false≢true (sym (ap is_ok (does.goes_on halted)) ∙ ok))

still_running : (N : ℕ) (p : Point) (calls : Calls) (points : List Point) → Run N p (map (λ c. c.0) calls) (map (λ c. c.1) calls) points
    → AreDone calls → p.halted ≡ false → (final p points).halted ≡ false
still_running N p [] [] run done running = running
still_running N p [] (q ∷ points) run done running = absurd run
still_running N p (c ∷ calls) [] run done running = absurd run
still_running N p (c ∷ calls) (q ∷ points) run done running =
    still_running N q calls points run.1 done.1 (done_running N c.0 c.1 p q done.0 run.0)

was_running : (N : ℕ) (p : Point) (bytes files : ℕ) (calls : Calls) (r : Recorder) (points : List Point) → Begins bytes files calls r
    → Run N p (map (λ c. c.0) calls) (map (λ c. c.1) calls) points → p.halted ≡ false
was_running N p bytes files calls r [] (has_none entries none) run = absurd run
was_running N p bytes files calls r (q ∷ points) (has_none entries none) run =
    true_or_false p.halted (λ halted. false≢true (ap is_ok (sym (run.0.halted halted))))
was_running N p bytes files calls r [] (has_newest entries entry is takes) run = absurd run
was_running N p bytes files calls r (q ∷ points) (has_newest entries entry is takes) run =
    true_or_false p.halted (λ halted. false≢true (ap is_ok (sym (run.0.halted halted))))

-- what has no name is dropped from the same tree
same_dropped : (s a b : State) → IsButHandles s a → IsButHandles s b → drop_nameless a ≡ drop_nameless b
same_dropped s a b first second = ap drop_nameless first ∙ sym (ap drop_nameless second)

-- what kept the model at the end kept it before
kept_before : {D : Type 0} {state : D → DeviceState} (new : Mounted D) {old : Mounted D} {calls : List Call} {answers : List Answer}
    {clocks : List ℕ} → ServesInARow state new old calls answers clocks → (state new.log.device).keeps_model
    → (state old.log.device).keeps_model
kept_before new no_more keeps = keeps
kept_before new (is_served mid call a does rest) keeps = does.carries.kept_before (kept_before new rest keeps)
kept_before new (is_tended mid is rest) keeps = is.still.reads.looks.carries.kept_before (kept_before new rest keeps)

module _ {D : Type 0} (state : D → DeviceState) where
  pub begins_are_saved : CallsAreKept state → BeginsAreSaved state
  begins_are_saved kept old new bytes files r begins keeps first saved =
      let calls = begins.calls in
      let row = kept old new (map (λ c. c.0) calls) (map (λ c. c.1) calls) begins.served.0 begins.served.1 keeps first saved in
      let runs = was_running (segments_of old) first bytes files calls r row.points begins.ends.0 row.run in
      let sound = (saved.at.running (sym saved.at.halted ∙ runs)).is.log.sound in
      let finds = begins.ends.1 (segments_of old) first row.points row.run sound in
      let last = finds.same _ (final first row.points) (at_final first row.points) in
      record {
        next = final first row.points;
        saved = record {
          at = row.at;
          leaves = λ c left. (
              let pending = row.pending c left in
              let at = finds.same pending.1.n pending.1.point pending.1.at in
              subst (Stands c) (ap drop_nameless (sym pending.1.is)
              ∙ same_dropped first.state pending.1.point.state (final first row.points).state at last) pending.2);
        };
        running = sym row.at.halted
            ∙ still_running (segments_of old) first calls row.points row.run (begins_done bytes files calls r begins.ends.0) runs;
        goes_by = finds.goes_by;
        same_files = ap (λ (s : State). files_in s.tree) last;
      }

  pub sessions_are_saved : CallsAreKept state → SessionsAreSaved state
  sessions_are_saved kept old mid new bytes files r r' calls begins makes keeps first saved i t at c left =
      let is_begun = begins_are_saved kept old mid bytes files r begins (kept_before new makes.served.1 keeps) first saved in
      subst (λ (start : List RecordFile). LeavesFiles start calls i c) is_begun.same_files
      (lines_are_saved state kept mid new calls makes.served.0 is_begun.next r r' (record {
        served = makes.served.1;
        keeps = keeps;
        saved = is_begun.saved;
        running = is_begun.running;
        goes_by = is_begun.goes_by;
        moves = makes.moves;
      }) i t at c left)
