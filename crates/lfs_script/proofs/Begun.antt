-- What is said of a use of a volume from behind calls that write nothing is said from before them.
use Rattle.std.proofs.Common.{◌≡◌, ◌⊎◌, ⊎_elim, inl, inr, ◌<◌, ℕ, Bool, List, ◌∷◌, Option, refl, sym, ◌∙◌, ap, arith, subst}
use Rattle.lfs_model.specs.Call.{Answer}
use Rattle.lfs_model.specs.Content.{Content}
use Rattle.lfs_model.specs.Device.{DeviceState, LeavesOnly}
use Rattle.lfs_model.specs.Script.{Line}
use Rattle.lfs_model.specs.Since.{UsesNoted, UsesUntil}
use Rattle.lfs_model.specs.Tree.{State}
use Rattle.lfs_model.specs.TreeOf.{Stands}
use Rattle.lfs_model.specs.UnitLaws.{shape_in}
use Rattle.lfs_model.specs.Use.{StandsForSome, UsesVolume}
use Rattle.lfs_model.specs.Volume.{StandsForPrefix}
use Rattle.lfs_model.proofs.Moments.{joined, same_orders}
use Rattle.lfs_fs.specs.log.verify.Take.{SyncsOnce}
use Rattle.lfs_fs.specs.log.verify.declared.fault.MountFault.{MountFault}
use Rattle.lfs_fs.proofs.FoundVolumes.{faulty_begun, refused_begun}
use Rattle.lfs_script.specs.Noted.{Glance}
use Rattle.lfs_script.specs.Session.{Session, SessionNoted}
use Rattle.lfs_script.specs.Unused.{IsUnused}
use Rattle.lfs_script.specs.declared.script.ScriptEnd.{ScriptEnd}
use Rattle.lfs_script.specs.declared.script.StrictEnd.{StrictEnd}

-- what stands on a content stands on it, whatever it is called
on_same : {c b : Content} (same : c ≡ b) {s : State} (segments number : ℕ) (stands : Stands c s) → segments ≡ stands.checkpoint.segments
    → number ≡ stands.checkpoint.number
    → (here : Stands b s) × (segments ≡ here.checkpoint.segments) × (number ≡ here.checkpoint.number)
on_same same {s} segments number stands of_segments of_number =
    subst (λ (x : Content). (here : Stands x s) × (segments ≡ here.checkpoint.segments) × (number ≡ here.checkpoint.number)) same
    (stands, of_segments, of_number)

module _ {old mid : DeviceState} (looks : SyncsOnce old mid) (failures : mid.failures ≡ old.failures) {new : DeviceState} where
  -- what a stop leaves since the first of them
  leaves_begun : (P Q : Content → Type 0) → ((c : Content) → old.may_leave c → Q c) → ((c : Content) → P c → Q c) → LeavesOnly mid new P
      → LeavesOnly old new Q
  leaves_begun P Q was is leaves = joined old.may_leave P Q looks.any_moment leaves was is

  uses_begun : {lines : List Line} {answers : List Answer} → UsesVolume mid new lines answers → UsesVolume old new lines answers
  uses_begun uses =
      let here = on_same looks.untouched.content uses.segments uses.first.number uses.stands uses.same_segments uses.same_number in
      record {
        first = uses.first;
        points = uses.points;
        segments = uses.segments;
        stands = here.0;
        same_segments = here.1;
        same_number = here.2;
        running = uses.running;
        run = uses.run;
        unstuck = uses.unstuck;
        failures_before = uses.failures_before ∙ failures;
        failures_after = uses.failures_after;
        orders_before = uses.orders_before ∙ same_orders looks.carries failures;
        orders_after = uses.orders_after;
        number_after = uses.number_after;
        same_shape = λ c left. uses.same_shape c left ∙ ap shape_in looks.untouched.content;
        moments = leaves_begun (λ c. mid.may_leave c ⊎ StandsForSome (uses.first ∷ uses.points) c)
            (λ c. old.may_leave c ⊎ StandsForSome (uses.first ∷ uses.points) c) (λ c was. inl was)
            (λ c is. ⊎_elim (λ was. inl (looks.untouched.crash c was)) (λ some. inr some) is) uses.moments;
        pending = uses.pending;
        continues = λ before calls given was. (
            let more = uses.continues before calls given (λ c left. was c (looks.untouched.crash c left)) in
            record {
              began = more.began;
              moments = leaves_begun (λ c. StandsForPrefix c before calls given ⊎ StandsForSome (uses.first ∷ uses.points) c)
                  (λ c. StandsForPrefix c before calls given ⊎ StandsForSome (uses.first ∷ uses.points) c) (λ c here. inl (was c here))
                  (λ c is. is) more.moments;
            });
      }

  noted_begun : {lines : List Line} {answers : List Answer} {clocks : List ℕ} → UsesNoted mid new lines answers clocks
      → UsesNoted old new lines answers clocks
  unfolding uses_begun
  noted_begun told = record { uses = uses_begun told.uses; since = told.since }

  until_begun : {lines : List Line} {answers : List Answer} {clocks : List ℕ} (j u : ℕ) → UsesUntil mid new lines answers clocks j u
      → UsesUntil old new lines answers clocks j u
  until_begun j u until =
      let here = on_same looks.untouched.content until.segments until.stands.checkpoint.number until.stands until.same_segments refl in
      record {
        first = until.first;
        segments = until.segments;
        stands = here.0;
        same_segments = here.1;
        running = until.running;
        kept = until.kept;
      }

  pub session_begun : {end : ScriptEnd} {r r' w w' : Option (List ℕ)} → Session end r r' w w' mid new → Session end r r' w w' old new
  session_begun session = record {
    texts = session.texts;
    script = session.script;
    answers = session.answers;
    spelled = session.spelled;
    bytes = session.bytes;
    uses = λ keeps. uses_begun (session.uses keeps);
  }

  pub told_begun : {strict : Bool} {end : StrictEnd} {r r' w w' : Option (List ℕ)} {s s' : List Glance}
      → SessionNoted strict end r r' w w' mid new s s' → SessionNoted strict end r r' w w' old new s s'
  told_begun session = record {
    texts = session.texts;
    script = session.script;
    answers = session.answers;
    clocks = session.clocks;
    spelled = session.spelled;
    bytes = session.bytes;
    glanced = session.glanced;
    uses = λ keeps. noted_begun (session.uses keeps);
    past = session.past;
    until = λ j u is kept. until_begun j u (session.until j u is kept);
  }

  -- and so is why a mount behind them was refused
  pub unused_begun : {R W : Type 0} {r r' : R} {w w' : W} (fault : MountFault) → IsUnused r r' w w' mid new fault
      → IsUnused r r' w w' old new fault
  unused_begun fault unused = record {
    cause = λ other. faulty_begun looks failures new fault (unused.cause other);
    reason = refused_begun looks failures new fault unused.reason;
    left = λ c left. looks.untouched.crash c (unused.left c left);
    any_moment = leaves_begun mid.may_leave old.may_leave (λ c was. was) looks.untouched.crash unused.any_moment;
    unread = unused.unread;
    unwritten = unused.unwritten;
  }
