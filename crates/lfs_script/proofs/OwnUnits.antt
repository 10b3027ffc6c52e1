-- What is said of a device as one of larger units is said of the device itself, where its own lie within those.
use Rattle.std.proofs.Common.{⊎_elim, inl, inr, ℕ, Bool, Option, List, arith}
use Rattle.lfs_model.specs.Call.{Answer}
use Rattle.lfs_model.specs.Device.{DeviceState, LeavesOnly, LieWithin, in_units}
use Rattle.lfs_model.specs.Content.{Content}
use Rattle.lfs_model.specs.Script.{Line}
use Rattle.lfs_model.specs.Since.{UsesNoted, UsesUntil}
use Rattle.lfs_model.specs.Use.{UsesVolume}
use Rattle.lfs_device.specs.MemoryDevice.{device_state}
use Rattle.lfs_script.specs.Noted.{Glance}
use Rattle.lfs_script.specs.OwnUnits.{SessionsOfOwnUnits}
use Rattle.lfs_script.specs.Session.{SessionNoted}
use Rattle.lfs_script.specs.declared.script.StrictEnd.{StrictEnd}

module _ (unit : ℕ → ℕ) (d d' : DeviceState) (lie : LieWithin d.unit unit) (lie' : LieWithin d'.unit unit) where
  abbrev before : DeviceState
  before = in_units unit d

  abbrev after : DeviceState
  after = in_units unit d'

  leaves_own : (P Q : Content → Type 0) → ((c : Content) → P c → Q c) → LeavesOnly before after P → LeavesOnly d d' Q
  leaves_own P Q to leaves = record {
    later = leaves.later;
    each = λ c left. to c (leaves.each c (lie', left));
    before = λ t c le left. ⊎_elim (λ was. inl was.1) (λ has. inr (to c has)) (leaves.before t c le (lie', left));
  }

  uses_own : {lines : List Line} {answers : List Answer} → UsesVolume before after lines answers → UsesVolume d d' lines answers
  uses_own uses = record {
    first = uses.first;
    points = uses.points;
    segments = uses.segments;
    stands = uses.stands;
    same_segments = uses.same_segments;
    same_number = uses.same_number;
    running = uses.running;
    run = uses.run;
    unstuck = uses.unstuck;
    failures_before = uses.failures_before;
    failures_after = uses.failures_after;
    orders_before = uses.orders_before;
    orders_after = uses.orders_after;
    number_after = λ on c left. uses.number_after on c (lie', left);
    same_shape = λ c left. uses.same_shape c (lie', left);
    moments = leaves_own _ _ (λ c is. ⊎_elim (λ was. inl was.1) (λ some. inr some) is) uses.moments;
    pending = λ c left. uses.pending c (lie', left);
    continues = λ points calls given was. (
        let more = uses.continues points calls given (λ c left. was c left.1) in
        record { began = more.began; moments = leaves_own _ _ (λ c is. is) more.moments });
  }

  noted_own : {lines : List Line} {answers : List Answer} {clocks : List ℕ} → UsesNoted before after lines answers clocks
      → UsesNoted d d' lines answers clocks
  unfolding uses_own
  noted_own told = record {
    uses = uses_own told.uses;
    since = record { past = told.since.past; since = λ i t is c left. told.since.since i t is c (lie', left) };
  }

  until_own : {lines : List Line} {answers : List Answer} {clocks : List ℕ} (j u : ℕ) → UsesUntil before after lines answers clocks j u
      → UsesUntil d d' lines answers clocks j u
  until_own j u until = record {
    first = until.first;
    segments = until.segments;
    stands = until.stands;
    same_segments = until.same_segments;
    running = until.running;
    kept = record {
      points = until.kept.points;
      run = until.kept.run;
      since = λ i t le at c left. until.kept.since i t le at c (lie', left);
    };
  }

  session_own : {strict : Bool} {end : StrictEnd} {r r' w w' : Option (List ℕ)} {s s' : List Glance}
      → SessionNoted strict end r r' w w' before after s s' → SessionNoted strict end r r' w w' d d' s s'
  session_own session = record {
    texts = session.texts;
    script = session.script;
    answers = session.answers;
    clocks = session.clocks;
    spelled = session.spelled;
    bytes = session.bytes;
    glanced = session.glanced;
    uses = λ keeps. noted_own (session.uses (lie', keeps));
    past = session.past;
    until = λ j u is kept. until_own j u (session.until j u is (lie', kept));
  }

-- a memory device keeps its units
pub own_units : SessionsOfOwnUnits
own_units strict end r r' w w' d d' s s' unit lie carries session =
    let kept = (carries.kept_as 0 (omega arith)).1 (lie, tt) in
    session_own unit (device_state d) (device_state d') lie kept.0 session
