-- What the lines of a script do to a volume: a run of the model, and what a stop in it leaves. The language of scripts is an own choice.
use Rattle.std.specs.Prelude.{◌≡◌, ◌⊎◌, ◌≤◌, ℕ, IsTrue, false, Some, List, [], ◌∷◌, length, map, slice_get}
use Rattle.lfs_model.specs.Call.{Answer, Refuse}
use Rattle.lfs_model.specs.Device.{AllLeft, DeviceState, Carries, LeavesOnly}
use Rattle.lfs_model.specs.Refusal.{NoMemory}
use Rattle.lfs_model.specs.Run.{LineRun, Point, final, has_word}
use Rattle.lfs_model.specs.Script.{Line, call_of}
use Rattle.lfs_model.specs.Since.{AreKeptSince, AreKeptUntil}
use Rattle.lfs_model.specs.Tree.{drop_nameless}
use Rattle.lfs_model.specs.TreeOf.{LeavesOne, LeavesStates}
use Rattle.lfs_model.specs.UnitLaws.{HasShapeOf}
use Rattle.lfs_model.specs.Use.{AreUnstuck, StandsForSome, left_states}
use Rattle.lfs_model.specs.Volume.{LeavesPrefix}
use Rattle.lfs_fs.specs.Volume.{IsAt, Mounted, Serves, segments_of}

module _ {D : Type 0} (state : D → DeviceState) where
  -- a line's call; or nothing, where memory for its word was refused
  abbrev pub ServesLine : Mounted D → Mounted D → Line → Answer → Type 0
  ServesLine old new line answer = Serves state old new (call_of line) answer
      ⊎ (IsTrue (has_word line) × (answer ≡ Refuse NoMemory) × (new ≡ old))

  -- Lines one after the other, each on the volume as the line before it left it.
  abbrev pub ServesLines : Mounted D → Mounted D → List Line → List Answer → Type 0
  ServesLines old new [] [] = new ≡ old
  ServesLines old new (line ∷ lines) (answer ∷ answers) =
      (mid : Mounted D) × ServesLine old mid line answer × ServesLines mid new lines answers
  ServesLines old new _ _ = ⊥

  -- Lines of a volume at a point: their answers are a run of the model from there. A stop at any moment
  -- leaves what it might have left at the start, or the state after some of the lines, without files of
  -- no name; and at the end, after lines that hold every line up to the last acknowledged sync.
  pub record RanAt (old new : Mounted D) (lines : List Line) (answers : List Answer) (p : Point) : Type 0 where
    pub points : List Point
    pub run : LineRun (segments_of old) p lines answers points
    pub at : IsAt state new (final p points)
    pub leaves : LeavesStates (state old.log.device) (state new.log.device) (left_states (p ∷ points))
    pub shape : AllLeft (state new.log.device) (HasShapeOf (state old.log.device))
    -- where a stop at the start left its state alone
    pub moments : LeavesOne (state old.log.device) (drop_nameless p.state)
        → LeavesOnly (state old.log.device) (state new.log.device) (StandsForSome (p ∷ points))
    pub pending : LeavesOne (state old.log.device) (drop_nameless p.state)
        → LeavesPrefix (state new.log.device) (p ∷ points) (map call_of lines) answers

  -- The same, from any point where the device keeps the model. Over any device each line is served as one call is, and no call is stuck.
  pub record RunsLines (old new : Mounted D) (lines : List Line) (answers : List Answer) : Type 0 where
    pub carries : Carries (state old.log.device) (state new.log.device)
    pub segments : new.log.halted ≡ false → segments_of new ≡ segments_of old
    pub through : ServesLines old new lines answers
    pub unstuck : AreUnstuck answers
    pub model : (p : Point) → (state new.log.device).keeps_model → IsAt state old p → RanAt old new lines answers p

  -- As `RanAt`, with the clocks at which the replies went out.
  pub record ToldAt (old new : Mounted D) (lines : List Line) (answers : List Answer) (clocks : List ℕ) (p : Point) : Type 0 where
    pub ran : RanAt old new lines answers p
    -- where a stop at the start left its state alone, what was told is kept from then on
    pub kept : LeavesOne (state old.log.device) (drop_nameless p.state)
        → AreKeptSince (state new.log.device) (p ∷ ran.points) (map call_of lines) answers clocks

  -- As `RunsLines`, with the clocks at which the replies went out.
  pub record TellsLines (old new : Mounted D) (lines : List Line) (answers : List Answer) (clocks : List ℕ) : Type 0 where
    pub runs : RunsLines old new lines answers
    pub one_each : length clocks ≡ length lines
    -- the clocks are moments of this run
    pub clocks_within : (i t : ℕ) → slice_get clocks i ≡ Some t → ((state old.log.device).moment ≤ t) × (t ≤ (state new.log.device).moment)
    pub told : (p : Point) → (state new.log.device).keeps_model → IsAt state old p → ToldAt old new lines answers clocks p
    -- what was told by one of the replies is kept whatever came behind it
    pub until : (j u : ℕ) → slice_get clocks j ≡ Some u → (state new.log.device).kept_until u → (p : Point) → IsAt state old p
        → LeavesOne (state old.log.device) (drop_nameless p.state)
        → AreKeptUntil (state new.log.device) (segments_of old) p lines answers clocks j u
