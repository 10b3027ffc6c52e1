-- What a stop leaves from the moment on at which a reply went out. It is an own choice: POSIX.1-2017 doesn't say what a stop leaves.
use Rattle.std.specs.Prelude.{◌≡◌, ℕ, suc, ◌≤◌, false, Some, List, ◌∷◌, drop, map, take, slice_get}
use Rattle.lfs_model.specs.Call.{Answer, Call}
use Rattle.lfs_model.specs.Content.{Content}
use Rattle.lfs_model.specs.Device.{DeviceState}
use Rattle.lfs_model.specs.Run.{LineRun, NoneAcknowledged, Point}
use Rattle.lfs_model.specs.Script.{Line, call_of}
use Rattle.lfs_model.specs.Tree.{drop_nameless}
use Rattle.lfs_model.specs.TreeOf.{Stands}
use Rattle.lfs_model.specs.Use.{UsesVolume}

-- The content stands for the state after some of the calls, behind every acknowledged one among the first k: points are those before the
-- first call and after each.
pub record StandsFrom (points : List Point) (calls : List Call) (answers : List Answer) (k : ℕ) (c : Content) : Type 0 where
  pub n : ℕ
  pub point : Point
  pub at : slice_get points n ≡ Some point
  pub none_later : NoneAcknowledged (drop n (take k calls)) (drop n (take k answers))
  pub stands : Stands c (drop_nameless point.state)

-- A stop at any moment since that one leaves such a content.
abbrev pub Since : DeviceState → List Point → List Call → List Answer → ℕ → ℕ → Type 0
Since d points calls answers k t = (c : Content) → d.left_since t c → StandsFrom points calls answers k c

-- So it is for each reply, by the clock at which its last byte went out: the first clock is that of the first reply.
pub record AreKeptSince (d : DeviceState) (points : List Point) (calls : List Call) (answers : List Answer) (clocks : List ℕ) : Type 0 where
  pub past : (i t : ℕ) → slice_get clocks i ≡ Some t → t ≤ d.moment
  pub since : (i t : ℕ) → slice_get clocks i ≡ Some t → Since d points calls answers (suc i) t

-- What holds by the reply to the j-th line, counted from 0, at its clock u, whatever the device does later: it kept the model until then.
-- The answers up to that one are a run from the first point, and a stop at a moment from that of an earlier reply up to u leaves the state
-- behind every call that was acknowledged by then, or a later one.
pub record AreKeptUntil (d : DeviceState) (segments : ℕ) (first : Point) (lines : List Line) (answers : List Answer) (clocks : List ℕ)
    (j u : ℕ) : Type 0 where
  pub points : List Point
  pub run : LineRun segments first (take (suc j) lines) (take (suc j) answers) points
  pub since : (i t : ℕ) → i ≤ j → slice_get clocks i ≡ Some t → (c : Content) → d.left_until t u c
      → StandsFrom (first ∷ points) (map call_of (take (suc j) lines)) (take (suc j) answers) (suc i) c

-- A use up to such a reply: it begins with the state that the device's content stands for.
pub record UsesUntil (d d' : DeviceState) (lines : List Line) (answers : List Answer) (clocks : List ℕ) (j u : ℕ) : Type 0 where
  pub first : Point
  pub segments : ℕ
  pub stands : Stands d.content first.state
  pub same_segments : segments ≡ stands.checkpoint.segments
  pub running : first.halted ≡ false
  pub kept : AreKeptUntil d' segments first lines answers clocks j u

-- As `UsesVolume`, with the clocks at which the replies went out: a stop at any moment since that of a reply leaves the state behind
-- every call that was acknowledged by then, or a later one.
pub record UsesNoted (d d' : DeviceState) (lines : List Line) (answers : List Answer) (clocks : List ℕ) : Type 0 where
  pub uses : UsesVolume d d' lines answers
  pub since : AreKeptSince d' (uses.first ∷ uses.points) (map call_of lines) answers clocks
