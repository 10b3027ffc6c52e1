-- A whole use of a volume: mounted, a script run on it, and what a stop leaves of it. The language is an own choice.
use Rattle.std.specs.Prelude.{◌≡◌, ◌≤◌, ℕ, Bool, Option, Some, List, slice_get}
use Rattle.lfs_model.specs.Call.{Answer}
use Rattle.lfs_model.specs.Device.{DeviceState}
use Rattle.lfs_model.specs.Script.{Line}
use Rattle.lfs_model.specs.Since.{UsesNoted, UsesUntil}
use Rattle.lfs_model.specs.Use.{UsesVolume}
use Rattle.lfs_script.specs.Ending.{AreSpelled, EndOf}
use Rattle.lfs_script.specs.Strict.{StrictEndOf}
use Rattle.lfs_script.specs.Noted.{Glance, Glanced}
use Rattle.lfs_script.specs.declared.script.StrictEnd.{StrictEnd}
use Rattle.lfs_script.specs.declared.script.ScriptEnd.{ScriptEnd}

-- A use of a volume by a script, from the reader, the writer and the device before its mount to
-- those at the end. The texts of these lines were read, and what was written is the replies of
-- these answers, over any device. Where it keeps the device model, they are a use of its volume.
pub record Session (end : ScriptEnd) (r r' w w' : Option (List ℕ)) (d d' : DeviceState) : Type 0 where
  pub texts : List (List ℕ)
  pub script : List Line
  pub answers : List Answer
  pub spelled : AreSpelled texts script
  pub bytes : EndOf end r r' w w' texts answers
  pub uses : d'.keeps_model → UsesVolume d d' script answers

-- The same, before a witness, which glanced at device and writer before each reply went out.
pub record SessionNoted (strict : Bool) (end : StrictEnd) (r r' w w' : Option (List ℕ)) (d d' : DeviceState)
    (s s' : List Glance) : Type 0 where
  pub texts : List (List ℕ)
  pub script : List Line
  pub answers : List Answer
  pub clocks : List ℕ
  pub spelled : AreSpelled texts script
  pub bytes : StrictEndOf strict end r r' w w' texts answers
  pub glanced : Glanced w answers clocks s s'
  pub uses : d'.keeps_model → UsesNoted d d' script answers clocks
  -- the clocks are of moments that are past
  pub past : (i t : ℕ) → slice_get clocks i ≡ Some t → t ≤ d'.moment
  -- and so they are up to each reply, where it kept the model until then, whatever it does later
  pub until : (j u : ℕ) → slice_get clocks j ≡ Some u → d'.kept_until u → UsesUntil d d' script answers clocks j u
