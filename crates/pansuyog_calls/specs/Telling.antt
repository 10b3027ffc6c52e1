-- What C is told of an object, of the volume, and of the names in a directory.
use Rattle.std.specs.Prelude.{◌≡◌, ◌⊎◌, ℕ, ℤ, pos, true, List, length, map, Option, Some, None, Vec}
use Rattle.std.specs.declared.alloc.Global.{Global}
use Rattle.lfs_model.specs.Call as model
use Rattle.lfs_model.specs.Call.{Answer, Call}
use Rattle.lfs_model.specs.Refusal.{Halted}
use Rattle.lfs_model.specs.Device.{DeviceState}
use Rattle.lfs_fs.specs.Answers.{entry_of}
use Rattle.lfs_format.specs.declared.shape.Shape.{Shape as ToldShape}
use Rattle.lfs_fs.specs.Seen.{seen}
use Rattle.lfs_fs.specs.Shapes.{IsShapeOf}
use Rattle.lfs_fs.specs.declared.fs.Fs.{Fs}
use Rattle.lfs_fs.specs.entries.declared.rows.ListedEntry.{ListedEntry as Row}
use Rattle.lfs_fs.specs.declared.rows.Stat.{Stat as Told}
use Rattle.pansuyog_calls.specs.Bytes.{filled}
use Rattle.pansuyog_calls.specs.Codes.{code_of_count, code_of_kind, code_of_refusal, not_mounted}
use Rattle.pansuyog_calls.specs.Serving.{ServesIn}
use Rattle.pansuyog_calls.specs.declared.rows.Entry.{Entry}
use Rattle.pansuyog_calls.specs.declared.rows.Shape.{Shape}
use Rattle.pansuyog_calls.specs.declared.rows.Space.{Space}
use Rattle.pansuyog_calls.specs.declared.rows.Stat.{Stat}

-- What C has of an object is what the model tells.
pub record IsStatus (status : model.Stat) (out : Stat) : Type 0 where
  pub size : out.size ≡ status.size
  pub number : out.number ≡ status.number
  pub kind : out.kind ≡ code_of_kind status.kind
  pub links : out.links ≡ status.links

-- the same, of what a volume tells
pub record IsStat (stat : Told) (out : Stat) : Type 0 where
  pub size : out.size ≡ stat.size
  pub number : out.number ≡ stat.number
  pub kind : out.kind ≡ code_of_kind stat.kind
  pub links : out.links ≡ stat.links

-- C is told the number of the answer, and given what is told of the object; where it is refused its memory is as it was
abbrev pub TellsStat : ℤ → Stat → Stat → Answer → Type 0
TellsStat code before after (model.Status status) = (code ≡ pos 0) × IsStatus status after
TellsStat code before after (model.Refuse why) = (code ≡ code_of_refusal why) × (after ≡ before)
TellsStat code before after _ = ⊥

-- What C has of the volume is what the model tells.
pub record IsSpace (blocks others need limit : ℕ) (out : Space) : Type 0 where
  pub data_blocks : out.data_blocks ≡ blocks
  pub meta_blocks : out.meta_blocks ≡ others
  pub needed : out.need ≡ need
  pub most : out.limit ≡ limit

abbrev pub TellsSpace : ℤ → Space → Space → Answer → Type 0
TellsSpace code before after (model.Room blocks others need limit) = (code ≡ pos 0) × IsSpace blocks others need limit after
TellsSpace code before after (model.Refuse why) = (code ≡ code_of_refusal why) × (after ≡ before)
TellsSpace code before after _ = ⊥

-- What C has of a shape is what a volume tells.
pub record IsShape (shape : ToldShape) (out : Shape) : Type 0 where
  pub segments : out.segments ≡ shape.segments
  pub version : out.version ≡ shape.version
  pub segment : out.segment_sectors ≡ shape.segment_sectors
  pub unit : out.unit ≡ shape.unit

-- C is told the shape of the volume that is mounted. Where that is halted, or none is, its memory is as it was.
abbrev pub TellsShape : {D : Type 0} → Option (Fs D) → ℤ → Shape → Shape → Type 0
TellsShape (Some fs) code before after =
    ((code ≡ pos 0) × (shape : ToldShape) × IsShapeOf (seen fs) shape × IsShape shape after)
    ⊎ ((code ≡ code_of_refusal Halted) × ((seen fs).log.halted ≡ true) × (after ≡ before))
TellsShape None code before after = (code ≡ not_mounted) × (after ≡ before)

-- C is told how many names there are, which are kept; where it is refused those that were kept are
abbrev pub TellsListing : ℤ → List Row → List Row → Answer → Type 0
TellsListing code before after (model.Entries entries) = (code ≡ code_of_count (length entries)) × (map entry_of after ≡ entries)
TellsListing code before after (model.Refuse why) = (code ≡ code_of_refusal why) × (after ≡ before)
TellsListing code before after _ = ⊥

-- One of the names that are kept: C is told its length, and given it with what it names. Where there is none C is told 0.
abbrev pub TellsEntry : Option Row → ℤ → Entry → Entry → List ℕ → List ℕ → Type 0
TellsEntry (Some row) code before after name_before name_after =
    (code ≡ code_of_count (length row.name.items)) × (after.number ≡ row.number) × (after.kind ≡ code_of_kind row.kind)
    × (name_after ≡ filled row.name.items name_before)
TellsEntry None code before after name_before name_after = (code ≡ pos 0) × (after ≡ before) × (name_after ≡ name_before)

module _ {D : Type 0} (state : D → DeviceState) where
  abbrev pub ServesStat : Option (Fs D) → Option (Fs D) → Call → ℤ → Stat → Stat → Type 0
  ServesStat old new call code before after =
      ServesIn state old new call (TellsStat code before after) ((code ≡ not_mounted) × (after ≡ before))

  abbrev pub ServesSpace : Option (Fs D) → Option (Fs D) → ℤ → Space → Space → Type 0
  ServesSpace old new code before after =
      ServesIn state old new model.Space (TellsSpace code before after) ((code ≡ not_mounted) × (after ≡ before))

  abbrev pub ServesListing : Option (Fs D) → Option (Fs D) → Call → ℤ → Vec Row Global → Vec Row Global → Type 0
  ServesListing old new call code before after =
      ServesIn state old new call (TellsListing code before.items after.items) ((code ≡ not_mounted) × (after ≡ before))
