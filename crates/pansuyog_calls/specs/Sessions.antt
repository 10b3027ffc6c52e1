-- A recorder that C begins, its lines and saves in a row, and what a stop leaves of the lines. It is an own choice.
use Rattle.std.specs.Prelude.{◌≡◌, ℕ, ℤ, pos, negsuc, List, [], ◌∷◌, ◌++◌, Option, Some, None, take}
use Rattle.lfs_model.specs.Content.{Content}
use Rattle.lfs_model.specs.Device.{DeviceState}
use Rattle.lfs_model.specs.Run.{Point}
use Rattle.lfs_model.specs.Tree.{State}
use Rattle.lfs_model.specs.TreeOf.{Stands}
use Rattle.lfs_fs.specs.InARow.{IsSavedAt, IsTended}
use Rattle.lfs_fs.specs.Seen.{seen}
use Rattle.lfs_fs.specs.declared.fs.Fs.{Fs}
use Rattle.lfs_record.specs.Kept.{Holds, RecordFile, files_in, text_of}
use Rattle.lfs_record.specs.declared.recorder.Recorder.{Recorder}
use Rattle.pansuyog_calls.specs.Recording.{BeginsIn, SavesIn, WritesIn, present_of}
use Rattle.pansuyog_calls.specs.declared.access.Access.TheVariants.{ReadWrite}

-- what is written of a line by what C is told: its text, and nothing of one that is refused
abbrev pub text_told : ℤ → List ℕ → List (List ℕ)
text_told (pos code) line = text_of line ∷ []
text_told (negsuc code) line = []

-- The content stands for a state whose files hold, since the first ones, these texts and perhaps some of the later ones.
pub record HoldsTexts (first : List RecordFile) (saved later : List (List ℕ)) (c : Content) : Type 0 where
  pub n : ℕ
  pub tree : State
  pub stands : Stands c tree
  pub holds : Holds first (saved ++ take n later) (files_in tree.tree)

module _ {D : Type 0} (state : D → DeviceState) where
  -- Lines and saves by C in a row on a volume that may be written, and the texts of those lines that C is told are written. The device may
  -- be tended to at any time between.
  pub data RecordsInARow (last : Option (Fs D)) (end : Option Recorder) : Option (Fs D) → Option Recorder → List (List ℕ) → Type 0 where
    no_more : RecordsInARow last end last end []
    is_written : {old : Option (Fs D)} {was : Option Recorder} {texts : List (List ℕ)} (new : Option (Fs D)) (now : Option Recorder)
        (day line : List ℕ) (code : ℤ) → WritesIn state ReadWrite old new was now day line code → RecordsInARow last end new now texts
        → RecordsInARow last end old was (text_told code line ++ texts)
    is_saved : {old : Option (Fs D)} {was : Option Recorder} {texts : List (List ℕ)} (new : Option (Fs D)) (code : ℤ)
        → SavesIn state ReadWrite old new was code → RecordsInARow last end new was texts → RecordsInARow last end old was texts
    is_tended : {old : Option (Fs D)} {was : Option Recorder} {texts : List (List ℕ)} (before now : Fs D) → old ≡ Some before
        → IsTended state (seen before) (seen now) → RecordsInARow last end (Some now) was texts → RecordsInARow last end old was texts

  -- C begins a recorder where none before has a file open, writes lines, is told that a save is done, and writes lines again.
  pub record Session (old saved new : Fs D) (first later : List (List ℕ)) : Type 0 where
    pub was : Option Recorder
    pub begun : Option (Fs D)
    pub recorder : Option Recorder
    pub bytes : ℕ
    pub files : ℕ
    pub none_open : present_of was ≡ None
    pub begins : BeginsIn state ReadWrite (Some old) begun was recorder bytes files (pos 0)
    pub between : Option (Fs D)
    pub next : Option Recorder
    pub row : RecordsInARow between next begun recorder first
    pub saves : SavesIn state ReadWrite between (Some saved) next (pos 0)
    pub last : Option Recorder
    pub rest : RecordsInARow (Some new) last (Some saved) next later

  -- Over a device that keeps the device model, and from a volume on that is saved, a stop at any moment since the save leaves all lines
  -- that C was told are written before it, behind what the files held before, but for whole files that went.
  abbrev pub RecordsAreSaved : Type 0
  RecordsAreSaved = (old saved new : Fs D) (first later : List (List ℕ)) → Session old saved new first later
      → (state (seen new).log.device).keeps_model → (start : Point) → IsSavedAt state (seen old) start → (c : Content)
      → (state (seen new).log.device).left_since (state (seen saved).log.device).moment c
      → HoldsTexts (files_in start.state.tree) first later c
