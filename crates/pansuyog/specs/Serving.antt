-- What a call of C makes of a volume: what the model's call makes of it. Every call is made.
use Rattle.std.specs.Prelude.{◌≡◌, ℕ, ℤ, List}
use Rattle.lfs_model.specs.Call.{Call}
use Rattle.lfs_volume.specs.Found.{by_volume}
use Rattle.lfs_queue.specs.Queue.{queue_state}
use Rattle.pansuyog_calls.specs.Recording as recording
use Rattle.pansuyog_calls.specs.Serving as calls
use Rattle.pansuyog_calls.specs.Telling as telling
use Rattle.pansuyog_calls.specs.declared.access.Access.TheVariants.{ReadWrite}
use Rattle.pansuyog_calls.specs.declared.rows.Space.{Space}
use Rattle.pansuyog_calls.specs.declared.rows.Stat.{Stat}
use Rattle.pansuyog.specs.declared.handle.Volume.{Volume}

abbrev pub ServesCall : Volume → Volume → Call → ℤ → Type 0
ServesCall old new call code = calls.ServesCall (by_volume queue_state) old.fs new.fs call code

abbrev pub ServesBytes : Volume → Volume → Call → ℤ → List ℕ → List ℕ → Type 0
ServesBytes old new call code before after = calls.ServesBytes (by_volume queue_state) old.fs new.fs call code before after

abbrev pub ServesStat : Volume → Volume → Call → ℤ → Stat → Stat → Type 0
ServesStat old new call code before after = telling.ServesStat (by_volume queue_state) old.fs new.fs call code before after

abbrev pub ServesSpace : Volume → Volume → ℤ → Space → Space → Type 0
ServesSpace old new code before after = telling.ServesSpace (by_volume queue_state) old.fs new.fs code before after

abbrev pub ServesListing : Volume → Volume → Call → ℤ → Type 0
ServesListing old new call code = telling.ServesListing (by_volume queue_state) old.fs new.fs call code old.listing new.listing

abbrev pub BeginsRecorder : Volume → Volume → ℕ → ℕ → ℤ → Type 0
BeginsRecorder old new bytes files code =
    recording.BeginsIn (by_volume queue_state) ReadWrite old.fs new.fs old.recorder new.recorder bytes files code

abbrev pub WritesLine : Volume → Volume → List ℕ → List ℕ → ℤ → Type 0
WritesLine old new day line code =
    recording.WritesIn (by_volume queue_state) ReadWrite old.fs new.fs old.recorder new.recorder day line code

abbrev pub SavesLines : Volume → Volume → ℤ → Type 0
SavesLines old new code = recording.SavesIn (by_volume queue_state) ReadWrite old.fs new.fs old.recorder code

-- the volume is as it was
abbrev pub IsUnchanged : Volume → Volume → Type 0
IsUnchanged old new = new ≡ old

-- the names that were listed last are there still
abbrev pub KeepsListing : Volume → Volume → Type 0
KeepsListing old new = new.listing ≡ old.listing

-- all but the mounted volume is as it was
pub record KeepsRest (old new : Volume) : Type 0 where
  pub source : new.source ≡ old.source
  pub listing : new.listing ≡ old.listing
  pub recorder : new.recorder ≡ old.recorder

-- all but the mounted volume and its recorder is as it was
pub record KeepsAllElse (old new : Volume) : Type 0 where
  pub source : new.source ≡ old.source
  pub listing : new.listing ≡ old.listing
