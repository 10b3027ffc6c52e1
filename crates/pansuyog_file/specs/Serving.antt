-- What a call of C makes of a volume: what the model's call makes of it.
use Rattle.std.specs.Prelude.{◌≡◌, ℕ, ℤ, List}
use Rattle.lfs_model.specs.Call.{Call}
use Rattle.pansuyog_calls.specs.Recording as recording
use Rattle.pansuyog_calls.specs.Serving as calls
use Rattle.pansuyog_calls.specs.Telling as telling
use Rattle.pansuyog_calls.specs.declared.rows.Space.{Space}
use Rattle.pansuyog_calls.specs.declared.rows.Stat.{Stat}
use Rattle.pansuyog_file.specs.Devices.{volume_state}
use Rattle.pansuyog_file.specs.declared.handle.Volume.{Volume}

abbrev pub ServesCall : Volume → Volume → Call → ℤ → Type 0
ServesCall old new call code = calls.ServesCall volume_state old.inner.fs new.inner.fs call code

-- a call that may write: where the volume is only read it is refused
abbrev pub ServesChange : Volume → Volume → Call → ℤ → Type 0
ServesChange old new call code = calls.ServesChange volume_state old.inner.access old.inner.fs new.inner.fs call code

abbrev pub ServesBytes : Volume → Volume → Call → ℤ → List ℕ → List ℕ → Type 0
ServesBytes old new call code before after = calls.ServesBytes volume_state old.inner.fs new.inner.fs call code before after

abbrev pub ServesStat : Volume → Volume → Call → ℤ → Stat → Stat → Type 0
ServesStat old new call code before after = telling.ServesStat volume_state old.inner.fs new.inner.fs call code before after

abbrev pub ServesSpace : Volume → Volume → ℤ → Space → Space → Type 0
ServesSpace old new code before after = telling.ServesSpace volume_state old.inner.fs new.inner.fs code before after

abbrev pub ServesListing : Volume → Volume → Call → ℤ → Type 0
ServesListing old new call code =
    telling.ServesListing volume_state old.inner.fs new.inner.fs call code old.inner.listing new.inner.listing

abbrev pub BeginsRecorder : Volume → Volume → ℕ → ℕ → ℤ → Type 0
BeginsRecorder old new bytes files code = recording.BeginsIn volume_state old.inner.access old.inner.fs new.inner.fs old.inner.recorder
    new.inner.recorder bytes files code

abbrev pub WritesLine : Volume → Volume → List ℕ → List ℕ → ℤ → Type 0
WritesLine old new day line code = recording.WritesIn volume_state old.inner.access old.inner.fs new.inner.fs old.inner.recorder
    new.inner.recorder day line code

abbrev pub SavesLines : Volume → Volume → ℤ → Type 0
SavesLines old new code = recording.SavesIn volume_state old.inner.access old.inner.fs new.inner.fs old.inner.recorder code

-- the volume is as it was
abbrev pub IsUnchanged : Volume → Volume → Type 0
IsUnchanged old new = new ≡ old

-- all but the mounted volume is as it was
pub record KeepsRest (old new : Volume) : Type 0 where
  pub device : new.inner.device ≡ old.inner.device
  pub listing : new.inner.listing ≡ old.inner.listing
  pub access : new.inner.access ≡ old.inner.access
  pub recorder : new.inner.recorder ≡ old.inner.recorder

-- all but the mounted volume and its recorder is as it was
pub record KeepsAllElse (old new : Volume) : Type 0 where
  pub device : new.inner.device ≡ old.inner.device
  pub listing : new.inner.listing ≡ old.inner.listing
  pub access : new.inner.access ≡ old.inner.access
