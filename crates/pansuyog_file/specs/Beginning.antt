-- A volume that is begun.
use Rattle.std.specs.Prelude.{◌≡◌, ◌⊎◌, ℤ, pos, [], Some, None}
use Rattle.pansuyog_calls.specs.Codes.{no_memory}
use Rattle.pansuyog_calls.specs.declared.access.Access.TheVariants.{ReadWrite}
use Rattle.pansuyog_file.specs.declared.handle.Volume.{Volume}
use Rattle.pansuyog_file.specs.declared.place.Place.{Place}

-- A volume stands there that holds nothing, and may be written.
pub record StandsNew (place : Place) : Type 0 where
  pub volume : Volume
  pub stands : place.volume ≡ Some volume
  pub unmounted : volume.inner.fs ≡ None
  pub device : volume.inner.device ≡ None
  pub listing : volume.inner.listing.items ≡ []
  pub access : volume.inner.access ≡ ReadWrite
  pub recorder : volume.inner.recorder ≡ None

-- It is begun at a place of C's, or memory is refused and nothing is put there.
abbrev pub Begins : Place → Place → ℤ → Type 0
Begins old new code = ((code ≡ pos 0) × StandsNew new) ⊎ ((code ≡ no_memory) × (new ≡ old))
