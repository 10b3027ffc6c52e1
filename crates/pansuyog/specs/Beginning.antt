-- A volume that is begun.
use Rattle.std.specs.Prelude.{◌≡◌, ◌⊎◌, ℤ, pos, [], Some, None}
use Rattle.pansuyog_calls.specs.Codes.{no_memory}
use Rattle.pansuyog.specs.declared.handle.Source.TheVariants.{Nothing}
use Rattle.pansuyog.specs.declared.handle.Volume.{Volume}
use Rattle.pansuyog.specs.declared.place.Place.{Place}

-- A volume stands there that holds nothing.
pub record StandsNew (place : Place) : Type 0 where
  pub volume : Volume
  pub stands : place.volume ≡ Some volume
  pub unmounted : volume.fs ≡ None
  pub source : volume.source ≡ Nothing
  pub listing : volume.listing.items ≡ []
  pub recorder : volume.recorder ≡ None

-- It is begun at a place of C's, or memory is refused and nothing is put there.
abbrev pub Begins : Place → Place → ℤ → Type 0
Begins old new code = ((code ≡ pos 0) × StandsNew new) ⊎ ((code ≡ no_memory) × (new ≡ old))
