-- What a handle lends.
use Rattle.std.specs.Borrow.{Lends, MutBor, Fml}
use Rattle.pansuyog.specs.declared.handle.Handle.{Handle}
use Rattle.pansuyog.specs.declared.handle.Volume.{Volume}
use Rattle.pansuyog.specs.contracts.handle.Handle.{the_row as H}
use Rattle.pansuyog.specs.contracts.handle.Volume.{the_row as V}

-- a handle with this volume
abbrev pub with_volume : Handle → Volume → Handle
with_volume h w = record h { value = w }

-- h ends with the last value behind r as its volume
abbrev pub LendsVolume : MutBor Handle → MutBor Volume → Fml
LendsVolume h r = Lends H V h r (with_volume h.now)
