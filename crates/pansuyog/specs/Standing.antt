-- What stands where C keeps the address of a volume.
use mir.Syntax.{Ty}
use base.Fml.{Fml, ftrue}
use denote.RawPtr.{Ptr}
use Rattle.std.specs.Prelude.{Option, Some, None}
use Rattle.std_alloc.specs.Box.Ownership.{box_owns}
use Rattle.pansuyog.specs.contracts.handle.Volume.{the_row}
use Rattle.pansuyog.specs.declared.handle.Volume.{Volume}

-- a volume by its address, as a handle owns it, or nothing
abbrev pub stands_at : (Ty → Ptr → Fml) → Ptr → Option Volume → Fml
stands_at token at None = ftrue
stands_at token at (Some volume) = box_owns token the_row at volume
