-- What the taking of a file that C lends is of.
use Rattle.std.specs.Prelude.{◌≡◌, ◌<◌, ℕ, ℤ}
use Rattle.pansuyog_calls.specs.Codes.{inval}
use Rattle.pansuyog_calls.specs.Taking.{Takes}
use Rattle.pansuyog_calls.specs.declared.access.Access.TheVariants.{ReadWrite, ReadOnly}
use Rattle.pansuyog_file.specs.declared.handle.Volume.{Volume}

-- A file is taken with so much access as the flags say, or refused. Where they say nothing known nothing changes.
pub data Opens (flags : ℕ) (old new : Volume) (code : ℤ) : Type 0 where
  to_write : flags ≡ 0 → Takes ReadWrite old.inner new.inner code → Opens flags old new code
  to_read : flags ≡ 1 → Takes ReadOnly old.inner new.inner code → Opens flags old new code
  is_unknown : 1 < flags → code ≡ inval → new ≡ old → Opens flags old new code
