-- The calls of the system on a file.
use Rattle.std.specs.Prelude.{ℕ, Bool, Option, List}

pub data HostCall : Type 0 where
  -- for the length in bytes: what it told, or None where it failed
  Length : Option ℕ → HostCall
  -- of a sector's bytes from an offset in bytes on: what the buffer held then, and whether the call was done
  Read : ℕ → List ℕ → Bool → HostCall
  -- of these bytes at an offset in bytes, and whether it was done
  Write : ℕ → List ℕ → Bool → HostCall
  -- for what was written to reach the medium, and whether it was done
  Sync : Bool → HostCall
