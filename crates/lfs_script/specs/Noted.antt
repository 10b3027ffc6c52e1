-- What a witness saw of a run: it glances at device and writer before each reply. The language is an own choice.
use Rattle.std.specs.Prelude.{◌≡◌, ℕ, Some, Option, List, [], ◌∷◌, ◌++◌, length, map, take, slice_get}
use Rattle.std.specs.Io.KnownBytes.{Appends}
use Rattle.lfs_model.specs.Call.{Answer}
use Rattle.lfs_script.specs.Ending.{replies}

-- a glance at the device and the writer
pub record Glance : Type 0 where
  -- the device's clock
  pub moment : ℕ
  -- what the writer held, where its bytes are known
  pub written : Option (List ℕ)

-- they were glanced at once, at that moment
abbrev pub GlancesAt : ℕ → Option (List ℕ) → List Glance → List Glance → Type 0
GlancesAt t w old new = new ≡ old ++ (record { moment = t; written = w }) ∷ []

-- Before each reply went out the device was glanced at, at these clocks: what the writer held then was the replies before it, and no more.
pub record Glanced (w : Option (List ℕ)) (answers : List Answer) (clocks : List ℕ) (old new : List Glance) : Type 0 where
  pub glances : List Glance
  pub all : new ≡ old ++ glances
  pub clocks_are : map (λ (l : Glance). l.moment) glances ≡ clocks
  pub one_each : length glances ≡ length answers
  pub before : (i : ℕ) (glance : Glance) → slice_get glances i ≡ Some glance → Appends w glance.written (replies (take i answers))
