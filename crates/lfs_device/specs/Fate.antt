-- What nobody can know of a file as it is opened.
use Rattle.std.specs.Prelude.{◌≡◌, ℕ, Some, List, length, replicate, refl}
use Rattle.std.specs.List.{AllByRecursion}
use Rattle.std.specs.declared.fs.attrs.Metadata.{Metadata}
use Rattle.std.proofs.Common.{sym, ◌∙◌, ap, subst}
use Rattle.std.proofs.lemmas.List.{length-replicate}
use Rattle.lfs_model.specs.declared.limits.TheConstants.{SECTOR_LEN}
use Rattle.lfs_model.specs.Device.{Cell, IsSector}
use Rattle.lfs_model.proofs.Cells.{all_same, zeros_are_bytes}

-- the content of a file of n sectors, and what a stop may make of it
pub record Fate (n : ℕ) : Type 1 where
  -- what it holds
  pub content : List Cell
  -- what a stop would leave of it
  pub left : List Cell → Type 0
  -- the unit that each sector is of
  pub unit : ℕ → ℕ
  pub size : length content ≡ n
  pub sizes : (c : List Cell) → left c → length c ≡ n
  pub now : AllByRecursion IsSector content
  pub cells : (c : List Cell) → left c → AllByRecursion IsSector c
  pub present : left content

-- for each that the system may tell of a file as it is opened, and each number of sectors
abbrev pub Fates : Type 1
Fates = Metadata → (n : ℕ) → Fate n

zero_sector : Cell
zero_sector = Some (replicate SECTOR_LEN 0)

zero_is_sector : IsSector zero_sector
unfolding zero_sector
zero_is_sector = zeros_are_bytes

-- The fates in the world that a program names. They are a value of which nothing is said: what is proved of files is proved in
-- each world, and this one only shows that a world can be.
pub fate_of : Fates
fate_of opened n = record {
  content = replicate n zero_sector;
  left = λ c. c ≡ replicate n zero_sector;
  unit = λ k. k;
  size = length-replicate n zero_sector;
  sizes = λ c is. ap (λ (l : List Cell). length l) is ∙ length-replicate n zero_sector;
  now = all_same IsSector n zero_sector zero_is_sector;
  cells = λ c is. subst (AllByRecursion IsSector) (sym is) (all_same IsSector n zero_sector zero_is_sector);
  present = refl;
}
