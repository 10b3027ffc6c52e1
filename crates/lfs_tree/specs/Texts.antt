-- The texts of links, byte by byte.
-- All of it is an own choice.
use Rattle.std.specs.Prelude.{◌≡◌, ◌≢◌, ◌<◌, ℕ, Bool, Some, MatchBool}
use Rattle.lfs_model.specs.declared.Kind.TheVariants as kind
use Rattle.lfs_model.specs.Entry as entry
use Rattle.lfs_model.specs.Objects.{byte_in}
use Rattle.lfs_model.specs.Stands.{LogMap}

-- no byte of object n before this place is zero
abbrev pub HasNoZero : LogMap → ℕ → ℕ → Type 0
HasNoZero m n end = (p : ℕ) → p < end → byte_in m n p ≢ 0

-- where it is a link, its text has none
abbrev pub IsGoodText : LogMap → ℕ → Type 0
IsGoodText m n = (h : entry.Header) → m.header n ≡ Some h → h.kind ≡ kind.Link → HasNoZero m n h.size

-- whether something holds
abbrev pub Decides : Type 0 → Bool → Type 0
Decides P holds = MatchBool holds P (P → ⊥)
