-- How the table holds its blocks: an index in the order of keys over an arena of blocks.
use Rattle.std.specs.Prelude.{◌≡◌, ◌<◌, ◌≤◌, ◌+◌, ◌^◌, ◌==◌, nat_lt, cond, ℕ, Bool, false, T, List, [], ◌∷◌, map, length, get_or, ◌⊎◌, ◌++◌}
use Rattle.std.specs.Prelude.{set}
use Rattle.std.specs.Ordering.{nat_cmp}
use Rattle.std.specs.FinMap.{is_sorted}
use Rattle.lfs_model.specs.Running.{IsTight}
use Rattle.lfs_inodes.specs.declared.index.Place.{Place}
use Rattle.lfs_inodes.specs.Blocks.{Blocks, blocks_in}

-- a place of the index, and the block there
abbrev pub entry_in : List (List ℕ) → Place → ℕ × List ℕ
entry_in arena p = (p.key.code, get_or arena p.spot [])

abbrev pub entries_in : List Place → List (List ℕ) → Blocks
entries_in places arena = map (entry_in arena) places

abbrev pub spots : List Place → List ℕ
spots places = map (λ p. p.spot) places

-- how often a number stands in a list
abbrev pub times : ℕ → List ℕ → ℕ
times n [] = 0
times n (x ∷ xs) = cond (x == n) 1 0 + times n xs

-- 1 where a number is below n, else 0
abbrev pub one_below : ℕ → ℕ → ℕ
one_below n s = cond (nat_lt s n) 1 0

-- for how many entries there is memory
pub record Capacities : Type 0 where
  pub for_places : ℕ
  pub for_arena : ℕ
  pub for_spare : ℕ

pub record IsTableOf (places : List Place) (arena : List (List ℕ)) (spare : List ℕ) (limit room : ℕ)
    (capacities : Capacities) : Type 0 where
  pub sorted : T (is_sorted nat_cmp (entries_in places arena))
  -- each block of the arena is a place's, or spare, and no more than one of these
  pub once : (s : ℕ) → times s (spots places) + times s spare ≡ one_below (length arena) s
  pub shared : length places + length spare ≡ length arena
  pub small : room < 2 ^ 32
  -- no more than the limit are in use
  pub few : length places ≤ limit
  pub within : limit ≤ room
  -- the arena grows where none is spare
  pub grown : length arena ≤ room
  -- memory is reserved for the whole of it
  pub room_for_places : room ≤ capacities.for_places
  pub room_for_arena : room ≤ capacities.for_arena
  pub room_for_spare : room ≤ capacities.for_spare

-- each block of pointers leads somewhere, unless one may lead nowhere
abbrev pub IsTightUnless : Bool → List Place → List (List ℕ) → Type 0
IsTightUnless loose places arena = loose ≡ false → IsTight (blocks_in (entries_in places arena))

-- a block is stored at a spot that was spare, or behind all others where none was
abbrev pub Stores : List (List ℕ) → List ℕ → List (List ℕ) → List ℕ → List ℕ → ℕ → Type 0
Stores arena spare arena' spare' block s =
    ((spare ≡ spare' ++ s ∷ []) × (arena' ≡ set arena s block))
    ⊎ ((spare ≡ []) × (spare' ≡ []) × (s ≡ length arena) × (arena' ≡ arena ++ block ∷ []))
