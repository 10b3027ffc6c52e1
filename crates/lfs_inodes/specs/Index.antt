-- Places of blocks in the order of their keys.
use Rattle.std.specs.Prelude.{◌≡◌, ◌<◌, ◌≤◌, ℕ, List, length, get_or}
use Rattle.lfs_inodes.specs.declared.index.Place.{Place}

-- the places, and for how many there is memory
pub record IndexValue : Type 0 where
  pub items : List Place
  pub capacity : ℕ

-- the numbers of the keys rise
abbrev pub AreRising : List Place → Type 0
AreRising ps = (i j : ℕ) (d : Place) → i < j → j < length ps → (get_or ps i d).key.code < (get_or ps j d).key.code

-- the key of this number stands at place i
pub record HasKeyAt (ps : List Place) (c i : ℕ) : Type 0 where
  pub within : i < length ps
  pub number : (d : Place) → (get_or ps i d).key.code ≡ c

-- no key has this number, and it would go to place i
pub record IsGapIn (ps : List Place) (c i : ℕ) : Type 0 where
  pub within : i ≤ length ps
  pub before : (j : ℕ) (d : Place) → j < i → (get_or ps j d).key.code < c
  pub after : (j : ℕ) (d : Place) → i ≤ j → j < length ps → c < (get_or ps j d).key.code
