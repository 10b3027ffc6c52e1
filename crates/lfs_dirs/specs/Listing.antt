-- The names of a directory, listed in the order of their bytes.
use Rattle.std.specs.Prelude.{◌≡◌, ◌≢◌, ◌≤◌, ◌+◌, ◌*◌, ℕ, List, [], ◌++◌, ◌∷◌, map, reverse, take, drop, None}
use Rattle.std.specs.List.{AllByRecursion}
use Rattle.std.specs.FinMap.{put}
use Rattle.lfs_model.specs.Slot.{slot_in}
use Rattle.lfs_model.specs.Stands.{LogMap}
use Rattle.lfs_model.specs.Tree.{Names, byte_cmp}
use Rattle.lfs_model.specs.TreeOf.{map_of}
use Rattle.lfs_files.specs.declared.header.Header.{Header}
use Rattle.lfs_files.specs.Files.{FilesState}
use Rattle.lfs_dirs.specs.declared.entry.Entry.{Entry}
use Rattle.lfs_dirs.specs.Directory.{names_at, per_block, slot_count, slots_at}

-- ---- entries

-- an entry as a name with the number that it gives
abbrev pub pair : Entry → List ℕ × ℕ
pair e = (e.name.items, e.number.value)

abbrev pub pairs : List Entry → Names
pairs es = map pair es

-- the map that names with numbers give, where of one name the first counts
abbrev pub first_of_each : List (List ℕ × ℕ) → Names
first_of_each [] = []
first_of_each (p ∷ ps) = put byte_cmp p.0 p.1 (first_of_each ps)

-- the map that entries give which were gathered from the last slot on
abbrev pub gathered : List Entry → Names
gathered es = first_of_each (pairs (reverse es))

-- bytes that are slots, each of them
abbrev pub AreSlots : ℕ → List (List ℕ) → Type 0
AreSlots form = AllByRecursion (λ b. slot_in form b ≢ None)

-- Entries are the names that these slots give.
pub record IsListOf (form : ℕ) (slots : List (List ℕ)) (es : List Entry) : Type 0 where
  pub names : pairs es ≡ map_of form slots
  pub formed : AreSlots form slots

-- Entries were gathered from these slots, from the last on.
pub record IsGatheredOf (form : ℕ) (slots : List (List ℕ)) (es : List Entry) : Type 0 where
  pub names : gathered es ≡ map_of form slots
  pub formed : AreSlots form slots

-- The names of slots become those of more slots, which stand before them.
abbrev pub PutsSlots : ℕ → List (List ℕ) → List Entry → List Entry → Type 0
PutsSlots form more es es' = (behind : List (List ℕ)) → IsGatheredOf form behind es → IsGatheredOf form (more ++ behind) es'

-- ---- a directory
module _ {S D : Type 0} (s s' : FilesState S D) where
  -- its names, with those of one block more
  abbrev pub ListsBlock : ℕ → ℕ → ℕ → ℕ → List Entry → List Entry → Type 0
  ListsBlock form d index count es es' = (m m' : LogMap) → s'.device.keeps_model → s.has m m' → (head : Header) → head.form ≡ form
      → per_block form * index + count ≤ slot_count head
      → PutsSlots form (take count (drop (per_block form * index) (slots_at m' d head))) es es'

  -- all of them; each of its slots is well-formed
  abbrev pub Inspects : ℕ → Header → List Entry → Type 0
  Inspects d head es = (m m' : LogMap) → s'.device.keeps_model → s.has m m' → IsListOf head.form (slots_at m' d head) es

  -- one of its slots isn't
  abbrev pub LacksSlot : ℕ → Header → Type 0
  LacksSlot d head = (m m' : LogMap) → s'.device.keeps_model → s.has m m' → AreSlots head.form (slots_at m' d head) → ⊥

  -- the same of every object that has so many slots in this block
  abbrev pub LacksBlockSlot : ℕ → ℕ → ℕ → ℕ → Type 0
  LacksBlockSlot form d index count = (m m' : LogMap) → s'.device.keeps_model → s.has m m' → (head : Header) → head.form ≡ form
      → per_block form * index + count ≤ slot_count head → AreSlots head.form (slots_at m' d head) → ⊥

  -- all of them
  abbrev pub Lists : ℕ → Header → List Entry → Type 0
  Lists d head es = (m m' : LogMap) → s'.device.keeps_model → s.has m m' → pairs es ≡ names_at m' d head
