-- Symbolic links that are followed.
use Rattle.std.specs.Prelude.{◌≡◌, ◌++◌, ℕ, List, [], ◌∷◌, take, if◌then◌else◌}
use Rattle.lfs_model.specs.PathText.{from_root}
use Rattle.lfs_model.specs.Stands.{LogMap}
use Rattle.lfs_model.specs.TreeOf.{object}
use Rattle.lfs_files.specs.Files.{FilesState, HoldsBlock, IsFault}
use Rattle.lfs_files.specs.Headers.{as_header}
use Rattle.lfs_path.specs.declared.seen.Link.{Link}
use Rattle.lfs_path.specs.declared.walk_fault.WalkFault.{WalkFault}
use Rattle.lfs_path.specs.Telling.{ByFault}

-- a link's text is walked from the root, or from where the walk is
abbrev pub started : List ℕ → List ℕ → List ℕ
started text chain = if from_root text then 1 ∷ [] else chain

-- what a link's text is
abbrev pub text_of : LogMap → Link → List ℕ
text_of m l = object m l.number.value (as_header l.header)

-- The first bytes of a file's block are behind a text.
pub record HasTaken (m : LogMap) (n index count : ℕ) (old new : List ℕ) : Type 0 where
  pub block : List ℕ
  pub holds : HoldsBlock m n index block
  pub text : new ≡ old ++ take count block

module _ {S D : Type 0} (s s' : FilesState S D) where
  -- a read gives no refusal
  abbrev pub IsReadFault : WalkFault → Type 0
  IsReadFault fault = ByFault fault (IsFault s s') (λ r. ⊥)

  abbrev pub TakesBytes : ℕ → ℕ → ℕ → List ℕ → List ℕ → Type 0
  TakesBytes n index count old new = (m m' : LogMap) → s'.device.keeps_model → s.has m m' → HasTaken m' n index count old new

  -- the text of a link
  abbrev pub ReadsText : Link → List ℕ → Type 0
  ReadsText l text = (m m' : LogMap) → s'.device.keeps_model → s.has m m' → text_of m' l ≡ text

  -- the text that is left, and where it is walked from
  abbrev pub Follows : Link → List ℕ → List ℕ → List ℕ → List ℕ → Type 0
  Follows l rest chain chain' text = (m m' : LogMap) → s'.device.keeps_model → s.has m m'
      → (text ≡ text_of m' l ++ rest) × (chain' ≡ started (text_of m' l) chain)
