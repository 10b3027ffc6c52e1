-- No sector is written twice since its segment was taken.
use Rattle.std.proofs.Common.{◌≡◌, ◌<◌, ◌++◌, ℕ, Bool, List, [], ◌∷◌, length, refl, sym}
use Rattle.std.proofs.Common.{ap, subst, arith}
use Rattle.lfs_model.specs.Summary.{BlockNameValue}
use Rattle.lfs_segments.specs.Table.{UsageTable, used_of}
use Rattle.lfs_segments.specs.Chunk.{Chunk, IsOpenChunk, StaysInPlace, summary_at}
use Rattle.lfs_segments.specs.Steps.{Begins, Notes, Pads}
use Rattle.lfs_segments.specs.Once.{WrittenSince, WrittenOnce, EachOnce, WritesNothing, WritesTo, first_behind, with_address}

module _ {s : ℕ} {t t' : UsageTable} {c c' : Chunk} {written : List ℕ} (once : WrittenOnce s t c written) where
  begun_once : {number : ℕ} → Begins t t' c'.segment number → c'.start ≡ used_of t c'.segment → WrittenOnce s t' c' written
  begun_once begins start = grind arith

  placed_once : {lives : Bool} → IsOpenChunk c t → Notes t t' c.segment lives → StaysInPlace c c'
      → WrittenOnce s t' c' (with_address s c (first_behind t c.segment) written)
  placed_once opened notes stays = grind arith

  padded_once : (name : BlockNameValue) → IsOpenChunk c t → Pads t t' c.segment → StaysInPlace c c' → c'.names ≡ c.names ++ name ∷ []
      → WrittenOnce s t' c' written
  padded_once name opened pads stays names = grind (arith, ap length names)

  sealed_once : t' ≡ t → IsOpenChunk c t → 0 < length c.names → StaysInPlace c c' → c'.names ≡ []
      → WrittenOnce s t' c' (with_address s c (summary_at c) written)
  sealed_once is_t opened some stays ended = grind (arith, ap length ended)

  changed_once : c' ≡ c → used_of t' s ≡ used_of t s → WrittenOnce s t' c' written
  changed_once is_c same = grind arith

pub each_once : EachOnce
each_once s _ _ _ (WrittenSince.taken t t' c number takes) = grind arith
each_once s _ _ _ (WrittenSince.begun t t' c c' written number before begins start none) =
    begun_once (each_once s t c written before) begins start
each_once s _ _ _ (WrittenSince.placed t t' c c' written name lives before opened notes stays names) =
    placed_once (each_once s t c written before) opened notes stays
each_once s _ _ _ (WrittenSince.padded t t' c c' written name before opened pads stays names) =
    padded_once (each_once s t c written before) name opened pads stays names
each_once s _ _ _ (WrittenSince.sealed t c c' written before opened some stays ended) =
    sealed_once (each_once s t c written before) refl opened some stays ended
each_once s _ _ _ (WrittenSince.changed t t' c written before same) = changed_once (each_once s t c written before) refl same

-- ---- the calls are such steps
pub begun_step : (t t' : UsageTable) (c c' : Chunk) (number : ℕ) → Begins t t' c'.segment number → c'.start ≡ used_of t c'.segment
    → c'.names ≡ [] → WritesNothing t t' c c'
begun_step t t' c c' number begins start none s written before = WrittenSince.begun t t' c c' written number before begins start none

pub placed_step : (t t' : UsageTable) (c c' : Chunk) (name : BlockNameValue) (lives : Bool) (address : ℕ) → IsOpenChunk c t
    → Notes t t' c.segment lives → StaysInPlace c c' → c'.names ≡ c.names ++ name ∷ [] → address ≡ first_behind t c.segment
    → WritesTo t t' c c' address
placed_step t t' c c' name lives address opened notes stays names at s written before =
    subst (λ a. WrittenSince s t' c' (with_address s c a written)) (sym at)
    (WrittenSince.placed t t' c c' written name lives before opened notes stays names)

pub padded_step : (t t' : UsageTable) (c c' : Chunk) (name : BlockNameValue) → IsOpenChunk c t
    → Pads t t' c.segment → StaysInPlace c c' → c'.names ≡ c.names ++ name ∷ [] → WritesNothing t t' c c'
padded_step t t' c c' name opened pads stays names s written before =
    WrittenSince.padded t t' c c' written name before opened pads stays names

pub sealed_step : (t : UsageTable) (c c' : Chunk) → IsOpenChunk c t → 0 < length c.names → StaysInPlace c c' → c'.names ≡ []
    → WritesTo t t c c' (summary_at c)
sealed_step t c c' opened some stays ended s written before = WrittenSince.sealed t c c' written before opened some stays ended
