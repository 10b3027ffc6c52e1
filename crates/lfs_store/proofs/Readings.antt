-- What reads see of a draft, from what the draft says and what the log answers.
use Rattle.std.specs.Prelude.{Result, Ok, Err, IfOk, IsTrue, ◌↔◌}
use Rattle.std.proofs.Common.{◌≡◌, ℕ, Bool, true, false, not, List, length, Option, Some, None, refl, ◌∙◌}
use Rattle.lfs_model.specs.Device.{DeviceState}
use Rattle.lfs_model.specs.Fields.{zeros}
use Rattle.lfs_model.specs.Stands.{LogMap}
use Rattle.lfs_cleaner.specs.log.memory.declared.changes.Changes.{Changes}
use Rattle.lfs_cleaner.specs.log.memory.files.declared.header.Header.{Header}
use Rattle.lfs_cleaner.specs.log.memory.Batch.{staged}
use Rattle.lfs_cleaner.specs.log.memory.Changing.{stored}
use Rattle.lfs_cleaner.specs.log.memory.Present.{HeaderAnswer, BlockAnswer}
use Rattle.lfs_cleaner.proofs.of_log.of_memory.LogMaps.{stored_none, stored_some}
use Rattle.lfs_cleaner.specs.log.LogState as held
use Rattle.lfs_cleaner.specs.log.LogState.{LogState}
use Rattle.lfs_store.specs.Drafting.{DraftsHeader}
use Rattle.lfs_store.specs.Reading.{LosesHeader, SaysHeader, ReadsHeader, ReadsBlock}

-- ---- what a draft says
pub says_after_loss : (c : Changes) (n : ℕ) (found : Option (Option Header)) → DraftsHeader c n None → LosesHeader c.loss n found
    → SaysHeader c n found
says_after_loss c n None left loses = λ m. left.1 m ∙ loses m
says_after_loss c n (Some None) left loses = λ m. left.1 m ∙ loses m
says_after_loss c n (Some (Some h)) left loses = λ m. left.1 m ∙ loses m

-- bytes in a draft, of which it is known whether they are zeros
pub says_stored : (m : LogMap) (n i : ℕ) {bytes : List ℕ} (blank : Bool) → length bytes ≡ 512 → (IsTrue blank ↔ bytes ≡ zeros 512)
    → m.block n i ≡ stored bytes → BlockAnswer m n i bytes (not blank)
says_stored m n i true long test is = is ∙ stored_none _ 512 (test.0 refl)
says_stored m n i false long test is = is ∙ stored_some _ long (λ e. let bad : false ≡ true = test.1 e in absurd (cc))

-- ---- what the log answers
same_header : (m m' : LogMap) (n : ℕ) (found : Option Header) → m'.header n ≡ m.header n → HeaderAnswer m n found → HeaderAnswer m' n found
same_header m m' n None same is = same ∙ is
same_header m m' n (Some h) same is = same ∙ is

same_block : (m m' : LogMap) (n i : ℕ) (out : List ℕ) (found : Bool) → m'.block n i ≡ m.block n i → BlockAnswer m n i out found
    → BlockAnswer m' n i out found
same_block m m' n i out true same is = same ∙ is
same_block m m' n i out false same is = same ∙ is

module _ {D : Type 0} (state : D → DeviceState) (h h' : LogState D) (c : Changes) (n : ℕ) where
  pub log_header : {E : Type 0} (r : Result (Option Header) E) → SaysHeader c n None → IfOk r (held.ReadsHeader state h h' n)
      → IfOk r (ReadsHeader state h h' c n)
  log_header (Ok found) left answer = λ k m0 m keeps is. same_header m (staged c m) n _ (left m) (answer k m0 m keeps is)
  log_header (Err e) left answer = tt

  pub log_block : {E : Type 0} (i : ℕ) (out : List ℕ) (r : Result Bool E) → ((m : LogMap) → (staged c m).block n i ≡ m.block n i)
      → IfOk r (held.ReadsBlock state h h' n i out) → IfOk r (ReadsBlock state h h' c n i out)
  log_block i out (Ok found) left answer = λ k m0 m keeps is. same_block m (staged c m) n i out _ (left m) (answer k m0 m keeps is)
  log_block i out (Err e) left answer = tt
