use Rattle.std.proofs.Common.{ℕ, refl, replicate}
use Rattle.std.proofs.lemmas.List.{length-replicate}
use Rattle.lfs_model.specs.Fields.{zeros}
use Rattle.lfs_segments.proofs.Saving.{copied, spelled_new}
use Rattle.lfs_segments.proofs.spelled.SpelledBlocks.new.Goals as goal

pub returns : goal.returns
unfolding zeros
returns c n = spelled_new (zeros 512) refl n (c.in_ok-blocks.ensures.items_if_clones_equal
    (λ y is. copied _ (λ a b same. same) (replicate 512 0) y (length-replicate {A = ℕ} 512 0) is))
