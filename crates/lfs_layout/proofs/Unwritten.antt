-- The zeros behind what a writer has written.
use Rattle.std.proofs.Common.{◌≡◌, ◌≤◌, ◌+◌, ◌-◌, ◌++◌, ℕ, List, length, take, drop, sym, ap, ◌∙◌, arith}
use Rattle.std.specs.Prelude.{replicate}
use Rattle.std.proofs.Math.Seq.{take-add}
use Rattle.std.proofs.lemmas.List.{drop-drop, drop-replicate, take-replicate}
use Rattle.std.proofs.lemmas.Slice.{drop-put_mid}
use Rattle.lfs_model.specs.Fields.{zeros}
use borrow.Rule.Slice.PartMut.{put_mid}

module _ (at n most : ℕ) (bytes : List ℕ) (unwritten : drop at bytes ≡ replicate (most - at) 0) where
  pub fewer_left : drop (at + n) bytes ≡ replicate (most - (at + n)) 0
  fewer_left =
      sym (drop-drop n at bytes) ∙ ap (drop n) unwritten ∙ drop-replicate n (most - at) 0 ∙ ap (λ (k : ℕ). replicate k 0) (omega arith)

  pub left_behind : (copy : List ℕ) → at ≤ length bytes → length copy ≡ n
      → drop (at + n) (put_mid at (at + n - at) bytes copy) ≡ replicate (most - (at + n)) 0
  left_behind copy inside long =
      drop-put_mid at (at + n - at) bytes copy (at + n) (omega arith) inside (omega (arith, long)) ∙ fewer_left

  pub zeros_next : at + n ≤ most → take (at + n) bytes ≡ take at bytes ++ zeros n
  unfolding zeros
  zeros_next room =
      take-add at n bytes
      ∙ ap (λ (b : List ℕ). take at bytes ++ b) (ap (take n) unwritten ∙ take-replicate n (most - at) 0 (omega arith))
