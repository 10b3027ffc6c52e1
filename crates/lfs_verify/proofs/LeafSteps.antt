-- The leaves of a file.
use Rattle.std.proofs.Common.{◌≡◌, ◌<◌, ◌≤◌, ◌+◌, ◌*◌, ℕ, suc, Bool, List, refl, sym, ◌∙◌, ap, arith}
use Rattle.lfs_model.specs.Entry.{Entry, Leaf, Double, word}
use Rattle.lfs_model.specs.Checkpoint.{CheckpointValue}
use Rattle.lfs_model.specs.Content.{Content, block}
use Rattle.lfs_model.specs.Reach.{address, view}
use Rattle.lfs_model.specs.Stands.{Leaves, Reached}
use Rattle.lfs_model.proofs.Reach.{address_linked}
use Rattle.lfs_verify.specs.Walk.{Walked, InBounds, step_of}
use Rattle.lfs_verify.specs.Take.{Advances, TakesAddress, SomeWord}
use Rattle.lfs_verify.proofs.Steps.{skip_to}
use Rattle.lfs_verify.proofs.Takes.{step_goes, as_it_is}
use Rattle.lfs_verify.proofs.Words.{word_none}

module _ (c : Content) (k : CheckpointValue) (n : ℕ) (low : n < 4096) where
  leaf_none : address c k (Double n) ≡ 0 → (q : ℕ) → address c k (Leaf n (suc q)) ≡ 0
  leaf_none none q = address_linked c k (Leaf n (suc q)) ∙ ap (λ (x : ℕ). word (block c x) q) none ∙ word_none q

  none_there : address c k (Double n) ≡ 0 → (e : Entry) → InBounds e → 12336 + 128 * n ≤ step_of e → step_of e < 12336 + 128 * (n + 1)
      → Reached (view c k) e → ⊥
  none_there none (Leaf m (suc q)) b le lt reached =
      let same : m ≡ n = omega arith in
      let z = ap (λ (x : ℕ). address c k (Leaf x (suc q))) same ∙ leaf_none none q in omega arith
  none_there none e b le lt reached = omega arith

  -- no double root, no leaves
  pub no_leaves : {m : List ℕ} → address c k (Double n) ≡ 0 → Walked (view c k) m (12336 + 128 * n)
      → Walked (view c k) m (12336 + 128 * (n + 1))
  no_leaves {m} none w = skip_to w (omega arith) (none_there none)

  pub leaf_goes : {out : List ℕ} → block c (address c k (Double n)) ≡ out → (q : ℕ) → q < 128 → (m m1 : List ℕ) {p : ℕ}
      → p ≡ word out q → (x : Bool) → TakesAddress SomeWord c m m1 p (12336 + 128 * n + q) x
      → Advances (view c k) m m1 (12336 + 128 * n + q) (12336 + 128 * n + (q + 1)) (Leaves (view c k)) x
  leaf_goes read q few m m1 val = step_goes (view c k) m m1 (Leaf n (suc q)) refl (omega arith) (low, few)
      (val ∙ ap (λ (b : List ℕ). word b q) (sym read) ∙ sym (address_linked c k (Leaf n (suc q)))) c SomeWord as_it_is
      (Leaves (view c k)) (λ leaves. leaves.fresh) (λ leaves. leaves.nonempty n q)
