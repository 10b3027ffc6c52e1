-- What stands in a chain of directories is within, as the model has it.
use Rattle.lfs_steps.proofs.Prelude.{◌≡◌, ◌≢◌, ◌≤◌, ◌<◌, ℕ, zero, suc, Bool, true, false, ◌||◌, List, [], ◌∷◌, Some, refl, sym, ◌∙◌, ap}
use Rattle.lfs_steps.proofs.Prelude.{subst, ⊎_elim, arith, eqb, length, ◌==◌, list_any, cases_lt, nat_tests, Sound, is_within, State, Tree}
use Rattle.lfs_steps.proofs.Prelude.{entry, is_dir, node, same_or_not}
use Rattle.lfs_model.specs.Sound.{IsReachable, below, root}
use Rattle.lfs_model.specs.Step.{chain}
use Rattle.lfs_model.specs.Tree.{up}
use Rattle.lfs_model.proofs.Climbing.{under_within}
use Rattle.lfs_model.proofs.Detached.{Under, inside, itself}
use Rattle.lfs_path.specs.Trees.{IsChain, here, risen}
use Rattle.lfs_path.proofs.Uppers.{up_is}
use Rattle.lfs_entries.specs.Renaming.{IsAbove, IsNotAbove, risen_by}

up_again : (t : Tree) (c : List ℕ) → IsChain t c → IsChain t (risen c) × (here (risen c) ≡ up t (here c))
up_again t [] is = absurd is
up_again t (d ∷ []) is = (is, is ∙ sym (ap (up t) is))
up_again t (d ∷ above ∷ rest) is = (is.2, sym is.0)

chain_directory : (t : Tree) (c : List ℕ) → is_dir (node t 1) ≡ true → IsChain t c → is_dir (node t (here c)) ≡ true
chain_directory t [] top is = absurd is
chain_directory t (d ∷ []) top is = ap (λ (n : ℕ). is_dir (node t n)) is ∙ top
chain_directory t (d ∷ above ∷ rest) top is = is.1

named_by : {t : Tree} {q : ℕ} → IsReachable t q → q ≢ 1 → (p : ℕ) × (x : List ℕ) × (entry t p x ≡ Some q)
named_by root ne = absurd (ne refl)
named_by (below {d = d} x r e) ne = (d, x, e)

module _ (N : ℕ) (s : State) (sound : Sound N s) (c : List ℕ) (is : IsChain s.tree c) where
  abbrev t : Tree
  t = s.tree

  each : (k : ℕ) → IsChain t (risen_by k c)
  each zero = is
  each (suc k) = (up_again t (risen_by k c) (each k)).0

  step : (k : ℕ) → here (risen_by (suc k) c) ≡ up t (here (risen_by k c))
  step k = (up_again t (risen_by k c) (each k)).1

  module _ (n : ℕ) where
    -- ---- it is one of them
    down : (q : ℕ) → is_dir (node t q) ≡ true → Under t n (up t q) → Under t n q
    down q dir v = same_or_not q 1
        (λ (at : q ≡ 1). subst (Under t n) (ap (up t) at ∙ sym at) v)
        (λ (ne : q ≢ 1). (
        let by = named_by (sound.reached q dir) ne in
        let one = up_is t sound.in_order {d = by.0} q by.1 by.2 ne (sound.one_name q ne dir) in
        inside by.1 (subst (Under t n) one v) by.2))

    under_from : (k : ℕ) → Under t n (here (risen_by k c)) → Under t n (here c)
    under_from zero v = v
    under_from (suc k) v =
        under_from k (down (here (risen_by k c)) (chain_directory t (risen_by k c) sound.root (each k)) (subst (Under t n) (step k) v))

    pub above_within : n ≢ 1 → IsAbove c n → is_within t n (here c) ≡ true
    above_within inner above =
        under_within N s sound t (λ q x k e. e) n (here c) inner
        (under_from above.count (subst (λ (q : ℕ). Under t n q) (sym above.is) itself)) (chain_directory t c sound.root is)

    -- ---- it is none
    module _ (none : IsNotAbove c n) where
      settled : (j : ℕ) → none.count ≤ j → here (risen_by j c) ≡ here (risen_by none.count c)
      settled zero le = let same : none.count ≡ 0 = omega (arith, le) in ap (λ (q : ℕ). here (risen_by q c)) (sym same)
      settled (suc j) le = ⊎_elim
          (λ (low : none.count < suc j). step j ∙ ap (up t) (settled j (omega (arith, low))) ∙ sym (step none.count) ∙ none.stays)
          (λ (high : suc j ≤ none.count).
          (let same : none.count ≡ suc j = omega (arith, le, high) in ap (λ (q : ℕ). here (risen_by q c)) (sym same)))
          (cases_lt none.count (suc j))

      never : (j : ℕ) → here (risen_by j c) ≢ n
      never j at = ⊎_elim
          (λ (low : none.count < j). none.none none.count (omega arith) (sym (settled j (omega (arith, low))) ∙ at))
          (λ (le : j ≤ none.count). none.none j le at)
          (cases_lt none.count j)

      other : (a b : ℕ) → a ≢ b → eqb a b ≡ false
      other a b ne = grind (arith, nat_tests)

      none_in : (k j : ℕ) → list_any (λ x. x == n) (chain k t (here (risen_by j c))) ≡ false
      none_in zero j = ap (λ (b : Bool). b || false) (other (here (risen_by j c)) n (never j))
      none_in (suc k) j =
          ap (λ (b : Bool). b || list_any (λ x. x == n) (chain k t (up t (here (risen_by j c))))) (other (here (risen_by j c)) n (never j))
          ∙ ap (λ (q : ℕ). list_any (λ x. x == n) (chain k t q)) (sym (step j))
          ∙ none_in k (suc j)

      pub apart_not_within : is_within t n (here c) ≡ false
      apart_not_within = none_in (length t) 0
