-- A sum over a sorted map, when one entry is put or taken away.
use Rattle.std.proofs.Common.{◌≡◌, refl, sym, ap, subst, ◌∙◌, ℕ, ◌+◌, ◌≤◌, Bool, true, false, ◌&&◌, List, [], ◌∷◌, Option, Some, None}
use Rattle.std.proofs.Common.{arith, cond}
use Rattle.std.specs.Prelude.{T, filter, not, sum_by, find as first_that}
use Rattle.std.specs.Ordering.{is_lt, is_eq, eq_by_cmp}
use Rattle.std.specs.declared.cmp.Ordering.{Ordering}
use Rattle.std.specs.declared.cmp.Ordering.TheVariants.{Less, Equal, Greater}
use Rattle.std.specs.Cmp.{IsTotalOrder, tied_itself, alike_right, eq_by_cmp_equiv}
use Rattle.lfs_model.specs.Tree.{without}
use Rattle.std.specs.FinMap.{find, put, is_sorted}
use Rattle.std.specs.FinMap.Entries.{below_all, by_order, find_tied, find-where_key}
use Rattle.std.proofs.lemmas.List.Sums.{sum_by-cons}
use Rattle.lfs_model.proofs.Walks.{Some-injective}

pub T_left : (a b : Bool) → T (a && b) → T a
T_left true b h = tt
T_left false b h = absurd h

pub T_right : (a b : Bool) → T (a && b) → T b
T_right true b h = h
T_right false b h = absurd h

is_less : (r : Ordering) → T (is_lt r) → r ≡ Less
is_less Less h = refl
is_less Equal h = absurd h
is_less Greater h = absurd h

module _ {K X : Type 0} {R : K → K → Ordering} (o : IsTotalOrder R) (g : X → ℕ) where
  -- what the sum has at a key
  abbrev pub weight : Option X → ℕ
  weight None = 0
  weight (Some x) = g x

  abbrev pub total : List (K × X) → ℕ
  total es = sum_by (λ e. g e.1) es

  total_cons : (e : K × X) (es : List (K × X)) → total (e ∷ es) ≡ g e.1 + total es
  total_cons e es = sum_by-cons (λ (e : K × X). g e.1) e es

  pub none_below : (k x : K) (es : List (K × X)) → R k x ≡ Less → T (below_all R x es) → find R k es ≡ None
  none_below k x [] less h = refl
  none_below k x (e ∷ es) less h =
      let first : R k e.0 ≡ Less = o.trans k x e.0 less (is_less _ (T_left _ _ h)) in
      rw first (none_below k x es less (T_right _ _ h))

  total_put_at : (k : K) (v : X) (e : K × X) (es : List (K × X)) → T (is_sorted R (e ∷ es))
      → total (put R k v es) + weight (find R k es) ≡ total es + g v
      → (r : Ordering) → R k e.0 ≡ r → total (by_order r ((k, v) ∷ e ∷ es) ((e.0, v) ∷ es) (e ∷ put R k v es))
      + weight (cond (is_eq r) (Some e.1) (find R k es)) ≡ total (e ∷ es) + g v
  total_put_at k v e es h rest Less is = rw (none_below k e.0 es is (T_left _ _ h)) (omega (arith, total_cons (k, v) (e ∷ es)))
  total_put_at k v e es h rest Equal is = omega (arith, total_cons (e.0, v) es, total_cons e es)
  total_put_at k v e es h rest Greater is = omega (arith, total_cons e (put R k v es), total_cons e es, rest)

  -- the sum with the entry, and what the key had before, are the sum before and what the entry brings
  pub total_put : (k : K) (v : X) (es : List (K × X)) → T (is_sorted R es) → total (put R k v es) + weight (find R k es) ≡ total es + g v
  total_put k v [] h = omega (arith, total_cons (k, v) [])
  total_put k v (e ∷ es) h = total_put_at k v e es h (total_put k v es (T_right _ _ h)) (R k e.0) refl

  -- no entry has the key of a first one, nor a key below it
  pub none_at : (x : K) (es : List (K × X)) → T (below_all R x es) → find R x es ≡ None
  none_at x [] h = refl
  none_at x (e ∷ es) h = let first : R x e.0 ≡ Less = is_less _ (T_left _ _ h) in rw first (none_at x es (T_right _ _ h))

  -- what is found later is not at the first key
  pub find_after : (k : K) (e : K × X) (es : List (K × X)) (x : X) → T (is_sorted R (e ∷ es)) → find R k es ≡ Some x
      → find R k (e ∷ es) ≡ Some x
  find_after k e es x h is =
      elim (R k e.0) as (λ r. R k e.0 ≡ r → cond (is_eq r) (Some e.1) (find R k es) ≡ Some x) [
        | Less ↦ λ _. is
        | Equal ↦ λ tie. let none : find R k es ≡ None = sym (find_tied R o k e.0 tie es) ∙ none_at e.0 es (T_left _ _ h) in cc
        | Greater ↦ λ _. is
      ] refl

  pub find_first : (e : K × X) (es : List (K × X)) → find R e.0 (e ∷ es) ≡ Some e.1
  find_first e es = rw (tied_itself o e.0) refl

  -- a sum of zeros
  pub total_zero : (es : List (K × X)) → T (is_sorted R es) → ((k : K) (x : X) → find R k es ≡ Some x → g x ≡ 0) → total es ≡ 0
  total_zero [] h zeros = refl
  total_zero (e ∷ es) h zeros =
      let first : g e.1 ≡ 0 = zeros e.0 e.1 (find_first e es) in
      let rest : total es ≡ 0 =
      total_zero es (T_right (below_all R e.0 es) (is_sorted R es) h) (λ k x is. zeros k x (find_after k e es x h is)) in
      omega (arith, total_cons e es, first, rest)

  -- two weights that agree on what is found have one sum
  pub total_same : (h : X → ℕ) (es : List (K × X)) → T (is_sorted R es) → ((k : K) (x : X) → find R k es ≡ Some x → g x ≡ h x)
      → total es ≡ sum_by (λ e. h e.1) es
  total_same h [] order same = refl
  total_same h (e ∷ es) order same =
      let first : g e.1 ≡ h e.1 = same e.0 e.1 (find_first e es) in
      let rest =
      total_same h es (T_right (below_all R e.0 es) (is_sorted R es) order) (λ k x is. same k x (find_after k e es x order is)) in
      let other = sum_by-cons (λ (e : K × X). h e.1) e es in
      omega (arith, total_cons e es, first, rest, other)

  -- the first entry that passes a test is found at its key
  pub first_found : (p : K × X → Bool) (es : List (K × X)) (e : K × X) → T (is_sorted R es) → first_that p es ≡ Some e
      → (p e ≡ true) × (find R e.0 es ≡ Some e.1)
  first_found p [] e h is = cc
  first_found p (f ∷ es) e h is =
      elim (p f) as (λ b. p f ≡ b → cond b (Some f) (first_that p es) ≡ Some e → (p e ≡ true) × (find R e.0 (f ∷ es) ≡ Some e.1)) [
        | true ↦ λ yes is.
            subst (λ (e : K × X). (p e ≡ true) × (find R e.0 (f ∷ es) ≡ Some e.1)) (Some-injective is) (yes, find_first f es)
        | false ↦ λ no is. let rest = first_found p es e (T_right _ _ h) is in (rest.0, find_after e.0 f es e.1 h rest.1)
      ] refl is

  keeps_or_not : (k : K) (e : K × X) (es : List (K × X)) → T (is_sorted R (e ∷ es))
      → total (without R k es) + weight (find R k es) ≡ total es
      → (r : Ordering) → R k e.0 ≡ r → total (cond (not (is_eq r)) (e ∷ without R k es) (without R k es))
      + weight (cond (is_eq r) (Some e.1) (find R k es)) ≡ total (e ∷ es)
  keeps_or_not k e es h rest Less is = omega (arith, total_cons e es, total_cons e (without R k es), rest)
  keeps_or_not k e es h rest Equal is =
      let none : find R k es ≡ None = sym (find_tied R o k e.0 is es) ∙ none_at e.0 es (T_left (below_all R e.0 es) (is_sorted R es) h) in
      let zero : weight (find R k es) ≡ 0 = ap weight none in
      omega (arith, total_cons e es, rest, zero)
  keeps_or_not k e es h rest Greater is = omega (arith, total_cons e es, total_cons e (without R k es), rest)

  -- the sum without a key
  pub total_without : (k : K) (es : List (K × X)) → T (is_sorted R es) → total (without R k es) + weight (find R k es) ≡ total es
  total_without k [] h = refl
  total_without k (e ∷ es) h = keeps_or_not k e es h (total_without k es (T_right (below_all R e.0 es) (is_sorted R es) h)) (R k e.0) refl

  -- what is found counts
  pub weight-le-total : (k : K) (x : X) (es : List (K × X)) → find R k es ≡ Some x → g x ≤ total es
  weight-le-total k x [] e = cc
  weight-le-total k x (f ∷ es) e =
      elim (is_eq (R k f.0)) as (λ b. cond b (Some f.1) (find R k es) ≡ Some x → g x ≤ total (f ∷ es)) [
        | true ↦ λ e. let same : g f.1 ≡ g x = ap (λ o. weight o) e in omega (arith, total_cons f es, same)
        | false ↦ λ e. omega (arith, total_cons f es, weight-le-total k x es e)
      ] e

module _ {K X : Type 0} {R : K → K → Ordering} (o : IsTotalOrder R) (g : X → ℕ) (p : K → Bool) where
  -- what is left of a map has no greater sum
  pub total_filter-le : (es : List (K × X)) → total o g (filter (λ e. p e.0) es) ≤ total o g es
  total_filter-le [] = omega arith
  total_filter-le (e ∷ es) =
      let rest = total_filter-le es in
      let all = total_cons o g e es in
      elim (p e.0) as (λ b. total o g (cond b (e ∷ filter (λ e. p e.0) es) (filter (λ e. p e.0) es)) ≤ total o g (e ∷ es)) [
        | true ↦ omega (arith, rest, all, total_cons o g e (filter (λ e. p e.0) es))
        | false ↦ omega (arith, rest, all)
      ]

  -- and the same where what goes counts nothing
  pub total_filter : (es : List (K × X)) → T (is_sorted R es) → ((k : K) (x : X) → find R k es ≡ Some x → p k ≡ false → g x ≡ 0)
      → total o g (filter (λ e. p e.0) es) ≡ total o g es
  total_filter [] h zeros = refl
  total_filter (e ∷ es) h zeros =
      let rest : total o g (filter (λ e. p e.0) es) ≡ total o g es =
      total_filter es (T_right (below_all R e.0 es) (is_sorted R es) h) (λ k x is. zeros k x (find_after o g k e es x h is)) in
      let all = total_cons o g e es in
      elim (p e.0) as (λ b. p e.0 ≡ b → total o g (cond b (e ∷ filter (λ e. p e.0) es) (filter (λ e. p e.0) es)) ≡ total o g (e ∷ es)) [
        | true ↦ λ _. omega (arith, rest, all, total_cons o g e (filter (λ e. p e.0) es))
        | false ↦ λ no. let none : g e.1 ≡ 0 = zeros e.0 e.1 (find_first o g e es) no in omega (arith, rest, all, none)
      ] refl

module _ {K X : Type 0} {R : K → K → Ordering} (o : IsTotalOrder R) where
  pub find_without : (k q : K) (es : List (K × X)) → find R q (without R k es) ≡ cond (eq_by_cmp R q k) None (find R q es)
  find_without k q es =
      find-where_key R (λ x. not (eq_by_cmp R k x)) q (λ x t. ap (λ r. not (is_eq r)) (sym (alike_right o q x k t))) es
      ∙ turned (eq_by_cmp R k q) (find R q es) ∙ ap (λ b. cond b None (find R q es)) ((eq_by_cmp_equiv o).symm k q)
    where
      turned : (b : Bool) (y : Option X) → cond (not b) y None ≡ cond b None y
      turned true y = refl
      turned false y = refl
