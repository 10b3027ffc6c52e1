-- The directories above a directory: no more of them than nodes.
use Rattle.std.proofs.Common.{◌≡◌, ◌≢◌, refl, sym, ap, subst, ◌∙◌, ℕ, zero, suc, ◌+◌, ◌<◌, ◌≤◌, Bool, true, false, ◌||◌, List, [], ◌∷◌}
use Rattle.std.proofs.Common.{length, Option, Some, None, arith, cond, inl, inr, eqb, ◌⊎◌}
use Rattle.std.specs.Prelude.{count_by, unwrap_or, option_map, if◌then◌else◌, ◌==◌, find as first_that}
use Rattle.std.specs.List.{list_any}
use Rattle.std.proofs.lemmas.Bool.{eqb-true, eq-eqb}
use Rattle.std.proofs.lemmas.Bool.Decides.{nat_tests}
use Rattle.std.proofs.lemmas.List.Sums.{sum_by-cons}
use Rattle.std.specs.Ordering.{nat_cmp, is_eq}
use Rattle.std.specs.Cmp.{ranked}
use Rattle.std.specs.declared.cmp.Ordering.TheVariants.{Less, Equal, Greater}
use Rattle.std.proofs.lemmas.Cmp.{nat_cmp_total}
use Rattle.std.specs.FinMap.{find}
use Rattle.lfs_model.specs.Tree.{Tree, Names, Node, File, State, node, without, names_of, is_dir, entry, byte_cmp, names, up}
use Rattle.lfs_model.specs.Sound.{Sound, IsReachable, root, below}
use Rattle.lfs_model.specs.Step.{chain, is_within}
use Rattle.lfs_model.proofs.Sums.{total_without, weight, weight-le-total, first_found, find_without}
use Rattle.lfs_model.proofs.Trees.{cmp_other}
use Rattle.lfs_model.proofs.Growing.{same_or_not, gives}
use Rattle.lfs_model.proofs.Parents.{up_dir}
use Rattle.lfs_model.proofs.Shrinking.{named_counts}
use Rattle.lfs_model.proofs.Detached.{Under, itself, inside, holder}

-- ---- counts over a tree's numbers

more_each : (p q : ℕ → Bool) → ((n : ℕ) → p n ≡ true → q n ≡ true) → (n : ℕ) → (if p n then 1 else 0) ≤ (if q n then 1 else 0)
more_each p q h n = elim (p n) as (λ b. p n ≡ b → (if b then 1 else 0) ≤ (if q n then 1 else 0)) [
  | true ↦ λ e. rw (h n e) (omega arith)
  | false ↦ λ e. omega arith
] refl

abbrev counted : (ℕ → Bool) → Tree → ℕ
counted p t = count_by (λ e. p e.0) t

counted_cons : (p : ℕ → Bool) (e : ℕ × Node) (es : Tree) → counted p (e ∷ es) ≡ (if p e.0 then 1 else 0) + counted p es
counted_cons p e es = sum_by-cons (λ (e : ℕ × Node). cond (p e.0) 1 0) e es

counted_more : (p q : ℕ → Bool) → ((n : ℕ) → p n ≡ true → q n ≡ true) → (es : Tree) → counted p es ≤ counted q es
counted_more p q h [] = omega arith
counted_more p q h (e ∷ es) = omega (arith, counted_cons p e es, counted_cons q e es, more_each p q h e.0, counted_more p q h es)

counted_most : (p : ℕ → Bool) (es : Tree) → counted p es ≤ length es
counted_most p [] = omega arith
counted_most p (e ∷ es) =
    elim (p e.0) as (λ b. (if b then 1 else 0) + counted p es ≡ counted p (e ∷ es) → counted p (e ∷ es) ≤ suc (length es)) [
      | true ↦ λ h. let rest = counted_most p es in omega arith
      | false ↦ λ h. let rest = counted_most p es in omega arith
    ] (sym (counted_cons p e es))

-- where the counts are the same, so are the tests of what is there
same_tests : (p q : ℕ → Bool) → ((n : ℕ) → p n ≡ true → q n ≡ true) → (es : Tree) → counted p es ≡ counted q es → (n : ℕ)
    → find nat_cmp n es ≢ None → q n ≡ true → p n ≡ true
same_tests p q h [] same n some yes_q = absurd (some refl)
same_tests p q h (e ∷ es) same n some yes_q =
    let each = more_each p q h e.0 in
    let rest = counted_more p q h es in
    let one = counted_cons p e es in
    let two = counted_cons q e es in
    elim (nat_cmp n e.0) as (λ r. r ≡ nat_cmp n e.0 → cond (is_eq r) (Some e.1) (find nat_cmp n es) ≢ None → p n ≡ true) [
      | Less ↦ λ _ some. same_tests p q h es (omega arith) n some yes_q
      | Equal ↦ λ r some.
          let at : n ≡ e.0 = ranked n e.0 Equal r in
          let first : q e.0 ≡ true = subst (λ x. q x ≡ true) at yes_q in
          let one_q : ◌≡◌ {A = ℕ} (if q e.0 then 1 else 0) 1 = rw first refl in
          let one_p : 1 ≤ (if p e.0 then 1 else 0) = omega arith in
          subst (λ x. p x ≡ true) (sym at) (is_one (p e.0) one_p)
      | Greater ↦ λ _ some. same_tests p q h es (omega arith) n some yes_q
    ] refl some
  where
    is_one : (b : Bool) → 1 ≤ (if b then 1 else 0) → b ≡ true
    is_one true h = refl
    is_one false h = absurd (omega arith)

-- ---- the directory above

any_gives : (n : ℕ) (m : Names) → list_any (λ x. x.1 == n) m ≡ true → 1 ≤ count_by (λ x. x.1 == n) m
any_gives n [] h = cc
any_gives n (e ∷ es) h =
    let all = sum_by-cons (λ (x : List ℕ × ℕ). cond (x.1 == n) 1 0) e es in
    elim (e.1 == n) as (λ b. (b || list_any (λ x. x.1 == n) es) ≡ true
    → (if b then 1 else 0) + count_by (λ x. x.1 == n) es ≡ count_by (λ x. x.1 == n) (e ∷ es) → 1 ≤ count_by (λ x. x.1 == n) (e ∷ es)) [
      | true ↦ λ h sum. omega arith
      | false ↦ λ h sum. let rest = any_gives n es h in omega arith
    ] h (sym all)

gives_any : (n : ℕ) (x : List ℕ) (m : Names) → find byte_cmp x m ≡ Some n → list_any (λ e. e.1 == n) m ≡ true
gives_any n x [] h = cc
gives_any n x (e ∷ es) h = elim (is_eq (byte_cmp x e.0))
    as (λ b. cond b (Some e.1) (find byte_cmp x es) ≡ Some n → (e.1 == n || list_any (λ e. e.1 == n) es) ≡ true) [
      | true ↦ λ h. let at : e.1 ≡ n = cc in let one : (e.1 == n) ≡ true = eq-eqb e.1 n at in rw one refl
      | false ↦ λ h. elim (e.1 == n) as (λ b. (b || list_any (λ e. e.1 == n) es) ≡ true) [ true ↦ refl | false ↦ gives_any n x es h ]
    ] h

none_gives : (p : Node → Bool) (k : ℕ) (x : Node) (t : Tree) → first_that (λ e. p e.1) t ≡ None → find nat_cmp k t ≡ Some x → p x ≡ false
none_gives p k x [] none h = cc
none_gives p k x (e ∷ es) none h = elim (p e.1) as (λ b. p e.1 ≡ b → cond b (Some e) (first_that (λ e. p e.1) es) ≡ None → p x ≡ false) [
  | true ↦ λ _ bad. cc
  | false ↦ λ first none. elim (is_eq (nat_cmp k e.0)) as (λ b. cond b (Some e.1) (find nat_cmp k es) ≡ Some x → p x ≡ false) [
    | true ↦ λ h. let same : e.1 ≡ x = cc in subst (λ y. p y ≡ false) same first
    | false ↦ λ h. none_gives p k x es none h
  ] h
] refl none

-- k directories up
abbrev pub climb : ℕ → Tree → ℕ → ℕ
climb zero t q = q
climb (suc k) t q = climb k t (up t q)

climb-up : (k : ℕ) (t : Tree) (q : ℕ) → climb k t (up t q) ≡ up t (climb k t q)
climb-up zero t q = refl
climb-up (suc k) t q = climb-up k t (up t q)

climb_root : (k : ℕ) (t : Tree) → climb k t 1 ≡ 1
climb_root zero t = refl
climb_root (suc k) t = climb_root k t

climb_stays : (k j : ℕ) (t : Tree) (q : ℕ) → climb k t q ≡ 1 → k ≤ j → climb j t q ≡ 1
climb_stays zero j t q at le = ap (climb j t) at ∙ climb_root j t
climb_stays (suc k) zero t q at le = absurd (omega arith)
climb_stays (suc k) (suc j) t q at le = climb_stays k j t (up t q) at (omega arith)

in_chain : (k j : ℕ) (t : Tree) (q n : ℕ) → j ≤ k → climb j t q ≡ n → list_any (λ x. x == n) (chain k t q) ≡ true
in_chain zero zero t q n le at = let one : (q == n) ≡ true = eq-eqb q n at in rw one refl
in_chain zero (suc j) t q n le at = absurd (omega arith)
in_chain (suc k) zero t q n le at = let one : (q == n) ≡ true = eq-eqb q n at in rw one refl
in_chain (suc k) (suc j) t q n le at = elim (q == n) as (λ b. (b || list_any (λ x. x == n) (chain k t (up t q))) ≡ true)
    [ true ↦ refl | false ↦ in_chain k j t (up t q) n (omega arith) at ]

module _ (N : ℕ) (s : State) (sound : Sound N s) where
  abbrev t : Tree
  t = s.tree

  abbrev that_gives : ℕ → ℕ × Node → Bool
  that_gives n e = list_any (λ x. x.1 == n) (names_of e.1)

  -- the one directory that names n
  up_is : (d n : ℕ) (x : List ℕ) → entry t d x ≡ Some n → n ≢ 1 → names t n ≡ 1 → up t n ≡ d
  up_is d n x e ne one = at_node (node t d) refl e
    where
      inner : eqb n 1 ≡ false
      inner = grind (arith, nat_tests)

      at_node : (o : Option Node) → node t d ≡ o → find byte_cmp x (names_of (unwrap_or o (File []))) ≡ Some n → up t n ≡ d
      at_node None is e = cc
      at_node (Some y) is e = rw inner (by (first_that (that_gives n) t) refl)
        where
          given : list_any (λ e. e.1 == n) (names_of y) ≡ true
          given = gives_any n x (names_of y) e

          by : (o : Option (ℕ × Node)) → first_that (that_gives n) t ≡ o → unwrap_or (option_map (λ e. e.0) o) 1 ≡ d
          by None none = let never : list_any (λ e. e.1 == n) (names_of y) ≡ false =
              none_gives (λ y. list_any (λ x. x.1 == n) (names_of y)) d y t none is in let yes_is = given in cc
          by (Some f) found = same_or_not f.0 d (λ same. same) (λ apart. absurd (
              let first = first_found nat_cmp_total (λ x. 0) (that_gives n) t f sound.in_order found in
              let left = total_without nat_cmp_total (gives n) d t sound.in_order in
              let here : weight nat_cmp_total (gives n) (node t d) ≡ gives n y = ap (weight nat_cmp_total (gives n)) is in
              let two = any_gives n (names_of y) given in
              let still : find nat_cmp f.0 (without nat_cmp d t) ≡ Some f.1 = find_without nat_cmp_total d f.0 t
              ∙ ap (λ b. cond b None (find nat_cmp f.0 t)) (cmp_other f.0 d apart) ∙ first.1 in
              let more = weight-le-total nat_cmp_total (gives n) f.0 f.1 (without nat_cmp d t) still in
              let three = any_gives n (names_of f.1) first.0 in
              omega (arith, left, here, two, more, three, one)))

  -- ---- no directory is more levels below the root than there are nodes

  abbrev IsStable : ℕ → Type 0
  IsStable k = (q : ℕ) → node t q ≢ None → climb (suc k) t q ≡ 1 → climb k t q ≡ 1

  dir_there : (q : ℕ) → is_dir (node t q) ≡ true → node t q ≢ None
  dir_there q dir none = let plain : is_dir (node t q) ≡ false = ap is_dir none in cc

  abbrev is_root_at : ℕ → ℕ → Bool
  is_root_at k q = climb k t q == 1

  at_root : (k q : ℕ) → is_root_at k q ≡ true → is_root_at (suc k) q ≡ true
  at_root k q h = let at : climb k t q ≡ 1 = eqb-true (climb k t q) 1 h in eq-eqb (climb (suc k) t q) 1 (climb-up k t q ∙ ap (up t) at)

  never : ℕ → Bool
  never q = false

  grows : (k : ℕ) → (k < counted (is_root_at k) t) ⊎ IsStable k
  grows zero = same_or_not (counted (is_root_at 0) t) 0
      (λ z. absurd (
      let least_is = counted_more (λ q. false) (is_root_at 0) (λ q h. cc) t in
      let same : counted (λ q. false) t ≡ counted (is_root_at 0) t = omega arith in
      let bad : false ≡ true = same_tests (λ q. false) (is_root_at 0) (λ q h. cc) t same 1 (dir_there 1 sound.root) refl in
      cc))
      (λ ne. inl (omega arith))
  grows (suc k) = elim (grows k) as (λ _. (suc k < counted (is_root_at (suc k)) t) ⊎ IsStable (suc k)) [
    | inl high ↦
        let more = counted_more (is_root_at k) (is_root_at (suc k)) (at_root k) t in
        same_or_not (counted (is_root_at k) t) (counted (is_root_at (suc k)) t)
        (λ same. inr (deeper k (λ q some h. eqb-true (climb k t q) 1
        (same_tests (is_root_at k) (is_root_at (suc k)) (at_root k) t same q some (eq-eqb (climb (suc k) t q) 1 h)))))
        (λ ne. inl (omega arith))
    | inr stable ↦ inr (deeper k stable)
  ]
    where
      deeper : (k : ℕ) → IsStable k → IsStable (suc k)
      deeper k stable q some h = stable (up t q) (dir_there (up t q) (up_dir t sound.in_order sound.root q)) h

  top : IsStable (length t)
  top = elim (grows (length t)) as (λ _. IsStable (length t)) [
    | inl high ↦ absurd (let most = counted_most (is_root_at (length t)) t in omega arith)
    | inr stable ↦ stable
  ]

  falls : (j q : ℕ) → node t q ≢ None → climb j t q ≡ 1 → climb (length t) t q ≡ 1
  falls zero q some at = ap (climb (length t) t) at ∙ climb_root (length t) t
  falls (suc j) q some at = top q some (falls j (up t q) (dir_there (up t q) (up_dir t sound.in_order sound.root q)) at)

  to_root : {q : ℕ} → IsReachable t q → is_dir (node t q) ≡ true → (j : ℕ) × (climb j t q ≡ 1)
  to_root root dir = (0, refl)
  to_root (below {d = d} {n = n} x r e) dir = same_or_not n 1
      (λ same. (0, same))
      (λ ne. let rest = to_root r (holder (node t d) x n e) in
      (suc rest.0, ap (climb rest.0 t) (up_is d n x e ne (sound.one_name n ne dir)) ∙ rest.1))

  -- ---- what lies under a directory has it above

  module _ (u : Tree) (fewer : (q : ℕ) (x : List ℕ) (k : ℕ) → entry u q x ≡ Some k → entry t q x ≡ Some k) where
    lifts : {n q : ℕ} → Under u n q → is_dir (node t q) ≡ true → (j : ℕ) × (climb j t q ≡ n)
    lifts itself dir = (0, refl)
    lifts (inside {d = d} {k = k} x v e) dir =
        let was = fewer d x k e in
        let counts = named_counts t d x k was in
        let ne : k ≢ 1 = λ at. absurd (let none : names t k ≡ 0 = subst (λ y. names t y ≡ 0) (sym at) sound.root_unnamed in omega arith) in
        let rest = lifts v (holder (node t d) x k was) in
        (suc rest.0, ap (climb rest.0 t) (up_is d k x was ne (sound.one_name k ne dir)) ∙ rest.1)

    pub under_within : (n q : ℕ) → n ≢ 1 → Under u n q → is_dir (node t q) ≡ true → is_within t n q ≡ true
    under_within n q inner v dir =
        let lifted = lifts v dir in
        let low = to_root (sound.reached q dir) dir in
        let fallen = falls low.0 q (dir_there q dir) low.1 in
        elim (within_or lifted.0 (length t)) as (λ _. is_within t n q ≡ true) [
          | inl le ↦ in_chain (length t) lifted.0 t q n le lifted.1
          | inr lt ↦ absurd (inner (sym lifted.1 ∙ climb_stays (length t) lifted.0 t q fallen lt))
        ]
      where
        within_or : (a b : ℕ) → (a ≤ b) ⊎ (b ≤ a)
        within_or a b = grind arith
