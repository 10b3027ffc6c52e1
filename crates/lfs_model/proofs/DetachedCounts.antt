-- How counts of live blocks change as entries of a file leave at once, or a file is shown no more.
use Rattle.std.proofs.Common.{◌≡◌, ◌<◌, ◌≤◌, ◌⊎◌, inl, inr, ⊎_elim, ◌+◌, ◌*◌, ◌-◌, ◌/◌, ◌==◌, ◌&&◌, cond, not, ℕ, zero, suc, Bool, true}
use Rattle.std.proofs.Common.{false, get_or, Option, Some, None, refl, sym, ◌∙◌, ap, ap₂, subst, arith, eqb-true}
use Rattle.std.proofs.lemmas.Bool.{cases_lt, cases_Bool, cond-true, cond-false, false_from_ne_true}
use Rattle.lfs_model.specs.Content.{Content}
use Rattle.lfs_model.specs.Detaching.{IsCut, IsDetaching, DetachedCounts, DetachedLive}
use Rattle.lfs_model.specs.Entry.{Entry, Data, Leaf, Double, Inode, Map, Usage, Header}
use Rattle.lfs_model.specs.Laid.{IsLaid}
use Rattle.lfs_model.specs.Memory.{Memory, file_of, is_unlinked, is_nameless, is_shown, is_held, those, settled_at, memory_view, count_of}
use Rattle.lfs_model.specs.Memory.{live_of, held_of}
use Rattle.lfs_model.specs.Reach.{Row}
use Rattle.lfs_model.specs.Stands.{LogMap, count_up, is_live}
use Rattle.lfs_model.proofs.Detaching.{of_file_or_not}
use Rattle.lfs_model.proofs.Entries.{data_parent_low, data_parent_high}
use Rattle.lfs_model.proofs.Live.{count_up_none, count_up_more}

-- ---- two tests of which one or none holds where a third does
count_up_sum : (p q r : ℕ → Bool) (n : ℕ) → ((x : ℕ) → x < n → cond {A = ℕ} (p x) 1 0 + cond {A = ℕ} (q x) 1 0 ≡ cond {A = ℕ} (r x) 1 0)
    → count_up p n + count_up q n ≡ count_up r n
count_up_sum p q r zero each = omega (arith, count_up_none p, count_up_none q, count_up_none r)
count_up_sum p q r (suc n) each =
    let rest = count_up_sum p q r n (λ x lt. each x (omega arith)) in
    let here = each n (omega arith) in
    omega (arith, rest, here, count_up_more p n, count_up_more q n, count_up_more r n)

-- whether an entry, if there is one, has this address
abbrev pub has_address : (Entry → ℕ) → Option Entry → ℕ → Bool
has_address at x a = elim x as (λ z. Bool) [ None ↦ false | Some y ↦ settled_at (at y) == a ]

abbrev pub one_if : Bool → ℕ
one_if b = cond {A = ℕ} b 1 0

-- the addresses of one are those of the second and third, and the rows are the same
pub counts_sum : (p q r : Entry → Bool) (P Q R : Memory) → P.rows ≡ R.rows → Q.rows ≡ R.rows
    → ((x : Entry) (a : ℕ) → 0 < a
    → one_if (settled_at (those p P.at x) == a) + one_if (settled_at (those q Q.at x) == a) ≡ one_if (settled_at (those r R.at x) == a))
    → (s : ℕ) → count_of p P s + count_of q Q s ≡ count_of r R s
counts_sum p q r P Q R rows_p rows_q each s =
    count_up_sum (is_live (memory_view p P) s) (is_live (memory_view q Q) s) (is_live (memory_view r R) s) 64 (λ i lt.
    ap₂ (λ (b c : ℕ). b + c)
    (ap (λ (f : ℕ → Row). one_if (has_address (those p P.at) (get_or (f s) i None) (2 + 64 * s + i))) rows_p)
    (ap (λ (f : ℕ → Row). one_if (has_address (those q Q.at) (get_or (f s) i None) (2 + 64 * s + i))) rows_q)
    ∙ at_place (get_or (R.rows s) i None) (2 + 64 * s + i) (omega arith))
  where
    at_place : (o : Option Entry) (a : ℕ) → 0 < a
        → one_if (has_address (those p P.at) o a) + one_if (has_address (those q Q.at) o a) ≡ one_if (has_address (those r R.at) o a)
    at_place None a lt = refl
    at_place (Some x) a lt = each x a lt

-- what has no address is nowhere
pub nowhere : (a b : ℕ) → 0 < a → b ≡ 0 → one_if (settled_at b == a) ≡ 0
nowhere a b lt is =
    ap (λ (b : ℕ). one_if (settled_at b == a)) is
    ∙ ap {B = ℕ} one_if
    (false_from_ne_true (settled_at 0 == a) (λ h. let z : settled_at 0 ≡ a = eqb-true (settled_at 0) a h in omega arith))

-- where no test holds, nothing is counted
pub count_nothing : (is : Entry → Bool) (M : Memory) → ((x : Entry) → is x ≡ false) → (s : ℕ) → count_of is M s ≡ 0
count_nothing is M none s =
    let twice = counts_sum is is is M M M refl refl (λ x a lt.
    let z = nowhere a (those is M.at x) lt (cond-false (is x) (M.at x) 0 (none x)) in
    omega arith) s in
    omega arith

-- with the same addresses and rows counts are the same
pub counts_alike : (p r : Entry → Bool) (P R : Memory) → P.rows ≡ R.rows → ((x : Entry) → those p P.at x ≡ those r R.at x) → (s : ℕ)
    → count_of p P s ≡ count_of r R s
counts_alike p r P R rows same s =
    let none = count_nothing (λ x. false) R (λ x. refl) s in
    let sum = counts_sum p (λ x. false) r P R R rows refl (λ x a lt.
    let z = nowhere a 0 lt refl in
    let e = ap (λ (b : ℕ). one_if (settled_at b == a)) (same x) in
    omega arith) s in
    omega arith

and_false : (b : Bool) → (b && false) ≡ false
and_false true = refl
and_false false = refl

-- ---- entries of a file leave
pub detached_counts : DetachedCounts
detached_counts m M n gone m' M' p is =
    counts_sum is (λ x. is x && gone x) is M' M M p.rows refl (λ x a lt. by_tests x a lt (is x) (gone x) refl refl)
  where
    -- an address is there after, or was there before
    split : (g : Bool) (a b c : ℕ) → 0 < a → b ≡ cond {A = ℕ} g 0 c
        → one_if (settled_at b == a) + one_if (settled_at (cond {A = ℕ} g c 0) == a) ≡ one_if (settled_at c == a)
    split true a b c lt is = let z = nowhere a b lt is in omega arith
    split false a b c lt is = let z = nowhere a 0 lt refl in let e = ap (λ (b : ℕ). one_if (settled_at b == a)) is in omega arith

    by_tests : (x : Entry) (a : ℕ) → 0 < a → (b g : Bool) → is x ≡ b → gone x ≡ g
        → one_if (settled_at (those is M'.at x) == a) + one_if (settled_at (those (λ x. is x && gone x) M.at x) == a)
        ≡ one_if (settled_at (those is M.at x) == a)
    by_tests x a lt true g on is_g =
        let at : M'.at x ≡ cond {A = ℕ} g 0 (M.at x) = ⊎_elim
        (λ (yes_gone : gone x ≡ true). p.none x yes_gone ∙ sym (cond-true (gone x) 0 (M.at x) yes_gone))
        (λ (no_gone : gone x ≡ false). p.others x no_gone ∙ sym (cond-false (gone x) 0 (M.at x) no_gone))
        (cases_Bool (gone x)) ∙ ap (λ (g : Bool). cond {A = ℕ} g 0 (M.at x)) is_g in
        let s = split g a (M'.at x) (M.at x) lt at in
        let e1 = ap (λ (b : Bool). one_if (settled_at (cond {A = ℕ} b (M'.at x) 0) == a)) on in
        let e2 = ap₂ (λ (b g : Bool). one_if (settled_at (cond {A = ℕ} (b && g) (M.at x) 0) == a)) on is_g in
        let e3 = ap (λ (b : Bool). one_if (settled_at (cond {A = ℕ} b (M.at x) 0) == a)) on in
        omega arith
    by_tests x a lt false g off is_g =
        let z = nowhere a 0 lt refl in
        let e1 = ap (λ (b : Bool). one_if (settled_at (cond {A = ℕ} b (M'.at x) 0) == a)) off in
        let e2 = ap₂ (λ (b g : Bool). one_if (settled_at (cond {A = ℕ} (b && g) (M.at x) 0) == a)) off is_g in
        let e3 = ap (λ (b : Bool). one_if (settled_at (cond {A = ℕ} b (M.at x) 0) == a)) off in
        omega arith

-- ---- what is shown is a matter of an entry's file
pub shown_in : (m : LogMap) (k : ℕ) (x : Entry) → file_of x ≡ Some k → is_shown m x ≡ not (is_nameless m k)
shown_in m k x is = ap (λ (f : Option ℕ). elim f as (λ z. Bool) [ None ↦ true | Some a ↦ not (is_nameless m a) ]) is

pub shown_outside : (m m' : LogMap) (n : ℕ) → ((k : ℕ) → (k ≡ n → ⊥) → m'.header k ≡ m.header k) → (x : Entry) → (file_of x ≡ Some n → ⊥)
    → is_shown m' x ≡ is_shown m x
shown_outside m m' n headers x out = go (file_of x) refl
  where
    go : (f : Option ℕ) → file_of x ≡ f → elim f as (λ z. Bool) [ None ↦ true | Some a ↦ not (is_nameless m' a) ] ≡ elim f as (λ z. Bool)
        [ None ↦ true | Some a ↦ not (is_nameless m a) ]
    go None is = refl
    go (Some a) is = ap (λ (h : Option Header). not (is_unlinked h)) (headers a (λ same. out (is ∙ ap Some same)))

-- a set with the inode has the whole file
pub whole_file : (n : ℕ) (gone : Entry → Bool) → IsCut n gone → gone (Inode n) ≡ true → (x : Entry) → file_of x ≡ Some n → gone x ≡ true
whole_file n gone cut whole x is = go x is
  where
    leaf : (q : ℕ) → gone (Leaf n q) ≡ true
    leaf zero = cut.below (Leaf n zero) whole
    leaf (suc q) = cut.below (Leaf n (suc q)) (cut.below (Double n) whole)

    go : (x : Entry) → file_of x ≡ Some n → gone x ≡ true
    go (Data k i) is = let s : k ≡ n = cc in subst (λ (k : ℕ). gone (Data k i) ≡ true) (sym s) (cut.below (Data n i) (⊎_elim
        (λ (low : i < 112). ap gone (data_parent_low n i low) ∙ whole)
        (λ (high : 112 ≤ i). ap gone (data_parent_high n i high) ∙ leaf ((i - 112) / 128))
        (cases_lt i 112)))
    go (Leaf k q) is = let s : k ≡ n = cc in subst (λ (k : ℕ). gone (Leaf k q) ≡ true) (sym s) (leaf q)
    go (Double k) is = let s : k ≡ n = cc in subst (λ (k : ℕ). gone (Double k) ≡ true) (sym s) (cut.below (Double n) whole)
    go (Inode k) is = let s : k ≡ n = cc in subst (λ (k : ℕ). gone (Inode k) ≡ true) (sym s) whole
    go (Map j) is = let bad : None ≡ Some n = is in absurd (cc)
    go (Usage j) is = let bad : None ≡ Some n = is in absurd (cc)

module _ (e : Content) (m : LogMap) (M : Memory) (o n : ℕ) (gone : Entry → Bool) (m' : LogMap) (M' : Memory) (laid : IsLaid e m M o)
    (p : IsDetaching m M n gone m' M') where
  -- if the inode goes, so does all of its file
  shown_staying : (x : Entry) → gone x ≡ false → gone (Inode n) ≡ false → is_shown m' x ≡ is_shown m x
  shown_staying x off here = ⊎_elim
      (λ (own : file_of x ≡ Some n). shown_in m' n x own ∙ ap (λ (h : Option Header). not (is_unlinked h))
      (p.map.header ∙ cond-false (gone (Inode n)) None (m.header n) here) ∙ sym (shown_in m n x own))
      (λ (out : file_of x ≡ Some n → ⊥). shown_outside m m' n p.map.headers x out)
      (of_file_or_not n x)

  either_way : (b c : Bool) (a : ℕ) → a ≡ 0 → cond {A = ℕ} b a 0 ≡ cond {A = ℕ} c a 0
  either_way b c a z = zero_at b ∙ sym (zero_at c)
    where
      zero_at : (b : Bool) → cond {A = ℕ} b a 0 ≡ 0
      zero_at true = z
      zero_at false = refl

  true_not_false : (x : Entry) → gone x ≡ true → gone x ≡ false → ⊥
  true_not_false x on off = let bad : true ≡ false = sym on ∙ off in absurd (cc)

  -- what stays is shown as before, unless it has no address
  shown_now : (x : Entry) → (is_shown m' x ≡ is_shown m x) ⊎ (M'.at x ≡ 0)
  shown_now x = ⊎_elim
      (λ (on : gone x ≡ true). inr (p.none x on))
      (λ (off : gone x ≡ false). ⊎_elim
      (λ (whole : gone (Inode n) ≡ true). ⊎_elim
      (λ (own : file_of x ≡ Some n). absurd (true_not_false x (whole_file n gone p.cut whole x own) off))
      (λ (out : file_of x ≡ Some n → ⊥). inl (shown_outside m m' n p.map.headers x out))
      (of_file_or_not n x))
      (λ (part : gone (Inode n) ≡ false). inl (shown_staying x off part))
      (cases_Bool (gone (Inode n))))
      (cases_Bool (gone x))

  live_alike : (s : ℕ) → live_of m' M' s ≡ count_of (is_shown m) M' s
  live_alike = counts_alike (is_shown m') (is_shown m) M' M' refl (λ x. ⊎_elim
      (λ (same : is_shown m' x ≡ is_shown m x). ap (λ (b : Bool). cond {A = ℕ} b (M'.at x) 0) same)
      (λ (z : M'.at x ≡ 0). either_way (is_shown m' x) (is_shown m x) (M'.at x) z)
      (shown_now x))

  held_alike : (s : ℕ) → held_of m' M' s ≡ count_of (is_held m) M' s
  held_alike = counts_alike (is_held m') (is_held m) M' M' refl (λ x. ⊎_elim
      (λ (same : is_shown m' x ≡ is_shown m x). ap (λ (b : Bool). cond {A = ℕ} (not b) (M'.at x) 0) same)
      (λ (z : M'.at x ≡ 0). either_way (is_held m' x) (is_held m x) (M'.at x) z)
      (shown_now x))

  -- a test that holds, or doesn't, for each entry of the file
  all_of_it : (is : Entry → Bool) → ((x : Entry) → file_of x ≡ Some n → is x ≡ true) → (s : ℕ)
      → count_of is M' s + count_of gone M s ≡ count_of is M s
  all_of_it is each s =
      let c = detached_counts m M n gone m' M' p is s in
      let same = counts_alike (λ x. is x && gone x) gone M M refl (λ x. ap (λ (b : Bool). cond {A = ℕ} b (M.at x) 0) (both x)) s in
      omega arith
    where
      both : (x : Entry) → (is x && gone x) ≡ gone x
      both x = ⊎_elim
          (λ (on : gone x ≡ true). ap (λ (b : Bool). b && gone x) (each x (p.cut.of_file x on)))
          (λ (off : gone x ≡ false). ap (λ (b : Bool). is x && b) off ∙ and_false (is x) ∙ sym off)
          (cases_Bool (gone x))

  none_of_it : (is : Entry → Bool) → ((x : Entry) → file_of x ≡ Some n → is x ≡ false) → (s : ℕ) → count_of is M' s ≡ count_of is M s
  none_of_it is each s =
      let c = detached_counts m M n gone m' M' p is s in
      let none = count_nothing (λ x. is x && gone x) M neither s in
      omega arith
    where
      neither : (x : Entry) → (is x && gone x) ≡ false
      neither x = ⊎_elim
          (λ (on : gone x ≡ true). ap (λ (b : Bool). b && gone x) (each x (p.cut.of_file x on)))
          (λ (off : gone x ≡ false). ap (λ (b : Bool). is x && b) off ∙ and_false (is x))
          (cases_Bool (gone x))

pub detached_live : DetachedLive
detached_live e m M o n gone m' M' laid p = (named, nameless)
  where
    named : is_nameless m n ≡ false → (s : ℕ) → (live_of m' M' s + count_of gone M s ≡ live_of m M s) × (held_of m' M' s ≡ held_of m M s)
    named has s =
        let l = live_alike e m M o n gone m' M' laid p s in
        let c = all_of_it e m M o n gone m' M' laid p (is_shown m) (λ x is. shown_in m n x is ∙ ap not has) s in (
          omega arith,
          held_alike e m M o n gone m' M' laid p s
              ∙ none_of_it e m M o n gone m' M' laid p (is_held m) (λ x is. ap not (shown_in m n x is ∙ ap not has)) s,
        )

    nameless : is_nameless m n ≡ true → (s : ℕ) → (live_of m' M' s ≡ live_of m M s) × (held_of m' M' s + count_of gone M s ≡ held_of m M s)
    nameless has s =
        let h = held_alike e m M o n gone m' M' laid p s in
        let c = all_of_it e m M o n gone m' M' laid p (is_held m) (λ x is. ap not (shown_in m n x is ∙ ap not has)) s in (
          live_alike e m M o n gone m' M' laid p s
              ∙ none_of_it e m M o n gone m' M' laid p (is_shown m) (λ x is. shown_in m n x is ∙ ap not has) s,
          omega arith,
        )
