-- Going up from one number after the other, with marks.
use Rattle.std.specs.Prelude.{◌==◌, nat_eq, not}
use Rattle.std.proofs.Common.{◌≡◌, ◌≢◌, ◌<◌, ◌≤◌, ◌⊎◌, inl, inr, ⊎_elim, ◌+◌, cond, true, false, Bool, eqb, ℕ, zero, suc, List, length, set}
use Rattle.std.proofs.Common.{Option, refl, sym, ◌∙◌, ap, arith, slice_index}
use Rattle.std.proofs.lemmas.Bool.{cases_eq}
use Rattle.std.proofs.lemmas.Bool.Decides.{nat_tests}
use Rattle.std.proofs.lemmas.List.{get_or-set_other, get_or-set_same}
use Rattle.lfs_tree.specs.Objects.{sum_below}
use Rattle.lfs_files.specs.declared.header.Header.{Header}
use Rattle.lfs_tree.specs.Naming.{leads}
use Rattle.lfs_tree.specs.Reaching.{Climbs, Marked, MarksDirectory, MarksUp, more, root}

-- ---- how many have no mark yet
abbrev pub unmarked : List ℕ → ℕ → ℕ
unmarked marks i = cond {A = ℕ} (slice_index marks i == 0) 1 0

abbrev pub left : List ℕ → ℕ
left marks = sum_below (unmarked marks) 4096

sum_same_or_less : (f g : ℕ → ℕ) → ((i : ℕ) → g i ≤ f i) → (n : ℕ) → sum_below g n ≤ sum_below f n
unfolding sum_below
sum_same_or_less f g le zero = omega arith
sum_same_or_less f g le (suc n) = omega (arith, sum_same_or_less f g le n)

sum_less : (f g : ℕ → ℕ) → ((i : ℕ) → g i ≤ f i) → (at : ℕ) → g at < f at → (n : ℕ) → at < n → sum_below g n < sum_below f n
unfolding sum_below
sum_less f g le at lt zero low = absurd (omega (arith, low))
sum_less f g le at lt (suc n) low = ⊎_elim
    (λ (here : at ≡ n). (let a = ap f here in let b = ap g here in omega (arith, sum_same_or_less f g le n)))
    (λ (other : at ≡ n → ⊥).
    (omega (arith, sum_less f g le at lt n (omega (arith, low)))))
    (cases_eq at n)

module _ (marks : List ℕ) (at start : ℕ) (inside : at < length marks) (none : slice_index marks at ≡ 0) (some : 0 < start) where
  no_mark : (l : List ℕ) (i : ℕ) → slice_index l i ≡ 0 → unmarked l i ≡ 1
  no_mark l i is = ap {B = ℕ} (λ (x : ℕ). cond (x == 0) 1 0) is

  a_mark : (l : List ℕ) (i : ℕ) → 0 < slice_index l i → unmarked l i ≡ 0
  a_mark l i lt =
      let no_ : eqb (slice_index l i) 0 ≡ false = grind (arith, nat_tests) in
      ap {B = ℕ} (λ (b : Bool). cond b 1 0) no_

  here_marked : (i : ℕ) → i ≡ at → slice_index (set marks at start) i ≡ start
  here_marked i same = cc (get_or-set_same marks at start 0 inside)

  else_same : (i : ℕ) → (i ≡ at → ⊥) → slice_index (set marks at start) i ≡ slice_index marks i
  else_same i other = get_or-set_other marks at i start 0 other

  less_each : (i : ℕ) → unmarked (set marks at start) i ≤ unmarked marks i
  less_each i = ⊎_elim
      (λ (same : i ≡ at). let gone = a_mark (set marks at start) i (omega (arith, here_marked i same)) in
      omega arith)
      (λ (other : i ≡ at → ⊥). omega (arith, ap {B = ℕ} (λ (x : ℕ). cond (x == 0) 1 0) (else_same i other)))
      (cases_eq i at)

  pub fewer_left : at < 4096 → left (set marks at start) < left marks
  fewer_left low =
      let gone = a_mark (set marks at start) at (omega (arith, here_marked at refl)) in
      sum_less (unmarked marks) (unmarked (set marks at start)) less_each at (omega (arith, no_mark marks at none)) 4096 low

-- ---- on the way up
-- One came from a number to this one, and marked what had no mark before.
pub record OnTheWay (up begin marks : List ℕ) (start at : ℕ) : Type 0 where
  pub old : (n : ℕ) → 0 < slice_index marks n → slice_index marks n ≢ start → Climbs (slice_index up) n
  pub later : Climbs (slice_index up) at → (n : ℕ) → slice_index marks n ≡ start → Climbs (slice_index up) n
  pub ring : (n : ℕ) → slice_index marks n ≡ start → (slice_index up n ≡ at) ⊎ (slice_index marks (slice_index up n) ≡ start)
  pub low : (n : ℕ) → slice_index marks n < start + 1
  pub root : slice_index marks 1 ≡ 1
  pub begun : ((at ≡ start) × ((n : ℕ) → slice_index marks n ≢ start)) ⊎ (slice_index marks start ≡ start)

module _ (up begin : List ℕ) (start : ℕ) (some : 2 ≤ start) where
  pub way_begins : Marked up begin start → OnTheWay up begin begin start start
  way_begins marked = record {
    old = λ n lt other. marked.climbs n lt;
    later = λ climbs n is. (absurd (omega (arith, marked.low n)));
    ring = λ n is. (absurd (omega (arith, marked.low n)));
    low = λ n. (omega (arith, marked.low n));
    root = marked.root;
    begun = inl (refl, λ n is. (omega (arith, marked.low n)));
  }

  module _ (marks : List ℕ) (at : ℕ) (was : OnTheWay up begin marks start at) where
    module _ (inside : at < length marks) (none : slice_index marks at ≡ 0) where
      new : ℕ → ℕ
      new n = slice_index (set marks at start) n

      own : (n : ℕ) → n ≡ at → slice_index (set marks at start) n ≡ start
      own n same = cc (get_or-set_same marks at start 0 inside)

      kept : {n : ℕ} → (n ≡ at → ⊥) → slice_index (set marks at start) n ≡ slice_index marks n
      kept {n} other = get_or-set_other marks at n start 0 other

      stays : (n : ℕ) → slice_index marks n ≡ start → slice_index (set marks at start) n ≡ start
      stays n is = ⊎_elim (own n) (λ (other : n ≡ at → ⊥). kept other ∙ is) (cases_eq n at)

      ring_then : (n : ℕ) → slice_index (set marks at start) n ≡ start
          → (slice_index up n ≡ slice_index up at) ⊎ (slice_index (set marks at start) (slice_index up n) ≡ start)
      ring_then n is = ⊎_elim
          (λ (same : n ≡ at). inl (cc))
          (λ (other : n ≡ at → ⊥). ⊎_elim
          (λ (back : slice_index up n ≡ at). inr (own (slice_index up n) back))
          (λ (on : slice_index marks (slice_index up n) ≡ start). inr (stays (slice_index up n) on)) (was.ring n (sym (kept other) ∙ is)))
          (cases_eq n at)

      pub way_goes_on : OnTheWay up begin (set marks at start) start (slice_index up at)
      way_goes_on = record {
        old = λ n lt apart. ⊎_elim
            (λ (same : n ≡ at). absurd (apart (own n same)))
            (λ (other : n ≡ at → ⊥). (let e = kept other in was.old n (omega arith) (λ is. apart (e ∙ is)))) (cases_eq n at);
        later = λ climbs n is. ⊎_elim
            (λ (same : n ≡ at). rw same (more at climbs))
            (λ (other : n ≡ at → ⊥). was.later (more at climbs) n (sym (kept other) ∙ is)) (cases_eq n at);
        ring = ring_then;
        low = λ n. ⊎_elim
            (λ (same : n ≡ at). (omega (arith, own n same)))
            (λ (other : n ≡ at → ⊥). (omega (arith, kept other, was.low n))) (cases_eq n at);
        root = ⊎_elim
            (λ (same : 1 ≡ at). (let e = ap (slice_index marks) same in absurd (omega arith)))
            (λ (other : 1 ≡ at → ⊥). kept other ∙ was.root) (cases_eq 1 at);
        begun = inr (⊎_elim
            (λ (first : (at ≡ start) × ((n : ℕ) → slice_index marks n ≢ start)). own start (sym first.0))
            (λ (on : slice_index marks start ≡ start). stays start on)
            was.begun);
      }

    -- it ends where there was a mark
    module _ (marked : 0 < slice_index marks at) where
      begun_on : (slice_index marks start ≡ start) ⊎ (0 < slice_index marks start)
      begun_on = ⊎_elim
          (λ (first : (at ≡ start) × ((n : ℕ) → slice_index marks n ≢ start)).
          inr (rw (← first.0) marked))
          (λ (on : slice_index marks start ≡ start). inl on)
          was.begun

      pub way_ends : slice_index marks at ≢ start → MarksUp up marks start true
      way_ends other = (
        record {
          climbs = λ n lt. ⊎_elim
              (λ (own_ : slice_index marks n ≡ start). was.later (was.old at marked other) n own_)
              (λ (apart : slice_index marks n ≡ start → ⊥). was.old n lt apart)
              (cases_eq (slice_index marks n) start);
          low = was.low;
          root = was.root;
        },
        ⊎_elim
            (λ (on : slice_index marks start ≡ start). omega arith)
            (λ (on : 0 < slice_index marks start). on)
            begun_on,
      )

      module _ (back : slice_index marks at ≡ start) where
        never : {n : ℕ} → Climbs (slice_index up) n → slice_index marks n ≡ start → ⊥
        never root is = omega arith
        never (more n rest) is = never rest (⊎_elim
            (λ (e : slice_index up n ≡ at). cc)
            (λ (e : slice_index marks (slice_index up n) ≡ start). e)
            (was.ring n is))

        pub way_turns : MarksUp up marks start false
        way_turns climbs = ⊎_elim
            (λ (first : (at ≡ start) × ((n : ℕ) → slice_index marks n ≢ start)). first.1 at back)
            (λ (on : slice_index marks start ≡ start). never climbs on)
            was.begun

      pub way_done : {mark : ℕ} → mark ≡ slice_index marks at → MarksUp up marks start (not (nat_eq mark start))
      way_done {mark} is = elim (nat_eq mark start) as (λ b. nat_eq mark start ≡ b → MarksUp up marks start (not b)) [
        | true ↦ λ e. let same : mark ≡ start = grind (arith, nat_tests) in way_turns (cc)
        | false ↦ λ e. let other : mark ≢ start = grind (arith, nat_tests) in way_ends (λ on. other (is ∙ on))
      ] refl

-- ---- directories one after the other
pub marked_next : {up marks : List ℕ} (n : ℕ) → Marked up marks n → Marked up marks (n + 1)
marked_next n was = record { climbs = was.climbs; low = λ k. (omega (arith, was.low k)); root = was.root }

module _ (headers : List (Option Header)) (up marks : List ℕ) (n : ℕ) where
  pub directory_passed : leads headers n ≡ false → Marked up marks n → MarksDirectory headers up marks n true
  directory_passed other was = (marked_next n was, λ on. cc)

  pub directory_climbs : leads headers n ≡ true → (r : Bool) → MarksUp up marks n r → MarksDirectory headers up marks n r
  directory_climbs on true did = (did.0, λ same. did.0.climbs n did.1)
  directory_climbs on false did = (on, did)

-- one mark, the root's
pub root_marked : (up marks : List ℕ) → 1 < length marks → ((n : ℕ) → slice_index marks n ≡ 0) → Marked up (set marks 1 1) 2
root_marked up marks inside none = record {
  climbs = λ n lt. ⊎_elim
      (λ (same : n ≡ 1). rw same root)
      (λ (other : n ≡ 1 → ⊥).
      (absurd (omega (arith, get_or-set_other marks 1 n 1 0 other))))
      (cases_eq n 1);
  low = λ n. ⊎_elim
      (λ (same : n ≡ 1).
      (omega (arith, ap (slice_index (set marks 1 1)) same, get_or-set_same marks 1 1 0 inside)))
      (λ (other : n ≡ 1 → ⊥). (omega (arith, get_or-set_other marks 1 n 1 0 other)))
      (cases_eq n 1);
  root = get_or-set_same marks 1 1 0 inside;
}
