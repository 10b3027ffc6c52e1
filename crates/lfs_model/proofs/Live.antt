use Rattle.std.proofs.Common.{◌≡◌, ◌<◌, ◌≤◌, ◌↔◌, ⊎_elim, ◌+◌, ◌*◌, ◌-◌, ◌/◌, ◌%◌, ◌==◌, ℕ, zero, suc, Bool, true, false, cond, List, []}
use Rattle.std.proofs.Common.{◌∷◌, length, take, drop, length-take-le, length-drop, Option, Some, None, count_by, refl, sym, ◌∙◌, ap, ap₂}
use Rattle.std.proofs.Common.{arith, eqb-true, eq-eqb}
use Rattle.std.specs.List.{range_with_len}
use Rattle.std.proofs.lemmas.List.Sums.{sum_by-cons}
use Rattle.std.proofs.lemmas.List.{get_or_past}
use Rattle.std.proofs.lemmas.Bool.{cases_lt, cases_eq, cases_Bool, false_from_ne_true}
use Rattle.lfs_model.specs.Entry.{Entry}
use Rattle.lfs_model.specs.Reach.{View, Row, place_in, chunks}
use Rattle.lfs_model.proofs.Chunks.{one_chunk}
use Rattle.std.proofs.lemmas.List.{drop_more}
use Rattle.lfs_model.specs.Stands.{AreNamed, HoldsCount, IsHeld, count_up, is_live, label_at}
use Rattle.lfs_model.specs.Live.{LiveSectors, NamedCounts, live_count, OneMoreLive, SameLive, GainsBlock, PlacedCounts, ChunkRead, LiveLess}

counts : (p : ℕ → Bool) (a n : ℕ) → count_by p (range_with_len a (suc n)) ≡ cond (p a) 1 0 + count_by p (range_with_len (a + 1) n)
counts p a n = sum_by-cons (λ (x : ℕ). cond (p x) 1 0) a (range_with_len (a + 1) n)

pub count_same : (p q : ℕ → Bool) (a n : ℕ) → ((x : ℕ) → a ≤ x → x < a + n → p x ≡ q x)
    → count_by p (range_with_len a n) ≡ count_by q (range_with_len a n)
count_same p q a zero same = refl
count_same p q a (suc n) same =
    counts p a n ∙ ap₂ (λ (b : Bool) (c : ℕ). cond b 1 0 + c) (same a (omega arith) (omega arith))
    (count_same p q (a + 1) n (λ x le lt. same x (omega arith) (omega arith))) ∙ sym (counts q a n)

pub count_one_more : (p q : ℕ → Bool) (a n o : ℕ) → a ≤ o → o < a + n → ((x : ℕ) → a ≤ x → x < a + n → (x ≡ o → ⊥) → p x ≡ q x)
    → p o ≡ false → q o ≡ true
    → count_by q (range_with_len a n) ≡ suc (count_by p (range_with_len a n))
count_one_more p q a zero o le lt same off on = absurd (omega arith)
count_one_more p q a (suc n) o le lt same off on =
    ⊎_elim
    (λ (here : a ≡ o).
    let rest = count_same q p (a + 1) n (λ x le lt. sym (same x (omega arith) (omega arith) (λ e. omega arith))) in
    let ep : p a ≡ false = ap p here ∙ off in
    let eq : q a ≡ true = ap q here ∙ on in
    let l = ap₂ (λ (b : Bool) (c : ℕ). cond b 1 0 + c) eq rest in
    let r = ap (λ (b : Bool). cond b 1 0 + count_by p (range_with_len (a + 1) n)) ep in
    omega (arith, l, r, counts p a n, counts q a n))
    (λ (later : a ≡ o → ⊥).
    let rest = count_one_more p q (a + 1) n o (omega arith) (omega arith) (λ x le lt ne. same x (omega arith) (omega arith) ne) off on in
    let l = ap₂ (λ (b : Bool) (c : ℕ). cond b 1 0 + c) (sym (same a (omega arith) (omega arith) later)) rest in
    omega (arith, l, counts p a n, counts q a n))
    (cases_eq a o)

module _ (v : View) (named : AreNamed v) (s at : ℕ) (low : at < 64) where
  live_from : (o : Option Entry) → place_in (v.row s) at ≡ o → is_live v s at ≡ true → IsHeld v (2 + 64 * s + at)
  live_from None is live = let e : false ≡ true = sym
      (ap (λ (o : Option Entry). elim o as (λ x. Bool) [ None ↦ false | Some e ↦ v.address e == 2 + 64 * s + at ]) is) ∙ live in absurd (cc)
  live_from (Some e) is live = (
    e,
    eqb-true (v.address e) (2 + 64 * s + at)
        (sym (ap (λ (o : Option Entry). elim o as (λ x. Bool) [ None ↦ false | Some e ↦ v.address e == 2 + 64 * s + at ]) is) ∙ live),
  )

  live_to : IsHeld v (2 + 64 * s + at) → is_live v s at ≡ true
  live_to held =
      let is = held.1 in
      let n = named held.0 (omega arith) in
      let es : (v.address held.0 - 2) / 64 ≡ s = omega arith in
      let eo : (v.address held.0 - 2) % 64 ≡ at = omega arith in
      let there : place_in (v.row s) at ≡ Some held.0 = sym (ap₂ (λ (x y : ℕ). place_in (v.row x) y) es eo) ∙ n in
      ap (λ (o : Option Entry). elim o as (λ x. Bool) [ None ↦ false | Some e ↦ v.address e == 2 + 64 * s + at ]) there
      ∙ eq-eqb (v.address held.0) (2 + 64 * s + at) is

  not_live : (IsHeld v (2 + 64 * s + at) → ⊥) → is_live v s at ≡ false
  not_live none = false_from_ne_true (is_live v s at) (λ live. none (live_from (place_in (v.row s) at) refl live))

pub live_sectors : LiveSectors
live_sectors v named s at low = (live_from v named s at low (place_in (v.row s) at) refl, live_to v named s at low)

same_live_at : (v w : View) → AreNamed v → AreNamed w → (s at : ℕ) → at < 64 → IsHeld v (2 + 64 * s + at) ↔ IsHeld w (2 + 64 * s + at)
    → is_live v s at ≡ is_live w s at
same_live_at v w nv nw s at low same =
    ⊎_elim
    (λ (on : is_live w s at ≡ true). live_to v nv s at low (same.1 ((live_sectors w nw s at low).0 on)) ∙ sym on)
    (λ (off : is_live w s at ≡ false). not_live v nv s at low
    (λ held. let on = live_to w nw s at low (same.0 held) in let e : true ≡ false = sym on ∙ off in absurd (cc)) ∙ sym off)
    (cases_Bool (is_live w s at))

pub one_more_live : OneMoreLive
unfolding count_up
one_more_live v w nv nw s o low same none held =
    count_one_more (is_live v s) (is_live w s) 0 64 o (omega arith) (omega arith) (λ x le lt ne.
    same_live_at v w nv nw s x (omega arith) (same x (omega arith) ne)) (not_live v nv s o low none) (live_to w nw s o low held)

pub same_live : SameLive
unfolding count_up
same_live v w nv nw s same =
    count_same (is_live w s) (is_live v s) 0 64 (λ x le lt. sym (same_live_at v w nv nw s x (omega arith) (same x (omega arith))))

module _ (v w : View) (nv : AreNamed v) (nw : AreNamed w) (x : Entry) (s o : ℕ) (p : GainsBlock v w x s o) where
  -- an entry of v isn't the one that comes, and so keeps its place
  stays : (at : ℕ) → 0 < at → IsHeld v at → IsHeld w at
  stays at lt held =
      let is = held.1 in
      (held.0, p.same held.0 (λ e. let z = ap v.address e in let n = p.none in omega arith) ∙ is)

  was : (at : ℕ) → (at ≡ 2 + 64 * s + o → ⊥) → IsHeld w at → IsHeld v at
  was at ne held =
      let is = held.1 in
      (held.0, sym (p.same held.0 (λ e. let z = ap w.address e in let n = p.at in ne (omega arith))) ∙ is)

  -- its place was nobody's
  nobody : IsHeld v (2 + 64 * s + o) → ⊥
  nobody held =
      let is = held.1 in
      let none = p.none in
      let at = p.at in
      let other : held.0 ≡ x → ⊥ = λ e. let z = ap v.address e in omega arith in
      let both : w.address held.0 ≡ w.address x = p.same held.0 other ∙ is ∙ sym p.at in
      let l : Some held.0 ≡ Some x = sym (nw held.0 (omega arith)) ∙ ap (label_at w) both ∙ nw x (omega arith) in
      other (cc)

  placed_here : live_count w s ≡ suc (live_count v s)
  placed_here =
      one_more_live v w nv nw s o p.within
      (λ at low ne. (stays (2 + 64 * s + at) (omega arith), was (2 + 64 * s + at) (λ e. ne (omega arith))))
      nobody (x, p.at)

  placed_there : (t : ℕ) → (t ≡ s → ⊥) → live_count w t ≡ live_count v t
  placed_there t ne =
      same_live v w nv nw t
      (λ at low. (stays (2 + 64 * t + at) (omega arith), was (2 + 64 * t + at) (λ e. let within = p.within in ne (omega arith))))

pub placed_counts : PlacedCounts
placed_counts v w nv nw x s o p = (placed_here v w nv nw x s o p, placed_there v w nv nw x s o p)

pub chunk_read : ChunkRead
chunk_read c s from bytes es there spelt fits =
    let n = length es in
    let start = 2 + 64 * s + from in
    let e : from + 1 + length es - from ≡ suc (length es) = omega arith in
    let split = drop_more c start None (omega arith) in
    let rest = drop (start + 1) c in
    let long : length (take (length es) rest) ≡ length es = length-take-le (length es) rest (omega (arith, length-drop (start + 1) c)) in
    ap₂ (λ (k : ℕ) (l : List (Option (List ℕ))). chunks [] (take k l)) e (split ∙ ap (λ (x : Option (List ℕ)). x ∷ rest) there)
    ∙ one_chunk bytes es (take (length es) rest) spelt long

-- how many numbers from a on pass a test that none from u on passes
count_below : (p : ℕ → Bool) (u a n : ℕ) → ((x : ℕ) → u ≤ x → p x ≡ false) → count_by p (range_with_len a n) ≤ u - a
count_below p u a zero none = omega arith
count_below p u a (suc n) none =
    let rest = count_below p u (a + 1) n none in
    ⊎_elim
    (λ (low : a < u). let one = cond_at_most (p a) in omega (arith, counts p a n))
    (λ (high : u ≤ a). let zero_here : cond {A = ℕ} (p a) 1 0 ≡ 0 = ap {B = ℕ} (λ (b : Bool). cond {A = ℕ} b 1 0) (none a high) in
    omega (arith, counts p a n))
    (cases_lt a u)
  where
    cond_at_most : (b : Bool) → cond b 1 0 ≤ 1
    cond_at_most true = omega arith
    cond_at_most false = omega arith

not_named : (v : View) (s at : ℕ) → place_in (v.row s) at ≡ None → is_live v s at ≡ false
not_named v s at none = ap (λ (o : Option Entry). elim o as (λ x. Bool) [ None ↦ false | Some e ↦ v.address e == 2 + 64 * s + at ]) none

pub live_less : LiveLess
unfolding count_up
live_less v s q is =
    let u = length q in
    let first = not_named v s 0 (ap (λ (o : Option Row). place_in o 0) is) in
    let past : (x : ℕ) → suc (length q) ≤ x
    → is_live v s x ≡ false = λ x le. not_named v s x (ap (λ (o : Option Row). place_in o x) is ∙ get_or_past (None ∷ q) x None le) in
    let rest = count_below (is_live v s) (suc (length q)) 1 63 past in
    let here : cond {A = ℕ} (is_live v s 0) 1 0 ≡ 0 = ap {B = ℕ} (λ (b : Bool). cond {A = ℕ} b 1 0) first in
    omega (arith, counts (is_live v s) 0 63)

-- ---- counts by themselves
pub count_up_none : (is : ℕ → Bool) → count_up is 0 ≡ 0
unfolding count_up
count_up_none is = refl

pub count_up_same : (p q : ℕ → Bool) (n : ℕ) → ((x : ℕ) → x < n → p x ≡ q x) → count_up p n ≡ count_up q n
unfolding count_up
count_up_same p q n same = count_same p q 0 n (λ x le lt. same x (omega arith))

-- the last of a range
counts_last : (p : ℕ → Bool) (a n : ℕ) → count_by p (range_with_len a (suc n)) ≡ count_by p (range_with_len a n) + cond (p (a + n)) 1 0
counts_last p a zero = counts p a 0 ∙ omega (arith, ap (λ (x : ℕ). cond {A = ℕ} (p x) 1 0) (plus_zero a))
  where
    plus_zero : (a : ℕ) → a ≡ a + 0
    plus_zero a = omega arith
counts_last p a (suc n) =
    let rest = counts_last p (a + 1) n in
    let there : cond {A = ℕ} (p (a + 1 + n)) 1 0 ≡ cond {A = ℕ} (p (a + suc n)) 1 0 =
    ap (λ (x : ℕ). cond {A = ℕ} (p x) 1 0) (omega arith) in
    omega (arith, counts p a (suc n), counts p a n, rest, there)

pub count_up_more : (is : ℕ → Bool) (n : ℕ) → count_up is (suc n) ≡ count_up is n + cond (is n) 1 0
unfolding count_up
count_up_more is n = counts_last is 0 n ∙ ap (λ (x : ℕ). count_by is (range_with_len 0 n) + cond {A = ℕ} (is x) 1 0) (omega arith)

same_tests : (p q : Bool) (P : Type 0) → (p ≡ true) ↔ P → (q ≡ true) ↔ P → p ≡ q
same_tests true q P a b = sym (b.1 (a.0 refl))
same_tests false true P a b = a.1 (b.0 refl)
same_tests false false P a b = refl

pub named_counts : NamedCounts
named_counts v named s n = (to, from)
  where
    to : HoldsCount v s n → n ≡ live_count v s
    to holds = holds.count ∙ count_up_same holds.is_held (is_live v s) 64
        (λ x lt. same_tests (holds.is_held x) (is_live v s x) (IsHeld v (2 + 64 * s + x)) (holds.exact x lt) (live_sectors v named s x lt))

    from : n ≡ live_count v s → HoldsCount v s n
    from is = record { is_held = is_live v s; exact = λ at lt. live_sectors v named s at lt; count = is }
