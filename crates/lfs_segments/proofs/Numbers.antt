-- Numbers of segments, as one changes.
use Rattle.std.proofs.Common.{Option, ◌≡◌, ◌≢◌, ◌<◌, ◌≤◌, ⊎_elim, ◌+◌, ◌==◌, cond, ℕ, zero, suc, Bool, true, false, List, length, get_or}
use Rattle.std.proofs.Common.{replicate, refl, sym, ◌∙◌, ap, subst, arith, eq-eqb, length-set, get_or-set_other, get_or-set_same}
use Rattle.std.specs.Prelude.{slice_set}
use Rattle.std.proofs.lemmas.Bool.{cases_eq, ne_eqb}
use Rattle.lfs_model.specs.declared.limits.TheConstants.{MOST_UNIT_POWER}
use Rattle.lfs_model.specs.Stands.{count_up}
use Rattle.lfs_model.proofs.Live.{count_up_none, count_up_more, count_up_same}
use Rattle.lfs_segments.specs.Table.{SegmentNumbers, no_segment, is_clean_in, clean_in, PlaceInSegment, FitsSegment, FitsTable}

-- equal tests count the same
pub counts : {a b : Bool} → a ≡ b → cond {A = ℕ} a 1 0 ≡ cond {A = ℕ} b 1 0
counts same = ap (λ b. cond {A = ℕ} b 1 0) same

pub one_at_most : (b : Bool) → cond {A = ℕ} b 1 0 ≤ 1
one_at_most true = omega arith
one_at_most false = omega arith

-- one changes
pub count_change : (p q : ℕ → Bool) (n o : ℕ) → o < n → ((x : ℕ) → (x ≡ o → ⊥) → p x ≡ q x)
    → count_up q n + cond (p o) 1 0 ≡ count_up p n + cond (q o) 1 0
count_change p q zero o lt same = absurd (omega arith)
count_change p q (suc n) o lt same = grind (arith, count_up_same q p n, counts, count_up_more p n, count_up_more q n, count_change p q n o)

count_most : (p : ℕ → Bool) (n : ℕ) → count_up p n ≤ n
count_most p zero = omega (arith, count_up_none p)
count_most p (suc n) = omega (arith, count_most p n, one_at_most (p n), count_up_more p n)

pub clean_most : (segments : List SegmentNumbers) → clean_in segments ≤ length segments
unfolding clean_in
clean_most segments = count_most (is_clean_in segments) (length segments)

pub set_own : (segments : List SegmentNumbers) (s : ℕ) (x : SegmentNumbers) → s < length segments
    → get_or (slice_set segments s x) s no_segment ≡ x
set_own segments s x lt = get_or-set_same segments s x no_segment lt

pub set_other : (segments : List SegmentNumbers) {s : ℕ} (x : SegmentNumbers) {i : ℕ} → (i ≡ s → ⊥)
    → get_or (slice_set segments s x) i no_segment ≡ get_or segments i no_segment
set_other segments {s} x {i} ne = get_or-set_other segments s i x no_segment ne

-- what holds of each segment, where it holds of the new one
pub set_each : (P : SegmentNumbers → Type 0) (segments : List SegmentNumbers) (s : ℕ) (x : SegmentNumbers) → s < length segments → P x
    → ((i : ℕ) → P (get_or segments i no_segment)) → (i : ℕ) → P (get_or (slice_set segments s x) i no_segment)
set_each P segments s x lt own each i =
    ⊎_elim (λ here. rw here (rw (set_own segments s x lt) own)) (λ away. rw (set_other segments x away) (each i)) (cases_eq i s)

-- the clean ones, as a segment's numbers change
pub clean_change : (segments : List SegmentNumbers) (s : ℕ) (x : SegmentNumbers) → s < length segments
    → clean_in (slice_set segments s x) + cond ((get_or segments s no_segment).used == 0) 1 0 ≡ clean_in segments + cond (x.used == 0) 1 0
unfolding clean_in
clean_change segments s x lt =
    let size = ap (count_up (is_clean_in (slice_set segments s x))) (length-set segments s x) in
    let there = ap (λ n. cond {A = ℕ} (n.used == 0) 1 0) (set_own segments s x lt) in
    let change = count_change (is_clean_in segments) (is_clean_in (slice_set segments s x)) (length segments) s lt
    (λ i away. ap (λ n. n.used == 0) (sym (set_other segments x away))) in
    omega arith

-- a clean segment less
pub one_taken : (segments : List SegmentNumbers) (s : ℕ) (x : SegmentNumbers) → s < length segments
    → (get_or segments s no_segment).used ≡ 0 → x.used ≢ 0 → clean_in segments ≡ suc (clean_in (slice_set segments s x))
one_taken segments s x lt clean ne = omega (arith, clean_change segments s x lt, counts (eq-eqb _ 0 clean), counts (ne_eqb x.used 0 ne))

-- as many, where a segment stays clean or stays in use
pub still_clean : (segments : List SegmentNumbers) (s : ℕ) (x : SegmentNumbers) → s < length segments
    → ((get_or segments s no_segment).used == 0) ≡ (x.used == 0) → clean_in (slice_set segments s x) ≡ clean_in segments
still_clean segments s x lt same = omega (arith, clean_change segments s x lt, counts same)

-- all are clean at first
pub no_segment_there : (n i : ℕ) → get_or (replicate n no_segment) i no_segment ≡ no_segment
no_segment_there zero i = refl
no_segment_there (suc n) zero = refl
no_segment_there (suc n) (suc i) = no_segment_there n i

long : (n : ℕ) → length (replicate n no_segment) ≡ n
long zero = refl
long (suc n) = ap suc (long n)

pub all_clean : (n : ℕ) → clean_in (replicate n no_segment) ≡ n
unfolding clean_in
all_clean n = ap (count_up (is_clean_in (replicate n no_segment))) (long n) ∙ every n
  where
    every : (m : ℕ) → count_up (is_clean_in (replicate n no_segment)) m ≡ m
    every zero = count_up_none (is_clean_in (replicate n no_segment))
    every (suc m) =
        let rest = every m in
        let one = counts (ap (λ x. x.used == 0) (no_segment_there n m)) in
        omega (arith, count_up_more (is_clean_in (replicate n no_segment)) m)

pub all_fit : (n : ℕ) (i : ℕ) → FitsSegment (get_or (replicate n no_segment) i no_segment)
all_fit n i = subst FitsSegment (sym (no_segment_there n i)) (record { used = omega arith; fewer = omega arith; kept = omega arith })

pub new_fits : (o : Option ℕ) {segments : List SegmentNumbers} (blocks : List PlaceInSegment) (n unit : ℕ) → n ≤ 1024
    → unit ≤ MOST_UNIT_POWER → segments ≡ replicate n no_segment → length blocks ≡ 16
    → FitsTable (record { segments = segments; blocks = blocks; last = o; unit = unit })
new_fits o blocks n unit few low is whole = record {
  few = let l = ap length is ∙ long n in omega arith;
  blocks = whole;
  unit = low;
  each = λ s. subst (λ l. FitsSegment (get_or l s no_segment)) (sym is) (all_fit n s);
}

-- the table with a segment's numbers changed
pub set_fits : (o : Option ℕ) (segments : List SegmentNumbers) (blocks : List PlaceInSegment) (unit s : ℕ) {x : SegmentNumbers}
    → FitsTable (record { segments = segments; blocks = blocks; last = o; unit = unit }) → s < length segments → FitsSegment x
    → FitsTable (record { segments = slice_set segments s x; blocks = blocks; last = o; unit = unit })
set_fits o segments blocks unit s {x} fits lt own = record {
  few = omega (arith, length-set segments s x);
  blocks = fits.blocks;
  unit = fits.unit;
  each = set_each FitsSegment segments s x lt own fits.each;
}
