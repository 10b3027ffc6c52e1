-- The totals that are kept beside a usage table, as one segment changes.
use Rattle.std.proofs.Common.{◌≡◌, ◌<◌, ◌≤◌, ◌+◌, ◌*◌, ◌==◌, cond, ℕ, zero, suc, Bool, List, [], ◌∷◌, length, get_or}
use Rattle.std.proofs.Common.{replicate, refl, sym, ap, ◌∙◌, arith, rules, eq-eqb, not}
use Rattle.std.specs.Prelude.{slice_set, sum_by}
use Rattle.std.proofs.lemmas.List.Sums.{sum_by-cons}
use Rattle.lfs_segments.specs.Table.{SegmentNumbers, UsageTable, no_segment, live_of, held_of, kept_of, FitsSegment, FitsTable}
use Rattle.lfs_segments.specs.Early.{AreTotals, AreUntaken, early_of, early_in, taken_of, taken_in}
use Rattle.lfs_segments.specs.Steps.{Notes, TakesSegment}
use Rattle.lfs_segments.specs.Table.{clean_in}
use Rattle.lfs_model.specs.Running.{CountsUp}
use Rattle.lfs_segments.proofs.Numbers.{clean_change, all_clean}

-- a sum of which one term changes
sum_change : (f : SegmentNumbers → ℕ) (segments : List SegmentNumbers) (s : ℕ) (x : SegmentNumbers) → s < length segments
    → sum_by f (slice_set segments s x) + f (get_or segments s no_segment) ≡ sum_by f segments + f x
sum_change f [] s x lt = absurd (omega arith)
sum_change f (n ∷ rest) zero x lt = omega (arith, sum_by-cons f x rest, sum_by-cons f n rest)
sum_change f (n ∷ rest) (suc s) x lt = grind (arith, sum_change f rest s x, sum_by-cons f n (slice_set rest s x), sum_by-cons f n rest)

-- a term of a sum isn't above it
sum_has : (f : SegmentNumbers → ℕ) (segments : List SegmentNumbers) (s : ℕ) → s < length segments
    → f (get_or segments s no_segment) ≤ sum_by f segments
sum_has f [] s lt = absurd (omega arith)
sum_has f (n ∷ rest) zero lt = omega (arith, sum_by-cons f n rest)
sum_has f (n ∷ rest) (suc s) lt = grind (arith, sum_has f rest s, sum_by-cons f n rest)

-- nor is a sum above as many of the largest term
sum_most : (f : SegmentNumbers → ℕ) (most : ℕ) (segments : List SegmentNumbers) → ((s : ℕ) → f (get_or segments s no_segment) ≤ most)
    → sum_by f segments ≤ most * length segments
sum_most f most [] each = omega arith
sum_most f most (n ∷ rest) each = omega (arith, sum_most f most rest (λ s. each (suc s)), each 0, sum_by-cons f n rest)

-- two lists with the same terms
sum_same : (f : SegmentNumbers → ℕ) (old new : List SegmentNumbers) → length new ≡ length old
    → ((i : ℕ) → f (get_or new i no_segment) ≡ f (get_or old i no_segment)) → sum_by f new ≡ sum_by f old
sum_same f [] [] size same = refl
sum_same f [] (b ∷ new) size same = absurd (omega arith)
sum_same f (a ∷ old) [] size same = absurd (omega arith)
sum_same f (a ∷ old) (b ∷ new) size same =
    omega (arith, sum_same f old new (omega arith) (λ i. same (suc i)), same 0, sum_by-cons f a old, sum_by-cons f b new)

pub early_change : (segments : List SegmentNumbers) (s : ℕ) (x : SegmentNumbers) → s < length segments
    → early_in (slice_set segments s x) + early_of (get_or segments s no_segment) ≡ early_in segments + early_of x
unfolding early_in
early_change segments s x lt = sum_change early_of segments s x lt

pub taken_change : (segments : List SegmentNumbers) (s : ℕ) (x : SegmentNumbers) → s < length segments
    → taken_in (slice_set segments s x) + taken_of (get_or segments s no_segment) ≡ taken_in segments + taken_of x
unfolding taken_in
taken_change segments s x lt = sum_change taken_of segments s x lt

early_most : {n : SegmentNumbers} → FitsSegment n → early_of n ≤ 64
early_most {n} fits = grind arith

pub early_total : (segments : List SegmentNumbers) → ((s : ℕ) → FitsSegment (get_or segments s no_segment))
    → early_in segments ≤ 64 * length segments
unfolding early_in
early_total segments each = sum_most early_of 64 segments (λ s. early_most (each s))

pub taken_total : (segments : List SegmentNumbers) → ((s : ℕ) → FitsSegment (get_or segments s no_segment))
    → taken_in segments ≤ 64 * length segments
unfolding taken_in
taken_total segments each = sum_most taken_of 64 segments (λ s. omega (arith, (each s).used))

pub none_early : (n : ℕ) → early_in (replicate n no_segment) ≡ 0
unfolding early_in
none_early zero = refl
none_early (suc n) = omega (arith, none_early n, sum_by-cons early_of no_segment (replicate n no_segment))

pub none_taken : (n : ℕ) → taken_in (replicate n no_segment) ≡ 0
unfolding taken_in
none_taken zero = refl
none_taken (suc n) = omega (arith, none_taken n, sum_by-cons taken_of no_segment (replicate n no_segment))

pub early_has : (segments : List SegmentNumbers) (s : ℕ) → s < length segments → early_of (get_or segments s no_segment) ≤ early_in segments
unfolding early_in
early_has segments s lt = sum_has early_of segments s lt

pub taken_has : (segments : List SegmentNumbers) (s : ℕ) → s < length segments → taken_of (get_or segments s no_segment) ≤ taken_in segments
unfolding taken_in
taken_has segments s lt = sum_has taken_of segments s lt

-- The totals, as each loses the term of a segment and gains that of its new numbers.
pub totals_change : {segments : List SegmentNumbers} (s : ℕ) (x : SegmentNumbers) {clean early : ℕ} (taken clean' early' taken' : ℕ)
    → s < length segments → AreTotals segments clean early taken
    → clean' + cond ((get_or segments s no_segment).used == 0) 1 0 ≡ clean + cond (x.used == 0) 1 0
    → early' + early_of (get_or segments s no_segment) ≡ early + early_of x
    → taken' + taken_of (get_or segments s no_segment) ≡ taken + taken_of x
    → AreTotals (slice_set segments s x) clean' early' taken'
totals_change {segments} s x taken clean' early' taken' lt totals cleans earlies takens = record {
  clean_ones = omega (arith, clean_change segments s x lt);
  early_ones = omega (arith, early_change segments s x lt);
  taken_ones = omega (arith, taken_change segments s x lt);
}

pub totals_new : {segments : List SegmentNumbers} (n : ℕ) → segments ≡ replicate n no_segment → AreTotals segments n 0 0
totals_new n is = record {
  clean_ones = sym (ap clean_in is ∙ all_clean n);
  early_ones = sym (ap early_in is ∙ none_early n);
  taken_ones = sym (ap taken_in is ∙ none_taken n);
}

-- A term that is none in a sum that is none.
sum_zero : (f : SegmentNumbers → ℕ) (segments : List SegmentNumbers) → f no_segment ≡ 0 → sum_by f segments ≡ 0 → (s : ℕ)
    → f (get_or segments s no_segment) ≡ 0
sum_zero f [] past none s = past
sum_zero f (n ∷ rest) past none zero = omega (arith, sum_by-cons f n rest)
sum_zero f (n ∷ rest) past none (suc s) = sum_zero f rest past (omega (arith, sum_by-cons f n rest)) s

-- no sector is counted as taken: none was
pub untaken_of : {t : UsageTable} → FitsTable t → taken_in t.segments ≡ 0 → AreUntaken t
unfolding taken_in
untaken_of {t} fits none s = omega (arith, sum_zero taken_of t.segments refl none s, (fits.each s).kept)

-- two lists that differ in one term
sum_moved : (f : SegmentNumbers → ℕ) (old new : List SegmentNumbers) (s : ℕ) → length new ≡ length old → s < length old
    → ((i : ℕ) → (i ≡ s → ⊥) → f (get_or new i no_segment) ≡ f (get_or old i no_segment))
    → sum_by f new + f (get_or old s no_segment) ≡ sum_by f old + f (get_or new s no_segment)
sum_moved f [] new s size lt same = absurd (omega arith)
sum_moved f (a ∷ old) [] s size lt same = absurd (omega arith)
sum_moved f (a ∷ old) (b ∷ new) zero size lt same =
    omega (arith, sum_same f old new (omega arith) (λ i. same (suc i) (λ h. omega arith)), sum_by-cons f a old, sum_by-cons f b new)
sum_moved f (a ∷ old) (b ∷ new) (suc s) size lt same =
    omega (
      arith,
      sum_moved f old new s (omega arith) (omega arith) (λ i ne. same (suc i) (λ h. ne (omega arith))),
      same 0 (λ h. omega arith),
      sum_by-cons f a old,
      sum_by-cons f b new,
    )

-- A block that is noted in a segment of which nothing is kept is early.
pub early_noted : {old new : UsageTable} {s : ℕ} (lives : Bool) → s < length old.segments → kept_of old s ≡ 0 → Notes old new s lives
    → early_in new.segments ≡ early_in old.segments + 1
unfolding early_in
early_noted {old} {new} {s} lives lt kept notes =
    let moved = sum_moved early_of old.segments new.segments s notes.size lt away in
    let before : early_of (get_or old.segments s no_segment) ≡ live_of old s + held_of old s =
    ap (λ b. cond b (live_of old s + held_of old s) 0) (eq-eqb (kept_of old s) 0 kept) in
    let now : early_of (get_or new.segments s no_segment) ≡ live_of new s + held_of new s =
    ap (λ b. cond b (live_of new s + held_of new s) 0) (eq-eqb (kept_of new s) 0 (notes.kept s ∙ kept)) in
    omega (arith, one_more lives notes.live notes.held)
  where
    away : (i : ℕ) → (i ≡ s → ⊥) → early_of (get_or new.segments i no_segment) ≡ early_of (get_or old.segments i no_segment)
    away i ne = search rules

    one_more : (l : Bool) → CountsUp l (live_of old) (live_of new) s → CountsUp (not l) (held_of old) (held_of new) s
        → live_of new s + held_of new s ≡ live_of old s + held_of old s + 1
    one_more l live held = search rules

-- Where live, held and kept are the same, as many blocks are early.
pub early_same : (old new : UsageTable) → length new.segments ≡ length old.segments → ((i : ℕ) → live_of new i ≡ live_of old i)
    → ((i : ℕ) → held_of new i ≡ held_of old i) → ((i : ℕ) → kept_of new i ≡ kept_of old i)
    → early_in new.segments ≡ early_in old.segments
unfolding early_in
early_same old new size live held kept = sum_same early_of old.segments new.segments size each
  where
    each : (i : ℕ) → early_of (get_or new.segments i no_segment) ≡ early_of (get_or old.segments i no_segment)
    each i = search (rules, live i, held i, kept i)

pub early_taken : {old new : UsageTable} {s number : ℕ} → TakesSegment old new s number → early_in new.segments ≡ early_in old.segments
early_taken {old} {new} takes = early_same old new takes.size takes.live takes.held takes.kept
