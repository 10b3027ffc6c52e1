-- Where fewer than a quarter of the segments is clean, and the blocks of all are
-- as many as a tree may need at most, an eighth of the segments and one more gain.
use Rattle.std.proofs.Common.{◌≡◌, ◌<◌, ◌≤◌, ⊎_elim, ◌+◌, ◌-◌, ◌*◌, ◌/◌, ◌==◌, cond, not, ℕ, zero, suc, Bool, true, false, List, length}
use Rattle.std.proofs.Common.{Option, Some, refl, ◌∙◌, ap, arith, None, take_all}
use Rattle.std.proofs.Math.Nat.{add-mul, mul-le-mul_right, one-mul}
use Rattle.std.specs.Prelude.{sum_by}
use Rattle.std.proofs.lemmas.Bool.{cases_lt, cond-true, cond-false}
use Rattle.lfs_model.proofs.BelowSums.{sum_below}
use Rattle.lfs_model.proofs.Live.{count_up_more}
use Rattle.lfs_model.specs.Members.{IsIn}
use Rattle.lfs_model.specs.Stands.{count_up}
use Rattle.lfs_segments.specs.declared.candidate.Preference.TheVariants as preference
use Rattle.lfs_segments.specs.Choosing.{Exhausts}
use Rattle.lfs_segments.specs.Table.{UsageTable, used_of, is_clean_in, clean_in, FitsTable}
use Rattle.lfs_segments.specs.Victims.{load_of, loads, gain_of, MayBeVictim, AreFirst, ComesBefore, IsPressed}
use Rattle.lfs_segments.proofs.LeastSums.{filled_up, below_among, below_times, sum_less, sum_ones}
use Rattle.lfs_segments.proofs.LoadsBelow.{loads_below}
use Rattle.lfs_segments.proofs.LeastLoads.{greatest_in, least_in}

-- ---- how many segments are in use
-- the last chunk stands in this segment
abbrev is_open : Option ℕ → ℕ → Bool
is_open None s = false
is_open (Some o) s = o == s

-- a segment may be cleaned: it is in use, and not that one
abbrev is_counted : UsageTable → ℕ → Bool
is_counted t s = cond (used_of t s == 0) false (not (is_open t.last s))

abbrev one : UsageTable → ℕ → ℕ
one t s = cond (is_counted t s) 1 0

-- what is counted may be cleaned
counted : (t : UsageTable) (s : ℕ) → is_counted t s ≡ true → (0 < used_of t s) × (t.last ≡ Some s → ⊥)
counted t s is = grind (arith, cond-false (used_of t s == 0) false (not (is_open t.last s)))

-- the others are clean, or the open one
others_clean : (t : UsageTable) (n : ℕ)
    → n ≤ sum_below (one t) n + sum_below (λ (s : ℕ). cond {A = ℕ} (is_open t.last s) 1 0) n + count_up (is_clean_in t.segments) n
others_clean t zero = omega arith
others_clean t (suc n) =
    let rest = others_clean t n in
    let m = count_up_more (is_clean_in t.segments) n in
    let o = either (used_of t n == 0) (is_open t.last n) in
    omega arith
  where
    either : (u o : Bool) → 1 ≤ cond {A = ℕ} (cond {A = Bool} u false (not o)) 1 0 + cond {A = ℕ} o 1 0 + cond {A = ℕ} u 1 0
    either true true = omega arith
    either true false = omega arith
    either false true = omega arith
    either false false = omega arith

-- there is one open segment at most
one_open : (o n : ℕ) → (n ≤ o → sum_below (λ (s : ℕ). cond {A = ℕ} (o == s) 1 0) n ≡ 0)
    × (sum_below (λ (s : ℕ). cond {A = ℕ} (o == s) 1 0) n ≤ 1)
one_open o zero = (λ le. refl, omega arith)
one_open o (suc n) = grind (arith, one_open o n, cond-true {A = ℕ} (o == n) 1 0, cond-false {A = ℕ} (o == n) 1 0)

few_open : (o : Option ℕ) (n : ℕ) → sum_below (λ (s : ℕ). cond {A = ℕ} (is_open o s) 1 0) n ≤ 1
few_open None n = omega (arith, none n)
  where
    none : (n : ℕ) → sum_below (λ (s : ℕ). cond {A = ℕ} (is_open None s) 1 0) n ≡ 0
    none zero = refl
    none (suc n) = omega (arith, none n)
few_open (Some o) n = (one_open o n).1

-- so all but the clean ones and one may be cleaned
in_use : (t : UsageTable) → length t.segments ≤ sum_below (one t) (length t.segments) + clean_in t.segments + 1
unfolding clean_in
in_use t = omega (arith, others_clean t (length t.segments), few_open t.last (length t.segments))

one_most : (t : UsageTable) (s : ℕ) → one t s ≤ 1
one_most t s = grind arith

counted_used : (t : UsageTable) (s : ℕ) → s < length t.segments → 0 < one t s → MayBeVictim t s
counted_used t s low counts = grind arith

-- All segments that may be cleaned can't be so few.
pub not_all : (t : UsageTable) {meta most : ℕ} (xs : List ℕ) → ((s : ℕ) → MayBeVictim t s → IsIn xs s) → IsPressed t meta
    → most ≡ length t.segments / 8 + 1 → length xs < most → ⊥
not_all t xs all pressed is few =
    omega (
      arith,
      below_among (length t.segments) (one t) xs (λ y low counts. all y (counted_used t y low counts)),
      sum_less (one t) (λ s. 1) xs (one_most t),
      sum_ones xs,
      in_use t,
    )

-- ---- the greatest number of blocks of those that are chosen, and what the others lack to it
module _ (t : UsageTable) (top : ℕ) where
  abbrev lacks : ℕ → ℕ
  lacks s = cond (is_counted t s) (top - load_of t s) 0

  -- top for each that is counted is its blocks with what lacks
  each_times : (s : ℕ) → one t s * top ≤ load_of t s + lacks s
  each_times s = grind arith

  -- the others lack nothing
  lacks_less : (s : ℕ) → lacks s ≤ top - load_of t s
  lacks_less s = grind arith

  -- what lacks something may be cleaned, and has fewer blocks
  lacking : (s : ℕ) → s < length t.segments → 0 < lacks s → MayBeVictim t s × (load_of t s < top)
  lacking s low counts = grind arith

-- six times
times_six : (a top : ℕ) → 6 * a * top ≡ 6 * (a * top)
times_six a top = grind (arith, add-mul a a top, add-mul (a + a) (a + a) top, add-mul (a + a + (a + a)) (a + a) top)

-- the numbers, with p for a times top
no_room : (a top p meta blocks all : ℕ) → top ≤ 63 → blocks ≤ p + top → 6 * p + blocks ≤ all + (p + top) → all + 6 * meta + 672 ≤ 376 * a
    → 63 * a < blocks + meta + 48 → ⊥
no_room a top p meta blocks all low each sum room lacks = omega (arith, lacks)

-- An eighth of the segments and one more, those with the least blocks, gain.
pub gains_then : (t : UsageTable) (meta : ℕ) {xs : List ℕ} → FitsTable t → AreFirst t (ComesBefore t) xs → IsPressed t meta
    → length xs ≡ length t.segments / 8 + 1 → 63 * (length xs - 1) < sum_by (load_of t) xs + meta + 48 → ⊥
gains_then t meta {xs} fits first pressed long lacking_one =
    let greatest = greatest_in (load_of t) xs (omega arith) in
    let v = greatest.0 in
    let top = load_of t v in
    let a = length t.segments / 8 in
    let most = (fits.each v).used in
    let fewer = (fits.each v).fewer in
    let times = below_times top (one t) (load_of t) (lacks t top) (length t.segments) (λ s low. each_times t top s) in
    let among = below_among (length t.segments) (lacks t top) xs (λ y low counts.
    let l = lacking t top y low counts in
    least_in t first v greatest.1 y l.0 l.1) in
    let less = sum_less (lacks t top) (λ s. top - load_of t s) xs (lacks_less t top) in
    let filled = filled_up top (load_of t) xs greatest.2 in
    let u = in_use t in
    let used : 6 * a ≤ sum_below (one t) (length t.segments) = omega arith in
    let product = mul-le-mul_right top used in
    let six = times_six a top in
    let own = ap (λ n. n * top) long ∙ add-mul a 1 top in
    let o = one-mul top in
    let all = loads_below t in
    no_room a top (a * top) meta (sum_by (load_of t) xs) (loads t) (omega (arith, most)) (omega arith)
    (omega (arith, times, less)) (omega arith) (omega arith)

-- So a volume that is pressed has victims.
pub pressed_gains : {t : UsageTable} {meta most : ℕ} → Exhausts t meta most preference.Load → IsPressed t meta
    → most ≡ length t.segments / 8 + 1 → ⊥
pressed_gains {t} {meta} {most} is pressed limit =
    ⊎_elim
    (λ short. ⊎_elim
    (λ full. omega arith)
    (λ all. not_all t is.all all pressed limit short) is.ended)
    (λ long.
    let same : length is.all ≡ length t.segments / 8 + 1 = omega arith in
    ⊎_elim
    (λ lacking_one.
    gains_then t meta is.table is.first pressed same lacking_one)
    (λ gain.
    omega (arith, is.lacks (length is.all) (omega arith), ap (gain_of t meta) (take_all (length is.all) is.all (omega arith))))
    (cases_lt (63 * (length is.all - 1)) (sum_by (load_of t) is.all + meta + 48)))
    (cases_lt (length is.all) most)
