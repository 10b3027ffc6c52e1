-- The calls on a usage table, from what they write.
use Rattle.std.proofs.Common.{Some, ◌≡◌, ◌≢◌, ◌<◌, ◌≤◌, ⊎_elim, ◌+◌, ◌-◌, ◌/◌, ◌==◌, cond, not, ℕ, suc, Bool, true, false, List}
use Rattle.std.proofs.Common.{length, get_or, refl, sym, ◌∙◌, ap, subst, arith, length-set, get_or-set_other, get_or-set_same}
use Rattle.std.specs.Prelude.{slice_set}
use Rattle.std.proofs.lemmas.Bool.{cases_eq, ne_eqb}
use Rattle.lfs_model.specs.Running.{IsSet, CountsUp, CountsDown}
use Rattle.lfs_segments.specs.Table.{SegmentNumbers, UsageTable, FitsTable, no_segment, no_place, used_of}
use Rattle.lfs_segments.specs.Table.{live_of, held_of, age_of, kept_of, clean_in}
use Rattle.lfs_segments.specs.Steps.{Stales, Notes, Pads, Lifts, TakesAway, HidesBlocks, TakesSegment, GoesOn, released}
use Rattle.lfs_segments.specs.Steps.{is_empty, changed}
use Rattle.lfs_segments.proofs.Numbers.{set_own, set_other, one_taken, still_clean, clean_change, one_at_most}

-- one element of a list becomes x
module _ {A X : Type 0} (f : A → X) (xs : List A) (j : ℕ) (x d : A) (lt : j < length xs) where
  -- what is read of it
  is_set : IsSet (λ i. f (get_or xs i d)) (λ i. f (get_or (slice_set xs j x) i d)) j (f x)
  is_set = record { own = ap f (get_or-set_same xs j x d lt); others = λ i ne. ap f (get_or-set_other xs j i x d ne) }

  -- and of each, where x has the same
  is_same : f x ≡ f (get_or xs j d) → (i : ℕ) → f (get_or (slice_set xs j x) i d) ≡ f (get_or xs i d)
  is_same same i = ⊎_elim (λ here. rw here (is_set.own ∙ same)) (is_set.others i) (cases_eq i j)

set_to : {X : Type 0} {old new : ℕ → X} {i : ℕ} {x y : X} → x ≡ y → IsSet old new i x → IsSet old new i y
set_to same is = record { own = is.own ∙ same; others = is.others }

-- The numbers of segment s become x, and its usage block differs.
module _ {old : UsageTable} {s : ℕ} (x : SegmentNumbers) (fits : FitsTable old) (lt : s < length old.segments) where
  sets : {X : Type 0} (f : SegmentNumbers → X)
      → IsSet (λ i. f (get_or old.segments i no_segment)) (λ i. f (get_or (slice_set old.segments s x) i no_segment)) s (f x)
  sets f = is_set f old.segments s x no_segment lt

  stays : {X : Type 0} (f : SegmentNumbers → X) → f x ≡ f (get_or old.segments s no_segment) → (i : ℕ)
      → f (get_or (slice_set old.segments s x) i no_segment) ≡ f (get_or old.segments i no_segment)
  stays f = is_same f old.segments s x no_segment lt

  counts_up : (f : SegmentNumbers → ℕ) (b : Bool) → f x ≡ cond b 1 0 + f (get_or old.segments s no_segment)
      → CountsUp b (λ i. f (get_or old.segments i no_segment)) (λ i. f (get_or (slice_set old.segments s x) i no_segment)) s
  counts_up f true is = set_to (omega arith) (sets f)
  counts_up f false is = stays f (omega arith)

  counts_down : (f : SegmentNumbers → ℕ) (b : Bool) → cond b 1 0 + f x ≡ f (get_or old.segments s no_segment)
      → CountsDown b (λ i. f (get_or old.segments i no_segment)) (λ i. f (get_or (slice_set old.segments s x) i no_segment)) s
  counts_down f true is = let e = sets f in let own = e.own in record { own = omega arith; others = λ i ne. sym (e.others i ne) }
  counts_down f false is = stays f (omega arith)

  differs : Stales old (changed old s x) (s / 64)
  differs =
      let low : s / 64 < length old.blocks = omega arith in
      record {
        stale = is_set (λ b. b.stale) old.blocks (s / 64) _ no_place low;
        address = is_same (λ b. b.address) old.blocks (s / 64) _ no_place low refl;
      }

  size : length (slice_set old.segments s x) ≡ length old.segments
  size = length-set old.segments s x

  as_clean : x.used ≡ used_of old s → clean_in (slice_set old.segments s x) ≡ clean_in old.segments
  as_clean used = still_clean old.segments s x lt (ap (λ u. u == 0) (sym used))

  in_use : used_of old s ≢ 0 → x.used ≡ suc (used_of old s) → clean_in (slice_set old.segments s x) ≡ clean_in old.segments
  in_use some used = still_clean old.segments s x lt (ne_eqb _ 0 some ∙ sym (ne_eqb x.used 0 (λ z. omega arith)))

  pub notes_of : {new : UsageTable} {lives : Bool} → 0 < used_of old s → x.used ≡ suc (used_of old s)
      → x.live ≡ cond lives 1 0 + live_of old s → x.held ≡ cond (not lives) 1 0 + held_of old s
      → x.age ≡ age_of old s → x.kept ≡ kept_of old s → new ≡ changed old s x → Notes old new s lives
  notes_of {lives} some used live held age kept is = subst (λ t. Notes old t s lives) (sym is) (record {
    used = set_to used (sets (λ n. n.used));
    live = counts_up (λ n. n.live) lives live;
    held = counts_up (λ n. n.held) (not lives) held;
    age = stays (λ n. n.age) age;
    kept = stays (λ n. n.kept) kept;
    blocks = differs;
    last = refl;
    unit = refl;
    size = size;
    clean = in_use (λ z. omega arith) used;
  })

  pub pads_of : {new : UsageTable} → 0 < used_of old s → x.used ≡ suc (used_of old s) → x.live ≡ live_of old s
      → x.held ≡ held_of old s → x.age ≡ age_of old s → x.kept ≡ kept_of old s → new ≡ changed old s x → Pads old new s
  pads_of some used live held age kept is = subst (λ t. Pads old t s) (sym is) (record {
    used = set_to used (sets (λ n. n.used));
    live = stays (λ n. n.live) live;
    held = stays (λ n. n.held) held;
    age = stays (λ n. n.age) age;
    kept = stays (λ n. n.kept) kept;
    blocks = differs;
    last = refl;
    unit = refl;
    size = size;
    clean = in_use (λ z. omega arith) used;
  })

  pub goes_on_of : {new : UsageTable} {age : ℕ} → 0 < live_of old s + held_of old s → used_of old s ≤ 62
      → x.used ≡ suc (used_of old s) → x.live ≡ live_of old s → x.held ≡ held_of old s → x.age ≡ age → x.kept ≡ kept_of old s
      → new ≡ changed old s x → GoesOn old new s age
  goes_on_of {age} some room used live held aged kept is =
      let begun : 0 < used_of old s = omega (arith, (fits.each s).fewer) in
      subst (λ t. GoesOn old t s age) (sym is) (record {
        inside = lt;
        some = some;
        begun = begun;
        room = room;
        used = set_to used (sets (λ n. n.used));
        live = stays (λ n. n.live) live;
        held = stays (λ n. n.held) held;
        age = set_to aged (sets (λ n. n.age));
        kept = stays (λ n. n.kept) kept;
        blocks = differs;
        last = refl;
        unit = refl;
        size = size;
        clean = in_use (λ z. omega arith) used;
      })

  module _ {new : UsageTable} (used : x.used ≡ used_of old s) (age : x.age ≡ age_of old s) (kept : x.kept ≡ kept_of old s)
      (is : new ≡ changed old s x) where
    pub lifts_of : {lives : Bool} → cond lives 1 0 + x.live ≡ live_of old s → cond (not lives) 1 0 + x.held ≡ held_of old s
        → Lifts old new s lives
    lifts_of {lives} live held = subst (λ t. Lifts old t s lives) (sym is) (record {
      used = stays (λ n. n.used) used;
      live = counts_down (λ n. n.live) lives live;
      held = counts_down (λ n. n.held) (not lives) held;
      age = stays (λ n. n.age) age;
      kept = stays (λ n. n.kept) kept;
      blocks = differs;
      last = refl;
      unit = refl;
      size = size;
      clean = as_clean used;
    })

    pub takes_away_of : {count : ℕ} {lives : Bool} → x.live ≡ live_of old s - cond lives count 0
        → x.held ≡ held_of old s - cond (not lives) count 0 → TakesAway old new s count lives
    takes_away_of {count} {lives} live held = subst (λ t. TakesAway old t s count lives) (sym is) (record {
      used = stays (λ n. n.used) used;
      live = set_to live (sets (λ n. n.live));
      held = set_to held (sets (λ n. n.held));
      age = stays (λ n. n.age) age;
      kept = stays (λ n. n.kept) kept;
      blocks = differs;
      last = refl;
      unit = refl;
      size = size;
      clean = as_clean used;
    })

    pub hides_of : {count : ℕ} → x.live + count ≡ live_of old s → x.held ≡ held_of old s + count → HidesBlocks old new s count
    hides_of {count} live held = subst (λ t. HidesBlocks old t s count) (sym is) (record {
      used = stays (λ n. n.used) used;
      live = set_to (omega arith) (sets (λ n. n.live));
      held = set_to held (sets (λ n. n.held));
      age = stays (λ n. n.age) age;
      kept = stays (λ n. n.kept) kept;
      blocks = differs;
      last = refl;
      unit = refl;
      size = size;
      clean = as_clean used;
    })

-- a clean segment is taken: nothing lives in it, and nothing holds it
pub takes_of : {old new : UsageTable} {s age : ℕ} → FitsTable old → s < length old.segments → used_of old s ≡ 0
    → new ≡ record old {
      segments = slice_set old.segments s (record { used = 1; live = 0; held = 0; age = age; kept = 0 });
      last = Some s;
    } → TakesSegment old new s age
takes_of {old} {s} {age} fits lt clean is =
    let x : SegmentNumbers = record { used = 1; live = 0; held = 0; age = age; kept = 0 } in
    let own = fits.each s in
    subst (λ t. TakesSegment old t s age) (sym is) (record {
      inside = lt;
      clean = clean;
      free = ap (λ n. n.kept) (set_own old.segments s x lt);
      used = sets x fits lt (λ n. n.used);
      live = stays x fits lt (λ n. n.live) (omega arith);
      held = stays x fits lt (λ n. n.held) (omega arith);
      age = sets x fits lt (λ n. n.age);
      kept = stays x fits lt (λ n. n.kept) (omega arith);
      blocks = λ i. (refl, refl);
      size = length-set old.segments s x;
      last = refl;
      unit = refl;
      count = one_taken old.segments s x lt clean (λ h. omega arith);
    })

-- ---- releasing, one segment after the other
pub record ReleasedTo (old now : UsageTable) (k : ℕ) : Type 0 where
  pub size : length now.segments ≡ length old.segments
  pub blocks : now.blocks ≡ old.blocks
  pub last : now.last ≡ old.last
  pub unit : now.unit ≡ old.unit
  pub before : (s : ℕ) → s < k → get_or now.segments s no_segment ≡ released (get_or old.segments s no_segment)
  pub after : (s : ℕ) → k ≤ s → get_or now.segments s no_segment ≡ get_or old.segments s no_segment
  pub clean : clean_in old.segments ≤ clean_in now.segments

-- no segment that was clean is in use once the numbers of one are released
pub never_fewer : (segments : List SegmentNumbers) (s : ℕ) {x : SegmentNumbers} → s < length segments
    → x ≡ released (get_or segments s no_segment) → clean_in segments ≤ clean_in (slice_set segments s x)
never_fewer segments s {x} lt same =
    let n = get_or segments s no_segment in
    omega (arith, clean_change segments s x lt, by_empty (is_empty n) n.used, ap (λ n. cond {A = ℕ} (n.used == 0) 1 0) same)
  where
    by_empty : (b : Bool) (u : ℕ) → cond {A = ℕ} (u == 0) 1 0 ≤ cond {A = ℕ} (cond b 0 u == 0) 1 0
    by_empty true u = one_at_most (u == 0)
    by_empty false u = omega arith

pub release_goes_on : {old now new : UsageTable} {k : ℕ} {x : SegmentNumbers} → ReleasedTo old now k → k < length now.segments
    → x ≡ released (get_or now.segments k no_segment) → new ≡ record now { segments = slice_set now.segments k x }
    → ReleasedTo old new (k + 1)
release_goes_on {old} {now} {k} {x} so lt same is = subst (λ t. ReleasedTo old t (k + 1)) (sym is) (record {
  size = length-set now.segments k x ∙ so.size;
  blocks = so.blocks;
  last = so.last;
  unit = so.unit;
  before = λ s low. ⊎_elim
      (λ here. rw here (set_own now.segments k x lt ∙ same ∙ ap released (so.after k (omega arith))))
      (λ away. set_other now.segments x away ∙ so.before s (omega arith))
      (cases_eq s k);
  after = λ s high. set_other now.segments x (λ h. omega arith) ∙ so.after s (omega arith);
  clean = omega (arith, never_fewer now.segments k lt same, so.clean);
})
