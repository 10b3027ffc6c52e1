-- The usage blocks, and the tables of what they say.
use Rattle.lfs_verify.proofs.Places.{put_own, put_before}
use Rattle.std.proofs.Common.{◌≡◌, ◌<◌, ◌≤◌, ◌↔◌, ◌⊎◌, ⊎_elim, ◌+◌, ◌-◌, ◌*◌, ◌/◌, ◌%◌, ℕ, zero, suc, true, false, List, length}
use Rattle.std.proofs.Common.{get_or, set, Some, None, refl, sym, ◌∙◌, ap, subst, arith, Bool}
use Rattle.std.specs.List.{AllByRecursion}
use Rattle.std.proofs.lemmas.Bool.{cases_lt}
use Rattle.std.proofs.lemmas.List.{length-set}
use Rattle.lfs_model.specs.Checkpoint.{CheckpointValue, unit_sectors}
use Rattle.lfs_model.specs.Content.{Content, block, bytes_of}
use Rattle.lfs_model.specs.Device.{Cell, DeviceState, IsSector, cell_at}
use Rattle.lfs_model.specs.Entry.{Usage, half, word}
use Rattle.lfs_model.specs.Reach.{address, view}
use Rattle.lfs_model.specs.Stands.{Usages, Reached, used_in, live_in}
use Rattle.lfs_model.specs.Usage.{SegmentUse, no_use, usage_in}
use Rattle.lfs_model.proofs.Cells.{sector_at}
use Rattle.lfs_model.proofs.Numbers.{IsBytes}
use Rattle.lfs_model.proofs.Reach.{address_linked}
use Rattle.lfs_model.proofs.UsageStage.{usages, usage_block_of}
use Rattle.lfs_model.proofs.Words.{IsUsageBlock, usage_block_found, usage_block_some, uses_are}
use Rattle.lfs_verify.specs.Take.{ReadsContent, Advances, TakesAddress, TakesBlock}
use Rattle.lfs_verify.specs.UsageTables.{CopiesUses, SaysUpTo}
use Rattle.lfs_verify.specs.Walk as walk
use Rattle.lfs_verify.specs.Walk.{Walked, IsBounded}
use Rattle.lfs_verify.proofs.Steps.{fresh_of, within}
use Rattle.lfs_verify.proofs.Takes.{step_goes, takes_none, takes_bad, takes_good, block_taken}

-- what a device holds are bytes
pub block_bytes : (c : Content) → AllByRecursion IsSector c → (at : ℕ) → IsBytes (block c at)
block_bytes c all zero = λ i. omega arith
block_bytes c all (suc at) = go (cell_at c (suc at)) (sector_at c (suc at) all)
  where
    go : (x : Cell) → IsSector x → IsBytes (bytes_of x)
    go None is = λ i. omega arith
    go (Some bytes) is = is.each

pub taken_bytes : (d : DeviceState) {d' : DeviceState} (c : Content) (m m1 : List ℕ) (at step : ℕ) (out : List ℕ) {taken : Bool}
    → AllByRecursion IsSector d.content → ReadsContent d d' c → TakesBlock c m m1 at step out taken → taken ≡ true → IsBytes out
taken_bytes d c m m1 at step out all reads t on =
    subst IsBytes (ap (λ (x : Content). block x at) reads.content ∙ (block_taken c m m1 at step out t on).1) (block_bytes d.content all at)

pub uses_none : {uses : List SegmentUse} {used live : List ℕ} {at : ℕ} → CopiesUses uses used live used live at 0
uses_none = record {
  used_own = λ i lt inside. absurd (omega (arith, lt));
  live_own = λ i lt inside. absurd (omega (arith, lt));
  used_before = λ s lt. refl;
  live_before = λ s lt. refl;
  used_size = refl;
  live_size = refl;
}

module _ {uses : List SegmentUse} {used live used_then live_then : List ℕ} {at n : ℕ}
    (was : CopiesUses uses used live used_then live_then at n) where
  pub uses_more : (x y : ℕ) → at + n < length used_then → at + n < length live_then → x ≡ (get_or uses n no_use).used
      → y ≡ (get_or uses n no_use).live
      → CopiesUses uses used live (set used_then (at + n) x) (set live_then (at + n) y) at (n + 1)
  uses_more x y inside inside_live is is_live = record {
    used_own = λ i lt within. put_own used_then at n x (λ a. (get_or uses a no_use).used) inside is i lt (λ low. was.used_own i low within);
    live_own = λ i lt within. put_own live_then at n y (λ a. (get_or uses a no_use).live) inside_live is_live i lt
        (λ low. was.live_own i low within);
    used_before = λ s lt. put_before used_then at n x s lt ∙ was.used_before s lt;
    live_before = λ s lt. put_before live_then at n y s lt ∙ was.live_before s lt;
    used_size = length-set used_then (at + n) x ∙ was.used_size;
    live_size = length-set live_then (at + n) y ∙ was.live_size;
  }

  pub uses_past : length used_then ≤ at + n → CopiesUses uses used live used_then live_then at (n + 1)
  uses_past le =
      let low : (i : ℕ) → i < n + 1 → at + i < length used → i < n = λ i lt within. omega (arith, lt, within, le, was.used_size) in
      record {
        used_own = λ i lt within. was.used_own i (low i lt within) within;
        live_own = λ i lt within. was.live_own i (low i lt within) within;
        used_before = was.used_before;
        live_before = was.live_before;
        used_size = was.used_size;
        live_size = was.live_size;
      }

-- the same for tables that are equal
pub uses_same : {uses : List SegmentUse} {used live a : List ℕ} (b a' : List ℕ) {b' : List ℕ} {at : ℕ} (n : ℕ) → a ≡ a' → b ≡ b'
    → CopiesUses uses used live a' b' at n
    → CopiesUses uses used live a b at n
uses_same {uses} {used} {live} b a' {at} n p q is =
    subst (λ (x : List ℕ). CopiesUses uses used live x b at n) (sym p)
    (subst (λ (x : List ℕ). CopiesUses uses used live a' x at n) (sym q) is)

-- a readable block, and what it says of the segments
abbrev Says : ℕ → List ℕ → Type 0
Says count bytes = (length bytes ≡ 512) × IsUsageBlock count bytes

-- the block of a segment, and its place there
pub at_block : (j : ℕ) (P : ℕ → ℕ → Type 0) (i : ℕ) → i < 64 → P j i → P ((64 * j + i) / 64) ((64 * j + i) % 64)
at_block j P i lt p =
    let a : j ≡ (64 * j + i) / 64 = omega arith in
    let b : i ≡ (64 * j + i) % 64 = omega arith in
    subst (λ (x : ℕ). P x ((64 * j + i) % 64)) a (subst (P j) b p)

of_block : (j : ℕ) (P : ℕ → ℕ → Type 0) (i : ℕ) → i < 64 → P ((64 * j + i) / 64) ((64 * j + i) % 64) → P j i
of_block j P i lt = at_block j (λ a b. P a b → P j i) i lt (λ p. p)

module _ (c : Content) (k : CheckpointValue) (j : ℕ) where
  abbrev used_of : ℕ → ℕ → ℕ
  used_of a b = half (block c (address c k (Usage a))) (4 * b)

  abbrev live_of : ℕ → ℕ → ℕ
  live_of a b = half (block c (address c k (Usage a))) (4 * b + 1)

  abbrev age_of : ℕ → ℕ → ℕ
  age_of a b = word (block c (address c k (Usage a))) (2 * b + 1)

  -- what a block says at this place of a segment
  abbrev IsUse : ℕ → ℕ → ℕ → Type 0
  IsUse s a b = (used_of a b ≤ 64) × ((used_of a b ≡ 0) ⊎ ((0 < live_of a b) × (live_of a b < used_of a b)))
      × (used_of a b ≡ 0 → live_of a b ≡ 0) × (k.segments ≤ s → (used_of a b ≡ 0) × (age_of a b ≡ 0))

  pub block_good : Says (k.segments - 64 * j) (block c (address c k (Usage j))) → walk.IsUsageBlock (view c k) j
  block_good says = record {
    readable = says.0;
    each = λ i lt.
        let u = at_block j (IsUse (64 * j + i)) i lt
        (says.1.fit i lt, says.1.less i lt, says.1.both i lt, λ le. says.1.past i (omega (arith, le)) lt) in
        record { fit = u.0; less = u.1; both = u.2; past = u.3 };
  }

  pub good_block : walk.IsUsageBlock (view c k) j → Says (k.segments - 64 * j) (block c (address c k (Usage j)))
  good_block good =
      let use_at = λ (i : ℕ) (lt : i < 64). of_block j (IsUse (64 * j + i)) i lt
      (let u = good.each i lt in (u.fit, u.less, u.both, u.past)) in (
        good.readable,
        record {
          fit = λ i lt. (use_at i lt).0;
          less = λ i lt. (use_at i lt).1;
          both = λ i lt. (use_at i lt).2;
          past = λ i le lt. (use_at i lt).3 (omega (arith, le));
        },
      )

module _ (c : Content) (k : CheckpointValue) (j : ℕ) (low : j < 16) {n : ℕ} (count : n ≡ k.segments) {p : ℕ}
    (val : p ≡ get_or k.usage j 0) where
  usage_at : p ≡ address c k (Usage j)
  usage_at = val ∙ sym (address_linked c k (Usage j))

  -- past the last segment
  pub says_passed : n ≤ 64 * j → (used live : List ℕ) → SaysUpTo (view c k) used live j → SaysUpTo (view c k) used live (j + 1)
  says_passed past used live was s lt within = was s (omega (arith, within, past, count)) within

  pub usage_extra : n ≤ 64 * j → (p ≡ 0 → ⊥) → Usages (view c k) → ⊥
  usage_extra past some stage =
      let reached : Reached (view c k) (Usage j) = omega (arith, usage_at) in
      let lt : j < (k.segments + 63) / 64 = (stage.addresses j).0 reached in
      omega arith

  pub usage_missing : 64 * j < n → p ≡ 0 → Usages (view c k) → ⊥
  usage_missing inside none stage =
      let lt : j < (k.segments + 63) / 64 = omega arith in
      let reached : Reached (view c k) (Usage j) = (stage.addresses j).1 lt in
      omega (arith, usage_at)

  good_of : Usages (view c k) → Reached (view c k) (Usage j) → walk.IsUsageBlock (view c k) j
  good_of stage reached = block_good c k j (stage.readable j reached, usage_block_of (view c k) stage j)

  pub usage_goes : (m m1 : List ℕ) (x : Bool) → TakesAddress (Says (n - 64 * j)) c m m1 p j x
      → Advances (view c k) m m1 j (j + 1) (Usages (view c k)) x
  usage_goes m m1 =
      let says_at = λ (x : ℕ). Says (x - 64 * j) (block c (address c k (Usage j))) in
      step_goes (view c k) m m1 (Usage j) refl (omega arith) low usage_at c (Says (n - 64 * j))
      (λ says. block_good c k j (subst says_at count says), λ good. subst says_at (sym count) (good_block c k j good))
      (Usages (view c k)) (λ stage. stage.fresh) good_of

  module _ (some : p ≡ 0 → ⊥) (m m1 out : List ℕ) {taken : Bool} (t : TakesBlock c m m1 p j out taken) where
    pub usage_missed : taken ≡ false → Advances (view c k) m m1 j (j + 1) (Usages (view c k)) false
    usage_missed off = usage_goes m m1 false (takes_none c m m1 p j out t (Says (n - 64 * j)) off (omega (arith, some))
        (λ none says. absurd (cc (sym (ap length none) ∙ says.0))))

    module _ (on : taken ≡ true) (long : length out ≡ 512) (bytes : IsBytes out) where
      pub usage_undecoded : None ≡ usage_in (n - 64 * j) out → Advances (view c k) m m1 j (j + 1) (Usages (view c k)) false
      usage_undecoded none = usage_goes m m1 false (takes_bad c m m1 p j out t (Says (n - 64 * j)) on (omega (arith, some))
          (λ says. absurd (cc (none ∙ usage_block_some out bytes long says.1))))

      module _ (us : List SegmentUse) (spelt : Some us ≡ usage_in (n - 64 * j) out) where
        pub usage_taken : Advances (view c k) m m1 j (j + 1) (Usages (view c k)) true
        usage_taken = usage_goes m m1 true (takes_good c m m1 p j out t (Says (n - 64 * j)) on
            (long, usage_block_found out (n - 64 * j) us bytes long (sym spelt)))

        here : block c (address c k (Usage j)) ≡ out
        here = sym (ap (block c) usage_at) ∙ (block_taken c m m1 p j out t on).1

        pub says_taken : {used live used_then live_then : List ℕ} → length used ≡ k.segments
            → CopiesUses us used live used_then live_then (64 * j) 64
            → SaysUpTo (view c k) used live j → SaysUpTo (view c k) used_then live_then (j + 1)
        says_taken {used} {used_then} {live_then} size copies was s lt within = ⊎_elim
            (λ (before : s < 64 * j).
            let w = was s before within in (copies.used_before s before ∙ w.0, copies.live_before s before ∙ w.1))
            (λ (past : 64 * j ≤ s).
            let i = s - 64 * j in
            let e : 64 * j + i ≡ s = omega (arith, past) in
            let few : i < 64 = omega (arith, lt, past) in
            let inside : 64 * j + i < length used = omega (arith, e, within, size) in
            let words = uses_are out (n - 64 * j) us bytes long (sym spelt) i few in
            subst (λ (x : ℕ). (get_or used_then x 0 ≡ used_in (view c k) x) × (get_or live_then x 0 ≡ live_in (view c k) x)) e (
              at_block j (λ a b. get_or used_then (64 * j + i) 0 ≡ used_of c k j a b) i few
                  (copies.used_own i few inside ∙ sym words.used ∙ ap (λ (b : List ℕ). half b (4 * i)) (sym here)),
              at_block j (λ a b. get_or live_then (64 * j + i) 0 ≡ live_of c k j a b) i few
                  (copies.live_own i few inside ∙ sym words.live ∙ ap (λ (b : List ℕ). half b (4 * i + 1)) (sym here)),
            ))
            (cases_lt s (64 * j))

pub is_extra : (j n p : ℕ) (k : CheckpointValue) → n ≡ k.segments → p ≡ get_or k.usage j 0 → n ≤ 64 * j → p ≡ 0
    → (0 < get_or k.usage j 0) ↔ (j < (k.segments + 63) / 64)
is_extra j n p k count val past none = (λ some. absurd (omega (arith, some, val, none)), λ lt. absurd (omega (arith, lt, past, count)))

pub is_needed : (j n p : ℕ) (k : CheckpointValue) → n ≡ k.segments → p ≡ get_or k.usage j 0 → 64 * j < n → (p ≡ 0 → ⊥)
    → (0 < get_or k.usage j 0) ↔ (j < (k.segments + 63) / 64)
is_needed j n p k count val inside some = (λ x. omega arith, λ x. omega arith)

-- all usage blocks
pub usages_of : (c : Content) (k : CheckpointValue) → k.segments ≤ 1024
    → ((j : ℕ) → j < 16 → (0 < get_or k.usage j 0) ↔ (j < (k.segments + 63) / 64))
    → ((s : ℕ) → s < k.segments → used_in (view c k) s % unit_sectors k ≡ 0)
    → {marks : List ℕ} → Walked (view c k) marks 16 → IsBounded (view c k) → Usages (view c k)
usages_of c k few is_there whole {marks} w bounded = usages c k reached all (fresh_of w bounded 1 (λ e b. (within e b).0))
    (λ j some. (w.good (Usage j) (bounded (Usage j) some) (bounded (Usage j) some) some).readable)
    (λ j lt. let some = all j lt in (good_block c k j (w.good (Usage j) (bounded (Usage j) some) (bounded (Usage j) some) some)).1) whole
  where
    at : (j : ℕ) → address c k (Usage j) ≡ get_or k.usage j 0
    at j = address_linked c k (Usage j)

    reached : (j : ℕ) → Reached (view c k) (Usage j) → j < (k.segments + 63) / 64
    reached j some = (is_there j (bounded (Usage j) some)).0 (subst (λ (a : ℕ). 0 < a) (at j) some)

    all : (j : ℕ) → j < (k.segments + 63) / 64 → Reached (view c k) (Usage j)
    all j lt = subst (λ (a : ℕ). 0 < a) (sym (at j)) ((is_there j (omega (arith, few, lt))).1 lt)
