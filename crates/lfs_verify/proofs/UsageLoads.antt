-- What a mount takes in of the usage table.
use Rattle.lfs_verify.proofs.UsageSteps.{block_bytes, at_block}
use Rattle.std.proofs.Common.{◌≡◌, ◌<◌, ◌≤◌, ⊎_elim, ◌+◌, ◌*◌, ◌-◌, ◌/◌, ℕ, Bool, false, List, length, get_or}
use Rattle.std.proofs.Common.{Some, None, refl, sym, ◌∙◌, ap, ap₂, subst, arith, length-set, get_or-set_other, get_or-set_same, below_more}
use Rattle.std.specs.Prelude.{slice_set}
use Rattle.std.proofs.lemmas.Bool.{cases_eq, cases_lt}
use Rattle.lfs_model.specs.Checkpoint.{CheckpointValue}
use Rattle.std.specs.List.{AllByRecursion}
use Rattle.lfs_model.specs.Content.{Content, block, bytes_of}
use Rattle.lfs_model.specs.Device.{DeviceState, IsSector, cell_at}
use Rattle.lfs_model.specs.Entry.{Usage, half, word}
use Rattle.lfs_model.specs.Reach.{address, view}
use Rattle.lfs_model.specs.Stands.{LogMap, HoldsAt}
use Rattle.lfs_model.specs.Usage.{SegmentUse, no_use, usage_in, usage_of}
use Rattle.lfs_model.proofs.Cells.{sector_at}
use Rattle.lfs_model.proofs.Numbers.{IsBytes}
use Rattle.lfs_model.proofs.Tables.{block_at}
use Rattle.lfs_model.proofs.UsageStage.{usage_block_of}
use Rattle.lfs_model.proofs.Words.{IsUsageBlock, uses_are, usage_block_some}
use Rattle.lfs_segments.specs.Table.{SegmentNumbers, UsageTable, PlaceInSegment, no_segment, no_place, address_of, stale_of}
use Rattle.lfs_segments.specs.Early.{AreUntaken}
use Rattle.lfs_segments.specs.Steps.{PutsPlace}
use Rattle.std.proofs.lemmas.List.{get_or_past}
use Rattle.lfs_verify.specs.Take.{Looks}
use Rattle.lfs_verify.specs.declared.fault.MountFault.{MountFault}
use Rattle.lfs_verify.specs.Faults.{IsTableFault, LacksBlock, LacksTables, IsBlockFault}
use Rattle.lfs_verify.proofs.FaultCases.{fault_on}
use Rattle.lfs_verify.specs.Loading.{IsTakenIn, loaded, numbers_in, HasNoDeadAge, IsUsageUpTo, SaysUsage}

-- a sector that is lent as the device holds it
module _ (c : Content) (at : ℕ) {bytes : List ℕ} (there : cell_at c at ≡ Some bytes) where
  pub lent_block : 2 ≤ at → block c at ≡ bytes
  lent_block above = block_at c at (omega (arith, above)) ∙ ap bytes_of there

  pub lent_long : AllByRecursion IsSector c → length bytes ≡ 512
  lent_long all = (subst IsSector there (sector_at c at all)).size

pub taken_none : {t : UsageTable} {uses : List SegmentUse} {j : ℕ} → IsTakenIn t t uses j 0
taken_none = record {
  own = λ i lt inside. absurd (omega (arith, lt));
  before = λ s lt. refl;
  after = λ s le. refl;
  size = refl;
  blocks = refl;
  last = refl;
  unit = refl;
}

pub taken_more : {old mid new : UsageTable} {uses : List SegmentUse} {j n : ℕ} → IsTakenIn old mid uses j n
    → (64 * j + n < length mid.segments → new.segments ≡ slice_set mid.segments (64 * j + n) (loaded (get_or uses n no_use)))
    → (length mid.segments ≤ 64 * j + n → new.segments ≡ mid.segments) → new.blocks ≡ mid.blocks → new.last ≡ mid.last
    → new.unit ≡ mid.unit → IsTakenIn old new uses j (n + 1)
taken_more {old} {mid} {new} {uses} {j} {n} before own past blocks last unit = record {
  own = λ i low within. ⊎_elim
      (λ (here : i ≡ n). let size = before.size in let lt : 64 * j + n < length mid.segments = omega (arith, within, here, size) in
      ap₂ (λ (l : List SegmentNumbers) (a : ℕ). get_or l (64 * j + a) no_segment) (own lt) here
      ∙ get_or-set_same mid.segments (64 * j + n) x no_segment lt ∙ sym (ap (λ (a : ℕ). loaded (get_or uses a no_use)) here))
      (λ (ne : i ≡ n → ⊥). other (64 * j + i) (λ h. ne (omega (arith, h))) ∙ before.own i (omega (arith, low, ne)) within)
      (cases_eq i n);
  before = λ s low. other s (λ h. omega (arith, h, low)) ∙ before.before s low;
  after = λ s high. other s (λ h. omega (arith, h, high)) ∙ before.after s (omega (arith, high));
  size = ⊎_elim (λ (lt : 64 * j + n < length mid.segments). ap length (own lt) ∙ length-set mid.segments (64 * j + n) x)
      (λ (le : length mid.segments ≤ 64 * j + n). ap length (past le)) (cases_lt (64 * j + n) (length mid.segments)) ∙ before.size;
  blocks = blocks ∙ before.blocks;
  last = last ∙ before.last;
  unit = unit ∙ before.unit;
}
  where
    x : SegmentNumbers
    x = loaded (get_or uses n no_use)

    other : (s : ℕ) → (s ≡ 64 * j + n → ⊥) → get_or new.segments s no_segment ≡ get_or mid.segments s no_segment
    other s ne = ⊎_elim
        (λ (lt : 64 * j + n < length mid.segments). ap (λ (l : List SegmentNumbers). get_or l s no_segment) (own lt)
        ∙ get_or-set_other mid.segments (64 * j + n) s x no_segment ne)
        (λ (le : length mid.segments ≤ 64 * j + n). ap (λ (l : List SegmentNumbers). get_or l s no_segment) (past le))
        (cases_lt (64 * j + n) (length mid.segments))

abbrev on_device : ℕ → ℕ → ℕ → SegmentNumbers
on_device used live age = record { used = used; live = live; held = 0; age = age; kept = used }

-- a usage block is taken in, and stands at this address
module _ {old mid new : UsageTable} {uses : List SegmentUse} {j segments : ℕ} (at : ℕ) {stale : Bool} (is : IsUsageUpTo j segments old)
    (taken : IsTakenIn old mid uses j 64) (puts : PutsPlace mid new j at stale) where
  same_numbers : (s : ℕ) → get_or new.segments s no_segment ≡ get_or mid.segments s no_segment
  same_numbers s = ap (λ (l : List SegmentNumbers). get_or l s no_segment) puts.segments

  same_address : (i : ℕ) → (i ≡ j → ⊥) → address_of new i ≡ address_of old i
  same_address i ne = puts.address.others i ne ∙ ap (λ (l : List PlaceInSegment). (get_or l i no_place).address) taken.blocks

  same_stale : (i : ℕ) → (i ≡ j → ⊥) → stale_of new i ≡ stale_of old i
  same_stale i ne = puts.stale.others i ne ∙ ap (λ (l : List PlaceInSegment). (get_or l i no_place).stale) taken.blocks

  new_size : length new.segments ≡ length old.segments
  new_size = ap length puts.segments ∙ taken.size

  -- a segment of which all is kept
  abbrev IsWhole : SegmentNumbers → Type 0
  IsWhole n = n.kept ≡ n.used

  whole_entry : (i : ℕ) → i < 64 → IsWhole (get_or mid.segments (64 * j + i) no_segment)
  whole_entry i low = ⊎_elim
      (λ (within : 64 * j + i < length old.segments). subst IsWhole (sym (taken.own i low within)) refl)
      (λ (past : length old.segments ≤ 64 * j + i).
      subst IsWhole (sym (get_or_past mid.segments (64 * j + i) no_segment (omega (arith, taken.size, past)))) refl)
      (cases_lt (64 * j + i) (length old.segments))

  whole_mid : (s : ℕ) → IsWhole (get_or mid.segments s no_segment)
  whole_mid s = ⊎_elim
      (λ (low : s < 64 * j). subst IsWhole (sym (taken.before s low)) (is.untaken s))
      (λ (high : 64 * j ≤ s). ⊎_elim
      (λ (own : s < 64 * j + 64). let here : 64 * j + (s - 64 * j) ≡ s = omega (arith, high) in
      subst (λ (l : ℕ). IsWhole (get_or mid.segments l no_segment)) here (whole_entry (s - 64 * j) (omega (arith, high, own))))
      (λ (after : 64 * j + 64 ≤ s). subst IsWhole (sym (taken.after s after)) (is.untaken s))
      (cases_lt s (64 * j + 64)))
      (cases_lt s (64 * j))

  more_untaken : AreUntaken new
  more_untaken s = subst IsWhole (sym (same_numbers s)) (whole_mid s)

  pub usage_more : 2 ≤ at → IsUsageUpTo (j + 1) segments new
  usage_more above = record {
    size = new_size ∙ is.size;
    own = below_more _ _ (λ i lt. subst (λ (a : ℕ). 2 ≤ a) (sym (same_address i (λ h. omega (arith, h, lt)))) (is.own i lt))
        (subst (λ (a : ℕ). 2 ≤ a) (sym puts.address.own) above);
    none = λ i le. (let ne : i ≡ j → ⊥ = λ h. omega (arith, h, le) in same_address i ne ∙ is.none i (omega (arith, le)));
    past = λ s le. same_numbers s ∙ taken.after s (omega (arith, le)) ∙ is.past s (omega (arith, le));
    last = puts.last ∙ taken.last ∙ is.last;
    untaken = more_untaken;
  }

  module _ {c : Content} {k : CheckpointValue} (says : SaysUsage c k j old) (bytes : List ℕ) (count : ℕ) (there : block c at ≡ bytes)
      (points : get_or k.usage j 0 ≡ at)
      (all : AllByRecursion IsSector c) (long : length bytes ≡ 512) (spelt : usage_in count bytes ≡ Some uses)
      (fresh : stale ≡ false → (i : ℕ) → i < 64 → (get_or uses i no_use).live ≡ 0 → (get_or uses i no_use).age ≡ 0) where
    are_bytes : IsBytes bytes
    are_bytes = subst IsBytes there (block_bytes c all at)

    block_is : (view c k).block (Usage j) ≡ bytes
    unfolding address
    block_is = ap (block c) points ∙ there

    numbers_are : (i : ℕ) → i < 64 → loaded (get_or uses i no_use) ≡ numbers_in c k (64 * j + i)
    numbers_are i lt =
        let w = uses_are bytes count uses are_bytes long spelt i lt in
        at_block j (λ a b. loaded (get_or uses i no_use) ≡ on_device (half ((view c k).block (Usage a)) (4 * b))
        (half ((view c k).block (Usage a)) (4 * b + 1)) (word ((view c k).block (Usage a)) (2 * b + 1))) i lt
        (built _ _ _ _ _ _ (sym w.used ∙ ap (λ (s : List ℕ). half s (4 * i)) (sym block_is)) (sym w.live
        ∙ ap (λ (s : List ℕ). half s (4 * i + 1)) (sym block_is)) (sym w.age ∙ ap (λ (s : List ℕ). word s (2 * i + 1)) (sym block_is)))
      where
        built : (u l a u' l' a' : ℕ) → u ≡ u' → l ≡ l' → a ≡ a' → on_device u l a ≡ on_device u' l' a'
        built u l a u' l' a' e f g = cc

    no_dead_age : stale ≡ false → HasNoDeadAge c k j
    no_dead_age off i lt none =
        let n = numbers_are i lt in
        let live = ap (λ (x : SegmentNumbers). x.live) n in
        let age = ap (λ (x : SegmentNumbers). x.age) n in
        sym age ∙ (fresh off i lt) (live ∙ none)

    pub says_more : SaysUsage c k (j + 1) new
    says_more = record {
      numbers = λ s lt inside. ⊎_elim
          (λ (low : s < 64 * j). same_numbers s ∙ taken.before s low ∙ says.numbers s low (omega (arith, inside, new_size)))
          (λ (high : 64 * j ≤ s).
          let i = s - 64 * j in
          let here : 64 * j + i ≡ s = omega (arith, high) in
          let low : i < 64 = omega (arith, lt, high) in
          subst (λ (x : ℕ). get_or new.segments x no_segment ≡ numbers_in c k x) here
          (same_numbers (64 * j + i) ∙ taken.own i low (omega (arith, inside, new_size, high)) ∙ numbers_are i low))
          (cases_lt s (64 * j));
      address = below_more _ _ (λ i lt. same_address i (λ h. omega (arith, h, lt)) ∙ says.address i lt) (puts.address.own ∙ sym points);
      stale = below_more _ _ (λ i lt off. says.stale i lt (sym (same_stale i (λ h. omega (arith, h, lt))) ∙ off))
          (λ off. no_dead_age (sym puts.stale.own ∙ off));
    }

-- ---- where the content holds a log map, its usage blocks can be read
module _ {c : Content} (k : CheckpointValue) (m : LogMap) (st : HoldsAt c k m) (j : ℕ) (low : j < (k.segments + 63) / 64) where
  reached : 0 < get_or k.usage j 0
  unfolding address
  reached = (st.stages.usages.addresses j).1 low

  pub usage_range : (2 ≤ get_or k.usage j 0) × (get_or k.usage j 0 < 2 + 64 * k.segments)
  unfolding address
  usage_range = let f = st.stages.usages.fresh (Usage j) refl reached in (f.0, f.1)

  pub usage_long : length (block c (get_or k.usage j 0)) ≡ 512
  unfolding address
  usage_long = st.stages.usages.readable j reached

  pub usage_spelt : (bytes : List ℕ) → block c (get_or k.usage j 0) ≡ bytes → IsBytes bytes → length bytes ≡ 512
      → usage_in (k.segments - 64 * j) bytes ≡ Some (usage_of bytes)
  unfolding address
  usage_spelt bytes is are long = usage_block_some bytes are long
      (subst (IsUsageBlock (k.segments - 64 * j)) is (usage_block_of (view c k) st.stages.usages j))

pub usage_fault : (d d' : DeviceState) (k : CheckpointValue) (j : ℕ) {at : ℕ} → j < (k.segments + 63) / 64 → get_or k.usage j 0 ≡ at
    → LacksBlock d d' k.segments at → LacksTables d d' k
usage_fault d d' k j low points lacks m keeps st =
    let range = usage_range k m st j low in
    lacks keeps (subst (λ (a : ℕ). 2 ≤ a) points range.0) (subst (λ (a : ℕ). a < 2 + 64 * k.segments) points range.1)
    (subst (λ (a : ℕ). length (block d.content a) ≡ 512) points (usage_long k m st j low))

pub usage_undecoded : (d d' : DeviceState) (k : CheckpointValue) (j at : ℕ) (bytes : List ℕ) → j < (k.segments + 63) / 64
    → get_or k.usage j 0 ≡ at
    → (d'.keeps_model → block d.content at ≡ bytes) → AllByRecursion IsSector d.content → (d'.keeps_model → length bytes ≡ 512)
    → {count : ℕ} → count ≡ k.segments - 64 * j → usage_in count bytes ≡ None → LacksTables d d' k
usage_undecoded d d' k j at bytes low points there all long is none m keeps st =
    let are = subst IsBytes (there keeps) (block_bytes d.content all at) in
    let some = usage_spelt k m st j low bytes (ap (block d.content) points ∙ there keeps) are (long keeps) in
    let nothing : usage_in (k.segments - 64 * j) bytes ≡ None = subst (λ (n : ℕ). usage_in n bytes ≡ None) is none in
    cc

-- ---- block after block
pub says_nothing : (c : Content) (k : CheckpointValue) (t : UsageTable) → SaysUsage c k 0 t
says_nothing c k t = record {
  numbers = λ s lt inside. absurd (omega (arith, lt));
  address = λ i lt. absurd (omega (arith, lt));
  stale = λ i lt off. absurd (omega (arith, lt));
}

-- a block that isn't there, where the tables need it
pub block_fault : (d d' : DeviceState) (k : CheckpointValue) {n : ℕ} (at : ℕ) → n ≡ k.segments
    → (LacksBlock d d' k.segments at → LacksTables d d' k) → (f : MountFault) → IsBlockFault d d' n at f → IsTableFault d d' k f
block_fault d d' k at count lack = fault_on _ _ _ _ (λ rose. rose) (λ lacks. lack (subst (λ (n : ℕ). LacksBlock d d' n at) count lacks))

pub fault_then : {a b : DeviceState} (c : DeviceState) (k : CheckpointValue) → Looks a b → (f : MountFault) → IsTableFault b c k f
    → IsTableFault a c k f
fault_then c k looks = fault_on _ _ _ _ (λ rose. omega (arith, rose, looks.carries.failures))
    (λ lacks m keeps st. lacks m keeps (subst (λ (x : Content). HoldsAt x k m) (sym looks.untouched.content) st))

-- what the tables say of a content, through a call that only reads
pub says_then : {T : Type 0} (Says : Content → ℕ → T → Type 0) {a b : DeviceState} {j l : ℕ} {t u : T} → Looks a b → Says a.content j t
    → (Says b.content j t → Says b.content l u) → Says a.content l u
says_then Says {j} {l} {t} {u} looks says more =
    subst (λ (x : Content). Says x l u) looks.untouched.content
    (more (subst (λ (x : Content). Says x j t) (sym looks.untouched.content) says))
