-- The list of segments whose numbers change as a checkpoint is acknowledged: as one has other numbers, and as all of them change.
use Rattle.std.proofs.Common.{◌≡◌, ◌<◌, ◌≤◌, ◌⊎◌, ⊎_elim, inl, ◌+◌, ℕ, suc, Bool, true, false, List, length, get_or}
use Rattle.std.proofs.Common.{replicate, refl, sym, ◌∙◌, ap, subst, arith, length-set, get_or-set_other, get_or-set_same}
use Rattle.std.specs.Prelude.{slice_set}
use Rattle.std.proofs.lemmas.Bool.{cases_eq}
use Rattle.lfs_segments.specs.declared.releasing.Unsettled.{Unsettled}
use Rattle.lfs_segments.specs.Table.{SegmentNumbers, UsageTable, no_segment, clean_in}
use Rattle.lfs_segments.specs.Steps.{Releases, released}
use Rattle.lfs_segments.specs.Settled.{ListsUnsettled, IsListed, is_settled}
use Rattle.lfs_segments.proofs.Numbers.{set_own, set_other, no_segment_there}
use Rattle.lfs_segments.proofs.Steps.{never_fewer}

-- ---- numbers that stay
-- once they changed, they stay
pub released_twice : (n : SegmentNumbers) → released (released n) ≡ released n
released_twice n = grind arith

-- ---- the list, as a segment has other numbers
module _ {l : Unsettled} {segments : List SegmentNumbers} (s : ℕ) (x : SegmentNumbers) (lt : s < length segments)
    (lists : ListsUnsettled l segments) where
  within : (i : ℕ) → i < l.count → get_or l.segments i 0 < length (slice_set segments s x)
  within i low = omega (arith, lists.inside i low, length-set segments s x)

  -- of those that have other numbers than s nothing is new
  others : l.count < 64 → (i : ℕ) → (i ≡ s → ⊥) → is_settled (get_or (slice_set segments s x) i no_segment) ≡ false → IsListed l i
  others room i away off = lists.all room i (ap is_settled (sym (set_other segments x away)) ∙ off)

  listed_by : (l.count < 64 → is_settled x ≡ false → IsListed l s) → ListsUnsettled l (slice_set segments s x)
  listed_by own = record {
    size = lists.size;
    few = lists.few;
    inside = within;
    all = λ room i off. ⊎_elim
        (λ here. subst (IsListed l) (sym here) (own room (ap is_settled (sym (set_own segments s x lt))
        ∙ ap (λ j. is_settled (get_or (slice_set segments s x) j no_segment)) (sym here) ∙ off)))
        (λ away. others room i away off)
        (cases_eq i s);
  }

  -- its numbers stay now, or wouldn't have before, or there is no room
  pub noted_settled : is_settled x ≡ true → ListsUnsettled l (slice_set segments s x)
  noted_settled on = listed_by (λ room off. let bad : true ≡ false = sym on ∙ off in absurd cc)

  pub noted_before : {was : SegmentNumbers} → get_or segments s no_segment ≡ was → is_settled was ≡ false
      → ListsUnsettled l (slice_set segments s x)
  noted_before is off = listed_by (λ room new. lists.all room s (ap is_settled is ∙ off))

  pub noted_full : 64 ≤ l.count → ListsUnsettled l (slice_set segments s x)
  noted_full full = listed_by (λ room new. absurd (omega arith))

  -- or it comes to the list
  pub noted_more : (l' : Unsettled) → l.count < 64 → l'.segments ≡ slice_set l.segments l.count s → l'.count ≡ suc l.count
      → ListsUnsettled l' (slice_set segments s x)
  noted_more l' room items count = record {
    size = ap length items ∙ length-set l.segments l.count s ∙ lists.size;
    few = omega arith;
    inside = λ i low. ⊎_elim
        (λ here. let size = length-set segments s x in let is = ap (λ j. get_or l'.segments j 0) here ∙ own in
        omega arith)
        (λ away. let was = within i (omega arith) in let is = old i away in omega arith)
        (cases_eq i l.count);
    all = λ more i off. ⊎_elim
        (λ here. record { at = l.count; low = omega arith; is = own ∙ sym here })
        (λ away.
        let was = others room i away off in
        let low = was.low in
        record { at = was.at; low = omega arith; is = old was.at (λ h. omega arith) ∙ was.is })
        (cases_eq i s);
  }
    where
      whole : l.count < length l.segments
      whole = omega arith

      own : get_or l'.segments l.count 0 ≡ s
      own = ap (λ xs. get_or xs l.count 0) items ∙ get_or-set_same l.segments l.count s 0 whole

      old : (i : ℕ) → (i ≡ l.count → ⊥) → get_or l'.segments i 0 ≡ get_or l.segments i 0
      old i away = ap (λ xs. get_or xs i 0) items ∙ get_or-set_other l.segments l.count i s 0 away

-- ---- an empty list, where the numbers of all segments stay
pub lists_none : {l : Unsettled} {segments : List SegmentNumbers} → l.count ≡ 0 → length l.segments ≡ 64
    → ((s : ℕ) → is_settled (get_or segments s no_segment) ≡ true) → ListsUnsettled l segments
lists_none none size settled = grind arith

pub lists_new : (l : Unsettled) {segments : List SegmentNumbers} (n : ℕ) → l.count ≡ 0 → length l.segments ≡ 64
    → segments ≡ replicate n no_segment → ListsUnsettled l segments
lists_new l {segments} n none size is = lists_none none size
    (λ s. ap (λ xs. is_settled (get_or xs s no_segment)) is ∙ ap is_settled (no_segment_there n s))

pub lists_released : (l : Unsettled) {old new : UsageTable} → l.count ≡ 0 → length l.segments ≡ 64 → Releases old new
    → ListsUnsettled l new.segments
lists_released l {old} {new} none size done = grind arith

-- ---- releasing the segments of a list, one after the other
pub record ReleasesListed (old now : UsageTable) (l : Unsettled) (k : ℕ) : Type 0 where
  pub size : length now.segments ≡ length old.segments
  pub blocks : now.blocks ≡ old.blocks
  pub last : now.last ≡ old.last
  pub unit : now.unit ≡ old.unit
  pub done : (i : ℕ) → i < k
      → get_or now.segments (get_or l.segments i 0) no_segment ≡ released (get_or old.segments (get_or l.segments i 0) no_segment)
  pub either : (s : ℕ) → (get_or now.segments s no_segment ≡ released (get_or old.segments s no_segment))
      ⊎ (get_or now.segments s no_segment ≡ get_or old.segments s no_segment)
  pub clean : clean_in old.segments ≤ clean_in now.segments

pub listed_goes_on : {old now new : UsageTable} {l : Unsettled} {k s : ℕ} {x : SegmentNumbers} → ReleasesListed old now l k
    → s ≡ get_or l.segments k 0 → s < length now.segments → x ≡ released (get_or now.segments s no_segment)
    → new ≡ record now { segments = slice_set now.segments s x } → ReleasesListed old new l (k + 1)
listed_goes_on {old} {now} {l} {k} {s} {x} so is lt same new_is = subst (λ t. ReleasesListed old t l (k + 1)) (sym new_is) (record {
  size = length-set now.segments s x ∙ so.size;
  blocks = so.blocks;
  last = so.last;
  unit = so.unit;
  done = λ i low. ⊎_elim
      (own (get_or l.segments i 0))
      (λ away. set_other now.segments x away ∙ so.done i (earlier i low away))
      (cases_eq (get_or l.segments i 0) s);
  either = λ i. ⊎_elim
      (λ here. inl (own i here))
      (λ away. rw (set_other now.segments x away) (so.either i))
      (cases_eq i s);
  clean = omega (arith, never_fewer now.segments s lt same, so.clean);
})
  where
    own : (i : ℕ) → i ≡ s → get_or (slice_set now.segments s x) i no_segment ≡ released (get_or old.segments i no_segment)
    own i here = rw here (set_own now.segments s x lt ∙ same ∙ ⊎_elim
        (λ e. ap released e ∙ released_twice (get_or old.segments s no_segment))
        (ap released)
        (so.either s))

    earlier : (i : ℕ) → i < k + 1 → (get_or l.segments i 0 ≡ s → ⊥) → i < k
    earlier i low away = grind arith

pub listed_ends : {old now : UsageTable} {l : Unsettled} {k : ℕ} → ReleasesListed old now l k → l.count ≤ k → ListsUnsettled l old.segments
    → l.count < 64 → Releases old now
listed_ends {old} {now} so le lists room = record {
  each = λ s. by_settled s (is_settled (get_or old.segments s no_segment)) refl;
  size = so.size;
  blocks = so.blocks;
  last = so.last;
  unit = so.unit;
  clean = so.clean;
}
  where
    by_settled : (s : ℕ) (b : Bool) → is_settled (get_or old.segments s no_segment) ≡ b
        → get_or now.segments s no_segment ≡ released (get_or old.segments s no_segment)
    by_settled s true on = grind arith
    by_settled s false off =
        let listed = lists.all room s off in
        subst (λ j. get_or now.segments j no_segment ≡ released (get_or old.segments j no_segment)) listed.is
        (so.done listed.at (omega arith))
