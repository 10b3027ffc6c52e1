-- The newest checkpoint of a content: what the two slots hold, and what a write to one of them makes of it.
use Rattle.std.proofs.Common.{◌≡◌, ◌<◌, ◌≤◌, ◌⊎◌, inl, inr, ⊎_elim, ◌+◌, ◌%◌, ◌^◌, ◌==◌, ◌&&◌, nat_le, nat_lt, Bool, true, false, cond, ℕ}
use Rattle.std.proofs.Common.{zero}
use Rattle.std.proofs.Common.{suc, List, [], set, Option, Some, None, refl, sym, ◌∙◌, ap, ap₂, arith, get_or-set_other}
use Rattle.std.proofs.lemmas.Bool.{and_parts, leb-true, cases_eq, cases_lt, cases_Bool, eqb-true, eq-eqb, cond-true, cond-false, lt-ltb}
use Rattle.std.proofs.lemmas.Bool.{le-ltb}
use Rattle.std.specs.List.{AllByRecursion}
use Rattle.lfs_model.specs.Checkpoint.{CheckpointValue, IsVersion, checkpoint_in, checkpoint_of, checkpoint_sector, is_last}
use Rattle.lfs_model.specs.Checkpoint.{is_segment_count}
use Rattle.lfs_model.specs.Checkpoint.{is_version, layout_version, may_be_checkpoint, most_unit_power, rank}
use Rattle.lfs_model.specs.Fields.{part, read32, read64}
use Rattle.lfs_model.specs.Content.{Content, LastStandsAlone, NewestFits, bytes_of, slot, newer, newest, with_parity}
use Rattle.lfs_model.specs.Device.{Cell, cell_at, IsSector, AreSectorBytes}
use Rattle.lfs_model.specs.Slots.{HoldsCheckpoint, IsNewest, HasNoCheckpoint}
use Rattle.lfs_model.proofs.Cells.{sector_at}
use Rattle.lfs_model.proofs.Numbers.{IsBytes}
use Rattle.lfs_model.proofs.Decoding.{checkpoint_some, checkpoint_found, value_found, version_from}

-- an unreadable slot holds no checkpoint
pub none_spelt : checkpoint_in [] ≡ None
unfolding checkpoint_in read32 read64 part
none_spelt = refl

-- What the two slots hold, and the newest of it.
pub with_parity_inv : (p : ℕ) (o : Option CheckpointValue) (k : CheckpointValue) → with_parity p o ≡ Some k
    → (o ≡ Some k) × (k.number % 2 ≡ p)
with_parity_inv p None k h = absurd (cc)
with_parity_inv p (Some c) k h =
    ⊎_elim
    (λ (t : (c.number % 2 == p) ≡ true).
    let e : Some c ≡ Some k = sym (cond-true (c.number % 2 == p) (Some c) None t) ∙ h in
    let is : c ≡ k = cc in
    (e, ap (λ (x : CheckpointValue). x.number % 2) (sym is) ∙ eqb-true (c.number % 2) p t))
    (λ (f : (c.number % 2 == p) ≡ false). let e : None ≡ Some k = sym (cond-false (c.number % 2 == p) (Some c) None f) ∙ h in absurd (cc))
    (cases_Bool (c.number % 2 == p))

pub newer_inv : (x y : Option CheckpointValue) (k : CheckpointValue) → newer x y ≡ Some k → (x ≡ Some k) ⊎ (y ≡ Some k)
newer_inv None y k h = inr h
newer_inv (Some x) None k h = inl h
newer_inv (Some x) (Some y) k h =
    ⊎_elim
    (λ (t : nat_lt (rank x) (rank y) ≡ true). inr (sym (cond-true (nat_lt (rank x) (rank y)) (Some y) (Some x) t) ∙ h))
    (λ (f : nat_lt (rank x) (rank y) ≡ false). inl (sym (cond-false (nat_lt (rank x) (rank y)) (Some y) (Some x) f) ∙ h))
    (cases_Bool (nat_lt (rank x) (rank y)))

-- the newest checkpoint stands in its own slot
pub slot_newest : (c : Content) (k : CheckpointValue) → newest c ≡ Some k → slot c (k.number % 2) ≡ Some k
slot_newest c k h =
    ⊎_elim
    (λ (z : slot c 0 ≡ Some k). ap (slot c) (with_parity_inv 0 (checkpoint_in (bytes_of (cell_at c 0))) k z).1 ∙ z)
    (λ (o : slot c 1 ≡ Some k). ap (slot c) (with_parity_inv 1 (checkpoint_in (bytes_of (cell_at c 1))) k o).1 ∙ o)
    (newer_inv (slot c 0) (slot c 1) k h)

pub newer_lt : (k n : CheckpointValue) → rank k < rank n → newer (Some k) (Some n) ≡ Some n
newer_lt k n lt = cond-true (nat_lt (rank k) (rank n)) (Some n) (Some k) (lt-ltb (rank k) (rank n) lt)

pub newer_ge : (k n : CheckpointValue) → rank k < rank n → newer (Some n) (Some k) ≡ Some n
newer_ge k n lt = cond-false (nat_lt (rank n) (rank k)) (Some k) (Some n) (le-ltb (rank n) (rank k) (omega arith))

-- the next number of a volume has a greater rank
pub rank_next : (k n : CheckpointValue) → n.number ≡ k.number + 1 → is_last (layout_version n) ≡ is_last (layout_version k)
    → rank n ≡ rank k + 1
rank_next k n is last = ap₂ (λ (b : Bool) (i : ℕ). cond b 0 (2 ^ 64) + i) last is ∙ omega arith

-- a rank is of one number
by_rank : (b c : Bool) (i j : ℕ) → i < 2 ^ 64 → j < 2 ^ 64 → cond b 0 (2 ^ 64) + i ≡ cond c 0 (2 ^ 64) + j → i ≡ j
by_rank true true i j fits others same = omega (arith, same)
by_rank true false i j fits others same = absurd (omega (arith, fits, same))
by_rank false true i j fits others same = absurd (omega (arith, others, same))
by_rank false false i j fits others same = omega (arith, same)

pub rank_number : (j k : CheckpointValue) → j.number < 2 ^ 64 → k.number < 2 ^ 64 → rank j ≡ rank k → j.number ≡ k.number
rank_number j k fits others same = by_rank (is_last (layout_version j)) (is_last (layout_version k)) j.number k.number fits others same

-- the other slot, at the next number
pub newest_alone : (d : Content) (k : CheckpointValue) (p : ℕ) → p ≡ (k.number + 1) % 2 → slot d (k.number % 2) ≡ Some k → slot d p ≡ None
    → newest d ≡ Some k
newest_alone d k p is here there =
    ⊎_elim
    (λ (z : k.number % 2 ≡ 0).
    let o : p ≡ 1 = omega arith in
    ap₂ newer (ap (slot d) (sym z) ∙ here) (ap (slot d) (sym o) ∙ there))
    (λ (n : k.number % 2 ≡ 0 → ⊥).
    let o : k.number % 2 ≡ 1 = omega arith in
    let z : p ≡ 0 = omega arith in
    ap₂ newer (ap (slot d) (sym z) ∙ there) (ap (slot d) (sym o) ∙ here))
    (cases_eq (k.number % 2) 0)

pub newest_next : (d : Content) (k n : CheckpointValue) → n.number ≡ k.number + 1
    → is_last (layout_version n) ≡ is_last (layout_version k) → slot d (k.number % 2) ≡ Some k
    → slot d (n.number % 2) ≡ Some n → newest d ≡ Some n
newest_next d k n is last here there =
    let more = rank_next k n is last in
    ⊎_elim
    (λ (z : k.number % 2 ≡ 0).
    let o : n.number % 2 ≡ 1 = omega arith in
    ap₂ newer (ap (slot d) (sym z) ∙ here) (ap (slot d) (sym o) ∙ there) ∙ newer_lt k n (omega (arith, more)))
    (λ (ne : k.number % 2 ≡ 0 → ⊥).
    let o : k.number % 2 ≡ 1 = omega arith in
    let z : n.number % 2 ≡ 0 = omega arith in
    ap₂ newer (ap (slot d) (sym z) ∙ there) (ap (slot d) (sym o) ∙ here) ∙ newer_ge k n (omega (arith, more)))
    (cases_eq (k.number % 2) 0)

-- What a write to another sector leaves.
pub sector_other : (c : Content) (at : ℕ) (x : Option (List ℕ)) (p : ℕ) → (p ≡ at → ⊥) → cell_at (set c at x) p ≡ cell_at c p
sector_other c at x p ne = get_or-set_other c at p x None ne

pub slot_other : (c : Content) (at : ℕ) (x : Option (List ℕ)) (p : ℕ) → (p ≡ at → ⊥) → slot (set c at x) p ≡ slot c p
slot_other c at x p ne = ap (λ (y : Option (List ℕ)). with_parity p (checkpoint_in (bytes_of y))) (sector_other c at x p ne)

pub newest_other : (c : Content) (at : ℕ) (x : Option (List ℕ)) → 2 ≤ at → newest (set c at x) ≡ newest c
newest_other c at x above = ap₂ newer (slot_other c at x 0 (λ e. omega arith)) (slot_other c at x 1 (λ e. omega arith))

-- ---- the same as a relation between a content and its newest checkpoint
is_bytes : (bytes : List ℕ) → AreSectorBytes bytes → IsBytes bytes
is_bytes bytes are = are.each

-- a slot holds what it spells
pub slot_from : (c : Content) (p : ℕ) (k : CheckpointValue) → HoldsCheckpoint c p k → slot c p ≡ Some k
slot_from c p k held =
    ap (λ (x : Cell). with_parity p (checkpoint_in (bytes_of x))) held.spells
    ∙ ap (with_parity p) (checkpoint_some (checkpoint_sector k) k held.fits refl)
    ∙ cond-true (k.number % 2 == p) (Some k) None (eq-eqb (k.number % 2) p held.parity)

held_by : (c : Content) (p : ℕ) (k : CheckpointValue) (x : Cell) → IsSector x → cell_at c p ≡ x → checkpoint_in (bytes_of x) ≡ Some k
    → k.number % 2 ≡ p → HoldsCheckpoint c p k
held_by c p k None is there spelt parity = let e : None ≡ Some k = sym none_spelt ∙ spelt in absurd (cc)
held_by c p k (Some bytes) is there spelt parity =
    let found = checkpoint_found bytes k (is_bytes bytes is) is.size spelt in
    record { fits = found.0; spells = there ∙ ap Some found.1; parity = parity }

pub slot_to : (c : Content) → AllByRecursion IsSector c → (p : ℕ) (k : CheckpointValue) → slot c p ≡ Some k → HoldsCheckpoint c p k
slot_to c all p k e =
    let i = with_parity_inv p (checkpoint_in (bytes_of (cell_at c p))) k e in
    held_by c p k (cell_at c p) (sector_at c p all) refl i.0 i.1

-- the newest of two has the greater rank
newer_least : (x y : Option CheckpointValue) (k d : CheckpointValue) → newer x y ≡ Some k → (x ≡ Some d) ⊎ (y ≡ Some d)
    → rank d ≤ rank k
newer_least None y k d h (inl e) = absurd (cc)
newer_least None y k d h (inr e) = let s : Some k ≡ Some d = sym h ∙ e in let is : k ≡ d = cc in
    let n = ap rank is in omega (arith, n)
newer_least (Some x) None k d h (inl e) = let s : Some k ≡ Some d = sym h ∙ e in let is : k ≡ d = cc in
    let n = ap rank is in omega (arith, n)
newer_least (Some x) None k d h (inr e) = absurd (cc)
newer_least (Some x) (Some y) k d h which =
    ⊎_elim
    (λ (lt : rank x < rank y).
    let e : Some y ≡ Some k = sym (newer_lt x y lt) ∙ h in
    let is : y ≡ k = cc in
    go (let n = ap rank is in omega (arith, n)) (let n = ap rank is in omega (arith, n))
    which)
    (λ (le : rank y ≤ rank x).
    let e : Some x ≡ Some k = sym (cond-false (nat_lt (rank x) (rank y)) (Some y) (Some x) (le-ltb (rank x) (rank y) le)) ∙ h in
    let is : x ≡ k = cc in
    go (let n = ap rank is in omega (arith, n)) (let n = ap rank is in omega (arith, n))
    which)
    (cases_lt (rank x) (rank y))
  where
    go : rank x ≤ rank k → rank y ≤ rank k → (Some x ≡ Some d) ⊎ (Some y ≡ Some d) → rank d ≤ rank k
    go le le' (inl e) = let is : x ≡ d = cc in let n = ap rank is in omega (arith, n)
    go le le' (inr e) = let is : y ≡ d = cc in let n = ap rank is in omega (arith, n)

slot_below : (c : Content) (p : ℕ) (d : CheckpointValue) → p < 2 → slot c p ≡ Some d → (slot c 0 ≡ Some d) ⊎ (slot c 1 ≡ Some d)
slot_below c zero d lt e = inl e
slot_below c (suc zero) d lt e = inr e
slot_below c (suc (suc p)) d lt e = absurd (omega arith)

-- the content's newest checkpoint is the newest of what its slots hold
pub newest_to : (c : Content) → AllByRecursion IsSector c → (k : CheckpointValue) → newest c ≡ Some k → IsNewest c k
newest_to c all k h = record {
  held = slot_to c all (k.number % 2) k (slot_newest c k h);
  greatest = λ p d lt held. newer_least (slot c 0) (slot c 1) k d h (slot_below c p d lt (slot_from c p d held));
}

newer_none : (x y : Option CheckpointValue) → newer x y ≡ None → (x ≡ None) × (y ≡ None)
newer_none None y h = (refl, h)
newer_none (Some x) None h = absurd (cc)
newer_none (Some x) (Some y) h = absurd (not_none (nat_lt (rank x) (rank y)) x y h)
  where
    not_none : (b : Bool) (x y : CheckpointValue) → cond b (Some y) (Some x) ≡ None → ⊥
    not_none true x y e = cc
    not_none false x y e = cc

pub no_checkpoint_to : (c : Content) → newest c ≡ None → HasNoCheckpoint c
no_checkpoint_to c h p k lt held =
    let both = newer_none (slot c 0) (slot c 1) h in
    elim (slot_below c p k lt (slot_from c p k held)) [
      | inl e ↦ let z : None ≡ Some k = sym both.0 ∙ e in absurd (cc)
      | inr e ↦ let z : None ≡ Some k = sym both.1 ∙ e in absurd (cc)
    ]

same_number : (c : Content) (j k : CheckpointValue) → newest c ≡ Some j → slot c (k.number % 2) ≡ Some k → j.number ≡ k.number
    → newest c ≡ Some k
same_number c j k h held same =
    let there = slot_newest c j h in
    let e : Some j ≡ Some k = sym there ∙ ap (λ (n : ℕ). slot c (n % 2)) same ∙ held in
    h ∙ e

pub newest_from : (c : Content) → AllByRecursion IsSector c → (k : CheckpointValue) → IsNewest c k → newest c ≡ Some k
newest_from c all k is = go (newest c) refl
  where
    go : (o : Option CheckpointValue) → newest c ≡ o → newest c ≡ Some k
    go None h = absurd (no_checkpoint_to c h (k.number % 2) k (omega arith) is.held)
    go (Some j) h =
        let at = newest_to c all j h in
        let up = at.greatest (k.number % 2) k (omega arith) is.held in
        let down = is.greatest (j.number % 2) j (omega arith) at.held in
        same_number c j k h (slot_from c (k.number % 2) k is.held)
        (rank_number j k at.held.fits.number_fits is.held.fits.number_fits (omega (arith, up, down)))

pub no_checkpoint_from : (c : Content) → AllByRecursion IsSector c → HasNoCheckpoint c → newest c ≡ None
no_checkpoint_from c all none = go (newest c) refl
  where
    go : (o : Option CheckpointValue) → newest c ≡ o → newest c ≡ None
    go None h = h
    go (Some j) h = let at = newest_to c all j h in absurd (none (j.number % 2) j (omega arith) at.held)

pub newest_fits : NewestFits
newest_fits c all = ((λ k. (newest_to c all k, newest_from c all k)), (no_checkpoint_to c, no_checkpoint_from c all))

-- a checkpoint of an older version has a greater rank
older_first : (b : Bool) (i j n : ℕ) → j < 2 ^ 64 → cond b 0 (2 ^ 64) + i ≤ n → n ≡ 0 + j → b ≡ true
older_first true i j n fits less is = refl
older_first false i j n fits less is = absurd (omega (arith, fits, less, is))

pub last_stands_alone : LastStandsAlone
last_stands_alone c all k h last p d lt e =
    older_first (is_last (layout_version d)) d.number k.number (rank k) (newest_to c all k h).held.fits.number_fits
    (newer_least (slot c 0) (slot c 1) k d h (slot_below c p d lt e)) (ap (λ (b : Bool). cond b 0 (2 ^ 64) + k.number) last)

-- its sector spells it
pub newest_spelt : (c : Content) (k : CheckpointValue) → newest c ≡ Some k → (bytes : List ℕ) × (checkpoint_in bytes ≡ Some k)
newest_spelt c k h = (
  bytes_of (cell_at c (k.number % 2)),
  (with_parity_inv (k.number % 2) (checkpoint_in (bytes_of (cell_at c (k.number % 2)))) k (slot_newest c k h)).0,
)

-- a volume has at least 64 segments
pub least_segments : (c : Content) (k : CheckpointValue) → newest c ≡ Some k → 64 ≤ k.segments
unfolding checkpoint_in
least_segments c k h =
    let s = newest_spelt c k h in
    let found = value_found checkpoint_of may_be_checkpoint checkpoint_sector s.0 k s.1 in
    let fits : may_be_checkpoint k ≡ true = ap may_be_checkpoint (sym found.0) ∙ found.1 in
    let rest = and_parts (is_version (layout_version k)) (nat_le k.unit_power (most_unit_power (layout_version k))
    && (nat_le 1 k.number && is_segment_count k.segments)) fits in
    let more = and_parts (nat_le k.unit_power (most_unit_power (layout_version k)))
    (nat_le 1 k.number && is_segment_count k.segments) rest.1 in
    leb-true 64 k.segments (and_parts (nat_le 64 k.segments) _ (and_parts (nat_le 1 k.number) (is_segment_count k.segments) more.1).1).0

-- and one of the versions
pub newest_version : (c : Content) (k : CheckpointValue) → newest c ≡ Some k → IsVersion (layout_version k)
unfolding checkpoint_in
newest_version c k h =
    let s = newest_spelt c k h in
    let found = value_found checkpoint_of may_be_checkpoint checkpoint_sector s.0 k s.1 in
    let fits : may_be_checkpoint k ≡ true = ap may_be_checkpoint (sym found.0) ∙ found.1 in
    version_from (layout_version k) (and_parts (is_version (layout_version k)) (nat_le k.unit_power (most_unit_power (layout_version k))
    && (nat_le 1 k.number && is_segment_count k.segments)) fits).0

-- its units are those that its version may have
pub newest_unit : (c : Content) (k : CheckpointValue) → newest c ≡ Some k → k.unit_power ≤ most_unit_power (layout_version k)
unfolding checkpoint_in
newest_unit c k h =
    let s = newest_spelt c k h in
    let found = value_found checkpoint_of may_be_checkpoint checkpoint_sector s.0 k s.1 in
    let fits : may_be_checkpoint k ≡ true = ap may_be_checkpoint (sym found.0) ∙ found.1 in
    let rest = and_parts (is_version (layout_version k)) (nat_le k.unit_power (most_unit_power (layout_version k))
    && (nat_le 1 k.number && is_segment_count k.segments)) fits in
    leb-true k.unit_power (most_unit_power (layout_version k))
    (and_parts (nat_le k.unit_power (most_unit_power (layout_version k))) (nat_le 1 k.number && is_segment_count k.segments) rest.1).0

pub few_at_most : (b : Bool) → cond {A = ℕ} b 6 0 ≤ 6
few_at_most true = omega arith
few_at_most false = omega arith

-- and so at most 64 sectors
pub newest_few : (c : Content) (k : CheckpointValue) → newest c ≡ Some k → k.unit_power ≤ 6
newest_few c k h = omega (arith, newest_unit c k h, few_at_most (layout_version k == 3))
