-- Devices as a volume sees them: what calls that only read make of them, and that their places can be told by their units.
use Rattle.std.proofs.Common.{◌≡◌, ⊎_elim, inl, inr, ◌<◌, ◌≤◌, ◌*◌, ◌/◌, ◌^◌, ℕ, zero, suc, length, Option, Some, None, refl, sym, ◌∙◌}
use Rattle.std.proofs.Common.{ap, ap₂, arith, get_or-set_other, get_or-set_same, length-set, subst}
use Rattle.std.proofs.lemmas.Bool.{cases_lt}
use Rattle.std.proofs.lemmas.List.{get_or_past, length-map}
use Rattle.lfs_model.specs.Checkpoint.{CheckpointValue, Shape, checkpoint_in, unit_sectors}
use Rattle.lfs_model.specs.Content.{Content, bytes_of, newer, newest, slot, with_parity}
use Rattle.lfs_model.specs.Device.{Carries, Cell, DeviceState, Elapses, IsLawful, IsUntouched, LeavesOnly, LieWithin, cell_at, in_units}
use Rattle.lfs_model.specs.Device.{lose}
use Rattle.lfs_model.specs.UnitLaws.{shape_by, shape_in, unit_by, units_by}
use Rattle.lfs_model.proofs.Newest.{newest_few, none_spelt}
use Rattle.lfs_model.proofs.UnitStates.{units_carry, units_elapse, units_untouched}
use Rattle.lfs_model.proofs.UnitsKept.{units_by_shape}
use Rattle.lfs_places.specs.declared.Places.{Places}
use Rattle.lfs_places.specs.declared.Places.TheVariants.{Old, New}
use Rattle.lfs_places.specs.Placed.{placed, volume_order}
use Rattle.lfs_places.specs.Places.{place_of, volume_content}
use Rattle.lfs_places.proofs.DeviceUnits.{device_units}
use Rattle.lfs_places.proofs.PlacedStates.{placed_carry, placed_elapse, placed_untouched}
use Rattle.lfs_volume.specs.Standing.{IsShown, in_found, no_slots, unit_length, volume_at, volume_units, without_slots}

-- ---- the places can be told by the units
second_by_old : (o : Option CheckpointValue) → units_by o 1 ≡ 1
second_by_old None = refl
second_by_old (Some k) = refl

-- the second slot's unit isn't the second of the device
far : (p : ℕ) → p ≤ 6 → 128 / 2 ^ p ≡ 1 → ⊥
far zero le = λ e. omega (arith, e)
far (suc zero) le = λ e. omega (arith, e)
far (suc (suc zero)) le = λ e. omega (arith, e)
far (suc (suc (suc zero))) le = λ e. omega (arith, e)
far (suc (suc (suc (suc zero)))) le = λ e. omega (arith, e)
far (suc (suc (suc (suc (suc zero))))) le = λ e. omega (arith, e)
far (suc (suc (suc (suc (suc (suc zero)))))) le = λ e. omega (arith, e)
far (suc (suc (suc (suc (suc (suc (suc p))))))) le = absurd (omega (arith, le))

second_by_new : (c : Content) → 128 / unit_length (newest c) ≡ 1 → ⊥
second_by_new c = go (newest c) refl
  where
    go : (o : Option CheckpointValue) → newest c ≡ o → 128 / unit_length o ≡ 1 → ⊥
    go None is e = omega (arith, e)
    go (Some k) is e = far k.unit_power (newest_few c k is) e

pub same_places : (p q : Places) (c b : Content) → volume_units p c ≡ volume_units q b → p ≡ q
same_places Old Old c b same = refl
same_places Old New c b same = absurd (second_by_new b (sym (ap (λ (u : ℕ → ℕ). u 1) same) ∙ second_by_old (newest c)))
same_places New Old c b same = absurd (second_by_new c (ap (λ (u : ℕ → ℕ). u 1) same ∙ second_by_old (newest b)))
same_places New New c b same = refl

-- ---- what a device is by some places, over calls
bare_more : (P Q : Content → Type 0) → ((c : Content) → P c → Q c) → (c : Content) → IsShown no_slots P c → IsShown no_slots Q c
bare_more P Q more c is = (is.0, more is.0 is.1, is.2)

module _ {old new : DeviceState} where
  -- what a stop leaves at any moment
  placed_leaves : (places : Places) → LeavesOnly old new old.may_leave
      → LeavesOnly (placed places old) (placed places new) (placed places old).may_leave
  placed_leaves places leaves = record {
    later = leaves.later;
    each = λ c left. (left.0, leaves.each left.0 left.1, left.2);
    before = λ t c le left. ⊎_elim (λ was. inl (left.0, was, left.2)) (λ is. inr (left.0, is, left.2)) (leaves.before t left.0 le left.1);
  }

  units_leave : (unit : ℕ → ℕ) → Carries old new → LeavesOnly old new old.may_leave
      → LeavesOnly (in_units unit old) (in_units unit new) (in_units unit old).may_leave
  units_leave unit carries leaves = record {
    later = leaves.later;
    each = λ c left. (earlier left.0, leaves.each c left.1);
    before = λ t c le left. ⊎_elim (λ was. inl (earlier left.0, was)) (λ is. inr (earlier left.0, is)) (leaves.before t c le left.1);
  }
    where
      earlier : LieWithin new.unit unit → LieWithin old.unit unit
      earlier lie = subst (λ (u : ℕ → ℕ). LieWithin u unit) carries.unit lie

  -- without its slots
  bare_carry : Carries old new → Carries (without_slots old) (without_slots new)
  bare_carry carries = record {
    size = carries.size;
    kept_before = carries.kept_before;
    unit = carries.unit;
    failures = carries.failures;
    failed_orders = carries.failed_orders;
    failed_reads = carries.failed_reads;
    later = carries.later;
    remembers = λ t c le. bare_more (old.left_since t) (new.left_since t) (λ b left. carries.remembers t b le left) c;
    kept_as = carries.kept_as;
    left_as = λ t u c le. (
      bare_more (new.left_until t u) (old.left_until t u) (λ b. (carries.left_as t u b le).0) c,
      bare_more (old.left_until t u) (new.left_until t u) (λ b. (carries.left_as t u b le).1) c,
    );
    start = ap no_slots carries.start;
    told = carries.told;
    bears = carries.bears;
    borne = carries.borne;
  }

  bare_untouched : IsUntouched old new → IsUntouched (without_slots old) (without_slots new)
  bare_untouched same = record { content = ap no_slots same.content; crash = bare_more new.may_leave old.may_leave same.crash }

  bare_leaves : LeavesOnly old new old.may_leave → LeavesOnly (without_slots old) (without_slots new) (without_slots old).may_leave
  bare_leaves leaves = record {
    later = leaves.later;
    each = λ c left. (left.0, leaves.each left.0 left.1, left.2);
    before = λ t c le left. ⊎_elim (λ was. inl (left.0, was, left.2)) (λ is. inr (left.0, is, left.2)) (leaves.before t left.0 le left.1);
  }

bare_elapse : (old new : DeviceState) → Elapses old new → Elapses (without_slots old) (without_slots new)
bare_elapse old new time t c le left =
    ⊎_elim (λ was. inl (left.0, was, left.2)) (λ now. inr (left.0, now, left.2)) (time t left.0 le left.1)

module _ {D : Type 0} (state : D → DeviceState) (held old new : D) where
  -- what a stop leaves of it comes from what one leaves of the device
  pub found_left : (o : Option Places) → Carries (state old) (state new)
      → ((c : Content) → (state new).may_leave c → (state old).may_leave c) → (c : Content)
      → (in_found state o held new).may_leave c → (in_found state o held old).may_leave c
  found_left None carries was c left = (left.0, was left.0 left.1, left.2)
  found_left (Some places) carries was c left = (
    subst (λ (u : ℕ → ℕ). LieWithin u (volume_units places (volume_content places (state held).content)))
        (placed_carry places (state old) (state new) carries).unit left.0,
    (left.1.0, was left.1.0 left.1.1, left.1.2),
  )

  pub found_elapse : (o : Option Places) → Carries (state old) (state new) → Elapses (state old) (state new)
      → Elapses (in_found state o held old) (in_found state o held new)
  found_elapse None carries time = bare_elapse (state old) (state new) time
  found_elapse (Some places) carries time =
      units_elapse (volume_units places (volume_content places (state held).content)) (placed_carry places (state old) (state new) carries)
      (placed_elapse places (state old) (state new) time)

  pub found_carry : (o : Option Places) → Carries (state old) (state new) → Carries (in_found state o held old) (in_found state o held new)
  found_carry None carries = bare_carry carries
  found_carry (Some places) carries =
      units_carry (volume_units places (volume_content places (state held).content)) (placed_carry places (state old) (state new) carries)

  pub found_untouched : (o : Option Places) → Carries (state old) (state new) → IsUntouched (state old) (state new)
      → IsUntouched (in_found state o held old) (in_found state o held new)
  found_untouched None carries same = bare_untouched same
  found_untouched (Some places) carries same =
      units_untouched (volume_units places (volume_content places (state held).content))
      (placed_carry places (state old) (state new) carries) (placed_untouched places (state old) (state new) same)

  pub found_leaves : (o : Option Places) → Carries (state old) (state new) → LeavesOnly (state old) (state new) (state old).may_leave
      → LeavesOnly (in_found state o held old) (in_found state o held new) (in_found state o held old).may_leave
  found_leaves None carries leaves = bare_leaves leaves
  found_leaves (Some places) carries leaves =
      units_leave (volume_units places (volume_content places (state held).content)) (placed_carry places (state old) (state new) carries)
      (placed_leaves places leaves)

-- what is as the device has it, wherever its volume stands
module _ {D : Type 0} (state : D → DeviceState) (held x : D) where
  pub found_failures : (o : Option Places) → (in_found state o held x).failures ≡ (state x).failures
  found_failures None = refl
  found_failures (Some places) = refl

  pub found_keeps : (o : Option Places) → (in_found state o held x).keeps_model → (state x).keeps_model
  found_keeps None keeps = keeps
  found_keeps (Some places) keeps = keeps.1

pub found_as_many : {D : Type 0} (state : D → DeviceState) (held x : D) (o : Option Places)
    → length (in_found state o held x).told ≡ length (state x).told
found_as_many state held x None = refl
found_as_many state held x (Some places) = length-map (state x).told (volume_order places)

-- what a stop leaves now is of those moments too
pub found_counts : {D : Type 0} (state : D → DeviceState) (held x : D) (o : Option Places) → IsLawful (state x) → (t : ℕ) (c : Content)
    → t ≤ (in_found state o held x).moment → (in_found state o held x).may_leave c → (in_found state o held x).left_since t c
found_counts state held x None lawful t c le left = (left.0, lawful.counts_now t left.0 le left.1, left.2)
found_counts state held x (Some places) lawful t c le left = (left.0, (left.1.0, lawful.counts_now t left.1.0 le left.1.1, left.1.2))

-- ---- its units lie within those of its volume
-- units fill the sectors before the second slot
filled : (p : ℕ) → p ≤ 6 → (0 < 2 ^ p) × (h : ℕ) × (128 ≡ 2 ^ p * h)
filled zero le = (omega arith, 128, refl)
filled (suc zero) le = (omega arith, 64, refl)
filled (suc (suc zero)) le = (omega arith, 32, refl)
filled (suc (suc (suc zero))) le = (omega arith, 16, refl)
filled (suc (suc (suc (suc zero)))) le = (omega arith, 8, refl)
filled (suc (suc (suc (suc (suc zero))))) le = (omega arith, 4, refl)
filled (suc (suc (suc (suc (suc (suc zero)))))) le = (omega arith, 2, refl)
filled (suc (suc (suc (suc (suc (suc (suc p))))))) le = absurd (omega (arith, le))

one_times : (n : ℕ) → n ≡ n * 1
one_times n = omega arith

pub units_whole : (places : Places) (c : Content) (k : CheckpointValue) → newest c ≡ Some k
    → LieWithin (volume_units places c) (unit_by (unit_sectors k))
units_whole Old c k is =
    subst (λ (o : Option CheckpointValue). LieWithin (units_by o) (unit_by (unit_sectors k))) (sym is) (λ i j same. same)
units_whole New c k is =
    let fills = filled k.unit_power (newest_few c k is) in
    subst (λ (o : Option CheckpointValue). LieWithin (λ s. place_of New s / unit_length o) (unit_by (unit_sectors k))) (sym is)
    (device_units (unit_sectors k) (unit_sectors k) 1 fills.1 fills.0 (one_times (unit_sectors k)) fills.2)

-- ---- and are those of its shape
length_in : Option Shape → ℕ
length_in None = 1
length_in (Some shape) = 2 ^ shape.unit_power

length_by_shape : (o : Option CheckpointValue) → unit_length o ≡ length_in (shape_by o)
unfolding length_in
length_by_shape None = refl
length_by_shape (Some k) = refl

pub units_by_shape_at : (places : Places) (c b : Content) → shape_in c ≡ shape_in b → volume_units places c ≡ volume_units places b
units_by_shape_at Old c b same = units_by_shape c b same
units_by_shape_at New c b same =
    ap (λ (n : ℕ). let unit : ℕ → ℕ = λ s. place_of New s / n in unit)
    (length_by_shape (newest c) ∙ ap length_in same ∙ sym (length_by_shape (newest b)))

module _ {D : Type 0} (state : D → DeviceState) where
  -- What is said of devices by what they were found to hold is said by another of the same content. That their places are the same follows,
  -- for calls keep the units.
  pub given_at : (p q : Places) (held other x y d : D) → (state held).content ≡ (state d).content
      → Carries (volume_at state p held x) (volume_at state q other y) → (P : DeviceState → DeviceState → Type 0)
      → P (volume_at state p held x) (volume_at state q other y) → P (volume_at state p d x) (volume_at state p d y)
  given_at p q held other x y d same used P says =
      let places : q ≡ p = same_places q p (volume_content q (state other).content) (volume_content p (state held).content) used.unit in
      let units = ap (λ (c : Content). volume_units p (volume_content p c)) same in
      subst (λ (z : DeviceState). P z (volume_at state p d y)) (λ i. in_units (units i) (placed p (state x)))
      (subst (λ (z : DeviceState). P (volume_at state p held x) z)
      (λ i. in_units ((used.unit ∙ units) i) (placed (places i) (state y))) says)

-- ---- without slots there is no checkpoint
pub bare_size : (c : Content) → length (no_slots c) ≡ length c
bare_size c = length-set (lose c 0) 1 None ∙ length-set c 0 None

lost_cell : (c : Content) (p : ℕ) → cell_at (lose c p) p ≡ None
lost_cell c p = ⊎_elim
    (λ (lt : p < length c). get_or-set_same c p None None lt)
    (λ (le : length c ≤ p). get_or_past (lose c p) p None (let same = length-set c p None in omega (arith, same, le)))
    (cases_lt p (length c))

unspelt : (c : Content) (p : ℕ) → cell_at c p ≡ None → slot c p ≡ None
unspelt c p is = ap (λ (x : Cell). with_parity p (checkpoint_in (bytes_of x))) is ∙ ap (with_parity p) none_spelt

pub bare_none : (c : Content) → newest (no_slots c) ≡ None
bare_none c =
    ap₂ newer
    (unspelt (no_slots c) 0 (get_or-set_other (lose c 0) 1 0 None None (λ e. absurd (omega (arith, e))) ∙ lost_cell c 0))
    (unspelt (no_slots c) 1 (lost_cell (lose c 0) 1))
