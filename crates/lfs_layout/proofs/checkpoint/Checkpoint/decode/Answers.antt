use Rattle.std.proofs.Common.{◌≡◌, ◌<◌, ◌^◌, ℕ, sym, ap, ap₂, ◌≤◌, ◌∙◌, arith, List, codes, None}
use Rattle.lfs_model.specs.Checkpoint.{CheckpointValue, FitsCheckpoint, checkpoint_sector, checkpoint_text, shape_bytes, sum_of}
use Rattle.lfs_model.specs.Fields.{le32, part}
use Rattle.lfs_model.proofs.Numbers.{le32_inj, le64_inj}
use Rattle.lfs_model.proofs.CheckpointPlaces.{reads_from, reads_to, unit_at, version_small}
use Rattle.lfs_model.proofs.Decoding.{checkpoint_is, checkpoint_some}
use Rattle.lfs_layout.proofs.checkpoint.Checkpoint.decode.Goals as goal

text_is : {bytes : List ℕ} → bytes ≡ codes "SLFSCKP1" → bytes ≡ checkpoint_text
unfolding checkpoint_text
text_is e = e

pub returns-then-not-is_text_at-clause-none : goal.returns-then-not-is_text_at-clause-none
unfolding checkpoint_text
returns-then-not-is_text_at-clause-none c v fits is =
    let yes = c.is_text_at.ensures.1 (reads_from v fits is).text in
    cc

pub returns-then-number-eq0-clause-none : goal.returns-then-number-eq0-clause-none
returns-then-number-eq0-clause-none c v fits is =
    let r = reads_from v fits is in
    let n = c.number64_at-number.result in
    let e : n ≡ v.number =
    le64_inj n v.number c.number64_at-number.type_inv fits.number_fits (c.number64_at-number.ensures.spelled ∙ r.number) in
    omega (arith, fits.number)

pub returns-then-not-is_segment_count-clause-none : goal.returns-then-not-is_segment_count-clause-none
returns-then-not-is_segment_count-clause-none c v fits is =
    let r = reads_from v fits is in
    let n = c.number32_at-segments.result in
    let most = fits.segments.most in
    let e : n ≡ v.segments =
    le32_inj n c.number32_at-segments.type_inv (omega arith) (c.number32_at-segments.ensures.spelled ∙ r.segments) in
    let yes = c.is_segment_count.ensures.1 (rw e fits.segments) in
    cc

pub returns-then-not-is_version-clause-none : goal.returns-then-not-is_version-clause-none
returns-then-not-is_version-clause-none c v fits is =
    let r = reads_from v fits is in
    let n = c.number32_at-version.result in
    let e : n ≡ v.version = le32_inj n c.number32_at-version.type_inv (version_small v.version fits.version)
    (c.number32_at-version.ensures.spelled ∙ r.version) in
    let yes = c.is_version.ensures.1 (rw e fits.version) in
    cc

-- the version of a checkpoint that the sector spells is the number that was read
same_version : {s : List ℕ} (n : ℕ) → n < 2 ^ 32 → le32 n ≡ part 20 4 s → (v : CheckpointValue) → FitsCheckpoint v
    → s ≡ checkpoint_sector v → n ≡ v.version
same_version n small spelled v fits is = le32_inj n small (version_small v.version fits.version)
    (spelled ∙ (reads_from v fits is).version)

pub returns-then-unit_power-most_unit_power-clause-none : goal.returns-then-unit_power-most_unit_power-clause-none
returns-then-unit_power-most_unit_power-clause-none c v fits is =
    let e = same_version c.number32_at-version.result c.number32_at-version.type_inv c.number32_at-version.ensures.spelled v fits is in
    let most : v.unit_power ≤ c.most_unit_power.result = rw (c.most_unit_power.ensures, e) fits.unit in
    let told = unit_at v fits is in
    absurd (omega (arith, most, told, c.if-unit_power-most_unit_power.true))

pub returns-then-not-has_shape-clause-none : goal.returns-then-not-has_shape-clause-none
returns-then-not-has_shape-clause-none c v fits is =
    let e = same_version c.number32_at-version.result c.number32_at-version.type_inv c.number32_at-version.ensures.spelled v fits is in
    let yes = c.has_shape.ensures.1 ((reads_from v fits is).shape ∙ ap₂ shape_bytes (sym e) (sym (unit_at v fits is))) in
    cc

pub returns-then-not-is_zero_at-clause-none : goal.returns-then-not-is_zero_at-clause-none
returns-then-not-is_zero_at-clause-none c v fits is =
    let yes = c.is_zero_at.ensures.1 (reads_from v fits is).rest in
    cc

pub returns-then-not-has_sum-clause-none : goal.returns-then-not-has_sum-clause-none
returns-then-not-has_sum-clause-none c v fits is =
    let e = same_version c.number32_at-version.result c.number32_at-version.type_inv c.number32_at-version.ensures.spelled v fits is in
    let yes = c.has_sum.ensures.1 ((reads_from v fits is).sum
    ∙ ap (λ (n : ℕ). le32 (sum_of n (part 0 508 c.args.sector.now))) (sym e)) in
    cc

pub returns-clause-found : goal.returns-clause-found
returns-clause-found c =
    let n = c.number64_at-number.result in
    let not_zero : n ≡ 0 → ⊥ = c.if-number-eq0.false in
    let text : part 0 8 c.args.sector.now ≡ checkpoint_text = text_is (c.is_text_at.ensures.0 c.if-not-is_text_at.false) in (
      record {
        number = omega arith;
        number_fits = c.number64_at-number.type_inv;
        segments = c.is_segment_count.ensures.0 c.if-not-is_segment_count.false;
        version = c.is_version.ensures.0 c.if-not-is_version.false;
        unit = rw (← c.most_unit_power.ensures) (omega (arith, c.if-unit_power-most_unit_power.false));
        map_length = c.words_at.ensures.length;
        map_fits = c.words_at.ensures.fits;
        usage_length = c.words_at-2.ensures.length;
        usage_fits = c.words_at-2.ensures.fits;
      },
      reads_to c.args.sector.now _ c.told-sector record {
        text = text;
        number = sym c.number64_at-number.ensures.spelled;
        segments = sym c.number32_at-segments.ensures.spelled;
        version = sym c.number32_at-version.ensures.spelled;
        shape = c.has_shape.ensures.0 c.if-not-has_shape.false;
        map = sym c.words_at.ensures.spelled;
        usage = sym c.words_at-2.ensures.spelled;
        rest = c.is_zero_at.ensures.0 c.if-not-is_zero_at.false;
        sum = c.has_sum.ensures.0 c.if-not-has_sum.false;
      },
    )

pub returns-then-not-is_text_at-clause-exact : goal.returns-then-not-is_text_at-clause-exact
returns-then-not-is_text_at-clause-exact c =
    checkpoint_is c.args.sector.now c.fits-sector c.told-sector None tt (λ v fits is. returns-then-not-is_text_at-clause-none c v fits is)

pub returns-then-number-eq0-clause-exact : goal.returns-then-number-eq0-clause-exact
returns-then-number-eq0-clause-exact c =
    checkpoint_is c.args.sector.now c.fits-sector c.told-sector None tt (λ v fits is. returns-then-number-eq0-clause-none c v fits is)

pub returns-then-not-is_segment_count-clause-exact : goal.returns-then-not-is_segment_count-clause-exact
returns-then-not-is_segment_count-clause-exact c = checkpoint_is c.args.sector.now c.fits-sector c.told-sector None tt
    (λ v fits is. returns-then-not-is_segment_count-clause-none c v fits is)

pub returns-then-not-is_version-clause-exact : goal.returns-then-not-is_version-clause-exact
returns-then-not-is_version-clause-exact c =
    checkpoint_is c.args.sector.now c.fits-sector c.told-sector None tt (λ v fits is. returns-then-not-is_version-clause-none c v fits is)

pub returns-then-not-is_zero_at-clause-exact : goal.returns-then-not-is_zero_at-clause-exact
returns-then-not-is_zero_at-clause-exact c =
    checkpoint_is c.args.sector.now c.fits-sector c.told-sector None tt (λ v fits is. returns-then-not-is_zero_at-clause-none c v fits is)

pub returns-then-unit_power-most_unit_power-clause-exact : goal.returns-then-unit_power-most_unit_power-clause-exact
returns-then-unit_power-most_unit_power-clause-exact c = checkpoint_is c.args.sector.now c.fits-sector c.told-sector None tt
    (λ v fits is. returns-then-unit_power-most_unit_power-clause-none c v fits is)

pub returns-then-not-has_shape-clause-exact : goal.returns-then-not-has_shape-clause-exact
returns-then-not-has_shape-clause-exact c =
    checkpoint_is c.args.sector.now c.fits-sector c.told-sector None tt (λ v fits is. returns-then-not-has_shape-clause-none c v fits is)

pub returns-then-not-has_sum-clause-exact : goal.returns-then-not-has_sum-clause-exact
returns-then-not-has_sum-clause-exact c =
    checkpoint_is c.args.sector.now c.fits-sector c.told-sector None tt (λ v fits is. returns-then-not-has_sum-clause-none c v fits is)

pub returns-clause-exact : goal.returns-clause-exact
returns-clause-exact c = let found = returns-clause-found c in sym (checkpoint_some c.args.sector.now _ found.0 found.1)
