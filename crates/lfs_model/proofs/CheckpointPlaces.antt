-- The checkpoint, place by place.
use Rattle.std.proofs.Common.{◌≡◌, ◌≤◌, ◌<◌, ◌*◌, ◌^◌, ◌==◌, Bool, true, false, cond, ℕ, ⊎_elim, List, [], ◌∷◌, length}
use Rattle.std.proofs.Common.{get_or, refl, sym, ap, subst, ◌∙◌, arith}
use Rattle.std.proofs.lemmas.Bool.{cases_Bool}
use Rattle.lfs_model.specs.Fields.{join, le32, le64, words, zeros, part, read32, read64, numbers}
use Rattle.lfs_model.specs.Checkpoint.{CheckpointValue, FitsCheckpoint, IsVersion, checkpoint_of, checkpoint_sector, checkpoint_sector_of}
use Rattle.lfs_model.specs.Checkpoint.{checkpoint_fields, checkpoint_text, layout_version, most_unit_power, shape_bytes, sum_of}
use Rattle.lfs_model.proofs.Numbers.{length-le32, length-le64, length-words, length-zeros}
use Rattle.lfs_model.proofs.Parts.{get_or-part, read32_is, read64_is}
use Rattle.lfs_model.proofs.Runs.{numbers_is}
use Rattle.lfs_model.proofs.Laid.{Field, Sized, Laid, fields_of, laid_from, laid_part, laid_to, length-fields}

-- all fields but the last
front : CheckpointValue → List Field
front c = (8, checkpoint_text) ∷ (8, le64 c.number) ∷ (4, le32 c.segments) ∷ (4, le32 (layout_version c))
    ∷ (8, shape_bytes (layout_version c) c.unit_power) ∷ (128, words c.map) ∷ (64, words c.usage) ∷ (284, zeros 284) ∷ []

abbrev body : CheckpointValue → List ℕ
body c = join (fields_of (front c))

fields : CheckpointValue → List Field
fields c = (8, checkpoint_text) ∷ (8, le64 c.number) ∷ (4, le32 c.segments) ∷ (4, le32 (layout_version c))
    ∷ (8, shape_bytes (layout_version c) c.unit_power) ∷ (128, words c.map) ∷ (64, words c.usage) ∷ (284, zeros 284)
    ∷ (4, le32 (sum_of (layout_version c) (body c))) ∷ []

-- what stands at each place of the sector
pub record ReadsAs (s : List ℕ) (c : CheckpointValue) : Type 0 where
  pub text : part 0 8 s ≡ checkpoint_text
  pub number : part 8 8 s ≡ le64 c.number
  pub segments : part 16 4 s ≡ le32 c.segments
  pub version : part 20 4 s ≡ le32 (layout_version c)
  pub shape : part 24 8 s ≡ shape_bytes (layout_version c) c.unit_power
  pub map : part 32 128 s ≡ words c.map
  pub usage : part 160 64 s ≡ words c.usage
  pub rest : part 224 284 s ≡ zeros 284
  pub sum : part 508 4 s ≡ le32 (sum_of (layout_version c) (part 0 508 s))

length-text : length checkpoint_text ≡ 8
unfolding checkpoint_text
length-text = refl

length-shape : (version power : ℕ) → length (shape_bytes version power) ≡ 8
unfolding zeros
length-shape version power = ⊎_elim
    (λ (last : (version == 3) ≡ true). ap (λ (b : Bool). length (cond b (power ∷ 6 ∷ 9 ∷ zeros 5) (zeros 8))) last)
    (λ (other : (version == 3) ≡ false). ap (λ (b : Bool). length (cond b (power ∷ 6 ∷ 9 ∷ zeros 5) (zeros 8))) other)
    (cases_Bool (version == 3))

-- they tell the unit
unit_told : (version power : ℕ) → power ≤ most_unit_power version → get_or (shape_bytes version power) 0 0 ≡ power
unfolding zeros
unit_told version power most = ⊎_elim
    (λ (last : (version == 3) ≡ true). ap (λ (b : Bool). get_or (cond b (power ∷ 6 ∷ 9 ∷ zeros 5) (zeros 8)) 0 0) last)
    (λ (other : (version == 3) ≡ false).
    let none : power ≤ 0 = subst (λ (b : Bool). power ≤ cond b 6 0) other most in
    ap (λ (b : Bool). get_or (cond b (power ∷ 6 ∷ 9 ∷ zeros 5) (zeros 8)) 0 0) other ∙ omega (arith, none))
    (cases_Bool (version == 3))

sized : (c : CheckpointValue) → FitsCheckpoint c → Sized (fields c)
unfolding fields
sized c fits =
    let map : length (words c.map) ≡ 128 = length-words c.map ∙ ap (λ (n : ℕ). 4 * n) fits.map_length in
    let usage : length (words c.usage) ≡ 64 = length-words c.usage ∙ ap (λ (n : ℕ). 4 * n) fits.usage_length in
    let version = layout_version c in (
      length-text,
      (
        length-le64 c.number,
        (
          length-le32 c.segments,
          (
            length-le32 version,
            (
              length-shape version c.unit_power,
              (
                map,
                (
                  usage,
                  (
                    length-zeros 284,
                    (length-le32 (sum_of version (body c)), tt),
                  ),
                ),
              ),
            ),
          ),
        ),
      ),
    )

pub length-checkpoint : (c : CheckpointValue) → FitsCheckpoint c → length (checkpoint_sector c) ≡ 512
unfolding front fields checkpoint_sector checkpoint_sector_of checkpoint_fields
length-checkpoint c fits = length-fields (fields c) (sized c fits)

pub reads_from : {s : List ℕ} (c : CheckpointValue) → FitsCheckpoint c → s ≡ checkpoint_sector c → ReadsAs s c
unfolding front fields checkpoint_sector checkpoint_sector_of checkpoint_fields
reads_from {s} c fits e =
    let l : Laid s 0 (fields c) = laid_from s 0 (fields c) (sized c fits) e in
    let before : Laid s 0 (front c) =
    (l.0, (l.1.0, (l.1.1.0, (l.1.1.1.0, (l.1.1.1.1.0, (l.1.1.1.1.1.0, (l.1.1.1.1.1.1.0, (l.1.1.1.1.1.1.1.0, tt)))))))) in
    record {
      text = l.0;
      number = l.1.0;
      segments = l.1.1.0;
      version = l.1.1.1.0;
      shape = l.1.1.1.1.0;
      map = l.1.1.1.1.1.0;
      usage = l.1.1.1.1.1.1.0;
      rest = l.1.1.1.1.1.1.1.0;
      sum = l.1.1.1.1.1.1.1.1.0 ∙ ap (λ (b : List ℕ). le32 (sum_of (layout_version c) b)) (sym (laid_part s 0 (front c) before));
    }

pub reads_to : (s : List ℕ) (c : CheckpointValue) → length s ≡ 512 → ReadsAs s c → s ≡ checkpoint_sector c
unfolding front fields checkpoint_sector checkpoint_sector_of checkpoint_fields
reads_to s c long r =
    let before : Laid s 0 (front c) =
    (r.text, (r.number, (r.segments, (r.version, (r.shape, (r.map, (r.usage, (r.rest, tt)))))))) in
    let sum = r.sum ∙ ap (λ (b : List ℕ). le32 (sum_of (layout_version c) b)) (laid_part s 0 (front c) before) in
    laid_to s 0 (fields c) (sym long)
    (r.text, (r.number, (r.segments, (r.version, (r.shape, (r.map, (r.usage, (r.rest, (sum, tt)))))))))

abbrev built : ℕ → ℕ → ℕ → ℕ → List ℕ → List ℕ → CheckpointValue
built n s v p m u = record { number = n; segments = s; version = v; unit_power = p; map = m; usage = u }

pub version_small : (v : ℕ) → IsVersion v → v < 2 ^ 32
version_small v is = omega (arith, is.1)

-- a checkpoint's sector tells its unit
pub unit_at : {s : List ℕ} (c : CheckpointValue) → FitsCheckpoint c → s ≡ checkpoint_sector c → get_or s 24 0 ≡ c.unit_power
unit_at {s} c fits is =
    sym (get_or-part 24 8 s 0 (omega arith)) ∙ ap (λ (b : List ℕ). get_or b 0 0) (reads_from c fits is).shape
    ∙ unit_told c.version c.unit_power fits.unit

-- the places of a checkpoint's sector hold the checkpoint
pub checkpoint_back : (c : CheckpointValue) → FitsCheckpoint c → checkpoint_of (checkpoint_sector c) ≡ c
checkpoint_back c p =
    let s = checkpoint_sector c in
    let r = reads_from {s = s} c p refl in
    let long : length s ≡ 512 = length-checkpoint c p in
    let most : c.segments ≤ 1024 = p.segments.most in
    let number : read64 8 s ≡ c.number = read64_is 8 s c.number p.number_fits r.number in
    let segments : read32 16 s ≡ c.segments = read32_is 16 s c.segments (omega arith) r.segments in
    let version : read32 20 s ≡ c.version = read32_is 20 s c.version (version_small c.version p.version) r.version in
    let power : get_or s 24 0 ≡ c.unit_power = unit_at c p refl in
    let map : numbers 32 32 s ≡ c.map = numbers_is 32 32 s c.map p.map_length p.map_fits (omega arith) r.map in
    let usage : numbers 16 160 s ≡ c.usage = numbers_is 16 160 s c.usage p.usage_length p.usage_fits (omega arith) r.usage in
    ap (λ (n : ℕ). built n (read32 16 s) (read32 20 s) (get_or s 24 0) (numbers 32 32 s) (numbers 16 160 s)) number
    ∙ ap (λ (n : ℕ). built c.number n (read32 20 s) (get_or s 24 0) (numbers 32 32 s) (numbers 16 160 s)) segments
    ∙ ap (λ (n : ℕ). built c.number c.segments n (get_or s 24 0) (numbers 32 32 s) (numbers 16 160 s)) version
    ∙ ap (λ (n : ℕ). built c.number c.segments c.version n (numbers 32 32 s) (numbers 16 160 s)) power
    ∙ ap (λ (m : List ℕ). built c.number c.segments c.version c.unit_power m (numbers 16 160 s)) map
    ∙ ap (λ (m : List ℕ). built c.number c.segments c.version c.unit_power c.map m) usage

-- two checkpoints of one sector are one
pub one_checkpoint : (c d : CheckpointValue) → FitsCheckpoint c → FitsCheckpoint d → checkpoint_sector c ≡ checkpoint_sector d → c ≡ d
one_checkpoint c d p q e = sym (checkpoint_back c p) ∙ ap (λ (s : List ℕ). checkpoint_of s) e ∙ checkpoint_back d q
