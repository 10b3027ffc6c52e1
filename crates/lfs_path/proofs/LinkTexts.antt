-- The text of a symbolic link, read block by block.
use Rattle.std.proofs.Common.{◌≡◌, ⊎_elim, ◌<◌, ◌≤◌, ◌+◌, ◌*◌, ◌-◌, ◌%◌, ℕ, List, length, take, get_or, refl, sym, ◌∙◌, ap, ap₂, arith}
use Rattle.std.specs.Prelude.{min}
use Rattle.std.proofs.lemmas.Bool.{cases_lt}
use Rattle.std.proofs.lemmas.List.{length-append, length-take, get_or_append_left, get_or-append_right, get_or-take}
use Rattle.lfs_model.specs.Device.{IsLawful}
use Rattle.lfs_model.specs.Objects.{byte_in}
use Rattle.lfs_model.specs.Stands.{LogMap}
use Rattle.lfs_model.proofs.ObjectBytes.{object_is}
use Rattle.lfs_files.specs.Files.{FilesState, Reads}
use Rattle.lfs_files.specs.Headers.{as_header}
use Rattle.lfs_files.proofs.FilesCompose.{reads_more}
use Rattle.lfs_path.specs.Following.{HasTaken, ReadsText, TakesBytes}
use Rattle.lfs_path.specs.declared.seen.Link.{Link}

-- ---- bytes
-- the bytes of a block come behind those of the blocks before it
module _ (m : LogMap) (n : ℕ) {index count : ℕ} (old new : List ℕ) (at : length old ≡ 512 * index) (few : count ≤ 512)
    (is : HasTaken m n index count old new) where
  cut_long : length (take count is.block) ≡ count
  cut_long = let cut = length-take count is.block in omega arith

  pub taken_long : length new ≡ 512 * index + count
  taken_long = let cut = cut_long in omega (arith, ap length is.text ∙ length-append old (take count is.block))

  pub taken_bytes : ((p : ℕ) → p < length old → byte_in m n p ≡ get_or old p 0) → (p : ℕ) → p < length new → byte_in m n p ≡ get_or new p 0
  taken_bytes each p low = ⊎_elim
      (λ (before : p < length old). cc (each p before, get_or_append_left old (take count is.block) 0 p before))
      (λ (behind : length old ≤ p).
      let j : p - length old < count = omega (arith, taken_long) in
      let place_is : p % 512 ≡ p - length old = omega arith in
      ap₂ (λ (i k : ℕ). get_or (m.block n i) k 0) (omega arith) place_is
      ∙ sym (is.holds.bytes (p - length old))
      ∙ sym (cc (
        get_or-append_right old (take count is.block) (length old) p 0 refl behind,
        get_or-take count is.block (p - length old) 0
            j,
      )))
      (cases_lt p (length old))

-- ---- blocks up to one of this index
pub record HasRead (m : LogMap) (n size index : ℕ) (text : List ℕ) : Type 0 where
  pub long : length text ≡ min (512 * index) size
  pub bytes : (p : ℕ) → p < length text → byte_in m n p ≡ get_or text p 0

module _ {S D : Type 0} (n size : ℕ) where
  pub record ReadTo (s s' : FilesState S D) (index : ℕ) (text : List ℕ) : Type 0 where
    pub reads : Reads s s'
    pub read : (m m' : LogMap) → s'.device.keeps_model → s.has m m' → HasRead m' n size index text

  module _ {s a b : FilesState S D} {index count : ℕ} {old new : List ℕ} (low : 512 * index < size)
      (is : count ≡ min (size - 512 * index) 512) (was : ReadTo s a index old) where
    pub read_goes_on : IsLawful s.device → Reads a b → TakesBytes a b n index count old new → ReadTo s b (index + 1) new
    read_goes_on lawful reads takes = record {
      reads = reads_more lawful was.reads reads;
      read = λ m m' keeps has.
          let before = was.read m m' (reads.looks.carries.kept_before keeps) has in
          let long = before.long in
          let at : length old ≡ 512 * index = omega (arith, long) in
          let few : count ≤ 512 = omega arith in
          let taken = takes m m' keeps (was.reads.has m m' has) in
          record { long = omega (arith, taken_long m' n old new at few taken); bytes = taken_bytes m' n old new at few taken before.bytes };
    }

module _ {S D : Type 0} where
  pub read_ends : {s s' : FilesState S D} (l : Link) {index : ℕ} {text : List ℕ} → l.header.size ≤ 512 * index
      → ReadTo l.number.value l.header.size s s' index text → ReadsText s s' l text
  read_ends l {text} past was m m' keeps has =
      let all = was.read m m' keeps has in
      let long = all.long in
      object_is m' l.number.value (as_header l.header) text (omega (arith, long))
      (λ p low. all.bytes p (omega (arith, long)))
  -- ---- the text that is left
