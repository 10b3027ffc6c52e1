-- A slot written behind those of a directory.
use Rattle.std.specs.Prelude.{max}
use Rattle.std.proofs.Common.{◌≡◌, ◌<◌, ◌≤◌, ⊎_elim, ◌+◌, ◌*◌, ℕ, List, [], ◌∷◌, ◌++◌, length, get_or, None, sym, ◌∙◌}
use Rattle.std.proofs.Common.{arith}
use Rattle.std.proofs.lemmas.Bool.{cases_lt}
use Rattle.std.proofs.lemmas.List.{ext_get_or, get_or_append_left, get_or_push, length_push}
use Rattle.std.specs.FinMap.{find}
use Rattle.lfs_model.specs.Objects.{IsDirectory, WritesBytes}
use Rattle.lfs_model.specs.Slot.{FitsSlot, IsName, SlotValue}
use Rattle.lfs_model.specs.Stands.{LogMap}
use Rattle.lfs_model.specs.Tree.{byte_cmp, name_len, slot_len}
use Rattle.lfs_files.specs.declared.header.Header.{Header}
use Rattle.lfs_files.specs.Headers.{as_header}
use Rattle.lfs_files.specs.Files.{FilesState, Writes}
use Rattle.lfs_dirs.specs.Adding.{Adds, AddsName, SlotWritten, grown, slot_for}
use Rattle.lfs_dirs.specs.Directory.{names_at, slot_count, slots_at}
use Rattle.lfs_dirs.proofs.Widths.{byte_within, count_more, whole_more, whole_size}
use Rattle.lfs_dirs.proofs.SlotNames.{appended, appended_apart, appended_formed}
use Rattle.lfs_dirs.proofs.SlotPlaces.{slot_byte, slot_is, slot_long, slots_many}

-- ---- the slots
module _ (m m' : LogMap) (d : ℕ) (head : Header) {slot : List ℕ} (dir : IsDirectory m d (as_header head))
    (long : length slot ≡ slot_len head.form) (writes : WritesBytes m m' d (as_header head) (as_header (grown head)) head.size slot) where
  old_slot : (j : ℕ) → j < slot_count head → get_or (slots_at m' d (grown head)) j [] ≡ get_or (slots_at m d head) j []
  old_slot j low =
      slot_is m' d (grown head) j {s = get_or (slots_at m d head) j []}
      (omega (arith, count_more head.form head.size))
      (slot_long m d head j low)
      (λ b inside. slot_byte m d head j b low inside
      ∙ sym (writes.bytes.before (slot_len head.form * j + b) (byte_within head.form j b head.size low inside)))

  new_slot : get_or (slots_at m' d (grown head)) (slot_count head) [] ≡ slot
  new_slot =
      slot_is m' d (grown head) (slot_count head) (omega (arith, count_more head.form head.size)) long
      (λ b inside.
      let place : head.size + b ≡ slot_len head.form * (slot_count head) + b =
      (omega (arith, whole_size head.form head.size dir.whole)) in
      cc (writes.bytes.inside b (omega arith)))

  pub slots_grown : slots_at m' d (grown head) ≡ slots_at m d head ++ slot ∷ []
  slots_grown =
      let many = slots_many m d head in
      let more = slots_many m' d (grown head) in
      let one = count_more head.form head.size in
      ext_get_or [] (slots_at m' d (grown head)) (slots_at m d head ++ slot ∷ [])
      (omega (arith, length_push (slots_at m d head) slot))
      (λ j inside. ⊎_elim
      (λ (low : j < slot_count head). old_slot j low
      ∙ sym (get_or_append_left (slots_at m d head) (slot ∷ []) [] j (omega arith)))
      (λ (high : slot_count head ≤ j).
      let last : slot_count head ≡ j = omega arith in
      cc (new_slot, get_or_push (slots_at m d head) slot [] j (many ∙ last)))
      (cases_lt j (slot_count head)))

pub slot_written : SlotWritten
slot_written m m' d head slot dir long writes = slots_grown m m' d head dir long writes

-- ---- the names
pub adds_name : (m m' : LogMap) (d : ℕ) (head : Header) (n : ℕ) (name : List ℕ) → FitsSlot head.form record { number = n; name = name }
    → length (slot_for head.form n name) ≡ slot_len head.form → IsDirectory m d (as_header head)
    → find byte_cmp name (names_at m d head) ≡ None
    → WritesBytes m m' d (as_header head) (as_header (grown head)) head.size (slot_for head.form n name) → AddsName m m' d head n name
adds_name m m' d head n name fits long dir new writes = record {
  directory = record {
    whole = whole_more head.form head.size dir.whole;
    formed = rw grows (appended_formed head.form s fits (slots_at m d head) dir.formed);
    apart = rw grows (appended_apart head.form s fits (slots_at m d head) new dir.apart);
  };
  names = cc (grows, appended head.form s fits (slots_at m d head) new);
}
  where
    s : SlotValue
    s = record { number = n; name = name }

    grows : slots_at m' d (grown head) ≡ slots_at m d head ++ slot_for head.form n name ∷ []
    grows = slots_grown m m' d head dir long writes

pub fits_slot : (form n : ℕ) {name : List ℕ} → 1 ≤ n → n ≤ 4095 → IsName (name_len form) name
    → FitsSlot form record { number = n; name = name }
fits_slot form n {name} some few good = record { number = (some, few); name = good }

-- ---- the draft
module _ {S D : Type 0} (s s' : FilesState S D) {d : ℕ} {head : Header} (n : ℕ) (name : List ℕ) where
  pub adds : FitsSlot head.form record { number = n; name = name } → length (slot_for head.form n name) ≡ slot_len head.form
      → Writes s s' d head head.size (slot_for head.form n name) → Adds s s' d head n name
  adds fits long writes = record {
    writes = writes;
    has = λ m m' keeps has.
        let f = writes.file m m' keeps has in
        let file = rw size at f.file in
        record { map = f.map; has = f.has; file = file; more = λ dir new. adds_name m' f.map d head n name fits long dir new file.bytes };
  }
    where
      size : max head.size (head.size + length (slot_for head.form n name)) ≡ head.size + slot_len head.form
      size = omega arith
