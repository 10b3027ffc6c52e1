-- A slot of a directory written anew.
use Rattle.std.specs.Prelude.{max, set}
use Rattle.std.proofs.Common.{◌≡◌, ◌≢◌, ◌<◌, ◌≤◌, ⊎_elim, ◌+◌, ◌*◌, ℕ, suc, List, [], ◌∷◌, ◌++◌, length, take, drop, get_or, Some, None}
use Rattle.std.proofs.Common.{refl, sym, ◌∙◌, ap, arith}
use Rattle.std.proofs.lemmas.Bool.{cases_eq, cases_lt}
use Rattle.std.proofs.lemmas.List.{drop_more, ext_get_or, get_or-set_same, get_or-set_other, length-set, set_split, take-append-drop}
use Rattle.lfs_model.specs.Objects.{IsDirectory, WritesBytes, byte_in}
use Rattle.lfs_model.specs.Slot.{FitsSlot, SlotValue, slot_in}
use Rattle.lfs_model.specs.Stands.{LogMap}
use Rattle.lfs_model.specs.Tree.{slot_len}
use Rattle.lfs_model.proofs.Decoding.{slot_some}
use Rattle.lfs_files.specs.declared.header.Header.{Header}
use Rattle.lfs_files.specs.Headers.{as_header}
use Rattle.lfs_files.specs.Files.{Counts, FilesState, IsFault, Reads, Redrafts, Writes}
use Rattle.lfs_files.proofs.FilesCompose.{writes_behind}
use Rattle.lfs_dirs.specs.declared.searching.Found.{Found}
use Rattle.lfs_dirs.specs.Adding.{slot_for}
use Rattle.lfs_dirs.specs.Directory.{slot_count, slots_at}
use Rattle.lfs_dirs.specs.Finding.{IsDirectoryFault}
use Rattle.lfs_dirs.specs.Repointing.{Repoints, RepointsName}
use Rattle.lfs_dirs.specs.Searching.{FindsName, IsSlotOf}
use Rattle.lfs_dirs.proofs.Widths.{before_slot, behind_slot, slot_within}
use Rattle.lfs_dirs.proofs.SlotPlaces.{slot_byte, slot_is, slot_long, slots_many}
use Rattle.lfs_dirs.proofs.SlotsApart.{AreApart, replaced, replaced_apart, replaced_formed}

-- ---- lists
-- the list about one of its elements
pub parts_at : (a : List (List ℕ)) (j : ℕ) → j < length a → a ≡ take j a ++ get_or a j [] ∷ drop (j + 1) a
parts_at a j inside = cc (take-append-drop j a, drop_more a j [] inside)

pub parts_set : (a : List (List ℕ)) (j : ℕ) (y : List ℕ) → j < length a → set a j y ≡ take j a ++ y ∷ drop (j + 1) a
parts_set a j y inside = let next : suc j ≡ j + 1 = omega arith in cc (set_split a j y inside)

-- ---- the slots
module _ (m m' : LogMap) (d : ℕ) (head : Header) (place : ℕ) {slot : List ℕ} (inside : place < slot_count head) (long : length slot
    ≡ slot_len head.form) (writes : WritesBytes m m' d (as_header head) (as_header head) (slot_len head.form * place) slot) where
  apart_bytes : (j b : ℕ) → j ≢ place → b < slot_len head.form
      → byte_in m' d (slot_len head.form * j + b) ≡ byte_in m d (slot_len head.form * j + b)
  apart_bytes j b other low = ⊎_elim
      (λ (before : j < place). writes.bytes.before (slot_len head.form * j + b) (before_slot head.form j place b before low))
      (λ (le : place ≤ j). writes.bytes.behind (slot_len head.form * j + b)
      (omega (arith, behind_slot head.form j place (omega (arith, le, other)))))
      (cases_lt j place)

  pub slots_set : slots_at m' d head ≡ set (slots_at m d head) place slot
  slots_set =
      let many = slots_many m d head in
      let many' = slots_many m' d head in
      ext_get_or [] (slots_at m' d head) (set (slots_at m d head) place slot)
      (omega (arith, length-set (slots_at m d head) place slot))
      (λ j low.
      let within : j < slot_count head = omega arith in
      ⊎_elim
      (λ (here : j ≡ place).
      cc (
        slot_is m' d head j {s = slot} within long
            (λ b small. sym (writes.bytes.inside b (omega arith)) ∙ ap (λ (k : ℕ). byte_in m' d (slot_len head.form * k + b)) (sym here)),
        get_or-set_same (slots_at m d head) place slot [] (omega arith),
      ))
      (λ (other : j ≢ place).
      slot_is m' d head j {s = get_or (slots_at m d head) j []} within (slot_long m d head j within)
      (λ b small. slot_byte m d head j b within small ∙ sym (apart_bytes j b other small))
      ∙ sym (get_or-set_other (slots_at m d head) place j slot [] other))
      (cases_eq j place))

-- ---- the names
abbrev slot_value : ℕ → List ℕ → SlotValue
slot_value n name = record { number = n; name = name }

module _ (m m' : LogMap) (d : ℕ) (head : Header) (n : ℕ) (name : List ℕ) (fits : FitsSlot head.form record { number = n; name = name })
    (long : length (slot_for head.form n name) ≡ slot_len head.form) (found : Found)
    (is : IsSlotOf head.form (slots_at m d head) name found) (dir : IsDirectory m d (as_header head))
    (writes : WritesBytes m m' d (as_header head) (as_header head) (slot_len head.form * found.place) (slot_for head.form n name)) where
  abbrev old : List (List ℕ)
  old = slots_at m d head

  abbrev before : List (List ℕ)
  before = take found.place old

  abbrev behind : List (List ℕ)
  behind = drop (found.place + 1) old

  was : old ≡ before ++ get_or old found.place [] ∷ behind
  was = parts_at old found.place is.inside

  now : slots_at m' d head ≡ before ++ slot_for head.form n name ∷ behind
  now = slots_set m m' d head found.place (omega (arith, slots_many m d head)) long writes
      ∙ parts_set old found.place (slot_for head.form n name) is.inside

  spelt : slot_in head.form (slot_for head.form n name) ≡ Some record { number = n; name = name }
  spelt = slot_some head.form (slot_for head.form n name) fits refl

  is_slot : slot_in head.form (slot_for head.form n name) ≢ None
  is_slot none = cc spelt

  were_apart : AreApart head.form (before ++ get_or old found.place [] ∷ behind)
  were_apart = rw (← was) dir.apart

  pub repoints_name : RepointsName m m' d head n name
  repoints_name = record {
    there = λ none. cc;
    directory = record {
      whole = dir.whole;
      formed = rw now (replaced_formed head.form before behind (get_or old found.place [])
          (slot_for head.form n name) is_slot (rw (← was) dir.formed));
      apart = rw now (replaced_apart head.form before behind (get_or old found.place [])
          is.slot were_apart (slot_for head.form n name) spelt refl);
    };
    names =
        cc (
          now,
          replaced head.form before behind (get_or old found.place []) is.slot were_apart (slot_for head.form n name) spelt refl,
          was,
        );
  }

-- ---- the draft
module _ {S D : Type 0} {s a s' : FilesState S D} {d : ℕ} {head : Header} {n : ℕ} {name : List ℕ} (found : Found) where
  pub repoints : FitsSlot head.form record { number = n; name = name } → length (slot_for head.form n name) ≡ slot_len head.form
      → found.place < slot_count head → Reads s a → Redrafts a s'
      → FindsName s a d head name found → Writes a s' d head (slot_len head.form * found.place) (slot_for head.form n name)
      → Repoints s s' d head n name
  repoints fits long inside reads more finds writes = record {
    place = found.place;
    writes = writes_behind s a d reads writes;
    has = λ m m' keeps has.
        let f = writes.file m m' keeps (reads.has m m' has) in
        let file = rw size at f.file in
        record {
          map = f.map;
          has = f.has;
          file = file;
          names = λ dir. repoints_name m' f.map d head n name fits long found (finds m m' (more.looks.carries.kept_before keeps) has dir)
              dir file.bytes;
        };
  }
    where
      size : max head.size (slot_len head.form * found.place + length (slot_for head.form n name)) ≡ head.size
      size = omega (arith, slot_within head.form found.place head.size inside)

-- what fails after the search
pub fails_behind : {S D : Type 0} {s a : FilesState S D} (s' : FilesState S D) (d : ℕ) (head : Header) → Reads s a → IsFault a s'
    → IsDirectoryFault s s' d head
fails_behind s' d head reads failed m m' keeps has dir =
    omega (arith, failed m m' keeps (reads.has m m' has))

-- the totals of what is written behind the search are those behind none
pub counts_searched : {S D : Type 0} {s a : FilesState S D} (s' : FilesState S D) → Reads s a → Counts a s' → Counts s s'
counts_searched s' reads counts m x y keeps has has' map map' are =
    counts m x y keeps (reads.has m x has) has' map map' (rw reads.drafted are)
