-- The last slot of a directory cut off, and written into another's place.
use Rattle.std.specs.Prelude.{set, slice_index}
use Rattle.std.proofs.Common.{◌≡◌, ◌<◌, ◌≤◌, ⊎_elim, ◌+◌, ◌*◌, ◌-◌, ◌/◌, ◌%◌, ℕ, zero, suc, List, [], ◌∷◌, ◌++◌, length, take, drop, get_or}
use Rattle.std.proofs.Common.{Some, refl, sym, ◌∙◌, ap, arith}
use Rattle.std.proofs.lemmas.Bool.{cases_eq, cases_lt}
use Rattle.std.proofs.lemmas.List.{append_assoc, drop_all, ext_get_or, get_or-take, length-take, set_past}
use Rattle.std.specs.List.{swap_remove}
use Rattle.lfs_model.specs.Objects.{CutsBytes, IsDirectory, WritesBytes, byte_in}
use Rattle.lfs_model.specs.Slot.{SlotValue, slot_in}
use Rattle.lfs_model.specs.Stands.{LogMap}
use Rattle.lfs_model.specs.Tree.{byte_cmp, slot_len, without}
use Rattle.lfs_model.specs.TreeOf.{map_of}
use Rattle.lfs_model.proofs.ObjectBytes.{cut_ends}
use Rattle.lfs_files.specs.declared.header.Header.{Header}
use Rattle.lfs_files.specs.Headers.{as_header}
use Rattle.lfs_files.specs.Files.{SizesFile, WritesFile}
use Rattle.lfs_dirs.specs.declared.searching.Found.{Found}
use Rattle.lfs_dirs.specs.Directory.{slot_count, slots_at}
use Rattle.lfs_dirs.specs.Searching.{IsSlotOf}
use Rattle.lfs_dirs.specs.Taking.{CutsSlot, TakesName, shrunk}
use Rattle.lfs_dirs.proofs.Widths.{byte_within, count_less, one_slot, slot_next, slot_some, slot_within, whole_less}
use Rattle.lfs_dirs.proofs.SlotPlaces.{slot_byte, slot_is, slot_long, slots_many}
use Rattle.lfs_dirs.proofs.SlotsApart.{AreApart, AreFormed, last_formed, last_taken, moved, moved_formed}
use Rattle.lfs_dirs.proofs.SlotsReplaced.{parts_at, parts_set, slots_set}

-- ---- bytes before a cut
cut_byte : (m m' : LogMap) (d : ℕ) {len : ℕ} (p : ℕ) (head head' : Header) → CutsBytes m m' d (as_header head) (as_header head') len
    → p < len
    → byte_in m' d p ≡ byte_in m d p
cut_byte m m' d {len} p head head' cuts low = ⊎_elim
    (λ (at : p / 512 ≡ len / 512).
    ap (λ (q : ℕ). slice_index (m'.block d q) (p % 512)) at ∙ cuts.last (p % 512) (omega arith)
    ∙ ap (λ (q : ℕ). slice_index (m.block d q) (p % 512)) (sym at))
    (λ (ne : p / 512 ≡ len / 512 → ⊥). cc (cuts.whole (p / 512) (omega arith)))
    (cases_eq (p / 512) (len / 512))

-- ---- slots that are left
slots_cut : (m m' : LogMap) (d : ℕ) (head : Header) → slot_len head.form ≤ head.size
    → CutsBytes m m' d (as_header head) (as_header (shrunk head)) (head.size - slot_len head.form)
    → slots_at m' d (shrunk head) ≡ take (length (slots_at m d head) - 1) (slots_at m d head)
slots_cut m m' d head some cuts =
    let many = slots_many m d head in
    let many' = slots_many m' d (shrunk head) in
    let less = count_less head.form head.size in
    ext_get_or [] (slots_at m' d (shrunk head)) (take (length (slots_at m d head) - 1) (slots_at m d head))
    (omega (arith, length-take (length (slots_at m d head) - 1) (slots_at m d head)))
    (λ j low.
    let within : j < (head.size - slot_len head.form) / slot_len head.form = omega arith in
    let inside : j < slot_count head = omega arith in
    slot_is m' d (shrunk head) j {s = get_or (slots_at m d head) j []} within (slot_long m d head j inside)
    (λ b small. slot_byte m d head j b inside small ∙ sym (cut_byte m m' d
    (slot_len head.form * j + b) head (shrunk head) cuts (byte_within head.form j b (head.size - slot_len head.form) within small)))
    ∙ sym (get_or-take (length (slots_at m d head) - 1) (slots_at m d head) j [] (omega arith)))

set_take : (a : List (List ℕ)) (k i : ℕ) (y : List ℕ) → set (take k a) i y ≡ take k (set a i y)
set_take [] zero i y = refl
set_take [] (suc k) i y = refl
set_take (x ∷ a) zero i y = refl
set_take (x ∷ a) (suc k) zero y = refl
set_take (x ∷ a) (suc k) (suc i) y = cc (set_take a k i y)

removed : (a : List (List ℕ)) (place : ℕ) → swap_remove a place [] ≡ set (take (length a - 1) a) place (get_or a (length a - 1) [])
removed a place = sym (set_take a (length a - 1) place (get_or a (length a - 1) []))

removed_last : (a : List (List ℕ)) (place : ℕ) → place + 1 ≡ length a → swap_remove a place [] ≡ take (length a - 1) a
removed_last a place last =
    removed a place ∙ set_past (take (length a - 1) a) place (get_or a (length a - 1) [])
    (omega (arith, length-take (length a - 1) a))

pub slots_dropped : (m m' : LogMap) (d : ℕ) (head : Header) (place : ℕ) → place + 1 ≡ slot_count head
    → CutsBytes m m' d (as_header head) (as_header (shrunk head)) (head.size - slot_len head.form)
    → slots_at m' d (shrunk head) ≡ swap_remove (slots_at m d head) place []
slots_dropped m m' d head place last cuts =
    slots_cut m m' d head (one_slot head.form place head.size (omega arith)) cuts
    ∙ sym (removed_last (slots_at m d head) place (omega (arith, slots_many m d head)))

pub slots_moved : (m : LogMap) {l : LogMap} (m' : LogMap) (d : ℕ) (head : Header) (place : ℕ) (slot : List ℕ) → place + 1 < slot_count head
    → length slot ≡ slot_len head.form → get_or (slots_at m d head) (length (slots_at m d head) - 1) [] ≡ slot
    → CutsBytes m l d (as_header head) (as_header (shrunk head)) (head.size - slot_len head.form)
    → WritesBytes l m' d (as_header (shrunk head)) (as_header (shrunk head)) (slot_len head.form * place) slot
    → slots_at m' d (shrunk head) ≡ swap_remove (slots_at m d head) place []
slots_moved m {l} m' d head place slot inside long last cuts writes =
    cc (
      slots_set l m' d (shrunk head) place (omega (arith, count_less head.form head.size)) long writes,
      slots_cut m l d head
          (one_slot head.form place head.size (omega arith)) cuts,
      removed (slots_at m d head) place,
    )

-- ---- the file
pub file_cut : {m m' : LogMap} (d : ℕ) {head : Header} → slot_len head.form ≤ head.size
    → SizesFile m m' d head (shrunk head) (head.size - slot_len head.form) → CutsSlot m m' d head
file_cut {m} {m'} d {head} some sizes = record {
  header = sizes.header;
  only = sizes.only;
  whole = sizes.whole;
  ends = cut_ends m m' d (as_header head) (as_header (shrunk head)) (head.size - slot_len head.form)
      (sizes.shorter (omega (arith, (slot_some head.form).0)));
}

pub file_moved : (m : LogMap) {l m' : LogMap} (d : ℕ) (head : Header) (place : ℕ) {slot : List ℕ} → place + 1 < slot_count head
    → length slot ≡ slot_len head.form → SizesFile m l d head (shrunk head) (head.size - slot_len head.form)
    → WritesFile l m' d (shrunk head) (shrunk head) (slot_len head.form * place) slot → CutsSlot m m' d head
file_moved m {l} d head place inside long sizes writes =
    let cut = file_cut d (one_slot head.form place head.size (omega arith)) sizes in
    record {
      header = writes.header;
      only = record {
        headers = λ k other. writes.only.headers k other ∙ cut.only.headers k other;
        blocks = λ k i other. writes.only.blocks k i other ∙ cut.only.blocks k i other;
        version = cc;
      };
      whole = λ was. writes.whole (cut.whole was);
      ends = λ p past. writes.bytes.bytes.behind p (omega
          (arith, slot_within head.form (place + 1) head.size inside, slot_next head.form place)) ∙ cut.ends p past;
    }

-- ---- the names
last_at : (a : List (List ℕ)) (j : ℕ) → j + 1 ≡ length a → a ≡ take j a ++ get_or a j [] ∷ []
last_at a j last = cc (parts_at a j (omega arith), drop_all (j + 1) a (omega arith))

module _ (form : ℕ) (a : List (List ℕ)) (place : ℕ) (s : SlotValue) (inside : place < length a)
    (is : slot_in form (get_or a place []) ≡ Some s) (distinct : AreApart form a) (formed : AreFormed form a) where
  pub record Removes : Type 0 where
    pub names : map_of form (swap_remove a place []) ≡ without byte_cmp s.name (map_of form a)
    pub apart : AreApart form (swap_remove a place [])
    pub formed_still : AreFormed form (swap_remove a place [])

  by_parts : {b c : List (List ℕ)} → swap_remove a place [] ≡ c → a ≡ b → (map_of form c ≡ without byte_cmp s.name (map_of form b))
      × AreApart form c → AreFormed form c → Removes
  by_parts at parts both each = record {
    names = ap (map_of form) at ∙ both.0 ∙ ap (λ (l : List (List ℕ)). without byte_cmp s.name (map_of form l)) (sym parts);
    apart = rw (← sym at) both.1;
    formed_still = rw (← sym at) each;
  }

  removes_last : place + 1 ≡ length a → Removes
  removes_last last =
      let parts = last_at a place last in
      by_parts (removed_last a place last ∙ ap (λ (k : ℕ). take k a) (omega arith)) parts
      (last_taken form (take place a) (get_or a place []) s is (rw (← parts) distinct))
      (last_formed form (take place a) (get_or a place []) (rw (← parts) formed))

  removes_other : place + 1 < length a → Removes
  removes_other other =
      let front = take (length a - 1) a in
      let y = get_or a (length a - 1) [] in
      let within : place < length front = omega (arith, length-take (length a - 1) a) in
      let x = get_or front place [] in
      let before = take place front in
      let behind = drop (place + 1) front in
      let same : x ≡ get_or a place [] = get_or-take (length a - 1) a place [] (omega arith) in
      let parts : a ≡ before ++ x ∷ (behind ++ y ∷ []) =
      cc (last_at a (length a - 1) (omega arith), parts_at front place within, append_assoc before (x ∷ behind) (y ∷ []))
      in
      by_parts (removed a place ∙ parts_set front place y within) parts
      (moved form before behind x y s (cc) (rw (← parts) distinct))
      (moved_formed form before behind x y (rw (← parts) formed))

  pub removes : Removes
  removes =
      ⊎_elim removes_other (λ (last : length a ≤ place + 1). removes_last (omega arith)) (cases_lt (place + 1) (length a))

pub takes_name : (m m' : LogMap) (d : ℕ) (head : Header) (name : List ℕ) (found : Found) → IsSlotOf head.form (slots_at m d head) name found
    → IsDirectory m d (as_header head)
    → slots_at m' d (shrunk head) ≡ swap_remove (slots_at m d head) found.place [] → TakesName m m' d head name
takes_name m m' d head name found is dir slots =
    let s : SlotValue = record { number = found.number.value; name = name } in
    let gone = removes head.form (slots_at m d head) found.place s is.inside is.slot dir.apart dir.formed in
    let whole = dir.whole in
    record {
      there = λ none. cc;
      directory = record {
        whole = whole_less head.form head.size whole;
        formed = rw slots gone.formed_still;
        apart = rw slots gone.apart;
      };
      names = cc;
    }
