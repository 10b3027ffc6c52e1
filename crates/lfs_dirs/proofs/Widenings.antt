-- A directory's slots in form 1.
use Rattle.std.specs.Prelude.{min}
use Rattle.std.proofs.Common.{◌≡◌, ◌≢◌, ◌<◌, ◌≤◌, ◌+◌, ◌*◌, ◌-◌, ◌/◌, ◌%◌, ℕ, zero, suc, List, [], ◌∷◌, ◌++◌, length, map, take, drop}
use Rattle.std.proofs.Common.{get_or, Option, Some, None, refl, sym, ◌∙◌, ap, arith}
use Rattle.std.proofs.lemmas.Grind.{flat_map-append}
use Rattle.std.proofs.lemmas.List.{append_assoc, append-nil, drop_all, ext_get_or, get_or_append_left, get_or-append-add, get_or-map}
use Rattle.std.proofs.lemmas.List.{length-append, length-map}
use Rattle.lfs_model.specs.Device.{IsLawful}
use Rattle.lfs_model.specs.Fields.{part}
use Rattle.lfs_model.specs.Objects.{IsDirectory, byte_in}
use Rattle.lfs_model.specs.Slot.{FitsSlot, IsName, SlotValue, slot_bytes, slot_in}
use Rattle.lfs_model.specs.Stands.{LogMap}
use Rattle.lfs_model.specs.Tree.{name_len, slot_len}
use Rattle.lfs_model.specs.TreeOf.{map_of}
use Rattle.lfs_model.proofs.Decoding.{slot_found, slot_some}
use Rattle.lfs_model.proofs.SlotPlaces.{length-slot}
use Rattle.lfs_files.specs.declared.header.Header.{Header}
use Rattle.lfs_files.specs.Headers.{as_header}
use Rattle.lfs_files.specs.Files.{FilesState, Reads, TellsBlock}
use Rattle.lfs_files.proofs.FilesCompose.{reads_more, reads_none}
use Rattle.lfs_dirs.specs.Directory.{first_slots, per_block, slot_count, slots_at, slots_in}
use Rattle.lfs_dirs.specs.Finding.{IsBlockFault, IsDirectoryFault}
use Rattle.lfs_dirs.specs.Listing.{AreSlots}
use Rattle.lfs_dirs.specs.Widening.{AppendsWide, TellsWide, WidensBlock, WidensNames, wide, wide_bytes, wide_slot, wide_slot_of}
use Rattle.lfs_dirs.proofs.Scans.{next_slot, no_slots}
use Rattle.lfs_dirs.proofs.Searches.{block_and_rest, first_slots_are}
use Rattle.lfs_dirs.proofs.SlotPlaces.{slot_is, slots_many}
use Rattle.lfs_dirs.proofs.Widths.{next_block}

-- ---- one slot
-- a name of a directory of any form is one of a directory of form 1
longer : (form : ℕ) {name : List ℕ} → IsName (name_len form) name → IsName (name_len 1) name
longer form {name} is = record { long = is.long; short = at_most form is.short; bytes = is.bytes; dot = is.dot; dotdot = is.dotdot }
  where
    at_most : (form : ℕ) → length name ≤ name_len form → length name ≤ name_len 1
    at_most zero short = omega arith
    at_most (suc form) short = short

pub fits_wide : {form : ℕ} (s : SlotValue) → FitsSlot form s → FitsSlot 1 s
fits_wide {form} s fits = record { number = fits.number; name = longer form fits.name }

module _ (form : ℕ) where
  -- a slot says in form 1 what it said
  says_by : (o : Option SlotValue) (x : List ℕ) → slot_in form x ≡ o → o ≢ None → slot_in 1 (wide_slot_of o) ≡ o
  says_by None x is some = absurd (some refl)
  says_by (Some s) x is some = slot_some 1 (slot_bytes 1 s) (fits_wide s (slot_found form x s is).0) refl

  says : (x : List ℕ) → slot_in form x ≢ None → slot_in 1 (wide_slot form x) ≡ slot_in form x
  says x some = says_by (slot_in form x) x refl some

  long_by : (o : Option SlotValue) (x : List ℕ) → slot_in form x ≡ o → o ≢ None → length (wide_slot_of o) ≡ slot_len 1
  long_by None x is some = absurd (some refl)
  long_by (Some s) x is some = length-slot 1 (fits_wide s (slot_found form x s is).0)

  pub wide_long : (x : List ℕ) → slot_in form x ≢ None → length (wide_slot form x) ≡ slot_len 1
  wide_long x some = long_by (slot_in form x) x refl some

  -- ---- slots
  abbrev wide_slots : List (List ℕ) → List (List ℕ)
  wide_slots a = map (wide_slot form) a

  wide_formed : (a : List (List ℕ)) → AreSlots form a → AreSlots 1 (wide_slots a)
  wide_formed [] formed = tt
  wide_formed (x ∷ a) formed = (λ none. formed.0 (sym (says x formed.0) ∙ none), wide_formed a formed.1)

  wide_names : (a : List (List ℕ)) → AreSlots form a → map_of 1 (wide_slots a) ≡ map_of form a
  wide_names [] formed = refl
  wide_names (x ∷ a) formed = cc (says x formed.0, wide_names a formed.1)

  bytes_many : (a : List (List ℕ)) → AreSlots form a → length (wide_bytes form a) ≡ slot_len 1 * length a
  bytes_many [] formed = refl
  bytes_many (x ∷ a) formed =
      let rest = bytes_many a formed.1 in
      omega (arith, length-append (wide_slot form x) (wide_bytes form a), wide_long x formed.0)

  -- a byte of one of them
  wide_byte : (a : List (List ℕ)) (j b : ℕ) → AreSlots form a → j < length a → b < slot_len 1
      → get_or (wide_bytes form a) (slot_len 1 * j + b) 0 ≡ get_or (wide_slot form (get_or a j [])) b 0
  wide_byte [] j b formed low inside = absurd (omega arith)
  wide_byte (x ∷ a) zero b formed low inside = let place : slot_len 1 * 0 + b ≡ b = omega arith in
      cc (get_or_append_left (wide_slot form x) (wide_bytes form a) 0 b (omega (arith, wide_long x formed.0)))
  wide_byte (x ∷ a) (suc j) b formed low inside =
      ap (λ (p : ℕ). get_or (wide_slot form x ++ wide_bytes form a) p 0) (omega (arith, wide_long x formed.0))
      ∙ get_or-append-add (wide_slot form x) (wide_bytes form a) (slot_len 1 * j + b) 0
      ∙ wide_byte a j b formed.1 (omega arith) inside

-- ---- the directory
pub few_slots : (form size : ℕ) → size ≤ 1024 * slot_len form → size / slot_len form ≤ 1024
few_slots zero size few = omega arith
few_slots (suc form) size few = omega arith

count_wide : (n : ℕ) → slot_len 1 * n / slot_len 1 ≡ n
count_wide n = omega arith

whole_wide : (n : ℕ) → slot_len 1 * n % slot_len 1 ≡ 0
whole_wide n = omega arith

get_slot : (a : List (List ℕ)) (form j : ℕ) → j < length a → get_or (map (wide_slot form) a) j [] ≡ wide_slot form (get_or a j [])
get_slot a form j low = get_or-map (wide_slot form) a j [] [] low

module _ (m m' : LogMap) (d : ℕ) (head : Header) {bytes : List ℕ} (is : AppendsWide head.form (slots_at m d head) [] bytes)
    (each : (p : ℕ) → p < length bytes → byte_in m' d p ≡ get_or bytes p 0) where
  slots_wide : slots_at m' d (wide head) ≡ map (wide_slot head.form) (slots_at m d head)
  slots_wide =
      let many = slots_many m d head in
      let many' = slots_many m' d (wide head) in
      let formed = is.formed in
      let all : length bytes ≡ slot_len 1 * slot_count head = cc (bytes_many head.form (slots_at m d head) formed) in
      ext_get_or [] (slots_at m' d (wide head)) (map (wide_slot head.form) (slots_at m d head))
      (omega (arith, length-map (slots_at m d head) (wide_slot head.form)))
      (λ j low.
      let within : j < slot_count head = omega arith in
      let here : j < length (slots_at m d head) = omega arith in
      slot_is m' d (wide head) j (omega arith) (ap length (get_slot (slots_at m d head) head.form j here)
      ∙ wide_long head.form (get_or (slots_at m d head) j []) (at_slot (slots_at m d head) j formed here))
      (λ b small.
      cc (
        get_slot (slots_at m d head) head.form j here,
        wide_byte head.form (slots_at m d head) j b formed here small,
        each
            (slot_len 1 * j + b) (omega (arith, all)),
      )))
    where
      at_slot : (a : List (List ℕ)) (j : ℕ) → AreSlots head.form a → j < length a → slot_in head.form (get_or a j []) ≢ None
      at_slot [] j formed low = absurd (omega arith)
      at_slot (x ∷ a) zero formed low = formed.0
      at_slot (x ∷ a) (suc j) formed low = at_slot a j formed.1 (omega arith)

  pub names_wide : IsDirectory m d (as_header head) → WidensNames m m' d head
  names_wide dir = record {
    directory = record {
      whole = whole_wide (slot_count head);
      formed = rw slots_wide (wide_formed head.form (slots_at m d head) is.formed);
      apart =
          cc (slots_wide, wide_names head.form (slots_at m d head) is.formed, length-map (slots_at m d head) (wide_slot head.form));
    };
    names = cc (slots_wide, wide_names head.form (slots_at m d head) is.formed);
  }

-- ---- slots of a block
module _ (form : ℕ) (block : List ℕ) (count : ℕ) where
  -- the slots before this place stand behind the bytes
  pub record WideTo (old : List ℕ) (place : ℕ) (now : List ℕ) : Type 0 where
    pub bytes : now ++ wide_bytes form (slots_in form block place (count - place)) ≡ old ++ wide_bytes form (first_slots form block count)
    pub formed : AreSlots form (slots_in form block place (count - place)) → AreSlots form (first_slots form block count)

  pub wide_begins : (old : List ℕ) → WideTo old 0 old
  wide_begins old =
      let all : count - 0 ≡ count = omega arith in
      record {
        bytes = cc all;
        formed = λ is. rw (← all) is;
      }

  pub wide_goes_on : {old now : List ℕ} (next : List ℕ) {slot : List ℕ} {place : ℕ} → place < count
      → slot ≡ part (slot_len form * place) (slot_len form) block
      → WideTo old place now → next ≡ now ++ wide_slot form slot → slot_in form slot ≢ None → WideTo old (place + 1) next
  wide_goes_on {now} next {slot} {place} low own was more formed =
      let rest : List (List ℕ) = slots_in form block (place + 1) (count - (place + 1)) in
      let split : slots_in form block place (count - place) ≡ slot ∷ rest = cc (next_slot form block place count low) in
      record {
        bytes =
            cc (append_assoc now (wide_slot form slot) (wide_bytes form rest));
        formed = λ behind. was.formed (rw split (formed, behind));
      }

  pub wide_ends : {old now : List ℕ} {place : ℕ} → count ≤ place → WideTo old place now
      → AppendsWide form (first_slots form block count) old now
  wide_ends {now} {place} past was =
      let none = no_slots form block place count past in
      record {
        bytes = cc (append-nil now);
        formed = was.formed (rw none tt);
      }

module _ {S D : Type 0} (s s' : FilesState S D) {form d index count : ℕ} (few : count ≤ per_block form) {block : List ℕ}
    (told : TellsBlock s s' d index block) where
  pub block_widened : {old new : List ℕ} → AppendsWide form (first_slots form block count) old new
      → WidensBlock s s' form d index count old new
  block_widened is m m' keeps has head same room = rw (first_slots_are m' d head (told m m' keeps has) few room same) is

-- ---- the blocks before one of this index
module _ {S D : Type 0} (d : ℕ) (head : Header) where
  pub record WidenedTo (s s' : FilesState S D) (index : ℕ) (bytes : List ℕ) : Type 0 where
    pub reads : Reads s s'
    pub long : length bytes ≡ slot_len 1 * min (slot_count head) (per_block head.form * index)
    pub all : (m m' : LogMap) → s'.device.keeps_model → s.has m m' → bytes
        ++ wide_bytes head.form (drop (per_block head.form * index) (slots_at m' d head)) ≡ wide_bytes head.form (slots_at m' d head)
    pub formed : (m m' : LogMap) → s'.device.keeps_model → s.has m m'
        → AreSlots head.form (drop (per_block head.form * index) (slots_at m' d head)) → AreSlots head.form (slots_at m' d head)

  pub widening_begins : {s : FilesState S D} {bytes : List ℕ} → bytes ≡ [] → WidenedTo s s 0 bytes
  widening_begins {s} none =
      let first : per_block head.form * 0 ≡ 0 = omega arith in
      record {
        reads = reads_none s;
        long = ap length none ∙ sym (ap (λ (k : ℕ). slot_len 1 * min (slot_count head) k) first ∙ omega arith);
        all = λ m m' keeps has. cc;
        formed = λ m m' keeps has is. rw first at is;
      }

  module _ {s a : FilesState S D} (b : FilesState S D) {index : ℕ} (count : ℕ) {old : List ℕ}
      (is : count ≡ min (slot_count head - per_block head.form * index)
      (per_block head.form)) (low : per_block head.form * index < slot_count head) (was : WidenedTo s a index old) where
    pub widening_goes_on : {new : List ℕ} → IsLawful s.device → Reads a b → length new ≡ length old + slot_len 1 * count
        → WidensBlock a b head.form d index count old new → WidenedTo s b (index + 1) new
    widening_goes_on lawful reads long more = record {
      reads = reads_more lawful was.reads reads;
      long = (omega (arith, long, next_block head.form index));
      all = λ m m' keeps has.
          let slots = slots_at m' d head in
          let some : List (List ℕ) = take count (drop (per_block head.form * index) slots) in
          let rest : List (List ℕ) = drop (per_block head.form * (index + 1)) slots in
          cc (
            (more m m' keeps (was.reads.has m m' has) head refl (omega arith)).bytes,
            append_assoc old (wide_bytes head.form some)
                (wide_bytes head.form rest),
            flat_map-append (wide_slot head.form) some rest,
            block_and_rest head.form slots index
                (slots_many m' d head) is,
            was.all m m' (reads.looks.carries.kept_before keeps) has,
          );
      formed = λ m m' keeps has behind.
          let slots = slots_at m' d head in
          was.formed m m' (reads.looks.carries.kept_before keeps) has
          (rw (block_and_rest head.form slots index (slots_many m' d head) is) (both (take count (drop (per_block head.form * index) slots))
          (drop (per_block head.form * (index + 1)) slots)
          (more m m' keeps (was.reads.has m m' has) head refl (omega arith)).formed behind));
    }
      where
        both : (x y : List (List ℕ)) → AreSlots head.form x → AreSlots head.form y → AreSlots head.form (x ++ y)
        both [] y first second = second
        both (z ∷ x) y first second = (first.0, both x y first.1 second)

    pub widening_fails : IsBlockFault a b head.form d index count → IsDirectoryFault s b d head
    widening_fails failed m m' keeps has dir =
        omega (arith, failed m m' keeps (was.reads.has m m' has) head refl (omega (arith, is, low)) dir)

  pub widening_ends : {s a : FilesState S D} {index : ℕ} {bytes : List ℕ} → slot_count head ≤ per_block head.form * index
      → WidenedTo s a index bytes → TellsWide s a d head bytes
  widening_ends {index} {bytes} past was m m' keeps has =
      let none = drop_all (per_block head.form * index) (slots_at m' d head) (omega (arith, slots_many m' d head)) in
      record {
        bytes = cc (append-nil bytes, was.all m m' keeps has);
        formed = was.formed m m' keeps has (rw none tt);
      }

  pub widening_long : {s a : FilesState S D} {index : ℕ} {bytes : List ℕ} → slot_count head ≤ per_block head.form * index
      → WidenedTo s a index bytes → length bytes ≡ slot_len 1 * slot_count head
  widening_long past was = omega arith

  pub widening_few : {s a : FilesState S D} {index : ℕ} {bytes : List ℕ} → head.size ≤ 1024 * slot_len head.form
      → slot_count head ≤ per_block head.form * index → WidenedTo s a index bytes → length bytes ≤ 1024 * slot_len 1
  widening_few {s} {a} {index} {bytes} few past was = omega (arith, widening_long past was, few_slots head.form head.size few)
