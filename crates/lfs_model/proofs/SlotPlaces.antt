-- The slot, place by place.
use Rattle.std.proofs.Common.{◌≡◌, ◌≤◌, ◌<◌, ◌+◌, ◌-◌, ℕ, zero, suc, List, [], ◌∷◌, length, get_or, refl, sym, ap, subst, ◌∙◌, arith}
use Rattle.lfs_model.specs.Fields.{le32, zeros, part, read32}
use Rattle.lfs_model.specs.Slot.{SlotValue, FitsSlot, slot_bytes, slot_of}
use Rattle.lfs_model.specs.Tree.{name_len, slot_len}
use Rattle.lfs_model.proofs.Numbers.{IsBytes, length-le32, length-zeros}
use Rattle.lfs_model.proofs.Parts.{length-part, get_or-part, one_byte, le32_of_read, read32_is, zeros_from_each, each_of_zeros}
use Rattle.lfs_model.proofs.Laid.{Field, Sized, Laid, laid_from, laid_to, length-fields}

-- a slot has room for the number and the length
pub room : (form : ℕ) → 5 ≤ slot_len form
room zero = omega arith
room (suc form) = omega arith

unfoldable pub fields : ℕ → SlotValue → List Field
fields form v = (4, le32 v.number) ∷ (1, length v.name ∷ []) ∷ (length v.name, v.name)
    ∷ (name_len form - length v.name, zeros (name_len form - length v.name)) ∷ []

pub record ReadsAs (form : ℕ) (b : List ℕ) (v : SlotValue) : Type 0 where
  pub number : part 0 4 b ≡ le32 v.number
  pub len : part 4 1 b ≡ length v.name ∷ []
  pub name : part 5 (length v.name) b ≡ v.name
  pub rest : part (5 + length v.name) (name_len form - length v.name) b ≡ zeros (name_len form - length v.name)

sized : (form : ℕ) (v : SlotValue) → Sized (fields form v)
unfolding fields
sized form v = (length-le32 v.number, (refl, (refl, (length-zeros (name_len form - length v.name), tt))))

pub length-slot : (form : ℕ) {v : SlotValue} → FitsSlot form v → length (slot_bytes form v) ≡ slot_len form
unfolding fields slot_bytes
length-slot form {v} fits = let short = fits.name.short in let least = room form in length-fields (fields form v)
    (sized form v) ∙ omega arith

pub reads_from : (form : ℕ) {b : List ℕ} (v : SlotValue) → b ≡ slot_bytes form v → ReadsAs form b v
unfolding fields slot_bytes
reads_from form {b} v e =
    let laid : Laid b 0 (fields form v) = laid_from b 0 (fields form v) (sized form v) e in
    record { number = laid.0; len = laid.1.0; name = laid.1.1.0; rest = laid.1.1.1.0 }

pub reads_to : (form : ℕ) (b : List ℕ) (v : SlotValue) → length b ≡ slot_len form → length v.name ≤ name_len form → ReadsAs form b v
    → b ≡ slot_bytes form v
unfolding fields slot_bytes
reads_to form b v long short r = let least = room form in
    laid_to b 0 (fields form v) (omega arith) (r.number, (r.len, (r.name, (r.rest, tt))))

-- the length that a slot says
pub length_at : (form : ℕ) (b : List ℕ) (v : SlotValue) → length b ≡ slot_len form → ReadsAs form b v → get_or b 4 0 ≡ length v.name
length_at form b v long r = let least = room form in ap (λ (x : List ℕ). get_or x 0 0) (sym (one_byte 4 b (omega arith)) ∙ r.len)

-- what is read of a slot that was tested
pub slot_reads : (form : ℕ) (b : List ℕ) (len : ℕ) → IsBytes b → length b ≡ slot_len form → len ≡ get_or b 4 0 → len ≤ name_len form
    → ((i : ℕ) → 5 + len ≤ i → i < slot_len form → get_or b i 0 ≡ 0) → ReadsAs form b (slot_of b)
slot_reads form b len bytes long is short none =
    let least = room form in
    let cut = get_or b 4 0 in
    let e : length (part 5 cut b) ≡ cut = length-part 5 cut b (omega arith) in
    let rest : part (5 + cut) (name_len form - cut) b ≡ zeros (name_len form - cut) =
    zeros_from_each (part (5 + cut) (name_len form - cut) b) (name_len form - cut)
    (length-part (5 + cut) (name_len form - cut) b (omega arith))
    (λ i lt.
    let wide = length-part (5 + cut) (name_len form - cut) b (omega arith) in
    let within : i < name_len form - cut = omega arith in
    get_or-part (5 + cut) (name_len form - cut) b i within ∙ none (5 + cut + i) (omega arith) (omega arith)) in
    record {
      number = sym (le32_of_read 0 b bytes (omega arith));
      len = one_byte 4 b (omega arith) ∙ ap (λ (n : ℕ). n ∷ []) (sym e);
      name = ap (λ (n : ℕ). part 5 n b) e;
      rest = (let P : ℕ → Type 0 = λ n. part (5 + n) (name_len form - n) b ≡ zeros (name_len form - n) in subst P (sym e) rest);
    }

-- a slot's name, cut where the slot says
pub name_at : (form : ℕ) (b : List ℕ) (v : SlotValue) → length b ≡ slot_len form → ReadsAs form b v → part 5 (get_or b 4 0) b ≡ v.name
name_at form b v long r = ap (λ (n : ℕ). part 5 n b) (length_at form b v long r) ∙ r.name

-- and zeros past it
pub zeros_past : (form : ℕ) (b : List ℕ) (v : SlotValue) → length b ≡ slot_len form → length v.name ≤ name_len form → ReadsAs form b v
    → (i : ℕ) → 5 + get_or b 4 0 ≤ i → i < slot_len form → get_or b i 0 ≡ 0
zeros_past form b v long short r i low high =
    let least = room form in
    let len = length v.name in
    let same = length_at form b v long r in
    let wide = length-part (5 + len) (name_len form - len) b (omega arith) in
    ap (λ (k : ℕ). get_or b k 0) (omega arith) ∙ sym (get_or-part (5 + len) (name_len form - len) b (i - (5 + len)) (omega arith))
    ∙ each_of_zeros (name_len form - len) r.rest (i - (5 + len)) (omega arith)

abbrev built : ℕ → List ℕ → SlotValue
built n x = record { number = n; name = x }

-- the places of a slot hold it
pub slot_back : (form : ℕ) (v : SlotValue) → FitsSlot form v → slot_of (slot_bytes form v) ≡ v
slot_back form v p =
    let b = slot_bytes form v in
    let r = reads_from form {b = b} v refl in
    let number : read32 0 b ≡ v.number = read32_is 0 b v.number (omega (arith, p.number.1)) r.number in
    ap (λ (n : ℕ). built n (part 5 (get_or b 4 0) b)) number
    ∙ ap (λ (x : List ℕ). built v.number x) (name_at form b v (length-slot form p) r)

-- two slots of the same bytes are one
pub one_slot : (form : ℕ) (a b : SlotValue) → FitsSlot form a → FitsSlot form b → slot_bytes form a ≡ slot_bytes form b → a ≡ b
one_slot form a b p q e = sym (slot_back form a p) ∙ ap (λ (s : List ℕ). slot_of s) e ∙ slot_back form b q
