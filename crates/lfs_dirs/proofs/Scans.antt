-- A name looked up among the first slots of a block, slot by slot.
use Rattle.std.proofs.Common.{◌≡◌, ◌≢◌, ◌<◌, ◌≤◌, ◌+◌, ◌*◌, ◌-◌, ℕ, suc, List, [], ◌∷◌, Option, Some, None, refl, sym, ◌∙◌, ap, ap₂, arith}
use Rattle.std.specs.FinMap.{find}
use Rattle.lfs_model.specs.declared.number.FileNumber.{FileNumber}
use Rattle.lfs_model.specs.Fields.{part}
use Rattle.lfs_model.specs.Slot.{SlotValue, slot_in}
use Rattle.lfs_model.specs.Tree.{byte_cmp, slot_len}
use Rattle.lfs_model.specs.TreeOf.{map_of}
use Rattle.lfs_dirs.specs.Directory.{first_slots, slots_in}
use Rattle.lfs_dirs.specs.Searching.{IsSlotOf}
use Rattle.lfs_dirs.proofs.SlotNames.{found_first, found_past}
use Rattle.lfs_dirs.proofs.SlotPlaces.{block_slot, block_slots_many}

module _ (form : ℕ) where
  -- ---- the slots from one on
  next_slots : (block : List ℕ) (at n : ℕ)
      → slots_in form block at (suc n) ≡ part (slot_len form * at) (slot_len form) block ∷ slots_in form block (at + 1) n
  unfolding slots_in
  next_slots block at n = refl

  pub next_slot : (block : List ℕ) (at count : ℕ) → at < count → slots_in form block at (count - at)
      ≡ part (slot_len form * at) (slot_len form) block ∷ slots_in form block (at + 1) (count - (at + 1))
  next_slot block at count low = ap (slots_in form block at) (omega arith) ∙ next_slots block at (count - (at + 1))

  pub no_slots : (block : List ℕ) (at count : ℕ) → count ≤ at → slots_in form block at (count - at) ≡ []
  unfolding slots_in
  no_slots block at count past = let none : count - at ≡ 0 = omega arith in cc

  -- ---- the search
  abbrev slot_giving : ℕ → List ℕ → Option SlotValue
  slot_giving n name = Some record { number = n; name = name }

  module _ (block : List ℕ) (count : ℕ) (name : List ℕ) where
    -- no slot before this place has the name
    abbrev pub ScannedTo : ℕ → Type 0
    ScannedTo at = find byte_cmp name (map_of form (slots_in form block at (count - at)))
        ≡ find byte_cmp name (map_of form (first_slots form block count))

    pub scan_hit : (at : ℕ) (n : FileNumber) {s : SlotValue} → at < count → ScannedTo at
        → slot_in form (part (slot_len form * at) (slot_len form) block) ≡ Some s → name ≡ s.name → n.value ≡ s.number
        → IsSlotOf form (first_slots form block count) name record { place = at; number = n }
    scan_hit at n {s} low was is same number = record {
      gives =
          cc (next_slot block at count low, found_first s (map_of form (slots_in form block (at + 1) (count - (at + 1)))) is same);
      inside = omega (arith, block_slots_many form block 0 count);
      slot =
          ap (slot_in form) (block_slot form block 0 count at low
          ∙ ap (λ (j : ℕ). part (slot_len form * j) (slot_len form) block) (omega arith))
          ∙ is
          ∙ ap₂ slot_giving (sym number) (sym same);
    }

    pub scan_miss : (at : ℕ) → at < count → ScannedTo at
        → ((s : SlotValue) → slot_in form (part (slot_len form * at) (slot_len form) block) ≡ Some s → name ≢ s.name) → ScannedTo (at + 1)
    scan_miss at low was other =
        cc (
          found_past name (slot_in form (part (slot_len form * at) (slot_len form) block))
              (map_of form (slots_in form block (at + 1) (count - (at + 1)))) other,
          next_slot block at count low,
        )

    pub scan_end : (at : ℕ) → count ≤ at → ScannedTo at → find byte_cmp name (map_of form (first_slots form block count)) ≡ None
    scan_end at past was = cc (no_slots block at count past)
