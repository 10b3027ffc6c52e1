-- What is found under a name is what the slot of that name gives.
use Rattle.std.proofs.Common.{◌≡◌, ◌≢◌, ◌+◌, ℕ, suc, true, false, List, [], ◌∷◌, take, drop, get_or, Option, Some, None, refl, sym, ◌∙◌}
use Rattle.std.proofs.Common.{ap₂, arith}
use Rattle.std.specs.Ordering.{eq_by_cmp}
use Rattle.std.specs.FinMap.{find}
use Rattle.lfs_model.specs.Slot.{SlotValue, slot_in}
use Rattle.lfs_model.specs.Tree.{byte_cmp}
use Rattle.lfs_model.specs.TreeOf.{map_of, with_slot}
use Rattle.lfs_dirs.specs.Directory.{IsSlotAt, SlotGives}
use Rattle.lfs_dirs.proofs.SlotNames.{found_behind, found_first, tied, ties}
use Rattle.lfs_dirs.proofs.SlotsApart.{there}
use Rattle.lfs_dirs.proofs.SlotsReplaced.{parts_at}

abbrev slot_value : ℕ → List ℕ → SlotValue
slot_value n name = record { number = n; name = name }

abbrev slot_given : ℕ → List ℕ → Option SlotValue
slot_given n name = Some (slot_value n name)

module _ (form : ℕ) where
  -- ---- the slot of a name
  slot_at_first : (x : List ℕ) (a : List (List ℕ)) {name : List ℕ} (n : ℕ) (o : Option SlotValue) → slot_in form x ≡ o
      → (find byte_cmp name (map_of form a) ≡ Some n → (place : ℕ) × IsSlotAt form a place n name)
      → find byte_cmp name (with_slot o (map_of form a)) ≡ Some n → (place : ℕ) × IsSlotAt form (x ∷ a) place n name
  slot_at_first x a n None is go found = let later = go found in
      (suc later.0, record { inside = omega arith; slot = later.1.slot })
  slot_at_first x a {name} n (Some s) is go found =
      elim (eq_by_cmp byte_cmp name s.name)
      as (λ e. eq_by_cmp byte_cmp name s.name ≡ e → (place : ℕ) × IsSlotAt form (x ∷ a) place n name) [
        | true ↦ λ e.
            let same : name ≡ s.name = tied name s.name e in
            let here : Some s.number ≡ Some n = cc (found_first s {o = Some s} (map_of form a) refl same) in
            let number : s.number ≡ n = cc in
            (0, record { inside = omega arith; slot = is ∙ ap₂ slot_given number (sym same) })
        | false ↦ λ e.
            let other : name ≢ s.name = λ same. cc (ties same) in
            let later = go (cc (found_behind name s {o = Some s} (map_of form a) refl other)) in
            (suc later.0, record { inside = omega arith; slot = later.1.slot })
      ] refl

  slot_of : (a : List (List ℕ)) (name : List ℕ) (n : ℕ) → find byte_cmp name (map_of form a) ≡ Some n
      → (place : ℕ) × IsSlotAt form a place n name
  slot_of [] name n found = cc
  slot_of (x ∷ a) name n found = slot_at_first x a n (slot_in form x) refl (slot_of a name n) found

pub slot_gives : SlotGives
slot_gives form a name n = (
  slot_of form a name n,
  λ distinct place is.
      let parts = parts_at a place is.inside in
      cc (there form (take place a) (drop (place + 1) a) (get_or a place []) is.slot (rw (← parts) distinct)),
)
