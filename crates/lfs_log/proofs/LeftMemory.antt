-- A block that goes out isn't in memory any more.
use Rattle.std.proofs.Common.{◌≡◌, ⊎_elim, ℕ, List, Option, Some, None, refl, sym, ◌∙◌, ap}
use Rattle.std.specs.Prelude.{option_map}
use Rattle.lfs_model.specs.Entry.{Entry}
use Rattle.lfs_model.specs.Memory.{parent, pointer, patched}
use Rattle.lfs_model.specs.Running.{Moves}
use Rattle.lfs_model.proofs.Entries.{same_entry}
use Rattle.lfs_memory.specs.inodes.Blocks.{TableValue, blocks_of}
use Rattle.lfs_memory.specs.declared.memory.LogMemory.{LogMemory}
use Rattle.lfs_memory.specs.Lifting.{IsInMemory}
use Rattle.lfs_log.specs.Placing.{LeavesMemory}

some_before : (f : List ℕ → List ℕ) (o : Option (List ℕ)) {b : List ℕ} → option_map f o ≡ Some b → (a : List ℕ) × (o ≡ Some a)
some_before f None is = absurd (cc)
some_before f (Some a) is = (a, refl)

pub leaves_memory : {v v' : LogMemory} {t t' : TableValue} (x : Entry) (a : ℕ) → t ≡ v.dirty → v'.dirty ≡ t'
    → Moves (blocks_of t) (blocks_of t') x a → LeavesMemory v v' x
leaves_memory {v} {v'} {t} {t'} x a before after moves = record {
  gone = λ is. (let bad : None ≡ Some is.0 = sym moves.gone ∙ now x is in absurd (cc));
  only = λ y is. ⊎_elim
      (λ (here : y ≡ x). let bad : None ≡ Some is.0 = sym moves.gone ∙ ap (blocks_of t') (sym here) ∙ now y is in absurd (cc))
      (λ (other : y ≡ x → ⊥). ⊎_elim
      (λ (up : y ≡ parent x).
      let was = some_before (patched (pointer x) a) (blocks_of t (parent x))
      (sym (moves.patched (λ h. other (up ∙ h))) ∙ ap (blocks_of t') (sym up) ∙ now y is) in
      (was.0, then y (ap (blocks_of t) up ∙ was.1)))
      (λ (apart : y ≡ parent x → ⊥). (is.0, then y (sym (moves.kept y other apart) ∙ now y is)))
      (same_entry y (parent x)))
      (same_entry y x);
}
  where
    now : (y : Entry) (is : IsInMemory v' y) → blocks_of t' y ≡ Some is.0
    now y is = sym (ap (λ (t : TableValue). blocks_of t y) after) ∙ is.1

    then : (y : Entry) {b : List ℕ} → blocks_of t y ≡ Some b → blocks_of v.dirty y ≡ Some b
    then y there = sym (ap (λ (t : TableValue). blocks_of t y) before) ∙ there

-- and so it is where nothing happens to the table behind
pub leaves_still : {v v' v'' : LogMemory} (x : Entry) → v''.dirty ≡ v'.dirty → LeavesMemory v v' x → LeavesMemory v v'' x
leaves_still {v} {v'} {v''} x same one = record { gone = λ is. one.gone (back x is); only = λ y is. one.only y (back y is) }
  where
    back : (y : Entry) → IsInMemory v'' y → IsInMemory v' y
    back y is = (is.0, sym (ap (λ (t : TableValue). blocks_of t y) same) ∙ is.1)
