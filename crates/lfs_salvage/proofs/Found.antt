-- What a look at a slot of the checkpoint finds.
use Rattle.std.proofs.Common.{◌≡◌, ℕ, Option, None, sym, ◌∙◌, ap, arith}
use Rattle.std.proofs.lemmas.Option.{IfSome_then}
use Rattle.lfs_model.specs.Checkpoint.{CheckpointValue, checkpoint_in}
use Rattle.lfs_model.specs.Content.{Content, bytes_of, slot, with_parity}
use Rattle.lfs_model.specs.Device.{Carries, Cell, DeviceState, cell_at}
use Rattle.lfs_model.proofs.Newest.{none_spelt}
use Rattle.lfs_salvage.specs.Slots.{IsFound}

-- a slot that can't be read holds no checkpoint
slot_none : (content : Content) (p : ℕ) → cell_at content p ≡ None → slot content p ≡ None
slot_none content p is = ap (λ (x : Cell). with_parity p (checkpoint_in (bytes_of x))) is ∙ ap (with_parity p) none_spelt

pub found_none : {old new : DeviceState} {p : ℕ} → (new.keeps_model → new.failures ≡ old.failures → cell_at old.content p ≡ None)
    → IsFound old new p None
found_none {old} {p} none = record { there = tt; whole = λ keeps same. sym (slot_none old.content p (none keeps same)) }

-- two looks, one after the other
module _ {a b c : DeviceState} {p : ℕ} {found : Option CheckpointValue} (one : Carries a b) (two : Carries b c) where
  pub found_first : IsFound a b p found → IsFound a c p found
  found_first is = record {
    there = IfSome_then found is.there (λ k there keeps. there (two.kept_before keeps));
    whole = λ keeps same. is.whole (two.kept_before keeps) (omega (arith, same, one.failures, two.failures));
  }

  pub found_second : b.content ≡ a.content → IsFound b c p found → IsFound a c p found
  found_second same is = record {
    there = IfSome_then found is.there (λ k there keeps. ap (λ x. slot x p) (sym same) ∙ there keeps);
    whole = λ keeps equal. is.whole keeps (omega (arith, equal, one.failures, two.failures)) ∙ ap (λ x. slot x p) same;
  }
