-- Calls that only read a device, one after the other.
use Rattle.std.proofs.Common.{⊎_elim, refl, ◌∙◌, inl, inr, arith}
use Rattle.lfs_model.specs.Device.{DeviceState, IsLawful}
use Rattle.lfs_model.proofs.Moments.{carries_none, carries_then}
use Rattle.lfs_files.specs.Looking.{Looks}

pub looks_none : (d : DeviceState) → Looks d d
looks_none d = record {
  untouched = record { content = refl; crash = λ c left. left };
  carries = carries_none;
  time = λ t c le left. inl left;
  told = refl;
}

pub looks_then : {a b c : DeviceState} → IsLawful a → Looks a b → Looks b c → Looks a c
looks_then {a} {b} {c} lawful one two = record {
  untouched = record {
    content = two.untouched.content ∙ one.untouched.content;
    crash = λ x left. one.untouched.crash x (two.untouched.crash x left);
  };
  carries = carries_then one.carries two.carries;
  time = λ t x le left. ⊎_elim
      (λ (before : b.left_since t x). ⊎_elim
      (λ (at_first : a.left_since t x). inl at_first)
      (λ (now : b.may_leave x). inl (lawful.counts_now t x le (one.untouched.crash x now)))
      (one.time t x le before))
      (λ (now : c.may_leave x). inr now)
      (two.time t x (let later = one.carries.later in omega (arith, le, later)) left);
  told = two.told ∙ one.told;
}
