-- A volume that was taken from its handle.
use Rattle.std.proofs.Common.{◌≡◌, ◌∙◌, ℕ, ℤ, None, ap, refl, sym, subst}
use mir.Syntax.{w32}
use mir.Val.{of_z, to_z}
use Rattle.pansuyog_calls.specs.Codes.{already_mounted, inval, no_memory}
use Rattle.lfs_queue.specs.declared.queue.QueueDevice.{QueueDevice}
use Rattle.pansuyog.specs.Making.{IsNotTaken, IsTaken, MakesBy, MakesOn, MountsFrom, MountsOn, is_full, is_mounted, is_not_tried}
use Rattle.pansuyog.specs.Making.{is_nothing, is_refused, is_tried, was_not_tried, was_tried}
use Rattle.pansuyog.specs.declared.handle.Source.TheVariants.{Device}
use Rattle.pansuyog.specs.declared.handle.Volume.{Volume}

pub mount_tried : {held old new : Volume} {room : ℕ} (code : ℤ) (device : QueueDevice) → held ≡ old → held.fs ≡ None
    → IsTaken held.source room device → new.listing ≡ held.listing → new.recorder ≡ None
    → MountsOn device new.fs new.source code → MountsFrom old new room code
mount_tried {new} {room} code device same none taken listing ends mounts =
    subst (λ (v : Volume). MountsFrom v new room code) same (is_tried device none taken mounts listing ends)

pub make_tried : {Makes : QueueDevice → QueueDevice → ℤ → Type 0} {held old : Volume} (new : Volume) {room : ℕ} (code : ℤ)
    (device after : QueueDevice) → held ≡ old → held.fs ≡ None → IsTaken held.source room device → new.listing ≡ held.listing
    → new.recorder ≡ None → new.fs ≡ None → new.source ≡ Device after → Makes device after code → MakesBy Makes old new room code
make_tried {Makes} new {room} code device after same none taken listing ends empty source makes =
    let there : MakesOn Makes device None (Device after) code = makes in
    let here : MakesOn Makes device new.fs (Device after) code =
    subst (λ f. MakesOn Makes device f (Device after) code) (sym empty) there in
    let on : MakesOn Makes device new.fs new.source code =
    subst (λ s. MakesOn Makes device new.fs s code) (sym source) here in
    subst (λ (v : Volume). MakesBy Makes v new room code) same (was_tried device none taken on listing ends)

-- ---- none was taken: the number is of 32 bits
abbrev as_told : ℤ → ℤ
as_told code = to_z w32 (of_z w32 code)

same : (code told : ℤ) → as_told told ≡ told → code ≡ told → as_told code ≡ told
same code told fits is = ap as_told is ∙ fits

told : {old new : Volume} {code : ℤ} → IsNotTaken old new code → IsNotTaken old new (as_told code)
told {code} (is_mounted some is stays) = is_mounted some (same code already_mounted refl is) stays
told {code} (is_nothing none is stays) = is_nothing none (same code inval refl is) stays
told {code} (is_refused none is unmounted nothing listing kept) =
    is_refused none (same code no_memory refl is) unmounted nothing listing kept
told {code} (is_full was device none from is unmounted kept roomier listing recorder) =
    is_full was device none from (same code no_memory refl is) unmounted kept roomier listing recorder

pub mount_not_tried : {held old new : Volume} {room : ℕ} {code : ℤ} → held ≡ old → IsNotTaken held new code
    → MountsFrom old new room (as_told code)
mount_not_tried {new} {room} {code} same refused =
    subst (λ (v : Volume). MountsFrom v new room (as_told code)) same (is_not_tried (told refused))

pub make_not_tried : {Makes : QueueDevice → QueueDevice → ℤ → Type 0} {held old new : Volume} {room : ℕ} {code : ℤ} → held ≡ old
    → IsNotTaken held new code → MakesBy Makes old new room (as_told code)
make_not_tried {Makes} {new} {room} {code} same refused =
    subst (λ (v : Volume). MakesBy Makes v new room (as_told code)) same (was_not_tried (told refused))
