-- What a sync makes of a file.
use Rattle.std.proofs.Common.{◌≡◌, ℕ, List, ◌∷◌, refl, sym, subst}
use Rattle.lfs_model.specs.Device.{IsUntouched}
use Rattle.lfs_device.specs.Fate.{Fate}
use Rattle.lfs_device.specs.File.{MayLeave, present_left, file_state}
use Rattle.lfs_device.specs.History.{Call, Synced}

pub synced_untouched : {n : ℕ} (fate : Fate n) (old : List Call) {new : List Call} → new ≡ Synced ∷ old
    → IsUntouched (file_state n fate old) (file_state n fate new)
synced_untouched {n} fate old is =
    subst (λ (calls : List Call). IsUntouched (file_state n fate old) (file_state n fate calls)) (sym is)
    (record { content = refl; crash = λ c left. subst (MayLeave fate old) (sym left) (present_left fate old) })
