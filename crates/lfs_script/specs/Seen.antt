-- The glances that a witness keeps.
use Rattle.std.specs.Prelude.{ℕ, Option, List, [], ◌∷◌, ◌++◌}
use Rattle.lfs_model.specs.Device.{DeviceState}
use Rattle.lfs_script.specs.Noted.{Glance}
use Rattle.lfs_script.specs.declared.witness.Seen.{Seen, Start, Then'}

abbrev pub glances_in : {D W : Type 0} → (D → DeviceState) → (W → Option (List ℕ)) → Seen D W → List Glance
glances_in state contents Start = []
glances_in state contents (Then' device writer mark before) =
    glances_in state contents before ++ (record { moment = (state device.value).moment; written = contents writer.value }) ∷ []
