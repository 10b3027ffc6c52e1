-- What a device was told, as a list.
use Rattle.std.specs.Prelude.{List, [], ◌∷◌}
use Rattle.lfs_model.specs.declared.Order.{Order}
use Rattle.lfs_model.specs.declared.Order.TheVariants.{Write, Sync}
use Rattle.lfs_device.specs.declared.told.Told.{Told, Nothing, Wrote', Synced'}

-- the newest first
abbrev pub orders_of : Told → List Order
orders_of Nothing = []
orders_of (Wrote' sector bytes mark before) = Write sector bytes.value ∷ orders_of before
orders_of (Synced' mark before) = Sync ∷ orders_of before
