-- Lists of calls, one behind the other.
use Rattle.std.proofs.Common.{List, [], ◌∷◌, ◌++◌, subst}
use Rattle.lfs_model.specs.Device.{DeviceState}
use Rattle.lfs_fs.specs.Volume.{Mounted}
use Rattle.lfs_put.specs.Calls.{Made, ServesAll}

module _ {D : Type 0} (state : D → DeviceState) where
  pub serves_append : (a b c : Mounted D) (xs ys : List Made) → ServesAll state a b xs → ServesAll state b c ys
      → ServesAll state a c (xs ++ ys)
  serves_append a b c [] ys first second = subst (λ (v : Mounted D). ServesAll state v c ys) first second
  serves_append a b c (m ∷ xs) ys first second = (first.0, first.1, serves_append first.0 b c xs ys first.2 second)
