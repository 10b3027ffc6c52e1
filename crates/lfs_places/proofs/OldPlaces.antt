-- By the old places a device is as it was.
use Rattle.std.proofs.Common.{◌≡◌, List, [], ◌∷◌, refl, ap₂}
use Rattle.std.proofs.Math.Path.{Singl, contract, subst, subst⁻¹, subst⁻¹_refl, ap}
use mathlib.Core.Equiv.{Iso, iso_to_equiv}
use Rattle.lfs_model.specs.Content.{Content}
use Rattle.lfs_model.specs.Device.{DeviceState}
use Rattle.lfs_model.specs.declared.Order.{Order}
use Rattle.lfs_model.specs.declared.Order.TheVariants.{Write, Sync}
use Rattle.lfs_places.specs.declared.Places.TheVariants.{Old}
use Rattle.lfs_places.specs.PlaceLaws.{OldChangeNothing}
use Rattle.lfs_places.specs.Placed.{IsOfOne, placed, volume_order, volume_orders}

same_order : (order : Order) → volume_order Old order ≡ order
same_order (Write sector bytes) = refl
same_order Sync = refl

pub same_orders : (orders : List Order) → volume_orders Old orders ≡ orders
same_orders [] = refl
same_orders (order ∷ orders) = ap₂ (λ (o : Order) (os : List Order). o ∷ os) (same_order order) (same_orders orders)

pub old_change_nothing : OldChangeNothing
old_change_nothing = record { place = λ k. refl; sector = λ k. refl; size = λ n. refl; content = λ c. refl; orders = same_orders }

module _ (left : Content → Type 0) (c : Content) where
  itself : IsOfOne Old left c → left c
  itself has = subst⁻¹ left has.2 has.1

  as_one : left c → IsOfOne Old left c
  as_one is = (c, is, refl)

  one_is : (has : IsOfOne Old left c) → as_one (itself has) ≡ has
  unfolding itself as_one
  one_is has = subst (λ (s : Singl c). (is : left s.0) → Path (IsOfOne Old left c) (c, subst⁻¹ left s.1 is, refl) (s.0, is, s.1))
      (contract has.2) (λ is. ap (λ (x : left c). let t : IsOfOne Old left c = (c, x, refl) in t) (subst⁻¹_refl left is)) has.1

  itself_is : (is : left c) → itself (as_one is) ≡ is
  unfolding itself as_one
  itself_is is = subst⁻¹_refl left is

  same_left : IsOfOne Old left c ≡ left c
  same_left = λ i. V i (IsOfOne Old left c) (left c) (iso_to_equiv both)
    where
      both : Iso (IsOfOne Old left c) (left c)
      both = record { fun = itself; inv = as_one; rinv = itself_is; linv = one_is }

pub placed_old_is : (d : DeviceState) → placed Old d ≡ d
placed_old_is d = λ i. record {
  size = d.size;
  content = d.content;
  may_leave = λ c. same_left d.may_leave c i;
  moment = d.moment;
  left_since = λ t c. same_left (d.left_since t) c i;
  left_until = λ t u c. same_left (d.left_until t u) c i;
  unit = d.unit;
  failures = d.failures;
  failed_orders = d.failed_orders;
  keeps_model = d.keeps_model;
  kept_until = d.kept_until;
  start = d.start;
  told = same_orders d.told i;
  bears = d.bears;
}
