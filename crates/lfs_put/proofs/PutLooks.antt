-- Looks at a path before anything is put there.
use Rattle.std.proofs.Common.{◌≡◌, ℕ, List, [], ◌∷◌, Result, Ok, Err, refl, inl, inr}
use Rattle.lfs_model.specs.Call.{LstatOf, Status, StatOf}
use Rattle.lfs_model.specs.Device.{DeviceState}
use Rattle.lfs_fs.specs.Volume.{Mounted}
use Rattle.lfs_put.specs.Calls.{made}
use Rattle.lfs_put.specs.Placing.{IsAbove, IsBeside, IsTextCause, LooksFor, OnlyLooks, Sees, WantsDirectory}
use Rattle.lfs_put.specs.declared.putting.PutFault.{PutFault}

module _ {D : Type 0} (state : D → DeviceState) where
  -- the path is no place for a file
  pub sees_none : {old : Mounted D} (new : Mounted D) {path : List ℕ} (above : List ℕ) (fault : PutFault)
      → LooksFor state {X = Unit {0}} old new path (Err fault) → Sees state {X = Unit {0}} old new path above (Err fault)
  sees_none new {path} above fault (looked, looks, forbids) = record {
    calls = made (LstatOf path) looked ∷ [];
    served = (new, looks, refl);
    looks = (tt, tt);
    outcome = inl (looked, forbids, refl);
  }

  -- nothing stands above it
  pub sees_alone : {old : Mounted D} (new : Mounted D) {path above : List ℕ} → LooksFor state {X = Unit {0}} old new path (Ok tt)
      → above ≡ [] → Sees state {X = Unit {0}} old new path above (Ok tt)
  sees_alone new {path} (looked, looks, lets) none = record {
    calls = made (LstatOf path) looked ∷ [];
    served = (new, looks, refl);
    looks = (tt, tt);
    outcome = (looked, lets, inl (none, refl));
  }

  -- what stands above is a directory, or not
  pub sees_both : {old : Mounted D} (mid new : Mounted D) {path above : List ℕ} (result : Result (Unit {0}) PutFault)
      → LooksFor state {X = Unit {0}} old mid path (Ok tt)
      → WantsDirectory state mid new above result → Sees state old new path above result
  sees_both mid new {path} {above} (Ok done) (looked, looks, lets) (stat, stats, directory) = record {
    calls = made (LstatOf path) looked ∷ made (StatOf above) (Status stat) ∷ [];
    served = (mid, looks, (new, stats, refl));
    looks = (tt, (tt, tt));
    outcome = (looked, lets, inr (stat, directory, refl));
  }
  sees_both mid new {path} {above} (Err fault) (looked, looks, lets) (answer, stats, none) = record {
    calls = made (LstatOf path) looked ∷ made (StatOf above) answer ∷ [];
    served = (mid, looks, (new, stats, refl));
    looks = (tt, (tt, tt));
    outcome = inr (looked, lets, answer, none, refl);
  }

  -- the path's text is refused
  pub not_looked : (v : Mounted D) {path : List ℕ} (fault : PutFault) → IsTextCause path fault
      → OnlyLooks state {X = Unit {0}} v v path (Err fault)
  not_looked v fault cause = record { calls = []; served = refl; looks = tt; outcome = inl (refl, cause) }

  -- it is well
  pub looked_for : (old new : Mounted D) {path above beside : List ℕ} (result : Result (Unit {0}) PutFault) → IsBeside path beside
      → IsAbove path above → Sees state old new path above result → OnlyLooks state old new path result
  looked_for old new {above} {beside} (Ok done) is stands sees = record {
    calls = sees.calls;
    served = sees.served;
    looks = sees.looks;
    outcome = (beside, is, above, stands, sees.outcome);
  }
  looked_for old new {above} {beside} (Err fault) is stands sees = record {
    calls = sees.calls;
    served = sees.served;
    looks = sees.looks;
    outcome = inr (beside, is, above, stands, sees.outcome);
  }
