-- A call that may not write tells the device nothing.
use Rattle.std.proofs.Common.{◌≡◌, ◌≤◌, ℕ, List, [], ◌∷◌, length, refl, sym, ap, arith, inl, inr, Option, Some, None, subst}
use Rattle.std.specs.Prelude.{false}
use Rattle.lfs_model.specs.Call.{Call, may_write}
use Rattle.lfs_model.specs.Call.{Open, Close, Pread, Readlink, StatOf, LstatOf, Readdir, Space, Version, ListTree}
use Rattle.lfs_model.specs.Device.{DeviceState, IsBeginning}
use Rattle.lfs_model.specs.declared.Order.{Order}
use Rattle.lfs_fs.specs.Seen.{seen}
use Rattle.lfs_fs.specs.Volume.{most_orders, segments_of}
use Rattle.lfs_fs.specs.declared.fs.Fs.{Fs}
use Rattle.pansuyog_calls.specs.Laws.{LooksTellNothing, RefusalsTellNothing, TellsNothing}

begins_whole : (told : List Order) → IsBeginning told told
unfolding IsBeginning
begins_whole [] = refl
begins_whole (order ∷ told) = inl refl

begins_short : (first told : List Order) → IsBeginning first told → length first ≤ length told
unfolding IsBeginning
begins_short first [] is = let same = ap (λ (l : List Order). length l) is in omega (arith, same)
begins_short first (order ∷ told) (inl is) = let same = ap (λ (l : List Order). length l) is in omega (arith, same)
begins_short first (order ∷ told) (inr begins) = let le = begins_short first told begins in omega (arith, le)

-- what grew, and is no longer than before, is as it was
not_longer : (first told : List Order) → IsBeginning first told → length told ≤ length first → told ≡ first
unfolding IsBeginning
not_longer first [] is short = sym is
not_longer first (order ∷ told) (inl is) short = sym is
not_longer first (order ∷ told) (inr begins) short = let le = begins_short first told begins in absurd (omega (arith, le, short))

no_orders : (call : Call) (segments : ℕ) → may_write call ≡ false → most_orders call segments ≡ 0
no_orders (Open p) segments looks = refl
no_orders (Close h) segments looks = refl
no_orders (Pread h off n) segments looks = refl
no_orders (Readlink p) segments looks = refl
no_orders (StatOf p) segments looks = refl
no_orders (LstatOf p) segments looks = refl
no_orders (Readdir p) segments looks = refl
no_orders Space segments looks = refl
no_orders Version segments looks = refl
no_orders ListTree segments looks = refl
no_orders other segments looks = absurd (cc)

module _ {D : Type 0} (state : D → DeviceState) where
  same_tells_nothing : (old : Option (Fs D)) → TellsNothing state old old
  same_tells_nothing (Some old) = refl
  same_tells_nothing None = refl

  pub looks_tell_nothing : LooksTellNothing state
  looks_tell_nothing old new call answer looks serves =
      let most = serves.behaves.told in let none = no_orders call (segments_of (seen old)) looks in
      not_longer (state (seen old).log.device).told (state (seen new).log.device).told
      (serves.carries.told (state (seen old).log.device).told (begins_whole (state (seen old).log.device).told)) (omega (arith, most, none))

  pub refusals_tell_nothing : RefusalsTellNothing state
  refusals_tell_nothing (Some old) new call code (same, told) =
      subst (λ (o : Option (Fs D)). TellsNothing state (Some old) o) (sym same) (same_tells_nothing (Some old))
  refusals_tell_nothing None new call code (same, told) = same
