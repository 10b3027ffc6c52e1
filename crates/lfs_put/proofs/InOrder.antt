-- Calls that are made in order, up to the first that is refused.
use Rattle.std.proofs.Common.{[], ◌∷◌, Result, Ok, Err, refl, subst, sym}
use Rattle.lfs_model.specs.Call.{Call, Done, Refuse, Sync}
use Rattle.lfs_model.specs.Device.{DeviceState}
use Rattle.lfs_fs.specs.Refusals.{refusal_of}
use Rattle.lfs_fs.specs.Seen.{answer_by}
use Rattle.lfs_fs.specs.Volume.{Mounted, Serves}
use Rattle.lfs_fs.specs.declared.error.FsError.{FsError}
use Rattle.lfs_put.specs.Calls.{made}
use Rattle.lfs_put.specs.Changing.{MakesInOrder, SavesBehind, all_done}

module _ {D : Type 0} {state : D → DeviceState} where
  -- a call was done, and the sync behind it was made
  synced : {X : Type 0} {a : Mounted D} (b c : Mounted D) (call : Call) (result : Result X FsError) → Serves state a b call Done
      → Serves state b c Sync (answer_by (λ done. Done) result)
      → MakesInOrder state a c (call ∷ Sync ∷ []) result
  synced b c call (Ok done) first last = record {
    calls = all_done (call ∷ Sync ∷ []);
    served = (b, first, (c, last, refl));
    outcome = refl;
  }
  synced b c call (Err fault) first last = record {
    calls = made call Done ∷ made Sync (Refuse (refusal_of fault)) ∷ [];
    served = (b, first, (c, last, refl));
    outcome = record { before = call ∷ []; refused = Sync; after = []; order = refl; made = refl };
  }

  -- a call was refused
  refused : {X : Type 0} (a b : Mounted D) (call : Call) (fault : FsError) → Serves state a b call (Refuse (refusal_of fault))
      → MakesInOrder state {X = X} a b (call ∷ Sync ∷ []) (Err fault)
  refused a b call fault first = record {
    calls = made call (Refuse (refusal_of fault)) ∷ [];
    served = (b, first, refl);
    outcome = record { before = []; refused = call; after = Sync ∷ []; order = refl; made = refl };
  }

  pub saved : {X : Type 0} {a b c : Mounted D} {call : Call} (done : Result X FsError) {result : Result X FsError}
      → Serves state a b call (answer_by (λ done. Done) done) → SavesBehind state b c done result
      → MakesInOrder state a c (call ∷ Sync ∷ []) result
  saved {a} {b} {c} {call} (Ok done) {result} first last = synced b c call result first last
  saved {X} {a} {b} {c} {call} (Err fault) first last =
      subst (λ (r : Result X FsError). MakesInOrder state {X = X} a c (call ∷ Sync ∷ []) r) (sym last.1)
      (subst (λ (v : Mounted D). MakesInOrder state {X = X} a v (call ∷ Sync ∷ []) (Err fault)) (sym last.0) (refused a b call fault first))
