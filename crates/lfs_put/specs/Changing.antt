-- Calls that are made in order up to the first that is refused, and what the
-- commands that change a volume ask of it. The commands are own choices.
use Rattle.std.specs.Prelude.{◌≡◌, ◌⊎◌, ◌<◌, ◌≤◌, ℕ, zero, suc, List, [], ◌∷◌, ◌++◌, Result, Ok, Err, map}
use Rattle.lfs_model.specs.Call.{Answer, Call, Clean, Done, LstatOf, Refuse, Rmdir, Status, Sync, Unlink}
use Rattle.lfs_model.specs.Device.{DeviceState}
use Rattle.lfs_model.specs.Refusal.{Refusal}
use Rattle.lfs_model.specs.declared.Kind.{Kind}
use Rattle.lfs_model.specs.declared.Kind.TheVariants.{Directory, File, Link}
use Rattle.lfs_fs.specs.Refusals.{refusal_of}
use Rattle.lfs_fs.specs.Seen.{answer_by}
use Rattle.lfs_fs.specs.Volume.{Mounted, Serves}
use Rattle.lfs_fs.specs.declared.error.FsError.{FsError}
use Rattle.lfs_fs.specs.cleaner.Making.{CleansOnce, HasQuarter}
use Rattle.lfs_put.specs.Calls.{Made, ServesAll, made}

-- these calls, each of them done
abbrev pub all_done : List Call → List Made
all_done = map (λ call. made call Done)

-- Of the calls that are wanted those before one were done; that one was refused, and none behind it was made.
pub record StopsAt (refusal : Refusal) (wanted : List Call) (calls : List Made) : Type 0 where
  pub before : List Call
  pub refused : Call
  pub after : List Call
  pub order : wanted ≡ before ++ refused ∷ after
  pub made : calls ≡ all_done before ++ made refused (Refuse refusal) ∷ []

-- by a result: all calls that are wanted were done, in order; or one was refused, for the result's reason
abbrev pub AreInOrder : {X : Type 0} → List Call → List Made → Result X FsError → Type 0
AreInOrder wanted calls (Ok done) = calls ≡ all_done wanted
AreInOrder wanted calls (Err fault) = StopsAt (refusal_of fault) wanted calls

-- what takes away an object of this kind
abbrev pub removal : Kind → List ℕ → Call
removal Directory path = Rmdir path
removal File path = Unlink path
removal Link path = Unlink path

module _ {D : Type 0} (state : D → DeviceState) where
  -- A volume serves the calls that are wanted, in order up to the first that is refused.
  pub record MakesInOrder {X : Type 0} (old new : Mounted D) (wanted : List Call) (result : Result X FsError) : Type 0 where
    pub calls : List Made
    pub served : ServesAll state old new calls
    pub outcome : AreInOrder wanted calls result

  -- A sync behind a call, where that one was done.
  abbrev pub SavesBehind : {X : Type 0} → Mounted D → Mounted D → Result X FsError → Result X FsError → Type 0
  SavesBehind old new (Ok done) result = Serves state old new Sync (answer_by (λ done. Done) result)
  SavesBehind old new (Err fault) result = (new ≡ old) × (result ≡ Err fault)

  -- so many calls that clean were done, one after the other, each of them by one pass
  abbrev pub PassesOn : ℕ → Mounted D → Mounted D → Type 0
  PassesOn zero old new = new ≡ old
  PassesOn (suc count) old new = (mid : Mounted D) × PassesOn count old mid × Serves state mid new Clean Done
      × CleansOnce state mid.log new.log

  -- by a result: these calls were done, as many as are wanted or until a quarter of the segments was clean; or one behind fewer was refused
  abbrev pub EndsPasses : {X : Type 0} → ℕ → ℕ → Mounted D → Mounted D → Result X FsError → Type 0
  EndsPasses count most mid new (Ok done) = (new ≡ mid) × ((count ≡ most) ⊎ HasQuarter mid.log)
  EndsPasses count most mid new (Err fault) = (count < most) × Serves state mid new Clean (Refuse (refusal_of fault))

  -- Passes of the cleaner, so many at most.
  pub record MakesPasses {X : Type 0} (old new : Mounted D) (most : ℕ) (result : Result X FsError) : Type 0 where
    pub count : ℕ
    pub mid : Mounted D
    pub few : count ≤ most
    pub passes : PassesOn count old mid
    pub ends : EndsPasses count most mid new result

  -- Passes, so many at most, and a sync behind them, where they were done.
  pub record CleansSome {X : Type 0} (old new : Mounted D) (most : ℕ) (result : Result X FsError) : Type 0 where
    pub mid : Mounted D
    pub cleaned : Result X FsError
    pub passes : MakesPasses old mid most cleaned
    pub saves : SavesBehind mid new cleaned result

  -- by what is told of a path: what stands there is taken away and that is saved; or nothing is told, and nothing more done
  abbrev pub GoesOnBy : {X : Type 0} → Mounted D → Mounted D → List ℕ → Answer → Result X FsError → Type 0
  GoesOnBy old new path (Status stat) result = MakesInOrder old new (removal stat.kind path ∷ Sync ∷ []) result
  GoesOnBy old new path answer result = (new ≡ old) × (answer ≡ answer_by (λ done. Done) result)

  -- What a removal asks of a volume: first what stands at the path, itself and not what it leads to.
  pub record Removes {X : Type 0} (old new : Mounted D) (path : List ℕ) (result : Result X FsError) : Type 0 where
    pub mid : Mounted D
    pub answer : Answer
    pub looks : Serves state old mid (LstatOf path) answer
    pub goes_on : GoesOnBy mid new path answer result

  -- by what is told of a path: what stands there is taken away; or nothing is told, and nothing more done
  abbrev pub TakesBy : {X : Type 0} → Mounted D → Mounted D → List ℕ → Answer → Result X FsError → Type 0
  TakesBy old new path (Status stat) result = Serves state old new (removal stat.kind path) (answer_by (λ done. Done) result)
  TakesBy old new path answer result = (new ≡ old) × (answer ≡ answer_by (λ done. Done) result)

  -- What a removal that saves nothing asks of a volume: first what stands at the path, itself and not what it leads to.
  pub record TakesAway {X : Type 0} (old new : Mounted D) (path : List ℕ) (result : Result X FsError) : Type 0 where
    pub mid : Mounted D
    pub answer : Answer
    pub looks : Serves state old mid (LstatOf path) answer
    pub takes : TakesBy mid new path answer result
