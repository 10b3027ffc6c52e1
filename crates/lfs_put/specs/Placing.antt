-- Where a file may be put: what a path's text says of it, what stands there, and what its directory is. The command is an own choice.
use Rattle.std.specs.Prelude.{◌≡◌, ◌≢◌, ◌⊎◌, ◌<◌, ◌||◌, ℕ, Bool, true, List, [], ◌∷◌, ◌++◌, All, None, Some, Result, Ok, Err}
use Rattle.std.specs.Prelude.{length, codes}
use Rattle.lfs_model.specs.Call.{Answer, Done, LstatOf, Refuse, Stat, StatOf, Status, Unlink}
use Rattle.lfs_model.specs.Device.{DeviceState}
use Rattle.lfs_model.specs.PathText.{text_refusal}
use Rattle.lfs_model.specs.Refusal.{NoEntry}
use Rattle.lfs_model.specs.Tree.{same_name}
use Rattle.lfs_model.specs.Walk.{dot, dot_dot}
use Rattle.lfs_model.specs.declared.Kind.TheVariants.{Directory}
use Rattle.lfs_fs.specs.Refusals.{refusal_of}
use Rattle.lfs_fs.specs.Volume.{Mounted, Serves}
use Rattle.lfs_fs.specs.declared.error.FsError.TheVariants as error
use Rattle.lfs_put.specs.Calls.{AreLooks, Made, ServesAll, made}
use Rattle.lfs_put.specs.declared.putting.PutFault.{PutFault}
use Rattle.lfs_put.specs.declared.putting.PutFault.TheVariants as why

-- ---- the text of a path

-- the name under which a file stands until it is whole
abbrev pub unfinished : List ℕ
unfinished = codes ".lfs-put"

-- The path of that name in the directory of another path, which ends with another name.
pub record IsBeside (path beside : List ℕ) : Type 0 where
  pub above : List ℕ
  pub name : List ℕ
  pub path_is : path ≡ above ++ name
  pub beside_is : beside ≡ above ++ unfinished
  -- the name is all that stands behind the last slash
  pub plain : All (λ b. b ≢ 47) name
  pub place : (above ≡ []) ⊎ ((front : List ℕ) × (above ≡ front ++ 47 ∷ []))
  pub other : name ≢ unfinished

-- What stands above the last name of a path, with the slash before that.
pub record IsAbove (path above : List ℕ) : Type 0 where
  pub name : List ℕ
  pub path_is : path ≡ above ++ name
  pub plain : All (λ b. b ≢ 47) name
  pub place : (above ≡ []) ⊎ ((front : List ℕ) × (above ≡ front ++ 47 ∷ []))

-- The last piece of a path, between what stands above it and the slashes that end the path.
pub record IsLast (path name : List ℕ) : Type 0 where
  pub above : List ℕ
  pub slashes : List ℕ
  pub path_is : path ≡ above ++ (name ++ slashes)
  pub plain : All (λ b. b ≢ 47) name
  pub place : (above ≡ []) ⊎ ((front : List ℕ) × (above ≡ front ++ 47 ∷ []))
  pub ends : All (λ b. b ≡ 47) slashes

-- dot or dot-dot
abbrev pub are_dots : List ℕ → Bool
are_dots name = same_name name dot || same_name name dot_dot

-- by the fault, why a last piece names no file that is put, or the slashes behind it don't
abbrev pub NamesNone : List ℕ → Bool → PutFault → Type 0
NamesNone name slash_end (why.Call error.Inval) = are_dots name ≡ true
NamesNone name slash_end (why.Call error.NotDir) = slash_end ≡ true
NamesNone name slash_end why.Unfinished = name ≡ unfinished
NamesNone name slash_end fault = ⊥

-- by the fault, why a path whose text is well gives no file's name: it has no piece, or that is its last one's or its end's
abbrev pub EndsInNone : List ℕ → PutFault → Type 0
EndsInNone path (why.Call error.Busy) = All (λ b. b ≡ 47) path
EndsInNone path (why.Call error.Inval) = (name : List ℕ) × IsLast path name × (are_dots name ≡ true)
EndsInNone path (why.Call error.NotDir) = (name : List ℕ) × (last : IsLast path name) × (0 < length last.slashes)
EndsInNone path why.Unfinished = IsLast path unfinished
EndsInNone path fault = ⊥

-- by the fault, why a path is refused for its text; nothing is said where memory for the path beside it was refused
abbrev pub IsTextCause : List ℕ → PutFault → Type 0
IsTextCause path (why.Memory refused) = Unit {0}
IsTextCause path (why.Call fault) = (text_refusal path ≡ Some (refusal_of fault))
    ⊎ ((text_refusal path ≡ None) × EndsInNone path (why.Call fault))
IsTextCause path fault = (text_refusal path ≡ None) × EndsInNone path fault

-- ---- what stands there

-- what is told of a path lets a file be put there: nothing is there, or no directory
abbrev pub LetsPut : Answer → Type 0
LetsPut (Status stat) = stat.kind ≢ Directory
LetsPut (Refuse refusal) = refusal ≡ NoEntry
LetsPut _ = ⊥

-- by the fault, what is told of a path forbids it: a directory is there, or the answer is another refusal
abbrev pub ForbidsPut : Answer → PutFault → Type 0
ForbidsPut (Status stat) fault = (stat.kind ≡ Directory) × (fault ≡ why.Call error.IsDir)
ForbidsPut (Refuse refusal) (why.Call fault) = (refusal ≡ refusal_of fault) × (fault ≢ error.NoEntry)
ForbidsPut _ _ = ⊥

-- by the fault, what is told of the path above tells of no directory
abbrev pub IsNoDirectory : Answer → PutFault → Type 0
IsNoDirectory (Status stat) fault = (stat.kind ≢ Directory) × (fault ≡ why.Call error.NotDir)
IsNoDirectory (Refuse refusal) (why.Call fault) = refusal ≡ refusal_of fault
IsNoDirectory _ _ = ⊥

-- by the result of looks at a path and at what stands above it, which may be nothing: both let a file be put there, or one doesn't
abbrev pub HasSeen : {X : Type 0} → List ℕ → List ℕ → List Made → Result X PutFault → Type 0
HasSeen path above calls (Ok done) = (looked : Answer) × LetsPut looked
    × (((above ≡ []) × (calls ≡ made (LstatOf path) looked ∷ []))
    ⊎ ((stat : Stat) × (stat.kind ≡ Directory) × (calls ≡ made (LstatOf path) looked ∷ made (StatOf above) (Status stat) ∷ [])))
HasSeen path above calls (Err fault) = ((looked : Answer) × ForbidsPut looked fault × (calls ≡ made (LstatOf path) looked ∷ []))
    ⊎ ((looked : Answer) × LetsPut looked × (answer : Answer) × IsNoDirectory answer fault
    × (calls ≡ made (LstatOf path) looked ∷ made (StatOf above) answer ∷ []))

-- by the result of a look for a place: the path's text is refused, for its fault; or there are these looks
abbrev pub HasLooked : {X : Type 0} → List ℕ → List Made → Result X PutFault → Type 0
HasLooked path calls (Ok done) = (beside : List ℕ) × IsBeside path beside × (above : List ℕ) × IsAbove path above
    × HasSeen path above calls (Ok done)
HasLooked {X} path calls (Err fault) = ((calls ≡ []) × IsTextCause path fault)
    ⊎ ((beside : List ℕ) × IsBeside path beside × (above : List ℕ) × IsAbove path above × HasSeen {X = X} path above calls (Err fault))

-- what was left there is gone
abbrev pub IsCleared : Answer → Type 0
IsCleared answer = (answer ≡ Done) ⊎ (answer ≡ Refuse NoEntry)

-- by the fault, it isn't
abbrev pub IsLeft : Answer → PutFault → Type 0
IsLeft answer (why.Call fault) = (answer ≡ Refuse (refusal_of fault)) × (fault ≢ error.NoEntry)
IsLeft answer fault = ⊥

module _ {D : Type 0} (state : D → DeviceState) where
  -- by the result: the path is looked at, and a file may be put there, or not
  abbrev pub LooksFor : {X : Type 0} → Mounted D → Mounted D → List ℕ → Result X PutFault → Type 0
  LooksFor old new path (Ok done) = (looked : Answer) × Serves state old new (LstatOf path) looked × LetsPut looked
  LooksFor old new path (Err fault) = (looked : Answer) × Serves state old new (LstatOf path) looked × ForbidsPut looked fault

  -- by the result: what stands above is looked at, and is a directory, or none
  abbrev pub WantsDirectory : {X : Type 0} → Mounted D → Mounted D → List ℕ → Result X PutFault → Type 0
  WantsDirectory old new path (Ok done) = (stat : Stat) × Serves state old new (StatOf path) (Status stat) × (stat.kind ≡ Directory)
  WantsDirectory old new path (Err fault) = (answer : Answer) × Serves state old new (StatOf path) answer × IsNoDirectory answer fault

  -- by the result: what was left at a path is taken away, or it isn't
  abbrev pub Clears : {X : Type 0} → Mounted D → Mounted D → List ℕ → Result X PutFault → Type 0
  Clears old new path (Ok done) = (cleared : Answer) × Serves state old new (Unlink path) cleared × IsCleared cleared
  Clears old new path (Err fault) = (cleared : Answer) × Serves state old new (Unlink path) cleared × IsLeft cleared fault

  -- A path and what stands above it are looked at.
  pub record Sees {X : Type 0} (old new : Mounted D) (path above : List ℕ) (result : Result X PutFault) : Type 0 where
    pub calls : List Made
    pub served : ServesAll state old new calls
    pub looks : AreLooks calls
    pub outcome : HasSeen path above calls result

  -- A look whether a file may be put at a path: calls each of which only tells what stands there, and what they come to by the result.
  pub record OnlyLooks {X : Type 0} (old new : Mounted D) (path : List ℕ) (result : Result X PutFault) : Type 0 where
    pub calls : List Made
    pub served : ServesAll state old new calls
    pub looks : AreLooks calls
    pub outcome : HasLooked path calls result
