-- Calls of C in a row on a mounted volume, and what a stop leaves of them. It is an own choice.
use Rattle.std.specs.Prelude.{◌≡◌, ℕ, ℤ, List, [], ◌∷◌, Option, Some, None, Vec, map}
use Rattle.std.specs.declared.alloc.Global.{Global}
use Rattle.lfs_model.specs.Call as model
use Rattle.lfs_model.specs.Call.{Answer, Call}
use Rattle.lfs_model.specs.Device.{DeviceState}
use Rattle.lfs_model.specs.Run.{Point}
use Rattle.lfs_fs.specs.InARow as volume
use Rattle.lfs_fs.specs.InARow.{IsSavedAt, IsTended, MountsSaved}
use Rattle.lfs_fs.specs.Seen.{seen}
use Rattle.lfs_fs.specs.declared.fs.Fs.{Fs}
use Rattle.lfs_fs.specs.entries.declared.rows.ListedEntry.{ListedEntry as Row}
use Rattle.pansuyog_calls.specs.Codes.{code_of_answer}
use Rattle.pansuyog_calls.specs.Making.{Mounts}
use Rattle.pansuyog_calls.specs.Serving.{IsOnlyRead, ServesBytes, ServesCall}
use Rattle.pansuyog_calls.specs.Telling.{ServesListing, ServesSpace, ServesStat}
use Rattle.pansuyog_calls.specs.declared.rows.Space.{Space}
use Rattle.pansuyog_calls.specs.declared.rows.Stat.{Stat}

module _ {D : Type 0} (state : D → DeviceState) where
  -- A call of C that serves a call of the model, by its contract. C is told this number.
  pub data ServesByContract (old new : Option (Fs D)) (call : Call) (code : ℤ) : Type 0 where
    by_number : ServesCall state old new call code → ServesByContract old new call code
    by_bytes : (before after : List ℕ) → ServesBytes state old new call code before after → ServesByContract old new call code
    by_status : (before after : Stat) → ServesStat state old new call code before after → ServesByContract old new call code
    by_space : (before after : Space) → call ≡ model.Space → ServesSpace state old new code before after
        → ServesByContract old new call code
    by_listing : (before after : Vec Row Global) → ServesListing state old new call code before after → ServesByContract old new call code

  -- the device's clock
  abbrev pub clock_of : Option (Fs D) → ℕ
  clock_of (Some fs) = (state (seen fs).log.device).moment
  clock_of None = 0

  -- Calls of C in a row, what C is told by each, and the device's clock then. At any time between, C may make calls that leave the volume
  -- as it is, as one that may write does where it is only read; and the device may be tended to.
  pub data MakesInARow (last : Option (Fs D)) : Option (Fs D) → List Call → List ℤ → List ℕ → Type 0 where
    no_more : MakesInARow last last [] [] []
    is_served : {old : Option (Fs D)} {calls : List Call} {codes : List ℤ} {clocks : List ℕ} (new : Option (Fs D)) (call : Call) (code : ℤ)
        → ServesByContract old new call code → MakesInARow last new calls codes clocks
        → MakesInARow last old (call ∷ calls) (code ∷ codes) (clock_of new ∷ clocks)
    is_only_read : {old : Option (Fs D)} {calls : List Call} {codes : List ℤ} {clocks : List ℕ} (new : Option (Fs D)) (code : ℤ)
        → IsOnlyRead state old new code → MakesInARow last new calls codes clocks → MakesInARow last old calls codes clocks
    is_same : {old : Option (Fs D)} {calls : List Call} {codes : List ℤ} {clocks : List ℕ} (new : Option (Fs D)) → new ≡ old
        → MakesInARow last new calls codes clocks → MakesInARow last old calls codes clocks
    is_tended : {old : Option (Fs D)} {calls : List Call} {codes : List ℤ} {clocks : List ℕ} (was is : Fs D) → old ≡ Some was
        → IsTended state (seen was) (seen is) → MakesInARow last (Some is) calls codes clocks → MakesInARow last old calls codes clocks

  -- The numbers are those of answers that are a run of the model, of which a stop leaves what it leaves of a volume's calls in a row.
  pub record AreKept (old new : Fs D) (calls : List Call) (codes : List ℤ) (clocks : List ℕ) (first : Point) : Type 0 where
    pub answers : List Answer
    pub told : codes ≡ map code_of_answer answers
    pub kept : volume.AreKept state (seen old) (seen new) calls answers clocks first

  -- So it is of each list of calls, from a point on at which the volume is saved, over a device that keeps the model.
  abbrev pub CallsAreKept : Type 0
  CallsAreKept = (old new : Fs D) (calls : List Call) (codes : List ℤ) (clocks : List ℕ)
      → MakesInARow (Some new) (Some old) calls codes clocks → (state (seen new).log.device).keeps_model → (first : Point)
      → IsSavedAt state (seen old) first → AreKept old new calls codes clocks first

  -- A mount comes to such a point.
  abbrev pub MountsAreSaved : Type 0
  MountsAreSaved = (device : D) (fs : Fs D) → Mounts state device fs → (state (seen fs).log.device).keeps_model
      → MountsSaved state device fs
