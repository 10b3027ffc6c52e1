-- What a stop leaves of a recorder's lines.
use Rattle.std.specs.Prelude.{◌≡◌, ◌≢◌, ◌<◌, ◌≤◌, ℕ, true, List, ◌∷◌, Some, length, map, slice_get, take}
use Rattle.std.specs.FinMap.{find}
use Rattle.std.specs.Ordering.{nat_cmp}
use Rattle.std.specs.declared.cmp.Ordering.TheVariants.{Less}
use Rattle.lfs_model.specs.Call.{Done, Sync}
use Rattle.lfs_model.specs.Content.{Content}
use Rattle.lfs_model.specs.Device.{DeviceState}
use Rattle.lfs_model.specs.Run.{Point, Run}
use Rattle.lfs_model.specs.Since.{Since}
use Rattle.lfs_model.specs.Sound.{Sound}
use Rattle.lfs_model.specs.Tree.{File, State, byte_cmp, entry, node}
use Rattle.lfs_model.specs.TreeOf.{Stands}
use Rattle.lfs_record.specs.Kept.{Holds, RecordFile, files_in}
use Rattle.lfs_record.specs.Moves.{Calls, Moves, texts_in}
use Rattle.lfs_record.specs.Names.{is_name, number_of}
use Rattle.lfs_record.specs.declared.recorder.Present.{Present}
use Rattle.lfs_record.specs.declared.recorder.Recorder.{Recorder}

-- The present file is open: it has this number and ends here, its name is the last of a recorder's in the root, and no other of these
-- names gives it.
pub record IsOpen (number : ℕ) (s : State) (p : Present) : Type 0 where
  pub name : List ℕ
  pub n : ℕ
  pub bytes : List ℕ
  pub is_there : entry s.tree 1 name ≡ Some n
  pub named : is_name name ≡ true
  pub numbered : number_of name ≡ number
  pub is_file : node s.tree n ≡ Some (File bytes)
  pub opens : find nat_cmp p.handle s.handles ≡ Some n
  pub long : p.end ≡ length bytes
  pub last : (other : List ℕ) (k : ℕ) → entry s.tree 1 other ≡ Some k → is_name other ≡ true → other ≢ name
      → (byte_cmp other name ≡ Less) × (k ≢ n)

-- A recorder goes by this state: no name has a greater number than its newest, and its present file is open.
pub record GoesBy (r : Recorder) (s : State) : Type 0 where
  pub newest : (name : List ℕ) (n : ℕ) → entry s.tree 1 name ≡ Some n → is_name name ≡ true → number_of name ≤ r.number
  pub present : (p : Present) → r.present ≡ Some p → IsOpen r.number s p

-- The content stands for a state whose files hold, since the first ones, the texts of the first n calls: each save that was told among
-- the first i calls is one of these.
pub record LeavesFiles (first : List RecordFile) (calls : Calls) (i : ℕ) (c : Content) : Type 0 where
  pub n : ℕ
  pub saved : (j : ℕ) → j < i → slice_get calls j ≡ Some (Sync, Done) → j < n
  pub state : State
  pub stands : Stands c state
  pub holds : Holds first (texts_in (take n calls)) (files_in state.tree)

-- A recorder's calls, as a run of the model from a point on.
pub record IsRecorded (N : ℕ) (first : Point) (r r' : Recorder) (calls : Calls) (points : List Point) : Type 0 where
  pub moves : Moves r calls r'
  pub run : Run N first (map (λ c. c.0) calls) (map (λ c. c.1) calls) points
  pub sound : Sound N first.state
  pub goes_by : GoesBy r first.state

-- Behind each call the files hold all texts so far. And a stop at any moment since the i-th clock leaves files that hold, one behind the
-- other, all lines that were saved by then and perhaps later ones, but for whole files that went.
pub record KeepsLines (d : DeviceState) (first : Point) (calls : Calls) (points : List Point) : Type 0 where
  pub behind : (n : ℕ) (q : Point) → slice_get (first ∷ points) n ≡ Some q
      → Holds (files_in first.state.tree) (texts_in (take n calls)) (files_in q.state.tree)
  pub since : (i t : ℕ) → Since d (first ∷ points) (map (λ c. c.0) calls) (map (λ c. c.1) calls) i t → (c : Content) → d.left_since t c
      → LeavesFiles (files_in first.state.tree) calls i c

abbrev pub LinesAreKept : {D : Type 0} → (D → DeviceState) → Type 0
LinesAreKept {D} state = (device : D) (N : ℕ) (first : Point) (r r' : Recorder) (calls : Calls) (points : List Point)
    → IsRecorded N first r r' calls points → KeepsLines (state device) first calls points
