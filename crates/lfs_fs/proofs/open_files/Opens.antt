-- The ends of the call that opens a file.
use Rattle.lfs_fs.proofs.Prelude.{◌≡◌, ◌≢◌, ◌<◌, ◌≤◌, ℕ, true, false, List, inl, refl, sym, ◌∙◌, ap, subst, nat_cmp, put, Handle, Open}
use Rattle.lfs_fs.proofs.Prelude.{Refuse, CheckpointValue, DeviceState, IsLawful, IsDir, TooManyOpen, LogMap, Step, Handles, State, is_dir}
use Rattle.lfs_fs.proofs.Prelude.{least_handle, node, At, Resolve, Reads, Fs, seen, IsIn, Mounted, Serves, segments_of}
use Rattle.lfs_model.specs.declared.Kind.TheVariants as kind
use Rattle.lfs_files.specs.declared.header.Header.{Header}
use Rattle.lfs_fs.proofs.calls.Answers.{In, IsLooked, IsQuiet, answers}
use Rattle.lfs_fs.proofs.calls.Files.{was}
use Rattle.lfs_fs.proofs.calls.Steps.{never_worn}
use Rattle.lfs_fs.proofs.open_files.TableEnds.{table_serves}
use Rattle.lfs_fs.proofs.paths.Steps.{open_directory, open_file, open_too_many, with_handle}
use Rattle.lfs_fs.proofs.read.Shown.{directory, other_directory}
use Rattle.lfs_fs.proofs.volume.Map.{headers_of_volume, map_of_volume, opened_map}

pub open_quiet : (path : List ℕ) → IsQuiet (Open path)
open_quiet path = record { free = refl; memory = refl; leaves = refl; unclean = refl; kept = refl }

-- ---- a file gets a handle

module _ {D : Type 0} (state : D → DeviceState) (lawful : (d : D) → IsLawful (state d)) where
  module _ (old : Mounted D) {new : Mounted D} (reads : Reads state old.log new.log) (was : old.log.halted ≡ false)
      (p : List ℕ) (n : ℕ) (walks : (k : CheckpointValue) (m0 m : LogMap) (s : State) → (state new.log.device).keeps_model
      → IsIn state old k m0 m s → Resolve s.tree p true (At n))
      (files : (k : CheckpointValue) (m0 m : LogMap) (s : State) → (state new.log.device).keeps_model → IsIn state old k m0 m s
      → is_dir (node s.tree n) ≡ false) where
    open_gives : (h : ℕ) → h < 64 → least_handle old.table ≡ h
        → new.table ≡ put nat_cmp h n old.table → Serves state old new (Open p) (Handle h)
    open_gives h some first table =
        table_serves old new (lawful old.log.device) (lawful new.log.device) was (Open p)
        (Handle h) reads refl refl (λ e. cc) (λ q keeps here k m0 m is. (
        let walk = walks k m0 m q.state keeps is in
        let map = map_of_volume is in
        let file = files k m0 m q.state keeps is in
        let first_is : least_handle q.state.handles ≡ h = ap least_handle is.handles ∙ first in
        let few = subst (λ (x : ℕ). x < 64) (sym first_is) some in
        record {
          next = with_handle (segments_of old) q.state p n walk;
          map = opened_map (segments_of old) m map p n walk file few;
          handles = ap (λ (x : ℕ). put nat_cmp x n q.state.handles) first_is ∙ ap (put nat_cmp h n) is.handles ∙ sym table;
          steps = inl (
            subst (λ (x : ℕ). Step (segments_of old) q.state (Open p) (Handle x) (with_handle (segments_of old) q.state p n walk)) first_is
                (open_file (segments_of old) q.state p n walk file few),
            never_worn (segments_of old) (Open p) q refl refl,
          );
        }))

-- ---- the call, which came to object n and read its header
module _ {D : Type 0} {state : D → DeviceState} (lawful : (d : D) → IsLawful (state d)) {v : Mounted D} {f : Fs D} {path : List ℕ} {n : ℕ}
    {head : Header} (looked : IsLooked state v f path true n head) where
  pub opens_directory : head.kind ≡ kind.Directory → Serves state v (seen f) (Open path) (Refuse IsDir)
  opens_directory dir = answers lawful looked.begun (open_quiet path) tt
      (λ k m0 m s keeps is. open_directory (segments_of v) s path n (looked.walk k m0 m s keeps is)
      (directory (map_of_volume is) (headers_of_volume is) (looked.header k m0 m s keeps is) dir))

  module _ (other : head.kind ≢ kind.Directory) where
    file_is : In state v f (λ m s. is_dir (node s.tree n) ≡ false)
    file_is k m0 m s keeps is = other_directory (map_of_volume is) (headers_of_volume is) (looked.header k m0 m s keeps is) other

    pub opens_too_many : 64 ≤ least_handle f.handles → Serves state v (seen f) (Open path) (Refuse TooManyOpen)
    opens_too_many many = answers lawful looked.begun (open_quiet path) tt
        (λ k m0 m s keeps is. open_too_many (segments_of v) s path n (looked.walk k m0 m s keeps is) (file_is k m0 m s keeps is)
        (subst (λ hs. 64 ≤ least_handle hs) (sym (is.handles ∙ sym looked.begun.still.table)) many))

    pub opens_file : {h : ℕ} → h < 64 → least_handle f.handles ≡ h → {table : Handles} → table ≡ put nat_cmp h n f.handles
        → Serves state v (record (seen f) { table = table }) (Open path) (Handle h)
    opens_file {h} some first {table} opened = let still = looked.begun.still in
        open_gives state lawful v still.reads
        (was state lawful v f looked.begun) path n looked.walk file_is h some (ap least_handle (sym still.table) ∙ first)
        (opened ∙ ap (put nat_cmp h n) still.table)
