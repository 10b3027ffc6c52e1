-- A directory of a volume: its names as the model sees them, and the least number that is free.
use Rattle.lfs_steps.proofs.Prelude.{refl, ◌≡◌, ◌≢◌, ◌<◌, ◌≤◌, ◌*◌, ℕ, true, false, List, [], length, Option, Some, None, sym, ◌∙◌, ap}
use Rattle.lfs_steps.proofs.Prelude.{⊎_elim, arith, ◌∷◌, unwrap_or, cases_lt, find, Kind, IsDirectory, IsHeaderOf, LogMap, is_full, Dir}
use Rattle.lfs_steps.proofs.Prelude.{File, Node, State, byte_cmp, form_of, is_dir, least, name_limit, name_len, names_in, names_of, node}
use Rattle.lfs_steps.proofs.Prelude.{slot_len, map_of, node_by, slots, least_free, starts_one, slots_length, as_header}
use Rattle.lfs_model.specs.declared.Kind.TheVariants as kind
use Rattle.lfs_model.specs.Encodes.{HasInode}
use Rattle.lfs_model.specs.Entry as entry
use Rattle.lfs_model.specs.Tree.{Names, entry as entry_in}
use Rattle.lfs_model.proofs.Leasts.{least_taken}
use Rattle.lfs_files.specs.declared.header.Header.{Header}
use Rattle.lfs_steps.proofs.calls.Checks.{below, at_most, not_at_most}
use Rattle.lfs_steps.proofs.volume.Slots.{all_slots, free_slots, slots_whole, some_slot}
use Rattle.lfs_steps.proofs.volume.Nodes.{IsMapOf, dir_there, no_header_none, node_by_header}

kind_by_node : (m : LogMap) (n : ℕ) (h : entry.Header) (k : Kind) → is_dir (Some (node_by m k n h)) ≡ true → k ≡ kind.Directory
kind_by_node m n h kind.File dir = absurd (cc)
kind_by_node m n h kind.Directory dir = refl
kind_by_node m n h kind.Link dir = absurd (cc)

-- a map that has a name isn't empty
some_names : (ms : Names) (nm : List ℕ) {n : ℕ} → find byte_cmp nm ms ≡ Some n → 0 < length ms
some_names [] nm found = cc
some_names (e ∷ ms) nm found = omega arith

module _ (N : ℕ) (m : LogMap) (s : State) (is : IsMapOf N m s) (d : ℕ) (dir : is_dir (node s.tree d) ≡ true) (head : Header)
    (there : m.header d ≡ Some (as_header head)) where
  in_range : (1 ≤ d) × (d ≤ 4095)
  in_range = is.log.sound.numbers d (dir_there s.tree d dir)

  -- so says its header
  pub directory_kind : head.kind ≡ kind.Directory
  directory_kind =
      kind_by_node m d (as_header head) head.kind (ap is_dir (sym (node_by_header is.log d in_range there)) ∙ dir)

  -- the names in it
  abbrev pub names_there : Names
  names_there = map_of head.form (slots m d (as_header head))

  pub directory_node : node s.tree d ≡ Some (Dir head.form names_there)
  directory_node = node_by_header is.log d in_range there ∙ ap (λ (k : Kind). Some (node_by m k d (as_header head))) directory_kind

  pub names_in_directory : names_in s.tree d ≡ names_there
  names_in_directory = ap (λ (o : Option Node). names_of (unwrap_or o (File []))) directory_node

  pub entry_in_directory : (piece : List ℕ) → entry_in s.tree d piece ≡ find byte_cmp piece names_there
  entry_in_directory piece = ap (find byte_cmp piece) names_in_directory

  pub limit_in_directory : name_limit s.tree d ≡ name_len head.form
  limit_in_directory = ap (λ (o : Option Node). name_len (form_of o)) directory_node

  -- so many bytes
  pub size_of_directory : IsHeaderOf d (as_header head) → slot_len head.form * length (names_in s.tree d) ≡ head.size
  size_of_directory fits =
      slots_whole head.form
      (ap length names_in_directory ∙ (is.log.formed d (as_header head) there directory_kind).1 ∙ slots_length m d (as_header head))
      (fits.slots directory_kind)

  -- one that has a name has a slot
  pub slot_in_directory : IsHeaderOf d (as_header head) → (nm : List ℕ) {n : ℕ}
      → find byte_cmp nm names_there ≡ Some n → slot_len head.form ≤ head.size
  slot_in_directory fits nm {n} found =
      let size = size_of_directory fits in
      let some = some_names names_there nm found in
      let same = ap length names_in_directory in
      some_slot head.form (length (names_in s.tree d)) size (omega (arith, some, same))

  pub full_directory : IsHeaderOf d (as_header head) → 1023 * slot_len head.form < head.size → is_full s.tree d ≡ true
  full_directory fits full =
      at_most 1024 (length (names_in s.tree d)) (all_slots head.form (length (names_in s.tree d)) (size_of_directory fits) full)

  pub free_directory : IsHeaderOf d (as_header head) → head.size ≤ 1023 * slot_len head.form → is_full s.tree d ≡ false
  free_directory fits free = not_at_most 1024 (length (names_in s.tree d))
      (free_slots head.form (length (names_in s.tree d)) (size_of_directory fits) free)

  pub directory_formed : IsHeaderOf d (as_header head) → IsDirectory m d (as_header head)
  directory_formed fits = let formed = is.log.formed d (as_header head) there directory_kind in
      record { whole = fits.slots directory_kind; formed = formed.0; apart = formed.1 }

-- ---- the least number

module _ (N : ℕ) (m : LogMap) (s : State) (is : IsMapOf N m s) where
  least_is : (1 ≤ least s.tree) × (node s.tree (least s.tree) ≡ None)
  least_is = least_free 1 s.tree is.log.sound.in_order (starts_one s.tree is.log.sound.numbers)

  taken : (k : ℕ) → 1 ≤ k → k < least s.tree → node s.tree k ≢ None
  taken k low below = least_taken 1 s.tree is.log.sound.in_order (starts_one s.tree is.log.sound.numbers) k low below

  -- a file has a node
  inode_node : (k : ℕ) → (1 ≤ k) × (k ≤ 4095) → HasInode m k → node s.tree k ≢ None
  inode_node k in_range has none =
      let both : None ≡ Some (node_by m has.0.kind k has.0) = sym none ∙ node_by_header is.log k in_range has.1 in cc

  -- the least that has no header
  pub least_number : (n : ℕ) → 1 ≤ n → n < 4096 → m.header n ≡ None → ((k : ℕ) → 1 ≤ k → k < n → HasInode m k) → least s.tree ≡ n
  least_number n some few free below_n = ⊎_elim
      (λ (lower : least s.tree < n).
      absurd (inode_node (least s.tree) (least_is.0, omega arith) (below_n (least s.tree) least_is.0 lower) least_is.1))
      (λ (le : n ≤ least s.tree). ⊎_elim
      (λ (higher : n < least s.tree). absurd (taken n some higher (no_header_none is.log n free)))
      (λ (ge : least s.tree ≤ n). omega arith)
      (cases_lt n (least s.tree)))
      (cases_lt (least s.tree) n)

  -- there is none
  pub no_least : ((k : ℕ) → 1 ≤ k → k < 4096 → HasInode m k) → 4095 < least s.tree
  no_least all = ⊎_elim
      (λ (past : 4095 < least s.tree). past)
      (λ (low : least s.tree ≤ 4095).
      absurd (inode_node (least s.tree) (least_is.0, low) (all (least s.tree) least_is.0 (omega arith)) least_is.1))
      (cases_lt 4095 (least s.tree))
