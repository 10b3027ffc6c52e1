-- Objects that names give, as the model sees them: whether names stand in them.
use Rattle.lfs_steps.proofs.Prelude.{◌≡◌, ◌<◌, ◌≤◌, ◌*◌, ℕ, Bool, true, false, [], length, Option, Some, None, refl, ◌∙◌, ap, nat_lt, arith}
use Rattle.lfs_steps.proofs.Prelude.{unwrap_or, IsHeaderOf, LogMap, Dir, File, Link, Node, State, Tree, is_dir, links_at, names_in}
use Rattle.lfs_steps.proofs.Prelude.{names_of, node, slot_len, as_header, is_directory}
use Rattle.lfs_model.specs.Tree.{Names}
use Rattle.lfs_files.specs.declared.header.Header.{Header}
use Rattle.lfs_steps.proofs.calls.Checks.{below, not_below}
use Rattle.lfs_steps.proofs.volume.Nodes.{IsMapOf}
use Rattle.lfs_steps.proofs.volume.Directories.{size_of_directory}
use Rattle.lfs_steps.proofs.volume.Slots.{no_slots, some_names}

pub none_in : (x : Option Node) → is_dir x ≡ false → names_of (unwrap_or x (File [])) ≡ []
none_in None plain = refl
none_in (Some (File b)) plain = refl
none_in (Some (Dir form ms)) plain = cc
none_in (Some (Link text)) plain = refl

pub two_links : (x : Option Node) (t : Tree) (d : ℕ) → is_dir x ≡ true → 2 ≤ links_at t d x
two_links None t d dir = cc
two_links (Some (File b)) t d dir = cc
two_links (Some (Dir form ms)) t d dir = omega arith
two_links (Some (Link text)) t d dir = cc

module _ {N : ℕ} {m : LogMap} {s : State} (is : IsMapOf N m s) {n : ℕ} (h : Header) (fits : IsHeaderOf n (as_header h))
    (there : m.header n ≡ Some (as_header h)) (kind : is_dir (node s.tree n) ≡ is_directory h.kind) where
  dir_names : is_directory h.kind ≡ true → slot_len h.form * length (names_in s.tree n) ≡ h.size
  dir_names dir = size_of_directory N m s is n (kind ∙ dir) h there fits

  pub has_entries : is_directory h.kind ≡ true → 0 < h.size → nat_lt 0 (length (names_in s.tree n)) ≡ true
  has_entries dir some = below 0 (length (names_in s.tree n)) (some_names h.form (length (names_in s.tree n)) (dir_names dir) some)

  pub no_entries : (is_directory h.kind ≡ true → h.size ≡ 0) → nat_lt 0 (length (names_in s.tree n)) ≡ false
  no_entries empty = by (is_directory h.kind) refl
    where
      by : (b : Bool) → is_directory h.kind ≡ b → nat_lt 0 (length (names_in s.tree n)) ≡ false
      by true dir = not_below 0 (length (names_in s.tree n))
          (let few = no_slots h.form (length (names_in s.tree n)) (dir_names dir) (empty dir) in omega (arith, few))
      by false plain = ap (λ (ms : Names). nat_lt 0 (length ms)) (none_in (node s.tree n) (kind ∙ plain))
