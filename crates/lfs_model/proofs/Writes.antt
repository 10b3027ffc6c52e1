-- A file with other bytes keeps a state sound.
use Rattle.std.proofs.Common.{◌≡◌, refl, ℕ, ◌*◌, ◌≤◌, List, Some}
use Rattle.lfs_model.specs.Tree.{File, State, node, with_node}
use Rattle.lfs_model.specs.Need.{need}
use Rattle.lfs_model.specs.Sound.{Sound, IsWithinLimits}
use Rattle.lfs_model.specs.Step.{with_tree}
use Rattle.lfs_model.proofs.Alike.{replaced_sound}

pub written_sound : (N : ℕ) (s : State) (n : ℕ) (old new : List ℕ) → Sound N s → node s.tree n ≡ Some (File old) → IsWithinLimits (File new)
    → need (with_node s.tree n (File new)) ≤ 47 * N → Sound N (with_tree s (with_node s.tree n (File new)))
written_sound N s n old new sound is good fits =
    replaced_sound N s n (File old) (File new) sound is refl refl good tt (λ file. (new, refl)) fits
