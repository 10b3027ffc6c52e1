-- Pieces walked one after the other, over files with a draft.
use Rattle.std.proofs.Common.{◌≡◌, sym, subst, ℕ, List, ◌∷◌}
use Rattle.lfs_model.specs.declared.number.FileNumber.{FileNumber}
use Rattle.lfs_model.specs.Stands.{LogMap}
use Rattle.lfs_model.specs.Tree.{Dir}
use Rattle.lfs_model.specs.TreeOf.{tree_in}
use Rattle.lfs_model.specs.Walk.{Gives}
use Rattle.lfs_files.specs.Files.{FilesState}
use Rattle.lfs_path.specs.Passing.{Leads}
use Rattle.lfs_path.specs.Seeing.{IsSeen}
use Rattle.lfs_path.specs.Telling.{Tells}
use Rattle.lfs_path.specs.Trees.{InChain, InDirectory, here, risen}
use Rattle.lfs_path.specs.declared.seen.Seen.TheVariants as seen
use Rattle.lfs_path.proofs.Chains.{dot_dot_leads, dot_leads, in_directory, name_leads}

module _ {S D : Type 0} (s s' : FilesState S D) {d : ℕ} (piece chain : List ℕ) (at : d ≡ here chain) where
  within : {m : LogMap} → InChain chain m → InDirectory d m
  within {m} is = rw (← sym at) (in_directory m chain is)

  pub here_passes : Tells s s' (InDirectory d) (IsSeen d piece seen.Here) → Tells s s' (InChain chain) (Leads piece chain chain)
  here_passes sees m m' keeps has is = dot_leads (sees m m' keeps has (within is)) is

  pub above_passes : {chain' : List ℕ} → chain' ≡ risen chain → Tells s s' (InDirectory d) (IsSeen d piece seen.Above)
      → Tells s s' (InChain chain) (Leads piece chain chain')
  above_passes {chain'} up_there sees m m' keeps has is = dot_dot_leads m' chain (sees m m' keeps has (within is)) up_there is

  pub name_passes : {chain' : List ℕ} (n : FileNumber) → chain' ≡ n.value ∷ chain
      → Tells s s' (InDirectory d) (IsSeen d piece (seen.Directory n)) → Tells s s' (InChain chain) (Leads piece chain chain')
  name_passes {chain'} n down sees m m' keeps has is =
      let given = sees m m' keeps has (within is) in
      name_leads m' piece chain (subst (λ (a : ℕ). Gives (tree_in m') a piece n.value (Dir given.0 given.1)) at given.2) down is
