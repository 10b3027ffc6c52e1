use Rattle.lfs_dirs.proofs.Searches.{SearchedTo}
use Rattle.lfs_dirs.proofs.searching.find.Given as goal

abbrev pub invariant-loop-index : goal.invariant-loop-index
invariant-loop-index g l =
    SearchedTo l.directory.value l.fn.header l.name (g.F.Files.state l.initial.files) (g.F.Files.state l.files) l.index
