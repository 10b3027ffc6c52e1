use Rattle.lfs_dirs.proofs.Widenings.{WidenedTo}
use Rattle.lfs_dirs.proofs.widening.wide_slots.Given as goal

abbrev pub invariant-loop-index : goal.invariant-loop-index
invariant-loop-index g l =
    WidenedTo l.directory.value l.fn.header (g.F.Files.state l.initial.files) (g.F.Files.state l.files) l.index l.slots.items
