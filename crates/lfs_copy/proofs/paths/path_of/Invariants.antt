use Rattle.lfs_copy.specs.Paths.{LeadsTo}
use Rattle.lfs_copy.proofs.paths.path_of.Given as goal

-- the path so far leads from this directory
abbrev pub invariant-loop : goal.invariant-loop
invariant-loop l = LeadsTo l.fn.rows l.fn.row l.directory l.path.items
