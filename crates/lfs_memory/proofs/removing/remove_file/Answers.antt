use Rattle.std.proofs.Common.{rules, ap, not}
use Rattle.lfs_memory.proofs.Going.{on_err}
use Rattle.lfs_memory.proofs.Lifted.{prepares_none, map_lost}
use Rattle.lfs_memory.proofs.Removed.{map_and_looks, map_excused, uncovered_excused, file_removed}
use Rattle.lfs_memory.proofs.removing.remove_file.Goals as goal

pub returns-in_err-lift_map_of-clause-prepares : goal.returns-in_err-lift_map_of-clause-prepares
returns-in_err-lift_map_of-clause-prepares g c =
    on_err c.from_residual.result _ (prepares_none {most = 0} c.in_err-lift_map_of.ensures.same c.requires.memory)

pub returns-in_err-lift_map_of-clause-failed : goal.returns-in_err-lift_map_of-clause-failed
returns-in_err-lift_map_of-clause-failed g c =
    on_err c.from_residual.result _ (map_lost _ c.in_err-lift_map_of.ensures.lost)

pub returns-in_err-count_file-clause-prepares : goal.returns-in_err-count_file-clause-prepares
returns-in_err-count_file-clause-prepares g c =
    on_err c.from_residual-in_err-count_file.result _ (map_and_looks (g.met.D.SectorDevice.lawful _) c.requires.memory
    c.in_ok-lift_map_of.ensures.done c.count_file.ensures.looks.looks)

pub returns-in_err-count_file-clause-failed : goal.returns-in_err-count_file-clause-failed
returns-in_err-count_file-clause-failed g c =
    on_err c.from_residual-in_err-count_file.result _ (map_excused (g.met.D.SectorDevice.lawful _) c.requires.memory
    c.in_ok-lift_map_of.ensures.done c.count_file.ensures.looks.looks c.in_err-count_file.ensures.looks.failed)

pub returns-then-not-are_covered-clause-prepares : goal.returns-then-not-are_covered-clause-prepares
returns-then-not-are_covered-clause-prepares g c =
    map_and_looks (g.met.D.SectorDevice.lawful _) c.requires.memory c.in_ok-lift_map_of.ensures.done
    c.count_file.ensures.looks.looks

pub returns-then-not-are_covered-clause-failed : goal.returns-then-not-are_covered-clause-failed
returns-then-not-are_covered-clause-failed g c =
    uncovered_excused (g.met.D.SectorDevice.lawful _) c.requires.memory c.in_ok-lift_map_of.ensures.done
    c.count_file.ensures.looks.looks _ _ c.requires.number (ap not c.is_hidden-lives.ensures)
    c.in_ok-count_file.ensures.counted (c.if-not-are_covered.ensures.no (search rules))

pub returns-clause-removed : goal.returns-clause-removed
returns-clause-removed g c =
    file_removed (g.met.D.SectorDevice.lawful _) c.requires.memory c.in_ok-lift_map_of.ensures.done
    c.count_file.ensures.looks.looks _ _ c.requires.number (ap not c.is_hidden-lives.ensures)
    c.in_ok-count_file.ensures.counted c.drop_file.ensures c.in_ok-lift_map_of.ensures.mapped
