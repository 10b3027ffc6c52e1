use Rattle.std.proofs.Common.{rules}
use Rattle.lfs_memory.proofs.Lifted.{prepares_then, prepares_excused}
use Rattle.lfs_memory.proofs.CutEdges.{passed_on}
use Rattle.lfs_memory.proofs.Prepared.{absent_within, excused_within, way_high}
use Rattle.lfs_memory.proofs.Going.{ok_then}
use Rattle.lfs_memory.proofs.preparing.prepare_way.Goals as goal

pub returns-in_err-found-clause-ends : goal.returns-in_err-found-clause-ends
returns-in_err-found-clause-ends g c = record {
  ready = search rules;
  full = search rules;
  short = search rules;
  failed = λ is. excused_within (g.D.SectorDevice.state c.args.device.now) (g.D.SectorDevice.state c.lift_inode.new.device)
      c.args.memory.now c.args.edit.now.number c.args.edit.now.index (c.in_err-found.ensures.ends.failed
      (passed_on c.from_residual.result c.in_err-found.field-0.0 _ c.from_residual.ensures is));
  no_failure = search rules;
}

pub returns-then-not-found-clause-ends : goal.returns-then-not-found-clause-ends
returns-then-not-found-clause-ends g c = record {
  ready = search rules;
  full = search rules;
  short = search rules;
  failed = λ is. absent_within (g.D.SectorDevice.state c.args.device.now) (g.D.SectorDevice.state c.lift_inode.new.device)
      c.args.memory.now c.args.edit.now.number c.args.edit.now.index c.if-edit-lt-DIRECT_BLOCKS.false
      (c.in_ok-found.ensures.absent (search rules));
  no_failure = search rules;
}

pub returns-clause-prepares : goal.returns-clause-prepares
returns-clause-prepares g c =
    prepares_then (g.met.D.SectorDevice.lawful _) c.lift_inode.ensures.prepares c.prepare_leaf.ensures.prepares

pub returns-clause-ends : goal.returns-clause-ends
returns-clause-ends g c = record {
  ready = ok_then c.prepare_leaf.result _ _
      (way_high c.prepare_leaf.new.memory c.args.edit.now.number c.args.edit.now.index c.if-edit-lt-DIRECT_BLOCKS.false)
      c.prepare_leaf.ensures.inside;
  full = search rules;
  short = search rules;
  failed = λ is. excused_within (g.D.SectorDevice.state c.args.device.now) (g.D.SectorDevice.state c.prepare_leaf.new.device)
      c.args.memory.now c.args.edit.now.number c.args.edit.now.index (prepares_excused
      c.lift_inode.ensures.prepares c.prepare_leaf.ensures.prepares.looks
      (c.prepare_leaf.ensures.ends.failed is));
  no_failure = search rules;
}
