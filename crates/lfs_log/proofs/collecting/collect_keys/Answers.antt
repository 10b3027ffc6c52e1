use Rattle.std.proofs.Common.{rules, ◌≡◌, ◌∙◌, refl, arith, length}
use Rattle.lfs_memory.proofs.Going.{on_err}
use Rattle.lfs_log.proofs.Collected.{collects_none, collects_then, each_more, each_none, lists_all}
use Rattle.lfs_log.proofs.Relocated.{relocated_excused, relocates_then}
use Rattle.lfs_log.proofs.collecting.collect_keys.Goals as goal

pub loop-victim-init : goal.loop-victim-init
loop-victim-init g c =
    let old = g.D.SectorDevice.state c.args.device.now in
    record {
      collects = collects_none old c.args.keys.now c.requires.memory;
      no_failure = refl;
      lists = each_none old c.args.memory.now c.args.victims.now c.args.keys.now.keys;
    }

pub returns-in_err-collect_segment-clause-relocates : goal.returns-in_err-collect_segment-clause-relocates
returns-in_err-collect_segment-clause-relocates g c =
    relocates_then (g.met.D.SectorDevice.lawful c.args.device.now) c.loop-victim.invariant.collects.relocates
    c.collect_segment.ensures.collects.relocates

pub returns-in_err-collect_segment-clause-failed : goal.returns-in_err-collect_segment-clause-failed
returns-in_err-collect_segment-clause-failed g c =
    let old = g.D.SectorDevice.state c.args.device.now in
    let now = g.D.SectorDevice.state c.loop-victim.device in
    let next = g.D.SectorDevice.state c.collect_segment.new.device in
    let one = c.loop-victim.invariant.collects.relocates in
    on_err c.from_residual.result _ (relocated_excused old now next c.args.memory.now one c.collect_segment.ensures.collects.relocates.looks
    c.in_err-collect_segment.ensures.failed)

pub loop-victim-preserved : goal.loop-victim-preserved
loop-victim-preserved g c =
    let old = g.D.SectorDevice.state c.args.device.now in
    let now = g.D.SectorDevice.state c.loop-victim.device in
    let next = g.D.SectorDevice.state c.collect_segment.new.device in
    let so_far = c.loop-victim.invariant in
    record {
      collects = collects_then (g.met.D.SectorDevice.lawful c.args.device.now) so_far.collects c.collect_segment.ensures.collects _
          (omega arith);
      no_failure = c.in_ok-collect_segment.ensures.no_failure ∙ so_far.no_failure;
      lists = each_more old now next c.args.memory.now c.loop-victim.memory c.collect_segment.new.memory c.args.victims.now
          c.loop-victim.victim-index _ (search rules) c.collect_segment.ensures.collects.relocates.looks.carries.kept_before
          c.collect_segment.ensures.collects.adds c.in_ok-collect_segment.ensures.lists so_far.lists;
    }

pub returns-clause-lists : goal.returns-clause-lists
returns-clause-lists g c =
    let low = c.loop-victim.auto.victim-index-end in
    let high = c.loop-victim-test.false in
    let all : c.loop-victim.victim-index ≡ length c.args.victims.now = omega (arith, low, high) in
    lists_all (g.D.SectorDevice.state c.args.device.now) (g.D.SectorDevice.state c.loop-victim.device) c.args.memory.now
    c.loop-victim.memory c.args.victims.now c.loop-victim.keys.keys (rw (← all) c.loop-victim.invariant.lists)
