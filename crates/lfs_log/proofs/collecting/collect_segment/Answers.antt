use Rattle.std.proofs.Common.{rules, ◌≡◌, ◌≤◌, ◌+◌, ◌*◌, ◌∙◌, refl, ap, arith, subst}
use Rattle.lfs_memory.specs.segments.Table.{used_of}
use Rattle.lfs_memory.proofs.Going.{on_err}
use Rattle.lfs_log.proofs.Collected.{ListsTo, all_listed, chunk_lost, collects_lifts, collects_looked, collects_none, collects_then}
use Rattle.lfs_log.proofs.Collected.{lifts_relocates, lists_more, lists_start, no_summary, summary_missing, too_long}
use Rattle.lfs_log.proofs.Relocated.{relocates_then}
use Rattle.lfs_log.proofs.collecting.collect_segment.Goals as goal

pub loop-at-init : goal.loop-at-init
loop-at-init g c =
    let old = g.D.SectorDevice.state c.args.device.now in
    let used_is : c.from-used.result ≡ used_of c.args.memory.now.usage c.args.segment = search rules in
    let few : c.from-used.result ≤ 64 = let f = c.state.ensures.fits.used in let v = ap (λ n. n.used) c.state.ensures.value in
    omega (arith, f, v, used_is) in
    record {
      collects = collects_none old c.args.keys.now c.requires.memory;
      no_failure = refl;
      lists = rw used_is (lists_start old c.args.memory.now c.args.segment c.args.keys.now.keys c.requires.closed c.requires.inside);
      within = omega arith;
      used_is = used_is;
      few = few;
    }

pub returns-in_err-read_sector-clause-collects : goal.returns-in_err-read_sector-clause-collects
returns-in_err-read_sector-clause-collects g c =
    let so_far = c.loop-at.invariant in
    let few = so_far.few in
    let within = so_far.within in
    let lawful = g.met.D.SectorDevice.lawful c.args.device.now in
    collects_looked lawful so_far.collects c.read_sector.ensures.looks 64 (omega (arith, few, within))

pub returns-in_err-read_sector-clause-failed : goal.returns-in_err-read_sector-clause-failed
returns-in_err-read_sector-clause-failed g c =
    let so_far = c.loop-at.invariant in
    on_err c.from_residual.result _ (summary_missing c.loop-at.keys c.args.segment c.from-used.result c.loop-at.at
    (g.met.D.SectorDevice.lawful c.args.device.now) so_far.collects.relocates so_far.lists c.read_sector.ensures.looks
    c.requires.size c.requires.inside so_far.few c.loop-at-test.true c.in_err-read_sector.ensures.unread)

pub returns-in_default-clause-collects : goal.returns-in_default-clause-collects
returns-in_default-clause-collects g c =
    let so_far = c.loop-at.invariant in
    let few = so_far.few in
    let within = so_far.within in
    let lawful = g.met.D.SectorDevice.lawful c.args.device.now in
    collects_looked lawful so_far.collects c.read_sector.ensures.looks 64 (omega (arith, few, within))

pub returns-in_default-clause-failed : goal.returns-in_default-clause-failed
returns-in_default-clause-failed g c =
    let so_far = c.loop-at.invariant in
    no_summary c.loop-at.keys c.args.segment c.from-used.result c.loop-at.at (g.met.D.SectorDevice.lawful c.args.device.now)
    so_far.collects.relocates so_far.lists c.read_sector.ensures.looks c.requires.size c.requires.inside so_far.few c.loop-at-test.true
    c.in_ok-read_sector.ensures.read c.in_default.ensures.exact

pub returns-then-count-used-clause-collects : goal.returns-then-count-used-clause-collects
returns-then-count-used-clause-collects g c =
    let so_far = c.loop-at.invariant in
    let few = so_far.few in
    let within = so_far.within in
    let lawful = g.met.D.SectorDevice.lawful c.args.device.now in
    collects_looked lawful so_far.collects c.read_sector.ensures.looks 64 (omega (arith, few, within))

pub returns-then-count-used-clause-failed : goal.returns-then-count-used-clause-failed
returns-then-count-used-clause-failed g c =
    let so_far = c.loop-at.invariant in
    too_long c.loop-at.keys c.args.segment c.from-used.result c.loop-at.at (g.met.D.SectorDevice.lawful c.args.device.now)
    so_far.collects.relocates so_far.lists c.read_sector.ensures.looks c.requires.size c.requires.inside so_far.few c.loop-at-test.true
    c.in_ok-read_sector.ensures.read c.in-Some.ensures.exact c.len-count.ensures
    (let big = c.if-count-used.true in let lt = c.loop-at-test.true in omega (arith, big, lt))

pub returns-in_err-collect_chunk-clause-collects : goal.returns-in_err-collect_chunk-clause-collects
returns-in_err-collect_chunk-clause-collects g c =
    let so_far = c.loop-at.invariant in
    let lawful = g.met.D.SectorDevice.lawful c.args.device.now in
    let few = so_far.few in
    let small = c.if-count-used.false in
    let count = c.len-count.ensures in
    collects_then lawful (collects_looked lawful so_far.collects c.read_sector.ensures.looks c.loop-at.at (omega arith))
    (collects_lifts c.collect_chunk.ensures.lifts.0 (g.D.SectorDevice.state c.read_sector.new.device) c.loop-at.memory
    c.collect_chunk.new.memory (g.met.D.SectorDevice.lawful c.read_sector.new.device) so_far.collects.relocates.memory
    c.collect_chunk.ensures.lifts.1 c.collect_chunk.ensures.adds) 64 (let lt = c.loop-at-test.true in omega (arith, few, small, count, lt))

pub returns-in_err-collect_chunk-clause-failed : goal.returns-in_err-collect_chunk-clause-failed
returns-in_err-collect_chunk-clause-failed g c =
    let so_far = c.loop-at.invariant in
    let lawful = g.met.D.SectorDevice.lawful c.args.device.now in
    let looked = collects_looked lawful so_far.collects c.read_sector.ensures.looks c.loop-at.at (omega arith) in
    on_err c.from_residual-in_err-collect_chunk.result _ (chunk_lost (relocates_then lawful looked.relocates
    (lifts_relocates c.collect_chunk.ensures.lifts.0 (g.D.SectorDevice.state c.read_sector.new.device) c.loop-at.memory
    c.collect_chunk.new.memory (g.met.D.SectorDevice.lawful c.read_sector.new.device) so_far.collects.relocates.memory
    c.collect_chunk.ensures.lifts.1)) c.in_err-collect_chunk.ensures.lost)

pub loop-at-preserved : goal.loop-at-preserved
loop-at-preserved g c =
    let so_far = c.loop-at.invariant in
    let lawful = g.met.D.SectorDevice.lawful c.args.device.now in
    let few = so_far.few in
    let small = c.if-count-used.false in
    let count = c.len-count.ensures in
    let lt = c.loop-at-test.true in
    let chunk = collects_lifts c.collect_chunk.ensures.lifts.0 (g.D.SectorDevice.state c.read_sector.new.device) c.loop-at.memory
    c.collect_chunk.new.memory (g.met.D.SectorDevice.lawful c.read_sector.new.device) so_far.collects.relocates.memory
    c.collect_chunk.ensures.lifts.1 c.collect_chunk.ensures.adds in
    record {
      collects = collects_then lawful (collects_looked lawful so_far.collects c.read_sector.ensures.looks c.loop-at.at (omega arith)) chunk
          (c.loop-at.at + (1 + c.len-count.result)) (omega (arith, count));
      no_failure = c.in_ok-read_sector.ensures.no_failure ∙ so_far.no_failure;
      lists = lists_more c.loop-at.keys c.args.segment c.from-used.result c.loop-at.at lawful so_far.collects.relocates so_far.lists
          c.read_sector.ensures.looks c.requires.size c.requires.inside few lt c.in_ok-read_sector.ensures.read c.in-Some.ensures.exact
          c.requires.closed so_far.used_is (omega (arith, small, lt, count)) chunk.relocates chunk.adds
          (2 + 64 * c.args.segment + c.loop-at.at + 1) (c.loop-at.at + (1 + c.len-count.result)) refl (omega (arith, count))
          c.in_ok-collect_chunk.ensures.lists;
      within = omega (arith, small, lt, count);
      used_is = so_far.used_is;
      few = few;
    }

pub returns-clause-lists : goal.returns-clause-lists
returns-clause-lists g c =
    let old = g.D.SectorDevice.state c.args.device.now in
    let now = g.D.SectorDevice.state c.loop-at.device in
    let so_far = c.loop-at.invariant in
    let within = so_far.within in
    let high = c.loop-at-test.false in
    let end : c.loop-at.at ≡ c.from-used.result = omega (arith, within, high) in
    all_listed old now c.args.memory.now c.loop-at.memory c.args.segment c.loop-at.keys.keys
    c.requires.closed c.requires.inside so_far.used_is (g.met.D.SectorDevice.lawful c.args.device.now) c.requires.size so_far.few
    (subst (λ at. ListsTo old now c.args.memory.now c.loop-at.memory c.args.segment c.from-used.result at c.loop-at.keys.keys) end
    so_far.lists)
