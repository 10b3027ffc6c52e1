use Rattle.std.proofs.Common.{ap, refl, rules}
use Rattle.lfs_device.specs.MemoryDevice.{device_state}
use Rattle.lfs_script.proofs.InTurn.{all_used, in_turn, stops, uses_none}
use Rattle.lfs_script.proofs.Used.{alone_in_volume, err_of, keeps_by_first, ok_of, on_of, same_later, session_by_first, unused_by_first}
use Rattle.lfs_volume.specs.Finding.{found_places}
use Rattle.lfs_volume.specs.Standing.{in_volume}
use Rattle.lfs_script.proofs.session.use_each.Goals as goal

pub loop-script-init : goal.loop-script-init
loop-script-init g c = λ keeps. (
  keeps,
  record { places = refl; units = λ places is. refl },
  λ before calls given was.
      uses_none (in_volume device_state c.args.device) (record {
        written = g.W.Write.contents c.args.writer.now;
        device = c.args.device;
        points = before;
        calls = calls;
        given = given;
      }) was,
)

pub loop-script-preserved : goal.loop-script-preserved
loop-script-preserved g c = λ keeps.
    let first = c.args.device in
    let current = c.loop-script.current in
    let left = c.use_and_stop.result.1 in
    let so_far = c.loop-script.invariant keeps in
    let next = keeps_by_first first current left so_far.1 c.use_and_stop.ensures.carries so_far.0 in
    let session = session_by_first first current left so_far.1 (ok_of _ c.in-Ok-default.is-0 c.use_and_stop.ensures.ran) in (
      next,
      same_later first current left so_far.1 (session.uses next) c.use_and_stop.ensures.carries next
          (on_of _ c.in-Ok-default.is-0 c.use_and_stop.ensures.apart),
      λ before calls given was.
          in_turn (in_volume device_state first) c.args.scripts.now c.loop-script.script-index c.script-item.result
          c.loop-script-test.true (search rules) c.as_slice-reader.ensures.value _ _ _ _ _
          (so_far.2 before calls given was) (_, _, session, session.uses next)
          (alone_in_volume first left (found_places (device_state first).size (device_state first).content) c.use_and_stop.ensures.alone),
    )

pub returns-in-Err-default-clause-stopped : goal.returns-in-Err-default-clause-stopped
returns-in-Err-default-clause-stopped g c = λ keeps before calls given was.
    let so_far = c.loop-script.invariant keeps in
    let unused = unused_by_first c.args.device c.loop-script.current c.use_and_stop.result.1 so_far.1
    (err_of _ c.in-Err-default.is-0 c.use_and_stop.ensures.refused) in
    stops (in_volume device_state c.args.device) c.args.scripts.now c.loop-script.script-index _ _ _ _ c.loop-script-test.true
    (ap g.W.Write.contents unused.unwritten) (so_far.2 before calls given was) unused.cause unused.reason unused.any_moment unused.left

pub returns-clause-ran : goal.returns-clause-ran
returns-clause-ran g c = λ keeps before calls given was.
    all_used (in_volume device_state c.args.device) c.args.scripts.now c.loop-script.script-index _ _ _ c.loop-script-test.false
    ((c.loop-script.invariant keeps).2 before calls given was)
