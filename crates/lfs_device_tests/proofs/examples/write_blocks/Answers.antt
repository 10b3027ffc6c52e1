use Rattle.std.proofs.Common.{ℕ, ◌+◌, ◌<◌, ◌≤◌, List, [], length, get_or, ◌∙◌, ap, arith}
use Rattle.lfs_model.specs.Device.{AreSectors, Carries, Cell, ComesFrom, CrashWritesUnit, DeviceState, Elapses, put, SameOutside}
use Rattle.lfs_model.proofs.Moments.{Run, run_from_write, write_outside}
use Rattle.lfs_model.proofs.UnitWrites.{crash_of_sectors}
use Rattle.lfs_device_tests.proofs.Pasted.{pasted_more}
use Rattle.lfs_device_tests.proofs.examples.write_blocks.Goals as goal

-- one write more into the row, done or failed
one_more : (first n sector : ℕ) (bytes : List ℕ) (old mid new : DeviceState) → first ≤ sector → sector < first + n → AreSectors mid.unit
    → Run old mid (ComesFrom old (SameOutside first n)) → CrashWritesUnit sector bytes mid new → Carries mid new → Elapses mid new
    → Run old new (ComesFrom old (SameOutside first n))
one_more first n sector bytes old mid new low high sectors run crash =
    run_from_write old mid new (SameOutside first n) sector bytes run (write_outside first n sector bytes low high)
    (crash_of_sectors mid new sector bytes sectors crash)

pub returns-in_err-write-clause-any_moment : goal.returns-in_err-write-clause-any_moment
returns-in_err-write-clause-any_moment g c =
    (one_more _ _ _ _ _ _ _ (omega arith) (omega arith) (g.met.D.SectorUnits.units c.loop-i.device) c.loop-i.invariant.run
    c.write.ensures.crash c.write.ensures.carries c.write.ensures.time).leaves

pub returns-in_err-write-clause-left : goal.returns-in_err-write-clause-left
returns-in_err-write-clause-left g c =
    (one_more _ _ _ _ _ _ _ (omega arith) (omega arith) (g.met.D.SectorUnits.units c.loop-i.device) c.loop-i.invariant.run
    c.write.ensures.crash c.write.ensures.carries c.write.ensures.time).now

pub loop-i-preserved : goal.loop-i-preserved
loop-i-preserved g c =
    let n = length c.args.blocks.now in
    let old = g.D.SectorDevice.state c.args.device.now in
    let so_far = c.loop-i.invariant in
    let inside : c.args.first + c.loop-i.i < length old.content =
    omega (arith, c.requires, (g.met.D.SectorDevice.lawful c.args.device.now).size) in
    let within : c.loop-i.i < n = omega arith in
    record {
      run =
          one_more _ n _ _ _ _ _ (omega arith) (omega arith) (g.met.D.SectorUnits.units c.loop-i.device) so_far.run
          c.write.ensures.crash c.write.ensures.carries c.write.ensures.time;
      content = λ keeps.
          c.in_ok-write.ensures.written keeps
          ∙ ap (λ (l : List Cell). put l (c.args.first + c.loop-i.i) (get_or c.args.blocks.now c.loop-i.i []))
          (so_far.content (c.write.ensures.carries.kept_before keeps))
          ∙ pasted_more old.content c.args.first c.args.blocks.now c.loop-i.i [] inside within;
      failures = c.in_ok-write.ensures.no_failure ∙ so_far.failures;
    }
