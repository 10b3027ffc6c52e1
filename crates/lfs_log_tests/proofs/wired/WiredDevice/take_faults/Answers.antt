use Rattle.lfs_log_tests.proofs.wired.WiredDevice.take_faults.Goals as goal

-- each call changes the bench alone
pub returns-in-Some : goal.returns-in-Some
returns-in-Some c = rw c.fail-in-Some.ensures (rw c.fail.ensures (rw c.stop_at.ensures))
