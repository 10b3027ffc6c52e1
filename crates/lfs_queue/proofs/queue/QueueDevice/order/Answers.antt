use Rattle.std.proofs.Common.{◌≡◌, ◌<◌, ◌≤◌, ◌+◌, ◌-◌, ◌^◌, ℕ, length, subst, arith, rules}
use Rattle.lfs_queue.specs.Numbered.{HasNumber}
use Rattle.lfs_queue.specs.Queue.{carried_of, told_of}
use Rattle.lfs_queue.proofs.Numbering.{numbered}
use Rattle.lfs_queue.proofs.queue.QueueDevice.order.Goals as goal

pub returns-clause-waits : goal.returns-clause-waits
returns-clause-waits c =
    let s = c.args.self.now in
    let old : s.carried ≤ c.args.number = search rules in
    let young : c.args.number < 2 ^ 64 - 1 = omega arith in
    let lt : c.args.number - s.carried < length s.queue.items = search rules in
    let count = s.counted in
    let same : length (carried_of s) + (c.args.number - s.carried) ≡ c.args.number = omega (arith, old, young, count) in
    subst (λ (n : ℕ). HasNumber (told_of s) n c.index.result.now) same
    (numbered s.queue.items (c.args.number - s.carried) (carried_of s) lt c.index.ensures)
