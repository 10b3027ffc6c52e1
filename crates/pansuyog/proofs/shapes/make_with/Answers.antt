use Rattle.std.proofs.Common.{rules}
use Rattle.lfs_queue.specs.Queue.{queue_state}
use Rattle.pansuyog_calls.proofs.Made.{made_with}
use Rattle.pansuyog.proofs.shapes.make_with.Goals as goal

pub returns : goal.returns
returns c =
    let ensured = c.format_with.ensures in
    record {
      outcome = c.format_with.result;
      number = search rules;
      made = made_with queue_state c.args.device.now c.format_with.new.device c.args.shape c.format_with.result ensured.inval
          ensured.too_small ensured.refused ensured.failed ensured.made;
      making = ensured.making;
    }
