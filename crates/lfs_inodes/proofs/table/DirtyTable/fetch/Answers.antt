use Rattle.std.proofs.Common.{ap, rules}
use Rattle.lfs_inodes.proofs.Moving.{IsSameAt, same_self, same_patched, still_room, still_counts}
use Rattle.lfs_inodes.proofs.table.DirtyTable.fetch.Goals as goal
use Rattle.lfs_inodes.proofs.table.DirtyTable.fetch.Goals.{in-Some, in_default}

pub put-requires : goal.put-requires
put-requires c =
    let same : IsSameAt c.args.self.now c.match-parent.self c.args.key.code = elim c.match-parent.branch [
      | in-Some w ↦ same_patched c.args.self.now c.args.key.formed w.in-Some.above.formed w.in-Some.ensures.some.1
          w.self-is w.patch.ensures.length (ap (λ t. t.capacity) w.patch.ensures.patched) w.patch.ensures.changed
      | in_default w ↦ same_self c.args.key.code w.self-is
    ] in
    still_room same c.requires

pub returns : goal.returns
returns c =
    let same : IsSameAt c.args.self.now c.match-parent.self c.args.key.code = elim c.match-parent.branch [
      | in-Some w ↦ same_patched c.args.self.now c.args.key.formed w.in-Some.above.formed w.in-Some.ensures.some.1
          w.self-is w.patch.ensures.length (ap (λ t. t.capacity) w.patch.ensures.patched) w.patch.ensures.changed
      | in_default w ↦ same_self c.args.key.code w.self-is
    ] in
    record {
      fetches = search rules;
      length = still_counts _ same c.put.ensures.length;
      capacity = search rules;
    }
