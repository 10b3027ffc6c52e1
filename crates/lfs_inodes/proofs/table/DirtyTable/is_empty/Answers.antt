use Rattle.lfs_inodes.proofs.table.DirtyTable.is_empty.Goals as goal

pub returns-clause-yes : goal.returns-clause-yes
returns-clause-yes c empty = record {
  pointers = c.is_pointers.ensures.yes c.if-not-is_pointers.false;
  bytes = c.in-Some.block.now;
  there = c.in-Some.ensures.entry;
  empty = c.has_no_pointer.ensures.yes empty;
}
