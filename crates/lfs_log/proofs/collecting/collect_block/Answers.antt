use Rattle.std.proofs.Common.{inl, refl}
use Rattle.lfs_log.proofs.Collected.{ends_usage}
use Rattle.lfs_log.proofs.collecting.collect_block.Goals as goal

pub returns-in-Usage-clause-lifts : goal.returns-in-Usage-clause-lifts
returns-in-Usage-clause-lifts c =
    ends_usage c.relocate_usage.result c.name.inside.index c.relocate_usage.ensures.done c.relocate_usage.ensures.same

pub returns-in_default : goal.returns-in_default
returns-in_default c = record {
  lifts = (0, inl refl);
  adds = c.list_block.ensures.adds;
  lists = inl c.list_block.ensures.lists;
  lost = tt;
}
