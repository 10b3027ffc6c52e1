use Rattle.std.proofs.Common.{None, rules, ◌≡◌, length, replicate, sym, subst}
use Rattle.lfs_segments.specs.Table.{no_segment}
use Rattle.lfs_segments.specs.Spelling.{AreSpelled}
use Rattle.lfs_segments.proofs.Numbers.{new_fits}
use Rattle.lfs_segments.proofs.Early.{totals_new}
use Rattle.lfs_segments.proofs.Listed.{lists_new}
use Rattle.lfs_segments.proofs.usage.Usage.new.Goals as goal

pub invariant_of-result : goal.invariant_of-result
invariant_of-result c =
    let is : c.in_ok-states.states.items ≡ replicate c.args.segments no_segment = search rules in
    let whole : length c.in_ok-blocks.blocks.items ≡ 16 = search rules in
    let spelled = c.in_ok-spelled.ensures c.args.segments in (
      new_fits None c.in_ok-blocks.blocks.items c.args.segments c.args.unit_power c.requires.few c.requires.unit is whole,
      totals_new c.args.segments is,
      lists_new c.new-2.result c.args.segments c.new-2.ensures.count c.new-2.ensures.size is,
      subst (λ segments. AreSpelled c.in_ok-spelled.spelled.blocks.items segments) (sym is) spelled,
    )
