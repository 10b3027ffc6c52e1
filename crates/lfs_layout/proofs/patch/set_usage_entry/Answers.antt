use Rattle.std.proofs.Common.{rules, ◌≡◌, subst}
use Rattle.std.specs.Prelude.{slice_set}
use Rattle.lfs_model.specs.Usage.{SegmentUse, usage_of}
use Rattle.lfs_layout.proofs.Splices.{entry_put}
use Rattle.lfs_layout.proofs.patch.set_usage_entry.Goals as goal

pub returns-clause-entries : goal.returns-clause-entries
returns-clause-entries c =
    subst (λ (u : SegmentUse). usage_of c.set_word.new.block ≡ slice_set (usage_of c.args.block.now) c.args.entry u) c.usage.view_is
    (entry_put c.args.entry (record { used = c.usage.inside.used; live = c.usage.inside.live; age = c.usage.inside.age })
    c.args.block.now c.requires
    (search rules) c.set_half.ensures c.set_half-2.ensures c.set_word.ensures (search rules) (search rules) (search rules))
