use Rattle.std.proofs.Common.{◌∙◌, ap, replicate, rules}
use Rattle.lfs_device.specs.declared.rows.Row.{Row}
use Rattle.lfs_model.proofs.Cells.{zeros_are_bytes}
use Rattle.lfs_device.proofs.Whole.{whole_if_new}
use Rattle.lfs_device.proofs.Stops.{present_if_new, only_if_new}
use Rattle.lfs_device.proofs.UnsyncedLists.{none_if_new}
use Rattle.lfs_device.proofs.memory.MemDevice.with_unit.Goals as goal

pub returns-clause-zeros : goal.returns-clause-zeros
returns-clause-zeros c =
    present_if_new _ _ (c.in_ok-from_elem.ensures.items_if_clones_equal (λ y is. search rules)
    ∙ ap (λ (r : Row). replicate c.args.sectors r) c.stands.ensures)

pub returns-clause-durable : goal.returns-clause-durable
returns-clause-durable c =
    only_if_new _ _ _ _ _ (c.in_ok-from_elem.ensures.items_if_clones_equal (λ y is. search rules)
    ∙ ap (λ (r : Row). replicate c.args.sectors r) c.stands.ensures)

pub invariant_of-result-clause-whole : goal.invariant_of-result-clause-whole
invariant_of-result-clause-whole c =
    whole_if_new _ _ zeros_are_bytes
    (c.in_ok-from_elem.ensures.items_if_clones_equal (λ y is. search rules) ∙ ap (λ (r : Row). replicate c.args.sectors r) c.stands.ensures)

pub invariant_of-result-clause-listed : goal.invariant_of-result-clause-listed
invariant_of-result-clause-listed c =
    none_if_new _ _ _ c.in_ok-with_capacity.ensures.items
    (c.in_ok-from_elem.ensures.items_if_clones_equal (λ y is. search rules) ∙ ap (λ (r : Row). replicate c.args.sectors r) c.stands.ensures)
