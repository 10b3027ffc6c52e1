use Rattle.std.proofs.Common.{◌+◌, ◌∙◌, ap, arith, cond, sym, refl, subst, None, length}
use Rattle.std.specs.Prelude.{is_some}
use Rattle.std.specs.Ordering.{nat_cmp}
use Rattle.std.specs.FinMap.{find}
use Rattle.lfs_model.specs.Staging.{ChangesTo}
use Rattle.lfs_inodes.specs.Code.{IsCode, entry_at}
use Rattle.lfs_inodes.specs.Blocks.{HasNumberAt, blocks_of, number_at}
use Rattle.lfs_inodes.proofs.Blocks.{changed_without, count_without, without_at}
use Rattle.lfs_inodes.proofs.Data.{data_removed}
use Rattle.lfs_inodes.proofs.Held.{codes_value, held_left, tight_left, removed_value, sorted_value, wider}
use Rattle.lfs_inodes.proofs.table.DirtyTable.remove_at.Goals as goal

pub invariant_of-self : goal.invariant_of-self
invariant_of-self c =
    let at : HasNumberAt c.args.self.now.blocks (number_at c.args.self.now.blocks c.args.at) c.args.at =
    record { within = c.requires; number = refl } in
    let formed : IsCode (number_at c.args.self.now.blocks c.args.at) =
    codes_value _ c.self.inside.places.items c.self.inside.arena.items c.self.view_is c.args.at c.requires in (
      wider _ (held_left c.self.invariant.0 c.self.view_is at c.remove-place.ensures.value c.remove-place.ensures.items
          (rw c.unwrap.ensures at c.push.ensures.items)) c.remove-place.ensures.capacity (omega arith) c.push.ensures.capacity,
      λ h. tight_left c.self.invariant.0 c.self.view_is at c.remove-place.ensures.value c.remove-place.ensures.items formed
          (c.self.invariant.1 h),
    )

pub returns-clause-others : goal.returns-clause-others
returns-clause-others c = sym (without_at
    (sorted_value c.self.invariant.0 c.self.view_is)
    (number_at c.args.self.now.blocks c.args.at) c.args.at (record { within = c.requires; number = refl }))

pub returns-clause-removed : goal.returns-clause-removed
returns-clause-removed c =
    let at : HasNumberAt c.args.self.now.blocks (number_at c.args.self.now.blocks c.args.at) c.args.at =
    record { within = c.requires; number = refl } in
    removed_value c.self.invariant.0 c.self.view_is at c.remove-place.ensures.value c.remove-place.ensures.items
    ∙ ap (λ es. record c.args.self.now { blocks = es }) (sym (returns-clause-others c))

pub returns-clause-changed : goal.returns-clause-changed
returns-clause-changed c =
    let formed : IsCode (number_at c.args.self.now.blocks c.args.at) =
    codes_value _ c.self.inside.places.items c.self.inside.arena.items c.self.view_is c.args.at c.requires in
    subst (λ t.
    ChangesTo (blocks_of c.args.self.now) (blocks_of t) (entry_at (number_at c.args.self.now.blocks c.args.at)) None)
    (sym (returns-clause-removed c ∙ ap (λ es. record c.args.self.now { blocks = es }) (returns-clause-others c)))
    (changed_without c.args.self.now.blocks formed)

pub returns-clause-codes : goal.returns-clause-codes
returns-clause-codes c = codes_value (record { limit = c.self.inside.limit; room = c.self.inside.room }) c.remove-place.new.self.items
    c.self.inside.arena.items refl

pub returns-clause-length : goal.returns-clause-length
returns-clause-length c =
    let n = number_at c.args.self.now.blocks c.args.at in
    ap (λ t. cond (is_some (find nat_cmp n c.args.self.now.blocks)) 1 0 + length t.blocks) (returns-clause-removed c)
    ∙ ap (λ es. cond (is_some (find nat_cmp n c.args.self.now.blocks)) 1 0 + length es) (returns-clause-others c)
    ∙ count_without c.args.self.now.blocks n (sorted_value c.self.invariant.0 c.self.view_is)

pub returns-clause-data_blocks : goal.returns-clause-data_blocks
returns-clause-data_blocks c kind =
    data_removed c.args.self.now (sorted_value c.self.invariant.0 c.self.view_is)
    (number_at c.args.self.now.blocks c.args.at) c.args.at (record { within = c.requires; number = refl })
    (returns-clause-removed c ∙ ap (λ es. record c.args.self.now { blocks = es }) (returns-clause-others c)) kind
