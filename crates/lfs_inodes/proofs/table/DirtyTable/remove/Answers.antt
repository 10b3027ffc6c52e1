use Rattle.std.proofs.Common.{◌≡◌, ◌+◌, ◌∙◌, ap, arith, sym, subst, None, cond, length}
use Rattle.std.specs.Prelude.{is_some}
use Rattle.std.specs.Ordering.{nat_cmp}
use Rattle.std.specs.FinMap.{find}
use Rattle.lfs_model.specs.Staging.{ChangesTo}
use Rattle.lfs_model.specs.Tree.{without}
use Rattle.lfs_inodes.specs.Code.{entry_at}
use Rattle.lfs_inodes.specs.Blocks.{blocks_of}
use Rattle.lfs_inodes.specs.Data.{is_data_code}
use Rattle.lfs_inodes.proofs.Blocks.{find_gap, without_gap, changed_none}
use Rattle.lfs_inodes.proofs.table.DirtyTable.remove.Goals as goal

pub returns-in_default-clause-removed : goal.returns-in_default-clause-removed
returns-in_default-clause-removed c =
    let t = c.args.self.now in
    ap (λ es. record t { blocks = es }) (sym (without_gap c.in_default.ensures.missing))

pub returns-in_default-clause-changed : goal.returns-in_default-clause-changed
returns-in_default-clause-changed c =
    let t = c.args.self.now in
    changed_none t.blocks c.args.key.formed (find_gap c.in_default.ensures.missing)

pub returns-in_default-clause-length : goal.returns-in_default-clause-length
returns-in_default-clause-length c =
    let t = c.args.self.now in
    ap (λ o. cond (is_some o) 1 0 + length t.blocks) (find_gap c.in_default.ensures.missing) ∙ omega arith

pub returns-clause-removed : goal.returns-clause-removed
returns-clause-removed c =
    let t = c.args.self.now in
    c.remove_at.ensures.removed
    ∙ ap (λ es. record t { blocks = es })
    (c.remove_at.ensures.others ∙ ap (λ n. without nat_cmp n t.blocks) c.in-Ok.ensures.found.number)

pub returns-clause-changed : goal.returns-clause-changed
returns-clause-changed c =
    subst (λ n. ChangesTo (blocks_of c.args.self.now) (blocks_of c.remove_at.new.self) (entry_at n) None) c.in-Ok.ensures.found.number
    c.remove_at.ensures.changed

pub returns-clause-length : goal.returns-clause-length
returns-clause-length c =
    subst (λ n. cond (is_some (find nat_cmp n c.args.self.now.blocks)) 1 0 + length c.remove_at.new.self.blocks
    ≡ length c.args.self.now.blocks) c.in-Ok.ensures.found.number c.remove_at.ensures.length

pub returns-in_default-clause-data_blocks : goal.returns-in_default-clause-data_blocks
returns-in_default-clause-data_blocks c bytes there kind =
    let none = find_gap c.in_default.ensures.missing in
    absurd (cc)

pub returns-clause-data_blocks : goal.returns-clause-data_blocks
returns-clause-data_blocks c bytes there kind = c.remove_at.ensures.data_blocks (ap is_data_code c.in-Ok.ensures.found.number ∙ kind)
