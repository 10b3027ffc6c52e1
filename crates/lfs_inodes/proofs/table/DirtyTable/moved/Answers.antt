use Rattle.std.proofs.Common.{◌≡◌, ◌∙◌, ap, sym, Some, length, List, ℕ, rules}
use Rattle.std.specs.Ordering.{nat_cmp}
use Rattle.std.specs.FinMap.{find}
use Rattle.lfs_inodes.specs.Key.{entry_of}
use Rattle.lfs_inodes.specs.Blocks.{TableValue, blocks_of}
use Rattle.lfs_inodes.specs.Data.{data_count}
use Rattle.lfs_inodes.proofs.Blocks.{entry_found}
use Rattle.lfs_inodes.proofs.Moving.{differ, one_less}
use Rattle.lfs_inodes.proofs.table.DirtyTable.moved.Goals as goal
use Rattle.lfs_inodes.proofs.table.DirtyTable.moved.Goals.{in-Some, in_default}

pub returns : goal.returns
returns c =
    let found : (bytes : List ℕ) (t : TableValue) → blocks_of t (entry_of c.args.key) ≡ Some bytes
    → find nat_cmp c.args.key.code t.blocks ≡ Some bytes =
    λ bytes t is. sym (entry_found t.blocks c.args.key.formed) ∙ is in
    record {
      moves = search rules;
      length = λ bytes there.
          elim c.match-parent.branch [
            | in-Some w ↦ one_less c.match-parent.self.blocks c.remove.new.self.blocks c.args.key.code (found bytes c.match-parent.self
                (ap (λ t. blocks_of t (entry_of c.args.key)) w.self-is
                ∙ w.patch.ensures.changed.others (entry_of c.args.key)
                (differ c.args.key.formed w.in-Some.above.formed w.in-Some.ensures.some.1)
                ∙ there)) c.remove.ensures.length (ap (λ t. length t.blocks) w.self-is ∙ w.patch.ensures.length)
            | in_default w ↦ one_less c.match-parent.self.blocks c.remove.new.self.blocks c.args.key.code
                (found bytes c.match-parent.self (ap (λ t. blocks_of t (entry_of c.args.key)) w.self-is ∙ there))
                c.remove.ensures.length
                (ap (λ t. length t.blocks) w.self-is)
          ];
      data_blocks = λ bytes there kind.
          elim c.match-parent.branch [
            | in-Some w ↦ c.remove.ensures.data_blocks bytes
                (found bytes c.match-parent.self
                (ap (λ t. blocks_of t (entry_of c.args.key)) w.self-is
                ∙ w.patch.ensures.changed.others (entry_of c.args.key)
                (differ c.args.key.formed w.in-Some.above.formed w.in-Some.ensures.some.1)
                ∙ there)) kind ∙ ap data_count w.self-is ∙ w.patch.ensures.data_blocks
            | in_default w ↦ c.remove.ensures.data_blocks bytes
                (found bytes c.match-parent.self (ap (λ t. blocks_of t (entry_of c.args.key)) w.self-is ∙ there)) kind
                ∙ ap data_count w.self-is
          ];
      no_more = search rules;
      capacity = search rules;
    }
