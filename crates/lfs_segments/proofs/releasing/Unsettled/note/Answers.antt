use Rattle.std.proofs.Common.{rules, refl, arith}
use Rattle.lfs_segments.proofs.Listed.{noted_settled, noted_before, noted_full, noted_more}
use Rattle.lfs_segments.proofs.releasing.Unsettled.note.Goals as goal
use Rattle.lfs_segments.proofs.releasing.Unsettled.note.Goals.{then-is_settled-via-then-is_settled}
use Rattle.lfs_segments.proofs.releasing.Unsettled.note.Goals.{then-is_settled-via-else-is_settled+then-not-is_settled}
use Rattle.lfs_segments.proofs.releasing.Unsettled.note.Goals.{then-is_settled-via-else-is_settled+else-not-is_settled+then-is_full}

pub returns-then-is_settled : goal.returns-then-is_settled
returns-then-is_settled c segments lt was lists = elim c.then-is_settled.branch [
  | then-is_settled-via-then-is_settled w ↦ noted_settled c.args.segment c.args.is lt lists (search rules)
  | then-is_settled-via-else-is_settled+then-not-is_settled w ↦
      noted_before c.args.segment c.args.is lt lists was (search rules)
  | then-is_settled-via-else-is_settled+else-not-is_settled+then-is_full w ↦
      noted_full c.args.segment c.args.is lt lists (search rules)
]

pub returns : goal.returns
returns c segments lt was lists = noted_more c.args.segment c.args.is lt lists _ (search rules) refl (omega arith)
