use Rattle.lfs_log.proofs.Movings.{ends_as, moved_join, moved_none}
use Rattle.lfs_log.proofs.moving.go_on.Goals as goal

pub returns-then-from-to-clause-ends : goal.returns-then-from-to-clause-ends
returns-then-from-to-clause-ends g c =
    ends_as (λ k m0 m is p. p) (λ M M' r. moved_join (moved_none c.args.left c.args.to c.requires.next M) r) (λ k m0 m is never. never)
    c.make_room.ensures.ends
