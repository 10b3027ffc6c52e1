use Rattle.lfs_tree.proofs.Climbing.{directory_climbs, directory_passed}
use Rattle.lfs_tree.proofs.reached.climb_directory.Goals as goal

pub returns-then-not-leads : goal.returns-then-not-leads
returns-then-not-leads c was =
    directory_passed c.args.headers.now c.args.tables.now.up c.args.marks.now c.args.number.value
    (cc) was

pub returns : goal.returns
returns c was =
    directory_climbs c.args.headers.now c.args.tables.now.up c.climb.new.marks c.args.number.value
    (cc) c.climb.result (c.climb.ensures was)
