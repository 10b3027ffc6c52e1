use Rattle.std.proofs.Common.{◌≡◌, sym, Some, slice_get}
use Rattle.std.proofs.lemmas.Option.{slice_get_within, get_or_from_slice_get}
use Rattle.lfs_inodes.proofs.Held.{sorted_value, small_value, at_value}
use Rattle.lfs_inodes.proofs.Data.{first_data}
use Rattle.lfs_inodes.proofs.Moving.{lowest_value}
use Rattle.lfs_inodes.proofs.table.DirtyTable.next.Goals as goal

pub returns-clause-first : goal.returns-clause-first
returns-clause-first c =
    let got : slice_get c.self.inside.places.items 0 ≡ Some c.in_ok-place.place = c.in_ok-place.ensures.some in
    at_value _ c.self.inside.places.items c.self.inside.arena.items c.self.view_is 0
    (slice_get_within c.self.inside.places.items 0 c.in_ok-place.place got)
    (sym (get_or_from_slice_get c.self.inside.places.items 0 c.in_ok-place.place c.in_ok-place.place got))

pub returns-clause-lowest : goal.returns-clause-lowest
returns-clause-lowest c =
    lowest_value c.args.self.now
    (sorted_value c.self.invariant.0 c.self.view_is) (small_value _ c.self.inside.places.items c.self.inside.arena.items c.self.view_is)
    c.in_ok-place.place.key.code c.in_ok-place.place.key.formed (returns-clause-first c)

pub returns-clause-data_blocks : goal.returns-clause-data_blocks
returns-clause-data_blocks c some =
    first_data c.args.self.now
    (sorted_value c.self.invariant.0 c.self.view_is) (returns-clause-first c) some
