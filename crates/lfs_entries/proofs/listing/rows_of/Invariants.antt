use Rattle.std.specs.Vec.Iter.{into_iter_items, into_iter_len}
use Rattle.lfs_entries.specs.Rows.{IsRow}
use Rattle.lfs_entries.proofs.Listings.{ToldSoFar}
use Rattle.lfs_entries.proofs.listing.rows_of.Given as goal

abbrev pub invariant-loop-name : goal.invariant-loop-name
invariant-loop-name g l =
    ToldSoFar (λ m. IsRow m l.fn.directory.value) (g.F.Files.state l.initial.files) (g.F.Files.state l.files) l.fn.names.items l.yielded
    (into_iter_items l.name-iterator) (into_iter_len l.name-iterator) l.rows.items
