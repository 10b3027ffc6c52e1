use Rattle.std.proofs.Common.{refl}
use Rattle.lfs_entries.proofs.Listings.{row_listed}
use Rattle.lfs_entries.proofs.listing.push_row.Goals as goal

pub returns-clause-done : goal.returns-clause-done
returns-clause-done g c = (
  _,
  c.in-Ok.ensures.items,
  row_listed c.args.name c.in_ok-header.header
      c.header_of.ensures.reads c.read_head.ensures.only.reads c.in_ok-header.ensures.answer _ c.from.ensures refl
      (c.from-2).ensures refl refl
      (c.from-3).ensures c.in_ok-head.ensures.answer,
)
