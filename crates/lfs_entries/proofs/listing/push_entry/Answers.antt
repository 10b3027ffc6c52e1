use Rattle.std.proofs.Common.{refl}
use Rattle.lfs_entries.proofs.Listings.{entry_listed}
use Rattle.lfs_entries.proofs.listing.push_entry.Goals as goal

pub returns-clause-done : goal.returns-clause-done
returns-clause-done g c = (
  _,
  c.in-Ok.ensures.items,
  entry_listed (g.F.Files.state c.args.files.now) (g.F.Files.state c.header_of.new.files) c.args.name c.in_ok-header.header
      c.in_ok-header.ensures.answer _ refl c.from.ensures refl,
)
