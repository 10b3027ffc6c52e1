use Rattle.lfs_entries.proofs.ByteDrafts.{counts_then}
use Rattle.lfs_entries.proofs.bytes.draft_bytes.Goals as goal

pub returns-clause-counted : goal.returns-clause-counted
returns-clause-counted g c =
    counts_then (g.F.Files.state c.write_at.new.self) c.header_of.ensures.reads c.in_ok-write_at.ensures.counted
