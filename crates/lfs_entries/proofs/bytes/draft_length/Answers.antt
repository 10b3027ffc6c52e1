use Rattle.lfs_entries.proofs.ByteDrafts.{counts_then}
use Rattle.lfs_entries.proofs.bytes.draft_length.Goals as goal

pub returns-clause-counted : goal.returns-clause-counted
returns-clause-counted g c =
    counts_then (g.F.Files.state c.set_len.new.self) c.header_of.ensures.reads c.in_ok-set_len.ensures.counted
