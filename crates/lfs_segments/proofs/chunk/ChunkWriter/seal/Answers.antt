use Rattle.std.proofs.Common.{rules}
use Rattle.lfs_segments.specs.Chunk.{IsChunk}
use Rattle.lfs_segments.proofs.Entries.{chunk_entries}
use Rattle.lfs_segments.proofs.Once.{sealed_step}
use Rattle.lfs_segments.proofs.chunk.ChunkWriter.seal.Goals as goal

pub returns-in_err-write-clause-entries : goal.returns-in_err-write-clause-entries
returns-in_err-write-clause-entries g c =
    let chunk : IsChunk c.args.self.now.names = search rules in
    chunk_entries chunk c.requires.some

pub returns-clause-entries : goal.returns-clause-entries
returns-clause-entries g c =
    let chunk : IsChunk c.args.self.now.names = search rules in
    chunk_entries chunk c.requires.some

pub returns-clause-once : goal.returns-clause-once
returns-clause-once g c = sealed_step _ _ _ c.requires.opened c.requires.some (search rules) (search rules)
