use Rattle.std.proofs.Common.{◌≡◌, []}
use Rattle.lfs_model.specs.Inode.{inode_sector, kind_byte}
use Rattle.lfs_model.proofs.Laid.{appended_join, fields_of}
use Rattle.lfs_model.proofs.InodePlaces.{fields}
use Rattle.lfs_layout.specs.contracts.inode.Inode.{the_view}
use Rattle.lfs_layout.proofs.inode.Inode.encode.Goals as goal

pub returns : goal.returns
unfolding inode_sector fields
returns c =
    let kind : c.byte_of.result ≡ kind_byte c.self.inside.kind = c.byte_of.ensures in
    rw (
      ← c.self.view_is,
      c.finish.ensures,
      c.zeros-3.ensures.written,
      c.number32-5.ensures.written,
      c.number32-4.ensures.written,
      c.words.ensures.written,
      c.zeros-2.ensures.written,
      c.number32-3.ensures.written,
      c.number32-2.ensures.written,
      c.number32.ensures.written,
      c.zeros.ensures.written,
      c.bytes-2.ensures.written,
      c.bytes.ensures.written,
      c.new-sector.ensures,
      kind,
    )
    (appended_join [] (fields_of (fields (the_view c.self.inside))))
