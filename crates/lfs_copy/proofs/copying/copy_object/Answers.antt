use Rattle.lfs_copy.proofs.Trees.{directory_made, file_made, link_made}
use Rattle.lfs_copy.proofs.copying.copy_object.Goals as goal

pub returns-in-Directory : goal.returns-in-Directory
returns-in-Directory g c =
    directory_made _ c.args.row.now c.args.path.now c.mkdir.result c.in-Directory.is c.mkdir.ensures c.without_bytes.ensures

pub returns-in-Link : goal.returns-in-Link
returns-in-Link g c =
    link_made _ c.args.row.now c.args.path.now _ c.symlink.result c.in-Link.is c.as_slice.ensures.value c.symlink.ensures
    c.without_bytes-in-Link.ensures

pub returns-in-File : goal.returns-in-File
returns-in-File g c = file_made c.args.row.now c.args.path.now _ c.in-File.is c.copy_file.ensures
