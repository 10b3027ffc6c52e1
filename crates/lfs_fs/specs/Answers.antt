-- The model's answers by what the calls give.
use Rattle.lfs_model.specs.Call as call
use Rattle.lfs_model.specs.Call.{Answer, Room}
use Rattle.lfs_entries.specs.declared.rows.ListedEntry.{ListedEntry}
use Rattle.lfs_entries.specs.declared.rows.TreeRow.{TreeRow}
use Rattle.lfs_fs.specs.declared.rows.Space.{Space}
use Rattle.lfs_fs.specs.declared.rows.Stat.{Stat}

abbrev pub status_of : Stat → call.Stat
status_of s = record { number = s.number; kind = s.kind; links = s.links; size = s.size }

abbrev pub room_of : Space → Answer
room_of s = Room s.data_blocks s.meta_blocks s.need s.limit

abbrev pub row_of : TreeRow → call.TreeRow
row_of r = record {
  directory = r.directory;
  name = r.name.items;
  stat = record { number = r.number; kind = r.kind; links = r.links; size = r.size };
  head = r.head.items;
}

abbrev pub entry_of : ListedEntry → call.DirectoryEntry
entry_of e = record { name = e.name.items; number = e.number; kind = e.kind }
