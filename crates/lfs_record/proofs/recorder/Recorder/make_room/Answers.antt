use Rattle.std.proofs.Common.{◌≡◌, ℕ, List, None, Some, map, subst}
use Rattle.std.proofs.lemmas.Result.{err_from_is_err_and}
use Rattle.lfs_fs.specs.Answers.{entry_of}
use Rattle.lfs_fs.specs.Seen.{seen}
use Rattle.lfs_fs.specs.entries.declared.rows.ListedEntry.{ListedEntry}
use Rattle.lfs_record.specs.Files.{oldest}
use Rattle.lfs_record.specs.Recording.{Removes}
use Rattle.lfs_record.proofs.Recorded.{no_room_first, none_older, room_made, room_unlisted}
use Rattle.lfs_record.proofs.recorder.Recorder.make_room.Goals as goal

pub returns-then-not-is_for_room : goal.returns-then-not-is_for_room
returns-then-not-is_for_room g c = no_room_first g.D.SectorDevice.state _ c.args.self.now c.args.fault

pub returns-in_err-entries : goal.returns-in_err-entries
returns-in_err-entries g c =
    let p = err_from_is_err_and c.from_residual.result c.from_residual.ensures.1 in rw (p.1, p.2)
    (room_unlisted g.D.SectorDevice.state _ _ c.args.self.now c.args.fault c.in_err-entries.field-0.0 c.in_err-entries.ensures)

pub returns-in_default : goal.returns-in_default
returns-in_default g c =
    none_older g.D.SectorDevice.state _ _ c.args.self.now c.args.fault (map entry_of c.in_ok-entries.entries.items) c.in_ok-entries.ensures
    c.if-not-is_for_room.ensures
    (subst (λ (l : List ListedEntry). oldest c.args.self.now.number (map entry_of l) ≡ None) c.as_slice.ensures.value c.in_default.ensures)

pub returns : goal.returns
returns g c =
    room_made g.D.SectorDevice.state _ _ _ c.args.self.now c.args.fault (map entry_of c.in_ok-entries.entries.items)
    (entry_of c.in-Some.file.now) c.remove.result c.in_ok-entries.ensures c.if-not-is_for_room.ensures
    (subst (λ (l : List ListedEntry). oldest c.args.self.now.number (map entry_of l) ≡ Some (entry_of c.in-Some.file.now))
    c.as_slice.ensures.value c.in-Some.ensures)
    (subst (λ (n : List ℕ). Removes g.D.SectorDevice.state (seen c.readdir.new.self) (seen c.remove.new.fs) n c.remove.result)
    c.as_slice-2.ensures.value c.remove.ensures)
