use Rattle.std.proofs.Common.{◌≡◌, ◌<◌, ℕ, List, Some, Ok, Err, map, subst, ◌≤◌, None, inl, inr}
use Rattle.std.proofs.lemmas.Result.{err_from_is_err_and}
use Rattle.lfs_fs.specs.Answers.{entry_of}
use Rattle.lfs_fs.specs.Seen.{seen}
use Rattle.lfs_fs.specs.entries.declared.rows.ListedEntry.{ListedEntry}
use Rattle.lfs_record.specs.Files.{count_files, oldest}
use Rattle.lfs_record.specs.Recording.{Removes}
use Rattle.lfs_record.proofs.Recorded.{drop_unlisted, dropped, none_dropped, not_dropped}
use Rattle.lfs_record.proofs.recorder.Recorder.drop_oldest.Goals as goal

pub returns-in_err-entries : goal.returns-in_err-entries
returns-in_err-entries g c =
    let p = err_from_is_err_and c.from_residual.result c.from_residual.ensures.1 in rw (p.1, p.2)
    (drop_unlisted g.D.SectorDevice.state _ _ c.args.self.now c.in_err-entries.field-0.0 c.in_err-entries.ensures)

pub returns-then-not-are_more : goal.returns-then-not-are_more
returns-then-not-are_more g c =
    none_dropped g.D.SectorDevice.state _ _ c.args.self.now (map entry_of c.in_ok-entries.entries.items) c.in_ok-entries.ensures
    (inl (subst (λ (l : List ListedEntry). count_files (map entry_of l) ≤ c.args.self.now.files) c.as_slice.ensures.value
    c.if-not-are_more.ensures))

pub returns-in_default : goal.returns-in_default
returns-in_default g c =
    none_dropped g.D.SectorDevice.state _ _ c.args.self.now (map entry_of c.in_ok-entries.entries.items) c.in_ok-entries.ensures
    (inr (subst (λ (l : List ListedEntry). oldest c.args.self.now.number (map entry_of l) ≡ None) c.as_slice-2.ensures.value
    c.in_default.ensures))

pub returns-in-Ok : goal.returns-in-Ok
returns-in-Ok g c =
    dropped g.D.SectorDevice.state _ _ _ c.args.self.now (map entry_of c.in_ok-entries.entries.items) (entry_of c.in-Some.file.now)
    c.in_ok-entries.ensures
    (subst (λ (l : List ListedEntry). oldest c.args.self.now.number (map entry_of l) ≡ Some (entry_of c.in-Some.file.now))
    c.as_slice-2.ensures.value c.in-Some.ensures)
    c.in-Ok.field-0
    (subst (λ (l : List ListedEntry). c.args.self.now.files < count_files
    (map entry_of l)) c.as_slice.ensures.value c.if-not-are_more.ensures)
    (subst (λ (n : List ℕ). Removes g.D.SectorDevice.state (seen c.readdir.new.self) (seen c.remove.new.fs) n (Ok c.in-Ok.field-0))
    c.as_slice-3.ensures.value c.in-Ok.ensures)

pub returns : goal.returns
returns g c =
    not_dropped g.D.SectorDevice.state _ _ _ c.args.self.now (map entry_of c.in_ok-entries.entries.items) (entry_of c.in-Some.file.now)
    c.in_ok-entries.ensures
    (subst (λ (l : List ListedEntry). oldest c.args.self.now.number (map entry_of l) ≡ Some (entry_of c.in-Some.file.now))
    c.as_slice-2.ensures.value c.in-Some.ensures)
    c.in-Err.fault
    (subst (λ (n : List ℕ). Removes g.D.SectorDevice.state {X = Unit {0}} (seen c.readdir.new.self) (seen c.remove.new.fs) n
    (Err c.in-Err.fault))
    c.as_slice-3.ensures.value c.in-Err.ensures)
