use Rattle.lfs_fs.proofs.Prelude.{Option, arith, subst, FileNumber, HasNumber}
use Rattle.lfs_fs.proofs.open_files.FreedPlaces.{no_other_open, other_open}
use Rattle.lfs_fs.proofs.open_files.Tables.{place_read}
use Rattle.lfs_fs.proofs.handles.Handles.is_shared.Goals as goal

pub returns-then-is_file-clause-shared : goal.returns-then-is_file-clause-shared
returns-then-is_file-clause-shared c is =
    let read = place_read c.loop-other.other c.deref.ensures.0 c.self.invariant c.loop-other-test.true c.index-deref-other.is in
    rw (← c.self.view_is) (other_open c.args.handle c.self.inside.files.items c.args.file.value c.loop-other.other c.if-other-handle.true
    (subst (λ (place : Option FileNumber). HasNumber place c.args.file.value) read (c.is_file.ensures.yes c.if-is_file.true)))

pub returns-clause-single : goal.returns-clause-single
returns-clause-single c is =
    let whole = c.self.invariant in
    let end = c.loop-other-test.false in
    rw (← c.self.view_is) (no_other_open c.args.handle c.self.inside.files.items c.args.file.value
    (λ k lt ne. c.loop-other.invariant k (omega (arith, whole, end, lt)) ne))
