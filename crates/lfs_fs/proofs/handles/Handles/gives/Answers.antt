use Rattle.lfs_fs.proofs.Prelude.{Option, arith, subst, FileNumber, HasNumber}
use Rattle.lfs_fs.proofs.open_files.FreedPlaces.{is_open, is_shut}
use Rattle.lfs_fs.proofs.open_files.Tables.{place_read}
use Rattle.lfs_fs.proofs.handles.Handles.gives.Goals as goal

pub returns-then-is_file-clause-open : goal.returns-then-is_file-clause-open
returns-then-is_file-clause-open c is =
    let read = place_read c.loop-handle.handle c.deref.ensures.0 c.self.invariant c.loop-handle-test.true c.index-deref-handle.is in
    rw (← c.self.view_is) (is_open c.self.inside.files.items c.args.file.value c.loop-handle.handle
    (subst (λ (place : Option FileNumber). HasNumber place c.args.file.value) read (c.is_file.ensures.yes c.if-is_file.true)))

pub returns-clause-shut : goal.returns-clause-shut
returns-clause-shut c is =
    let whole = c.self.invariant in
    let end = c.loop-handle-test.false in
    rw (← c.self.view_is) (is_shut c.self.inside.files.items c.args.file.value
    (λ k lt. c.loop-handle.invariant k (omega (arith, whole, end, lt))))
