use Rattle.lfs_fs.proofs.Prelude.{ap, refl, Err}
use Rattle.lfs_fs.proofs.calls.Answers.{finds_object, refuses_path}
use Rattle.lfs_fs.proofs.Exits.{returned, unbegun}
use Rattle.lfs_fs.proofs.fs.Fs.begin_with.Goals as goal

pub returns-in_err-begin-clause-refused : goal.returns-in_err-begin-clause-refused
returns-in_err-begin-clause-refused g c =
    rw (returned c.from_residual.ensures)
    (λ call free unclean memory steps. unbegun g.met.D.SectorDevice.lawful c.in_err-begin.ensures)

pub returns-in_err-number-clause-refused : goal.returns-in_err-number-clause-refused
returns-in_err-number-clause-refused g c =
    let walk = c.in_err-number.ensures in
    rw (returned c.from_residual-in_err-number.ensures)
    (refuses_path g.met.D.SectorDevice.lawful c.in_ok-begin.ensures.done c.resolve.new.files walk.reads
    c.args.path.now c.args.follow c.in_err-number.field-0.0 refl walk.refused
    (λ e. walk.halted (ap Err e)) (λ e. walk.other (ap Err e)))

pub returns-clause-found : goal.returns-clause-found
returns-clause-found g c =
    finds_object g.met.D.SectorDevice.lawful c.in_ok-begin.ensures.done c.resolve.new.files c.in_ok-number.ensures.reads
    c.in_ok-number.ensures.answer
