use Rattle.std.proofs.Common.{◌∙◌, ℕ, List, subst, sym}
use Rattle.std.proofs.lemmas.Result.{err_from_is_err_and}
use Rattle.lfs_model.specs.Call.{Handle, LstatOf, Open, Refuse, Status}
use Rattle.lfs_fs.specs.Answers.{status_of}
use Rattle.lfs_fs.specs.Refusals.{refusal_of}
use Rattle.lfs_fs.specs.Seen.{seen}
use Rattle.lfs_fs.specs.Volume.{Serves}
use Rattle.lfs_record.specs.Asking.{KeepsOpen}
use Rattle.lfs_record.proofs.Begun.{no_path, not_opened, passed_by, not_told, taken}
use Rattle.lfs_record.proofs.beginning.take_up.Goals as goal

pub returns-in_default : goal.returns-in_default
returns-in_default g c = no_path g.D.SectorDevice.state c.args.name.now _

pub returns-in_err-stat : goal.returns-in_err-stat
returns-in_err-stat g c =
    let p = err_from_is_err_and c.from_residual.result c.from_residual.ensures.1 in rw (p.1, p.2)
    (not_told g.D.SectorDevice.state c.args.name.now _ _ c.in_err-stat.field-0.0
    (subst (λ (p : List ℕ). Serves g.D.SectorDevice.state (seen c.args.fs.now) (seen c.lstat.new.self) (LstatOf p)
    (Refuse (refusal_of c.in_err-stat.field-0.0))) (c.as_slice.ensures.value ∙ c.in-Ok.ensures) c.in_err-stat.ensures))

pub returns-then-not-is_own : goal.returns-then-not-is_own
returns-then-not-is_own g c =
    passed_by g.D.SectorDevice.state c.args.name.now _ _ (status_of c.in_ok-stat.stat)
    (subst (λ (p : List ℕ). Serves g.D.SectorDevice.state (seen c.args.fs.now) (seen c.lstat.new.self) (LstatOf p)
    (Status (status_of c.in_ok-stat.stat))) (c.as_slice.ensures.value ∙ c.in-Ok.ensures) c.in_ok-stat.ensures)
    (sym c.is_own.ensures ∙ c.if-not-is_own.true)

pub returns-in_err-handle : goal.returns-in_err-handle
returns-in_err-handle g c =
    let p = err_from_is_err_and c.from_residual-in_err-handle.result c.from_residual-in_err-handle.ensures.1 in rw (p.1, p.2)
    (not_opened g.D.SectorDevice.state c.args.name.now _ _ (status_of c.in_ok-stat.stat)
    (subst (λ (p : List ℕ). Serves g.D.SectorDevice.state (seen c.args.fs.now) (seen c.lstat.new.self) (LstatOf p)
    (Status (status_of c.in_ok-stat.stat))) (c.as_slice.ensures.value ∙ c.in-Ok.ensures) c.in_ok-stat.ensures)
    _ c.in_err-handle.field-0.0
    (subst (λ (p : List ℕ). Serves g.D.SectorDevice.state (seen c.lstat.new.self) (seen c.open.new.self) (Open p)
    (Refuse (refusal_of c.in_err-handle.field-0.0))) (c.as_slice-2.ensures.value ∙ c.in-Ok.ensures) c.in_err-handle.ensures))

pub returns : goal.returns
returns g c =
    taken g.D.SectorDevice.state c.args.name.now _ _ (status_of c.in_ok-stat.stat)
    (subst (λ (p : List ℕ). Serves g.D.SectorDevice.state (seen c.args.fs.now) (seen c.lstat.new.self) (LstatOf p)
    (Status (status_of c.in_ok-stat.stat))) (c.as_slice.ensures.value ∙ c.in-Ok.ensures) c.in_ok-stat.ensures)
    _ _ c.in_ok-handle.handle (sym c.is_own.ensures ∙ c.if-not-is_own.false)
    (subst (λ (p : List ℕ). Serves g.D.SectorDevice.state (seen c.lstat.new.self) (seen c.open.new.self) (Open p)
    (Handle c.in_ok-handle.handle)) (c.as_slice-2.ensures.value ∙ c.in-Ok.ensures) c.in_ok-handle.ensures)
    c.keep_open.result
    (subst (λ (d : List ℕ). KeepsOpen g.D.SectorDevice.state (seen c.open.new.self) (seen c.keep_open.new.fs) c.in_ok-handle.handle d
    c.in_ok-stat.stat.size c.keep_open.result) c.day_of.ensures c.keep_open.ensures)
