use Rattle.std.proofs.Common.{rules, ◌≤◌, ◌+◌, ◌/◌, sym, subst, arith}
use Rattle.lfs_cleaner.specs.log.LogState.{LogState}
use Rattle.lfs_cleaner.proofs.of_log.of_memory.Going.{ok_then}
use Rattle.lfs_model.specs.declared.limits.TheConstants.{MOST_UNSAVED}
use Rattle.lfs_store.specs.declared.draft.Draft.{Draft}
use Rattle.lfs_store.specs.Accepting.{HasClean}
use Rattle.lfs_store.specs.StoreState.{asked_by}
use Rattle.lfs_store.proofs.EarlyRoom.{told_cleaned}
use Rattle.lfs_store.proofs.Endings.{exit_is, made_then}
use Rattle.lfs_store.proofs.store.Store.prepare.Goals as goal

pub returns-in_err-prepare_commit-clause-makes : goal.returns-in_err-prepare_commit-clause-makes
returns-in_err-prepare_commit-clause-makes g c =
    rw (exit_is c.from_residual.ensures) c.in_err-prepare_commit.ensures.makes

pub returns-clause-makes : goal.returns-clause-makes
returns-clause-makes g c =
    made_then c.prepare_commit.ensures.makes.keeps c.in_ok-prepare_commit.ensures.ready c.make_clean.ensures.makes

pub returns-clause-room : goal.returns-clause-room
returns-clause-room g c =
    ok_then c.make_clean.result _ _ (λ done e.
    let none = done.unsaved e in
    let room : c.prepare_commit.new.self.log.waiting + asked_by c.make_clean.new.self.draft ≤ MOST_UNSAVED =
    subst (λ (d : Draft). c.prepare_commit.new.self.log.waiting + asked_by d ≤ MOST_UNSAVED) (sym c.make_clean.ensures.makes.keeps.draft)
    (c.in_ok-prepare_commit.ensures.room none.0) in
    omega arith) c.make_clean.ensures.makes.done

pub returns-clause-quiet : goal.returns-clause-quiet
returns-clause-quiet g c fits clean =
    let same = c.prepare_commit.ensures.quiet fits in
    let enough : c.prepare_commit.new.self.log.segments / 8 + 8 ≤ c.prepare_commit.new.self.log.clean =
    subst (λ (h : LogState g.row.D.Denot). HasClean h) (sym same) clean in
    absurd (omega (arith, c.if-may_commit.ensures.no (search rules)))

pub returns-clause-told : goal.returns-clause-told
returns-clause-told g c =
    told_cleaned g.D.SectorDevice.state c.make_clean.new.self.log
    c.in_ok-prepare_commit.ensures.once (c.if-may_commit.ensures.no (search rules))
    c.prepare_commit.ensures.told c.make_clean.ensures.told c.make_clean.ensures.passes
    c.in_ok-prepare_commit.ensures.ready.room.keeps.segments
