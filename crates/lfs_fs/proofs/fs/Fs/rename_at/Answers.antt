use Rattle.lfs_fs.proofs.Prelude.{Err, ap, arith, sym, ◌∙◌, ok_then}
use Rattle.lfs_fs.proofs.paths.Places.{path_read, ready_after}
use Rattle.lfs_fs.proofs.rename.Outcomes.{checks_refused, dots_first, dots_second, move_ends, no_first, no_second, same_ends}
use Rattle.lfs_fs.proofs.Exits.{returned}
use Rattle.lfs_fs.proofs.fs.Fs.rename_at.Goals as goal
use Rattle.lfs_fs.proofs.calls.DraftSizes.{adds_fit}

-- The `_` are what `reached` shows: the volume, both paths and where they came to.

-- the first path has no piece
pub returns-in_default : goal.returns-in_default
returns-in_default g c v a b reached =
    no_first _ g.met.D.SectorDevice.lawful _ _ _ _ _ _ _ _ reached c.requires.ready c.in_default.is

-- or the second
pub returns-in_default-to : goal.returns-in_default-to
returns-in_default-to g c v a b reached =
    no_second _ g.met.D.SectorDevice.lawful _ _ _ _ _ _ _ _ reached c.requires.ready _ c.in-Some.is c.in_default-to.is

pub returns-then-is_dots : goal.returns-then-is_dots
returns-then-is_dots g c v a b reached =
    dots_first _ g.met.D.SectorDevice.lawful _ _ _ _ _ _ _ _ reached c.requires.ready _ c.in-Some.is c.in-Some-to.is
    (sym c.is_dots.ensures ∙ c.if-is_dots.true)

pub returns-then-is_dots-2 : goal.returns-then-is_dots-2
returns-then-is_dots-2 g c v a b reached =
    dots_second _ g.met.D.SectorDevice.lawful _ _ _ _ _ _ _ _ reached c.requires.ready _ c.in-Some.is c.in-Some-to.is
    (sym c.is_dots.ensures ∙ c.if-is_dots.false) (sym c.is_dots-2.ensures ∙ c.if-is_dots-2.true)

pub returns-in_err-found : goal.returns-in_err-found
returns-in_err-found g c v a b reached =
    let only = c.in_err-found.ensures.only in
    rw (returned c.from_residual.ensures)
    (checks_refused _ g.met.D.SectorDevice.lawful _ _ _ _ _ _ _ _ reached c.requires.ready _ c.in-Some.is
    c.in-Some-to.is
    (sym c.is_dots.ensures ∙ c.if-is_dots.false) (sym c.is_dots-2.ensures ∙ c.if-is_dots-2.false)
    _ only.reads c.in_err-found.ensures.refused
    (λ same. only.halted (ap Err same)) (λ same. only.other (ap Err same)))

-- both names give one object
pub returns-in_default-found : goal.returns-in_default-found
returns-in_default-found g c v a b reached =
    same_ends _ g.met.D.SectorDevice.lawful _ _ _ _ _ _ _ _ reached c.requires.ready _ c.in-Some.is c.in-Some-to.is
    (sym c.is_dots.ensures ∙ c.if-is_dots.false) (sym c.is_dots-2.ensures ∙ c.if-is_dots-2.false)
    _ c.in_ok-found.ensures.only.reads
    (rw c.in_default-found.is at c.in_ok-found.ensures.taken)
    _ c.check_worn.ensures.young c.check_worn.ensures.old c.check_worn.ensures.fault

pub returns : goal.returns
returns g c v a b reached =
    let drafted = c.draft_move-drafted.ensures in
    move_ends _ g.met.D.SectorDevice.lawful _ _ _ _ _ _ _ _ reached c.requires.ready _ c.in-Some.is c.in-Some-to.is
    (sym c.is_dots.ensures ∙ c.if-is_dots.false) (sym c.is_dots-2.ensures ∙ c.if-is_dots-2.false)
    _ c.in_ok-found.ensures.only.reads
    (rw c.in-Some-found.is at c.in_ok-found.ensures.taken) c.is_open-is_open.ensures.held c.is_open-is_open.ensures.shut
    _ drafted.only.redrafts c.finish.new.self c.finish.ensures.rest _ _ c.finish.ensures.ends
    (ok_then _ _ _ (adds_fit g.D.SectorDevice.state _ c.draft_move-drafted.new.files 6 4 (omega arith)
    (ready_after g.D.SectorDevice.state c.requires.ready
    (path_read g.D.SectorDevice.state {old = c.args.self.now} _ c.in_ok-found.ensures.only.reads)).empty)
    drafted.small)
    drafted.done drafted.counted drafted.failed drafted.only.halted
    drafted.only.other

pub finish-requires-clause-room : goal.finish-requires-clause-room
finish-requires-clause-room g c =
    let reads = path_read g.D.SectorDevice.state {old = c.args.self.now} _ c.in_ok-found.ensures.only.reads in
    let ready = ready_after g.D.SectorDevice.state c.requires.ready reads in
    ok_then _ _ _ (adds_fit g.D.SectorDevice.state _ c.draft_move-drafted.new.files 6 4 (omega arith) ready.empty)
    c.draft_move-drafted.ensures.small
