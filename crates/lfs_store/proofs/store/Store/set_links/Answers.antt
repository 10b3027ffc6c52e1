use Rattle.std.proofs.Common.{refl, arith}
use Rattle.lfs_files.specs.Headers.{relinked}
use Rattle.lfs_store.proofs.StoreMade.{header_counts, link_put, loses_link, relinks}
use Rattle.lfs_store.proofs.store.Store.set_links.Goals as goal

pub returns-then-links-eq0-clause-done : goal.returns-then-links-eq0-clause-done
returns-then-links-eq0-clause-done g c =
    let empty = c.requires.last c.if-links-eq0.true in
    rw c.if-links-eq0.true
    (loses_link _ _ _ _ empty c.lose.ensures.headers c.lose.ensures.blocks _ _ _ refl refl (c.lose.ensures.alone empty) c.lose.ensures.loss)

pub returns-then-links-eq0-clause-counted : goal.returns-then-links-eq0-clause-counted
returns-then-links-eq0-clause-counted g c =
    let empty = c.requires.last c.if-links-eq0.true in
    header_counts _ _ _ c.args.self.now.drafted (relinked c.args.header 0) c.args.number.some c.args.number.few
    (link_put g.D.SectorDevice.state c.args.self.now _ c.args.self.now.drafted empty c.lose.ensures.headers
    c.lose.ensures.blocks _ c.args.header _ refl refl (c.lose.ensures.alone empty))

pub returns-clause-done : goal.returns-clause-done
returns-clause-done g c =
    relinks _ _ _ _ _ _ (omega (arith, c.if-links-eq0.false)) c.in-Ok.ensures.done

pub returns-clause-counted : goal.returns-clause-counted
returns-clause-counted g c =
    header_counts _ _ _ c.args.self.now.drafted _ c.args.number.some c.args.number.few c.in-Ok.ensures.done.map
