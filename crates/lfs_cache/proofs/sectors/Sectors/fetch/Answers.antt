use Rattle.std.proofs.Common.{◌≡◌, sym, subst, ◌∙◌}
use Rattle.lfs_cache.specs.Kept.{KeepsAlso}
use Rattle.lfs_cache.proofs.Keeping.{agrees-promoted_at, agrees-untouched, agrees-also, still_found, missed, at_err}
use Rattle.lfs_cache.proofs.sectors.Sectors.fetch.Goals as goal

pub returns-then-promote-clause-agrees : goal.returns-then-promote-clause-agrees
returns-then-promote-clause-agrees g c =
    rw c.promote.ensures.entries
    (agrees-promoted_at c.args.self.now.kept c.args.sector (g.D.SectorDevice.state c.args.self.now.device) c.requires.agrees)

pub returns-then-promote-clause-shown : goal.returns-then-promote-clause-shown
returns-then-promote-clause-shown g c =
    rw c.promote.ensures.entries
    (λ none. absurd (still_found c.args.self.now.kept c.args.sector (sym c.promote.ensures.value ∙ c.if-promote.true) none))

pub returns-in_err-read-clause-agrees : goal.returns-in_err-read-clause-agrees
returns-in_err-read-clause-agrees g c =
    let old = g.D.SectorDevice.state c.args.self.now.device in
    let new = g.D.SectorDevice.state c.read.new.self in
    let kept = c.args.self.now.kept in
    rw (missed kept c.args.sector c.promote.ensures.entries c.promote.ensures.value c.if-promote.false)
    (agrees-untouched kept c.read.ensures.untouched c.read.ensures.carries c.requires.agrees)

pub returns-in_err-read-clause-unkept : goal.returns-in_err-read-clause-unkept
returns-in_err-read-clause-unkept g c =
    at_err c.from_residual.result (c.promote.new.self ≡ c.args.self.now.kept)
    (missed c.args.self.now.kept c.args.sector c.promote.ensures.entries c.promote.ensures.value c.if-promote.false)

pub returns-clause-agrees : goal.returns-clause-agrees
returns-clause-agrees g c =
    let old = g.D.SectorDevice.state c.args.self.now.device in
    let new = g.D.SectorDevice.state c.read.new.self in
    let kept = c.args.self.now.kept in
    let same = missed kept c.args.sector c.promote.ensures.entries c.promote.ensures.value c.if-promote.false in
    let before = agrees-untouched kept c.read.ensures.untouched c.read.ensures.carries c.requires.agrees in
    agrees-also kept c.keep.new.kept c.args.sector c.read.new.out new
    (subst (λ k. KeepsAlso c.args.sector c.read.new.out k c.keep.new.kept) same c.keep.ensures)
    (λ keeps t w apart h. before keeps t w h)
    (λ keeps. rw c.read.ensures.untouched.content (c.in_ok-read.ensures.value keeps))

pub returns-clause-kept : goal.returns-clause-kept
returns-clause-kept g c =
    let same = missed c.args.self.now.kept c.args.sector c.promote.ensures.entries c.promote.ensures.value c.if-promote.false in
    λ none. subst (λ k. KeepsAlso c.args.sector c.read.new.out k c.keep.new.kept) same c.keep.ensures
