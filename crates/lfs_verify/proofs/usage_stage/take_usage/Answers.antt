use Rattle.std.proofs.Common.{true, inl, refl}
use Rattle.lfs_verify.proofs.UsageSteps.{says_passed, usage_extra, usage_missing, usage_missed}
use Rattle.lfs_verify.proofs.UsageSteps.{usage_undecoded, usage_taken, says_taken, is_extra, is_needed, usage_goes, taken_bytes}
use Rattle.lfs_verify.proofs.usage_stage.take_usage.Goals as goal

pub returns-then-address-ne0-clause-goes : goal.returns-then-address-ne0-clause-goes
returns-then-address-ne0-clause-goes g c = λ d reads w.
    usage_extra d _ _ c.requires.index c.segments_of-segments.ensures c.usage_address-address.ensures
    c.if-index-segments.true c.if-address-ne0.true

pub returns-then-index-segments-clause-goes : goal.returns-then-index-segments-clause-goes
returns-then-index-segments-clause-goes g c = λ d reads.
    usage_goes d _ _ c.requires.index c.segments_of-segments.ensures c.usage_address-address.ensures _ _ true
    (inl (c.if-address-ne0.false, refl))

pub returns-then-index-segments-clause-is_there : goal.returns-then-index-segments-clause-is_there
returns-then-index-segments-clause-is_there g c = λ is.
    is_extra c.args.index _ _ c.args.checkpoint.now c.segments_of-segments.ensures c.usage_address-address.ensures c.if-index-segments.true
    c.if-address-ne0.false

pub returns-then-index-segments-clause-says : goal.returns-then-index-segments-clause-says
returns-then-index-segments-clause-says g c = λ is d reads.
    says_passed d _ _ c.requires.index c.segments_of-segments.ensures c.usage_address-address.ensures
    c.if-index-segments.true _ c.args.live.now

pub returns-then-address-eq0-clause-goes : goal.returns-then-address-eq0-clause-goes
returns-then-address-eq0-clause-goes g c = λ d reads w.
    usage_missing d _ _ c.requires.index c.segments_of-segments.ensures c.usage_address-address.ensures
    c.if-index-segments.false c.if-address-eq0.true

pub returns-then-not-branch-clause-goes : goal.returns-then-not-branch-clause-goes
returns-then-not-branch-clause-goes g c = λ d reads.
    usage_missed d _ _ c.requires.index c.segments_of-segments.ensures c.usage_address-address.ensures
    c.if-address-eq0.false _ _ _ (c.in_ok-take_block.ensures.takes d reads) c.if-not-branch.true

pub returns-in_default-clause-goes : goal.returns-in_default-clause-goes
returns-in_default-clause-goes g c = λ d reads.
    let step = c.in_ok-take_block.ensures in
    usage_undecoded d _ _ c.requires.index c.segments_of-segments.ensures c.usage_address-address.ensures
    c.if-address-eq0.false _ _ _ (step.takes d reads) c.if-not-branch.false (step.long c.if-not-branch.false)
    (taken_bytes _ d _ _ _ _ _ (g.met.D.SectorDevice.lawful _).now reads (step.takes d reads) c.if-not-branch.false)
    c.in_default.ensures.exact

pub returns-clause-goes : goal.returns-clause-goes
returns-clause-goes g c = λ d reads.
    let step = c.in_ok-take_block.ensures in
    usage_taken d _ _ c.requires.index c.segments_of-segments.ensures c.usage_address-address.ensures
    c.if-address-eq0.false _ _ _ (step.takes d reads) c.if-not-branch.false (step.long c.if-not-branch.false)
    (taken_bytes _ d _ _ _ _ _ (g.met.D.SectorDevice.lawful _).now reads (step.takes d reads) c.if-not-branch.false)
    c.in-Some.block c.in-Some.ensures.exact

pub returns-clause-is_there : goal.returns-clause-is_there
returns-clause-is_there g c = λ is.
    is_needed c.args.index _ _ c.args.checkpoint.now c.segments_of-segments.ensures c.usage_address-address.ensures
    c.if-index-segments.false c.if-address-eq0.false

pub returns-clause-says : goal.returns-clause-says
returns-clause-says g c = λ is d reads.
    let step = c.in_ok-take_block.ensures in
    says_taken d _ _ c.requires.index c.segments_of-segments.ensures c.usage_address-address.ensures
    c.if-address-eq0.false _ _ _ (step.takes d reads) c.if-not-branch.false (step.long c.if-not-branch.false)
    (taken_bytes _ d _ _ _ _ _ (g.met.D.SectorDevice.lawful _).now reads (step.takes d reads) c.if-not-branch.false)
    c.in-Some.block c.in-Some.ensures.exact
    c.requires.used c.copy_uses.ensures
