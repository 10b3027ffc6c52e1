use Rattle.lfs_verify.specs.Take.{SomeWord}
use Rattle.std.proofs.Common.{refl, arith, true, false, inl}
use Rattle.lfs_verify.proofs.Takes.{block_taken, takes_none, takes_as, no_word}
use Rattle.lfs_verify.proofs.MapSteps.{lists_passed, lists_taken, empty_taken, map_goes}
use Rattle.lfs_verify.proofs.map_stage.take_map.Goals as goal

pub returns-then-address-eq0-clause-goes : goal.returns-then-address-eq0-clause-goes
returns-then-address-eq0-clause-goes g c = λ d reads.
    map_goes d _ _ c.requires.index c.map_address-address.ensures _ _ true
    (inl (c.if-address-eq0.true, refl))

pub returns-then-address-eq0-clause-lists : goal.returns-then-address-eq0-clause-lists
returns-then-address-eq0-clause-lists g c = λ is d reads was.
    lists_passed d _ _ c.requires.index c.map_address-address.ensures c.if-address-eq0.true _
    c.requires.empty was

pub returns-then-address-eq0-clause-empty : goal.returns-then-address-eq0-clause-empty
returns-then-address-eq0-clause-empty g c = λ is n le. c.requires.empty n (omega (arith, le))

pub returns-then-not-branch-clause-goes : goal.returns-then-not-branch-clause-goes
returns-then-not-branch-clause-goes g c = λ d reads.
    map_goes d c.args.checkpoint.now c.args.index c.requires.index c.map_address-address.ensures _ c.args.marks.now false
    (takes_none d _ _ _ _ _ (c.in_ok-take_block.ensures.takes d reads) SomeWord c.if-not-branch.true (omega arith) no_word)

pub returns-then-not-has_word-clause-goes : goal.returns-then-not-has_word-clause-goes
returns-then-not-has_word-clause-goes g c = λ d reads.
    map_goes d c.args.checkpoint.now c.args.index c.requires.index c.map_address-address.ensures _ c.args.marks.now false
    (takes_as d _ _ _ _ _ (c.in_ok-take_block.ensures.takes d reads) SomeWord c.if-not-branch.false (omega arith) false
    c.if-not-has_word.ensures)

pub returns-clause-goes : goal.returns-clause-goes
returns-clause-goes g c = λ d reads.
    map_goes d _ _ c.requires.index c.map_address-address.ensures _ _ true
    (takes_as d _ _ _ _ _ (c.in_ok-take_block.ensures.takes d reads) SomeWord c.if-not-branch.false (omega arith) true
    c.if-not-has_word.ensures)

pub returns-clause-lists : goal.returns-clause-lists
returns-clause-lists g c = λ is d reads was.
    lists_taken d _ _ c.requires.index c.map_address-address.ensures
    (block_taken d _ _ _ _ _ (c.in_ok-take_block.ensures.takes d reads) c.if-not-branch.false).1 c.copy_words.ensures was

pub returns-clause-empty : goal.returns-clause-empty
returns-clause-empty g c =
    λ is n le. empty_taken _ c.copy_words.ensures c.requires.empty n le
