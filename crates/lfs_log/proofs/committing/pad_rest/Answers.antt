use Rattle.std.proofs.Common.{rules, ◌≡◌, ◌+◌, ◌%◌, ◌^◌, ◌∙◌, ℕ, refl, ap₂, arith}
use Rattle.lfs_memory.specs.Memory.{PadsChunk}
use Rattle.lfs_memory.proofs.Padded.{pads_begun, pads_memory, pads_only, pads_used, to_full}
use Rattle.lfs_log.proofs.committing.pad_rest.Goals as goal

pub lacking-end-requires-clause-memory : goal.lacking-end-requires-clause-memory
lacking-end-requires-clause-memory c = to_full c.requires.memory

pub loop-init : goal.loop-init
loop-init c = record { pads = PadsChunk.nothing; used = omega arith }

pub pad-requires-clause-memory : goal.pad-requires-clause-memory
pad-requires-clause-memory c = pads_memory c.loop.invariant.pads (to_full c.requires.memory)

pub pad-requires-clause-some : goal.pad-requires-clause-some
pad-requires-clause-some c = pads_begun c.loop.invariant.pads c.requires.begun

pub pad-requires-clause-room : goal.pad-requires-clause-room
pad-requires-clause-room c = omega (arith, c.loop.invariant.used, c.lacking-end.ensures.room, c.loop-test.true)

pub loop-preserved : goal.loop-preserved
loop-preserved c = record {
  pads = PadsChunk.more _ _ c.loop.invariant.pads c.pad.ensures;
  used = omega (arith, pads_used c.pad.ensures, c.loop.invariant.used);
}

pub returns-clause-ends : goal.returns-clause-ends
returns-clause-ends c =
    let only = pads_only c.loop.invariant.pads (to_full c.requires.memory) in
    let all : c.loop.counter ≡ c.lacking-end.result = search rules in
    ap₂ (λ (n p : ℕ). n % 2 ^ p) (c.loop.invariant.used ∙ ap₂ (λ (a b : ℕ). a + b) refl all) only.unit ∙ c.lacking-end.ensures.ends
