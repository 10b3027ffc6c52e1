use Rattle.std.proofs.Common.{◌≡◌, ◌+◌, ◌==◌, not, ℕ, sym, ◌∙◌, ap, arith}
use mir.Val.{bool_byte}
use Rattle.lfs_memory.specs.Pointers.{pointer_in}
use Rattle.lfs_memory.proofs.PointerRuns.{blocks_none, blocks_more, byte_low}
use Rattle.lfs_memory.proofs.pointers.PointerRun.count.Goals as goal

pub loop-index-init : goal.loop-index-init
loop-index-init c = record { few = omega arith; value = blocks_none (pointer_in c.args.self.now) _ }

pub loop-index-preserved : goal.loop-index-preserved
loop-index-preserved c =
    let one = byte_low (not (c.pointer.result == 0)) in
    let is = c.from-count.ensures in
    record {
      few = omega arith;
      value = blocks_more (pointer_in c.args.self.now) _ c.loop-index.index (omega arith) c.loop-index.invariant.value
          ∙ ap (λ (p : ℕ). c.loop-index.count + bool_byte (not (p == 0))) (sym c.pointer.ensures)
          ∙ ap (λ (k : ℕ). c.loop-index.count + k) (sym is);
    }

pub returns-clause-value : goal.returns-clause-value
returns-clause-value c =
    let end : c.loop-index.index ≡ c.args.to = omega arith in
    rw end at c.loop-index.invariant.value
