use Rattle.std.proofs.Common.{◌+◌, ◌*◌, ◌∙◌, length-set, arith}
use Rattle.std.proofs.lemmas.List.Edits.{fill_by_more}
use Rattle.lfs_inodes.specs.MapValue.{shown_in}
use Rattle.lfs_inodes.proofs.map.InodeMap.shown_block.Goals as goal

pub loop-place-preserved : goal.loop-place-preserved
loop-place-preserved c =
    let i = c.loop-place.invariant in
    record {
      size = length-set c.loop-place.shown c.loop-place.place c.shown_address.result ∙ i.size;
      shown = rw c.shown_address.ensures (fill_by_more (λ k. shown_in c.args.self.now (128 * c.args.index + k)) c.loop-place.shown
          c.loop-place.place 0 (omega arith) i.shown);
    }
