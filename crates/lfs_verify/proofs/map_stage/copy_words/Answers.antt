use Rattle.std.proofs.Common.{◌<◌, ◌+◌, ◌*◌, length, arith}
use Rattle.lfs_verify.proofs.MapSteps.{copies_none, copies_more}
use Rattle.lfs_verify.proofs.map_stage.copy_words.Goals as goal

pub loop-place-init : goal.loop-place-init
loop-place-init c = record { copies = copies_none }

pub loop-place-preserved : goal.loop-place-preserved
loop-place-preserved c =
    let inside : 128 * c.args.index + c.loop-place.place < length c.loop-place.map =
    omega (arith, c.loop-place.auto.map, c.requires.files, c.requires.index, c.loop-place-test.true) in
    record {
      copies = copies_more inside c.word_at.ensures c.loop-place.invariant.copies;
    }
