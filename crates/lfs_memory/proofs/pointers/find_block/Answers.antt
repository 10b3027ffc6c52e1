use Rattle.std.proofs.Common.{rules}
use Rattle.lfs_memory.proofs.PointerRuns.{kept_found, kept_some, run_still}
use Rattle.lfs_memory.proofs.Presents.{looks_none}
use Rattle.lfs_memory.proofs.pointers.find_block.Goals as goal

pub returns-then-is_kept_for-clause-finds : goal.returns-then-is_kept_for-clause-finds
returns-then-is_kept_for-clause-finds g c =
    let d = g.D.SectorDevice.state _ in
    let is = c.is_kept_for.ensures c.if-is_kept_for.true in
    record {
      answer = kept_found _ _ _ _ c.kept_pointer.result
          (looks_none d) c.requires.kept is c.kept_pointer.ensures;
      some = λ some. kept_some d _ _ _ _ c.requires.kept is;
      looks = search rules;
    }

pub returns-clause-kept : goal.returns-clause-kept
returns-clause-kept g c =
    run_still _ _ c.locate_block.ensures.looks.looks c.requires.kept
