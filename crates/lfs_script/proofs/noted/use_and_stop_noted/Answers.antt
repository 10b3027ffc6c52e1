use Rattle.lfs_script.proofs.HeardBytes.{hears_more}
use Rattle.lfs_script.proofs.Used.{apart_behind, carries_behind, err_of, ok_of, told_behind, unfound_behind, unfound_carries, unused_behind}
use Rattle.lfs_script.proofs.noted.use_and_stop_noted.Goals as goal

pub returns-in-Ok-end-clause-ran : goal.returns-in-Ok-end-clause-ran
returns-in-Ok-end-clause-ran g c =
    told_behind c.args.device c.in-Ok.found c.use_volume_noted-end.result.1 c.in-Ok.ensures.found
    c.into_inner-stopped.ensures.device c.use_volume_noted-end.ensures.carries c.crash.ensures _ _ _
    (ok_of _ c.in-Ok-end.is c.use_volume_noted-end.ensures.ran)

pub returns-in-Ok-end-clause-reads : goal.returns-in-Ok-end-clause-reads
returns-in-Ok-end-clause-reads g c = ok_of _ c.in-Ok-end.is c.use_volume_noted-end.ensures.reads

pub returns-in-Ok-end-clause-writes : goal.returns-in-Ok-end-clause-writes
returns-in-Ok-end-clause-writes g c = ok_of _ c.in-Ok-end.is c.use_volume_noted-end.ensures.writes

pub returns-in-Ok-end-clause-heard : goal.returns-in-Ok-end-clause-heard
returns-in-Ok-end-clause-heard g c =
    hears_more _ _ _ _
    (λ r r' used. (
      told_behind c.args.device c.in-Ok.found c.use_volume_noted-end.result.1 c.in-Ok.ensures.found
          c.into_inner-stopped.ensures.device c.use_volume_noted-end.ensures.carries c.crash.ensures _ _ _ used.0.session,
      used.1,
    ))
    (ok_of _ c.in-Ok-end.is c.use_volume_noted-end.ensures.heard)

pub returns-in-Ok-end-clause-apart : goal.returns-in-Ok-end-clause-apart
returns-in-Ok-end-clause-apart g c =
    apart_behind c.args.device c.in-Ok.found c.use_volume_noted-end.result.1 c.in-Ok.ensures.found c.into_inner-stopped.ensures.device
    c.use_volume_noted-end.ensures.carries c.crash.ensures c.into_inner-stopped.ensures.found

pub returns-in-Ok-end-clause-carries : goal.returns-in-Ok-end-clause-carries
returns-in-Ok-end-clause-carries g c =
    carries_behind c.args.device c.in-Ok.found c.use_volume_noted-end.result.1 c.in-Ok.ensures.found
    c.into_inner-stopped.ensures.device c.use_volume_noted-end.ensures.carries c.crash.ensures

pub returns-in-Err-end-clause-refused : goal.returns-in-Err-end-clause-refused
returns-in-Err-end-clause-refused g c =
    unused_behind c.args.device c.in-Ok.found c.use_volume_noted-end.result.1 c.in-Ok.ensures.found
    c.into_inner-stopped.ensures.device c.use_volume_noted-end.ensures.carries c.crash.ensures
    (err_of _ c.in-Err-end.is c.use_volume_noted-end.ensures.refused)

pub returns-in-Err-end-clause-carries : goal.returns-in-Err-end-clause-carries
returns-in-Err-end-clause-carries g c =
    carries_behind c.args.device c.in-Ok.found c.use_volume_noted-end.result.1 c.in-Ok.ensures.found
    c.into_inner-stopped.ensures.device c.use_volume_noted-end.ensures.carries c.crash.ensures

pub returns-in-Err-end-clause-unseen : goal.returns-in-Err-end-clause-unseen
returns-in-Err-end-clause-unseen g c = err_of _ c.in-Err-end.is c.use_volume_noted-end.ensures.unseen

pub returns-in-Err-end-clause-uncounted : goal.returns-in-Err-end-clause-uncounted
returns-in-Err-end-clause-uncounted g c = err_of _ c.in-Err-end.is c.use_volume_noted-end.ensures.uncounted

pub returns-in-Err-clause-refused : goal.returns-in-Err-clause-refused
returns-in-Err-clause-refused g c = unfound_behind c.args.device c.in-Err.ensures.refused c.crash-in-Err.ensures _ _

pub returns-in-Err-clause-carries : goal.returns-in-Err-clause-carries
returns-in-Err-clause-carries g c = unfound_carries c.args.device c.in-Err.ensures.refused c.crash-in-Err.ensures
