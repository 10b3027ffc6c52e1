use Rattle.lfs_script.proofs.Used.{apart_behind, carries_behind, err_more, ok_more, on_all, stopped_behind, unfound_behind, unfound_carries}
use Rattle.lfs_script.proofs.Used.{unused_behind}
use Rattle.lfs_script.proofs.session.use_and_stop.Goals as goal

pub returns-in-Ok-clause-ran : goal.returns-in-Ok-clause-ran
returns-in-Ok-clause-ran g c =
    ok_more _ _ c.use_volume-end.result.0
    (λ end session. stopped_behind c.args.device c.in-Ok.found c.use_volume-end.result.1 c.in-Ok.ensures.found
    c.into_inner-stopped.ensures.device c.use_volume-end.ensures.carries c.crash.ensures _ _ session) c.use_volume-end.ensures.ran

pub returns-in-Ok-clause-refused : goal.returns-in-Ok-clause-refused
returns-in-Ok-clause-refused g c =
    err_more _ _ c.use_volume-end.result.0
    (λ fault unused. unused_behind c.args.device c.in-Ok.found c.use_volume-end.result.1 c.in-Ok.ensures.found
    c.into_inner-stopped.ensures.device c.use_volume-end.ensures.carries c.crash.ensures unused) c.use_volume-end.ensures.refused

pub returns-in-Ok-clause-apart : goal.returns-in-Ok-clause-apart
returns-in-Ok-clause-apart g c =
    on_all _ c.use_volume-end.result.0
    (apart_behind c.args.device c.in-Ok.found c.use_volume-end.result.1 c.in-Ok.ensures.found c.into_inner-stopped.ensures.device
    c.use_volume-end.ensures.carries c.crash.ensures c.into_inner-stopped.ensures.found)

pub returns-in-Ok-clause-carries : goal.returns-in-Ok-clause-carries
returns-in-Ok-clause-carries g c =
    carries_behind c.args.device c.in-Ok.found c.use_volume-end.result.1 c.in-Ok.ensures.found c.into_inner-stopped.ensures.device
    c.use_volume-end.ensures.carries c.crash.ensures

pub returns-in-Err-clause-refused : goal.returns-in-Err-clause-refused
returns-in-Err-clause-refused g c = unfound_behind c.args.device c.in-Err.ensures.refused c.crash-in-Err.ensures _ _

pub returns-in-Err-clause-carries : goal.returns-in-Err-clause-carries
returns-in-Err-clause-carries g c = unfound_carries c.args.device c.in-Err.ensures.refused c.crash-in-Err.ensures
