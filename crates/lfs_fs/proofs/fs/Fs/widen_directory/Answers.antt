use Rattle.lfs_fs.proofs.Prelude.{arith}
use Rattle.lfs_store.proofs.of_memory.Going.{ok_then}
use Rattle.lfs_fs.proofs.widen.Ends.{takes_wide, widen_ends}
use Rattle.lfs_fs.proofs.fs.Fs.widen_directory.Goals as goal

pub finish-requires-clause-room : goal.finish-requires-clause-room
finish-requires-clause-room g c =
    ok_then c.draft_wide-drafted.result _ _
    (λ widens. (let asks = takes_wide g.D.SectorDevice.state c.requires.ready c.draft_wide-drafted.new.files
    c.args.number.value c.args.header widens in omega (arith, asks)))
    c.draft_wide-drafted.ensures.done

pub returns : goal.returns
returns g c v path narrow =
    let draft = c.draft_wide-drafted in
    widen_ends g.met.D.SectorDevice.lawful narrow draft.new.files draft.ensures.only.redrafts
    c.finish.new.self c.finish.ensures.rest c.finish.result draft.result c.finish.ensures.ends draft.ensures.done draft.ensures.counted
    draft.ensures.failed draft.ensures.only.halted draft.ensures.only.other
