use Rattle.lfs_fs.proofs.Prelude.{arith}
use Rattle.lfs_fs.proofs.calls.Files.{here_begun}
use Rattle.lfs_fs.proofs.write.Drafts.{cut_ends}
use Rattle.lfs_fs.proofs.Exits.{draft_fits}
use Rattle.lfs_fs.proofs.fs.Fs.cut_file.Goals as goal

pub finish-requires-clause-room : goal.finish-requires-clause-room
finish-requires-clause-room g c =
    let draft = c.draft_length-drafted.ensures in
    draft_fits g.met.D.SectorDevice.lawful (here_begun _ g.met.D.SectorDevice.lawful
    c.requires.ready c.requires.counted)
    draft.only 1 1 (omega arith) draft.small

pub returns : goal.returns
returns g c handle opens =
    let draft = c.draft_length-drafted in
    cut_ends g.met.D.SectorDevice.lawful (here_begun g.D.SectorDevice.state
    g.met.D.SectorDevice.lawful c.requires.ready c.requires.counted)
    draft.new.files draft.ensures.only.redrafts handle opens c.finish.new.self c.finish.ensures.rest draft.result
    c.finish.result c.finish.ensures.ends draft.ensures.counted draft.ensures.failed draft.ensures.only.halted draft.ensures.only.other
    c.requires.most draft.ensures.done
    (draft_fits g.met.D.SectorDevice.lawful (here_begun _ g.met.D.SectorDevice.lawful
    c.requires.ready c.requires.counted)
    draft.ensures.only 1 1 (omega arith) draft.ensures.small)
