use Rattle.lfs_fs.proofs.Prelude.{rules, arith, ok_then}
use Rattle.lfs_fs.proofs.calls.Files.{here_begun}
use Rattle.lfs_fs.proofs.write.Drafts.{lone_write, write_ends}
use Rattle.lfs_fs.proofs.write.Exits.{bytes_of}
use Rattle.lfs_fs.proofs.fs.Fs.write_file.Goals as goal

pub draft_bytes-drafted-requires-clause-alone : goal.draft_bytes-drafted-requires-clause-alone
draft_bytes-drafted-requires-clause-alone g c =
    lone_write g.D.SectorDevice.state c.args.self.now.store c.requires.ready.empty c.requires.most

pub finish-requires-clause-room : goal.finish-requires-clause-room
finish-requires-clause-room g c =
    ok_then c.draft_bytes-drafted.result _ _ (λ asked. omega (arith, asked)) c.draft_bytes-drafted.ensures.asked

pub returns : goal.returns
returns g c handle opens few =
    let draft = c.draft_bytes-drafted in
    write_ends g.met.D.SectorDevice.lawful
    (here_begun g.D.SectorDevice.state g.met.D.SectorDevice.lawful c.requires.ready c.requires.counted)
    draft.new.files draft.ensures.only.redrafts handle opens c.finish.new.self c.finish.ensures.rest draft.result
    c.finish.result c.finish.ensures.ends draft.ensures.counted draft.ensures.failed draft.ensures.only.halted draft.ensures.only.other
    c.requires.bytes few c.requires.end (bytes_of c.args.bytes.now (λ i. search rules)) draft.ensures.done draft.ensures.asked
