use Rattle.std.proofs.lemmas.Result.{IfErr-weaker, IfOk-weaker}
use Rattle.lfs_store.proofs.StoreSeen.{seen_fault, seen_part, seen_read}
use Rattle.lfs_store.proofs.files.StoreFiles.read_at.Goals as goal

pub returns-clause-reads : goal.returns-clause-reads
returns-clause-reads g c =
    seen_read _ _ _ c.read_at.ensures.reads

pub returns-clause-answer : goal.returns-clause-answer
returns-clause-answer g c =
    IfOk-weaker _ _ _
    (λ bytes. seen_part g.D.SectorDevice.state c.args.self.now c.read_at.new.self c.args.number.value c.args.from c.args.to bytes.items)
    c.read_at.ensures.answer

pub returns-clause-failed : goal.returns-clause-failed
returns-clause-failed g c =
    IfErr-weaker c.read_at.result _ _
    (λ fault failed other. seen_fault _ c.args.self.now c.read_at.new.self (failed other)) c.read_at.ensures.failed
