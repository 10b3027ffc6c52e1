use Rattle.std.proofs.lemmas.Result.{IfOk-weaker}
use Rattle.lfs_entries.proofs.ObjectReads.{object_read}
use Rattle.lfs_entries.proofs.reading.read_object.Goals as goal

pub returns-clause-answer : goal.returns-clause-answer
returns-clause-answer g c =
    IfOk-weaker c.read_sized.result _ _ (λ bytes. object_read c.header_of.ensures.reads
    c.read_sized.ensures.only.reads c.args.number.value c.in_ok-header.header c.in_ok-header.ensures.answer
    c.args.offset c.args.len bytes.items) c.read_sized.ensures.answer
