use Rattle.std.proofs.Common.{sym, ◌∙◌, arith}
use Rattle.std.proofs.lemmas.Result.{IfOk-weaker}
use Rattle.lfs_tree.proofs.ObjectNames.{head_told, held_headers, object_directory, object_other}
use Rattle.lfs_tree.proofs.slot_stage.take_object.Goals as goal

pub returns-then-not-is_directory-clause-takes : goal.returns-then-not-is_directory-clause-takes
returns-then-not-is_directory-clause-takes g c k m sees leads told base was =
    object_other m (held_headers sees.holds) c.args.headers.now told c.args.number.value
    (omega arith) base c.args.tables.now (sym c.get.ensures ∙ c.in-Some.is)
    (cc) was

pub returns-clause-takes : goal.returns-clause-takes
returns-clause-takes g c = IfOk-weaker c.take_directory.result _ _ (λ taken takes k m sees leads told base was.
    object_directory m (held_headers sees.holds) c.args.headers.now told c.args.number.value
    (omega arith) base c.take_directory.new.tables (cc) taken
    (cc) (takes k m sees leads base was))
    c.take_directory.ensures.takes

pub returns-clause-failed : goal.returns-clause-failed
returns-clause-failed g c same k m sees leads told =
    c.take_directory.ensures.failed same k m sees leads
    (head_told m c.args.headers.now told c.args.number.value (omega arith) (cc))
