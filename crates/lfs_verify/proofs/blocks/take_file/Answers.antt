use Rattle.std.proofs.Common.{sym, ◌∙◌, arith}
use Rattle.std.proofs.lemmas.Result.{IfOk-weaker}
use Rattle.lfs_verify.proofs.BlockSteps.{inode_word}
use Rattle.lfs_verify.proofs.FileSteps.{none_passed}
use Rattle.lfs_verify.proofs.blocks.take_file.Goals as goal

pub returns-then-address-eq0-clause-goes : goal.returns-then-address-eq0-clause-goes
returns-then-address-eq0-clause-goes g c = λ d k reads is keeps w.
    none_passed _ d k _ c.requires.file (sym is ∙ c.if-address-eq0.true) w

pub returns-in_default-clause-goes : goal.returns-in_default-clause-goes
returns-in_default-clause-goes g c = λ d k reads is keeps w holds. let there = keeps (omega arith) in
    omega (arith, there.0, c.in_default.ensures)

pub returns-in-Roots-clause-goes : goal.returns-in-Roots-clause-goes
returns-in-Roots-clause-goes g c = rw c.in-Roots.is
    (IfOk-weaker c.root_blocks.result _ _
    (λ r goes d k reads is keeps.
    goes d k reads (inode_word d k _ is ((keeps (omega arith)).1 ∙ sym c.in-Some.ensures))) c.root_blocks.ensures.goes)

pub returns-in-Leaves-clause-goes : goal.returns-in-Leaves-clause-goes
returns-in-Leaves-clause-goes g c = rw c.in-Leaves.is
    (IfOk-weaker c.leaves_of_file.result _ _
    (λ r goes d k reads is keeps.
    goes d k reads (inode_word d k _ is ((keeps (omega arith)).1 ∙ sym c.in-Some.ensures))) c.leaves_of_file.ensures.goes)

pub returns-in-Data-clause-goes : goal.returns-in-Data-clause-goes
returns-in-Data-clause-goes g c = rw c.in-Data.is
    (IfOk-weaker c.data_of_file.result _ _
    (λ r goes d k reads is keeps.
    goes d k reads (inode_word d k _ is ((keeps (omega arith)).1 ∙ sym c.in-Some.ensures))) c.data_of_file.ensures.goes)
