use Rattle.std.specs.Prelude.{min, Option}
use Rattle.std.proofs.Common.{◌≤◌, ◌*◌, ℕ, subst, arith}
use Rattle.lfs_cleaner.specs.log.memory.files.declared.header.Header.{Header}
use Rattle.lfs_store.proofs.Endings.{exit_is}
use Rattle.lfs_store.specs.declared.draft.Draft.{Draft}
use Rattle.lfs_store.specs.Measuring.{CountsStored, CountsPointers}
use Rattle.lfs_store.specs.Reading.{ReadsHeader}
use Rattle.lfs_cleaner.proofs.of_log.LogReads.{fault_more, reads_more}
use Rattle.lfs_store.proofs.Measures.{absent, measured}
use Rattle.lfs_store.proofs.store.Store.measure.Goals as goal

pub returns-in-Ok-None-clause-answer : goal.returns-in-Ok-None-clause-answer
returns-in-Ok-None-clause-answer g c =
    absent _ c.args.self.now.draft.changes _ _ c.header.new.self.log _ _
    (subst (λ (o : Option Header). ReadsHeader g.D.SectorDevice.state c.args.self.now.log c.header.new.self.log
    c.args.self.now.draft.changes c.args.number.value o) c.in-Ok-None.field-0-is c.in-Ok-None.ensures.answer)

pub returns-in_err-data_blocks-clause-failed : goal.returns-in_err-data_blocks-clause-failed
returns-in_err-data_blocks-clause-failed g c =
    rw (exit_is c.from_residual.ensures) (fault_more _ c.count_stored.new.log
    c.header.ensures.reads.log c.in_err-data_blocks.ensures.reads.failed)

pub returns-in_err-pointers-clause-failed : goal.returns-in_err-pointers-clause-failed
returns-in_err-pointers-clause-failed g c =
    rw (exit_is c.from_residual-in_err-pointers.ensures) (fault_more _ c.count_pointers.new.log (reads_more _
    (g.met.D.SectorDevice.lawful _) c.header.ensures.reads.log c.count_stored.ensures.reads.reads) c.in_err-pointers.ensures.reads.failed)

pub returns-clause-answer : goal.returns-clause-answer
returns-clause-answer g c =
    let state = g.D.SectorDevice.state in
    let covers : c.in-Ok-Some.header.size ≤ 512 * c.div_ceil.result = omega arith in
    let answer = subst (λ (o : Option Header). ReadsHeader state c.args.self.now.log c.header.new.self.log c.args.self.now.draft.changes
    c.args.number.value o) c.in-Ok-Some.field-0-is c.in-Ok-Some.ensures.answer in
    let told =
    subst (λ (d : Draft). CountsStored state c.header.new.self.log c.count_stored.new.log d.changes c.args.number.value
    c.min.result c.min-end.result c.in_ok-data_blocks.data_blocks) c.header.ensures.reads.draft c.in_ok-data_blocks.ensures.answer in
    let counted =
    subst (λ (end : ℕ). CountsStored state c.header.new.self.log c.count_stored.new.log c.args.self.now.draft.changes
    c.args.number.value (min c.args.from end) end c.in_ok-data_blocks.data_blocks) c.min-end.ensures (rw (← c.min.ensures) told) in
    let below = subst (λ (d : Draft).
    CountsPointers state c.count_stored.new.log c.count_pointers.new.log d.changes c.args.number.value
    c.in-Ok-Some.header.size c.args.from c.args.to c.in_ok-pointers.pointers)
    c.header.ensures.reads.draft c.in_ok-pointers.ensures.answer in
    measured _ c.args.self.now.draft.changes _ _ _ _ _ _ _ c.header.ensures.reads.log c.count_stored.ensures.reads.reads
    c.count_pointers.ensures.reads.reads covers
    c.requires.order answer counted below
