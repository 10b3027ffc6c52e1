use Rattle.std.proofs.lemmas.Result.{err_from_is_err_and}
use Rattle.std.proofs.Common.{◌*◌, arith, ap, ℕ}
use Rattle.lfs_dirs.specs.Directory.{per_block}
use Rattle.lfs_files.specs.declared.fault.LogFault.TheVariants as LogFault
use Rattle.lfs_files.proofs.FilesCompose.{fault_more}
use Rattle.lfs_dirs.specs.declared.listing.ListFault.TheVariants as ListFault
use Rattle.lfs_dirs.proofs.Lists.{list_begins, list_goes_on, list_ends, list_fails, other_result, slot_lacks}
use Rattle.lfs_dirs.proofs.Widths.{block_before, blocks_past, blocks_up}
use Rattle.lfs_dirs.proofs.listing.inspect.Goals as goal

pub loop-index-init : goal.loop-index-init
loop-index-init g c =
    let slots = c.slots_of-slots.ensures in
    let whole = c.slots_in_block-whole.ensures.value in (
      omega (
        arith,
        ap (λ (i : ℕ). per_block c.args.header.form * i) c.div_ceil-index.ensures,
        blocks_up c.args.header.form
            c.slots_of-slots.result whole,
      ),
      list_begins c.args.directory.value c.args.header (g.F.Files.state c.args.files.now) c.div_ceil-index.result
          c.new-entries.ensures.items (let past = blocks_past c.args.header.form c.div_ceil-index.result c.slots_of-slots.result
          whole (omega arith) in omega arith),
    )

pub loop-index-preserved : goal.loop-index-preserved
loop-index-preserved g c = (
  omega (arith, block_before c.args.header.form c.loop-index.index c.loop-index-test.true),
  list_goes_on c.args.directory.value c.args.header (g.F.Files.state c.list_block.new.files) c.slots_of-slots.ensures
      c.slots_in_block-whole.ensures.value c.min-count.ensures c.loop-index-test.true c.loop-index.invariant.0 c.loop-index.invariant.1
      c.list_block.new.entries.items (g.met.F.Files.lawful c.args.files.now) c.list_block.ensures.reads c.in_ok-list_block.ensures.done,
)

pub returns-in_err-list_block-clause-failed : goal.returns-in_err-list_block-clause-failed
returns-in_err-list_block-clause-failed g c =
    let p = err_from_is_err_and c.from_residual.result c.from_residual.ensures.1 in rw (p.1, p.2)
    (λ other. list_fails c.args.directory.value c.args.header (g.F.Files.state c.list_block.new.files) c.slots_of-slots.ensures
    c.slots_in_block-whole.ensures.value c.min-count.ensures c.loop-index-test.true c.loop-index.invariant.0 c.loop-index.invariant.1
    (c.in_err-list_block.ensures.failed other))

pub returns-in_err-list_block-clause-malformed : goal.returns-in_err-list_block-clause-malformed
returns-in_err-list_block-clause-malformed g c =
    let p = err_from_is_err_and c.from_residual.result c.from_residual.ensures.1 in rw (p.1, p.2)
    (λ same. slot_lacks c.args.directory.value c.args.header (g.F.Files.state c.list_block.new.files) c.slots_of-slots.ensures
    c.slots_in_block-whole.ensures.value c.min-count.ensures c.loop-index-test.true c.loop-index.invariant.0 c.loop-index.invariant.1
    (c.in_err-list_block.ensures.malformed (other_result c.in_err-list_block.field-0.0 ListFault.NoSlot same)))

pub returns-in_err-list_block-clause-device : goal.returns-in_err-list_block-clause-device
returns-in_err-list_block-clause-device g c =
    let p = err_from_is_err_and c.from_residual.result c.from_residual.ensures.1 in rw (p.1, p.2)
    (λ same. fault_more (g.F.Files.state c.list_block.new.files) c.loop-index.invariant.1.reads
    (c.in_err-list_block.ensures.device (other_result c.in_err-list_block.field-0.0 (ListFault.Log LogFault.Device) same)))

pub returns-in-Ok-clause-answer : goal.returns-in-Ok-clause-answer
returns-in-Ok-clause-answer g c =
    list_ends c.args.directory.value c.args.header c.put_in_order.new.entries.items
    (omega arith) c.loop-index.invariant.1 c.in-Ok.ensures
