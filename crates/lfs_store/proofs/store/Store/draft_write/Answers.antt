use Rattle.std.proofs.Common.{◌≡◌, ◌+◌, ◌/◌, refl, arith, rules, ℕ, length, subst}
use Rattle.lfs_cleaner.proofs.of_log.of_memory.Going.{ok_then}
use Rattle.lfs_store.specs.Drafting.{PutsHeader}
use Rattle.std.specs.Int.{div_ceil}
use Rattle.lfs_store.specs.Writing.{resized}
use Rattle.lfs_cleaner.proofs.of_log.Unsaved.{none_left}
use Rattle.lfs_cleaner.proofs.of_log.LogReads.{fault_more}
use Rattle.lfs_store.proofs.Endings.{exit_is}
use Rattle.lfs_store.proofs.Keepings.{uncounted_drafts, uncounted_then}
use Rattle.lfs_store.proofs.Writings.{written_none, written_more, written}
use Rattle.lfs_store.proofs.Runs.{blocks_few, blocks_most, lone_room, run_goes_on, written_room}
use Rattle.lfs_store.proofs.store.Store.draft_write.Goals as goal

pub loop-index-init : goal.loop-index-init
loop-index-init g c = (
  written_none _ _ _ _ _,
  λ none. rw none refl,
)

pub returns-in_err-write_block-clause-failed : goal.returns-in_err-write_block-clause-failed
returns-in_err-write_block-clause-failed g c =
    rw (exit_is c.from_residual.ensures)
    (λ other. fault_more _ c.write_block.new.self.log c.loop-index.invariant.0.redrafts.reads (c.in_err-write_block.ensures.failed other))

pub loop-index-preserved : goal.loop-index-preserved
loop-index-preserved g c = (
  written_more _ (g.met.D.SectorDevice.lawful _) (search rules)
      c.loop-index.invariant.0 c.write_block.ensures.redrafts c.in_ok-write_block.ensures.done,
  λ none. run_goes_on _ _ _ _ (c.loop-index.invariant.1 none) c.in_ok-write_block.ensures.placed,
)

pub returns-clause-done : goal.returns-clause-done
returns-clause-done g c =
    ok_then _ _ _
    (λ puts. written _ _ _ c.resize.ensures.keeps.log c.requires.bytes (search rules) (search rules) c.loop-index.invariant.0
    (subst (λ (size : ℕ). PutsHeader c.loop-index.self.draft.changes c.resize.new.self.draft.changes c.args.number.value
    (resized c.args.header size)) (search rules) puts)) c.resize.ensures.done

pub returns-in_err-write_block-clause-redrafts : goal.returns-in_err-write_block-clause-redrafts
returns-in_err-write_block-clause-redrafts g c =
    uncounted_then (g.met.D.SectorDevice.lawful _) c.loop-index.invariant.0.redrafts c.write_block.ensures.redrafts

pub returns-clause-redrafts : goal.returns-clause-redrafts
returns-clause-redrafts g c =
    uncounted_drafts c.loop-index.invariant.0.redrafts c.resize.ensures.keeps

pub returns-clause-room : goal.returns-clause-room
returns-clause-room g c =
    let end : c.loop-index.index ≡ div_ceil (c.args.at + length c.args.bytes.now) 512 = search rules in
    ok_then c.resize.result _ _
    (λ puts none few. written_room c.args.self.now.draft.changes (c.args.at / 512) c.loop-index.index none
    c.loop-index.invariant.0.headers (c.loop-index.invariant.1 none.blocks)
    (rw end (blocks_few c.args.at (length c.args.bytes.now) few)) puts) c.resize.ensures.done

pub returns-clause-asked : goal.returns-clause-asked
returns-clause-asked g c =
    let end : c.loop-index.index ≡ div_ceil (c.args.at + length c.args.bytes.now) 512 = search rules in
    ok_then c.resize.result _ _
    (λ puts lone. lone_room c.args.self.now.draft.changes c.loop-index.self.draft.changes c.resize.new.self.draft.changes
    c.args.number.value (c.args.at / 512) c.loop-index.index lone.headers c.loop-index.invariant.0.headers
    (c.loop-index.invariant.1 (none_left c.args.self.now.draft.changes.blocks.items (omega arith)))
    (rw end (blocks_most c.args.at (length c.args.bytes.now) lone.few)) puts) c.resize.ensures.done
