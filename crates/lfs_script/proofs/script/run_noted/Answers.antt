use Rattle.std.proofs.Common.{rules, ◌≡◌, ◌≢◌, ◌∙◌, ap, arith, refl, Some, None, Ok, length, slice_range, vec_len}
use Rattle.lfs_script.specs.declared.line.LineEnd.TheVariants.{Input}
use Rattle.lfs_script.specs.declared.script.StrictEnd.TheVariants.{Script}
use Rattle.lfs_fs.proofs.ScriptRuns.{told_none, tells_more}
use Rattle.lfs_script.proofs.HeardBytes.{uses_start}
use Rattle.lfs_script.proofs.ScriptHeard.{finished_heard, heard_ended, heard_more, no_room_heard, numbers_end_heard, read_fails_heard}
use Rattle.lfs_script.proofs.ScriptHeard.{too_long_heard, turned_end_heard}
use Rattle.lfs_script.proofs.ScriptTurns.{ahead_more, finish_reads, numbers_cause, read_cause, refuse_reads, turn_reads}
use Rattle.lfs_script.proofs.ScriptTurns.{finished, finishes_of, line_ended, long_ended, no_room, numbers_end, read_fails, so_far_flushed}
use Rattle.lfs_script.proofs.ScriptTurns.{so_far_more, glances_of, so_far_none, too_long, turned_end, turns_of}
use Rattle.lfs_script.proofs.Writing.{writes_from}
use Rattle.lfs_script.proofs.script.run_noted.Goals as goal

pub returns-in_default-clause-ends : goal.returns-in_default-clause-ends
returns-in_default-clause-ends g c =
    no_room (told_none g.met.D.SectorDevice.lawful) (tells_more g.met.D.SectorDevice.lawful) _ _ _ _

pub returns-in_default-new-clause-ends : goal.returns-in_default-new-clause-ends
returns-in_default-new-clause-ends g c =
    no_room (told_none g.met.D.SectorDevice.lawful) (tells_more g.met.D.SectorDevice.lawful) _ _ _ _

pub loop-count-init : goal.loop-count-init
unfolding so_far_none
loop-count-init g c = (
  search rules,
  so_far_none {strict = c.args.strict} (told_none g.met.D.SectorDevice.lawful)
      (tells_more g.met.D.SectorDevice.lawful) _ _
      _ _ c.in-Ok-new.ensures.empty,
  (let all = c.in-Ok-new.ensures.ahead in omega (arith, all)),
  omega arith,
  uses_start _ c.in-Ok-new.ensures.empty,
  refl,
)

pub loop-count-preserved : goal.loop-count-preserved
unfolding so_far_more so_far_flushed
loop-count-preserved g c =
    let failed = c.loop-count.invariant.3 in
    let counted = c.next_line.ensures.counted in (
      c.next_line.ensures.room,
      so_far_more (told_none g.met.D.SectorDevice.lawful)
          (tells_more g.met.D.SectorDevice.lawful) _ _
          _ _ _ _ _ _ _ _ _ _ _
          (so_far_flushed g.D.SectorDevice.state c.args.strict _ c.next_line.ensures.kept c.next_line.ensures.unseen
          c.loop-count.invariant.1)
          c.next_line.ensures.plain
          (line_ended _ _ c.next_line.new.line.items c.in-Ok-Newline.field-0-is c.in-Ok-Newline.ensures.bytes)
          (turns_of g.D.SectorDevice.state c.args.strict None _ _ _ _ c.loop-count.count c.as_slice-text.ensures.value
          c.in_default-turn.ensures.turns) (glances_of g.D.SectorDevice.state _ _ _ _ c.as_slice-text.ensures.value
          c.turn.ensures.glances),
      ahead_more c.loop-count.invariant.1.texts c.next_line.new.line.items _ _ _ c.in-Ok-Newline.field-0-is c.loop-count.invariant.2
          c.in-Ok-Newline.ensures.ahead,
      omega (arith, failed, counted),
      heard_more _ _ _ c.loop-count.invariant.1.texts c.next_line.new.line.items c.in-Ok-Newline.field-0-is c.loop-count.invariant.4
          c.in-Ok-Newline.ensures.heard c.turn.ensures.unheard,
      c.in_default-turn.ensures.writes ∙ c.loop-count.invariant.5,
    )

pub returns-in-Some-clause-ends : goal.returns-in-Some-clause-ends
returns-in-Some-clause-ends g c =
    turned_end (told_none g.met.D.SectorDevice.lawful) (tells_more g.met.D.SectorDevice.lawful)
    c.in-Some.end _ _ _ _ _ _ _ _ _ _
    (slice_range c.next_line.new.source.chunk.items c.next_line.new.source.start c.next_line.new.source.end) _ _ _
    (so_far_flushed g.D.SectorDevice.state c.args.strict _ c.next_line.ensures.kept c.next_line.ensures.unseen
    c.loop-count.invariant.1)
    c.next_line.ensures.plain
    (line_ended _ _ c.next_line.new.line.items c.in-Ok-Newline.field-0-is c.in-Ok-Newline.ensures.bytes)
    (turns_of g.D.SectorDevice.state c.args.strict (Some c.in-Some.end) _ _ _ _ _ c.as_slice-text.ensures.value
    c.in-Some.ensures.turns)
    (glances_of g.D.SectorDevice.state _ _ _ _ c.as_slice-text.ensures.value c.turn.ensures.glances)

pub returns-in-Ok-Input-clause-ends : goal.returns-in-Ok-Input-clause-ends
returns-in-Ok-Input-clause-ends g c =
    let ended : c.next_line.result ≡ Ok Input = c.in-Ok-Input.is ∙ ap (λ e. Ok e) c.in-Ok-Input.field-0-is in
    finished (told_none g.met.D.SectorDevice.lawful) (tells_more g.met.D.SectorDevice.lawful)
    c.finish.result _ _
    _ _ _ _ _ _ c.next_line.new.line.items
    (slice_range c.next_line.new.source.chunk.items c.next_line.new.source.start c.next_line.new.source.end) _ _ _
    (so_far_flushed g.D.SectorDevice.state c.args.strict _ c.next_line.ensures.kept c.next_line.ensures.unseen
    c.loop-count.invariant.1)
    c.next_line.ensures.plain
    (line_ended _ _ c.next_line.new.line.items c.in-Ok-Input.field-0-is c.in-Ok-Input.ensures.bytes) (c.next_line.ensures.end ended)
    (finishes_of g.D.SectorDevice.state c.args.strict c.finish.result _ _ _ _ c.loop-count.count _ _
    c.as_slice-text-in-Ok-Input.ensures.value c.finish.ensures.finishes)

pub returns-in-Ok-TooLong-clause-ends : goal.returns-in-Ok-TooLong-clause-ends
returns-in-Ok-TooLong-clause-ends g c =
    let long : (c.in-Ok-TooLong.field-0-0 ≢ 10) × (vec_len c.next_line.new.line ≡ 140000) =
    long_ended (λ b. (b ≢ 10) × (vec_len c.next_line.new.line ≡ 140000)) c.in-Ok-TooLong.field-0-is c.in-Ok-TooLong.ensures.long in
    let size : length c.next_line.new.line.items ≡ 140000 = search rules in
    too_long (told_none g.met.D.SectorDevice.lawful) (tells_more g.met.D.SectorDevice.lawful)
    c.refuse.result _ _
    _ _ _ _ _ c.next_line.new.line.items
    (slice_range c.next_line.new.source.chunk.items c.next_line.new.source.start c.next_line.new.source.end) c.in-Ok-TooLong.field-0-0 _ _
    (so_far_flushed g.D.SectorDevice.state c.args.strict _ c.next_line.ensures.kept c.next_line.ensures.unseen
    c.loop-count.invariant.1)
    c.next_line.ensures.plain long.0 size (line_ended _ _ c.next_line.new.line.items c.in-Ok-TooLong.field-0-is
    c.in-Ok-TooLong.ensures.bytes) c.refuse.ensures.replies

pub returns-in-Err-clause-ends : goal.returns-in-Err-clause-ends
returns-in-Err-clause-ends g c =
    read_fails (told_none g.met.D.SectorDevice.lawful) (tells_more g.met.D.SectorDevice.lawful) _ _
    _ _ _ _ _ _ c.next_line.new.line.items
    _ _ (so_far_flushed g.D.SectorDevice.state c.args.strict _ c.next_line.ensures.kept c.next_line.ensures.unseen
    c.loop-count.invariant.1)
    c.next_line.ensures.plain c.in-Err.ensures.bytes c.in-Err.ensures.err

pub returns-clause-ends : goal.returns-clause-ends
returns-clause-ends g c =
    numbers_end (told_none g.met.D.SectorDevice.lawful) (tells_more g.met.D.SectorDevice.lawful) _
    _ _ _ _
    (slice_range c.loop-count.source.chunk.items c.loop-count.source.start c.loop-count.source.end) _ _ c.loop-count.invariant.1
    c.loop-count-test.false

pub returns-in-Some-clause-reads : goal.returns-in-Some-clause-reads
returns-in-Some-clause-reads g c =
    turn_reads g.D.SectorDevice.state c.args.strict c.in-Some.end _ _ _ _ _ _ _ _ _ _ c.in-Some.ensures.turns

pub returns-in-Ok-Input-clause-reads : goal.returns-in-Ok-Input-clause-reads
returns-in-Ok-Input-clause-reads g c =
    finish_reads g.D.SectorDevice.state c.args.strict c.finish.result _ _ _ _ _ _ _ _ _ _ _ _ c.finish.ensures.finishes

pub returns-in-Ok-TooLong-clause-reads : goal.returns-in-Ok-TooLong-clause-reads
returns-in-Ok-TooLong-clause-reads g c = refuse_reads c.refuse.result _ _ _ _ _ _ _ c.refuse.ensures.replies

pub returns-in-Err-clause-reads : goal.returns-in-Err-clause-reads
returns-in-Err-clause-reads g c =
    read_cause (told_none g.met.D.SectorDevice.lawful) (tells_more g.met.D.SectorDevice.lawful) _ _
    _ _ _ _ _ c.next_line.new.line.items _ _ c.loop-count.invariant.1 _ _ _ _ _ c.in-Err.ensures.bytes c.in-Err.ensures.err
    c.loop-count.invariant.3 c.in-Err.ensures.cause c.loop-count.invariant.2 c.in-Err.ensures.ahead

pub returns-clause-reads : goal.returns-clause-reads
returns-clause-reads g c =
    numbers_cause (told_none g.met.D.SectorDevice.lawful) (tells_more g.met.D.SectorDevice.lawful) _
    _ _ _ _ _
    (slice_range c.loop-count.source.chunk.items c.loop-count.source.start c.loop-count.source.end) _ _ c.loop-count.invariant.1
    _ _ c.loop-count-test.false

-- ---- what was written

pub returns-in-Some-clause-writes : goal.returns-in-Some-clause-writes
returns-in-Some-clause-writes g c = writes_from c.in-Some.end _ c.loop-count.invariant.5 c.in-Some.ensures.writes

pub returns-in-Ok-Input-clause-writes : goal.returns-in-Ok-Input-clause-writes
returns-in-Ok-Input-clause-writes g c = writes_from c.finish.result _ c.loop-count.invariant.5 c.finish.ensures.writes

pub returns-in-Ok-TooLong-clause-writes : goal.returns-in-Ok-TooLong-clause-writes
returns-in-Ok-TooLong-clause-writes g c = writes_from (Script c.refuse.result) _ c.loop-count.invariant.5 c.refuse.ensures.writes

-- ---- in hindsight

pub returns-in_default-clause-heard : goal.returns-in_default-clause-heard
returns-in_default-clause-heard g c =
    no_room_heard (told_none g.met.D.SectorDevice.lawful)
    (tells_more g.met.D.SectorDevice.lawful)
    _ _ _ _

pub returns-in_default-new-clause-heard : goal.returns-in_default-new-clause-heard
returns-in_default-new-clause-heard g c =
    no_room_heard (told_none g.met.D.SectorDevice.lawful)
    (tells_more g.met.D.SectorDevice.lawful)
    _ _ _ _

pub returns-in-Some-clause-heard : goal.returns-in-Some-clause-heard
unfolding so_far_flushed
returns-in-Some-clause-heard g c =
    turned_end_heard (told_none g.met.D.SectorDevice.lawful)
    (tells_more g.met.D.SectorDevice.lawful)
    c.in-Some.end _ _ c.next_line.new.line.items _ _ _ _
    (slice_range c.loop-count.source.chunk.items c.loop-count.source.start c.loop-count.source.end)
    (slice_range c.next_line.new.source.chunk.items c.next_line.new.source.start c.next_line.new.source.end)
    (so_far_flushed g.D.SectorDevice.state c.args.strict _ c.next_line.ensures.kept c.next_line.ensures.unseen
    c.loop-count.invariant.1)
    c.loop-count.invariant.4 c.next_line.ensures.plain
    (heard_ended _ _ c.next_line.new.line.items c.in-Ok-Newline.field-0-is c.in-Ok-Newline.ensures.heard) c.turn.ensures.unheard
    (turns_of g.D.SectorDevice.state c.args.strict (Some c.in-Some.end) _ _ _ _ _ c.as_slice-text.ensures.value
    c.in-Some.ensures.turns)
    (glances_of g.D.SectorDevice.state _ _ _ _ c.as_slice-text.ensures.value c.turn.ensures.glances)

pub returns-in-Ok-Input-clause-heard : goal.returns-in-Ok-Input-clause-heard
unfolding so_far_flushed
returns-in-Ok-Input-clause-heard g c =
    let ended : c.next_line.result ≡ Ok Input = c.in-Ok-Input.is ∙ ap (λ e. Ok e) c.in-Ok-Input.field-0-is in
    finished_heard (told_none g.met.D.SectorDevice.lawful)
    (tells_more g.met.D.SectorDevice.lawful)
    c.finish.result _ _ c.next_line.new.line.items _ _ _ _
    (slice_range c.loop-count.source.chunk.items c.loop-count.source.start c.loop-count.source.end)
    (slice_range c.next_line.new.source.chunk.items c.next_line.new.source.start c.next_line.new.source.end)
    (so_far_flushed g.D.SectorDevice.state c.args.strict _ c.next_line.ensures.kept c.next_line.ensures.unseen
    c.loop-count.invariant.1)
    c.loop-count.invariant.4 c.next_line.ensures.plain
    (heard_ended _ _ c.next_line.new.line.items c.in-Ok-Input.field-0-is c.in-Ok-Input.ensures.heard) (c.next_line.ensures.heard_end ended)
    c.finish.ensures.unheard
    (finishes_of g.D.SectorDevice.state c.args.strict c.finish.result _ _ _ _ c.loop-count.count _ _
    c.as_slice-text-in-Ok-Input.ensures.value c.finish.ensures.finishes)

pub returns-in-Ok-TooLong-clause-heard : goal.returns-in-Ok-TooLong-clause-heard
unfolding so_far_flushed
returns-in-Ok-TooLong-clause-heard g c =
    let long : (c.in-Ok-TooLong.field-0-0 ≢ 10) × (vec_len c.next_line.new.line ≡ 140000) =
    long_ended (λ b. (b ≢ 10) × (vec_len c.next_line.new.line ≡ 140000)) c.in-Ok-TooLong.field-0-is c.in-Ok-TooLong.ensures.long in
    let size : length c.next_line.new.line.items ≡ 140000 = search rules in
    too_long_heard (told_none g.met.D.SectorDevice.lawful)
    (tells_more g.met.D.SectorDevice.lawful)
    c.refuse.result _ c.next_line.new.line.items _ _
    (slice_range c.loop-count.source.chunk.items c.loop-count.source.start c.loop-count.source.end)
    (slice_range c.next_line.new.source.chunk.items c.next_line.new.source.start c.next_line.new.source.end) c.in-Ok-TooLong.field-0-0
    (so_far_flushed g.D.SectorDevice.state c.args.strict _ c.next_line.ensures.kept c.next_line.ensures.unseen
    c.loop-count.invariant.1)
    c.loop-count.invariant.4 c.next_line.ensures.plain long.0 size
    (heard_ended _ _ c.next_line.new.line.items c.in-Ok-TooLong.field-0-is c.in-Ok-TooLong.ensures.heard) c.refuse.ensures.replies

pub returns-in-Err-clause-heard : goal.returns-in-Err-clause-heard
unfolding so_far_flushed
returns-in-Err-clause-heard g c =
    read_fails_heard (told_none g.met.D.SectorDevice.lawful)
    (tells_more g.met.D.SectorDevice.lawful)
    c.next_line.new.line.items _ _ _ _ _
    (slice_range c.loop-count.source.chunk.items c.loop-count.source.start c.loop-count.source.end)
    (slice_range c.next_line.new.source.chunk.items c.next_line.new.source.start c.next_line.new.source.end)
    (so_far_flushed g.D.SectorDevice.state c.args.strict _ c.next_line.ensures.kept c.next_line.ensures.unseen
    c.loop-count.invariant.1)
    c.loop-count.invariant.4 c.next_line.ensures.plain c.in-Err.ensures.heard c.in-Err.ensures.err c.loop-count.invariant.3
    c.in-Err.ensures.cause c.loop-count.invariant.2 c.in-Err.ensures.ahead

pub returns-clause-heard : goal.returns-clause-heard
returns-clause-heard g c =
    numbers_end_heard (told_none g.met.D.SectorDevice.lawful)
    (tells_more g.met.D.SectorDevice.lawful)
    _ _
    (slice_range c.loop-count.source.chunk.items c.loop-count.source.start c.loop-count.source.end) c.loop-count.invariant.1
    c.loop-count.invariant.4 c.loop-count-test.false
