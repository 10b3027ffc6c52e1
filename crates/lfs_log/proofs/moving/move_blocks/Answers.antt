use Rattle.std.proofs.Common.{◌≡◌, ◌≤◌, ◌<◌, ◌∙◌, ⊎_elim, ℕ, refl, sym, ap, subst, arith}
use Rattle.std.specs.Prelude.{slice_index_or}
use Rattle.std.proofs.lemmas.Bool.{cases_lt}
use Rattle.lfs_memory.specs.inodes.Key.{entry_of}
use Rattle.lfs_memory.specs.inodes.declared.key.BlockKey.{BlockKey}
use Rattle.lfs_memory.specs.Moving.{HoldsOn}
use Rattle.lfs_log.specs.Brought.{IsOut}
use Rattle.lfs_log.specs.Moving.{Moved, MovesFirst}
use Rattle.lfs_log.specs.Groups.{HasAboveAndLeaves, group_at}
use Rattle.lfs_log.proofs.GroupOrder.{nothing_waits}
use Rattle.lfs_log.proofs.Movings.{ends_less, ends_then, fails_then, lacks_all, moved_as, moved_join, moved_lifted, moved_none, moved_then}
use Rattle.lfs_log.proofs.Movings.{on_more, on_then, relocates_still}
use Rattle.lfs_log.proofs.moving.move_blocks.Goals as goal

pub loop-at-init : goal.loop-at-init
loop-at-init g c = record {
  moved = moved_lifted (g.met.D.SectorDevice.lawful c.args.device.now) (relocates_still c.args.memory.now c.requires.memory)
      c.are_in_order.ensures refl (omega arith) (λ k m0 m keeps is. is);
  on = λ k m0 m keeps is. (
    is,
    record {
      moved = moved_none c.args.most 0 (omega arith) is.running.memory;
      each = λ i d lt. absurd (omega (arith, lt));
    },
  );
  no_failure = refl;
  low = omega arith;
  waits = nothing_waits c.args.memory.now 0 c.requires.nothing;
  rest = λ i d from to. omega arith;
}

pub returns-in_err-go_on-clause-ends : goal.returns-in_err-go_on-clause-ends
returns-in_err-go_on-clause-ends g c =
    ends_less 0 (omega arith) (fails_then c.loop-at.invariant.moved
    (Moved c.args.victims.now c.args.most c.loop-at.left 0 c.loop-at.at_group) c.from_residual.result c.in_err-go_on.field-0.0
    c.from_residual.ensures
    (on_more (λ M M' r. r.moved) c.loop-at.invariant.on) c.loop-at.invariant.no_failure (λ k m0 m is is' r p. tt)
    (λ k m0 m is M' r p never. absurd never) c.in_err-go_on.ensures.ends)

pub returns-in_err-move_block-clause-ends : goal.returns-in_err-move_block-clause-ends
returns-in_err-move_block-clause-ends g c =
    let one = c.in_ok-go_on.ensures.ends in
    let same = c.group-next.ensures.value in
    ends_less 0 (omega arith) (fails_then (moved_then c.loop-at.invariant.moved (one.moves (λ is. absurd (cc))))
    (Moved c.args.victims.now c.args.most c.loop-at.left 0 c.group-next.result) c.from_residual-in_err-move_block.result
    c.in_err-move_block.field-0.0 c.from_residual-in_err-move_block.ensures
    (on_then one.carries.kept_before (λ M M' M'' r go. moved_join r.moved go) c.loop-at.invariant.on one.done)
    (one.no_failure ∙ c.loop-at.invariant.no_failure) (λ k m0 m is is' r p. tt)
    (λ k m0 m is M' r p lacks. lacks_all is c.requires.nothing (rw same at r) lacks) c.in_err-move_block.ensures.ends)

pub loop-at-preserved : goal.loop-at-preserved
loop-at-preserved g c =
    let one = c.in_ok-go_on.ensures.ends in
    let two = c.in_ok-move_block.ensures.ends in
    let same = c.group-next.ensures.value in
    let both = moved_then c.loop-at.invariant.moved (one.moves (λ is. absurd (cc))) in
    let middle : HoldsOn (g.D.SectorDevice.state c.args.device.now) (g.D.SectorDevice.state c.go_on.new.device) c.args.memory.now
    c.go_on.new.memory
    (MovesFirst c.args.victims.now c.args.keys.now.keys c.args.most c.loop-at.left c.loop-at.at c.group-next.result) =
    on_then one.carries.kept_before (λ M M' M'' r go. record {
      moved = moved_join r.moved go;
      each = λ i d before. go.out (entry_of (slice_index_or c.args.keys.now.keys i d)) (r.each i d before);
    }) c.loop-at.invariant.on one.done in
    record {
      moved = moved_then both (two.moves (λ is. absurd (cc)));
      on = on_then two.carries.kept_before
          (λ M M' M'' r go. record {
            moved = moved_join r.moved (moved_as (sym same) go.0);
            each = λ i d lt. ⊎_elim
                (λ (before : i < c.loop-at.at). go.0.out (entry_of (slice_index_or c.args.keys.now.keys i d)) (r.each i d before))
                (λ (last : c.loop-at.at ≤ i).
                let here : i ≡ c.loop-at.at = omega (arith, lt, last) in
                let key = c.get-key.ensures d in
                subst (λ (k : BlockKey). IsOut c.args.victims.now M'' (entry_of k))
                (key ∙ ap (λ (j : ℕ). slice_index_or c.args.keys.now.keys j d) (sym here)) go.1)
                (cases_lt i c.loop-at.at);
          })
          middle two.done;
      no_failure = two.no_failure ∙ one.no_failure ∙ c.loop-at.invariant.no_failure;
      low = c.group-next.ensures.most;
      waits = subst (HasAboveAndLeaves c.move_block.new.memory) (sym same) c.in_ok-move_block.ensures.waits;
      rest = λ i d from to. (
          let up = c.requires.order c.loop-at.at i d (omega (arith, from)) to in
          let key = ap group_at (c.get-key.ensures d) in
          omega (arith, up, key, same));
    }

pub overflow_mul-end : goal.overflow_mul-end
overflow_mul-end g c = let low = c.loop-at.invariant.low in omega (arith, low)

pub returns-clause-ends : goal.returns-clause-ends
returns-clause-ends g c =
    let end = c.len-at-end.ensures in
    let past = c.loop-at-test.false in
    ends_less 0 (omega arith) (ends_then c.loop-at.invariant.moved c.loop-at.invariant.on c.loop-at.invariant.no_failure
    (λ k m0 m is is' r p. tt)
    (λ M M' M'' r go. record {
      out = λ x out. go.out x (r.moved.out x out);
      each = λ i d lt. go.out (entry_of (slice_index_or c.args.keys.now.keys i d)) (r.each i d (omega (arith, lt, end, past)));
    })
    (λ k m0 m is M' r p never. absurd never) c.put_all.ensures.ends)
