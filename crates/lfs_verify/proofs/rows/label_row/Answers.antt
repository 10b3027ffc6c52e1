use Rattle.lfs_verify.proofs.Tests.{fails_as}
use Rattle.std.proofs.Common.{rules, ◌≡◌, ◌+◌, ◌*◌, refl, ◌∙◌, ap, subst, arith}
use Rattle.lfs_model.specs.Entry.{entries_in}
use Rattle.lfs_verify.specs.Rows.{from}
use Rattle.lfs_verify.proofs.Takes.{looks_then, reads_first, reads_then, read_in, unread}
use Rattle.lfs_verify.proofs.RowSteps.{no_chunk, cut_chunk, next_chunk, from_end, from_start, long_enough, no_entries, entries_none}
use Rattle.lfs_verify.proofs.RowSteps.{names_at, both_then, same_rows}
use Rattle.lfs_verify.proofs.LabelSteps.{LabelledTo, labelled_start, chunk_labelled, row_labelled}
use Rattle.lfs_verify.proofs.Keeping.{keeps_none}
use Rattle.lfs_verify.proofs.rows.label_row.Goals as goal

pub loop-at-init : goal.loop-at-init
loop-at-init g c = record {
  keeps = keeps_none (g.met.D.SectorDevice.lawful _);
  within = omega arith;
  before = λ i lt. refl;
  behind = λ i le. c.requires.empty i (omega (arith, le));
  so_far = λ d reads row. labelled_start d _ _ _ row;
  rest = λ d reads. (
    long_enough _ _ (g.met.D.SectorDevice.lawful _) reads c.requires.inside c.requires.used,
    same_rows (from_start d _ _),
  );
}

pub returns-then-not-branch-clause-row : goal.returns-then-not-branch-clause-row
returns-then-not-branch-clause-row g c = λ d reads.
    let here = c.loop-at.invariant in
    let step = c.in_ok-fetch.ensures in
    let rest = here.rest d (reads_first reads step.keeps.looks) in
    let none = unread d _ _ (step.block d (reads_then reads here.keeps.looks)) c.if-not-branch.true in
    fails_as (λ h. no_chunk d _ _ _ rest.0 (omega arith) (ap entries_in none ∙ no_entries) (rest.1.1 h))

pub returns-in_default-clause-row : goal.returns-in_default-clause-row
returns-in_default-clause-row g c = λ d reads.
    let here = c.loop-at.invariant in
    let step = c.in_ok-fetch.ensures in
    let rest = here.rest d (reads_first reads step.keeps.looks) in
    let there = read_in d _ _ (step.block d (reads_then reads here.keeps.looks)) c.if-not-branch.false in
    fails_as (λ h. no_chunk d _ _ _ rest.0 (omega arith)
    (ap entries_in there ∙ entries_none _ c.in_default.ensures.exact) (rest.1.1 h))

pub returns-then-count-used-clause-row : goal.returns-then-count-used-clause-row
returns-then-count-used-clause-row g c = λ d reads.
    let here = c.loop-at.invariant in
    let step = c.in_ok-fetch.ensures in
    let rest = here.rest d (reads_first reads step.keeps.looks) in
    let there = read_in d _ _ (step.block d (reads_then reads here.keeps.looks)) c.if-not-branch.false in
    fails_as (λ h. cut_chunk d _ _ _ rest.0 (omega arith) c.len-count.result
    (names_at _ there c.in-Some.ensures.exact c.len-count.ensures) (omega arith) (rest.1.1 h))

pub loop-at-preserved : goal.loop-at-preserved
loop-at-preserved g c =
    let here = c.loop-at.invariant in
    let step = c.in_ok-fetch.ensures in
    record {
      keeps = record {
        len = c.label_chunk.ensures.size ∙ here.keeps.len;
        no_failure = step.keeps.no_failure ∙ here.keeps.no_failure;
        looks = looks_then here.keeps.looks step.keeps.looks;
      };
      within = omega arith;
      before = λ i lt. c.label_chunk.ensures.before i (omega (arith, lt)) ∙ here.before i lt;
      behind = λ i le. let l = c.len-count.ensures in c.label_chunk.ensures.after i (omega (arith, le, l))
          ∙ here.behind i (omega (arith, le));
      so_far = λ d reads row.
          let before = reads_first reads step.keeps.looks in
          let there = read_in d _ _ (step.block d (reads_then reads here.keeps.looks)) c.if-not-branch.false in
          let l = c.len-count.ensures in
          chunk_labelled d _ _ _ _ _ (here.rest d before).0
          c.requires.used c.loop-at-test.true (here.so_far d before row) _ there
          c.in-Some.names c.in-Some.ensures.exact (omega (arith, l, c.if-count-used.false))
          (c.loop-at.at + (1 + c.len-count.result)) (omega (arith, l))
          c.label_chunk.ensures.own c.label_chunk.ensures.before (here.behind (2 + 64 * c.args.segment + c.loop-at.at) (omega arith))
          c.in-Some.ensures.found.0;
      rest = λ d reads.
          let rest = here.rest d (reads_first reads step.keeps.looks) in
          let there = read_in d _ _ (step.block d (reads_then reads here.keeps.looks)) c.if-not-branch.false in
          let names = names_at _ there c.in-Some.ensures.exact c.len-count.ensures in
          let next = next_chunk d _ _ _ rest.0 (omega arith) c.len-count.result names (omega arith) in
          let e : c.loop-at.at + (1 + c.len-count.result) ≡ c.loop-at.at + 1 + c.len-count.result = omega arith in
          (rest.0, both_then (same_rows (ap (from d _ _) e)) (both_then (next.1, next.0) rest.1));
    }

pub returns-clause-row : goal.returns-clause-row
returns-clause-row g c = λ d reads.
    let rest = c.loop-at.invariant.rest d reads in
    let e : c.args.used ≡ c.loop-at.at = omega arith in
    let h = from_end d _ _ rest.0 in
    (λ x. rest.1.0 ((same_rows (ap (from d _ _) e)).0 h), λ x. search rules)

pub returns-clause-labels : goal.returns-clause-labels
returns-clause-labels g c = λ is d reads.
    let here = c.loop-at.invariant in
    let e : c.loop-at.at ≡ c.args.used = omega arith in
    let row = (returns-clause-row g c d reads).0 is in
    row_labelled d (here.rest d reads).0 c.requires.used
    (subst (LabelledTo d _ _ _) e (here.so_far d reads row))
    (λ i le. here.behind i (omega (arith, le, e)))
