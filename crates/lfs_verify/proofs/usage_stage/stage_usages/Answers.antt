use Rattle.std.proofs.Common.{◌≡◌, ◌<◌, ◌≤◌, ◌%◌, ◌↔◌, ◌∙◌, ℕ, Bool, true, false, IsTrue, List, length, get_or, refl, sym}
use Rattle.std.proofs.Common.{ap₂, below_more, arith}
use Rattle.lfs_model.specs.Checkpoint.{unit_sectors}
use Rattle.lfs_model.specs.Reach.{View, view}
use Rattle.lfs_model.specs.Stands.{Usages, used_in}
use Rattle.lfs_verify.specs.Take.{Advances}
use Rattle.lfs_verify.specs.UsageTables.{SaysAll, SaysUpTo}
use Rattle.lfs_verify.specs.Walk.{Walked}
use Rattle.lfs_verify.proofs.Takes.{reads_first, reads_then, goes_true, goes_false, walked_as}
use Rattle.lfs_verify.proofs.UsageSteps.{usages_of}
use Rattle.lfs_verify.proofs.Keeping.{keeps_none, keeps_then}
use Rattle.lfs_verify.proofs.usage_stage.stage_usages.Goals as goal

pub loop-index-init : goal.loop-index-init
loop-index-init g c = record {
  keeps = keeps_none (g.met.D.SectorDevice.lawful _);
  used = refl;
  live = refl;
  is_there = λ j lt. absurd (omega (arith, lt));
  says = λ d reads s lt. absurd (omega (arith, lt));
  walked = λ d reads w. w;
}

pub returns-then-not-branch-clause-goes : goal.returns-then-not-branch-clause-goes
returns-then-not-branch-clause-goes g c = λ d reads w.
    let here = c.loop-index.invariant in
    let step = c.in_ok-take_usage.ensures in
    goes_false _ _ c.if-not-branch.true (step.goes d (reads_then reads here.keeps.looks))
    (here.walked d (reads_first reads step.keeps.looks) w)

pub loop-index-preserved : goal.loop-index-preserved
loop-index-preserved g c =
    let here = c.loop-index.invariant in
    let step = c.in_ok-take_usage.ensures in
    record {
      keeps = keeps_then here.keeps step.keeps;
      used = step.lengths.used ∙ here.used;
      live = step.lengths.live ∙ here.live;
      is_there = below_more _ _ here.is_there (step.is_there c.if-not-branch.false);
      says = λ d reads. step.says c.if-not-branch.false d (reads_then reads here.keeps.looks)
          (here.says d (reads_first reads step.keeps.looks));
      walked = λ d reads w.
          goes_true _ c.if-not-branch.false (step.goes d (reads_then reads here.keeps.looks))
          (here.walked d (reads_first reads step.keeps.looks) w);
    }

-- what the table says of whole units, the stage says
whole_used : (v : View) (used live : List ℕ) {b : Bool} {u : ℕ} → length used ≡ v.checkpoint.segments → SaysAll v used live
    → u ≡ unit_sectors v.checkpoint → (IsTrue b ↔ ((s : ℕ) → s < length used → get_or used s 0 % u ≡ 0))
    → IsTrue b ↔ ((s : ℕ) → s < v.checkpoint.segments → used_in v s % unit_sectors v.checkpoint ≡ 0)
whole_used v used live size says is tells = (
  (λ yes s lt. ap₂ (λ (x y : ℕ). x % y) (sym (says s lt).0) (sym is) ∙ tells.0 yes s (omega (arith, lt, size))),
  (λ all. tells.1 (λ s lt. let low : s < v.checkpoint.segments = omega (arith, lt, size) in
      ap₂ (λ (x y : ℕ). x % y) (says s low).0 is ∙ all s low)),
)

all_says : (v : View) (used live : List ℕ) {n : ℕ} → v.checkpoint.segments ≤ 1024 → 16 ≤ n → SaysUpTo v used live n
    → SaysAll v used live
all_says v used live few all says s lt = says s (omega (arith, lt, few, all)) lt

ends_by : (v : View) (old new : List ℕ) (b : Bool) → (Walked v old 0 → Walked v new 16) → (Usages v → IsTrue b)
    → Advances v old new 0 16 (Usages v) b
ends_by v old new true walked told = walked
ends_by v old new false walked told = λ w stage. cc (told stage)

pub returns-clause-goes : goal.returns-clause-goes
returns-clause-goes g c = λ d reads.
    let here = c.loop-index.invariant in
    let says = all_says (view d c.args.checkpoint.now) _ _ (c.requires.fits.segments.most)
    (omega (arith, c.loop-index-test.false)) (here.says d reads) in
    let tells = whole_used (view d c.args.checkpoint.now) _ _ (here.used ∙ c.requires.used) says
    c.unit_sectors.ensures.value c.are_whole.ensures in
    ends_by (view d c.args.checkpoint.now) _ _ c.are_whole.result (λ w. walked_as (omega arith) (here.walked d reads w))
    (λ stage. tells.1 stage.whole)

pub returns-clause-says : goal.returns-clause-says
returns-clause-says g c = λ is d reads s within.
    let few = c.requires.fits.segments.most in
    c.loop-index.invariant.says d reads s (omega (arith, within, few, c.loop-index-test.false)) within

pub returns-clause-holds : goal.returns-clause-holds
returns-clause-holds g c = λ is d reads bounded w.
    let here = c.loop-index.invariant in
    let e : c.loop-index.index ≡ 16 = omega arith in
    let says = all_says (view d c.args.checkpoint.now) _ _ (c.requires.fits.segments.most)
    (omega (arith, c.loop-index-test.false)) (here.says d reads) in
    let tells = whole_used (view d c.args.checkpoint.now) _ _ (here.used ∙ c.requires.used) says
    c.unit_sectors.ensures.value c.are_whole.ensures in
    usages_of d _ c.requires.fits.segments.most (λ j lt. here.is_there j (omega (arith, lt, e))) (tells.0 is)
    (walked_as (omega arith) (here.walked d reads w)) bounded
