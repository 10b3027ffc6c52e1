use Rattle.std.proofs.Common.{◌≡◌, ◌<◌, ◌≤◌, ◌⊎◌, ◌+◌, ◌∙◌, List, ℕ, Option, Some, None, [], ◌∷◌, ◌++◌, length, take}
use Rattle.std.proofs.Common.{sym, subst, arith, inl, inr}
use Rattle.std.specs.Prelude.{sum_by, IfSome, IfNone}
use Rattle.std.proofs.lemmas.List.Sums.{sum_by_push}
use Rattle.lfs_model.specs.Members.{IsIn}
use Rattle.lfs_segments.specs.Choosing.{Exhausts, IsChoiceBy, Precedes}
use Rattle.lfs_segments.specs.declared.candidate.Candidate.{Candidate}
use Rattle.lfs_segments.specs.declared.candidate.Preference.{Preference}
use Rattle.lfs_segments.specs.Table.{UsageTable, FitsTable}
use Rattle.lfs_segments.specs.Victims.{load_of, IsChoice, MayBeVictim}
use Rattle.lfs_segments.proofs.Choosing.{Picked, length_pushed, none_left, picked_next}
use Rattle.lfs_segments.proofs.Gaining.{Tried, choice_at_end, choice_at_once, exhausts, gain_pushed, tried_next_more}
use Rattle.lfs_segments.proofs.Gaining.{tried_next_still}
use Rattle.lfs_segments.proofs.victims.choose.Goals as goal
use Rattle.lfs_segments.proofs.victims.choose.Goals.{then-gain-best, else-gain-best}

-- What is shortened at the end is the choice, or nothing where no first ones gain.
at_end : {t : UsageTable} {meta most wanted : ℕ} {p : Preference} {last : Option Candidate} {xs : List ℕ} {best count : ℕ} → FitsTable t
    → Picked t p last xs → Tried t meta wanted xs best count → length xs ≤ most
    → (length xs ≡ most) ⊎ ((s : ℕ) → MayBeVictim t s → IsIn xs s) → {X : Type 0} (items : X → List ℕ) (r : Option X)
    → IfSome r (λ v. (0 < count) × (items v ≡ take count xs)) → IfNone r (count ≡ 0)
    → IfSome r (λ v. IsChoiceBy t meta most wanted p (items v)) × IfNone r (Exhausts t meta most p)
at_end {meta} {most} {p} table picked tried few ended items None some none =
    (tt, exhausts meta most p picked.first picked.each picked.apart table tried few ended none)
at_end {t} {meta} {most} {wanted} {p} table picked tried few ended items (Some v) some none = (
  subst (IsChoiceBy t meta most wanted p) (sym some.1)
      (choice_at_end meta most p picked.first picked.each picked.apart tried few ended some.0),
  tt,
)

pub returns-in_default : goal.returns-in_default
returns-in_default c =
    let picked = c.loop-others.invariant.0 in
    let all = none_left c.args.usage.now c.args.preference c.loop-others.chosen.items picked c.in_default.ensures.leads in
    let end = at_end c.segments-count.ensures.table picked c.loop-others.invariant.1 (omega arith) (inr all) (λ v. v.items)
    c.shortened.result c.shortened.ensures.some c.shortened.ensures.none in
    record { some = end.0; none = end.1 }

pub returns-then-gain-wanted-clause-some : goal.returns-then-gain-wanted-clause-some
returns-then-gain-wanted-clause-some c =
    let t = c.args.usage.now in
    let p = c.args.preference in
    let xs = c.loop-others.chosen.items in
    let x = c.in-Some.next.segment in
    let tried = c.loop-others.invariant.1 in
    let long = c.loop-others.invariant.2 in
    let next = picked_next t p c.loop-others.last xs c.in-Some.next c.loop-others.invariant.0 c.in-Some.ensures.leads in
    let gain = gain_pushed t c.args.meta xs x
    c.loop-others.invariant.3 (c.from-blocks.ensures ∙ c.in-Some.ensures.leads.known.load) long c.gain-gain.ensures in
    subst (IsChoice t c.args.meta c.args.most c.args.wanted (Precedes t p)) (sym c.push.ensures.items)
    (choice_at_once t c.args.most p xs x c.requires.least tried next.first next.each next.apart
    (omega arith) (omega arith))

pub loop-others-preserved : goal.loop-others-preserved
loop-others-preserved c =
    let t = c.args.usage.now in
    let p = c.args.preference in
    let xs = c.loop-others.chosen.items in
    let x = c.in-Some.next.segment in
    let tried = c.loop-others.invariant.1 in
    let long = c.loop-others.invariant.2 in
    let blocks = c.loop-others.invariant.3 in
    let load = c.from-blocks.ensures in
    let own : c.from-blocks.result ≡ load_of t x = load ∙ c.in-Some.ensures.leads.known.load in
    let next = picked_next t p c.loop-others.last xs c.in-Some.next c.loop-others.invariant.0 c.in-Some.ensures.leads in
    let gain = gain_pushed t c.args.meta xs x blocks own long c.gain-gain.ensures in
    let lacks = c.if-gain-wanted.false in
    let sum = sum_by_push (load_of t) xs x in
    let longer = length_pushed xs x in
    let items = sym c.push.ensures.items in
    let small : c.gain-gain.result < c.args.wanted = lacks in
    let step : Tried t c.args.meta c.args.wanted (xs ++ x ∷ []) c.if-gain-best.best c.if-gain-best.count = elim c.if-gain-best.branch [
      | then-gain-best w ↦
          tried_next_more t xs x tried c.if-gain-best.count
          (w.best-is ∙ gain) (omega arith) (omega arith)
          (omega arith)
      | else-gain-best w ↦
          tried_next_still t xs x tried w.best-is w.count-is gain w.if-gain-best.false
    ] in (
      subst (Picked t p (Some c.in-Some.next)) items next,
      subst (λ l. Tried t c.args.meta c.args.wanted l c.if-gain-best.best c.if-gain-best.count) items step,
      subst (λ l. length l ≡ c.loop-others.others + 1) items (omega arith),
      subst (λ l. c.loop-others.blocks + c.from-blocks.result ≡ sum_by (load_of t) l) items (omega arith),
      omega arith,
    )

pub returns : goal.returns
returns c =
    let full : length c.loop-others.chosen.items ≡ c.args.most = omega (arith, c.loop-others.auto.others-end) in
    let end = at_end c.segments-count.ensures.table c.loop-others.invariant.0 c.loop-others.invariant.1 (omega arith) (inl full)
    (λ v. v.items) c.shortened-2.result c.shortened-2.ensures.some c.shortened-2.ensures.none in
    record { some = end.0; none = end.1 }
