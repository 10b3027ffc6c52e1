use Rattle.std.proofs.Common.{⊎_elim, inl, inr, refl, eqb-true, eq-eqb}
use Rattle.lfs_verify.proofs.labels.agrees.Goals as goal

pub returns-then-mark-eq0 : goal.returns-then-mark-eq0
returns-then-mark-eq0 c = (λ on. inl c.if-mark-eq0.true, λ has. refl)

pub returns : goal.returns
returns c = (
  λ on. inr (eqb-true _ _ on),
  λ has.
      ⊎_elim (λ none. absurd (c.if-mark-eq0.false none)) (λ same. eq-eqb _ _ same) has,
)
