use Rattle.std.proofs.Common.{◌∷◌, [], ◌∙◌, sym, ap, ℕ, List, get_or, arith, rules}
use Rattle.lfs_model.specs.Inode.{kind_byte}
use Rattle.lfs_model.proofs.Parts.{one_byte}
use Rattle.lfs_model.proofs.InodePlaces.{not_a_kind}
use Rattle.lfs_layout.proofs.inode.kind_at.Goals as goal

pub returns-in-1-clause-found : goal.returns-in-1-clause-found
unfolding kind_byte
returns-in-1-clause-found c = one_byte 0 c.args.sector.now (omega arith) ∙ ap (λ (b : ℕ). b ∷ []) c.in-1.is

pub returns-in-2-clause-found : goal.returns-in-2-clause-found
unfolding kind_byte
returns-in-2-clause-found c = one_byte 0 c.args.sector.now (omega arith) ∙ ap (λ (b : ℕ). b ∷ []) c.in-2.is

pub returns-in-3-clause-found : goal.returns-in-3-clause-found
unfolding kind_byte
returns-in-3-clause-found c = one_byte 0 c.args.sector.now (omega arith) ∙ ap (λ (b : ℕ). b ∷ []) c.in-3.is

pub returns-in_default-clause-none : goal.returns-in_default-clause-none
returns-in_default-clause-none c k e =
    let byte = ap (λ (b : List ℕ). get_or b 0 0) (sym (one_byte 0 c.args.sector.now (omega arith)) ∙ e) in
    not_a_kind k (search rules) (search rules) (search rules) byte
