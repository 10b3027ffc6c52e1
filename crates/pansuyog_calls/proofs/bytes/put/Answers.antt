use Rattle.std.proofs.Common.{◌≡◌, ◌++◌, ℕ, List, take, drop, ap, ◌∙◌, arith, rules}
use Rattle.pansuyog_calls.proofs.Filled.{copied}
use Rattle.pansuyog_calls.proofs.bytes.put.Goals as goal

pub returns-clause-filled : goal.returns-clause-filled
returns-clause-filled c =
    let n = c.min-count.result in
    let same : c.copy_from_slice.new.self ≡ take n c.args.bytes.now = search rules in
    ap (λ (l : List ℕ). l ++ drop n c.args.out.now) same
    ∙ copied c.args.bytes.now c.args.out.now n (omega arith) (omega arith) (search (rules, arith))
