use Rattle.std.proofs.Common.{◌≡◌, ◌*◌, ◌-◌, ◌++◌, ℕ, List, length, take, ap, ◌∙◌, arith}
use Rattle.std.proofs.lemmas.List.{take_all, append_assoc, append-nil}
use Rattle.std.specs.List.{flat_map}
use Rattle.lfs_model.specs.Fields.{le16, zeros}
use Rattle.lfs_model.specs.Summary.{BlockNameValue, summary_entry, summary_sector}
use Rattle.lfs_layout.proofs.summary.encode_summary.Goals as goal

-- the fields, as they were written
spelled : (bs : List BlockNameValue)
    → ((le16 (length bs) ++ zeros 6) ++ flat_map summary_entry bs) ++ zeros (8 * (63 - length bs)) ≡ summary_sector bs
unfolding summary_sector
spelled bs = simp (append_assoc, append-nil)

pub returns : goal.returns
returns c =
    let bs = c.args.blocks.now in
    let all : take c.loop-block.block-index bs ≡ bs = take_all c.loop-block.block-index bs (omega arith) in
    c.finish.ensures ∙ c.zeros-2.ensures.written
    ∙ ap (λ (b : List ℕ). b ++ zeros (8 * (63 - length bs)))
    (c.loop-block.invariant.written ∙ ap (λ (xs : List BlockNameValue). (le16 (length bs) ++ zeros 6) ++ flat_map summary_entry xs) all)
    ∙ spelled bs
