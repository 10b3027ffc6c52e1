use Rattle.std.proofs.Common.{◌≡◌, ◌<◌, ◌/◌, ◌%◌, [], length, get_or, ◌∙◌, ap, refl, arith}
use Rattle.std.specs.Prelude.{slice_set}
use Rattle.std.proofs.lemmas.List.{get_or_default}
use Rattle.lfs_model.specs.Usage.{usage_of}
use Rattle.lfs_segments.specs.Steps.{saved}
use Rattle.lfs_segments.proofs.Saving.{spelled_anew}
use Rattle.lfs_segments.proofs.spelled.SpelledBlocks.put.Goals as goal

pub returns : goal.returns
returns c segments lt so =
    let blocks = c.args.self.now.blocks.items in
    let at = c.args.segment / 64 in
    let place = c.args.segment % 64 in
    let there : at < length blocks = omega arith in
    let entries : usage_of c.set_usage_entry.new.block ≡ slice_set (usage_of (get_or blocks at [])) place (saved c.args.state) =
    c.set_usage_entry.ensures.entries
    ∙ ap (λ was. slice_set (usage_of was) place c.saved.result)
    (c.index_mut-block.ensures.value ∙ get_or_default blocks at _ [] there)
    ∙ ap (λ entry. slice_set (usage_of (get_or blocks at [])) place entry) c.saved.ensures in
    spelled_anew blocks _ c.args.segment c.args.state c.set_usage_entry.new.block c.requires.low lt so refl
    c.set_usage_entry.ensures.length entries
