use Rattle.std.proofs.Common.{ap, sym, ◌∙◌, arith, get_or, List}
use Rattle.lfs_model.specs.Summary.{BlockNameValue, no_block}
use Rattle.lfs_model.specs.Fields.{read16}
use Rattle.lfs_model.specs.Summary.{block_at}
use Rattle.lfs_model.proofs.Runs.{get_or-run}
use Rattle.lfs_model.proofs.SummaryPlaces.{place_below}
use Rattle.lfs_layout.proofs.summary.SummaryView.get.Goals as goal

pub overflow_mul-place : goal.overflow_mul-place
overflow_mul-place c = let below = place_below c.self.inside.sector.now c.args.place c.self.view_is c.requires in
    omega (arith, below, c.self.invariant)

pub overflow_add-place : goal.overflow_add-place
overflow_add-place c = let below = place_below c.self.inside.sector.now c.args.place c.self.view_is c.requires in
    omega (arith, below, c.self.invariant)

pub block_of-requires : goal.block_of-requires
block_of-requires c = let below = place_below c.self.inside.sector.now c.args.place c.self.view_is c.requires in
    omega (arith, below, c.self.invariant)

pub returns : goal.returns
returns c =
    let s = c.self.inside.sector.now in
    let below = place_below s c.args.place c.self.view_is c.requires in
    c.block_of.ensures ∙ sym (get_or-run block_at 8 (read16 0 s) 8 s c.args.place no_block below)
    ∙ ap (λ (bs : List BlockNameValue). get_or bs c.args.place no_block) c.self.view_is
