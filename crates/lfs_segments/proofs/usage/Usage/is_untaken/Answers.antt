use Rattle.std.proofs.Common.{rules, ◌≡◌, eqb-true, sym, ◌∙◌}
use Rattle.lfs_segments.specs.Table.{FitsTable}
use Rattle.lfs_segments.specs.Early.{taken_in}
use Rattle.lfs_segments.proofs.Early.{untaken_of}
use Rattle.lfs_segments.proofs.usage.Usage.is_untaken.Goals as goal

pub returns-clause-yes : goal.returns-clause-yes
returns-clause-yes c = λ h.
    let none = eqb-true c.self.inside.taken 0 h in
    let fits : FitsTable c.args.self.now = search rules in
    let total : c.self.inside.taken ≡ taken_in c.args.self.now.segments = search rules in
    untaken_of fits (sym total ∙ none)
