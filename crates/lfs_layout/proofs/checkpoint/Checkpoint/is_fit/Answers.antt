use Rattle.std.proofs.Common.{◌≤◌, subst, arith, rules}
use Rattle.std.proofs.lemmas.Bool.{leb-true, le-leb}
use Rattle.lfs_model.specs.Fields.{Are32}
use Rattle.lfs_model.specs.Checkpoint.{FitsCheckpoint, most_unit_power}
use Rattle.lfs_layout.specs.contracts.checkpoint.Checkpoint.{the_view}
use Rattle.lfs_layout.proofs.checkpoint.Checkpoint.is_fit.Goals as goal

pub returns-then-is_version : goal.returns-then-is_version
unfolding Are32
returns-then-is_version c =
    let k = c.self.inside in
    let fits : FitsCheckpoint (the_view k) → FitsCheckpoint c.args.self.now = λ f. subst FitsCheckpoint c.self.view_is f in
    let back : FitsCheckpoint c.args.self.now → FitsCheckpoint (the_view k) = λ f. rw c.self.view_is f in (
      (λ yes. fits record {
        number = omega arith;
        number_fits = search rules;
        segments = search rules;
        version = search rules;
        unit = rw (← c.most_unit_power.ensures) (leb-true _ _ yes);
        map_length = search rules;
        map_fits = search rules;
        usage_length = search rules;
        usage_fits = search rules;
      }),
      (λ f. le-leb _ _ (rw c.most_unit_power.ensures (back f).unit)),
    )
