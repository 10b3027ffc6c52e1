use Rattle.std.proofs.Common.{inr}
use Rattle.lfs_segments.proofs.Gaining.{no_choice, on_none, on_some, some_then}
use Rattle.lfs_segments.proofs.LeastLoads.{no_victims}
use Rattle.lfs_segments.proofs.PressedGains.{pressed_gains}
use Rattle.lfs_segments.proofs.victims.victims.Goals as goal

pub returns-clause-choice : goal.returns-clause-choice
returns-clause-choice c =
    on_some c.choose-2.result _ _ (λ v is. inr (
      no_choice c.in_default.ensures.none,
      is,
    )) c.choose-2.ensures.some

pub returns-clause-none : goal.returns-clause-none
returns-clause-none c = on_none c.choose-2.result _ _ (no_victims c.args.usage.now c.args.meta c.args.most) c.choose-2.ensures.none

pub returns-clause-found : goal.returns-clause-found
returns-clause-found c pressed limit = some_then c.choose-2.result _
    (λ none. pressed_gains none pressed limit) c.choose-2.ensures.none
