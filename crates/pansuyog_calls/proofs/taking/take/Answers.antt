use Rattle.std.proofs.Common.{refl, rules}
use Rattle.pansuyog_calls.specs.Taking.{is_taken}
use Rattle.pansuyog_calls.proofs.taking.take.Goals as goal

pub returns-in-Ok-new : goal.returns-in-Ok-new
returns-in-Ok-new g c =
    is_taken c.in-Ok-new.device (search rules) refl (search rules) refl c.in-Ok-new.ensures.opened c.in-Ok-new.ensures.failures
    c.in-Ok-new.ensures.keeps refl refl refl
