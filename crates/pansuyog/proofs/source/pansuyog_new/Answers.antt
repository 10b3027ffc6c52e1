use Rattle.std.proofs.Common.{inl, refl, rules}
use Rattle.pansuyog.proofs.source.pansuyog_new.Goals as goal

pub returns-in-Ok : goal.returns-in-Ok
returns-in-Ok c =
    inl (
      refl,
      record {
        volume = c.of.result.value;
        stands = c.of-in-Ok.ensures;
        unmounted = search rules;
        source = search rules;
        listing = search rules;
        recorder = search rules;
      },
    )
