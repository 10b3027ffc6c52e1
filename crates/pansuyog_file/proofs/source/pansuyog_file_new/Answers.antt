use Rattle.std.proofs.Common.{inl, refl, rules}
use Rattle.pansuyog_file.proofs.source.pansuyog_file_new.Goals as goal

pub returns-in-Ok : goal.returns-in-Ok
returns-in-Ok c =
    inl (
      refl,
      record {
        volume = c.of.result.value;
        stands = c.of-in-Ok.ensures;
        unmounted = search rules;
        device = search rules;
        listing = search rules;
        access = search rules;
        recorder = search rules;
      },
    )
