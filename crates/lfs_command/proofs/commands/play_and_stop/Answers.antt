use Rattle.std.proofs.Common.{Some, ap, inl, inr, refl}
use Rattle.lfs_script.proofs.HeardBytes.{hears_more, hears_none, hears_still}
use Rattle.lfs_script.proofs.Used.{err_of, ok_of, told_goes_on}
use Rattle.lfs_command.proofs.Told.{input_told, output_told, told_unmounted, unmounted_told}
use Rattle.lfs_command.proofs.commands.play_and_stop.Goals as goal

pub returns-in-Ok-default-clause-plays : goal.returns-in-Ok-default-clause-plays
returns-in-Ok-default-clause-plays g c = inl (record {
  end = c.in-Ok-default.end;
  printed = _;
  session = ok_of _ c.in-Ok-default.is-0 c.use_and_stop_noted.ensures.ran;
  kept = c.end_plain.ensures.kept;
  is_told = c.end_plain.ensures.told;
})

pub returns-in-Err-default-clause-plays : goal.returns-in-Err-default-clause-plays
returns-in-Err-default-clause-plays g c =
    let unused = err_of _ c.in-Err-default.is-0 c.use_and_stop_noted.ensures.refused in
    inr (
      record {
        fault = c.in-Err-default.fault;
        reason = unused.reason;
        unread = ap g.I.Read.remaining unused.unread;
        left = unused.left;
      },
      told_unmounted c.in-Err-default.fault _ c.from.ensures c.refuse.ensures,
    )

pub end_plain-requires : goal.end_plain-requires
end_plain-requires g c =
    record { plain = λ is. told_goes_on _ _ _ _ _ _ _ _ _ is (ok_of _ c.in-Ok-default.is-0 c.use_and_stop_noted.ensures.ran) }

pub returns-in-Ok-default-clause-reads : goal.returns-in-Ok-default-clause-reads
returns-in-Ok-default-clause-reads g c =
    input_told _ _ _ _ c.in-Ok-default.end _ c.end_plain.ensures.told (ok_of _ c.in-Ok-default.is-0 c.use_and_stop_noted.ensures.reads)

pub returns-in-Err-default-clause-reads : goal.returns-in-Err-default-clause-reads
returns-in-Err-default-clause-reads g c =
    unmounted_told _ _ _ _ c.in-Err-default.fault _ (told_unmounted c.in-Err-default.fault _ c.from.ensures c.refuse.ensures)

pub returns-in-Ok-default-clause-writes : goal.returns-in-Ok-default-clause-writes
returns-in-Ok-default-clause-writes g c =
    output_told _ _ c.in-Ok-default.end _ c.end_plain.ensures.told (ok_of _ c.in-Ok-default.is-0 c.use_and_stop_noted.ensures.writes)

pub returns-in-Err-default-clause-writes : goal.returns-in-Err-default-clause-writes
returns-in-Err-default-clause-writes g c =
    inl (ap g.K.CountsWrites.failures (err_of _ c.in-Err-default.is-0 c.use_and_stop_noted.ensures.uncounted).1)

-- ---- in hindsight

pub returns-in-Ok-default-clause-heard : goal.returns-in-Ok-default-clause-heard
returns-in-Ok-default-clause-heard g c =
    let end = c.in-Ok-default.end in
    let told = c.end_plain.ensures.told in
    hears_more _ _ _ _ (λ r r' used. (
      inl (record { end = end; printed = _; session = used.0; kept = c.end_plain.ensures.kept; is_told = told }),
      input_told _ _ r r' end _ told used.1,
    )) (ok_of _ c.in-Ok-default.is-0 c.use_and_stop_noted.ensures.heard)

pub returns-in-Err-default-clause-heard : goal.returns-in-Err-default-clause-heard
returns-in-Err-default-clause-heard g c =
    let fault = c.in-Err-default.fault in
    let unused = err_of _ c.in-Err-default.is-0 c.use_and_stop_noted.ensures.refused in
    let told = told_unmounted fault _ c.from.ensures c.refuse.ensures in
    hears_still _ _ _ _ (ap g.S.Witness.heard (err_of _ c.in-Err-default.is-0 c.use_and_stop_noted.ensures.unseen))
    (hears_none _ _ (λ rest. (
      inr (record { fault = fault; reason = unused.reason; unread = refl; left = unused.left }, told),
      unmounted_told _ _ (Some rest) (Some rest) fault _ told,
    )))
