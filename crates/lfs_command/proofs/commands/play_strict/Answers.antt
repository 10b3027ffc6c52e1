use Rattle.std.proofs.Common.{Some, ap, inl, inr, refl}
use Rattle.lfs_script.proofs.HeardBytes.{hears_more, hears_none, hears_still}
use Rattle.lfs_script.proofs.Used.{err_of, ok_of, told_of}
use Rattle.lfs_command.proofs.Told.{outcome_told, strict_output_told, strict_told, told_unmounted, unmounted_told}
use Rattle.lfs_command.proofs.commands.play_strict.Goals as goal

pub returns-in-Ok-default-clause-plays : goal.returns-in-Ok-default-clause-plays
returns-in-Ok-default-clause-plays g c = inl (
  c.in-Ok-default.used.script,
  record {
    printed = _;
    session = ok_of _ c.in-Ok-default.is-0 c.use_volume_noted.ensures.ran;
    kept = c.end_strict-end.ensures.kept;
  },
  c.end_strict-end.ensures.told,
)

pub returns-in-Ok-default-clause-refused : goal.returns-in-Ok-default-clause-refused
returns-in-Ok-default-clause-refused g c = λ refused. record {
  printed = _;
  session = told_of _ _ _ _ _ _ _ _ _ _ _ (c.end_strict-end.ensures.refused refused)
      (ok_of _ c.in-Ok-default.is-0 c.use_volume_noted.ensures.ran);
  kept = c.end_strict-end.ensures.kept;
}

pub returns-in-Err-default-clause-plays : goal.returns-in-Err-default-clause-plays
returns-in-Err-default-clause-plays g c =
    let unused = err_of _ c.in-Err-default.is-0 c.use_volume_noted.ensures.refused in
    inr (
      record {
        fault = c.in-Err-default.fault;
        reason = unused.reason;
        unread = ap g.I.Read.remaining unused.unread;
        left = unused.left;
      },
      c.refuse.result,
      told_unmounted c.in-Err-default.fault _ c.from.ensures c.refuse.ensures,
      c.outcome_of-end.ensures.same,
    )

pub returns-in-Ok-default-clause-saved : goal.returns-in-Ok-default-clause-saved
returns-in-Ok-default-clause-saved g c =
    inl (c.in-Ok-default.used.script, _, ok_of _ c.in-Ok-default.is-0 c.use_volume_noted.ensures.saved)

pub returns-in-Err-default-clause-saved : goal.returns-in-Err-default-clause-saved
returns-in-Err-default-clause-saved g c =
    let unused = err_of _ c.in-Err-default.is-0 c.use_volume_noted.ensures.refused in
    inr (record {
      fault = c.in-Err-default.fault;
      reason = unused.reason;
      unread = ap g.I.Read.remaining unused.unread;
      left = unused.left;
    })

pub returns-in-Ok-default-clause-reads : goal.returns-in-Ok-default-clause-reads
returns-in-Ok-default-clause-reads g c =
    strict_told _ _ _ _ c.in-Ok-default.used.script _ c.end_strict-end.ensures.told
    (ok_of _ c.in-Ok-default.is-0 c.use_volume_noted.ensures.reads)

pub returns-in-Err-default-clause-reads : goal.returns-in-Err-default-clause-reads
returns-in-Err-default-clause-reads g c =
    outcome_told _ _ _ _ c.refuse.result _ c.outcome_of-end.ensures.same
    (unmounted_told _ _ _ _ c.in-Err-default.fault _ (told_unmounted c.in-Err-default.fault _ c.from.ensures c.refuse.ensures))

pub returns-in-Ok-default-clause-writes : goal.returns-in-Ok-default-clause-writes
returns-in-Ok-default-clause-writes g c =
    strict_output_told _ _ c.in-Ok-default.used.script _ c.end_strict-end.ensures.told
    (ok_of _ c.in-Ok-default.is-0 c.use_volume_noted.ensures.writes)

pub returns-in-Err-default-clause-writes : goal.returns-in-Err-default-clause-writes
returns-in-Err-default-clause-writes g c =
    inl (ap g.K.CountsWrites.failures (err_of _ c.in-Err-default.is-0 c.use_volume_noted.ensures.uncounted).1)

-- ---- in hindsight

pub returns-in-Ok-default-clause-heard : goal.returns-in-Ok-default-clause-heard
returns-in-Ok-default-clause-heard g c =
    let end = c.in-Ok-default.used.script in
    let told = c.end_strict-end.ensures.told in
    hears_more _ _ _ _ (λ r r' used. (
      inl (end, record { printed = _; session = used.0.session; kept = c.end_strict-end.ensures.kept }, told),
      strict_told _ _ r r' end _ told used.1,
      inl (end, _, used.0),
    )) (ok_of _ c.in-Ok-default.is-0 c.use_volume_noted.ensures.heard)

pub returns-in-Err-default-clause-heard : goal.returns-in-Err-default-clause-heard
returns-in-Err-default-clause-heard g c =
    let fault = c.in-Err-default.fault in
    let unused = err_of _ c.in-Err-default.is-0 c.use_volume_noted.ensures.refused in
    let told = told_unmounted fault _ c.from.ensures c.refuse.ensures in
    hears_still _ _ _ _ (ap g.S.Witness.heard (err_of _ c.in-Err-default.is-0 c.use_volume_noted.ensures.unseen))
    (hears_none _ _ (λ rest. (
      inr (
        record { fault = fault; reason = unused.reason; unread = refl; left = unused.left },
        c.refuse.result,
        told,
        c.outcome_of-end.ensures.same,
      ),
      outcome_told _ _ (Some rest) (Some rest) c.refuse.result _ c.outcome_of-end.ensures.same
          (unmounted_told _ _ (Some rest) (Some rest) fault _ told),
      inr (record { fault = fault; reason = unused.reason; unread = refl; left = unused.left }),
    )))
