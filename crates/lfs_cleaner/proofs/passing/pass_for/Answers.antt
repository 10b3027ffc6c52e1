use Rattle.std.proofs.Common.{rules, ◌≡◌, false, true, sym, ◌∙◌, ap}
use Rattle.lfs_log.specs.segments.Victims.{AreVictims, IsChosen, pass_limit}
use Rattle.lfs_log.specs.Thresholds.{most_victims}
use Rattle.lfs_log.proofs.LogReads.{reads_none, still_read}
use Rattle.lfs_cleaner.proofs.Pressing.{carried, not_refused, pressed_there}
use Rattle.lfs_cleaner.proofs.passing.pass_for.Goals as goal

pub vacate-requires : goal.vacate-requires
vacate-requires g c = rw c.as_slice.ensures.value c.in-Some.ensures.some.apart

pub returns-in_default-clause-full : goal.returns-in_default-clause-full
returns-in_default-clause-full g c is = record {
  still = still_read _ (g.met.D.SectorDevice.lawful c.args.log.now.device) (reads_none _ c.args.log.now);
  unfit = λ k m0 m keeps can.
      let whole = c.are_tables_whole.ensures in
      let there = pressed_there can whole c.meta.ensures in
      let limit = c.most_victims-most.ensures ∙ ap most_victims (c.segments.ensures ∙ whole.segments)
      ∙ ap pass_limit (sym c.usage.ensures) in
      let bad : false ≡ true = c.in_default.ensures.found (rw c.usage.ensures there) limit in
      absurd (cc);
}

pub returns-in-Ok-clause-done : goal.returns-in-Ok-clause-done
returns-in-Ok-clause-done g c =
    let h = c.args.log.now in
    let limit : c.most_victims-most.result ≡ pass_limit h.usage =
    c.most_victims-most.ensures ∙ ap most_victims (c.segments.ensures ∙ c.are_tables_whole.ensures.segments) in
    let vs = c.as_slice.result.now in
    record {
      victims = vs;
      gain = carried (λ t a m x vs. AreVictims t a m vs) _
          c.usage.ensures c.meta.ensures limit c.number.ensures (sym c.as_slice.ensures.value) c.in-Some.ensures.some;
      choice = carried (λ t a m x vs. IsChosen t a m c.args.wanted x vs) _
          c.usage.ensures c.meta.ensures limit c.number.ensures (sym c.as_slice.ensures.value) c.in-Some.ensures.choice;
      cleans = c.in-Ok.ensures.done;
    }

pub returns-in-Err-clause-full : goal.returns-in-Err-clause-full
returns-in-Err-clause-full g c is = record {
  still = c.in-Err.ensures.kept (λ bad. absurd (cc));
  unfit = λ k m0 m keeps can.
      let vs = c.as_slice.result.now in
      let most = c.most_victims-most.result in
      let are : AreVictims c.usage.result.now c.meta.result most vs =
      rw c.as_slice.ensures.value c.in-Some.ensures.some in
      not_refused can c.vacate.new.self keeps c.meta.ensures (c.most_victims-most.ensures ∙ ap most_victims c.segments.ensures)
      (rw (← c.usage.ensures) are) (c.in-Err.ensures.lacks is);
}

pub returns-in-Err-clause-device : goal.returns-in-Err-clause-device
returns-in-Err-clause-device g c is = record { still = c.in-Err.ensures.kept (λ bad. absurd (cc)); fault = c.in-Err.ensures.failed is }
