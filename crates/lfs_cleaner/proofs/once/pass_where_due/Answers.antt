use Rattle.std.proofs.Common.{rules, ◌≡◌, true, inl}
use Rattle.lfs_cleaner.proofs.once.pass_where_due.Goals as goal

pub returns-in-Ok-clause-done : goal.returns-in-Ok-clause-done
returns-in-Ok-clause-done g c = inl (record {
  nothing = c.requires.nothing;
  few = c.if-has_quarter.ensures.no (search rules);
  passes = c.in-Ok.ensures.done;
})

pub returns-in-Err-clause-full : goal.returns-in-Err-clause-full
returns-in-Err-clause-full g c is = (c.if-has_quarter.ensures.no (search rules), c.in-Err.ensures.full (search rules))

pub returns-in-Err-clause-device : goal.returns-in-Err-clause-device
returns-in-Err-clause-device g c is = c.in-Err.ensures.device (search rules)

pub returns-in-Err-clause-halted : goal.returns-in-Err-clause-halted
returns-in-Err-clause-halted g c is = c.in-Err.ensures.halted (search rules) (λ (halted : c.args.log.now.halted ≡ true). absurd (cc))
