use Rattle.std.proofs.Common.{◌<◌, arith, None, sym}
use Rattle.lfs_model.specs.Usage.{use_at}
use Rattle.lfs_model.proofs.Runs.{length-run}
use Rattle.lfs_model.proofs.UsagePlaces.{use_of, use_in, usage_spelled}
use Rattle.lfs_model.proofs.Decoding.{usage_is, usage_some}
use Rattle.lfs_layout.proofs.usage.UsageView.decode.Goals as goal

pub returns-then-not-is_use-clause-none : goal.returns-then-not-is_use-clause-none
returns-then-not-is_use-clause-none c us fits is =
    let i = c.loop-i.i in
    let lt : i < 64 = omega arith in
    let e = use_of c.args.count us fits is i lt in
    let yes = c.is_use.ensures.1 (rw (c.entry_at-entry.ensures, ← e) (fits.each i lt)) in
    cc

pub returns-then-not-is_unused-clause-none : goal.returns-then-not-is_unused-clause-none
returns-then-not-is_unused-clause-none c us fits is =
    let i = c.loop-i.i in
    let lt : i < 64 = omega arith in
    let e = use_of c.args.count us fits is i lt in
    let yes = c.is_unused.ensures.1 (rw (c.entry_at-entry.ensures, ← e) (fits.past i (omega arith) lt)) in
    cc

pub returns-clause-found : goal.returns-clause-found
returns-clause-found c =
    let s = c.args.sector.now in (
      record {
        entries = length-run use_at 8 64 0 s;
        each = λ i lt. rw (use_in s i lt) (c.loop-i.invariant.each i (omega arith));
        past = λ i beyond lt. rw (use_in s i lt) (c.loop-i.invariant.past i (omega arith) beyond);
      },
      usage_spelled s c.fits-sector c.told-sector,
    )

pub returns-then-not-is_use-clause-exact : goal.returns-then-not-is_use-clause-exact
returns-then-not-is_use-clause-exact c = usage_is c.args.sector.now c.args.count c.fits-sector c.told-sector None tt
    (λ v fits is. returns-then-not-is_use-clause-none c v fits is)

pub returns-then-not-is_unused-clause-exact : goal.returns-then-not-is_unused-clause-exact
returns-then-not-is_unused-clause-exact c = usage_is c.args.sector.now c.args.count c.fits-sector c.told-sector None tt
    (λ v fits is. returns-then-not-is_unused-clause-none c v fits is)

pub returns-clause-exact : goal.returns-clause-exact
returns-clause-exact c = let found = returns-clause-found c in sym (usage_some c.args.sector.now c.args.count _ found.0 found.1)
