use Rattle.std.proofs.Common.{rules}
use Rattle.pansuyog.proofs.Made.{made_on}
use Rattle.pansuyog.proofs.making.make_on.Goals as goal

pub returns : goal.returns
returns c =
    let ensured = c.format_version.ensures in
    record {
      outcome = c.format_version.result;
      number = search rules;
      made = made_on c.args.segments c.args.version c.args.device.now c.format_version.new.device c.format_version.result ensured.inval
          ensured.too_small ensured.refused ensured.failed ensured.made;
      carries = ensured.making.carries;
      any_moment = ensured.making.any_moment (λ j k same. same) tt;
    }
