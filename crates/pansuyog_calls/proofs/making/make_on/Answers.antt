use Rattle.std.proofs.Common.{rules}
use Rattle.pansuyog_calls.proofs.Made.{carries_in_sectors, made_on, moments_in_sectors}
use Rattle.pansuyog_calls.proofs.making.make_on.Goals as goal

pub returns : goal.returns
returns g c =
    let ensured = c.format_version.ensures in
    let state = g.D.SectorDevice.state in
    let old = c.args.device.now in
    let new = c.format_version.new.device in
    record {
      outcome = c.format_version.result;
      number = search rules;
      made = made_on state old new c.args.segments c.args.version c.format_version.result ensured.inval ensured.too_small ensured.refused
          ensured.failed ensured.made;
      carries = carries_in_sectors state old new ensured.making.carries;
      any_moment = moments_in_sectors state old new c.args.segments c.args.version ensured.making;
    }
