use Rattle.std.proofs.Common.{rules, ◌≡◌, ◌<◌, ◌==◌, ◌+◌, cond, arith, length, get_or}
use Rattle.lfs_segments.specs.Table.{no_segment}
use Rattle.lfs_segments.specs.Early.{early_of, taken_of}
use Rattle.lfs_segments.proofs.Numbers.{set_fits, clean_change, clean_most}
use Rattle.lfs_segments.proofs.Early.{early_has, early_total, taken_has, taken_total, totals_change}
use Rattle.lfs_segments.proofs.usage.Usage.put.Goals as goal

pub exchanged-self-inside-requires-clause-inside : goal.exchanged-self-inside-requires-clause-inside
exchanged-self-inside-requires-clause-inside c =
    let inside : c.args.segment < length c.self.inside.states.items = search rules in
    let was : c.one_if_clean.result ≡ cond ((get_or c.self.inside.states.items c.args.segment no_segment).used == 0) 1 0 = search rules in
    let change =
    clean_change c.self.inside.states.items c.args.segment (record { used = 1; live = 0; held = 0; age = 0; kept = 0 }) inside in
    omega arith

pub exchanged-self-inside-requires-clause-few : goal.exchanged-self-inside-requires-clause-few
exchanged-self-inside-requires-clause-few c = omega (arith, clean_most c.self.inside.states.items)

pub exchanged-self-inside-requires-2-clause-inside : goal.exchanged-self-inside-requires-2-clause-inside
exchanged-self-inside-requires-2-clause-inside c =
    let inside : c.args.segment < length c.self.inside.states.items = search rules in
    let was : c.early_blocks.result ≡ early_of (get_or c.self.inside.states.items c.args.segment no_segment) = search rules in
    omega (arith, early_has c.self.inside.states.items c.args.segment inside)

pub exchanged-self-inside-requires-2-clause-few : goal.exchanged-self-inside-requires-2-clause-few
exchanged-self-inside-requires-2-clause-few c = omega (arith, early_total c.self.inside.states.items c.self.invariant.0.each)

pub exchanged-self-inside-requires-3-clause-inside : goal.exchanged-self-inside-requires-3-clause-inside
exchanged-self-inside-requires-3-clause-inside c =
    let inside : c.args.segment < length c.self.inside.states.items = search rules in
    let was : c.taken_sectors.result ≡ taken_of (get_or c.self.inside.states.items c.args.segment no_segment) = search rules in
    omega (arith, taken_has c.self.inside.states.items c.args.segment inside)

pub exchanged-self-inside-requires-3-clause-few : goal.exchanged-self-inside-requires-3-clause-few
exchanged-self-inside-requires-3-clause-few c = omega (arith, taken_total c.self.inside.states.items c.self.invariant.0.each)

pub invariant_of-self : goal.invariant_of-self
invariant_of-self c =
    let inside : c.args.segment < length c.self.inside.states.items = search rules in
    let cleans : c.exchanged-self-inside.result + cond ((get_or c.self.inside.states.items c.args.segment no_segment).used == 0) 1 0
    ≡ c.self.inside.clean + cond (c.args.state.used == 0) 1 0 = search rules in
    let earlies : c.exchanged-self-inside-2.result + early_of (get_or c.self.inside.states.items c.args.segment no_segment)
    ≡ c.self.inside.early + early_of c.args.state = search rules in
    let takens : c.exchanged-self-inside-3.result + taken_of (get_or c.self.inside.states.items c.args.segment no_segment)
    ≡ c.self.inside.taken + taken_of c.args.state = search rules in (
      set_fits c.self.inside.last c.self.inside.states.items c.self.inside.blocks.items c.self.inside.unit_power c.args.segment
          c.self.invariant.0 inside c.requires.fits,
      totals_change c.args.segment c.args.state c.self.inside.taken
          c.exchanged-self-inside.result c.exchanged-self-inside-2.result c.exchanged-self-inside-3.result inside c.self.invariant.1 cleans
          earlies takens,
      c.note.ensures c.self.inside.states.items inside (search rules) c.self.invariant.2,
      c.put.ensures c.self.inside.states.items inside c.self.invariant.3,
    )
