use Rattle.std.proofs.Common.{ap, refl, rules, sym}
use Rattle.pansuyog_calls.specs.Volumes.{is_only_read, was_tried}
use Rattle.pansuyog_calls.proofs.shapes.format_with.Goals as goal

pub returns-in-Some-ReadWrite : goal.returns-in-Some-ReadWrite
returns-in-Some-ReadWrite g c =
    let none = c.if-is_some.ensures in
    was_tried c.in-Some-ReadWrite.device c.make_with.new.device (search rules) c.in-Some-ReadWrite.is-1 c.in-Some-ReadWrite.is-0
    (search rules) refl (search rules) (record { listing = refl; access = refl; recorder = refl })

pub returns-in-Some-ReadOnly : goal.returns-in-Some-ReadOnly
returns-in-Some-ReadOnly g c =
    is_only_read c.in-Some-ReadOnly.field-0-0 (search rules) c.in-Some-ReadOnly.is-1 c.in-Some-ReadOnly.is-0 refl
    (ap (λ device. record c.args.volume.now { device = device }) (sym c.in-Some-ReadOnly.is-0))
