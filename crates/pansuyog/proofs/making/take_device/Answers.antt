use Rattle.std.proofs.Common.{◌≡◌, ◌∙◌, None, refl, rules, sym}
use Rattle.pansuyog.specs.Making.{is_full}
use Rattle.pansuyog.proofs.making.take_device.Goals.{in-Image-1, in-Device-1, in-Nothing-1}
use Rattle.pansuyog.proofs.making.take_device.Goals as goal

pub returns-in-Err-clause-refused : goal.returns-in-Err-clause-refused
returns-in-Err-clause-refused c =
    let unmounted : c.args.volume.now.fs ≡ None = search rules in
    let source = sym c.replace.ensures.value ∙ c.in-Device.is in
    elim c.match-volume.branch [
      | in-Image-1 w ↦ is_full c.in-Device.device c.reserve.new.self unmounted source refl unmounted refl c.reserve.ensures.same refl refl
      | in-Device-1 w ↦ is_full c.in-Device.device c.reserve.new.self unmounted source refl unmounted refl c.reserve.ensures.same refl refl
      | in-Nothing-1 w ↦ is_full c.in-Device.device c.reserve.new.self unmounted source refl unmounted refl c.reserve.ensures.same refl refl
    ]
