use Rattle.std.proofs.Common.{[], List, ℕ, length, ap, ◌∙◌}
use Rattle.lfs_model.specs.Slot.{slot_bytes}
use Rattle.lfs_model.proofs.Laid.{appended_join, fields_of}
use Rattle.lfs_model.proofs.SlotPlaces.{fields, length-slot}
use Rattle.lfs_layout.proofs.slot.encode_slot.Goals as goal

pub returns-clause-bytes : goal.returns-clause-bytes
unfolding slot_bytes fields
returns-clause-bytes c =
    rw (
      c.zeros.ensures.written,
      c.slot_len.ensures.value,
      c.bytes-2.ensures.written,
      c.bytes.ensures.written,
      c.number32.ensures.written,
      c.new-slot.ensures,
    )
    (appended_join [] (fields_of (fields c.args.form record { number = c.args.number; name = c.args.name.now })))

pub returns-clause-long : goal.returns-clause-long
returns-clause-long c = ap (λ (b : List ℕ). length b) (returns-clause-bytes c) ∙ length-slot c.args.form c.requires
