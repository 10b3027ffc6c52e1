use Rattle.std.proofs.Common.{◌≡◌, ◌≤◌, ◌+◌, ℕ, List, length, get_or, Some, sym, ◌∙◌, ap, arith}
use Rattle.std.proofs.lemmas.Slice.Eq.{bytes_eq-Decides}
use Rattle.lfs_model.specs.Fields.{part}
use Rattle.lfs_model.specs.Slot.{SlotValue, slot_in}
use Rattle.lfs_model.proofs.Decoding.{slot_found}
use Rattle.lfs_model.proofs.SlotPlaces.{length-slot, length_at, reads_from}
use Rattle.lfs_layout.proofs.slot.has_name.Goals as goal

-- where the name of a slot stands in its bytes
record NameStands (b : List ℕ) (s : SlotValue) : Type 0 where
  len : get_or b 4 0 ≡ length s.name
  name : part 5 (length s.name) b ≡ s.name
  room : length s.name + 5 ≤ length b

stands : (form : ℕ) (b : List ℕ) (s : SlotValue) → slot_in form b ≡ Some s → NameStands b s
stands form b s is =
    let f = slot_found form b s is in
    let long = ap length f.1 ∙ length-slot form f.0 in
    let reads = reads_from form s f.1 in
    let short = f.0.name.short in
    record { len = length_at form b s long reads; name = reads.name; room = omega (arith, long, short) }

pub returns-then-slot-name : goal.returns-then-slot-name
returns-then-slot-name c form s is =
    let at = stands form c.args.slot.now s is in
    let len = at.len in
    let differ = c.if-slot-name.true in (
      λ no. absurd (cc),
      λ same.
          (let long : length s.name ≡ length c.args.name.now = ap length same in absurd (omega (arith, len, long, differ))),
    )

pub returns-then-name-slot : goal.returns-then-name-slot
returns-then-name-slot c form s is =
    let at = stands form c.args.slot.now s is in
    let room = at.room in
    let past = c.if-name-slot.true in (
      λ no. absurd (cc),
      λ same.
          (let long : length s.name ≡ length c.args.name.now = ap length same in absurd (omega (arith, room, long, past))),
    )

pub returns : goal.returns
returns c form s is =
    let at = stands form c.args.slot.now s is in
    let len = at.len in
    let equal = c.if-slot-name.false in
    let long : length s.name ≡ length c.args.name.now = omega (arith, len, equal) in
    let there : c.name_of.result.now ≡ s.name = c.name_of.ensures ∙ ap (λ (n : ℕ). part 5 n c.args.slot.now) (sym long) ∙ at.name in (
      λ yes. sym there ∙ (bytes_eq-Decides c.name_of.result.now c.args.name.now).0 (sym c.eq.ensures ∙ yes),
      λ same. c.eq.ensures ∙ (bytes_eq-Decides c.name_of.result.now c.args.name.now).1 (there ∙ same),
    )
