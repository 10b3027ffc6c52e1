use Rattle.std.proofs.Common.{◌≡◌, ◌≤◌, get_or, ℕ, zero, suc, length, refl, arith, rules, true, false, ◌∙◌, None, sym}
use Rattle.lfs_model.specs.Fields.{part, read32}
use Rattle.lfs_model.specs.Slot.{slot_of}
use Rattle.lfs_model.specs.Tree.{name_len, slot_len}
use Rattle.lfs_model.proofs.Parts.{read32_is}
use Rattle.lfs_model.proofs.Parts.{length-part}
use Rattle.lfs_model.proofs.SlotPlaces.{reads_from, reads_to, length_at, name_at, zeros_past, slot_reads}
use Rattle.lfs_model.proofs.Decoding.{slot_is, slot_some}
use Rattle.lfs_layout.proofs.slot.SlotView.decode.Goals as goal

-- a slot has room for the number and the length
room : (form : ℕ) → 5 ≤ slot_len form
room zero = omega arith
room (suc form) = omega arith

pub returns-then-not-is_within-clause-none : goal.returns-then-not-is_within-clause-none
returns-then-not-is_within-clause-none c v fits is =
    let b = c.args.slot.now in
    let r = reads_from c.args.form v is in
    let e : read32 0 b ≡ v.number = read32_is 0 b v.number (omega (arith, fits.number.1)) r.number in
    let yes = c.is_within.ensures.1 (rw (c.number_of-number.ensures, e) fits.number) in
    cc

pub returns-then-len-slot-clause-none : goal.returns-then-len-slot-clause-none
returns-then-len-slot-clause-none c v fits is =
    let same = length_at c.args.form c.args.slot.now v c.requires (reads_from c.args.form v is) in
    omega (arith, same, fits.name.short)

pub returns-then-not-is_name-clause-none : goal.returns-then-not-is_name-clause-none
returns-then-not-is_name-clause-none c v fits is =
    let e = name_at c.args.form c.args.slot.now v c.requires (reads_from c.args.form v is) in
    let yes = c.is_name.ensures.1 (rw (c.name_of.ensures, e) fits.name) in
    let e : false ≡ true = sym c.if-not-is_name.true ∙ yes in
    absurd (cc)

pub returns-then-not-is_zero_after-clause-none : goal.returns-then-not-is_zero_after-clause-none
returns-then-not-is_zero_after-clause-none c v fits is =
    let zeros = zeros_past c.args.form c.args.slot.now v c.requires fits.name.short (reads_from c.args.form v is) in
    let yes = c.is_zero_after.ensures.1 (λ i from to. zeros i from (omega (arith, c.requires))) in
    cc

pub returns-clause-found : goal.returns-clause-found
returns-clause-found c =
    let b = c.args.slot.now in
    let number = c.is_within.ensures.0 c.if-not-is_within.false in
    let name = c.is_name.ensures.0 c.if-not-is_name.false in
    let short : get_or b 4 0 ≤ name_len c.args.form = omega (arith, c.requires) in
    let at_least = room c.args.form in
    let wide : length (part 5 (get_or b 4 0) b) ≡ get_or b 4 0 = length-part 5 (get_or b 4 0) b (omega (arith, c.requires)) in (
      record { number = rw (← c.number_of-number.ensures) number; name = rw (← c.name_of.ensures) name },
      reads_to c.args.form b (slot_of b) c.requires (omega arith)
          (slot_reads c.args.form b (get_or b 4 0) (search rules) c.requires refl short
          (λ i from to. c.is_zero_after.ensures.0 c.if-not-is_zero_after.false i from (omega (arith, c.requires)))),
    )

pub returns-then-not-is_within-clause-exact : goal.returns-then-not-is_within-clause-exact
returns-then-not-is_within-clause-exact c =
    slot_is c.args.form c.args.slot.now None tt (λ v fits is. returns-then-not-is_within-clause-none c v fits is)

pub returns-then-len-slot-clause-exact : goal.returns-then-len-slot-clause-exact
returns-then-len-slot-clause-exact c =
    slot_is c.args.form c.args.slot.now None tt (λ v fits is. returns-then-len-slot-clause-none c v fits is)

pub returns-then-not-is_name-clause-exact : goal.returns-then-not-is_name-clause-exact
returns-then-not-is_name-clause-exact c =
    slot_is c.args.form c.args.slot.now None tt (λ v fits is. returns-then-not-is_name-clause-none c v fits is)

pub returns-then-not-is_zero_after-clause-exact : goal.returns-then-not-is_zero_after-clause-exact
returns-then-not-is_zero_after-clause-exact c =
    slot_is c.args.form c.args.slot.now None tt (λ v fits is. returns-then-not-is_zero_after-clause-none c v fits is)

pub returns-clause-exact : goal.returns-clause-exact
returns-clause-exact c = let found = returns-clause-found c in sym (slot_some c.args.form c.args.slot.now found.0 found.1)
