use Rattle.std.proofs.Common.{◌≡◌, ◌∙◌, ◌+◌, ◌-◌, ◌*◌, ◌<◌, ◌≤◌, ◌/◌, ◌↔◌, ⊎_elim, ℕ, length, take, drop, get_or, IsTrue}
use Rattle.std.proofs.Common.{ap, sym, rules, arith}
use Rattle.std.proofs.lemmas.Bool.{cases_lt}
use Rattle.lfs_model.specs.Fields.{part, zeros}
use Rattle.lfs_model.proofs.Parts.{length-part, zeros_from_each, each_of_zeros}
use Rattle.lfs_layout.proofs.Bytes.{cut_is, zero_byte, zero_part}
use Rattle.lfs_layout.proofs.fields.is_zero_at.Goals as goal

pub returns-then-not-is_zero_from : goal.returns-then-not-is_zero_from
returns-then-not-is_zero_from c =
    let long = c.told-sector in
    let room = c.requires in (
      (λ no. cc),
      (λ e.
          let yes = c.is_zero_from.ensures.1 (λ k low high.
          zero_byte c.args.at c.args.len c.args.sector.now (omega (arith, long, room)) e k (omega arith) (omega arith)) in
          cc),
    )

pub returns : goal.returns
returns c =
    let s = c.args.sector.now in
    let long = c.told-sector in
    let inside = c.requires in
    let rest = c.args.at + 64 * (c.args.len / 64) in
    let left = c.args.at + c.args.len - rest in
    let room : rest + left ≤ length s = omega (arith, long, inside) in
    let bytes = take left (drop rest s) in
    let is : bytes ≡ part rest left s = cut_is rest left s in
    let each : IsTrue c.all.result ↔ ((i : ℕ) → i < length bytes → get_or bytes i 0 ≡ 0) = search rules in (
      (λ yes.
          let zero : part rest left s ≡ zeros left =
          sym is ∙ zeros_from_each bytes left (ap length is ∙ length-part rest left s room) (each.0 yes) in
          zero_part c.args.at c.args.len s (omega (arith, long, inside)) (λ k low high. ⊎_elim
          (λ (lane : k < rest). c.loop-step.invariant k low (omega arith))
          (λ (behind : rest ≤ k). zero_byte rest left s room zero k behind (omega arith))
          (cases_lt k rest))),
      (λ e. each.1 (each_of_zeros left (is ∙ zero_part rest left s room
          (λ k low high. zero_byte c.args.at c.args.len s (omega (arith, long, inside)) e k (omega arith) (omega arith))))),
    )
