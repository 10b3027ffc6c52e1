-- A segment at which no entry has its address has no block that lives there, and none that holds it.
use Rattle.std.proofs.Common.{◌≡◌, ◌≤◌, ℕ, Bool, false, ◌∙◌, arith}
use Rattle.std.proofs.lemmas.Bool.{false_from_ne_true}
use Rattle.lfs_model.specs.Content.{Content}
use Rattle.lfs_model.specs.Counting.{segment_of}
use Rattle.lfs_model.specs.Entry.{Entry}
use Rattle.lfs_model.specs.Laid.{IsLaid}
use Rattle.lfs_model.specs.Memory.{Memory, is_shown, is_held, those, memory_view, count_of, live_of, held_of}
use Rattle.lfs_model.specs.Stands.{LogMap, is_live}
use Rattle.lfs_model.proofs.Counting.{settled_some, those_some, view_named}
use Rattle.lfs_model.proofs.Live.{count_up_same, live_sectors}
use Rattle.lfs_model.proofs.BlocksCounted.{none_pass}

pub empty_count : (e : Content) (m : LogMap) (M : Memory) (opened_at s : ℕ) → IsLaid e m M opened_at
    → ((x : Entry) → 2 ≤ M.at x → segment_of (M.at x) ≡ s → ⊥) → (is : Entry → Bool) → count_of is M s ≡ 0
empty_count e m M opened_at s laid none is =
    count_up_same (is_live (memory_view is M) s) (λ at. false) 64 (λ at low. false_from_ne_true _ (λ on.
    let held = (live_sectors (memory_view is M) (view_named is M laid.named) s at low).0 on in
    let there = held.1 in
    let some = settled_some (those is M.at held.0) (omega (arith, there)) in
    let own = those_some is M.at held.0 (let a = some.0 in omega (arith, a)) in
    let above = some.0 in
    let same = some.1 in
    let is_at = own.1 in
    none held.0 (omega (arith, above, is_at)) (omega (arith, there, same, is_at, low))))
    ∙ none_pass 64

pub empty_segment : (e : Content) (m : LogMap) (M : Memory) (opened_at s : ℕ) → IsLaid e m M opened_at
    → ((x : Entry) → 2 ≤ M.at x → segment_of (M.at x) ≡ s → ⊥) → (live_of m M s ≡ 0) × (held_of m M s ≡ 0)
empty_segment e m M opened_at s laid none =
    (empty_count e m M opened_at s laid none (is_shown m), empty_count e m M opened_at s laid none (is_held m))
