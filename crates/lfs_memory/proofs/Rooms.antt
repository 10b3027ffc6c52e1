-- How many blocks still find a place.
use Rattle.std.proofs.Common.{rules, ◌≡◌, ◌≢◌, ◌<◌, ◌≤◌, ◌+◌, ◌-◌, ◌==◌, cond, ℕ, zero, suc, Bool, false, List, [], ◌∷◌, length}
use Rattle.std.proofs.Common.{refl, ◌∙◌, ap, arith, eqb-true, ◌⊎◌, inl, inr}
use Rattle.std.proofs.lemmas.List.{length-append}
use Rattle.std.specs.Prelude.{get_or, Option, Some, None, IfNone, IsSome}
use Rattle.std.proofs.lemmas.Bool.{false_from_ne_true}
use Rattle.lfs_model.specs.Stands.{count_up}
use Rattle.lfs_model.proofs.Live.{count_up_none, count_up_more}
use Rattle.lfs_model.specs.Summary.{BlockNameValue}
use Rattle.lfs_segments.specs.Table.{SegmentNumbers, UsageTable, no_segment, clean_in, is_clean_in}
use Rattle.lfs_memory.specs.declared.memory.LogMemory.{LogMemory}
use Rattle.lfs_segments.specs.Chunk.{Chunk, room_in}
use Rattle.lfs_memory.specs.Memory.{IsMemory, Places, room_of}

pub room_none : (c : Chunk) → length c.names ≡ 0 → room_in c ≡ 0
room_none c is = rw is

pub not_zero : (n : ℕ) → 0 < n → (n == 0) ≡ false
not_zero n some = false_from_ne_true (n == 0) (λ h. omega (arith, eqb-true n 0 h))

pub room_some : (c : Chunk) → 0 < length c.names → room_in c ≡ 63 - (c.start + length c.names)
room_some c some = rw (not_zero (length c.names) some)

none_up : (p : ℕ → Bool) (n : ℕ) → ((i : ℕ) → i < n → p i ≡ false) → count_up p n ≡ 0
none_up p zero none = count_up_none p
none_up p (suc n) none =
    let rest = none_up p n (λ i lt. none i (omega arith)) in
    let last : cond {A = ℕ} (p n) 1 0 ≡ 0 = ap {B = ℕ} (λ (b : Bool). cond {A = ℕ} b 1 0) (none n (omega arith)) in
    omega (arith, rest, last, count_up_more p n)

pub no_clean : (segments : List SegmentNumbers) → ((s : ℕ) → s < length segments → (get_or segments s no_segment).used ≢ 0)
    → clean_in segments ≡ 0
unfolding clean_in
no_clean segments none = none_up (is_clean_in segments) (length segments)
    (λ i lt. false_from_ne_true (is_clean_in segments i) (λ h. none i lt (eqb-true (get_or segments i no_segment).used 0 h)))

-- a chunk has room, or a segment is clean
pub has_clean : (v : LogMemory) → 0 < room_of v → length v.chunk.names ≡ 0 → 0 < clean_in v.usage.segments
has_clean v some none = omega (arith, room_none v.chunk none)

pub takes_place : {v v' : LogMemory} {name : BlockNameValue} {lives : Bool} {age place : ℕ} → IsMemory v → Places v v' name lives age place
    → room_of v ≤ suc (room_of v')
takes_place {v} {v'} {name} memory places =
    let long : length v'.chunk.names ≡ suc (length v.chunk.names) = ap length places.names ∙ length-append v.chunk.names (name ∷ [])
    ∙ omega arith in
    let after = room_some v'.chunk (omega arith) in
    elim (zero_or_more (length v.chunk.names)) [
      | inl none ↦
          let before = room_none v.chunk none in
          elim (places.begun none) [
            | inl t ↦ omega arith
            | inr g ↦ omega arith
          ]
      | inr some ↦
          let w = places.went_on some in
          let short = memory.short some in
          omega (arith, room_some v.chunk some, ap (λ (u : UsageTable). clean_in u.segments) w.0)
    ]
  where
    zero_or_more : (n : ℕ) → (n ≡ 0) ⊎ (0 < n)
    zero_or_more zero = inl refl
    zero_or_more (suc n) = inr (omega arith)

pub some_taken : (found : Option ℕ) (segments : List SegmentNumbers)
    → IfNone found ((s : ℕ) → s < length segments → (get_or segments s no_segment).used ≢ 0) → 0 < clean_in segments → IsSome found
some_taken None segments none some = absurd (omega (arith, no_clean segments none))
some_taken (Some s) segments none some = search rules
