-- Bytes that went out in several calls.
use Rattle.std.proofs.Common.{◌≡◌, ◌≢◌, ℕ, zero, suc, refl, ◌+◌, ◌-◌, ◌≤◌, ◌<◌, List, [], Option, take, drop, length, sym, ap, subst, arith}
use Rattle.std.specs.Io.KnownBytes.{Appends}
use Rattle.std.proofs.KnownBytes.{Appends-trans}
use Rattle.std.proofs.lemmas.List.{length-drop}
use Rattle.std.proofs.Math.Seq.{take-add, take_all}
use Rattle.lfs_streams.specs.Counts.{CountsTaken}

-- so many bytes aren't all
pub not_all : (xs : List ℕ) (at : ℕ) → at < length xs → drop at xs ≢ []
not_all xs at within = λ same. (
    let long = length-drop at xs in
    let none = ap length same in
    omega (arith, within, long, none))

pub sent : (a b c : Option (List ℕ)) (xs : List ℕ) (at n : ℕ) → at ≤ length xs → n ≤ length (take (length xs - at) (drop at xs))
    → Appends a b (take at xs) → Appends b c (take n (take (length xs - at) (drop at xs)))
    → (at + n ≤ length xs) × Appends a c (take (at + n) xs)
sent a b c xs at n within bound first next =
    let whole : take (length xs - at) (drop at xs) ≡ drop at xs =
    take_all (length xs - at) (drop at xs) (rw (length-drop at xs) (omega arith)) in (
      omega (arith, within, rw whole at bound, length-drop at xs),
      subst (Appends a c) (sym (take-add at n xs)) (Appends-trans a b c (take at xs) (take n (drop at xs)) first (rw whole at next)),
    )

-- a write that took nothing is counted, and one that took some bytes isn't
pub took_none : (f f' n : ℕ) → n ≡ 0 → CountsTaken f f' n → f' ≡ suc f
took_none f f' zero none counted = counted
took_none f f' (suc n) none counted = absurd (cc none)

pub took_some : (f f' n : ℕ) → n ≢ 0 → CountsTaken f f' n → f' ≡ f
took_some f f' zero some counted = absurd (some refl)
took_some f f' (suc n) some counted = counted
