-- Orders have numbers, and keep them.
use Rattle.std.proofs.Common.{◌≡◌, ◌<◌, ◌≤◌, ◌+◌, ℕ, zero, suc, List, [], ◌∷◌, length, refl, sym, ap, subst, arith, inl, inr, ◌∙◌}
use Rattle.std.specs.Prelude.{get_or, slice_index_or}
use Rattle.lfs_model.specs.Device.{IsBeginning, Grows}
use Rattle.lfs_model.specs.declared.Order.{Order}
use Rattle.lfs_model.specs.declared.Order.TheVariants.{Sync}
use Rattle.lfs_queue.specs.Numbered.{HasNumber, as_told}
use Rattle.lfs_queue.specs.Orders.{onto}

pub length_onto : (queue told : List Order) → length (onto queue told) ≡ length queue + length told
length_onto [] told = omega arith
length_onto (order ∷ queue) told = let rest = length_onto queue (order ∷ told) in omega (arith, rest)

-- the count of what was carried out goes on
pub counted_on : (queue told : List Order) (n : ℕ) → n ≡ as_told (length told)
    → as_told (n + length queue) ≡ as_told (length (onto queue told))
counted_on queue told n is = let all = length_onto queue told in omega (arith, is, all)

pub begins_behind : (first told : List Order) (order : Order) → IsBeginning first told → IsBeginning first (order ∷ told)
unfolding IsBeginning
begins_behind first told order begins = inr begins

pub begins_whole : (told : List Order) → IsBeginning told told
unfolding IsBeginning
begins_whole [] = refl
begins_whole (order ∷ told) = inl refl

pub begins_before : (queue first told : List Order) → IsBeginning first told → IsBeginning first (onto queue told)
begins_before [] first told begins = begins
begins_before (order ∷ queue) first told begins = begins_before queue first (order ∷ told) (begins_behind first told order begins)

begins_none : (told : List Order) → IsBeginning [] told
unfolding IsBeginning
begins_none [] = refl
begins_none (order ∷ told) = inr (begins_none told)

pub begins_short : (first told : List Order) → IsBeginning first told → length first ≤ length told
unfolding IsBeginning
begins_short first [] is = let same = ap (λ (l : List Order). length l) is in omega (arith, same)
begins_short first (order ∷ told) (inl is) = let same = ap (λ (l : List Order). length l) is in omega (arith, same)
begins_short first (order ∷ told) (inr begins) = let le = begins_short first told begins in omega (arith, le)

-- two beginnings of one length are the same
pub begins_once : {a b : List Order} (told : List Order) → IsBeginning a told → IsBeginning b told → length a ≡ length b → a ≡ b
unfolding IsBeginning
begins_once [] one two same = one ∙ sym two
begins_once (order ∷ told) (inl one) (inl two) same = one ∙ sym two
begins_once {b} (order ∷ told) (inl one) (inr two) same =
    let long = ap (λ (l : List Order). length l) one in let short = begins_short b told two in absurd (omega (arith, long, short, same))
begins_once {a} (order ∷ told) (inr one) (inl two) same =
    let long = ap (λ (l : List Order). length l) two in let short = begins_short a told one in absurd (omega (arith, long, short, same))
begins_once {a} {b} (order ∷ told) (inr one) (inr two) same = begins_once told one two same

pub begins_less : (order : Order) (first told : List Order) → IsBeginning (order ∷ first) told → IsBeginning first told
unfolding IsBeginning
begins_less order first [] is = let same = ap (λ (l : List Order). length l) is in absurd (omega (arith, same))
begins_less order first (x ∷ told) (inl is) =
    subst (λ (l : List Order). IsBeginning first l) is (begins_behind first first order (begins_whole first))
begins_less order first (x ∷ told) (inr begins) = inr (begins_less order first told begins)

-- one that waits has the number of what was carried out before, and of those that wait before it
pub numbered : (queue : List Order) (i : ℕ) {x : Order} (told : List Order) → i < length queue → x ≡ slice_index_or queue i x
    → HasNumber (onto queue told) (length told + i) x
numbered [] i told lt is = absurd (omega (arith, lt))
numbered (order ∷ queue) zero {x} told lt is = record {
  before = told;
  count = omega arith;
  begins = begins_before queue (x ∷ told) (order ∷ told)
      (subst (λ (o : Order). IsBeginning (x ∷ told) (o ∷ told)) is (begins_whole (x ∷ told)));
}
numbered (order ∷ queue) (suc i) {x} told lt is =
    let rest = numbered queue i (order ∷ told) (omega (arith, lt)) is in
    record { before = rest.before; count = (let same = rest.count in omega (arith, same)); begins = rest.begins }

pub number_stays : (old new : List Order) {number : ℕ} (order : Order) → Grows old new → HasNumber old number order
    → HasNumber new number order
number_stays old new order grows has = record {
  before = has.before;
  count = has.count;
  begins = grows (order ∷ has.before) has.begins;
}

-- what was taken goes on
taken_on : (told taken first : List Order) → IsBeginning first told
    → ((i : ℕ) → i < length taken → HasNumber told (length first + i) (get_or taken i Sync)) → IsBeginning (onto taken first) told
taken_on told [] first begins each = begins
taken_on told (order ∷ taken) first begins each =
    let has = each 0 (omega arith) in
    let count = has.count in
    let same : has.before ≡ first =
    begins_once told (begins_less order has.before told has.begins) begins (omega (arith, count)) in
    let one : IsBeginning (order ∷ first) told = subst (λ (l : List Order). IsBeginning (order ∷ l) told) same has.begins in
    taken_on told taken (order ∷ first) one (λ i lt.
    let at : length first + suc i ≡ length (order ∷ first) + i = omega arith in
    subst (λ (n : ℕ). HasNumber told n (get_or taken i Sync)) at (each (suc i) (omega (arith, lt))))

from_none : (i : ℕ) → i ≡ length {A = Order} [] + i
from_none i = omega arith

pub taken_begin : (told taken : List Order) → ((i : ℕ) → i < length taken → HasNumber told i (get_or taken i Sync))
    → IsBeginning (onto taken []) told
taken_begin told taken each =
    taken_on told taken [] (begins_none told) (λ i lt. subst (λ (n : ℕ). HasNumber told n (get_or taken i Sync)) (from_none i) (each i lt))
