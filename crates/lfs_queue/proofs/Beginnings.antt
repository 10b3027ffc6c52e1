-- What a stop leaves behind a beginning of the orders.
use Rattle.std.proofs.Common.{zero, suc, ◌<◌, ◌≤◌, get_or, take, ℕ, List, [], ◌∷◌, length, subst, ap, arith, inl, inr}
use Rattle.lfs_model.specs.Device.{Cell, IsBeginning}
use Rattle.lfs_model.specs.declared.Order.{Order}
use Rattle.lfs_model.proofs.Pasts.{earlier_at}
use Rattle.lfs_queue.specs.Orders.{LeftSince, MayLeave, onto}
use Rattle.lfs_queue.proofs.Numbering.{begins_before, begins_behind, begins_whole}
use Rattle.lfs_queue.specs.Stops.{MomentsAreBehind, StopsAreBehind}

pub stops_are_behind : StopsAreBehind
unfolding IsBeginning
stops_are_behind unit start [] first t c is le left = (
  (let same = ap (λ (l : List Order). length l) is in omega (arith, le, same)),
  subst (λ (l : List Order). MayLeave unit start l c) is left,
)
stops_are_behind unit start (order ∷ told) first t c (inl is) le left = inl (
  (let same = ap (λ (l : List Order). length l) is in omega (arith, le, same)),
  subst (λ (l : List Order). MayLeave unit start l c) is left,
)
stops_are_behind unit start (order ∷ told) first t c (inr begins) le left =
    inr (stops_are_behind unit start told first t c begins le left)

-- what was left in the past is left in it whatever comes
behind : (unit : ℕ → ℕ) (start : List Cell) (told first : List Order) (t : ℕ) (c : List Cell) → IsBeginning first told
    → LeftSince unit start first t c → LeftSince unit start told t c
unfolding IsBeginning
behind unit start [] first t c is left = subst (λ (l : List Order). LeftSince unit start l t c) is left
behind unit start (order ∷ told) first t c (inl is) left = subst (λ (l : List Order). LeftSince unit start l t c) is left
behind unit start (order ∷ told) first t c (inr begins) left = inr (behind unit start told first t c begins left)

pub moments_are_behind : MomentsAreBehind
moments_are_behind unit start told first t u c begins le left =
    behind unit start told first t c begins (earlier_at (MayLeave unit start) first t u c le left)

-- a stop since a moment is one behind some beginning that is as long
pub record IsBehind (unit : ℕ → ℕ) (start : List Cell) (told : List Order) (t : ℕ) (c : List Cell) : Type 0 where
  pub first : List Order
  pub begins : IsBeginning first told
  pub long : t ≤ length first
  pub left : MayLeave unit start first c

pub some_beginning : (unit : ℕ → ℕ) (start : List Cell) (told : List Order) (t : ℕ) (c : List Cell) → LeftSince unit start told t c
    → IsBehind unit start told t c
some_beginning unit start [] t c left = record { first = []; begins = begins_whole []; long = left.0; left = left.1 }
some_beginning unit start (order ∷ told) t c (inl now) =
    record { first = order ∷ told; begins = begins_whole (order ∷ told); long = now.0; left = now.1 }
some_beginning unit start (order ∷ told) t c (inr then') =
    let one = some_beginning unit start told t c then' in
    record { first = one.first; begins = begins_behind one.first told order one.begins; long = one.long; left = one.left }

-- a beginning of a beginning is one
pub begins_then : (first mid told : List Order) → IsBeginning first mid → IsBeginning mid told → IsBeginning first told
unfolding IsBeginning
begins_then first mid [] one is = subst (λ (l : List Order). IsBeginning first l) is one
begins_then first mid (order ∷ told) one (inl is) = subst (λ (l : List Order). IsBeginning first l) is one
begins_then first mid (order ∷ told) one (inr begins) = inr (begins_then first mid told one begins)

-- those behind one of the next orders are a beginning of those behind all
pub begins_onto : (orders : List Order) (i : ℕ) (o : Order) (told : List Order) → i < length orders
    → IsBeginning (get_or orders i o ∷ onto (take i orders) told) (onto orders told)
begins_onto [] i o told lt = absurd (omega (arith, lt))
begins_onto (order ∷ orders) zero o told lt = begins_before orders (order ∷ told) (order ∷ told) (begins_whole (order ∷ told))
begins_onto (order ∷ orders) (suc i) o told lt = begins_onto orders i o (order ∷ told) (omega (arith, lt))
