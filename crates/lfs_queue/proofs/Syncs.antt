-- What an order makes of the device, and what nothing makes of it.
use Rattle.std.proofs.Common.{◌≡◌, ◌⊎◌, inl, inr, ◌≤◌, ◌+◌, ℕ, List, ◌∷◌, length, refl, sym, ap, subst, arith}
use Rattle.lfs_model.specs.Device.{Cell, Carries, DeviceState, Elapses, IsUntouched}
use Rattle.lfs_model.specs.Past.{AtSince}
use Rattle.lfs_model.proofs.Moments.{grows_none, grows_one}
use Rattle.lfs_model.proofs.Pasts.{until_before}
use Rattle.lfs_queue.proofs.Numbering.{length_onto}
use Rattle.lfs_queue.specs.Orders.{MayLeave, onto, present_left, queue_state_of}
use Rattle.lfs_queue.specs.Queue.{borne_by, carried_of, due_of, queue_state, room_of, start_of, told_of}
use Rattle.lfs_queue.specs.declared.queue.QueueDevice.{QueueDevice}
use Rattle.lfs_model.specs.declared.Order.{Order}
use Rattle.lfs_model.specs.declared.Order.TheVariants.{Sync}

-- where the list is full, all that the device bears was told
pub all_told : (queue done : List Order) (room : ℕ) → room ≤ length queue → length done + room ≤ length (onto queue done)
all_told queue done room full = let all = length_onto queue done in omega (arith, full, all)

module _ (unit : ℕ → ℕ) (n : ℕ) (start : List Cell) (old : List Order) where
  abbrev At : List Order → ℕ → ℕ → DeviceState
  At = queue_state_of unit n start

  pub synced_untouched : {new : List Order} (f most most' : ℕ) → new ≡ Sync ∷ old → IsUntouched (At old f most) (At new f most')
  synced_untouched f most most' is = subst (λ (told : List Order). IsUntouched (At old f most) (At told f most')) (sym is)
      (record { content = refl; crash = λ c left. subst (MayLeave unit start old) (sym left) (present_left unit start old) })

  one_order : (order : Order) (f most most' : ℕ) → most ≤ most' → Carries (At old f most) (At (order ∷ old) f most')
  one_order order f most most' more = record {
    size = refl;
    kept_before = λ k. k;
    unit = refl;
    failures = omega arith;
    failed_orders = omega arith;
    failed_reads = omega arith;
    later = omega arith;
    remembers = λ t c le left. inr left;
    kept_as = λ u le. (λ kept. kept, λ kept. kept);
    left_as = λ t u c le. until_before (MayLeave unit start) order old t u c le;
    start = refl;
    told = grows_one order old (order ∷ old) refl;
    bears = λ orders few. omega (arith, few, more);
    borne = λ orders few later. refl;
  }

  pub order_carries : (order : Order) {new : List Order} (f most most' : ℕ) → new ≡ order ∷ old → most ≤ most'
      → Carries (At old f most) (At new f most')
  order_carries order f most most' is more = subst
      (λ (told : List Order). Carries (At old f most) (At told f most')) (sym is) (one_order order f most most' more)

  none_more : (f f' most most' : ℕ) → f ≤ f' → most ≤ most' → (most ≤ length old) ⊎ (f' ≡ f)
      → Carries (At old f most) (At old f' most')
  none_more f f' most most' more_failed more full = record {
    size = refl;
    kept_before = λ k. k;
    unit = refl;
    failures = more_failed;
    failed_orders = more_failed;
    failed_reads = omega arith;
    later = omega arith;
    remembers = λ t c le left. left;
    kept_as = λ u le. (λ kept. kept, λ kept. kept);
    left_as = λ t u c le. (λ left. left, λ left. left);
    start = refl;
    told = grows_none old old refl;
    bears = λ orders few. omega (arith, few, more);
    borne = λ orders few later. elim full [ inl all ↦ absurd (omega (arith, all, few, later)) | inr same ↦ same ];
  }

  -- an order that fails, as the list is full
  pub full_carries : {new : List Order} (f most most' : ℕ) {f' : ℕ} → new ≡ old → f' ≡ f + 1 → most ≤ most' → most ≤ length old
      → Carries (At old f most) (At new f' most')
  full_carries f most most' {f'} is failed more all = subst
      (λ (told : List Order). Carries (At old f most) (At told f' most')) (sym is)
      (none_more f f' most most' (omega (arith, failed)) more (inl all))

pub same_carries : (unit : ℕ → ℕ) (n n' : ℕ) (start start' : List Cell) (told told' : List Order) (f most : ℕ) {f' most' : ℕ} → n' ≡ n
    → start' ≡ start → told' ≡ told → f' ≡ f → most ≤ most'
    → Carries (queue_state_of unit n start told f most) (queue_state_of unit n' start' told' f' most')
same_carries unit n n' start start' told told' f most {f'} {most'} one two three four more =
    let a : Carries (queue_state_of unit n start told f most) (queue_state_of unit n start told f' most') =
    none_more unit n start told f f' most most' (omega (arith, four)) more (inr four) in
    let b : Carries (queue_state_of unit n start told f most) (queue_state_of unit n' start told f' most') =
    subst (λ (x : ℕ). Carries (queue_state_of unit n start told f most) (queue_state_of unit x start told f' most')) (sym one) a in
    let c : Carries (queue_state_of unit n start told f most) (queue_state_of unit n' start' told f' most') =
    subst (λ (x : List Cell). Carries (queue_state_of unit n start told f most) (queue_state_of unit n' x told f' most')) (sym two) b in
    subst (λ (x : List Order). Carries (queue_state_of unit n start told f most) (queue_state_of unit n' start' x f' most')) (sym three) c

pub same_elapses : (old new : QueueDevice) → start_of new ≡ start_of old → told_of new ≡ told_of old
    → Elapses (queue_state old) (queue_state new)
same_elapses old new one two t c le left =
    inl (subst (λ (told : List Order). AtSince (MayLeave (λ k. k) (start_of old)) told t c) two
    (subst (λ (start : List Cell). AtSince (MayLeave (λ k. k) start) (told_of new) t c) one left))

-- those that waited count as carried out
pub tended_bears : (old new : QueueDevice) → carried_of new ≡ onto (due_of old) (carried_of old) → room_of new ≡ room_of old
    → borne_by old ≤ borne_by new
tended_bears old new carried room =
    let long = ap (λ (l : List Order). length l) carried in
    let all = length_onto (due_of old) (carried_of old) in
    omega (arith, long, all, room)
