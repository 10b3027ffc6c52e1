-- Orders that a device is given, one after another.
use Rattle.std.proofs.Common.{◌≡◌, ◌⊎◌, inl, inr, ℕ, ◌<◌, ◌≤◌, ◌+◌, List, [], ◌∷◌, ◌++◌, length, take, get_or, refl, sym, ◌∙◌, ap, subst}
use Rattle.std.proofs.Common.{arith}
use Rattle.std.specs.Prelude.{Result, Ok, Err, OnOk, OnErr}
use Rattle.std.proofs.lemmas.List.{take_more, get_or_default}
use Rattle.lfs_model.specs.Device.{Cell, DeviceState, Carries, Elapses, CrashWritesUnit, IsLawful, LeavesOnly, LieWithin, MayTell}
use Rattle.lfs_model.specs.Device.{put}
use Rattle.lfs_model.specs.declared.Order.{Order}
use Rattle.lfs_model.specs.declared.Order.TheVariants.{Write, Sync}
use Rattle.lfs_model.proofs.Moments.{carries_none, carries_then, started, goes_on, weaker}
use Rattle.lfs_model.proofs.UnitWrites.{units_within}
use Rattle.lfs_model.proofs.Pasts.{counts_at}
use Rattle.lfs_queue.specs.Orders.{onto, MayLeave, LeftSince}
use Rattle.lfs_queue.specs.Carrying.{IsWithin, IsAsTold, GoesOn, LeftBy, IsCarried, IsCarriedUpTo}
use Rattle.lfs_queue.proofs.Firsts.{put_first, unit_first}
use Rattle.lfs_queue.proofs.Queues.{told_at_end}

-- a call changes no unit
lay_before : {old new : DeviceState} {unit : ℕ → ℕ} → Carries old new → LieWithin new.unit unit → LieWithin old.unit unit
lay_before {unit} carries lie = subst (λ (u : ℕ → ℕ). LieWithin u unit) carries.unit lie

-- one of them
module _ {old new : DeviceState} (sector : ℕ) (bytes : List ℕ) (crash : CrashWritesUnit sector bytes old new)
    (carries : Carries old new) where
  write_leaves : (unit : ℕ → ℕ) → LieWithin new.unit unit → (start : List Cell) (told : List Order) → IsAsTold unit start told old
      → (c : List Cell) → new.may_leave c → MayLeave unit start (Write sector bytes ∷ told) (take (length start) c)
  write_leaves unit lie start told is c left =
      let from = crash c left in (
        take (length start) from.0,
        is.left from.0 from.1,
        unit_first (length start) unit sector bytes from.0 c
            (units_within old.unit unit (lay_before carries lie) sector bytes from.0 c from.2),
      )

  write_left_by : LeftBy old new (Write sector bytes)
  write_left_by unit lie start told is c left = inl (write_leaves unit lie start told is c left)

  write_goes_on : (new.keeps_model → new.content ≡ put old.content sector bytes) → GoesOn old new (Write sector bytes)
  write_goes_on written unit lie keeps start told is = record {
    size = (let size = carries.size in let long = is.size in omega (arith, size, long));
    content = ap (λ (c : List Cell). take (length start) c) (written keeps) ∙ put_first (length start) old.content sector bytes
        ∙ ap (λ (c : List Cell). put c sector bytes) is.content;
    left = write_leaves unit lie start told is;
  }

-- the call that carries one out
module _ {T E : Type 0} {old new : DeviceState} {order : Order} (sector : ℕ) (bytes : List ℕ) (is : order ≡ Write sector bytes)
    (crash : CrashWritesUnit sector bytes old new) (carries : Carries old new) where
  pub write_done : (r : Result T E) → OnOk r (new.keeps_model → new.content ≡ put old.content sector bytes) → OnOk r (GoesOn old new order)
  write_done (Ok x) written =
      subst (λ (o : Order). GoesOn old new o) (sym is) (write_goes_on sector bytes crash carries written)
  write_done (Err e) written = tt

  pub write_failed : (r : Result T E) → OnErr r (LeftBy old new order)
  write_failed (Ok x) = tt
  write_failed (Err e) = subst (λ (o : Order). LeftBy old new o) (sym is) (write_left_by sector bytes crash carries)

-- a run of them
longer : (orders told : List Order) → length told ≤ length (onto orders told)
longer [] told = omega arith
longer (order ∷ orders) told = let more = longer orders (order ∷ told) in omega (arith, more)

-- what a stop since one of the orders leaves in the first sectors
abbrev Left : (ℕ → ℕ) → List Cell → List Order → ℕ → List Cell → Type 0
Left unit start told t c = LeftSince unit start told t (take (length start) c)

pub carried_none : {d : DeviceState} → IsLawful d → IsCarried d d []
carried_none {d} lawful = record {
  carries = carries_none;
  failures = refl;
  failed_orders = refl;
  told = refl;
  as_told = λ unit lie keeps start told is. is;
  moments = λ unit lie keeps start told is. started (Left unit start told (length told)) lawful
      (λ c left. counts_at (MayLeave unit start) told (length told) (take (length start) c) (omega arith) (is.left c left));
}

-- an order that is carried out fails no order either
no_order_failed : {old new : DeviceState} → Carries old new → new.failures ≡ old.failures → new.failed_orders ≡ old.failed_orders
no_order_failed carries fails =
    let orders = carries.failed_orders in let reads = carries.failed_reads in omega (arith, fails, orders, reads)

carried_more : (a b c : DeviceState) {orders : List Order} {order : Order} → IsCarried a b orders → Carries b c → Elapses b c
    → c.failures ≡ b.failures
    → c.told ≡ order ∷ b.told → GoesOn b c order → IsCarried a c (orders ++ order ∷ [])
carried_more a b c {orders} {order} one carries time fails told goes = record {
  carries = carries_then one.carries carries;
  failures = fails ∙ one.failures;
  failed_orders = no_order_failed carries fails ∙ one.failed_orders;
  told = told ∙ ap (λ (l : List Order). order ∷ l) one.told ∙ sym (told_at_end orders order a.told);
  as_told = λ unit lie keeps start before is.
      subst (λ (l : List Order). IsAsTold unit start l c) (sym (told_at_end orders order before)) (next unit lie keeps start before is);
  moments = λ unit lie keeps start before is.
      (let now = next unit lie keeps start before is in
      let past = Left unit start (onto orders before) (length before) in
      let all = Left unit start (order ∷ onto orders before) (length before) in
      subst (λ (l : List Order). LeavesOnly a c (Left unit start l (length before))) (sym (told_at_end orders order before))
      (goes_on all
      (weaker past all (λ x was. inr was) (one.moments unit (lay_before carries lie) (carries.kept_before keeps) start before is))
      carries time (λ x left. inl (let more = longer orders before in omega (arith, more), now.left x left))));
}
  where
    next : (unit : ℕ → ℕ) → LieWithin c.unit unit → c.keeps_model → (start : List Cell) (before : List Order)
        → IsAsTold unit start before a → IsAsTold unit start (order ∷ onto orders before) c
    next unit lie keeps start before is = goes unit lie keeps start (onto orders before)
        (one.as_told unit (lay_before carries lie) (carries.kept_before keeps) start before is)

pub carried_next : {a b c : DeviceState} (orders : List Order) (i : ℕ) (o : Order) → i < length orders → IsCarried a b (take i orders)
    → Carries b c → Elapses b c
    → c.failures ≡ b.failures → c.told ≡ get_or orders i o ∷ b.told → GoesOn b c (get_or orders i o) → IsCarried a c (take (i + 1) orders)
carried_next {a} {b} {c} orders i o lt one carries time fails told goes =
    subst (λ (l : List Order). IsCarried a c l) (sym (take_more orders i o lt)) (carried_more a b c one carries time fails told goes)

pub within : {n n' : ℕ} (orders : List Order) (i : ℕ) (o : Order) → i < length orders → n' ≡ n → IsWithin n (get_or orders i Sync)
    → IsWithin n' (get_or orders i o)
within {n} orders i o lt same is = subst (λ (size : ℕ). IsWithin size (get_or orders i o)) (sym same)
    (subst (λ (x : Order). IsWithin n x) (get_or_default orders i Sync o lt) is)

-- the order that failed, behind those before it
fails_since : (unit : ℕ → ℕ) (start : List Cell) (order : Order) (told before : List Order) (c : List Cell) → length before ≤ length told
    → MayLeave unit start (order ∷ told) c ⊎ MayLeave unit start told c → LeftSince unit start (order ∷ told) (length before) c
fails_since unit start order told before c le (inl with') = inl (omega (arith, le), with')
fails_since unit start order told before c le (inr without) = inr (counts_at (MayLeave unit start) told (length before) c le without)

pub carried_up_to : (a b c : DeviceState) {orders : List Order} (i : ℕ) → i < length orders → IsCarried a b (take i orders) → Carries b c
    → Elapses b c
    → b.failures < c.failures → b.failed_orders < c.failed_orders → MayTell (get_or orders i Sync) b.told c.told
    → LeftBy b c (get_or orders i Sync) → IsCarriedUpTo a c orders
carried_up_to a b c {orders} i lt one carries time fails order_fails told left = record {
  mid = i;
  few = lt;
  carries = carries_then one.carries carries;
  failed = subst (λ (n : ℕ). n < c.failures) one.failures fails;
  failed_order = subst (λ (n : ℕ). n < c.failed_orders) one.failed_orders order_fails;
  told = subst (λ (l : List Order). MayTell (get_or orders i Sync) l c.told) one.told told;
  left = now;
  moments = λ unit lie keeps start before is.
      (let last = get_or orders i Sync in
      let mid = onto (take i orders) before in
      let past = Left unit start mid (length before) in
      let all = Left unit start (last ∷ mid) (length before) in
      goes_on all
      (weaker past all (λ x then'. inr then') (one.moments unit (lay_before carries lie) (carries.kept_before keeps) start before is))
      carries time
      (λ x here. fails_since unit start last mid before (take (length start) x) (longer (take i orders) before)
      (now unit lie keeps start before is x here)));
}
  where
    now : (unit : ℕ → ℕ) → LieWithin c.unit unit → c.keeps_model → (start : List Cell) (before : List Order)
        → IsAsTold unit start before a → (x : List Cell) → c.may_leave x
        → MayLeave unit start (get_or orders i Sync ∷ onto (take i orders) before) (take (length start) x)
        ⊎ MayLeave unit start (onto (take i orders) before) (take (length start) x)
    now unit lie keeps start before is = left unit lie start (onto (take i orders) before)
        (one.as_told unit (lay_before carries lie) (carries.kept_before keeps) start before is)

-- the same for an order that the loop knows by another default
pub failed_here : {T E : Type 0} (r : Result T E) {a b c : DeviceState} (orders : List Order) (i : ℕ) (o : Order) → i < length orders
    → IsCarried a b (take i orders) → Carries b c → Elapses b c
    → b.failures < c.failures → b.failed_orders < c.failed_orders → MayTell (get_or orders i o) b.told c.told
    → LeftBy b c (get_or orders i o) → OnErr r (IsCarriedUpTo a c orders)
failed_here (Ok x) orders i o lt one carries time fails order_fails told left = tt
failed_here (Err e) {a} {b} {c} orders i o lt one carries time fails order_fails told left =
    let same = sym (get_or_default orders i Sync o lt) in
    carried_up_to a b c i lt one carries time fails order_fails
    (subst (λ (x : Order). MayTell x b.told c.told) same told) (subst (λ (x : Order). LeftBy b c x) same left)
