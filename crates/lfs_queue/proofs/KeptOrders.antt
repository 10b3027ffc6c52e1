-- What a stop keeps of calls whose orders are carried out.
use Rattle.std.proofs.Common.{◌≡◌, ◌⊎◌, ◌≤◌, ℕ, List, [], ◌∷◌, ◌++◌, length, take, get_or, sym, ◌∙◌, subst, arith, inl, inr}
use Rattle.std.proofs.Common.{⊎_elim}
use Rattle.std.proofs.lemmas.Bool.{cases_lt}
use Rattle.std.proofs.lemmas.List.{append_assoc}
use Rattle.lfs_model.specs.Call.{Answer, Call}
use Rattle.lfs_model.specs.Content.{Content}
use Rattle.lfs_model.specs.Device.{DeviceState, IsBeginning, LeavesOnly}
use Rattle.lfs_model.specs.Run.{Point}
use Rattle.lfs_model.specs.declared.Order.{Order}
use Rattle.lfs_model.specs.declared.Order.TheVariants.{Write, Sync}
use Rattle.lfs_model.proofs.Moments.{weaker}
use Rattle.lfs_queue.specs.Carrying.{IsCarried, IsCarriedUpTo}
use Rattle.lfs_queue.specs.Kept.{ComeNext, DoneIsOn, DoneMeanwhile, KeepsDone, OrdersMayCome}
use Rattle.lfs_queue.specs.Kept.{SinceIsDone, StandsFirst, SyncComesNext, ToldComeNext, WritesComeNext}
use Rattle.lfs_queue.specs.Orders.{LeftSince, onto}
use Rattle.lfs_queue.specs.Queue.{start_of, told_of}
use Rattle.lfs_queue.specs.Stops.{AreAmong, AreDoneFor, AreWrites, AreWritesOf, IsOneOf, are_done, synced}
use Rattle.lfs_queue.specs.declared.queue.QueueDevice.{QueueDevice}
use Rattle.lfs_queue.proofs.Beginnings.{begins_onto, begins_then, some_beginning, stops_are_behind}
use Rattle.lfs_queue.proofs.Numbering.{begins_before, begins_behind, begins_once, begins_short, begins_whole}
use Rattle.lfs_queue.proofs.Sequences.{done_leaves_told, told_are_done}

pub since_is_done : SinceIsDone
since_is_done device shown points calls answers clocks since i done by c left = since i by.told.clock by.told.at c (
  (λ j k same. same),
  stops_are_behind (λ k. k) (start_of device) (told_of device) by.first by.told.clock c by.told.begins by.told.long
      (done_leaves_told (λ k. k) (start_of device) done by.first by.instead c left),
)

pub done_is_on : (d : DeviceState) → DoneIsOn d
done_is_on d device shown points calls answers clocks kept i done by is c left =
    kept i done by (take (length (start_of device)) c) (is.left c left)

module _ (device : QueueDevice) (shown : Content → Content) (points : List Point) (calls : List Call) (answers : List Answer)
    (clocks : List ℕ) (kept : KeepsDone device shown points calls answers clocks) (old new : DeviceState) (i : ℕ) (orders : List Order)
    (next : ComeNext device clocks old new orders i) where
  abbrev Kept : Content → Type 0
  Kept = StandsFirst device shown points calls answers clocks i

  abbrev Since : List Order → Content → Type 0
  Since told c = LeftSince (λ k. k) (start_of device) told (length next.done) (take (length (start_of device)) c)

  -- a moment since then is one behind a beginning
  meanwhile : (some : List Order) → IsBeginning some (onto orders next.done) → LeavesOnly old new (Since some) → LeavesOnly old new Kept
  meanwhile some begins moments = weaker (Since some) Kept at_moment moments
    where
      at_moment : (c : Content) → Since some c → Kept c
      at_moment c left =
          let first = take (length (start_of device)) c in
          let one = some_beginning (λ k. k) (start_of device) some (length next.done) first left in
          kept i one.first
          (next.meanwhile one.first (begins_then one.first some (onto orders next.done) one.begins begins) one.long) first one.left

  carried : IsCarried old new orders ⊎ IsCarriedUpTo old new orders → LeavesOnly old new Kept
  carried (inl is) = meanwhile (onto orders next.done) (begins_whole (onto orders next.done))
      (is.moments (λ k. k) next.sectors next.keeps (start_of device) next.done next.as_told)
  carried (inr is) = meanwhile (get_or orders is.mid Sync ∷ onto (take is.mid orders) next.done)
      (begins_onto orders is.mid Sync next.done is.few)
      (is.moments (λ k. k) next.sectors next.keeps (start_of device) next.done next.as_told)

pub done_meanwhile : (old new : DeviceState) → DoneMeanwhile old new
done_meanwhile old new device shown points calls answers clocks kept i orders next is =
    carried device shown points calls answers clocks kept old new i orders next is

-- ---- how orders may come next
module _ (device : QueueDevice) (clocks : List ℕ) where
  told_come_next : ToldComeNext device clocks
  told_come_next i first orders holds all now begins long = record {
    first = now;
    instead = told_are_done now;
    told = record {
      clock = holds.clock;
      at = holds.at;
      begins = begins_then now (onto orders first) (told_of device) begins all;
      long = (let low = holds.long in omega (arith, low, long));
    };
  }

  -- orders that are done up to some moment while these come
  record IsTaken (orders done now : List Order) : Type 0 where
    pub taken : List Order
    pub is : now ≡ taken ++ done
    pub writes : AreWrites taken
    pub among : AreAmong taken orders

  -- two beginnings of one length
  as_long : (done now all : List Order) → IsBeginning done all → IsBeginning now all → length now ≤ length done
      → length done ≤ length now → now ≡ done
  as_long done now all one two few long = begins_once all two one (omega (arith, few, long))

  none_taken : (orders done now : List Order) → now ≡ done → IsTaken orders done now
  none_taken orders done now is = record { taken = []; is = is; writes = tt; among = λ order one. absurd one }

  last_one : (taken : List Order) (order o : Order) → IsOneOf o (taken ++ order ∷ []) → IsOneOf o taken ⊎ (o ≡ order)
  last_one [] order o (inl is) = inr is
  last_one [] order o (inr none) = absurd none
  last_one (x ∷ taken) order o (inl is) = inl (inl is)
  last_one (x ∷ taken) order o (inr one) = ⊎_elim (λ was. inl (inr was)) (λ is. inr is) (last_one taken order o one)

  writes_more : (taken : List Order) (sector : ℕ) (bytes : List ℕ) → AreWrites taken → AreWrites (taken ++ Write sector bytes ∷ [])
  writes_more [] sector bytes are = tt
  writes_more (Write at other ∷ taken) sector bytes are = writes_more taken sector bytes are
  writes_more (Sync ∷ taken) sector bytes are = absurd are

  taken_of : (orders done now : List Order) → AreWrites orders → IsBeginning now (onto orders done) → length done ≤ length now
      → IsTaken orders done now
  taken_of [] done now are begins long =
      none_taken [] done now (as_long done now done (begins_whole done) begins (begins_short now done begins) long)
  taken_of (Write sector bytes ∷ orders) done now are begins long = elim (cases_lt (length done) (length now)) [
    | inl more ↦ (
        let rest = taken_of orders (Write sector bytes ∷ done) now are begins (omega (arith, more)) in record {
          taken = rest.taken ++ Write sector bytes ∷ [];
          is = rest.is ∙ sym (append_assoc rest.taken (Write sector bytes ∷ []) done);
          writes = writes_more rest.taken sector bytes rest.writes;
          among = λ o one. ⊎_elim (λ was. inr (rest.among o was)) (λ is. inl is) (last_one rest.taken (Write sector bytes) o one);
        })
    | inr few ↦ none_taken (Write sector bytes ∷ orders) done now (as_long done now (onto orders (Write sector bytes ∷ done))
        (begins_before orders done (Write sector bytes ∷ done)
        (begins_behind done done (Write sector bytes) (begins_whole done))) begins few long)
  ]
  taken_of (Sync ∷ orders) done now are begins long = absurd are

  both : (one two : List Order) (o : Order) → IsOneOf o (one ++ two) → IsOneOf o one ⊎ IsOneOf o two
  both [] two o is = inr is
  both (x ∷ one) two o (inl is) = inl (inl is)
  both (x ∷ one) two o (inr rest) = ⊎_elim (λ was. inl (inr was)) (λ is. inr is) (both one two o rest)

  both_writes : (one two : List Order) → AreWrites one → AreWrites two → AreWrites (one ++ two)
  both_writes [] two a b = b
  both_writes (Write sector bytes ∷ one) two a b = both_writes one two a b
  both_writes (Sync ∷ one) two a b = absurd a

  writes_come_next : WritesComeNext device clocks
  writes_come_next i done told before writes others from_sync was are holds now begins long =
      let some = taken_of writes (before ++ done) now are.writes begins long in
      let all : AreWritesOf (some.taken ++ before) others = record {
        writes = both_writes some.taken before some.writes was.writes;
        told_writes = are.told_writes;
        among = λ o one. ⊎_elim (λ new. are.among o (some.among o new)) (λ old. was.among o old) (both some.taken before o one);
      } in record {
        first = others ++ told;
        instead = subst (λ (l : List Order). AreDoneFor l (others ++ told))
            (append_assoc some.taken before done ∙ sym some.is) (are_done (some.taken ++ before) others all from_sync);
        told = holds;
      }

  sync_comes_next : SyncComesNext device clocks
  unfolding IsBeginning
  sync_comes_next i done told writes others before enough holds all now (inl is) long = record {
    first = Sync ∷ (others ++ told);
    instead = subst (λ (l : List Order). AreDoneFor l (Sync ∷ (others ++ told))) (sym is) (are_done [] []
        (record { writes = tt; told_writes = tt; among = λ order one. one }) (synced writes others enough before));
    told = record { clock = holds.clock; at = holds.at; begins = all; long = (let low = holds.long in omega (arith, low)) };
  }
  sync_comes_next i done told writes others before enough holds all now (inr begins) long = record {
    first = others ++ told;
    instead = subst (λ (l : List Order). AreDoneFor l (others ++ told))
        (sym (as_long (writes ++ done) now (writes ++ done) (begins_whole (writes ++ done)) begins
        (begins_short now (writes ++ done) begins) long))
        (are_done writes others enough.are before);
    told = holds;
  }

pub orders_may_come : OrdersMayCome
orders_may_come device clocks = record {
  told = told_come_next device clocks;
  writes = writes_come_next device clocks;
  sync = sync_comes_next device clocks;
}
