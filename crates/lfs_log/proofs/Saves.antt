-- A commit, from its two halves.
use Rattle.std.proofs.Common.{◌≡◌, ◌<◌, ◌≤◌, ⊎_elim, inl, ◌+◌, ◌*◌, ◌==◌, cond, nat_lt, ℕ, Bool, true, false, [], length, Option, Some}
use Rattle.std.proofs.Common.{None, sym, ◌∙◌, ap, subst, arith}
use Rattle.lfs_model.specs.Checkpoint.{CheckpointValue, shape_of}
use Rattle.lfs_model.specs.Content.{Content}
use Rattle.lfs_model.specs.Crash.{StandsOn, StandsForOn}
use Rattle.lfs_model.specs.Device.{DeviceState}
use Rattle.lfs_model.specs.Stands.{LogMap}
use Rattle.lfs_model.specs.TreeOf.{dropped}
use Rattle.lfs_model.proofs.Moments.{carries_then, joined, weaker}
use Rattle.lfs_model.proofs.Settled.{settled_stands}
use Rattle.lfs_memory.specs.segments.Table.{SegmentNumbers, UsageTable, clean_in, used_of}
use Rattle.lfs_memory.specs.segments.Chunk.{Chunk, due_in, room_behind, room_in}
use Rattle.lfs_memory.specs.segments.Emptied.{IsEmptied}
use Rattle.lfs_memory.specs.segments.Spare.{emptied_in, spare_in}
use Rattle.lfs_memory.proofs.of_segments.Spare.{emptied_stay, spare_there, emptied_given}
use Rattle.lfs_memory.specs.declared.memory.LogMemory.{LogMemory}
use Rattle.lfs_memory.specs.Memory.{Goes, Stops, room_of}
use Rattle.lfs_log.specs.Publishing.{IsAcknowledged, Publishes, PublishFails, LeavesEither}
use Rattle.lfs_log.specs.Saving.{CommitsAll, CommitsIn, CommitsOpen, CommitFails, CommitFailsIn, CommitFailsOpen, IsSpared, IsSparedBy}
use Rattle.lfs_log.specs.Saving.{segments_for, segments_for_open, segments_open}
use Rattle.lfs_memory.proofs.Begun.{zero_or_more}
use Rattle.lfs_memory.proofs.Rooms.{room_none, room_some}
use Rattle.lfs_log.proofs.Cleaned.{emptied_clean}

-- a summary at most comes without a clean segment
one_or_none : (yes : Bool) → cond yes 1 0 ≤ 1
one_or_none true = omega arith
one_or_none false = omega arith

one_at_most : (yes : Bool) {n : ℕ} → n ≤ 1 → cond yes n 1 ≤ 1
one_at_most true le = le
one_at_most false le = omega arith

one_behind : (t : UsageTable) (o : Option ℕ) → room_behind t o ≤ 1
one_behind t None = omega arith
one_behind t (Some s) = one_or_none (nat_lt (used_of t s) 63)

pub few_due : (v : LogMemory) → due_in v.chunk v.usage ≤ 1
few_due v = one_at_most (length v.chunk.names == 0) (one_behind v.usage v.usage.last)

-- how many blocks more a chunk takes at most, that has one
pub few_more : (c : Chunk) → room_in c ≤ 62
few_more c = ⊎_elim
    (λ (none : length c.names ≡ 0). let r = room_none c none in omega (arith, r))
    (λ (some : 0 < length c.names). let r = room_some c some in omega (arith, r, some))
    (zero_or_more (length c.names))

-- a commit of so many blocks takes no more segments than these want, with the chunk that has begun
pub segments_taken : (v v' : LogMemory) (blocks : ℕ) → room_of v ≤ room_of v' + (blocks + 48)
    → clean_in v.usage.segments ≤ clean_in v'.usage.segments + segments_for_open blocks (room_in v.chunk)
segments_taken v v' blocks room =
    let few = few_more v'.chunk in
    let before = few_more v.chunk in
    omega (arith, few, before, room)

-- no fewer orders and segments than it may take
commits_more : {most orders least fewer : ℕ} {d d' : DeviceState} {v v' : LogMemory} {version number : ℕ} → least ≤ most → fewer ≤ orders
    → CommitsIn least fewer d d' v v' version number → CommitsIn most orders d d' v v' version number
commits_more few le c = record {
  carries = c.carries;
  memory = c.memory;
  chunk = c.chunk;
  dirty = c.dirty;
  untaken = c.untaken;
  capacity = c.capacity;
  segments = c.segments;
  gains = let gains = c.gains in omega (arith, gains, few);
  many = c.many;
  cleaned = c.cleaned;
  no_failure = c.no_failure;
  log = c.log;
  moment = c.moment;
  told = let told = c.told in omega (arith, told, le);
}

-- one that is begun with no chunk: as many as these want
pub commits_closed : {d d' : DeviceState} {v v' : LogMemory} {version number : ℕ} → v.chunk.names ≡ []
    → CommitsOpen d d' v v' version number → CommitsAll d d' v v' version number
commits_closed {v = v} closed =
    let none = room_none v.chunk (ap length closed) in
    let due = few_due v in
    commits_more (omega (arith, none)) (omega (arith, none, due))

pub fails_more : {orders fewer : ℕ} {d d' : DeviceState} {v : LogMemory} {version number : ℕ} → fewer ≤ orders
    → CommitFailsIn fewer d d' v version number → CommitFailsIn orders d d' v version number
fails_more le c = record {
  carries = c.carries;
  cause = c.cause;
  left = c.left;
  moment = c.moment;
  told = let told = c.told in omega (arith, told, le);
}

pub fails_closed : {d d' : DeviceState} {v : LogMemory} {version number : ℕ} → v.chunk.names ≡ [] → CommitFailsOpen d d' v version number
    → CommitFails d d' v version number
fails_closed {v = v} closed =
    let none = room_none v.chunk (ap length closed) in
    let due = few_due v in
    fails_more (omega (arith, none, due))

pub spared_closed : (v : LogMemory) → v.chunk.names ≡ [] → IsSpared v → IsSparedBy (segments_open v) v
spared_closed v closed =
    subst (λ (r : ℕ). IsSparedBy (segments_for_open (length v.dirty.blocks) r) v) (sym (room_none v.chunk (ap length closed)))

-- and there is room for them, where so many are clean
pub room_there : (v : LogMemory) (blocks : ℕ) → segments_for blocks ≤ clean_in v.usage.segments → blocks + 48 ≤ room_of v
room_there v blocks clean = omega (arith, clean)

-- in an eighth of the segments nothing lives then
pub many_spare : (v v' : LogMemory) (most : ℕ) → length v'.usage.segments ≡ length v.usage.segments
    → ((s : ℕ) → IsEmptied v.usage s → IsEmptied v'.usage s)
    → IsSparedBy most v
    → clean_in v.usage.segments ≤ clean_in v'.usage.segments + most
    → length v'.usage.segments ≤ 8 * spare_in v'.usage.segments
many_spare v v' most size stay spare taken =
    let there = spare_there v'.usage in
    let more = emptied_stay size stay in
    omega (arith, size, spare, taken, there, more)

acknowledged_on : {a : DeviceState} (b : DeviceState) {v : LogMemory} (v' : LogMemory) (n : ℕ) {version number : ℕ} → Goes a b v v' n
    → b.keeps_model
    → (k : CheckpointValue) {m0 : LogMap} (m : LogMap) → IsAcknowledged a v version number k m0 m
    → IsAcknowledged b v' version number k m0 m
acknowledged_on b v' n goes keeps k {m0} m is =
    record { log = goes.log k m0 m keeps is.log; map = is.map; same = is.same; same_version = is.same_version; fits = is.fits }

either_then : (a b c : DeviceState) (v v' : LogMemory) (n version number : ℕ) → Goes a b v v' n → (c.keeps_model → b.keeps_model)
    → LeavesEither b c v' version number → LeavesEither a c v version number
either_then a b c v v' n version number goes back moment k m0 m keeps is =
    let P : Content → Type 0 = λ x. StandsOn (shape_of k) x m0 in
    let Q : Content → Type 0 = StandsForOn (shape_of k) m0 (dropped m) in
    joined P Q Q (goes.quiet k m0 m (back keeps) is.log)
    (moment k m0 m keeps (acknowledged_on b v' n goes (back keeps) k m is)) (λ x h. inl h) (λ x h. h)

pub out_stops : {d d' : DeviceState} {v : LogMemory} {orders : ℕ} (version number : ℕ)
    → length d'.told + 3 ≤ length d.told + orders → Stops d d' v → CommitFailsIn orders d d' v version number
out_stops {d} {d'} version number told stops = record {
  carries = stops.carries;
  cause = stops.cause;
  left = λ k m0 m keeps is c left. inl (settled_stands d' k m0 (stops.settled k m0 m keeps is.log) c left);
  moment = λ k m0 m keeps is.
      weaker (λ x. StandsOn (shape_of k) x m0) _ (λ x h. inl h) (stops.quiet k m0 m keeps is.log);
  told = omega (arith, told);
}

pub publish_fails : (a : DeviceState) {b c : DeviceState} (v : LogMemory) {v' : LogMemory} (n : ℕ) {orders version number : ℕ}
    → Goes a b v v' n
    → length b.told + 3 ≤ length a.told + orders → length c.told ≤ length b.told + 3
    → PublishFails b c v' version number → CommitFailsIn orders a c v version number
publish_fails a {b} {c} v {v'} n {orders} {version} {number} goes told more fails = record {
  carries = carries_then goes.carries fails.carries;
  cause = λ k m0 m keeps is. (let worse = fails.failed in let before = goes.carries.failed_orders in omega (arith, worse, before));
  left = λ k m0 m keeps is.
      fails.left k m0 m keeps (acknowledged_on b v' n goes (fails.carries.kept_before keeps) k m is);
  moment = either_then a b c v v' n _ _ goes fails.carries.kept_before fails.moment;
  told = omega (arith, told, more);
}

pub commits : {a b c : DeviceState} {v v' v'' : LogMemory} (n : ℕ) {most orders version number : ℕ} → Goes a b v v' n
    → Publishes b c v' v'' version number
    → clean_in v.usage.segments ≤ clean_in v'.usage.segments + most → IsSparedBy most v
    → v''.chunk.names ≡ [] → v''.dirty.blocks ≡ [] → v''.dirty.capacity ≡ v.dirty.capacity
    → length b.told + 3 ≤ length a.told + orders → length c.told ≤ length b.told + 3
    → CommitsIn most orders a c v v'' version number
commits {a} {b} {c} {v} {v'} {v''} n {most} {orders} {version} {number} goes done taken spare chunk dirty capacity told more = record {
  carries = carries_then goes.carries done.carries;
  memory = done.memory;
  chunk = chunk;
  dirty = dirty;
  untaken = λ s. ap (λ (n : SegmentNumbers). n.kept) (done.released.each s)
      ∙ sym (ap (λ (n : SegmentNumbers). n.used) (done.released.each s));
  capacity = capacity;
  segments = done.segments ∙ goes.segments;
  gains = gains;
  many = let size = done.segments ∙ goes.segments in omega (arith, size, spare, gains);
  cleaned = λ s is. emptied_clean s done.released (goes.emptied s is);
  no_failure = done.no_failure ∙ goes.no_failure;
  log = λ k m0 m keeps is.
      done.log k m0 m keeps (acknowledged_on b v' n goes (done.carries.kept_before keeps) k m is);
  moment = either_then a b c v v' n _ _ goes done.carries.kept_before done.moment;
  told = omega (arith, told, more);
}
  where
    gains : clean_in v.usage.segments + emptied_in v.usage.segments ≤ clean_in v''.usage.segments + most
    gains =
        let given = emptied_given done.released in
        let more = emptied_stay goes.segments goes.emptied in
        omega (arith, given, more, taken)
