-- A pass of the cleaner: what it moves finds room, its commit makes the segments clean, and where it is refused the log holds what it held.
use Rattle.std.proofs.Common.{◌≡◌, ◌<◌, ◌≤◌, inl, inr, ◌+◌, ◌*◌, ◌/◌, ℕ, false, true, List, [], length, get_or, refl, sym, ◌∙◌}
use Rattle.std.proofs.Common.{ap, subst, arith}
use Rattle.std.specs.Prelude.{Result, Ok, Err}
use Rattle.lfs_model.specs.Checkpoint.{CheckpointValue, Shape, shape_of}
use Rattle.lfs_model.specs.Content.{Content}
use Rattle.lfs_model.specs.Crash.{StandsOn, StandsForOn}
use Rattle.lfs_model.specs.Device.{DeviceState, IsLawful, AllLeft}
use Rattle.lfs_model.specs.Encodes.{IsLogMap}
use Rattle.lfs_model.specs.Members.{AreApart}
use Rattle.lfs_model.specs.Memory.{Memory}
use Rattle.lfs_model.specs.Stands.{LogMap}
use Rattle.lfs_model.specs.TreeOf.{dropped}
use Rattle.lfs_model.proofs.Moments.{carries_then, joined, weaker}
use Rattle.lfs_model.proofs.Settled.{settled_stands}
use Rattle.lfs_memory.specs.files.declared.fault.LogFault.{LogFault}
use Rattle.lfs_memory.specs.files.declared.fault.LogFault.TheVariants as fault
use Rattle.lfs_memory.specs.segments.Chunk.{Chunk, due_in, room_in}
use Rattle.lfs_memory.specs.segments.Spare.{emptied_in}
use Rattle.lfs_memory.specs.segments.Table.{UsageTable, clean_in, kept_of, used_of}
use Rattle.lfs_memory.specs.inodes.Blocks.{Capacity, TableValue}
use Rattle.lfs_memory.specs.declared.memory.LogMemory.{LogMemory}
use Rattle.lfs_memory.specs.Memory.{IsLog, IsMemory, room_of}
use Rattle.lfs_memory.specs.Moving.{LieBefore}
use Rattle.lfs_memory.proofs.Rooms.{room_none}
use Rattle.lfs_memory.proofs.Spared.{log_elsewhere, same_length, used_before}
use Rattle.lfs_log.specs.Brought.{OutNumber}
use Rattle.lfs_log.specs.Cleaning.{AreCleanable, AreEmptied, Cleans, MayClean, MayPass, most_brought}
use Rattle.lfs_log.specs.Groups.{ListedKeys}
use Rattle.lfs_log.specs.Held.{Held, IsPassMemory, seen}
use Rattle.lfs_log.specs.LogState.{AreAllSaved, Holds, HoldsStill, IsAtRest}
use Rattle.lfs_log.specs.Moving.{Anywhere, EndsMoving, HaltsMoving, HasMoved, WhereLog}
use Rattle.lfs_log.specs.Passing.{BeginsPass, CleansIn, EndsPass, Overfill, StaysIn}
use Rattle.lfs_log.specs.Publishing.{IsAcknowledged, LeavesEither}
use Rattle.lfs_log.specs.Saving.{CommitFailsIn, CommitFailsOpen, CommitsOpen, IsSparedBy, pass_orders, segments_for_open, segments_open}
use Rattle.lfs_log.proofs.Cleaned.{at_one, beside, emptied_least, log_beside, log_copied}
use Rattle.lfs_log.proofs.EarlyBlocks.{Ended, ended_goes}
use Rattle.lfs_log.proofs.Fitting.{out_numbered}
use Rattle.lfs_log.proofs.Saves.{few_due, few_more}
use Rattle.lfs_log.proofs.Unsaved.{none_left}
use Rattle.lfs_log.proofs.Volumes.{acknowledged, still_fits}

-- ---- whether it may begin
pub may_begin : {D : Type 0} (h : Held D) {vs : List ℕ} → MayPass (seen h) vs → MayClean h.memory vs
may_begin h may = record {
  nothing = let none = may.nothing in none_left _ (omega (arith, none));
  many = may.many;
  least = may.least;
  most = may.most;
  each = may.each;
}

-- ---- the memory that it begins with, beside that of the log
module _ {v p w0 : LogMemory} (begun : BeginsPass v p w0) where
  pub begun_memory : {keys : ListedKeys} → IsMemory v → IsPassMemory v p keys → IsMemory w0
  begun_memory memory prepared =
      let none = ap length begun.closed in
      let size = ap (λ (t : UsageTable). length t.segments) begun.usage in
      let same = ap (λ (c : Capacity). c.limit) begun.capacity in
      let limit = prepared.limit in
      record {
        count = rw begun.usage memory.count;
        opened = λ some. absurd (omega (arith, none, some));
        short = λ some. absurd (omega (arith, none, some));
        usages = rw begun.usage memory.usages;
        few = omega (arith, same, limit, size);
        unit = rw begun.usage memory.unit;
      }

  pub begun_cleanable : {vs : List ℕ} → MayClean v vs → AreCleanable w0.usage vs
  begun_cleanable may = rw begun.usage may.each

  module _ (nothing : v.dirty.blocks ≡ []) (closed : v.chunk.names ≡ []) where
    pub begun_log : {d : DeviceState} (k : CheckpointValue) (m0 m : LogMap) → IsLog d v k m0 m → IsLog d w0 k m0 m
    begun_log k m0 m is =
        log_copied v w0.dirty w0.chunk (begun.nothing ∙ sym nothing) closed begun.closed begun.map begun.usage k m is

-- ---- room: by numbers
-- what it brings fits, with so many segments clean
pub finds_room : (segments clean count : ℕ) → 2 ≤ count → count ≤ segments / 8 + 1 → segments ≤ 8 * clean
    → most_brought count + 48 ≤ 63 * clean
finds_room segments clean count least most many = omega (arith, least, most, many)

-- what is left of them is enough for the commit, which takes fewer than were emptied
pub pays : (clean after room count : ℕ) → 2 ≤ count → room ≤ 62 → 63 * clean ≤ 63 * after + room + most_brought count
    → clean + segments_for_open 0 room + 1 ≤ after + count
pays clean after room count least few left = omega (arith, least, few, left)

-- so many orders at most, to the end of what is moved
orders_moving : (segments clean after room count told due later : ℕ) → 2 ≤ count → count ≤ segments / 8 + 1 → room ≤ 62 → due ≤ 1
    → 63 * clean ≤ 63 * after + room + most_brought count → later + after ≤ told + due + clean + most_brought count + 1
    → later ≤ told + pass_orders segments
orders_moving segments clean after room count told due later least most few one left tells =
    omega (arith, least, most, few, one, left, tells)

-- and with the commit
orders_saving : (segments clean after room count told due due' middle later : ℕ) → 2 ≤ count → count ≤ segments / 8 + 1 → room ≤ 62
    → due ≤ 1 → 63 * clean ≤ 63 * after + room + most_brought count → middle + due' + after ≤ told + due + clean + most_brought count
    → later ≤ middle + (0 + 48 + segments_for_open 0 room + due' + 3) → later ≤ told + pass_orders segments
orders_saving segments clean after room count told due due' middle later least most few one left tells saves =
    omega (arith, least, most, few, one, left, tells, saves)

-- ---- what is moved in it
module _ {v p w0 : LogMemory} (begun : BeginsPass v p w0) where
  clean_begun : clean_in w0.usage.segments ≡ clean_in v.usage.segments
  clean_begun = ap (λ (t : UsageTable). clean_in t.segments) begun.usage

  size_begun : length w0.usage.segments ≡ length v.usage.segments
  size_begun = ap (λ (t : UsageTable). length t.segments) begun.usage

module _ {v p w0 : LogMemory} {vs : List ℕ} (begun : BeginsPass v p w0) (may : MayClean v vs) where
  pub room_begun : most_brought (length vs) + 48 ≤ room_of w0
  room_begun =
      let fits = finds_room (length v.usage.segments) (clean_in v.usage.segments) (length vs) may.least may.most may.many in
      let same = clean_begun begun in
      omega (arith, fits, same)

  -- as many clean segments are left as were, but for those that it fills
  module _ (w : LogMemory) (room : room_of w0 ≤ room_of w + most_brought (length vs)) where
    left_clean : 63 * clean_in v.usage.segments ≤ 63 * clean_in w.usage.segments + room_in w.chunk + most_brought (length vs)
    left_clean =
        let none = room_none w0.chunk (ap length begun.closed) in
        let same = clean_begun begun in
        omega (arith, room, none, same)

    pays_there : clean_in v.usage.segments + segments_for_open 0 (room_in w.chunk) + 1 ≤ clean_in w.usage.segments + length vs
    pays_there = pays (clean_in v.usage.segments) (clean_in w.usage.segments) (room_in w.chunk) (length vs) may.least (few_more w.chunk)
        left_clean

    told_moving : (told later : ℕ) → later + clean_in w.usage.segments
        ≤ told + due_in w0.chunk w0.usage + clean_in w0.usage.segments + most_brought (length vs) + 1
        → later ≤ told + pass_orders (length v.usage.segments)
    told_moving told later tells =
        let same = clean_begun begun in
        orders_moving (length v.usage.segments) (clean_in v.usage.segments) (clean_in w.usage.segments) (room_in w.chunk) (length vs)
        told (due_in w0.chunk w0.usage) later may.least may.most (few_more w.chunk) (few_due w0) left_clean
        (omega (arith, tells, same))

-- one block more was wanted than it may bring
module _ {a : DeviceState} (b : DeviceState) {v p w0 : LogMemory} {vs : List ℕ} (begun : BeginsPass v p w0) (may : MayClean v vs)
    (closed : v.chunk.names ≡ []) where
  overfills : WhereLog a b w0 Anywhere (λ M. OutNumber vs (most_brought (length vs)) M) → Overfill a b v vs
  overfills over k m0 m keeps is map =
      let begins = begun_log begun may.nothing closed k m0 m is in
      rw (← begun.usage) (out_numbered a w0 k m0 m begins map begun.nothing vs (most_brought (length vs)) (over k m0 m keeps begins tt))

module _ {a b : DeviceState} {v p w0 w : LogMemory} {vs : List ℕ} (begun : BeginsPass v p w0) (may : MayClean v vs)
    (closed : v.chunk.names ≡ []) where
  module _ (one : HasMoved a b w0 w (most_brought (length vs)) 0) where
    room_moved : room_of w0 ≤ room_of w + most_brought (length vs)
    room_moved =
        let room = one.room in
        let none = ap length begun.nothing in
        omega (arith, room, none)

    pub told_moved : length b.told ≤ length a.told + pass_orders (length v.usage.segments)
    told_moved =
        let tells = one.tells in
        let none = ap length begun.nothing in
        told_moving begun may w room_moved (length a.told) (length b.told) (omega (arith, tells, none))

    pub prepared_still : {keys keys' : ListedKeys} → IsPassMemory v p keys → keys.room ≤ keys'.room → IsPassMemory v w keys'
    prepared_still prepared more =
        let wide = prepared.list in
        let same = ap (λ (c : Capacity). c.limit) (one.capacity ∙ begun.capacity) in
        let least = prepared.least in
        let limit = prepared.limit in
        record {
          segments = one.segments ∙ size_begun begun;
          least = omega (arith, same, least);
          limit = omega (arith, same, limit);
          list = omega (arith, wide, more);
        }

    -- it is refused, and the log's memory holds what it held
    pub stays_in : IsLawful a → IsLawful b → StaysIn a b v
    stays_in before after = record {
      carries = one.carries;
      log = λ k m0 m keeps is. (log_elsewhere w closed is
          (one.log k m0 m keeps (begun_log begun may.nothing closed k m0 m is))
          (λ s. one.kept s ∙ ap (λ (t : UsageTable). kept_of t s) begun.usage)
          (one.spares (used_of v.usage) spared).1 keeps (same_length before after one.carries)).0;
      quiet = λ k m0 m keeps is. one.quiet k m0 m keeps (begun_log begun may.nothing closed k m0 m is);
    }
      where
        spared : LieBefore (used_of v.usage) w0
        spared = subst (λ (t : UsageTable). LieBefore (used_of t) w0) begun.usage (used_before w0 begun.closed)

    -- ---- all of it was moved, and the segments are empty
    module _ (out : w.dirty.blocks ≡ []) where
      none_waits : length w.dirty.blocks ≡ 0
      none_waits = ap length out

      pub room_left : length w.dirty.blocks + 48 ≤ room_of w
      room_left =
          let enough = room_begun begun may in
          let moved = room_moved in
          let none = none_waits in
          omega (arith, enough, moved, none)

      one_open : segments_open w ≡ segments_for_open 0 (room_in w.chunk)
      one_open = ap (λ (n : ℕ). segments_for_open n (room_in w.chunk)) none_waits

      saved_then : {version number : ℕ} → (k : CheckpointValue) (m0 m : LogMap) → b.keeps_model
          → IsAcknowledged a v version number k m0 m → IsAcknowledged b w version number k m0 m
      saved_then k m0 m keeps is = record {
        log = one.log k m0 m keeps (begun_log begun may.nothing closed k m0 m is.log);
        map = is.map;
        same = is.same;
        same_version = is.same_version;
        fits = is.fits;
      }

      moment_then : (e : DeviceState) {version number : ℕ} → (e.keeps_model → b.keeps_model) → LeavesEither b e w version number
          → LeavesEither a e v version number
      moment_then e back moment k m0 m keeps is =
          let P : Content → Type 0 = λ x. StandsOn (shape_of k) x m0 in
          let Q : Content → Type 0 = StandsForOn (shape_of k) m0 (dropped m) in
          joined P Q Q (one.quiet k m0 m (back keeps) (begun_log begun may.nothing closed k m0 m is.log))
          (moment k m0 m keeps (saved_then k m0 m (back keeps) is)) (λ x h. inl h) (λ x h. h)

      told_saved : (later : ℕ) → later ≤ length b.told + (length w.dirty.blocks + 48 + segments_open w + due_in w.chunk w.usage + 3)
          → later ≤ length a.told + pass_orders (length v.usage.segments)
      told_saved later saves =
          let same = clean_begun begun in
          let none = none_waits in
          let empty = ap length begun.nothing in
          let tells = one.tells in
          let taken = one_open in
          orders_saving (length v.usage.segments) (clean_in v.usage.segments) (clean_in w.usage.segments) (room_in w.chunk) (length vs)
          (length a.told) (due_in w0.chunk w0.usage) (due_in w.chunk w.usage) (length b.told) later may.least may.most (few_more w.chunk)
          (few_due w0) (left_clean begun may w room_moved) (omega (arith, tells, same, none, empty)) (omega (arith, saves, none, taken))

      pub told_done : {e : DeviceState} {w' : LogMemory} {version number : ℕ} → CommitsOpen b e w w' version number
          → length e.told ≤ length a.told + pass_orders (length v.usage.segments)
      told_done {e} saves = told_saved (length e.told) saves.told

      module _ (apart : AreApart vs) (emptied : AreEmptied w.usage vs) where
        gained : length vs ≤ emptied_in w.usage.segments
        gained = emptied_least w.usage vs apart (λ i lt. (emptied_inside i lt)) emptied
          where
            emptied_inside : (i : ℕ) → i < length vs → get_or vs i 0 < length w.usage.segments
            emptied_inside i lt =
                let low = (may.each i lt).inside in
                let size = one.segments ∙ size_begun begun in
                omega (arith, low, size)

        pub spared_left : IsSparedBy (segments_open w) w
        spared_left =
            let pays = pays_there begun may w room_moved in
            let taken = one_open in
            let many = may.many in
            let size = one.segments ∙ size_begun begun in
            let more = gained in
            omega (arith, pays, taken, many, size, more)

        pub pass_done : {e : DeviceState} {w' : LogMemory} {version number : ℕ} → b.failures ≡ a.failures
            → CommitsOpen b e w w' version number → CleansIn a e v w' vs version number
        pass_done {e} {w'} unfailed saves =
            let back = saves.carries.kept_before in
            record {
              carries = carries_then one.carries saves.carries;
              memory = saves.memory;
              chunk = saves.chunk;
              dirty = saves.dirty;
              untaken = saves.untaken;
              segments = saves.segments ∙ one.segments ∙ size_begun begun;
              gains =
                  let gains = saves.gains in
                  let pays = pays_there begun may w room_moved in
                  let taken = one_open in
                  let more = gained in
                  omega (arith, gains, pays, taken, more);
              many = saves.many;
              cleaned = λ s is. at_one (λ (s : ℕ). used_of w'.usage s ≡ 0) vs s (λ i lt. saves.cleaned (get_or vs i 0) (emptied i lt)) is;
              no_failure = saves.no_failure ∙ unfailed;
              log = λ k m0 m keeps is. saves.log k m0 m keeps (saved_then k m0 m (back keeps) is);
              moment = moment_then e back saves.moment;
            }

      pub pass_stopped : {e : DeviceState} {version number : ℕ} → CommitFailsOpen b e w version number
          → CommitFailsIn (pass_orders (length v.usage.segments)) a e v version number
      pass_stopped {e} stops =
          let back = stops.carries.kept_before in
          record {
            carries = carries_then one.carries stops.carries;
            cause = λ k m0 m keeps is. (
                let rose = stops.cause k m0 m keeps (one.log k m0 m (back keeps) (begun_log begun may.nothing closed k m0 m is)) in
                let before = one.carries.failed_orders in
                omega (arith, rose, before));
            left = λ k m0 m keeps is. stops.left k m0 m keeps (saved_then k m0 m (back keeps) is);
            moment = moment_then e back stops.moment;
            told = told_saved (length e.told) stops.told;
          }

  -- a write failed as it was moved
  pub pass_halted : {version number : ℕ} → HaltsMoving a b w0 w (most_brought (length vs))
      → CommitFailsIn (pass_orders (length v.usage.segments)) a b v version number
  pass_halted halts =
      let stops = halts.stops in
      let none = ap length begun.nothing in
      record {
        carries = stops.carries;
        cause = λ k m0 m keeps is. stops.cause k m0 m keeps (begun_log begun may.nothing closed k m0 m is);
        left = λ k m0 m keeps is c left.
            inl (settled_stands b k m0 (stops.settled k m0 m keeps (begun_log begun may.nothing closed k m0 m is.log)) c left);
        moment = λ k m0 m keeps is. weaker (λ x. StandsOn (shape_of k) x m0) _ (λ x h. inl h)
            (stops.quiet k m0 m keeps (begun_log begun may.nothing closed k m0 m is.log));
        told =
            let tells = halts.tells in
            let room = halts.room in
            told_moving begun may w (omega (arith, room, none)) (length a.told) (length b.told) (omega (arith, tells, none));
      }

  -- the fault that ended it before its commit
  pub pass_fails : {S T : Type 0} {R : Memory → Memory → Type 0} {version number : ℕ} → IsLawful a → IsLawful b → (e : LogFault)
      → (let s : Result S LogFault = Err e in
      EndsMoving a b w0 w (most_brought (length vs)) 0 Anywhere R (λ M. OutNumber vs (most_brought (length vs)) M) s)
      → (let r : Result T LogFault = Err e in EndsPass a b v w vs version number r)
  pass_fails before after fault.Halted ends = let halts = pass_halted (ends.halted refl) in record {
    done = tt;
    stays = λ never. absurd (never refl);
    full = λ is. absurd (cc);
    failed = λ is. absurd (cc);
    halted = λ is. halts;
    told = halts.told;
  }
  pass_fails before after fault.Full ends = let moved = ends.moves (λ is. absurd (cc)) in record {
    done = tt;
    stays = λ never. stays_in moved before after;
    full = λ is. overfills b begun may closed (ends.full refl);
    failed = λ is. absurd (cc);
    halted = λ is. absurd (cc);
    told = told_moved moved;
  }
  pass_fails before after fault.Device ends = let moved = ends.moves (λ is. absurd (cc)) in record {
    done = tt;
    stays = λ never. stays_in moved before after;
    full = λ is. absurd (cc);
    failed = λ is k m0 m keeps log p. ends.failed refl k m0 m keeps (begun_log begun may.nothing closed k m0 m log) tt;
    halted = λ is. absurd (cc);
    told = told_moved moved;
  }

-- ---- how it ends behind its commit
module _ {T : Type 0} {a b : DeviceState} {v w : LogMemory} {vs : List ℕ} {version number : ℕ} where
  pub ends_cleaned : {x : T} → CleansIn a b v w vs version number → length b.told ≤ length a.told + pass_orders (length v.usage.segments)
      → (let r : Result T LogFault = Ok x in EndsPass a b v w vs version number r)
  ends_cleaned done told = record {
    done = done;
    stays = λ never. tt;
    full = λ is. absurd (cc);
    failed = λ is. absurd (cc);
    halted = λ is. absurd (cc);
    told = told;
  }

  pub ends_stopped : CommitFailsIn (pass_orders (length v.usage.segments)) a b v version number
      → (let r : Result T LogFault = Err fault.Halted in EndsPass a b v w vs version number r)
  ends_stopped stops = record {
    done = tt;
    stays = λ never. absurd (never refl);
    full = λ is. absurd (cc);
    failed = λ is. absurd (cc);
    halted = λ is. stops;
    told = stops.told;
  }

-- ---- the log behind it
module _ {D : Type 0} {state : D → DeviceState} where
  -- its memory takes the tables that the pass made
  pub cleans : {h : Held D} {device : D} {w : LogMemory} {t : TableValue} {c : Chunk} {vs : List ℕ} → t.blocks ≡ [] → c.names ≡ []
      → h.halted ≡ false → CleansIn (state h.device) (state device) h.memory w vs h.version h.number
      → Cleans state (seen h) (seen (record h {
        device = device;
        memory = beside w t c;
        number = h.number + 1;
        upgraded = false;
        saved = true;
      })) vs
  cleans {h} {device} {w} {t} {c} {vs} empty closed running done = record {
    carries = done.carries;
    running = running;
    number = refl;
    segments = done.segments;
    cleaned = done.cleaned;
    gains = done.gains;
    many = done.many;
    saved = refl;
    empty = nothing;
    untaken = done.untaken;
    no_failure = done.no_failure;
    holds = holds;
    left = λ k m0 m keeps is map.
        let n = holds k m0 m keeps is map in
        subst (λ (shape : Shape). AllLeft (state device) (λ c. StandsOn shape c (dropped m))) n.1
        (settled_stands (state device) n.0 (dropped m) n.2.log.running.settled);
    moment = λ k m0 m keeps is map. done.moment k m0 m keeps (acknowledged h is is.log map);
  }
    where
      after : Held D
      after =
          record h {
            device = device;
            memory = beside w t c;
            number = h.number + 1;
            upgraded = false;
            saved = true;
          }

      nothing : AreAllSaved (seen after)
      nothing = record { blocks = ap length empty; version = refl; sectors = done.untaken }

      holds : (k : CheckpointValue) (m0 m : LogMap) → (state device).keeps_model → Holds state (seen h) k m0 m → IsLogMap (dropped m)
          → (next : CheckpointValue) × (shape_of next ≡ shape_of k) × Holds state (seen after) next (dropped m) m
      holds k m0 m keeps is map =
          let n = done.log k m0 m keeps (acknowledged h is is.log map) in (
            n.0,
            n.3,
            record {
              log = log_beside w t c (empty ∙ sym done.dirty) done.chunk closed n.0 m n.2;
              segments = sym n.2.segments;
              number = n.1;
              version = is.version;
              fits = still_fits k n.0 h.version n.3 is.fits;
              running = running;
              nothing_new = λ all. refl;
              rest = λ all. record { nothing = nothing; untaken = done.untaken; many = done.many };
            },
          )

  -- where it was refused the next chunk begins in a clean segment, and nothing else changed
  pub pass_refused : {h : Held D} {device : D} {u : UsageTable} → IsLawful (state device) → u ≡ Ended h.memory.usage → IsMemory h.memory
      → h.memory.chunk.names ≡ [] → StaysIn (state h.device) (state device) h.memory
      → HoldsStill state (seen h) (seen (record h { device = device; memory = record h.memory { usage = u } }))
  pass_refused {h} {device} {u} lawful is memory closed stays = rw is (record {
    carries = stays.carries;
    halted = refl;
    number = refl;
    version = refl;
    upgraded = refl;
    saved = refl;
    unsaved = refl;
    totals = refl;
    segments = refl;
    clean = refl;
    emptied = refl;
    waiting = refl;
    file_data = refl;
    usage = refl;
    last = inr refl;
    holds = λ k m0 m keeps is. record {
      log = (ended_goes h.memory refl lawful memory closed).log k m0 m keeps (stays.log k m0 m keeps is.log);
      segments = is.segments;
      number = is.number;
      version = is.version;
      fits = is.fits;
      running = is.running;
      nothing_new = is.nothing_new;
      rest = λ all. ended_rest (is.rest all);
    };
    moment = λ k m0 m keeps is. stays.quiet k m0 m keeps is.log;
  })
    where
      ended_rest : IsAtRest (seen h)
          → IsAtRest (seen (record h { device = device; memory = record h.memory { usage = Ended h.memory.usage } }))
      ended_rest rest = record {
        nothing = record { blocks = rest.nothing.blocks; version = rest.nothing.version; sectors = rest.nothing.sectors };
        untaken = rest.untaken;
        many = rest.many;
      }
