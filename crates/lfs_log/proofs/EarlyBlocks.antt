-- Blocks that are written between commits are counted as early.
use Rattle.std.proofs.Common.{◌≡◌, ◌<◌, ◌≤◌, ⊎_elim, ◌+◌, ◌==◌, cond, ℕ, Bool, Some, None, List, [], ◌∷◌, ◌++◌, length, refl, sym, ◌∙◌, ap}
use Rattle.std.proofs.Common.{arith, nat_lt}
use Rattle.lfs_model.specs.Summary.{BlockNameValue}
use Rattle.lfs_memory.specs.segments.Table.{UsageTable, used_of, kept_of, clean_in}
use Rattle.lfs_memory.specs.segments.Chunk.{Chunk, due_in, room_behind, room_in}
use Rattle.lfs_memory.specs.segments.Early.{early_in}
use Rattle.lfs_memory.specs.segments.Steps.{GoesOn, TakesSegment}
use Rattle.lfs_memory.specs.inodes.Blocks.{TableValue}
use Rattle.lfs_memory.specs.inodes.Data.{data_count}
use Rattle.lfs_memory.specs.declared.memory.LogMemory.{LogMemory}
use Rattle.lfs_model.specs.Device.{DeviceState, IsLawful}
use Rattle.lfs_memory.specs.Memory.{Goes, IsMemory, IsMemoryUpTo, Places, room_of}
use Rattle.lfs_memory.proofs.Going.{goes_none, goes_then}
use Rattle.lfs_memory.proofs.of_segments.Early.{early_noted, early_taken}
use Rattle.lfs_memory.proofs.Begun.{zero_or_more}
use Rattle.lfs_memory.proofs.Rooms.{room_none, room_some}
use Rattle.lfs_log.specs.Placing.{SavesBlocks, StopsSaving}
use Rattle.lfs_log.specs.Telling.{orders_due}
use Rattle.lfs_log.specs.Early.{GoesEarly, IsBegunFresh, IsFresh, WritesChunks, blocks_due}

-- nothing begins behind a segment that has room for no more than a summary
none_behind : (t : UsageTable) {s : ℕ} → t.last ≡ Some s → used_of t s ≡ 64 → room_behind t t.last ≡ 0
none_behind t last full = ap (room_behind t) last ∙ ap (λ (n : ℕ). cond {A = ℕ} (nat_lt n 63) 1 0) full

-- and one may, where there is more
some_behind : (t : UsageTable) {s : ℕ} → t.last ≡ Some s → used_of t s ≤ 62 → room_behind t t.last ≡ 0 → ⊥
some_behind t {s} last room none =
    let one = ap (room_behind t) last in
    let yes : cond {A = ℕ} (nat_lt (used_of t s) 63) 1 0 ≡ 1 = search (arith, room) in
    omega (arith, one, yes, none)

module _ (v v' : LogMemory) (name : BlockNameValue) (lives : Bool) (age place : ℕ) (fresh : IsFresh v)
    (p : Places v v' name lives age place) where
  no_names : (names : List BlockNameValue) → length names ≡ 0 → names ≡ []
  no_names [] none = refl
  no_names (x ∷ xs) none = absurd (omega (arith, none))

  -- the segment that the block goes to was clean, or the chunk stood in it
  taken : length v.chunk.names ≡ 0 → TakesSegment v.usage p.middle v'.chunk.segment age
  taken none = ⊎_elim
      (λ (takes : TakesSegment v.usage p.middle v'.chunk.segment age). takes)
      (λ (goes : GoesOn v.usage p.middle v'.chunk.segment age). absurd (some_behind v.usage
      (sym (p.noted.last ∙ goes.last) ∙ p.opened.last) goes.room (fresh.closed (no_names v.chunk.names none))))
      (p.begun none)

  kept_middle : kept_of p.middle v'.chunk.segment ≡ 0
  kept_middle = ⊎_elim
      (λ (none : length v.chunk.names ≡ 0). (taken none).free)
      (λ (some : 0 < length v.chunk.names). ap (λ (t : UsageTable). kept_of t v'.chunk.segment) (p.went_on some).0
      ∙ ap (kept_of v.usage) (p.went_on some).1 ∙ fresh.begun some)
      (zero_or_more (length v.chunk.names))

  early_middle : early_in p.middle.segments ≡ early_in v.usage.segments
  early_middle = ⊎_elim
      (λ (none : length v.chunk.names ≡ 0). early_taken (taken none))
      (λ (some : 0 < length v.chunk.names). ap (λ (t : UsageTable). early_in t.segments) (p.went_on some).0) (zero_or_more _)

  pub placed_fresh : IsBegunFresh v'
  placed_fresh = (some_names v.chunk.names p.names, p.noted.kept v'.chunk.segment ∙ kept_middle)
    where
      longer : (xs : List BlockNameValue) → 0 < length (xs ++ name ∷ [])
      longer [] = omega arith
      longer (x ∷ xs) = omega arith

      some_names : (xs : List BlockNameValue) → v'.chunk.names ≡ xs ++ name ∷ [] → 0 < length v'.chunk.names
      some_names xs is = rw is (longer xs)

  pub placed_early : early_in v'.usage.segments ≡ early_in v.usage.segments + 1
  placed_early =
      let inside = p.opened.inside in
      let size = p.noted.size in
      let noted = early_noted _ (omega (arith, inside, size)) kept_middle p.noted in
      let same = early_middle in
      omega (arith, noted, same)

-- A chunk that is full is sealed: behind it none begins.
pub sealed_fresh : {v v' : LogMemory} → IsMemoryUpTo 63 v → 0 < length v.chunk.names → v.chunk.start + length v.chunk.names ≡ 63
    → v'.usage ≡ v.usage → v'.chunk.names ≡ [] → IsFresh v'
sealed_fresh {v} {v'} memory some full same ended = record {
  closed = λ _. (
      let last = ap (λ (u : UsageTable). u.last) same ∙ (memory.opened some).last in
      let opened = (memory.opened some).used in
      let used : used_of v'.usage v.chunk.segment ≡ 64 = ap (λ (u : UsageTable). used_of u v.chunk.segment) same ∙ opened
      ∙ omega (arith, full) in
      none_behind v'.usage last used);
  begun = λ more. absurd (let none = ap length ended in omega (arith, more, none));
}

-- one that isn't goes on
pub begun_fresh : {v : LogMemory} → IsBegunFresh v → IsFresh v
begun_fresh is = record {
  closed = λ none. absurd (let some = is.0 in let zero = ap length none in omega (arith, some, zero));
  begun = λ _. is.1;
}

-- the same chunk and table
pub begun_same : (v v' : LogMemory) → v'.usage ≡ v.usage → v'.chunk ≡ v.chunk → IsBegunFresh v → IsBegunFresh v'
begun_same v v' usage chunk is = (
  rw chunk is.0,
  ap (λ (u : UsageTable). kept_of u v'.chunk.segment) usage ∙ ap (λ (c : Chunk). kept_of v.usage c.segment) chunk ∙ is.1,
)

-- A block went out, and perhaps the summary of its chunk.
pub goes_early : {v : LogMemory} (v' : LogMemory) {v'' : LogMemory} → IsFresh v'' → length v'.dirty.blocks + 1 ≡ length v.dirty.blocks
    → v''.dirty ≡ v'.dirty
    → v''.usage ≡ v'.usage
    → early_in v'.usage.segments ≡ early_in v.usage.segments + 1 → GoesEarly v v'' 1
goes_early v' fresh fewer dirty usage early =
    let blocks = ap (λ (t : TableValue). length t.blocks) dirty in
    let same = ap (λ (u : UsageTable). early_in u.segments) usage in
    record {
      fresh = fresh;
      fewer = omega (arith, fewer, blocks);
      due = omega (arith, fewer, blocks, same, early);
    }

-- one after the other
pub early_then : {a b c : LogMemory} (n l : ℕ) → GoesEarly a b n → GoesEarly b c l → GoesEarly a c (n + l)
early_then n l first second =
    let one = first.fewer in
    let two = second.fewer in
    record {
      fresh = second.fresh;
      fewer = omega (arith, one, two);
      due = second.due ∙ first.due;
    }

pub early_none : {v : LogMemory} → IsFresh v → GoesEarly v v 0
early_none fresh = record { fresh = fresh; fewer = omega arith; due = refl }

-- ---- the next chunk begins in a clean segment
abbrev pub Ended : UsageTable → UsageTable
Ended t = record t { last = None }

ended_now : (d : DeviceState) (v : LogMemory) → IsLawful d → IsMemory v → v.chunk.names ≡ []
    → Goes d d v (record v { usage = Ended v.usage }) 0
ended_now d v lawful memory closed =
    let same = goes_none v lawful memory in
    record {
      carries = same.carries;
      memory = record {
        count = memory.count;
        opened = λ some. absurd (let none = ap length closed in omega (arith, some, none));
        short = memory.short;
        usages = memory.usages;
        few = memory.few;
        unit = memory.unit;
      };
      segments = refl;
      room = omega arith;
      no_failure = refl;
      emptied = λ s is. record { used = is.used; before = is.before; live = is.live; held = is.held };
      log = λ k m0 m keeps is. record {
        running = is.running;
        hidden = is.hidden;
        segments = is.segments;
        unit = is.unit;
        tight = is.tight;
      };
      quiet = same.quiet;
    }

pub ended_goes : {d : DeviceState} (v : LogMemory) {u : UsageTable} → u ≡ Ended v.usage → IsLawful d → IsMemory v → v.chunk.names ≡ []
    → Goes d d v (record v { usage = u }) 0
ended_goes {d} v is lawful memory closed =
    rw is (ended_now d v lawful memory closed)

pub ended_fresh : (v : LogMemory) {u : UsageTable} → u ≡ Ended v.usage → v.chunk.names ≡ [] → IsFresh (record v { usage = u })
ended_fresh v is closed = rw is (record {
  closed = λ _. refl;
  begun = λ some. absurd (let none = ap length closed in omega (arith, some, none));
})

-- a chunk took a clean segment at most, where none was begun before it
pub one_segment : (v v' : LogMemory) → v.chunk.names ≡ [] → room_of v ≤ room_of v' + 63
    → clean_in v.usage.segments ≤ clean_in v'.usage.segments + 1
one_segment v v' closed room =
    let none = room_none v.chunk (ap length closed) in
    let few : room_in v'.chunk ≤ 62 = ⊎_elim
    (λ (z : length v'.chunk.names ≡ 0). let r = room_none v'.chunk z in omega (arith, r))
    (λ (some : 0 < length v'.chunk.names). let r = room_some v'.chunk some in omega (arith, r, some))
    (zero_or_more (length v'.chunk.names)) in
    omega (arith, none, few, room)

-- the orders that it gave, by those that were due
chunk_told : (v v' : LogMemory) {u : UsageTable} (t t' n : ℕ) → u ≡ Ended v.usage → v.chunk.names ≡ [] → room_of v ≤ room_of v' + 63
    → t' + clean_in v'.usage.segments ≤ t + due_in v.chunk u + clean_in u.segments + n → t' ≤ t + n + 1
chunk_told v v' {u} t t' n is closed room due =
    let one = one_segment v v' closed room in
    let gone : due_in v.chunk u ≡ 0 = ap (λ (names : List BlockNameValue). cond {A = ℕ} (length names == 0) (room_behind u u.last) 1) closed
    ∙ ap (λ (w : UsageTable). room_behind w w.last) is in
    let same = ap (λ (w : UsageTable). clean_in w.segments) is in
    omega (arith, one, gone, same, due)

-- of its blocks, and of what was left of it then
pub saved_told : {a b : DeviceState} (c : DeviceState) (v w' : LogMemory) {w : LogMemory} {u : UsageTable} {n p : ℕ} → u ≡ Ended v.usage
    → v.chunk.names ≡ [] → SavesBlocks a b (record v { usage = u }) w n p → n ≤ 63 → p ≤ 63
    → clean_in w'.usage.segments ≡ clean_in w.usage.segments
    → length c.told + clean_in w'.usage.segments ≤ orders_due b w → length c.told ≤ length a.told + 63 + 1
saved_told {a} c v w' {w} is closed saves few less same told =
    let tells = saves.tells in
    let room = saves.goes.room in
    let before = ap (λ (t : UsageTable). clean_in t.segments) is in
    chunk_told v w (length a.told) (length c.told) 63 is closed (omega (arith, before, room, few)) (omega (arith, tells, told, same, less))

-- and where a block wasn't saved
pub stopped_told : {a b : DeviceState} (v : LogMemory) {w : LogMemory} {u : UsageTable} {n p : ℕ} → u ≡ Ended v.usage → v.chunk.names ≡ []
    → StopsSaving a b (record v { usage = u }) w n p → n ≤ 63 → length b.told ≤ length a.told + p + 2
stopped_told {a} {b} v {w} {p} is closed stops few =
    let tells = stops.tells in
    let room = stops.room in
    let before = ap (λ (t : UsageTable). clean_in t.segments) is in
    let le = chunk_told v w (length a.told) (length b.told) (p + 1) is closed (omega (arith, before, room, few)) (omega (arith, tells)) in
    omega (arith, le)

-- as many blocks are unsaved: those that left memory are counted where they stand
pub chunk_due : (v v' v'' : LogMemory) {u : UsageTable} → u ≡ Ended v.usage → v''.dirty ≡ v'.dirty
    → early_in v''.usage.segments ≡ early_in v'.usage.segments
    → blocks_due v' ≡ length v.dirty.blocks + early_in u.segments → blocks_due v'' ≡ blocks_due v
chunk_due v v' v'' is dirty early due =
    let blocks = ap (λ (t : TableValue). length t.blocks) dirty in
    let before = ap (λ (w : UsageTable). early_in w.segments) is in
    omega (arith, blocks, early, before, due)

-- ---- chunk after chunk
pub chunks_none : {d : DeviceState} {v : LogMemory} → IsLawful d → IsMemory v → v.chunk.names ≡ [] → WritesChunks d d v v
chunks_none {d} {v} lawful memory closed = record {
  goes = (0, goes_none v lawful memory);
  closed = closed;
  capacity = refl;
  fewer = omega arith;
  only_data = refl;
  due = refl;
  taken = omega arith;
  told = omega arith;
}

pub chunks_more : {a b c : DeviceState} {u v w : LogMemory} (n : ℕ) → WritesChunks a b u v → Goes b c v w n → w.chunk.names ≡ []
    → w.dirty.capacity ≡ v.dirty.capacity
    → length w.dirty.blocks + 63 ≡ length v.dirty.blocks → data_count w.dirty + 63 ≡ data_count v.dirty → blocks_due w ≡ blocks_due v
    → clean_in v.usage.segments ≤ clean_in w.usage.segments + 1 → length c.told ≤ length b.told + 64 → WritesChunks a c u w
chunks_more {a} {b} {c} {u} {v} {w} n before goes closed capacity fewer gone due taken told =
    let more = before.fewer in
    let alone = before.only_data in
    let took = before.taken in
    let gave = before.told in
    record {
      goes = (before.goes.0 + n, goes_then before.goes.1 goes);
      closed = closed;
      capacity = capacity ∙ before.capacity;
      fewer = omega (arith, more, fewer);
      only_data = omega (arith, alone, fewer, gone);
      due = due ∙ before.due;
      taken = omega (arith, fewer, taken, took);
      told = omega (arith, fewer, told, gave);
    }
