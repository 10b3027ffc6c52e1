-- A block of a file goes to the next place.
use Rattle.std.proofs.Common.{◌≡◌, ◌<◌, ℕ, zero, suc, Bool, true, false, not, List, [], ◌∷◌, ◌++◌, Option, Some, None, refl, sym, ◌∙◌, ap}
use Rattle.std.proofs.Common.{subst, arith}
use Rattle.std.specs.Prelude.{get_or}
use Rattle.lfs_model.specs.Committing.{IsWritten, place_of}
use Rattle.lfs_model.specs.Checkpoint.{CheckpointValue}
use Rattle.lfs_model.specs.Counting.{segment_of}
use Rattle.lfs_model.specs.Device.{DeviceState, MayWriteUnit, CrashWritesUnit, Carries, Elapses, IsLawful, put, left_new}
use Rattle.lfs_model.specs.Entry.{Entry, Data, Leaf, Double, Inode, Map, Usage, entry_of, entry_by}
use Rattle.lfs_model.specs.Stands.{LogMap}
use Rattle.lfs_model.specs.Summary.{BlockNameValue}
use Rattle.lfs_model.specs.Memory.{Memory, parent, file_of, is_shown, is_nameless}
use Rattle.lfs_model.specs.Running.{IsAddressed, IsLowest, Moves}
use Rattle.lfs_model.specs.Settled.{IsSettled}
use Rattle.lfs_model.proofs.Entries.{data_below, leaf_below, double_below}
use Rattle.lfs_model.proofs.Stepping.{stepping_to, stepping_tight}
use Rattle.lfs_inodes.specs.Blocks.{TableValue, blocks_of}
use Rattle.lfs_inodes.specs.Code.{kind_by}
use Rattle.lfs_inodes.specs.MapValue.{MapValue, is_hidden_in}
use Rattle.lfs_segments.specs.Chunk.{Chunk, entries_of}
use Rattle.lfs_segments.specs.Table.{UsageTable}
use Rattle.lfs_memory.specs.declared.memory.LogMemory.{LogMemory}
use Rattle.lfs_memory.specs.Memory.{IsMemory, IsLog, IsPointedAt, Places, GoesUpTo, Quiet, Stops, tables_by}
use Rattle.lfs_memory.proofs.Begun.{before, begun_to, noted, place_is, room_left, opened_after, segment_after, segments_same, unit_same}
use Rattle.lfs_memory.proofs.Begun.{memory_after}
use Rattle.lfs_memory.proofs.Begun.{free_place, placed_emptied}
use Rattle.lfs_memory.specs.Moving.{GoesOut, MovesOut}
use Rattle.lfs_memory.proofs.Opened.{as_chunk_to, stays_settled, stays_quiet}
use Rattle.lfs_memory.proofs.Rooms.{takes_place}
use Rattle.lfs_model.proofs.UnitWrites.{to_unit}

-- ---- keys name blocks of files
pub file_by : (r f i : ℕ) → file_of (entry_by (kind_by r) f i) ≡ Some f
file_by zero f i = refl
file_by (suc zero) f i = refl
file_by (suc (suc zero)) f i = refl
file_by (suc (suc (suc r))) f i = refl

-- a block of a file whose number is known lives as that file does
pub shows : (m : LogMap) (x : Entry) (n : ℕ) (hidden : Bool) → file_of x ≡ Some n → is_nameless m n ≡ hidden → not hidden ≡ is_shown m x
shows m x n hidden is same = ap not (sym same) ∙ sym (ap (λ (o : Option ℕ). elim o [ None ↦ true | Some n ↦ not (is_nameless m n) ]) is)

module _ {v v' : LogMemory} {name : BlockNameValue} {lives : Bool} {age place : ℕ} (memory : IsMemory v)
    (p : Places v v' name lives age place)
    {d d' : DeviceState} {bytes : List ℕ} (crash : CrashWritesUnit place bytes d d') (carries : Carries d d') (time : Elapses d d')
    (lawful : IsLawful d)
    (may : d'.keeps_model → MayWriteUnit d.unit place bytes d.content d'.content) where
  pub settled_step : (k : CheckpointValue) (m0 m : LogMap) → d'.keeps_model → IsLog d v k m0 m → IsSettled d' k m0
  settled_step k m0 m keeps is =
      stays_settled m0 place bytes is.running.settled (free_place memory p is) (may keeps) crash carries.unit

  pub quiet_step : Quiet d d' v
  quiet_step k m0 m keeps is =
      stays_quiet m0 place bytes is.running.settled (free_place memory p is) (may keeps) crash carries.unit lawful carries time

  pub place_stops : d.failed_orders < d'.failed_orders → Stops d d' v
  place_stops failed = record {
    carries = carries;
    cause = λ k m0 m keeps is. failed;
    settled = settled_step;
    quiet = quiet_step;
  }

module _ {v v' : LogMemory} {name : BlockNameValue} {lives : Bool} {age place : ℕ} (memory : IsMemory v)
    (p : Places v v' name lives age place)
    (x : Entry) {f : ℕ} (of_file : file_of x ≡ Some f) {map' : MapValue} (points : IsPointedAt v.map map' x place) where
  addressed : IsAddressed (before memory p) (tables_by map' v'.usage) x place
  addressed = record { own = own x of_file points; others = others }
    where
      own : (y : Entry) → file_of y ≡ Some f → IsPointedAt v.map map' y place → parent y ≡ y → (tables_by map' v'.usage).at y ≡ place
      own (Data n i) is points up = absurd (data_below n i up)
      own (Leaf n q) is points up = absurd (leaf_below n q up)
      own (Double n) is points up = absurd (double_below n up)
      own (Inode n) is points up = points.own n refl
      own (Map j) is points up = cc
      own (Usage j) is points up = cc

      others : (y : Entry) → parent y ≡ y → (y ≡ x → ⊥) → (tables_by map' v'.usage).at y ≡ (before memory p).at y
      others (Data n i) up ne = refl
      others (Leaf n q) up ne = refl
      others (Double n) up ne = refl
      others (Inode n) up ne = points.others n ne
      others (Map j) up ne = ap (λ (l : List ℕ). get_or l j 0) points.blocks
      others (Usage j) up ne = p.noted.blocks.address j

  module _ {d d' : DeviceState} (bytes : List ℕ) (dirty' : TableValue) (crash : CrashWritesUnit place bytes d d') (carries : Carries d d')
      (time : Elapses d d') (lawful : IsLawful d) where
    abbrev pub after : LogMemory
    after = record { map = map'; usage = v'.usage; dirty = dirty'; chunk = v'.chunk }

    module _ (is_put : d'.keeps_model → d'.content ≡ put d.content place bytes) (named : entry_of name ≡ x)
        (low : IsLowest (blocks_of v.dirty) x) (there : blocks_of v.dirty x ≡ Some bytes)
        (moves : Moves (blocks_of v.dirty) (blocks_of dirty') x place) (few : f < 4096) (hides : lives ≡ not (is_hidden_in v.map f)) where
      -- x goes out, to this segment
      pub file_moves : MovesOut d d' v after x
      file_moves k m0 m keeps is =
          let same_place = place_is memory p in
          let es = entries_of v.chunk in
          let begins = begun_to memory p is in
          let running = begins.0 in
          let moved : Moves (blocks_of v.dirty) (blocks_of dirty') x (place_of (before memory p)
          v'.chunk.segment) = rw same_place at moves in
          let next = stepping_to d d' (blocks_of v.dirty) _ (before memory p)
          (tables_by map' v'.usage) k m0 m v'.chunk.segment es x bytes running (room_left memory p) low there (is.tight x bytes there)
          (subst (λ (n : ℕ). IsWritten d d' n bytes) same_place (record { content = is_put keeps; crash = crash; unit = carries.unit }))
          moved (noted memory p is map' (hides ∙ shows m x f (is_hidden_in v.map f) of_file (is.hidden f few)) addressed) in
          let room = room_left memory p in
          let Out : Memory → Type 0 = λ (M : Memory). GoesOut is.running.memory M x × (segment_of (M.at x) ≡ v'.chunk.segment) in
          let out : Out next.0.memory = (
            record {
              was = sym (begins.1 x) ∙ next.1.0;
              now = let at = next.1.1 in omega (arith, at);
              others = λ y ne. next.1.2 y ne ∙ begins.1 y;
            },
            let at = next.1.1 in omega (arith, at, room),
          ) in
          let last = as_chunk_to Out (sym (segment_after memory p))
          (sym (opened_after memory p ∙ ap (λ (e : Entry). Some (es ++ e ∷ [])) named)) (next.0, out) in
          let done : IsLog d' after k m0 m = record {
            running = last.0;
            hidden = λ n lt. is.hidden n lt ∙ ap (λ (l : List Bool). get_or l n false) (sym points.hidden);
            segments = segments_same memory p ∙ is.segments;
            unit = unit_same memory p ∙ is.unit;
            tight = stepping_tight d _ _ (before memory p) k m0 m
                v'.chunk.segment es x bytes running (room_left memory p) there moved is.tight;
          } in
          (done, last.1)

      log : (k : CheckpointValue) (m0 m : LogMap) → d'.keeps_model → IsLog d v k m0 m → IsLog d' after k m0 m
      log k m0 m keeps is = (file_moves k m0 m keeps is).0

      pub file_goes : dirty'.capacity ≡ v.dirty.capacity → d'.failures ≡ d.failures → GoesUpTo 63 d d' v after 1
      file_goes capacity no_failure = record {
        carries = carries;
        memory = memory_after memory p map' dirty' capacity;
        segments = segments_same memory p;
        room = omega (arith, takes_place memory p);
        no_failure = no_failure;
        emptied = placed_emptied memory p;
        log = log;
        quiet = quiet_step memory p {bytes = bytes} crash carries time lawful
            (λ keeps. to_unit d.unit place bytes d.content d'.content (left_new (is_put keeps)));
      }

-- the same memory by other words
pub goes_to : (most : ℕ) {d d' : DeviceState} {v : LogMemory} (w : LogMemory) {usage : UsageTable} {dirty : TableValue} {chunk : Chunk}
    (n : ℕ)
    → w.usage ≡ usage → w.dirty ≡ dirty → w.chunk ≡ chunk
    → GoesUpTo most d d' v (record { map = w.map; usage = usage; dirty = dirty; chunk = chunk }) n → GoesUpTo most d d' v w n
goes_to most {d} {d'} {v} w {usage} {dirty} {chunk} n u t c goes =
    subst (λ (x : Chunk). GoesUpTo most d d' v (record { map = w.map; usage = w.usage; dirty = w.dirty; chunk = x }) n) (sym c)
    (subst (λ (x : TableValue). GoesUpTo most d d' v (record { map = w.map; usage = w.usage; dirty = x; chunk = chunk }) n) (sym t)
    (rw u goes))

pub moves_to : {d d' : DeviceState} {v : LogMemory} (w : LogMemory) {usage : UsageTable} {dirty : TableValue} {chunk : Chunk} (x : Entry)
    → w.usage ≡ usage → w.dirty ≡ dirty → w.chunk ≡ chunk
    → MovesOut d d' v (record { map = w.map; usage = usage; dirty = dirty; chunk = chunk }) x → MovesOut d d' v w x
moves_to {d} {d'} {v} w {usage} {dirty} {chunk} x u t c goes =
    subst (λ (y : Chunk). MovesOut d d' v (record { map = w.map; usage = w.usage; dirty = w.dirty; chunk = y }) x) (sym c)
    (subst (λ (y : TableValue). MovesOut d d' v (record { map = w.map; usage = w.usage; dirty = y; chunk = chunk }) x) (sym t)
    (rw u goes))
