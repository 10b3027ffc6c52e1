-- Steps of a pass that moves blocks, one after the other, and how they end.
use Rattle.std.proofs.Common.{◌≡◌, ◌<◌, ◌≤◌, ◌⊎◌, ⊎_elim, ◌+◌, ◌==◌, cond, nat_lt, ℕ, List}
use Rattle.std.proofs.Common.{[], ◌∷◌, length, get_or, Option, Some, None, refl, sym, ◌∙◌, ap}
use Rattle.std.proofs.Common.{subst, arith, inl, Bool}
use Rattle.std.proofs.lemmas.Bool.{cases_eq}
use Rattle.std.specs.Prelude.{Result, Ok, Err, IsErr, IsErrAnd}
use Rattle.lfs_model.specs.Checkpoint.{CheckpointValue, shape_of}
use Rattle.lfs_model.specs.Content.{Content}
use Rattle.lfs_model.specs.Crash.{StandsOn}
use Rattle.lfs_model.specs.Counting.{segment_of}
use Rattle.lfs_model.specs.Device.{DeviceState, IsLawful}
use Rattle.lfs_model.specs.Entry.{Entry}
use Rattle.lfs_model.specs.Memory.{Memory, IsOfFile}
use Rattle.lfs_model.proofs.Entries.{same_entry}
use Rattle.lfs_model.specs.Stands.{LogMap}
use Rattle.lfs_model.specs.Running.{IsLowest, IsTight}
use Rattle.lfs_model.proofs.Moments.{carries_then, goes_on, joined, started}
use Rattle.lfs_model.proofs.Settled.{settled_stands}
use Rattle.lfs_memory.specs.files.declared.fault.LogFault.{LogFault}
use Rattle.lfs_memory.specs.files.declared.fault.LogFault.TheVariants as fault
use Rattle.lfs_memory.specs.declared.memory.LogMemory.{LogMemory}
use Rattle.lfs_memory.specs.Memory.{HoldsVolume, IsLog, IsLoose, IsMemory, Quiet, room_of}
use Rattle.lfs_memory.specs.Present.{AnswersAddress, Looks}
use Rattle.lfs_memory.specs.inodes.Blocks.{Blocks, TableValue, blocks_in, blocks_of}
use Rattle.lfs_memory.specs.segments.Chunk.{Chunk, due_in, room_behind, room_in}
use Rattle.lfs_memory.specs.segments.Table.{UsageTable, used_of}
use Rattle.lfs_memory.specs.declared.lifting.LiftFault.{LiftFault}
use Rattle.lfs_memory.specs.declared.lifting.LiftFault.TheVariants as lift
use Rattle.lfs_memory.specs.Lifting.{EndsLifting, IsInMemory}
use Rattle.lfs_memory.specs.Moving.{ComesIn, GoesOut, HoldsOn, MovesIn, Spares, StaysPut}
use Rattle.lfs_memory.proofs.Looses.{loose, tight_again}
use Rattle.lfs_memory.proofs.Moved.{holds_looked}
use Rattle.lfs_memory.proofs.Presents.{looks_none}
use Rattle.lfs_memory.proofs.Spared.{spares_then, spares_used}
use Rattle.lfs_memory.proofs.Going.{ok_then}
use Rattle.lfs_log.specs.Brought.{IsOut, OutNumber}
use Rattle.lfs_log.specs.Groups.{IsAbove, closes_at}
use Rattle.lfs_log.specs.Moving.{BringsAbove, EndsMoving, HaltsMoving, HasMoved, IsStored, Lacks, Moved, StandsAmong, WhereLog}
use Rattle.lfs_log.specs.Cleaning.{AreCleanable, StayCleanable}
use Rattle.lfs_log.specs.Placing.{KeepsKept, SavesBlocks, StopsSaving}
use Rattle.lfs_log.specs.Relocating.{IsAmong, IsDataBlock, IsInOrder, IsNoBlock, Relocates}
use Rattle.lfs_log.proofs.CameIn.{no_data_above}
use Rattle.lfs_log.proofs.Cleaned.{at_one}
use Rattle.lfs_log.proofs.Relocated.{relocates_looks}
use Rattle.lfs_log.proofs.Bringing.{MayBring, brought_in, brought_later, brought_none, brought_out}
use Rattle.lfs_log.proofs.Bringing.{brought_still, out_in, out_number, out_out, out_still}
use Rattle.lfs_log.proofs.GroupOrder.{above_file, above_no_data, above_open, data_file, file_or_table}

pub on_then : {a b c : DeviceState} {v v' v'' : LogMemory} {P Q R : Memory → Memory → Type 0} → (c.keeps_model → b.keeps_model)
    → ((M M' M'' : Memory) → P M M' → Q M' M'' → R M M'') → HoldsOn a b v v' P → HoldsOn b c v' v'' Q → HoldsOn a c v v'' R
on_then back join one two k m0 m keeps is =
    let first = one k m0 m (back keeps) is in
    let second = two k m0 m keeps first.0 in
    (second.0, join is.running.memory first.0.running.memory second.0.running.memory first.1 second.1)

pub on_more : {a b : DeviceState} {v v' : LogMemory} {P Q : Memory → Memory → Type 0} → ((M M' : Memory) → P M M' → Q M M')
    → HoldsOn a b v v' P → HoldsOn a b v v' Q
on_more go one k m0 m keeps is =
    let first = one k m0 m keeps is in (first.0, go is.running.memory first.0.running.memory first.1)

module _ {a b c : DeviceState} {v v' : LogMemory} {left left1 : ℕ} (one : HasMoved a b v v' left left1) where
  quiet_behind : (c.keeps_model → b.keeps_model) → Quiet b c v' → Quiet a c v
  quiet_behind back quiet k m0 m keeps is =
      let P : Content → Type 0 = λ x. StandsOn (shape_of k) x m0 in
      joined P P P (one.quiet k m0 m (back keeps) is) (quiet k m0 m keeps (one.log k m0 m (back keeps) is)) (λ x h. h) (λ x h. h)

  pub moved_then : {v'' : LogMemory} {left2 : ℕ} → HasMoved b c v' v'' left1 left2 → HasMoved a c v v'' left left2
  moved_then two =
      let back = two.carries.kept_before in
      record {
        carries = carries_then one.carries two.carries;
        memory = two.memory;
        order = two.order;
        segments = two.segments ∙ one.segments;
        capacity = two.capacity ∙ one.capacity;
        kept = λ s. two.kept s ∙ one.kept s;
        cleanable = λ s is. two.cleanable s (one.cleanable s is);
        room = let x = one.room in let y = two.room in omega (arith, x, y);
        tells = let x = one.tells in let y = two.tells in omega (arith, x, y);
        spares = spares_then a b c one.spares two.spares back;
        quiet = quiet_behind back two.quiet;
        log = λ k m0 m keeps is. two.log k m0 m keeps (one.log k m0 m (back keeps) is);
      }

  pub halts_behind : {v'' : LogMemory} → HaltsMoving b c v' v'' left1 → HaltsMoving a c v v'' left
  halts_behind two =
      let back = two.stops.carries.kept_before in
      record {
        stops = record {
          carries = carries_then one.carries two.stops.carries;
          cause = λ k m0 m keeps is.
              (let before = one.carries.failed_orders in
              let rose = two.stops.cause k m0 m keeps (one.log k m0 m (back keeps) is) in
              omega (arith, before, rose));
          settled = λ k m0 m keeps is. two.stops.settled k m0 m keeps (one.log k m0 m (back keeps) is);
          quiet = quiet_behind back two.stops.quiet;
        };
        room = let x = one.room in let y = two.room in omega (arith, x, y);
        tells = let x = one.tells in let y = two.tells in omega (arith, x, y);
      }

  -- what a second function leaves, behind a first one that is done
  pub ends_then : {v'' : LogMemory} {left2 : ℕ} {P Q : Memory → Type 0} {One Two R : Memory → Memory → Type 0} {K L : Memory → Type 0}
      {T : Type 0} {r : Result T LogFault}
      → HoldsOn a b v v' One → b.failures ≡ a.failures
      → ((k : CheckpointValue) (m0 m : LogMap) (is : IsLog a v k m0 m) (is' : IsLog b v' k m0 m) → One is.running.memory is'.running.memory
      → P is.running.memory → Q is'.running.memory)
      → ((M M' M'' : Memory) → One M M' → Two M' M'' → R M M'')
      → ((k : CheckpointValue) (m0 m : LogMap) (is : IsLog a v k m0 m) (M' : Memory) → One is.running.memory M' → P is.running.memory
      → K M' → L is.running.memory)
      → EndsMoving b c v' v'' left1 left2 Q Two K r → EndsMoving a c v v'' left left2 P R L r
  ends_then {r = r} first same may join lacks two = let back = two.carries.kept_before in record {
    carries = carries_then one.carries two.carries;
    moves = λ ends. moved_then (two.moves ends);
    done = ok_then r _ _ (λ second. on_then back join first second) two.done;
    no_failure = ok_then r _ _ (λ next. next ∙ same) two.no_failure;
    failed = λ is k m0 m keeps log p.
        let so_far = first k m0 m (back keeps) log in
        let rose = two.failed is k m0 m keeps so_far.0 (may k m0 m log so_far.0 so_far.1 p) in
        omega (arith, rose, same);
    full = λ is k m0 m keeps log p.
        let so_far = first k m0 m (back keeps) log in
        lacks k m0 m log so_far.0.running.memory so_far.1 p
        (two.full is k m0 m keeps so_far.0 (may k m0 m log so_far.0 so_far.1 p));
    halted = λ is. halts_behind (two.halted is);
  }

  -- a second one that is done
  pub done_then : {v'' : LogMemory} {left2 : ℕ} {P : Memory → Type 0} {One Two R : Memory → Memory → Type 0} {L : Memory → Type 0}
      {T : Type 0} {x : T}
      → HoldsOn a b v v' One → b.failures ≡ a.failures
      → ((M M' M'' : Memory) → One M M' → Two M' M'' → R M M'')
      → HasMoved b c v' v'' left1 left2 → HoldsOn b c v' v'' Two → c.failures ≡ b.failures
      → (let r : Result T LogFault = Ok x in EndsMoving a c v v'' left left2 P R L r)
  done_then first same join two second next = record {
    carries = carries_then one.carries two.carries;
    moves = λ ends. moved_then two;
    done = on_then two.carries.kept_before join first second;
    no_failure = next ∙ same;
    failed = λ is. absurd (cc);
    full = λ is. absurd (cc);
    halted = λ is. absurd (cc);
  }

-- other words for what holds before and after
pub ends_as : {a b : DeviceState} {v v' : LogMemory} {left left' : ℕ} {P Q : Memory → Type 0} {R Two : Memory → Memory → Type 0}
    {L K : Memory → Type 0} {T : Type 0} {r : Result T LogFault}
    → ((k : CheckpointValue) (m0 m : LogMap) (is : IsLog a v k m0 m) → Q is.running.memory → P is.running.memory)
    → ((M M' : Memory) → R M M' → Two M M')
    → ((k : CheckpointValue) (m0 m : LogMap) (is : IsLog a v k m0 m) → L is.running.memory → K is.running.memory)
    → EndsMoving a b v v' left left' P R L r → EndsMoving a b v v' left left' Q Two K r
ends_as {r = r} may more lacks one = record {
  carries = one.carries;
  moves = one.moves;
  done = ok_then r _ _ (on_more more) one.done;
  no_failure = one.no_failure;
  failed = λ is k m0 m keeps log p. one.failed is k m0 m keeps log (may k m0 m log p);
  full = λ is k m0 m keeps log p. lacks k m0 m log (one.full is k m0 m keeps log (may k m0 m log p));
  halted = one.halted;
}

-- a function that is done
pub ends_done : {a b : DeviceState} {v v' : LogMemory} {left left' : ℕ} {P : Memory → Type 0} {R : Memory → Memory → Type 0}
    {L : Memory → Type 0} {T : Type 0} {x : T} → HasMoved a b v v' left left' → HoldsOn a b v v' R → b.failures ≡ a.failures
    → (let r : Result T LogFault = Ok x in EndsMoving a b v v' left left' P R L r)
ends_done moved on same = record {
  carries = moved.carries;
  moves = λ ends. moved;
  done = on;
  no_failure = same;
  failed = λ is. absurd (cc);
  full = λ is. absurd (cc);
  halted = λ is. absurd (cc);
}

-- one that a call of the device ended, or that found no block
pub ends_failed : {a b : DeviceState} {v v' : LogMemory} {left left' : ℕ} {P : Memory → Type 0} {R : Memory → Memory → Type 0}
    {L : Memory → Type 0} {T : Type 0} → HasMoved a b v v' left left' → WhereLog a b v P (λ M. a.failures < b.failures)
    → (let r : Result T LogFault = Err fault.Device in EndsMoving a b v v' left left' P R L r)
ends_failed moved failed = record {
  carries = moved.carries;
  moves = λ ends. moved;
  done = tt;
  no_failure = tt;
  failed = λ is. failed;
  full = λ is. absurd (cc);
  halted = λ is. absurd (cc);
}

-- one that may bring no block more
pub ends_full : {a b : DeviceState} {v v' : LogMemory} {left left' : ℕ} {P : Memory → Type 0} {R : Memory → Memory → Type 0}
    {L : Memory → Type 0} {T : Type 0} → HasMoved a b v v' left left' → WhereLog a b v P L
    → (let r : Result T LogFault = Err fault.Full in EndsMoving a b v v' left left' P R L r)
ends_full moved lacks = record {
  carries = moved.carries;
  moves = λ ends. moved;
  done = tt;
  no_failure = tt;
  failed = λ is. absurd (cc);
  full = λ is. lacks;
  halted = λ is. absurd (cc);
}

pub ends_halted : {a b : DeviceState} {v v' : LogMemory} {left left' : ℕ} {P : Memory → Type 0} {R : Memory → Memory → Type 0}
    {L : Memory → Type 0} {T : Type 0} → HaltsMoving a b v v' left
    → (let r : Result T LogFault = Err fault.Halted in EndsMoving a b v v' left left' P R L r)
ends_halted halts = record {
  carries = halts.stops.carries;
  moves = λ ends. absurd (ends refl);
  done = tt;
  no_failure = tt;
  failed = λ is. absurd (cc);
  full = λ is. absurd (cc);
  halted = λ is. halts;
}

-- the fault that ended one, which `?` passes on
pub ends_on : {a b : DeviceState} {v v' : LogMemory} {left left' : ℕ} {P : Memory → Type 0} {R Two : Memory → Memory → Type 0}
    {L : Memory → Type 0} {S T : Type 0} (r : Result T LogFault) (e : LogFault) → IsErr r × IsErrAnd r (λ y. y ≡ e)
    → (let s : Result S LogFault = Err e in EndsMoving a b v v' left left' P R L s) → EndsMoving a b v v' left left' P Two L r
ends_on (Ok x) e is one = absurd is.1
ends_on {T = T} (Err y) e is one = rw is.1 (record {
  carries = one.carries;
  moves = λ ends. one.moves (λ h. ends (let same : e ≡ fault.Halted = cc in ap Err same));
  done = tt;
  no_failure = tt;
  failed = λ h. one.failed (let same : e ≡ fault.Device = cc in ap Err same);
  full = λ h. one.full (let same : e ≡ fault.Full = cc in ap Err same);
  halted = λ h. one.halted (let same : e ≡ fault.Halted = cc in ap Err same);
})

-- ---- of what memory holds
pub moved_none : {victims : List ℕ} (left : ℕ) {group : ℕ} (group' : ℕ) → group ≤ group' → (M : Memory)
    → Moved victims left left group group' M M
moved_none left group' le M =
    record { passes = λ total M0 so_far. brought_later group' le so_far; out = λ x out. out; stored = λ y some. some }

pub moved_still : {victims : List ℕ} (left group : ℕ) {M M' : Memory} → StaysPut M M' → Moved victims left left group group M M'
moved_still {victims} left group {M} {M'} put = record {
  passes = λ total M0 so_far. brought_still put so_far;
  out = out_still victims M M' put;
  stored = λ y some. let same = put y in omega (arith, some, same);
}

pub moved_in : {victims : List ℕ} {left left' group : ℕ} {M M' : Memory} {x : Entry} → ComesIn M M' x → IsOfFile x
    → MayBring victims group M x → left' + 1 ≡ left → Moved victims left left' group group M M'
moved_in {victims} {M = M} {M' = M'} {x = x} comes file may fewer = record {
  passes = λ total M0 so_far. brought_in so_far x file comes.was may comes fewer;
  out = out_in victims file_or_table comes;
  stored = λ y some. ⊎_elim
      (λ (here : y ≡ x). let one = comes.now in let at = ap M'.at here in omega (arith, one, at))
      (λ (other : y ≡ x → ⊥). ⊎_elim
      (λ (own : IsOfFile y). let same = comes.others y own other in omega (arith, same, some))
      (λ (table : IsOfFile y → ⊥). ⊎_elim
      (λ (same : M'.at y ≡ M.at y). omega (arith, same, some))
      (λ (one : M'.at y ≡ 1). omega (arith, one))
      (comes.tables y table))
      (file_or_table y))
      (same_entry y x);
}

pub moved_out : {victims : List ℕ} (left : ℕ) {group : ℕ} (group' : ℕ) {M M' : Memory} {x : Entry} → group ≤ group' → closes_at x ≤ group'
    → GoesOut M M' x → (IsAmong victims (M'.at x) → ⊥) → Moved victims left left group group' M M'
moved_out {victims} left group' {M} {M'} {x} le closed goes outside = record {
  passes = λ total M0 so_far. brought_out (brought_later group' le so_far) goes outside closed;
  out = out_out victims goes outside;
  stored = λ y some. ⊎_elim
      (λ (here : y ≡ x). let up = goes.now in let at = ap M'.at here in omega (arith, up, at))
      (λ (other : y ≡ x → ⊥). let same = goes.others y other in omega (arith, same, some))
      (same_entry y x);
}

pub moved_join : {victims : List ℕ} {l l1 l2 g g1 g2 : ℕ} {M M1 M2 : Memory} → Moved victims l l1 g g1 M M1
    → Moved victims l1 l2 g1 g2 M1 M2
    → Moved victims l l2 g g2 M M2
moved_join one two = record {
  passes = λ total M0 so_far. two.passes total M0 (one.passes total M0 so_far);
  out = λ x out. two.out x (one.out x out);
  stored = λ y some. two.stored y (one.stored y some);
}

pub above_join : {victims : List ℕ} {l l1 l2 g : ℕ} {M M1 M2 : Memory} → BringsAbove victims l l1 g M M1 → BringsAbove victims l1 l2 g M1 M2
    → BringsAbove victims l l2 g M M2
above_join one two = record { moved = moved_join one.moved two.moved; same = λ y is. two.same y is ∙ one.same y is }

pub above_in : {victims : List ℕ} {left left' group : ℕ} {M M' : Memory} {x : Entry} → IsAbove group x → left' + 1 ≡ left → ComesIn M M' x
    → BringsAbove victims left left' group M M'
above_in {group = group} {x = x} above fewer comes = record {
  moved = moved_in comes (above_file group x above) (inl (above_open group x above)) fewer;
  same = λ y is. comes.others y (data_file y is) (λ h. above_no_data group x above (rw h at is));
}

-- as many as may come in did, and one more was wanted
pub lacks_one : {victims : List ℕ} {left group : ℕ} {M : Memory} (x : Entry) → IsOfFile x → MayBring victims group M x → left ≡ 0
    → 2 ≤ M.at x → Lacks victims left group M
lacks_one x file may none stands total M0 so_far = out_number so_far x file stands may none

pub lacks_behind : {victims : List ℕ} {l l1 g g1 : ℕ} {M M1 : Memory} → Moved victims l l1 g g1 M M1 → Lacks victims l1 g1 M1
    → Lacks victims l g M
lacks_behind one lacks total M0 so_far = lacks total M0 (one.passes total M0 so_far)

-- ---- a block that comes in
behind_same : (t t' : UsageTable) (o : Option ℕ) → ((s : ℕ) → used_of t' s ≡ used_of t s) → room_behind t' o ≡ room_behind t o
behind_same t t' None same = refl
behind_same t t' (Some s) same = ap (λ (u : ℕ). cond (nat_lt u 63) 1 0) (same s)

due_same : (c : Chunk) (t t' : UsageTable) → ((s : ℕ) → used_of t' s ≡ used_of t s) → t'.last ≡ t.last → due_in c t' ≡ due_in c t
due_same c t t' same last =
    ap (λ (n : ℕ). cond (length c.names == 0) n 1) (behind_same t t' t'.last same ∙ ap (room_behind t) last)

quiet_looked : (d d' : DeviceState) (v : LogMemory) → IsLawful d → Looks d d' → Quiet d d' v
quiet_looked d d' v lawful looks k m0 m keeps is =
    let P : Content → Type 0 = λ c. StandsOn (shape_of k) c m0 in
    let still = holds_looked {v = v} looks k m0 m keeps is in
    goes_on P (started P lawful (settled_stands d k m0 is.running.settled)) looks.carries looks.time
    (settled_stands d' k m0 still.0.running.settled)

pub moved_lifted : {d d' : DeviceState} {v v' : LogMemory} {left left' : ℕ} → IsLawful d → Relocates d d' v v' → IsInOrder v'.dirty
    → v'.usage.last ≡ v.usage.last → length v'.dirty.blocks + left' ≤ length v.dirty.blocks + left
    → ((k : CheckpointValue) (m0 m : LogMap) → d'.keeps_model → IsLog d v k m0 m → IsLog d' v' k m0 m) → HasMoved d d' v v' left left'
moved_lifted {d} {d'} {v} {v'} lawful one order last few log =
    let used = one.gathers.used in
    let kept = one.gathers.kept in
    let clean = one.clean in
    let chunk = ap room_in one.chunk in
    let due = ap (λ (c : Chunk). due_in c v'.usage) one.chunk ∙ due_same v.chunk v.usage v'.usage used last in
    let told = ap length one.looks.told in
    record {
      carries = one.looks.carries;
      memory = one.memory;
      order = order;
      segments = one.segments;
      capacity = one.capacity;
      kept = kept;
      cleanable = λ s is. record {
        inside = let size = one.segments in let low = is.inside in omega (arith, size, low);
        used = let u = used s in let some = is.used in omega (arith, u, some);
        before = kept s ∙ is.before ∙ sym (used s);
        apart = λ h. is.apart (sym last ∙ h);
      };
      room = omega (arith, clean, chunk, few);
      tells = omega (arith, told, due, clean, few);
      spares = spares_used used one.chunk one.looks;
      quiet = quiet_looked d d' v lawful one.looks;
      log = log;
    }

-- where no block came into the table, none of its blocks of pointers became empty
pub log_kept : {d d' : DeviceState} {v v' : LogMemory} → Relocates d d' v v' → v'.dirty ≡ v.dirty → (k : CheckpointValue) (m0 m : LogMap)
    → d'.keeps_model → IsLog d v k m0 m → IsLog d' v' k m0 m
log_kept {d} {v = v} one same k m0 m keeps is =
    tight_again (one.gathers.traces k m0 m keeps (loose d v k m0 m is)).0
    (subst (λ (t : TableValue). IsTight (blocks_of t)) (sym same) is.tight)

pub relocates_still : {d : DeviceState} (v : LogMemory) → IsMemory v → Relocates d d v v
relocates_still {d} v memory = relocates_looks v memory (looks_none d)

-- ---- a block that goes out
pub moved_saved : {d d' : DeviceState} {v v' : LogMemory} (left : ℕ) → SavesBlocks d d' v v' 1 1
    → length v'.dirty.blocks + 1 ≡ length v.dirty.blocks → v'.dirty.capacity ≡ v.dirty.capacity → IsInOrder v'.dirty
    → KeepsKept v v' → StayCleanable v v' → Spares d d' v v' → HasMoved d d' v v' left left
moved_saved left one fewer capacity order kept cleanable spares = record {
  carries = one.goes.carries;
  memory = one.goes.memory;
  order = order;
  segments = one.goes.segments;
  capacity = capacity;
  kept = kept;
  cleanable = λ s is. (cleanable s is).0;
  room = let room = one.goes.room in omega (arith, room, fewer);
  tells = let told = one.tells in omega (arith, told, fewer);
  spares = spares;
  quiet = one.goes.quiet;
  log = one.goes.log;
}

pub halts_saving : {d d' : DeviceState} {v v' : LogMemory} (left : ℕ) → 1 ≤ length v.dirty.blocks → StopsSaving d d' v v' 1 1
    → HaltsMoving d d' v v' left
halts_saving left some one = record {
  stops = one.stops;
  room = let room = one.room in omega (arith, room, some);
  tells = let told = one.tells in omega (arith, told, some);
}

-- it goes to none of these segments
pub placed_outside : (v v' : LogMemory) (victims : List ℕ) (at : ℕ) → AreCleanable v.usage victims → StayCleanable v v'
    → segment_of at ≡ v'.chunk.segment → IsAmong victims at → ⊥
placed_outside v v' victims at are stay place among =
    at_one (λ (s : ℕ). v'.chunk.segment ≡ s → ⊥) victims (segment_of at) (λ i lt. (stay (get_or victims i 0) (are i lt)).1) among
    (sym place)

-- ---- a block that may come in
pub stands_outside : {d : DeviceState} (v : LogMemory) {k : CheckpointValue} {m0 m : LogMap} (is : IsLog d v k m0 m) (x : Entry)
    → IsOfFile x → (IsInMemory v x → ⊥) → 0 < is.running.memory.at x → 2 ≤ is.running.memory.at x
stands_outside v is x file out some = ⊎_elim
    (λ (one : is.running.memory.at x ≡ 1). absurd (out (is.running.cached.found x file one)))
    (λ (other : is.running.memory.at x ≡ 1 → ⊥). omega (arith, some, other))
    (cases_eq (is.running.memory.at x) 1)

pub comes_new : (d d' : DeviceState) (v v' : LogMemory) (x : Entry) → (v' ≡ v) ⊎ MovesIn d d' v v' x → IsInMemory v' x
    → (IsInMemory v x → ⊥) → MovesIn d d' v v' x
comes_new d d' v v' x comes inside out = ⊎_elim
    (λ (same : v' ≡ v). absurd (out (rw (← same) inside)))
    (λ (moves : MovesIn d d' v v' x). moves)
    comes

-- one that isn't stored
pub none_stored : (d d' : DeviceState) (v v' : LogMemory) (x : Entry) → Looks d d' → v' ≡ v → IsNoBlock d' v' x
    → WhereLog d d' v (IsStored x) (λ M. d.failures < d'.failures)
none_stored d d' v v' x looks same none k m0 m keeps is stored =
    let still = holds_looked {v = v} looks k m0 m keeps is in
    let zero_there : still.0.running.memory.at x ≡ 0 = (subst (λ (w : LogMemory). IsNoBlock d' w x) same none) k m0 m keeps (record {
      running = still.0.running;
      hidden = still.0.hidden;
      segments = still.0.segments;
      unit = still.0.unit;
    }) in
    let at = still.1 x in
    absurd (omega (arith, stored, zero_there, at))

-- a lift that failed, where memory had room
pub lift_failed : (d d' : DeviceState) (v v' : LogMemory) (P : Memory → Type 0) (e : LiftFault)
    → (let r : Result Bool LiftFault = Err e in EndsLifting d d' v v' r) → v'.dirty ≡ v.dirty
    → length v.dirty.blocks < v.dirty.capacity.limit → WhereLog d d' v P (λ M. d.failures < d'.failures)
lift_failed d d' v v' P lift.Full ends same room k m0 m keeps is p =
    let full = ends.full refl in
    let blocks = ap (λ (t : TableValue). length t.blocks) same in
    let limit = ap (λ (t : TableValue). t.capacity.limit) same in
    absurd (omega (arith, full, blocks, limit, room))
lift_failed d d' v v' P lift.Device ends same room k m0 m keeps is p = ends.failed refl k m0 m keeps (loose d v k m0 m is)

-- ---- calls that only look, and blocks of data
pub moved_looked : {d d' : DeviceState} (v : LogMemory) (left : ℕ) → IsLawful d → IsMemory v → IsInOrder v.dirty → Looks d d'
    → HasMoved d d' v v left left
moved_looked v left lawful memory order looks =
    moved_lifted lawful (relocates_looks v memory looks) order refl (omega arith)
    (λ k m0 m keeps is. (holds_looked {v = v} looks k m0 m keeps is).0)

pub inside_some : (v : LogMemory) (x : Entry) → IsInMemory v x → 1 ≤ length v.dirty.blocks
inside_some v x is = by v.dirty.blocks is.1
  where
    by : (bs : Blocks) → blocks_in bs x ≡ Some is.0 → 1 ≤ length bs
    by [] there = absurd (cc)
    by (b ∷ bs) there = omega arith

pub data_lowest : (v : LogMemory) (x : Entry) → IsDataBlock x → IsInMemory v x → IsLowest (blocks_of v.dirty) x
data_lowest v x own is =
    record { bytes = is.0; there = is.1; lowest = λ y b up there. absurd (no_data_above y x (sym up) own) }

-- so many places are left as may be needed
pub room_after : {d d' : DeviceState} {v v' : LogMemory} {left left' : ℕ} → HasMoved d d' v v' left left'
    → length v.dirty.blocks + left ≤ room_of v → length v'.dirty.blocks + left' ≤ room_of v'
room_after moved spare = let room = moved.room in omega (arith, room, spare)

pub volume_after : {d d' : DeviceState} {v v' : LogMemory} {left left' : ℕ} → HasMoved d d' v v' left left' → HoldsVolume d v
    → HoldsVolume d' v'
volume_after moved size = let segments = moved.segments in let same = moved.carries.size in omega (arith, segments, same, size)

pub cleanable_after : {d d' : DeviceState} {v v' : LogMemory} {left left' : ℕ} (victims : List ℕ) → HasMoved d d' v v' left left'
    → AreCleanable v.usage victims → AreCleanable v'.usage victims
cleanable_after victims moved are i lt = moved.cleanable (get_or victims i 0) (are i lt)

-- ---- a block that was looked for
unfoldable pub loose_of : {d : DeviceState} {v : LogMemory} {k : CheckpointValue} {m0 m : LogMap} → IsLog d v k m0 m → IsLoose d v k m0 m
loose_of is = record { running = is.running; hidden = is.hidden; segments = is.segments; unit = is.unit }

module _ (d d' : DeviceState) (v : LogMemory) (x : Entry) (address : ℕ) (victims : List ℕ) (looks : Looks d d')
    (answer : AnswersAddress d d' v x address) where
  pub stands_looked : 2 ≤ address → IsAmong victims address
      → HoldsOn d d' v v (λ (M M' : Memory). StaysPut M M' × StandsAmong victims x M')
  stands_looked above among k m0 m keeps is =
      let still = holds_looked {v = v} looks k m0 m keeps is in
      let at : still.0.running.memory.at x ≡ address = still.1 x ∙ answer k m0 m keeps (record {
        running = is.running;
        hidden = is.hidden;
        segments = is.segments;
        unit = is.unit;
      }) in
      (still.0, (still.1, (omega (arith, at, above), rw at among)))

  pub leaves_looked : (2 ≤ address → IsAmong victims address → ⊥)
      → HoldsOn d d' v v (λ (M M' : Memory). StaysPut M M' × IsOut victims M' x)
  leaves_looked outside k m0 m keeps is =
      let still = holds_looked {v = v} looks k m0 m keeps is in
      let at : still.0.running.memory.at x ≡ address = still.1 x ∙ answer k m0 m keeps (record {
        running = is.running;
        hidden = is.hidden;
        segments = is.segments;
        unit = is.unit;
      }) in
      (still.0, (still.1, λ up among. outside (omega (arith, at, up)) (rw at at among)))

-- ---- a second function that isn't done
module _ {a b c : DeviceState} {v v' : LogMemory} {left left1 : ℕ} (one : HasMoved a b v v' left left1) where
  pub fails_then : (One : Memory → Memory → Type 0) {v'' : LogMemory} {left2 : ℕ} {P Q : Memory → Type 0}
      {Two R : Memory → Memory → Type 0} {K L : Memory → Type 0} {S T : Type 0} (r : Result T LogFault) (e : LogFault) → IsErr r ×
      IsErrAnd r (λ y. y ≡ e)
      → HoldsOn a b v v' One → b.failures ≡ a.failures
      → ((k : CheckpointValue) (m0 m : LogMap) (is : IsLog a v k m0 m) (is' : IsLog b v' k m0 m) → One is.running.memory is'.running.memory
      → P is.running.memory → Q is'.running.memory)
      → ((k : CheckpointValue) (m0 m : LogMap) (is : IsLog a v k m0 m) (M' : Memory) → One is.running.memory M' → P is.running.memory
      → K M' → L is.running.memory)
      → (let s : Result S LogFault = Err e in EndsMoving b c v' v'' left1 left2 Q Two K s) → EndsMoving a c v v'' left left2 P R L r
  fails_then One r e is first same may lacks two =
      ends_on r e is (ends_then one {One = One} {R = λ (M M' : Memory). Unit {0}} first same may (λ M M' M'' r go. tt) lacks two)

pub moved_less : {d d' : DeviceState} {v v' : LogMemory} {left left' : ℕ} (least : ℕ) → least ≤ left' → HasMoved d d' v v' left left'
    → HasMoved d d' v v' left least
moved_less least le one = record {
  carries = one.carries;
  memory = one.memory;
  order = one.order;
  segments = one.segments;
  capacity = one.capacity;
  kept = one.kept;
  cleanable = one.cleanable;
  room = let room = one.room in omega (arith, room, le);
  tells = let tells = one.tells in omega (arith, tells, le);
  spares = one.spares;
  quiet = one.quiet;
  log = one.log;
}

pub ends_less : {d d' : DeviceState} {v v' : LogMemory} {left left' : ℕ} (least : ℕ) → least ≤ left' → {P : Memory → Type 0}
    {R : Memory → Memory → Type 0} {L : Memory → Type 0} {T : Type 0} {r : Result T LogFault}
    → EndsMoving d d' v v' left left' P R L r → EndsMoving d d' v v' left least P R L r
ends_less least le one = record {
  carries = one.carries;
  moves = λ ends. moved_less least le (one.moves ends);
  done = one.done;
  no_failure = one.no_failure;
  failed = one.failed;
  full = one.full;
  halted = one.halted;
}

-- no block of a file is in memory
pub none_in : {d : DeviceState} {v : LogMemory} {k : CheckpointValue} {m0 m : LogMap} (is : IsLog d v k m0 m) → v.dirty.blocks ≡ []
    → (x : Entry) → IsOfFile x → is.running.memory.at x ≡ 1 → ⊥
none_in {v = v} is nothing x file one =
    let there = is.running.cached.found x file one in
    let some = inside_some v x there in
    let none = ap length nothing in
    absurd (omega (arith, some, none))

pub moved_as : {victims : List ℕ} {l l' g g' : ℕ} {M M' : Memory} → g ≡ g' → Moved victims l l' g g M M' → Moved victims l l' g' g' M M'
moved_as {victims} {l} {l'} {M = M} {M' = M'} same one = subst (λ (n : ℕ). Moved victims l l' n n M M') same one

pub lacks_all : {victims : List ℕ} {most left group : ℕ} {d : DeviceState} {v : LogMemory} {k : CheckpointValue} {m0 m : LogMap}
    {M' : Memory} (is : IsLog d v k m0 m) → v.dirty.blocks ≡ [] → Moved victims most left 0 group is.running.memory M'
    → Lacks victims left group M' → OutNumber victims most is.running.memory
lacks_all {most = most} is nothing one lacks =
    lacks most is.running.memory (one.passes most is.running.memory (brought_none most (none_in is nothing)))
