-- Sectors that a call spares, and the log over a device where only others changed.
use Rattle.std.proofs.Common.{◌≡◌, ◌<◌, ◌≤◌, inl, inr, ◌+◌, ◌*◌, ℕ, Bool, List, [], length, refl, sym, ◌∙◌, ap, subst, arith}
use Rattle.std.proofs.Common.{Some, None, get_or-set_other}
use Rattle.lfs_model.specs.Checkpoint.{CheckpointValue}
use Rattle.lfs_model.specs.Content.{Content}
use Rattle.lfs_model.specs.Device.{DeviceState, Carries, IsLawful, cell_at, put}
use Rattle.lfs_model.specs.Reach.{segment_start}
use Rattle.lfs_model.specs.Settled.{IsFreeFrom}
use Rattle.lfs_model.specs.Stands.{LogMap}
use Rattle.lfs_model.specs.Summary.{BlockNameValue, summary_sector}
use Rattle.lfs_segments.specs.Table.{UsageTable, used_of, kept_of}
use Rattle.lfs_segments.specs.Chunk.{Chunk}
use Rattle.lfs_memory.specs.declared.memory.LogMemory.{LogMemory}
use Rattle.lfs_memory.specs.Memory.{IsLog, IsMemory, IsMemoryUpTo, Places}
use Rattle.lfs_memory.specs.Moving.{LieBefore, SameBefore, Spares}
use Rattle.lfs_memory.specs.Present.{Looks}
use Rattle.lfs_memory.proofs.Begun.{zero_or_more, long_names, room_left}
use Rattle.lfs_memory.proofs.Elsewhere.{running_elsewhere}
use Rattle.lfs_memory.proofs.Opened.{closed_chunk}

-- ---- calls in turn

pub spares_same : (d d' : DeviceState) {v v' : LogMemory} → v'.usage ≡ v.usage → v'.chunk ≡ v.chunk
    → (d'.keeps_model → d'.content ≡ d.content) → Spares d d' v v'
spares_same d d' {v} {v'} usage chunk content count before = (
  record {
    used = λ s. subst (λ (t : UsageTable). count s ≤ used_of t s) (sym usage) (before.used s);
    begun = subst (λ (c : Chunk). 0 < length c.names → count c.segment ≤ c.start) (sym chunk) before.begun;
  },
  λ keeps s place low within. ap (λ (e : Content). cell_at e (segment_start s + place)) (content keeps),
)

pub spares_none : (d : DeviceState) (v : LogMemory) → Spares d d v v
spares_none d v = spares_same d d {v = v} {v' = v} refl refl (λ keeps. refl)

pub spares_looked : {d d' : DeviceState} {v v' : LogMemory} → v'.usage ≡ v.usage → v'.chunk ≡ v.chunk → Looks d d' → Spares d d' v v'
spares_looked {d} {d'} usage chunk looks = spares_same d d' usage chunk (λ keeps. looks.untouched.content)

-- where only used blocks and the chunk are the same
pub spares_used : {d d' : DeviceState} {v v' : LogMemory} → ((s : ℕ) → used_of v'.usage s ≡ used_of v.usage s) → v'.chunk ≡ v.chunk
    → Looks d d' → Spares d d' v v'
spares_used {d} {d'} {v} {v'} used chunk looks count before = (
  record {
    used = λ s. let b = before.used s in let u = used s in omega (arith, b, u);
    begun = subst (λ (c : Chunk). 0 < length c.names → count c.segment ≤ c.start) (sym chunk) before.begun;
  },
  λ keeps s place low within. ap (λ (e : Content). cell_at e (segment_start s + place)) looks.untouched.content,
)

pub spares_then : (a b c : DeviceState) {v v' v'' : LogMemory} → Spares a b v v' → Spares b c v' v'' → (c.keeps_model → b.keeps_model)
    → Spares a c v v''
spares_then a b c one two back count before =
    let first = one count before in
    let second = two count first.0 in
    (second.0, λ keeps s place low within. second.1 keeps s place low within ∙ first.1 (back keeps) s place low within)

-- ---- one write

-- a write behind them spares them
written_elsewhere : (count : ℕ → ℕ) (e : Content) (seg at : ℕ) (bytes : List ℕ) → count seg ≤ at → at < 64 → (s place : ℕ)
    → place < count s → place < 64
    → cell_at (put e (2 + 64 * seg + at) bytes) (2 + 64 * s + place) ≡ cell_at e (2 + 64 * s + place)
written_elsewhere count e seg at bytes behind inside s place low within =
    get_or-set_other e (2 + 64 * seg + at) (2 + 64 * s + place) (Some bytes) None (λ here.
    (let same : s ≡ seg = omega (arith, here, inside, within) in
    let low' : place < count seg = subst (λ (i : ℕ). place < count i) same low in
    omega (arith, here, same, low', behind)))

-- the summary of the chunk that has begun
module _ {v : LogMemory} (d d' : DeviceState) (c : Chunk) (memory : IsMemoryUpTo 63 v) (some : 0 < length v.chunk.names)
    (ended : c.names ≡ [])
    (is_put : d'.keeps_model → d'.content ≡ put d.content (2 + 64 * v.chunk.segment + v.chunk.start) (summary_sector v.chunk.names)) where
  abbrev sealed : LogMemory
  sealed = record { map = v.map; usage = v.usage; dirty = v.dirty; chunk = c }

  pub sealed_spares : Spares d d' v sealed
  sealed_spares count before =
      let none = ap length ended in
      let short = memory.short some in (
        record {
          used = before.used;
          begun = λ begun. absurd (omega (arith, none, begun));
        },
        λ keeps s place low within.
            ap (λ (e : Content). cell_at e (2 + 64 * s + place)) (is_put keeps)
            ∙ written_elsewhere count d.content v.chunk.segment v.chunk.start (summary_sector v.chunk.names) (before.begun some)
            (omega (arith, short)) s place low within,
      )

-- a block that gets the next place
module _ {v v' : LogMemory} {name : BlockNameValue} {lives : Bool} {age place : ℕ} (memory : IsMemory v)
    (p : Places v v' name lives age place) (count : ℕ → ℕ) (before : LieBefore count v) where
  more_used : (s : ℕ) → used_of p.middle s ≤ used_of v'.usage s
  more_used s = grind arith

  middle_used : (s : ℕ) → used_of v.usage s ≤ used_of p.middle s
  middle_used s = elim (zero_or_more (length v.chunk.names)) [
    | inl none ↦ let b = p.begun none in grind arith
    | inr some ↦ let same = ap (λ (u : UsageTable). used_of u s) (p.went_on some).0 in omega (arith, same)
  ]

  -- the chunk is behind them
  behind : count v'.chunk.segment ≤ v'.chunk.start
  behind = elim (zero_or_more (length v.chunk.names)) [
    | inl none ↦
        let b = p.begun none in
        let used = p.opened.used in
        let long = long_names memory p in
        let noted = p.noted.used.own in
        let was = before.used v'.chunk.segment in
        elim b [
          | inl t ↦ let own = t.used.own in let clean = t.clean in omega (arith, used, long, none, noted, was, own, clean)
          | inr g ↦ let own = g.used.own in omega (arith, used, long, none, noted, was, own)
        ]
    | inr some ↦
        let w = p.went_on some in
        let b = before.begun some in
        let here = ap count w.1 in
        let start = w.2 in
        omega (arith, b, here, start)
  ]

  pub placed_before : LieBefore count v'
  placed_before = record {
    used = λ s. let a = before.used s in let b = middle_used s in let c = more_used s in omega (arith, a, b, c);
    begun = λ some. behind;
  }

  placed_behind : count v'.chunk.segment ≤ used_of p.middle v'.chunk.segment
  placed_behind = let a = before.used v'.chunk.segment in let b = middle_used v'.chunk.segment in omega (arith, a, b)

  pub placed_same : (d d' : DeviceState) (bytes : List ℕ) → (d'.keeps_model → d'.content ≡ put d.content place bytes)
      → SameBefore count d d'
  placed_same d d' bytes is_put keeps s o low within =
      ap (λ (e : Content). cell_at e (2 + 64 * s + o)) (is_put keeps ∙ ap (λ (a : ℕ). put d.content a bytes) p.address)
      ∙ written_elsewhere count d.content v'.chunk.segment (used_of p.middle v'.chunk.segment) bytes placed_behind
      (room_left memory p) s o low within

pub placed_spares : (d d' : DeviceState) {v v' : LogMemory} (w : LogMemory) {name : BlockNameValue} {lives : Bool} {age place : ℕ}
    (bytes : List ℕ) → IsMemory v → Places v v' name lives age place → w.usage ≡ v'.usage → w.chunk ≡ v'.chunk
    → (d'.keeps_model → d'.content ≡ put d.content place bytes) → Spares d d' v w
placed_spares d d' {v} {v'} w bytes memory p usage chunk is_put count before =
    let after = placed_before memory p count before in (
      record {
        used = λ s. subst (λ (t : UsageTable). count s ≤ used_of t s) (sym usage) (after.used s);
        begun = subst (λ (c : Chunk). 0 < length c.names → count c.segment ≤ c.start) (sym chunk) after.begun;
      },
      placed_same memory p count before d d' bytes is_put,
    )

-- ---- the log over a device where only others changed

-- where no chunk has begun, all that is in use lies before what is written next
pub used_before : (v : LogMemory) → v.chunk.names ≡ [] → LieBefore (used_of v.usage) v
used_before v closed = record {
  used = λ s. omega arith;
  begun = λ begun. absurd (let none = ap length closed in omega (arith, none, begun));
}

-- no sector comes or goes
pub same_length : {d d' : DeviceState} → IsLawful d → IsLawful d' → Carries d d' → length d'.content ≡ length d.content
same_length before after carries = after.size ∙ carries.size ∙ sym before.size

-- Where no chunk has begun: what w's log says of what is acknowledged there, v's does.
pub log_elsewhere : {d d' : DeviceState} {v : LogMemory} (w : LogMemory) {k : CheckpointValue} {m0 m : LogMap} → v.chunk.names ≡ []
    → (is : IsLog d v k m0 m) → IsLog d' w k m0 m → ((s : ℕ) → kept_of w.usage s ≡ kept_of v.usage s)
    → SameBefore (used_of v.usage) d d' → d'.keeps_model → length d'.content ≡ length d.content
    → (is' : IsLog d' v k m0 m) × (is'.running.memory ≡ is.running.memory)
log_elsewhere {d} {d'} {v} w {k} {m0} {m} closed is other kept same keeps size =
    let there = running_elsewhere (closed_chunk v.chunk (ap length closed)) is.running other.running.settled
    (λ s low. subst (IsFreeFrom d'.content k s) (kept s) (other.running.kept s low)) size (same keeps) in
    (record { running = there.0; hidden = is.hidden; segments = is.segments; unit = is.unit; tight = is.tight }, there.1)
