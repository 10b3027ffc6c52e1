-- A device that differs behind the blocks in use alone: the log that runs over the one runs over the other.
use Rattle.std.proofs.Common.{◌≡◌, ◌<◌, ◌≤◌, ◌+◌, ◌*◌, ◌/◌, ◌%◌, ◌-◌, ⊎_elim, ℕ, List, length, get_or, Option, Some, None}
use Rattle.std.proofs.Common.{refl, sym, ◌∙◌, ap, subst, arith}
use Rattle.std.proofs.lemmas.List.{get_or_past}
use Rattle.std.proofs.lemmas.Bool.{cases_lt}
use Rattle.lfs_model.specs.Checkpoint.{CheckpointValue}
use Rattle.lfs_model.specs.Content.{Content, block, bytes_of}
use Rattle.lfs_model.specs.Device.{DeviceState, cell_at}
use Rattle.lfs_model.specs.Entry.{Entry}
use Rattle.lfs_model.specs.Laid.{IsLaid}
use Rattle.lfs_model.specs.Memory.{Memory}
use Rattle.lfs_model.specs.Reach.{Row, segment_start, row_by}
use Rattle.lfs_model.specs.Running.{Dirty, Tables, Running, IsOpenAt}
use Rattle.lfs_model.specs.Settled.{IsSettled, IsFreeFrom}
use Rattle.lfs_model.specs.Stands.{LogMap}
use Rattle.lfs_model.proofs.Tables.{block_at, row_kept}

-- these sectors of each segment have what they had
abbrev pub SameIn : (ℕ → ℕ) → Content → Content → Type 0
SameIn used c d = (s place : ℕ) → place < used s → place < 64 → cell_at d (segment_start s + place) ≡ cell_at c (segment_start s + place)

-- a place that a row names is one of it
within_row : (r : Row) (o : ℕ) (x : Entry) → get_or r o None ≡ Some x → o < length r
within_row r o x is = ⊎_elim
    (λ (low : o < length r). low)
    (λ (past : length r ≤ o). let bad : None ≡ Some x = sym (get_or_past r o None past) ∙ is in absurd (cc))
    (cases_lt o (length r))

module _ {c : Content} (d : Content) {m : LogMap} {M : Memory} {none : ℕ} (laid : IsLaid c m M none) (size : length d ≡ length c)
    (used : ℕ → ℕ) (rows : (s : ℕ) → used s ≡ length (M.rows s)) (same : SameIn used c d) where
  there_still : (x : Entry) → 2 ≤ M.at x → block d (M.at x) ≡ M.bytes x
  there_still x le =
      let s : ℕ = (M.at x - 2) / 64 in
      let o : ℕ = (M.at x - 2) % 64 in
      let low = within_row (M.rows s) o x (laid.named x le) in
      let at : 2 + 64 * s + o ≡ M.at x = omega arith in
      let cell = same s o (omega (arith, low, rows s)) (omega arith) in
      block_at d (M.at x) (omega arith)
      ∙ ap bytes_of (ap (cell_at d) (sym at) ∙ cell ∙ ap (cell_at c) at)
      ∙ sym (block_at c (M.at x) (omega arith))
      ∙ laid.there x le

  sealed_still : (s : ℕ) → (s ≡ none → ⊥) → row_by d (length (M.rows s)) s ≡ Some (M.rows s)
  sealed_still s ne =
      row_kept c d s (M.rows s) (laid.short s) size
      (λ o low blank. same s o (omega (arith, low, rows s)) (omega (arith, low, laid.short s)))
      (laid.sealed s ne)

  pub laid_elsewhere : IsLaid d m M none
  laid_elsewhere = record {
    size = omega (arith, laid.size, size);
    few = laid.few;
    blocks = laid.blocks;
    inodes = laid.inodes;
    down = laid.down;
    low = laid.low;
    some = laid.some;
    up = laid.up;
    long = laid.long;
    spells = laid.spells;
    mapped = laid.mapped;
    usages = laid.usages;
    there = there_still;
    within = laid.within;
    named = laid.named;
    short = laid.short;
    first = laid.first;
    sealed = sealed_still;
    past = laid.past;
  }

-- Where no chunk has begun, and the other device is settled for the same checkpoint.
pub running_elsewhere : {d d' : DeviceState} {dirty : Dirty} {t : Tables} {k : CheckpointValue} {m0 m : LogMap} {seg : ℕ}
    {chunk : Option (List Entry)} → chunk ≡ None
    → (w : Running d dirty t k m0 m seg chunk) → IsSettled d' k m0
    → ((s : ℕ) → s < k.segments → IsFreeFrom d'.content k s (t.kept s)) → length d'.content ≡ length d.content
    → SameIn t.used d.content d'.content
    → (w' : Running d' dirty t k m0 m seg chunk) × (w'.memory ≡ w.memory)
running_elsewhere {d} {d'} {dirty} {t} {k} {m0} {m} {seg} {chunk} closed w settled kept size same = (
  record {
    memory = w.memory;
    laid = laid_elsewhere d'.content w.laid size t.used w.tables.used same;
    segments = w.segments;
    settled = settled;
    cached = w.cached;
    tables = w.tables;
    fresh = w.fresh;
    part = w.part;
    whole = w.whole;
    kept = kept;
    opened = subst (IsOpenAt d'.content w.memory t seg) (sym closed) (subst (IsOpenAt d.content w.memory t seg) closed w.opened);
  },
  refl,
)
