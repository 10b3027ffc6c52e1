-- What the tables and the memory of a running log keep.
use Rattle.std.proofs.Common.{◌≡◌, ◌<◌, ◌≤◌, ◌⊎◌, inl, inr, ⊎_elim, ◌+◌, ◌*◌, ◌/◌, ◌%◌, ◌==◌, cond, Bool, true, false, ℕ, suc, List}
use Rattle.std.proofs.Common.{[], ◌∷◌, ◌++◌, length, map, Option, Some, None, refl, sym, ◌∙◌, ap, ap₂, subst, arith, length-append}
use Rattle.std.proofs.lemmas.List.{length-map}
use Rattle.std.proofs.lemmas.Bool.{cases_eq}
use Rattle.lfs_model.specs.Entry.{Entry}
use Rattle.lfs_model.specs.Content.{Content}
use Rattle.lfs_model.specs.Reach.{Row}
use Rattle.lfs_model.specs.Stands.{LogMap}
use Rattle.lfs_model.specs.Memory.{Memory, parent, is_shown, is_held, live_of, held_of}
use Rattle.lfs_model.specs.Laid.{IsLaid}
use Rattle.lfs_model.specs.Placing.{IsMoved, next_place}
use Rattle.lfs_model.specs.Lifting.{IsTaken}
use Rattle.lfs_model.specs.Counting.{segment_of}
use Rattle.lfs_model.specs.Running.{Tables, IsTables, SpellsUsage, IsSet, CountsUp, CountsDown, IsAddressed, IsNoted, IsLifted, IsOpenAt}
use Rattle.lfs_model.specs.Running.{AreWhole}
use Rattle.lfs_model.specs.Checkpoint.{CheckpointValue, unit_sectors}
use Rattle.lfs_model.specs.Settled.{IsFreeFrom}
use Rattle.lfs_model.proofs.Entries.{same_entry}
use Rattle.lfs_model.proofs.Counting.{moved_counts, taken_counts}

-- ---- one of two, by a test
pub pick : {A P : Type 0} → P ⊎ (P → ⊥) → A → A → A
pick (inl p) a b = a
pick (inr n) a b = b

pub pick_yes : {A P : Type 0} (o : P ⊎ (P → ⊥)) (a b : A) → P → pick o a b ≡ a
unfolding pick
pick_yes (inl p) a b h = refl
pick_yes (inr n) a b h = absurd (n h)

pub pick_no : {A P : Type 0} (o : P ⊎ (P → ⊥)) (a b : A) → (P → ⊥) → pick o a b ≡ b
unfolding pick
pick_no (inl p) a b h = absurd (h p)
pick_no (inr n) a b h = refl

pub map_end : (es : List Entry) (x : Entry) → map Some es ++ Some x ∷ [] ≡ map Some (es ++ x ∷ [])
map_end [] x = refl
map_end (y ∷ es) x = ap (λ (r : Row). Some y ∷ r) (map_end es x)

-- a row that ends with a summary and the blocks behind it
pub row_length : (r before : Row) (es : List Entry) → r ≡ before ++ None ∷ map Some es → length r ≡ length before + suc (length es)
row_length r before es is =
    ap length is ∙ length-append before (None ∷ map Some es)
    ∙ ap (λ (n : ℕ). length before + suc n) (length-map es (λ (x : Entry). Some x))

pub row_end : (before : Row) (es : List Entry) (x : Entry)
    → (before ++ None ∷ map Some es) ++ Some x ∷ [] ≡ before ++ None ∷ map Some (es ++ x ∷ [])
row_end [] es x = ap (λ (r : Row). None ∷ r) (map_end es x)
row_end (y ∷ before) es x = ap (λ (r : Row). y ∷ r) (row_end before es x)

-- ---- what a step keeps that doesn't write
pub part_same : (t t' : Tables) → ((s : ℕ) → t'.used s ≡ t.used s) → ((s : ℕ) → t'.kept s ≡ t.kept s) → ((s : ℕ) → t.kept s ≤ t.used s)
    → (s : ℕ) → t'.kept s ≤ t'.used s
part_same t t' used kept part s = let u = used s in let k = kept s in let p = part s in omega arith

pub whole_same : (k : CheckpointValue) (t t' : Tables) (seg : ℕ) → ((s : ℕ) → t'.used s ≡ t.used s) → AreWhole k t seg → AreWhole k t' seg
whole_same k t t' seg same whole s low away = ap (λ (n : ℕ). n % unit_sectors k) (same s) ∙ whole s low away

-- what is in use of the segment where the chunk stands may be another
pub whole_beside : (k : CheckpointValue) (t t' : Tables) (seg n : ℕ) → IsSet t.used t'.used seg n → AreWhole k t seg → AreWhole k t' seg
whole_beside k t t' seg n set whole s low away = ap (λ (n : ℕ). n % unit_sectors k) (set.others s away) ∙ whole s low away

-- the chunk begins in segment s, where no segment was open before
pub whole_begun : (k : CheckpointValue) (t t' : Tables) (none s n : ℕ) → k.segments ≤ none → IsSet t.used t'.used s n → AreWhole k t none
    → AreWhole k t' s
whole_begun k t t' none s n past set whole i low away =
    ap (λ (n : ℕ). n % unit_sectors k) (set.others i away) ∙ whole i low (λ h. omega (arith, past, low, h))

pub kept_same : (c : Content) (k : CheckpointValue) (t t' : Tables) → ((s : ℕ) → t'.kept s ≡ t.kept s)
    → ((s : ℕ) → s < k.segments → IsFreeFrom c k s (t.kept s))
    → (s : ℕ) → s < k.segments → IsFreeFrom c k s (t'.kept s)
kept_same c k t t' same kept s low = subst (IsFreeFrom c k s) (sym (same s)) (kept s low)

pub open_same : (e : Content) (M M' : Memory) (t t' : Tables) (seg : ℕ) (chunk : Option (List Entry)) → M'.segments ≡ M.segments
    → M'.rows seg ≡ M.rows seg → ((s : ℕ) → t'.kept s ≡ t.kept s)
    → IsOpenAt e M t seg chunk → IsOpenAt e M' t' seg chunk
open_same e M M' t t' seg None count row kept is = subst (λ (n : ℕ). n ≤ seg) (sym count) is
open_same e M M' t t' seg (Some es) count row kept is = record {
  inside = subst (λ (n : ℕ). seg < n) (sym count) is.inside;
  before = is.before;
  row = row ∙ is.row;
  sealed = is.sealed;
  free = let a = kept seg in let b = is.free in omega arith;
}

-- ---- the memory in which x has an address in the open segment, with these bytes
unfoldable pub moved_memory : Memory → Entry → ℕ → (Entry → List ℕ) → ℕ → Memory
moved_memory M x a bytes seg = record {
  segments = M.segments;
  at = λ y. pick (same_entry y x) a (M.at y);
  bytes = bytes;
  rows = λ s. pick (cases_eq s seg) (M.rows seg ++ Some x ∷ []) (M.rows s);
}

pub is_moved : (M : Memory) (x : Entry) (bytes : Entry → List ℕ) (seg : ℕ) → M.at x ≡ 1 → 0 < length (M.rows seg) → length (M.rows seg) < 64
    → seg < M.segments
    → IsMoved M seg x (moved_memory M x (next_place M seg) bytes seg)
unfolding moved_memory
is_moved M x bytes seg was begun room opened = record {
  was = was;
  begun = begun;
  room = room;
  opened = opened;
  segments = refl;
  at = pick_yes (same_entry x x) (next_place M seg) (M.at x) refl;
  others = λ y ne. pick_no (same_entry y x) (next_place M seg) (M.at y) ne;
  row = pick_yes (cases_eq seg seg) (M.rows seg ++ Some x ∷ []) (M.rows seg) refl;
  rows = λ s ne. pick_no (cases_eq s seg) (M.rows seg ++ Some x ∷ []) (M.rows s) ne;
}

-- and that in which x has none
unfoldable pub taken_memory : Memory → Entry → ℕ → (Entry → List ℕ) → Memory
taken_memory M x v bytes = record { segments = M.segments; at = λ y. pick (same_entry y x) v (M.at y); bytes = bytes; rows = M.rows }

pub is_taken : (M : Memory) (x : Entry) (v : ℕ) (bytes : Entry → List ℕ) → v ≤ 1 → IsTaken M x v (taken_memory M x v bytes)
unfolding taken_memory
is_taken M x v bytes least = record {
  segments = refl;
  least = least;
  at = pick_yes (same_entry x x) v (M.at x) refl;
  others = λ y ne. pick_no (same_entry y x) v (M.at y) ne;
  rows = refl;
}

-- ---- tables
counts_up : (b : Bool) (old new old' new' : ℕ → ℕ) (s : ℕ) → CountsUp b old new s → ((i : ℕ) → old i ≡ old' i)
    → (b ≡ true → new' s ≡ suc (old' s)) × ((i : ℕ) → (i ≡ s → ⊥) → new' i ≡ old' i) × (b ≡ false → (i : ℕ) → new' i ≡ old' i) → (i : ℕ)
    → new i ≡ new' i
counts_up true old new old' new' s up same counts i = ⊎_elim
    (λ (here : i ≡ s). ap new here ∙ up.own ∙ ap suc (same s) ∙ sym (counts.0 refl) ∙ sym (ap new' here))
    (λ (away : i ≡ s → ⊥). up.others i away ∙ same i ∙ sym (counts.1 i away))
    (cases_eq i s)
counts_up false old new old' new' s up same counts i = up i ∙ same i ∙ sym (counts.2 refl i)

counts_down : (b : Bool) (old new old' new' : ℕ → ℕ) (s : ℕ) → CountsDown b old new s → ((i : ℕ) → old i ≡ old' i)
    → (b ≡ true → old' s ≡ suc (new' s)) × ((i : ℕ) → (i ≡ s → ⊥) → new' i ≡ old' i) × (b ≡ false → (i : ℕ) → new' i ≡ old' i) → (i : ℕ)
    → new i ≡ new' i
counts_down true old new old' new' s down same counts i = ⊎_elim
    (λ (here : i ≡ s). ap new here ∙ less (new s) (new' s) (sym down.own ∙ same s ∙ counts.0 refl) ∙ sym (ap new' here))
    (λ (away : i ≡ s → ⊥). sym (down.others i away) ∙ same i ∙ sym (counts.1 i away))
    (cases_eq i s)
  where
    less : (a b : ℕ) → suc a ≡ suc b → a ≡ b
    less a b same = omega arith
counts_down false old new old' new' s down same counts i = down i ∙ same i ∙ sym (counts.2 refl i)

pub addressed : (t t' : Tables) (x : Entry) (a : ℕ) (M M' : Memory) → IsAddressed t t' x a → M'.at x ≡ a
    → ((y : Entry) → (y ≡ x → ⊥) → M'.at y ≡ M.at y) → ((y : Entry) → parent y ≡ y → M.at y ≡ t.at y)
    → (y : Entry) → parent y ≡ y → M'.at y ≡ t'.at y
addressed t t' x a M M' go own others was y top = ⊎_elim
    (λ (here : y ≡ x). ap M'.at here ∙ own ∙ sym (go.own (ap parent (sym here) ∙ top ∙ here)) ∙ ap t'.at (sym here))
    (λ (ne : y ≡ x → ⊥). others y ne ∙ was y top ∙ sym (go.others y top ne))
    (same_entry y x)

pub noted_tables : (e : Content) (m : LogMap) (M : Memory) (seg : ℕ) (x : Entry) (M' : Memory) (t t' : Tables) → IsLaid e m M seg
    → IsMoved M seg x M' → IsTables t m M → IsNoted m t t' x (next_place M seg) seg
    → IsTables t' m M'
noted_tables e m M seg x M' t t' laid p is go = record {
  at = addressed t t' x (next_place M seg) M M' go.at p.at p.others is.at;
  used = λ s. ⊎_elim
      (λ (here : s ≡ seg). ap t'.used here ∙ go.used.own ∙ ap suc (is.used seg) ∙ sym (ap length p.row
      ∙ length-append (M.rows seg) (Some x ∷ []) ∙ one (length (M.rows seg))) ∙ ap (λ (s : ℕ). length (M'.rows s)) (sym here))
      (λ (away : s ≡ seg → ⊥). go.used.others s away ∙ is.used s ∙ sym (ap length (p.rows s away)))
      (cases_eq s seg);
  live = counts_up (is_shown m x) t.live t'.live (live_of m M) (live_of m M') seg go.live is.live
      (moved_counts e m M seg x M' laid p (is_shown m));
  held = counts_up (is_held m x) t.held t'.held (held_of m M) (held_of m M') seg go.held is.held
      (moved_counts e m M seg x M' laid p (is_held m));
}
  where
    one : (n : ℕ) → n + 1 ≡ suc n
    one n = omega arith

pub lifted_tables : (e : Content) (m : LogMap) (M : Memory) (o : ℕ) (x : Entry) (v : ℕ) (M' : Memory) (t t' : Tables) → IsLaid e m M o
    → 2 ≤ M.at x → IsTaken M x v M' → IsTables t m M → IsLifted m t t' x v (segment_of (M.at x))
    → IsTables t' m M'
lifted_tables e m M o x v M' t t' laid above p is go = record {
  at = addressed t t' x v M M' go.at p.at p.others is.at;
  used = λ s. go.used s ∙ is.used s ∙ sym (ap (λ (r : ℕ → Row). length (r s)) p.rows);
  live = counts_down (is_shown m x) t.live t'.live (live_of m M) (live_of m M') (segment_of (M.at x)) go.live is.live
      (taken_counts e m M o x v M' laid above p (is_shown m));
  held = counts_down (is_held m x) t.held t'.held (held_of m M) (held_of m M') (segment_of (M.at x)) go.held is.held
      (taken_counts e m M o x v M' laid above p (is_held m));
}

-- ---- usage blocks that aren't stale
up_away : (b : Bool) (old new : ℕ → ℕ) (s i : ℕ) → CountsUp b old new s → (i ≡ s → ⊥) → new i ≡ old i
up_away true old new s i up ne = up.others i ne
up_away false old new s i up ne = up i

down_away : (b : Bool) (old new : ℕ → ℕ) (s i : ℕ) → CountsDown b old new s → (i ≡ s → ⊥) → new i ≡ old i
down_away true old new s i down ne = sym (down.others i ne)
down_away false old new s i down ne = down i

-- where the numbers of its segments stay, it stays right
pub usage_kept : (t t' : Tables) (j : ℕ) (b : List ℕ) → ((i : ℕ) → i < 64 → (t'.used (64 * j + i) ≡ t.used (64 * j + i))
    × (t'.live (64 * j + i) ≡ t.live (64 * j + i)) × (t'.age (64 * j + i) ≡ t.age (64 * j + i)))
    → SpellsUsage t j b → SpellsUsage t' j b
usage_kept t t' j b same is = record {
  long = is.long;
  used = λ i low. let s = same i low in is.used i low ∙ ap₂ (λ (l u : ℕ). cond (l == 0) 0 u) (sym s.1) (sym s.0);
  live = λ i low. is.live i low ∙ sym (same i low).1;
  age = λ i low. let s = same i low in is.age i low ∙ ap₂ (λ (l a : ℕ). cond (l == 0) 0 a) (sym s.1) (sym s.2);
}

-- a block that isn't stale isn't the one that has become so
not_it : (old new : ℕ → Bool) (s j : ℕ) → IsSet old new (s / 64) true → new j ≡ false
    → (old j ≡ false) × ((i : ℕ) → i < 64 → 64 * j + i ≡ s → ⊥)
not_it old new s j set off = (sym (set.others j ne) ∙ off, away)
  where
    ne : j ≡ s / 64 → ⊥
    ne h = let bad : true ≡ false = sym set.own ∙ ap new (sym h) ∙ off in absurd (cc)

    away : (i : ℕ) → i < 64 → 64 * j + i ≡ s → ⊥
    away i low is = ne (omega arith)

pub noted_fresh : (m : LogMap) (t t' : Tables) (x : Entry) (a s : ℕ) → IsNoted m t t' x a s → (j : ℕ) → t'.stale j ≡ false
    → (t.stale j ≡ false) × ((b : List ℕ) → SpellsUsage t j b → SpellsUsage t' j b)
noted_fresh m t t' x a s go j off =
    let no = not_it t.stale t'.stale s j go.stale off in (
      no.0,
      λ b. usage_kept t t' j b (λ i low. (
        go.used.others (64 * j + i) (no.1 i low),
        up_away (is_shown m x) t.live t'.live s (64 * j + i) go.live (no.1 i low),
        go.age (64 * j + i) (no.1 i low),
      )),
    )

pub lifted_fresh : (m : LogMap) (t t' : Tables) (x : Entry) (v : ℕ) {s : ℕ} → IsLifted m t t' x v s → (j : ℕ) → t'.stale j ≡ false
    → (t.stale j ≡ false) × ((b : List ℕ) → SpellsUsage t j b → SpellsUsage t' j b)
lifted_fresh m t t' x v {s} go j off =
    let no = not_it t.stale t'.stale s j go.stale off in (
      no.0,
      λ b. usage_kept t t' j b
          (λ i low.
          (go.used (64 * j + i), down_away (is_shown m x) t.live t'.live s (64 * j + i) go.live (no.1 i low), go.age (64 * j + i))),
    )
