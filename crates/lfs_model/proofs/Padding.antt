-- Entries behind the last block of a chunk, to whose sectors no address leads.
use Rattle.std.proofs.Common.{◌≡◌, ◌<◌, ◌≤◌, ⊎_elim, ◌+◌, ◌*◌, ◌-◌, ◌/◌, ◌%◌, true, false, ℕ, zero, suc, List, [], ◌∷◌, ◌++◌}
use Rattle.std.proofs.Common.{length, get_or, length-append, Some, None, refl, sym, ◌∙◌, ap, subst, arith}
use Rattle.std.proofs.lemmas.List.{get_or_append_left}
use Rattle.std.proofs.lemmas.Bool.{cases_eq}
use Rattle.lfs_model.specs.Entry.{Entry, Usage}
use Rattle.lfs_model.specs.Checkpoint.{CheckpointValue}
use Rattle.lfs_model.specs.Content.{Content}
use Rattle.lfs_model.specs.Device.{DeviceState}
use Rattle.lfs_model.specs.Reach.{Row, row_by}
use Rattle.lfs_model.specs.Stands.{LogMap}
use Rattle.lfs_model.specs.Memory.{Memory, is_shown, is_held}
use Rattle.lfs_model.specs.Laid.{IsLaid}
use Rattle.lfs_model.specs.Placing.{IsPadding, Padding}
use Rattle.lfs_model.specs.Running.{Dirty, Tables, SpellsUsage, Running, IsPadded}
use Rattle.lfs_model.specs.Committing.{PaddingChunk, PaddingTo}
use Rattle.lfs_model.proofs.Running.{pick, pick_yes, pick_no, row_end, row_length, kept_same, usage_kept, whole_beside}
use Rattle.lfs_model.proofs.Segments.{IsRowed, rowed, rowed_counts}

module _ (e : Content) (m : LogMap) (M : Memory) (s : ℕ) (laid : IsLaid e m M s) (x : Entry) (M' : Memory) (p : IsPadding M s x M') where
  longer : length (M'.rows s) ≡ length (M.rows s) + 1
  longer = ap length p.row ∙ length-append (M.rows s) (Some x ∷ [])

  kept_labels : (t at : ℕ) (y : Entry) → get_or (M.rows t) at None ≡ Some y → get_or (M'.rows t) at None ≡ Some y
  kept_labels t at y is = ⊎_elim
      (λ (here : t ≡ s). ap (λ (t : ℕ). get_or (M'.rows t) at None) here ∙ ap (λ (r : Row). get_or r at None) p.row
      ∙ labelled (M.rows s) at (ap (λ (t : ℕ). get_or (M.rows t) at None) (sym here) ∙ is))
      (λ (away : t ≡ s → ⊥). ap (λ (r : Row). get_or r at None) (p.rows t away) ∙ is)
      (cases_eq t s)
    where
      labelled : (r : Row) (at : ℕ) → get_or r at None ≡ Some y → get_or (r ++ Some x ∷ []) at None ≡ Some y
      labelled [] at is = let bad : None ≡ Some y = is in absurd (cc)
      labelled (z ∷ r) zero is = is
      labelled (z ∷ r) (suc at) is = labelled r at is

  is_rowed : IsRowed e M s M'
  is_rowed = record {
    segments = p.segments;
    at = p.at;
    bytes = p.bytes;
    named = λ y le. kept_labels ((M.at y - 2) / 64) ((M.at y - 2) % 64) y (laid.named y le);
    short = λ t. ⊎_elim
        (λ (here : t ≡ s). let l = ap (λ (t : ℕ). length (M'.rows t)) here in let n = longer in let r = p.room in omega arith)
        (λ (away : t ≡ s → ⊥). let l = ap length (p.rows t away) in let k = laid.short t in omega arith)
        (cases_eq t s);
    first = λ t. ⊎_elim
        (λ (here : t ≡ s).
        ap (λ (t : ℕ). get_or (M'.rows t) 0 None) here ∙ ap (λ (r : Row). get_or r 0 None) p.row
        ∙ get_or_append_left (M.rows s) (Some x ∷ []) None 0 p.some ∙ laid.first s)
        (λ (away : t ≡ s → ⊥). ap (λ (r : Row). get_or r 0 None) (p.rows t away) ∙ laid.first t)
        (cases_eq t s);
    sealed = λ t ne. subst (λ (r : Row). row_by e (length r) t ≡ Some r) (sym (p.rows t ne)) (laid.sealed t ne);
    past = λ t le. let i = p.inside in p.rows t (λ h. omega arith) ∙ laid.past t le;
  }

pub padding : Padding
padding e m M s x M' laid p =
    let is = is_rowed e m M s laid x M' p in
    (rowed e m M s laid s M' is, rowed_counts e m M s laid s M' is)

-- ---- and what that is to the log as it runs
module _ (d : DeviceState) (dirty : Dirty) (t t' : Tables) (k : CheckpointValue) (m0 m : LogMap) (s : ℕ) (es : List Entry) (x : Entry)
    (w : Running d dirty t k m0 m s (Some es)) (room : t.used s < 64) (go : IsPadded t t' s) where
  padded_memory : Memory
  padded_memory = record {
    segments = w.memory.segments;
    at = w.memory.at;
    bytes = w.memory.bytes;
    rows = λ i. pick (cases_eq i s) (w.memory.rows s ++ Some x ∷ []) (w.memory.rows i);
  }

  is_padding : IsPadding w.memory s x padded_memory
  unfolding padded_memory
  is_padding = record {
    segments = refl;
    inside = w.opened.inside;
    at = refl;
    bytes = refl;
    some = let l = row_length (w.memory.rows s) w.opened.before es w.opened.row in omega arith;
    room = let u = w.tables.used s in omega arith;
    row = pick_yes (cases_eq s s) (w.memory.rows s ++ Some x ∷ []) (w.memory.rows s) refl;
    rows = λ i ne. pick_no (cases_eq i s) (w.memory.rows s ++ Some x ∷ []) (w.memory.rows i) ne;
  }

  padded : Running d dirty t' k m0 m s (Some (es ++ x ∷ []))
  unfolding padded_memory
  padded =
      let o = padding d.content m w.memory s x padded_memory w.laid is_padding in
      record {
        memory = padded_memory;
        laid = o.0;
        segments = w.segments;
        settled = w.settled;
        cached = record { cached = w.cached.cached; found = w.cached.found };
        tables = record {
          at = λ y top. w.tables.at y top ∙ sym (go.at y);
          used = λ i. ⊎_elim
              (λ (here : i ≡ s). ap t'.used here ∙ go.used.own ∙ sym long_now ∙ ap (λ (i : ℕ). length (padded_memory.rows i)) (sym here))
              (λ (away : i ≡ s → ⊥). go.used.others i away ∙ w.tables.used i ∙ sym (ap length (is_padding.rows i away)))
              (cases_eq i s);
          live = λ i. go.live i ∙ w.tables.live i ∙ sym (o.1 (is_shown m) i);
          held = λ i. go.held i ∙ w.tables.held i ∙ sym (o.1 (is_held m) i);
        };
        fresh = λ j off low. usage_other j off low;
        part = part_now;
        whole = whole_beside k t t' s (suc (t.used s)) go.used w.whole;
        kept = kept_same d.content k t t' go.kept w.kept;
        opened = record {
          inside = w.opened.inside;
          before = w.opened.before;
          row = is_padding.row ∙ ap (λ (r : Row). r ++ Some x ∷ []) w.opened.row ∙ row_end w.opened.before es x;
          sealed = w.opened.sealed;
          free = let a = go.kept s in let b = w.opened.free in omega arith;
        };
      }
    where
      long_now : length (padded_memory.rows s) ≡ suc (t.used s)
      long_now = let u = w.tables.used s in let l = ap length is_padding.row ∙ length-append (w.memory.rows s) (Some x ∷ []) in omega arith

      part_now : (i : ℕ) → t'.kept i ≤ t'.used i
      part_now i =
          let a = go.kept i in
          let p = w.part i in
          ⊎_elim
          (λ (here : i ≡ s). let u = go.used.own in let v = ap t'.used here in let o = ap t.used here in omega arith)
          (λ (away : i ≡ s → ⊥). let u = go.used.others i away in omega arith)
          (cases_eq i s)

      -- a usage block that isn't stale says nothing of s
      usage_other : (j : ℕ) → t'.stale j ≡ false → j < (k.segments + 63) / 64 → SpellsUsage t' j (w.memory.bytes (Usage j))
      usage_other j off low =
          let away : j ≡ s / 64 → ⊥ = λ h. let bad : true ≡ false = sym go.stale.own ∙ ap t'.stale (sym h) ∙ off in absurd (cc) in
          let other : (i : ℕ) → i < 64 → 64 * j + i ≡ s → ⊥ = λ i lt h. away (omega arith) in
          usage_kept t t' j (w.memory.bytes (Usage j))
          (λ i lt. (go.used.others (64 * j + i) (other i lt), go.live (64 * j + i), go.age (64 * j + i)))
          (w.fresh j (sym (go.stale.others j away) ∙ off) low)

  padded_at : (y : Entry) → padded.memory.at y ≡ w.memory.at y
  unfolding padded padded_memory
  padded_at y = refl

pub padding_chunk : PaddingChunk
padding_chunk d dirty t t' k m0 m s es x w room go = padded d dirty t t' k m0 m s es x w room go

pub padding_to : PaddingTo
padding_to d dirty t t' k m0 m s es x w room go =
    (padded d dirty t t' k m0 m s es x w room go, padded_at d dirty t t' k m0 m s es x w room go)
