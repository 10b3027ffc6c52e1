-- A mount's log runs.
use Rattle.std.proofs.Common.{◌≡◌, ◌<◌, ◌≤◌, ⊎_elim, ◌+◌, ◌*◌, ◌/◌, ◌%◌, ◌==◌, not, cond, eq-eqb, ℕ, Bool, false, length, Option, Some}
use Rattle.std.proofs.Common.{None, refl, sym, ◌∙◌, ap, ap₂, arith}
use Rattle.std.proofs.lemmas.Bool.{cases_eq, cond-true, cond-false, false_from_ne_true}
use Rattle.std.proofs.Common.{eqb-true}
use Rattle.lfs_model.specs.Entry.{Entry, Usage, half, word}
use Rattle.lfs_model.specs.Checkpoint.{CheckpointValue, unit_sectors}
use Rattle.lfs_model.specs.Content.{block}
use Rattle.lfs_model.specs.Decodes.{IsSized}
use Rattle.lfs_model.specs.Device.{DeviceState}
use Rattle.lfs_model.specs.Finishing.{IsDone, mounted_memory}
use Rattle.lfs_model.specs.Laid.{IsLaid}
use Rattle.lfs_model.specs.Memory.{Memory, is_held, memory_view, those, settled_at, held_of, live_of}
use Rattle.lfs_model.specs.Reach.{address, view, place_in}
use Rattle.lfs_model.specs.Stands.{LogMap, StandsAt, used_in, live_in, age_in, is_live}
use Rattle.lfs_model.specs.Live.{live_count}
use Rattle.lfs_model.specs.Settled.{IsSettled}
use Rattle.lfs_model.specs.Running.{Tables, SpellsUsage, Running, used_saved, age_saved}
use Rattle.lfs_model.specs.Committing.{IsMountedTables, Starting}
use Rattle.lfs_model.proofs.Mounting.{mounting, row_length, shown_is}
use Rattle.lfs_model.proofs.Outgoing.{closed_at}
use Rattle.lfs_model.proofs.Segments.{count_none}

-- where none is counted, the count is 0
count_off : (is : Entry → Bool) (M : Memory) → ((x : Entry) → is x ≡ false) → (s : ℕ) → live_count (memory_view is M) s ≡ 0
count_off is M off s = count_none (is_live (memory_view is M) s) 64 (λ at. go (place_in (Some (M.rows s)) at) at)
  where
    go : (o : Option Entry) (at : ℕ)
        → elim o as (λ z. Bool) [ None ↦ false | Some e ↦ settled_at (those is M.at e) == 2 + 64 * s + at ] ≡ false
    go None at = refl
    go (Some e) at =
        ap (λ (b : Bool). settled_at (cond b (M.at e) 0) == 2 + 64 * s + at) (off e)
        ∙ false_from_ne_true _ (λ h. let z = eqb-true 0 (2 + 64 * s + at) h in omega arith)

module _ (d : DeviceState) (t : Tables) (k : CheckpointValue) (m : LogMap) (none : ℕ) (few : k.segments ≤ 1024) (sized : IsSized d.content)
    (settled : IsSettled d k m) (is : IsMountedTables d.content k t) (past : k.segments ≤ none) where
  st : StandsAt d.content k m
  st = settled.stands

  M : Memory
  M = mounted_memory d.content k

  laid : IsLaid d.content m (mounted_memory d.content k) k.segments
  laid = (mounting d.content k m few sized st).0

  done : IsDone d.content m (mounted_memory d.content k) k.segments k
  done = (mounting d.content k m few sized st).1

  nothing_held : (s : ℕ) → held_of m (mounted_memory d.content k) s ≡ 0
  nothing_held s = count_off (is_held m) (mounted_memory d.content k) (λ x. ap not (shown_is d.content k m few sized st x)) s

  used_rows : (s : ℕ) → t.used s ≡ length ((mounted_memory d.content k).rows s)
  unfolding address
  used_rows s = is.used s ∙ sym (row_length d.content k m few sized st s)

  live_rows : (s : ℕ) → t.live s ≡ live_of m (mounted_memory d.content k) s
  unfolding address
  live_rows s = is.live s ∙ done.live s

  -- nothing is in use where nothing lives
  unused : (s : ℕ) → t.live s ≡ 0 → t.used s ≡ 0
  unused s z = let l = is.live s in is.used s
      ∙ ⊎_elim (λ (u : used_in (view d.content k) s ≡ 0). u) (λ some. absurd (omega (arith, l, z, some.0))) (st.holds.stages.usages.less s)

  usage_fresh : (j : ℕ) → t.stale j ≡ false → j < (k.segments + 63) / 64 → SpellsUsage t j (block d.content (address d.content k (Usage j)))
  unfolding address
  usage_fresh j off low = record {
    long = done.long j ((laid.usages j).0 low);
    used = λ i lt. at_used j i lt ∙ sym (is.used (64 * j + i)) ∙ saved_used (64 * j + i);
    live = λ i lt. at_live j i lt ∙ sym (is.live (64 * j + i));
    age = λ i lt. at_age j i lt ∙ saved_age i lt;
  }
    where
      place : (j i : ℕ) → i < 64 → (64 * j + i) / 64 ≡ j
      place j i lt = omega arith

      rest : (j i : ℕ) → i < 64 → (64 * j + i) % 64 ≡ i
      rest j i lt = omega arith

      at_used : (j i : ℕ) → i < 64
          → half (block d.content (address d.content k (Usage j))) (4 * i) ≡ used_in (view d.content k) (64 * j + i)
      at_used j i lt = sym (ap₂ (λ (a b : ℕ). half (block d.content (address d.content k (Usage a))) (4 * b)) (place j i lt) (rest j i lt))

      at_live : (j i : ℕ) → i < 64
          → half (block d.content (address d.content k (Usage j))) (4 * i + 1) ≡ live_in (view d.content k) (64 * j + i)
      at_live j i lt =
          sym (ap₂ (λ (a b : ℕ). half (block d.content (address d.content k (Usage a))) (4 * b + 1)) (place j i lt) (rest j i lt))

      at_age : (j i : ℕ) → i < 64
          → word (block d.content (address d.content k (Usage j))) (2 * i + 1) ≡ age_in (view d.content k) (64 * j + i)
      at_age j i lt =
          sym (ap₂ (λ (a b : ℕ). word (block d.content (address d.content k (Usage a))) (2 * b + 1)) (place j i lt) (rest j i lt))

      saved_used : (s : ℕ) → t.used s ≡ used_saved t s
      saved_used s = ⊎_elim
          (λ (z : t.live s ≡ 0). unused s z ∙ sym (cond-true (t.live s == 0) 0 (t.used s) (eq-eqb (t.live s) 0 z)))
          (λ (ne : t.live s ≡ 0 → ⊥).
          sym (cond-false (t.live s == 0) 0 (t.used s) (false_from_ne_true _ (λ h. ne (eqb-true (t.live s) 0 h)))))
          (cases_eq (t.live s) 0)

      saved_age : (i : ℕ) → i < 64 → age_in (view d.content k) (64 * j + i) ≡ age_saved t (64 * j + i)
      saved_age i lt = ⊎_elim
          (λ (z : t.live (64 * j + i) ≡ 0).
          is.stale j i off lt (sym (is.live (64 * j + i)) ∙ z)
          ∙ sym (cond-true (t.live (64 * j + i) == 0) 0 (t.age (64 * j + i)) (eq-eqb (t.live (64 * j + i)) 0 z)))
          (λ (ne : t.live (64 * j + i) ≡ 0 → ⊥).
          sym (is.age (64 * j + i)) ∙ sym (cond-false (t.live (64 * j + i) == 0) 0 (t.age (64 * j + i))
          (false_from_ne_true _ (λ h. ne (eqb-true (t.live (64 * j + i)) 0 h)))))
          (cases_eq (t.live (64 * j + i)) 0)

  started : Running d (λ x. None) t k m m none None
  started = record {
    memory = mounted_memory d.content k;
    laid = closed_at d.content m (mounted_memory d.content k) k.segments none laid (omega arith) past;
    segments = refl;
    settled = settled;
    cached = record {
      cached = λ x b held. absurd (let bad : None ≡ Some b = held in cc);
      found = λ x f one. absurd (done.none x one);
    };
    tables = record {
      at = λ x top. sym (is.at x top);
      used = used_rows;
      live = live_rows;
      held = λ s. is.held s ∙ sym (nothing_held s);
    };
    fresh = usage_fresh;
    part = λ s. let e = is.kept s in omega arith;
    whole = λ s low away. ap (λ (n : ℕ). n % unit_sectors k) (is.used s) ∙ settled.stands.holds.stages.usages.whole s low;
    kept = λ s low. let e = is.kept s in let u = is.used s in omega arith;
    opened = past;
  }

pub starting : Starting
starting d t k m none few sized settled is past = started d t k m none few sized settled is past
