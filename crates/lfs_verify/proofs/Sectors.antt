-- What the marks say at the end of the walk: labels and counts.
use Rattle.lfs_verify.proofs.Occurrences.{count_on, count_stays}
use Rattle.std.proofs.Common.{◌≡◌, ◌<◌, ◌≤◌, ◌↔◌, ◌+◌, ◌-◌, ◌*◌, ◌/◌, ◌%◌, ℕ, zero, suc, Bool, true, false, nat_lt, List, length, get_or}
use Rattle.std.proofs.Common.{Some, refl, sym, ◌∙◌, ap, ap₂, arith}
use Rattle.std.proofs.lemmas.Bool.{ltb-true, lt-ltb}
use Rattle.lfs_model.specs.Entry.{Entry}
use Rattle.lfs_model.specs.Reach.{View, place_in}
use Rattle.lfs_model.specs.Stands.{Reached, AreNamed, AreCounted, IsHeld}
use Rattle.lfs_model.proofs.Live.{count_up_none, count_up_same}
use Rattle.lfs_verify.specs.Walk.{Walked, InBounds, step_of, IsBounded}
use Rattle.lfs_verify.specs.Labels.{IsSectorNamed, is_marked, marked_count}
use Rattle.lfs_verify.specs.Tables.{IsLiveTable, AreSectorsNamed, NamedByMarks, CountedByMarks}
use Rattle.lfs_verify.proofs.Steps.{same_step, inside_marks, within}

pub marked_none : (marks : List ℕ) (s : ℕ) → marked_count marks s 0 ≡ 0
unfolding marked_count
marked_none marks s = count_up_none (is_marked marks s)

-- one more sector: marked, and not
pub marked_on : (marks : List ℕ) (s n : ℕ) → 0 < get_or marks (2 + 64 * s + n) 0 → marked_count marks s (n + 1) ≡ marked_count marks s n + 1
unfolding marked_count
marked_on marks s n some = count_on (is_marked marks s) n (lt-ltb 0 (get_or marks (2 + 64 * s + n) 0) some)

pub marked_off : (marks : List ℕ) (s n : ℕ) → get_or marks (2 + 64 * s + n) 0 ≡ 0 → marked_count marks s (n + 1) ≡ marked_count marks s n
unfolding marked_count
marked_off marks s n none = count_stays (is_marked marks s) n (ap (nat_lt 0) none)

same_tests : (p q : Bool) (P : Type 0) → (p ≡ true) ↔ P → (q ≡ true) ↔ P → p ≡ q
same_tests true q P a b = sym (b.1 (a.0 refl))
same_tests false true P a b = a.1 (b.0 refl)
same_tests false false P a b = refl

module _ (v : View) {marks : List ℕ} (w : Walked v marks 68628528) (bounded : IsBounded v) where
  at_end : (e : Entry) → InBounds e → step_of e < 68628528
  at_end e b = (within e b).5

  -- sectors named one by one: all entries are
  named_at : AreSectorsNamed v marks → (e : Entry) → Reached v e → (s o : ℕ) → v.address e ≡ 2 + 64 * s + o → o < 64
      → place_in (v.row s) o ≡ Some e
  named_at each e reached s o whole small =
      let b = bounded e reached in
      let m = w.marked e (at_end e b) b reached in
      let inside = inside_marks marks (v.address e) m in
      let n = w.size in
      let i = each s o (omega arith) small (step_of e) (ap (λ (x : ℕ). get_or marks x 0) (sym whole) ∙ m) in
      i.1 ∙ ap Some (same_step i.0 e i.3 b i.2)

  named_of : AreSectorsNamed v marks → AreNamed v
  named_of each e reached =
      let b = bounded e reached in
      let low = w.low e (at_end e b) b reached in
      named_at each e reached ((v.address e - 2) / 64) ((v.address e - 2) % 64) (omega arith) (omega arith)

  -- and the other way round
  named_each : AreNamed v → (s o : ℕ) → o < 64 → IsSectorNamed v marks s o
  named_each named s o low p is =
      let h = w.held (2 + 64 * s + o) p is in
      let at = h.5 in
      let es : (v.address h.0 - 2) / 64 ≡ s = omega arith in
      let eo : (v.address h.0 - 2) % 64 ≡ o = omega arith in
      (h.0, sym (ap₂ (λ (x y : ℕ). place_in (v.row x) y) es eo) ∙ named h.0 h.4, h.1, h.3)

  held_of : (a m : ℕ) → get_or marks a 0 ≡ m → 0 < m → IsHeld v a
  held_of a zero is lt = absurd (omega arith)
  held_of a (suc p) is lt = let h = w.held a p is in (h.0, h.5)

  marked_of : (a : ℕ) → 2 ≤ a → IsHeld v a → 0 < get_or marks a 0
  marked_of a low h =
      let reached : Reached v h.0 = omega arith in
      let b = bounded h.0 reached in
      let m = w.marked h.0 (at_end h.0 b) b reached in
      let z = ap (λ (x : ℕ). get_or marks x 0) h.1 in omega arith

  -- a sector is marked exactly where it is reached
  marked_held : (s o : ℕ) → (is_marked marks s o ≡ true) ↔ IsHeld v (2 + 64 * s + o)
  marked_held s o = (
    λ on. held_of (2 + 64 * s + o) (get_or marks (2 + 64 * s + o) 0) refl (ltb-true 0 (get_or marks (2 + 64 * s + o) 0) on),
    λ held. lt-ltb 0 (get_or marks (2 + 64 * s + o) 0) (marked_of (2 + 64 * s + o) (omega arith) held),
  )

  counted_of : {live : List ℕ} → IsLiveTable v live → ((s : ℕ) → s < length live → get_or live s 0 ≡ marked_count marks s 64) → AreCounted v
  unfolding marked_count
  counted_of table counts s lt = record {
    is_held = is_marked marks s;
    exact = λ o low. marked_held s o;
    count = sym (table.each s lt) ∙ counts s (omega (arith, table.size));
  }

  counts_of : {live : List ℕ} → IsLiveTable v live → AreCounted v → (s : ℕ) → s < length live → get_or live s 0 ≡ marked_count marks s 64
  unfolding marked_count
  counts_of table counted s lt =
      let inside : s < v.checkpoint.segments = omega (arith, table.size) in
      let holds = counted s inside in
      table.each s inside ∙ holds.count
      ∙ count_up_same holds.is_held (is_marked marks s) 64
      (λ o low. same_tests (holds.is_held o) (is_marked marks s o) (IsHeld v (2 + 64 * s + o)) (holds.exact o low) (marked_held s o))

pub named_by_marks : NamedByMarks
named_by_marks v marks w bounded = (λ named s o lt low. named_each v w bounded named s o low, named_of v w bounded)

pub counted_by_marks : CountedByMarks
counted_by_marks v marks live w bounded table = (counts_of v w bounded table, counted_of v w bounded table)
