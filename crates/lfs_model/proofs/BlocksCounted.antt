-- All segments together hold no more blocks than there are entries with an address.
use Rattle.std.proofs.Common.{◌≡◌, ◌<◌, ◌≤◌, ◌⊎◌, ⊎_elim, ◌+◌, ◌&&◌, not, cond, ℕ, zero, suc, Bool, true, false, List, [], ◌∷◌, length}
use Rattle.std.proofs.Common.{refl, sym, ◌∙◌, ap, ap₂, subst, arith, inl, inr}
use Rattle.std.proofs.lemmas.Bool.{cases_lt, cases_Bool, false_from_ne_true}
use Rattle.lfs_model.specs.Content.{Content}
use Rattle.lfs_model.specs.Counting.{segment_of}
use Rattle.lfs_model.specs.Entry.{Entry}
use Rattle.lfs_model.specs.Laid.{IsLaid}
use Rattle.lfs_model.specs.Members.{IsIn}
use Rattle.lfs_model.specs.Memory.{Memory, is_shown, is_held, settled_at, those, memory_view, count_of, live_of, held_of}
use Rattle.lfs_model.specs.Stands.{LogMap, count_up, is_live}
use Rattle.lfs_model.proofs.BelowSums.{sum_below, sum_same, sum_one, sum_zero}
use Rattle.lfs_model.proofs.Counting.{settled_low, those_in, those_out, view_named, same_counts, one_more_counted}
use Rattle.lfs_model.proofs.Entries.{same_entry}
use Rattle.lfs_model.proofs.Live.{count_up_none, count_up_more, count_up_same, live_sectors}

-- ---- whether an entry is in a list
true_if : {A B : Type 0} → Bool → A ⊎ B → Bool
true_if b (inl x) = true
true_if b (inr y) = b

abbrev member : List Entry → Entry → Bool
member [] x = false
member (y ∷ ys) x = true_if (member ys x) (same_entry x y)

true_left : {A B : Type 0} (b : Bool) (d : A ⊎ B) → (B → ⊥) → true_if b d ≡ true
unfolding true_if
true_left b (inl x) no_right = refl
true_left b (inr y) no_right = absurd (no_right y)

true_right : {A B : Type 0} (b : Bool) (d : A ⊎ B) → (A → ⊥) → true_if b d ≡ b
unfolding true_if
true_right b (inl x) no_left = absurd (no_left x)
true_right b (inr y) no_left = refl

own : (y : Entry) (ys : List Entry) → member (y ∷ ys) y ≡ true
own y ys = true_left (member ys y) (same_entry y y) (λ ne. ne refl)

other : (y : Entry) (ys : List Entry) (x : Entry) → (x ≡ y → ⊥) → member (y ∷ ys) x ≡ member ys x
other y ys x ne = true_right (member ys x) (same_entry x y) ne

is_member : (ys : List Entry) (x : Entry) → IsIn ys x → member ys x ≡ true
is_member [] x is = absurd is
is_member (y ∷ ys) x is = ⊎_elim
    (λ (here : x ≡ y). ap (member (y ∷ ys)) here ∙ own y ys)
    (λ (away : x ≡ y → ⊥). other y ys x away ∙ is_member ys x (⊎_elim (λ (h : x ≡ y). absurd (away h)) (λ (later : IsIn ys x). later) is))
    (same_entry x y)

-- ---- counts
-- none passes a test that is never true
pub none_pass : (n : ℕ) → count_up (λ s. false) n ≡ 0
none_pass zero = count_up_none (λ s. false)
none_pass (suc n) = let rest = none_pass n in let more = count_up_more (λ s. false) n in omega (arith, rest, more)

module _ (e : Content) (m : LogMap) (M : Memory) (opened_at : ℕ) (laid : IsLaid e m M opened_at) where
  abbrev shows : List Entry → Entry → Bool
  shows xs x = member xs x && is_shown m x

  abbrev holds : List Entry → Entry → Bool
  holds xs x = member xs x && is_held m x

  abbrev in_segment : List Entry → ℕ → ℕ
  in_segment xs s = count_of (shows xs) M s + count_of (holds xs) M s

  -- no entry, no count
  none_counted : (is : Entry → Bool) → ((x : Entry) → is x ≡ false) → (s : ℕ) → count_of is M s ≡ 0
  none_counted is none s =
      count_up_same (is_live (memory_view is M) s) (λ at. false) 64 (λ at low. false_from_ne_true _ (λ on.
      let held = (live_sectors (memory_view is M) (view_named is M laid.named) s at low).0 on in
      let zero_there = ap settled_at (those_out is M.at held.0 (none held.0)) in
      let there = held.1 in
      omega (arith, zero_there, there)))
      ∙ none_pass 64

  same_tests : (is more : Entry → Bool) → ((x : Entry) → more x ≡ is x) → (s : ℕ) → count_of more M s ≡ count_of is M s
  same_tests is more same s =
      same_counts is more M M laid.named laid.named (λ y. ap (λ (b : Bool). settled_at (cond b (M.at y) 0)) (same y)) s

  -- one entry more counts at most one in its segment
  one_counted : (is more : Entry → Bool) (x : Entry) → is x ≡ false → more x ≡ true → ((y : Entry) → (y ≡ x → ⊥) → more y ≡ is y)
      → (count_of more M (segment_of (M.at x)) ≤ count_of is M (segment_of (M.at x)) + 1)
      × ((s : ℕ) → (s ≡ segment_of (M.at x) → ⊥) → count_of more M s ≡ count_of is M s)
  one_counted is more x off on others =
      let c = one_more_counted e m M opened_at x laid is more off on others in (
        ⊎_elim
            (λ (low : M.at x < 2). let same = c.1 (segment_of (M.at x)) (λ above e. omega (arith, above, low)) in omega (arith, same))
            (λ (above : 2 ≤ M.at x). let up = c.0 above in omega (arith, up))
            (cases_lt (M.at x) 2),
        λ s ne. c.1 s (λ above e. ne e),
      )

  shows_as : (xs : List Entry) (x : Entry) (a b : Bool) → member xs x ≡ a → is_shown m x ≡ b → shows xs x ≡ (a && b)
  shows_as xs x a b l r = ap₂ (λ (c d : Bool). c && d) l r

  holds_as : (xs : List Entry) (x : Entry) (a b : Bool) → member xs x ≡ a → is_shown m x ≡ b → holds xs x ≡ (a && not b)
  holds_as xs x a b l r = ap₂ (λ (c d : Bool). c && not d) l r

  -- x isn't in the list, and is put before it
  module _ (x : Entry) (xs : List Entry) (new : member xs x ≡ false) where
    others : (y : Entry) → (y ≡ x → ⊥) → member (x ∷ xs) y ≡ member xs y
    others y ne = other x xs y ne

    by_entry : (P : Entry → Type 0) → P x → ((y : Entry) → (y ≡ x → ⊥) → P y) → (y : Entry) → P y
    by_entry P here there y = ⊎_elim (λ (is : y ≡ x). subst P (sym is) here) (there y) (same_entry y x)

    one_more : sum_below (in_segment (x ∷ xs)) M.segments ≤ sum_below (in_segment xs) M.segments + 1
    one_more = ⊎_elim
        (λ (on : is_shown m x ≡ true).
        let up = one_counted (shows xs) (shows (x ∷ xs)) x (shows_as xs x false true new on) (shows_as (x ∷ xs) x true true (own x xs) on)
        (λ y ne. ap (λ (b : Bool). b && is_shown m y) (others y ne)) in
        let still = same_tests (holds xs) (holds (x ∷ xs)) (by_entry (λ y. holds (x ∷ xs) y ≡ holds xs y) (holds_as (x ∷ xs) x true true
        (own x xs) on ∙ sym (holds_as xs x false true new on)) (λ y ne. ap (λ (b : Bool). b && is_held m y) (others y ne))) in
        (sum_one (in_segment (x ∷ xs)) (in_segment xs) (segment_of (M.at x)) M.segments
        (let u = up.0 in let h = still (segment_of (M.at x)) in omega (arith, u, h))
        (λ s ne. let u = up.1 s ne in let h = still s in omega (arith, u, h))).0)
        (λ (off : is_shown m x ≡ false).
        let up = one_counted (holds xs) (holds (x ∷ xs)) x (holds_as xs x false false new off)
        (holds_as (x ∷ xs) x true false (own x xs) off) (λ y ne. ap (λ (b : Bool). b && is_held m y) (others y ne)) in
        let still = same_tests (shows xs) (shows (x ∷ xs)) (by_entry (λ y. shows (x ∷ xs) y ≡ shows xs y) (shows_as (x ∷ xs) x true false
        (own x xs) off ∙ sym (shows_as xs x false false new off)) (λ y ne. ap (λ (b : Bool). b && is_shown m y) (others y ne))) in
        (sum_one (in_segment (x ∷ xs)) (in_segment xs) (segment_of (M.at x)) M.segments
        (let u = up.0 in let h = still (segment_of (M.at x)) in omega (arith, u, h))
        (λ s ne. let u = up.1 s ne in let h = still s in omega (arith, u, h))).0)
        (cases_Bool (is_shown m x))

  counted : (xs : List Entry) → sum_below (in_segment xs) M.segments ≤ length xs
  counted [] =
      let none = sum_same (in_segment []) (λ s. 0) M.segments
      (λ s. let a = none_counted (shows []) (λ x. refl) s in let b = none_counted (holds []) (λ x. refl) s in omega (arith, a, b)) in
      let zeros = sum_zero M.segments in
      omega (arith, none, zeros)
  counted (x ∷ xs) =
      let rest = counted xs in
      ⊎_elim
      (λ (there : member xs x ≡ true).
      let tests = same_member x xs there in
      let same = sum_same (in_segment (x ∷ xs)) (in_segment xs) M.segments (λ s.
      let a = same_tests (shows xs) (shows (x ∷ xs)) (λ y. ap (λ (b : Bool). b && is_shown m y) (tests y)) s in
      let b = same_tests (holds xs) (holds (x ∷ xs)) (λ y. ap (λ (b : Bool). b && is_held m y) (tests y)) s in
      omega (arith, a, b)) in
      omega (arith, rest, same))
      (λ (new : member xs x ≡ false). let more = one_more x xs new in omega (arith, rest, more))
      (cases_Bool (member xs x))
    where
      same_member : (x : Entry) (xs : List Entry) → member xs x ≡ true → (y : Entry) → member (x ∷ xs) y ≡ member xs y
      same_member x xs there y = ⊎_elim
          (λ (here : y ≡ x). ap (member (x ∷ xs)) here ∙ own x xs ∙ sym there ∙ sym (ap (member xs) here))
          (λ (away : y ≡ x → ⊥). other x xs y away)
          (same_entry y x)

  -- the list has each entry with an address, so the counts are those of all
  module _ (xs : List Entry) (all : (x : Entry) → 2 ≤ M.at x → IsIn xs x) where
    all_tests : (is is_in : Entry → Bool) → ((x : Entry) → member xs x ≡ true → is_in x ≡ is x) → (s : ℕ)
        → count_of is M s ≡ count_of is_in M s
    all_tests is is_in same s = same_counts is_in is M M laid.named laid.named (λ y. ⊎_elim
        (λ (low : M.at y < 2). settled_none is y low ∙ sym (settled_none is_in y low))
        (λ (above : 2 ≤ M.at y). ap (λ (b : Bool). settled_at (cond b (M.at y) 0)) (sym (same y (is_member xs y (all y above)))))
        (cases_lt (M.at y) 2)) s
      where
        settled_none : (is : Entry → Bool) (y : Entry) → M.at y < 2 → settled_at (those is M.at y) ≡ 0
        settled_none is y low = ⊎_elim
            (λ (on : is y ≡ true). ap settled_at (those_in is M.at y on) ∙ settled_low (M.at y) (omega (arith, low)))
            (λ (off : is y ≡ false). ap settled_at (those_out is M.at y off))
            (cases_Bool (is y))

    all_counted : sum_below (λ s. live_of m M s + held_of m M s) M.segments ≤ length xs
    all_counted =
        let same = sum_same (λ s. live_of m M s + held_of m M s) (in_segment xs) M.segments (λ s.
        let a = all_tests (is_shown m) (shows xs) (λ x is. ap (λ (b : Bool). b && is_shown m x) is) s in
        let b = all_tests (is_held m) (holds xs) (λ x is. ap (λ (b : Bool). b && is_held m x) is) s in
        omega (arith, a, b)) in
        let c = counted xs in
        omega (arith, same, c)

-- Each block on the device is counted once: the segments hold no more blocks than a list has entries that has each of them.
pub blocks_counted : (e : Content) (m : LogMap) (M : Memory) (opened_at : ℕ) → IsLaid e m M opened_at → (xs : List Entry)
    → ((x : Entry) → 2 ≤ M.at x → IsIn xs x)
    → sum_below (λ s. live_of m M s + held_of m M s) M.segments ≤ length xs
blocks_counted e m M opened_at laid xs all = all_counted e m M opened_at laid xs all
