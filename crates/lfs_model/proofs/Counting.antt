-- How counts of live blocks change with the memory of the log.
use Rattle.std.proofs.Common.{◌≡◌, ◌<◌, ◌≤◌, ⊎_elim, ◌+◌, ◌*◌, ◌-◌, ◌/◌, ◌%◌, ℕ, zero, suc, Bool, true, false, cond, [], ◌∷◌, length}
use Rattle.std.proofs.Common.{get_or, Some, None, refl, sym, ◌∙◌, ap, ap₂, subst, arith}
use Rattle.std.proofs.lemmas.List.{get_or_past, get_or_append_left, get_or-append_right}
use Rattle.std.proofs.lemmas.Bool.{cases_eq, cases_lt, cases_Bool, cond-true, cond-false}
use Rattle.lfs_model.specs.Entry.{Entry}
use Rattle.lfs_model.specs.Reach.{Row}
use Rattle.lfs_model.specs.Stands.{AreNamed, IsHeld}
use Rattle.lfs_model.specs.Memory.{Memory, settled_at, those, memory_view, count_of}
use Rattle.lfs_model.specs.Placing.{IsMoved, next_place}
use Rattle.lfs_model.specs.Lifting.{IsTaken}
use Rattle.lfs_model.specs.Counting.{segment_of, MovedCounts, TakenCounts, UnplacedCounts, OneMoreCounted}
use Rattle.lfs_model.proofs.Entries.{same_entry}
use Rattle.lfs_model.proofs.Live.{placed_counts, same_live}

pub settled_above : (a : ℕ) → 2 ≤ a → settled_at a ≡ a
settled_above zero le = absurd (omega arith)
settled_above (suc zero) le = absurd (omega arith)
settled_above (suc (suc a)) le = refl

pub settled_low : (a : ℕ) → a ≤ 1 → settled_at a ≡ 0
settled_low zero le = refl
settled_low (suc zero) le = refl
settled_low (suc (suc a)) le = absurd (omega arith)

pub settled_some : (a : ℕ) → 0 < settled_at a → (2 ≤ a) × (settled_at a ≡ a)
settled_some zero lt = absurd (omega arith)
settled_some (suc zero) lt = absurd (omega arith)
settled_some (suc (suc a)) lt = (omega arith, refl)

pub those_in : (is : Entry → Bool) (at : Entry → ℕ) (x : Entry) → is x ≡ true → those is at x ≡ at x
those_in is at x on = cond-true (is x) (at x) 0 on

pub those_out : (is : Entry → Bool) (at : Entry → ℕ) (x : Entry) → is x ≡ false → those is at x ≡ 0
those_out is at x off = cond-false (is x) (at x) 0 off

-- what has an address among those has it, and is one
pub those_some : (is : Entry → Bool) (at : Entry → ℕ) (x : Entry) → 0 < those is at x → (is x ≡ true) × (those is at x ≡ at x)
those_some is at x lt =
    ⊎_elim
    (λ (on : is x ≡ true). (on, those_in is at x on))
    (λ (off : is x ≡ false). let z = those_out is at x off in absurd (omega arith))
    (cases_Bool (is x))

-- each address is named by its row
abbrev pub Named : (Entry → ℕ) → (ℕ → Row) → Type 0
Named at rows = (x : Entry) → 2 ≤ at x → get_or (rows (segment_of (at x))) ((at x - 2) % 64) None ≡ Some x

pub view_named : (is : Entry → Bool) (M : Memory) → Named M.at M.rows → AreNamed (memory_view is M)
view_named is M named x lt =
    let s = settled_some (those is M.at x) lt in
    let t = those_some is M.at x (omega (arith, s.0)) in
    let same : settled_at (those is M.at x) ≡ M.at x = s.1 ∙ t.1 in
    ap (λ (a : ℕ). get_or (M.rows ((a - 2) / 64)) ((a - 2) % 64) None) same ∙ named x (omega (arith, s.0, t.1))

-- what holds of x, and of each other entry
pub by_entry : (x : Entry) (P : Entry → Type 0) → P x → ((y : Entry) → (y ≡ x → ⊥) → P y) → (y : Entry) → P y
by_entry x P here there y = ⊎_elim (λ (is : y ≡ x). subst P (sym is) here) (there y) (same_entry y x)

module _ (M : Memory) (o : ℕ) (x : Entry) (M' : Memory) (p : IsMoved M o x M') where
  open_row : (at : ℕ) (y : Entry) → get_or (M.rows o) at None ≡ Some y → get_or (M'.rows o) at None ≡ Some y
  open_row at y is =
      ⊎_elim
      (λ (low : at < length (M.rows o)). ap (λ (r : Row). get_or r at None) p.row ∙ get_or_append_left (M.rows o) (Some x ∷ []) None at low
      ∙ is)
      (λ (high : length (M.rows o) ≤ at). let bad : None ≡ Some y = sym (get_or_past (M.rows o) at None high) ∙ is in absurd (cc))
      (cases_lt at (length (M.rows o)))

  rows_grow : (s at : ℕ) (y : Entry) → get_or (M.rows s) at None ≡ Some y → get_or (M'.rows s) at None ≡ Some y
  rows_grow s at y is =
      ⊎_elim
      (λ (here : s ≡ o). subst (λ (t : ℕ). get_or (M'.rows t) at None ≡ Some y) (sym here)
      (open_row at y (subst (λ (t : ℕ). get_or (M.rows t) at None ≡ Some y) here is)))
      (λ (away : s ≡ o → ⊥). ap (λ (r : Row). get_or r at None) (p.rows s away) ∙ is)
      (cases_eq s o)

  less_itself : (n : ℕ) → n - n ≡ 0
  less_itself n = omega arith

  own_name : get_or (M'.rows (segment_of (M'.at x))) ((M'.at x - 2) % 64) None ≡ Some x
  own_name =
      let at = p.at in
      let room = p.room in
      let es : (M'.at x - 2) / 64 ≡ o = omega arith in
      let eo : (M'.at x - 2) % 64 ≡ length (M.rows o) = omega arith in
      ap₂ (λ (s t : ℕ). get_or (M'.rows s) t None) es eo
      ∙ ap (λ (r : Row). get_or r (length (M.rows o)) None) p.row
      ∙ get_or-append_right (M.rows o) (Some x ∷ []) (length (M.rows o)) (length (M.rows o)) None refl (omega arith)
      ∙ ap (λ (t : ℕ). get_or (Some x ∷ []) t None) (less_itself (length (M.rows o)))

  pub moved_named : Named M.at M.rows → Named M'.at M'.rows
  moved_named named = by_entry x (λ y. 2 ≤ M'.at y → get_or (M'.rows (segment_of (M'.at y))) ((M'.at y - 2) % 64) None ≡ Some y)
      (λ lt. own_name)
      (λ y ne lt.
      let s = p.others y ne in
      ap (λ (a : ℕ). get_or (M'.rows ((a - 2) / 64)) ((a - 2) % 64) None) s
      ∙ rows_grow ((M.at y - 2) / 64) ((M.at y - 2) % 64) y (named y (omega arith)))

-- where each address is what it was, counts are
pub same_counts : (is more : Entry → Bool) (M M' : Memory) → Named M.at M.rows → Named M'.at M'.rows
    → ((y : Entry) → settled_at (those more M'.at y) ≡ settled_at (those is M.at y)) → (s : ℕ) → count_of more M' s ≡ count_of is M s
same_counts is more M M' named named' same s =
    same_live (memory_view is M) (memory_view more M') (view_named is M named) (view_named more M' named') s
    (λ at low. (
      (λ (h : IsHeld (memory_view is M) (2 + 64 * s + at)). (h.0, same h.0 ∙ h.1)),
      (λ (h : IsHeld (memory_view more M') (2 + 64 * s + at)). (h.0, sym (same h.0) ∙ h.1)),
    ))

-- one entry more has its address counted
one_counted : (is more : Entry → Bool) (M M' : Memory) → Named M.at M.rows → Named M'.at M'.rows → (x : Entry) (a : ℕ)
    → settled_at (those is M.at x) ≡ 0 → settled_at (those more M'.at x) ≡ a → 2 ≤ a
    → ((y : Entry) → (y ≡ x → ⊥) → settled_at (those more M'.at y) ≡ settled_at (those is M.at y))
    → (count_of more M' (segment_of a) ≡ suc (count_of is M (segment_of a)))
    × ((t : ℕ) → (t ≡ segment_of a → ⊥) → count_of more M' t ≡ count_of is M t)
one_counted is more M M' named named' x a none at above same =
    placed_counts (memory_view is M) (memory_view more M') (view_named is M named) (view_named more M' named') x (segment_of a)
    ((a - 2) % 64)
    (record { none = none; at = at ∙ (omega arith); within = omega arith; same = same })

those_same : (is : Entry → Bool) (f g : Entry → ℕ) (y : Entry) → f y ≡ g y → settled_at (those is f y) ≡ settled_at (those is g y)
those_same is f g y same = ap (λ (a : ℕ). settled_at (cond (is y) a 0)) same

pub moved_counts : MovedCounts
moved_counts e m M o x M' laid p is = (up, others, out)
  where
    a : ℕ
    a = M'.at x

    at : M'.at x ≡ next_place M o
    at = p.at

    segment : segment_of (M'.at x) ≡ o
    segment = let r = p.room in let at = p.at in omega arith

    named' : Named M'.at M'.rows
    named' = moved_named M o x M' p laid.named

    low : M.at x ≤ 1
    low = let w = p.was in omega arith

    out : is x ≡ false → (s : ℕ) → count_of is M' s ≡ count_of is M s
    out off = same_counts is is M M' laid.named named' (by_entry x (λ y. settled_at (those is M'.at y) ≡ settled_at (those is M.at y))
        (ap settled_at (those_out is M'.at x off) ∙ sym (ap settled_at (those_out is M.at x off)))
        (λ y ne. those_same is M'.at M.at y (p.others y ne)))

    both : is x ≡ true → (count_of is M' (segment_of (M'.at x)) ≡ suc (count_of is M (segment_of (M'.at x))))
        × ((t : ℕ) → (t ≡ segment_of (M'.at x) → ⊥) → count_of is M' t ≡ count_of is M t)
    both on = one_counted is is M M' laid.named named' x (M'.at x)
        (ap settled_at (those_in is M.at x on) ∙ settled_low (M.at x) low)
        (ap settled_at (those_in is M'.at x on) ∙ settled_above (M'.at x) (let at = p.at in omega arith))
        (let at = p.at in omega arith)
        (λ y ne. those_same is M'.at M.at y (p.others y ne))

    up : is x ≡ true → count_of is M' o ≡ suc (count_of is M o)
    up on = subst (λ (s : ℕ). count_of is M' s ≡ suc (count_of is M s)) segment (both on).0

    others : (s : ℕ) → (s ≡ o → ⊥) → count_of is M' s ≡ count_of is M s
    others s ne =
        ⊎_elim (λ (on : is x ≡ true). (both on).1 s (λ h. ne (h ∙ segment))) (λ (off : is x ≡ false). out off s) (cases_Bool (is x))

-- nothing moves to a row where an entry only leaves
pub taken_named : (M : Memory) (x : Entry) (v : ℕ) (M' : Memory) → IsTaken M x v M' → Named M.at M.rows → Named M'.at M'.rows
taken_named M x v M' p named = by_entry x (λ y. 2 ≤ M'.at y → get_or (M'.rows (segment_of (M'.at y))) ((M'.at y - 2) % 64) None ≡ Some y)
    (λ lt. let at = p.at in let least = p.least in absurd (omega arith))
    (λ y ne lt.
    let s = p.others y ne in
    ap (λ (a : ℕ). get_or (M'.rows ((a - 2) / 64)) ((a - 2) % 64) None) s
    ∙ ap (λ (r : ℕ → Row). get_or (r ((M.at y - 2) / 64)) ((M.at y - 2) % 64) None) p.rows ∙ named y (omega arith))

pub taken_counts : TakenCounts
taken_counts e m M o x v M' laid above p is = (down, others, out)
  where
    named' : Named M'.at M'.rows
    named' = taken_named M x v M' p laid.named

    low : M'.at x ≤ 1
    low = let at = p.at in let least = p.least in omega arith

    out : is x ≡ false → (s : ℕ) → count_of is M' s ≡ count_of is M s
    out off = same_counts is is M M' laid.named named' (by_entry x (λ y. settled_at (those is M'.at y) ≡ settled_at (those is M.at y))
        (ap settled_at (those_out is M'.at x off) ∙ sym (ap settled_at (those_out is M.at x off)))
        (λ y ne. those_same is M'.at M.at y (p.others y ne)))

    both : is x ≡ true → (count_of is M (segment_of (M.at x)) ≡ suc (count_of is M' (segment_of (M.at x))))
        × ((t : ℕ) → (t ≡ segment_of (M.at x) → ⊥) → count_of is M t ≡ count_of is M' t)
    both on = one_counted is is M' M named' laid.named x (M.at x)
        (ap settled_at (those_in is M'.at x on) ∙ settled_low (M'.at x) low)
        (ap settled_at (those_in is M.at x on) ∙ settled_above (M.at x) above)
        above
        (λ y ne. those_same is M.at M'.at y (sym (p.others y ne)))

    down : is x ≡ true → count_of is M (segment_of (M.at x)) ≡ suc (count_of is M' (segment_of (M.at x)))
    down on = (both on).0

    others : (s : ℕ) → (s ≡ segment_of (M.at x) → ⊥) → count_of is M' s ≡ count_of is M s
    others s ne = ⊎_elim (λ (on : is x ≡ true). sym ((both on).1 s ne)) (λ (off : is x ≡ false). out off s) (cases_Bool (is x))

pub unplaced_counts : UnplacedCounts
unplaced_counts e m M o x v M' laid low p is = same_counts is is M M' laid.named (taken_named M x v M' p laid.named)
    (by_entry x (λ y. settled_at (those is M'.at y) ≡ settled_at (those is M.at y)) (none M'
    (let at = p.at in let least = p.least in omega arith) ∙ sym (none M low)) (λ y ne. those_same is M'.at M.at y (p.others y ne)))
  where
    none : (N : Memory) → N.at x ≤ 1 → settled_at (those is N.at x) ≡ 0
    none N small = ⊎_elim
        (λ (on : is x ≡ true). ap settled_at (those_in is N.at x on) ∙ settled_low (N.at x) small)
        (λ (off : is x ≡ false). ap settled_at (those_out is N.at x off))
        (cases_Bool (is x))

pub one_more_counted : OneMoreCounted
one_more_counted e m M o x laid is more off on others = (up, rest)
  where
    none : settled_at (those is M.at x) ≡ 0
    none = ap settled_at (those_out is M.at x off)

    same : (y : Entry) → (y ≡ x → ⊥) → settled_at (those more M.at y) ≡ settled_at (those is M.at y)
    same y ne = ap (λ (b : Bool). settled_at (cond b (M.at y) 0)) (others y ne)

    both : 2 ≤ M.at x → (count_of more M (segment_of (M.at x)) ≡ suc (count_of is M (segment_of (M.at x))))
        × ((t : ℕ) → (t ≡ segment_of (M.at x) → ⊥) → count_of more M t ≡ count_of is M t)
    both above = one_counted is more M M laid.named laid.named x (M.at x) none
        (ap settled_at (those_in more M.at x on) ∙ settled_above (M.at x) above) above same

    up : 2 ≤ M.at x → count_of more M (segment_of (M.at x)) ≡ suc (count_of is M (segment_of (M.at x)))
    up above = (both above).0

    rest : (s : ℕ) → (2 ≤ M.at x → s ≡ segment_of (M.at x) → ⊥) → count_of more M s ≡ count_of is M s
    rest s ne = ⊎_elim
        (λ (low : M.at x < 2). same_counts is more M M laid.named laid.named
        (by_entry x (λ y. settled_at (those more M.at y) ≡ settled_at (those is M.at y))
        (ap settled_at (those_in more M.at x on) ∙ settled_low (M.at x) (omega arith) ∙ sym none) same) s)
        (λ (above : 2 ≤ M.at x). (both above).1 s (ne above))
        (cases_lt (M.at x) 2)
