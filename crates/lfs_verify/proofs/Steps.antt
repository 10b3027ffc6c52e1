-- The order of the walk.
use Rattle.std.proofs.Common.{◌≡◌, ◌<◌, ◌≤◌, ◌⊎◌, ⊎_elim, inl, inr, ◌+◌, ◌*◌, ℕ, zero, suc, List, length, get_or, set, refl, sym, ◌∙◌, ap}
use Rattle.std.proofs.Common.{ap₂, subst, arith}
use Rattle.std.proofs.lemmas.List.{get_or-set_same, get_or-set_other, length-set, get_or_past}
use Rattle.std.proofs.lemmas.Bool.{cases_eq, cases_lt}
use Rattle.lfs_model.specs.declared.Kind.TheVariants.{Directory}
use Rattle.lfs_model.specs.Entry.{Entry, Data, Leaf, Double, Inode, Map, Usage, header}
use Rattle.lfs_model.specs.Reach.{View}
use Rattle.lfs_model.specs.Stands.{Reached, Fresh, stage_of, Roots, Leaves, Blocks, Inodes, Maps}
use Rattle.lfs_verify.specs.Walk.{step_of, InBounds, IsGood, Walked, IsBounded, IsUnmarked}

-- two entries at one step are one
pub same_step : (e f : Entry) → InBounds e → InBounds f → step_of e ≡ step_of f → e ≡ f
same_step (Usage j) (Usage l) b c h = ap Usage h
same_step (Map j) (Map l) b c h = let x : j ≡ l = omega arith in ap Map x
same_step (Inode n) (Inode m) b c h = let x : n ≡ m = omega arith in ap Inode x
same_step (Double n) (Double m) b c h = let x : n ≡ m = omega arith in ap Double x
same_step (Leaf n zero) (Leaf m zero) b c h = let x : n ≡ m = omega arith in ap (λ (x : ℕ). Leaf x 0) x
same_step (Leaf n (suc q)) (Leaf m (suc p)) b c h = let x : n ≡ m = omega arith in let y : q ≡ p = omega arith in
    ap₂ (λ (x y : ℕ). Leaf x (suc y)) x y
same_step (Data n i) (Data m k) b c h = let x : n ≡ m = omega arith in let y : i ≡ k = omega arith in ap₂ Data x y
same_step e (Leaf m zero) b c h = absurd (omega arith)
same_step e f b c h = absurd (omega arith)

-- what was reached before isn't of a later stage
pub stage_before : (e f : Entry) → InBounds e → InBounds f → step_of f ≤ step_of e → stage_of f ≤ stage_of e
stage_before (Leaf n zero) (Leaf m zero) b c h = omega arith
stage_before e (Leaf m zero) b c h = omega arith
stage_before e f b c h = omega arith

-- where each stage's steps end
pub within : (e : Entry) → InBounds e → (stage_of e ≤ 1 → step_of e < 16) × (stage_of e ≤ 3 → step_of e < 48)
    × (stage_of e ≤ 4 → step_of e < 4144) × (stage_of e ≤ 5 → step_of e < 12336) × (stage_of e ≤ 6 → step_of e < 536624)
    × (step_of e < 68628528)
within (Leaf n zero) b = omega arith
within e b = omega arith

-- an entry of which none is reached is passed by
pub skip_to : {v : View} {marks : List ℕ} {r s : ℕ} → Walked v marks r → r ≤ s
    → ((e : Entry) → InBounds e → r ≤ step_of e → step_of e < s → Reached v e → ⊥) → Walked v marks s
skip_to {v} {r} {s} w le none =
    let now : (f : Entry) → InBounds f → step_of f < s → Reached v f → step_of f < r = λ f c lt reached.
    ⊎_elim (λ (x : step_of f < r). x) (λ (x : r ≤ step_of f). absurd (none f c x lt reached)) (cases_lt (step_of f) r) in
    record {
      size = w.size;
      held = λ a p is. let h = w.held a p is in (h.0, h.1, omega (arith, h.2), h.3, h.4, h.5);
      marked = λ f lt c reached. w.marked f (now f c lt reached) c reached;
      low = λ f lt c reached. w.low f (now f c lt reached) c reached;
      good = λ f lt c reached. w.good f (now f c lt reached) c reached;
    }

module _ {v : View} {marks : List ℕ} {r : ℕ} (w : Walked v marks r) (e : Entry) (here : step_of e ≡ r) (b : InBounds e) where
  earlier : (f : Entry) → InBounds f → step_of f < suc r → (f ≡ e) ⊎ (step_of f < r)
  earlier f c lt = ⊎_elim (λ (same : step_of f ≡ r). inl (same_step f e c b (same ∙ sym here)))
      (λ (other : step_of f ≡ r → ⊥). inr (omega arith)) (cases_eq (step_of f) r)

  -- an entry without an address is passed by
  pub skip : v.address e ≡ 0 → Walked v marks (suc r)
  skip none = skip_to w (omega arith) (λ f c le lt reached.
      let y = ap v.address (same_step f e c b (omega arith)) in omega (arith, y, reached, none))

  -- an entry whose address is open, and whose block is good, is taken
  pub take_one : IsUnmarked marks (v.address e) → IsGood v e → Walked v (set marks (v.address e) (suc r)) (suc r)
  take_one o is =
      let a = v.address e in
      let inside : a < length marks = o.within in
      let there : get_or (set marks a (suc r)) a 0 ≡ suc r = get_or-set_same marks a (suc r) 0 inside in
      record {
        size = length-set marks a (suc r) ∙ w.size;
        held = λ x p m. ⊎_elim
            (λ (same : x ≡ a). let q : suc p ≡ suc r = sym m ∙ ap (λ (y : ℕ). get_or (set marks a (suc r)) y 0) same ∙ there in
            let n = o.low in (e, omega arith, omega arith, b, omega arith, sym same))
            (λ (other : x ≡ a → ⊥). let h = w.held x p (sym (get_or-set_other marks a x (suc r) 0 other) ∙ m) in
            (h.0, h.1, omega (arith, h.2), h.3, h.4, h.5))
            (cases_eq x a);
        marked = λ f lt c reached. ⊎_elim
            (λ (x : f ≡ e). ap (λ (y : Entry). get_or (set marks a (suc r)) (v.address y) 0) x ∙ there
            ∙ ap suc (sym here ∙ ap step_of (sym x)))
            (λ (x : step_of f < r). get_or-set_other marks a (v.address f) (suc r) 0
            (λ same. let z = ap (λ (y : ℕ). get_or marks y 0) same in omega (arith, o.unmarked)) ∙ w.marked f x c reached)
            (earlier f c lt);
        low = λ f lt c reached. ⊎_elim
            (λ (x : f ≡ e). omega (arith, o.low, ap v.address x))
            (λ (x : step_of f < r). w.low f x c reached) (earlier f c lt);
        good = λ f lt c reached. ⊎_elim
            (λ (x : f ≡ e). subst (IsGood v) (sym x) is)
            (λ (x : step_of f < r). w.good f x c reached) (earlier f c lt);
      }

  unmarked_from : Fresh v (stage_of e) → Reached v e → (m : ℕ) → get_or marks (v.address e) 0 ≡ m → m ≡ 0
  unmarked_from fresh reached zero is = refl
  unmarked_from fresh reached (suc p) is =
      let h = w.held (v.address e) p is in
      let f = fresh e refl reached in
      let same = f.2 h.0 (stage_before e h.0 b h.3 (omega (arith, h.2, h.1))) h.5 in
      absurd (omega (arith, ap step_of same, h.2, h.1))

  -- where the stage's addresses are fresh, the entry's is open
  pub is_open : Fresh v (stage_of e) → Reached v e → IsUnmarked marks (v.address e)
  is_open fresh reached =
      let f = fresh e refl reached in
      record {
        low = f.0;
        within = omega (arith, w.size, f.1);
        unmarked = unmarked_from fresh reached (get_or marks (v.address e) 0) refl;
      }

pub inside_marks : (marks : List ℕ) (a : ℕ) {p : ℕ} → get_or marks a 0 ≡ suc p → a < length marks
inside_marks marks a is = ⊎_elim (λ (lt : a < length marks). lt)
    (λ (le : length marks ≤ a). absurd (omega (arith, get_or_past marks a 0 le))) (cases_lt a (length marks))

pub fresh_of : {v : View} {marks : List ℕ} {r : ℕ} → Walked v marks r → IsBounded v → (k : ℕ)
    → ((f : Entry) → InBounds f → stage_of f ≤ k → step_of f < r) → Fresh v k
fresh_of {v} {marks} {r} w bounded k before = λ e is reached.
    let b = bounded e reached in
    let lt : step_of e < r = before e b (omega arith) in
    let m = w.marked e lt b reached in (
      w.low e lt b reached,
      omega (arith, w.size, inside_marks marks (v.address e) m),
      λ f le same.
          let c = bounded f (omega arith) in
          let n = w.marked f (before f c le) c (omega arith) in
          let x : suc (step_of f) ≡ suc (step_of e) = sym n ∙ ap (λ (a : ℕ). get_or marks a 0) same ∙ m in
          same_step f e c b (omega arith),
    )

-- what was reached before is good
good_at : {v : View} {marks : List ℕ} {r : ℕ} → Walked v marks r → IsBounded v → (e : Entry) → (InBounds e → step_of e < r) → Reached v e
    → IsGood v e
good_at w bounded e before reached = let b = bounded e reached in w.good e (before b) b reached

pub roots_of : (v : View) (marks : List ℕ) → Walked v marks 12336 → IsBounded v → Roots v
roots_of v marks w bounded = record {
  fresh = fresh_of w bounded 5 (λ e b. (within e b).3);
  single = λ n. good_at w bounded (Leaf n 0) (λ b. omega arith);
  double = λ n. good_at w bounded (Double n) (λ b. omega arith);
}

pub leaves_of : (v : View) (marks : List ℕ) → Walked v marks 536624 → IsBounded v → Leaves v
leaves_of v marks w bounded = record {
  fresh = fresh_of w bounded 6 (λ e b. (within e b).4);
  nonempty = λ n q. good_at w bounded (Leaf n (suc q)) (λ b. omega arith);
}

pub blocks_of : (v : View) (marks : List ℕ) → Walked v marks 68628528 → IsBounded v → Blocks v
blocks_of v marks w bounded =
    let good = λ (n i : ℕ). good_at w bounded (Data n i) (λ b. omega arith) in
    record {
      fresh = fresh_of w bounded 7 (λ e b le. (within e b).5);
      nonzero = λ n i reached. (good n i reached).nonzero;
      within = λ n i reached. (good n i reached).within;
      past = λ n i reached. (good n i reached).past;
    }

pub inodes_of : {v : View} (marks : List ℕ) → Walked v marks 4144 → IsBounded v → (header (v.block (Inode 1))).kind ≡ Directory → Inodes v
inodes_of {v} marks w bounded root = record {
  fresh = fresh_of w bounded 4 (λ e b. (within e b).2);
  formed = λ n. good_at w bounded (Inode n) (λ b. omega arith);
  root = root;
}

pub maps_of : (v : View) {marks : List ℕ} → Walked v marks 48 → IsBounded v → v.address (Inode 0) ≡ 0 → Reached v (Inode 1) → Maps v
maps_of v {marks} w bounded none root = record {
  fresh = fresh_of w bounded 3 (λ e b. (within e b).1);
  nonempty = λ n. good_at w bounded (Map n) (λ b. omega arith);
  none = none;
  root = root;
}

-- nothing is marked before the first step
pub walked_start : (v : View) {marks : List ℕ} → length marks ≡ 2 + 64 * v.checkpoint.segments → ((a : ℕ) → get_or marks a 0 ≡ 0)
    → Walked v marks 0
walked_start v long clear = record {
  size = long;
  held = λ a p is. absurd (omega (arith, clear a));
  marked = λ e lt b reached. absurd (omega arith);
  low = λ e lt b reached. absurd (omega arith);
  good = λ e lt b reached. absurd (omega arith);
}
