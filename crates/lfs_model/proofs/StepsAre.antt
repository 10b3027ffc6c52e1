-- Step has at most one outcome, the plain program computes it, and on a tree whose names give nodes there is one.
use Rattle.std.proofs.Common.{◌≡◌, refl, sym, ap, subst, ◌∙◌, ℕ, zero, suc, ◌-◌, ◌≤◌, Bool, true, false, ◌||◌, List, [], ◌∷◌, ◌++◌, Option}
use Rattle.std.proofs.Common.{Some, None, arith}
use Rattle.std.specs.Prelude.{MatchOption, option_and_then, option_map}
use Rattle.lfs_model.specs.Tree.{Tree, State, up}
use Rattle.lfs_model.specs.Refusal.{Refusal, Loop}
use Rattle.lfs_model.specs.PathText.{comps, slash, but_last, text_refusal}
use Rattle.lfs_model.specs.Walk.{Walk, End, At, Refused, more, start, slash_with}
use Rattle.lfs_model.specs.Sound.{NamesGive}
use Rattle.lfs_model.specs.Call.{Call, Answer}
use Rattle.lfs_model.specs.Step.{Path, Whole, Holder, NoPath, PathEnds, path_of, second_path_of, outcome, Step, Steps, none, next}
use Rattle.lfs_model.specs.Plain.{Seen, Here, Above, TooLong, Absent, ADir, AFile, ALink, Nowhere, look, turn, walk_in, walk_to, ends_to}
use Rattle.lfs_model.specs.Plain.{path_to, step_to, run_to, onto}
use Rattle.lfs_model.proofs.Walks.{walk_to_walks, walks_once, walk_unique, Some-injective, Means, look_means}

-- ---- the ends of a path

ends_are : (W : End → Type 0) (r : Option Refusal) (w : Option End) → ((e : End) → w ≡ Some e → W e) → (e : End) → ends_to r w ≡ Some e
    → MatchOption r (W e) (λ r. e ≡ Refused r)
ends_are W None w h e is = h e is
ends_are W (Some r) w h e is = sym (Some-injective is)

pub path_to_ends : (t : Tree) (p : Path) (e : End) → path_to t p ≡ Some e → PathEnds t p e
path_to_ends t (Whole p follow) e is = ends_are (Walk t follow 1 (comps p) (slash p) 0) (text_refusal p) _
    (λ f h. walk_to_walks t follow 40 0 refl 1 (comps p) (slash p) f h) e is
path_to_ends t (Holder p) e is = ends_are (Walk t true 1 (but_last (comps p)) true 0) (text_refusal p) _
    (λ f h. walk_to_walks t true 40 0 refl 1 (but_last (comps p)) true f h) e is
path_to_ends t NoPath e is = sym (Some-injective is)

are_ends : (W : End → Type 0) (r : Option Refusal) (w : Option End) → ((e : End) → W e → w ≡ Some e) → (e : End)
    → MatchOption r (W e) (λ r. e ≡ Refused r) → ends_to r w ≡ Some e
are_ends W None w h e is = h e is
are_ends W (Some r) w h e is = ap Some (sym is)

pub path_ends_to : (t : Tree) (p : Path) (e : End) → PathEnds t p e → path_to t p ≡ Some e
path_ends_to t (Whole p follow) e is =
    are_ends (Walk t follow 1 (comps p) (slash p) 0) (text_refusal p) _ (λ f h. walks_once h 40 refl) e is
path_ends_to t (Holder p) e is = are_ends (Walk t true 1 (but_last (comps p)) true 0) (text_refusal p) _ (λ f h. walks_once h 40 refl) e is
path_ends_to t NoPath e is = ap Some (sym is)

-- ---- steps

steps_with : (N : ℕ) (s : State) (call : Call) (e f : Option End) → path_to s.tree (path_of call) ≡ e
    → path_to s.tree (second_path_of call) ≡ f
    → (r : Answer × State) → option_and_then (λ e. option_map (λ f. outcome N s call e f) f) e ≡ Some r → Step N s call r.0 r.1
steps_with N s call (Some e) (Some f) h k r is =
    let same = Some-injective is in
    record {
      first_end = e;
      second_end = f;
      first = path_to_ends s.tree (path_of call) e h;
      second = path_to_ends s.tree (second_path_of call) f k;
      answer = ap (λ p. p.0) same;
      state = ap (λ p. p.1) same;
    }
steps_with N s call (Some e) None h k r is = cc
steps_with N s call None f h k r is = cc

pub step_to_steps : (N : ℕ) (s : State) (call : Call) (r : Answer × State) → step_to N s call ≡ Some r → Step N s call r.0 r.1
step_to_steps N s call r is = steps_with N s call _ _ refl refl r is

pub steps_once : {N : ℕ} {s s' : State} {call : Call} {a : Answer} → Step N s call a s' → step_to N s call ≡ Some (a, s')
steps_once {N} {s} {s'} {call} {a} st =
    let e = path_ends_to s.tree (path_of call) st.first_end st.first in
    let f = path_ends_to s.tree (second_path_of call) st.second_end st.second in
    ap (λ e. option_and_then (λ e. option_map (λ f. outcome N s call e f) (path_to s.tree (second_path_of call))) e) e
    ∙ ap (λ f. option_map (λ f. outcome N s call st.first_end f) f) f
    ∙ ap Some (λ i. (st.answer i, st.state i))

-- a call has one outcome at most
pub step_unique : {N : ℕ} {s s' s'' : State} {call : Call} {a b : Answer} → Step N s call a s' → Step N s call b s'' → (a ≡ b) × (s' ≡ s'')
step_unique {s' = s'} {s'' = s''} {a = a} {b = b} x y =
    let same : ◌≡◌ {A = Answer × State} (a, s') (b, s'') = Some-injective (sym (steps_once x) ∙ steps_once y) in
    (ap (λ p. p.0) same, ap (λ p. p.1) same)

onto_some : (a : Answer) (o : Option (List Answer × State)) (r : List Answer × State) → onto a o ≡ Some r
    → (q : List Answer × State) × (o ≡ Some q) × (r ≡ (a ∷ q.0, q.1))
onto_some a (Some q) r e = (q, refl, sym (Some-injective e))
onto_some a None r e = cc

-- what the program computes for a list of calls is a run of steps
pub run_to_steps : (N : ℕ) (s : State) (calls : List Call) (r : List Answer × State) → run_to N s calls ≡ Some r → Steps N s calls r.0 r.1
run_to_steps N s [] r is = subst (λ (q : List Answer × State). Steps N s [] q.0 q.1) (Some-injective is) none
run_to_steps N s (call ∷ calls) r is =
    elim (step_to N s call) as (λ o. step_to N s call ≡ o → elim o as (λ _. Option (List Answer × State))
    [ None ↦ None | Some r ↦ onto r.0 (run_to N r.1 calls) ] ≡ Some r → Steps N s (call ∷ calls) r.0 r.1) [
      | None ↦ λ h is. cc
      | Some q ↦ λ h is. let rest = onto_some q.0 (run_to N q.1 calls) r is in
          subst (λ (p : List Answer × State). Steps N s (call ∷ calls) p.0 p.1) (sym rest.2)
          (next (step_to_steps N s call q h) (run_to_steps N q.1 calls rest.0 rest.1))
    ] refl is

-- ---- there is an end

abbrev pub EndsIn : Option End → Type 0
EndsIn w = (e : End) × (w ≡ Some e)

turn_ends : (t : Tree) (follow : Bool) → NamesGive t → (again : ℕ → List (List ℕ) → Bool → Option End)
    → ((d : ℕ) (ps : List (List ℕ)) (s : Bool) → EndsIn (again d ps s))
    → (d : ℕ) (p : List ℕ) (ps : List (List ℕ)) (s : Bool) → ((to : ℕ) → EndsIn (walk_in t follow again to ps s)) → (v : Seen)
    → Means t d p v → EndsIn (turn t follow again (λ to. walk_in t follow again to ps s) d ps s v)
turn_ends t follow whole again h d p ps s go Here m = go d
turn_ends t follow whole again h d p ps s go Above m = go (up t d)
turn_ends t follow whole again h d p ps s go TooLong m = (_, refl)
turn_ends t follow whole again h d p ps s go Absent m = (_, refl)
turn_ends t follow whole again h d p ps s go (ADir n) m = go n
turn_ends t follow whole again h d p ps s go (AFile n) m = (_, refl)
turn_ends t follow whole again h d p ps s go (ALink n text) m =
    elim (more ps s || follow) as (λ b. EndsIn (elim b as (λ _. Option End)
    [ true ↦ again (start text d) (comps text ++ ps) (slash_with text ps s) | false ↦ Some (At n) ])) [
      | true ↦ h _ _ _
      | false ↦ (_, refl)
    ]
turn_ends t follow whole again h d p ps s go Nowhere m = absurd (whole d p m.1.0 m.1.1 m.1.2)

walk_in_ends : (t : Tree) (follow : Bool) → NamesGive t → (again : ℕ → List (List ℕ) → Bool → Option End)
    → ((d : ℕ) (ps : List (List ℕ)) (s : Bool) → EndsIn (again d ps s))
    → (ps : List (List ℕ)) (d : ℕ) (s : Bool) → EndsIn (walk_in t follow again d ps s)
walk_in_ends t follow whole again h [] d s = (_, refl)
walk_in_ends t follow whole again h (p ∷ ps) d s =
    turn_ends t follow whole again h d p ps s (λ to. walk_in_ends t follow whole again h ps to s) (look t d p) (look_means t d p)

pub walk_to_ends : (t : Tree) (follow : Bool) → NamesGive t → (n d : ℕ) (ps : List (List ℕ)) (s : Bool) → EndsIn (walk_to n t follow d ps s)
walk_to_ends t follow whole zero d ps s = walk_in_ends t follow whole (λ d ps s. Some (Refused Loop)) (λ d ps s. (_, refl)) ps d s
walk_to_ends t follow whole (suc n) d ps s = walk_in_ends t follow whole (walk_to n t follow) (walk_to_ends t follow whole n) ps d s

-- from any place and with at most 40 links followed there is exactly one end
pub walk_ends : (t : Tree) (follow : Bool) → NamesGive t → (d : ℕ) (ps : List (List ℕ)) (s : Bool) (k : ℕ) → k ≤ 40
    → (e : End) × Walk t follow d ps s k e × ((f : End) → Walk t follow d ps s k f → f ≡ e)
walk_ends t follow whole d ps s k few =
    let w = walk_to_ends t follow whole (40 - k) d ps s in
    let there = walk_to_walks t follow (40 - k) k (omega arith) d ps s w.0 w.1 in
    (w.0, there, λ f h. walk_unique few h there)

path_to_is : (t : Tree) (follow : Bool) → NamesGive t → (r : Option Refusal) (ps : List (List ℕ)) (s : Bool)
    → EndsIn (ends_to r (walk_to 40 t follow 1 ps s))
path_to_is t follow whole None ps s = walk_to_ends t follow whole 40 1 ps s
path_to_is t follow whole (Some r) ps s = (Refused r, refl)

path_is : (t : Tree) → NamesGive t → (p : Path) → EndsIn (path_to t p)
path_is t whole (Whole p follow) = path_to_is t follow whole (text_refusal p) (comps p) (slash p)
path_is t whole (Holder p) = path_to_is t true whole (text_refusal p) (but_last (comps p)) true
path_is t whole NoPath = (At 1, refl)

-- a call has an outcome
pub step_ends : (N : ℕ) (s : State) → NamesGive s.tree → (call : Call) → (a : Answer) × (s' : State) × Step N s call a s'
step_ends N s whole call =
    let e = path_is s.tree whole (path_of call) in let f = path_is s.tree whole (second_path_of call) in (
      (outcome N s call e.0 f.0).0,
      (outcome N s call e.0 f.0).1,
      record {
        first_end = e.0;
        second_end = f.0;
        first = path_to_ends s.tree (path_of call) e.0 e.1;
        second = path_to_ends s.tree (second_path_of call) f.0 f.1;
        answer = refl;
        state = refl;
      },
    )
