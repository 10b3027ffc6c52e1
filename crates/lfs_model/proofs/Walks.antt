-- The walk as a relation is the plain program's, so it has one end at most.
use Rattle.std.proofs.Common.{◌≡◌, ◌≢◌, refl, sym, ap, subst, ◌∙◌, ℕ, zero, suc, ◌+◌, ◌-◌, ◌<◌, ◌≤◌, Bool, true, false, ◌||◌, ◌&&◌, List}
use Rattle.std.proofs.Common.{[], ◌∷◌, ◌++◌, length, Option, Some, None, eqb, arith}
use Rattle.std.specs.Prelude.{nat_lt, if◌then◌else◌}
use Rattle.std.proofs.lemmas.Bool.{eqb-true, eq-eqb}
use Rattle.std.proofs.lemmas.Bool.Decides.{nat_tests}
use Rattle.lfs_model.specs.Tree.{Tree, Names, Node, File, Dir, Link, node, entry, up, same_name, form_of, name_len, name_limit}
use Rattle.lfs_model.specs.Refusal.{NotDir, Loop}
use Rattle.lfs_model.specs.PathText.{comps}
use Rattle.lfs_model.specs.Walk.{Walk, no_piece, stays, goes_up, too_long, not_there, directory, file, not_dir, link, loops, followed}
use Rattle.lfs_model.specs.Walk.{IsLookedUp, Gives, End, At, Refused, dot, dot_dot, more, start, slash_with}
use Rattle.lfs_model.specs.Plain.{Seen, Here, Above, TooLong, Absent, ADir, AFile, ALink, Nowhere, seen_node, seen_entry, look, turn}
use Rattle.lfs_model.specs.Plain.{walk_in, walk_to}

and_true : (a b : Bool) → (a && b) ≡ true → (a ≡ true) × (b ≡ true)
and_true true true e = (refl, refl)
and_true true false e = cc
and_true false b e = cc

pub same_name-true : (x y : List ℕ) → same_name x y ≡ true → x ≡ y
same_name-true [] [] e = refl
same_name-true [] (b ∷ y) e = cc
same_name-true (a ∷ x) [] e = cc
same_name-true (a ∷ x) (b ∷ y) e =
    let parts = and_true (eqb a b) (same_name x y) e in
    let head = eqb-true a b parts.0 in let tail = same_name-true x y parts.1 in cc

pub same_name-refl : (x : List ℕ) → same_name x x ≡ true
same_name-refl [] = refl
same_name-refl (a ∷ x) = rw (eq-eqb a a refl) (same_name-refl x)

pub same_name-false : (x y : List ℕ) → same_name x y ≡ false → x ≢ y
same_name-false x y e p = let h : same_name x x ≡ false = subst (λ z. same_name x z ≡ false) (sym p) e in let k = same_name-refl x in cc

pub apart : (x y : List ℕ) → x ≢ y → same_name x y ≡ false
apart x y ne = elim (same_name x y) as (λ b. same_name x y ≡ b → b ≡ false)
    [ true ↦ λ e. absurd (ne (same_name-true x y e)) | false ↦ λ e. refl ] refl

-- dot and dot-dot are no longer than a name may be
limit_space : (form : ℕ) → 2 ≤ name_len form
limit_space zero = omega arith
limit_space (suc form) = omega arith

-- what an answer of `look` means
abbrev pub Means : Tree → ℕ → List ℕ → Seen → Type 0
Means t d p Here = p ≡ dot
Means t d p Above = p ≡ dot_dot
Means t d p TooLong = name_limit t d < length p
Means t d p Absent = IsLookedUp t d p × (entry t d p ≡ None)
Means t d p (ADir n) = (form : ℕ) × (m : Names) × Gives t d p n (Dir form m)
Means t d p (AFile n) = (b : List ℕ) × Gives t d p n (File b)
Means t d p (ALink n text) = Gives t d p n (Link text)
Means t d p Nowhere = IsLookedUp t d p × ((n : ℕ) × (entry t d p ≡ Some n) × (node t n ≡ None))

means_node : (t : Tree) (d : ℕ) (p : List ℕ) (n : ℕ) → IsLookedUp t d p → entry t d p ≡ Some n → (o : Option Node) → node t n ≡ o
    → Means t d p (seen_node n o)
means_node t d p n is e (Some (File b)) h = (b, record { is_name = is; is_there = e; is_node = h })
means_node t d p n is e (Some (Dir form m)) h = (form, m, record { is_name = is; is_there = e; is_node = h })
means_node t d p n is e (Some (Link text)) h = record { is_name = is; is_there = e; is_node = h }
means_node t d p n is e None h = (is, (n, e, h))

means_entry : (t : Tree) (d : ℕ) (p : List ℕ) → IsLookedUp t d p → (o : Option ℕ) → entry t d p ≡ o → Means t d p (seen_entry t o)
means_entry t d p is None e = (is, e)
means_entry t d p is (Some n) e = means_node t d p n is e (node t n) refl

pub look_means : (t : Tree) (d : ℕ) (p : List ℕ) → Means t d p (look t d p)
look_means t d p =
    elim (same_name p dot) as (λ b. same_name p dot ≡ b → Means t d p (if b then Here else (if same_name p dot_dot then Above
    else (if nat_lt (name_limit t d) (length p) then TooLong else seen_entry t (entry t d p))))) [
      | true ↦ λ e. same_name-true p dot e
      | false ↦ λ e. elim (same_name p dot_dot) as (λ b. same_name p dot_dot ≡ b
          → Means t d p (if b then Above else (if nat_lt (name_limit t d) (length p) then TooLong else seen_entry t (entry t d p)))) [
            | true ↦ λ f. same_name-true p dot_dot f
            | false ↦ λ f. elim (nat_lt (name_limit t d) (length p))
                as (λ b. nat_lt (name_limit t d) (length p) ≡ b → Means t d p (if b then TooLong else seen_entry t (entry t d p))) [
                  | true ↦ λ g. grind (arith, nat_tests)
                  | false ↦ λ g. means_entry t d p (record {
                    not_dot = same_name-false p dot e;
                    not_dot_dot = same_name-false p dot_dot f;
                    short = grind (arith, nat_tests);
                  }) (entry t d p) refl
                ] refl
          ] refl
    ] refl

-- one answer has the meaning that holds
look_name : (t : Tree) (d : ℕ) (p : List ℕ) → IsLookedUp t d p → look t d p ≡ seen_entry t (entry t d p)
look_name t d p is = rw (apart p dot is.not_dot, apart p dot_dot is.not_dot_dot, short_is) refl
  where
    short_is : nat_lt (name_limit t d) (length p) ≡ false
    short_is = let h = is.short in grind (arith, nat_tests)

pub look_gives : {t : Tree} {d : ℕ} {p : List ℕ} {n : ℕ} {x : Node} → Gives t d p n x → look t d p ≡ seen_node n (Some x)
look_gives {t} {d} {p} {n} {x} g = look_name t d p g.is_name ∙ ap (seen_entry t) g.is_there ∙ ap (seen_node n) g.is_node

pub Some-injective : {A : Type 0} {x y : A} → Some x ≡ Some y → x ≡ y
Some-injective e = cc

-- ---- what the program computes is a walk

module _ (t : Tree) (follow : Bool) (k : ℕ) (again : ℕ → List (List ℕ) → Bool → Option End) where
  -- what walking on from a link's text gives
  abbrev pub Follows : Type 0
  Follows = (d n : ℕ) (text p : List ℕ) (ps : List (List ℕ)) (s : Bool) (e : End) → Gives t d p n (Link text) → (more ps s || follow) ≡ true
      → again (start text d) (comps text ++ ps) (slash_with text ps s) ≡ Some e → Walk t follow d (p ∷ ps) s k e

  turn_walks : Follows → (d : ℕ) (p : List ℕ) (ps : List (List ℕ)) (s : Bool) (e : End)
      → ((to : ℕ) (f : End) → walk_in t follow again to ps s ≡ Some f → Walk t follow to ps s k f)
      → (v : Seen) → Means t d p v → turn t follow again (λ to. walk_in t follow again to ps s) d ps s v ≡ Some e
      → Walk t follow d (p ∷ ps) s k e
  turn_walks fs d p ps s e go Here m is = stays m (go d e is)
  turn_walks fs d p ps s e go Above m is = goes_up m (go (up t d) e is)
  turn_walks fs d p ps s e go TooLong m is = subst (λ f. Walk t follow d (p ∷ ps) s k f) (Some-injective is) (too_long m)
  turn_walks fs d p ps s e go Absent m is = subst (λ f. Walk t follow d (p ∷ ps) s k f) (Some-injective is) (not_there m.0 m.1)
  turn_walks fs d p ps s e go (ADir n) m is = directory m.2 (go n e is)
  turn_walks fs d p ps s e go (AFile n) m is =
      elim (more ps s) as (λ b. more ps s ≡ b → Some (if b then Refused NotDir else At n) ≡ Some e → Walk t follow d (p ∷ ps) s k e) [
        | true ↦ λ h is. subst (λ f. Walk t follow d (p ∷ ps) s k f) (Some-injective is) (not_dir m.1 h)
        | false ↦ λ h is. subst (λ f. Walk t follow d (p ∷ ps) s k f) (Some-injective is) (file m.1 h)
      ] refl is
  turn_walks fs d p ps s e go (ALink n text) m is =
      elim (more ps s || follow) as (λ b. (more ps s || follow) ≡ b → elim b as (λ _. Option End) [
        | true ↦ again (start text d)
            (comps text ++ ps) (slash_with text ps s)
        | false ↦ Some (At n)
      ] ≡ Some e → Walk t follow d (p ∷ ps) s k e) [
        | true ↦ λ h is. fs d n text p ps s e m h is
        | false ↦ λ h is. subst (λ f. Walk t follow d (p ∷ ps) s k f) (Some-injective is) (link m h)
      ] refl is
  turn_walks fs d p ps s e go Nowhere m is = cc

  walk_in_walks : Follows → (ps : List (List ℕ)) (d : ℕ) (s : Bool) (e : End) → walk_in t follow again d ps s ≡ Some e
      → Walk t follow d ps s k e
  walk_in_walks fs [] d s e is = subst (λ f. Walk t follow d [] s k f) (Some-injective is) no_piece
  walk_in_walks fs (p ∷ ps) d s e is = turn_walks fs d p ps s e (λ to f h. walk_in_walks fs ps to s f h) (look t d p) (look_means t d p) is

-- with n links left, k being followed
pub walk_to_walks : (t : Tree) (follow : Bool) (n k : ℕ) → k + n ≡ 40 → (d : ℕ) (ps : List (List ℕ)) (s : Bool) (e : End)
    → walk_to n t follow d ps s ≡ Some e → Walk t follow d ps s k e
walk_to_walks t follow zero k all d ps s e is =
    walk_in_walks t follow k (λ d ps s. Some (Refused Loop))
    (λ d n text p ps s e g h is. subst (λ f. Walk t follow d (p ∷ ps) s k f) (Some-injective is) (loops g h (omega arith))) ps d s e is
walk_to_walks t follow (suc n) k all d ps s e is =
    walk_in_walks t follow k (walk_to n t follow)
    (λ d m text p ps s e g h is. followed g h (omega arith) (walk_to_walks t follow n (k + 1) (omega arith) _ _ _ e is)) ps d s e is

-- ---- and each walk is what it computes

look_dot : (t : Tree) (d : ℕ) (p : List ℕ) → p ≡ dot → look t d p ≡ Here
look_dot t d p e = subst (λ q. look t d q ≡ Here) (sym e) refl

look_dot_dot : (t : Tree) (d : ℕ) (p : List ℕ) → p ≡ dot_dot → look t d p ≡ Above
look_dot_dot t d p e = subst (λ q. look t d q ≡ Above) (sym e) refl

look_long : (t : Tree) (d : ℕ) (p : List ℕ) → name_limit t d < length p → look t d p ≡ TooLong
look_long t d p long =
    let wide = limit_space (form_of (node t d)) in
    let one : p ≢ dot = λ e. absurd (let n = ap length e in omega arith) in
    let two : p ≢ dot_dot = λ e. absurd (let n = ap length e in omega arith) in
    let is : nat_lt (name_limit t d) (length p) ≡ true = grind (arith, nat_tests) in
    rw (apart p dot one, apart p dot_dot two, is) refl

look_absent : (t : Tree) (d : ℕ) (p : List ℕ) → IsLookedUp t d p → entry t d p ≡ None → look t d p ≡ Absent
look_absent t d p is e = look_name t d p is ∙ ap (seen_entry t) e

-- the walk from a link's text, with n links left
abbrev pub later : ℕ → Tree → Bool → ℕ → List (List ℕ) → Bool → Option End
later zero t follow = λ d ps s. Some (Refused Loop)
later (suc n) t follow = walk_to n t follow

abbrev pub one_turn : ℕ → Tree → Bool → ℕ → List (List ℕ) → Bool → Seen → Option End
one_turn n t follow d ps s = turn t follow (later n t follow) (λ to. walk_to n t follow to ps s) d ps s

turns : (n : ℕ) (t : Tree) (follow : Bool) (d : ℕ) (p : List ℕ) (ps : List (List ℕ)) (s : Bool)
    → walk_to n t follow d (p ∷ ps) s ≡ one_turn n t follow d ps s (look t d p)
turns zero t follow d p ps s = refl
turns (suc n) t follow d p ps s = refl

pub at_once : (n : ℕ) (t : Tree) (follow : Bool) (d : ℕ) (s : Bool) → walk_to n t follow d [] s ≡ Some (At d)
at_once zero t follow d s = refl
at_once (suc n) t follow d s = refl

pub turns_at : (t : Tree) (d : ℕ) (p : List ℕ) {v : Seen} (n : ℕ) (follow : Bool) (ps : List (List ℕ)) (s : Bool) → look t d p ≡ v
    → walk_to n t follow d (p ∷ ps) s ≡ one_turn n t follow d ps s v
turns_at t d p {v} n follow ps s e = turns n t follow d p ps s ∙ ap (one_turn n t follow d ps s) e

linked : {t : Tree} {d n : ℕ} {p text : List ℕ} (ps : List (List ℕ)) (s follow : Bool) (b : Bool) (m : ℕ) → Gives t d p n (Link text)
    → (more ps s || follow) ≡ b
    → walk_to m t follow d (p ∷ ps) s ≡ elim b as (λ _. Option End)
    [ true ↦ later m t follow (start text d) (comps text ++ ps) (slash_with text ps s) | false ↦ Some (At n) ]
linked {t} {d} {n} {p} {text} ps s follow b m g h = turns_at _ _ _ m follow ps s (look_gives g)
    ∙ ap (λ v. elim v as (λ _. Option End)
    [ true ↦ later m t follow (start text d) (comps text ++ ps) (slash_with text ps s) | false ↦ Some (At n) ]) h

-- a walk with k links followed, where n more may be
pub walks_once : {t : Tree} {follow : Bool} {d : ℕ} {ps : List (List ℕ)} {s : Bool} {k : ℕ} {e : End} → Walk t follow d ps s k e → (n : ℕ)
    → k + n ≡ 40 → walk_to n t follow d ps s ≡ Some e
walks_once {t} {follow} (no_piece {d} {s} {k}) n all = at_once n t follow d s
walks_once {t} {follow} (stays {d} {piece} {ps} {s} {k} {e} is w) n all = turns_at _ _ _ n follow ps s (look_dot t d piece is)
    ∙ walks_once w n all
walks_once {t} {follow} (goes_up {d} {piece} {ps} {s} {k} {e} is w) n all = turns_at _ _ _ n follow ps s (look_dot_dot t d piece is)
    ∙ walks_once w n all
walks_once {t} {follow} (too_long {d} {piece} {ps} {s} {k} long) n all = turns_at _ _ _ n follow ps s (look_long t d piece long)
walks_once {t} {follow} (not_there {d} {piece} {ps} {s} {k} is none) n all = turns_at _ _ _ n follow ps s (look_absent t d piece is none)
walks_once {t} {follow} (directory {ps = ps} {s = s} g w) n all = turns_at _ _ _ n follow ps s (look_gives g) ∙ walks_once w n all
walks_once {t} {follow} (file {n = f} {ps = ps} {s = s} g h) n all = turns_at _ _ _ n follow ps s (look_gives g)
    ∙ ap (λ b. Some (if b then Refused NotDir else At f)) h
walks_once {t} {follow} (not_dir {n = f} {ps = ps} {s = s} g h) n all = turns_at _ _ _ n follow ps s (look_gives g)
    ∙ ap (λ b. Some (if b then Refused NotDir else At f)) h
walks_once {t} {follow} (link {ps = ps} {s = s} g h) n all = linked ps s follow false n g h
walks_once {t} {follow} (loops {ps = ps} {s = s} g h full) zero all = linked ps s follow true zero g h
walks_once {t} {follow} (loops {ps = ps} {s = s} g h full) (suc n) all = absurd (omega arith)
walks_once {t} {follow} (followed {ps = ps} {s = s} g h room w) zero all = absurd (omega arith)
walks_once {t} {follow} (followed {ps = ps} {s = s} g h room w) (suc n) all = linked ps s follow true (suc n) g h
    ∙ walks_once w n (omega arith)

-- from one place a walk has one end at most
pub walk_unique : {t : Tree} {follow : Bool} {d : ℕ} {ps : List (List ℕ)} {s : Bool} {k : ℕ} {e f : End} → k ≤ 40 → Walk t follow d ps s k e
    → Walk t follow d ps s k f → e ≡ f
walk_unique {k = k} few w v = Some-injective (sym (walks_once w (40 - k) (omega arith)) ∙ walks_once v (40 - k) (omega arith))
