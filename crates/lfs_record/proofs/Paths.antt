-- The path of a recorder's name in the root.
use Rattle.std.proofs.Common.{◌≡◌, ◌≢◌, ◌<◌, ◌≤◌, ℕ, Bool, true, false, cond, List, [], ◌∷◌, Option, Some, None, refl, sym, ap, ap₂, ◌∙◌}
use Rattle.std.proofs.Common.{subst}
use Rattle.std.proofs.Common.{length, arith}
use Rattle.std.specs.Prelude.{MatchOption, unwrap_or, ◌==◌, ◌||◌, if◌then◌else◌, nat_lt, filter}
use Rattle.std.specs.List.{AllByRecursion, list_any}
use Rattle.std.proofs.lemmas.Bool.{false≢true}
use Rattle.std.proofs.lemmas.Bool.Decides.{nat_tests}
use Rattle.lfs_model.specs.PathText.{before_parts, but_last, comps, last, parts, slash, text_refusal}
use Rattle.lfs_model.specs.Refusal.{Refusal}
use Rattle.lfs_model.specs.Step.{name}
use Rattle.lfs_model.specs.Tree.{Link, Tree, entry, node}
use Rattle.lfs_model.specs.Walk.{At, End, Parent, Refused, Resolve, Walk, directory, dot, dot_dot, file, followed, goes_up, link, loops}
use Rattle.lfs_model.specs.Walk.{more, no_piece, not_dir, not_there, stays, too_long}
use Rattle.lfs_record.specs.Names.{fits, is_digit, is_like, is_name, path_of}
use Rattle.lfs_record.proofs.Digits.{digit_bounds, name_pattern, same_lengths}
use Rattle.lfs_record.proofs.Oldest.{both}

-- a byte of a name is none of these
abbrev pub IsPlain : ℕ → Type 0
IsPlain b = (45 ≤ b) × (b ≢ 47) × (b ≤ 57)

plain : (p b : ℕ) → is_like p b ≡ true → IsPlain b
plain p b is =
    elim (p == 45) as (λ x. (if x then (b == 45) else is_digit b) ≡ true → IsPlain b) [
      | true ↦ λ is. (let same : b ≡ 45 = grind (arith, nat_tests) in (omega (arith, same), omega (arith, same), omega (arith, same)))
      | false ↦ λ is. (let d = digit_bounds b is in let low = d.0 in let high = d.1 in (omega (arith, low), omega (arith, low), high))
    ] is

pub all_plain : (pattern text : List ℕ) → fits pattern text ≡ true → AllByRecursion IsPlain text
all_plain [] [] is = tt
all_plain [] (b ∷ text) is = absurd (false≢true is)
all_plain (p ∷ pattern) [] is = tt
all_plain (p ∷ pattern) (b ∷ text) is =
    let x = both (is_like p b) (fits pattern text) is in (plain p b x.0, all_plain pattern text x.1)

-- a text without a slash is one part
one_part : (b : ℕ) (text : List ℕ) → AllByRecursion IsPlain (b ∷ text) → parts (b ∷ text) ≡ (b ∷ text) ∷ []
one_part b [] all = ap (λ (x : Bool). if x then [] ∷ [] ∷ [] else (b ∷ []) ∷ []) (other b all.0.1)
  where
    other : (b : ℕ) → b ≢ 47 → (b == 47) ≡ false
    other b ne = grind (arith, nat_tests)
one_part b (c ∷ text) all =
    ap (before_parts b) (one_part c text all.1)
    ∙ ap (λ (x : Bool). if x then [] ∷ (c ∷ text) ∷ [] else (b ∷ c ∷ text) ∷ []) (other b all.0.1)
  where
    other : (b : ℕ) → b ≢ 47 → (b == 47) ≡ false
    other b ne = grind (arith, nat_tests)

pub name_comps : (b : ℕ) (text : List ℕ) → AllByRecursion IsPlain (b ∷ text) → comps (47 ∷ b ∷ text) ≡ (b ∷ text) ∷ []
name_comps b text all =
    let some : nat_lt 0 (length (b ∷ text)) ≡ true = grind (arith, nat_tests) in
    ap (λ (ps : List (List ℕ)). filter (λ piece. nat_lt 0 (length piece)) (before_parts 47 ps)) (one_part b text all)
    ∙ ap (λ (x : Bool). cond x ((b ∷ text) ∷ []) []) some

no_zero : (text : List ℕ) → AllByRecursion IsPlain text → list_any (λ c. nat_lt c 1) text ≡ false
no_zero [] all = refl
no_zero (b ∷ text) all =
    let here : nat_lt b 1 ≡ false = (let low = all.0.0 in grind (arith, nat_tests)) in
    ap₂ (λ (x : Bool) (y : Bool). x || y) here (no_zero text all.1)

taken : (p : List ℕ) → 0 < length p → length p ≤ 1023 → list_any (λ c. nat_lt c 1) p ≡ false → text_refusal p ≡ None
taken p some short clean =
    let a : nat_lt 0 (length p) ≡ true = grind (arith, nat_tests) in
    let b : nat_lt 1023 (length p) ≡ false = grind (arith, nat_tests) in
    rw (a, b, clean) refl

at_root : (t : Tree) (e : End) → Walk t true 1 [] true 0 e → e ≡ At 1
at_root t (At n) no_piece = refl
at_root t (Refused _) x = elim x [ ]

module _ (nm : List ℕ) (named : is_name nm ≡ true) where
  long : length nm ≡ 19
  long = same_lengths name_pattern nm named

  clean : AllByRecursion IsPlain nm
  clean = all_plain name_pattern nm named

  pub path_comps : comps (path_of nm) ≡ nm ∷ []
  path_comps = by nm long clean
    where
      by : (x : List ℕ) → length x ≡ 19 → AllByRecursion IsPlain x → comps (47 ∷ x) ≡ x ∷ []
      by [] same all = absurd (omega (arith, same))
      by (b ∷ text) same all = name_comps b text all

  pub path_name : name (path_of nm) ≡ nm
  path_name = ap (λ (ps : List (List ℕ)). unwrap_or (last ps) []) path_comps

  pub path_taken : text_refusal (path_of nm) ≡ None
  path_taken = (let l = long in taken (path_of nm) (omega arith) (omega (arith, l)) (no_zero nm clean))

  -- its directory is the root
  pub path_parent : (t : Tree) (e : End) → Parent t (path_of nm) e → e ≡ At 1
  path_parent t e par =
      at_root t e (subst (λ (ps : List (List ℕ)). Walk t true 1 (but_last ps) true 0 e) path_comps
      (subst (λ (o : Option Refusal). MatchOption o (Walk t true 1 (but_last (comps (path_of nm))) true 0 e)
      (λ r. e ≡ Refused r)) path_taken par))

-- it has no slash end
no_slash : (b : ℕ) (text : List ℕ) → AllByRecursion IsPlain (b ∷ text) → slash (b ∷ text) ≡ false
no_slash b [] all = other b all.0.1
  where
    other : (b : ℕ) → b ≢ 47 → (b == 47) ≡ false
    other b ne = grind (arith, nat_tests)
no_slash b (c ∷ text) all = no_slash c text all.1

at_end : {t : Tree} {follow : Bool} {d : ℕ} {s : Bool} {k : ℕ} {e : End} → Walk t follow d [] s k e → e ≡ At d
at_end no_piece = refl

-- an end at this node, where it isn't refused
abbrev pub IsAtOr : ℕ → End → Type 0
IsAtOr n (At k) = k ≡ n
IsAtOr n (Refused r) = Unit {0}

-- one piece leads to what it gives, where no link is followed
walk_one : (t : Tree) (follow : Bool) (d n : ℕ) (nm : List ℕ) (s : Bool) (k : ℕ) (e : End) → nm ≢ dot → nm ≢ dot_dot
    → entry t d nm ≡ Some n → ((text : List ℕ) → node t n ≡ Some (Link text) → more [] s || follow ≡ false)
    → Walk t follow d (nm ∷ []) s k e → IsAtOr n e
walk_one t follow d n nm s k e one two is plain (stays same w) = absurd (one same)
walk_one t follow d n nm s k e one two is plain (goes_up same w) = absurd (two same)
walk_one t follow d n nm s k e one two is plain (too_long high) = tt
walk_one t follow d n nm s k e one two is plain (not_there looked none) = tt
walk_one t follow d n nm s k e one two is plain (directory {n = q} gives w) =
    subst (IsAtOr n) (sym (at_end w)) (let there = gives.is_there in cc)
walk_one t follow d n nm s k e one two is plain (file gives last) = (let there = gives.is_there in cc)
walk_one t follow d n nm s k e one two is plain (not_dir gives last) = tt
walk_one t follow d n nm s k e one two is plain (link gives last) = (let there = gives.is_there in cc)
walk_one t follow d n nm s k e one two is plain (loops gives last many) = tt
walk_one t follow d n nm s k e one two is plain (followed {n = q} {text = text} gives last few w) =
    let there = gives.is_there in
    let same : q ≡ n = cc in
    absurd (false≢true (sym (plain text (ap (node t) (sym same) ∙ gives.is_node)) ∙ last))

module _ (nm : List ℕ) (named : is_name nm ≡ true) where
  path_slash : slash (path_of nm) ≡ false
  path_slash = by nm (long nm named) (clean nm named)
    where
      by : (x : List ℕ) → length x ≡ 19 → AllByRecursion IsPlain x → slash (47 ∷ x) ≡ false
      by [] same all = absurd (omega (arith, same))
      by (b ∷ text) same all = no_slash b text all

  not_dot : nm ≢ dot
  not_dot same = (let l = long nm named in let e : length nm ≡ 1 = ap length same in omega (arith, l, e))

  not_dot_dot : nm ≢ dot_dot
  not_dot_dot same = (let l = long nm named in let e : length nm ≡ 2 = ap length same in omega (arith, l, e))

  -- it leads to what its name gives, where that is no link that is followed
  pub path_whole : (t : Tree) (follow : Bool) (n : ℕ) (e : End) → entry t 1 nm ≡ Some n
      → ((text : List ℕ) → node t n ≡ Some (Link text) → follow ≡ false) → Resolve t (path_of nm) follow e → IsAtOr n e
  path_whole t follow n e is plain ends =
      walk_one t follow 1 n nm false 0 e not_dot not_dot_dot is plain
      (subst (λ (b : Bool). Walk t follow 1 (nm ∷ []) b 0 e) path_slash
      (subst (λ (ps : List (List ℕ)). Walk t follow 1 ps (slash (path_of nm)) 0 e) (path_comps nm named)
      (subst (λ (o : Option Refusal). MatchOption o (Walk t follow 1 (comps (path_of nm)) (slash (path_of nm)) 0 e)
      (λ r. e ≡ Refused r)) (path_taken nm named) ends)))
