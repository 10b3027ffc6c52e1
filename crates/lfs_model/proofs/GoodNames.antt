-- A path's last piece that isn't refused is a good name.
use Rattle.std.proofs.Common.{◌≡◌, ◌≢◌, refl, subst, ℕ, ◌<◌, Bool, true, false, ◌||◌, List, [], ◌∷◌, Option, Some, None, arith, cond, eqb}
use Rattle.std.proofs.Common.{length}
use Rattle.std.specs.Prelude.{if◌then◌else◌, filter, unwrap_or, MatchOption, nat_lt, is_none}
use Rattle.std.specs.List.{AllByRecursion, last_or, list_any}
use Rattle.std.proofs.lemmas.Bool.Decides.{nat_tests}
use Rattle.lfs_model.specs.Bytes.{AreBytes}
use Rattle.lfs_model.specs.Tree.{Tree, same_name, name_limit}
use Rattle.lfs_model.specs.PathText.{parts, before_parts, comps, last}
use Rattle.lfs_model.specs.Walk.{dot, dot_dot}
use Rattle.lfs_model.specs.Sound.{IsGoodName}
use Rattle.lfs_model.specs.Step.{name, no_last, last_dots, is_long}
use Rattle.lfs_model.proofs.Walks.{same_name-false}

abbrev pub IsClean : List ℕ → Type 0
IsClean p = AllByRecursion (λ c. (c ≢ 0) × (c ≢ 47)) p

before_clean : (c : ℕ) → c ≢ 0 → (ps : List (List ℕ)) → AllByRecursion IsClean ps → AllByRecursion IsClean (before_parts c ps)
before_clean c nz [] h =
    elim (eqb c 47) as (λ b. eqb c 47 ≡ b → AllByRecursion IsClean (if b then [] ∷ [] else (c ∷ []) ∷ [])) [
      | true ↦ λ e. (tt, tt)
      | false ↦ λ e. (((nz, grind (arith, nat_tests)), tt), tt)
    ] refl
before_clean c nz (p ∷ ps) h =
    elim (eqb c 47) as (λ b. eqb c 47 ≡ b → AllByRecursion IsClean (if b then [] ∷ p ∷ ps else (c ∷ p) ∷ ps)) [
      | true ↦ λ e. (tt, h)
      | false ↦ λ e. (((nz, grind (arith, nat_tests)), h.0), h.1)
    ] refl

parts_clean : (p : List ℕ) → AllByRecursion (λ c. c ≢ 0) p → AllByRecursion IsClean (parts p)
parts_clean [] h = (tt, tt)
parts_clean (c ∷ rest) h = before_clean c h.0 (parts rest) (parts_clean rest h.1)

kept_clean : (ps : List (List ℕ)) → AllByRecursion IsClean ps
    → AllByRecursion (λ p. IsClean p × (0 < length p)) (filter (λ piece. nat_lt 0 (length piece)) ps)
kept_clean [] h = tt
kept_clean (p ∷ ps) h =
    elim (nat_lt 0 (length p)) as (λ b. nat_lt 0 (length p) ≡ b → AllByRecursion (λ p. IsClean p × (0 < length p))
    (cond b (p ∷ filter (λ piece. nat_lt 0 (length piece)) ps) (filter (λ piece. nat_lt 0 (length piece)) ps))) [
      | true ↦ λ e. ((h.0, grind (arith, nat_tests)), kept_clean ps h.1)
      | false ↦ λ e. kept_clean ps h.1
    ] refl

last_clean : (P : List ℕ → Type 0) (ps : List (List ℕ)) (o : Option (List ℕ)) → MatchOption o (Unit {0}) P → AllByRecursion P ps
    → MatchOption (last_or o ps) (Unit {0}) P
last_clean P [] o h all = h
last_clean P (p ∷ ps) o h all = last_clean P ps (Some p) all.0 all.1

-- a text that isn't refused has no zero byte
no_zero : (p : List ℕ) → list_any (λ c. nat_lt c 1) p ≡ false → AllByRecursion (λ c. c ≢ 0) p
no_zero [] e = tt
no_zero (c ∷ rest) e = elim (nat_lt c 1)
    as (λ b. nat_lt c 1 ≡ b → (b || list_any (λ c. nat_lt c 1) rest) ≡ false → (c ≢ 0) × AllByRecursion (λ c. c ≢ 0) rest) [
      | true ↦ λ h e. cc
      | false ↦ λ h e. (grind (arith, nat_tests), no_zero rest e)
    ] refl e

or_false : (a b : Bool) → (a || b) ≡ false → (a ≡ false) × (b ≡ false)
or_false true b e = cc
or_false false b e = (refl, e)

good_last : (o : Option (List ℕ)) → MatchOption o (Unit {0}) (λ p. IsClean p × (0 < length p)) → is_none o ≡ false → (w : List ℕ)
    → unwrap_or o [] ≡ w
    → same_name w dot || same_name w dot_dot ≡ false → AreBytes w → (limit : ℕ) → nat_lt limit (length w) ≡ false → IsGoodName limit w
good_last None h e w is dots bytes limit long = cc
good_last (Some p) h e w is dots bytes limit long =
    let apart = or_false _ _ dots in
    record {
      some = subst (λ (v : List ℕ). 0 < length v) is h.1;
      short = grind (arith, nat_tests);
      clean = subst IsClean is h.0;
      bytes = bytes;
      not_dot = same_name-false w dot apart.0;
      not_dot_dot = same_name-false w dot_dot apart.1;
    }

-- ---- a path's bytes are its pieces' bytes

before_bytes : (c : ℕ) → c < 256 → (ps : List (List ℕ)) → AllByRecursion AreBytes ps → AllByRecursion AreBytes (before_parts c ps)
before_bytes c low [] h = elim (eqb c 47) as (λ b. AllByRecursion AreBytes (if b then [] ∷ [] else (c ∷ []) ∷ []))
    [ true ↦ (tt, tt) | false ↦ ((low, tt), tt) ]
before_bytes c low (p ∷ ps) h = elim (eqb c 47) as (λ b. AllByRecursion AreBytes (if b then [] ∷ p ∷ ps else (c ∷ p) ∷ ps))
    [ true ↦ (tt, h) | false ↦ ((low, h.0), h.1) ]

parts_bytes : (p : List ℕ) → AreBytes p → AllByRecursion AreBytes (parts p)
parts_bytes [] h = (tt, tt)
parts_bytes (c ∷ rest) h = before_bytes c h.0 (parts rest) (parts_bytes rest h.1)

kept_bytes : (ps : List (List ℕ)) → AllByRecursion AreBytes ps → AllByRecursion AreBytes (filter (λ piece. nat_lt 0 (length piece)) ps)
kept_bytes [] h = tt
kept_bytes (p ∷ ps) h =
    elim (nat_lt 0 (length p)) as (λ b. AllByRecursion AreBytes
    (cond b (p ∷ filter (λ piece. nat_lt 0 (length piece)) ps) (filter (λ piece. nat_lt 0 (length piece)) ps))) [
      | true ↦ (h.0, kept_bytes ps h.1)
      | false ↦ kept_bytes ps h.1
    ]

last_bytes : (o : Option (List ℕ)) → MatchOption o (Unit {0}) AreBytes → AreBytes (unwrap_or o [])
last_bytes None h = tt
last_bytes (Some p) h = h

pub name_bytes : (p : List ℕ) → AreBytes p → AreBytes (name p)
name_bytes p h = last_bytes (last (comps p)) (last_clean AreBytes (comps p) None tt (kept_bytes (parts p) (parts_bytes p h)))

pub good_name : (t : Tree) (d : ℕ) (p : List ℕ) → AreBytes p → list_any (λ c. nat_lt c 1) p ≡ false → no_last p || last_dots p ≡ false
    → is_long t d p ≡ false → IsGoodName (name_limit t d) (name p)
good_name t d p bytes zeros last_ok long =
    let both = or_false _ _ last_ok in
    good_last (last (comps p)) (last_clean (λ p. IsClean p × (0 < length p)) (comps p) None tt
    (kept_clean (parts p) (parts_clean p (no_zero p zeros)))) both.0 (name p) refl both.1 (name_bytes p bytes) (name_limit t d) long
