-- The last piece of a path as a name of a directory.
use Rattle.lfs_steps.proofs.Prelude.{◌≡◌, ◌≢◌, ◌<◌, ◌≤◌, ◌||◌, ℕ, zero, suc, Bool, true, false, List, [], ◌∷◌, length, Option, Some, None}
use Rattle.lfs_steps.proofs.Prelude.{refl, cond, eqb, nat_lt, arith, MatchOption, if◌then◌else◌, is_none, unwrap_or, AllByRecursion}
use Rattle.lfs_steps.proofs.Prelude.{list_any, nat_tests, AreBytes, comps, Sound, last_dots, name, no_last, State, name_limit, At, Parent}
use Rattle.lfs_steps.proofs.Prelude.{good_text, parent_dir}
use Rattle.std.proofs.Common.{get_or}
use Rattle.std.specs.Prelude.{filter}
use Rattle.std.specs.List.{last_or}
use Rattle.lfs_model.specs.PathText.{before_parts, last, parts}
use Rattle.lfs_model.specs.Slot.{IsName}
use Rattle.lfs_model.specs.Tree.{same_name}
use Rattle.lfs_model.specs.Walk.{dot, dot_dot}
use Rattle.lfs_model.proofs.GoodNames.{IsClean}
use Rattle.lfs_model.proofs.Walks.{same_name-false}

each_at : (P : ℕ → Type 0) (xs : List ℕ) → AllByRecursion P xs → (i : ℕ) → i < length xs
    → P (get_or xs i 0)
each_at P [] all i lt = absurd (omega (arith, lt))
each_at P (x ∷ xs) all zero lt = all.0
each_at P (x ∷ xs) all (suc i) lt = each_at P xs all.1 i (omega (arith, lt))

-- ---- pieces have neither a zero byte nor a slash

no_zero : (p : List ℕ) → list_any (λ c. nat_lt c 1) p ≡ false → AllByRecursion (λ c. c ≢ 0) p
no_zero [] e = tt
no_zero (c ∷ rest) e = elim (nat_lt c 1)
    as (λ b. nat_lt c 1 ≡ b → (b || list_any (λ c. nat_lt c 1) rest) ≡ false → (c ≢ 0) × AllByRecursion (λ c. c ≢ 0) rest) [
      | true ↦ λ h e. cc
      | false ↦ λ h e. (grind (arith, nat_tests), no_zero rest e)
    ] refl e

before_clean : (c : ℕ) → c ≢ 0 → (ps : List (List ℕ)) → AllByRecursion IsClean ps → AllByRecursion IsClean (before_parts c ps)
before_clean c some [] all =
    elim (eqb c 47) as (λ b. eqb c 47 ≡ b → AllByRecursion IsClean (if b then [] ∷ [] else (c ∷ []) ∷ []))
    [ true ↦ λ e. (tt, tt) | false ↦ λ e. (((some, grind (arith, nat_tests)), tt), tt) ] refl
before_clean c some (p ∷ ps) all =
    elim (eqb c 47) as (λ b. eqb c 47 ≡ b → AllByRecursion IsClean (if b then [] ∷ p ∷ ps else (c ∷ p) ∷ ps))
    [ true ↦ λ e. (tt, all) | false ↦ λ e. (((some, grind (arith, nat_tests)), all.0), all.1) ] refl

parts_clean : (p : List ℕ) → AllByRecursion (λ c. c ≢ 0) p → AllByRecursion IsClean (parts p)
parts_clean [] all = (tt, tt)
parts_clean (c ∷ rest) all = before_clean c all.0 (parts rest) (parts_clean rest all.1)

abbrev IsPiece : List ℕ → Type 0
IsPiece w = IsClean w × (0 < length w)

kept_clean : (ps : List (List ℕ)) → AllByRecursion IsClean ps → AllByRecursion IsPiece (filter (λ piece. nat_lt 0 (length piece)) ps)
kept_clean [] all = tt
kept_clean (p ∷ ps) all =
    elim (nat_lt 0 (length p)) as (λ b. nat_lt 0 (length p) ≡ b → AllByRecursion IsPiece
    (cond b (p ∷ filter (λ piece. nat_lt 0 (length piece)) ps) (filter (λ piece. nat_lt 0 (length piece)) ps)))
    [ true ↦ λ e. ((all.0, grind (arith, nat_tests)), kept_clean ps all.1) | false ↦ λ e. kept_clean ps all.1 ] refl

last_clean : (ps : List (List ℕ)) (o : Option (List ℕ)) → MatchOption o (Unit {0}) IsPiece → AllByRecursion IsPiece ps
    → MatchOption (last_or o ps) (Unit {0}) IsPiece
last_clean [] o is all = is
last_clean (p ∷ ps) o is all = last_clean ps (Some p) all.0 all.1

or_none : (a b : Bool) → (a || b) ≡ false → (a ≡ false) × (b ≡ false)
or_none true b e = cc
or_none false b e = (refl, e)

-- ---- the last is a name wherever it isn't too long

name_of : (o : Option (List ℕ)) → MatchOption o (Unit {0}) IsPiece → is_none o ≡ false
    → (same_name (unwrap_or o []) dot || same_name (unwrap_or o []) dot_dot) ≡ false → (len : ℕ) → length (unwrap_or o []) ≤ len
    → IsName len (unwrap_or o [])
name_of None is some plain len short = cc
name_of (Some w) is some plain len short =
    let apart = or_none (same_name w dot) (same_name w dot_dot) plain in
    record {
      long = let more = is.1 in omega (arith, more);
      short = short;
      bytes = each_at (λ c. (c ≢ 0) × (c ≢ 47)) w is.0;
      dot = same_name-false w dot apart.0;
      dotdot = same_name-false w dot_dot apart.1;
    }

pub piece_is_name : (N : ℕ) (s : State) → Sound N s → (p : List ℕ) (d : ℕ) → Parent s.tree p (At d) → (no_last p || last_dots p) ≡ false
    → (len : ℕ) → length (name p) ≤ len → IsName len (name p)
piece_is_name N s sound p d walk named =
    let text = good_text p (parent_dir N s sound p d walk).1 in
    let both = or_none (no_last p) (last_dots p) named in
    name_of (last (comps p)) (last_clean (comps p) None tt (kept_clean (parts p) (parts_clean p (no_zero p text.0)))) both.0 both.1

-- it is one of at most so many bytes, where the directory's names are
pub last_is_name : (N : ℕ) (s : State) → Sound N s → (p : List ℕ) (d : ℕ) {limit : ℕ} → name_limit s.tree d ≡ limit
    → AreBytes p → Parent s.tree p (At d) → (no_last p || last_dots p) ≡ false
    → length (name p) ≤ limit → IsName limit (name p)
last_is_name N s sound p d {limit} limit_is bytes walk named short = piece_is_name N s sound p d walk named limit short
