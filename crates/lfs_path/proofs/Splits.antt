-- A path split at its last piece.
use Rattle.std.proofs.Common.{◌≡◌, ◌≤◌, ◌-◌, refl, ◌∙◌, ℕ, suc, Bool, true, false, List, [], ◌∷◌, ◌++◌, Option, Some, None, length}
use Rattle.std.proofs.Common.{take, drop, arith}
use Rattle.std.specs.Prelude.{IfNone, IfSome, is_none, nat_lt, not, ◌==◌}
use Rattle.std.specs.List.{last_or}
use Rattle.std.proofs.lemmas.Bool.{eqb-true}
use Rattle.std.proofs.lemmas.Bool.Decides.{nat_tests}
use Rattle.std.proofs.lemmas.List.{length-append, take-append-le, take-append-drop, take_all}
use Rattle.lfs_model.specs.PathText.{comps, slash, but_last, from_root}
use Rattle.lfs_model.specs.Walk.{more}
use Rattle.lfs_model.proofs.FollowedTexts.{IsRest, pieces_joined}
use Rattle.lfs_path.specs.Lasts.{SplitsLast}
use Rattle.lfs_path.specs.Pieces.{IsNextPiece}
use Rattle.lfs_path.specs.declared.last.Last.{Last}
use Rattle.lfs_path.proofs.Texts.{suffix_back}

-- ---- lists
last_snoc : (ps : List (List ℕ)) (o : Option (List ℕ)) (p : List ℕ) → last_or o (ps ++ p ∷ []) ≡ Some p
last_snoc [] o p = refl
last_snoc (q ∷ ps) o p = last_snoc ps (Some q) p

but_last_snoc : (ps : List (List ℕ)) (p : List ℕ) → but_last (ps ++ p ∷ []) ≡ ps
but_last_snoc ps p =
    let long = length-append ps (p ∷ []) in
    let n : length (ps ++ p ∷ []) - 1 ≡ length ps = omega arith in
    cc (take-append-le (length ps) ps (p ∷ []) (omega arith), take_all (length ps) ps (omega arith))

-- ---- texts
some_true : (n : ℕ) → nat_lt 0 (suc n) ≡ true
some_true n = grind (arith, nat_tests)

-- what is empty or begins with a slash
pub is_rest : (rest : List ℕ) → from_root rest ≡ nat_lt 0 (length rest) → IsRest rest
is_rest [] begins = tt
is_rest (c ∷ q) begins = eqb-true c 47 (begins ∙ some_true (length q))

-- The rest is the end of the path, and the pieces of both parts are the path's.
pub record SplitsAt (path rest : List ℕ) : Type 0 where
  pub few : length rest ≤ length path
  pub behind : rest ≡ drop (length path - length rest) path
  pub pieces : comps path ≡ comps (take (length path - length rest) path) ++ comps rest
  pub slash_end : slash path ≡ slash rest
  pub none : comps rest ≡ [] → comps path ≡ []

-- where no piece is found, there is none
pub no_piece : {A : Type 0} (r : Option A) (text : List ℕ) → is_none r ≡ true → IfNone r (comps text ≡ []) → comps text ≡ []
no_piece None text none is = is
no_piece (Some x) text none is = cc

-- where one is found, there is one
pub some_piece : {A : Type 0} (front back : A → List ℕ) (r : Option A) (text : List ℕ) → is_none r ≡ false
    → IfSome r (λ x. IsNextPiece text (front x) (back x)) → comps text ≡ [] → ⊥
some_piece front back None text some next none = cc
some_piece front back (Some x) text some next none = cc

module _ {path rest piece after : List ℕ} (was : SplitsAt path rest) (next : IsNextPiece rest piece after) where
  after_few : length after ≤ length path
  after_few = omega arith

  after_behind : after ≡ drop (length path - length after) path
  after_behind = suffix_back (length path - length rest) (length rest - length after) path
      (cc)

  pub splits_further : (comps after ≡ [] → ⊥) → SplitsAt path after
  splits_further some = record {
    few = after_few;
    behind = after_behind;
    pieces =
        let n : ℕ = length path - length after in
        cc (take-append-drop n path, after_behind, pieces_joined (take n path) after (is_rest after next.begins));
    slash_end = cc;
    none = λ none. absurd (some none);
  }

  -- ---- the last piece
  pub splits_last : comps after ≡ [] → {above : List ℕ} {l : Last} → above ≡ take (length path - length rest) path → l.name.now ≡ piece
      → l.slash ≡ nat_lt 0 (length after) → SplitsLast path above l
  splits_last none front name slashed = record {
    pieces = cc (all, but_last_snoc (comps (take (length path - length rest) path)) piece);
    piece = cc (all, last_snoc (comps (take (length path - length rest) path)) None piece);
    slash_end = cc (ends (comps after) none next.goes_on);
  }
    where
      all : comps path ≡ comps (take (length path - length rest) path) ++ piece ∷ []
      all = cc none

      ends : (ps : List (List ℕ)) → ps ≡ [] → more ps (slash after) ≡ nat_lt 0 (length after) → slash after ≡ nat_lt 0 (length after)
      ends [] none is = is
      ends (p ∷ ps) none is = cc

-- whether a slash follows
pub not_empty : (n : ℕ) (b : Bool) → b ≡ (n == 0) → not b ≡ nat_lt 0 n
not_empty n true is = grind (arith, nat_tests)
not_empty n false is = grind (arith, nat_tests)
