use Rattle.std.proofs.Common.{◌≡◌, ◌-◌, ◌<◌, ◌∙◌, ap, sym, refl, ℕ, Bool, true, false, List, [], ◌∷◌, length, take, drop, nat_lt, arith}
use Rattle.std.proofs.Common.{rules}
use Rattle.std.specs.Prelude.{filter, if◌then◌else◌}
use Rattle.std.proofs.lemmas.Bool.Decides.{nat_tests}
use Rattle.std.proofs.lemmas.List.{length-take-le}
use Rattle.lfs_model.specs.PathText.{parts}
use Rattle.lfs_path.proofs.Texts.{no_piece, next_is}
use Rattle.lfs_path.proofs.text.next_piece.Goals as goal

pub returns-then-is_empty-clause-none : goal.returns-then-is_empty-clause-none
returns-then-is_empty-clause-none c =
    let q : List ℕ = take (length c.args.path.now - c.leading_slashes.result) (drop c.leading_slashes.result c.args.path.now) in
    no_piece c.args.path.now q [] [] c.leading_slashes.result c.leading_slashes.ensures.count refl (search rules)

pub returns-clause-piece : goal.returns-clause-piece
returns-clause-piece c =
    let q : List ℕ = take (length c.args.path.now - c.leading_slashes.result) (drop c.leading_slashes.result c.args.path.now) in
    next_is c.args.path.now q c.split_at.result.0.now c.split_at.result.1.now c.leading_slashes.result c.leading_slashes.ensures.count refl
    (search rules)
    (cc) (cc)

-- what a filter leaves first passes
first_passes : (p : List ℕ → Bool) (xs : List (List ℕ)) {y : List ℕ} {ys : List (List ℕ)} → filter p xs ≡ y ∷ ys → p y ≡ true
first_passes p [] e = cc
first_passes p (x ∷ xs) {y} {ys} e =
    elim (p x) as (λ b. p x ≡ b → (if b then x ∷ filter p xs else filter p xs) ≡ y ∷ ys → p y ≡ true) [
      | true ↦ λ is eq. (ap p (sym cc) ∙ is)
      | false ↦ λ is eq. first_passes p xs eq
    ] refl e

some_bytes : (n : ℕ) → nat_lt 0 n ≡ true → 0 < n
some_bytes n e = grind (arith, nat_tests)

pub returns-clause-within : goal.returns-clause-within
returns-clause-within c =
    let q : List ℕ = take (length c.args.path.now - c.leading_slashes.result) (drop c.leading_slashes.result c.args.path.now) in
    let first = some_bytes (length c.split_at.result.0.now) (first_passes (λ piece. nat_lt 0 (length piece))
    (parts c.args.path.now) (returns-clause-piece c).pieces) in
    let take_long = length-take-le c.piece_length.result q c.piece_length.ensures.few in
    (first, omega (arith, ap length c.split_at.ensures.front))
