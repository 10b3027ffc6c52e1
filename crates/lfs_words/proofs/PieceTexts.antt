-- Pieces that go out one after the other.
use Rattle.std.proofs.Common.{◌≡◌, ℕ, ◌+◌, ◌<◌, List, [], ◌∷◌, ◌++◌, Option, length, take, drop, get_or, flat_map, append_assoc, append-nil}
use Rattle.std.proofs.Common.{sym, ap, ◌∙◌, subst}
use Rattle.std.specs.Io.KnownBytes.{Appends}
use Rattle.std.proofs.KnownBytes.{Appends-trans}
use Rattle.std.proofs.lemmas.List.{take_more, take-append-drop}
use Rattle.std.proofs.lemmas.Grind.{flat_map-append}
use Rattle.lfs_words.specs.Bytes.{AppendsSome}
use Rattle.lfs_words.proofs.Pieces.{some_front, some_then}

-- the text of the first i pieces, and of one more
more : {X : Type 0} (f : X → List ℕ) (xs : List X) (i : ℕ) (d : X) → i < length xs
    → flat_map f (take (i + 1) xs) ≡ flat_map f (take i xs) ++ f (get_or xs i d)
more f xs i d lt = ap (flat_map f) (take_more xs i d lt) ∙ flat_map-append f (take i xs) (get_or xs i d ∷ [])
    ∙ ap (λ t. flat_map f (take i xs) ++ t) (append-nil (f (get_or xs i d)))

pub pieces-more : {X : Type 0} (f : X → List ℕ) (a b c : Option (List ℕ)) (xs : List X) (i : ℕ) (d : X) → i < length xs
    → Appends a b (flat_map f (take i xs)) → Appends b c (f (get_or xs i d)) → Appends a c (flat_map f (take (i + 1) xs))
pieces-more f a b c xs i d lt before next = subst (Appends a c) (sym (more f xs i d lt)) (Appends-trans a b c _ _ before next)

pub pieces-some : {X : Type 0} (f : X → List ℕ) (a b c : Option (List ℕ)) (xs : List X) (i : ℕ) (d : X) → i < length xs
    → Appends a b (flat_map f (take i xs)) → AppendsSome b c (f (get_or xs i d)) → AppendsSome a c (flat_map f xs)
pieces-some f a b c xs i d lt before next =
    let whole : (flat_map f (take i xs) ++ f (get_or xs i d)) ++ flat_map f (drop (i + 1) xs) ≡ flat_map f xs =
    ap (λ t. t ++ flat_map f (drop (i + 1) xs)) (sym (more f xs i d lt)) ∙ sym (flat_map-append f (take (i + 1) xs) (drop (i + 1) xs))
    ∙ ap (flat_map f) (take-append-drop (i + 1) xs) in
    subst (AppendsSome a c) whole (some_front a c _ (flat_map f (drop (i + 1) xs)) (some_then a b c _ _ before next))

-- behind a text that is out
pub after-more : {X : Type 0} (f : X → List ℕ) (head : List ℕ) (a b c : Option (List ℕ)) (xs : List X) (i : ℕ) {d : X} → i < length xs
    → get_or xs i d ≡ d
    → Appends a b (head ++ flat_map f (take i xs)) → Appends b c (f d) → Appends a c (head ++ flat_map f (take (i + 1) xs))
after-more f head a b c xs i {d} lt is before next =
    let whole : (head ++ flat_map f (take i xs)) ++ f d ≡ head ++ flat_map f (take (i + 1) xs) =
    append_assoc head (flat_map f (take i xs)) (f d)
    ∙ ap (λ t. head ++ t) (ap (λ x. flat_map f (take i xs) ++ f x) (sym is) ∙ sym (more f xs i d lt)) in
    subst (Appends a c) whole (Appends-trans a b c _ _ before next)

pub after-some : {X : Type 0} (f : X → List ℕ) (head : List ℕ) (a b c : Option (List ℕ)) (xs : List X) (i : ℕ) {d : X} → i < length xs
    → get_or xs i d ≡ d
    → Appends a b (head ++ flat_map f (take i xs)) → AppendsSome b c (f d) → AppendsSome a c (head ++ flat_map f xs)
after-some f head a b c xs i {d} lt is before next =
    let rest = flat_map f (drop (i + 1) xs) in
    let whole : ((head ++ flat_map f (take i xs)) ++ f d) ++ rest ≡ head ++ flat_map f xs =
    ap (λ t. t ++ rest) (append_assoc head (flat_map f (take i xs)) (f d)
    ∙ ap (λ t. head ++ t) (ap (λ x. flat_map f (take i xs) ++ f x) (sym is) ∙ sym (more f xs i d lt)))
    ∙ append_assoc head (flat_map f (take (i + 1) xs)) rest
    ∙ ap (λ t. head ++ t) (sym (flat_map-append f (take (i + 1) xs) (drop (i + 1) xs)) ∙ ap (flat_map f) (take-append-drop (i + 1) xs)) in
    subst (AppendsSome a c) whole (some_front a c _ rest (some_then a b c _ _ before next))
