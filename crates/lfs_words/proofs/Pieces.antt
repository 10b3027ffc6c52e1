-- Bytes that go out in pieces.
use Rattle.std.proofs.Common.{◌≡◌, ◌≢◌, ℕ, suc, List, [], ◌∷◌, ◌++◌, Option, Some, None, Result, Ok, Err, OnOk, OnErr, append_assoc}
use Rattle.std.proofs.Common.{append-nil, ap, sym, ◌∙◌, refl}
use Rattle.std.specs.Io.KnownBytes.{Appends}
use Rattle.std.proofs.KnownBytes.{Appends-trans}
use Rattle.std.specs.Result.{IsErrAnd}
use Rattle.lfs_words.specs.Bytes.{AppendsSome, Puts}

-- what is left of the front is left of the whole
left_before : (xs ys : List ℕ) → xs ≢ [] → xs ++ ys ≢ []
left_before [] ys some = absurd (some refl)
left_before (x ∷ xs) ys some = λ same. cc same

-- what went out of the front is some of the whole
pub some_front : (a b : Option (List ℕ)) (xs ys : List ℕ) → AppendsSome a b xs → AppendsSome a b (xs ++ ys)
some_front a b xs ys h = (h.0, h.1 ++ ys, sym (append_assoc h.0 h.1 ys) ∙ ap (λ t. t ++ ys) h.2, left_before h.1 ys h.3, h.4)

-- the front went out, and some of the rest
pub some_then : (a b c : Option (List ℕ)) (xs ys : List ℕ) → Appends a b xs → AppendsSome b c ys → AppendsSome a c (xs ++ ys)
some_then a b c xs ys first h =
    (xs ++ h.0, h.1, append_assoc xs h.0 h.1 ∙ ap (λ t. xs ++ t) h.2, h.3, Appends-trans a b c xs h.0 first h.4)

pub Appends-none : (a : Option (List ℕ)) → Appends a a []
Appends-none None = tt
Appends-none (Some xs) = sym (append-nil xs)

pub on_err : {T E : Type 0} (r : Result T E) (P : Type 0) → P → OnErr r P
on_err (Ok x) P p = tt
on_err (Err e) P p = p

pub on_ok : {T E : Type 0} (r : Result T E) (P : Type 0) → P → OnOk r P
on_ok (Ok x) P p = p
on_ok (Err e) P p = tt

-- a call that failed put some of the bytes, and one write failed
pub puts_some : {T E : Type 0} (Q : E → Type 0) {a b : Option (List ℕ)} {f f' : ℕ} {bytes : List ℕ} (r : Result T E) → IsErrAnd r Q
    → AppendsSome a b bytes → f' ≡ suc f → Puts a b f f' bytes r
puts_some Q (Ok x) err some more = absurd err
puts_some Q (Err e) err some more = record { ok = tt; err = some; counted = more }
