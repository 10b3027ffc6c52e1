-- A sector and its fields, place by place.
use Rattle.std.proofs.Common.{◌≡◌, ◌+◌, ℕ, List, [], ◌∷◌, ◌++◌, length, take, drop, sym, ap, ap₂, ◌∙◌, arith, refl, length-drop}
use Rattle.std.proofs.Common.{length-append, take-add}
use Rattle.std.proofs.lemmas.List.{append-nil, append_assoc, take_at, drop_at, take-append-drop, drop-drop, nil_from_length}
use Rattle.lfs_model.specs.Fields.{join, part}

-- a field: how many bytes it has, and which
abbrev pub Field : Type 0
Field = ℕ × List ℕ

abbrev pub fields_of : List Field → List (List ℕ)
fields_of [] = []
fields_of (f ∷ fs) = f.1 ∷ fields_of fs

abbrev pub total : List Field → ℕ
total [] = 0
total (f ∷ fs) = f.0 + total fs

-- each field has as many bytes as it says
abbrev pub Sized : List Field → Type 0
Sized [] = Unit {0}
Sized (f ∷ fs) = (length f.1 ≡ f.0) × Sized fs

-- the fields stand in the sector from place `at` on
abbrev pub Laid : List ℕ → ℕ → List Field → Type 0
Laid s at [] = Unit {0}
Laid s at (f ∷ fs) = (part at f.0 s ≡ f.1) × Laid s (at + f.0) fs

pub laid_from : (s : List ℕ) (at : ℕ) (fs : List Field) → Sized fs → drop at s ≡ join (fields_of fs) → Laid s at fs
unfolding part
laid_from s at [] sized e = tt
laid_from s at (f ∷ fs) sized e = (
  ap (take f.0) e ∙ take_at f.1 (join (fields_of fs)) f.0 sized.0,
  laid_from s (at + f.0) fs sized.1 (sym (drop-drop f.0 at s) ∙ ap (drop f.0) e ∙ drop_at f.1 (join (fields_of fs)) f.0 sized.0),
)

pub laid_to : (s : List ℕ) (at : ℕ) (fs : List Field) → at + total fs ≡ length s → Laid s at fs → drop at s ≡ join (fields_of fs)
unfolding part
laid_to s at [] long laid = nil_from_length (drop at s) (omega (arith, length-drop at s))
laid_to s at (f ∷ fs) long laid =
    let rest : drop (at + f.0) s ≡ join (fields_of fs) = laid_to s (at + f.0) fs (omega arith) laid.1 in
    sym (take-append-drop f.0 (drop at s)) ∙ ap (λ (r : List ℕ). r ++ drop f.0 (drop at s)) laid.0
    ∙ ap (λ (r : List ℕ). f.1 ++ r) (drop-drop f.0 at s ∙ rest)

-- together they are the part of the sector in which they stand
pub laid_part : (s : List ℕ) (at : ℕ) (fs : List Field) → Laid s at fs → part at (total fs) s ≡ join (fields_of fs)
unfolding part
laid_part s at [] laid = refl
laid_part s at (f ∷ fs) laid =
    let rest : take (total fs) (drop f.0 (drop at s)) ≡ join (fields_of fs) =
    ap (take (total fs)) (drop-drop f.0 at s) ∙ laid_part s (at + f.0) fs laid.1 in
    take-add f.0 (total fs) (drop at s) ∙ ap₂ (λ (a b : List ℕ). a ++ b) laid.0 rest

-- what a writer has after it wrote fields one by one
abbrev pub appended : List ℕ → List (List ℕ) → List ℕ
appended s [] = s
appended s (f ∷ fs) = appended (s ++ f) fs

pub appended_join : (s : List ℕ) (fs : List (List ℕ)) → appended s fs ≡ s ++ join fs
appended_join s [] = sym (append-nil s)
appended_join s (f ∷ fs) = appended_join (s ++ f) fs ∙ append_assoc s f (join fs)

-- one field more
pub join_more : (fs : List (List ℕ)) (f : List ℕ) → join (fs ++ f ∷ []) ≡ join fs ++ f
join_more [] f = append-nil f
join_more (g ∷ fs) f = ap (λ (r : List ℕ). g ++ r) (join_more fs f) ∙ sym (append_assoc g (join fs) f)

-- how many bytes the fields have
pub length-fields : (fs : List Field) → Sized fs → length (join (fields_of fs)) ≡ total fs
length-fields [] sized = refl
length-fields (f ∷ fs) sized = omega (arith, length-append f.1 (join (fields_of fs)), sized.0, length-fields fs sized.1)
