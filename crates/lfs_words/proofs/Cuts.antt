-- A text is cut at its spaces, and words that have none are found again.
use Rattle.std.proofs.Common.{◌≡◌, ◌≢◌, ℕ, suc, ◌+◌, ◌<◌, ◌≤◌, true, false, not, ◌==◌, List, [], ◌∷◌, ◌++◌, Option, Some, None, IfSome}
use Rattle.std.proofs.Common.{is_some, option_copied, Bor, length, take, drop, refl, sym, ap, ◌∙◌, inl, inr, arith}
use Rattle.std.specs.List.{position, position_or_len}
use Rattle.std.proofs.lemmas.Bool.{and_parts, cases_eq, cases_lt, eq-eqb, false≢true, lt-ltb, le-ltb}
use Rattle.std.proofs.lemmas.Bool.Decides.{nat_tests}
use Rattle.lfs_model.proofs.WordTexts.{is_solid, all_solid}
use Rattle.lfs_words.specs.Cuts.{spaced, onto, cut, words_left}

-- ---- words without spaces

not_space : (c : ℕ) → not (c == 32) ≡ true → (c == 32) ≡ false
not_space c h = grind (arith, nat_tests)

cut-solid : (word : List ℕ) → is_solid word ≡ true → cut word ≡ word ∷ []
cut-solid [] h = refl
cut-solid (c ∷ word) h =
    let parts = and_parts (not (c == 32)) (is_solid word) h in
    rw (not_space c parts.0, cut-solid word parts.1) refl

cut-append : (word text : List ℕ) → is_solid word ≡ true → cut (word ++ 32 ∷ text) ≡ word ∷ cut text
cut-append [] text h = refl
cut-append (c ∷ word) text h =
    let parts = and_parts (not (c == 32)) (is_solid word) h in
    rw (not_space c parts.0, cut-append word text parts.1) refl

pub cut-spaced : (word : List ℕ) (words : List (List ℕ)) → all_solid (word ∷ words) ≡ true → cut (spaced (word ∷ words)) ≡ word ∷ words
cut-spaced word [] h = cut-solid word (and_parts (is_solid word) true h).0
cut-spaced word (next ∷ words) h =
    let parts = and_parts (is_solid word) (all_solid (next ∷ words)) h in
    cut-append word (spaced (next ∷ words)) parts.0 ∙ ap (λ ws. word ∷ ws) (cut-spaced next words parts.1)

-- ---- back to the text

solid_byte : (c : ℕ) → c ≢ 32 → (c == 32) ≡ false
solid_byte c h = grind (arith, nat_tests)

spaced-onto : (c : ℕ) (word : List ℕ) (words : List (List ℕ)) → spaced ((c ∷ word) ∷ words) ≡ c ∷ spaced (word ∷ words)
spaced-onto c word [] = refl
spaced-onto c word (next ∷ words) = refl

cut-some : (text : List ℕ) → (word : List ℕ) × (words : List (List ℕ)) × (cut text ≡ word ∷ words)
cut-some [] = ([], [], refl)
cut-some (c ∷ text) =
    let more = cut-some text in
    elim (cases_eq c 32) [
      | inl space ↦ ([], cut text, rw (eq-eqb c 32 space) refl)
      | inr apart ↦ (c ∷ more.0, more.1, rw (solid_byte c apart, more.2) refl)
    ]

pub spaced-cut : (text : List ℕ) → spaced (cut text) ≡ text
spaced-cut [] = refl
spaced-cut (c ∷ text) =
    let more = cut-some text in
    let rest : spaced (more.0 ∷ more.1) ≡ text = ap spaced (sym more.2) ∙ spaced-cut text in
    elim (cases_eq c 32) [
      | inl space ↦ rw (eq-eqb c 32 space, more.2) (rw space (ap (λ t. 32 ∷ t) rest))
      | inr apart ↦ rw (solid_byte c apart, more.2) (spaced-onto c more.0 more.1 ∙ ap (λ t. c ∷ t) rest)
    ]

-- ---- what a cut takes first

-- the place of the first space, or the length
abbrev pub space_or_len : List ℕ → ℕ
space_or_len text = position_or_len (λ b. b == 32) text

at_space : (c : ℕ) (text : List ℕ) → c ≡ 32 → space_or_len (c ∷ text) ≡ 0
at_space c text h = rw (eq-eqb c 32 h) refl

past_byte : (c : ℕ) (text : List ℕ) → c ≢ 32 → space_or_len (c ∷ text) ≡ suc (space_or_len text)
past_byte c text h = rw (solid_byte c h) (omega arith)

cut_space : (c : ℕ) (text : List ℕ) → c ≡ 32 → cut (c ∷ text) ≡ [] ∷ cut text
cut_space c text h = rw (eq-eqb c 32 h) refl

cut_byte : (c : ℕ) (text : List ℕ) → c ≢ 32 → cut (c ∷ text) ≡ onto c (cut text)
cut_byte c text h = rw (solid_byte c h) refl

take-past : (c : ℕ) (text : List ℕ) {p n : ℕ} → n ≡ suc p
    → (take n (c ∷ text) ≡ c ∷ take p text) × (drop (n + 1) (c ∷ text) ≡ drop (p + 1) text)
take-past c text {p} {n} e =
    let more : n + 1 ≡ suc (p + 1) = omega arith in
    (rw e refl, rw more refl)

first_some : (text : List ℕ) → space_or_len text < length text
    → cut text ≡ take (space_or_len text) text ∷ cut (drop (space_or_len text + 1) text)
first_some [] h = absurd (omega arith)
first_some (c ∷ text) h = elim (cases_eq c 32) [
  | inl space ↦ rw (at_space c text space) (cut_space c text space)
  | inr apart ↦
      let place = past_byte c text apart in
      let within : space_or_len text < length text = omega (arith, place, h) in
      let parts = take-past c text place in
      cut_byte c text apart ∙ ap (onto c) (first_some text within) ∙ sym (ap (λ w. w ∷ cut (drop (space_or_len (c ∷ text) + 1) (c ∷ text)))
      parts.0 ∙ ap (λ t. (c ∷ take (space_or_len text) text) ∷ cut t) parts.1)
]

first_none : (text : List ℕ) → length text ≤ space_or_len text → cut text ≡ text ∷ []
first_none [] h = refl
first_none (c ∷ text) h = elim (cases_eq c 32) [
  | inl space ↦ absurd (omega (arith, at_space c text space, h))
  | inr apart ↦
      let within : length text ≤ space_or_len text = omega (arith, past_byte c text apart, h) in
      cut_byte c text apart ∙ ap (onto c) (first_none text within)
]

pub at_some : (text : List ℕ) (r : Option ℕ) → r ≡ position (λ b. b == 32) text
    → IfSome r (λ i. (i < length text) × (cut text ≡ take i text ∷ cut (drop (i + 1) text)))
at_some text None e = tt
at_some text (Some i) e = elim (cases_lt (space_or_len text) (length text)) [
  | inl within ↦
      let is : Some i ≡ Some (space_or_len text) = e ∙ rw (lt-ltb (space_or_len text) (length text) within) refl in
      let same : i ≡ space_or_len text = cc in
      rw same (within, first_some text within)
  | inr past ↦
      let is : Some i ≡ None = e ∙ rw (le-ltb (space_or_len text) (length text) past) refl in cc
]

pub at_none : {text : List ℕ} {r : Option ℕ} → r ≡ position (λ b. b == 32) text → r ≡ None → cut text ≡ text ∷ []
at_none {text} e none = elim (cases_lt (space_or_len text) (length text)) [
  | inl within ↦
      let is : None ≡ Some (space_or_len text) = sym none ∙ e ∙ rw (lt-ltb (space_or_len text) (length text) within) refl in cc
  | inr past ↦ first_none text past
]

pub cut_apart : (o : Option (List ℕ)) → is_some o ≡ true → words_left o ≢ []
cut_apart None h e = false≢true h
cut_apart (Some text) h e = let some = cut-some text in let bad : some.0 ∷ some.1 ≡ [] = sym some.2 ∙ e in cc

pub is_some-copied : {T : Type 0} (o : Option (Bor T)) → is_some (option_copied o) ≡ is_some o
is_some-copied None = refl
is_some-copied (Some x) = refl

pub cut_some : (text : List ℕ) {i : ℕ} → Some i ≡ position (λ b. b == 32) text → cut text ≡ take i text ∷ cut (drop (i + 1) text)
cut_some text {i} e = (at_some text (Some i) e).1
