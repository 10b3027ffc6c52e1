-- Two words that are read as bytes, one after the other.
use Rattle.std.proofs.Common.{◌≡◌, ◌≢◌, ℕ, List, [], ◌∷◌, Result, Ok, Err, IfOk, Vec, refl, sym, ◌∙◌, ap₂, subst}
use Rattle.lfs_model.specs.Bytes.{AreBytes}
use Rattle.lfs_model.specs.Script.{word}
use Rattle.lfs_lines.specs.Calls.{IsBoth}
use Rattle.lfs_words.specs.Reading.{IsRead}
use Rattle.lfs_words.specs.declared.word.WordFault.{WordFault}
use Rattle.lfs_words.specs.declared.word.WordFault.TheVariants.{Memory, Spelling}

abbrev Spelt : {A : Type 0} → List (List ℕ) → Vec ℕ A × Vec ℕ A → Type 0
Spelt words p = word p.0.items ∷ word p.1.items ∷ [] ≡ words

abbrev Fit : {A : Type 0} → Vec ℕ A × Vec ℕ A → Type 0
Fit p = AreBytes p.0.items × AreBytes p.1.items

module _ (words : List (List ℕ)) {first second : List ℕ} (left : words ≡ first ∷ second ∷ []) where
  spelt : (a b : List ℕ) → word a ≡ first → word b ≡ second → word a ∷ word b ∷ [] ≡ words
  spelt a b one two = ap₂ (λ (x y : List ℕ). x ∷ y ∷ []) one two ∙ sym left

  -- neither the first word nor the second is another
  not_first : (a b : List ℕ) → word a ≢ first → word a ∷ word b ∷ [] ≢ words
  not_first a b other e = let both : word a ∷ word b ∷ [] ≡ first ∷ second ∷ [] = e ∙ left in other (cc)

  not_second : (a b : List ℕ) → word b ≢ second → word a ∷ word b ∷ [] ≢ words
  not_second a b other e = let both : word a ∷ word b ∷ [] ≡ first ∷ second ∷ [] = e ∙ left in other (cc)

  module _ {A : Type 0} where
    pub both_ok : (a b : Result (Vec ℕ A) WordFault) (r : Result (Vec ℕ A × Vec ℕ A) WordFault) → IsBoth a b r → IsRead word first a
        → IsRead word second b → IfOk r (Spelt words)
    both_ok (Ok x) (Ok y) r is one two = subst (λ z. IfOk z (Spelt words)) (sym is) (spelt x.items y.items one.ok two.ok)
    both_ok (Ok x) (Err f) r is one two = subst (λ z. IfOk z (Spelt words)) (sym is) tt
    both_ok (Err Spelling) b r is one two = subst (λ z. IfOk z (Spelt words)) (sym is) tt
    both_ok (Err Memory) (Err Spelling) r is one two = subst (λ z. IfOk z (Spelt words)) (sym is) tt
    both_ok (Err Memory) (Err Memory) r is one two = subst (λ z. IfOk z (Spelt words)) (sym is) tt
    both_ok (Err Memory) (Ok y) r is one two = subst (λ z. IfOk z (Spelt words)) (sym is) tt

    pub both_bytes : (a b : Result (Vec ℕ A) WordFault) (r : Result (Vec ℕ A × Vec ℕ A) WordFault) → IsBoth a b r → IsRead word first a
        → IsRead word second b → IfOk r Fit
    both_bytes (Ok x) (Ok y) r is one two = subst (λ z. IfOk z Fit) (sym is) (one.bytes, two.bytes)
    both_bytes (Ok x) (Err f) r is one two = subst (λ z. IfOk z Fit) (sym is) tt
    both_bytes (Err Spelling) b r is one two = subst (λ z. IfOk z Fit) (sym is) tt
    both_bytes (Err Memory) (Err Spelling) r is one two = subst (λ z. IfOk z Fit) (sym is) tt
    both_bytes (Err Memory) (Err Memory) r is one two = subst (λ z. IfOk z Fit) (sym is) tt
    both_bytes (Err Memory) (Ok y) r is one two = subst (λ z. IfOk z Fit) (sym is) tt

    pub both_spelling : (a b : Result (Vec ℕ A) WordFault) {r : Result (Vec ℕ A × Vec ℕ A) WordFault} → IsBoth a b r → IsRead word first a
        → IsRead word second b
        → r ≡ Err Spelling → (x y : List ℕ) → AreBytes x → AreBytes y → word x ∷ word y ∷ [] ≢ words
    both_spelling (Ok u) (Ok v) is one two e x y fx fy = absurd (let no = sym is ∙ e in cc)
    both_spelling (Ok u) (Err f) is one two e x y fx fy = not_second x y (two.spelling (let same = sym is ∙ e in cc) y fy)
    both_spelling (Err Spelling) b is one two e x y fx fy = not_first x y (one.spelling refl x fx)
    both_spelling (Err Memory) (Err Spelling) is one two e x y fx fy = not_second x y (two.spelling refl y fy)
    both_spelling (Err Memory) (Err Memory) is one two e x y fx fy = absurd (let no = sym is ∙ e in cc)
    both_spelling (Err Memory) (Ok v) is one two e x y fx fy = absurd (let no = sym is ∙ e in cc)

    pub both_memory : (a b : Result (Vec ℕ A) WordFault) {r : Result (Vec ℕ A × Vec ℕ A) WordFault} → IsBoth a b r → IsRead word first a
        → IsRead word second b
        → r ≡ Err Memory → (x : List ℕ) × (y : List ℕ) × AreBytes x × AreBytes y × (word x ∷ word y ∷ [] ≡ words)
    both_memory (Ok u) (Ok v) is one two e = absurd (let no = sym is ∙ e in cc)
    both_memory (Ok u) (Err f) is one two e = let found = two.memory (let same = sym is ∙ e in cc) in
        (u.items, found.0, one.bytes, found.1, spelt u.items found.0 one.ok found.2)
    both_memory (Err Spelling) b is one two e = absurd (let no = sym is ∙ e in cc)
    both_memory (Err Memory) (Err Spelling) is one two e = absurd (let no = sym is ∙ e in cc)
    both_memory (Err Memory) (Err Memory) is one two e = let a = one.memory refl in let b = two.memory refl in
        (a.0, b.0, a.1, b.1, spelt a.0 b.0 a.2 b.2)
    both_memory (Err Memory) (Ok v) is one two e = let a = one.memory refl in (a.0, v.items, a.1, two.bytes, spelt a.0 v.items a.2 two.ok)
