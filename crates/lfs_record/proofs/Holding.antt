-- What files hold behind texts.
use Rattle.std.proofs.Common.{◌≡◌, ℕ, List, [], ◌∷◌, ◌++◌, refl, sym, ap, ◌∙◌, append_assoc, append-nil}
use Rattle.lfs_record.specs.Kept.{HoldsAllElse, RecordFile, at_first, has_file, has_text, in_a_row, joined, lost_oldest}

joined_append : (xs ys : List RecordFile) → joined (xs ++ ys) ≡ joined xs ++ joined ys
joined_append [] ys = refl
joined_append (x ∷ xs) ys = ap (λ (l : List ℕ). x.bytes ++ l) (joined_append xs ys) ∙ sym (append_assoc x.bytes (joined xs) (joined ys))

row_append : (xs : List (List ℕ)) (text : List ℕ) → in_a_row (xs ++ text ∷ []) ≡ in_a_row xs ++ text
row_append [] text = append-nil text
row_append (x ∷ xs) text = ap (λ (l : List ℕ). x ++ l) (row_append xs text) ∙ sym (append_assoc x (in_a_row xs) text)

last_joined : (older : List RecordFile) (f : RecordFile) → joined (older ++ f ∷ []) ≡ joined older ++ f.bytes
last_joined older f = joined_append older (f ∷ []) ∙ ap (λ (l : List ℕ). joined older ++ l) (append-nil f.bytes)

pub holds_all_else : HoldsAllElse
holds_all_else first files texts at_first = ([], sym (append-nil (joined first)))
holds_all_else first files texts (has_text {texts = before} older name bytes text holds) =
    let f : RecordFile = record { name = name; bytes = bytes } in
    let f' : RecordFile = record { name = name; bytes = bytes ++ text } in
    let rest = holds_all_else first (older ++ f ∷ []) before holds in
    let gone = joined rest.0 in (
      rest.0,
      ap (λ (l : List ℕ). gone ++ l) (last_joined older f' ∙ sym (append_assoc (joined older) bytes text)
          ∙ ap (λ (l : List ℕ). l ++ text) (sym (last_joined older f)))
          ∙ sym (append_assoc gone (joined (older ++ f ∷ [])) text)
          ∙ ap (λ (l : List ℕ). l ++ text) rest.1
          ∙ append_assoc (joined first) (in_a_row before) text
          ∙ ap (λ (l : List ℕ). joined first ++ l) (sym (row_append before text)),
    )
holds_all_else first files texts (has_file files' name holds) =
    let rest = holds_all_else first files' texts holds in
    let f : RecordFile = record { name = name; bytes = [] } in (
      rest.0,
      ap (λ (l : List ℕ). joined rest.0 ++ l) (last_joined files' f ∙ append-nil (joined files')) ∙ rest.1,
    )
holds_all_else first files texts (lost_oldest oldest files' left holds) =
    let rest = holds_all_else first (oldest ∷ files') texts holds in (
      rest.0 ++ oldest ∷ [],
      ap (λ (l : List ℕ). l ++ joined files) (last_joined rest.0 oldest) ∙ append_assoc (joined rest.0) oldest.bytes (joined files)
          ∙ rest.1,
    )
