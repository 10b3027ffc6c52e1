-- Each byte has one escaped spelling, and none is the beginning of another's.
use Rattle.std.proofs.Common.{◌≡◌, ◌≢◌, ℕ, suc, ◌+◌, ◌-◌, ◌<◌, ◌≤◌, true, false, List, [], ◌∷◌, ◌++◌, length, slice_index, take, drop}
use Rattle.std.proofs.Common.{get_or, refl, sym, ap, ◌∙◌, subst, arith, append_assoc, append-nil, length-append, length-drop}
use Rattle.std.proofs.lemmas.Bool.{false≢true}
use Rattle.std.proofs.lemmas.List.{take-append-drop, take_rest}
use Rattle.std.proofs.Math.Seq.{take-add}
use Rattle.hex.specs.Hex.{IsBytes, encode_lower, encode_with}
use Rattle.lfs_words.specs.Words.{is_plain, escaped_byte, escaped_bytes, escaped_word}
use Rattle.lfs_words.proofs.Digits.{same_bytes, bytes-cons, one}

pub data Sort (b : ℕ) : Type 0 where
  plain : is_plain b ≡ true → Sort b
  other : is_plain b ≡ false → Sort b

pub sort : (b : ℕ) → Sort b
sort b = elim (is_plain b) as (λ v. (is_plain b ≡ v) → Sort b) [ true ↦ plain | false ↦ other ] refl

pub plain_byte : (b : ℕ) → is_plain b ≡ true → escaped_byte b ≡ b ∷ []
unfolding escaped_byte
plain_byte b h = rw h refl

pub other_byte : (b : ℕ) → is_plain b ≡ false → escaped_byte b ≡ 92 ∷ encode_lower (b ∷ [])
unfolding escaped_byte
other_byte b h = rw h refl

-- a byte's digits, and what is behind them
same_digits : (b c : ℕ) (r s : List ℕ) → b < 256 → c < 256 → encode_lower (b ∷ []) ++ r ≡ encode_lower (c ∷ []) ++ s → (b ≡ c) × (r ≡ s)
unfolding encode_with
same_digits b c r s fb fc e =
    let digits : encode_lower (b ∷ []) ≡ encode_lower (c ∷ []) = ap (take 2) e in
    let bytes : b ∷ [] ≡ c ∷ [] = same_bytes (b ∷ []) (c ∷ []) (one b fb) (one c fc) digits in
    (ap (λ xs. get_or xs 0 0) bytes, ap (drop 2) e)

pub one_byte : (b c : ℕ) (r s : List ℕ) → b < 256 → c < 256 → escaped_byte b ++ r ≡ escaped_byte c ++ s → (b ≡ c) × (r ≡ s)
one_byte b c r s fb fc e = elim (sort b) [
  | plain pb ↦ elim (sort c) [
    | plain pc ↦
        let text : b ∷ r ≡ c ∷ s = rw (plain_byte b pb, plain_byte c pc) at e in
        (ap (λ xs. get_or xs 0 0) text, ap (drop 1) text)
    | other pc ↦
        let text : b ∷ r ≡ 92 ∷ (encode_lower (c ∷ []) ++ s) = rw (plain_byte b pb, other_byte c pc) at e in
        let slash : b ≡ 92 = ap (λ xs. get_or xs 0 0) text in
        absurd (false≢true (subst (λ x. is_plain x ≡ true) slash pb))
  ]
  | other pb ↦ elim (sort c) [
    | plain pc ↦
        let text : 92 ∷ (encode_lower (b ∷ []) ++ r) ≡ c ∷ s = rw (other_byte b pb, plain_byte c pc) at e in
        let slash : c ≡ 92 = ap (λ xs. get_or xs 0 0) (sym text) in
        absurd (false≢true (subst (λ x. is_plain x ≡ true) slash pc))
    | other pc ↦
        let text : 92 ∷ (encode_lower (b ∷ []) ++ r) ≡ 92 ∷ (encode_lower (c ∷ []) ++ s) = rw (other_byte b pb, other_byte c pc) at e in
        same_digits b c r s fb fc (ap (drop 1) text)
  ]
]

some_bytes : (b : ℕ) (rest : List ℕ) → escaped_byte b ++ rest ≢ []
some_bytes b rest e = elim (sort b) [
  | plain p ↦ let text : b ∷ rest ≡ [] = rw (plain_byte b p) at e in cc
  | other p ↦ let text : 92 ∷ (encode_lower (b ∷ []) ++ rest) ≡ [] = rw (other_byte b p) at e in cc
]

-- ---- the bytes of a word, one after the other

pub escaped_bytes-push : (bs : List ℕ) (b : ℕ) → escaped_bytes (bs ++ b ∷ []) ≡ escaped_bytes bs ++ escaped_byte b
unfolding escaped_bytes
escaped_bytes-push [] b = append-nil (escaped_byte b)
escaped_bytes-push (x ∷ bs) b = ap (λ t. escaped_byte x ++ t) (escaped_bytes-push bs b)
    ∙ sym (append_assoc (escaped_byte x) (escaped_bytes bs) (escaped_byte b))

bytes-push : (bs : List ℕ) (b : ℕ) → IsBytes bs → b < 256 → IsBytes (bs ++ b ∷ [])
bytes-push [] b h fits = one b fits
bytes-push (x ∷ bs) b h fits = bytes-cons x (bs ++ b ∷ []) (h 0) (bytes-push bs b (λ i. h (suc i)) fits)

-- what is behind a front that is spelt is spelt too
behind : (bs xs rest : List ℕ) → IsBytes bs → IsBytes xs → escaped_bytes xs ≡ escaped_bytes bs ++ rest
    → (ys : List ℕ) × IsBytes ys × (escaped_bytes ys ≡ rest)
unfolding escaped_bytes
behind [] xs rest fb fx e = (xs, fx, e)
behind (b ∷ bs) [] rest fb fx e =
    let none : escaped_byte b ++ (escaped_bytes bs ++ rest) ≡ [] = sym (append_assoc (escaped_byte b) (escaped_bytes bs) rest) ∙ sym e in
    absurd (some_bytes b (escaped_bytes bs ++ rest) none)
behind (b ∷ bs) (x ∷ xs) rest fb fx e =
    let next = one_byte x b (escaped_bytes xs) (escaped_bytes bs ++ rest) (fx 0) (fb 0)
    (e ∙ append_assoc (escaped_byte b) (escaped_bytes bs) rest) in
    behind bs xs rest (λ i. fb (suc i)) (λ i. fx (suc i)) next.1

-- the first `at` bytes of the word are the spelling of these
pub record Spells (word bytes : List ℕ) (at : ℕ) : Type 0 where
  pub within : at ≤ length word
  pub bytes_fit : IsBytes bytes
  pub text : escaped_bytes bytes ≡ take at word
  pub short : length bytes ≤ at

pub spells-none : (word : List ℕ) → Spells word [] 0
unfolding escaped_bytes
spells-none word = record { within = omega arith; bytes_fit = λ i. omega arith; text = refl; short = omega arith }

-- what a slice from this place on is
abbrev pub tail_of : List ℕ → ℕ → List ℕ
tail_of word at = take (length word - at) (drop at word)

pub spells-more : {word bytes : List ℕ} {at : ℕ} (b n : ℕ) → Spells word bytes at → b < 256
    → (0 < n) × (n ≤ length (tail_of word at)) × (take n (tail_of word at) ≡ escaped_byte b)
    → (0 < n) × (at + n ≤ length word) × Spells word (bytes ++ b ∷ []) (at + n)
spells-more {word} {bytes} {at} b n before fits found =
    let rest = take_rest word at in
    let is : take n (drop at word) ≡ escaped_byte b = rw rest at found.2 in
    let room : n ≤ length (drop at word) = rw rest at found.1 in
    let within : at + n ≤ length word = omega (arith, room, length-drop at word, before.within) in (
      found.0,
      within,
      record {
        within = within;
        bytes_fit = bytes-push bytes b before.bytes_fit fits;
        text = escaped_bytes-push bytes b ∙ ap (λ t. t ++ escaped_byte b) before.text ∙ ap (λ t. take at word ++ t) (sym is)
            ∙ sym (take-add at n word);
        short = omega (arith, before.short, length-append bytes (b ∷ []), found.0);
      },
    )

-- where no byte's spelling comes next, the word is no bytes' spelling
pub spells-stuck : {word bytes : List ℕ} {at : ℕ} → Spells word bytes at → at < length word
    → ((b : ℕ) (rest : List ℕ) → b < 256 → escaped_byte b ++ rest ≢ tail_of word at)
    → (xs : List ℕ) → IsBytes xs → escaped_bytes xs ≢ word
unfolding escaped_bytes
spells-stuck {word} {bytes} {at} before more none xs fx e =
    let whole : escaped_bytes xs ≡ escaped_bytes bytes ++ drop at word = e ∙ sym (take-append-drop at word)
    ∙ ap (λ t. t ++ drop at word) (sym before.text) in
    let rest = behind bytes xs (drop at word) before.bytes_fit fx whole in
    elim rest.0 as (λ ys. IsBytes ys → (escaped_bytes ys ≡ drop at word) → ⊥) [
      | [] ↦ λ fy same. let long = ap length same in omega (arith, long, length-drop at word)
      | y ∷ ys ↦ λ fy same. none y (escaped_bytes ys) (fy 0) (same ∙ sym (take_rest word at))
    ] rest.1 rest.2

-- ---- one spelling at the front of a word

-- a byte behind a backslash
pub other_front : (b : ℕ) (word : List ℕ) → is_plain b ≡ false → 3 ≤ length word → slice_index word 0 ≡ 92
    → encode_lower (b ∷ []) ≡ take 2 (drop 1 word) → take 3 word ≡ escaped_byte b
other_front b [] h long first e = absurd (omega arith)
other_front b (x ∷ word) h long first e = sym (other_byte b h ∙ rw (← first) (ap (λ t. x ∷ t) e))

pub other_parts : (b : ℕ) (rest : List ℕ) {word : List ℕ} → is_plain b ≡ false → escaped_byte b ++ rest ≡ word
    → (3 ≤ length word) × (slice_index word 0 ≡ 92) × (encode_lower (b ∷ []) ≡ take 2 (drop 1 word))
unfolding encode_with
other_parts b rest {word} h e =
    let text : 92 ∷ (encode_lower (b ∷ []) ++ rest) ≡ word = rw (other_byte b h) at e in
    subst (λ w. (3 ≤ length w) × (slice_index w 0 ≡ 92) × (encode_lower (b ∷ []) ≡ take 2 (drop 1 w))) text (omega arith, refl, refl)

pub other_same : (b c : ℕ) {digits : List ℕ} → b < 256 → c < 256 → encode_lower (b ∷ []) ≡ digits → encode_lower (c ∷ []) ≡ digits → b ≡ c
other_same b c fb fc eb ec = ap (λ xs. get_or xs 0 0) (same_bytes (b ∷ []) (c ∷ []) (one b fb) (one c fc) (eb ∙ sym ec))

pub clash : (b : ℕ) {c : ℕ} → b ≡ c → is_plain b ≡ false → is_plain c ≡ true → ⊥
clash b e escaped known = false≢true (sym escaped ∙ subst (λ x. is_plain x ≡ true) (sym e) known)

-- a byte that stands for itself
pub plain_front : (word : List ℕ) → 0 < length word → is_plain (slice_index word 0) ≡ true → take 1 word ≡ escaped_byte (slice_index word 0)
plain_front [] some h = absurd (omega arith)
plain_front (x ∷ word) some h = sym (plain_byte x h)

pub none_front : (word : List ℕ) → is_plain (slice_index word 0) ≡ false
    → ((b : ℕ) (rest : List ℕ) → b < 256 → is_plain b ≡ false → escaped_byte b ++ rest ≢ word)
    → (b : ℕ) (rest : List ℕ) → b < 256 → escaped_byte b ++ rest ≢ word
none_front word h none b rest fits e = elim (sort b) [
  | plain p ↦
      let text : b ∷ rest ≡ word = rw (plain_byte b p) at e in
      let first : b ≡ slice_index word 0 = ap (λ xs. get_or xs 0 0) text in
      false≢true (sym (subst (λ x. is_plain x ≡ false) (sym first) h) ∙ p)
  | other p ↦ none b rest fits p e
]

pub none_empty : (word : List ℕ) → length word ≡ 0 → (b : ℕ) (rest : List ℕ) → b < 256 → escaped_byte b ++ rest ≢ word
none_empty [] h b rest fits e = some_bytes b rest e
none_empty (x ∷ word) h b rest fits e = omega arith

-- ---- whole words

pub word_of_bytes : (bytes : List ℕ) {word : List ℕ} → escaped_bytes bytes ≡ word → 0 < length word → escaped_word bytes ≡ word
unfolding escaped_bytes
word_of_bytes [] e some = absurd (omega (arith, ap length e))
word_of_bytes (b ∷ bytes) e some = e

pub bytes_of_word : (bytes : List ℕ) {word : List ℕ} → escaped_word bytes ≡ word → word ≢ 92 ∷ [] → escaped_bytes bytes ≡ word
bytes_of_word [] e apart = absurd (apart (sym e))
bytes_of_word (b ∷ bytes) e apart = e

pub word_some : (bytes word : List ℕ) → escaped_word bytes ≡ word → 0 < length word
unfolding escaped_bytes
word_some [] word e = omega (arith, ap length e)
word_some (b ∷ bytes) [] e = absurd (some_bytes b (escaped_bytes bytes) e)
word_some (b ∷ bytes) (x ∷ word) e = omega arith

-- ---- writing

-- a backslash and the two digits
pub other_text : (b : ℕ) {digits : List ℕ} → digits ≡ encode_lower (b ∷ [])
    → 92 ∷ get_or digits 0 0 ∷ get_or digits 1 0 ∷ [] ≡ 92 ∷ encode_lower (b ∷ [])
unfolding encode_with
other_text b e = rw e refl
