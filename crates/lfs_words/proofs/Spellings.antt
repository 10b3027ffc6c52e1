-- How bytes are spelt is what the model says.
use Rattle.std.proofs.Common.{◌≡◌, ◌≢◌, Result, Ok, Err, IfOk, Vec, length, ℕ, zero, suc, ◌/◌, ◌%◌, ◌<◌, ◌≤◌, true, false, List, [], ◌∷◌}
use Rattle.std.proofs.Common.{◌++◌, Option, get_or, take, subst, flat_map, refl, sym, ap, ◌∙◌, arith}
use Rattle.std.specs.Io.KnownBytes.{Appends}
use Rattle.lfs_words.specs.Bytes.{AppendsSome}
use Rattle.lfs_words.proofs.PieceTexts.{pieces-some}
use Rattle.std.proofs.Math.Seq.{take_all}
use Rattle.hex.specs.Hex.{IsBytes, decode_of, encode_lower, encode_with}
use Rattle.lfs_model.specs.Bytes.{AreBytes}
use Rattle.lfs_model.specs.Script.{hex, hex_byte, word, word_byte}
use Rattle.lfs_words.specs.Words.{hex_word, is_pairs, is_plain, escaped_byte, escaped_bytes, escaped_word}
use Rattle.lfs_words.proofs.Digits.{digit_is, decoded, not_pairs, pairs-bytes}
use Rattle.lfs_words.proofs.Escapes.{plain, other, sort, plain_byte, other_byte, other_text, bytes_of_word, word_of_bytes, word_some}

pub fits_of : (bytes : List ℕ) → AreBytes bytes → IsBytes bytes
fits_of [] fits i = omega arith
fits_of (b ∷ bytes) fits zero = fits.0
fits_of (b ∷ bytes) fits (suc i) = fits_of bytes fits.1 i

pub are_of : (bytes : List ℕ) → IsBytes bytes → AreBytes bytes
are_of [] fits = tt
are_of (b ∷ bytes) fits = (fits 0, are_of bytes (λ i. fits (suc i)))

-- a byte's two digits
encoded_byte : (b : ℕ) → b < 256 → encode_lower (b ∷ []) ≡ hex_byte b
unfolding encode_with
encoded_byte b fits = rw (digit_is (b / 16) (omega arith), digit_is (b % 16) (omega arith)) refl

encoded : (bytes : List ℕ) → IsBytes bytes → encode_lower bytes ≡ flat_map hex_byte bytes
unfolding encode_with
encoded [] fits = refl
encoded (b ∷ bytes) fits =
    let small : b < 256 = fits 0 in
    rw (digit_is (b / 16) (omega arith), digit_is (b % 16) (omega arith), encoded bytes (λ i. fits (suc i))) refl

pub hex_is : (bytes : List ℕ) → IsBytes bytes → hex_word bytes ≡ hex bytes
hex_is [] fits = refl
hex_is (b ∷ bytes) fits = encoded (b ∷ bytes) fits

byte_is : (b : ℕ) → b < 256 → escaped_byte b ≡ word_byte b
byte_is b fits = elim (sort b) [
  | plain p ↦ plain_byte b p ∙ rw p refl
  | other p ↦ other_byte b p ∙ rw p (ap (λ t. 92 ∷ t) (encoded_byte b fits))
]

bytes_are : (bytes : List ℕ) → IsBytes bytes → escaped_bytes bytes ≡ flat_map word_byte bytes
unfolding escaped_bytes
bytes_are [] fits = refl
bytes_are (b ∷ bytes) fits = ap (λ t. t ++ escaped_bytes bytes) (byte_is b (fits 0))
    ∙ ap (λ t. word_byte b ++ t) (bytes_are bytes (λ i. fits (suc i)))

pub word_is : (bytes : List ℕ) → IsBytes bytes → escaped_word bytes ≡ word bytes
word_is [] fits = refl
word_is (b ∷ bytes) fits = bytes_are (b ∷ bytes) fits

-- ---- what is read

pub not_hex : (text : List ℕ) → is_pairs text ≡ false → text ≢ 45 ∷ [] → (bytes : List ℕ) → AreBytes bytes → hex bytes ≢ text
not_hex text odd apart bytes fits e = not_pairs text odd apart bytes (fits_of bytes fits) (hex_is bytes (fits_of bytes fits) ∙ e)

pub pairs_hex : (text : List ℕ) → is_pairs text ≡ true → (bytes : List ℕ) × AreBytes bytes × (hex bytes ≡ text)
pairs_hex text are = let found = pairs-bytes text are in (found.0, are_of found.0 found.1, sym (hex_is found.0 found.1) ∙ found.2)

pub decoded_hex : (text : List ℕ) {found : List ℕ} → is_pairs text ≡ true → decode_of text ≡ Ok found → AreBytes found × (hex found ≡ text)
decoded_hex text {found} are read = let both = decoded text found are read in (are_of found both.0, sym (hex_is found both.0) ∙ both.1)

pub word_length : (bytes : List ℕ) {text : List ℕ} → AreBytes bytes → word bytes ≡ text → 0 < length text
word_length bytes {text} fits e = word_some bytes text (word_is bytes (fits_of bytes fits) ∙ e)

pub unescaped : (bytes : List ℕ) {text : List ℕ} → AreBytes bytes → word bytes ≡ text → text ≢ 92 ∷ [] → escaped_bytes bytes ≡ text
unescaped bytes {text} fits e apart = bytes_of_word bytes (word_is bytes (fits_of bytes fits) ∙ e) apart

pub escaped_as : (bytes : List ℕ) {text : List ℕ} → IsBytes bytes → escaped_bytes bytes ≡ text → 0 < length text
    → AreBytes bytes × (word bytes ≡ text)
escaped_as bytes {text} fits e some = (are_of bytes fits, sym (word_is bytes fits) ∙ word_of_bytes bytes e some)

pub IfOk-word : {A E : Type 0} (r : Result (Vec ℕ A) E) (text : List ℕ) → IfOk r
    (λ bytes. IsBytes bytes.items × (escaped_bytes bytes.items ≡ text)) → 0 < length text → IfOk r (λ bytes. word bytes.items ≡ text)
IfOk-word (Ok v) text h some = (escaped_as v.items h.0 h.1 some).1
IfOk-word (Err e) text h some = tt

pub IfOk-bytes : {A E : Type 0} (r : Result (Vec ℕ A) E) (text : List ℕ)
    → IfOk r (λ bytes. IsBytes bytes.items × (escaped_bytes bytes.items ≡ text)) → IfOk r (λ bytes. AreBytes bytes.items)
IfOk-bytes (Ok v) text h = are_of v.items h.0
IfOk-bytes (Err e) text h = tt

-- ---- what is written

pub plain_word : (b : ℕ) → is_plain b ≡ true → word_byte b ≡ b ∷ []
plain_word b p = rw p refl

pub other_word : (b : ℕ) {digits : List ℕ} → b < 256 → is_plain b ≡ false → digits ≡ encode_lower (b ∷ [])
    → word_byte b ≡ 92 ∷ get_or digits 0 0 ∷ get_or digits 1 0 ∷ []
other_word b {digits} fits p e = rw p (ap (λ t. 92 ∷ t) (sym (encoded_byte b fits))) ∙ sym (other_text b e)

pub word_of_some : (bytes : List ℕ) → 0 < length bytes → flat_map word_byte bytes ≡ word bytes
word_of_some [] some = absurd (omega arith)
word_of_some (b ∷ bytes) some = refl

pub some_of_word : (a b c : Option (List ℕ)) (bytes : List ℕ) (i : ℕ) → i < length bytes → Appends a b (flat_map word_byte (take i bytes))
    → AppendsSome b c (word_byte (get_or bytes i 0)) → AppendsSome a c (word bytes)
some_of_word a b c bytes i lt before next =
    subst (AppendsSome a c) (word_of_some bytes (omega arith)) (pieces-some word_byte a b c bytes i 0 lt before next)

pub hex_written : (a b : Option (List ℕ)) (bytes : List ℕ) → IsBytes bytes → AppendsSome a b (hex_word bytes) → AppendsSome a b (hex bytes)
hex_written a b bytes fits h = subst (AppendsSome a b) (hex_is bytes fits) h

hex_whole : (a b : Option (List ℕ)) (bytes : List ℕ) → IsBytes bytes → 0 < length bytes → Appends a b (encode_lower bytes)
    → Appends a b (hex bytes)
hex_whole a b [] fits some h = absurd (omega arith)
hex_whole a b (x ∷ bytes) fits some h = subst (Appends a b) (hex_is (x ∷ bytes) fits) h

pub hex_all : (a b : Option (List ℕ)) (bytes : List ℕ) (at : ℕ) → IsBytes bytes → 0 < length bytes → length bytes ≤ at
    → Appends a b (encode_lower (take at bytes)) → Appends a b (hex bytes)
hex_all a b bytes at fits some le h = hex_whole a b bytes fits some (subst (λ t. Appends a b (encode_lower t)) (take_all at bytes le) h)
