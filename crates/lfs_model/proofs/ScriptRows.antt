-- Worked examples from the script's bytes to the reply's bytes.
use Rattle.std.proofs.Common.{◌≡◌, refl, sym, ap, ◌∙◌, subst, arith, inl, inr, ℕ, ◌<◌, ◌^◌, true, List, [], ◌∷◌, ◌++◌, length, get_or}
use Rattle.std.proofs.Common.{decimal, Some, Option}
use Rattle.std.proofs.lemmas.Bool.{cases_lt, false≢true}
use Rattle.std.proofs.lemmas.Fmt.{decimal_digit, first_decimal}
use Rattle.std.specs.Prelude.{codes, option_map, map, flat_map}
use Rattle.std.specs.Fmt.{digits}
use Rattle.lfs_model.specs.Need.{data_of, meta_of}
use Rattle.lfs_model.specs.Call.{Create, Pread, Pwrite, StatOf, Readdir, Mkdir, Space, ListTree}
use Rattle.lfs_model.specs.Plain.{fresh, answers_to}
use Rattle.lfs_model.specs.Script.{InRange, IsBad, Line, Plain, Fill, text_of, call_of, line_of, reply, bad, ended, lines}
use Rattle.lfs_model.specs.Tree.{same_name}
use Rattle.lfs_model.proofs.LineTexts.{first_of, others_of, text_is, solid}
use Rattle.lfs_model.proofs.Walks.{same_name-refl}
use Rattle.lfs_model.proofs.WordTexts.{same_words}

transcript : List Line → Option (List ℕ)
transcript ls = option_map (flat_map reply) (answers_to 64 fresh (map call_of ls))

script : List Line → List (List ℕ)
unfolding digits
script ls = map text_of ls

zeros_are_free : List Line
zeros_are_free = Plain (Create (codes "/z")) ∷ Fill 0 0 512 0 ∷ Plain Space ∷ Fill 0 100 1 9 ∷ Plain Space ∷ Fill 0 100 1 0 ∷ Plain Space
    ∷ Plain (StatOf (codes "/z")) ∷ []

zeros_are_free_lines : script zeros_are_free ≡ (codes "create /z" ∷ codes "fill 0 0 512 0" ∷ codes "space" ∷ codes "fill 0 100 1 9"
    ∷ codes "space" ∷ codes "fill 0 100 1 0" ∷ codes "space" ∷ codes "stat /z" ∷ [])
unfolding script zeros_are_free digits
zeros_are_free_lines = refl

zeros_are_free_reply : transcript zeros_are_free ≡ Some (flat_map ended (codes "ok 0" ∷ codes "ok 512" ∷ codes "ok 1 2 735 3008"
    ∷ codes "ok 1" ∷ codes "ok 2 2 736 3008" ∷ codes "ok 1" ∷ codes "ok 1 2 735 3008" ∷ codes "ok 2 file 1 512" ∷ []))
unfolding transcript zeros_are_free digits data_of meta_of
zeros_are_free_reply = refl

names_and_words : List Line
names_and_words = Plain (Mkdir (codes "/d")) ∷ Plain (Create (codes "/b")) ∷ Plain (Create (codes "/a c"))
    ∷ Plain (Pwrite 1 0 (codes "abc")) ∷ Plain (Readdir (codes "/")) ∷ Plain ListTree ∷ []

names_and_words_lines : script names_and_words
    ≡ (codes "mkdir /d" ∷ codes "create /b" ∷ codes "create /a\\20c" ∷ codes "pwrite 1 0 616263" ∷ codes "readdir /" ∷ codes "tree" ∷ [])
unfolding script names_and_words digits
names_and_words_lines = refl

names_and_words_reply : transcript names_and_words ≡ Some (flat_map ended
    (codes "ok" ∷ codes "ok 0" ∷ codes "ok 1" ∷ codes "ok 3" ∷ codes "ok 3" ∷ codes "a\\20c 4 file" ∷ codes "b 3 file" ∷ codes "d 2 dir"
    ∷ codes "ok 3" ∷ codes "1 a\\20c file 4 1 3 616263" ∷ codes "1 b file 3 1 0 -" ∷ codes "1 d dir 2 2 0 -" ∷ []))
unfolding transcript names_and_words digits data_of meta_of
names_and_words_reply = refl

some_lines : lines (codes "ab" ++ 10 ∷ 10 ∷ codes "c") ≡ (codes "ab" ∷ [] ∷ codes "c" ∷ [])
some_lines = refl

-- ---- a number with a leading zero is no number's word

no_leading_zero : (h : ℕ) → h < 2 ^ 64 → codes "00" ≡ decimal h → ⊥
no_leading_zero h fits e = elim (cases_lt 0 h) as (λ _. ⊥) [
  | inl above ↦ let first = first_decimal h above fits in let at : get_or (decimal h) 0 0 ≡ 48 = ap (λ w. get_or w 0 0) (sym e) in
      omega arith
  | inr none ↦
      let zero_is : h ≡ 0 = omega arith in
      let long : 2 ≡ length (decimal h) = ap length e in
      let short : length (decimal h) ≡ 1 = ap (λ n. length (decimal n)) zero_is ∙ ap length (decimal_digit 0 (omega arith)) in
      omega arith
]

no_such_line : (l : Line) → InRange l → same_name (codes "pread") (first_of l) ≡ true
    → codes "00" ∷ codes "0" ∷ codes "1" ∷ [] ≡ others_of l → ⊥
no_such_line (Plain (Pread h off n)) fits e f = no_leading_zero h (let a = fits.0 in omega arith) (ap (λ ws. get_or ws 0 []) f)
no_such_line _ fits e f = false≢true e

leading_zero : IsBad (codes "pread 00 0 1")
leading_zero l is =
    let texts : line_of (codes "pread") (codes "00" ∷ codes "0" ∷ codes "1" ∷ []) ≡ line_of (first_of l) (others_of l) = is.text
    ∙ text_is l in
    let words =
    same_words (codes "pread") (first_of l) (codes "00" ∷ codes "0" ∷ codes "1" ∷ []) (others_of l) refl (solid l is.in_range) texts in
    no_such_line l is.in_range (subst (λ w. same_name (codes "pread") w ≡ true) words.0 (same_name-refl (codes "pread"))) words.1

bad_second_line : transcript (Plain Space ∷ []) ≡ Some (ended (codes "ok 0 1 727 3008"))
unfolding transcript digits data_of meta_of
bad_second_line = refl

bad_second_line_reply : bad 2 ≡ ended (codes "bad 2")
unfolding digits
bad_second_line_reply = refl
