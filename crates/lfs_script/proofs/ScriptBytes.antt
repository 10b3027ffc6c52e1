-- Lines of a script put together: their texts, what was read of them and what was written.
use Rattle.std.proofs.Common.{◌≡◌, ◌≢◌, ℕ, zero, suc, ◌<◌, ◌≤◌, ◌+◌, Option, None, Some, Ok, List, [], ◌∷◌, ◌++◌, length, refl}
use Rattle.std.proofs.Common.{sym, ap, ◌∙◌, subst, append_assoc, length-append, arith}
use Rattle.std.specs.List.{AllByRecursion}
use Rattle.std.proofs.lemmas.List.{append-nil}
use Rattle.std.proofs.lemmas.List.Elements.{All-append}
use Rattle.std.specs.Io.KnownBytes.{Appends, Consumes, IsAtEnd, prepend_known}
use Rattle.std.proofs.KnownBytes.{Appends-trans, Consumes-trans}
use Rattle.lfs_model.specs.Call.{Answer}
use Rattle.lfs_model.specs.Script.{Line, Spells, ended, lines, reply}
use Rattle.lfs_model.proofs.LineTexts.{lines_in_turn}
use Rattle.lfs_words.specs.Bytes.{AppendsSome}
use Rattle.lfs_script.specs.Bytes.{taken}
use Rattle.lfs_script.specs.Ending.{AppendsTo, AreSpelled, IsText, ended_texts, replies}

-- ---- bytes without a newline

plain_one : (b : ℕ) → b ≢ 10 → IsText (b ∷ [])
plain_one b ne zero d lt = ne
plain_one b ne (suc k) d lt = absurd (omega arith)

pub plain_more : (text : List ℕ) (b : ℕ) → IsText text → b ≢ 10 → IsText (text ++ b ∷ [])
plain_more text b plain ne = All-append (λ c. c ≢ 10) text (b ∷ []) plain (plain_one b ne)

-- ---- what was read

-- a byte more of a line
pub byte_read : (E : Type 0) (a b c : Option (List ℕ)) (text : List ℕ) {new : List ℕ} {found : Option ℕ} {byte : ℕ} → found ≡ Some byte
    → new ≡ text ++ byte ∷ [] → Consumes a b text → Consumes b c (taken {E = E} (Ok found)) → Consumes a c new
byte_read E a b c text {byte} is pushed before next =
    subst (Consumes a c) (sym pushed)
    (Consumes-trans a b c text (byte ∷ []) before (subst (λ o. Consumes b c (taken {E = E} (Ok o))) is next))

-- so many bytes are read or ahead, with that byte
pub ahead_byte : (E : Type 0) (text : List ℕ) {new : List ℕ} {found : Option ℕ} {byte : ℕ} (all a b : ℕ) → found ≡ Some byte
    → new ≡ text ++ byte ∷ [] → all ≤ length text + a → a ≤ length (taken {E = E} (Ok found)) + b → all ≤ length new + b
ahead_byte E text {byte} all a b is pushed before next =
    let one = subst (λ (o : Option ℕ). a ≤ length (taken {E = E} (Ok o)) + b) is next in
    let longer = ap length pushed in
    let parts = length-append text (byte ∷ []) in
    omega (arith, before, one, longer, parts)

-- what is left over was read too
pub with_left : (r now : Option (List ℕ)) (left bytes : List ℕ) → Consumes r (prepend_known left now) bytes → Consumes r now (bytes ++ left)
with_left None now left bytes consumes = tt
with_left (Some xs) None left bytes consumes = absurd consumes
with_left (Some xs) (Some ys) left bytes consumes = consumes ∙ sym (append_assoc bytes left ys)

last_empty : (left ys : List ℕ) → left ++ ys ≡ [] → ys ≡ []
last_empty [] ys e = e
last_empty (x ∷ left) ys e = let bad : x ∷ (left ++ ys) ≡ [] = e in cc

-- at the end of the input nothing is left over
pub without_left : (r now : Option (List ℕ)) (left bytes : List ℕ) → Consumes r (prepend_known left now) bytes
    → IsAtEnd (prepend_known left now) → Consumes r now bytes × IsAtEnd now
without_left None None left bytes consumes end = (tt, tt)
without_left None (Some ys) left bytes consumes end = (tt, last_empty left ys end)
without_left (Some xs) None left bytes consumes end = absurd consumes
without_left (Some xs) (Some ys) left bytes consumes end =
    (consumes ∙ ap (λ t. bytes ++ t) (end ∙ sym (last_empty left ys end)), last_empty left ys end)

-- a line, what ended it, and what is left over
pub line_read : (r mid now : Option (List ℕ)) (before text end left : List ℕ) → Consumes r mid before
    → Consumes mid (prepend_known left now) (text ++ end) → Consumes r now (before ++ (text ++ (end ++ left)))
line_read r mid now before text end left first next =
    subst (Consumes r now) (append_assoc before (text ++ end) left ∙ ap (λ t. before ++ t) (append_assoc text end left))
    (with_left r now left (before ++ (text ++ end)) (Consumes-trans r mid _ before (text ++ end) first next))

-- the last line, and the end of the input
pub last_read : (r mid now : Option (List ℕ)) (before text left : List ℕ) → Consumes r mid before
    → Consumes mid (prepend_known left now) (text ++ []) → IsAtEnd (prepend_known left now)
    → Consumes r now (before ++ text) × IsAtEnd now
last_read r mid now before text left first next end =
    without_left r now left (before ++ text)
    (Consumes-trans r mid _ before text first (subst (Consumes mid (prepend_known left now)) (append-nil text) next)) end

-- nothing was read yet
pub none_read : (r : Option (List ℕ)) {left : List ℕ} → left ≡ [] → Consumes r (prepend_known left r) []
none_read None none = tt
none_read (Some xs) none = sym (ap (λ t. t ++ xs) none)

-- ---- what was written

pub some_after : (a b c : Option (List ℕ)) (whole bytes : List ℕ) → Appends a b whole → AppendsSome b c bytes → AppendsTo a c whole bytes
some_after a b c whole bytes before (part, rest, parts, left, appends) =
    (part, rest, parts, left, Appends-trans a b c whole part before appends)

pub replies_more : (answers : List Answer) (answer : Answer) → replies (answers ++ answer ∷ []) ≡ replies answers ++ reply answer
replies_more [] answer = append-nil (reply answer)
replies_more (a ∷ answers) answer = ap (λ t. reply a ++ t) (replies_more answers answer)
    ∙ sym (append_assoc (reply a) (replies answers) (reply answer))

pub replies_after : (a b c : Option (List ℕ)) (answers : List Answer) (answer : Answer) → Appends a b (replies answers)
    → Appends b c (reply answer) → Appends a c (replies (answers ++ answer ∷ []))
replies_after a b c answers answer before next =
    subst (Appends a c) (sym (replies_more answers answer)) (Appends-trans a b c (replies answers) (reply answer) before next)

-- ---- texts and their lines

pub texts_more : (texts : List (List ℕ)) (text : List ℕ) → ended_texts (texts ++ text ∷ []) ≡ ended_texts texts ++ (text ++ 10 ∷ [])
texts_more [] text = append-nil (ended text)
texts_more (t ∷ texts) text = ap (λ s. ended t ++ s) (texts_more texts text)
    ∙ sym (append_assoc (ended t) (ended_texts texts) (text ++ 10 ∷ []))

-- a text more, and its newline behind all before it
pub ended_more : (texts : List (List ℕ)) (text : List ℕ) → ended_texts (texts ++ text ∷ []) ≡ (ended_texts texts ++ text) ++ 10 ∷ []
ended_more texts text = texts_more texts text ∙ sym (append_assoc (ended_texts texts) text (10 ∷ []))

pub line_more : (r mid left : Option (List ℕ)) (texts : List (List ℕ)) (text : List ℕ) → Consumes r mid (ended_texts texts)
    → Consumes mid left (text ++ 10 ∷ []) → Consumes r left (ended_texts (texts ++ text ∷ []))
line_more r mid left texts text before next =
    subst (Consumes r left) (sym (texts_more texts text)) (Consumes-trans r mid left (ended_texts texts) (text ++ 10 ∷ []) before next)

pub each_more : {A : Type 0} (P : A → Type 0) (xs : List A) (x : A) → AllByRecursion P xs → P x → AllByRecursion P (xs ++ x ∷ [])
each_more P [] x all one = (one, tt)
each_more P (y ∷ xs) x all one = (all.0, each_more P xs x all.1 one)

pub all_more : (texts : List (List ℕ)) (text : List ℕ) → AllByRecursion IsText texts → IsText text
    → AllByRecursion IsText (texts ++ text ∷ [])
all_more texts text all plain = each_more IsText texts text all plain

pub spelled_more : (texts : List (List ℕ)) (script : List Line) {text : List ℕ} {line : Line} → AreSpelled texts script → Spells text line
    → AreSpelled (texts ++ text ∷ []) (script ++ line ∷ [])
spelled_more [] [] all spells = (spells, tt)
spelled_more [] (l ∷ script) all spells = absurd all
spelled_more (t ∷ texts) [] all spells = absurd all
spelled_more (t ∷ texts) (l ∷ script) {text} {line} all spells = (all.0, spelled_more texts script all.1 spells)

pub lines_before : (texts : List (List ℕ)) (rest : List ℕ) → AllByRecursion IsText texts
    → lines (ended_texts texts ++ rest) ≡ texts ++ lines rest
lines_before [] rest all = refl
lines_before (t ∷ texts) rest all =
    let whole : ended_texts (t ∷ texts) ++ rest ≡ t ++ 10 ∷ (ended_texts texts ++ rest) = append_assoc (ended t) (ended_texts texts) rest
    ∙ append_assoc t (10 ∷ []) (ended_texts texts ++ rest) in
    ap lines whole ∙ (lines_in_turn t all.0).0 (ended_texts texts ++ rest) ∙ ap (λ ls. t ∷ ls) (lines_before texts rest all.1)

pub lines_whole : (texts : List (List ℕ)) → AllByRecursion IsText texts → lines (ended_texts texts) ≡ texts
lines_whole texts all = ap lines (sym (append-nil (ended_texts texts))) ∙ lines_before texts [] all ∙ append-nil texts

pub lines_last : (texts : List (List ℕ)) (text : List ℕ) → AllByRecursion IsText texts → IsText text → 0 < length text
    → lines (ended_texts texts ++ text) ≡ texts ++ text ∷ []
lines_last texts text all plain some = lines_before texts text all ∙ ap (λ ls. texts ++ ls) ((lines_in_turn text plain).1 some)
