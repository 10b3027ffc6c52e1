-- A text of a script spells at most one line, and the lines of a script come one after the other.
use Rattle.std.proofs.Common.{◌≢◌, ◌==◌, false, ◌++◌, length, ◌≡◌, refl, sym, ap, ◌∙◌, subst, arith, ℕ, ◌<◌, ◌^◌, true, List, [], ◌∷◌}
use Rattle.std.proofs.Common.{decimal}
use Rattle.std.specs.Prelude.{codes}
use Rattle.std.specs.List.{AllByRecursion}
use Rattle.std.proofs.lemmas.Bool.{false≢true}
use Rattle.std.proofs.lemmas.Bool.Decides.{nat_tests}
use Rattle.std.proofs.lemmas.List.Elements.{recursion_from_All}
use Rattle.std.proofs.lemmas.Fmt.{decimal_injective}
use Rattle.lfs_model.specs.Tree.{same_name}
use Rattle.lfs_model.proofs.Walks.{same_name-refl}
use Rattle.lfs_model.specs.Call.{Call, Open, Create, Close, Pread, Pwrite, Truncate, Mkdir, LinkTo, Symlink, Readlink, Unlink, Rmdir}
use Rattle.lfs_model.specs.Call.{Rename, StatOf, LstatOf, Readdir, Fsync, Sync, Clean, Space, Version, Upgrade, Widen, ListTree}
use Rattle.lfs_model.specs.Laws.{OneLine, LinesInTurn}
use Rattle.lfs_model.specs.Script.{before_lines, lines, Line, Plain, Fill, InRange, hex, line_of, text_of, word}
use Rattle.lfs_model.proofs.WordTexts.{all_solid, same_words, solid-decimal, solid-hex, solid-word, hex_once, word_once}

-- a line's first word, and the others
abbrev pub first_of : Line → List ℕ
first_of (Plain (Open p)) = codes "open"
first_of (Plain (Create p)) = codes "create"
first_of (Plain (Close h)) = codes "close"
first_of (Plain (Pread h off n)) = codes "pread"
first_of (Plain (Pwrite h off w)) = codes "pwrite"
first_of (Plain (Truncate h n)) = codes "truncate"
first_of (Plain (Mkdir p)) = codes "mkdir"
first_of (Plain (LinkTo p q)) = codes "link"
first_of (Plain (Symlink text p)) = codes "symlink"
first_of (Plain (Readlink p)) = codes "readlink"
first_of (Plain (Unlink p)) = codes "unlink"
first_of (Plain (Rmdir p)) = codes "rmdir"
first_of (Plain (Rename p q)) = codes "rename"
first_of (Plain (StatOf p)) = codes "stat"
first_of (Plain (LstatOf p)) = codes "lstat"
first_of (Plain (Readdir p)) = codes "readdir"
first_of (Plain (Fsync h)) = codes "fsync"
first_of (Plain Sync) = codes "sync"
first_of (Plain Clean) = codes "clean"
first_of (Plain Space) = codes "space"
first_of (Plain Version) = codes "version"
first_of (Plain Upgrade) = codes "upgrade"
first_of (Plain (Widen p)) = codes "widen"
first_of (Plain ListTree) = codes "tree"
first_of (Fill h off n byte) = codes "fill"

abbrev pub others_of : Line → List (List ℕ)
others_of (Plain (Open p)) = word p ∷ []
others_of (Plain (Create p)) = word p ∷ []
others_of (Plain (Close h)) = decimal h ∷ []
others_of (Plain (Pread h off n)) = decimal h ∷ decimal off ∷ decimal n ∷ []
others_of (Plain (Pwrite h off w)) = decimal h ∷ decimal off ∷ hex w ∷ []
others_of (Plain (Truncate h n)) = decimal h ∷ decimal n ∷ []
others_of (Plain (Mkdir p)) = word p ∷ []
others_of (Plain (LinkTo p q)) = word p ∷ word q ∷ []
others_of (Plain (Symlink text p)) = word text ∷ word p ∷ []
others_of (Plain (Readlink p)) = word p ∷ []
others_of (Plain (Unlink p)) = word p ∷ []
others_of (Plain (Rmdir p)) = word p ∷ []
others_of (Plain (Rename p q)) = word p ∷ word q ∷ []
others_of (Plain (StatOf p)) = word p ∷ []
others_of (Plain (LstatOf p)) = word p ∷ []
others_of (Plain (Readdir p)) = word p ∷ []
others_of (Plain (Fsync h)) = decimal h ∷ []
others_of (Plain Sync) = []
others_of (Plain Clean) = []
others_of (Plain Space) = []
others_of (Plain Version) = []
others_of (Plain Upgrade) = []
others_of (Plain (Widen p)) = word p ∷ []
others_of (Plain ListTree) = []
others_of (Fill h off n byte) = decimal h ∷ decimal off ∷ decimal n ∷ decimal byte ∷ []

pub text_is : (l : Line) → text_of l ≡ line_of (first_of l) (others_of l)
text_is (Plain (Open p)) = refl
text_is (Plain (Create p)) = refl
text_is (Plain (Close h)) = refl
text_is (Plain (Pread h off n)) = refl
text_is (Plain (Pwrite h off w)) = refl
text_is (Plain (Truncate h n)) = refl
text_is (Plain (Mkdir p)) = refl
text_is (Plain (LinkTo p q)) = refl
text_is (Plain (Symlink text p)) = refl
text_is (Plain (Readlink p)) = refl
text_is (Plain (Unlink p)) = refl
text_is (Plain (Rmdir p)) = refl
text_is (Plain (Rename p q)) = refl
text_is (Plain (StatOf p)) = refl
text_is (Plain (LstatOf p)) = refl
text_is (Plain (Readdir p)) = refl
text_is (Plain (Fsync h)) = refl
text_is (Plain Sync) = refl
text_is (Plain Clean) = refl
text_is (Plain Space) = refl
text_is (Plain Version) = refl
text_is (Plain Upgrade) = refl
text_is (Plain (Widen p)) = refl
text_is (Plain ListTree) = refl
text_is (Fill h off n byte) = refl

pub solid : (l : Line) → InRange l → all_solid (first_of l ∷ others_of l) ≡ true
solid (Plain (Open p)) fits = rw (solid-word p) refl
solid (Plain (Create p)) fits = rw (solid-word p) refl
solid (Plain (Close h)) fits = rw (solid-decimal h (omega arith)) refl
solid (Plain (Pread h off n)) fits =
    rw (solid-decimal h (let a = fits.0 in omega arith), solid-decimal off fits.1, solid-decimal n (let a = fits.2 in omega arith)) refl
solid (Plain (Pwrite h off w)) fits = rw (solid-decimal h (let a = fits.0 in omega arith), solid-decimal off fits.1, solid-hex w) refl
solid (Plain (Truncate h n)) fits = rw (solid-decimal h (let a = fits.0 in omega arith), solid-decimal n fits.1) refl
solid (Plain (Mkdir p)) fits = rw (solid-word p) refl
solid (Plain (LinkTo p q)) fits = rw (solid-word p, solid-word q) refl
solid (Plain (Symlink text p)) fits = rw (solid-word text, solid-word p) refl
solid (Plain (Readlink p)) fits = rw (solid-word p) refl
solid (Plain (Unlink p)) fits = rw (solid-word p) refl
solid (Plain (Rmdir p)) fits = rw (solid-word p) refl
solid (Plain (Rename p q)) fits = rw (solid-word p, solid-word q) refl
solid (Plain (StatOf p)) fits = rw (solid-word p) refl
solid (Plain (LstatOf p)) fits = rw (solid-word p) refl
solid (Plain (Readdir p)) fits = rw (solid-word p) refl
solid (Plain (Fsync h)) fits = rw (solid-decimal h (omega arith)) refl
solid (Plain Sync) fits = refl
solid (Plain Clean) fits = refl
solid (Plain Space) fits = refl
solid (Plain Version) fits = refl
solid (Plain Upgrade) fits = refl
solid (Plain (Widen p)) fits = rw (solid-word p) refl
solid (Plain ListTree) fits = refl
solid (Fill h off n byte) fits = rw (
  solid-decimal h (let a = fits.0 in omega arith),
  solid-decimal off fits.1,
  solid-decimal n (let a = fits.2 in omega arith),
  solid-decimal byte (let a = fits.3 in omega arith),
) refl

-- ---- one word of each kind

path_is : (p q : List ℕ) → word p ∷ [] ≡ word q ∷ [] → p ≡ q
path_is p q e = word_once p q (cc)

paths_are : (p q r s : List ℕ) → word p ∷ word q ∷ [] ≡ word r ∷ word s ∷ [] → (p ≡ r) × (q ≡ s)
paths_are p q r s e = (word_once p r (cc), word_once q s (cc))

handle_is : (h g : ℕ) → h < 2 ^ 32 → g < 2 ^ 32 → decimal h ∷ [] ≡ decimal g ∷ [] → h ≡ g
handle_is h g fh fg e = decimal_injective h g (omega arith) (omega arith) (cc)

not_fill : (c : Call) → same_name (codes "fill") (first_of (Plain c)) ≡ true → ⊥
not_fill (Open p) e = false≢true e
not_fill _ e = false≢true e

same : (a b : Line) → InRange a → InRange b → same_name (first_of a) (first_of b) ≡ true → others_of a ≡ others_of b → a ≡ b
same (Plain (Open p)) (Plain (Open q)) fa fb e f = ap (λ x. Plain (Open x)) (path_is p q f)
same (Plain (Create p)) (Plain (Create q)) fa fb e f = ap (λ x. Plain (Create x)) (path_is p q f)
same (Plain (Close h)) (Plain (Close g)) fa fb e f = ap (λ x. Plain (Close x)) (handle_is h g fa fb f)
same (Plain (Pread h off n)) (Plain (Pread g at m)) fa fb e f =
    let x : h ≡ g = decimal_injective h g (let a = fa.0 in omega arith) (let a = fb.0 in omega arith) (cc) in
    let y : off ≡ at = decimal_injective off at fa.1 fb.1 (cc) in
    let z : n ≡ m = decimal_injective n m (let a = fa.2 in omega arith) (let a = fb.2 in omega arith) (cc) in
    cc
same (Plain (Pwrite h off w)) (Plain (Pwrite g at v)) fa fb e f =
    let x : h ≡ g = decimal_injective h g (let a = fa.0 in omega arith) (let a = fb.0 in omega arith) (cc) in
    let y : off ≡ at = decimal_injective off at fa.1 fb.1 (cc) in
    let z : w ≡ v = hex_once w v (cc) in
    cc
same (Plain (Truncate h n)) (Plain (Truncate g m)) fa fb e f =
    let x : h ≡ g = decimal_injective h g (let a = fa.0 in omega arith) (let a = fb.0 in omega arith) (cc) in
    let y : n ≡ m = decimal_injective n m fa.1 fb.1 (cc) in
    cc
same (Plain (Mkdir p)) (Plain (Mkdir q)) fa fb e f = ap (λ x. Plain (Mkdir x)) (path_is p q f)
same (Plain (LinkTo p q)) (Plain (LinkTo r s)) fa fb e f = let both = paths_are p q r s f in let x : p ≡ r = both.0 in
    let y : q ≡ s = both.1 in cc
same (Plain (Symlink p q)) (Plain (Symlink r s)) fa fb e f = let both = paths_are p q r s f in let x : p ≡ r = both.0 in
    let y : q ≡ s = both.1 in cc
same (Plain (Readlink p)) (Plain (Readlink q)) fa fb e f = ap (λ x. Plain (Readlink x)) (path_is p q f)
same (Plain (Unlink p)) (Plain (Unlink q)) fa fb e f = ap (λ x. Plain (Unlink x)) (path_is p q f)
same (Plain (Rmdir p)) (Plain (Rmdir q)) fa fb e f = ap (λ x. Plain (Rmdir x)) (path_is p q f)
same (Plain (Rename p q)) (Plain (Rename r s)) fa fb e f = let both = paths_are p q r s f in let x : p ≡ r = both.0 in
    let y : q ≡ s = both.1 in cc
same (Plain (StatOf p)) (Plain (StatOf q)) fa fb e f = ap (λ x. Plain (StatOf x)) (path_is p q f)
same (Plain (LstatOf p)) (Plain (LstatOf q)) fa fb e f = ap (λ x. Plain (LstatOf x)) (path_is p q f)
same (Plain (Readdir p)) (Plain (Readdir q)) fa fb e f = ap (λ x. Plain (Readdir x)) (path_is p q f)
same (Plain (Fsync h)) (Plain (Fsync g)) fa fb e f = ap (λ x. Plain (Fsync x)) (handle_is h g fa fb f)
same (Plain Sync) (Plain Sync) fa fb e f = refl
same (Plain Clean) (Plain Clean) fa fb e f = refl
same (Plain Space) (Plain Space) fa fb e f = refl
same (Plain Version) (Plain Version) fa fb e f = refl
same (Plain Upgrade) (Plain Upgrade) fa fb e f = refl
same (Plain (Widen p)) (Plain (Widen q)) fa fb e f = ap (λ x. Plain (Widen x)) (path_is p q f)
same (Plain ListTree) (Plain ListTree) fa fb e f = refl
same (Fill h off n byte) (Fill g at m b) fa fb e f =
    let x : h ≡ g = decimal_injective h g (let a = fa.0 in omega arith) (let a = fb.0 in omega arith) (cc) in
    let y : off ≡ at = decimal_injective off at fa.1 fb.1 (cc) in
    let z : n ≡ m = decimal_injective n m (let a = fa.2 in omega arith) (let a = fb.2 in omega arith) (cc) in
    let w : byte ≡ b = decimal_injective byte b (let a = fa.3 in omega arith) (let a = fb.3 in omega arith) (cc) in
    cc
same (Fill h off n byte) (Plain c) fa fb e f = absurd (not_fill c e)
same _ _ fa fb e f = absurd (false≢true e)

pub one_line : OneLine
one_line bytes a b sa sb =
    let texts : line_of (first_of a) (others_of a) ≡ line_of (first_of b) (others_of b) = sym (text_is a) ∙ sym sa.text ∙ sb.text
    ∙ text_is b in
    let words = same_words (first_of a) (first_of b) (others_of a) (others_of b) (solid a sa.in_range) (solid b sb.in_range) texts in
    same a b sa.in_range sb.in_range (subst (λ w. same_name (first_of a) w ≡ true) words.0 (same_name-refl (first_of a))) words.1

-- ---- the lines of a script

no_end : (c : ℕ) → c ≢ 10 → (c == 10) ≡ false
no_end c ne = grind (arith, nat_tests)

line_first : (line rest : List ℕ) → AllByRecursion (λ c. c ≢ 10) line → lines (line ++ 10 ∷ rest) ≡ line ∷ lines rest
line_first [] rest h = ended (lines rest)
  where
    ended : (ls : List (List ℕ)) → before_lines 10 ls ≡ [] ∷ ls
    ended [] = refl
    ended (l ∷ ls) = refl
line_first (c ∷ line) rest h = ap (before_lines c) (line_first line rest h.1) ∙ rw (no_end c h.0) refl

line_last : (line : List ℕ) → AllByRecursion (λ c. c ≢ 10) line → 0 < length line → lines line ≡ line ∷ []
line_last [] h some = absurd (omega arith)
line_last (c ∷ []) h some = rw (no_end c h.0) refl
line_last (c ∷ d ∷ line) h some = ap (before_lines c) (line_last (d ∷ line) h.1 (omega arith)) ∙ rw (no_end c h.0) refl

pub lines_in_turn : LinesInTurn
lines_in_turn line none = let each = recursion_from_All (λ c. c ≢ 10) line none in
    (λ rest. line_first line rest each, λ some. line_last line each some)
