use Rattle.std.proofs.Common.{rules, ◌≡◌, ◌<◌, ◌∷◌, [], take, drop, arith, false}
use Rattle.hex.specs.Hex.{encode_lower}
use Rattle.lfs_words.specs.Words.{is_plain}
use Rattle.lfs_words.proofs.Escapes.{other_front, other_parts, other_same, clash}
use Rattle.lfs_words.proofs.escape.escaped.Goals as goal
use Rattle.lfs_words.proofs.escape.escaped.Goals.{then-word-lt3-via-then-word-lt3, then-word-lt3-via-else-word-lt3+then-word-ne92}

pub returns-then-word-lt3-clause-none : goal.returns-then-word-lt3-clause-none
returns-then-word-lt3-clause-none c = λ e b rest fits other same.
    let parts = other_parts b rest other same in
    elim c.then-word-lt3.branch [
      | then-word-lt3-via-then-word-lt3 w ↦ omega (arith, parts.0, w.if-word-lt3.true)
      | then-word-lt3-via-else-word-lt3+then-word-ne92 w ↦ w.if-word-ne92.true parts.1
    ]

pub returns-in_default-clause-none : goal.returns-in_default-clause-none
returns-in_default-clause-none c = λ e b rest fits other same.
    let parts = other_parts b rest other same in
    c.byte_of.ensures.none c.in_default.is b fits parts.2

pub returns-then-is_plain-clause-none : goal.returns-then-is_plain-clause-none
returns-then-is_plain-clause-none c = λ e b rest fits other same.
    let parts = other_parts b rest other same in
    let byte : c.in-Some.byte < 256 = search rules in
    let digits : encode_lower (c.in-Some.byte ∷ []) ≡ take 2 (drop 1 c.args.word.now) = search rules in
    clash b (other_same b c.in-Some.byte fits byte parts.2 digits) other (search rules)

pub returns-else-is_plain-clause-found : goal.returns-else-is_plain-clause-found
returns-else-is_plain-clause-found c =
    let other : is_plain c.in-Some.byte ≡ false = search rules in
    let digits : encode_lower (c.in-Some.byte ∷ []) ≡ take 2 (drop 1 c.args.word.now) = search rules in
    (c.if-word-lt3.false, other_front c.in-Some.byte c.args.word.now other c.if-word-lt3.false c.if-word-ne92.false digits, other)
