use Rattle.std.proofs.Common.{rules, ◌<◌, ◌≡◌, ◌≢◌, [], ◌∷◌, length, arith}
use Rattle.lfs_words.proofs.Spellings.{fits_of, word_length, unescaped, escaped_as, IfOk-word, IfOk-bytes}
use Rattle.lfs_words.proofs.escape.read_escaped.Goals as goal

pub returns-then-is_empty : goal.returns-then-is_empty
returns-then-is_empty c = record {
  ok = tt;
  bytes = tt;
  spelling = λ e bytes fits same.
      (let some = word_length bytes fits same in
      let none : length c.args.word.now ≡ 0 = search rules in
      omega (arith, some, none));
  memory = λ e. absurd (cc);
}

pub returns : goal.returns
returns c =
    let some : 0 < length c.args.word.now = search rules in
    let apart : c.args.word.now ≢ 92 ∷ [] = search rules in
    record {
      ok = IfOk-word c.unescape.result c.args.word.now c.unescape.ensures.ok some;
      bytes = IfOk-bytes c.unescape.result c.args.word.now c.unescape.ensures.ok;
      spelling = λ e bytes fits same.
          c.unescape.ensures.spelling e bytes (fits_of bytes fits) (unescaped bytes fits same apart);
      memory = λ e.
          (let found = c.unescape.ensures.memory e in
          let both = escaped_as found.0 found.1 found.2 some in
          (found.0, both.0, both.1));
    }
