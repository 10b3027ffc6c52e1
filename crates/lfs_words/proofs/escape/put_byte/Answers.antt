use Rattle.std.proofs.Common.{rules, ◌≡◌, ◌<◌, true, false, sym, subst}
use Rattle.lfs_words.specs.Bytes.{Puts}
use Rattle.lfs_words.specs.Words.{is_plain}
use Rattle.lfs_words.proofs.Spellings.{plain_word, other_word}
use Rattle.lfs_words.proofs.escape.put_byte.Goals as goal

pub returns-then-is_plain : goal.returns-then-is_plain
returns-then-is_plain g c =
    let plain : is_plain c.args.byte ≡ true = search rules in
    subst (λ t. Puts (g.W.Write.contents c.args.writer.now) (g.W.Write.contents c.put.new.writer)
    (g.C.CountsWrites.failures c.args.counter.now) (g.C.CountsWrites.failures c.put.new.counter) t c.put.result)
    (sym (plain_word c.args.byte plain)) c.put.ensures

pub returns : goal.returns
returns g c =
    let other : is_plain c.args.byte ≡ false = search rules in
    let fits : c.args.byte < 256 = search rules in
    subst (λ t. Puts (g.W.Write.contents c.args.writer.now) (g.W.Write.contents c.put-2.new.writer)
    (g.C.CountsWrites.failures c.args.counter.now) (g.C.CountsWrites.failures c.put-2.new.counter) t c.put-2.result)
    (sym (other_word c.args.byte fits other c.digits_of.ensures)) c.put-2.ensures
