use Rattle.std.proofs.Common.{rules, ◌<◌, ◌≤◌, ◌≡◌, [], ◌∷◌, ◌++◌, length, vec_capacity}
use Rattle.lfs_words.proofs.Escapes.{spells-none, spells-more, spells-stuck}
use Rattle.lfs_words.proofs.escape.unescape.Goals as goal

pub loop-at-init : goal.loop-at-init
loop-at-init c =
    let items : c.in-Ok.bytes.items ≡ [] = search rules in
    let room : length c.args.word.now ≤ vec_capacity c.in-Ok.bytes = search rules in
    (room, rw items (spells-none c.args.word.now))

pub returns-in_default-first_byte-clause-spelling : goal.returns-in_default-first_byte-clause-spelling
returns-in_default-first_byte-clause-spelling c = λ e.
    spells-stuck c.loop-at.invariant.1 c.loop-at-test.true (c.first_byte.ensures.none c.in_default-first_byte.is)

pub loop-at-preserved : goal.loop-at-preserved
loop-at-preserved c =
    let fits : c.in-Some.byte < 256 = search rules in
    let more = spells-more c.in-Some.byte c.in-Some.n c.loop-at.invariant.1 fits c.in-Some.ensures.found in
    let items : c.push.new.self.items ≡ c.loop-at.bytes.items ++ c.in-Some.byte ∷ [] = search rules in
    let room : length c.args.word.now ≤ vec_capacity c.push.new.self = search rules in
    (room, rw items more.2)
