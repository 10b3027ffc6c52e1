use Rattle.std.proofs.Common.{◌+◌}
use Rattle.std.proofs.lemmas.List.{take_rest}
use Rattle.lfs_words.proofs.Cuts.{cut_some, at_none}
use Rattle.lfs_words.proofs.word.first_word.Goals as goal

pub returns-in-Some : goal.returns-in-Some
returns-in-Some c = rw (take_rest c.args.text.now (c.in-Some.i + 1)) (cut_some c.args.text.now c.in-Some.ensures.place)

pub returns-in-None : goal.returns-in-None
returns-in-None c = at_none c.space_in.ensures.place c.in-None.is
