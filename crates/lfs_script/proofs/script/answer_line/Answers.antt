use Rattle.std.proofs.Common.{rules, ◌≡◌, Err, inl, refl}
use Rattle.lfs_lines.specs.Calls.{line_for}
use Rattle.lfs_words.specs.declared.word.WordFault.TheVariants.{Memory, Spelling}
use Rattle.lfs_script.proofs.ScriptTurns.{called_text, unknown_is_bad, without_memory}
use Rattle.lfs_script.proofs.script.answer_line.Goals as goal

pub returns-in-Ok : goal.returns-in-Ok
returns-in-Ok g c = called_text g.D.SectorDevice.state _ _ (line_for c.in-Ok.call) _ c.requires.short c.in-Ok.ensures.ok
    c.in-Ok.ensures.in_range (inl c.make.ensures)

pub returns-in-Err-Memory : goal.returns-in-Err-Memory
returns-in-Err-Memory g c =
    let refused : c.parse.result ≡ Err Memory = search rules in
    without_memory g.D.SectorDevice.state _ c.requires.short (c.parse.ensures.memory refused)

pub returns-in-Err-Spelling : goal.returns-in-Err-Spelling
returns-in-Err-Spelling g c =
    let refused : c.parse.result ≡ Err Spelling = search rules in
    (unknown_is_bad c.args.line.now (c.parse.ensures.spelling refused), refl)
