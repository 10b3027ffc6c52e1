use Rattle.lfs_path.proofs.LinkTexts.{ReadTo}
use Rattle.lfs_path.proofs.link.read_text.Given as goal

abbrev pub invariant-loop-index : goal.invariant-loop-index
invariant-loop-index g l =
    ReadTo l.link.number.value l.link.header.size (g.F.Files.state l.initial.files) (g.F.Files.state l.files) l.index l.text.items
