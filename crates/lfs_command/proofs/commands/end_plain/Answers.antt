use Rattle.lfs_command.proofs.commands.end_plain.Goals as goal

pub unreachable-requires : goal.unreachable-requires
unreachable-requires g c = c.requires.plain c.in-Refused.is
