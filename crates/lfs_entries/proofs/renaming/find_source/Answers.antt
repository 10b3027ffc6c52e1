use Rattle.std.proofs.Common.{sym, ◌∙◌}
use Rattle.lfs_entries.proofs.Findings.{gives_some, two_links}
use Rattle.lfs_entries.proofs.renaming.find_source.Goals as goal

pub returns-then-lacks_directory-clause-refused : goal.returns-then-lacks_directory-clause-refused
returns-then-lacks_directory-clause-refused g c =
    gives_some (g.F.Files.state c.args.files.now) (g.F.Files.state c.find_object.new.files) c.args.directory.value c.args.last.name.now
    c.in_ok-holder.holder c.in_ok-holder.ensures.short c.in-Some.is c.in_ok-holder.ensures.found
    _ (sym c.lacks_directory.ensures ∙ c.if-lacks_directory.true)

pub returns-then-holder-lt2-clause-refused : goal.returns-then-holder-lt2-clause-refused
returns-then-holder-lt2-clause-refused g c =
    two_links (g.F.Files.state c.args.files.now) (g.F.Files.state c.find_object.new.files) c.args.directory.value c.args.last.name.now
    c.in_ok-holder.holder c.in_ok-holder.found c.in_ok-holder.ensures.found c.if-holder-lt2.true
