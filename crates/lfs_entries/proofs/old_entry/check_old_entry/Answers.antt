use Rattle.std.proofs.Common.{inr, sym, ◌∙◌}
use Rattle.lfs_entries.proofs.Findings.{gives_some}
use Rattle.lfs_entries.proofs.old_entry.check_old_entry.Goals as goal

pub returns-then-is_directory-clause-refused : goal.returns-then-is_directory-clause-refused
returns-then-is_directory-clause-refused g c = inr (
  sym c.is_dots.ensures ∙ c.if-is_dots.false,
  gives_some (g.F.Files.state c.args.files.now) (g.F.Files.state c.find_object.new.files) c.args.directory.value c.args.last.name.now
      c.in_ok-holder.holder c.in_ok-holder.ensures.short c.in-Some.is c.in_ok-holder.ensures.found
      _ (c.is_directory.ensures.yes c.if-is_directory.true),
)

pub returns-then-last-clause-refused : goal.returns-then-last-clause-refused
returns-then-last-clause-refused g c = (
  sym c.is_dots.ensures ∙ c.if-is_dots.false,
  c.if-last.true,
  gives_some (g.F.Files.state c.args.files.now) (g.F.Files.state c.find_object.new.files) c.args.directory.value c.args.last.name.now
      c.in_ok-holder.holder c.in_ok-holder.ensures.short c.in-Some.is c.in_ok-holder.ensures.found
      _ (c.is_directory.ensures.no c.if-is_directory.false),
)
