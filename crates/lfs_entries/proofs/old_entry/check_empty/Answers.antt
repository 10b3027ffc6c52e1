use Rattle.std.proofs.Common.{sym, ◌∙◌}
use Rattle.lfs_entries.proofs.Findings.{few_links, gives_some}
use Rattle.lfs_entries.proofs.old_entry.check_empty.Goals as goal

pub returns-then-not-is_directory-clause-refused : goal.returns-then-not-is_directory-clause-refused
returns-then-not-is_directory-clause-refused g c = (
  sym c.is_dots.ensures ∙ c.if-is_dots.false,
  gives_some (g.F.Files.state c.args.files.now) (g.F.Files.state c.find_object.new.files) c.args.directory.value c.args.name.now
      c.in_ok-holder.holder c.in_ok-holder.ensures.short c.in-Some.is c.in_ok-holder.ensures.found
      _ (c.is_directory.ensures.no c.if-not-is_directory.true),
)

pub returns-then-object-gt0-clause-refused : goal.returns-then-object-gt0-clause-refused
returns-then-object-gt0-clause-refused g c = (
  sym c.is_dots.ensures ∙ c.if-is_dots.false,
  gives_some (g.F.Files.state c.args.files.now) (g.F.Files.state c.find_object.new.files) c.args.directory.value c.args.name.now
      c.in_ok-holder.holder c.in_ok-holder.ensures.short c.in-Some.is c.in_ok-holder.ensures.found
      _ (c.is_directory.ensures.yes c.if-not-is_directory.false, c.if-object-gt0.true),
)

pub returns-then-holder-lt-LEAST_LINKS-clause-refused : goal.returns-then-holder-lt-LEAST_LINKS-clause-refused
returns-then-holder-lt-LEAST_LINKS-clause-refused g c =
    few_links (g.F.Files.state c.args.files.now) (g.F.Files.state c.find_object.new.files) c.args.directory.value c.args.name.now
    c.in_ok-holder.holder c.in_ok-holder.ensures.short c.in-Some.is c.in_ok-holder.ensures.found
    (c.is_directory.ensures.yes c.if-not-is_directory.false) c.if-holder-lt-LEAST_LINKS.true
