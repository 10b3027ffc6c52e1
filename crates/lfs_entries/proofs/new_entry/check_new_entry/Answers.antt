use Rattle.std.proofs.Common.{sym, ◌∙◌}
use Rattle.lfs_path.specs.dirs.Finding.{value_of}
use Rattle.lfs_entries.proofs.Findings.{full}
use Rattle.lfs_entries.proofs.new_entry.check_new_entry.Goals as goal

pub returns-then-not-is_name-clause-refused : goal.returns-then-not-is_name-clause-refused
returns-then-not-is_name-clause-refused g c = (
  sym c.is_dots.ensures ∙ c.if-is_dots.false,
  record {
    found = value_of c.in_ok-header.found;
    gives = record { head = c.in_ok-header.header; looks = c.in_ok-header.ensures.found; short = c.in_ok-header.ensures.short };
    none = λ named. (let yes = c.is_name.ensures.1 named in let no = c.if-not-is_name.true in absurd (cc));
  },
)

pub returns-then-is_full-clause-refused : goal.returns-then-is_full-clause-refused
returns-then-is_full-clause-refused g c = (
  sym c.is_dots.ensures ∙ c.if-is_dots.false,
  sym c.refuses_slash.ensures ∙ c.if-refuses_slash.false,
  full (g.F.Files.state c.args.files.now) (g.F.Files.state c.find_entry.new.files) c.args.directory.value c.args.last.name.now
      c.in_ok-header.header c.in_ok-header.ensures.short c.in_ok-header.found (sym c.is_some.ensures ∙ c.if-is_some.false)
      (c.is_full.ensures.full c.if-is_full.true) c.in_ok-header.ensures.found,
)
