use Rattle.std.proofs.Common.{sym, ◌∙◌}
use Rattle.lfs_entries.specs.Entries.{number_of}
use Rattle.lfs_entries.proofs.renaming.find_target.Goals as goal

-- a piece of a path that isn't too long is a name
pub returns-then-not-is_name-clause-refused : goal.returns-then-not-is_name-clause-refused
returns-then-not-is_name-clause-refused g c may =
    absurd (let named = c.is_name.ensures.1 (may _ c.in_ok-holder.ensures.short) in let no = c.if-not-is_name.true in cc)

pub returns-then-lacks_directory-clause-refused : goal.returns-then-lacks_directory-clause-refused
returns-then-lacks_directory-clause-refused g c = (
  sym c.lacks_directory.ensures ∙ c.if-lacks_directory.true,
  (
    number_of c.in_ok-holder.replaced,
    record {
      head = c.in_ok-holder.holder;
      looks = λ m m' keeps has. (c.in_ok-holder.ensures.found m m' keeps has).looks;
      short = c.in_ok-holder.ensures.short;
    },
  ),
)
