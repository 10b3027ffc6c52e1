use Rattle.lfs_dirs.proofs.Searches.{names_near}
use Rattle.lfs_dirs.proofs.searching.search_from.Goals as goal

pub returns-in-Ok-Some-clause-found : goal.returns-in-Ok-Some-clause-found
returns-in-Ok-Some-clause-found g c =
    names_near (g.F.Files.state c.args.files.now) (g.F.Files.state c.search_nth.new.files) c.args.directory.value c.args.header _
    c.args.name.now c.in-Ok-Some.found
    (rw c.in-Ok-Some.field-0-is at c.in-Ok-Some.ensures.answer)
