use Rattle.lfs_entries.proofs.NewNames.{name_counted}
use Rattle.lfs_entries.proofs.new_name.draft_name.Goals as goal

pub returns-clause-counted : goal.returns-clause-counted
returns-clause-counted g c =
    name_counted c.in_ok-set_links.ensures.done c.in_ok-add.ensures.done c.in_ok-set_links.ensures.counted c.in_ok-add.ensures.counted
