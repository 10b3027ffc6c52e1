use Rattle.std.proofs.Common.{rules, ◌≤◌, length}
use Rattle.lfs_entries.proofs.NewObjects.{link_counted, link_drafted}
use Rattle.lfs_entries.proofs.new_object.draft_link.Goals as goal

pub returns-clause-done : goal.returns-clause-done
returns-clause-done g c =
    let few : length c.args.text.now ≤ 1023 = search rules in
    link_drafted (g.F.Files.state c.write_at.new.self) c.args.text.now few c.in_ok-create_link.ensures.done c.in_ok-write_at.ensures.done

pub returns-clause-counted : goal.returns-clause-counted
returns-clause-counted g c =
    let few : length c.args.text.now ≤ 1023 = search rules in
    link_counted (g.F.Files.state c.write_at.new.self)
    c.args.text.now few c.in_ok-create_link.ensures.done c.in_ok-create_link.ensures.counted c.in_ok-write_at.ensures.counted
