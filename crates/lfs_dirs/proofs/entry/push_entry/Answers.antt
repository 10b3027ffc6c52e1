use Rattle.std.proofs.Common.{◌≡◌, ◌++◌, ◌∷◌, []}
use Rattle.lfs_dirs.specs.declared.entry.Entry.{Entry}
use Rattle.lfs_dirs.proofs.NamesInOrder.{gathered_push}
use Rattle.lfs_dirs.proofs.entry.push_entry.Goals as goal

pub returns : goal.returns
returns c =
    let e : Entry = record { name = c.in_ok-name.name; number = c.args.number } in
    let came : c.push.new.self.items ≡ c.args.entries.now.items ++ e ∷ [] = c.in-Ok.ensures.items in
    cc (gathered_push c.args.entries.now.items e, c.in_ok-name.ensures.items_if_clones_equal (λ x y same. same))
