use Rattle.std.proofs.Common.{◌≡◌, ◌∙◌, ap, sym, arith, get_or, List, Some, None, ℕ}
use Rattle.std.specs.FinMap.{find}
use Rattle.lfs_model.specs.Tree.{byte_cmp}
use Rattle.lfs_model.specs.TreeOf.{map_of}
use Rattle.lfs_tree.specs.Naming.{is_directory, leads}
use Rattle.lfs_tree.proofs.GoodSlots.{slot_taken, slot_twice}
use Rattle.lfs_tree.proofs.slots.take_slot.Goals as goal

pub returns-then-not-branch : goal.returns-then-not-branch
returns-then-not-branch c base behind was =
    slot_twice c.args.form c.args.headers.now c.args.directory.value c.args.slot.now (sym c.in-Some.ensures.exact) was.good
    (λ none.
    let yes = (c.in_ok-insert_name.ensures.new (map_of c.args.form behind) was.names).1
    (cc) in
    cc)

pub returns : goal.returns
returns c base behind was =
    let headers = c.args.headers.now in
    let view = c.in-Some.view in
    let at : get_or headers view.number None ≡ Some c.in-Some-get.header = cc in
    let most = c.in-Some.ensures.found.0.number.1 in
    let leads_is : c.is_directory.result ≡ leads headers view.number = c.is_directory.ensures ∙ ap is_directory (sym at) in
    let new = ap (λ (n : List ℕ). find byte_cmp n (map_of c.args.form behind)) (sym c.name.ensures)
    ∙ (c.in_ok-insert_name.ensures.new (map_of c.args.form behind) was.names).0 c.if-not-branch.false in
    let few = c.args.directory.few in
    slot_taken c.args.form headers c.args.directory.value c.args.slot.now (sym c.in-Some.ensures.exact) base
    (omega arith) (omega arith) (λ none. let both : Some c.in-Some-get.header ≡ None = sym at ∙ none in cc)
    c.note.ensures.sizes was new (rw c.name.ensures at (c.in_ok-insert_name.ensures.more (map_of c.args.form behind) view.number was.names))
    (rw (← leads_is) (rw (← c.number.ensures) c.note.ensures.notes))
