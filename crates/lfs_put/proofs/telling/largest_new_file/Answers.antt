use Rattle.std.proofs.lemmas.Result.{err_from_is_err_and}
use Rattle.std.proofs.Common.{refl}
use Rattle.lfs_fs.specs.Answers.{status_of}
use Rattle.lfs_put.proofs.Told.{by_rows, fewer, listing_refused, root_full, root_refused, space_refused}
use Rattle.lfs_put.proofs.telling.largest_new_file.Goals as goal

pub returns-in_err-space : goal.returns-in_err-space
returns-in_err-space g c =
    let p = err_from_is_err_and c.from_residual.result c.from_residual.ensures.1 in rw (p.1, p.2)
    (space_refused _ _ c.in_err-space.field-0.0 c.in_err-space.ensures)

pub returns-in_err-root : goal.returns-in_err-root
returns-in_err-root g c =
    let p = err_from_is_err_and c.from_residual-in_err-root.result c.from_residual-in_err-root.ensures.1 in rw (p.1, p.2)
    (root_refused _ _ _ c.in_ok-space.ensures c.in_err-root.ensures)

pub returns-in_err-entries : goal.returns-in_err-entries
returns-in_err-entries g c =
    let p = err_from_is_err_and c.from_residual-in_err-entries.result c.from_residual-in_err-entries.ensures.1 in rw (p.1, p.2)
    (listing_refused _ _ _ c.in_ok-space.ensures _ (status_of c.in_ok-root.root) c.in_ok-root.ensures c.in_err-entries.ensures)

pub returns-then-entries-ge-MOST_ENTRIES : goal.returns-then-entries-ge-MOST_ENTRIES
returns-then-entries-ge-MOST_ENTRIES g c =
    root_full _ _ _ c.in_ok-space.ensures _ (status_of c.in_ok-root.root) c.in_ok-root.ensures c.in_ok-entries.ensures
    c.if-entries-ge-MOST_ENTRIES.true

pub returns-then-space-lt-LAST_NUMBER : goal.returns-then-space-lt-LAST_NUMBER
returns-then-space-lt-LAST_NUMBER g c =
    fewer _ _ _ c.in_ok-space.ensures _ (status_of c.in_ok-root.root) c.in_ok-root.ensures c.in_ok-entries.ensures
    c.slot_of-slot.ensures.slot c.most_blocks-blocks.ensures refl c.if-space-lt-LAST_NUMBER.true

pub returns : goal.returns
returns g c =
    by_rows _ _ _ c.in_ok-space.ensures _ (status_of c.in_ok-root.root) c.in_ok-root.ensures _ _ c.in_ok-entries.ensures
    c.slot_of-slot.ensures.slot c.most_blocks-blocks.ensures refl c.by_tree.ensures
