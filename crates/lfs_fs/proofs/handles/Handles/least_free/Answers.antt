use Rattle.std.proofs.Common.{◌≡◌, None, arith, sym, ◌∙◌}
use Rattle.lfs_fs.proofs.open_files.Tables.{least_is, least_past, place_read}
use Rattle.lfs_fs.proofs.handles.Handles.least_free.Goals as goal

pub returns-then-is_none-clause-first : goal.returns-then-is_none-clause-first
returns-then-is_none-clause-first c =
    let none : c.index-deref-handle.result ≡ None = grind (arith, c.is_none.ensures, c.if-is_none.true) in
    let read = place_read c.loop-handle.handle c.deref.ensures.0 c.self.invariant c.loop-handle-test.true c.index-deref-handle.is in
    rw (← c.self.view_is) (least_is {h = c.loop-handle.handle} c.self.inside.files.items c.loop-handle.invariant (sym read ∙ none))

pub returns-clause-full : goal.returns-clause-full
returns-clause-full c =
    let whole = c.self.invariant in
    let end = c.loop-handle-test.false in
    let is = least_past c.self.inside.files.items (λ k lt. c.loop-handle.invariant k (omega (arith, whole, end, lt))) in
    rw (← c.self.view_is) (omega (arith, is, whole))
