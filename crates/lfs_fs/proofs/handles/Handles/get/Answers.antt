use Rattle.lfs_fs.proofs.Prelude.{◌≡◌, ◌≤◌, None, get_or, sym, subst, ◌∙◌, ap, length, number_in}
use Rattle.lfs_fs.proofs.open_files.Tables.{Places, find_handle, find_past}
use Rattle.lfs_fs.proofs.handles.Handles.get.Goals as goal

pub returns-in_default-clause-file : goal.returns-in_default-clause-file
returns-in_default-clause-file c = rw (← c.self.view_is) (sym (find_past c.args.handle c.self.inside.files.items
    (subst (λ (fs : Places). length fs ≤ c.args.handle) c.deref.ensures.0 c.in_default.ensures.lookup.3)))

pub returns-clause-file : goal.returns-clause-file
returns-clause-file c =
    let read = subst (λ (fs : Places). c.in-Some.file.now ≡ get_or fs c.args.handle None) c.deref.ensures.0
    (c.in-Some.ensures.lookup.3.1 None) in
    rw (← c.self.view_is) (ap number_in read ∙ sym (find_handle c.args.handle c.self.inside.files.items))
