use Rattle.lfs_store.proofs.Drafts.{says_header, says_no_header}
use Rattle.lfs_store.proofs.draft.Draft.find_header.Goals as goal

pub returns-in_default : goal.returns-in_default
returns-in_default c = says_no_header c.args.self.now.changes _ (rw (← c.deref.ensures.value) c.in_default.ensures)

pub returns : goal.returns
returns c =
    says_header c.args.self.now.changes (rw (← c.deref.ensures.value) c.in-Some.ensures) c.index.ensures
