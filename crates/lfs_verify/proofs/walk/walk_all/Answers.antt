use Rattle.std.proofs.Common.{sym, subst}
use Rattle.lfs_model.specs.Reach.{view}
use Rattle.lfs_verify.specs.Kept.{KeepsInodes}
use Rattle.lfs_verify.proofs.Takes.{reads_first, reads_then, reads_thrice}
use Rattle.lfs_verify.proofs.WholeSteps.{passed_start, sized_content}
use Rattle.lfs_verify.proofs.walk.walk_all.Goals as goal

pub returns-in-Err-clause-damaged : goal.returns-in-Err-clause-damaged
returns-in-Err-clause-damaged g c = λ d reads.
    c.in-Err.ensures.damaged d reads (passed_start (g.met.D.SectorDevice.lawful _) reads c.requires.fits
    _ c.requires.marks c.requires.unmarked)

pub returns-in-Err-walk_inodes-clause-damaged : goal.returns-in-Err-walk_inodes-clause-damaged
returns-in-Err-walk_inodes-clause-damaged g c = λ d reads.
    c.in-Err-walk_inodes.ensures.damaged d (reads_then reads c.walk_usages.ensures.keeps.looks)
    (c.in-Ok.ensures.holds d (reads_first reads c.walk_inodes.ensures.keeps.looks) (passed_start
    (g.met.D.SectorDevice.lawful _) reads c.requires.fits _ c.requires.marks c.requires.unmarked))

pub returns-in-Err-walk_files-clause-damaged : goal.returns-in-Err-walk_files-clause-damaged
returns-in-Err-walk_files-clause-damaged g c = λ d reads.
    let r = reads_thrice reads c.walk_usages.ensures.keeps.looks c.walk_inodes.ensures.keeps.looks c.walk_files.ensures.keeps.looks in
    let start = passed_start (g.met.D.SectorDevice.lawful _) reads c.requires.fits _
    c.requires.marks c.requires.unmarked in
    let first = c.in-Ok.ensures in
    let second = c.in-Ok-walk_inodes.ensures in
    let kept = subst (KeepsInodes d _) (sym c.deref.ensures.value) (second.kept d r.1) in
    c.in-Err-walk_files.ensures.damaged d _ r.2 (second.lists d r.1) kept
    (second.holds d r.1 (first.holds d r.0 start))

pub returns-in-Err-walk_segments-clause-damaged : goal.returns-in-Err-walk_segments-clause-damaged
returns-in-Err-walk_segments-clause-damaged g c = λ d reads code is.
    let r = reads_thrice reads c.walk_usages.ensures.keeps.looks c.walk_inodes.ensures.keeps.looks c.walk_files.ensures.keeps.looks in
    let start = passed_start (g.met.D.SectorDevice.lawful _) reads c.requires.fits _
    c.requires.marks c.requires.unmarked in
    let first = c.in-Ok.ensures in
    let second = c.in-Ok-walk_inodes.ensures in
    let kept = subst (KeepsInodes d _) (sym c.deref.ensures.value) (second.kept d r.1) in
    c.in-Err-walk_segments.ensures.damaged code is (view d _) (first.labels d r.0 start)
    (first.tables d r.0 start).1 (c.in-Ok-walk_files.ensures.holds d _ r.2 (second.lists d r.1) kept
    (second.holds d r.1 (first.holds d r.0 start)))

pub returns-clause-holds : goal.returns-clause-holds
returns-clause-holds g c = λ d reads.
    let r = reads_thrice reads c.walk_usages.ensures.keeps.looks c.walk_inodes.ensures.keeps.looks c.walk_files.ensures.keeps.looks in
    let start = passed_start (g.met.D.SectorDevice.lawful _) reads c.requires.fits _
    c.requires.marks c.requires.unmarked in
    let first = c.in-Ok.ensures in
    let second = c.in-Ok-walk_inodes.ensures in
    let kept = subst (KeepsInodes d _) (sym c.deref.ensures.value) (second.kept d r.1) in
    let v = view d _ in
    let tables = first.tables d r.0 start in
    let nine = c.in-Ok-walk_segments.ensures.holds v (first.labels d r.0 start) tables.1 (c.in-Ok-walk_files.ensures.holds d
    _ r.2 (second.lists d r.1) kept (second.holds d r.1 (first.holds d r.0 start))) in
    (nine.below, c.stage_clean.ensures v tables.0)

pub returns-clause-counts : goal.returns-clause-counts
returns-clause-counts g c = λ d reads m st.
    let r = reads_thrice reads c.walk_usages.ensures.keeps.looks c.walk_inodes.ensures.keeps.looks c.walk_files.ensures.keeps.looks in
    let start = passed_start (g.met.D.SectorDevice.lawful _) reads c.requires.fits _
    c.requires.marks c.requires.unmarked in
    let first = c.in-Ok.ensures in
    let second = c.in-Ok-walk_inodes.ensures in
    let kept = subst (KeepsInodes d _) (sym c.deref.ensures.value) (second.kept d r.1) in
    let seven = c.in-Ok-walk_files.ensures.holds d _ r.2 (second.lists d r.1) kept
    (second.holds d r.1 (first.holds d r.0 start)) in
    c.count_totals-totals.ensures d _ (sized_content (g.met.D.SectorDevice.lawful _) d reads) m st
    seven.walked
