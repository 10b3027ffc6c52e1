use Rattle.std.proofs.Common.{rules, not, ap, arith, inr, refl}
use Rattle.lfs_inodes.specs.Blocks.{blocks_of}
use Rattle.lfs_inodes.specs.Key.{entry_of}
use Rattle.lfs_memory.proofs.LiftedKeys.{file_is}
use Rattle.lfs_memory.proofs.Lifted.{prepares_none, prepares_looks, bring_prepares, bring_lost, bring_unread, ends_failed}
use Rattle.lfs_memory.proofs.Lent.{lent_looks, lent_read, lent_missing, past_missing}
use Rattle.lfs_memory.proofs.Gathered.{bring_gathers, gathers_looks, gathers_none}
use Rattle.lfs_memory.proofs.Moved.{bring_comes}
use Rattle.lfs_memory.proofs.lifting.lift.Goals as goal

pub returns-then-len-capacity-clause-prepares : goal.returns-then-len-capacity-clause-prepares
returns-then-len-capacity-clause-prepares g c = prepares_none refl c.requires.memory

pub returns-then-not-is_counted-clause-prepares : goal.returns-then-not-is_counted-clause-prepares
returns-then-not-is_counted-clause-prepares g c = prepares_none refl c.requires.memory

pub returns-then-not-is_counted-clause-ends : goal.returns-then-not-is_counted-clause-ends
returns-then-not-is_counted-clause-ends g c =
    ends_failed (bring_lost _ _ _ (file_is _ c.file.ensures.file) (omega arith) c.requires.at c.requires.above
    (ap not c.is_hidden-lives.ensures) (search rules))

pub returns-then-address-sectors-clause-prepares : goal.returns-then-address-sectors-clause-prepares
returns-then-address-sectors-clause-prepares g c = prepares_none refl c.requires.memory

pub returns-then-address-sectors-clause-ends : goal.returns-then-address-sectors-clause-ends
returns-then-address-sectors-clause-ends g c =
    let d = g.D.SectorDevice.state _ in
    ends_failed (bring_unread d d _ _ (file_is _ c.file.ensures.file) (omega arith)
    c.requires.at c.requires.above (λ keeps. inr (past_missing d _ _ _ (g.met.D.SectorDevice.lawful _) c.requires.above (search rules))))

pub returns-in-Err-clause-prepares : goal.returns-in-Err-clause-prepares
returns-in-Err-clause-prepares g c = prepares_looks c.requires.memory (lent_looks c.read_ref.follows.holds-at-none.reads)

pub returns-in-Err-clause-ends : goal.returns-in-Err-clause-ends
returns-in-Err-clause-ends g c =
    let old = g.D.SectorDevice.state _ in
    let new = g.D.SectorDevice.state c.read_ref.follows.lender-at-none in
    ends_failed (bring_unread old new _ _ (file_is _ c.file.ensures.file) (omega arith)
    c.requires.at c.requires.above (lent_missing old new _ _ _ _ c.requires.above
    (rw c.in-Err.is at c.read_ref.follows.holds-at-none.reads)))

pub returns-in-Ok-clause-prepares : goal.returns-in-Ok-clause-prepares
returns-in-Ok-clause-prepares g c =
    bring_prepares _ c.requires.memory (lent_looks c.read_ref.follows.holds-at-none.reads)
    (file_is c.args.key.code c.file.ensures.file) (omega arith) c.requires.at c.requires.above
    (ap not c.is_hidden-lives.ensures) c.requires.mapped
    (lent_read (blocks_of c.args.memory.now.dirty) (entry_of c.args.key) c.requires.above
    (rw c.in-Ok.is at c.read_ref.follows.holds-at-none)) c.bring.ensures

pub returns-then-len-capacity-clause-gathers : goal.returns-then-len-capacity-clause-gathers
returns-then-len-capacity-clause-gathers g c = gathers_none refl

pub returns-then-not-is_counted-clause-gathers : goal.returns-then-not-is_counted-clause-gathers
returns-then-not-is_counted-clause-gathers g c = gathers_none refl

pub returns-then-address-sectors-clause-gathers : goal.returns-then-address-sectors-clause-gathers
returns-then-address-sectors-clause-gathers g c = gathers_none refl

pub returns-in-Err-clause-gathers : goal.returns-in-Err-clause-gathers
returns-in-Err-clause-gathers g c = gathers_looks (lent_looks c.read_ref.follows.holds-at-none.reads)

pub returns-in-Ok-clause-gathers : goal.returns-in-Ok-clause-gathers
returns-in-Ok-clause-gathers g c =
    bring_gathers _ (lent_looks c.read_ref.follows.holds-at-none.reads)
    (file_is c.args.key.code c.file.ensures.file) (omega arith) c.requires.at c.requires.above
    (ap not c.is_hidden-lives.ensures) c.requires.mapped
    (lent_read (blocks_of c.args.memory.now.dirty) (entry_of c.args.key) c.requires.above
    (rw c.in-Ok.is at c.read_ref.follows.holds-at-none)) c.bring.ensures

pub returns-in-Ok-clause-comes : goal.returns-in-Ok-clause-comes
returns-in-Ok-clause-comes g c =
    bring_comes _ (lent_looks c.read_ref.follows.holds-at-none.reads)
    (file_is c.args.key.code c.file.ensures.file) (omega arith) c.requires.at c.requires.above
    (ap not c.is_hidden-lives.ensures) c.requires.mapped
    (lent_read (blocks_of c.args.memory.now.dirty) (entry_of c.args.key) c.requires.above
    (rw c.in-Ok.is at c.read_ref.follows.holds-at-none)) c.bring.ensures
