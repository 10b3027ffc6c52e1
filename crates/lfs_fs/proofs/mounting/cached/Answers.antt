use Rattle.std.proofs.Common.{◌<◌, arith}
use Rattle.lfs_store.specs.log.verify.declared.fault.MountFault.TheVariants as fault
use Rattle.lfs_store.proofs.of_log.of_verify.VerifySteps.{below_all}
use Rattle.lfs_tree.proofs.VolumeEnds.{fault_of_volume}
use Rattle.lfs_fs.proofs.mounting.cached.Goals as goal

pub returns-then-sectors-lt-LEAST_SECTORS-clause-cause : goal.returns-then-sectors-lt-LEAST_SECTORS-clause-cause
returns-then-sectors-lt-LEAST_SECTORS-clause-cause g c =
    let d = g.D.SectorDevice.state c.args.device in
    let lawful = g.met.D.SectorDevice.lawful c.args.device in
    let small : d.size < 4098 = let low = c.if-sectors-lt-LEAST_SECTORS.true in let size = c.sectors.ensures in omega (arith, low, size) in
    fault_of_volume d lawful fault.TooSmall (λ keeps. below_all lawful small)

pub returns-then-sectors-lt-LEAST_SECTORS-clause-reason : goal.returns-then-sectors-lt-LEAST_SECTORS-clause-reason
returns-then-sectors-lt-LEAST_SECTORS-clause-reason g c =
    let d = g.D.SectorDevice.state c.args.device in
    let small : d.size < 4098 = let low = c.if-sectors-lt-LEAST_SECTORS.true in let size = c.sectors.ensures in omega (arith, low, size) in
    λ keeps. below_all (g.met.D.SectorDevice.lawful c.args.device) small

pub returns-in-Ok-clause-below_all : goal.returns-in-Ok-clause-below_all
returns-in-Ok-clause-below_all g c =
    λ low. absurd (let least = c.if-sectors-lt-LEAST_SECTORS.false in let size = c.sectors.ensures in omega (arith, low, least, size))

pub returns-in-Err-clause-below_all : goal.returns-in-Err-clause-below_all
returns-in-Err-clause-below_all g c =
    λ low. absurd (let least = c.if-sectors-lt-LEAST_SECTORS.false in let size = c.sectors.ensures in omega (arith, low, least, size))
