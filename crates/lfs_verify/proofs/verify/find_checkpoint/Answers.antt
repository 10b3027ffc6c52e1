use Rattle.std.proofs.Common.{ap, Err, arith}
use Rattle.lfs_verify.proofs.VerifySteps.{below_all, newest_is, too_few, without_checkpoint}
use Rattle.lfs_verify.proofs.verify.find_checkpoint.Goals as goal

pub returns-then-sectors-lt-LEAST_SECTORS-clause-reason : goal.returns-then-sectors-lt-LEAST_SECTORS-clause-reason
returns-then-sectors-lt-LEAST_SECTORS-clause-reason g c = λ keeps.
    below_all (g.met.D.SectorDevice.lawful _)
    (omega (arith, c.if-sectors-lt-LEAST_SECTORS.true, c.sectors.ensures))

pub returns-in-Err-Missing-clause-reason : goal.returns-in-Err-Missing-clause-reason
returns-in-Err-Missing-clause-reason g c = λ keeps.
    without_checkpoint (g.met.D.SectorDevice.lawful _)
    (let least = c.if-sectors-lt-LEAST_SECTORS.false in
    omega (arith, least, c.sectors.ensures)) (c.in-Err-Missing.ensures.missing (ap Err c.in-Err-Missing.field-0-is) keeps)

pub returns-then-sectors-segments_of-clause-reason : goal.returns-then-sectors-segments_of-clause-reason
returns-then-sectors-segments_of-clause-reason g c = λ keeps. too_few (g.met.D.SectorDevice.lawful _)
    (c.in-Ok.ensures.found keeps)
    (let size = c.in-Ok.ensures.carries.size in
    omega (arith, c.if-sectors-segments_of.true, c.sectors-2.ensures, size, c.segments_of.ensures))

pub returns-clause-found : goal.returns-clause-found
returns-clause-found g c keeps = newest_is (g.met.D.SectorDevice.lawful _) (c.in-Ok.ensures.found keeps)

pub returns-in-Err-Missing-clause-below_all : goal.returns-in-Err-Missing-clause-below_all
returns-in-Err-Missing-clause-below_all g c =
    λ low. absurd (omega (arith, low, c.if-sectors-lt-LEAST_SECTORS.false, c.sectors.ensures))

pub returns-in-Err-Device-clause-below_all : goal.returns-in-Err-Device-clause-below_all
returns-in-Err-Device-clause-below_all g c =
    λ low. absurd (omega (arith, low, c.if-sectors-lt-LEAST_SECTORS.false, c.sectors.ensures))

pub returns-then-sectors-segments_of-clause-below_all : goal.returns-then-sectors-segments_of-clause-below_all
returns-then-sectors-segments_of-clause-below_all g c =
    λ low. absurd (omega (arith, low, c.if-sectors-lt-LEAST_SECTORS.false, c.sectors.ensures))

pub returns-clause-below_all : goal.returns-clause-below_all
returns-clause-below_all g c =
    λ low. absurd (omega (arith, low, c.if-sectors-lt-LEAST_SECTORS.false, c.sectors.ensures))
