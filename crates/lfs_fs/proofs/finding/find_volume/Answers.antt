use Rattle.lfs_store.specs.log.verify.Take.{SyncsOnce}
use Rattle.lfs_fs.proofs.FoundVolumes.{failed_to_read, nowhere, too_small}
use Rattle.lfs_fs.proofs.finding.find_volume.Goals as goal

pub returns-in-Err-TooSmall-default-clause-refused : goal.returns-in-Err-TooSmall-default-clause-refused
returns-in-Err-TooSmall-default-clause-refused g c =
    let is = c.in-Err-TooSmall-default.ensures in
    too_small g.D.SectorDevice.state c.args.device c.in-Err-TooSmall-default.device (g.met.D.SectorDevice.lawful c.args.device)
    (record { carries = is.carries; untouched = is.untouched; any_moment = is.any_moment; told = is.told })
    (is.too_small.0 c.in-Err-TooSmall-default.field-0-0-is)

pub returns-in-Err-NoCheckpoint-default-clause-refused : goal.returns-in-Err-NoCheckpoint-default-clause-refused
returns-in-Err-NoCheckpoint-default-clause-refused g c =
    let is = c.in-Err-NoCheckpoint-default.ensures in
    nowhere g.D.SectorDevice.state c.args.device c.in-Err-NoCheckpoint-default.device (g.met.D.SectorDevice.lawful c.args.device)
    (record { carries = is.carries; untouched = is.untouched; any_moment = is.any_moment; told = is.told })
    (is.none c.in-Err-NoCheckpoint-default.field-0-0-is) (is.enough c.in-Err-NoCheckpoint-default.field-0-0-is)

pub returns-in-Err-Device-default-clause-refused : goal.returns-in-Err-Device-default-clause-refused
returns-in-Err-Device-default-clause-refused g c =
    let is = c.in-Err-Device-default.ensures in
    failed_to_read g.D.SectorDevice.state c.args.device c.in-Err-Device-default.device (g.met.D.SectorDevice.lawful c.args.device)
    (record { carries = is.carries; untouched = is.untouched; any_moment = is.any_moment; told = is.told })
    (is.failed c.in-Err-Device-default.field-0-0-is)
