use Rattle.lfs_queue.proofs.Carried.{write_done, write_failed}
use Rattle.lfs_queue.proofs.carrying.carry_one.Goals as goal

pub returns-in-Write-clause-goes_on : goal.returns-in-Write-clause-goes_on
returns-in-Write-clause-goes_on g c =
    write_done c.in-Write.sector c.in-Write.bytes c.in-Write.is c.write.ensures.crash c.write.ensures.carries
    c.write.result c.write.ensures.written

pub returns-in-Write-clause-left : goal.returns-in-Write-clause-left
returns-in-Write-clause-left g c =
    write_failed c.in-Write.sector c.in-Write.bytes c.in-Write.is c.write.ensures.crash c.write.ensures.carries c.write.result
