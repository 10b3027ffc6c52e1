-- What a stop leaves where all is saved.
use Rattle.lfs_fs.proofs.Prelude.{◌≡◌, ℕ, true, sym, subst, DeviceState, IsLogOf, Mounted, acknowledged, shape_of}
use Rattle.lfs_fs.specs.Volume.{LeavesAll}
use Rattle.lfs_steps.proofs.volume.Stops.{stands_dropped}

pub saved_left : {D : Type 0} (state : D → DeviceState) (v : Mounted D) → v.log.saved ≡ true → LeavesAll state v
saved_left state v all p was at c left =
    let r = at.running was in
    stands_dropped {shape = shape_of r.checkpoint} c r.present p.state
    (subst (λ (n : ℕ). IsLogOf n r.present p.state) (sym r.is.holds.segments) r.is.log)
    (rw (← (r.is.holds.nothing_new all)) (acknowledged state r.is.holds c left))
