use Rattle.std.proofs.Common.{rules, ◌≡◌}
use Rattle.lfs_files.specs.declared.fault.LogFault.TheVariants.{Device, Halted}
use Rattle.lfs_store.proofs.Acceptings.{cannot_lack, where_ok}
use Rattle.lfs_store.proofs.store.Store.make_clean.Goals as goal

pub returns-in-Ok-clause-makes : goal.returns-in-Ok-clause-makes
returns-in-Ok-clause-makes g c =
    let room = c.in-Ok.ensures.cleans.room in
    record {
      keeps = room.keeps;
      done = where_ok _ _ room.done;
      full = λ e. record {
        makes = room.done;
        never = cannot_lack (g.met.D.SectorDevice.lawful _) room.done c.in-Ok.ensures.enough (c.check_segments.ensures.lacks e);
      };
      device = λ e. absurd (c.check_segments.ensures.device e);
      halted = λ e. absurd (c.check_segments.ensures.halted e);
    }

pub returns-in-Err-Full-clause-makes : goal.returns-in-Err-Full-clause-makes
returns-in-Err-Full-clause-makes g c =
    let room = c.in-Err-Full.ensures.cleans.room in
    record {
      keeps = room.keeps;
      done = where_ok _ _ (room.full (search rules)).makes;
      full = λ e. room.full (search rules);
      device = λ e. absurd (c.check_segments-in-Err-Full.ensures.device e);
      halted = λ e. absurd (c.check_segments-in-Err-Full.ensures.halted e);
    }

pub returns-in-Err-Device-clause-makes : goal.returns-in-Err-Device-clause-makes
returns-in-Err-Device-clause-makes g c =
    let is : c.in-Err-Device.field-0 ≡ Device = search rules in
    rw (← is) c.in-Err-Device.ensures.cleans.room

pub returns-in-Err-Halted-clause-makes : goal.returns-in-Err-Halted-clause-makes
returns-in-Err-Halted-clause-makes g c =
    let is : c.in-Err-Halted.field-0 ≡ Halted = search rules in
    rw (← is) c.in-Err-Halted.ensures.cleans.room
