use Rattle.std.proofs.Common.{◌≡◌, ◌<◌, All, List, ℕ, length, refl, rules, sym, ◌∙◌, ap, subst, arith}
use Rattle.lfs_device.specs.Rows.{AreSpoilt}
use Rattle.lfs_device.specs.Units.{unit_of}
use Rattle.lfs_device.specs.Unsynced.{IsSyncedAt}
use Rattle.lfs_device.specs.declared.rows.Row.{Row}
use Rattle.lfs_model.proofs.Moments.{grows_none}
use Rattle.lfs_device.proofs.Carried.{change_carries, counts_same}
use Rattle.lfs_device.proofs.SectorStops.{stopped_of_sectors}
use Rattle.lfs_device.proofs.Spoiling.{chosen_by_stop, each_stopped, length_stopped, length-chosen_rows, none_after_stop, unlisted_chosen}
use Rattle.lfs_device.proofs.Spoiling.{whole_after_stop}
use Rattle.lfs_device.proofs.Stops.{only_synced, were_whole}
use Rattle.lfs_device.proofs.memory.MemDevice.stop.Goals as goal

pub spoil-requires : goal.spoil-requires
spoil-requires c =
    let same : length c.choose_rows.new.rows.items ≡ length c.args.self.now.rows.items =
    ap (λ (l : List Row). length l) c.choose_rows.ensures ∙ length-chosen_rows _ _ _ in
    record {
      within = subst (λ (n : ℕ). All (λ s. s < n) c.args.self.now.unsynced.items) (sym same)
          (let listed = c.args.self.now.listed in listed.within);
      others = λ k missing. subst (λ (l : List Row). IsSyncedAt l k) (sym c.choose_rows.ensures)
          (unlisted_chosen _ _ _ k (let listed = c.args.self.now.listed in listed.others k missing));
      fits = omega (arith, same, c.args.self.now.fits);
    }

pub invariant_of-self : goal.invariant_of-self
invariant_of-self c =
    let are = subst (λ (l : List Row). AreSpoilt (unit_of c.args.self.now.units) l c.spoil.new.rows.items) c.choose_rows.ensures
    c.spoil.ensures in
    let same = length_stopped _ _ _ _ _ are in
    record {
      sized = c.args.self.now.sized ∙ sym same;
      fits = omega (arith, same, c.args.self.now.fits);
      whole = whole_after_stop _ _ _ _ _ are c.args.self.now.whole;
      were_whole = were_whole c.note.ensures c.args.self.now.whole c.args.self.now.were_whole;
      listed = none_after_stop _ _ _ _ _ are c.clear.ensures.items;
      room = (let kept = c.clear.ensures.capacity in let room = c.args.self.now.room in omega (arith, same, kept, room));
    }

pub returns : goal.returns
returns c =
    let are = subst (λ (l : List Row). AreSpoilt (unit_of c.args.self.now.units) l c.spoil.new.rows.items) c.choose_rows.ensures
    c.spoil.ensures in
    record {
      rows = are;
      by_sector = λ sectors. stopped_of_sectors _ _ _ _ _ sectors are;
      chosen = chosen_by_stop _ _ _ _ _ are _;
      durable = only_synced _ _ _ (each_stopped _ _ _ _ _ are);
      same_failures = refl;
      same_orders = refl;
      carries = change_carries _ _ _ _ _ _ _ _ _ _ (length_stopped _ _ _ _ _ are) c.note.ensures counts_same
          (λ none. record { stop = refl; stopped = refl; reads = none.reads; writes = none.writes; syncs = none.syncs })
          (grows_none _ _ refl);
      time = search rules;
      bench = refl;
      keeps = tt;
    }
