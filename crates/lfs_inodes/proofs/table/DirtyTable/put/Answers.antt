use Rattle.std.proofs.Common.{arith}
use Rattle.lfs_inodes.proofs.Blocks.{put_changes, put_counts}
use Rattle.lfs_inodes.proofs.Held.{low_at, held_at, put_value, sorted_value, held_put, inserted_value, neither, tight_at, tight_more, wider}
use Rattle.lfs_inodes.proofs.Held.{place_within, places_left, arena_left, spare_below}
use Rattle.lfs_inodes.specs.declared.index.Place.{Place}
use Rattle.lfs_inodes.proofs.table.DirtyTable.put.Goals as goal

pub index_mut-requires : goal.index_mut-requires
index_mut-requires c = omega (arith, low_at c.self.invariant.0 c.self.view_is c.in-Ok.ensures.found c.get-spot.ensures)

pub invariant_of-self : goal.invariant_of-self
invariant_of-self c = (
  held_at c.self.invariant.0 c.self.view_is c.in-Ok.ensures.found c.get-spot.ensures c.args.bytes.now,
  λ h.
      let off = neither c.self.inside.loose c.leads_nowhere-empty.result h in
      tight_at c.self.invariant.0 c.self.view_is c.in-Ok.ensures.found c.get-spot.ensures c.args.key.formed
      c.args.bytes.now (c.leads_nowhere-empty.ensures off.1) (c.self.invariant.1 off.0),
)

pub returns-in-Ok-clause-put : goal.returns-in-Ok-clause-put
returns-in-Ok-clause-put c =
    put_value c.self.invariant.0 c.self.view_is c.in-Ok.ensures.found c.get-spot.ensures c.args.bytes.now

pub returns-in-Ok-clause-changed : goal.returns-in-Ok-clause-changed
returns-in-Ok-clause-changed c = put_changes c.args.self.now c.args.key.formed (returns-in-Ok-clause-put c)

pub returns-in-Ok-clause-length : goal.returns-in-Ok-clause-length
returns-in-Ok-clause-length c =
    put_counts c.args.self.now _ c.args.bytes.now (sorted_value c.self.invariant.0 c.self.view_is) (returns-in-Ok-clause-put c)

pub store-spot-requires : goal.store-spot-requires
store-spot-requires c = record {
  low = λ s some. omega (arith, spare_below c.self.invariant.0 s some);
  room = λ none. grind (arith, arena_left c.self.invariant.0 c.self.view_is c.in-Err.ensures.missing c.requires);
  small = omega arith;
}

pub insert-requires : goal.insert-requires
insert-requires c = record {
  inside = place_within c.self.invariant.0 c.self.view_is c.in-Err.ensures.missing;
  room = places_left c.self.invariant.0 c.self.view_is c.in-Err.ensures.missing c.requires;
}

pub invariant_of-self-in-Err : goal.invariant_of-self-in-Err
invariant_of-self-in-Err c =
    let place : Place = record { key = c.args.key; spot = c.store-spot.result } in (
      wider _ (held_put c.self.invariant.0 c.self.view_is place c.in-Err.ensures.missing c.insert.ensures.items
          _ _ c.args.bytes.now c.store-spot.ensures.stored c.requires)
          c.insert.ensures.capacity c.store-spot.ensures.blocks c.store-spot.ensures.spots,
      λ h.
          let off = neither c.self.inside.loose c.leads_nowhere-empty.result h in
          tight_more c.self.invariant.0 c.self.view_is place c.in-Err.ensures.missing c.insert.ensures.items
          _ _ c.args.bytes.now c.store-spot.ensures.stored (c.leads_nowhere-empty.ensures off.1) (c.self.invariant.1 off.0),
    )

pub returns-in-Err-clause-put : goal.returns-in-Err-clause-put
returns-in-Err-clause-put c =
    inserted_value c.self.invariant.0 c.self.view_is (record { key = c.args.key; spot = c.store-spot.result })
    c.in-Err.ensures.missing c.insert.ensures.items _ _ c.args.bytes.now c.store-spot.ensures.stored

pub returns-in-Err-clause-changed : goal.returns-in-Err-clause-changed
returns-in-Err-clause-changed c = put_changes c.args.self.now c.args.key.formed (returns-in-Err-clause-put c)

pub returns-in-Err-clause-length : goal.returns-in-Err-clause-length
returns-in-Err-clause-length c =
    put_counts c.args.self.now _ c.args.bytes.now (sorted_value c.self.invariant.0 c.self.view_is) (returns-in-Err-clause-put c)
