-- The log over its device, as full chunks of data blocks are written between commits.
use Rattle.std.proofs.Common.{refl, ◌≡◌, ◌<◌, ◌≤◌, ◌⊎◌, inl, ◌+◌, cond, ℕ, Bool}
use Rattle.std.proofs.Common.{true, false, [], length, sym, ◌∙◌, ap, ap₂, subst}
use Rattle.std.proofs.Common.{arith}
use Rattle.std.specs.Prelude.{max}
use Rattle.lfs_model.specs.Checkpoint.{shape_of}
use Rattle.lfs_model.specs.Crash.{StandsOn}
use Rattle.lfs_model.specs.Device.{DeviceState}
use Rattle.lfs_model.proofs.Moments.{weaker}
use Rattle.lfs_model.proofs.Settled.{settled_stands}
use Rattle.lfs_memory.specs.segments.Table.{clean_in}
use Rattle.lfs_memory.proofs.of_segments.Spare.{emptied_stay}
use Rattle.lfs_memory.specs.inodes.Data.{data_count}
use Rattle.lfs_memory.specs.declared.memory.LogMemory.{LogMemory}
use Rattle.lfs_memory.specs.Memory.{Stops}
use Rattle.lfs_log.specs.Early.{WritesChunks, full_chunk}
use Rattle.lfs_log.specs.Thresholds.{reserve_of}
use Rattle.lfs_memory.proofs.of_inodes.Data.{no_data}
use Rattle.lfs_log.specs.LogState.{Halts, IsAtRest, WritesEarly}
use Rattle.lfs_log.specs.Held.{Held, WaitsUnlessSaved, seen}
use Rattle.lfs_log.proofs.Unsaved.{none_left}
use Rattle.std.proofs.Math.Logic.{⊎_map}

module _ {D : Type 0} {state : D → DeviceState} where
  pub writes_early : {h : Held D} {d : D} {v : LogMemory} → WritesChunks (state h.device) (state d) h.memory v → h.halted ≡ false
      → ((d ≡ h.device) × (v ≡ h.memory)) ⊎ (reserve_of (length v.usage.segments) ≤ clean_in v.usage.segments)
      → (data_count h.memory.dirty < full_chunk → (d ≡ h.device) × (v ≡ h.memory))
      → WritesEarly state (seen h) (seen (record h { device = d; memory = v }))
  writes_early {h} {d} {v} c running reserve idle =
      let goes = c.goes.1 in
      record {
        carries = goes.carries;
        running = running;
        number = refl;
        upgraded = refl;
        saved = refl;
        segments = goes.segments;
        fewer = c.fewer;
        only_data = c.only_data;
        unsaved = ap (λ (n : ℕ). cond h.saved 0 (max 1 (n + cond h.upgraded 1 0))) c.due;
        reserve = subst (λ (n : ℕ). (seen after ≡ seen h) ⊎ (reserve_of n ≤ clean_in v.usage.segments)) goes.segments
            (⊎_map all_same (λ (kept : reserve_of (length v.usage.segments) ≤ clean_in v.usage.segments). kept) reserve);
        idle = λ few. all_same (idle few);
        rest = rest_early;
        taken = c.taken;
        emptied = emptied_stay goes.segments goes.emptied;
        told = c.told;
        no_failure = goes.no_failure;
        holds = λ k m0 m keeps is. record {
          log = goes.log k m0 m keeps is.log;
          segments = is.segments ∙ sym goes.segments;
          number = is.number;
          version = is.version;
          fits = is.fits;
          running = running;
          nothing_new = is.nothing_new;
          rest = λ all. rest_early (is.rest all);
        };
        moment = λ k m0 m keeps is. goes.quiet k m0 m keeps is.log;
      }
    where
      after : Held D
      after = record h { device = d; memory = v }

      all_same : (d ≡ h.device) × (v ≡ h.memory) → seen after ≡ seen h
      all_same same = ap₂ (λ (d : D) (v : LogMemory). seen (record h { device = d; memory = v })) same.0 same.1

      -- nothing is written where no block waits
      rest_early : IsAtRest (seen h) → IsAtRest (seen after)
      rest_early rest =
          let empty = rest.nothing.blocks in
          let none = no_data h.memory.dirty (none_left h.memory.dirty.blocks (omega (arith, empty))) in
          rw (all_same (idle (omega (arith, none)))) rest

  -- a write that failed: what is acknowledged stays
  pub early_halts : {h h' : Held D} → Stops (state h.device) (state h'.device) h.memory → h'.halted ≡ true → h'.saved ≡ false
      → h'.number ≡ h.number → Halts state (seen h) (seen h')
  early_halts {h'} stops halted unsaved number = record {
    carries = stops.carries;
    halted = halted;
    unsaved = unsaved;
    number = number;
    cause = λ k m0 m keeps is. stops.cause k m0 m keeps is.log;
    left = λ k m0 m keeps is map c left. inl (settled_stands (state h'.device) k m0 (stops.settled k m0 m keeps is.log) c left);
    moment = λ k m0 m keeps is map. weaker (λ x. StandsOn (shape_of k) x m0) _ (λ x h. inl h) (stops.quiet k m0 m keeps is.log);
  }

-- nothing is written where nothing waits, so what is saved stays so
module _ {v v' : LogMemory} (idle : data_count v.dirty < full_chunk → v' ≡ v) where
  unwritten : v.dirty.blocks ≡ [] → v' ≡ v
  unwritten empty = let none = no_data v.dirty empty in idle (omega (arith, none))

  pub early_waits : {upgraded saved : Bool} → WaitsUnlessSaved v upgraded saved → WaitsUnlessSaved v' upgraded saved
  early_waits {upgraded} waits all =
      rw (unwritten (waits all).blocks) (waits all)
