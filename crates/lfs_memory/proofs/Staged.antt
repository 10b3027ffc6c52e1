-- A batch of changes, from what its parts do.
use Rattle.std.specs.Prelude.{Result, Ok, Err, OnErr, IsErrOf}
use Rattle.std.proofs.Common.{◌≡◌, ◌<◌, ◌≤◌, ◌+◌, ℕ, true, false, List, [], ◌∷◌, length, refl, sym, ◌∙◌, ap, arith, inl, inr}
use Rattle.lfs_model.specs.Checkpoint.{CheckpointValue}
use Rattle.lfs_model.specs.Device.{DeviceState, IsLawful}
use Rattle.lfs_model.specs.Entry.{Data, Inode}
use Rattle.lfs_model.specs.Memory.{parent}
use Rattle.lfs_model.specs.Stands.{LogMap}
use Rattle.lfs_model.proofs.Detaching.{is_of_yes}
use Rattle.lfs_model.proofs.Raising.{raised_runs}
use Rattle.lfs_inodes.specs.Blocks.{Capacity}
use Rattle.lfs_memory.specs.declared.batch.BlockEdit.{BlockEdit}
use Rattle.lfs_memory.specs.declared.batch.HeaderEdit.{HeaderEdit}
use Rattle.lfs_memory.specs.declared.batch.Cut.{Cut}
use Rattle.lfs_memory.specs.declared.batch.LastLink.{LastLink}
use Rattle.lfs_memory.specs.declared.batch.Loss.{Loss}
use Rattle.lfs_memory.specs.declared.batch.Loss.TheVariants as loss
use Rattle.lfs_memory.specs.declared.batch.Removal.{Removal}
use Rattle.lfs_memory.specs.declared.lifting.LiftFault.{LiftFault}
use Rattle.lfs_memory.specs.declared.lifting.LiftFault.TheVariants as fault
use Rattle.lfs_memory.specs.declared.memory.LogMemory.{LogMemory}
use Rattle.lfs_memory.specs.Memory.{IsMemory, IsLoose}
use Rattle.lfs_memory.specs.Present.{Looks, FailsFromDevice}
use Rattle.lfs_memory.specs.Lifting.{Prepares}
use Rattle.lfs_memory.specs.Changing.{Stays}
use Rattle.lfs_memory.specs.Cutting.{Cuts}
use Rattle.lfs_memory.specs.Hiding.{Hides, IsLinkExcused}
use Rattle.lfs_memory.specs.Removing.{RemovesFile}
use Rattle.lfs_memory.specs.Preparing.{HasParent, IsHeaderReady, AreBlocksReady, AreHeadersReady, LacksRoom, AreExcusedWithin, ways}
use Rattle.lfs_memory.specs.Applying.{Applies, FailsToApply}
use Rattle.lfs_memory.specs.Batch.{lost, is_lost, room_for_edits, AreHeadersApart, AreBlocksApart, FitEdits}
use Rattle.lfs_memory.specs.Staging.{Loses, IsLossExcused, StandsWithBatch, TakesBatch, RefusesBatch, IsBatchExcused}
use Rattle.lfs_memory.proofs.Applied.{batch_applied, batch_never_fails}
use Rattle.lfs_memory.proofs.Lifted.{prepares_then}
use Rattle.lfs_memory.proofs.Presents.{looks_none, looks_then}

-- ---- what a file loses
-- the version of the layout is raised, and memory is as it was
pub version_lost : (d : DeviceState) (v : LogMemory) → IsMemory v → Loses d d v v loss.FirstVersion
version_lost d v memory = record {
  looks = looks_none d;
  memory = memory;
  segments = refl;
  clean = refl;
  chunk = refl;
  capacity = refl;
  few = omega arith;
  stay = λ x kept has. has;
  mapped = λ j is. is;
  absent = λ l none. none;
  log = λ k m0 m keeps is fits. record {
    running = raised_runs d _ _ k m0 m _ _ true is.running;
    hidden = is.hidden;
    segments = is.segments;
    unit = is.unit;
  };
}

pub blocks_lost : (d : DeviceState) {d' : DeviceState} {v v' : LogMemory} (c : Cut) → Cuts d d' v v' c.number c.first
    → Loses d d' v v' (loss.Blocks c)
blocks_lost d c go = record {
  looks = go.looks;
  memory = go.memory;
  segments = go.segments;
  clean = go.clean;
  chunk = go.chunk;
  capacity = go.capacity;
  few = go.few;
  stay = go.stay;
  mapped = go.mapped;
  absent = go.absent;
  log = λ k m0 m keeps is fits. go.log k m0 m keeps is;
}

in_range : (n : ℕ) → n ≤ 4095 → n < 4096
in_range n few = omega arith

pub link_lost : (d : DeviceState) {d' : DeviceState} {v v' : LogMemory} (l : LastLink) → Hides d d' v v' l.number l.kind l.form l.size
    → Loses d d' v v' (loss.Link l)
link_lost d l go = record {
  looks = go.looks;
  memory = go.memory;
  segments = go.segments;
  clean = go.clean;
  chunk = go.chunk;
  capacity = go.capacity;
  few = omega arith;
  stay = λ x kept has. go.stay x has;
  mapped = go.mapped;
  absent = go.absent;
  log = λ k m0 m keeps is fits. go.log k m0 m keeps is fits.0 (sym (is.hidden l.number (in_range l.number l.few)) ∙ fits.2);
}

pub file_lost : (d : DeviceState) {d' : DeviceState} {v v' : LogMemory} (r : Removal) → RemovesFile d d' v v' r.number
    → Loses d d' v v' (loss.File r)
file_lost d r go = record {
  looks = go.looks;
  memory = go.memory;
  segments = go.segments;
  clean = go.clean;
  chunk = go.chunk;
  capacity = go.capacity;
  few = omega arith;
  stay = λ x kept has. go.stay x (λ own. let on = is_of_yes r.number x own in cc) has;
  mapped = go.mapped;
  absent = go.absent;
  log = λ k m0 m keeps is fits. go.log k m0 m keeps is;
}

pub link_excused : (d d' : DeviceState) (v : LogMemory) (l : LastLink) → IsLinkExcused d d' v l.number → IsLossExcused d d' v (loss.Link l)
link_excused d d' v l failed k m0 m keeps is fits =
    failed k m0 m keeps is (sym (is.hidden l.number (in_range l.number l.few)) ∙ fits.2) fits.1

pub loss_excused : (d d' : DeviceState) (v : LogMemory) (x : Loss) → FailsFromDevice d d' v → IsLossExcused d d' v x
loss_excused d d' v x failed k m0 m keeps is fits = failed k m0 m keeps is

-- ---- what is ready stays so, apart from what is lost
module _ (d d' : DeviceState) (v v' : LogMemory) (x : Loss) (go : Loses d d' v v' x) where
  header_ready : {n links : ℕ} → is_lost x (Inode n) ≡ false → IsHeaderReady v n links → IsHeaderReady v' n links
  header_ready {n} apart was = record {
    inside = elim was.inside [
      | inl has ↦ inl (go.stay (Inode n) apart has)
      | inr none ↦ inr (go.absent n none)
    ];
    mapped = λ some. go.mapped _ (was.mapped some);
  }

  pub headers_ready : (edits : List HeaderEdit) → AreHeadersApart x edits → AreHeadersReady v edits → AreHeadersReady v' edits
  headers_ready [] apart was = was
  headers_ready (e ∷ edits) apart was = (header_ready apart.0 was.0, headers_ready edits apart.1 was.1)

  block_ready : (n i : ℕ) → is_lost x (parent (Data n i)) ≡ false → HasParent v n i → HasParent v' n i
  block_ready n i apart was = elim was [
    | inl has ↦ inl (go.stay (parent (Data n i)) apart has)
    | inr made ↦ inr (go.absent n made.0, made.1)
  ]

  pub blocks_ready : (edits : List BlockEdit) → AreBlocksApart x edits → AreBlocksReady v edits → AreBlocksReady v' edits
  blocks_ready [] apart was = was
  blocks_ready (e ∷ edits) apart was = (block_ready e.number e.index apart.0 was.0, blocks_ready edits apart.1 was.1)

-- ---- a batch that is refused before anything changed
pub refuses_prepared : {a b : DeviceState} {v v' : LogMemory} {n : ℕ} (x : Loss) (hs : List HeaderEdit) (bs : List BlockEdit)
    → n ≤ room_for_edits hs bs → Prepares a b v v' n → RefusesBatch a b v v' x hs bs
refuses_prepared x hs bs le go = record {
  stands = record {
    looks = go.looks;
    memory = go.memory;
    segments = go.segments;
    clean = go.clean;
    chunk = go.chunk;
    capacity = go.capacity;
    few = omega arith;
  };
  log = λ k m0 m keeps is fits. go.log k m0 m keeps is;
}

-- ---- with room enough no fault is for want of it
device_only : (r : Result (Unit {0}) LiftFault) (P : Type 0) → (IsErrOf r fault.Full → ⊥) → (IsErrOf r fault.Device → P) → OnErr r P
device_only (Ok x) P never go = tt
device_only (Err fault.Full) P never go = absurd (never refl)
device_only (Err fault.Device) P never go = go refl

-- ---- its headers and blocks are made ready
module _ {a b : DeviceState} {v v1 : LogMemory} (x : Loss) (hs : List HeaderEdit) (bs : List BlockEdit) (lawful : IsLawful a)
    (first : Prepares a b v v1 (length hs + ways bs)) where
  pub prepared_refuses : RefusesBatch a b v v1 x hs bs
  prepared_refuses = refuses_prepared x hs bs (omega arith) first

  pub prepared_excused : (r : Result (Unit {0}) LiftFault) → length v.dirty.blocks + room_for_edits hs bs ≤ v.dirty.capacity.limit
      → (IsErrOf r fault.Full → LacksRoom v (length hs + ways bs))
      → (IsErrOf r fault.Device → AreExcusedWithin a b v bs) → OnErr r (IsBatchExcused a b v x hs bs)
  prepared_excused r room full failed =
      device_only r (IsBatchExcused a b v x hs bs) (λ is. omega arith)
      (λ is. λ k m0 m keeps log fits. failed is k m0 m keeps log fits.within)

  -- ---- what a file loses is lost
  module _ {e : DeviceState} (v2 : LogMemory) where
    pub loss_refuses : Prepares b e v1 v2 3 → RefusesBatch a e v v2 x hs bs
    loss_refuses second =
        refuses_prepared x hs bs (omega arith) (prepares_then lawful first second)

    loss_excused_then : Looks b e → IsLossExcused b e v1 x → IsBatchExcused a e v x hs bs
    loss_excused_then looks failed k m0 m keeps is fits =
        omega (arith, failed k m0 m keeps (first.log k m0 m (looks.carries.kept_before keeps) is) fits.fits_loss)

    pub loss_excuses : (r : Result (Unit {0}) LiftFault) → length v.dirty.blocks + room_for_edits hs bs ≤ v.dirty.capacity.limit
        → Prepares b e v1 v2 3 → (IsErrOf r fault.Full → v2.dirty.capacity.limit ≤ length v2.dirty.blocks)
        → (IsErrOf r fault.Device → IsLossExcused b e v1 x) → OnErr r (IsBatchExcused a e v x hs bs)
    loss_excuses r room second full failed =
        device_only r (IsBatchExcused a e v x hs bs)
        (λ is. let was = ap (λ (c : Capacity). c.limit) first.capacity in
        omega (arith, ap (λ (c : Capacity). c.limit) second.capacity, full is))
        (λ is. loss_excused_then second.looks (failed is))

    module _ (go : Loses b e v1 v2 x) (ready_headers : AreHeadersReady v1 hs) (ready_blocks : AreBlocksReady v1 bs) where
      log_lost : (k : CheckpointValue) (m0 m : LogMap) → e.keeps_model → IsLoose a v k m0 m → FitEdits m x hs bs
          → IsLoose e v2 k m0 (lost x m)
      log_lost k m0 m keeps is fits = go.log k m0 m keeps (first.log k m0 m (go.looks.carries.kept_before keeps) is) fits.fits_loss

      headers_now : {m : LogMap} → FitEdits m x hs bs → AreHeadersReady v2 hs
      headers_now fits = headers_ready b e v1 v2 x go hs fits.headers_apart ready_headers

      blocks_now : (m : LogMap) → FitEdits m x hs bs → AreBlocksReady v2 bs
      blocks_now m fits = blocks_ready b e v1 v2 x go bs fits.blocks_apart ready_blocks

      module _ {v3 : LogMemory} (stays : Stays (length hs + length bs) v2 v3) where
        stands : StandsWithBatch a e v v3 hs bs
        stands = record {
          looks = looks_then lawful first.looks go.looks;
          memory = stays.memory go.memory;
          segments = cc;
          clean = cc;
          chunk = cc;
          capacity = cc;
          few = omega arith;
        }

        pub stages : Applies v2 hs bs v3 → TakesBatch a e v v3 x hs bs
        stages done = record {
          stands = stands;
          log = λ k m0 m keeps is fits.
              batch_applied e k m0 hs bs v2 (log_lost k m0 m keeps is fits) (headers_now fits) fits.fit_headers v3 done;
        }

        unready_never : (k : CheckpointValue) (m0 m : LogMap) → e.keeps_model → IsLoose a v k m0 m → FitEdits m x hs bs
            → FailsToApply v2 hs bs → ⊥
        unready_never k m0 m keeps is fits bad =
            batch_never_fails e k m0 hs bs v2 (log_lost k m0 m keeps is fits) (headers_now fits) fits.fit_headers
            (blocks_now m fits) fits.fit_blocks bad

        pub unready_refuses : FailsToApply v2 hs bs → RefusesBatch a e v v3 x hs bs
        unready_refuses bad = record { stands = stands; log = λ k m0 m keeps is fits. absurd (unready_never k m0 m keeps is fits bad) }

        pub unready_excused : FailsToApply v2 hs bs → IsBatchExcused a e v x hs bs
        unready_excused bad k m0 m keeps is fits = absurd (unready_never k m0 m keeps is fits bad)
