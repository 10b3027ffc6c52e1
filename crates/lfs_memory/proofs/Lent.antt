-- What a sector says that the device lends, of the block of a pointer.
use Rattle.std.proofs.Common.{◌≡◌, ◌<◌, ◌≤◌, ◌⊎◌, ℕ, List, Result, Bor, None, Err, refl, sym, ◌∙◌, ap, arith, inl, inr}
use Rattle.std.proofs.lemmas.List.{get_or_past}
use Rattle.lfs_model.specs.Content.{bytes_of}
use Rattle.lfs_model.specs.Device.{DeviceState, IsLawful}
use Rattle.lfs_model.specs.Entry.{Entry}
use Rattle.lfs_model.specs.Running.{Dirty}
use Rattle.lfs_model.proofs.Tables.{block_at}
use Rattle.lfs_device.specs.declared.device.ReadFault.{ReadFault}
use Rattle.lfs_device.specs.declared.device.ReadFault.TheVariants as kind
use Rattle.lfs_cache.specs.Kept.{OnlyReads, Lends}
use Rattle.std.specs.Prelude.{Ok}
use Rattle.lfs_inodes.specs.Present.{present}
use Rattle.lfs_memory.specs.Present.{Looks, IsMissing}
use Rattle.lfs_memory.proofs.Lifted.{on_device}

pub lent_looks : {d d' : DeviceState} {a : ℕ} {r : Result (Bor (List ℕ)) ReadFault} → OnlyReads d d' a r → Looks d d'
lent_looks reads = assumption

pub lent_read : {d d' : DeviceState} (dirty : Dirty) (x : Entry) {a : ℕ} {bytes : Bor (List ℕ)} → 2 ≤ a → Lends d d' a (Ok bytes)
    → d'.keeps_model → bytes.now ≡ present d.content dirty x a
lent_read {d} dirty x {a} above lends keeps =
    sym (on_device d.content dirty x a (λ one. omega arith) ∙ block_at d.content a (omega arith) ∙ ap bytes_of (lends.value keeps))

-- one that it doesn't lend, and one past its end
pub lent_missing : (d d' : DeviceState) (dirty : Dirty) (x : Entry) (a : ℕ) (f : ReadFault) → 2 ≤ a
    → OnlyReads {A = Bor (List ℕ)} d d' a (Err f) → d'.keeps_model
    → (d.failures < d'.failures) ⊎ IsMissing d.content dirty x a
lent_missing d d' dirty x a kind.Unreadable above reads keeps =
    inr (record { inside = λ one. absurd (omega arith); outside = λ ne. reads.unreadable refl keeps })
lent_missing d d' dirty x a kind.Failed above reads keeps = inl (reads.failed refl)

pub past_missing : (d : DeviceState) (dirty : Dirty) (x : Entry) (a : ℕ) → IsLawful d → 2 ≤ a → d.size ≤ a → IsMissing d.content dirty x a
past_missing d dirty x a lawful above past = record {
  inside = λ one. absurd (omega arith);
  outside = λ ne. (get_or_past d.content a None (omega arith));
}
