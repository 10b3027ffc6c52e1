-- A file goes: what the tables and the blocks in memory hold then is the log map without it.
use Rattle.std.proofs.Common.{◌≡◌, ◌<◌, ◌≤◌, ◌/◌, ◌==◌, not, ℕ, Bool, true, false, List, [], length, get_or, Some, None, refl, sym}
use Rattle.std.proofs.Common.{◌∙◌, ap, arith, eq-eqb, eqb-true}
use Rattle.std.proofs.Common.{inl, inr}
use Rattle.std.proofs.lemmas.Bool.{cases_eq, cases_lt, cond-true, cond-false, false_from_ne_true}
use Rattle.std.proofs.lemmas.List.{get_or_past}
use Rattle.lfs_model.specs.Checkpoint.{CheckpointValue}
use Rattle.lfs_model.specs.Cutting.{IsWithoutFile}
use Rattle.lfs_model.specs.Detaching.{is_of, IsDetachedFrom}
use Rattle.lfs_model.specs.Device.{DeviceState, IsLawful}
use Rattle.lfs_model.specs.Entry.{Entry, Data, Leaf, Double, Inode, Map, Usage}
use Rattle.lfs_model.specs.Memory.{parent, is_nameless, is_unlinked, count_of}
use Rattle.lfs_model.specs.Stands.{LogMap}
use Rattle.lfs_model.proofs.CutSets.{file_removing}
use Rattle.lfs_model.proofs.Detaching.{is_of_true, is_of_yes}
use Rattle.lfs_segments.specs.Table.{UsageTable}
use Rattle.lfs_inodes.specs.MapValue.{address_in, is_hidden_in, block_in}
use Rattle.lfs_memory.specs.declared.memory.LogMemory.{LogMemory}
use Rattle.lfs_memory.specs.Memory.{IsLoose, AreHidden, tables_of}
use Rattle.lfs_memory.specs.Present.{Looks, FailsFromDevice}
use Rattle.lfs_memory.specs.Lifting.{Prepares, MapLifts}
use Rattle.std.proofs.Common.{◌⊎◌}
use Rattle.lfs_memory.specs.Memory.{IsMemory}
use Rattle.lfs_memory.specs.Counting.{CountsFile}
use Rattle.lfs_memory.specs.Removing.{without_file, counted_in, AreCovered, AreUncovered, counts_in, DropsFile, RemovesFile}
use Rattle.lfs_memory.proofs.Lifted.{kept_memory, map_of_prepares, prepares_and_looks, prepares_excused}
use Rattle.lfs_memory.proofs.Stales.{never_fresh}
use Rattle.lfs_memory.proofs.Presents.{still_log}
use Rattle.lfs_memory.proofs.Taken.{counts_covered, named_counts, nameless_counts}

-- ---- the log map without the file
same_number : (n : ℕ) → (n == n) ≡ true
same_number n = eq-eqb n n refl

other_number : (k n : ℕ) → (k ≡ n → ⊥) → (k == n) ≡ false
other_number k n ne = false_from_ne_true (k == n) (λ h. ne (eqb-true k n h))

pub is_without : (m : LogMap) (n : ℕ) → IsWithoutFile m n (without_file n m)
is_without m n = record {
  header = cond-true (n == n) None (m.header n) (same_number n);
  headers = λ k ne. cond-false (k == n) None (m.header k) (other_number k n ne);
  block = λ i. cond-true (n == n) [] (m.block n i) (same_number n);
  blocks = λ k i ne. cond-false (k == n) [] (m.block k i) (other_number k n ne);
  version = refl;
}

module _ (d : DeviceState) (v v' : LogMemory) (k : CheckpointValue) (m0 m : LogMap) (is : IsLoose d v k m0 m) (n : ℕ) (low : n < 4096)
    {lives : Bool} (counts : List ℕ) (shown : lives ≡ not (is_hidden_in v.map n))
    (counted : (s : ℕ) → get_or counts s 0 ≡ count_of (is_of n) is.running.memory s) where
  -- an honest device has so many blocks there
  pub all_covered : AreUncovered v.usage lives counts → ⊥
  all_covered = counts_covered is n low shown (is_of_true n) counts counted

  module _ (go : DropsFile v v' n lives counts) (mapped : is_hidden_in v.map n ≡ false → block_in v.map (n / 128) ≡ 1) where
    none_at : (x : Entry) → parent x ≡ x → is_of n x ≡ true → (tables_of v').at x ≡ 0
    none_at (Data k i) top on = refl
    none_at (Leaf k q) top on = refl
    none_at (Double k) top on = refl
    none_at (Inode k) top on = let f : Some k ≡ Some n = is_of_true n (Inode k) on in let s : k ≡ n = cc in
        ap (address_in v'.map) s ∙ go.address.own
    none_at (Map j) top on = cc
    none_at (Usage j) top on = cc

    others_at : (x : Entry) → parent x ≡ x → is_of n x ≡ false → (tables_of v').at x ≡ (tables_of v).at x
    others_at (Data k i) top off = refl
    others_at (Leaf k q) top off = refl
    others_at (Double k) top off = refl
    others_at (Inode k) top off =
        go.address.others k (λ h. let on = is_of_yes n (Inode k) (ap Some h) in cc)
    others_at (Map j) top off = ap (λ (b : List ℕ). get_or b j 0) go.blocks
    others_at (Usage j) top off = go.usage.address j

    detached : IsDetachedFrom m (tables_of v) (tables_of v') n (is_of n) (counts_in counts)
    detached = assumption (none_at, others_at, named_counts is n low shown counts go.usage, nameless_counts is n low shown counts go.usage)

    still_hidden : AreHidden v'.map (without_file n m)
    still_hidden i small = elim (cases_eq i n) [
      | inl here ↦ ap (λ (i : ℕ). is_nameless (without_file n m) i) here ∙ ap is_unlinked (is_without m n).header
          ∙ sym (ap (is_hidden_in v'.map) here ∙ go.hidden.own)
      | inr away ↦ ap is_unlinked ((is_without m n).headers i away) ∙ is.hidden i small ∙ sym (go.hidden.others i away)
    ]

    pub dropped_log : IsLoose d v' k m0 (without_file n m)
    dropped_log = record {
      running = rw go.chunk
          (file_removing d _ _ _ _ k m0 m (without_file n m) _ _ n (counts_in counts)
          is.running (λ has named. mapped (sym (is.hidden n low) ∙ named)) counted (is_without m n) go.dirty detached);
      hidden = still_hidden;
      segments = cc;
      unit = go.usage.unit ∙ is.unit;
    }

pub covered_all : (usage : UsageTable) (lives : Bool) (counts : List ℕ) (i : ℕ) → length counts ≤ i
    → ((s : ℕ) → s < i → get_or counts s 0 ≤ counted_in usage lives s) → AreCovered usage lives counts
covered_all usage lives counts i all before s = elim (cases_lt s i) [
  | inl low ↦ before s low
  | inr high ↦ omega (arith, get_or_past counts s 0 (omega arith))
]

-- ---- the whole call: the inode map's block first, then the counts, and then what leaves
module _ {a b : DeviceState} {v mid : LogMemory} {j : ℕ} (lawful : IsLawful a) (memory : IsMemory v)
    (mapped_first : (mid ≡ v) ⊎ MapLifts v mid j) (looks : Looks a b) where
  first : Prepares a a v mid 0
  first = map_of_prepares lawful memory mapped_first

  pub map_and_looks : Prepares a b v mid 0
  map_and_looks = prepares_and_looks lawful first looks

  pub map_excused : FailsFromDevice a b mid → FailsFromDevice a b v
  map_excused failed = prepares_excused first looks failed

  module _ (n : ℕ) {lives : Bool} (counts : List ℕ) (low : n < 4096) (shown : lives ≡ not (is_hidden_in mid.map n))
      (counted : CountsFile a b mid n counts) where
    pub uncovered_excused : AreUncovered mid.usage lives counts → FailsFromDevice a b v
    uncovered_excused over k m0 m keeps is =
        let log = first.log k m0 m (looks.carries.kept_before keeps) is in
        absurd (all_covered a mid mid k m0 m log n low counts shown (counted k m0 m keeps log) over)

    pub file_removed : {v' : LogMemory} → DropsFile mid v' n lives counts
        → (is_hidden_in mid.map n ≡ false → block_in mid.map (n / 128) ≡ 1)
        → RemovesFile a b v v' n
    file_removed {v'} go mapped = record {
      looks = looks;
      memory = kept_memory mid v' first.memory go.usage.size go.chunk go.usage.used go.usage.kept go.usage.last go.usage.unit
          go.usage.address
          (never_fresh mid.usage v'.usage go.usage.stale) go.capacity;
      segments = go.usage.size ∙ first.segments;
      clean = go.usage.clean ∙ first.clean;
      used = λ s. go.usage.used s ∙ first.used s;
      kept = λ s. go.usage.kept s ∙ first.kept s;
      chunk = go.chunk ∙ first.chunk;
      capacity = go.capacity ∙ first.capacity;
      few = omega (arith, first.few);
      stay = λ x out was. let held = first.stay x was in (held.0, go.dirty.kept x out ∙ held.1);
      hidden = record {
        own = go.hidden.own;
        others = λ l ne. go.hidden.others l ne
            ∙ ap (λ (a : List Bool). get_or a l false) first.hidden;
      };
      mapped = λ j one. rw go.blocks (first.mapped j one);
      absent = λ l none. elim (cases_eq l n) [
        | inl here ↦ cc
        | inr ne ↦ go.address.others l ne ∙ first.absent l none
      ];
      log = λ k m0 m keeps is.
          let log = first.log k m0 m (looks.carries.kept_before keeps) is in
          still_log looks (dropped_log a mid v' k m0 m log n low counts shown (counted k m0 m keeps log) go mapped);
    }
