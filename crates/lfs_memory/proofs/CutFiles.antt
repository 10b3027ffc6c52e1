-- A file is cut: what the tables and the blocks in memory hold then is the log map without what went.
use Rattle.std.proofs.Common.{◌≡◌, ◌<◌, ◌⊎◌, ⊎_elim, ◌==◌, ◌&&◌, nat_le, cond, not, ℕ, Bool, true, false, List, [], length, get_or, Some}
use Rattle.std.proofs.Common.{refl, sym, ◌∙◌, ap, subst, arith, eqb-true}
use Rattle.std.proofs.Common.{inl, inr}
use Rattle.std.proofs.Math.Path.{fun_ext}
use Rattle.std.proofs.lemmas.Bool.{cases_Bool, cond-true, cond-false, and_parts, false_from_ne_true}
use Rattle.lfs_model.specs.Checkpoint.{CheckpointValue}
use Rattle.lfs_model.specs.Cutting.{is_past}
use Rattle.lfs_model.specs.Detaching.{IsWithout, Detaches, IsDetachedFrom}
use Rattle.lfs_model.specs.Device.{DeviceState, IsLawful}
use Rattle.lfs_model.specs.Entry.{Entry, Data, Leaf, Double, Inode, Map, Usage}
use Rattle.lfs_model.specs.Laid.{HoldsInode}
use Rattle.lfs_model.specs.Memory.{parent, file_of, count_of}
use Rattle.lfs_model.specs.Running.{Dirty}
use Rattle.lfs_model.specs.Stands.{LogMap}
use Rattle.lfs_model.proofs.Cutting.{file_cutting}
use Rattle.lfs_model.proofs.CutSets.{past_cut, past_above}
use Rattle.lfs_inodes.specs.Blocks.{blocks_of}
use Rattle.lfs_inodes.specs.Clearing.{LeavesPast}
use Rattle.lfs_inodes.specs.MapValue.{MapValue, address_in, is_hidden_in, block_in}
use Rattle.lfs_memory.specs.declared.memory.LogMemory.{LogMemory}
use Rattle.lfs_memory.specs.Memory.{IsLoose, tables_of}
use Rattle.lfs_memory.specs.Present.{Looks, FailsFromDevice}
use Rattle.lfs_memory.specs.Lifting.{IsInMemory, Prepares}
use Rattle.lfs_memory.specs.Counting.{CountsPast}
use Rattle.lfs_memory.specs.Removing.{AreUncovered, counts_in}
use Rattle.lfs_memory.specs.Cutting.{cut_from, HasEdge, IsFormed, ClearsPointers, DropsPast, Cuts}
use Rattle.lfs_memory.proofs.CutEdges.{inside_at, root_at, leaf_at}
use Rattle.lfs_memory.proofs.Lifted.{kept_memory}
use Rattle.lfs_memory.proofs.Stales.{never_fresh}
use Rattle.lfs_memory.proofs.Presents.{inode_at, nobody_at, data_none, no_block, looks_then, still_log}
use Rattle.lfs_memory.proofs.Taken.{counts_covered, named_counts, nameless_counts}

-- ---- the log map without what went
pub is_cut : (m : LogMap) (n first : ℕ) → IsWithout m n (is_past n first) (cut_from n first m)
is_cut m n first = record {
  header = refl;
  headers = λ k ne. refl;
  block = λ i. refl;
  blocks = λ k i ne. cond-false (k == n && nat_le first i) [] (m.block k i)
      (false_from_ne_true _ (λ on. ne (eqb-true k n (and_parts (k == n) (nat_le first i) on).0)));
  version = refl;
}

-- a file without blocks stays as it is
none_cut : (m : LogMap) (n first : ℕ) → ((i : ℕ) → m.block n i ≡ []) → m ≡ cut_from n first m
none_cut m n first none = ap (λ (block : ℕ → ℕ → List ℕ). record { header = m.header; block = block; version = m.version })
    (fun_ext (λ k. fun_ext (λ i. same k i)))
  where
    same : (k i : ℕ) → m.block k i ≡ cond (k == n && nat_le first i) [] (m.block k i)
    same k i = elim (cases_Bool (k == n && nat_le first i)) [
      | inl on ↦
          let here : k ≡ n = eqb-true k n (and_parts (k == n) (nat_le first i) on).0 in
          ap (λ (k : ℕ). m.block k i) here ∙ none i ∙ sym (cond-true (k == n && nat_le first i) [] (m.block k i) on)
      | inr off ↦ cc
    ]

-- ---- the blocks in memory
module _ (n first : ℕ) {old mid new : Dirty} (formed : (x : Entry) (b : List ℕ) → file_of x ≡ Some n → old x ≡ Some b → IsFormed x b)
    (one : LeavesPast old mid n first) (two : ClearsPointers mid new n first) where
  by_past : (P : Type 0) (x : Entry) → (is_past n first x ≡ true → P) → (is_past n first x ≡ false → P) → P
  by_past P x on off = ⊎_elim on off (cases_Bool (is_past n first x))

  pub detaches : Detaches old new n (is_past n first)
  detaches = record {
    none = λ x on. two.absent x (one.none x on);
    absent = λ x none. two.absent x (by_past _ x (λ on. one.none x on) (λ off. one.kept x off ∙ none));
    cleared = λ x b off own there. two.cleared x b off own (one.kept x off ∙ there) (formed x b own there);
    kept = λ x out. two.others x out ∙ one.kept x (false_from_ne_true _ (λ on. out ((past_cut n first).of_file x on)));
  }

module _ (d : DeviceState) (v v' : LogMemory) (k : CheckpointValue) (m0 m : LogMap) (is : IsLoose d v k m0 m) (n first : ℕ) (low : n < 4096)
    {lives : Bool} (counts : List ℕ) (shown : lives ≡ not (is_hidden_in v.map n))
    (counted : (s : ℕ) → get_or counts s 0 ≡ count_of (is_past n first) is.running.memory s) where
  -- an honest device has so many blocks there
  pub past_covered : AreUncovered v.usage lives counts → ⊥
  past_covered = counts_covered is n low shown (past_cut n first).of_file counts counted

  formed_in : (x : Entry) (b : List ℕ) → file_of x ≡ Some n → blocks_of v.dirty x ≡ Some b → IsFormed x b
  formed_in x b own there =
      let c = is.running.cached.cached x b there in
      let at : 0 < is.running.memory.at x = omega arith in
      record {
        long = ap length (sym c.2) ∙ is.running.laid.long x (n, own) at;
        inode = λ l named. subst (HoldsInode l) (ap is.running.memory.bytes (sym named) ∙ c.2)
            (is.running.laid.spells (Inode l) (rw named at at)).formed;
      }

  module _ (go : DropsPast v v' n first lives counts) (inside : IsInMemory v (Inode n)) (edge : HasEdge v n first) where
    none_at : (x : Entry) → parent x ≡ x → is_past n first x ≡ true → (tables_of v').at x ≡ 0
    none_at (Data k i) top on = refl
    none_at (Leaf k q) top on = refl
    none_at (Double k) top on = refl
    none_at (Inode k) top on = cc
    none_at (Map j) top on = cc
    none_at (Usage j) top on = cc

    others_at : (x : Entry) → parent x ≡ x → is_past n first x ≡ false → (tables_of v').at x ≡ (tables_of v).at x
    others_at (Data k i) top off = refl
    others_at (Leaf k q) top off = refl
    others_at (Double k) top off = refl
    others_at (Inode k) top off = ap (λ (map : MapValue). address_in map k) go.map
    others_at (Map j) top off = ap (λ (map : MapValue). block_in map j) go.map
    others_at (Usage j) top off = go.usage.address j

    detached : IsDetachedFrom m (tables_of v) (tables_of v') n (is_past n first) (counts_in counts)
    detached = assumption (none_at, others_at, named_counts is n low shown counts go.usage, nameless_counts is n low shown counts go.usage)

    above : (x : Entry) → is_past n first x ≡ true → 0 < is.running.memory.at x → (parent x ≡ x → ⊥) → is_past n first (parent x) ≡ false
        → is.running.memory.at (parent x) ≡ 1
    above = past_above d.content m is.running.memory _ n first is.running.laid (inside_at d v k m is (Inode n) inside)
        (root_at d v k m is n edge) (leaf_at d v k m is n edge)

    pub cut_log : IsLoose d v' k m0 (cut_from n first m)
    cut_log = record {
      running = rw go.chunk
          (file_cutting d _ _ _ _ k m0 m (cut_from n first m) _ _ n (is_past n first) (counts_in counts)
          is.running (past_cut n first) above (λ on has named. absurd (inode_stays on)) counted (is_cut m n first)
          (detaches n first formed_in go.leaves go.clears) detached);
      hidden = λ i small. is.hidden i small ∙ ap (λ (map : MapValue). is_hidden_in map i) (sym go.map);
      segments = cc;
      unit = go.usage.unit ∙ is.unit;
    }
      where
        inode_stays : is_past n first (Inode n) ≡ true → ⊥
        inode_stays on = cc

-- ---- the whole call
pub uncovered_past : {a b : DeviceState} (v : LogMemory) (n first : ℕ) {lives : Bool} (counts : List ℕ) → n < 4096
    → lives ≡ not (is_hidden_in v.map n) → Looks a b → CountsPast a b v n first counts
    → AreUncovered v.usage lives counts → FailsFromDevice a b v
uncovered_past {a} v n first counts low shown looks counted over k m0 m keeps is =
    absurd (past_covered a v v k m0 m is n first low counts shown (counted k m0 m keeps is) over)

-- what lifts the blocks above, then the counts, and then what leaves
module _ {a b c : DeviceState} {v mid v' : LogMemory} {n first : ℕ} {counts : List ℕ} (lawful : IsLawful a) (one : Prepares a b v mid 3)
    (two : Looks b c) (low : n < 4096)
    (inside : IsInMemory mid (Inode n)) (edge : HasEdge mid n first) (counted : CountsPast b c mid n first counts)
    (go : DropsPast mid v' n first (not (is_hidden_in mid.map n)) counts) where
  pub file_cut : Cuts a c v v' n first
  file_cut = record {
    looks = looks_then lawful one.looks two;
    memory = kept_memory mid v' one.memory go.usage.size go.chunk go.usage.used go.usage.kept go.usage.last go.usage.unit go.usage.address
        (never_fresh mid.usage v'.usage go.usage.stale) go.capacity;
    segments = cc;
    clean = cc;
    chunk = cc;
    capacity = cc;
    few = omega arith;
    stay = λ x off was. let held = one.stay x was in go.clears.stay x held.0 (go.leaves.kept x off ∙ held.1);
    hidden = rw go.map one.hidden;
    mapped = λ j is. rw go.map (one.mapped j is);
    absent = λ l none. rw go.map (one.absent l none);
    log = λ k m0 m keeps is.
        let log = one.log k m0 m (two.carries.kept_before keeps) is in
        still_log two (cut_log b mid v' k m0 m log n first low counts refl (counted k m0 m keeps log) go inside edge);
  }

-- where no file is
pub nothing_cut : {a b : DeviceState} {v v' : LogMemory} {n first : ℕ} → Prepares a b v v' 1 → (n ≡ 0) ⊎ (address_in v.map n ≡ 0)
    → Cuts a b v v' n first
nothing_cut {b} {v} {v'} {n} {first} one none = record {
  looks = one.looks;
  memory = one.memory;
  segments = one.segments;
  clean = one.clean;
  chunk = one.chunk;
  capacity = one.capacity;
  few = omega arith;
  stay = λ x off was. one.stay x was;
  hidden = one.hidden;
  mapped = one.mapped;
  absent = one.absent;
  log = λ k m0 m keeps is.
      let log = one.log k m0 m keeps is in
      let gone : log.running.memory.at (Inode n) ≡ 0 = elim none [
        | inl nobody ↦ rw nobody (nobody_at b v' k m0 m log)
        | inr absent ↦ inode_at b v' k m0 m log n ∙ one.absent n absent
      ] in
      rw (none_cut m n first (λ i. no_block b v' k m0 m log n i (data_none b v' k m0 m log n i gone))) at log;
}
