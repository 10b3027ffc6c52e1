-- A file loses its last link: what the tables and the blocks in memory hold then is the log map in which it has none.
use Rattle.std.proofs.Common.{◌≡◌, ◌<◌, not, ℕ, Bool, true, false, List, get_or, Some, None, refl, sym, ◌∙◌, ap, arith}
use Rattle.std.proofs.Common.{inl, inr}
use Rattle.lfs_model.specs.declared.Kind.{Kind}
use Rattle.lfs_model.specs.Checkpoint.{CheckpointValue}
use Rattle.lfs_model.specs.Detaching.{is_of, IsHeldFrom}
use Rattle.lfs_model.proofs.Detaching.{is_of_true}
use Rattle.lfs_model.specs.Device.{DeviceState, IsLawful}
use Rattle.lfs_model.specs.Entry.{Entry, Data, Leaf, Double, Inode, Map, Usage, header}
use Rattle.lfs_model.specs.Memory.{parent, count_of}
use Rattle.lfs_model.specs.Stands.{LogMap}
use Rattle.lfs_model.proofs.Entries.{same_entry}
use Rattle.lfs_model.proofs.Losing.{link_losing}
use Rattle.lfs_inodes.specs.Blocks.{blocks_of}
use Rattle.lfs_inodes.specs.MapValue.{is_hidden_in}
use Rattle.lfs_memory.specs.declared.memory.LogMemory.{LogMemory}
use Rattle.lfs_memory.specs.Memory.{IsLoose, tables_of, segment_in}
use Rattle.lfs_memory.specs.Present.{Looks, FailsFromDevice}
use Rattle.lfs_memory.specs.Lifting.{IsInMemory, Prepares, IsAbsent}
use Rattle.lfs_memory.specs.Changing.{FitsHeader, headed, header_with, with_header}
use Rattle.lfs_memory.specs.Counting.{CountsFile}
use Rattle.lfs_memory.specs.Removing.{AreUncovered, counts_in}
use Rattle.lfs_memory.specs.Hiding.{LosesLinks, Hides, IsLinkExcused}
use Rattle.lfs_memory.proofs.Heads.{holds_headed, headed_words, header_headed}
use Rattle.lfs_memory.proofs.HeaderSteps.{inode_held, hidden_with, nameless_with}
use Rattle.lfs_memory.proofs.Lifted.{kept_memory}
use Rattle.lfs_memory.proofs.Stales.{never_fresh}
use Rattle.lfs_memory.proofs.LogMaps.{is_with_header}
use Rattle.lfs_memory.proofs.Looses.{as_memory}
use Rattle.lfs_memory.proofs.Presents.{looks_then, still_log}
use Rattle.lfs_memory.proofs.Taken.{counts_covered}

-- ---- the log map in which the file has no link
module _ (d : DeviceState) (v v' : LogMemory) (k : CheckpointValue) (m0 m : LogMap) (is : IsLoose d v k m0 m) (n : ℕ) (low : n < 4096)
    (kind : Kind) (form size : ℕ) (fits : FitsHeader kind form 0 size) (counts : List ℕ)
    (shown : is_hidden_in v.map n ≡ false) (counted : (s : ℕ) → get_or counts s 0 ≡ count_of (is_of n) is.running.memory s)
    (go : LosesLinks v v' n kind form size counts) where
  same_tops : (x : Entry) → parent x ≡ x → (tables_of v').at x ≡ (tables_of v).at x
  same_tops (Data l i) top = refl
  same_tops (Leaf l q) top = refl
  same_tops (Double l) top = refl
  same_tops (Inode l) top = rw go.addresses
  same_tops (Map j) top = rw go.blocks
  same_tops (Usage j) top = go.usage.address j

  held_from : IsHeldFrom (tables_of v) (tables_of v') (counts_in counts)
  held_from = assumption same_tops

  pub links_lost : IsLoose d v' k m0 (with_header m n (Some (header_with kind form 0 size)))
  links_lost =
      let h = header_with kind form 0 size in
      let m' = with_header m n (Some h) in
      let holds = inode_held is n go.there in
      let says : header (headed kind form n 0 size go.old) ≡ h = header_headed n holds fits in
      record {
        running = as_memory v v' go.chunk refl
            (link_losing d _ _ _ _ k m0 m m' (segment_in v.chunk) _ n go.old (headed kind form n 0 size go.old) (counts_in counts)
            is.running go.there (holds_headed n holds fits)
            (λ w high low. headed_words kind form n 0 size go.old w (omega arith))
            (rw says (is_with_header m n {h = Some h}))
            (is.hidden n low ∙ shown) (nameless_with m n h) counted go.changes held_from);
        hidden = hidden_with v.map v'.map m n h is.hidden (sym go.hidden.own) go.hidden.others;
        segments = go.usage.size ∙ is.segments;
        unit = go.usage.unit ∙ is.unit;
      }

-- ---- the whole call: the inode comes into memory, its blocks are counted, and then what the tables and the inode say changes
module _ {a b c : DeviceState} {v mid : LogMemory} (n : ℕ) (counts : List ℕ) (lawful : IsLawful a) (first : Prepares a b v mid 1)
    (looks : Looks b c) (low : n < 4096) (shown : is_hidden_in v.map n ≡ false)
    (counted : CountsFile b c mid n counts) where
  shown_then : is_hidden_in mid.map n ≡ false
  shown_then = rw first.hidden shown

  pub blocks_covered : AreUncovered mid.usage true counts → FailsFromDevice a c v
  blocks_covered over k m0 m keeps is =
      let log = first.log k m0 m (looks.carries.kept_before keeps) is in
      absurd (counts_covered log n low (sym (ap not shown_then)) (is_of_true n) counts (counted k m0 m keeps log) over)

  pub file_hidden : {v' : LogMemory} {kind : Kind} {form size : ℕ} → LosesLinks mid v' n kind form size counts
      → Hides a c v v' n kind form size
  file_hidden {v'} {kind} {form} {size} go = record {
    looks = looks_then lawful first.looks looks;
    memory = kept_memory mid v' first.memory go.usage.size go.chunk go.usage.used go.usage.kept go.usage.last go.usage.unit go.usage.address
        (never_fresh mid.usage v'.usage go.usage.stale) go.capacity;
    segments = cc;
    clean = cc;
    chunk = cc;
    capacity = cc;
    few = omega arith;
    stay = λ x was. stays x (first.stay x was);
    hidden = record { own = go.hidden.own; others = λ l ne. go.hidden.others l ne ∙ ap (λ (a : List Bool). get_or a l false) first.hidden };
    mapped = λ j one. rw go.blocks (first.mapped j one);
    absent = λ l none. rw go.addresses (first.absent l none);
    log = λ k m0 m keeps is fits _.
        let log = first.log k m0 m (looks.carries.kept_before keeps) is in
        still_log looks (links_lost b mid v' k m0 m log n low kind form size fits counts shown_then (counted k m0 m keeps log) go);
  }
    where
      stays : (x : Entry) → IsInMemory mid x → IsInMemory v' x
      stays x there = elim (same_entry x (Inode n)) [
        | inl here ↦ (headed kind form n 0 size go.old, ap (blocks_of v'.dirty) here ∙ go.changes.own)
        | inr ne ↦ (there.0, go.changes.others x ne ∙ there.1)
      ]

-- ---- faults
pub link_excused : (d d' : DeviceState) (v : LogMemory) (n : ℕ) → FailsFromDevice d d' v → IsLinkExcused d d' v n
link_excused d d' v n excused k m0 m keeps is shown has = excused k m0 m keeps is

-- a file that isn't there
pub absent_excused : (d d' : DeviceState) (v : LogMemory) (n : ℕ) → IsAbsent d d' v n → IsLinkExcused d d' v n
absent_excused d d' v n absent k m0 m keeps is shown has = let bad : None ≡ Some has.0 = sym (absent k m0 m keeps is) ∙ has.1 in cc
