-- What the calls tell of the largest new file.
use Rattle.std.proofs.Common.{◌≡◌, ◌⊎◌, ◌<◌, ◌≤◌, ℕ, zero, suc, ◌*◌, List, [], ◌∷◌, ◌++◌, Result, Ok, Err, refl, sym, ◌∙◌, inl, inr, map}
use Rattle.std.proofs.Common.{subst}
use Rattle.std.specs.Prelude.{codes, length}
use Rattle.lfs_model.specs.Call.{DirectoryEntry, ListTree, Readdir, Refuse, Room, Rows, Space, Stat, StatOf, Status}
use Rattle.lfs_model.specs.Device.{DeviceState}
use Rattle.lfs_model.specs.Tree.{slot_len}
use Rattle.lfs_fs.specs.Answers.{row_of}
use Rattle.lfs_fs.specs.Refusals.{refusal_of}
use Rattle.lfs_fs.specs.Volume.{Mounted, Serves}
use Rattle.lfs_fs.specs.declared.error.FsError.{FsError}
use Rattle.lfs_put.specs.Calls.{made}
use Rattle.lfs_put.specs.declared.largest.TheConstants.{BLOCK, LAST_NUMBER, MOST_ENTRIES, NARROW}
use Rattle.lfs_put.specs.Largest.{IsLargest, IsLargestIn, IsSlotOf, TellsByTree, TellsEntries, TellsLargest, telling}

-- an empty directory takes its first entry in one block, whatever its form
largest_in_empty : (need limit form : ℕ) {blocks : ℕ} → IsLargest need limit NARROW 0 blocks → IsLargest need limit (slot_len form) 0 blocks
largest_in_empty need limit zero largest = largest
largest_in_empty need limit (suc form) largest = record { few = largest.few; fits = largest.fits; most = largest.most }

-- the largest by the bytes of an entry is that of a directory of this size
largest_in : (need limit size entries : ℕ) {slot blocks : ℕ} → IsSlotOf size entries slot → IsLargest need limit slot entries blocks
    → IsLargestIn need limit size entries blocks
largest_in need limit size entries {slot} {blocks} is largest form same = by (is form same)
  where
    by : (slot ≡ slot_len form) ⊎ ((entries ≡ 0) × (slot ≡ NARROW)) → IsLargest need limit (slot_len form) entries blocks
    by (inl one) = subst (λ (n : ℕ). IsLargest need limit n entries blocks) one largest
    by (inr (none, narrow)) =
        let first = subst (λ (n : ℕ). IsLargest need limit n entries blocks) narrow largest in
        let empty = subst (λ (n : ℕ). IsLargest need limit NARROW n blocks) none first in
        subst (λ (n : ℕ). IsLargest need limit (slot_len form) n blocks) (sym none) (largest_in_empty need limit form empty)

-- the same by the entries that were told
of_entries : (need limit : ℕ) (entries : List DirectoryEntry) {size count slot blocks : ℕ} → IsSlotOf size count slot
    → IsLargest need limit slot count blocks → count ≡ length entries → IsLargestIn need limit size (length entries) blocks
of_entries need limit entries {size} {count} {slot} {blocks} has largest is =
    subst (λ (n : ℕ). IsLargestIn need limit size n blocks) is (largest_in need limit size count has largest)

module _ {D : Type 0} {state : D → DeviceState} where
  pub space_refused : (a b : Mounted D) (fault : FsError) → Serves state a b Space (Refuse (refusal_of fault))
      → TellsLargest state a b (Err fault)
  space_refused a b fault first = record {
    calls = made Space (Refuse (refusal_of fault)) ∷ [];
    served = (b, first, refl);
    outcome = ([], Space, refl);
  }

  -- the space, and what is told of the root
  module _ (a b c : Mounted D) {data_blocks meta_blocks need limit : ℕ}
      (first : Serves state a b Space (Room data_blocks meta_blocks need limit)) where
    pub root_refused : {fault : FsError} → Serves state b c (StatOf (codes "/")) (Refuse (refusal_of fault))
        → TellsLargest state a c (Err fault)
    root_refused {fault} second = record {
      calls = made Space (Room data_blocks meta_blocks need limit) ∷ made (StatOf (codes "/")) (Refuse (refusal_of fault)) ∷ [];
      served = (b, first, (c, second, refl));
      outcome = (made Space (Room data_blocks meta_blocks need limit) ∷ [], StatOf (codes "/"), refl);
    }

    -- and its entries
    module _ (d : Mounted D) (root : Stat) (second : Serves state b c (StatOf (codes "/")) (Status root)) where
      pub listing_refused : {fault : FsError} → TellsEntries state c d (Err fault) → TellsLargest state a d (Err fault)
      listing_refused {fault} third = record {
        calls = made Space (Room data_blocks meta_blocks need limit) ∷ made (StatOf (codes "/")) (Status root)
            ∷ made (Readdir (codes "/")) (Refuse (refusal_of fault)) ∷ [];
        served = (b, first, (c, second, (d, third, refl)));
        outcome = (
          made Space (Room data_blocks meta_blocks need limit) ∷ made (StatOf (codes "/")) (Status root) ∷ [],
          Readdir (codes "/"),
          refl,
        );
      }

      pub root_full : {count : ℕ} → TellsEntries state c d (Ok count) → MOST_ENTRIES ≤ count → TellsLargest state a d (Ok 0)
      root_full (entries, third, is) full = record {
        calls = telling data_blocks meta_blocks need limit root entries;
        served = (b, first, (c, second, (d, third, refl)));
        outcome = record {
          data_blocks = data_blocks;
          meta_blocks = meta_blocks;
          need = need;
          limit = limit;
          root = root;
          entries = entries;
          rest = [];
          order = refl;
          by = inl (subst (λ (n : ℕ). MOST_ENTRIES ≤ n) is full, refl);
        };
      }

      pub fewer : {count slot blocks bytes : ℕ} → TellsEntries state c d (Ok count) → IsSlotOf root.size count slot
          → IsLargest need limit slot count blocks → bytes ≡ BLOCK * blocks → meta_blocks < LAST_NUMBER → TellsLargest state a d (Ok bytes)
      fewer {count} {slot} {blocks} (entries, third, is) has largest same few = record {
        calls = telling data_blocks meta_blocks need limit root entries;
        served = (b, first, (c, second, (d, third, refl)));
        outcome = record {
          data_blocks = data_blocks;
          meta_blocks = meta_blocks;
          need = need;
          limit = limit;
          root = root;
          entries = entries;
          rest = [];
          order = refl;
          by = inr (inr (blocks, of_entries need limit entries has largest is, same, inl (refl, few)));
        };
      }

      pub by_rows : (e : Mounted D) {count slot blocks bytes : ℕ} (result : Result ℕ FsError) → TellsEntries state c d (Ok count)
          → IsSlotOf root.size count slot → IsLargest need limit slot count blocks → bytes ≡ BLOCK * blocks
          → TellsByTree state d e bytes result → TellsLargest state a e result
      by_rows e {count} {slot} {blocks} (Ok told) (entries, third, is) has largest same (rows, fourth, inl (free, equal)) = record {
        calls = telling data_blocks meta_blocks need limit root entries ++ made ListTree (Rows (map row_of rows)) ∷ [];
        served = (b, first, (c, second, (d, third, (e, fourth, refl))));
        outcome = record {
          data_blocks = data_blocks;
          meta_blocks = meta_blocks;
          need = need;
          limit = limit;
          root = root;
          entries = entries;
          rest = made ListTree (Rows (map row_of rows)) ∷ [];
          order = refl;
          by = inr (inr (blocks, of_entries need limit entries has largest is, equal ∙ same, inr (rows, refl, free)));
        };
      }
      by_rows e (Ok told) (entries, third, is) has largest same (rows, fourth, inr (taken, none)) = record {
        calls = telling data_blocks meta_blocks need limit root entries ++ made ListTree (Rows (map row_of rows)) ∷ [];
        served = (b, first, (c, second, (d, third, (e, fourth, refl))));
        outcome = record {
          data_blocks = data_blocks;
          meta_blocks = meta_blocks;
          need = need;
          limit = limit;
          root = root;
          entries = entries;
          rest = made ListTree (Rows (map row_of rows)) ∷ [];
          order = refl;
          by = inr (inl (rows, refl, taken, none));
        };
      }
      by_rows e (Err fault) (entries, third, is) has largest same fourth = record {
        calls = telling data_blocks meta_blocks need limit root entries ++ made ListTree (Refuse (refusal_of fault)) ∷ [];
        served = (b, first, (c, second, (d, third, (e, fourth, refl))));
        outcome = (telling data_blocks meta_blocks need limit root entries, ListTree, refl);
      }
