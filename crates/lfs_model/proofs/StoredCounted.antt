-- What the segments hold once no block of a file is in memory: no more blocks than the totals of the log map say.
use Rattle.std.proofs.Common.{◌≡◌, ◌<◌, ◌≤◌, ⊎_elim, ◌+◌, ◌*◌, ℕ, zero, suc, true, List, [], ◌∷◌, ◌++◌, length, count_by, refl, sym, ◌∙◌}
use Rattle.std.proofs.Common.{subst, arith, inl, Some, None}
use Rattle.std.specs.Prelude.{Option}
use Rattle.std.specs.List.{range_with_len}
use Rattle.std.proofs.lemmas.Bool.{cases_eq, cases_lt, lt-ltb}
use Rattle.std.proofs.lemmas.List.{length-append}
use Rattle.lfs_model.specs.Content.{Content}
use Rattle.lfs_model.specs.Encodes.{IsLogMap, HasLeaf, HasDouble, HasInode}
use Rattle.lfs_model.specs.Entry.{Entry, Data, Leaf, Double, Inode, Map, Usage, Header}
use Rattle.lfs_model.specs.Laid.{IsLaid}
use Rattle.lfs_model.specs.Members.{IsIn}
use Rattle.lfs_model.specs.Memory.{Memory, IsOfFile, live_of, held_of}
use Rattle.lfs_model.specs.Objects.{is_stored, has_leaf, has_double}
use Rattle.lfs_model.specs.Stands.{LogMap}
use Rattle.lfs_model.specs.Totals.{data_of_file, meta_of_file, sum_upto, data_in, meta_in}
use Rattle.lfs_model.proofs.BelowSums.{sum_below}
use Rattle.lfs_model.proofs.BlocksCounted.{blocks_counted}
use Rattle.lfs_model.proofs.FileEntries.{picks, counts, length_picks, in_picks, in_rest, in_first, in_left, in_right, datas, below, tops}
use Rattle.lfs_model.proofs.FileEntries.{meta_by, length_datas, length_below, length_tops, meta_is}
use Rattle.lfs_model.proofs.ObjectMaps.{laid_headers}
use Rattle.lfs_model.proofs.ObjectPointers.{leaf_tests, pointer_count}

module _ (m : LogMap) where
  -- all entries of a file, if it has a header
  of_header : ℕ → Option Header → List Entry
  of_header n None = []
  of_header n (Some h) = datas m n ++ (below m n ++ tops m n)

  length_header : (n : ℕ) (o : Option Header) → length (of_header n o) ≤ data_of_file m n + meta_by m n o
  unfolding of_header meta_by
  length_header n None = omega arith
  length_header n (Some h) =
      let d = length_datas m n in
      let b = length_below m n in
      let t = length_tops m n in
      let p = pointer_count m n in
      let l = length-append (datas m n) (below m n ++ tops m n) in
      let r = length-append (below m n) (tops m n) in
      omega (arith, d, b, t, p, l, r)

  -- all entries of the files from 1 on
  files_upto : ℕ → List Entry
  files_upto zero = []
  files_upto (suc k) = files_upto k ++ of_header (suc k) (m.header (suc k))

  length_files : (k : ℕ) → length (files_upto k) ≤ sum_upto (data_of_file m) k + sum_upto (meta_of_file m) k
  unfolding files_upto sum_upto
  length_files zero = omega arith
  length_files (suc k) =
      let rest = length_files k in
      let own = length_header (suc k) (m.header (suc k)) in
      let is = meta_is m (suc k) (m.header (suc k)) refl in
      let l = length-append (files_upto k) (of_header (suc k) (m.header (suc k))) in
      omega (arith, rest, own, is, l)

  in_files : (k n : ℕ) (x : Entry) → 1 ≤ n → n ≤ k → IsIn (of_header n (m.header n)) x → IsIn (files_upto k) x
  unfolding files_upto
  in_files zero n x some le is = absurd (omega (arith, some, le))
  in_files (suc k) n x some le is = ⊎_elim
      (λ (last : n ≡ suc k). in_right (files_upto k) _ x (subst (λ (n : ℕ). IsIn (of_header n (m.header n)) x) last is))
      (λ (before : n ≡ suc k → ⊥). in_left (files_upto k) _ x (in_files k n x some (omega (arith, le, before)) is))
      (cases_eq n (suc k))

  -- the blocks of the inode map and of the usage table
  tables : List Entry
  tables = picks Map (λ j. true) 0 32 ++ picks Usage (λ j. true) 0 16

  all_pass : (a n : ℕ) → count_by (λ (j : ℕ). true) (range_with_len a n) ≡ n
  all_pass a zero = refl
  all_pass a (suc n) = let rest = all_pass (a + 1) n in omega (arith, rest, counts (λ (j : ℕ). true) a n)

  length_tables : length tables ≡ 48
  unfolding tables
  length_tables =
      let a = length_picks Map (λ j. true) 0 32 ∙ all_pass 0 32 in
      let b = length_picks Usage (λ j. true) 0 16 ∙ all_pass 0 16 in
      let l = length-append (picks Map (λ j. true) 0 32) (picks Usage (λ j. true) 0 16) in
      omega (arith, a, b, l)

  -- and all of these
  every : List Entry
  every = files_upto 4095 ++ tables

  length_every : length every ≤ data_in m + meta_in m + 48
  unfolding every
  length_every =
      let f = length_files 4095 in
      let t = length_tables in
      let l = length-append (files_upto 4095) tables in
      omega (arith, f, t, l)

  -- ---- each entry with an address is one of them
  module _ (e : Content) (M : Memory) (opened_at : ℕ) (laid : IsLaid e m M opened_at) (map : IsLogMap m)
      (out : (x : Entry) → IsOfFile x → M.at x ≡ 1 → ⊥) (maps : (j : ℕ) → 32 ≤ j → M.at (Map j) ≡ 0) where
    of_file : (n : ℕ) (h : Header) → m.header n ≡ Some h → (x : Entry) → IsIn (datas m n ++ (below m n ++ tops m n)) x → IsIn every x
    unfolding every of_header
    of_file n h is x there =
        let number = (laid_headers e m M opened_at laid n h is).number in
        in_left (files_upto 4095) tables x
        (in_files 4095 n x number.0 number.1 (subst (λ (o : Option Header). IsIn (of_header n o) x) (sym is) there))

    -- a leaf or a root on the device has something below
    leaf_has : (n q : ℕ) → 2 ≤ M.at (Leaf n q) → HasLeaf m n q
    leaf_has n q at =
        let some = laid.some (Leaf n q) tt at in
        let spells = laid.spells (Leaf n q) (omega (arith, at)) some.0 some.1 in
        let pointer = some.2 in
        (some.0, some.1, (laid.blocks n (112 + 128 * q + some.0)).1 (omega (arith, spells, pointer)))

    double_has : (n : ℕ) → 2 ≤ M.at (Double n) → HasDouble m n
    double_has n at =
        let some = laid.some (Double n) tt at in
        let spells = laid.spells (Double n) (omega (arith, at)) some.0 some.1 in
        let pointer = some.2 in
        let above : 0 < M.at (Leaf n (suc some.0)) = omega (arith, spells, pointer) in
        (some.0, some.1, leaf_has n (suc some.0) (settled (Leaf n (suc some.0)) (n, refl) above))
      where
        settled : (x : Entry) → IsOfFile x → 0 < M.at x → 2 ≤ M.at x
        settled x file some = ⊎_elim (λ (one : M.at x ≡ 1). absurd (out x file one))
            (λ (other : M.at x ≡ 1 → ⊥). omega (arith, some, other)) (cases_eq (M.at x) 1)

    has_header : (n : ℕ) → 0 < M.at (Inode n) → HasInode m n
    has_header n some = (laid.inodes n).1 some

    in_table : (x : Entry) → IsIn (picks Map (λ j. true) 0 32 ++ picks Usage (λ j. true) 0 16) x → IsIn every x
    unfolding every tables
    in_table x is = in_right (files_upto 4095) tables x is

    covers : (x : Entry) → 2 ≤ M.at x → IsIn every x
    unfolding datas below tops
    covers (Data n i) at =
        let has = (laid.blocks n i).1 (omega (arith, at)) in
        let h = map.within n i has in
        let small = map.small n i has in
        of_file n h.0 h.1 (Data n i) (in_left (datas m n) (below m n ++ tops m n) (Data n i)
        (in_picks (Data n) (is_stored m n) 0 16624 i (omega arith) (omega (arith, small)) (lt-ltb 0 (length (m.block n i)) has)))
    covers (Leaf n zero) at =
        let has = leaf_has n 0 at in
        let h = map.within n (112 + 128 * 0 + has.0) has.2 in
        of_file n h.0 h.1 (Leaf n 0) (in_right (datas m n) (below m n ++ tops m n) (Leaf n 0)
        (in_right (below m n) (tops m n) (Leaf n 0) (in_first (has_leaf m n 0) (Leaf n 0) _ (((leaf_tests m n).0 0).1 has))))
    covers (Leaf n (suc q)) at =
        let has = leaf_has n (suc q) at in
        let h = map.within n (112 + 128 * suc q + has.0) has.2 in
        let low = laid.low n (suc q) (omega (arith, at)) in
        of_file n h.0 h.1 (Leaf n (suc q))
        (in_right (datas m n) (below m n ++ tops m n) (Leaf n (suc q)) (in_left (below m n) (tops m n) (Leaf n (suc q))
        (in_picks (λ q. Leaf n (suc q)) (λ q. has_leaf m n (suc q)) 0 128 q (omega arith) (omega (arith, low))
        (((leaf_tests m n).0 (suc q)).1 has))))
    covers (Double n) at =
        let has = double_has n at in
        let h = map.within n (112 + 128 * suc has.0 + has.2.0) has.2.2 in
        of_file n h.0 h.1 (Double n) (in_right (datas m n) (below m n ++ tops m n) (Double n) (in_right (below m n) (tops m n) (Double n)
        (in_rest (has_leaf m n 0) (Leaf n 0) (Double n) _
        (in_first (has_double m n) (Double n) (Inode n ∷ []) ((leaf_tests m n).1.1 has)))))
    covers (Inode n) at =
        let h = has_header n (omega (arith, at)) in
        of_file n h.0 h.1 (Inode n) (in_right (datas m n) (below m n ++ tops m n) (Inode n) (in_right (below m n) (tops m n) (Inode n)
        (in_rest (has_leaf m n 0) (Leaf n 0) (Inode n) _ (in_rest (has_double m n) (Double n) (Inode n) (Inode n ∷ []) (inl refl)))))
    covers (Map j) at = ⊎_elim
        (λ (low : j < 32). in_table (Map j)
        (in_left (picks Map (λ j. true) 0 32) _ (Map j) (in_picks Map (λ j. true) 0 32 j (omega arith) (omega (arith, low)) refl)))
        (λ (high : 32 ≤ j). let z = maps j high in absurd (omega (arith, z, at)))
        (cases_lt j 32)
    covers (Usage j) at =
        let low = (laid.usages j).1 (omega (arith, at)) in
        let few = laid.few in
        in_table (Usage j) (in_right (picks Map (λ j. true) 0 32) (picks Usage (λ j. true) 0 16) (Usage j)
        (in_picks Usage (λ j. true) 0 16 j (omega arith) (omega (arith, low, few)) refl))

-- With no block of a file in memory, the segments hold no more blocks than the files have, and 48 of the inode map and the usage table.
pub stored_counted : (e : Content) (m : LogMap) (M : Memory) (opened_at : ℕ) → IsLaid e m M opened_at → IsLogMap m
    → ((x : Entry) → IsOfFile x → M.at x ≡ 1 → ⊥) → ((j : ℕ) → 32 ≤ j → M.at (Map j) ≡ 0)
    → sum_below (λ s. live_of m M s + held_of m M s) M.segments ≤ data_in m + meta_in m + 48
stored_counted e m M opened_at laid map out maps =
    let c = blocks_counted e m M opened_at laid (every m) (covers m e M opened_at laid map out maps) in
    let l = length_every m in
    omega (arith, c, l)
