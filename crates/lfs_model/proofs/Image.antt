-- A new volume stands for an empty root.
use Rattle.std.proofs.Common.{◌≡◌, ◌<◌, ◌≤◌, ◌⊎◌, inl, inr, ⊎_elim, ◌+◌, ◌*◌, ◌-◌, ◌/◌, ◌%◌, ◌==◌, ◌^◌, cond, Bool, true, false, nat_lt, ℕ}
use Rattle.std.proofs.Common.{zero, suc, List, [], ◌∷◌, ◌++◌, length, map, get_or, take, drop, replicate, Option, Some, None, refl, sym}
use Rattle.std.proofs.Common.{◌∙◌, ap, subst, arith, lit≤, ne_eqb, eq-eqb}
use Rattle.std.proofs.lemmas.List.{length-append, get_or_append_left, length-replicate, length-map, get_or_past, get_or-map}
use Rattle.std.proofs.lemmas.List.FromFn.{get_or-map-range_with_len, length-map-range_with_len}
use Rattle.std.proofs.lemmas.Bool.{cases_eq, cases_lt, cond-true, cond-false, lt-ltb, le-ltb}
use Rattle.std.specs.List.{range_with_len}
use Rattle.std.specs.Option.{option_map}
use Rattle.lfs_model.specs.Fields.{Are32, le16, le32, le64, words, zeros, part, read32, read64}
use Rattle.lfs_model.specs.Checkpoint.{CheckpointValue, FitsCheckpoint, IsSectorVersion, IsSegmentCount, IsVersion, checkpoint_in}
use Rattle.lfs_model.specs.Checkpoint.{checkpoint_fields, checkpoint_sector, checkpoint_sector_of, checkpoint_text, layout_version}
use Rattle.lfs_model.specs.Checkpoint.{most_unit_power, usage_blocks}
use Rattle.lfs_model.specs.declared.Kind.TheVariants.{Directory}
use Rattle.lfs_model.specs.Device.{Cell, cell_at}
use Rattle.lfs_model.specs.Inode.{FitsInode, IsForm, IsSize, inode_in, inode_sector, kind_byte}
use Rattle.lfs_model.specs.Pointers.{FitsPointers, pointer_sector}
use Rattle.lfs_model.specs.Summary.{BlockNameValue, FitsSummary, IsPlaced, block_kind_byte, no_block, summary_entry, summary_sector}
use Rattle.lfs_model.specs.Usage.{FitsUsage, IsUse, no_use, usage_entry, usage_sector}
use Rattle.lfs_model.specs.Entry.{Entry, Data, Leaf, Double, Inode, Map, Usage, Header, word, half, entries_in, entry_of}
use Rattle.lfs_model.specs.Content.{Content, newest, newer, block, bytes_of, slot, with_parity}
use Rattle.lfs_model.specs.Reach.{Row, View, row_by, chunks, place_in, view_by}
use Rattle.lfs_model.specs.Tree.{new_form}
use Rattle.lfs_model.specs.Stands.{used_in, live_in, age_in, is_live, is_clean, label_at, AreCounted, AreNamed, EnoughClean, count_up}
use Rattle.lfs_model.specs.Encodes.{Has, HasInode, Spells, SpellsInode, IsLogMap, Encodes}
use Rattle.lfs_model.specs.Live.{live_count}
use Rattle.lfs_model.specs.Image.{blank, first_usage_address, first_checkpoint, first_name, first_names, first_used, root_inode}
use Rattle.lfs_model.specs.Image.{first_pointers, first_uses, IsNew, empty_directory, empty_root, Formatted, new_image, image, NewImages}
use Rattle.lfs_model.proofs.Decoding.{checkpoint_some, inode_some, summary_some}
use Rattle.lfs_model.proofs.Encodes.{encoding, word_nil}
use Rattle.lfs_model.proofs.InodePlaces.{length-inode}
use Rattle.lfs_model.proofs.Live.{chunk_read, count_up_none, count_up_more, count_up_same, named_counts}
use Rattle.lfs_model.proofs.PointerPlaces.{length-pointers}
use Rattle.lfs_model.proofs.UsagePlaces.{length-usage, use_of}
use Rattle.lfs_model.proofs.UsageStage.{half_nil}
use Rattle.lfs_model.proofs.Newest.{few_at_most}
use Rattle.lfs_model.proofs.UnitSizes.{made_whole, nothing_whole}
use Rattle.lfs_model.proofs.Versions.{by_sector_version, by_version, known_sector, new_form_known}
use Rattle.lfs_model.proofs.Words.{inode_words, pointers_are, UseWords, use_words}

get_or_blank : (n j : ℕ) → get_or (blank n) j 0 ≡ 0
get_or_blank zero j = refl
get_or_blank (suc n) zero = refl
get_or_blank (suc n) (suc j) = get_or_blank n j

unused_at : (n i : ℕ) → get_or (replicate n no_use) i no_use ≡ no_use
unused_at zero i = refl
unused_at (suc n) zero = refl
unused_at (suc n) (suc i) = unused_at n i

block_at : (c : Content) (at : ℕ) (bytes : List ℕ) → 0 < at → cell_at c at ≡ Some bytes → block c at ≡ bytes
block_at c zero bytes some is = absurd (omega arith)
block_at c (suc at) bytes some is = ap bytes_of is

-- ---- the parts

small_form : (version : ℕ) → IsVersion version → IsForm version Directory (new_form version)
small_form = new_form_known

fits_inode : (version : ℕ) → IsVersion version → FitsInode (root_inode version)
unfolding IsSize Are32
fits_inode version known = record {
  number = (lit≤ tt, lit≤ tt);
  links = (lit≤ tt, lit≤ tt);
  form = by_version (λ v. IsForm 2 Directory (new_form v)) (lit≤ tt) (refl, lit≤ tt) (refl, lit≤ tt) version known;
  size = by_version (λ v. IsSize (new_form v) Directory 0) (refl, lit≤ tt) (refl, lit≤ tt) (refl, lit≤ tt) version known;
  direct_length = refl;
  direct_fits = λ i. let z = get_or_blank 112 i in omega arith;
  single_fits = omega arith;
  double_fits = omega arith;
}

fits_pointers : FitsPointers first_pointers
unfolding Are32
fits_pointers = record { count = refl; fits = each }
  where
    each : (i : ℕ) → get_or first_pointers i 0 < 2 ^ 32
    each zero = omega arith
    each (suc zero) = omega arith
    each (suc (suc i)) = let z = get_or_blank 126 i in omega arith

is_unused : IsUse no_use
is_unused = record {
  used = omega arith;
  both = (λ e. refl, λ e. refl);
  live = omega arith;
  fewer = λ some. absurd (omega arith);
  age = omega arith;
}

-- the other slot holds nothing
none_blank : checkpoint_in (blank 512) ≡ None
unfolding checkpoint_in read32 read64 part
none_blank = refl

-- ---- counts

module _ (p : ℕ → Bool) (m : ℕ) (none : p 0 ≡ false) (some : (x : ℕ) → x < m → p (suc x) ≡ true)
    (past : (x : ℕ) → m ≤ x → p (suc x) ≡ false) where
  counts_some : (n : ℕ) → n ≤ m → count_up p (suc n) ≡ n
  counts_some zero le = count_up_more p 0 ∙ (let start = count_up_none p in
      let step : cond {A = ℕ} (p 0) 1 0 ≡ 0 = ap {B = ℕ} (λ (b : Bool). cond {A = ℕ} b 1 0) none in omega (arith, start, step))
  counts_some (suc n) le = count_up_more p (suc n) ∙ (let rest = counts_some n (omega arith) in let step : cond {A = ℕ} (p (suc n)) 1 0
      ≡ 1 = ap {B = ℕ} (λ (b : Bool). cond {A = ℕ} b 1 0) (some n (omega arith)) in omega (arith, rest, step))

  counts_all : (d : ℕ) → count_up p (suc (m + d)) ≡ m
  counts_all zero = ap (λ (n : ℕ). count_up p (suc n)) (omega arith) ∙ counts_some m (omega arith)
  counts_all (suc d) =
      let more = count_up_more p (suc (m + d)) in
      let step : cond {A = ℕ} (p (suc (m + d))) 1 0 ≡ 0 = ap {B = ℕ} (λ (b : Bool). cond {A = ℕ} b 1 0) (past (m + d) (omega arith)) in
      ap (λ (n : ℕ). count_up p (suc n)) (omega arith) ∙ more ∙ omega (arith, counts_all d, step)

  pub counted_to : (n : ℕ) → m < n → count_up p n ≡ m
  counted_to n lt = let e : n ≡ suc (m + (n - suc m)) = omega arith in ap (λ (x : ℕ). count_up p x) e ∙ counts_all (n - suc m)

-- where all but the first pass
counted_most : (p : ℕ → Bool) → ((x : ℕ) → 0 < x → p x ≡ true) → (n : ℕ) → n ≤ count_up p n + 1
counted_most p all zero = omega arith
counted_most p all (suc zero) = omega arith
counted_most p all (suc (suc n)) =
    let more = count_up_more p (suc n) in
    let step : cond {A = ℕ} (p (suc n)) 1 0 ≡ 1 = ap {B = ℕ} (λ (b : Bool). cond {A = ℕ} b 1 0) (all (suc n) (omega arith)) in
    omega (arith, more, step, counted_most p all (suc n))

-- ---- the volume

module _ (version N p : ℕ) (c : Content) (new : IsNew version N p c) where
  abbrev u : ℕ
  u = usage_blocks N

  abbrev k : CheckpointValue
  k = first_checkpoint version N p

  blocks_low : 1 ≤ u
  blocks_low = let low = new.count.least in omega arith

  blocks_high : u ≤ 16
  blocks_high = let high = new.count.most in omega arith

  -- how much is in use
  abbrev used : ℕ
  used = first_used N p

  few : p ≤ 6
  few = omega (arith, new.unit, few_at_most (version == 3))

  used_least : 3 + u ≤ used
  used_least = (made_whole p few u blocks_high).0

  used_most : used ≤ 64
  used_most = (made_whole p few u blocks_high).1

  used_whole : used % 2 ^ p ≡ 0
  used_whole = (made_whole p few u blocks_high).2

  usage_length : length k.usage ≡ 16
  usage_length = length-map-range_with_len (first_usage_address N) 0 16

  -- the addresses of the usage blocks
  usage_at : (j : ℕ) → get_or k.usage j 0 ≡ first_usage_address N j
  usage_at j = ⊎_elim
      (λ (low : j < 16). get_or-map-range_with_len (first_usage_address N) 0 16 j j 0 low (omega arith))
      (λ (high : 16 ≤ j). get_or_past k.usage j 0 (let l = usage_length in omega arith)
      ∙ sym (cond-false (nat_lt j u) (5 + j) 0 (le-ltb j u (let most = blocks_high in omega arith))))
      (cases_lt j 16)

  usage_some : (j : ℕ) → j < u → get_or k.usage j 0 ≡ 5 + j
  usage_some j lt = usage_at j ∙ cond-true (nat_lt j u) (5 + j) 0 (lt-ltb j u lt)

  usage_none : (j : ℕ) → u ≤ j → get_or k.usage j 0 ≡ 0
  usage_none j le = usage_at j ∙ cond-false (nat_lt j u) (5 + j) 0 (le-ltb j u le)

  fits_checkpoint : FitsCheckpoint k
  unfolding Are32
  fits_checkpoint = record {
    number = omega arith;
    number_fits = omega arith;
    segments = new.count;
    version = new.known;
    unit = new.unit;
    map_length = refl;
    map_fits = map_fits;
    usage_length = usage_length;
    usage_fits = λ j. ⊎_elim (λ (lt : j < u). let e = usage_some j lt in let most = blocks_high in omega arith)
        (λ (le : u ≤ j). let e = usage_none j le in omega arith) (cases_lt j u);
  }
    where
      map_fits : (i : ℕ) → get_or (4 ∷ blank 31) i 0 < 2 ^ 32
      map_fits zero = omega arith
      map_fits (suc i) = let z = get_or_blank 31 i in omega arith

  is_newest : newest c ≡ Some k
  is_newest =
      ap (λ (x : Cell). newer (with_parity 0 (checkpoint_in (bytes_of x))) (slot c 1)) new.empty_slot
      ∙ ap (λ (o : Option CheckpointValue). newer (with_parity 0 o) (slot c 1)) none_blank
      ∙ ap (λ (x : Cell). newer None (with_parity 1 (checkpoint_in (bytes_of x)))) new.checkpoint
      ∙ ap (λ (o : Option CheckpointValue). newer None (with_parity 1 o)) (checkpoint_some (checkpoint_sector k) k fits_checkpoint refl)

  -- ---- the first chunk
  abbrev names : List BlockNameValue
  names = first_names N p

  names_length : length names ≡ used - 1
  names_length = length-map-range_with_len (first_name N) 0 (used - 1)

  name_at : (i : ℕ) (d : BlockNameValue) → i < used - 1 → get_or names i d ≡ first_name N i
  name_at i d lt = get_or-map-range_with_len (first_name N) 0 (used - 1) i i d lt (omega arith)

  -- which usage block a name is of
  own_index : (j : ℕ) → j < u → cond (nat_lt j u) j 0 ≡ j
  own_index j lt = cond-true (nat_lt j u) j 0 (lt-ltb j u lt)

  padded_index : (j : ℕ) → u ≤ j → cond (nat_lt j u) j 0 ≡ 0
  padded_index j le = cond-false (nat_lt j u) j 0 (le-ltb j u le)

  index_low : (j : ℕ) → cond (nat_lt j u) j 0 ≤ 15
  index_low j = ⊎_elim (λ (lt : j < u). let own = own_index j lt in let most = blocks_high in omega (arith, own, most, lt))
      (λ (le : u ≤ j). let none = padded_index j le in omega (arith, none)) (cases_lt j u)

  placed : (i : ℕ) → IsPlaced (first_name N i).kind (first_name N i).file (first_name N i).index
  unfolding IsPlaced
  placed zero = ((lit≤ tt, lit≤ tt), refl)
  placed (suc zero) = (refl, lit≤ tt)
  placed (suc (suc j)) = (refl, index_low j)

  fits_summary : FitsSummary names
  fits_summary = record {
    some = omega (arith, names_length, used_least);
    room = omega (arith, names_length, used_most);
    each = λ i lt. let below : i < used - 1 = omega (arith, names_length, lt) in
        subst (λ (b : BlockNameValue). IsPlaced b.kind b.file b.index) (sym (name_at i no_block below)) (placed i);
  }

  abbrev entries : List Entry
  entries = map entry_of names

  entries_length : length entries ≡ used - 1
  entries_length = length-map names entry_of ∙ names_length

  named_in : entries_in (summary_sector names) ≡ Some entries
  unfolding entries_in
  named_in = ap (option_map (map entry_of)) (summary_some (summary_sector names) names fits_summary refl)

  -- ---- the addresses
  abbrev A : Entry → ℕ
  A (Data n i) = 0
  A (Leaf n q) = 0
  A (Double n) = 0
  A (Inode n) = cond (n == 1) 3 0
  A (Map j) = get_or k.map j 0
  A (Usage j) = get_or k.usage j 0

  abbrev v : View
  v = view_by c k A

  inode_at : (n : ℕ) → 0 < cond (n == 1) 3 0 → n ≡ 1
  inode_at n lt = ⊎_elim (λ (e : n ≡ 1). e) (λ (ne : n ≡ 1 → ⊥). let bad : 0 < 0 =
      subst (λ (x : ℕ). 0 < x) (cond-false {A = ℕ} (n == 1) 3 0 (ne_eqb n 1 ne)) lt in absurd (omega arith)) (cases_eq n 1)

  usage_there : (j : ℕ) → 0 < get_or k.usage j 0 → j < u
  usage_there j lt = ⊎_elim (λ (low : j < u). low) (λ (high : u ≤ j). let e = usage_none j high in absurd (omega arith)) (cases_lt j u)

  at_each : (P : Entry → Type 0) → P (Inode 1) → P (Map 0) → ((j : ℕ) → j < u → P (Usage j)) → (e : Entry) → 0 < A e → P e
  at_each P i m us (Data n x) lt = absurd (omega arith)
  at_each P i m us (Leaf n q) lt = absurd (omega arith)
  at_each P i m us (Double n) lt = absurd (omega arith)
  at_each P i m us (Inode n) lt = subst (λ (x : ℕ). P (Inode x)) (sym (inode_at n lt)) i
  at_each P i m us (Map zero) lt = m
  at_each P i m us (Map (suc j)) lt = let z = get_or_blank 31 j in absurd (omega arith)
  at_each P i m us (Usage j) lt = us j (usage_there j lt)

  has_inode : (n : ℕ) → HasInode (empty_root version) n → n ≡ 1
  has_inode n has =
      ⊎_elim (λ (e : n ≡ 1). e)
      (λ (ne : n ≡ 1 → ⊥).
      let none = cond-false (n == 1) (Some ((empty_directory version))) None (ne_eqb n 1 ne) in
      let e : None ≡ Some has.0 = sym none ∙ has.1 in absurd (cc))
      (cases_eq n 1)

  stored : (e : Entry) → Has (empty_root version) N e → 0 < A e
  stored (Data n i) has = absurd (omega arith)
  stored (Leaf n q) has = let h = has.2 in absurd (omega arith)
  stored (Double n) has = let h = has.2.2 in absurd (omega arith)
  stored (Inode n) has = subst (λ (x : ℕ). 0 < cond (x == 1) 3 0) (sym (has_inode n has)) (omega arith)
  stored (Map zero) has = omega arith
  stored (Map (suc j)) has = let e = has_inode (128 * suc j + has.0) has.2 in absurd (omega arith)
  stored (Usage j) has = let e = usage_some j has in omega arith

  only : (e : Entry) → 0 < A e → Has (empty_root version) N e
  only = at_each (Has (empty_root version) N) ((empty_directory version), refl) (1, omega arith, ((empty_directory version), refl))
      (λ j lt. lt)

  within : (e : Entry) → 0 < A e → (2 ≤ A e) × (A e < 2 + 64 * N)
  within = at_each (λ e. (2 ≤ A e) × (A e < 2 + 64 * N)) (let low = new.count.least in (omega arith, omega arith))
      (let low = new.count.least in (omega arith, omega arith))
      (λ j lt. let e = usage_some j lt in let most = blocks_high in let low = new.count.least in (omega arith, omega arith))

  -- ---- its blocks
  inode_block : block c 3 ≡ inode_sector (root_inode version)
  inode_block = block_at c 3 (inode_sector (root_inode version)) (omega arith) new.inode

  map_block : block c 4 ≡ pointer_sector first_pointers
  map_block = block_at c 4 (pointer_sector first_pointers) (omega arith) new.pointers

  usage_block : (j : ℕ) → j < u → block c (A (Usage j)) ≡ usage_sector (first_uses N p j)
  usage_block j lt = ap (block c) (usage_some j lt) ∙ block_at c (5 + j) (usage_sector (first_uses N p j)) (omega arith) (new.uses j lt)

  first_use : IsUse (record { used = first_used N p; live = 2 + u; age = 1 })
  first_use = record {
    used = used_most;
    both = (λ e. absurd (omega (arith, e, used_least)), λ e. absurd (omega arith));
    live = omega (arith, used_least, used_most);
    fewer = λ some. omega (arith, used_least);
    age = omega arith;
  }

  fits_uses : (j : ℕ) → FitsUsage 64 (first_uses N p j)
  fits_uses zero = record { entries = refl; each = each; past = λ i le lt. absurd (omega arith) }
    where
      each : (i : ℕ) → i < 64 → IsUse (get_or (first_uses N p 0) i no_use)
      each zero lt = first_use
      each (suc i) lt = subst IsUse (sym (unused_at 63 i)) is_unused
  fits_uses (suc j) =
      record { entries = refl; each = λ i lt. subst IsUse (sym (unused_at 64 i)) is_unused; past = λ i le lt. absurd (omega arith) }

  long : (e : Entry) → 0 < A e → length (block c (A e)) ≡ 512
  long = at_each (λ e. length (block c (A e)) ≡ 512) (ap length inode_block ∙ length-inode (root_inode version)
      (fits_inode version new.known)) (ap length map_block ∙ length-pointers first_pointers fits_pointers)
      (λ j lt. ap length (usage_block j lt) ∙ length-usage 64 (first_uses N p j) (fits_uses j))

  pointer_at : (i : ℕ) → get_or first_pointers i 0 ≡ cond (i == 1) 3 0
  pointer_at zero = refl
  pointer_at (suc zero) = refl
  pointer_at (suc (suc i)) = get_or_blank 126 i ∙ sym (cond-false (suc (suc i) == 1) 3 0 (ne_eqb (suc (suc i)) 1 (λ e. omega arith)))

  map_words : (i : ℕ) → i < 128 → word (block c 4) i ≡ A (Inode (128 * 0 + i))
  map_words i lt =
      let here : 128 * 0 + i ≡ i = omega arith in
      pointers_are (block c 4) first_pointers fits_pointers map_block i lt ∙ pointer_at i ∙ ap (λ (n : ℕ). A (Inode n)) (sym here)

  root_in : inode_in (block c 3) ≡ Some (root_inode version)
  root_in = inode_some (block c 3) (root_inode version) (fits_inode version new.known) inode_block

  spells_inode : SpellsInode (empty_root version) (layout_version k) A 1 (block c 3)
  spells_inode =
      let w = inode_words (block c 3) (root_inode version) root_in in record {
        formed = record { value = (root_inode version); spelt = root_in; form = small_form version new.known; own = refl };
        header = ap Some (sym w.header);
        direct = λ i lt. w.direct i lt ∙ get_or_blank 112 i;
        single = w.single;
        double = w.double;
      }

  -- ---- the usage table
  use_there : (j i : ℕ) → j < u → i < 64 → UseWords (block c (A (Usage j))) i (get_or (first_uses N p j) i no_use)
  use_there j i below lt =
      subst (UseWords (block c (A (Usage j))) i) (sym (use_of 64 (first_uses N p j) (fits_uses j)
      (usage_block j below) i lt)) (use_words (block c (A (Usage j))) i)

  no_use_there : (j i : ℕ) → (j ≡ 0 → 0 < i) → get_or (first_uses N p j) i no_use ≡ no_use
  no_use_there zero zero some = let h = some refl in absurd (omega arith)
  no_use_there zero (suc i) some = unused_at 63 i
  no_use_there (suc j) i some = unused_at 64 i

  unused : (s : ℕ) → 0 < s → UseWords (block c (A (Usage (s / 64)))) (s % 64) no_use
  unused s lt = ⊎_elim
      (λ (below : s / 64 < u). subst (UseWords (block c (A (Usage (s / 64)))) (s % 64)) (no_use_there (s / 64) (s % 64) (λ e. omega arith))
      (use_there (s / 64) (s % 64) below (omega arith)))
      (λ (past : u ≤ s / 64).
      let none : block c (A (Usage (s / 64))) ≡ [] = ap (block c) (usage_none (s / 64) past) in
      record {
        used = ap (λ (b : List ℕ). half b (4 * (s % 64))) none ∙ half_nil (4 * (s % 64));
        live = ap (λ (b : List ℕ). half b (4 * (s % 64) + 1)) none ∙ half_nil (4 * (s % 64) + 1);
        age = ap (λ (b : List ℕ). word b (2 * (s % 64) + 1)) none ∙ word_nil (2 * (s % 64) + 1);
      })
      (cases_lt (s / 64) u)

  used_past : (s : ℕ) → 0 < s → used_in v s ≡ 0
  used_past s lt = (unused s lt).used

  live_past : (s : ℕ) → 0 < s → live_in v s ≡ 0
  live_past s lt = (unused s lt).live

  age_past : (s : ℕ) → 0 < s → age_in v s ≡ 0
  age_past s lt = (unused s lt).age

  used_first : used_in v 0 ≡ used
  used_first = (use_there 0 0 (let low = blocks_low in omega arith) (omega arith)).used

  live_first : live_in v 0 ≡ 2 + u
  live_first = (use_there 0 0 (let low = blocks_low in omega arith) (omega arith)).live

  -- ---- the rows
  row_past : (s : ℕ) → 0 < s → v.row s ≡ Some []
  unfolding row_by
  row_past s lt = ap (λ (n : ℕ). chunks [] (take n (drop (2 + 64 * s) c))) (used_past s lt)

  abbrev chunk : Row
  chunk = None ∷ map Some entries

  first_row : v.row 0 ≡ Some chunk
  unfolding row_by
  first_row =
      let len : 0 + 1 + length entries ≡ used = omega (arith, entries_length, used_least) in
      let room : 2 + 64 * 0 + 0 + 1 + length entries ≤ length c = omega (arith, entries_length, new.size, new.count.least, used_most) in
      let read = chunk_read c 0 0 (summary_sector names) entries new.summary named_in room in
      let whole : 0 + 1 + length entries ≡ 0 + 1 + length entries - 0 = omega arith in
      ap (λ (n : ℕ). chunks [] (take n (drop 2 c))) (used_first ∙ sym len ∙ whole) ∙ read

  place_at : (i : ℕ) → i < used - 1 → place_in (v.row 0) (suc i) ≡ Some (entry_of (first_name N i))
  place_at i lt =
      let below : i < length entries = omega (arith, entries_length, lt) in
      let below_names : i < length names = omega (arith, names_length, lt) in
      ap (λ (o : Option Row). place_in o (suc i)) first_row
      ∙ get_or-map Some entries i (entry_of no_block) None below
      ∙ ap Some (get_or-map entry_of names i no_block (entry_of no_block) below_names)
      ∙ ap (λ (b : BlockNameValue). Some (entry_of b)) (name_at i no_block lt)

  no_place : (i : ℕ) → used - 1 ≤ i → place_in (v.row 0) (suc i) ≡ None
  no_place i le =
      ap (λ (o : Option Row). place_in o (suc i)) first_row
      ∙ get_or_past (map Some entries) i None (let l = length-map entries (λ (e : Entry). Some e) in let m = entries_length in omega arith)

  named : AreNamed v
  named = at_each (λ e. label_at v (A e) ≡ Some e) (place_at 0 (omega (arith, used_least))) (place_at 1 (omega (arith, used_least)))
      usage_named
    where
      usage_named : (j : ℕ) → j < u → label_at v (A (Usage j)) ≡ Some (Usage j)
      usage_named j lt =
          let at = usage_some j lt in
          let most = blocks_high in
          let segment : (A (Usage j) - 2) / 64 ≡ 0 = omega arith in
          let place : (A (Usage j) - 2) % 64 ≡ suc (suc (suc j)) = omega arith in
          ap (λ (s : ℕ). place_in (v.row s) ((A (Usage j) - 2) % 64)) segment ∙ ap (λ (at : ℕ). place_in (v.row 0) at) place
          ∙ place_at (suc (suc j)) (omega (arith, used_least, lt)) ∙ ap (λ (n : ℕ). Some (Usage n)) (own_index j lt)

  -- the place is reached as the entry that the row gives it
  abbrev live_by : ℕ → ℕ → Option Entry → Bool
  live_by s at o = elim o as (λ y. Bool) [ None ↦ false | Some e ↦ A e == 2 + 64 * s + at ]

  address_is : (i : ℕ) → i < 2 + u → A (entry_of (first_name N i)) ≡ 2 + 64 * 0 + suc i
  address_is zero lt = refl
  address_is (suc zero) lt = refl
  address_is (suc (suc j)) lt =
      let below : j < u = omega (arith, lt) in
      ap (λ (n : ℕ). A (Usage n)) (own_index j below) ∙ usage_some j below ∙ omega arith

  live_there : (i : ℕ) → i < 2 + u → is_live v 0 (suc i) ≡ true
  live_there i lt = ap (live_by 0 (suc i)) (place_at i (omega (arith, lt, used_least)))
      ∙ eq-eqb (A (entry_of (first_name N i))) (2 + 64 * 0 + suc i) (address_is i lt)

  -- no address leads to the others
  address_away : (i : ℕ) → 2 + u ≤ i → A (entry_of (first_name N i)) ≡ 5
  address_away zero le = absurd (omega (arith, le))
  address_away (suc zero) le = absurd (omega (arith, le, blocks_low))
  address_away (suc (suc j)) le =
      ap (λ (n : ℕ). A (Usage n)) (padded_index j (omega (arith, le))) ∙ usage_some 0 (omega (arith, blocks_low))

  dead_there : (i : ℕ) → 2 + u ≤ i → is_live v 0 (suc i) ≡ false
  dead_there i le = ⊎_elim
      (λ (lt : i < used - 1). ap (live_by 0 (suc i)) (place_at i lt)
      ∙ ne_eqb (A (entry_of (first_name N i))) (2 + 64 * 0 + suc i) (λ e. omega (arith, e, address_away i le, le, blocks_low)))
      (λ (past : used - 1 ≤ i). ap (live_by 0 (suc i)) (no_place i past))
      (cases_lt i (used - 1))

  counted_first : live_count v 0 ≡ 2 + u
  counted_first = counted_to (is_live v 0) (2 + u) (ap (λ (o : Option Row). live_by 0 0 (place_in o 0)) first_row) live_there
      dead_there 64 (let most = blocks_high in omega arith)

  count_none : count_up (λ x. false) 64 ≡ 0
  unfolding count_up
  count_none = refl

  counted : AreCounted v
  counted zero below = (named_counts v named 0 (live_in v 0)).1 (live_first ∙ sym counted_first)
  counted (suc s) below =
      (named_counts v named (suc s) (live_in v (suc s))).1
      (live_past (suc s) (omega arith)
      ∙ sym (count_up_same (is_live v (suc s)) (λ x. false) 64
      (λ x lt. ap (λ (o : Option Row). live_by (suc s) x (place_in o x)) (row_past (suc s) (omega arith))) ∙ count_none))

  clean : EnoughClean v
  clean =
      let most = counted_most (is_clean v) (λ s lt. ap (λ (n : ℕ). n == 0) (used_past s lt)) N in
      let low = new.count.least in
      omega arith

  at_segment : (P : ℕ → Type 0) → P 0 → ((s : ℕ) → 0 < s → P s) → (s : ℕ) → P s
  at_segment P first others zero = first
  at_segment P first others (suc s) = others (suc s) (omega arith)

  encodes : Encodes c k A (empty_root version)
  encodes = record {
    size = new.size;
    version = refl;
    map = λ j. refl;
    usage = λ j. refl;
    stored = stored;
    only = only;
    within = within;
    long = long;
    spells = at_each (λ e. Spells (empty_root version) (layout_version k) A (block c (A e)) e) spells_inode map_words (λ j lt. tt);
    rows = at_segment (λ s. 0 < used_in v s → (r : List (Option Entry)) × (v.row s ≡ Some r)) (λ lt. (chunk, first_row))
        (λ s lt some. let z = used_past s lt in absurd (omega arith));
    named = named;
    fit = at_segment (λ s. used_in v s ≤ 64) (omega (arith, used_first, used_most))
        (λ s lt. let z = used_past s lt in omega arith);
    whole = at_segment (λ s. s < k.segments → used_in v s % 2 ^ p ≡ 0) (λ lt. ap (λ (n : ℕ). n % 2 ^ p) used_first ∙ used_whole)
        (λ s some lt. ap (λ (n : ℕ). n % 2 ^ p) (used_past s some) ∙ nothing_whole p few);
    less = at_segment (λ s. (used_in v s ≡ 0) ⊎ ((0 < live_in v s) × (live_in v s < used_in v s)))
        (inr (omega (arith, live_first), omega (arith, live_first, used_first, used_least))) (λ s lt. inl (used_past s lt));
    both = at_segment (λ s. used_in v s ≡ 0 → live_in v s ≡ 0) (λ e. absurd (omega (arith, e, used_first, used_least)))
        (λ s lt e. live_past s lt);
    past = λ s le. (used_past s (let low = new.count.least in omega arith), age_past s (let low = new.count.least in omega arith));
    counted = counted;
    clean = clean;
  }

header_root : (version n : ℕ) (h : Header) → (empty_root version).header n ≡ Some h → h ≡ empty_directory version
header_root version n h is = elim (n == 1) as (λ (b : Bool). cond b (Some (empty_directory version)) None ≡ Some h
    → h ≡ empty_directory version) [ true ↦ λ e. cc | false ↦ λ e. absurd (cc) ] is

formed : (version : ℕ) → IsVersion version → IsLogMap (empty_root version)
formed version known = record {
  none = λ h is. absurd (cc);
  root = (empty_directory version, refl, refl);
  forms = λ n h is. let at = header_root version n h is in
      subst (λ (x : Header). IsForm version x.kind x.form) (sym at) (small_form version known);
  within = λ n i has. absurd (omega arith);
  small = λ n i has. absurd (omega arith);
  nonzero = λ n i has. absurd (omega arith);
  past = λ n i o h is le. refl;
}

pub formatted : Formatted
formatted version N p c new = (
  is_newest version N p c new,
  encoding c (first_checkpoint version N p) (A version N p c new) (empty_root version) (formed version new.known)
      (encodes version N p c new),
)

-- ---- such contents

-- a usage block whose segments are all unused is zeros
pub unused_spelled : (N p j : ℕ) → usage_sector (first_uses N p (suc j)) ≡ blank 512
unfolding usage_sector usage_entry le16 le32
unused_spelled N p j = refl

-- behind five cells and so many more
sixth_on : (a b d e f : Cell) (cells : Content) (j : ℕ) → cell_at (a ∷ b ∷ d ∷ e ∷ f ∷ cells) (5 + j) ≡ cell_at cells j
sixth_on a b d e f cells j = ap (cell_at (a ∷ b ∷ d ∷ e ∷ f ∷ cells)) five
  where
    five : 5 + j ≡ suc (suc (suc (suc (suc j))))
    five = omega arith

module _ (version N p : ℕ) (known : IsVersion version) (unit : p ≤ most_unit_power version) (count : IsSegmentCount N) where
  abbrev used_cells : Content
  used_cells = map (λ j. Some (usage_sector (first_uses N p j))) (range_with_len 0 (usage_blocks N))

  abbrev rest : Content
  rest = replicate (64 * N - 3 - usage_blocks N) (Some (blank 512))

  used_length : length used_cells ≡ usage_blocks N
  used_length = length-map-range_with_len (λ j. Some (usage_sector (first_uses N p j))) 0 (usage_blocks N)

  image_length : length (new_image version N p) ≡ 2 + 64 * N
  image_length =
      let l = length-append used_cells rest in
      let m = used_length in
      let r = length-replicate (64 * N - 3 - usage_blocks N) (Some (blank 512)) in
      let low = count.least in
      let fifth : length (new_image version N p) ≡ length (used_cells ++ rest) + 5 = omega arith in
      omega (arith, l, m, r, fifth)

  usage_cell : (j : ℕ) → j < usage_blocks N → cell_at (used_cells ++ rest) j ≡ Some (usage_sector (first_uses N p j))
  usage_cell j lt =
      get_or_append_left used_cells rest None j (let m = used_length in omega arith)
      ∙ get_or-map-range_with_len (λ j. Some (usage_sector (first_uses N p j))) 0 (usage_blocks N) j j None lt (omega arith)

  new_is_new : IsNew version N p (new_image version N p)
  new_is_new = record {
    known = known;
    unit = unit;
    count = count;
    size = let l = image_length in omega arith;
    empty_slot = refl;
    checkpoint = refl;
    summary = refl;
    inode = refl;
    pointers = refl;
    uses = λ j lt.
        sixth_on (Some (blank 512)) (Some (checkpoint_sector (first_checkpoint version N p))) (Some (summary_sector (first_names N p)))
        (Some (inode_sector (root_inode version))) (Some (pointer_sector first_pointers)) (used_cells ++ rest) j ∙ usage_cell j lt;
  }

module _ (version : ℕ) (known : IsSectorVersion version) where
  first_cells : (cell_at (image version) 1 ≡ Some (checkpoint_sector (first_checkpoint version 64 0)))
      × (cell_at (image version) 3 ≡ Some (inode_sector (root_inode version)))
  unfolding checkpoint_sector checkpoint_sector_of checkpoint_fields checkpoint_text le64 le32 le16 words zeros inode_sector kind_byte
  first_cells = by_sector_version
      (λ v. (cell_at (image v) 1 ≡ Some (checkpoint_sector (first_checkpoint v 64 0)))
      × (cell_at (image v) 3 ≡ Some (inode_sector (root_inode v))))
      (refl, refl) (refl, refl) version known

  image_is_new : IsNew version 64 0 (image version)
  unfolding le32 le16 words zeros summary_sector summary_entry block_kind_byte pointer_sector usage_sector usage_entry
  image_is_new = record {
    known = known_sector version known;
    unit = omega arith;
    count = record { least = lit≤ tt; most = lit≤ tt; eighths = refl };
    size = let l = length-replicate 4092 (Some (blank 512)) in omega arith;
    empty_slot = refl;
    checkpoint = first_cells.0;
    summary = refl;
    inode = first_cells.1;
    pointers = refl;
    uses = λ j lt. subst (λ (i : ℕ). cell_at (image version) (5 + i) ≡ Some (usage_sector (first_uses 64 0 i))) (first j lt) refl;
  }
    where
      first : (j : ℕ) → j < usage_blocks 64 → 0 ≡ j
      first zero lt = refl
      first (suc j) lt = absurd (omega arith)

pub new_images : NewImages
new_images = (new_is_new, image_is_new)
