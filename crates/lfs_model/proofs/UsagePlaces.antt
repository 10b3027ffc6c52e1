-- The usage block, entry by entry.
use Rattle.std.proofs.Common.{◌≡◌, ◌≤◌, ◌<◌, ◌+◌, ◌*◌, ◌^◌, ℕ, List, ◌++◌, length, get_or, sym, ap, ◌∙◌, arith, length-append}
use Rattle.std.specs.List.{flat_map}
use Rattle.lfs_model.specs.Fields.{le16, le32, part, read16, read32, run}
use Rattle.lfs_model.specs.Usage.{SegmentUse, IsUse, FitsUsage, no_use, usage_entry, usage_sector, use_at, usage_of}
use Rattle.lfs_model.proofs.Numbers.{IsBytes, fronts, length-le16, length-le32}
use Rattle.lfs_model.proofs.Parts.{length-part, part_add, part_whole, le16_of_read, le32_of_read, read16_is, read32_is}
use Rattle.lfs_model.proofs.Runs.{get_or-run, run_spelled, run_is, length-flat}

pub length-entry : (u : SegmentUse) → length (usage_entry u) ≡ 8
unfolding usage_entry
length-entry u = omega (
  arith,
  length-append (le16 u.used) (le16 u.live ++ le32 u.age),
  length-append (le16 u.live) (le32 u.age),
  length-le16 u.used,
  length-le16 u.live,
  length-le32 u.age,
)

-- the parts of an entry
cut : (at : ℕ) (s : List ℕ) → part at 2 s ++ (part (at + 2) 2 s ++ part (at + 4) 4 s) ≡ part at 8 s
cut at s =
    ap (λ (k : ℕ). part at 2 s ++ (part (at + 2) 2 s ++ part k 4 s)) (omega arith)
    ∙ ap (λ (b : List ℕ). part at 2 s ++ b) (part_add (at + 2) 2 4 s)
    ∙ part_add at 2 6 s

entry_read : (s : List ℕ) → IsBytes s → (at : ℕ) → at + 8 ≤ length s → usage_entry (use_at at s) ≡ part at 8 s
unfolding usage_entry use_at
entry_read s fits at room =
    ap (λ (b : List ℕ). b ++ (le16 (read16 (at + 2) s) ++ le32 (read32 (at + 4) s))) (le16_of_read at s fits (omega arith))
    ∙ ap (λ (b : List ℕ). part at 2 s ++ (b ++ le32 (read32 (at + 4) s))) (le16_of_read (at + 2) s fits (omega arith))
    ∙ ap (λ (b : List ℕ). part at 2 s ++ (part (at + 2) 2 s ++ b)) (le32_of_read (at + 4) s fits (omega arith))
    ∙ cut at s

-- the numbers of an entry have room in it
record Small (u : SegmentUse) : Type 0 where
  used : u.used < 2 ^ 16
  live : u.live < 2 ^ 16
  age : u.age < 2 ^ 32

abbrev built : ℕ → ℕ → ℕ → SegmentUse
built u l a = record { used = u; live = l; age = a }

-- an entry that is spelled is read
entry_is : (s : List ℕ) (at : ℕ) (u : SegmentUse) → at + 8 ≤ length s → Small u → part at 8 s ≡ usage_entry u → use_at at s ≡ u
unfolding usage_entry use_at
entry_is s at u room small e =
    let a = fronts (part at 2 s) (part (at + 2) 2 s ++ part (at + 4) 4 s) (le16 u.used) (le16 u.live ++ le32 u.age)
    (length-part at 2 s (omega arith) ∙ sym (length-le16 u.used)) (cut at s ∙ e) in
    let b = fronts (part (at + 2) 2 s) (part (at + 4) 4 s) (le16 u.live) (le32 u.age)
    (length-part (at + 2) 2 s (omega arith) ∙ sym (length-le16 u.live)) a.1 in
    let used : read16 at s ≡ u.used = read16_is at s u.used small.used a.0 in
    let live : read16 (at + 2) s ≡ u.live = read16_is (at + 2) s u.live small.live b.0 in
    let age : read32 (at + 4) s ≡ u.age = read32_is (at + 4) s u.age small.age b.1 in
    ap (λ (n : ℕ). built n (read16 (at + 2) s) (read32 (at + 4) s)) used
    ∙ ap (λ (n : ℕ). built u.used n (read32 (at + 4) s)) live ∙ ap (λ (n : ℕ). built u.used u.live n) age

small_of_use : (u : SegmentUse) → IsUse u → Small u
small_of_use u is = record { used = omega (arith, is.used); live = omega (arith, is.used, is.live); age = is.age }

pub length-usage : (n : ℕ) (us : List SegmentUse) → FitsUsage n us → length (usage_sector us) ≡ 512
unfolding usage_sector
length-usage n us fits = length-flat usage_entry 8 length-entry us ∙ ap (λ (m : ℕ). 8 * m) fits.entries

-- the places of a usage block hold its entries
pub usage_back : (n : ℕ) (us : List SegmentUse) → FitsUsage n us → usage_of (usage_sector us) ≡ us
unfolding usage_sector
usage_back n us p =
    let s : List ℕ = flat_map usage_entry us in
    let long : length s ≡ 8 * length us = length-flat usage_entry 8 length-entry us in
    ap (λ (m : ℕ). run use_at 8 m 0 s) (sym p.entries)
    ∙ run_is use_at usage_entry Small 8 s length-entry (λ at u room small e. entry_is s at u room small e) no_use us 0 (omega arith)
    (λ i lt. small_of_use _ (p.each i (omega (arith, p.entries)))) (part_whole (8 * length us) s long)

-- two usage blocks of one sector are one
pub one_usage : (n m : ℕ) (us vs : List SegmentUse) → FitsUsage n us → FitsUsage m vs → usage_sector us ≡ usage_sector vs → us ≡ vs
one_usage n m us vs p q e = sym (usage_back n us p) ∙ ap (λ (s : List ℕ). usage_of s) e ∙ usage_back m vs q

-- every sector spells the entries that are read from it
pub usage_spelled : (s : List ℕ) → IsBytes s → length s ≡ 512 → s ≡ usage_sector (usage_of s)
unfolding usage_sector
usage_spelled s fits long =
    sym (run_spelled use_at usage_entry 8 s (entry_read s fits) 64 0 (omega arith) ∙ part_whole 512 s long)

-- and no others that fit
pub usage_only : (s : List ℕ) (n : ℕ) (us : List SegmentUse) → FitsUsage n us → s ≡ usage_sector us → us ≡ usage_of s
usage_only s n us p e = sym (usage_back n us p) ∙ ap (λ (x : List ℕ). usage_of x) (sym e)

pub use_read : (at : ℕ) (s : List ℕ) (u l a : ℕ) → u ≡ read16 at s → l ≡ read16 (at + 2) s → a ≡ read32 (at + 4) s
    → built u l a ≡ use_at at s
unfolding use_at
use_read at s u l a p q r =
    ap (λ (n : ℕ). built n l a) p ∙ ap (λ (n : ℕ). built (read16 at s) n a) q ∙ ap (λ (n : ℕ). built (read16 at s) (read16 (at + 2) s) n) r

-- the entries of a block that fits are those that are read
pub use_of : {s : List ℕ} (n : ℕ) (us : List SegmentUse) → FitsUsage n us → s ≡ usage_sector us → (i : ℕ) → i < 64
    → get_or us i no_use ≡ use_at (8 * i) s
use_of {s} n us p e i lt =
    ap (λ (vs : List SegmentUse). get_or vs i no_use) (usage_only s n us p e) ∙ get_or-run use_at 8 64 0 s i no_use lt
    ∙ ap (λ (k : ℕ). use_at k s) (omega arith)

pub use_in : (s : List ℕ) (i : ℕ) → i < 64 → get_or (usage_of s) i no_use ≡ use_at (8 * i) s
use_in s i lt = get_or-run use_at 8 64 0 s i no_use lt ∙ ap (λ (k : ℕ). use_at k s) (omega arith)
