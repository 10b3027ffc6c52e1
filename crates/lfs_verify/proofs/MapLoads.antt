-- What a mount takes in of the inode map.
use Rattle.std.proofs.Common.{◌≡◌, ◌<◌, ◌≤◌, ◌+◌, ◌*◌, ℕ, Bool, false, List, length, get_or, refl, sym, ◌∙◌, ap, subst, arith}
use Rattle.std.proofs.Common.{below_more}
use Rattle.lfs_model.specs.Checkpoint.{CheckpointValue}
use Rattle.lfs_model.specs.Content.{Content, block}
use Rattle.std.specs.List.{AllByRecursion}
use Rattle.lfs_model.specs.Device.{DeviceState, IsSector}
use Rattle.lfs_model.proofs.Decodes.{are_sized, long}
use Rattle.lfs_model.specs.Entry.{Map, word}
use Rattle.lfs_model.specs.Pointers.{FitsPointers, pointer_sector}
use Rattle.lfs_model.specs.Reach.{address, map_block}
use Rattle.lfs_model.specs.Running.{IsSet}
use Rattle.lfs_model.specs.Stands.{LogMap, HoldsAt}
use Rattle.lfs_model.proofs.Encodes.{word_nil}
use Rattle.lfs_model.proofs.Words.{pointers_are}
use Rattle.lfs_inodes.specs.MapValue.{MapValue, IsLoaded, address_in, block_in}
use Rattle.lfs_verify.specs.Faults.{LacksBlock, LacksTables}
use Rattle.lfs_verify.specs.Loading.{IsMapUpTo, SaysMap}

pub says_no_map : (c : Content) (k : CheckpointValue) (map : MapValue) → SaysMap c k 0 map
says_no_map c k map = record { addresses = λ i l lt low. absurd (omega (arith, lt)); blocks = λ i lt. absurd (omega (arith, lt)) }

-- a block that isn't stored
module _ {j : ℕ} {map : MapValue} (is : IsMapUpTo j map) where
  pub says_skipped : {c : Content} {k : CheckpointValue} → get_or k.map j 0 ≡ 0 → SaysMap c k j map → SaysMap c k (j + 1) map
  says_skipped {c} {k} none says = record {
    addresses = λ i l lt low. below_more (λ i. address_in map (128 * i + l) ≡ word (map_block c k i) l) j
        (λ i before. says.addresses i l before low)
        (is.past (128 * j + l) (omega arith) ∙ sym (ap (λ (a : ℕ). word (block c a) l) none ∙ word_nil l)) i lt;
    blocks = below_more _ _ says.blocks (is.none j (omega arith) ∙ sym none);
  }

-- one that is
module _ {j at : ℕ} {map mid : MapValue} (new : MapValue) {addresses : List ℕ} (is : IsMapUpTo j map)
    (loaded : IsLoaded map mid j addresses)
    (set : IsSet (block_in mid) (block_in new) j at)
    (same : new.addresses ≡ mid.addresses) (kept : new.hidden ≡ mid.hidden) where
  address_same : (n : ℕ) → address_in new n ≡ address_in mid n
  address_same n = ap (λ (l : List ℕ). get_or l n 0) same

  block_same : (i : ℕ) → (i ≡ j → ⊥) → block_in new i ≡ block_in map i
  block_same i ne = set.others i ne ∙ ap (λ (l : List ℕ). get_or l i 0) loaded.blocks

  pub map_more : IsMapUpTo (j + 1) new
  map_more = record {
    hidden = λ n. ap (λ (l : List Bool). get_or l n false) (kept ∙ loaded.hidden) ∙ is.hidden n;
    none = λ i le. block_same i (λ h. omega (arith, h, le)) ∙ is.none i (omega (arith, le));
    past = λ n le. address_same n ∙ loaded.past n (omega (arith, le)) ∙ is.past n (omega (arith, le));
  }

  pub says_map_more : {c : Content} {k : CheckpointValue} (bytes : List ℕ) → block c at ≡ bytes → get_or k.map j 0 ≡ at
      → FitsPointers addresses → bytes ≡ pointer_sector addresses
      → SaysMap c k j map → SaysMap c k (j + 1) new
  says_map_more {c} {k} bytes there points fits spelt says = record {
    addresses = λ i l lt low. below_more (λ i. address_in new (128 * i + l) ≡ word (map_block c k i) l) j
        (λ i before. address_same (128 * i + l) ∙ loaded.before (128 * i + l) (omega (arith, before, low)) ∙ says.addresses i l before low)
        (address_same (128 * j + l) ∙ loaded.own l low ∙ sym (pointers_are bytes addresses fits spelt l low)
        ∙ ap (λ (b : List ℕ). word b l) (sym (ap (block c) points ∙ there))) i lt;
    blocks = below_more _ _ (λ i lt. block_same i (λ h. omega (arith, h, lt)) ∙ says.blocks i lt) (set.own ∙ sym points);
  }

-- ---- where the content holds a log map, its inode map can be read
module _ {c : Content} (k : CheckpointValue) (m : LogMap) (st : HoldsAt c k m) (j : ℕ) (some : 0 < get_or k.map j 0) where
  pub map_range : (2 ≤ get_or k.map j 0) × (get_or k.map j 0 < 2 + 64 * k.segments)
  unfolding address
  map_range = let f = st.stages.maps.fresh (Map j) refl some in (f.0, f.1)

  pub map_long : AllByRecursion IsSector c → length (block c (get_or k.map j 0)) ≡ 512
  unfolding address
  map_long all = long c k m (are_sized c all) st (Map j) some

pub map_fault : (d d' : DeviceState) (k : CheckpointValue) (j : ℕ) {at : ℕ} → AllByRecursion IsSector d.content → get_or k.map j 0 ≡ at
    → (at ≡ 0 → ⊥) → LacksBlock d d' k.segments at → LacksTables d d' k
map_fault d d' k j all points some lacks m keeps st =
    let stored : 0 < get_or k.map j 0 = omega (arith, points, some) in
    let range = map_range k m st j stored in
    lacks keeps (subst (λ (a : ℕ). 2 ≤ a) points range.0) (subst (λ (a : ℕ). a < 2 + 64 * k.segments) points range.1)
    (subst (λ (a : ℕ). length (block d.content a) ≡ 512) points (map_long k m st j stored all))
