-- What a device that holds a log map answers to reads.
use Rattle.std.proofs.Common.{◌≡◌, ◌<◌, ⊎_elim, ◌+◌, ◌-◌, ◌/◌, ◌%◌, ℕ, zero, suc, nat_lt, cond, List, [], length, replicate, Option, Some}
use Rattle.std.proofs.Common.{None, refl, sym, ◌∙◌, ap, arith}
use Rattle.std.proofs.lemmas.Bool.{cases_eq, cond-false}
use Rattle.std.proofs.lemmas.List.{get_or-set_other, get_or-set_same, length-replicate}
use Rattle.std.proofs.Common.{set}
use Rattle.std.specs.Option.{option_map}
use Rattle.lfs_model.specs.Checkpoint.{CheckpointValue}
use Rattle.lfs_model.specs.Content.{Content, block, bytes_of}
use Rattle.lfs_model.specs.Device.{DeviceState, IsLawful, cell_at}
use Rattle.lfs_model.specs.Entry.{Entry, Data, Leaf, Double, Inode, word}
use Rattle.lfs_model.specs.Reach.{address, view}
use Rattle.lfs_model.specs.Stands.{HoldsAt, LogMap}
use Rattle.lfs_model.proofs.Decodes
use Rattle.lfs_model.proofs.Decodes.{header_at, reached_within}
use Rattle.lfs_model.proofs.Moments.{goes_on, started}
use Rattle.lfs_model.proofs.ObjectBytes.{get_or-zeros}
use Rattle.lfs_files.specs.declared.header.Header.{Header}
use Rattle.lfs_files.specs.Files.{HoldsBlock}
use Rattle.lfs_files.specs.Headers.{as_header}
use Rattle.lfs_files.specs.Looking as files
use Rattle.lfs_inodes.specs.MapValue.{MapValue}
use Rattle.lfs_inodes.specs.Pointed.{data_in, leaf_in, IsLost, IsLeafLost, IsDataLost}
use Rattle.lfs_verify.specs.Take.{Looks, ReadsContent}
use Rattle.lfs_verify.proofs.Takes.{block_at}
use Rattle.lfs_tree.specs.Reading.{Sees, Leads, IsInodeOf, TellsHeaders}

-- ---- calls that only read

pub looks_call : {a b : DeviceState} → IsLawful a → files.Looks a b → Looks a b
looks_call {a} {b} lawful looks = record {
  carries = looks.carries;
  untouched = looks.untouched;
  any_moment = goes_on a.may_leave (started a.may_leave lawful (λ c left. left)) looks.carries looks.time looks.untouched.crash;
  told = looks.told;
}

pub reads_of : {a b : DeviceState} {k : CheckpointValue} {m : LogMap} → Sees a b k m → ReadsContent a b a.content
reads_of sees = record { content = refl; keeps = sees.keeps }

-- a run that sees a log map begins with one that sees it, and goes on with one
pub sees_first : {a b c : DeviceState} {k : CheckpointValue} {m : LogMap} → Sees a c k m → Looks b c → Sees a b k m
sees_first sees looks = record { keeps = looks.carries.kept_before sees.keeps; holds = sees.holds; sized = sees.sized }

pub sees_then : {a b c : DeviceState} {k : CheckpointValue} {m : LogMap} → Sees a c k m → Looks a b → Sees b c k m
sees_then {k} {m} sees looks =
    let same = sym looks.untouched.content in
    record {
      keeps = sees.keeps;
      holds = rw (← same) sees.holds;
      sized = rw (← same) sees.sized;
    }

pub leads_then : {a b : DeviceState} {k : CheckpointValue} {map : MapValue} → Leads a.content k map → Looks a b → Leads b.content k map
leads_then {k} {map} leads looks = rw looks.untouched.content leads

pub inode_then : {a b : DeviceState} (k : CheckpointValue) (n : ℕ) {bytes : List ℕ}
    → bytes ≡ block a.content (address a.content k (Inode n)) → Looks a b → bytes ≡ block b.content (address b.content k (Inode n))
inode_then k n is looks = cc

-- ---- what is there
module _ {c : Content} {k : CheckpointValue} {m : LogMap}
    (sized : (at : ℕ) (bytes : List ℕ) → cell_at c at ≡ Some bytes → length bytes ≡ 512) (st : HoldsAt c k m) where
  pub is_long : (e : Entry) {at : ℕ} → at ≡ address c k e → 0 < at → 0 < length (block c at)
  is_long e is some =
      let same = ap (λ (x : ℕ). length (block c x)) is in
      omega (arith, Decodes.long c k m sized st e (omega arith))

  pub is_inside : (e : Entry) {at : ℕ} → at ≡ address c k e → 0 < at → at < length c
  is_inside e is some =
      let high = (reached_within (view c k) st.stages e (omega arith)).1 in
      omega arith

  pub not_lost : (e : Entry) {at : ℕ} → at ≡ address c k e → IsLost c at → ⊥
  not_lost e {at} is lost =
      let some = lost.some in
      let none = ap length (block_at c at some ∙ ap bytes_of lost.lost) in
      omega (arith, is_long e is some)

  pub inode_there : {n at : ℕ} {bytes : List ℕ} → at ≡ address c k (Inode n) → 0 < at → block c at ≡ bytes → IsInodeOf c k m n bytes
  inode_there {n} {bytes} is some own =
      record {
        header = cc (header_at c k m sized st n (omega arith));
        block = cc;
      }

  pub inode_not : {n at : ℕ} → at ≡ address c k (Inode n) → at ≡ 0 → m.header n ≡ None
  inode_not {n} is none =
      let at = sym is ∙ none in
      st.header n ∙ cond-false (nat_lt 0 ((view c k).address (Inode n))) _ None (ap (nat_lt 0) at)

  -- ---- blocks
  module _ (n : ℕ) {bytes : List ℕ} (is : bytes ≡ block c (address c k (Inode n))) where
    leaf_is : (q : ℕ) → leaf_in c bytes q ≡ address c k (Leaf n q)
    unfolding address
    leaf_is zero = cc
    leaf_is (suc q) = cc

    double_is : word bytes 121 ≡ address c k (Double n)
    unfolding address
    double_is = cc

    data_by : (i : ℕ) {leaf : ℕ} → leaf ≡ address c k (Leaf n ((i - 112) / 128))
        → cond (nat_lt i 112) (word bytes (8 + i)) (word (block c leaf) ((i - 112) % 128)) ≡ address c k (Data n i)
    unfolding address
    data_by i at = cc

    pub data_is : (i : ℕ) → data_in c bytes i ≡ address c k (Data n i)
    data_is i = data_by i (leaf_is ((i - 112) / 128))

    pub data_not_lost : (i : ℕ) → IsDataLost c bytes i → ⊥
    data_not_lost i lost = ⊎_elim
        (λ (double : IsLeafLost c bytes ((i - 112) / 128)). not_lost (Double n) double_is double.1)
        (λ (leaf : IsLost c (leaf_in c bytes ((i - 112) / 128))). not_lost (Leaf n ((i - 112) / 128)) (leaf_is ((i - 112) / 128)) leaf)
        lost.1

  pub block_there : (n : ℕ) {i at : ℕ} {bytes : List ℕ} → at ≡ address c k (Data n i) → 0 < at → block c at ≡ bytes → HoldsBlock m n i bytes
  block_there n {i} {bytes} is some own =
      record {
        long = cc (Decodes.long c k m sized st (Data n i) (omega arith));
        bytes = λ p. cc (st.block n i);
      }

  pub block_not : (n : ℕ) {i at : ℕ} (bytes : List ℕ) → at ≡ address c k (Data n i) → at ≡ 0 → bytes ≡ replicate 512 0
      → HoldsBlock m n i bytes
  block_not n {i} bytes is none zeros =
      let gone : m.block n i ≡ [] = cc (st.block n i) in
      record {
        long = ap length zeros ∙ (let nought : ℕ = 0 in length-replicate 512 nought);
        bytes = λ p. cc (get_or-zeros 512 p);
      }

-- ---- headers by number
pub told_next : (m : LogMap) (hs : List (Option Header)) (i : ℕ) (found : Option Header) → i < length hs → TellsHeaders m hs i
    → m.header i ≡ option_map as_header found → TellsHeaders m (set hs i found) (i + 1)
told_next m hs i found inside was own n low = ⊎_elim
    (λ (here : n ≡ i). cc (get_or-set_same hs i found None inside))
    (λ (other : n ≡ i → ⊥). cc (was n (omega arith), get_or-set_other hs i n found None other))
    (cases_eq n i)
