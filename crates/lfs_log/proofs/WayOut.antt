-- Segments from which all that lived there went elsewhere: the steps of that, one behind the other.
use Rattle.std.proofs.Common.{◌≡◌, ◌<◌, ◌≤◌, ◌⊎◌, ⊎_elim, ℕ, List, [], ◌∷◌, get_or, sym, ◌∙◌, subst, arith, inl, inr}
use Rattle.std.specs.Prelude.{IsPermutation}
use Rattle.std.proofs.lemmas.Bool.{cases_eq, cases_lt}
use Rattle.lfs_model.specs.Checkpoint.{CheckpointValue}
use Rattle.lfs_model.specs.Counting.{segment_of}
use Rattle.lfs_model.specs.Device.{DeviceState}
use Rattle.lfs_model.specs.Entry.{Entry}
use Rattle.lfs_model.specs.Members.{IsIn}
use Rattle.lfs_model.specs.Memory.{Memory}
use Rattle.lfs_model.specs.Running.{IsTight}
use Rattle.lfs_model.specs.Stands.{LogMap}
use Rattle.lfs_model.proofs.EmptySegment.{empty_segment}
use Rattle.lfs_memory.specs.inodes.Blocks.{TableValue, blocks_of}
use Rattle.lfs_memory.specs.inodes.declared.key.BlockKey.{BlockKey}
use Rattle.lfs_memory.specs.declared.memory.LogMemory.{LogMemory}
use Rattle.lfs_memory.specs.Lifting.{HasTraces}
use Rattle.lfs_memory.specs.Memory.{IsLog}
use Rattle.lfs_memory.specs.Moving.{HoldsOn}
use Rattle.lfs_log.specs.Brought.{AreAllOut, IsOut, OutNumber}
use Rattle.lfs_log.specs.Cleaning.{AreCleanable, AreEmptied}
use Rattle.lfs_log.specs.Collecting.{AreAllListed, ListsAll}
use Rattle.lfs_log.specs.Moving.{MovesAll}
use Rattle.lfs_log.specs.Relocating.{IsAmong}
use Rattle.lfs_log.proofs.CameIn.{in_list, stood_before}
use Rattle.lfs_log.proofs.Collected.{listed_holds, listed_sorted}
use Rattle.lfs_log.proofs.Movings.{loose_of}

in_or_not : (vs : List ℕ) (s : ℕ) → IsIn vs s ⊎ (IsIn vs s → ⊥)
in_or_not [] s = inr (λ is. is)
in_or_not (v ∷ vs) s = ⊎_elim
    (λ (here : s ≡ v). inl (inl here))
    (λ (other : s ≡ v → ⊥). ⊎_elim
    (λ (later : IsIn vs s). inl (inr later))
    (λ (none : IsIn vs s → ⊥). inr (λ is. ⊎_elim (λ (here : s ≡ v). other here) (λ (later : IsIn vs s). none later) is))
    (in_or_not vs s))
    (cases_eq s v)

-- what is listed before
abbrev pub Listed : List ℕ → List BlockKey → Memory → Memory → Type 0
Listed vs keys M M' = HasTraces M M' × AreAllListed vs keys M'

pub lists_on : (d d' : DeviceState) (v v' : LogMemory) (vs : List ℕ) (keys keys' : List BlockKey) → ListsAll d d' v v' vs keys
    → IsPermutation keys keys' → v'.dirty ≡ v.dirty → HoldsOn d d' v v' (Listed vs keys')
unfolding loose_of
lists_on d d' v v' vs keys keys' lists moved dirty k m0 m keeps is =
    let there = lists k m0 m keeps (loose_of is) in
    let after : IsLog d' v' k m0 m = record {
      running = there.0.running;
      hidden = there.0.hidden;
      segments = there.0.segments;
      unit = there.0.unit;
      tight = subst (λ (t : TableValue). IsTight (blocks_of t)) (sym dirty) is.tight;
    } in
    (after, (there.1, λ y up among. listed_sorted moved (there.2 y up among)))

-- those of these keys are out then, and so are all
pub all_out : (vs : List ℕ) (keys : List BlockKey) (M M' M'' : Memory) → Listed vs keys M M' → MovesAll vs keys M' M'' → AreAllOut vs M M''
all_out vs keys M M' M'' r go x = ⊎_elim
    (λ (low : M'.at x < 2). go.out x (λ up among. absurd (omega (arith, low, up))))
    (λ (up : 2 ≤ M'.at x). ⊎_elim
    (λ (among : IsIn vs (segment_of (M'.at x))). listed_holds (IsOut vs M'') keys go.each (r.1 x up among))
    (λ (outside : IsIn vs (segment_of (M'.at x)) → ⊥). go.out x (λ up among. outside among))
    (in_or_not vs (segment_of (M'.at x))))
    (cases_lt (M'.at x) 2)

pub out_before : (vs : List ℕ) (most : ℕ) (M M' : Memory) → HasTraces M M' → OutNumber vs most M' → OutNumber vs most M
out_before vs most M M' traces one = record {
  blocks = one.blocks;
  counted = one.counted;
  apart = one.apart;
  files = one.files;
  stood = λ x is. stood_before (IsAmong vs) M M' x traces (one.stood x is);
}

-- ---- nothing lives there
pub emptied_out : {d : DeviceState} (v : LogMemory) {k : CheckpointValue} {m0 m : LogMap} (is : IsLog d v k m0 m) (vs : List ℕ)
    → AreCleanable v.usage vs → ((x : Entry) → IsOut vs is.running.memory x) → AreEmptied v.usage vs
emptied_out v {m = m} is vs cleanable out i lt =
    let s = get_or vs i 0 in
    let was = cleanable i lt in
    let empty = empty_segment _ m is.running.memory _ s is.running.laid
    (λ x up same. out x up (rw same (in_list vs i lt))) in
    record {
      used = was.used;
      before = was.before;
      live = is.running.tables.live s ∙ empty.0;
      held = is.running.tables.held s ∙ empty.1;
    }
