-- The slots of a directory, gone through from its last block on.
use Rattle.std.specs.Prelude.{min}
use Rattle.std.proofs.Common.{◌≡◌, ◌<◌, ◌≤◌, ◌+◌, ◌-◌, ◌*◌, ℕ, true, false, List, [], ◌++◌, take, drop, Option, Vec, Global}
use Rattle.std.proofs.Common.{ap, arith}
use Rattle.std.proofs.lemmas.List.{drop_all, take-append-drop}
use Rattle.std.specs.BTreeSet.{BTreeSet}
use Rattle.lfs_model.specs.Stands.{LogMap}
use Rattle.lfs_files.specs.declared.header.Header.{Header}
use Rattle.lfs_files.specs.Files.{HoldsBlock}
use Rattle.lfs_dirs.specs.Directory.{first_slots, per_block, slot_count, slots_at}
use Rattle.lfs_dirs.proofs.Searches.{block_and_rest}
use Rattle.lfs_dirs.proofs.SlotPlaces.{slots_many, slots_of_block}
use Rattle.lfs_dirs.proofs.Widths.{block_before}
use Rattle.lfs_tree.specs.Naming.{Base, HasNames, IsNoted, IsTaken, NamesValue, TakesNames, TakesSlots}
use Rattle.lfs_tree.proofs.GoodSlots.{good_behind, good_none}

module _ {headers : List (Option Header)} {d : ℕ} {base : Base} (m : LogMap) (head : Header) where
  pub blocks_begin : (index : ℕ) {set : BTreeSet (Vec ℕ Global)} {t : NamesValue} → slot_count head ≤ per_block head.form * index → IsTaken
      head.form headers d base [] set t → IsTaken head.form headers d base (drop (per_block head.form * index) (slots_at m d head)) set t
  blocks_begin index {set} {t} past was =
      rw (drop_all (per_block head.form * index) (slots_at m d head) (omega (arith, slots_many m d head))) was

  pub blocks_end : (index : ℕ) {set : BTreeSet (Vec ℕ Global)} {t : NamesValue} → index ≡ 0 → IsTaken head.form headers d base
      (drop (per_block head.form * index) (slots_at m d head)) set t → TakesNames head.form headers d base (slots_at m d head) t true
  blocks_end index {set} {t} all was =
      let none : per_block head.form * index ≡ 0 = omega (arith, ap (λ (i : ℕ). per_block head.form * i) all) in
      let whole = rw none at was in
      (whole.good, whole.noted)

  -- the block before this index is taken: `slots` are there in all, `whole` in a block, and `count` in this one
  module _ {index next count slots whole : ℕ} {block : List ℕ} (holds : HoldsBlock m d next block) (many : slots ≡ slot_count head)
      (each : whole ≡ per_block head.form) (is_least : count ≡ min (slots - whole * next) whole) (some : 0 < index)
      (before : next ≡ index - 1) (within : per_block head.form * index < slot_count head + per_block head.form)
      {set : BTreeSet (Vec ℕ Global)} (set' : BTreeSet (Vec ℕ Global)) {t : NamesValue} (t' : NamesValue)
      (was : IsTaken head.form headers d base (drop (per_block head.form * index) (slots_at m d head)) set t) where
    low : per_block head.form * next < slot_count head
    low = omega (arith, block_before head.form index some, ap (λ (i : ℕ). per_block head.form * i) before)

    parts : first_slots head.form block count ++ drop (per_block head.form * index) (slots_at m d head)
        ≡ drop (per_block head.form * next) (slots_at m d head)
    parts =
        let is : count ≡ min (slot_count head - per_block head.form * next) (per_block head.form) =
        omega (arith, ap (λ (w : ℕ). w * next) each) in
        let here : index ≡ next + 1 = omega arith in
        cc (
          slots_of_block m d head next count block holds (omega arith) (omega (arith, low)),
          block_and_rest head.form (slots_at m d head) next (slots_many m d head) is,
        )

    pub blocks_go_on : TakesSlots head.form headers d (first_slots head.form block count) set set' t t' true
        → IsTaken head.form headers d base (drop (per_block head.form * next) (slots_at m d head)) set' t'
    blocks_go_on more = rw (← parts) (more base (drop (per_block head.form * index) (slots_at m d head)) was)

    pub blocks_fail : TakesSlots head.form headers d (first_slots head.form block count) set set' t t' false
        → TakesNames head.form headers d base (slots_at m d head) t' false
    blocks_fail more good =
        more base (drop (per_block head.form * index) (slots_at m d head)) was
        (rw parts (good_behind (take (per_block head.form * next) (slots_at m d head))
        (drop (per_block head.form * next) (slots_at m d head))
        (rw (take-append-drop (per_block head.form * next) (slots_at m d head)) good)))

pub nothing_taken : (form : ℕ) {headers : List (Option Header)} {d : ℕ} {base : Base} (set : BTreeSet (Vec ℕ Global)) {t : NamesValue}
    → HasNames set [] → IsNoted headers d base [] t → IsTaken form headers d base [] set t
nothing_taken form {headers} set none was = record { good = good_none; names = none; noted = was }

pub names_none : (set : BTreeSet (Vec ℕ Global)) → set.keys ≡ [] → HasNames set []
names_none set empty q =
    cc
