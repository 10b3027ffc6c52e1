-- Slots that are good, with one slot more before them.
use Rattle.std.specs.Prelude.{is_some}
use Rattle.std.proofs.Common.{◌≡◌, ◌<◌, ◌≤◌, ◌+◌, ◌-◌, ◌*◌, ℕ, true, false, cond, T, List, [], ◌∷◌, ◌++◌, length, get_or, take, drop}
use Rattle.std.proofs.Common.{Option, Some, None, Vec, Global, refl, sym, ◌∙◌, ap, arith, append_assoc}
use Rattle.std.proofs.lemmas.List.{ext_get_or, get_or-drop, length-drop, take-append-drop}
use Rattle.std.specs.BTreeSet.{BTreeSet}
use Rattle.std.specs.Cmp.Lexicographic.{nat_list_cmp_total}
use Rattle.std.specs.FinMap.{find, put, is_sorted}
use Rattle.std.specs.FinMap.Entries.{length-put}
use Rattle.lfs_model.specs.Fields.{part}
use Rattle.lfs_model.specs.Slot.{SlotValue, slot_in}
use Rattle.lfs_model.specs.Tree.{Names, byte_cmp, slot_len}
use Rattle.lfs_model.specs.TreeOf.{map_of, with_slot}
use Rattle.lfs_files.specs.declared.header.Header.{Header}
use Rattle.lfs_dirs.specs.Directory.{first_slots, slots_in}
use Rattle.lfs_dirs.proofs.Scans.{next_slot, no_slots}
use Rattle.lfs_dirs.proofs.SlotNames.{sorted_names}
use Rattle.lfs_dirs.proofs.SlotPlaces.{block_slot, block_slots_many}
use Rattle.lfs_tree.specs.Naming.{AreGoodSlots, AreTables, Base, HasNames, IsTaken, NamesValue, Notes, TakesSlots, leads}
use Rattle.lfs_tree.proofs.Notings.{noted_more}

-- ---- those behind are good too
few_with : (o : Option SlotValue) (m : Names) → T (is_sorted byte_cmp m) → length (with_slot o m) ≤ length m + 1
few_with None m order = omega arith
few_with (Some s) m order =
    elim (is_some (find byte_cmp s.name m)) as (λ b. length (put byte_cmp s.name s.number m) ≡ cond b (length m) (length m + 1)
    → length (put byte_cmp s.name s.number m) ≤ length m + 1) [
      | true ↦ λ e. omega arith
      | false ↦ λ e. omega arith
    ] (length-put byte_cmp nat_list_cmp_total s.name s.number m order)

few_names : (form : ℕ) (a : List (List ℕ)) → length (map_of form a) ≤ length a
few_names form [] = omega arith
few_names form (x ∷ a) = let rest = few_names form a in
    omega (arith, few_with (slot_in form x) (map_of form a) (sorted_names form a))

module _ {form : ℕ} {headers : List (Option Header)} where
  pub good_behind : (a b : List (List ℕ)) → AreGoodSlots form headers (a ++ b) → AreGoodSlots form headers b
  good_behind [] b good = good
  good_behind (x ∷ a) b good = good_behind a b record {
    each = good.each.1;
    apart =
        let rest = few_names form (a ++ b) in
        let all = good.apart in
        omega (arith, few_with (slot_in form x) (map_of form (a ++ b)) (sorted_names form (a ++ b)));
  }

  pub good_none : AreGoodSlots form headers []
  good_none = record { each = tt; apart = refl }

-- ---- one slot more
module _ (form : ℕ) (headers : List (Option Header)) (d : ℕ) (slot : List ℕ) where
  module _ {s : SlotValue} (is : slot_in form slot ≡ Some s) where
    map_more : (behind : List (List ℕ)) → map_of form (slot ∷ behind) ≡ put byte_cmp s.name s.number (map_of form behind)
    map_more behind = cc

    long_more : (behind : List (List ℕ)) → length (map_of form (slot ∷ behind))
        ≡ cond (is_some (find byte_cmp s.name (map_of form behind))) (length (map_of form behind)) (length (map_of form behind) + 1)
    long_more behind = ap length (map_more behind)
        ∙ length-put byte_cmp nat_list_cmp_total s.name s.number (map_of form behind) (sorted_names form behind)

    pub slot_twice : {behind : List (List ℕ)} → AreGoodSlots form headers behind → (find byte_cmp s.name (map_of form behind) ≡ None → ⊥)
        → AreGoodSlots form headers (slot ∷ behind) → ⊥
    slot_twice {behind} rest found good =
        elim (find byte_cmp s.name (map_of form behind)) as (λ o. find byte_cmp s.name (map_of form behind) ≡ o
        → length (map_of form (slot ∷ behind)) ≡ cond (is_some o) (length (map_of form behind)) (length (map_of form behind) + 1) → ⊥) [
          | None ↦ λ e long. found e
          | Some n ↦ λ e long. omega arith
        ] refl (long_more behind)

    pub slot_taken : {set set' : BTreeSet (Vec ℕ Global)} {t t' : NamesValue} (base : Base) {behind : List (List ℕ)} → d < 4096
        → s.number < 4096 → (get_or headers s.number None ≡ None → ⊥) → AreTables t
        → IsTaken form headers d base behind set t → find byte_cmp s.name (map_of form behind) ≡ None
        → HasNames set' (put byte_cmp s.name s.number (map_of form behind)) → Notes t t' d s.number (leads headers s.number)
        → IsTaken form headers d base (slot ∷ behind) set' t'
    slot_taken {set'} {t} {t'} base {behind} low inside there sizes was new names notes = record {
      good = record {
        each = (record { value = s; spelt = is; there = there }, was.good.each);
        apart =
            let long = long_more behind
            ∙ ap (λ (o : Option ℕ). cond (is_some o) (length (map_of form behind)) (length (map_of form behind) + 1)) new in
            omega arith;
      };
      names = rw (map_more behind) names;
      noted = rw (map_more behind) (noted_more headers d base t t' s.name low inside sizes (sorted_names form behind) new was.noted notes);
    }

-- ---- the slots of a block, from its last on
module _ (form : ℕ) (headers : List (Option Header)) (d : ℕ) (block : List ℕ) (count : ℕ) (set : BTreeSet (Vec ℕ Global))
    (t : NamesValue) where
  pub slots_begin : TakesSlots form headers d (slots_in form block count (count - count)) set set t t true
  slots_begin base behind was = rw (no_slots form block count count (omega arith)) was

  module _ (place next : ℕ) (some : 0 < place) (le : place ≤ count) (before : next ≡ place - 1) {slot : List ℕ}
      (own : slot ≡ part (slot_len form * next) (slot_len form) block) where
    split : slots_in form block next (count - next) ≡ slot ∷ slots_in form block place (count - place)
    split =
        next_slot form block next count (omega arith)
        ∙ ap (λ (k : ℕ). part (slot_len form * next) (slot_len form) block ∷ slots_in form block k (count - k))
        (omega arith)
        ∙ ap (λ (s : List ℕ). s ∷ slots_in form block place (count - place)) (sym own)

    pub slots_go_on : (set1 set2 : BTreeSet (Vec ℕ Global)) (t1 t2 : NamesValue)
        → TakesSlots form headers d (slots_in form block place (count - place)) set set1 t t1 true
        → TakesSlots form headers d (slot ∷ []) set1 set2 t1 t2 true
        → TakesSlots form headers d (slots_in form block next (count - next)) set set2 t t2 true
    slots_go_on set1 set2 t1 t2 was one base behind taken =
        rw split (one base (slots_in form block place (count - place) ++ behind) (was base behind taken))

    dropped : drop next (first_slots form block count) ≡ slots_in form block next (count - next)
    dropped =
        let many = block_slots_many form block 0 count in
        let left = length-drop next (first_slots form block count) in
        let long : length (drop next (first_slots form block count)) ≡ length (slots_in form block next (count - next)) =
        omega (arith, block_slots_many form block next (count - next)) in
        ext_get_or [] (drop next (first_slots form block count)) (slots_in form block next (count - next)) long
        (λ k low.
        let inside : k < count - next = omega arith in
        get_or-drop next (first_slots form block count) k []
        ∙ block_slot form block 0 count (next + k) (omega arith)
        ∙ ap (λ (j : ℕ). part (slot_len form * j) (slot_len form) block) (omega arith)
        ∙ sym (block_slot form block next (count - next) k inside))

    pub slots_fail : (set1 set2 : BTreeSet (Vec ℕ Global)) (t1 t2 : NamesValue)
        → TakesSlots form headers d (slots_in form block place (count - place)) set set1 t t1 true
        → TakesSlots form headers d (slot ∷ []) set1 set2 t1 t2 false
        → TakesSlots form headers d (first_slots form block count) set set2 t t2 false
    slots_fail set1 set2 t1 t2 was one base behind taken good =
        one base (slots_in form block place (count - place) ++ behind) (was base behind taken)
        (rw (dropped ∙ split) at (good_behind (take next (first_slots form block count))
        (drop next (first_slots form block count) ++ behind)
        (rw (ap (λ (a : List (List ℕ)). a ++ behind) (sym (take-append-drop next (first_slots form block count)))
        ∙ append_assoc (take next (first_slots form block count)) (drop next (first_slots form block count)) behind) at good)))
