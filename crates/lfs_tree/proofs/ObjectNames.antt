-- The names of a log map's objects, and those in its tree.
use Rattle.std.specs.Prelude.{unwrap_or}
use Rattle.std.proofs.Common.{◌≡◌, ◌≢◌, ◌<◌, ◌≤◌, ⊎_elim, ℕ, zero, suc, true, false, Bool, List, [], ◌∷◌, length, get_or, Option, Some}
use Rattle.std.proofs.Common.{None, refl, sym, ◌∙◌, ap, arith}
use Rattle.std.proofs.lemmas.Bool.{cases_lt}
use Rattle.std.specs.List.{AllByRecursion}
use Rattle.std.specs.FinMap.{find}
use Rattle.lfs_model.specs.declared.Kind.{Kind}
use Rattle.lfs_model.specs.declared.Kind.TheVariants as kind
use Rattle.lfs_model.specs.Checkpoint.{CheckpointValue}
use Rattle.lfs_model.specs.Content.{Content}
use Rattle.lfs_model.specs.Entry as entry
use Rattle.lfs_model.specs.Slot.{SlotValue, slot_in}
use Rattle.lfs_model.specs.Stands.{LogMap, HoldsAt}
use Rattle.lfs_model.specs.Tree.{File, byte_cmp, entry as entry_in, names_in, names_of, node}
use Rattle.lfs_model.specs.TreeOf.{AreFormed, AreSlots, map_of, node_by, node_of, slots, tree_in}
use Rattle.lfs_model.proofs.Decoding.{slot_found}
use Rattle.lfs_model.proofs.Standing.{IsHeader, headers_are}
use Rattle.lfs_model.proofs.Volume.{no_node_0, no_node_past, node_in}
use Rattle.lfs_files.specs.declared.header.Header.{Header}
use Rattle.lfs_files.specs.Headers.{as_header}
use Rattle.lfs_dirs.specs.Directory.{slots_at}
use Rattle.lfs_dirs.proofs.SlotsGive.{slot_gives}
use Rattle.lfs_tree.specs.Naming.{AreGoodSlots, Base, IsGoodSlot, IsNoted, NamesValue, TakesNames, is_directory_kind}
use Rattle.lfs_tree.specs.Objects.{IsGoodObject, TakesObject, names_at}
use Rattle.lfs_tree.specs.Reading.{TellsHeaders}

-- ---- lists
pub all_at : {X : Type 0} (P : X → Type 0) (xs : List X) (j : ℕ) (d : X) → AllByRecursion P xs → j < length xs → P (get_or xs j d)
all_at P [] j d all low = absurd (omega arith)
all_at P (x ∷ xs) zero d all low = all.0
all_at P (x ∷ xs) (suc j) d all low = all_at P xs j d all.1 (omega arith)

pub all_from : {X : Type 0} (P : X → Type 0) (xs : List X) (d : X) → ((j : ℕ) → j < length xs → P (get_or xs j d)) → AllByRecursion P xs
all_from P [] d each = tt
all_from P (x ∷ xs) d each = (each 0 (omega arith), all_from P xs d (λ j low. each (suc j) (omega arith)))

pub all_map : {X : Type 0} (P Q : X → Type 0) → ((x : X) → P x → Q x) → (xs : List X) → AllByRecursion P xs → AllByRecursion Q xs
all_map P Q f [] all = tt
all_map P Q f (x ∷ xs) all = (f x all.0, all_map P Q f xs all.1)

-- ---- headers
abbrev pub AreHeaders : LogMap → Type 0
AreHeaders m = (n : ℕ) (h : entry.Header) → m.header n ≡ Some h → IsHeader m.version n h

pub held_headers : {c : Content} {k : CheckpointValue} {m : LogMap} → HoldsAt c k m → AreHeaders m
held_headers {c} {k} {m} st n h is = rw st.version (headers_are c k m st n h is)

-- what the table says of a number
pub head_told : (m : LogMap) (headers : List (Option Header)) → TellsHeaders m headers 4096 → (n : ℕ) → n < 4096 → {head : Header}
    → get_or headers n None ≡ Some head → m.header n ≡ Some (as_header head)
head_told m headers told n low is = cc (told n low)

module _ (m : LogMap) (are : AreHeaders m) where
  outside : (n : ℕ) → (1 ≤ n → n ≤ 4095 → ⊥) → m.header n ≡ None
  outside n out = elim (m.header n) as (λ (o : Option entry.Header). m.header n ≡ o → o ≡ None) [
    | None ↦ λ e. refl
    | Some h ↦ λ e. let range = (are n h e).number in absurd (out range.0 range.1)
  ] refl

  -- number 0 is nobody's
  pub nobody : m.header 0 ≡ None
  nobody = outside 0 (λ low high. omega arith)

  -- a number's node is that of its header
  pub node_at : (n : ℕ) → node (tree_in m) n ≡ node_of m n (m.header n)
  node_at n = ⊎_elim
      (λ (none : n < 1).
      ap (node (tree_in m)) (omega arith) ∙ no_node_0 m ∙ sym (cc (outside n (λ low high. omega arith))))
      (λ (some : 1 ≤ n). ⊎_elim
      (λ (past : 4095 < n). cc (no_node_past m n (omega arith), outside n (λ low high. omega arith)))
      (λ (low : n ≤ 4095). node_in m n some low)
      (cases_lt 4095 n))
      (cases_lt n 1)

  pub names_in_is : (d : ℕ) → names_in (tree_in m) d ≡ names_at m d
  names_in_is d = cc (node_at d)

  node_header : (n : ℕ) → node (tree_in m) n ≢ None → m.header n ≢ None
  node_header n there none = there (cc (node_at n))

  header_node : (n : ℕ) → m.header n ≢ None → node (tree_in m) n ≢ None
  header_node n there none = elim (m.header n) as (λ (o : Option entry.Header). m.header n ≡ o → ⊥) [
    | None ↦ λ e. there e
    | Some h ↦ λ e. cc (node_at n)
  ] refl

  -- ---- the names of an object
  pub no_names : (n : ℕ) → m.header n ≡ None → names_at m n ≡ []
  no_names n none = cc

  names_by : (n : ℕ) (h : entry.Header) (k : Kind) → (k ≡ kind.Directory → ⊥) → names_of (node_by m k n h) ≡ []
  names_by n h kind.File other = refl
  names_by n h kind.Directory other = absurd (other refl)
  names_by n h kind.Link other = refl

  names_of_header : (n : ℕ) {h : entry.Header} → m.header n ≡ Some h → names_at m n ≡ names_of (node_by m h.kind n h)
  names_of_header n at = ap (λ (o : Option entry.Header). names_of (unwrap_or (node_of m n o) (File []))) at

  pub names_other : (n : ℕ) {h : entry.Header} → m.header n ≡ Some h → (h.kind ≡ kind.Directory → ⊥) → names_at m n ≡ []
  names_other n {h} at other = names_of_header n at ∙ names_by n h h.kind other

  pub names_directory : (n : ℕ) {h : entry.Header} → m.header n ≡ Some h → h.kind ≡ kind.Directory
      → names_at m n ≡ map_of h.form (slots m n h)
  names_directory n {h} at dir = cc (names_of_header n at)

  -- ---- the stage, and each object by itself
  module _ (headers : List (Option Header)) (told : TellsHeaders m headers 4096) where
    there_told : (n : ℕ) → n < 4096 → m.header n ≢ None → get_or headers n None ≢ None
    there_told n low there none = there (cc (told n low))

    told_there : (n : ℕ) → n < 4096 → get_or headers n None ≢ None → m.header n ≢ None
    told_there n low there none = elim (get_or headers n None) as (λ (o : Option Header). get_or headers n None ≡ o → ⊥) [
      | None ↦ λ e. there e
      | Some h ↦ λ e. cc (told n low)
    ] refl

    slot_good : AreSlots m → (n : ℕ) (h : entry.Header) → m.header n ≡ Some h → h.kind ≡ kind.Directory
        → length (map_of h.form (slots m n h)) ≡ length (slots m n h)
        → (j : ℕ) → j < length (slots m n h) → (o : Option SlotValue) → slot_in h.form (get_or (slots m n h) j []) ≡ o → o ≢ None
        → IsGoodSlot h.form headers (get_or (slots m n h) j [])
    slot_good is n h at dir distinct j low None own some = absurd (some refl)
    slot_good is n h at dir distinct j low (Some s) own some =
        let high = ((slot_found h.form (get_or (slots m n h) j []) s own).0.number).1 in
        let given : entry_in (tree_in m) n s.name ≡ Some
        s.number = cc (
          names_in_is n,
          names_directory n at dir,
          (slot_gives h.form (slots m n h) s.name s.number).1 distinct j record
              { inside = low; slot = own },
        ) in
        record {
          value = s;
          spelt = own;
          there = there_told s.number (omega arith) (node_header s.number (is.there n s.name s.number given));
        }

    pub good_if_stage : AreSlots m → (n : ℕ) → IsGoodObject m headers n
    good_if_stage is n h at dir =
        let formed = is.formed n h at dir in
        record {
          each = all_from (IsGoodSlot h.form headers) (slots m n h) [] (λ j low. slot_good is n h at dir formed.1 j low
              (slot_in h.form (get_or (slots m n h) j [])) refl (all_at (λ b. slot_in h.form b ≢ None) (slots m n h) j [] formed.0 low));
          apart = formed.1;
        }

    formed_if_good : ((n : ℕ) → n < 4096 → IsGoodObject m headers n) → AreFormed m
    formed_if_good good n h at dir =
        let high = ((are n h at).number).1 in
        let own = good n (omega arith) h at dir in (
          all_map (IsGoodSlot h.form headers) (λ b. slot_in h.form b ≢ None)
              (λ b g none. cc) (slots m n h) own.each,
          own.apart,
        )

    found_there : ((n : ℕ) → n < 4096 → IsGoodObject m headers n) → (d : ℕ) (name : List ℕ) (n : ℕ) (o : Option entry.Header)
        → m.header d ≡ o → find byte_cmp name (names_at m d) ≡ Some n → m.header n ≢ None
    found_there good d name n None is found =
        cc
    found_there good d name n (Some h) is found = by h.kind refl
      where
        other : (h.kind ≡ kind.Directory → ⊥) → m.header n ≢ None
        other kept = absurd (cc (names_other d is kept))

        by : (k : Kind) → h.kind ≡ k → m.header n ≢ None
        by kind.File e = other (λ dir. cc)
        by kind.Link e = other (λ dir. cc)
        by kind.Directory dir =
            let high = ((are d h is).number).1 in
            let at = (slot_gives h.form (slots m d h) name n).0 (cc (names_directory d is dir)) in
            let slot = all_at (IsGoodSlot h.form headers) (slots m d h) at.0 [] (good d (omega arith) h is dir).each at.1.inside in
            let same : slot.value.number ≡ n = cc in
            let number = (slot_found h.form (get_or (slots m d h) at.0 []) slot.value slot.spelt).0.number in
            let most = number.1 in
            rw (← same) (told_there slot.value.number (omega arith) slot.there)

    pub stage_if_good : ((n : ℕ) → n < 4096 → IsGoodObject m headers n) → AreSlots m
    stage_if_good good = record {
      formed = formed_if_good good;
      there = λ d name n given.
          header_node n (found_there good d name n (m.header d) refl (cc (names_in_is d)));
    }

    -- ---- one object
    module _ (n : ℕ) (low : n < 4096) (base : Base) (t : NamesValue) where
      module _ {head : Header} (is : get_or headers n None ≡ Some head) where
        at_head : m.header n ≡ Some (as_header head)
        at_head = head_told m headers told n low is

        kind_dir : (k : Kind) → is_directory_kind k ≡ true → k ≡ kind.Directory
        kind_dir kind.File e = cc
        kind_dir kind.Directory e = refl
        kind_dir kind.Link e = cc

        good_slots : AreGoodSlots head.form headers (slots_at m n head) → IsGoodObject m headers n
        good_slots good h at dir =
            let both : Some (as_header head) ≡ Some h = sym at_head ∙ at in
            let same : as_header head ≡ h = cc in
            rw (← same) good

        pub object_directory : (r : Bool) → is_directory_kind head.kind ≡ true → TakesNames head.form headers n base (slots_at m n head) t r
            → TakesObject m headers n base t r
        object_directory true dir taken = (
          good_slots taken.0,
          rw (names_directory n at_head (kind_dir head.kind dir)) taken.1,
        )
        object_directory false dir taken = λ good. taken (good (as_header head) at_head (kind_dir head.kind dir))

        other_kind : is_directory_kind head.kind ≡ false → head.kind ≡ kind.Directory → ⊥
        other_kind apart dir = cc

        pub object_other : is_directory_kind head.kind ≡ false → IsNoted headers n base [] t
            → IsGoodObject m headers n × IsNoted headers n base (names_at m n) t
        object_other apart was = (
          λ h at dir. (let both : Some (as_header head) ≡ Some h = sym at_head ∙ at in absurd (other_kind apart (cc))),
          rw (names_other n at_head (other_kind apart)) was,
        )
