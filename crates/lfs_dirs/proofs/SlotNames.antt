-- The names that slots give: what the first slot says of a name counts.
use Rattle.std.specs.Prelude.{is_some}
use Rattle.std.proofs.Common.{◌≡◌, ◌≢◌, ◌+◌, ℕ, true, false, cond, T, List, [], ◌∷◌, ◌++◌, length, Option, Some, None, refl, sym, ◌∙◌, ap}
use Rattle.std.proofs.Common.{arith}
use Rattle.std.proofs.lemmas.List.{length-append}
use Rattle.std.specs.List.{AllByRecursion}
use Rattle.std.specs.Ordering.{eq_by_cmp, is_eq}
use Rattle.std.specs.declared.cmp.Ordering.{Ordering}
use Rattle.std.specs.declared.cmp.Ordering.TheVariants.{Less, Equal, Greater}
use Rattle.std.specs.Cmp.{tied_itself}
use Rattle.std.specs.Cmp.Lexicographic.{nat_list_cmp_total}
use Rattle.std.specs.FinMap.{find, put, is_sorted, nat_cmp-IsAntisymmetric, slice_cmp-IsAntisymmetric}
use Rattle.std.specs.FinMap.Entries.{is_sorted-put, find-put, length-put, same_entries}
use Rattle.lfs_model.specs.Slot.{SlotValue, FitsSlot, slot_bytes, slot_in}
use Rattle.lfs_model.specs.Tree.{Names, byte_cmp}
use Rattle.lfs_model.specs.TreeOf.{map_of, with_slot}
use Rattle.lfs_model.proofs.Decoding.{slot_some}
use Rattle.lfs_dirs.specs.Directory.{FirstGives, SlotAppended}

-- ---- names that are the same bytes
equal_order : (r : Ordering) → is_eq r ≡ true → r ≡ Equal
equal_order Less e = cc
equal_order Equal e = refl
equal_order Greater e = cc

pub tied : (x y : List ℕ) → eq_by_cmp byte_cmp x y ≡ true → x ≡ y
tied x y e = slice_cmp-IsAntisymmetric nat_cmp-IsAntisymmetric x y (equal_order (byte_cmp x y) e)

pub ties : {x y : List ℕ} → x ≡ y → eq_by_cmp byte_cmp x y ≡ true
ties {x} e = rw (← e) (ap is_eq (tied_itself nat_list_cmp_total x))

pub apart : (x y : List ℕ) → x ≢ y → eq_by_cmp byte_cmp x y ≡ false
apart x y ne = elim (eq_by_cmp byte_cmp x y) as (λ b. eq_by_cmp byte_cmp x y ≡ b → b ≡ false)
    [ true ↦ λ e. absurd (ne (tied x y e)) | false ↦ λ e. refl ] refl

-- ---- one slot before others
found_with : (name : List ℕ) (s : SlotValue) (m : Names)
    → find byte_cmp name (with_slot (Some s) m) ≡ cond (eq_by_cmp byte_cmp name s.name) (Some s.number) (find byte_cmp name m)
found_with name s m = find-put byte_cmp nat_list_cmp_total name s.name s.number m

pub found_first : {name : List ℕ} (s : SlotValue) {o : Option SlotValue} (m : Names) → o ≡ Some s → name ≡ s.name
    → find byte_cmp name (with_slot o m) ≡ Some s.number
found_first {name} s m is same =
    cc (found_with name s m, ties same)

pub found_behind : (name : List ℕ) (s : SlotValue) {o : Option SlotValue} (m : Names) → o ≡ Some s → name ≢ s.name
    → find byte_cmp name (with_slot o m) ≡ find byte_cmp name m
found_behind name s m is other =
    cc (found_with name s m, apart name s.name other)

-- bytes that spell no slot give no name
pub found_past : (name : List ℕ) (o : Option SlotValue) (m : Names) → ((s : SlotValue) → o ≡ Some s → name ≢ s.name)
    → find byte_cmp name (with_slot o m) ≡ find byte_cmp name m
found_past name None m other = refl
found_past name (Some s) m other = found_behind name s {o = Some s} m refl (other s refl)

-- ---- slots behind others
first_some : (o : Option SlotValue) (m m' : Names) (name : List ℕ) (n : ℕ) → (find byte_cmp name m ≡ Some n
    → find byte_cmp name m' ≡ Some n) → find byte_cmp name (with_slot o m) ≡ Some n → find byte_cmp name (with_slot o m') ≡ Some n
first_some None m m' name n go is = go is
first_some (Some s) m m' name n go is =
    found_with name s m' ∙ (elim (eq_by_cmp byte_cmp name s.name)
    as (λ b. cond b (Some s.number) (find byte_cmp name m) ≡ Some n → cond b (Some s.number) (find byte_cmp name m') ≡ Some n) [
      | true ↦ λ e. e
      | false ↦ λ e. go e
    ] (sym (found_with name s m) ∙ is))

first_none : (o : Option SlotValue) (m m' w : Names) (name : List ℕ) → (find byte_cmp name m ≡ None → find byte_cmp name m'
    ≡ find byte_cmp name w) → find byte_cmp name (with_slot o m) ≡ None → find byte_cmp name (with_slot o m') ≡ find byte_cmp name w
first_none None m m' w name go is = go is
first_none (Some s) m m' w name go is =
    found_with name s m' ∙ (elim (eq_by_cmp byte_cmp name s.name) as (λ b. cond b (Some s.number) (find byte_cmp name m) ≡ None
    → cond b (Some s.number) (find byte_cmp name m') ≡ find byte_cmp name w) [
      | true ↦ λ e. cc
      | false ↦ λ e. go e
    ] (sym (found_with name s m) ∙ is))

module _ (form : ℕ) where
  pub gives_some : (a b : List (List ℕ)) (name : List ℕ) (n : ℕ) → find byte_cmp name (map_of form a) ≡ Some n
      → find byte_cmp name (map_of form (a ++ b)) ≡ Some n
  gives_some [] b name n is = cc
  gives_some (x ∷ a) b name n is = first_some (slot_in form x) (map_of form a) (map_of form (a ++ b)) name n (gives_some a b name n) is

  pub gives_none : (a b : List (List ℕ)) (name : List ℕ) → find byte_cmp name (map_of form a) ≡ None
      → find byte_cmp name (map_of form (a ++ b)) ≡ find byte_cmp name (map_of form b)
  gives_none [] b name is = refl
  gives_none (x ∷ a) b name is =
      first_none (slot_in form x) (map_of form a) (map_of form (a ++ b)) (map_of form b) name (gives_none a b name) is

  -- ---- the names are in order
  sorted_slot : (o : Option SlotValue) (m : Names) → T (is_sorted byte_cmp m) → T (is_sorted byte_cmp (with_slot o m))
  sorted_slot None m h = h
  sorted_slot (Some s) m h = is_sorted-put byte_cmp nat_list_cmp_total s.name s.number m h

  pub sorted_names : (a : List (List ℕ)) → T (is_sorted byte_cmp (map_of form a))
  sorted_names [] = tt
  sorted_names (x ∷ a) = sorted_slot (slot_in form x) (map_of form a) (sorted_names a)

  -- names that answer alike are the same
  pub same_names : {m m' : Names} → T (is_sorted byte_cmp m) → T (is_sorted byte_cmp m')
      → ((name : List ℕ) → find byte_cmp name m ≡ find byte_cmp name m') → m ≡ m'
  same_names {m} {m'} order order' same =
      same_entries byte_cmp nat_list_cmp_total (slice_cmp-IsAntisymmetric nat_cmp-IsAntisymmetric) m m' order order' same

  -- ---- a slot behind the others
  module _ (s : SlotValue) (fits : FitsSlot form s) where
    spelt : slot_in form (slot_bytes form s) ≡ Some s
    spelt = slot_some form (slot_bytes form s) fits refl

    alone : (name : List ℕ)
        → find byte_cmp name (map_of form (slot_bytes form s ∷ [])) ≡ cond (eq_by_cmp byte_cmp name s.name) (Some s.number) None
    alone name = cc (spelt, found_with name s [])

    behind : (a : List (List ℕ)) → find byte_cmp s.name (map_of form a) ≡ None → (name : List ℕ)
        → find byte_cmp name (map_of form (a ++ slot_bytes form s ∷ [])) ≡ find byte_cmp name (put byte_cmp s.name s.number (map_of form a))
    behind a new name =
        elim (find byte_cmp name (map_of form a))
        as (λ (o : Option ℕ). find byte_cmp name (map_of form a) ≡ o → find byte_cmp name (map_of form (a ++ slot_bytes form s ∷ []))
        ≡ cond (eq_by_cmp byte_cmp name s.name) (Some s.number) (find byte_cmp name (map_of form a))) [
          | None ↦ λ none. cc (gives_none a (slot_bytes form s ∷ []) name none, alone name)
          | Some n ↦ λ some.
              cc (gives_some a (slot_bytes form s ∷ []) name n some, apart name s.name (λ e. cc))
        ] refl ∙ sym (found_with name s (map_of form a))

    pub appended : (a : List (List ℕ)) → find byte_cmp s.name (map_of form a) ≡ None
        → map_of form (a ++ slot_bytes form s ∷ []) ≡ put byte_cmp s.name s.number (map_of form a)
    appended a new =
        same_names (sorted_names (a ++ slot_bytes form s ∷ []))
        (is_sorted-put byte_cmp nat_list_cmp_total s.name s.number (map_of form a) (sorted_names a)) (behind a new)

    -- no two slots have one name then either
    pub appended_apart : (a : List (List ℕ)) → find byte_cmp s.name (map_of form a) ≡ None → length (map_of form a) ≡ length a
        → length (map_of form (a ++ slot_bytes form s ∷ [])) ≡ length (a ++ slot_bytes form s ∷ [])
    appended_apart a new same =
        let one = ap length (appended a new) ∙ length-put byte_cmp nat_list_cmp_total s.name s.number (map_of form a) (sorted_names a)
        ∙ ap (λ (o : Option ℕ). cond (is_some o) (length (map_of form a)) (length (map_of form a) + 1)) new in
        omega (arith, length-append a (slot_bytes form s ∷ []))

    pub appended_formed : (a : List (List ℕ)) → AllByRecursion (λ b. slot_in form b ≢ None) a
        → AllByRecursion (λ b. slot_in form b ≢ None) (a ++ slot_bytes form s ∷ [])
    appended_formed [] formed = (λ none. cc spelt, tt)
    appended_formed (x ∷ a) formed = (formed.0, appended_formed a formed.1)

pub slot_appended : SlotAppended
slot_appended form a s fits new = appended form s fits a new

pub first_gives : FirstGives
first_gives form a b name = (gives_some form a b name, gives_none form a b name)
