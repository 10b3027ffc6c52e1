-- Entries in the order of their names, and the map that they give.
use Rattle.std.specs.Prelude.{is_some}
use Rattle.std.proofs.Common.{◌≡◌, ◌++◌, ◌&&◌, ◌||◌, not, cond, ℕ, Bool, true, false, T, List, [], ◌∷◌, filter, Option, Some, None, refl}
use Rattle.std.proofs.Common.{sym, ◌∙◌, ap, IsPermutation, IsSortedBy}
use Rattle.std.proofs.lemmas.Bool.{false≢true}
use Rattle.std.proofs.lemmas.List.{reverse-append}
use Rattle.std.proofs.lemmas.List.Kept.{IsStrictlySortedBy-dedup}
use Rattle.std.proofs.lemmas.List.Sorted.{list_any-IsPermutation}
use Rattle.std.proofs.lemmas.Slice.Eq.{bytes_eq-Decides}
use Rattle.std.specs.List.{AllByRecursion, dedup, dedup_from, list_any}
use Rattle.std.specs.List.Sorted.{IsStableBy, IsStrictlySortedBy, ties as are_tied}
use Rattle.std.specs.Ordering.{eq_by_cmp, is_eq, is_lt, ordering_reverse}
use Rattle.std.specs.Str.{bytes_eq}
use Rattle.std.specs.declared.cmp.Ordering.{Ordering}
use Rattle.std.specs.declared.cmp.Ordering.TheVariants.{Less, Equal, Greater}
use Rattle.std.specs.Cmp.{IsTotalOrder, on_total}
use Rattle.std.specs.Cmp.Lexicographic.{nat_list_cmp_total}
use Rattle.std.specs.FinMap.{find, put, is_sorted, nat_cmp-IsAntisymmetric, slice_cmp-IsAntisymmetric}
use Rattle.std.specs.FinMap.Entries.{below_all, is_sorted-put, find-put, same_entries}
use Rattle.lfs_model.specs.Tree.{byte_cmp}
use Rattle.lfs_dirs.specs.declared.entry.Entry.{Entry}
use Rattle.lfs_dirs.specs.Listing.{first_of_each, gathered, pairs}
use Rattle.lfs_dirs.proofs.SlotNames.{tied, ties, apart}

-- ---- an entry more
pub gathered_push : (es : List Entry) (e : Entry) → gathered (es ++ e ∷ []) ≡ put byte_cmp e.name.items e.number.value (gathered es)
gathered_push es e = cc (reverse-append es (e ∷ []))

-- ---- the order of entries
abbrev pub by_name : Entry → Entry → Ordering
by_name x y = byte_cmp x.name.items y.name.items

abbrev pub comes_before : Entry → Entry → Bool
comes_before x y = is_lt (by_name x y)

abbrev pub same_name : Entry → Entry → Bool
same_name x y = bytes_eq x.name.items y.name.items

name_order : IsTotalOrder by_name
name_order = on_total (λ (e : Entry). e.name.items) nat_list_cmp_total

same_is_tied : (x y : Entry) → same_name x y ≡ eq_by_cmp by_name x y
same_is_tied x y = elim (same_name x y) as (λ b. same_name x y ≡ b → b ≡ eq_by_cmp byte_cmp x.name.items y.name.items) [
  | true ↦ λ e. sym (ties ((bytes_eq-Decides x.name.items y.name.items).0 e))
  | false ↦ λ e. sym (apart x.name.items y.name.items (λ is. false≢true (sym e ∙ (bytes_eq-Decides x.name.items y.name.items).1 is)))
] refl

both : (a b : Bool) → T a → T b → T (a && b)
both true b p q = q
both false b p q = p

below_pairs : (x : Entry) (es : List Entry) → AllByRecursion (λ y. by_name x y ≡ Less) es → T (below_all byte_cmp x.name.items (pairs es))
below_pairs x [] all = tt
below_pairs x (y ∷ es) all = both (comes_before x y) (below_all byte_cmp x.name.items (pairs es))
    (rw all.0 tt) (below_pairs x es all.1)

sorted_pairs : (es : List Entry) → IsStrictlySortedBy by_name es → T (is_sorted byte_cmp (pairs es))
unfolding IsStrictlySortedBy
sorted_pairs [] rises = tt
sorted_pairs (x ∷ es) rises =
    both (below_all byte_cmp x.name.items (pairs es)) (is_sorted byte_cmp (pairs es)) (below_pairs x es rises.0) (sorted_pairs es rises.1)

-- ---- the number that a name gives
shadowed : (b : Bool) (x y z : Option ℕ) → cond b x z ≡ cond b x (cond b y z)
shadowed true x y z = refl
shadowed false x y z = refl

-- it is the same without later entries of a name
find_dedup_from : (q : List ℕ) (k : Entry) (es : List Entry)
    → find byte_cmp q (pairs (dedup_from same_name k es)) ≡ find byte_cmp q (pairs (k ∷ es))
find_dedup_from q k [] = refl
find_dedup_from q k (x ∷ es) =
    elim (same_name x k) as (λ b. same_name x k ≡ b → find byte_cmp q
    (pairs (cond b (dedup_from same_name k es) (k ∷ dedup_from same_name x es))) ≡ find byte_cmp q (pairs (k ∷ x ∷ es))) [
      | true ↦ λ e.
          let name : k.name.items ≡ x.name.items = sym ((bytes_eq-Decides x.name.items k.name.items).0 e) in
          cc (
            find_dedup_from q k es,
            shadowed (eq_by_cmp byte_cmp q k.name.items) (Some k.number.value) (Some x.number.value)
                (find byte_cmp q (pairs es)),
          )
      | false ↦ λ e. cc (find_dedup_from q x es)
    ] refl

find_dedup : (q : List ℕ) (es : List Entry) → find byte_cmp q (pairs (dedup same_name es)) ≡ find byte_cmp q (pairs es)
find_dedup q [] = refl
find_dedup q (k ∷ es) = find_dedup_from q k es

-- the map gives the first
find_first_of_each : (q : List ℕ) (ps : List (List ℕ × ℕ)) → find byte_cmp q (first_of_each ps) ≡ find byte_cmp q ps
find_first_of_each q [] = refl
find_first_of_each q (p ∷ ps) =
    cc (find-put byte_cmp nat_list_cmp_total q p.0 p.1 (first_of_each ps), find_first_of_each q ps)

sorted_first_of_each : (ps : List (List ℕ × ℕ)) → T (is_sorted byte_cmp (first_of_each ps))
sorted_first_of_each [] = tt
sorted_first_of_each (p ∷ ps) = is_sorted-put byte_cmp nat_list_cmp_total p.0 p.1 (first_of_each ps) (sorted_first_of_each ps)

-- it is the same after a stable sort
turned : (r : Ordering) → (not (is_lt r) && not (is_lt (ordering_reverse r))) ≡ is_eq r
turned Less = refl
turned Equal = refl
turned Greater = refl

tie : (x e : Entry) → are_tied comes_before x e ≡ eq_by_cmp by_name x e
tie x e = cc (name_order.antisymm e x, turned (by_name x e))

abbrev number_of_first : List Entry → Option ℕ
number_of_first [] = None
number_of_first (e ∷ es) = Some e.number.value

find_filtered : (x : Entry) (es : List Entry)
    → find byte_cmp x.name.items (pairs es) ≡ number_of_first (filter (are_tied comes_before x) es)
find_filtered x [] = refl
find_filtered x (e ∷ es) =
    let rest : List Entry = filter (are_tied comes_before x) es in
    (elim (eq_by_cmp by_name x e)
    as (λ b. cond b (Some e.number.value) (find byte_cmp x.name.items (pairs es)) ≡ number_of_first (cond b (e ∷ rest) rest)) [
      | true ↦ refl
      | false ↦ find_filtered x es
    ])
    ∙ ap (λ (b : Bool). number_of_first (cond b (e ∷ rest) rest)) (sym (tie x e))

entry_found : (q : List ℕ) (es : List Entry) → is_some (find byte_cmp q (pairs es)) ≡ true → (x : Entry) × (q ≡ x.name.items)
entry_found q [] some = absurd (false≢true some)
entry_found q (e ∷ es) some =
    elim (eq_by_cmp byte_cmp q e.name.items) as (λ b. eq_by_cmp byte_cmp q e.name.items ≡ b
    → is_some (cond b (Some e.number.value) (find byte_cmp q (pairs es))) ≡ true → (x : Entry) × (q ≡ x.name.items)) [
      | true ↦ λ is some. (e, tied q e.name.items is)
      | false ↦ λ is some. entry_found q es some
    ] refl some

some_found : (q : List ℕ) (es : List Entry)
    → is_some (find byte_cmp q (pairs es)) ≡ list_any (λ (e : Entry). eq_by_cmp byte_cmp q e.name.items) es
some_found q [] = refl
some_found q (e ∷ es) =
    elim (eq_by_cmp byte_cmp q e.name.items) as (λ b. is_some (cond b (Some e.number.value) (find byte_cmp q (pairs es)))
    ≡ cond b true (list_any (λ (f : Entry). eq_by_cmp byte_cmp q f.name.items) es)) [
      | true ↦ refl
      | false ↦ some_found q es
    ] ∙ one_or (eq_by_cmp byte_cmp q e.name.items) (list_any (λ (f : Entry). eq_by_cmp byte_cmp q f.name.items) es)
  where
    one_or : (a b : Bool) → cond a true b ≡ (a || b)
    one_or true b = refl
    one_or false b = refl

neither_found : (o p : Option ℕ) → is_some o ≡ false → is_some p ≡ false → o ≡ p
neither_found None None lacks none = refl
neither_found None (Some n) lacks none = absurd (false≢true (sym none))
neither_found (Some m) p lacks none = absurd (false≢true (sym lacks))

same_finds : (xs ys : List Entry) → IsPermutation xs ys → IsStableBy comes_before xs ys → (q : List ℕ)
    → find byte_cmp q (pairs ys) ≡ find byte_cmp q (pairs xs)
same_finds xs ys moved stable q = elim (is_some (find byte_cmp q (pairs xs)))
    as (λ b. is_some (find byte_cmp q (pairs xs)) ≡ b → find byte_cmp q (pairs ys) ≡ find byte_cmp q (pairs xs)) [
      | true ↦ λ some.
          let found = entry_found q xs some in
          rw found.1 (cc (find_filtered found.0 ys, stable found.0, find_filtered found.0 xs))
      | false ↦ λ none.
          neither_found (find byte_cmp q (pairs ys)) (find byte_cmp q (pairs xs))
          (cc (some_found q ys, list_any-IsPermutation (λ (e : Entry). eq_by_cmp byte_cmp q e.name.items) xs ys moved, some_found q xs))
          none
    ] refl

-- ---- entries that are sorted, and of each name the first
pub ordered : (xs ys : List Entry) {zs : List Entry} → IsPermutation xs ys → IsStableBy comes_before xs ys → IsSortedBy comes_before ys
    → zs ≡ dedup same_name ys → pairs zs ≡ first_of_each (pairs xs)
ordered xs ys moved stable sorted is =
    cc (same_entries byte_cmp nat_list_cmp_total (slice_cmp-IsAntisymmetric nat_cmp-IsAntisymmetric) (pairs (dedup same_name ys))
    (first_of_each (pairs xs)) (sorted_pairs (dedup same_name ys) (IsStrictlySortedBy-dedup name_order same_is_tied ys sorted))
    (sorted_first_of_each (pairs xs)) (λ q. find_dedup q ys ∙ same_finds xs ys moved stable q ∙ sym (find_first_of_each q (pairs xs))))
