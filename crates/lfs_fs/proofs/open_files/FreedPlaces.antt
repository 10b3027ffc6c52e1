-- A table of files in which a place is freed, and whether another place has the same file.
use Rattle.lfs_fs.proofs.Prelude.{◌≡◌, ◌≢◌, refl, sym, ap, subst, ◌∙◌, ℕ, ◌<◌, ◌≤◌, Bool, true, false, Some, None, length, get_or, cond}
use Rattle.lfs_fs.proofs.Prelude.{eqb, arith, ⊎_elim, ◌==◌, if◌then◌else◌, not, slice_set, refill, cases_eq, cases_lt, eq-eqb, nat_tests}
use Rattle.lfs_fs.proofs.Prelude.{length-set, nat_cmp, find, Handles, opened, without, cmp_same, cmp_other, HasNumber, handles_of}
use Rattle.lfs_fs.proofs.Prelude.{number_in, T, is_sorted}
use Rattle.std.proofs.lemmas.Cmp.{nat_cmp_total}
use Rattle.std.proofs.lemmas.List.{get_or-set_other, get_or-set_same}
use Rattle.std.specs.Ordering.{eq_by_cmp}
use Rattle.std.specs.FinMap.{nat_cmp-IsAntisymmetric}
use Rattle.std.specs.FinMap.Entries.{is_sorted-where_key, same_entries}
use Rattle.lfs_model.proofs.Sums.{find_without, total_zero, weight-le-total}
use Rattle.lfs_fs.proofs.open_files.Tables.{Places, find_handle, find_past, in_order, within_table, written_back}

-- ---- how many handles a file has

module _ (hs : Handles) (n : ℕ) where
  abbrev counts : ℕ → ℕ
  counts = λ v. if v == n then 1 else 0

  some_open : (k : ℕ) → find nat_cmp k hs ≡ Some n → opened hs n ≢ 0
  some_open k found none =
      let all = weight-le-total nat_cmp_total counts k n hs found in
      let same : eqb n n ≡ true = eq-eqb n n refl in
      let one : ◌≡◌ {A = ℕ} (if n == n then 1 else 0) 1 = rw same refl in
      absurd (omega (arith, all, one, none))

  all_shut : T (is_sorted nat_cmp hs) → ((k x : ℕ) → find nat_cmp k hs ≡ Some x → x ≢ n) → opened hs n ≡ 0
  all_shut sorted other = total_zero nat_cmp_total counts hs sorted (λ k x found. (
      let apart : x ≢ n = other k x found in
      let no : eqb x n ≡ false = grind (arith, nat_tests) in
      rw no refl))

module _ (h : ℕ) (fs : Places) where
  abbrev rest : Handles
  rest = without nat_cmp h (handles_of fs)

  rest_in_order : T (is_sorted nat_cmp rest)
  rest_in_order = is_sorted-where_key nat_cmp (λ k. not (eq_by_cmp nat_cmp h k)) (handles_of fs) (in_order fs)

  -- what the handles give without one of them
  here : find nat_cmp h rest ≡ None
  here = find_without nat_cmp_total h h (handles_of fs) ∙ ap (λ (b : Bool). cond b None (find nat_cmp h (handles_of fs))) (cmp_same h)

  elsewhere : (k : ℕ) → k ≢ h → find nat_cmp k rest ≡ find nat_cmp k (handles_of fs)
  elsewhere k ne = find_without nat_cmp_total h k (handles_of fs)
      ∙ ap (λ (b : Bool). cond b None (find nat_cmp k (handles_of fs))) (cmp_other k h ne)

  -- ---- a place is freed

  freed : find nat_cmp h (handles_of (slice_set fs h None)) ≡ None
  freed = ⊎_elim
      (λ (inside : h < length fs). find_handle h (slice_set fs h None) ∙ ap number_in (get_or-set_same fs h None None inside))
      (λ (past : length fs ≤ h). find_past h (slice_set fs h None) (let same = length-set fs h None in omega (arith, same, past)))
      (cases_lt h (length fs))

  freed_others : (k : ℕ) → k ≢ h → find nat_cmp k (handles_of (slice_set fs h None)) ≡ find nat_cmp k (handles_of fs)
  freed_others k ne =
      find_handle k (slice_set fs h None) ∙ ap number_in (get_or-set_other fs h k None None ne) ∙ sym (find_handle k fs)

  close_handle : handles_of (slice_set fs h None) ≡ rest
  close_handle = same_entries nat_cmp nat_cmp_total nat_cmp-IsAntisymmetric (handles_of (slice_set fs h None)) rest
      (in_order (slice_set fs h None)) rest_in_order
      (λ k. ⊎_elim
      (λ (is : k ≡ h). subst (λ (q : ℕ). find nat_cmp q (handles_of (slice_set fs h None)) ≡ find nat_cmp q rest) (sym is)
      (freed ∙ sym here))
      (λ (ne : k ≡ h → ⊥). freed_others k ne ∙ sym (elsewhere k ne))
      (cases_eq k h))

  -- in a table that is written back whole
  pub closed_back : {ms : Places} → ms ≡ fs → handles_of (refill (length fs) fs (slice_set ms h None)) ≡ rest
  closed_back {ms} same = ap handles_of (written_back fs h None same) ∙ close_handle

  -- ---- other places of the same file
  module _ (n : ℕ) where
    pub other_open : (k : ℕ) → k ≢ h → HasNumber (get_or fs k None) n → opened rest n ≢ 0
    other_open k ne at = some_open rest n k (elsewhere k ne ∙ find_handle k fs ∙ at)

    pub no_other_open : ((k : ℕ) → k < length fs → k ≢ h → HasNumber (get_or fs k None) n → ⊥) → opened rest n ≡ 0
    no_other_open none = all_shut rest n rest_in_order (λ k x found is. ⊎_elim
        (λ (same : k ≡ h). let both : None ≡ Some x = sym here ∙ ap (λ (q : ℕ). find nat_cmp q rest) (sym same) ∙ found in absurd (cc))
        (λ (ne : k ≡ h → ⊥).
        let was : find nat_cmp k (handles_of fs) ≡ Some x = sym (elsewhere k ne) ∙ found in
        none k (within_table k x fs was) ne (sym (find_handle k fs) ∙ was ∙ ap Some is))
        (cases_eq k h))

-- ---- all places of a file

module _ (fs : Places) (n : ℕ) where
  pub is_open : (k : ℕ) → HasNumber (get_or fs k None) n → opened (handles_of fs) n ≢ 0
  is_open k at = some_open (handles_of fs) n k (find_handle k fs ∙ at)

  pub is_shut : ((k : ℕ) → k < length fs → HasNumber (get_or fs k None) n → ⊥) → opened (handles_of fs) n ≡ 0
  is_shut none = all_shut (handles_of fs) n (in_order fs) (λ k x found is.
      none k (within_table k x fs found) (sym (find_handle k fs) ∙ found ∙ ap Some is))
