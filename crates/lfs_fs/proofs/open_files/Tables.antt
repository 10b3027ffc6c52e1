-- A table of files and the handles that it stands for.
use Rattle.lfs_fs.proofs.Prelude.{◌≡◌, ◌≢◌, refl, sym, ap, subst, ◌∙◌, ℕ, zero, suc, ◌+◌, ◌<◌, ◌≤◌, Bool, true, false, List, [], ◌∷◌, Some}
use Rattle.lfs_fs.proofs.Prelude.{None, Option, length, get_or, eqb, arith, inl, inr, replicate, append-nil, T, slice_set, refill}
use Rattle.lfs_fs.proofs.Prelude.{length-set, take_all, nat_cmp, cases_lt, nat_tests, find, put, is_sorted, FileNumber, Handles}
use Rattle.lfs_fs.proofs.Prelude.{least_handle, cmp_same, cmp_other, number_in}
use Rattle.std.proofs.lemmas.List.{drop_all, get_or_past, get_or_read_under}
use Rattle.std.specs.declared.cmp.Ordering.TheVariants.{Less, Equal, Greater}
use Rattle.std.specs.Cmp.{nat_cmp_is}
use Rattle.std.specs.FinMap.Entries.{below_all}
use Rattle.lfs_model.specs.Tree.{least_from}
use Rattle.lfs_fs.specs.Handles.{handles_from, handles_of}

abbrev pub Places : Type 0
Places = List (Option FileNumber)

-- no handle is below the first place
none_below : (h a : ℕ) (fs : Places) → h < a → find nat_cmp h (handles_from a fs) ≡ None
none_below h a [] lt = refl
none_below h a (None ∷ fs) lt = none_below h (a + 1) fs (omega arith)
none_below h a (Some f ∷ fs) lt =
    let no = cmp_other h a (omega arith) in
    rw no (none_below h (a + 1) fs (omega arith))

find_from : (a i : ℕ) (fs : Places) → find nat_cmp (a + i) (handles_from a fs) ≡ number_in (get_or fs i None)
find_from a zero [] = refl
find_from a (suc i) [] = refl
find_from a zero (None ∷ fs) = none_below (a + 0) (a + 1) fs (omega arith)
find_from a zero (Some f ∷ fs) =
    let at : a + 0 ≡ a = omega arith in
    let here = cmp_same a in
    rw (at, here) refl
find_from a (suc i) (None ∷ fs) =
    let at : a + suc i ≡ a + 1 + i = omega arith in
    rw at (find_from (a + 1) i fs)
find_from a (suc i) (Some f ∷ fs) =
    let at : a + suc i ≡ a + 1 + i = omega arith in
    let rest : find nat_cmp (a + suc i) (handles_from (a + 1) fs) ≡ number_in (get_or fs i None) = rw at (find_from (a + 1) i fs) in
    let no = cmp_other (a + suc i) a (omega arith) in
    rw no rest

-- a handle's number is that of the file at its place
pub find_handle : (h : ℕ) (fs : Places) → find nat_cmp h (handles_of fs) ≡ number_in (get_or fs h None)
unfolding handles_of
find_handle h fs = let at : 0 + h ≡ h = omega arith in
    subst (λ (k : ℕ). find nat_cmp k (handles_from 0 fs) ≡ number_in (get_or fs h None)) at (find_from 0 h fs)

pub find_past : (h : ℕ) (fs : Places) → length fs ≤ h → find nat_cmp h (handles_of fs) ≡ None
find_past h fs past = find_handle h fs ∙ ap number_in (get_or_past fs h None past)

-- a handle is a place of the table
pub within_table : (h n : ℕ) (fs : Places) → find nat_cmp h (handles_of fs) ≡ Some n → h < length fs
within_table h n fs is = elim (cases_lt h (length fs)) [
  | inl lt ↦ lt
  | inr past ↦ absurd (let none : None ≡ Some n = sym (find_past h fs past) ∙ is in cc)
]

-- ---- the least free one

least_above : (a b : ℕ) (fs : Places) → a < b → least_from a (handles_from b fs) ≡ a
least_above a b [] lt = refl
least_above a b (None ∷ fs) lt = least_above a (b + 1) fs (omega arith)
least_above a b (Some f ∷ fs) lt =
    let no : eqb b a ≡ false = grind (arith, nat_tests) in
    rw no (least_above a (b + 1) fs (omega arith))

least_at : (a i : ℕ) (fs : Places) → ((k : ℕ) → k < i → get_or fs k None ≢ None) → get_or fs i None ≡ None
    → least_from a (handles_from a fs) ≡ a + i
least_at a zero [] taken free = omega arith
least_at a (suc i) [] taken free = absurd (taken 0 (omega arith) refl)
least_at a zero (None ∷ fs) taken free = least_above a (a + 1) fs (omega arith) ∙ omega arith
least_at a zero (Some f ∷ fs) taken free = absurd (let is : Some f ≡ None = free in cc)
least_at a (suc i) (None ∷ fs) taken free = absurd (taken 0 (omega arith) refl)
least_at a (suc i) (Some f ∷ fs) taken free =
    let same : eqb a a ≡ true = grind (arith, nat_tests) in
    rw same (least_at (a + 1) i fs (λ k lt. taken (suc k) (omega arith)) free ∙ omega arith)

pub least_is : {h : ℕ} (fs : Places) → ((k : ℕ) → k < h → get_or fs k None ≢ None) → get_or fs h None ≡ None
    → least_handle (handles_of fs) ≡ h
unfolding handles_of
least_is {h} fs taken free = least_at 0 h fs taken free ∙ omega arith

-- all places are taken: the least one is past them
pub least_past : (fs : Places) → ((k : ℕ) → k < length fs → get_or fs k None ≢ None) → least_handle (handles_of fs) ≡ length fs
least_past fs taken = least_is fs taken (get_or_past fs (length fs) None (omega arith))

-- ---- a file put at a place

put_front : (k b n : ℕ) (fs : Places) → k < b → put nat_cmp k n (handles_from b fs) ≡ (k, n) ∷ handles_from b fs
put_front k b n [] lt = refl
put_front k b n (None ∷ fs) lt = put_front k (b + 1) n fs (omega arith)
put_front k b n (Some f ∷ fs) lt =
    let less : nat_cmp k b ≡ Less = sym (nat_cmp_is k b Less lt) in
    rw less refl

put_from : (a i : ℕ) (f : FileNumber) (fs : Places) → i < length fs
    → put nat_cmp (a + i) f.value (handles_from a fs) ≡ handles_from a (slice_set fs i (Some f))
put_from a i f [] lt = absurd (omega arith)
put_from a zero f (None ∷ fs) lt =
    let at : a + 0 ≡ a = omega arith in
    rw at (put_front a (a + 1) f.value fs (omega arith))
put_from a zero f (Some g ∷ fs) lt =
    let at : a + 0 ≡ a = omega arith in
    let tie : nat_cmp a a ≡ Equal = sym (nat_cmp_is a a Equal refl) in
    rw (at, tie) refl
put_from a (suc i) f (None ∷ fs) lt =
    let at : a + suc i ≡ a + 1 + i = omega arith in
    rw at (put_from (a + 1) i f fs (omega arith))
put_from a (suc i) f (Some g ∷ fs) lt =
    let at : a + suc i ≡ a + 1 + i = omega arith in
    let rest : put nat_cmp (a + suc i) f.value (handles_from (a + 1) fs) ≡ handles_from (a + 1) (slice_set fs i (Some f)) =
    rw at (put_from (a + 1) i f fs (omega arith)) in
    let more : nat_cmp (a + suc i) a ≡ Greater = sym (nat_cmp_is (a + suc i) a Greater (omega arith)) in
    rw more (ap (λ (hs : Handles). (a, g.value) ∷ hs) rest)

put_handle : (h : ℕ) (f : FileNumber) (fs : Places) → h < length fs
    → handles_of (slice_set fs h (Some f)) ≡ put nat_cmp h f.value (handles_of fs)
unfolding handles_of
put_handle h f fs lt = let at : 0 + h ≡ h = omega arith in
    subst (λ (k : ℕ). handles_from 0 (slice_set fs h (Some f)) ≡ put nat_cmp k f.value (handles_from 0 fs)) at (sym (put_from 0 h f fs lt))

-- a table that is written back whole
pub written_back : (fs : Places) {ms : Places} (h : ℕ) (x : Option FileNumber) → ms ≡ fs
    → refill (length fs) fs (slice_set ms h x) ≡ slice_set fs h x
written_back fs h x same =
    let long = length-set fs h x in
    ap (λ (xs : Places). refill (length fs) fs (slice_set xs h x)) same
    ∙ rw (drop_all (length (slice_set fs h x)) fs (omega arith), append-nil) (take_all (length fs) (slice_set fs h x) (omega arith))

pub put_back : {fs ms : Places} (h : ℕ) (f : FileNumber) → h < length fs → ms ≡ fs
    → handles_of (refill (length fs) fs (slice_set ms h (Some f))) ≡ put nat_cmp h f.value (handles_of fs)
put_back {fs} {ms} h f lt same = ap handles_of (written_back fs h (Some f) same) ∙ put_handle h f fs lt

-- ---- all handles

below_from : (k a : ℕ) (fs : Places) → k < a → T (below_all nat_cmp k (handles_from a fs))
below_from k a [] lt = tt
below_from k a (None ∷ fs) lt = below_from k (a + 1) fs (omega arith)
below_from k a (Some f ∷ fs) lt =
    let less : nat_cmp k a ≡ Less = sym (nat_cmp_is k a Less lt) in
    rw less (below_from k (a + 1) fs (omega arith))

sorted_from : (a : ℕ) (fs : Places) → T (is_sorted nat_cmp (handles_from a fs))
sorted_from a [] = tt
sorted_from a (None ∷ fs) = sorted_from (a + 1) fs
sorted_from a (Some f ∷ fs) =
    let first : below_all nat_cmp a (handles_from (a + 1) fs) ≡ true = T_true _ (below_from a (a + 1) fs (omega arith)) in
    rw first (sorted_from (a + 1) fs)
  where
    T_true : (b : Bool) → T b → b ≡ true
    T_true true h = refl
    T_true false h = absurd h

-- the open handles of a table are in order
pub in_order : (fs : Places) → T (is_sorted nat_cmp (handles_of fs))
unfolding handles_of
in_order fs = sorted_from 0 fs

-- in a free table none is open
pub none_open : (k : ℕ) → handles_of (replicate k None) ≡ []
unfolding handles_of
none_open k = by 0 k
  where
    by : (a k : ℕ) → handles_from a (replicate k None) ≡ []
    by a zero = refl
    by a (suc k) = by (a + 1) k

-- ---- a place that was read

pub place_read : {fs ms : Places} (h : ℕ) {n : ℕ} {x : Option FileNumber} → ms ≡ fs → length fs ≡ n → h < n → x ≡ get_or ms h x
    → x ≡ get_or fs h None
place_read {ms} h {n} {x} same long lt is =
    subst (λ (xs : Places). x ≡ get_or xs h None) same
    (get_or_read_under ms h n x None is lt (sym long ∙ ap (λ (xs : Places). length xs) (sym same)))
