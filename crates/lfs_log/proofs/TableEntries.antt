-- The blocks of a table in memory as a list of entries, no two of them the same; and which one comes in as the table grows by one.
use Rattle.std.proofs.Common.{◌≡◌, ◌<◌, ◌≤◌, ◌⊎◌, ⊎_elim, ◌+◌, ℕ, suc, List, [], ◌∷◌, length, get_or, Some, None, refl, sym, ◌∙◌, ap, subst}
use Rattle.std.proofs.Common.{arith, inl, inr}
use Rattle.std.specs.Prelude.{T, Option}
use Rattle.std.specs.Ordering.{nat_cmp}
use Rattle.std.specs.FinMap.{find, is_sorted}
use Rattle.std.proofs.lemmas.Bool.{cases_eq}
use Rattle.lfs_model.specs.Entry.{Entry}
use Rattle.lfs_model.specs.Members.{IsIn, AreApart}
use Rattle.lfs_model.specs.Memory.{IsOfFile}
use Rattle.lfs_model.proofs.Entries.{same_entry}
use Rattle.lfs_model.proofs.Sums.{T_right}
use Rattle.lfs_memory.specs.inodes.Blocks.{Blocks, TableValue, blocks_of, number_at, HasNumberAt}
use Rattle.lfs_memory.specs.inodes.Code.{IsCode, code, entry_at}
use Rattle.lfs_memory.proofs.of_inodes.Blocks.{find_at, find_more, rises}
use Rattle.lfs_memory.proofs.of_inodes.Codes.{code_entry, entry_of_code, of_file}
use Rattle.lfs_memory.proofs.of_segments.LeastSums.{fewer}
use Rattle.lfs_log.specs.Relocating.{IsInOrder}

-- ---- the numbers of a table
pub numbers : Blocks → List ℕ
numbers [] = []
numbers (e ∷ es) = e.0 ∷ numbers es

length_numbers : (es : Blocks) → length (numbers es) ≡ length es
unfolding numbers
length_numbers [] = refl
length_numbers (e ∷ es) = ap suc (length_numbers es)

pub number_there : (es : Blocks) (c : ℕ) → IsIn (numbers es) c → (i : ℕ) × (i < length es) × (number_at es i ≡ c)
unfolding numbers
number_there [] c is = absurd is
number_there (e ∷ es) c is = ⊎_elim
    (λ (here : c ≡ e.0). (0, omega arith, sym here))
    (λ (later : IsIn (numbers es) c). let r = number_there es c later in (suc r.0, let lt = r.1 in omega (arith, lt), r.2))
    is

numbers_apart : (es : Blocks) → T (is_sorted nat_cmp es) → AreApart (numbers es)
unfolding numbers
numbers_apart [] sorted = tt
numbers_apart (e ∷ es) sorted = (
  λ is. (let r = number_there es e.0 is in let lt = r.1 in let same = r.2 in
      let less = rises (e ∷ es) sorted 0 (suc r.0) (omega arith) (omega (arith, lt)) in omega (arith, less, same)),
  numbers_apart es (T_right _ _ sorted),
)

pub found_in : (es : Blocks) (c : ℕ) {b : List ℕ} → find nat_cmp c es ≡ Some b → IsIn (numbers es) c
unfolding numbers
found_in [] c found = absurd (cc)
found_in (e ∷ es) c {b} found = ⊎_elim
    (λ (here : e.0 ≡ c). inl (sym here))
    (λ (away : e.0 ≡ c → ⊥). inr (found_in es c (sym (find_more e es c away) ∙ found))) (cases_eq e.0 c)

-- ---- what a table has
abbrev pub Has : TableValue → Entry → Type 0
Has t x = (b : List ℕ) × (blocks_of t x ≡ Some b)

has_or_not : (o : Option (List ℕ)) → ((b : List ℕ) × (o ≡ Some b)) ⊎ (o ≡ None)
has_or_not None = inr refl
has_or_not (Some b) = inl (b, refl)

module _ {t : TableValue} (order : IsInOrder t) where
  pub formed : (c : ℕ) → IsIn (numbers t.blocks) c → IsCode c
  formed c is = let r = number_there _ c is in subst IsCode r.2 (order.codes r.0 r.1)

  has_number : (c : ℕ) → IsIn (numbers t.blocks) c → Has t (entry_at c)
  has_number c is =
      let r = number_there t.blocks c is in
      let there : HasNumberAt t.blocks c r.0 = record { within = r.1; number = r.2 } in (
        (get_or t.blocks r.0 (0, [])).1,
        ap (λ (c : ℕ). find nat_cmp c t.blocks) (code_entry c (formed c is)) ∙ find_at order.sorted c r.0 there,
      )

  number_in : (c : ℕ) → IsCode c → Has t (entry_at c) → IsIn (numbers t.blocks) c
  number_in c is has = found_in _ c (ap (λ (c : ℕ). find nat_cmp c t.blocks) (sym (code_entry c is)) ∙ has.1)

-- As a table grows by one, and keeps what it has, nothing but this block comes in.
pub one_came : {t t' : TableValue} (c : ℕ) → IsInOrder t → IsInOrder t' → IsCode c → ((x : Entry) → Has t x → Has t' x)
    → Has t' (entry_at c) → (Has t (entry_at c) → ⊥)
    → length t'.blocks ≤ length t.blocks + 1 → (x : Entry) → Has t' x → Has t x ⊎ (x ≡ entry_at c)
one_came {t} {t'} c order order' is stay inside new few x has = ⊎_elim
    (λ (was : Has t x). inl was)
    (λ (none : find nat_cmp (code x) t.blocks ≡ None). ⊎_elim
    (λ (own : x ≡ entry_at c). inr own)
    (λ (other : x ≡ entry_at c → ⊥).
    let more = fewer (numbers t'.blocks) (code x ∷ c ∷ numbers t.blocks) (
      λ there. ⊎_elim (λ (same : code x ≡ c). other (entry_of_code x is same))
          (λ (old : IsIn (numbers t.blocks) (code x)). not_in none old) there,
      (λ there. new (has_number order c there), numbers_apart t.blocks order.sorted),
    )
    (λ y there. ⊎_elim
    (λ (first : y ≡ code x). rw first (found_in t'.blocks (code x) has.1))
    (λ (rest : (y ≡ c) ⊎ IsIn (numbers t.blocks) y). ⊎_elim
    (λ (second : y ≡ c). rw second (number_in order' c is inside))
    (λ (old : IsIn (numbers t.blocks) y). number_in order' y (formed order y old) (stay (entry_at y) (has_number order y old))) rest)
    there) in
    let long = length_numbers t.blocks in
    let long' = length_numbers t'.blocks in
    absurd (omega (arith, more, long, long', few)))
    (same_entry x (entry_at c)))
    (has_or_not (find nat_cmp (code x) t.blocks))
  where
    not_in : find nat_cmp (code x) t.blocks ≡ None → IsIn (numbers t.blocks) (code x) → ⊥
    not_in none old =
        let r = number_there t.blocks (code x) old in
        let found = find_at {es = t.blocks} order.sorted (code x) r.0 (record { within = r.1; number = r.2 }) in
        let bad : None ≡ Some (get_or t.blocks r.0 (0, [])).1 = sym none ∙ found in
        absurd (cc)

-- ---- the entries of a table
entries_at : List ℕ → List Entry
entries_at [] = []
entries_at (c ∷ cs) = entry_at c ∷ entries_at cs

length_entries : (cs : List ℕ) → length (entries_at cs) ≡ length cs
unfolding entries_at
length_entries [] = refl
length_entries (c ∷ cs) = ap suc (length_entries cs)

entry_there : (cs : List ℕ) (x : Entry) → IsIn (entries_at cs) x → (c : ℕ) × IsIn cs c × (x ≡ entry_at c)
unfolding entries_at
entry_there [] x is = absurd is
entry_there (c ∷ cs) x is = ⊎_elim
    (λ (here : x ≡ entry_at c). (c, inl refl, here))
    (λ (later : IsIn (entries_at cs) x). let r = entry_there cs x later in (r.0, inr r.1, r.2))
    is

entries_apart : (cs : List ℕ) → ((c : ℕ) → IsIn cs c → IsCode c) → AreApart cs → AreApart (entries_at cs)
unfolding entries_at
entries_apart [] codes apart = tt
entries_apart (c ∷ cs) codes apart = (
  λ is. (let r = entry_there cs _ is in
      let same : c ≡ r.0 = sym (code_entry c (codes c (inl refl))) ∙ ap code r.2 ∙ code_entry r.0 (codes r.0 (inr r.1)) in
      apart.0 (rw same r.1)),
  entries_apart cs (λ d is. codes d (inr is)) apart.1,
)

pub entries : TableValue → List Entry
entries t = entries_at (numbers t.blocks)

module _ {t : TableValue} (order : IsInOrder t) where
  pub count_entries : length (entries t) ≡ length t.blocks
  unfolding entries
  count_entries = length_entries _ ∙ length_numbers _

  pub apart_entries : AreApart (entries t)
  unfolding entries
  apart_entries = entries_apart (numbers t.blocks) (formed order) (numbers_apart t.blocks order.sorted)

  pub has_entry : (x : Entry) → IsIn (entries t) x → Has t x
  unfolding entries
  has_entry x is = let r = entry_there (numbers t.blocks) x is in rw r.2 (has_number order r.0 r.1)

-- each is a block of a file
pub file_entry : (t : TableValue) (x : Entry) → IsIn (entries t) x → IsOfFile x
unfolding entries
file_entry t x is = let r = entry_there _ x is in rw r.2 (of_file r.0)
