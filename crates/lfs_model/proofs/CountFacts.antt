-- Facts on counts of live blocks, for code that counts entries one by one.
use Rattle.std.proofs.Common.{◌≡◌, ◌<◌, ◌≤◌, ⊎_elim, ◌+◌, ◌==◌, ◌&&◌, cond, not, ℕ, zero, suc, Bool, true, false, Some, refl, sym, ◌∙◌, ap}
use Rattle.std.proofs.Common.{ap₂, arith}
use Rattle.std.proofs.lemmas.Bool.{cases_lt}
use Rattle.lfs_model.specs.Content.{Content}
use Rattle.lfs_model.specs.Entry.{Entry}
use Rattle.lfs_model.specs.Laid.{IsLaid}
use Rattle.lfs_model.specs.Memory.{Memory, settled_at, those, memory_view, count_of}
use Rattle.lfs_model.specs.Stands.{LogMap, count_up, is_live}
use Rattle.lfs_model.proofs.Counting.{same_counts, settled_low}
use Rattle.lfs_model.proofs.DetachedCounts.{counts_sum, nowhere, one_if}
use Rattle.lfs_model.proofs.Live.{count_up_none, count_up_more}
use Rattle.lfs_model.proofs.Segments.{no_row_live}

-- a segment has 64 sectors
count_up_most : (p : ℕ → Bool) (n : ℕ) → count_up p n ≤ n
count_up_most p zero = omega (arith, count_up_none p)
count_up_most p (suc n) = let rest = count_up_most p n in let one = most_one (p n) in omega (arith, rest, one, count_up_more p n)
  where
    most_one : (b : Bool) → cond {A = ℕ} b 1 0 ≤ 1
    most_one true = omega arith
    most_one false = omega arith

pub count_most : (is : Entry → Bool) (M : Memory) (s : ℕ) → count_of is M s ≤ 64
count_most is M s = count_up_most (is_live (memory_view is M) s) 64

-- past the segments nothing is counted
pub count_past : (e : Content) (m : LogMap) (M : Memory) (o : ℕ) → IsLaid e m M o → (is : Entry → Bool) (s : ℕ) → M.segments ≤ s
    → count_of is M s ≡ 0
count_past e m M o laid is s le = no_row_live (memory_view is M) s (ap Some (laid.past s le))

-- only what has an address is counted
pub counts_agree : (e : Content) (m : LogMap) (M : Memory) {o : ℕ} → IsLaid e m M o → {p q : Entry → Bool}
    → ((x : Entry) → 2 ≤ M.at x → p x ≡ q x) → (s : ℕ) → count_of p M s ≡ count_of q M s
counts_agree e m M laid {p} {q} same = same_counts q p M M laid.named laid.named (λ x. ⊎_elim
    (λ (low : M.at x < 2). nothing (p x) (M.at x) (omega arith) ∙ sym (nothing (q x) (M.at x) (omega arith)))
    (λ (above : 2 ≤ M.at x). ap (λ (b : Bool). settled_at (cond {A = ℕ} b (M.at x) 0)) (same x above))
    (cases_lt (M.at x) 2))
  where
    nothing : (b : Bool) (a : ℕ) → a ≤ 1 → settled_at (cond {A = ℕ} b a 0) ≡ 0
    nothing true a le = settled_low a le
    nothing false a le = refl

and_true : (c : Bool) → (c && true) ≡ c
and_true true = refl
and_true false = refl

-- fewer entries count less
pub counts_less : (p q : Entry → Bool) (M : Memory) → ((x : Entry) → p x ≡ true → q x ≡ true) → (s : ℕ) → count_of p M s ≤ count_of q M s
counts_less p q M among s =
    let sum = counts_sum p (λ x. q x && not (p x)) q M M M refl refl (λ x a lt. split x a lt (p x) (q x) refl refl) s in omega arith
  where
    split : (x : Entry) (a : ℕ) → 0 < a → (b c : Bool) → p x ≡ b → q x ≡ c
        → one_if (settled_at (those p M.at x) == a) + one_if (settled_at (those (λ x. q x && not (p x)) M.at x) == a)
        ≡ one_if (settled_at (those q M.at x) == a)
    split x a lt true c is_p is_q =
        let on = among x is_p in
        let z = nowhere a 0 lt refl in
        let ep = ap (λ (b : Bool). one_if (settled_at (cond {A = ℕ} b (M.at x) 0) == a)) is_p in
        let eq = ap (λ (b : Bool). one_if (settled_at (cond {A = ℕ} b (M.at x) 0) == a)) on in
        let both = ap₂ (λ (c b : Bool). one_if (settled_at (cond {A = ℕ} (c && not b) (M.at x) 0) == a)) on is_p in
        omega arith
    split x a lt false c is_p is_q =
        let z = nowhere a 0 lt refl in
        let ep = ap (λ (b : Bool). one_if (settled_at (cond {A = ℕ} b (M.at x) 0) == a)) is_p in
        let both = ap (λ (b : Bool). one_if (settled_at (cond {A = ℕ} b (M.at x) 0) == a))
        (ap₂ (λ (c b : Bool). c && not b) is_q is_p ∙ and_true c ∙ sym is_q) in
        omega arith
