-- How many usage blocks are still to get a new place.
use Rattle.std.proofs.Common.{◌≡◌, ◌<◌, ◌≤◌, ◌⊎◌, inl, inr, ⊎_elim, ◌+◌, ◌-◌, ◌%◌, ℕ, zero, suc, length, ap, arith}
use Rattle.std.proofs.lemmas.Bool.{cases_eq, cases_lt}
use Rattle.lfs_model.specs.Counting.{segment_of}
use Rattle.lfs_model.proofs.Running.{pick, pick_yes, pick_no}
use Rattle.lfs_memory.specs.segments.Table.{UsageTable, kept_of, address_of}
use Rattle.lfs_memory.specs.segments.Chunk.{IsUnkeptBy}
use Rattle.lfs_log.specs.Settling.{IsAnew, IsResettled, AreAnew}

anew_or : (t : UsageTable) (j : ℕ) → IsAnew t j ⊎ (IsAnew t j → ⊥)
anew_or t j = ⊎_elim
    (λ (low : address_of t j < 2). inr (λ is. let le = is.0 in omega arith))
    (λ (le : 2 ≤ address_of t j). ⊎_elim
    (λ (inside : segment_of (address_of t j) < length t.segments). ⊎_elim
    (λ (more : (address_of t j - 2) % 64 < kept_of t (segment_of (address_of t j))). inr (λ is. let on = is.2 in omega arith))
    (λ (on : IsUnkeptBy t (address_of t j)). inl (le, inside, on))
    (cases_lt ((address_of t j - 2) % 64) (kept_of t (segment_of (address_of t j)))))
    (λ (past : length t.segments ≤ segment_of (address_of t j)). inr (λ is. let i = is.1 in omega arith))
    (cases_lt (segment_of (address_of t j)) (length t.segments)))
    (cases_lt (address_of t j) 2)

one_out : UsageTable → ℕ → ℕ
one_out t j = pick (anew_or t j) 0 1

out_by : UsageTable → ℕ → ℕ
out_by t zero = 0
out_by t (suc n) = one_out t n + out_by t n

-- the usage blocks that stand where the acknowledged checkpoint may need something
pub out_count : UsageTable → ℕ
out_count t = out_by t 16

out_yes : (t : UsageTable) (j : ℕ) → IsAnew t j → one_out t j ≡ 0
unfolding one_out
out_yes t j is = pick_yes _ 0 1 is

out_no : (t : UsageTable) (j : ℕ) → (IsAnew t j → ⊥) → one_out t j ≡ 1
unfolding one_out
out_no t j is = pick_no _ 0 1 is

by_anew : (t : UsageTable) (j : ℕ) (P : Type 0) → (IsAnew t j → one_out t j ≡ 0 → P) → ((IsAnew t j → ⊥) → one_out t j ≡ 1 → P) → P
by_anew t j P is_so is_not =
    ⊎_elim (λ (p : IsAnew t j). is_so p (out_yes t j p)) (λ (n : IsAnew t j → ⊥). is_not n (out_no t j n)) (anew_or t j)

most_by : (t : UsageTable) (n : ℕ) → out_by t n ≤ n
unfolding out_by
most_by t zero = omega arith
most_by t (suc n) =
    let rest = most_by t n in
    by_anew t n _ (λ is e. omega arith) (λ is e. omega arith)

pub out_most : (t : UsageTable) → out_count t ≤ 16
unfolding out_count
out_most t = most_by t 16

none_by : (t : UsageTable) (n j : ℕ) → out_by t n ≤ 0 → j < n → IsAnew t j
unfolding out_by
none_by t zero j z lt = absurd (omega arith)
none_by t (suc n) j z lt = by_anew t n _
    (λ is e. ⊎_elim
    (λ (here : j ≡ n). rw here is)
    (λ (away : j ≡ n → ⊥). none_by t n j (omega arith) (omega arith))
    (cases_eq j n))
    (λ is e. absurd (omega arith))

pub out_none : (t : UsageTable) → length t.segments ≤ 1024 → out_count t ≤ 0 → AreAnew t
unfolding out_count
out_none t few z j low stale = none_by t 16 j z (omega arith)

module _ {old new : UsageTable} {j : ℕ} (out : IsAnew old j → ⊥) (is : IsResettled old new j) where
  stays : (i : ℕ) → IsAnew old i → IsAnew new i
  stays i was = ⊎_elim
      (λ (here : i ≡ j). rw here is.own)
      (λ (away : i ≡ j → ⊥).
      let e = is.others i away in
      let le = was.0 in
      let inside = was.1 in
      let size = is.segments in
      let k = is.kept (segment_of (address_of old i)) in
      let on = was.2 in
      (omega arith, omega arith, rw e (omega arith))) (cases_eq i j)

  one_less : (i : ℕ) → one_out new i ≤ one_out old i
  one_less i = by_anew old i _
      (λ was e. let now = out_yes new i (stays i was) in omega arith)
      (λ was e. by_anew new i _ (λ p f. omega arith) (λ p f. omega arith))

  less_by : (n : ℕ) → (j < n → suc (out_by new n) ≤ out_by old n) × (out_by new n ≤ out_by old n)
  unfolding out_by
  less_by zero = (λ lt. absurd (omega arith), omega arith)
  less_by (suc n) =
      let rest = less_by n in
      let one = one_less n in
      let more = rest.1 in (
        λ lt. ⊎_elim
            (λ (here : j ≡ n). let a = out_no old j out in let b = out_yes new j is.own in let c = ap (one_out old) here in
            let e = ap (one_out new) here in omega arith)
            (λ (away : j ≡ n → ⊥). let r = rest.0 (omega arith) in omega arith)
            (cases_eq j n),
        omega arith,
      )

  pub out_less : j < 16 → suc (out_count new) ≤ out_count old
  unfolding out_count
  out_less lt = (less_by 16).0 lt
