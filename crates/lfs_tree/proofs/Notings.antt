-- The tables, with one entry of a directory more.
use Rattle.std.proofs.Common.{◌≡◌, ◌<◌, ◌+◌, ⊎_elim, true, false, cond, eqb, Bool, ℕ, T, List, Option, None, ◌∙◌, ap, arith}
use Rattle.std.proofs.Common.{slice_index}
use Rattle.std.specs.Prelude.{◌==◌, count_by, min}
use Rattle.std.proofs.lemmas.Bool.{cases_eq}
use Rattle.std.proofs.lemmas.Bool.Decides.{nat_tests}
use Rattle.std.proofs.lemmas.List.{get_or-set_other, get_or-set_same}
use Rattle.std.specs.Cmp.Lexicographic.{nat_list_cmp_total}
use Rattle.std.specs.FinMap.{find, is_sorted, put}
use Rattle.lfs_model.specs.Tree.{Names, byte_cmp}
use Rattle.lfs_model.proofs.Sums.{total_put, weight}
use Rattle.lfs_files.specs.declared.header.Header.{Header}
use Rattle.lfs_tree.specs.Naming.{AreTables, Base, IsNoted, NamesValue, Notes, capped, giving, leads}

-- one name more, of a number that passes a test or not
pub counted_put : (p : ℕ → Bool) (names : Names) (name : List ℕ) (v : ℕ) → T (is_sorted byte_cmp names) → find byte_cmp name names ≡ None
    → count_by (λ x. p x.1) (put byte_cmp name v names) ≡ count_by (λ x. p x.1) names + cond {A = ℕ} (p v) 1 0
counted_put p names name v order new =
    let none = ap (λ (o : Option ℕ). weight nat_list_cmp_total (λ w. cond {A = ℕ} (p w) 1 0) o) new in
    omega (arith, total_put nat_list_cmp_total (λ w. cond {A = ℕ} (p w) 1 0) name v names order)

module _ (headers : List (Option Header)) (d : ℕ) (base : Base) {names : Names} (t t' : NamesValue) {n : ℕ} (name : List ℕ)
    (here : d < 4096) (inside : n < 4096)
    (sizes : AreTables t) (order : T (is_sorted byte_cmp names)) (new : find byte_cmp name names ≡ None)
    (was : IsNoted headers d base names t) (notes : Notes t t' d n (leads headers n)) where
  given_more : (q : ℕ) → giving (put byte_cmp name n names) q ≡ giving names q + cond {A = ℕ} (n == q) 1 0
  given_more q = counted_put (λ w. w == q) names name n order new

  given_own : (q : ℕ) → q ≡ n → giving (put byte_cmp name n names) q ≡ giving names q + 1
  given_own q same =
      let yes : eqb n q ≡ true = grind (arith, nat_tests) in
      cc (given_more q)

  given_other : (q : ℕ) → (q ≡ n → ⊥) → giving (put byte_cmp name n names) q ≡ giving names q
  given_other q other =
      let no : eqb n q ≡ false = grind (arith, nat_tests) in
      omega (arith, given_more q ∙ ap (λ (b : Bool). giving names q + cond {A = ℕ} b 1 0) no)

  count_own : (q : ℕ) → q ≡ n → slice_index t'.counts q ≡ min (slice_index t.counts q + 1) 65535
  count_own q same =
      cc (get_or-set_same t.counts n (min (slice_index t.counts n + 1) 65535) 0 (omega arith))

  count_other : (q : ℕ) → (q ≡ n → ⊥) → slice_index t'.counts q ≡ slice_index t.counts q
  count_other q other = cc (get_or-set_other t.counts n q (min (slice_index t.counts n + 1) 65535) 0 other)

  up_own : (q : ℕ) → q ≡ n → slice_index t'.up q ≡ d
  up_own q same =
      cc (get_or-set_same t.up n d 0 (omega arith))

  up_other : (q : ℕ) → (q ≡ n → ⊥) → slice_index t'.up q ≡ slice_index t.up q
  up_other q other = cc (get_or-set_other t.up n q d 0 other)

  counts_then : (q : ℕ) → q < 4096 → slice_index t'.counts q ≡ capped (base.counts q + giving (put byte_cmp name n names) q)
  counts_then q low =
      ⊎_elim
      (λ (same : q ≡ n). let more = given_own q same in omega (arith, count_own q same))
      (λ (other : q ≡ n → ⊥). let more = given_other q other in omega (arith, count_other q other))
      (cases_eq q n)

  given_then : (q : ℕ) → q < 4096 → 0 < giving (put byte_cmp name n names) q → slice_index t'.up q ≡ d
  given_then q low some = ⊎_elim
      (λ (same : q ≡ n). up_own q same)
      (λ (other : q ≡ n → ⊥). up_other q other ∙ was.given q low (omega (arith, given_other q other)))
      (cases_eq q n)

  kept_then : (q : ℕ) → q < 4096 → giving (put byte_cmp name n names) q ≡ 0 → slice_index t'.up q ≡ base.up q
  kept_then q low none = ⊎_elim
      (λ (same : q ≡ n). absurd (omega (arith, given_own q same)))
      (λ (other : q ≡ n → ⊥). up_other q other ∙ was.kept q low (omega (arith, given_other q other)))
      (cases_eq q n)

  own_then : slice_index t'.below d ≡ capped (base.below d + count_by (λ x. leads headers x.1) (put byte_cmp name n names))
  own_then =
      let own = ap (λ (l : List ℕ). slice_index l d) notes.below
      ∙ get_or-set_same t.below d (min (slice_index t.below d + cond {A = ℕ} (leads headers n) 1 0) 65535) 0 (omega arith) in
      omega (arith, counted_put (leads headers) names name n order new)

  pub noted_more : IsNoted headers d base (put byte_cmp name n names) t'
  noted_more = record {
    counts = counts_then;
    given = given_then;
    kept = kept_then;
    own = own_then;
    others = λ e other. cc (
      get_or-set_other t.below d e (min (slice_index t.below d + cond {A = ℕ} (leads headers n) 1 0) 65535) 0 other,
      was.others e other,
    );
  }
