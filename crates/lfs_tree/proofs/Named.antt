-- The tables of names, with one object more.
use Rattle.std.specs.Prelude.{count_by}
use Rattle.std.proofs.Common.{◌≡◌, ◌<◌, ◌≤◌, ⊎_elim, ◌+◌, ℕ, suc, List, [], Option, refl, ◌∙◌, ap, arith, slice_index}
use Rattle.std.proofs.lemmas.Bool.{cases_eq, cases_lt}
use Rattle.lfs_model.specs.Stands.{LogMap}
use Rattle.lfs_files.specs.declared.header.Header.{Header}
use Rattle.lfs_tree.specs.Naming.{AreEmpty, Base, IsNoted, NamesValue, capped, giving, leads}
use Rattle.lfs_tree.specs.Objects.{AreNamed, IsGoodObject, given_below, names_at, sum_below}

pub sum_none : (f : ℕ → ℕ) → sum_below f 0 ≡ 0
unfolding sum_below
sum_none f = refl

sum_suc : (f : ℕ → ℕ) (n : ℕ) → sum_below f (suc n) ≡ sum_below f n + f n
unfolding sum_below
sum_suc f n = refl

pub sum_more : (f : ℕ → ℕ) (n : ℕ) → sum_below f (n + 1) ≡ sum_below f n + f n
sum_more f n = ap (sum_below f) (omega arith) ∙ sum_suc f n

module _ (m : LogMap) (headers : List (Option Header)) where
  -- what is known before the next object
  abbrev pub base_at : NamesValue → ℕ → Base
  base_at t upto = record { counts = given_below m upto; up = slice_index t.up; below = slice_index t.below }

  named_none : (t : NamesValue) → AreEmpty t → AreNamed m headers t 0
  named_none t empty = record {
    counts = λ n low. omega (arith, sum_none (λ d. giving (names_at m d) n));
    up = λ n low some. absurd (omega (arith, sum_none (λ d. giving (names_at m d) n)));
    below = λ d low. absurd (omega arith);
    none = λ d le. empty.below d;
    good = λ n low. absurd (omega arith);
  }

  module _ {t : NamesValue} {upto : ℕ} (was : AreNamed m headers t upto) where
    pub noted_begin : IsNoted headers upto (base_at t upto) [] t
    noted_begin = record {
      counts = λ n low. omega (arith, was.counts n low);
      given = λ n low some. absurd (omega arith);
      kept = λ n low none. refl;
      own = omega (arith, was.none upto (omega arith));
      others = λ e other. refl;
    }

    module _ {t' : NamesValue} (good : IsGoodObject m headers upto)
        (noted : IsNoted headers upto (base_at t upto) (names_at m upto) t') where
      up_then : (n : ℕ) → n < 4096 → 0 < given_below m (upto + 1) n → 0 < giving (names_at m (slice_index t'.up n)) n
      up_then n low some = ⊎_elim
          (λ (here : 0 < giving (names_at m upto) n). rw (noted.given n low here) here)
          (λ (none : giving (names_at m upto) n ≤ 0).
          rw (noted.kept n low (omega arith))
          (was.up n low (omega (arith, sum_more (λ d. giving (names_at m d) n) upto))))
          (cases_lt 0 (giving (names_at m upto) n))

      below_then : (d : ℕ) → d < upto + 1 → slice_index t'.below d ≡ capped (count_by (λ x. leads headers x.1) (names_at m d))
      below_then d low = ⊎_elim
          (λ (here : d ≡ upto).
          rw here (omega arith))
          (λ (other : d ≡ upto → ⊥). noted.others d other ∙ was.below d (omega arith))
          (cases_eq d upto)

      good_then : (n : ℕ) → n < upto + 1 → IsGoodObject m headers n
      good_then n low = ⊎_elim
          (λ (here : n ≡ upto). rw here good)
          (λ (other : n ≡ upto → ⊥). was.good n (omega arith))
          (cases_eq n upto)

      pub named_more : AreNamed m headers t' (upto + 1)
      named_more = record {
        counts = λ n low. let more = sum_more (λ d. giving (names_at m d) n) upto in
            omega (arith, noted.counts n low);
        up = up_then;
        below = below_then;
        none = λ d le. noted.others d (λ e. omega arith) ∙ was.none d (omega arith);
        good = good_then;
      }

  -- before the first number that a file has
  pub named_first : {t : NamesValue} → AreEmpty t → IsGoodObject m headers 0 → names_at m 0 ≡ [] → AreNamed m headers t 1
  named_first {t} empty good nothing =
      let was = named_none t empty in
      named_more was good (rw nothing (noted_begin was))
