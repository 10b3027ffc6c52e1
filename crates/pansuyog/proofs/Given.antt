-- Sectors that are given one after another.
use Rattle.std.proofs.Common.{◌≡◌, ◌≢◌, ◌<◌, ◌+◌, ℕ, List, [], length, Some, None, refl, sym, ap, ◌∙◌, subst, arith, ⊎_elim}
use Rattle.std.proofs.Common.{length-set, get_or-set_other, get_or-set_same, get_or}
use Rattle.std.proofs.lemmas.Bool.{cases_lt}
use Rattle.lfs_model.specs.Device.{Cell, cell_at, put}
use Rattle.pansuyog.specs.Sources.{AreGiven}

pub given_none : (first : ℕ) (sectors : List (List ℕ)) (cells : List Cell) → AreGiven first 0 sectors cells cells
given_none first sectors cells = record {
  others = record { size = refl; before = λ k lt. refl; after = λ k le. refl };
  given = λ i lt. absurd (omega (arith, lt));
}

module _ (first n : ℕ) (sectors : List (List ℕ)) (old mid new : List Cell) (bytes : List ℕ) (was : AreGiven first n sectors old mid)
    (is : new ≡ put mid (first + n) bytes) (within : first + n < length mid) (same : bytes ≡ get_or sectors n []) where
  elsewhere : (k : ℕ) → k ≢ first + n → cell_at new k ≡ cell_at mid k
  elsewhere k other = ap (λ (c : List Cell). cell_at c k) is ∙ get_or-set_other mid (first + n) k (Some bytes) None other

  here : cell_at new (first + n) ≡ Some (get_or sectors n [])
  here = ap (λ (c : List Cell). cell_at c (first + n)) is ∙ get_or-set_same mid (first + n) (Some bytes) None within
      ∙ ap (λ (b : List ℕ). Some b) same

  each : (i : ℕ) → i < n + 1 → cell_at new (first + i) ≡ Some (get_or sectors i [])
  each i lt = ⊎_elim
      (λ before. elsewhere (first + i) (λ same'. omega (arith, before, same')) ∙ was.given i before)
      (λ late. (let at : i ≡ n = omega (arith, lt, late) in
      subst (λ (k : ℕ). cell_at new (first + k) ≡ Some (get_or sectors k [])) (sym at) here))
      (cases_lt i n)

  pub given_next : AreGiven first (n + 1) sectors old new
  given_next = record {
    others = record {
      size = ap (λ (c : List Cell). length c) is ∙ length-set mid (first + n) (Some bytes) ∙ was.others.size;
      before = λ k lt. elsewhere k (λ same'. omega (arith, lt, same')) ∙ was.others.before k lt;
      after = λ k le. elsewhere k (λ same'. omega (arith, le, same')) ∙ was.others.after k (omega (arith, le));
    };
    given = each;
  }
