-- A run of writes grows.
use Rattle.std.proofs.Common.{◌≡◌, ◌≢◌, ◌<◌, ◌+◌, ℕ, List, length, sym, ap, ◌∙◌, subst, arith, ⊎_elim}
use Rattle.std.proofs.Common.{get_or-set_other, get_or-set_same}
use Rattle.std.specs.Prelude.{slice_index_or, slice_set}
use Rattle.std.proofs.lemmas.Bool.{cases_lt}
use Rattle.lfs_model.specs.declared.Order.{Order}
use Rattle.lfs_model.specs.declared.Order.TheVariants.{Write}
use Rattle.lfs_queue.specs.Numbered.{HasNumber}
use Rattle.pansuyog.specs.Orders.{AreRun}
use Rattle.pansuyog.specs.declared.orders.Sector.{Sector}

module _ (told : List Order) (number first n : ℕ) (old new : List Sector) (x : Sector) (is : new ≡ slice_set old n x)
    (within : n < length old) (has : HasNumber told (number + n) (Write (first + n) x.bytes)) where
  here : (none : Sector) → slice_index_or new n none ≡ x
  here none = ap (λ (l : List Sector). slice_index_or l n none) is ∙ get_or-set_same old n x none within

  longer : AreRun told number first n old → (i : ℕ) (none : Sector) → i < n + 1
      → HasNumber told (number + i) (Write (first + i) (slice_index_or new i none).bytes)
  longer run i none lt = ⊎_elim
      (λ before. (let other : i ≢ n = λ same. omega (arith, before, same) in
      let at : slice_index_or new i none ≡ slice_index_or old i none = ap (λ (l : List Sector). slice_index_or l i none) is
      ∙ get_or-set_other old n i x none other in
      subst (λ (s : Sector). HasNumber told (number + i) (Write (first + i) s.bytes)) (sym at) (run.each i none before)))
      (λ late. (let at : i ≡ n = omega (arith, lt, late) in
      subst (λ (k : ℕ). HasNumber told (number + k) (Write (first + k) (slice_index_or new k none).bytes)) (sym at)
      (subst (λ (s : Sector). HasNumber told (number + n) (Write (first + n) s.bytes)) (sym (here none)) has)))
      (cases_lt i n)
