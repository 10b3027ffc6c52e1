-- The first sectors of a longer device.
use Rattle.std.proofs.Common.{◌≡◌, inl, inr, ℕ, ◌<◌, ◌≤◌, List, length, take, Some, None, sym, ◌∙◌, arith}
use Rattle.std.proofs.Math.Seq.{take-set-lt}
use Rattle.std.proofs.lemmas.Bool.{cases_lt}
use Rattle.std.proofs.lemmas.List.{length-take, get_or-take, get_or_past, set_past, take-set-le}
use Rattle.lfs_model.specs.Device.{Cell, MayWriteUnit, cell_at, put}

module _ (n : ℕ) where
  short : (c : List Cell) → length (take n c) ≤ n
  short c = let long = length-take n c in omega (arith, long)

  pub put_first : (c : List Cell) (sector : ℕ) (bytes : List ℕ) → take n (put c sector bytes) ≡ put (take n c) sector bytes
  put_first c sector bytes = elim (cases_lt sector n) [
    | inl inside ↦ take-set-lt n c sector (Some bytes) inside
    | inr past ↦ take-set-le n c sector (Some bytes) past
        ∙ sym (set_past (take n c) sector (Some bytes) (let few = short c in omega (arith, few, past)))
  ]

  -- a sector behind them isn't there
  behind : (c : List Cell) (k : ℕ) → n ≤ k → cell_at (take n c) k ≡ None
  behind c k past = get_or_past (take n c) k None (let few = short c in omega (arith, few, past))

  here : (c : List Cell) (k : ℕ) → k < n → cell_at (take n c) k ≡ cell_at c k
  here c k inside = get_or-take n c k None inside

  same : (d c : List Cell) (k : ℕ) → cell_at c k ≡ cell_at d k → cell_at (take n c) k ≡ cell_at (take n d) k
  same d c k is = elim (cases_lt k n) [
    | inl inside ↦ here c k inside ∙ is ∙ sym (here d k inside)
    | inr past ↦ behind c k past ∙ sym (behind d k past)
  ]

  pub unit_first : (unit : ℕ → ℕ) (sector : ℕ) (bytes : List ℕ) (d c : List Cell) → MayWriteUnit unit sector bytes d c
      → MayWriteUnit unit sector bytes (take n d) (take n c)
  unit_first unit sector bytes d c may = record {
    size = (let size = may.size in let long = length-take n c in let was = length-take n d in omega (arith, size, long, was));
    own = elim (cases_lt sector n) [
      | inl inside ↦ elim may.own [
        | inl is ↦ inl (same d c sector is)
        | inr (inl is) ↦ inr (inl (here c sector inside ∙ is))
        | inr (inr is) ↦ inr (inr (here c sector inside ∙ is))
      ]
      | inr past ↦ inl (behind c sector past ∙ sym (behind d sector past))
    ];
    beside = λ k e ne. elim (cases_lt k n) [
      | inl inside ↦ elim (may.beside k e ne) [
        | inl is ↦ inl (same d c k is)
        | inr is ↦ inr (here c k inside ∙ is)
      ]
      | inr past ↦ inr (behind c k past)
    ];
    others = λ k ne. same d c k (may.others k ne);
  }
