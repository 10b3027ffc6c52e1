-- Blocks that a pass brings into memory and puts elsewhere, one at a time.
use Rattle.std.proofs.Common.{◌≡◌, ◌<◌, ◌≤◌, ◌⊎◌, ⊎_elim, ◌+◌, ℕ, List, [], ◌∷◌, refl, sym, ◌∙◌, ap, arith, inl, inr}
use Rattle.lfs_model.specs.Entry.{Entry, Data, Leaf, Double, Inode, Map, Usage}
use Rattle.lfs_model.specs.Members.{IsIn}
use Rattle.lfs_model.specs.Memory.{Memory, IsOfFile}
use Rattle.lfs_model.proofs.Entries.{same_entry}
use Rattle.lfs_memory.specs.Moving.{ComesIn, GoesOut, StaysPut}
use Rattle.lfs_log.specs.Brought.{HasBrought, IsPast, OutNumber, StaysOut}
use Rattle.lfs_log.specs.Groups.{closes_at}
use Rattle.lfs_log.specs.Relocating.{IsAmong, IsDataBlock, StandsWhere}

-- a block that may be brought: no group led through it before, or it is one of data in these segments
abbrev pub MayBring : List ℕ → ℕ → Memory → Entry → Type 0
MayBring victims group M x = (group < closes_at x) ⊎ IsAmong victims (M.at x)

-- one that closes later is none of data
no_data : (x : Entry) (group : ℕ) → group < closes_at x → IsDataBlock x → ⊥
no_data (Data n i) group lt is = absurd (omega (arith, lt))
no_data (Leaf n q) group lt is = is
no_data (Double n) group lt is = is
no_data (Inode n) group lt is = is
no_data (Map j) group lt is = is
no_data (Usage j) group lt is = is

module _ {victims : List ℕ} {total left group : ℕ} {M0 M : Memory} (so_far : HasBrought victims total left group M0 M) (x : Entry)
    (file : IsOfFile x) (stands : 2 ≤ M.at x) (may : MayBring victims group M x) where
  -- it wasn't brought before
  new : IsIn so_far.brought x → ⊥
  new is = ⊎_elim
      (λ (one : M.at x ≡ 1). absurd (omega (arith, one, stands)))
      (λ (past : IsPast victims group M x). ⊎_elim
      (λ (opens : group < closes_at x). let closed = past.closed in absurd (omega (arith, opens, closed)))
      (λ (among : IsAmong victims (M.at x)). past.outside among)
      may)
      (so_far.now x is)

  stood_there : StandsWhere (IsAmong victims) M0 x
  stood_there =
      let same = so_far.others x file new in (
        omega (arith, same, stands),
        λ is. ⊎_elim
            (λ (opens : group < closes_at x). absurd (no_data x group opens is))
            (λ (among : IsAmong victims (M.at x)). rw same at among)
            may,
      )

  -- it is one more than may be brought
  pub out_number : left ≡ 0 → OutNumber victims total M0
  out_number none = record {
    blocks = x ∷ so_far.brought;
    counted = let sum = so_far.counted in omega (arith, sum, none);
    apart = (new, so_far.apart);
    files = λ y is. ⊎_elim (λ (here : y ≡ x). rw here file) (λ (later : IsIn so_far.brought y). so_far.files y later) is;
    stood = λ y is. ⊎_elim (λ (here : y ≡ x). rw here stood_there) (λ (later : IsIn so_far.brought y). so_far.stood y later) is;
  }

  pub brought_in : {M' : Memory} {left' : ℕ} → ComesIn M M' x → left' + 1 ≡ left → HasBrought victims total left' group M0 M'
  brought_in {M'} {left'} comes fewer = record {
    brought = x ∷ so_far.brought;
    counted = let sum = so_far.counted in omega (arith, sum, fewer);
    apart = (new, so_far.apart);
    files = λ y is. ⊎_elim (λ (here : y ≡ x). rw here file) (λ (later : IsIn so_far.brought y). so_far.files y later) is;
    stood = λ y is. ⊎_elim (λ (here : y ≡ x). rw here stood_there) (λ (later : IsIn so_far.brought y). so_far.stood y later) is;
    now = λ y is. ⊎_elim
        (λ (here : y ≡ x). inl (ap M'.at here ∙ comes.now))
        (λ (later : IsIn so_far.brought y).
        let same = comes.others y (so_far.files y later) (λ h. new (rw (← h) later)) in
        ⊎_elim
        (λ (one : M.at y ≡ 1). inl (same ∙ one))
        (λ (past : IsPast victims group M y).
        inr (record { outside = λ among. past.outside (rw (← same) among); closed = past.closed }))
        (so_far.now y later))
        is;
    inside = λ y own one. ⊎_elim
        (λ (here : y ≡ x). inl here)
        (λ (other : y ≡ x → ⊥). inr (so_far.inside y own (sym (comes.others y own other) ∙ one)))
        (same_entry y x);
    others = λ y own none. comes.others y own (λ h. none (inl h)) ∙ so_far.others y own (λ later. none (inr later));
  }

-- one that was brought goes to another segment
pub brought_out : {victims : List ℕ} {total left group : ℕ} {M0 M M' : Memory} {x : Entry} → HasBrought victims total left group M0 M
    → GoesOut M M' x → (IsAmong victims (M'.at x) → ⊥) → closes_at x ≤ group → HasBrought victims total left group M0 M'
brought_out {victims} {group = group} {M = M} {M' = M'} {x = x} so_far goes outside closed = record {
  brought = so_far.brought;
  counted = so_far.counted;
  apart = so_far.apart;
  files = so_far.files;
  stood = so_far.stood;
  now = λ y is. ⊎_elim
      (λ (here : y ≡ x). inr (rw here (record { outside = outside; closed = closed })))
      (λ (other : y ≡ x → ⊥).
      let same = goes.others y other in
      ⊎_elim
      (λ (one : M.at y ≡ 1). inl (same ∙ one))
      (λ (past : IsPast victims group M y). inr (record { outside = λ among. past.outside (rw (← same) among); closed = past.closed }))
      (so_far.now y is))
      (same_entry y x);
  inside = λ y own one. ⊎_elim
      (λ (here : y ≡ x). let up = goes.now in let at = ap M'.at here in absurd (omega (arith, up, at, one)))
      (λ (other : y ≡ x → ⊥). so_far.inside y own (sym (goes.others y other) ∙ one))
      (same_entry y x);
  others = λ y own none. ⊎_elim
      (λ (here : y ≡ x). absurd (none (so_far.inside y own (ap M.at here ∙ goes.was))))
      (λ (other : y ≡ x → ⊥). goes.others y other ∙ so_far.others y own none)
      (same_entry y x);
}

-- the next group
pub brought_later : {victims : List ℕ} {total left group : ℕ} (group' : ℕ) {M0 M : Memory} → group ≤ group'
    → HasBrought victims total left group M0 M → HasBrought victims total left group' M0 M
brought_later {victims} {group = group} group' {M = M} le so_far = record {
  brought = so_far.brought;
  counted = so_far.counted;
  apart = so_far.apart;
  files = so_far.files;
  stood = so_far.stood;
  now = λ y is. ⊎_elim
      (λ (one : M.at y ≡ 1). inl one)
      (λ (past : IsPast victims group M y).
      inr (record { outside = past.outside; closed = let closed = past.closed in omega (arith, closed, le) }))
      (so_far.now y is);
  inside = so_far.inside;
  others = so_far.others;
}

-- no block moved
pub brought_still : {victims : List ℕ} {total left group : ℕ} {M0 M M' : Memory} → StaysPut M M' → HasBrought victims total left group M0 M
    → HasBrought victims total left group M0 M'
brought_still {victims} {group = group} {M = M} put so_far = record {
  brought = so_far.brought;
  counted = so_far.counted;
  apart = so_far.apart;
  files = so_far.files;
  stood = so_far.stood;
  now = λ y is. ⊎_elim
      (λ (one : M.at y ≡ 1). inl (put y ∙ one))
      (λ (past : IsPast victims group M y). inr (record { outside = λ among. past.outside (rw (← put y) among); closed = past.closed }))
      (so_far.now y is);
  inside = λ y own one. so_far.inside y own (sym (put y) ∙ one);
  others = λ y own none. put y ∙ so_far.others y own none;
}

-- nothing was brought where no block of a file is in memory
pub brought_none : {victims : List ℕ} (total : ℕ) {M : Memory} → ((x : Entry) → IsOfFile x → M.at x ≡ 1 → ⊥)
    → HasBrought victims total total 0 M M
brought_none total none = record {
  brought = [];
  counted = omega arith;
  apart = tt;
  files = λ x is. absurd is;
  stood = λ x is. absurd is;
  now = λ x is. absurd is;
  inside = λ x own one. absurd (none x own one);
  others = λ x own out. refl;
}

-- ---- what has left the segments
pub out_still : (victims : List ℕ) (M M' : Memory) → StaysPut M M' → StaysOut victims M M'
out_still victims M M' put x out up among = out (rw (← put x) up) (rw (← put x) among)

pub out_out : (victims : List ℕ) {M M' : Memory} {x : Entry} → GoesOut M M' x → (IsAmong victims (M'.at x) → ⊥) → StaysOut victims M M'
out_out victims {M} {M'} {x} goes outside y out up among = ⊎_elim
    (λ (here : y ≡ x). outside (rw (ap M'.at here) at among))
    (λ (other : y ≡ x → ⊥). let same = goes.others y other in out (rw same at up) (rw same at among))
    (same_entry y x)

pub out_in : (victims : List ℕ) {M M' : Memory} {x : Entry} → ((y : Entry) → IsOfFile y ⊎ (IsOfFile y → ⊥)) → ComesIn M M' x
    → StaysOut victims M M'
out_in victims {M} {M'} {x} split comes y out up among = ⊎_elim
    (λ (here : y ≡ x). let one = comes.now in let at = ap M'.at here in absurd (omega (arith, one, at, up)))
    (λ (other : y ≡ x → ⊥). ⊎_elim
    (λ (own : IsOfFile y). let same = comes.others y own other in out (rw same at up) (rw same at among))
    (λ (table : IsOfFile y → ⊥). ⊎_elim
    (λ (same : M'.at y ≡ M.at y). out (rw same at up) (rw same at among))
    (λ (one : M'.at y ≡ 1). absurd (omega (arith, one, up)))
    (comes.tables y table))
    (split y))
    (same_entry y x)
