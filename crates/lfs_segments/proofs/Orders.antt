-- The orders in which segments are chosen: of two segments one comes first,
-- and what comes before one that comes before a third comes before that too.
use Rattle.std.proofs.Common.{◌≡◌, ◌<◌, ◌≤◌, ◌⊎◌, ⊎_elim, ◌*◌, ℕ, arith}
use Rattle.std.proofs.Math.Nat.{mul-le-mul_right}
use Rattle.std.proofs.lemmas.Bool.{cases_lt}
use Rattle.lfs_segments.specs.declared.candidate.Preference.{Preference}
use Rattle.lfs_segments.specs.declared.candidate.Preference.TheVariants as preference
use Rattle.lfs_segments.specs.Table.{UsageTable}
use Rattle.lfs_segments.specs.Victims.{benefit_of, cost_of, ComesBefore, IsPreferred}
use Rattle.lfs_segments.specs.Choosing.{Precedes}

pub record IsOrder (R : ℕ → ℕ → Type 0) : Type 0 where
  pub one_way : (a b : ℕ) → R a b → R b a → ⊥
  pub through : (a b c : ℕ) → R a b → R b c → R a c
  pub either : (a b : ℕ) → (a ≡ b → ⊥) → R a b ⊎ R b a

-- ---- quotients, as products
-- n / d is no less than n' / d'
abbrev AtLeast : ℕ → ℕ → ℕ → ℕ → Type 0
AtLeast n d n' d' = n' * d ≤ n * d'

-- what is no less than one that is no less than a third is no less than that
at_least : (n d n' d' n'' d'' : ℕ) → 0 < d' → AtLeast n d n' d' → AtLeast n' d' n'' d'' → AtLeast n d n'' d''
at_least n d n' d' n'' d'' some one two = ⊎_elim
    (λ less.
    absurd (omega (arith, mul-le-mul_right d'' one, mul-le-mul_right d two, mul-le-mul_right d' less)))
    (λ is. is)
    (cases_lt (n * d'') (n'' * d))

-- greater, or as great and the lower number
abbrev Goes : (n d s n' d' s' : ℕ) → Type 0
Goes n d s n' d' s' = (n' * d < n * d') ⊎ ((n' * d ≡ n * d') × (s < s'))

goes_least : (n d s n' d' s' : ℕ) → Goes n d s n' d' s' → AtLeast n d n' d'
goes_least n d s n' d' s' go = grind arith

goes_one_way : (n d s n' d' s' : ℕ) → Goes n d s n' d' s' → Goes n' d' s' n d s → ⊥
goes_one_way n d s n' d' s' go back = grind arith

goes_through : (n d s n' d' s' n'' d'' s'' : ℕ) → 0 < d → 0 < d' → 0 < d'' → Goes n d s n' d' s' → Goes n' d' s' n'' d'' s''
    → Goes n d s n'' d'' s''
goes_through n d s n' d' s' n'' d'' s'' some some' some'' go on =
    let a = goes_least n d s n' d' s' go in
    let b = goes_least n' d' s' n'' d'' s'' on in
    let all = at_least n d n' d' n'' d'' some' a b in
    grind (arith, at_least n'' d'' n d n' d' some, at_least n' d' n'' d'' n d some'')

goes_either : (n d s n' d' s' : ℕ) → (s ≡ s' → ⊥) → Goes n d s n' d' s' ⊎ Goes n' d' s' n d s
goes_either n d s n' d' s' apart = grind arith

-- ---- the two orders
costs : (t : UsageTable) (s : ℕ) → 0 < cost_of t s
costs t s = omega arith

by_benefit : (t : UsageTable) (now : ℕ) → IsOrder (IsPreferred t now)
by_benefit t now = record {
  one_way = λ a b. goes_one_way (benefit_of t now a) (cost_of t a) a (benefit_of t now b) (cost_of t b) b;
  through = λ a b c. goes_through (benefit_of t now a) (cost_of t a) a (benefit_of t now b) (cost_of t b) b (benefit_of t now c)
      (cost_of t c) c (costs t a) (costs t b) (costs t c);
  either = λ a b. goes_either (benefit_of t now a) (cost_of t a) a (benefit_of t now b) (cost_of t b) b;
}

by_load : (t : UsageTable) → IsOrder (ComesBefore t)
by_load t = grind arith

pub is_order : (t : UsageTable) (p : Preference) → IsOrder (Precedes t p)
is_order t (preference.Benefit now) = by_benefit t now
is_order t preference.Load = by_load t
