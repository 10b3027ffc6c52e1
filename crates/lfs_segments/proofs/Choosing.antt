-- Segments chosen one after the other: they are the first ones of their order.
use Rattle.std.proofs.Common.{◌≡◌, ◌⊎◌, ⊎_elim, ◌+◌, ℕ, suc, List, [], ◌∷◌, ◌++◌, length, get_or, Option, Some, None, refl, sym}
use Rattle.std.proofs.Common.{subst, arith, inl, inr}
use Rattle.std.specs.Prelude.{⊤}
use Rattle.std.specs.List.{AllByRecursion}
use Rattle.std.proofs.lemmas.Bool.{cases_lt}
use Rattle.std.proofs.lemmas.List.Quantifiers.{all_pairs_push}
use Rattle.lfs_model.specs.Members.{IsIn, AreApart}
use Rattle.lfs_segments.specs.declared.candidate.Candidate.{Candidate}
use Rattle.lfs_segments.specs.declared.candidate.Preference.{Preference}
use Rattle.lfs_segments.specs.Choosing.{IsAhead, IsBehind, IsCandidate, IsKnown, Leads, Precedes, Reaches}
use Rattle.lfs_segments.specs.Table.{UsageTable}
use Rattle.lfs_segments.specs.Victims.{MayBeVictim, AreFirst}
use Rattle.lfs_segments.proofs.LeastSums.{in_pushed, was_in, last_in, apart_pushed, all_pushed}
use Rattle.lfs_segments.proofs.Firsts.{at_in, in_or_out}
use Rattle.lfs_segments.proofs.Orders.{is_order}

-- ---- the first candidate so far, of the segments below s
module _ (t : UsageTable) (p : Preference) (last : Option Candidate) where
  -- what comes before the next one comes before what that one reaches
  on_reaches : (next : Option Candidate) (c : Candidate) (i : ℕ) → IsAhead t p next c.segment → Reaches t p next i → Reaches t p (Some c) i
  on_reaches None c i ahead reaches = absurd reaches
  on_reaches (Some n) c i ahead reaches = inr (⊎_elim
      (λ here. subst (λ z. Precedes t p c.segment z) here ahead)
      (λ later. (is_order t p).through c.segment n.segment i ahead later)
      reaches)

  -- the one that an option holds comes behind the last one
  abbrev IsBehindOf : Option Candidate → Type 0
  IsBehindOf None = ⊤
  IsBehindOf (Some c) = IsBehind t p last c.segment

  -- a segment takes its place, where it comes before
  pub leads_on : (next : Option Candidate) {c : Candidate} → Leads t p last c.segment next → IsCandidate t c → IsBehind t p last c.segment
      → IsAhead t p next c.segment → Leads t p last (suc c.segment) (Some c)
  leads_on next {c} is there behind ahead = record {
    least = λ i low used after. ⊎_elim
        (λ before. on_reaches next c i ahead (is.least i before used after))
        (λ here. inl (omega arith))
        (cases_lt i c.segment);
    known = there;
    behind = λ d same. subst (λ o. IsBehindOf o) same behind;
  }

-- ---- what is chosen so far, and the last one of it
abbrev pub IsEnd : UsageTable → Preference → Option Candidate → List ℕ → Type 0
IsEnd t p None xs = xs ≡ []
IsEnd t p (Some c) xs = IsIn xs c.segment × ((x : ℕ) → IsIn xs x → (x ≡ c.segment) ⊎ Precedes t p x c.segment)

pub record Picked (t : UsageTable) (p : Preference) (last : Option Candidate) (xs : List ℕ) : Type 0 where
  pub first : AreFirst t (Precedes t p) xs
  pub each : AllByRecursion (MayBeVictim t) xs
  pub apart : AreApart xs
  pub end : IsEnd t p last xs
  pub known : IsKnown t last

module _ (t : UsageTable) (p : Preference) where
  abbrev R : ℕ → ℕ → Type 0
  R = Precedes t p

  -- what comes behind the last one isn't chosen
  out_behind : (last : Option Candidate) (xs : List ℕ) (s : ℕ) → IsEnd t p last xs → IsBehind t p last s → IsIn xs s → ⊥
  out_behind None xs s end behind is = subst (λ ys. IsIn ys s) end is
  out_behind (Some c) xs s end behind is = grind arith

  -- and what isn't chosen comes behind it
  behind_out : (last : Option Candidate) {xs : List ℕ} (s : ℕ) → IsEnd t p last xs → AreFirst t R xs → MayBeVictim t s → (IsIn xs s → ⊥)
      → IsBehind t p last s
  behind_out None s end first used out = tt
  behind_out (Some c) s end first used out = first.others c.segment s end.0 used out

  module _ (last : Option Candidate) (xs : List ℕ) (c : Candidate) (was : Picked t p last xs)
      (leads : Leads t p last (length t.segments) (Some c)) where
    x : ℕ
    x = c.segment

    behind : IsBehind t p last c.segment
    behind = leads.behind c refl

    new : IsIn xs c.segment → ⊥
    new is = out_behind last xs c.segment was.end behind is

    used : MayBeVictim t c.segment
    used = leads.known.used

    -- others come behind it
    before_others : (s : ℕ) → MayBeVictim t s → (IsIn (xs ++ c.segment ∷ []) s → ⊥) → R c.segment s
    before_others s there out = ⊎_elim
        (λ here. absurd (out (subst (λ z. IsIn (xs ++ c.segment ∷ []) z) here (last_in xs c.segment))))
        (λ later. later)
        (leads.least s there.0 there (behind_out last s was.end was.first there (λ is. out (was_in xs c.segment s is))))

    -- The next one is chosen too.
    pub picked_next : Picked t p (Some c) (xs ++ c.segment ∷ [])
    picked_next = record {
      first = record {
        ordered = all_pairs_push R xs c.segment was.first.ordered
            (λ k d low. was.first.others (get_or xs k d) c.segment (at_in xs k d low) used new);
        others = λ v s is there out. ⊎_elim
            (λ before. was.first.others v s before there (λ in_xs. out (was_in xs c.segment s in_xs)))
            (λ here. subst (λ z. R z s) (sym here) (before_others s there out))
            (in_pushed xs c.segment v is);
      };
      each = all_pushed (MayBeVictim t) xs c.segment was.each used;
      apart = apart_pushed xs c.segment was.apart new;
      end = (
        last_in xs c.segment,
        λ y is. ⊎_elim
            (λ before. inr (was.first.others y c.segment before used new))
            (λ here. inl here)
            (in_pushed xs c.segment y is),
      );
      known = leads.known;
    }

  -- where no candidate is left, each segment that may be cleaned is chosen
  pub none_left : {last : Option Candidate} (xs : List ℕ) → Picked t p last xs → Leads t p last (length t.segments) None → (s : ℕ)
      → MayBeVictim t s → IsIn xs s
  none_left {last} xs was leads s there = ⊎_elim
      (λ is. is)
      (λ out. absurd (leads.least s there.0 there (behind_out last s was.end was.first there out))) (in_or_out xs s)

-- a list with one more is longer by one
pub length_pushed : (xs : List ℕ) (x : ℕ) → length (xs ++ x ∷ []) ≡ length xs + 1
length_pushed [] x = refl
length_pushed (y ∷ ys) x = omega (arith, length_pushed ys x)
