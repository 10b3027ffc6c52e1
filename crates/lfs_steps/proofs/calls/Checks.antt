-- Lists of refusals, one condition at a time.
use Rattle.lfs_steps.proofs.Prelude.{◌≡◌, ◌<◌, ◌≤◌, ℕ, Bool, true, false, List, ◌∷◌, Option, Some, None, ap, nat_lt, nat_le, arith, is_none}
use Rattle.lfs_steps.proofs.Prelude.{if◌then◌else◌, nat_tests, Answer, checked, State}

pub refuses : (s : State) {b : Bool} (a : Answer) (cs : List (Bool × Answer)) (otherwise : Answer × State) → b ≡ true
    → checked s ((b, a) ∷ cs) otherwise ≡ (a, s)
refuses s a cs otherwise e = ap (λ (x : Bool). if x then (a, s) else checked s cs otherwise) e

pub passes : (s : State) (b : Bool) (a : Answer) (cs : List (Bool × Answer)) (otherwise : Answer × State) → b ≡ false
    → checked s ((b, a) ∷ cs) otherwise ≡ checked s cs otherwise
passes s b a cs otherwise e = ap (λ (x : Bool). if x then (a, s) else checked s cs otherwise) e

-- ---- conditions
pub is_some : {X : Type 0} {o : Option X} {x : X} → o ≡ Some x → is_none o ≡ false
is_some e = ap is_none e

pub is_missing : {X : Type 0} (o : Option X) → o ≡ None → is_none o ≡ true
is_missing o e = ap is_none e

pub below : (a b : ℕ) → a < b → nat_lt a b ≡ true
below a b lt = grind (arith, nat_tests)

pub not_below : (a b : ℕ) → b ≤ a → nat_lt a b ≡ false
not_below a b le = grind (arith, nat_tests)

pub at_most : (a b : ℕ) → a ≤ b → nat_le a b ≡ true
at_most a b le = grind (arith, nat_tests)

pub not_at_most : (a b : ℕ) → b < a → nat_le a b ≡ false
not_at_most a b lt = grind (arith, nat_tests)
