-- The first stage that fails.
-- All of it is an own choice.
use Rattle.std.specs.Prelude.{◌≡◌, ◌<◌, ℕ, List}
use Rattle.lfs_model.specs.Reach.{View}
use Rattle.lfs_model.specs.Damage.{stage, IsDamaged}
use Rattle.lfs_verify.specs.Walk.{Walked, IsBounded}
use Rattle.lfs_verify.specs.declared.fault.WalkFault.{WalkFault}
use Rattle.lfs_verify.specs.declared.fault.WalkFault.TheVariants.{NoMemory, Damaged, Device}

-- the stages of the numbers below this one hold
abbrev pub HoldsBelow : View → ℕ → Type 0
HoldsBelow v code = (k : ℕ) → k < code → stage v k

-- the fault names this stage
abbrev pub FaultIs : WalkFault → ℕ → Type 0
FaultIs NoMemory code = ⊥
FaultIs (Damaged x) code = x ≡ code
FaultIs Device code = ⊥

-- the stage that the fault names, if it does, is the first that fails
abbrev pub IsDamage : View → WalkFault → Type 0
IsDamage v e = (code : ℕ) → FaultIs e code → IsDamaged v code

-- the walk is before step r, and the stages of the numbers below this one hold
pub record Passed (v : View) (marks : List ℕ) (r code : ℕ) : Type 0 where
  pub bounded : IsBounded v
  pub below : HoldsBelow v code
  pub walked : Walked v marks r
