-- The stages by number, as the codes of damage name them.
-- The numbers are an own choice.
use Rattle.std.specs.Prelude.{◌≡◌, ◌<◌, ◌≤◌, ◌↔◌, ◌==◌, ℕ, MatchBool}
use Rattle.lfs_model.specs.Reach.{View}
use Rattle.lfs_model.specs.Stands.{Usages, IsRows, Maps, Inodes, Roots, Leaves, Blocks, AreNamed, AreCounted, EnoughClean, Stages, log_in}
use Rattle.lfs_model.specs.TreeOf.{IsTree, tree_stage}

-- The stage of each number. A number that no stage has holds.
unfoldable pub stage : View → ℕ → Type 0
stage v code =
    MatchBool (code == 1) (Usages v) (
    MatchBool (code == 2) (IsRows v) (
    MatchBool (code == 3) (Maps v) (
    MatchBool (code == 4) (Inodes v) (
    MatchBool (code == 5) (Roots v) (
    MatchBool (code == 6) (Leaves v) (
    MatchBool (code == 7) (Blocks v) (
    MatchBool (code == 8) (AreNamed v) (
    MatchBool (code == 9) (AreCounted v) (
    MatchBool (code == 15) (EnoughClean v) (
    tree_stage v.checkpoint.segments (log_in v) code))))))))))

-- the first stage that fails is this one
abbrev pub IsDamaged : View → ℕ → Type 0
IsDamaged v code = ((k : ℕ) → k < code → stage v k) × (stage v code → ⊥)

abbrev pub HoldsTree : View → Type 0
HoldsTree v = IsTree v.checkpoint.segments (log_in v)

-- All stages hold exactly where each number's does.
abbrev pub StagesByNumber : Type 0
StagesByNumber = (v : View) → ((k : ℕ) → stage v k) ↔ (Stages v × HoldsTree v × EnoughClean v)

-- Where they hold there is no damage; damage has one code, and it is a stage's.
abbrev pub NotDamaged : Type 0
NotDamaged = (v : View) → Stages v → HoldsTree v → EnoughClean v → (code : ℕ) → ¬ (IsDamaged v code)

abbrev pub OneDamage : Type 0
OneDamage = (v : View) (a b : ℕ) → IsDamaged v a → IsDamaged v b → a ≡ b

abbrev pub DamageCodes : Type 0
DamageCodes = (v : View) (code : ℕ) → IsDamaged v code → (1 ≤ code) × (code ≤ 15)
