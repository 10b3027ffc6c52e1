-- Stages by number.
use Rattle.lfs_verify.proofs.Tests.{fails_by}
use Rattle.std.proofs.Common.{◌≡◌, ◌↔◌, ◌+◌, ◌*◌, ⊎_elim, ℕ, suc, Bool, true, false, List, length, get_or, sym, subst, arith}
use Rattle.std.proofs.lemmas.Bool.{cases_eq}
use Rattle.lfs_model.specs.Damage.{stage, IsDamaged}
use Rattle.lfs_model.specs.Reach.{View}
use Rattle.lfs_model.specs.Stands.{Usages, IsRows, Maps, Inodes, Roots, Leaves, Blocks, AreNamed, AreCounted, Stages}
use Rattle.lfs_verify.specs.Codes.{HoldsBelow, Passed}
use Rattle.lfs_verify.specs.Tables.{IsUsedTable, IsLiveTable}
use Rattle.lfs_verify.specs.Take.{Advances}
use Rattle.lfs_verify.specs.UsageTables.{SaysAll}
use Rattle.lfs_verify.specs.Walk.{Walked, IsBounded}
use Rattle.lfs_verify.proofs.Steps.{walked_start}
use Rattle.lfs_verify.proofs.SegmentTables.{used_table}
use Rattle.lfs_verify.proofs.Takes.{goes_true, goes_false, as_it_is}

-- one stage more
pub below_next : (v : View) (j : ℕ) → HoldsBelow v j → stage v j → HoldsBelow v (suc j)
below_next v j below here k lt =
    ⊎_elim (λ (same : k ≡ j). subst (stage v) (sym same) here) (λ (other : k ≡ j → ⊥). below k (omega arith)) (cases_eq k j)

-- the stages of the pointers
pub stage_5 : {v : View} → Roots v → stage v 5
unfolding stage
stage_5 here = here

pub stage_6 : {v : View} → Leaves v → stage v 6
unfolding stage
stage_6 here = here

-- those of the other numbers
pub stage_1 : (v : View) → stage v 1 ↔ Usages v
unfolding stage
stage_1 v = as_it_is

pub stage_2 : (v : View) → stage v 2 ↔ IsRows v
unfolding stage
stage_2 v = as_it_is

pub stage_3 : (v : View) → stage v 3 ↔ Maps v
unfolding stage
stage_3 v = as_it_is

pub stage_4 : (v : View) → stage v 4 ↔ Inodes v
unfolding stage
stage_4 v = as_it_is

pub stage_7 : (v : View) → stage v 7 ↔ Blocks v
unfolding stage
stage_7 v = as_it_is

pub stage_8 : (v : View) → stage v 8 ↔ AreNamed v
unfolding stage
stage_8 v = as_it_is

pub stage_9 : (v : View) → stage v 9 ↔ AreCounted v
unfolding stage
stage_9 v = as_it_is

-- no stage has the number 0
pub below_1 : (v : View) → HoldsBelow v 1
unfolding stage
below_1 v k lt = let e : 0 ≡ k = omega arith in subst (stage v) e tt

pub nine_stages : (v : View) → HoldsBelow v 10 → Stages v
unfolding stage
nine_stages v below = record {
  usages = below 1 (omega arith);
  rows = below 2 (omega arith);
  maps = below 3 (omega arith);
  inodes = below 4 (omega arith);
  roots = below 5 (omega arith);
  leaves = below 6 (omega arith);
  blocks = below 7 (omega arith);
  named = below 8 (omega arith);
  counted = below 9 (omega arith);
}

pub passed_of : {v : View} {marks : List ℕ} {r code : ℕ} → IsBounded v → HoldsBelow v code → Walked v marks r → Passed v marks r code
passed_of bounded below w = record { bounded = bounded; below = below; walked = w }

-- a walk begins with no mark
pub passed_none : {v : View} (marks : List ℕ) → IsBounded v → length marks ≡ 2 + 64 * v.checkpoint.segments
    → ((a : ℕ) → get_or marks a 0 ≡ 0) → Passed v marks 0 1
passed_none {v} marks bounded size empty = passed_of bounded (below_1 v) (walked_start v size empty)

-- one stage more, which may have taken blocks
pub pass : (v : View) {old new : List ℕ} {r s code : ℕ} → Passed v old r code → stage v code → Walked v new s → Passed v new s (suc code)
pass v {code} passed here w = passed_of passed.bounded (below_next v code passed.below here) w

-- a stage that fails is the first
pub damage : (v : View) {marks : List ℕ} {r code n : ℕ} → Passed v marks r code → code ≡ n → (stage v code → ⊥) → IsDamaged v n
damage v passed is fails = subst (IsDamaged v) is (passed.below, fails)

module _ {v : View} {code : ℕ} {old : List ℕ} {r : ℕ} (passed : Passed v old r code) where
  -- the stage takes blocks
  pub walk_pass : {new : List ℕ} {s : ℕ} {x : Bool} → x ≡ true → Advances v old new r s (stage v code) x
      → (Walked v new s → IsBounded v → stage v code) → Passed v new s (suc code)
  walk_pass is goes here = let w = goes_true _ is goes passed.walked in pass v passed (here w passed.bounded) w

  pub walk_fails : (new : List ℕ) (s : ℕ) {x : Bool} → x ≡ false → Advances v old new r s (stage v code) x
      → {n : ℕ} → code ≡ n → IsDamaged v n
  walk_fails new s is goes number = damage v passed number (goes_false new s is goes passed.walked)

  -- the stage looks at what was taken
  pub look_pass : {x : Bool} → x ≡ true → (x ≡ true) ↔ stage v code → Passed v old r (suc code)
  look_pass is tells = pass v passed (tells.0 is) passed.walked

  pub look_fails : {x : Bool} → x ≡ false → (x ≡ true) ↔ stage v code → {n : ℕ} → code ≡ n → IsDamaged v n
  look_fails is tells number = damage v passed number (fails_by is tells)

-- the tables that stage 1 copied
pub used_says : {v : View} (used live : List ℕ) → Usages v → length used ≡ v.checkpoint.segments → SaysAll v used live → IsUsedTable v used
used_says {v} used live usages size says = used_table v usages size (λ s lt. (says s lt).0)

pub live_says : (v : View) (used live : List ℕ) → length live ≡ v.checkpoint.segments → SaysAll v used live → IsLiveTable v live
live_says v used live size says = record { size = size; each = λ s lt. (says s lt).1 }
