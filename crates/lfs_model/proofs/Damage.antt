-- The stages by number.
use Rattle.std.proofs.Common.{◌≡◌, ◌<◌, ◌≤◌, ◌==◌, ℕ, Bool, true, false, MatchBool, arith, ⊎_elim}
use Rattle.std.proofs.lemmas.Bool.{cases_lt, ne_eqb}
use Rattle.lfs_model.specs.Reach.{View}
use Rattle.lfs_model.specs.Stands.{EnoughClean, Stages}
use Rattle.lfs_model.specs.Damage.{stage, HoldsTree, StagesByNumber, NotDamaged, OneDamage, DamageCodes}

abbrev By : View → Type 0
By v = (k : ℕ) → stage v k

stages_from : (v : View) → By v → Stages v
unfolding stage
stages_from v all = record {
  usages = all 1;
  rows = all 2;
  maps = all 3;
  inodes = all 4;
  roots = all 5;
  leaves = all 6;
  blocks = all 7;
  named = all 8;
  counted = all 9;
}

tree_from : (v : View) → By v → HoldsTree v
unfolding stage
tree_from v all = record { slots = all 10; texts = all 11; reached = all 12; links = all 13; room = all 14 }

clean_from : (v : View) → By v → EnoughClean v
unfolding stage
clean_from v all = all 15

choose : (b : Bool) (P Q : Type 0) → P → Q → MatchBool b P Q
choose true P Q p q = p
choose false P Q p q = q

each_stage : (v : View) → Stages v → HoldsTree v → EnoughClean v → By v
unfolding stage
each_stage v s t clean code =
    choose (code == 1) _ _ s.usages (choose (code == 2) _ _ s.rows (choose (code == 3) _ _ s.maps (choose (code == 4) _ _ s.inodes
    (choose (code == 5) _ _ s.roots (choose (code == 6) _ _ s.leaves (choose (code == 7) _ _ s.blocks (choose (code == 8) _ _ s.named
    (choose (code == 9) _ _ s.counted (choose (code == 15) _ _ clean
    (choose (code == 10) _ _ t.slots (choose (code == 11) _ _ t.texts (choose (code == 12) _ _ t.reached (choose (code == 13) _ _ t.links
    (choose (code == 14) _ _ t.room tt))))))))))))))

pub stages_by_number : StagesByNumber
stages_by_number v = ((λ all. (stages_from v all, tree_from v all, clean_from v all)), (λ each. each_stage v each.0 each.1 each.2))

pub not_damaged : NotDamaged
not_damaged v s t clean code damaged = damaged.1 (each_stage v s t clean code)

pub one_damage : OneDamage
one_damage v a b da db =
    ⊎_elim (λ (lt : a < b). absurd (da.1 (db.0 a lt)))
    (λ (le : b ≤ a). ⊎_elim (λ (lt : b < a). absurd (db.1 (da.0 b lt))) (λ (ge : a ≤ b). omega arith) (cases_lt b a))
    (cases_lt a b)

-- a number that isn't n
beyond : (code n : ℕ) (P Q : Type 0) → (code ≡ n → ⊥) → Q → MatchBool (code == n) P Q
beyond code n P Q ne q = go (code == n) (ne_eqb code n ne)
  where
    go : (b : Bool) → b ≡ false → MatchBool b P Q
    go true is = cc
    go false is = q

-- the numbers that no stage has
no_stage : (v : View) (code : ℕ) → (1 ≤ code → code ≤ 15 → ⊥) → stage v code
unfolding stage
no_stage v code none =
    beyond code 1 _ _ (λ e. not_here 1 e (omega arith) (omega arith)) (beyond code 2 _ _ (λ e. not_here 2 e (omega arith) (omega arith))
    (beyond code 3 _ _ (λ e. not_here 3 e (omega arith) (omega arith)) (beyond code 4 _ _ (λ e. not_here 4 e (omega arith) (omega arith))
    (beyond code 5 _ _ (λ e. not_here 5 e (omega arith) (omega arith)) (beyond code 6 _ _ (λ e. not_here 6 e (omega arith) (omega arith))
    (beyond code 7 _ _ (λ e. not_here 7 e (omega arith) (omega arith)) (beyond code 8 _ _ (λ e. not_here 8 e (omega arith) (omega arith))
    (beyond code 9 _ _ (λ e. not_here 9 e (omega arith) (omega arith)) (beyond code 15 _ _ (λ e. not_here 15 e (omega arith) (omega arith))
    (beyond code 10 _ _ (λ e. not_here 10 e (omega arith) (omega arith))
    (beyond code 11 _ _ (λ e. not_here 11 e (omega arith) (omega arith))
    (beyond code 12 _ _ (λ e. not_here 12 e (omega arith) (omega arith))
    (beyond code 13 _ _ (λ e. not_here 13 e (omega arith) (omega arith))
    (beyond code 14 _ _ (λ e. not_here 14 e (omega arith) (omega arith)) tt))))))))))))))
  where
    not_here : (n : ℕ) → code ≡ n → 1 ≤ n → n ≤ 15 → ⊥
    not_here n e low high = none (omega arith) (omega arith)

pub damage_codes : DamageCodes
damage_codes v code damaged =
    ⊎_elim
    (λ (low : code < 1). absurd (damaged.1 (no_stage v code (λ a b. omega arith))))
    (λ (some : 1 ≤ code). ⊎_elim (λ (high : 15 < code). absurd (damaged.1 (no_stage v code (λ a b. omega arith))))
    (λ (le : code ≤ 15). (some, le)) (cases_lt 15 code))
    (cases_lt code 1)
