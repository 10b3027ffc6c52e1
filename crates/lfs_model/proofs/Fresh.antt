-- A new volume is sound.
use Rattle.std.proofs.Common.{◌≡◌, ◌≢◌, refl, sym, ap, subst, ℕ, ◌≤◌, true, List, [], Option, Some, None, arith, cond}
use Rattle.std.specs.Prelude.{unwrap_or}
use Rattle.std.specs.FinMap.{find}
use Rattle.lfs_model.specs.Tree.{Node, File, Dir, entry, byte_cmp, names_of, node, is_dir, links}
use Rattle.lfs_model.specs.Need.{need, data_of, meta_of}
use Rattle.lfs_model.specs.Sound.{Sound, IsReachable, root, IsWithinLimits, IsOfVersion}
use Rattle.lfs_model.specs.Plain.{fresh}
use Rattle.lfs_model.proofs.Trees.{cmp_other}
use Rattle.lfs_model.proofs.Walks.{Some-injective}
use Rattle.lfs_model.proofs.Growing.{same_or_not}

-- the root is its only node
none_else : (n : ℕ) → n ≢ 1 → node fresh.tree n ≡ None
none_else n ne = ap (λ b. cond b (Some (Dir 0 [])) None) (cmp_other n 1 ne)

each : (P : ℕ → Node → Type 0) → P 1 (Dir 0 []) → (n : ℕ) (x : Node) → node fresh.tree n ≡ Some x → P n x
each P one n x h = same_or_not n 1
    (λ e. let same : Dir 0 [] ≡ x = Some-injective (subst (λ k. node fresh.tree k ≡ Some x) e h) in
    subst (λ k. P k x) (sym e) (subst (P 1) same one))
    (λ ne. absurd (let none = none_else n ne in cc))

at_one : (P : ℕ → Type 0) → P 1 → (n : ℕ) → node fresh.tree n ≢ None → P n
at_one P one n some = same_or_not n 1 (λ e. subst P (sym e) one) (λ ne. absurd (some (none_else n ne)))

dir_there : (o : Option Node) → is_dir o ≡ true → o ≢ None
dir_there None h none = cc
dir_there (Some x) h none = cc

new_need : need fresh.tree ≡ 727
unfolding data_of meta_of
new_need = refl

no_entry : (n : ℕ) (name : List ℕ) (k : ℕ) → entry fresh.tree n name ≡ Some k → ⊥
no_entry n name k e = same_or_not n 1
    (λ at. let here : entry fresh.tree 1 name ≡ Some k = subst (λ d. entry fresh.tree d name ≡ Some k) at e in absurd (cc here))
    (λ ne. let none = none_else n ne in
    let gone : entry fresh.tree n name ≡ None = ap (λ o. find byte_cmp name (names_of (unwrap_or o (File [])))) none in cc)

pub fresh_sound : (N : ℕ) → 64 ≤ N → Sound N fresh
fresh_sound N h = record {
  in_order = tt;
  handles_in_order = tt;
  version = (omega arith, omega arith);
  forms = each (λ n x. IsOfVersion 1 x) (omega arith);
  root = refl;
  numbers = at_one (λ n. (1 ≤ n) × (n ≤ 4095)) (omega arith, omega arith);
  limits = each (λ n x. IsWithinLimits x) (tt, omega arith, tt);
  few_links = at_one (λ n. links fresh.tree n ≤ 1000) (omega arith);
  named = λ d name n e. absurd (no_entry d name n e);
  root_unnamed = refl;
  one_name = λ n ne dir. absurd (dir_there (node fresh.tree n) dir (none_else n ne));
  reached = λ n dir. at_one (IsReachable fresh.tree) root n (dir_there (node fresh.tree n) dir);
  held = λ n ne some none. absurd (some (none_else n ne));
  handles = λ g n e. absurd (cc e);
  room = let is = new_need in omega arith;
}
