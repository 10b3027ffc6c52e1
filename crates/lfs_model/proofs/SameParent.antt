-- A rename within one directory is never refused for space.
use Rattle.std.proofs.Common.{◌≡◌, ◌≢◌, refl, sym, subst, ◌∙◌, ℕ, ◌*◌, ◌<◌, ◌≤◌, Bool, true, false, List, [], ◌∷◌, Option, Some, None}
use Rattle.std.proofs.Common.{arith}
use Rattle.std.specs.Prelude.{◌||◌, drop, not, is_some, unwrap_or, nat_lt, if◌then◌else◌}
use Rattle.std.specs.List.{AllByRecursion}
use Rattle.std.proofs.lemmas.Bool.Decides.{nat_tests}
use Rattle.lfs_model.specs.Tree.{Tree, State, node, entry, is_dir, with_name, without_name}
use Rattle.lfs_model.specs.Refusal.{NotDir, IsDir, NotEmpty, Inval, NameTooLong, NoEntry, Busy, TooManyLinks, NoSpace, DirFull}
use Rattle.lfs_model.specs.Walk.{End, At}
use Rattle.lfs_model.specs.Need.{need}
use Rattle.lfs_model.specs.Sound.{Sound}
use Rattle.lfs_model.specs.Call.{Answer, Refuse, Done, Rename}
use Rattle.lfs_model.specs.Step.{Holder, outcome, checked, when, no_last, last_dots, is_long, name, target, is_there, let_go, with_tree}
use Rattle.lfs_model.specs.Step.{renames, rename_list}
use Rattle.lfs_model.specs.Laws.{RenameHasSpace}
use Rattle.lfs_model.proofs.Keeps.{parent_dir}
use Rattle.lfs_model.proofs.Makes.{dir_at}
use Rattle.lfs_model.proofs.Renames.{same_need, less_need}
use Rattle.lfs_model.proofs.StepsAre.{path_ends_to}
use Rattle.lfs_model.proofs.Walks.{Some-injective}

-- no condition that holds gives NoSpace, and neither does what follows them
checked_other : (s : State) (cs : List (Bool × Answer)) (o : Answer × State) → AllByRecursion (λ c. c.0 ≡ true → c.1 ≢ Refuse NoSpace) cs
    → o.0 ≢ Refuse NoSpace → (checked s cs o).0 ≢ Refuse NoSpace
checked_other s [] o each last = last
checked_other s (c ∷ cs) o each last =
    elim c.0 as (λ b. (b ≡ true → c.1 ≢ Refuse NoSpace) → (if b then (c.1, s) else checked s cs o).0 ≢ Refuse NoSpace) [
      | true ↦ λ here. here refl
      | false ↦ λ here. checked_other s cs o each.1 last
    ] each.0

busy : Refuse Busy ≢ Refuse NoSpace
busy e = cc

inval : Refuse Inval ≢ Refuse NoSpace
inval e = cc

long : Refuse NameTooLong ≢ Refuse NoSpace
long e = cc

not_dir : Refuse NotDir ≢ Refuse NoSpace
not_dir e = cc

done : Done ≢ Refuse NoSpace
done e = cc

dir : Refuse IsDir ≢ Refuse NoSpace
dir e = cc

not_empty : Refuse NotEmpty ≢ Refuse NoSpace
not_empty e = cc

dir_full : Refuse DirFull ≢ Refuse NoSpace
dir_full e = cc

links : Refuse TooManyLinks ≢ Refuse NoSpace
links e = cc

absent : (s : State) (v : Bool) → v ≡ false → (o : Answer × State) → (if not v then (Refuse NoEntry, s) else o).0 ≢ Refuse NoSpace
absent s true e o = cc
absent s false e o = λ e. cc

found : (o : Option ℕ) → is_some o ≡ true → o ≡ Some (unwrap_or o 0)
found None e = cc
found (Some k) e = refl

module _ (N : ℕ) (s : State) (sound : Sound N s) (a b : List ℕ) (d : ℕ) (is_d : is_dir (node s.tree d) ≡ true) where
  abbrev t : Tree
  t = s.tree

  abbrev n : ℕ
  n = target t d a

  abbrev moved : Tree
  moved = with_name (without_name t d (name a)) d (name b) n

  abbrev after : Option ℕ → Tree
  after o = if is_some o then let_go moved s.handles (unwrap_or o 0) else moved

  no_more : (o : Option ℕ) → entry t d (name b) ≡ o → entry t d (name a) ≡ Some n → need (after o) ≤ need t
  no_more None none is = let same = same_need N s sound d n (name a) (name b) (dir_at (node t d) is_d) is none in omega arith
  no_more (Some old) there is = less_need N s sound d n (name a) (name b) (dir_at (node t d) is_d) is old

  abbrev t' : Tree
  t' = after (entry t d (name b))

  has_room : is_there t d a ≡ true → nat_lt (47 * N) (need t') ≡ true → ⊥
  has_room there full =
      let less = no_more (entry t d (name b)) refl (found (entry t d (name a)) there) in
      let fits = sound.room in
      let over : 47 * N < need t' = grind (arith, nat_tests) in
      omega arith

  by_entry : (v : Bool) → is_there t d a ≡ v → (renames N s a b d d).0 ≢ Refuse NoSpace
  by_entry true there = checked_other s (rename_list N s a b d d t') (Done, with_tree s t') (
    (λ e. busy),
    (
      (λ e. inval),
      (
        (λ e. long),
        (
          (λ e. λ f. cc),
          (
            (λ e. not_dir),
            (
              (λ e. long),
              (
                (λ e. not_dir),
                (
                  (λ e. done),
                  (
                    (λ e. inval),
                    (
                      (λ e. dir),
                      (
                        (λ e. not_dir),
                        (
                          (λ e. not_empty),
                          (
                            (λ e. dir_full),
                            (
                              (λ e. links),
                              ((λ full. absurd (has_room there full)), tt),
                            ),
                          ),
                        ),
                      ),
                    ),
                  ),
                ),
              ),
            ),
          ),
        ),
      ),
    ),
  ) done
  by_entry false none =
      checked_other s (when (no_last a || no_last b) Busy ∷ when (last_dots a || last_dots b) Inval ∷ when (is_long t d a) NameTooLong ∷ [])
      (checked s (when (not (is_there t d a)) NoEntry ∷ drop 4 (rename_list N s a b d d t')) (Done, with_tree s t'))
      ((λ e. busy), ((λ e. inval), ((λ e. long), tt))) (absent s (is_there t d a) none _)

pub rename_has_space : RenameHasSpace
rename_has_space N s s' sound a b d par_a par_b st =
    let e : st.first_end ≡ At d =
    Some-injective (sym (path_ends_to s.tree (Holder a) st.first_end st.first) ∙ path_ends_to s.tree (Holder a) (At d) par_a) in
    let f : st.second_end ≡ At d =
    Some-injective (sym (path_ends_to s.tree (Holder b) st.second_end st.second) ∙ path_ends_to s.tree (Holder b) (At d) par_b) in
    let one : (outcome N s (Rename a b) (At d) st.second_end).0 ≡ Refuse NoSpace =
    subst (λ (x : End). (outcome N s (Rename a b) x st.second_end).0 ≡ Refuse NoSpace) e st.answer in
    let both : (outcome N s (Rename a b) (At d) (At d)).0 ≡ Refuse NoSpace =
    subst (λ (x : End). (outcome N s (Rename a b) (At d) x).0 ≡ Refuse NoSpace) f one in
    by_entry N s sound a b d (parent_dir N s sound a d par_a).0 (is_there s.tree d a) refl both
