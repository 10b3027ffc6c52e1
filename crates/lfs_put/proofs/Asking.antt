-- What the calls tell of a tree that the largest new file is counted by.
use Rattle.std.proofs.Common.{◌≡◌, ℕ, ◌*◌, true, false, List, [], ◌∷◌, Some, refl, sym, ◌∙◌, ap, length, map}
use Rattle.std.specs.Prelude.{codes, not, unwrap_or}
use Rattle.std.proofs.lemmas.List.{length-map}
use Rattle.lfs_model.specs.Call.{Answer, DirectoryEntry, Entries, Readdir, Room, Space, Stat, StatOf, Status}
use Rattle.lfs_model.specs.Need.{need}
use Rattle.lfs_model.specs.Refusal.{NotDir}
use Rattle.lfs_model.specs.Step.{Step, checked, entry_of, lists, reached, size_of, stat_of, the_node, when}
use Rattle.lfs_model.specs.Tree.{Dir, File, Names, State, Tree, is_dir, names_in, names_of, node, slot_len}
use Rattle.lfs_model.specs.Walk.{At, End, Refused, Walk, no_piece}

at_root : (t : Tree) (e : End) → Walk t true 1 [] true 0 e → e ≡ At 1
at_root t (At n) no_piece = refl
at_root t (Refused _) x = elim x [ ]

abbrev size_in : Answer → ℕ
size_in (Status stat) = stat.size
size_in _ = 0

abbrev count_in : Answer → ℕ
count_in (Entries entries) = length entries
count_in _ = 0

abbrev need_in : Answer → ℕ
need_in (Room stored above need limit) = need
need_in _ = 0

abbrev limit_in : Answer → ℕ
limit_in (Room stored above need limit) = limit
limit_in _ = 0

pub need_is : (N : ℕ) (s s' : State) {data_blocks meta_blocks n l : ℕ} → Step N s Space (Room data_blocks meta_blocks n l) s'
    → n ≡ need s.tree
need_is N s s' step = sym (ap need_in step.answer)

pub limit_is : (N : ℕ) (s s' : State) {data_blocks meta_blocks n l : ℕ} → Step N s Space (Room data_blocks meta_blocks n l) s'
    → l ≡ 47 * N
limit_is N s s' step = sym (ap limit_in step.answer)

module _ (N : ℕ) (s s' : State) (form : ℕ) (m : Names) (root : node s.tree 1 ≡ Some (Dir form m)) where
  the_root : the_node s.tree 1 ≡ Dir form m
  the_root = ap (λ o. unwrap_or o (File [])) root

  pub size_is : {stat : Stat} → Step N s (StatOf (codes "/")) (Status stat) s' → stat.size ≡ slot_len form * length m
  size_is step =
      let at = at_root s.tree step.first_end step.first in
      let told = sym (ap (λ e. (reached s e (λ n. (Status (stat_of s.tree n), s))).0) at) ∙ step.answer in
      sym (ap size_in told) ∙ ap size_of the_root

  is_directory : not (is_dir (node s.tree 1)) ≡ false
  is_directory = ap (λ o. not (is_dir o)) root

  pub count_is : {entries : List DirectoryEntry} → Step N s (Readdir (codes "/")) (Entries entries) s' → length entries ≡ length m
  count_is step =
      let at = at_root s.tree step.first_end step.first in
      let listed : Answer × State = (Entries (map (entry_of s.tree) (names_in s.tree 1)), s) in
      let told = sym (ap (λ e. (reached s e (lists s)).0) at) ∙ step.answer in
      let done = sym (ap (λ b. (checked s (when b NotDir ∷ []) listed).0) is_directory) ∙ told in
      sym (ap count_in done) ∙ length-map (names_in s.tree 1) (entry_of s.tree) ∙ ap (λ x. length (names_of x)) the_root
