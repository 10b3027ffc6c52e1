-- The calls that take an entry that a directory has, exit by exit of the rule of an old entry.
use Rattle.lfs_steps.proofs.Prelude.{◌≡◌, ℕ, Bool, true, false, not, ◌&&◌, ◌||◌, List, [], ◌∷◌, refl, ◌∙◌, ap, Answer, Call, Refuse, cleans}
use Rattle.lfs_steps.proofs.Prelude.{never_for_device, slash, NameTooLong, NoEntry, NotDir, Sound, PathEnds, Step, checked, gives_dir}
use Rattle.lfs_steps.proofs.Prelude.{is_long, is_there, last_dots, let_go, name, no_last, outcome, path_of, second_path_of, target, when}
use Rattle.lfs_steps.proofs.Prelude.{with_tree, State, without_name, At, End, Parent}
use Rattle.lfs_model.specs.Refusal.{Perm}
use Rattle.lfs_model.specs.Step.{old_entry}
use Rattle.lfs_steps.proofs.calls.Checks.{passes, refuses}

-- the state after a call that takes a path's last name away, in directory d
abbrev pub gone : State → List ℕ → ℕ → State
gone s p d = with_tree s (let_go (without_name s.tree d (name p)) s.handles (target s.tree d p))

-- A call whose first path is p, with parent d, is refused first by the rule of an old entry.
pub record ChecksOld (N : ℕ) (s : State) (p : List ℕ) (d : ℕ) (call : Call) : Type 0 where
  pub second_end : End
  -- its answer and its state where the rule takes the entry
  pub otherwise : Answer × State
  pub first : PathEnds s.tree (path_of call) (At d)
  pub second : PathEnds s.tree (second_path_of call) second_end
  pub is : outcome N s call (At d) second_end ≡ checked s (old_entry s.tree d p) otherwise

-- The same in each state of a volume.
pub record OldCall (N : ℕ) (p : List ℕ) (d : ℕ) (call : Call) : Type 0 where
  pub checks : (s : State) → Sound N s → Parent s.tree p (At d) → ChecksOld N s p d call
  pub uncommitted : never_for_device call ≡ false
  pub unclean : cleans call ≡ false

module _ {N : ℕ} {s : State} {p : List ℕ} {d : ℕ} {call : Call} (e : ChecksOld N s p d call) where
  pub step_old : {a : Answer} {s' : State} → outcome N s call (At d) e.second_end ≡ (a, s') → Step N s call a s'
  step_old is = record {
    first_end = At d;
    second_end = e.second_end;
    first = e.first;
    second = e.second;
    answer = ap (λ r. r.0) is;
    state = ap (λ r. r.1) is;
  }

  abbrev from_directory : List (Bool × Answer)
  from_directory = when (gives_dir s.tree d p) Perm ∷ []

  abbrev from_slash : List (Bool × Answer)
  from_slash = when (slash p && not (gives_dir s.tree d p)) NotDir ∷ from_directory

  abbrev from_there : List (Bool × Answer)
  from_there = when (not (is_there s.tree d p)) NoEntry ∷ from_slash

  abbrev from_long : List (Bool × Answer)
  from_long = when (is_long s.tree d p) NameTooLong ∷ from_there

  pub old_dots : (no_last p || last_dots p) ≡ true → Step N s call (Refuse Perm) s
  old_dots dots = step_old (e.is ∙ refuses s (Refuse Perm) from_long e.otherwise dots)

  module _ (named : (no_last p || last_dots p) ≡ false) where
    has_name : outcome N s call (At d) e.second_end ≡ checked s from_long e.otherwise
    has_name = e.is ∙ passes s (no_last p || last_dots p) (Refuse Perm) from_long e.otherwise named

    pub old_long : is_long s.tree d p ≡ true → Step N s call (Refuse NameTooLong) s
    old_long long = step_old (has_name ∙ refuses s (Refuse NameTooLong) from_there e.otherwise long)

    module _ (short : is_long s.tree d p ≡ false) where
      is_short : outcome N s call (At d) e.second_end ≡ checked s from_there e.otherwise
      is_short = has_name
          ∙ passes s (is_long s.tree d p) (Refuse NameTooLong) from_there e.otherwise short

      pub old_missing : is_there s.tree d p ≡ false → Step N s call (Refuse NoEntry) s
      old_missing none = step_old (is_short ∙ refuses s {b = not (is_there s.tree d p)} (Refuse NoEntry) from_slash e.otherwise
          (ap not none))

      module _ (there : is_there s.tree d p ≡ true) where
        is_found : outcome N s call (At d) e.second_end ≡ checked s from_slash e.otherwise
        is_found = is_short
            ∙ passes s (not (is_there s.tree d p)) (Refuse NoEntry) from_slash e.otherwise
            (ap not there)

        pub old_slash : slash p ≡ true → gives_dir s.tree d p ≡ false
            → Step N s call (Refuse NotDir) s
        old_slash ends plain = step_old (is_found ∙ refuses s {b = slash p && not (gives_dir s.tree d p)} (Refuse NotDir) from_directory
            e.otherwise (λ i. ends i && not (plain i)))

        pub old_directory : gives_dir s.tree d p ≡ true → Step N s call (Refuse Perm) s
        old_directory dir = step_old (is_found ∙ passes s (slash p && not (gives_dir s.tree d p)) (Refuse NotDir) from_directory
            e.otherwise (ap (λ (b : Bool). slash p && not b) dir ∙ never (slash p)) ∙ refuses s (Refuse Perm) [] e.otherwise dir)
          where
            never : (b : Bool) → (b && false) ≡ false
            never true = refl
            never false = refl

        -- it takes the entry
        pub old_taken : slash p ≡ false → gives_dir s.tree d p ≡ false
            → outcome N s call (At d) e.second_end ≡ e.otherwise
        old_taken no_slash plain = is_found
            ∙ passes s (slash p && not (gives_dir s.tree d p)) (Refuse NotDir) from_directory
            e.otherwise (ap (λ (b : Bool). b && not (gives_dir s.tree d p)) no_slash)
            ∙ passes s (gives_dir s.tree d p) (Refuse Perm) [] e.otherwise plain
