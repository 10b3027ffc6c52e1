-- The call rmdir, exit by exit.
use Rattle.lfs_steps.proofs.Prelude.{◌≡◌, ℕ, Bool, true, false, List, [], ◌∷◌, length, nat_lt, refl, ◌∙◌, ap, not, Answer, Done, Refuse}
use Rattle.lfs_steps.proofs.Prelude.{Busy, Inval, NameTooLong, NoEntry, NotDir, NotEmpty, Refusal, Step, checked, gives_dir, is_long}
use Rattle.lfs_steps.proofs.Prelude.{is_there, last_dots, no_last, target, when, State, names_in, At, Parent, Refused}
use Rattle.lfs_model.specs.Call.{Rmdir}
use Rattle.lfs_model.specs.Step.{removes_dir}
use Rattle.lfs_steps.proofs.calls.Checks.{passes, refuses}
use Rattle.lfs_steps.proofs.old_entries.Steps.{gone}

pub rmdir_refused : (N : ℕ) (s : State) (p : List ℕ) (r : Refusal) → Parent s.tree p (Refused r)
    → Step N s (Rmdir p) (Refuse r) s
rmdir_refused N s p r walk = record {
  first_end = Refused r;
  second_end = At 1;
  first = walk;
  second = refl;
  answer = refl;
  state = refl;
}

module _ (N : ℕ) (s : State) (p : List ℕ) (d : ℕ) (walk : Parent s.tree p (At d)) where
  step_rmdir : {a : Answer} {s' : State} → removes_dir s p d ≡ (a, s') → Step N s (Rmdir p) a s'
  step_rmdir is = record {
    first_end = At d;
    second_end = At 1;
    first = walk;
    second = refl;
    answer = ap (λ r. r.0) is;
    state = ap (λ r. r.1) is;
  }

  abbrev done : Answer × State
  done = (Done, gone s p d)

  abbrev is_full : Bool
  is_full = nat_lt 0 (length (names_in s.tree (target s.tree d p)))

  abbrev from_full : List (Bool × Answer)
  from_full = when is_full NotEmpty ∷ []

  abbrev from_kind : List (Bool × Answer)
  from_kind = when (not (gives_dir s.tree d p)) NotDir ∷ from_full

  abbrev from_there : List (Bool × Answer)
  from_there = when (not (is_there s.tree d p)) NoEntry ∷ from_kind

  abbrev from_long : List (Bool × Answer)
  from_long = when (is_long s.tree d p) NameTooLong ∷ from_there

  abbrev from_dots : List (Bool × Answer)
  from_dots = when (last_dots p) Inval ∷ from_long

  pub rmdir_root : no_last p ≡ true → Step N s (Rmdir p) (Refuse Busy) s
  rmdir_root root = step_rmdir (refuses s (Refuse Busy) from_dots done root)

  module _ (piece : no_last p ≡ false) where
    has_piece : removes_dir s p d ≡ checked s from_dots done
    has_piece = passes s (no_last p) (Refuse Busy) from_dots done piece

    pub rmdir_dots : last_dots p ≡ true → Step N s (Rmdir p) (Refuse Inval) s
    rmdir_dots dots = step_rmdir (has_piece ∙ refuses s (Refuse Inval) from_long done dots)

    module _ (named : last_dots p ≡ false) where
      has_name : removes_dir s p d ≡ checked s from_long done
      has_name = has_piece ∙ passes s (last_dots p) (Refuse Inval) from_long done named

      pub rmdir_long : is_long s.tree d p ≡ true → Step N s (Rmdir p) (Refuse NameTooLong) s
      rmdir_long long = step_rmdir (has_name ∙ refuses s (Refuse NameTooLong) from_there done long)

      module _ (short : is_long s.tree d p ≡ false) where
        is_short : removes_dir s p d ≡ checked s from_there done
        is_short = has_name
            ∙ passes s (is_long s.tree d p) (Refuse NameTooLong) from_there done short

        pub rmdir_missing : is_there s.tree d p ≡ false → Step N s (Rmdir p) (Refuse NoEntry) s
        rmdir_missing none = step_rmdir (is_short ∙ refuses s {b = not (is_there s.tree d p)} (Refuse NoEntry) from_kind done (ap not none))

        module _ (there : is_there s.tree d p ≡ true) where
          is_found : removes_dir s p d ≡ checked s from_kind done
          is_found = is_short
              ∙ passes s (not (is_there s.tree d p)) (Refuse NoEntry) from_kind done (ap not there)

          pub rmdir_plain : gives_dir s.tree d p ≡ false → Step N s (Rmdir p) (Refuse NotDir) s
          rmdir_plain plain = step_rmdir (is_found ∙ refuses s (Refuse NotDir) from_full done (ap not plain))

          module _ (dir : gives_dir s.tree d p ≡ true) where
            is_directory : removes_dir s p d ≡ checked s from_full done
            is_directory = is_found
                ∙ passes s (not (gives_dir s.tree d p)) (Refuse NotDir) from_full done (ap not dir)

            pub rmdir_full : is_full ≡ true → Step N s (Rmdir p) (Refuse NotEmpty) s
            rmdir_full full = step_rmdir (is_directory ∙ refuses s (Refuse NotEmpty) [] done full)

            pub rmdir_done : is_full ≡ false → Step N s (Rmdir p) Done (gone s p d)
            rmdir_done empty = step_rmdir (is_directory ∙ passes s is_full (Refuse NotEmpty) [] done empty)
