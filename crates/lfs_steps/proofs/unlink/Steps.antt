-- The call unlink as one that takes an old entry.
use Rattle.lfs_steps.proofs.Prelude.{◌≡◌, ℕ, false, ◌||◌, true, List, refl, Done, Refuse, slash, Refusal, Step, gives_dir, is_long}
use Rattle.lfs_steps.proofs.Prelude.{is_there, last_dots, no_last, State, At, Parent, Refused}
use Rattle.lfs_model.specs.Call.{Unlink}
use Rattle.lfs_steps.proofs.old_entries.Steps.{ChecksOld, OldCall, gone, old_taken, step_old}

pub unlink_refused : (N : ℕ) (s : State) (p : List ℕ) (r : Refusal) → Parent s.tree p (Refused r)
    → Step N s (Unlink p) (Refuse r) s
unlink_refused N s p r walk = record {
  first_end = Refused r;
  second_end = At 1;
  first = walk;
  second = refl;
  answer = refl;
  state = refl;
}

abbrev pub unlink_checks : (N : ℕ) (s : State) (p : List ℕ) (d : ℕ) → Parent s.tree p (At d)
    → ChecksOld N s p d (Unlink p)
unlink_checks N s p d walk = record {
  second_end = At 1;
  otherwise = (Done, gone s p d);
  first = walk;
  second = refl;
  is = refl;
}

abbrev pub unlink_call : (N : ℕ) (p : List ℕ) (d : ℕ) → OldCall N p d (Unlink p)
unlink_call N p d = record {
  checks = λ s sound walk. unlink_checks N s p d walk;
  uncommitted = refl;
  unclean = refl;
}

pub unlink_done : (N : ℕ) (s : State) (p : List ℕ) (d : ℕ) → Parent s.tree p (At d)
    → (no_last p || last_dots p) ≡ false → is_long s.tree d p ≡ false → is_there s.tree d p ≡ true
    → slash p ≡ false → gives_dir s.tree d p ≡ false → Step N s (Unlink p) Done (gone s p d)
unlink_done N s p d walk named short there no_slash plain =
    let e : ChecksOld N s p d (Unlink p) = unlink_checks N s p d walk in
    step_old e (old_taken e named short there no_slash plain)
