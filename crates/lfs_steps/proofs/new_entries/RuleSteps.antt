-- The calls that ask for a new entry of a directory, exit by exit of the rule of a new entry.
use Rattle.lfs_steps.proofs.Prelude.{◌≡◌, ℕ, Bool, true, false, not, ◌&&◌, ◌||◌, List, ◌++◌, ◌∙◌, ap, refl, Answer, Call, Refuse, slash}
use Rattle.lfs_steps.proofs.Prelude.{DirFull, NameTooLong, NoEntry, PathEnds, Step, checked, is_full, is_long, is_there, last_dots}
use Rattle.lfs_steps.proofs.Prelude.{new_entry, no_last, outcome, path_of, second_path_of, State, End}
use Rattle.lfs_model.specs.Refusal.{Exist}

-- A call whose walks have these ends is refused by the rule of a new entry, for the last piece of
-- p in directory d, and then by the rest.
pub record ChecksNew (N : ℕ) (s : State) (p : List ℕ) (d : ℕ) (call : Call)
    (is_mkdir : Bool) : Type 0 where
  pub first_end : End
  pub second_end : End
  pub rest : List (Bool × Answer)
  -- its answer and its state where nothing refuses it
  pub otherwise : Answer × State
  pub first : PathEnds s.tree (path_of call) first_end
  pub second : PathEnds s.tree (second_path_of call) second_end
  pub is : outcome N s call first_end second_end
      ≡ checked s (new_entry s.tree d p is_mkdir ++ rest) otherwise

-- The rule takes it.
pub record IsTaken (s : State) (p : List ℕ) (d : ℕ) (is_mkdir : Bool) : Type 0 where
  pub named : (no_last p || last_dots p) ≡ false
  pub short : is_long s.tree d p ≡ false
  pub new : is_there s.tree d p ≡ false
  pub plain : (slash p && not is_mkdir) ≡ false
  pub free : is_full s.tree d ≡ false

module _ {N : ℕ} {s : State} {p : List ℕ} {d : ℕ} {call : Call} {is_mkdir : Bool} (e : ChecksNew N s p d call is_mkdir) where
  pub step_new : {a : Answer} {s' : State} → outcome N s call e.first_end e.second_end ≡ (a, s') → Step N s call a s'
  step_new is = record {
    first_end = e.first_end;
    second_end = e.second_end;
    first = e.first;
    second = e.second;
    answer = ap (λ r. r.0) is;
    state = ap (λ r. r.1) is;
  }

  pub new_dots : (no_last p || last_dots p) ≡ true → Step N s call (Refuse Exist) s
  new_dots dots = step_new (e.is ∙ rw dots refl)

  module _ (named : (no_last p || last_dots p) ≡ false) where
    pub new_long : is_long s.tree d p ≡ true → Step N s call (Refuse NameTooLong) s
    new_long long = step_new (e.is ∙ rw (named, long) refl)

    module _ (short : is_long s.tree d p ≡ false) where
      pub new_there : is_there s.tree d p ≡ true → Step N s call (Refuse Exist) s
      new_there there = step_new (e.is ∙ rw (named, short, there) refl)

      module _ (new : is_there s.tree d p ≡ false) where
        pub new_slash : (slash p && not is_mkdir) ≡ true → Step N s call (Refuse NoEntry) s
        new_slash ends = step_new (e.is ∙ rw (named, short, new, ends) refl)

        pub new_full : (slash p && not is_mkdir) ≡ false → is_full s.tree d ≡ true → Step N s call (Refuse DirFull) s
        new_full plain full = step_new (e.is ∙ rw (named, short, new, plain, full) refl)

  -- then the rest may refuse it
  pub new_taken : IsTaken s p d is_mkdir → outcome N s call e.first_end e.second_end ≡ checked s e.rest e.otherwise
  new_taken taken = e.is ∙ rw (taken.named, taken.short, taken.new, taken.plain, taken.free) refl
