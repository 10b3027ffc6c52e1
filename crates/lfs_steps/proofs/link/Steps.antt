-- The call link, exit by exit: the rule of an old entry, the second path, the rule of a new entry.
use Rattle.lfs_steps.proofs.Prelude.{◌≡◌, ◌<◌, ◌≤◌, ◌*◌, ◌||◌, ℕ, Bool, false, List, [], ◌∷◌, ◌++◌, Option, Some, refl, ◌∙◌, ap, nat_le}
use Rattle.lfs_steps.proofs.Prelude.{is_some, unwrap_or, Answer, Done, Refuse, need, NoSpace, Refusal, TooManyLinks, LogMap, Step, checked}
use Rattle.lfs_steps.proofs.Prelude.{is_long, last_dots, name, new_entry, no_last, no_space, outcome, target, when, with_tree, slash, State}
use Rattle.lfs_steps.proofs.Prelude.{Tree, entry, is_dir, links, node, with_name, At, End, Parent, Refused, as_header}
use Rattle.lfs_model.specs.Call.{LinkTo}
use Rattle.lfs_model.specs.Sound.{NamesGive}
use Rattle.lfs_model.specs.Step.{reached}
use Rattle.lfs_model.proofs.StepsAre.{step_ends}
use Rattle.lfs_files.specs.declared.header.Header.{Header}
use Rattle.lfs_steps.proofs.calls.Checks.{at_most, below, not_at_most, not_below}
use Rattle.lfs_steps.proofs.new_entries.RuleSteps.{ChecksNew, IsTaken, new_taken, step_new}
use Rattle.lfs_steps.proofs.old_entries.Steps.{ChecksOld, OldCall, old_taken, step_old}

-- the second path ends somewhere
pub link_refused : (N : ℕ) (s : State) (a b : List ℕ) → NamesGive s.tree → (r : Refusal)
    → Parent s.tree a (Refused r) → Step N s (LinkTo a b) (Refuse r) s
link_refused N s a b whole r walk =
    let some = (step_ends N s whole (LinkTo a b)).2 in record {
      first_end = Refused r;
      second_end = some.second_end;
      first = walk;
      second = some.second;
      answer = refl;
      state = refl;
    }

module _ (N : ℕ) (s : State) (a b : List ℕ) where
  -- the tree with b as a further name of node n, in directory d
  abbrev pub linked : ℕ → ℕ → Tree
  linked n d = with_name s.tree d (name b) n

  abbrev from_links : ℕ → ℕ → List (Bool × Answer)
  from_links n d = when (nat_le 1000 (links s.tree n)) TooManyLinks ∷ no_space N (linked n d) ∷ []

  -- what follows the rule of the old entry
  abbrev enters : ℕ → ℕ → Answer × State
  enters n d = checked s (new_entry s.tree d b false ++ from_links n d) (Done, with_tree s (linked n d))

  -- ---- the first path
  module _ (da : ℕ) (walk : Parent s.tree a (At da)) where
    abbrev pub link_checks : (e : End) → Parent s.tree b e → ChecksOld N s a da (LinkTo a b)
    link_checks e second = record {
      second_end = e;
      otherwise = reached s e (enters (target s.tree da a));
      first = walk;
      second = second;
      is = refl;
    }

-- The last piece of a path, which stands in directory d, names object n of this header, which may have a further name.
pub record NamesObject (m : LogMap) (s : State) (p : List ℕ) (d n : ℕ) (object : Header) : Type 0 where
  pub walk : Parent s.tree p (At d)
  pub named : (no_last p || last_dots p) ≡ false
  pub short : is_long s.tree d p ≡ false
  pub found : entry s.tree d (name p) ≡ Some n
  pub ends : slash p ≡ false
  pub plain : is_dir (node s.tree n) ≡ false
  pub there : m.header n ≡ Some (as_header object)

-- ---- the second path, where the first names node n
module _ (N : ℕ) (b : List ℕ) {m : LogMap} {s : State} {a : List ℕ} {da n : ℕ} {object : Header} (old : NamesObject m s a da n object) where
  module _ (e : End) (second : Parent s.tree b e) where
    pub goes_on : outcome N s (LinkTo a b) (At da) e ≡ reached s e (enters N s a b n)
    goes_on =
        old_taken (link_checks N s a b da old.walk e second) old.named old.short (ap is_some old.found) old.ends
        (ap (λ (o : Option ℕ). is_dir (node s.tree (unwrap_or o 0))) old.found ∙ old.plain)
        ∙ ap (λ (o : Option ℕ). reached s e (enters N s a b (unwrap_or o 0))) old.found

  pub second_refused : (r : Refusal) → Parent s.tree b (Refused r) → Step N s (LinkTo a b) (Refuse r) s
  second_refused r second =
      step_old (link_checks N s a b da old.walk (Refused r) second) (goes_on (Refused r) second)

  module _ (d : ℕ) (second : Parent s.tree b (At d)) where
    abbrev pub link_asks : ChecksNew N s b d (LinkTo a b) false
    link_asks = record {
      first_end = At da;
      second_end = At d;
      rest = from_links N s a b n d;
      otherwise = (Done, with_tree s (linked N s a b n d));
      first = old.walk;
      second = second;
      is = goes_on (At d) second;
    }

    module _ (taken : IsTaken s b d false) where
      pub link_many : 1000 ≤ links s.tree n → Step N s (LinkTo a b) (Refuse TooManyLinks) s
      link_many many = step_new link_asks (new_taken link_asks taken ∙ rw (at_most 1000 (links s.tree n) many) refl)

      module _ (few : links s.tree n < 1000) where
        pub link_no_space : 47 * N < need (linked N s a b n d) → Step N s (LinkTo a b) (Refuse NoSpace) s
        link_no_space lacks = step_new link_asks (new_taken link_asks taken
            ∙ rw (not_at_most 1000 (links s.tree n) few, below (47 * N) (need (linked N s a b n d)) lacks) refl)

        pub link_done : need (linked N s a b n d) ≤ 47 * N → Step N s (LinkTo a b) Done (with_tree s (linked N s a b n d))
        link_done room = step_new link_asks (new_taken link_asks taken
            ∙ rw (not_at_most 1000 (links s.tree n) few, not_below (47 * N) (need (linked N s a b n d)) room) refl)

-- the rule of the old entry comes first, wherever the second path ends
pub link_call : (N : ℕ) (a b : List ℕ) (d : ℕ) → OldCall N a d (LinkTo a b)
link_call N a b d = record {
  checks = λ s sound walk. (
      let some = (step_ends N s sound.named (LinkTo a b)).2 in
      link_checks N s a b d walk some.second_end some.second);
  uncommitted = refl;
  unclean = refl;
}
