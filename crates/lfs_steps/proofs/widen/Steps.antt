-- The steps of upgrade and widen, exit by exit.
use Rattle.lfs_steps.proofs.Prelude.{◌≡◌, ◌<◌, ◌≤◌, ◌*◌, ◌==◌, not, nat_lt, ℕ, Bool, true, false, List, [], ◌∷◌, refl, ◌∙◌, ap, Answer}
use Rattle.lfs_steps.proofs.Prelude.{Done, Refuse, need, Refusal, Inval, NoSpace, NotDir, Step, checked, no_space, when, with_tree, State}
use Rattle.lfs_steps.proofs.Prelude.{Tree, form_of, is_dir, node, At, Refused, Resolve}
use Rattle.lfs_model.specs.Call.{Upgrade, Widen}
use Rattle.lfs_model.specs.Step.{raised_version, widened, widens}
use Rattle.lfs_steps.proofs.calls.Checks.{below, not_below, passes, refuses}

-- the state whose layout has the version after an upgrade
abbrev pub upgraded : State → State
upgraded s = record { tree = s.tree; handles = s.handles; version = raised_version s.version }

pub upgrade_step : (N : ℕ) (s : State) → Step N s Upgrade Done (upgraded s)
upgrade_step N s = record { first_end = At 1; second_end = At 1; first = refl; second = refl; answer = refl; state = refl }

module _ (N : ℕ) (s : State) (p : List ℕ) where
  pub widen_refused : (r : Refusal) → Resolve s.tree p true (Refused r) → Step N s (Widen p) (Refuse r) s
  widen_refused r walk = record { first_end = Refused r; second_end = At 1; first = walk; second = refl; answer = refl; state = refl }

  module _ (n : ℕ) (walk : Resolve s.tree p true (At n)) where
    abbrev t' : Tree
    t' = widened s.tree n

    abbrev wide_done : Answer × State
    wide_done = (Done, with_tree s t')

    abbrev by_space : List (Bool × Answer)
    by_space = no_space N t' ∷ []

    abbrev by_form : List (Bool × Answer)
    by_form = (form_of (node s.tree n) == 1, Done) ∷ by_space

    abbrev by_version : List (Bool × Answer)
    by_version = when (s.version == 1) Inval ∷ by_form

    step_widen : {a : Answer} {s' : State} → widens N s n ≡ (a, s') → Step N s (Widen p) a s'
    step_widen is =
        record { first_end = At n; second_end = At 1; first = walk; second = refl; answer = ap (λ r. r.0) is; state = ap (λ r. r.1) is }

    pub widen_no_directory : is_dir (node s.tree n) ≡ false → Step N s (Widen p) (Refuse NotDir) s
    widen_no_directory other =
        step_widen (refuses s (Refuse NotDir) by_version wide_done (ap not other))

    module _ (dir : is_dir (node s.tree n) ≡ true) where
      after_kind : widens N s n ≡ checked s by_version wide_done
      after_kind = passes s (not (is_dir (node s.tree n))) (Refuse NotDir) by_version wide_done (ap not dir)

      pub widen_old_volume : (s.version == 1) ≡ true → Step N s (Widen p) (Refuse Inval) s
      widen_old_volume one = step_widen (after_kind ∙ refuses s (Refuse Inval) by_form wide_done one)

      module _ (two : (s.version == 1) ≡ false) where
        pub widen_nothing : (form_of (node s.tree n) == 1) ≡ true → Step N s (Widen p) Done s
        widen_nothing wide = step_widen (after_kind ∙ passes s (s.version == 1) (Refuse Inval) by_form wide_done two
            ∙ refuses s Done by_space wide_done wide)

        module _ (narrow : (form_of (node s.tree n) == 1) ≡ false) where
          pub widen_no_space : 47 * N < need t' → Step N s (Widen p) (Refuse NoSpace) s
          widen_no_space lacks = step_widen (after_kind ∙ passes s (s.version == 1) (Refuse Inval) by_form wide_done two
              ∙ passes s (form_of (node s.tree n) == 1) Done by_space wide_done narrow
              ∙ refuses s (Refuse NoSpace) [] wide_done (below (47 * N) (need t') lacks))

          pub widen_done : need t' ≤ 47 * N → Step N s (Widen p) Done (with_tree s t')
          widen_done room = step_widen (after_kind ∙ passes s (s.version == 1) (Refuse Inval) by_form wide_done two
              ∙ passes s (form_of (node s.tree n) == 1) Done by_space wide_done narrow
              ∙ passes s (nat_lt (47 * N) (need t')) (Refuse NoSpace) [] wide_done (not_below (47 * N) (need t') room))
