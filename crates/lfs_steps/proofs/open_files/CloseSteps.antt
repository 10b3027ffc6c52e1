-- A handle that is closed, and a sync through a handle, exit by exit.
use Rattle.lfs_steps.proofs.Prelude.{◌≡◌, ◌≢◌, ℕ, Bool, true, false, ◌&&◌, [], Some, None, refl, ◌∙◌, ap, arith, eqb, ◌==◌, if◌then◌else◌}
use Rattle.lfs_steps.proofs.Prelude.{is_none, eq-eqb, nat_tests, nat_cmp, find, Answer, Done, Refuse, BadHandle, Step, file_at, let_go}
use Rattle.lfs_steps.proofs.Prelude.{Handles, State, Tree, names, opened, without, At}
use Rattle.lfs_model.specs.Call.{Close, Fsync}
use Rattle.lfs_model.specs.Step.{closes}
use Rattle.lfs_steps.proofs.calls.Checks.{is_missing, is_some, passes, refuses}
use Rattle.lfs_steps.proofs.open_files.Steps.{file_is}

module _ (N : ℕ) (s : State) (h : ℕ) where
  -- ---- fsync
  pub fsync_bad_handle : find nat_cmp h s.handles ≡ None → Step N s (Fsync h) (Refuse BadHandle) s
  fsync_bad_handle none =
      let is =
      refuses s (Refuse BadHandle) [] (Done, s) (is_missing (find nat_cmp h s.handles) none) in
      record { first_end = At 1; second_end = At 1; first = refl; second = refl; answer = ap (λ r. r.0) is; state = ap (λ r. r.1) is }

  pub fsync_done : (n : ℕ) → find nat_cmp h s.handles ≡ Some n → Step N s (Fsync h) Done s
  fsync_done n opens =
      let is = passes s (is_none (find nat_cmp h s.handles)) (Refuse BadHandle) [] (Done, s) (is_some opens) in
      record { first_end = At 1; second_end = At 1; first = refl; second = refl; answer = ap (λ r. r.0) is; state = ap (λ r. r.1) is }

  -- ---- close
  abbrev pub rest : Handles
  rest = without nat_cmp h s.handles

  -- the state without the handle, with this tree
  abbrev pub closed : Tree → State
  closed t = record s { tree = t; handles = rest }

  step_close : {a : Answer} {s' : State} → closes s h ≡ (a, s') → Step N s (Close h) a s'
  step_close is =
      record { first_end = At 1; second_end = At 1; first = refl; second = refl; answer = ap (λ r. r.0) is; state = ap (λ r. r.1) is }

  pub close_bad_handle : find nat_cmp h s.handles ≡ None → Step N s (Close h) (Refuse BadHandle) s
  close_bad_handle none = step_close (refuses s (Refuse BadHandle) [] (Done, closed (let_go s.tree rest (file_at s h)))
      (is_missing (find nat_cmp h s.handles) none))

  module _ (n : ℕ) (opens : find nat_cmp h s.handles ≡ Some n) where
    done : {t : Tree} → let_go s.tree rest n ≡ t → Step N s (Close h) Done (closed t)
    done {t} is = step_close
        (passes s (is_none (find nat_cmp h s.handles)) (Refuse BadHandle) [] (Done, closed (let_go s.tree rest (file_at s h)))
        (is_some opens) ∙ ap (λ (x : Tree). (Done, closed x)) (ap (let_go s.tree rest) (file_is N s h n opens) ∙ is))

    -- the file keeps a name, or another handle
    pub close_stays : (names s.tree n == 0 && opened rest n == 0) ≡ false → Step N s (Close h) Done (closed s.tree)
    close_stays off = done (ap (λ (b : Bool). if b then without nat_cmp n s.tree else s.tree) off)

    -- it has neither
    pub close_goes : names s.tree n ≡ 0 → opened rest n ≡ 0 → Step N s (Close h) Done (closed (without nat_cmp n s.tree))
    close_goes nameless shut = done (ap (λ (b : Bool). if b then without nat_cmp n s.tree else s.tree)
        (both (names s.tree n == 0) (opened rest n == 0) (eq-eqb (names s.tree n) 0 nameless) (eq-eqb (opened rest n) 0 shut)))
      where
        both : (a b : Bool) → a ≡ true → b ≡ true → (a && b) ≡ true
        both true b e f = f
        both false b e f = cc

-- a number that isn't 0
pub named_stays : (a b : ℕ) → a ≢ 0 → (a == 0 && b == 0) ≡ false
named_stays a b some = let no : eqb a 0 ≡ false = grind (arith, nat_tests) in ap (λ (x : Bool). x && b == 0) no

pub open_stays : (a b : ℕ) → b ≢ 0 → (a == 0 && b == 0) ≡ false
open_stays a b some = let no : eqb b 0 ≡ false = grind (arith, nat_tests) in ap (λ (x : Bool). a == 0 && x) no ∙ never (a == 0)
  where
    never : (x : Bool) → (x && false) ≡ false
    never true = refl
    never false = refl
