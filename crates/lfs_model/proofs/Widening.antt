-- An upgrade keeps a state sound, and so does a directory that gets form 1.
use Rattle.std.proofs.Common.{◌≡◌, ◌<◌, refl, subst, ℕ, zero, suc, ◌*◌, ◌≤◌, Bool, true, false, List, [], ◌∷◌}
use Rattle.std.proofs.Common.{Some, arith, length}
use Rattle.std.specs.Prelude.{not, ◌==◌, nat_lt}
use Rattle.std.specs.List.{AllByRecursion}
use Rattle.std.proofs.lemmas.Bool.Decides.{nat_tests}
use Rattle.lfs_model.specs.Tree.{Tree, Names, Node, File, Dir, Link, State, node, with_node, names_in, form_of, is_dir}
use Rattle.lfs_model.specs.Tree.{name_len, links, IsDirectoryForm}
use Rattle.lfs_model.specs.Checkpoint.{IsVersion}
use Rattle.lfs_model.specs.Refusal.{NotDir, Inval}
use Rattle.lfs_model.specs.Walk.{End, At, Refused}
use Rattle.lfs_model.specs.Need.{need}
use Rattle.lfs_model.specs.Sound.{Sound, IsWithinLimits, IsGoodName, IsOfVersion}
use Rattle.lfs_model.specs.Call.{Upgrade, Widen, Answer, Done}
use Rattle.lfs_model.specs.Step.{Step, reached, when, no_space, raised_version, upgrades, widened, widens, with_tree}
use Rattle.lfs_model.proofs.Alike.{replaced_links, replaced_sound}
use Rattle.lfs_model.proofs.Makes.{dir_at}
use Rattle.lfs_model.proofs.Keeps.{checked_sound}
use Rattle.lfs_model.proofs.Versions.{by_version}

-- ---- upgrade

-- a form of a version is one of the version after an upgrade
raised_form : (form : ℕ) → IsDirectoryForm 1 form → IsDirectoryForm 2 form
raised_form zero of = omega arith
raised_form (suc form) of = (of.0, omega arith)

of_raised : (v : ℕ) → IsVersion v → (x : Node) → IsOfVersion v x → IsOfVersion (raised_version v) x
of_raised v known (File b) of = tt
of_raised v known (Link text) of = tt
of_raised v known (Dir form m) of =
    by_version (λ n. IsDirectoryForm n form → IsDirectoryForm (raised_version n) form) (raised_form form) (λ is. is) (λ is. is) v known of

raised_known : (v : ℕ) → IsVersion v → IsVersion (raised_version v)
raised_known =
    by_version (λ n. IsVersion (raised_version n)) (omega arith, omega arith) (omega arith, omega arith) (omega arith, omega arith)

pub upgraded_sound : (N : ℕ) (s : State) → Sound N s → Sound N (upgrades s).1
upgraded_sound N s sound = record {
  in_order = sound.in_order;
  handles_in_order = sound.handles_in_order;
  version = raised_known s.version sound.version;
  forms = λ n x is. of_raised s.version sound.version x (sound.forms n x is);
  root = sound.root;
  numbers = sound.numbers;
  limits = sound.limits;
  few_links = sound.few_links;
  named = sound.named;
  root_unnamed = sound.root_unnamed;
  one_name = sound.one_name;
  reached = sound.reached;
  held = λ n ne some none. (let was = sound.held n ne some none in record { file = was.file; handle = was.handle });
  handles = sound.handles;
  room = sound.room;
}

pub upgrade_keeps : (N : ℕ) (s s' : State) (a : Answer) → Sound N s → Step N s Upgrade a s' → Sound N s'
upgrade_keeps N s s' a sound st = subst (Sound N) st.state (upgraded_sound N s sound)

-- ---- widen

-- a name of a directory of form 0 is one of a directory of form 1
longer : (form : ℕ) (name : List ℕ) → IsGoodName (name_len form) name → IsGoodName (name_len 1) name
longer form name good = record {
  some = good.some;
  short = at_most form good.short;
  clean = good.clean;
  bytes = good.bytes;
  not_dot = good.not_dot;
  not_dot_dot = good.not_dot_dot;
}
  where
    at_most : (form : ℕ) → length name ≤ name_len form → length name ≤ name_len 1
    at_most zero short = omega (arith, short)
    at_most (suc form) short = short

all_longer : (form : ℕ) (m : Names) → AllByRecursion (λ e. IsGoodName (name_len form) e.0) m
    → AllByRecursion (λ e. IsGoodName (name_len 1) e.0) m
all_longer form [] all = tt
all_longer form (e ∷ m) all = (longer form e.0 all.0, all_longer form m all.1)

module _ (N : ℕ) (s : State) (n form : ℕ) (m : Names) (sound : Sound N s) (is : node s.tree n ≡ Some (Dir form m)) (later : 1 < s.version)
    (fits : need (with_node s.tree n (Dir 1 m)) ≤ 47 * N) where
  pub same_links : (q : ℕ) → links (with_node s.tree n (Dir 1 m)) q ≡ links s.tree q
  same_links = replaced_links s.tree n (Dir form m) (Dir 1 m) sound.in_order is refl refl

  good : IsWithinLimits (Dir 1 m)
  good = let was : IsWithinLimits (Dir form m) = sound.limits n (Dir form m) is in (was.0, was.1, all_longer form m was.2)

  pub widened_sound : Sound N (with_tree s (with_node s.tree n (Dir 1 m)))
  widened_sound =
      replaced_sound N s n (Dir form m) (Dir 1 m) sound is refl refl good (refl, later) (λ file. absurd (cc file.1)) fits

not_first : (v : ℕ) → IsVersion v → (v == 1) ≡ false → 1 < v
not_first = by_version (λ v. (v == 1) ≡ false → 1 < v) (λ other. absurd (cc other)) (λ other. omega arith) (λ other. omega arith)

is_dir_there : (b : Bool) → not b ≡ false → b ≡ true
is_dir_there true h = refl
is_dir_there false h = cc

widen_at : (N : ℕ) (s : State) → Sound N s → (e : End) → Sound N (reached s e (widens N s)).1
widen_at N s sound (Refused r) = sound
widen_at N s sound (At n) =
    let t' : Tree = widened s.tree n in
    checked_sound N s (when (not (is_dir (node s.tree n))) NotDir ∷ when (s.version == 1) Inval ∷ (form_of (node s.tree n) == 1, Done)
    ∷ no_space N t' ∷ []) (Done, with_tree s t') sound (λ ok.
    let dir : is_dir (node s.tree n) ≡ true = is_dir_there (is_dir (node s.tree n)) ok.0 in
    let room : nat_lt (47 * N) (need t') ≡ false = ok.1.1.1.0 in
    let fits : need t' ≤ 47 * N = grind (arith, nat_tests) in
    widened_sound N s n (form_of (node s.tree n)) (names_in s.tree n) sound (dir_at (node s.tree n) dir)
    (not_first s.version sound.version ok.1.0) fits)

pub widen_keeps : (N : ℕ) (s : State) {s' : State} (p : List ℕ) (a : Answer) → Sound N s → Step N s (Widen p) a s' → Sound N s'
widen_keeps N s p a sound st = subst (Sound N) st.state (widen_at N s sound st.first_end)
