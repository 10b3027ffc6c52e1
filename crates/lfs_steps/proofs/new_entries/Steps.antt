-- The calls that make a new entry of a directory, exit by exit.
use Rattle.lfs_steps.proofs.Prelude.{◌≡◌, ◌<◌, ◌≤◌, ◌*◌, ℕ, Bool, true, false, List, [], ◌∷◌, ◌++◌, length, Option, None, refl, sym, ◌∙◌}
use Rattle.lfs_steps.proofs.Prelude.{ap, subst, ⊎_elim, arith, nat_le, unwrap_or, nat_cmp, AreBytes, Answer, AreArguments, Call, Done}
use Rattle.lfs_steps.proofs.Prelude.{Refuse, cleans, never_for_device, IsVersion, IsForm, need, text_refusal, Refusal, NoEntry, NoSpace}
use Rattle.lfs_steps.proofs.Prelude.{TooManyLinks, PathEnds, Step, checked, new_entry, no_space, outcome, path_of, second_path_of, when}
use Rattle.lfs_steps.proofs.Prelude.{with_new, with_tree, Dir, File, Handles, Link, Node, State, Tree, least, links, At, Parent, FitsHeader}
use Rattle.lfs_steps.proofs.Prelude.{first_links, good_text, NewKind, form_of_new, kind_of_new, new_directory, new_file, new_link}
use Rattle.lfs_steps.proofs.Prelude.{text_of_new}
use Rattle.std.specs.Prelude.{option_map}
use Rattle.std.specs.FinMap.{put}
use Rattle.lfs_model.specs.declared.Kind.TheVariants as kinds
use Rattle.lfs_model.specs.Call.{Create, Handle, Mkdir, Symlink, changes, is_ok}
use Rattle.lfs_model.specs.Call.{takes_no_memory}
use Rattle.lfs_model.specs.Tree.{new_form}
use Rattle.lfs_model.proofs.Versions.{by_version, new_form_known}
use Rattle.lfs_model.specs.Inode.{IsSize}
use Rattle.lfs_model.specs.Refusal.{NoNumber, TooManyOpen}
use Rattle.lfs_model.specs.Step.{makes_link, no_number}
use Rattle.lfs_model.specs.Step.{text_check}
use Rattle.lfs_model.specs.Tree.{least_handle}
use Rattle.lfs_steps.proofs.calls.Checks.{below, not_below}
use Rattle.lfs_steps.proofs.new_entries.RuleSteps.{ChecksNew, IsTaken, new_taken, step_new}

-- a new object of a kind
abbrev pub new_node : NewKind → Node
new_node new_file = File []
new_node (new_directory form) = Dir form []
new_node (new_link text) = Link text

-- A call that makes an object of this kind under the last piece of a path, in directory d of a volume of this version. What refuses it is
-- the rule of a new entry, then a reason of its own, then the want of a number and of space.
pub record NewCall (version N : ℕ) (p : List ℕ) (d : ℕ) : Type 0 where
  pub call : Call
  pub kind : NewKind
  pub is_mkdir : Bool
  pub own : State → Bool
  pub why : Refusal
  pub answer : State → Answer
  pub handles : State → Handles
  pub first : (t : Tree) → Parent t p (At d) → PathEnds t (path_of call) (At d)
  pub second : (t : Tree) → PathEnds t (second_path_of call) (At 1)
  pub ok : (s : State) → is_ok (answer s) ≡ true
  pub is : (s : State) → s.version ≡ version → outcome N s call (At d) (At 1)
      ≡ checked s
      (new_entry s.tree d p is_mkdir ++ when (own s) why ∷ no_number s.tree ∷ no_space N (with_new s.tree d p (new_node kind)) ∷ [])
      (answer s, record { tree = with_new s.tree d p (new_node kind); handles = handles s; version = s.version })
  pub arguments : AreArguments call
  pub known : IsVersion version → IsForm version (kind_of_new kind) (form_of_new kind)
  pub sized : IsVersion version
      → FitsHeader (kind_of_new kind) (form_of_new kind) (first_links (kind_of_new kind)) (length (text_of_new kind))
  pub changing : changes call ≡ true
  pub uncommitted : never_for_device call ≡ false
  pub unclean : cleans call ≡ false
  pub remembering : takes_no_memory call ≡ false

-- what is so of each state with these open files, where directory d has so many links
abbrev pub Asked : ℕ → Handles → ℕ → (State → Type 0) → Type 0
Asked d table count P = (s : State) → s.handles ≡ table → count ≡ links s.tree d → P s

-- the headers of an empty file, of an empty directory and of a link
pub file_sized : FitsHeader kinds.File 0 1 0
unfolding IsSize
file_sized = record { known = tt; links_few = omega arith; size_fits = omega arith }

pub directory_form : (version : ℕ) → IsVersion version → IsForm version kinds.Directory (new_form version)
directory_form = new_form_known

pub directory_sized : (version : ℕ) → IsVersion version → FitsHeader kinds.Directory (new_form version) 2 0
unfolding IsSize
directory_sized = by_version (λ v. FitsHeader kinds.Directory (new_form v) 2 0)
    record { known = omega arith; links_few = omega arith; size_fits = (refl, omega arith) }
    record { known = (refl, omega arith); links_few = omega arith; size_fits = (refl, omega arith) }
    record { known = (refl, omega arith); links_few = omega arith; size_fits = (refl, omega arith) }

pub link_sized : {size : ℕ} → 1 ≤ size → size ≤ 1023 → FitsHeader kinds.Link 0 1 size
unfolding IsSize
link_sized some few = record { known = tt; links_few = omega arith; size_fits = (some, few) }

-- a text that isn't refused passes
pub text_passes : (text : List ℕ) → text_refusal text ≡ None → text_check text ≡ []
text_passes text good = ap (λ (o : Option Refusal). unwrap_or (option_map (λ r. when true r ∷ []) o) []) good

module _ (version N : ℕ) (p : List ℕ) (d : ℕ) (bytes : AreBytes p) where
  abbrev pub create_call : NewCall version N p d
  create_call = record {
    call = Create p;
    kind = new_file;
    is_mkdir = false;
    own = λ s. nat_le 64 (least_handle s.handles);
    why = TooManyOpen;
    answer = λ s. Handle (least_handle s.handles);
    handles = λ s. put nat_cmp (least_handle s.handles) (least s.tree) s.handles;
    first = λ t walk. walk;
    second = λ t. refl;
    ok = λ s. refl;
    is = λ s same. refl;
    arguments = bytes;
    known = λ v. tt;
    sized = λ v. file_sized;
    changing = refl;
    uncommitted = refl;
    unclean = refl;
    remembering = refl;
  }

  abbrev pub mkdir_call : (form : ℕ) → form ≡ new_form version → NewCall version N p d
  mkdir_call form is = record {
    call = Mkdir p;
    kind = new_directory form;
    is_mkdir = true;
    own = λ s. nat_le 1000 (links s.tree d);
    why = TooManyLinks;
    answer = λ s. Done;
    handles = λ s. s.handles;
    first = λ t walk. walk;
    second = λ t. refl;
    ok = λ s. refl;
    is = λ s same. ap (λ (x : ℕ). checked s (new_entry s.tree d p true ++ when (nat_le 1000 (links s.tree d)) TooManyLinks
        ∷ no_number s.tree ∷ no_space N (with_new s.tree d p (Dir x [])) ∷ []) (Done, with_tree s (with_new s.tree d p (Dir x []))))
        (ap new_form same ∙ sym is);
    arguments = bytes;
    known = λ v. subst (IsForm version kinds.Directory) (sym is) (directory_form version v);
    sized = λ v. subst (λ (x : ℕ). FitsHeader kinds.Directory x 2 0) (sym is) (directory_sized version v);
    changing = refl;
    uncommitted = refl;
    unclean = refl;
    remembering = refl;
  }

  abbrev pub symlink_call : (text : List ℕ) → AreBytes text → text_refusal text ≡ None → NewCall version N p d
  symlink_call text text_bytes good = record {
    call = Symlink text p;
    kind = new_link text;
    is_mkdir = false;
    own = λ s. false;
    why = NoEntry;
    answer = λ s. Done;
    handles = λ s. s.handles;
    first = λ t walk. walk;
    second = λ t. refl;
    ok = λ s. refl;
    is = λ s same. ap (λ (l : List (Bool × Answer)). checked s l (makes_link N s text p d)) (text_passes text good);
    arguments = (text_bytes, bytes);
    known = λ v. tt;
    sized = λ v. (let long = good_text text good in link_sized (omega (arith, long.1)) long.2);
    changing = refl;
    uncommitted = refl;
    unclean = refl;
    remembering = refl;
  }

-- ---- its exits

module _ {version N : ℕ} {p : List ℕ} {d : ℕ} (of : NewCall version N p d) (s : State) (same : s.version ≡ version)
    (walk : Parent s.tree p (At d)) where
  abbrev grown : Tree
  grown = with_new s.tree d p (new_node of.kind)

  -- the state after it
  abbrev pub with_entry : State
  with_entry = record { tree = grown; handles = of.handles s; version = s.version }

  -- the rule of a new entry comes first
  abbrev pub checks_new : ChecksNew N s p d of.call of.is_mkdir
  checks_new = record {
    first_end = At d;
    second_end = At 1;
    rest = when (of.own s) of.why ∷ no_number s.tree ∷ no_space N grown ∷ [];
    otherwise = (of.answer s, with_entry);
    first = of.first s.tree walk;
    second = of.second s.tree;
    is = of.is s same;
  }

  module _ (taken : IsTaken s p d of.is_mkdir) where
    pub new_own : of.own s ≡ true → Step N s of.call (Refuse of.why) s
    new_own own = step_new checks_new (new_taken checks_new taken ∙ rw own refl)

    module _ (allowed : of.own s ≡ false) where
      pub new_no_number : 4095 < least s.tree → Step N s of.call (Refuse NoNumber) s
      new_no_number all = step_new checks_new (new_taken checks_new taken ∙ rw (allowed, below 4095 (least s.tree) all) refl)

      module _ (number : least s.tree ≤ 4095) where
        pub new_no_space : 47 * N < need grown → Step N s of.call (Refuse NoSpace) s
        new_no_space lacks = step_new checks_new (new_taken checks_new taken
            ∙ rw (allowed, not_below 4095 (least s.tree) number, below (47 * N) (need grown) lacks) refl)

        pub new_done : need grown ≤ 47 * N → Step N s of.call (of.answer s) with_entry
        new_done room = step_new checks_new (new_taken checks_new taken
            ∙ rw (allowed, not_below 4095 (least s.tree) number, not_below (47 * N) (need grown) room) refl)
