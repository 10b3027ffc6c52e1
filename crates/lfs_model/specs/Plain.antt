-- The plain, slow program: it computes the ends of walks, and so what a list of calls answers. All of it is an own choice: the
-- walk and the steps are what says what is right, and the laws say that this program keeps to them.
use Rattle.std.specs.Prelude.{ℕ, zero, suc, Bool, true, false, ◌||◌, List, [], ◌∷◌, ◌++◌, length, if◌then◌else◌, nat_lt, Option, Some, None}
use Rattle.std.specs.Prelude.{option_map, option_and_then}
use Rattle.lfs_model.specs.Tree.{Tree, Node, File, Dir, Link, State, node, entry, up, same_name, name_limit}
use Rattle.lfs_model.specs.PathText.{comps, slash, but_last, text_refusal}
use Rattle.lfs_model.specs.Refusal.{Refusal, NameTooLong, NoEntry, NotDir, Loop}
use Rattle.lfs_model.specs.Walk.{End, At, Refused, dot, dot_dot, more, start, slash_with}
use Rattle.lfs_model.specs.Call.{Call, Answer}
use Rattle.lfs_model.specs.Step.{Path, Whole, Holder, NoPath, path_of, second_path_of, outcome}
use Rattle.lfs_model.specs.declared.limits.TheConstants.{MOST_FOLLOWED}

-- what a piece is in a directory
pub data Seen : Type 0 where
  Here : Seen
  Above : Seen
  TooLong : Seen
  Absent : Seen
  ADir : ℕ → Seen
  AFile : ℕ → Seen
  ALink : ℕ → List ℕ → Seen
  Nowhere : Seen

-- what node n is
abbrev pub seen_node : ℕ → Option Node → Seen
seen_node n (Some (File b)) = AFile n
seen_node n (Some (Dir form m)) = ADir n
seen_node n (Some (Link text)) = ALink n text
seen_node n None = Nowhere

-- what an entry gives
abbrev pub seen_entry : Tree → Option ℕ → Seen
seen_entry t None = Absent
seen_entry t (Some n) = seen_node n (node t n)

-- what piece p is in d
abbrev pub look : Tree → ℕ → List ℕ → Seen
look t d p = if same_name p dot then Here
    else (if same_name p dot_dot then Above else (if nat_lt (name_limit t d) (length p) then TooLong else seen_entry t (entry t d p)))

-- one piece: `go` walks the pieces after it, and `again` walks on from a link's text
abbrev pub turn : Tree → Bool → (ℕ → List (List ℕ) → Bool → Option End) → (ℕ → Option End) → ℕ → List (List ℕ) → Bool → Seen → Option End
turn t follow again go d ps s Here = go d
turn t follow again go d ps s Above = go (up t d)
turn t follow again go d ps s TooLong = Some (Refused NameTooLong)
turn t follow again go d ps s Absent = Some (Refused NoEntry)
turn t follow again go d ps s (ADir n) = go n
turn t follow again go d ps s (AFile n) = Some (if more ps s then Refused NotDir else At n)
turn t follow again go d ps s (ALink n text) = elim (more ps s || follow)
    [ true ↦ again (start text d) (comps text ++ ps) (slash_with text ps s) | false ↦ Some (At n) ]
turn t follow again go d ps s Nowhere = None

-- the pieces in order
abbrev pub walk_in : Tree → Bool → (ℕ → List (List ℕ) → Bool → Option End) → ℕ → List (List ℕ) → Bool → Option End
walk_in t follow again d [] s = Some (At d)
walk_in t follow again d (p ∷ ps) s = turn t follow again (λ to. walk_in t follow again to ps s) d ps s (look t d p)

-- with this many links still to be followed
abbrev pub walk_to : ℕ → Tree → Bool → ℕ → List (List ℕ) → Bool → Option End
walk_to zero t follow = walk_in t follow (λ d ps s. Some (Refused Loop))
walk_to (suc k) t follow = walk_in t follow (walk_to k t follow)

-- a path's end: its text's refusal, or the walk's end
abbrev pub ends_to : Option Refusal → Option End → Option End
ends_to None e = e
ends_to (Some r) e = Some (Refused r)

-- the end of a call's path
abbrev pub path_to : Tree → Path → Option End
path_to t (Whole p follow) = ends_to (text_refusal p) (walk_to MOST_FOLLOWED t follow 1 (comps p) (slash p))
path_to t (Holder p) = ends_to (text_refusal p) (walk_to MOST_FOLLOWED t true 1 (but_last (comps p)) true)
path_to t NoPath = Some (At 1)

-- a call's answer and the state after it
abbrev pub step_to : ℕ → State → Call → Option (Answer × State)
step_to N s call =
    option_and_then (λ e. option_map (λ f. outcome N s call e f) (path_to s.tree (second_path_of call))) (path_to s.tree (path_of call))

-- one more answer before the others
abbrev pub onto : Answer → Option (List Answer × State) → Option (List Answer × State)
onto a None = None
onto a (Some r) = Some (a ∷ r.0, r.1)

-- the answers, and the state in the end
abbrev pub run_to : ℕ → State → List Call → Option (List Answer × State)
run_to N s [] = Some ([], s)
run_to N s (call ∷ calls) = elim (step_to N s call) [ None ↦ None | Some r ↦ onto r.0 (run_to N r.1 calls) ]

-- a volume as `format` makes it
abbrev pub fresh : State
fresh = record { tree = (1, Dir 0 []) ∷ []; handles = []; version = 1 }

-- the answers alone
abbrev pub answers_to : ℕ → State → List Call → Option (List Answer)
answers_to N s calls = option_map (λ r. r.0) (run_to N s calls)
