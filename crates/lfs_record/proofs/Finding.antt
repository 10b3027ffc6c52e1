-- What a recorder finds as it begins.
use Rattle.std.proofs.Common.{◌≡◌, ◌≢◌, ◌⊎◌, inl, inr, ⊎_elim, ◌≤◌, ℕ, zero, suc, ◌-◌, Bool, true, false, cond, List, [], ◌∷◌, ◌++◌}
use Rattle.std.proofs.Common.{Option, Some, None, refl, sym, ap, ap₂, ◌∙◌, subst, length, take, drop, map, arith}
use Rattle.std.specs.Prelude.{T, ◌==◌, ◌&&◌, if◌then◌else◌, nat_lt, slice_get, unwrap_or}
use Rattle.std.specs.List.{AllByRecursion}
use Rattle.std.proofs.lemmas.Bool.{false≢true}
use Rattle.std.proofs.lemmas.Bool.Decides.{nat_tests}
use Rattle.std.specs.Ordering.{eq_by_cmp, is_eq, nat_cmp}
use Rattle.std.specs.Cmp.Lexicographic.{nat_list_cmp_total}
use Rattle.std.specs.declared.cmp.Ordering.TheVariants.{Less, Equal, Greater}
use Rattle.std.specs.FinMap.{find, is_sorted, nat_cmp-IsAntisymmetric, put, slice_cmp-IsAntisymmetric}
use Rattle.lfs_model.specs.Bytes.{part}
use Rattle.lfs_model.specs.Call.{Answer, Call, Close, Data, DirectoryEntry, Done, Handle, LstatOf, Open, Pread, Stat, Status, is_ok}
use Rattle.lfs_model.specs.Refusal.{Inval, IsDir}
use Rattle.lfs_model.specs.Run.{Answers, Point, Run, final}
use Rattle.lfs_model.specs.Sound.{Sound}
use Rattle.lfs_model.specs.Step.{Step, bad_handle, entry_of, file_at, file_bytes, no_handle, opens as opens_at}
use Rattle.lfs_model.specs.Step.{let_go, reached, size_of, stat_of, the_node, when}
use Rattle.lfs_model.specs.Tree.{File, Handles, Names, Node, State, Tree, byte_cmp, entry, is_dir, least_handle, links, links_at, names}
use Rattle.lfs_model.specs.Tree.{node}
use Rattle.lfs_model.specs.Tree.{opened, without}
use Rattle.lfs_model.specs.Walk.{At, End, Refused}
use Rattle.lfs_model.proofs.Pendings.{reads_leave}
use Rattle.lfs_model.proofs.Shrinking.{after, at_dir, named_counts, names_after}
use Rattle.lfs_model.proofs.Sums.{T_left, T_right, find_without}
use Rattle.lfs_model.proofs.Trees.{find_here}
use Rattle.lfs_record.specs.Beginning.{AreWhole, Begins, FindsFiles, GoesOn, IsButHandles, TakesUp, begun, behind, has_newest, has_none}
use Rattle.lfs_record.specs.Beginning.{is_empty}
use Rattle.lfs_record.specs.Beginning.{is_own, is_whole, is_opened, not_own, not_whole}
use Rattle.lfs_record.specs.Files.{is_file, newest, or_this}
use Rattle.lfs_record.specs.Keeping.{GoesBy, IsOpen}
use Rattle.lfs_record.specs.Kept.{bytes_in}
use Rattle.lfs_record.specs.Moves.{Calls, root}
use Rattle.lfs_record.specs.Names.{day_of, is_name, number_of, path_of}
use Rattle.lfs_record.specs.declared.recorder.Present.{Present}
use Rattle.lfs_record.specs.declared.recorder.Recorder.{Recorder}
use Rattle.lfs_record.proofs.Along.{listed, stepped}
use Rattle.lfs_record.proofs.Changes.{HasRoot, all_found, names_are}
use Rattle.lfs_record.proofs.Listed.{AreBehind, behind_is, never_both}
use Rattle.lfs_record.proofs.Oldest.{all_at, both, file_has}
use Rattle.lfs_record.proofs.Order.{numbers_order}
use Rattle.lfs_record.proofs.Paths.{IsAtOr, path_whole}
use Rattle.lfs_record.proofs.Refusing.{close_done, passed}
use Rattle.lfs_record.proofs.Steps.{closes_or, file_of_bytes, root_of}
use Rattle.lfs_record.proofs.Stopping.{found_at}

-- ---- the newest name

-- no name is a recorder's
none_named : (t : Tree) (m : Names) → newest (map (entry_of t) m) ≡ None → AllByRecursion (λ e. is_name e.0 ≡ false) m
none_named t [] is = tt
none_named t (e ∷ m) is =
    elim (newest (map (entry_of t) m)) as (λ o. newest (map (entry_of t) m) ≡ o → or_this o (entry_of t e) ≡ None
    → AllByRecursion (λ e. is_name e.0 ≡ false) (e ∷ m)) [
      | Some g ↦ λ p is. cc
      | None ↦ λ p is. (
        elim (is_name e.0) as (λ b. cond b (Some (entry_of t e)) None ≡ None → b ≡ false) [
          | true ↦ λ is. cc
          | false ↦ λ is. refl
        ] is,
        none_named t m p,
      )
    ] refl is

-- a name that is the newest, or before it
abbrev IsUpTo : List ℕ → List ℕ × ℕ → Type 0
IsUpTo name e = is_name e.0 ≡ true → (e.0 ≡ name) ⊎ (byte_cmp e.0 name ≡ Less)

-- The newest of some names stands among them, and each other that is a recorder's is before it.
pub record NewestAt (f : DirectoryEntry) (m : Names) : Type 0 where
  pub before : Names
  pub after : Names
  pub whole : m ≡ before ++ (f.name, f.number) ∷ after
  pub named : is_name f.name ≡ true
  pub last : AllByRecursion (IsUpTo f.name) m

none_up : (name : List ℕ) (m : Names) → AllByRecursion (λ e. is_name e.0 ≡ false) m → AllByRecursion (IsUpTo name) m
none_up name [] none = tt
none_up name (e ∷ m) none = (λ named. absurd (false≢true (sym none.0 ∙ named)), none_up name m none.1)

newest_at : (t : Tree) (f : DirectoryEntry) (m : Names) → T (is_sorted byte_cmp m) → newest (map (entry_of t) m) ≡ Some f → NewestAt f m
newest_at t f [] sorted is = cc
newest_at t f (e ∷ m) sorted is =
    elim (newest (map (entry_of t) m)) as (λ o. newest (map (entry_of t) m) ≡ o → or_this o (entry_of t e) ≡ Some f
    → NewestAt f (e ∷ m)) [
      | Some g ↦ λ p is. (
          let rest = newest_at t f m (T_right _ _ sorted) (p ∙ is) in
          let less : byte_cmp e.0 f.name ≡ Less = all_at (λ x. byte_cmp e.0 x.0 ≡ Less) rest.before (f.name, f.number) rest.after
          (subst (AreBehind e.0) rest.whole (behind_is e.0 m (T_left _ _ sorted))) in
          record {
            before = e ∷ rest.before;
            after = rest.after;
            whole = ap (λ (l : Names). e ∷ l) rest.whole;
            named = rest.named;
            last = (λ named. inr less, rest.last);
          })
      | None ↦ λ p is. here (is_name e.0) refl p is
    ] refl is
  where
    here : (b : Bool) → is_name e.0 ≡ b → newest (map (entry_of t) m) ≡ None → cond b (Some (entry_of t e)) None ≡ Some f
        → NewestAt f (e ∷ m)
    here true named none is =
        let same : entry_of t e ≡ f = ap (λ (o : Option DirectoryEntry). unwrap_or o f) is in
        subst (λ (g : DirectoryEntry). NewestAt g (e ∷ m)) same (record {
          before = [];
          after = m;
          whole = refl;
          named = named;
          last = (λ _. inl refl, none_up e.0 m (none_named t m none));
        })
    here false named none is = cc

-- ---- one name

-- two names of one number are counted twice
other_name : (t : Tree) (n form : ℕ) (m : Names) (x y : List ℕ) → T (is_sorted nat_cmp t) → HasRoot t form m → find byte_cmp x m ≡ Some n
    → find byte_cmp y m ≡ Some n → y ≢ x → names t n ≡ 1 → ⊥
other_name t n form m x y sorted root here there other one =
    let d : eq_by_cmp byte_cmp y x ≡ false = apart (byte_cmp y x) refl in
    let left : find byte_cmp y (without byte_cmp x m) ≡ Some n =
    find_without nat_list_cmp_total x y m ∙ ap (λ (b : Bool). cond b None (find byte_cmp y m)) d ∙ there in
    let shrunk : Tree = after t 1 n form m x sorted root.is root.sorted here in
    let counts : 1 ≤ names shrunk n = named_counts shrunk 1 y n (ap (find byte_cmp y)
    (names_are shrunk form (without byte_cmp x m) (at_dir t 1 n form m x sorted root.is root.sorted here)) ∙ left) in
    let less = names_after t 1 n form m x sorted root.is root.sorted here n in
    let same : (n == n) ≡ true = itself n in
    let e : ◌≡◌ {A = ℕ} (if n == n then 1 else 0) 1 = ap (λ (b : Bool). if b then 1 else 0) same in
    omega (arith, counts, less, e, one)
  where
    itself : (a : ℕ) → (a == a) ≡ true
    itself a = grind (arith, nat_tests)

    apart : (r : _) → byte_cmp y x ≡ r → is_eq r ≡ false
    apart Less p = refl
    apart Equal p = absurd (other (slice_cmp-IsAntisymmetric nat_cmp-IsAntisymmetric y x p))
    apart Greater p = refl

-- ---- the calls of the newest file

abbrev stat_in : Answer → Stat → Stat
stat_in (Status stat) other = stat
stat_in _ other = other

abbrev handle_in : Answer → ℕ
handle_in (Handle h) = h
handle_in _ = 0

abbrev bytes_told : Answer → List ℕ
bytes_told (Data bytes) = bytes
bytes_told _ = []

status_is : (s : State) (n : ℕ) (stat : Stat) (e : End) → IsAtOr n e
    → (reached s e (λ k. (Status (stat_of s.tree k), s))).0 ≡ Status stat → stat ≡ stat_of s.tree n
status_is s n stat (At k) at is = sym (ap (λ (a : Answer). stat_in a stat) is) ∙ ap (stat_of s.tree) at
status_is s n stat (Refused r) at is = cc

-- the state in which one more file is open
abbrev with_open : State → ℕ → ℕ → State
with_open s h n = record s { handles = put nat_cmp h n s.handles }

opens_is : (s s' : State) (n h : ℕ) (e : End) → IsAtOr n e → (reached s e (opens_at s)).0 ≡ Handle h → (reached s e (opens_at s)).1 ≡ s'
    → s' ≡ with_open s h n
opens_is s s' n h (At k) at is state =
    let least : ℕ = least_handle s.handles in
    let pass = passed s (when (is_dir (node s.tree k)) IsDir ∷ no_handle s ∷ []) (Handle least, with_open s least k)
    (λ _. refl, (λ _. refl, tt)) (ap is_ok is) in
    let same : least ≡ h = sym (ap (λ (r : Answer × State). handle_in r.0) pass.1) ∙ ap handle_in is in
    sym state ∙ ap (λ (r : Answer × State). r.1) pass.1 ∙ ap₂ (λ (x : ℕ) (y : ℕ). with_open s x y) same at
opens_is s s' n h (Refused r) at is state = cc

-- what is read of an open file
reads_is : (N : ℕ) (s s' : State) (h off count n : ℕ) (b bytes : List ℕ) → find nat_cmp h s.handles ≡ Some n
    → node s.tree n ≡ Some (File b) → Step N s (Pread h off count) (Data bytes) s' → bytes ≡ part b off count
reads_is N s s' h off count n b bytes opens is st =
    let told : Answer × State = (Data (part (file_bytes (the_node s.tree (file_at s h))) off count), s) in
    let pass = passed s (bad_handle s h ∷ when (nat_lt 65536 count) Inval ∷ []) told (λ _. refl, (λ _. refl, tt)) (ap is_ok st.answer) in
    let at : file_at s h ≡ n = ap (λ (o : Option ℕ). unwrap_or o 0) opens in
    let was : file_bytes (the_node s.tree (file_at s h)) ≡ b =
    ap (λ (k : ℕ). file_bytes (the_node s.tree k)) at ∙ ap (λ (o : Option Node). file_bytes (unwrap_or o (File []))) is in
    sym (ap bytes_told st.answer) ∙ ap (λ (r : Answer × State). bytes_told r.0) pass.1 ∙ ap (λ (x : List ℕ). part x off count) was

-- the last byte is a newline
last_is : (b : List ℕ) (n : ℕ) → suc n ≡ length b → 10 ∷ [] ≡ take 1 (drop n b) → (before : List ℕ) × (b ≡ before ++ 10 ∷ [])
last_is [] n long is = absurd (omega (arith, long))
last_is (x ∷ []) zero long is = ([], sym is)
last_is (x ∷ []) (suc n) long is = absurd (omega (arith, long))
last_is (x ∷ y ∷ b) zero long is = absurd (omega (arith, long))
last_is (x ∷ y ∷ b) (suc n) long is =
    let rest = last_is (y ∷ b) n (omega (arith, long)) is in (x ∷ rest.0, ap (λ (l : List ℕ). x ∷ l) rest.1)

whole_by : (b : List ℕ) → 10 ∷ [] ≡ part b (length b - 1) 1 → AreWhole b
whole_by [] is = cc
whole_by (x ∷ b) is =
    let e : length (x ∷ b) - 1 ≡ length b = omega arith in
    inr (last_is (x ∷ b) (length b) (omega arith) (is ∙ ap (λ (n : ℕ). take 1 (drop n (x ∷ b))) e))

-- a handle that is closed leaves what has a name
closes_named : (N : ℕ) (s s' : State) (h n : ℕ) (a : Answer) → find nat_cmp h s.handles ≡ Some n → names s.tree n ≡ 1
    → Step N s (Close h) a s' → IsButHandles s s'
closes_named N s s' h n a opens one st =
    ⊎_elim (λ (same : s' ≡ s). subst (λ (x : State). x ≡ record s { handles = x.handles }) (sym same) refl)
    (λ (shut : (s' ≡ (close_done s h).1) × (find nat_cmp h s.handles ≢ None)).
    (let at : file_at s h ≡ n = ap (λ (o : Option ℕ). unwrap_or o 0) opens in
    let some : (names s.tree (file_at s h) == 0) ≡ false = (let e : names s.tree (file_at s h) ≡ 1 = ap (names s.tree) at ∙ one in
    grind (arith, nat_tests)) in
    let rest : Handles = without nat_cmp h s.handles in
    let kept : let_go s.tree rest (file_at s h) ≡ s.tree =
    ap (λ (b : Bool). if b && opened rest (file_at s h) == 0 then without nat_cmp (file_at s h) s.tree else s.tree) some in
    let is : s' ≡ record s { handles = rest } = shut.0 ∙ ap (λ (t : Tree). record s { tree = t; handles = rest }) kept in
    subst (λ (x : State). x ≡ record s { handles = x.handles }) (sym is) refl))
    (closes_or N s s' h a st)

but_tree : (s s' : State) → IsButHandles s s' → s'.tree ≡ s.tree
but_tree s s' is = ap (λ (x : State). x.tree) is

but_same : (s s' : State) → s' ≡ s → IsButHandles s s'
but_same s s' same = subst (λ (x : State). x ≡ record s { handles = x.handles }) (sym same) refl

but_more : (s s' s'' : State) → IsButHandles s s' → IsButHandles s' s'' → IsButHandles s s''
but_more s s' s'' first second =
    second ∙ ap (λ (x : State). record x { handles = s''.handles }) first

-- ---- the newest file, in a sound state

-- the present file that is gone on in
abbrev IsGood : ℕ → State → Present → Type 0
IsGood number s p = (is : IsOpen number s p) × AreWhole is.bytes

module _ (N : ℕ) (s : State) (sound : Sound N s) (f : DirectoryEntry) (at : NewestAt f (root_of N s sound).1) where
  abbrev form : ℕ
  form = (root_of N s sound).0

  abbrev m : Names
  m = (root_of N s sound).1

  there_root : HasRoot s.tree form m
  there_root = (root_of N s sound).2

  found : find byte_cmp f.name m ≡ Some f.number
  found = all_at (λ x. find byte_cmp x.0 m ≡ Some x.1) at.before (f.name, f.number) at.after
      (subst (AllByRecursion (λ x. find byte_cmp x.0 m ≡ Some x.1)) at.whole (all_found m there_root.sorted))

  entry_in : (name : List ℕ) (n : ℕ) → entry s.tree 1 name ≡ Some n → find byte_cmp name m ≡ Some n
  entry_in name n is = ap (find byte_cmp name) (sym (names_are s.tree form m there_root.is)) ∙ is

  there : entry s.tree 1 f.name ≡ Some f.number
  there = ap (find byte_cmp f.name) (names_are s.tree form m there_root.is) ∙ found

  up_to : (name : List ℕ) (n : ℕ) → entry s.tree 1 name ≡ Some n → is_name name ≡ true → (name ≡ f.name) ⊎ (byte_cmp name f.name ≡ Less)
  up_to name n is named =
      let place = found_at name n m there_root.sorted (entry_in name n is) in
      all_at (IsUpTo f.name) place.before (name, n) place.after (subst (AllByRecursion (IsUpTo f.name)) place.order at.last) named

  no_greater : (name : List ℕ) → is_name name ≡ true → (name ≡ f.name) ⊎ (byte_cmp name f.name ≡ Less)
      → number_of name ≤ number_of f.name
  no_greater name named (inl same) = (let e : number_of name ≡ number_of f.name = ap number_of same in omega (arith, e))
  no_greater name named (inr less) = by (nat_lt (number_of f.name) (number_of name)) refl
    where
      by : (b : Bool) → nat_lt (number_of f.name) (number_of name) ≡ b → number_of name ≤ number_of f.name
      by true p = absurd (never_both f.name name (numbers_order f.name name at.named named (grind (arith, nat_tests))) less)
      by false p = grind (arith, nat_tests)

  pub newest_goes : (bytes files : ℕ) (present : Option Present) (s' : State) → s'.tree ≡ s.tree
      → ((p : Present) → present ≡ Some p → IsOpen (number_of f.name) s' p) → GoesBy (begun bytes files (number_of f.name) present) s'
  newest_goes bytes files present s' same is_open = record {
    newest = λ name n is named. no_greater name named
        (up_to name n (subst (λ (t : Tree). entry t 1 name ≡ Some n) same is) named);
    present = is_open;
  }

  status : (stat : Stat) (s' : State) → Step N s (LstatOf (path_of f.name)) (Status stat) s' → stat ≡ stat_of s.tree f.number
  status stat s' st =
      status_is s f.number stat st.first_end
      (path_whole f.name at.named s.tree false f.number st.first_end there (λ _ _. refl) st.first) st.answer

  module _ (stat : Stat) (told : stat ≡ stat_of s.tree f.number) (own : is_own stat ≡ true) where
    has : (b : List ℕ) × (bytes_in (node s.tree f.number) ≡ Some b)
    has = file_has (node s.tree f.number) (sound.named 1 f.name f.number there)
        (ap (λ (x : Stat). is_file x.kind) (sym told) ∙ (both (is_file stat.kind) (stat.links == 1) own).0)

    is_node : node s.tree f.number ≡ Some (File has.0)
    is_node = file_of_bytes (node s.tree f.number) has.0 has.1

    size : stat.size ≡ length has.0
    size = ap (λ (x : Stat). x.size) told ∙ ap (λ (o : Option Node). size_of (unwrap_or o (File []))) is_node

    once : names s.tree f.number ≡ 1
    once =
        let e : links s.tree f.number ≡ names s.tree f.number = ap (links_at s.tree f.number) is_node in
        let is : stat.links ≡ 1 = one stat.links (both (is_file stat.kind) (stat.links == 1) own).1 in
        sym e ∙ sym (ap (λ (x : Stat). x.links) told) ∙ is
      where
        one : (a : ℕ) → (a == 1) ≡ true → a ≡ 1
        one a p = grind (arith, nat_tests)

    opened_is : (h : ℕ) (s' : State) → Step N s (Open (path_of f.name)) (Handle h) s' → s' ≡ with_open s h f.number
    opened_is h s' st =
        opens_is s s' f.number h st.first_end
        (path_whole f.name at.named s.tree true f.number st.first_end there (λ text is. (let e = is_node in cc)) st.first)
        st.answer st.state

    is_good : (s' : State) (h : ℕ) → s'.tree ≡ s.tree → find nat_cmp h s'.handles ≡ Some f.number → AreWhole has.0
        → IsGood (number_of f.name) s' (behind h (day_of f.name) stat.size)
    is_good s' h same opens whole = (
      record {
        name = f.name;
        n = f.number;
        bytes = has.0;
        is_there = subst (λ (t : Tree). entry t 1 f.name ≡ Some f.number) (sym same) there;
        named = at.named;
        numbered = refl;
        is_file = subst (λ (t : Tree). node t f.number ≡ Some (File has.0)) (sym same) is_node;
        opens = opens;
        long = size;
        last = λ other k is named ne. (
            let was = subst (λ (t : Tree). entry t 1 other ≡ Some k) same is in (
              ⊎_elim (λ (e : other ≡ f.name). absurd (ne e)) (λ (less : byte_cmp other f.name ≡ Less). less) (up_to other k was named),
              λ e. other_name s.tree f.number form m f.name other sound.in_order there_root found
                  (entry_in other k was ∙ ap Some e) ne once,
            ));
      },
      whole,
    )

  -- ---- calls of it, from a point of this state

  -- what they leave
  record Left (present : Option Present) (p : Point) (points : List Point) : Type 0 where
    open_file : (x : Present) → present ≡ Some x → IsGood (number_of f.name) (final p points).state x
    same : AllByRecursion (λ q. IsButHandles s q.state) points
    tree : (final p points).state.tree ≡ s.tree

  none_open : (s' : State) (x : Present) → None ≡ Some x → IsGood (number_of f.name) s' x
  none_open s' x is = cc

  one_open : (s' : State) (x y : Present) → Some x ≡ Some y → IsGood (number_of f.name) s' x → IsGood (number_of f.name) s' y
  one_open s' x y is good = subst (IsGood (number_of f.name) s') (ap (λ (o : Option Present). unwrap_or o x) is) good

  step_from : (call : Call) (a : Answer) (p q : Point) (s' : State) → p.state ≡ s' → Answers N call p a q → is_ok a ≡ true
      → Step N s' call a q.state
  step_from call a p q s' at does ok = subst (λ (x : State). Step N x call a q.state) at (stepped p q does ok)

  module _ (stat : Stat) (told : stat ≡ stat_of s.tree f.number) (own : is_own stat ≡ true) (h : ℕ) where
    abbrev now : State
    now = with_open s h f.number

    is_found : find nat_cmp h now.handles ≡ Some f.number
    is_found = find_here s.handles h f.number

    last_read : (p q : Point) (bytes : List ℕ) → p.state ≡ now → Answers N (Pread h (stat.size - 1) 1) p (Data bytes) q
        → (q.state ≡ now) × (bytes ≡ part (has stat told own).0 (length (has stat told own).0 - 1) 1)
    last_read p q bytes at does =
        let st = step_from (Pread h (stat.size - 1) 1) (Data bytes) p q now at does refl in (
          reads_leave N now q.state (Pread h (stat.size - 1) 1) (Data bytes) refl st,
          reads_is N now q.state h (stat.size - 1) 1 f.number (has stat told own).0 bytes is_found (is_node stat told own) st
              ∙ ap (λ (n : ℕ). part (has stat told own).0 (n - 1) 1) (size stat told own),
        )

    good : (p : Point) → p.state ≡ now → AreWhole (has stat told own).0
        → IsGood (number_of f.name) p.state (behind h (day_of f.name) stat.size)
    good p at whole = subst (λ (x : State). IsGood (number_of f.name) x (behind h (day_of f.name) stat.size)) (sym at)
        (is_good stat told own now h refl is_found whole)

    goes_on : (calls : Calls) (present : Option Present) → GoesOn h (day_of f.name) stat.size calls present → (p : Point) → p.state ≡ now
        → (points : List Point) → Run N p (map (λ c. c.0) calls) (map (λ c. c.1) calls) points → Left present p points
    goes_on calls present (is_empty none) p at [] run = record {
      open_file = λ x is. one_open p.state (behind h (day_of f.name) stat.size) x is
          (good p at (inl (no_bytes (has stat told own).0 (sym (size stat told own) ∙ none))));
      same = tt;
      tree = ap (λ (x : State). x.tree) at;
    }
      where
        no_bytes : (b : List ℕ) → length b ≡ 0 → b ≡ []
        no_bytes [] same = refl
        no_bytes (x ∷ b) same = absurd (omega (arith, same))
    goes_on calls present (is_empty none) p at (q ∷ points) run = absurd run
    goes_on calls present is_whole p at [] run = absurd run
    goes_on calls present is_whole p at (q ∷ []) run =
        let read = last_read p q (10 ∷ []) at run.0 in record {
          open_file = λ x is. one_open q.state (behind h (day_of f.name) stat.size) x is
              (good q read.0 (whole_by (has stat told own).0 read.1));
          same = (subst (IsButHandles s) (sym read.0) refl, tt);
          tree = ap (λ (x : State). x.tree) read.0;
        }
    goes_on calls present is_whole p at (q ∷ o ∷ points) run = absurd run.1
    goes_on calls present (not_whole bytes) p at [] run = absurd run
    goes_on calls present (not_whole bytes) p at (q ∷ []) run = absurd run.1
    goes_on calls present (not_whole bytes) p at (q ∷ o ∷ []) run =
        let read = last_read p q bytes at run.0 in
        let shut = closes_named N now o.state h f.number Done is_found (once stat told own)
        (step_from (Close h) Done q o now read.0 run.1.0 refl) in record {
          open_file = λ x is. none_open o.state x is;
          same = (subst (IsButHandles s) (sym read.0) refl, (but_more s now o.state refl shut, tt));
          tree = but_tree now o.state shut;
        }
    goes_on calls present (not_whole bytes) p at (q ∷ o ∷ r ∷ points) run = absurd run.1.1

  takes_up : (calls : Calls) (present : Option Present) → TakesUp f.name calls present → (p : Point) → p.state ≡ s
      → (points : List Point) → Run N p (map (λ c. c.0) calls) (map (λ c. c.1) calls) points → Left present p points
  takes_up calls present (not_own stat other) p at [] run = absurd run
  takes_up calls present (not_own stat other) p at (q ∷ []) run =
      let same = reads_leave N s q.state (LstatOf (path_of f.name)) (Status stat) refl
      (step_from (LstatOf (path_of f.name)) (Status stat) p q s at run.0 refl) in record {
        open_file = λ x is. none_open q.state x is;
        same = (but_same s q.state same, tt);
        tree = ap (λ (x : State). x.tree) same;
      }
  takes_up calls present (not_own stat other) p at (q ∷ o ∷ points) run = absurd run.1
  takes_up calls present (is_opened stat handle own goes) p at [] run = absurd run
  takes_up calls present (is_opened stat handle own goes) p at (q ∷ []) run = absurd run.1
  takes_up calls present (is_opened {calls = calls'} stat handle own goes) p at (q ∷ o ∷ points) run =
      let first = step_from (LstatOf (path_of f.name)) (Status stat) p q s at run.0 refl in
      let same = reads_leave N s q.state (LstatOf (path_of f.name)) (Status stat) refl first in
      let told = status stat q.state first in
      let now = opened_is stat told own handle o.state
      (step_from (Open (path_of f.name)) (Handle handle) q o s same run.1.0 refl) in
      let rest = goes_on stat told own handle calls' present goes o now points run.1.1 in record {
        open_file = rest.open_file;
        same = (but_same s q.state same, (subst (IsButHandles s) (sym now) refl, rest.same));
        tree = rest.tree;
      }

-- ---- all of them

-- a point of a list
all_got : (P : Point → Type 0) (ps : List Point) (n : ℕ) (q : Point) → AllByRecursion P ps → slice_get ps n ≡ Some q → P q
all_got P [] n q all is = cc
all_got P (p ∷ ps) zero q all is = subst P (ap (λ (o : Option Point). unwrap_or o p) is) all.0
all_got P (p ∷ ps) (suc n) q all is = all_got P ps n q all.1 is

-- what an open file has, by its handle
whole_in : (number : ℕ) (s : State) (p : Present) (n : ℕ) (bytes : List ℕ) → IsGood number s p → find nat_cmp p.handle s.handles ≡ Some n
    → node s.tree n ≡ Some (File bytes) → AreWhole bytes
whole_in number s p n bytes good at is =
    let open_file = good.0 in
    let there = open_file.opens in
    let same : n ≡ open_file.n = cc in
    let e : Some (File bytes) ≡ Some (File open_file.bytes) = sym is ∙ ap (node s.tree) same ∙ open_file.is_file in
    let b : open_file.bytes ≡ bytes = cc in
    subst AreWhole b good.1

-- a name that is there isn't a recorder's
unnamed_is : (m : Names) (name : List ℕ) (n : ℕ) → T (is_sorted byte_cmp m) → AllByRecursion (λ e. is_name e.0 ≡ false) m
    → find byte_cmp name m ≡ Some n → is_name name ≡ false
unnamed_is m name n sorted none is =
    let place = found_at name n m sorted is in
    all_at (λ e. is_name e.0 ≡ false) place.before (name, n) place.after
    (subst (AllByRecursion (λ e. is_name e.0 ≡ false)) place.order none)

pub finds_files : (bytes files : ℕ) (calls : Calls) (r : Recorder) → Begins bytes files calls r → FindsFiles calls r
finds_files bytes files calls r (has_none entries none) N first [] run sound = absurd run
finds_files bytes files calls r (has_none entries none) N first (q ∷ []) run sound =
    let top = root_of N first.state sound in
    let told = listed first.state q.state top.0 top.1 entries top.2 (stepped first q run.0 refl) in
    let unnamed = none_named first.state.tree top.1 (ap newest (sym told.1) ∙ none) in record {
      goes_by = record {
        newest = λ name n is named. (
            let was = subst (λ (x : State). entry x.tree 1 name ≡ Some n) told.0 is in
            let none_is = unnamed_is top.1 name n top.2.sorted unnamed
            (ap (find byte_cmp name) (sym (names_are first.state.tree top.0 top.1 top.2.is)) ∙ was) in
            absurd (false≢true (sym none_is ∙ named)));
        present = λ p is. cc;
      };
      whole = λ p n b is at there. cc;
      same = λ n o is. all_got (λ x. IsButHandles first.state x.state) (first ∷ q ∷ []) n o
          (refl, (but_same first.state q.state told.0, tt)) is;
    }
finds_files bytes files calls r (has_none entries none) N first (q ∷ o ∷ points) run sound = absurd run.1
finds_files bytes files calls r (has_newest entries f is takes) N first [] run sound = absurd run
finds_files bytes files calls r (has_newest {calls = calls'} {present = present} entries f is takes) N first (q ∷ points) run sound =
    let top = root_of N first.state sound in
    let told = listed first.state q.state top.0 top.1 entries top.2 (stepped first q run.0 refl) in
    let at = newest_at first.state.tree f top.1 top.2.sorted (ap newest (sym told.1) ∙ is) in
    let left = takes_up N first.state sound f at calls' present takes q told.0 points run.1 in record {
      goes_by = newest_goes N first.state sound f at bytes files present (final q points).state left.tree
          (λ p is. (left.open_file p is).0);
      whole = λ p n b is opens there. whole_in (number_of f.name) (final q points).state p n b (left.open_file p is) opens there;
      same = λ n o is. all_got (λ x. IsButHandles first.state x.state) (first ∷ q ∷ points) n o
          (refl, (but_same first.state q.state told.0, left.same)) is;
    }
