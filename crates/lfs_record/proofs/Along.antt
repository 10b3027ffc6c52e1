-- A recorder's calls, one after the other, and what its files hold behind each.
use Rattle.std.proofs.Common.{◌≡◌, ◌≢◌, ◌<◌, ◌≤◌, ℕ, ◌+◌, Bool, true, false, cond, List, [], ◌∷◌, ◌++◌, Option, Some, None, refl, sym}
use Rattle.std.proofs.Common.{ap, ◌∙◌, subst, length, length-append, arith, ◌⊎◌, inl, inr}
use Rattle.std.specs.Prelude.{not, map, unwrap_or}
use Rattle.std.specs.List.{AllByRecursion}
use Rattle.std.proofs.lemmas.Bool.{false≢true}
use Rattle.std.specs.Ordering.{nat_cmp}
use Rattle.std.specs.FinMap.{find, put}
use Rattle.lfs_model.specs.Bytes.{AreBytes}
use Rattle.lfs_model.specs.Call.{Answer, Call, Close, Count, Create, DirectoryEntry, Done, Entries, Handle, Pwrite, Readdir, Refuse}
use Rattle.lfs_model.specs.Call.{Unlink, is_ok}
use Rattle.lfs_model.specs.Refusal.{Refusal}
use Rattle.lfs_model.specs.Run.{Answers, Point}
use Rattle.lfs_model.specs.Sound.{Sound}
use Rattle.lfs_model.specs.Refusal.{NotDir}
use Rattle.lfs_model.specs.Step.{Step, checked, entry_of, file_at, let_go, lists as list_of, reached, when}
use Rattle.lfs_model.specs.Walk.{At, End, Refused, Walk, no_piece}
use Rattle.lfs_model.specs.Tree.{Dir, File, Handles, Names, State, Tree, byte_cmp, is_dir, least, names, names_in, node, with_node}
use Rattle.lfs_model.specs.Tree.{without}
use Rattle.lfs_model.proofs.Keeps.{close_keeps, create_keeps, pwrite_keeps, unlink_keeps}
use Rattle.lfs_model.proofs.Pendings.{reads_leave}
use Rattle.lfs_model.proofs.Trees.{cmp_other, find_here, find_other}
use Rattle.lfs_record.specs.Files.{oldest}
use Rattle.lfs_record.specs.Kept.{Holds, IsOwn, RecordFile, bytes_in, files_by, files_in, has_file, has_text, lost_oldest, text_of}
use Rattle.lfs_record.specs.Moves.{grown, goes_to, next_path, root}
use Rattle.lfs_record.specs.Moves.{started}
use Rattle.lfs_record.specs.Names.{is_day, is_name, name_of, number_of, path_of}
use Rattle.lfs_record.specs.declared.names.TheConstants.{LAST}
use Rattle.lfs_record.specs.declared.recorder.Present.{Present}
use Rattle.lfs_record.specs.declared.recorder.Recorder.{Recorder}
use Rattle.std.specs.Ordering.{eq_by_cmp}
use Rattle.std.specs.Cmp.{ranked}
use Rattle.std.specs.declared.cmp.Ordering.TheVariants.{Equal}
use Rattle.std.specs.FinMap.Entries.{find-where_key}
use Rattle.lfs_record.proofs.Listed.{files_same}
use Rattle.lfs_record.proofs.Changes.{AreUpTo, EndsWith, HasRoot, all_count, all_give, all_map, let_go_kept, end_written, files_are}
use Rattle.lfs_record.proofs.Changes.{left, left_end, left_files, left_root, left_some}
use Rattle.lfs_record.proofs.Changes.{left_up, made_end, made_files, made_root, made_up, names_are}
use Rattle.lfs_record.proofs.Oldest.{OldestAt, all_at, bytes_of, oldest_at}
use Rattle.lfs_model.proofs.Handles.{starts_zero}
use Rattle.lfs_model.proofs.Leasts.{least_free}
use Rattle.lfs_record.proofs.Digits.{name_pattern}
use Rattle.lfs_record.proofs.Paths.{IsPlain, all_plain}
use Rattle.lfs_record.proofs.Refusing.{close_done, refused_same}
use Rattle.lfs_record.proofs.Spelling.{name_made, number_made}
use Rattle.lfs_record.proofs.Steps.{Creates, appends, closes_or, creates, file_of_bytes, unlinks_oldest}

-- the present file in a state
pub record HasPresent (number : ℕ) (s : State) (m : Names) (p : Present) : Type 0 where
  pub name : List ℕ
  pub n : ℕ
  pub bytes : List ℕ
  pub end : EndsWith s.tree m name n bytes
  pub numbered : number_of name ≡ number
  pub opens : find nat_cmp p.handle s.handles ≡ Some n
  pub long : p.end ≡ length bytes

-- a recorder in a state
pub record IsIn (r : Recorder) (s : State) : Type 0 where
  pub form : ℕ
  pub names : Names
  pub root : HasRoot s.tree form names
  pub up : AreUpTo r.number names
  pub present : (p : Present) → r.present ≡ Some p → HasPresent r.number s names p

-- the files of a state by the names of its root
pub files_of_root : (s : State) (form : ℕ) (m : Names) → HasRoot s.tree form m → files_in s.tree ≡ files_by (bytes_of s.tree) m
files_of_root s form m root = ap (files_by (bytes_of s.tree)) (names_are s.tree form m root.is)

-- ---- a step by its answer

no_refusal : (r : Refusal) {a : Answer} → is_ok a ≡ true → a ≡ Refuse r → ⊥
no_refusal r ok is = false≢true (sym (ap is_ok is) ∙ ok)

-- what is done is a step of the model
pub stepped : {N : ℕ} {call : Call} {a : Answer} (p q : Point) → Answers N call p a q → is_ok a ≡ true → Step N p.state call a q.state
stepped {N} {call} {a} p q does ok =
    elim does.steps as (λ _. Step N p.state call a q.state) [
      | inl step ↦ step.0
      | inr refused ↦ absurd (no_refusal refused.0 ok refused.1)
    ]

-- what is refused leaves the state
pub refused_state : {N : ℕ} {call : Call} (r : Refusal) (p q : Point) → IsOwn call → Answers N call p (Refuse r) q → q.state ≡ p.state
refused_state {N} {call} r p q own does =
    elim does.steps as (λ _. q.state ≡ p.state) [
      | inl step ↦ refused_same N p.state q.state (Refuse r) refl call own step.0
      | inr refused ↦ refused.3
    ]

-- what is listed of the root
at_root : (t : Tree) (e : End) → Walk t true 1 [] true 0 e → e ≡ At 1
at_root t (At n) no_piece = refl
at_root t (Refused _) x = elim x [ ]

abbrev entries_in : Answer → List DirectoryEntry
entries_in (Entries entries) = entries
entries_in _ = []

pub listed : {N : ℕ} (s s' : State) (form : ℕ) (m : Names) (entries : List DirectoryEntry) → HasRoot s.tree form m
    → Step N s (Readdir root) (Entries entries) s' → (s' ≡ s) × (entries ≡ map (entry_of s.tree) m)
listed {N} s s' form m entries root st =
    let at = at_root s.tree st.first_end st.first in
    let told = sym (ap (λ e. (reached s e (list_of s)).0) at) ∙ st.answer in
    let whole : Answer × State = (Entries (map (entry_of s.tree) (names_in s.tree 1)), s) in
    let is_directory : not (is_dir (node s.tree 1)) ≡ false = ap (λ o. not (is_dir o)) root.is in
    let done = sym (ap (λ b. (checked s (when b NotDir ∷ []) whole).0) is_directory) ∙ told in (
      reads_leave N s s' (Readdir _) (Entries entries) refl st,
      sym (ap (λ (x : Names). map (entry_of s.tree) x) (sym (names_are s.tree form m root.is)) ∙ ap entries_in done),
    )

-- ---- a line

text_some : (line : List ℕ) → 0 < length (text_of line)
text_some [] = omega arith
text_some (b ∷ line) = omega arith

sound_written : (N : ℕ) (s s' : State) (h off n count : ℕ) (b w : List ℕ) → Sound N s → find nat_cmp h s.handles ≡ Some n
    → bytes_of s.tree n ≡ Some b
    → off ≡ length b → AreBytes w → Step N s (Pwrite h off w) (Count count) s' → Sound N s'
sound_written N s s' h off n count b w sound opens is end bytes st =
    let few : h < 64 = (sound.handles h n opens).0 in
    let low : length b ≤ 8511488 = (sound.limits n (File b) (file_of_bytes (node s.tree n) b is)).0 in
    pwrite_keeps N s s' h off w (Count count) sound (omega (arith, few), omega (arith, low, end), bytes) st

module _ (N : ℕ) (r : Recorder) (s s' : State) (is : IsIn r s) (sound : Sound N s) (p : Present) (line : List ℕ) (count : ℕ)
    (present : r.present ≡ Some p) (st : Step N s (Pwrite p.handle p.end (text_of line)) (Count count) s') where
  has : HasPresent r.number s is.names p
  has = is.present p present

  after : (s'.tree ≡ with_node s.tree has.n (File (has.bytes ++ text_of line))) × (s'.handles ≡ s.handles)
  after = appends N s s' p.handle p.end (text_of line) (text_some line) has.n count has.bytes has.opens has.end.is has.long st

  not_root : has.n ≢ 1
  not_root same = (let e : Some has.bytes ≡ None = sym has.end.is ∙ ap (bytes_of s.tree) same ∙ ap bytes_in is.root.is in cc)

  abbrev t' : Tree
  t' = with_node s.tree has.n (File (has.bytes ++ text_of line))

  line_root : HasRoot s'.tree is.form is.names
  line_root = subst (λ (t : Tree). HasRoot t is.form is.names) (sym after.0) (record {
    is = find_other s.tree has.n (File (has.bytes ++ text_of line)) 1 (λ same. not_root (sym same)) ∙ is.root.is;
    sorted = is.root.sorted;
  })

  line_end : (end' : EndsWith t' is.names has.name has.n (has.bytes ++ text_of line))
      × (files_by (bytes_of t') is.names ≡ files_by
      (bytes_of s.tree) has.end.before ++ record { name = has.name; bytes = has.bytes ++ text_of line } ∷ [])
  line_end = end_written s.tree t' is.names (has.bytes ++ text_of line) has.end
      (ap bytes_in (find_here s.tree has.n (File (has.bytes ++ text_of line))))
      (λ q ne. ap bytes_in (find_other s.tree has.n (File (has.bytes ++ text_of line)) q ne))

  pub line_holds : (first : List RecordFile) (texts : List (List ℕ)) → Holds first texts (files_in s.tree)
      → Holds first (texts ++ text_of line ∷ []) (files_in s'.tree)
  line_holds first texts holds =
      let before = files_by (bytes_of s.tree) has.end.before in
      let was : files_in s.tree ≡ before ++ record { name = has.name; bytes = has.bytes } ∷ [] =
      files_of_root s is.form is.names is.root ∙ files_are s.tree is.names has.end in
      let now : files_in s'.tree ≡ before ++ record { name = has.name; bytes = has.bytes ++ text_of line } ∷ [] =
      files_of_root s' is.form is.names line_root ∙ ap (λ (t : Tree). files_by (bytes_of t) is.names) after.0 ∙ line_end.1 in
      subst (Holds first (texts ++ text_of line ∷ [])) (sym now)
      (has_text before has.name has.bytes (text_of line) (subst (Holds first texts) was holds))

  pub line_in : IsIn (goes_to r (grown p line)) s'
  line_in = record {
    form = is.form;
    names = is.names;
    root = line_root;
    up = is.up;
    present = λ p' same. (let e : grown p line ≡ p' = ap (λ (o : Option Present). unwrap_or o p') same in
        subst (HasPresent r.number s' is.names) e (record {
          name = has.name;
          n = has.n;
          bytes = has.bytes ++ text_of line;
          end = subst (λ (t : Tree). EndsWith t is.names has.name has.n (has.bytes ++ text_of line)) (sym after.0) line_end.0;
          numbered = has.numbered;
          opens = ap (find nat_cmp p.handle) after.1 ∙ has.opens;
          long = (let l = length-append has.bytes (text_of line) in let was = has.long in omega (arith, l, was));
        }));
  }

  pub line_sound : AreBytes (text_of line) → Sound N s'
  line_sound bytes = sound_written N s s' p.handle p.end has.n count has.bytes (text_of line) sound has.opens has.end.is has.long bytes st

-- ---- a file

path_bytes : (nm : List ℕ) → is_name nm ≡ true → AreBytes (path_of nm)
path_bytes nm named = (omega arith, small nm (all_plain name_pattern nm named))
  where
    small : (x : List ℕ) → AllByRecursion IsPlain x → AreBytes x
    small [] all = tt
    small (b ∷ x) all = ((let low = all.0.2 in omega (arith, low)), small x all.1)

module _ (N : ℕ) (r : Recorder) (s s' : State) (is : IsIn r s) (sound : Sound N s) (day : List ℕ) (handle : ℕ)
    (is_that : is_day day ≡ true)
    (few : r.number < LAST) (st : Step N s (Create (next_path r day)) (Handle handle) s') where
  abbrev nm : List ℕ
  nm = name_of (r.number + 1) day

  named : is_name nm ≡ true
  named = name_made (r.number + 1) day is_that

  numbered : number_of nm ≡ r.number + 1
  numbered = number_made (r.number + 1) day (omega (arith, few))

  does : Creates s s' is.form is.names nm handle
  does = creates N s s' sound is.form is.names is.root nm named handle st

  abbrev n : ℕ
  n = least s.tree

  abbrev m' : Names
  m' = put byte_cmp nm n is.names

  next : r.number < number_of nm
  next = (let e = numbered in omega (arith, e))

  file_root : HasRoot s'.tree is.form m'
  file_root = subst (λ (t : Tree). HasRoot t is.form m') (sym does.tree)
      (made_root s.tree is.form is.names is.root sound.named nm n r.number does.absent does.fresh named is.up next)

  pub file_holds : (first : List RecordFile) (texts : List (List ℕ)) → Holds first texts (files_in s.tree)
      → Holds first texts (files_in s'.tree)
  file_holds first texts holds =
      let was : files_in s.tree ≡ files_by (bytes_of s.tree) is.names = files_of_root s is.form is.names is.root in
      let now : files_in s'.tree ≡ files_by (bytes_of s.tree) is.names ++ record { name = nm; bytes = [] } ∷ [] =
      files_of_root s' is.form m' file_root ∙ ap (λ (t : Tree). files_by (bytes_of t) m') does.tree
      ∙ made_files s.tree is.form is.names is.root sound.named nm n r.number does.absent does.fresh named is.up next in
      subst (Holds first texts) (sym now) (has_file (files_by (bytes_of s.tree) is.names) nm (subst (Holds first texts) was holds))

  pub file_in : IsIn (started r day handle) s'
  file_in = record {
    form = is.form;
    names = m';
    root = file_root;
    up = subst (λ (top : ℕ). AreUpTo top m') numbered
        (made_up s.tree is.form is.names is.root sound.named nm n r.number does.absent does.fresh named is.up next);
    present = λ p' same. (
        let p : Present = record { handle = handle; day = day; end = 0 } in
        let e : p ≡ p' = ap (λ (o : Option Present). unwrap_or o p') same in
        subst (HasPresent (r.number + 1) s' m') e (record {
          name = nm;
          n = n;
          bytes = [];
          end = subst (λ (t : Tree). EndsWith t m' nm n []) (sym does.tree)
              (made_end s.tree is.form is.names is.root sound.named nm n r.number does.absent does.fresh named is.up next);
          numbered = numbered;
          opens = ap (find nat_cmp handle) does.handles ∙ find_here s.handles handle n;
          long = refl;
        }));
  }

  pub file_sound : Sound N s'
  file_sound = create_keeps N s s' (next_path r day) (Handle handle) sound (path_bytes nm named) st

  -- a handle that was open before is another one
  pub other_handle : (h k : ℕ) → find nat_cmp h s.handles ≡ Some k → h ≢ handle
  other_handle h k opens same =
      let free = (least_free 0 s.handles sound.handles_in_order (starts_zero s.handles)).1 in
      let e : None ≡ Some k = sym free ∙ ap (λ (x : ℕ). find nat_cmp x s.handles) (sym does.is ∙ sym same) ∙ opens in
      cc

-- ---- the oldest file goes

module _ (N : ℕ) (r : Recorder) (s s' : State) (is : IsIn r s) (sound : Sound N s) (file : DirectoryEntry) (entries : List DirectoryEntry)
    (told : entries ≡ map (entry_of s.tree) is.names) (first : oldest r.number entries ≡ Some file)
    (st : Step N s (Unlink (path_of file.name)) Done s') where
  old : OldestAt s.tree r.number file is.names
  old = oldest_at s.tree r.number file is.names is.root.sorted (all_give s.tree is.form is.names is.root sound.named)
      (ap (oldest r.number) (sym told) ∙ first)

  gone : (s'.tree ≡ left s.tree s.handles is.form is.names is.root r.number file old) × (s'.handles ≡ s.handles)
  gone = unlinks_oldest N s s' is.form is.names is.root r.number file old st

  abbrev rest : Names
  rest = without byte_cmp file.name is.names

  rest_root : HasRoot s'.tree is.form rest
  rest_root = subst (λ (t : Tree). HasRoot t is.form rest) (sym gone.0)
      (left_root s.tree s.handles is.form is.names is.root r.number file old)

  rest_files : files_in s.tree ≡ record { name = file.name; bytes = old.bytes } ∷ files_in s'.tree
  rest_files =
      files_of_root s is.form is.names is.root ∙ left_files s.tree s.handles is.form is.names is.root r.number file old
      ∙ ap (λ (l : List RecordFile). record { name = file.name; bytes = old.bytes } ∷ l)
      (ap (λ (t : Tree). files_by (bytes_of t) rest) (sym gone.0) ∙ sym (files_of_root s' is.form rest rest_root))

  -- another is left where there is a present one
  rest_some : (p : Present) → r.present ≡ Some p → files_in s'.tree ≢ []
  rest_some p present none =
      let has = is.present p present in
      let some = left_some s.tree s.handles is.form is.names is.root r.number file old has.name has.n has.bytes has.end has.numbered in
      let e : some.0 ∷ some.1 ≡ [] = sym some.2 ∙ ap (λ (t : Tree). files_by (bytes_of t) rest) (sym gone.0)
      ∙ sym (files_of_root s' is.form rest rest_root) ∙ none in
      cc

  pub rest_holds : (start : List RecordFile) (texts : List (List ℕ)) → (r.present ≡ None → texts ≡ [])
      → Holds start texts (files_in s.tree)
      → Holds start texts (files_in s'.tree)
  rest_holds start texts none holds =
      lost_oldest (record { name = file.name; bytes = old.bytes }) (files_in s'.tree) (by r.present refl) (subst
      (Holds start texts) rest_files holds)
    where
      by : (o : Option Present) → r.present ≡ o → (files_in s'.tree ≢ []) ⊎ (texts ≡ [])
      by None e = inr (none e)
      by (Some p) e = inl (rest_some p e)

  pub rest_in : IsIn r s'
  rest_in = record {
    form = is.form;
    names = rest;
    root = rest_root;
    up = left_up s.tree s.handles is.form is.names is.root r.number file old r.number is.up;
    present = λ p same. (let has = is.present p same in record {
      name = has.name;
      n = has.n;
      bytes = has.bytes;
      end = subst (λ (t : Tree). EndsWith t rest has.name has.n has.bytes) (sym gone.0)
          (left_end s.tree s.handles is.form is.names is.root r.number file old has.name has.n has.bytes has.end has.numbered);
      numbered = has.numbered;
      opens = ap (find nat_cmp p.handle) gone.1 ∙ has.opens;
      long = has.long;
    });
  }

  pub rest_sound : Sound N s'
  rest_sound = unlink_keeps N s s' (path_of file.name) Done sound st

-- ---- a handle is closed

module _ (N : ℕ) (r : Recorder) (s s' : State) (is : IsIn r s) (sound : Sound N s) (h : ℕ) (a : Answer) (st : Step N s (Close h) a s')
    (apart : (p : Present) → r.present ≡ Some p → h ≢ p.handle) where
  -- what a close does: nothing, or a handle is gone and what has no name
  module _ (shut : s' ≡ (close_done s h).1) (opens : find nat_cmp h s.handles ≢ None) where
    abbrev hs : Handles
    hs = without nat_cmp h s.handles

    tree_is : s'.tree ≡ let_go s.tree hs (file_at s h)
    tree_is = ap (λ (x : State). x.tree) shut

    file_is : (n : ℕ) × (find nat_cmp h s.handles ≡ Some n)
    file_is = by (find nat_cmp h s.handles) refl
      where
        by : (o : Option ℕ) → find nat_cmp h s.handles ≡ o → (n : ℕ) × (o ≡ Some n)
        by None e = absurd (opens e)
        by (Some n) e = (n, refl)

    not_top : 1 ≢ file_at s h
    not_top same =
        let at : file_at s h ≡ file_is.0 = ap (λ (o : Option ℕ). unwrap_or o 0) file_is.1 in
        let plain = (sound.handles h file_is.0 file_is.1).1 in
        let e : Some (Dir is.form is.names) ≡ Some (File plain.0) = sym is.root.is ∙ ap (node s.tree) (same ∙ at) ∙ plain.1 in
        cc

    shut_root : HasRoot s'.tree is.form is.names
    shut_root = subst (λ (t : Tree). HasRoot t is.form is.names) (sym tree_is) (record {
      is = let_go_kept s.tree hs (file_at s h) 1 (λ same. absurd (not_top same)) ∙ is.root.is;
      sorted = is.root.sorted;
    })

    shut_bytes : (q : ℕ) → 1 ≤ names s.tree q → bytes_of s'.tree q ≡ bytes_of s.tree q
    shut_bytes q some = ap (λ (t : Tree). bytes_of t q) tree_is ∙ ap bytes_in (let_go_kept s.tree hs (file_at s h) q (λ same none.
        (let e : names s.tree q ≡ 0 = ap (names s.tree) same ∙ none in omega (arith, some, e))))

    shut_all : AllByRecursion (λ e. bytes_of s'.tree e.1 ≡ bytes_of s.tree e.1) is.names
    shut_all = all_map (λ e. 1 ≤ names s.tree e.1) (λ e. bytes_of s'.tree e.1 ≡ bytes_of s.tree e.1)
        (λ e some. shut_bytes e.1 some) is.names
        (all_count s.tree is.form is.names is.root)

    shut_files : files_in s'.tree ≡ files_in s.tree
    shut_files = files_of_root s' is.form is.names shut_root
        ∙ files_same (bytes_of s.tree) (bytes_of s'.tree) is.names
        (all_map (λ e. bytes_of s'.tree e.1 ≡ bytes_of s.tree e.1) (λ e. is_name e.0 ≡ true → bytes_of s'.tree e.1 ≡ bytes_of s.tree e.1)
        (λ e same named. same) is.names shut_all)
        ∙ sym (files_of_root s is.form is.names is.root)

    shut_in : IsIn r s'
    shut_in = record {
      form = is.form;
      names = is.names;
      root = shut_root;
      up = is.up;
      present = λ p same. (let has = is.present p same in record {
        name = has.name;
        n = has.n;
        bytes = has.bytes;
        end = record {
          before = has.end.before;
          after = has.end.after;
          order = has.end.order;
          none = has.end.none;
          apart = has.end.apart;
          is = all_at (λ e. bytes_of s'.tree e.1 ≡ bytes_of s.tree e.1) has.end.before (has.name, has.n) has.end.after
              (subst (AllByRecursion (λ e. bytes_of s'.tree e.1 ≡ bytes_of s.tree e.1)) has.end.order shut_all) ∙ has.end.is;
          named = has.end.named;
        };
        numbered = has.numbered;
        opens = ap (λ (x : State). find nat_cmp p.handle x.handles) shut
            ∙ find-where_key nat_cmp (λ x. not (eq_by_cmp nat_cmp h x)) p.handle
            (λ x tied. ap (λ (y : ℕ). not (eq_by_cmp nat_cmp h y)) (sym (ranked p.handle x Equal (sym tied)))) s.handles
            ∙ ap (λ (b : Bool). cond (not b) (find nat_cmp p.handle s.handles) None) (cmp_other h p.handle (apart p same))
            ∙ has.opens;
        long = has.long;
      });
    }

  pub closed : IsIn r s' × (files_in s'.tree ≡ files_in s.tree) × Sound N s'
  closed =
      elim (closes_or N s s' h a st) as (λ _. IsIn r s' × (files_in s'.tree ≡ files_in s.tree) × Sound N s') [
        | inl same ↦ (subst (IsIn r) (sym same) is, ap (λ (x : State). files_in x.tree) same, close_keeps N s h a sound st)
        | inr shut ↦ (shut_in shut.0 shut.1, shut_files shut.0 shut.1, close_keeps N s h a sound st)
      ]
