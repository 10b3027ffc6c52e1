-- A recorder's files in a tree that a call changes.
use Rattle.std.proofs.Common.{◌≡◌, ◌≢◌, ◌<◌, ◌≤◌, ℕ, Bool, true, false, cond, List, [], ◌∷◌, ◌++◌, Option, Some, None, refl, sym, ap}
use Rattle.std.proofs.Common.{ap₂, ◌∙◌, subst, append-nil, arith}
use Rattle.std.specs.Prelude.{T, not, ◌&&◌, ◌||◌, ◌==◌, if◌then◌else◌, unwrap_or}
use Rattle.std.specs.List.{AllByRecursion, filter}
use Rattle.std.proofs.lemmas.Bool.Decides.{nat_tests}
use Rattle.std.specs.Ordering.{eq_by_cmp, is_eq, nat_cmp, ordering_reverse}
use Rattle.std.specs.Cmp.{ranked, tied_itself}
use Rattle.std.specs.Cmp.Lexicographic.{nat_list_cmp_total}
use Rattle.std.specs.declared.cmp.Ordering.TheVariants.{Less, Equal}
use Rattle.std.specs.FinMap.{find, is_sorted, put}
use Rattle.std.specs.FinMap.Entries.{find-where_key, is_sorted-put, is_sorted-where_key}
use Rattle.lfs_model.specs.Call.{DirectoryEntry}
use Rattle.lfs_model.specs.Sound.{NamesGive}
use Rattle.lfs_model.specs.Step.{let_go}
use Rattle.lfs_model.specs.Tree.{Dir, File, Handles, Names, Node, State, Tree, byte_cmp, drop_nameless, form_of, names, names_in}
use Rattle.lfs_model.specs.Tree.{names_of, node, opened, with_node, without}
use Rattle.lfs_model.proofs.Alike.{same_or_not}
use Rattle.lfs_model.proofs.Shrinking.{named_counts}
use Rattle.lfs_model.proofs.Sums.{T_left, T_right}
use Rattle.lfs_model.proofs.Trees.{cmp_other, find_here, find_other}
use Rattle.lfs_record.specs.Kept.{RecordFile, bytes_in, files_by, files_in}
use Rattle.lfs_record.specs.Names.{is_name, number_of}
use Rattle.lfs_record.proofs.Listed.{AreBehind, behind_is, files_append, files_same, never_both, no_files, one_file, Placed, placed}
use Rattle.lfs_record.proofs.Oldest.{OldestAt, all_at, both, bytes_of}
use Rattle.lfs_record.proofs.Order.{numbers_order}

-- ---- what lists say of their parts

pub all_map : {X : Type 0} (P Q : X → Type 0) → ((x : X) → P x → Q x) → (xs : List X) → AllByRecursion P xs → AllByRecursion Q xs
all_map P Q f [] all = tt
all_map P Q f (x ∷ xs) all = (f x all.0, all_map P Q f xs all.1)

pub all_of : {X : Type 0} (P : X → Type 0) → ((x : X) → P x) → (xs : List X) → AllByRecursion P xs
all_of P f [] = tt
all_of P f (x ∷ xs) = (f x, all_of P f xs)

pub all_left : {X : Type 0} (P : X → Type 0) (xs ys : List X) → AllByRecursion P (xs ++ ys) → AllByRecursion P xs
all_left P [] ys all = tt
all_left P (x ∷ xs) ys all = (all.0, all_left P xs ys all.1)

pub all_right : {X : Type 0} (P : X → Type 0) (xs ys : List X) → AllByRecursion P (xs ++ ys) → AllByRecursion P ys
all_right P [] ys all = all
all_right P (x ∷ xs) ys all = all_right P xs ys all.1

pub all_both : {X : Type 0} (P : X → Type 0) (xs ys : List X) → AllByRecursion P xs → AllByRecursion P ys → AllByRecursion P (xs ++ ys)
all_both P [] ys first second = second
all_both P (x ∷ xs) ys first second = (first.0, all_both P xs ys first.1 second)

pub all_with : {X : Type 0} (P Q : X → Type 0) (xs : List X) → AllByRecursion P xs → AllByRecursion Q xs
    → AllByRecursion (λ x. P x × Q x) xs
all_with P Q [] p q = tt
all_with P Q (x ∷ xs) p q = ((p.0, q.0), all_with P Q xs p.1 q.1)

-- ---- each entry is found

find_behind : (e : List ℕ × ℕ) (m m' : Names) → AreBehind e.0 m' → AllByRecursion (λ x. find byte_cmp x.0 m ≡ Some x.1) m'
    → AllByRecursion (λ x. find byte_cmp x.0 (e ∷ m) ≡ Some x.1) m'
find_behind e m [] behind all = tt
find_behind e m (x ∷ m') behind all =
    let other : eq_by_cmp byte_cmp x.0 e.0 ≡ false =
    ap is_eq (nat_list_cmp_total.antisymm x.0 e.0 ∙ ap ordering_reverse behind.0) in
    (ap (λ (b : Bool). cond b (Some e.1) (find byte_cmp x.0 m)) other ∙ all.0, find_behind e m m' behind.1 all.1)

pub all_found : (m : Names) → T (is_sorted byte_cmp m) → AllByRecursion (λ x. find byte_cmp x.0 m ≡ Some x.1) m
all_found [] sorted = tt
all_found (e ∷ m) sorted =
    let itself : eq_by_cmp byte_cmp e.0 e.0 ≡ true = ap is_eq (tied_itself nat_list_cmp_total e.0) in (
      ap (λ (b : Bool). cond b (Some e.1) (find byte_cmp e.0 m)) itself,
      find_behind e m m (behind_is e.0 m (T_left _ _ sorted)) (all_found m (T_right _ _ sorted)),
    )

-- ---- a tree whose root has these names

pub record HasRoot (t : Tree) (form : ℕ) (m : Names) : Type 0 where
  pub is : node t 1 ≡ Some (Dir form m)
  pub sorted : T (is_sorted byte_cmp m)

pub names_are : (t : Tree) (form : ℕ) (m : Names) → node t 1 ≡ Some (Dir form m) → names_in t 1 ≡ m
names_are t form m is = ap (λ (o : Option Node). names_of (unwrap_or o (File []))) is

pub form_is : (t : Tree) (form : ℕ) (m : Names) → node t 1 ≡ Some (Dir form m) → form_of (node t 1) ≡ form
form_is t form m is = ap form_of is

-- each name gives a node
pub all_give : (t : Tree) (form : ℕ) (m : Names) → HasRoot t form m → NamesGive t → AllByRecursion (λ e. node t e.1 ≢ None) m
all_give t form m root give =
    all_map (λ e. find byte_cmp e.0 m ≡ Some e.1) (λ e. node t e.1 ≢ None)
    (λ e is. give 1 e.0 e.1 (ap (find byte_cmp e.0) (names_are t form m root.is) ∙ is)) m (all_found m root.sorted)

-- and is counted
pub all_count : (t : Tree) (form : ℕ) (m : Names) → HasRoot t form m → AllByRecursion (λ e. 1 ≤ names t e.1) m
all_count t form m root =
    all_map (λ e. find byte_cmp e.0 m ≡ Some e.1) (λ e. 1 ≤ names t e.1)
    (λ e is. named_counts t 1 e.0 e.1 (ap (find byte_cmp e.0) (names_are t form m root.is) ∙ is)) m (all_found m root.sorted)

-- ---- nodes that change

-- another directory as the root changes no bytes
pub root_bytes : (t : Tree) (form form' : ℕ) (m m' : Names) (q : ℕ) → node t 1 ≡ Some (Dir form m)
    → bytes_of (with_node t 1 (Dir form' m')) q ≡ bytes_of t q
root_bytes t form form' m m' q is =
    same_or_not q 1
    (λ same. ap (λ (n : ℕ). bytes_of (with_node t 1 (Dir form' m')) n) same ∙ ap bytes_in (find_here t 1 (Dir form' m'))
    ∙ sym (ap bytes_in is) ∙ ap (bytes_of t) (sym same))
    (λ ne. ap bytes_in (find_other t 1 (Dir form' m') q ne))

-- a file that is let go: only what has no name
pub let_go_kept : (t : Tree) (hs : Handles) (n q : ℕ) → (q ≡ n → names t n ≢ 0) → node (let_go t hs n) q ≡ node t q
let_go_kept t hs n q some =
    elim (names t n == 0 && opened hs n == 0) as (λ b. names t n == 0 && opened hs n == 0 ≡ b
    → node (if b then without nat_cmp n t else t) q ≡ node t q) [
      | true ↦ λ p. (
          let empty : (names t n == 0) ≡ true = (both (names t n == 0) (opened hs n == 0) p).0 in
          let none : names t n ≡ 0 = is_zero (names t n) empty in
          let ne : q ≢ n = λ same. some same none in
          let keep : not (eq_by_cmp nat_cmp n q) ≡ true = ap not (cmp_other n q (λ same. ne (sym same))) in
          find-where_key nat_cmp (λ x. not (eq_by_cmp nat_cmp n x)) q
          (λ x tied. ap (λ (y : ℕ). not (eq_by_cmp nat_cmp n y)) (sym (ranked q x Equal (sym tied)))) t
          ∙ ap (λ (b : Bool). cond b (node t q) None) keep)
      | false ↦ λ p. refl
    ] refl
  where
    is_zero : (a : ℕ) → (a == 0) ≡ true → a ≡ 0
    is_zero a p = grind (arith, nat_tests)

-- ---- the newest file

-- The names of the root end with that of a file which no other name of a recorder's gives; behind it there are none of a recorder's.
pub record EndsWith (t : Tree) (m : Names) (name : List ℕ) (n : ℕ) (bytes : List ℕ) : Type 0 where
  pub before : Names
  pub after : Names
  pub order : m ≡ before ++ (name, n) ∷ after
  pub none : AllByRecursion (λ e. is_name e.0 ≡ false) after
  pub apart : AllByRecursion (λ e. is_name e.0 ≡ true → e.1 ≢ n) before
  pub is : bytes_of t n ≡ Some bytes
  pub named : is_name name ≡ true

-- so the files are those before it, and it
pub files_are : (t : Tree) (m : Names) {name : List ℕ} {n : ℕ} {bytes : List ℕ} (end : EndsWith t m name n bytes)
    → files_by (bytes_of t) m ≡ files_by (bytes_of t) end.before ++ record { name = name; bytes = bytes } ∷ []
files_are t m {name} {n} {bytes} end =
    ap (files_by (bytes_of t)) end.order ∙ files_append (bytes_of t) end.before ((name, n) ∷ end.after)
    ∙ ap (λ (l : List RecordFile). files_by (bytes_of t) end.before ++ l)
    (files_append (bytes_of t) ((name, n) ∷ []) end.after
    ∙ ap₂ (λ (x : List RecordFile) (y : List RecordFile). x ++ y) (one_file (bytes_of t) name n bytes end.named end.is)
    (no_files (bytes_of t) end.after end.none))

-- other bytes in it
pub end_written : (t t' : Tree) (m : Names) {name : List ℕ} {n : ℕ} {bytes : List ℕ} (bytes' : List ℕ) (end : EndsWith t m name n bytes)
    → bytes_of t' n ≡ Some bytes' → ((q : ℕ) → q ≢ n → bytes_of t' q ≡ bytes_of t q)
    → (end' : EndsWith t' m name n bytes') × (files_by (bytes_of t') m ≡ files_by
    (bytes_of t) end.before ++ record { name = name; bytes = bytes' } ∷ [])
end_written t t' m {name} {n} bytes' end now other =
    let end' : EndsWith t' m name n bytes' = record {
      before = end.before;
      after = end.after;
      order = end.order;
      none = end.none;
      apart = end.apart;
      is = now;
      named = end.named;
    } in (
      end',
      files_are t' m end' ∙ ap (λ (l : List RecordFile). l ++ record { name = name; bytes = bytes' } ∷ [])
          (files_same (bytes_of t) (bytes_of t') end.before
          (all_map (λ e. is_name e.0 ≡ true → e.1 ≢ n) (λ e. is_name e.0 ≡ true → bytes_of t' e.1 ≡ bytes_of t e.1)
          (λ e apart named. other e.1 (apart named)) end.before end.apart)),
    )

-- all numbers of a recorder's names are this one or below
abbrev pub AreUpTo : ℕ → Names → Type 0
AreUpTo number = AllByRecursion (λ e. is_name e.0 ≡ true → number_of e.0 ≤ number)

-- ---- a file that begins

-- the tree with a new file of this number, whose name stands among those of the root
abbrev pub made : Tree → ℕ → Names → List ℕ → ℕ → Tree
made t form m name n = with_node (with_node t 1 (Dir form (put byte_cmp name n m))) n (File [])

module _ (t : Tree) (form : ℕ) (m : Names) (root : HasRoot t form m) (give : NamesGive t) (name : List ℕ) (n number : ℕ)
    (absent : find byte_cmp name m ≡ None) (fresh : node t n ≡ None) (named : is_name name ≡ true) (up : AreUpTo number m)
    (next : number < number_of name) where
  abbrev now : Tree
  now = made t form m name n

  not_root : n ≢ 1
  not_root same = (let e : Some (Dir form m) ≡ None = sym root.is ∙ ap (node t) (sym same) ∙ fresh in cc)

  pub made_root : HasRoot now form (put byte_cmp name n m)
  made_root = record {
    is = find_other (with_node t 1 (Dir form (put byte_cmp name n m))) n (File []) 1 (λ same. not_root (sym same))
        ∙ find_here t 1 (Dir form (put byte_cmp name n m));
    sorted = is_sorted-put byte_cmp nat_list_cmp_total name n m root.sorted;
  }

  made_bytes : (q : ℕ) → q ≢ n → bytes_of now q ≡ bytes_of t q
  made_bytes q ne = ap bytes_in (find_other (with_node t 1 (Dir form (put byte_cmp name n m))) n (File []) q ne)
      ∙ root_bytes t form form m (put byte_cmp name n m) q root.is

  here : Placed name n m
  here = placed name n m root.sorted absent

  none_behind : (e : List ℕ × ℕ) → (byte_cmp name e.0 ≡ Less) × (is_name e.0 ≡ true → number_of e.0 ≤ number) → is_name e.0 ≡ false
  none_behind e both =
      elim (is_name e.0) as (λ b. is_name e.0 ≡ b → b ≡ false) [
        | true ↦ λ p. (let low = both.1 p in
            absurd (never_both name e.0 both.0 (numbers_order e.0 name p named (omega (arith, low, next)))))
        | false ↦ λ p. refl
      ] refl

  up_here : AreUpTo number (here.before ++ here.after)
  up_here = subst (AreUpTo number) here.whole up

  none_after : AllByRecursion (λ e. is_name e.0 ≡ false) here.after
  none_after = all_map (λ e. (byte_cmp name e.0 ≡ Less) × (is_name e.0 ≡ true
      → number_of e.0 ≤ number)) (λ e. is_name e.0 ≡ false) none_behind
      here.after
      (all_with (λ e. byte_cmp name e.0 ≡ Less) (λ e. is_name e.0 ≡ true → number_of e.0 ≤ number) here.after here.behind
      (all_right (λ e. is_name e.0 ≡ true → number_of e.0 ≤ number) here.before here.after up_here))

  pub made_end : EndsWith now (put byte_cmp name n m) name n []
  made_end = record {
    before = here.before;
    after = here.after;
    order = here.now;
    none = none_after;
    apart = all_map (λ e. node t e.1 ≢ None) (λ e. is_name e.0 ≡ true → e.1 ≢ n) (λ e some named same. some (ap (node t) same ∙ fresh))
        here.before (all_left (λ e. node t e.1 ≢ None) here.before here.after
        (subst (AllByRecursion (λ e. node t e.1 ≢ None)) here.whole (all_give t form m root give)));
    is = ap bytes_in (find_here (with_node t 1 (Dir form (put byte_cmp name n m))) n (File []));
    named = named;
  }

  pub made_files : files_by (bytes_of now) (put byte_cmp name n m) ≡ files_by (bytes_of t) m ++ record { name = name; bytes = [] } ∷ []
  unfolding here made_end
  made_files =
      let f : RecordFile = record { name = name; bytes = [] } in
      files_are now (put byte_cmp name n m) made_end
      ∙ ap (λ (l : List RecordFile). l ++ f ∷ [])
      (files_same (bytes_of t) (bytes_of now) here.before
      (all_map (λ e. is_name e.0 ≡ true → e.1 ≢ n) (λ e. is_name e.0 ≡ true → bytes_of now e.1 ≡ bytes_of t e.1)
      (λ e apart named. made_bytes e.1 (apart named)) here.before made_end.apart)
      ∙ sym (append-nil (files_by (bytes_of t) here.before))
      ∙ ap (λ (l : List RecordFile). files_by (bytes_of t) here.before ++ l) (sym (no_files (bytes_of t) here.after none_after))
      ∙ sym (files_append (bytes_of t) here.before here.after)
      ∙ ap (files_by (bytes_of t)) (sym here.whole))

  pub made_up : AreUpTo (number_of name) (put byte_cmp name n m)
  made_up =
      let more : (e : List ℕ × ℕ) → (is_name e.0 ≡ true → number_of e.0 ≤ number) → is_name e.0 ≡ true → number_of e.0 ≤ number_of name =
      λ (e : List ℕ × ℕ) (low : is_name e.0 ≡ true
      → number_of e.0 ≤ number) (p : is_name e.0 ≡ true). (let l = low p in omega (arith, l, next)) in
      let P : List ℕ × ℕ → Type 0 = λ (e : List ℕ × ℕ). is_name e.0 ≡ true → number_of e.0 ≤ number in
      subst (AreUpTo (number_of name)) (sym here.now)
      (all_both (λ e. is_name e.0 ≡ true → number_of e.0 ≤ number_of name) here.before ((name, n) ∷ here.after)
      (all_map (λ e. is_name e.0 ≡ true → number_of e.0 ≤ number) (λ e. is_name e.0 ≡ true → number_of e.0 ≤ number_of name) more
      here.before (all_left (λ e. is_name e.0 ≡ true → number_of e.0 ≤ number) here.before here.after up_here)) (
        λ p. omega arith,
        all_map (λ e. is_name e.0 ≡ true → number_of e.0 ≤ number) (λ e. is_name e.0 ≡ true → number_of e.0 ≤ number_of name) more
            here.after (all_right (λ e. is_name e.0 ≡ true → number_of e.0 ≤ number) here.before here.after up_here),
      ))

-- ---- the oldest file goes

all_filter : {X : Type 0} (P : X → Type 0) (p : X → Bool) (xs : List X) → AllByRecursion P xs → AllByRecursion P (filter p xs)
all_filter P p [] all = tt
all_filter P p (x ∷ xs) all =
    elim (p x) as (λ b. AllByRecursion P (cond b (x ∷ filter p xs) (filter p xs))) [
      | true ↦ (all.0, all_filter P p xs all.1)
      | false ↦ all_filter P p xs all.1
    ]

filter_append : {X : Type 0} (p : X → Bool) (xs ys : List X) → filter p (xs ++ ys) ≡ filter p xs ++ filter p ys
filter_append p [] ys = refl
filter_append p (x ∷ xs) ys =
    elim (p x) as (λ b. cond b (x ∷ filter p (xs ++ ys)) (filter p (xs ++ ys)) ≡ cond b (x ∷ filter p xs) (filter p xs) ++ filter p ys) [
      | true ↦ ap (λ (l : List _). x ∷ l) (filter_append p xs ys)
      | false ↦ filter_append p xs ys
    ]

-- a list that ends with something isn't empty
ends_some : {X : Type 0} (xs : List X) (y : X) → (z : X) × (zs : List X) × (xs ++ y ∷ [] ≡ z ∷ zs)
ends_some [] y = (y, [], refl)
ends_some (x ∷ xs) y = (x, xs ++ y ∷ [], refl)

module _ (t : Tree) (hs : Handles) (form : ℕ) (m : Names) (root : HasRoot t form m) (number : ℕ) (file : DirectoryEntry)
    (old : OldestAt t number file m) where
  abbrev k : List ℕ
  k = file.name

  abbrev rest : Names
  rest = without byte_cmp k m

  abbrev less : Tree
  less = with_node t 1 (Dir form rest)

  abbrev pub left : Tree
  left = let_go less hs file.number

  less_root : HasRoot less form rest
  less_root = record {
    is = find_here t 1 (Dir form rest);
    sorted = is_sorted-where_key byte_cmp (λ x. not (eq_by_cmp byte_cmp k x)) m root.sorted;
  }

  not_one : 1 ≢ file.number
  not_one same = (let e : None ≡ Some old.bytes = ap bytes_in (sym root.is) ∙ ap (bytes_of t) same ∙ old.is in cc)

  pub left_root : HasRoot left form rest
  left_root = record {
    is = let_go_kept less hs file.number 1 (λ same. absurd (not_one same)) ∙ less_root.is;
    sorted = less_root.sorted;
  }

  -- what has a name still is as it was
  pub left_bytes : (q : ℕ) → 1 ≤ names less q → bytes_of left q ≡ bytes_of t q
  left_bytes q some = ap bytes_in (let_go_kept less hs file.number q (λ same none.
      (let e : names less q ≡ 0 = ap (names less) same ∙ none in omega (arith, some, e))))
      ∙ root_bytes t form form m rest q root.is

  left_all : AllByRecursion (λ e. bytes_of left e.1 ≡ bytes_of t e.1) rest
  left_all = all_map (λ e. 1 ≤ names less e.1) (λ e. bytes_of left e.1 ≡ bytes_of t e.1) (λ e some. left_bytes e.1 some) rest
      (all_count less form rest less_root)

  -- the files but that one
  pub left_files : files_by (bytes_of t) m ≡ record { name = k; bytes = old.bytes } ∷ files_by (bytes_of left) rest
  left_files =
      let f : RecordFile = record { name = k; bytes = old.bytes } in
      let h : ℕ → Option (List ℕ) = bytes_of t in
      let behind : files_by (bytes_of left) rest ≡ files_by h old.after =
      files_same h (bytes_of left) rest (all_map (λ e. bytes_of left e.1 ≡ bytes_of t e.1)
      (λ e. is_name e.0 ≡ true → bytes_of left e.1 ≡ bytes_of t e.1) (λ e same named. same) rest left_all)
      ∙ ap (files_by h) old.rest ∙ files_append h old.before old.after
      ∙ ap (λ (l : List RecordFile). l ++ files_by h old.after) old.none in
      ap (files_by h) old.whole ∙ files_append h old.before ((k, file.number) ∷ old.after)
      ∙ ap (λ (l : List RecordFile). l ++ files_by h ((k, file.number) ∷ old.after)) old.none
      ∙ files_append h ((k, file.number) ∷ []) old.after
      ∙ ap (λ (l : List RecordFile). l ++ files_by h old.after) (one_file h k file.number old.bytes old.named old.is)
      ∙ ap (λ (l : List RecordFile). f ∷ l) (sym behind)

  pub left_up : (top : ℕ) → AreUpTo top m → AreUpTo top rest
  left_up top up = all_filter (λ e. is_name e.0 ≡ true → number_of e.0 ≤ top) (λ e. not (eq_by_cmp byte_cmp k e.0)) m up

  -- the newest file is as it was
  module _ (name : List ℕ) (n : ℕ) (bytes : List ℕ) (end : EndsWith t m name n bytes) (same : number_of name ≡ number) where
    apart_names : not (eq_by_cmp byte_cmp k name) ≡ true
    apart_names = ap (λ r. not (is_eq r)) (numbers_order k name old.named end.named (let low = old.low in omega (arith, low, same)))

    stays : AllByRecursion (λ e. bytes_of left e.1 ≡ bytes_of t e.1) rest → bytes_of left n ≡ bytes_of t n
    stays all =
        all_at (λ e. bytes_of left e.1 ≡ bytes_of t e.1) (without byte_cmp k end.before) (name, n) (without byte_cmp k end.after)
        (subst (AllByRecursion (λ e. bytes_of left e.1 ≡ bytes_of t e.1)) split all)
      where
        split : rest ≡ without byte_cmp k end.before ++ (name, n) ∷ without byte_cmp k end.after
        split = ap (without byte_cmp k) end.order ∙ filter_append (λ e. not (eq_by_cmp byte_cmp k e.0)) end.before ((name, n) ∷ end.after)
            ∙ ap (λ (b : Bool). without byte_cmp k end.before ++ cond b ((name, n) ∷ without byte_cmp k end.after)
            (without byte_cmp k end.after))
            apart_names

    pub left_end : EndsWith left rest name n bytes
    left_end = record {
      before = without byte_cmp k end.before;
      after = without byte_cmp k end.after;
      order = ap (without byte_cmp k) end.order
          ∙ filter_append (λ e. not (eq_by_cmp byte_cmp k e.0)) end.before ((name, n) ∷ end.after)
          ∙ ap (λ (b : Bool). without byte_cmp k end.before ++ cond b ((name, n) ∷ without byte_cmp k end.after)
          (without byte_cmp k end.after))
          apart_names;
      none = all_filter (λ e. is_name e.0 ≡ false) (λ e. not (eq_by_cmp byte_cmp k e.0)) end.after end.none;
      apart = all_filter (λ e. is_name e.0 ≡ true → e.1 ≢ n) (λ e. not (eq_by_cmp byte_cmp k e.0)) end.before end.apart;
      is = stays left_all ∙ end.is;
      named = end.named;
    }

    -- and another file is left
    pub left_some : (next : RecordFile) × (more : List RecordFile) × (files_by (bytes_of left) rest ≡ next ∷ more)
    left_some =
        let some = ends_some (files_by (bytes_of left) left_end.before) (record { name = name; bytes = bytes }) in
        (some.0, some.1, files_are left rest left_end ∙ some.2)

-- ---- what has no name is dropped

module _ (t : Tree) (form : ℕ) (m : Names) (root : HasRoot t form m) (s : State) (is : s.tree ≡ t) where
  abbrev kept : Tree
  kept = (drop_nameless s).tree

  stays_at : (q : ℕ) → ((q == 1) || not (names s.tree q == 0)) ≡ true → node kept q ≡ node s.tree q
  stays_at q stays =
      find-where_key nat_cmp (λ x. (x == 1) || not (names s.tree x == 0)) q
      (λ x tied. ap (λ (y : ℕ). (y == 1) || not (names s.tree y == 0)) (sym (ranked q x Equal (sym tied)))) s.tree
      ∙ ap (λ (b : Bool). cond b (node s.tree q) None) stays

-- ---- the same in a state

module _ (s : State) (form : ℕ) (m : Names) (root : HasRoot s.tree form m) where
  named_stays : (q : ℕ) → 1 ≤ names s.tree q → ((q == 1) || not (names s.tree q == 0)) ≡ true
  named_stays q some =
      let other : (names s.tree q == 0) ≡ false = above (names s.tree q) some in
      ap (λ (b : Bool). (q == 1) || not b) other ∙ or_true (q == 1)
    where
      above : (a : ℕ) → 1 ≤ a → (a == 0) ≡ false
      above a p = grind (arith, nat_tests)

      or_true : (b : Bool) → (b || true) ≡ true
      or_true true = refl
      or_true false = refl

  pub dropped_files : files_in (drop_nameless s).tree ≡ files_in s.tree
  dropped_files =
      let k = kept s.tree form m root s refl in
      let same_root : names_in k 1 ≡ m = names_are k form m (stays_at s.tree form m root s refl 1 refl ∙ root.is) in
      ap (files_by (bytes_of k)) same_root
      ∙ files_same (bytes_of s.tree) (bytes_of k) m
      (all_map (λ e. 1 ≤ names s.tree e.1) (λ e. is_name e.0 ≡ true → bytes_of k e.1 ≡ bytes_of s.tree e.1)
      (λ e some named. ap bytes_in (stays_at s.tree form m root s refl e.1 (named_stays e.1 some))) m (all_count s.tree form m root))
      ∙ ap (files_by (bytes_of s.tree)) (sym (names_are s.tree form m root.is))
