-- The oldest file among the names of the root, and what is left behind it.
use Rattle.std.proofs.Common.{◌≡◌, ◌≢◌, ◌<◌, ◌≤◌, ℕ, Bool, true, false, cond, List, [], ◌∷◌, ◌++◌, Option, Some, None, refl, sym, ap}
use Rattle.std.proofs.Common.{ap₂, ◌∙◌, subst, arith}
use Rattle.std.specs.Prelude.{T, not, ◌&&◌, nat_lt, map, unwrap_or}
use Rattle.std.specs.List.{AllByRecursion}
use Rattle.std.proofs.lemmas.Bool.{false≢true}
use Rattle.std.proofs.lemmas.Bool.Decides.{nat_tests}
use Rattle.std.specs.Ordering.{eq_by_cmp, is_eq, ordering_reverse}
use Rattle.std.specs.Cmp.{tied_itself}
use Rattle.std.specs.Cmp.Lexicographic.{nat_list_cmp_total}
use Rattle.std.specs.declared.cmp.Ordering.TheVariants.{Less}
use Rattle.std.specs.FinMap.{is_sorted}
use Rattle.lfs_model.specs.Call.{DirectoryEntry}
use Rattle.lfs_model.specs.Step.{entry_of, kind_of, the_node}
use Rattle.lfs_model.specs.Tree.{Dir, File, Link, Names, Node, Tree, byte_cmp, node, without}
use Rattle.lfs_model.proofs.Sums.{T_left, T_right}
use Rattle.lfs_record.specs.Files.{is_file, is_older, is_recorded, oldest}
use Rattle.lfs_record.specs.Kept.{RecordFile, bytes_in, file_by, files_by}
use Rattle.lfs_record.specs.Names.{is_name, number_of}
use Rattle.lfs_record.proofs.Listed.{AreBehind, behind_is, never_both, none_gone}
use Rattle.lfs_record.proofs.Order.{numbers_order}

pub both : (a b : Bool) → a && b ≡ true → (a ≡ true) × (b ≡ true)
both true b is = (refl, is)
both false b is = absurd (false≢true is)

abbrev pub bytes_of : Tree → ℕ → Option (List ℕ)
bytes_of t n = bytes_in (node t n)

-- what is listed as a file has bytes
pub file_has : (x : Option Node) → x ≢ None → is_file (kind_of (unwrap_or x (File []))) ≡ true → (b : List ℕ) × (bytes_in x ≡ Some b)
file_has None some is = absurd (some refl)
file_has (Some (File b)) some is = (b, refl)
file_has (Some (Dir form m)) some is = absurd (false≢true is)
file_has (Some (Link text)) some is = absurd (false≢true is)

-- and what isn't has none
not_file : (x : Option Node) → is_file (kind_of (unwrap_or x (File []))) ≡ false → bytes_in x ≡ None
not_file None is = refl
not_file (Some (File b)) is = absurd (false≢true (sym is))
not_file (Some (Dir form m)) is = refl
not_file (Some (Link text)) is = refl

-- The names are those before the oldest file, which give no file of a recorder's, it, and those behind it.
pub record OldestAt (t : Tree) (number : ℕ) (file : DirectoryEntry) (m : Names) : Type 0 where
  pub before : Names
  pub after : Names
  pub whole : m ≡ before ++ (file.name, file.number) ∷ after
  pub rest : without byte_cmp file.name m ≡ before ++ after
  pub none : files_by (bytes_of t) before ≡ []
  pub bytes : List ℕ
  pub is : bytes_of t file.number ≡ Some bytes
  pub named : is_name file.name ≡ true
  pub low : number_of file.name < number

pub all_at : (P : List ℕ × ℕ → Type 0) (before : Names) (e : List ℕ × ℕ) (after : Names) → AllByRecursion P (before ++ e ∷ after) → P e
all_at P [] e after all = all.0
all_at P (x ∷ before) e after all = all_at P before e after all.1

module _ (t : Tree) (number : ℕ) (file : DirectoryEntry) where
  -- the first name is that of the oldest file
  here : (e : List ℕ × ℕ) (m : Names) → AreBehind e.0 m → node t e.1 ≢ None → is_older number (entry_of t e) ≡ true → entry_of t e ≡ file
      → OldestAt t number file (e ∷ m)
  here e m behind some is same =
      let recorded = both (is_recorded (entry_of t e)) (nat_lt (number_of e.0) number) is in
      let kinds = both (is_file (kind_of (the_node t e.1))) (is_name e.0) recorded.0 in
      let has = file_has (node t e.1) some kinds.0 in
      let itself : not (eq_by_cmp byte_cmp e.0 e.0) ≡ false = ap (λ r. not (is_eq r)) (tied_itself nat_list_cmp_total e.0) in
      subst (λ (f : DirectoryEntry). OldestAt t number f (e ∷ m)) same (record {
        before = [];
        after = m;
        whole = refl;
        rest = ap (λ (b : Bool). cond b (e ∷ without byte_cmp e.0 m) (without byte_cmp e.0 m)) itself ∙ none_gone e.0 m behind;
        none = refl;
        bytes = has.0;
        is = has.1;
        named = kinds.1;
        low = (let less = recorded.1 in grind (arith, nat_tests));
      })

  -- a name before it gives none
  not_here : (e : List ℕ × ℕ) (k : List ℕ) → is_older number (entry_of t e) ≡ false → byte_cmp e.0 k ≡ Less → is_name k ≡ true
      → number_of k < number → cond (is_name e.0) (file_by e.0 (bytes_of t e.1)) [] ≡ []
  not_here e k isn't before named low =
      elim (is_name e.0) as (λ b. is_name e.0 ≡ b → cond b (file_by e.0 (bytes_of t e.1)) [] ≡ []) [
        | true ↦ λ p. elim (is_file (kind_of (the_node t e.1))) as (λ c. is_file (kind_of (the_node t e.1)) ≡ c
            → file_by e.0 (bytes_of t e.1) ≡ []) [
              | true ↦ λ q. (
                  let test : nat_lt (number_of e.0) number ≡ false = ap₂ (λ (x : Bool) (y : Bool). x && y && nat_lt
                  (number_of e.0) number) (sym q) (sym p) ∙ isn't in
                  let high : number ≤ number_of e.0 = grind (arith, nat_tests) in
                  absurd (never_both e.0 k before (numbers_order k e.0 named p (omega (arith, low, high)))))
              | false ↦ λ q. ap (file_by e.0) (not_file (node t e.1) q)
            ] refl
        | false ↦ λ p. refl
      ] refl

  pub oldest_at : (m : Names) → T (is_sorted byte_cmp m) → AllByRecursion (λ e. node t e.1 ≢ None) m
      → oldest number (map (entry_of t) m) ≡ Some file → OldestAt t number file m
  oldest_at [] sorted given is = cc
  oldest_at (e ∷ m) sorted given is =
      let behind = behind_is e.0 m (T_left _ _ sorted) in
      elim (is_older number (entry_of t e)) as (λ b. is_older number (entry_of t e) ≡ b
      → cond b (Some (entry_of t e)) (oldest number (map (entry_of t) m)) ≡ Some file → OldestAt t number file (e ∷ m)) [
        | true ↦ λ p is. here e m behind given.0 p (ap (λ (o : Option DirectoryEntry). unwrap_or o file) is)
        | false ↦ λ p is. (
            let rest = oldest_at m (T_right _ _ sorted) given.1 is in
            let k = file.name in
            let before : byte_cmp e.0 k ≡ Less = all_at (λ x. byte_cmp e.0 x.0 ≡ Less) rest.before (k, file.number) rest.after
            (subst (AreBehind e.0) rest.whole behind) in
            let other : not (eq_by_cmp byte_cmp k e.0) ≡ true =
            ap (λ r. not (is_eq r)) (nat_list_cmp_total.antisymm k e.0 ∙ ap ordering_reverse before) in
            record {
              before = e ∷ rest.before;
              after = rest.after;
              whole = ap (λ (l : Names). e ∷ l) rest.whole;
              rest = ap (λ (b : Bool). cond b (e ∷ without byte_cmp k m) (without byte_cmp k m)) other
                  ∙ ap (λ (l : Names). e ∷ l) rest.rest;
              none = ap₂ (λ (x : List RecordFile) (y : List RecordFile). x ++ y) (not_here e k p before rest.named rest.low) rest.none;
              bytes = rest.bytes;
              is = rest.is;
              named = rest.named;
              low = rest.low;
            })
      ] refl is
