-- A recorder's files among the names of a directory.
use Rattle.std.proofs.Common.{◌≡◌, ℕ, Bool, true, false, cond, List, [], ◌∷◌, ◌++◌, Option, Some, None, refl, sym, ap, ap₂, ◌∙◌}
use Rattle.std.proofs.Common.{append_assoc}
use Rattle.std.specs.Prelude.{T, not}
use Rattle.std.specs.List.{AllByRecursion}
use Rattle.std.specs.Ordering.{eq_by_cmp, is_eq, is_lt}
use Rattle.std.specs.Cmp.{IsTotalOrder}
use Rattle.std.specs.Cmp.Lexicographic.{nat_list_cmp_total}
use Rattle.std.specs.declared.cmp.Ordering.TheVariants.{Less, Equal, Greater}
use Rattle.std.specs.FinMap.{find, is_sorted, put}
use Rattle.std.specs.FinMap.Entries.{below_all, by_order}
use Rattle.lfs_model.specs.Tree.{Names, byte_cmp, without}
use Rattle.lfs_model.proofs.Sums.{T_left, T_right}
use Rattle.lfs_record.specs.Kept.{RecordFile, file_by, files_by}
use Rattle.lfs_record.specs.Names.{is_name}

abbrev Entry : Type 0
Entry = List ℕ × ℕ

-- ---- files of lists of names

pub files_append : (h : ℕ → Option (List ℕ)) (a b : Names) → files_by h (a ++ b) ≡ files_by h a ++ files_by h b
files_append h [] b = refl
files_append h (e ∷ a) b = ap (λ (l : List RecordFile). cond (is_name e.0) (file_by e.0 (h e.1)) [] ++ l) (files_append h a b)
    ∙ sym (append_assoc (cond (is_name e.0) (file_by e.0 (h e.1)) []) (files_by h a) (files_by h b))

-- where each name gives the same bytes
pub files_same : (h h' : ℕ → Option (List ℕ)) (m : Names) → AllByRecursion (λ e. is_name e.0 ≡ true → h' e.1 ≡ h e.1) m
    → files_by h' m ≡ files_by h m
files_same h h' [] all = refl
files_same h h' (e ∷ m) all = ap₂ (λ (x : List RecordFile) (y : List RecordFile). x ++ y) (here (is_name e.0) all.0)
    (files_same h h' m all.1)
  where
    here : (b : Bool) → (b ≡ true → h' e.1 ≡ h e.1) → cond b (file_by e.0 (h' e.1)) [] ≡ cond b (file_by e.0 (h e.1)) []
    here true same = ap (file_by e.0) (same refl)
    here false same = refl

-- no name is a recorder's
pub no_files : (h : ℕ → Option (List ℕ)) (m : Names) → AllByRecursion (λ e. is_name e.0 ≡ false) m → files_by h m ≡ []
no_files h [] none = refl
no_files h (e ∷ m) none = ap₂ (λ (x : List RecordFile) (y : List RecordFile). x ++ y)
    (ap (λ (b : Bool). cond b (file_by e.0 (h e.1)) []) none.0) (no_files h m none.1)

pub one_file : (h : ℕ → Option (List ℕ)) (name : List ℕ) (n : ℕ) (b : List ℕ) → is_name name ≡ true → h n ≡ Some b
    → files_by h ((name, n) ∷ []) ≡ record { name = name; bytes = b } ∷ []
one_file h name n b named is = ap (λ (x : Bool). cond x (file_by name (h n)) [] ++ []) named
    ∙ ap (λ (o : Option (List ℕ)). file_by name o ++ []) is

-- ---- the order of names

abbrev o : IsTotalOrder byte_cmp
o = nat_list_cmp_total

less_is : (a b : List ℕ) → T (is_lt (byte_cmp a b)) → byte_cmp a b ≡ Less
less_is a b h = elim (byte_cmp a b) as (λ r. T (is_lt r)
    → r ≡ Less) [ Less ↦ λ _. refl | Equal ↦ λ h. absurd h | Greater ↦ λ h. absurd h ] h

pub never_both : (a b : List ℕ) → byte_cmp a b ≡ Less → byte_cmp b a ≡ Less → ⊥
never_both a b p q = let e = o.antisymm a b in cc

pub not_itself : (a : List ℕ) → byte_cmp a a ≡ Less → ⊥
not_itself a p = never_both a a p p

-- all names of a list are behind one
abbrev pub AreBehind : List ℕ → Names → Type 0
AreBehind k = AllByRecursion (λ e. byte_cmp k e.0 ≡ Less)

pub behind_is : (k : List ℕ) (m : Names) → T (below_all byte_cmp k m) → AreBehind k m
behind_is k [] h = tt
behind_is k (e ∷ m) h = (less_is k e.0 (T_left _ _ h), behind_is k m (T_right _ _ h))

pub behind_more : (j k : List ℕ) (m : Names) → byte_cmp j k ≡ Less → AreBehind k m → AreBehind j m
behind_more j k [] p h = tt
behind_more j k (e ∷ m) p h = (o.trans j k e.0 p h.0, behind_more j k m p h.1)

-- a name that is put at its place
pub record Placed (name : List ℕ) (n : ℕ) (m : Names) : Type 0 where
  pub before : Names
  pub after : Names
  pub whole : m ≡ before ++ after
  pub now : put byte_cmp name n m ≡ before ++ (name, n) ∷ after
  pub behind : AreBehind name after

pub placed : (name : List ℕ) (n : ℕ) (m : Names) → T (is_sorted byte_cmp m) → find byte_cmp name m ≡ None → Placed name n m
placed name n [] sorted absent = record { before = []; after = []; whole = refl; now = refl; behind = tt }
placed name n (e ∷ m) sorted absent =
    elim (byte_cmp name e.0) as (λ r. byte_cmp name e.0 ≡ r → cond (is_eq r) (Some e.1) (find byte_cmp name m) ≡ None
    → Placed name n (e ∷ m)) [
      | Less ↦ λ p _. record {
        before = [];
        after = e ∷ m;
        whole = refl;
        now = ap (λ r. by_order r ((name, n) ∷ e ∷ m) ((e.0, n) ∷ m) (e ∷ put byte_cmp name n m)) p;
        behind = (p, behind_more name e.0 m p (behind_is e.0 m (T_left _ _ sorted)));
      }
      | Equal ↦ λ p no. cc
      | Greater ↦ λ p no. (let rest = placed name n m (T_right _ _ sorted) no in record {
        before = e ∷ rest.before;
        after = rest.after;
        whole = ap (λ (l : Names). e ∷ l) rest.whole;
        now = ap (λ r. by_order r ((name, n) ∷ e ∷ m) ((e.0, n) ∷ m) (e ∷ put byte_cmp name n m)) p
            ∙ ap (λ (l : Names). e ∷ l) rest.now;
        behind = rest.behind;
      })
    ] refl absent

-- all that stands behind a name stays where that one is taken away
pub none_gone : (k : List ℕ) (m : Names) → AreBehind k m → without byte_cmp k m ≡ m
none_gone k [] behind = refl
none_gone k (e ∷ m) behind =
    let keep : not (eq_by_cmp byte_cmp k e.0) ≡ true = ap (λ r. not (is_eq r)) behind.0 in
    ap (λ (b : Bool). cond b (e ∷ without byte_cmp k m) (without byte_cmp k m)) keep ∙ ap (λ (l : Names). e ∷ l) (none_gone k m behind.1)
