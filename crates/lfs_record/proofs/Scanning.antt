-- Listed entries, one after the other.
use Rattle.std.proofs.Common.{◌≡◌, ◌<◌, ◌≤◌, ℕ, zero, suc, ◌+◌, Bool, true, false, cond, List, [], ◌∷◌, Option, Some, None, refl, sym, ap}
use Rattle.std.proofs.Common.{◌∙◌, length, drop, get_or, map, add-one, drop-cons}
use Rattle.std.specs.Prelude.{unwrap_or}
use Rattle.std.proofs.lemmas.List.{drop_all}
use Rattle.std.proofs.lemmas.List.Sums.{sum_by-cons}
use Rattle.lfs_model.specs.Call.{DirectoryEntry}
use Rattle.lfs_fs.specs.entries.declared.rows.ListedEntry.{ListedEntry}
use Rattle.lfs_fs.specs.Answers.{entry_of}
use Rattle.lfs_record.specs.Files.{count_files, is_older, is_recorded, newest, oldest, or_this}
use Rattle.lfs_record.specs.Names.{is_name}

next : (xs : List ListedEntry) (i : ℕ) (x : ListedEntry) → x ≡ get_or xs i x → i < length xs → drop i xs ≡ x ∷ drop (i + 1) xs
next xs i x is low =
    drop-cons xs i x low ∙ ap (λ (y : ListedEntry). y ∷ drop (suc i) xs) (sym is) ∙ ap (λ (j : ℕ). x ∷ drop j xs) (sym (add-one i))

module _ (xs : List ListedEntry) (i : ℕ) (x : ListedEntry) (is : x ≡ get_or xs i x) (low : i < length xs) where
  pub count_step : (b : Bool) → is_recorded (entry_of x) ≡ b
      → count_files (map entry_of (drop i xs)) ≡ cond b 1 0 + count_files (map entry_of (drop (i + 1) xs))
  count_step b same =
      ap (λ (l : List ListedEntry). count_files (map entry_of l)) (next xs i x is low)
      ∙ sum_by-cons (λ e. cond (is_recorded e) 1 0) (entry_of x) (map entry_of (drop (i + 1) xs))
      ∙ ap (λ (c : Bool). cond c 1 0 + count_files (map entry_of (drop (i + 1) xs))) same

  pub oldest_step : (number : ℕ) (b : Bool) → is_older number (entry_of x) ≡ b
      → oldest number (map entry_of (drop i xs)) ≡ cond b (Some (entry_of x)) (oldest number (map entry_of (drop (i + 1) xs)))
  oldest_step number b same =
      ap (λ (l : List ListedEntry). oldest number (map entry_of l)) (next xs i x is low)
      ∙ ap (λ (c : Bool). cond c (Some (entry_of x)) (oldest number (map entry_of (drop (i + 1) xs)))) same

pub count_end : (xs : List ListedEntry) (i : ℕ) → length xs ≤ i → count_files (map entry_of (drop i xs)) ≡ 0
count_end xs i high = ap (λ (l : List ListedEntry). count_files (map entry_of l)) (drop_all i xs high)

pub oldest_none : (xs : List ListedEntry) (i number : ℕ) → length xs ≤ i → oldest number (map entry_of (drop i xs)) ≡ None
oldest_none xs i number high = ap (λ (l : List ListedEntry). oldest number (map entry_of l)) (drop_all i xs high)

-- ---- from the last entry on

pub newest_back : (xs : List ListedEntry) (i j : ℕ) (x : ListedEntry) → x ≡ get_or xs i x → i < length xs → j ≡ i + 1
    → newest (map entry_of (drop j xs)) ≡ None → (b : Bool) → is_name x.name.items ≡ b
    → newest (map entry_of (drop i xs)) ≡ cond b (Some (entry_of x)) None
newest_back xs i j x is low at none b same =
    ap (λ (l : List ListedEntry). newest (map entry_of l)) (next xs i x is low)
    ∙ ap (λ (o : Option DirectoryEntry). or_this o (entry_of x))
    (ap (λ (k : ℕ). newest (map entry_of (drop k xs))) (sym at) ∙ none)
    ∙ ap (λ (c : Bool). cond c (Some (entry_of x)) None) same

-- the newest of the last ones is the newest of all
pub newest_of : (xs : List ListedEntry) (i : ℕ) (e : DirectoryEntry) → newest (map entry_of (drop i xs)) ≡ Some e
    → newest (map entry_of xs) ≡ Some e
newest_of [] zero e is = is
newest_of [] (suc i) e is = is
newest_of (x ∷ xs) zero e is = is
newest_of (x ∷ xs) (suc i) e is = ap (λ (o : Option DirectoryEntry). or_this o (entry_of x)) (newest_of xs i e is)

pub newest_end : (xs : List ListedEntry) (j : ℕ) → length xs ≤ j → newest (map entry_of (drop j xs)) ≡ None
newest_end xs j high = ap (λ (l : List ListedEntry). newest (map entry_of l)) (drop_all j xs high)

-- it has a name of a recorder's
pub newest_named : (entries : List DirectoryEntry) (e : DirectoryEntry) → newest entries ≡ Some e → is_name e.name ≡ true
newest_named [] e is = cc
newest_named (x ∷ entries) e is =
    elim (newest entries) as (λ o. newest entries ≡ o → or_this o x ≡ Some e → is_name e.name ≡ true) [
      | Some g ↦ λ p is. newest_named entries e (p ∙ is)
      | None ↦ λ p is. here (is_name x.name) refl is
    ] refl is
  where
    here : (b : Bool) → is_name x.name ≡ b → cond b (Some x) None ≡ Some e → is_name e.name ≡ true
    here true named is = ap (λ (o : Option DirectoryEntry). is_name (unwrap_or o e).name) (sym is) ∙ named
    here false named is = cc
