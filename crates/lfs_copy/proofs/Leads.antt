-- Paths that lead to the name of a row.
use Rattle.std.proofs.Common.{◌≡◌, ℕ, List, [], ◌∷◌, ◌++◌, sym, ◌∙◌, ap, subst, append-nil}
use Rattle.std.specs.List.{IsAmong}
use Rattle.lfs_fs.specs.entries.declared.rows.TreeRow.{TreeRow}
use Rattle.lfs_copy.specs.Paths.{IsPathOf, LeadsTo, at_name, through}

pub leads_own : (rows : List TreeRow) (row : TreeRow) {path name rest : List ℕ} → path ≡ 47 ∷ (name ++ rest) → name ≡ row.name.items
    → rest ≡ [] → LeadsTo rows row row.directory path
leads_own rows row {path} {name} {rest} is same none =
    let all : path ≡ 47 ∷ row.name.items =
    is ∙ ap (λ (l : List ℕ). 47 ∷ (name ++ l)) none ∙ ap (λ (l : List ℕ). 47 ∷ l) (append-nil name)
    ∙ ap (λ (l : List ℕ). 47 ∷ l) same in
    subst (LeadsTo rows row row.directory) (sym all) at_name

pub leads_through : (rows : List TreeRow) (row above : TreeRow) {directory : ℕ} {path name rest old : List ℕ} → IsAmong rows above
    → above.number ≡ directory → LeadsTo rows row directory old → path ≡ 47 ∷ (name ++ rest) → name ≡ above.name.items → rest ≡ old
    → LeadsTo rows row above.directory path
leads_through rows row above {directory} {path} {name} {rest} {old} among number leads is same_name same_rest =
    let all : path ≡ 47 ∷ (above.name.items ++ old) =
    is ∙ ap (λ (l : List ℕ). 47 ∷ (l ++ rest)) same_name ∙ ap (λ (l : List ℕ). 47 ∷ (above.name.items ++ l)) same_rest in
    subst (LeadsTo rows row above.directory) (sym all)
    (through above old among (subst (λ (n : ℕ). LeadsTo rows row n old) (sym number) leads))

pub leads_from_root : (rows : List TreeRow) (row : TreeRow) {directory : ℕ} {path : List ℕ} → LeadsTo rows row directory path
    → directory ≡ 1 → IsPathOf rows row path
leads_from_root rows row {path = path} leads root = subst (λ (n : ℕ). LeadsTo rows row n path) root leads
