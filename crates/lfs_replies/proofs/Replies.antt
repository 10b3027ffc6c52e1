-- The replies to a tree and to a directory, line by line.
use Rattle.std.proofs.Common.{◌≡◌, List, [], ◌∷◌, ◌++◌, length, map, flat_map, decimal, refl, sym, ap, ◌∙◌}
use Rattle.std.proofs.lemmas.List.{length-map}
use Rattle.lfs_model.specs.Call.{Entries, Rows}
use Rattle.lfs_model.specs.Script.{entry_line, ok, reply, row_line}
use Rattle.lfs_fs.specs.entries.declared.rows.ListedEntry.{ListedEntry as Entry}
use Rattle.lfs_fs.specs.entries.declared.rows.TreeRow.{TreeRow}
use Rattle.lfs_fs.specs.Answers.{entry_of, row_of}

rows_are : (rows : List TreeRow) → flat_map row_line (map row_of rows) ≡ flat_map (λ row. row_line (row_of row)) rows
rows_are [] = refl
rows_are (row ∷ rows) = ap (λ t. row_line (row_of row) ++ t) (rows_are rows)

pub tree_reply : (rows : List TreeRow)
    → ok (decimal (length rows) ∷ []) ++ flat_map (λ row. row_line (row_of row)) rows ≡ reply (Rows (map row_of rows))
tree_reply rows =
    ap (λ n. ok (decimal n ∷ []) ++ flat_map (λ row. row_line (row_of row)) rows) (sym (length-map rows row_of))
    ∙ ap (λ t. ok (decimal (length (map row_of rows)) ∷ []) ++ t) (sym (rows_are rows))

entries_are : (entries : List Entry) → flat_map entry_line (map entry_of entries) ≡ flat_map (λ entry. entry_line (entry_of entry)) entries
entries_are [] = refl
entries_are (entry ∷ entries) = ap (λ t. entry_line (entry_of entry) ++ t) (entries_are entries)

pub entries_reply : (entries : List Entry)
    → ok (decimal (length entries) ∷ []) ++ flat_map (λ entry. entry_line (entry_of entry)) entries ≡ reply (Entries (map entry_of entries))
entries_reply entries =
    ap (λ n. ok (decimal n ∷ []) ++ flat_map (λ entry. entry_line (entry_of entry)) entries) (sym (length-map entries entry_of))
    ∙ ap (λ t. ok (decimal (length (map entry_of entries)) ∷ []) ++ t) (sym (entries_are entries))
