-- The rows of all directories, number by number, and the call that lists them.
use Rattle.lfs_fs.proofs.Prelude.{◌≡◌, ◌<◌, ◌++◌, ◌+◌, ◌-◌, ℕ, List, [], ◌∷◌, map, refl, sym, ◌∙◌, ap, append-nil, ListTree, Refuse}
use Rattle.lfs_fs.proofs.Prelude.{Rows, DeviceState, IsLawful, rows_of, Store, files_of, TreeRow, FailsWhere, Fs, row_of, AreListable}
use Rattle.lfs_fs.proofs.Prelude.{HasRows, Begins, seen, Mounted, Serves, segments_of, rows_at}
use Rattle.std.proofs.Common.{append_assoc}
use Rattle.lfs_model.specs.Call.{TreeRow as ModelRow}
use Rattle.lfs_model.specs.Refusal.{NoMemory}
use Rattle.lfs_entries.specs.Telling as telling
use Rattle.lfs_fs.proofs.calls.Answers.{Fails, In, IsQuiet, ReadsTo, answers, begun_by, fails_where, known, lacks_memory, now}
use Rattle.lfs_fs.proofs.calls.Files.{IsBegun, with_store}
use Rattle.lfs_steps.proofs.list.Rows.{all_rows, rows_end, rows_from, rows_next}
use Rattle.lfs_fs.proofs.paths.Steps.{tree_done}
use Rattle.lfs_fs.proofs.read.Shown.{all_listable, shows_rows}
use Rattle.lfs_fs.proofs.volume.Map.{headers_of_volume, map_of_volume}

map_append : {X Y : Type 0} (f : X → Y) (xs ys : List X) → map f (xs ++ ys) ≡ map f xs ++ map f ys
map_append f [] ys = refl
map_append f (x ∷ xs) ys = ap (λ zs. f x ∷ zs) (map_append f xs ys)

quiet : IsQuiet ListTree
quiet = record { free = refl; memory = refl; leaves = refl; unclean = refl; kept = refl }

module _ {D : Type 0} (state : D → DeviceState) where
  -- The rows of the numbers below this one are there; with those of the others they are the tree's.
  pub record TreeSoFar (v : Mounted D) (f : Fs D) (a : ℕ) (rows : List TreeRow) : Type 0 where
    pub begun : IsBegun state v f
    pub tells : In state v f (λ m s. map row_of rows ++ rows_from s.tree (4096 - a) a ≡ rows_of s.tree)

  pub tree_none : {old f : Fs D} → Begins old f → {rows : List TreeRow} → rows ≡ [] → TreeSoFar (seen old) f 1 rows
  tree_none {old} {f} begins none = record {
    begun = begun_by state f begins;
    tells = λ k m0 m s keeps is. ap (λ (l : List TreeRow). map row_of l ++ rows_from s.tree 4095 1) none ∙ all_rows m s is.log;
  }

module _ {D : Type 0} {state : D → DeviceState} (lawful : (d : D) → IsLawful (state d)) {v : Mounted D} {f : Fs D} {a : ℕ}
    {rows : List TreeRow}
    (so : TreeSoFar state v f a rows) where
  -- all are there
  pub tree_gives : a ≡ 4096 → Serves state v (seen f) ListTree (Rows (map row_of rows))
  tree_gives last = answers lawful so.begun quiet tt
      (λ k m0 m s keeps is.
      rw (sym (append-nil (map row_of rows)) ∙ ap (λ (l : List ModelRow). map row_of rows ++ l) (sym (rows_end s.tree a last))
      ∙ so.tells k m0 m s keeps is)
      (tree_done (segments_of v) s))

  module _ (store : Store D) (reads : ReadsTo state f store) where
    pub tree_more : a < 4096 → (more next : List TreeRow) → next ≡ rows ++ more
        → telling.InEach (files_of state f.store) (files_of state store) (HasRows a more)
        → TreeSoFar state v (with_store f store) (a + 1) next
    tree_more few more next put has = record {
      begun = now lawful so.begun store reads;
      tells = λ k m0 m s keeps is. (
          let one : map row_of more ≡ rows_at s.tree a
          = shows_rows (map_of_volume is) (headers_of_volume is) a more (known lawful so.begun store reads has k m0 m s keeps is) in
          let left = rows_from s.tree (4096 - (a + 1)) (a + 1) in
          ap (λ (l : List TreeRow). map row_of l ++ left) put
          ∙ ap (λ (l : List ModelRow). l ++ left) (map_append row_of rows more)
          ∙ append_assoc (map row_of rows) (map row_of more) left
          ∙ ap (λ (l : List ModelRow). map row_of rows ++ (l ++ left)) one
          ∙ ap (λ (l : List ModelRow). map row_of rows ++ l) (sym (rows_next s.tree a few))
          ∙ so.tells k m0 m s (reads.looks.carries.kept_before keeps) is);
    }

    pub tree_fails : Fails state v f store ListTree (FailsWhere (files_of state f.store) (files_of state store) AreListable)
    tree_fails = fails_where lawful so.begun store reads quiet
        (λ k m0 m s keeps is. all_listable (map_of_volume is) (headers_of_volume is))

    pub tree_full : Serves state v (seen (with_store f store)) ListTree (Refuse NoMemory)
    tree_full = lacks_memory lawful (now lawful so.begun store reads) quiet
