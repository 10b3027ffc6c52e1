-- A write to an open file, from the blocks of the log map to the state after the call.
use Rattle.lfs_steps.proofs.Prelude.{◌≡◌, ◌≤◌, ◌+◌, ◌*◌, ℕ, List, length, Some, sym, ◌∙◌, ap, subst, arith, max, nat_cmp, find, IsForm}
use Rattle.lfs_steps.proofs.Prelude.{AreBytes, IsLogMap, need, IsObject, IsWithinLimits, LogMap, file_bytes, the_node, with_tree, File}
use Rattle.lfs_steps.proofs.Prelude.{Node, State, Tree, with_node, object, tree_in, write_ends, object_fits, object_kept, as_header}
use Rattle.lfs_steps.proofs.Prelude.{IsCounted, TotalsOfTree, WritesFile, resized}
use Rattle.lfs_model.specs.declared.Kind.TheVariants as kind
use Rattle.lfs_model.specs.Bytes.{put}
use Rattle.lfs_model.specs.Entry as entry
use Rattle.lfs_model.proofs.FileBytes.{put_bytes, put_length}
use Rattle.lfs_model.proofs.ObjectTrees.{file_written}
use Rattle.lfs_files.specs.declared.header.Header.{Header}
use Rattle.lfs_steps.proofs.volume.Nodes.{IsMapOf, IsFileOf, IsShaped, need_shaped, opened_file}
use Rattle.lfs_steps.proofs.volume.FileBytes.{changed_map, not_directory, shape_kept}
use Rattle.lfs_steps.proofs.open_files.Steps.{file_is, written}

module _ {N : ℕ} (m m' : LogMap) (s : State) (h n : ℕ) (is : IsMapOf N m s) (opens : find nat_cmp h s.handles ≡ Some n) (head : Header)
    (there : m.header n ≡ Some (as_header head)) where
  was : IsFileOf m s.tree n
  was = opened_file is.log h opens

  head_is : was.head ≡ as_header head
  head_is = let both : Some was.head ≡ Some (as_header head) = sym was.there ∙ there in cc

  module _ {at : ℕ} (w : List ℕ) (writes : WritesFile m m' n head (resized head (max head.size (at + length w))) at w) where
    -- the file's bytes with w laid over
    abbrev after : List ℕ
    after = put (object m n was.head) at w

    abbrev head' : entry.Header
    head' = as_header (resized head (max head.size (at + length w)))

    is_file : head.kind ≡ kind.File
    is_file = sym (ap (λ (x : entry.Header). x.kind) head_is) ∙ was.kind

    tree_after : tree_in m' ≡ with_node s.tree n (File after)
    tree_after =
        file_written m m' n (as_header head) head' is.map writes.only was.number.0 was.number.1 there writes.header is_file is_file at w
        writes.bytes
        ∙ ap (λ (t : Tree). with_node t n (File (put (file_bytes (the_node t n)) at w))) (sym is.log.is)
        ∙ ap (λ (x : Node). with_node s.tree n (File (put (file_bytes x) at w))) was.bytes

    written_is : written N s h at w ≡ with_node s.tree n (File after)
    written_is =
        ap (λ (k : ℕ). with_node s.tree k (File (put (file_bytes (the_node s.tree k)) at w))) (file_is N s h n opens)
        ∙ ap (λ (x : Node). with_node s.tree n (File (put (file_bytes x) at w))) was.bytes

    -- the tree after the call
    pub written_tree : tree_in m' ≡ written N s h at w
    written_tree = tree_after ∙ sym written_is

    module _ (end : at + length w ≤ 8511488) where
      old_fits : IsObject m n (as_header head)
      old_fits =
          object_fits m n (as_header head) is.map (is.long n) there (subst (λ (x : entry.Header). x.size ≤ 8511488) head_is was.small)

      fits : IsObject m' n head'
      fits = record {
        number = was.number.0;
        root = λ e. old_fits.root e;
        form = subst (λ (v : ℕ). IsForm v head.kind head.form) (sym writes.only.version) old_fits.form;
        size = (let old = old_fits.size in omega arith);
        whole = writes.whole old_fits.whole;
        ends = write_ends m m' n (as_header head) head' is.map there at w writes.bytes;
      }

      -- the log map after it, whether it has room or not
      pub written_log : IsLogMap m'
      written_log = object_kept m m' n head' is.map writes.only writes.header fits

      pub written_shape : IsShaped m → IsShaped m'
      written_shape shaped = shape_kept writes.only shaped written_log fits.whole.long
          (λ g here dir. absurd (not_directory m' n writes.header is_file g here dir))

      -- and what its tree needs
      pub written_need : TotalsOfTree → IsShaped m → {blocks others : ℕ} → IsCounted m' blocks others
          → need (written N s h at w) ≡ blocks + 7 * others + 720
      written_need totals shaped {blocks} {others} counted = ap need (sym written_tree)
          ∙ (need_shaped totals (written_shape shaped) counted).0

      module _ (bytes : AreBytes w) (room : need (written N s h at w) ≤ 47 * N) where
        good : IsWithinLimits (File after)
        good =
            let limits : IsWithinLimits (File (object m n was.head)) = is.log.sound.limits n (File (object m n was.head)) was.node in
            (put_length (object m n was.head) at w 8511488 limits.0 end, put_bytes (object m n was.head) at w limits.1 bytes)

        -- the volume's log map after the call
        pub written_map : IsMapOf N m' (with_tree s (written N s h at w))
        written_map = subst (λ (t : Tree). IsMapOf N m' (with_tree s t)) (sym written_is)
            (changed_map N m m' s is n was writes.only writes.header is_file (sym (ap (λ (x : entry.Header). x.links) head_is)) fits
            after tree_after good
            (subst (λ (t : Tree). need t ≤ 47 * N) written_is room))
