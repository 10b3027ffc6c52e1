-- Directories and their entries in the tree of a log map.
use Rattle.std.proofs.Common.{◌≡◌, ◌≢◌, ⊎_elim, refl, sym, ap, ◌∙◌, ℕ, ◌<◌, ◌≤◌, true, List, length, Option, Some, None, arith}
use Rattle.std.proofs.lemmas.Bool.{cases_lt}
use Rattle.std.specs.FinMap.{find}
use Rattle.lfs_model.specs.declared.Kind.{Kind}
use Rattle.lfs_model.specs.declared.Kind.TheVariants as kind
use Rattle.lfs_model.specs.declared.number.FileNumber.{FileNumber}
use Rattle.lfs_model.specs.Entry as entries
use Rattle.lfs_model.specs.Objects.{IsDirectory}
use Rattle.lfs_model.specs.Refusal as refusals
use Rattle.lfs_model.specs.Stands.{LogMap}
use Rattle.lfs_model.specs.Tree.{Dir, Link, Node, byte_cmp, entry, is_dir, name_len, name_limit, names_in, node}
use Rattle.lfs_model.specs.TreeOf.{node_by, node_of, object, tree_in}
use Rattle.lfs_model.specs.Walk.{Gives, IsLookedUp, Refused, dot, dot_dot, too_long, not_there}
use Rattle.lfs_model.proofs.Volume.{node_in, no_node_0, no_node_past}
use Rattle.lfs_model.proofs.Walks.{Some-injective}
use Rattle.lfs_files.specs.declared.header.Header.{Header}
use Rattle.lfs_files.specs.Headers.{as_header}
use Rattle.lfs_dirs.specs.Directory.{names_at}
use Rattle.lfs_path.specs.Seeing.{EndsAtPiece, HasObject, HasHeader, IsSeen, NamesObject}
use Rattle.lfs_path.specs.Trees.{HasTree, InDirectory}
use Rattle.lfs_path.specs.declared.seen.Seen.TheVariants as seen

module _ (m : LogMap) where
  -- a node is what a header says
  record HasNode (n : ℕ) (x : Node) : Type 0 where
    head : entries.Header
    is : m.header n ≡ Some head
    same : node_by m head.kind n head ≡ x

  node_header : (n : ℕ) (x : Node) → node (tree_in m) n ≡ Some x → HasNode n x
  node_header n x is = ⊎_elim
      (λ (low : n < 1). absurd (let none : node (tree_in m) n ≡ None = ap (node (tree_in m)) (omega arith) ∙ no_node_0 m in cc))
      (λ (some : 1 ≤ n). ⊎_elim
      (λ (past : 4095 < n). absurd (cc (no_node_past m n (omega arith))))
      (λ (few : n ≤ 4095). by (m.header n) refl (sym (node_in m n some few) ∙ is))
      (cases_lt 4095 n))
      (cases_lt n 1)
    where
      by : (o : Option entries.Header) → m.header n ≡ o → node_of m n (m.header n) ≡ Some x → HasNode n x
      by None none at = cc
      by (Some h) there at =
          record { head = h; is = there; same = Some-injective (cc there) }

  kind_is : (n : ℕ) (k : Kind) (h : entries.Header) → is_dir (Some (node_by m k n h)) ≡ true → k ≡ kind.Directory
  kind_is n kind.File h is = cc
  kind_is n kind.Directory h is = refl
  kind_is n kind.Link h is = cc

  -- ---- a directory
  record IsDirectoryHeader (d : ℕ) : Type 0 where
    head : entries.Header
    is : m.header d ≡ Some head
    kind : head.kind ≡ kind.Directory

  directory_header : (d : ℕ) → is_dir (node (tree_in m) d) ≡ true → IsDirectoryHeader d
  directory_header d dir = by (node (tree_in m) d) refl dir
    where
      by : (o : Option Node) → node (tree_in m) d ≡ o → is_dir o ≡ true → IsDirectoryHeader d
      by None is dir = cc
      by (Some x) is dir =
          let a = node_header d x is in
          record { head = a.head; is = a.is; kind = kind_is d a.head.kind a.head (cc) }

  module _ (d : ℕ) (within : InDirectory d m) where
    pub is_object : HasObject d m
    is_object none = let is = (directory_header d within.directory).is in cc

    module _ (head : Header) (is : HasHeader d head m) where
      directory_kind : head.kind ≡ kind.Directory
      directory_kind =
          let a = directory_header d within.directory in
          let same : a.head ≡ as_header head = Some-injective (sym a.is ∙ is) in
          cc same

      there : node (tree_in m) d ≡ Some (Dir head.form (names_at m d head))
      there =
          let number = (within.tree.headers d (as_header head) is).number in
          cc (node_in m d number.0 number.1, is, directory_kind)

      -- its names are as long as its form allows
      pub limit : name_limit (tree_in m) d ≡ name_len head.form
      limit = cc there

      pub long_name : (name : List ℕ) → name_len head.form < length name → EndsAtPiece d name (tree_in m) (Refused refusals.NameTooLong)
      long_name name long follow ps s k = too_long (omega (arith, limit))

      pub entry_is : (name : List ℕ) {found : Option ℕ} → found ≡ find byte_cmp name (names_at m d head) → entry (tree_in m) d name ≡ found
      entry_is name answer = cc there

      pub names_are : names_in (tree_in m) d ≡ names_at m d head
      names_are = cc there

      pub is_formed : IsDirectory m d (as_header head)
      is_formed =
          let slots = within.tree.formed d (as_header head) is directory_kind in
          record { whole = (within.tree.headers d (as_header head) is).slots directory_kind; formed = slots.0; apart = slots.1 }

      -- ---- a name in it
      module _ (name : List ℕ) (dots : (name ≢ dot) × (name ≢ dot_dot)) where
        looked_up : length name ≤ name_len head.form → IsLookedUp (tree_in m) d name
        looked_up short = record { not_dot = dots.0; not_dot_dot = dots.1; short = omega (arith, limit) }

        pub no_name : length name ≤ name_len head.form → None ≡ find byte_cmp name (names_at m d head)
            → EndsAtPiece d name (tree_in m) (Refused refusals.NoEntry)
        no_name short answer follow ps s k = not_there (looked_up short) (entry_is name answer)

        pub is_name : length name ≤ name_len head.form → {n : ℕ} → Some n ≡ find byte_cmp name (names_at m d head) → NamesObject d name n m
        is_name short {n} answer = record { is_name = looked_up short; is_there = entry_is name answer }

  -- ---- what a name gives
  pub named_object : (d : ℕ) (name : List ℕ) {n : ℕ} → HasTree m → NamesObject d name n m → HasObject n m
  named_object d name {n} tree named none = tree.there d name n named.is_there (no_node n none)
    where
      no_node : (n : ℕ) → m.header n ≡ None → node (tree_in m) n ≡ None
      no_node n none = ⊎_elim
          (λ (low : n < 1). ap (node (tree_in m)) (omega arith) ∙ no_node_0 m)
          (λ (some : 1 ≤ n). ⊎_elim
          (λ (past : 4095 < n). no_node_past m n (omega arith))
          (λ (few : n ≤ 4095). cc (node_in m n some few))
          (cases_lt 4095 n))
          (cases_lt n 1)

  module _ (d : ℕ) {name : List ℕ} (n : FileNumber) (tree : HasTree m) (named : NamesObject d name n.value m) (head : Header)
      (is : HasHeader n.value head m) where
    gives : {k : Kind} → head.kind ≡ k → Gives (tree_in m) d name n.value (node_by m k n.value (as_header head))
    gives {k} same =
        let number = (tree.headers n.value (as_header head) is).number in
        record {
          is_name = named.is_name;
          is_there = named.is_there;
          is_node = cc (node_in m n.value number.0 number.1, is, same);
        }

    pub gives_file : head.kind ≡ kind.File → IsSeen d name (seen.File n) m
    gives_file same = (object m n.value (as_header head), gives same)

    pub gives_directory : head.kind ≡ kind.Directory → IsSeen d name (seen.Directory n) m
    gives_directory same = (head.form, names_at m n.value head, gives same)

    pub gives_link : head.kind ≡ kind.Link → Gives (tree_in m) d name n.value (Link (object m n.value (as_header head)))
    gives_link same = gives same
