-- Pieces looked up, over files with a draft.
use Rattle.std.proofs.Common.{◌≡◌, ◌≢◌, ◌<◌, ◌≤◌, ℕ, List, length, Some, None, arith}
use Rattle.lfs_model.specs.declared.number.FileNumber.{FileNumber}
use Rattle.lfs_model.specs.declared.Kind.TheVariants as kind
use Rattle.lfs_model.specs.Walk.{dot, dot_dot}
use Rattle.lfs_model.specs.Stands.{LogMap}
use Rattle.lfs_model.specs.Tree.{name_len}
use Rattle.lfs_files.specs.declared.header.Header.{Header}
use Rattle.lfs_files.specs.Files.{FilesState, Reads}
use Rattle.lfs_dirs.specs.declared.searching.Found.{Found}
use Rattle.lfs_dirs.specs.Finding.{Finds, IsDirectoryFault}
use Rattle.lfs_path.specs.Seeing.{EndsAtPiece, HasHeader, HasObject, IsSeen, NamesObject}
use Rattle.lfs_path.specs.Telling.{TellsFault, TellsRefusal, Tells}
use Rattle.lfs_path.specs.Trees.{InDirectory}
use Rattle.lfs_path.specs.declared.seen.Seen.TheVariants as seen
use Rattle.lfs_path.specs.declared.walk_fault.WalkFault.TheVariants.{NoEntry, NameTooLong}
use Rattle.lfs_path.proofs.InTrees.{gives_directory, gives_file, gives_link, is_formed, is_name, is_object, long_name, named_object}
use Rattle.lfs_path.proofs.InTrees.{no_name}

module _ {S D : Type 0} where
  -- what failed behind a call that read
  pub fails_then : {s a : FilesState S D} (b : FilesState S D) (P Q : LogMap → Type 0) → Reads s a
      → ((m m' : LogMap) → b.device.keeps_model → s.has m m' → P m' → Q m') → TellsFault a b Q → TellsFault s b P
  fails_then b P Q one so failed m m' keeps has p =
      omega (arith, failed m m' keeps (one.has m m' has) (so m m' keeps has p))

  pub long_refused : (s a : FilesState S D) (d : ℕ) (head : Header) → Tells s a (λ m. Unit {0}) (HasHeader d head) → (name : List ℕ)
      → name_len head.form < length name → TellsRefusal s a (InDirectory d) (EndsAtPiece d name) NameTooLong
  long_refused s a d head read name long m m' keeps has within = long_name m' d within head (read m m' keeps has tt) name long

  pub header_failed : (s a : FilesState S D) (d : ℕ) → TellsFault s a (HasObject d) → TellsFault s a (InDirectory d)
  header_failed s a d failed m m' keeps has within = failed m m' keeps has (is_object m' d within)

  -- ---- a name looked up in directory d
  module _ {s a b : FilesState S D} (d : ℕ) (head : Header) (one : Reads s a) (two : Reads a b)
      (read : Tells s a (λ m. Unit {0}) (HasHeader d head)) where
    header_is : (m m' : LogMap) → b.device.keeps_model → s.has m m' → HasHeader d head m'
    header_is m m' keeps has = read m m' (two.looks.carries.kept_before keeps) has tt

    pub found : (name : List ℕ) (f : Found) → (name ≢ dot) × (name ≢ dot_dot) → length name ≤ name_len head.form
        → Finds a b d head name (Some f) → Tells s b (InDirectory d) (NamesObject d name f.number.value)
    found name f dots short finds m m' keeps has within =
        is_name m' d within head (header_is m m' keeps has) name dots short (finds m m' keeps (one.has m m' has))

    pub found_none : (name : List ℕ) → (name ≢ dot) × (name ≢ dot_dot) → length name ≤ name_len head.form → Finds a b d head name None
        → TellsRefusal s b (InDirectory d) (EndsAtPiece d name) NoEntry
    found_none name dots short finds m m' keeps has within =
        no_name m' d within head (header_is m m' keeps has) name dots short (finds m m' keeps (one.has m m' has))

    pub find_failed : IsDirectoryFault a b d head → TellsFault s b (InDirectory d)
    find_failed failed m m' keeps has within =
        omega (arith, failed m m' keeps (one.has m m' has) (is_formed m' d within head (header_is m m' keeps has)))

  -- ---- what it gives
  module _ {s a b : FilesState S D} (d : ℕ) (n : FileNumber) (name : List ℕ) (one : Reads s a) (two : Reads a b)
      (named : Tells s a (InDirectory d) (NamesObject d name n.value)) where
    pub object_failed : TellsFault a b (HasObject n.value) → TellsFault s b (InDirectory d)
    object_failed = fails_then b (InDirectory d) (HasObject n.value) one
        (λ m m' keeps has within. named_object m' d name within.tree (named m m' (two.looks.carries.kept_before keeps) has within))

    module _ (head : Header) (read : Tells a b (λ m. Unit {0}) (HasHeader n.value head)) where
      named_at : (m : LogMap) {m' : LogMap} → b.device.keeps_model → s.has m m' → InDirectory d m' → NamesObject d name n.value m'
      named_at m {m'} keeps has within = named m m' (two.looks.carries.kept_before keeps) has within

      header_at : (m m' : LogMap) → b.device.keeps_model → s.has m m' → HasHeader n.value head m'
      header_at m m' keeps has = read m m' keeps (one.has m m' has) tt

      pub seen_file : head.kind ≡ kind.File → Tells s b (InDirectory d) (IsSeen d name (seen.File n))
      seen_file same m m' keeps has within =
          gives_file m' d n within.tree (named_at m keeps has within) head (header_at m m' keeps has) same

      pub seen_directory : head.kind ≡ kind.Directory → Tells s b (InDirectory d) (IsSeen d name (seen.Directory n))
      seen_directory same m m' keeps has within =
          gives_directory m' d n within.tree (named_at m keeps has within) head (header_at m m' keeps has) same

      pub seen_link : head.kind ≡ kind.Link → Tells s b (InDirectory d) (IsSeen d name (seen.Symbolic record { number = n; header = head }))
      seen_link same m m' keeps has within =
          gives_link m' d n within.tree (named_at m keeps has within) head (header_at m m' keeps has) same
