-- The blocks of a log, by name, and what their sectors say.
-- Segment summaries that name each block's file and place are those of
-- the Sprite LFS paper (1992, section 3.3); the kinds are an own choice.
use Rattle.std.specs.Prelude.{◌≡◌, ◌*◌, ℕ, List, map, Option, Some}
use Rattle.std.specs.Option.{option_map}
use Rattle.lfs_model.specs.declared.Kind.{Kind}
use Rattle.lfs_model.specs.declared.BlockKind.{BlockKind}
use Rattle.lfs_model.specs.declared.BlockKind.TheVariants as kind
use Rattle.lfs_model.specs.Fields.{read16, read32}
use Rattle.lfs_model.specs.Inode.{InodeValue, IsForm, inode_in, inode_of}
use Rattle.lfs_model.specs.Summary.{BlockNameValue, summary_in}

-- the number of 4 bytes at word k, and of 2 bytes at half word k
unfoldable pub word : List ℕ → ℕ → ℕ
word bytes k = read32 (4 * k) bytes

unfoldable pub half : List ℕ → ℕ → ℕ
half bytes k = read16 (2 * k) bytes

-- a block's owner, and its place there
pub data Entry : Type 0 where
  Data : ℕ → ℕ → Entry  -- file, block of the file
  Leaf : ℕ → ℕ → Entry  -- file, 0 for the single leaf, else 1 + place under the double root
  Double : ℕ → Entry  -- file
  Inode : ℕ → Entry  -- file
  Map : ℕ → Entry  -- block of the inode map
  Usage : ℕ → Entry  -- block of the usage table

abbrev pub entry_by : BlockKind → ℕ → ℕ → Entry
entry_by kind.Data file index = Data file index
entry_by kind.Leaf file index = Leaf file index
entry_by kind.Double file index = Double file
entry_by kind.Inode file index = Inode file
entry_by kind.Map file index = Map index
entry_by kind.Usage file index = Usage index

-- the entry that a summary names
abbrev pub entry_of : BlockNameValue → Entry
entry_of b = entry_by b.kind b.file b.index

-- the entries of the chunk behind a summary, one for each block of it
unfoldable pub entries_in : List ℕ → Option (List Entry)
entries_in bytes = option_map (map entry_of) (summary_in bytes)

-- what an inode says of its object; the form is that of a directory's slots
pub record Header : Type 0 where
  pub kind : Kind
  pub form : ℕ
  pub links : ℕ
  pub size : ℕ

abbrev pub header_of : InodeValue → Header
header_of i = record { kind = i.kind; form = i.form; links = i.links; size = i.size }

unfoldable pub header : List ℕ → Header
header bytes = header_of (inode_of bytes)

-- a well-formed inode with this number, of a form that this version of the layout has
pub record IsInode (version n : ℕ) (bytes : List ℕ) : Type 0 where
  pub value : InodeValue
  pub spelt : inode_in bytes ≡ Some value
  pub form : IsForm version value.kind value.form
  pub own : value.number ≡ n
