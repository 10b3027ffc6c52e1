-- The inode of a file, a directory or a link, which is one sector.
-- Inodes with addresses of blocks and of blocks of addresses are those of the
-- Sprite LFS paper (1992, section 3.1); the bytes and limits are an own choice.
use Rattle.std.specs.Prelude.{◌≡◌, ◌<◌, ◌≤◌, ◌^◌, ◌%◌, ◌+◌, ◌*◌, ◌&&◌, ◌==◌, Bool, nat_le, ℕ, zero, suc, Option, List, [], ◌∷◌, length}
use Rattle.std.specs.Prelude.{get_or}
use Rattle.std.specs.Prelude.{nat_eq, if◌then◌else◌}
use Rattle.lfs_model.specs.declared.Kind.{Kind}
use Rattle.lfs_model.specs.declared.Kind.TheVariants.{File, Directory, Link}
use Rattle.lfs_model.specs.Fields.{le32, words, zeros, join, Are32, read32, numbers, value_in}
use Rattle.lfs_model.specs.Tree.{IsDirectoryForm, slot_len}
use Rattle.lfs_model.specs.declared.limits.TheConstants.{LAST_NUMBER, LARGEST_FILE, DIRECT_BLOCKS, LONGEST_PATH, MOST_ENTRIES, MOST_LINKS}

unfoldable pub kind_byte : Kind → ℕ
kind_byte File = 1
kind_byte Directory = 2
kind_byte Link = 3

-- how many bytes an object of the form and the kind may have: a directory whole slots, at most 1,024
unfoldable pub IsSize : ℕ → Kind → ℕ → Type 0
IsSize form File size = size ≤ LARGEST_FILE
IsSize form Directory size = (size % slot_len form ≡ 0) × (size ≤ MOST_ENTRIES * slot_len form)
IsSize form Link size = (1 ≤ size) × (size ≤ LONGEST_PATH)

pub record InodeValue : Type 0 where
  pub kind : Kind
  -- that of a directory's slots
  pub form : ℕ
  pub number : ℕ
  pub links : ℕ
  pub size : ℕ
  pub direct : List ℕ
  pub single : ℕ
  pub double : ℕ

-- the forms of an object in a version: a directory's, and of another the first
abbrev pub IsForm : ℕ → Kind → ℕ → Type 0
IsForm version Directory form = IsDirectoryForm version form
IsForm version File zero = Unit {0}
IsForm version File (suc form) = ⊥
IsForm version Link zero = Unit {0}
IsForm version Link (suc form) = ⊥

-- the sector of an inode, field by field
unfoldable pub inode_sector : InodeValue → List ℕ
inode_sector i = join (
    (kind_byte i.kind ∷ []) ∷
    (i.form ∷ []) ∷
    zeros 2 ∷
    le32 i.number ∷
    le32 i.links ∷
    le32 i.size ∷
    zeros 16 ∷
    words i.direct ∷
    le32 i.single ∷
    le32 i.double ∷
    zeros 24 ∷ []
    )

-- The words of an inode's sector that hold addresses: the direct ones from here on, the single one, the double one, and where they end.
abbrev pub direct_word : ℕ
direct_word = 8

abbrev pub single_word : ℕ
single_word = direct_word + DIRECT_BLOCKS

abbrev pub double_word : ℕ
double_word = single_word + 1

abbrev pub pointer_words_end : ℕ
pointer_words_end = double_word + 1

abbrev pub kind_of : ℕ → Kind
kind_of byte = if nat_eq byte 1 then File else (if nat_eq byte 2 then Directory else Link)

-- what stands at the places of an inode
abbrev pub inode_of : List ℕ → InodeValue
inode_of s = record {
  kind = kind_of (get_or s 0 0);
  form = get_or s 1 0;
  number = read32 4 s;
  links = read32 8 s;
  size = read32 12 s;
  direct = numbers DIRECT_BLOCKS (4 * direct_word) s;
  single = read32 (4 * single_word) s;
  double = read32 (4 * double_word) s;
}

-- what an inode may be
pub record FitsInode (i : InodeValue) : Type 0 where
  pub number : (1 ≤ i.number) × (i.number ≤ LAST_NUMBER)
  pub links : (1 ≤ i.links) × (i.links ≤ MOST_LINKS)
  -- of some version
  pub form : IsForm 2 i.kind i.form
  pub size : IsSize i.form i.kind i.size
  pub direct_length : length i.direct ≡ DIRECT_BLOCKS
  pub direct_fits : Are32 i.direct
  pub single_fits : i.single < 2 ^ 32
  pub double_fits : i.double < 2 ^ 32

-- the same, as tests
unfoldable pub is_size : ℕ → Kind → ℕ → Bool
is_size form File size = nat_le size LARGEST_FILE
is_size form Directory size = (size % slot_len form == 0) && nat_le size (MOST_ENTRIES * slot_len form)
is_size form Link size = nat_le 1 size && nat_le size LONGEST_PATH

unfoldable pub is_form : Kind → ℕ → Bool
is_form File form = form == 0
is_form Directory form = nat_le form 1
is_form Link form = form == 0

abbrev pub may_be_inode : InodeValue → Bool
may_be_inode i = (nat_le 1 i.number && nat_le i.number LAST_NUMBER)
    && ((nat_le 1 i.links && nat_le i.links MOST_LINKS) && (is_form i.kind i.form && is_size i.form i.kind i.size))

-- the inode that a sector spells, if it spells one
unfoldable pub inode_in : List ℕ → Option InodeValue
inode_in s = value_in inode_of may_be_inode inode_sector s
