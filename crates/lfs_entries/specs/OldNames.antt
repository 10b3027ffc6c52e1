-- Names drafted away, with a link of what they give.
use Rattle.std.specs.Prelude.{◌≡◌, ◌≢◌, ◌<◌, ◌-◌, ◌&&◌, ◌||◌, not, nat_lt, ℕ, Bool, true, false, List, Some, None, if◌then◌else◌}
use Rattle.lfs_model.specs.Changing.{IsWithHeader}
use Rattle.lfs_model.specs.Cutting.{IsWithoutFile}
use Rattle.lfs_model.specs.Encodes.{IsLogMap}
use Rattle.lfs_model.specs.Objects.{AreLong, IsDirectory}
use Rattle.lfs_model.specs.Stands.{LogMap}
use Rattle.lfs_model.specs.Tree.{slot_len}
use Rattle.lfs_files.specs.declared.header.Header.{Header}
use Rattle.lfs_files.specs.Files.{AreCounted, FilesState, IsApart}
use Rattle.lfs_files.specs.Headers.{FitsHeader, as_header, relinked}
use Rattle.lfs_files.specs.Making.{TakesLinks}
use Rattle.lfs_path.specs.dirs.Taking.{CutsSlot, TakesName}
use Rattle.lfs_path.specs.Seeing.{HasHeader}
use Rattle.lfs_entries.specs.declared.entry.Entry.{Entry}
use Rattle.lfs_entries.specs.Drafting.{HasNamed}
use Rattle.lfs_entries.specs.Entries.{is_directory}

-- ---- an object loses a link

-- whether it stays: a directory doesn't, and another does where it keeps a link or is open
abbrev pub stays : Header → Bool → Bool
stays h is_open = not (is_directory h.kind) && (nat_lt 1 h.links || is_open)

-- it has a link less, or is gone
abbrev pub LosesLink : Bool → LogMap → LogMap → ℕ → Header → Type 0
LosesLink true m m' n h = IsWithHeader m n (Some (as_header (relinked h (h.links - 1)))) m'
LosesLink false m m' n h = IsWithoutFile m n m'

module _ {S D : Type 0} where
  -- With the draft there is a log map, where it has. It is one that a volume may keep where the one before was, and the object isn't the
  -- root.
  pub record HasLoss (s' : FilesState S D) (m m' : LogMap) (n : ℕ) (h : Header) (stay : Bool) : Type 0 where
    pub map : LogMap
    pub has : s'.has m map
    pub file : LosesLink stay m' map n h
    pub keeps : IsLogMap m' → HasHeader n h m' → n ≢ 1 → IsLogMap map

  -- A draft by which it does. What is lost is apart from all other files.
  pub record Loses (s s' : FilesState S D) (n : ℕ) (h : Header) (stay : Bool) : Type 0 where
    pub apart : (k : ℕ) → k ≢ n → IsApart s.lost k → IsApart s'.lost k
    pub own : stay ≡ true → IsApart s.lost n → IsApart s'.lost n
    pub fits : (m m' : LogMap) → s.has m m' → s.fits m → TakesLinks s m' n h (h.links - 1) → s'.fits m
    pub has : (m m' : LogMap) → s.has m m' → HasLoss s' m m' n h stay

  -- The totals with the draft stay those of the log map with it, where the object was there.
  abbrev pub CountsLoss : FilesState S D → FilesState S D → ℕ → Header → Type 0
  CountsLoss s s' n h = (m a b : LogMap) → s'.device.keeps_model → s.has m a → s'.has m b → IsLogMap a → IsLogMap b → HasHeader n h a
      → AreCounted a s.drafted → AreCounted b s'.drafted

-- ---- and its name goes

-- the header of a directory without this object, before the name goes
abbrev pub holder_without : Entry → Header
holder_without e = relinked e.holder (if is_directory e.object.header.kind then e.holder.links - 1 else e.holder.links)

-- Directory d, and another object that isn't the root, have these headers.
pub record HasBoth (d : ℕ) (e : Entry) (m : LogMap) : Type 0 where
  pub map : IsLogMap m
  pub holder : HasHeader d e.holder m
  pub object : HasHeader e.object.number.value e.object.header m
  pub other : d ≢ e.object.number.value
  pub not_root : e.object.number.value ≢ 1

-- The directory has the name too.
pub record HasOld (d : ℕ) (e : Entry) (name : List ℕ) (m : LogMap) : Type 0 where
  pub both : HasBoth d e m
  pub named : HasNamed d e.holder name m

-- A name is taken out of directory d.
pub record Untied (m m' : LogMap) (d : ℕ) (head : Header) (name : List ℕ) : Type 0 where
  pub cut : CutsSlot m m' d head
  pub names : IsDirectory m d (as_header head) → TakesName m m' d head name

module _ {S D : Type 0} where
  -- With the draft there is another log map: the object loses a link, then the directory one for a directory, and then the name.
  pub record HasDropped (s' : FilesState S D) (m m' : LogMap) (d : ℕ) (e : Entry) (is_open : Bool) (name : List ℕ) : Type 0 where
    pub lost : LogMap
    pub linked : LogMap
    pub map : LogMap
    pub has : s'.has m map
    pub loses : LosesLink (stays e.object.header is_open) m' lost e.object.number.value e.object.header
    pub links : IsWithHeader lost d (Some (as_header (holder_without e))) linked
    pub same : is_directory e.object.header.kind ≡ false → linked ≡ lost
    pub untied : Untied linked map d (holder_without e) name

  -- The log map may be changed so.
  pub record TakesDrop (s : FilesState S D) (m m' : LogMap) (d : ℕ) (e : Entry) : Type 0 where
    pub both : HasBoth d e m'
    pub staged : m.header d ≢ None
    pub apart : IsApart s.lost d
    pub object : TakesLinks s m' e.object.number.value e.object.header (e.object.header.links - 1)
    pub linked : 0 < e.holder.links
    pub links : FitsHeader e.holder.kind e.holder.form (holder_without e).links e.holder.size
    pub shorter : FitsHeader e.holder.kind e.holder.form (holder_without e).links (e.holder.size - slot_len e.holder.form)

  -- A draft by which they do. What is lost is apart from all other files.
  pub record DraftsDrop (s s' : FilesState S D) (d : ℕ) (e : Entry) (is_open : Bool) (name : List ℕ) : Type 0 where
    pub apart : (k : ℕ) → k ≢ e.object.number.value → IsApart s.lost k → IsApart s'.lost k
    pub fits : (m m' : LogMap) → s'.device.keeps_model → s.has m m' → s.fits m → TakesDrop s m m' d e → s'.fits m
    pub has : (m m' : LogMap) → s'.device.keeps_model → s.has m m' → HasBoth d e m' → HasDropped s' m m' d e is_open name

  -- The totals with the draft stay those of the log map with it.
  abbrev pub CountsDrop : FilesState S D → FilesState S D → ℕ → Entry → Type 0
  CountsDrop s s' d e = (m a b : LogMap) → s'.device.keeps_model → s.has m a → s'.has m b → HasBoth d e a → AreLong a d → IsLogMap b
      → AreCounted a s.drafted → AreCounted b s'.drafted
