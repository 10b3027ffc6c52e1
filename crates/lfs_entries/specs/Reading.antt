-- What is read of objects.
use Rattle.std.specs.Prelude.{◌≡◌, ◌≢◌, ◌+◌, ◌-◌, ℕ, List, [], min}
use Rattle.lfs_model.specs.declared.Kind.{Kind}
use Rattle.lfs_model.specs.declared.Kind.TheVariants as kind
use Rattle.lfs_model.specs.declared.limits.TheConstants.{LONGEST_PATH}
use Rattle.lfs_model.specs.Bytes.{part}
use Rattle.lfs_model.specs.Entry as entry
use Rattle.lfs_model.specs.Stands.{LogMap}
use Rattle.lfs_model.specs.TreeOf.{object}
use Rattle.lfs_files.specs.declared.header.Header.{Header}
use Rattle.lfs_files.specs.Files.{FilesState}
use Rattle.lfs_files.specs.Headers.{as_header}
use Rattle.lfs_path.specs.Seeing.{HasHeader, HasObject}
use Rattle.lfs_path.specs.Telling.{TellsFault}
use Rattle.lfs_entries.specs.declared.fault.EntryFault.{EntryFault}
use Rattle.lfs_entries.specs.declared.fault.EntryFault.TheVariants as fault
use Rattle.lfs_entries.specs.Telling.{InEach}

-- the bytes of an object of this header from a place on, at most so many, none past its end
abbrev pub bytes_of : LogMap → ℕ → entry.Header → ℕ → ℕ → List ℕ
bytes_of m n h from count = part (object m n h) (min from h.size) (min (from + count) h.size - min from h.size)

-- these are those of object n, if it has this size
abbrev pub ReadsSized : ℕ → ℕ → ℕ → ℕ → List ℕ → LogMap → Type 0
ReadsSized n size from count bytes m = (h : entry.Header) → h.size ≡ size → bytes ≡ bytes_of m n h from count

-- what the listing of a tree shows of an object of this kind and header
abbrev pub ShowsHead : LogMap → ℕ → Header → Kind → List ℕ → Type 0
ShowsHead m n head kind.File bytes = bytes ≡ bytes_of m n (as_header head) 0 16
ShowsHead m n head kind.Directory bytes = bytes ≡ []
ShowsHead m n head kind.Link bytes = bytes ≡ bytes_of m n (as_header head) 0 LONGEST_PATH

module _ {S D : Type 0} (s s' : FilesState S D) where
  -- These are the bytes of object n from a place on.
  pub record ReadsObject (n from count : ℕ) (bytes : List ℕ) : Type 0 where
    pub head : Header
    pub header : InEach s s' (HasHeader n head)
    pub is : InEach s s' (λ m. bytes ≡ bytes_of m n (as_header head) from count)

  -- Object n is a link, and this is its text.
  pub record ReadsText (n : ℕ) (text : List ℕ) : Type 0 where
    pub head : Header
    pub header : InEach s s' (HasHeader n head)
    pub link : head.kind ≡ kind.Link
    pub is : InEach s s' (λ m. text ≡ bytes_of m n (as_header head) 0 LONGEST_PATH)

  -- Object n is no link.
  pub record IsNoLink (n : ℕ) : Type 0 where
    pub head : Header
    pub header : InEach s s' (HasHeader n head)
    pub other : head.kind ≢ kind.Link

  -- why no text is read: the object is no link, or memory was refused; or, where it is there, a call of the device failed
  abbrev pub RefusesText : ℕ → EntryFault → Type 0
  RefusesText n fault.Inval = IsNoLink n
  RefusesText n fault.NoMemory = Unit {0}
  RefusesText n (fault.Log f) = TellsFault s s' (HasObject n)
  RefusesText n _ = ⊥
