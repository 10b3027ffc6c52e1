-- What an inode says of a file.
use Rattle.std.specs.Prelude.{◌≡◌, ◌≤◌, ℕ, Option, Some, None}
use Rattle.lfs_model.specs.declared.Kind.{Kind}
use Rattle.lfs_model.specs.declared.Kind.TheVariants as kind
use Rattle.lfs_model.specs.declared.limits.TheConstants.{MOST_LINKS}
use Rattle.lfs_model.specs.Entry as entry
use Rattle.lfs_model.specs.Inode.{IsForm, IsSize}
use Rattle.lfs_model.specs.Stands.{LogMap}
use Rattle.lfs_files.specs.declared.header.Header.{Header}

-- a header as the model has it
abbrev pub as_header : Header → entry.Header
as_header h = record { kind = h.kind; form = h.form; links = h.links; size = h.size }

-- the header of a file that has another size
abbrev pub resized : Header → ℕ → Header
resized h size = record { kind = h.kind; form = h.form; links = h.links; size = size }

-- a header with other links
abbrev pub relinked : Header → ℕ → Header
relinked h links = record { kind = h.kind; form = h.form; links = links; size = h.size }

-- the links of a file that is made: a directory has its own besides its name
abbrev pub first_links : Kind → ℕ
first_links kind.File = 1
first_links kind.Directory = 2
first_links kind.Link = 1

-- its header, of this form
abbrev pub first_header : Kind → ℕ → ℕ → Header
first_header k form size = record { kind = k; form = form; links = first_links k; size = size }

-- the header of a directory that has another form, and another size
abbrev pub reformed : Header → ℕ → ℕ → Header
reformed h form size = record { kind = h.kind; form = form; links = h.links; size = size }

-- whether file n is there, and what its inode says of it
abbrev pub HeaderAnswer : LogMap → ℕ → Option Header → Type 0
HeaderAnswer m n None = m.header n ≡ None
HeaderAnswer m n (Some h) = m.header n ≡ Some (as_header h)

-- what an inode's header may be in some version of the layout, where the file may have lost its last link
pub record FitsHeader (kind : Kind) (form links size : ℕ) : Type 0 where
  pub known : IsForm 2 kind form
  pub links_few : links ≤ MOST_LINKS
  pub size_fits : IsSize form kind size
