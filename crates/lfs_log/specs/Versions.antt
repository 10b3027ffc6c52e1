-- The versions of the layout, by their numbers: an own choice.
use Rattle.std.specs.Prelude.{ℕ}
use Rattle.lfs_log.specs.declared.layout_version.LayoutVersion.{LayoutVersion}
use Rattle.lfs_log.specs.declared.layout_version.LayoutVersion.TheVariants as version

abbrev pub number_of : LayoutVersion → ℕ
number_of version.First = 1
number_of version.Second = 2
number_of version.Third = 3
