-- What lookups of names tell, where they refuse what a call asks.
use Rattle.std.proofs.Common.{◌≡◌, ◌≤◌, ◌<◌, ◌-◌, ◌*◌, ℕ, false, List, length, Option, Some, None, sym, subst, arith}
use Rattle.std.specs.Prelude.{is_some}
use Rattle.lfs_model.specs.declared.Kind.TheVariants as kind
use Rattle.lfs_model.specs.Tree.{name_len, slot_len}
use Rattle.lfs_files.specs.declared.header.Header.{Header}
use Rattle.lfs_files.specs.Files.{FilesState, Reads}
use Rattle.lfs_path.specs.dirs.declared.searching.Found.{Found}
use Rattle.lfs_path.specs.dirs.Finding.{value_of}
use Rattle.lfs_path.specs.Seeing.{HasObject}
use Rattle.lfs_path.specs.Telling.{TellsFault}
use Rattle.lfs_path.proofs.Sights.{fails_then}
use Rattle.lfs_entries.specs.declared.entry.Object.{Object}
use Rattle.lfs_entries.specs.Finding.{FindsName, FindsNumber, IsHolder, GivesObject}
use Rattle.lfs_entries.specs.NewEntries.{IsFull}
use Rattle.lfs_entries.specs.OldEntries.{GivesSome}

-- an object whose header isn't told, behind a lookup
pub object_failed : {S D : Type 0} {s a b : FilesState S D} (d n : ℕ) (name : List ℕ) (head : Header) → Reads s a → Reads a b
    → FindsNumber s a d name head (Some n) → TellsFault a b (HasObject n) → TellsFault s b (IsHolder d)
object_failed {s} {a} {b} d n name head one two finds = fails_then b (IsHolder d) (HasObject n) one
    (λ m m' keeps has holder. (let at = finds m m' (two.looks.carries.kept_before keeps) has in
    holder.gives head name n at.header (sym at.gives)))

module _ {S D : Type 0} (s s' : FilesState S D) (d : ℕ) (name : List ℕ) (head : Header) (short : length name ≤ name_len head.form) where
  -- ---- a name that nothing has
  pub full : (found : Option Found) → is_some found ≡ false → (1024 - 1) * slot_len head.form < head.size
      → FindsNumber s s' d name head (value_of found) → IsFull s s' d name
  full None none large finds = record { gives = record { head = head; looks = finds; short = short }; full = large }
  full (Some f) none large finds = absurd (cc)

  -- ---- a name of an object
  module _ {found : Option Object} {o : Object} (is : found ≡ Some o) (finds : FindsName s s' d name head found) where
    finds_it : FindsName s s' d name head (Some o)
    finds_it m m' keeps has = subst (GivesObject m' d name head) is (finds m m' keeps has)

    pub gives_some : (P : Header → Type 0) → P o.header → GivesSome s s' d name P
    gives_some P it = record { entry = record { holder = head; object = o }; looks = finds_it; short = short; is = it }

    -- no directory of a volume has so few links
    pub few_links : o.header.kind ≡ kind.Directory → head.links < 3 → TellsFault s s' (IsHolder d)
    few_links dir few m m' keeps has holder =
        let at = finds_it m m' keeps has in
        let many = holder.above head o.header name o.number.value at.looks.header (sym at.looks.gives) at.there dir in
        absurd (omega (arith, few, many))

-- a directory of a volume has two links
pub two_links : {S D : Type 0} (s s' : FilesState S D) (d : ℕ) (name : List ℕ) (head : Header) (found : Option Object)
    → FindsName s s' d name head found → head.links < 2 → TellsFault s s' (IsHolder d)
two_links s s' d name head found finds few m m' keeps has holder =
    let many = holder.linked head (finds m m' keeps has).looks.header in absurd (omega (arith, few, many))
