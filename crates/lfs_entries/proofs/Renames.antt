-- What a rename finds of both names, one read behind the other.
use Rattle.std.proofs.Common.{◌≡◌, ◌≢◌, ℕ, Bool, List, Some, sym, ◌∙◌, ap}
use Rattle.lfs_model.specs.declared.Kind.{Kind}
use Rattle.lfs_model.specs.Stands.{LogMap}
use Rattle.lfs_files.specs.Files.{FilesState, Reads}
use Rattle.lfs_files.specs.declared.header.Header.{Header}
use Rattle.lfs_files.specs.Headers.{as_header}
use Rattle.lfs_path.specs.Seeing.{HasHeader}
use Rattle.lfs_path.specs.Telling.{TellsFault}
use Rattle.lfs_path.proofs.Sights.{fails_then}
use Rattle.lfs_entries.specs.declared.fault.EntryFault.{EntryFault}
use Rattle.lfs_entries.specs.declared.fault.EntryFault.TheVariants as fault
use Rattle.lfs_entries.specs.declared.moving.Source.{Source}
use Rattle.lfs_entries.specs.declared.moving.Target.{Target}
use Rattle.lfs_entries.specs.Finding.{IsHolder}
use Rattle.lfs_entries.specs.Renaming.{FindsBoth, FindsSource, FindsTarget, RefusesNext}

-- directories of two forms are two
one_form : (m : LogMap) (d : ℕ) (a b : Header) → HasHeader d a m → HasHeader d b m → a.form ≡ b.form
one_form m d a b at_a at_b =
    let both : Some (as_header a) ≡ Some (as_header b) = sym at_a ∙ at_b in
    let same : as_header a ≡ as_header b = cc in
    ap (λ h. h.form) same

module _ {S D : Type 0} {s a b : FilesState S D} (one : Reads s a) (two : Reads a b) where
  pub fails_second : (P : LogMap → Type 0) → TellsFault a b P → TellsFault s b P
  fails_second P = fails_then b P P one (λ m m' keeps has it. it)

  pub source_still : {d : ℕ} {name : List ℕ} {slash : Bool} {source : Source} → FindsSource s a d name slash source
      → FindsSource s b d name slash source
  source_still finds = record {
    directory = finds.directory;
    named = finds.named;
    looks = λ m m' keeps has. finds.looks m m' (two.looks.carries.kept_before keeps) has;
    size = finds.size;
    links = finds.links;
    short = finds.short;
    plain = finds.plain;
  }

  pub target_behind : {d : ℕ} {name : List ℕ} {slash : Bool} {k : Kind} {target : Target} → FindsTarget a b d name slash k target
      → FindsTarget s b d name slash k target
  target_behind finds = record {
    directory = finds.directory;
    named = finds.named;
    looks = λ m m' keeps has. finds.looks m m' keeps (one.has m m' has);
    size = finds.size;
    is_name = finds.is_name;
    plain = finds.plain;
  }

  pub next_behind : (d : ℕ) (name : List ℕ) (slash : Bool) (k : Kind) (why : EntryFault) → RefusesNext a b d name slash k why
      → RefusesNext s b d name slash k why
  next_behind d name slash k fault.NoEntry never = never
  next_behind d name slash k fault.NotDir why = (
    why.0,
    (
      why.1.0,
      record {
        head = why.1.1.head;
        looks = λ m m' keeps has. why.1.1.looks m m' keeps (one.has m m' has);
        short = why.1.1.short;
      },
    ),
  )
  next_behind d name slash k fault.IsDir never = never
  next_behind d name slash k fault.Exist never = never
  next_behind d name slash k fault.NotEmpty never = never
  next_behind d name slash k fault.Inval never = never
  next_behind d name slash k fault.NameTooLong why =
      record { head = why.head; header = λ m m' keeps has. why.header m m' keeps (one.has m m' has); long = why.long }
  next_behind d name slash k fault.Perm never = never
  next_behind d name slash k fault.TooManyLinks never = never
  next_behind d name slash k fault.DirFull never = never
  next_behind d name slash k fault.NoMemory never = never
  next_behind d name slash k (fault.Log f) why = λ may. fails_second (IsHolder d) (why may)

  -- ---- both
  module _ {da : ℕ} {na : List ℕ} {ea : Bool} {db : ℕ} {nb : List ℕ} {eb : Bool} {source : Source} {target : Target}
      (first : FindsSource s a da na ea source) (second : FindsTarget a b db nb eb source.object.header.kind target) where
    pub both_found : FindsBoth s b da na ea db nb eb source target
    both_found = record {
      first = source_still first;
      second = target_behind second;
    }

    pub never_two : source.directory.value ≡ target.directory.value → source.holder.form ≢ target.holder.form → TellsFault s b (IsHolder db)
    never_two same two_forms m m' keeps has holder =
        let at_a = (both_found.first.looks m m' keeps has).looks.header in
        let at_b = (both_found.second.looks m m' keeps has).looks.header in
        let here : da ≡ db = sym first.directory ∙ same ∙ second.directory in
        absurd (two_forms (one_form m' da source.holder target.holder at_a (ap m'.header here ∙ at_b)))
