-- Why the rule of an old entry takes none, as the model sees it in one state.
use Rattle.lfs_fs.proofs.Prelude.{◌<◌, ◌≡◌, ◌∙◌, ◌≢◌, ℕ, List, false, refl, ap, ⊎_elim, Kind, Call, LogMap, State, FilesState, Last}
use Rattle.lfs_fs.proofs.Prelude.{EntryFault, is_directory, RefusesOld, old_dots, IsReached, dots_is, gives_is, long_is, short_is, slash_is}
use Rattle.lfs_fs.proofs.Prelude.{there_is, holder}
use Rattle.lfs_model.specs.declared.Kind.TheVariants as kind
use Rattle.lfs_entries.specs.declared.fault.EntryFault.TheVariants as fault
use Rattle.lfs_fs.proofs.calls.Files.{Explains}
use Rattle.lfs_steps.proofs.old_entries.Steps.{ChecksOld, old_directory, old_long, old_missing, old_slash}

pub plain_so : (k : Kind) → k ≢ kind.Directory → is_directory k ≡ false
plain_so kind.File other = refl
plain_so kind.Directory other = absurd (other refl)
plain_so kind.Link other = refl

module _ {S D : Type 0} (a b : FilesState S D) {N : ℕ} {m : LogMap} {s : State} {p : List ℕ} {d : ℕ} {l : Last}
    (g : IsReached N m s p d l) (keeps : b.device.keeps_model) (has : a.has m m) (rose : Type 0)
    (rises : a.device.failures < b.device.failures → rose) (call : Call) (checks : ChecksOld N s p d call) where
  pub old_explained : (why : EntryFault) → RefusesOld a b d l.name.now l.slash why → Explains call N s rose why
  old_explained fault.Perm why = ⊎_elim
      (λ dots. old_dots checks (dots_is g ∙ dots))
      (λ some.
      let gives = some.1 in
      let at = gives.looks m m keeps has in
      old_directory checks (dots_is g ∙ some.0) (short_is g gives.entry.holder at.looks.header gives.short) (there_is g at.looks)
      (gives_is g at.looks gives.entry.object.header at.there ∙ ap is_directory gives.is)) why
  old_explained fault.NameTooLong why =
      old_long checks (dots_is g ∙ why.0) (long_is g why.1.head (why.1.header m m keeps has) why.1.long)
  old_explained fault.NoEntry why =
      let at = why.1.looks m m keeps has in
      old_missing checks (dots_is g ∙ why.0) (short_is g why.1.head at.header why.1.short) (there_is g at)
  old_explained fault.NotDir why =
      let gives = why.2 in
      let at = gives.looks m m keeps has in
      old_slash checks (dots_is g ∙ why.0) (short_is g gives.entry.holder at.looks.header gives.short)
      (there_is g at.looks) (slash_is g ∙ why.1) (gives_is g at.looks gives.entry.object.header at.there
      ∙ plain_so gives.entry.object.header.kind gives.is)
  old_explained (fault.Log f) why = rises (why m m keeps has (holder g))
  old_explained other why = absurd why
