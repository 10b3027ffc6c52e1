-- What the rule of a new entry takes, and why it takes none, as the model sees it in one state.
use Rattle.lfs_fs.proofs.Prelude.{◌<◌, not, ◌&&◌, ◌≡◌, ℕ, Bool, false, List, length, Option, Some, None, ◌∙◌, ap, subst, ⊎_elim, arith}
use Rattle.lfs_fs.proofs.Prelude.{Call, IsName, LogMap, State, FilesState, Last, is_dots, EntryFault, GivesNumber, RefusesEntry, TakesEntry}
use Rattle.lfs_fs.proofs.Prelude.{ChecksNew, new_dots, IsReached, dots_is, free_is, full_is, long_is, piece_is, short_is, slash_is}
use Rattle.lfs_fs.proofs.Prelude.{there_is, holder}
use Rattle.lfs_model.specs.Step.{is_long}
use Rattle.lfs_model.specs.PathText.{slash}
use Rattle.lfs_model.specs.Tree.{name_len}
use Rattle.lfs_files.specs.declared.header.Header.{Header}
use Rattle.lfs_entries.specs.declared.fault.EntryFault.TheVariants as fault
use Rattle.lfs_entries.specs.NewEntries.{Gives}
use Rattle.lfs_fs.proofs.calls.Files.{Explains}
use Rattle.lfs_steps.proofs.new_entries.RuleSteps.{IsTaken, new_full, new_long, new_slash, new_there}
use Rattle.lfs_steps.proofs.paths.LastNames.{last_is_name}
use Rattle.lfs_steps.proofs.paths.Named.{dir}
use Rattle.lfs_steps.proofs.volume.Directories.{limit_in_directory}

module _ {S D : Type 0} (a b : FilesState S D) {N : ℕ} {m : LogMap} {s : State} {p : List ℕ} {d : ℕ} {l : Last}
    (g : IsReached N m s p d l) (keeps : b.device.keeps_model) (has : a.has m m) (is_mkdir : Bool) where
  -- a slash behind the name, where none may be
  slashed : (slash p && not is_mkdir) ≡ (l.slash && not is_mkdir)
  slashed = ap (λ (x : Bool). x && not is_mkdir) (slash_is g)

  -- ---- it takes an entry
  module _ (head : Header) (takes : TakesEntry a b d l.name.now l.slash is_mkdir head) where
    new_looks : GivesNumber m d l.name.now head None
    new_looks = takes.looks m m keeps has

    pub is_taken : IsTaken s p d is_mkdir
    is_taken = record {
      named = dots_is g ∙ takes.named;
      short = short_is g head new_looks.header takes.is_name.short;
      new = there_is g new_looks;
      plain = slashed ∙ takes.plain;
      free = free_is g head new_looks.header takes.room;
    }

  -- ---- it takes none
  looks_at : {found : Option ℕ} (gives : Gives a b d l.name.now found) → GivesNumber m d l.name.now gives.head found
  looks_at gives = gives.looks m m keeps has

  not_long : {found : Option ℕ} → Gives a b d l.name.now found → is_long s.tree d p ≡ false
  not_long {found} gives = short_is g gives.head (looks_at gives).header gives.short

  -- the pieces of a path are names, but for dots
  is_named : is_dots l.name.now ≡ false → {found : Option ℕ} (gives : Gives a b d l.name.now found)
      → IsName (name_len gives.head.form) l.name.now
  is_named named {found} gives =
      subst (IsName (name_len gives.head.form)) (piece_is g) (last_is_name N s g.map.log.sound p d
      (limit_in_directory N m s g.map d (dir g) gives.head (looks_at gives).header) g.bytes g.walk (dots_is g ∙ named)
      (let same = ap length (piece_is g) in let short = gives.short in omega (arith, same, short)))

  pub new_explained : (rose : Type 0) → (a.device.failures < b.device.failures → rose) → {call : Call} → ChecksNew N s p d call is_mkdir
      → (why : EntryFault) → RefusesEntry a b d l.name.now l.slash is_mkdir why → Explains call N s rose why
  new_explained rose rises checks fault.Exist why = ⊎_elim
      (λ dots. new_dots checks (dots_is g ∙ dots))
      (λ some.
      let gives = some.1.gives in
      let found = Some some.1.number in
      new_there checks (dots_is g ∙ some.0) (not_long gives) (there_is g (looks_at gives))) why
  new_explained rose rises checks fault.NameTooLong why =
      new_long checks (dots_is g ∙ why.0) (long_is g why.1.head (why.1.header m m keeps has) why.1.long)
  new_explained rose rises checks fault.Inval why = absurd (why.1.none (is_named why.0 why.1.gives))
  new_explained rose rises checks fault.NoEntry why =
      new_slash checks (dots_is g ∙ why.0) (not_long why.2) (there_is g (looks_at why.2)) (slashed ∙ why.1)
  new_explained rose rises checks fault.DirFull why =
      let gives = why.2.gives in
      new_full checks (dots_is g ∙ why.0) (not_long gives) (there_is g (looks_at gives)) (slashed ∙ why.1)
      (full_is g gives.head (looks_at gives).header why.2.full)
  new_explained rose rises checks (fault.Log f) why = rises (why m m keeps has (holder g))
  new_explained rose rises checks other why = absurd why
