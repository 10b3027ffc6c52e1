-- What a rename's rule says of one state: why the model refuses the call there, or that nothing but the need of space may.
use Rattle.lfs_fs.proofs.Prelude.{◌<◌, ◌≡◌, ◌≢◌, ◌||◌, ◌&&◌, not, ℕ, Bool, true, false, List, length, Option, Some, None, eqb, refl, sym}
use Rattle.lfs_fs.proofs.Prelude.{◌∙◌, ap, subst, inl, inr, arith, ◌==◌, eq-eqb, nat_tests, Answer, Done, Refuse, Rename, IsName, LogMap}
use Rattle.lfs_fs.proofs.Prelude.{Step, name, State, is_dir, links, names, node, FilesState, Last, is_dots, IsChain, here, Object}
use Rattle.lfs_fs.proofs.Prelude.{EntryFault, Source, Target, is_directory}
use Rattle.lfs_fs.proofs.Prelude.{GivesObject, GivesNumber, ChecksRename, HasBothNames, RefusesRename}
use Rattle.lfs_fs.proofs.Prelude.{at_most, not_at_most, IsReached, dots_is, entry_is, free_is, full_is, gives_is, has_piece, holder}
use Rattle.lfs_fs.proofs.Prelude.{kind_is, last_dots_is, links_are, long_is, piece_is, short_is, slash_is, target_is, there_is, IsRename}
use Rattle.lfs_fs.proofs.Prelude.{StopsAt, conditions, rename_stops, shaped_map}
use Rattle.std.proofs.lemmas.Bool.{eqb-true}
use Rattle.lfs_model.specs.Refusal as refusals
use Rattle.lfs_model.specs.Step.{is_there, is_within}
use Rattle.lfs_model.proofs.Shrinking.{named_counts}
use Rattle.lfs_files.specs.Headers.{as_header}
use Rattle.lfs_entries.specs.declared.fault.EntryFault.TheVariants as fault
use Rattle.lfs_entries.specs.Renaming.{FindsSource, FindsTarget, GivesName, IsAbove, IsNotAbove, RefusesNext, RefusesSource, of_first}
use Rattle.lfs_entries.specs.Renaming.{of_second, of_target, of_within}
use Rattle.lfs_entries.specs.Replacing.{FitsFound, RefusesFound, RefusesReplaced, RefusesFull}
use Rattle.lfs_fs.proofs.calls.Files.{Explains}
use Rattle.lfs_steps.proofs.paths.ChainTrees.{above_within, apart_not_within}
use Rattle.lfs_steps.proofs.paths.LastNames.{piece_is_name}
use Rattle.lfs_steps.proofs.rename.Steps.{AreNamed, MayBeNamed, NamesSource, NamesTarget, PassesAll, before_space, passes_new}
use Rattle.lfs_steps.proofs.rename.Steps.{passes_replaced, stops_done, stops_empty, stops_full, stops_is_dir, stops_links, stops_next}
use Rattle.lfs_steps.proofs.rename.Steps.{stops_not_dir, stops_slash, stops_source, stops_within, stops_within_new}
use Rattle.lfs_steps.proofs.rename.Views.{has_entries, no_entries}

other_way : (x y : ℕ) (b : Bool) → eqb x y ≡ b → eqb y x ≡ b
other_way x y true is = eq-eqb y x (sym (eqb-true x y is))
other_way x y false is = grind (arith, nat_tests)

differs : (x y : ℕ) → x ≢ y → eqb x y ≡ false
differs x y ne = grind (arith, nat_tests)

-- In state s the paths of a rename come to these last pieces, which are no dots, and the second's directory to those above it.
pub record AreReached (N : ℕ) (m : LogMap) (s : State) (a b : List ℕ) (da : ℕ) (chain : List ℕ) (l o : Last) : Type 0 where
  pub first : IsReached N m s a da l
  pub second : IsReached N m s b (here chain) o
  pub directories : IsChain s.tree chain
  pub plain : is_dots l.name.now ≡ false
  pub other_plain : is_dots o.name.now ≡ false

module _ {S D : Type 0} (f f' : FilesState S D) {N : ℕ} {m : LogMap} {s : State} {a b : List ℕ} {da : ℕ} {chain : List ℕ} {l o : Last}
    (g : AreReached N m s a b da chain l o) (keeps : f'.device.keeps_model) (has_map : f.has m m) where
  abbrev db : ℕ
  db = here chain

  abbrev Stops : Answer → Type 0
  Stops x = StopsAt (conditions N s a b da db) x

  named : AreNamed N s a b da db
  named = record {
    pieces = λ i. has_piece g.first i || has_piece g.second i;
    names = λ i. (last_dots_is g.first ∙ g.plain) i || (last_dots_is g.second ∙ g.other_plain) i;
  }

  step : {x : Answer} → Stops x → Step N s (Rename a b) x s
  step = rename_stops N s a b da db g.first.walk g.second.walk

  -- ---- the first name gives an object
  module _ {source : Source} (finds : FindsSource f f' da l.name.now l.slash source) where
    abbrev n : ℕ
    n = source.object.number.value

    abbrev on : Bool
    on = is_directory source.object.header.kind

    looks_a : GivesObject m da l.name.now source.holder (Some source.object)
    looks_a = finds.looks m m keeps has_map

    source_is : NamesSource N s a b da db n on
    source_is = record {
      short = short_is g.first source.holder looks_a.looks.header finds.short;
      there = there_is g.first looks_a.looks;
      is = target_is g.first looks_a.looks;
      kind = gives_is g.first looks_a.looks source.object.header looks_a.there;
      ends = ap (λ (x : Bool). x && not on) (slash_is g.first) ∙ finds.plain;
    }

    -- it isn't the root
    inner : n ≢ 1
    inner at =
        let counts = named_counts s.tree da (name a) n (entry_is g.first looks_a.looks) in
        let none : names s.tree n ≡ 0 = ap (names s.tree) at ∙ g.first.map.log.sound.root_unnamed in
        omega (arith, counts, none)

    within_is : IsAbove chain n → is_within s.tree n db ≡ true
    within_is above = above_within N s g.first.map.log.sound chain g.directories n inner above

    within_not : IsNotAbove chain n → is_within s.tree n db ≡ false
    within_not apart = apart_not_within N s g.first.map.log.sound chain g.directories n apart

    -- ---- the second may be its name
    module _ {dest : Target} (also : FindsTarget f f' db o.name.now o.slash source.object.header.kind dest) where
      looks_b : GivesObject m db o.name.now dest.holder dest.replaced
      looks_b = also.looks m m keeps has_map

      may : MayBeNamed N s a b da db on
      may = record {
        short = short_is g.second dest.holder looks_b.looks.header also.is_name.short;
        ends = ap (λ (x : Bool). x && not on) (slash_is g.second) ∙ also.plain;
      }

      -- it gives an object
      module _ (r : Object) (some : dest.replaced ≡ Some r) where
        looks_r : GivesObject m db o.name.now dest.holder (Some r)
        looks_r = subst (GivesObject m db o.name.now dest.holder) some looks_b

        dest_is : NamesTarget N s a b da db r.number.value (is_directory r.header.kind)
        dest_is = record {
          there = there_is g.second looks_r.looks;
          is = target_is g.second looks_r.looks;
          kind = gives_is g.second looks_r.looks r.header looks_r.there;
        }

        kind_r : is_dir (node s.tree r.number.value) ≡ is_directory r.header.kind
        kind_r =
            kind_is g.second dest.holder looks_r.looks.header o.name.now (sym looks_r.looks.gives) r.header looks_r.there

        module _ (other : GivesName (Some r) n ≡ false) where
          not_same : (n == r.number.value) ≡ false
          not_same = other_way r.number.value n false other

          within_r : IsAbove chain n → Stops (Refuse refusals.Inval)
          within_r above = stops_within named source_is may dest_is not_same (within_is above)

          module _ (apart : IsNotAbove chain n) where
            replaced_explained : (rose : Type 0) (why : EntryFault) → RefusesReplaced source.object.header.kind r.header why
                → Explains (Rename a b) N s rose why
            replaced_explained rose fault.IsDir why =
                step (stops_is_dir named source_is may dest_is not_same (within_not apart) why.0 why.1)
            replaced_explained rose fault.NotDir why =
                step (stops_not_dir named source_is may dest_is not_same (within_not apart) why.0 why.1)
            replaced_explained rose fault.NotEmpty why =
                step (stops_empty named source_is may dest_is not_same (within_not apart) why.0 why.1 (has_entries g.second.map r.header
                (g.second.headers r.number.value (as_header r.header) looks_r.there) looks_r.there kind_r why.0 why.2))
            replaced_explained rose other why = absurd why

            passes_r : FitsFound (Some r) source dest → PassesAll (before_space N s a b da db)
            passes_r fits = passes_replaced named source_is may dest_is not_same (within_not apart) fits.same
                (no_entries g.second.map r.header (g.second.headers r.number.value (as_header r.header) looks_r.there) looks_r.there kind_r
                (λ dir. fits.empty (sym fits.same ∙ dir)))

      -- it gives none
      module _ (none : dest.replaced ≡ None) where
        looks_none : GivesNumber m db o.name.now dest.holder None
        looks_none = (subst (GivesObject m db o.name.now dest.holder) none looks_b).looks

        new : is_there s.tree db b ≡ false
        new = there_is g.second looks_none

        within_none : IsAbove chain n → Stops (Refuse refusals.Inval)
        within_none above = stops_within_new named source_is may new (within_is above)

        elsewhere : (da ≢ db) → source.directory.value ≢ dest.directory.value
        elsewhere ne same = ne (sym finds.directory ∙ same ∙ also.directory)

        module _ (apart : IsNotAbove chain n) where
          room_explained : (rose : Type 0) → source.directory.value ≢ dest.directory.value → (why : EntryFault)
              → RefusesFull source.object.header.kind dest.holder why → Explains (Rename a b) N s rose why
          room_explained rose ne fault.DirFull why = step (stops_full named source_is may new (within_not apart)
              (differs da db (λ same. ne (finds.directory ∙ same ∙ sym also.directory)))
              (full_is g.second dest.holder looks_none.header why))
          room_explained rose ne fault.TooManyLinks why = step (stops_links named source_is may new (within_not apart)
              (differs da db (λ same. ne (finds.directory ∙ same ∙ sym also.directory)))
              (free_is g.second dest.holder looks_none.header why.0) why.1
              (at_most 1000 (links s.tree db)
              (let same = links_are g.second dest.holder looks_none.header in let many = why.2 in omega (arith, same, many))))
          room_explained rose ne other why = absurd why

          passes_none : FitsFound None source dest → PassesAll (before_space N s a b da db)
          passes_none fits = passes_new named source_is may new (within_not apart)
              (λ ne. free_is g.second dest.holder looks_none.header (fits (elsewhere ne)).size)
              (λ ne dir. not_at_most 1000 (links s.tree db)
              (let same = links_are g.second dest.holder looks_none.header in
              let few = (fits (elsewhere ne)).links dir in omega (arith, same, few)))

  -- ---- why it is refused
  module _ (rose : Type 0) (rises : f.device.failures < f'.device.failures → rose) where
    first_explained : (why : EntryFault) → RefusesSource f f' da l.name.now l.slash why → Explains (Rename a b) N s rose why
    first_explained fault.NameTooLong why = step (stops_source named
        (inl (long_is g.first why.head (why.header m m keeps has_map) why.long, refl)))
    first_explained fault.NoEntry why =
        let looks = why.looks m m keeps has_map in
        step (stops_source named (inr (
          short_is g.first why.head looks.header why.short,
          inl (ap not (there_is g.first looks), refl),
        )))
    first_explained fault.NotDir why =
        let head = why.entry.holder in
        let x = why.entry.object in
        let looks = why.looks m m keeps has_map in
        step (stops_source named (inr (
          short_is g.first head looks.looks.header why.short,
          inr (
            ap not (there_is g.first looks.looks),
            inl (
              (λ i. slash_is g.first i && not (gives_is g.first looks.looks x.header looks.there i)) ∙ why.is,
              refl,
            ),
          ),
        )))
    first_explained (fault.Log why) fails = rises (fails m m keeps has_map (holder g.first))
    first_explained other why = absurd why

    module _ {source : Source} (finds : FindsSource f f' da l.name.now l.slash source) where
      next_explained : (why : EntryFault) → RefusesNext f f' db o.name.now o.slash source.object.header.kind why
          → Explains (Rename a b) N s rose why
      next_explained fault.NameTooLong why = step (stops_next named (source_is finds)
          (inl (long_is g.second why.head (why.header m m keeps has_map) why.long, refl)))
      next_explained fault.NotDir why =
          let gives = why.1.1 in
          let looks = gives.looks m m keeps has_map in
          step (stops_slash named (source_is finds) (short_is g.second gives.head looks.header gives.short)
          (ap (λ (x : Bool). x && not (is_directory source.object.header.kind)) (slash_is g.second) ∙ why.0))
      next_explained (fault.Log why) fails = rises (fails (λ len short. subst (IsName len) (piece_is g.second)
          (piece_is_name N s g.second.map.log.sound b db g.second.walk (dots_is g.second ∙ g.other_plain) len
          (let same = ap length (piece_is g.second) in omega (arith, same, short)))) m m keeps has_map (holder g.second))
      next_explained other why = absurd why

      module _ {dest : Target} (also : FindsTarget f f' db o.name.now o.slash source.object.header.kind dest)
          (other : GivesName dest.replaced source.object.number.value ≡ false) where
        within_by : (found : Option Object) → dest.replaced ≡ found → IsAbove chain source.object.number.value
            → Stops (Refuse refusals.Inval)
        within_by None none above = within_none finds also none above
        within_by (Some r) some above = within_r finds also r some
            (subst (λ (x : Option Object). GivesName x source.object.number.value ≡ false) some other) above

        target_by : (found : Option Object) → dest.replaced ≡ found → IsNotAbove chain source.object.number.value → (why : EntryFault)
            → RefusesFound found source dest why → Explains (Rename a b) N s rose why
        target_by None none apart why refuses =
            room_explained finds also none apart rose refuses.0 why refuses.1
        target_by (Some r) some apart why refuses = replaced_explained finds also r some
            (subst (λ (x : Option Object). GivesName x source.object.number.value ≡ false) some other) apart rose why refuses

    pub rename_explained : (why : EntryFault) → RefusesRename f f' da l.name.now l.slash chain o.name.now o.slash why
        → Explains (Rename a b) N s rose why
    rename_explained why (of_first refuses) = first_explained why refuses
    rename_explained why (of_second source finds refuses) = next_explained finds why refuses
    rename_explained why (of_within source dest both other above is) = subst (Explains (Rename a b) N s rose) (sym is)
        (step (within_by both.first both.second other dest.replaced refl above))
    rename_explained why (of_target source dest both other apart refuses) =
        target_by both.first both.second other dest.replaced refl apart why refuses

  -- ---- both names give one object
  pub same_step : HasBothNames f f' da l.name.now l.slash chain o.name.now o.slash → Step N s (Rename a b) Done s
  same_step has = by has.target.replaced refl has.same
    where
      by : (found : Option Object) → has.target.replaced ≡ found → GivesName found has.source.object.number.value ≡ true
          → Step N s (Rename a b) Done s
      by None none is = absurd (let wrong : false ≡ true = is in cc)
      by (Some r) some is = step (stops_done named (source_is has.both.first) (may has.both.first has.both.second)
          (dest_is has.both.first has.both.second r some) (other_way r.number.value has.source.object.number.value true is))

  -- ---- nothing but the need of space may refuse it
  module _ {source : Source} {dest : Target} (checks : ChecksRename f f' da l.name.now l.slash chain o.name.now o.slash source dest) where
    abbrev first : FindsSource f f' da l.name.now l.slash source
    first = checks.both.first

    abbrev second : FindsTarget f f' db o.name.now o.slash source.object.header.kind dest
    second = checks.both.second

    passes_by : (found : Option Object) → dest.replaced ≡ found → GivesName found source.object.number.value ≡ false
        → FitsFound found source dest → PassesAll (before_space N s a b da db)
    passes_by None none other fits = passes_none first second none checks.apart fits
    passes_by (Some r) some other fits = passes_r first second r some other checks.apart fits

    pub passes : PassesAll (before_space N s a b source.directory.value dest.directory.value)
    passes = subst (λ (q : ℕ). PassesAll (before_space N s a b q dest.directory.value)) (sym first.directory)
        (subst (λ (q : ℕ). PassesAll (before_space N s a b da q)) (sym second.directory)
        (passes_by dest.replaced refl checks.other checks.fits))

    pub renames : IsRename N m s a b l o source dest
    renames = record {
      first = subst (λ (q : ℕ). IsReached N m s a q l) (sym first.directory) g.first;
      second = subst (λ (q : ℕ). IsReached N m s b q o) (sym second.directory) g.second;
      shaped = shaped_map N g.first.map g.first.headers;
      named_a = first.named;
      named_b = second.named;
      looks_a = subst (λ (q : ℕ). GivesObject m q l.name.now source.holder (Some source.object)) (sym first.directory) (looks_a first);
      looks_b = subst (λ (q : ℕ). GivesObject m q o.name.now dest.holder dest.replaced) (sym second.directory) (looks_b first second);
      apart = checks.other;
      fits = checks.fits;
    }
