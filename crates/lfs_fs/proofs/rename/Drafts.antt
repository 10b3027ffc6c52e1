-- What a rename drafted, as one change of the log map: that of the state after the call.
use Rattle.lfs_fs.proofs.Prelude.{◌≡◌, ◌≢◌, ℕ, Bool, true, false, List, Option, Some, None, refl, sym, ◌∙◌, ap, cond, subst, inl, inr}
use Rattle.lfs_fs.proofs.Prelude.{⊎_elim, eqb, arith, cases_eq, eq-eqb, nat_tests, IsDirectory, LogMap, name, State, FilesState, Last}
use Rattle.lfs_fs.proofs.Prelude.{Object, Source, Target, IsOpen, IsShut, piece_is, IsRename}
use Rattle.std.proofs.lemmas.Bool.Decides.{eqb_tells}
use Rattle.lfs_model.specs.Entry as entry
use Rattle.lfs_files.specs.Headers.{as_header}
use Rattle.lfs_path.specs.dirs.Taking.{TakesName}
use Rattle.lfs_entries.specs.Moving.{AreRelinked, HasMoved, LostFound, NamedFound, fewer_links, first_holder, more_links, second_holder}
use Rattle.lfs_entries.specs.OldNames.{Untied}
use Rattle.lfs_steps.proofs.rename.Maps.{IsMoved, free_moved, over_moved}
use Rattle.lfs_steps.proofs.volume.LostLinks.{loses_name}
use Rattle.lfs_steps.proofs.volume.LostNames.{LosesName}
use Rattle.lfs_steps.proofs.volume.MovedMaps.{DraftsMove}

differs : (x y : ℕ) → x ≢ y → eqb x y ≡ false
differs x y ne = grind (arith, nat_tests)

module _ {N : ℕ} {m : LogMap} {s : State} {a b : List ℕ} {l o : Last} {source : Source} {dest : Target}
    (g : IsRename N m s a b l o source dest) where
  abbrev da : ℕ
  da = source.directory.value

  abbrev db : ℕ
  db = dest.directory.value

  abbrev n : ℕ
  n = source.object.number.value

  name_a : source.name.now ≡ name a
  name_a = g.named_a ∙ sym (piece_is g.first)

  name_b : dest.name.now ≡ name b
  name_b = g.named_b ∙ sym (piece_is g.second)

  -- ---- the links of both directories, and the first name

  -- Both directories get their links, first the one and then the other; then the first name goes.
  record AreSteps (m1 m3 m4 : LogMap) : Type 0 where
    between : LogMap
    drafts : DraftsMove m1 between m3 m4 da db source.holder dest.holder (fewer_links source dest) (more_links source dest) (name a)

  module _ {m1 m3 m4 : LogMap} (links : AreRelinked m1 m3 source dest)
      (untied : Untied m3 m4 da (first_holder source dest) source.name.now) where
    takes : IsDirectory m3 da (as_header (first_holder source dest)) → TakesName m3 m4 da (first_holder source dest) (name a)
    takes directory = subst (TakesName m3 m4 da (first_holder source dest)) name_a (untied.names directory)

    one : da ≡ db → AreSteps m1 m3 m4
    one same = record {
      between = m3;
      drafts = record {
        first = inr record {
          own = links.first;
          version = links.version;
          others = λ k other. links.others k other (λ is. other (is ∙ sym same));
          block = links.block;
        };
        second = inr (same, refl);
        cut = λ file. untied.cut;
        takes = λ file. takes;
      };
    }

    two : da ≢ db → AreSteps m1 m3 m4
    two ne = record {
      between = half;
      drafts = record {
        first = inr record {
          own = ap (λ (v : Bool). cond v first (m1.header da)) (eq-eqb da da refl);
          version = refl;
          others = λ k other. ap (λ (v : Bool). cond v first (m1.header k)) (differs k da other);
          block = λ k i. refl;
        };
        second = inl (
          ne,
          inr record {
            own = links.second ne;
            version = links.version;
            others = λ k other. ⊎_elim
                (λ (here : (eqb k da ≡ true) × (k ≡ da)). ap m3.header here.1 ∙ links.first
                ∙ sym (ap (λ (v : Bool). cond v first (m1.header k)) here.0))
                (λ (off : (eqb k da ≡ false) × (k ≢ da)). links.others k off.1 other
                ∙ sym (ap (λ (v : Bool). cond v first (m1.header k)) off.0))
                (eqb_tells k da);
            block = links.block;
          },
        );
        cut = λ file. untied.cut;
        takes = λ file. takes;
      };
    }
      where
        first : Option entry.Header
        first = Some (as_header (first_holder source dest))

        half : LogMap
        half = record { header = λ k. cond (eqb k da) first (m1.header k); block = m1.block; version = m1.version }

    steps : AreSteps m1 m3 m4
    steps = ⊎_elim one two (cases_eq da db)

  -- ---- what is replaced
  module _ (is_open : Bool) (held : is_open ≡ true → IsOpen s.handles dest.replaced)
      (shut : is_open ≡ false → IsShut s.handles dest.replaced)
    where
      loses_by : (r : Object) → dest.replaced ≡ Some r → (m1 : LogMap) → LostFound (Some r) is_open m m1
          → LosesName s m m1 r.number.value (as_header r.header)
      loses_by r some m1 = loses_name s m m1 r.number.value r.header is_open
          (λ on. subst (IsOpen s.handles) some (held on)) (λ off plain. subst (IsShut s.handles) some (shut off))

      -- ---- all of it
      module _ {S D : Type 0} {files : FilesState S D} (moved : HasMoved files m m source dest is_open) where
        drafted : AreSteps moved.lost moved.linked moved.taken
        drafted = steps moved.links moved.untied

        moved_by : (found : Option Object) → dest.replaced ≡ found → LostFound found is_open m moved.lost
            → NamedFound found moved.taken moved.map db (second_holder source dest) n (name b) → IsMoved N moved.map s a b da db
        moved_by None none same names = free_moved g none
            (subst (λ (x : LogMap). DraftsMove x drafted.between moved.linked moved.taken da db source.holder dest.holder
            (fewer_links source dest) (more_links source dest) (name a)) same drafted.drafts)
            record { at = _; slot = _; writes = names.file; adds = names.more }
        moved_by (Some r) some loses names = over_moved g r some (loses_by r some moved.lost loses) drafted.drafts
            record { at = _; slot = _; writes = names.file; repoints = names.names }

        pub moved_map : IsMoved N moved.map s a b da db
        moved_map = moved_by dest.replaced refl moved.loses
            (subst (NamedFound dest.replaced moved.taken moved.map db (second_holder source dest) n) name_b moved.named)
