use Rattle.std.proofs.lemmas.Result.{IfErr-weaker, err_from_is_err_and}
use Rattle.std.proofs.Common.{◌≡◌, ◌∙◌, rules, subst}
use Rattle.std.specs.Prelude.{IfErr, if◌then◌else◌, ◌==◌}
use Rattle.lfs_files.specs.declared.header.Header.{Header}
use Rattle.lfs_files.proofs.FilesCompose.{redrafts_more}
use Rattle.lfs_path.specs.dirs.Taking.{CountsDropped, Takes, shrunk}
use Rattle.lfs_entries.specs.Drafting.{HasNamed}
use Rattle.lfs_entries.specs.Moving.{HasFoundName, NamesFound, second_holder}
use Rattle.lfs_entries.specs.Telling.{FailsWhere}
use Rattle.lfs_entries.proofs.Moves.{later_fits, move_counted, move_drafted, move_names_not, move_takes_not, ok_both, ok_one}
use Rattle.lfs_entries.proofs.moving.draft_move.Goals as goal

pub returns-in_err-take_name-clause-failed : goal.returns-in_err-take_name-clause-failed
returns-in_err-take_name-clause-failed g c =
    let p = err_from_is_err_and c.from_residual-in_err-take_name.result c.from_residual-in_err-take_name.ensures.1 in rw (p.1, p.2)
    (move_takes_not (g.F.Files.state c.args.files.now) (g.F.Files.state c.drop_replaced.new.files)
    (g.F.Files.state c.relink_holders.new.files)
    (g.F.Files.state c.take_name.new.files) c.args.source c.args.target c.args.is_open c.drop_replaced.ensures.only.redrafts
    c.relink_holders.ensures.redrafts c.take_name.ensures.only.redrafts c.in_ok-drop_replaced.ensures.done c.in_ok-from.ensures.done
    c.in_err-take_name.field-0.0
    (subst (λ (h : Header). FailsWhere (g.F.Files.state c.relink_holders.new.files) (g.F.Files.state c.take_name.new.files)
    (HasNamed c.args.source.directory.value h c.args.source.name.now) c.in_err-take_name.field-0.0) c.in_ok-from.ensures.first
    c.in_err-take_name.ensures.failed))

pub draft_target-requires-clause-size : goal.draft_target-requires-clause-size
draft_target-requires-clause-size g c =
    (later_fits c.requires.may c.in_ok-from.ensures.first c.in_ok-from.ensures.second c.later_holder-holder.ensures).size

pub draft_target-requires-clause-room : goal.draft_target-requires-clause-room
draft_target-requires-clause-room g c =
    (later_fits c.requires.may c.in_ok-from.ensures.first c.in_ok-from.ensures.second c.later_holder-holder.ensures).room

pub draft_target-requires-clause-name : goal.draft_target-requires-clause-name
draft_target-requires-clause-name g c =
    (later_fits c.requires.may c.in_ok-from.ensures.first c.in_ok-from.ensures.second c.later_holder-holder.ensures).is_name

pub returns-clause-done : goal.returns-clause-done
returns-clause-done g c =
    let holder : c.later_holder-holder.result ≡ second_holder c.args.source c.args.target = c.later_holder-holder.ensures
    ∙ (λ i. if c.args.source.directory.value == c.args.target.directory.value then shrunk (c.in_ok-from.ensures.first i)
    else c.in_ok-from.ensures.second i) in
    ok_one c.draft_target.result _ _
    (λ named. move_drafted (g.F.Files.state c.args.files.now) (g.F.Files.state c.drop_replaced.new.files)
    (g.F.Files.state c.relink_holders.new.files)
    (g.F.Files.state c.take_name.new.files) c.args.source c.args.target c.args.is_open c.drop_replaced.ensures.only.redrafts
    c.relink_holders.ensures.redrafts c.take_name.ensures.only.redrafts c.in_ok-drop_replaced.ensures.done c.in_ok-from.ensures.done
    (subst (λ (h : Header). Takes (g.F.Files.state c.relink_holders.new.files) (g.F.Files.state c.take_name.new.files)
    c.args.source.directory.value h c.args.source.name.now) c.in_ok-from.ensures.first c.in_ok-take_name.ensures.done)
    (g.F.Files.state c.draft_target.new.files) c.draft_target.ensures.only.redrafts
    (subst (λ (h : Header). NamesFound (g.F.Files.state c.take_name.new.files) (g.F.Files.state c.draft_target.new.files)
    c.args.target.replaced c.args.target.directory.value h c.args.source.object.number.value c.args.target.name.now) holder named))
    c.draft_target.ensures.done

pub returns-clause-counted : goal.returns-clause-counted
returns-clause-counted g c =
    let holder : c.later_holder-holder.result ≡ second_holder c.args.source c.args.target = c.later_holder-holder.ensures
    ∙ (λ i. if c.args.source.directory.value == c.args.target.directory.value then shrunk (c.in_ok-from.ensures.first i)
    else c.in_ok-from.ensures.second i) in
    ok_both c.draft_target.result _ _ _
    (λ named counted. move_counted (g.F.Files.state c.args.files.now) (g.F.Files.state c.drop_replaced.new.files)
    (g.F.Files.state c.relink_holders.new.files)
    (g.F.Files.state c.take_name.new.files) c.args.source c.args.target c.args.is_open c.drop_replaced.ensures.only.redrafts
    c.relink_holders.ensures.redrafts c.take_name.ensures.only.redrafts c.in_ok-drop_replaced.ensures.done c.in_ok-from.ensures.done
    (subst (λ (h : Header). Takes (g.F.Files.state c.relink_holders.new.files) (g.F.Files.state c.take_name.new.files)
    c.args.source.directory.value h c.args.source.name.now) c.in_ok-from.ensures.first c.in_ok-take_name.ensures.done)
    (g.F.Files.state c.draft_target.new.files) c.draft_target.ensures.only.redrafts
    (subst (λ (h : Header). NamesFound (g.F.Files.state c.take_name.new.files) (g.F.Files.state c.draft_target.new.files)
    c.args.target.replaced c.args.target.directory.value h c.args.source.object.number.value c.args.target.name.now) holder named)
    c.requires.may.from_size
    (subst (λ (h : Header). CountsDropped (g.F.Files.state c.relink_holders.new.files) (g.F.Files.state c.take_name.new.files)
    c.args.source.directory.value h) c.in_ok-from.ensures.first c.in_ok-take_name.ensures.counted) counted)
    c.draft_target.ensures.done c.draft_target.ensures.counted

pub returns-clause-failed : goal.returns-clause-failed
returns-clause-failed g c =
    let holder : c.later_holder-holder.result ≡ second_holder c.args.source c.args.target = c.later_holder-holder.ensures
    ∙ (λ i. if c.args.source.directory.value == c.args.target.directory.value then shrunk (c.in_ok-from.ensures.first i)
    else c.in_ok-from.ensures.second i) in
    IfErr-weaker c.draft_target.result _ _
    (move_names_not (g.F.Files.state c.args.files.now) (g.F.Files.state c.drop_replaced.new.files)
    (g.F.Files.state c.relink_holders.new.files)
    (g.F.Files.state c.take_name.new.files) c.args.source c.args.target c.args.is_open c.drop_replaced.ensures.only.redrafts
    c.relink_holders.ensures.redrafts c.take_name.ensures.only.redrafts c.in_ok-drop_replaced.ensures.done c.in_ok-from.ensures.done
    (subst (λ (h : Header). Takes (g.F.Files.state c.relink_holders.new.files) (g.F.Files.state c.take_name.new.files)
    c.args.source.directory.value h c.args.source.name.now) c.in_ok-from.ensures.first c.in_ok-take_name.ensures.done)
    c.draft_target.ensures.only.redrafts) (subst (λ (h : Header).
    IfErr c.draft_target.result (FailsWhere (g.F.Files.state c.take_name.new.files) (g.F.Files.state c.draft_target.new.files)
    (HasFoundName c.args.target.replaced c.args.target.directory.value h c.args.target.name.now))) holder c.draft_target.ensures.failed)

pub returns-clause-only : goal.returns-clause-only
returns-clause-only g c = record {
  redrafts = redrafts_more (g.met.F.Files.lawful c.args.files.now) c.drop_replaced.ensures.only.redrafts
      (redrafts_more (g.met.F.Files.lawful c.drop_replaced.new.files) c.relink_holders.ensures.redrafts
      (redrafts_more (g.met.F.Files.lawful c.relink_holders.new.files) c.take_name.ensures.only.redrafts
      c.draft_target.ensures.only.redrafts));
  halted = search rules;
  other = search rules;
}
