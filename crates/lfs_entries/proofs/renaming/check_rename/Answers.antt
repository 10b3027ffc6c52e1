use Rattle.std.proofs.lemmas.Result.{err_from_is_err_and}
use Rattle.std.proofs.Common.{ℕ, refl, subst, sym, ◌∙◌}
use Rattle.lfs_path.specs.Trees.{here}
use Rattle.lfs_entries.specs.Renaming.{FindsTarget, RefusesNext, of_first, of_second, of_target, of_within}
use Rattle.lfs_entries.proofs.Renames.{both_found, never_two, next_behind, source_still}
use Rattle.lfs_entries.proofs.renaming.check_rename.Goals as goal

pub returns-in_err-source-clause-refused : goal.returns-in_err-source-clause-refused
returns-in_err-source-clause-refused g c =
    let p = err_from_is_err_and c.from_residual.result c.from_residual.ensures.1 in rw (p.1, p.2) (of_first c.in_err-source.ensures.refused)

pub returns-in_err-target-clause-refused : goal.returns-in_err-target-clause-refused
returns-in_err-target-clause-refused g c =
    let p = err_from_is_err_and c.from_residual-in_err-target.result c.from_residual-in_err-target.ensures.1 in rw (p.1, p.2)
    (let s = g.F.Files.state c.args.files.now in
    let a = g.F.Files.state c.find_source.new.files in
    let b = g.F.Files.state c.find_target.new.files in
    of_second c.in_ok-source.source (source_still c.in_ok-source.ensures.only.reads c.in_err-target.ensures.only.reads
    c.in_ok-source.ensures.found)
    (next_behind c.in_ok-source.ensures.only.reads c.in_err-target.ensures.only.reads (here c.args.chain) c.args.to.name.now c.args.to.slash
    c.in_ok-source.source.object.header.kind c.in_err-target.field-0.0
    (subst (λ (d : ℕ). RefusesNext a b d c.args.to.name.now c.args.to.slash c.in_ok-source.source.object.header.kind
    c.in_err-target.field-0.0) c.directory.ensures.value c.in_err-target.ensures.refused)))

-- a directory of a volume has one form
pub returns-then-has_two_forms-clause-refused : goal.returns-then-has_two_forms-clause-refused
returns-then-has_two_forms-clause-refused g c =
    let two = c.has_two_forms.ensures.two c.if-has_two_forms.true in
    of_second c.in_ok-source.source (source_still c.in_ok-source.ensures.only.reads c.in_ok-target.ensures.only.reads
    c.in_ok-source.ensures.found)
    (λ may. never_two c.in_ok-source.ensures.only.reads c.in_ok-target.ensures.only.reads c.in_ok-source.ensures.found
    (subst (λ (d : ℕ). FindsTarget (g.F.Files.state c.find_source.new.files) (g.F.Files.state c.find_target.new.files) d c.args.to.name.now
    c.args.to.slash c.in_ok-source.source.object.header.kind c.in_ok-target.target) c.directory.ensures.value
    c.in_ok-target.ensures.found) two.0 two.1)

pub returns-then-is_object-clause-taken : goal.returns-then-is_object-clause-taken
returns-then-is_object-clause-taken g c = record {
  source = c.in_ok-source.source;
  target = c.in_ok-target.target;
  both = both_found c.in_ok-source.ensures.only.reads c.in_ok-target.ensures.only.reads c.in_ok-source.ensures.found (subst
      (λ (d : ℕ). FindsTarget (g.F.Files.state c.find_source.new.files) (g.F.Files.state c.find_target.new.files) d c.args.to.name.now
      c.args.to.slash c.in_ok-source.source.object.header.kind c.in_ok-target.target) c.directory.ensures.value
      c.in_ok-target.ensures.found);
  same = sym c.is_object.ensures ∙ c.if-is_object.true;
}

pub returns-then-stands_in-clause-refused : goal.returns-then-stands_in-clause-refused
returns-then-stands_in-clause-refused g c =
    of_within c.in_ok-source.source c.in_ok-target.target (both_found c.in_ok-source.ensures.only.reads c.in_ok-target.ensures.only.reads
    c.in_ok-source.ensures.found
    (subst (λ (d : ℕ). FindsTarget (g.F.Files.state c.find_source.new.files) (g.F.Files.state c.find_target.new.files) d c.args.to.name.now
    c.args.to.slash c.in_ok-source.source.object.header.kind c.in_ok-target.target) c.directory.ensures.value
    c.in_ok-target.ensures.found))
    (sym c.is_object.ensures ∙ c.if-is_object.false) (c.stands_in.ensures.above c.if-stands_in.true) refl

pub returns-in_err-check_target-clause-refused : goal.returns-in_err-check_target-clause-refused
returns-in_err-check_target-clause-refused g c =
    let p = err_from_is_err_and c.from_residual-in_err-check_target.result c.from_residual-in_err-check_target.ensures.1 in rw (p.1, p.2)
    (of_target c.in_ok-source.source c.in_ok-target.target (both_found c.in_ok-source.ensures.only.reads c.in_ok-target.ensures.only.reads
    c.in_ok-source.ensures.found
    (subst (λ (d : ℕ). FindsTarget (g.F.Files.state c.find_source.new.files) (g.F.Files.state c.find_target.new.files) d c.args.to.name.now
    c.args.to.slash c.in_ok-source.source.object.header.kind c.in_ok-target.target) c.directory.ensures.value
    c.in_ok-target.ensures.found))
    (sym c.is_object.ensures ∙ c.if-is_object.false) (c.stands_in.ensures.apart c.if-stands_in.false)
    c.in_err-check_target.ensures.refused)

pub returns-clause-taken : goal.returns-clause-taken
returns-clause-taken g c = record {
  both = both_found c.in_ok-source.ensures.only.reads c.in_ok-target.ensures.only.reads c.in_ok-source.ensures.found (subst
      (λ (d : ℕ). FindsTarget (g.F.Files.state c.find_source.new.files) (g.F.Files.state c.find_target.new.files) d c.args.to.name.now
      c.args.to.slash c.in_ok-source.source.object.header.kind c.in_ok-target.target) c.directory.ensures.value
      c.in_ok-target.ensures.found);
  form = c.has_two_forms.ensures.one c.if-has_two_forms.false;
  other = sym c.is_object.ensures ∙ c.if-is_object.false;
  apart = c.stands_in.ensures.apart c.if-stands_in.false;
  fits = c.in_ok-check_target.ensures.taken;
}
