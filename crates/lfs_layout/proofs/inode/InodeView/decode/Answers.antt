use Rattle.std.proofs.Common.{◌≡◌, ◌∷◌, [], get_or, sym, ap, ◌∙◌, arith, None}
use Rattle.lfs_model.specs.declared.Kind.{Kind}
use Rattle.lfs_model.specs.Inode.{kind_byte}
use Rattle.lfs_model.specs.Inode.{inode_of, kind_of}
use Rattle.lfs_model.proofs.Numbers.{le32_inj}
use Rattle.lfs_model.specs.Fields.{read32}
use Rattle.lfs_model.proofs.Parts.{le32_of_read, one_byte, read32-lt}
use Rattle.lfs_model.proofs.Runs.{length-run, numbers_fit, words_of_numbers}
use Rattle.lfs_model.proofs.InodePlaces.{form_at, reads_from, reads_to, kind_at, same_kind, size_fits}
use Rattle.lfs_model.proofs.Decoding.{inode_is, inode_some}
use Rattle.lfs_layout.proofs.inode.InodeView.decode.Goals as goal

pub returns-in_default-clause-none : goal.returns-in_default-clause-none
returns-in_default-clause-none c v fits is = c.in_default.ensures.none v.kind (reads_from v fits is).kind

pub returns-then-not-is_zero_at-clause-none : goal.returns-then-not-is_zero_at-clause-none
returns-then-not-is_zero_at-clause-none c v fits is =
    let yes = c.is_zero_at.ensures.1 (reads_from v fits is).gap in
    cc

pub returns-then-not-is_form-clause-none : goal.returns-then-not-is_form-clause-none
returns-then-not-is_form-clause-none c v fits is =
    let r = reads_from v fits is in
    let k : c.in-Some.kind ≡ v.kind = same_kind c.in-Some.kind v.kind (sym c.in-Some.ensures.found ∙ r.kind) in
    let f : get_or c.args.sector.now 1 0 ≡ v.form = form_at c.args.sector.now v.form (omega arith) r.form in
    let yes = c.is_form.ensures.1 (rw (k, f) fits.form) in
    cc

pub returns-then-not-is_within-clause-none : goal.returns-then-not-is_within-clause-none
returns-then-not-is_within-clause-none c v fits is =
    let n = c.number32_at-number.result in
    let r = reads_from v fits is in
    let e : n ≡ v.number = le32_inj n c.number32_at-number.type_inv (omega (arith, fits.number.1))
    (c.number32_at-number.ensures.spelled ∙ r.number) in
    let yes = c.is_within.ensures.1 (rw e fits.number) in
    cc

pub returns-then-not-is_within-2-clause-none : goal.returns-then-not-is_within-2-clause-none
returns-then-not-is_within-2-clause-none c v fits is =
    let n = c.number32_at-links.result in
    let r = reads_from v fits is in
    let e : n ≡ v.links =
    le32_inj n c.number32_at-links.type_inv (omega (arith, fits.links.1)) (c.number32_at-links.ensures.spelled ∙ r.links) in
    let yes = c.is_within-2.ensures.1 (rw e fits.links) in
    cc

pub returns-then-not-is_size-clause-none : goal.returns-then-not-is_size-clause-none
returns-then-not-is_size-clause-none c v fits is =
    let n = c.number32_at-size.result in
    let r = reads_from v fits is in
    let k : c.in-Some.kind ≡ v.kind = same_kind c.in-Some.kind v.kind (sym c.in-Some.ensures.found ∙ r.kind) in
    let e : n ≡ v.size = le32_inj n c.number32_at-size.type_inv (size_fits v fits) (c.number32_at-size.ensures.spelled ∙ r.size) in
    let f : get_or c.args.sector.now 1 0 ≡ v.form = form_at c.args.sector.now v.form (omega arith) r.form in
    let yes = c.is_size.ensures.1 (rw (f, k, e) fits.size) in
    cc

pub returns-then-not-is_zero_at-2-clause-none : goal.returns-then-not-is_zero_at-2-clause-none
returns-then-not-is_zero_at-2-clause-none c v fits is =
    let yes = c.is_zero_at-2.ensures.1 (reads_from v fits is).gap2 in
    cc

pub returns-then-not-is_zero_at-3-clause-none : goal.returns-then-not-is_zero_at-3-clause-none
returns-then-not-is_zero_at-3-clause-none c v fits is =
    let yes = c.is_zero_at-3.ensures.1 (reads_from v fits is).rest in
    cc

pub returns-clause-found : goal.returns-clause-found
returns-clause-found c =
    let s = c.args.sector.now in
    let bytes = c.fits-sector in
    let kind : kind_of (get_or s 0 0) ≡ c.in-Some.kind = kind_at s c.in-Some.kind (omega arith) c.in-Some.ensures.found in
    let number = c.is_within.ensures.0 c.if-not-is_within.false in
    let links = c.is_within-2.ensures.0 c.if-not-is_within-2.false in
    let form = c.is_form.ensures.0 c.if-not-is_form.false in
    let size = c.is_size.ensures.0 c.if-not-is_size.false in (
      record {
        number = rw (← c.number32_at-number.ensures.read) number;
        links = rw (← c.number32_at-links.ensures.read) links;
        form = rw kind form;
        size = rw (kind, ← c.number32_at-size.ensures.read) size;
        direct_length = length-run read32 4 112 32 s;
        direct_fits = numbers_fit 112 32 s bytes (omega arith);
        single_fits = read32-lt 480 s bytes (omega arith);
        double_fits = read32-lt 484 s bytes (omega arith);
      },
      reads_to s (inode_of s) c.told-sector record {
        kind = c.in-Some.ensures.found ∙ ap (λ (k : Kind). kind_byte k ∷ []) (sym kind);
        form = one_byte 1 s (omega arith);
        gap = c.is_zero_at.ensures.0 c.if-not-is_zero_at.false;
        number = sym (le32_of_read 4 s bytes (omega arith));
        links = sym (le32_of_read 8 s bytes (omega arith));
        size = sym (le32_of_read 12 s bytes (omega arith));
        gap2 = c.is_zero_at-2.ensures.0 c.if-not-is_zero_at-2.false;
        direct = sym (words_of_numbers 112 32 s bytes (omega arith));
        single = sym (le32_of_read 480 s bytes (omega arith));
        double = sym (le32_of_read 484 s bytes (omega arith));
        rest = c.is_zero_at-3.ensures.0 c.if-not-is_zero_at-3.false;
      },
    )

pub returns-in_default-clause-exact : goal.returns-in_default-clause-exact
returns-in_default-clause-exact c =
    inode_is c.args.sector.now c.fits-sector c.told-sector None tt (λ v fits is. returns-in_default-clause-none c v fits is)

pub returns-then-not-is_zero_at-clause-exact : goal.returns-then-not-is_zero_at-clause-exact
returns-then-not-is_zero_at-clause-exact c =
    inode_is c.args.sector.now c.fits-sector c.told-sector None tt (λ v fits is. returns-then-not-is_zero_at-clause-none c v fits is)

pub returns-then-not-is_form-clause-exact : goal.returns-then-not-is_form-clause-exact
returns-then-not-is_form-clause-exact c =
    inode_is c.args.sector.now c.fits-sector c.told-sector None tt (λ v fits is. returns-then-not-is_form-clause-none c v fits is)

pub returns-then-not-is_within-clause-exact : goal.returns-then-not-is_within-clause-exact
returns-then-not-is_within-clause-exact c =
    inode_is c.args.sector.now c.fits-sector c.told-sector None tt (λ v fits is. returns-then-not-is_within-clause-none c v fits is)

pub returns-then-not-is_within-2-clause-exact : goal.returns-then-not-is_within-2-clause-exact
returns-then-not-is_within-2-clause-exact c =
    inode_is c.args.sector.now c.fits-sector c.told-sector None tt (λ v fits is. returns-then-not-is_within-2-clause-none c v fits is)

pub returns-then-not-is_size-clause-exact : goal.returns-then-not-is_size-clause-exact
returns-then-not-is_size-clause-exact c =
    inode_is c.args.sector.now c.fits-sector c.told-sector None tt (λ v fits is. returns-then-not-is_size-clause-none c v fits is)

pub returns-then-not-is_zero_at-2-clause-exact : goal.returns-then-not-is_zero_at-2-clause-exact
returns-then-not-is_zero_at-2-clause-exact c =
    inode_is c.args.sector.now c.fits-sector c.told-sector None tt (λ v fits is. returns-then-not-is_zero_at-2-clause-none c v fits is)

pub returns-then-not-is_zero_at-3-clause-exact : goal.returns-then-not-is_zero_at-3-clause-exact
returns-then-not-is_zero_at-3-clause-exact c =
    inode_is c.args.sector.now c.fits-sector c.told-sector None tt (λ v fits is. returns-then-not-is_zero_at-3-clause-none c v fits is)

pub returns-clause-exact : goal.returns-clause-exact
returns-clause-exact c = let found = returns-clause-found c in sym (inode_some c.args.sector.now _ found.0 found.1)
