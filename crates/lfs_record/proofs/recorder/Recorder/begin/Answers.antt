use Rattle.std.proofs.Common.{◌≡◌, ◌∙◌, ℕ, List, Err, None, Ok, Some, ap, map, min, subst, sym}
use Rattle.std.proofs.lemmas.Result.{err_from_is_err_and}
use Rattle.lfs_fs.specs.Answers.{entry_of}
use Rattle.lfs_fs.specs.Seen.{seen}
use Rattle.lfs_fs.specs.entries.declared.rows.ListedEntry.{ListedEntry}
use Rattle.lfs_record.specs.Asking.{BeginsOn, TakesFile}
use Rattle.lfs_record.specs.Beginning.{begun}
use Rattle.lfs_record.specs.Files.{newest}
use Rattle.lfs_record.specs.Names.{is_name, number_of}
use Rattle.lfs_record.specs.declared.recorder.TheConstants.{MOST_BYTES}
use Rattle.lfs_record.proofs.Begun.{begins_anew, begins_by, begins_not, not_listed}
use Rattle.lfs_record.proofs.Scanning.{newest_named}
use Rattle.lfs_record.proofs.recorder.Recorder.begin.Goals as goal

pub returns-in_err-entries : goal.returns-in_err-entries
returns-in_err-entries g c =
    let p = err_from_is_err_and c.from_residual.result c.from_residual.ensures.1 in rw (p.1, p.2)
    (not_listed g.D.SectorDevice.state _ _ (min c.args.bytes MOST_BYTES) c.args.files c.in_err-entries.field-0.0 c.in_err-entries.ensures)

pub returns-in_default : goal.returns-in_default
returns-in_default g c =
    subst (λ (n : ℕ). BeginsOn g.D.SectorDevice.state (seen c.args.fs.now) (seen c.readdir.new.self)
    (min c.args.bytes MOST_BYTES) c.args.files
    (Ok (begun n c.args.files 0 None))) (sym c.min-bytes.ensures)
    (begins_anew g.D.SectorDevice.state _ _ (min c.args.bytes MOST_BYTES) c.args.files (map entry_of c.in_ok-entries.entries.items)
    c.in_ok-entries.ensures
    (subst (λ (l : List ListedEntry). newest (map entry_of l) ≡ None) c.as_slice.ensures.value c.in_default.ensures))

pub number_of-number-requires : goal.number_of-number-requires
number_of-number-requires g c =
    ap is_name c.as_slice-2.ensures.value
    ∙ newest_named (map entry_of c.as_slice.result.now) (entry_of c.in-Some.entry.now) c.in-Some.ensures

pub take_up-requires : goal.take_up-requires
take_up-requires g c =
    ap is_name c.as_slice-3.ensures.value
    ∙ newest_named (map entry_of c.as_slice.result.now) (entry_of c.in-Some.entry.now) c.in-Some.ensures

pub returns-in_err-present : goal.returns-in_err-present
returns-in_err-present g c =
    let p = err_from_is_err_and c.from_residual-in_err-present.result c.from_residual-in_err-present.ensures.1 in rw (p.1, p.2)
    (begins_not g.D.SectorDevice.state _ _ (min c.args.bytes MOST_BYTES) c.args.files (map entry_of c.in_ok-entries.entries.items)
    c.in_ok-entries.ensures _ (entry_of c.in-Some.entry.now)
    (subst (λ (l : List ListedEntry). newest (map entry_of l) ≡ Some (entry_of c.in-Some.entry.now)) c.as_slice.ensures.value
    c.in-Some.ensures)
    c.in_err-present.field-0.0
    (subst (λ (n : List ℕ). TakesFile g.D.SectorDevice.state (seen c.readdir.new.self) (seen c.take_up.new.fs) n
    (Err c.in_err-present.field-0.0)) c.as_slice-3.ensures.value c.in_err-present.ensures))

pub returns : goal.returns
returns g c =
    let number : number_of c.in-Some.entry.now.name.items ≡ c.number_of-number.result =
    sym (c.number_of-number.ensures.value ∙ ap number_of c.as_slice-2.ensures.value) in
    subst (λ (n : ℕ). BeginsOn g.D.SectorDevice.state (seen c.args.fs.now) (seen c.take_up.new.fs)
    (min c.args.bytes MOST_BYTES) c.args.files
    (Ok (begun n c.args.files c.number_of-number.result c.in_ok-present.present))) (sym c.min-bytes.ensures)
    (subst (λ (n : ℕ). BeginsOn g.D.SectorDevice.state (seen c.args.fs.now) (seen c.take_up.new.fs)
    (min c.args.bytes MOST_BYTES) c.args.files
    (Ok (begun (min c.args.bytes MOST_BYTES) c.args.files n c.in_ok-present.present))) number
    (begins_by g.D.SectorDevice.state _ _ (min c.args.bytes MOST_BYTES) c.args.files (map entry_of c.in_ok-entries.entries.items)
    c.in_ok-entries.ensures _ (entry_of c.in-Some.entry.now)
    (subst (λ (l : List ListedEntry). newest (map entry_of l) ≡ Some (entry_of c.in-Some.entry.now)) c.as_slice.ensures.value
    c.in-Some.ensures)
    c.in_ok-present.present
    (subst (λ (n : List ℕ). TakesFile g.D.SectorDevice.state (seen c.readdir.new.self) (seen c.take_up.new.fs) n
    (Ok c.in_ok-present.present)) c.as_slice-3.ensures.value c.in_ok-present.ensures)))
