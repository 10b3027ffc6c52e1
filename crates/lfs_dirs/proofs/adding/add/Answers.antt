use Rattle.std.proofs.Common.{◌≡◌, length}
use Rattle.std.proofs.lemmas.Result.{on_ok_weaker}
use Rattle.lfs_model.specs.Tree.{slot_len}
use Rattle.lfs_dirs.specs.Adding.{slot_for}
use Rattle.lfs_dirs.proofs.Growths.{slot_grows}
use Rattle.lfs_dirs.proofs.SlotsAdded.{adds, fits_slot}
use Rattle.lfs_dirs.proofs.adding.add.Goals as goal

pub returns-clause-done : goal.returns-clause-done
returns-clause-done g c =
    let is : c.written.result.now ≡ slot_for c.args.header.form c.args.number.value c.args.name.now =
    cc in
    let long : length c.written.result.now ≡ slot_len c.args.header.form = cc in
    on_ok_weaker c.write_at.result
    (λ writes. adds (g.F.Files.state c.args.files.now) (g.F.Files.state c.write_at.new.self) c.args.number.value c.args.name.now
    (fits_slot c.args.header.form c.args.number.value c.args.number.some c.args.number.few c.requires.name) (cc)
    (rw is at writes))
    c.write_at.ensures.done

pub returns-clause-small : goal.returns-clause-small
returns-clause-small g c =
    on_ok_weaker c.write_at.result
    (slot_grows {s = g.F.Files.state c.args.files.now} {s' = g.F.Files.state c.write_at.new.self} {d = c.args.directory.value}
    {head = c.args.header}
    {at = c.args.header.size} {slot = c.written.result.now} cc) c.write_at.ensures.done
