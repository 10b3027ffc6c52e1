use Rattle.std.proofs.Common.{◌≡◌, true, false, refl}
use Rattle.lfs_store.proofs.Acceptings.{commits_log, readies_saves}
use Rattle.lfs_store.proofs.Endings.{exit_is, committed_halted, committed_saved, still_unsaved}
use Rattle.lfs_store.proofs.store.Store.commit.Goals as goal

pub returns-then-is_halted : goal.returns-then-is_halted
returns-then-is_halted g c = committed_halted (cc)

pub returns-then-is_saved : goal.returns-then-is_saved
returns-then-is_saved g c =
    committed_saved (g.met.D.SectorDevice.lawful _) (cc) (cc)

pub returns-in_err-commit : goal.returns-in_err-commit
returns-in_err-commit g c =
    let running : c.args.self.now.log.halted ≡ false = cc in
    let unsaved : c.args.self.now.log.saved ≡ false = cc in
    rw (exit_is c.from_residual.ensures) (record {
      keeps = record { draft = refl; totals = c.in_err-commit.ensures.totals; drafted = refl };
      done = tt;
      ready = tt;
      saved = tt;
      saves = tt;
      same =
          still_unsaved _ _ _ unsaved c.in_err-commit.ensures.full c.in_err-commit.ensures.other
          (λ e. (c.in_err-commit.ensures.halted e (λ (t : c.args.self.now.log.halted ≡ true). absurd (cc))).unsaved);
      full = c.in_err-commit.ensures.full;
      unsaved = λ e. unsaved;
      other = c.in_err-commit.ensures.other;
      halted = c.in_err-commit.ensures.halted;
      still = λ t. absurd (cc);
      quiet = λ all. absurd (cc);
      told = c.in_err-commit.ensures.told;
      tells = c.in_err-commit.ensures.tells;
    })

pub returns : goal.returns
returns g c =
    let running : c.args.self.now.log.halted ≡ false = cc in
    let unsaved : c.args.self.now.log.saved ≡ false = cc in
    record {
      keeps = record { draft = refl; totals = c.in_ok-commit.ensures.totals; drafted = refl };
      done = commits_log running unsaved c.in_ok-commit.ensures.done;
      ready = readies_saves unsaved c.in_ok-commit.ensures.done c.in_ok-commit.ensures.totals;
      saved = c.in_ok-commit.ensures.done.saved;
      saves = λ was. c.in_ok-commit.ensures.done;
      same = tt;
      full = λ e. absurd (cc);
      unsaved = λ e. absurd (cc);
      other = λ e. absurd (cc);
      halted = λ e. absurd (cc);
      still = λ t. absurd (cc);
      quiet = λ all. absurd (cc);
      told = c.in_ok-commit.ensures.told;
      tells = c.in_ok-commit.ensures.tells;
    }
