use Rattle.std.proofs.Common.{rules, ◌≡◌, Err, ◌∷◌, codes, ap, refl}
use Rattle.lfs_words.specs.declared.word.WordFault.TheVariants.{Memory}
use Rattle.lfs_model.specs.Call.{Create, LinkTo, LstatOf, Mkdir, Open, Pwrite, Readdir, Readlink, Rename, Rmdir, StatOf, Symlink, Unlink}
use Rattle.lfs_model.specs.Call.{Widen}
use Rattle.lfs_model.specs.Script.{Plain}
use Rattle.lfs_lines.proofs.call.call_of.Goals as goal

pub returns-in_err-path-in-Create-clause-memory : goal.returns-in_err-path-in-Create-clause-memory
returns-in_err-path-in-Create-clause-memory c = λ e.
    let refused : c.path.result ≡ Err Memory = search rules in
    let found = c.path.ensures.memory refused in
    (Plain (Create found.0), found.1, refl, rw c.in-Create.is (ap (λ words. codes "create" ∷ words) found.2))

pub returns-in_err-path-in-Open-clause-memory : goal.returns-in_err-path-in-Open-clause-memory
returns-in_err-path-in-Open-clause-memory c = λ e.
    let refused : c.path-in-Open.result ≡ Err Memory = search rules in
    let found = c.path-in-Open.ensures.memory refused in
    (Plain (Open found.0), found.1, refl, rw c.in-Open.is (ap (λ words. codes "open" ∷ words) found.2))

pub returns-in_err-handle-in-Pwrite-clause-memory : goal.returns-in_err-handle-in-Pwrite-clause-memory
returns-in_err-handle-in-Pwrite-clause-memory c = λ e.
    let refused : c.pwrite.result ≡ Err Memory = search rules in
    let found = c.pwrite.ensures.memory refused in (
      Plain (Pwrite found.0 found.1 found.2),
      (found.3, found.4, found.5),
      refl,
      rw c.in-Pwrite.is (ap (λ words. codes "pwrite" ∷ words) found.6),
    )

pub returns-in_err-path-in-Stat-clause-memory : goal.returns-in_err-path-in-Stat-clause-memory
returns-in_err-path-in-Stat-clause-memory c = λ e.
    let refused : c.path-in-Stat.result ≡ Err Memory = search rules in
    let found = c.path-in-Stat.ensures.memory refused in
    (Plain (StatOf found.0), found.1, refl, rw c.in-Stat.is (ap (λ words. codes "stat" ∷ words) found.2))

pub returns-in_err-path-in-Mkdir-clause-memory : goal.returns-in_err-path-in-Mkdir-clause-memory
returns-in_err-path-in-Mkdir-clause-memory c = λ e.
    let refused : c.path-in-Mkdir.result ≡ Err Memory = search rules in
    let found = c.path-in-Mkdir.ensures.memory refused in
    (Plain (Mkdir found.0), found.1, refl, rw c.in-Mkdir.is (ap (λ words. codes "mkdir" ∷ words) found.2))

pub returns-in_err-path-in-Readlink-clause-memory : goal.returns-in_err-path-in-Readlink-clause-memory
returns-in_err-path-in-Readlink-clause-memory c = λ e.
    let refused : c.path-in-Readlink.result ≡ Err Memory = search rules in
    let found = c.path-in-Readlink.ensures.memory refused in
    (Plain (Readlink found.0), found.1, refl, rw c.in-Readlink.is (ap (λ words. codes "readlink" ∷ words) found.2))

pub returns-in_err-path-in-Lstat-clause-memory : goal.returns-in_err-path-in-Lstat-clause-memory
returns-in_err-path-in-Lstat-clause-memory c = λ e.
    let refused : c.path-in-Lstat.result ≡ Err Memory = search rules in
    let found = c.path-in-Lstat.ensures.memory refused in
    (Plain (LstatOf found.0), found.1, refl, rw c.in-Lstat.is (ap (λ words. codes "lstat" ∷ words) found.2))

pub returns-in_err-path-in-Readdir-clause-memory : goal.returns-in_err-path-in-Readdir-clause-memory
returns-in_err-path-in-Readdir-clause-memory c = λ e.
    let refused : c.path-in-Readdir.result ≡ Err Memory = search rules in
    let found = c.path-in-Readdir.ensures.memory refused in
    (Plain (Readdir found.0), found.1, refl, rw c.in-Readdir.is (ap (λ words. codes "readdir" ∷ words) found.2))

pub returns-in_err-path-in-Widen-clause-memory : goal.returns-in_err-path-in-Widen-clause-memory
returns-in_err-path-in-Widen-clause-memory c = λ e.
    let refused : c.path-in-Widen.result ≡ Err Memory = search rules in
    let found = c.path-in-Widen.ensures.memory refused in
    (Plain (Widen found.0), found.1, refl, rw c.in-Widen.is (ap (λ words. codes "widen" ∷ words) found.2))

pub returns-in_err-text-in-Symlink-clause-memory : goal.returns-in_err-text-in-Symlink-clause-memory
returns-in_err-text-in-Symlink-clause-memory c = λ e.
    let refused : c.two_words-in-Symlink.result ≡ Err Memory = search rules in
    let found = c.two_words-in-Symlink.ensures.memory refused in
    (Plain (Symlink found.0 found.1), (found.2, found.3), refl, rw c.in-Symlink.is (ap (λ words. codes "symlink" ∷ words) found.4))

pub returns-in_err-from-in-Link-clause-memory : goal.returns-in_err-from-in-Link-clause-memory
returns-in_err-from-in-Link-clause-memory c = λ e.
    let refused : c.two_words.result ≡ Err Memory = search rules in
    let found = c.two_words.ensures.memory refused in
    (Plain (LinkTo found.0 found.1), (found.2, found.3), refl, rw c.in-Link.is (ap (λ words. codes "link" ∷ words) found.4))

pub returns-in_err-path-in-Unlink-clause-memory : goal.returns-in_err-path-in-Unlink-clause-memory
returns-in_err-path-in-Unlink-clause-memory c = λ e.
    let refused : c.path-in-Unlink.result ≡ Err Memory = search rules in
    let found = c.path-in-Unlink.ensures.memory refused in
    (Plain (Unlink found.0), found.1, refl, rw c.in-Unlink.is (ap (λ words. codes "unlink" ∷ words) found.2))

pub returns-in_err-path-in-Rmdir-clause-memory : goal.returns-in_err-path-in-Rmdir-clause-memory
returns-in_err-path-in-Rmdir-clause-memory c = λ e.
    let refused : c.path-in-Rmdir.result ≡ Err Memory = search rules in
    let found = c.path-in-Rmdir.ensures.memory refused in
    (Plain (Rmdir found.0), found.1, refl, rw c.in-Rmdir.is (ap (λ words. codes "rmdir" ∷ words) found.2))

pub returns-in_err-from-in-Rename-clause-memory : goal.returns-in_err-from-in-Rename-clause-memory
returns-in_err-from-in-Rename-clause-memory c = λ e.
    let refused : c.two_words-in-Rename.result ≡ Err Memory = search rules in
    let found = c.two_words-in-Rename.ensures.memory refused in
    (Plain (Rename found.0 found.1), (found.2, found.3), refl, rw c.in-Rename.is (ap (λ words. codes "rename" ∷ words) found.4))
