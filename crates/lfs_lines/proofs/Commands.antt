-- The table of commands is whole.
use Rattle.std.proofs.Common.{◌≡◌, ◌≢◌, ℕ, None, IfSome, List, [], ◌∷◌, true, false, ◌∙◌, refl, ⊎_elim, codes}
use Rattle.std.proofs.lemmas.Bool.{cases_Bool}
use Rattle.std.proofs.lemmas.Slice.Eq.{bytes_eq-Decides}
use Rattle.std.specs.Str.{bytes_eq}
use Rattle.lfs_lines.specs.Command.{command_in, command_word}
use Rattle.lfs_lines.specs.declared.command.Command.{Command}
use Rattle.lfs_lines.specs.declared.command.Command.TheVariants.{Create, Open, Close, Pread, Pwrite, Fill, Truncate, Mkdir, Link, Symlink}
use Rattle.lfs_lines.specs.declared.command.Command.TheVariants.{Readlink, Unlink, Rmdir, Rename, Stat, Lstat, Readdir, Fsync, Sync, Clean}
use Rattle.lfs_lines.specs.declared.command.Command.TheVariants.{Space, Version, Upgrade, Widen, Tree}

-- each of these rows has its command's word
abbrev pub AreNamed : List (Command × List ℕ) → Type 0
AreNamed [] = Unit {0}
AreNamed (row ∷ rows) = (command_word row.0 ≡ row.1) × AreNamed rows

-- none of these rows has this word
abbrev pub Lack : List ℕ → List (Command × List ℕ) → Type 0
Lack word [] = Unit {0}
Lack word (row ∷ rows) = (row.1 ≢ word) × Lack word rows

pub found_in : (rows : List (Command × List ℕ)) (word : List ℕ) → AreNamed rows → IfSome (command_in rows word) (λ c. command_word c ≡ word)
found_in [] word named = tt
found_in (row ∷ rows) word named = ⊎_elim
    (λ (same : bytes_eq row.1 word ≡ true). rw same (named.0 ∙ (bytes_eq-Decides row.1 word).0 same))
    (λ (differ : bytes_eq row.1 word ≡ false). rw differ (found_in rows word named.1))
    (cases_Bool (bytes_eq row.1 word))

pub lacks_in : (rows : List (Command × List ℕ)) (word : List ℕ) → command_in rows word ≡ None → Lack word rows
lacks_in [] word none = tt
lacks_in (row ∷ rows) word none = ⊎_elim
    (λ (same : bytes_eq row.1 word ≡ true). absurd (let found = rw same at none in cc))
    (λ (differ : bytes_eq row.1 word ≡ false). (
      λ same. absurd (let is = (bytes_eq-Decides row.1 word).1 same in cc),
      lacks_in rows word (rw differ at none),
    ))
    (cases_Bool (bytes_eq row.1 word))

-- the rows of the table
abbrev pub all_rows : List (Command × List ℕ)
all_rows = (Create, codes "create") ∷ (Open, codes "open") ∷ (Close, codes "close") ∷ (Pread, codes "pread") ∷ (Pwrite, codes "pwrite")
    ∷ (Fill, codes "fill") ∷ (Truncate, codes "truncate") ∷ (Mkdir, codes "mkdir") ∷ (Link, codes "link") ∷ (Symlink, codes "symlink")
    ∷ (Readlink, codes "readlink") ∷ (Unlink, codes "unlink") ∷ (Rmdir, codes "rmdir") ∷ (Rename, codes "rename") ∷ (Stat, codes "stat")
    ∷ (Lstat, codes "lstat") ∷ (Readdir, codes "readdir") ∷ (Fsync, codes "fsync") ∷ (Sync, codes "sync") ∷ (Clean, codes "clean")
    ∷ (Space, codes "space") ∷ (Version, codes "version") ∷ (Upgrade, codes "upgrade") ∷ (Widen, codes "widen") ∷ (Tree, codes "tree") ∷ []

pub all_named : AreNamed all_rows
all_named = (
  refl,
  (
    refl,
    (
      refl,
      (
        refl,
        (
          refl,
          (
            refl,
            (
              refl,
              (
                refl,
                (
                  refl,
                  (
                    refl,
                    (
                      refl,
                      (
                        refl,
                        (
                          refl,
                          (
                            refl,
                            (
                              refl,
                              (
                                refl,
                                (
                                  refl,
                                  (
                                    refl,
                                    (refl, (refl, (refl, (refl, (refl, (refl, (refl, tt))))))),
                                  ),
                                ),
                              ),
                            ),
                          ),
                        ),
                      ),
                    ),
                  ),
                ),
              ),
            ),
          ),
        ),
      ),
    ),
  ),
)

pub lacks_all : (word : List ℕ) → Lack word all_rows → (command : Command) → command_word command ≢ word
lacks_all word h Create = h.0
lacks_all word h Open = h.1.0
lacks_all word h Close = h.1.1.0
lacks_all word h Pread = h.1.1.1.0
lacks_all word h Pwrite = h.1.1.1.1.0
lacks_all word h Fill = h.1.1.1.1.1.0
lacks_all word h Truncate = h.1.1.1.1.1.1.0
lacks_all word h Mkdir = h.1.1.1.1.1.1.1.0
lacks_all word h Link = h.1.1.1.1.1.1.1.1.0
lacks_all word h Symlink = h.1.1.1.1.1.1.1.1.1.0
lacks_all word h Readlink = h.1.1.1.1.1.1.1.1.1.1.0
lacks_all word h Unlink = h.1.1.1.1.1.1.1.1.1.1.1.0
lacks_all word h Rmdir = h.1.1.1.1.1.1.1.1.1.1.1.1.0
lacks_all word h Rename = h.1.1.1.1.1.1.1.1.1.1.1.1.1.0
lacks_all word h Stat = h.1.1.1.1.1.1.1.1.1.1.1.1.1.1.0
lacks_all word h Lstat = h.1.1.1.1.1.1.1.1.1.1.1.1.1.1.1.0
lacks_all word h Readdir = h.1.1.1.1.1.1.1.1.1.1.1.1.1.1.1.1.0
lacks_all word h Fsync = h.1.1.1.1.1.1.1.1.1.1.1.1.1.1.1.1.1.0
lacks_all word h Sync = h.1.1.1.1.1.1.1.1.1.1.1.1.1.1.1.1.1.1.0
lacks_all word h Clean = h.1.1.1.1.1.1.1.1.1.1.1.1.1.1.1.1.1.1.1.0
lacks_all word h Space = h.1.1.1.1.1.1.1.1.1.1.1.1.1.1.1.1.1.1.1.1.0
lacks_all word h Version = h.1.1.1.1.1.1.1.1.1.1.1.1.1.1.1.1.1.1.1.1.1.0
lacks_all word h Upgrade = h.1.1.1.1.1.1.1.1.1.1.1.1.1.1.1.1.1.1.1.1.1.1.0
lacks_all word h Widen = h.1.1.1.1.1.1.1.1.1.1.1.1.1.1.1.1.1.1.1.1.1.1.1.0
lacks_all word h Tree = h.1.1.1.1.1.1.1.1.1.1.1.1.1.1.1.1.1.1.1.1.1.1.1.1.0
