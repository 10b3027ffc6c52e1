-- The words of the lines of a script. What a line is, and its one text, is the model's.
use Rattle.std.specs.Prelude.{◌≢◌, ℕ, List, [], ◌∷◌, codes, decimal}
use Rattle.lfs_model.specs.Call.{Create, Open, Close, Pread, Pwrite, Truncate, Mkdir, LinkTo, Symlink, Readlink, Unlink, Rmdir, Rename}
use Rattle.lfs_model.specs.Call.{StatOf, LstatOf, Readdir, Fsync, Sync, Clean, Space, Version, Upgrade, Widen, ListTree}
use Rattle.lfs_model.specs.Script.{Line, Plain, Fill, InRange, hex, text_of, word}

-- no line has this text
abbrev pub IsUnknown : List ℕ → Type 0
IsUnknown text = (line : Line) → InRange line → text_of line ≢ text

-- a line's words
abbrev pub words_of : Line → List (List ℕ)
words_of (Plain (Create path)) = codes "create" ∷ word path ∷ []
words_of (Plain (Open path)) = codes "open" ∷ word path ∷ []
words_of (Plain (Close handle)) = codes "close" ∷ decimal handle ∷ []
words_of (Plain (Pread handle offset len)) = codes "pread" ∷ decimal handle ∷ decimal offset ∷ decimal len ∷ []
words_of (Plain (Pwrite handle offset bytes)) = codes "pwrite" ∷ decimal handle ∷ decimal offset ∷ hex bytes ∷ []
words_of (Fill handle offset len byte) = codes "fill" ∷ decimal handle ∷ decimal offset ∷ decimal len ∷ decimal byte ∷ []
words_of (Plain (Truncate handle len)) = codes "truncate" ∷ decimal handle ∷ decimal len ∷ []
words_of (Plain (Mkdir path)) = codes "mkdir" ∷ word path ∷ []
words_of (Plain (LinkTo from to)) = codes "link" ∷ word from ∷ word to ∷ []
words_of (Plain (Symlink text path)) = codes "symlink" ∷ word text ∷ word path ∷ []
words_of (Plain (Readlink path)) = codes "readlink" ∷ word path ∷ []
words_of (Plain (Unlink path)) = codes "unlink" ∷ word path ∷ []
words_of (Plain (Rmdir path)) = codes "rmdir" ∷ word path ∷ []
words_of (Plain (Rename from to)) = codes "rename" ∷ word from ∷ word to ∷ []
words_of (Plain (StatOf path)) = codes "stat" ∷ word path ∷ []
words_of (Plain (LstatOf path)) = codes "lstat" ∷ word path ∷ []
words_of (Plain (Readdir path)) = codes "readdir" ∷ word path ∷ []
words_of (Plain (Fsync handle)) = codes "fsync" ∷ decimal handle ∷ []
words_of (Plain Sync) = codes "sync" ∷ []
words_of (Plain Clean) = codes "clean" ∷ []
words_of (Plain Space) = codes "space" ∷ []
words_of (Plain Version) = codes "version" ∷ []
words_of (Plain Upgrade) = codes "upgrade" ∷ []
words_of (Plain (Widen path)) = codes "widen" ∷ word path ∷ []
words_of (Plain ListTree) = codes "tree" ∷ []
