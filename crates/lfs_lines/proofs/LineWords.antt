-- A text is a line's exactly where it is cut into the line's words.
use Rattle.std.proofs.Common.{◌≡◌, ◌≢◌, ℕ, true, List, ◌∷◌, Result, Ok, Err, IfOk, IsTrue, refl, sym, ap, ◌∙◌, arith}
use Rattle.lfs_model.specs.Call as call
use Rattle.lfs_model.specs.Run.{has_word}
use Rattle.lfs_model.specs.Script.{Line, Plain, Fill, InRange, text_of}
use Rattle.lfs_model.proofs.WordTexts.{all_solid, solid-decimal, solid-hex, solid-word}
use Rattle.lfs_words.specs.Cuts.{spaced, cut}
use Rattle.lfs_words.proofs.Cuts.{cut-spaced, spaced-cut}
use Rattle.lfs_lines.specs.Lines.{IsUnknown, words_of}
use Rattle.lfs_lines.specs.Calls.{line_for}
use Rattle.lfs_lines.specs.Command.{command_word}
use Rattle.lfs_lines.specs.declared.call.Call.{Call}
use Rattle.lfs_lines.specs.declared.command.Command.{Command}
use Rattle.lfs_lines.specs.declared.command.Command.TheVariants as commands

-- ---- the words of a line have no spaces

solid-line : (line : Line) → InRange line → all_solid (words_of line) ≡ true
solid-line (Plain (call.Create path)) fits = rw (solid-word path) refl
solid-line (Plain (call.Open path)) fits = rw (solid-word path) refl
solid-line (Plain (call.Close handle)) fits = rw (solid-decimal handle (omega (arith, fits))) refl
solid-line (Plain (call.Pread handle offset len)) fits =
    rw (solid-decimal handle (omega (arith, fits.0)), solid-decimal offset fits.1, solid-decimal len (omega (arith, fits.2))) refl
solid-line (Plain (call.Pwrite handle offset bytes)) fits =
    rw (solid-decimal handle (omega (arith, fits.0)), solid-decimal offset fits.1, solid-hex bytes) refl
solid-line (Fill handle offset len byte) fits = rw (
  solid-decimal handle (omega (arith, fits.0)),
  solid-decimal offset fits.1,
  solid-decimal len (omega (arith, fits.2)),
  solid-decimal byte (omega (arith, fits.3)),
) refl
solid-line (Plain (call.Truncate handle len)) fits = rw (solid-decimal handle (omega (arith, fits.0)), solid-decimal len fits.1) refl
solid-line (Plain (call.Mkdir path)) fits = rw (solid-word path) refl
solid-line (Plain (call.LinkTo from to)) fits = rw (solid-word from, solid-word to) refl
solid-line (Plain (call.Symlink text path)) fits = rw (solid-word text, solid-word path) refl
solid-line (Plain (call.Readlink path)) fits = rw (solid-word path) refl
solid-line (Plain (call.Unlink path)) fits = rw (solid-word path) refl
solid-line (Plain (call.Rmdir path)) fits = rw (solid-word path) refl
solid-line (Plain (call.Rename from to)) fits = rw (solid-word from, solid-word to) refl
solid-line (Plain (call.StatOf path)) fits = rw (solid-word path) refl
solid-line (Plain (call.LstatOf path)) fits = rw (solid-word path) refl
solid-line (Plain (call.Readdir path)) fits = rw (solid-word path) refl
solid-line (Plain (call.Fsync handle)) fits = rw (solid-decimal handle (omega (arith, fits))) refl
solid-line (Plain call.Sync) fits = refl
solid-line (Plain call.Clean) fits = refl
solid-line (Plain call.Space) fits = refl
solid-line (Plain call.Version) fits = refl
solid-line (Plain call.Upgrade) fits = refl
solid-line (Plain (call.Widen path)) fits = rw (solid-word path) refl
solid-line (Plain call.ListTree) fits = refl

-- its text is its words'
text_is : (line : Line) → text_of line ≡ spaced (words_of line)
text_is (Plain (call.Create path)) = refl
text_is (Plain (call.Open path)) = refl
text_is (Plain (call.Close handle)) = refl
text_is (Plain (call.Pread handle offset len)) = refl
text_is (Plain (call.Pwrite handle offset bytes)) = refl
text_is (Fill handle offset len byte) = refl
text_is (Plain (call.Truncate handle len)) = refl
text_is (Plain (call.Mkdir path)) = refl
text_is (Plain (call.LinkTo from to)) = refl
text_is (Plain (call.Symlink text path)) = refl
text_is (Plain (call.Readlink path)) = refl
text_is (Plain (call.Unlink path)) = refl
text_is (Plain (call.Rmdir path)) = refl
text_is (Plain (call.Rename from to)) = refl
text_is (Plain (call.StatOf path)) = refl
text_is (Plain (call.LstatOf path)) = refl
text_is (Plain (call.Readdir path)) = refl
text_is (Plain (call.Fsync handle)) = refl
text_is (Plain call.Sync) = refl
text_is (Plain call.Clean) = refl
text_is (Plain call.Space) = refl
text_is (Plain call.Version) = refl
text_is (Plain call.Upgrade) = refl
text_is (Plain (call.Widen path)) = refl
text_is (Plain call.ListTree) = refl

-- it begins with a command's word
command_of_line : (line : Line) → (command : Command) × (words : List (List ℕ)) × (words_of line ≡ command_word command ∷ words)
command_of_line (Plain (call.Create path)) = (commands.Create, _, refl)
command_of_line (Plain (call.Open path)) = (commands.Open, _, refl)
command_of_line (Plain (call.Close handle)) = (commands.Close, _, refl)
command_of_line (Plain (call.Pread handle offset len)) = (commands.Pread, _, refl)
command_of_line (Plain (call.Pwrite handle offset bytes)) = (commands.Pwrite, _, refl)
command_of_line (Fill handle offset len byte) = (commands.Fill, _, refl)
command_of_line (Plain (call.Truncate handle len)) = (commands.Truncate, _, refl)
command_of_line (Plain (call.Mkdir path)) = (commands.Mkdir, _, refl)
command_of_line (Plain (call.LinkTo from to)) = (commands.Link, _, refl)
command_of_line (Plain (call.Symlink text path)) = (commands.Symlink, _, refl)
command_of_line (Plain (call.Readlink path)) = (commands.Readlink, _, refl)
command_of_line (Plain (call.Unlink path)) = (commands.Unlink, _, refl)
command_of_line (Plain (call.Rmdir path)) = (commands.Rmdir, _, refl)
command_of_line (Plain (call.Rename from to)) = (commands.Rename, _, refl)
command_of_line (Plain (call.StatOf path)) = (commands.Stat, _, refl)
command_of_line (Plain (call.LstatOf path)) = (commands.Lstat, _, refl)
command_of_line (Plain (call.Readdir path)) = (commands.Readdir, _, refl)
command_of_line (Plain (call.Fsync handle)) = (commands.Fsync, _, refl)
command_of_line (Plain call.Sync) = (commands.Sync, _, refl)
command_of_line (Plain call.Clean) = (commands.Clean, _, refl)
command_of_line (Plain call.Space) = (commands.Space, _, refl)
command_of_line (Plain call.Version) = (commands.Version, _, refl)
command_of_line (Plain call.Upgrade) = (commands.Upgrade, _, refl)
command_of_line (Plain (call.Widen path)) = (commands.Widen, _, refl)
command_of_line (Plain call.ListTree) = (commands.Tree, _, refl)

line-cut : (line : Line) → InRange line → cut (text_of line) ≡ words_of line
line-cut line fits =
    let has = command_of_line line in
    let solid : all_solid (command_word has.0 ∷ has.1) ≡ true = ap all_solid (sym has.2) ∙ solid-line line fits in
    ap cut (text_is line ∙ ap spaced has.2) ∙ cut-spaced (command_word has.0) has.1 solid ∙ sym has.2

-- a text is a line's exactly where its words are
same_text : (line : Line) (text : List ℕ) → words_of line ≡ cut text → text_of line ≡ text
same_text line text e = text_is line ∙ ap spaced e ∙ spaced-cut text

same_words : (line : Line) {text : List ℕ} → InRange line → text_of line ≡ text → words_of line ≡ cut text
same_words line fits e = sym (line-cut line fits) ∙ ap cut e

-- ---- the words of a text that begin with a command's

pub ok_text : {E : Type 0} (r : Result Call E) (text : List ℕ) {words : List (List ℕ)} → cut text ≡ words
    → IfOk r (λ call. words_of (line_for call) ≡ words)
    → IfOk r (λ call. text_of (line_for call) ≡ text)
ok_text (Ok c) text e h = same_text (line_for c) text (h ∙ sym e)
ok_text (Err f) text e h = tt

pub bad_text : (text : List ℕ) {words : List (List ℕ)} → cut text ≡ words → ((line : Line) → InRange line → words_of line ≢ words)
    → IsUnknown text
bad_text text e h line fits same = h line fits (same_words line fits same ∙ e)

pub found_text : {text : List ℕ} {words : List (List ℕ)} → cut text ≡ words → (line : Line) × InRange line × IsTrue (has_word line)
    × (words_of line ≡ words)
    → (line : Line) × InRange line × IsTrue (has_word line) × (text_of line ≡ text)
found_text {text} e h = (h.0, h.1, h.2, same_text h.0 text (h.3 ∙ sym e))

-- a text whose first word is no command's
pub no_command : (word : List ℕ) (rest : List (List ℕ)) → ((command : Command) → command_word command ≢ word) → (line : Line) → InRange line
    → words_of line ≢ word ∷ rest
no_command word rest h line fits e =
    let has = command_of_line line in
    let both : command_word has.0 ∷ has.1 ≡ word ∷ rest = sym has.2 ∙ e in
    h has.0 (cc)
