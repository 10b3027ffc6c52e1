-- The text of a piece.
use Rattle.std.specs.Prelude.{ℕ, List, decimal}
use Rattle.lfs_model.specs.Script.{hex, word}
use Rattle.lfs_replies.specs.declared.piece.Piece.{Piece}
use Rattle.lfs_replies.specs.declared.piece.Piece.TheVariants.{Text, Number, Hex, Escaped}

abbrev pub piece_text : Piece → List ℕ
piece_text (Text text) = text.now
piece_text (Number number) = decimal number
piece_text (Hex bytes) = hex bytes.now
piece_text (Escaped bytes) = word bytes.now
