pub mod Numbers
pub mod Sent
pub mod Pieces
pub mod Digits
pub mod Escapes
pub mod PieceTexts
pub mod Spellings
pub mod Cuts
