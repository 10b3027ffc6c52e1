use Rattle.std.proofs.Common.{rules, ◌≡◌, ◌≢◌, [], ◌∷◌, true, false}
use Rattle.lfs_words.specs.Words.{is_pairs}
use Rattle.lfs_words.proofs.Spellings.{not_hex, pairs_hex, decoded_hex}
use Rattle.lfs_words.proofs.hexadecimal.read_hex.Goals as goal

pub returns-then-not-is_pairs : goal.returns-then-not-is_pairs
returns-then-not-is_pairs c =
    let not : is_pairs c.args.word.now ≡ false = search rules in
    let apart : c.args.word.now ≢ 45 ∷ [] = search rules in
    record { ok = tt; bytes = tt; spelling = λ e. not_hex c.args.word.now not apart; memory = λ e. absurd (cc) }

pub returns-in-Ok : goal.returns-in-Ok
returns-in-Ok c =
    let are : is_pairs c.args.word.now ≡ true = search rules in
    let decoded = decoded_hex c.args.word.now are c.in-Ok.ensures.ok in
    record { ok = decoded.1; bytes = decoded.0; spelling = λ e. absurd (cc); memory = λ e. absurd (cc) }

pub returns-in-Err : goal.returns-in-Err
returns-in-Err c =
    let are : is_pairs c.args.word.now ≡ true = search rules in
    record { ok = tt; bytes = tt; spelling = λ e. absurd (cc); memory = λ e. pairs_hex c.args.word.now are }
