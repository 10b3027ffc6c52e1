-- What a run of a script takes of its reader and gives its writer, by the way that it ends. The language is an own choice.
use Rattle.std.specs.Prelude.{◌≡◌, ◌≢◌, ◌⊎◌, ◌+◌, ◌-◌, ◌^◌, ◌<◌, ◌≤◌, ℕ, Option, List, [], ◌∷◌, ◌++◌, All, length, flat_map}
use Rattle.std.specs.Io.KnownBytes.{Appends, Consumes, IsAtEnd}
use Rattle.lfs_model.specs.declared.limits.TheConstants.{LONGEST_LINE}
use Rattle.lfs_model.specs.Call.{Answer}
use Rattle.lfs_model.specs.Script.{Line, Spells, bad, ended, lines, reply}
use Rattle.lfs_script.specs.declared.script.ScriptEnd.{ScriptEnd}
use Rattle.lfs_script.specs.declared.script.ScriptEnd.TheVariants.{Done, BadLine, Read, Write, Memory}

-- each text spells its line
abbrev pub AreSpelled : List (List ℕ) → List Line → Type 0
AreSpelled [] [] = Unit {0}
AreSpelled (text ∷ texts) (line ∷ rest) = Spells text line × AreSpelled texts rest
AreSpelled _ _ = ⊥

-- bytes without a newline
abbrev pub IsText : List ℕ → Type 0
IsText = All (λ b. b ≢ 10)

-- texts, each with its newline
abbrev pub ended_texts : List (List ℕ) → List ℕ
ended_texts = flat_map ended

abbrev pub replies : List Answer → List ℕ
replies = flat_map reply

-- no line of a script has this text
abbrev pub IsBadText : List ℕ → Type 0
IsBadText text = (line : Line) → ¬ Spells text line

-- The bytes of a bad line, with what was read behind them: a newline, or nothing
-- at the end of the input. Of a line that is too long they are a beginning.
pub record IsBadLine (text more : List ℕ) (left : Option (List ℕ)) : Type 0 where
  pub plain : IsText text
  pub is_bad : (LONGEST_LINE < length text)
      ⊎ (IsBadText text × (((rest : List ℕ) × (more ≡ 10 ∷ rest)) ⊎ ((more ≡ []) × (0 < length text) × IsAtEnd left)))

-- these bytes went out, and then a beginning of those, which isn't all
abbrev pub AppendsTo : Option (List ℕ) → Option (List ℕ) → List ℕ → List ℕ → Type 0
AppendsTo old new whole bytes = (part : List ℕ) × (rest : List ℕ) × (part ++ rest ≡ bytes) × (rest ≢ [])
    × Appends old new (whole ++ part)

-- the input ends with a newline, or there is nothing behind it
abbrev pub EndsWithLine : List ℕ → List ℕ → Option (List ℕ) → Type 0
EndsWithLine input more left = ((front : List ℕ) × (input ≡ front ++ 10 ∷ [])) ⊎ ((more ≡ []) × IsAtEnd left)

-- The last reply went out in part, and not whole; the lines are all those of the input, each of them whole, and more may have been read.
pub record StopsInReply (r r' w w' : Option (List ℕ)) (texts : List (List ℕ)) (answers : List Answer) : Type 0 where
  pub input : List ℕ
  pub more : List ℕ
  pub before : List Answer
  pub last : Answer
  pub cut : lines input ≡ texts
  pub whole : EndsWithLine input more r'
  pub read : Consumes r r' (input ++ more)
  pub all : answers ≡ before ++ last ∷ []
  pub written : AppendsTo w w' (replies before) (reply last)

-- All replies went out, and the one to a bad line in part, and not whole.
pub record StopsInBad (r r' w w' : Option (List ℕ)) (texts : List (List ℕ)) (answers : List Answer) : Type 0 where
  pub text : List ℕ
  pub more : List ℕ
  pub line : IsBadLine text more r'
  pub read : Consumes r r' (ended_texts texts ++ (text ++ more))
  pub written : AppendsTo w w' (replies answers) (bad (length texts + 1))

-- What each end says: of these texts the calls were made, and these are their answers.
abbrev pub EndOf : ScriptEnd → Option (List ℕ) → Option (List ℕ) → Option (List ℕ) → Option (List ℕ) → List (List ℕ) → List Answer → Type 0
-- the input is read to its end, and each of its lines has its reply
EndOf Done r r' w w' texts answers = (input : List ℕ) × Consumes r r' input × IsAtEnd r' × (lines input ≡ texts)
    × Appends w w' (replies answers)
EndOf (BadLine n) r r' w w' texts answers = (n ≡ length texts + 1) × (text : List ℕ) × (more : List ℕ) × IsBadLine text more r'
    × Consumes r r' (ended_texts texts ++ (text ++ more)) × Appends w w' (replies answers ++ bad n)
-- no further line was whole in what was read; or so many lines were read as have a number
EndOf Read r r' w w' texts answers = (part : List ℕ) × (IsText part ⊎ (2 ^ 64 - 2 ≤ length texts))
    × Consumes r r' (ended_texts texts ++ part) × Appends w w' (replies answers)
EndOf Write r r' w w' texts answers = StopsInReply r r' w w' texts answers ⊎ StopsInBad r r' w w' texts answers
-- nothing was read or written
EndOf Memory r r' w w' texts answers = (r' ≡ r) × (w' ≡ w) × (texts ≡ [])
