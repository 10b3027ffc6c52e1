-- How a script goes on by a line, and how it ends.
use Rattle.std.proofs.Common.{◌≡◌, ◌≢◌, ◌==◌, Bool, true, false, ◌+◌, ◌-◌, ◌^◌, ◌<◌, ◌≤◌, inl, inr, ℕ, Option, Some, None, Ok, List, []}
use Rattle.std.proofs.Common.{◌∷◌, ◌++◌, ◌⊎◌, length, length-append, refl, sym, ◌∙◌, ap, subst, append_assoc, arith}
use Rattle.std.specs.Prelude.{IsTrue}
use Rattle.std.proofs.lemmas.Bool.Decides.{nat_tests}
use Rattle.std.proofs.lemmas.List.{append-nil}
use Rattle.std.specs.Io.KnownBytes.{Appends, Consumes, IsAtEnd, Keeps, prepend_known}
use Rattle.std.proofs.KnownBytes.{Appends-kept, Appends-nil, Appends-trans, Consumes-trans, prepend_known-nil}
use Rattle.lfs_model.specs.Call.{Answer, Refuse}
use Rattle.lfs_model.specs.Device.{DeviceState}
use Rattle.lfs_model.specs.Refusal.{NoMemory}
use Rattle.lfs_model.specs.Run.{has_word}
use Rattle.lfs_model.specs.Script.{InRange, Line, bad, ended, lines, reply, text_of}
use Rattle.lfs_fs.specs.Scripts.{RunsLines, ServesLine, TellsLines}
use Rattle.lfs_fs.specs.Volume.{Mounted}
use Rattle.lfs_words.specs.Bytes.{AppendsSome}
use Rattle.lfs_script.specs.LineEnd.{OnTooLong, consumed_by_line}
use Rattle.lfs_script.specs.declared.line.LineEnd.{LineEnd}
use Rattle.lfs_script.specs.declared.line.LineEnd.TheVariants.{Newline, TooLong}
use Rattle.lfs_script.specs.declared.source.ReadError.{ReadError}
use Rattle.lfs_lines.specs.Lines.{IsUnknown}
use Rattle.lfs_script.specs.Ending.{EndOf, IsBadLine, IsBadText, IsText, EndsWithLine, ended_texts, replies}
use Rattle.lfs_script.specs.Running.{AnswersText, Called, Ends, EndsBy, EndsNoted}
use Rattle.lfs_script.specs.Running.{Finishes, GlancesBeforeReply, RepliesBadLine, SoFar, Turns}
use Rattle.lfs_script.specs.Noted.{Glance, Glanced, GlancesAt}
use Rattle.lfs_script.proofs.Glancing.{glanced_more, glanced_none}
use Rattle.lfs_script.specs.Strict.{Follows, EndsBehind, GoesOnBehind, ReadsTo, StrictEndOf}
use Rattle.lfs_script.specs.declared.script.ScriptEnd.{ScriptEnd}
use Rattle.lfs_script.specs.declared.script.ScriptEnd.TheVariants.{Done, BadLine, Read, Write, Memory}
use Rattle.lfs_script.specs.declared.script.StrictEnd.{StrictEnd}
use Rattle.lfs_script.specs.declared.script.StrictEnd.TheVariants.{Script, Refused}
use Rattle.lfs_script.proofs.ScriptBytes.{all_more, each_more, ended_more, last_read, line_more, line_read, lines_last, lines_whole}
use Rattle.lfs_script.proofs.ScriptBytes.{none_read, plain_more, replies_after, some_after, spelled_more, texts_more, with_left}

-- ---- one line

zero_length : (n : ℕ) → true ≡ (n == 0) → n ≡ 0
zero_length n e = grind (arith, nat_tests)

some_length : (n : ℕ) → false ≡ (n == 0) → 0 < n
some_length n e = grind (arith, nat_tests)

nothing : (text : List ℕ) → length text ≡ 0 → text ≡ []
nothing [] e = refl
nothing (c ∷ text) e = absurd (omega (arith, e))

pub unknown_is_bad : (text : List ℕ) → IsUnknown text → IsBadText text
unknown_is_bad text unknown line spells = unknown line spells.in_range (sym spells.text)

module _ {D : Type 0} (state : D → DeviceState) where
  -- a line's call is made
  pub called_text : (old new : Mounted D) {text : List ℕ} (line : Line) (answer : Answer) → length text ≤ 140000 → text_of line ≡ text
      → InRange line → ServesLine state old new line answer
      → AnswersText state (Some answer) old new text
  called_text old new {text} line answer short is fits serves = (line, record { text = sym is; short = short; in_range = fits }, serves)

  -- memory for a line's word was refused
  pub without_memory : (old : Mounted D) {text : List ℕ} → length text ≤ 140000 → (line : Line) × InRange line × IsTrue (has_word line)
      × (text_of line ≡ text)
      → AnswersText state (Some (Refuse NoMemory)) old old text
  without_memory old {text} short (line, fits, word, is) =
      called_text old old line (Refuse NoMemory) short is fits (inr (word, refl, refl))

  pub called : (R : List ℕ → Type 0) (old new : Mounted D) (text : List ℕ) (answer : Answer) → AnswersText state (Some answer) old new text
      → R (reply answer) → Called state R old new text
  called R old new text answer (line, spells, serves) replied =
      record { line = line; answer = answer; spells = spells; serves = serves; replied = replied }

  -- a call whose reply went out, by what is decided behind it
  pub turned : (end : Option StrictEnd) (strict : Bool) (w w1 : Option (List ℕ)) (old new : Mounted D) (text : List ℕ) (n : ℕ)
      (answer : Answer) → AnswersText state (Some answer) old new text
      → Appends w w1 (reply answer) → Follows strict end answer → Turns state strict end w w1 old new text n
  unfolding called
  turned None strict w w1 old new text n answer answers replied decides =
      (called (Appends w w1) old new text answer answers replied, decides)
  turned (Some Refused) strict w w1 old new text n answer answers replied decides =
      (called (Appends w w1) old new text answer answers replied, decides)
  turned (Some (Script end)) strict w w1 old new text n answer answers replied decides = absurd decides

  -- device and writer were glanced at behind the call
  pub glances_called : {v : Mounted D} {d : D} (w : Option (List ℕ)) (answer : Answer) (old : Mounted D) {text : List ℕ}
      (s s1 : List Glance)
      → AnswersText state (Some answer) old v text → d ≡ v.log.device
      → GlancesAt (state d).moment w s s1 → GlancesBeforeReply state v w text s s1
  glances_called w answer old s s1 answers same glances = record {
    once = λ line spells. subst (λ (x : D). GlancesAt (state x).moment w s s1) same glances;
    never = λ bad. absurd (bad answers.0 answers.1);
  }

  -- a bad text isn't glanced at
  pub glances_never : (v : Mounted D) (w : Option (List ℕ)) {text : List ℕ} (s : List Glance) → IsBadText text
      → GlancesBeforeReply state v w text s s
  glances_never v w s bad = record { once = λ line spells. absurd (bad line spells); never = λ e. refl }

  -- the line as a slice
  pub glances_of : (v : Mounted D) (w : Option (List ℕ)) {slice text : List ℕ} (s s1 : List Glance) → slice ≡ text
      → GlancesBeforeReply state v w slice s s1 → GlancesBeforeReply state v w text s s1
  glances_of v w s s1 is glances = subst (λ (t : List ℕ). GlancesBeforeReply state v w t s s1) is glances

module _ {D : Type 0} (state : D → DeviceState) (strict : Bool) where
  -- the last line is none, or goes on, or ends the script
  pub finish_none : (w : Option (List ℕ)) (v : Mounted D) (text : List ℕ) (n : ℕ) (s : List Glance) → true ≡ (length text == 0)
      → Finishes state strict (Script Done) w w v v text n s s
  finish_none w v text n s e = inl (nothing text (zero_length (length text) e), refl, refl, refl, refl)

  pub finish_done : (w w1 : Option (List ℕ)) (old : Mounted D) {new : Mounted D} {text : List ℕ}
      (n : ℕ) (s : List Glance) {s1 : List Glance}
      → false ≡ (length text == 0)
      → Turns state strict None w w1 old new text n → GlancesBeforeReply state new w text s s1
      → Finishes state strict (Script Done) w w1 old new text n s s1
  finish_done w w1 old {text} n s e turns glances = inr (some_length (length text) e, glances, inl (refl, turns))

  pub finish_end : (end : StrictEnd) (w w1 : Option (List ℕ)) (old : Mounted D) {new : Mounted D} {text : List ℕ} (n : ℕ) (s : List Glance)
      {s1 : List Glance}
      → false ≡ (length text == 0) → Turns state strict (Some end) w w1 old new text n → GlancesBeforeReply state new w text s s1
      → Finishes state strict end w w1 old new text n s s1
  finish_end end w w1 old {text} n s e turns glances = inr (some_length (length text) e, glances, inr turns)

  -- the line as a slice
  pub turns_of : (end : Option StrictEnd) (w w1 : Option (List ℕ)) (old new : Mounted D) {slice text : List ℕ} (n : ℕ) → slice ≡ text
      → Turns state strict end w w1 old new slice n → Turns state strict end w w1 old new text n
  turns_of end w w1 old new n is turns = subst (λ (t : List ℕ). Turns state strict end w w1 old new t n) is turns

  -- no line ends a run as one that can't read on
  pub turn_reads : (end : StrictEnd) (w w1 : Option (List ℕ)) (old new : Mounted D) (text : List ℕ) (n f f' : ℕ) (r r' : Option (List ℕ))
      → Turns state strict (Some end) w w1 old new text n → ReadsTo end f f' r r'
  turn_reads Refused w w1 old new text n f f' r r' turns = tt
  turn_reads (Script Read) w w1 old new text n f f' r r' (inl (is, call)) = absurd (cc is)
  turn_reads (Script Read) w w1 old new text n f f' r r' (inr (unspelled, refuses, same)) = absurd refuses
  turn_reads (Script Done) w w1 old new text n f f' r r' turns = tt
  turn_reads (Script (BadLine m)) w w1 old new text n f f' r r' turns = tt
  turn_reads (Script Write) w w1 old new text n f f' r r' turns = tt
  turn_reads (Script Memory) w w1 old new text n f f' r r' turns = tt

  pub finish_reads : (end : StrictEnd) (w w1 : Option (List ℕ)) (old new : Mounted D) (text : List ℕ) (n : ℕ) (s s1 : List Glance)
      (f f' : ℕ) (r r' : Option (List ℕ)) → Finishes state strict end w w1 old new text n s s1 → ReadsTo end f f' r r'
  finish_reads end w w1 old new text n s s1 f f' r r' (inl (empty, is, still, same, seen)) =
      subst (λ (e : StrictEnd). ReadsTo e f f' r r') (sym is) tt
  finish_reads end w w1 old new text n s s1 f f' r r' (inr (some, glances, inl (is, turns))) =
      subst (λ (e : StrictEnd). ReadsTo e f f' r r') (sym is) tt
  finish_reads end w w1 old new text n s s1 f f' r r' (inr (some, glances, inr turns)) =
      turn_reads end w w1 old new text n f f' r r' turns

  pub finishes_of : (end : StrictEnd) (w w1 : Option (List ℕ)) (old new : Mounted D) {slice text : List ℕ} (n : ℕ) (s s1 : List Glance)
      → slice ≡ text → Finishes state strict end w w1 old new slice n s s1 → Finishes state strict end w w1 old new text n s s1
  finishes_of end w w1 old new n s s1 is finishes =
      subst (λ (t : List ℕ). Finishes state strict end w w1 old new t n s s1) is finishes

  -- the replies so far are flushed, and nothing is glanced at
  unfoldable pub so_far_flushed : {n : ℕ} {r left w w1 : Option (List ℕ)} (w2 : Option (List ℕ)) {old now : Mounted D}
      {s s1 s2 : List Glance} → Keeps w1 w2 → s2 ≡ s1
      → SoFar state strict n r left w w1 old now s s1 → SoFar state strict n r left w w2 old now s s2
  so_far_flushed {w} {w1} w2 {s} keeps unseen so = record {
    texts = so.texts;
    script = so.script;
    answers = so.answers;
    plain = so.plain;
    spelled = so.spelled;
    clocks = so.clocks;
    told = so.told;
    glanced = subst (Glanced w so.answers so.clocks s) (sym unseen) so.glanced;
    goes_on = so.goes_on;
    consumed = so.consumed;
    appended = Appends-kept w w1 w2 (replies so.answers) so.appended keeps;
    count = so.count;
  }

pub refuse_reads : (end : ScriptEnd) (w w1 : Option (List ℕ)) (n f f' : ℕ) (r r' : Option (List ℕ)) → RepliesBadLine end w w1 n
    → ReadsTo (Script end) f f' r r'
refuse_reads Read w w1 n f f' r r' refuses = absurd refuses
refuse_reads Done w w1 n f f' r r' refuses = tt
refuse_reads (BadLine m) w w1 n f f' r r' refuses = tt
refuse_reads Write w w1 n f f' r r' refuses = tt
refuse_reads Memory w w1 n f f' r r' refuses = tt

-- so many bytes were read or are ahead, with one line more
pub ahead_more : (texts : List (List ℕ)) (text : List ℕ) {end : LineEnd} (all a b : ℕ) → end ≡ Newline
    → all ≤ length (ended_texts texts) + a → a ≤ length (text ++ consumed_by_line {E = ReadError} (Ok end)) + b
    → all ≤ length (ended_texts (texts ++ text ∷ [])) + b
ahead_more texts text all a b is before more =
    let line = subst (λ (l : LineEnd). a ≤ length (text ++ consumed_by_line {E = ReadError} (Ok l)) + b) is more in
    let whole = ap length (texts_more texts text) in
    let parts = length-append (ended_texts texts) (text ++ 10 ∷ []) in
    omega (arith, before, line, whole, parts)

-- each text has a byte at least, with its newline
texts_least : (texts : List (List ℕ)) → length texts ≤ length (ended_texts texts)
texts_least [] = omega arith
texts_least (t ∷ texts) =
    let rest = texts_least texts in
    let parts = length-append (ended t) (ended_texts texts) in
    let line = length-append t (10 ∷ []) in
    omega (arith, rest, parts, line)

-- how a line ended
pub line_ended : (a b : Option (List ℕ)) (text : List ℕ) {end is : LineEnd} → end ≡ is
    → Consumes a b (text ++ consumed_by_line {E = ReadError} (Ok end)) → Consumes a b (text ++ consumed_by_line {E = ReadError} (Ok is))
line_ended a b text e consumes = subst (λ (l : LineEnd). Consumes a b (text ++ consumed_by_line {E = ReadError} (Ok l))) e consumes

pub long_ended : {end : LineEnd} {b : ℕ} (P : ℕ → Type 0) → end ≡ TooLong b → OnTooLong {E = ReadError} (Ok end) P → P b
long_ended P is long = subst (λ (l : LineEnd). OnTooLong {E = ReadError} (Ok l) P) is long

-- ---- a line more, and the ends

module _ {D : Type 0} {state : D → DeviceState} {strict : Bool} (none : (old : Mounted D) → TellsLines state old old [] [] [])
    (more : (old mid new : Mounted D) (script : List Line) (answers : List Answer) (clocks : List ℕ) (line : Line) (answer : Answer)
    → TellsLines state old mid script answers clocks → ServesLine state mid new line answer
    → TellsLines state old new (script ++ line ∷ []) (answers ++ answer ∷ []) (clocks ++ (state new.log.device).moment ∷ [])) where
  unfoldable pub so_far_none : (r w : Option (List ℕ)) {left : List ℕ} (old : Mounted D) (s : List Glance) → left ≡ []
      → SoFar state strict 1 r (prepend_known left r) w w old old s s
  so_far_none r w {left} old s empty = record {
    texts = [];
    script = [];
    answers = [];
    plain = tt;
    spelled = tt;
    clocks = [];
    told = none old;
    glanced = glanced_none s;
    goes_on = tt;
    consumed = none_read r empty;
    appended = Appends-nil w;
    count = refl;
  }

  pub no_room : (r w : Option (List ℕ)) (old : Mounted D) (s : List Glance) → EndsNoted state strict (Script Memory) r r w w old old s s
  no_room r w old s = record {
    ends = record {
      texts = [];
      script = [];
      answers = [];
      spelled = tt;
      run = (none old).runs;
      bytes = ((refl, refl, refl), tt);
    };
    clocks = [];
    told = none old;
    glanced = glanced_none s;
  }

  unfoldable pub so_far_more : (n : ℕ) (r mid left w w1 w2 : Option (List ℕ)) (old now new : Mounted D) {text : List ℕ}
      (s s1 s2 : List Glance) → SoFar state strict n r mid w w1 old now s s1 → IsText text → Consumes mid left (text ++ 10 ∷ [])
      → Turns state strict None w1 w2 now new text n → GlancesBeforeReply state new w1 text s1 s2
      → SoFar state strict (n + 1) r left w w2 old new s s2
  so_far_more n r mid left w w1 w2 old now new {text} s s1 s2 so plain consumes turns glances = record {
    texts = so.texts ++ text ∷ [];
    script = so.script ++ turns.0.line ∷ [];
    answers = so.answers ++ turns.0.answer ∷ [];
    plain = all_more so.texts text so.plain plain;
    spelled = spelled_more so.texts so.script so.spelled turns.0.spells;
    clocks = so.clocks ++ (state new.log.device).moment ∷ [];
    told = more old now new so.script so.answers so.clocks turns.0.line turns.0.answer so.told turns.0.serves;
    glanced = glanced_more w1 turns.0.answer (state new.log.device).moment so.glanced so.appended
        (glances.once turns.0.line turns.0.spells);
    goes_on = each_more (GoesOnBehind strict) so.answers turns.0.answer so.goes_on turns.1;
    consumed = line_more r mid left so.texts text so.consumed consumes;
    appended = replies_after w w1 w2 so.answers turns.0.answer so.appended turns.0.replied;
    count = (let l = length-append so.texts (text ∷ []) in let c = so.count in omega (arith, l, c));
  }

  -- a reply that went out in part
  reply_stops : {n : ℕ} {r mid : Option (List ℕ)} (now w w1 w2 : Option (List ℕ)) {old : Mounted D} (at : Mounted D) {new : Mounted D}
      {text : List ℕ} (input rest : List ℕ) (s s1 s2 : List Glance)
      (so : SoFar state strict n r mid w w1 old at s s1) → GlancesAt (state new.log.device).moment w1 s1 s2
      → Called state (AppendsSome w1 w2) at new text
      → lines input ≡ so.texts ++ text ∷ [] → EndsWithLine input rest now → Consumes r now (input ++ rest)
      → EndsNoted state strict (Script Write) r now w w2 old new s s2
  reply_stops now w w1 w2 {old} at {new} {text} input rest s s1 s2 so glances call cut whole consumes = record {
    ends = record {
      texts = so.texts ++ text ∷ [];
      script = so.script ++ call.line ∷ [];
      answers = so.answers ++ call.answer ∷ [];
      spelled = spelled_more so.texts so.script so.spelled call.spells;
      run = (more old at new so.script so.answers so.clocks call.line call.answer so.told call.serves).runs;
      bytes = inl (
        record {
          input = input;
          more = rest;
          before = so.answers;
          last = call.answer;
          cut = cut;
          whole = whole;
          read = consumes;
          all = refl;
          written = some_after w w1 w2 (replies so.answers) (reply call.answer) so.appended call.replied;
        },
        so.goes_on,
      );
    };
    clocks = so.clocks ++ (state new.log.device).moment ∷ [];
    told = more old at new so.script so.answers so.clocks call.line call.answer so.told call.serves;
    glanced = glanced_more w1 call.answer (state new.log.device).moment so.glanced so.appended glances;
  }

  -- a reply behind which a strict run ends
  refusal_stops : {n : ℕ} {r mid : Option (List ℕ)} (now w w1 w2 : Option (List ℕ)) {old : Mounted D} (at : Mounted D) {new : Mounted D}
      {text : List ℕ} (input rest : List ℕ) (s s1 s2 : List Glance)
      (so : SoFar state strict n r mid w w1 old at s s1) → GlancesAt (state new.log.device).moment w1 s1 s2
      → (call : Called state (Appends w1 w2) at new text)
      → EndsBehind strict call.answer → lines input ≡ so.texts ++ text ∷ [] → EndsWithLine input rest now → Consumes r now (input ++ rest)
      → EndsNoted state strict Refused r now w w2 old new s s2
  refusal_stops now w w1 w2 {old} at {new} {text} input rest s s1 s2 so glances call refused cut whole consumes = record {
    ends = record {
      texts = so.texts ++ text ∷ [];
      script = so.script ++ call.line ∷ [];
      answers = so.answers ++ call.answer ∷ [];
      spelled = spelled_more so.texts so.script so.spelled call.spells;
      run = (more old at new so.script so.answers so.clocks call.line call.answer so.told call.serves).runs;
      bytes = record {
        input = input;
        more = rest;
        before = so.answers;
        last = call.answer;
        cut = cut;
        whole = whole;
        read = consumes;
        all = refl;
        first = so.goes_on;
        refused = refused;
        written = replies_after w w1 w2 so.answers call.answer so.appended call.replied;
      };
    };
    clocks = so.clocks ++ (state new.log.device).moment ∷ [];
    told = more old at new so.script so.answers so.clocks call.line call.answer so.told call.serves;
    glanced = glanced_more w1 call.answer (state new.log.device).moment so.glanced so.appended glances;
  }

  -- an end at which no call is made
  stays : {end : StrictEnd} {n : ℕ} {r mid : Option (List ℕ)} (now : Option (List ℕ)) {w w1 : Option (List ℕ)} (w2 : Option (List ℕ))
      {old at new : Mounted D} {s s1 s2 : List Glance}
      (so : SoFar state strict n r mid w w1 old at s s1) → new ≡ at → s2 ≡ s1 → StrictEndOf strict end r now w w2 so.texts so.answers
      → EndsNoted state strict end r now w w2 old new s s2
  stays now {w} w2 {old} {s} so same seen bytes = record {
    ends = record {
      texts = so.texts;
      script = so.script;
      answers = so.answers;
      spelled = so.spelled;
      run = subst (λ (v : Mounted D). RunsLines state old v so.script so.answers) (sym same) so.told.runs;
      bytes = bytes;
    };
    clocks = so.clocks;
    told = subst (λ (v : Mounted D). TellsLines state old v so.script so.answers so.clocks) (sym same) so.told;
    glanced = subst (Glanced w so.answers so.clocks s) (sym seen) so.glanced;
  }

  -- a bad line
  bad_ends : (end : ScriptEnd) {n : ℕ} {r mid now w w1 w2 : Option (List ℕ)} {old at new : Mounted D} (text rest : List ℕ)
      {s s1 s2 : List Glance} (so : SoFar state strict n r mid w w1 old at s s1) → new ≡ at → s2 ≡ s1 → IsBadLine text rest now
      → Consumes r now (ended_texts so.texts ++ (text ++ rest)) → RepliesBadLine end w1 w2 n
      → EndsNoted state strict (Script end) r now w w2 old new s s2
  bad_ends Done text rest so same seen line consumes refuses = absurd refuses
  bad_ends Read text rest so same seen line consumes refuses = absurd refuses
  bad_ends Memory text rest so same seen line consumes refuses = absurd refuses
  bad_ends (BadLine m) {n} {r} {mid} {now} {w} {w1} {w2} {old} {at} {new} text rest {s} {s1} {s2} so same seen line consumes (is, appends) =
      stays {end = Script (BadLine m)} now w2 so same seen (
        (
          is ∙ sym so.count,
          text,
          rest,
          line,
          consumes,
          Appends-trans w w1 w2 (replies so.answers) (bad m) so.appended (subst (λ k. Appends w1 w2 (bad k)) (sym is) appends),
        ),
        so.goes_on,
      )
  bad_ends Write {n} {r} {mid} {now} {w} {w1} {w2} {old} {at} {new} text rest {s} {s1} {s2} so same seen line consumes appends =
      stays now w2 so same seen (inr (
        record {
          text = text;
          more = rest;
          line = line;
          read = consumes;
          written = some_after w w1 w2 (replies so.answers) (bad (length so.texts + 1)) so.appended
              (subst (λ k. AppendsSome w1 w2 (bad k)) (sym so.count) appends);
        },
        so.goes_on,
      ))

  -- a line with its newline, which is the last
  pub turned_end : (end : StrictEnd) (n : ℕ) (r mid now w w1 w2 : Option (List ℕ)) (old at new : Mounted D) {text : List ℕ} (left : List ℕ)
      (s s1 s2 : List Glance) → SoFar state strict n r mid w w1 old at s s1 → IsText text
      → Consumes mid (prepend_known left now) (text ++ 10 ∷ []) → Turns state strict (Some end) w1 w2 at new text n
      → GlancesBeforeReply state new w1 text s1 s2 → EndsNoted state strict end r now w w2 old new s s2
  turned_end Refused n r mid now w w1 w2 old at new {text} left s s1 s2 so plain consumes (call, refused) glances =
      refusal_stops now w w1 w2 at (ended_texts (so.texts ++ text ∷ [])) left s s1 s2 so
      (glances.once call.line call.spells) call refused (lines_whole (so.texts ++ text ∷ []) (all_more so.texts text so.plain plain))
      (inl (ended_texts so.texts ++ text, ended_more so.texts text)) (with_left r now left (ended_texts (so.texts ++ text ∷ []))
      (line_more r mid (prepend_known left now) so.texts text so.consumed consumes))
  turned_end (Script end) n r mid now w w1 w2 old at new {text} left s s1 s2 so plain consumes (inl (is, call)) glances =
      subst (λ (e : ScriptEnd). EndsNoted state strict (Script e) r now w w2 old new s s2) (sym is)
      (reply_stops now w w1 w2 at (ended_texts (so.texts ++ text ∷ [])) left s s1 s2 so
      (glances.once call.line call.spells) call (lines_whole (so.texts ++ text ∷ []) (all_more so.texts text so.plain plain))
      (inl (ended_texts so.texts ++ text, ended_more so.texts text)) (with_left r now left (ended_texts (so.texts ++ text ∷ []))
      (line_more r mid (prepend_known left now) so.texts text so.consumed consumes)))
  turned_end (Script end) n r mid now w w1 w2 old at new {text} left s s1 s2 so plain consumes (inr (unspelled, refuses, same)) glances =
      bad_ends end text (10 ∷ left) so same (glances.never unspelled) (record { plain = plain; is_bad = inr (unspelled, inl (left, refl)) })
      (line_read r mid now (ended_texts so.texts) text (10 ∷ []) left so.consumed consumes) refuses

  -- a line that is too long
  pub too_long : (end : ScriptEnd) {n : ℕ} (r mid : Option (List ℕ)) {now : Option (List ℕ)} (w w1 w2 : Option (List ℕ))
      (old at : Mounted D) (text left : List ℕ) (b : ℕ)
      (s s1 : List Glance) → SoFar state strict n r mid w w1 old at s s1 → IsText text → b ≢ 10 → length text ≡ 140000
      → Consumes mid (prepend_known left now) (text ++ b ∷ []) → RepliesBadLine end w1 w2 n
      → EndsNoted state strict (Script end) r now w w2 old at s s1
  too_long end {n} r mid {now} w w1 w2 old at text left b s s1 so plain apart long consumes refuses =
      bad_ends end (text ++ b ∷ []) left so refl refl
      (record { plain = plain_more text b plain apart; is_bad = inl (let l = length-append text (b ∷ []) in omega (arith, l, long)) })
      (subst (Consumes r now) (append_assoc (ended_texts so.texts) (text ++ b ∷ []) left)
      (with_left r now left (ended_texts so.texts ++ (text ++ b ∷ []))
      (Consumes-trans r mid (prepend_known left now) (ended_texts so.texts) (text ++ b ∷ []) so.consumed consumes)))
      refuses

  -- a read that failed
  pub read_fails : (n : ℕ) (r mid now w w1 : Option (List ℕ)) (old at : Mounted D) (text : List ℕ) {left : List ℕ} (s s1 : List Glance)
      → SoFar state strict n r mid w w1 old at s s1 → IsText text
      → Consumes mid (prepend_known left now) (text ++ []) → left ≡ [] → EndsNoted state strict (Script Read) r now w w1 old at s s1
  read_fails n r mid now w w1 old at text s s1 so plain consumes empty =
      let read : Consumes mid now text = subst (Consumes mid now) (append-nil text)
      (subst (λ o. Consumes mid o (text ++ [])) (ap (λ l. prepend_known l now) empty ∙ prepend_known-nil now) consumes) in
      stays now w1 so refl refl
      ((text, inl plain, Consumes-trans r mid now (ended_texts so.texts) text so.consumed read, so.appended), so.goes_on)

  -- and why
  pub read_cause : {n : ℕ} (r mid now w w1 : Option (List ℕ)) (old at : Mounted D) (text : List ℕ) {left : List ℕ} (s s1 : List Glance)
      (so : SoFar state strict n r mid w w1 old at s s1) (f f1 f2 a b : ℕ)
      → Consumes mid (prepend_known left now) (text ++ []) → left ≡ [] → f ≤ f1 → ((f1 < f2) ⊎ (b ≡ 0))
      → 2 ^ 64 - 1 ≤ length (ended_texts so.texts) + a → a ≤ length (text ++ []) + b → ReadsTo (Script Read) f f2 r now
  read_cause r mid now w w1 old at text s s1 so f f1 f2 a b consumes empty before (inl rose) all more = inl (omega (arith, before, rose))
  read_cause r mid now w w1 old at text s s1 so f f1 f2 a b consumes empty before (inr spent) all more =
      let read : Consumes mid now (text ++ []) =
      subst (λ o. Consumes mid o (text ++ [])) (ap (λ l. prepend_known l now) empty ∙ prepend_known-nil now) consumes in
      let parts = length-append (ended_texts so.texts) (text ++ []) in
      inr (
        ended_texts so.texts ++ (text ++ []),
        Consumes-trans r mid now (ended_texts so.texts) (text ++ []) so.consumed read,
        omega (arith, spent, all, more, parts),
      )

  pub numbers_cause : {n : ℕ} (r now w w1 : Option (List ℕ)) (old at : Mounted D) (left : List ℕ) (s s1 : List Glance)
      → SoFar state strict n r (prepend_known left now) w w1 old at s s1 → (f f1 : ℕ) → 2 ^ 64 - 1 ≤ n
      → ReadsTo (Script Read) f f1 r now
  numbers_cause r now w w1 old at left s s1 so f f1 last =
      let least = texts_least so.texts in
      let c = so.count in
      let parts = length-append (ended_texts so.texts) left in
      inr (ended_texts so.texts ++ left, with_left r now left (ended_texts so.texts) so.consumed, omega (arith, least, c, last, parts))

  -- as many lines as have a number
  pub numbers_end : {n : ℕ} (r : Option (List ℕ)) {now : Option (List ℕ)} (w w1 : Option (List ℕ)) (old at : Mounted D) (left : List ℕ)
      (s s1 : List Glance) → SoFar state strict n r
      (prepend_known left now) w w1 old at s s1 → 2 ^ 64 - 1 ≤ n → EndsNoted state strict (Script Read) r now w w1 old at s s1
  numbers_end {n} r {now} w w1 old at left s s1 so last =
      stays now w1 so refl refl (
        (left, inr (let c = so.count in omega (arith, c, last)), with_left r now left (ended_texts so.texts) so.consumed, so.appended),
        so.goes_on,
      )

  -- the end of the input
  pub finished : (end : StrictEnd) {n : ℕ} (r mid : Option (List ℕ)) {now : Option (List ℕ)} (w w1 w2 : Option (List ℕ))
      (old at new : Mounted D) (text left : List ℕ)
      (s s1 s2 : List Glance) → SoFar state strict n r mid w w1 old at s s1 → IsText text
      → Consumes mid (prepend_known left now) (text ++ []) → IsAtEnd (prepend_known left now)
      → Finishes state strict end w1 w2 at new text n s1 s2 → EndsNoted state strict end r now w w2 old new s s2
  finished end {n} r mid {now} w w1 w2 old at new text left s s1 s2 so plain consumes ended (inl (empty, is, still, same, seen)) =
      let read = last_read r mid now (ended_texts so.texts) text left so.consumed consumes ended in
      subst (λ (e : StrictEnd). EndsNoted state strict e r now w w2 old new s s2) (sym is) (stays {end = Script Done} now w2 so same seen (
        (
          ended_texts so.texts,
          subst (Consumes r now) (ap (λ t. ended_texts so.texts ++ t) empty ∙ append-nil (ended_texts so.texts)) read.0,
          read.1,
          lines_whole so.texts so.plain,
          subst (λ o. Appends w o (replies so.answers)) (sym still) so.appended,
        ),
        so.goes_on,
      ))
  finished end r mid {now} w w1 w2 old at new text left s s1 s2 so plain consumes ended (inr (some, glances, inl (is, (call, goes_on)))) =
      let read = last_read r mid now (ended_texts so.texts) text left so.consumed consumes ended in
      subst (λ (e : StrictEnd). EndsNoted state strict e r now w w2 old new s s2) (sym is)
      (record {
        ends = record {
          texts = so.texts ++ text ∷ [];
          script = so.script ++ call.line ∷ [];
          answers = so.answers ++ call.answer ∷ [];
          spelled = spelled_more so.texts so.script so.spelled call.spells;
          run = (more old at new so.script so.answers so.clocks call.line call.answer so.told call.serves).runs;
          bytes = (
            (
              ended_texts so.texts ++ text,
              read.0,
              read.1,
              lines_last so.texts text so.plain plain some,
              replies_after w w1 w2 so.answers call.answer so.appended call.replied,
            ),
            each_more (GoesOnBehind strict) so.answers call.answer so.goes_on goes_on,
          );
        };
        clocks = so.clocks ++ (state new.log.device).moment ∷ [];
        told = more old at new so.script so.answers so.clocks call.line call.answer so.told call.serves;
        glanced = glanced_more w1 call.answer (state new.log.device).moment so.glanced so.appended (glances.once call.line call.spells);
      })
  finished Refused {n} r mid {now} w w1 w2 old at new text left s s1 s2 so plain consumes ended (inr (some, glances, inr (call, refused))) =
      let read = last_read r mid now (ended_texts so.texts) text left so.consumed consumes ended in
      refusal_stops now w w1 w2 at (ended_texts so.texts ++ text) [] s s1 s2 so
      (glances.once call.line call.spells) call refused (lines_last so.texts text so.plain plain some) (inr (refl, read.1))
      (subst (Consumes r now) (sym (append-nil (ended_texts so.texts ++ text))) read.0)
  finished (Script end) {n} r mid {now} w w1 w2 old at new text left s s1 s2 so plain consumes ended
      (inr (some, glances, inr (inl (is, call)))) =
      let read = last_read r mid now (ended_texts so.texts) text left so.consumed consumes ended in
      subst (λ (e : ScriptEnd). EndsNoted state strict (Script e) r now w w2 old new s s2) (sym is)
      (reply_stops now w w1 w2 at (ended_texts so.texts ++ text) [] s s1 s2 so (glances.once call.line call.spells) call
      (lines_last so.texts text so.plain plain some) (inr (refl, read.1))
      (subst (Consumes r now) (sym (append-nil (ended_texts so.texts ++ text))) read.0))
  finished (Script end) {n} r mid {now} w w1 w2 old at new text left s s1 s2 so plain consumes ended
      (inr (some, glances, inr (inr (unspelled, refuses, same)))) =
      let read = last_read r mid now (ended_texts so.texts) text left so.consumed consumes ended in
      bad_ends end text [] so same (glances.never unspelled) (record { plain = plain; is_bad = inr (unspelled, inr (refl, some, read.1)) })
      (subst (λ t. Consumes r now (ended_texts so.texts ++ t)) (sym (append-nil text)) read.0) refuses

-- ---- a run that isn't strict

plain_end : (end : ScriptEnd) (r r' w w' : Option (List ℕ)) (texts : List (List ℕ)) (answers : List Answer)
    → StrictEndOf false (Script end) r r' w w' texts answers → EndOf end r r' w w' texts answers
plain_end Done r r' w w' texts answers (bytes, goes_on) = bytes
plain_end (BadLine n) r r' w w' texts answers (bytes, goes_on) = bytes
plain_end Read r r' w w' texts answers (bytes, goes_on) = bytes
plain_end Write r r' w w' texts answers (inl (stop, goes_on)) = inl stop
plain_end Write r r' w w' texts answers (inr (stop, goes_on)) = inr stop
plain_end Memory r r' w w' texts answers (bytes, goes_on) = bytes

module _ {D : Type 0} {state : D → DeviceState} where
  pub plain_run : {by : StrictEnd} {end : ScriptEnd} (r r' w w' : Option (List ℕ)) (old new : Mounted D) → by ≡ Script end
      → EndsBy state false by r r' w w' old new → Ends state end r r' w w' old new
  plain_run {end} r r' w w' old new is ends =
      let run = subst (λ (e : StrictEnd). EndsBy state false e r r' w w' old new) is ends in
      record {
        texts = run.texts;
        script = run.script;
        answers = run.answers;
        spelled = run.spelled;
        run = run.run;
        bytes = plain_end end r r' w w' run.texts run.answers run.bytes;
      }

  -- no refusal ends it
  pub not_refused : {by : StrictEnd} (r r' w w' : Option (List ℕ)) (old new : Mounted D) → by ≡ Refused
      → EndsBy state false by r r' w w' old new → ⊥
  not_refused r r' w w' old new is ends =
      let run = subst (λ (e : StrictEnd). EndsBy state false e r r' w w' old new) is ends in
      let bad : false ≡ true = run.bytes.refused.0 in cc
