-- How a script ends, in hindsight: by what its witness heard of the reader.
use Rattle.std.proofs.Common.{◌≡◌, ◌≢◌, ◌⊎◌, ◌+◌, ◌-◌, ◌^◌, ◌<◌, ◌≤◌, ℕ, Bool, Option, Some, Ok, List, [], ◌∷◌, ◌++◌, length, sym, subst}
use Rattle.std.specs.Io.KnownBytes.{Consumes}
use Rattle.lfs_model.specs.Call.{Answer}
use Rattle.lfs_model.specs.Device.{DeviceState}
use Rattle.lfs_model.specs.Script.{Line}
use Rattle.lfs_fs.specs.Scripts.{ServesLine, TellsLines}
use Rattle.lfs_fs.specs.Volume.{Mounted}
use Rattle.lfs_script.specs.LineEnd.{consumed_by_line}
use Rattle.lfs_script.specs.declared.line.LineEnd.{LineEnd}
use Rattle.lfs_script.specs.declared.line.LineEnd.TheVariants.{Newline}
use Rattle.lfs_script.specs.declared.source.ReadError.{ReadError}
use Rattle.lfs_script.specs.declared.script.ScriptEnd.{ScriptEnd}
use Rattle.lfs_script.specs.declared.script.ScriptEnd.TheVariants.{Memory, Read}
use Rattle.lfs_script.specs.declared.script.StrictEnd.{StrictEnd}
use Rattle.lfs_script.specs.declared.script.StrictEnd.TheVariants.{Script}
use Rattle.lfs_script.specs.Ending.{IsText, ended_texts}
use Rattle.lfs_script.specs.Heard.{Heard, HearsEnd, HearsTo, UsesHeard}
use Rattle.lfs_script.specs.Noted.{Glance}
use Rattle.lfs_script.specs.Running.{EndsNoted, Finishes, GlancesBeforeReply, RepliesBadLine, SoFar, Turns}
use Rattle.lfs_script.specs.Strict.{ReadsTo}
use Rattle.lfs_script.proofs.HeardBytes.{at_end, hears_none, hears_still, hears_then, hears_used, used_of_input, uses_then}
use Rattle.lfs_script.proofs.ScriptBytes.{texts_more}
use Rattle.lfs_script.proofs.ScriptTurns.{finish_reads, finished, no_room, numbers_cause, numbers_end, read_cause, read_fails, refuse_reads}
use Rattle.lfs_script.proofs.ScriptTurns.{too_long, turn_reads, turned_end}

-- how a line ended
pub heard_ended : {a b : Heard} (left left' text : List ℕ) {end is : LineEnd} → end ≡ is
    → UsesHeard a b left left' (text ++ consumed_by_line {E = ReadError} (Ok end))
    → UsesHeard a b left left' (text ++ consumed_by_line {E = ReadError} (Ok is))
heard_ended {a} {b} left left' text e uses =
    subst (λ (l : LineEnd). UsesHeard a b left left' (text ++ consumed_by_line {E = ReadError} (Ok l))) e uses

-- a line more, behind which nothing is heard
pub heard_more : {a b c : Heard} (c' : Heard) (mid left : List ℕ) (texts : List (List ℕ)) (text : List ℕ) {end : LineEnd} → end ≡ Newline
    → UsesHeard a b [] mid (ended_texts texts) → UsesHeard b c mid left (text ++ consumed_by_line {E = ReadError} (Ok end)) → c' ≡ c
    → UsesHeard a c' [] left (ended_texts (texts ++ text ∷ []))
heard_more {a} {b} {c} c' mid left texts text is one two still =
    let both : UsesHeard a c [] left (ended_texts texts ++ (text ++ 10 ∷ [])) =
    uses_then a b c [] mid left (ended_texts texts) (text ++ 10 ∷ []) one (heard_ended mid left text is two) in
    subst (λ (h : Heard). UsesHeard a h [] left (ended_texts (texts ++ text ∷ []))) (sym still)
    (subst (λ (t : List ℕ). UsesHeard a c [] left t) (sym (texts_more texts text)) both)

-- so far from another input, and up to what is left of that
unfoldable pub so_far_input : {D : Type 0} {state : D → DeviceState} {strict : Bool} {n : ℕ} {r left w w1 : Option (List ℕ)}
    {old now : Mounted D} {s s1 : List Glance} (so : SoFar state strict n r left w w1 old now s s1) (r2 left2 : Option (List ℕ))
    → Consumes r2 left2 (ended_texts so.texts) → SoFar state strict n r2 left2 w w1 old now s s1
so_far_input so r2 left2 consumes = record {
  texts = so.texts;
  script = so.script;
  answers = so.answers;
  plain = so.plain;
  spelled = so.spelled;
  clocks = so.clocks;
  told = so.told;
  glanced = so.glanced;
  goes_on = so.goes_on;
  consumed = consumes;
  appended = so.appended;
  count = so.count;
}

-- ---- the ends

-- what a run says that ended so, from the reader's input to what is left of it
abbrev Says : {D : Type 0} → (D → DeviceState) → Bool → StrictEnd → Option (List ℕ) → Option (List ℕ) → Mounted D → Mounted D → List Glance
    → List Glance → ℕ → ℕ → Option (List ℕ) → Option (List ℕ) → Type 0
Says state strict end w w' old new s s' f f' r r' = EndsNoted state strict end r r' w w' old new s s' × ReadsTo end f f' r r'

module _ {D : Type 0} {state : D → DeviceState} {strict : Bool} (none : (old : Mounted D) → TellsLines state old old [] [] [])
    (more : (old mid new : Mounted D) (script : List Line) (answers : List Answer) (clocks : List ℕ) (line : Line) (answer : Answer)
    → TellsLines state old mid script answers clocks → ServesLine state mid new line answer
    → TellsLines state old new (script ++ line ∷ []) (answers ++ answer ∷ []) (clocks ++ (state new.log.device).moment ∷ [])) where
  pub no_room_heard : (h : Heard) (w : Option (List ℕ)) (old : Mounted D) (s : List Glance)
      → HearsTo h h (Says state strict (Script Memory) w w old old s s 0 0)
  no_room_heard h w old s =
      hears_none (Says state strict (Script Memory) w w old old s s 0 0) h (λ rest. (no_room none more (Some rest) w old s, tt))

  pub turned_end_heard : (end : StrictEnd) {n : ℕ} {r mid w : Option (List ℕ)} (w1 : Option (List ℕ)) {w2 : Option (List ℕ)}
      {old : Mounted D} (at : Mounted D) {new : Mounted D} (text : List ℕ) {s : List Glance} (s1 : List Glance) {s2 : List Glance}
      (f f' : ℕ) {a b c : Heard} (c' : Heard) (front left : List ℕ) (so : SoFar state strict n r mid w w1 old at s s1)
      → UsesHeard a b [] front (ended_texts so.texts) → IsText text → UsesHeard b c front left (text ++ 10 ∷ []) → c' ≡ c
      → Turns state strict (Some end) w1 w2 at new text n → GlancesBeforeReply state new w1 text s1 s2
      → HearsTo a c' (Says state strict end w w2 old new s s2 f f')
  turned_end_heard end {n} {r} {mid} {w} w1 {w2} {old} at {new} text {s} s1 {s2} f f' {a} {b} {c} c' front left so one plain two still
      turns glances =
      let P : Option (List ℕ) → Option (List ℕ) → Type 0 = Says state strict end w w2 old new s s2 f f' in
      hears_still P a c c' still (hears_then P a b c front left (ended_texts so.texts) (text ++ 10 ∷ []) one two (λ rest ended. (
        turned_end none more end n (Some (one.bytes ++ (two.bytes ++ rest))) (Some (front ++ (two.bytes ++ rest))) (Some rest) w w1 w2 old
            at new left s s1 s2 (so_far_input so _ _ (used_of_input one (two.bytes ++ rest))) plain (used_of_input two rest) turns glances,
        turn_reads state strict end w1 w2 at new text n f f' (Some (one.bytes ++ (two.bytes ++ rest))) (Some rest) turns,
      )))

  pub finished_heard : (end : StrictEnd) {n : ℕ} {r mid w : Option (List ℕ)} (w1 : Option (List ℕ)) {w2 : Option (List ℕ)}
      {old : Mounted D} (at : Mounted D) {new : Mounted D} (text : List ℕ) {s : List Glance} (s1 : List Glance) {s2 : List Glance}
      (f f' : ℕ) {a b c : Heard} (c' : Heard) (front left : List ℕ) (so : SoFar state strict n r mid w w1 old at s s1)
      → UsesHeard a b [] front (ended_texts so.texts) → IsText text → UsesHeard b c front left (text ++ []) → HearsEnd c left → c' ≡ c
      → Finishes state strict end w1 w2 at new text n s1 s2 → HearsTo a c' (Says state strict end w w2 old new s s2 f f')
  finished_heard end {n} {r} {mid} {w} w1 {w2} {old} at {new} text {s} s1 {s2} f f' {a} {b} {c} c' front left so one plain two end_heard
      still finishes =
      let P : Option (List ℕ) → Option (List ℕ) → Type 0 = Says state strict end w w2 old new s s2 f f' in
      hears_still P a c c' still (hears_then P a b c front left (ended_texts so.texts) (text ++ []) one two (λ rest ended. (
        finished none more end (Some (one.bytes ++ (two.bytes ++ rest))) (Some (front ++ (two.bytes ++ rest))) {now = Some rest} w w1 w2
            old at new text left s s1 s2 (so_far_input so _ _ (used_of_input one (two.bytes ++ rest))) plain (used_of_input two rest)
            (at_end c left rest end_heard ended) finishes,
        finish_reads state strict end w1 w2 at new text n s1 s2 f f' (Some (one.bytes ++ (two.bytes ++ rest))) (Some rest) finishes,
      )))

  pub too_long_heard : (end : ScriptEnd) {n : ℕ} {r mid w : Option (List ℕ)} (w1 : Option (List ℕ)) {w2 : Option (List ℕ)}
      {old at : Mounted D} (text : List ℕ) {s s1 : List Glance} (f f' : ℕ) {a b c : Heard} (front left : List ℕ) (byte : ℕ)
      (so : SoFar state strict n r mid w w1 old at s s1) → UsesHeard a b [] front (ended_texts so.texts) → IsText text → byte ≢ 10
      → length text ≡ 140000 → UsesHeard b c front left (text ++ byte ∷ []) → RepliesBadLine end w1 w2 n
      → HearsTo a c (Says state strict (Script end) w w2 old at s s1 f f')
  too_long_heard end {n} {r} {mid} {w} w1 {w2} {old} {at} text {s} {s1} f f' {a} {b} {c} front left byte so one plain apart long two
      refuses =
      let P : Option (List ℕ) → Option (List ℕ) → Type 0 = Says state strict (Script end) w w2 old at s s1 f f' in
      hears_then P a b c front left (ended_texts so.texts) (text ++ byte ∷ []) one two (λ rest ended. (
        too_long none more end (Some (one.bytes ++ (two.bytes ++ rest))) (Some (front ++ (two.bytes ++ rest))) {now = Some rest} w w1 w2
            old at text left byte s s1 (so_far_input so _ _ (used_of_input one (two.bytes ++ rest))) plain apart long
            (used_of_input two rest) refuses,
        refuse_reads end w1 w2 n f f' (Some (one.bytes ++ (two.bytes ++ rest))) (Some rest) refuses,
      ))

  pub read_fails_heard : {n : ℕ} {r mid w w1 : Option (List ℕ)} {old at : Mounted D} (text : List ℕ) {s s1 : List Glance}
      (f f1 f2 most ahead : ℕ) {a b c : Heard} (front left : List ℕ) (so : SoFar state strict n r mid w w1 old at s s1)
      → UsesHeard a b [] front (ended_texts so.texts) → IsText text → UsesHeard b c front left (text ++ []) → left ≡ [] → f ≤ f1
      → ((f1 < f2) ⊎ (ahead ≡ 0)) → 2 ^ 64 - 1 ≤ length (ended_texts so.texts) + most → most ≤ length (text ++ []) + ahead
      → HearsTo a c (Says state strict (Script Read) w w1 old at s s1 f f2)
  unfolding so_far_input
  read_fails_heard {n} {r} {mid} {w} {w1} {old} {at} text {s} {s1} f f1 f2 most ahead {a} {b} {c} front left so one plain two empty before
      cause all further =
      let P : Option (List ℕ) → Option (List ℕ) → Type 0 = Says state strict (Script Read) w w1 old at s s1 f f2 in
      hears_then P a b c front left (ended_texts so.texts) (text ++ []) one two (λ rest ended. (
        read_fails none more n (Some (one.bytes ++ (two.bytes ++ rest))) (Some (front ++ (two.bytes ++ rest))) (Some rest) w w1 old at text
            s s1 (so_far_input so _ _ (used_of_input one (two.bytes ++ rest))) plain (used_of_input two rest) empty,
        read_cause none more (Some (one.bytes ++ (two.bytes ++ rest))) (Some (front ++ (two.bytes ++ rest))) (Some rest) w w1 old at text s
            s1 (so_far_input so _ _ (used_of_input one (two.bytes ++ rest))) f f1 f2 most ahead (used_of_input two rest) empty before cause
            all further,
      ))

  pub numbers_end_heard : {n : ℕ} {r mid w w1 : Option (List ℕ)} {old at : Mounted D} {s s1 : List Glance} (f f' : ℕ) {a b : Heard}
      (left : List ℕ) (so : SoFar state strict n r mid w w1 old at s s1) → UsesHeard a b [] left (ended_texts so.texts) → 2 ^ 64 - 1 ≤ n
      → HearsTo a b (Says state strict (Script Read) w w1 old at s s1 f f')
  numbers_end_heard {n} {r} {mid} {w} {w1} {old} {at} {s} {s1} f f' {a} {b} left so one last =
      hears_used (Says state strict (Script Read) w w1 old at s s1 f f') a b left (ended_texts so.texts) one (λ rest. (
        numbers_end none more (Some (one.bytes ++ rest)) {now = Some rest} w w1 old at left s s1
            (so_far_input so _ _ (used_of_input one rest)) last,
        numbers_cause none more (Some (one.bytes ++ rest)) (Some rest) w w1 old at left s s1
            (so_far_input so _ _ (used_of_input one rest)) f f' last,
      ))
