-- A recorder's lines and saves by C are a recorder's calls of a volume, and what a stop leaves of them.
use Rattle.std.proofs.Common.{◌≡◌, ℕ, suc, ◌+◌, ◌-◌, List, [], ◌∷◌, ◌++◌, length, Option, Some, None, refl, sym, ◌∙◌, ap, ap₂, subst}
use Rattle.std.proofs.Common.{append-nil, append_assoc, arith, map}
use Rattle.std.proofs.Math.Seq.{take-append-add, take-append_seam}
use Rattle.std.proofs.lemmas.List.{length-map, take-append-drop}
use Rattle.std.specs.Prelude.{ℤ, pos, Result, Ok, Err, take, drop, slice_get, min}
use Rattle.lfs_model.specs.Call.{Answer, Call, Count, Done, Pwrite, Sync}
use Rattle.lfs_model.specs.Content.{Content}
use Rattle.lfs_model.specs.Run.{Point}
use Rattle.lfs_model.specs.Device.{DeviceState}
use Rattle.lfs_model.specs.Refusal as refusal
use Rattle.lfs_model.specs.Refusal.{Refusal}
use Rattle.lfs_model.proofs.Walks.{Some-injective}
use Rattle.lfs_fs.specs.InARow as volume
use Rattle.lfs_fs.specs.InARow.{IsSavedAt, ServesInARow}
use Rattle.lfs_fs.specs.Refusals.{refusal_of}
use Rattle.lfs_fs.specs.Seen.{answer_by, seen}
use Rattle.lfs_fs.specs.Volume.{Mounted, Serves}
use Rattle.lfs_fs.specs.declared.error.FsError.{FsError}
use Rattle.lfs_fs.specs.declared.fs.Fs.{Fs}
use Rattle.lfs_record.specs.Asking.{BeginsOn}
use Rattle.lfs_record.specs.Keeping.{LeavesFiles}
use Rattle.lfs_record.specs.Kept.{Holds, files_in, text_of}
use Rattle.lfs_record.specs.Moves as recorder
use Rattle.lfs_record.specs.Moves.{Calls, Moves, more_texts, texts_behind, texts_in}
use Rattle.lfs_record.specs.Recording.{Closes, EndsLine, Makes, ServesCalls}
use Rattle.lfs_record.specs.Saving.{SessionsAreSaved}
use Rattle.lfs_record.specs.declared.recorder.Present.{Present}
use Rattle.lfs_record.specs.declared.recorder.Recorder.{Recorder}
use Rattle.lfs_record.specs.declared.recorder.TheConstants.{MOST_BYTES}
use Rattle.lfs_record.proofs.Recorded.{moves_append, serves_none}
use Rattle.pansuyog_calls.specs.Codes.{code_of_refusal}
use Rattle.pansuyog_calls.specs.Recording.{Begins, BeginsIn, SavesAll, SavesIn, TellsBegun, TellsResult, Writes, WritesIn, present_of}
use Rattle.pansuyog_calls.specs.declared.access.Access.TheVariants.{ReadWrite}
use Rattle.pansuyog_calls.specs.Sessions.{HoldsTexts, RecordsAreSaved, RecordsInARow, is_saved, is_tended, is_written, no_more, text_told}

-- ---- the texts of calls

texts_append : (texts : List (List ℕ)) (xs ys : Calls) → texts_behind texts (xs ++ ys) ≡ texts_behind (texts_behind texts xs) ys
texts_append texts [] ys = refl
texts_append texts (x ∷ xs) ys = texts_append (more_texts texts x.1 x.0) xs ys

one_text : (texts : List (List ℕ)) (answer : Answer) (call : Call) → more_texts texts answer call ≡ texts ++ more_texts [] answer call
one_text texts (Count count) (Pwrite handle offset text) = refl
one_text texts (Count count) call = sym (append-nil texts)
one_text texts answer call = sym (append-nil texts)

texts_split : (texts : List (List ℕ)) (calls : Calls) → texts_behind texts calls ≡ texts ++ texts_in calls
texts_split texts [] = sym (append-nil texts)
texts_split texts (x ∷ calls) =
    texts_split (more_texts texts x.1 x.0) calls ∙ ap (λ (t : List (List ℕ)). t ++ texts_in calls) (one_text texts x.1 x.0)
    ∙ append_assoc texts (more_texts [] x.1 x.0) (texts_in calls)
    ∙ ap (λ (t : List (List ℕ)). texts ++ t) (sym (texts_split (more_texts [] x.1 x.0) calls))

-- the first calls have the first texts
texts_taken : (calls : Calls) (k : ℕ) → texts_in (take k calls) ≡ take (length (texts_in (take k calls))) (texts_in calls)
texts_taken calls k =
    let some = texts_in (take k calls) in
    let whole : texts_in calls ≡ some ++ texts_in (drop k calls) = ap (λ (l : Calls). texts_in l) (sym (take-append-drop k calls))
    ∙ texts_append [] (take k calls) (drop k calls) ∙ texts_split some (drop k calls) in
    sym (ap (λ (t : List (List ℕ)). take (length some) t) whole ∙ take-append_seam some (texts_in (drop k calls)))

-- ---- places in lists

map_append : {A B : Type 0} (f : A → B) (xs ys : List A) → map f (xs ++ ys) ≡ map f xs ++ map f ys
map_append f [] ys = refl
map_append f (x ∷ xs) ys = ap (λ (l : List _). f x ∷ l) (map_append f xs ys)

at_seam : {X : Type 0} (xs : List X) (y : X) (ys : List X) (n : ℕ) → n ≡ length xs → slice_get (xs ++ y ∷ ys) n ≡ Some y
at_seam [] y ys n is = rw is refl
at_seam (x ∷ xs) y ys n is = rw is (at_seam xs y ys (length xs) refl)

-- ---- what C is told

refused_text : (why : Refusal) (line : List ℕ) → text_told (code_of_refusal why) line ≡ []
refused_text refusal.NoEntry line = refl
refused_text refusal.NotDir line = refl
refused_text refusal.IsDir line = refl
refused_text refusal.Exist line = refl
refused_text refusal.NotEmpty line = refl
refused_text refusal.Inval line = refl
refused_text refusal.NameTooLong line = refl
refused_text refusal.Loop line = refl
refused_text refusal.Perm line = refl
refused_text refusal.Busy line = refl
refused_text refusal.BadHandle line = refl
refused_text refusal.TooManyOpen line = refl
refused_text refusal.TooManyLinks line = refl
refused_text refusal.FileTooBig line = refl
refused_text refusal.NoSpace line = refl
refused_text refusal.NoNumber line = refl
refused_text refusal.DirFull line = refl
refused_text refusal.NoMemory line = refl
refused_text refusal.Device line = refl
refused_text refusal.Halted line = refl
refused_text refusal.Stuck line = refl
refused_text refusal.Worn line = refl

not_done : (why : Refusal) → pos 0 ≡ code_of_refusal why → ⊥
not_done why is = let none = ap (λ (code : ℤ). text_told code []) is ∙ refused_text why [] in cc none

line_texts : (r r' : Recorder) (day line : List ℕ) (calls : Calls) (outcome : Result (Unit {0}) FsError) (code : ℤ)
    → TellsResult code outcome → EndsLine r r' day line calls outcome → texts_in calls ≡ text_told code line
line_texts r r' day line calls (Ok done) code tells (before, m, p, count, takes, none, order, same, few) =
    ap (λ (l : Calls). texts_in l) order ∙ texts_append [] before _ ∙ ap (λ (t : List (List ℕ)). t ++ text_of line ∷ []) (none [])
    ∙ sym (ap (λ (told : ℤ). text_told told line) tells)
line_texts r r' day line calls (Err fault) code tells ends =
    ends.0 [] ∙ sym (ap (λ (told : ℤ). text_told told line) tells ∙ refused_text (refusal_of fault) line)

save_texts : (outcome : Result (Unit {0}) FsError) → texts_in ((Sync, answer_by (λ done. Done) outcome) ∷ []) ≡ []
save_texts (Ok done) = refl
save_texts (Err fault) = refl

module _ {D : Type 0} (state : D → DeviceState) where
  -- ---- calls in a row, with their clocks

  row_append : (b a c : Mounted D) {cs cs' : List Call} {xs xs' : List Answer} {ts ts' : List ℕ} → ServesInARow state b a cs xs ts
      → ServesInARow state c b cs' xs' ts' → ServesInARow state c a (cs ++ cs') (xs ++ xs') (ts ++ ts')
  row_append b a c volume.no_more second = second
  row_append b a c (volume.is_served mid call answer serves rest) second =
      volume.is_served mid call answer serves (row_append b mid c rest second)
  row_append b a c (volume.is_tended mid tended rest) second = volume.is_tended mid tended (row_append b mid c rest second)

  calls_append : (a b c : Mounted D) (xs ys : Calls) (first : ServesCalls state a b xs) (second : ServesCalls state b c ys)
      → ServesInARow state c a (map (λ x. x.0) (xs ++ ys)) (map (λ x. x.1) (xs ++ ys)) (first.0 ++ second.0)
  calls_append a b c xs ys first second =
      subst (λ (l : List Call). ServesInARow state c a l (map (λ x. x.1) (xs ++ ys)) (first.0 ++ second.0))
      (sym (map_append (λ x. x.0) xs ys))
      (subst (λ (l : List Answer). ServesInARow state c a (map (λ x. x.0) xs ++ map (λ x. x.0) ys) l (first.0 ++ second.0))
      (sym (map_append (λ x. x.1) xs ys)) (row_append b a c first.1 second.1))

  abbrev serves_append : (a b c : Mounted D) (xs ys : Calls) → ServesCalls state a b xs → ServesCalls state b c ys
      → ServesCalls state a c (xs ++ ys)
  serves_append a b c xs ys first second = (first.0 ++ second.0, calls_append a b c xs ys first second)

  abbrev serves_one : (a b : Mounted D) (call : Call) (answer : Answer) → Serves state a b call answer
      → ServesCalls state a b ((call, answer) ∷ [])
  serves_one a b call answer serves = ((state b.log.device).moment ∷ [], volume.is_served b call answer serves volume.no_more)

  -- ---- calls by C as a recorder's

  record Row (a b : Mounted D) (r r' : Recorder) (texts : List (List ℕ)) : Type 0 where
    pub calls : Calls
    pub served : ServesCalls state a b calls
    pub does : Moves r calls r'
    pub has : texts_in calls ≡ texts

  joined : (a b c : Mounted D) (r m r' : Recorder) (xs ys : List (List ℕ)) → Row a b r m xs → Row b c m r' ys → Row a c r r' (xs ++ ys)
  joined a b c r m r' xs ys first second = record {
    calls = first.calls ++ second.calls;
    served = serves_append a b c first.calls second.calls first.served second.served;
    does = moves_append r m r' first.calls second.calls first.does second.does;
    has = texts_append [] first.calls second.calls ∙ texts_split (texts_in first.calls) second.calls
        ∙ ap₂ (λ (s t : List (List ℕ)). s ++ t) first.has second.has;
  }

  line_row : (old new : Fs D) (r r' : Recorder) (day line : List ℕ) (code : ℤ) → Writes state old new r r' day line code
      → Row (seen old) (seen new) r r' (text_told code line)
  line_row old new r r' day line code writes = record {
    calls = writes.takes.calls;
    served = writes.takes.makes.served;
    does = writes.takes.makes.moves;
    has = line_texts r r' day line writes.takes.calls writes.outcome code writes.tells writes.takes.ends;
  }

  save_row : (old new : Fs D) (r : Recorder) (code : ℤ) → SavesAll state old new r code → Row (seen old) (seen new) r r []
  save_row old new r code saves = record {
    calls = (Sync, answer_by (λ done. Done) saves.outcome) ∷ [];
    served = saves.saves.makes.served;
    does = saves.saves.makes.moves;
    has = save_texts saves.outcome;
  }

  empty_row : (v : Mounted D) (r : Recorder) → Row v v r r []
  empty_row v r = record { calls = []; served = serves_none state v; does = recorder.no_more; has = refl }

  tended_row : (a b c : Mounted D) (r r' : Recorder) (texts : List (List ℕ)) → volume.IsTended state a b → Row b c r r' texts
      → Row a c r r' texts
  tended_row a b c r r' texts tended those = record {
    calls = those.calls;
    served = (those.served.0, volume.is_tended b tended those.served.1);
    does = those.does;
    has = those.has;
  }

  -- ---- a volume that is mounted, with a recorder, has both behind a call

  record Wrote (old : Fs D) (was : Recorder) (after : Option (Fs D)) (now : Option Recorder) (day line : List ℕ) (code : ℤ) : Type 0 where
    pub new : Fs D
    pub mounted : after ≡ Some new
    pub goes_on : Recorder
    pub there : now ≡ Some goes_on
    pub writes : Writes state old new was goes_on day line code

  wrote : (old : Fs D) (was : Recorder) (before after : Option (Fs D)) (held now : Option Recorder) (day line : List ℕ) (code : ℤ)
      → before ≡ Some old → held ≡ Some was → WritesIn state ReadWrite before after held now day line code
      → Wrote old was after now day line code
  wrote old was (Some x) (Some y) (Some r) (Some r') day line code is has writes =
      subst (λ (f : Fs D). Wrote f was (Some y) (Some r') day line code) (Some-injective is)
      (subst (λ (p : Recorder). Wrote x p (Some y) (Some r') day line code) (Some-injective has)
      (record { new = y; mounted = refl; goes_on = r'; there = refl; writes = writes }))
  wrote old was (Some x) (Some y) (Some r) None day line code is has writes = absurd writes
  wrote old was (Some x) (Some y) None now day line code is has writes = absurd (cc has)
  wrote old was (Some x) None held now day line code is has writes = absurd writes
  wrote old was None after held now day line code is has writes = absurd (cc is)

  record Saved (old : Fs D) (was : Recorder) (after : Option (Fs D)) (code : ℤ) : Type 0 where
    pub new : Fs D
    pub mounted : after ≡ Some new
    pub saves : SavesAll state old new was code

  saved_all : (old : Fs D) (was : Recorder) (before after : Option (Fs D)) (held : Option Recorder) (code : ℤ)
      → before ≡ Some old → held ≡ Some was → SavesIn state ReadWrite before after held code → Saved old was after code
  saved_all old was (Some x) (Some y) (Some r) code is has saves =
      subst (λ (f : Fs D). Saved f was (Some y) code) (Some-injective is)
      (subst (λ (p : Recorder). Saved x p (Some y) code) (Some-injective has) (record { new = y; mounted = refl; saves = saves }))
  saved_all old was (Some x) (Some y) None code is has saves = absurd (cc has)
  saved_all old was (Some x) None held code is has saves = absurd saves
  saved_all old was None after held code is has saves = absurd (cc is)

  record Shows (old : Fs D) (was : Recorder) (after : Option (Fs D)) (now : Option Recorder) (texts : List (List ℕ)) : Type 0 where
    pub new : Fs D
    pub mounted : after ≡ Some new
    pub goes_on : Recorder
    pub there : now ≡ Some goes_on
    pub row : Row (seen old) (seen new) was goes_on texts

  rows : (last : Option (Fs D)) (end : Option Recorder) {before : Option (Fs D)} {held : Option Recorder} {texts : List (List ℕ)}
      → RecordsInARow state last end before held texts → (old : Fs D) (was : Recorder) → before ≡ Some old → held ≡ Some was
      → Shows old was last end texts
  rows last end no_more old was is has = record { new = old; mounted = is; goes_on = was; there = has; row = empty_row (seen old) was }
  rows last end {before} {held} (is_written {texts = texts} new now day line code writes rest) old was is has =
      let one = wrote old was before new held now day line code is has writes in
      let those = rows last end rest one.new one.goes_on one.mounted one.there in record {
        new = those.new;
        mounted = those.mounted;
        goes_on = those.goes_on;
        there = those.there;
        row = joined (seen old) (seen one.new) (seen those.new) was one.goes_on those.goes_on (text_told code line) texts
            (line_row old one.new was one.goes_on day line code one.writes) those.row;
      }
  rows last end {before} {held} (is_saved {texts = texts} new code saves rest) old was is has =
      let one = saved_all old was before new held code is has saves in
      let those = rows last end rest one.new was one.mounted has in record {
        new = those.new;
        mounted = those.mounted;
        goes_on = those.goes_on;
        there = those.there;
        row = joined (seen old) (seen one.new) (seen those.new) was was those.goes_on [] texts (save_row old one.new was code one.saves)
            those.row;
      }
  rows last end {held = held} {texts = texts} (is_tended before now same tended rest) old was is has =
      let those = rows last end rest now was refl has in
      subst (λ (f : Fs D). Shows f was last end texts) (Some-injective (sym same ∙ is)) (record {
        new = those.new;
        mounted = those.mounted;
        goes_on = those.goes_on;
        there = those.there;
        row = tended_row (seen before) (seen now) (seen those.new) was those.goes_on texts tended those.row;
      })

  -- ---- a recorder begins

  no_close : (a b : Mounted D) (closed : Result (Unit {0}) FsError) → Closes state a b None closed → ServesCalls state a b []
  no_close a b (Ok done) closes = subst (λ (l : Calls). ServesCalls state a b l) closes.ends closes.served
  no_close a b (Err fault) closes = absurd closes.ends

  begun_by : (a b : Mounted D) (r : Recorder) (bytes files : ℕ) (outcome : Result Recorder FsError) → TellsBegun (pos 0) (Some r) outcome
      → BeginsOn state a b bytes files outcome → BeginsOn state a b bytes files (Ok r)
  begun_by a b r bytes files (Ok begun) tells begins =
      subst (λ (x : Recorder). BeginsOn state a b bytes files (Ok x)) (sym (Some-injective tells.1)) begins
  begun_by a b r bytes files (Err fault) tells begins = absurd (cc tells.1)

  not_begun : (outcome : Result Recorder FsError) → TellsBegun (pos 0) None outcome → ⊥
  not_begun (Ok begun) tells = cc tells.1
  not_begun (Err fault) tells = not_done (refusal_of fault) tells.0

  begins_on : (old begun : Fs D) (was : Option Recorder) (r : Recorder) (bytes files : ℕ) → present_of was ≡ None
      → Begins state old begun was (Some r) bytes files (pos 0) → BeginsOn state (seen old) (seen begun) (min bytes MOST_BYTES) files (Ok r)
  begins_on old begun was r bytes files none begins =
      let on = begun_by begins.between (seen begun) r (min bytes MOST_BYTES) files begins.outcome begins.tells begins.begins in
      let before = no_close (seen old) begins.between begins.closed
      (subst (λ (p : Option Present). Closes state (seen old) begins.between p begins.closed) none begins.closes) in record {
        calls = on.calls;
        served = serves_append (seen old) begins.between (seen begun) [] on.calls before on.served;
        ends = on.ends;
      }

  record Begun (old : Fs D) (after : Option (Fs D)) (now : Option Recorder) (bytes files : ℕ) : Type 0 where
    pub new : Fs D
    pub mounted : after ≡ Some new
    pub goes_on : Recorder
    pub there : now ≡ Some goes_on
    pub begins : BeginsOn state (seen old) (seen new) (min bytes MOST_BYTES) files (Ok goes_on)

  begun : (old : Fs D) (after : Option (Fs D)) (was now : Option Recorder) (bytes files : ℕ) → present_of was ≡ None
      → BeginsIn state ReadWrite (Some old) after was now bytes files (pos 0) → Begun old after now bytes files
  begun old (Some new) was (Some r) bytes files none begins =
      record { new = new; mounted = refl; goes_on = r; there = refl; begins = begins_on old new was r bytes files none begins }
  begun old (Some new) was None bytes files none begins = absurd (not_begun begins.outcome begins.tells)
  begun old None was now bytes files none begins = absurd begins

  -- ---- a stop since a save

  clocks_of : (new : Mounted D) {old : Mounted D} {calls : List Call} {answers : List Answer} {clocks : List ℕ}
      → ServesInARow state new old calls answers clocks → length clocks ≡ length calls
  clocks_of new volume.no_more = refl
  clocks_of new (volume.is_served mid call answer serves rest) = let same = clocks_of new rest in omega (arith, same)
  clocks_of new (volume.is_tended mid tended rest) = clocks_of new rest

  synced : (old new : Fs D) (outcome : Result (Unit {0}) FsError) → TellsResult (pos 0) outcome
      → Serves state (seen old) (seen new) Sync (answer_by (λ done. Done) outcome) → Serves state (seen old) (seen new) Sync Done
  synced old new (Ok done) tells serves = serves
  synced old new (Err fault) tells serves = absurd (not_done (refusal_of fault) tells)

  holds_since : SessionsAreSaved state → (old begun between saved new : Fs D) (first later : List (List ℕ)) (bytes files : ℕ)
      (r m r' : Recorder) → BeginsOn state (seen old) (seen begun) bytes files (Ok r) → Row (seen begun) (seen between) r m first
      → SavesAll state between saved m (pos 0) → Row (seen saved) (seen new) m r' later → (state (seen new).log.device).keeps_model
      → (start : Point) → IsSavedAt state (seen old) start → (c : Content)
      → (state (seen new).log.device).left_since (state (seen saved).log.device).moment c
      → HoldsTexts (files_in start.state.tree) first later c
  holds_since sessions old begun between saved new first later bytes files r m r' begins one saves two keeps start at_start c left =
      let sync = synced between saved saves.outcome saves.tells saves.saves.serves in
      let rest = serves_append (seen between) (seen saved) (seen new) ((Sync, Done) ∷ []) two.calls
      (serves_one (seen between) (seen saved) Sync Done sync) two.served in
      let calls : Calls = one.calls ++ (Sync, Done) ∷ two.calls in
      let makes : Makes state (seen begun) (seen new) r calls r' = record {
        served = serves_append (seen begun) (seen between) (seen new) one.calls ((Sync, Done) ∷ two.calls) one.served rest;
        moves = moves_append r m r' one.calls ((Sync, Done) ∷ two.calls) one.does (recorder.saves two.does);
      } in
      let count = clocks_of (seen between) one.served.1 ∙ length-map one.calls (λ x. x.0) in
      let moment = (state (seen saved).log.device).moment in
      let leaves : LeavesFiles (files_in start.state.tree) calls (suc (length one.calls)) c =
      sessions (seen old) (seen begun) (seen new) bytes files r r' calls begins makes keeps start at_start (suc (length one.calls)) moment
      (at_seam one.served.0 moment two.served.0 (length one.calls) (sym count)) c left in
      let k = leaves.n - suc (length one.calls) in
      let behind = leaves.saved (length one.calls) (omega arith) (at_seam one.calls (Sync, Done) two.calls (length one.calls) refl) in
      let place : leaves.n ≡ length one.calls + suc k = omega (arith, behind) in
      let some = texts_in (take k two.calls) in
      let texts : texts_in (take leaves.n calls) ≡ first ++ take (length some) later =
      ap (λ (n : ℕ). texts_in (take n calls)) place
      ∙ ap (λ (l : Calls). texts_in l) (take-append-add one.calls ((Sync, Done) ∷ two.calls) (suc k))
      ∙ texts_append [] one.calls ((Sync, Done) ∷ take k two.calls)
      ∙ texts_split (texts_in one.calls) (take k two.calls)
      ∙ ap₂ (λ (s t : List (List ℕ)). s ++ t) one.has
      (texts_taken two.calls k ∙ ap (λ (t : List (List ℕ)). take (length some) t) two.has) in record {
        n = length some;
        tree = leaves.state;
        stands = leaves.stands;
        holds = subst (λ (t : List (List ℕ)). Holds (files_in start.state.tree) t (files_in leaves.state.tree)) texts leaves.holds;
      }

  pub records_are_saved : SessionsAreSaved state → RecordsAreSaved state
  records_are_saved sessions old saved new first later s keeps start at_start c left =
      let from = begun old s.begun s.was s.recorder s.bytes s.files s.none_open s.begins in
      let one = rows s.between s.next s.row from.new from.goes_on from.mounted from.there in
      let save = saved_all one.new one.goes_on s.between (Some saved) s.next (pos 0) one.mounted one.there s.saves in
      let two = rows (Some new) s.last s.rest saved one.goes_on refl one.there in
      let saves : SavesAll state one.new saved one.goes_on (pos 0) =
      subst (λ (f : Fs D). SavesAll state one.new f one.goes_on (pos 0)) (sym (Some-injective save.mounted)) save.saves in
      let after : Row (seen saved) (seen new) one.goes_on two.goes_on later =
      subst (λ (f : Fs D). Row (seen saved) (seen f) one.goes_on two.goes_on later) (sym (Some-injective two.mounted)) two.row in
      holds_since sessions old from.new one.new saved new first later (min s.bytes MOST_BYTES) s.files from.goes_on one.goes_on two.goes_on
      from.begins one.row saves after keeps start at_start c left
