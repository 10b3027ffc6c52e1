-- The file that a line goes to, and the line.
use Rattle.std.proofs.Common.{◌≡◌, ◌⊎◌, inl, inr, ◌<◌, ℕ, true, false, List, [], ◌∷◌, ◌++◌, Option, Some, None, Result, Ok, Err, refl}
use Rattle.std.proofs.Common.{sym, ap, ◌∙◌, subst, append_assoc, append-nil, arith}
use Rattle.lfs_model.specs.Call.{Answer, Call, Close, Count, Create, Done, Handle, Refuse, Sync}
use Rattle.lfs_model.specs.Device.{DeviceState}
use Rattle.lfs_fs.specs.Refusals.{refusal_of}
use Rattle.lfs_fs.specs.Seen.{answer_by}
use Rattle.lfs_fs.specs.Volume.{Mounted, Serves}
use Rattle.lfs_fs.specs.declared.error.FsError.{FsError}
use Rattle.lfs_fs.specs.declared.error.FsError.TheVariants as error
use Rattle.lfs_record.specs.Kept.{text_of}
use Rattle.lfs_record.specs.Moves.{Calls, IsLine, Moves, goes_on, goes_to, grown, is_refused, next_path, no_more, saves, started, starts}
use Rattle.lfs_record.specs.Moves.{writes}
use Rattle.lfs_record.specs.Names.{is_day}
use Rattle.lfs_record.specs.Recording.{CallsAreJoined, CallsWithRoom, Closes, EndsClose, EndsRefused, IsAtLast, IsKeptFew, IsNoLine}
use Rattle.lfs_record.specs.Recording.{IsUnfit, KeepsFew, ServesCalls, Stops}
use Rattle.lfs_record.specs.Recording.{Saves, Takes, TakesLine, Turns, WritesNone, writing}
use Rattle.lfs_record.specs.declared.names.TheConstants.{LAST}
use Rattle.lfs_record.specs.declared.recorder.Present.{Present}
use Rattle.lfs_record.specs.declared.recorder.Recorder.{Recorder}
use Rattle.lfs_record.proofs.Recorded.{moves_append, quiet_append, serves_append, serves_none, serves_one}
use Rattle.lfs_record.proofs.Running.{no_text}

-- behind more calls it stays so
few_more : (old r : Recorder) (calls more : Calls) → IsKeptFew old r calls → IsKeptFew old r (calls ++ more)
few_more old r calls more (inl same) = inl same
few_more old r calls more (inr is) =
    inr (is.0, is.1, is.2 ++ more, ap (λ (l : Calls). l ++ more) is.3 ∙ append_assoc (is.0 ++ is.1) is.2 more, is.4)

module _ {D : Type 0} (state : D → DeviceState) where
  pub closed_none : {X : Type 0} (v : Mounted D) (done : X) → Closes state v v None (Ok done)
  closed_none v done = record { calls = []; served = serves_none state v; ends = refl }

  pub closed_one : {X : Type 0} (a b : Mounted D) (p : Present) (result : Result X FsError)
      → Serves state a b (Close p.handle) (answer_by (λ done. Done) result) → Closes state a b (Some p) result
  closed_one a b p result serves = record {
    calls = (Close p.handle, answer_by (λ done. Done) result) ∷ [];
    served = serves_one state a b (Close p.handle) (answer_by (λ done. Done) result) serves;
    ends = refl;
  }

  module _ (a b c : Mounted D) (r : Recorder) (day : List ℕ) (handle : ℕ) (is : is_day day ≡ true) (few : r.number < LAST)
      (creates : CallsWithRoom state a b r (Create (next_path r day)) Handle (Ok handle)) where
    abbrev first : Call × Answer
    first = (Create (next_path r day), Handle handle)

    abbrev new : Recorder
    new = started r day handle

    -- the calls behind the creation, by the file before
    behind : {X : Type 0} (o : Option Present) (result : Result X FsError) (calls : Calls) → r.present ≡ o → EndsClose o calls result
        → Moves r (first ∷ calls) new × WritesNone (first ∷ calls)
    behind None (Ok done) calls present ends =
        subst (λ (l : Calls). Moves r (first ∷ l) new × WritesNone (first ∷ l)) (sym ends)
        (starts day handle is few present no_more, λ texts. refl)
    behind None (Err fault) calls present ends = absurd ends
    behind (Some p) result calls present ends =
        let answer : Answer = answer_by (λ done. Done) result in
        subst (λ (l : Calls). Moves r (first ∷ l) new × WritesNone (first ∷ l)) (sym ends)
        (goes_on day handle p answer is few present no_more, λ texts. no_text texts answer p.handle)

    module _ {X : Type 0} (result : Result X FsError) (closes : Closes state b c r.present result) where
      abbrev all : Calls
      all = creates.ends.0 ++ first ∷ closes.calls

      served_all : ServesCalls state a c all
      served_all = subst (ServesCalls state a c) (append_assoc creates.ends.0 (first ∷ []) closes.calls)
          (serves_append state a b c (creates.ends.0 ++ first ∷ []) closes.calls
          (subst (ServesCalls state a b) creates.ends.3 creates.served) closes.served)

      moves_all : Moves r all new
      moves_all = moves_append r r new creates.ends.0 (first ∷ closes.calls) creates.ends.1
          (behind r.present result closes.calls refl closes.ends).0

      quiet_all : WritesNone all
      quiet_all = quiet_append creates.ends.0 (first ∷ closes.calls) creates.ends.2
          (behind r.present result closes.calls refl closes.ends).1

    -- the file before isn't closed
    pub turn_unclosed : {X : Type 0} (fault : FsError) → Closes state {X = X} b c r.present (Err fault)
        → Turns state a c r new day (Err fault)
    turn_unclosed {X} fault closes = record {
      calls = all {X = X} (Err fault) closes;
      makes = record { served = served_all (Err fault) closes; moves = moves_all (Err fault) closes };
      quiet = quiet_all (Err fault) closes;
      ends = inl (last r.present closes.calls closes.ends);
    }
      where
        last : (o : Option Present) (calls : Calls) → EndsClose {X = X} o calls (Err fault)
            → EndsRefused (creates.ends.0 ++ first ∷ calls) fault
        last None calls ends = absurd ends
        last (Some p) calls ends = (
          creates.ends.0 ++ first ∷ [],
          Close p.handle,
          ap (λ (l : Calls). creates.ends.0 ++ first ∷ l) ends
              ∙ sym (append_assoc creates.ends.0 (first ∷ []) ((Close p.handle, Refuse (refusal_of fault)) ∷ [])),
        )

    module _ {X : Type 0} (done : X) (closes : Closes state b c r.present (Ok done)) where
      abbrev opened : Calls
      opened = all (Ok done) closes

      pub turn_done : {Y : Type 0} (d : Mounted D) (few_left : Y) → KeepsFew state c d new (Ok few_left)
          → Turns state a d r new day (Ok (record { handle = handle; day = day; end = 0 }))
      turn_done d few_left keeps = record {
        calls = opened ++ keeps.calls;
        makes = record {
          served = serves_append state a c d opened keeps.calls (served_all (Ok done) closes) keeps.makes.served;
          moves = moves_append r new new opened keeps.calls (moves_all (Ok done) closes) keeps.makes.moves;
        };
        quiet = quiet_append opened keeps.calls (quiet_all (Ok done) closes) keeps.quiet;
        ends = (
          record { is = refl; same_day = refl; short = inl refl; low = omega arith },
          inr (opened, keeps.calls, [], sym (append-nil (opened ++ keeps.calls)), keeps.ends),
        );
      }

      pub turn_many : {Y : Type 0} (d : Mounted D) (fault : FsError) → KeepsFew state {X = Y} c d new (Err fault)
          → Turns state a d r new day (Err fault)
      turn_many d fault keeps = record {
        calls = opened ++ keeps.calls;
        makes = record {
          served = serves_append state a c d opened keeps.calls (served_all (Ok done) closes) keeps.makes.served;
          moves = moves_append r new new opened keeps.calls (moves_all (Ok done) closes) keeps.makes.moves;
        };
        quiet = quiet_append opened keeps.calls (quiet_all (Ok done) closes) keeps.quiet;
        ends = by keeps.ends;
      }
        where
          by : (EndsRefused keeps.calls fault ⊎ (fault ≡ error.NoMemory)) → Stops new (opened ++ keeps.calls) fault
          by (inl e) = inl (
            opened ++ e.0,
            e.1,
            ap (λ (l : Calls). opened ++ l) e.2
                ∙ sym (append_assoc opened e.0 ((e.1, Refuse (refusal_of fault)) ∷ [])),
          )
          by (inr e) = inr (inr (inr e))

  pub turn_uncreated : {X : Type 0} (a b : Mounted D) (r : Recorder) (day : List ℕ) (call : Call) (f : X → Answer) (fault : FsError)
      → CallsWithRoom state a b r call f (Err fault) → Turns state a b r r day (Err fault)
  turn_uncreated a b r day call f fault creates = record {
    calls = creates.calls;
    makes = record { served = creates.served; moves = creates.ends.0 };
    quiet = creates.ends.1;
    ends = creates.ends.2;
  }

  pub turn_stops : (v : Mounted D) (r : Recorder) (day : List ℕ) (fault : FsError) → (IsAtLast r fault ⊎ (fault ≡ error.NoMemory))
      → Turns state v v r r day (Err fault)
  turn_stops v r day fault why = record {
    calls = [];
    makes = record { served = serves_none state v; moves = no_more };
    quiet = λ texts. refl;
    ends = inr (inr why);
  }

  pub turn_stays : (v : Mounted D) (r : Recorder) (day : List ℕ) (p : Present) → Takes r day p → Turns state v v r r day (Ok p)
  turn_stays v r day p takes = record {
    calls = [];
    makes = record { served = serves_none state v; moves = no_more };
    quiet = λ texts. refl;
    ends = (takes, inl refl);
  }

  -- ---- the line

  pub no_day : {X : Type 0} (v : Mounted D) (r : Recorder) (day line : List ℕ) → is_day day ≡ false
      → TakesLine state {X = X} v v r r day line (Err error.Inval)
  no_day v r day line is = record {
    calls = [];
    makes = record { served = serves_none state v; moves = no_more };
    ends = (λ texts. refl, inr (refl, refl, inl is));
  }

  pub no_line : {X : Type 0} (v : Mounted D) (r : Recorder) (day line : List ℕ) (fault : FsError) → IsNoLine line fault
      → TakesLine state {X = X} v v r r day line (Err fault)
  no_line v r day line fault why = record {
    calls = [];
    makes = record { served = serves_none state v; moves = no_more };
    ends = (λ texts. refl, by why);
  }
    where
      by : IsNoLine line fault → Stops r [] fault ⊎ IsUnfit day line [] fault
      by (inl unfit) = inr (refl, unfit.0, inr unfit.1)
      by (inr memory) = inl (inr (inr (inr memory)))

  pub line_unturned : {X : Type 0} (a b : Mounted D) (r m : Recorder) (day line : List ℕ) (fault : FsError)
      → Turns state a b r m day (Err fault)
      → TakesLine state {X = X} a b r m day line (Err fault)
  line_unturned a b r m day line fault turns = record {
    calls = turns.calls;
    makes = turns.makes;
    ends = (turns.quiet, inl turns.ends);
  }

  module _ (a b c : Mounted D) (r m : Recorder) (day line : List ℕ) (p : Present) (turns : Turns state a b r m day (Ok p)) where
    pub line_unwritten : {X Y : Type 0} (call : Call) (f : Y → Answer) (fault : FsError) → CallsWithRoom state b c m call f (Err fault)
        → TakesLine state {X = X} a c r m day line (Err fault)
    line_unwritten call f fault with_room = record {
      calls = turns.calls ++ with_room.calls;
      makes = record {
        served = serves_append state a b c turns.calls with_room.calls turns.makes.served with_room.served;
        moves = moves_append r m m turns.calls with_room.calls turns.makes.moves with_room.ends.0;
      };
      ends = (quiet_append turns.calls with_room.calls turns.quiet with_room.ends.1, inl (by with_room.ends.2));
    }
      where
        by : Stops m with_room.calls fault → Stops m (turns.calls ++ with_room.calls) fault
        by (inl e) = inl (
          turns.calls ++ e.0,
          e.1,
          ap (λ (l : Calls). turns.calls ++ l) e.2
              ∙ sym (append_assoc turns.calls e.0 ((e.1, Refuse (refusal_of fault)) ∷ [])),
        )
        by (inr (inl full)) = inr (inl (record {
          before = turns.calls ++ full.before;
          call = full.call;
          entries = full.entries;
          order = ap (λ (l : Calls). turns.calls ++ l) full.order ∙ sym (append_assoc turns.calls full.before _);
          room = full.room;
          none = full.none;
        }))
        by (inr (inr why)) = inr (inr why)

    pub line_written : {X : Type 0} (done : X) (text : List ℕ) (count : ℕ) (r' : Recorder) → IsLine line → text ≡ text_of line
        → CallsWithRoom state b c m (writing p text) Count (Ok count) → r' ≡ goes_to m (grown p line)
        → TakesLine state a c r r' day line (Ok done)
    line_written done text count r' is same with_room now =
        let takes : Takes m day p = turns.ends.0 in
        let last : Call × Answer = (writing p (text_of line), Count count) in
        let order : with_room.calls ≡ with_room.ends.0 ++ last ∷ [] =
        with_room.ends.3 ∙ ap (λ (t : List ℕ). with_room.ends.0 ++ (writing p t, Count count) ∷ []) same in
        record {
          calls = turns.calls ++ with_room.calls;
          makes = record {
            served = serves_append state a b c turns.calls with_room.calls turns.makes.served with_room.served;
            moves = moves_append r m r' turns.calls with_room.calls turns.makes.moves
                (subst (λ (l : Calls). Moves m l r') (sym order)
                (moves_append m m r' with_room.ends.0 (last ∷ []) with_room.ends.1
                (subst (λ (x : Recorder). Moves m (last ∷ []) x) (sym now) (writes p line count is takes.is no_more))));
          };
          ends = (
            turns.calls ++ with_room.ends.0,
            m,
            p,
            count,
            takes,
            quiet_append turns.calls with_room.ends.0 turns.quiet with_room.ends.2,
            ap (λ (l : Calls). turns.calls ++ l) order ∙ sym (append_assoc turns.calls with_room.ends.0 (last ∷ [])),
            now,
            few_more r m turns.calls with_room.ends.0 turns.ends.1,
          );
        }

  -- ---- a save

  pub saved : {X : Type 0} (a b : Mounted D) (r : Recorder) (result : Result X FsError)
      → Serves state a b Sync (answer_by (λ done. Done) result) → Saves state a b r result
  saved a b r (Ok done) serves = record {
    serves = serves;
    makes = record { served = serves_one state a b Sync Done serves; moves = saves no_more };
  }
  saved a b r (Err fault) serves = record {
    serves = serves;
    makes = record {
      served = serves_one state a b Sync (Refuse (refusal_of fault)) serves;
      moves = is_refused Sync (refusal_of fault) tt no_more;
    };
  }

  pub calls_joined : CallsAreJoined state
  calls_joined a b c r m r' xs ys first second = record {
    served = serves_append state a b c xs ys first.served second.served;
    moves = moves_append r m r' xs ys first.moves second.moves;
  }
