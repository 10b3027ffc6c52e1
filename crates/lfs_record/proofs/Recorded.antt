-- The calls of a recorder's functions, one behind the other.
use Rattle.std.proofs.Common.{◌≡◌, ◌⊎◌, inl, inr, ⊎_elim, ◌<◌, ℕ, true, false, List, [], ◌∷◌, ◌++◌, Some, None, Result, Ok, Err, map}
use Rattle.std.proofs.Common.{refl, sym, ap, ◌∙◌, subst, append_assoc, append-nil, arith, zero-add, ◌+◌}
use Rattle.lfs_model.specs.Call.{Answer, Call, DirectoryEntry, Done, Entries, Readdir, Refuse, Unlink}
use Rattle.lfs_model.specs.Device.{DeviceState}
use Rattle.lfs_model.specs.declared.limits.TheConstants.{MOST_ENTRIES}
use Rattle.lfs_fs.specs.InARow.{ServesInARow, is_served, is_tended, no_more as row_ends}
use Rattle.lfs_fs.specs.Refusals.{refusal_of}
use Rattle.lfs_fs.specs.Seen.{answer_by}
use Rattle.lfs_fs.specs.Volume.{Mounted, Serves}
use Rattle.lfs_fs.specs.declared.error.FsError.{FsError}
use Rattle.lfs_fs.specs.declared.error.FsError.TheVariants as error
use Rattle.lfs_record.specs.Files.{count_files, oldest}
use Rattle.lfs_record.specs.Kept.{IsOwn}
use Rattle.lfs_record.specs.Moves.{Calls, Drops, IsForRoom, Moves, goes_on, goes_to, grown, is_refused, keeps_few, lists, makes_room}
use Rattle.lfs_record.specs.Moves.{more_texts}
use Rattle.lfs_record.specs.Moves.{no_more, root, saves, started, starts, texts_behind, writes}
use Rattle.lfs_record.specs.Names.{path_of}
use Rattle.lfs_record.specs.Recording.{CallsWithRoom, DropsOldest, EndsRefused, Fails, HasFew, HasNoRoom, IsFew, KeepsFew, gone_in}
use Rattle.lfs_record.specs.Recording.{MakesRoom, Removes, ServesCalls, Stops, WritesNone}
use Rattle.lfs_record.specs.declared.recorder.Recorder.{Recorder}

-- the root, listed
abbrev pub listing : List DirectoryEntry → Call × Answer
listing entries = (Readdir root, Entries entries)

-- ---- lists of calls

map_append : {A B : Type 0} (f : A → B) (xs ys : List A) → map f (xs ++ ys) ≡ map f xs ++ map f ys
map_append f [] ys = refl
map_append f (x ∷ xs) ys = ap (λ (l : List _). f x ∷ l) (map_append f xs ys)

texts_append : (texts : List (List ℕ)) (xs ys : Calls) → texts_behind texts (xs ++ ys) ≡ texts_behind (texts_behind texts xs) ys
texts_append texts [] ys = refl
texts_append texts (x ∷ xs) ys = texts_append (more_texts texts x.1 x.0) xs ys

pub quiet_append : (xs ys : Calls) → WritesNone xs → WritesNone ys → WritesNone (xs ++ ys)
quiet_append xs ys quiet quiet' texts =
    texts_append texts xs ys ∙ ap (λ (t : List (List ℕ)). texts_behind t ys) (quiet texts) ∙ quiet' texts

gone_append : (xs ys : Calls) → gone_in (xs ++ ys) ≡ gone_in xs + gone_in ys
gone_append [] ys = sym (zero-add (gone_in ys))
gone_append (x ∷ xs) ys = (let rest = gone_append xs ys in omega (arith, rest))

pub moves_append : (r m r' : Recorder) (xs ys : Calls) → Moves r xs m → Moves m ys r' → Moves r (xs ++ ys) r'
moves_append r m r' xs ys no_more behind = behind
moves_append r m r' xs ys (is_refused {calls = calls} call refusal own moves) behind = is_refused call refusal own
    (moves_append r m r' calls ys moves behind)
moves_append r m r' xs ys (lists {calls = calls} entries moves) behind = lists entries (moves_append r m r' calls ys moves behind)
moves_append r m r' xs ys (saves {calls = calls} moves) behind = saves (moves_append r m r' calls ys moves behind)
moves_append r m r' xs ys (starts {calls = calls} day handle is few none moves) behind =
    starts day handle is few none (moves_append (started r day handle) m r' calls ys moves behind)
moves_append r m r' xs ys (goes_on {calls = calls} day handle p closed is few present moves) behind =
    goes_on day handle p closed is few present (moves_append (started r day handle) m r' calls ys moves behind)
moves_append r m r' xs ys (writes {calls = calls} p line count is present moves) behind =
    writes p line count is present (moves_append (goes_to r (grown p line)) m r' calls ys moves behind)
moves_append r m r' xs ys (makes_room {calls = calls} {dropped = dropped} call refusal own room drops moves) behind =
    subst (λ (l : Calls). Moves r ((call, Refuse refusal) ∷ l) r') (sym (append_assoc dropped calls ys))
    (makes_room call refusal own room drops (moves_append r m r' calls ys moves behind))
moves_append r m r' xs ys (keeps_few {calls = calls} {dropped = dropped} some drops more moves) behind =
    subst (λ (l : Calls). Moves r l r') (sym (append_assoc dropped calls ys))
    (keeps_few some drops more (moves_append r m r' calls ys moves behind))

module _ {D : Type 0} (state : D → DeviceState) where
  row_append : (b a c : Mounted D) {cs cs' : List Call} {xs xs' : List Answer} {ts ts' : List ℕ} → ServesInARow state b a cs xs ts
      → ServesInARow state c b cs' xs' ts' → ServesInARow state c a (cs ++ cs') (xs ++ xs') (ts ++ ts')
  row_append b a c row_ends second = second
  row_append b a c (is_served mid call answer serves rest) second = is_served mid call answer serves (row_append b mid c rest second)
  row_append b a c (is_tended mid tended rest) second = is_tended mid tended (row_append b mid c rest second)

  pub serves_append : (a b c : Mounted D) (xs ys : Calls) → ServesCalls state a b xs → ServesCalls state b c ys
      → ServesCalls state a c (xs ++ ys)
  serves_append a b c xs ys first second = (
    first.0 ++ second.0,
    subst (λ (l : List Call). ServesInARow state c a l (map (λ x. x.1) (xs ++ ys)) (first.0 ++ second.0))
        (sym (map_append (λ x. x.0) xs ys))
        (subst (λ (l : List Answer). ServesInARow state c a (map (λ x. x.0) xs ++ map (λ x. x.0) ys) l (first.0 ++ second.0))
        (sym (map_append (λ x. x.1) xs ys)) (row_append b a c first.1 second.1)),
  )

  pub serves_none : (v : Mounted D) → ServesCalls state v v []
  serves_none v = ([], row_ends)

  pub serves_one : (a b : Mounted D) (call : Call) (answer : Answer) → Serves state a b call answer
      → ServesCalls state a b ((call, answer) ∷ [])
  serves_one a b call answer serves = ((state b.log.device).moment ∷ [], is_served b call answer serves row_ends)

  -- ---- a name that goes

  pub removed : (X : Type 0) (a b : Mounted D) (name : List ℕ) (result : Result X FsError)
      → Serves state a b (Unlink (path_of name)) (answer_by (λ done. Done) result) → Removes state a b name result
  removed X a b name (Ok done) serves = record {
    calls = (Unlink (path_of name), Done) ∷ [];
    served = serves_one a b (Unlink (path_of name)) Done serves;
    ends = refl;
  }
  removed X a b name (Err fault) serves = record {
    calls = (Unlink (path_of name), Refuse (refusal_of fault)) ∷ [];
    served = serves_one a b (Unlink (path_of name)) (Refuse (refusal_of fault)) serves;
    ends = inl refl;
  }

  pub not_removed : {X : Type 0} (v : Mounted D) (name : List ℕ) → Removes state {X = X} v v name (Err error.NoMemory)
  not_removed v name = record { calls = []; served = serves_none v; ends = inr (refl, refl) }

  -- ---- calls that fail

  pub fails_refused : (r : Recorder) (call : Call) (fault : FsError) → IsOwn call → Fails r ((call, Refuse (refusal_of fault)) ∷ []) fault
  fails_refused r call fault own = record {
    moves = is_refused call (refusal_of fault) own no_more;
    quiet = λ texts. refl;
    cause = inl ([], call, refl);
  }

  -- a listing before it
  listed_first : (r : Recorder) (entries : List DirectoryEntry) (calls : Calls) (fault : FsError) → Fails r calls fault
      → Fails r (listing entries ∷ calls) fault
  listed_first r entries calls fault fails = record {
    moves = lists entries fails.moves;
    quiet = λ texts. fails.quiet texts;
    cause = ⊎_elim (λ (e : EndsRefused calls fault). inl (
      listing entries ∷ e.0,
      e.1,
      ap (λ (l : Calls). listing entries ∷ l) e.2,
    ))
        (λ (e : fault ≡ error.NoMemory). inr e) fails.cause;
  }

  removal_fails : (r : Recorder) (name : List ℕ) (calls : Calls) (fault : FsError)
      → ((calls ≡ (Unlink (path_of name), Refuse (refusal_of fault)) ∷ []) ⊎ ((calls ≡ []) × (fault ≡ error.NoMemory)))
      → Fails r calls fault
  removal_fails r name calls fault (inl is) =
      subst (λ (l : Calls). Fails r l fault) (sym is) (fails_refused r (Unlink (path_of name)) fault tt)
  removal_fails r name calls fault (inr is) =
      subst (λ (l : Calls). Fails r l fault) (sym is.0) (record { moves = no_more; quiet = λ texts. refl; cause = inr is.1 })

  -- ---- room

  pub no_room_first : {X : Type 0} (v : Mounted D) (r : Recorder) (fault : FsError) → MakesRoom state {X = X} v v r fault (Err fault)
  no_room_first v r fault = record { calls = []; served = serves_none v; ends = inl (refl, inl refl) }

  pub room_unlisted : {X : Type 0} (a b : Mounted D) (r : Recorder) (fault cause : FsError)
      → Serves state a b (Readdir root) (Refuse (refusal_of cause)) → MakesRoom state {X = X} a b r fault (Err cause)
  room_unlisted a b r fault cause serves = record {
    calls = (Readdir root, Refuse (refusal_of cause)) ∷ [];
    served = serves_one a b (Readdir root) (Refuse (refusal_of cause)) serves;
    ends = inr (fails_refused r (Readdir root) cause tt);
  }

  pub none_older : {X : Type 0} (a b : Mounted D) (r : Recorder) (fault : FsError) (entries : List DirectoryEntry)
      → Serves state a b (Readdir root) (Entries entries) → IsForRoom (refusal_of fault) → oldest r.number entries ≡ None
      → MakesRoom state {X = X} a b r fault (Err fault)
  none_older a b r fault entries serves room none = record {
    calls = listing entries ∷ [];
    served = serves_one a b (Readdir root) (Entries entries) serves;
    ends = inl (refl, inr (entries, refl, room, none));
  }

  pub room_made : {X : Type 0} (a b c : Mounted D) (r : Recorder) (fault : FsError) (entries : List DirectoryEntry) (file : DirectoryEntry)
      (result : Result X FsError) → Serves state a b (Readdir root) (Entries entries) → IsForRoom (refusal_of fault)
      → oldest r.number entries ≡ Some file → Removes state b c file.name result → MakesRoom state a c r fault result
  room_made a b c r fault entries file (Ok done) serves room is removes = record {
    calls = listing entries ∷ removes.calls;
    served = serves_append a b c (listing entries ∷ []) removes.calls (serves_one a b (Readdir root) (Entries entries) serves)
        removes.served;
    ends = (
      room,
      record {
        entries = entries;
        file = file;
        is = is;
        order = ap (λ (l : Calls). listing entries ∷ l) removes.ends;
      },
    );
  }
  room_made a b c r fault entries file (Err cause) serves room is removes = record {
    calls = listing entries ∷ removes.calls;
    served = serves_append a b c (listing entries ∷ []) removes.calls (serves_one a b (Readdir root) (Entries entries) serves)
        removes.served;
    ends = inr (listed_first r entries removes.calls cause (removal_fails r file.name removes.calls cause removes.ends));
  }

  -- ---- files that are too many

  pub drop_unlisted : (a b : Mounted D) (r : Recorder) (cause : FsError) → Serves state a b (Readdir root) (Refuse (refusal_of cause))
      → DropsOldest state a b r (Err cause)
  drop_unlisted a b r cause serves = record {
    calls = (Readdir root, Refuse (refusal_of cause)) ∷ [];
    served = serves_one a b (Readdir root) (Refuse (refusal_of cause)) serves;
    ends = fails_refused r (Readdir root) cause tt;
  }

  pub none_dropped : (a b : Mounted D) (r : Recorder) (entries : List DirectoryEntry) → Serves state a b (Readdir root) (Entries entries)
      → IsFew r entries → DropsOldest state a b r (Ok false)
  none_dropped a b r entries serves few = record {
    calls = listing entries ∷ [];
    served = serves_one a b (Readdir root) (Entries entries) serves;
    ends = (entries, refl, few);
  }

  module _ {X : Type 0} (a b c : Mounted D) (r : Recorder) (entries : List DirectoryEntry) (file : DirectoryEntry)
      (serves : Serves state a b (Readdir root) (Entries entries)) (is : oldest r.number entries ≡ Some file) where
    pub dropped : (done : X) → r.files < count_files entries → Removes state b c file.name (Ok done) → DropsOldest state a c r (Ok true)
    dropped done many removes = record {
      calls = listing entries ∷ removes.calls;
      served = serves_append a b c (listing entries ∷ []) removes.calls (serves_one a b (Readdir root) (Entries entries) serves)
          removes.served;
      ends = (
        record { entries = entries; file = file; is = is; order = ap (λ (l : Calls). listing entries ∷ l) removes.ends },
        many,
      );
    }

    pub not_dropped : (cause : FsError) → Removes state {X = X} b c file.name (Err cause) → DropsOldest state a c r (Err cause)
    not_dropped cause removes = record {
      calls = listing entries ∷ removes.calls;
      served = serves_append a b c (listing entries ∷ []) removes.calls (serves_one a b (Readdir root) (Entries entries) serves)
          removes.served;
      ends = listed_first r entries removes.calls cause (removal_fails r file.name removes.calls cause removes.ends);
    }

  -- ---- calls so far, which leave the recorder and write nothing

  pub record SoFar (a b : Mounted D) (r : Recorder) : Type 0 where
    pub calls : Calls
    pub served : ServesCalls state a b calls
    pub moves : Moves r calls r
    pub quiet : WritesNone calls

  abbrev pub none_yet : (v : Mounted D) (r : Recorder) → SoFar v v r
  none_yet v r = record { calls = []; served = serves_none v; moves = no_more; quiet = λ texts. refl }

  -- refused calls and files that went change no text
  pub drops_quiet : (r : Recorder) (calls : Calls) → Drops r calls → WritesNone calls
  drops_quiet r calls drops = subst WritesNone (sym drops.order) (λ texts. refl)

  abbrev pub drop_more : (a b c : Mounted D) (r : Recorder) → 0 < r.files → SoFar a b r → DropsOldest state b c r (Ok true) → SoFar a c r
  drop_more a b c r some so_far drops = record {
    calls = so_far.calls ++ drops.calls;
    served = serves_append a b c so_far.calls drops.calls so_far.served drops.served;
    moves = moves_append r r r so_far.calls drops.calls so_far.moves
        (subst (λ (l : Calls). Moves r l r) (append-nil drops.calls) (keeps_few some drops.ends.0 drops.ends.1 no_more));
    quiet = quiet_append so_far.calls drops.calls so_far.quiet (drops_quiet r drops.calls drops.ends.0);
  }

  few_left : {X : Type 0} (a b : Mounted D) (r : Recorder) (done : X) (so_far : SoFar a b r) → HasFew r so_far.calls
      → KeepsFew state a b r (Ok done)
  few_left a b r done so_far few = record {
    calls = so_far.calls;
    makes = record { served = so_far.served; moves = so_far.moves };
    quiet = so_far.quiet;
    ends = few;
  }

  pub few_all : {X : Type 0} (v : Mounted D) (r : Recorder) (done : X) → r.files ≡ 0 → KeepsFew state v v r (Ok done)
  few_all v r done all = few_left v v r done (none_yet v r) (inl all)

  -- files that went, each by one drop
  pub record Dropped (a b : Mounted D) (r : Recorder) (rounds : ℕ) : Type 0 where
    pub so_far : SoFar a b r
    pub gone : gone_in so_far.calls ≡ rounds

  pub none_went : (v : Mounted D) (r : Recorder) → Dropped v v r 0
  none_went v r = record { so_far = none_yet v r; gone = refl }

  pub one_went : (a b c : Mounted D) (r : Recorder) (rounds : ℕ) → 0 < r.files → Dropped a b r rounds → DropsOldest state b c r (Ok true)
      → Dropped a c r (rounds + 1)
  one_went a b c r rounds some dropped drops = record {
    so_far = drop_more a b c r some dropped.so_far drops;
    gone = (
        let all = gone_append dropped.so_far.calls drops.calls in
        let one : gone_in drops.calls ≡ 1 = ap gone_in drops.ends.0.order in
        let was = dropped.gone in
        omega (arith, all, one, was));
  }

  pub few_gone : {X : Type 0} (a b : Mounted D) (r : Recorder) (done : X) (rounds : ℕ) → MOST_ENTRIES < rounds → Dropped a b r rounds
      → KeepsFew state a b r (Ok done)
  few_gone a b r done rounds many dropped =
      few_left a b r done dropped.so_far (inr (inr (subst (λ (n : ℕ). MOST_ENTRIES < n) (sym dropped.gone) many)))

  pub few_now : {X : Type 0} (a b c : Mounted D) (r : Recorder) (done : X) → SoFar a b r → DropsOldest state b c r (Ok false)
      → KeepsFew state a c r (Ok done)
  few_now a b c r done so_far drops = record {
    calls = so_far.calls ++ drops.calls;
    makes = record {
      served = serves_append a b c so_far.calls drops.calls so_far.served drops.served;
      moves = moves_append r r r so_far.calls drops.calls so_far.moves
          (subst (λ (l : Calls). Moves r l r) (sym drops.ends.1) (lists drops.ends.0 no_more));
    };
    quiet = quiet_append so_far.calls drops.calls so_far.quiet (subst WritesNone (sym drops.ends.1) (λ texts. refl));
    ends = inr (inl (so_far.calls, drops.ends.0, ap (λ (l : Calls). so_far.calls ++ l) drops.ends.1, drops.ends.2));
  }

  -- an end behind others is theirs
  refused_behind : (xs ys : Calls) (fault : FsError) → EndsRefused ys fault → EndsRefused (xs ++ ys) fault
  refused_behind xs ys fault e = (
    xs ++ e.0,
    e.1,
    ap (λ (l : Calls). xs ++ l) e.2
        ∙ sym (append_assoc xs e.0 ((e.1, Refuse (refusal_of fault)) ∷ [])),
  )

  cause_behind : (xs ys : Calls) (fault : FsError) → (EndsRefused ys fault ⊎ (fault ≡ error.NoMemory))
      → (EndsRefused (xs ++ ys) fault ⊎ (fault ≡ error.NoMemory))
  cause_behind xs ys fault (inl e) = inl (refused_behind xs ys fault e)
  cause_behind xs ys fault (inr e) = inr e

  stops_by : (r : Recorder) (calls : Calls) (fault : FsError) → (EndsRefused calls fault ⊎ (fault ≡ error.NoMemory)) → Stops r calls fault
  stops_by r calls fault (inl e) = inl e
  stops_by r calls fault (inr e) = inr (inr (inr e))

  pub few_fails : {X : Type 0} (a b c : Mounted D) (r : Recorder) (fault : FsError) → SoFar a b r → DropsOldest state b c r (Err fault)
      → KeepsFew state {X = X} a c r (Err fault)
  few_fails a b c r fault so_far drops = record {
    calls = so_far.calls ++ drops.calls;
    makes = record {
      served = serves_append a b c so_far.calls drops.calls so_far.served drops.served;
      moves = moves_append r r r so_far.calls drops.calls so_far.moves drops.ends.moves;
    };
    quiet = quiet_append so_far.calls drops.calls so_far.quiet drops.ends.quiet;
    ends = cause_behind so_far.calls drops.calls fault drops.ends.cause;
  }

  -- ---- a call that is made until there is room

  module _ {X : Type 0} (a b : Mounted D) (r : Recorder) (call : Call) (f : X → Answer) (own : IsOwn call) (so_far : SoFar a b r) where
    pub call_done : (c : Mounted D) (x : X) → Serves state b c call (f x) → CallsWithRoom state a c r call f (Ok x)
    call_done c x serves = record {
      calls = so_far.calls ++ (call, f x) ∷ [];
      served = serves_append a b c so_far.calls ((call, f x) ∷ []) so_far.served (serves_one b c call (f x) serves);
      ends = (so_far.calls, so_far.moves, so_far.quiet, refl);
    }

    pub call_refused : (c : Mounted D) (fault : FsError) → Serves state b c call (Refuse (refusal_of fault))
        → CallsWithRoom state a c r call f (Err fault)
    call_refused c fault serves =
        let last : Calls = (call, Refuse (refusal_of fault)) ∷ [] in record {
          calls = so_far.calls ++ last;
          served = serves_append a b c so_far.calls last so_far.served (serves_one b c call (Refuse (refusal_of fault)) serves);
          ends = (
            moves_append r r r so_far.calls last so_far.moves (is_refused call (refusal_of fault) own no_more),
            quiet_append so_far.calls last so_far.quiet (λ texts. refl),
            inl (so_far.calls, call, refl),
          );
        }

    pub call_tried : (c : Mounted D) (result : Result X FsError) → Serves state b c call (answer_by f result)
        → CallsWithRoom state a c r call f result
    call_tried c (Ok x) serves = call_done c x serves
    call_tried c (Err fault) serves = call_refused c fault serves

    module _ {Y : Type 0} (c d : Mounted D) (fault : FsError) (serves : Serves state b c call (Refuse (refusal_of fault))) where
      pub call_again : (done : Y) → MakesRoom state c d r fault (Ok done) → SoFar a d r
      call_again done room =
          let first : Calls = (call, Refuse (refusal_of fault)) ∷ [] in record {
            calls = so_far.calls ++ (call, Refuse (refusal_of fault)) ∷ room.calls;
            served = serves_append a b d so_far.calls (first ++ room.calls) so_far.served
                (serves_append b c d first room.calls (serves_one b c call (Refuse (refusal_of fault)) serves) room.served);
            moves = moves_append r r r so_far.calls ((call, Refuse (refusal_of fault)) ∷ room.calls) so_far.moves
                (subst (λ (l : Calls). Moves r ((call, Refuse (refusal_of fault)) ∷ l) r) (append-nil room.calls)
                (makes_room call (refusal_of fault) own room.ends.0 room.ends.1 no_more));
            quiet = quiet_append so_far.calls ((call, Refuse (refusal_of fault)) ∷ room.calls) so_far.quiet
                (λ texts. drops_quiet r room.calls room.ends.1 texts);
          }

      pub call_ends : (cause : FsError) → MakesRoom state {X = Y} c d r fault (Err cause) → CallsWithRoom state a d r call f (Err cause)
      call_ends cause room =
          let first : Calls = (call, Refuse (refusal_of fault)) ∷ [] in
          let rest : Calls = (call, Refuse (refusal_of fault)) ∷ room.calls in
          let by : (HasNoRoom r room.calls fault cause ⊎ Fails r room.calls cause)
          → Moves r rest r × WritesNone rest × Stops r (so_far.calls ++ rest) cause =
          λ (e : HasNoRoom r room.calls fault cause ⊎ Fails r room.calls cause).
          ⊎_elim (λ (none : HasNoRoom r room.calls fault cause). without room.calls none)
          (λ (fails : Fails r room.calls cause). (
            is_refused call (refusal_of fault) own fails.moves,
            λ (texts : List (List ℕ)). fails.quiet texts,
            stops_by r (so_far.calls ++ rest) cause (cause_behind so_far.calls rest cause
                (cause_behind first room.calls cause fails.cause)),
          )) e in
          let ends = by room.ends in record {
            calls = so_far.calls ++ rest;
            served = serves_append a b d so_far.calls (first ++ room.calls) so_far.served
                (serves_append b c d first room.calls (serves_one b c call (Refuse (refusal_of fault)) serves) room.served);
            ends = (
              moves_append r r r so_far.calls rest so_far.moves ends.0,
              quiet_append so_far.calls rest so_far.quiet ends.1,
              ends.2,
            );
          }
        where
          without : (calls : Calls) → HasNoRoom r calls fault cause → Moves r ((call, Refuse (refusal_of fault)) ∷ calls) r
              × WritesNone ((call, Refuse (refusal_of fault)) ∷ calls)
              × Stops r (so_far.calls ++ (call, Refuse (refusal_of fault)) ∷ calls) cause
          without calls (same, inl is) =
              subst (λ (l : Calls). Moves r ((call, Refuse (refusal_of fault)) ∷ l) r × WritesNone ((call, Refuse (refusal_of fault)) ∷ l)
              × Stops r (so_far.calls ++ (call, Refuse (refusal_of fault)) ∷ l) cause) (sym is)
              (subst (λ (g : FsError). Moves r ((call, Refuse (refusal_of fault)) ∷ []) r
              × WritesNone ((call, Refuse (refusal_of fault)) ∷ [])
              × Stops r (so_far.calls ++ (call, Refuse (refusal_of fault)) ∷ []) g) (sym same)
              (is_refused call (refusal_of fault) own no_more, λ texts. refl, inl (so_far.calls, call, refl)))
          without calls (same, inr is) =
              subst (λ (l : Calls). Moves r ((call, Refuse (refusal_of fault)) ∷ l) r × WritesNone ((call, Refuse (refusal_of fault)) ∷ l)
              × Stops r (so_far.calls ++ (call, Refuse (refusal_of fault)) ∷ l) cause) (sym is.1)
              (subst (λ (g : FsError). Moves r ((call, Refuse (refusal_of fault)) ∷ listing is.0 ∷ []) r
              × WritesNone ((call, Refuse (refusal_of fault)) ∷ listing is.0 ∷ [])
              × Stops r (so_far.calls ++ (call, Refuse (refusal_of fault)) ∷ listing is.0 ∷ []) g) (sym same) (
                is_refused call (refusal_of fault) own (lists is.0 no_more),
                λ texts. refl,
                inr (inl (record { before = so_far.calls; call = call; entries = is.0; order = refl; room = is.2; none = is.3 })),
              ))
