-- The calls of a put, one after the other.
use Rattle.std.proofs.Common.{◌≡◌, ◌⊎◌, ◌≤◌, ◌^◌, ℕ, ◌+◌, List, [], ◌∷◌, ◌++◌, Option, Result, Ok, Err, length, refl, sym, ◌∙◌, ap}
use Rattle.std.proofs.Common.{subst, inl, inr, append_assoc, append-nil, length-append, arith}
use Rattle.std.specs.List.{AllByRecursion}
use Rattle.std.specs.Io.KnownBytes.{Consumes, IsAtEnd, Keeps}
use Rattle.std.proofs.KnownBytes.{Consumes-kept, Consumes-nil, Consumes-trans}
use Rattle.lfs_model.specs.Call.{Answer, Close, Count, Create, Done, Handle, LstatOf, Pwrite, Refuse, Rename, Sync, Unlink}
use Rattle.lfs_model.specs.Device.{DeviceState}
use Rattle.lfs_fs.specs.Refusals.{refusal_of}
use Rattle.lfs_fs.specs.Volume.{Mounted, Serves}
use Rattle.lfs_fs.specs.declared.error.FsError.{FsError}
use Rattle.lfs_fs.specs.declared.error.FsError.TheVariants as error
use Rattle.lfs_put.specs.declared.putting.PutFault.{PutFault}
use Rattle.lfs_put.specs.declared.putting.PutFault.TheVariants as why
use Rattle.lfs_put.proofs.CallLists.{serves_append}
use Rattle.lfs_put.specs.Calls.{Made, ServesAll, made}
use Rattle.lfs_put.specs.Placing.{Clears, IsBeside, IsTextCause, LooksFor}
use Rattle.lfs_put.specs.Putting.{Copies, GivesUp, IsUnsynced, MakesFile, Piece, PutsFile, RenamesFile, Replaces, SpareAll, SparesBy}
use Rattle.lfs_put.specs.Putting.{StopsRenaming, bytes_of, making, renaming, writes}

-- ---- lists of calls

all_append : (P : Made → Type 0) (xs ys : List Made) → AllByRecursion P xs → AllByRecursion P ys → AllByRecursion P (xs ++ ys)
all_append P [] ys first second = second
all_append P (m ∷ xs) ys first second = (first.0, all_append P xs ys first.1 second)

bytes_more : (ps : List Piece) (p : Piece) → bytes_of (ps ++ p ∷ []) ≡ bytes_of ps ++ p.bytes
bytes_more [] p = append-nil p.bytes
bytes_more (q ∷ ps) p = ap (λ (bs : List ℕ). q.bytes ++ bs) (bytes_more ps p) ∙ sym (append_assoc q.bytes (bytes_of ps) p.bytes)

-- a write of a piece from this offset on
abbrev written : ℕ → Piece → ℕ → List Made
written handle p offset = made (Pwrite handle offset p.bytes) (Count p.count) ∷ []

at_start : (o : ℕ) → o ≡ o + length {A = ℕ} []
at_start o = omega arith

at_next : (o : ℕ) (bs cs : List ℕ) → (o + length bs) + length cs ≡ o + length (bs ++ cs)
at_next o bs cs = let l = length-append bs cs in omega (arith, l)

writes_more : (handle o : ℕ) (ps : List Piece) (p : Piece)
    → writes handle o (ps ++ p ∷ []) ≡ writes handle o ps ++ written handle p (o + length (bytes_of ps))
writes_more handle o [] p = ap (written handle p) (at_start o)
writes_more handle o (q ∷ ps) p =
    ap (λ (ms : List Made). made (Pwrite handle o q.bytes) (Count q.count) ∷ ms)
    (writes_more handle (o + length q.bytes) ps p
    ∙ ap (λ (n : ℕ). writes handle (o + length q.bytes) ps ++ written handle p n) (at_next o q.bytes (bytes_of ps)))

writes_spare : (path beside : List ℕ) (handle o : ℕ) (ps : List Piece) → SpareAll path beside handle (writes handle o ps)
writes_spare path beside handle o [] = tt
writes_spare path beside handle o (p ∷ ps) = (refl, writes_spare path beside handle (o + length p.bytes) ps)

making_spare : (path beside : List ℕ) (handle : ℕ) (ps : List Piece) → SpareAll path beside handle (making beside handle ps)
making_spare path beside handle ps = (
  (refl, inl refl),
  all_append (λ (m : Made). SparesBy path beside handle m.call m.answer) (writes handle 0 ps)
      (made (Close handle) Done ∷ []) (writes_spare path beside handle 0 ps) (refl, tt),
)

-- what a file's renaming leaves behind its making, where it stops
spares_behind : (beside path : List ℕ) (handle : ℕ) (pieces : List Piece) (calls : List Made) {fault : PutFault}
    → StopsRenaming beside path calls fault
    → SpareAll path beside handle (making beside handle pieces ++ calls)
    ⊎ IsUnsynced path beside handle (making beside handle pieces ++ calls)
spares_behind beside path handle pieces calls (refused, is, inl order) =
    inl (all_append (λ (m : Made). SparesBy path beside handle m.call m.answer) (making beside handle pieces) calls
    (making_spare path beside handle pieces) (subst (SpareAll path beside handle) (sym order) (tt, tt)))
spares_behind beside path handle pieces calls (refused, is, inr (inl order)) =
    inl (all_append (λ (m : Made). SparesBy path beside handle m.call m.answer) (making beside handle pieces) calls
    (making_spare path beside handle pieces) (subst (SpareAll path beside handle) (sym order) (tt, ((refl, refl, refl), tt))))
spares_behind beside path handle pieces calls (refused, is, inr (inr order)) =
    let file = making beside handle pieces in
    let last = made (Rename beside path) Done ∷ made Sync (Refuse (refusal_of refused)) ∷ [] in
    inr (record {
      before = file ++ made Sync Done ∷ [];
      refusal = refusal_of refused;
      after = [];
      order = ap (λ (ms : List Made). file ++ ms) order ∙ sym (append_assoc file (made Sync Done ∷ []) last);
      spare_before = all_append (λ (m : Made). SparesBy path beside handle m.call m.answer) file (made Sync Done ∷ [])
          (making_spare path beside handle pieces) (tt, tt);
      spare_after = tt;
    })

module _ {D : Type 0} (state : D → DeviceState) where
  -- ---- a copy

  -- how far a copy has come
  pub record Copying (old now : Mounted D) (handle : ℕ) (r left : Option (List ℕ)) (offset : ℕ) : Type 0 where
    pub pieces : List Piece
    pub served : ServesAll state old now (writes handle 0 pieces)
    pub read : Consumes r left (bytes_of pieces)
    pub counted : offset ≡ length (bytes_of pieces)

  pub copying_none : (v : Mounted D) {handle : ℕ} (r : Option (List ℕ)) → Copying v v handle r r 0
  copying_none v r = record { pieces = []; served = refl; read = Consumes-nil r; counted = refl }

  pub copying_more : (old mid new : Mounted D) {handle : ℕ} {r left : Option (List ℕ)} (left' : Option (List ℕ)) {offset : ℕ}
      {bytes : List ℕ} (count end : ℕ)
      → Copying old mid handle r left offset
      → Consumes left left' bytes → Serves state mid new (Pwrite handle offset bytes) (Count count) → end ≡ offset + length bytes
      → Copying old new handle r left' end
  copying_more old mid new {handle} {r} {left} left' {offset} {bytes} count end so_far read serves is =
      let p : Piece = record { bytes = bytes; count = count } in
      let at : offset ≡ 0 + length (bytes_of so_far.pieces) = (let same = so_far.counted in omega (arith, same)) in
      let last : ServesAll state mid new (written handle p (0 + length (bytes_of so_far.pieces))) =
      subst (λ (n : ℕ). ServesAll state mid new (written handle p n)) at (new, serves, refl) in
      record {
        pieces = so_far.pieces ++ p ∷ [];
        served = subst (ServesAll state old new) (sym (writes_more handle 0 so_far.pieces p))
            (serves_append state old mid new (writes handle 0 so_far.pieces) _ so_far.served last);
        read = subst (Consumes r left') (sym (bytes_more so_far.pieces p))
            (Consumes-trans r left left' (bytes_of so_far.pieces) bytes so_far.read read);
        counted = (
            let same = so_far.counted in
            let l = length-append (bytes_of so_far.pieces) bytes in
            let m = ap length (bytes_more so_far.pieces p) in
            omega (arith, same, is, l, m));
      }

  -- the reader is at its end
  pub copied : (old new : Mounted D) (handle : ℕ) (r left left' : Option (List ℕ)) {offset : ℕ} → Copying old new handle r left offset
      → Consumes left left' [] → IsAtEnd left'
      → Copies state old new handle r left' (Ok offset)
  copied old new handle r left left' so_far none end = record {
    calls = writes handle 0 so_far.pieces;
    served = so_far.served;
    outcome = (
      so_far.pieces,
      refl,
      record {
        read = subst (Consumes r left') (append-nil (bytes_of so_far.pieces))
            (Consumes-trans r left left' (bytes_of so_far.pieces) [] so_far.read none);
        all = end;
        counted = so_far.counted;
      },
    );
  }

  -- no further piece could be read
  pub copy_ends : {old new : Mounted D} {handle : ℕ} {r : Option (List ℕ)} (left left' : Option (List ℕ)) {offset : ℕ}
      → Copying old new handle r left offset → Keeps left left' → Copies state old new handle r left' (Err why.Input)
  copy_ends {handle} {r} left left' so_far kept = record {
    calls = writes handle 0 so_far.pieces;
    served = so_far.served;
    outcome = (
      λ path beside. writes_spare path beside handle 0 so_far.pieces,
      record {
        pieces = so_far.pieces;
        order = refl;
        read = Consumes-kept r left left' (bytes_of so_far.pieces) so_far.read kept;
      },
    );
  }

  -- no offset is behind the next piece
  pub copy_too_long : {old new : Mounted D} {handle : ℕ} {r left : Option (List ℕ)} (left' : Option (List ℕ)) {offset : ℕ}
      (bytes : List ℕ) → Copying old new handle r left offset → Consumes left left' bytes → 2 ^ 64 ≤ offset + length bytes
      → Copies state old new handle r left' (Err (why.Call error.FileTooBig))
  copy_too_long {handle} {r} {left} left' bytes so_far read long = record {
    calls = writes handle 0 so_far.pieces;
    served = so_far.served;
    outcome = (
      λ path beside. writes_spare path beside handle 0 so_far.pieces,
      inr (record {
        pieces = so_far.pieces;
        bytes = bytes;
        order = refl;
        read = Consumes-trans r left left' (bytes_of so_far.pieces) bytes so_far.read read;
        long = (
            let same = so_far.counted in
            let l = length-append (bytes_of so_far.pieces) bytes in
            omega (arith, same, long, l));
        is = refl;
      }),
    );
  }

  pub copy_refused : (old mid new : Mounted D) {handle : ℕ} {r left : Option (List ℕ)} (left' : Option (List ℕ)) {offset : ℕ}
      (bytes : List ℕ) (fault : FsError) → Copying old mid handle r left offset → Consumes left left' bytes
      → Serves state mid new (Pwrite handle offset bytes) (Refuse (refusal_of fault))
      → Copies state old new handle r left' (Err (why.Call fault))
  copy_refused old mid new {handle} {r} {left} left' bytes fault so_far read serves =
      let last = made (Pwrite handle (length (bytes_of so_far.pieces)) bytes) (Refuse (refusal_of fault)) ∷ [] in
      record {
        calls = writes handle 0 so_far.pieces ++ last;
        served = serves_append state old mid new (writes handle 0 so_far.pieces) last so_far.served
            (subst (λ (n : ℕ). ServesAll state mid new (made (Pwrite handle n bytes) (Refuse (refusal_of fault)) ∷ [])) so_far.counted
            (new, serves, refl));
        outcome = (
          λ path beside. all_append (λ (m : Made). SparesBy path beside handle m.call m.answer) (writes handle 0 so_far.pieces) last
              (writes_spare path beside handle 0 so_far.pieces) (refl, tt),
          inl (record {
            pieces = so_far.pieces;
            bytes = bytes;
            order = refl;
            read = Consumes-trans r left left' (bytes_of so_far.pieces) bytes so_far.read read;
          }),
        );
      }

  -- ---- a file

  pub create_refused : {old : Mounted D} (new : Mounted D) {beside : List ℕ} (r : Option (List ℕ)) (fault : FsError)
      → Serves state old new (Create beside) (Refuse (refusal_of fault))
      → MakesFile state old new beside r r (Err (why.Call fault))
  create_refused new {beside} r fault serves = record {
    handle = 0;
    calls = made (Create beside) (Refuse (refusal_of fault)) ∷ [];
    served = (new, serves, refl);
    outcome = (
      λ path. ((refl, inr refl), tt),
      inl (record { refused = fault; is = refl; order = refl; unread = refl }),
    );
  }

  -- the calls between creation and closing
  between : {a : Mounted D} (b c d : Mounted D) {beside : List ℕ} {handle : ℕ} (calls : List Made) {answer : Answer}
      → Serves state a b (Create beside) (Handle handle) → ServesAll state b c calls
      → Serves state c d (Close handle) answer
      → ServesAll state a d (made (Create beside) (Handle handle) ∷ (calls ++ made (Close handle) answer ∷ []))
  between b c d {handle} calls {answer} creates copies closes =
      (b, creates, serves_append state b c d calls (made (Close handle) answer ∷ []) copies (d, closes, refl))

  between_spare : (path beside : List ℕ) (handle : ℕ) (calls : List Made) (answer : Answer) → SpareAll path beside handle calls
      → SpareAll path beside handle (made (Create beside) (Handle handle) ∷ (calls ++ made (Close handle) answer ∷ []))
  between_spare path beside handle calls answer spares = (
    (refl, inl refl),
    all_append (λ (m : Made). SparesBy path beside handle m.call m.answer) calls (made (Close handle) answer ∷ []) spares (refl, tt),
  )

  pub file_made : (a b c d : Mounted D) {beside : List ℕ} {handle : ℕ} (r : Option (List ℕ)) {r' : Option (List ℕ)} {count : ℕ}
      → Serves state a b (Create beside) (Handle handle) → Copies state b c handle r r' (Ok count)
      → Serves state c d (Close handle) Done → MakesFile state a d beside r r' (Ok count)
  file_made a b c d {beside} {handle} r creates copies closes =
      let pieces = copies.outcome.0 in
      let wrote : ServesAll state b c (writes handle 0 pieces) = subst (ServesAll state b c) copies.outcome.1 copies.served in
      record {
        handle = handle;
        calls = making beside handle pieces;
        served = between b c d (writes handle 0 pieces) creates wrote closes;
        outcome = (pieces, refl, copies.outcome.2);
      }

  pub copy_failed : (a b c d : Mounted D) {beside : List ℕ} {handle : ℕ} (r : Option (List ℕ)) {r' : Option (List ℕ)} {fault : PutFault}
      (answer : Answer)
      → Serves state a b (Create beside) (Handle handle)
      → Copies state b c handle r r' (Err fault) → Serves state c d (Close handle) answer → MakesFile state a d beside r r' (Err fault)
  copy_failed a b c d {beside} {handle} r answer creates copies closes = record {
    handle = handle;
    calls = made (Create beside) (Handle handle) ∷ (copies.calls ++ made (Close handle) answer ∷ []);
    served = between b c d copies.calls creates copies.served closes;
    outcome = (
      λ path. between_spare path beside handle copies.calls answer (copies.outcome.0 path beside),
      inr (inl (record { body = copies.calls; closed = answer; order = refl; stops = copies.outcome.1 })),
    );
  }

  pub close_refused : (a b c d : Mounted D) {beside : List ℕ} {handle : ℕ} (r : Option (List ℕ)) {r' : Option (List ℕ)} {count : ℕ}
      (fault : FsError) → Serves state a b (Create beside) (Handle handle) → Copies state b c handle r r' (Ok count)
      → Serves state c d (Close handle) (Refuse (refusal_of fault)) → MakesFile state a d beside r r' (Err (why.Call fault))
  close_refused a b c d {beside} {handle} r {count} fault creates copies closes =
      let pieces = copies.outcome.0 in
      let answer = Refuse (refusal_of fault) in
      let wrote : ServesAll state b c (writes handle 0 pieces) = subst (ServesAll state b c) copies.outcome.1 copies.served in
      record {
        handle = handle;
        calls = made (Create beside) (Handle handle) ∷ (writes handle 0 pieces ++ made (Close handle) answer ∷ []);
        served = between b c d (writes handle 0 pieces) creates wrote closes;
        outcome = (
          λ path. between_spare path beside handle (writes handle 0 pieces) answer (writes_spare path beside handle 0 pieces),
          inr (inr (record { refused = fault; is = refl; pieces = pieces; count = count; read = copies.outcome.2; order = refl })),
        );
      }

  -- ---- its name

  pub sync_refused : {X : Type 0} (a b : Mounted D) (beside path : List ℕ) (fault : FsError)
      → Serves state a b Sync (Refuse (refusal_of fault))
      → RenamesFile state {X = X} a b beside path (Err (why.Call fault))
  sync_refused a b beside path fault syncs = record {
    calls = made Sync (Refuse (refusal_of fault)) ∷ [];
    served = (b, syncs, refl);
    outcome = (fault, refl, inl refl);
  }

  pub rename_refused : {X : Type 0} (a b c : Mounted D) {beside path : List ℕ} (fault : FsError)
      → Serves state a b Sync Done
      → Serves state b c (Rename beside path) (Refuse (refusal_of fault))
      → RenamesFile state {X = X} a c beside path (Err (why.Call fault))
  rename_refused a b c {beside} {path} fault syncs renames = record {
    calls = made Sync Done ∷ made (Rename beside path) (Refuse (refusal_of fault)) ∷ [];
    served = (b, syncs, (c, renames, refl));
    outcome = (fault, refl, inr (inl refl));
  }

  pub not_synced : {X : Type 0} (a b c d : Mounted D) {beside path : List ℕ} (fault : FsError)
      → Serves state a b Sync Done → Serves state b c (Rename beside path) Done
      → Serves state c d Sync (Refuse (refusal_of fault)) → RenamesFile state {X = X} a d beside path (Err (why.Call fault))
  not_synced a b c d {beside} {path} fault syncs renames last = record {
    calls = renaming beside path (Refuse (refusal_of fault));
    served = (b, syncs, (c, renames, (d, last, refl)));
    outcome = (fault, refl, inr (inr refl));
  }

  pub file_renamed : {X : Type 0} (a b c d : Mounted D) {beside path : List ℕ} {done : X} → Serves state a b Sync Done
      → Serves state b c (Rename beside path) Done → Serves state c d Sync Done
      → RenamesFile state {X = X} a d beside path (Ok done)
  file_renamed a b c d {beside} {path} syncs renames last = record {
    calls = renaming beside path Done;
    served = (b, syncs, (c, renames, (d, last, refl)));
    outcome = refl;
  }

  -- ---- the file under its name

  pub not_made : (a b : Mounted D) {beside : List ℕ} (path : List ℕ) (r : Option (List ℕ)) {r' : Option (List ℕ)} {fault : PutFault}
      → MakesFile state a b beside r r' (Err fault) → Replaces state a b beside path r r' (Err fault)
  not_made a b path r makes = record {
    handle = makes.handle;
    calls = makes.calls;
    served = makes.served;
    outcome = (inl (makes.outcome.0 path), inl makes.outcome.1);
  }

  -- the calls of a file that was made, and those behind it
  both : (a b c : Mounted D) {beside : List ℕ} {r r' : Option (List ℕ)} {count : ℕ} (calls : List Made)
      (makes : MakesFile state a b beside r r' (Ok count)) → ServesAll state b c calls
      → ServesAll state a c (making beside makes.handle makes.outcome.0 ++ calls)
  both a b c {beside} calls makes more =
      serves_append state a b c (making beside makes.handle makes.outcome.0) calls
      (subst (ServesAll state a b) makes.outcome.1 makes.served) more

  pub replaced : {X : Type 0} (a b c : Mounted D) {beside path : List ℕ} (r r' : Option (List ℕ)) {count : ℕ} {done : X}
      → MakesFile state a b beside r r' (Ok count)
      → RenamesFile state {X = X} b c beside path (Ok done) → Replaces state a c beside path r r' (Ok count)
  replaced a b c {beside} {path} r r' {count} makes renames = record {
    handle = makes.handle;
    calls = making beside makes.handle makes.outcome.0 ++ renaming beside path Done;
    served = both a b c (renaming beside path Done) makes (subst (ServesAll state b c) renames.outcome renames.served);
    outcome = (makes.outcome.0, refl, makes.outcome.2);
  }

  pub not_renamed : (a b c : Mounted D) {beside path : List ℕ} (r r' : Option (List ℕ)) {count : ℕ} (fault : PutFault)
      → MakesFile state a b beside r r' (Ok count)
      → RenamesFile state {X = Unit {0}} b c beside path (Err fault) → Replaces state a c beside path r r' (Err fault)
  not_renamed a b c {beside} {path} r r' {count} fault makes renames = record {
    handle = makes.handle;
    calls = making beside makes.handle makes.outcome.0 ++ renames.calls;
    served = both a b c renames.calls makes renames.served;
    outcome = (
      spares_behind beside path makes.handle makes.outcome.0 renames.calls renames.outcome,
      inr (record {
        pieces = makes.outcome.0;
        count = count;
        read = makes.outcome.2;
        behind = renames.calls;
        order = refl;
        stops = renames.outcome;
      }),
    );
  }

  -- ---- a whole put

  pub put_none : (a : Mounted D) {path : List ℕ} (r : Option (List ℕ)) (fault : PutFault) → IsTextCause path fault
      → PutsFile state a a path r r (Err fault)
  put_none a {path} r fault cause = record {
    beside = [];
    handle = 0;
    calls = [];
    served = refl;
    place = inl (refl, refl);
    outcome = (inl tt, inl (record { none = refl; unread = refl; cause = cause }));
  }

  pub looked_alone : (a b : Mounted D) {path beside : List ℕ} (r : Option (List ℕ)) (fault : PutFault) → IsBeside path beside
      → LooksFor state {X = Unit {0}} a b path (Err fault) → PutsFile state a b path r r (Err fault)
  looked_alone a b {path} {beside} r fault is (looked, looks, forbids) = record {
    beside = beside;
    handle = 0;
    calls = made (LstatOf path) looked ∷ [];
    served = (b, looks, refl);
    place = inr is;
    outcome = (inl (refl, tt), inr (inl (record { looked = looked; order = refl; unread = refl; cause = forbids })));
  }

  pub cleared_alone : (a b c : Mounted D) {path beside : List ℕ} (r : Option (List ℕ)) (fault : PutFault) → IsBeside path beside
      → LooksFor state {X = Unit {0}} a b path (Ok tt) → Clears state {X = Unit {0}} b c beside (Err fault)
      → PutsFile state a c path r r (Err fault)
  cleared_alone a b c {path} {beside} r (why.Call fault) is (looked, looks, lets) (cleared, clears, (same, there)) = record {
    beside = beside;
    handle = 0;
    calls = made (LstatOf path) looked ∷ made (Unlink beside) cleared ∷ [];
    served = (b, looks, (c, clears, refl));
    place = inr is;
    outcome = (
      inl (refl, (refl, tt)),
      inr (inr (inl (record {
        looked = looked;
        refused = fault;
        is = refl;
        order = ap (λ (answer : Answer). made (LstatOf path) looked ∷ made (Unlink beside) answer ∷ []) same;
        unread = refl;
        place = lets;
        there = there;
      }))),
    );
  }
  cleared_alone a b c r fault is (looked, looks, lets) (cleared, clears, none) = absurd none

  pub put_whole : (a b c d : Mounted D) {path beside : List ℕ} (r : Option (List ℕ)) {r' : Option (List ℕ)} {count : ℕ}
      → IsBeside path beside
      → LooksFor state {X = Unit {0}} a b path (Ok tt) → Clears state {X = Unit {0}} b c beside (Ok tt)
      → Replaces state c d beside path r r' (Ok count) → PutsFile state a d path r r' (Ok count)
  put_whole a b c d {path} {beside} r is (looked, looks, lets) (cleared, clears, clear) replaces = record {
    beside = beside;
    handle = replaces.handle;
    calls = made (LstatOf path) looked ∷ made (Unlink beside) cleared
        ∷ (making beside replaces.handle replaces.outcome.0 ++ renaming beside path Done);
    served = (b, looks, (c, clears, subst (ServesAll state c d) replaces.outcome.1 replaces.served));
    place = inr is;
    outcome = (looked, lets, cleared, clear, replaces.outcome.0, refl, replaces.outcome.2);
  }

  -- the calls that look, clear and try, and those that give up, leave what stands at the path, as those that try do
  spares_around : (path beside : List ℕ) (handle : ℕ) (looked cleared gone synced : Answer) (tried : List Made)
      → SpareAll path beside handle tried ⊎ IsUnsynced path beside handle tried
      → SpareAll path beside handle (made (LstatOf path) looked ∷ made (Unlink beside) cleared
      ∷ (tried ++ made (Unlink beside) gone ∷ made Sync synced ∷ []))
      ⊎ IsUnsynced path beside handle (made (LstatOf path) looked ∷ made (Unlink beside) cleared
      ∷ (tried ++ made (Unlink beside) gone ∷ made Sync synced ∷ []))
  spares_around path beside handle looked cleared gone synced tried (inl spares) =
      inl (
        refl,
        (
          refl,
          all_append (λ (m : Made). SparesBy path beside handle m.call m.answer) tried
              (made (Unlink beside) gone ∷ made Sync synced ∷ []) spares (refl, (tt, tt)),
        ),
      )
  spares_around path beside handle looked cleared gone synced tried (inr unsynced) =
      let last = made (Unlink beside) gone ∷ made Sync synced ∷ [] in
      let done = made (Rename beside path) Done ∷ made Sync (Refuse unsynced.refusal) ∷ unsynced.after in
      inr (record {
        before = made (LstatOf path) looked ∷ made (Unlink beside) cleared ∷ unsynced.before;
        refusal = unsynced.refusal;
        after = unsynced.after ++ last;
        order = ap (λ (ms : List Made). made (LstatOf path) looked ∷ made (Unlink beside) cleared ∷ ms)
            (ap (λ (ms : List Made). ms ++ last) unsynced.order ∙ append_assoc unsynced.before done last);
        spare_before = (refl, (refl, unsynced.spare_before));
        spare_after = all_append (λ (m : Made). SparesBy path beside handle m.call m.answer) unsynced.after last unsynced.spare_after
            (refl, (tt, tt));
      })

  pub given_up : (a b c d e : Mounted D) {path beside : List ℕ} (r r' : Option (List ℕ)) (fault : PutFault) → IsBeside path beside
      → LooksFor state {X = Unit {0}} a b path (Ok tt) → Clears state {X = Unit {0}} b c beside (Ok tt)
      → Replaces state c d beside path r r' (Err fault) → GivesUp state d e beside → PutsFile state a e path r r' (Err fault)
  given_up a b c d e {path} {beside} r r' fault is (looked, looks, lets) (cleared, clears, clear) replaces (gone, synced, gives_up) =
      let last = made (Unlink beside) gone ∷ made Sync synced ∷ [] in
      record {
        beside = beside;
        handle = replaces.handle;
        calls = made (LstatOf path) looked ∷ made (Unlink beside) cleared ∷ (replaces.calls ++ last);
        served = (b, looks, (c, clears, serves_append state c d e replaces.calls last replaces.served gives_up));
        place = inr is;
        outcome = (
          spares_around path beside replaces.handle looked cleared gone synced replaces.calls replaces.outcome.0,
          inr (inr (inr (record {
            looked = looked;
            cleared = cleared;
            tried = replaces.calls;
            gone = gone;
            synced = synced;
            order = refl;
            place = lets;
            clear = clear;
            stops = replaces.outcome.1;
          }))),
        );
      }

  -- ---- a record of a result that is known

  pub replaces_of : (a b : Mounted D) {beside path : List ℕ} (r r' : Option (List ℕ)) {result is : Result ℕ PutFault} → result ≡ is
      → Replaces state a b beside path r r' result
      → Replaces state a b beside path r r' is
  replaces_of a b {beside} {path} r r' same = subst (Replaces state a b beside path r r') same
