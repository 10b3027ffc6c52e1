-- The calls of a get, one after the other.
use Rattle.std.proofs.Common.{◌≡◌, ◌≢◌, ◌<◌, ◌⊎◌, ℕ, zero, suc, ◌+◌, get_or, List, [], ◌∷◌, ◌++◌, All, Option, Ok, Err, length, refl}
use Rattle.std.proofs.Common.{sym, ◌∙◌, ap, subst, inl, inr, append_assoc, append-nil, length-append, arith}
use Rattle.std.specs.List.{AllByRecursion, concat}
use Rattle.std.specs.Io.KnownBytes.{Appends}
use Rattle.std.proofs.KnownBytes.{Appends-nil, Appends-trans}
use Rattle.lfs_model.specs.Call.{Answer, Close, Data, Done, Handle, Open, Pread, Refuse}
use Rattle.lfs_model.specs.Device.{DeviceState}
use Rattle.lfs_fs.specs.Refusals.{refusal_of}
use Rattle.lfs_fs.specs.Volume.{Mounted, Serves}
use Rattle.lfs_fs.specs.declared.error.FsError.{FsError}
use Rattle.lfs_fs.specs.declared.error.FsError.TheVariants as error
use Rattle.lfs_model.specs.declared.limits.TheConstants.{LARGEST_FILE, LONGEST_TRANSFER}
use Rattle.lfs_put.specs.declared.getting.GetFault.{GetFault}
use Rattle.lfs_put.specs.declared.getting.GetFault.TheVariants as why
use Rattle.lfs_put.proofs.CallLists.{serves_append}
use Rattle.lfs_put.specs.Calls.{Made, ServesAll, made}
use Rattle.lfs_put.specs.Getting.{CopiesOut, GetsFile, HasSent, SendsPart, SendsTo, getting, reads}

-- ---- lists of pieces

bytes_more : (ps : List (List ℕ)) (p : List ℕ) → concat (ps ++ p ∷ []) ≡ concat ps ++ p
bytes_more [] p = append-nil p
bytes_more (q ∷ ps) p = ap (λ (bs : List ℕ). q ++ bs) (bytes_more ps p) ∙ sym (append_assoc q (concat ps) p)

-- a read of a piece from this offset on
abbrev read_at : ℕ → List ℕ → ℕ → List Made
read_at handle p offset = made (Pread handle offset LONGEST_TRANSFER) (Data p) ∷ []

at_start : (o : ℕ) → o ≡ o + length {A = ℕ} []
at_start o = omega arith

at_next : (o : ℕ) (bs cs : List ℕ) → (o + length bs) + length cs ≡ o + length (bs ++ cs)
at_next o bs cs = let l = length-append bs cs in omega (arith, l)

reads_more : (handle o : ℕ) (ps : List (List ℕ)) (p : List ℕ)
    → reads handle o (ps ++ p ∷ []) ≡ reads handle o ps ++ read_at handle p (o + length (concat ps))
reads_more handle o [] p = ap (read_at handle p) (at_start o)
reads_more handle o (q ∷ ps) p =
    ap (λ (ms : List Made). made (Pread handle o LONGEST_TRANSFER) (Data q) ∷ ms)
    (reads_more handle (o + length q) ps p ∙ ap (λ (n : ℕ). reads handle (o + length q) ps ++ read_at handle p n) (at_next o q (concat ps)))

some_more : (ps : List (List ℕ)) (p : List ℕ) → ps ++ p ∷ [] ≢ []
some_more [] p = λ same. cc same
some_more (q ∷ ps) p = λ same. cc same

all_more : (P : List ℕ → Type 0) (ps : List (List ℕ)) (p : List ℕ) → AllByRecursion P ps → P p → AllByRecursion P (ps ++ p ∷ [])
all_more P [] p all one = (one, tt)
all_more P (q ∷ ps) p all one = (all.0, all_more P ps p all.1 one)

-- each of a list, by its place
all_of : (P : List ℕ → Type 0) (ps : List (List ℕ)) → AllByRecursion P ps → All P ps
all_of P [] all = λ k d low. absurd (omega (arith, low))
all_of P (p ∷ ps) all = λ k. elim k as (λ k. (d : List ℕ) → k < suc (length ps) → P (get_or (p ∷ ps) k d)) [
  | zero ↦ λ d low. all.0
  | suc j ↦ λ d low. all_of P ps all.1 j d (omega (arith, low))
]

module _ {D : Type 0} (state : D → DeviceState) where
  -- how far a copy has come, by reads of full length
  pub record CopyingOut (old now : Mounted D) (handle : ℕ) (w w' : Option (List ℕ)) (offset : ℕ) : Type 0 where
    pub pieces : List (List ℕ)
    pub served : ServesAll state old now (reads handle 0 pieces)
    pub full : AllByRecursion (λ (p : List ℕ). length p ≡ LONGEST_TRANSFER) pieces
    pub sent : HasSent w w' pieces offset

  pub copying_none : (v : Mounted D) {handle : ℕ} (w : Option (List ℕ)) → CopyingOut v v handle w w 0
  copying_none v w = record { pieces = []; served = refl; full = tt; sent = record { sent = Appends-nil w; counted = refl } }

  -- one piece more was read and sent
  reads_one : {old mid new : Mounted D} {handle : ℕ} {w w' : Option (List ℕ)} {offset : ℕ} (so_far : CopyingOut old mid handle w w' offset)
      {piece : List ℕ} → Serves state mid new (Pread handle offset LONGEST_TRANSFER) (Data piece)
      → ServesAll state old new (reads handle 0 (so_far.pieces ++ piece ∷ []))
  reads_one {old} {mid} {new} {handle} {offset} so_far {piece} serves =
      let at : offset ≡ 0 + length (concat so_far.pieces) = (let same = so_far.sent.counted in omega (arith, same)) in
      let last : ServesAll state mid new (read_at handle piece (0 + length (concat so_far.pieces))) =
      subst (λ (n : ℕ). ServesAll state mid new (read_at handle piece n)) at (new, serves, refl) in
      subst (ServesAll state old new) (sym (reads_more handle 0 so_far.pieces piece))
      (serves_append state old mid new (reads handle 0 so_far.pieces) _ so_far.served last)

  sends_one : (w : Option (List ℕ)) {w' : Option (List ℕ)} (w'' : Option (List ℕ)) {pieces : List (List ℕ)} (piece : List ℕ)
      {offset end : ℕ} → HasSent w w' pieces offset
      → Appends w' w'' piece → end ≡ offset + length piece
      → HasSent w w'' (pieces ++ piece ∷ []) end
  sends_one w {w'} w'' {pieces} piece before more is = record {
    sent = subst (Appends w w'') (sym (bytes_more pieces piece)) (Appends-trans w w' w'' (concat pieces) piece before.sent more);
    counted = (
        let same = before.counted in
        let l = length-append (concat pieces) piece in
        let m = ap length (bytes_more pieces piece) in
        omega (arith, same, is, l, m));
  }

  pub copying_more : (old mid new : Mounted D) {handle : ℕ} {w w' : Option (List ℕ)} (w'' : Option (List ℕ)) {offset : ℕ} (count end : ℕ)
      → CopyingOut old mid handle w w' offset
      → SendsPart state mid new handle offset w' w'' (Ok count) → end ≡ offset + count → count ≡ LONGEST_TRANSFER
      → CopyingOut old new handle w w'' end
  copying_more old mid new {handle} {w} {w'} w'' {offset} count end so_far (piece, serves, more, long) is full = record {
    pieces = so_far.pieces ++ piece ∷ [];
    served = reads_one so_far serves;
    full = all_more (λ (p : List ℕ). length p ≡ LONGEST_TRANSFER) so_far.pieces piece so_far.full (sym long ∙ full);
    sent = sends_one w w'' piece so_far.sent more (is ∙ ap (λ (n : ℕ). offset + n) long);
  }

  -- the last piece is shorter
  pub copied_out : (old mid new : Mounted D) {handle : ℕ} {w w' w'' : Option (List ℕ)} {offset : ℕ} (count end : ℕ)
      → CopyingOut old mid handle w w' offset
      → SendsPart state mid new handle offset w' w'' (Ok count) → end ≡ offset + count → count < LONGEST_TRANSFER
      → CopiesOut state old new handle w w'' (Ok end)
  copied_out old mid new {handle} {w} {w'} {w''} {offset} count end so_far (piece, serves, more, long) is short = record {
    calls = reads handle 0 (so_far.pieces ++ piece ∷ []);
    served = reads_one so_far serves;
    outcome = (
      so_far.pieces ++ piece ∷ [],
      refl,
      record {
        front = so_far.pieces;
        last = piece;
        order = refl;
        full = all_of (λ (p : List ℕ). length p ≡ LONGEST_TRANSFER) so_far.pieces so_far.full;
        short = subst (λ (n : ℕ). n < LONGEST_TRANSFER) long short;
      },
      sends_one w w'' piece so_far.sent more (is ∙ ap (λ (n : ℕ). offset + n) long),
    );
  }

  -- a piece that is longer than was asked for
  pub copy_breaks : (old mid new : Mounted D) {handle : ℕ} {w w' w'' : Option (List ℕ)} {offset : ℕ} (count : ℕ)
      → CopyingOut old mid handle w w' offset
      → SendsPart state mid new handle offset w' w'' (Ok count) → LONGEST_TRANSFER < count
      → CopiesOut state old new handle w w'' (Err (why.CutShort error.Device))
  copy_breaks old mid new {handle} {w} {w'} {w''} {offset} count so_far (piece, serves, more, long) past = record {
    calls = reads handle 0 (so_far.pieces ++ piece ∷ []);
    served = reads_one so_far serves;
    outcome = (
      so_far.pieces ++ piece ∷ [],
      inr (record {
        order = refl;
        is = refl;
        more = inl (so_far.pieces, piece, refl, subst (λ (n : ℕ). LONGEST_TRANSFER < n) long past);
      }),
      (sends_one w w'' piece {end = offset + length piece} so_far.sent more refl).sent,
    );
  }

  -- no file is longer
  pub copy_ends : (old new : Mounted D) (handle : ℕ) (w w' : Option (List ℕ)) (offset : ℕ)
      → CopyingOut old new handle w w' offset → LARGEST_FILE < offset
      → CopiesOut state old new handle w w' (Err (why.CutShort error.Device))
  copy_ends old new handle w w' offset so_far long = record {
    calls = reads handle 0 so_far.pieces;
    served = so_far.served;
    outcome = (
      so_far.pieces,
      inr (record {
        order = refl;
        is = refl;
        more = inr (subst (λ (n : ℕ). LARGEST_FILE < n) so_far.sent.counted long);
      }),
      so_far.sent.sent,
    );
  }

  -- the calls of a read that was refused behind others
  refused_read : {old mid new : Mounted D} {handle : ℕ} {w w' : Option (List ℕ)} {offset : ℕ} (refused : FsError)
      (so_far : CopyingOut old mid handle w w' offset)
      → Serves state mid new (Pread handle offset LONGEST_TRANSFER) (Refuse (refusal_of refused))
      → ServesAll state old new (reads handle 0 so_far.pieces
      ++ made (Pread handle (length (concat so_far.pieces)) LONGEST_TRANSFER) (Refuse (refusal_of refused)) ∷ [])
  refused_read {old} {mid} {new} {handle} refused so_far serves =
      let at = λ (n : ℕ). made (Pread handle n LONGEST_TRANSFER) (Refuse (refusal_of refused)) ∷ [] in
      let last : ServesAll state mid new (at (length (concat so_far.pieces))) =
      subst (λ (n : ℕ). ServesAll state mid new (at n)) so_far.sent.counted (new, serves, refl) in
      serves_append state old mid new (reads handle 0 so_far.pieces) _ so_far.served last

  -- a read was refused, or the writer failed
  pub copy_stops : (old mid new : Mounted D) {handle : ℕ} {w w' w'' : Option (List ℕ)} {offset : ℕ} (fault : GetFault)
      → CopyingOut old mid handle w w' offset
      → SendsPart state mid new handle offset w' w'' (Err fault) → CopiesOut state old new handle w w'' (Err fault)
  copy_stops old mid new {handle} {w} {w'} {offset} (why.Call refused) so_far ((serves, same), none) = record {
    calls = reads handle 0 so_far.pieces
        ++ made (Pread handle (length (concat so_far.pieces)) LONGEST_TRANSFER) (Refuse (refusal_of refused)) ∷ [];
    served = refused_read refused so_far serves;
    outcome = (
      so_far.pieces,
      refl,
      record {
        sent = subst (λ (v : Option (List ℕ)). Appends w v (concat so_far.pieces)) (sym same) so_far.sent.sent;
        counted = sym none ∙ so_far.sent.counted;
      },
    );
  }
  copy_stops old mid new {handle} {w} {w'} {offset} (why.CutShort refused) so_far (serves, same) = record {
    calls = reads handle 0 so_far.pieces
        ++ made (Pread handle (length (concat so_far.pieces)) LONGEST_TRANSFER) (Refuse (refusal_of refused)) ∷ [];
    served = refused_read refused so_far serves;
    outcome = (
      so_far.pieces,
      inl refl,
      subst (λ (v : Option (List ℕ)). Appends w v (concat so_far.pieces)) (sym same) so_far.sent.sent,
    );
  }
  copy_stops old mid new {handle} {w} {w'} {offset} why.Output so_far (piece, serves) = record {
    calls = reads handle 0 (so_far.pieces ++ piece ∷ []);
    served = reads_one so_far serves;
    outcome = (so_far.pieces ++ piece ∷ [], (refl, some_more so_far.pieces piece), tt);
  }

  -- a refusal behind what was sent, as its number says
  sends_behind : (w w' : Option (List ℕ)) {pieces : List (List ℕ)} {offset : ℕ} (refused : FsError) {fault : GetFault}
      → HasSent w w' pieces offset
      → (((fault ≡ why.Call refused) × (offset ≡ 0)) ⊎ (fault ≡ why.CutShort refused)) → SendsTo w w' pieces fault
  sends_behind w w' {pieces} refused sent (inl (is, none)) =
      subst (SendsTo w w' pieces) (sym is) (record { sent = sent.sent; counted = sym none ∙ sent.counted })
  sends_behind w w' {pieces} refused sent (inr is) = subst (SendsTo w w' pieces) (sym is) sent.sent

  told_as : {offset : ℕ} (refused : FsError) {fault : GetFault}
      → (((fault ≡ why.Call refused) × (offset ≡ 0)) ⊎ (fault ≡ why.CutShort refused))
      → (fault ≡ why.Call refused) ⊎ (fault ≡ why.CutShort refused)
  told_as refused (inl (is, none)) = inl is
  told_as refused (inr is) = inr is

  -- ---- a whole get

  pub not_opened : (a b : Mounted D) {path : List ℕ} (w : Option (List ℕ)) (refused : FsError)
      → Serves state a b (Open path) (Refuse (refusal_of refused))
      → GetsFile state a b path w w (Err (why.Call refused))
  not_opened a b {path} w refused opens = record {
    calls = made (Open path) (Refuse (refusal_of refused)) ∷ [];
    served = (b, opens, refl);
    outcome = inl (refused, refl, refl, refl);
  }

  -- a file that is opened, and closed behind some calls
  between : {a : Mounted D} (b c d : Mounted D) {path : List ℕ} {handle : ℕ} (calls : List Made) {closed : Answer}
      → Serves state a b (Open path) (Handle handle) → ServesAll state b c calls
      → Serves state c d (Close handle) closed
      → ServesAll state a d (made (Open path) (Handle handle) ∷ (calls ++ made (Close handle) closed ∷ []))
  between b c d {handle} calls {closed} opens copies closes =
      (b, opens, serves_append state b c d calls (made (Close handle) closed ∷ []) copies (d, closes, refl))

  pub cut_short : (a b c d : Mounted D) {path : List ℕ} {handle : ℕ} (w : Option (List ℕ)) {w' : Option (List ℕ)} {fault : GetFault}
      (closed : Answer)
      → Serves state a b (Open path) (Handle handle)
      → CopiesOut state b c handle w w' (Err fault) → Serves state c d (Close handle) closed → GetsFile state a d path w w' (Err fault)
  cut_short a b c d {path} {handle} w closed opens copies closes = record {
    calls = made (Open path) (Handle handle) ∷ (copies.calls ++ made (Close handle) closed ∷ []);
    served = between b c d copies.calls opens copies.served closes;
    outcome = inr (record {
      handle = handle;
      pieces = copies.outcome.0;
      body = copies.calls;
      closed = closed;
      order = refl;
      sent = copies.outcome.2;
      cause = inl copies.outcome.1;
    });
  }

  pub not_closed : (a b c d : Mounted D) {path : List ℕ} {handle : ℕ} (w w' : Option (List ℕ)) {count : ℕ} (refused : FsError)
      (fault : GetFault)
      → Serves state a b (Open path) (Handle handle) → CopiesOut state b c handle w w' (Ok count)
      → Serves state c d (Close handle) (Refuse (refusal_of refused))
      → (((fault ≡ why.Call refused) × (count ≡ 0)) ⊎ (fault ≡ why.CutShort refused)) → GetsFile state a d path w w' (Err fault)
  not_closed a b c d {path} {handle} w w' {count} refused fault opens copies closes is =
      let closed = Refuse (refusal_of refused) in
      record {
        calls = made (Open path) (Handle handle) ∷ (copies.calls ++ made (Close handle) closed ∷ []);
        served = between b c d copies.calls opens copies.served closes;
        outcome = inr (record {
          handle = handle;
          pieces = copies.outcome.0;
          body = copies.calls;
          closed = closed;
          order = refl;
          sent = sends_behind w w' refused copies.outcome.3 is;
          cause = inr (record {
            refused = refused;
            is = told_as refused is;
            order = copies.outcome.1;
            whole = copies.outcome.2;
            told = refl;
          });
        });
      }

  pub got : (a b c d : Mounted D) {path : List ℕ} {handle : ℕ} (w : Option (List ℕ)) {w' : Option (List ℕ)} {count : ℕ}
      → Serves state a b (Open path) (Handle handle)
      → CopiesOut state b c handle w w' (Ok count) → Serves state c d (Close handle) Done → GetsFile state a d path w w' (Ok count)
  got a b c d {path} {handle} w opens copies closes =
      let pieces = copies.outcome.0 in
      let read : ServesAll state b c (reads handle 0 pieces) = subst (ServesAll state b c) copies.outcome.1 copies.served in
      record {
        calls = getting path handle pieces;
        served = between b c d (reads handle 0 pieces) opens read closes;
        outcome = (handle, pieces, refl, copies.outcome.2, copies.outcome.3);
      }
