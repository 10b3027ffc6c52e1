-- The pieces of a file that is copied.
use Rattle.std.proofs.Common.{◌≡◌, ◌<◌, ℕ, zero, suc, ◌+◌, get_or, List, [], ◌∷◌, ◌++◌, All, length, refl, sym, ◌∙◌, ap}
use Rattle.std.proofs.Common.{append_assoc, append-nil, length-append, arith}
use Rattle.std.specs.List.{AllByRecursion}
use Rattle.lfs_model.specs.Call.{Count, Data, Pread, Pwrite}
use Rattle.lfs_model.specs.declared.limits.TheConstants.{LONGEST_TRANSFER}
use Rattle.lfs_put.specs.Calls.{Made, made}
use Rattle.lfs_put.specs.Getting.{AreWhole, reads}
use Rattle.lfs_put.specs.Putting.{Piece, bytes_of, writes}
use Rattle.lfs_copy.specs.Copying.{read_as}
use Rattle.lfs_copy.specs.Looking.{AreDone}

pub bytes_more : (ps : List Piece) (p : Piece) → bytes_of (ps ++ p ∷ []) ≡ bytes_of ps ++ p.bytes
bytes_more [] p = append-nil p.bytes
bytes_more (q ∷ ps) p = ap (λ (bs : List ℕ). q.bytes ++ bs) (bytes_more ps p) ∙ sym (append_assoc q.bytes (bytes_of ps) p.bytes)

pub length_more : (ps : List Piece) (p : Piece) → length (bytes_of (ps ++ p ∷ [])) ≡ length (bytes_of ps) + length p.bytes
length_more ps p = ap length (bytes_more ps p) ∙ length-append (bytes_of ps) p.bytes

-- a read and a write of a piece at an offset
abbrev pub read_at : ℕ → Piece → ℕ → List Made
read_at handle p offset = made (Pread handle offset LONGEST_TRANSFER) (Data p.bytes) ∷ []

abbrev pub write_at : ℕ → Piece → ℕ → List Made
write_at handle p offset = made (Pwrite handle offset p.bytes) (Count p.count) ∷ []

at_start : (o : ℕ) → o ≡ o + length {A = ℕ} []
at_start o = omega arith

at_next : (o : ℕ) (bs cs : List ℕ) → (o + length bs) + length cs ≡ o + length (bs ++ cs)
at_next o bs cs = let l = length-append bs cs in omega (arith, l)

reads_on : (handle o : ℕ) (ps : List Piece) (p : Piece)
    → reads handle o (read_as (ps ++ p ∷ [])) ≡ reads handle o (read_as ps) ++ read_at handle p (o + length (bytes_of ps))
reads_on handle o [] p = ap (read_at handle p) (at_start o)
reads_on handle o (q ∷ ps) p =
    ap (λ (ms : List Made). made (Pread handle o LONGEST_TRANSFER) (Data q.bytes) ∷ ms)
    (reads_on handle (o + length q.bytes) ps p
    ∙ ap (λ (n : ℕ). reads handle (o + length q.bytes) (read_as ps) ++ read_at handle p n) (at_next o q.bytes (bytes_of ps)))

writes_on : (handle o : ℕ) (ps : List Piece) (p : Piece)
    → writes handle o (ps ++ p ∷ []) ≡ writes handle o ps ++ write_at handle p (o + length (bytes_of ps))
writes_on handle o [] p = ap (write_at handle p) (at_start o)
writes_on handle o (q ∷ ps) p =
    ap (λ (ms : List Made). made (Pwrite handle o q.bytes) (Count q.count) ∷ ms)
    (writes_on handle (o + length q.bytes) ps p
    ∙ ap (λ (n : ℕ). writes handle (o + length q.bytes) ps ++ write_at handle p n) (at_next o q.bytes (bytes_of ps)))

-- with one piece more, at the end of those before
pub reads_more : (handle : ℕ) (ps : List Piece) (p : Piece) {offset : ℕ} → offset ≡ length (bytes_of ps)
    → reads handle 0 (read_as (ps ++ p ∷ [])) ≡ reads handle 0 (read_as ps) ++ read_at handle p offset
reads_more handle ps p is =
    reads_on handle 0 ps p ∙ ap (λ (n : ℕ). reads handle 0 (read_as ps) ++ read_at handle p n) (omega (arith, is))

pub writes_more : (handle : ℕ) (ps : List Piece) (p : Piece) {offset : ℕ} → offset ≡ length (bytes_of ps)
    → writes handle 0 (ps ++ p ∷ []) ≡ writes handle 0 ps ++ write_at handle p offset
writes_more handle ps p is =
    writes_on handle 0 ps p ∙ ap (λ (n : ℕ). writes handle 0 ps ++ write_at handle p n) (omega (arith, is))

pub reads_done : (handle o : ℕ) (ps : List Piece) → AreDone (reads handle o (read_as ps))
reads_done handle o [] = tt
reads_done handle o (p ∷ ps) = (refl, reads_done handle (o + length p.bytes) ps)

pub writes_done : (handle o : ℕ) (ps : List Piece) → AreDone (writes handle o ps)
writes_done handle o [] = tt
writes_done handle o (p ∷ ps) = (refl, writes_done handle (o + length p.bytes) ps)

-- each piece is as long as a read was to be
abbrev pub AreFull : List Piece → Type 0
AreFull = AllByRecursion (λ (p : Piece). length p.bytes ≡ LONGEST_TRANSFER)

pub full_more : (ps : List Piece) (p : Piece) → AreFull ps → length p.bytes ≡ LONGEST_TRANSFER → AreFull (ps ++ p ∷ [])
full_more [] p all one = (one, tt)
full_more (q ∷ ps) p all one = (all.0, full_more ps p all.1 one)

all_full : (ps : List Piece) → AreFull ps → All (λ piece. length piece ≡ LONGEST_TRANSFER) (read_as ps)
all_full [] all = λ k d low. absurd (omega (arith, low))
all_full (p ∷ ps) all = λ k. elim k as (λ k. (d : List ℕ) → k < suc (length (read_as ps))
    → length (get_or (p.bytes ∷ read_as ps) k d) ≡ LONGEST_TRANSFER) [
      | zero ↦ λ d low. all.0
      | suc j ↦ λ d low. all_full ps all.1 j d (omega (arith, low))
    ]

read_on : (ps : List Piece) (p : Piece) → read_as (ps ++ p ∷ []) ≡ read_as ps ++ p.bytes ∷ []
read_on [] p = refl
read_on (q ∷ ps) p = ap (λ (l : List (List ℕ)). q.bytes ∷ l) (read_on ps p)

-- full pieces, and a shorter one behind them
pub whole : (ps : List Piece) (p : Piece) → AreFull ps → length p.bytes < LONGEST_TRANSFER → AreWhole (read_as (ps ++ p ∷ []))
whole ps p full short = record {
  front = read_as ps;
  last = p.bytes;
  order = read_on ps p;
  full = all_full ps full;
  short = short;
}
