-- The calls that copy a file, one after the other.
use Rattle.std.proofs.Common.{◌≡◌, ◌<◌, ℕ, ◌+◌, List, [], ◌∷◌, ◌++◌, Ok, Err, length, refl, sym, ◌∙◌, ap, subst, arith}
use Rattle.lfs_model.specs.Call.{Answer, Close, Count, Create, Data, Done, Handle, Open, Pread, Pwrite, Refuse}
use Rattle.lfs_model.specs.Device.{DeviceState}
use Rattle.lfs_model.specs.declared.limits.TheConstants.{LONGEST_TRANSFER}
use Rattle.lfs_fs.specs.Refusals.{refusal_of}
use Rattle.lfs_fs.specs.Volume.{Mounted, Serves}
use Rattle.lfs_fs.specs.declared.error.FsError.{FsError}
use Rattle.lfs_put.specs.Calls.{Made, made}
use Rattle.lfs_put.specs.Getting.{reads}
use Rattle.lfs_put.specs.Putting.{Piece, bytes_of, writes}
use Rattle.lfs_copy.specs.Copying.{CopiesBytes, CopiesFile, CopiesOpen, CopiesPart, HasBytes, HasFile, HasOpen, ServesBoth, read_as}
use Rattle.lfs_copy.specs.declared.fault.CopyFault.{CopyFault}
use Rattle.lfs_copy.specs.declared.fault.CopyFault.TheVariants as why
use Rattle.lfs_copy.proofs.Both.{both_append, contradicts, done_append, fails, fails_behind, get_before, get_behind, get_refused, no_calls}
use Rattle.lfs_copy.proofs.Both.{one_get, one_put, put_before, put_behind, put_refused}
use Rattle.lfs_copy.proofs.Pieces.{AreFull, full_more, length_more, read_at, reads_done, reads_more, whole, write_at, writes_done}
use Rattle.lfs_copy.proofs.Pieces.{writes_more}

module _ {D : Type 0} {E : Type 0} (state : D → DeviceState) (state' : E → DeviceState) where
  -- how far a copy has come, by pieces of full length
  pub record Copying (a b : Mounted D) (p q : Mounted E) (source target offset : ℕ) : Type 0 where
    pub pieces : List Piece
    pub serves : ServesBoth state state' a b p q (reads source 0 (read_as pieces)) (writes target 0 pieces)
    pub full : AreFull pieces
    pub counted : offset ≡ length (bytes_of pieces)

module _ {D : Type 0} {E : Type 0} {state : D → DeviceState} {state' : E → DeviceState} where
  -- ---- one piece

  pub part_copied : {a b : Mounted D} {p q : Mounted E} {source target offset : ℕ} (bytes given : List ℕ) (count size : ℕ)
      → given ≡ bytes → Serves state a b (Pread source offset LONGEST_TRANSFER) (Data bytes)
      → Serves state' p q (Pwrite target offset given) (Count count) → size ≡ length bytes
      → CopiesPart state state' a b p q source target offset (Ok size)
  part_copied {a} {b} {p} {q} {source} {target} {offset} bytes given count size same got written sized =
      let put = subst (λ (bs : List ℕ). Serves state' p q (Pwrite target offset bs) (Count count)) same written in
      let piece : Piece = record { bytes = bytes; count = count } in
      record {
        gets = read_at source piece offset;
        puts = write_at target piece offset;
        serves = both_append (read_at source piece offset) [] [] (write_at target piece offset)
            (one_get p (Pread source offset LONGEST_TRANSFER) (Data bytes) got refl)
            (one_put b (Pwrite target offset bytes) (Count count) put);
        ends = ((refl, tt), (refl, tt), record { piece = piece; gets_are = refl; puts_are = refl; counted = sized });
      }

  pub part_not_written : {a b : Mounted D} {p q : Mounted E} {source target offset : ℕ} (bytes given : List ℕ) (fault : FsError)
      → given ≡ bytes → Serves state a b (Pread source offset LONGEST_TRANSFER) (Data bytes)
      → Serves state' p q (Pwrite target offset given) (Refuse (refusal_of fault))
      → CopiesPart state state' a b p q source target offset (Err (why.New fault))
  part_not_written {a} {b} {p} {q} {source} {target} {offset} bytes given fault same got written =
      let put = subst (λ (bs : List ℕ). Serves state' p q (Pwrite target offset bs) (Refuse (refusal_of fault))) same written in
      fails_behind (made (Pread source offset LONGEST_TRANSFER) (Data bytes) ∷ []) [] (why.New fault)
      (one_get p (Pread source offset LONGEST_TRANSFER) (Data bytes) got refl) (refl, tt) tt
      (put_refused {does = HasBytes source target} b (Pwrite target offset bytes) fault put)

  -- ---- all pieces

  pub copying_none : (a : Mounted D) (p : Mounted E) {source target : ℕ} → Copying state state' a a p p source target 0
  copying_none a p = record { pieces = []; serves = no_calls a p; full = tt; counted = refl }

  -- the calls of one piece more
  one_more : {a b c : Mounted D} {p q r : Mounted E} {source target offset count : ℕ}
      (so_far : Copying state state' a b p q source target offset)
      (part : CopiesPart state state' b c q r source target offset (Ok count)) →
      let pieces = so_far.pieces ++ part.ends.2.piece ∷ [] in
      ServesBoth state state' a c p r (reads source 0 (read_as pieces)) (writes target 0 pieces)
  one_more {a} {b} {c} {p} {q} {r} {source} {target} {offset} so_far part =
      let piece = part.ends.2.piece in
      let xs = reads source 0 (read_as so_far.pieces) in
      let us = writes target 0 so_far.pieces in
      let last : ServesBoth state state' b c q r (read_at source piece offset) (write_at target piece offset) =
      subst (λ (ms : List Made). ServesBoth state state' b c q r ms (write_at target piece offset)) part.ends.2.gets_are
      (subst (λ (ms : List Made). ServesBoth state state' b c q r part.gets ms) part.ends.2.puts_are part.serves) in
      let joined = both_append xs us (read_at source piece offset) (write_at target piece offset) so_far.serves last in
      subst (λ (ms : List Made). ServesBoth state state' a c p r ms (writes target 0 (so_far.pieces ++ piece ∷ [])))
      (sym (reads_more source so_far.pieces piece so_far.counted))
      (subst (λ (ms : List Made). ServesBoth state state' a c p r (xs ++ read_at source piece offset) ms)
      (sym (writes_more target so_far.pieces piece so_far.counted)) joined)

  summed : {a b c : Mounted D} {p q r : Mounted E} {source target offset count : ℕ}
      (so_far : Copying state state' a b p q source target offset)
      (part : CopiesPart state state' b c q r source target offset (Ok count))
      → offset + count ≡ length (bytes_of (so_far.pieces ++ part.ends.2.piece ∷ []))
  summed so_far part =
      let first = so_far.counted in
      let second = part.ends.2.counted in
      let both = length_more so_far.pieces part.ends.2.piece in
      omega (arith, first, second, both)

  pub copying_more : {a b c : Mounted D} {p q r : Mounted E} {source target offset count end : ℕ}
      → Copying state state' a b p q source target offset → CopiesPart state state' b c q r source target offset (Ok count)
      → end ≡ offset + count → count ≡ LONGEST_TRANSFER → Copying state state' a c p r source target end
  copying_more so_far part is long = record {
    pieces = so_far.pieces ++ part.ends.2.piece ∷ [];
    serves = one_more so_far part;
    full = full_more so_far.pieces part.ends.2.piece so_far.full (sym part.ends.2.counted ∙ long);
    counted = is ∙ summed so_far part;
  }

  -- the last piece is shorter
  pub copied : {a b c : Mounted D} {p q r : Mounted E} {source target offset count end : ℕ}
      → Copying state state' a b p q source target offset → CopiesPart state state' b c q r source target offset (Ok count)
      → end ≡ offset + count → count < LONGEST_TRANSFER → CopiesBytes state state' a c p r source target (Ok end)
  copied {source = source} {target = target} so_far part is short =
      let pieces = so_far.pieces ++ part.ends.2.piece ∷ [] in
      record {
        gets = reads source 0 (read_as pieces);
        puts = writes target 0 pieces;
        serves = one_more so_far part;
        ends = (
          reads_done source 0 pieces,
          writes_done target 0 pieces,
          record {
            pieces = pieces;
            gets_are = refl;
            puts_are = refl;
            whole = whole so_far.pieces part.ends.2.piece so_far.full
                (subst (λ (n : ℕ). n < LONGEST_TRANSFER) part.ends.2.counted short);
            counted = is ∙ summed so_far part;
          },
        );
      }

  -- a piece isn't copied
  pub copy_stops : {a b c : Mounted D} {p q r : Mounted E} {source target offset : ℕ} (fault : CopyFault)
      → Copying state state' a b p q source target offset → CopiesPart state state' b c q r source target offset (Err fault)
      → CopiesBytes state state' a c p r source target (Err fault)
  copy_stops {source = source} {target = target} fault so_far part =
      fails_behind (reads source 0 (read_as so_far.pieces)) (writes target 0 so_far.pieces) fault so_far.serves
      (reads_done source 0 so_far.pieces) (writes_done target 0 so_far.pieces) part

  -- the reads are no volume's
  pub copy_breaks : {a b c : Mounted D} {p q r : Mounted E} {source target offset count : ℕ}
      → Copying state state' a b p q source target offset → CopiesPart state state' b c q r source target offset (Ok count)
      → CopiesBytes state state' a c p r source target (Err why.NoTree)
  copy_breaks {source = source} {target = target} so_far part =
      let pieces = so_far.pieces ++ part.ends.2.piece ∷ [] in
      contradicts (reads source 0 (read_as pieces)) (writes target 0 pieces) (one_more so_far part)

  pub copy_ends : {a b : Mounted D} {p q : Mounted E} {source target offset : ℕ} → Copying state state' a b p q source target offset
      → CopiesBytes state state' a b p q source target (Err why.NoTree)
  copy_ends {source = source} {target = target} so_far =
      contradicts (reads source 0 (read_as so_far.pieces)) (writes target 0 so_far.pieces) so_far.serves

  -- ---- a file that is made of an open one

  pub open_copied : {a b : Mounted D} {p q r s : Mounted E} {source target count : ℕ} {path : List ℕ}
      → Serves state' p q (Create path) (Handle target) → CopiesBytes state state' a b q r source target (Ok count)
      → Serves state' r s (Close target) Done → CopiesOpen state state' a b p s source path (Ok count)
  open_copied {source = source} {target = target} {path = path} creates copies closes =
      let bytes = copies.ends.2 in
      let last = made (Close target) Done ∷ [] in
      record {
        gets = copies.gets;
        puts = made (Create path) (Handle target) ∷ (copies.puts ++ last);
        serves = put_before (Create path) (Handle target) creates
            (put_behind copies.gets copies.puts (Close target) Done copies.serves closes);
        ends = (
          copies.ends.0,
          (refl, done_append copies.puts last copies.ends.1 (refl, tt)),
          record {
            target = target;
            pieces = bytes.pieces;
            gets_are = bytes.gets_are;
            puts_are = ap (λ (ms : List Made). made (Create path) (Handle target) ∷ (ms ++ last)) bytes.puts_are;
            whole = bytes.whole;
            counted = bytes.counted;
          },
        );
      }

  -- its bytes aren't all copied, and it is closed
  pub open_cut : {a b : Mounted D} {p q r s : Mounted E} {source target : ℕ} {path : List ℕ} (fault : CopyFault) (closed : Answer)
      → Serves state' p q (Create path) (Handle target) → CopiesBytes state state' a b q r source target (Err fault)
      → Serves state' r s (Close target) closed → CopiesOpen state state' a b p s source path (Err fault)
  open_cut {a} {b} {source = source} {target = target} {path = path} fault closed creates copies closes =
      fails [] (made (Create path) (Handle target) ∷ []) [] (made (Close target) closed ∷ []) fault
      (one_put a (Create path) (Handle target) creates) tt (refl, tt) copies
      (one_put b (Close target) closed closes) tt (tt, tt)

  pub open_not_closed : {a b : Mounted D} {p q r s : Mounted E} {source target count : ℕ} {path : List ℕ} (fault : FsError)
      → Serves state' p q (Create path) (Handle target) → CopiesBytes state state' a b q r source target (Ok count)
      → Serves state' r s (Close target) (Refuse (refusal_of fault)) → CopiesOpen state state' a b p s source path (Err (why.New fault))
  open_not_closed {b = b} {source = source} {target = target} {path = path} fault creates copies closes =
      fails_behind copies.gets (made (Create path) (Handle target) ∷ copies.puts) (why.New fault)
      (put_before (Create path) (Handle target) creates copies.serves) copies.ends.0 (refl, copies.ends.1)
      (put_refused {does = HasOpen source path} b (Close target) fault closes)

  -- ---- a file that is opened

  pub file_copied : {a b c d : Mounted D} {p q : Mounted E} {source count : ℕ} {path : List ℕ}
      → Serves state a b (Open path) (Handle source) → CopiesOpen state state' b c p q source path (Ok count)
      → Serves state c d (Close source) Done → CopiesFile state state' a d p q path (Ok count)
  file_copied {source = source} {path = path} opens copies closes =
      let open_one = copies.ends.2 in
      let last = made (Close source) Done ∷ [] in
      record {
        gets = made (Open path) (Handle source) ∷ (copies.gets ++ last);
        puts = copies.puts;
        serves = get_before (Open path) (Handle source) opens refl
            (get_behind copies.gets copies.puts (Close source) Done copies.serves closes refl);
        ends = (
          (refl, done_append copies.gets last copies.ends.0 (refl, tt)),
          copies.ends.1,
          record {
            source = source;
            target = open_one.target;
            pieces = open_one.pieces;
            gets_are = ap (λ (ms : List Made). made (Open path) (Handle source) ∷ (ms ++ last)) open_one.gets_are;
            puts_are = open_one.puts_are;
            whole = open_one.whole;
            counted = open_one.counted;
          },
        );
      }

  pub file_cut : {a b c d : Mounted D} {p q : Mounted E} {source : ℕ} {path : List ℕ} (fault : CopyFault) (closed : Answer)
      → Serves state a b (Open path) (Handle source) → CopiesOpen state state' b c p q source path (Err fault)
      → Serves state c d (Close source) closed → CopiesFile state state' a d p q path (Err fault)
  file_cut {p = p} {q = q} {source = source} {path = path} fault closed opens copies closes =
      fails (made (Open path) (Handle source) ∷ []) [] (made (Close source) closed ∷ []) [] fault
      (one_get p (Open path) (Handle source) opens refl) (refl, tt) tt copies
      (one_get q (Close source) closed closes refl) (tt, tt) tt

  pub file_not_closed : {a b c d : Mounted D} {p q : Mounted E} {source count : ℕ} {path : List ℕ} (fault : FsError)
      → Serves state a b (Open path) (Handle source) → CopiesOpen state state' b c p q source path (Ok count)
      → Serves state c d (Close source) (Refuse (refusal_of fault)) → CopiesFile state state' a d p q path (Err (why.Old fault))
  file_not_closed {q = q} {source = source} {path = path} fault opens copies closes =
      fails_behind (made (Open path) (Handle source) ∷ copies.gets) copies.puts (why.Old fault)
      (get_before (Open path) (Handle source) opens refl copies.serves) (refl, copies.ends.0) copies.ends.1
      (get_refused {does = HasFile path} q (Close source) fault closes refl)
