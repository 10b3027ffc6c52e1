-- The bytes of objects, and what writes and cuts of their blocks make of them.
use Rattle.std.proofs.Common.{◌≡◌, ◌<◌, ◌≤◌, ⊎_elim, ◌+◌, ◌*◌, ◌-◌, ◌/◌, ◌%◌, ℕ, zero, suc, List, [], ◌∷◌, ◌++◌, length, take, drop, get_or}
use Rattle.std.proofs.Common.{Some, refl, sym, ◌∙◌, ap, subst, arith, slice_index, length-append}
use Rattle.std.specs.Prelude.{max, min, replicate}
use Rattle.std.proofs.lemmas.Bool.{cases_eq, cases_lt}
use Rattle.std.proofs.lemmas.Grind.{same_number_lists}
use Rattle.std.proofs.lemmas.List.{length-take, length-drop, get_or-take, get_or-drop, get_or_append_left, get_or-append_right, get_or_past}
use Rattle.std.proofs.lemmas.List.{nil_from_length}
use Rattle.std.proofs.lemmas.List.FromFn.{get_or-map-range_with_len}
use Rattle.lfs_model.specs.Bytes.{cut, part, put}
use Rattle.lfs_model.specs.Changing.{IsWithBlock}
use Rattle.lfs_model.specs.Encodes.{IsLogMap}
use Rattle.lfs_model.specs.Entry.{Header, Data}
use Rattle.lfs_model.specs.Stands.{LogMap}
use Rattle.lfs_model.specs.TreeOf.{object}
use Rattle.lfs_model.specs.Objects.{byte_in, ObjectBytes, ObjectPart, SameObjects, Overlays, BlockOverlaid, OverlaidByBlocks, Lengthened}
use Rattle.lfs_model.specs.Objects.{OverlaysJoin, ObjectWritten, WriteEnds, CutsBytes, ObjectCut, CutEnds}
use Rattle.lfs_model.proofs.FileBytes.{length-cut}
use Rattle.lfs_model.proofs.Standing.{object_length}

-- ---- objects

pub object_byte : (m : LogMap) (n : ℕ) (h : Header) (p : ℕ) → p < h.size → slice_index (object m n h) p ≡ byte_in m n p
unfolding object
object_byte m n h p lt = get_or-map-range_with_len (λ o. slice_index (m.block n (o / 512)) (o % 512)) 0 h.size p p 0 lt (omega arith)

pub object_bytes : ObjectBytes
object_bytes m n h = (object_length m n h, object_byte m n h)

-- a list of the object's length with the object's bytes is the object
pub object_is : (m : LogMap) (n : ℕ) (h : Header) (b : List ℕ) → length b ≡ h.size → ((p : ℕ) → p < h.size → byte_in m n p ≡ get_or b p 0)
    → object m n h ≡ b
object_is m n h b long each =
    let l = object_length m n h in
    same_number_lists (object m n h) b (l ∙ sym long) (λ p lt. object_byte m n h p (omega arith) ∙ each p (omega arith))

pub same_objects : SameObjects
same_objects m m' n n' h h' size each =
    let l = object_length m' n' h' in
    object_is m n h (object m' n' h') (l ∙ sym size) (λ p lt. each p lt ∙ sym (object_byte m' n' h' p (omega arith)))

pub object_part : ObjectPart
object_part m n h o count = (long, each)
  where
    b : List ℕ
    b = object m n h

    long : length (part b o count) ≡ min count (h.size - o)
    long = length-take count (drop o b) ∙ ap (min count) (length-drop o b ∙ ap (λ (k : ℕ). k - o) (object_length m n h))

    each : (j : ℕ) → j < length (part b o count) → slice_index (part b o count) j ≡ byte_in m n (o + j)
    each j lt =
        let l = long in
        get_or-take count (drop o b) j 0 (omega arith) ∙ get_or-drop o b j 0 ∙ object_byte m n h (o + j) (omega arith)

-- ---- cut and put, byte by byte

-- past a size, the bytes are zeros
abbrev pub EndsAt : ℕ → (ℕ → ℕ) → Type 0
EndsAt size f = (p : ℕ) → size ≤ p → f p ≡ 0

pub get_or-zeros : (n k : ℕ) → get_or {A = ℕ} (replicate n 0) k 0 ≡ 0
get_or-zeros zero k = refl
get_or-zeros (suc n) zero = refl
get_or-zeros (suc n) (suc k) = get_or-zeros n k

pub get_or-cut : (b : List ℕ) (n p : ℕ) → p < n → get_or (cut b n) p 0 ≡ get_or b p 0
get_or-cut b n p lt =
    let l = length-take n b in
    ⊎_elim
    (λ (low : p < length b). get_or_append_left (take n b) (replicate (n - length b) 0) 0 p (omega arith) ∙ get_or-take n b p 0 lt)
    (λ (high : length b ≤ p).
    get_or-append_right (take n b) (replicate (n - length b) 0) (length b) p 0 (omega arith) high
    ∙ get_or-zeros (n - length b) (p - length b) ∙ sym (get_or_past b p 0 high))
    (cases_lt p (length b))

module _ (b : List ℕ) (o x : ℕ) (w : List ℕ) where
  abbrev head : List ℕ
  head = cut b o ++ (x ∷ w)

  head_length : length head ≡ o + length (x ∷ w)
  head_length = let l = length-append (cut b o) (x ∷ w) in let c = length-cut b o in omega arith

  put_length_cons : length (put b o (x ∷ w)) ≡ max (length b) (o + length (x ∷ w))
  put_length_cons = let l = length-append head (drop (o + length (x ∷ w)) b) in let h = head_length in
      let d = length-drop (o + length (x ∷ w)) b in omega arith

  put_before : (p : ℕ) → p < o → get_or (put b o (x ∷ w)) p 0 ≡ get_or b p 0
  put_before p lt =
      let h = head_length in
      let c = length-cut b o in
      get_or_append_left head (drop (o + length (x ∷ w)) b) 0 p (omega arith)
      ∙ get_or_append_left (cut b o) (x ∷ w) 0 p (omega arith) ∙ get_or-cut b o p lt

  put_inside : (p : ℕ) → o ≤ p → p < o + length (x ∷ w) → get_or (put b o (x ∷ w)) p 0 ≡ get_or (x ∷ w) (p - o) 0
  put_inside p le lt =
      let h = head_length in
      get_or_append_left head (drop (o + length (x ∷ w)) b) 0 p (omega arith)
      ∙ get_or-append_right (cut b o) (x ∷ w) o p 0 (length-cut b o) le

  put_behind : (p : ℕ) → o + length (x ∷ w) ≤ p → get_or (put b o (x ∷ w)) p 0 ≡ get_or b p 0
  put_behind p le =
      get_or-append_right head (drop (o + length (x ∷ w)) b) (o + length (x ∷ w)) p 0 head_length le
      ∙ get_or-drop (o + length (x ∷ w)) b (p - (o + length (x ∷ w))) 0
      ∙ ap (λ (k : ℕ). get_or b k 0) (omega arith)

-- ---- overlays

pub overlays_join : OverlaysJoin
overlays_join o u w old mid new first next = record {
  before = λ p lt. next.before p (omega arith) ∙ first.before p lt;
  inside = λ j lt.
      let l = length-append u w in
      ⊎_elim
      (λ (low : j < length u). next.before (o + j) (omega arith) ∙ first.inside j low ∙ sym (get_or_append_left u w 0 j low))
      (λ (high : length u ≤ j).
      ap new (at j high) ∙ next.inside (j - length u) (omega arith) ∙ sym (get_or-append_right u w (length u) j 0 refl high))
      (cases_lt j (length u));
  behind = λ p le. let l = length-append u w in next.behind p (omega arith) ∙ first.behind p (omega arith);
}
  where
    at : (j : ℕ) → length u ≤ j → o + j ≡ o + length u + (j - length u)
    at j high = omega arith

-- the same, said of each block
pub overlays_by_blocks : OverlaidByBlocks
overlays_by_blocks m m' n o w before inside behind = record {
  before = λ p lt. before (p / 512) (p % 512) (omega arith) (omega arith);
  inside = λ j lt. inside ((o + j) / 512) ((o + j) % 512) j (omega arith) lt (omega arith);
  behind = λ p le. behind (p / 512) (p % 512) (omega arith) (omega arith);
}

module _ (m m' : LogMap) (n i : ℕ) (bytes : List ℕ) (with_it : IsWithBlock m n i bytes m') where
  -- a place of the file in the block, and one in another block
  here : (p : ℕ) → p / 512 ≡ i → byte_in m' n p ≡ slice_index bytes (p % 512)
  here p at = ap (λ (q : ℕ). slice_index (m'.block n q) (p % 512)) at ∙ ap (λ (b : List ℕ). slice_index b (p % 512)) with_it.own

  was : (p : ℕ) → p / 512 ≡ i → slice_index (m.block n i) (p % 512) ≡ byte_in m n p
  was p at = ap (λ (q : ℕ). slice_index (m.block n q) (p % 512)) (sym at)

  elsewhere : (p : ℕ) → (p / 512 ≡ i → ⊥) → byte_in m' n p ≡ byte_in m n p
  elsewhere p ne = ap (λ (b : List ℕ). slice_index b (p % 512)) (with_it.others n (p / 512) (λ h. ne (place h)))
    where
      place : Data n (p / 512) ≡ Data n i → p / 512 ≡ i
      place h = cc

  module _ (o : ℕ) (w : List ℕ) (room : o + length w ≤ 512) (over : Overlays o w (slice_index (m.block n i)) (slice_index bytes)) where
    overlaid_before : (p : ℕ) → p < 512 * i + o → byte_in m' n p ≡ byte_in m n p
    overlaid_before p lt = ⊎_elim
        (λ (at : p / 512 ≡ i). here p at ∙ over.before (p % 512) (omega arith) ∙ was p at)
        (λ (ne : p / 512 ≡ i → ⊥). elsewhere p ne)
        (cases_eq (p / 512) i)

    overlaid_behind : (p : ℕ) → 512 * i + o + length w ≤ p → byte_in m' n p ≡ byte_in m n p
    overlaid_behind p le = ⊎_elim
        (λ (at : p / 512 ≡ i). here p at ∙ over.behind (p % 512) (omega arith) ∙ was p at)
        (λ (ne : p / 512 ≡ i → ⊥). elsewhere p ne)
        (cases_eq (p / 512) i)

    overlaid_inside : (j : ℕ) → j < length w → byte_in m' n (512 * i + o + j) ≡ slice_index w j
    overlaid_inside j lt =
        let at : (512 * i + o + j) / 512 ≡ i = omega arith in
        let place : (512 * i + o + j) % 512 ≡ o + j = omega arith in
        here (512 * i + o + j) at ∙ ap (slice_index bytes) place ∙ over.inside j lt

pub block_overlaid : BlockOverlaid
block_overlaid m m' n i bytes with_it o w room over = record {
  before = overlaid_before m m' n i bytes with_it o w room over;
  inside = overlaid_inside m m' n i bytes with_it o w room over;
  behind = overlaid_behind m m' n i bytes with_it o w room over;
}

-- ---- writes

-- no byte past a file's size is other than zero
pub map_ends : (m : LogMap) (n : ℕ) (h : Header) → IsLogMap m → m.header n ≡ Some h → EndsAt h.size (byte_in m n)
map_ends m n h is at p le = is.past n (p / 512) (p % 512) h at (omega arith)

-- a byte of the object, and 0 past it
pub byte_is : (m : LogMap) (n : ℕ) (h : Header) → EndsAt h.size (byte_in m n) → (p : ℕ) → byte_in m n p ≡ get_or (object m n h) p 0
byte_is m n h ends p = ⊎_elim
    (λ (low : p < h.size). sym (object_byte m n h p low))
    (λ (high : h.size ≤ p). let l = object_length m n h in ends p high ∙ sym (get_or_past (object m n h) p 0 (omega arith)))
    (cases_lt p h.size)

pub written : (m m' : LogMap) (n : ℕ) (h h' : Header) → EndsAt h.size (byte_in m n) → (o x : ℕ) (w : List ℕ)
    → h'.size ≡ max h.size (o + length (x ∷ w)) → Overlays o (x ∷ w) (byte_in m n) (byte_in m' n)
    → object m' n h' ≡ put (object m n h) o (x ∷ w)
written m m' n h h' ends o x w size over =
    let l = object_length m n h in
    object_is m' n h' (put (object m n h) o (x ∷ w))
    (put_length_cons (object m n h) o x w ∙ ap (λ (k : ℕ). max k (o + length (x ∷ w))) l ∙ sym size)
    (λ p lt. ⊎_elim
    (λ (before : p < o). over.before p before ∙ byte_is m n h ends p ∙ sym (put_before (object m n h) o x w p before))
    (λ (from : o ≤ p). ⊎_elim
    (λ (inside : p < o + length (x ∷ w)).
    let at : p ≡ o + (p - o) = omega arith in
    ap (byte_in m' n) at ∙ over.inside (p - o) (omega arith) ∙ sym (put_inside (object m n h) o x w p from inside))
    (λ (behind : o + length (x ∷ w) ≤ p). over.behind p behind ∙ byte_is m n h ends p ∙ sym (put_behind (object m n h) o x w p behind))
    (cases_lt p (o + length (x ∷ w))))
    (cases_lt p o))

pub object_written : ObjectWritten
object_written m m' n h h' is at o w writes = by w writes.some writes.size writes.bytes
  where
    by : (w : List ℕ) → 0 < length w → h'.size ≡ max h.size (o + length w) → Overlays o w (byte_in m n) (byte_in m' n)
        → object m' n h' ≡ put (object m n h) o w
    by [] some size over = absurd (omega arith)
    by (x ∷ w) some size over = written m m' n h h' (map_ends m n h is at) o x w size over

pub write_ends : WriteEnds
write_ends m m' n h h' is at o w writes p le =
    let size = writes.size in
    let over = writes.bytes in
    over.behind p (omega arith) ∙ map_ends m n h is at p (omega arith)

-- ---- cuts

pub lengthened : Lengthened
lengthened m m' n h h' is at len le size same = record {
  size = size;
  whole = λ i _. same i;
  last = λ k _. ap (λ (b : List ℕ). slice_index b k) (same (len / 512));
  zeros = λ k high. ap (λ (b : List ℕ). slice_index b k) (same (len / 512)) ∙ is.past n (len / 512) k h at (omega arith);
  gone = λ i high. same i ∙ none i high;
}
  where
    none : (i : ℕ) → len ≤ 512 * i → m.block n i ≡ []
    none i high = ⊎_elim
        (λ (some : 0 < length (m.block n i)).
        let there = is.within n i some in
        let one : there.0 ≡ h = (let both : Some there.0 ≡ Some h = sym there.1 ∙ at in cc) in
        let low : 512 * i < h.size = subst (λ (g : Header). 512 * i < g.size) one there.2 in
        absurd (omega arith))
        (λ (empty : length (m.block n i) ≤ 0). nil_from_length (m.block n i) (omega arith))
        (cases_lt 0 (length (m.block n i)))

pub cut_ends : CutEnds
cut_ends m m' n h h' len cuts p le = ⊎_elim
    (λ (at : p / 512 ≡ len / 512). ap (λ (q : ℕ). slice_index (m'.block n q) (p % 512)) at ∙ cuts.zeros (p % 512) (omega arith))
    (λ (ne : p / 512 ≡ len / 512 → ⊥). ap (λ (b : List ℕ). slice_index b (p % 512)) (cuts.gone (p / 512) (omega arith)))
    (cases_eq (p / 512) (len / 512))

cut_byte : (m m' : LogMap) (n : ℕ) (h h' : Header) (len : ℕ) → CutsBytes m m' n h h' len → (p : ℕ) → p < len
    → byte_in m' n p ≡ byte_in m n p
cut_byte m m' n h h' len cuts p lt = ⊎_elim
    (λ (at : p / 512 ≡ len / 512).
    ap (λ (q : ℕ). slice_index (m'.block n q) (p % 512)) at ∙ cuts.last (p % 512) (omega arith)
    ∙ ap (λ (q : ℕ). slice_index (m.block n q) (p % 512)) (sym at))
    (λ (ne : p / 512 ≡ len / 512 → ⊥). ap (λ (b : List ℕ). slice_index b (p % 512)) (cuts.whole (p / 512) (omega arith)))
    (cases_eq (p / 512) (len / 512))

pub object_cut : ObjectCut
object_cut m m' n h h' is at len cuts =
    let size = cuts.size in
    object_is m' n h' (cut (object m n h) len) (length-cut (object m n h) len ∙ sym size)
    (λ p lt. cut_byte m m' n h h' len cuts p (omega arith) ∙ byte_is m n h (map_ends m n h is at) p
    ∙ sym (get_or-cut (object m n h) len p (omega arith)))
