-- What was heard and used, put together.
use Rattle.std.proofs.Common.{◌≡◌, ◌+◌, ◌-◌, ◌<◌, ◌≤◌, ℕ, suc, Option, Some, Ok, Err, List, [], ◌∷◌, ◌++◌, length, get_or, slice_range}
use Rattle.std.proofs.Common.{arith, sym, ap, ◌∙◌, subst, append_assoc, drop, take}
use lib.Seq.{drop-cons}
use native.Mathlib.Numerals.{add-one}
use Rattle.std.proofs.lemmas.List.{append-nil}
use Rattle.std.specs.Prelude.{IsErr, IsTrue, Result}
use Rattle.std.specs.Io.KnownBytes.{Consumes, IsAtEnd, prepend_known}
use Rattle.lfs_script.specs.Bytes.{taken}
use Rattle.lfs_script.specs.LineEnd.{consumed_by_line}
use Rattle.lfs_script.specs.declared.line.LineEnd.{LineEnd}
use Rattle.lfs_script.specs.Heard.{Heard, HearsByte, HearsEnd, HearsTo, UsesHeard}

-- nothing was read or used, and nothing was left
pub uses_start : (h : Heard) {left : List ℕ} → left ≡ [] → UsesHeard h h [] left []
uses_start h none = record { bytes = []; all = sym (append-nil h.bytes); parts = sym none }

pub uses_then : (a b c : Heard) (left mid left' first second : List ℕ) → UsesHeard a b left mid first → UsesHeard b c mid left' second
    → UsesHeard a c left left' (first ++ second)
uses_then a b c left mid left' first second one two = record {
  bytes = one.bytes ++ two.bytes;
  all = two.all ∙ ap (λ t. t ++ two.bytes) one.all ∙ append_assoc a.bytes one.bytes two.bytes;
  parts = sym (append_assoc left one.bytes two.bytes) ∙ ap (λ t. t ++ two.bytes) one.parts ∙ append_assoc first mid two.bytes
      ∙ ap (λ t. first ++ t) two.parts ∙ sym (append_assoc first second left');
}

-- a byte more, or the end of the input
pub uses_found : (E : Type 0) (a b c : Heard) (left mid left' text : List ℕ) {found is : Option ℕ} → found ≡ is
    → UsesHeard a b left mid text → UsesHeard b c mid left' (taken {E = E} (Ok found))
    → UsesHeard a c left left' (text ++ taken {E = E} (Ok is))
uses_found E a b c left mid left' text {found} {is} e before next =
    uses_then a b c left mid left' text (taken {E = E} (Ok is)) before
    (subst (λ (o : Option ℕ). UsesHeard b c mid left' (taken {E = E} (Ok o))) e next)

-- a byte more of a line
pub uses_byte : (E : Type 0) (a b c : Heard) (left mid left' text : List ℕ) {new : List ℕ} {found : Option ℕ} {byte : ℕ}
    → found ≡ Some byte → new ≡ text ++ byte ∷ [] → UsesHeard a b left mid text → UsesHeard b c mid left' (taken {E = E} (Ok found))
    → UsesHeard a c left left' new
uses_byte E a b c left mid left' text is pushed before next =
    subst (UsesHeard a c left left') (sym pushed) (uses_found E a b c left mid left' text is before next)

-- a read that failed
pub uses_fault : {E : Type 0} (a b c : Heard) (left mid left' text : List ℕ) (result : Result LineEnd E) → IsErr result
    → UsesHeard a b left mid text → UsesHeard b c mid left' [] → UsesHeard a c left left' (text ++ consumed_by_line result)
uses_fault a b c left mid left' text (Err error) is before next = uses_then a b c left mid left' text [] before next
uses_fault a b c left mid left' text (Ok end) is before next = absurd (cc is)

-- the first of a range, and the others
range_first : (items : List ℕ) (start end byte : ℕ) → start < end → end ≤ length items
    → slice_range items start end ≡ get_or items start byte ∷ slice_range items (start + 1) end
range_first items start end byte some within =
    let one : end - start ≡ suc (end - (start + 1)) = omega (arith, some) in
    (λ i. take (one i) (drop-cons items start byte (omega (arith, some, within)) i))
    ∙ ap (λ n. get_or items start byte ∷ take (end - (start + 1)) (drop n items)) (sym (add-one start))

-- the next byte of what is left
pub hears_next : (E : Type 0) (h : Heard) (items : List ℕ) (start end : ℕ) {byte : ℕ} → start < end → end ≤ length items
    → byte ≡ get_or items start byte
    → HearsByte {E = E} h h (slice_range items start end) (slice_range items (start + 1) end) (Ok (Some byte))
hears_next E h items start end {byte} some within is = record {
  bytes = record {
    bytes = [];
    all = sym (append-nil h.bytes);
    parts = append-nil (slice_range items start end) ∙ range_first items start end byte some within
        ∙ ap (λ b. b ∷ slice_range items (start + 1) end) (sym is);
  };
  end = λ none. absurd (cc none);
}

-- with any rest behind it
pub used_of_input : {a b : Heard} {left left' used : List ℕ} (uses : UsesHeard a b left left' used) (rest : List ℕ)
    → Consumes (Some (left ++ (uses.bytes ++ rest))) (prepend_known left' (Some rest)) used
used_of_input {left} {left'} {used} uses rest =
    sym (append_assoc left uses.bytes rest) ∙ ap (λ t. t ++ rest) uses.parts ∙ append_assoc used left' rest

-- the input's end, where nothing is left
pub at_end : (h : Heard) (left rest : List ℕ) → HearsEnd h left → (IsTrue h.ended → rest ≡ []) → IsAtEnd (prepend_known left (Some rest))
at_end h left rest end none = ap (λ t. t ++ rest) end.1 ∙ none end.0

-- ---- in hindsight

module _ (P : Option (List ℕ) → Option (List ℕ) → Type 0) where
  -- nothing was read
  pub hears_none : (h : Heard) → ((rest : List ℕ) → P (Some rest) (Some rest)) → HearsTo h h P
  hears_none h holds = record { bytes = []; all = sym (append-nil h.bytes); holds = λ rest none. holds rest }

  -- what was heard and used, or is left
  pub hears_used : (a b : Heard) (left used : List ℕ) (uses : UsesHeard a b [] left used)
      → ((rest : List ℕ) → P (Some (uses.bytes ++ rest)) (Some rest)) → HearsTo a b P
  hears_used a b left used uses holds = record { bytes = uses.bytes; all = uses.all; holds = λ rest none. holds rest }

  -- and what was heard behind that
  pub hears_then : (a b c : Heard) (mid left first second : List ℕ) (one : UsesHeard a b [] mid first) (two : UsesHeard b c mid left second)
      → ((rest : List ℕ) → (IsTrue c.ended → rest ≡ []) → P (Some (one.bytes ++ (two.bytes ++ rest))) (Some rest)) → HearsTo a c P
  hears_then a b c mid left first second one two holds = record {
    bytes = one.bytes ++ two.bytes;
    all = two.all ∙ ap (λ t. t ++ two.bytes) one.all ∙ append_assoc a.bytes one.bytes two.bytes;
    holds = λ rest none.
        subst (λ t. P (Some t) (Some rest)) (sym (append_assoc one.bytes two.bytes rest)) (holds rest none);
  }

  -- nothing more was heard
  pub hears_still : (a b c : Heard) → c ≡ b → HearsTo a b P → HearsTo a c P
  hears_still a b c still hears = subst (λ (h : Heard). HearsTo a h P) (sym still) hears

pub hears_more : (P Q : Option (List ℕ) → Option (List ℕ) → Type 0) (a b : Heard)
    → ((r r' : Option (List ℕ)) → P r r' → Q r r') → HearsTo a b P → HearsTo a b Q
hears_more P Q a b more hears = record {
  bytes = hears.bytes;
  all = hears.all;
  holds = λ rest none. more (Some (hears.bytes ++ rest)) (Some rest) (hears.holds rest none);
}
