-- Log maps with another block or header, and blocks of zeros.
use Rattle.std.proofs.Common.{◌≡◌, ◌*◌, ◌==◌, ◌&&◌, cond, ℕ, zero, suc, Bool, true, false, List, [], ◌∷◌, length, take, drop}
use Rattle.std.proofs.Common.{Option, ◌⊎◌, inl, inr, refl, sym, ◌∙◌, ap, arith}
use Rattle.std.proofs.Math.Path.{fun_ext}
use Rattle.std.proofs.lemmas.Bool.{cases_eq, cases_Bool}
use Rattle.std.proofs.lemmas.Bool.Decides.{nat_tests}
use Rattle.lfs_model.specs.Changing.{IsWithBlock, IsWithHeader}
use Rattle.lfs_model.specs.Entry.{Data, Header, word}
use Rattle.lfs_model.specs.Fields.{zeros, number_of, read32, part}
use Rattle.lfs_model.specs.Stands.{LogMap}
use Rattle.lfs_memory.specs.Changing.{is_blank, stored, with_block, with_header}

equal_yes : (k n : ℕ) → k ≡ n → (k == n) ≡ true
equal_yes k n is = grind (arith, nat_tests)

equal_no : {k n : ℕ} → (k ≡ n → ⊥) → (k == n) ≡ false
equal_no ne = grind (arith, nat_tests)

both_no : (a b : Bool) → (a ≡ true → b ≡ true → ⊥) → (a && b) ≡ false
both_no false b never = refl
both_no true false never = refl
both_no true true never = absurd (never refl refl)

pub both_yes : (a b : Bool) → (a && b) ≡ true → (a ≡ true) × (b ≡ true)
both_yes true true e = (refl, refl)
both_yes true false e = cc
both_yes false b e = cc

pub equal_is : (k n : ℕ) → (k == n) ≡ true → k ≡ n
equal_is k n e = elim (cases_eq k n) [ inl is ↦ is | inr ne ↦ let no = equal_no ne in cc ]

-- ---- another block
own_block : (m : LogMap) (n i : ℕ) (bytes : List ℕ) → cond ((n == n) && (i == i)) bytes (m.block n i) ≡ bytes
own_block m n i bytes = rw (equal_yes n n refl) (ap (λ (b : Bool). cond b bytes (m.block n i)) (equal_yes i i refl))

other_block : (m : LogMap) (n i : ℕ) (bytes : List ℕ) (k l : ℕ) → (Data k l ≡ Data n i → ⊥)
    → cond ((k == n) && (l == i)) bytes (m.block k l) ≡ m.block k l
other_block m n i bytes k l ne = rw (both_no (k == n) (l == i) (λ a b. let x = equal_is k n a in let y = equal_is l i b in ne cc))

pub is_with_block : (m : LogMap) (n i : ℕ) (bytes : List ℕ) → IsWithBlock m n i bytes (with_block m n i bytes)
is_with_block m n i bytes = record {
  header = λ k. refl;
  own = own_block m n i bytes;
  others = λ k l ne. other_block m n i bytes k l ne;
  version = refl;
}

-- the block that it had
pub with_same_block : (m : LogMap) (n i : ℕ) (bytes : List ℕ) → m.block n i ≡ bytes → with_block m n i bytes ≡ m
with_same_block m n i bytes is = rw (fun_ext (λ k. fun_ext (λ l. same k l)))
  where
    same : (k l : ℕ) → cond ((k == n) && (l == i)) bytes (m.block k l) ≡ m.block k l
    same k l = elim (cases_Bool ((k == n) && (l == i))) [
      | inl on ↦ rw on (sym is ∙ here on)
      | inr off ↦ rw off
    ]
      where
        here : ((k == n) && (l == i)) ≡ true → m.block n i ≡ m.block k l
        here on = let p = both_yes (k == n) (l == i) on in let x = equal_is k n p.0 in let y = equal_is l i p.1 in cc

-- ---- another header
pub is_with_header : (m : LogMap) (n : ℕ) {h : Option Header} → IsWithHeader m n h (with_header m n h)
is_with_header m n = record {
  own = rw (equal_yes n n refl);
  others = λ k ne. rw (equal_no ne);
  block = λ k l. refl;
  version = refl;
}

-- ---- blocks of zeros
blank_zeros : (n : ℕ) → is_blank (zeros n) ≡ true
unfolding is_blank zeros
blank_zeros zero = refl
blank_zeros (suc n) = blank_zeros n

zeros_blank : (bytes : List ℕ) → is_blank bytes ≡ true → bytes ≡ zeros (length bytes)
unfolding is_blank zeros
zeros_blank [] on = refl
zeros_blank (zero ∷ bytes) on = ap (λ (bs : List ℕ). 0 ∷ bs) (zeros_blank bytes on)
zeros_blank (suc b ∷ bytes) on = absurd (omega (arith, equal_is (suc b) 0 (both_yes (suc b == 0) (is_blank bytes) on).0))

pub stored_none : (bytes : List ℕ) (n : ℕ) → bytes ≡ zeros n → stored bytes ≡ []
stored_none bytes n is = rw (ap is_blank is ∙ blank_zeros n)

pub stored_some : (bytes : List ℕ) {n : ℕ} → length bytes ≡ n → (bytes ≡ zeros n → ⊥) → stored bytes ≡ bytes
stored_some bytes long some = elim (cases_Bool (is_blank bytes)) [
  | inl on ↦ absurd (some (zeros_blank bytes on ∙ ap zeros long))
  | inr off ↦ ap (λ (b : Bool). cond b [] bytes) off
]

number_zero : (n : ℕ) → number_of (zeros n) ≡ 0
unfolding zeros
number_zero zero = refl
number_zero (suc n) = omega (arith, number_zero n)

drop_zeros : (k n : ℕ) → (r : ℕ) × (drop k (zeros n) ≡ zeros r)
unfolding zeros
drop_zeros zero n = (n, refl)
drop_zeros (suc k) zero = (0, refl)
drop_zeros (suc k) (suc n) = drop_zeros k n

take_zeros : (k n : ℕ) → (r : ℕ) × (take k (zeros n) ≡ zeros r)
unfolding zeros
take_zeros zero n = (0, refl)
take_zeros (suc k) zero = (0, refl)
take_zeros (suc k) (suc n) = let rest = take_zeros k n in (suc rest.0, rw rest.1)

pub word_zeros : (n w : ℕ) → word (zeros n) w ≡ 0
unfolding word read32 part
word_zeros n w =
    let d = drop_zeros (4 * w) n in
    let t = take_zeros 4 d.0 in
    rw d.1 (ap number_of t.1 ∙ number_zero t.0)

pub length_zeros : (n : ℕ) → length (zeros n) ≡ n
unfolding zeros
length_zeros zero = refl
length_zeros (suc n) = ap suc (length_zeros n)

pub blank_or : (bytes : List ℕ) → length bytes ≡ 512 → (bytes ≡ zeros 512) ⊎ (bytes ≡ zeros 512 → ⊥)
blank_or bytes long = elim (cases_Bool (is_blank bytes)) [
  | inl on ↦ inl (zeros_blank bytes on ∙ ap zeros long)
  | inr off ↦ inr (λ is. let on = ap is_blank is ∙ blank_zeros 512 in cc)
]
