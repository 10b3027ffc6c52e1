-- The first row that gives each number.
use Rattle.std.proofs.Common.{◌≡◌, ◌≢◌, ◌<◌, ◌≤◌, ◌⊎◌, ℕ, ◌+◌, List, length, get_or, sym, ◌∙◌, ap, subst, arith, inl, inr}
use Rattle.std.specs.Prelude.{replicate}
use Rattle.std.proofs.lemmas.List.{get_or-replicate, get_or_default, length-replicate}
use Rattle.std.proofs.Common.{get_or-set_other, get_or-set_same, length-set, slice_set}
use Rattle.lfs_fs.specs.entries.declared.rows.TreeRow.{TreeRow}
use Rattle.lfs_copy.specs.Paths.{AreFirsts, NoneBefore}

-- of the rows before a place those before the place that a number has don't give it; and each place is one of a row, or behind all
pub record Finding (rows : List TreeRow) (count : ℕ) (firsts : List ℕ) : Type 0 where
  pub size : length firsts ≡ 4096
  pub most : (number d : ℕ) → number < 4096 → get_or firsts number d ≤ length rows
  pub none : (number d k : ℕ) (e : TreeRow) → number < 4096 → k < count → k < get_or firsts number d → (get_or rows k e).number ≢ number

split : (k count : ℕ) → k < count + 1 → (k < count) ⊎ (k ≡ count)
split k count h = grind arith

nat_eq_or : (a b : ℕ) → (a ≡ b) ⊎ (a ≢ b)
nat_eq_or a b = grind arith

-- the row behind these, whatever is told of a place behind all
row_at : (rows : List TreeRow) (count k : ℕ) (d e : TreeRow) → count < length rows → k ≡ count
    → (get_or rows k e).number ≡ (get_or rows count d).number
row_at rows count k d e within same =
    ap (λ (n : ℕ). (get_or rows n e).number) same ∙ ap (λ (r : TreeRow). r.number) (get_or_default rows count e d within)

-- no number gets the next place, since the number of its row has an earlier one, or none
kept : (rows : List TreeRow) (count : ℕ) (d : TreeRow) (firsts : List ℕ) → Finding rows count firsts → count < length rows
    → ((f : ℕ) → (get_or rows count d).number < 4096 → get_or firsts (get_or rows count d).number f ≤ count)
    → Finding rows (count + 1) firsts
kept rows count d firsts so_far within past = record {
  size = so_far.size;
  most = so_far.most;
  none = λ number f k e low before first. by number f k e low first (split k count before);
}
  where
    by : (number f k : ℕ) (e : TreeRow) → number < 4096 → k < get_or firsts number f → (k < count) ⊎ (k ≡ count)
        → (get_or rows k e).number ≢ number
    by number f k e low first (inl less) = so_far.none number f k e low less first
    by number f k e low first (inr same) = λ is.
        let m_is : (get_or rows count d).number ≡ number = sym (row_at rows count k d e within same) ∙ is in
        let h = past f (subst (λ (n : ℕ). n < 4096) (sym m_is) low) in
        let at_most : get_or firsts number f ≤ count = subst (λ (n : ℕ). get_or firsts n f ≤ count) m_is h in
        absurd (omega (arith, at_most, first, same))

pub finding_earlier : (rows : List TreeRow) (count : ℕ) (d : TreeRow) (firsts : List ℕ) (value : ℕ) → Finding rows count firsts
    → count < length rows → value ≡ get_or firsts (get_or rows count d).number value → value ≤ count → Finding rows (count + 1) firsts
finding_earlier rows count d firsts value so_far within is low =
    kept rows count d firsts so_far within (λ f less.
    let size = so_far.size in
    let same = get_or_default firsts (get_or rows count d).number f value (omega (arith, size, less)) in
    omega (arith, same, is, low))

pub finding_beyond : (rows : List TreeRow) (count : ℕ) (d : TreeRow) (firsts : List ℕ) → Finding rows count firsts
    → count < length rows → 4096 ≤ (get_or rows count d).number → Finding rows (count + 1) firsts
finding_beyond rows count d firsts so_far within high =
    kept rows count d firsts so_far within (λ f less. absurd (omega (arith, high, less)))

-- the number of the next row gets its place
pub finding_set : (rows : List TreeRow) (count : ℕ) (d : TreeRow) (firsts : List ℕ) (value : ℕ) → Finding rows count firsts
    → count < length rows → (get_or rows count d).number < 4096 → value ≡ get_or firsts (get_or rows count d).number value
    → count < value → Finding rows (count + 1) (slice_set firsts (get_or rows count d).number count)
finding_set rows count d firsts value so_far within less is above = record {
  size = length-set firsts m count ∙ so_far.size;
  most = λ number f low. most number f low (nat_eq_or number m);
  none = λ number f k e low before first. none number f k e low first (nat_eq_or number m) (split k count before);
}
  where
    m : ℕ
    m = (get_or rows count d).number

    inside : m < length firsts
    inside = (let s = so_far.size in omega (arith, s, less))

    own : (number f : ℕ) → number ≡ m → get_or (slice_set firsts m count) number f ≡ count
    own number f same =
        ap (λ (n : ℕ). get_or (slice_set firsts m count) n f) same ∙ get_or-set_same firsts m count f inside

    most : (number f : ℕ) → number < 4096 → (number ≡ m) ⊎ (number ≢ m) → get_or (slice_set firsts m count) number f ≤ length rows
    most number f low (inl same) = (let at = own number f same in omega (arith, at, within))
    most number f low (inr apart) =
        let at = get_or-set_other firsts m number count f apart in
        let h = so_far.most number f low in
        omega (arith, at, h)

    none : (number f k : ℕ) (e : TreeRow) → number < 4096 → k < get_or (slice_set firsts m count) number f
        → (number ≡ m) ⊎ (number ≢ m) → (k < count) ⊎ (k ≡ count) → (get_or rows k e).number ≢ number
    none number f k e low first (inl same) (inl k_less) =
        let v : value ≡ get_or firsts number value = is ∙ ap (λ (n : ℕ). get_or firsts n value) (sym same) in
        so_far.none number value k e low k_less (omega (arith, v, k_less, above))
    none number f k e low first (inl same) (inr k_same) =
        let at = own number f same in
        absurd (omega (arith, at, first, k_same))
    none number f k e low first (inr apart) (inl k_less) =
        let at = get_or-set_other firsts m number count f apart in
        so_far.none number f k e low k_less (omega (arith, at, first))
    none number f k e low first (inr apart) (inr k_same) = λ given.
        apart (sym given ∙ row_at rows count k d e within k_same)

-- all rows were gone through
pub found_all : (rows : List TreeRow) (count : ℕ) (firsts : List ℕ) → Finding rows count firsts → count ≡ length rows
    → AreFirsts rows firsts
found_all rows count firsts so_far all = λ number d low k e first.
    let low' : number < 4096 = (let s = so_far.size in omega (arith, s, low)) in
    let m = so_far.most number d low' in
    so_far.none number d k e low' (omega (arith, m, first, all)) first

pub finding_new : (rows : List TreeRow) (firsts : List ℕ) → firsts ≡ replicate 4096 (length rows) → Finding rows 0 firsts
finding_new rows firsts is = record {
  size = ap length is ∙ length-replicate 4096 (length rows);
  most = λ number d low.
      (let at = ap (λ (l : List ℕ). get_or l number d) is ∙ get_or-replicate 4096 number (length rows) d low in omega (arith, at));
  none = λ number d k e low before first. absurd (omega (arith, before));
}

-- an earlier place than that of the first row
pub none_before : (rows : List TreeRow) (firsts shown : List ℕ) (number first index : ℕ) → shown ≡ firsts → AreFirsts rows firsts
    → number < length shown → first ≡ get_or shown number first → index ≤ first → NoneBefore rows number index
none_before rows firsts shown number first index same all low at behind = λ k e less.
    let low' = subst (λ (l : List ℕ). number < length l) same low in
    let at' = subst (λ (l : List ℕ). first ≡ get_or l number first) same at in
    all number first low' k e (omega (arith, at', less, behind))
