-- Lists of blocks in the order of their numbers: what stands at a place, and what an edit there leaves.
use Rattle.std.proofs.Common.{◌≡◌, ◌<◌, ◌≤◌, ⊎_elim, ◌+◌, cond, ℕ, zero, suc, List, [], ◌∷◌, length, get_or, set, Option, Some, None, refl}
use Rattle.std.proofs.Common.{sym, ◌∙◌, ap, subst, arith}
use Rattle.std.specs.Prelude.{T, not, is_some}
use Rattle.std.specs.List.{insert, remove}
use Rattle.std.specs.Option.{option_map}
use Rattle.std.specs.Ordering.{nat_cmp, eq_by_cmp, is_lt}
use Rattle.std.specs.declared.cmp.Ordering.TheVariants.{Less, Equal}
use Rattle.std.specs.FinMap.{find, put, is_sorted}
use Rattle.std.specs.FinMap.Entries.{below_all, by_order, find-put, is_sorted-put, is_sorted-where_key, find-where_key, length-put}
use Rattle.std.specs.FinMap.Entries.{length_without}
use Rattle.std.proofs.lemmas.Cmp.{nat_cmp_total}
use Rattle.std.proofs.lemmas.Bool.{cases_lt}
use Rattle.std.proofs.lemmas.Bool.Decides.{nat_tests}
use Rattle.lfs_model.specs.Tree.{without}
use Rattle.lfs_model.specs.Entry.{Entry}
use Rattle.lfs_model.proofs.Sums.{T_left, T_right}
use Rattle.lfs_model.proofs.Trees.{cmp_same, cmp_other}
use Rattle.lfs_model.specs.Staging.{ChangesTo}
use Rattle.lfs_inodes.specs.Code.{code, entry_at, IsCode}
use Rattle.lfs_inodes.specs.Blocks.{Blocks, TableValue, blocks_in, blocks_of, number_at, HasNumberAt, IsGapFor, altered_as, altered}
use Rattle.lfs_inodes.proofs.Codes.{code_entry, entry_of_code}

-- ---- comparisons
cmp_less : (a b : ℕ) → a < b → nat_cmp a b ≡ Less
cmp_less a b lt = grind (arith, nat_tests)

cmp_equal : {a b : ℕ} → a ≡ b → nat_cmp a b ≡ Equal
cmp_equal e = grind (arith, nat_tests)

less_is : (a b : ℕ) → T (is_lt (nat_cmp a b)) → a < b
less_is a b h = grind arith

-- ---- the numbers rise
below_number : (c : ℕ) (es : Blocks) → T (below_all nat_cmp c es) → (j : ℕ) → j < length es → c < number_at es j
below_number c [] h j lt = absurd (omega arith)
below_number c (e ∷ es) h zero lt = less_is c e.0 (T_left _ _ h)
below_number c (e ∷ es) h (suc j) lt = below_number c es (T_right (is_lt (nat_cmp c e.0)) _ h) j (omega arith)

pub rises : (es : Blocks) → T (is_sorted nat_cmp es) → (i j : ℕ) → i < j → j < length es → number_at es i < number_at es j
rises [] h i j lt room = absurd (omega arith)
rises (e ∷ es) h i zero lt room = absurd (omega arith)
rises (e ∷ es) h zero (suc j) lt room = below_number e.0 es (T_left _ _ h) j (omega arith)
rises (e ∷ es) h (suc i) (suc j) lt room = rises es (T_right (below_all nat_cmp e.0 es) _ h) i j (omega arith) (omega arith)

-- ---- what stands at a place
pub find_more : (e : ℕ × List ℕ) (es : Blocks) (c : ℕ) → (e.0 ≡ c → ⊥) → find nat_cmp c (e ∷ es) ≡ find nat_cmp c es
find_more e es c ne = grind arith

find_first : (e : ℕ × List ℕ) (es : Blocks) (c : ℕ) → e.0 ≡ c → find nat_cmp c (e ∷ es) ≡ Some e.1
find_first e es c is = grind arith

pub find_none : (es : Blocks) (c : ℕ) → ((j : ℕ) → j < length es → number_at es j ≡ c → ⊥) → find nat_cmp c es ≡ None
find_none [] c away = refl
find_none (e ∷ es) c away = find_more e es c (away 0 (omega arith)) ∙ find_none es c (λ j lt. away (suc j) (omega arith))

pub find_gap : {es : Blocks} {c i : ℕ} → IsGapFor es c i → find nat_cmp c es ≡ None
find_gap {es} {c} {i} gap = find_none es c (λ j lt same. ⊎_elim
    (λ early. omega (arith, gap.before j early))
    (λ late. omega (arith, gap.after j late lt))
    (cases_lt j i))

find_at_first : (es : Blocks) (c i : ℕ) → i < length es → number_at es i ≡ c → ((j : ℕ) → j < i → number_at es j < c)
    → find nat_cmp c es ≡ Some (get_or es i (0, [])).1
find_at_first [] c i lt is before = absurd (omega arith)
find_at_first (e ∷ es) c zero lt is before = find_first e es c is
find_at_first (e ∷ es) c (suc i) lt is before =
    find_more e es c (λ h. omega (arith, before 0 (omega arith)))
    ∙ find_at_first es c i (omega arith) is (λ j l. before (suc j) (omega arith))

module _ {es : Blocks} (sorted : T (is_sorted nat_cmp es)) (c i : ℕ) (is : HasNumberAt es c i) where
  pub lower : (j : ℕ) → j < i → number_at es j < c
  lower j lt = omega (arith, rises es sorted j i lt is.within)

  pub find_at : find nat_cmp c es ≡ Some (get_or es i (0, [])).1
  find_at = find_at_first es c i is.within is.number lower

-- ---- edits
order_more : (c : ℕ) (v : List ℕ) (e : ℕ × List ℕ) (es : Blocks) → e.0 < c → put nat_cmp c v (e ∷ es) ≡ e ∷ put nat_cmp c v es
order_more c v e es lt = grind arith

put_at_first : (es : Blocks) (c : ℕ) (v : List ℕ) (i : ℕ) → i < length es → number_at es i ≡ c → ((j : ℕ) → j < i → number_at es j < c)
    → put nat_cmp c v es ≡ set es i (c, v)
put_at_first [] c v i lt is before = absurd (omega arith)
put_at_first (e ∷ es) c v zero lt is before =
    ap (λ r. by_order r ((c, v) ∷ e ∷ es) ((e.0, v) ∷ es) (e ∷ put nat_cmp c v es)) (cmp_equal (sym is)) ∙ ap (λ n. (n, v) ∷ es) is
put_at_first (e ∷ es) c v (suc i) lt is before =
    order_more c v e es (before 0 (omega arith))
    ∙ ap (λ xs. e ∷ xs) (put_at_first es c v i (omega arith) is (λ j l. before (suc j) (omega arith)))

pub put_at : {es : Blocks} → T (is_sorted nat_cmp es) → (c : ℕ) (v : List ℕ) (i : ℕ) → HasNumberAt es c i
    → put nat_cmp c v es ≡ set es i (c, v)
put_at {es} sorted c v i is = put_at_first es c v i is.within is.number (lower sorted c i is)

put_gap_at : (es : Blocks) (c : ℕ) (v : List ℕ) (i : ℕ) → i ≤ length es → ((j : ℕ) → j < i → number_at es j < c)
    → ((j : ℕ) → i ≤ j → j < length es → c < number_at es j) → put nat_cmp c v es ≡ insert es i (c, v)
put_gap_at [] c v zero le before after = refl
put_gap_at [] c v (suc i) le before after = absurd (omega arith)
put_gap_at (e ∷ es) c v zero le before after =
    ap (λ r. by_order r ((c, v) ∷ e ∷ es) ((e.0, v) ∷ es) (e ∷ put nat_cmp c v es)) (cmp_less c e.0 (after 0 (omega arith) (omega arith)))
put_gap_at (e ∷ es) c v (suc i) le before after =
    order_more c v e es (before 0 (omega arith))
    ∙ ap (λ xs. e ∷ xs)
    (put_gap_at es c v i (omega arith) (λ j l. before (suc j) (omega arith)) (λ j l r. after (suc j) (omega arith) (omega arith)))

pub put_gap : {es : Blocks} {c : ℕ} (v : List ℕ) (i : ℕ) → IsGapFor es c i → put nat_cmp c v es ≡ insert es i (c, v)
put_gap {es} {c} v i gap = put_gap_at es c v i gap.within gap.before gap.after

without_more : (e : ℕ × List ℕ) (es : Blocks) (c : ℕ) → (e.0 ≡ c → ⊥) → without nat_cmp c (e ∷ es) ≡ e ∷ without nat_cmp c es
without_more e es c ne = grind arith

without_first : (e : ℕ × List ℕ) (es : Blocks) (c : ℕ) → e.0 ≡ c → without nat_cmp c (e ∷ es) ≡ without nat_cmp c es
without_first e es c is = grind arith

pub without_none : (es : Blocks) (c : ℕ) → ((j : ℕ) → j < length es → number_at es j ≡ c → ⊥) → without nat_cmp c es ≡ es
without_none [] c away = refl
without_none (e ∷ es) c away = without_more e es c (away 0 (omega arith))
    ∙ ap (λ xs. e ∷ xs) (without_none es c (λ j lt. away (suc j) (omega arith)))

pub without_gap : {es : Blocks} {c i : ℕ} → IsGapFor es c i → without nat_cmp c es ≡ es
without_gap {es} {c} {i} gap = without_none es c (λ j lt same. ⊎_elim
    (λ early. omega (arith, gap.before j early))
    (λ late. omega (arith, gap.after j late lt))
    (cases_lt j i))

without_at_place : (es : Blocks) (c i : ℕ) → T (is_sorted nat_cmp es) → i < length es → number_at es i ≡ c
    → without nat_cmp c es ≡ remove es i
without_at_place [] c i h lt is = absurd (omega arith)
without_at_place (e ∷ es) c zero h lt is =
    without_first e es c is ∙ without_none es c
    (λ j l same. let r = rises (e ∷ es) h 0 (suc j) (omega arith) (omega arith) in let s : number_at es j ≡ c = same in omega arith)
without_at_place (e ∷ es) c (suc i) h lt is =
    without_more e es c (λ same. let r = rises (e ∷ es) h 0 (suc i) (omega arith) lt in let s : number_at es i ≡ c = is in omega arith)
    ∙ ap (λ xs. e ∷ xs) (without_at_place es c i (T_right (below_all nat_cmp e.0 es) _ h) (omega arith) is)

pub without_at : {es : Blocks} → T (is_sorted nat_cmp es) → (c i : ℕ) → HasNumberAt es c i → without nat_cmp c es ≡ remove es i
without_at {es} sorted c i is = without_at_place es c i sorted is.within is.number

-- ---- the order stays
pub sorted_put : (es : Blocks) (c : ℕ) (v : List ℕ) → T (is_sorted nat_cmp es) → T (is_sorted nat_cmp (put nat_cmp c v es))
sorted_put es c v h = is_sorted-put nat_cmp nat_cmp_total c v es h

pub sorted_without : (es : Blocks) (c : ℕ) → T (is_sorted nat_cmp es) → T (is_sorted nat_cmp (without nat_cmp c es))
sorted_without es c h = is_sorted-where_key nat_cmp (λ x. not (eq_by_cmp nat_cmp c x)) es h

-- ---- how many there are
pub count_put : (es : Blocks) (c : ℕ) (v : List ℕ) → T (is_sorted nat_cmp es)
    → length (put nat_cmp c v es) ≡ cond (is_some (find nat_cmp c es)) (length es) (length es + 1)
count_put es c v h = length-put nat_cmp nat_cmp_total c v es h

pub count_without : (es : Blocks) (c : ℕ) → T (is_sorted nat_cmp es)
    → cond (is_some (find nat_cmp c es)) 1 0 + length (without nat_cmp c es) ≡ length es
count_without es c h = length_without nat_cmp nat_cmp_total c es h

same_count : (es : Blocks) (c : ℕ) (f : List ℕ → List ℕ) → T (is_sorted nat_cmp es) → (o : Option (List ℕ)) → find nat_cmp c es ≡ o
    → length (altered_as o f c es) ≡ length es
same_count es c f h None is = refl
same_count es c f h (Some b) is = count_put es c (f b) h ∙ ap (λ o. cond (is_some o) (length es) (length es + 1)) is

pub count_altered : (es : Blocks) (c : ℕ) (f : List ℕ → List ℕ) → T (is_sorted nat_cmp es) → length (altered f c es) ≡ length es
count_altered es c f h = same_count es c f h (find nat_cmp c es) refl

-- ---- the same, as the log sees it
module _ (es : Blocks) {c : ℕ} (is : IsCode c) where
  -- what the entry of a number has is what stands at the number
  pub entry_found : blocks_in es (entry_at c) ≡ find nat_cmp c es
  entry_found = ap (λ n. find nat_cmp n es) (code_entry c is)

  others_differ : (y : Entry) → (y ≡ entry_at c → ⊥) → code y ≡ c → ⊥
  others_differ y ne same = ne (entry_of_code y is same)

  find_put_at : (v : List ℕ) (q : ℕ) → find nat_cmp q (put nat_cmp c v es) ≡ cond (eq_by_cmp nat_cmp q c) (Some v) (find nat_cmp q es)
  find_put_at v q = find-put nat_cmp nat_cmp_total q c v es

  pub changed_put : (v : List ℕ) → ChangesTo (blocks_in es) (blocks_in (put nat_cmp c v es)) (entry_at c) (Some v)
  changed_put v = record {
    own = ap (λ n. find nat_cmp n (put nat_cmp c v es)) (code_entry c is) ∙ find_put_at v c
        ∙ ap (λ b. cond b (Some v) (find nat_cmp c es)) (cmp_same c);
    others = λ y ne. find_put_at v (code y)
        ∙ ap (λ b. cond b (Some v) (find nat_cmp (code y) es)) (cmp_other (code y) c (others_differ y ne));
  }

  find_without_at : (q : ℕ) → find nat_cmp q (without nat_cmp c es) ≡ cond (not (eq_by_cmp nat_cmp c q)) (find nat_cmp q es) None
  find_without_at q = find-where_key nat_cmp (λ x. not (eq_by_cmp nat_cmp c x)) q
      (λ x e. ap (λ n. not (eq_by_cmp nat_cmp c n)) (sym (same_of_equal q x e))) es
    where
      same_of_equal : (q x : ℕ) → nat_cmp q x ≡ Equal → q ≡ x
      same_of_equal q x e = grind (arith, nat_tests)

  pub changed_without : ChangesTo (blocks_in es) (blocks_in (without nat_cmp c es)) (entry_at c) None
  changed_without = record {
    own = ap (λ n. find nat_cmp n (without nat_cmp c es)) (code_entry c is) ∙ find_without_at c
        ∙ ap (λ b. cond (not b) (find nat_cmp c es) None) (cmp_same c);
    others = λ y ne. find_without_at (code y)
        ∙ ap (λ b. cond (not b) (find nat_cmp (code y) es) None) (cmp_other c (code y) (λ h. others_differ y ne (sym h)));
  }

  -- nothing changes where there is no block
  pub changed_none : find nat_cmp c es ≡ None → ChangesTo (blocks_in es) (blocks_in es) (entry_at c) None
  changed_none none = record { own = entry_found ∙ none; others = λ y ne. refl }

  module _ (f : List ℕ → List ℕ) where
    altered_case : (o : Option (List ℕ)) → find nat_cmp c es ≡ o
        → ChangesTo (blocks_in es) (blocks_in (altered_as o f c es)) (entry_at c) (option_map f o)
    altered_case None is_none = changed_none is_none
    altered_case (Some b) is_some = changed_put (f b)

    pub changed_altered : ChangesTo (blocks_in es) (blocks_in (altered f c es)) (entry_at c) (option_map f (blocks_in es (entry_at c)))
    changed_altered = subst (λ o. ChangesTo (blocks_in es) (blocks_in (altered f c es)) (entry_at c) (option_map f o))
        (sym entry_found) (altered_case (find nat_cmp c es) refl)

-- ---- the same of tables
module _ (t : TableValue) {u : TableValue} where
  pub put_changes : {c : ℕ} {v : List ℕ} → IsCode c → u ≡ record t { blocks = put nat_cmp c v t.blocks }
      → ChangesTo (blocks_of t) (blocks_of u) (entry_at c) (Some v)
  put_changes {v} formed is = rw is (changed_put t.blocks formed v)

  pub put_counts : (c : ℕ) (v : List ℕ) → T (is_sorted nat_cmp t.blocks) → u ≡ record t { blocks = put nat_cmp c v t.blocks }
      → length u.blocks ≡ cond (is_some (find nat_cmp c t.blocks)) (length t.blocks) (length t.blocks + 1)
  put_counts c v sorted is = rw is (count_put t.blocks c v sorted)

  pub altered_changes : {c : ℕ} (f : List ℕ → List ℕ) → IsCode c → u ≡ record t { blocks = altered f c t.blocks }
      → ChangesTo (blocks_of t) (blocks_of u) (entry_at c) (option_map f (blocks_of t (entry_at c)))
  altered_changes f formed is = rw is (changed_altered t.blocks formed f)
