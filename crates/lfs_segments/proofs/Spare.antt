-- How many segments were emptied, and in how many nothing lives, as others change.
use Rattle.std.proofs.Common.{◌≡◌, ◌<◌, ◌≤◌, ◌+◌, ◌==◌, ◌&&◌, cond, eq-eqb, eqb-true, ℕ, zero, suc, Bool, true, false, length, get_or}
use Rattle.std.proofs.Common.{refl, ◌∙◌, ap, arith}
use Rattle.std.proofs.lemmas.Bool.{cond-true, ne_eqb}
use Rattle.lfs_model.specs.Stands.{count_up}
use Rattle.lfs_model.proofs.Live.{count_up_none, count_up_more}
use Rattle.lfs_segments.specs.Table.{UsageTable, no_segment, is_clean_in, clean_in}
use Rattle.lfs_segments.specs.Steps.{Releases, released, is_empty}
use Rattle.lfs_segments.specs.Emptied.{IsEmptied}
use Rattle.lfs_segments.specs.Spare.{is_emptied, emptied_in, is_spare, spare_in}

-- ---- tests
both_are : (a b : Bool) → a ≡ true → b ≡ true → (a && b) ≡ true
both_are true true e f = refl
both_are true false e f = f
both_are false b e f = e

none_if : (n : ℕ) → 0 < n → (n == 0) ≡ false
none_if n lt = ne_eqb n 0 (λ e. omega arith)

-- ---- the test of a segment that was emptied
pub tested : (t : UsageTable) (s : ℕ) → is_emptied (get_or t.segments s no_segment) ≡ true → IsEmptied t s
tested t s e = grind arith

pub passes : (t : UsageTable) {s : ℕ} → IsEmptied t s → is_emptied (get_or t.segments s no_segment) ≡ true
passes t {s} is = grind arith

-- ---- counts of what passes tests
count_less : (p q : ℕ → Bool) (n : ℕ) → ((s : ℕ) → p s ≡ true → q s ≡ true) → count_up p n ≤ count_up q n
count_less p q zero less = omega (arith, count_up_none p, count_up_none q)
count_less p q (suc n) less = omega (arith, count_less p q n less, either (p n) (q n) (less n), count_up_more p n, count_up_more q n)
  where
    either : (a b : Bool) → (a ≡ true → b ≡ true) → cond {A = ℕ} a 1 0 ≤ cond {A = ℕ} b 1 0
    either true b h = omega (arith, ap (λ b. cond {A = ℕ} b 1 0) (h refl))
    either false b h = omega arith

-- those of two tests that never pass together
count_apart : {p q r : ℕ → Bool} (n : ℕ) → ((s : ℕ) → p s ≡ true → r s ≡ true) → ((s : ℕ) → q s ≡ true → (p s ≡ false) × (r s ≡ true))
    → count_up p n + count_up q n ≤ count_up r n
count_apart {p} {q} {r} zero one two = omega (arith, count_up_none p, count_up_none q, count_up_none r)
count_apart {p} {q} {r} (suc n) one two =
    omega (arith, count_apart n one two, either (p n) (q n) (r n) (one n) (two n), count_up_more p n, count_up_more q n, count_up_more r n)
  where
    either : (a b c : Bool) → (a ≡ true → c ≡ true) → (b ≡ true → (a ≡ false) × (c ≡ true))
        → cond {A = ℕ} a 1 0 + cond {A = ℕ} b 1 0 ≤ cond {A = ℕ} c 1 0
    either true true c f g = let bad : true ≡ false = (g refl).0 in absurd (cc)
    either true false c f g = omega (arith, ap (λ b. cond {A = ℕ} b 1 0) (f refl))
    either false true c f g = omega (arith, ap (λ b. cond {A = ℕ} b 1 0) (g refl).1)
    either false false c f g = omega arith

-- ---- of segments
-- where what was emptied stays so, they are no fewer
pub emptied_stay : {t t' : UsageTable} → length t'.segments ≡ length t.segments → ((s : ℕ) → IsEmptied t s → IsEmptied t' s)
    → emptied_in t.segments ≤ emptied_in t'.segments
unfolding emptied_in
emptied_stay {t} {t'} size stay =
    let less = count_less (λ s. is_emptied (get_or t.segments s no_segment)) (λ s. is_emptied (get_or t'.segments s no_segment))
    (length t.segments) (λ s e. passes t' (stay s (tested t s e))) in
    omega (arith, ap (count_up (λ s. is_emptied (get_or t'.segments s no_segment))) size)

not_clean : (t : UsageTable) (s : ℕ) → IsEmptied t s → is_clean_in t.segments s ≡ false
not_clean t s is = none_if (get_or t.segments s no_segment).used is.used

-- in clean ones and in those that were emptied nothing lives
pub spare_there : (t : UsageTable) → clean_in t.segments + emptied_in t.segments ≤ spare_in t.segments
unfolding clean_in emptied_in spare_in
spare_there t = count_apart (length t.segments) clean emptied
  where
    either : (b : Bool) (u : ℕ) → u ≡ 0 → cond b 0 u ≡ 0
    either true u z = refl
    either false u z = z

    clean : (s : ℕ) → is_clean_in t.segments s ≡ true → is_spare (get_or t.segments s no_segment) ≡ true
    clean s e = let n = get_or t.segments s no_segment in
        eq-eqb (cond (n.live == 0) 0 n.used) 0 (either (n.live == 0) n.used (eqb-true n.used 0 e))

    emptied : (s : ℕ) → is_emptied (get_or t.segments s no_segment) ≡ true
        → (is_clean_in t.segments s ≡ false) × (is_spare (get_or t.segments s no_segment) ≡ true)
    emptied s e =
        let n = get_or t.segments s no_segment in
        let is = tested t s e in
        (not_clean t s is, eq-eqb (cond (n.live == 0) 0 n.used) 0 (cond-true (n.live == 0) 0 n.used (eq-eqb n.live 0 is.live)))

-- as a checkpoint is acknowledged, those that were emptied are clean besides those that were
pub emptied_given : {t t' : UsageTable} → Releases t t' → clean_in t.segments + emptied_in t.segments ≤ clean_in t'.segments
unfolding clean_in emptied_in
emptied_given {t} {t'} go = omega (arith, count_apart (length t.segments) clean emptied, ap (count_up (is_clean_in t'.segments)) go.size)
  where
    now : (s : ℕ) → (released (get_or t.segments s no_segment)).used ≡ 0 → is_clean_in t'.segments s ≡ true
    now s z = eq-eqb (get_or t'.segments s no_segment).used 0 (ap (λ n. n.used) (go.each s) ∙ z)

    either : (b : Bool) (u : ℕ) → u ≡ 0 → cond b 0 u ≡ 0
    either true u z = refl
    either false u z = z

    clean : (s : ℕ) → is_clean_in t.segments s ≡ true → is_clean_in t'.segments s ≡ true
    clean s e = let n = get_or t.segments s no_segment in now s (either (is_empty n) n.used (eqb-true n.used 0 e))

    emptied : (s : ℕ) → is_emptied (get_or t.segments s no_segment) ≡ true
        → (is_clean_in t.segments s ≡ false) × (is_clean_in t'.segments s ≡ true)
    emptied s e =
        let n = get_or t.segments s no_segment in
        let is = tested t s e in (
          not_clean t s is,
          now s
              (cond-true (is_empty n) 0 n.used (both_are (n.live == 0) (n.held == 0) (eq-eqb n.live 0 is.live) (eq-eqb n.held 0 is.held))),
        )
