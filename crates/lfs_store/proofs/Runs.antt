-- Blocks of one file, one behind the other: few blocks are on their way into memory.
use Rattle.std.specs.Int.{div_ceil}
use Rattle.std.proofs.Common.{◌≡◌, ◌<◌, ◌≤◌, ⊎_elim, ◌+◌, ◌-◌, ◌*◌, ◌/◌, ◌&&◌, nat_lt, ℕ, zero, suc, Bool, true, List, [], ◌∷◌, ◌++◌}
use Rattle.std.proofs.Common.{drop, length, Some, sym, ap, ap₂, subst, arith, eq-eqb}
use Rattle.std.proofs.lemmas.Bool.{cases_lt, lt-ltb, le-ltb, cond-true, cond-false}
use Rattle.lfs_cleaner.specs.log.memory.declared.batch.BlockEdit.{BlockEdit}
use Rattle.lfs_cleaner.specs.log.memory.declared.changes.Changes.{Changes}
use Rattle.lfs_cleaner.specs.log.memory.files.declared.header.Header.{Header}
use Rattle.lfs_cleaner.specs.log.memory.Batch.{IsNoChange, room_for}
use Rattle.lfs_cleaner.specs.log.memory.Batch as batch
use Rattle.lfs_cleaner.specs.log.memory.Preparing.{is_beside, row_of, way_from, ways, ways_from}
use Rattle.lfs_store.specs.Drafting.{IsBlock, LastBlock, NoBlock, PutsHeader}
use Rattle.lfs_store.specs.Growing.{IsRun, PlacesBlock}
use Rattle.lfs_store.proofs.Growths.{way_most}

-- ---- a block that is put
none_behind : (n i p : ℕ) (es : List BlockEdit) → NoBlock n i es → NoBlock n i (drop p es)
none_behind n i zero es none = none
none_behind n i (suc p) [] none = none
none_behind n i (suc p) (e ∷ es) none = none_behind n i p es none.1

pub placed_again : {old new : Changes} {n i p : ℕ} → LastBlock old.blocks.items n i p → PlacesBlock old new n i
placed_again {n} {i} {p} last none =
    absurd ((subst (NoBlock n i) last.there (none_behind _ _ _ _ none)).0 last.block)

pub placed_behind : {old new : Changes} (n i : ℕ) {bytes : List ℕ} → batch.AddsBlockEdit old new n i bytes → PlacesBlock old new n i
placed_behind n i put none = record { edit = put.edit; block = (put.number, put.index); blocks = put.blocks }

-- ---- runs
run_order : (n from to : ℕ) (es : List BlockEdit) → IsRun n from to es → from ≤ to
run_order n from to [] run = let e : from ≡ to = run in omega arith
run_order n from to (e ∷ es) run = omega (arith, run_order n (from + 1) to es run.1)

run_long : (n from to : ℕ) (es : List BlockEdit) → IsRun n from to es → from + length es ≡ to
run_long n from to [] run = let e : from ≡ to = run in omega arith
run_long n from to (e ∷ es) run = omega (arith, run_long n (from + 1) to es run.1)

run_none : (n from to : ℕ) (es : List BlockEdit) → IsRun n from to es → NoBlock n to es
run_none n from to [] run = tt
run_none n from to (e ∷ es) run =
    let at : e.index ≡ from = run.0.1 in
    (λ is. (let other : e.index ≡ to = is.1 in omega (arith, run_order n (from + 1) to es run.1)), run_none n (from + 1) to es run.1)

run_more : (n from to : ℕ) (es : List BlockEdit) (e : BlockEdit) → IsRun n from to es → IsBlock n to e
    → IsRun n from (to + 1) (es ++ e ∷ [])
run_more n from to [] e run is =
    let same : from ≡ to = run in
    (rw same is, ap (λ (i : ℕ). i + 1) same)
run_more n from to (f ∷ es) e run is = (run.0, run_more n (from + 1) to es e run.1 is)

-- a run goes on where the next block is put
pub run_goes_on : (c : Changes) {c' : Changes} (n from to : ℕ) → IsRun n from to c.blocks.items → PlacesBlock c c' n to
    → IsRun n from (to + 1) c'.blocks.items
run_goes_on c n from to run places =
    let put = places (run_none _ _ _ _ run) in
    rw put.blocks (run_more _ _ _ _ _ run put.block)

-- ---- the blocks above
row_low : (i : ℕ) → i < 112 → row_of i ≡ 0
row_low i low = cond-true (nat_lt i 112) 0 (1 + (i - 112) / 128) (lt-ltb i 112 low)

row_high : (i : ℕ) → 112 ≤ i → row_of i ≡ 1 + (i - 112) / 128
row_high i high = cond-false (nat_lt i 112) 0 (1 + (i - 112) / 128) (le-ltb i 112 high)

-- a later block has no earlier one above it
row_up : (i j : ℕ) → i ≤ j → row_of i ≤ row_of j
row_up i j le = ⊎_elim
    (λ (low : i < 112). omega (arith, row_low _ low))
    (λ (high : 112 ≤ i).
    omega (arith, row_high i high, row_high j (omega (arith, high, le)))) (cases_lt i 112)

-- and one that is 128 blocks later at most has the next above it at most
row_near : (i j : ℕ) → j ≤ i + 128 → row_of j ≤ row_of i + 1
row_near i j near = ⊎_elim
    (λ (low : j < 112). omega (arith, row_low _ low))
    (λ (high : 112 ≤ j).
    let b = row_high _ high in
    ⊎_elim
    (λ (l : i < 112). omega (arith, row_low _ l))
    (λ (h : 112 ≤ i). omega (arith, row_high _ h)) (cases_lt i 112)) (cases_lt j 112)

beside : (n i j : ℕ) (a b : BlockEdit) → IsBlock n i a → IsBlock n j b → row_of i ≡ row_of j → is_beside a b ≡ true
beside n i j a b is is' rows =
    let file : a.number ≡ b.number = cc in
    let above : row_of a.index ≡ row_of b.index = cc in
    ap₂ (λ (x y : Bool). x && y) (eq-eqb a.number b.number file) (eq-eqb (row_of a.index) (row_of b.index) above)

way_beside : (n i : ℕ) (a b : BlockEdit) → IsBlock n i a → IsBlock n (i + 1) b → way_from (Some a) b ≤ 3 * (row_of (i + 1) - row_of i)
way_beside n i a b is is' = ⊎_elim
    (λ (up : row_of i < row_of (i + 1)). omega (arith, way_most (Some a) b))
    (λ (down : row_of (i + 1) ≤ row_of i).
    let none : way_from (Some a) b ≡ 0 =
    cc (beside n i (i + 1) a b is is' (omega (arith, row_up i (i + 1) (omega arith)))) in
    omega arith) (cases_lt (row_of i) (row_of (i + 1)))

ways_behind : (n i to : ℕ) (a : BlockEdit) (es : List BlockEdit) → IsBlock n i a → IsRun n (i + 1) to es
    → ways_from (Some a) es ≤ 3 * (row_of (to - 1) - row_of i)
ways_behind n i to a [] is run = let le : 0 ≤ 3 * (row_of (to - 1) - row_of i) = omega arith in le
ways_behind n i to a (e ∷ es) is run =
    omega (
      arith,
      way_beside n i a e is run.0,
      ways_behind n (i + 1) to e es run.0 run.1,
      row_up i (i + 1) (omega arith),
      row_up (i + 1)
          (to - 1) (omega (arith, run_order n (i + 1 + 1) to es run.1)),
    )

pub ways_run : (n from to : ℕ) (es : List BlockEdit) → to ≤ from + 129 → IsRun n from to es → ways es ≤ 6
ways_run n from to [] few run = let le : 0 ≤ 6 = omega arith in le
ways_run n from to (e ∷ es) few run =
    omega (arith, ways_behind n from to e es run.0 run.1, row_near from (to - 1) (omega (arith, few)))

-- ---- a write into an empty draft
pub written_room : (c : Changes) {c' c'' : Changes} {n : ℕ} (from to : ℕ) {head : Header} → IsNoChange c → c'.headers ≡ c.headers
    → IsRun n from to c'.blocks.items → to ≤ from + 129 → PutsHeader c' c'' n head
    → room_for c'' ≤ 144
written_room c {c'} {c''} {n} from to none headers run few puts =
    let same = ap (λ v. v.items) puts.blocks in
    let most : ways c''.blocks.items ≤ 6 =
    subst (λ (es : List BlockEdit). ways es ≤ 6) (sym same) (ways_run _ _ _ _ few run) in
    omega (arith, ap length none.headers, ap length (ap (λ v. v.items) headers), run_long _ _ _ _ run, ap length same)

-- as long as 65,536 bytes are, at most
pub blocks_few : (at len : ℕ) → len ≤ 65536 → div_ceil (at + len) 512 ≤ at / 512 + 129
blocks_few at len few = omega arith

-- ---- as long as a full directory of form 1 is, at most

-- a block that is 256 blocks later at most has the second next above it at most
row_far : (i j : ℕ) → j ≤ i + 256 → row_of j ≤ row_of i + 2
row_far i j near =
    omega (arith, row_near i (i + 128) (omega arith), row_near (i + 128) (i + 256) (omega arith), row_up j (i + 256) near)

ways_far : (n from to : ℕ) (es : List BlockEdit) → to ≤ from + 257 → IsRun n from to es → ways es ≤ 9
ways_far n from to [] few run = let le : 0 ≤ 9 = omega arith in le
ways_far n from to (e ∷ es) few run =
    omega (arith, ways_behind n from to e es run.0 run.1, row_far from (to - 1) (omega (arith, few)))

pub lone_room : (c c' c'' : Changes) (n from to : ℕ) {head : Header} → length c.headers.items ≤ 1 → c'.headers ≡ c.headers
    → IsRun n from to c'.blocks.items → to ≤ from + 257 → PutsHeader c' c'' n head → room_for c'' ≤ 274
lone_room c c' c'' n from to one headers run few puts =
    let same = ap (λ v. v.items) puts.blocks in
    let most : ways c''.blocks.items ≤ 9 =
    subst (λ (es : List BlockEdit). ways es ≤ 9) (sym same) (ways_far _ _ _ _ few run) in
    omega (arith, ap length (ap (λ v. v.items) headers), run_long _ _ _ _ run, ap length same)

pub blocks_most : (at len : ℕ) → len ≤ 131072 → div_ceil (at + len) 512 ≤ at / 512 + 257
blocks_most at len few = omega arith
