-- Values of one width, one after the other.
use Rattle.std.proofs.Common.{◌≡◌, ◌≤◌, ◌<◌, ◌+◌, ◌*◌, ◌^◌, ℕ, zero, suc, List, [], ◌∷◌, ◌++◌, length, get_or, refl, sym, ap, ◌∙◌, arith}
use Rattle.std.proofs.Common.{length-append}
use Rattle.std.specs.List.{flat_map}
use Rattle.lfs_model.specs.Fields.{le32, words, part, Are32, read32, run, numbers}
use Rattle.lfs_model.proofs.Numbers.{IsBytes, fronts, length-le32}
use Rattle.lfs_model.proofs.Parts.{length-part, part_add, le32_of_read, read32-lt, read32_is}

pub length-run : {X : Type 0} (read : ℕ → List ℕ → X) (w n at : ℕ) (s : List ℕ) → length (run read w n at s) ≡ n
unfolding run
length-run read w zero at s = refl
length-run read w (suc n) at s = ap suc (length-run read w n (at + w) s)

pub get_or-run : {X : Type 0} (read : ℕ → List ℕ → X) (w n at : ℕ) (s : List ℕ) (i : ℕ) (d : X) → i < n
    → get_or (run read w n at s) i d ≡ read (at + w * i) s
unfolding run
get_or-run read w zero at s i d lt = absurd (omega arith)
get_or-run read w (suc n) at s zero d lt = ap (λ (k : ℕ). read k s) (omega arith)
get_or-run read w (suc n) at s (suc i) d lt = get_or-run read w n (at + w) s i d (omega arith) ∙ ap (λ (k : ℕ). read k s) (omega arith)

-- a run is spelled by the bytes that it is read from
pub run_spelled : {X : Type 0} (read : ℕ → List ℕ → X) (spell : X → List ℕ) (w : ℕ) (s : List ℕ)
    → ((at : ℕ) → at + w ≤ length s → spell (read at s) ≡ part at w s)
    → (n at : ℕ) → at + w * n ≤ length s → flat_map spell (run read w n at s) ≡ part at (w * n) s
unfolding run part
run_spelled read spell w s one zero at room = let e : 0 ≡ w * 0 = omega arith in ap (λ (m : ℕ). part at m s) e
run_spelled read spell w s one (suc n) at room =
    let more : w * suc n ≡ w + w * n = omega arith in
    ap (λ (r : List ℕ). r ++ flat_map spell (run read w n (at + w) s)) (one at (omega arith))
    ∙ ap (λ (r : List ℕ). part at w s ++ r) (run_spelled read spell w s one n (at + w) (omega arith))
    ∙ part_add at w (w * n) s ∙ ap (λ (m : ℕ). part at m s) (sym more)

-- the same, where only these values are known to be spelled
pub run_spelled_each : {X : Type 0} (read : ℕ → List ℕ → X) (spell : X → List ℕ) (w : ℕ) (s : List ℕ) (n at : ℕ)
    → ((i : ℕ) → i < n → spell (read (at + w * i) s) ≡ part (at + w * i) w s) → flat_map spell (run read w n at s) ≡ part at (w * n) s
unfolding run part
run_spelled_each read spell w s zero at one = let e : 0 ≡ w * 0 = omega arith in ap (λ (m : ℕ). part at m s) e
run_spelled_each read spell w s (suc n) at one =
    let more : w * suc n ≡ w + w * n = omega arith in
    let here : at + w * 0 ≡ at = omega arith in
    let first : spell (read at s) ≡ part at w s = ap (λ (k : ℕ). spell (read k s)) (sym here) ∙ one 0 (omega arith)
    ∙ ap (λ (k : ℕ). part k w s) here in
    let rest = run_spelled_each read spell w s n (at + w) (λ i lt.
    let there : at + w * suc i ≡ at + w + w * i = omega arith in
    ap (λ (k : ℕ). spell (read k s)) (sym there) ∙ one (suc i) (omega arith) ∙ ap (λ (k : ℕ). part k w s) there) in
    ap (λ (r : List ℕ). r ++ flat_map spell (run read w n (at + w) s)) first
    ∙ ap (λ (r : List ℕ). part at w s ++ r) rest
    ∙ part_add at w (w * n) s ∙ ap (λ (m : ℕ). part at m s) (sym more)

pub length-flat : {X : Type 0} (spell : X → List ℕ) (w : ℕ) → ((x : X) → length (spell x) ≡ w) → (xs : List X)
    → length (flat_map spell xs) ≡ w * length xs
length-flat spell w sized [] = omega arith
length-flat spell w sized (x ∷ xs) = omega (arith, length-append (spell x) (flat_map spell xs), sized x, length-flat spell w sized xs)

piece_step : {X : Type 0} (spell : X → List ℕ) (w : ℕ) (s : List ℕ) (x : X) (xs : List X) (at : ℕ) (d : X)
    → part at w s ≡ spell x → ((j : ℕ) → j < length xs → part (at + w + w * j) w s ≡ spell (get_or xs j d))
    → (i : ℕ) → i < suc (length xs) → part (at + w * i) w s ≡ spell (get_or (x ∷ xs) i d)
piece_step spell w s x xs at d first rest zero lt = ap (λ (k : ℕ). part k w s) (omega arith) ∙ first
piece_step spell w s x xs at d first rest (suc i) lt = ap (λ (k : ℕ). part k w s) (omega arith) ∙ rest i (omega arith)

-- where values are spelled from a place on, each is spelled at its own
pub piece_at : {X : Type 0} (spell : X → List ℕ) (w : ℕ) → ((x : X) → length (spell x) ≡ w) → (s : List ℕ) (xs : List X) (at : ℕ)
    → at + w * length xs ≤ length s → part at (w * length xs) s ≡ flat_map spell xs
    → (i : ℕ) (d : X) → i < length xs → part (at + w * i) w s ≡ spell (get_or xs i d)
piece_at spell w sized s [] at room e i d lt = absurd (omega arith)
piece_at spell w sized s (x ∷ xs) at room e i d lt =
    let more : w * suc (length xs) ≡ w + w * length xs = omega arith in
    let cut : part at w s ++ part (at + w) (w * length xs) s ≡ spell x ++ flat_map spell xs =
    part_add at w (w * length xs) s ∙ ap (λ (m : ℕ). part at m s) (sym more) ∙ e in
    let both = fronts (part at w s) (part (at + w) (w * length xs) s) (spell x) (flat_map spell xs)
    (length-part at w s (omega arith) ∙ sym (sized x)) cut in
    piece_step spell w s x xs at d both.0 (λ j lt'. piece_at spell w sized s xs (at + w) (omega arith) both.1 j d lt') i lt

step_back : {X : Type 0} (read : ℕ → List ℕ → X) (w : ℕ) (s : List ℕ) (at : ℕ) (x : X) (xs ys : List X) → read at s ≡ x → ys ≡ xs
    → read at s ∷ ys ≡ x ∷ xs
step_back read w s at x xs ys p q = cc

-- what is spelled from a place on is read there
pub run_is : {X : Type 0} (read : ℕ → List ℕ → X) (spell : X → List ℕ) (P : X → Type 0) (w : ℕ) (s : List ℕ)
    → ((x : X) → length (spell x) ≡ w)
    → ((at : ℕ) (x : X) → at + w ≤ length s → P x → part at w s ≡ spell x → read at s ≡ x)
    → (d : X) (xs : List X) (at : ℕ) → at + w * length xs ≤ length s → ((i : ℕ) → i < length xs → P (get_or xs i d))
    → part at (w * length xs) s ≡ flat_map spell xs → run read w (length xs) at s ≡ xs
unfolding run
run_is read spell P w s sized one d [] at room fits e = refl
run_is read spell P w s sized one d (x ∷ xs) at room fits e =
    let more : w * suc (length xs) ≡ w + w * length xs = omega arith in
    let cut : part at w s ++ part (at + w) (w * length xs) s ≡ spell x ++ flat_map spell xs =
    part_add at w (w * length xs) s ∙ ap (λ (m : ℕ). part at m s) (sym more) ∙ e in
    let both = fronts (part at w s) (part (at + w) (w * length xs) s) (spell x) (flat_map spell xs)
    (length-part at w s (omega arith) ∙ sym (sized x)) cut in
    let first : read at s ≡ x = one at x (omega arith) (fits 0 (omega arith)) both.0 in
    let rest : run read w (length xs) (at + w) s ≡ xs =
    run_is read spell P w s sized one d xs (at + w) (omega arith) (λ i lt. fits (suc i) (omega arith)) both.1 in
    step_back read w s at x xs (run read w (length xs) (at + w) s) first rest

-- ---- numbers of 4 bytes
pub numbers_fit : (n at : ℕ) (s : List ℕ) → IsBytes s → at + 4 * n ≤ length s → Are32 (numbers n at s)
unfolding run Are32
numbers_fit zero at s fits room i = omega arith
numbers_fit (suc n) at s fits room zero = read32-lt at s fits (omega arith)
numbers_fit (suc n) at s fits room (suc i) = numbers_fit n (at + 4) s fits (omega arith) i

-- they are spelled by the bytes that they are read from
pub words_of_numbers : (n at : ℕ) (s : List ℕ) → IsBytes s → at + 4 * n ≤ length s → words (numbers n at s) ≡ part at (4 * n) s
unfolding words
words_of_numbers n at s fits room = run_spelled read32 le32 4 s (λ k room'. le32_of_read k s fits room') n at room

-- and read from the bytes that they are spelled by
pub numbers_is : (n at : ℕ) (s ns : List ℕ) → length ns ≡ n → Are32 ns → at + 4 * n ≤ length s → part at (4 * n) s ≡ words ns
    → numbers n at s ≡ ns
unfolding words Are32
numbers_is n at s ns long small room e =
    let Q : ℕ → Type 0 = λ m. part at (4 * m) s ≡ words ns in
    ap (λ (m : ℕ). numbers m at s) (sym long)
    ∙ run_is read32 le32 (λ x. x < 2 ^ 32) 4 s length-le32 (λ k x room' lt e'. read32_is k s x lt e') 0 ns at (omega arith)
    (λ i lt. small i)
    (ap (λ (m : ℕ). part at (4 * m) s) long ∙ e)
