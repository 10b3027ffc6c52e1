-- The sectors of a run, one behind the other in memory.
use Rattle.std.proofs.Common.{◌≡◌, ℕ, zero, suc, ◌+◌, ◌-◌, ◌*◌, ◌<◌, ◌≤◌, List, [], ◌∷◌, ◌++◌, length, take, drop, refl, sym, ap, ◌∙◌}
use Rattle.std.proofs.Common.{arith, append_assoc, drop-drop, length-drop, length-take-le, take-add, take_at, drop_at}
use Rattle.std.proofs.Common.{inl, inr, max}
use Rattle.std.proofs.lemmas.Bool.{cases_lt}
use Rattle.std.specs.Prelude.{slice_index_or}
use Rattle.std.specs.List.{concat}
use Rattle.lfs_device.specs.Runs.{placed, sectors_in}

pub length_sectors : (len count : ℕ) (bytes : List ℕ) → length (sectors_in len count bytes) ≡ count
length_sectors len zero bytes = refl
length_sectors len (suc count) bytes = ap (λ (n : ℕ). suc n) (length_sectors len count (drop len bytes))

pub joined_sectors : (len count : ℕ) (bytes : List ℕ) → concat (sectors_in len count bytes) ≡ take (len * count) bytes
joined_sectors len zero bytes = let none : 0 ≡ len * 0 = omega arith in ap (λ (n : ℕ). take n bytes) none
joined_sectors len (suc count) bytes =
    let more : len + len * count ≡ len * suc count = omega arith in
    ap (λ (rest : List ℕ). take len bytes ++ rest) (joined_sectors len count (drop len bytes))
    ∙ sym (take-add len (len * count) bytes) ∙ ap (λ (n : ℕ). take n bytes) more

pub sector_at : (len count k : ℕ) (bytes : List ℕ) → k < count
    → slice_index_or (sectors_in len count bytes) k [] ≡ take len (drop (len * k) bytes)
sector_at len zero k bytes lt = absurd (omega (arith, lt))
sector_at len (suc count) zero bytes lt = let none : 0 ≡ len * 0 = omega arith in ap (λ (n : ℕ). take len (drop n bytes)) none
sector_at len (suc count) (suc k) bytes lt =
    let more : len + len * k ≡ len * suc k = omega arith in
    sector_at len count k (drop len bytes) (omega (arith, lt))
    ∙ ap (λ (rest : List ℕ). take len rest) (drop-drop (len * k) len bytes ∙ ap (λ (n : ℕ). drop n bytes) more)

-- a sector's bytes are put at a place
module _ (len : ℕ) (b : List ℕ) (long : length b ≡ len) where
  put_at : ℕ → List ℕ → List ℕ
  put_at at bytes = take at bytes ++ b ++ drop (at + len) bytes

  behind_head : (count : ℕ) (p rest : List ℕ) → length p ≡ len → sectors_in len (suc count) (p ++ rest) ≡ p ∷ sectors_in len count rest
  behind_head count p rest size = ap (λ (x : List ℕ). x ∷ sectors_in len count (drop len (p ++ rest))) (take_at p rest len size)
      ∙ ap (λ (x : List ℕ). p ∷ sectors_in len count x) (drop_at p rest len size)

  put_first : (bytes : List ℕ) → put_at (len * 0) bytes ≡ b ++ drop len bytes
  unfolding put_at
  put_first bytes =
      let none : len * 0 ≡ 0 = omega arith in
      let only : len * 0 + len ≡ len = omega arith in
      ap (λ (n : ℕ). take n bytes ++ b ++ drop (len * 0 + len) bytes) none ∙ ap (λ (n : ℕ). b ++ drop n bytes) only

  put_next : (k : ℕ) (bytes : List ℕ) → put_at (len * suc k) bytes ≡ take len bytes ++ put_at (len * k) (drop len bytes)
  unfolding put_at
  put_next k bytes =
      let more : len * suc k ≡ len + len * k = omega arith in
      let past : len + (len * k + len) ≡ len + len * k + len = omega arith in
      ap (λ (n : ℕ). take n bytes ++ b ++ drop (n + len) bytes) more
      ∙ ap (λ (x : List ℕ). x ++ b ++ drop (len + len * k + len) bytes) (take-add len (len * k) bytes)
      ∙ ap (λ (x : List ℕ). take len bytes ++ take (len * k) (drop len bytes) ++ b ++ x)
      (ap (λ (n : ℕ). drop n bytes) (sym past) ∙ sym (drop-drop (len * k + len) len bytes))
      ∙ ap (λ (x : List ℕ). x ++ drop (len * k + len) (drop len bytes))
      (append_assoc (take len bytes) (take (len * k) (drop len bytes)) b)
      ∙ append_assoc (take len bytes) (take (len * k) (drop len bytes) ++ b) (drop (len * k + len) (drop len bytes))

  put_in : (count k : ℕ) (bytes : List ℕ) → k < count → len * count ≤ length bytes
      → sectors_in len count (put_at (len * k) bytes) ≡ placed k b (sectors_in len count bytes)
  put_in zero k bytes lt room = absurd (omega (arith, lt))
  put_in (suc count) zero bytes lt room = ap (λ (x : List ℕ). sectors_in len (suc count) x) (put_first bytes)
      ∙ behind_head count b (drop len bytes) long
  put_in (suc count) (suc k) bytes lt room =
      let more : len * suc count ≡ len + len * count = omega arith in
      ap (λ (x : List ℕ). sectors_in len (suc count) x) (put_next k bytes)
      ∙ behind_head count (take len bytes) (put_at (len * k) (drop len bytes)) (length-take-le len bytes (omega (arith, more, room)))
      ∙ ap (λ (x : List (List ℕ)). take len bytes ∷ x)
      (put_in count k (drop len bytes) (omega (arith, lt)) (omega (arith, more, room, length-drop len bytes)))

  put_behind : (count : ℕ) (bytes : List ℕ) → len * count ≤ length bytes
      → sectors_in len (suc count) (put_at (len * count) bytes) ≡ placed count b (sectors_in len count bytes)
  put_behind zero bytes room = ap (λ (x : List ℕ). sectors_in len 1 x) (put_first bytes) ∙ behind_head 0 b (drop len bytes) long
  put_behind (suc count) bytes room =
      let more : len * suc count ≡ len + len * count = omega arith in
      ap (λ (x : List ℕ). sectors_in len (suc (suc count)) x) (put_next count bytes)
      ∙ behind_head (suc count) (take len bytes) (put_at (len * count) (drop len bytes))
      (length-take-le len bytes (omega (arith, more, room)))
      ∙ ap (λ (x : List (List ℕ)). take len bytes ∷ x)
      (put_behind count (drop len bytes) (omega (arith, more, room, length-drop len bytes)))

  placed_bytes : (count count' k : ℕ) (bytes : List ℕ) {new : List ℕ} → new ≡ take (len * k) bytes ++ b ++ drop (len * k + len) bytes
      → count' ≡ max count (k + 1) → k ≤ count → len * count ≤ length bytes
      → sectors_in len count' new ≡ placed k b (sectors_in len count bytes)
  unfolding put_at
  placed_bytes count count' k bytes {new} is most le room = elim (cases_lt k count) [
    | inl lt ↦ let same : count' ≡ count = omega (arith, most, lt) in
        ap (λ (x : List ℕ). sectors_in len count' x) is ∙ ap (λ (n : ℕ). sectors_in len n (put_at (len * k) bytes)) same
        ∙ put_in count k bytes lt room
    | inr ge ↦ let at : k ≡ count = omega (arith, le, ge) in let one : count' ≡ suc count = omega (arith, most, at) in
        ap (λ (x : List ℕ). sectors_in len count' x) is ∙ ap (λ (n : ℕ). sectors_in len n (put_at (len * k) bytes)) one
        ∙ ap (λ (i : ℕ). sectors_in len (suc count) (put_at (len * i) bytes)) at
        ∙ put_behind count bytes room
        ∙ ap (λ (i : ℕ). placed i b (sectors_in len count bytes)) (sym at)
  ]

  -- behind the room ahead
  behind_room : (room m : ℕ) (bytes : List ℕ) {new : List ℕ} → new ≡ take (room + m) bytes ++ b ++ drop (room + m + len) bytes
      → room + m ≤ length bytes
      → drop room new ≡ take m (drop room bytes) ++ b ++ drop (m + len) (drop room bytes)
  behind_room room m bytes {new} is within =
      let past : room + (m + len) ≡ room + m + len = omega arith in
      let rest = drop (m + len) (drop room bytes) in
      let head = take room bytes in let middle = take m (drop room bytes) in
      ap (λ (x : List ℕ). drop room x) (is
      ∙ ap (λ (x : List ℕ). x ++ b ++ drop (room + m + len) bytes) (take-add room m bytes)
      ∙ ap (λ (x : List ℕ). (head ++ middle) ++ b ++ x)
      (ap (λ (n : ℕ). drop n bytes) (sym past) ∙ sym (drop-drop (m + len) room bytes))
      ∙ ap (λ (x : List ℕ). x ++ rest) (append_assoc head middle b)
      ∙ append_assoc head (middle ++ b) rest)
      ∙ drop_at head (middle ++ b ++ rest) room (length-take-le room bytes (omega (arith, within)))

  pub placed_behind : (count count' room k : ℕ) (bytes : List ℕ) {new : List ℕ}
      → new ≡ take (len * (room + k)) bytes ++ b ++ drop (len * (room + k) + len) bytes
      → count' ≡ max count (k + 1) → k ≤ count → len * (room + count) ≤ length bytes
      → sectors_in len count' (drop (len * room) new) ≡ placed k b (sectors_in len count (drop (len * room) bytes))
  placed_behind count count' room k bytes {new} is most le fits =
      let parts : len * (room + k) ≡ len * room + len * k = omega arith in
      let all : len * (room + count) ≡ len * room + len * count = omega arith in
      let more : count ≡ k + (count - k) = omega (arith, le) in
      let split : len * (k + (count - k)) ≡ len * k + len * (count - k) = omega arith in
      let some = ap (λ (n : ℕ). len * n) more ∙ split in
      placed_bytes count count' k (drop (len * room) bytes) (behind_room (len * room) (len * k) bytes
      (is ∙ ap (λ (n : ℕ). take n bytes ++ b ++ drop (n + len) bytes) parts) (omega (arith, fits, all, some)))
      most le (omega (arith, fits, all, length-drop (len * room) bytes))

  pub put_ahead : (count : ℕ) (bytes : List ℕ) {new : List ℕ} → new ≡ take 0 bytes ++ b ++ drop len bytes
      → sectors_in len (count + 1) (drop (len * 0) new) ≡ b ∷ sectors_in len count (drop (len * 1) bytes)
  put_ahead count bytes {new} is =
      let none : len * 0 ≡ 0 = omega arith in
      let one : len * 1 ≡ len = omega arith in
      let more : count + 1 ≡ suc count = omega arith in
      ap (λ (n : ℕ). sectors_in len (count + 1) (drop n new)) none
      ∙ ap (λ (x : List ℕ). sectors_in len (count + 1) x) is
      ∙ ap (λ (n : ℕ). sectors_in len n (b ++ drop len bytes)) more
      ∙ behind_head count b (drop len bytes) long
      ∙ ap (λ (n : ℕ). b ∷ sectors_in len count (drop n bytes)) (sym one)
