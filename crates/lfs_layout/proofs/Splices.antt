-- Bytes that are put at a place of a block, and an entry of a usage block that is put so.
use Rattle.std.proofs.Common.{◌≡◌, ◌<◌, ◌≤◌, ◌⊎◌, ⊎_elim, inl, inr, ◌+◌, ◌*◌, ◌-◌, ◌^◌, ℕ, List, ◌++◌, length, get_or, take, drop, sym, ◌∙◌}
use Rattle.std.proofs.Common.{ap, arith, length-append, length-take, length-drop, length-set, get_or-take, get_or-drop, get_or-set_other}
use Rattle.std.proofs.Common.{get_or-set_same}
use Rattle.std.specs.Prelude.{slice_set}
use Rattle.std.proofs.lemmas.List.{append_assoc, same_lists, get_or_append_left, get_or-append_right, get_or_default}
use Rattle.std.proofs.lemmas.Bool.{cases_eq, cases_lt}
use Rattle.lfs_model.specs.Fields.{le16, le32, part, read16, read32, number_of}
use Rattle.lfs_model.specs.Usage.{SegmentUse, no_use, use_at, usage_of}
use Rattle.lfs_model.proofs.Numbers.{length-le16, length-le32}
use Rattle.lfs_model.proofs.Parts.{length-part, get_or-part, read16_is, read32_is}
use Rattle.lfs_model.proofs.Runs.{length-run}
use Rattle.lfs_model.proofs.UsagePlaces.{use_in, use_read}

-- a field stands at a place of the new block, and the rest is as it was
record Splices (at n : ℕ) (field b new : List ℕ) : Type 0 where
  long : length new ≡ length b
  own : part at n new ≡ field
  others : (k m : ℕ) → k + m ≤ length b → (k + m ≤ at) ⊎ (at + n ≤ k) → part k m new ≡ part k m b

module _ (at n : ℕ) (field b : List ℕ) {new : List ℕ} (size : length field ≡ n) (room : at + n ≤ length b)
    (is : new ≡ take at b ++ field ++ drop (at + n) b) where
  front : length (take at b) ≡ at
  front = omega (arith, length-take at b)

  split : new ≡ take at b ++ (field ++ drop (at + n) b)
  split = is ∙ append_assoc (take at b) field (drop (at + n) b)

  length_spliced : length new ≡ length b
  length_spliced = omega (
    arith,
    front,
    ap length split,
    length-append (take at b) (field ++ drop (at + n) b),
    length-append field (drop (at + n) b),
    length-drop (at + n) b,
  )

  byte_before : (o : ℕ) → o < at → get_or new o 0 ≡ get_or b o 0
  byte_before o lt =
      ap (λ (x : List ℕ). get_or x o 0) split
      ∙ get_or_append_left (take at b) (field ++ drop (at + n) b) 0 o (let f = front in omega arith) ∙ get_or-take at b o 0 lt

  byte_at : (o : ℕ) → o < n → get_or new (at + o) 0 ≡ get_or field o 0
  byte_at o lt =
      let e : at + o - at ≡ o = omega arith in
      ap (λ (x : List ℕ). get_or x (at + o) 0) split
      ∙ get_or-append_right (take at b) (field ++ drop (at + n) b) at (at + o) 0 front (omega arith)
      ∙ ap (λ (i : ℕ). get_or (field ++ drop (at + n) b) i 0) e
      ∙ get_or_append_left field (drop (at + n) b) 0 o (omega arith)

  byte_past : (o : ℕ) → at + n ≤ o → get_or new o 0 ≡ get_or b o 0
  byte_past o le =
      let e : at + n + (o - at - n) ≡ o = omega arith in
      ap (λ (x : List ℕ). get_or x o 0) split
      ∙ get_or-append_right (take at b) (field ++ drop (at + n) b) at o 0 front (omega arith)
      ∙ get_or-append_right field (drop (at + n) b) n (o - at) 0 size (omega arith)
      ∙ get_or-drop (at + n) b (o - at - n) 0
      ∙ ap (λ (i : ℕ). get_or b i 0) e

  part_other : (k m : ℕ) → k + m ≤ length b → (k + m ≤ at) ⊎ (at + n ≤ k) → part k m new ≡ part k m b
  part_other k m fits away =
      let l = length_spliced in
      let p = length-part k m new (omega arith) in
      let q = length-part k m b fits in
      same_lists (part k m new) (part k m b) (p ∙ sym q) (λ i d lt.
      get_or_default (part k m new) i d 0 lt ∙ get_or-part k m new i (omega arith)
      ∙ ⊎_elim (λ (before : k + m ≤ at). byte_before (k + i) (omega arith)) (λ (past : at + n ≤ k). byte_past (k + i) (omega arith)) away
      ∙ sym (get_or-part k m b i (omega arith)) ∙ sym (get_or_default (part k m b) i d 0 (omega arith)))

  part_own : part at n new ≡ field
  part_own =
      let l = length_spliced in
      let p = length-part at n new (omega arith) in
      same_lists (part at n new) field (p ∙ sym size) (λ i d lt.
      get_or_default (part at n new) i d 0 lt ∙ get_or-part at n new i (omega arith)
      ∙ byte_at i (omega arith) ∙ sym (get_or_default field i d 0 (omega arith)))

  splices : Splices at n field b new
  splices = record { long = length_spliced; own = part_own; others = part_other }

-- ---- the three fields of an entry, one after the other
module _ (e : ℕ) (u : SegmentUse) (b : List ℕ) {with_used with_live new : List ℕ} (low : e < 64) (long : length b ≡ 512)
    (used : with_used ≡ take (2 * (4 * e)) b ++ le16 u.used ++ drop (2 * (4 * e) + 2) b)
    (live : with_live ≡ take (2 * (4 * e + 1)) with_used ++ le16 u.live ++ drop (2 * (4 * e + 1) + 2) with_used)
    (age : new ≡ take (4 * (2 * e + 1)) with_live ++ le32 u.age ++ drop (4 * (2 * e + 1) + 4) with_live) where
  first : Splices (2 * (4 * e)) 2 (le16 u.used) b with_used
  first = splices (2 * (4 * e)) 2 (le16 u.used) b (length-le16 u.used) (omega arith) used

  second : Splices (2 * (4 * e + 1)) 2 (le16 u.live) with_used with_live
  second = let l = first.long in splices (2 * (4 * e + 1)) 2 (le16 u.live) with_used (length-le16 u.live) (omega arith) live

  third : Splices (4 * (2 * e + 1)) 4 (le32 u.age) with_live new
  third = let l = first.long in let m = second.long in
      splices (4 * (2 * e + 1)) 4 (le32 u.age) with_live (length-le32 u.age) (omega arith) age

  -- what stands before or past the entry is as it was
  part_away : (k m : ℕ) → k + m ≤ 512 → (k + m ≤ 8 * e) ⊎ (8 * e + 8 ≤ k) → part k m new ≡ part k m b
  part_away k m fits away =
      let l = first.long in
      let s = second.long in
      third.others k m (omega arith) (moved (4 * (2 * e + 1)) 4 (omega arith) (omega arith))
      ∙ second.others k m (omega arith) (moved (2 * (4 * e + 1)) 2 (omega arith) (omega arith))
      ∙ first.others k m (omega arith) (moved (2 * (4 * e)) 2 (omega arith) (omega arith))
    where
      moved : (at n : ℕ) → 8 * e ≤ at → at + n ≤ 8 * e + 8 → (k + m ≤ at) ⊎ (at + n ≤ k)
      moved at n above below = ⊎_elim (λ (before : k + m ≤ 8 * e). inl (omega arith)) (λ (past : 8 * e + 8 ≤ k). inr (omega arith)) away

  use_other : (i : ℕ) → i < 64 → (i ≡ e → ⊥) → use_at (8 * i) new ≡ use_at (8 * i) b
  unfolding use_at read16 read32
  use_other i lt ne =
      let away : (8 * i + 8 ≤ 8 * e) ⊎ (8 * e + 8 ≤ 8 * i) =
      ⊎_elim (λ (before : i < e). inl (omega arith)) (λ (past : e ≤ i). inr (omega arith)) (cases_lt i e) in
      let p = ap number_of (part_away (8 * i) 2 (omega arith) (within (8 * i) 2 away (omega arith) (omega arith))) in
      let q = ap number_of (part_away (8 * i + 2) 2 (omega arith) (within (8 * i + 2) 2 away (omega arith) (omega arith))) in
      let r = ap number_of (part_away (8 * i + 4) 4 (omega arith) (within (8 * i + 4) 4 away (omega arith) (omega arith))) in
      λ j. record { used = p j; live = q j; age = r j }
    where
      within : (k m : ℕ) → (8 * i + 8 ≤ 8 * e) ⊎ (8 * e + 8 ≤ 8 * i) → 8 * i ≤ k → k + m ≤ 8 * i + 8 → (k + m ≤ 8 * e) ⊎ (8 * e + 8 ≤ k)
      within k m away above below =
          ⊎_elim (λ (before : 8 * i + 8 ≤ 8 * e). inl (omega arith)) (λ (past : 8 * e + 8 ≤ 8 * i). inr (omega arith)) away

  module _ (small_used : u.used < 2 ^ 16) (small_live : u.live < 2 ^ 16) (small_age : u.age < 2 ^ 32) where
    use_own : use_at (8 * e) new ≡ u
    use_own =
        let l = first.long in
        let s = second.long in
        let p : part (2 * (4 * e)) 2 new ≡ le16 u.used = third.others (2 * (4 * e)) 2 (omega arith) (inl (omega arith))
        ∙ second.others (2 * (4 * e)) 2 (omega arith) (inl (omega arith)) ∙ first.own in
        let q : part (2 * (4 * e + 1)) 2 new ≡ le16 u.live = third.others (2 * (4 * e + 1)) 2 (omega arith) (inl (omega arith))
        ∙ second.own in
        sym (use_read (8 * e) new u.used u.live u.age
        (sym (read16_is (2 * (4 * e)) new u.used small_used p) ∙ ap (λ (k : ℕ). read16 k new) (omega arith))
        (sym (read16_is (2 * (4 * e + 1)) new u.live small_live q) ∙ ap (λ (k : ℕ). read16 k new) (omega arith))
        (sym (read32_is (4 * (2 * e + 1)) new u.age small_age third.own) ∙ ap (λ (k : ℕ). read32 k new) (omega arith)))

    -- the entries, but for this one, are as they were
    pub entry_put : usage_of new ≡ slice_set (usage_of b) e u
    entry_put =
        let n : length (usage_of new) ≡ 64 = length-run use_at 8 64 0 new in
        let o : length (usage_of b) ≡ 64 = length-run use_at 8 64 0 b in
        let s = length-set (usage_of b) e u in
        same_lists (usage_of new) (slice_set (usage_of b) e u) (n ∙ sym (s ∙ o)) (λ i d lt.
        get_or_default (usage_of new) i d no_use lt ∙ use_in new i (omega arith) ∙ each i (omega arith)
        ∙ sym (get_or_default (slice_set (usage_of b) e u) i d no_use (omega arith)))
      where
        each : (i : ℕ) → i < 64 → use_at (8 * i) new ≡ get_or (slice_set (usage_of b) e u) i no_use
        each i lt = ⊎_elim
            (λ (here : i ≡ e). ap (λ (k : ℕ). use_at (8 * k) new) here ∙ use_own
            ∙ sym (get_or-set_same (usage_of b) e u no_use (let o = length-run use_at 8 64 0 b in omega arith))
            ∙ ap (λ (k : ℕ). get_or (slice_set (usage_of b) e u) k no_use) (sym here))
            (λ (away : i ≡ e → ⊥). use_other i lt away ∙ sym (use_in b i lt) ∙ sym (get_or-set_other (usage_of b) e i u no_use away))
            (cases_eq i e)
