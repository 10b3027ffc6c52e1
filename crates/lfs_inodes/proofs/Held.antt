-- An index over an arena of blocks: what a change of one leaves of the list of blocks.
use Rattle.std.proofs.Common.{◌≡◌, ◌<◌, ◌≤◌, ◌+◌, ◌==◌, ◌||◌, cond, ℕ, zero, suc, Bool, true, false, List, [], ◌∷◌, ◌++◌, map, length}
use Rattle.std.proofs.Common.{get_or, set, refl, sym, ◌∙◌, ap, ap₂, subst, arith, Option, Some, None, ⊎_elim, length-set, length-append}
use Rattle.std.proofs.Common.{get_or-set_other, get_or-set_same}
use Rattle.std.specs.Prelude.{T}
use Rattle.std.specs.List.{insert, remove}
use Rattle.std.specs.Ordering.{nat_cmp}
use Rattle.std.specs.FinMap.{find, put, is_sorted}
use Rattle.std.proofs.lemmas.Bool.{cases_lt, cond-true, lt-ltb}
use Rattle.std.proofs.lemmas.Bool.Decides.{nat_tests}
use Rattle.std.proofs.lemmas.List.{get_or_append_left, get_or_push, length_push}
use Rattle.std.proofs.lemmas.List.Edits.{length-insert, length-remove}
use Rattle.lfs_model.specs.Entry.{Entry}
use Rattle.lfs_model.specs.Memory.{IsPointers, HasPointer}
use Rattle.lfs_model.specs.Running.{Dirty, IsTight}
use Rattle.lfs_model.specs.Staging.{ChangesTo}
use Rattle.lfs_model.specs.Tree.{without}
use Rattle.lfs_inodes.specs.declared.index.Place.{Place}
use Rattle.lfs_inodes.specs.Code.{IsCode, entry_at}
use Rattle.lfs_inodes.specs.Blocks.{Blocks, TableValue, blocks_in, number_at, altered_as, altered, HasNumberAt, IsGapFor, Capacity}
use Rattle.lfs_inodes.specs.Held.{entry_in, entries_in, spots, times, one_below, IsTableOf, Capacities, Stores}
use Rattle.lfs_inodes.proofs.Blocks.{put_at, put_gap, without_at, sorted_put, sorted_without, find_at, find_gap, changed_put}
use Rattle.lfs_inodes.proofs.Blocks.{changed_without}

-- ---- how often a number stands in a list
abbrev mark : ℕ → ℕ → ℕ
mark x n = cond (x == n) 1 0

hit : {x n : ℕ} → x ≡ n → mark x n ≡ 1
hit e = grind (arith, nat_tests)

missed : (x n : ℕ) → mark x n ≡ 0 → x ≡ n → ⊥
missed x n z e = omega (arith, hit e)

pub times-append : (n : ℕ) (xs ys : List ℕ) → times n (xs ++ ys) ≡ times n xs + times n ys
times-append n [] ys = omega arith
times-append n (x ∷ xs) ys = omega (arith, times-append n xs ys)

times-insert : (n x : ℕ) (xs : List ℕ) (i : ℕ) → times n (insert xs i x) ≡ cond (x == n) 1 0 + times n xs
times-insert n x xs zero = refl
times-insert n x [] (suc i) = refl
times-insert n x (y ∷ xs) (suc i) = omega (arith, times-insert n x xs i)

pub times_last : {xs : List ℕ} (ys : List ℕ) (x : ℕ) → xs ≡ ys ++ x ∷ [] → 1 ≤ times x xs
times_last ys x is = omega (arith, ap (times x) is ∙ times-append x ys (x ∷ []), hit {x = x} refl)

map-insert : {X Y : Type 0} (f : X → Y) (xs : List X) (i : ℕ) (x : X) → map f (insert xs i x) ≡ insert (map f xs) i (f x)
map-insert f xs zero x = refl
map-insert f [] (suc i) x = refl
map-insert f (y ∷ xs) (suc i) x = ap (λ ys. f y ∷ ys) (map-insert f xs i x)

map-remove : {X Y : Type 0} (f : X → Y) (xs : List X) (i : ℕ) → map f (remove xs i) ≡ remove (map f xs) i
map-remove f [] zero = refl
map-remove f [] (suc i) = refl
map-remove f (y ∷ xs) zero = refl
map-remove f (y ∷ xs) (suc i) = ap (λ ys. f y ∷ ys) (map-remove f xs i)

pub length-entries : (ps : List Place) (bs : List (List ℕ)) → length (entries_in ps bs) ≡ length ps
length-entries [] bs = refl
length-entries (p ∷ ps) bs = ap suc (length-entries ps bs)

times_here : (ps : List Place) (i : ℕ) (p : Place) → i < length ps → p ≡ get_or ps i p → 1 ≤ times p.spot (spots ps)
times_here [] i p lt is = absurd (omega arith)
times_here (q ∷ ps) zero p lt is = omega (arith, hit (ap (λ x. x.spot) (sym is)))
times_here (q ∷ ps) (suc i) p lt is = omega (arith, times_here ps i p (omega arith) is)

times_left : (n : ℕ) (ps : List Place) (i : ℕ) {p : Place} → i < length ps → p ≡ get_or ps i p
    → times n (spots ps) ≡ cond (p.spot == n) 1 0 + times n (spots (remove ps i))
times_left n [] i lt is = absurd (omega arith)
times_left n (q ∷ ps) zero lt is = grind arith
times_left n (q ∷ ps) (suc i) {p} lt is = omega (arith, times_left n ps i (omega arith) is)

-- ---- a block of the arena is written
same_value : (bs : List (List ℕ)) (s : ℕ) (v : List ℕ) (q : Place) → (q.spot ≡ s → ⊥) → entry_in (set bs s v) q ≡ entry_in bs q
same_value bs s v q ne = ap (λ b. (q.key.code, b)) (get_or-set_other bs s q.spot v [] ne)

kept : (ps : List Place) (bs : List (List ℕ)) (s : ℕ) (v : List ℕ) → times s (spots ps) ≡ 0 → entries_in ps (set bs s v) ≡ entries_in ps bs
kept [] bs s v none = refl
kept (q ∷ ps) bs s v none =
    ap₂ (λ e es. e ∷ es) (same_value bs s v q (missed q.spot s (omega arith))) (kept ps bs s v (omega arith))

written : (ps : List Place) (bs : List (List ℕ)) (i : ℕ) (p : Place) (v : List ℕ) → i < length ps → p ≡ get_or ps i p
    → times p.spot (spots ps) ≤ 1 → p.spot < length bs
    → entries_in ps (set bs p.spot v) ≡ set (entries_in ps bs) i (p.key.code, v)
written [] bs i p v lt is once low = absurd (omega arith)
written (q ∷ ps) bs zero p v lt is once low =
    let h = hit (ap (λ x. x.spot) (sym is)) in
    ap₂ (λ e es. e ∷ es)
    (ap (λ x. entry_in (set bs p.spot v) x) (sym is) ∙ ap (λ b. (p.key.code, b)) (get_or-set_same bs p.spot v [] low))
    (kept ps bs p.spot v (omega arith))
written (q ∷ ps) bs (suc i) p v lt is once low =
    let there = times_here ps i p (omega arith) is in
    ap₂ (λ e es. e ∷ es) (same_value bs p.spot v q (λ e. omega (arith, hit e)))
    (written ps bs i p v (omega arith) is (omega arith) low)

number_is : (ps : List Place) (bs : List (List ℕ)) (i : ℕ) {p : Place} → i < length ps → p ≡ get_or ps i p
    → get_or (entries_in ps bs) i (0, []) ≡ entry_in bs p
number_is [] bs i lt is = absurd (omega arith)
number_is (q ∷ ps) bs zero lt is = ap (entry_in bs) (sym is)
number_is (q ∷ ps) bs (suc i) {p} lt is = number_is ps bs i (omega arith) is

none_if : (n s : ℕ) → n ≤ s → one_below n s ≡ 0
none_if n s le = grind (arith, nat_tests)

below_more : (n s : ℕ) → one_below (n + 1) s ≡ one_below n s + mark n s
below_more n s = grind (arith, nat_tests)

-- blocks that come behind all others
kept_below : (ps : List Place) (bs : List (List ℕ)) (v : List ℕ) → ((n : ℕ) → length bs ≤ n → times n (spots ps) ≡ 0)
    → entries_in ps (bs ++ v ∷ []) ≡ entries_in ps bs
kept_below [] bs v none = refl
kept_below (q ∷ ps) bs v none =
    let low : q.spot < length bs = ⊎_elim
    (λ lt. lt)
    (λ le. absurd (omega (arith, none q.spot le, hit {x = q.spot} refl)))
    (cases_lt q.spot (length bs)) in
    ap₂ (λ e es. e ∷ es)
    (ap (λ b. (q.key.code, b)) (get_or_append_left bs (v ∷ []) [] q.spot low))
    (kept_below ps bs v (λ n le. omega (arith, none n le)))

low_if : (n s : ℕ) → 1 ≤ one_below n s → s < n
low_if n s some = grind (arith, nat_tests)

-- ---- each block of pointers leads somewhere, as one block changes
pub neither : (a b : Bool) → (a || b) ≡ false → (a ≡ false) × (b ≡ true → ⊥)
neither false false none = (refl, λ on. cc)
neither false true none = absurd cc
neither true b none = absurd cc

tight_changed : {old : Dirty} (new : Dirty) {x : Entry} {value : Option (List ℕ)} → ChangesTo old new x value
    → ((v : List ℕ) → value ≡ Some v → IsPointers x → HasPointer v) → IsTight old → IsTight new
tight_changed new {x} change leads tight y v there is = grind arith

tight_put : (es : Blocks) {c : ℕ} (v : List ℕ) → IsCode c → (IsPointers (entry_at c) → HasPointer v) → IsTight (blocks_in es)
    → IsTight (blocks_in (put nat_cmp c v es))
tight_put es {c} v is leads =
    tight_changed _ (changed_put es is v) (λ w same on. let e : v ≡ w = cc in subst HasPointer e (leads on))

tight_without : (es : Blocks) (c : ℕ) → IsCode c → IsTight (blocks_in es) → IsTight (blocks_in (without nat_cmp c es))
tight_without es c is = tight_changed _ (changed_without es is) (λ w none on. absurd cc)

module _ {ps : List Place} {bs : List (List ℕ)} {spare : List ℕ} {most room : ℕ} {caps : Capacities}
    (h : IsTableOf ps bs spare most room caps) where
  pub few : length (entries_in ps bs) ≤ length bs
  few = omega (arith, length-entries ps bs)

  -- ---- at a place that has a block
  module _ (i : ℕ) {p : Place} (lt : i < length ps) (is : p ≡ get_or ps i p) where
    pub spot_low : p.spot < length bs
    spot_low = let t = times_here ps i p lt is in let o = h.once p.spot in low_if (length bs) p.spot (omega arith)

    pub place_is : get_or (entries_in ps bs) i (0, []) ≡ entry_in bs p
    place_is = number_is ps bs i lt is

    once_here : times p.spot (spots ps) ≤ 1
    once_here = omega (arith, h.once p.spot, cond_le p.spot (length bs))
      where
        cond_le : (s n : ℕ) → one_below n s ≤ 1
        cond_le s n = grind (arith, nat_tests)

    module _ {c : ℕ} (at : HasNumberAt (entries_in ps bs) c i) where
      key_is : p.key.code ≡ c
      key_is = ap (λ e. e.0) (sym place_is) ∙ at.number

      -- it is written
      pub written_is : (v : List ℕ) → entries_in ps (set bs p.spot v) ≡ put nat_cmp c v (entries_in ps bs)
      written_is v =
          written ps bs i p v lt is once_here spot_low
          ∙ ap (λ k. set (entries_in ps bs) i (k, v)) key_is ∙ sym (put_at h.sorted c v i at)

      pub held_written : (v : List ℕ) → IsTableOf ps (set bs p.spot v) spare most room caps
      held_written v =
          let l = length-set bs p.spot v in
          record {
            sorted = subst (λ es. T (is_sorted nat_cmp es)) (sym (written_is v)) (sorted_put (entries_in ps bs) c v h.sorted);
            once = λ s. h.once s ∙ ap (λ n. one_below n s) (sym l);
            shared = h.shared ∙ sym l;
            small = h.small;
            few = h.few;
            within = h.within;
            grown = subst (λ n. n ≤ room) (sym l) h.grown;
            room_for_places = h.room_for_places;
            room_for_arena = h.room_for_arena;
            room_for_spare = h.room_for_spare;
          }

      -- it goes, and its spot is spare
      pub removed_is : entries_in (remove ps i) bs ≡ without nat_cmp c (entries_in ps bs)
      removed_is = map-remove (entry_in bs) ps i ∙ sym (without_at h.sorted c i at)

      pub held_removed : (spare' : List ℕ) → spare' ≡ spare ++ p.spot ∷ [] → IsTableOf (remove ps i) bs spare' most room caps
      held_removed spare' now =
          let lr = length-remove ps i lt in
          let ls = ap length now ∙ length-append spare (p.spot ∷ []) in
          record {
            sorted = subst (λ es. T (is_sorted nat_cmp es)) (sym removed_is) (sorted_without (entries_in ps bs) c h.sorted);
            once = λ n.
                omega (arith, h.once n, times_left n ps i lt is, ap (times n) now ∙ times-append n spare (p.spot ∷ []));
            shared = omega arith;
            small = h.small;
            few = omega arith;
            within = h.within;
            grown = h.grown;
            room_for_places = h.room_for_places;
            room_for_arena = h.room_for_arena;
            room_for_spare = h.room_for_spare;
          }

  -- ---- a spare block gets a place
  module _ (spare' : List ℕ) (p : Place) (was : spare ≡ spare' ++ p.spot ∷ []) where
    spare_here : (n : ℕ) → times n spare ≡ times n spare' + (cond (p.spot == n) 1 0 + 0)
    spare_here n = ap (times n) was ∙ times-append n spare' (p.spot ∷ [])

    pub spare_low : p.spot < length bs
    spare_low =
        let o = h.once p.spot in
        let t = spare_here p.spot in
        let m = hit {n = p.spot} refl in
        low_if (length bs) p.spot (omega arith)

    unused : times p.spot (spots ps) ≡ 0
    unused =
        let o = h.once p.spot in
        let t = spare_here p.spot in
        let m = hit {x = p.spot} refl in
        let k : one_below (length bs) p.spot ≡ 1 = cond-true _ 1 0 (lt-ltb p.spot (length bs) spare_low) in
        omega arith

    module _ (i : ℕ) (gap : IsGapFor (entries_in ps bs) p.key.code i) (v : List ℕ) where
      pub inserted_is : entries_in (insert ps i p) (set bs p.spot v) ≡ put nat_cmp p.key.code v (entries_in ps bs)
      inserted_is =
          map-insert (entry_in (set bs p.spot v)) ps i p
          ∙ ap₂ (λ es x. insert es i (p.key.code, x)) (kept ps bs p.spot v unused)
          (get_or-set_same bs p.spot v [] spare_low) ∙ sym (put_gap v i gap)

      pub held_inserted : length ps < most → IsTableOf (insert ps i p) (set bs p.spot v) spare' most room caps
      held_inserted more =
          let l = length-set bs p.spot v in
          let le = length-entries ps bs in
          let li = length-insert ps i p (omega arith) in
          let ls = ap length was ∙ length-append spare' (p.spot ∷ []) in
          record {
            sorted = subst (λ es. T (is_sorted nat_cmp es)) (sym inserted_is)
                (sorted_put (entries_in ps bs) p.key.code v h.sorted);
            once = λ n.
                let o = h.once n in
                let t = ap (times n) (map-insert (λ q. q.spot) ps i p) ∙ times-insert n p.spot (spots ps) i in
                let u = spare_here n in
                let same : one_below (length bs) n ≡ one_below (length (set bs p.spot v)) n = ap (λ k. one_below k n) (sym l) in
                omega arith;
            shared = omega arith;
            small = h.small;
            few = omega arith;
            within = h.within;
            grown = subst (λ n. n ≤ room) (sym l) h.grown;
            room_for_places = h.room_for_places;
            room_for_arena = h.room_for_arena;
            room_for_spare = h.room_for_spare;
          }

  -- ---- a block that comes behind all others gets a place
  pub spare_below : (s : ℕ) → 1 ≤ times s spare → s < length bs
  spare_below s some = let o = h.once s in low_if (length bs) s (omega arith)

  module _ (none : spare ≡ []) (p : Place) (last : p.spot ≡ length bs) (v : List ℕ) where
    high : (n : ℕ) → length bs ≤ n → times n (spots ps) ≡ 0
    high n le = omega (arith, h.once n, none_if (length bs) n le)

    module _ (i : ℕ) (gap : IsGapFor (entries_in ps bs) p.key.code i) where
      pub added_is : entries_in (insert ps i p) (bs ++ v ∷ []) ≡ put nat_cmp p.key.code v (entries_in ps bs)
      added_is =
          map-insert (entry_in (bs ++ v ∷ [])) ps i p
          ∙ ap₂ (λ es x. insert es i (p.key.code, x)) (kept_below ps bs v high)
          (get_or_push bs v [] p.spot (sym last)) ∙ sym (put_gap v i gap)

      pub held_added : length ps < most → IsTableOf (insert ps i p) (bs ++ v ∷ []) [] most room caps
      held_added more =
          let l = length_push bs v in
          let le = length-entries ps bs in
          let li = length-insert ps i p (omega arith) in
          let ls = ap length none in
          record {
            sorted = subst (λ es. T (is_sorted nat_cmp es)) (sym added_is) (sorted_put (entries_in ps bs) p.key.code v h.sorted);
            once = λ n.
                let o = h.once n in
                let z = ap (times n) none in
                let t = ap (times n) (map-insert (λ q. q.spot) ps i p) ∙ times-insert n p.spot (spots ps) i in
                let here : cond (p.spot == n) 1 0 ≡ mark (length bs) n = ap (λ k. mark k n) last in
                let one : one_below (length bs + 1) n ≡ one_below (length bs) n + mark (length bs) n = below_more (length bs) n in
                let same : one_below (length bs + 1) n ≡ one_below (length (bs ++ v ∷ [])) n = ap (λ k. one_below k n) (sym l) in
                omega arith;
            shared = omega arith;
            small = h.small;
            few = omega arith;
            within = h.within;
            grown = omega arith;
            room_for_places = h.room_for_places;
            room_for_arena = h.room_for_arena;
            room_for_spare = h.room_for_spare;
          }

pub wider : {ps : List Place} {bs : List (List ℕ)} {spare : List ℕ} {most room : ℕ} {caps : Capacities} (caps' : Capacities)
    → IsTableOf ps bs spare most room caps
    → caps.for_places ≤ caps'.for_places → caps.for_arena ≤ caps'.for_arena → caps.for_spare ≤ caps'.for_spare
    → IsTableOf ps bs spare most room caps'
wider caps' h places arena spots = grind arith

-- ---- numbers of keys are small
pub numbers_small : (ps : List Place) (bs : List (List ℕ)) (j : ℕ) → j < length (entries_in ps bs)
    → number_at (entries_in ps bs) j < 4294967296
numbers_small [] bs j lt = absurd (omega arith)
numbers_small (p ∷ ps) bs zero lt = omega arith
numbers_small (p ∷ ps) bs (suc j) lt = numbers_small ps bs j (omega arith)

-- and each is a key's
pub numbers_of_keys : (ps : List Place) (bs : List (List ℕ)) (j : ℕ) → j < length (entries_in ps bs)
    → IsCode (number_at (entries_in ps bs) j)
numbers_of_keys [] bs j lt = absurd (omega arith)
numbers_of_keys (p ∷ ps) bs zero lt = p.key.formed
numbers_of_keys (p ∷ ps) bs (suc j) lt = numbers_of_keys ps bs j (omega arith)

-- ---- the same of the table's value
abbrev pub value_of : Capacity → List Place → List (List ℕ) → TableValue
value_of most ps bs = record { blocks = entries_in ps bs; capacity = most }

pub small_value : (most : Capacity) (ps : List Place) (bs : List (List ℕ)) {t : TableValue} → value_of most ps bs ≡ t → (j : ℕ)
    → j < length t.blocks → number_at t.blocks j < 4294967296
small_value most ps bs view =
    subst (λ u. (j : ℕ) → j < length u.blocks → number_at u.blocks j < 4294967296) view (numbers_small ps bs)

pub codes_value : (most : Capacity) (ps : List Place) (bs : List (List ℕ)) {t : TableValue} → value_of most ps bs ≡ t → (j : ℕ)
    → j < length t.blocks → IsCode (number_at t.blocks j)
codes_value most ps bs view =
    subst (λ u. (j : ℕ) → j < length u.blocks → IsCode (number_at u.blocks j)) view (numbers_of_keys ps bs)

pub at_value : (most : Capacity) (ps : List Place) (bs : List (List ℕ)) {t : TableValue} → value_of most ps bs ≡ t → (i : ℕ) {p : Place}
    → i < length ps → p ≡ get_or ps i p → HasNumberAt t.blocks p.key.code i
at_value most ps bs view i {p} lt is =
    let l = length-entries ps bs in
    subst (λ u. HasNumberAt u.blocks p.key.code i) view
    (record { within = omega arith; number = ap (λ e. e.0) (number_is ps bs i lt is) })

module _ {ps : List Place} {bs : List (List ℕ)} {spare : List ℕ} {most room : ℕ} {caps : Capacities}
    (h : IsTableOf ps bs spare most room caps) {t : TableValue} (view : value_of (record { limit = most; room = room }) ps bs ≡ t) where
  pub sorted_value : T (is_sorted nat_cmp t.blocks)
  sorted_value = subst (λ u. T (is_sorted nat_cmp u.blocks)) view h.sorted

  becomes : (ps' : List Place) (bs' : List (List ℕ)) (f : Blocks → Blocks) → entries_in ps' bs' ≡ f (entries_in ps bs)
      → value_of (record { limit = most; room = room }) ps' bs' ≡ record t { blocks = f t.blocks }
  becomes ps' bs' f same = grind arith

  module _ {c i : ℕ} (at : HasNumberAt t.blocks c i) {p : Place} (is : p ≡ get_or ps i p) where
    here : HasNumberAt (entries_in ps bs) c i
    here = subst (λ u. HasNumberAt u.blocks c i) (sym view) at

    inside : i < length ps
    inside = omega (arith, length-entries ps bs, here.within)

    pub low_at : p.spot < length bs
    low_at = spot_low h i inside is

    pub found_at : find nat_cmp c t.blocks ≡ Some (get_or bs p.spot [])
    found_at =
        subst (λ u. find nat_cmp c u.blocks ≡ Some (get_or bs p.spot [])) view (find_at h.sorted c i here
        ∙ ap (λ e. Some e.1) (place_is h i inside is))

    pub held_at : (v : List ℕ) → IsTableOf ps (set bs p.spot v) spare most room caps
    held_at v = held_written h i inside is here v

    pub put_value : (v : List ℕ)
        → value_of (record { limit = most; room = room }) ps (set bs p.spot v) ≡ record t { blocks = put nat_cmp c v t.blocks }
    put_value v = becomes ps (set bs p.spot v) (put nat_cmp c v) (written_is h i inside is here v)

    pub altered_value : (f : List ℕ → List ℕ) {v : List ℕ} → v ≡ f (get_or bs p.spot [])
        → value_of (record { limit = most; room = room }) ps (set bs p.spot v) ≡ record t { blocks = altered f c t.blocks }
    altered_value f {v} now =
        put_value v
        ∙ ap (λ w. record t { blocks = put nat_cmp c w t.blocks }) now
        ∙ ap (λ o. record t { blocks = altered_as o f c t.blocks }) (sym found_at)

    pub tight_at : IsCode c → (v : List ℕ) → (IsPointers (entry_at c) → HasPointer v) → IsTight (blocks_in (entries_in ps bs))
        → IsTight (blocks_in (entries_in ps (set bs p.spot v)))
    tight_at formed v leads tight = subst (λ es. IsTight (blocks_in es))
        (sym (written_is h i inside is here v)) (tight_put (entries_in ps bs) v formed leads tight)

    -- it goes
    module _ {ps' : List Place} (left : ps' ≡ remove ps i) where
      gone : entries_in ps' bs ≡ without nat_cmp c (entries_in ps bs)
      gone = ap (λ qs. entries_in qs bs) left ∙ removed_is h i inside is here

      pub tight_left : IsCode c → IsTight (blocks_in (entries_in ps bs)) → IsTight (blocks_in (entries_in ps' bs))
      tight_left formed tight = subst (λ es. IsTight (blocks_in es)) (sym gone) (tight_without (entries_in ps bs) c formed tight)

      pub held_left : {spare' : List ℕ} → spare' ≡ spare ++ p.spot ∷ [] → IsTableOf ps' bs spare' most room caps
      held_left {spare'} now = rw left (held_removed h i inside is here spare' now)

      pub removed_value : value_of (record { limit = most; room = room }) ps' bs ≡ record t { blocks = without nat_cmp c t.blocks }
      removed_value = becomes ps' bs (without nat_cmp c) gone

  module _ {c i : ℕ} (gap : IsGapFor t.blocks c i) where
    gap_here : IsGapFor (entries_in ps bs) c i
    gap_here = subst (λ u. IsGapFor u.blocks c i) (sym view) gap

    pub place_within : i ≤ length ps
    place_within = omega (arith, length-entries ps bs, gap_here.within)

    module _ (left : find nat_cmp c t.blocks ≡ None → length t.blocks < t.capacity.limit) where
      place_left : length ps < most
      place_left =
          let r : length (entries_in ps bs) < most =
          subst (λ u. length u.blocks < u.capacity.limit) (sym view) (left (find_gap gap)) in
          omega (arith, length-entries ps bs)

      pub places_left : length ps < caps.for_places
      places_left = omega (arith, place_left)

      pub arena_left : length spare ≡ 0 → length bs < caps.for_arena
      arena_left none = omega (arith, place_left)

  -- a block gets a place
  module _ (p : Place) {i : ℕ} (gap : IsGapFor t.blocks p.key.code i) {ps' : List Place} (items : ps' ≡ insert ps i p)
      (bs' : List (List ℕ)) (spare' v : List ℕ) (stores : Stores bs spare bs' spare' v p.spot) where
    pub held_put : (find nat_cmp p.key.code t.blocks ≡ None → length t.blocks < t.capacity.limit)
        → IsTableOf ps' bs' spare' most room caps
    held_put left = rw items (⊎_elim
        (λ old. rw old.1 (held_inserted h spare' p old.0 i (gap_here gap) v (place_left gap left)))
        (λ new. rw new.3 (rw new.1 (held_added h new.0 p new.2 v i (gap_here gap) (place_left gap left))))
        stores)

    stored_is : entries_in ps' bs' ≡ put nat_cmp p.key.code v (entries_in ps bs)
    stored_is = rw items (⊎_elim
        (λ old. rw old.1 (inserted_is h spare' p old.0 i (gap_here gap) v))
        (λ new. rw new.3 (added_is h new.0 p new.2 v i (gap_here gap)))
        stores)

    pub tight_more : (IsPointers (entry_at p.key.code) → HasPointer v) → IsTight (blocks_in (entries_in ps bs))
        → IsTight (blocks_in (entries_in ps' bs'))
    tight_more leads tight =
        subst (λ es. IsTight (blocks_in es)) (sym stored_is) (tight_put (entries_in ps bs) v p.key.formed leads tight)

    pub inserted_value : value_of (record { limit = most; room = room }) ps' bs' ≡ record t { blocks = put nat_cmp p.key.code v t.blocks }
    inserted_value = becomes ps' bs' (put nat_cmp p.key.code v) stored_is
