-- What is kept of a device through changes of either.
use Rattle.std.proofs.Common.{◌≡◌, ◌≢◌, ◌⊎◌, ◌<◌, ◌-◌, ℕ, zero, suc, List, [], ◌∷◌, Option, Some, None, nat_eq, true, false, cond, take}
use Rattle.std.proofs.Common.{refl, sym, ap, ◌∙◌, subst, inl, inr, Bool, is_some, Result, Ok, Err, OnOk, OnErr, is_err, length}
use Rattle.std.proofs.Common.{get_or-set_same, get_or-set_other, slice_get}
use Rattle.std.specs.Option.{option_map, option_map_or}
use Rattle.std.specs.Map.{lookup, lookup_entry, remove_entry, set_value}
use Rattle.std.proofs.lemmas.Bool.{eqb-true, eq-eqb}
use Rattle.lru.specs.LruCache.{lru_cache, promoted, put_entries}
use Rattle.lru.proofs.CallerLemmas.{Contains-lookup_entry}
use Rattle.lru.proofs.Pairs.{lookup-lookup_entry}
use Rattle.lfs_model.specs.Device.{Cell, DeviceState, cell_at, put, IsUntouched, Carries}
use Rattle.lfs_cache.specs.Kept.{Kept, Agrees, IsLastUsed, KeepsAlso, kept_at, promoted_at, without}

abbrev Entries : Type 0
Entries = List (ℕ × List ℕ)

-- what is kept of other sectors stays as one goes
lookup-remove_other : (s t : ℕ) (es : Entries) → t ≢ s → lookup (nat_eq t) (remove_entry (nat_eq s) es) ≡ lookup (nat_eq t) es
lookup-remove_other s t [] apart = refl
lookup-remove_other s t (e ∷ es) apart =
    (elim (nat_eq s e.0)
    as (λ b. nat_eq s e.0 ≡ b → lookup (nat_eq t) (cond b es (e ∷ remove_entry (nat_eq s) es)) ≡ lookup (nat_eq t) (e ∷ es)) [
      | true ↦ λ is. (elim (nat_eq t e.0) as (λ b. nat_eq t e.0 ≡ b → lookup (nat_eq t) es ≡ cond b (Some e.1) (lookup (nat_eq t) es)) [
        | true ↦ λ too. absurd (apart (eqb-true t e.0 too ∙ sym (eqb-true s e.0 is)))
        | false ↦ λ no. refl
      ]) refl
      | false ↦ λ no. ap (cond (nat_eq t e.0) (Some e.1)) (lookup-remove_other s t es apart)
    ]) refl

-- what is found among the first is found among all
lookup-take : (s n : ℕ) (es : Entries) {v : List ℕ} → lookup (nat_eq s) (take n es) ≡ Some v → lookup (nat_eq s) es ≡ Some v
lookup-take s zero es h = absurd cc
lookup-take s (suc n) [] h = h
lookup-take s (suc n) (e ∷ es) {v} h =
    (elim (nat_eq s e.0)
    as (λ b. cond b (Some e.1) (lookup (nat_eq s) (take n es)) ≡ Some v → cond b (Some e.1) (lookup (nat_eq s) es) ≡ Some v) [
      | true ↦ λ found. found
      | false ↦ λ found. lookup-take s n es found
    ]) h

-- an entry that is found has the number that was looked for, and its bytes are what is kept
found_entry : (s : ℕ) (es : Entries) (e : ℕ × List ℕ) → lookup_entry (nat_eq s) es ≡ Some e → (s ≡ e.0) × (lookup (nat_eq s) es ≡ Some e.1)
found_entry s es e found = (
  eqb-true s e.0 (Contains-lookup_entry (nat_eq s) es e found).1,
  sym (lookup-lookup_entry (nat_eq s) es)
      ∙ ap (option_map (λ f. f.1)) found,
)

lookup-to_front : (s t : ℕ) (es : Entries) (o : Option (ℕ × List ℕ)) → lookup_entry (nat_eq s) es ≡ o
    → lookup (nat_eq t) (option_map_or (λ e. e ∷ remove_entry (nat_eq s) es) o es) ≡ lookup (nat_eq t) es
lookup-to_front s t es None found = refl
lookup-to_front s t es (Some e) found =
    let at = found_entry s es e found in
    (elim (nat_eq t e.0)
    as (λ b. nat_eq t e.0 ≡ b → cond b (Some e.1) (lookup (nat_eq t) (remove_entry (nat_eq s) es)) ≡ lookup (nat_eq t) es) [
      | true ↦ λ is. subst (λ k. Some e.1 ≡ lookup (nat_eq k) es) (at.0 ∙ sym (eqb-true t e.0 is)) (sym at.1)
      | false ↦ λ no. lookup-remove_other s t es (λ same. let is = eq-eqb t e.0 (same ∙ at.0) in absurd cc)
    ]) refl

-- a use changes nothing that is kept
kept_at-promoted_at : (kept : Kept) (s t : ℕ) → kept_at (promoted_at kept s) t ≡ kept_at kept t
kept_at-promoted_at kept s t = lookup-to_front s t kept.entries (lookup_entry (nat_eq s) kept.entries) refl

not_found : (s : ℕ) (es : Entries) (o : Option (ℕ × List ℕ)) → lookup_entry (nat_eq s) es ≡ o → lookup (nat_eq s) es ≡ None
    → option_map_or (λ e. e ∷ remove_entry (nat_eq s) es) o es ≡ es
not_found s es None found none = refl
not_found s es (Some e) found none = let is = (found_entry s es e found).1 in absurd cc

-- a look for a sector of which nothing is kept leaves all as it is
promoted_at-none : (kept : Kept) (s : ℕ) → kept_at kept s ≡ None → promoted_at kept s ≡ kept
promoted_at-none kept s none = ap (λ es. lru_cache es kept.cap) (not_found s kept.entries (lookup_entry (nat_eq s) kept.entries) refl none)

-- what is kept of a sector after another was put: the bytes that were put, or what was kept before
abbrev pub IsPutOrOther : ℕ → List ℕ → ℕ → List ℕ → Kept → Type 0
IsPutOrOther s v t w old = ((t ≡ s) × (w ≡ v)) ⊎ ((t ≢ s) × (kept_at old t ≡ Some w))

put_or_other : (kept : Kept) (s t : ℕ) (v w : List ℕ) (o : Option (ℕ × List ℕ)) → lookup_entry (nat_eq s) kept.entries ≡ o
    → lookup (nat_eq t) (option_map_or (λ e. (e.0, v) ∷ remove_entry (nat_eq s) kept.entries) o ((s, v) ∷ take (kept.cap - 1) kept.entries))
    ≡ Some w
    → IsPutOrOther s v t w kept
put_or_other kept s t v w None found h =
    (elim (nat_eq t s) as (λ b. nat_eq t s ≡ b → cond b (Some v) (lookup (nat_eq t) (take (kept.cap - 1) kept.entries)) ≡ Some w
    → IsPutOrOther s v t w kept) [
      | true ↦ λ is now. inl (eqb-true t s is, cc)
      | false ↦ λ no was. inr ((λ same. let is = eq-eqb t s same in cc), lookup-take t (kept.cap - 1) kept.entries was)
    ]) refl h
put_or_other kept s t v w (Some e) found h =
    let at = found_entry s kept.entries e found in
    (elim (nat_eq t e.0) as (λ b. nat_eq t e.0 ≡ b → cond b (Some v) (lookup (nat_eq t) (remove_entry (nat_eq s) kept.entries)) ≡ Some w
    → IsPutOrOther s v t w kept) [
      | true ↦ λ is now. inl (eqb-true t e.0 is ∙ sym at.0, cc)
      | false ↦ λ no was.
          let apart : t ≢ s = λ same. let is = eq-eqb t e.0 (same ∙ at.0) in cc in
          inr (apart, sym (lookup-remove_other s t kept.entries apart) ∙ was)
    ]) refl h

overwritten_at : (s n : ℕ) (v : List ℕ) {w : List ℕ} (es : Entries) (o : Option (ℕ × List ℕ)) → lookup_entry (nat_eq s) es ≡ o
    → lookup (nat_eq s) es ≡ Some w
    → set_value (nat_eq s) (option_map_or (λ e. e ∷ remove_entry (nat_eq s) es) o es) v
    ≡ option_map_or (λ e. (e.0, v) ∷ remove_entry (nat_eq s) es) o ((s, v) ∷ take n es)
overwritten_at s n v es None found is =
    let none : lookup (nat_eq s) es ≡ None = sym (lookup-lookup_entry (nat_eq s) es) ∙ ap (option_map (λ f. f.1)) found in
    cc
overwritten_at s n v es (Some e) found is = rw (Contains-lookup_entry (nat_eq s) es e found).1 refl

-- other bytes in the place of those that are kept of a sector, once it is used, are what would have been put
pub overwritten : (kept : Kept) (s : ℕ) (v : List ℕ) {w : List ℕ} → kept_at kept s ≡ Some w
    → set_value (nat_eq s) (promoted (nat_eq s) kept.entries) v ≡ put_entries nat_eq kept s v
overwritten kept s v {w} is = overwritten_at s (kept.cap - 1) v kept.entries (lookup_entry (nat_eq s) kept.entries) refl is

-- a use leaves the agreement
pub agrees-promoted_at : (kept : Kept) (s : ℕ) (d : DeviceState) → Agrees kept d → Agrees (promoted_at kept s) d
agrees-promoted_at kept s d agrees keeps t w h = agrees keeps t w (sym (kept_at-promoted_at kept s t) ∙ h)

-- a call that leaves the content leaves the agreement
pub agrees-untouched : (kept : Kept) {old new : DeviceState} → IsUntouched old new → Carries old new → Agrees kept old → Agrees kept new
agrees-untouched kept same carries agrees keeps t w h = rw same.content (agrees (carries.kept_before keeps) t w h)

-- what is kept of the sectors but one is what the device holds there
abbrev pub AgreesElsewhere : ℕ → Kept → DeviceState → Type 0
AgreesElsewhere s kept d = d.keeps_model → (t : ℕ) (w : List ℕ) → t ≢ s → kept_at kept t ≡ Some w → cell_at d.content t ≡ Some w

-- with that one's bytes kept too, or nothing of it, all agrees
pub agrees-also : (old new : Kept) (s : ℕ) (v : List ℕ) (d : DeviceState) → KeepsAlso s v old new → AgreesElsewhere s old d
    → (d.keeps_model → cell_at d.content s ≡ Some v) → Agrees new d
agrees-also old new s v d (inl put) others here keeps t w h =
    elim (put_or_other old s t v w (lookup_entry (nat_eq s) old.entries) refl (subst (λ k. kept_at k t ≡ Some w) put h)) [
      | inl is ↦ rw is.0 (rw is.1 (here keeps))
      | inr is ↦ others keeps t w is.0 is.1
    ]
agrees-also old new s v d (inr (same, none)) others here keeps t w h =
    let was : kept_at old t ≡ Some w = subst (λ k. kept_at k t ≡ Some w) same h in
    others keeps t w (λ is. let none' : kept_at old t ≡ None = subst (λ k. kept_at old k ≡ None) (sym is) none in cc) was

-- with nothing of that one, all agrees
pub agrees-without : (kept : Kept) (s : ℕ) (d : DeviceState) → kept_at (without kept s) s ≡ None → AgreesElsewhere s kept d
    → Agrees (without kept s) d
agrees-without kept s d none others keeps t w h =
    let apart : t ≢ s =
    λ is. let none' : kept_at (without kept s) t ≡ None = subst (λ k. kept_at (without kept s) k ≡ None) (sym is) none in cc in
    others keeps t w apart (sym (lookup-remove_other s t kept.entries apart) ∙ h)

-- a write that is done leaves the others as they were
pub elsewhere_after_write : (kept : Kept) (s : ℕ) (v : List ℕ) {old new : DeviceState} → Agrees kept old → Carries old new
    → (new.keeps_model → new.content ≡ put old.content s v) → AgreesElsewhere s kept new
elsewhere_after_write kept s v {old} agrees carries written keeps t w apart h =
    rw (written keeps) (get_or-set_other old.content s t (Some v) None apart ∙ agrees (carries.kept_before keeps) t w h)

-- a sector that was written holds its bytes
pub cell_at-put : (content : List Cell) (s : ℕ) (v : List ℕ) → s < length content → cell_at (put content s v) s ≡ Some v
cell_at-put content s v within = get_or-set_same content s (Some v) None within

-- a sector of which something is kept is found after its use too
pub still_found : (kept : Kept) (s : ℕ) → is_some (kept_at kept s) ≡ true → kept_at (promoted_at kept s) s ≢ None
still_found kept s found none = let was : kept_at kept s ≡ None = sym (kept_at-promoted_at kept s s) ∙ none in let no = rw was at found in
    cc

found_or_none : (kept : Kept) (s : ℕ) (o : Option (List ℕ)) → kept_at kept s ≡ o → is_some o ≡ false → promoted_at kept s ≡ kept
found_or_none kept s None is missing = promoted_at-none kept s is
found_or_none kept s (Some v) is missing = cc

-- a look that doesn't find a sector leaves all as it is
pub missed : (kept : Kept) {looked : Kept} (s : ℕ) {found : Bool} → looked ≡ promoted_at kept s → found ≡ is_some (kept_at kept s)
    → found ≡ false
    → looked ≡ kept
missed kept s is was missing = is ∙ found_or_none kept s (kept_at kept s) refl (sym was ∙ missing)

-- what holds where a call is done
pub when_done : {A E : Type 0} (r : Result A E) (P : Type 0) {failed : Bool} → failed ≡ is_err r → failed ≡ false → OnOk r P → P
when_done (Ok x) P is done p = p
when_done (Err e) P is done p = absurd cc

-- a fact holds at an error too
pub at_err : {A E : Type 0} (r : Result A E) (P : Type 0) → P → OnErr r P
at_err (Ok x) P p = tt
at_err (Err e) P p = p

-- the first of the entries is the last that was used
pub first_entry : (s n cap : ℕ) (v : List ℕ) (es : Entries) → n ≡ s → IsLastUsed (lru_cache ((n, v) ∷ es) cap) s v
first_entry s n cap v es same =
    let on : nat_eq s n ≡ true = eq-eqb s n (sym same) in
    record { kept_so = rw on refl; stays = rw on refl }

pub last_used : (kept : Kept) (s n : ℕ) (v : List ℕ) → slice_get kept.entries 0 ≡ Some (n, v) → n ≡ s → IsLastUsed kept s v
last_used kept s n v first same = by_entries kept.entries refl first
  where
    by_entries : (es : Entries) → kept.entries ≡ es → slice_get es 0 ≡ Some (n, v) → IsLastUsed kept s v
    by_entries [] is found = absurd cc
    by_entries (e ∷ es) is found =
        let head : e ≡ (n, v) = cc in
        subst (λ (k : Kept). IsLastUsed k s v) (ap (λ (l : Entries). lru_cache l kept.cap)
        (sym (is ∙ ap (λ (f : ℕ × List ℕ). f ∷ es) head))) (first_entry s n kept.cap v es same)
