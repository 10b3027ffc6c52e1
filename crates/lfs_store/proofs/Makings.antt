-- What a log map keeps with a file made, with other links of one, and without one.
use Rattle.std.proofs.Common.{◌≡◌, ◌≤◌, ⊎_elim, ℕ, List, [], ◌∷◌, length, Option, Some, None, refl, sym, ◌∙◌, ap}
use Rattle.std.proofs.Common.{arith}
use Rattle.std.proofs.lemmas.Bool.{cases_eq}
use Rattle.lfs_model.specs.Encodes.{IsLogMap, HasData}
use Rattle.lfs_model.specs.Entry as entry
use Rattle.lfs_model.specs.Inode.{IsForm}
use Rattle.lfs_model.specs.Objects.{IsChangedAt, IsObject}
use Rattle.lfs_model.specs.Stands.{LogMap}
use Rattle.lfs_model.proofs.ObjectMaps.{object_kept}
use Rattle.lfs_cleaner.specs.log.memory.Changing.{with_header}
use Rattle.lfs_cleaner.specs.log.memory.Removing.{without_file}
use Rattle.lfs_cleaner.proofs.of_log.of_memory.LogMaps.{is_with_header}
use Rattle.lfs_cleaner.proofs.of_log.of_memory.Removed.{is_without}

-- a file that isn't there has no block
pub none_stored : (m : LogMap) (n i : ℕ) → IsLogMap m → m.header n ≡ None → m.block n i ≡ []
none_stored m n i is none = by (m.block n i) refl
  where
    by : (b : List ℕ) → m.block n i ≡ b → b ≡ []
    by [] e = refl
    by (x ∷ b) e =
        let there = is.within n i (omega (arith, ap length e)) in
        let never : None ≡ Some there.0 = cc in
        absurd (cc)

-- ---- a file is made

pub changed_header : (m : LogMap) (n : ℕ) (h : Option entry.Header) → IsChangedAt m n (with_header m n h)
changed_header m n h = record { headers = λ k ne. (is_with_header m n {h = h}).others k ne; blocks = λ k i ne. refl; version = refl }

made_object : (m : LogMap) (n : ℕ) (h : entry.Header) → IsLogMap m → m.header n ≡ None → 1 ≤ n → h.size ≤ 8511488
    → IsForm m.version h.kind h.form → IsObject (with_header m n (Some h)) n h
made_object m n h is none some few form = record {
  number = some;
  root = λ e. (let root = is.root in let never : Some root.0 ≡ None = cc in absurd (cc));
  form = form;
  size = few;
  whole = record {
    long = λ i has. absurd (nothing i has);
    nonzero = λ i has. absurd (nothing i has);
  };
  ends = λ p le. cc (none_stored _ _ _ is none);
}
  where
    nothing : (i : ℕ) → HasData m n i → ⊥
    nothing i has = omega (arith, ap length (none_stored m n i is none))

pub made_map : (m : LogMap) (n : ℕ) (h : entry.Header) → IsLogMap m → m.header n ≡ None → 1 ≤ n → h.size ≤ 8511488
    → IsForm m.version h.kind h.form → IsLogMap (with_header m n (Some h))
made_map m n h is none some few form = object_kept m (with_header m n (Some h)) n h is (changed_header _ _ _)
    (is_with_header m n {h = Some h}).own (made_object _ _ _ is none some few form)

-- ---- its links

-- a header with other links
module _ (m : LogMap) (n : ℕ) (h : entry.Header) (links : ℕ) (is : IsLogMap m) (there : m.header n ≡ Some h) where
  abbrev now : entry.Header
  now = record h { links = links }

  abbrev over : LogMap
  over = with_header m n (Some now)

  own : {k : ℕ} → k ≡ n → over.header k ≡ Some now
  own here = cc (here, (is_with_header m n {h = Some now}).own)

  -- what is there has the kind and the size that it had
  was_there : (k : ℕ) (g : entry.Header) → over.header k ≡ Some g
      → (f : entry.Header) × (m.header k ≡ Some f) × (g.kind ≡ f.kind) × (g.size ≡ f.size)
  was_there k g at = ⊎_elim
      (λ (here : k ≡ n).
      let both : Some now ≡ Some g = cc (own here) in
      let same : now ≡ g = cc in
      (h, ap m.header here ∙ there, ap (λ (x : entry.Header). x.kind) (sym same), ap (λ (x : entry.Header). x.size) (sym same)))
      (λ (ne : k ≡ n → ⊥). (g, sym ((is_with_header m n {h = Some now}).others k ne) ∙ at, refl, refl)) (cases_eq k n)

  now_there : (k : ℕ) {f : entry.Header} → m.header k ≡ Some f → (g : entry.Header) × (over.header k ≡ Some g)
      × (g.kind ≡ f.kind) × (g.size ≡ f.size)
  now_there k {f} at = ⊎_elim
      (λ (here : k ≡ n).
      let both : Some h ≡ Some f = cc in
      let same : h ≡ f = cc in
      (now, own here, ap (λ (x : entry.Header). x.kind) same, ap (λ (x : entry.Header). x.size) same))
      (λ (ne : k ≡ n → ⊥). (f, (is_with_header m n {h = Some now}).others k ne ∙ at, refl, refl)) (cases_eq k n)

  pub relinked_map : IsLogMap over
  relinked_map = record {
    none = λ g at. (let was = was_there _ _ at in is.none was.0 was.1);
    root = (let root = is.root in let now = now_there _ root.1 in (now.0, now.1, now.2 ∙ root.2));
    within = λ k i has. (
        let was = is.within k i has in
        let now = now_there _ was.1 in
        (now.0, now.1, omega arith));
    forms = λ k g at. ⊎_elim
        (λ (here : k ≡ n).
        let both : Some now ≡ Some g = cc (own here) in
        let same : now ≡ g = cc in
        rw (← same) (is.forms n h there))
        (λ (ne : k ≡ n → ⊥). is.forms k g (cc ((is_with_header m n {h = Some now}).others k ne))) (cases_eq k n);
    small = is.small;
    nonzero = is.nonzero;
    past = λ k i o g at le. (let was = was_there _ _ at in is.past k i o was.0 was.1 (omega arith));
  }

-- ---- it goes

pub without_changed : (m : LogMap) (n : ℕ) → IsChangedAt m n (without_file n m)
without_changed m n =
    let gone = is_without m n in record { headers = gone.headers; blocks = λ k i ne. gone.blocks k i ne; version = gone.version }
