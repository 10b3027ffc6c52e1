-- What a volume's log map keeps, when one object is another.
use Rattle.std.proofs.Common.{◌≡◌, ◌≢◌, ◌<◌, ◌≤◌, ⊎_elim, ◌+◌, ◌*◌, ◌%◌, ℕ, List, [], length, Some, None, refl, sym, ◌∙◌, ap, subst, arith}
use Rattle.std.proofs.Common.{slice_index}
use Rattle.std.proofs.lemmas.Bool.{cases_eq, cases_lt}
use Rattle.std.proofs.lemmas.List.{get_or_past}
use Rattle.lfs_model.specs.declared.Kind.{Kind}
use Rattle.lfs_model.specs.declared.Kind.TheVariants as kind
use Rattle.lfs_model.specs.Encodes.{HasData, IsLogMap}
use Rattle.lfs_model.specs.Entry.{Header, Inode, header}
use Rattle.lfs_model.specs.Inode.{IsForm, IsSize}
use Rattle.lfs_model.specs.Tree.{slot_len}
use Rattle.lfs_model.proofs.InodePlaces.{widest}
use Rattle.lfs_model.specs.Laid.{HoldsInode}
use Rattle.lfs_model.specs.Stands.{LogMap}
use Rattle.lfs_model.specs.Objects.{BlockWhole, IsChangedAt, IsHeaderOf, IsObject, LaidHeaders, ObjectFits, ObjectKept, ObjectLost}
use Rattle.lfs_model.proofs.ObjectBytes.{map_ends}
use Rattle.lfs_model.proofs.ObjectNeeds.{block_byte, nonempty}
use Rattle.lfs_model.proofs.Patching.{header_holds, number_low}

pub object_fits : ObjectFits
object_fits m n h is long at size = record {
  number = ⊎_elim
      (λ (none : n < 1). let zero_is : n ≡ 0 = omega arith in absurd (is.none h (sym (ap m.header zero_is) ∙ at)))
      (λ (some : 1 ≤ n). some)
      (cases_lt n 1);
  root = λ e.
      let root = is.root in
      let same : root.0 ≡ h = (let both : Some root.0 ≡ Some h = sym root.1 ∙ sym (ap m.header e) ∙ at in cc) in
      sym (ap (λ (g : Header). g.kind) same) ∙ root.2;
  form = is.forms n h at;
  size = size;
  whole = record { long = long; nonzero = is.nonzero n };
  ends = map_ends m n h is at;
}

-- one object of a log map
module _ (m : LogMap) (n : ℕ) (h : Header) (fits : IsObject m n h) where
  -- past its end, in a block or behind it, is no byte but zero
  own_past : (i k : ℕ) → h.size ≤ 512 * i + k → slice_index (m.block n i) k ≡ 0
  own_past i k le = ⊎_elim
      (λ (low : k < 512). sym (block_byte m n i k low) ∙ fits.ends (512 * i + k) le)
      (λ (high : 512 ≤ k). get_or_past (m.block n i) k 0 (short k high))
      (cases_lt k 512)
    where
      short : (k : ℕ) → 512 ≤ k → length (m.block n i) ≤ k
      short k high = ⊎_elim
          (λ (some : 0 < length (m.block n i)). let l = fits.whole.long i some in omega arith)
          (λ (none : length (m.block n i) ≤ 0). omega arith)
          (cases_lt 0 (length (m.block n i)))

  own_within : (i : ℕ) → HasData m n i → 512 * i < h.size
  own_within i has =
      let one = fits.whole.nonzero i has in
      let some = one.1 in
      let low = nonempty (m.block n i) one.0 some in
      let l = fits.whole.long i has in
      ⊎_elim
      (λ (inside : 512 * i + one.0 < h.size). first_before i one.0 inside low l)
      (λ (past : h.size ≤ 512 * i + one.0). let none = own_past i one.0 past in absurd (omega arith))
      (cases_lt (512 * i + one.0) h.size)
    where
      first_before : (i k : ℕ) → 512 * i + k < h.size → k < length (m.block n i) → length (m.block n i) ≡ 512 → 512 * i < h.size
      first_before i k inside low l = omega arith

module _ (m m' : LogMap) (n : ℕ) (is : IsLogMap m) (changed : IsChangedAt m n m') where
  -- what another file has was there
  data_was : (k i : ℕ) → (k ≡ n → ⊥) → HasData m' k i → HasData m k i
  data_was k i ne has = subst (λ (b : List ℕ). 0 < length b) (changed.blocks k i ne) has

  kept_within : (k i : ℕ) → (k ≡ n → ⊥) → HasData m' k i → (h : Header) × (m'.header k ≡ Some h) × (512 * i < h.size)
  kept_within k i ne has = let was = is.within k i (data_was k i ne has) in (was.0, changed.headers k ne ∙ was.1, was.2)

  kept_nonzero : (k i : ℕ) → (k ≡ n → ⊥) → HasData m' k i → (o : ℕ) × (0 < slice_index (m'.block k i) o)
  kept_nonzero k i ne has =
      subst (λ (b : List ℕ). (o : ℕ) × (0 < slice_index b o)) (sym (changed.blocks k i ne)) (is.nonzero k i (data_was k i ne has))

  kept_past : (k i o : ℕ) (h : Header) → (k ≡ n → ⊥) → m'.header k ≡ Some h → h.size ≤ 512 * i + o → slice_index (m'.block k i) o ≡ 0
  kept_past k i o h ne at le = ap (λ (b : List ℕ). slice_index b o) (changed.blocks k i ne)
      ∙ is.past k i o h (sym (changed.headers k ne) ∙ at) le

  by_number : (P : ℕ → Type 0) → P n → ((k : ℕ) → (k ≡ n → ⊥) → P k) → (k : ℕ) → P k
  by_number P own others k = ⊎_elim (λ (here : k ≡ n). subst P (sym here) own) (others k) (cases_eq k n)

  kept_form : (k : ℕ) (g : Header) → (k ≡ n → ⊥) → m'.header k ≡ Some g → IsForm m'.version g.kind g.form
  kept_form k g ne at = subst (λ (v : ℕ). IsForm v g.kind g.form) (sym changed.version) (is.forms k g (sym (changed.headers k ne) ∙ at))

  pub with_object_kept : (h : Header) → m'.header n ≡ Some h → IsObject m' n h → IsLogMap m'
  with_object_kept h at fits = record {
    none = by_number (λ k. k ≡ 0 → (g : Header) → m'.header k ≡ Some g → ⊥)
        (λ e g there. let some = fits.number in omega arith)
        (λ k ne e g there. is.none g (sym (ap m.header e) ∙ sym (changed.headers k ne) ∙ there)) 0 refl;
    root = by_number (λ k. k ≡ 1 → (g : Header) × (m'.header k ≡ Some g) × (g.kind ≡ kind.Directory))
        (λ e. (h, at, fits.root e))
        (λ k ne e. let root = is.root in (root.0, changed.headers k ne ∙ ap m.header e ∙ root.1, root.2)) 1 refl;
    forms = by_number (λ k. (g : Header) → m'.header k ≡ Some g → IsForm m'.version g.kind g.form)
        (λ g there. (let same : h ≡ g = (let both : Some h ≡ Some g = sym at ∙ there in cc) in
        subst (λ (x : Header). IsForm m'.version x.kind x.form) same fits.form))
        (λ k ne g there. kept_form k g ne there);
    within = by_number (λ k. (i : ℕ) → HasData m' k i → (g : Header) × (m'.header k ≡ Some g) × (512 * i < g.size))
        (λ i has. (h, at, own_within m' n h fits i has))
        (λ k ne i. kept_within k i ne);
    small = by_number (λ k. (i : ℕ) → HasData m' k i → i < 16624)
        (λ i has. let low = own_within m' n h fits i has in let size = fits.size in omega arith)
        (λ k ne i has. is.small k i (data_was k i ne has));
    nonzero = by_number (λ k. (i : ℕ) → HasData m' k i → (o : ℕ) × (0 < slice_index (m'.block k i) o))
        fits.whole.nonzero
        (λ k ne i. kept_nonzero k i ne);
    past = by_number (λ k. (i o : ℕ) (g : Header) → m'.header k ≡ Some g → g.size ≤ 512 * i + o → slice_index (m'.block k i) o ≡ 0)
        (λ i o g there le. (let same : h ≡ g = (let both : Some h ≡ Some g = sym at ∙ there in cc) in
        own_past m' n h fits i o (subst (λ (x : Header). x.size ≤ 512 * i + o) (sym same) le)))
        (λ k ne i o g. kept_past k i o g ne);
  }

  pub without_object_kept : m'.header n ≡ None → ((i : ℕ) → m'.block n i ≡ []) → n ≢ 1 → IsLogMap m'
  without_object_kept at gone other = record {
    none = by_number (λ k. k ≡ 0 → (g : Header) → m'.header k ≡ Some g → ⊥)
        (λ e g there. let bad : None ≡ Some g = sym at ∙ there in absurd (cc))
        (λ k ne e g there. is.none g (sym (ap m.header e) ∙ sym (changed.headers k ne) ∙ there)) 0 refl;
    root = by_number (λ k. k ≡ 1 → (g : Header) × (m'.header k ≡ Some g) × (g.kind ≡ kind.Directory))
        (λ e. absurd (other e))
        (λ k ne e. let root = is.root in (root.0, changed.headers k ne ∙ ap m.header e ∙ root.1, root.2)) 1 refl;
    forms = by_number (λ k. (g : Header) → m'.header k ≡ Some g → IsForm m'.version g.kind g.form)
        (λ g there. let bad : None ≡ Some g = sym at ∙ there in absurd (cc))
        (λ k ne g there. kept_form k g ne there);
    within = by_number (λ k. (i : ℕ) → HasData m' k i → (g : Header) × (m'.header k ≡ Some g) × (512 * i < g.size))
        (λ i has. absurd (no_data i has))
        (λ k ne i. kept_within k i ne);
    small = by_number (λ k. (i : ℕ) → HasData m' k i → i < 16624)
        (λ i has. absurd (no_data i has))
        (λ k ne i has. is.small k i (data_was k i ne has));
    nonzero = by_number (λ k. (i : ℕ) → HasData m' k i → (o : ℕ) × (0 < slice_index (m'.block k i) o))
        (λ i has. absurd (no_data i has))
        (λ k ne i. kept_nonzero k i ne);
    past = by_number (λ k. (i o : ℕ) (g : Header) → m'.header k ≡ Some g → g.size ≤ 512 * i + o → slice_index (m'.block k i) o ≡ 0)
        (λ i o g there le. ap (λ (b : List ℕ). slice_index b o) (gone i))
        (λ k ne i o g. kept_past k i o g ne);
  }
    where
      no_data : (i : ℕ) → HasData m' n i → ⊥
      no_data i has = let none = ap length (gone i) in omega arith

pub object_kept : ObjectKept
object_kept m m' n h is changed at fits = with_object_kept m m' n is changed h at fits

pub object_lost : ObjectLost
object_lost m m' n is changed at gone other = without_object_kept m m' n is changed at gone other

pub block_whole : BlockWhole
block_whole m m' n i bytes with_it was fresh = record {
  long = λ l has. (at l has).0;
  nonzero = λ l has. (at l has).1;
}
  where
    at : (l : ℕ) → HasData m' n l → (length (m'.block n l) ≡ 512) × ((k : ℕ) × (0 < slice_index (m'.block n l) k))
    at l has = ⊎_elim
        (λ (here : l ≡ i).
        let own : m'.block n l ≡ bytes = ap (m'.block n) here ∙ with_it.own in
        subst (λ (b : List ℕ). (length b ≡ 512) × ((k : ℕ) × (0 < slice_index b k))) (sym own)
        (fresh (subst (λ (b : List ℕ). 0 < length b) own has)))
        (λ (ne : l ≡ i → ⊥).
        let same : m'.block n l ≡ m.block n l = with_it.others n l (λ e. let one : l ≡ i = cc in ne one) in
        let there : HasData m n l = subst (λ (b : List ℕ). 0 < length b) same has in
        subst (λ (b : List ℕ). (length b ≡ 512) × ((k : ℕ) × (0 < slice_index b k))) (sym same) (was.long l there, was.nonzero l there))
        (cases_eq l i)

-- ---- headers

size_most : (form : ℕ) (k : Kind) (size : ℕ) → IsSize form k size → size ≤ 8511488
unfolding IsSize
size_most form kind.File size fits = fits
size_most form kind.Directory size fits = let most = fits.1 in let wide = widest form in omega arith
size_most form kind.Link size fits = let most = fits.1 in omega arith

size_slots : (form : ℕ) (k : Kind) (size : ℕ) → IsSize form k size → k ≡ kind.Directory → size % slot_len form ≡ 0
unfolding IsSize
size_slots form kind.File size fits dir = absurd (cc)
size_slots form kind.Directory size fits dir = fits.0
size_slots form kind.Link size fits dir = absurd (cc)

pub header_of_inode : (n : ℕ) (b : List ℕ) → HoldsInode n b → IsHeaderOf n (header b)
header_of_inode n b holds = subst (IsHeaderOf n) (sym (header_holds n holds)) (record {
  number = number_low n holds;
  form = holds.fits.form;
  links = holds.links;
  size = holds.fits.size;
  most = size_most holds.value.form holds.value.kind holds.value.size holds.fits.size;
  slots = size_slots holds.value.form holds.value.kind holds.value.size holds.fits.size;
})

pub laid_headers : LaidHeaders
laid_headers e m M o laid n h at =
    let some = (laid.inodes n).0 (h, at) in
    let spells = laid.spells (Inode n) some in
    let same : header (M.bytes (Inode n)) ≡ h = (let both : Some (header (M.bytes (Inode n))) ≡ Some h = sym spells.header ∙ at in cc) in
    subst (IsHeaderOf n) same (header_of_inode n (M.bytes (Inode n)) spells.formed)
