-- A device as a volume on it sees it is lawful.
use Rattle.std.specs.Prelude.{◌≡◌, ℕ, zero, suc, ◌+◌, ◌-◌, ◌^◌, ◌<◌, [], ◌∷◌, length, None, refl}
use Rattle.std.specs.List.{AllByRecursion}
use Rattle.std.proofs.Common.{sym, ◌∙◌, ap, subst, arith, length-drop}
use Rattle.std.proofs.lemmas.Bool.Decides.{nat_tests}
use Rattle.std.proofs.lemmas.List.{get_or-drop}
use Rattle.lfs_model.specs.Content.{Content}
use Rattle.lfs_model.specs.Device.{DeviceState, IsLawful, IsSector, cell_at}
use Rattle.lfs_model.proofs.Cells.{sector_at}
use Rattle.lfs_places.specs.declared.Places.{Places}
use Rattle.lfs_places.specs.declared.Places.TheVariants.{Old, New}
use Rattle.lfs_places.specs.Placed.{IsOfOne, placed}
use Rattle.lfs_places.specs.PlaceLaws.{CellsStand, PlacesLeadBack, SizesStand}
use Rattle.lfs_places.specs.Places.{place_of, slots_and_rest, volume_content, volume_sector, volume_size}

-- the slots and the rest
module _ (second rest : ℕ) (c : Content) where
  rest_size : length (slots_and_rest second rest c) ≡ 2 + (length c - rest)
  unfolding slots_and_rest
  rest_size = let e = length-drop rest c in omega (arith, e)

  first_cell : cell_at (slots_and_rest second rest c) 0 ≡ cell_at c 0
  unfolding slots_and_rest
  first_cell = refl

  second_cell : cell_at (slots_and_rest second rest c) 1 ≡ cell_at c second
  unfolding slots_and_rest
  second_cell = refl

  rest_cell : (k : ℕ) → cell_at (slots_and_rest second rest c) (suc (suc k)) ≡ cell_at c (rest + k)
  unfolding slots_and_rest
  rest_cell k = get_or-drop rest c k None

pub sizes_stand : SizesStand
sizes_stand Old c = refl
sizes_stand New c = rest_size 128 256 c

pub cells_stand : CellsStand
cells_stand Old c sector = refl
cells_stand New c zero = first_cell 128 256 c
cells_stand New c (suc zero) = second_cell 128 256 c
cells_stand New c (suc (suc k)) = rest_cell 128 256 c k

-- behind the free sectors
leads_back : (k : ℕ) → volume_sector New (256 + k) ≡ suc (suc k)
leads_back k = grind (arith, nat_tests)

pub places_lead_back : PlacesLeadBack
places_lead_back Old sector = refl
places_lead_back New zero = refl
places_lead_back New (suc zero) = refl
places_lead_back New (suc (suc k)) = leads_back k

-- at one place stands one sector
pub one_place : (places : Places) (j k : ℕ) → place_of places j ≡ place_of places k → j ≡ k
one_place places j k same = sym (places_lead_back places j) ∙ ap (volume_sector places) same ∙ places_lead_back places k

-- each cell is a sector's
all_cells : (c : Content) → ((k : ℕ) → IsSector (cell_at c k)) → AllByRecursion IsSector c
all_cells [] each = tt
all_cells (x ∷ c) each = (each 0, all_cells c (λ k. each (suc k)))

size_fits : (places : Places) (n : ℕ) → n < 2 ^ 32 → volume_size places n < 2 ^ 32
size_fits Old n fits = fits
size_fits New n fits = omega (arith, fits)

module _ (places : Places) where
  size_is : (c : Content) (n : ℕ) → length c ≡ n → length (volume_content places c) ≡ volume_size places n
  size_is c n is = sizes_stand places c ∙ ap (volume_size places) is

  pub cells_are : (c : Content) → AllByRecursion IsSector c → AllByRecursion IsSector (volume_content places c)
  cells_are c all = all_cells (volume_content places c)
      (λ k. subst IsSector (sym (cells_stand places c k)) (sector_at c (place_of places k) all))

  -- what holds of what a volume has of each of these contents holds of each that it has
  of_one : (left P : Content → Type 0) → ((b : Content) → left b → P (volume_content places b)) → (c : Content)
      → IsOfOne places left c → P c
  of_one left P each c has = subst P (sym has.2) (each has.0 has.1)

  -- more contents of the device, more of the volume
  pub of_more : (left left' : Content → Type 0) → ((b : Content) → left b → left' b) → (c : Content) → IsOfOne places left c
      → IsOfOne places left' c
  of_more left left' each c has = (has.0, each has.0 has.1, has.2)

  pub placed_lawful : (d : DeviceState) → IsLawful d → IsLawful (placed places d)
  placed_lawful d is = record {
    fits = size_fits places d.size is.fits;
    size = size_is d.content d.size is.size;
    sizes = of_one d.may_leave (λ c. length c ≡ volume_size places d.size) (λ b left. size_is b d.size (is.sizes b left));
    now = cells_are d.content is.now;
    cells = of_one d.may_leave (AllByRecursion IsSector) (λ b left. cells_are b (is.cells b left));
    present = λ keeps. (d.content, is.present keeps, refl);
    counts_now = λ t c le. of_more d.may_leave (d.left_since t) (λ b left. is.counts_now t b le left) c;
    only_now = of_more (d.left_since d.moment) d.may_leave is.only_now;
    kept_now = is.kept_now;
    kept_earlier = is.kept_earlier;
    until_now = λ t c le. (
      of_more (d.left_until t d.moment) (d.left_since t) (λ b. (is.until_now t b le).0) c,
      of_more (d.left_since t) (d.left_until t d.moment) (λ b. (is.until_now t b le).1) c,
    );
    earlier = λ t u c le. of_more (d.left_since u) (d.left_since t) (λ b left. is.earlier t u b le left) c;
  }
