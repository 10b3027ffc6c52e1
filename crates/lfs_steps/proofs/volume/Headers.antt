-- The headers that calls give to files and to directories fit an inode.
use Rattle.lfs_steps.proofs.Prelude.{◌≡◌, ◌≤◌, ◌+◌, ◌-◌, ◌*◌, ℕ, sym, subst, arith, Kind, IsForm, IsHeaderOf, slot_len, FitsHeader}
use Rattle.lfs_steps.proofs.Prelude.{as_header}
use Rattle.lfs_model.specs.declared.Kind.TheVariants as kind
use Rattle.lfs_model.specs.Inode.{IsSize}
use Rattle.lfs_files.specs.declared.header.Header.{Header}
use Rattle.lfs_steps.proofs.volume.Slots.{whole_less, whole_more}

-- the form of what a volume has
pub known_form : {n : ℕ} (head : Header) → IsHeaderOf n (as_header head) → IsForm 2 head.kind head.form
known_form head fits = fits.form

-- a file of another size
pub file_fits : (n : ℕ) (head : Header) → IsHeaderOf n (as_header head) → head.kind ≡ kind.File → {size : ℕ} → size ≤ 8511488
    → FitsHeader head.kind head.form head.links size
unfolding IsSize
file_fits n head fits file {size} small = record {
  known = known_form head fits;
  links_few = fits.links;
  size_fits = subst (λ (k : Kind). IsSize head.form k size) (sym file) small;
}

-- a file with another number of links, at most as many
pub links_fit : {n : ℕ} (head : Header) → IsHeaderOf n (as_header head) → {links : ℕ} → links ≤ head.links
    → FitsHeader head.kind head.form links head.size
links_fit {n} head fits le =
    record { known = known_form head fits; links_few = (let few = fits.links in omega (arith, few, le)); size_fits = fits.size }

-- a directory with a slot more, where it has fewer than 1,024
pub directory_grows : (d : ℕ) (head : Header) → IsHeaderOf d (as_header head) → head.kind ≡ kind.Directory
    → head.size ≤ 1023 * slot_len head.form → FitsHeader head.kind head.form head.links (head.size + slot_len head.form)
unfolding IsSize
directory_grows d head fits dir free =
    record {
      known = known_form head fits;
      links_few = fits.links;
      size_fits = subst (λ (k : Kind). IsSize head.form k (head.size + slot_len head.form)) (sym dir)
          (whole_more head.form head.size (fits.slots dir), omega (arith, free));
    }

-- and with one less
pub directory_shrinks : (d : ℕ) (head : Header) → IsHeaderOf d (as_header head) → head.kind ≡ kind.Directory
    → slot_len head.form ≤ head.size → FitsHeader head.kind head.form head.links (head.size - slot_len head.form)
unfolding IsSize
directory_shrinks d head fits dir some =
    let sized : IsSize head.form kind.Directory head.size = subst (λ (k : Kind). IsSize head.form k head.size) dir fits.size in
    let whole = sized.0 in
    let most = sized.1 in
    record {
      known = known_form head fits;
      links_few = fits.links;
      size_fits = subst (λ (k : Kind). IsSize head.form k (head.size - slot_len head.form)) (sym dir)
          (whole_less head.form head.size whole some, omega (arith, most));
    }
