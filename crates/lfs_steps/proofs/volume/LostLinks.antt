-- An object that has a link less in a draft, or is gone from it, as what loses its name in a state.
use Rattle.lfs_steps.proofs.Prelude.{◌≡◌, ◌≢◌, ◌⊎◌, ◌≤◌, ◌-◌, ◌&&◌, ◌||◌, not, ℕ, Bool, true, false, refl, ap, inl, inr, ⊎_elim, nat_lt}
use Rattle.lfs_steps.proofs.Prelude.{arith, nat_tests, Kind, LogMap, State, opened, as_header, is_directory}
use Rattle.lfs_model.specs.declared.Kind.TheVariants as kind
use Rattle.lfs_files.specs.declared.header.Header.{Header}
use Rattle.lfs_entries.specs.OldNames.{LosesLink, stays}
use Rattle.lfs_steps.proofs.volume.LostNames.{LosesName}

stays_so : (k l o : Bool) → (not k && (l || o)) ≡ true → (k ≡ false) × ((l ≡ true) ⊎ (o ≡ true))
stays_so true l o on = absurd (cc)
stays_so false true o on = (refl, inl refl)
stays_so false false true on = (refl, inr refl)
stays_so false false false on = absurd (cc)

goes_so : (k l o : Bool) → (not k && (l || o)) ≡ false → (k ≡ true) ⊎ ((k ≡ false) × (l ≡ false) × (o ≡ false))
goes_so true l o off = inl refl
goes_so false true o off = absurd (cc)
goes_so false false true off = absurd (cc)
goes_so false false false off = inr (refl, refl, refl)

kind_so : (k : Kind) → is_directory k ≡ true → k ≡ kind.Directory
kind_so kind.File on = absurd (cc)
kind_so kind.Directory on = refl
kind_so kind.Link on = absurd (cc)

keeps_some : (links : ℕ) → nat_lt 1 links ≡ true → links - 1 ≢ 0
keeps_some links more = grind (arith, nat_tests)

keeps_none : (links : ℕ) → nat_lt 1 links ≡ false → links ≤ 1
keeps_none links few = grind (arith, nat_tests)

module _ (s : State) (m m1 : LogMap) (n : ℕ) (h : Header) (is_open : Bool) (held : is_open ≡ true → opened s.handles n ≢ 0)
    (shut : is_open ≡ false → is_directory h.kind ≡ false → opened s.handles n ≡ 0) where
  pub loses_name : LosesLink (stays h is_open) m m1 n h → LosesName s m m1 n (as_header h)
  loses_name = by (stays h is_open) refl
    where
      by : (b : Bool) → stays h is_open ≡ b → LosesLink b m m1 n h → LosesName s m m1 n (as_header h)
      by true on made =
          let so = stays_so (is_directory h.kind) (nat_lt 1 h.links) is_open on in
          inl record {
            links = h.links - 1;
            is = refl;
            stays = ⊎_elim (λ more. inl (keeps_some h.links more)) (λ is. inr (held is)) so.1;
            plain = λ is. (let yes_dir : is_directory h.kind ≡ true = ap is_directory is in let no_dir = so.0 in cc);
            made = made;
          }
      by false off gone = inr record {
        last = ⊎_elim
            (λ on. inl (kind_so h.kind on))
            (λ none. inr (keeps_none h.links none.1, shut none.2 none.0))
            (goes_so (is_directory h.kind) (nat_lt 1 h.links) is_open off);
        gone = gone;
      }
