-- A rename can be drafted in a state, and the draft fits its log map: what is lost first, then the headers of both directories and the
-- names in them.
use Rattle.lfs_steps.proofs.Prelude.{◌≡◌, ◌&&◌, ◌<◌, ◌≤◌, ◌+◌, ◌-◌, not, ℕ, Bool, true, false, List, Option, Some, None, refl, sym, ◌∙◌, ap}
use Rattle.lfs_steps.proofs.Prelude.{subst, arith, ◌==◌, if◌then◌else◌, is_none, find, eq-eqb, IsDirectory, IsHeaderOf, LogMap, name, State}
use Rattle.lfs_steps.proofs.Prelude.{byte_cmp, entry, slot_len, FilesState, IsApart, FitsHeader, as_header, Last, names_at, shrunk, Object}
use Rattle.lfs_steps.proofs.Prelude.{Source, Target, is_directory, fewer_links, more_links, GivesName, FitsFound}
use Rattle.lfs_files.specs.declared.header.Header.{Header}
use Rattle.lfs_entries.specs.Drafting.{HasNamed}
use Rattle.lfs_entries.specs.Entries.{number_of}
use Rattle.lfs_entries.specs.Moving.{HasFoundName, HasMove, HasMoved, HasNames, IsOther, IsThere, NamedFound, TakesFound, TakesMove}
use Rattle.lfs_entries.specs.Moving.{first_holder, gains_directory, loses_directory, second_holder, second_linked}
use Rattle.lfs_entries.specs.Moving.{size_with}
use Rattle.lfs_steps.proofs.paths.Named.{dir, entry_is, fits_d, holder, piece_is}
use Rattle.lfs_steps.proofs.rename.Maps.{IsRename, apart_first, apart_second, found, holder_a, holder_b, linked_twice, linked_twice_b}
use Rattle.lfs_steps.proofs.rename.Maps.{looks_o}
use Rattle.lfs_steps.proofs.rename.Maps.{not_root, some_links}
use Rattle.lfs_steps.proofs.volume.Directories.{slot_in_directory}
use Rattle.lfs_steps.proofs.volume.Headers.{directory_grows, directory_shrinks, known_form, links_fit}

-- ---- links

at_most : (v : Bool) (l : ℕ) → (if v then l - 1 else l) ≤ l
at_most true l = omega arith
at_most false l = omega arith

within : (v : Bool) (l : ℕ) → l ≤ 1000 → (v ≡ true → l < 1000)
    → (if v then l + 1 else l) ≤ 1000
within true l few may = let less = may refl in omega (arith, less)
within false l few may = few

gains_new : (d e : Bool) → (d && (not e && true)) ≡ true → (d ≡ true) × (e ≡ false)
gains_new true true gains = absurd (let no : false ≡ true = gains in cc)
gains_new true false gains = (refl, refl)
gains_new false e gains = absurd (let no : false ≡ true = gains in cc)

gains_none : (d e : Bool) → (d && (not e && false)) ≡ true → ⊥
gains_none true true gains = cc
gains_none true false gains = cc
gains_none false e gains = cc

-- a directory that gets another has room for its link
few_links : (source : Source) (target : Target) (found : Option Object)
    → FitsFound found source target
    → (is_directory source.object.header.kind
    && (not (source.directory.value == target.directory.value) && is_none found)) ≡ true
    → target.holder.links < 1000
few_links source target None fits gains =
    let both = gains_new (is_directory source.object.header.kind)
    (source.directory.value == target.directory.value) gains in
    (fits (λ same. (
    let on = eq-eqb source.directory.value target.directory.value same in
    let off = both.1 in
    cc))).links both.0
few_links source target (Some o) fits gains =
    absurd (gains_none (is_directory source.object.header.kind)
    (source.directory.value == target.directory.value) gains)

named_in : (m : LogMap) (d : ℕ) {head : Header} {nm nm' : List ℕ} {k : ℕ} → IsDirectory m d (as_header head) → nm' ≡ nm
    → Some k ≡ find byte_cmp nm (names_at m d head) → HasNamed d head nm' m
named_in m d {head} {k} directory same gives = record {
  directory = directory;
  there = λ none. (
      let both : Some k ≡ None = gives ∙ ap (λ (w : List ℕ). find byte_cmp w (names_at m d head)) (sym same) ∙ none in
      cc);
}

gives_same : (found : Option Object) {n : ℕ} → Some n ≡ number_of found → GivesName found n ≡ true
gives_same None same = cc
gives_same (Some r) {n} same = eq-eqb r.number.value n (let one : r.number.value ≡ n = cc in one)

module _ {N : ℕ} {m : LogMap} {s : State} {a b : List ℕ} {l o : Last} {source : Source} {dest : Target}
    (g : IsRename N m s a b l o source dest) where
  open g use {looks_a, looks_b}

  abbrev da : ℕ
  da = source.directory.value

  abbrev db : ℕ
  db = dest.directory.value

  -- ---- both directories are there, with both names

  there_by : (found : Option Object) → dest.replaced ≡ found → IsThere found m
  there_by None none = tt
  there_by (Some r) some = ((looks_o g r some).there, not_root g r some)

  first_by : (found : Option Object) → dest.replaced ≡ found → IsOther found da
  first_by None none = tt
  first_by (Some r) some = λ e. apart_first g r some (sym e)

  second_by : (found : Option Object) → dest.replaced ≡ found → IsOther found db
  second_by None none = tt
  second_by (Some r) some = λ e. apart_second g r some (sym e)

  pub has_move : HasMove source dest m
  has_move = record {
    map = g.first.map.map;
    holders = record { first = looks_a.looks.header; second = looks_b.looks.header };
    replaced = there_by dest.replaced refl;
    not_first = first_by dest.replaced refl;
    not_second = second_by dest.replaced refl;
  }

  found_by : (found : Option Object) → dest.replaced ≡ found → HasFoundName found db dest.holder dest.name.now m
  found_by None none = tt
  found_by (Some r) some = named_in m db
      ((holder g.second).formed dest.holder looks_b.looks.header) g.named_b (looks_o g r some).looks.gives

  pub has_names : HasNames source dest m
  has_names = record {
    move = has_move;
    first = named_in m da ((holder g.first).formed source.holder looks_a.looks.header) g.named_a looks_a.looks.gives;
    second = found_by dest.replaced refl;
    -- else both would give one object
    others = λ same alike. (
        let names : name a ≡ name b = piece_is g.first ∙ sym g.named_a ∙ alike ∙ g.named_b ∙ sym (piece_is g.second) in
        let gives : Some source.object.number.value ≡ number_of dest.replaced = sym (found g)
        ∙ (λ i. entry s.tree (same i) (names i)) ∙ entry_is g.second looks_b.looks in
        let on = gives_same dest.replaced gives in
        let off = g.apart in
        cc);
  }

  -- ---- the headers of both directories

  fits_a : IsHeaderOf da (as_header source.holder)
  fits_a = fits_d g.first source.holder looks_a.looks.header

  fits_b : IsHeaderOf db (as_header dest.holder)
  fits_b = fits_d g.second dest.holder looks_b.looks.header

  some_size : slot_len source.holder.form ≤ source.holder.size
  some_size = slot_in_directory N m s g.first.map da (dir g.first) source.holder looks_a.looks.header fits_a
      l.name.now (sym looks_a.looks.gives)

  less : FitsHeader source.holder.kind source.holder.form (fewer_links source dest) source.holder.size
  less = links_fit source.holder fits_a {links = fewer_links source dest} (at_most (loses_directory source dest) source.holder.links)

  more : FitsHeader dest.holder.kind dest.holder.form (more_links source dest) dest.holder.size
  more = record {
    known = known_form dest.holder fits_b;
    links_few = within (gains_directory source dest) dest.holder.links fits_b.links
        (few_links source dest dest.replaced g.fits);
    size_fits = fits_b.size;
  }

  cut_fits : FitsHeader source.holder.kind source.holder.form (fewer_links source dest)
      (source.holder.size - slot_len source.holder.form)
  cut_fits = record {
    known = less.known;
    links_few = less.links_few;
    size_fits = (directory_shrinks da source.holder fits_a (holder_a g).kind some_size).size_fits;
  }

  -- the second directory's as a name is drafted into it
  abbrev holder_by : Bool → Header
  holder_by e = if e then shrunk (first_holder source dest) else second_linked source dest

  over_fits : (e : Bool) → FitsHeader (holder_by e).kind (holder_by e).form (holder_by e).links (holder_by e).size
  over_fits true = cut_fits
  over_fits false = more

  new_fits : (e : Bool) → (da == db) ≡ e → dest.replaced ≡ None
      → FitsHeader (holder_by e).kind (holder_by e).form (holder_by e).links ((holder_by e).size + slot_len (holder_by e).form)
  new_fits true same none = subst
      (λ (z : ℕ). FitsHeader source.holder.kind source.holder.form (fewer_links source dest) z)
      (let some = some_size in omega (arith, some)) less
  new_fits false ne none = record {
    known = more.known;
    links_few = more.links_few;
    size_fits = (directory_grows db dest.holder fits_b (holder_b g).kind
        (subst (λ (f : Option Object). FitsFound f source dest) none g.fits
        (λ e. (let on = eq-eqb da db e in let off = ne in cc))).size).size_fits;
  }

  -- ---- the draft fits, where nothing was lost before
  module _ {S D : Type 0} (files : FilesState S D) (none_lost : (k : ℕ) → IsApart files.lost k) where
    replaced_by : (found : Option Object) → dest.replaced ≡ found → TakesFound files m found
    replaced_by None none = tt
    replaced_by (Some r) some = record {
      there = (looks_o g r some).there;
      linked = some_links g r some;
      apart = (none_lost r.number.value).inode;
      header = links_fit r.header (g.first.headers r.number.value (as_header r.header) (looks_o g r some).there) (omega arith);
    }

    abbrev to : Header
    to = second_holder source dest

    longer_by : (found : Option Object) → dest.replaced ≡ found → (x y : LogMap)
        → NamedFound found x y db to source.object.number.value dest.name.now
        → FitsHeader to.kind to.form to.links (size_with found to source.object.number.value dest.name.now)
    longer_by None none x y names =
        subst (λ (z : ℕ). FitsHeader to.kind to.form to.links z) names.file.bytes.size (new_fits (da == db) refl none)
    longer_by (Some r) some x y names = over_fits (da == db)

    pub takes_move : {is_open : Bool} {after : FilesState S D} → HasMoved after m m source dest is_open → TakesMove files m m source dest
    takes_move moved = record {
      move = has_move;
      first_staged = λ none. (let at = looks_a.looks.header in cc);
      second_staged = λ none. (let at = looks_b.looks.header in cc);
      first_apart = none_lost da;
      second_apart = none_lost db;
      replaced = replaced_by dest.replaced refl;
      first_linked = let two = linked_twice g in omega (arith, two);
      second_linked = let two = linked_twice_b g in omega (arith, two);
      first = less;
      second = more;
      shorter = cut_fits;
      longer = longer_by dest.replaced refl _ _ moved.named;
    }
