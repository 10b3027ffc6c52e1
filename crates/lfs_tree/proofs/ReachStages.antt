-- What the tables say of the tree: numbers that are named, directories that are reached, and links.
use Rattle.std.specs.Prelude.{◌==◌, T, count_by, unwrap_or}
use Rattle.std.proofs.Common.{◌≡◌, ◌≢◌, ◌<◌, ◌≤◌, ◌↔◌, ⊎_elim, ◌+◌, cond, true, Bool, eqb, ℕ, List, [], ◌∷◌, get_or, Option, Some}
use Rattle.std.proofs.Common.{None, refl, sym, ◌∙◌, ap, subst, arith, slice_index}
use Rattle.std.proofs.lemmas.Bool.{cases_eq}
use Rattle.std.proofs.lemmas.Bool.Decides.{nat_tests}
use Rattle.std.proofs.lemmas.List.Sums.{sum_by-cons}
use Rattle.std.specs.FinMap.{is_sorted}
use Rattle.lfs_model.specs.declared.Kind.{Kind}
use Rattle.lfs_model.specs.declared.Kind.TheVariants as kind
use Rattle.lfs_model.specs.Entry as entry
use Rattle.lfs_model.specs.Sound.{IsReachable, below, root}
use Rattle.lfs_model.specs.Stands.{LogMap}
use Rattle.lfs_model.specs.Tree.{Dir, File, Link, Names, Node, byte_cmp, entry as entry_in, is_dir, links, links_at, names, names_of, node}
use Rattle.lfs_model.specs.TreeOf.{AreLinks, AreReached, AreSlots, node_by, slots, tree_in}
use Rattle.lfs_files.specs.declared.header.Header.{Header}
use Rattle.lfs_files.specs.Headers.{as_header}
use Rattle.lfs_dirs.proofs.SlotNames.{sorted_names}
use Rattle.lfs_tree.specs.Linking.{AreLinksFit, FitsLinks}
use Rattle.lfs_tree.specs.Naming.{NamesValue, capped, giving, is_directory_kind, leads}
use Rattle.lfs_tree.specs.Objects.{AreNamed, names_at}
use Rattle.lfs_tree.specs.Reaching.{AllClimb, AreNamesFit, Climbs, FitsNames}
use Rattle.lfs_tree.specs.Reaching as way
use Rattle.lfs_tree.specs.Reading.{TellsHeaders}
use Rattle.lfs_tree.proofs.ObjectNames.{AreHeaders, head_told, names_directory, names_in_is, names_other, no_names, node_at}
use Rattle.lfs_tree.proofs.TreeNames.{found_given, given_found, names_given, sum_both}

-- ---- tests that agree on the numbers that names give
given_first : (e : List ℕ × ℕ) (ms : Names) → 0 < giving (e ∷ ms) e.1
given_first e ms =
    let yes : eqb e.1 e.1 ≡ true = grind (arith, nat_tests) in
    let more = sum_by-cons (λ (x : List ℕ × ℕ). cond {A = ℕ} (x.1 == e.1) 1 0) e ms in
    omega (arith, ap {B = ℕ} (λ (t : Bool). cond t 1 0) yes)

given_behind : (e : List ℕ × ℕ) (ms : Names) (n : ℕ) → 0 < giving ms n → 0 < giving (e ∷ ms) n
given_behind e ms n some =
    omega (arith, sum_by-cons (λ (x : List ℕ × ℕ). cond {A = ℕ} (x.1 == n) 1 0) e ms)

count_same : (p q : ℕ → Bool) (ms : Names) → ((n : ℕ) → 0 < giving ms n → p n ≡ q n) → count_by (λ x. p x.1) ms ≡ count_by (λ x. q x.1) ms
count_same p q [] same = refl
count_same p q (e ∷ ms) same =
    let a = sum_by-cons (λ (x : List ℕ × ℕ). cond {A = ℕ} (p x.1) 1 0) e ms in
    let b = sum_by-cons (λ (x : List ℕ × ℕ). cond {A = ℕ} (q x.1) 1 0) e ms in
    let own = ap {B = ℕ} (λ (t : Bool). cond t 1 0) (same e.1 (given_first e ms)) in
    omega (arith, count_same p q ms (λ n some. same n (given_behind e ms n some)))

module _ (m : LogMap) (are : AreHeaders m) (headers : List (Option Header)) (told : TellsHeaders m headers 4096) where
  -- ---- what stands at a number
  dir_by : (n : ℕ) (h : entry.Header) (k : Kind) → is_dir (Some (node_by m k n h)) ≡ is_directory_kind k
  dir_by n h kind.File = refl
  dir_by n h kind.Directory = refl
  dir_by n h kind.Link = refl

  node_there : (n : ℕ) (hd : Header) → n < 4096 → get_or headers n None ≡ Some hd
      → node (tree_in m) n ≡ Some (node_by m hd.kind n (as_header hd))
  node_there n hd low is = cc (node_at m are n, head_told m headers told n low is)

  node_not : (n : ℕ) → n < 4096 → get_or headers n None ≡ None → node (tree_in m) n ≡ None
  node_not n low none = cc (node_at m are n, told n low)

  leads_by : (n : ℕ) → n < 4096 → (o : Option Header) → get_or headers n None ≡ o → leads headers n ≡ is_dir (node (tree_in m) n)
  leads_by n low None is = cc (node_not n low is)
  leads_by n low (Some hd) is = cc (node_there n hd low is, dir_by n (as_header hd) hd.kind)

  leads_is : (n : ℕ) → n < 4096 → leads headers n ≡ is_dir (node (tree_in m) n)
  leads_is n low = leads_by n low (get_or headers n None) refl

  -- a number that is there
  low_of : (n : ℕ) {h : entry.Header} → m.header n ≡ Some h → n < 4096
  low_of n {h} at = let high = ((are n h at).number).1 in omega arith

  header_of : (n : ℕ) (h : entry.Header) → m.header n ≡ Some h → (hd : Header) × (get_or headers n None ≡ Some hd) × (h ≡ as_header hd)
  header_of n h at = by (get_or headers n None) refl
    where
      by : (o : Option Header) → get_or headers n None ≡ o → (hd : Header) × (get_or headers n None ≡ Some hd) × (h ≡ as_header hd)
      by None is = absurd (cc (told n (low_of n at)))
      by (Some hd) is = (hd, is, let both : Some h ≡ Some (as_header hd) = sym at ∙ head_told m headers told n (low_of n at) is in cc)

  header_in : (n : ℕ) → node (tree_in m) n ≢ None → (h : entry.Header) × (m.header n ≡ Some h)
  header_in n there = by (m.header n) refl
    where
      by : (o : Option entry.Header) → m.header n ≡ o → (h : entry.Header) × (m.header n ≡ Some h)
      by None is = absurd (there (cc (node_at m are n)))
      by (Some h) is = (h, is)

  dir_there : (n : ℕ) → is_dir (node (tree_in m) n) ≡ true → node (tree_in m) n ≢ None
  dir_there n dir none = cc

  -- ---- names of a directory
  sorted_at : (d : ℕ) → T (is_sorted byte_cmp (names_at m d))
  sorted_at d = by (m.header d) refl
    where
      sorted_by : (h : entry.Header) → m.header d ≡ Some h → (k : Kind) → h.kind ≡ k → T (is_sorted byte_cmp (names_at m d))
      sorted_by h is kind.File e = rw (names_other m are d is (λ dir. cc)) tt
      sorted_by h is kind.Link e = rw (names_other m are d is (λ dir. cc)) tt
      sorted_by h is kind.Directory e =
          rw (names_directory m are d is e) (sorted_names h.form (slots m d h))

      by : (o : Option entry.Header) → m.header d ≡ o → T (is_sorted byte_cmp (names_at m d))
      by None is = rw (no_names m are d is) tt
      by (Some h) is = sorted_by h is h.kind refl

  -- what gives a name is a directory
  entry_dir : (d : ℕ) (name : List ℕ) {n : ℕ} → entry_in (tree_in m) d name ≡ Some n → is_dir (node (tree_in m) d) ≡ true
  entry_dir d name {n} given = by (node (tree_in m) d) refl
    where
      none_of : (o : Option Node) → node (tree_in m) d ≡ o → names_of (unwrap_or o (File [])) ≡ [] → is_dir (node (tree_in m) d) ≡ true
      none_of o is none = cc

      by : (o : Option Node) → node (tree_in m) d ≡ o → is_dir (node (tree_in m) d) ≡ true
      by None is = none_of None is refl
      by (Some (File b)) is = none_of (Some (File b)) is refl
      by (Some (Link text)) is = none_of (Some (Link text)) is refl
      by (Some (Dir form ms)) is = cc

  entry_given : (d : ℕ) (name : List ℕ) (n : ℕ) → entry_in (tree_in m) d name ≡ Some n → 0 < giving (names_at m d) n
  entry_given d name n given = found_given (names_at m d) name n (cc (names_in_is m are d))

  -- ---- the tables
  module _ {t : NamesValue} (named : AreNamed m headers t 4096) where
    pub count_is : (n : ℕ) → n < 4096 → slice_index t.counts n ≡ capped (names (tree_in m) n)
    count_is n low = cc (named.counts n low, names_given m are n)

    -- the directory above one that is named
    up_names : (n : ℕ) → n < 4096 → 0 < names (tree_in m) n → 0 < giving (names_at m (slice_index t.up n)) n
    up_names n low some = named.up n low (omega (arith, names_given m are n))

    up_entry : (n : ℕ) → n < 4096 → 0 < names (tree_in m) n → (name : List ℕ) × (entry_in (tree_in m) (slice_index t.up n) name ≡ Some n)
    up_entry n low some =
        let found = given_found (names_at m (slice_index t.up n)) n (sorted_at (slice_index t.up n)) (up_names n low some) in
        (found.0, cc (names_in_is m are (slice_index t.up n)))

    -- ---- numbers named
    module _ (fit : AreNamesFit headers t) where
      fits_at : (n : ℕ) {h : entry.Header} → m.header n ≡ Some h
          → (hd : Header) × (h ≡ as_header hd) × FitsNames (Some hd) n (slice_index t.counts n)
      fits_at n {h} at =
          let is = header_of n h at in
          (is.0, is.2, rw is.1 at (fit n (low_of n at)))

      pub named_some : (n : ℕ) → n ≢ 1 → node (tree_in m) n ≢ None → 0 < names (tree_in m) n
      named_some n other there =
          let at = header_in n there in
          let some = (fits_at n at.1).2.1 other in
          omega (arith, count_is n (low_of n at.1))

      pub named_root : (h : entry.Header) → m.header 1 ≡ Some h → names (tree_in m) 1 ≡ 0
      named_root h at =
          let none = (fits_at 1 at).2.0 refl in
          omega (arith, count_is 1 (omega arith))

      pub named_one : (n : ℕ) → n ≢ 1 → is_dir (node (tree_in m) n) ≡ true → names (tree_in m) n ≡ 1
      named_one n other dir =
          let at = header_in n (dir_there n dir) in
          let fits = fits_at n at.1 in
          let one = fits.2.2 other (cc (dir_by n at.0 at.0.kind, node_at m are n)) in
          omega (arith, count_is n (low_of n at.1))

    pub names_fit : AreReached m → AreNamesFit headers t
    names_fit reached n low = by (get_or headers n None) refl
      where
        by : (o : Option Header) → get_or headers n None ≡ o → FitsNames (get_or headers n None) n (slice_index t.counts n)
        by None is = rw is tt
        by (Some hd) is =
            let same = count_is n low in
            let at = node_there n hd low is in
            subst (λ (o : Option Header). FitsNames o n (slice_index t.counts n)) (sym is) (
              λ one. (omega (arith, ap (names (tree_in m)) one ∙ reached.root)),
              λ other. (let some = reached.some n other (λ none. cc) in omega arith),
              λ other dir.
                  (omega (arith, reached.one n other (ap is_dir at ∙ dir_by n (as_header hd) hd.kind ∙ dir))),
            )

    -- ---- directories reached
    module _ (one : (n : ℕ) → n ≢ 1 → is_dir (node (tree_in m) n) ≡ true → names (tree_in m) n ≡ 1) where
      dir_low : (n : ℕ) → is_dir (node (tree_in m) n) ≡ true → n < 4096
      dir_low n dir = low_of n (header_in n (dir_there n dir)).1

      pub climbs_reached : {n : ℕ} → Climbs (slice_index t.up) n → is_dir (node (tree_in m) n) ≡ true → IsReachable (tree_in m) n
      climbs_reached way.root dir = root
      climbs_reached (way.more n rest) dir = ⊎_elim
          (λ (here : n ≡ 1). rw here root)
          (λ (other : n ≡ 1 → ⊥).
          let given = up_entry n (dir_low n dir) (omega (arith, one n other dir)) in
          below given.0 (climbs_reached rest (entry_dir (slice_index t.up n) given.0 given.1)) given.1) (cases_eq n 1)

      up_low : (n : ℕ) → n < 4096 → 0 < names (tree_in m) n → slice_index t.up n < 4096
      up_low n low some = let given = up_entry n low some in dir_low (slice_index t.up n) (entry_dir (slice_index t.up n) given.0 given.1)

      same_up : (n d : ℕ) (name : List ℕ) → n ≢ 1 → is_dir (node (tree_in m) n) ≡ true → entry_in (tree_in m) d name ≡ Some n
          → d ≡ slice_index t.up n
      same_up n d name other dir given = ⊎_elim
          (λ (same : d ≡ slice_index t.up n). same)
          (λ (apart : d ≡ slice_index t.up n → ⊥).
          let once = one n other dir in
          let second = up_names n (dir_low n dir) (omega arith) in
          let both = sum_both (λ (x : ℕ). giving (names_at m x) n) d 4096 (dir_low d (entry_dir d name given))
          (up_low n (dir_low n dir) (omega arith)) apart in
          let all = names_given m are n in
          absurd (omega (arith, entry_given d name n given)))
          (cases_eq d (slice_index t.up n))

      pub reached_climbs : {n : ℕ} → IsReachable (tree_in m) n → is_dir (node (tree_in m) n) ≡ true → Climbs (slice_index t.up) n
      reached_climbs root dir = way.root
      reached_climbs (below {d} {n} name from given) dir = ⊎_elim
          (λ (here : n ≡ 1). rw here way.root)
          (λ (other : n ≡ 1 → ⊥).
          way.more n (rw (← same_up n d name other dir given) (reached_climbs from (entry_dir d name given))))
          (cases_eq n 1)

    -- ---- the stage
    pub reached_if_fit : {h : entry.Header} → m.header 1 ≡ Some h → AreNamesFit headers t → AllClimb headers t.up → AreReached m
    reached_if_fit {h} at fit climb = record {
      some = named_some fit;
      root = named_root fit h at;
      one = named_one fit;
      down = λ n dir.
          let there = header_in n (dir_there n dir) in
          climbs_reached (named_one fit) (climb n ((are n there.0 there.1).number).0 (low_of n there.1)
          (leads_is n (low_of n there.1) ∙ dir)) dir;
    }

    pub fit_if_reached : AreReached m → AreNamesFit headers t × AllClimb headers t.up
    fit_if_reached reached =
        (names_fit reached, λ n some low on. (let dir = sym (leads_is n low) ∙ on in reached_climbs reached.one (reached.down n dir) dir))

    -- ---- links
    module _ (entries : AreSlots m) where
      -- a number that a name gives
      given_low : (d n : ℕ) → 0 < giving (names_at m d) n → n < 4096
      given_low d n some =
          let found = given_found (names_at m d) n (sorted_at d) some in
          low_of n (header_in n (entries.there d found.0 n (cc (names_in_is m are d)))).1

      -- what a kind makes of the links of an object, and of the test of them
      links_by : (n : ℕ) (hd : Header) → n < 4096 → get_or headers n None ≡ Some hd → {k : Kind} → hd.kind ≡ k
          → (links (tree_in m) n ≡ links_at (tree_in m) n (Some (node_by m k n (as_header hd))))
          × (cond (is_directory_kind hd.kind) (2 + slice_index t.below n) (slice_index t.counts n)
          ≡ cond {A = ℕ} (is_directory_kind k) (2 + slice_index t.below n) (slice_index t.counts n))
      links_by n hd low is e =
          (ap (links_at (tree_in m) n) (node_there n hd low is ∙ ap (λ (k : Kind). Some (node_by m k n (as_header hd))) e), cc)

      links_of : (n : ℕ) (hd : Header) → n < 4096 → get_or headers n None ≡ Some hd → hd.links ≤ 1000 → (k : Kind) → hd.kind ≡ k
          → (hd.links ≡ cond (is_directory_kind hd.kind) (2 + slice_index t.below n) (slice_index t.counts n)) ↔
          (hd.links ≡ links (tree_in m) n)
      links_of n hd low is few kind.File e =
          let same = count_is n low in
          let by = links_by n hd low is e in
          (λ l. omega arith, λ l. omega arith)
      links_of n hd low is few kind.Link e =
          let same = count_is n low in
          let by = links_by n hd low is e in
          (λ l. omega arith, λ l. omega arith)
      links_of n hd low is few kind.Directory e =
          let same = named.below n low in
          let counted = count_same (leads headers) (λ (v : ℕ). is_dir (node (tree_in m) v)) (names_at m n)
          (λ v some. leads_is v (given_low n v some)) in
          let moved = ap (λ (ms : Names). count_by (λ x. is_dir (node (tree_in m) x.1)) ms)
          (names_directory m are n (head_told m headers told n low is) e) in
          let by = links_by n hd low is e in
          (λ l. omega arith, λ l. omega arith)

      few_links : (n : ℕ) {hd : Header} → n < 4096 → get_or headers n None ≡ Some hd → hd.links ≤ 1000
      few_links n {hd} low is = (are n (as_header hd) (head_told m headers told n low is)).links.1

      pub links_if_fit : AreLinksFit headers t → AreLinks m
      links_if_fit fit n h at =
          let is = header_of n h at in
          let low = low_of n at in
          cc ((links_of n is.0 low is.1 (few_links n low is.1) is.0.kind refl).0 (rw is.1 at (fit n low)))

      pub fit_if_links : AreLinks m → AreLinksFit headers t
      fit_if_links all n low = by (get_or headers n None) refl
        where
          by : (o : Option Header) → get_or headers n None ≡ o
              → FitsLinks (get_or headers n None) (slice_index t.counts n) (slice_index t.below n)
          by None is = rw is tt
          by (Some hd) is =
              rw is ((links_of n hd low is (few_links n low is) hd.kind refl).1 (all n (as_header hd) (head_told m headers told n low is)))
