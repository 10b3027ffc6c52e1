-- What the log map of a volume keeps through each step of a draft, whatever state it is of, and
-- what becomes of links.
use Rattle.lfs_steps.proofs.Prelude.{◌≡◌, ◌≢◌, ◌⊎◌, inl, inr, ◌<◌, ◌≤◌, ◌+◌, ◌*◌, ◌/◌, ◌%◌, ℕ, Bool, true, false, List, length, map, take}
use Rattle.lfs_steps.proofs.Prelude.{drop, slice_index, Some, None, refl, sym, ◌∙◌, ap, subst, cond, ⊎_elim, arith, ◌==◌, AllByRecursion}
use Rattle.lfs_steps.proofs.Prelude.{range_with_len, cases_eq, eq-eqb, nat_cmp, Kind, IsForm, IsWithHeader, IsWithoutFile, AreLong}
use Rattle.lfs_steps.proofs.Prelude.{IsChangedAt, IsDirectory, IsObject, slot_in, LogMap, byte_cmp, slot_len, with_name, without}
use Rattle.lfs_steps.proofs.Prelude.{without_name, State, Tree, links, map_of, tree_in, same_objects, write_ends, object_fits, object_kept}
use Rattle.lfs_steps.proofs.Prelude.{with_header_at, without_file_at, WritesFile, as_header, names_at, CutsSlot, shrunk, Sound}
use Rattle.std.specs.FinMap.{put}
use Rattle.lfs_model.specs.declared.Kind.TheVariants as kind
use Rattle.lfs_model.specs.Entry as entry
use Rattle.lfs_model.specs.TreeOf.{slots}
use Rattle.lfs_model.proofs.ObjectMaps.{object_lost}
use Rattle.lfs_model.proofs.ObjectTrees.{links_apart, object_taken}
use Rattle.lfs_files.specs.declared.header.Header.{Header}
use Rattle.lfs_path.specs.dirs.Taking.{TakesName}
use Rattle.lfs_path.proofs.of_dirs.InTrees.{name_in_tree, name_off_tree}
use Rattle.lfs_path.proofs.of_dirs.Takings.{cut_kept}
use Rattle.lfs_steps.proofs.volume.FileBytes.{shape_kept}
use Rattle.lfs_steps.proofs.volume.Nodes.{IsShaped, IsMapOf}
use Rattle.lfs_steps.proofs.volume.MovedNames.{never, only_at}
use Rattle.lfs_steps.proofs.volume.Slots.{slot_some}

-- Each object that is there was there, and its links are others by what goes and what comes.
abbrev pub Shifts : LogMap → LogMap → (ℕ → ℕ) → (ℕ → ℕ) → Type 0
Shifts m m' less more = (k : ℕ) (g' : entry.Header) → m'.header k ≡ Some g'
    → (g : entry.Header) × (m.header k ≡ Some g) × (g'.links + less k ≡ g.links + more k)

abbrev pub none_at : ℕ → ℕ
none_at k = 0

pub shifts_joined : (m mid m' : LogMap) (less more less' more' : ℕ → ℕ) → Shifts m mid less more
    → Shifts mid m' less' more' → Shifts m m' (λ k. less k + less' k) (λ k. more k + more' k)
shifts_joined m mid m' less more less' more' first next k g' at =
    let one = next k g' at in
    let two = first k one.0 one.1 in
    let e = one.2 in
    let f = two.2 in
    (two.0, two.1, omega (arith, e, f))

-- a log map with the tree and the links of a state
pub map_by : {N : ℕ} {m : LogMap} {s : State} → IsShaped m → Sound N s → s.version ≡ m.version → tree_in m ≡ s.tree
    → ((k : ℕ) (g : entry.Header) → m.header k ≡ Some g → g.links ≡ links s.tree k) → IsMapOf N m s
map_by shaped sound version tree links_are = record {
  map = shaped.map;
  long = shaped.long;
  log = record {
    sound = sound;
    is = sym tree;
    version = version;
    formed = λ k g at dir. (let d = shaped.directories k g at dir in (d.formed, d.apart));
    links = λ k g at. links_are k g at ∙ ap (λ (t : Tree). links t k) (sym tree);
  };
}

here_at : (d x : ℕ) → only_at d x d ≡ x
here_at d x = ap (λ (b : Bool). cond {A = ℕ} b x 0) (eq-eqb d d refl)

off_at : (d x q : ℕ) → d ≢ q → only_at d x q ≡ 0
off_at d x q ne = ⊎_elim
    (λ (yes_is : (d == q) ≡ true). absurd
    (let one = never d q ne in let two : cond {A = ℕ} (d == q) 1 0 ≡ 1 =
    ap (λ (b : Bool). cond {A = ℕ} b 1 0) yes_is in omega (arith, one, two)))
    (λ (no_is : (d == q) ≡ false). ap (λ (b : Bool). cond {A = ℕ} b x 0) no_is)
    (by (d == q))
  where
    by : (b : Bool) → (b ≡ true) ⊎ (b ≡ false)
    by true = inl refl
    by false = inr refl

-- one object with another header
pub shifts_at : (m : LogMap) {m' : LogMap} (d : ℕ) {h h' : entry.Header} (x y : ℕ) → IsChangedAt m d m'
    → m.header d ≡ Some h → m'.header d ≡ Some h' → h'.links + x ≡ h.links + y
    → Shifts m m' (only_at d x) (only_at d y)
shifts_at m {m'} d {h} {h'} x y changed there now links k g' at = ⊎_elim
    (λ (here : k ≡ d).
    let same : h' ≡ g' = (let both : Some h' ≡ Some g' = sym now ∙ ap m'.header (sym here)
    ∙ at in cc) in
    let own = ap (λ (h : entry.Header). h.links) same in
    let less : only_at d x k ≡ x = ap (only_at d x) here ∙ here_at d x in
    let more : only_at d y k ≡ y = ap (only_at d y) here ∙ here_at d y in
    (h, ap m.header here ∙ there, omega (arith, links, own, less, more)))
    (λ (ne : k ≡ d → ⊥).
    let less = off_at d x k (λ e. ne (sym e)) in
    let more = off_at d y k (λ e. ne (sym e)) in
    (g', sym (changed.headers k ne) ∙ at, omega (arith, less, more)))
    (cases_eq k d)

-- one that is there no more
pub shifts_gone : {m : LogMap} (m' : LogMap) (d x : ℕ) → IsWithoutFile m d m' → Shifts m m' (only_at d x) none_at
shifts_gone m' d x gone k g' at = ⊎_elim
    (λ (here : k ≡ d). absurd (let both : None ≡ Some g' = sym gone.header
    ∙ ap m'.header (sym here) ∙ at in cc))
    (λ (ne : k ≡ d → ⊥). let less = off_at d x k (λ e. ne (sym e)) in
    (g', sym (gone.headers k ne) ∙ at, omega (arith, less)))
    (cases_eq k d)

-- ---- another count of links

module _ (m m' : LogMap) (k : ℕ) (h : entry.Header) (l : ℕ) (kept : IsShaped m)
    (there : m.header k ≡ Some h) (small : h.size ≤ 8511488)
    (made : IsWithHeader m k (Some (record h { links = l })) m') where
  changed : IsChangedAt m k m'
  changed = with_header_at m m' k made

  was : IsObject m k h
  was = object_fits m k h kept.map (kept.long k) there small

  now_long : AreLong m' k
  now_long i has = ap length (made.block k i)
      ∙ kept.long k i (subst (λ (b : List ℕ). 0 < length b) (made.block k i) has)

  fits : IsObject m' k (record h { links = l })
  fits = record {
    number = was.number;
    root = was.root;
    form = subst (λ (v : ℕ). IsForm v h.kind h.form) (sym made.version) was.form;
    size = small;
    whole = record {
      long = now_long;
      nonzero = λ i has.
          let one = was.whole.nonzero i (subst (λ (b : List ℕ). 0 < length b) (made.block k i) has)
          in
          (one.0, subst (λ (b : List ℕ). 0 < slice_index b one.0) (sym (made.block k i)) one.1);
    };
    ends = λ p le. ap (λ (b : List ℕ). slice_index b (p % 512)) (made.block k (p / 512))
        ∙ was.ends p le;
  }

  same_slots : slots m' k (record h { links = l }) ≡ slots m k h
  unfolding slots
  same_slots = ap (λ (bytes : List ℕ). map
      (λ j. take (slot_len h.form) (drop (slot_len h.form * j) bytes))
      (range_with_len 0 (h.size / slot_len h.form)))
      (same_objects m' m k k (record h { links = l })
      h refl (λ p lt. ap (λ (b : List ℕ). slice_index b (p % 512)) (made.block k (p / 512))))

  directory_now : (g : entry.Header) → m'.header k ≡ Some g → g.kind ≡ kind.Directory
      → IsDirectory m' k g
  directory_now g at dir =
      let same : record h { links = l } ≡ g =
      (let both : Some (record h { links = l }) ≡ Some g = sym made.own ∙ at in cc) in
      let is_dir : h.kind ≡ kind.Directory = ap (λ (x : entry.Header). x.kind) same ∙ dir in
      let was_dir = kept.directories k h there is_dir in
      subst (IsDirectory m' k) same record {
        whole = was_dir.whole;
        formed = subst (AllByRecursion (λ b. slot_in h.form b ≢ None)) (sym same_slots)
            was_dir.formed;
        apart = ap (λ (ls : List (List ℕ)). length (map_of h.form ls)) same_slots ∙ was_dir.apart
            ∙ sym (ap length same_slots);
      }

  pub relinked_kept : IsShaped m'
  relinked_kept = shape_kept changed kept (object_kept m m' k (record h { links = l }) kept.map changed made.own fits)
      now_long directory_now

  pub relinked_tree : tree_in m' ≡ tree_in m
  relinked_tree = links_apart m m' k h (record h { links = l }) made there refl refl refl

  pub relinked_shifts : (x y : ℕ) → l + x ≡ h.links + y → Shifts m m' (only_at k x) (only_at k y)
  relinked_shifts x y links = shifts_at m k x y changed there made.own links

-- ---- an object gone

module _ (m : LogMap) {m' : LogMap} {k : ℕ} (kept : IsShaped m) (gone : IsWithoutFile m k m') (not_root : k ≢ 1) where
  changed_gone : IsChangedAt m k m'
  changed_gone = without_file_at m m' k gone

  no_blocks : AreLong m' k
  no_blocks i has = let none = ap length (gone.block i) in absurd (omega (arith, none, has))

  pub gone_kept : IsShaped m'
  gone_kept = shape_kept changed_gone kept (object_lost m m' k kept.map changed_gone gone.header gone.block not_root) no_blocks
      (λ g at dir. absurd (let both : None ≡ Some g = sym gone.header ∙ at in cc))

  pub gone_tree : tree_in m' ≡ without nat_cmp k (tree_in m)
  gone_tree = object_taken m m' k changed_gone gone.header

-- ---- a directory

-- Directory d has this header.
pub record HasHolder (m : LogMap) (d : ℕ) (head : Header) : Type 0 where
  pub number : (1 ≤ d) × (d ≤ 4095)
  pub there : m.header d ≡ Some (as_header head)
  pub kind : head.kind ≡ kind.Directory
  pub few : head.size ≤ 1024 * slot_len head.form

pub holder_directory : {m : LogMap} {d : ℕ} {head : Header} → IsShaped m → HasHolder m d head → IsDirectory m d (as_header head)
holder_directory {d} {head} kept has = kept.directories d (as_header head) has.there has.kind

-- one whose slots are others
directory_with : (m' : LogMap) (d : ℕ) {h : entry.Header} → m'.header d ≡ Some h
    → IsDirectory m' d h → (g : entry.Header) → m'.header d ≡ Some g → g.kind ≡ kind.Directory
    → IsDirectory m' d g
directory_with m' d {h} now directory g at dir = subst (IsDirectory m' d) (let both : Some h ≡ Some g = sym now ∙ at in cc) directory

-- ---- a name taken out of it

module _ {m m' : LogMap} {d : ℕ} {head : Header} {nm : List ℕ} (kept : IsShaped m)
    (has : HasHolder m d head) (cut : CutsSlot m m' d head) (takes : TakesName m m' d head nm)
  where
    was_object : IsObject m d (as_header head)
    was_object = object_fits m d (as_header head) kept.map (kept.long d)
        has.there (let few = has.few in let most = (slot_some head.form).1 in omega (arith, few, most))

    pub taken_kept : IsShaped m'
    taken_kept = shape_kept cut.only kept (cut_kept has.few
        record { map = kept.map; there = has.there } (kept.long d) cut)
        (cut.whole was_object.whole).long (directory_with m' d cut.header takes.directory)

    pub taken_tree : tree_in m' ≡ without_name (tree_in m) d nm
    taken_tree = name_off_tree m m' d head (shrunk head) nm
        record {
          only = cut.only;
          before = record { number = has.number; header = has.there; kind = has.kind };
          after = record { number = has.number; header = cut.header; kind = has.kind };
          form = refl;
        }
        takes.names

    pub taken_shifts : Shifts m m' (only_at d 0) (only_at d 0)
    taken_shifts = shifts_at m d 0 0 cut.only has.there cut.header refl

-- ---- a name written into it

module _ {m m' : LogMap} {d : ℕ} (n : ℕ) {head head' : Header} {at : ℕ} {w : List ℕ} (nm : List ℕ)
    (kept : IsShaped m) (has : HasHolder m d head) (is_dir : head'.kind ≡ kind.Directory)
    (form : head'.form ≡ head.form) (links : head'.links ≡ head.links) (small : head'.size ≤ 8511488)
    (writes : WritesFile m m' d head head' at w) (directory : IsDirectory m' d (as_header head'))
    (names : names_at m' d head' ≡ put byte_cmp nm n (names_at m d head)) where
  holder_object : IsObject m d (as_header head)
  holder_object = object_fits m d (as_header head) kept.map (kept.long d)
      has.there (let few = has.few in let most = (slot_some head.form).1 in omega (arith, few, most))

  written_object : IsObject m' d (as_header head')
  written_object = record {
    number = has.number.0;
    root = λ e. is_dir;
    form = subst (λ (v : ℕ). IsForm v head'.kind head'.form) (sym writes.only.version)
        (subst (λ (f : ℕ). IsForm m.version head'.kind f) (sym form)
        (subst (λ (k : Kind). IsForm m.version k head.form) (has.kind ∙ sym is_dir) holder_object.form));
    size = small;
    whole = writes.whole holder_object.whole;
    ends = write_ends m m' d (as_header head) (as_header head')
        kept.map has.there at w writes.bytes;
  }

  pub written_kept : IsShaped m'
  written_kept = shape_kept writes.only kept (object_kept m m' d (as_header head') kept.map writes.only writes.header written_object)
      written_object.whole.long (directory_with m' d writes.header directory)

  pub written_tree : tree_in m' ≡ with_name (tree_in m) d nm n
  written_tree = name_in_tree m m' d head head' nm n
      record {
        only = writes.only;
        before = record { number = has.number; header = has.there; kind = has.kind };
        after = record { number = has.number; header = writes.header; kind = is_dir };
        form = form;
      }
      names

  pub written_shifts : Shifts m m' (only_at d 0) (only_at d 0)
  written_shifts = shifts_at m d 0 0 writes.only has.there writes.header (omega (arith, links))
