-- A file of a volume's log map with other bytes: the next log map is that of the state with the file so.
use Rattle.lfs_steps.proofs.Prelude.{◌≡◌, ◌≢◌, ◌<◌, ◌≤◌, ◌+◌, ◌*◌, ◌/◌, ◌%◌, ℕ, Bool, List, length, map, take, drop, Option, Some, None}
use Rattle.lfs_steps.proofs.Prelude.{refl, sym, ◌∙◌, ap, subst, ⊎_elim, arith, slice_index, T, count_by, AllByRecursion, range_with_len}
use Rattle.lfs_steps.proofs.Prelude.{fun_ext, cases_eq, nat_cmp_total, nat_cmp, is_sorted, IsLogMap, need, AreLong, IsChangedAt}
use Rattle.lfs_steps.proofs.Prelude.{IsDirectory, IsObject, slot_in, IsWithinLimits, LogMap, with_tree, Node, File, Dir, Link, State, Tree}
use Rattle.lfs_steps.proofs.Prelude.{is_dir, links, links_at, names, node, slot_len, with_node, map_of, object, tree_in, same_or_not, gives}
use Rattle.lfs_steps.proofs.Prelude.{same_objects, object_kept, total_put, weight, find_here, find_other}
use Rattle.lfs_model.specs.declared.Kind.TheVariants as kind
use Rattle.lfs_model.specs.Entry.{Header}
use Rattle.lfs_model.specs.Tree.{Names}
use Rattle.lfs_model.specs.TreeOf.{AreFormed, slots}
use Rattle.lfs_model.proofs.Writes.{written_sound}
use Rattle.lfs_steps.proofs.volume.Nodes.{IsMapOf, IsFileOf, IsShaped}

-- ---- what other objects keep

-- an object's slots are formed, and no two have one name
abbrev pub IsFormed : LogMap → ℕ → Header → Type 0
IsFormed m n h = AllByRecursion (λ b. slot_in h.form b ≢ None) (slots m n h) × (length (map_of h.form (slots m n h)) ≡ length (slots m n h))

module _ {m m' : LogMap} {n : ℕ} (changed : IsChangedAt m n m') where
  pub slots_same : (k : ℕ) (h : Header) → (k ≡ n → ⊥) → slots m' k h ≡ slots m k h
  unfolding slots
  slots_same k h ne = ap (λ (bytes : List ℕ).
      map (λ j. take (slot_len h.form) (drop (slot_len h.form * j) bytes)) (range_with_len 0 (h.size / slot_len h.form)))
      (same_objects m' m k k h h refl (λ p lt. ap (λ (b : List ℕ). slice_index b (p % 512)) (changed.blocks k (p / 512) ne)))

  pub formed_same : AreFormed m → (k : ℕ) (h : Header) → (k ≡ n → ⊥) → m'.header k ≡ Some h → h.kind ≡ kind.Directory → IsFormed m' k h
  formed_same formed k h ne there dir =
      subst (λ (l : List (List ℕ)). AllByRecursion (λ b. slot_in h.form b ≢ None) l × (length (map_of h.form l) ≡ length l))
      (sym (slots_same k h ne))
      (formed k h (sym (changed.headers k ne) ∙ there) dir)

  -- the blocks of each are long, where those of n are
  pub long_kept : ((k : ℕ) → AreLong m k) → AreLong m' n → (k : ℕ) → AreLong m' k
  long_kept long own k = ⊎_elim
      (λ (here : k ≡ n). subst (AreLong m') (sym here) own)
      (λ (ne : k ≡ n → ⊥). λ i has. ap length (changed.blocks k i ne)
      ∙ long k i (subst (λ (b : List ℕ). 0 < length b) (changed.blocks k i ne) has))
      (cases_eq k n)

  -- With one object another, a log map can be counted still.
  pub shape_kept : IsShaped m → IsLogMap m' → AreLong m' n
      → ((h : Header) → m'.header n ≡ Some h → h.kind ≡ kind.Directory → IsDirectory m' n h) → IsShaped m'
  shape_kept shaped map own directory = record {
    map = map;
    long = long_kept shaped.long own;
    directories = λ k h there dir. ⊎_elim
        (λ (here : k ≡ n). subst (λ (q : ℕ). IsDirectory m' q h) (sym here) (directory h (ap m'.header (sym here) ∙ there) dir))
        (λ (ne : k ≡ n → ⊥).
        let was = shaped.directories k h (sym (changed.headers k ne) ∙ there) dir in
        let now = formed_same (λ q g at is_dir. let d = shaped.directories q g at is_dir in (d.formed, d.apart)) k h ne there dir in
        record { whole = was.whole; formed = now.0; apart = now.1 })
        (cases_eq k n);
  }

-- ---- the links of a tree in which a file has other bytes

module _ (t : Tree) (n : ℕ) {old : List ℕ} (new : List ℕ) (in_order : T (is_sorted nat_cmp t)) (is : node t n ≡ Some (File old)) where
  abbrev t' : Tree
  t' = with_node t n (File new)

  -- a word that doesn't see a file's bytes
  unseen : {A : Type 0} (f : Option Node → A) → f (Some (File new)) ≡ f (Some (File old)) → (q : ℕ) → f (node t' q) ≡ f (node t q)
  unseen f same q = same_or_not q n
      (λ e. subst (λ x. f (node t' x) ≡ f (node t x)) (sym e) (ap f (find_here t n (File new)) ∙ same ∙ sym (ap f is)))
      (λ ne. ap f (find_other t n (File new) q ne))

  same_names : (q : ℕ) → names t' q ≡ names t q
  same_names q =
      let all = total_put nat_cmp_total (gives q) n (File new) t in_order in
      let was : weight nat_cmp_total (gives q) (node t n) ≡ 0 = ap (weight nat_cmp_total (gives q)) is in
      omega (arith, all, was)

  subdirs : (ms : Names) → count_by (λ x. is_dir (node t' x.1)) ms ≡ count_by (λ x. is_dir (node t x.1)) ms
  subdirs ms =
      let f : (λ (q : ℕ). is_dir (node t' q)) ≡ (λ (q : ℕ). is_dir (node t q)) = fun_ext (unseen is_dir refl) in
      ap (λ (f : ℕ → Bool). count_by (λ (x : List ℕ × ℕ). f x.1) ms) f

  pub rewritten_links : (q : ℕ) → links t' q ≡ links t q
  rewritten_links q = unseen (links_at t' q) refl q ∙ by (node t q)
    where
      by : (o : Option Node) → links_at t' q o ≡ links_at t q o
      by None = same_names q
      by (Some (File b)) = same_names q
      by (Some (Link text)) = same_names q
      by (Some (Dir f ms)) = ap (λ c. 2 + c) (subdirs ms)

-- ---- the next log map

-- A file is not a directory.
pub not_directory : (m : LogMap) (n : ℕ) {h : Header} → m.header n ≡ Some h → h.kind ≡ kind.File → (g : Header) → m.header n ≡ Some g
    → g.kind ≡ kind.Directory → ⊥
not_directory m n {h} there file g at dir =
    let same : h ≡ g = (let both : Some h ≡ Some g = sym there ∙ at in cc) in
    let both : kind.File ≡ kind.Directory = sym file ∙ ap (λ (x : Header). x.kind) same ∙ dir in cc

module _ (N : ℕ) (m m' : LogMap) (s : State) (is : IsMapOf N m s) (n : ℕ) (file : IsFileOf m s.tree n) {h' : Header}
    (changed : IsChangedAt m n m')
    (there : m'.header n ≡ Some h') (is_file : h'.kind ≡ kind.File) (links_same : h'.links ≡ file.head.links) (fits : IsObject m' n h')
    (new : List ℕ) (tree : tree_in m' ≡ with_node s.tree n (File new)) (good : IsWithinLimits (File new))
    (room : need (with_node s.tree n (File new)) ≤ 47 * N) where
  abbrev next : State
  next = with_tree s (with_node s.tree n (File new))

  same_links : (q : ℕ) → links (tree_in m') q ≡ links (tree_in m) q
  same_links q = ap (λ (t : Tree). links t q) tree ∙ rewritten_links s.tree n new is.log.sound.in_order file.node q
      ∙ ap (λ (t : Tree). links t q) is.log.is

  links_kept : (k : ℕ) (h : Header) → m'.header k ≡ Some h → h.links ≡ links (tree_in m') k
  links_kept k h at = ⊎_elim
      (λ (here : k ≡ n).
      let same : h' ≡ h = (let both : Some h' ≡ Some h = sym there ∙ sym (ap m'.header here) ∙ at in cc) in
      sym (ap (λ (x : Header). x.links) same) ∙ links_same ∙ is.log.links n file.head file.there ∙ sym (ap (links (tree_in m)) here)
      ∙ sym (same_links k))
      (λ (ne : k ≡ n → ⊥). is.log.links k h (sym (changed.headers k ne) ∙ at) ∙ sym (same_links k))
      (cases_eq k n)

  pub changed_map : IsMapOf N m' next
  changed_map = record {
    map = object_kept m m' n h' is.map changed there fits;
    long = long_kept changed is.long fits.whole.long;
    log = record {
      sound = written_sound N s n (object m n file.head) new is.log.sound file.node good room;
      is = sym tree;
      version = is.log.version ∙ sym changed.version;
      formed = λ k h at dir. ⊎_elim
          (λ (here : k ≡ n). absurd (not_directory m' n there is_file h (sym (ap m'.header here) ∙ at) dir))
          (λ (ne : k ≡ n → ⊥). formed_same changed is.log.formed k h ne at dir) (cases_eq k n);
      links = links_kept;
    };
  }
