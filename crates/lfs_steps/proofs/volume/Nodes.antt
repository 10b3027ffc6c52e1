-- What a volume's log map says of the nodes of its tree: files that handles give, what stat tells, the ends of walks, and the need.
use Rattle.lfs_steps.proofs.Prelude.{◌≡◌, ◌≢◌, ◌≤◌, ◌+◌, ◌*◌, ◌/◌, ◌%◌, ℕ, zero, suc, Bool, true, false, List, [], length, Option, Some}
use Rattle.lfs_steps.proofs.Prelude.{None, refl, sym, ◌∙◌, ap, arith, subst, MatchOption, if◌then◌else◌, unwrap_or, nat_cmp, find, Kind}
use Rattle.lfs_steps.proofs.Prelude.{IsLogMap, need, AreLong, IsDirectory, IsHeaderOf, comps, slash, text_refusal, Refusal, Sound}
use Rattle.lfs_steps.proofs.Prelude.{IsWithinLimits, LogMap, stat_of, the_node, Node, File, State, Tree, is_dir, links, node}
use Rattle.lfs_steps.proofs.Prelude.{slot_len, map_of, node_by, node_of, object, slots, tree_in, IsLogOf, End, At, Refused, Resolve}
use Rattle.lfs_steps.proofs.Prelude.{object_length, slots_length, node_in, IsCounted, TotalsOfTree}
use Rattle.lfs_model.specs.declared.Kind.TheVariants as kind
use Rattle.lfs_model.specs.Call.{Room}
use Rattle.lfs_model.specs.Entry.{Header}
use Rattle.lfs_model.specs.Need.{data_blocks, meta_blocks}
use Rattle.lfs_model.specs.PathText.{from_root}
use Rattle.lfs_model.specs.Sound.{IsFile}
use Rattle.lfs_model.specs.Step.{kind_of, room, size_of}
use Rattle.lfs_model.specs.Walk.{Walk, no_piece, stays, goes_up, too_long, not_there, directory, file, not_dir, link, loops, followed}
use Rattle.lfs_model.specs.Walk.{start}
use Rattle.lfs_model.proofs.ObjectTrees.{no_header_no_node}
use Rattle.lfs_model.proofs.Parents.{up_dir}

-- The log map of a volume between two calls: it can be laid out, and its tree is the state's, any sound one.
pub record IsMapOf (N : ℕ) (m : LogMap) (s : State) : Type 0 where
  pub map : IsLogMap m
  pub long : (n : ℕ) → AreLong m n
  pub log : IsLogOf N m s

-- ---- nodes

-- a directory is a node
pub dir_there : (t : Tree) (n : ℕ) → is_dir (node t n) ≡ true → node t n ≢ None
dir_there t n dir none = let no : is_dir (node t n) ≡ false = ap is_dir none in cc

file_by : (m : LogMap) (k : Kind) (n : ℕ) (h : Header) (b : List ℕ) → node_by m k n h ≡ File b → (k ≡ kind.File) × (object m n h ≡ b)
file_by m kind.File n h b is = (refl, (let same : object m n h ≡ b = cc in same))
file_by m kind.Directory n h b is = absurd (cc)
file_by m kind.Link n h b is = absurd (cc)

-- File n has this header and these bytes.
pub record IsFileOf (m : LogMap) (t : Tree) (n : ℕ) : Type 0 where
  pub number : (1 ≤ n) × (n ≤ 4095)
  pub head : Header
  pub there : m.header n ≡ Some head
  pub kind : head.kind ≡ kind.File
  pub node : node t n ≡ Some (File (object m n head))
  pub bytes : the_node t n ≡ File (object m n head)
  pub small : head.size ≤ 8511488

module _ {N : ℕ} {m : LogMap} {s : State} (log : IsLogOf N m s) where
  -- what stands at a number
  pub node_is : (n : ℕ) → (1 ≤ n) × (n ≤ 4095) → node s.tree n ≡ node_of m n (m.header n)
  node_is n in_range = ap (λ (t : Tree). node t n) log.is ∙ node_in m n in_range.0 in_range.1

  pub node_by_header : (n : ℕ) {h : Header} → (1 ≤ n) × (n ≤ 4095) → m.header n ≡ Some h → node s.tree n ≡ Some (node_by m h.kind n h)
  node_by_header n in_range there = node_is n in_range ∙ ap (node_of m n) there

  pub the_node_by_header : (n : ℕ) {h : Header} → (1 ≤ n) × (n ≤ 4095) → m.header n ≡ Some h → the_node s.tree n ≡ node_by m h.kind n h
  the_node_by_header n {h} in_range there = ap (λ (o : Option Node). unwrap_or o (File [])) (node_by_header n in_range there)

  pub no_header_none : (n : ℕ) → m.header n ≡ None → node s.tree n ≡ None
  no_header_none n none = ap (λ (t : Tree). node t n) log.is ∙ no_header_no_node m n none

  -- a node has a number and a header
  pub number_of : (n : ℕ) {x : Node} → node s.tree n ≡ Some x → (1 ≤ n) × (n ≤ 4095)
  number_of n {x} is = log.sound.numbers n (λ none. absurd (let both : None ≡ Some x = sym none ∙ is in cc))

  pub header_of : (n : ℕ) {x : Node} → node s.tree n ≡ Some x → (h : Header) × (m.header n ≡ Some h) × (node_by m h.kind n h ≡ x)
  header_of n {x} is = by (m.header n) refl
    where
      by : (o : Option Header) → m.header n ≡ o → (h : Header) × (m.header n ≡ Some h) × (node_by m h.kind n h ≡ x)
      by None none = absurd (let both : None ≡ Some x = sym (no_header_none n none) ∙ is in cc)
      by (Some h) there =
          (h, there, (let both : Some (node_by m h.kind n h) ≡ Some x = sym (node_by_header n (number_of n is) there) ∙ is in cc))

  -- ---- files
  pub file_of : (n : ℕ) → IsFile (node s.tree n) → IsFileOf m s.tree n
  file_of n is =
      let found = header_of n is.1 in
      let parts = file_by m found.0.kind n found.0 is.0 found.2 in
      let limits : IsWithinLimits (File is.0) = log.sound.limits n (File is.0) is.1 in
      let size : length is.0 ≡ found.0.size = ap length (sym parts.1) ∙ object_length m n found.0 in
      let most = limits.0 in record {
        number = number_of n is.1;
        head = found.0;
        there = found.1;
        kind = parts.0;
        node = is.1 ∙ ap (λ (b : List ℕ). Some (File b)) (sym parts.1);
        bytes = ap (λ (o : Option Node). unwrap_or o (File [])) (is.1 ∙ ap (λ (b : List ℕ). Some (File b)) (sym parts.1));
        small = omega (arith, size, most);
      }

  -- the file that a handle gives
  pub opened_file : (h : ℕ) {n : ℕ} → find nat_cmp h s.handles ≡ Some n → IsFileOf m s.tree n
  opened_file h {n} is = file_of n (log.sound.handles h n is).1

  -- ---- stat
  module _ (n : ℕ) {h : Header} (there : m.header n ≡ Some h) (fits : IsHeaderOf n h) where
    kind_by : (k : Kind) → kind_of (node_by m k n h) ≡ k
    kind_by kind.File = refl
    kind_by kind.Directory = refl
    kind_by kind.Link = refl

    -- a directory's size is that of its slots, and each has a name
    size_of_slots : h.kind ≡ kind.Directory → slot_len h.form * length (map_of h.form (slots m n h)) ≡ h.size
    size_of_slots dir =
        ap (λ (k : ℕ). slot_len h.form * k) ((log.formed n h there dir).1 ∙ slots_length m n h) ∙ slots_whole h.form h.size (fits.slots dir)
      where
        slots_whole : (form size : ℕ) → size % slot_len form ≡ 0 → slot_len form * (size / slot_len form) ≡ size
        slots_whole zero size whole = omega arith
        slots_whole (suc form) size whole = omega arith

    size_by : (k : Kind) → h.kind ≡ k → size_of (node_by m k n h) ≡ h.size
    size_by kind.File is = object_length m n h
    size_by kind.Directory is = size_of_slots is
    size_by kind.Link is = object_length m n h

    pub stat_is : stat_of s.tree n ≡ record { number = n; kind = h.kind; links = h.links; size = h.size }
    stat_is = λ i. record { number = n; kind = kinds i; links = linked i; size = sizes i }
      where
        is : the_node s.tree n ≡ node_by m h.kind n h
        is = the_node_by_header n fits.number there

        kinds : kind_of (the_node s.tree n) ≡ h.kind
        kinds = ap kind_of is ∙ kind_by h.kind

        linked : links s.tree n ≡ h.links
        linked = ap (λ (t : Tree). links t n) log.is ∙ sym (log.links n h there)

        sizes : size_of (the_node s.tree n) ≡ h.size
        sizes = ap size_of is ∙ size_by h.kind refl

-- ---- the ends of walks

module _ {N : ℕ} (s : State) (sound : Sound N s) where
  -- what a walk comes to is there
  abbrev pub IsThere : End → Type 0
  IsThere (At n) = node s.tree n ≢ None
  IsThere (Refused r) = Unit {0}

  start_dir : (text : List ℕ) (d : ℕ) → is_dir (node s.tree d) ≡ true → is_dir (node s.tree (start text d)) ≡ true
  start_dir text d dir = elim (from_root text) as (λ b. is_dir (node s.tree (if b then 1 else d)) ≡ true)
      [ true ↦ sound.root | false ↦ dir ]

  some_there : (n : ℕ) {x : Node} → node s.tree n ≡ Some x → node s.tree n ≢ None
  some_there n {x} is none = let both : None ≡ Some x = sym none ∙ is in cc

  pub walk_there : {follow : Bool} {d : ℕ} {ps : List (List ℕ)} {slashed : Bool} {k : ℕ} {e : End} → Walk s.tree follow d ps slashed k e
      → is_dir (node s.tree d) ≡ true → IsThere e
  walk_there (no_piece {d = d}) dir = dir_there s.tree d dir
  walk_there (stays is w) dir = walk_there w dir
  walk_there (goes_up {d = d} is w) dir = walk_there w (up_dir s.tree sound.in_order sound.root d)
  walk_there (too_long long) dir = tt
  walk_there (not_there is none) dir = tt
  walk_there (directory g w) dir = walk_there w (ap is_dir g.is_node)
  walk_there (file {n = n} {b = b} g last) dir = some_there n g.is_node
  walk_there (not_dir g last) dir = tt
  walk_there (link {n = n} {text = text} g last) dir = some_there n g.is_node
  walk_there (loops g last full) dir = tt
  walk_there (followed {d = d} {text = text} g last room w) dir = walk_there w (start_dir text d dir)

  pub resolved_there : (p : List ℕ) (follow : Bool) (n : ℕ) → Resolve s.tree p follow (At n) → node s.tree n ≢ None
  resolved_there p follow n walk = by (text_refusal p) walk
    where
      by : (o : Option Refusal) → MatchOption o (Walk s.tree follow 1 (comps p) (slash p) 0 (At n)) (λ r. At n ≡ Refused r)
          → node s.tree n ≢ None
      by None w = walk_there w sound.root
      by (Some r) e = absurd (cc)

-- ---- the need

-- A log map whose blocks can be counted, whether there is room for its tree or not.
pub record IsShaped (m : LogMap) : Type 0 where
  pub map : IsLogMap m
  pub long : (n : ℕ) → AreLong m n
  pub directories : (n : ℕ) (h : Header) → m.header n ≡ Some h → h.kind ≡ kind.Directory → IsDirectory m n h

-- That of a volume is one, where its headers are those of inodes.
pub shaped_map : (N : ℕ) {m : LogMap} {s : State} → IsMapOf N m s → ((n : ℕ) (h : Header) → m.header n ≡ Some h → IsHeaderOf n h)
    → IsShaped m
shaped_map N is fits = record {
  map = is.map;
  long = is.long;
  directories = λ n h there dir.
      (let formed = is.log.formed n h there dir in record { whole = (fits n h there).slots dir; formed = formed.0; apart = formed.1 });
}

-- what its tree needs, by its totals
pub need_shaped : TotalsOfTree → {m : LogMap} → IsShaped m → {blocks others : ℕ} → IsCounted m blocks others
    → (need (tree_in m) ≡ blocks + 7 * others + 720) × (data_blocks (tree_in m) ≡ blocks) × (meta_blocks (tree_in m) ≡ others)
need_shaped totals {m} shaped {blocks} {others} counted =
    let both = totals m shaped.map shaped.long shaped.directories in
    let stored : data_blocks (tree_in m) ≡ blocks = both.0 ∙ sym counted.stored in
    let above : meta_blocks (tree_in m) ≡ others = both.1 ∙ sym counted.above in
    (omega (arith, stored, above), stored, above)

-- a state's tree has room for it
pub room_shaped : TotalsOfTree → (N : ℕ) {m : LogMap} {s : State} → IsMapOf N m s → IsShaped m
    → {blocks others : ℕ} → IsCounted m blocks others → blocks + 7 * others + 720 ≤ 47 * N
room_shaped totals N {m} is shaped {blocks} {others} counted =
    let needs = (need_shaped totals shaped counted).0 in
    subst (λ (x : ℕ). x ≤ 47 * N) (ap need is.log.is ∙ needs) is.log.sound.room

pub need_counted : TotalsOfTree → (N : ℕ) (m : LogMap) (s : State) → IsMapOf N m s
    → ((n : ℕ) (h : Header) → m.header n ≡ Some h → IsHeaderOf n h)
    → {blocks others : ℕ} → IsCounted m blocks others → (need s.tree ≡ blocks + 7 * others + 720) × (data_blocks s.tree ≡ blocks)
    × (meta_blocks s.tree ≡ others)
need_counted totals N m s is fits {blocks} {others} counted =
    let all = need_shaped totals (shaped_map N is fits) counted in
    (ap need is.log.is ∙ all.0, ap data_blocks is.log.is ∙ all.1, ap meta_blocks is.log.is ∙ all.2)

-- so what space tells
pub room_counted : TotalsOfTree → (N : ℕ) (m : LogMap) (s : State) → IsMapOf N m s
    → ((n : ℕ) (h : Header) → m.header n ≡ Some h → IsHeaderOf n h)
    → {blocks others : ℕ} → IsCounted m blocks others → room N s.tree ≡ Room blocks others (blocks + 7 * others + 720) (47 * N)
room_counted totals N m s is fits {blocks} {others} counted =
    let all = need_counted totals N m s is fits counted in
    λ i. Room (all.1 i) (all.2 i) (all.0 i) (47 * N)
