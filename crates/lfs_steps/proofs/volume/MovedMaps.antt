-- A name moved from one directory to another, from log map to log map: a draft changes the links
-- of both directories, takes
-- the name out of the first, and writes it into the second. The two may be one directory.
use Rattle.lfs_steps.proofs.Prelude.{◌≡◌, ◌≢◌, ◌⊎◌, ◌≤◌, ◌+◌, ℕ, List, [], Option, Some, None, refl, sym, ◌∙◌, ap, subst, ⊎_elim, arith}
use Rattle.lfs_steps.proofs.Prelude.{Bool, true, false, cond, eqb, ◌==◌, unwrap_or, find, eqb_tells, IsWithHeader, IsDirectory, LogMap}
use Rattle.lfs_steps.proofs.Prelude.{File, Node, Tree, byte_cmp, names_of, node, with_name, without_name, tree_in, WritesFile, as_header}
use Rattle.lfs_steps.proofs.Prelude.{AddsName, grown, names_at, CutsSlot, shrunk, relinked}
use Rattle.std.specs.FinMap.{put}
use Rattle.lfs_model.specs.declared.Kind.TheVariants as kind
use Rattle.lfs_model.specs.Tree.{entry as entry_in}
use Rattle.lfs_files.specs.declared.header.Header.{Header}
use Rattle.lfs_files.specs.Files.{HasFile}
use Rattle.lfs_path.specs.dirs.Repointing.{RepointsName}
use Rattle.lfs_path.specs.dirs.Taking.{TakesName}
use Rattle.lfs_path.proofs.of_dirs.InTrees.{directory_node}
use Rattle.lfs_steps.proofs.volume.Nodes.{IsShaped}
use Rattle.lfs_steps.proofs.volume.KeptMaps.{HasHolder, Shifts, holder_directory, relinked_kept, relinked_shifts, relinked_tree}
use Rattle.lfs_steps.proofs.volume.KeptMaps.{shifts_joined}
use Rattle.lfs_steps.proofs.volume.KeptMaps.{taken_kept, taken_shifts, taken_tree, written_kept, written_shifts, written_tree}
use Rattle.lfs_steps.proofs.volume.MovedNames.{nothing_at, only_at}
use Rattle.lfs_steps.proofs.volume.Slots.{slot_some}

-- ---- what the steps draft

-- Directory d has so many links, in the same log map where it had them.
abbrev pub Relinks : LogMap → LogMap → ℕ → Header → ℕ → Type 0
Relinks m m' d head l = ((l ≡ head.links) × (m' ≡ m))
    ⊎ IsWithHeader m d (Some (as_header (relinked head l))) m'

-- The links of directories da and db are counted anew, first the one's and then the other's. One
-- directory's are once.
-- Then the name goes from da: what is said of that, is said where it is a directory.
pub record DraftsMove (m1 m2 m3 m4 : LogMap) (da db : ℕ) (a b : Header) (la lb : ℕ) (na : List ℕ)
    : Type 0 where
  pub first : Relinks m1 m2 da a la
  pub second : ((da ≢ db) × Relinks m2 m3 db b lb) ⊎ ((da ≡ db) × (m3 ≡ m2))
  pub cut : HasFile m3 da (relinked a la) → CutsSlot m3 m4 da (relinked a la)
  pub takes : HasFile m3 da (relinked a la) → IsDirectory m3 da (as_header (relinked a la))
      → TakesName m3 m4 da (relinked a la) na

-- the header of db then, where one directory is a slot shorter
abbrev pub second_after : ℕ → ℕ → Header → Header → ℕ → ℕ → Header
second_after da db a b la lb = cond (da == db) (shrunk (relinked a la)) (relinked b lb)

-- A name that directory db doesn't have gives n.
pub record DraftsName (m4 m5 : LogMap) (db n : ℕ) (b : Header) (nb : List ℕ) : Type 0 where
  pub at : ℕ
  pub slot : List ℕ
  pub writes : WritesFile m4 m5 db b (grown b) at slot
  pub adds : IsDirectory m4 db (as_header b) → find byte_cmp nb (names_at m4 db b) ≡ None
      → AddsName m4 m5 db b n nb

-- One that it has gives n.
pub record DraftsOver (m4 m5 : LogMap) (db n : ℕ) (b : Header) (nb : List ℕ) : Type 0 where
  pub at : ℕ
  pub slot : List ℕ
  pub writes : WritesFile m4 m5 db b b at slot
  pub repoints : IsDirectory m4 db (as_header b) → RepointsName m4 m5 db b n nb

-- The name gives n, whether it did before or not.
pub record IsNamed (m4 m5 : LogMap) (db n : ℕ) (b : Header) (nb : List ℕ) : Type 0 where
  pub after : Header
  pub at : ℕ
  pub slot : List ℕ
  pub kind : after.kind ≡ kind.Directory
  pub form : after.form ≡ b.form
  pub links : after.links ≡ b.links
  pub small : after.size ≤ 8511488
  pub writes : WritesFile m4 m5 db b after at slot
  pub directory : IsDirectory m5 db (as_header after)
  pub names : names_at m5 db after ≡ put byte_cmp nb n (names_at m4 db b)

-- ---- what comes of them

shifts_as : (m m' : LogMap) (less more less' more' : ℕ → ℕ)
    → ((k : ℕ) → less k + more' k ≡ less' k + more k) → Shifts m m' less more
    → Shifts m m' less' more'
shifts_as m m' less more less' more' same shifts k g' at =
    let one = shifts k g' at in
    let e = one.2 in
    let f = same k in
    (one.0, one.1, omega (arith, e, f))

-- one directory's links
module _ (m m' : LogMap) (d : ℕ) (head : Header) (l : ℕ) (kept : IsShaped m)
    (has : HasHolder m d head) (relinks : Relinks m m' d head l) where
  pub made : IsWithHeader m d (Some (as_header (relinked head l))) m'
  made = ⊎_elim
      (λ (same : (l ≡ head.links) × (m' ≡ m)). subst
      (λ (x : LogMap). IsWithHeader m d (Some (as_header (relinked head l))) x) (sym same.1)
      record {
        own = has.there ∙ ap (λ (l : ℕ). Some (as_header (relinked head l))) (sym same.0);
        others = λ k ne. refl;
        block = λ k i. refl;
        version = refl;
      })
      (λ (made : IsWithHeader m d (Some (as_header (relinked head l))) m'). made)
      relinks

  small : head.size ≤ 8511488
  small = let few = has.few in let most = (slot_some head.form).1 in omega (arith, few, most)

  pub linked_kept : IsShaped m'
  linked_kept = relinked_kept m m' d (as_header head) l kept has.there small made

  pub linked_tree : tree_in m' ≡ tree_in m
  linked_tree = relinked_tree m m' d (as_header head) l kept has.there small made

  pub linked_shifts : (x y : ℕ) → l + x ≡ head.links + y → Shifts m m' (only_at d x) (only_at d y)
  linked_shifts x y links = relinked_shifts m m' d (as_header head)
      l kept has.there small made x y links

  pub linked_holder : HasHolder m' d (relinked head l)
  linked_holder = record { number = has.number; there = made.own; kind = has.kind; few = has.few }

  pub other_holder : (q : ℕ) (other : Header) → q ≢ d → HasHolder m q other → HasHolder m' q other
  other_holder q other ne is = record
      { number = is.number; there = made.others q ne ∙ is.there; kind = is.kind; few = is.few }

-- Both directories have their headers in the first log map, and the steps are drafted over it.
pub record IsMoving (m1 m2 m3 m4 : LogMap) (da db : ℕ) (a b : Header) (la lb : ℕ) (na : List ℕ)
    : Type 0 where
  pub kept : IsShaped m1
  pub has_a : HasHolder m1 da a
  pub has_b : HasHolder m1 db b
  pub drafts : DraftsMove m1 m2 m3 m4 da db a b la lb na

module _ {m1 m2 m3 m4 : LogMap} {da db : ℕ} {a b : Header} {la lb : ℕ} {na : List ℕ}
    (moving : IsMoving m1 m2 m3 m4 da db a b la lb na) where
  open moving use {kept, has_a, has_b, drafts}

  pub kept_2 : IsShaped m2
  kept_2 = linked_kept m1 m2 da a la kept has_a drafts.first

  pub tree_2 : tree_in m2 ≡ tree_in m1
  tree_2 = linked_tree m1 m2 da a la kept has_a drafts.first

  pub a_2 : HasHolder m2 da (relinked a la)
  a_2 = linked_holder m1 m2 da a la kept has_a drafts.first

  pub b_2 : da ≢ db → HasHolder m2 db b
  b_2 ne = other_holder m1 m2 da a la kept has_a drafts.first db b (λ e. ne (sym e)) has_b

  -- the other directory, where it is another
  pub relinked_maps : IsShaped m3 × (tree_in m3 ≡ tree_in m1) × HasHolder m3 da (relinked a la)
      × (da ≢ db → HasHolder m3 db (relinked b lb))
  relinked_maps = ⊎_elim
      (λ (apart : (da ≢ db) × Relinks m2 m3 db b lb). (
        linked_kept m2 m3 db b lb kept_2 (b_2 apart.0) apart.1,
        linked_tree m2 m3 db b lb kept_2 (b_2 apart.0) apart.1 ∙ tree_2,
        other_holder m2 m3 db b lb kept_2 (b_2 apart.0) apart.1 da (relinked a la) apart.0 a_2,
        λ ne. linked_holder m2 m3 db b lb kept_2 (b_2 apart.0) apart.1,
      ))
      (λ (one : (da ≡ db) × (m3 ≡ m2)). (
        subst IsShaped (sym one.1) kept_2,
        ap tree_in one.1 ∙ tree_2,
        subst (λ (x : LogMap). HasHolder x da (relinked a la)) (sym one.1) a_2,
        λ ne. absurd (ne one.0),
      ))
      drafts.second

  relinked_version : m3.version ≡ m1.version
  relinked_version =
      let first = (made m1 m2 da a la kept has_a drafts.first).version in
      ⊎_elim
      (λ (apart : (da ≢ db) × Relinks m2 m3 db b lb).
      (made m2 m3 db b lb kept_2 (b_2 apart.0) apart.1).version ∙ first)
      (λ (one : (da ≡ db) × (m3 ≡ m2)). ap (λ (x : LogMap). x.version) one.1 ∙ first)
      drafts.second

  pub linked_shifts_3 : (x y : ℕ) → la + x ≡ a.links → (da ≢ db → lb ≡ b.links + y)
      → (da ≡ db → y ≡ 0) → Shifts m1 m3 (only_at da x) (only_at db y)
  linked_shifts_3 x y less more none =
      let first = linked_shifts m1 m2 da a la kept has_a drafts.first x 0 (omega (arith, less)) in
      ⊎_elim
      (λ (apart : (da ≢ db) × Relinks m2 m3 db b lb).
      let grows = more apart.0 in
      let next = linked_shifts m2 m3 db b lb kept_2 (b_2 apart.0)
      apart.1 0 y (omega (arith, grows)) in
      shifts_as m1 m3 (λ k. only_at da x k + only_at db 0 k) (λ k. only_at da 0 k + only_at db y k)
      (only_at da x) (only_at db y)
      (λ k. let one = nothing_at db k in let two = nothing_at da k in omega (arith, one, two))
      (shifts_joined m1 m2 m3 (only_at da x) (only_at da 0) (only_at db 0) (only_at db y)
      first next))
      (λ (one : (da ≡ db) × (m3 ≡ m2)).
      let zero_is = none one.0 in
      shifts_as m1 m3 (only_at da x) (only_at da 0) (only_at da x) (only_at db y)
      (λ k. let one = nothing_at da k in let two : only_at db y k ≡ 0 =
      ap (λ (y : ℕ). only_at db y k) zero_is ∙ nothing_at db k in omega (arith, one, two))
      (subst (λ (m : LogMap). Shifts m1 m (only_at da x) (only_at da 0)) (sym one.1) first))
      drafts.second

  pub a_3 : HasHolder m3 da (relinked a la)
  a_3 = relinked_maps.2

  pub linked_file : HasFile m3 da (relinked a la)
  linked_file = record { map = relinked_maps.0.map; there = a_3.there }

  pub linked_directory : IsDirectory m3 da (as_header (relinked a la))
  linked_directory = holder_directory relinked_maps.0 a_3

  pub cut : CutsSlot m3 m4 da (relinked a la)
  cut = drafts.cut linked_file

  pub takes : TakesName m3 m4 da (relinked a la) na
  takes = drafts.takes linked_file linked_directory

  pub moved_kept : IsShaped m4
  moved_kept = taken_kept relinked_maps.0 a_3 cut takes

  moved_version : m4.version ≡ m1.version
  moved_version = cut.only.version ∙ relinked_version

  pub moved_tree : tree_in m4 ≡ without_name (tree_in m1) da na
  moved_tree = taken_tree relinked_maps.0 a_3 cut takes ∙ ap (λ (t : Tree). without_name t da na) relinked_maps.1

  pub moved_shifts : (x y : ℕ) → la + x ≡ a.links → (da ≢ db → lb ≡ b.links + y)
      → (da ≡ db → y ≡ 0) → Shifts m1 m4 (only_at da x) (only_at db y)
  moved_shifts x y less more none =
      let first = linked_shifts_3 x y less more none in
      let next = taken_shifts relinked_maps.0 a_3 cut takes in
      shifts_as m1 m4 (λ k. only_at da x k + only_at da 0 k) (λ k. only_at db y k + only_at da 0 k)
      (only_at da x) (only_at db y)
      (λ k. omega arith)
      (shifts_joined m1 m3 m4 (only_at da x) (only_at db y) (only_at da 0) (only_at da 0)
      first next)

  -- the second directory, when the name is written into it
  abbrev b4 : Header
  b4 = second_after da db a b la lb

  pub second_holder : HasHolder m4 db b4
  second_holder = ⊎_elim
      (λ (h : (eqb da db ≡ true) × (da ≡ db)).
      subst (λ (v : Bool). HasHolder m4 db (cond v (shrunk (relinked a la)) (relinked b lb)))
      (sym h.0)
      record {
        number = has_b.number;
        there = ap m4.header (sym h.1) ∙ cut.header;
        kind = has_a.kind;
        few = (let few = has_a.few in omega (arith, few));
      })
      (λ (h : (eqb da db ≡ false) × (da ≢ db)).
      subst (λ (v : Bool). HasHolder m4 db (cond v (shrunk (relinked a la)) (relinked b lb)))
      (sym h.0)
      record {
        number = has_b.number;
        there = cut.only.headers db (λ e. h.1 (sym e)) ∙ (relinked_maps.3 h.1).there;
        kind = has_b.kind;
        few = has_b.few;
      })
      (eqb_tells da db)

  pub second_directory : IsDirectory m4 db (as_header b4)
  second_directory = holder_directory moved_kept second_holder

  -- what its names give
  pub second_entry : (nb : List ℕ)
      → find byte_cmp nb (names_at m4 db b4) ≡ entry_in (without_name (tree_in m1) da na) db nb
  second_entry nb = sym (
      ap (λ (o : Option Node). find byte_cmp nb (names_of (unwrap_or o (File []))))
      (ap (λ (t : Tree). node t db) (sym moved_tree) ∙ directory_node m4 db b4 record
      { number = has_b.number; header = second_holder.there; kind = second_holder.kind }))

  -- ---- a name that it lacks, or one that it has
  pub named_new : {m5 : LogMap} {n : ℕ} {nb : List ℕ} → DraftsName m4 m5 db n b4 nb
      → entry_in (without_name (tree_in m1) da na) db nb ≡ None → IsNamed m4 m5 db n b4 nb
  named_new {m5} {n} {nb} new lacks =
      let adds : AddsName m4 m5 db b4 n nb = new.adds second_directory (second_entry nb ∙ lacks) in
      record {
        after = grown b4;
        at = new.at;
        slot = new.slot;
        kind = second_holder.kind;
        form = refl;
        links = refl;
        small = (let few = second_holder.few in let most = (slot_some b4.form).1 in omega (arith, few, most));
        writes = new.writes;
        directory = adds.directory;
        names = adds.names;
      }

  pub named_over : {m5 : LogMap} {n : ℕ} {nb : List ℕ} → DraftsOver m4 m5 db n b4 nb
      → IsNamed m4 m5 db n b4 nb
  named_over {m5} {n} {nb} over =
      let repoints : RepointsName m4 m5 db b4 n nb = over.repoints second_directory in
      record {
        after = b4;
        at = over.at;
        slot = over.slot;
        kind = second_holder.kind;
        form = refl;
        links = refl;
        small = (let few = second_holder.few in let most = (slot_some b4.form).1 in omega (arith, few, most));
        writes = over.writes;
        directory = repoints.directory;
        names = repoints.names;
      }

  module _ {m5 : LogMap} {n : ℕ} {nb : List ℕ} (named : IsNamed m4 m5 db n b4 nb) where
    pub named_kept : IsShaped m5
    named_kept = written_kept n nb moved_kept
        second_holder named.kind named.form named.links named.small named.writes named.directory named.names

    pub named_version : m5.version ≡ m1.version
    named_version = named.writes.only.version ∙ moved_version

    pub named_tree : tree_in m5 ≡ with_name (without_name (tree_in m1) da na) db nb n
    named_tree =
        written_tree n nb moved_kept second_holder named.kind named.form named.links named.small named.writes named.directory named.names
        ∙ ap (λ (t : Tree). with_name t db nb n) moved_tree

    pub named_shifts : (x y : ℕ) → la + x ≡ a.links → (da ≢ db → lb ≡ b.links + y)
        → (da ≡ db → y ≡ 0) → Shifts m1 m5 (only_at da x) (only_at db y)
    named_shifts x y less more none =
        let next = written_shifts n nb moved_kept second_holder named.kind named.form named.links named.small named.writes named.directory
        named.names in
        shifts_as m1 m5 (λ k. only_at da x k + only_at db 0 k)
        (λ k. only_at db y k + only_at db 0 k) (only_at da x) (only_at db y)
        (λ k. omega arith)
        (shifts_joined m1 m4 m5 (only_at da x) (only_at db y) (only_at db 0) (only_at db 0)
        (moved_shifts x y less more none) next)
