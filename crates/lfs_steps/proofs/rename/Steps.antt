-- The call rename, exit by exit.
use Rattle.lfs_steps.proofs.Prelude.{◌≡◌, ◌⊎◌, ◌<◌, ◌≤◌, ◌*◌, ◌++◌, ℕ, Bool, true, false, not, ◌&&◌, ◌||◌, List, [], ◌∷◌, length, refl, ◌∙◌}
use Rattle.lfs_steps.proofs.Prelude.{ap, ◌≢◌, inl, inr, ⊎_elim, nat_le, nat_lt, eqb, ◌==◌, if◌then◌else◌, eqb_tells, Answer, Done, Refuse}
use Rattle.lfs_steps.proofs.Prelude.{Rename, need, slash, Busy, DirFull, Inval, NameTooLong, NoEntry, NoSpace, NotDir, NotEmpty, Refusal}
use Rattle.lfs_steps.proofs.Prelude.{TooManyLinks, Step, checked, gives_dir, is_full, is_long, is_there, is_within, last_dots, let_go, name}
use Rattle.lfs_steps.proofs.Prelude.{no_last, no_space, target, when, with_tree, State, Tree, links, names_in, with_name, without_name, At}
use Rattle.lfs_steps.proofs.Prelude.{End, Parent, Refused}
use Rattle.lfs_model.specs.Refusal.{IsDir}
use Rattle.lfs_steps.proofs.calls.Checks.{below, not_below, passes, refuses}

-- ---- lists of refusals

-- the first condition that holds has this answer
abbrev pub StopsAt : List (Bool × Answer) → Answer → Type 0
StopsAt [] x = ⊥
StopsAt (c ∷ cs) x = ((c.0 ≡ true) × (c.1 ≡ x)) ⊎ ((c.0 ≡ false) × StopsAt cs x)

-- none holds
abbrev pub PassesAll : List (Bool × Answer) → Type 0
PassesAll [] = Unit {0}
PassesAll (c ∷ cs) = (c.0 ≡ false) × PassesAll cs

stops : (s : State) (cs : List (Bool × Answer)) (otherwise : Answer × State) (x : Answer) → StopsAt cs x → checked s cs otherwise ≡ (x, s)
stops s [] otherwise x at = absurd at
stops s (c ∷ cs) otherwise x at = ⊎_elim
    (λ here. refuses s c.1 cs otherwise here.0 ∙ ap (λ (y : Answer). (y, s)) here.1)
    (λ later. passes s c.0 c.1 cs otherwise later.0 ∙ stops s cs otherwise x later.1)
    at

passes_all : (s : State) (cs : List (Bool × Answer)) (otherwise : Answer × State) → PassesAll cs → checked s cs otherwise ≡ otherwise
passes_all s [] otherwise all = refl
passes_all s (c ∷ cs) otherwise all = passes s c.0 c.1 cs otherwise all.0 ∙ passes_all s cs otherwise all.1

-- ---- a list behind another

passes_both : (cs ds : List (Bool × Answer)) → PassesAll cs → PassesAll ds → PassesAll (cs ++ ds)
passes_both [] ds all more = more
passes_both (c ∷ cs) ds all more = (all.0, passes_both cs ds all.1 more)

stops_behind : (cs ds : List (Bool × Answer)) (x : Answer) → PassesAll cs → StopsAt ds x → StopsAt (cs ++ ds) x
stops_behind [] ds x all at = at
stops_behind (c ∷ cs) ds x all at = inr (all.0, stops_behind cs ds x all.1 at)

-- ---- paths that aren't walked to their ends

pub rename_refused : (N : ℕ) (s : State) (a b : List ℕ) (r : Refusal) (e : End) → Parent s.tree b e → Parent s.tree a (Refused r)
    → Step N s (Rename a b) (Refuse r) s
rename_refused N s a b r e other walk =
    record { first_end = Refused r; second_end = e; first = walk; second = other; answer = refl; state = refl }

pub rename_refused_next : (N : ℕ) (s : State) (a b : List ℕ) (da : ℕ) (r : Refusal) → Parent s.tree a (At da) → Parent s.tree b (Refused r)
    → Step N s (Rename a b) (Refuse r) s
rename_refused_next N s a b da r walk other =
    record { first_end = At da; second_end = Refused r; first = walk; second = other; answer = refl; state = refl }

-- ---- the list of refusals, from its end on

module _ (N : ℕ) (s : State) (a b : List ℕ) (da db : ℕ) where
  abbrev t : Tree
  t = s.tree

  abbrev n : ℕ
  n = target t da a

  abbrev old : ℕ
  old = target t db b

  abbrev moved : Tree
  moved = with_name (without_name t da (name a)) db (name b) n

  -- the tree after it
  abbrev pub renamed : Tree
  renamed = if is_there t db b then let_go moved s.handles old else moved

  -- the list from one condition on, with those that follow it
  abbrev from_links : List (Bool × Answer) → List (Bool × Answer)
  from_links rest = when (gives_dir t da a && not (is_there t db b) && not (da == db) && nat_le 1000 (links t db)) TooManyLinks ∷ rest

  abbrev from_full : List (Bool × Answer) → List (Bool × Answer)
  from_full rest = when (not (is_there t db b) && not (da == db) && is_full t db) DirFull ∷ from_links rest

  abbrev from_empty : List (Bool × Answer) → List (Bool × Answer)
  from_empty rest = when (is_there t db b && nat_lt 0 (length (names_in t old))) NotEmpty ∷ from_full rest

  abbrev from_directory : List (Bool × Answer) → List (Bool × Answer)
  from_directory rest = when (is_there t db b && gives_dir t db b && not (gives_dir t da a)) IsDir
      ∷ when (is_there t db b && gives_dir t da a && not (gives_dir t db b)) NotDir ∷ from_empty rest

  abbrev from_same : List (Bool × Answer) → List (Bool × Answer)
  from_same rest = (is_there t db b && n == old, Done) ∷ when (is_within t n db) Inval ∷ from_directory rest

  abbrev from_next : List (Bool × Answer) → List (Bool × Answer)
  from_next rest = when (is_long t db b) NameTooLong ∷ when (slash b && not (gives_dir t da a)) NotDir ∷ from_same rest

  abbrev from_source : List (Bool × Answer) → List (Bool × Answer)
  from_source rest = when (is_long t da a) NameTooLong ∷ when (not (is_there t da a)) NoEntry
      ∷ when (slash a && not (gives_dir t da a)) NotDir ∷ from_next rest

  abbrev from_pieces : List (Bool × Answer) → List (Bool × Answer)
  from_pieces rest = when (no_last a || no_last b) Busy ∷ when (last_dots a || last_dots b) Inval ∷ from_source rest

  -- all of them, and all but the need of space
  abbrev pub need_left : List (Bool × Answer)
  need_left = no_space N renamed ∷ []

  abbrev pub conditions : List (Bool × Answer)
  conditions = from_pieces need_left

  abbrev pub before_space : List (Bool × Answer)
  before_space = from_pieces []

  -- ---- what is known of both names

  -- Both paths end in names.
  pub record AreNamed : Type 0 where
    pub pieces : (no_last a || no_last b) ≡ false
    pub names : (last_dots a || last_dots b) ≡ false

  -- The first gives an object.
  pub record NamesSource (number : ℕ) (dir : Bool) : Type 0 where
    pub short : is_long t da a ≡ false
    pub there : is_there t da a ≡ true
    pub is : n ≡ number
    pub kind : gives_dir t da a ≡ dir
    pub ends : (slash a && not dir) ≡ false

  -- The second may be its name.
  pub record MayBeNamed (dir : Bool) : Type 0 where
    pub short : is_long t db b ≡ false
    pub ends : (slash b && not dir) ≡ false

  -- It gives an object too.
  pub record NamesTarget (number : ℕ) (dir : Bool) : Type 0 where
    pub there : is_there t db b ≡ true
    pub is : old ≡ number
    pub kind : gives_dir t db b ≡ dir

-- a fact, and those behind it
pass : {A B : Type 0} → A → B → A × B
pass x y = (x, y)

never : (x : Bool) → (x && not x) ≡ false
never true = refl
never false = refl

none_new : (x y z : Bool) → (x && not true && y && z) ≡ false
none_new true y z = refl
none_new false y z = refl

-- what is so of two directories
apart_only : (x y : ℕ) {c : Bool} → (x ≢ y → c ≡ false) → (not (x == y) && c) ≡ false
apart_only x y {c} none = ⊎_elim
    (λ (h : (eqb x y ≡ true) × (x ≡ y)). ap (λ (v : Bool). not v && c) h.0)
    (λ (h : (eqb x y ≡ false) × (x ≢ y)). (λ i. not (h.0 i) && none h.1 i))
    (eqb_tells x y)

where_dir : (x y : ℕ) (dir : Bool) {c : Bool} → (x ≢ y → dir ≡ true → c ≡ false) → (dir && not false && not (x == y) && c) ≡ false
where_dir x y true {c} none = apart_only x y {c = c} (λ ne. none ne refl)
where_dir x y false none = refl

-- ---- the call
module _ (N : ℕ) (s : State) (a b : List ℕ) (da db : ℕ) where
  module _ (walk : Parent s.tree a (At da)) (other_walk : Parent s.tree b (At db)) where
    pub rename_stops : {x : Answer} → StopsAt (conditions N s a b da db) x → Step N s (Rename a b) x s
    rename_stops {x} at =
        let is = stops s (conditions N s a b da db) (Done, with_tree s (renamed N s a b da db)) x at in
        record {
          first_end = At da;
          second_end = At db;
          first = walk;
          second = other_walk;
          answer = ap (λ r. r.0) is;
          state = ap (λ r. r.1) is;
        }

    -- where nothing but the need of space may refuse it
    module _ (all : PassesAll (before_space N s a b da db)) where
      pub rename_done : need (renamed N s a b da db) ≤ 47 * N → Step N s (Rename a b) Done (with_tree s (renamed N s a b da db))
      rename_done room =
          let is = passes_all s (conditions N s a b da db) (Done, with_tree s (renamed N s a b da db))
          (passes_both (before_space N s a b da db) (need_left N s a b da db) all
          (not_below (47 * N) (need (renamed N s a b da db)) room, tt)) in
          record {
            first_end = At da;
            second_end = At db;
            first = walk;
            second = other_walk;
            answer = ap (λ r. r.0) is;
            state = ap (λ r. r.1) is;
          }

      pub rename_lacks : 47 * N < need (renamed N s a b da db) → Step N s (Rename a b) (Refuse NoSpace) s
      rename_lacks lacks = rename_stops (stops_behind (before_space N s a b da db) (need_left N s a b da db) (Refuse NoSpace) all
          (inl (below (47 * N) (need (renamed N s a b da db)) lacks, refl)))

-- ---- both names, one behind the other
module _ {N : ℕ} {s : State} {a b : List ℕ} {da db : ℕ} where
  module _ (named : AreNamed N s a b da db) where
    abbrev Stops : Answer → Type 0
    Stops = StopsAt (conditions N s a b da db)

    abbrev StopsIn : (List (Bool × Answer) → List (Bool × Answer)) → Answer → Type 0
    StopsIn from = StopsAt (from (need_left N s a b da db))

    pub stops_source : {x : Answer} → StopsIn (from_source N s a b da db) x → Stops x
    stops_source at = inr (named.pieces, inr (named.names, at))

    module _ {number : ℕ} {dir : Bool} (source : NamesSource N s a b da db number dir) where
      slash_a : (slash a && not (gives_dir s.tree da a)) ≡ false
      slash_a = ap (λ (y : Bool). slash a && not y) source.kind ∙ source.ends

      pub stops_next : {x : Answer} → StopsIn (from_next N s a b da db) x → Stops x
      stops_next at = stops_source (inr (source.short, inr (ap not source.there, inr (slash_a, at))))

      pub stops_slash : is_long s.tree db b ≡ false → (slash b && not dir) ≡ true → Stops (Refuse NotDir)
      stops_slash short ends = stops_next (inr (short, inl (ap (λ (y : Bool). slash b && not y) source.kind ∙ ends, refl)))

      module _ (may : MayBeNamed N s a b da db dir) where
        slash_b : (slash b && not (gives_dir s.tree da a)) ≡ false
        slash_b = ap (λ (y : Bool). slash b && not y) source.kind ∙ may.ends

        stops_same : {x : Answer} → StopsIn (from_same N s a b da db) x → Stops x
        stops_same at = stops_next (inr (may.short, inr (slash_b, at)))

        within_is : {v : Bool} → is_within s.tree number db ≡ v → is_within s.tree (target s.tree da a) db ≡ v
        within_is is = ap (λ (q : ℕ). is_within s.tree q db) source.is ∙ is

        -- ---- the second gives an object
        module _ {replaced : ℕ} {other_dir : Bool} (dest : NamesTarget N s a b da db replaced other_dir) where
          same_is : {v : Bool} → (number == replaced) ≡ v → (is_there s.tree db b && target s.tree da a == target s.tree db b) ≡ v
          same_is is = (λ i. dest.there i && source.is i == dest.is i) ∙ is

          pub stops_done : (number == replaced) ≡ true → Stops Done
          stops_done same = stops_same (inl (same_is same, refl))

          module _ (other : (number == replaced) ≡ false) where
            pub stops_within : is_within s.tree number db ≡ true → Stops (Refuse Inval)
            stops_within within = stops_same (inr (same_is other, inl (within_is within, refl)))

            module _ (within : is_within s.tree number db ≡ false) where
              stops_directory : {x : Answer} → StopsIn (from_directory N s a b da db) x → Stops x
              stops_directory at = stops_same (inr (same_is other, inr (within_is within, at)))

              is_dir_of : {v : Bool} → (other_dir && not dir) ≡ v
                  → (is_there s.tree db b && gives_dir s.tree db b && not (gives_dir s.tree da a)) ≡ v
              is_dir_of is = (λ i. dest.there i && dest.kind i && not (source.kind i)) ∙ is

              not_dir_of : {v : Bool} → (dir && not other_dir) ≡ v
                  → (is_there s.tree db b && gives_dir s.tree da a && not (gives_dir s.tree db b)) ≡ v
              not_dir_of is = (λ i. dest.there i && source.kind i && not (dest.kind i)) ∙ is

              empty_of : {v : Bool} → nat_lt 0 (length (names_in s.tree replaced)) ≡ v
                  → (is_there s.tree db b && nat_lt 0 (length (names_in s.tree (target s.tree db b)))) ≡ v
              empty_of is = (λ i. dest.there i && nat_lt 0 (length (names_in s.tree (dest.is i)))) ∙ is

              pub stops_is_dir : other_dir ≡ true → dir ≡ false → Stops (Refuse IsDir)
              stops_is_dir on off = stops_directory (inl (is_dir_of (λ i. on i && not (off i)), refl))

              pub stops_not_dir : other_dir ≡ false → dir ≡ true → Stops (Refuse NotDir)
              stops_not_dir off on = stops_directory
                  (inr (is_dir_of (λ i. off i && not (on i)), inl (not_dir_of (λ i. on i && not (off i)), refl)))

              pub stops_empty : other_dir ≡ true → dir ≡ true → nat_lt 0 (length (names_in s.tree replaced)) ≡ true
                  → Stops (Refuse NotEmpty)
              stops_empty on also full = stops_directory (inr (
                is_dir_of (λ i. on i && not (also i)),
                inr (not_dir_of (λ i. also i && not (on i)), inl (empty_of full, refl)),
              ))

              -- nothing but the need of space is left
              pub passes_replaced : other_dir ≡ dir → nat_lt 0 (length (names_in s.tree replaced)) ≡ false
                  → PassesAll (before_space N s a b da db)
              passes_replaced alike empty =
                  pass named.pieces (pass named.names (pass source.short (pass (ap not source.there) (pass slash_a
                  (pass may.short (pass slash_b (pass (same_is other) (pass (within_is within)
                  (pass (is_dir_of (ap (λ (y : Bool). y && not dir) alike ∙ never dir))
                  (pass (not_dir_of (ap (λ (y : Bool). dir && not y) alike ∙ never dir)) (pass (empty_of empty)
                  (pass (λ i. not (dest.there i) && not (da == db) && is_full s.tree db)
                  (pass ((λ i. gives_dir s.tree da a && not (dest.there i) && not (da == db) && nat_le 1000 (links s.tree db))
                  ∙ none_new (gives_dir s.tree da a) (not (da == db)) (nat_le 1000 (links s.tree db))) tt)))))))))))))

        -- ---- it gives none
        module _ (new : is_there s.tree db b ≡ false) where
          same_none : (is_there s.tree db b && target s.tree da a == target s.tree db b) ≡ false
          same_none i = new i && target s.tree da a == target s.tree db b

          pub stops_within_new : is_within s.tree number db ≡ true → Stops (Refuse Inval)
          stops_within_new within = stops_same (inr (same_none, inl (within_is within, refl)))

          module _ (within : is_within s.tree number db ≡ false) where
            is_dir_none : (is_there s.tree db b && gives_dir s.tree db b && not (gives_dir s.tree da a)) ≡ false
            is_dir_none i = new i && gives_dir s.tree db b && not (gives_dir s.tree da a)

            not_dir_none : (is_there s.tree db b && gives_dir s.tree da a && not (gives_dir s.tree db b)) ≡ false
            not_dir_none i = new i && gives_dir s.tree da a && not (gives_dir s.tree db b)

            empty_none : (is_there s.tree db b && nat_lt 0 (length (names_in s.tree (target s.tree db b)))) ≡ false
            empty_none i = new i && nat_lt 0 (length (names_in s.tree (target s.tree db b)))

            full_is : {v : Bool} → (not (da == db) && is_full s.tree db) ≡ v
                → (not (is_there s.tree db b) && not (da == db) && is_full s.tree db) ≡ v
            full_is is = (λ i. not (new i) && not (da == db) && is_full s.tree db) ∙ is

            links_is : {v : Bool} → (dir && not false && not (da == db) && nat_le 1000 (links s.tree db)) ≡ v
                → (gives_dir s.tree da a && not (is_there s.tree db b) && not (da == db) && nat_le 1000 (links s.tree db)) ≡ v
            links_is is = (λ i. source.kind i && not (new i) && not (da == db) && nat_le 1000 (links s.tree db)) ∙ is

            -- in another directory
            module _ (apart : (da == db) ≡ false) where
              stops_room : {x : Answer} → StopsIn (from_full N s a b da db) x → Stops x
              stops_room at = stops_same (inr (
                same_none,
                inr (
                  within_is within,
                  inr (is_dir_none, inr (not_dir_none, inr (empty_none, at))),
                ),
              ))

              pub stops_full : is_full s.tree db ≡ true → Stops (Refuse DirFull)
              stops_full full = stops_room (inl (full_is (λ i. not (apart i) && full i), refl))

              pub stops_links : is_full s.tree db ≡ false → dir ≡ true → nat_le 1000 (links s.tree db) ≡ true
                  → Stops (Refuse TooManyLinks)
              stops_links free directory many = stops_room (inr (
                full_is (λ i. not (apart i) && free i),
                inl (links_is (λ i. directory i && not false && not (apart i) && many i), refl),
              ))

            -- nothing but the need of space is left
            pub passes_new : (da ≢ db → is_full s.tree db ≡ false)
                → (da ≢ db → dir ≡ true → nat_le 1000 (links s.tree db) ≡ false) → PassesAll (before_space N s a b da db)
            passes_new free few =
                pass named.pieces (pass named.names (pass source.short (pass (ap not source.there) (pass slash_a
                (pass may.short (pass slash_b (pass same_none (pass (within_is within) (pass is_dir_none (pass not_dir_none
                (pass empty_none (pass (full_is (apart_only da db free)) (pass (links_is (where_dir da db dir few)) tt)))))))))))))
