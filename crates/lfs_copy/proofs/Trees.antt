-- The calls that make the names of a tree, one after the other, and those of a whole copy.
use Rattle.std.proofs.Common.{◌≡◌, ◌<◌, ℕ, ◌+◌, List, [], ◌∷◌, ◌++◌, Result, Ok, Err, length, refl, sym, ◌∙◌, ap, subst, inl, inr}
use Rattle.std.proofs.Common.{Bool, append_assoc, arith, cond, false, slice_index_or, true}
use Rattle.std.proofs.lemmas.Bool.Decides.{nat_tests}
use Rattle.std.specs.Prelude.{OnOk, codes, ◌==◌}
use Rattle.std.specs.List.Sorted.{IsPermutation}
use Rattle.lfs_model.specs.Call.{Done, LinkTo, Mkdir, Refuse, Symlink, Sync, Widen}
use Rattle.lfs_model.specs.Device.{DeviceState}
use Rattle.lfs_model.specs.declared.Kind.TheVariants.{Directory, File, Link}
use Rattle.lfs_fs.specs.Refusals.{refusal_of}
use Rattle.lfs_fs.specs.Seen.{answer_by}
use Rattle.lfs_fs.specs.Volume.{Mounted, Serves}
use Rattle.lfs_fs.specs.declared.error.FsError.{FsError}
use Rattle.lfs_fs.specs.entries.declared.rows.TreeRow.{TreeRow}
use Rattle.lfs_put.specs.Calls.{Made, ServesAll, made}
use Rattle.lfs_copy.specs.Copying.{CopiesFile, CopiesLink, CopiesName, CopiesNames, CopiesObject, CopiesTree, DoesNotFit, Ends, EndsCopy}
use Rattle.lfs_copy.specs.Copying.{HasFile, HasLink, HasName, HasNames, HasObject, HasTree, IsSaved, MakesTree, ServesBoth, Stops}
use Rattle.lfs_copy.specs.Copying.{StopsCopy, ToldAs, Widens, next_name, no_names, widening}
use Rattle.lfs_copy.specs.Fitting.{IsUnfit}
use Rattle.lfs_copy.specs.Looking.{AreDone, HasLooked, IsRefused, IsTold, LooksAtNew, LooksAtOld}
use Rattle.lfs_copy.specs.Paths.{IsPathOf, NoneBefore}
use Rattle.lfs_copy.specs.declared.fault.Copied.{Copied}
use Rattle.lfs_copy.specs.declared.fault.CopyFault.{CopyFault}
use Rattle.lfs_copy.specs.declared.fault.CopyFault.TheVariants as why
use Rattle.lfs_copy.specs.declared.looking.Target.{Target}
use Rattle.lfs_copy.specs.declared.looking.Told.{Told}
use Rattle.lfs_copy.proofs.Both.{both_append, called, contradicts, done_append, fails_behind, no_calls, put_behind, put_refused}
use Rattle.lfs_copy.proofs.Both.{refused_one}
use Rattle.lfs_copy.proofs.Both.{kept_before, reaches, saved_behind, untouched, weaker}

widening_done : (version : ℕ) → AreDone (widening version)
widening_done version = by (version == 1)
  where
    by : (narrow : Bool) → AreDone (cond narrow [] (made (Widen (codes "/")) Done ∷ []))
    by true = tt
    by false = (refl, tt)

told_done : {told : Told} {calls : List Made} → IsTold told calls → AreDone calls
told_done is = subst AreDone (sym is.order) (refl, (refl, (refl, tt)))

looked_done : {target : Target} {calls : List Made} → HasLooked calls (Ok target) → AreDone calls
looked_done (rest, order, measured) =
    subst AreDone (sym order) (refl, subst AreDone (sym measured.order) (refl, (refl, tt)))

-- a call that was refused behind calls that were done
refused_behind : {fault : FsError} (xs ms : List Made) → AreDone xs → IsRefused fault ms → IsRefused fault (xs ++ ms)
refused_behind {fault} xs ms done is = record {
  before = xs ++ is.before;
  call = is.call;
  after = is.after;
  order = ap (λ (l : List Made). xs ++ l) is.order
      ∙ sym (append_assoc xs is.before (made is.call (Refuse (refusal_of fault)) ∷ is.after));
  done = done_append xs is.before done is.done;
  closes = is.closes;
}

not_equal : (a b : ℕ) → (a ≡ b → ⊥) → (a == b) ≡ false
not_equal a b h = grind (arith, nat_tests)

module _ {E : Type 0} {state : E → DeviceState} where
  pub root_widened : {p q : Mounted E} (version : ℕ) (result : Result (Unit {0}) FsError) → (version ≡ 1 → ⊥)
      → Serves state p q (Widen (codes "/")) (answer_by (λ done. Done) result) → Widens state p q version result
  root_widened {p = p} {q = q} version (Ok done) wide serves =
      subst (λ (narrow : Bool). ServesAll state p q (cond narrow [] (made (Widen (codes "/")) Done ∷ [])))
      (sym (not_equal version 1 wide)) (q, serves, refl)
  root_widened {q = q} version (Err fault) wide serves =
      (made (Widen (codes "/")) (Refuse (refusal_of fault)) ∷ [], (q, serves, refl), refused_one (Widen (codes "/")) fault)

module _ {D : Type 0} {E : Type 0} (state : D → DeviceState) (state' : E → DeviceState) where
  -- how far a copy has come: the names of the first rows, so many, with so many bytes of files
  pub record Naming (a b : Mounted D) (p q : Mounted E) (rows : List TreeRow) (index sum : ℕ) : Type 0 where
    pub gets : List Made
    pub puts : List Made
    pub serves : ServesBoth state state' a b p q gets puts
    pub done_gets : AreDone gets
    pub done_puts : AreDone puts
    pub names : HasNames rows index sum gets puts

module _ {D : Type 0} {E : Type 0} {state : D → DeviceState} {state' : E → DeviceState} where
  -- ---- what a row gives

  pub directory_made : (a : Mounted D) {p q : Mounted E} (row : TreeRow) (path : List ℕ) {X : Type 0} (done : Result X FsError)
      {result : Result ℕ CopyFault} → row.kind ≡ Directory → Serves state' p q (Mkdir path) (answer_by (λ done. Done) done)
      → ToldAs done result → CopiesObject state state' a a p q row path result
  directory_made a row path done kind serves is =
      called {does = HasObject row path} a (Mkdir path) done serves is (inl (kind, (refl, refl, refl)))

  pub link_made : (a : Mounted D) {p q : Mounted E} (row : TreeRow) (path text : List ℕ) {X : Type 0} (done : Result X FsError)
      {result : Result ℕ CopyFault} → row.kind ≡ Link → text ≡ row.head.items
      → Serves state' p q (Symlink text path) (answer_by (λ done. Done) done)
      → ToldAs done result → CopiesObject state state' a a p q row path result
  link_made a {p} {q} row path text done kind same given is =
      let serves = subst (λ (l : List ℕ). Serves state' p q (Symlink l path) (answer_by (λ done. Done) done)) same given in
      called {does = HasObject row path} a (Symlink row.head.items path) done serves is (inr (inl (kind, (refl, refl, refl))))

  pub file_made : {a b : Mounted D} {p q : Mounted E} (row : TreeRow) (path : List ℕ) (result : Result ℕ CopyFault) → row.kind ≡ File
      → CopiesFile state state' a b p q path result → CopiesObject state state' a b p q row path result
  file_made row path result kind copies =
      weaker {does = HasFile path} {does' = HasObject row path} result (λ count gets puts has. inr (inr (kind, has))) copies

  -- ---- a name

  pub linked : (a : Mounted D) {p q : Mounted E} (rows shown : List TreeRow) (place : ℕ) (row first : TreeRow)
      (path old_path given : List ℕ) {X : Type 0} (done : Result X FsError) {result : Result ℕ CopyFault} → shown ≡ rows → given ≡ old_path
      → place < length shown → first ≡ slice_index_or shown place first → first.number ≡ row.number → IsPathOf shown first old_path
      → Serves state' p q (LinkTo given path) (answer_by (λ done. Done) done) → ToldAs done result
      → CopiesLink state state' a a p q rows place row path result
  linked a {p} {q} rows shown place row first path old_path given done as_rows as_path within_shown at_shown same leads_shown given_so is =
      let within = subst (λ (l : List TreeRow). place < length l) as_rows within_shown in
      let at = subst (λ (l : List TreeRow). first ≡ slice_index_or l place first) as_rows at_shown in
      let leads = subst (λ (l : List TreeRow). IsPathOf l first old_path) as_rows leads_shown in
      let serves = subst (λ (l : List ℕ). Serves state' p q (LinkTo l path) (answer_by (λ done. Done) done)) as_path given_so in
      called {does = HasLink rows place row path} a (LinkTo old_path path) done serves is
      (record { first = first; within = within; at = at; same = same; old_path = old_path; leads = leads; is = (refl, refl, refl) })

  pub name_linked : {a b : Mounted D} {p q : Mounted E} (rows shown : List TreeRow) (index place : ℕ) (row : TreeRow)
      (path given : List ℕ) (result : Result ℕ CopyFault) → shown ≡ rows → given ≡ path → IsPathOf shown row path → place < index
      → CopiesLink state state' a b p q rows place row given result → CopiesName state state' a b p q rows index row result
  name_linked {a} {b} {p} {q} rows shown index place row path given result as_rows as_path leads_shown low copies_given =
      let leads = subst (λ (l : List TreeRow). IsPathOf l row path) as_rows leads_shown in
      let copies = subst (λ (l : List ℕ). CopiesLink state state' a b p q rows place row l result) as_path copies_given in
      weaker {does = HasLink rows place row path} {does' = HasName rows index row} result
      (λ count gets puts has. record { path = path; leads = leads; is = inl (place, low, has) }) copies

  pub name_made : {a b : Mounted D} {p q : Mounted E} (rows shown : List TreeRow) (index : ℕ) (row : TreeRow) (path given : List ℕ)
      (result : Result ℕ CopyFault) → shown ≡ rows → given ≡ path → IsPathOf shown row path → NoneBefore rows row.number index
      → CopiesObject state state' a b p q row given result → CopiesName state state' a b p q rows index row result
  name_made {a} {b} {p} {q} rows shown index row path given result as_rows as_path leads_shown first copies_given =
      let leads = subst (λ (l : List TreeRow). IsPathOf l row path) as_rows leads_shown in
      let copies = subst (λ (l : List ℕ). CopiesObject state state' a b p q row l result) as_path copies_given in
      weaker {does = HasObject row path} {does' = HasName rows index row} result
      (λ count gets puts has. record { path = path; leads = leads; is = inr (first, has) }) copies

  -- ---- all names

  pub naming_none : (a : Mounted D) (p : Mounted E) {rows : List TreeRow} → Naming state state' a a p p rows 0 0
  naming_none a p = record { gets = []; puts = []; serves = no_calls a p; done_gets = tt; done_puts = tt; names = no_names }

  pub naming_more : {a b c : Mounted D} {p q r : Mounted E} {rows : List TreeRow} {index sum total : ℕ} (row : TreeRow) (count : ℕ)
      → Naming state state' a b p q rows index sum → index < length rows → row ≡ slice_index_or rows index row
      → CopiesName state state' b c q r rows index row (Ok count) → total ≡ sum + count
      → Naming state state' a c p r rows (index + 1) total
  naming_more {a} {c = c} {p = p} {r = r} {rows = rows} {index = index} row count so_far low is copies same =
      subst (λ (n : ℕ). Naming state state' a c p r rows (index + 1) n) (sym same)
      (record {
        gets = so_far.gets ++ copies.gets;
        puts = so_far.puts ++ copies.puts;
        serves = both_append so_far.gets so_far.puts copies.gets copies.puts so_far.serves copies.serves;
        done_gets = done_append so_far.gets copies.gets so_far.done_gets copies.ends.0;
        done_puts = done_append so_far.puts copies.puts so_far.done_puts copies.ends.1;
        names = next_name row count copies.gets copies.puts so_far.names low is copies.ends.2;
      })

  pub naming_stops : {a b c : Mounted D} {p q r : Mounted E} {rows : List TreeRow} {index sum : ℕ} (row : TreeRow) (fault : CopyFault)
      → Naming state state' a b p q rows index sum → CopiesName state state' b c q r rows index row (Err fault)
      → CopiesNames state state' a c p r rows (Err fault)
  naming_stops row fault so_far copies =
      fails_behind so_far.gets so_far.puts fault so_far.serves so_far.done_gets so_far.done_puts copies

  pub naming_breaks : {a b c : Mounted D} {p q r : Mounted E} {rows : List TreeRow} {index sum count : ℕ} (row : TreeRow)
      → Naming state state' a b p q rows index sum → CopiesName state state' b c q r rows index row (Ok count)
      → CopiesNames state state' a c p r rows (Err why.NoTree)
  naming_breaks row so_far copies =
      contradicts (so_far.gets ++ copies.gets) (so_far.puts ++ copies.puts)
      (both_append so_far.gets so_far.puts copies.gets copies.puts so_far.serves copies.serves)

  pub named : {a b : Mounted D} {p q : Mounted E} {rows : List TreeRow} {index sum : ℕ} → Naming state state' a b p q rows index sum
      → index ≡ length rows → CopiesNames state state' a b p q rows (Ok sum)
  named {rows = rows} {sum = sum} so_far all = record {
    gets = so_far.gets;
    puts = so_far.puts;
    serves = so_far.serves;
    ends = (
      so_far.done_gets,
      so_far.done_puts,
      subst (λ (n : ℕ). HasNames rows n sum so_far.gets so_far.puts) all so_far.names,
    );
  }

  -- ---- a tree

  pub tree_not_widened : (a : Mounted D) {p q : Mounted E} {rows : List TreeRow} {version : ℕ} (fault : FsError)
      → Widens state' p q version (Err fault) → MakesTree state state' a a p q rows version (Err (why.New fault))
  tree_not_widened a fault (calls, served, refused) = record {
    gets = [];
    puts = calls;
    serves = record { served_from = refl; served_to = served; only_reads = tt };
    ends = refused;
  }

  widened : (a : Mounted D) {p q : Mounted E} (version : ℕ) → Widens state' p q version (Ok tt)
      → ServesBoth state state' a a p q [] (widening version)
  widened a version served = record { served_from = refl; served_to = served; only_reads = tt }

  pub tree_stops : {a b : Mounted D} {p q r : Mounted E} {rows : List TreeRow} {version : ℕ} (fault : CopyFault)
      → Widens state' p q version (Ok tt) → CopiesNames state state' a b q r rows (Err fault)
      → MakesTree state state' a b p r rows version (Err fault)
  tree_stops {a} {version = version} fault widens copies =
      fails_behind [] (widening version) fault (widened a version widens) tt (widening_done version) copies

  pub tree_not_saved : {a b : Mounted D} {p q r s : Mounted E} {rows : List TreeRow} {version bytes : ℕ}
      (fault : FsError)
      → Widens state' p q version (Ok tt) → CopiesNames state state' a b q r rows (Ok bytes)
      → Serves state' r s Sync (Refuse (refusal_of fault)) → MakesTree state state' a b p s rows version (Err (why.New fault))
  tree_not_saved {a} {b} {rows = rows} {version = version} fault widens copies syncs =
      fails_behind copies.gets (widening version ++ copies.puts) (why.New fault)
      (both_append [] (widening version) copies.gets copies.puts (widened a version widens) copies.serves)
      copies.ends.0 (done_append (widening version) copies.puts (widening_done version) copies.ends.1)
      (put_refused {does = HasTree rows version} b Sync fault syncs)

  pub tree_made : {a b : Mounted D} {p q r s : Mounted E} {rows : List TreeRow} {version : ℕ} (copied : Copied)
      → Widens state' p q version (Ok tt) → CopiesNames state state' a b q r rows (Ok copied.bytes)
      → Serves state' r s Sync Done → copied.names ≡ length rows → MakesTree state state' a b p s rows version (Ok copied)
  tree_made {a} {version = version} copied widens copies syncs counted =
      let last = made Sync Done ∷ [] in
      record {
        gets = copies.gets;
        puts = widening version ++ (copies.puts ++ last);
        serves = both_append [] (widening version) copies.gets (copies.puts ++ last) (widened a version widens)
            (put_behind copies.gets copies.puts Sync Done copies.serves syncs);
        ends = (
          copies.ends.0,
          done_append (widening version) (copies.puts ++ last) (widening_done version)
              (done_append copies.puts last copies.ends.1 (refl, tt)),
          record { body = copies.puts; order = refl; names = copies.ends.2; counted = counted },
        );
      }

  -- ---- a whole copy

  pub not_begun : (a : Mounted D) {p q : Mounted E} (fault : CopyFault) → LooksAtNew state' p q (Err fault)
      → CopiesTree state state' a a p q (Err fault)
  not_begun a fault looks = record {
    gets = [];
    puts = looks.calls;
    serves = record { served_from = refl; served_to = looks.served; only_reads = tt };
    untouched = untouched state a a [] refl tt;
    ends = by fault looks.outcome;
    saved = tt;
  }
    where
      by : (fault : CopyFault) → HasLooked looks.calls (Err fault) → StopsCopy fault [] looks.calls
      by why.NotEmpty outcome = (refl, outcome)
      by (why.New refused) outcome = outcome
      by (why.Old refused) outcome = absurd outcome
      by why.NoTree outcome = absurd outcome
      by (why.Memory refused) outcome = absurd outcome
      by (why.TooLong path) outcome = absurd outcome
      by (why.TooLarge need limit) outcome = absurd outcome

  looked : {a b : Mounted D} {p q : Mounted E} {target : Target} {result : Result Told FsError} (looks : LooksAtNew state' p q (Ok target))
      (told : LooksAtOld state a b result) → ServesBoth state state' a b p q told.calls looks.calls
  looked looks told = record { served_from = told.served; served_to = looks.served; only_reads = told.only_reads }

  pub not_told : {a b : Mounted D} {p q : Mounted E} {target : Target} (fault : FsError) → LooksAtNew state' p q (Ok target)
      → LooksAtOld state a b (Err fault) → CopiesTree state state' a b p q (Err (why.Old fault))
  not_told {a} {b} fault looks told = record {
    gets = told.calls;
    puts = looks.calls;
    serves = looked looks told;
    untouched = untouched state a b told.calls told.served told.only_reads;
    ends = told.outcome;
    saved = tt;
  }

  pub not_fitting : {a b : Mounted D} {p q : Mounted E} {target : Target} {old : Told} (fault : CopyFault)
      → LooksAtNew state' p q (Ok target) → LooksAtOld state a b (Ok old) → IsUnfit old target fault
      → CopiesTree state state' a b p q (Err fault)
  not_fitting {a} {b} {target = target} {old = old} fault looks told unfit = record {
    gets = told.calls;
    puts = looks.calls;
    serves = looked looks told;
    untouched = untouched state a b told.calls told.served told.only_reads;
    ends = by fault unfit;
    saved = tt;
  }
    where
      because : {fault : CopyFault} → IsUnfit old target fault → DoesNotFit fault told.calls looks.calls
      because unfit = record {
        told = old;
        target = target;
        is_told = told.outcome;
        rest = looks.outcome.0;
        order = looks.outcome.1;
        measured = looks.outcome.2;
        unfit = unfit;
      }

      by : (fault : CopyFault) → IsUnfit old target fault → StopsCopy fault told.calls looks.calls
      by (why.TooLong path) unfit = because unfit
      by (why.TooLarge need limit) unfit = because unfit
      by why.NoTree unfit = tt
      by (why.Memory refused) unfit = tt
      by why.NotEmpty unfit = absurd unfit
      by (why.Old refused) unfit = absurd unfit
      by (why.New refused) unfit = absurd unfit

  pub copied : {a b c : Mounted D} {p q r : Mounted E} {target : Target} {old : Told} {rows : List TreeRow}
      (result : Result Copied CopyFault) → LooksAtNew state' p q (Ok target) → LooksAtOld state a b (Ok old)
      → IsPermutation old.rows.items rows → MakesTree state state' b c q r rows target.version result
      → CopiesTree state state' a c p r result
  copied {a} {b} {c} {p = p} {q = q} {r = r} {target = target} {old = old} {rows = rows} result looks told same makes =
      let both = both_append told.calls looks.calls makes.gets makes.puts (looked looks told) makes.serves in
      record {
        gets = told.calls ++ makes.gets;
        puts = looks.calls ++ makes.puts;
        serves = both;
        untouched = untouched state a c (told.calls ++ makes.gets) both.served_from both.only_reads;
        ends = by result makes.gets makes.puts makes.ends;
        saved = saved result makes;
      }
    where
      saved : (result : Result Copied CopyFault) → MakesTree state state' b c q r rows target.version result
          → OnOk result (IsSaved state' p r)
      saved (Ok copied) makes = λ first keeps at.
          let tree = makes.ends.2 in
          let behind = widening target.version ++ tree.body in
          let same : makes.puts ≡ behind ++ made Sync Done ∷ [] =
          tree.order ∙ sym (append_assoc (widening target.version) tree.body (made Sync Done ∷ [])) in
          let served = subst (ServesAll state' q r) same makes.serves.served_to in
          let kept = kept_before state' q r makes.puts makes.serves.served_to keeps in
          let mid = reaches state' p q looks.calls first looks.served kept at in
          saved_behind state' q r behind mid.0 served keeps mid.1
      saved (Err fault) makes = tt

      stops : (fault : CopyFault) (gets puts : List Made) → Stops fault gets puts
          → StopsCopy fault (told.calls ++ gets) (looks.calls ++ puts)
      stops (why.Old fault) gets puts is = refused_behind told.calls gets (told_done told.outcome) is
      stops (why.New fault) gets puts is = refused_behind looks.calls puts (looked_done looks.outcome) is
      stops why.NoTree gets puts is = tt
      stops (why.Memory refused) gets puts is = tt
      stops why.NotEmpty gets puts is = absurd is
      stops (why.TooLong path) gets puts is = absurd is
      stops (why.TooLarge need limit) gets puts is = absurd is

      by : (result : Result Copied CopyFault) (gets puts : List Made) → Ends (HasTree rows target.version) gets puts result
          → EndsCopy (told.calls ++ gets) (looks.calls ++ puts) result
      by (Ok copied) gets puts ends = record {
        told = old;
        target = target;
        asked = told.calls;
        is_told = told.outcome;
        measured = looks.outcome.0;
        is_measured = looks.outcome.2;
        rows = rows;
        same = same;
        rest_gets = gets;
        rest_puts = puts;
        gets_are = refl;
        puts_are = ap (λ (ms : List Made). ms ++ puts) looks.outcome.1;
        tree = ends.2;
      }
      by (Err fault) gets puts ends = stops fault gets puts ends
