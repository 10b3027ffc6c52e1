-- A rename's draft, step by step.
use Rattle.std.proofs.Common.{◌≡◌, ◌≢◌, ◌≤◌, ◌<◌, ◌*◌, ℕ, Bool, true, false, List, length, Option, Some, None, Result, Ok, Err, refl, sym}
use Rattle.std.proofs.Common.{◌∙◌, ap, subst}
use Rattle.std.proofs.Common.{cond, ⊎_elim, arith, eqb}
use Rattle.std.specs.Prelude.{◌==◌, ◌&&◌, not, OnOk, if◌then◌else◌, is_none}
use Rattle.std.specs.Cmp.Lexicographic.{nat_list_cmp_total}
use Rattle.std.specs.FinMap.{find}
use Rattle.std.specs.Ordering.{eq_by_cmp}
use Rattle.std.proofs.lemmas.Bool.{eq-eqb, eqb-true}
use Rattle.std.proofs.lemmas.Bool.Decides.{eqb_tells}
use Rattle.lfs_model.specs.Changing.{IsWithHeader}
use Rattle.lfs_model.specs.Encodes.{IsLogMap}
use Rattle.lfs_model.specs.Entry as entry
use Rattle.lfs_model.specs.Objects.{AreLong, IsDirectory}
use Rattle.lfs_model.specs.Slot.{IsName}
use Rattle.lfs_model.specs.Stands.{LogMap}
use Rattle.lfs_model.specs.Tree.{Names, byte_cmp, name_len, slot_len, without}
use Rattle.lfs_model.proofs.Sums.{find_without}
use Rattle.lfs_files.specs.declared.header.Header.{Header}
use Rattle.lfs_files.specs.Files.{Counts, FilesState, HasFile, IsApart, Redrafts}
use Rattle.lfs_files.specs.Headers.{FitsHeader, as_header}
use Rattle.lfs_path.specs.dirs.Directory.{names_at}
use Rattle.lfs_path.specs.dirs.Taking.{CountsDropped, CutsSlot, Takes, TakesName, shrunk}
use Rattle.lfs_path.specs.Seeing.{HasHeader}
use Rattle.lfs_path.proofs.of_dirs.SlotNames.{tied}
use Rattle.lfs_path.proofs.of_dirs.SlotsKept.{directory_stays}
use Rattle.lfs_path.proofs.of_dirs.Takings.{cut_kept}
use Rattle.lfs_entries.specs.declared.entry.Object.{Object}
use Rattle.lfs_entries.specs.declared.fault.EntryFault.{EntryFault}
use Rattle.lfs_entries.specs.declared.fault.EntryFault.TheVariants as fault
use Rattle.lfs_entries.specs.declared.moving.Source.{Source}
use Rattle.lfs_entries.specs.declared.moving.Target.{Target}
use Rattle.lfs_entries.specs.Drafting.{HasNamed, Relinks}
use Rattle.lfs_entries.specs.Entries.{is_directory}
use Rattle.lfs_entries.specs.Moving.{AreRelinked, CountsMove, DraftsMove, HasFoundName, HasHolders, HasMove, HasNames, IsOther, LosesFound}
use Rattle.lfs_entries.specs.Moving.{LostFound, MayMove, NamedFound, NamesFound, RelinksBoth, fewer_links, first_holder}
use Rattle.lfs_entries.specs.Moving.{gains_directory, loses_directory, more_links, second_holder, second_linked, size_with}
use Rattle.lfs_entries.specs.OldNames.{CountsLoss, Loses, LosesLink, stays}
use Rattle.lfs_entries.specs.Replacing.{FitsFound}
use Rattle.lfs_entries.specs.Telling.{FailsWhere}
use Rattle.lfs_entries.proofs.NewNames.{apart_same}

-- ---- what is done

pub ok_one : {T E : Type 0} (r : Result T E) (P Q : Type 0) → (P → Q) → OnOk r P → OnOk r Q
ok_one (Ok u) P Q so p = so p
ok_one (Err e) P Q so p = tt

pub ok_both : {T E : Type 0} (r : Result T E) (P Q R : Type 0) → (P → Q → R) → OnOk r P → OnOk r Q → OnOk r R
ok_both (Ok u) P Q R so p q = so p q
ok_both (Err e) P Q R so p q = tt

-- ---- what is replaced

pub found_none : {S D : Type 0} (s : FilesState S D) (is_open : Bool) → LosesFound s s None is_open
found_none s is_open = record {
  apart = λ k other was. was;
  fits = λ m m' has fits takes. fits;
  has = λ m m' keeps has.
      record { map = m'; has = has; file = refl; keeps = λ log there. log; counted = λ log there are. are };
}

found_some : {S D : Type 0} (s : FilesState S D) {s' : FilesState S D} (o : Object) {is_open : Bool}
    → Loses s s' o.number.value o.header (stays o.header is_open) → CountsLoss s s' o.number.value o.header
    → LosesFound s s' (Some o) is_open
found_some s o loses counts = record {
  apart = λ k other. loses.apart k other;
  fits = loses.fits;
  has = λ m m' keeps has. (let f = loses.has m m' has in record {
    map = f.map;
    has = f.has;
    file = f.file;
    keeps = λ log there. f.keeps log there.0 there.1;
    counted = λ log there are. counts m m' f.map keeps has f.has log (f.keeps log there.0 there.1) there.0 are;
  });
}

pub found_then : {S D E : Type 0} (s s' : FilesState S D) (o : Object) (is_open : Bool) (r : Result (Unit {0}) E)
    → OnOk r (Loses s s' o.number.value o.header (stays o.header is_open)) → OnOk r (CountsLoss s s' o.number.value o.header)
    → OnOk r (LosesFound s s' (Some o) is_open)
found_then s s' o is_open (Ok u) loses counts = found_some s o loses counts
found_then s s' o is_open (Err e) loses counts = tt

-- ---- links of both directories

never_gains : (x b y : Bool) → b ≡ true → (x && (not b && y)) ≡ true → ⊥
never_gains true true y same gains = cc
never_gains true false y same gains = cc
never_gains false true y same gains = cc
never_gains false false y same gains = cc

equal_true : {a b : ℕ} → a ≡ b → (a == b) ≡ true
equal_true {a} {b} same =
    ⊎_elim (λ (h : (eqb a b ≡ true) × (a ≡ b)). h.0) (λ (h : (eqb a b ≡ false) × (a ≢ b)). absurd (h.1 same)) (eqb_tells a b)

-- a directory that has another one less has one more of nothing
gains_apart : (source : Source) (target : Target) → gains_directory source target ≡ true
    → source.directory.value ≢ target.directory.value
gains_apart source target gains same =
    never_gains (is_directory source.object.header.kind) (source.directory.value == target.directory.value) (is_none target.replaced)
    (equal_true same) gains

gains_none : (source : Source) (target : Target) → source.directory.value ≡ target.directory.value → gains_directory source target ≡ false
gains_none source target same = by (gains_directory source target) refl
  where
    by : (b : Bool) → gains_directory source target ≡ b → b ≡ false
    by true is = absurd (gains_apart source target is same)
    by false is = refl

module _ {S D : Type 0} (s a s' : FilesState S D) (source : Source) (target : Target)
    (one : Relinks s a (loses_directory source target) source.directory.value source.holder (fewer_links source target))
    (two : Relinks a s' (gains_directory source target) target.directory.value target.holder (more_links source target)) where
  abbrev da : ℕ
  da = source.directory.value

  abbrev db : ℕ
  db = target.directory.value

  module _ (m m' : LogMap) (has : s.has m m') (holders : HasHolders m' source target) where
    abbrev x : LogMap
    x = (one.has m m' has).map

    abbrev y : LogMap
    y = (two.has m (one.has m m' has).map (one.has m m' has).has).map

    first : IsWithHeader m' da (Some (as_header (first_holder source target))) x
    first = (one.has m m' has).file holders.first

    second_at : da ≢ db → HasHeader db target.holder x
    second_at ne = first.others db (λ e. ne (sym e)) ∙ holders.second

    pub both_linked : AreRelinked m' y source target
    both_linked = ⊎_elim
        (λ (h : (eqb da db ≡ true) × (da ≡ db)).
        subst (λ (z : LogMap). AreRelinked m' z source target)
        (sym ((two.has m x (one.has m m' has).has).same (gains_none source target h.1))) record {
          first = first.own;
          second = λ ne. absurd (ne h.1);
          others = λ k na nb. first.others k na;
          block = first.block;
          version = first.version;
        })
        (λ (h : (eqb da db ≡ false) × (da ≢ db)).
        let second = (two.has m x (one.has m m' has).has).file (second_at h.1) in record {
          first = second.others da h.1 ∙ first.own;
          second = λ ne. second.own;
          others = λ k na nb. second.others k nb ∙ first.others k na;
          block = λ k i. second.block k i ∙ first.block k i;
          version = second.version ∙ first.version;
        })
        (eqb_tells da db)

  pub both_drafted : RelinksBoth s s' source target
  both_drafted = record {
    lost = λ z. two.lost z ∙ one.lost z;
    fits = λ m m' has fits takes.
        let l = one.has m m' has in
        two.fits m l.map l.has (one.fits m m' has fits takes.first)
        (λ gains. (let t = takes.second gains in record {
          there = second_at m m' has takes.holders (gains_apart source target gains);
          linked = t.linked;
          apart = one.lost _ ∙ t.apart;
          header = t.header;
        }));
    has = λ m m' has holders.
        let l = one.has m m' has in
        let r = two.has m l.map l.has in record {
          map = r.map;
          has = r.has;
          links = both_linked m m' has holders;
          same = λ no_loss no_gain. r.same no_gain ∙ l.same no_loss;
          keeps = λ log. r.keeps (l.keeps log (λ changes. holders.first))
              (λ gains. second_at m m' has holders (gains_apart source target gains));
          counted = λ are. r.counted (λ gains. second_at m m' has holders (gains_apart source target gains))
              (l.counted (λ changes. holders.first) are);
        };
  }

-- ---- names of one directory

still_there : (names : Names) (na nb : List ℕ) → na ≢ nb → find byte_cmp nb names ≢ None
    → find byte_cmp nb (without byte_cmp na names) ≢ None
still_there names na nb other there none = by (eq_by_cmp byte_cmp nb na) refl
  where
    by : (b : Bool) → eq_by_cmp byte_cmp nb na ≡ b → ⊥
    by true e = other (sym (tied nb na e))
    by false e = there (
        let found : cond false None (find byte_cmp nb names) ≡ None =
        ap (λ (b : Bool). cond b None (find byte_cmp nb names)) (sym e) ∙ sym (find_without nat_list_cmp_total na nb names) ∙ none in
        found)

abbrev of_model : entry.Header → Header
of_model h = record { kind = h.kind; form = h.form; links = h.links; size = h.size }

one_header : (m : LogMap) (n : ℕ) {a b : Header} → HasHeader n a m → HasHeader n b m → a ≡ b
one_header m n {a} {b} at_a at_b =
    let both : Some (as_header a) ≡ Some (as_header b) = sym at_a ∙ at_b in
    let same : as_header a ≡ as_header b = cc in
    ap of_model same

-- ---- all of it

module _ {S D : Type 0} (s a b t : FilesState S D) (source : Source) (target : Target) (is_open : Bool)
    (one : Redrafts s a) (two : Redrafts a b) (three : Redrafts b t) (lost_found : LosesFound s a target.replaced is_open)
    (both : RelinksBoth a b source target) where
  abbrev first_d : ℕ
  first_d = source.directory.value

  abbrev second_d : ℕ
  second_d = target.directory.value

  -- what isn't replaced is as it was
  other_header : (found : Option Object) (m m' : LogMap) (d : ℕ) → LostFound found is_open m m' → IsOther found d
      → m'.header d ≡ m.header d
  other_header None m m' d same other = ap (λ (x : LogMap). x.header d) same
  other_header (Some o) m m' d lost other = by (stays o.header is_open) lost
    where
      by : (stay : Bool) → LosesLink stay m m' o.number.value o.header → m'.header d ≡ m.header d
      by true is = is.others d other
      by false is = is.headers d other

  other_block : (found : Option Object) (m m' : LogMap) (d : ℕ) → LostFound found is_open m m' → IsOther found d → (i : ℕ)
      → m'.block d i ≡ m.block d i
  other_block None m m' d same other i = ap (λ (x : LogMap). x.block d i) same
  other_block (Some o) m m' d lost other i = by (stays o.header is_open) lost
    where
      by : (stay : Bool) → LosesLink stay m m' o.number.value o.header → m'.block d i ≡ m.block d i
      by true is = is.block d i
      by false is = is.blocks d i other

  module _ (m m' : LogMap) (keeps : t.device.keeps_model) (has : s.has m m') (move : HasMove source target m') where
    kept : a.device.keeps_model
    kept = two.looks.carries.kept_before (three.looks.carries.kept_before keeps)

    abbrev lost : LogMap
    lost = (lost_found.has m m' kept has).map

    lost_has : a.has m lost
    lost_has = (lost_found.has m m' kept has).has

    lost_log : IsLogMap lost
    lost_log = (lost_found.has m m' kept has).keeps move.map move.replaced

    holders : HasHolders lost source target
    holders = record {
      first = other_header target.replaced m' lost first_d (lost_found.has m m' kept has).file move.not_first ∙ move.holders.first;
      second = other_header target.replaced m' lost second_d (lost_found.has m m' kept has).file move.not_second ∙ move.holders.second;
    }

    abbrev linked : LogMap
    linked = (both.has m lost lost_has holders).map

    linked_has : b.has m linked
    linked_has = (both.has m lost lost_has holders).has

    links : AreRelinked lost linked source target
    links = (both.has m lost lost_has holders).links

    file : HasFile linked first_d (first_holder source target)
    file = record { map = (both.has m lost lost_has holders).keeps lost_log; there = links.first }

    same_blocks : (d : ℕ) → IsOther target.replaced d → (i : ℕ) → linked.block d i ≡ m'.block d i
    same_blocks d other i = links.block d i ∙ other_block target.replaced m' lost d (lost_found.has m m' kept has).file other i

    first_stays : (dir : IsDirectory m' first_d (as_header source.holder))
        → IsDirectory linked first_d (as_header (first_holder source target))
        × (names_at linked first_d (first_holder source target) ≡ names_at m' first_d source.holder)
    first_stays dir = directory_stays m' linked first_d source.holder (first_holder source target)
        (same_blocks first_d move.not_first) refl refl dir

    first_long : AreLong m' first_d → AreLong linked first_d
    first_long long i some = ap length (same_blocks first_d move.not_first i)
        ∙ long i (subst (λ (l : List ℕ). 0 < length l) (same_blocks first_d move.not_first i) some)

    first_named : HasNamed first_d source.holder source.name.now m' → HasNamed first_d (first_holder source target) source.name.now linked
    first_named named =
        let stay = first_stays named.directory in
        record { directory = stay.0; there = λ none. named.there (ap (find byte_cmp source.name.now) (sym stay.1) ∙ none) }

  -- the first name isn't taken out
  pub move_takes_not : (why : EntryFault) → FailsWhere b t (HasNamed first_d (first_holder source target) source.name.now) why
      → FailsWhere s t (HasNames source target) why
  move_takes_not fault.NoEntry never = never
  move_takes_not fault.NotDir never = never
  move_takes_not fault.IsDir never = never
  move_takes_not fault.Exist never = never
  move_takes_not fault.NotEmpty never = never
  move_takes_not fault.Inval never = never
  move_takes_not fault.NameTooLong never = never
  move_takes_not fault.Perm never = never
  move_takes_not fault.TooManyLinks never = never
  move_takes_not fault.DirFull never = never
  move_takes_not fault.NoMemory memory = tt
  move_takes_not (fault.Log f) failed = λ m m' keeps has names. (
      let rose = failed m (linked m m' keeps has names.move) keeps (linked_has m m' keeps has names.move)
      (first_named m m' keeps has names.move names.first) in
      let first = one.looks.carries.failures in
      let second = two.looks.carries.failures in
      omega (arith, rose, first, second))

  -- ---- behind the first name
  module _ (takes : Takes b t first_d (first_holder source target) source.name.now) where
    module _ (m : LogMap) {m' : LogMap} (keeps : t.device.keeps_model) (has : s.has m m') (move : HasMove source target m') where
      abbrev taken : LogMap
      taken = (takes.has m (linked m m' keeps has move) keeps (linked_has m m' keeps has move)).map

      taken_has : t.has m taken
      taken_has = (takes.has m (linked m m' keeps has move) keeps (linked_has m m' keeps has move)).has

      cut : CutsSlot (linked m m' keeps has move) taken first_d (first_holder source target)
      cut = (takes.has m (linked m m' keeps has move) keeps (linked_has m m' keeps has move)).file (file m m' keeps has move)

      second_there : HasHeader second_d (second_holder source target) taken
      second_there = ⊎_elim
          (λ (h : (eqb first_d second_d ≡ true) × (first_d ≡ second_d)).
          subst (λ (same : Bool). HasHeader second_d
          (if same then shrunk (first_holder source target) else second_linked source target) taken) (sym h.0)
          (ap taken.header (sym h.1) ∙ cut.header))
          (λ (h : (eqb first_d second_d ≡ false) × (first_d ≢ second_d)).
          subst (λ (same : Bool). HasHeader second_d
          (if same then shrunk (first_holder source target) else second_linked source target) taken) (sym h.0)
          (cut.only.headers second_d (λ e. h.1 (sym e)) ∙ (links m m' keeps has move).second h.1))
          (eqb_tells first_d second_d)

      -- the second name is there behind the loss of the first, if it was
      second_named : HasNamed first_d source.holder source.name.now m' → HasNamed second_d target.holder target.name.now m'
          → (first_d ≡ second_d → source.name.now ≢ target.name.now)
          → HasNamed second_d (second_holder source target) target.name.now taken
      second_named named_a named_b others = ⊎_elim
          (λ (h : (eqb first_d second_d ≡ true) × (first_d ≡ second_d)).
          subst (λ (same : Bool). HasNamed second_d
          (if same then shrunk (first_holder source target) else second_linked source target) target.name.now taken) (sym h.0)
          (subst (λ (d : ℕ). HasNamed d (shrunk (first_holder source target)) target.name.now taken) h.1 (same_named h.1)))
          (λ (h : (eqb first_d second_d ≡ false) × (first_d ≢ second_d)).
          subst (λ (same : Bool). HasNamed second_d
          (if same then shrunk (first_holder source target) else second_linked source target) target.name.now taken) (sym h.0)
          (apart_named h.1))
          (eqb_tells first_d second_d)
        where
          stay : IsDirectory (linked m m' keeps has move) first_d (as_header (first_holder source target))
              × (names_at (linked m m' keeps has move) first_d (first_holder source target) ≡ names_at m' first_d source.holder)
          stay = first_stays m m' keeps has move named_a.directory

          gone : TakesName (linked m m' keeps has move) taken first_d (first_holder source target) source.name.now
          gone = (takes.has m (linked m m' keeps has move) keeps (linked_has m m' keeps has move)).names (file m m' keeps has move) stay.0

          there_a : first_d ≡ second_d → find byte_cmp target.name.now (names_at m' first_d source.holder) ≢ None
          there_a e none = named_b.there (
              let heads : source.holder ≡ target.holder =
              one_header m' second_d (ap m'.header (sym e) ∙ move.holders.first) move.holders.second in
              ap (λ (h : Header). find byte_cmp target.name.now (names_at m' second_d h)) (sym heads)
              ∙ ap (λ (d : ℕ). find byte_cmp target.name.now (names_at m' d source.holder)) (sym e) ∙ none)

          same_named : first_d ≡ second_d → HasNamed first_d (shrunk (first_holder source target)) target.name.now taken
          same_named e = record {
            directory = gone.directory;
            there = λ none. still_there (names_at m' first_d source.holder) source.name.now target.name.now (others e) (there_a e)
                (ap (λ (ns : Names). find byte_cmp target.name.now (without byte_cmp source.name.now ns)) (sym stay.1)
                ∙ ap (find byte_cmp target.name.now) (sym gone.names) ∙ none);
          }

          apart_named : first_d ≢ second_d → HasNamed second_d (second_linked source target) target.name.now taken
          apart_named ne =
              let kept_b = directory_stays m' taken second_d target.holder (second_linked source target)
              (λ i. cut.only.blocks second_d i (λ e. ne (sym e)) ∙ same_blocks m m' keeps has move second_d move.not_second i)
              refl refl named_b.directory in
              record {
                directory = kept_b.0;
                there = λ none. named_b.there (ap (find byte_cmp target.name.now) (sym kept_b.1) ∙ none);
              }

      second_found : (found : Option Object) → HasNamed first_d source.holder source.name.now m'
          → HasFoundName found second_d target.holder target.name.now m' → (first_d ≡ second_d → source.name.now ≢ target.name.now)
          → HasFoundName found second_d (second_holder source target) target.name.now taken
      second_found None named_a named_b others = tt
      second_found (Some o) named_a named_b others = second_named named_a named_b others

    -- the second name isn't drafted
    pub move_names_not : {s' : FilesState S D} → Redrafts t s' → (why : EntryFault)
        → FailsWhere t s' (HasFoundName target.replaced second_d (second_holder source target) target.name.now) why
        → FailsWhere s s' (HasNames source target) why
    move_names_not four fault.NoEntry never = never
    move_names_not four fault.NotDir never = never
    move_names_not four fault.IsDir never = never
    move_names_not four fault.Exist never = never
    move_names_not four fault.NotEmpty never = never
    move_names_not four fault.Inval never = never
    move_names_not four fault.NameTooLong never = never
    move_names_not four fault.Perm never = never
    move_names_not four fault.TooManyLinks never = never
    move_names_not four fault.DirFull never = never
    move_names_not four fault.NoMemory memory = tt
    move_names_not four (fault.Log f) failed = λ m m' keeps has names. (
        let before = four.looks.carries.kept_before keeps in
        let rose = failed m (taken m before has names.move) keeps (taken_has m before has names.move)
        (second_found m before has names.move target.replaced names.first names.second names.others) in
        let first = one.looks.carries.failures in
        let second = two.looks.carries.failures in
        let third = three.looks.carries.failures in
        omega (arith, rose, first, second, third))

    -- ---- with both names
    module _ (s' : FilesState S D) (four : Redrafts t s')
        (names : NamesFound t s' target.replaced second_d (second_holder source target) source.object.number.value target.name.now) where
      abbrev n : ℕ
      n = source.object.number.value

      named_fits : (found : Option Object) → NamesFound t s' found second_d (second_holder source target) n target.name.now
          → (m x : LogMap) → s'.device.keeps_model → t.has m x → t.fits m → HasHeader second_d (second_holder source target) x
          → IsApart t.lost second_d → m.header second_d ≢ None
          → FitsHeader (second_holder source target).kind (second_holder source target).form (second_holder source target).links
          (size_with found (second_holder source target) n target.name.now) → s'.fits m
      named_fits None adds m x keeps has fits there apart staged longer =
          adds.writes.fits m x has fits record { there = there; apart = apart; within = λ none. absurd (staged none); header = longer }
      named_fits (Some o) repoints m x keeps has fits there apart staged longer =
          let size = (repoints.has m x keeps has).file.bytes.size in
          repoints.writes.fits m x has fits record {
            there = there;
            apart = apart;
            within = λ none. absurd (staged none);
            header = subst (λ (z : ℕ). FitsHeader (second_holder source target).kind (second_holder source target).form
                (second_holder source target).links z) size longer;
          }

      -- With the second name there is another log map.
      record HasSecond (found : Option Object) (m x : LogMap) : Type 0 where
        map : LogMap
        has : s'.has m map
        named : NamedFound found x map second_d (second_holder source target) n target.name.now

      second_has : (found : Option Object) → NamesFound t s' found second_d (second_holder source target) n target.name.now
          → (m x : LogMap) → s'.device.keeps_model → t.has m x → HasSecond found m x
      second_has None adds m x keeps has =
          let f = adds.has m x keeps has in record { map = f.map; has = f.has; named = record { file = f.file; more = f.more } }
      second_has (Some o) repoints m x keeps has =
          let f = repoints.has m x keeps has in
          record { map = f.map; has = f.has; named = record { place = repoints.place; file = f.file; names = f.names } }

      pub move_drafted : DraftsMove s s' source target is_open
      move_drafted = record {
        fits = λ m m' keeps has fits may. (
            let move = may.move in
            let before = four.looks.carries.kept_before keeps in
            let l = lost m m' before has move in
            named_fits target.replaced names m (taken m before has move) keeps (taken_has m before has move)
            (takes.drops.fits m (linked m m' before has move) before (linked_has m m' before has move)
            (both.fits m l (lost_has m m' before has move) (lost_found.fits m m' has fits may.replaced) record {
              holders = holders m m' before has move;
              first = λ changes. record {
                there = (holders m m' before has move).first;
                linked = may.first_linked;
                apart = (lost_found.apart first_d move.not_first may.first_apart).inode;
                header = may.first;
              };
              second = λ changes. record {
                there = (holders m m' before has move).second;
                linked = may.second_linked;
                apart = (lost_found.apart second_d move.not_second may.second_apart).inode;
                header = may.second;
              };
            }) record {
              staged = may.first_staged;
              there = (links m m' before has move).first;
              header = may.shorter;
              apart = apart_same a b both.lost (lost_found.apart first_d move.not_first may.first_apart);
            }) (second_there m before has move) (apart_same b t takes.drops.lost
            (apart_same a b both.lost (lost_found.apart second_d move.not_second may.second_apart))) may.second_staged may.longer);
        has = λ m m' keeps has move. (
            let before = four.looks.carries.kept_before keeps in
            let f = takes.has m (linked m m' before has move) before (linked_has m m' before has move) in
            let g = second_has target.replaced names m (taken m before has move) keeps (taken_has m before has move) in record {
              lost = lost m m' before has move;
              linked = linked m m' before has move;
              taken = taken m before has move;
              map = g.map;
              has = g.has;
              loses = (lost_found.has m m' (kept m m' before has move) has).file;
              links = links m m' before has move;
              same = (both.has m (lost m m' before has move) (lost_has m m' before has move) (holders m m' before has move)).same;
              untied = record { cut = cut m before has move; names = f.names (file m m' before has move) };
              named = g.named;
            });
      }

      pub move_counted : source.holder.size ≤ 1024 * slot_len source.holder.form → CountsDropped b t first_d (first_holder source target)
          → Counts t s' → CountsMove s s' source target
      move_counted few drops recounts m x y keeps has has' move long log' are =
          let before = four.looks.carries.kept_before keeps in
          let there = file m x before has move in
          let whole = first_long m x before has move long in
          let log = cut_kept few there whole (cut m before has move) in
          recounts m (taken m before has move) y keeps (taken_has m before has move) has' log log'
          (drops m (linked m x before has move) (taken m before has move) before (linked_has m x before has move)
          (taken_has m before has move) there whole log
          ((both.has m (lost m x before has move) (lost_has m x before has move) (holders m x before has move)).counted
          ((lost_found.has m x (kept m x before has move) has).counted move.map move.replaced are)))

-- ---- the header with which the second name is drafted fits it

pub record FitsLater (target : Target) (h : Header) : Type 0 where
  pub size : h.size ≤ 1024 * slot_len h.form
  pub room : target.replaced ≡ None → h.size ≤ 1023 * slot_len h.form
  pub is_name : IsName (name_len h.form) target.name.now

later_by : (source : Source) (target : Target) → MayMove source target → (e : Bool) → (source.directory.value == target.directory.value) ≡ e
    → FitsLater target (if e then shrunk (first_holder source target) else second_linked source target)
later_by source target may true same = record {
  size = let few = may.from_size in omega (arith, few);
  room = λ none. (let few = may.from_size in omega (arith, few));
  is_name = subst (λ (f : ℕ). IsName (name_len f) target.name.now)
      (sym (may.form (eqb-true source.directory.value target.directory.value same))) may.is_name;
}
later_by source target may false apart = record {
  size = may.to_size;
  room = λ none. (subst (λ (f : Option Object). FitsFound f source target) none may.fits
      (λ same. (let on = eq-eqb source.directory.value target.directory.value same in let off = apart in cc))).size;
  is_name = may.is_name;
}

pub later_fits : {source : Source} {target : Target} → MayMove source target → {from to holder : Header} → from ≡ first_holder source target
    → to ≡ second_linked source target → holder ≡ (if source.directory.value == target.directory.value then shrunk from else to)
    → FitsLater target holder
later_fits {source} {target} may first second is =
    subst (FitsLater target) (sym (is ∙ (λ i. if source.directory.value == target.directory.value then shrunk (first i) else second i)))
    (later_by source target may (source.directory.value == target.directory.value) refl)
