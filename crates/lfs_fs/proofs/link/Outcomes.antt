-- The call link, where its first path names an object: the second path, the rule of a new entry, and what is drafted.
use Rattle.lfs_fs.proofs.Prelude.{◌≡◌, ◌<◌, ◌≤◌, ◌||◌, ℕ, Bool, false, List, Option, Some, None, Result, Ok, Err, refl, sym, ◌∙◌, ap, subst}
use Rattle.lfs_fs.proofs.Prelude.{⊎_elim, arith, AreBytes, LinkTo, Refuse, DeviceState, IsLawful, last_dots, Tree, links, Store, files_of}
use Rattle.lfs_fs.proofs.Prelude.{Last, EndsParent, last_says, Entry, EntryFault, FsError, Fs, error_of_entry, BeginsAt, FindsPlace}
use Rattle.lfs_fs.proofs.Prelude.{LacksPlace, Reaches, refusal_of, IsReady, OnlyReads, seen, Serves, segments_of, IsLink, Enters, ChecksNew}
use Rattle.lfs_fs.proofs.Prelude.{new_dots, dots_is, entry_is, kind_is, short_is, slash_is}
use Rattle.lfs_model.specs.Refusal as refusals
use Rattle.lfs_files.specs.declared.header.Header.{Header}
use Rattle.lfs_files.specs.Headers.{as_header}
use Rattle.lfs_entries.specs.OldEntries.{HasEntry}
use Rattle.lfs_fs.specs.declared.error.FsError.TheVariants as error
use Rattle.lfs_fs.proofs.calls.Files.{In, IsBegun, ReadsTo, RedraftsTo, has_in, read_still, refused_after, was, with_store}
use Rattle.lfs_steps.proofs.link.Steps.{NamesObject, link_asks, link_many, second_refused}
use Rattle.lfs_fs.proofs.new_entries.Rule.{RuleTold, at, begun, enters, rule_refused}
use Rattle.lfs_fs.proofs.old_entries.Explained.{plain_so}
use Rattle.lfs_fs.proofs.paths.Later.{later_reaches, later_refused}
use Rattle.lfs_fs.proofs.paths.Places.{ready_after}
use Rattle.lfs_fs.proofs.calls.Reads.{refused_serves}

-- ---- the first path names an object
module _ {D : Type 0} {state : D → DeviceState} (lawful : (d : D) → IsLawful (state d)) {old f : Fs D} {a : List ℕ} {da : ℕ} {la : Last}
    (begins : BeginsAt state old f a da la) (store : Store D) (reads : ReadsTo state f store)
    {e : Entry} (has : HasEntry (files_of state f.store) (files_of state store) da la.name.now la.slash e) where
  pub names_object : In state (seen old) (with_store f store) (λ m s. NamesObject m s a da e.object.number.value e.object.header)
  names_object k m0 m s keeps is =
      let g = at begins store reads k m0 m s keeps is in
      let object = e.object.header in
      let looks = has.finds.looks m m keeps (has_in (begun begins) is) in
      record {
        walk = g.walk;
        named = dots_is g ∙ has.finds.named;
        short = short_is g e.holder looks.looks.header has.finds.short;
        found = entry_is g looks.looks;
        ends = slash_is g ∙ has.plain;
        plain = kind_is g e.holder looks.looks.header la.name.now (sym looks.looks.gives) object looks.there
            ∙ plain_so object.kind has.other;
        there = looks.there;
      }

-- ---- then the second path is walked
module _ {D : Type 0} {state : D → DeviceState} (lawful : (d : D) → IsLawful (state d)) (old : Fs D) {f : Fs D}
    (begun : IsBegun state (seen old) f)
    {next : Fs D} (later : OnlyReads state f next) (b : List ℕ) (bytes : AreBytes b) where
  reaches : (d : ℕ) {piece : Option Last} → FindsPlace state f next b d piece → Reaches state (seen old) next b d piece
  reaches d {piece} finds = later_reaches lawful begun.still (was state lawful (seen old) f begun) begun.ready.empty
      later begun.drafted b bytes {d = d} {piece = piece} finds.last finds.walks

  ready : IsReady next
  ready = ready_after state begun.ready later

  pub second_begins : {d : ℕ} {l : Last} → FindsPlace state f next b d (Some l) → BeginsAt state old next b d l
  second_begins {d} {l} finds = record { reached = reaches d finds; ready = ready }

  -- it isn't walked to its end, or has no piece
  module _ (a : List ℕ) (da n : ℕ) (object : Header) (names : In state (seen old) f (λ m s. NamesObject m s a da n object)) where
    names_now : In state (seen old) next (λ m s. NamesObject m s a da n object)
    names_now k m0 m s keeps is = names k m0 m s (later.still.reads.looks.carries.kept_before keeps) is

    unnamed : {d : ℕ} → FindsPlace state f next b d None → Serves state (seen old) (seen next) (LinkTo a b) (Refuse refusals.Exist)
    unnamed {d} finds =
        let reached = reaches d finds in
        refused_serves {call = LinkTo a b} (lawful (seen old).log.device) reached.still (was state lawful (seen old) f begun) tt refl
        (λ k m0 m s keeps is.
        new_dots (link_asks (segments_of (seen old)) b (names_now k m0 m s keeps is) d (reached.walk k m0 m s keeps is))
        (ap (λ (x : Bool). x || last_dots b) (last_says b None reached.last)))

    pub second_lacks : (why : FsError) → LacksPlace state f next b error.Exist why
        → Serves state (seen old) (seen next) (LinkTo a b) (Refuse (refusal_of why))
    second_lacks why = ⊎_elim
        (λ fails.
        later_refused lawful begun.still (was state lawful (seen old) f begun) begun.ready.empty later
        (EndsParent b) {call = LinkTo a b} refl refl refl
        (λ k m0 m s keeps is r w. second_refused (segments_of (seen old)) b (names_now k m0 m s keeps is) r w) fails.is
        fails.ends fails.halted fails.other)
        (λ lacks. subst (λ (x : FsError). Serves state (seen old) (seen next) (LinkTo a b) (Refuse (refusal_of x))) (sym lacks.0)
        (unnamed lacks.1.1))

-- ---- and the rule of a new entry is asked
module _ {D : Type 0} (state : D → DeviceState) (lawful : (d : D) → IsLawful (state d)) {old f next : Fs D} (later : OnlyReads state f next)
    {b : List ℕ} {d : ℕ} {l : Last} (second : BeginsAt state old next b d l) {a : List ℕ} (a_bytes : AreBytes a) (da n : ℕ)
    (object : Header) (names : In state (seen old) f (λ m s. NamesObject m s a da n object)) (store : Store D) where
  abbrev N : ℕ
  N = segments_of (seen old)

  module _ {result : Result Header EntryFault} (rule : RuleTold (files_of state next.store) (files_of state store) d l false result) where
    abbrev reads : ReadsTo state next store
    reads = rule.only.reads

    names_then : In state (seen old) (with_store next store) (λ m s. NamesObject m s a da n object)
    names_then k m0 m s keeps is = names k m0 m s (later.still.reads.looks.carries.kept_before (reads.looks.carries.kept_before keeps)) is

    asks : In state (seen old) (with_store next store) (λ m s. ChecksNew N s b d (LinkTo a b) false)
    asks k m0 m s keeps is = link_asks N b (names_then k m0 m s keeps is) d (at second store reads k m0 m s keeps is).walk

  pub name_refused : (why : EntryFault) → RuleTold (files_of state next.store) (files_of state store) d l false (Err why)
      → Serves state (seen old) (seen (with_store next store)) (LinkTo a b) (Refuse (refusal_of (error_of_entry why)))
  name_refused why rule = rule_refused second lawful store refl refl refl false (asks rule) why rule

  module _ (head : Header) (rule : RuleTold (files_of state next.store) (files_of state store) d l false (Ok head)) where
    entering : In state (seen old) (with_store next store) (λ m s. Enters N m s b d l false head)
    entering = enters second store false head rule

    -- the object has all the links that it may have
    pub many_refused : 1000 ≤ object.links
        → Serves state (seen old) (seen (with_store next store)) (LinkTo a b) (Refuse refusals.TooManyLinks)
    many_refused many =
        refused_after state lawful (seen old) next (begun second) store
        (read_still next store rule.only.reads) (LinkTo a b) refl refl refl refusals.TooManyLinks tt (λ k m0 m s keeps is.
        let here = names_then rule k m0 m s keeps is in
        let g = entering k m0 m s keeps is in
        let same : object.links ≡ links s.tree n
        = is.log.links n (as_header object) here.there ∙ ap (λ (t : Tree). links t n) (sym is.log.is) in
        link_many N b here d g.at.walk g.taken (omega (arith, same, many)))

    -- it gets the name
    pub may_link : object.links < 1000 → (drafted : Store D) → RedraftsTo state (with_store next store) drafted
        → In state (seen old) (with_store next drafted) (λ m s. IsLink N m s a b da d l head n object)
    may_link few drafted redrafts k m0 m s after is =
        let keeps = redrafts.looks.carries.kept_before after in
        record { enters = entering k m0 m s keeps is; names = names_then rule k m0 m s keeps is; few = few; bytes = a_bytes }
