-- Names drafted away, behind a link of what they give.
use Rattle.std.proofs.Common.{◌≡◌, ◌≢◌, ◌<◌, ℕ, Bool, true, false, List, length, Some, refl, sym, ◌∙◌, ap, subst, arith}
use Rattle.std.specs.FinMap.{find}
use Rattle.lfs_model.specs.Changing.{IsWithHeader}
use Rattle.lfs_model.specs.Encodes.{IsLogMap}
use Rattle.lfs_model.specs.Objects.{AreLong}
use Rattle.lfs_model.specs.Stands.{LogMap}
use Rattle.lfs_model.specs.Tree.{byte_cmp}
use Rattle.lfs_files.specs.declared.header.Header.{Header}
use Rattle.lfs_files.specs.Files.{Counts, FilesState, HasFile, Redrafts}
use Rattle.lfs_files.specs.Headers.{as_header}
use Rattle.lfs_files.specs.Making.{CountsRelinked, Removes}
use Rattle.lfs_path.specs.dirs.Taking.{CountsDropped, Takes}
use Rattle.lfs_path.proofs.of_dirs.SlotsKept.{directory_stays}
use Rattle.lfs_entries.specs.declared.entry.Entry.{Entry}
use Rattle.lfs_entries.specs.declared.fault.EntryFault.{EntryFault}
use Rattle.lfs_entries.specs.declared.fault.EntryFault.TheVariants as fault
use Rattle.lfs_entries.specs.Drafting.{HasNamed, Relinks}
use Rattle.lfs_entries.specs.Entries.{is_directory}
use Rattle.lfs_entries.specs.OldNames.{CountsDrop, CountsLoss, DraftsDrop, HasBoth, HasOld, Loses, LosesLink, holder_without, stays}
use Rattle.lfs_entries.specs.Telling.{FailsWhere}
use Rattle.lfs_entries.proofs.NewNames.{apart_same}

-- ---- an object loses a link

module _ {S D : Type 0} (s s' : FilesState S D) (n : ℕ) (h : Header) where
  pub loss_goes : Removes s s' n → Loses s s' n h false
  loss_goes gone = record {
    apart = λ k other was. gone.apart k other;
    own = λ (never : false ≡ true). cc;
    fits = λ m m' has fits takes. gone.fits m;
    has = λ m m' has. (let f = gone.has m m' has in
        record { map = f.map; has = f.has; file = f.file; keeps = λ log there. f.keeps log });
  }

  pub keeps_counted : CountsRelinked s s' n h → CountsLoss s s' n h
  keeps_counted counts m a b keeps has has' log log' there = counts m a b has has' there

  pub goes_counted : Counts s s' → CountsLoss s s' n h
  goes_counted counts m a b keeps has has' log log' there = counts m a b keeps has has' log log'

-- ---- it, then a link of its directory, and then its name
module _ {S D : Type 0} (s a b s' : FilesState S D) (d : ℕ) (e : Entry) (is_open : Bool) (name : List ℕ)
    (one : Redrafts s a) (two : Redrafts a b) (three : Redrafts b s')
    (loses : Loses s a e.object.number.value e.object.header (stays e.object.header is_open))
    (links : Relinks a b (is_directory e.object.header.kind) d e.holder (holder_without e).links) where
  abbrev n : ℕ
  n = e.object.number.value

  abbrev stay : Bool
  stay = stays e.object.header is_open

  -- other objects are as they were
  other_header : (t : Bool) (m m' : LogMap) → LosesLink t m m' n e.object.header → d ≢ n → m'.header d ≡ m.header d
  other_header true m m' is other = is.others d other
  other_header false m m' is other = is.headers d other

  other_blocks : (t : Bool) (m m' : LogMap) → LosesLink t m m' n e.object.header → d ≢ n → (i : ℕ) → m'.block d i ≡ m.block d i
  other_blocks true m m' is other i = is.block d i
  other_blocks false m m' is other i = is.blocks d i other

  module _ (m m' : LogMap) (has : s.has m m') (both : HasBoth d e m') where
    abbrev lost : LogMap
    lost = (loses.has m m' has).map

    lost_has : a.has m lost
    lost_has = (loses.has m m' has).has

    lost_log : IsLogMap lost
    lost_log = (loses.has m m' has).keeps both.map both.object both.not_root

    there : lost.header d ≡ Some (as_header e.holder)
    there = other_header stay m' lost (loses.has m m' has).file both.other ∙ both.holder

    abbrev linked : LogMap
    linked = (links.has m lost lost_has).map

    linked_has : b.has m linked
    linked_has = (links.has m lost lost_has).has

    with_links : IsWithHeader lost d (Some (as_header (holder_without e))) linked
    with_links = (links.has m lost lost_has).file there

    linked_file : HasFile linked d (holder_without e)
    linked_file = record { map = (links.has m lost lost_has).keeps lost_log (λ changes. there); there = with_links.own }

    same_blocks : (i : ℕ) → linked.block d i ≡ m'.block d i
    same_blocks i = with_links.block d i ∙ other_blocks stay m' lost (loses.has m m' has).file both.other i

    still_long : AreLong m' d → AreLong linked d
    still_long long i some = ap length (same_blocks i) ∙ long i (subst (λ (l : List ℕ). 0 < length l) (same_blocks i) some)

    still_named : HasNamed d e.holder name m' → HasNamed d (holder_without e) name linked
    still_named named =
        let stay = directory_stays m' linked d e.holder (holder_without e) same_blocks refl refl named.directory in
        record { directory = stay.0; there = λ none. named.there (ap (find byte_cmp name) (sym stay.1) ∙ none) }

  -- a name that isn't taken out
  pub drop_fails : (why : EntryFault) → FailsWhere b s' (HasNamed d (holder_without e) name) why → FailsWhere s s' (HasOld d e name) why
  drop_fails fault.NoEntry never = never
  drop_fails fault.NotDir never = never
  drop_fails fault.IsDir never = never
  drop_fails fault.Exist never = never
  drop_fails fault.NotEmpty never = never
  drop_fails fault.Inval never = never
  drop_fails fault.NameTooLong never = never
  drop_fails fault.Perm never = never
  drop_fails fault.TooManyLinks never = never
  drop_fails fault.DirFull never = never
  drop_fails fault.NoMemory memory = tt
  drop_fails (fault.Log f) failed = λ m m' keeps has old. (
      let rose = failed m (linked m m' has old.both) keeps (linked_has m m' has old.both) (still_named m m' has old.both old.named) in
      let first = one.looks.carries.failures in
      let second = two.looks.carries.failures in
      omega (arith, rose, first, second))

  module _ (takes : Takes b s' d (holder_without e) name) where
    pub drop_drafted : DraftsDrop s s' d e is_open name
    drop_drafted = record {
      apart = λ k other was.
          apart_same b s' takes.drops.lost (apart_same a b links.lost (loses.apart k other was));
      fits = λ m m' keeps has fits may.
          let both = may.both in
          takes.drops.fits m (linked m m' has both) keeps (linked_has m m' has both)
          (links.fits m (lost m m' has both) (lost_has m m' has both) (loses.fits m m' has fits may.object) (λ changes. record {
            there = there m m' has both;
            linked = may.linked;
            apart = (loses.apart d both.other may.apart).inode;
            header = may.links;
          })) record {
            staged = may.staged;
            there = (with_links m m' has both).own;
            header = may.shorter;
            apart = apart_same a b links.lost (loses.apart d both.other may.apart);
          };
      has = λ m m' keeps has both.
          let f = takes.has m (linked m m' has both) keeps (linked_has m m' has both) in record {
            lost = lost m m' has both;
            linked = linked m m' has both;
            map = f.map;
            has = f.has;
            loses = (loses.has m m' has).file;
            links = with_links m m' has both;
            same = (links.has m (lost m m' has both) (lost_has m m' has both)).same;
            untied = record {
              cut = f.file (linked_file m m' has both);
              names = f.names (linked_file m m' has both);
            };
          };
    }

  pub drop_counted : CountsLoss s a n e.object.header → CountsDropped b s' d (holder_without e)
      → CountsDrop s s' d e
  drop_counted losses drops m x y keeps has has' both long log' are =
      drops m (linked m x has both) y keeps (linked_has m x has both) has' (linked_file m x has both) (still_long m x has both long) log'
      ((links.has m (lost m x has both) (lost_has m x has both)).counted (λ changes. there m x has both)
      (losses m x (lost m x has both) (two.looks.carries.kept_before (three.looks.carries.kept_before keeps)) has (lost_has m x has both)
      both.map (lost_log m x has both) both.object are))
