-- The names of a directory told one after the other.
use Rattle.std.proofs.Common.{◌≡◌, ℕ, suc, List, [], ◌∷◌, ◌++◌, length, refl, sym, ◌∙◌, ap, subst, append_assoc, append-nil, arith}
use Rattle.lfs_model.specs.Stands.{LogMap}
use Rattle.lfs_model.specs.Tree.{Names}
use Rattle.lfs_files.specs.declared.fault.StoreFault.{StoreFault}
use Rattle.lfs_files.specs.declared.fault.StoreFault.TheVariants as store
use Rattle.lfs_files.specs.declared.header.Header.{Header}
use Rattle.lfs_files.specs.Files.{FilesState, Reads}
use Rattle.lfs_files.proofs.FilesCompose.{reads_more, reads_none}
use Rattle.lfs_model.specs.Device.{IsLawful}
use Rattle.lfs_path.specs.dirs.declared.entry.Entry.{Entry}
use Rattle.lfs_path.specs.dirs.Directory.{names_at}
use Rattle.lfs_path.specs.dirs.Finding.{IsDirectoryFault}
use Rattle.lfs_path.specs.dirs.Listing.{Lists, pair, pairs}
use Rattle.lfs_path.specs.Seeing.{HasHeader, HasObject}
use Rattle.lfs_path.specs.Telling.{Tells}
use Rattle.lfs_path.proofs.Sights.{fails_then}
use Rattle.lfs_entries.specs.declared.fault.EntryFault.{EntryFault}
use Rattle.lfs_entries.specs.declared.fault.EntryFault.TheVariants as fault
use Rattle.lfs_entries.specs.declared.rows.ListedEntry.{ListedEntry}
use Rattle.lfs_entries.specs.declared.rows.TreeRow.{TreeRow}
use Rattle.lfs_entries.specs.Faults.{fault_of_store}
use Rattle.lfs_entries.specs.Reading.{ShowsHead}
use Rattle.lfs_entries.specs.Rows.{AreThere, AreTold, IsListable, IsListed, IsRow}
use Rattle.lfs_entries.specs.Telling.{FailsWhere, InEach}

-- ---- lists

told_more : {T : Type 0} (R : List ℕ × ℕ → T → Type 0) (ps : Names) (ts : List T) (p : List ℕ × ℕ) (t : T) → AreTold R ps ts → R p t
    → AreTold R (ps ++ p ∷ []) (ts ++ t ∷ [])
told_more R [] [] p t all one = (one, tt)
told_more R [] (u ∷ us) p t all one = absurd all
told_more R (q ∷ qs) [] p t all one = absurd all
told_more R (q ∷ qs) (u ∷ us) p t all one = (all.0, told_more R qs us p t all.1 one)

pairs_more : (es : List Entry) (e : Entry) → pairs (es ++ e ∷ []) ≡ pairs es ++ pair e ∷ []
pairs_more [] e = refl
pairs_more (x ∷ es) e = ap (λ (l : Names). pair x ∷ l) (pairs_more es e)

there_at : (m : LogMap) (done rest : List Entry) (e : Entry) → AreThere (pairs (done ++ e ∷ rest)) m → HasObject e.number.value m
there_at m [] rest e all = all.0
there_at m (x ∷ done) rest e all = there_at m done rest e all.1

nothing_left : {X : Type 0} (l : List X) → length l ≡ 0 → l ≡ []
nothing_left [] h = refl
nothing_left (x ∷ xs) h = absurd (omega (arith, h))

-- ---- faults behind calls that read

pub fails_where : {S D : Type 0} {s a : FilesState S D} (s' : FilesState S D) (P Q : LogMap → Type 0) → Reads s a
    → ((m m' : LogMap) → s'.device.keeps_model → s.has m m' → P m' → Q m') → (why : EntryFault) → FailsWhere a s' Q why
    → FailsWhere s s' P why
fails_where s' P Q one so fault.NoEntry never = never
fails_where s' P Q one so fault.NotDir never = never
fails_where s' P Q one so fault.IsDir never = never
fails_where s' P Q one so fault.Exist never = never
fails_where s' P Q one so fault.NotEmpty never = never
fails_where s' P Q one so fault.Inval never = never
fails_where s' P Q one so fault.NameTooLong never = never
fails_where s' P Q one so fault.Perm never = never
fails_where s' P Q one so fault.TooManyLinks never = never
fails_where s' P Q one so fault.DirFull never = never
fails_where s' P Q one so fault.NoMemory memory = tt
fails_where {s} {a} s' P Q one so (fault.Log f) failed = fails_then s' P Q one so failed

-- the names themselves aren't listed
pub fails_list : {S D : Type 0} (s s' : FilesState S D) (d : ℕ) (head : Header) (f : StoreFault)
    → ((f ≡ store.NoMemory → ⊥) → IsDirectoryFault s s' d head) → FailsWhere s s' (IsListable d head) (fault_of_store f)
fails_list s s' d head store.NoMemory failed = tt
fails_list s s' d head (store.Log f) failed = λ m m' keeps has is. failed (λ same. cc) m m' keeps has is.directory

-- ---- behind the names
module _ {S D T : Type 0} (R : LogMap → List ℕ × ℕ → T → Type 0) {s a s' : FilesState S D} (d : ℕ) (head : Header) (es : List Entry)
    (one : Reads s a) (two : Reads a s') (lists : Lists s a d head es) where
  pub listed_told : (ts : List T) → InEach a s' (λ m. AreTold (R m) (pairs es) ts)
      → InEach s s' (λ m. AreTold (R m) (names_at m d head) ts)
  listed_told ts told m m' keeps has = subst (λ (ps : Names). AreTold (R m') ps ts)
      (lists m m' (two.looks.carries.kept_before keeps) has) (told m m' keeps (one.has m m' has))

  pub listed_fails : (why : EntryFault) → FailsWhere a s' (AreThere (pairs es)) why → FailsWhere s s' (IsListable d head) why
  listed_fails = fails_where s' (IsListable d head) (AreThere (pairs es)) one
      (λ m m' keeps has is. subst (λ (ps : Names). AreThere ps m')
      (sym (lists m m' (two.looks.carries.kept_before keeps) has)) is.there)

-- ---- one after the other

-- So many are told, and these are left.
pub record ToldSoFar {S D T : Type 0} (R : LogMap → List ℕ × ℕ → T → Type 0) (s a : FilesState S D) (es done rest : List Entry) (left : ℕ)
    (ts : List T) : Type 0 where
  pub reads : Reads s a
  pub all : done ++ rest ≡ es
  pub long : left ≡ length rest
  pub told : InEach s a (λ m. AreTold (R m) (pairs done) ts)

module _ {S D T : Type 0} {R : LogMap → List ℕ × ℕ → T → Type 0} where
  pub told_none : {s : FilesState S D} {es rest : List Entry} {left : ℕ} {ts : List T} → rest ≡ es → left ≡ length rest → ts ≡ []
      → ToldSoFar R s s es [] rest left ts
  told_none {s} all long none = record {
    reads = reads_none s;
    all = all;
    long = long;
    told = λ m m' keeps has. subst (λ (l : List T). AreTold (R m') [] l) (sym none) tt;
  }

  module _ {s a s' : FilesState S D} {es done before rest : List Entry} {left : ℕ} {was : List T}
      (so : ToldSoFar R s a es done before left was) {e : Entry} (steps : before ≡ e ∷ rest) (next : Reads a s') where
    pub told_next : IsLawful s.device → {left' : ℕ} → left ≡ suc left' → (t : T) {now : List T} → now ≡ was ++ t ∷ []
        → InEach a s' (λ m. R m (pair e) t) → ToldSoFar R s s' es (done ++ e ∷ []) rest left' now
    told_next lawful gone t put one = record {
      reads = reads_more lawful so.reads next;
      all = append_assoc done (e ∷ []) rest ∙ ap (λ (l : List Entry). done ++ l) (sym steps) ∙ so.all;
      long = (let long = so.long in let short = ap length steps in omega (arith, long, short, gone));
      told = λ m m' keeps has.
          subst (AreTold (R m') (pairs (done ++ e ∷ []))) (sym put)
          (subst (λ (ps : Names). AreTold (R m') ps (was ++ t ∷ [])) (sym (pairs_more done e))
          (told_more (R m') (pairs done) was (pair e) t (so.told m m' (next.looks.carries.kept_before keeps) has)
          (one m m' keeps (so.reads.has m m' has))));
    }

    pub told_fails : (why : EntryFault) → FailsWhere a s' (HasObject e.number.value) why → FailsWhere s s' (AreThere (pairs es)) why
    told_fails = fails_where s' (AreThere (pairs es)) (HasObject e.number.value) so.reads
        (λ m m' keeps has all. there_at m' done rest e
        (subst (λ (l : List Entry). AreThere (pairs l) m') (sym so.all ∙ ap (λ (l : List Entry). done ++ l) steps) all))

  pub told_all : {s a : FilesState S D} {es done rest : List Entry} {left : ℕ} {ts : List T} → ToldSoFar R s a es done rest left ts
      → left ≡ 0 → InEach s a (λ m. AreTold (R m) (pairs es) ts)
  told_all {s} {a} {done} {rest} {ts} so none =
      let empty : rest ≡ [] = nothing_left rest (let long = so.long in omega (arith, long, none)) in
      subst (λ (l : List Entry). InEach s a (λ m. AreTold (R m) (pairs l) ts))
      (sym (append-nil done) ∙ ap (λ (l : List Entry). done ++ l) (sym empty) ∙ so.all) so.told

-- ---- one of them

-- an entry, by the header that was read
pub entry_listed : {S D : Type 0} (s s' : FilesState S D) (e : Entry) (head : Header)
    → Tells s s' (λ m. Unit {0}) (HasHeader e.number.value head)
    → (t : ListedEntry) → t.name ≡ e.name → t.number ≡ e.number.value → t.kind ≡ head.kind → InEach s s' (λ m. IsListed m (pair e) t)
entry_listed s s' e head header t name number kind m m' keeps has =
    record { name = ap (λ v. v.items) name; number = number; head = head; header = header m m' keeps has tt; kind = kind }

-- a row, with the beginning of its object
pub row_listed : {S D : Type 0} {s a s' : FilesState S D} {d : ℕ} (e : Entry) (head : Header) → Reads s a → Reads a s'
    → Tells s a (λ m. Unit {0}) (HasHeader e.number.value head) → (t : TreeRow) → t.directory ≡ d → t.name ≡ e.name
    → t.number ≡ e.number.value → t.kind ≡ head.kind → t.links ≡ head.links → t.size ≡ head.size
    → InEach a s' (λ m. ShowsHead m e.number.value head head.kind t.head.items) → InEach s s' (λ m. IsRow m d (pair e) t)
row_listed e head one two header t directory name number kind links size shown m m' keeps has = record {
  directory = directory;
  name = ap (λ v. v.items) name;
  number = number;
  head = head;
  header = header m m' (two.looks.carries.kept_before keeps) has tt;
  kind = kind;
  links = links;
  size = size;
  shown = shown m m' keeps (one.has m m' has);
}
