-- What a sector spells, as a function: the laws that every decoder meets.
use Rattle.std.proofs.Common.{◌≡◌, ◌≤◌, ◌<◌, ◌+◌, ◌-◌, ◌*◌, ◌^◌, ◌↔◌, ◌&&◌, ◌==◌, Bool, true, false, cond, nat_le, nat_lt, not, ℕ, zero}
use Rattle.std.proofs.Common.{suc, List, [], ◌∷◌, length, get_or, drop, Option, Some, None, IfSome, IfNone, refl}
use Rattle.std.proofs.Common.{sym, ap, subst, ◌∙◌, arith}
use Rattle.std.proofs.lemmas.Bool.{and_from, and_parts, leb-true, le-leb, ltb-true, lt-ltb, eqb-true, eq-eqb, ne_eqb}
use Rattle.std.proofs.lemmas.List.{get_or-drop, length-drop}
use Rattle.std.proofs.lemmas.Slice.Eq.{bytes_eq-Decides}
use Rattle.std.specs.List.{list_all}
use Rattle.std.specs.Str.{bytes_eq}
use Rattle.lfs_model.specs.declared.Kind.{Kind}
use Rattle.lfs_model.specs.declared.Kind.TheVariants.{File, Directory, Link}
use Rattle.lfs_model.specs.declared.BlockKind.{BlockKind}
use Rattle.lfs_model.specs.declared.BlockKind.TheVariants.{Data, Leaf, Double, Inode, Map, Usage}
use Rattle.lfs_model.specs.Fields.{value_in, read32}
use Rattle.lfs_model.specs.Checkpoint.{CheckpointValue, FitsCheckpoint, IsSegmentCount, IsVersion, checkpoint_in, checkpoint_of}
use Rattle.lfs_model.specs.Checkpoint.{checkpoint_sector, is_segment_count, is_version, may_be_checkpoint, most_unit_power}
use Rattle.lfs_model.specs.Inode.{InodeValue, FitsInode, IsForm, IsSize, inode_in, inode_of, inode_sector, is_form, is_size, may_be_inode}
use Rattle.lfs_model.specs.Summary.{BlockNameValue, FitsSummary, IsPlaced, blocks_of, is_placed, may_be_summary, no_block, summary_in}
use Rattle.lfs_model.specs.Summary.{summary_sector}
use Rattle.lfs_model.specs.Slot.{SlotValue, FitsSlot, IsName, is_name, may_be_slot, slot_bytes, slot_in, slot_of}
use Rattle.lfs_model.specs.Tree.{name_len, slot_len}
use Rattle.lfs_model.specs.Usage.{SegmentUse, FitsUsage, IsUse, IsUnused, is_use, is_unused, may_be_usage, no_use, usage_in, usage_of}
use Rattle.lfs_model.specs.Usage.{usage_sector, use_at}
use Rattle.lfs_model.proofs.Numbers.{IsBytes}
use Rattle.lfs_model.proofs.Parts.{read32-lt, read64-lt}
use Rattle.lfs_model.proofs.Runs.{length-run, numbers_fit}
use Rattle.lfs_model.proofs.CheckpointPlaces.{checkpoint_back}
use Rattle.lfs_model.proofs.InodePlaces.{inode_back}
use Rattle.lfs_model.proofs.SummaryPlaces.{summary_back}
use Rattle.lfs_model.proofs.SlotPlaces.{slot_back}
use Rattle.lfs_model.proofs.UsagePlaces.{usage_back, use_in}

-- ---- for any kind of value
only_cases : {X : Type 0} (b : Bool) (x v : X) → cond b (Some x) None ≡ Some v → (b ≡ true) × (x ≡ v)
only_cases true x v e = (refl, cc)
only_cases false x v e = cc

only_none : {X : Type 0} (b : Bool) (x : X) → (b ≡ true → ⊥) → cond b (Some x) None ≡ None
only_none true x never = absurd (never refl)
only_none false x never = refl

pub value_some : {X : Type 0} (of : List ℕ → X) (fits : X → Bool) (spell : X → List ℕ) (s : List ℕ) (v : X)
    → of s ≡ v → fits v ≡ true → s ≡ spell v → value_in of fits spell s ≡ Some v
value_some of fits spell s v is fit e =
    let fit' : fits (of s) ≡ true = ap fits is ∙ fit in
    let same : bytes_eq s (spell (of s)) ≡ true = (bytes_eq-Decides s (spell (of s))).1 (e ∙ ap spell (sym is)) in
    let both : (fits (of s) && bytes_eq s (spell (of s))) ≡ true = and_from (fits (of s)) (bytes_eq s (spell (of s))) fit' same in
    ap (λ b. cond b (Some (of s)) None) both ∙ ap Some is

pub value_found : {X : Type 0} (of : List ℕ → X) (fits : X → Bool) (spell : X → List ℕ) (s : List ℕ) (v : X)
    → value_in of fits spell s ≡ Some v → (of s ≡ v) × (fits (of s) ≡ true) × (s ≡ spell v)
value_found of fits spell s v e =
    let only = only_cases (fits (of s) && bytes_eq s (spell (of s))) (of s) v e in
    let parts = and_parts (fits (of s)) (bytes_eq s (spell (of s))) only.0 in
    (only.1, parts.0, (bytes_eq-Decides s (spell (of s))).0 parts.1 ∙ ap spell only.1)

pub value_is : {X : Type 0} (of : List ℕ → X) (fits : X → Bool) (spell : X → List ℕ) (s : List ℕ) (r : Option X)
    → IfSome r (λ v. (of s ≡ v) × (fits v ≡ true) × (s ≡ spell v)) → IfNone r (fits (of s) ≡ true → s ≡ spell (of s) → ⊥)
    → r ≡ value_in of fits spell s
value_is of fits spell s (Some v) found none = sym (value_some of fits spell s v found.0 found.1 found.2)
value_is of fits spell s None found none =
    sym (only_none (fits (of s) && bytes_eq s (spell (of s))) (of s) (λ yes.
    let parts = and_parts (fits (of s)) (bytes_eq s (spell (of s))) yes in
    none parts.0 ((bytes_eq-Decides s (spell (of s))).0 parts.1)))

-- ---- checkpoints
count_test : (n : ℕ) → IsSegmentCount n → is_segment_count n ≡ true
count_test n is = and_from _ _ (le-leb 64 n is.least) (and_from _ _ (le-leb n 1024 is.most) (eq-eqb _ 0 is.eighths))

count_from : (n : ℕ) → is_segment_count n ≡ true → IsSegmentCount n
count_from n e =
    let a = and_parts _ _ e in
    let b = and_parts _ _ a.1 in
    record { least = leb-true 64 n a.0; most = leb-true n 1024 b.0; eighths = eqb-true _ 0 b.1 }

version_test : (v : ℕ) → IsVersion v → is_version v ≡ true
version_test v is = and_from _ _ (le-leb 1 v is.0) (le-leb v 3 is.1)

pub version_from : (v : ℕ) → is_version v ≡ true → IsVersion v
version_from v e = let a = and_parts (nat_le 1 v) (nat_le v 3) e in (leb-true 1 v a.0, leb-true v 3 a.1)

checkpoint_test : (c : CheckpointValue) → FitsCheckpoint c → may_be_checkpoint c ≡ true
checkpoint_test c p = and_from _ _ (version_test c.version p.version) (and_from _ _ (le-leb c.unit_power (most_unit_power c.version) p.unit)
    (and_from _ _ (le-leb 1 c.number p.number) (count_test c.segments p.segments)))

checkpoint_from : (s : List ℕ) → IsBytes s → length s ≡ 512 → may_be_checkpoint (checkpoint_of s) ≡ true → FitsCheckpoint (checkpoint_of s)
checkpoint_from s bytes long e =
    let v = and_parts _ _ e in
    let w = and_parts _ _ v.1 in
    let a = and_parts _ _ w.1 in record {
      number = leb-true 1 _ a.0;
      number_fits = read64-lt 8 s bytes (omega arith);
      segments = count_from _ a.1;
      version = version_from _ v.0;
      unit = leb-true _ _ w.0;
      map_length = length-run read32 4 32 32 s;
      map_fits = numbers_fit 32 32 s bytes (omega arith);
      usage_length = length-run read32 4 16 160 s;
      usage_fits = numbers_fit 16 160 s bytes (omega arith);
    }

-- a checkpoint that fits is what its sector spells
pub checkpoint_some : (s : List ℕ) (c : CheckpointValue) → FitsCheckpoint c → s ≡ checkpoint_sector c → checkpoint_in s ≡ Some c
unfolding checkpoint_in
checkpoint_some s c p e = value_some checkpoint_of may_be_checkpoint checkpoint_sector s c
    (ap (λ (x : List ℕ). checkpoint_of x) e ∙ checkpoint_back c p) (checkpoint_test c p) e

-- and nothing else is
pub checkpoint_found : (s : List ℕ) (c : CheckpointValue) → IsBytes s → length s ≡ 512 → checkpoint_in s ≡ Some c
    → FitsCheckpoint c × (s ≡ checkpoint_sector c)
unfolding checkpoint_in
checkpoint_found s c bytes long e =
    let v = value_found checkpoint_of may_be_checkpoint checkpoint_sector s c e in
    (subst FitsCheckpoint v.0 (checkpoint_from s bytes long v.1), v.2)

-- what decodes both ways gives what the sector spells
pub checkpoint_is : (s : List ℕ) → IsBytes s → length s ≡ 512 → (r : Option CheckpointValue)
    → IfSome r (λ c. FitsCheckpoint c × (s ≡ checkpoint_sector c))
    → IfNone r ((c : CheckpointValue) → FitsCheckpoint c → ¬ (s ≡ checkpoint_sector c)) → r ≡ checkpoint_in s
unfolding checkpoint_in
checkpoint_is s bytes long (Some c) found none = sym (checkpoint_some s c found.0 found.1)
checkpoint_is s bytes long None found none = value_is checkpoint_of may_be_checkpoint checkpoint_sector s None tt
    (λ fits e. none (checkpoint_of s) (checkpoint_from s bytes long fits) e)

-- ---- inodes
size_test : (form : ℕ) (k : Kind) (n : ℕ) → IsSize form k n → is_size form k n ≡ true
unfolding IsSize is_size
size_test form File n p = le-leb n 8511488 p
size_test form Directory n p = and_from _ _ (eq-eqb _ 0 p.0) (le-leb n (1024 * slot_len form) p.1)
size_test form Link n p = and_from _ _ (le-leb 1 n p.0) (le-leb n 1023 p.1)

size_from : (form : ℕ) (k : Kind) (n : ℕ) → is_size form k n ≡ true → IsSize form k n
unfolding IsSize is_size
size_from form File n e = leb-true n 8511488 e
size_from form Directory n e = let a = and_parts _ _ e in (eqb-true _ 0 a.0, leb-true n (1024 * slot_len form) a.1)
size_from form Link n e = let a = and_parts _ _ e in (leb-true 1 n a.0, leb-true n 1023 a.1)

form_test : (k : Kind) (f : ℕ) → IsForm 2 k f → is_form k f ≡ true
unfolding is_form
form_test File zero p = refl
form_test File (suc f) p = absurd (p)
form_test Directory zero p = refl
form_test Directory (suc f) p = le-leb (suc f) 1 (omega (arith, p.0))
form_test Link zero p = refl
form_test Link (suc f) p = absurd (p)

pub form_from : (k : Kind) (f : ℕ) → is_form k f ≡ true → IsForm 2 k f
unfolding is_form
form_from File f e = subst (IsForm 2 File) (sym (eqb-true f 0 e)) tt
form_from Directory zero e = omega arith
form_from Directory (suc f) e = let le = leb-true (suc f) 1 e in (omega (arith, le), omega arith)
form_from Link f e = subst (IsForm 2 Link) (sym (eqb-true f 0 e)) tt

-- each is a byte
pub form_small : (k : Kind) (f : ℕ) → IsForm 2 k f → f ≤ 1
form_small k zero p = omega arith
form_small File (suc f) p = absurd (p)
form_small Directory (suc f) p = omega (arith, p.0)
form_small Link (suc f) p = absurd (p)

within_test : (n most : ℕ) → (1 ≤ n) × (n ≤ most) → (nat_le 1 n && nat_le n most) ≡ true
within_test n most p = and_from _ _ (le-leb 1 n p.0) (le-leb n most p.1)

within_from : (n most : ℕ) → (nat_le 1 n && nat_le n most) ≡ true → (1 ≤ n) × (n ≤ most)
within_from n most e = let a = and_parts _ _ e in (leb-true 1 n a.0, leb-true n most a.1)

inode_test : (i : InodeValue) → FitsInode i → may_be_inode i ≡ true
inode_test i p = and_from _ _ (within_test i.number 4095 p.number) (and_from _ _ (within_test i.links 1000 p.links)
    (and_from _ _ (form_test i.kind i.form p.form) (size_test i.form i.kind i.size p.size)))

inode_from : (s : List ℕ) → IsBytes s → length s ≡ 512 → may_be_inode (inode_of s) ≡ true → FitsInode (inode_of s)
inode_from s bytes long e =
    let a = and_parts _ _ e in
    let b = and_parts _ _ a.1 in
    let f = and_parts _ _ b.1 in record {
      number = within_from _ 4095 a.0;
      links = within_from _ 1000 b.0;
      form = form_from _ _ f.0;
      size = size_from _ _ _ f.1;
      direct_length = length-run read32 4 112 32 s;
      direct_fits = numbers_fit 112 32 s bytes (omega arith);
      single_fits = read32-lt 480 s bytes (omega arith);
      double_fits = read32-lt 484 s bytes (omega arith);
    }

pub inode_some : (s : List ℕ) (i : InodeValue) → FitsInode i → s ≡ inode_sector i → inode_in s ≡ Some i
unfolding inode_in
inode_some s i p e =
    value_some inode_of may_be_inode inode_sector s i (ap (λ (x : List ℕ). inode_of x) e ∙ inode_back i p) (inode_test i p) e

pub inode_found : (s : List ℕ) (i : InodeValue) → IsBytes s → length s ≡ 512 → inode_in s ≡ Some i → FitsInode i × (s ≡ inode_sector i)
unfolding inode_in
inode_found s i bytes long e =
    let v = value_found inode_of may_be_inode inode_sector s i e in
    (subst FitsInode v.0 (inode_from s bytes long v.1), v.2)

pub inode_is : (s : List ℕ) → IsBytes s → length s ≡ 512 → (r : Option InodeValue)
    → IfSome r (λ i. FitsInode i × (s ≡ inode_sector i)) → IfNone r ((i : InodeValue) → FitsInode i → ¬ (s ≡ inode_sector i))
    → r ≡ inode_in s
unfolding inode_in
inode_is s bytes long (Some i) found none = sym (inode_some s i found.0 found.1)
inode_is s bytes long None found none =
    value_is inode_of may_be_inode inode_sector s None tt (λ fits e. none (inode_of s) (inode_from s bytes long fits) e)

-- ---- summaries
placed_test : (k : BlockKind) (f i : ℕ) → IsPlaced k f i → is_placed k f i ≡ true
unfolding IsPlaced is_placed
placed_test Data f i p = and_from _ _ (within_test f 4095 p.0) (le-leb i 16623 p.1)
placed_test Leaf f i p = and_from _ _ (within_test f 4095 p.0) (le-leb i 128 p.1)
placed_test Double f i p = and_from _ _ (within_test f 4095 p.0) (eq-eqb i 0 p.1)
placed_test Inode f i p = and_from _ _ (within_test f 4095 p.0) (eq-eqb i 0 p.1)
placed_test Map f i p = and_from _ _ (eq-eqb f 0 p.0) (le-leb i 31 p.1)
placed_test Usage f i p = and_from _ _ (eq-eqb f 0 p.0) (le-leb i 15 p.1)

placed_from : (k : BlockKind) (f i : ℕ) → is_placed k f i ≡ true → IsPlaced k f i
unfolding IsPlaced is_placed
placed_from Data f i e = let a = and_parts _ _ e in (within_from f 4095 a.0, leb-true i 16623 a.1)
placed_from Leaf f i e = let a = and_parts _ _ e in (within_from f 4095 a.0, leb-true i 128 a.1)
placed_from Double f i e = let a = and_parts _ _ e in (within_from f 4095 a.0, eqb-true i 0 a.1)
placed_from Inode f i e = let a = and_parts _ _ e in (within_from f 4095 a.0, eqb-true i 0 a.1)
placed_from Map f i e = let a = and_parts _ _ e in (eqb-true f 0 a.0, leb-true i 31 a.1)
placed_from Usage f i e = let a = and_parts _ _ e in (eqb-true f 0 a.0, leb-true i 15 a.1)

-- a test of each element, at its place
all_from_each : {X : Type 0} (p : X → Bool) (d : X) (xs : List X) → ((i : ℕ) → i < length xs → p (get_or xs i d) ≡ true)
    → list_all p xs ≡ true
all_from_each p d [] each = refl
all_from_each p d (x ∷ xs) each =
    and_from (p x) (list_all p xs) (each 0 (omega arith)) (all_from_each p d xs (λ i lt. each (suc i) (omega arith)))

each_from_all : {X : Type 0} (p : X → Bool) (d : X) (xs : List X) → list_all p xs ≡ true → (i : ℕ) → i < length xs
    → p (get_or xs i d) ≡ true
each_from_all p d [] e i lt = absurd (omega arith)
each_from_all p d (x ∷ xs) e zero lt = (and_parts (p x) (list_all p xs) e).0
each_from_all p d (x ∷ xs) e (suc i) lt = each_from_all p d xs (and_parts (p x) (list_all p xs) e).1 i (omega arith)

abbrev placed : BlockNameValue → Bool
placed b = is_placed b.kind b.file b.index

summary_test : (bs : List BlockNameValue) → FitsSummary bs → may_be_summary bs ≡ true
summary_test bs p =
    and_from _ _ (le-leb 1 (length bs) p.some) (and_from _ _ (le-leb (length bs) 63 p.room)
    (all_from_each placed no_block bs (λ i lt. placed_test _ _ _ (p.each i (omega arith)))))

summary_from : (bs : List BlockNameValue) → may_be_summary bs ≡ true → FitsSummary bs
summary_from bs e =
    let a = and_parts _ _ e in
    let b = and_parts _ _ a.1 in record {
      some = leb-true 1 (length bs) a.0;
      room = leb-true (length bs) 63 b.0;
      each = λ i lt. placed_from _ _ _ (each_from_all placed no_block bs b.1 i (omega arith));
    }

pub summary_some : (s : List ℕ) (bs : List BlockNameValue) → FitsSummary bs → s ≡ summary_sector bs → summary_in s ≡ Some bs
unfolding summary_in
summary_some s bs p e =
    value_some blocks_of may_be_summary summary_sector s bs (ap (λ (x : List ℕ). blocks_of x) e ∙ summary_back bs p) (summary_test bs p) e

pub summary_is : (s : List ℕ) (r : Option (List BlockNameValue))
    → IfSome r (λ bs. FitsSummary bs × (s ≡ summary_sector bs))
    → IfNone r ((bs : List BlockNameValue) → FitsSummary bs → ¬ (s ≡ summary_sector bs)) → r ≡ summary_in s
unfolding summary_in
summary_is s (Some bs) found none = sym (summary_some s bs found.0 found.1)
summary_is s None found none =
    value_is blocks_of may_be_summary summary_sector s None tt (λ fits e. none (blocks_of s) (summary_from (blocks_of s) fits) e)

-- ---- slots
not_from : (b : Bool) → (b ≡ true → ⊥) → not b ≡ true
not_from true never = absurd (never refl)
not_from false never = refl

not_so : (b : Bool) → not b ≡ true → b ≡ true → ⊥
not_so true e p = cc
not_so false e p = cc

name_test : (limit : ℕ) (name : List ℕ) → IsName limit name → is_name limit name ≡ true
name_test limit name p =
    let dot : not (bytes_eq name (46 ∷ [])) ≡ true = not_from _ (λ e. p.dot ((bytes_eq-Decides name (46 ∷ [])).0 e)) in
    let dotdot : not (bytes_eq name (46 ∷ 46 ∷ [])) ≡ true = not_from _ (λ e. p.dotdot ((bytes_eq-Decides name (46 ∷ 46 ∷ [])).0 e)) in
    let each = all_from_each (λ b. not (b == 0) && not (b == 47)) 0 name (λ i lt.
    and_from _ _ (not_from _ (λ e. (p.bytes i lt).0 (eqb-true _ 0 e))) (not_from _ (λ e. (p.bytes i lt).1 (eqb-true _ 47 e)))) in
    and_from _ _ (le-leb 1 (length name) p.long)
    (and_from _ _ (le-leb (length name) limit p.short) (and_from _ _ each (and_from _ _ dot dotdot)))

name_from : (limit : ℕ) (name : List ℕ) → is_name limit name ≡ true → IsName limit name
name_from limit name e =
    let a = and_parts _ _ e in
    let b = and_parts _ _ a.1 in
    let c = and_parts _ _ b.1 in
    let d = and_parts _ _ c.1 in record {
      long = leb-true 1 (length name) a.0;
      short = leb-true (length name) limit b.0;
      bytes = λ i lt.
          let f = and_parts _ _ (each_from_all (λ b. not (b == 0) && not (b == 47)) 0 name c.0 i lt) in
          ((λ z. not_so _ f.0 (eq-eqb _ 0 z)), (λ z. not_so _ f.1 (eq-eqb _ 47 z)));
      dot = λ z. not_so _ d.0 ((bytes_eq-Decides name (46 ∷ [])).1 z);
      dotdot = λ z. not_so _ d.1 ((bytes_eq-Decides name (46 ∷ 46 ∷ [])).1 z);
    }

slot_test : (form : ℕ) (v : SlotValue) → FitsSlot form v → may_be_slot form v ≡ true
slot_test form v p = and_from _ _ (within_test v.number 4095 p.number) (name_test (name_len form) v.name p.name)

slot_from : (form : ℕ) (v : SlotValue) → may_be_slot form v ≡ true → FitsSlot form v
slot_from form v e = let a = and_parts _ _ e in record { number = within_from _ 4095 a.0; name = name_from (name_len form) v.name a.1 }

pub slot_some : (form : ℕ) (b : List ℕ) {v : SlotValue} → FitsSlot form v → b ≡ slot_bytes form v → slot_in form b ≡ Some v
unfolding slot_in
slot_some form b {v} p e = value_some slot_of (may_be_slot form) (slot_bytes form) b v
    (ap (λ (x : List ℕ). slot_of x) e ∙ slot_back form v p)
    (slot_test form v p) e

pub slot_found : (form : ℕ) (b : List ℕ) (v : SlotValue) → slot_in form b ≡ Some v → FitsSlot form v × (b ≡ slot_bytes form v)
unfolding slot_in
slot_found form b v e =
    let f = value_found slot_of (may_be_slot form) (slot_bytes form) b v e in
    (subst (FitsSlot form) f.0 (slot_from form (slot_of b) f.1), f.2)

pub slot_is : (form : ℕ) (b : List ℕ) (r : Option SlotValue)
    → IfSome r (λ v. FitsSlot form v × (b ≡ slot_bytes form v)) → IfNone r ((v : SlotValue) → FitsSlot form v → ¬ (b ≡ slot_bytes form v))
    → r ≡ slot_in form b
unfolding slot_in
slot_is form b (Some v) found none = sym (slot_some form b found.0 found.1)
slot_is form b None found none =
    value_is slot_of (may_be_slot form) (slot_bytes form) b None tt (λ fits e. none (slot_of b) (slot_from form (slot_of b) fits) e)

-- ---- usage blocks
-- what the counts of an entry say of each other
record Counts (used live : ℕ) : Type 0 where
  both : used ≡ 0 ↔ live ≡ 0
  most : live ≤ used
  fewer : 1 ≤ used → live < used

abbrev counts_agree : ℕ → ℕ → Bool
counts_agree used live = cond (used == 0) (live == 0) (nat_le 1 live && nat_lt live used)

above : (n live : ℕ) → counts_agree (suc n) live ≡ (nat_le 1 live && nat_lt live (suc n))
above n live =
    let some : (suc n == 0) ≡ false = ne_eqb (suc n) 0 (λ e. cc) in
    ap (λ b. cond b (live == 0) (nat_le 1 live && nat_lt live (suc n))) some

counts_test : (used live : ℕ) → Counts used live → counts_agree used live ≡ true
counts_test zero live p = eq-eqb live 0 (p.both.0 refl)
counts_test (suc n) zero p = let empty : suc n ≡ 0 = p.both.1 refl in cc
counts_test (suc n) (suc m) p = above n (suc m)
    ∙ and_from _ _ (le-leb 1 (suc m) (omega arith)) (lt-ltb (suc m) (suc n) (p.fewer (omega arith)))

counts_from : (used live : ℕ) → counts_agree used live ≡ true → Counts used live
counts_from zero live e =
    let none : live ≡ 0 = eqb-true live 0 e in
    record { both = ((λ z. none), (λ z. refl)); most = omega arith; fewer = λ some. absurd (omega arith) }
counts_from (suc n) live e =
    let a = and_parts (nat_le 1 live) (nat_lt live (suc n)) (sym (above n live) ∙ e) in
    let some : 1 ≤ live = leb-true 1 live a.0 in
    let less : live < suc n = ltb-true live (suc n) a.1 in
    record { both = ((λ z. absurd (omega arith)), (λ z. absurd (omega arith))); most = omega arith; fewer = λ z. less }

use_test : (u : SegmentUse) → IsUse u → is_use u ≡ true
use_test u p = and_from _ _ (le-leb u.used 64 p.used) (counts_test u.used u.live record { both = p.both; most = p.live; fewer = p.fewer })

use_from : (u : SegmentUse) → u.age < 2 ^ 32 → is_use u ≡ true → IsUse u
use_from u age e =
    let a = and_parts _ _ e in
    let c = counts_from u.used u.live a.1 in
    record { used = leb-true u.used 64 a.0; both = c.both; live = c.most; fewer = c.fewer; age = age }

unused_test : (u : SegmentUse) → IsUnused u → is_unused u ≡ true
unused_test u p = and_from _ _ (eq-eqb u.used 0 p.used) (and_from _ _ (eq-eqb u.live 0 p.live) (eq-eqb u.age 0 p.age))

unused_from : (u : SegmentUse) → is_unused u ≡ true → IsUnused u
unused_from u e =
    let a = and_parts _ _ e in
    let b = and_parts _ _ a.1 in
    record { used = eqb-true u.used 0 a.0; live = eqb-true u.live 0 b.0; age = eqb-true u.age 0 b.1 }

usage_test : (n : ℕ) (us : List SegmentUse) → FitsUsage n us → may_be_usage n us ≡ true
usage_test n us p =
    let each = all_from_each is_use no_use us (λ i lt. use_test _ (p.each i (omega (arith, p.entries)))) in
    let past = all_from_each is_unused no_use (drop n us) (λ i lt.
    let within : n + i < 64 = omega (arith, p.entries, length-drop n us) in
    ap is_unused (get_or-drop n us i no_use) ∙ unused_test _ (p.past (n + i) (omega arith) within)) in
    and_from _ _ each past

usage_from : (s : List ℕ) (n : ℕ) → IsBytes s → length s ≡ 512 → may_be_usage n (usage_of s) ≡ true → FitsUsage n (usage_of s)
unfolding use_at
usage_from s n bytes long e =
    let a = and_parts _ _ e in
    let many : length (usage_of s) ≡ 64 = length-run use_at 8 64 0 s in
    record {
      entries = many;
      each = λ i lt. subst IsUse (sym (use_in s i lt)) (use_from (use_at (8 * i) s) (read32-lt (8 * i + 4) s bytes (omega arith))
          (ap is_use (sym (use_in s i lt)) ∙ each_from_all is_use no_use (usage_of s) a.0 i (omega arith)));
      past = λ i beyond lt. unused_from _ (
          ap is_unused (ap (λ (k : ℕ). get_or (usage_of s) k no_use) (omega arith) ∙ sym (get_or-drop n (usage_of s) (i - n) no_use))
          ∙ each_from_all is_unused no_use (drop n (usage_of s)) a.1 (i - n) (omega (arith, many, length-drop n (usage_of s))));
    }

pub usage_some : (s : List ℕ) (n : ℕ) (us : List SegmentUse) → FitsUsage n us → s ≡ usage_sector us → usage_in n s ≡ Some us
unfolding usage_in
usage_some s n us p e =
    value_some usage_of (may_be_usage n) usage_sector s us (ap (λ (x : List ℕ). usage_of x) e ∙ usage_back n us p) (usage_test n us p) e

pub usage_found : (s : List ℕ) (n : ℕ) (us : List SegmentUse) → IsBytes s → length s ≡ 512 → usage_in n s ≡ Some us
    → FitsUsage n us × (s ≡ usage_sector us)
unfolding usage_in
usage_found s n us bytes long e =
    let v = value_found usage_of (may_be_usage n) usage_sector s us e in
    (subst (FitsUsage n) v.0 (usage_from s n bytes long v.1), v.2)

pub usage_is : (s : List ℕ) (n : ℕ) → IsBytes s → length s ≡ 512 → (r : Option (List SegmentUse))
    → IfSome r (λ us. FitsUsage n us × (s ≡ usage_sector us)) → IfNone r ((us : List SegmentUse) → FitsUsage n us → ¬ (s ≡ usage_sector us))
    → r ≡ usage_in n s
unfolding usage_in
usage_is s n bytes long (Some us) found none = sym (usage_some s n us found.0 found.1)
usage_is s n bytes long None found none =
    value_is usage_of (may_be_usage n) usage_sector s None tt (λ fits e. none (usage_of s) (usage_from s n bytes long fits) e)
