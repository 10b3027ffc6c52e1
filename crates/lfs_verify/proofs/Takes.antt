-- One address of the walk.
use Rattle.std.proofs.Common.{◌≡◌, ◌<◌, ◌↔◌, ⊎_elim, inr, ℕ, zero, suc, Bool, true, false, cond, List, [], length, set, refl, sym, ◌∙◌, ap}
use Rattle.std.proofs.Common.{subst, arith}
use Rattle.lfs_model.specs.Entry.{Entry, IsInode, word}
use Rattle.lfs_model.specs.Inode.{inode_in, inode_of, inode_sector, may_be_inode}
use Rattle.lfs_model.specs.Content.{Content, block, bytes_of}
use Rattle.lfs_model.specs.Device.{Cell, DeviceState, IsLawful, cell_at}
use Rattle.lfs_model.specs.declared.Order.{Order}
use Rattle.lfs_model.specs.Reach.{View}
use Rattle.lfs_model.specs.Stands.{Reached, Fresh, stage_of}
use Rattle.lfs_verify.specs.Walk.{step_of, InBounds, IsGood, Walked, IsUnmarked}
use Rattle.lfs_verify.specs.Take.{Looks, SyncsOnce, TakesAddress, TakesBlock, ReadsContent, SomeWord, Advances}
use Rattle.lfs_model.proofs.Decoding.{value_found}
use Rattle.lfs_model.proofs.Moments.{carries_none, carries_then, started, joined}
use Rattle.lfs_verify.proofs.Words.{word_none}
use Rattle.lfs_verify.proofs.Steps.{skip, take_one, is_open, inside_marks}

pub block_at : (c : Content) (at : ℕ) → 0 < at → block c at ≡ bytes_of (cell_at c at)
block_at c zero lt = absurd (omega arith)
block_at c (suc at) lt = refl

pub unread : (c : Content) (at : ℕ) (out : List ℕ) {r : Bool} → block c at ≡ cond r out [] → r ≡ false → block c at ≡ []
unread c at out is fails = is ∙ ap (λ (x : Bool). cond x out []) fails

pub read_in : (c : Content) (at : ℕ) (out : List ℕ) {r : Bool} → block c at ≡ cond r out [] → r ≡ true → block c at ≡ out
read_in c at out is holds = is ∙ ap (λ (x : Bool). cond x out []) holds

pub no_word : {bytes : List ℕ} → bytes ≡ [] → SomeWord bytes → ⊥
no_word none w = let z = ap (λ (b : List ℕ). word b w.0) none ∙ word_none w.0 in omega (arith, w.2)

pub no_inode : (version n : ℕ) (bytes : List ℕ) → bytes ≡ [] → IsInode version n bytes → ⊥
unfolding inode_in inode_sector
no_inode version n bytes none is =
    let spelt = (value_found inode_of may_be_inode inode_sector bytes is.value is.spelt).2 in
    absurd (cc (ap length (sym none ∙ spelt)))

-- a block that is taken, and one that isn't
module _ (c : Content) (old new : List ℕ) (at step : ℕ) (out : List ℕ) {r : Bool} (t : TakesBlock c old new at step out r) where
  pub block_taken : r ≡ true → IsUnmarked old at × (block c at ≡ out) × (new ≡ set old at (suc step))
  block_taken is = subst (λ (b : Bool). TakesBlock c old new at step out b) is t

  pub block_missed : r ≡ false → IsUnmarked old at → block c at ≡ []
  block_missed is = subst (λ (b : Bool). TakesBlock c old new at step out b) is t

  -- where the block is what is asked for, or isn't
  pub takes_good : (P : List ℕ → Type 0) → r ≡ true → P out → TakesAddress P c old new at step true
  takes_good P is good = let x = block_taken is in inr (x.0, subst P (sym x.1) good, x.2)

  pub takes_bad : (P : List ℕ → Type 0) → r ≡ true → 0 < at → (P out → ⊥) → TakesAddress P c old new at step false
  takes_bad P is some bad = (some, λ o p. bad (subst P (block_taken is).1 p))

  pub takes_as : (P : List ℕ → Type 0) → r ≡ true → 0 < at → (held : Bool) → (held ≡ true) ↔ P out → TakesAddress P c old new at step held
  takes_as P is some true iff = takes_good P is (iff.0 refl)
  takes_as P is some false iff = takes_bad P is some (λ p. absurd (cc (iff.1 p)))

  -- what isn't read has nothing of what is asked for
  pub takes_none : (P : List ℕ → Type 0) → r ≡ false → 0 < at → (block c at ≡ [] → P (block c at) → ⊥)
      → TakesAddress P c old new at step false
  takes_none P is some bad = (some, λ o p. bad (block_missed is o) p)

-- what a read says of the block
pub read_at : (d d' : DeviceState) (c : Content) (at : ℕ) (o : Cell) → 0 < at → ReadsContent d d' c
    → (d'.keeps_model → cell_at d.content at ≡ o) → block c at ≡ bytes_of o
read_at d d' c at o lt reads is = block_at c at lt ∙ ap (λ (x : Content). bytes_of (cell_at x at)) (sym reads.content)
    ∙ ap bytes_of (is reads.keeps)

-- a run that reads a content begins with one that reads it, and goes on with one
pub reads_first : {a b c : DeviceState} {content : Content} → ReadsContent a c content → Looks b c → ReadsContent a b content
reads_first {content} reads looks = record { content = reads.content; keeps = looks.carries.kept_before reads.keeps }

pub reads_then : {a b c : DeviceState} {content : Content} → ReadsContent a c content → Looks a b → ReadsContent b c content
reads_then {content} reads looks = record { content = looks.untouched.content ∙ reads.content; keeps = reads.keeps }

pub looks_none : {d : DeviceState} → IsLawful d → Looks d d
looks_none {d} lawful = record {
  carries = carries_none;
  untouched = record { content = refl; crash = λ c left. left };
  any_moment = started d.may_leave lawful (λ c left. left);
  told = refl;
}

pub looks_then : {a b c : DeviceState} → Looks a b → Looks b c → Looks a c
looks_then {a} {b} {c} one two = record {
  carries = carries_then one.carries two.carries;
  untouched = record {
    content = two.untouched.content ∙ one.untouched.content;
    crash = λ x left. one.untouched.crash x (two.untouched.crash x left);
  };
  any_moment = joined a.may_leave b.may_leave a.may_leave one.any_moment two.any_moment (λ x left. left) one.untouched.crash;
  told = two.told ∙ one.told;
}

-- a run that only reads syncs once at most
pub once : {a b : DeviceState} → Looks a b → SyncsOnce a b
once looks = record {
  carries = looks.carries;
  untouched = looks.untouched;
  any_moment = looks.any_moment;
  told = let same = ap (λ (l : List Order). length l) looks.told in omega (arith, same);
}

-- and so does one that only reads once it has synced
pub once_then : {a b c : DeviceState} → SyncsOnce a b → Looks b c → SyncsOnce a c
once_then {a} {b} one two = record {
  carries = carries_then one.carries two.carries;
  untouched = record {
    content = two.untouched.content ∙ one.untouched.content;
    crash = λ x left. one.untouched.crash x (two.untouched.crash x left);
  };
  any_moment = joined a.may_leave b.may_leave a.may_leave one.any_moment two.any_moment (λ x left. left) one.untouched.crash;
  told = let same = ap (λ (l : List Order). length l) two.told in omega (arith, same, one.told);
}

-- each of three runs reads the content that they read together
pub reads_thrice : {a b c d : DeviceState} {content : Content} → ReadsContent a d content → Looks a b → Looks b c → Looks c d
    → ReadsContent a b content × ReadsContent b c content × ReadsContent c d content
reads_thrice reads one two three =
    let both = reads_first reads three in (reads_first both two, reads_then both one, reads_then reads (looks_then one two))

-- ---- steps of the walk
pub walked_as : {v : View} {marks : List ℕ} {r s : ℕ} → r ≡ s → Walked v marks r → Walked v marks s
walked_as {v} {marks} = subst (Walked v marks)

pub goes_true : {v : View} {old new : List ℕ} {r s : ℕ} (stage : Type 0) {x : Bool} → x ≡ true → Advances v old new r s stage x
    → Walked v old r → Walked v new s
goes_true {v} {old} {new} {r} {s} stage is = subst (Advances v old new r s stage) is

pub goes_false : {v : View} {old : List ℕ} (new : List ℕ) {r : ℕ} (s : ℕ) {stage : Type 0} {x : Bool} → x ≡ false
    → Advances v old new r s stage x → Walked v old r → stage → ⊥
goes_false {v} {old} new {r} s {stage} is = subst (Advances v old new r s stage) is

-- An entry at its step: the walk goes on where its address is passed or taken; where it is refused, the stage fails that has its like
-- at fresh addresses and finds it good.
pub step_goes : (v : View) (marks new : List ℕ) {r s : ℕ} (e : Entry) → step_of e ≡ r → suc r ≡ s → InBounds e → {at : ℕ}
    → at ≡ v.address e → (c : Content) (P : List ℕ → Type 0) → P (block c (v.address e)) ↔ IsGood v e
    → (S : Type 0) → (S → Fresh v (stage_of e)) → (S → Reached v e → IsGood v e) → (x : Bool) → TakesAddress P c marks new at r x
    → Advances v marks new r s S x
step_goes v marks new {r} e here next b {at} is c P good S fresh local true t = λ w. walked_as next (⊎_elim
    (λ (none : (at ≡ 0) × (new ≡ marks)). subst (λ (m : List ℕ). Walked v m (suc r)) (sym none.1) (skip w e here b (sym is ∙ none.0)))
    (λ (one : IsUnmarked marks at × P (block c at) × (new ≡ set marks at (suc r))).
    subst (λ (m : List ℕ). Walked v m (suc r)) (ap (λ (a : ℕ). set marks a (suc r)) (sym is) ∙ sym one.2)
    (take_one w e here b (subst (IsUnmarked marks) is one.0) (good.0 (subst (λ (a : ℕ). P (block c a)) is one.1)))) t)
step_goes v marks new e here next b is c P good S fresh local false t = λ w stage.
    let reached : Reached v e = omega (arith, t.0) in
    t.1 (subst (IsUnmarked marks) (sym is) (is_open w e here b (fresh stage) reached))
    (subst (λ (a : ℕ). P (block c a)) (sym is) (good.1 (local stage reached)))

-- where nothing else is asked of the block
pub as_it_is : {P : Type 0} → P ↔ P
as_it_is = (λ is. is, λ is. is)

-- an entry whose step is over, and that was reached, has a sector and is good
module _ {v : View} {marks : List ℕ} {r : ℕ} (w : Walked v marks r) (e : Entry) (before : step_of e < r) (b : InBounds e) {at : ℕ}
    (is : at ≡ v.address e) (some : at ≡ 0 → ⊥) where
  pub reached_inside : at < length marks
  reached_inside = omega (arith, is, inside_marks marks (v.address e) (w.marked e before b (omega (arith, is, some))))

  pub reached_good : IsGood v e
  reached_good = w.good e before b (omega (arith, is, some))
