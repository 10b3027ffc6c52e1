-- A path walked from the root, link by link.
use Rattle.std.proofs.Common.{◌≡◌, ◌<◌, ◌≤◌, ◌+◌, refl, sym, ap, subst, ◌∙◌, ℕ, Bool, true, false, ◌||◌, List, [], ◌∷◌, ◌++◌, Bor, arith}
use Rattle.std.specs.Prelude.{if◌then◌else◌}
use Rattle.lfs_model.specs.Device.{IsLawful}
use Rattle.lfs_model.specs.PathText.{comps, slash, from_root}
use Rattle.lfs_model.specs.Refusal as refusals
use Rattle.lfs_model.specs.Stands.{LogMap}
use Rattle.lfs_model.specs.Tree.{Tree}
use Rattle.lfs_model.specs.TreeOf.{tree_in}
use Rattle.lfs_model.specs.Walk.{End, Refused, Walk, followed, loops, slash_with, start}
use Rattle.lfs_model.proofs.FollowedTexts.{IsRest, pieces_joined, slash_joined}
use Rattle.lfs_files.specs.Files.{FilesState, Reads}
use Rattle.lfs_files.proofs.FilesCompose.{reads_more}
use Rattle.lfs_path.specs.Following.{Follows, started, text_of}
use Rattle.lfs_path.specs.Passing.{MeetsLink, StopsAtLink, WalksText}
use Rattle.lfs_path.specs.Reaching.{EndsPath}
use Rattle.lfs_path.specs.Telling.{TellsRefusal, Tells}
use Rattle.lfs_path.specs.Trees.{HasTree, InChain, IsChain, here}
use Rattle.lfs_path.specs.declared.passing.Stop.TheVariants as stop
use Rattle.lfs_path.specs.declared.seen.Link.{Link}
use Rattle.lfs_path.specs.declared.walk_fault.WalkFault.TheVariants.{Loop}
use Rattle.lfs_path.proofs.Splits.{is_rest}

-- ---- texts
-- the slash end of what is left then
slash_left : (b : Bool) (x rest : List ℕ) → IsRest rest → (slash_with x (comps rest) (slash rest) ≡ slash (x ++ rest))
    → (b || slash (x ++ rest)) ≡ slash_with x (comps rest) (b || slash rest)
slash_left false x rest is joined = sym joined
slash_left true x rest is joined = by (comps rest) (slash x)
  where
    or_true : (b : Bool) → true ≡ (b || true)
    or_true true = refl
    or_true false = refl

    by : (ps : List (List ℕ)) (b : Bool) → true ≡ slash_with x ps true
    by [] b = or_true (slash x)
    by (p ∷ ps) b = refl

here_started : (x chain : List ℕ) → here (started x chain) ≡ start x (here chain)
here_started x chain = by (from_root x)
  where
    by : (b : Bool) → here (if b then 1 ∷ [] else chain) ≡ (if b then 1 else here chain)
    by true = refl
    by false = refl

started_chain : (t : Tree) (x chain : List ℕ) → IsChain t chain → IsChain t (started x chain)
started_chain t x chain is = by (from_root x)
  where
    by : (b : Bool) → IsChain t (if b then 1 ∷ [] else chain)
    by true = refl
    by false = is

module _ (slash_end follow : Bool) (path : List ℕ) where
  -- ---- by the tree

  -- A walk of the text that is left from where the walk is now, with so many links followed, is one of the whole path.
  pub record GoesOn (chain text : List ℕ) (links : ℕ) (m : LogMap) : Type 0 where
    pub directories : IsChain (tree_in m) chain
    pub walks : (e : End) → WalksText slash_end follow (here chain) text links (tree_in m) e → EndsPath slash_end follow path (tree_in m) e

  module _ (m : LogMap) {chain text : List ℕ} (chain' : List ℕ) {links : ℕ} (l : Link) {rest : List ℕ} (was : GoesOn chain text links m)
      (meets : MeetsLink slash_end follow (here chain) text (here chain') l rest m) where
    at_link : {e : End} → Walk (tree_in m) follow (here chain') (meets.piece ∷ comps rest) (slash_end || slash rest) links e
        → EndsPath slash_end follow path (tree_in m) e
    at_link {e} w = was.walks e (meets.walks links e w)

    pub too_many : 40 ≤ links → EndsPath slash_end follow path (tree_in m) (Refused refusals.Loop)
    too_many full = at_link (loops meets.gives meets.goes full)

    pub link_goes_on : IsChain (tree_in m) chain' → links < 40 → {chain'' : List ℕ} (text' : List ℕ) → text' ≡ text_of m l ++ rest
        → chain'' ≡ started (text_of m l) chain' → GoesOn chain'' text' (links + 1) m
    link_goes_on directories room {chain''} text' left from = record {
      directories = rw from (started_chain (tree_in m) (text_of m l) chain' directories);
      walks = λ e w. at_link (followed meets.gives meets.goes room (turned e w));
    }
      where
        behind : IsRest rest
        behind = is_rest rest meets.begins

        pieces_are : comps text' ≡ comps (text_of m l) ++ comps rest
        pieces_are = cc (pieces_joined (text_of m l) rest behind)

        slash_is : (slash_end || slash text') ≡ slash_with (text_of m l) (comps rest) (slash_end || slash rest)
        slash_is = cc (slash_left slash_end (text_of m l) rest behind (slash_joined (text_of m l) rest behind meets.goes_on))

        turned : (e : End) → WalksText slash_end follow (here chain'') text' (links + 1) (tree_in m) e
            → Walk (tree_in m) follow (start (text_of m l) (here chain')) (comps (text_of m l) ++ comps rest)
            (slash_with (text_of m l) (comps rest) (slash_end || slash rest)) (links + 1) e
        turned e w =
            rw (← ap here from ∙ here_started (text_of m l) chain')
            (rw (← pieces_are) (subst (λ (b : Bool). Walk (tree_in m) follow (here chain'') (comps text') b (links + 1) e) slash_is w))

module _ {S D : Type 0} (slash_end follow : Bool) (path : List ℕ) where
  pub record ComesOn (s s' : FilesState S D) (chain text : List ℕ) (links : ℕ) : Type 0 where
    pub reads : Reads s s'
    pub few : links ≤ 40
    pub goes : Tells s s' HasTree (GoesOn slash_end follow path chain text links)

  module _ {s a b : FilesState S D} {chain text : List ℕ} (chain' : List ℕ) {links : ℕ} (was : ComesOn s a chain text links)
      (reads : Reads a b) where
    goes_at : (m : LogMap) {m' : LogMap} → b.device.keeps_model → s.has m m' → HasTree m' → GoesOn slash_end follow path chain text links m'
    goes_at m {m'} keeps has tree = was.goes m m' (reads.looks.carries.kept_before keeps) has tree

    in_chain : (m m' : LogMap) → b.device.keeps_model → s.has m m' → HasTree m' → InChain chain m'
    in_chain m m' keeps has tree = record { tree = tree; directories = (goes_at m keeps has tree).directories }

    module _ (l : Link) (r : Bor (List ℕ)) {seen : List ℕ} (value : seen ≡ text)
        (told : Tells a b (InChain chain) (StopsAtLink slash_end follow chain seen chain' (stop.Followed l r))) where
      stops : (m m' : LogMap) → b.device.keeps_model → s.has m m' → InChain chain m'
          → IsChain (tree_in m') chain' × MeetsLink slash_end follow (here chain) text (here chain') l r.now m'
      stops m m' keeps has is =
          let x = told m m' keeps (was.reads.has m m' has) is in
          (x.directories, rw (← value) x.stop)

      pub walk_loops : 40 ≤ links → TellsRefusal s b HasTree (EndsPath slash_end follow path) Loop
      walk_loops full m m' keeps has tree =
          too_many slash_end follow path m' chain' l (goes_at m keeps has tree) (stops m m' keeps has (in_chain m m' keeps has tree)).1 full

      module _ {c : FilesState S D} (again : Reads b c) where
        pub walk_goes_on : IsLawful s.device → links < 40 → {chain'' text' : List ℕ} → Follows b c l r.now chain' chain'' text'
            → ComesOn s c chain'' text' (links + 1)
        walk_goes_on lawful room {chain''} {text'} follows = record {
          reads = reads_more lawful (reads_more lawful was.reads reads) again;
          few = omega arith;
          goes = λ m m' keeps has tree.
              let before = again.looks.carries.kept_before keeps in
              let x = stops m m' before has (in_chain m m' before has tree) in
              let left = follows m m' keeps (reads.has m m' (was.reads.has m m' has)) in
              link_goes_on slash_end follow path m' chain' l (goes_at m before has tree) x.1 x.0 room text' left.0 left.1;
        }
