-- A text walked piece by piece, until it ends or an object that is no directory is met.
use Rattle.std.proofs.Common.{◌≡◌, refl, sym, ap, subst, ◌∙◌, ℕ, Bool, true, false, ◌||◌, List, [], ◌∷◌, Option, Some}
use Rattle.std.specs.Prelude.{IfOk, IfErr, Result, Ok, Err}
use Rattle.lfs_model.specs.PathText.{comps, slash}
use Rattle.lfs_model.specs.Refusal as refusals
use Rattle.lfs_model.specs.Stands.{LogMap}
use Rattle.lfs_model.specs.TreeOf.{tree_in}
use Rattle.lfs_model.specs.Walk.{End, At, Refused, Walk, file, link, more, no_piece, not_dir}
use Rattle.lfs_files.specs.Files.{FilesState, Reads}
use Rattle.lfs_path.specs.Passing.{EndsText, IsStop, Meets, MeetsLink, PassesText, StopsAtLink, WalksText, is_left}
use Rattle.lfs_path.specs.Pieces.{IsNextPiece}
use Rattle.lfs_path.specs.Telling.{TellsRefusal, Tells}
use Rattle.lfs_path.specs.Trees.{InChain, IsChain, here}
use Rattle.lfs_path.specs.declared.seen.Link.{Link}
use Rattle.lfs_path.specs.declared.passing.Met.{Met}
use Rattle.lfs_path.specs.declared.passing.Met.TheVariants as met
use Rattle.lfs_path.specs.declared.passing.Stop.{Stop}
use Rattle.lfs_path.specs.declared.passing.Stop.TheVariants as stop
use Rattle.lfs_path.specs.declared.walk_fault.WalkFault.{WalkFault}
use Rattle.lfs_path.specs.declared.walk_fault.WalkFault.TheVariants.{NotDir}

module _ (slash_end follow : Bool) where
  -- ---- by the tree

  -- A walk of the rest from where the walk is now is one of the whole text.
  pub record GoesTo (chain text chain' rest : List ℕ) (m : LogMap) : Type 0 where
    pub directories : IsChain (tree_in m) chain'
    pub walks : (k : ℕ) (e : End) → WalksText slash_end follow (here chain') rest k (tree_in m) e
        → WalksText slash_end follow (here chain) text k (tree_in m) e

  pub still : {m : LogMap} {chain text chain' rest : List ℕ} → InChain chain m → GoesTo chain text chain' rest m → InChain chain' m
  still is goes = record { tree = is.tree; directories = goes.directories }

  -- no piece is left
  pub at_end : (m : LogMap) {chain text chain' : List ℕ} (rest : List ℕ) → comps rest ≡ [] → GoesTo chain text chain' rest m
      → StopsAtLink slash_end follow chain text chain' stop.Directory m
  at_end m {chain'} rest none goes = record {
    directories = goes.directories;
    stop = λ k. goes.walks k (At (here chain')) (rw none no_piece);
  }

  module _ (m : LogMap) {chain text chain' rest piece after : List ℕ} (next : IsNextPiece rest piece after)
      (goes : GoesTo chain text chain' rest m) where
    -- a walk of the piece and what follows is one of the whole text
    from_piece : (k : ℕ) {e : End} → Walk (tree_in m) follow (here chain') (piece ∷ comps after) (slash_end || slash after) k e
        → WalksText slash_end follow (here chain) text k (tree_in m) e
    from_piece k {e} w = goes.walks k e
        (rw next.pieces (rw next.slash_end w))

    -- whether something is left behind the piece
    left_is : more (comps after) (slash_end || slash after) ≡ is_left slash_end after
    left_is = by slash_end
      where
        some : (ps : List (List ℕ)) → more ps true ≡ true
        some [] = refl
        some (p ∷ ps) = refl

        by : (b : Bool) → more (comps after) (b || slash after) ≡ is_left b after
        by true = some (comps after)
        by false = next.goes_on

    meets_link : (l : Link) → Meets (here chain') piece (met.Symbolic l) m → (is_left slash_end after || follow) ≡ true
        → MeetsLink slash_end follow (here chain) text (here chain') l after m
    meets_link l meets goes_on = record {
      piece = piece;
      gives = meets;
      goes = cc left_is;
      walks = from_piece;
      begins = next.begins;
      goes_on = next.goes_on;
    }

    module _ (chain'' : List ℕ) (same : chain'' ≡ chain') where
      directories_are : IsChain (tree_in m) chain''
      directories_are = rw same goes.directories

      pub stops : (x : Met) (y : Stop) → Meets (here chain') piece x m → IsStop slash_end follow after x (Ok y)
          → StopsAtLink slash_end follow chain text chain'' y m
      stops (met.File n) (stop.Node q) meets is = record {
        directories = directories_are;
        stop = λ k. from_piece k (rw is.0 (file meets.1 (left_is ∙ is.1)));
      }
      stops (met.Symbolic l) (stop.Node q) meets is = record {
        directories = directories_are;
        stop = λ k. from_piece k (rw is.0 (link meets (ap (λ (b : Bool). b || follow) left_is ∙ is.1)));
      }
      stops (met.Symbolic l) (stop.Followed x rest') meets is = record {
        directories = directories_are;
        stop =
            rw same (rw is.1 (subst (λ (z : Link). MeetsLink slash_end follow (here chain) text (here chain') z after m) (sym is.0)
            (meets_link l meets is.2)));
      }
      stops _ _ meets is = absurd is

    pub refuses : (x : Met) → Meets (here chain') piece x m → IsStop slash_end follow after x (Err NotDir)
        → EndsText slash_end follow (here chain) text (tree_in m) (Refused refusals.NotDir)
    refuses (met.File n) meets is k = from_piece k (not_dir meets.1 (left_is ∙ is))
    refuses (met.Symbolic l) meets is k = absurd is

-- ---- over files
module _ {S D : Type 0} (slash_end follow : Bool) where
  pub record ComesTo (s s' : FilesState S D) (chain text chain' rest : List ℕ) : Type 0 where
    pub reads : Reads s s'
    pub goes : Tells s s' (InChain chain) (GoesTo slash_end follow chain text chain' rest)

  pub ends : {s s' : FilesState S D} {chain text chain' rest : List ℕ} → comps rest ≡ [] → ComesTo s s' chain text chain' rest
      → Tells s s' (InChain chain) (StopsAtLink slash_end follow chain text chain' stop.Directory)
  ends {chain} {text} {chain'} {rest} none was m m' keeps has is =
      at_end slash_end follow m' rest none (was.goes m m' keeps has is)

  module _ {s a b : FilesState S D} {chain text chain' rest piece after : List ℕ} (next : IsNextPiece rest piece after)
      (was : ComesTo s a chain text chain' rest) (reads : Reads a b) where
    goes_at : (m : LogMap) {m' : LogMap} → b.device.keeps_model → s.has m m' → InChain chain m'
        → GoesTo slash_end follow chain text chain' rest m'
    goes_at m {m'} keeps has is = was.goes m m' (reads.looks.carries.kept_before keeps) has is

    in_chain : (m m' : LogMap) → b.device.keeps_model → s.has m m' → InChain chain m' → InChain chain' m'
    in_chain m m' keeps has is = still slash_end follow is (goes_at m keeps has is)

    passed : (chain'' : List ℕ) (x : Option Met) → Tells a b (InChain chain') (PassesText piece chain' chain'' x)
        → Tells s b (InChain chain) (PassesText piece chain' chain'' x)
    passed chain'' x passes m m' keeps has is = passes m m' keeps (was.reads.has m m' has) (in_chain m m' keeps has is)

    module _ (chain'' : List ℕ) (x : Met) (passes : Tells a b (InChain chain') (PassesText piece chain' chain'' (Some x))) where
      pub stops_ok : (r : Result Stop WalkFault) → IsStop slash_end follow after x r
          → IfOk r (λ y. Tells s b (InChain chain) (StopsAtLink slash_end follow chain text chain'' y))
      stops_ok (Err fault) is = tt
      stops_ok (Ok y) is = λ m m' keeps has within.
          let p = passed chain'' (Some x) passes m m' keeps has within in
          stops slash_end follow m' next (goes_at m keeps has within) chain'' p.0 x y p.1 is

      pub stops_err : (r : Result Stop WalkFault) → IsStop slash_end follow after x r
          → IfErr r (TellsRefusal s b (InChain chain) (EndsText slash_end follow (here chain) text))
      stops_err (Ok y) is = tt
      stops_err (Err fault) is = by x fault is (λ m m' keeps has within. (passed chain'' (Some x) passes m m' keeps has within).1)
        where
          by : (z : Met) (fault : WalkFault) → IsStop slash_end follow after z (Err fault) → Tells s b (InChain chain)
              (Meets (here chain') piece z) → TellsRefusal s b (InChain chain) (EndsText slash_end follow (here chain) text) fault
          by (met.File n) NotDir is meets = λ m m' keeps has within.
              refuses slash_end follow m' next (goes_at m keeps has within) (met.File n) (meets m m' keeps has within) is
          by _ _ is meets = absurd is
