-- Calls of two volumes, one after the other, up to the first that is refused.
use Rattle.std.proofs.Common.{◌≡◌, ℕ, List, [], ◌∷◌, ◌++◌, Result, Ok, Err, refl, sym, ◌∙◌, ap, subst, append_assoc, false, true}
use Rattle.std.specs.List.{AllByRecursion}
use Rattle.lfs_model.specs.Call.{Answer, Call, Done, Refuse, Sync, is_ok, may_write}
use Rattle.lfs_model.specs.Run.{Point}
use Rattle.lfs_fs.specs.InARow.{IsSavedAt}
use Rattle.lfs_model.specs.Device.{DeviceState, IsUntouched}
use Rattle.lfs_fs.specs.Refusals.{refusal_of}
use Rattle.lfs_fs.specs.Seen.{answer_by}
use Rattle.lfs_fs.specs.Volume.{IsAt, Mounted, Serves}
use Rattle.lfs_fs.specs.declared.error.FsError.{FsError}
use Rattle.lfs_put.specs.Calls.{Made, ServesAll, made}
use Rattle.lfs_copy.specs.Copying.{ServesBoth, Stops, ToldAs, Works}
use Rattle.lfs_copy.specs.Looking.{AreCloses, AreDone, AreReads, IsClose, IsRefused}
use Rattle.lfs_copy.specs.Paths.{IsNoPath}
use Rattle.lfs_copy.specs.declared.fault.CopyFault.{CopyFault}
use Rattle.lfs_copy.specs.declared.fault.CopyFault.TheVariants as why

-- ---- lists of calls

pub all_append : (P : Made → Type 0) (xs ys : List Made) → AllByRecursion P xs → AllByRecursion P ys → AllByRecursion P (xs ++ ys)
all_append P [] ys first second = second
all_append P (m ∷ xs) ys first second = (first.0, all_append P xs ys first.1 second)

pub done_append : (xs ys : List Made) → AreDone xs → AreDone ys → AreDone (xs ++ ys)
done_append xs ys first second = all_append (λ (m : Made). is_ok m.answer ≡ true) xs ys first second

-- a call that was refused
pub refused_one : (call : Call) (fault : FsError) → IsRefused fault (made call (Refuse (refusal_of fault)) ∷ [])
refused_one call fault = record { before = []; call = call; after = []; order = refl; done = tt; closes = tt }

-- the same between calls that were done and calls that give up handles
pub refused_within : {fault : FsError} (xs ms ys : List Made) → AreDone xs → AreCloses ys → IsRefused fault ms
    → IsRefused fault (xs ++ (ms ++ ys))
refused_within {fault} xs ms ys done closes is =
    let one = made is.call (Refuse (refusal_of fault)) in
    record {
      before = xs ++ is.before;
      call = is.call;
      after = is.after ++ ys;
      order = ap (λ (l : List Made). xs ++ (l ++ ys)) is.order
          ∙ ap (λ (l : List Made). xs ++ l) (append_assoc is.before (one ∷ is.after) ys)
          ∙ sym (append_assoc xs is.before (one ∷ (is.after ++ ys)));
      done = done_append xs is.before done is.done;
      closes = all_append (λ (m : Made). IsClose m.call) is.after ys is.closes closes;
    }

stops_within : (fault : CopyFault) (xs gets ys us puts vs : List Made) → AreDone xs → AreCloses ys → AreDone us → AreCloses vs
    → Stops fault gets puts → Stops fault (xs ++ (gets ++ ys)) (us ++ (puts ++ vs))
stops_within (why.Old fault) xs gets ys us puts vs done closes done' closes' is = refused_within xs gets ys done closes is
stops_within (why.New fault) xs gets ys us puts vs done closes done' closes' is = refused_within us puts vs done' closes' is
stops_within why.NoTree xs gets ys us puts vs done closes done' closes' is = tt
stops_within (why.Memory refused) xs gets ys us puts vs done closes done' closes' is = tt
stops_within why.NotEmpty xs gets ys us puts vs done closes done' closes' is = absurd is
stops_within (why.TooLong path) xs gets ys us puts vs done closes done' closes' is = absurd is
stops_within (why.TooLarge need limit) xs gets ys us puts vs done closes done' closes' is = absurd is

no_path_stops : (fault : CopyFault) → IsNoPath fault → Stops fault [] []
no_path_stops why.NoTree is = tt
no_path_stops (why.Memory refused) is = tt
no_path_stops (why.Old fault) is = absurd is
no_path_stops (why.New fault) is = absurd is
no_path_stops why.NotEmpty is = absurd is
no_path_stops (why.TooLong path) is = absurd is
no_path_stops (why.TooLarge need limit) is = absurd is

-- ---- one volume

module _ {D : Type 0} (state : D → DeviceState) where
  pub serves_append : (a b c : Mounted D) (xs ys : List Made) → ServesAll state a b xs → ServesAll state b c ys
      → ServesAll state a c (xs ++ ys)
  serves_append a b c [] ys first second = subst (λ (v : Mounted D). ServesAll state v c ys) first second
  serves_append a b c (m ∷ xs) ys first second = (first.0, first.1, serves_append first.0 b c xs ys first.2 second)

  -- calls that may not write leave the device as it is
  pub untouched : (a b : Mounted D) (gets : List Made) → ServesAll state a b gets → AreReads gets
      → IsUntouched (state a.log.device) (state b.log.device)
  untouched a b [] served reads =
      subst (λ (v : Mounted D). IsUntouched (state a.log.device) (state v.log.device)) (sym served)
      (record { content = refl; crash = λ c left. left })
  untouched a b (m ∷ gets) (mid, serves, rest) reads =
      let first = serves.behaves.quiet reads.0 in
      let second = untouched mid b gets rest reads.1 in
      record { content = second.content ∙ first.content; crash = λ c left. first.crash c (second.crash c left) }

  pub kept_before : (a b : Mounted D) (ms : List Made) → ServesAll state a b ms → (state b.log.device).keeps_model
      → (state a.log.device).keeps_model
  kept_before a b [] served keeps = subst (λ (v : Mounted D). (state v.log.device).keeps_model) served keeps
  kept_before a b (m ∷ ms) (mid, serves, rest) keeps = serves.carries.kept_before (kept_before mid b ms rest keeps)

  -- calls lead from a point to a point
  pub reaches : (a b : Mounted D) (ms : List Made) (p : Point) → ServesAll state a b ms → (state b.log.device).keeps_model
      → IsAt state a p → (q : Point) × IsAt state b q
  reaches a b [] p served keeps at = (p, subst (λ (v : Mounted D). IsAt state v p) (sym served) at)
  reaches a b (m ∷ ms) p (mid, serves, rest) keeps at =
      let step = serves.model p (kept_before mid b ms rest keeps) at in
      reaches mid b ms step.next rest keeps step.at

  -- behind a sync that was done all is saved
  pub saved_behind : (a b : Mounted D) (ms : List Made) (p : Point) → ServesAll state a b (ms ++ made Sync Done ∷ [])
      → (state b.log.device).keeps_model → IsAt state a p → (q : Point) × IsSavedAt state b q
  saved_behind a b [] p (mid, serves, same) keeps at =
      let step = serves.model p (subst (λ (v : Mounted D). (state v.log.device).keeps_model) same keeps) at in
      (step.next, subst (λ (v : Mounted D). IsSavedAt state v step.next) (sym same) (record { at = step.at; leaves = step.saves refl }))
  saved_behind a b (m ∷ ms) p (mid, serves, rest) keeps at =
      let step = serves.model p (kept_before mid b (ms ++ made Sync Done ∷ []) rest keeps) at in
      saved_behind mid b ms step.next rest keeps step.at

-- ---- two volumes

module _ {D : Type 0} {E : Type 0} {state : D → DeviceState} {state' : E → DeviceState} where
  pub both_append : {a b c : Mounted D} {p q r : Mounted E} (gets puts more_gets more_puts : List Made)
      → ServesBoth state state' a b p q gets puts → ServesBoth state state' b c q r more_gets more_puts
      → ServesBoth state state' a c p r (gets ++ more_gets) (puts ++ more_puts)
  both_append {a} {b} {c} {p} {q} {r} gets puts more_gets more_puts first second = record {
    served_from = serves_append state a b c gets more_gets first.served_from second.served_from;
    served_to = serves_append state' p q r puts more_puts first.served_to second.served_to;
    only_reads = all_append (λ (m : Made). may_write m.call ≡ false) gets more_gets first.only_reads second.only_reads;
  }

  pub no_calls : (a : Mounted D) (p : Mounted E) → ServesBoth state state' a a p p [] []
  no_calls a p = record { served_from = refl; served_to = refl; only_reads = tt }

  pub one_get : {a b : Mounted D} (p : Mounted E) (call : Call) (answer : Answer) → Serves state a b call answer → may_write call ≡ false
      → ServesBoth state state' a b p p (made call answer ∷ []) []
  one_get {a} {b} p call answer serves quiet = record { served_from = (b, serves, refl); served_to = refl; only_reads = (quiet, tt) }

  pub one_put : (a : Mounted D) {p q : Mounted E} (call : Call) (answer : Answer) → Serves state' p q call answer
      → ServesBoth state state' a a p q [] (made call answer ∷ [])
  one_put a {p} {q} call answer serves = record { served_from = refl; served_to = (q, serves, refl); only_reads = tt }

  -- one call of a volume before others, or behind them
  pub get_before : {a b c : Mounted D} {p q : Mounted E} {gets puts : List Made} (call : Call) (answer : Answer)
      → Serves state a b call answer → may_write call ≡ false → ServesBoth state state' b c p q gets puts
      → ServesBoth state state' a c p q (made call answer ∷ gets) puts
  get_before {b = b} call answer serves quiet rest = record {
    served_from = (b, serves, rest.served_from);
    served_to = rest.served_to;
    only_reads = (quiet, rest.only_reads);
  }

  pub put_before : {a b : Mounted D} {p q r : Mounted E} {gets puts : List Made} (call : Call) (answer : Answer)
      → Serves state' p q call answer → ServesBoth state state' a b q r gets puts
      → ServesBoth state state' a b p r gets (made call answer ∷ puts)
  put_before {q = q} call answer serves rest = record {
    served_from = rest.served_from;
    served_to = (q, serves, rest.served_to);
    only_reads = rest.only_reads;
  }

  pub get_behind : {a b c : Mounted D} {p q : Mounted E} (gets puts : List Made) (call : Call) (answer : Answer)
      → ServesBoth state state' a b p q gets puts → Serves state b c call answer → may_write call ≡ false
      → ServesBoth state state' a c p q (gets ++ made call answer ∷ []) puts
  get_behind {a} {b} {c} gets puts call answer first serves quiet = record {
    served_from = serves_append state a b c gets (made call answer ∷ []) first.served_from (c, serves, refl);
    served_to = first.served_to;
    only_reads = all_append (λ (m : Made). may_write m.call ≡ false) gets (made call answer ∷ []) first.only_reads (quiet, tt);
  }

  pub put_behind : {a b : Mounted D} {p q r : Mounted E} (gets puts : List Made) (call : Call) (answer : Answer)
      → ServesBoth state state' a b p q gets puts → Serves state' q r call answer
      → ServesBoth state state' a b p r gets (puts ++ made call answer ∷ [])
  put_behind {p = p} {q = q} {r = r} gets puts call answer first serves = record {
    served_from = first.served_from;
    served_to = serves_append state' p q r puts (made call answer ∷ []) first.served_to (r, serves, refl);
    only_reads = first.only_reads;
  }

  module _ {X : Type 0} {does : X → List Made → List Made → Type 0} where
    pub get_refused : {a b : Mounted D} (p : Mounted E) (call : Call) (fault : FsError) → Serves state a b call (Refuse (refusal_of fault))
        → may_write call ≡ false → Works state state' a b p p does (Err (why.Old fault))
    get_refused p call fault serves quiet = record {
      gets = made call (Refuse (refusal_of fault)) ∷ [];
      puts = [];
      serves = one_get p call (Refuse (refusal_of fault)) serves quiet;
      ends = refused_one call fault;
    }

    pub put_refused : (a : Mounted D) {p q : Mounted E} (call : Call) (fault : FsError) → Serves state' p q call (Refuse (refusal_of fault))
        → Works state state' a a p q does (Err (why.New fault))
    put_refused a call fault serves = record {
      gets = [];
      puts = made call (Refuse (refusal_of fault)) ∷ [];
      serves = one_put a call (Refuse (refusal_of fault)) serves;
      ends = refused_one call fault;
    }

    -- the old volume contradicts itself behind these calls
    pub contradicts : {a b : Mounted D} {p q : Mounted E} (gets puts : List Made) → ServesBoth state state' a b p q gets puts
        → Works state state' a b p q does (Err why.NoTree)
    contradicts gets puts serves = record { gets = gets; puts = puts; serves = serves; ends = tt }

    pub no_path : (a : Mounted D) (p : Mounted E) (fault : CopyFault) → IsNoPath fault → Works state state' a a p p does (Err fault)
    no_path a p fault is = record { gets = []; puts = []; serves = no_calls a p; ends = no_path_stops fault is }

  -- a call of the new volume alone
  pub called : {X : Type 0} {does : ℕ → List Made → List Made → Type 0} (a : Mounted D) {p q : Mounted E} (call : Call)
      (done : Result X FsError) {result : Result ℕ CopyFault}
      → Serves state' p q call (answer_by (λ done. Done) done) → ToldAs done result → does 0 [] (made call Done ∷ [])
      → Works state state' a a p q does result
  called {does = does} a {p} {q} call (Ok done) serves is made_so =
      subst (Works state state' a a p q does) (sym is)
      (record { gets = []; puts = made call Done ∷ []; serves = one_put a call Done serves; ends = (tt, (refl, tt), made_so) })
  called {does = does} a {p} {q} call (Err fault) serves is made_so =
      subst (Works state state' a a p q does) (sym is) (put_refused a call fault serves)

  module _ {X : Type 0} {Y : Type 0} {does : X → List Made → List Made → Type 0} {does' : Y → List Made → List Made → Type 0} where
    -- calls that stop, between calls that were done and calls that give up handles
    pub fails : {a b c d : Mounted D} {p q r s : Mounted E} (xs us ys vs : List Made) (fault : CopyFault)
        → ServesBoth state state' a b p q xs us → AreDone xs → AreDone us
        → Works state state' b c q r does (Err fault)
        → ServesBoth state state' c d r s ys vs → AreCloses ys → AreCloses vs
        → Works state state' a d p s does' (Err fault)
    fails xs us ys vs fault first done done' works last closes closes' = record {
      gets = xs ++ (works.gets ++ ys);
      puts = us ++ (works.puts ++ vs);
      serves = both_append xs us (works.gets ++ ys) (works.puts ++ vs) first (both_append works.gets works.puts ys vs works.serves last);
      ends = stops_within fault xs works.gets ys us works.puts vs done closes done' closes' works.ends;
    }

    -- with nothing behind them
    pub fails_behind : {a b c : Mounted D} {p q r : Mounted E} (xs us : List Made) (fault : CopyFault)
        → ServesBoth state state' a b p q xs us → AreDone xs → AreDone us
        → Works state state' b c q r does (Err fault) → Works state state' a c p r does' (Err fault)
    fails_behind {c = c} {r = r} xs us fault first done done' works =
        fails xs us [] [] fault first done done' works (no_calls c r) tt tt

  -- calls that copy one thing copy another
  pub weaker : {X : Type 0} {does does' : X → List Made → List Made → Type 0} {a b : Mounted D} {p q : Mounted E}
      (result : Result X CopyFault)
      → ((x : X) (gets puts : List Made) → does x gets puts → does' x gets puts)
      → Works state state' a b p q does result → Works state state' a b p q does' result
  weaker (Ok x) f works = record {
    gets = works.gets;
    puts = works.puts;
    serves = works.serves;
    ends = (works.ends.0, works.ends.1, f x works.gets works.puts works.ends.2);
  }
  weaker (Err fault) f works = record { gets = works.gets; puts = works.puts; serves = works.serves; ends = works.ends }
