-- A call that is refused changes nothing.
use Rattle.std.proofs.Common.{◌≡◌, ℕ, Bool, true, false, List, [], ◌∷◌, ◌++◌, ◌+◌, length, refl, sym, ap, ◌∙◌}
use Rattle.std.specs.Prelude.{if◌then◌else◌, nat_lt, ◌==◌}
use Rattle.std.specs.Ordering.{nat_cmp}
use Rattle.std.specs.FinMap.{put}
use Rattle.std.proofs.lemmas.Bool.{false≢true}
use Rattle.lfs_model.specs.Call.{Answer, Call, Close, Count, Create, Done, Handle, Pwrite, Readdir, Sync, Unlink, is_ok}
use Rattle.lfs_model.specs.Bytes as bytes
use Rattle.lfs_model.specs.Refusal.{FileTooBig, Inval}
use Rattle.lfs_model.specs.Step.{Step, bad_handle, checked, file_at, file_bytes, let_go, new_entry, no_handle, no_number, no_space}
use Rattle.lfs_model.specs.Step.{old_entry}
use Rattle.lfs_model.specs.Step.{name, outcome, reached, target, the_node, when, with_new, with_tree}
use Rattle.lfs_model.specs.Tree.{File, Handles, State, Tree, least, least_handle, with_node, without, without_name}
use Rattle.lfs_model.specs.declared.limits.TheConstants.{LARGEST_FILE, LONGEST_TRANSFER}
use Rattle.lfs_model.specs.Walk.{At, End, Refused}
use Rattle.lfs_model.proofs.Makes.{NonePass}
use Rattle.lfs_model.proofs.Pendings.{reads_leave}
use Rattle.lfs_record.specs.Kept.{IsOwn}

-- where it is refused the state is this one
abbrev Keeps : State → Answer × State → Type 0
Keeps s r = is_ok r.0 ≡ false → r.1 ≡ s

done : (s : State) (a : Answer) (s' : State) → is_ok a ≡ true → Keeps s (a, s')
done s a s' ok refused = absurd (false≢true (sym refused ∙ ok))

by_list : (s : State) (cs : List (Bool × Answer)) (r : Answer × State) → Keeps s r → Keeps s (checked s cs r)
by_list s [] r keeps = keeps
by_list s (c ∷ cs) r keeps = elim c.0 as (λ b. Keeps s (if b then (c.1, s) else checked s cs r)) [
  | true ↦ λ refused. refl
  | false ↦ by_list s cs r keeps
]

by_end : (s : State) (e : End) (f : ℕ → Answer × State) → ((n : ℕ) → Keeps s (f n)) → Keeps s (reached s e f)
by_end s (At n) f keeps = keeps n
by_end s (Refused r) f keeps = λ refused. refl

-- ---- the rows of the calls

abbrev pub create_rows : ℕ → State → List ℕ → ℕ → List (Bool × Answer)
create_rows N s p d = new_entry s.tree d p false ++ no_handle s ∷ no_number s.tree ∷ no_space N (with_new s.tree d p (File [])) ∷ []

abbrev pub create_done : State → List ℕ → ℕ → Answer × State
create_done s p d = (
  Handle (least_handle s.handles),
  record s { tree = with_new s.tree d p (File []); handles = put nat_cmp (least_handle s.handles) (least s.tree) s.handles },
)

abbrev pub with_bytes : State → ℕ → ℕ → List ℕ → Tree
with_bytes s h off w = with_node s.tree (file_at s h) (File (bytes.put (file_bytes (the_node s.tree (file_at s h))) off w))

abbrev pub write_rows : ℕ → State → ℕ → ℕ → List ℕ → List (Bool × Answer)
write_rows N s h off w = bad_handle s h ∷ when (nat_lt LONGEST_TRANSFER (length w)) Inval ∷ (length w == 0, Count 0)
    ∷ when (nat_lt LARGEST_FILE (off + length w)) FileTooBig ∷ no_space N (with_bytes s h off w) ∷ []

abbrev pub write_done : State → ℕ → ℕ → List ℕ → Answer × State
write_done s h off w = (Count (length w), with_tree s (with_bytes s h off w))

abbrev pub close_done : State → ℕ → Answer × State
close_done s h =
    let rest : Handles = without nat_cmp h s.handles in
    (Done, record s { tree = let_go s.tree rest (file_at s h); handles = rest })

abbrev pub unlink_done : State → List ℕ → ℕ → Answer × State
unlink_done s p d = (Done, with_tree s (let_go (without_name s.tree d (name p)) s.handles (target s.tree d p)))

create_keeps : (N : ℕ) (s : State) (p : List ℕ) (e f : End) → Keeps s (outcome N s (Create p) e f)
create_keeps N s p e f =
    by_end s e (λ d. checked s (create_rows N s p d) (create_done s p d))
    (λ d. by_list s (create_rows N s p d) (create_done s p d) (done s (create_done s p d).0 (create_done s p d).1 refl))

close_keeps : (N : ℕ) (s : State) (h : ℕ) (e f : End) → Keeps s (outcome N s (Close h) e f)
close_keeps N s h e f = by_list s (bad_handle s h ∷ []) (close_done s h) (done s Done (close_done s h).1 refl)

pwrite_keeps : (N : ℕ) (s : State) (h off : ℕ) (w : List ℕ) (e f : End) → Keeps s (outcome N s (Pwrite h off w) e f)
pwrite_keeps N s h off w e f =
    by_list s (write_rows N s h off w) (write_done s h off w) (done s (Count (length w)) (write_done s h off w).1 refl)

unlink_keeps : (N : ℕ) (s : State) (p : List ℕ) (e f : End) → Keeps s (outcome N s (Unlink p) e f)
unlink_keeps N s p e f =
    by_end s e (λ d. checked s (old_entry s.tree d p) (unlink_done s p d))
    (λ d. by_list s (old_entry s.tree d p) (unlink_done s p d) (done s Done (unlink_done s p d).1 refl))

module _ (N : ℕ) (s s' : State) (a : Answer) (not_ok : is_ok a ≡ false) where
  -- by the call
  pub refused_same : (call : Call) → IsOwn call → Step N s call a s' → s' ≡ s
  refused_same (Create p) own st = sym st.state ∙ create_keeps N s p st.first_end st.second_end (ap is_ok st.answer ∙ not_ok)
  refused_same (Close h) own st = sym st.state ∙ close_keeps N s h st.first_end st.second_end (ap is_ok st.answer ∙ not_ok)
  refused_same (Pwrite h off w) own st = sym st.state ∙ pwrite_keeps N s h off w st.first_end st.second_end (ap is_ok st.answer ∙ not_ok)
  refused_same (Unlink p) own st = sym st.state ∙ unlink_keeps N s p st.first_end st.second_end (ap is_ok st.answer ∙ not_ok)
  refused_same (Readdir p) own st = reads_leave N s s' (Readdir p) a refl st
  refused_same Sync own st = reads_leave N s s' Sync a refl st
  refused_same _ own st = absurd own

-- rows whose answers, where they hold, are refusals
abbrev pub Refuses : List (Bool × Answer) → Type 0
Refuses [] = Unit {0}
Refuses (c ∷ cs) = (c.0 ≡ true → is_ok c.1 ≡ false) × Refuses cs

-- what is done has passed them all
pub passed : (s : State) (cs : List (Bool × Answer)) (r : Answer × State) → Refuses cs → is_ok (checked s cs r).0 ≡ true
    → NonePass cs × (checked s cs r ≡ r)
passed s [] r refuses ok = (tt, refl)
passed s (c ∷ cs) r refuses ok =
    elim c.0 as (λ b. c.0 ≡ b → is_ok (if b then (c.1, s) else checked s cs r).0 ≡ true
    → NonePass (c ∷ cs) × ((if b then (c.1, s) else checked s cs r) ≡ r)) [
      | true ↦ λ p ok. absurd (false≢true (sym (refuses.0 p) ∙ ok))
      | false ↦ λ p ok. (let rest = passed s cs r refuses.1 ok in ((p, rest.0), rest.1))
    ] refl ok
