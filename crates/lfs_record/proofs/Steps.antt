-- What the calls of a recorder do in the model.
use Rattle.std.proofs.Common.{◌≡◌, ◌≢◌, ◌<◌, ℕ, ◌+◌, true, false, List, [], ◌∷◌, ◌++◌, Option, Some, None, refl, sym, ap, ap₂, ◌∙◌}
use Rattle.std.proofs.Common.{subst, length, take, append-nil, arith, ◌-◌, ◌⊎◌, inl, inr}
use Rattle.std.specs.Prelude.{is_none, unwrap_or, replicate, ◌==◌}
use Rattle.std.specs.List.{AllByRecursion}
use Rattle.std.proofs.lemmas.Bool.{false≢true}
use Rattle.std.proofs.lemmas.Bool.Decides.{nat_tests}
use Rattle.std.specs.Ordering.{nat_cmp}
use Rattle.std.specs.FinMap.{find, put}
use Rattle.lfs_model.specs.Bytes as bytes
use Rattle.lfs_model.specs.Call.{Answer, Close, DirectoryEntry, Count, Create, Done, Handle, Pwrite, Unlink, is_ok}
use Rattle.lfs_model.specs.Sound.{Sound}
use Rattle.lfs_model.specs.Step.{Step, bad_handle, checked, file_at, old_entry, target, file_bytes, let_go, name, reached, the_node}
use Rattle.lfs_model.specs.Step.{with_new}
use Rattle.lfs_model.specs.Tree.{Dir, File, Names, Node, State, Tree, byte_cmp, entry, form_of, least, least_handle, names_in, node}
use Rattle.lfs_model.specs.Tree.{with_node, without, without_name, Link}
use Rattle.lfs_model.specs.Walk.{End}
use Rattle.lfs_model.proofs.Leasts.{least_free}
use Rattle.lfs_model.proofs.Makes.{checked_cases, dir_at, not_some, starts_one}
use Rattle.lfs_record.specs.Names.{is_name, path_of}
use Rattle.lfs_record.proofs.Changes.{HasRoot, all_found, form_is, left, made, names_are}
use Rattle.lfs_record.proofs.Paths.{path_name, path_parent}
use Rattle.lfs_record.proofs.Refusing.{Refuses, close_done, create_done, create_rows, passed, unlink_done, write_done, write_rows}
use Rattle.lfs_record.proofs.Oldest.{OldestAt, all_at, bytes_of}
use Rattle.lfs_record.specs.Kept.{bytes_in}
use Rattle.std.proofs.lemmas.List.{drop_all}

-- the root of a sound state
pub root_of : (N : ℕ) (s : State) → Sound N s → (form : ℕ) × (m : Names) × HasRoot s.tree form m
root_of N s sound =
    let is = dir_at (node s.tree 1) sound.root in
    (form_of (node s.tree 1), names_in s.tree 1, record { is = is; sorted = (sound.limits 1 _ is).0 })

abbrev handle_in : Answer → ℕ
handle_in (Handle h) = h
handle_in _ = 0

create_refuses : (N : ℕ) (s : State) (p : List ℕ) (d : ℕ) → Refuses (create_rows N s p d)
create_refuses N s p d = (λ _. refl, (λ _. refl, (λ _. refl, (λ _. refl, (λ _. refl, (λ _. refl, (λ _. refl, (λ _. refl, tt))))))))

-- A file is made in the root.
pub record Creates (s s' : State) (form : ℕ) (m : Names) (nm : List ℕ) (handle : ℕ) : Type 0 where
  pub absent : find byte_cmp nm m ≡ None
  pub fresh : node s.tree (least s.tree) ≡ None
  pub is : handle ≡ least_handle s.handles
  pub tree : s'.tree ≡ made s.tree form m nm (least s.tree)
  pub handles : s'.handles ≡ put nat_cmp handle (least s.tree) s.handles

module _ (N : ℕ) (s s' : State) (sound : Sound N s) (form : ℕ) (m : Names) (root : HasRoot s.tree form m) (nm : List ℕ)
    (named : is_name nm ≡ true) where
  abbrev p : List ℕ
  p = path_of nm

  made_is : with_new s.tree 1 p (File []) ≡ made s.tree form m nm (least s.tree)
  made_is =
      let n : ℕ = least s.tree in
      let same : Dir (form_of (node s.tree 1)) (put byte_cmp (name p) n (names_in s.tree 1)) ≡ Dir form (put byte_cmp nm n m) =
      ap₂ Dir (form_is s.tree form m root.is)
      (ap₂ (λ (x : List ℕ) (y : Names). put byte_cmp x n y) (path_name nm named) (names_are s.tree form m root.is)) in
      ap (λ (x : Node). with_node (with_node s.tree 1 x) n (File [])) same

  pub creates : (handle : ℕ) → Step N s (Create p) (Handle handle) s' → Creates s s' form m nm handle
  creates handle st =
      let at = path_parent nm named s.tree st.first_end st.first in
      let by : reached s st.first_end (λ d. checked s (create_rows N s p d) (create_done s p d))
      ≡ checked s (create_rows N s p 1) (create_done s p 1) =
      ap (λ (e : End). reached s e (λ d. checked s (create_rows N s p d) (create_done s p d))) at in
      let ok : is_ok (checked s (create_rows N s p 1) (create_done s p 1)).0 ≡ true =
      ap (λ (r : Answer × State). is_ok r.0) (sym by) ∙ ap is_ok st.answer in
      let pass = passed s (create_rows N s p 1) (create_done s p 1) (create_refuses N s p 1) ok in
      let all = by ∙ pass.1 in
      let is : least_handle s.handles ≡ handle = ap (λ (r : Answer × State). handle_in r.0) (sym all) ∙ ap handle_in st.answer in
      let state : s' ≡ (create_done s p 1).1 = sym st.state ∙ ap (λ (r : Answer × State). r.1) all in
      record {
        absent = ap₂ (λ (x : List ℕ) (y : Names). find byte_cmp x y) (sym (path_name nm named)) (sym (names_are s.tree form m root.is))
            ∙ not_some (entry s.tree 1 (name p)) pass.0.1.1.0;
        fresh = (least_free 1 s.tree sound.in_order (starts_one s.tree sound.numbers)).1;
        is = sym is;
        tree = ap (λ (x : State). x.tree) state ∙ made_is;
        handles = ap (λ (x : State). x.handles) state ∙ ap (λ (h : ℕ). put nat_cmp h (least s.tree) s.handles) is;
      }

-- ---- a file goes

unlink_refuses : (s : State) (p : List ℕ) (d : ℕ) → Refuses (old_entry s.tree d p)
unlink_refuses s p d = (λ _. refl, (λ _. refl, (λ _. refl, (λ _. refl, (λ _. refl, tt)))))

module _ (N : ℕ) (s s' : State) (form : ℕ) (m : Names) (root : HasRoot s.tree form m) (number : ℕ) (file : DirectoryEntry)
    (old : OldestAt s.tree number file m) where
  abbrev q : List ℕ
  q = path_of file.name

  found : find byte_cmp file.name m ≡ Some file.number
  found = all_at (λ x. find byte_cmp x.0 m ≡ Some x.1) old.before (file.name, file.number) old.after
      (subst (AllByRecursion (λ x. find byte_cmp x.0 m ≡ Some x.1)) old.whole (all_found m root.sorted))

  left_is : let_go (without_name s.tree 1 (name q)) s.handles (target s.tree 1 q) ≡ left s.tree s.handles form m root number file old
  left_is =
      let t : Tree = s.tree in
      let same : Dir (form_of (node t 1)) (without byte_cmp (name q) (names_in t 1)) ≡ Dir form (without byte_cmp file.name m) =
      ap₂ Dir (form_is t form m root.is)
      (ap₂ (λ (x : List ℕ) (y : Names). without byte_cmp x y) (path_name file.name old.named) (names_are t form m root.is)) in
      let gives : target t 1 q ≡ file.number =
      ap₂ (λ (x : List ℕ) (y : Names). unwrap_or (find byte_cmp x y) 0) (path_name file.name old.named) (names_are t form m root.is)
      ∙ ap (λ (o : Option ℕ). unwrap_or o 0) found in
      ap₂ (λ (x : Node) (n : ℕ). let_go (with_node t 1 x) s.handles n) same gives

  pub unlinks_oldest : Step N s (Unlink q) Done s' → (s'.tree ≡ left s.tree s.handles form m root number file old)
      × (s'.handles ≡ s.handles)
  unlinks_oldest st =
      let at = path_parent file.name old.named s.tree st.first_end st.first in
      let by : reached s st.first_end (λ d. checked s (old_entry s.tree d q) (unlink_done s q d))
      ≡ checked s (old_entry s.tree 1 q) (unlink_done s q 1) =
      ap (λ (e : End). reached s e (λ d. checked s (old_entry s.tree d q) (unlink_done s q d))) at in
      let ok : is_ok (checked s (old_entry s.tree 1 q) (unlink_done s q 1)).0 ≡ true =
      ap (λ (r : Answer × State). is_ok r.0) (sym by) ∙ ap is_ok st.answer in
      let pass = passed s (old_entry s.tree 1 q) (unlink_done s q 1) (unlink_refuses s q 1) ok in
      let state : s' ≡ (unlink_done s q 1).1 = sym st.state ∙ ap (λ (r : Answer × State). r.1) (by ∙ pass.1) in
      (ap (λ (x : State). x.tree) state ∙ left_is, ap (λ (x : State). x.handles) state)

-- ---- bytes behind the end of a file

pub file_of_bytes : (x : Option Node) (b : List ℕ) → bytes_in x ≡ Some b → x ≡ Some (File b)
file_of_bytes None b is = cc
file_of_bytes (Some (File c)) b is = ap (λ (o : Option (List ℕ)). Some (File (unwrap_or o c))) is
file_of_bytes (Some (Dir form m)) b is = cc
file_of_bytes (Some (Link text)) b is = cc

put_behind : (b w : List ℕ) → 0 < length w → bytes.put b (length b) w ≡ b ++ w
put_behind b [] some = absurd (omega (arith, some))
put_behind b (x ∷ w) some =
    let zero : length b - length b ≡ 0 = omega arith in
    let none : replicate (length b - length b) 0 ≡ [] = ap (λ (n : ℕ). replicate n 0) zero in
    let whole : bytes.cut b (length b) ≡ b =
    ap₂ (λ (y : List ℕ) (z : List ℕ). y ++ z) (drop_none b) none ∙ append-nil b in
    ap₂ (λ (y : List ℕ) (z : List ℕ). y ++ (x ∷ w) ++ z) whole (drop_all (length b + length (x ∷ w)) b (omega arith))
    ∙ append-nil (b ++ x ∷ w)
  where
    drop_none : (b : List ℕ) → take (length b) b ≡ b
    drop_none [] = refl
    drop_none (y ∷ b) = ap (λ (l : List ℕ). y ∷ l) (drop_none b)

not_zero : (n : ℕ) → 0 < n → (n == 0) ≡ false
not_zero n some = grind (arith, nat_tests)

module _ (N : ℕ) (s s' : State) (h off : ℕ) (w : List ℕ) (some : 0 < length w) where
  write_refuses : Refuses (write_rows N s h off w)
  write_refuses =
      (λ _. refl, (λ _. refl, (λ p. absurd (false≢true (sym (not_zero (length w) some) ∙ p)), (λ _. refl, (λ _. refl, tt)))))

  pub appends : (n count : ℕ) (b : List ℕ) → find nat_cmp h s.handles ≡ Some n → bytes_of s.tree n ≡ Some b → off ≡ length b
      → Step N s (Pwrite h off w) (Count count) s'
      → (s'.tree ≡ with_node s.tree n (File (b ++ w))) × (s'.handles ≡ s.handles)
  appends n count b opens is end st =
      let pass = passed s (write_rows N s h off w) (write_done s h off w) write_refuses (ap is_ok st.answer) in
      let state : s' ≡ (write_done s h off w).1 = sym st.state ∙ ap (λ (r : Answer × State). r.1) pass.1 in
      let at : file_at s h ≡ n = ap (λ (o : Option ℕ). unwrap_or o 0) opens in
      let was : file_bytes (the_node s.tree (file_at s h)) ≡ b =
      ap (λ (k : ℕ). file_bytes (the_node s.tree k)) at
      ∙ ap (λ (o : Option Node). file_bytes (unwrap_or o (File []))) (file_of_bytes (node s.tree n) b is) in
      let now : bytes.put (file_bytes (the_node s.tree (file_at s h))) off w ≡ b ++ w =
      ap₂ (λ (x : List ℕ) (o : ℕ). bytes.put x o w) was end ∙ put_behind b w some in (
        ap (λ (x : State). x.tree) state ∙ ap₂ (λ (k : ℕ) (x : List ℕ). with_node s.tree k (File x)) at now,
        ap (λ (x : State). x.handles) state,
      )

-- ---- a handle is closed

pub closes_or : (N : ℕ) (s s' : State) (h : ℕ) (a : Answer) → Step N s (Close h) a s'
    → (s' ≡ s) ⊎ ((s' ≡ (close_done s h).1) × (find nat_cmp h s.handles ≢ None))
closes_or N s s' h a st =
    elim (checked_cases s (bad_handle s h ∷ []) (close_done s h)) as (λ _. (s' ≡ s) ⊎ ((s' ≡ (close_done s h).1)
    × (find nat_cmp h s.handles ≢ None))) [
      | inl same ↦ inl (sym st.state ∙ same)
      | inr ok ↦ inr (sym st.state ∙ ok.1, λ none. false≢true (sym ok.0.0 ∙ ap is_none none))
    ]
