-- Changes of a tree at two places: the same in either order.
use Rattle.std.proofs.Common.{◌≡◌, ◌≢◌, refl, sym, ap, subst, ◌∙◌, ℕ, true, false, List, [], Option, Some, None, cond}
use Rattle.std.specs.Prelude.{T, unwrap_or, not}
use Rattle.std.specs.Ordering.{nat_cmp, eq_by_cmp}
use Rattle.std.specs.Cmp.Lexicographic.{nat_list_cmp_total}
use Rattle.std.proofs.lemmas.Cmp.{nat_cmp_total}
use Rattle.std.specs.FinMap.{find, put, is_sorted, nat_cmp-IsAntisymmetric, slice_cmp-IsAntisymmetric}
use Rattle.std.specs.FinMap.Entries.{is_sorted-put, is_sorted-where_key, find-put, same_entries}
use Rattle.lfs_model.specs.Tree.{Tree, Names, Node, File, Dir, node, with_node, without, names_of, names_in, form_of, byte_cmp, with_name}
use Rattle.lfs_model.specs.Tree.{without_name}
use Rattle.lfs_model.proofs.Sums.{find_without}
use Rattle.lfs_model.proofs.Trees.{find_here, find_other, cmp_same, cmp_other}
use Rattle.lfs_model.proofs.Growing.{same_or_not}

-- a directory's names changed
abbrev pub change : (Names → Names) → Tree → ℕ → Tree
change f t d = with_node t d (Dir (form_of (node t d)) (f (names_in t d)))

abbrev pub changed : Option Node → (Names → Names) → Node
changed o f = Dir (form_of o) (f (names_of (unwrap_or o (File []))))

module _ (t : Tree) (order : T (is_sorted nat_cmp t)) where
  put_swap : (a b : ℕ) (x y : Node) → a ≢ b → put nat_cmp a x (put nat_cmp b y t) ≡ put nat_cmp b y (put nat_cmp a x t)
  put_swap a b x y ne = same_entries nat_cmp nat_cmp_total nat_cmp-IsAntisymmetric _ _
      (is_sorted-put nat_cmp nat_cmp_total a x (put nat_cmp b y t) (is_sorted-put nat_cmp nat_cmp_total b y t order))
      (is_sorted-put nat_cmp nat_cmp_total b y (put nat_cmp a x t) (is_sorted-put nat_cmp nat_cmp_total a x t order))
      (λ q. same_or_not q a
      (λ e. subst (λ k. find nat_cmp k (put nat_cmp a x (put nat_cmp b y t)) ≡ find nat_cmp k (put nat_cmp b y (put nat_cmp a x t))) (sym e)
      (find_here (put nat_cmp b y t) a x ∙ sym (find_other (put nat_cmp a x t) b y a ne ∙ find_here t a x)))
      (λ na. same_or_not q b
      (λ e. subst (λ k. find nat_cmp k (put nat_cmp a x (put nat_cmp b y t)) ≡ find nat_cmp k (put nat_cmp b y (put nat_cmp a x t))) (sym e)
      (find_other (put nat_cmp b y t) a x b (λ e. ne (sym e)) ∙ find_here t b y ∙ sym (find_here (put nat_cmp a x t) b y)))
      (λ nb. find_other (put nat_cmp b y t) a x q na ∙ find_other t b y q nb
      ∙ sym (find_other (put nat_cmp a x t) b y q nb ∙ find_other t a x q na))))

  less : (j : ℕ) (u : Tree) → T (is_sorted nat_cmp u) → T (is_sorted nat_cmp (without nat_cmp j u))
  less j u h = is_sorted-where_key nat_cmp (λ x. not (eq_by_cmp nat_cmp j x)) u h

  gone : (j : ℕ) (u : Tree) → node (without nat_cmp j u) j ≡ None
  gone j u = find_without nat_cmp_total j j u ∙ ap (λ b. cond b None (node u j)) (cmp_same j)

  left : (j q : ℕ) (u : Tree) → q ≢ j → node (without nat_cmp j u) q ≡ node u q
  left j q u ne = find_without nat_cmp_total j q u ∙ ap (λ b. cond b None (node u q)) (cmp_other q j ne)

  without_put : (j k : ℕ) (x : Node) → k ≢ j → without nat_cmp j (put nat_cmp k x t) ≡ put nat_cmp k x (without nat_cmp j t)
  without_put j k x ne = same_entries nat_cmp nat_cmp_total nat_cmp-IsAntisymmetric _ _
      (less j (put nat_cmp k x t) (is_sorted-put nat_cmp nat_cmp_total k x t order))
      (is_sorted-put nat_cmp nat_cmp_total k x (without nat_cmp j t) (less j t order))
      (λ q. same_or_not q j
      (λ e. subst (λ y. node (without nat_cmp j (put nat_cmp k x t)) y ≡ node (put nat_cmp k x (without nat_cmp j t)) y) (sym e)
      (gone j (put nat_cmp k x t) ∙ sym (find_other (without nat_cmp j t) k x j (λ e. ne (sym e)) ∙ gone j t)))
      (λ nj. left j q (put nat_cmp k x t) nj ∙ same_or_not q k
      (λ e. subst (λ y. node (put nat_cmp k x t) y ≡ node (put nat_cmp k x (without nat_cmp j t)) y) (sym e)
      (find_here t k x ∙ sym (find_here (without nat_cmp j t) k x)))
      (λ nk. find_other t k x q nk ∙ sym (find_other (without nat_cmp j t) k x q nk ∙ left j q t nj))))

  -- a node less, before or after a change of another
  pub change_less : (f : Names → Names) (d j : ℕ) → d ≢ j → without nat_cmp j (change f t d) ≡ change f (without nat_cmp j t) d
  change_less f d j ne = without_put j d (changed (node t d) f) ne
      ∙ ap (λ o. put nat_cmp d (changed o f) (without nat_cmp j t)) (sym (left j d t ne))

  -- a node more, before or after it
  pub change_more : (f : Names → Names) (d n : ℕ) (x : Node) → d ≢ n → with_node (change f t d) n x ≡ change f (with_node t n x) d
  change_more f d n x ne = put_swap n d x (changed (node t d) f) (λ e. ne (sym e))
      ∙ ap (λ o. put nat_cmp d (changed o f) (with_node t n x)) (sym (find_other t n x d ne))

  pub change_order : (f : Names → Names) (d : ℕ) → T (is_sorted nat_cmp (change f t d))
  change_order f d = is_sorted-put nat_cmp nat_cmp_total d (changed (node t d) f) t order

-- a name that is put over one that was there
put_over : (n : ℕ) (nm : List ℕ) (xs ys : Names) → T (is_sorted byte_cmp xs) → T (is_sorted byte_cmp ys)
    → ((x : List ℕ) → eq_by_cmp byte_cmp x nm ≡ false → find byte_cmp x xs ≡ find byte_cmp x ys)
    → put byte_cmp nm n xs ≡ put byte_cmp nm n ys
put_over n nm xs ys order_x order_y same = same_entries byte_cmp nat_list_cmp_total (slice_cmp-IsAntisymmetric nat_cmp-IsAntisymmetric) _ _
    (is_sorted-put byte_cmp nat_list_cmp_total nm n xs order_x) (is_sorted-put byte_cmp nat_list_cmp_total nm n ys order_y)
    (λ x. find-put byte_cmp nat_list_cmp_total x nm n xs
    ∙ elim (eq_by_cmp byte_cmp x nm) as (λ b. eq_by_cmp byte_cmp x nm ≡ b
    → cond b (Some n) (find byte_cmp x xs) ≡ cond b (Some n) (find byte_cmp x ys)) [ true ↦ λ e. refl | false ↦ λ e. same x e ] refl
    ∙ sym (find-put byte_cmp nat_list_cmp_total x nm n ys))

fewer_names : (nm : List ℕ) (m : Names) → T (is_sorted byte_cmp m) → T (is_sorted byte_cmp (without byte_cmp nm m))
fewer_names nm m h = is_sorted-where_key byte_cmp (λ x. not (eq_by_cmp byte_cmp nm x)) m h

-- ---- a rename over a name that is there: that name may go first

module _ (t : Tree) (order : T (is_sorted nat_cmp t)) (da db n : ℕ) (na nb : List ℕ)
    (order_b : T (is_sorted byte_cmp (names_in t db))) where
  abbrev pub freed : Tree
  freed = without_name t db nb

  abbrev less_a : Tree
  less_a = without_name t da na

  abbrev less_both : Tree
  less_both = without_name freed da na

  at_change : (f : Names → Names) (u : Tree) (d : ℕ) → node (change f u d) d ≡ Some (changed (node u d) f)
  at_change f u d = find_here u d (changed (node u d) f)

  off_change : (f : Names → Names) (u : Tree) (d q : ℕ) → q ≢ d → node (change f u d) q ≡ node u q
  off_change f u d q ne = find_other u d (changed (node u d) f) q ne

  abbrev more_b : Names → Names
  more_b = put byte_cmp nb n

  one_less : (m : Names) (x : List ℕ) → eq_by_cmp byte_cmp x nb ≡ false → find byte_cmp x m ≡ find byte_cmp x (without byte_cmp nb m)
  one_less m x ne = sym (find_without nat_list_cmp_total nb x m ∙ ap (λ b. cond b None (find byte_cmp x m)) ne)

  over : (m : Names) → T (is_sorted byte_cmp m) → more_b m ≡ more_b (without byte_cmp nb m)
  over m h = put_over n nb m (without byte_cmp nb m) h (fewer_names nb m h) (one_less m)

  over_less : (m : Names) → T (is_sorted byte_cmp m) → more_b (without byte_cmp na m) ≡ more_b (without byte_cmp na (without byte_cmp nb m))
  over_less m h = put_over n nb (without byte_cmp na m) (without byte_cmp na (without byte_cmp nb m)) (fewer_names na m h)
      (fewer_names na (without byte_cmp nb m) (fewer_names nb m h))
      (λ x ne. find_without nat_list_cmp_total na x m ∙ ap (λ o. cond (eq_by_cmp byte_cmp x na) None o) (one_less m x ne)
      ∙ sym (find_without nat_list_cmp_total na x (without byte_cmp nb m)))

  at_b : node (with_name less_a db nb n) db ≡ node (with_name less_both db nb n) db
  at_b = at_change more_b less_a db ∙ inner ∙ sym (at_change more_b less_both db)
    where
      inner : Some (changed (node less_a db) more_b) ≡ Some (changed (node less_both db) more_b)
      inner = same_or_not db da
          (λ e.
          let one : node less_a db ≡ Some (changed (node t db) (without byte_cmp na)) =
          subst (λ d. node less_a d ≡ Some (changed (node t d) (without byte_cmp na))) (sym e) (at_change (without byte_cmp na) t da) in
          let two : node less_both db ≡ Some (changed (node freed db) (without byte_cmp na)) = subst (λ d.
          node less_both d ≡ Some (changed (node freed d) (without byte_cmp na))) (sym e) (at_change (without byte_cmp na) freed da) in
          let three : node freed db ≡ Some (changed (node t db) (without byte_cmp nb)) = at_change (without byte_cmp nb) t db in
          ap (λ o. Some (changed o more_b)) one
          ∙ ap (λ m. Some (Dir (form_of (node t db)) m)) (over_less (names_in t db) order_b)
          ∙ sym (ap (λ o. Some (changed o more_b)) (two ∙ ap (λ o. Some (changed o (without byte_cmp na))) three)))
          (λ ne.
          let one : node less_a db ≡ node t db = off_change (without byte_cmp na) t da db ne in
          let two : node less_both db ≡ node freed db = off_change (without byte_cmp na) freed da db ne in
          let three : node freed db ≡ Some (changed (node t db) (without byte_cmp nb)) = at_change (without byte_cmp nb) t db in
          ap (λ o. Some (changed o more_b)) one
          ∙ ap (λ m. Some (Dir (form_of (node t db)) m)) (over (names_in t db) order_b)
          ∙ sym (ap (λ o. Some (changed o more_b)) (two ∙ three)))

  off_b : (q : ℕ) → q ≢ db → node less_a q ≡ node less_both q
  off_b q ne = same_or_not q da
      (λ e. subst (λ k. node less_a k ≡ node less_both k) (sym e) (
      at_change (without byte_cmp na) t da
      ∙ ap (λ o. Some (changed o (without byte_cmp na))) (sym (off_change (without byte_cmp nb) t db da (λ same. ne (e ∙ same))))
      ∙ sym (at_change (without byte_cmp na) freed da)))
      (λ apart. off_change (without byte_cmp na) t da q apart
      ∙ sym (off_change (without byte_cmp na) freed da q apart ∙ off_change (without byte_cmp nb) t db q ne))

  pub rename_over : with_name less_a db nb n ≡ with_name less_both db nb n
  rename_over =
      let order_a = change_order t order (without byte_cmp na) da in
      let order_freed = change_order t order (without byte_cmp nb) db in
      let order_both = change_order freed order_freed (without byte_cmp na) da in
      same_entries nat_cmp nat_cmp_total nat_cmp-IsAntisymmetric _ _ (change_order less_a order_a more_b db)
      (change_order less_both order_both more_b db)
      (λ q. same_or_not q db
      (λ e. subst (λ k. node (with_name less_a db nb n) k ≡ node (with_name less_both db nb n) k) (sym e) at_b)
      (λ ne. off_change more_b less_a db q ne ∙ off_b q ne ∙ sym (off_change more_b less_both db q ne)))
