-- Trees with the names of a directory changed: how many names and links each node has then.
use Rattle.lfs_steps.proofs.Prelude.{◌≡◌, ◌≢◌, ◌+◌, ◌&&◌, ℕ, Bool, true, false, not, List, [], ◌∷◌, Option, Some, None, refl, sym, ◌∙◌, ap}
use Rattle.lfs_steps.proofs.Prelude.{subst, cond, ⊎_elim, eqb, arith, T, ◌==◌, count_by, unwrap_or, fun_ext, eq-eqb, eqb_tells}
use Rattle.lfs_steps.proofs.Prelude.{nat_cmp_total, nat_cmp, eq_by_cmp, find, is_sorted, is_sorted-where_key, one_if, Dir, File, Link, Node}
use Rattle.lfs_steps.proofs.Prelude.{Tree, byte_cmp, entry, form_of, is_dir, links, links_at, names, names_in, names_of, node, with_name}
use Rattle.lfs_steps.proofs.Prelude.{with_node, without, without_name, gives, same_or_not, dir_at, find_without, total_put, weight}
use Rattle.lfs_steps.proofs.Prelude.{change_less, cmp_other, find_here, find_other}
use Rattle.std.specs.Prelude.{sum_by}
use Rattle.std.proofs.lemmas.List.Sums.{sum_by-cons}
use Rattle.std.specs.Cmp.Lexicographic.{nat_list_cmp_total}
use Rattle.std.specs.FinMap.{put}
use Rattle.lfs_model.specs.Tree.{Names}
use Rattle.lfs_model.proofs.Moves.{none_if}
use Rattle.lfs_model.proofs.Shrinking as shrinks
use Rattle.lfs_model.proofs.Sums.{total_without, weight-le-total}
use Rattle.lfs_model.proofs.Swaps.{change_order}

-- ---- numbers that count once

pub once : (q : ℕ) → one_if (q == q) ≡ 1
once q = ap one_if (eq-eqb q q refl)

pub never : (k q : ℕ) → k ≢ q → one_if (k == q) ≡ 0
never k q ne = ⊎_elim
    (λ (h : (eqb k q ≡ true) × (k ≡ q)). absurd (ne h.1))
    (λ (h : (eqb k q ≡ false) × (k ≢ q)). ap one_if h.0)
    (eqb_tells k q)

-- x at one number, and nothing elsewhere
abbrev pub only_at : ℕ → ℕ → ℕ → ℕ
only_at d x q = cond (d == q) x 0

pub nothing_at : (d q : ℕ) → only_at d 0 q ≡ 0
nothing_at d q = by (d == q)
  where
    by : (b : Bool) → cond {A = ℕ} b 0 0 ≡ 0
    by true = refl
    by false = refl

-- what a name's number counts, if there is one
abbrev pub value : (ℕ → ℕ) → Option ℕ → ℕ
value f None = 0
value f (Some k) = f k

-- What a name in directory d adds to the links of q: a directory's counts for d, that of a file or
-- a link for itself.
abbrev pub link_of : Bool → ℕ → ℕ → ℕ → ℕ
link_of true d k q = one_if (d == q)
link_of false d k q = one_if (k == q)

abbrev pub link_of_name : Tree → ℕ → Option ℕ → ℕ → ℕ
link_of_name t d o q = value (λ k. link_of (is_dir (node t k)) d k q) o

-- ---- names of a directory, one of them another

abbrev pub sum_of : (ℕ → ℕ) → Names → ℕ
sum_of f ms = sum_by (λ (e : List ℕ × ℕ). f e.1) ms

-- One name's number has gone, and another has come, if there are such.
abbrev pub IsSwap : Names → Names → Option ℕ → Option ℕ → Type 0
IsSwap m m' gone come = (f : ℕ → ℕ) → sum_of f m' + value f gone ≡ sum_of f m + value f come

value_is : (f : ℕ → ℕ) (o : Option ℕ) → weight nat_list_cmp_total f o ≡ value f o
value_is f None = refl
value_is f (Some k) = refl

swap_less : (nm : List ℕ) (m : Names) → T (is_sorted byte_cmp m)
    → IsSwap m (without byte_cmp nm m) (find byte_cmp nm m) None
swap_less nm m order f =
    let all = total_without nat_list_cmp_total f nm m order in
    let same = value_is f (find byte_cmp nm m) in
    omega (arith, all, same)

swap_more : (nm : List ℕ) (n : ℕ) (m : Names) → T (is_sorted byte_cmp m)
    → IsSwap m (put byte_cmp nm n m) (find byte_cmp nm m) (Some n)
swap_more nm n m order f =
    let all = total_put nat_list_cmp_total f nm n m order in
    let same = value_is f (find byte_cmp nm m) in
    omega (arith, all, same)

-- Directory d of the tree has these names, and others are to take their place.
pub record IsSwapped (t : Tree) (d form : ℕ) (m m' : Names) (gone come : Option ℕ) : Type 0 where
  pub in_order : T (is_sorted nat_cmp t)
  pub is : node t d ≡ Some (Dir form m)
  pub swap : IsSwap m m' gone come

module _ {t : Tree} {d form : ℕ} {m m' : Names} {gone come : Option ℕ}
    (swapped : IsSwapped t d form m m' gone come) where
  open swapped use {in_order, is, swap}

  abbrev after : Tree
  after = with_node t d (Dir form m')

  at_dir : node after d ≡ Some (Dir form m')
  at_dir = find_here t d (Dir form m')

  at_other : (q : ℕ) → q ≢ d → node after q ≡ node t q
  at_other q ne = find_other t d (Dir form m') q ne

  -- the directories are the same
  dirs : (q : ℕ) → is_dir (node after q) ≡ is_dir (node t q)
  dirs q = same_or_not q d
      (λ e. subst (λ (x : ℕ). is_dir (node after x) ≡ is_dir (node t x)) (sym e)
      (ap is_dir at_dir ∙ sym (ap is_dir is)))
      (λ ne. ap is_dir (at_other q ne))

  subdirs : (ms : Names) → count_by (λ x. is_dir (node after x.1))
      ms ≡ count_by (λ x. is_dir (node t x.1)) ms
  subdirs ms =
      let f : (λ (q : ℕ). is_dir (node after q)) ≡ (λ (q : ℕ). is_dir (node t q)) = fun_ext dirs in
      ap (λ (f : ℕ → Bool). count_by (λ (x : List ℕ × ℕ). f x.1) ms) f

  -- each node's names
  names_after : (q : ℕ) → names after q + value (λ k. one_if (k == q))
      gone ≡ names t q + value (λ k. one_if (k == q)) come
  names_after q =
      let all = total_put nat_cmp_total (gives q) d (Dir form m') t in_order in
      let was : weight nat_cmp_total (gives q) (node t d) ≡ gives q (Dir form m) =
      ap (weight nat_cmp_total (gives q)) is in
      let both = swap (λ k. one_if (k == q)) in
      omega (arith, all, was, both)

  -- what a name counts for the directory itself, for another one, and for a file or a link
  link_here : (o : Option ℕ) → link_of_name t d o d ≡ value (λ k. one_if (is_dir (node t k))) o
  link_here None = refl
  link_here (Some k) = by (is_dir (node t k)) refl
    where
      by : (b : Bool) → is_dir (node t k) ≡ b → link_of b d k d ≡ one_if b
      by true e = once d
      by false e = never k d (λ same. let dir : is_dir (node t d) ≡ true = ap is_dir is in
          let no : is_dir (node t d) ≡ false = subst (λ (x : ℕ). is_dir (node t x) ≡ false)
          same e in cc)

  link_dir : (q : ℕ) → q ≢ d → is_dir (node t q) ≡ true → (o : Option ℕ) → link_of_name t d o q ≡ 0
  link_dir q ne dir None = refl
  link_dir q ne dir (Some k) = by (is_dir (node t k)) refl
    where
      by : (b : Bool) → is_dir (node t k) ≡ b → link_of b d k q ≡ 0
      by true e = never d q (λ same. ne (sym same))
      by false e = never k q (λ same. let no : is_dir (node t q) ≡ false =
          subst (λ (x : ℕ). is_dir (node t x) ≡ false) same e in cc)

  link_leaf : (q : ℕ) → q ≢ d → is_dir (node t q) ≡ false → (o : Option ℕ)
      → link_of_name t d o q ≡ value (λ k. one_if (k == q)) o
  link_leaf q ne leaf None = refl
  link_leaf q ne leaf (Some k) = by (is_dir (node t k)) refl
    where
      by : (b : Bool) → is_dir (node t k) ≡ b → link_of b d k q ≡ one_if (k == q)
      by true e = never d q (λ same. ne (sym same))
          ∙ sym (never k q (λ same. let on : is_dir (node t q) ≡ true =
          subst (λ (x : ℕ). is_dir (node t x) ≡ true) same e in cc))
      by false e = refl

  links_of_dir : links after d + link_of_name t d gone d ≡ links t d + link_of_name t d come d
  links_of_dir =
      let now : links after d ≡ 2 + count_by (λ x. is_dir (node t x.1)) m' = ap (links_at after d)
      at_dir ∙ ap (λ c. 2 + c) (subdirs m') in
      let was : links t d ≡ 2 + count_by (λ x. is_dir (node t x.1)) m = ap (links_at t d) is in
      let both = swap (λ k. one_if (is_dir (node t k))) in
      let less = link_here gone in
      let more = link_here come in
      omega (arith, now, was, both, less, more)

  links_leaf : (q : ℕ) → q ≢ d → is_dir (node t q) ≡ false
      → names after q + link_of_name t d gone q ≡ names t q + link_of_name t d come q
  links_leaf q ne leaf =
      let all = names_after q in
      let less = link_leaf q ne leaf gone in
      let more = link_leaf q ne leaf come in
      omega (arith, all, less, more)

  links_by : (q : ℕ) → q ≢ d → (o : Option Node) → node t q ≡ o
      → links_at after q o + link_of_name t d gone q ≡ links_at t q o + link_of_name t d come q
  links_by q ne None e = links_leaf q ne (ap is_dir e)
  links_by q ne (Some (File b)) e = links_leaf q ne (ap is_dir e)
  links_by q ne (Some (Link text)) e = links_leaf q ne (ap is_dir e)
  links_by q ne (Some (Dir f ms)) e = let all = subdirs ms in let less =
      link_dir q ne (ap is_dir e) gone in let more = link_dir q ne (ap is_dir e) come in
      omega (arith, all, less, more)

  -- and each node's links
  links_after : (q : ℕ) → links after q + link_of_name t d gone q ≡ links t q + link_of_name t d
      come q
  links_after q = same_or_not q d
      (λ e. subst (λ (x : ℕ). links after x + link_of_name t d gone x ≡ links t x + link_of_name t
      d come x) (sym e) links_of_dir)
      (λ ne.
      let now : links after q ≡ links_at after q (node t q) = ap (links_at after q) (at_other q ne)
      in
      let all = links_by q ne (node t q) refl in
      omega (arith, now, all))

-- one name more
pub links_more : (t : Tree) (d n : ℕ) {form : ℕ} {ms : Names} (nm : List ℕ) → T (is_sorted nat_cmp t)
    → node t d ≡ Some (Dir form ms) → T (is_sorted byte_cmp ms) → find byte_cmp nm ms ≡ None
    → (q : ℕ) → links (with_node t d (Dir form (put byte_cmp nm n ms))) q
    ≡ links t q + link_of (is_dir (node t n)) d n q
links_more t d n {form} {ms} nm in_order is dir_order absent q =
    let swapped : IsSwapped t d form ms (put byte_cmp nm n ms) None (Some n) = record {
      in_order = in_order;
      is = is;
      swap = subst (λ (o : Option ℕ). IsSwap ms (put byte_cmp nm n ms) o (Some n)) absent
          (swap_more nm n ms dir_order);
    } in
    let all = links_after swapped q in
    omega (arith, all)

-- ---- a node that no name gives, and that gives none

same_count : (n : ℕ) (f g : ℕ → Bool) → ((k : ℕ) → k ≢ n → f k ≡ g k) → (ms : Names)
    → count_by (λ e. e.1 == n) ms ≡ 0 → count_by (λ e. f e.1) ms ≡ count_by (λ e. g e.1) ms
same_count n f g same [] none = refl
same_count n f g same (e ∷ ms) none =
    let all = sum_by-cons (λ (e : List ℕ × ℕ). one_if (e.1 == n)) e ms in
    let apart : e.1 ≢ n = (λ is. (let one : one_if (e.1 == n) ≡ 1 = ap (λ (k : ℕ). one_if (k == n))
    is ∙ once n in absurd (omega (arith, all, one, none)))) in
    let rest = same_count n f g same ms (omega (arith, all, none)) in
    let one_f = sum_by-cons (λ (e : List ℕ × ℕ). one_if (f e.1)) e ms in
    let one_g = sum_by-cons (λ (e : List ℕ × ℕ). one_if (g e.1)) e ms in
    let first : one_if (f e.1) ≡ one_if (g e.1) = ap one_if (same e.1 apart) in
    omega (arith, one_f, one_g, rest, first)

module _ (t : Tree) (n : ℕ) (in_order : T (is_sorted nat_cmp t)) (unnamed : names t n ≡ 0)
    (empty : names_in t n ≡ []) where
  abbrev left : Tree
  left = without nat_cmp n t

  others : (q : ℕ) → q ≢ n → node left q ≡ node t q
  others q ne = find_without nat_cmp_total n q t
      ∙ ap (λ (b : Bool). cond b None (node t q)) (cmp_other q n ne)

  nothing : (q : ℕ) (o : Option Node) → names_of (unwrap_or o (File [])) ≡ []
      → weight nat_cmp_total (gives q) o ≡ 0
  nothing q None none = refl
  nothing q (Some x) none = ap (λ (ms : Names). count_by (λ e. e.1 == q) ms) none

  names_left : (q : ℕ) → names left q ≡ names t q
  names_left q =
      let all = total_without nat_cmp_total (gives q) n t in_order in
      let none = nothing q (node t n) empty in
      omega (arith, all, none)

  no_such : (q f : ℕ) (ms : Names) → node t q ≡ Some (Dir f ms) → count_by (λ e. e.1 == n) ms ≡ 0
  no_such q f ms is =
      let most = weight-le-total nat_cmp_total (gives n) q (Dir f ms) t is in
      let none = unnamed in
      omega (arith, most, none)

  -- the others keep their links
  pub links_left : (q : ℕ) → q ≢ n → links left q ≡ links t q
  links_left q ne = ap (links_at left q) (others q ne) ∙ by (node t q) refl
    where
      by : (o : Option Node) → node t q ≡ o → links_at left q o ≡ links_at t q o
      by None e = names_left q
      by (Some (File b)) e = names_left q
      by (Some (Link text)) e = names_left q
      by (Some (Dir f ms)) e = ap (λ c. 2 + c)
          (same_count n (λ k. is_dir (node left k)) (λ k. is_dir (node t k))
          (λ k apart. ap is_dir (others k apart)) ms (no_such q f ms e))

-- ---- a name gone, and another that gives its number

-- the links with it, where the other wasn't there
free_links : (b : Bool) (da db n now was q x : ℕ) → now + link_of b da n q ≡ was + link_of b db n q
    → x ≡ one_if (b && not (da == db)) → now + only_at da x q ≡ was + only_at db x q
free_links false da db n now was q x all is =
    let a : only_at da x q ≡ 0 = ap (λ (x : ℕ). only_at da x q) is ∙ nothing_at da q in
    let b : only_at db x q ≡ 0 = ap (λ (x : ℕ). only_at db x q) is ∙ nothing_at db q in
    omega (arith, all, a, b)
free_links true da db n now was q x all is = ⊎_elim
    (λ (h : (eqb da db ≡ true) × (da ≡ db)).
    let a : only_at da x q ≡ only_at db x q = ap (λ (d : ℕ). only_at d x q) h.1 in
    let b : one_if (da == q) ≡ one_if (db == q) = ap (λ (d : ℕ). one_if (d == q)) h.1 in
    omega (arith, all, a, b))
    (λ (h : (eqb da db ≡ false) × (da ≢ db)).
    let one : x ≡ 1 = is ∙ ap (λ (b : Bool). one_if (not b)) h.0 in
    let a : only_at da x q ≡ one_if (da == q) = ap (λ (x : ℕ). only_at da x q) one in
    let b : only_at db x q ≡ one_if (db == q) = ap (λ (x : ℕ). only_at db x q) one in
    omega (arith, all, a, b))
    (eqb_tells da db)

-- and where it gave a node of the same sort
over_links : (b : Bool) (da db n old now : ℕ) {was : ℕ} (q x y : ℕ)
    → now + link_of b da n q + link_of b db old q ≡ was + link_of b db n q → x ≡ one_if b
    → y ≡ one_if (not b) → now + (only_at old y q + only_at da x q) ≡ was
over_links false da db n old now q x y all x_is y_is =
    let a : only_at da x q ≡ 0 = ap (λ (x : ℕ). only_at da x q) x_is ∙ nothing_at da q in
    let b : only_at old y q ≡ one_if (old == q) = ap (λ (y : ℕ). only_at old y q) y_is in
    omega (arith, all, a, b)
over_links true da db n old now q x y all x_is y_is =
    let a : only_at da x q ≡ one_if (da == q) = ap (λ (x : ℕ). only_at da x q) x_is in
    let b : only_at old y q ≡ 0 = ap (λ (y : ℕ). only_at old y q) y_is ∙ nothing_at old q in
    omega (arith, all, a, b)

-- A name gives n in directory da of the tree, and db is a directory.
pub record IsMove (t : Tree) (da db n : ℕ) (na : List ℕ) : Type 0 where
  pub in_order : T (is_sorted nat_cmp t)
  pub is_a : is_dir (node t da) ≡ true
  pub order_a : T (is_sorted byte_cmp (names_in t da))
  pub found : entry t da na ≡ Some n
  pub is_b : is_dir (node t db) ≡ true
  pub order_b : T (is_sorted byte_cmp (names_in t db))

module _ {t : Tree} {da db n : ℕ} {na : List ℕ} (move : IsMove t da db n na) (nb : List ℕ) where
  open move use {in_order, is_a, order_a, found, is_b, order_b}

  abbrev names_at : Option Node → Names
  names_at o = names_of (unwrap_or o (File []))

  abbrev form_a : ℕ
  form_a = form_of (node t da)

  abbrev names_a : Names
  names_a = names_in t da

  at_a : node t da ≡ Some (Dir form_a names_a)
  at_a = dir_at (node t da) is_a

  -- without the one name
  abbrev pub lost : Tree
  lost = without_name t da na

  pub lost_order : T (is_sorted nat_cmp lost)
  lost_order = change_order t in_order (without byte_cmp na) da

  lost_swap : IsSwapped t da form_a names_a (without byte_cmp na names_a) (Some n) None
  lost_swap = record {
    in_order = in_order;
    is = at_a;
    swap = subst (λ (o : Option ℕ). IsSwap names_a (without byte_cmp na names_a) o None)
        found (swap_less na names_a order_a);
  }

  pub lost_dirs : (q : ℕ) → is_dir (node lost q) ≡ is_dir (node t q)
  lost_dirs = dirs lost_swap

  pub lost_names : (q : ℕ) → names lost q + one_if (n == q) ≡ names t q
  lost_names q = let all = names_after lost_swap q in omega (arith, all)

  pub lost_links : (q : ℕ) → links lost q + link_of (is_dir (node t n)) da n q ≡ links t q
  lost_links q = let all = links_after lost_swap q in omega (arith, all)

  -- the other's directory
  lost_b : is_dir (node lost db) ≡ true
  lost_b = lost_dirs db ∙ is_b

  abbrev form_b : ℕ
  form_b = form_of (node lost db)

  abbrev names_b : Names
  names_b = names_in lost db

  at_b : node lost db ≡ Some (Dir form_b names_b)
  at_b = dir_at (node lost db) lost_b

  order_now : T (is_sorted byte_cmp names_b)
  order_now = same_or_not db da
      (λ e. subst (λ (d : ℕ). T (is_sorted byte_cmp (names_in lost d))) (sym e)
      (subst (λ (o : Option Node). T (is_sorted byte_cmp (names_at o)))
      (sym (find_here t da (Dir form_a (without byte_cmp na names_a))))
      (is_sorted-where_key byte_cmp (λ x. not (eq_by_cmp byte_cmp na x)) names_a order_a)))
      (λ ne. subst (λ (o : Option Node). T (is_sorted byte_cmp (names_at o)))
      (sym (find_other t da (Dir form_a (without byte_cmp na names_a)) db ne)) order_b)

  -- what the other gave is what it gives then
  pub still_free : entry t db nb ≡ None → entry lost db nb ≡ None
  still_free none = none_if (entry lost db nb) (entry t db nb)
      (λ k e.
      (k, shrinks.entry_after t da n form_a names_a na in_order at_a order_a found db nb k e))
      none

  pub still_gives : {old : ℕ} → old ≢ n → entry t db nb ≡ Some old → entry lost db nb ≡ Some old
  still_gives {old} ne is = shrinks.entry_kept t da n form_a names_a na in_order at_a order_a found db nb old ne is

  -- with the other
  abbrev pub moved : Tree
  moved = with_name lost db nb n

  pub moved_order : T (is_sorted nat_cmp moved)
  moved_order = change_order lost lost_order (put byte_cmp nb n) db

  module _ {o : Option ℕ} (gives_b : entry lost db nb ≡ o) where
    moved_swap : IsSwapped lost db form_b names_b (put byte_cmp nb n names_b) o (Some n)
    moved_swap = record {
      in_order = lost_order;
      is = at_b;
      swap = subst (λ (o : Option ℕ). IsSwap names_b (put byte_cmp nb n names_b) o (Some n))
          gives_b (swap_more nb n names_b order_now);
    }

    moved_names : (q : ℕ) → names moved q + value (λ k. one_if (k == q)) o ≡ names t q
    moved_names q =
        let all = names_after moved_swap q in
        let was = lost_names q in
        omega (arith, all, was)

    same_link : (q : ℕ) (p : Option ℕ) → link_of_name lost db p q ≡ link_of_name t db p q
    same_link q None = refl
    same_link q (Some k) = ap (λ (b : Bool). link_of b db k q) (lost_dirs k)

    moved_links : (q : ℕ) → links moved q + link_of (is_dir (node t n))
        da n q + link_of_name t db o q ≡ links t q + link_of (is_dir (node t n)) db n q
    moved_links q =
        let all = links_after moved_swap q in
        let was = lost_links q in
        let gone = same_link q o in
        let come = same_link q (Some n) in
        omega (arith, all, was, gone, come)

  -- ---- where it wasn't there
  module _ (none : entry t db nb ≡ None) (x : ℕ)
      (x_is : x ≡ one_if (is_dir (node t n) && not (da == db))) where
    pub links_free : (q : ℕ) → links moved q + only_at da x q ≡ links t q + only_at db x q
    links_free q =
        let all = moved_links (still_free none) q in
        free_links (is_dir (node t n)) da db n (links moved q) (links t q) q x (omega (arith, all))
        x_is

  -- ---- where it was
  module _ (old : ℕ) (there : entry t db nb ≡ Some old) (other : old ≢ n)
      (alike : is_dir (node t old) ≡ is_dir (node t n)) where
    pub names_over : names moved old + 1 ≡ names t old
    names_over = let all = moved_names (still_gives other there) old in let one =
        once old in omega (arith, all, one)

    pub links_over : (x y : ℕ) → x ≡ one_if (is_dir (node t n))
        → y ≡ one_if (not (is_dir (node t n))) → (q : ℕ)
        → links moved q + (only_at old y q + only_at da x q) ≡ links t q
    links_over x y x_is y_is q =
        let all = moved_links (still_gives other there) q in
        let same : link_of (is_dir (node t old)) db old q ≡ link_of (is_dir (node t n)) db old q =
        ap (λ (b : Bool). link_of b db old q) alike in
        over_links (is_dir (node t n)) da db n old (links moved q) q x y (omega (arith, all, same)) x_is y_is

    -- its node goes, before or after
    module _ (empty : names_in t old ≡ []) where
      pub not_first : old ≢ da
      not_first e =
          let none : names_in t da ≡ [] = subst (λ (d : ℕ). names_in t d ≡ []) e empty in
          let lacks : find byte_cmp na (names_in t da) ≡ None = ap (find byte_cmp na) none in
          let has = found in cc

      pub not_second : old ≢ db
      not_second e =
          let none : names_in t db ≡ [] = subst (λ (d : ℕ). names_in t d ≡ []) e empty in
          let lacks : find byte_cmp nb (names_in t db) ≡ None = ap (find byte_cmp nb) none in
          let has = there in cc

      pub moved_empty : names_in moved old ≡ []
      moved_empty =
          ap names_at (find_other lost db (Dir form_b (put byte_cmp nb n names_b)) old not_second
          ∙ find_other t da (Dir form_a (without byte_cmp na names_a)) old not_first) ∙ empty

      pub goes_first : with_name (without_name (without nat_cmp old t) da na)
          db nb n ≡ without nat_cmp old moved
      goes_first =
          sym (change_less lost lost_order (put byte_cmp nb n) db old (λ e. not_second (sym e))
          ∙ ap (λ (u : Tree). with_name u db nb n)
          (change_less t in_order (without byte_cmp na) da old (λ e. not_first (sym e))))

      pub links_gone : names moved old ≡ 0 → (q : ℕ) → q ≢ old
          → links (without nat_cmp old moved) q ≡ links moved q
      links_gone none = links_left moved old moved_order none moved_empty
