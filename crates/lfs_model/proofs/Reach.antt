-- An assignment of addresses that the blocks agree with is the one that the checkpoint reaches; and what keeps a view.
use Rattle.std.proofs.Common.{◌≡◌, ◌<◌, ◌+◌, ◌*◌, ◌-◌, ◌/◌, ◌%◌, nat_lt, cond, ℕ, zero, suc, List, [], ◌∷◌, length, get_or, take, drop}
use Rattle.std.proofs.Common.{Option, Some, None, refl, sym, ◌∙◌, ap, ap₂, ⊎_elim, arith, length-take, length-drop, get_or-take}
use Rattle.std.proofs.Common.{get_or-drop}
use Rattle.std.proofs.Math.Path.{fun_ext}
use Rattle.std.proofs.lemmas.Bool.{cases_eq}
use Rattle.lfs_model.specs.Entry.{Entry, Data, Leaf, Double, Inode, Map, Usage, word, half, entries_in}
use Rattle.lfs_model.specs.Checkpoint.{CheckpointValue}
use Rattle.lfs_model.specs.Content.{Content, bytes_of, block}
use Rattle.lfs_model.specs.Device.{cell_at}
use Rattle.lfs_model.specs.Reach.{address, linked, used, Row, after, opened, chunks, row, row_by, place_in, view}
use Rattle.lfs_model.specs.Stands.{Protected, IsRows}
use Rattle.lfs_model.specs.Stands.Protected.{reached, summary}

pub address_linked : (c : Content) (k : CheckpointValue) (e : Entry) → address c k e ≡ linked k (λ x. block c (address c k x)) e
unfolding address
address_linked c k (Data n i) = refl
address_linked c k (Leaf n zero) = refl
address_linked c k (Leaf n (suc q)) = refl
address_linked c k (Double n) = refl
address_linked c k (Inode n) = refl
address_linked c k (Map j) = refl
address_linked c k (Usage j) = refl

module _ (c : Content) (k : CheckpointValue) (A : Entry → ℕ) (links : (e : Entry) → A e ≡ linked k (λ x. block c (A x)) e) where
  at_map : (j : ℕ) → A (Map j) ≡ address c k (Map j)
  unfolding address
  at_map j = links (Map j)

  at_inode : (n : ℕ) → A (Inode n) ≡ address c k (Inode n)
  at_inode n = links (Inode n) ∙ ap (λ (a : ℕ). word (block c a) (n % 128)) (at_map (n / 128)) ∙ sym (address_linked c k (Inode n))

  at_double : (n : ℕ) → A (Double n) ≡ address c k (Double n)
  at_double n = links (Double n) ∙ ap (λ (a : ℕ). word (block c a) 121) (at_inode n) ∙ sym (address_linked c k (Double n))

  at_leaf : (n q : ℕ) → A (Leaf n q) ≡ address c k (Leaf n q)
  at_leaf n zero = links (Leaf n zero) ∙ ap (λ (a : ℕ). word (block c a) 120) (at_inode n) ∙ sym (address_linked c k (Leaf n zero))
  at_leaf n (suc q) = links (Leaf n (suc q)) ∙ ap (λ (a : ℕ). word (block c a) q) (at_double n) ∙ sym (address_linked c k (Leaf n (suc q)))

  at_data : (n i : ℕ) → A (Data n i) ≡ address c k (Data n i)
  at_data n i =
      links (Data n i)
      ∙ ap₂ (λ (a b : ℕ). cond (nat_lt i 112) (word (block c a) (8 + i)) (word (block c b) ((i - 112) % 128))) (at_inode n)
      (at_leaf n ((i - 112) / 128))
      ∙ sym (address_linked c k (Data n i))

  -- the addresses are determined by what the blocks say
  pub address_unique : (e : Entry) → A e ≡ address c k e
  unfolding address
  address_unique (Data n i) = at_data n i
  address_unique (Leaf n q) = at_leaf n q
  address_unique (Double n) = at_double n
  address_unique (Inode n) = at_inode n
  address_unique (Map j) = links (Map j)
  address_unique (Usage j) = links (Usage j)

abbrev Sectors : Type 0
Sectors = List (Option (List ℕ))

pub after_inv : (x : Option Entry) (y : Option Row) (r : Row) → after x y ≡ Some r → (q : Row) × (y ≡ Some q) × (r ≡ x ∷ q)
after_inv x None r h = absurd (cc)
after_inv x (Some q) r h = (q, refl, cc)

pub opened_inv : (o : Option (List Entry)) (rest : List Entry → Option Row) (r : Row) → opened o rest ≡ Some r
    → (es : List Entry) × (q : Row) × (o ≡ Some es) × (rest es ≡ Some q) × (r ≡ None ∷ q)
opened_inv None rest r h = absurd (cc)
opened_inv (Some es) rest r h = let i = after_inv None (rest es) r h in (es, i.0, refl, i.1, i.2)

-- a row is read from its summaries alone
pub chunks_same : (waiting : List Entry) (ss ts : Sectors) (r : Row) → chunks waiting ss ≡ Some r → length ts ≡ length ss
    → ((o : ℕ) → o < length ss → get_or r o None ≡ None → get_or ts o None ≡ get_or ss o None) → chunks waiting ts ≡ Some r
chunks_same [] [] [] r h long same = h
chunks_same (e ∷ waiting) [] [] r h long same = h
chunks_same waiting [] (t ∷ ts) r h long same = absurd (omega arith)
chunks_same waiting (s ∷ ss) [] r h long same = absurd (omega arith)
chunks_same (e ∷ waiting) (s ∷ ss) (t ∷ ts) r h long same =
    let i = after_inv (Some e) (chunks waiting ss) r h in
    let rest = chunks_same waiting ss ts i.0 i.1 (omega arith)
    (λ o lt none. same (suc o) (omega arith) (ap (λ (r : Row). get_or r (suc o) None) i.2 ∙ none)) in
    ap (after (Some e)) rest ∙ ap Some (sym i.2)
chunks_same [] (s ∷ ss) (t ∷ ts) r h long same =
    let i = opened_inv (entries_in (bytes_of s)) (λ es. chunks es ss) r h in
    let first : t ≡ s = same 0 (omega arith) (ap (λ (r : Row). get_or r 0 None) i.4) in
    let rest = chunks_same i.0 ss ts i.1 i.3 (omega arith)
    (λ o lt none. same (suc o) (omega arith) (ap (λ (r : Row). get_or r (suc o) None) i.4 ∙ none)) in
    ap (λ (x : Option (List ℕ)). opened (entries_in (bytes_of x)) (λ es. chunks es ts)) first
    ∙ ap (λ (x : Option (List Entry)). opened x (λ es. chunks es ts)) i.2
    ∙ ap (after None) rest
    ∙ ap Some (sym i.4)

pub block_same : (c d : Content) (a : ℕ) → (0 < a → cell_at d a ≡ cell_at c a) → block d a ≡ block c a
block_same c d zero same = refl
block_same c d (suc a) same = ap bytes_of (same (omega arith))

pub view_ext : (c d : Content) (k : CheckpointValue) → ((e : Entry) → address d k e ≡ address c k e)
    → ((e : Entry) → block d (address d k e) ≡ block c (address c k e)) → ((s : ℕ) → row d k s ≡ row c k s) → view d k ≡ view c k
view_ext c d k same blocks rows = λ i. record { checkpoint = k; address = fun_ext same i; block = fun_ext blocks i; row = fun_ext rows i }

module _ (c d : Content) (k : CheckpointValue) (long : length d ≡ length c)
    (same : (at : ℕ) → Protected (view c k) at → cell_at d at ≡ cell_at c at) where
  pub held : (e : Entry) → block d (address c k e) ≡ block c (address c k e)
  held e = block_same c d (address c k e) (λ lt. same (address c k e) (reached e lt))

  addresses : (e : Entry) → address d k e ≡ address c k e
  addresses e = sym (address_unique d k (address c k)
      (λ x. address_linked c k x ∙ ap (λ (b : Entry → List ℕ). linked k b x) (fun_ext (λ y. sym (held y)))) e)

  blocks : (e : Entry) → block d (address d k e) ≡ block c (address c k e)
  blocks e = ap (block d) (addresses e) ∙ held e

  used_same : (s : ℕ) → used d k s ≡ used c k s
  unfolding address
  used_same s = ap (λ (b : List ℕ). half b (4 * (s % 64))) (held (Usage (s / 64)))

  pub part_same : (s : ℕ) (r : Row) → row c k s ≡ Some r → chunks [] (take (used c k s) (drop (2 + 64 * s) d)) ≡ Some r
  unfolding row_by address
  part_same s r is =
      let u = used c k s in
      let cs = drop (2 + 64 * s) c in
      let ds = drop (2 + 64 * s) d in
      let lc = length-take u cs in
      let ld = length-take u ds in
      let kc = length-drop (2 + 64 * s) c in
      let kd = length-drop (2 + 64 * s) d in
      chunks_same [] (take u cs) (take u ds) r is (omega arith)
      (λ o lt none.
      let below : o < u = omega arith in
      let at : cell_at d (2 + 64 * s + o) ≡ cell_at c (2 + 64 * s + o) =
      same (2 + 64 * s + o) (summary s o below (ap (λ (x : Option Row). place_in x o) is ∙ none)) in
      get_or-take u ds o None below ∙ get_or-drop (2 + 64 * s) d o None ∙ at
      ∙ sym (get_or-drop (2 + 64 * s) c o None) ∙ sym (get_or-take u cs o None below))

  row_same : IsRows (view c k) → (s : ℕ) → row d k s ≡ row c k s
  unfolding row_by address
  row_same rows s =
      ap (λ (u : ℕ). chunks [] (take u (drop (2 + 64 * s) d))) (used_same s)
      ∙ ⊎_elim
      (λ (none : used c k s ≡ 0). ap (λ (u : ℕ). chunks [] (take u (drop (2 + 64 * s) d))) none
      ∙ sym (ap (λ (u : ℕ). chunks [] (take u (drop (2 + 64 * s) c))) none))
      (λ (some : used c k s ≡ 0 → ⊥). let r = rows s (omega arith) in part_same s r.0 r.1 ∙ sym r.1)
      (cases_eq (used c k s) 0)

  -- what the checkpoint reaches lies in the protected sectors alone
  pub view_same : IsRows (view c k) → view d k ≡ view c k
  view_same rows = view_ext c d k addresses blocks (row_same rows)
