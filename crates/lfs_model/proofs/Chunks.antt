-- Rows of chunks, end to end.
use Rattle.std.proofs.Common.{◌≡◌, ◌≤◌, ◌+◌, ◌*◌, ◌-◌, ℕ, List, [], ◌∷◌, ◌++◌, map, length, take, drop, Option, Some, None, refl, sym, ◌∙◌}
use Rattle.std.proofs.Common.{ap, arith, take-add, drop-drop}
use Rattle.lfs_model.specs.Entry.{Entry, entries_in}
use Rattle.lfs_model.specs.Content.{Content, bytes_of}
use Rattle.lfs_model.specs.Reach.{Row, after, opened, chunks, chunks_between, row_by}
use Rattle.lfs_model.proofs.Reach.{after_inv, opened_inv}

-- the blocks of one chunk
chunks_named : (es : List Entry) (bs : List (Option (List ℕ))) → length bs ≡ length es → chunks es bs ≡ Some (map Some es)
chunks_named [] [] long = refl
chunks_named (e ∷ es) [] long = absurd (omega arith)
chunks_named [] (b ∷ bs) long = absurd (omega arith)
chunks_named (e ∷ es) (b ∷ bs) long = ap (after (Some e)) (chunks_named es bs (omega arith))

pub one_chunk : (bytes : List ℕ) (es : List Entry) (bs : List (Option (List ℕ))) → entries_in bytes ≡ Some es → length bs ≡ length es
    → chunks [] (Some bytes ∷ bs) ≡ Some (None ∷ map Some es)
one_chunk bytes es bs spelt long =
    ap (λ (o : Option (List Entry)). opened o (λ es. chunks es bs)) spelt ∙ ap (after None) (chunks_named es bs long)

pub chunks_more : (waiting : List Entry) (ss ts : List (Option (List ℕ))) (r q : Row) → chunks waiting ss ≡ Some r → chunks [] ts ≡ Some q
    → chunks waiting (ss ++ ts) ≡ Some (r ++ q)
chunks_more [] [] ts r q h more = let e : [] ≡ r = cc in more ∙ ap (λ (r : Row). Some (r ++ q)) e
chunks_more (e ∷ waiting) [] ts r q h more = absurd (cc)
chunks_more (e ∷ waiting) (s ∷ ss) ts r q h more =
    let i = after_inv (Some e) (chunks waiting ss) r h in
    ap (after (Some e)) (chunks_more waiting ss ts i.0 q i.1 more) ∙ ap (λ (r : Row). Some (r ++ q)) (sym i.2)
chunks_more [] (s ∷ ss) ts r q h more =
    let i = opened_inv (entries_in (bytes_of s)) (λ es. chunks es ss) r h in
    ap (λ (o : Option (List Entry)). opened o (λ es. chunks es (ss ++ ts))) i.2
    ∙ ap (after None) (chunks_more i.0 ss ts i.1 q i.3 more)
    ∙ ap (λ (r : Row). Some (r ++ q)) (sym i.4)

pub row_more : (c : Content) (s u v : ℕ) (r q : Row) → u ≤ v → row_by c u s ≡ Some r → chunks_between c s u v ≡ Some q
    → row_by c v s ≡ Some (r ++ q)
unfolding row_by
row_more c s u v r q le first next =
    let xs = drop (2 + 64 * s) c in
    let e : u + (v - u) ≡ v = omega arith in
    let both = chunks_more [] (take u xs) (take (v - u) (drop u xs)) r q first
    (ap (λ (l : List (Option (List ℕ))). chunks [] (take (v - u) l)) (drop-drop u (2 + 64 * s) c) ∙ next) in
    ap (λ (n : ℕ). chunks [] (take n xs)) (sym e) ∙ ap (chunks []) (take-add u (v - u) xs) ∙ both
