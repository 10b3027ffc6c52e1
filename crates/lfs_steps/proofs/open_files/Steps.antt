-- The calls of open files, exit by exit.
use Rattle.lfs_steps.proofs.Prelude.{◌≡◌, ◌<◌, ◌≤◌, ◌+◌, ◌*◌, ◌==◌, ℕ, Bool, true, false, List, [], ◌∷◌, length, Option, Some, None, refl}
use Rattle.lfs_steps.proofs.Prelude.{◌∙◌, ap, arith, nat_lt, unwrap_or, is_none, nat_cmp, find, nat_tests, Answer, Refuse, Done, need}
use Rattle.lfs_steps.proofs.Prelude.{BadHandle, Inval, NoSpace, Step, checked, when, file_at, file_bytes, the_node, no_space, with_tree}
use Rattle.lfs_steps.proofs.Prelude.{State, Tree, File, with_node, At}
use Rattle.lfs_model.specs.Bytes as bytes
use Rattle.lfs_model.specs.Call.{Pread, Pwrite, Truncate, Count, Data}
use Rattle.lfs_model.specs.Refusal.{FileTooBig}
use Rattle.lfs_model.specs.Step.{reads, writes, truncates}
use Rattle.lfs_steps.proofs.calls.Checks.{refuses, passes, is_some, is_missing, below, not_below}

is_zero_length : (n : ℕ) → n ≡ 0 → (n == 0) ≡ true
is_zero_length n e = grind (arith, nat_tests)

not_zero_length : (n : ℕ) → 0 < n → (n == 0) ≡ false
not_zero_length n lt = grind (arith, nat_tests)

module _ (N : ℕ) (s : State) (h : ℕ) where
  -- the handle gives a file
  abbrev pub Opens : ℕ → Type 0
  Opens n = find nat_cmp h s.handles ≡ Some n

  pub file_is : (n : ℕ) → Opens n → file_at s h ≡ n
  file_is n e = ap (λ (o : Option ℕ). unwrap_or o 0) e

  -- ---- pread
  module _ (off n : ℕ) where
    step_read : {a : Answer} → reads s h off n ≡ (a, s) → Step N s (Pread h off n) a s
    step_read is =
        record { first_end = At 1; second_end = At 1; first = refl; second = refl; answer = ap (λ r. r.0) is; state = ap (λ r. r.1) is }

    pub read_bad_handle : find nat_cmp h s.handles ≡ None → Step N s (Pread h off n) (Refuse BadHandle) s
    read_bad_handle none =
        step_read (refuses s (Refuse BadHandle) (when (nat_lt 65536 n) Inval ∷ [])
        (Data (bytes.part (file_bytes (the_node s.tree (file_at s h))) off n), s) (is_missing (find nat_cmp h s.handles) none))

    pub read_too_much : (f : ℕ) → Opens f → 65536 < n → Step N s (Pread h off n) (Refuse Inval) s
    read_too_much f is much = step_read (passes s (is_none (find nat_cmp h s.handles)) (Refuse BadHandle) (when (nat_lt 65536 n) Inval ∷ [])
        (Data (bytes.part (file_bytes (the_node s.tree (file_at s h))) off n), s) (is_some is)
        ∙ refuses s (Refuse Inval) [] (Data (bytes.part (file_bytes (the_node s.tree (file_at s h))) off n), s) (below 65536 n much))

    pub read_done : (f : ℕ) → Opens f → n ≤ 65536 → {b : List ℕ} → the_node s.tree f ≡ File b
        → Step N s (Pread h off n) (Data (bytes.part b off n)) s
    read_done f is few {b} file = step_read
        (passes s (is_none (find nat_cmp h s.handles)) (Refuse BadHandle) (when (nat_lt 65536 n) Inval ∷ [])
        (Data (bytes.part (file_bytes (the_node s.tree (file_at s h))) off n), s) (is_some is)
        ∙ passes s (nat_lt 65536 n) (Refuse Inval) [] (Data (bytes.part (file_bytes (the_node s.tree (file_at s h))) off n), s)
        (not_below 65536 n few)
        ∙ ap (λ (b : List ℕ). (Data (bytes.part b off n), s))
        (ap (λ (k : ℕ). file_bytes (the_node s.tree k)) (file_is f is) ∙ ap file_bytes file))

  -- ---- pwrite
  module _ (off : ℕ) (w : List ℕ) where
    step_write : {a : Answer} {s' : State} → writes N s h off w ≡ (a, s') → Step N s (Pwrite h off w) a s'
    step_write is =
        record { first_end = At 1; second_end = At 1; first = refl; second = refl; answer = ap (λ r. r.0) is; state = ap (λ r. r.1) is }

    -- the tree after it
    abbrev pub written : Tree
    written = with_node s.tree (file_at s h) (File (bytes.put (file_bytes (the_node s.tree (file_at s h))) off w))

    abbrev done : Answer × State
    done = (Count (length w), with_tree s written)

    abbrev from_space : List (Bool × Answer)
    from_space = no_space N written ∷ []

    abbrev from_size : List (Bool × Answer)
    from_size = when (nat_lt 8511488 (off + length w)) FileTooBig ∷ from_space

    abbrev from_empty : List (Bool × Answer)
    from_empty = (length w == 0, Count 0) ∷ from_size

    abbrev from_length : List (Bool × Answer)
    from_length = when (nat_lt 65536 (length w)) Inval ∷ from_empty

    pub write_bad_handle : find nat_cmp h s.handles ≡ None → Step N s (Pwrite h off w) (Refuse BadHandle) s
    write_bad_handle none = step_write (refuses s (Refuse BadHandle) from_length done (is_missing (find nat_cmp h s.handles) none))

    module _ (f : ℕ) (is : Opens f) where
      opened : writes N s h off w ≡ checked s from_length done
      opened = passes s (is_none (find nat_cmp h s.handles)) (Refuse BadHandle) from_length done (is_some is)

      pub write_too_much : 65536 < length w → Step N s (Pwrite h off w) (Refuse Inval) s
      write_too_much much = step_write (opened ∙ refuses s (Refuse Inval) from_empty done (below 65536 (length w) much))

      module _ (few : length w ≤ 65536) where
        short : writes N s h off w ≡ checked s from_empty done
        short = opened ∙ passes s (nat_lt 65536 (length w)) (Refuse Inval) from_empty done (not_below 65536 (length w) few)

        pub write_nothing : length w ≡ 0 → Step N s (Pwrite h off w) (Count 0) s
        write_nothing none =
            step_write (short ∙ refuses s (Count 0) from_size done (is_zero_length (length w) none))

        module _ (some : 0 < length w) where
          some_bytes : writes N s h off w ≡ checked s from_size done
          some_bytes = short ∙ passes s (length w == 0) (Count 0) from_size done (not_zero_length (length w) some)

          pub write_too_big : 8511488 < off + length w → Step N s (Pwrite h off w) (Refuse FileTooBig) s
          write_too_big big = step_write (some_bytes ∙ refuses s (Refuse FileTooBig) from_space done (below 8511488 (off + length w) big))

          module _ (fits : off + length w ≤ 8511488) where
            sized : writes N s h off w ≡ checked s from_space done
            sized = some_bytes
                ∙ passes s (nat_lt 8511488 (off + length w)) (Refuse FileTooBig) from_space done (not_below 8511488 (off + length w) fits)

            pub write_no_space : 47 * N < need written → Step N s (Pwrite h off w) (Refuse NoSpace) s
            write_no_space lacks = step_write (sized ∙ refuses s (Refuse NoSpace) [] done (below (47 * N) (need written) lacks))

            pub write_done : need written ≤ 47 * N → Step N s (Pwrite h off w) (Count (length w)) (with_tree s written)
            write_done room = step_write
                (sized ∙ passes s (nat_lt (47 * N) (need written)) (Refuse NoSpace) [] done (not_below (47 * N) (need written) room))

  -- ---- truncate
  module _ (len : ℕ) where
    step_cut : {a : Answer} {s' : State} → truncates s h len ≡ (a, s') → Step N s (Truncate h len) a s'
    step_cut is =
        record { first_end = At 1; second_end = At 1; first = refl; second = refl; answer = ap (λ r. r.0) is; state = ap (λ r. r.1) is }

    abbrev pub shortened : Tree
    shortened = with_node s.tree (file_at s h) (File (bytes.cut (file_bytes (the_node s.tree (file_at s h))) len))

    abbrev cut_done : Answer × State
    cut_done = (Done, with_tree s shortened)

    abbrev cut_size : List (Bool × Answer)
    cut_size = when (nat_lt 8511488 len) FileTooBig ∷ []

    pub cut_bad_handle : find nat_cmp h s.handles ≡ None → Step N s (Truncate h len) (Refuse BadHandle) s
    cut_bad_handle none = step_cut (refuses s (Refuse BadHandle) cut_size cut_done (is_missing (find nat_cmp h s.handles) none))

    pub cut_too_big : (f : ℕ) → Opens f → 8511488 < len → Step N s (Truncate h len) (Refuse FileTooBig) s
    cut_too_big f is big = step_cut (passes s (is_none (find nat_cmp h s.handles)) (Refuse BadHandle) cut_size cut_done (is_some is)
        ∙ refuses s (Refuse FileTooBig) [] cut_done (below 8511488 len big))

    pub cut_all_done : (f : ℕ) → Opens f → len ≤ 8511488 → Step N s (Truncate h len) Done (with_tree s shortened)
    cut_all_done f is fits = step_cut (passes s (is_none (find nat_cmp h s.handles)) (Refuse BadHandle) cut_size cut_done (is_some is)
        ∙ passes s (nat_lt 8511488 len) (Refuse FileTooBig) [] cut_done (not_below 8511488 len fits))
