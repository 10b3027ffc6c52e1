use Rattle.std.proofs.Common.{◌≡◌, ◌-◌, ◌++◌, ◌∙◌, ℕ, List, ap, inl, inr, length, take, drop, length-drop, arith}
use Rattle.std.proofs.lemmas.List.{take_all}
use Rattle.std.proofs.lemmas.Result.{err_from_is_err_and}
use Rattle.lfs_put.specs.Placing.{unfinished}
use Rattle.lfs_put.proofs.PutNames.{all_slashes, beside_of, none_taken, text_cause, whole_of}
use Rattle.lfs_put.proofs.putting.unfinished_path.Goals as goal

pub returns-in_err-check_path-clause-cause : goal.returns-in_err-check_path-clause-cause
returns-in_err-check_path-clause-cause c =
    let p = err_from_is_err_and c.from_residual.result c.from_residual.ensures.1 in rw (p.1, p.2)
    (inl c.in_err-check_path.ensures.refused)

pub returns-then-is_empty-clause-cause : goal.returns-then-is_empty-clause-cause
returns-then-is_empty-clause-cause c =
    inr (
      c.in_ok-check_path.ensures.taken,
      all_slashes c.args.path.now c.trimmed_len.result
          (none_taken c.args.path.now c.trimmed_len.result c.trimmed_len.ensures.within c.if-is_empty.ensures)
          c.trimmed_len.ensures.slashes,
    )

pub returns-in_err-check_name-clause-cause : goal.returns-in_err-check_name-clause-cause
returns-in_err-check_name-clause-cause c =
    let p = err_from_is_err_and c.from_residual-in_err-check_name.result c.from_residual-in_err-check_name.ensures.1 in
    let k = c.above_len-above.result in
    let whole : List ℕ = take c.trimmed_len.result c.args.path.now in
    let at = c.above_len-above.ensures in
    let long = length-drop k whole in
    rw (p.1, p.2)
    (text_cause c.args.path.now c.trimmed_len.result k _ (take_all (length whole - k) (drop k whole) (omega (arith, long)))
    c.trimmed_len.ensures.within c.trimmed_len.ensures.slashes at.within at.plain at.place c.in_ok-check_path.ensures.taken
    c.in_err-check_name.ensures.cause)

pub returns-clause-beside : goal.returns-clause-beside
returns-clause-beside c =
    let k = c.above_len-above.result in
    let whole : List ℕ = take c.trimmed_len.result c.args.path.now in
    let at = c.above_len-above.ensures in
    let is = c.in_ok-check_name.ensures in
    let long = length-drop k whole in
    let first : c.extend_from_slice.new.self.items ≡ take k c.args.path.now =
    c.in_ok-extend_from_slice.ensures.items ∙ ap (λ (xs : List ℕ). xs ++ take k c.args.path.now) c.new-unfinished.ensures.items in
    beside_of whole _ k (whole_of c.args.path.now c.trimmed_len.result c.trimmed_len.ensures.within is.ends) at.within at.plain at.place
    (take_all (length whole - k) (drop k whole) (omega (arith, long))) is.other
    (c.in_ok-extend_from_slice-2.ensures.items ∙ ap (λ (xs : List ℕ). xs ++ unfinished) first)
