-- Glances before each reply: one more.
use Rattle.std.proofs.Common.{◌≡◌, ◌⊎◌, inl, inr, ⊎_elim, ℕ, zero, suc, Some, Option, List, [], ◌∷◌, ◌++◌, length, length-append, take}
use Rattle.std.proofs.Common.{slice_get, refl, sym, ◌∙◌, ap, subst, append_assoc, arith}
use Rattle.std.proofs.lemmas.List.{append-nil, map-append, take-append-le, take_all}
use Rattle.std.proofs.lemmas.Option.{slice_get_within}
use Rattle.std.specs.Io.KnownBytes.{Appends}
use Rattle.lfs_model.specs.Call.{Answer}
use Rattle.lfs_script.specs.Ending.{replies}
use Rattle.lfs_script.specs.Noted.{Glance, Glanced, GlancesAt}

-- what stands at a place of a list with one more
get_snoc : {X : Type 0} (xs : List X) (x : X) (i : ℕ) {t : X} → slice_get (xs ++ x ∷ []) i ≡ Some t
    → (slice_get xs i ≡ Some t) ⊎ ((i ≡ length xs) × (t ≡ x))
get_snoc [] x zero is = inr (refl, cc is)
get_snoc [] x (suc i) is = absurd (cc is)
get_snoc (y ∷ xs) x zero is = inl is
get_snoc (y ∷ xs) x (suc i) {t} is = ⊎_elim (λ one. inl one) (λ last. inr (ap suc last.0, last.1)) (get_snoc xs x i is)

abbrev glance_at : ℕ → Option (List ℕ) → Glance
glance_at t w = record { moment = t; written = w }

pub glanced_none : {w : Option (List ℕ)} (s : List Glance) → Glanced w [] [] s s
glanced_none s = record {
  glances = [];
  all = sym (append-nil s);
  clocks_are = refl;
  one_each = refl;
  before = λ i glance is. absurd (cc is);
}

pub glanced_more : {w : Option (List ℕ)} (w1 : Option (List ℕ)) {answers : List Answer} (answer : Answer) {clocks : List ℕ} (t : ℕ)
    {s s1 s2 : List Glance}
    → Glanced w answers clocks s s1
    → Appends w w1 (replies answers) → GlancesAt t w1 s1 s2 → Glanced w (answers ++ answer ∷ []) (clocks ++ t ∷ []) s s2
glanced_more {w} w1 {answers} answer t {s} was appended is = record {
  glances = was.glances ++ glance_at t w1 ∷ [];
  all = is ∙ ap (λ (l : List Glance). l ++ glance_at t w1 ∷ []) was.all ∙ append_assoc s was.glances (glance_at t w1 ∷ []);
  clocks_are = map-append (λ (l : Glance). l.moment) was.glances (glance_at t w1 ∷ []) ∙ ap (λ (l : List ℕ). l ++ t ∷ []) was.clocks_are;
  one_each =
      (let one = was.one_each in omega (arith, length-append was.glances (glance_at t w1 ∷ []), length-append answers (answer ∷ []), one));
  before = λ i glance at. ⊎_elim (λ old. earlier i glance old)
      (λ (last : (i ≡ length was.glances) × (glance ≡ glance_at t w1)). now i glance last.0 last.1)
      (get_snoc was.glances (glance_at t w1) i at);
}
  where
    earlier : (i : ℕ) (glance : Glance) → slice_get was.glances i ≡ Some glance
        → Appends w glance.written (replies (take i (answers ++ answer ∷ [])))
    earlier i glance at =
        let within = slice_get_within was.glances i glance at in
        let one = was.one_each in
        subst (λ (as' : List Answer). Appends w glance.written (replies as'))
        (sym (take-append-le i answers (answer ∷ []) (omega (arith, within, one)))) (was.before i glance at)

    now : (i : ℕ) (glance : Glance) → i ≡ length was.glances → glance ≡ glance_at t w1
        → Appends w glance.written (replies (take i (answers ++ answer ∷ [])))
    now i glance place same =
        let one = was.one_each in
        let all : take i (answers ++ answer ∷ []) ≡ answers = take-append-le i answers (answer ∷ []) (omega (arith, place, one))
        ∙ take_all i answers (omega (arith, place, one)) in
        subst (λ (as' : List Answer). Appends w glance.written (replies as')) (sym all)
        (subst (λ (l : Glance). Appends w l.written (replies answers)) (sym same) appended)
