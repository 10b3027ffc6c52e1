-- One call, or one line of a script, on a volume at a point: a step of a run, and what a stop in it leaves.
use Rattle.lfs_fs.proofs.Prelude.{◌≡◌, ◌⊎◌, ℕ, true, false, List, [], ◌∷◌, refl, sym, ◌∙◌, ap, inl, inr, arith, Answer, Call, Refuse}
use Rattle.lfs_fs.proofs.Prelude.{DeviceState, IsLawful, Carries, Halted, LineAnswers, Point, acknowledges, Line, call_of, State}
use Rattle.lfs_fs.proofs.Prelude.{drop_nameless, LeavesOne, LeavesStates, Left, Stands, carries_none, started, ServesLine, IsAt, LeavesSome}
use Rattle.lfs_fs.proofs.Prelude.{Mounted, Serves, segments_of, Contains}
use Rattle.lfs_model.specs.Refusal.{NoMemory}
use Rattle.lfs_model.specs.Run.{Answers}
use Rattle.lfs_model.specs.UnitLaws.{LeavesShape}
use Rattle.lfs_model.proofs.UnitsKept.{shape_none}
use Rattle.lfs_fs.proofs.calls.Drafts.{not_acknowledged}

module _ {D : Type 0} (state : D → DeviceState) where
  -- a call of a run on a volume of N segments
  pub record StepsCall (N : ℕ) (old new : Mounted D) (call : Call) (answer : Answer) (p : Point) : Type 0 where
    pub next : Point
    pub at : IsAt state new next
    pub does : Answers N call p answer next
    pub leaves : LeavesStates (state old.log.device) (state new.log.device) (drop_nameless p.state ∷ drop_nameless next.state ∷ [])
    pub shape : LeavesShape (state old.log.device) (state new.log.device)
    pub saves : acknowledges call answer ≡ true → LeavesOne (state new.log.device) (drop_nameless next.state)

  -- a line of one
  pub record StepsLine (N : ℕ) (old new : Mounted D) (line : Line) (answer : Answer) (p : Point) : Type 0 where
    pub next : Point
    pub at : IsAt state new next
    pub does : LineAnswers N line p answer next
    pub leaves : LeavesStates (state old.log.device) (state new.log.device) (drop_nameless p.state ∷ drop_nameless next.state ∷ [])
    pub shape : LeavesShape (state old.log.device) (state new.log.device)
    pub saves : acknowledges (call_of line) answer ≡ true → LeavesOne (state new.log.device) (drop_nameless next.state)

  -- what may be left is left, where nothing is done
  pub left_none : {d : DeviceState} (ss : List State) → IsLawful d → LeavesSome state d → LeavesStates d d ss
  left_none {d} ss lawful some = started (λ c. (s : State) × Stands c s × (Left d s ⊎ Contains ss s)) lawful
      (λ c left. (let is = some c left in (is.0, is.1, inl (record { content = c; may_leave = left; stands = is.1 }))))

  module _ (lawful : (d : D) → IsLawful (state d)) where
    -- a line that does nothing
    stays : (N : ℕ) (v : Mounted D) (line : Line) {answer : Answer} (p : Point) → IsAt state v p → LineAnswers N line p answer p
        → (acknowledges (call_of line) answer ≡ true → ⊥)
        → StepsLine N v v line answer p
    stays N v line p at does none = record {
      next = p;
      at = at;
      does = does;
      leaves = left_none (drop_nameless p.state ∷ drop_nameless p.state ∷ []) (lawful v.log.device) at.leaves;
      shape = shape_none (lawful v.log.device);
      saves = λ e. absurd (none e);
    }

    -- a call of a volume that was halted
    call_halted : (N : ℕ) (v : Mounted D) (call : Call) (p : Point) → IsAt state v p → v.log.halted ≡ true
        → StepsCall N v v call (Refuse Halted) p
    call_halted N v call p at was = record {
      next = p;
      at = at;
      does = record {
        steps = inr (Halted, refl, inl (at.halted ∙ was), refl);
        halted = λ e. refl;
        halts = λ e. at.halted ∙ was;
        goes_on = λ e. refl;
        first_halted = λ e. inl (at.halted ∙ was);
        failures = omega arith;
        failed_orders = omega arith;
        failed_reads = omega arith;
        number = omega arith;
        few = omega arith;
        quiet = λ e. refl;
      };
      leaves = left_none (drop_nameless p.state ∷ drop_nameless p.state ∷ []) (lawful v.log.device) at.leaves;
      shape = shape_none (lawful v.log.device);
      saves = λ e. absurd (not_acknowledged call Halted e);
    }

    pub call_steps : (old new : Mounted D) (call : Call) (answer : Answer) (N : ℕ) {p : Point}
        → (old.log.halted ≡ false → segments_of old ≡ N) → (state new.log.device).keeps_model → IsAt state old p
        → Serves state old new call answer → StepsCall N old new call answer p
    call_steps old new call answer N {p} same keeps at serves =
        elim old.log.halted as (λ b. old.log.halted ≡ b → StepsCall N old new call answer p) [
          | true ↦ λ was. (
              let none = serves.orderly was in
              rw none.1 (rw none.0 (call_halted N old call p at was)))
          | false ↦ λ was. (
              let served = serves.model p keeps at in record {
                next = served.next;
                at = served.at;
                does = rw (same was) at served.answers;
                leaves = served.leaves;
                shape = served.shape;
                saves = served.saves;
              })
        ] refl

    module _ (old new : Mounted D) (line : Line) (answer : Answer) where
      -- a line, its call made or not
      pub line_steps : (N : ℕ) {p : Point} → (old.log.halted ≡ false → segments_of old ≡ N) → (state new.log.device).keeps_model
          → IsAt state old p → ServesLine state old new line answer
          → StepsLine N old new line answer p
      line_steps N same keeps at (inl serves) =
          let step = call_steps old new (call_of line) answer N same keeps at serves in
          record { next = step.next; at = step.at; does = inl step.does; leaves = step.leaves; shape = step.shape; saves = step.saves }
      line_steps N {p} same keeps at (inr none) =
          rw none.2 (stays N old line {answer = answer} p at (inr (none.0, none.1, refl))
          (λ e. not_acknowledged (call_of line) NoMemory (rw none.1 at e)))

      pub line_carries : ServesLine state old new line answer → Carries (state old.log.device) (state new.log.device)
      line_carries (inl serves) = serves.carries
      line_carries (inr none) =
          rw none.2 (carries_none {d = state old.log.device})

      -- what runs after it ran before it
      served_running : Serves state old new (call_of line) answer → new.log.halted ≡ false → old.log.halted ≡ false
      served_running serves now = elim old.log.halted as (λ b. old.log.halted ≡ b → old.log.halted ≡ false) [
        | true ↦ λ was. (
            let none = serves.orderly was in
            let same : new.log.halted ≡ old.log.halted = ap (λ (v : Mounted D). v.log.halted) none.1 in
            sym same ∙ now)
        | false ↦ λ was. was
      ] refl

      pub line_running : ServesLine state old new line answer → new.log.halted ≡ false → old.log.halted ≡ false
      line_running (inl serves) now = served_running serves now
      line_running (inr none) now = sym (ap (λ (v : Mounted D). v.log.halted) none.2) ∙ now

      -- and has as many segments
      pub line_segments : ServesLine state old new line answer → new.log.halted ≡ false → segments_of new ≡ segments_of old
      line_segments (inl serves) now = serves.segments now
      line_segments (inr none) now = ap (λ (v : Mounted D). segments_of v) none.2
