-- `run-in` takes steps until an answer, as `run_in` says.
use Prim.Native.Nat.{ℕ, ◌%◌}
use native.Mathlib.Omega.{arith}
use mathlib.Core.Path.{◌≡◌, refl, sym, ◌∙◌, ap}
use Rattle.std.specs.Prelude.{Ok}
use Rattle.interface.specs.declared.Settings.{Settings}
use Rattle.interface.specs.declared.Ran.{Ran}
use Rattle.fields.specs.Fields.{steps_range}
use Rattle.fields.specs.Regions.{worker_at}
use Rattle.layout.specs.Shape.{settings_of, Fits}
use Rattle.layout.proofs.Positions.{Placed, placed, fits_kept}
use Rattle.updates.proofs.UpdateLaws.{operation_lookup, operation_update}
use Rattle.runs.proofs.RunLaws.{run_start, run_end, run_idle, run_moved, run_answered, run_refused}
use borrow.Author.Rules.{rules}
use Rattle.runs.proofs.run_in.Goals as goal
use Rattle.runs.proofs.run_in.Goals.{then-kind-eq-KIND_LOOKUP+in-Moved, else-kind-eq-KIND_LOOKUP+then-k-g, else-kind-eq-KIND_LOOKUP+else-k-g+in-Moved-update_step}
use Rattle.runs.proofs.run_in.Goals.{After-worker_at-p, At-loop-done}

-- where the worker's record is; the words that the turns have left fit, and it lies inside them
at_worker :
    (c : After-worker_at-p) → c.worker_at-p.result ≡ worker_at (settings_of c.args.x).workers
    c.args.w
at_worker c = rw c.settings_of-g.ensures at c.worker_at-p.ensures

fits : (c : At-loop-done) → Fits c.loop-done.words (settings_of c.args.x)
fits c = fits_kept (sym c.loop-done.invariant.0) c.requires.0

own :
    (c : At-loop-done) → Placed c.loop-done.words (settings_of c.args.x)
    c.worker_at-p.result
own c = rw (at_worker (goal.at.At-loop-done c).After-worker_at-p) (placed (fits c) _ c.requires.1.0)

pub worker_at-p-requires : goal.worker_at-p-requires
worker_at-p-requires c = rw c.settings_of-g.ensures (search rules)

pub loop-done-init : goal.loop-done-init
loop-done-init c = (refl, run_start _ _ _ _)

pub overflow_add-p : goal.overflow_add-p
overflow_add-p c = let b = own (goal.at.overflow_add-p c).At-loop-done in omega arith

pub get-kind-requires : goal.get-kind-requires
get-kind-requires c = let b = own (goal.at.get-kind-requires c).At-loop-done in omega arith

pub returns-then-kind-eq-KIND_NONE : goal.returns-then-kind-eq-KIND_NONE
returns-then-kind-eq-KIND_NONE c =
    run_idle _ _ _ _ _ _ _ (rw c.settings_of-g.ensures at c.worker_at-p.ensures) c.get-kind.ensures
    c.loop-done-test.true c.if-kind-eq-KIND_NONE.true ∙ c.loop-done.invariant.1

pub overflow_add-p-in-loop-done : goal.overflow_add-p-in-loop-done
overflow_add-p-in-loop-done c = let b = own (goal.at.overflow_add-p-in-loop-done c).At-loop-done in omega arith

pub get-k-requires : goal.get-k-requires
get-k-requires c = let b = own (goal.at.get-k-requires c).At-loop-done in omega arith

pub overflow_add-p-in-loop-done-2 : goal.overflow_add-p-in-loop-done-2
overflow_add-p-in-loop-done-2 c = let b = own (goal.at.overflow_add-p-in-loop-done-2 c).At-loop-done in omega arith

pub put-requires : goal.put-requires
put-requires c = let b = own (goal.at.put-requires c).At-loop-done in omega arith

pub lookup_step-requires : goal.lookup_step-requires
lookup_step-requires c =
    let b = placed c.requires.0 _ c.requires.1.0 in (
      rw c.settings_of-g.ensures (fits_kept (omega (arith, c.loop-done.invariant.0)) c.requires.0),
      (omega (arith, c.loop-done.invariant.0, rw c.settings_of-g.ensures at c.worker_at-p.ensures), search rules),
    )

pub returns-in-Answered : goal.returns-in-Answered
returns-in-Answered c =
    let place = rw c.settings_of-g.ensures at c.worker_at-p.ensures in
    let taken = operation_lookup _ _ _ _ _ _ _ _ c.get-kind.ensures (ap (λ (x : ℕ). x % steps_range) c.get-k.ensures)
    c.put.ensures c.if-kind-eq-KIND_LOOKUP.true (rw c.settings_of-g.ensures at c.lookup_step.ensures) in
    run_answered _ _ _ _ _ _ _ place c.get-kind.ensures c.loop-done-test.true _ _ c.if-kind-eq-KIND_NONE.false taken _ c.in-Answered.is
    ∙ c.loop-done.invariant.1

pub returns-in-Refused : goal.returns-in-Refused
returns-in-Refused c =
    let place = rw c.settings_of-g.ensures at c.worker_at-p.ensures in
    let taken = operation_lookup _ _ _ _ _ _ _ _ c.get-kind.ensures (ap (λ (x : ℕ). x % steps_range) c.get-k.ensures)
    c.put.ensures c.if-kind-eq-KIND_LOOKUP.true (rw c.settings_of-g.ensures at c.lookup_step.ensures) in
    run_refused _ _ _ _ _ _ _ place c.get-kind.ensures c.loop-done-test.true _ _ c.if-kind-eq-KIND_NONE.false taken _ c.in-Refused.is
    ∙ c.loop-done.invariant.1

pub overflow_mul-g : goal.overflow_mul-g
overflow_mul-g c =
    omega (arith, c.requires.0.workers, ap (λ (s : Settings). s.workers) c.settings_of-g.ensures)

pub overflow_add-g : goal.overflow_add-g
overflow_add-g c =
    omega (arith, c.requires.0.workers, ap (λ (s : Settings). s.workers) c.settings_of-g.ensures)

pub early_step-requires : goal.early_step-requires
early_step-requires c = (
  fits_kept (omega (arith, c.loop-done.invariant.0)) c.requires.0,
  (c.requires.1.0, rw c.settings_of-g.ensures at c.if-k-g.true),
)

pub update_step-requires : goal.update_step-requires
update_step-requires c =
    (fits_kept (omega (arith, c.loop-done.invariant.0)) c.requires.0, (c.requires.1.0, search rules))

pub returns-in-Answered-update_step : goal.returns-in-Answered-update_step
returns-in-Answered-update_step c =
    let place = rw c.settings_of-g.ensures at c.worker_at-p.ensures in
    let taken = operation_update _ _ _ _ _ _ _ _ c.get-kind.ensures (ap (λ (x : ℕ). x % steps_range) c.get-k.ensures)
    c.put.ensures c.if-kind-eq-KIND_LOOKUP.false (rw (← place) at c.update_step.ensures) in
    run_answered _ _ _ _ _ _ _ place c.get-kind.ensures c.loop-done-test.true _ _ c.if-kind-eq-KIND_NONE.false taken _ c.in-Answered-update_step.is
    ∙ c.loop-done.invariant.1

pub returns-in-Refused-update_step : goal.returns-in-Refused-update_step
returns-in-Refused-update_step c =
    let place = rw c.settings_of-g.ensures at c.worker_at-p.ensures in
    let taken = operation_update _ _ _ _ _ _ _ _ c.get-kind.ensures (ap (λ (x : ℕ). x % steps_range) c.get-k.ensures)
    c.put.ensures c.if-kind-eq-KIND_LOOKUP.false (rw (← place) at c.update_step.ensures) in
    run_refused _ _ _ _ _ _ _ place c.get-kind.ensures c.loop-done-test.true _ _ c.if-kind-eq-KIND_NONE.false taken _ c.in-Refused-update_step.is
    ∙ c.loop-done.invariant.1

pub loop-done-preserved : goal.loop-done-preserved
loop-done-preserved c =
    let place = rw c.settings_of-g.ensures at c.worker_at-p.ensures in
    let steps = ap (λ (x : ℕ). x % steps_range) c.get-k.ensures in
    elim c.if-kind-eq-KIND_LOOKUP.branch [
      | then-kind-eq-KIND_LOOKUP+in-Moved w ↦
          rw w.words-is (
            search rules,
            run_moved _ _ _ _ _ _ _ place c.get-kind.ensures c.loop-done-test.true _ _
                c.if-kind-eq-KIND_NONE.false (operation_lookup _ _ _ _ _ _ _ _ c.get-kind.ensures steps c.put.ensures w.if-kind-eq-KIND_LOOKUP.true
                (rw c.settings_of-g.ensures at w.lookup_step.ensures)) w.in-Moved.is ∙ c.loop-done.invariant.1,
          )
      | else-kind-eq-KIND_LOOKUP+then-k-g w ↦
          rw w.words-is (
            search rules,
            run_moved _ _ _ _ _ _ _ place c.get-kind.ensures c.loop-done-test.true _ _
                c.if-kind-eq-KIND_NONE.false (operation_update _ _ _ _ _ _ _ _ c.get-kind.ensures steps c.put.ensures w.if-kind-eq-KIND_LOOKUP.false
                (rw (← place) at w.early_step.ensures)) refl ∙ c.loop-done.invariant.1,
          )
      | else-kind-eq-KIND_LOOKUP+else-k-g+in-Moved-update_step w ↦
          rw w.words-is (
            search rules,
            run_moved _ _ _ _ _ _ _ place c.get-kind.ensures c.loop-done-test.true _ _
                c.if-kind-eq-KIND_NONE.false (operation_update _ _ _ _ _ _ _ _ c.get-kind.ensures steps c.put.ensures w.if-kind-eq-KIND_LOOKUP.false
                (rw (← place) at w.update_step.ensures)) w.in-Moved-update_step.is ∙ c.loop-done.invariant.1,
          )
    ]

pub returns : goal.returns
returns c =
    let all : c.args.most ≡ c.loop-done.done = omega arith in
    ap (λ (k : ℕ). (c.loop-done.words, Ok (Ran.Moved k))) all ∙ run_end _ _ _ _ _ c.loop-done-test.false ∙ c.loop-done.invariant.1
