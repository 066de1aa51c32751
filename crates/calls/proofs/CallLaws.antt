-- Laws of calls: each case of a call, and a call of words that pass the checks. Rests on the definition of a call.
use Prim.Native.Nat.{ℕ, ◌+◌, ◌≤◌, ◌<◌}
use mathlib.Core.Path.{◌≡◌, sym, ◌∙◌, ap}
use mathlib.Core.Logic.{◌≢◌, ◌⊎◌, ⊎_elim}
use mathlib.Core.Bool.{Bool, true, false, or-true}
use mathlib.Core.List.{List}
use lib.Dec.{eqb}
use lib.IntN.{ℤ}
use mir.Syntax.{w64}
use mir.Val.{of_z}
use borrow.Author.Tests.{eq-eqb, ne_eqb, lt-ltb, le-ltb, le-leb, lt-leb}
use Rattle.interface.specs.Limits.{greatest_ticket}
use Rattle.interface.specs.Numbers.{kind_none, kind_insert, kind_delete, kind_lookup, greatest_kind}
use Rattle.interface.specs.declared.Settings.{Settings}
use Rattle.interface.specs.declared.Refusal.{Refusal}
use Rattle.fields.specs.Fields.{worker_kind, worker_ticket}
use Rattle.fields.specs.Regions.{worker_at}
use Rattle.machine.specs.Choice.{when◌then◌else◌}
use Rattle.layout.specs.Shape.{word, strange, shape_of}
use Rattle.calls.specs.Calls.{begun_at, call_in, call_words}
use Rattle.layout.proofs.Checks.{both_passed}
use Rattle.std.specs.Prelude.{Result, Ok, Err, ⊤}

-- ---- a call of the worker at p

module _ (l : List ℕ) (p kind a : ℕ) (v : ℤ) (x : ℕ) (read : x ≡ word l (p + worker_kind)) where
  pub call_busy : x ≢ kind_none → (l, Err Refusal.Busy) ≡ call_in l p kind a v
  unfolding call_in when◌then◌else◌
  call_busy h = rw (ne_eqb (word l (p + worker_kind)) kind_none (λ z. h (read ∙ z)))

  module _ (idle : x ≡ kind_none) where
    free : eqb (word l (p + worker_kind)) kind_none ≡ true
    free = eq-eqb (word l (p + worker_kind)) kind_none (sym read ∙ idle)

    pub call_kind : (kind < kind_insert) ⊎ (greatest_kind < kind) → (l, Err Refusal.Kind) ≡ call_in l p kind a v
    unfolding call_in when◌then◌else◌
    call_kind h = ⊎_elim (λ n. rw (free, lt-ltb kind kind_insert n)) (λ n. rw (free, lt-ltb greatest_kind kind n, or-true)) h

    module _ (low : kind_insert ≤ kind) (high : kind ≤ greatest_kind) (t : ℕ) (ticket : t ≡ word l (p + worker_ticket)) where
      pub call_lookup :
          (m : List ℕ) → kind ≡ kind_lookup → m ≡ begun_at l p (record { kind = kind; account = a; total = 0; ticket = t })
          → (m, Ok tt) ≡ call_in l p kind a v
      unfolding call_in when◌then◌else◌
      call_lookup m e h = rw (free, h, ticket, e)

      module _ (other : kind ≢ kind_lookup) where
        pub call_spent : greatest_ticket ≤ t → (l, Err Refusal.Spent) ≡ call_in l p kind a v
        unfolding call_in when◌then◌else◌
        call_spent n =
            rw (
              free,
              le-ltb kind kind_insert low,
              le-ltb greatest_kind kind high,
              ne_eqb kind kind_lookup other,
              ← ticket,
              le-leb greatest_ticket t n,
            )

        pub call_update :
            (m : List ℕ) (y : ℕ) → t < greatest_ticket → y ≡ when eqb kind kind_delete then 0 else of_z w64 v
            → m ≡ begun_at l p (record { kind = kind; account = a; total = y; ticket = t + 1 }) → (m, Ok tt) ≡ call_in l p kind a v
        unfolding call_in when◌then◌else◌
        call_update m y n e h =
            rw (
              free,
              le-ltb kind kind_insert low,
              le-ltb greatest_kind kind high,
              ne_eqb kind kind_lookup other,
              ← ticket,
              lt-leb greatest_ticket t n,
              ← e,
              h,
            )

-- ---- whole calls, of words that pass the checks

module _ (l : List ℕ) (x : Bool) (g : Settings) (w : ℕ) (tested : x ≡ strange l) (passed : x ≡ false) (read : g ≡ shape_of l)
    (known : w < g.workers) where
  pub call-words :
      (m : List ℕ × Result ⊤ Refusal) (kind a : ℕ) (v : ℤ) → m ≡ call_in l (worker_at g.workers w) kind a v → m ≡ call_words l w kind a v
  unfolding call_words
  call-words m kind a v h =
      h ∙ ap (λ (s : Settings). call_in l (worker_at s.workers w) kind a v) read ∙ both_passed l x g tested _ _ _ w passed read known
