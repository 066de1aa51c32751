-- The used bytes are bytes of the buffer, whatever is put behind them. Rests on the definitions of specs/Outputs.
use Prim.Native.Nat.{ℕ, ◌+◌, ◌≤◌}
use mathlib.Core.List.{List, [], ◌∷◌}
use lib.IntN.{ℤ}
use lib.ListN.{length}
use borrow.Author.Tests.{leb-true}
use Rattle.machine.proofs.laws.Base.{if_elim}
use Rattle.printers.specs.Written.{fits}
use Rattle.replies.specs.Printed.{printed_row, printed_end}
use Rattle.lists.proofs.PartLaws.{length_overlay}
use Rattle.outputs.specs.Outputs.{Output, emitted, put_rows, put_listed}
use Rattle.std.specs.Prelude.{Result, Ok, Err}
use Rattle.interface.specs.declared.Refusal.{Refusal}

pub record Within (o : Output) : Type 0 where
  pub used : o.used ≤ length o.bytes

pub put_within : (o : Output) (xs : List ℕ) → Within o → Within (emitted o xs)
unfolding emitted fits
put_within o xs w =
    if_elim Within _ _ _
    (λ e.
    let h = leb-true (o.used + length xs) (length o.bytes) e in
    record { used = rw (length_overlay o.bytes o.used xs h) h })
    (λ e. w)

rows_within : (o : Output) (t : List (ℕ × ℤ)) → Within o → Within (put_rows o t)
unfolding put_rows
rows_within o [] w = w
rows_within o (e ∷ t) w = rows_within (emitted o (printed_row e.0 e.1)) t (put_within o _ w)

pub listing_within : (o : Output) (accounts : List ℕ) (totals : List ℤ) (x : Result ℕ Refusal) → Within o → Within (put_listed o accounts totals x)
unfolding put_listed
listing_within o accounts totals (Ok n) w = put_within _ (printed_end n) (rows_within o _ w)
listing_within o accounts totals (Err r) w = put_within o _ w
