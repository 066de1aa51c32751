-- `feed`: the loop's invariant is that feeding the bytes left comes to feeding all.
-- Rests on the laws of feeding and on the contracts of what is called.
use mathlib.Core.Path.{◌≡◌}
use lib.ListN.{length, drop}
use Rattle.driver.specs.Feeding.{Feeding, fed}
use Rattle.driver.proofs.feed.Given as goal

abbrev pub invariant-loop-i : goal.invariant-loop-i
invariant-loop-i l =
    ((length l.words ≡ length l.initial.words) × ((length l.accounts ≡ length l.initial.accounts)
    × ((length l.totals ≡ length l.initial.totals) × (length l.out ≡ length l.initial.out))))
    × (◌≡◌ {A = Feeding} (fed (record {
      state = record {
        words = l.words;
        accounts = l.accounts;
        totals = l.totals;
        output = record { bytes = l.out; used = l.used };
      };
      reader = l.reader;
      taken = l.i;
    }) (drop l.i l.input))
    (fed (record {
      state = record {
        words = l.initial.words;
        accounts = l.initial.accounts;
        totals = l.initial.totals;
        output = record { bytes = l.initial.out; used = 0 };
      };
      reader = l.initial.reader;
      taken = 0;
    }) l.input))
