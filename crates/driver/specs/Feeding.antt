-- Input taken byte by byte, each line answered as it ends. Rests on the responses' answers, on the outputs' room and on
-- the lines' reader.
use Rattle.std.specs.Prelude.{ℕ, ◌+◌, List, [], ◌∷◌, eqb, length}
use Rattle.decimals.specs.Ascii.{line_feed}
use Rattle.machine.specs.Choice.{when◌then◌else◌}
use Rattle.lines.specs.declared.reader.Reader.{Reader}
use Rattle.lines.specs.Reading.{fresh, pushed, command_in}
use Rattle.outputs.specs.Outputs.{DriverState}
use Rattle.outputs.specs.Room.{longest, room_for}
use Rattle.responses.specs.Answers.{answered}

-- the state, the reader of the line that is not ended yet, and how many bytes of the input were taken
pub record Feeding : Type 0 where
  pub state : DriverState
  pub reader : Reader
  pub taken : ℕ

abbrev pub feeding_of : DriverState → Reader → ℕ → Feeding
feeding_of s r k = record { state = s; reader = r; taken = k }

-- the next byte; 10 is the line feed
unfoldable pub took : Feeding → ℕ → Feeding
took f b =
    when eqb b line_feed then record {
      state = answered f.state (command_in f.reader);
      reader = fresh;
      taken = f.taken + 1;
    }
    else record { state = f.state; reader = pushed f.reader b; taken = f.taken + 1 }

-- bytes are taken while the longest text has room
unfoldable pub fed : Feeding → List ℕ → Feeding
fed f [] = f
fed f (b ∷ bs) =
    when room_for longest (length f.state.output.bytes) f.state.output.used then fed (took f b) bs else f
