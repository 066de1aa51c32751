-- What the lent words are in a session: words that are refused with 8 as zeros are, or words that mean the machine of
-- the script's memory. Rests on the meaning of words and on the machine's script.
use Prim.Native.Nat.{ℕ}
use mathlib.Core.Path.{◌≡◌}
use mathlib.Core.Bool.{true}
use mathlib.Core.List.{List}
use Rattle.std.specs.Prelude.{Option}
use Rattle.std.specs.Option.{option_map}
use lib.ListN.{length}
use Rattle.interface.specs.Limits.{in_range}
use Rattle.interface.specs.declared.Settings.{Settings}
use Rattle.machine.specs.Records.{Machine}
use Rattle.machine.specs.Script.{Memory, zeros, holding, driver}
use Rattle.layout.specs.Shape.{strange}
use Rattle.commands.specs.declared.Command.{Command}
use Rattle.commands.specs.Commands.{line_of}
use Rattle.lines.specs.Session.{told}
use Rattle.texts.specs.Texts.{text_on, words_on}
use Rattle.simulation.proofs.Represents.{Represents}

-- an opened table: settings in their ranges, and words that mean its machine
pub record Opened (l : List ℕ) (s : Settings) (m : Machine) : Type 0 where
  pub range : in_range s.workers s.capacity s.depth ≡ true
  pub represents : Represents s l m

abbrev pub Meant : List ℕ → Memory → Type 0
Meant l zeros = strange l ≡ true
Meant l (holding s m) = Opened l s m

-- as many words as the program lends, and they are this memory
pub record Same (l : List ℕ) (x : Memory) : Type 0 where
  pub count : length l ≡ driver.words
  pub meant : Meant l x

-- a line is met on words as it is met by the script, and leaves words that are the script's memory again
pub record Alike (l : List ℕ) (x : Memory) (c : Option Command) : Type 0 where
  pub text : text_on l driver.accounts driver.totals c ≡ (told x (option_map line_of c)).text
  pub next : Same (words_on l c) (told x (option_map line_of c)).memory
