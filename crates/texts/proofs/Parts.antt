-- Input fed in parts prints what it prints at once; its end ends a line that has no line feed. So the texts are those of the input's
-- lines. Rests on the definitions of specs/Texts and on the lines' reader.
use Prim.Native.Nat.{ℕ}
use mathlib.Core.Path.{◌≡◌, refl, sym, ◌∙◌, ap}
use mathlib.Core.Bool.{Bool, true, false}
use mathlib.Core.List.{List, [], ◌∷◌, ◌++◌, map, append_assoc}
use lib.Dec.{eqb}
use Rattle.std.specs.Prelude.{Option}
use Rattle.machine.specs.Choice.{when◌then◌else◌}
use Rattle.commands.specs.declared.Command.{Command}
use Rattle.lines.specs.declared.reader.Reader.{Reader}
use Rattle.lines.specs.Grammar.{lines_of, command_of}
use Rattle.lines.specs.Reading.{fresh, pushed, command_in, is_empty, commands_read}
use Rattle.lines.proofs.Streaming.{commands-read}
use Rattle.texts.specs.Texts.{text_on, words_on, texts_on, words_after, ended, reader_after, last_feed}

ended_append : (r : Reader) (xs ys : List ℕ) → ended r (xs ++ ys) ≡ ended r xs ++ ended (reader_after r xs) ys
unfolding ended reader_after when◌then◌else◌
ended_append r [] ys = refl
ended_append r (b ∷ xs) ys = by (eqb b 10) (ended_append fresh xs ys) (ended_append (pushed r b) xs ys)
  where
    by : (t : Bool) → ended fresh (xs ++ ys) ≡ ended fresh xs ++ ended (reader_after fresh xs) ys
        → ended (pushed r b) (xs ++ ys) ≡ ended (pushed r b) xs ++ ended (reader_after (pushed r b) xs) ys
        → when t then command_in r ∷ ended fresh (xs ++ ys) else ended (pushed r b) (xs ++ ys)
        ≡ (when t then command_in r ∷ ended fresh xs else ended (pushed r b) xs)
        ++ ended (when t then reader_after fresh xs else reader_after (pushed r b) xs) ys
    by true f g = ap (λ (l : List (Option Command)). command_in r ∷ l) f
    by false f g = g

texts_append : (l : List ℕ) (n m : ℕ) (cs ds : List (Option Command))
    → texts_on l n m (cs ++ ds) ≡ texts_on l n m cs ++ texts_on (words_after l cs) n m ds
unfolding texts_on words_after
texts_append l n m [] ds = refl
texts_append l n m (c ∷ cs) ds =
    rw (
      texts_append (words_on l c) n m cs ds,
      append_assoc (text_on l n m c) (texts_on (words_on l c) n m cs)
          (texts_on (words_after (words_on l c) cs) n m ds),
    )

-- what is printed for two parts of the input, one after the other
pub in_parts : (l : List ℕ) (n m : ℕ) (r : Reader) (xs ys : List ℕ)
    → texts_on l n m (ended r (xs ++ ys)) ≡ texts_on l n m (ended r xs)
    ++ texts_on (words_after l (ended r xs)) n m (ended (reader_after r xs) ys)
in_parts l n m r xs ys = rw (ended_append r xs ys) (texts_append l n m (ended r xs) (ended (reader_after r xs) ys))

read-ended : (r : Reader) (xs : List ℕ) → commands_read r xs ≡ ended r xs ++ ended (reader_after r xs) (last_feed (reader_after r xs))
unfolding commands_read ended reader_after last_feed when◌then◌else◌
read-ended r [] = by (is_empty r)
  where
    by : (t : Bool) → when t then [] else command_in r ∷ [] ≡ ended r (when t then [] else 10 ∷ [])
    by true = refl
    by false = refl
read-ended r (b ∷ xs) = by (eqb b 10) (read-ended fresh xs) (read-ended (pushed r b) xs)
  where
    last : Reader → List (Option Command)
    last q = ended q (last_feed q)

    by : (t : Bool) → commands_read fresh xs ≡ ended fresh xs ++ last (reader_after fresh xs)
        → commands_read (pushed r b) xs ≡ ended (pushed r b) xs ++ last (reader_after (pushed r b) xs)
        → when t then command_in r ∷ commands_read fresh xs else commands_read (pushed r b) xs
        ≡ (when t then command_in r ∷ ended fresh xs else ended (pushed r b) xs)
        ++ last (when t then reader_after fresh xs else reader_after (pushed r b) xs)
    by true f g = ap (λ (l : List (Option Command)). command_in r ∷ l) f
    by false f g = g

-- the commands that the program answers are those of the input's lines
pub commands_answered : (input : List ℕ) → ended fresh (input ++ last_feed (reader_after fresh input)) ≡ map command_of (lines_of input)
commands_answered input =
    ended_append fresh input (last_feed (reader_after fresh input)) ∙ sym (read-ended fresh input) ∙ commands-read input
