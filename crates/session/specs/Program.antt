-- What the program `totals` prints, by the driver's definitions, for input that is fed in any parts, and the claim that
-- this is the session of the machine's script. Rests on the definitions that the contract of `feed` equals.
use Rattle.std.specs.Prelude.{ℕ, zero, suc, ◌≤◌, ◌≡◌, List, [], ◌∷◌, ◌++◌, length, take, drop, replicate, ℤ, Option}
use Rattle.machine.specs.Script.{driver, refused}
use Rattle.replies.specs.Printed.{printed}
use Rattle.commands.specs.declared.Command.{Command}
use Rattle.lines.specs.declared.reader.Reader.{Reader}
use Rattle.lines.specs.Reading.{fresh}
use Rattle.lines.specs.Session.{session}
use Rattle.outputs.specs.Room.{longest}
use Rattle.driver.specs.Feeding.{Feeding, fed}
use Rattle.texts.specs.Texts.{last_feed, text_on, words_on, texts_on, ended, reader_after}

-- ---- the whole input at once

-- the texts of the commands whose lines the input ends, its own end included, over words that are all 0
unfoldable pub printed_for : List ℕ → List ℕ
printed_for input =
    texts_on (replicate driver.words 0) driver.accounts driver.totals
    (ended fresh (input ++ last_feed (reader_after fresh input)))

-- bytes in, bytes out
abbrev pub ProgramIsSession : Type 0
ProgramIsSession = (input : List ℕ) → printed_for input ≡ session input

-- ---- the input as the program feeds it

-- what the program keeps between two calls of `feed`: what it lends, its output buffer, and the reader of the line not
-- ended yet
pub record Kept : Type 0 where
  pub words : List ℕ
  pub accounts : List ℕ
  pub totals : List ℤ
  pub buffer : List ℕ
  pub reader : Reader

-- a call of `feed`, by its contract
unfoldable pub called : Kept → List ℕ → Feeding
called k bs = fed (record {
  state = record {
    words = k.words;
    accounts = k.accounts;
    totals = k.totals;
    output = record { bytes = k.buffer; used = 0 };
  };
  reader = k.reader;
  taken = 0;
}) bs

unfoldable pub kept_by : Feeding → Kept
kept_by f = record {
  words = f.state.words;
  accounts = f.state.accounts;
  totals = f.state.totals;
  buffer = f.state.output.bytes;
  reader = f.reader;
}

-- the bytes that are written after the call: those of the buffer that are used
unfoldable pub written_by : Feeding → List ℕ
written_by f = take f.state.output.used f.state.output.bytes

-- what is kept in the end, and all that was written
pub record Run : Type 0 where
  pub kept : Kept
  pub written : List ℕ

abbrev pub and_then : List ℕ → Run → Run
and_then xs r = record { kept = r.kept; written = xs ++ r.written }

-- a block of input: `feed` is called with what it has not taken yet, so many times at most
unfoldable pub block_fed : ℕ → Kept → List ℕ → Run
block_fed zero k bs = record { kept = k; written = [] }
block_fed (suc f) k [] = record { kept = k; written = [] }
block_fed (suc f) k (b ∷ bs) =
    let g : Feeding = called k (b ∷ bs) in
    and_then (written_by g) (block_fed f (kept_by g) (drop g.taken (b ∷ bs)))

-- one block after the other; a call takes a byte at least, so a block takes as many calls as it has bytes, at most
unfoldable pub blocks_fed : Kept → List (List ℕ) → Run
blocks_fed k [] = record { kept = k; written = [] }
blocks_fed k (b ∷ bs) =
    let r : Run = block_fed (length b) k b in
    and_then r.written (blocks_fed r.kept bs)

-- the program: every block as it was read, then a line feed where the last line has none
unfoldable pub program_run : Kept → List (List ℕ) → List ℕ
program_run k blocks =
    let r : Run = blocks_fed k blocks in
    r.written ++ (block_fed 1 r.kept (last_feed r.kept.reader)).written

unfoldable pub joined : List (List ℕ) → List ℕ
joined [] = []
joined (b ∷ bs) = b ++ joined bs

-- "The program lends 8,192 words, all 0 at first, and lists of 4,096 places"; what the lists and the buffer hold at
-- first does not matter
pub record Starts (k : Kept) : Type 0 where
  pub words : k.words ≡ replicate driver.words 0
  pub accounts : length k.accounts ≡ driver.accounts
  pub totals : length k.totals ≡ driver.totals
  pub buffer : longest ≤ length k.buffer
  pub reader : k.reader ≡ fresh

-- and it does not matter how the input is cut into blocks
abbrev pub ProgramIsSessionInBlocks : Type 0
ProgramIsSessionInBlocks = (k : Kept) → Starts k → (blocks : List (List ℕ))
    → program_run k blocks ≡ session (joined blocks)

-- ---- no line is refused with 10

-- none of the lines is met with `refused 10` on these words
abbrev pub NeverNarrowOn : List ℕ → List (Option Command) → Type 0
NeverNarrowOn l [] = Unit {0}
NeverNarrowOn l (c ∷ cs) = (text_on l driver.accounts driver.totals c ≡ printed (refused 10) → ⊥)
    × NeverNarrowOn (words_on l c) cs

-- "so 10 never comes up there"
abbrev pub NeverNarrow : Type 0
NeverNarrow = (input : List ℕ) → NeverNarrowOn (replicate driver.words 0)
    (ended fresh (input ++ last_feed (reader_after fresh input)))
