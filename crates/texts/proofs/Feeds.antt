-- What `feed` does with input: the bytes that it takes end lines, and the text of these lines' commands, whole and in order, is what the
-- buffer holds. Rests on the texts of single commands.
use Prim.Native.Nat.{ℕ, suc, ◌+◌, ◌≤◌}
use mathlib.Core.Path.{◌≡◌, refl, sym, ◌∙◌}
use mathlib.Core.Bool.{Bool, true, false}
use mathlib.Core.List.{List, [], ◌∷◌, ◌++◌}
use native.Mathlib.Omega.{arith}
use lib.Dec.{eqb}
use lib.ListN.{length, take, length-append}
use lib.Seq.{take_at}
use borrow.Author.Tests.{leb-true}
use Rattle.std.specs.Prelude.{Option}
use Rattle.machine.specs.Choice.{when◌then◌else◌}
use Rattle.commands.specs.declared.Command.{Command}
use Rattle.lines.specs.declared.reader.Reader.{Reader}
use Rattle.lines.specs.Reading.{fresh, pushed, command_in}
use Rattle.lists.specs.Parts.{overlay}
use Rattle.lists.proofs.PartLaws.{length_overlay}
use Rattle.outputs.specs.Outputs.{Output}
use Rattle.outputs.specs.Room.{longest, room_for}
use Rattle.responses.specs.Answers.{answered}
use Rattle.driver.specs.Feeding.{Feeding, took, fed}
use Rattle.texts.specs.Texts.{text_on, words_on, texts_on, words_after, ended, reader_after}
use Rattle.texts.proofs.Texts.{behind, behind_nil, behind_behind, Room, text_within, answered_behind, answered_words, answered_kept}

-- the used bytes are bytes of the buffer, and the lists have n and m places
pub record Ready (n m : ℕ) (f : Feeding) : Type 0 where
  pub used : f.state.output.used ≤ length f.state.output.bytes
  pub accounts : length f.state.accounts ≡ n
  pub totals : length f.state.totals ≡ m

-- from f to g the commands cs were answered, and k bytes taken, with the reader r after them
pub record Passed (n m : ℕ) (f g : Feeding) (cs : List (Option Command)) (r : Reader) (k : ℕ) : Type 0 where
  pub room : Room f.state.output (texts_on f.state.words n m cs)
  pub output : g.state.output ≡ behind f.state.output (texts_on f.state.words n m cs)
  pub words : g.state.words ≡ words_after f.state.words cs
  pub reader : g.reader ≡ r
  pub taken : g.taken ≡ f.taken + k

-- ---- one byte

module _ (n m : ℕ) (few : n ≤ 4_096) (f : Feeding) (ready : Ready n m f)
    (room : f.state.output.used + longest ≤ length f.state.output.bytes) where
  text : List ℕ
  text = text_on f.state.words n m (command_in f.reader)

  line : Feeding
  line = record { state = answered f.state (command_in f.reader); reader = fresh; taken = f.taken + 1 }

  line_output : line.state.output ≡ behind f.state.output text
  unfolding line text
  line_output =
      let e = ready.accounts in
      rw (← e, ← ready.totals) (answered_behind f.state (omega arith) room (command_in f.reader))

  text-room : Room f.state.output text
  unfolding text
  text-room = record { room = omega (arith, text_within n m few f.state.words (command_in f.reader)) }

  line_ready : Ready n m line
  unfolding line behind
  line_ready =
      let k = answered_kept f.state (command_in f.reader) in
      record {
        used = rw (line_output, length_overlay f.state.output.bytes f.state.output.used text text-room.room) text-room.room;
        accounts = k.accounts ∙ ready.accounts;
        totals = k.totals ∙ ready.totals;
      }

  -- a line feed, then what follows
  line_passed : (g : Feeding) (cs : List (Option Command)) (r : Reader) (k : ℕ) → Passed n m line g cs r k
      → Passed n m f g (command_in f.reader ∷ cs) r (suc k)
  unfolding line text texts_on words_after behind
  line_passed g cs r k p =
      let c = command_in f.reader in
      let w = answered_words f.state c in
      let rest = texts_on (words_on f.state.words c) n m cs in
      let q = rw (line_output, w) at p.room.room in
      let all : Room f.state.output (text ++ rest) = record {
        room = omega (
          arith,
          length-append text rest,
          length_overlay f.state.output.bytes f.state.output.used text
              text-room.room,
          q,
        );
      } in
      record {
        room = all;
        output = p.output ∙ rw (line_output, w) (behind_behind f.state.output text rest all);
        words = p.words ∙ rw w;
        reader = p.reader;
        taken = let e = p.taken in omega arith;
      }

module _ (n m : ℕ) (f : Feeding) (b : ℕ) where
  byte : Feeding
  byte = record { state = f.state; reader = pushed f.reader b; taken = f.taken + 1 }

  byte_ready : Ready n m f → Ready n m byte
  unfolding byte
  byte_ready h = record { used = h.used; accounts = h.accounts; totals = h.totals }

  -- another byte, then what follows
  byte_passed : (g : Feeding) (cs : List (Option Command)) (r : Reader) (k : ℕ) → Passed n m byte g cs r k → Passed n m f g cs r (suc k)
  unfolding byte
  byte_passed g cs r k p =
      record { room = p.room; output = p.output; words = p.words; reader = p.reader; taken = let e = p.taken in omega arith }

-- ---- many bytes

-- the first bytes of bs, so many, were taken
pub record Prefix (n m : ℕ) (f : Feeding) (bs : List ℕ) : Type 0 where
  pub count : ℕ
  pub within : count ≤ length bs
  pub passed : Passed n m f (fed f bs) (ended f.reader (take count bs)) (reader_after f.reader (take count bs)) count

none : (n m : ℕ) (f : Feeding) → Ready n m f → Passed n m f f [] f.reader 0
unfolding texts_on words_after
none n m f h = record {
  room = let k = h.used in record { room = omega arith };
  output = sym (behind_nil f.state.output);
  words = refl;
  reader = refl;
  taken = omega arith;
}

module _ (n m : ℕ) (few : n ≤ 4_096) where
  pub fed_passed : (f : Feeding) (bs : List ℕ) → Ready n m f → Prefix n m f bs
  unfolding fed took room_for ended reader_after line byte when◌then◌else◌
  fed_passed f [] h = record { count = 0; within = omega arith; passed = none n m f h }
  fed_passed f (b ∷ bs) h =
      by (room_for longest (length f.state.output.bytes) f.state.output.used) (eqb b 10) refl refl (λ g k. fed_passed g bs k)
    where
      by : (t d : Bool) → room_for longest (length f.state.output.bytes) f.state.output.used ≡ t → eqb b 10 ≡ d
          → ((g : Feeding) → Ready n m g → Prefix n m g bs) → Prefix n m f (b ∷ bs)
      by false d e g ih = record { count = 0; within = omega arith; passed = rw e (none n m f h) }
      by true true e g ih =
          let room = leb-true (f.state.output.used + longest) (length f.state.output.bytes) e in
          let p = ih (line n m few f h room) (line_ready n m few f h room) in
          let k = p.within in
          record { count = suc p.count; within = omega arith; passed = rw (e, g) (line_passed n m few f h room _ _ _ _ p.passed) }
      by true false e g ih =
          let p = ih (byte n m f b) (byte_ready n m f b h) in
          let k = p.within in
          record { count = suc p.count; within = omega arith; passed = rw (e, g) (byte_passed n m f b _ _ _ _ p.passed) }

-- ---- a call of `feed`

behind_empty : (o : Output) (xs : List ℕ) → o.used ≡ 0 → take (behind o xs).used (behind o xs).bytes ≡ xs
unfolding behind overlay
behind_empty o xs e = rw e (take_at xs _ (0 + length xs) (omega arith))

-- it starts with no bytes taken, and lists of n and m places; the bytes that it takes are the first of the input
module _ (n m : ℕ) (few : n ≤ 4_096) (f : Feeding) (bs : List ℕ) (ready : Ready n m f) (start : f.taken ≡ 0) where
  pub whole : Passed n m f (fed f bs) (ended f.reader (take (fed f bs).taken bs)) (reader_after f.reader (take (fed f bs).taken bs))
      (fed f bs).taken
  whole =
      let p = fed_passed n m few f bs ready in
      let e : p.count ≡ (fed f bs).taken = let k = p.passed.taken in omega arith in
      rw e at p.passed

  -- from an empty buffer: the used bytes are the text of the commands whose lines the taken bytes end
  pub fed_text : f.state.output.used ≡ 0
      → take (fed f bs).state.output.used (fed f bs).state.output.bytes ≡ texts_on f.state.words n m
      (ended f.reader (take (fed f bs).taken bs))
  fed_text empty = rw whole.output (behind_empty f.state.output _ empty)
