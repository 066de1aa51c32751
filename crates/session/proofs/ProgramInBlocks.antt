-- The program's calls of `feed`, block after block, print the texts of the whole input, however it is cut: so they print the session.
-- Rests on what one call of `feed` prints, on the driver's law of input in parts, and on the session.
use Prim.Native.Nat.{ℕ, zero, suc, ◌≤◌, ◌<◌}
use native.Mathlib.Omega.{arith}
use mathlib.Core.Path.{◌≡◌, refl, ap, sym, ◌∙◌, subst}
use mathlib.Core.Bool.{Bool, true, false}
use mathlib.Core.List.{List, [], ◌∷◌, ◌++◌}
use lib.Dec.{eqb}
use lib.ListN.{length, take, drop, replicate, length-drop, length-replicate, take-append-drop}
use lib.IntN.{ℤ, pos}
use Rattle.machine.specs.Choice.{when◌then◌else◌}
use Rattle.machine.proofs.laws.Base.{if_elim}
use Rattle.lists.proofs.PartLaws.{length_overlay}
use Rattle.lines.specs.declared.reader.Reader.{Reader}
use Rattle.lines.specs.Reading.{fresh, pushed, command_in, is_empty}
use Rattle.lines.specs.Session.{session}
use Rattle.lines.proofs.Session.{session_of_01}
use Rattle.outputs.specs.Outputs.{DriverState}
use Rattle.outputs.specs.Room.{longest}
use Rattle.outputs.proofs.Rooms.{zeros_hold}
use Rattle.driver.specs.Feeding.{Feeding, took, fed}
use Rattle.texts.specs.Texts.{last_feed, texts_on, words_on, words_after, ended, reader_after}
use Rattle.driver.proofs.Bounds.{fed_first}
use Rattle.texts.proofs.Texts.{behind, answered_kept}
use Rattle.texts.proofs.Feeds.{Ready, whole, fed_text}
use Rattle.texts.proofs.Parts.{in_parts}
use Rattle.session.specs.Program.{Kept, called, kept_by, written_by, Run, and_then, block_fed, blocks_fed, program_run, joined, Starts, printed_for, ProgramIsSessionInBlocks}
use Rattle.session.proofs.ProgramIsSession.{program_is_session, input01, output01}

-- ---- what a call of `feed` leaves

-- the lists keep their lengths
record SameLists (s t : DriverState) : Type 0 where
  accounts : length t.accounts ≡ length s.accounts
  totals : length t.totals ≡ length s.totals

took_lists : (f : Feeding) (b : ℕ) → SameLists f.state (took f b).state
unfolding took
took_lists f b =
    if_elim (λ (g : Feeding). SameLists f.state g.state) (eqb b 10) _ _
    (λ e. let k = answered_kept f.state (command_in f.reader) in record { accounts = k.accounts; totals = k.totals })
    (λ e. record { accounts = refl; totals = refl })

fed_lists : (bs : List ℕ) (f : Feeding) → SameLists f.state (fed f bs).state
unfolding fed
fed_lists [] f = record { accounts = refl; totals = refl }
fed_lists (b ∷ bs) f =
    if_elim (λ (g : Feeding). SameLists f.state g.state) _ _ _
    (λ e.
    let h = took_lists f b in
    let k = fed_lists bs (took f b) in
    record { accounts = k.accounts ∙ h.accounts; totals = k.totals ∙ h.totals })
    (λ e. record { accounts = refl; totals = refl })

-- lists as long as the program's, and a buffer that holds the longest text
record Able (k : Kept) : Type 0 where
  accounts : length k.accounts ≡ 4_096
  totals : length k.totals ≡ 4_096
  buffer : longest ≤ length k.buffer

-- from k the bytes bs were taken, and this is what came of it
record Took (k : Kept) (bs : List ℕ) (r : Run) : Type 0 where
  written : r.written ≡ texts_on k.words 4_096 4_096 (ended k.reader bs)
  words : r.kept.words ≡ words_after k.words (ended k.reader bs)
  reader : r.kept.reader ≡ reader_after k.reader bs
  able : Able r.kept

module _ (k : Kept) (h : Able k) (bs : List ℕ) where
  start : Feeding
  start = record {
    state = record { words = k.words; accounts = k.accounts; totals = k.totals; output = record { bytes = k.buffer; used = 0 } };
    reader = k.reader;
    taken = 0;
  }

  ready : Ready 4_096 4_096 start
  unfolding start
  ready = record { used = omega arith; accounts = h.accounts; totals = h.totals }

  -- a call of `feed`, over the bytes that it took
  one_call : Took k (take (called k bs).taken bs) (record { kept = kept_by (called k bs); written = written_by (called k bs) })
  unfolding start called kept_by written_by behind
  one_call =
      let p = whole 4_096 4_096 (omega arith) start bs ready refl in
      let n = fed_lists bs start in
      let buffer : length (fed start bs).state.output.bytes ≡ length k.buffer =
      ap (λ o. length o.bytes) p.output ∙ length_overlay k.buffer 0 _ p.room.room in
      record {
        written = fed_text 4_096 4_096 (omega arith) start bs ready refl refl;
        words = p.words;
        reader = p.reader;
        able = record {
          accounts = n.accounts ∙ h.accounts;
          totals = n.totals ∙ h.totals;
          buffer = let b = h.buffer in omega arith;
        };
      }

  taken_some : 0 < length bs → 0 < (called k bs).taken
  unfolding start called
  taken_some n = let b = h.buffer in fed_first start bs n (omega arith)

-- ---- one after the other

words_parts : (xs ys : List ℕ) (r : Reader) (l : List ℕ)
    → words_after l (ended r (xs ++ ys)) ≡ words_after (words_after l (ended r xs)) (ended (reader_after r xs) ys)
unfolding ended reader_after words_after when◌then◌else◌
words_parts [] ys r l = refl
words_parts (b ∷ xs) ys r l = by (eqb b 10) refl (λ q m. words_parts xs ys q m)
  where
    by : (t : Bool) → eqb b 10 ≡ t
        → ((q : Reader) (m : List ℕ) → words_after m (ended q (xs ++ ys))
        ≡ words_after (words_after m (ended q xs)) (ended (reader_after q xs) ys))
        → words_after l (ended r (b ∷ xs ++ ys)) ≡ words_after (words_after l (ended r (b ∷ xs))) (ended (reader_after r (b ∷ xs)) ys)
    by true e again = rw e (again fresh (words_on l (command_in r)))
    by false e again = rw e (again (pushed r b) l)

reader_parts : (xs ys : List ℕ) (r : Reader) → reader_after r (xs ++ ys) ≡ reader_after (reader_after r xs) ys
unfolding reader_after when◌then◌else◌
reader_parts [] ys r = refl
reader_parts (b ∷ xs) ys r = by (eqb b 10) refl (λ q. reader_parts xs ys q)
  where
    by : (t : Bool) → eqb b 10 ≡ t → ((q : Reader) → reader_after q (xs ++ ys) ≡ reader_after (reader_after q xs) ys)
        → reader_after r (b ∷ xs ++ ys) ≡ reader_after (reader_after r (b ∷ xs)) ys
    by true e again = rw e (again fresh)
    by false e again = rw e (again (pushed r b))

took_none : (k : Kept) → Able k → Took k [] (record { kept = k; written = [] })
unfolding texts_on words_after ended reader_after
took_none k h = record { written = refl; words = refl; reader = refl; able = h }

took_then : (k : Kept) (xs ys : List ℕ) (r q : Run) → Took k xs r → Took r.kept ys q → Took k (xs ++ ys) (and_then r.written q)
took_then k xs ys r q a b = record {
  written = rw (b.written, a.written, a.words, a.reader, in_parts k.words 4_096 4_096 k.reader xs ys);
  words = b.words ∙ rw (a.words, a.reader) (sym (words_parts xs ys k.reader k.words));
  reader = b.reader ∙ rw a.reader (sym (reader_parts xs ys k.reader));
  able = b.able;
}

-- a block, in as many calls as it takes
block_took : (f : ℕ) (k : Kept) (bs : List ℕ) → Able k → length bs ≤ f → Took k bs (block_fed f k bs)
unfolding block_fed
block_took zero k [] h n = took_none k h
block_took zero k (b ∷ bs) h n = absurd (omega arith)
block_took (suc f) k [] h n = took_none k h
block_took (suc f) k (b ∷ bs) h n =
    let t : ℕ = (called k (b ∷ bs)).taken in
    let p : 0 < t = taken_some k h (b ∷ bs) (omega arith) in
    let a = one_call k h (b ∷ bs) in
    let rest : length (drop t (b ∷ bs)) ≤ f = rw (length-drop t (b ∷ bs)) (omega arith) in
    subst (λ (l : List ℕ). Took k l (block_fed (suc f) k (b ∷ bs))) (take-append-drop t (b ∷ bs))
    (took_then k (take t (b ∷ bs)) (drop t (b ∷ bs)) _ _ a (block_took f (kept_by (called k (b ∷ bs))) (drop t (b ∷ bs)) a.able rest))

blocks_took : (blocks : List (List ℕ)) (k : Kept) → Able k → Took k (joined blocks) (blocks_fed k blocks)
unfolding blocks_fed joined
blocks_took [] k h = took_none k h
blocks_took (b ∷ bs) k h =
    let a = block_took (length b) k b h (omega arith) in
    took_then k b (joined bs) (block_fed (length b) k b) _ a (blocks_took bs (block_fed (length b) k b).kept a.able)

-- ---- the program

last_short : (r : Reader) → length (last_feed r) ≤ 1
unfolding last_feed
last_short r = if_elim (λ (l : List ℕ). length l ≤ 1) (is_empty r) _ _ (λ e. omega arith) (λ e. omega arith)

pub program_in_blocks : ProgramIsSessionInBlocks
unfolding program_run printed_for
program_in_blocks k s blocks =
    let h : Able k = record { accounts = s.accounts; totals = s.totals; buffer = s.buffer } in
    let a = blocks_took blocks k h in
    let q : Reader = (blocks_fed k blocks).kept.reader in
    let c = block_took 1 (blocks_fed k blocks).kept (last_feed q) a.able (last_short q) in
    let e : q ≡ reader_after fresh (joined blocks) = a.reader ∙ ap (λ (r : Reader). reader_after r (joined blocks)) s.reader in
    let w = (took_then k (joined blocks) (last_feed q) (blocks_fed k blocks)
    (block_fed 1 (blocks_fed k blocks).kept (last_feed q)) a c).written in
    w ∙ ap (λ (l : List ℕ). texts_on l 4_096 4_096 (ended k.reader (joined blocks ++ last_feed q))) s.words
    ∙ ap (λ (r : Reader). texts_on (replicate 8_192 0) 4_096 4_096 (ended r (joined blocks ++ last_feed q))) s.reader
    ∙ ap (λ (r : Reader). texts_on (replicate 8_192 0) 4_096 4_096 (ended fresh (joined blocks ++ last_feed r))) e
    ∙ program_is_session (joined blocks)

-- ---- what the program starts with, and 01's session in blocks

-- its lists, its words and its buffer are all 0
pub own_start : Starts (record {
  words = replicate 8_192 0;
  accounts = replicate 4_096 0;
  totals = replicate 4_096 (pos 0);
  buffer = replicate 262_144 0;
  reader = fresh;
})
unfolding longest
own_start = record {
  words = refl;
  accounts = length-replicate {A = ℕ} 4_096 0;
  totals = length-replicate {A = ℤ} 4_096 (pos 0);
  buffer = zeros_hold 262_144 (omega arith);
  reader = refl;
}

pub blocks_print_01 : (k : Kept) → Starts k → (blocks : List (List ℕ)) → joined blocks ≡ input01 → program_run k blocks ≡ output01
blocks_print_01 k s blocks e = program_in_blocks k s blocks ∙ ap session e ∙ session_of_01
