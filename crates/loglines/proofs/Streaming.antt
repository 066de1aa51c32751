-- Input fed byte by byte, in parts of any length: the lines that it has are read one after the other. Rests on the bound of proofs/Longest
-- and on crate lines' laws of lines.
use Prim.Native.Nat.{ℕ, suc, ◌+◌, ◌≤◌, ◌<◌}
use mathlib.Core.Path.{◌≡◌, refl, sym, ◌∙◌, ap}
use mathlib.Core.Bool.{Bool, true, false}
use mathlib.Core.List.{List, [], ◌∷◌, ◌++◌}
use native.Mathlib.Omega.{arith}
use native.Mathlib.Numerals.{add-one}
use lib.Dec.{leb, ltb, eqb, eqb-suc-zero}
use lib.ListN.{length, take, drop, get_or, set, drop_of_length-le, length-append, length-set}
use lib.Seq.{drop-cons, length-take-le, take_all, take-suc-set, take-append-le}
use borrow.Author.Tests.{lt-ltb, le-ltb, leb-true, leb-false, ltb-true, ltb-false, ne_eqb}
use Rattle.machine.specs.Choice.{when◌then◌else◌}
use Rattle.decimals.specs.Ascii.{line_feed}
use Rattle.numerals.specs.Cut.{before, parts_at}
use Rattle.lines.specs.Grammar.{lines_of}
use Rattle.lines.proofs.Streaming.{front, front_end, front_line, front_nil}
use Rattle.loglines.specs.declared.progress.Line.{Line}
use Rattle.loglines.specs.declared.progress.Progress.{Progress}
use Rattle.loglines.specs.declared.progress.Feeding.{Feeding}
use Rattle.loglines.specs.Holding.{line_room, no_line, pushed, line_in, with_line, start, begin, took, fed, ended}
use Rattle.loglines.specs.Feeding.{joined, fed_all}
use Rattle.loglines.proofs.Longest.{no_operation, no_settings}

-- ---- feeding

module _ (f : Feeding) (input : List ℕ) (i : ℕ) where
  pub fed_end : length input ≤ i → f ≡ fed f (drop i input)
  unfolding fed
  fed_end h = rw (drop_of_length-le input h)

  pub fed_next : (g : Feeding) → i < length input → g ≡ took f (get_or input i 0) → fed g (drop (i + 1) input) ≡ fed f (drop i input)
  unfolding fed
  fed_next g h e = rw (drop-cons input i 0 h, add-one, e)

fed_append : (f : Feeding) (xs ys : List ℕ) → fed (fed f xs) ys ≡ fed f (xs ++ ys)
unfolding fed
fed_append f [] ys = refl
fed_append f (b ∷ xs) ys = fed_append (took f b) xs ys

pub fed_parts : (f : Feeding) (parts : List (List ℕ)) → fed_all f parts ≡ fed f (joined parts)
unfolding fed fed_all joined
fed_parts f [] = refl
fed_parts f (xs ∷ parts) = fed_parts (fed f xs) parts ∙ fed_append f xs (joined parts)

-- ---- what is held of a line

-- a line that was pushed xs
record HoldsBytes (l : Line) (xs : List ℕ) : Type 0 where
  room : length l.bytes ≡ line_room
  len : l.len ≤ line_room
  kept : take l.len l.bytes ≡ take line_room xs

holds_none : HoldsBytes no_line []
unfolding no_line
holds_none = record { room = refl; len = omega arith; kept = refl }

module _ (l : Line) (xs : List ℕ) (h : HoldsBytes l xs) where
  -- all of xs are kept where they have room, and else as many as have
  all_kept : length xs ≤ line_room → l.len ≡ length xs
  all_kept k =
      let n = ap length h.kept ∙ ap length (take_all line_room xs k) in
      omega (arith, length-take-le l.len l.bytes (omega (arith, h.room, h.len)))

  first_kept : line_room ≤ length xs → l.len ≡ line_room
  first_kept k =
      let n = ap length h.kept ∙ length-take-le line_room xs k in
      omega (arith, length-take-le l.len l.bytes (omega (arith, h.room, h.len)))

  holds_pushed : (b : ℕ) → HoldsBytes (pushed l b) (xs ++ b ∷ [])
  unfolding pushed when◌then◌else◌
  holds_pushed b = by (ltb (length xs) line_room) refl
    where
      more : length (xs ++ b ∷ []) ≡ suc (length xs)
      more = length-append xs (b ∷ []) ∙ add-one (length xs)

      by : (t : Bool) → ltb (length xs) line_room ≡ t
          → HoldsBytes (when ltb l.len line_room then record { bytes = set l.bytes l.len b; len = l.len + 1 } else l) (xs ++ b ∷ [])
      by true e =
          let k = ltb-true (length xs) line_room e in
          let n = all_kept (omega arith) in
          let m = more in
          let r = h.room in
          rw (lt-ltb l.len line_room (omega arith))
          (record {
            room = length-set l.bytes l.len b ∙ h.room;
            len = omega arith;
            kept = rw (add-one l.len, take-suc-set l.bytes l.len b (omega arith), h.kept, take_all line_room xs (omega arith))
                (sym (take_all line_room (xs ++ b ∷ []) (omega arith)));
          })
      by false e =
          let k = ltb-false (length xs) line_room e in
          rw (le-ltb l.len line_room (omega (arith, first_kept k)))
          (record { room = h.room; len = h.len; kept = h.kept ∙ sym (take-append-le line_room xs (b ∷ []) k) })

  -- what is kept means what the line means
  means : (p : Progress) → with_line p (line_in l) ≡ with_line p xs
  unfolding with_line line_in
  means p = by (leb (length xs) line_room) refl
    where
      by : (t : Bool) → leb (length xs) line_room ≡ t → with_line p (take l.len l.bytes) ≡ with_line p xs
      by true e = ap (with_line p) (h.kept ∙ take_all line_room xs (leb-true (length xs) line_room e))
      by false e =
          let k = leb-false (length xs) line_room e in
          let n = length-take-le line_room xs (omega arith) in
          rw (
            h.kept,
            no_settings xs (omega arith),
            no_operation xs (omega arith),
            no_settings (take line_room xs) (omega arith),
            no_operation (take line_room xs) (omega arith),
          )

  empty_if : eqb l.len 0 ≡ eqb (length xs) 0
  empty_if = by (leb (length xs) line_room) refl
    where
      by : (t : Bool) → leb (length xs) line_room ≡ t → eqb l.len 0 ≡ eqb (length xs) 0
      by true e = rw (all_kept (leb-true (length xs) line_room e))
      by false e =
          let k = leb-false (length xs) line_room e in
          rw (first_kept (omega arith)) (sym (ne_eqb (length xs) 0 (λ z. omega arith)))

-- ---- the lines of an input

unfoldable pub all_lines : Progress → List (List ℕ) → Progress
all_lines p [] = p
all_lines p (l ∷ ls) = all_lines (with_line p l) ls

-- the line read so far, if it has a byte
at_end : (p : Progress) (xs : List ℕ) → when eqb (length xs) 0 then p else with_line p xs ≡ all_lines p (front xs [])
unfolding front all_lines when◌then◌else◌
at_end p [] = refl
at_end p (x ∷ xs) = rw (eqb-suc-zero (length xs)) (ap (all_lines p) (sym (front_nil x xs)))

module _ (l : Line) (xs : List ℕ) (h : HoldsBytes l xs) (p : Progress) where
  ended_now : ended (record { line = l; progress = p }) ≡ all_lines p (front xs [])
  unfolding ended
  ended_now = rw (empty_if l xs h, means l xs h p) (at_end p xs)

  read_byte : (t : Bool) (b : ℕ) (bs : List ℕ)
      → ended (fed (record { line = no_line; progress = with_line p (line_in l) }) bs) ≡ all_lines (with_line p (line_in l)) (lines_of bs)
      → ended (fed (record { line = pushed l b; progress = p }) bs) ≡ all_lines p (front (xs ++ b ∷ []) (lines_of bs))
      → ended
      (fed (when t then record { line = no_line; progress = with_line p (line_in l) } else record { line = pushed l b; progress = p }) bs)
      ≡ all_lines p (front xs (when t then [] ∷ lines_of bs else before b (lines_of bs)))
  unfolding when◌then◌else◌ all_lines
  read_byte true b bs e f =
      e ∙ ap (λ (q : Progress). all_lines q (lines_of bs)) (means l xs h p) ∙ ap (all_lines p) (sym (front_line xs (lines_of bs)))
  read_byte false b bs e f = f ∙ ap (all_lines p) (front_end xs b (lines_of bs))

read_on : (l : Line) (xs bs : List ℕ) (p : Progress) → HoldsBytes l xs
    → ended (fed (record { line = l; progress = p }) bs) ≡ all_lines p (front xs (lines_of bs))
unfolding fed took lines_of parts_at front
read_on l xs [] p h = ended_now l xs h p
read_on l xs (b ∷ bs) p h =
    read_byte l xs h p (eqb b line_feed) b bs (read_on no_line [] bs (with_line p (line_in l)) holds_none)
    (read_on (pushed l b) (xs ++ b ∷ []) bs p (holds_pushed l xs h b))

-- an input fed in parts comes to its lines
pub lines_read : (parts : List (List ℕ)) → ended (fed_all begin parts) ≡ all_lines start (lines_of (joined parts))
unfolding begin front
lines_read parts = ap ended (fed_parts begin parts) ∙ read_on no_line [] (joined parts) start holds_none

-- ---- how many lines there are

one_more : (t : Bool) (b : ℕ) (ls : List (List ℕ)) → length (when t then [] ∷ ls else before b ls) ≤ suc (length ls)
unfolding when◌then◌else◌ before
one_more true b ls = omega arith
one_more false b [] = omega arith
one_more false b (l ∷ ls) = omega arith

pub line_count : (input : List ℕ) → length (lines_of input) ≤ length input
unfolding lines_of parts_at
line_count [] = omega arith
line_count (b ∷ bs) =
    let n = line_count bs in
    let m = one_more (eqb b line_feed) b (lines_of bs) in
    omega arith
