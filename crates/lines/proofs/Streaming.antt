-- A line pushed byte by byte means what it means as a whole, whatever its length, and an input read so has the same lines.
-- Rests on the bound of proofs/Longest.
use Prim.Native.Nat.{ℕ, suc, ◌≤◌, ◌<◌}
use mathlib.Core.Path.{◌≡◌, refl, sym, ◌∙◌, ap}
use mathlib.Core.Bool.{Bool, true, false}
use mathlib.Core.List.{List, [], ◌∷◌, ◌++◌, map}
use Rattle.std.specs.Prelude.{None}
use native.Mathlib.Omega.{arith}
use native.Mathlib.Numerals.{add-one}
use lib.Dec.{leb, ltb, eqb, eqb-suc-zero}
use lib.ListN.{length, take, length-append, length-set}
use lib.Seq.{take-suc-set}
use borrow.Author.Tests.{le-leb, lt-ltb, le-ltb, leb-true, leb-false, ltb-true, ltb-false, ne_eqb}
use Rattle.machine.specs.Choice.{when◌then◌else◌}
use Rattle.decimals.specs.Ascii.{line_feed}
use Rattle.numerals.specs.Cut.{before, parts_at}
use Rattle.lines.specs.declared.reader.Reader.{Reader}
use Rattle.lines.specs.Grammar.{lines_of, command_of}
use Rattle.lines.specs.Reading.{line_room, fresh, pushed, command_in, is_empty, commands_read}
use Rattle.lines.proofs.Longest.{long_nothing}

-- ---- what a reader holds

pub record Short (r : Reader) (xs : List ℕ) : Type 0 where
  pub len : r.len ≡ length xs
  pub line : take (length xs) r.line ≡ xs
  pub long : r.long ≡ false

pub record Over (r : Reader) : Type 0 where
  pub len : r.len ≡ line_room
  pub long : r.long ≡ true

-- a reader that was pushed xs
pub record HoldsBytes (r : Reader) (xs : List ℕ) : Type 0 where
  pub room : length r.line ≡ line_room
  pub short : length xs ≤ line_room → Short r xs
  pub over : line_room < length xs → Over r

pub holds_bytes_fresh : HoldsBytes fresh []
unfolding fresh
holds_bytes_fresh = record { room = refl; short = λ h. record { len = refl; line = refl; long = refl }; over = λ h. absurd (omega arith) }

module _ (r : Reader) (xs : List ℕ) (b : ℕ) (h : HoldsBytes r xs) where
  more : length (xs ++ b ∷ []) ≡ suc (length xs)
  more = length-append xs (b ∷ []) ∙ add-one (length xs)

  kept : length xs < line_room → HoldsBytes (pushed r b) (xs ++ b ∷ [])
  unfolding pushed when◌then◌else◌
  kept k =
      let s = h.short (omega arith) in
      let e = s.len in
      let m = more in
      let f = h.room in
      rw (lt-ltb r.len line_room (omega arith))
      (record {
        room = length-set r.line r.len b ∙ h.room;
        short = λ _. record {
          len = omega arith;
          line = rw (m, e) (take-suc-set r.line (length xs) b (omega arith) ∙ ap (λ (l : List ℕ). l ++ b ∷ []) s.line);
          long = s.long;
        };
        over = λ g. absurd (omega arith);
      })

  lost : line_room ≤ length xs → r.len ≡ line_room → HoldsBytes (pushed r b) (xs ++ b ∷ [])
  unfolding pushed when◌then◌else◌
  lost k e =
      let m = more in
      rw (le-ltb r.len line_room (omega arith)) (record {
        room = h.room;
        short = λ g. absurd (omega arith);
        over = λ g. record
            { len = e; long = refl };
      })

  full : line_room ≤ length xs → r.len ≡ line_room
  full k = by (leb (length xs) line_room) refl
    where
      by : (t : Bool) → leb (length xs) line_room ≡ t → r.len ≡ line_room
      by true e = let l = leb-true (length xs) line_room e in omega (arith, (h.short l).len)
      by false e = (h.over (leb-false (length xs) line_room e)).len

  pub holds_bytes_pushed : HoldsBytes (pushed r b) (xs ++ b ∷ [])
  holds_bytes_pushed = by (ltb (length xs) line_room) refl
    where
      by : (t : Bool) → ltb (length xs) line_room ≡ t → HoldsBytes (pushed r b) (xs ++ b ∷ [])
      by true e = kept (ltb-true (length xs) line_room e)
      by false e = let k = ltb-false (length xs) line_room e in lost k (full k)

-- ---- what it means

module _ (r : Reader) (xs : List ℕ) (h : HoldsBytes r xs) where
  pub means : command_in r ≡ command_of xs
  unfolding command_in when◌then◌else◌
  means = by (leb (length xs) line_room) refl
    where
      by : (t : Bool) → leb (length xs) line_room ≡ t
          → when r.long then None else when leb r.len (length r.line) then command_of (take r.len r.line) else None ≡ command_of
          xs
      by true e =
          let k = leb-true (length xs) line_room e in
          let s = h.short k in
          let n = s.len in
          let m = h.room in
          rw (s.long, le-leb r.len (length r.line) (omega arith), s.len, s.line)
      by false e = let k = leb-false (length xs) line_room e in rw ((h.over k).long, long_nothing xs (omega arith))

  pub empty_if : is_empty r ≡ eqb (length xs) 0
  unfolding is_empty
  empty_if = by (leb (length xs) line_room) refl
    where
      by : (t : Bool) → leb (length xs) line_room ≡ t → eqb r.len 0 ≡ eqb (length xs) 0
      by true e = rw (h.short (leb-true (length xs) line_room e)).len
      by false e = let k = leb-false (length xs) line_room e in rw (h.over k).len (sym (ne_eqb (length xs) 0 (omega arith)))

-- ---- the lines of an input

-- xs put before the first line
unfoldable pub front : List ℕ → List (List ℕ) → List (List ℕ)
front [] ls = ls
front (x ∷ xs) ls = before x (front xs ls)

pub front_end : (xs : List ℕ) (b : ℕ) (ls : List (List ℕ)) → front (xs ++ b ∷ []) ls ≡ front xs (before b ls)
unfolding front
front_end [] b ls = refl
front_end (x ∷ xs) b ls = ap (before x) (front_end xs b ls)

pub front_line : (xs : List ℕ) (ls : List (List ℕ)) → front xs ([] ∷ ls) ≡ xs ∷ ls
unfolding front before
front_line [] ls = refl
front_line (x ∷ xs) ls = rw (front_line xs ls)

pub front_nil : (x : ℕ) (xs : List ℕ) → front (x ∷ xs) [] ≡ (x ∷ xs) ∷ []
unfolding front before
front_nil x [] = refl
front_nil x (y ∷ xs) = rw (front_nil y xs)

-- at the end of the input: the line read so far, if it has a byte
front_last : (xs : List ℕ) → map command_of (front xs []) ≡ when eqb (length xs) 0 then [] else command_of xs ∷ []
unfolding front when◌then◌else◌
front_last [] = refl
front_last (x ∷ xs) = rw (eqb-suc-zero (length xs)) (ap (map command_of) (front_nil x xs))

module _ (r : Reader) (xs : List ℕ) (h : HoldsBytes r xs) where
  read_byte : (t : Bool) (b : ℕ) (bs : List ℕ) → commands_read fresh bs ≡ map command_of (lines_of bs)
      → commands_read (pushed r b) bs ≡ map command_of (front (xs ++ b ∷ []) (lines_of bs))
      → when t then command_in r ∷ commands_read fresh bs else commands_read (pushed r b) bs ≡ map command_of
      (front xs (when t then [] ∷ lines_of bs else before b (lines_of bs)))
  unfolding when◌then◌else◌
  read_byte true b bs e f = rw (front_line xs (lines_of bs), means r xs h, e)
  read_byte false b bs e f = f ∙ ap (map command_of) (front_end xs b (lines_of bs))

read_on : (r : Reader) (xs bs : List ℕ) → HoldsBytes r xs → commands_read r bs ≡ map command_of (front xs (lines_of bs))
unfolding commands_read lines_of parts_at front
read_on r xs [] h = rw (empty_if r xs h, means r xs h) (sym (front_last xs))
read_on r xs (b ∷ bs) h =
    read_byte r xs h (eqb b line_feed) b bs (read_on fresh [] bs holds_bytes_fresh)
    (read_on (pushed r b) (xs ++ b ∷ []) bs (holds_bytes_pushed r xs b h))

-- an input read byte by byte has the commands of its lines
pub commands-read : (input : List ℕ) → commands_read fresh input ≡ map command_of (lines_of input)
unfolding front
commands-read input = read_on fresh [] input holds_bytes_fresh
