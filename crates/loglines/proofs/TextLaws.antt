-- Texts at the start of a buffer, what the end of the input leaves, and an order's places one behind the other. Rests on the definitions of
-- specs/Texts, of specs/Feeding and of crate printers.
use Prim.Native.Nat.{ℕ, ◌+◌, ◌^◌, ◌≤◌, ◌<◌}
use mathlib.Core.Path.{◌≡◌, refl, sym, ◌∙◌, ap}
use mathlib.Core.List.{List, [], ◌∷◌, ◌++◌, map, append_assoc, append-nil}
use native.Mathlib.Omega.{arith}
use native.Mathlib.Numerals.{add-one}
use lib.ListN.{length, take, get_or, length-append}
use lib.Seq.{take-suc}
use borrow.Author.Tests.{le-leb, lt-ltb, le-ltb}
use Rattle.interface.specs.Numbers.{bytes, number_of}
use Rattle.interface.specs.declared.Refusal.{Refusal}
use Rattle.interface.specs.declared.Refusal.TheVariants.{Settings, Short, Stranger, Busy, Idle, Kind, Spent, Strange, Narrow, BadLog}
use Rattle.machine.specs.Choice.{when◌then◌else◌}
use Rattle.machine.proofs.laws.Base.{if_true, if_false}
use Rattle.lists.specs.Parts.{overlay}
use Rattle.lists.proofs.PartLaws.{length_overlay}
use Rattle.decimals.specs.Ascii.{line_feed, space}
use Rattle.decimals.specs.Decimals.{decimal}
use Rattle.decimals.proofs.DecimalLaws.{decimal_within}
use Rattle.printers.specs.Written.{counted_text, fits, Wrote}
use Rattle.replies.specs.Printed.{printed_line}
use Rattle.loglines.specs.declared.progress.Feeding.{Feeding}
use Rattle.loglines.specs.Texts.{order_text, place_text}
use Rattle.loglines.specs.Inputs.{input_text}
use Rattle.loglines.specs.Holding.{read_so_far, ended}
use Rattle.loglines.specs.Feeding.{text_room, printed, concluded}

-- ---- texts at the start of a buffer

module _ {l xs after : List ℕ} {at r : ℕ} (w : Wrote l at xs r after) (h : at + length xs ≤ length l) where
  pub wrote_count : r ≡ length xs
  unfolding fits when◌then◌else◌
  wrote_count = rw (le-leb (at + length xs) (length l) h) at w.count

  pub wrote_text : after ≡ overlay l at xs
  unfolding fits when◌then◌else◌
  wrote_text = rw (le-leb (at + length xs) (length l) h) at w.buffer

module _ (l xs : List ℕ) {after : List ℕ} {r : ℕ} where
  pub overlay_printed : after ≡ overlay l 0 xs → r ≡ length xs → (after, r) ≡ printed l xs
  unfolding printed
  overlay_printed e c = rw (e, c)

  pub wrote_printed : Wrote l 0 xs r after → length xs ≤ length l → ((after, r) ≡ printed l xs) × (r ≤ length after)
  wrote_printed w h =
      let e = wrote_text w (omega arith) in
      let c = wrote_count w (omega arith) in
      let n = length_overlay l 0 xs (omega arith) in
      (overlay_printed e c, omega (arith, ap length e))

-- ---- the end of the input

module _ (f : Feeding) (out : List ℕ) where
  pub without_room : length out < text_room → (out, 0) ≡ concluded f out
  unfolding concluded
  without_room h = sym (if_true _ _ (lt-ltb (length out) text_room h))

  pub with_room : text_room ≤ length out → concluded f out ≡ printed out (input_text (read_so_far (ended f)))
  unfolding concluded
  with_room h = if_false _ _ (le-ltb (length out) text_room h)

-- ---- numbers behind a word

pub counted_length : (word : List ℕ) (n : ℕ) → n < 2 ^ 64 → length (counted_text word n) ≤ length word + 21
counted_length word n h =
    let d = decimal_within 19 n (omega arith) in
    omega (arith, length-append (word ++ decimal n) (line_feed ∷ []), length-append word (decimal n))

pub number_fits : (r : Refusal) → number_of r < 2 ^ 64
number_fits Settings = omega arith
number_fits Short = omega arith
number_fits Stranger = omega arith
number_fits Busy = omega arith
number_fits Idle = omega arith
number_fits Kind = omega arith
number_fits Spent = omega arith
number_fits Strange = omega arith
number_fits Narrow = omega arith
number_fits BadLog = omega arith

-- ---- places

unfoldable pub spaced : List ℕ → List ℕ
spaced [] = []
spaced (p ∷ ps) = place_text p ++ spaced ps

printed_places : (f ps : List ℕ) → printed_line (f ∷ map decimal ps) ≡ f ++ (spaced ps ++ line_feed ∷ [])
unfolding printed_line spaced place_text
printed_places f [] = refl
printed_places f (p ∷ ps) =
    ap (λ (l : List ℕ). f ++ space ∷ l) (printed_places (decimal p) ps ∙ sym (append_assoc (decimal p) (spaced ps) (line_feed ∷ [])))

pub order-text : (ps : List ℕ) → bytes "order" ++ (spaced ps ++ line_feed ∷ []) ≡ order_text ps
unfolding order_text
order-text ps = sym (printed_places (bytes "order") ps)

spaced_end : (ps : List ℕ) (p : ℕ) → spaced (ps ++ p ∷ []) ≡ spaced ps ++ place_text p
unfolding spaced
spaced_end [] p = append-nil (place_text p)
spaced_end (q ∷ ps) p = rw (spaced_end ps p) (sym (append_assoc (place_text q) (spaced ps) (place_text p)))

pub spaced_next : (ps : List ℕ) (i : ℕ) → i < length ps → spaced (take i ps) ++ place_text (get_or ps i 0) ≡ spaced (take (i + 1) ps)
spaced_next ps i h = sym (rw (add-one i, take-suc ps i 0 h) (spaced_end (take i ps) (get_or ps i 0)))
