-- Texts of a word and numbers, and what a printer leaves in a buffer. Rests on the decimals.
use Rattle.std.specs.Prelude.{ℕ, ◌+◌, ◌≡◌, Bool, List, [], ◌∷◌, ◌++◌, leb, length}
use Rattle.machine.specs.Choice.{when◌then◌else◌}
use Rattle.lists.specs.Parts.{overlay}
use Rattle.decimals.specs.declared.Decimal.{Decimal}
use Rattle.decimals.specs.Ascii.{line_feed, space}
use Rattle.decimals.specs.Decimals.{decimal}
use Rattle.decimals.specs.Signs.{decimal_text}

-- ---- texts

-- a word, with the space after it, a number and a line feed
abbrev pub counted_text : List ℕ → ℕ → List ℕ
counted_text word n = word ++ decimal n ++ line_feed ∷ []

-- two numbers, a space between them, and a line feed
unfoldable pub pair_text : Decimal → Decimal → List ℕ
pair_text a b = decimal_text a ++ space ∷ [] ++ decimal_text b ++ line_feed ∷ []

-- ---- buffers

-- the text has room in the buffer from index at on
unfoldable pub fits : List ℕ → ℕ → List ℕ → Bool
fits l at xs = leb (at + length xs) (length l)

-- What a printer answers, and the buffer that it leaves: the whole text and its length, or nothing and 0 where it has
-- no room.
pub record Wrote (l : List ℕ) (at : ℕ) (xs : List ℕ) (r : ℕ) (after : List ℕ) : Type 0 where
  pub count : r ≡ when fits l at xs then length xs else 0
  pub buffer : after ≡ when fits l at xs then overlay l at xs else l
