-- Lines of two fields and of eight, field by field. Rests on the definitions of specs/Lines and on crate lines' laws of fields.
use Prim.Native.Nat.{ℕ, suc, ◌+◌, ◌≤◌, ◌<◌}
use mathlib.Core.Path.{◌≡◌, refl, sym, ◌∙◌, ap}
use mathlib.Core.List.{List, [], ◌∷◌, ◌++◌}
use Rattle.std.specs.Prelude.{Option, Some, None}
use Rattle.std.specs.Option.{option_zip}
use native.Mathlib.Omega.{arith}
use native.Mathlib.Nat.{zero-add}
use native.Mathlib.Numerals.{add-one}
use lib.Dec.{eqb}
use lib.ListN.{length, take, drop}
use lib.Seq.{append_snoc, drop-drop}
use borrow.Author.Tests.{ne_eqb}
use Rattle.machine.specs.Choice.{when◌then◌else◌}
use Rattle.machine.proofs.laws.Base.{if_same}
use Rattle.commands.specs.Commands.{small_of}
use Rattle.lines.specs.Grammar.{fields_of, first_field}
use Rattle.lines.proofs.Splitting.{one-field, more_fields, some_field}
use Rattle.loglines.specs.Fields.{field_word}
use Rattle.loglines.specs.Lines.{settings_of, settings_line, word_then, each_word, operation_in, operation_line, behind, operation_from}

-- ---- settings

pub one_setting : (l : List ℕ) → length l ≤ first_field l → None ≡ settings_line l
unfolding settings_line settings_of
one_setting l h = rw (one-field l h)

module _ (l : List ℕ) (n : ℕ) (e : n ≡ first_field l) (h : n < length l) where
  pub more_settings : first_field (drop (n + 1) l) < length (drop (n + 1) l) → None ≡ settings_line l
  unfolding settings_line settings_of
  more_settings k =
      rw (more_fields l n e h, more_fields (drop (n + 1) l) (first_field (drop (n + 1) l)) refl k)
      (rw (some_field (drop (first_field (drop (n + 1) l) + 1) (drop (n + 1) l))).2)

  pub two_settings : length (drop (n + 1) l) ≤ first_field (drop (n + 1) l)
      → option_zip (small_of (take n l)) (small_of (drop (n + 1) l)) ≡ settings_line l
  unfolding settings_line settings_of
  two_settings k = rw (more_fields l n e h, one-field (drop (n + 1) l) k)

-- ---- operations

behind_nothing : (o : Option (List ℕ)) → o ≡ behind [] o
unfolding behind
behind_nothing None = refl
behind_nothing (Some ws) = refl

pub no_word_yet : (l : List ℕ) → operation_from [] 0 (fields_of l) ≡ operation_line l
unfolding operation_line operation_in operation_from
no_word_yet l = rw (zero-add (length (fields_of l)), ← behind_nothing (each_word 0 (fields_of l)))

-- the last field before the eighth
pub too_few : (ws : List ℕ) (k : ℕ) (l : List ℕ) → k < 7 → length l ≤ first_field l → None ≡ operation_from ws k (fields_of l)
unfolding operation_from when◌then◌else◌
too_few ws k l h j = rw (one-field l j, ne_eqb (k + 1) 8 (λ e. omega arith))

-- a space behind the eighth
pub too_many : (ws l : List ℕ) → first_field l < length l → None ≡ operation_from ws 7 (fields_of l)
unfolding operation_from when◌then◌else◌
too_many ws l h =
    let rest = some_field (drop (first_field l + 1) l) in
    rw (more_fields l (first_field l) refl h, rest.2, ne_eqb (7 + suc (suc (length rest.1))) 8 (λ e. omega arith))

module _ (ws : List ℕ) (k : ℕ) (f : List ℕ) (fs : List (List ℕ)) where
  pub field_unread : field_word k f ≡ None → None ≡ operation_from ws k (f ∷ fs)
  unfolding operation_from each_word word_then behind
  field_unread e = rw e (sym (if_same (eqb (k + suc (length fs)) 8) None))

  -- the word of a field goes behind those read
  moved : (w : ℕ) (o : Option (List ℕ)) → behind (ws ++ w ∷ []) o ≡ behind ws (word_then (Some w) o)
  unfolding behind word_then
  moved w None = refl
  moved w (Some xs) = ap Some (append_snoc ws w xs)

  pub field_read : (w : ℕ) → field_word k f ≡ Some w → operation_from (ws ++ w ∷ []) (k + 1) fs ≡ operation_from ws k (f ∷ fs)
  unfolding operation_from each_word
  field_read w e =
      let n : k + 1 + length fs ≡ k + suc (length fs) = omega arith in
      rw (e, n, add-one, moved w (each_word (suc k) fs))

-- the next field of a line, from some byte on
module _ (ws l : List ℕ) (from k n : ℕ) (e : n ≡ first_field (drop from l)) (h : n < length (drop from l)) where
  pub next_unread : field_word k (take n (drop from l)) ≡ None → None ≡ operation_from ws k (fields_of (drop from l))
  next_unread f =
      field_unread ws k (take n (drop from l)) (fields_of (drop (n + 1) (drop from l))) f
      ∙ ap (operation_from ws k) (sym (more_fields (drop from l) n e h))

  pub next_read : (w : ℕ) → field_word k (take n (drop from l)) ≡ Some w
      → operation_from (ws ++ w ∷ []) (k + 1) (fields_of (drop (from + n + 1) l)) ≡ operation_from ws k (fields_of (drop from l))
  next_read w f =
      let m : from + n + 1 ≡ from + (n + 1) = omega arith in
      rw (m, ← drop-drop (n + 1) from l)
      (field_read ws k (take n (drop from l)) (fields_of (drop (n + 1) (drop from l))) w f
      ∙ ap (operation_from ws k) (sym (more_fields (drop from l) n e h)))

-- the eighth
pub last_read : (ws l : List ℕ) (w : ℕ) → length l ≤ first_field l → field_word 7 l ≡ Some w
    → Some (ws ++ w ∷ []) ≡ operation_from ws 7 (fields_of l)
unfolding operation_from each_word word_then behind when◌then◌else◌
last_read ws l w h e = rw (one-field l h, e)

pub last_unread : (ws l : List ℕ) → length l ≤ first_field l → field_word 7 l ≡ None → None ≡ operation_from ws 7 (fields_of l)
last_unread ws l h e = field_unread ws 7 l [] e ∙ ap (operation_from ws 7) (sym (one-field l h))
