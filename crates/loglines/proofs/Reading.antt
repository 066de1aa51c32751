-- Lines read one after the other: the settings first, then operations, and nothing past a bad line. Rests on the definitions of
-- specs/Holding and specs/Inputs.
use Prim.Native.Nat.{ℕ, suc, ◌+◌, ◌*◌, ◌≤◌, ◌<◌}
use mathlib.Core.Path.{◌≡◌, refl, sym, ◌∙◌, ap}
use mathlib.Core.Bool.{Bool, true, false}
use mathlib.Core.List.{List, [], ◌∷◌, ◌++◌}
use Rattle.std.specs.Prelude.{Option, Some, None}
use native.Mathlib.Omega.{arith}
use native.Mathlib.Numerals.{add-one}
use lib.Dec.{leb}
use lib.ListN.{length, take, drop, length-append}
use lib.Seq.{length-take-le, take_all, take_at, take-append-le}
use borrow.Author.Tests.{eq-eqb, ne_eqb, lt-ltb, le-ltb, leb-true, leb-false}
use Rattle.machine.specs.Choice.{when◌then◌else◌}
use Rattle.lists.specs.Parts.{overlay}
use Rattle.lists.proofs.PartLaws.{length_overlay}
use Rattle.logs.specs.Log.{operation_words, greatest_word}
use Rattle.loglines.specs.declared.progress.Kept.{Kept}
use Rattle.loglines.specs.declared.progress.Progress.{Progress}
use Rattle.loglines.specs.Lines.{settings_line, operation_line}
use Rattle.loglines.specs.Inputs.{Input, unread, log, or_unread, read_operations, after_settings, read_lines}
use Rattle.loglines.specs.Holding.{kept_words, none_kept, kept_with, next_line, start, with_settings, with_operation, with_line, first_unread, kept_log, read_so_far}
use Rattle.loglines.proofs.Longest.{eight_words}
use Rattle.loglines.proofs.Streaming.{all_lines}

module _ (p : Progress) (l : List ℕ) where
  pub past_bad : p.bad ≡ true → p ≡ with_line p l
  unfolding with_line when◌then◌else◌
  past_bad e = rw e

  pub first_line : p.bad ≡ false → p.lines ≡ 0 → with_settings p (settings_line l) ≡ with_line p l
  unfolding with_line when◌then◌else◌
  first_line e f = rw (e, eq-eqb p.lines 0 f)

  pub later_line : p.bad ≡ false → (p.lines ≡ 0 → ⊥) → with_operation p (operation_line l) ≡ with_line p l
  unfolding with_line when◌then◌else◌
  later_line e f = rw (e, ne_eqb p.lines 0 f)

-- ---- what was read

module _ (p : Progress) where
  pub some_unread : (n : ℕ) → n ≡ first_unread p → 0 < n → read_so_far p ≡ unread n
  unfolding read_so_far when◌then◌else◌
  some_unread n e h = rw (← e, lt-ltb 0 n h)

  pub none_unread : (n : ℕ) → n ≡ first_unread p → n ≤ 0 → read_so_far p ≡ kept_log p
  unfolding read_so_far when◌then◌else◌
  none_unread n e h = rw (← e, le-ltb 0 n h)

-- ---- operations kept

-- the first words of ws, of whole operations, are kept: all of them, or kept_words
record Keeps (k : Kept) (ws : List ℕ) : Type 0 where
  room : length k.words ≡ kept_words
  filled : k.filled ≤ kept_words
  kept : take k.filled k.words ≡ take kept_words ws
  operations : ℕ
  whole : length ws ≡ operation_words * operations

keeps_none : Keeps none_kept []
unfolding none_kept
keeps_none = record { room = refl; filled = omega arith; kept = refl; operations = 0; whole = refl }

-- a run written behind what is kept
take_overlay : (l : List ℕ) (at : ℕ) (xs : List ℕ) → at + length xs ≤ length l → take (at + length xs) (overlay l at xs) ≡ take at l ++ xs
unfolding overlay
take_overlay l at xs h =
    take_at (take at l ++ xs) (drop (at + length xs) l) (at + length xs)
    (length-append (take at l) xs ∙ ap (λ (n : ℕ). n + length xs) (length-take-le at l (omega arith)))

module _ (k : Kept) (ws xs : List ℕ) (h : Keeps k ws) (e : length xs ≡ operation_words) where
  sizes : length (ws ++ xs) ≡ operation_words * suc h.operations
  sizes = length-append ws xs ∙ omega (arith, h.whole)

  count : k.filled ≡ length (take kept_words ws)
  count = sym (length-take-le k.filled k.words (omega (arith, h.room, h.filled))) ∙ ap length h.kept

  -- with room for one more, all are kept
  all_kept : k.filled + operation_words ≤ kept_words → (take kept_words ws ≡ ws) × (k.filled ≡ length ws)
  all_kept j = by (leb (length ws) kept_words) refl
    where
      by : (t : Bool) → leb (length ws) kept_words ≡ t → (take kept_words ws ≡ ws) × (k.filled ≡ length ws)
      by true f = let a = take_all kept_words ws (leb-true (length ws) kept_words f) in (a, count ∙ ap length a)
      by false f =
          let m = leb-false (length ws) kept_words f in
          absurd (omega (arith, count, length-take-le kept_words ws (omega arith)))

  -- without, as many as have room
  full : kept_words < k.filled + operation_words → kept_words ≤ length ws
  full j = by (leb (length ws) kept_words) refl
    where
      by : (t : Bool) → leb (length ws) kept_words ≡ t → kept_words ≤ length ws
      by true f =
          let a = ap length (take_all kept_words ws (leb-true (length ws) kept_words f)) in
          omega (arith, count, h.whole)
      by false f = let m = leb-false (length ws) kept_words f in omega arith

  keeps_next : Keeps (kept_with k xs) (ws ++ xs)
  unfolding kept_with when◌then◌else◌
  keeps_next = by (leb (k.filled + operation_words) kept_words) refl
    where
      by : (t : Bool) → leb (k.filled + operation_words) kept_words ≡ t
          → Keeps (when t then record { filled = k.filled + operation_words; words = overlay k.words k.filled xs } else k) (ws ++ xs)
      by true f =
          let j = leb-true (k.filled + operation_words) kept_words f in
          let a = all_kept j in
          let n = sizes in
          let r = h.room in
          let o = take_overlay k.words k.filled xs (omega arith) in
          record {
            room = length_overlay k.words k.filled xs (omega arith) ∙ h.room;
            filled = j;
            kept = rw e at o ∙ rw (h.kept, a.0) (sym (take_all kept_words (ws ++ xs) (omega (arith, a.1, h.whole))));
            operations = suc h.operations;
            whole = n;
          }
      by false f =
          let j = leb-false (k.filled + operation_words) kept_words f in
          record {
            room = h.room;
            filled = h.filled;
            kept = h.kept ∙ sym (take-append-le kept_words ws xs (full j));
            operations = suc h.operations;
            whole = sizes;
          }

-- ---- all lines

-- with the words that are kept
unfoldable pub kept_of : Input → Input
kept_of (unread line) = unread line
kept_of (log b M ws) = log b M (take kept_words ws)

bad_stays : (p : Progress) (ls : List (List ℕ)) → p.bad ≡ true → all_lines p ls ≡ p
unfolding all_lines
bad_stays p [] e = refl
bad_stays p (l ∷ ls) e = ap (λ (q : Progress). all_lines q ls) (sym (past_bad p l e)) ∙ bad_stays p ls e

bad_read : (p : Progress) (ls : List (List ℕ)) (n : ℕ) → p.bad ≡ true → p.lines ≡ suc n → read_so_far (all_lines p ls) ≡ unread (suc n)
unfolding first_unread when◌then◌else◌
bad_read p ls n e f =
    ap read_so_far (bad_stays p ls e)
    ∙ some_unread p (suc n) (sym (rw (ne_eqb p.lines 0 (λ z. omega arith), e) f)) (omega arith)

line_after : (n : ℕ) → n < greatest_word → next_line n ≡ suc n
unfolding next_line when◌then◌else◌
line_after n h = rw (lt-ltb n greatest_word h) (add-one n)

-- so many good lines were read, and the operations' words are ws
record Reads (p : Progress) (n : ℕ) (ws : List ℕ) : Type 0 where
  good : p.bad ≡ false
  lines : p.lines ≡ suc n
  keeps : Keeps p.kept ws

all_read : (p : Progress) (n : ℕ) (ws : List ℕ) → Reads p n ws → read_so_far p ≡ kept_of (log p.capacity p.depth ws)
unfolding first_unread kept_log kept_of when◌then◌else◌
all_read p n ws r =
    none_unread p 0 (sym (rw (ne_eqb p.lines 0 (λ z. omega (arith, r.lines)), r.good))) (omega arith)
    ∙ ap (log p.capacity p.depth) r.keeps.kept

operations_read : (p : Progress) (n : ℕ) (ws : List ℕ) (ls : List (List ℕ)) → Reads p n ws → suc n + length ls ≤ greatest_word
    → read_so_far (all_lines p ls) ≡ kept_of (read_operations p.capacity p.depth ws (suc (suc n)) ls)
unfolding all_lines read_operations with_operation or_unread kept_of
operations_read p n ws [] r h = all_read p n ws r
operations_read p n ws (l ∷ ls) r h =
    ap (λ (q : Progress). read_so_far (all_lines q ls)) (sym (later_line p l r.good (λ z. omega (arith, r.lines))))
    ∙ by (operation_line l) refl (λ q xs s. operations_read q (suc n) (ws ++ xs) ls s (omega arith))
  where
    line : next_line p.lines ≡ suc (suc n)
    line = line_after p.lines (omega (arith, r.lines)) ∙ ap suc r.lines

    by : (o : Option (List ℕ)) → operation_line l ≡ o
        → ((q : Progress) (xs : List ℕ) → Reads q (suc n) (ws ++ xs)
        → read_so_far (all_lines q ls) ≡ kept_of (read_operations q.capacity q.depth (ws ++ xs) (suc (suc (suc n))) ls))
        → read_so_far (all_lines (with_operation p o) ls)
        ≡ kept_of (or_unread (suc (suc n)) o (λ xs. read_operations p.capacity p.depth (ws ++ xs) (suc (suc (suc n))) ls))
    by None e ih = bad_read (with_operation p None) ls (suc n) refl line
    by (Some xs) e ih =
        ih (with_operation p (Some xs)) xs
        (record { good = refl; lines = line; keeps = keeps_next p.kept ws xs r.keeps (eight_words l xs e) })

pub lines_kept : (ls : List (List ℕ)) → length ls ≤ greatest_word → read_so_far (all_lines start ls) ≡ kept_of (read_lines ls)
unfolding read_lines after_settings all_lines start with_settings first_unread kept_of when◌then◌else◌
lines_kept [] h = some_unread start 1 refl (omega arith)
lines_kept (l ∷ ls) h =
    ap (λ (q : Progress). read_so_far (all_lines q ls)) (sym (first_line start l refl refl)) ∙ by (settings_line l)
  where
    by : (o : Option (ℕ × ℕ)) → read_so_far (all_lines (with_settings start o) ls) ≡ kept_of (after_settings o ls)
    by None = bad_read (with_settings start None) ls 0 refl refl
    by (Some (b, M)) =
        operations_read (with_settings start (Some (b, M))) 0 [] ls (record { good = refl; lines = refl; keeps = keeps_none }) (omega arith)
