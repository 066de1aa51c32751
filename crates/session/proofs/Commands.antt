-- Each kind of line on words is met as the script meets it, and leaves words that are the script's memory: opening, calls, runs, the
-- listing, and lines that are unread. Rests on the calls on words being answered as the machine answers them.
use Prim.Native.Nat.{ℕ, zero, suc, ◌^◌, ◌≤◌, ◌<◌}
use native.Mathlib.Omega.{arith}
use mathlib.Core.Path.{◌≡◌, refl, ap, ◌∙◌, subst⁻¹}
use mathlib.Core.Bool.{Bool, true, false, ◌||◌}
use mathlib.Core.List.{List, [], ◌++◌}
use lib.Dec.{ltb, leb}
use lib.ListN.{length}
use lib.IntN.{ℤ, pos}
use mir.Syntax.{w64}
use mir.Val.{SFits}
use mir.Facts.{sfits_lit}
use borrow.Author.Tests.{leb-true, leb-false}
use Rattle.interface.specs.Numbers.{number_of, kind_insert, kind_delete, kind_lookup, kind_post}
use Rattle.interface.specs.Limits.{in_range}
use Rattle.interface.specs.declared.Settings.{Settings}
use Rattle.interface.specs.declared.Refusal.{Refusal}
use Rattle.machine.specs.Choice.{when◌then◌else◌}
use Rattle.machine.specs.Sequential.{Table, having}
use Rattle.machine.specs.Records.{Machine, new_bucket, first_cells, opened}
use Rattle.fields.specs.Regions.{words_needed}
use Rattle.machine.specs.Calls.{settings, Opening, opens, refuses, opening, call, contents, listing_of, listing, lists, declines}
use Rattle.machine.specs.Systems.{calling, next}
use Rattle.machine.specs.Script as Script
use Rattle.machine.proofs.Openings.{opening_settings, opening_short, opening_opens}
use Rattle.machine.proofs.invariant.Tasks.{opened_good}
use Rattle.layout.specs.Shape.{strange, shape_of}
use Rattle.lists.specs.Parts.{overlay}
use Rattle.opening.specs.Opening.{open_words, fresh_words}
use Rattle.calls.specs.Calls.{call_words}
use Rattle.runs.specs.Runs.{run_words}
use Rattle.rows.specs.Rows.{rows}
use Rattle.replies.specs.declared.Reply.{Reply}
use Rattle.replies.specs.Printed.{printed, printed_reply, printed_rows, printed_end}
use Rattle.commands.specs.declared.Command.{Command}
use Rattle.commands.specs.Commands.{line_of}
use Rattle.lines.specs.Session.{told}
use Rattle.responses.specs.Responses.{of_done, of_ran, replying, responded}
use Rattle.responses.specs.Answers.{is_list}
use Rattle.texts.specs.Texts.{rows_text, listing_text, text_on, words_on}
use Rattle.simulation.proofs.OpeningMeans.{strange_never, shape_is, opened_means}
use Rattle.simulation.proofs.RowsMean.{rows_are}
use Rattle.simulation.proofs.Represents.{opened_as, open_alike, call_alike, represents_next}
use Rattle.session.proofs.Same.{Opened, Meant, Same, Alike}
use Rattle.simulation.proofs.lengths.CallLengths.{length_call, length_run, length_opened}
use Rattle.session.proofs.Lines.{If, Said}
use Rattle.session.proofs.Steps.{run_alike}
use Rattle.std.specs.Prelude.{Option, Some, None, Result, Ok, Err, ⊤}

-- a command that is no listing left the words x .0 and is met with x.1
record Replied (x : List ℕ × Reply) (y : Script.Response) : Type 0 where
  text : printed_reply x.1 ≡ printed y.reply
  count : length x.0 ≡ 8_192
  meant : Meant x.0 y.memory

-- ---- opening

fresh_meant : (l : List ℕ) (s : Settings) → in_range s.workers s.capacity s.depth ≡ true → words_needed s ≤ length l
    → Opened (overlay l 0 (fresh_words s)) s opened
unfolding opened first_cells new_bucket having
fresh_meant l s range enough = record {
  range = range;
  represents = record {
    means = opened_means s range l enough;
    good = opened_good s range;
    table = [];
    parts = record { ascending = tt; part = λ a. refl };
  };
}

module _ (l : List ℕ) (x : Script.Memory) (h : Same l x) where
  abbrev open_replied : Opening → Type 0
  open_replied o = Replied ((opened_as l o).0, of_done (opened_as l o).1) (Script.opening_response x o)

  open_refused : (o : Opening) (r : Refusal) → o ≡ refuses r → open_replied o
  unfolding of_done Script.opening_response printed_reply
  open_refused o r e = rw e (record { text = refl; count = h.count; meant = h.meant })

  open_accepted :
      (o : Opening) (s : Settings) → o ≡ opens s opened → in_range s.workers s.capacity s.depth ≡ true → words_needed s ≤ 8_192
      → open_replied o
  unfolding of_done Script.opening_response printed_reply
  open_accepted o s e range enough =
      let k = h.count in
      rw e (record { text = refl; count = length_opened l s (omega arith) ∙ k; meant = fresh_meant l s range (omega arith) })

  open_cases : (n b M : ℕ) → open_replied (opening n b M 8_192)
  open_cases n b M = by (in_range n b M) refl (leb (words_needed (settings n b M)) 8_192) refl
    where
      by : (r : Bool) → in_range n b M ≡ r → (w : Bool) → leb (words_needed (settings n b M)) 8_192 ≡ w → open_replied (opening n b M 8_192)
      by true e true f =
          let enough = leb-true (words_needed (settings n b M)) 8_192 f in
          open_accepted _ (settings n b M) (opening_opens n b M 8_192 e enough) e enough
      by true e false f = open_refused _ Refusal.Short (opening_short n b M 8_192 e (leb-false _ _ f))
      by false e w f = open_refused _ Refusal.Settings (opening_settings n b M 8_192 e)

  open-replied : (n b M : ℕ) → Replied (replying of_done (open_words l n b M)) (Script.opening_response x (opening n b M 8_192))
  unfolding replying
  open-replied n b M =
      let e : open_words l n b M ≡ opened_as l (opening n b M 8_192) =
      open_alike l n b M ∙ ap (λ (k : ℕ). opened_as l (opening n b M k)) h.count in
      subst⁻¹ (λ y. Replied (y.0, of_done y.1) (Script.opening_response x (opening n b M 8_192))) e (open_cases n b M)

-- ---- calls

module _ (l : List ℕ) (count : length l ≡ 8_192) (w kind a : ℕ) (v : ℤ) where
  strange_call : strange l ≡ true
      → Replied (replying of_done (call_words l w kind a v))
      (record { memory = Script.zeros; reply = Script.refused (number_of Refusal.Strange) })
  unfolding replying call_words of_done printed_reply when◌then◌else◌
  strange_call e = rw e (record { text = refl; count = count; meant = e })

  module _ (s : Settings) (m : Machine) (h : Opened l s m) (narrow : a < 2 ^ 32) (fits : SFits w64 v) where
    call_text : (x y : Result ⊤ Refusal) → x ≡ y → printed_reply (of_done x) ≡ printed (Script.call_response s (call s m w kind a v).0 y).reply
    unfolding of_done Script.call_response printed_reply
    call_text x (Ok _) e = rw e
    call_text x (Err r) e = rw e

    call_memory : (y : Result ⊤ Refusal) → (Script.call_response s (call s m w kind a v).0 y).memory ≡ Script.holding s (call s m w kind a v).0
    unfolding Script.call_response
    call_memory (Ok _) = refl
    call_memory (Err r) = refl

    call_represents : Opened (call_words l w kind a v).0 s (call s m w kind a v).0
    unfolding next
    call_represents =
        record { range = h.range; represents = represents_next s h.range l m h.represents (calling w kind a v) (narrow, fits) tt }

    call_replied :
        Replied (replying of_done (call_words l w kind a v)) (Script.call_response s (call s m w kind a v).0 (call s m w kind a v).1)
    unfolding replying
    call_replied = record {
      text = call_text _ _ (call_alike s h.range l m h.represents w kind a v narrow fits).1;
      count = length_call l w kind a v ∙ count;
      meant = subst⁻¹ (Meant (call_words l w kind a v).0) (call_memory (call s m w kind a v).1) call_represents;
    }

-- ---- runs

module _ (l : List ℕ) (count : length l ≡ 8_192) (w : ℕ) where
  strange_run : (k : ℕ) → strange l ≡ true
      → Replied (replying of_ran (run_words l w k)) (record { memory = Script.zeros; reply = Script.refused (number_of Refusal.Strange) })
  unfolding replying run_words of_ran printed_reply when◌then◌else◌
  strange_run k e = rw e (record { text = refl; count = count; meant = e })

  run_replied :
      (s : Settings) (m : Machine) → Opened l s m → (k : ℕ) → 1 ≤ k → Replied (replying of_ran (run_words l w k)) (Script.steps s w 0 k m)
  unfolding replying
  run_replied s m h zero more = absurd (omega arith)
  run_replied s m h (suc k) more =
      let r = run_alike s h.range w l m h.represents k in
      record {
        text = r.text;
        count = length_run l w (suc k) ∙ count;
        meant = subst⁻¹ (Meant (run_words l w (suc k)).0) r.memory (record { range = h.range; represents = r.represents });
      }

-- ---- the listing

rows_printed :
    (s : Settings) (m : Machine) (t : Table) (x y : ℕ) → rows_text x y t ≡ printed (Script.listing_response s m (listing_of t x y)).reply
unfolding rows_text listing_of Script.listing_response printed_reply printed when◌then◌else◌
rows_printed s m t x y = by (ltb x (length t) || ltb y (length t))
  where
    by : (b : Bool) → when b then printed (Script.refused (number_of Refusal.Narrow)) else printed_rows t ++ printed_end (length t)
        ≡ printed (Script.listing_response s m (when b then declines Refusal.Narrow else lists t)).reply
    by true = refl
    by false = refl

listing_memory :
    (s : Settings) (m : Machine) (t : Table) (x y : ℕ) → (Script.listing_response s m (listing_of t x y)).memory ≡ Script.holding s m
unfolding listing_of Script.listing_response when◌then◌else◌
listing_memory s m t x y = by (ltb x (length t) || ltb y (length t))
  where
    by : (b : Bool) → (Script.listing_response s m (when b then declines Refusal.Narrow else lists t)).memory ≡ Script.holding s m
    by true = refl
    by false = refl

strange_listing : (l : List ℕ) (x y : ℕ) → strange l ≡ true → listing_text l x y ≡ printed (Script.refused (number_of Refusal.Strange))
unfolding listing_text printed_reply when◌then◌else◌
strange_listing l x y e = rw e

module _ (l : List ℕ) (s : Settings) (m : Machine) (h : Opened l s m) (x y : ℕ) where
  shown_rows : rows l (shape_of l) ≡ contents m
  shown_rows = let k = h.represents in
      ap (rows l) (shape_is s h.range l m k.means) ∙ rows_are s h.range l m k.means k.good k.table k.parts

  listing-text : listing_text l x y ≡ printed (Script.listing_response s m (listing m x y)).reply
  unfolding listing_text listing when◌then◌else◌
  listing-text =
      let e : listing_text l x y ≡ rows_text x y (rows l (shape_of l)) = rw (strange_never s h.range l m h.represents.means) in
      e ∙ ap (rows_text x y) shown_rows ∙ rows_printed s m (contents m) x y

-- ---- one line

alike_replied : (l : List ℕ) (x : Script.Memory) (c : Command) (y : Script.Response) → is_list c ≡ false
    → told x (Some (line_of c)) ≡ record { memory = y.memory; text = printed y.reply } → Replied (responded l (Some c)) y → Alike l x (Some c)
unfolding text_on words_on when◌then◌else◌
alike_replied l x c y other e r = record {
  text = rw (other, e) r.text;
  next = record { count = rw other r.count; meant = rw (other, e) r.meant };
}

module _ (l : List ℕ) where
  alike_open : (x : Script.Memory) (n b M : ℕ) → Same l x → Alike l x (Some (Command.Open n b M))
  unfolding is_list told line_of Script.response_to responded
  alike_open x n b M h = alike_replied l x _ (Script.opening_response x (opening n b M 8_192)) refl refl (open-replied l x h n b M)

  alike_insert : (x : Script.Memory) (w a : ℕ) (v : ℤ) → a < 2 ^ 32 → SFits w64 v → Same l x → Alike l x (Some (Command.Insert w a v))
  unfolding is_list told line_of Script.response_to responded
  alike_insert Script.zeros w a v k f h = alike_replied l _ _ _ refl refl (strange_call l h.count w kind_insert a v h.meant)
  alike_insert (Script.holding s m) w a v k f h =
      alike_replied l _ _ _ refl refl (call_replied l h.count w kind_insert a v s m h.meant k f)

  alike_delete : (x : Script.Memory) (w a : ℕ) → a < 2 ^ 32 → Same l x → Alike l x (Some (Command.Delete w a))
  unfolding is_list told line_of Script.response_to responded
  alike_delete Script.zeros w a k h = alike_replied l _ _ _ refl refl (strange_call l h.count w kind_delete a (pos 0) h.meant)
  alike_delete (Script.holding s m) w a k h =
      alike_replied l _ _ _ refl refl (call_replied l h.count w kind_delete a (pos 0) s m h.meant k (sfits_lit tt))

  alike_lookup : (x : Script.Memory) (w a : ℕ) → a < 2 ^ 32 → Same l x → Alike l x (Some (Command.Lookup w a))
  unfolding is_list told line_of Script.response_to responded
  alike_lookup Script.zeros w a k h = alike_replied l _ _ _ refl refl (strange_call l h.count w kind_lookup a (pos 0) h.meant)
  alike_lookup (Script.holding s m) w a k h =
      alike_replied l _ _ _ refl refl (call_replied l h.count w kind_lookup a (pos 0) s m h.meant k (sfits_lit tt))

  alike_post : (x : Script.Memory) (w a : ℕ) (v : ℤ) → a < 2 ^ 32 → SFits w64 v → Same l x → Alike l x (Some (Command.Post w a v))
  unfolding is_list told line_of Script.response_to responded
  alike_post Script.zeros w a v k f h = alike_replied l _ _ _ refl refl (strange_call l h.count w kind_post a v h.meant)
  alike_post (Script.holding s m) w a v k f h =
      alike_replied l _ _ _ refl refl (call_replied l h.count w kind_post a v s m h.meant k f)

  alike_steps : (x : Script.Memory) (w k : ℕ) → 1 ≤ k → Same l x → Alike l x (Some (Command.Steps w k))
  unfolding is_list told line_of Script.response_to responded
  alike_steps Script.zeros w k more h = alike_replied l _ _ _ refl refl (strange_run l h.count w k h.meant)
  alike_steps (Script.holding s m) w k more h =
      alike_replied l _ _ (Script.steps s w 0 k m) refl refl (run_replied l h.count w s m h.meant k more)

  alike_listing : (x : Script.Memory) → Same l x → Alike l x (Some Command.List)
  unfolding is_list told line_of Script.response_to text_on words_on listing when◌then◌else◌
  alike_listing Script.zeros h = record { text = strange_listing l 4_096 4_096 h.meant; next = h }
  alike_listing (Script.holding s m) h = record {
    text = listing-text l s m h.meant 4_096 4_096;
    next = record { count = h.count; meant = subst⁻¹ (Meant l) (listing_memory s m (contents m) 4_096 4_096) h.meant };
  }

  alike_unread : (x : Script.Memory) → Same l x → Alike l x None
  unfolding told text_on words_on printed_reply
  alike_unread x h = record { text = refl; next = h }

  -- every line that can be read, and every one that cannot
  pub alike : (x : Script.Memory) (c : Option Command) → If Said c → Same l x → Alike l x c
  alike x (Some (Command.Open n b M)) said h = alike_open x n b M h
  alike x (Some (Command.Insert w a v)) said h = alike_insert x w a v said.0 said.1 h
  alike x (Some (Command.Delete w a)) said h = alike_delete x w a said h
  alike x (Some (Command.Lookup w a)) said h = alike_lookup x w a said h
  alike x (Some (Command.Post w a v)) said h = alike_post x w a v said.0 said.1 h
  alike x (Some (Command.Steps w k)) said h = alike_steps x w k said h
  alike x (Some Command.List) said h = alike_listing x h
  alike x None said h = alike_unread x h
