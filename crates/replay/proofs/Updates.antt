-- An update on a table by its answer, and on the part of the table that holds its account alone. Rests on the laws of tables.
use Prim.Native.Nat.{ℕ, ◌+◌}
use mathlib.Core.Path.{◌≡◌, refl, sym, ap, ◌∙◌}
use mathlib.Core.Bool.{Bool, true, false}
use mathlib.Core.List.{[], ◌∷◌}
use Rattle.std.specs.Prelude.{Option, Some, None}
use lib.IntN.{ℤ, ◌+ℤ◌}
use Rattle.interface.specs.Numbers.{answer_number}
use Rattle.interface.specs.declared.Answer.{Answer}
use Rattle.interface.specs.declared.Answer.TheVariants.{Added, Replaced, Removed, Absent, Posted, Crowded, Overrun}
use Rattle.machine.specs.Choice.{when◌then◌else◌, ◌and◌}
use Rattle.machine.specs.Sequential.{Update, insert, delete, post, account, update, Table, find, put, remove, present, total_or0, is_total, sum, result, changed, is_none, creates, tried, Ascending}
use Rattle.machine.proofs.laws.Base.{if_elim₂, eq_elim, if_eq, if_ne, none_some}
use Rattle.machine.proofs.laws.Tables.{find_changed_at, total_after}
use Rattle.memory.proofs.Totals.{total_back}
use Rattle.sums.proofs.Ranges.{fits_total}
use Rattle.report.specs.Report.{answer_base}
use Rattle.replay.specs.Replay.{alone, served_alone, is_still}
use Rattle.replay.proofs.Counts.{Kept, with_total}

-- ---- an update on a table, by its answer

remove_missing : (t : Table) (a : ℕ) → find t a ≡ None → remove t a ≡ t
unfolding find remove
remove_missing [] a h = refl
remove_missing (e ∷ t) a h =
    eq_elim (λ (z : Table). z ≡ e ∷ t) e.0 a t (e ∷ remove t a)
    (λ q. absurd (none_some h (if_eq e.0 a (Some e.1) (find t a) q)))
    (λ n. ap (λ (z : Table). e ∷ z) (remove_missing t a (sym (if_ne e.0 a (Some e.1) (find t a) n) ∙ h)))

-- the total that an update sets comes back from its word
abbrev pub KeptBy : Update → Type 0
KeptBy (insert a v) = Kept (Some v)
KeptBy (delete a) = Unit {0}
KeptBy (post a v) = Unit {0}

-- the answer says that the table stayed as it was
abbrev pub says_still : Answer → Bool
says_still r = is_still (answer_base + answer_number r)

-- where the answer says so, the table stays; else the account has another total, or is taken out
module _ (P : Answer × Table → Type 0) (t : Table)
    (stays : (r : Answer) → says_still r ≡ true → P (r, t)) where
  pub changed_elim :
      (u : Update) → KeptBy u
      → ((r : Answer) (s : Option ℤ) → says_still r ≡ false → Kept s → P (r, with_total t (account u) s))
      → P (result u t, changed u t)
  unfolding result changed is_still when◌then◌else◌ present
  changed_elim (insert a v) k sets = go (find t a)
    where
      go : (o : Option ℤ) → P (present o Replaced Added, put t a v)
      go None = sets Added (Some v) refl k
      go (Some w) = sets Replaced (Some v) refl k
  changed_elim (delete a) k sets = go (find t a) refl
    where
      go : (o : Option ℤ) → find t a ≡ o → P (present o Removed Absent, remove t a)
      go None e = rw (remove_missing t a e) (stays Absent refl)
      go (Some w) e = sets Removed None refl tt
  changed_elim (post a v) k sets =
      let z : ℤ = sum t a v in
      if_elim₂ (λ r y. P (r, y)) (is_total z) (Posted z) Overrun (put t a z) t
      (λ e. sets (Posted z) (Some z) refl (total_back z (fits_total z e))) (λ e. stays Overrun refl)

-- ---- an update on tables with the same total at its account

creates_same : (u : Update) (t t' : Table) → find t (account u) ≡ find t' (account u) → creates u t ≡ creates u t'
unfolding creates
creates_same (insert a v) t t' e = ap is_none e
creates_same (delete a) t t' e = refl
creates_same (post a v) t t' e = ap is_none e

result_same : (u : Update) (t t' : Table) → find t (account u) ≡ find t' (account u) → result u t ≡ result u t'
unfolding result sum
result_same (insert a v) t t' e = ap (λ (o : Option ℤ). present o Replaced Added) e
result_same (delete a) t t' e = ap (λ (o : Option ℤ). present o Removed Absent) e
result_same (post a v) t t' e =
    ap (λ (o : Option ℤ). when is_total (total_or0 o +ℤ v) then Posted (total_or0 o +ℤ v) else Overrun) e

-- the answer, and the total afterwards
abbrev pub served : ℕ → Answer × Table → Answer × Option ℤ
served a r = (r.0, find r.1 a)

tried_same :
    (c : Bool) (u : Update) (t t' : Table) → Ascending t → Ascending t' → find t (account u) ≡ find t' (account u)
    → served (account u) (tried c u t) ≡ served (account u) (tried c u t')
unfolding tried when◌then◌else◌
tried_same c u t t' h h' e =
    ap (λ (d : Bool). served a (when c and d then (Crowded, t) else (result u t, changed u t))) (creates_same u t t' e)
    ∙ go (c and creates u t')
  where
    a : ℕ
    a = account u

    after : find (changed u t) a ≡ find (changed u t') a
    after = find_changed_at u t h ∙ ap (total_after u) e ∙ sym (find_changed_at u t' h')

    go :
        (d : Bool)
        → served a (when d then (Crowded, t) else (result u t, changed u t))
        ≡ served a (when d then (Crowded, t') else (result u t', changed u t'))
    go true = λ i. (Crowded, e i)
    go false = λ i. (result_same u t t' e i, after i)

pub alone_same : (c : Bool) (u : Update) (t : Table) (s : Option ℤ) → Ascending t → find t (account u) ≡ s
    → served_alone c (update u) s ≡ served (account u) (tried c u t)
unfolding served_alone alone find
alone_same c u t s h e = tried_same c u (alone (account u) s) t (ascending s) h (found s ∙ sym e)
  where
    ascending : (s : Option ℤ) → Ascending (alone (account u) s)
    ascending None = tt
    ascending (Some v) = (tt, tt)

    found : (s : Option ℤ) → find (alone (account u) s) (account u) ≡ s
    found None = refl
    found (Some v) = if_eq (account u) (account u) (Some v) None refl
