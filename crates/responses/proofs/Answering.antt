-- A command answered: a listing, or a reply; the used bytes stay bytes of the buffer. Rests on the definitions of specs/Answers.
use Prim.Native.Nat.{ℕ}
use mathlib.Core.Path.{◌≡◌, refl}
use mathlib.Core.Bool.{false}
use mathlib.Core.List.{List}
use Rattle.std.specs.Prelude.{Option, Some, None}
use Rattle.machine.specs.Choice.{when◌then◌else◌}
use Rattle.machine.proofs.laws.Base.{if_elim}
use Rattle.commands.specs.declared.Command.{Command}
use Rattle.replies.specs.declared.Reply.{Reply}
use Rattle.replies.specs.Printed.{printed_reply}
use Rattle.outputs.specs.Outputs.{Output, emitted, DriverState, listed_as, listed}
use Rattle.outputs.proofs.Within.{Within, put_within, listing_within}
use Rattle.responses.specs.Responses.{responded}
use Rattle.responses.specs.Answers.{replied_as, is_list, answered}

pub answered_list : (s : DriverState) (c : Option Command) (x : DriverState) → c ≡ Some Command.List → x ≡ listed s → x ≡ answered s c
unfolding answered is_list when◌then◌else◌
answered_list s c x e g = rw e g

pub answered_unread : (s : DriverState) (c : Option Command) (o : Output) → c ≡ None → o ≡ emitted s.output (printed_reply Reply.Unread)
    → ◌≡◌ {A = DriverState} (record { words = s.words; accounts = s.accounts; totals = s.totals; output = o }) (answered s c)
unfolding answered replied_as
answered_unread s c o e h = rw (e, h)

-- a command that is no listing
pub no_list : (c : Command) → (c ≡ Command.List → ⊥) → is_list c ≡ false
unfolding is_list
no_list (Command.Open n b M) h = refl
no_list (Command.Insert w a t) h = refl
no_list (Command.Delete w a) h = refl
no_list (Command.Lookup w a) h = refl
no_list (Command.Post w a v) h = refl
no_list (Command.Steps w k) h = refl
no_list Command.List h = absurd (h refl)

pub answered_reply : (s : DriverState) (c : Option Command) (d : Command) (l : List ℕ) (r : Reply) (o : Output) → c ≡ Some d → (d ≡ Command.List → ⊥)
    → ◌≡◌ {A = List ℕ × Reply} (l, r) (responded s.words (Some d)) → o ≡ emitted s.output (printed_reply r)
    → ◌≡◌ {A = DriverState} (record { words = l; accounts = s.accounts; totals = s.totals; output = o }) (answered s c)
unfolding answered replied_as when◌then◌else◌
answered_reply s c d l r o e f g h = rw (e, no_list d f, ← g, h)

pub answered_within : (s : DriverState) (c : Option Command) → Within s.output → Within (answered s c).output
unfolding answered listed listed_as replied_as
answered_within s None w = put_within s.output _ w
answered_within s (Some c) w =
    if_elim (λ (t : DriverState). Within t.output) _ _ _ (λ e. listing_within s.output _ _ _ w) (λ e. put_within s.output _ w)
