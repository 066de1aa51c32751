-- A call's answer turned into a reply, its words kept. Rests on the definitions of specs/Responses.
use Prim.Native.Nat.{ℕ}
use mathlib.Core.Path.{◌≡◌}
use mathlib.Core.List.{List}
use Rattle.replies.specs.declared.Reply.{Reply}
use Rattle.responses.specs.Responses.{replying}

pub replied : {A : Type 0} (f : A → Reply) (l : List ℕ) (a : A) (r : Reply) (x : List ℕ × A) → ◌≡◌ {A = List ℕ × A} (l, a) x → r ≡ f a
    → ◌≡◌ {A = List ℕ × Reply} (l, r) (replying f x)
unfolding replying
replied f l a r x e g = rw (← e, g)
