-- `carry_own` settles the ticket as crowded where a new account finds its bucket full, and else does what the update does.
-- Rests on the laws of an update carried out.
use Prim.Native.Nat.{ℕ}
use native.Mathlib.Omega.{arith}
use mathlib.Core.Path.{◌≡◌, refl, sym, ◌∙◌, ap}
use mathlib.Core.Logic.{◌⊎◌, inl, inr}
use Rattle.interface.specs.Numbers.{kind_insert, kind_post}
use Rattle.rules.specs.Rules.{crowded_by, insert_answer}
use Rattle.record.specs.Bucket.{bucket_at}
use Rattle.rounds.specs.Rounds.{changed_of, carry_of}
use Rattle.rounds.proofs.Laws.{change_insert, carry_crowded, carry_changed}
use Rattle.inplace.specs.InPlace.{RoomAt, Searched, record_as, put_at, changed_at, own_at}
use Rattle.inplace.proofs.OwnUpdate.{start, room_at}
use Rattle.carrying.proofs.carry_own.Goals as goal
use Rattle.carrying.proofs.carry_own.Goals.{After-crowded, After-search_own-p, Else-crowded}

-- the position that was found is where the update belongs
found :
    (c : After-search_own-p) → let s = c.args in
    Searched s.words.now s.g s.q s.c s.j c.search_own-p.result s.u
found c = let known = c.requires in (known.0, (known.1, c.search_own-p.ensures))

-- an insert or a post that is not crowded has room
room :
    (c : Else-crowded) → let s = c.args in
    (s.u.kind ≡ kind_insert) ⊎ (s.u.kind ≡ kind_post) → RoomAt s.g s.c c.search_own-p.result
room c k = room_at _ _ _ _ k (sym c.crowded.ensures ∙ c.if-crowded.false)

pub put_own-requires : goal.put_own-requires
put_own-requires c =
    (found (goal.at.put_own-requires c).After-search_own-p, room (goal.at.put_own-requires c).Else-crowded (inl c.in-1.is))

pub post_own-requires : goal.post_own-requires
post_own-requires c =
    (found (goal.at.post_own-requires c).After-search_own-p, (room (goal.at.post_own-requires c).Else-crowded (inr c.in-4.is), c.in-4.is))

pub delete_own-requires : goal.delete_own-requires
delete_own-requires c =
    (found (goal.at.delete_own-requires c).After-search_own-p, ((λ e. omega arith), (λ e. omega arith)))

-- whether the update is crowded, by the accounts of the record's state
crowded_is :
    (c : After-crowded) → let s = c.args in
    crowded_by s.g (bucket_at s.words.now s.g s.q).count s.u.kind c.search_own-p.result ≡ c.crowded.result
crowded_is c =
    let s = c.args in
    let y = start s.words.now s.g s.q s.c c.requires.0 in
    ap (λ (k : ℕ). crowded_by s.g k s.u.kind c.search_own-p.result) (sym y.counted) ∙ sym c.crowded.ensures

-- an update that is not crowded does what it does
changed_is :
    (c : Else-crowded) → let s = c.args in
    let x = bucket_at s.words.now s.g s.q in
    changed_of x s.j c.search_own-p.result s.u ≡ carry_of x s.g s.j s.u
changed_is c =
    let s = c.args in
    carry_changed (bucket_at s.words.now s.g s.q) s.j _ s.u s.g c.search_own-p.ensures
    (crowded_is (goal.at.Else-crowded c).After-crowded ∙ c.if-crowded.false)

pub returns-then-crowded : goal.returns-then-crowded
unfolding own_at
returns-then-crowded c =
    let s = c.args in
    c.settle_own.ensures
    ∙ ap (record_as s.words.now s.g s.q s.toggle)
    (carry_crowded (bucket_at s.words.now s.g s.q) s.j _ s.u s.g c.search_own-p.ensures
    (crowded_is (goal.at.returns-then-crowded c).After-crowded ∙ c.if-crowded.true))

pub returns-in-1 : goal.returns-in-1
unfolding put_at own_at insert_answer
returns-in-1 c =
    let s = c.args in
    c.put_own.ensures
    ∙ ap (record_as s.words.now s.g s.q s.toggle)
    (change_insert _ s.j _ s.u _ _ c.in-1.is refl c.answer_number-answer.ensures ∙ changed_is (goal.at.returns-in-1 c).Else-crowded)

pub returns-in-4 : goal.returns-in-4
unfolding changed_at own_at
returns-in-4 c =
    let s = c.args in
    c.post_own.ensures ∙ ap (record_as s.words.now s.g s.q s.toggle) (changed_is (goal.at.returns-in-4 c).Else-crowded)

pub returns-in_default : goal.returns-in_default
unfolding changed_at own_at
returns-in_default c =
    let s = c.args in
    c.delete_own.ensures ∙ ap (record_as s.words.now s.g s.q s.toggle) (changed_is (goal.at.returns-in_default c).Else-crowded)
