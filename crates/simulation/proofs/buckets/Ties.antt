-- A state means the machine's bucket: an update carried out, a round and the half of a split on the state mean the machine's.
-- Rests on what the definitions do to a state's table.
use Prim.Native.Nat.{ℕ, zero, suc, ◌*◌, ◌/◌, ◌%◌, ◌^◌, ◌≤◌, ◌<◌}
use native.Mathlib.Omega.{arith}
use native.Mathlib.Nat.{mod-lt, zero-div}
use mathlib.Core.Path.{◌≡◌, refl, ap, ap₂, sym, ◌∙◌, subst}
use mathlib.Core.Logic.{◌≢◌}
use mathlib.Core.Bool.{Bool, true, false, not, xor}
use mathlib.Core.List.{List}
use Rattle.std.specs.Prelude.{None, Some}
use lib.Dec.{ltb, leb, eqb}
use lib.IntN.{ℤ}
use mir.Syntax.{w64}
use mir.Val.{of_z}
use mir.Facts.{to_z-of_z, Fits-of_z}
use lib.ListN.{length, get_or, set, length-set}
use borrow.Author.Tests.{leb-true, leb-false, le-ltb, lt-ltb}
use lib.Seq.{get_or-set_same, get_or-set_other}
use Rattle.interface.specs.Numbers.{kind_none, kind_insert, kind_post, answer_total, answer_number}
use Rattle.interface.specs.declared.Answer.{Answer}
use Rattle.interface.specs.declared.Answer.TheVariants.{Added, Replaced, Removed, Absent, Found, Posted, Crowded, Overrun}
use Rattle.interface.specs.declared.Answer.TheVariants as Answer
use Rattle.interface.specs.declared.Settings.{Settings}
use Rattle.fields.specs.Fields.{slot_size}
use Rattle.machine.specs.Choice.{when◌then◌else◌, ◌and◌}
use Rattle.machine.specs.Sequential.{Table, Update, insert, delete, post, present, total_or0, is_total, sum, result, changed, creates, tried, find, put, having}
use Rattle.machine.specs.Records.{Name, Settled, Body, State, Slot, empty, announced, no_bits}
use Rattle.machine.specs.BucketPass.{full, splittable, holds_back, settled_at, carry_out, pending, help, helped, next_state}
use Rattle.machine.specs.DirectoryPass.{half}
use Rattle.machine.proofs.laws.Base.{no_both, is_false, if_true, if_false, eq_elim, and_right, assign_elim}
use Rattle.machine.proofs.laws.Resolve.{SettledChange, settled_same, settled_new, calls, helped_ok}
use Rattle.bucket.specs.declared.BucketState.{BucketState}
use Rattle.rules.specs.declared.Descriptor.{Descriptor}
use Rattle.arrays.specs.declared.Position.{Position}
use Rattle.arrays.specs.declared.Position.TheVariants.{At, Before}
use Rattle.bucket.specs.State.{array_size, size_of, search_of, total_in, put_of, remove_of, settle_of}
use Rattle.sums.specs.Sums.{added, sum_of}
use Rattle.sums.proofs.Ranges.{fits_total}
use Rattle.rounds.specs.Rounds.{posted_of, post_of, changed_of, carry_of, help_of, helped_of, with_applied, round_of}
use Rattle.halves.specs.Halves.{half_of}
use Rattle.rules.specs.Rules.{full_by, splittable_by, holds_back_by, descriptor_in, creates_by, crowded_by, answer_by, insert_answer, delete_answer, posted_number, bit, pending_by, answer_of}
use Rattle.simulation.specs.Buckets.{signed, items_of, total_at, settled_of, bits_of, update_from, slot_from, slot_of, SoundSlots, Means}
use Rattle.rules.proofs.Laws.{pending_settled}
use Rattle.rounds.proofs.Laws.{help_left}
use Rattle.simulation.proofs.buckets.Items.{Becomes, stays_as, find_search, put_becomes, remove_becomes, sound_applied, half_becomes, length_items}

-- ---- answers

-- every answer without a total is read back from its number
pub answer_back : (a : Answer) (total : ℕ) → answer_total a ≡ None → answer_of (answer_number a) total ≡ a
unfolding answer_of answer_total when◌then◌else◌
answer_back Added total e = refl
answer_back Replaced total e = refl
answer_back Removed total e = refl
answer_back Absent total e = refl
answer_back (Found v) total e = cc
answer_back Answer.None total e = refl
answer_back (Posted v) total e = cc
answer_back Crowded total e = refl
answer_back Overrun total e = refl

-- ---- an update carried out

-- the number of an answer, by the position that was found, stands for the machine's answer
insert-answer :
    (x : BucketState) (p : Position) (a : ℕ) (z : ℤ) (t : Table) → find t a ≡ total_at x p
    → answer_of (insert_answer p) 0 ≡ result (insert a z) t
unfolding answer_of insert_answer answer_by result total_at present when◌then◌else◌
insert-answer x (At i) a z t h = rw h
insert-answer x (Before i) a z t h = rw h

delete-answer :
    (x : BucketState) (p : Position) (a : ℕ) (t : Table) → find t a ≡ total_at x p → answer_of (delete_answer p) 0 ≡ result (delete a) t
unfolding answer_of delete_answer answer_by result total_at present when◌then◌else◌
delete-answer x (At i) a t h = rw h
delete-answer x (Before i) a t h = rw h

-- the amount of word v added to what was found is the machine's sum
sum_is :
    (x : BucketState) (p : Position) (a v : ℕ) (t : Table) → find t a ≡ total_at x p → sum t a (signed v) ≡ added (total_in x p) v
unfolding sum total_or0 total_at total_in added signed
sum_is x (At i) a v t h = rw h
sum_is x (Before i) a v t h = rw h

-- the machine's state with another body
abbrev pub with_body : State → Body → State
with_body y b = record { body = b; applied = y.applied }

-- an insert or a post whose account was not found is a new account
creates_is :
    (x : BucketState) (p : Position) (kind a : ℕ) (z : ℤ) (t : Table) → find t a ≡ total_at x p
    → creates_by kind p ≡ creates (when eqb kind kind_insert then insert a z else when eqb kind kind_post then post a z else delete a) t
unfolding creates_by creates total_at when◌then◌else◌
creates_is x p kind a z t = go p (eqb kind kind_insert) (eqb kind kind_post) refl refl
  where
    go :
        (p : Position) (b c : Bool) → eqb kind kind_insert ≡ b → eqb kind kind_post ≡ c → find t a ≡ total_at x p
        → creates_by kind p ≡ creates (when b then insert a z else when c then post a z else delete a) t
    go (At i) true c e f h = rw h
    go (At i) false true e f h = rw h
    go (At i) false false e f h = refl
    go (Before i) true c e f h = rw (e, h)
    go (Before i) false true e f h = rw (e, f, h)
    go (Before i) false false e f h = rw (e, f)

-- the bucket is full, is to be split, holds updates back where the machine's does
module _ (s : Settings) (x : BucketState) (y : State) (n : ℕ) (m : Means x y n) where
  pub full_means : full_by s x.count ≡ full s y.body
  unfolding full_by full
  full_means = ap (leb s.capacity) (sym (length_items x m.sound) ∙ ap length m.items)

  pub splittable_means : (d : ℕ) → splittable_by s d x.count ≡ splittable s d y.body
  unfolding splittable_by splittable
  splittable_means d = ap (λ (b : Bool). b and ltb d s.depth) full_means

  pub holds_back_means : (d : ℕ) → holds_back_by s d x.count ≡ holds_back s d y.body
  unfolding holds_back_by holds_back
  holds_back_means = splittable_means

module _ (s : Settings) (narrow : s.capacity ≤ array_size) (x : BucketState) (y : State) (n : ℕ) (few : n ≤ array_size)
    (m : Means x y n) where
  -- z is x with the table that trying update u makes of it; then its ticket is settled with the answer of number k and total v
  settle_means :
      (z : BucketState) (u : Update) (j t k v : ℕ) (r : Answer × Table) → tried (full_by s x.count) u (items_of x) ≡ r
      → Becomes x r.1 z → answer_of k v ≡ r.0 → Means (settle_of z j t k v) (with_body y (carry_out s j u t y.body)) n
  unfolding settle_of carry_out items_of size_of settled_of
  settle_means z u j t k v r tries h told =
      record {
        sound = record {
          count = h.sound.count;
          accounts = h.sound.accounts;
          totals = h.sound.totals;
          settled = length-set z.settled j t ∙ h.sound.settled;
          answers = length-set z.answers j k ∙ h.sound.answers;
          posted = length-set z.posted j v ∙ h.sound.posted;
          ascending = h.sound.ascending;
          narrow = h.sound.narrow;
          fits = h.sound.fits;
        };
        items = h.items ∙ ap (λ (q : Answer × Table). q.1) same;
        settled = λ i l. assign_elim (λ (e : Settled). settled_of (settle_of z j t k v) i ≡ e) y.body.settled j _ i (own i l) (other i l);
        applied = λ i l. ap (λ (w : ℕ). bits_of w i) h.applied ∙ m.applied i l;
      }
    where
      same : r ≡ tried (full s y.body) u y.body.items
      same = sym tries ∙ (λ o. tried (full_means s x y n m o) u (m.items o))

      -- an array with its item j set, at j and elsewhere
      at : (a : List ℕ) (e i : ℕ) → i < n → length a ≡ array_size → i ≡ j → get_or (set a j e) i 0 ≡ e
      at a e i l long same = rw same (get_or-set_same a j e 0 (omega arith))

      beside : (a b : List ℕ) (e i : ℕ) → a ≡ b → i ≢ j → get_or (set a j e) i 0 ≡ get_or b i 0
      beside a b e i same apart = get_or-set_other a j i e 0 apart ∙ ap (λ (a : List ℕ). get_or a i 0) same

      own :
          (i : ℕ) → i < n → i ≡ j
          → settled_of (settle_of z j t k v) i ≡ record { ticket = t; answer = (tried (full s y.body) u y.body.items).0 }
      own i l e =
          let g : (settled_of (settle_of z j t k v) i).answer ≡ (tried (full s y.body) u y.body.items).0 =
          ap₂ answer_of (at z.answers k i l h.sound.answers e) (at z.posted v i l h.sound.posted e) ∙ told
          ∙ ap (λ (q : Answer × Table). q.0) same in
          λ o. record { ticket = at z.settled t i l h.sound.settled e o; answer = g o }

      other : (i : ℕ) → i < n → i ≢ j → settled_of (settle_of z j t k v) i ≡ y.body.settled i
      other i l e =
          let g : settled_of (settle_of z j t k v) i ≡ settled_of x i = λ o. record {
            ticket = beside z.settled x.settled t i h.settled e o;
            answer = answer_of (beside z.answers x.answers k i h.answers e o) (beside z.posted x.posted v i h.posted e o);
          } in
          g ∙ m.settled i l

  -- an update that is not crowded does what it does where there is room, and a new account has room
  module _ (u : Update) (e : full_by s x.count and creates u (items_of x) ≡ false) where
    tries : ◌≡◌ {A = Answer × Table} (tried (full_by s x.count) u (items_of x)) (result u (items_of x), changed u (items_of x))
    unfolding tried
    tries = if_false _ _ e

    room : creates u (items_of x) ≡ true → x.count < array_size
    unfolding full_by
    room new = omega (arith, leb-false s.capacity x.count (is_false _ (λ full. no_both new (and_right _ _ e full))))

  -- worker j's update carried out
  pub carry_means :
      (j : ℕ) (u : Descriptor) → u.account < 2 ^ 32 → u.total < 2 ^ 64
      → Means (carry_of x s j u) (with_body y (carry_out s j (update_from u) u.ticket y.body)) n
  unfolding carry_of changed_of crowded_by post_of sum_of posted_of update_from tried creates changed result answer_of signed when◌then◌else◌
  carry_means j u small fits = whole (full_by s x.count and creates_by u.kind p) refl
    where
      a : ℕ
      a = u.account

      v : ℕ
      v = u.total

      t : ℕ
      t = u.ticket

      p : Position
      p = search_of x a

      finds : find (items_of x) a ≡ total_at x p
      finds = find_search x m.sound a

      z : ℤ
      z = added (total_in x p) v

      sums : sum (items_of x) a (signed v) ≡ z
      sums = sum_is x p a v (items_of x) finds

      -- the update, by the tests of its kind
      of : Bool → Bool → Update
      of b c = when b then insert a (signed v) else when c then post a (signed v) else delete a

      crowded_is : full_by s x.count and creates (update_from u) (items_of x) ≡ full_by s x.count and creates_by u.kind p
      crowded_is = ap (λ (b : Bool). full_by s x.count and b) (sym (creates_is x p u.kind a (signed v) (items_of x) finds))

      -- a post, by whether its sum is a total
      posts :
          (b : Bool) → is_total z ≡ b → full_by s x.count and creates (post a (signed v)) (items_of x) ≡ false
          → Means (posted_of x j p u (when b then Some (of_z w64 z) else None))
          (with_body y (carry_out s j (post a (signed v)) t y.body)) n
      posts true e free =
          let f = fits_total z e in
          let w : ℕ = of_z w64 z in
          settle_means (put_of x p a w) (post a (signed v)) j t posted_number w _ (tries (post a (signed v)) free)
          (rw (sums, e) (subst (λ (r : ℤ). Becomes x (put (items_of x) a r) (put_of x p a w)) (to_z-of_z f)
          (put_becomes x m.sound a w small (Fits-of_z f).fits (λ g. room (post a (signed v)) free (rw g)))))
          (rw (sums, e, to_z-of_z f))
      posts false e free =
          settle_means x (post a (signed v)) j t (answer_number Overrun) 0 _ (tries (post a (signed v)) free)
          (rw (sums, e) (stays_as m.sound refl)) (rw (sums, e))

      kinds :
          (b c : Bool) → full_by s x.count and creates (of b c) (items_of x) ≡ false
          → Means (when b then settle_of (put_of x p a v) j t (insert_answer p) 0 else when c then post_of x j p u
          else settle_of (remove_of x p) j t (delete_answer p) 0)
          (with_body y (carry_out s j (of b c) t y.body)) n
      kinds true c free =
          settle_means (put_of x p a v) (insert a (signed v)) j t _ 0 _ (tries (insert a (signed v)) free)
          (put_becomes x m.sound a v small fits (λ g. room (insert a (signed v)) free (rw g)))
          (insert-answer x p a (signed v) (items_of x) finds)
      kinds false true free = posts (is_total z) refl free
      kinds false false free =
          settle_means (remove_of x p) (delete a) j t _ 0 _ (tries (delete a) free) (remove_becomes x m.sound a)
          (delete-answer x p a (items_of x) finds)

      -- crowded, or not
      whole :
          (b : Bool) → full_by s x.count and creates_by u.kind p ≡ b
          → Means (when b then settle_of x j t (answer_number Crowded) 0 else changed_of x j p u)
          (with_body y (carry_out s j (update_from u) t y.body)) n
      whole true e =
          settle_means x (update_from u) j t (answer_number Crowded) 0 (Crowded, items_of x) (if_true _ _ (crowded_is ∙ e))
          (stays_as m.sound refl) refl
      whole false e = kinds (eqb u.kind kind_insert) (eqb u.kind kind_post) (crowded_is ∙ e)

-- ---- the tests of a round

bits_differ : (p q : ℕ) → p < 2 → q < 2 → not (eqb p q) ≡ xor (eqb p 1) (eqb q 1)
unfolding xor
bits_differ zero zero h k = refl
bits_differ zero (suc zero) h k = refl
bits_differ zero (suc (suc q)) h k = absurd (omega arith)
bits_differ (suc zero) zero h k = refl
bits_differ (suc zero) (suc zero) h k = refl
bits_differ (suc zero) (suc (suc q)) h k = absurd (omega arith)
bits_differ (suc (suc p)) q h k = absurd (omega arith)

bit_below : (w j : ℕ) → bit w j < 2
unfolding bit
bit_below w j = mod-lt (w / 2 ^ j) (omega arith)

pub ltb_not : (p q : ℕ) → ltb p q ≡ not (leb q p)
ltb_not p q = go (leb q p) refl
  where
    go : (b : Bool) → leb q p ≡ b → ltb p q ≡ not b
    go true e = le-ltb p q (leb-true q p e)
    go false e = lt-ltb p q (leb-false q p e)

-- ---- a round

-- whether worker j's update with ticket t is pending in the state
abbrev due : BucketState → ℕ → ℕ → ℕ → Bool
due x toggle j t = pending_by toggle x.applied j (get_or x.settled j 0) t

module _ (s : Settings) (d : ℕ) (narrow : s.capacity ≤ array_size) (n : ℕ) (few : n ≤ array_size) (y : State) (toggle : ℕ) (bits : ℕ → Bool)
    (agree : (j : ℕ) → j < n → bits_of toggle j ≡ bits j) where
  due_is :
      (x : BucketState) (c : Body) (j t : ℕ) → j < n → c.settled j ≡ y.body.settled j → Means x (with_body y c) n
      → due x toggle j t ≡ pending y bits j t
  unfolding pending_by pending settled_at bits_of settled_of
  due_is x c j t l same m = λ i. toggled i and above i
    where
      toggled : not (eqb (bit toggle j) (bit x.applied j)) ≡ xor (bits j) (y.applied j)
      toggled = bits_differ _ _ (bit_below toggle j) (bit_below x.applied j) ∙ ap₂ xor (agree j l) (m.applied j l)

      above : ltb (get_or x.settled j 0) t ≡ not (leb t (y.body.settled j).ticket)
      above = ltb_not (get_or x.settled j 0) t ∙ ap (λ (e : Settled). not (leb t e.ticket)) (m.settled j l ∙ same)

  -- worker j helped in the copy x, which means c: there its settled ticket is still the one of the state that was read, y
  pub help_means :
      (x : BucketState) (c : Body) (j : ℕ) (u : Descriptor) → j < n → u.account < 2 ^ 32 → u.total < 2 ^ 64
      → (u.kind ≡ kind_none → u.ticket ≡ 0) → c.settled j ≡ y.body.settled j → Means x (with_body y c) n
      → Means (help_of x s d toggle j u) (with_body y (help s d y bits j (slot_from u) c)) n
  unfolding help_of help slot_from when◌then◌else◌
  help_means x c j u l small fits quiet same m =
      eq_elim (λ (o : Slot). Means (help_of x s d toggle j u) (with_body y (help s d y bits j o c)) n) u.kind kind_none
      empty (announced (update_from u) u.ticket) idle (λ k. rw tests (go (pending y bits j u.ticket and not (holds_back s d c))))
    where
      tests : due x toggle j u.ticket and not (holds_back_by s d x.count) ≡ pending y bits j u.ticket and not (holds_back s d c)
      tests = λ i. due_is x c j u.ticket l same m i and not (holds_back_means s x (with_body y c) n m d i)

      idle : u.kind ≡ kind_none → Means (help_of x s d toggle j u) (with_body y c) n
      idle k =
          let off = pending_settled toggle x.applied j (get_or x.settled j 0) u.ticket (omega (arith, quiet k)) in
          subst (λ (r : BucketState). Means r (with_body y c) n) (sym (help_left x s d toggle j u off)) m

      go :
          (b : Bool)
          → Means (when b then carry_of x s j u else x) (with_body y (when b then carry_out s j (update_from u) u.ticket c else c)) n
      go true = carry_means s narrow x (with_body y c) n few m j u small fits
      go false = m

  -- while the workers below k are helped, worker k's ticket stays
  later : (slots : ℕ → Slot) (k : ℕ) → (helped s d y bits slots k).settled k ≡ y.body.settled k
  later slots k = go ((helped_ok s d y bits slots k).settled_change k)
    where
      go :
          SettledChange y.body (helped s d y bits slots k) (slots k) ((k < k) × (calls y bits k (slots k) ≡ true)) k
          → (helped s d y bits slots k).settled k ≡ y.body.settled k
      go (settled_same e) = e
      go (settled_new h l e) = absurd (omega (arith, h.0))

  -- the workers below k helped, w being the words of the slots that were read
  pub helped_means :
      (x : BucketState) (w : List ℕ) (slots : ℕ → Slot) → SoundSlots w n → ((j : ℕ) → j < n → slot_of w j ≡ slots j) → Means x y n
      → (k : ℕ) → k ≤ n → Means (helped_of x w s d toggle k) (with_body y (helped s d y bits slots k)) n
  unfolding helped_of helped slot_of descriptor_in
  helped_means x w slots sound read m zero h = m
  helped_means x w slots sound read m (suc k) h =
      let z : BucketState = helped_of x w s d toggle k in
      let c : Body = helped s d y bits slots k in
      subst (λ (o : Slot). Means (helped_of x w s d toggle (suc k)) (with_body y (help s d y bits k o c)) n) (read k h) (
      help_means z c k (descriptor_in w (slot_size * k)) h (sound.narrow k h) (sound.fits k h) (sound.quiet k h)
      (later slots k) (helped_means x w slots sound read m k (omega arith))
      )

-- a whole round, in a bucket of depth d
pub round_means :
    (s : Settings) (d : ℕ) → s.capacity ≤ array_size → s.workers ≤ array_size → (x : BucketState) (toggle : ℕ) (w : List ℕ)
    → (y : State) (bits : ℕ → Bool) (slots : ℕ → Slot) → Means x y s.workers
    → ((j : ℕ) → j < s.workers → bits_of toggle j ≡ bits j) → SoundSlots w s.workers → ((j : ℕ) → j < s.workers → slot_of w j ≡ slots j)
    → Means (round_of x w s d toggle) (next_state s d y bits slots) s.workers
unfolding round_of with_applied next_state items_of size_of settled_of
round_means s d narrow few x toggle w y bits slots m agree sound read =
    let h = helped_means s d narrow s.workers few y toggle bits agree x w slots sound read m s.workers (omega arith) in
    record { sound = sound_applied toggle h.sound; items = h.items; settled = h.settled; applied = agree }

-- ---- the half of a split

-- it is what a bucket that has just become current means
pub half_means :
    (x : BucketState) (y : State) (n : ℕ) (z : Name) → Means x y n
    → Means (half_of x z.depth z.prefix) (record { body = half z y.body; applied = no_bits }) n
unfolding half half_of settled_of bits_of bit
half_means x y n z m =
    let h = half_becomes x m.sound z.depth z.prefix in
    record {
      sound = h.sound;
      items = h.items ∙ ap (having z.depth z.prefix) m.items;
      settled = m.settled;
      applied = λ j l. ap (λ (k : ℕ). eqb (k % 2) 1) (zero-div (2 ^ j));
    }
