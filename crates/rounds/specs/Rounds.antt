-- What an update and a round make of a bucket's state, for any field values. Rests on the definitions on a state and on
-- the rules.
use Rattle.std.specs.Prelude.{ℕ, zero, suc, ◌*◌, not, List, eqb, get_or, Option, Some, None}
use Rattle.interface.specs.Numbers.{kind_insert, kind_post, answer_number}
use Rattle.interface.specs.declared.Settings.{Settings}
use Rattle.interface.specs.declared.Answer.TheVariants.{Crowded, Overrun}
use Rattle.fields.specs.Fields.{slot_size}
use Rattle.machine.specs.Choice.{when◌then◌else◌, ◌and◌}
use Rattle.bucket.specs.declared.BucketState.{BucketState}
use Rattle.rules.specs.declared.Descriptor.{Descriptor}
use Rattle.arrays.specs.declared.Position.{Position}
use Rattle.rules.specs.Rules.{holds_back_by, descriptor_in, crowded_by, insert_answer, delete_answer, posted_number, pending_by}
use Rattle.bucket.specs.State.{search_of, total_in, put_of, remove_of, settle_of}
use Rattle.sums.specs.Sums.{sum_of}

-- ---- one update

-- worker j's post at position p settled, by what its sum is: posted with the new total, or overrun with nothing changed
unfoldable pub posted_of : BucketState → ℕ → Position → Descriptor → Option ℕ → BucketState
posted_of x j p u (Some total) = settle_of (put_of x p u.account total) j u.ticket posted_number total
posted_of x j p u None = settle_of x j u.ticket (answer_number Overrun) 0

-- "the amount is added to the account's total, an account not there starts from 0 and is made"
unfoldable pub post_of : BucketState → ℕ → Position → Descriptor → BucketState
post_of x j p u = posted_of x j p u (sum_of (total_in x p) u.total)

-- What worker j's update, for which a search gave position p, does where it is not crowded. Any kind but an insert's
-- and a post's is a delete; only posted has a total.
unfoldable pub changed_of : BucketState → ℕ → Position → Descriptor → BucketState
changed_of x j p u =
    when eqb u.kind kind_insert
    then settle_of (put_of x p u.account u.total) j u.ticket (insert_answer p) 0
    else when eqb u.kind kind_post then post_of x j p u
    else settle_of (remove_of x p) j u.ticket (delete_answer p) 0

-- worker j's update carried out: crowded "is settled with its ticket like any other answer" (02, No. 2)
unfoldable pub carry_of : BucketState → Settings → ℕ → Descriptor → BucketState
carry_of x s j u =
    let p : Position = search_of x u.account in
    when crowded_by s x.count u.kind p
    then settle_of x j u.ticket (answer_number Crowded) 0
    else changed_of x j p u

-- worker j's update carried out in a bucket of depth d if it is pending, unless the copy holds it back
unfoldable pub help_of : BucketState → Settings → ℕ → ℕ → ℕ → Descriptor → BucketState
help_of x s d toggle j u =
    when pending_by toggle x.applied j (get_or x.settled j 0) u.ticket and not (holds_back_by s d x.count)
    then carry_of x s j u
    else x

-- ---- a round

-- the workers below n helped, with the slots that were read
unfoldable pub helped_of : BucketState → List ℕ → Settings → ℕ → ℕ → ℕ → BucketState
helped_of x slots s d toggle zero = x
helped_of x slots s d toggle (suc j) =
    help_of (helped_of x slots s d toggle j) s d toggle j (descriptor_in slots (slot_size * j))

-- the state with these applied bits
unfoldable pub with_applied : BucketState → ℕ → BucketState
with_applied x w =
    record {
      accounts = x.accounts;
      totals = x.totals;
      settled = x.settled;
      answers = x.answers;
      posted = x.posted;
      count = x.count;
      applied = w;
    }

-- "Then the applied bits become the toggle."
unfoldable pub round_of : BucketState → List ℕ → Settings → ℕ → ℕ → BucketState
round_of x slots s d toggle = with_applied (helped_of x slots s d toggle s.workers) toggle
