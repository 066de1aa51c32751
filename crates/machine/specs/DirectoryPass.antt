-- The working copy of a round of the directory pass: splits, and the updates carried out on what it makes.
-- Rests on the records and on what an update does to a bucket's body.
use Rattle.std.specs.Prelude.{ℕ, zero, suc, ◌+◌, ◌*◌, ◌-◌, ◌/◌, ◌^◌, Bool, true, false, not, leb, ltb, eqb, Option, Some, None}
use Rattle.interface.specs.declared.Settings.{Settings}
use Rattle.machine.specs.Choice.{when◌then◌else◌, ◌and◌}
use Rattle.machine.specs.Sequential.{Update, account, first_bits, having}
use Rattle.machine.specs.Records.{Name, same, Body, Directory, Leaf, kept, made, Copy, Slot, empty, announced}
use Rattle.machine.specs.BucketPass.{holds_back, splittable, settled_at, carry_out}

-- a directory that has been read, nothing made yet
unfoldable pub copy_of : Directory → Copy
copy_of d = record { depth = d.depth; leaves = λ e. kept (d.entries e) }

-- the leaf that an account belongs to
unfoldable pub leaf_of : Copy → ℕ → Leaf
leaf_of c a = c.leaves (first_bits c.depth a)

abbrev pub name_of : Leaf → Name
name_of (kept x) = x
name_of (made x b) = x

-- ---- a split

-- "It stands at exactly the entries whose first d bits are its prefix": the leaf l of bucket x put at these.
unfoldable pub replace_leaf : Name → Leaf → Copy → Copy
replace_leaf x l c =
    record {
      depth = c.depth;
      leaves = λ e. when eqb (e / 2 ^ (c.depth - x.depth)) x.prefix then l else c.leaves e;
    }

-- the same buckets in a directory of twice the entries
unfoldable pub doubled : Copy → Copy
doubled c = record { depth = suc c.depth; leaves = λ e. c.leaves (e / 2) }

-- "The directory doubles when d+1 exceeds its depth."
unfoldable pub deepened : ℕ → Copy → Copy
deepened d c = when ltb c.depth d then doubled c else c

-- a bucket's two halves have one bit more, i
unfoldable pub child : Name → ℕ → Name
child x i = record { depth = suc x.depth; prefix = 2 * x.prefix + i }

-- "all settled tickets and answers copied to both"
unfoldable pub half : Name → Body → Body
half x b = record { items = having x.depth x.prefix b.items; settled = b.settled }

unfoldable pub replace_half : Name → Body → Copy → Copy
replace_half x b c = replace_leaf x (made x (half x b)) c

-- "A split gives two buckets of depth d+1"
unfoldable pub split : Name → Body → Copy → Copy
split x b c = replace_half (child x 1) b (replace_half (child x 0) b (deepened (suc x.depth) c))

-- a bucket made in this round is split where it is full and below depth M
unfoldable pub split_leaf : Settings → Copy → Leaf → Copy
split_leaf s c (kept x) = c
split_leaf s c (made x b) = when splittable s x.depth b then split x b c else c

-- "its bucket is split while full and below depth M": at most as often as the first number says
unfoldable pub split_while : Settings → ℕ → ℕ → Copy → Copy
split_while s zero a c = c
split_while s (suc f) a c = split_while s f a (split_leaf s c (leaf_of c a))

-- ---- the updates that are taken

-- the update is carried out in the bucket that it belongs to then, unless this holds it back
unfoldable pub carry_leaf : Settings → ℕ → Update → ℕ → Copy → Leaf → Copy
carry_leaf s j u t c (kept x) = c
carry_leaf s j u t c (made x b) = when holds_back s x.depth b then c else replace_leaf x (made x (carry_out s j u t b)) c

unfoldable pub take_update : Settings → ℕ → Update → ℕ → Copy → Copy
take_update s j u t c =
    let c' : Copy = split_while s s.depth (account u) c in
    carry_leaf s j u t c' (leaf_of c' (account u))

-- "every unsettled announced update that belongs to that bucket's prefix": bucket x, whose body b was read
unfoldable pub take_slot : Settings → Name → Body → ℕ → Slot → Copy → Copy
take_slot s x b j empty c = c
take_slot s x b j (announced u t) c =
    when eqb (first_bits x.depth (account u)) x.prefix and not (settled_at b j t) then take_update s j u t c else c

-- the slots of the workers below n, "in worker order"
unfoldable pub take_slots : Settings → Name → Body → (ℕ → Slot) → ℕ → Copy → Copy
take_slots s x b slots zero c = c
take_slots s x b slots (suc j) c = take_slot s x b j (slots j) (take_slots s x b slots j c)

-- What step i of the round does with the state of bucket x that it reads, where t is the ticket of worker i's announced
-- update: "If that bucket is full, below depth M, and the ticket there is unsettled, every unsettled announced update
-- .. is taken"
unfoldable pub resize : Settings → (ℕ → Slot) → ℕ → ℕ → Name → Body → Copy → Copy
resize s slots i t x b c =
    when splittable s x.depth b and not (settled_at b i t)
    then take_slots s x b slots s.workers (replace_leaf x (made x b) c) else c

-- ---- the swap

unfoldable pub directory_of : Copy → Directory
directory_of c = record { depth = c.depth; entries = λ e. name_of (c.leaves e) }

abbrev pub body_if : Name → Leaf → Option Body
body_if x (kept y) = None
body_if x (made y b) = when same y x then Some b else None

-- the body of bucket x, if it was made in this round; its first entry is its prefix followed by zeros
unfoldable pub body_made : Copy → Name → Option Body
body_made c x = body_if x (c.leaves (x.prefix * 2 ^ (c.depth - x.depth)))
