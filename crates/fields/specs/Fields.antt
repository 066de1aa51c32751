-- The lent words by name: each word of the header, of a slot, of a worker's record and of a bucket's record, by its
-- offset there. src/lib.rt has constants of the same names. Rests on the limits of the settings.
use Rattle.std.specs.Prelude.{ℕ, ◌+◌, ◌-◌, ◌*◌}
use Rattle.interface.specs.Limits.{greatest_workers, greatest_capacity, greatest_depth}

-- ---- the header

-- the mark of an open table, with its settings
abbrev pub header_settings : ℕ
header_settings = 0

-- the words needed for them
abbrev pub header_needed : ℕ
header_needed = 1

-- the directory's depth
abbrev pub header_depth : ℕ
header_depth = 2

-- the number that identifies the current directory
abbrev pub header_number : ℕ
header_number = 3

-- where the search for a spare bucket record begins
abbrev pub header_spare : ℕ
header_spare = 4

-- the words from header_spare + 1 on are kept for later
abbrev pub header_size : ℕ
header_size = 16

-- The first word: n-1 in units of 1, b-1, M and the mark each in units past all values of the one before, so that
-- every word has its settings and no range test is left.
abbrev pub capacity_unit : ℕ
capacity_unit = greatest_workers

abbrev pub depth_unit : ℕ
depth_unit = capacity_unit * greatest_capacity

-- the greatest depth that the first word can keep
abbrev pub deepest : ℕ
deepest = 15

abbrev pub mark_unit : ℕ
mark_unit = depth_unit * (deepest + 1)

abbrev pub mark : ℕ
mark = 6_004_514_766

-- the least and the greatest first word with the mark and a depth that settings have
abbrev pub least_first : ℕ
least_first = mark * mark_unit

abbrev pub greatest_first : ℕ
greatest_first = least_first + (greatest_depth + 1) * depth_unit - 1

-- ---- a slot: a worker's announced update, the field's operation descriptor

abbrev pub slot_kind : ℕ
slot_kind = 0

abbrev pub slot_account : ℕ
slot_account = 1

abbrev pub slot_total : ℕ
slot_total = 2

abbrev pub slot_ticket : ℕ
slot_ticket = 3

abbrev pub slot_size : ℕ
slot_size = 4

-- ---- a worker's record: its operation, as in a slot; its last ticket; what it has read

abbrev pub worker_kind : ℕ
worker_kind = slot_kind

abbrev pub worker_account : ℕ
worker_account = slot_account

abbrev pub worker_total : ℕ
worker_total = slot_total

abbrev pub worker_ticket : ℕ
worker_ticket = slot_ticket

-- own steps of its operation so far
abbrev pub worker_steps : ℕ
worker_steps = 4

-- these are read below this number; no operation of an opened table makes as many
abbrev pub steps_range : ℕ
steps_range = 65_536

-- the bucket record that it holds
abbrev pub worker_held : ℕ
worker_held = 5

-- the number of the state that it has read there
abbrev pub worker_state : ℕ
worker_state = 6

-- the toggle that it has read there
abbrev pub worker_toggle : ℕ
worker_toggle = 7

-- the number of the directory that it has read
abbrev pub worker_directory : ℕ
worker_directory = 8

-- the workers whose bucket it has marked for a split, as bits
abbrev pub worker_marks : ℕ
worker_marks = 9

-- the slots that it has read; the words from worker_marks + 1 on are kept for later
abbrev pub worker_slots : ℕ
worker_slots = 24

abbrev pub worker_size : ℕ → ℕ
worker_size n = slot_size * n + worker_slots

-- ---- a bucket's record

-- how many accounts it has
abbrev pub record_count : ℕ
record_count = 0

-- its applied bits, one a worker
abbrev pub record_applied : ℕ
record_applied = 1

-- its toggle, one bit a worker
abbrev pub record_toggle : ℕ
record_toggle = 2

abbrev pub record_depth : ℕ
record_depth = 3

abbrev pub record_prefix : ℕ
record_prefix = 4

-- the number that identifies its current state
abbrev pub record_number : ℕ
record_number = 5

-- its accounts; behind them its totals, settled tickets, their answers and what these have posted
abbrev pub record_accounts : ℕ
record_accounts = 6

-- where these five begin in the record at q, with b accounts at most and n workers
abbrev pub accounts_from : ℕ → ℕ
accounts_from q = q + record_accounts

abbrev pub totals_from : ℕ → ℕ → ℕ
totals_from q b = accounts_from q + b

abbrev pub settled_from : ℕ → ℕ → ℕ
settled_from q b = totals_from q b + b

abbrev pub answers_from : ℕ → ℕ → ℕ → ℕ
answers_from q b n = settled_from q b + n

abbrev pub posted_from : ℕ → ℕ → ℕ → ℕ
posted_from q b n = answers_from q b n + n

abbrev pub record_size : ℕ → ℕ → ℕ
record_size b n = 2 * b + 3 * n + record_accounts

-- ---- sizes

-- the words of the greatest bucket record
abbrev pub widest_record : ℕ
widest_record = record_size greatest_capacity greatest_workers

-- words behind the last record, so that one test of a record's start keeps all of it inside, whatever its size
abbrev pub spare_words : ℕ
spare_words = widest_record - 1

-- bucket records beyond one an entry of the directory and one a worker
abbrev pub spare_records : ℕ
spare_records = 2
