-- The header: what its first words say, for any words, and the checks behind 8. Rests on the regions of the lent words.
use Rattle.std.specs.Prelude.{ℕ, ◌+◌, ◌-◌, ◌*◌, ◌/◌, ◌%◌, ◌≤◌, Bool, ◌||◌, not, List, ltb, length, get_or}
use Rattle.interface.specs.declared.Settings.{Settings}
use Rattle.interface.specs.Limits.{greatest_workers, greatest_capacity, within}
use Rattle.fields.specs.Fields.{header_settings, header_needed, capacity_unit, depth_unit, deepest, least_first, greatest_first, widest_record}
use Rattle.fields.specs.Regions.{directory_start, words_needed, least_words}

abbrev pub word : List ℕ → ℕ → ℕ
word l i = get_or l i 0

-- the settings that a first word keeps
unfoldable pub settings_of : ℕ → Settings
settings_of x =
    record {
      workers = x % greatest_workers + 1;
      capacity = x / capacity_unit % greatest_capacity + 1;
      depth = x / depth_unit % (deepest + 1);
    }

unfoldable pub first_word : Settings → ℕ
first_word s = least_first + (s.workers - 1) + capacity_unit * (s.capacity - 1) + depth_unit * s.depth

-- The checks behind 8, strange, the field's unrecognised memory: too short for any table; no mark, or a greatest depth
-- above 8; a number of words needed above the words lent; too short for the workers and one record.
unfoldable pub strange : List ℕ → Bool
strange l =
    ltb (length l) least_words
    || not (within least_first (word l header_settings) greatest_first)
    || ltb (length l) (word l header_needed)
    || ltb (length l) (directory_start (settings_of (word l header_settings)).workers + widest_record)

-- the settings of the words at hand
abbrev pub shape_of : List ℕ → Settings
shape_of l = settings_of (word l header_settings)

-- What the code keeps of settings, and that words pass the checks with them: every word of the header, the slots and
-- the workers is there, and at least one bucket record's length after them.
pub record Fits (l : List ℕ) (s : Settings) : Type 0 where
  pub least : 1 ≤ s.workers
  pub workers : s.workers ≤ greatest_workers
  pub least-capacity : 1 ≤ s.capacity
  pub capacity : s.capacity ≤ greatest_capacity
  pub depth : s.depth ≤ deepest
  pub room : directory_start s.workers + widest_record ≤ length l

-- and every word of every record is there
pub record Whole (l : List ℕ) (s : Settings) : Type 0 where
  pub fits : Fits l s
  pub all : words_needed s ≤ length l
