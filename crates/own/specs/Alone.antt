-- When a round has one worker's own update alone to carry out, for any words. Rests on the words' names and the rules.
use Rattle.std.specs.Prelude.{ℕ, ◌+◌, ◌≤◌, ◌<◌, ◌≡◌, List, length}
use Rattle.interface.specs.declared.Settings.{Settings}
use Rattle.fields.specs.Fields.{worker_toggle, record_applied, widest_record}
use Rattle.fields.specs.Regions.{worker_at}
use Rattle.rules.specs.Rules.{flip_bit}
use Rattle.layout.specs.Shape.{word, Fits}

-- worker w has read toggle bits that differ from those applied in the record at q by its own alone
abbrev pub OwnAlone : List ℕ → Settings → ℕ → ℕ → ℕ → Type 0
OwnAlone l s w q toggle =
    Fits l s × ((w < s.workers) × ((q + widest_record ≤ length l)
    × ((toggle ≡ word l (worker_at s.workers w + worker_toggle))
    × (toggle ≡ flip_bit (word l (q + record_applied)) w))))
