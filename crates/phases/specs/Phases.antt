-- The code's kinds of steps by the machine's names. Rests on the machine's plan.
use Rattle.phases.specs.declared.Phase as Code
use Rattle.machine.specs.Plan.{Phase, announce, read_directory, flip_toggle, read_state, read_toggle, swap_state, check_state, copy_directory, swap_directory, read_slot, resize_for}

-- the machine's name for a kind of step
unfoldable pub planned : Code.Phase → Phase
planned Code.Phase.Announce = announce
planned Code.Phase.ReadDirectory = read_directory
planned Code.Phase.Flip = flip_toggle
planned Code.Phase.ReadState = read_state
planned Code.Phase.ReadToggle = read_toggle
planned (Code.Phase.ReadSlot j) = read_slot j
planned Code.Phase.Swap = swap_state
planned Code.Phase.Check = check_state
planned Code.Phase.CopyDirectory = copy_directory
planned (Code.Phase.StateStep j) = resize_for j
planned Code.Phase.SwapDirectory = swap_directory
