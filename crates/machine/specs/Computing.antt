-- A marker: a declaration that says `unfolding computing` computes with every definition of the machine and the script.
use Rattle.std.proofs.Math.Bool.{xor}
use Rattle.interface.specs.Limits.{within, in_range, built}
use Rattle.machine.specs.Choice.{when◌then◌else◌, ◌and◌, assign}
use Rattle.machine.specs.Sequential.{place, account_at, first_bits, find, put, remove, having, present, total_or0, is_total, sum, result, changed, looked, creates, tried, crowds, serve}
use Rattle.machine.specs.Records.{same, bucket_of, new_bucket, first_directory, first_cells, no_reads, opened}
use Rattle.machine.specs.BucketPass.{full, splittable, holds_back, settled_at, carry_out, pending, help, helped, next_state, checked}
use Rattle.machine.specs.DirectoryPass.{copy_of, leaf_of, replace_leaf, doubled, deepened, child, half, replace_half, split, split_leaf, split_while, carry_leaf, take_update, take_slot, take_slots, resize, directory_of, body_made}
use Rattle.machine.specs.Plan.{each, bucket_round, bucket_pass, check, directory_round, directory_pass, pass, plan, phase, is_check, checks_in, check_number}
use Rattle.machine.specs.Steps.{with_directory, with_state, with_toggle, with_slot, with_copy, announcing, directory_reading, flipping, state_reading, toggle_reading, slot_reading, swapped, state_swapping, state_checking, directory_copying, leaf_reading, resizing, redirected, directory_swapping, update_access, lookup_access, access, direct, assign_slot, assign_bucket, assign_state, assign_toggle, perform, counted, check_of, step_reply, done, step_of, step}
use Rattle.fields.specs.Regions.{words_needed, record_start, directory_start, pool_size}
use Rattle.machine.specs.Calls.{opening_of, opening, operation_of, spent, ticket_for, begun, call_of, call, put_all, collect, contents, listing_of, listing}
use Rattle.machine.specs.Script.{opening_response, call_response, listing_response, steps, response_to, run_from, run, memory_after}

unfoldable pub computing : Unit {0}
unfolding xor within in_range built when◌then◌else◌ ◌and◌ assign place account_at first_bits find put remove having present
    total_or0 is_total sum result changed looked creates tried crowds serve same bucket_of new_bucket first_directory
    first_cells no_reads opened full splittable holds_back settled_at carry_out pending help helped next_state checked copy_of
    leaf_of replace_leaf doubled deepened child half replace_half split split_leaf split_while carry_leaf take_update take_slot
    take_slots resize directory_of body_made each bucket_round bucket_pass check directory_round directory_pass pass plan phase
    is_check checks_in check_number with_directory with_state with_toggle with_slot with_copy announcing directory_reading
    flipping state_reading toggle_reading slot_reading swapped state_swapping state_checking directory_copying leaf_reading
    resizing redirected directory_swapping update_access lookup_access access direct assign_slot assign_bucket assign_state
    assign_toggle perform counted check_of step_reply done step_of step words_needed record_start directory_start pool_size
    opening_of opening operation_of spent ticket_for begun call_of call put_all collect contents listing_of listing
    opening_response call_response listing_response steps response_to run_from run memory_after
computing = tt
