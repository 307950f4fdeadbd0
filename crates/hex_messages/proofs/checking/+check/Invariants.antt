use Rattle.std.proofs.Common.{◌+◌, ◌*◌, length}
use Rattle.hex_messages.proofs.CheckLemmas.{Checked, depth}
use Rattle.hex_messages.proofs.checking.+check.Given as goal

abbrev pub decreases-check_field : goal.decreases-check_field
decreases-check_field l = 2 * depth l.message

abbrev pub decreases-check_message : goal.decreases-check_message
decreases-check_message l = 2 * depth l.message + 1

abbrev pub invariant-check_message-loop-rest : goal.invariant-check_message-loop-rest
invariant-check_message-loop-rest l = Checked l.message l.text l.rest

abbrev pub decreases-check_message-loop-rest : goal.decreases-check_message-loop-rest
decreases-check_message-loop-rest l = length l.rest
