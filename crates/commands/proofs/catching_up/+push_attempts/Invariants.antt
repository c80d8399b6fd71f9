use Rattle.std.proofs.Common.{length}
use Rattle.commands.proofs.catching_up.+push_attempts.Given as goal

abbrev pub decreases-push_attempts : goal.decreases-push_attempts
decreases-push_attempts l = length l.troubles.now
