use Rattle.std.proofs.Common.{length}
use Rattle.console.specs.Commands.{text_asks}
use Rattle.dernoalf.proofs.run.Run.obey_all.Given as goal

-- the commands that the text still asks
abbrev pub decreases-loop-command : goal.decreases-loop-command
decreases-loop-command l = length (text_asks l.script.line l.script.text.now)
