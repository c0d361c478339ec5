use Rattle.script.proofs.Kept.{kept_enough}
use Rattle.script.proofs.claims.pending_lines_stand.Goals as goal

pub returns : goal.returns
returns c = kept_enough
