use Rattle.dia_check.proofs.DeclaredNames.{declared-names}
use Rattle.dia_check.proofs.item_laws.inputs_and_events_have_names.Goals as goal

pub returns : goal.returns
returns c = declared-names
