use Rattle.session_meaning.proofs.FaultPlaces.{fault_placed}
use Rattle.session_meaning.proofs.line_laws.read_only_names_its_fault.Goals as goal

pub returns : goal.returns
returns c = fault_placed
