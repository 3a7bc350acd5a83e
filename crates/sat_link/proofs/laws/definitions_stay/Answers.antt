use Rattle.sat_link.proofs.Growing.{definitional_grows}
use Rattle.sat_link.proofs.laws.definitions_stay.Goals as goal

pub returns : goal.returns
returns c = definitional_grows
