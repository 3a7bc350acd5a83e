use Rattle.smv_names.proofs.Members.{told}
use Rattle.smv_names.proofs.laws.tables_tell_members.Goals as goal

pub returns : goal.returns
returns c path up m parts other = told path up m parts other
