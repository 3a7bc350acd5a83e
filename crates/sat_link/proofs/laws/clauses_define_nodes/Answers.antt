use Rattle.sat_link.proofs.Defining.{definitional, whole}
use Rattle.sat_link.proofs.laws.clauses_define_nodes.Goals as goal

pub returns-clause-definitional : goal.returns-clause-definitional
returns-clause-definitional c = definitional

pub returns-clause-whole : goal.returns-clause-whole
returns-clause-whole c = whole
