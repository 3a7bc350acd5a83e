use Rattle.smv_graph.proofs.Named.{named_walk, walk_down}
use Rattle.smv_graph.proofs.walks.numbers_walk_as_names.Goals as goal

pub returns : goal.returns
returns c = λ program m n a b d e. (named_walk program m n a b d e, λ w. walk_down program m w.0 n a b d e w.1)
