-- A front of a path is a path.
use Rattle.std.proofs.Common.{◌≡◌, List, [], ◌∷◌, ◌++◌, length, arith}
use Rattle.smv_tree.specs.Models.{Body}
use Rattle.smv_tree.specs.declared.value.Value.{Value}
use Rattle.smv_meaning.specs.Runs.{IsPath, IsAllowed, IsRun}

path_begins : (program : List Body) (s : List Value) (states inputs : List (List Value)) → IsPath program s states inputs → IsAllowed program s
path_begins program s [] [] p = p
path_begins program s [] (i ∷ inputs) p = absurd p
path_begins program s (t ∷ states) [] p = absurd p
path_begins program s (t ∷ states) (i ∷ inputs) p = p.0

front_of_path : (program : List Body) (s : List Value) (front rest inputs more : List (List Value)) → length front ≡ length inputs → IsPath program s (front ++ rest) (inputs ++ more) → IsPath program s front inputs
front_of_path program s [] rest [] more e p = path_begins program s rest more p
front_of_path program s [] rest (i ∷ inputs) more e p = absurd (omega arith)
front_of_path program s (t ∷ front) rest [] more e p = absurd (omega arith)
front_of_path program s (t ∷ front) rest (i ∷ inputs) more e p = (p.0, p.1, front_of_path program t front rest inputs more (omega arith) p.2)

pub front_of_run : (program : List Body) (s : List Value) (front rest inputs more : List (List Value)) → length front ≡ length inputs → IsRun program (s ∷ (front ++ rest)) (inputs ++ more) → IsRun program (s ∷ front) inputs
front_of_run program s front rest inputs more e r = (r.0, front_of_path program s front rest inputs more e r.1)
