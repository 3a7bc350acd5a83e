-- The values of the nodes are the first of the solver's.
use Rattle.std.proofs.Common.{◌≡◌, ◌<◌, ◌≤◌, ℕ, Bool, false, List, [], ◌∷◌, length, take, Result, Ok, Err, IfOk, sym, ap, ◌∙◌, arith}
use Rattle.std.proofs.lemmas.List.{ext_get_or, get_or-take, length-take-le}
use Rattle.gates.specs.Literal.{Literal, span}
use Rattle.gates.specs.declared.node.Node.{Node}
use Rattle.gates.specs.Nodes.{WellFormed}
use Rattle.gates.specs.Valuation.{value_at, value_of, IsValuation, FollowsInputs}
use Rattle.gates.proofs.Evaluation.{valuations_agree}
use Rattle.sat_link.specs.Answers.{AreTrue, AreFirst}

-- the one valuation in which the inputs have the first values of another has just those
pub first_values : {E : Type 0} (nodes : List Node) (values inputs : List Bool) (r : Result (List Bool) E) → WellFormed nodes → IsValuation nodes values → inputs ≡ take (length nodes) values
    → IfOk r (IsValuation nodes) → IfOk r (λ bits. length bits ≡ length nodes) → IfOk r (FollowsInputs nodes inputs) → IfOk r (AreFirst nodes values)
first_values nodes values inputs (Err e) well v same valuation one_each follows = tt
first_values nodes values inputs (Ok bits) well v same valuation one_each follows = record {
  first = ext_get_or false bits (take (length nodes) values) (one_each ∙ sym (length-take-le (length nodes) values v.enough))
      (λ n h. let below : n < length nodes = omega (arith, h, one_each) in
      valuations_agree nodes bits values well valuation v (λ m l input. follows m l input ∙ ap (λ us. value_at us m) same ∙ get_or-take (length nodes) values m false l) n below
      ∙ sym (get_or-take (length nodes) values n false below));
  one_each = one_each;
  valuation = valuation;
}

value_of-take : (n : ℕ) (values : List Bool) (l : Literal) → l.node < n → value_of (take n values) l ≡ value_of values l
unfolding value_of
value_of-take n values l h = rw (get_or-take n values l.node false h)

-- literals of nodes are true under the first values where they are under all
pub true_first : (n : ℕ) (values : List Bool) (ls : List Literal) → span ls ≤ n → AreTrue values ls → AreTrue (take n values) ls
true_first n values [] h t = tt
true_first n values (l ∷ ls) h t = (value_of-take n values l (omega arith) ∙ t.0, true_first n values ls (omega arith) t.1)
