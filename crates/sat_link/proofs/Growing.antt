-- The nodes that have their clauses grow towards those of the gates.
use Rattle.std.proofs.Common.{◌≡◌, ◌<◌, ◌≤◌, ◌+◌, ℕ, max, List, [], ◌∷◌, ◌++◌, length, take, sym, ap, subst, ◌∙◌, arith}
use Rattle.std.proofs.lemmas.List.{take_more, length_push}
use Rattle.gates.specs.declared.node.Node.{Node}
use Rattle.gates.specs.declared.node.Node.TheVariants.{True}
use Rattle.gates.specs.Nodes.{node_at, Grows}
use Rattle.gates.specs.Valuation.{value_at, MayBe}
use Rattle.gates.proofs.Growth.{Grows-refl, Grows-append, Grows-trans, node_at-Grows}
use Rattle.sat_log.specs.Literal.{Literal}
use Rattle.sat_log.specs.Accepted.{originals}
use Rattle.sat_link.specs.Definitional.{IsDefinitional}
use Rattle.sat_link.specs.Contents.{Contents, HasDefinitions, AddsOriginals, GrowsTowards}
use Rattle.sat_link.proofs.Adding.{AddsOriginals-refl, AddsOriginals-trans}
use Rattle.sat_link.proofs.Defining.{definitional}

-- what defines gates defines them when they have grown
pub definitional_grows : (old new : List Node) (cs : List (List Literal)) → Grows old new → IsDefinitional old cs → IsDefinitional new cs
definitional_grows old new cs grows d values v =
    d values (
    record {
      enough = omega (arith, v.enough, grows.longer);
      constant = v.constant;
      agrees = λ n l. subst (λ y. MayBe values y (value_at values n)) (node_at-Grows grows n l) (v.agrees n (omega (arith, l, grows.longer)));
    }
    )

pub defined_definitional : (kept : Contents) (gates : List Node) → HasDefinitions kept → Grows kept.nodes gates → IsDefinitional gates (originals kept.log)
defined_definitional kept gates h grows =
    definitional_grows kept.nodes gates (originals kept.log) grows (subst (IsDefinitional kept.nodes) (sym h.clauses) (definitional kept.nodes))

pub searched_definitional : (mid kept : Contents) (gates : List Node) → HasDefinitions kept → kept.nodes ≡ mid.nodes → Grows mid.nodes gates → IsDefinitional gates (originals kept.log)
searched_definitional mid kept gates h same grows =
    defined_definitional kept gates h (subst (λ ns. Grows ns gates) (sym same) grows)

-- one more node is a prefix still
next_prefix : (nodes gates : List Node) (n : ℕ) (y : Node) → Grows nodes gates → length nodes ≡ n → n < length gates → y ≡ node_at gates n → Grows (nodes ++ y ∷ []) gates
next_prefix nodes gates n y grows count below at =
    let long : length (nodes ++ y ∷ []) ≡ n + 1 = omega (arith, length_push nodes y) in
    record {
      longer = omega (arith, length_push nodes y);
      kept = ap (λ m. take m gates) long ∙ take_more gates n True below ∙ ap (λ ns. ns ++ node_at gates n ∷ []) (ap (λ m. take m gates) (sym count) ∙ grows.kept) ∙ ap (λ z. nodes ++ z ∷ []) (sym at);
    }

-- the next node got its clauses
pub towards_next : (gates : List Node) (start old new : Contents) (n : ℕ) (y : Node) → GrowsTowards gates start old → length old.nodes ≡ n → n < length gates → y ≡ node_at gates n
    → new.nodes ≡ old.nodes ++ y ∷ [] → new.variables ≡ max old.variables (length new.nodes) → AddsOriginals old.log new.log → GrowsTowards gates start new
towards_next gates start old new n y t count below at more variables adds = record {
  grown = subst (Grows start.nodes) (sym more) (Grows-trans t.grown (Grows-append old.nodes (y ∷ [])));
  prefix = subst (λ ns. Grows ns gates) (sym more) (next_prefix old.nodes gates n y t.prefix count below at);
  no_fewer = omega (arith, variables, t.no_fewer);
  no_more = omega (arith, variables, t.no_more, count, below, ap length more, length_push old.nodes y);
  log = AddsOriginals-trans start.log old.log new.log t.log adds;
}

-- memory was refused for it
pub towards_stopped : (gates : List Node) (start old new : Contents) → GrowsTowards gates start old → new.nodes ≡ old.nodes → start.variables ≤ new.variables → new.variables ≤ max start.variables (length gates) → AddsOriginals old.log new.log → GrowsTowards gates start new
towards_stopped gates start old new t same no_fewer no_more adds = record {
  grown = subst (Grows start.nodes) (sym same) t.grown;
  prefix = subst (λ ns. Grows ns gates) (sym same) t.prefix;
  no_fewer = no_fewer;
  no_more = no_more;
  log = AddsOriginals-trans start.log old.log new.log t.log adds;
}

-- nothing was done yet
pub towards_start : (gates : List Node) (start : Contents) → Grows start.nodes gates → GrowsTowards gates start start
towards_start gates start grows = record {
  grown = Grows-refl start.nodes;
  prefix = grows;
  no_fewer = omega arith;
  no_more = omega arith;
  log = AddsOriginals-refl start.log;
}
