-- How many parameters a module has, and what is wrong with an instance by that.
use Rattle.std.proofs.Common.{◌≡◌, ℕ, Bool, true, false, List, [], ◌∷◌, length, map, ap, sym, ◌∙◌, inl, inr, position}
use Rattle.std.specs.Prelude.{◌==◌, Option, Some, None, slice_get, if◌then◌else◌}
use Rattle.std.specs.Str.{bytes_eq}
use Rattle.std.proofs.lemmas.List.{length-map}
use Rattle.smv_tree.specs.declared.place.Place.{Place}
use Rattle.smv_tree.specs.declared.program.Module.{Module}
use Rattle.smv_tree.specs.Models.{Body, body_of, formal_of}
use Rattle.smv_meaning.specs.Instances.{find_body}
use Rattle.smv_meaning.proofs.Lists.{slice_get-map}
use Rattle.smv_graph.specs.Graph.{IsNumbered}
use Rattle.smv_graph.proofs.Named.{located, located_at}
use Rattle.type_fault.specs.declared.fault.TypeFault.TheVariants.{Unknown, Arity}
use Rattle.type_fault.specs.First.{earliest}
use Rattle.smv_modules.specs.References.{reference_faults}
use Rattle.smv_modules.specs.Counts.{count_of, counted_fault}
use Rattle.smv_modules.proofs.Doubles.{no_fault, one_fault}

pub count_some : (xs : List Module) (m : List ℕ) (n : ℕ) (r : Module) → IsNumbered (map body_of xs) m n → slice_get xs n ≡ Some r → Some (length r.params.items) ≡ count_of (find_body m (map body_of xs))
count_some xs m n r d e =
    let l = located_at (map body_of xs) m n d in
    let there : slice_get (map body_of xs) n ≡ Some (body_of r) = slice_get-map body_of xs n r e in
    let found : find_body m (map body_of xs) ≡ Some (body_of r) = l.1.found ∙ (sym l.1.there ∙ there) in
    sym (ap count_of found ∙ ap Some (length-map r.params.items formal_of))

pub count_none : (program : List Body) (m : List ℕ) → position (λ b. bytes_eq b.name m) program ≡ None → None ≡ count_of (find_body m program)
count_none program m e = elim (located program m) [
  | inl none ↦ sym (ap count_of none.1)
  | inr (k, b, l) ↦ absurd (let d : position (λ x. bytes_eq x.name m) program ≡ Some k = l.numbered in cc)
]

pub counted_first : (m : List ℕ) (place : Place) (given : ℕ) (o : Option Body) → counted_fault m place given (count_of o) ≡ earliest (reference_faults m place given o)
counted_first m place given None = sym (one_fault (Unknown place (m ∷ [])))
counted_first m place given (Some b) = by_test (length b.params == given)
  where
    by_test : (t : Bool) → (if t then None else Some (Arity place)) ≡ earliest (if t then [] else Arity place ∷ [])
    by_test true = sym no_fault
    by_test false = sym (one_fault (Arity place))
