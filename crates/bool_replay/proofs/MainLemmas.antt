-- What a plain program brings: one instance, and a state variable for each name.
use Rattle.std.proofs.Common.{◌≡◌, ℕ, true, List, [], ◌∷◌, ◌++◌, map, refl, ap, ◌∙◌}
use Rattle.std.specs.Prelude.{codes, flat_map}
use Rattle.std.specs.List.{list_all, filter_map}
use Rattle.std.specs.Str.{bytes_eq}
use Rattle.std.proofs.lemmas.Bool.{false≢true, and_parts}
use Rattle.smv_tree.specs.Trees.{Tree}
use Rattle.smv_tree.specs.Models.{Body, Part, variable, define, assign, constraint, property, plain, instance}
use Rattle.smv_tree.specs.declared.program.Kind.TheVariants as kind
use Rattle.smv_tree.specs.declared.value.Ty.TheVariants as type
use Rattle.smv_meaning.specs.Instances.{Instance, Variable, Entry, is_instance, instance_of, variable_of, part_entries, entries_below, entries, instances, variables}
use Rattle.bool_replay.specs.Plain.{is_plain_part, is_plain_body, is_empty, names_of}

-- the one instance
abbrev pub main_of : Body → Instance
main_of b = record { path = []; up = []; body = b; actuals = [] }

-- the variable of a name
abbrev pub variable_named : List ℕ → Variable
variable_named n = record { path = n ∷ []; kind = kind.State; type = type.Bool }

abbrev pub Below : Type 0
Below = List (List ℕ) → List (List ℕ) → List ℕ → List Tree → List Entry

-- the entries of a plain part, and then others
part_instances : (below : Below) (names : List (List ℕ)) (part : Part) (others : List Entry) → is_plain_part names part ≡ true → filter_map instance_of (part_entries below [] [] part ++ others) ≡ filter_map instance_of others
part_instances below names (variable kind.State n p (plain type.Bool q)) others e = refl
part_instances below names (variable kind.State n p (plain (type.Range a b) q)) others e = absurd (false≢true e)
part_instances below names (variable kind.State n p (plain (type.Enum vs) q)) others e = absurd (false≢true e)
part_instances below names (variable kind.State n p (plain (type.Word s w) q)) others e = absurd (false≢true e)
part_instances below names (variable kind.State n p (instance m q es)) others e = absurd (false≢true e)
part_instances below names (variable kind.Input n p s) others e = absurd (false≢true e)
part_instances below names (variable kind.Frozen n p s) others e = absurd (false≢true e)
part_instances below names (define n p x) others e = refl
part_instances below names (assign m n p x) others e = refl
part_instances below names (constraint s p x) others e = refl
part_instances below names (property n p f) others e = refl

part_variables : (below : Below) (names : List (List ℕ)) (part : Part) (parts : List Part) (others : List Entry) → is_plain_part names part ≡ true → filter_map variable_of others ≡ map variable_named (names_of parts) → filter_map variable_of (part_entries below [] [] part ++ others) ≡ map variable_named (names_of (part ∷ parts))
part_variables below names (variable kind.State n p (plain type.Bool q)) parts others e h = ap (λ vs. variable_named n ∷ vs) h
part_variables below names (variable kind.State n p (plain (type.Range a b) q)) parts others e h = absurd (false≢true e)
part_variables below names (variable kind.State n p (plain (type.Enum vs) q)) parts others e h = absurd (false≢true e)
part_variables below names (variable kind.State n p (plain (type.Word s w) q)) parts others e h = absurd (false≢true e)
part_variables below names (variable kind.State n p (instance m q es)) parts others e h = absurd (false≢true e)
part_variables below names (variable kind.Input n p s) parts others e h = absurd (false≢true e)
part_variables below names (variable kind.Frozen n p s) parts others e h = absurd (false≢true e)
part_variables below names (define n p x) parts others e h = h
part_variables below names (assign m n p x) parts others e h = h
part_variables below names (constraint s p x) parts others e h = h
part_variables below names (property n p f) parts others e h = h

parts_instances : (below : Below) (names : List (List ℕ)) (parts : List Part) → list_all (is_plain_part names) parts ≡ true → filter_map instance_of (flat_map (part_entries below [] []) parts) ≡ []
parts_instances below names [] e = refl
parts_instances below names (part ∷ parts) e =
    let p = and_parts (is_plain_part names part) (list_all (is_plain_part names) parts) e in
    part_instances below names part (flat_map (part_entries below [] []) parts) p.0 ∙ parts_instances below names parts p.1

parts_variables : (below : Below) (names : List (List ℕ)) (parts : List Part) → list_all (is_plain_part names) parts ≡ true → filter_map variable_of (flat_map (part_entries below [] []) parts) ≡ map variable_named (names_of parts)
parts_variables below names [] e = refl
parts_variables below names (part ∷ parts) e =
    let p = and_parts (is_plain_part names part) (list_all (is_plain_part names) parts) e in
    part_variables below names part parts (flat_map (part_entries below [] []) parts) p.0 (parts_variables below names parts p.1)

-- what is known of a plain module
pub record PlainFacts (b : Body) : Type 0 where
  pub named : bytes_eq b.name (codes "main") ≡ true
  pub params : is_empty b.params ≡ true
  pub plain_parts : list_all (is_plain_part (names_of b.parts)) b.parts ≡ true

pub plain_facts : (b : Body) → is_plain_body b ≡ true → PlainFacts b
plain_facts b e =
    let p = and_parts _ (list_all (is_plain_part (names_of b.parts)) b.parts) e in
    let q = and_parts _ _ p.0 in
    let r = and_parts (bytes_eq b.name (codes "main")) (is_empty b.params) q.0 in
    record { named = r.0; params = r.1; plain_parts = p.1 }

the_entries : (b : Body) → PlainFacts b → entries (b ∷ []) ≡ is_instance (main_of b) ∷ flat_map (part_entries (entries_below 0 (b ∷ [])) [] []) b.parts
the_entries b f = rw f.named refl

pub the_instances : (b : Body) → PlainFacts b → instances (b ∷ []) ≡ main_of b ∷ []
the_instances b f = ap (filter_map instance_of) (the_entries b f) ∙ ap (λ is. main_of b ∷ is) (parts_instances (entries_below 0 (b ∷ [])) (names_of b.parts) b.parts f.plain_parts)

pub the_variables : (b : Body) → PlainFacts b → variables (b ∷ []) ≡ map variable_named (names_of b.parts)
the_variables b f = ap (filter_map variable_of) (the_entries b f) ∙ parts_variables (entries_below 0 (b ∷ [])) (names_of b.parts) b.parts f.plain_parts
