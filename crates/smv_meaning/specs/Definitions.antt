-- The definitions of a program, which are the parameters and the defines of its instances, and what
-- their bodies use.
use Rattle.std.specs.Prelude.{◌≡◌, ◌⊎◌, ℕ, Bool, false, List, [], ◌∷◌, ◌++◌, Contains, Option, Some, None, if◌then◌else◌, find, option_and_then, flat_map, filter_map}
use Rattle.std.specs.List.{list_any}
use Rattle.std.specs.Str.{bytes_eq}
use Rattle.smv_tree.specs.declared.place.Place.{Place}
use Rattle.smv_tree.specs.Trees.{Tree, Trees, Arms, truth, number, word, name, span, set, cases, choice, one, two, select, next, widen, const, count, no_trees, tree, no_arms, arm}
use Rattle.smv_tree.specs.Models.{Body, Part, Formal, variable, define}
use Rattle.smv_meaning.specs.Instances.{Instance, instances}
use Rattle.smv_meaning.specs.Names.{to_instance, instance_at, resolve}

-- the paths of names in an expression, in the order of the text
abbrev mutual
  pub names_in : Tree → List (List (List ℕ))
  names_in (truth p b) = []
  names_in (number p n) = []
  names_in (word p w) = []
  names_in (name p names) = names ∷ []
  names_in (span p low high) = []
  names_in (set p es) = names_in_all es
  names_in (cases p bs) = names_in_arms bs
  names_in (choice p c a b) = names_in c ++ (names_in a ++ names_in b)
  names_in (one p o a) = names_in a
  names_in (two p o a b) = names_in a ++ names_in b
  names_in (select p a high low) = names_in a
  names_in (next p a) = names_in a
  names_in (widen p resize a n) = names_in a
  names_in (const p signed v n) = []
  names_in (count p es) = names_in_all es

  pub names_in_all : Trees → List (List (List ℕ))
  names_in_all no_trees = []
  names_in_all (tree e es) = names_in e ++ names_in_all es

  pub names_in_arms : Arms → List (List (List ℕ))
  names_in_arms no_arms = []
  names_in_arms (arm c a bs) = names_in c ++ (names_in a ++ names_in_arms bs)

-- a parameter or a define of an instance: the names of the instance from the innermost outwards,
-- its own name with the place of it, and its body with the names of the instance in which the body
-- stands
pub record Definition : Type 0 where
  pub up : List (List ℕ)
  pub name : List ℕ
  pub place : Place
  pub around : List (List ℕ)
  pub body : Tree

-- the names of the instance around one of these names
abbrev pub outer : List (List ℕ) → List (List ℕ)
outer [] = []
outer (n ∷ around) = around

-- the parameters of an instance, whose actuals stand in the instance around it
abbrev pub parameters_of : List (List ℕ) → List Formal → List Tree → List Definition
parameters_of up (f ∷ fs) (e ∷ es) =
    record { up = up; name = f.name; place = f.place; around = outer up; body = e }
    ∷ parameters_of up fs es
parameters_of up _ _ = []

abbrev pub define_of : List (List ℕ) → Part → Option Definition
define_of up (define n p e) = Some (record { up = up; name = n; place = p; around = up; body = e })
define_of up _ = None

-- the parameters of an instance, and then its defines
abbrev pub definitions_of : Instance → List Definition
definitions_of i = parameters_of i.up i.body.params i.actuals ++ filter_map (define_of i.up) i.body.parts

-- the definitions of a program, in the order of its instances
abbrev pub definitions : List Body → List Definition
definitions program = flat_map definitions_of (instances program)

-- a declaration of this name
abbrev pub declares : List ℕ → Part → Bool
declares n (variable k m p s) = bytes_eq m n
declares n (define m p e) = bytes_eq m n
declares n _ = false

-- the define of this name, unless a variable of that name stands before it
abbrev pub define_named : Instance → List ℕ → Option Definition
define_named i n = option_and_then (define_of i.up) (find (declares n) i.body.parts)

-- the parameter of this name, or else the define
abbrev pub definition_named : Instance → List ℕ → Option Definition
definition_named i n =
    if list_any (λ f. bytes_eq f.name n) i.body.params
    then find (λ d. bytes_eq d.name n) (parameters_of i.up i.body.params i.actuals)
    else define_named i n

-- a name alone names a parameter or a define of its instance
pub record NamesOwn (program : List Body) (up names : List (List ℕ)) (d : Definition) : Type 0 where
  pub instance : Instance
  pub at_up : instance_at (instances program) up ≡ Some instance
  pub alone : names ≡ d.name ∷ []
  pub defined : definition_named instance d.name ≡ Some d

-- a path of names names a define of the instance for which its front stands
pub record NamesBehind (program : List Body) (up names : List (List ℕ)) (d : Definition) : Type 0 where
  pub instance : Instance
  pub front : List (List ℕ)
  pub at_front : resolve program up front ≡ to_instance d.up
  pub at_up : instance_at (instances program) d.up ≡ Some instance
  pub last : names ≡ front ++ d.name ∷ []
  pub defined : define_named instance d.name ≡ Some d

-- a path of names in an instance names this definition
abbrev pub Names : List Body → List (List ℕ) → List (List ℕ) → Definition → Type 0
Names program up names d = NamesOwn program up names d ⊎ NamesBehind program up names d

-- the body of a definition names another, or itself
abbrev pub Uses : List Body → Definition → Definition → Type 0
Uses program d e = (names : List (List ℕ)) × Contains (names_in d.body) names × Names program d.around names e
