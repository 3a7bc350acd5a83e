-- What names stand for in a plain program, and the values of its expressions.
use Rattle.std.proofs.Common.{◌≡◌, ℕ, Bool, true, false, ◌||◌, cond, List, [], ◌∷◌, ◌++◌, map, length, refl, ap, sym, ◌∙◌, subst, arith}
use Rattle.std.specs.Prelude.{Some, None, codes, position, ⊤}
use Rattle.std.specs.List.{list_all, list_any}
use Rattle.std.specs.Str.{bytes_eq}
use Rattle.std.proofs.Math.Path.{fun_ext}
use Rattle.std.proofs.lemmas.List.{append-nil}
use Rattle.std.proofs.lemmas.Bool.{false≢true, and_parts}
use Rattle.std.proofs.lemmas.Slice.Eq.{bytes_eq-Decides}
use Rattle.smv_tree.specs.Trees.{Tree}
use Rattle.smv_tree.specs.Models.{Body, Part, Formal, variable, define, assign, constraint, property, plain, instance}
use Rattle.smv_tree.specs.declared.program.Kind.TheVariants as kind
use Rattle.smv_tree.specs.declared.value.Ty.TheVariants as type
use Rattle.smv_tree.specs.declared.value.Value.{Value}
use Rattle.smv_tree.specs.declared.value.Value.TheVariants.{Truth}
use Rattle.smv_meaning.specs.Instances.{Instance, Variable, variables}
use Rattle.smv_meaning.specs.Names.{Target, to_variable, to_body, to_instance, to_symbol, to_nothing, instance_at, declared, or_else, member_of, symbol_of, first_target, actual_target, follow, resolve, same_names, names_symbol}
use Rattle.smv_meaning.specs.Values.{Naming, Snapshot, IsNaming, value_at, state_variables, input_variables, target_values}
use Rattle.smv_meaning.specs.Runs.{at_state}
use Rattle.bool_replay.specs.Plain.{is_plain_part, is_declared, is_empty, names_of}
use Rattle.bool_replay.specs.Evaluation.{bool_at}
use Rattle.bool_replay.proofs.PlainLemmas.{bytes_eq-flip, bytes_eq-other}
use Rattle.bool_replay.proofs.MainLemmas.{PlainFacts, main_of, variable_named, the_instances, the_variables}

-- a name that stands for no expression
abbrev pub IsName : Target → Type 0
IsName (to_variable path) = ⊤
IsName (to_body up e) = ⊥
IsName (to_instance up) = ⊤
IsName (to_symbol n) = ⊤
IsName to_nothing = ⊤

-- what a declaration of a plain part makes of a name, or else another
declared_is_name : (names : List (List ℕ)) (path up : List (List ℕ)) (n : List ℕ) (part : Part) (other : Target) → is_plain_part names part ≡ true → IsName other → IsName (or_else (declared path up n part) other)
declared_is_name names path up n (variable k m p (plain t q)) other e h = by_test (bytes_eq m n)
  where
    by_test : (b : Bool) → IsName (or_else (cond b (Some (to_variable (path ++ m ∷ []))) None) other)
    by_test true = tt
    by_test false = h
declared_is_name names path up n (variable kind.State m p (instance b q es)) other e h = absurd (false≢true e)
declared_is_name names path up n (variable kind.Input m p (instance b q es)) other e h = absurd (false≢true e)
declared_is_name names path up n (variable kind.Frozen m p (instance b q es)) other e h = absurd (false≢true e)
declared_is_name names path up n (define m p x) other e h = absurd (false≢true e)
declared_is_name names path up n (assign m k p x) other e h = h
declared_is_name names path up n (constraint s p x) other e h = h
declared_is_name names path up n (property m p f) other e h = h

member_is_name : (names : List (List ℕ)) (path up : List (List ℕ)) (n : List ℕ) (parts : List Part) (other : Target) → list_all (is_plain_part names) parts ≡ true → IsName other → IsName (member_of path up n parts other)
member_is_name names path up n [] other e h = h
member_is_name names path up n (part ∷ parts) other e h =
    let p = and_parts (is_plain_part names part) (list_all (is_plain_part names) parts) e in
    declared_is_name names path up n part (member_of path up n parts other) p.0 (member_is_name names path up n parts other p.1 h)

symbol_is_name : (program : List Body) (n : List ℕ) → IsName (symbol_of program n)
symbol_is_name program n = by_test (list_any (λ b. list_any (names_symbol n) b.parts) program)
  where
    by_test : (b : Bool) → IsName (cond b (to_symbol n) to_nothing)
    by_test true = tt
    by_test false = tt

-- what else a first name of the main module may be
abbrev pub otherwise : Body → List ℕ → Target
otherwise b n = cond (bytes_eq (codes "self") n) (to_instance []) (symbol_of (b ∷ []) n)

otherwise_is_name : (b : Body) (n : List ℕ) → IsName (otherwise b n)
otherwise_is_name b n = by_test (bytes_eq (codes "self") n)
  where
    by_test : (t : Bool) → IsName (cond t (to_instance []) (symbol_of (b ∷ []) n))
    by_test true = tt
    by_test false = symbol_is_name (b ∷ []) n

no_params : (params : List Formal) (n : List ℕ) → is_empty params ≡ true → position (λ f. bytes_eq f.name n) params ≡ None
no_params [] n e = refl
no_params (f ∷ params) n e = absurd (false≢true e)

-- what a first name of the main module stands for
the_first : (b : Body) → PlainFacts b → (actual : Tree → Target) (n : List ℕ) → first_target (b ∷ []) actual (main_of b) n ≡ member_of [] [] n b.parts (otherwise b n)
the_first b f actual n = rw (no_params b.params n f.params, first_target) refl

follow_is_name : (b : Body) → PlainFacts b → (t : Target) (rest : List (List ℕ)) → IsName t → IsName (follow (main_of b ∷ []) t rest)
follow_is_name b f t [] h = h
follow_is_name b f (to_variable path) (n ∷ rest) h = tt
follow_is_name b f (to_body up e) (n ∷ rest) h = absurd h
follow_is_name b f (to_symbol m) (n ∷ rest) h = tt
follow_is_name b f to_nothing (n ∷ rest) h = tt
follow_is_name b f (to_instance []) (n ∷ rest) h =
    follow_is_name b f (member_of [] [] n b.parts to_nothing) rest (member_is_name (names_of b.parts) [] [] n b.parts to_nothing f.plain_parts tt)
follow_is_name b f (to_instance (m ∷ up)) (n ∷ rest) h = tt

-- a path of names, looked up among instances
abbrev pub looked_up : List Body → (Tree → Target) → List Instance → List (List ℕ) → List ℕ → List (List ℕ) → Target
looked_up program actual all up n rest =
    elim (instance_at all up) [ Some i ↦ follow all (first_target program actual i n) rest | None ↦ to_nothing ]

-- what a path of names stands for in the main module
pub the_resolved : (b : Body) → PlainFacts b → (n : List ℕ) (rest : List (List ℕ)) → resolve (b ∷ []) [] (n ∷ rest) ≡ follow (main_of b ∷ []) (member_of [] [] n b.parts (otherwise b n)) rest
the_resolved b f n rest =
    ap (λ all. looked_up (b ∷ []) (λ _. to_nothing) all [] n rest) (the_instances b f)
    ∙ ap (λ t. follow (main_of b ∷ []) t rest) (the_first b f (λ _. to_nothing) n)

-- no path of names of a plain program stands for an expression
resolve_is_name : (b : Body) → PlainFacts b → (up names : List (List ℕ)) → IsName (resolve (b ∷ []) up names)
resolve_is_name b f [] [] = tt
resolve_is_name b f [] (n ∷ rest) =
    subst IsName (sym (the_resolved b f n rest))
    (follow_is_name b f (member_of [] [] n b.parts (otherwise b n)) rest (member_is_name (names_of b.parts) [] [] n b.parts (otherwise b n) f.plain_parts (otherwise_is_name b n)))
resolve_is_name b f (m ∷ up) [] = tt
resolve_is_name b f (m ∷ up) (n ∷ rest) =
    subst IsName (sym (ap (λ all. looked_up (b ∷ []) (actual_target up (resolve (b ∷ []) up)) all (m ∷ up) n rest) (the_instances b f))) tt

-- the values of names in a state
abbrev pub naming_of : Body → List Value → Naming
naming_of b s up names = target_values (variables (b ∷ [])) (at_state s) (λ _ _. []) (resolve (b ∷ []) up names)

-- the value of a name that stands for no expression does not look at other names
name_alone : (vars : List Variable) (m : Snapshot) (now other : Naming) (t : Target) → IsName t → target_values vars m now t ≡ target_values vars m other t
name_alone vars m now other (to_variable path) h = refl
name_alone vars m now other (to_body up e) h = absurd h
name_alone vars m now other (to_instance up) h = refl
name_alone vars m now other (to_symbol n) h = refl
name_alone vars m now other to_nothing h = refl

pub naming_is_right : (b : Body) → PlainFacts b → (s : List Value) → IsNaming (b ∷ []) (at_state s) (naming_of b s)
naming_is_right b f s up names = name_alone (variables (b ∷ [])) (at_state s) (λ _ _. []) (naming_of b s) (resolve (b ∷ []) up names) (resolve_is_name b f up names)

pub naming_is_only : (b : Body) → PlainFacts b → (s : List Value) (now : Naming) → IsNaming (b ∷ []) (at_state s) now → now ≡ naming_of b s
naming_is_only b f s now h =
    fun_ext (λ up. fun_ext (λ names. h up names ∙ name_alone (variables (b ∷ [])) (at_state s) now (λ _ _. []) (resolve (b ∷ []) up names) (resolve_is_name b f up names)))

-- a name of its own path stands for itself
same_names-one : (m n : List ℕ) → same_names (m ∷ []) (n ∷ []) ≡ bytes_eq m n
same_names-one m n = by_test (bytes_eq m n)
  where
    by_test : (b : Bool) → cond b true false ≡ b
    by_test true = refl
    by_test false = refl

-- a declared name stands for its variable
member_declared : (names : List (List ℕ)) (n : List ℕ) (parts : List Part) (other : Target) → list_all (is_plain_part names) parts ≡ true → is_declared (names_of parts) n ≡ true → member_of [] [] n parts other ≡ to_variable (n ∷ [])
member_declared names n [] other e d = absurd (false≢true d)
member_declared names n (variable kind.State m p (plain type.Bool q) ∷ parts) other e d =
    by_test (bytes_eq m n) refl (member_declared names n parts other e)
  where
    by_test : (b : Bool) → bytes_eq m n ≡ b → (is_declared (names_of parts) n ≡ true → member_of [] [] n parts other ≡ to_variable (n ∷ [])) → or_else (cond b (Some (to_variable (m ∷ []))) None) (member_of [] [] n parts other) ≡ to_variable (n ∷ [])
    by_test true h rest = ap (λ k. to_variable (k ∷ [])) ((bytes_eq-Decides m n).0 h)
    by_test false h rest = rest (ap (λ b. b || is_declared (names_of parts) n) (sym (bytes_eq-other m n h)) ∙ d)
member_declared names n (variable kind.State m p (plain (type.Range a b) q) ∷ parts) other e d = absurd (false≢true e)
member_declared names n (variable kind.State m p (plain (type.Enum vs) q) ∷ parts) other e d = absurd (false≢true e)
member_declared names n (variable kind.State m p (plain (type.Word s w) q) ∷ parts) other e d = absurd (false≢true e)
member_declared names n (variable kind.State m p (instance b q es) ∷ parts) other e d = absurd (false≢true e)
member_declared names n (variable kind.Input m p s ∷ parts) other e d = absurd (false≢true e)
member_declared names n (variable kind.Frozen m p s ∷ parts) other e d = absurd (false≢true e)
member_declared names n (define m p x ∷ parts) other e d = absurd (false≢true e)
member_declared names n (assign m k p x ∷ parts) other e d = absurd (false≢true e)
member_declared names n (constraint s p x ∷ parts) other e d =
    member_declared names n parts other (and_parts (is_plain_part names (constraint s p x)) (list_all (is_plain_part names) parts) e).1 d
member_declared names n (property m p f ∷ parts) other e d = absurd (false≢true e)

-- the variables of the names belong to states
pub named_states : (names : List (List ℕ)) → state_variables (map variable_named names) ≡ map variable_named names
named_states [] = refl
named_states (n ∷ names) = ap (λ vs. variable_named n ∷ vs) (named_states names)

-- the value of a variable in a state
value_named : (names : List (List ℕ)) (bools : List Bool) (n : List ℕ) → length bools ≡ length names → is_declared names n ≡ true → value_at (map variable_named names) (n ∷ []) (map Truth bools) ≡ Truth (bool_at names bools n) ∷ []
value_named [] bools n e d = absurd (false≢true d)
value_named (m ∷ names) [] n e d = absurd (omega arith)
value_named (m ∷ names) (x ∷ bools) n e d =
    by_test (bytes_eq n m) refl (value_named names bools n (omega arith)) d
  where
    by_test : (b : Bool) → bytes_eq n m ≡ b → (is_declared names n ≡ true → value_at (map variable_named names) (n ∷ []) (map Truth bools) ≡ Truth (bool_at names bools n) ∷ []) → (b || is_declared names n) ≡ true
        → cond (same_names (m ∷ []) (n ∷ [])) (Truth x ∷ []) (value_at (map variable_named names) (n ∷ []) (map Truth bools)) ≡ Truth (cond b x (bool_at names bools n)) ∷ []
    by_test true h rest g = ap (λ t. cond t (Truth x ∷ []) (value_at (map variable_named names) (n ∷ []) (map Truth bools))) (same_names-one m n ∙ bytes_eq-flip n m h)
    by_test false h rest g = ap (λ t. cond t (Truth x ∷ []) (value_at (map variable_named names) (n ∷ []) (map Truth bools))) (same_names-one m n ∙ bytes_eq-other n m h) ∙ rest g

no_value : (vars : List Variable) (path : List (List ℕ)) → value_at vars path [] ≡ []
no_value [] path = refl
no_value (v ∷ vars) path = refl

-- the value of a declared name
pub name_value : (b : Body) → PlainFacts b → (bools : List Bool) (n : List ℕ) → length bools ≡ length (names_of b.parts) → is_declared (names_of b.parts) n ≡ true → naming_of b (map Truth bools) [] (n ∷ []) ≡ Truth (bool_at (names_of b.parts) bools n) ∷ []
name_value b f bools n e d =
    ap (target_values (variables (b ∷ [])) (at_state (map Truth bools)) (λ _ _. [])) (the_resolved b f n [] ∙ member_declared (names_of b.parts) n b.parts (otherwise b n) f.plain_parts d)
    ∙ (ap (λ vs. value_at (state_variables vars) (n ∷ []) (map Truth bools) ++ vs) (no_value (input_variables vars) (n ∷ []))
    ∙ (append-nil _
    ∙ (ap (λ vs. value_at (state_variables vs) (n ∷ []) (map Truth bools)) (the_variables b f)
    ∙ (ap (λ vs. value_at vs (n ∷ []) (map Truth bools)) (named_states (names_of b.parts)) ∙ value_named (names_of b.parts) bools n e d))))
  where
    vars : List Variable
    vars = variables (b ∷ [])
