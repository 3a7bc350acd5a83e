-- What the first name of a path stands for: a parameter, a declaration, or neither.
use Rattle.std.proofs.Common.{◌≡◌, ◌+◌, ℕ, suc, Bool, true, false, cond, ◌||◌, List, [], ◌∷◌, ◌++◌, refl, ap, sym, ◌∙◌, arith}
use Rattle.std.specs.Prelude.{Option, Some, None, codes, find, slice_get, option_and_then}
use Rattle.std.specs.List.{list_any, position_from}
use Rattle.std.specs.Str.{bytes_eq}
use Rattle.std.proofs.lemmas.Bool.{false≢true}
use Rattle.std.proofs.lemmas.Slice.Eq.{bytes_eq-Decides}
use Rattle.std.proofs.lemmas.Iterator.Adapters.{position_from-zero}
use Rattle.smv_tree.specs.Trees.{Tree}
use Rattle.smv_tree.specs.Models.{Body, Part, Formal, variable, define, assign, constraint, property, plain, instance}
use Rattle.smv_meaning.specs.Instances.{Instance}
use Rattle.smv_meaning.specs.Names.{Target, to_variable, to_body, to_instance, to_symbol, to_nothing, or_else, member_of, names_symbol, symbol_of, first_target}
use Rattle.smv_meaning.specs.Definitions.{Definition, outer, parameters_of, define_of, declares}
use Rattle.smv_meaning.specs.Cycles.{OnBody}

-- a target that is no body
abbrev pub IsNoBody : Target → Type 0
IsNoBody = OnBody (λ up e. ⊥)

-- the actual of the first parameter of this name, or else another target
abbrev pub picked : (Tree → Target) → List ℕ → List Formal → List Tree → Target → Target
picked actual n [] es other = other
picked actual n (f ∷ fs) [] other = cond (bytes_eq f.name n) to_nothing (picked actual n fs [] other)
picked actual n (f ∷ fs) (e ∷ es) other = cond (bytes_eq f.name n) (actual e) (picked actual n fs es other)

-- what an actual stands for, if there is one
abbrev pub actual_or_nothing : (Tree → Target) → Option Tree → Target
actual_or_nothing actual (Some e) = actual e
actual_or_nothing actual None = to_nothing

-- the target of a place among all actuals, or else another
abbrev pub target_at : (Tree → Target) → List Tree → Target → Option ℕ → Target
target_at actual all other (Some k) = or_else (elim (slice_get all k) [ Some e ↦ Some (actual e) | None ↦ None ]) to_nothing
target_at actual all other None = other

target_at-some : (actual : Tree → Target) (all : List Tree) (other : Target) (k : ℕ) → target_at actual all other (Some k) ≡ actual_or_nothing actual (slice_get all k)
target_at-some actual all other k = by_actual (slice_get all k)
  where
    by_actual : (o : Option Tree) → or_else (elim o [ Some e ↦ Some (actual e) | None ↦ None ]) to_nothing ≡ actual_or_nothing actual o
    by_actual (Some e) = refl
    by_actual None = refl

-- the places from i on are those of the actuals that are left
picked_from : (actual : Tree → Target) (n : List ℕ) (fs : List Formal) (es all : List Tree) (other : Target) (i : ℕ) → ((j : ℕ) → slice_get all (i + j) ≡ slice_get es j) → target_at actual all other (position_from (λ f. bytes_eq f.name n) i fs) ≡ picked actual n fs es other
picked_from actual n [] es all other i h = refl
picked_from actual n (f ∷ fs) [] all other i h =
    by_test (bytes_eq f.name n) (target_at-some actual all other i ∙ ap (actual_or_nothing actual) (ap (slice_get all) (sym (omega arith)) ∙ h 0))
    (picked_from actual n fs [] all other (i + 1) (λ j. ap (slice_get all) (omega arith) ∙ h (suc j)))
  where
    by_test : (b : Bool) → target_at actual all other (Some i) ≡ to_nothing → target_at actual all other (position_from (λ f. bytes_eq f.name n) (i + 1) fs) ≡ picked actual n fs [] other
        → target_at actual all other (cond b (Some i) (position_from (λ f. bytes_eq f.name n) (i + 1) fs)) ≡ cond b to_nothing (picked actual n fs [] other)
    by_test true p q = p
    by_test false p q = q
picked_from actual n (f ∷ fs) (e ∷ es) all other i h =
    by_test (bytes_eq f.name n) (target_at-some actual all other i ∙ ap (actual_or_nothing actual) (ap (slice_get all) (sym (omega arith)) ∙ h 0))
    (picked_from actual n fs es all other (i + 1) (λ j. ap (slice_get all) (omega arith) ∙ h (suc j)))
  where
    by_test : (b : Bool) → target_at actual all other (Some i) ≡ actual e → target_at actual all other (position_from (λ f. bytes_eq f.name n) (i + 1) fs) ≡ picked actual n fs es other
        → target_at actual all other (cond b (Some i) (position_from (λ f. bytes_eq f.name n) (i + 1) fs)) ≡ cond b (actual e) (picked actual n fs es other)
    by_test true p q = p
    by_test false p q = q

-- what a first name is if it is neither a parameter nor declared
abbrev pub undeclared : List Body → Instance → List ℕ → Target
undeclared program i n = cond (bytes_eq (codes "self") n) (to_instance i.up) (symbol_of program n)

pub undeclared_is_no_body : (program : List Body) (i : Instance) (n : List ℕ) → IsNoBody (undeclared program i n)
undeclared_is_no_body program i n = by_tests (bytes_eq (codes "self") n) (list_any (λ b. list_any (names_symbol n) b.parts) program)
  where
    by_tests : (b c : Bool) → IsNoBody (cond b (to_instance i.up) (cond c (to_symbol n) to_nothing))
    by_tests true c = tt
    by_tests false true = tt
    by_tests false false = tt

pub first_target-picked : (program : List Body) (actual : Tree → Target) (i : Instance) (n : List ℕ) → first_target program actual i n ≡ picked actual n i.body.params i.actuals (member_of i.path i.up n i.body.parts (undeclared program i n))
first_target-picked program actual i n =
    ap (target_at actual i.actuals (member_of i.path i.up n i.body.parts (undeclared program i n))) (position_from-zero (λ f. bytes_eq f.name n) i.body.params)
    ∙ picked_from actual n i.body.params i.actuals i.actuals (member_of i.path i.up n i.body.parts (undeclared program i n)) 0 (λ j. ap (slice_get i.actuals) (omega arith))

-- a parameter of an instance has its name, and stands around the instance
pub record IsParameter (up : List (List ℕ)) (n : List ℕ) (d : Definition) : Type 0 where
  pub of : d.up ≡ up
  pub named : d.name ≡ n
  pub stands : d.around ≡ outer up

pub parameter_found : (up : List (List ℕ)) (n : List ℕ) (fs : List Formal) (es : List Tree) (d : Definition) → find (λ d. bytes_eq d.name n) (parameters_of up fs es) ≡ Some d → IsParameter up n d
parameter_found up n [] es d e = absurd (cc)
parameter_found up n (f ∷ fs) [] d e = absurd (cc)
parameter_found up n (f ∷ fs) (x ∷ es) d e = by_test (bytes_eq f.name n) refl e (parameter_found up n fs es d)
  where
    own : Definition
    own = record { up = up; name = f.name; place = f.place; around = outer up; body = x }

    by_test : (b : Bool) → bytes_eq f.name n ≡ b → cond b (Some own) (find (λ d. bytes_eq d.name n) (parameters_of up fs es)) ≡ Some d → (find (λ d. bytes_eq d.name n) (parameters_of up fs es) ≡ Some d → IsParameter up n d) → IsParameter up n d
    by_test true h e rest =
        let same : own ≡ d = cc in
        record { of = sym (ap (λ y. y.up) same); named = sym (ap (λ y. y.name) same) ∙ (bytes_eq-Decides f.name n).0 h; stands = sym (ap (λ y. y.around) same) }
    by_test false h e rest = rest e

-- the parameters of this name
abbrev pub parameter_named : List (List ℕ) → List ℕ → List Formal → List Tree → Option Definition
parameter_named up n fs es = find (λ d. bytes_eq d.name n) (parameters_of up fs es)

-- what stands first among parameters is the actual of the one that is found
pub picked_parameter : (actual : Tree → Target) (up : List (List ℕ)) (n : List ℕ) (fs : List Formal) (es : List Tree) (other : Target) (d : Definition) → parameter_named up n fs es ≡ Some d → picked actual n fs es other ≡ actual d.body
picked_parameter actual up n [] es other d e = absurd (cc)
picked_parameter actual up n (f ∷ fs) [] other d e = absurd (cc)
picked_parameter actual up n (f ∷ fs) (x ∷ es) other d e = by_test (bytes_eq f.name n) e (picked_parameter actual up n fs es other d)
  where
    own : Definition
    own = record { up = up; name = f.name; place = f.place; around = outer up; body = x }

    by_test : (b : Bool) → cond b (Some own) (parameter_named up n fs es) ≡ Some d → (parameter_named up n fs es ≡ Some d → picked actual n fs es other ≡ actual d.body) → cond b (actual x) (picked actual n fs es other) ≡ actual d.body
    by_test true e rest = let same : own ≡ d = cc in ap (λ y. actual y.body) same
    by_test false e rest = rest e

-- where no parameter has the name, it stands for something else
pub picked_other : (actual : Tree → Target) (n : List ℕ) (fs : List Formal) (es : List Tree) (other : Target) → list_any (λ f. bytes_eq f.name n) fs ≡ false → picked actual n fs es other ≡ other
picked_other actual n [] es other e = refl
picked_other actual n (f ∷ fs) [] other e = by_test (bytes_eq f.name n) e (picked_other actual n fs [] other)
  where
    by_test : (b : Bool) → (b || list_any (λ f. bytes_eq f.name n) fs) ≡ false → (list_any (λ f. bytes_eq f.name n) fs ≡ false → picked actual n fs [] other ≡ other) → cond b to_nothing (picked actual n fs [] other) ≡ other
    by_test true e rest = absurd (false≢true (sym e))
    by_test false e rest = rest e
picked_other actual n (f ∷ fs) (x ∷ es) other e = by_test (bytes_eq f.name n) e (picked_other actual n fs es other)
  where
    by_test : (b : Bool) → (b || list_any (λ f. bytes_eq f.name n) fs) ≡ false → (list_any (λ f. bytes_eq f.name n) fs ≡ false → picked actual n fs es other ≡ other) → cond b (actual x) (picked actual n fs es other) ≡ other
    by_test true e rest = absurd (false≢true (sym e))
    by_test false e rest = rest e

pub without_actuals : (up : List (List ℕ)) (n : List ℕ) (fs : List Formal) → parameter_named up n fs [] ≡ None
without_actuals up n [] = refl
without_actuals up n (f ∷ fs) = refl

-- a parameter without an actual stands for nothing
pub picked_missing : (actual : Tree → Target) (up : List (List ℕ)) (n : List ℕ) (fs : List Formal) (es : List Tree) (other : Target) → list_any (λ f. bytes_eq f.name n) fs ≡ true → parameter_named up n fs es ≡ None → IsNoBody (picked actual n fs es other)
picked_missing actual up n [] es other t e = absurd (false≢true t)
picked_missing actual up n (f ∷ fs) [] other t e = by_test (bytes_eq f.name n) t (λ u. picked_missing actual up n fs [] other u (without_actuals up n fs))
  where
    by_test : (b : Bool) → (b || list_any (λ f. bytes_eq f.name n) fs) ≡ true → (list_any (λ f. bytes_eq f.name n) fs ≡ true → IsNoBody (picked actual n fs [] other)) → IsNoBody (cond b to_nothing (picked actual n fs [] other))
    by_test true t rest = tt
    by_test false t rest = rest t
picked_missing actual up n (f ∷ fs) (x ∷ es) other t e = by_test (bytes_eq f.name n) t e (picked_missing actual up n fs es other)
  where
    own : Definition
    own = record { up = up; name = f.name; place = f.place; around = outer up; body = x }

    by_test : (b : Bool) → (b || list_any (λ f. bytes_eq f.name n) fs) ≡ true → cond b (Some own) (parameter_named up n fs es) ≡ None → (list_any (λ f. bytes_eq f.name n) fs ≡ true → parameter_named up n fs es ≡ None → IsNoBody (picked actual n fs es other)) → IsNoBody (cond b (actual x) (picked actual n fs es other))
    by_test true t e rest = absurd (cc)
    by_test false t e rest = rest t e

-- a define of an instance has its name, and stands in the instance
pub record IsDefine (up : List (List ℕ)) (n : List ℕ) (d : Definition) : Type 0 where
  pub of : d.up ≡ up
  pub named : d.name ≡ n
  pub stands : d.around ≡ up

-- the define of this name among declarations, unless a variable of that name stands before it
abbrev pub define_among : List (List ℕ) → List ℕ → List Part → Option Definition
define_among up n parts = option_and_then (define_of up) (find (declares n) parts)

pub define_found : (up : List (List ℕ)) (n : List ℕ) (parts : List Part) (d : Definition) → define_among up n parts ≡ Some d → IsDefine up n d
define_found up n [] d e = absurd (cc)
define_found up n (variable k m p s ∷ parts) d e = by_test (bytes_eq m n) e (define_found up n parts d)
  where
    by_test : (b : Bool) → option_and_then (define_of up) (cond b (Some (variable k m p s)) (find (declares n) parts)) ≡ Some d → (define_among up n parts ≡ Some d → IsDefine up n d) → IsDefine up n d
    by_test true e rest = absurd (cc)
    by_test false e rest = rest e
define_found up n (define m p x ∷ parts) d e = by_test (bytes_eq m n) refl e (define_found up n parts d)
  where
    own : Definition
    own = record { up = up; name = m; place = p; around = up; body = x }

    by_test : (b : Bool) → bytes_eq m n ≡ b → option_and_then (define_of up) (cond b (Some (define m p x)) (find (declares n) parts)) ≡ Some d → (define_among up n parts ≡ Some d → IsDefine up n d) → IsDefine up n d
    by_test true h e rest =
        let same : own ≡ d = cc in
        record { of = sym (ap (λ y. y.up) same); named = sym (ap (λ y. y.name) same) ∙ (bytes_eq-Decides m n).0 h; stands = sym (ap (λ y. y.around) same) }
    by_test false h e rest = rest e
define_found up n (assign k m p x ∷ parts) d e = define_found up n parts d e
define_found up n (constraint k p x ∷ parts) d e = define_found up n parts d e
define_found up n (property k p f ∷ parts) d e = define_found up n parts d e

-- what the declarations make of a name is the body of the define that is found
pub member_define : (path up : List (List ℕ)) (n : List ℕ) (parts : List Part) (other : Target) (d : Definition) → define_among up n parts ≡ Some d → member_of path up n parts other ≡ to_body up d.body
member_define path up n [] other d e = absurd (cc)
member_define path up n (variable k m p (plain t q) ∷ parts) other d e = by_test (bytes_eq m n) e (member_define path up n parts other d)
  where
    by_test : (b : Bool) → option_and_then (define_of up) (cond b (Some (variable k m p (plain t q))) (find (declares n) parts)) ≡ Some d → (define_among up n parts ≡ Some d → member_of path up n parts other ≡ to_body up d.body) → or_else (cond b (Some (to_variable (path ++ m ∷ []))) None) (member_of path up n parts other) ≡ to_body up d.body
    by_test true e rest = absurd (cc)
    by_test false e rest = rest e
member_define path up n (variable k m p (instance l q es) ∷ parts) other d e = by_test (bytes_eq m n) e (member_define path up n parts other d)
  where
    by_test : (b : Bool) → option_and_then (define_of up) (cond b (Some (variable k m p (instance l q es))) (find (declares n) parts)) ≡ Some d → (define_among up n parts ≡ Some d → member_of path up n parts other ≡ to_body up d.body) → or_else (cond b (Some (to_instance (m ∷ up))) None) (member_of path up n parts other) ≡ to_body up d.body
    by_test true e rest = absurd (cc)
    by_test false e rest = rest e
member_define path up n (define m p x ∷ parts) other d e = by_test (bytes_eq m n) e (member_define path up n parts other d)
  where
    own : Definition
    own = record { up = up; name = m; place = p; around = up; body = x }

    by_test : (b : Bool) → option_and_then (define_of up) (cond b (Some (define m p x)) (find (declares n) parts)) ≡ Some d → (define_among up n parts ≡ Some d → member_of path up n parts other ≡ to_body up d.body) → or_else (cond b (Some (to_body up x)) None) (member_of path up n parts other) ≡ to_body up d.body
    by_test true e rest = let same : own ≡ d = cc in ap (λ y. to_body up y.body) same
    by_test false e rest = rest e
member_define path up n (assign k m p x ∷ parts) other d e = member_define path up n parts other d e
member_define path up n (constraint k p x ∷ parts) other d e = member_define path up n parts other d e
member_define path up n (property k p f ∷ parts) other d e = member_define path up n parts other d e

-- where there is no such define, they make no body of it
pub member_no_body : (path up : List (List ℕ)) (n : List ℕ) (parts : List Part) (other : Target) → define_among up n parts ≡ None → IsNoBody other → IsNoBody (member_of path up n parts other)
member_no_body path up n [] other e h = h
member_no_body path up n (variable k m p (plain t q) ∷ parts) other e h = by_test (bytes_eq m n) e (λ f. member_no_body path up n parts other f h)
  where
    by_test : (b : Bool) → option_and_then (define_of up) (cond b (Some (variable k m p (plain t q))) (find (declares n) parts)) ≡ None → (define_among up n parts ≡ None → IsNoBody (member_of path up n parts other)) → IsNoBody (or_else (cond b (Some (to_variable (path ++ m ∷ []))) None) (member_of path up n parts other))
    by_test true e rest = tt
    by_test false e rest = rest e
member_no_body path up n (variable k m p (instance l q es) ∷ parts) other e h = by_test (bytes_eq m n) e (λ f. member_no_body path up n parts other f h)
  where
    by_test : (b : Bool) → option_and_then (define_of up) (cond b (Some (variable k m p (instance l q es))) (find (declares n) parts)) ≡ None → (define_among up n parts ≡ None → IsNoBody (member_of path up n parts other)) → IsNoBody (or_else (cond b (Some (to_instance (m ∷ up))) None) (member_of path up n parts other))
    by_test true e rest = tt
    by_test false e rest = rest e
member_no_body path up n (define m p x ∷ parts) other e h = by_test (bytes_eq m n) e (λ f. member_no_body path up n parts other f h)
  where
    by_test : (b : Bool) → option_and_then (define_of up) (cond b (Some (define m p x)) (find (declares n) parts)) ≡ None → (define_among up n parts ≡ None → IsNoBody (member_of path up n parts other)) → IsNoBody (or_else (cond b (Some (to_body up x)) None) (member_of path up n parts other))
    by_test true e rest = absurd (cc)
    by_test false e rest = rest e
member_no_body path up n (assign k m p x ∷ parts) other e h = member_no_body path up n parts other e h
member_no_body path up n (constraint k p x ∷ parts) other e h = member_no_body path up n parts other e h
member_no_body path up n (property k p f ∷ parts) other e h = member_no_body path up n parts other e h
