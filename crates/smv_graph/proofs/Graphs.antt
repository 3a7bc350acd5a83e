-- The graph of a program by numbers of names, and that it leads to modules alone.
use Rattle.std.proofs.Common.{◌≡◌, ◌<◌, ℕ, zero, suc, List, [], ◌∷◌, length, map, refl, sym, subst, arith, inl, inr}
use Rattle.std.specs.Prelude.{◌⊎◌, Contains, Some, position}
use Rattle.std.specs.Map.{lookup}
use Rattle.std.specs.Str.{bytes_eq}
use Rattle.std.proofs.lemmas.List.{length-map}
use Rattle.std.proofs.lemmas.List.Quantifiers.{position-Some}
use Rattle.std.proofs.lemmas.List.Elements.{Contains-append_cases}
use Rattle.smv_tree.specs.Models.{Body, Part, variable, define, assign, constraint, property, plain, instance}
use Rattle.smv_graph.specs.Graph.{module_number, graph_of, target_in, Leads, IsClosed}

none_in : {X : Type 0} (x : X) → Contains [] x → ⊥
none_in x (k, l, e) = omega arith

pub made_of : {X Y : Type 0} (f : X → Y) (xs : List X) (y : Y) → Contains (map f xs) y → (x : X) × (f x ≡ y)
made_of f [] y c = absurd (none_in y c)
made_of {X} {Y} f (x ∷ xs) y c = by_place (Contains-append_cases (f x ∷ []) (map f xs) y c) (made_of f xs y)
  where
    by_place : Contains (f x ∷ []) y ⊎ Contains (map f xs) y → (Contains (map f xs) y → (z : X) × (f z ≡ y)) → (z : X) × (f z ≡ y)
    by_place (inl (zero, l, e)) rest = (x, e)
    by_place (inl (suc k, l, e)) rest = absurd (omega arith)
    by_place (inr d) rest = rest d

module _ (program : List Body) where
  -- a module's number is that of a module
  number_below : (part : Part) (b : ℕ) → module_number program part ≡ Some b → b < length program
  number_below (variable k n p (plain t q)) b e = absurd (cc)
  number_below (variable k n p (instance m q es)) b e = let owner : Body = record { name = []; place = p; params = []; parts = [] } in (position-Some (λ x. bytes_eq x.name m) program b owner e).0
  number_below (define n p x) b e = absurd (cc)
  number_below (assign k n p x) b e = absurd (cc)
  number_below (constraint s p x) b e = absurd (cc)
  number_below (property n p x) b e = absurd (cc)

  row_below : (some : List Body) (a b : ℕ) → Leads (map (λ m. map (module_number program) m.parts) some) a b → b < length program
  row_below [] a b c = absurd (none_in (Some b) c)
  row_below (m ∷ ms) zero b c = let made = made_of (module_number program) m.parts (Some b) c in number_below made.0 b made.1
  row_below (m ∷ ms) (suc a) b c = row_below ms a b c

  pub graph_closed : IsClosed (graph_of program)
  graph_closed a b c = subst (λ n. b < n) (sym (length-map program (λ m. map (module_number program) m.parts))) (row_below program a b c)

  module _ (numbers : List (List ℕ × ℕ)) (same : (m : List ℕ) → lookup (bytes_eq m) numbers ≡ position (λ b. bytes_eq b.name m) program) where
    same_target : (part : Part) → target_in numbers part ≡ module_number program part
    same_target (variable k n p (plain t q)) = refl
    same_target (variable k n p (instance m q es)) = same m
    same_target (define n p x) = refl
    same_target (assign k n p x) = refl
    same_target (constraint s p x) = refl
    same_target (property n p x) = refl

    same_row : (parts : List Part) → map (target_in numbers) parts ≡ map (module_number program) parts
    same_row [] = refl
    same_row (p ∷ ps) = let e = same_target p in let r = same_row ps in cc

    pub same_rows : (some : List Body) → map (λ b. map (target_in numbers) b.parts) some ≡ map (λ b. map (module_number program) b.parts) some
    same_rows [] = refl
    same_rows (b ∷ bs) = let e = same_row b.parts in let r = same_rows bs in cc
