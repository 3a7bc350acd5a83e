-- The instances of a program as nodes, one after the other.
use Rattle.std.proofs.Common.{◌≡◌, ◌<◌, ℕ, zero, suc, List, [], ◌∷◌, ◌++◌, length, flat_map, refl, ap, sym, ◌∙◌, subst, arith, inl, inr, append_assoc, position}
use Rattle.std.specs.Prelude.{Contains, Option, Some, None, codes, reverse, slice_get, filter_map}
use Rattle.std.specs.List.{AllZip, cons_option}
use Rattle.std.specs.Map.{lookup}
use Rattle.std.specs.Str.{bytes_eq}
use Rattle.std.proofs.lemmas.List.{append-nil, reverse-append, length-append}
use Rattle.std.proofs.lemmas.List.Elements.{filter_map-append}
use Rattle.std.proofs.lemmas.Grind.{flat_map-append}
use Rattle.std.proofs.lemmas.Option.{slice_get_within}
use Rattle.smv_tree.specs.Trees.{Tree}
use Rattle.smv_tree.specs.Models.{Body, Part, variable, define, assign, constraint, property, plain, instance}
use Rattle.smv_meaning.specs.Instances.{Instance, is_instance, find_body, list_of, instance_of, part_entries, entries_below, instances}
use Rattle.smv_meaning.specs.ModuleCycles.{module_of, Instantiates, IsReached, HasModuleCycle}
use Rattle.smv_meaning.proofs.Lists.{contains_first, contains_later, contains_filter_map}
use Rattle.smv_meaning.proofs.AllInstances.{entries_enough, reach_on}
use Rattle.smv_graph.specs.Graph.{IsNumbered}
use Rattle.smv_graph.proofs.Named.{IsLocated, located, located_at}
use Rattle.smv_modules.specs.declared.nodes.Node.{Node}
use Rattle.smv_modules.specs.Counts.{AreNumbers}
use Rattle.smv_modules.specs.Nodes.{node_of, node_in, IsPlaced, IsNode, AreNodesBehind, Waiting, brought, IsWaiting, IsSearch, AreNodes}

pub some_same : {X : Type 0} (a b : X) → Some a ≡ Some b → a ≡ b
some_same a b e = cc

pub no_elements : {X : Type 0} (xs : List X) → length xs ≡ 0 → xs ≡ []
no_elements [] e = refl
no_elements (x ∷ xs) e = absurd (omega arith)

pub slice_get-front : {X : Type 0} (xs more : List X) (k : ℕ) (x : X) → slice_get xs k ≡ Some x → slice_get (xs ++ more) k ≡ Some x
slice_get-front [] more k x e = absurd (cc)
slice_get-front (y ∷ ys) more zero x e = e
slice_get-front (y ∷ ys) more (suc k) x e = slice_get-front ys more k x e

slice_get-last : {X : Type 0} (xs : List X) (x : X) → slice_get (xs ++ x ∷ []) (length xs) ≡ Some x
slice_get-last [] x = refl
slice_get-last (y ∷ ys) x = slice_get-last ys x

zip_append : {A B : Type 0} (R : A → B → Type 0) (xs us : List A) (ys vs : List B) → AllZip R xs ys → AllZip R us vs → AllZip R (xs ++ us) (ys ++ vs)
zip_append R [] us [] vs h k = k
zip_append R [] us (y ∷ ys) vs h k = absurd h
zip_append R (x ∷ xs) us [] vs h k = absurd h
zip_append R (x ∷ xs) us (y ∷ ys) vs h k = (h.0, zip_append R xs us ys vs h.1 k)

placed_on : (all more : List Instance) (name : Option (List ℕ)) (k : ℕ) (path up : List (List ℕ)) → IsPlaced all name k path up → IsPlaced (all ++ more) name k path up
placed_on all more None k path up h = h
placed_on all more (Some n) k path up (j, e, p, u) = (j, slice_get-front all more k j e, p, u)

module _ (program : List Body) where
  waiting_on : (listed more : List Instance) (ws : List Waiting) (nodes : List Node) → AllZip (IsWaiting program listed) ws nodes → AllZip (IsWaiting program (listed ++ more)) ws nodes
  waiting_on listed more [] [] h = tt
  waiting_on listed more [] (n ∷ ns) h = absurd h
  waiting_on listed more (w ∷ ws) [] h = absurd h
  waiting_on listed more (w ∷ ws) (n ∷ ns) h =
      (record { numbered = h.0.numbered; reached = h.0.reached; placed = placed_on listed more n.name n.parent w.path w.up h.0.placed }, waiting_on listed more ws ns h.1)

  nodes_more : (before all : List Instance) (nodes : List Node) (i : Instance) (node : Node) → AreNodesBehind program before all nodes → IsNode program (before ++ all) i node → AreNodesBehind program before (all ++ i ∷ []) (nodes ++ node ∷ [])
  nodes_more before [] [] i node h n = (subst (λ b. IsNode program b i node) (append-nil before) n, tt)
  nodes_more before [] (m ∷ ms) i node h n = absurd h
  nodes_more before (j ∷ js) [] i node h n = absurd h
  nodes_more before (j ∷ js) (m ∷ ms) i node h n =
      (h.0, nodes_more (before ++ j ∷ []) js ms i node h.1 (subst (λ b. IsNode program b i node) (sym (append_assoc before (j ∷ []) js)) n))

  pub nodes_length : (before all : List Instance) (nodes : List Node) → AreNodesBehind program before all nodes → length all ≡ length nodes
  nodes_length before [] [] h = refl
  nodes_length before [] (m ∷ ms) h = absurd h
  nodes_length before (j ∷ js) [] h = absurd h
  nodes_length before (j ∷ js) (m ∷ ms) h = ap suc (nodes_length (before ++ j ∷ []) js ms h.1)

  -- the instance that waits
  abbrev the_instance : Waiting → Body → Instance
  the_instance w b = record { path = w.path; up = w.up; body = b; actuals = w.actuals }

  -- the instances that parts bring within one that waits
  abbrev within : Waiting → List Part → List Instance
  within w parts = filter_map instance_of (flat_map (part_entries (entries_below (length program) program) w.path w.up) parts)

  absent : (m : List ℕ) → find_body m program ≡ None → (n : ℕ) (path up : List (List ℕ)) (actuals : List Tree) → entries_below n program path up m actuals ≡ []
  absent m e zero path up actuals = refl
  absent m e (suc n) path up actuals =
      ap (list_of (λ body. is_instance (record { path = path; up = up; body = body; actuals = actuals }) ∷ flat_map (part_entries (entries_below n program) path up) body.parts)) e

  -- waiting instances that bring these
  record AreBelow (listed some : List Instance) (nodes : List Node) : Type 0 where
    waits : List Waiting
    are : AllZip (IsWaiting program listed) waits nodes
    bring : some ≡ flat_map (brought program) waits

  module _ (none : HasModuleCycle program → ⊥) where
    brought_first : (w : Waiting) (b : Body) → IsReached program w.of → find_body w.of program ≡ Some b → brought program w ≡ the_instance w b ∷ within w b.parts
    brought_first w b reached found =
        ap (filter_map instance_of) (sym (entries_enough program none w.of reached (suc (length program)) w.path w.up w.actuals (omega arith))
        ∙ ap (list_of (λ body. is_instance (record { path = w.path; up = w.up; body = body; actuals = w.actuals }) ∷ flat_map (part_entries (entries_below (length program) program) w.path w.up) body.parts)) found)

  module _ (numbers : List (List ℕ × ℕ)) (are : AreNumbers numbers program) (listed : List Instance) (w : Waiting) (b : Body) (parent : ℕ) (reached : IsReached program w.of) (found : find_body w.of program ≡ Some b) (stands : slice_get listed parent ≡ Some (the_instance w b)) where
    -- an instance variable of the module
    one_below : (n m : List ℕ) (es : List Tree) (parts : List Part) (nodes : List Node) → Instantiates program w.of m → AreBelow listed (within w parts) nodes
        → AreBelow listed (brought program (record { path = w.path ++ n ∷ []; up = n ∷ w.up; of = m; actuals = es }) ++ within w parts) (cons_option (node_of n parent (lookup (bytes_eq m) numbers)) nodes)
    one_below n m es parts nodes i rest = elim (located program m) [
      | inl (p, f) ↦ (
          let no : lookup (bytes_eq m) numbers ≡ None = are m ∙ p in
          let nothing : brought program inner ≡ [] = ap (filter_map instance_of) (absent m f (length program) inner.path inner.up es) in
          record {
            waits = rest.waits;
            are = subst (λ o. AllZip (IsWaiting program listed) rest.waits (cons_option (node_of n parent o) nodes)) (sym no) rest.are;
            bring = ap (λ x. x ++ within w parts) nothing ∙ rest.bring;
          })
      | inr (a, c, l) ↦ (
          let there : lookup (bytes_eq m) numbers ≡ Some a = are m ∙ l.numbered in
          let node : Node = record { name = Some n; number = a; parent = parent } in
          let waits : IsWaiting program listed inner node = record { numbered = l.numbered; reached = reach_on program w.of m reached i; placed = (the_instance w b, stands, refl, refl) } in
          record {
            waits = inner ∷ rest.waits;
            are = subst (λ o. AllZip (IsWaiting program listed) (inner ∷ rest.waits) (cons_option (node_of n parent o) nodes)) (sym there) (waits, rest.are);
            bring = ap (λ x. brought program inner ++ x) rest.bring;
          })
    ]
      where
        inner : Waiting
        inner = record { path = w.path ++ n ∷ []; up = n ∷ w.up; of = m; actuals = es }

    below : (parts : List Part) → ((x : Part) → Contains parts x → Contains b.parts x) → AreBelow listed (within w parts) (filter_map (node_in numbers parent) parts)
    below [] h = record { waits = []; are = tt; bring = refl }
    below (variable k n p (plain t q) ∷ parts) h = below parts (λ x c. h x (contains_later (variable k n p (plain t q)) parts x c))
    below (variable k n p (instance m q es) ∷ parts) h =
        let part : Part = variable k n p (instance m q es) in
        let i : Instantiates program w.of m = subst (λ o. Contains (list_of (λ x. filter_map module_of x.parts) o) m) (sym found) (contains_filter_map module_of b.parts part m (h part (contains_first part parts)) refl) in
        let rest = below parts (λ x c. h x (contains_later part parts x c)) in
        subst (λ some. AreBelow listed some (cons_option (node_of n parent (lookup (bytes_eq m) numbers)) (filter_map (node_in numbers parent) parts)))
        (sym (filter_map-append instance_of (entries_below (length program) program (w.path ++ n ∷ []) (n ∷ w.up) m es) (flat_map (part_entries (entries_below (length program) program) w.path w.up) parts)))
        (one_below n m es parts (filter_map (node_in numbers parent) parts) i rest)
    below (define n p x ∷ parts) h = below parts (λ y c. h y (contains_later (define n p x) parts y c))
    below (assign k n p x ∷ parts) h = below parts (λ y c. h y (contains_later (assign k n p x) parts y c))
    below (constraint s p x ∷ parts) h = below parts (λ y c. h y (contains_later (constraint s p x) parts y c))
    below (property n p x ∷ parts) h = below parts (λ y c. h y (contains_later (property n p x) parts y c))

  -- the next instance of a search
  pub record IsNext (nodes waiting : List Node) (next : Node) : Type 0 where
    pub listed : List Instance
    pub are_nodes : AreNodesBehind program [] listed nodes
    pub first : Waiting
    pub rest : List Waiting
    pub waits : IsWaiting program listed first next
    pub others : AllZip (IsWaiting program listed) rest (reverse waiting)
    pub all : instances program ≡ listed ++ (brought program first ++ flat_map (brought program) rest)

  pub search_next : (nodes waiting : List Node) (next : Node) → IsSearch program nodes (waiting ++ next ∷ []) → IsNext nodes waiting next
  search_next nodes waiting next s =
      by_waits s.waits (subst (AllZip (IsWaiting program s.listed) s.waits) (reverse-append waiting (next ∷ [])) s.are_waiting) s.all
    where
      by_waits : (ws : List Waiting) → AllZip (IsWaiting program s.listed) ws (next ∷ reverse waiting) → instances program ≡ s.listed ++ flat_map (brought program) ws → IsNext nodes waiting next
      by_waits [] h e = absurd h
      by_waits (w ∷ ws) h e = record { listed = s.listed; are_nodes = s.are_nodes; first = w; rest = ws; waits = h.0; others = h.1; all = e }

  pub next_located : (nodes waiting : List Node) (next : Node) → (n : IsNext nodes waiting next) → (b : Body) × IsLocated program n.first.of next.number b
  next_located nodes waiting next n = located_at program n.first.of next.number n.waits.numbered

  pub next_numbered : (nodes waiting : List Node) (next : Node) → IsNext nodes waiting next → next.number < length program
  next_numbered nodes waiting next n = let l = next_located nodes waiting next n in slice_get_within program next.number l.0 l.1.there

  module _ (none : HasModuleCycle program → ⊥) where
    -- the next instance is listed, and those right within it wait before all others
    pub search_on : (numbers : List (List ℕ × ℕ)) → AreNumbers numbers program → (nodes waiting later : List Node) (next : Node) (b : Body) → IsNext nodes waiting next → slice_get program next.number ≡ Some b
        → reverse later ≡ filter_map (node_in numbers (length nodes)) b.parts ++ reverse waiting → IsSearch program (nodes ++ next ∷ []) later
    search_on numbers are nodes waiting later next b n there pushed =
        let located = next_located nodes waiting next n in
        let found : find_body n.first.of program ≡ Some b = located.1.found ∙ (sym located.1.there ∙ there) in
        let first : brought program n.first ≡ i ∷ within n.first b.parts = brought_first none n.first b n.waits.reached found in
        let same : length n.listed ≡ length nodes = nodes_length [] n.listed nodes n.are_nodes in
        let stands : slice_get (n.listed ++ i ∷ []) (length nodes) ≡ Some i = subst (λ k. slice_get (n.listed ++ i ∷ []) k ≡ Some i) same (slice_get-last n.listed i) in
        let name : b.name ≡ n.first.of = let one : located.0 ≡ b = some_same located.0 b (sym located.1.there ∙ there) in ap (λ x. x.name) (sym one) ∙ located.1.name in
        let inner = below numbers are (n.listed ++ i ∷ []) n.first b (length nodes) n.waits.reached found stands b.parts (λ x c. c) in
        record {
          listed = n.listed ++ i ∷ [];
          waits = inner.waits ++ n.rest;
          are_nodes = nodes_more [] n.listed nodes i next n.are_nodes (record { first = ap (λ m. position (λ x. bytes_eq x.name m) program) name ∙ n.waits.numbered; placed = n.waits.placed });
          are_waiting = subst (AllZip (IsWaiting program (n.listed ++ i ∷ [])) (inner.waits ++ n.rest)) (sym pushed)
              (zip_append (IsWaiting program (n.listed ++ i ∷ [])) inner.waits n.rest (filter_map (node_in numbers (length nodes)) b.parts) (reverse waiting) inner.are (waiting_on n.listed (i ∷ []) n.rest (reverse waiting) n.others));
          all = n.all ∙ (ap (λ x. n.listed ++ (x ++ flat_map (brought program) n.rest)) first
              ∙ (sym (append_assoc n.listed (i ∷ []) (within n.first b.parts ++ flat_map (brought program) n.rest))
              ∙ ap (λ x. (n.listed ++ i ∷ []) ++ x) (ap (λ x. x ++ flat_map (brought program) n.rest) inner.bring ∙ sym (flat_map-append (brought program) inner.waits n.rest))));
        }
      where
        i : Instance
        i = the_instance n.first b

    -- where another one waits, there are more instances than are listed
    pub more_there : (nodes waiting : List Node) (next : Node) → IsNext nodes waiting next → length nodes < length (instances program)
    more_there nodes waiting next n =
        let located = next_located nodes waiting next n in
        let first = brought_first none n.first located.0 n.waits.reached located.1.found in
        let all : instances program ≡ n.listed ++ (the_instance n.first located.0 ∷ (within n.first located.0.parts ++ flat_map (brought program) n.rest)) = n.all ∙ ap (λ x. n.listed ++ (x ++ flat_map (brought program) n.rest)) first in
        let same : length n.listed ≡ length nodes = nodes_length [] n.listed nodes n.are_nodes in
        let total = ap length all ∙ length-append n.listed (the_instance n.first located.0 ∷ (within n.first located.0.parts ++ flat_map (brought program) n.rest)) in
        omega (arith, same, total)

  pub search_begun : (main : ℕ) → IsNumbered program (codes "main") main → IsSearch program [] (record { name = None; number = main; parent = 0 } ∷ [])
  search_begun main numbered = record {
    listed = [];
    waits = record { path = []; up = []; of = codes "main"; actuals = [] } ∷ [];
    are_nodes = tt;
    are_waiting = (record { numbered = numbered; reached = inl refl; placed = (refl, refl, refl) }, tt);
    all = sym (append-nil (instances program));
  }

  pub search_done : (nodes : List Node) → IsSearch program nodes [] → AreNodes program nodes
  search_done nodes s = by_waits s.waits s.are_waiting s.all
    where
      by_waits : (ws : List Waiting) → AllZip (IsWaiting program s.listed) ws [] → instances program ≡ s.listed ++ flat_map (brought program) ws → AreNodes program nodes
      by_waits [] h e = subst (λ all. AreNodesBehind program [] all nodes) (sym (e ∙ append-nil s.listed)) s.are_nodes
      by_waits (w ∷ ws) h e = absurd h

  -- without a main module there are no instances
  pub none_without_main : position (λ b. bytes_eq b.name (codes "main")) program ≡ None → AreNodes program []
  none_without_main e = elim (located program (codes "main")) [
    | inl (p, f) ↦ subst (λ all. AreNodesBehind program [] all []) (sym (ap (filter_map instance_of) (absent (codes "main") f (length program) [] [] []))) tt
    | inr (k, b, l) ↦ absurd (let there : position (λ x. bytes_eq x.name (codes "main")) program ≡ Some k = l.numbered in cc)
  ]
