-- The first of the shortest cycles by number is that by name.
use Rattle.std.proofs.Common.{◌≡◌, ◌<◌, ◌≤◌, ◌+◌, ℕ, List, [], ◌∷◌, length, map, refl, ap, sym, ◌∙◌, subst, arith, inl, inr}
use Rattle.std.specs.Prelude.{◌⊎◌, Contains, Option, Some}
use Rattle.std.specs.Str.{bytes_eq}
use Rattle.std.proofs.lemmas.List.{length-map}
use Rattle.std.proofs.lemmas.Iterator.Adapters.{position_from-zero}
use Rattle.smv_tree.specs.Models.{Body}
use Rattle.smv_meaning.specs.Instances.{find_body, list_of}
use Rattle.smv_meaning.specs.Walks.{IsWalk, IsOnCycle, IsShortestCycle}
use Rattle.smv_meaning.specs.FirstCycles.{IsFirstOf, StandsBefore, PartsBefore, IsFirstCycle}
use Rattle.smv_meaning.specs.ModuleCycles.{Instantiates, ContainsItself, module_names}
use Rattle.smv_meaning.proofs.Lists.{contains_none, contains_cases, slice_get-map}
use Rattle.smv_graph.specs.Graph.{graph_of, module_number, Leads, IsClosed, IsNumbered}
use Rattle.smv_graph.specs.Choices.{GoesBefore}
use Rattle.smv_graph.specs.declared.choice.StepOrder.TheVariants.{ByNumber}
use Rattle.smv_graph.proofs.Named.{located_at, one_name, step_up, step_down, walk_starts, walk_down}
use Rattle.smv_graph.proofs.Graphs.{graph_closed}
use Rattle.type_fault.specs.declared.fault.TypeFault.{TypeFault}
use Rattle.smv_modules.specs.Contained.{IsFirstContained}
use Rattle.smv_modules.specs.CycleFaults.{name_of, TellsOf, IsCycleFault}
use Rattle.smv_modules.proofs.Contained.{first_from}

pub walk_within : (graph : List (List (Option ℕ))) → IsClosed graph → (a : ℕ) (xs : List ℕ) (b : ℕ) → IsWalk (Leads graph) a xs b → (x : ℕ) → Contains xs x → x < length graph
walk_within graph closed a [] b w x c = absurd (contains_none x c)
walk_within graph closed a (y ∷ ys) b w x c = elim (contains_cases y ys x c) [
  | inl e ↦ subst (λ k. k < length graph) e (closed a y w.0)
  | inr d ↦ walk_within graph closed y ys b w.1 x d
]

module _ (program : List Body) where
  abbrev Names : List ℕ → List (List ℕ)
  Names = map (name_of program)

  -- the name of a number is the name that has this number
  named : (m : List ℕ) (a : ℕ) → IsNumbered program m a → name_of program a ≡ m
  named m a d = let l = located_at program m a d in ap (list_of (λ b. b.name)) l.1.there ∙ l.1.name

  names_up : (m : List ℕ) (a : ℕ) (xs : List ℕ) (n : List ℕ) (b : ℕ) → IsNumbered program m a → IsNumbered program n b → IsWalk (Leads (graph_of program)) a xs b → IsWalk (Instantiates program) m (Names xs) n
  names_up m a [] n b d e w =
      let s = step_up program m a b d w in
      subst (Instantiates program m) (one_name program s.0 n b s.1 e) s.2
  names_up m a (x ∷ xs) n b d e w =
      let s = step_up program m a x d w.0 in
      let same : name_of program x ≡ s.0 = named s.0 x s.1 in
      (subst (Instantiates program m) (sym same) s.2, names_up (name_of program x) x xs n b (subst (λ o. IsNumbered program o x) (sym same) s.1) e w.1)

  names_down : (m : List ℕ) (zs : List (List ℕ)) (n : List ℕ) (a b : ℕ) → IsNumbered program m a → IsNumbered program n b → IsWalk (Instantiates program) m zs n → (xs : List ℕ) × IsWalk (Leads (graph_of program)) a xs b × (Names xs ≡ zs)
  names_down m [] n a b d e w = ([], step_down program m n a b d e w, refl)
  names_down m (z ∷ zs) n a b d e w =
      let s = walk_starts program z zs n w.1 in
      let r = names_down z zs n s.0 b s.1 e w.1 in
      let same : name_of program s.0 ≡ z = named z s.0 s.1 in
      let rest : Names r.0 ≡ zs = r.2 in
      (s.0 ∷ r.0, (step_down program m z a s.0 d s.1 w.0, r.1), cc)

  -- the module of a smaller number stands before
  stands_before : (m n : List ℕ) (a b : ℕ) → IsNumbered program m a → IsNumbered program n b → a < b → StandsBefore (module_names program) m n
  stands_before m n a b d e less =
      let l = located_at program m a d in
      record {
        number = a;
        stands = slice_get-map (λ x. x.name) program a l.0 l.1.there ∙ ap (λ o. Some o) l.1.name;
        later = λ j h. let first : b ≤ 0 + j = first_from n 0 program j b h (sym (position_from-zero (λ x. bytes_eq x.name n) program) ∙ e) in omega (arith, first, less);
      }

  parts_up : (m : List ℕ) (a : ℕ) (xs ys : List ℕ) (b : ℕ) → IsNumbered program m a → IsWalk (Leads (graph_of program)) a xs b → IsWalk (Leads (graph_of program)) a ys b
      → PartsBefore (GoesBefore ByNumber (graph_of program)) a xs ys → PartsBefore (λ (k : List ℕ). StandsBefore (module_names program)) m (Names xs) (Names ys)
  parts_up m a [] ys b d w v p = absurd p
  parts_up m a (x ∷ xs) [] b d w v p = absurd p
  parts_up m a (x ∷ xs) (y ∷ ys) b d w v p = by_step (λ e u q. parts_up (name_of program x) x xs ys b e w.1 u q) p
    where
      step : (n : List ℕ) × IsNumbered program n x × Instantiates program m n
      step = step_up program m a x d w.0

      numbered : IsNumbered program (name_of program x) x
      numbered = subst (λ o. IsNumbered program o x) (sym (named step.0 x step.1)) step.1

      by_step : (IsNumbered program (name_of program x) x → IsWalk (Leads (graph_of program)) x ys b → PartsBefore (GoesBefore ByNumber (graph_of program)) x xs ys → PartsBefore (λ (k : List ℕ). StandsBefore (module_names program)) (name_of program x) (Names xs) (Names ys))
          → (x < y) ⊎ ((x ≡ y) × PartsBefore (GoesBefore ByNumber (graph_of program)) x xs ys)
          → StandsBefore (module_names program) (name_of program x) (name_of program y) ⊎ ((name_of program x ≡ name_of program y) × PartsBefore (λ (k : List ℕ). StandsBefore (module_names program)) (name_of program x) (Names xs) (Names ys))
      by_step rest (inl less) =
          let t = step_up program m a y d v.0 in
          let other = subst (λ o. IsNumbered program o y) (sym (named t.0 y t.1)) t.1 in
          inl (stands_before (name_of program x) (name_of program y) x y numbered other less)
      by_step rest (inr (s, q)) = inr (ap (name_of program) s, rest numbered (subst (λ k. IsWalk (Leads (graph_of program)) k ys b) (sym s) v.1) q)

  -- so the first of the shortest cycles is that of the names
  named_cycle : (m : List ℕ) (a : ℕ) (xs : List ℕ) → IsNumbered program m a → IsFirstCycle (Leads (graph_of program)) (GoesBefore ByNumber (graph_of program)) a xs
      → IsFirstCycle (Instantiates program) (λ n. StandsBefore (module_names program)) m (Names xs)
  named_cycle m a xs d f = record { shortest = (names_up m a xs m a d d f.shortest.0, least); first = first }
    where
      size : (ys : List ℕ) → length (Names ys) ≡ length ys
      size ys = length-map ys (name_of program)

      least : (zs : List (List ℕ)) → IsWalk (Instantiates program) m zs m → length (Names xs) ≤ length zs
      least zs w =
          let r = names_down m zs m a a d d w in
          let few = f.shortest.1 r.0 r.1 in
          let own = size xs in
          let other = size r.0 in
          let same = ap length r.2 in
          omega (arith, few, own, other, same)

      first : (zs : List (List ℕ)) → IsShortestCycle (Instantiates program) m zs → (zs ≡ Names xs) ⊎ PartsBefore (λ (n : List ℕ). StandsBefore (module_names program)) m (Names xs) zs
      first zs s = by_walk (names_down m zs m a a d d s.0)
        where
          by_walk : (ys : List ℕ) × IsWalk (Leads (graph_of program)) a ys a × (Names ys ≡ zs) → (zs ≡ Names xs) ⊎ PartsBefore (λ (n : List ℕ). StandsBefore (module_names program)) m (Names xs) zs
          by_walk (ys, w, e) = by_first (f.first ys (w, short))
            where
              short : (us : List ℕ) → IsWalk (Leads (graph_of program)) a us a → length ys ≤ length us
              short us v =
                  let few = s.1 (Names us) (names_up m a us m a d d v) in
                  let own = size us in
                  let other = size ys in
                  let same = ap length e in
                  omega (arith, few, own, other, same)

              by_first : (ys ≡ xs) ⊎ PartsBefore (GoesBefore ByNumber (graph_of program)) a xs ys → (zs ≡ Names xs) ⊎ PartsBefore (λ (n : List ℕ). StandsBefore (module_names program)) m (Names xs) zs
              by_first (inl t) = inl (sym e ∙ ap Names t)
              by_first (inr p) = inr (subst (PartsBefore (λ (n : List ℕ). StandsBefore (module_names program)) m (Names xs)) e (parts_up m a xs ys a d f.shortest.0 w p))

  pub contained_cycle : (k : ℕ) → IsFirstContained program k → IsOnCycle (Leads (graph_of program)) k
  contained_cycle k f = let w = f.through.so.1 in walk_down program f.first.name w.0 f.first.name k k f.numbered f.numbered w.1

  pub cycle_within : (graph : List (List (Option ℕ))) (k : ℕ) (between : List ℕ) → graph ≡ graph_of program → IsFirstCycle (Leads graph) (GoesBefore ByNumber graph) k between → (b : ℕ) → Contains between b → b < length program
  cycle_within graph k between same f b c =
      let walk = subst (λ g. IsWalk (Leads g) k between k) same f.shortest.0 in
      let within = walk_within (graph_of program) (graph_closed program) k between k walk b c in
      let size = length-map program (λ m. map (module_number program) m.parts) in
      omega (arith, within, size)

  pub cycle_told : (k : ℕ) (between : List ℕ) (fault : TypeFault) → IsFirstContained program k → IsFirstCycle (Leads (graph_of program)) (GoesBefore ByNumber (graph_of program)) k between → TellsOf program k between fault → IsCycleFault program fault
  cycle_told k between fault f cycle (b, there, told) = subst (IsCycleFault program) (sym told) (record {
    first = b;
    between = Names between;
    found = subst (λ x. find_body x.name program ≡ Some x) same f.found;
    cycle = record {
      through = subst (λ x. IsFirstOf (ContainsItself program) (module_names program) x.name) same f.through;
      cycle = named_cycle b.name k between (subst (λ x. IsNumbered program x.name k) same f.numbered) cycle;
    };
    at_it = refl;
    told = refl;
  })
    where
      same : f.first ≡ b
      same = let e = f.there in cc
