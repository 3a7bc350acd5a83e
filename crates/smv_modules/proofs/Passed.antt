-- The faults of the modules that main reaches, and what follows where there are none.
use Rattle.std.proofs.Common.{◌≡◌, List, [], ◌∷◌, ◌++◌, refl, ap, sym, ◌∙◌, subst}
use Rattle.std.specs.Prelude.{Option, Some, None, MatchOption}
use Rattle.std.proofs.lemmas.List.{append-nil}
use Rattle.smv_tree.specs.Models.{Body}
use Rattle.smv_meaning.specs.ModuleCycles.{HasModuleCycle}
use Rattle.type_fault.specs.declared.fault.TypeFault.{TypeFault}
use Rattle.type_fault.specs.First.{earlier, earliest}
use Rattle.type_fault.proofs.Firsts.{earliest_both, nothing_first}
use Rattle.smv_modules.specs.References.{AreReferenceFaults}
use Rattle.smv_modules.specs.CycleFaults.{IsCycleFault}
use Rattle.smv_modules.specs.Passes.{AreCycleFaults, AreReachedFaults}

or_none : (o : Option TypeFault) → earlier o None ≡ o
or_none None = refl
or_none (Some f) = refl

only_one : (f : TypeFault) → earliest (f ∷ []) ≡ Some f
unfolding earliest
only_one f = refl

module _ (program : List Body) where
  pub reached_faults : (references : List TypeFault) (o : Option TypeFault) → AreReferenceFaults program references → MatchOption o (¬ HasModuleCycle program) (IsCycleFault program)
      → (faults : List TypeFault) × AreReachedFaults program faults × (earlier (earliest references) o ≡ earliest faults)
  reached_faults references None r c = (references ++ [], record { references = references; cycle = []; are_references = r; are_cycles = c; listed = refl }, or_none (earliest references) ∙ ap earliest (sym (append-nil references)))
  reached_faults references (Some f) r c = (references ++ f ∷ [], record { references = references; cycle = f ∷ []; are_references = r; are_cycles = c; listed = refl }, ap (earlier (earliest references)) (sym (only_one f)) ∙ sym (earliest_both references (f ∷ [])))

  pub none_reached : (faults : List TypeFault) → AreReachedFaults program faults → None ≡ earliest faults → AreReachedFaults program []
  none_reached faults r e = subst (AreReachedFaults program) (nothing_first faults (sym e)) r

  pub no_cycle : AreReachedFaults program [] → HasModuleCycle program → ⊥
  no_cycle r = by_lists r.references r.cycle r.listed r.are_cycles
    where
      by_lists : (rs cs : List TypeFault) → [] ≡ rs ++ cs → AreCycleFaults program cs → HasModuleCycle program → ⊥
      by_lists [] [] e c = c
      by_lists [] (f ∷ cs) e c = absurd (cc)
      by_lists (r ∷ rs) cs e c = absurd (cc)
