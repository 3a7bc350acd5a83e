-- The first fault of what is wrong where an expression is used.
use Rattle.std.proofs.Common.{◌≡◌, List, ◌++◌, ap, sym, ◌∙◌}
use Rattle.std.specs.Prelude.{Option, Ok, Err}
use Rattle.smv_tree.specs.declared.place.Place.{Place}
use Rattle.smv_kinds.specs.declared.typing.Typing.{Typing}
use Rattle.smv_kinds.specs.declared.typing.NodeFault.{NodeFault}
use Rattle.type_fault.specs.declared.fault.TypeFault.{TypeFault}
use Rattle.type_fault.specs.First.{earlier, earliest}
use Rattle.type_fault.proofs.Firsts.{earliest_both}
use Rattle.smv_typing.specs.Judging.{Judgement}
use Rattle.smv_typing.specs.Firsts.{Kept, firsts}
use Rattle.smv_typing.specs.Uses.{listed, used}

-- the first of two lists
pub two_first : (fs gs : List TypeFault) {f g r : Option TypeFault} → f ≡ earliest fs → g ≡ earliest gs → r ≡ earlier f g → r ≡ earliest (fs ++ gs)
two_first fs gs {f} {g} h i e = e ∙ (ap (λ x. earlier x g) h ∙ (ap (earlier (earliest fs)) i ∙ sym (earliest_both fs gs)))

abbrev pub the_kept : Typing → Kept Typing → Typing
the_kept d (Ok t) = t
the_kept d (Err f) = d

-- the use of what is well
pub used_ok : (p : Place) (wrong : Typing → Option NodeFault) (x : Judgement Typing) (t : Typing) {k : Kept Typing} {f : Option NodeFault} {r : Option TypeFault} → k ≡ firsts x → k ≡ Ok t → f ≡ wrong t → r ≡ earliest (listed p f) → r ≡ earliest (used p wrong x)
used_ok p wrong (Ok u) t h i e l = l ∙ ap (λ g. earliest (listed p g)) (e ∙ ap wrong (ap (the_kept t) (sym i ∙ h)))
used_ok p wrong (Err fs) t h i e l = absurd (cc)

-- the use of what is ill
pub used_err : (p : Place) (wrong : Typing → Option NodeFault) (x : Judgement Typing) {k : Kept Typing} {f : Option TypeFault} → k ≡ firsts x → k ≡ Err f → f ≡ earliest (used p wrong x)
used_err p wrong (Ok u) h i = absurd (cc)
used_err p wrong (Err fs) h i = cc
