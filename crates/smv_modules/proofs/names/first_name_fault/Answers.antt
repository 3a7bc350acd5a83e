use Rattle.std.proofs.Common.{◌≡◌, ◌∙◌, sym, ap, map, flat_map, Bool, true, false, List, [], ◌∷◌, ◌++◌, codes}
use Rattle.std.specs.Prelude.{Some, None, if◌then◌else◌}
use Rattle.std.specs.Str.{bytes_eq}
use Rattle.smv_tree.specs.Models.{bodies, body_of}
use Rattle.type_fault.specs.declared.fault.TypeFault.{TypeFault}
use Rattle.type_fault.specs.declared.fault.TypeFault.TheVariants.{NoMain}
use Rattle.type_fault.specs.First.{earlier, earliest}
use Rattle.type_fault.proofs.Firsts.{earliest_both}
use Rattle.smv_modules.specs.Declarations.{doubled, module_declaration, doubled_in, has_main}
use Rattle.smv_modules.proofs.Doubles.{no_fault, one_fault, any_of}
use Rattle.smv_modules.proofs.names.first_name_fault.Goals as goal
use Rattle.smv_modules.proofs.names.first_name_fault.Goals.{then-has_main, else-has_main}

lacks : Bool → List TypeFault
lacks b = if b then [] else NoMain ∷ []

at_true : (b : Bool) → b ≡ true → None ≡ earliest (lacks b)
unfolding lacks
at_true b e = sym (ap (λ t. earliest (if t then [] else NoMain ∷ [])) e ∙ no_fault)

at_false : (b : Bool) → b ≡ false → Some NoMain ≡ earliest (lacks b)
unfolding lacks
at_false b e = sym (ap (λ t. earliest (if t then [] else NoMain ∷ [])) e ∙ one_fault NoMain)

pub returns : goal.returns
unfolding lacks
returns c =
    let program = bodies c.args.p.now in
    let modules = doubled (map module_declaration program) in
    let within = flat_map doubled_in program in
    let has : c.has_main.result ≡ has_main program = c.has_main.ensures ∙ any_of body_of (λ b. bytes_eq b.name (codes "main")) c.args.p.now.modules.items in
    let main : c.if-has_main.main ≡ earliest (lacks (has_main program)) =
    elim c.if-has_main.branch [
      | then-has_main w ↦ w.main-is ∙ at_true (has_main program) (sym has ∙ w.if-has_main.true)
      | else-has_main w ↦ w.main-is ∙ at_false (has_main program) (sym has ∙ w.if-has_main.false)
    ] in
    c.earlier-2.ensures
    ∙ (ap (λ o. earlier o c.earlier.result) main
    ∙ (ap (earlier (earliest (lacks (has_main program)))) (c.earlier.ensures
    ∙ (ap (λ o. earlier o c.in_ok-within.within) c.in_ok-module.ensures ∙ (ap (earlier (earliest modules)) c.in_ok-within.ensures ∙ sym (earliest_both modules within))))
    ∙ sym (earliest_both (lacks (has_main program)) (modules ++ within))))
