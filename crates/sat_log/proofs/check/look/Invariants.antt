use Rattle.std.proofs.Common.{◌≡◌, false, List, drop}
use Rattle.std.specs.Prelude.{Option, None, Some}
use Rattle.sat_log.specs.Literal.{Literal}
use Rattle.sat_log.specs.Marked.{Marked, HasPlace}
use Rattle.sat_log.specs.Checking.{is_set, look_on, look}
use Rattle.sat_log.specs.declared.marks.Look.{Look}
use Rattle.sat_log.proofs.check.look.Given as goal

-- a look at what is left of a clause, after a literal that is unset, if there was one
abbrev look_after : List Literal → Option Literal → List Literal → Look
look_after set None c = look set c
look_after set (Some u) c = look_on set u c

-- the literal that was found unset is unset, and there is room for it
abbrev IsOpenLiteral : Marked → Option Literal → Type 0
IsOpenLiteral marks None = Unit {0}
IsOpenLiteral marks (Some u) = HasPlace marks.room marks.far u.var × (is_set marks.set u ≡ false)

abbrev pub invariant-loop-literal : goal.invariant-loop-literal
invariant-loop-literal l = record {
  rest : look_after l.marks.set l.unset (drop l.literal-index l.clause) ≡ look l.marks.set l.clause;
  open_ : IsOpenLiteral l.marks l.unset;
}
