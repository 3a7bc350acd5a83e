-- Each operator has one line in the table.
use Rattle.std.proofs.Common.{◌≡◌, refl, true, length, filter}
use Rattle.std.specs.Prelude.{is_some}
use denote.Enum.Bare.{sameb}
use Rattle.smv_tree.specs.declared.expr.Op1.{Op1}
use Rattle.smv_tree.specs.declared.expr.Op1.TheVariants.{Not, Neg, Word1, Bool as ToBool, Signed, Unsigned, ToInt}
use Rattle.smv_tree.specs.declared.expr.Op2.{Op2}
use Rattle.smv_tree.specs.declared.expr.Op2.TheVariants.{Concat, Mul, Div, Mod, Add, Sub, Shl, Shr, Union, In, Eq, Ne, Lt, Gt, Le, Ge, And, Or, Xor, Xnor, Iff, Implies}
use Rattle.smv_tree.specs.contracts.expr.Op1.{the_type as type_of_one}
use Rattle.smv_tree.specs.contracts.expr.Op2.{the_type as type_of_two}
use Rattle.smv_kinds.specs.declared.table.TheConstants.{OPERATORS}
use Rattle.smv_kinds.specs.Table.{one_entry, two_entry}

pub one_has_line : (o : Op1) → is_some (one_entry o) ≡ true
unfolding one_entry
one_has_line Not = refl
one_has_line Neg = refl
one_has_line Word1 = refl
one_has_line ToBool = refl
one_has_line Signed = refl
one_has_line Unsigned = refl
one_has_line ToInt = refl

pub two_has_line : (o : Op2) → is_some (two_entry o) ≡ true
unfolding two_entry
two_has_line Concat = refl
two_has_line Mul = refl
two_has_line Div = refl
two_has_line Mod = refl
two_has_line Add = refl
two_has_line Sub = refl
two_has_line Shl = refl
two_has_line Shr = refl
two_has_line Union = refl
two_has_line In = refl
two_has_line Eq = refl
two_has_line Ne = refl
two_has_line Lt = refl
two_has_line Gt = refl
two_has_line Le = refl
two_has_line Ge = refl
two_has_line And = refl
two_has_line Or = refl
two_has_line Xor = refl
two_has_line Xnor = refl
two_has_line Iff = refl
two_has_line Implies = refl

pub one_line : (o : Op1) → length (filter (λ e. sameb type_of_one e.operator o) OPERATORS.one) ≡ 1
one_line Not = refl
one_line Neg = refl
one_line Word1 = refl
one_line ToBool = refl
one_line Signed = refl
one_line Unsigned = refl
one_line ToInt = refl

pub two_line : (o : Op2) → length (filter (λ e. sameb type_of_two e.operator o) OPERATORS.two) ≡ 1
two_line Concat = refl
two_line Mul = refl
two_line Div = refl
two_line Mod = refl
two_line Add = refl
two_line Sub = refl
two_line Shl = refl
two_line Shr = refl
two_line Union = refl
two_line In = refl
two_line Eq = refl
two_line Ne = refl
two_line Lt = refl
two_line Gt = refl
two_line Le = refl
two_line Ge = refl
two_line And = refl
two_line Or = refl
two_line Xor = refl
two_line Xnor = refl
two_line Iff = refl
two_line Implies = refl
