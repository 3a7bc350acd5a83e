-- The lines of the table say what the definition of each operator says.
use Rattle.std.proofs.Common.{◌≡◌, refl, true, false, Bool, subst, not}
use Rattle.std.specs.Prelude.{Option, Some, None, if◌then◌else◌, ◌&&◌}
use Rattle.smv_tree.specs.declared.expr.Op1.{Op1}
use Rattle.smv_tree.specs.declared.expr.Op1.TheVariants as one
use Rattle.smv_tree.specs.declared.expr.Op2.{Op2}
use Rattle.smv_tree.specs.declared.expr.Op2.TheVariants as two
use Rattle.smv_kinds.specs.declared.sort.Sort.{Sort}
use Rattle.smv_kinds.specs.declared.sort.Sort.TheVariants.{Boolean, Integer, Word, Symbolic, Mixed, Instance}
use Rattle.smv_kinds.specs.declared.typing.Typing.{Typing}
use Rattle.smv_kinds.specs.declared.table.OneEntry.{OneEntry}
use Rattle.smv_kinds.specs.declared.table.TwoEntry.{TwoEntry}
use Rattle.smv_kinds.specs.declared.table.Operand.TheVariants as takes
use Rattle.smv_kinds.specs.declared.table.OneGives.TheVariants as gives
use Rattle.smv_kinds.specs.declared.table.Operands.TheVariants as take
use Rattle.smv_kinds.specs.declared.table.TwoGives.TheVariants as give
use Rattle.smv_kinds.specs.declared.table.Ends.{Ends}
use Rattle.smv_kinds.specs.declared.table.Ends.TheVariants.{Sums, Differences, Products, Quotients, Remainders}
use Rattle.smv_kinds.specs.Table.{one_entry, two_entry, line_on_value, line_on_two, one_by_line, two_by_line, wanted_by, fits_one, one_sort, fits_two, two_sort, ends_of, allows, gives_set}
use Rattle.smv_kinds.specs.Operators.{on_value, on_two, arithmetic, ordered, bitwise, shifted, concatenated, wanted, allowed, is_union, one_typing, two_typing}

-- the line of an operator, where there is one, meets its definition
abbrev pub MeetsOne : Op1 → Option OneEntry → Type 0
MeetsOne o None = Unit {0}
MeetsOne o (Some e) = ((s : Sort) → line_on_value e s ≡ on_value o s) × (wanted_by e.takes ≡ wanted o)

abbrev pub MeetsTwo : Op2 → Option TwoEntry → Type 0
MeetsTwo o None = Unit {0}
MeetsTwo o (Some e) = ((a b : Sort) → line_on_two e a b ≡ on_two o a b) × ((l r : Bool) → allows e.sets l r ≡ allowed o l r) × (gives_set e.gives ≡ is_union o)

not_line : (s : Sort) → (if fits_one takes.BooleanOrWord s then Some (one_sort gives.Same s) else None) ≡ on_value one.Not s
not_line Boolean = refl
not_line (Integer i) = refl
not_line Symbolic = refl
not_line Mixed = refl
not_line (Word x n) = refl
not_line Instance = refl

neg_line : (s : Sort) → (if fits_one takes.IntegerOrWord s then Some (one_sort gives.Negated s) else None) ≡ on_value one.Neg s
neg_line Boolean = refl
neg_line (Integer i) = refl
neg_line Symbolic = refl
neg_line Mixed = refl
neg_line (Word x n) = refl
neg_line Instance = refl

word1_line : (s : Sort) → (if fits_one takes.Boolean s then Some (one_sort gives.Bit s) else None) ≡ on_value one.Word1 s
word1_line Boolean = refl
word1_line (Integer i) = refl
word1_line Symbolic = refl
word1_line Mixed = refl
word1_line (Word x n) = refl
word1_line Instance = refl

bool_line : (s : Sort) → (if fits_one takes.BooleanIntegerOrBit s then Some (one_sort gives.Boolean s) else None) ≡ on_value one.Bool s
bool_line Boolean = refl
bool_line (Integer i) = refl
bool_line Symbolic = refl
bool_line Mixed = refl
bool_line (Word true n) = refl
bool_line (Word false n) = refl
bool_line Instance = refl

signed_line : (s : Sort) → (if fits_one takes.Word s then Some (one_sort gives.SignedWord s) else None) ≡ on_value one.Signed s
signed_line Boolean = refl
signed_line (Integer i) = refl
signed_line Symbolic = refl
signed_line Mixed = refl
signed_line (Word x n) = refl
signed_line Instance = refl

unsigned_line : (s : Sort) → (if fits_one takes.Word s then Some (one_sort gives.UnsignedWord s) else None) ≡ on_value one.Unsigned s
unsigned_line Boolean = refl
unsigned_line (Integer i) = refl
unsigned_line Symbolic = refl
unsigned_line Mixed = refl
unsigned_line (Word x n) = refl
unsigned_line Instance = refl

to_int_line : (s : Sort) → (if fits_one takes.BooleanIntegerOrWord s then Some (one_sort gives.Number s) else None) ≡ on_value one.ToInt s
to_int_line Boolean = refl
to_int_line (Integer i) = refl
to_int_line Symbolic = refl
to_int_line Mixed = refl
to_int_line (Word x n) = refl
to_int_line Instance = refl

pub meets_one : (o : Op1) → MeetsOne o (one_entry o)
unfolding one_entry
meets_one one.Not = (not_line, refl)
meets_one one.Neg = (neg_line, refl)
meets_one one.Word1 = (word1_line, refl)
meets_one one.Bool = (bool_line, refl)
meets_one one.Signed = (signed_line, refl)
meets_one one.Unsigned = (unsigned_line, refl)
meets_one one.ToInt = (to_int_line, refl)

arithmetic_line : (ends : Ends) (a b : Sort) → (if fits_two take.IntegersOrWords a b then Some (two_sort (give.Arithmetic ends) a b) else None) ≡ arithmetic (ends_of ends) a b
arithmetic_line ends (Integer i) (Integer j) = refl
arithmetic_line ends (Word s m) (Word t n) = refl
arithmetic_line ends a b = refl

ordered_line : (a b : Sort) → (if fits_two take.IntegersOrWords a b then Some (two_sort give.Boolean a b) else None) ≡ ordered a b
ordered_line (Integer i) (Integer j) = refl
ordered_line (Word s m) (Word t n) = refl
ordered_line a b = refl

bitwise_line : (a b : Sort) → (if fits_two take.BooleansOrWords a b then Some (two_sort give.Left a b) else None) ≡ bitwise a b
bitwise_line Boolean Boolean = refl
bitwise_line (Word s m) (Word t n) = refl
bitwise_line a b = refl

shifted_line : (a b : Sort) → (if fits_two take.WordAndAmount a b then Some (two_sort give.Left a b) else None) ≡ shifted a b
shifted_line (Word s m) (Integer j) = refl
shifted_line (Word s m) (Word false n) = refl
shifted_line (Word s m) (Word true n) = refl
shifted_line a b = refl

concatenated_line : (a b : Sort) → (if fits_two take.Words a b then Some (two_sort give.Concatenated a b) else None) ≡ concatenated a b
concatenated_line (Word s m) (Word t n) = refl
concatenated_line a b = refl

neither : (l r : Bool) → (not l && not r) ≡ (not l && not r)
neither l r = refl

pub meets_two : (o : Op2) → MeetsTwo o (two_entry o)
unfolding two_entry
meets_two two.Concat = (concatenated_line, neither, refl)
meets_two two.Mul = (arithmetic_line Products, neither, refl)
meets_two two.Div = (arithmetic_line Quotients, neither, refl)
meets_two two.Mod = (arithmetic_line Remainders, neither, refl)
meets_two two.Add = (arithmetic_line Sums, neither, refl)
meets_two two.Sub = (arithmetic_line Differences, neither, refl)
meets_two two.Shl = (shifted_line, neither, refl)
meets_two two.Shr = (shifted_line, neither, refl)
meets_two two.Union = (λ a b. refl, λ l r. refl, refl)
meets_two two.In = (λ a b. refl, λ l r. refl, refl)
meets_two two.Eq = (λ a b. refl, neither, refl)
meets_two two.Ne = (λ a b. refl, neither, refl)
meets_two two.Lt = (ordered_line, neither, refl)
meets_two two.Gt = (ordered_line, neither, refl)
meets_two two.Le = (ordered_line, neither, refl)
meets_two two.Ge = (ordered_line, neither, refl)
meets_two two.And = (bitwise_line, neither, refl)
meets_two two.Or = (bitwise_line, neither, refl)
meets_two two.Xor = (bitwise_line, neither, refl)
meets_two two.Xnor = (bitwise_line, neither, refl)
meets_two two.Iff = (bitwise_line, neither, refl)
meets_two two.Implies = (bitwise_line, neither, refl)

-- so a node by its line is the node of its operator
pub one_met : (o : Op1) (e : OneEntry) (t : Typing) → one_entry o ≡ Some e → one_by_line e t ≡ one_typing o t
unfolding one_typing
one_met o e t found =
    let met : MeetsOne o (Some e) = subst (MeetsOne o) found (meets_one o) in
    rw (met.0 t.sort) (rw met.1 refl)

pub two_met : (o : Op2) (e : TwoEntry) (a b : Typing) → two_entry o ≡ Some e → two_by_line e a b ≡ two_typing o a b
unfolding two_typing
two_met o e a b found =
    let met : MeetsTwo o (Some e) = subst (MeetsTwo o) found (meets_two o) in
    rw (met.0 a.sort b.sort) (rw (met.1 a.is_set b.is_set) (rw met.2 refl))
