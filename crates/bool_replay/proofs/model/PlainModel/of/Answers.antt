use Rattle.std.proofs.Common.{◌≡◌, ◌∙◌, sym, ap, true, map, get_or, length, arith}
use Rattle.std.proofs.lemmas.Bool.{eqb-true}
use Rattle.std.specs.Prelude.{codes}
use Rattle.std.specs.Str.{bytes_eq}
use Rattle.std.specs.List.{list_all}
use Rattle.smv_tree.specs.Models.{body_of, part_of, formal_of}
use Rattle.bool_replay.specs.Plain.{is_plain_program, is_plain_part, are_distinct, names_of}
use Rattle.bool_replay.specs.ProgramNames.{program_names}
use Rattle.bool_replay.proofs.PlainLemmas.{list_of_one, plain_body, is_empty-map}
use Rattle.bool_replay.proofs.model.PlainModel.of.Goals as goal

pub invariant_of-result : goal.invariant_of-result
invariant_of-result c =
    let m = c.module-item.result in
    let items : c.as_slice-items.result.now ≡ m.items.items = c.as_slice-items.ensures.value in
    let found = rw c.in-Some.is at c.in_ok-names.ensures in
    let names : c.in-Some.names ≡ names_of (map part_of m.items.items) = found.0 ∙ ap (λ xs. names_of (map part_of xs)) items in
    let d : are_distinct (names_of (map part_of m.items.items)) ≡ true = ap are_distinct (sym names) ∙ found.1 in
    let l : list_all (is_plain_part (names_of (map part_of m.items.items))) (map part_of m.items.items) ≡ true =
    ap (λ ns. list_all (is_plain_part ns) (map part_of m.items.items)) (sym names)
    ∙ (ap (λ xs. list_all (is_plain_part c.in-Some.names) (map part_of xs)) (sym items) ∙ (sym c.are_plain.ensures ∙ c.if-not-are_plain.false)) in
    let one = list_of_one c.args.program.modules.items m (omega arith) (c.module-item.is ∙ ap (λ xs. get_or xs 0 m) c.as_slice.ensures.value) in
    let named : bytes_eq m.name (codes "main") ≡ true =
    ap (λ n. bytes_eq n (codes "main")) (sym c.as_slice-2.ensures.bytes) ∙ (sym c.equal.ensures ∙ c.if-not-equal.false) in
    let none : length m.params.items ≡ 0 =
    ap length (sym c.as_slice-else-not-equal.ensures.value) ∙ eqb-true _ _ (sym c.is_empty.ensures ∙ c.if-not-is_empty.false) in
    record {
      named = names ∙ ap (λ ms. program_names (map body_of ms)) (sym one);
      plain = ap (λ ms. is_plain_program (map body_of ms)) one ∙ plain_body (body_of m) named (is_empty-map formal_of m.params.items none) d l;
    }
