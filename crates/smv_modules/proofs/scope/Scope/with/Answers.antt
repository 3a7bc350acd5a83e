use Rattle.std.proofs.Common.{◌≡◌, ◌∙◌, sym, subst, true, false}
use Rattle.std.specs.List.{list_any}
use Rattle.std.specs.Str.{bytes_eq}
use Rattle.smv_modules.specs.Declarations.{Declaration}
use Rattle.smv_modules.proofs.Doubles.{seen_again, seen_first}
use Rattle.smv_modules.proofs.scope.Scope.with.Goals as goal

pub returns-in_ok-copy : goal.returns-in_ok-copy
returns-in_ok-copy c =
    let d : Declaration = record { name = c.args.name.now; place = c.args.place } in
    let again = seen_again (λ v. v.items) c.self.inside.names.keys c.self.inside.first c.args.self d c.self.view_is (subst (λ n. list_any (λ k. bytes_eq n k.items) c.self.inside.names.keys ≡ true) c.as_slice.ensures.bytes (sym c.contains.ensures ∙ c.if-contains.true)) in
    cc (again, c.earlier-first.ensures, c.in_ok-copy.ensures)

pub returns-in_ok-insert : goal.returns-in_ok-insert
returns-in_ok-insert c =
    let d : Declaration = record { name = c.args.name.now; place = c.args.place } in
    let first = seen_first (λ v. v.items) c.self.inside.names.keys c.in_ok-from_slice.field-0 c.self.inside.first c.args.self d c.self.view_is (c.in_ok-from_slice.ensures.items ∙ c.as_slice-else-contains.ensures.bytes) (subst (λ n. list_any (λ k. bytes_eq n k.items) c.self.inside.names.keys ≡ false) c.as_slice.ensures.bytes (sym c.contains.ensures ∙ c.if-contains.false)) in
    cc (first, c.in_ok-insert.ensures.keys)
