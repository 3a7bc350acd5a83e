use Rattle.std.proofs.Common.{◌≡◌, ◌∙◌, [], ◌++◌, ◌∷◌, Bool, ap, sym, rules}
use Rattle.std.specs.Prelude.{Some, None}
use Rattle.shell_lang.specs.Filled.{body_of, is_used}
use Rattle.shell_lang.proofs.Unfolding.{agrees-none, agrees-more, leads-more, put_back-right, put_back-only, none_left-right, none_left-only, unused_fewer}
use Rattle.shell_lang.proofs.words.unfold.Goals as goal

pub loop-name-init : goal.loop-name-init
loop-name-init c = ([], agrees-none c.new-used.result c.new-used.ensures.empty, λ last. (λ h. h, λ h. h))

pub loop-name-smaller : goal.loop-name-smaller
loop-name-smaller c =
    unused_fewer c.args.aliases.now _ _ c.in-Some.name c.in-Some-body_of.body.now c.in_ok-insert-in-Some-body_of.ensures.updates.0 (sym c.in-Some-body_of.ensures)

pub loop-name-preserved : goal.loop-name-preserved
loop-name-preserved c =
    let used = c.loop-name.invariant.0 in
    let some : body_of c.args.aliases.now (is_used used c.in-Some.name) c.in-Some.name ≡ Some c.in-Some-body_of.body.now =
    ap (λ (b : Bool). body_of c.args.aliases.now b c.in-Some.name) (sym (c.loop-name.invariant.1 c.in-Some.name)) ∙ sym c.in-Some-body_of.ensures
    in (
      used ++ c.in-Some.name ∷ [],
      agrees-more c.loop-name.used c.insert.new.self used c.in-Some.name c.in_ok-insert-in-Some-body_of.ensures.updates.0 c.loop-name.invariant.1,
      leads-more c.args.aliases.now c.args.words.items used c.loop-name.words.items c.pop.new.self.items c.push_reversed.new.words.items c.in-Some-body_of.body.now c.in-Some.name c.in-Some.ensures.items some c.in_ok-push_reversed-in-Some-body_of.ensures c.loop-name.invariant.2,
    )

pub returns-in-None-clause-right : goal.returns-in-None-clause-right
returns-in-None-clause-right c =
    let used = c.loop-name.invariant.0 in
    let none : body_of c.args.aliases.now (is_used used c.in-Some.name) c.in-Some.name ≡ None =
    ap (λ (b : Bool). body_of c.args.aliases.now b c.in-Some.name) (sym (c.loop-name.invariant.1 c.in-Some.name)) ∙ sym c.in-None.ensures
    in
    put_back-right c.args.aliases.now c.args.words.items used c.loop-name.words.items c.pop.new.self.items c.push.new.self.items c.in-Some.name c.in-Some.ensures.items c.in_ok-push-in-None.ensures.items none c.loop-name.invariant.2

pub returns-in-None-clause-only : goal.returns-in-None-clause-only
returns-in-None-clause-only c =
    let used = c.loop-name.invariant.0 in
    let none : body_of c.args.aliases.now (is_used used c.in-Some.name) c.in-Some.name ≡ None =
    ap (λ (b : Bool). body_of c.args.aliases.now b c.in-Some.name) (sym (c.loop-name.invariant.1 c.in-Some.name)) ∙ sym c.in-None.ensures
    in
    put_back-only c.args.aliases.now c.args.words.items used c.loop-name.words.items c.pop.new.self.items c.push.new.self.items c.in-Some.name c.in-Some.ensures.items c.in_ok-push-in-None.ensures.items none c.loop-name.invariant.2

pub returns-clause-right : goal.returns-clause-right
returns-clause-right c =
    none_left-right c.args.aliases.now c.args.words.items c.loop-name.invariant.0 c.loop-name.words.items c.pop.new.self.items (search rules) (search rules) c.loop-name.invariant.2

pub returns-clause-only : goal.returns-clause-only
returns-clause-only c =
    none_left-only c.args.aliases.now c.args.words.items c.loop-name.invariant.0 c.loop-name.words.items c.pop.new.self.items (search rules) (search rules) c.loop-name.invariant.2
