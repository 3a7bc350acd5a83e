-- Where the program can hold all that is looked at, the values are those of the expression.
use Rattle.std.proofs.Common.{arith, ◌≡◌, Bool, true, false, List, [], ◌∷◌, ◌++◌, Option, Some, None, refl, sym, ap, ◌∙◌}
use Rattle.std.specs.Prelude.{if◌then◌else◌}
use Rattle.std.specs.List.{list_all}
use Rattle.smv_tree.specs.declared.value.Value.{Value}
use Rattle.smv_tree.specs.declared.value.Value.TheVariants as value
use Rattle.smv_tree.specs.declared.expr.Op2.{Op2}
use Rattle.smv_tree.specs.declared.expr.Op2.TheVariants as op
use Rattle.smv_meaning.specs.Operators.{one_value, selected, widened, counted}
use Rattle.smv_meaning.specs.Values.{on_one, on_both, chosen, first_true}
use Rattle.smv_meaning.specs.FlatTrees.{Flat, truth, number, word, name, span, set, cases, choice, one, two, select, next, widen, const, count, Flats, no_flats, flat, FlatArms, no_arms, arm, Numbers, eval, all_eval, each_eval, first_eval}
use Rattle.smv_values.specs.Answers.{is_held, kept}
use Rattle.smv_flat.specs.Fitting.{with_values, truth_of, fitting_choice, fitting_first, fitting_both, fitting_count, ahead, fitting_eval, all_fitting, each_fitting, first_fitting}

abbrev pub value_or : {A : Type 0} → A → Option A → A
value_or d (Some a) = a
value_or d None = d

pub some_is : {A : Type 0} (a b : A) → Some a ≡ Some b → b ≡ a
some_is a b e = sym (ap (value_or a) e)

pub never : {A : Type 0} (b : A) → None ≡ Some b → ⊥
never b e = grind (arith, e)

by_test : (b : Bool) (vs ws : List Value) → (if b then Some vs else None) ≡ Some ws → ws ≡ vs
by_test true vs ws e = some_is vs ws e
by_test false vs ws e = absurd (never ws e)

kept_is : (vs ws : List Value) → kept vs ≡ Some ws → ws ≡ vs
kept_is vs ws e = by_test (list_all is_held vs) vs ws e

parted : (o : Option (List Value)) (f : List Value → Option (List Value)) (ws : List Value) → with_values o f ≡ Some ws
    → (vs : List Value) × (o ≡ Some vs) × (f vs ≡ Some ws)
parted (Some vs) f ws e = (vs, refl, e)
parted None f ws e = absurd (never ws e)

both_law : (o : Op2) (vs ws us : List Value) → fitting_both o vs ws ≡ Some us → us ≡ on_both o vs ws
both_law op.Union vs ws us e = some_is (vs ++ ws) us e
both_law op.In vs ws us e = kept_is _ us e
both_law op.Concat vs ws us e = kept_is _ us e
both_law op.Mul vs ws us e = kept_is _ us e
both_law op.Div vs ws us e = kept_is _ us e
both_law op.Mod vs ws us e = kept_is _ us e
both_law op.Add vs ws us e = kept_is _ us e
both_law op.Sub vs ws us e = kept_is _ us e
both_law op.Shl vs ws us e = kept_is _ us e
both_law op.Shr vs ws us e = kept_is _ us e
both_law op.Eq vs ws us e = kept_is _ us e
both_law op.Ne vs ws us e = kept_is _ us e
both_law op.Lt vs ws us e = kept_is _ us e
both_law op.Gt vs ws us e = kept_is _ us e
both_law op.Le vs ws us e = kept_is _ us e
both_law op.Ge vs ws us e = kept_is _ us e
both_law op.And vs ws us e = kept_is _ us e
both_law op.Or vs ws us e = kept_is _ us e
both_law op.Xor vs ws us e = kept_is _ us e
both_law op.Xnor vs ws us e = kept_is _ us e
both_law op.Iff vs ws us e = kept_is _ us e
both_law op.Implies vs ws us e = kept_is _ us e

choice_law : (vs : List Value) (f g : Option (List Value)) (x y ws : List Value) → fitting_choice (truth_of vs) f g ≡ Some ws
    → (f ≡ Some ws → ws ≡ x) → (g ≡ Some ws → ws ≡ y) → ws ≡ chosen vs x y
choice_law (value.Truth true ∷ []) f g x y ws e first second = first e
choice_law (value.Truth false ∷ []) f g x y ws e first second = second e
choice_law [] f g x y ws e first second = some_is [] ws e
choice_law (value.Int z ∷ []) f g x y ws e first second = some_is [] ws e
choice_law (value.Sym s ∷ []) f g x y ws e first second = some_is [] ws e
choice_law (value.Word w ∷ []) f g x y ws e first second = some_is [] ws e
choice_law (value.Truth true ∷ v ∷ vs) f g x y ws e first second = some_is [] ws e
choice_law (value.Truth false ∷ v ∷ vs) f g x y ws e first second = some_is [] ws e
choice_law (value.Int z ∷ v ∷ vs) f g x y ws e first second = some_is [] ws e
choice_law (value.Sym s ∷ v ∷ vs) f g x y ws e first second = some_is [] ws e
choice_law (value.Word w ∷ v ∷ vs) f g x y ws e first second = some_is [] ws e

first_law : (vs : List Value) (f g : Option (List Value)) (x y ws : List Value) → fitting_first (truth_of vs) f g ≡ Some ws
    → (f ≡ Some ws → ws ≡ x) → (g ≡ Some ws → ws ≡ y) → ws ≡ first_true vs x y
first_law (value.Truth true ∷ []) f g x y ws e first others = first e
first_law (value.Truth false ∷ []) f g x y ws e first others = others e
first_law [] f g x y ws e first others = others e
first_law (value.Int z ∷ []) f g x y ws e first others = others e
first_law (value.Sym s ∷ []) f g x y ws e first others = others e
first_law (value.Word w ∷ []) f g x y ws e first others = others e
first_law (value.Truth true ∷ v ∷ vs) f g x y ws e first others = others e
first_law (value.Truth false ∷ v ∷ vs) f g x y ws e first others = others e
first_law (value.Int z ∷ v ∷ vs) f g x y ws e first others = others e
first_law (value.Sym s ∷ v ∷ vs) f g x y ws e first others = others e
first_law (value.Word w ∷ v ∷ vs) f g x y ws e first others = others e

counts : (found : Option (List (List Value))) (ws : List Value) → fitting_count found ≡ Some ws
    → (lists : List (List Value)) × (found ≡ Some lists) × (ws ≡ counted 0 lists)
counts (Some lists) ws e = (lists, refl, kept_is (counted 0 lists) ws e)
counts None ws e = absurd (never ws e)

headed : (first : Option (List Value)) (rest : Option (List (List Value))) (lists : List (List Value)) → ahead first rest ≡ Some lists
    → (vs : List Value) × (more : List (List Value)) × (first ≡ Some vs) × (rest ≡ Some more) × (lists ≡ vs ∷ more)
headed (Some vs) (Some more) lists e = (vs, more, refl, refl, some_is (vs ∷ more) lists e)
headed (Some vs) None lists e = absurd (never lists e)
headed None rest lists e = absurd (never lists e)

mutual
  pub eval_law : (now later : Numbers) (e : Flat) (vs : List Value) → fitting_eval now later e ≡ Some vs → vs ≡ eval now later e
  eval_law now later (truth p b) vs h = some_is _ vs h
  eval_law now later (number p n) vs h = kept_is _ vs h
  eval_law now later (word p w) vs h = some_is _ vs h
  eval_law now later (name p x) vs h = some_is _ vs h
  eval_law now later (span p low high) vs h = some_is _ vs h
  eval_law now later (set p es) vs h = all_law now later es vs h
  eval_law now later (cases p bs) vs h = arms_law now later bs vs h
  eval_law now later (choice p c a b) vs h =
      let s = parted (fitting_eval now later c) (λ us. fitting_choice (truth_of us) (fitting_eval now later a) (fitting_eval now later b)) vs h in
      choice_law s.0 (fitting_eval now later a) (fitting_eval now later b) (eval now later a) (eval now later b) vs s.2 (eval_law now later a vs) (eval_law now later b vs)
      ∙ ap (λ us. chosen us (eval now later a) (eval now later b)) (eval_law now later c s.0 s.1)
  eval_law now later (one p o a) vs h =
      let s = parted (fitting_eval now later a) (λ us. kept (on_one (one_value o) us)) vs h in
      kept_is (on_one (one_value o) s.0) vs s.2 ∙ ap (on_one (one_value o)) (eval_law now later a s.0 s.1)
  eval_law now later (two p o a b) vs h =
      let s = parted (fitting_eval now later a) (λ us. with_values (fitting_eval now later b) (λ ws. fitting_both o us ws)) vs h in
      let t = parted (fitting_eval now later b) (λ ws. fitting_both o s.0 ws) vs s.2 in
      both_law o s.0 t.0 vs t.2 ∙ (λ i. on_both o (eval_law now later a s.0 s.1 i) (eval_law now later b t.0 t.1 i))
  eval_law now later (select p a high low) vs h =
      let s = parted (fitting_eval now later a) (λ us. kept (on_one (selected high low) us)) vs h in
      kept_is (on_one (selected high low) s.0) vs s.2 ∙ ap (on_one (selected high low)) (eval_law now later a s.0 s.1)
  eval_law now later (next p a) vs h = eval_law later later a vs h
  eval_law now later (widen p resize a n) vs h =
      let s = parted (fitting_eval now later a) (λ us. kept (on_one (widened resize n) us)) vs h in
      kept_is (on_one (widened resize n) s.0) vs s.2 ∙ ap (on_one (widened resize n)) (eval_law now later a s.0 s.1)
  eval_law now later (const p signed v n) vs h = kept_is _ vs h
  eval_law now later (count p es) vs h =
      let s = counts (each_fitting now later es) vs h in
      s.2 ∙ ap (counted 0) (each_law now later es s.0 s.1)

  all_law : (now later : Numbers) (es : Flats) (vs : List Value) → all_fitting now later es ≡ Some vs → vs ≡ all_eval now later es
  all_law now later no_flats vs h = some_is _ vs h
  all_law now later (flat e es) vs h =
      let s = parted (fitting_eval now later e) (λ us. with_values (all_fitting now later es) (λ ws. Some (us ++ ws))) vs h in
      let t = parted (all_fitting now later es) (λ ws. Some (s.0 ++ ws)) vs s.2 in
      some_is (s.0 ++ t.0) vs t.2 ∙ (λ i. eval_law now later e s.0 s.1 i ++ all_law now later es t.0 t.1 i)

  each_law : (now later : Numbers) (es : Flats) (lists : List (List Value)) → each_fitting now later es ≡ Some lists → lists ≡ each_eval now later es
  each_law now later no_flats lists h = some_is _ lists h
  each_law now later (flat e es) lists h =
      let s = headed (fitting_eval now later e) (each_fitting now later es) lists h in
      s.4 ∙ (λ i. eval_law now later e s.0 s.2 i ∷ each_law now later es s.1 s.3 i)

  arms_law : (now later : Numbers) (bs : FlatArms) (vs : List Value) → first_fitting now later bs ≡ Some vs → vs ≡ first_eval now later bs
  arms_law now later no_arms vs h = some_is _ vs h
  arms_law now later (arm c a bs) vs h =
      let s = parted (fitting_eval now later c) (λ us. fitting_first (truth_of us) (fitting_eval now later a) (first_fitting now later bs)) vs h in
      first_law s.0 (fitting_eval now later a) (first_fitting now later bs) (eval now later a) (first_eval now later bs) vs s.2 (eval_law now later a vs) (arms_law now later bs vs)
      ∙ ap (λ us. first_true us (eval now later a) (first_eval now later bs)) (eval_law now later c s.0 s.1)
