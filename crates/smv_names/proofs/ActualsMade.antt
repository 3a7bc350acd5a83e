-- What actual parameters stand for, as it is entered.
use Rattle.std.proofs.Common.{Vec, ◌≡◌, ◌<◌, ◌≤◌, ◌+◌, ℕ, zero, suc, List, [], ◌∷◌, ◌++◌, length, refl, ap, sym, ◌∙◌, subst, inl, inr, arith}
use Rattle.std.specs.Prelude.{◌⊎◌, Contains, Option, Some, None, slice_get, option_map, option_and_then}
use Rattle.std.specs.declared.alloc.Global.{Global}
use Rattle.std.proofs.lemmas.Bool.{cases_lt}
use Rattle.std.proofs.lemmas.List.{length-append}
use Rattle.smv_tree.specs.Trees.{Tree, truth, number, word, name, span, set, cases, choice, one, two, select, next, widen, const, count}
use Rattle.smv_tree.specs.Models.{Body}
use Rattle.smv_meaning.specs.Instances.{Instance, instances, list_of}
use Rattle.smv_meaning.specs.Names.{to_body, resolve, actual_target}
use Rattle.smv_meaning.specs.Definitions.{outer}
use Rattle.smv_meaning.specs.Rows.{Row, IsRow, AreRows}
use Rattle.smv_meaning.proofs.Lists.{slice_get-contained}
use Rattle.smv_modules.proofs.Listing.{slice_get-front}
use Rattle.smv_names.specs.declared.target.Target.{Target as Numbered}
use Rattle.smv_names.specs.declared.target.Target.TheVariants as numbered
use Rattle.smv_names.specs.declared.resolver.Resolver.{Resolver}
use Rattle.smv_names.specs.Targets.{meant}
use Rattle.smv_names.specs.Lookups.{child_in, actual_at}
use Rattle.smv_names.specs.Declaring.{declaration_of, actuals_of, actuals_in, actuals_by, given_target, AreGiven}
use Rattle.smv_names.specs.Ready.{IsModuleOf, AreScopes, AreChildren, AreSymbols, actual_in, IsReadyBelow}
use Rattle.smv_names.proofs.Resolving.{zip_at, in_list, resolves}
use Rattle.smv_names.proofs.TablesMade.{zip_back, declared_row}

-- what stands in a list with one more element
last_or : {X : Type 0} (xs : List X) (x : X) (k : ℕ) (y : X) → slice_get (xs ++ x ∷ []) k ≡ Some y → (slice_get xs k ≡ Some y) ⊎ ((k ≡ length xs) × (x ≡ y))
last_or [] x zero y e = inr (refl, cc)
last_or [] x (suc k) y e = absurd (cc)
last_or (z ∷ zs) x zero y e = inl e
last_or (z ∷ zs) x (suc k) y e = elim (last_or zs x k y e) [ inl h ↦ inl h | inr h ↦ inr (ap suc h.0, h.1) ]

at_last : {X : Type 0} (xs : List X) (x : X) (k : ℕ) → k ≡ length xs → slice_get (xs ++ x ∷ []) k ≡ Some x
at_last {X} xs x k e = ap (slice_get (xs ++ x ∷ [])) e ∙ there xs
  where
    there : (ys : List X) → slice_get (ys ++ x ∷ []) (length ys) ≡ Some x
    there [] = refl
    there (y ∷ ys) = there ys

pub length_on : {X : Type 0} (xs : List X) (x : X) (n : ℕ) → length xs ≡ n → length (xs ++ x ∷ []) ≡ n + 1
length_on xs x n e = length-append xs (x ∷ []) ∙ ap (λ k. k + 1) e

pub given_more : (r : Resolver) (around n : ℕ) (es : List Tree) (ts new : List (Option Numbered)) (e : Tree) → length ts ≡ length es → AreGiven r around n es ts
    → new ≡ ts ++ given_target r around n (length ts) e ∷ [] → AreGiven r around n (es ++ e ∷ []) new
given_more r around n es ts new e same h put k x at =
    ap (λ zs. slice_get zs k) put ∙ elim (last_or es e k x at) [
      | inl g ↦ slice_get-front ts (given_target r around n (length ts) e ∷ []) k (given_target r around n k x) (h k x g)
      | inr g ↦ (let here : k ≡ length ts = g.0 ∙ sym same in
          at_last ts (given_target r around n (length ts) e) k here ∙ (ap (λ j. Some (given_target r around n j e)) (sym here) ∙ ap (λ y. Some (given_target r around n k y)) g.1))
    ]

module _ (program : List Body) (below : ℕ) (r : Resolver) (ready : IsReadyBelow program below r) where
  -- an actual parameter stands for what is entered for it
  module _ (i j : Instance) (c parent : ℕ) (at : slice_get (instances program) c ≡ Some i) (there : slice_get (instances program) parent ≡ Some j) (before : parent < below) (around : List (List ℕ)) (up : j.up ≡ around) (out : outer i.up ≡ around) where
    parameter : (k : ℕ) (e : Tree) → slice_get i.actuals k ≡ Some e → meant program r.symbols (Some (numbered.Parameter c k)) ≡ Some (to_body around e)
    parameter k e s =
        ap (option_and_then (λ (x : Instance). option_map (to_body (outer x.up)) (slice_get x.actuals k))) at
        ∙ (ap (option_map (to_body (outer i.up))) s ∙ ap (λ u. Some (to_body u e)) out)

    given_means : (k : ℕ) (e : Tree) → slice_get i.actuals k ≡ Some e → meant program r.symbols (given_target r parent c k e) ≡ Some (actual_target around (resolve program around) e)
    given_means k (name p names) s = resolves program below r ready parent j before there names ∙ ap (λ u. Some (resolve program u names)) up
    given_means k (truth p b) s = parameter k (truth p b) s
    given_means k (number p n) s = parameter k (number p n) s
    given_means k (word p w) s = parameter k (word p w) s
    given_means k (span p low high) s = parameter k (span p low high) s
    given_means k (set p es) s = parameter k (set p es) s
    given_means k (cases p bs) s = parameter k (cases p bs) s
    given_means k (choice p x a b) s = parameter k (choice p x a b) s
    given_means k (one p o a) s = parameter k (one p o a) s
    given_means k (two p o a b) s = parameter k (two p o a b) s
    given_means k (select p a high low) s = parameter k (select p a high low) s
    given_means k (next p a) s = parameter k (next p a) s
    given_means k (widen p resize a n) s = parameter k (widen p resize a n) s
    given_means k (const p signed v n) s = parameter k (const p signed v n) s
    given_means k (count p es) s = parameter k (count p es) s

  module _ (rows : List Row) (are_rows : AreRows program rows) (row : Row) (here : slice_get rows below ≡ Some row) (es : List Tree) (ts : List (Option Numbered)) (taken : es ≡ actuals_by program r.scopes (declaration_of r.scopes row)) (given : AreGiven r row.parent below es ts) where
    all : List Instance
    all = instances program

    means : (i : Instance) → slice_get (instances program) below ≡ Some i → (k : ℕ) (e : Tree) → slice_get i.actuals k ≡ Some e → meant program r.symbols (option_and_then (λ (t : Option Numbered). t) (slice_get ts k)) ≡ Some (actual_in program i.up e)
    means i at k e s = by_up i.up refl
      where
        ci : Contains (instances program) i
        ci = slice_get-contained (instances program) below i at

        is_row : IsRow program i row
        is_row =
            let back = zip_back (IsRow program) (instances program) rows are_rows below row here in
            let both : Some back.0 ≡ Some i = sym back.1 ∙ at in
            let same : back.0 ≡ i = cc in
            subst (λ x. IsRow program x row) same back.2

        by_up : (u : List (List ℕ)) → i.up ≡ u → meant program r.symbols (option_and_then (λ (t : Option Numbered). t) (slice_get ts k)) ≡ Some (actual_in program u e)
        by_up [] u = absurd (let no : None ≡ Some e = sym (ap (λ (xs : List Tree). slice_get xs k) (ready.whole.main i ci u)) ∙ s in cc)
        by_up (m ∷ around) u =
            let d = declared_row program r.scopes ready.scopes ready.whole i row m around ci is_row u in
            let j = d.parent in
            let owner = zip_at (IsModuleOf program) (instances program) r.scopes.module_numbers.items ready.scopes.numbers row.parent j d.there in
            let part = ap (λ o. list_of actuals_of (option_and_then (λ (b : Body). slice_get b.parts d.item) o)) owner.2 ∙ ap (list_of actuals_of) d.declares.item in
            let own : es ≡ i.actuals = taken ∙ (ap (actuals_by program r.scopes) d.key ∙ (ap (list_of (λ x. actuals_in program x d.item)) owner.1 ∙ part)) in
            let before : row.parent < below = ready.whole.ordered row.parent below j i m d.there at (u ∙ ap (λ x. m ∷ x) (sym d.up)) in
            ap (λ o. meant program r.symbols (option_and_then (λ (t : Option Numbered). t) o)) (given k e (ap (λ (xs : List Tree). slice_get xs k) own ∙ s))
            ∙ given_means i j below row.parent at d.there before around d.up (ap outer u) k e s

    pub given_on : (new : Resolver) (last : Vec (Option Numbered) Global) → last.items ≡ ts → new.scopes ≡ r.scopes → new.children.entries ≡ r.children.entries → new.symbols ≡ r.symbols → new.actuals.items ≡ r.actuals.items ++ last ∷ []
        → IsReadyBelow program (below + 1) new
    given_on new last items scopes children symbols actuals = record {
      whole = ready.whole;
      scopes = subst (AreScopes program) (sym scopes) ready.scopes;
      children = subst (λ es. AreChildren program (child_in es)) (sym children) ready.children;
      symbols = subst (AreSymbols program) (sym symbols) ready.symbols;
      counted = ap length actuals ∙ length_on r.actuals.items last below ready.counted;
      actuals = λ n k i e l at s. ap (λ ss. meant program ss (actual_at new n k)) symbols ∙ by_place n k i e at s (cases_lt n below) l;
    }
      where
        at_row : ℕ → Option (Vec (Option Numbered) Global) → Option Numbered
        at_row k o = option_and_then (λ (ts : Vec (Option Numbered) Global). option_and_then (λ (t : Option Numbered). t) (slice_get ts.items k)) o

        by_place : (n k : ℕ) (i : Instance) (e : Tree) → slice_get (instances program) n ≡ Some i → slice_get i.actuals k ≡ Some e → (n < below) ⊎ (below ≤ n) → n < below + 1 → meant program r.symbols (actual_at new n k) ≡ Some (actual_in program i.up e)
        by_place n k i e at s (inl l) h =
            let old = in_list r.actuals.items n (omega (arith, l, ready.counted)) in
            ap (λ o. meant program r.symbols (at_row k o)) (ap (λ xs. slice_get xs n) actuals ∙ (slice_get-front r.actuals.items (last ∷ []) n old.0 old.1 ∙ sym old.1))
            ∙ ready.actuals n k i e l at s
        by_place n k i e at s (inr l) h =
            let same : n ≡ below = omega (arith, l, h) in
            ap (λ o. meant program r.symbols (at_row k o)) (ap (λ xs. slice_get xs n) actuals ∙ at_last r.actuals.items last n (same ∙ sym ready.counted))
            ∙ (ap (λ (xs : List (Option Numbered)). meant program r.symbols (option_and_then (λ (t : Option Numbered). t) (slice_get xs k))) items ∙ means i (ap (slice_get (instances program)) (sym same) ∙ at) k e s)
