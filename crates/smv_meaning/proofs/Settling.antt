-- Where names come to an end, each moment has exactly one naming.
use Rattle.std.proofs.Common.{◌≡◌, ℕ, zero, suc, List, [], refl, sym, ◌∙◌}
use Rattle.std.proofs.Math.Path.{fun_ext}
use Rattle.smv_tree.specs.Trees.{Tree}
use Rattle.smv_tree.specs.Models.{Body}
use Rattle.smv_tree.specs.declared.value.Value.{Value}
use Rattle.smv_meaning.specs.Instances.{Variable, variables}
use Rattle.smv_meaning.specs.Names.{Target, to_variable, to_body, to_instance, to_symbol, to_nothing, resolve}
use Rattle.smv_meaning.specs.Values.{Naming, Snapshot, IsNaming, values, target_values}
use Rattle.smv_meaning.specs.Runs.{HasValues}
use Rattle.smv_meaning.specs.Cycles.{EachName, OnBody, Settles, IsSettled}
use Rattle.smv_meaning.proofs.Agreement.{same_values}

-- what settles through fewer bodies than this settles through fewer than more
pub settles_later : (program : List Body) (n : ℕ) (t : Target) → Settles program n t → Settles program (suc n) t
settles_later program zero t s = absurd s
settles_later program (suc n) (to_body up e) s = λ names c. settles_later program n (resolve program up names) (s names c)
settles_later program (suc n) (to_variable path) s = tt
settles_later program (suc n) (to_instance up) s = tt
settles_later program (suc n) (to_symbol m) s = tt
settles_later program (suc n) to_nothing s = tt

module _ (vars : List Variable) (m : Snapshot) where
  -- two namings give a target the same values if they agree on the names of its body
  same_target : (now other : Naming) (t : Target) → OnBody (λ up e. EachName (λ names. now up names ≡ other up names) e) t → target_values vars m now t ≡ target_values vars m other t
  same_target now other (to_variable path) h = refl
  same_target now other (to_body up e) h = same_values up now other now other e h h
  same_target now other (to_instance up) h = refl
  same_target now other (to_symbol n) h = refl
  same_target now other to_nothing h = refl

-- a fact that implies another, on a body
on_body : (P Q : List (List ℕ) → Tree → Type 0) (t : Target) → ((up : List (List ℕ)) (e : Tree) → P up e → Q up e) → OnBody P t → OnBody Q t
on_body P Q (to_variable path) f h = tt
on_body P Q (to_body up e) f h = f up e h
on_body P Q (to_instance up) f h = tt
on_body P Q (to_symbol n) f h = tt
on_body P Q to_nothing f h = tt

-- a fact that two others imply, on a body
on_two_bodies : (P Q R : List (List ℕ) → Tree → Type 0) (t : Target) → ((up : List (List ℕ)) (e : Tree) → P up e → Q up e → R up e) → OnBody P t → OnBody Q t → OnBody R t
on_two_bodies P Q R (to_variable path) f h k = tt
on_two_bodies P Q R (to_body up e) f h k = f up e h k
on_two_bodies P Q R (to_instance up) f h k = tt
on_two_bodies P Q R (to_symbol n) f h k = tt
on_two_bodies P Q R to_nothing f h k = tt

module _ (program : List Body) (m : Snapshot) where
  -- two namings of a moment agree on what settles
  agree_on : (now other : Naming) → IsNaming program m now → IsNaming program m other → (n : ℕ) (up names : List (List ℕ)) → Settles program n (resolve program up names) → now up names ≡ other up names
  agree_on now other f g zero up names s = absurd s
  agree_on now other f g (suc n) up names s =
      f up names
      ∙ (same_target (variables program) m now other (resolve program up names)
      (on_body (λ u e. EachName (λ y. Settles program n (resolve program u y)) e) (λ u e. EachName (λ y. now u y ≡ other u y) e) (resolve program up names) (λ u e h y c. agree_on now other f g n u y (h y c)) s)
      ∙ sym (g up names))

  -- the values of names whose bodies lie one in another fewer times than this
  told : ℕ → Naming
  told zero up names = []
  told (suc n) up names = target_values (variables program) m (told n) (resolve program up names)

  -- any two numbers that suffice tell the same
  told_once : (a b : ℕ) (up names : List (List ℕ)) → Settles program a (resolve program up names) → Settles program b (resolve program up names) → told a up names ≡ told b up names
  unfolding told
  told_once zero b up names s t = absurd s
  told_once (suc a) zero up names s t = absurd t
  told_once (suc a) (suc b) up names s t =
      same_target (variables program) m (told a) (told b) (resolve program up names)
      (on_two_bodies (λ u e. EachName (λ y. Settles program a (resolve program u y)) e) (λ u e. EachName (λ y. Settles program b (resolve program u y)) e) (λ u e. EachName (λ y. told a u y ≡ told b u y) e) (resolve program up names) (λ u e h k y c. told_once a b u y (h y c) (k y c)) s t)

  settled_naming : IsSettled program → Naming
  settled_naming h up names = told (h up names).0 up names

  settled_is_naming : (h : IsSettled program) → IsNaming program m (settled_naming h)
  unfolding settled_naming told
  settled_is_naming h up names = by_number (h up names).0 (h up names).1
    where
      by_number : (n : ℕ) → Settles program n (resolve program up names) → told n up names ≡ target_values (variables program) m (settled_naming h) (resolve program up names)
      by_number zero s = absurd s
      by_number (suc n) s =
          same_target (variables program) m (told n) (settled_naming h) (resolve program up names)
          (on_body (λ u e. EachName (λ y. Settles program n (resolve program u y)) e) (λ u e. EachName (λ y. told n u y ≡ settled_naming h u y) e) (resolve program up names) (λ u e k y c. told_once n (h u y).0 u y (k y c) (h u y).1) s)

pub naming_there : (program : List Body) (m : Snapshot) → IsSettled program → (now : Naming) × IsNaming program m now
naming_there program m h = (settled_naming program m h, settled_is_naming program m h)

pub naming_one : (program : List Body) (m : Snapshot) (now other : Naming) → IsSettled program → IsNaming program m now → IsNaming program m other → now ≡ other
naming_one program m now other h f g = fun_ext (λ up. fun_ext (λ names. agree_on program m now other f g (h up names).0 up names (h up names).1))

pub values_there : (program : List Body) (m n : Snapshot) (up : List (List ℕ)) (e : Tree) → IsSettled program → (vs : List Value) × HasValues program m n up e vs
values_there program m n up e h =
    (values (settled_naming program m h) (settled_naming program n h) up e, (settled_naming program m h, settled_naming program n h, settled_is_naming program m h, settled_is_naming program n h, refl))

pub values_one : (program : List Body) (m n : Snapshot) (up : List (List ℕ)) (e : Tree) (vs ws : List Value) → IsSettled program → HasValues program m n up e vs → HasValues program m n up e ws → vs ≡ ws
values_one program m n up e vs ws h (now, later, f, g, p) (other, next_other, k, l, q) =
    let x : now ≡ other = naming_one program m now other h f k in
    let y : later ≡ next_other = naming_one program n later next_other h g l in
    cc
