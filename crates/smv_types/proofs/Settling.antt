-- Where names come to an end, they stand for one thing each.
use Rattle.std.proofs.Common.{◌≡◌, ℕ, zero, suc, List, refl, sym, ◌∙◌}
use Rattle.std.proofs.Math.Path.{fun_ext}
use Rattle.smv_tree.specs.Models.{Body}
use Rattle.smv_meaning.specs.Instances.{variables}
use Rattle.smv_meaning.specs.Names.{Target, to_variable, to_body, to_instance, to_symbol, to_nothing, resolve}
use Rattle.smv_meaning.specs.Cycles.{Settles, IsSettled}
use Rattle.smv_typing.specs.declared.standing.Standing.TheVariants.{Faulty}
use Rattle.smv_types.specs.Standings.{Standings, target_standing, AreStandings}
use Rattle.smv_types.proofs.Agreement.{same_body}

module _ (program : List Body) where
  -- a target stands for the same where the names of its body do, which settle through fewer bodies
  same_target : (a b : ℕ) (s r : Standings) (t : Target) → Settles program (suc a) t → Settles program (suc b) t
      → ((up names : List (List ℕ)) → Settles program a (resolve program up names) → Settles program b (resolve program up names) → s up names ≡ r up names)
      → target_standing (variables program) s t ≡ target_standing (variables program) r t
  same_target a b s r (to_variable path) h k f = refl
  same_target a b s r (to_body up e) h k f = same_body (s up) (r up) e (λ names c. f up names (h names c) (k names c))
  same_target a b s r (to_instance up) h k f = refl
  same_target a b s r (to_symbol n) h k f = refl
  same_target a b s r to_nothing h k f = refl

  agree_on : (s r : Standings) → AreStandings program s → AreStandings program r → (n : ℕ) (up names : List (List ℕ)) → Settles program n (resolve program up names) → s up names ≡ r up names
  agree_on s r f g zero up names h = absurd h
  agree_on s r f g (suc n) up names h =
      f up names ∙ (same_target n n s r (resolve program up names) h h (λ u y k l. agree_on s r f g n u y k) ∙ sym (g up names))

  -- what names stand for whose bodies lie one in another fewer times than this
  told : ℕ → Standings
  told zero up names = Faulty
  told (suc n) up names = target_standing (variables program) (told n) (resolve program up names)

  told_once : (a b : ℕ) (up names : List (List ℕ)) → Settles program a (resolve program up names) → Settles program b (resolve program up names) → told a up names ≡ told b up names
  unfolding told
  told_once zero b up names h k = absurd h
  told_once (suc a) zero up names h k = absurd k
  told_once (suc a) (suc b) up names h k = same_target a b (told a) (told b) (resolve program up names) h k (told_once a b)

  settled : IsSettled program → Standings
  settled h up names = told (h up names).0 up names

  settled_stand : (h : IsSettled program) → AreStandings program (settled h)
  unfolding settled told
  settled_stand h up names = by_number (h up names).0 (h up names).1
    where
      by_number : (n : ℕ) → Settles program n (resolve program up names) → told n up names ≡ target_standing (variables program) (settled h) (resolve program up names)
      by_number zero k = absurd k
      by_number (suc n) k = same_target n n (told n) (settled h) (resolve program up names) k k (λ u y i j. told_once n (h u y).0 u y i (h u y).1)

pub standings_there : (program : List Body) → IsSettled program → (s : Standings) × AreStandings program s
standings_there program h = (settled program h, settled_stand program h)

pub standings_one : (program : List Body) (s r : Standings) → IsSettled program → AreStandings program s → AreStandings program r → s ≡ r
standings_one program s r h f g = fun_ext (λ up. fun_ext (λ names. agree_on program s r f g (h up names).0 up names (h up names).1))
