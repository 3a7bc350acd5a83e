-- What a loop over what comes again rests on: one turn of it.
use Rattle.std.proofs.Common.{◌≡◌, ◌<◌, ℕ, suc, List, [], ◌∷◌, Option, Some, None, Result, Ok, Err, refl, sym, ◌∙◌, ap, subst, length, arith}
use Rattle.smv_token.specs.declared.token.Token.{Token}
use Rattle.smv_reader.specs.declared.halt.Halt.{Halt}
use Rattle.smv_reader.specs.declared.halt.Halt.TheVariants as halts
use Rattle.smv_reader.specs.Halts.{Halts}
use Rattle.smv_rules.specs.Reading.{Stop, wrong, deep, ◌>>=◌, Got}
use Rattle.smv_rules.proofs.Outcomes.{ReachedTo}
use Rattle.smv_rules.specs.Keys.{Key, Payload, sees}
use Rattle.smv_rules.specs.Rules.{Rule, again}
use Rattle.smv_rules.specs.Running.{if_seen, run}
use Rattle.smv_rules.specs.Sorts.{Gift, Sort}
use Rattle.smv_rules.proofs.Meeting.{next_read, run_within, stop_read}
use Rattle.smv_reader.specs.Turns.{Turn, turn}

-- what is left to read behind one turn
abbrev onward : (n : ℕ) (s : Sort) (k : Key) (f : Gift s → Payload k → Rule s) (ts : List Token) → Gift s × Option (List Token) → Got (Gift s)
onward n s k f ts (b, None) = Ok (b, ts)
onward n s k f ts (b, Some us) = run n (again s k f b) us

onward_bind : (n : ℕ) (s : Sort) (k : Key) (f : Gift s → Payload k → Rule s) (ts : List Token) (out : Got (Gift s)) → ((out >>= (λ b. Ok (b.0, Some b.1))) >>= onward n s k f ts) ≡ (out >>= (λ b. run n (again s k f b.0) b.1))
onward_bind n s k f ts (Ok b) = refl
onward_bind n s k f ts (Err e) = refl

-- what comes again is one turn, and what is left behind it
turned : (n : ℕ) (s : Sort) (k : Key) (f : Gift s → Payload k → Rule s) (a : Gift s) (ts : List Token) → run n (again s k f a) ts ≡ (turn n (again s k f a) ts >>= onward n s k f ts)
unfolding turn
turned n s k f a [] = stop_read n s k f a [] tt
turned n s k f a (t ∷ ts) = by_seen (sees k t ts) refl where
  by_seen : (o : Option (Payload k)) → sees k t ts ≡ o → run n (again s k f a) (t ∷ ts) ≡ (if_seen o (λ p. run n (f a p) ts >>= (λ b. Ok (b.0, Some b.1))) (Ok (a, None)) >>= onward n s k f (t ∷ ts))
  by_seen None e = stop_read n s k f a (t ∷ ts) e
  by_seen (Some p) e = next_read n s k f a t p ts e ∙ sym (onward_bind n s k f (t ∷ ts) (run n (f a p) ts))

pub loop_stops : (n : ℕ) (s : Sort) (k : Key) (f : Gift s → Payload k → Rule s) (a b : Gift s) (ts : List Token) → turn n (again s k f a) ts ≡ Ok (b, None) → run n (again s k f a) ts ≡ Ok (b, ts)
loop_stops n s k f a b ts e = turned n s k f a ts ∙ ap (λ (o : Turn (Gift s)). o >>= onward n s k f ts) e

pub loop_goes : (n : ℕ) (s : Sort) (k : Key) (f : Gift s → Payload k → Rule s) (a b : Gift s) (ts us : List Token) → turn n (again s k f a) ts ≡ Ok (b, Some us) → run n (again s k f b) us ≡ run n (again s k f a) ts
loop_goes n s k f a b ts us e = sym (turned n s k f a ts ∙ ap (λ (o : Turn (Gift s)). o >>= onward n s k f ts) e)

loop_halts : (h : Halt) (n : ℕ) (s : Sort) (k : Key) (f : Gift s → Payload k → Rule s) (a : Gift s) (ts : List Token) → Halts h (turn n (again s k f a) ts) → Halts h (run n (again s k f a) ts)
loop_halts (halts.Wrong i) n s k f a ts e = turned n s k f a ts ∙ ap (λ (o : Turn (Gift s)). o >>= onward n s k f ts) e
loop_halts (halts.Deep i) n s k f a ts e = turned n s k f a ts ∙ ap (λ (o : Turn (Gift s)). o >>= onward n s k f ts) e
loop_halts (halts.NoMemory i) n s k f a ts e = tt

halts_back : {X : Type 0} (h : Halt) (out : Got X) → Halts {Y = X × Option (List Token)} h (out >>= (λ b. Ok (b.0, None))) → Halts h out
halts_back (halts.Wrong i) (Ok b) e = absurd (cc)
halts_back (halts.Wrong i) (Err j) e = let g : j ≡ wrong i = cc in ap Err g
halts_back (halts.Deep i) (Ok b) e = absurd (cc)
halts_back (halts.Deep i) (Err j) e = let g : j ≡ deep i = cc in ap Err g
halts_back (halts.NoMemory i) out e = tt

turn_halts : (h : Halt) (n : ℕ) (s : Sort) (r : Rule s) (ts : List Token) → Halts h (turn n r ts) → Halts h (run n r ts)
unfolding turn
turn_halts h n _ (again s k f a) ts e = loop_halts h n s k f a ts e
turn_halts h n s r ts e = halts_back h (run n r ts) e

-- where a turn halts, all that comes again does
pub loop_fails : (h : Halt) (n : ℕ) (s : Sort) (r : Rule s) (ts : List Token) (out : Got (Gift s)) → Halts h (turn n r ts) → run n r ts ≡ out → Halts h out
loop_fails h n s r ts out e is = let P : Got (Gift s) → Type 0 = λ o. Halts h o in subst P is (turn_halts h n s r ts e)

-- a turn takes a token
abbrev Shorter : {X : Type 0} → ℕ → Turn X → Type 0
Shorter m (Ok (b, None)) = Unit {0}
Shorter m (Ok (b, Some us)) = length us < m
Shorter m (Err e) = Unit {0}

read_shorter : {X : Type 0} (m : ℕ) (out : Got X) → ReachedTo m out → Shorter (suc m) (out >>= (λ b. Ok (b.0, Some b.1)))
unfolding ReachedTo
read_shorter m (Ok b) h = omega (arith, h)
read_shorter m (Err (wrong i)) h = tt
read_shorter m (Err (deep i)) h = tt

turn_shorter : (n : ℕ) (s : Sort) (k : Key) (f : Gift s → Payload k → Rule s) (a : Gift s) (ts : List Token) → Shorter (length ts) (turn n (again s k f a) ts)
unfolding turn
turn_shorter n s k f a [] = tt
turn_shorter n s k f a (t ∷ ts) = by_seen (sees k t ts) where
  by_seen : (o : Option (Payload k)) → Shorter (suc (length ts)) (if_seen o (λ p. run n (f a p) ts >>= (λ b. Ok (b.0, Some b.1))) (Ok (a, None)))
  by_seen None = tt
  by_seen (Some p) = read_shorter (length ts) (run n (f a p) ts) (run_within n (f a p) ts)

pub loop_less : (n : ℕ) (s : Sort) (k : Key) (f : Gift s → Payload k → Rule s) (a b : Gift s) (ts us : List Token) → turn n (again s k f a) ts ≡ Ok (b, Some us) → length us < length ts
loop_less n s k f a b ts us e = let P : Turn (Gift s) → Type 0 = λ o. Shorter (length ts) o in subst P e (turn_shorter n s k f a ts)
