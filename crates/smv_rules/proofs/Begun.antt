-- What takes a token before it ends or is too deep.
use Rattle.std.proofs.Common.{◌≡◌, ◌<◌, ℕ, List, length, arith}
use Rattle.smv_token.specs.declared.token.Token.{Token}
use Rattle.smv_rules.proofs.Rests.{rest_length}
use Rattle.smv_rules.specs.Sorts.{Gift, Sort}
use Rattle.smv_rules.specs.Rules.{Rule, gives, too_deep, must, may, part, then, again}
use Rattle.smv_rules.specs.Expressions.{expr, level}
use Rattle.smv_rules.specs.Formulas.{formula_level}
use Rattle.smv_rules.specs.Follows.{by_token, End, at_depth, Follows, done, has, takes, skips, nests, stays, chains, stops, goes_on, Leads, here, deep_here, past_token, past_taken, past_skipped, in_part, in_other, in_first, past_first, in_next, past_next}
use Rattle.smv_rules.proofs.Ways.{follows_rest, leads_rest}

-- a rule that takes a token
abbrev pub Takes : {s : Sort} → Rule s → Type 0
Takes (gives s x) = ⊥
Takes (too_deep s) = ⊥
Takes (must s k f) = Unit {0}
Takes (may s k f r) = Takes r
Takes (part s p r) = ⊥
Takes (then z s r f) = Takes r
Takes (again s k f a) = ⊥

-- a rule that is not too deep before it takes a token
abbrev pub Late : {s : Sort} → Rule s → Type 0
Late (gives s x) = Unit {0}
Late (too_deep s) = ⊥
Late (must s k f) = Unit {0}
Late (may s k f r) = Late r
Late (part s p r) = ⊥
Late (then z s r f) = Takes r
Late (again s k f a) = Unit {0}

takes_late : {s : Sort} (r : Rule s) → Takes r → Late r
takes_late (gives s x) h = absurd h
takes_late (too_deep s) h = absurd h
takes_late (must s k f) h = tt
takes_late (may s k f r) h = takes_late r h
takes_late (part s p r) h = absurd h
takes_late (then z s r f) h = h
takes_late (again s k f a) h = absurd h

takes_some : {n : ℕ} {s : Sort} {r : Rule s} {ts rest : List Token} {x : Gift s} → Follows by_token n s r ts rest x → Takes r → length rest < length ts
takes_some (done n s x ts) h = absurd h
takes_some (has n s k f t p ts rest x e j) h = let l = rest_length rest ts (follows_rest j) in omega (arith, l)
takes_some (takes n s k f r t p ts rest x e j) h = let l = rest_length rest ts (follows_rest j) in omega (arith, l)
takes_some (skips n s k f r ts rest x u j) h = takes_some j h
takes_some (nests n s p r ts rest x j) h = absurd h
takes_some (stays s p r ts rest x j) h = absurd h
takes_some (chains n z s r f ts us rest a x j i) h = let l = takes_some j h in let m = rest_length rest us (follows_rest i) in omega (arith, l, m)
takes_some (stops n s k f a ts u) h = absurd h
takes_some (goes_on n s k f a t p ts us rest b x e j i) h = absurd h

-- where it is too deep, a token was taken
pub late_some : {e : End} {n : ℕ} {s : Sort} {r : Rule s} {ts rest : List Token} → Leads by_token e n s r ts rest → e ≡ at_depth → Late r → length rest < length ts
late_some (here n s r ts) i h = absurd (cc)
late_some (deep_here n s ts) i h = absurd h
late_some (past_token e n s k f t p ts rest q j) i h = let l = rest_length rest ts (leads_rest j) in omega (arith, l)
late_some (past_taken e n s k f r t p ts rest q j) i h = let l = rest_length rest ts (leads_rest j) in omega (arith, l)
late_some (past_skipped e n s k f r ts rest u j) i h = late_some j i h
late_some (in_part e n s p r ts rest j) i h = absurd h
late_some (in_other e s p r ts rest j) i h = absurd h
late_some (in_first e n z s r f ts rest j) i h = late_some j i (takes_late r h)
late_some (past_first e n z s r f ts us rest a j q) i h = let l = takes_some j h in let m = rest_length rest us (leads_rest q) in omega (arith, l, m)
late_some (in_next e n s k f a t p ts rest q j) i h = let l = rest_length rest ts (leads_rest j) in omega (arith, l)
late_some (past_next e n s k f a t p ts us rest b q j w) i h = let l = rest_length us ts (follows_rest j) in let m = rest_length rest us (leads_rest w) in omega (arith, l, m)

pub expr_late : Late expr
unfolding level
expr_late = tt

pub formula_late : Late (formula_level 6)
unfolding level formula_level
formula_late = tt
