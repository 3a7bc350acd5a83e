-- Which tokens a rule spells, and where its tokens lead to.
use Rattle.std.specs.Prelude.{◌≡◌, ℕ, suc, List, ◌∷◌, Some}
use Rattle.smv_token.specs.declared.token.Token.{Token}
use Rattle.smv_rules.specs.Keys.{Key, Payload, Unseen, before_formula, group, sees}
use Rattle.smv_rules.specs.Rules.{Part, Rule, gives, too_deep, must, may, part, then, again}
use Rattle.smv_rules.specs.Sorts.{Gift, Sort}
use Rattle.smv_rules.specs.Table.{table}

-- Whether the next token decides what may be left out and what comes again, or the plain grammar does,
-- in which it is enough that the tokens are what the rules say.
pub data Mode : Type 0 where
  by_token : Mode
  plain : Mode

-- Where the grammar itself says what a token begins: an operator before a formula and a `(` that opens
-- one are never an atom's.
abbrev pub Ruled : Key → List Token → Type 0
Ruled before_formula ts = Unseen before_formula ts
Ruled group ts = Unseen group ts
Ruled k ts = Unit {0}

-- what a token may begin is passed over
abbrev pub Skips : Mode → Key → List Token → Type 0
Skips by_token k ts = Unseen k ts
Skips plain k ts = Ruled k ts

-- From the first tokens on, up to the second, they are what the rule says, where so many nestings may
-- still be opened; and this is what it gives.
pub data Follows (m : Mode) : ℕ → (s : Sort) → Rule s → List Token → List Token → Gift s → Type 0 where
  done : (n : ℕ) (s : Sort) (x : Gift s) (ts : List Token) → Follows m n s (gives s x) ts ts x
  has : (n : ℕ) (s : Sort) (k : Key) (f : Payload k → Rule s) (t : Token) (p : Payload k) (ts rest : List Token) (x : Gift s) → sees k t ts ≡ Some p → Follows m n s (f p) ts rest x → Follows m n s (must s k f) (t ∷ ts) rest x
  takes : (n : ℕ) (s : Sort) (k : Key) (f : Payload k → Rule s) (r : Rule s) (t : Token) (p : Payload k) (ts rest : List Token) (x : Gift s) → sees k t ts ≡ Some p → Follows m n s (f p) ts rest x → Follows m n s (may s k f r) (t ∷ ts) rest x
  skips : (n : ℕ) (s : Sort) (k : Key) (f : Payload k → Rule s) (r : Rule s) (ts rest : List Token) (x : Gift s) → Skips m k ts → Follows m n s r ts rest x → Follows m n s (may s k f r) ts rest x
  nests : (n : ℕ) (s : Sort) (p : Part s) (r : Rule s) (ts rest : List Token) (x : Gift s) → Follows m n s (table p) ts rest x → Follows m (suc n) s (part s p r) ts rest x
  stays : (s : Sort) (p : Part s) (r : Rule s) (ts rest : List Token) (x : Gift s) → Follows m 0 s r ts rest x → Follows m 0 s (part s p r) ts rest x
  chains : (n : ℕ) (z s : Sort) (r : Rule z) (f : Gift z → Rule s) (ts us rest : List Token) (a : Gift z) (x : Gift s) → Follows m n z r ts us a → Follows m n s (f a) us rest x → Follows m n s (then z s r f) ts rest x
  stops : (n : ℕ) (s : Sort) (k : Key) (f : Gift s → Payload k → Rule s) (a : Gift s) (ts : List Token) → Skips m k ts → Follows m n s (again s k f a) ts ts a
  goes_on : (n : ℕ) (s : Sort) (k : Key) (f : Gift s → Payload k → Rule s) (a : Gift s) (t : Token) (p : Payload k) (ts us rest : List Token) (b x : Gift s) → sees k t ts ≡ Some p → Follows m n s (f a p) ts us b → Follows m n s (again s k f b) us rest x → Follows m n s (again s k f a) (t ∷ ts) rest x

-- A place to which tokens lead: any, or one at which it is too deep.
pub data End : Type 0 where
  anywhere : End
  at_depth : End

-- The tokens up to the second lead from a rule to such a place.
pub data Leads (m : Mode) : End → ℕ → (s : Sort) → Rule s → List Token → List Token → Type 0 where
  here : (n : ℕ) (s : Sort) (r : Rule s) (ts : List Token) → Leads m anywhere n s r ts ts
  deep_here : (n : ℕ) (s : Sort) (ts : List Token) → Leads m at_depth n s (too_deep s) ts ts
  past_token : (e : End) (n : ℕ) (s : Sort) (k : Key) (f : Payload k → Rule s) (t : Token) (p : Payload k) (ts rest : List Token) → sees k t ts ≡ Some p → Leads m e n s (f p) ts rest → Leads m e n s (must s k f) (t ∷ ts) rest
  past_taken : (e : End) (n : ℕ) (s : Sort) (k : Key) (f : Payload k → Rule s) (r : Rule s) (t : Token) (p : Payload k) (ts rest : List Token) → sees k t ts ≡ Some p → Leads m e n s (f p) ts rest → Leads m e n s (may s k f r) (t ∷ ts) rest
  past_skipped : (e : End) (n : ℕ) (s : Sort) (k : Key) (f : Payload k → Rule s) (r : Rule s) (ts rest : List Token) → Skips m k ts → Leads m e n s r ts rest → Leads m e n s (may s k f r) ts rest
  in_part : (e : End) (n : ℕ) (s : Sort) (p : Part s) (r : Rule s) (ts rest : List Token) → Leads m e n s (table p) ts rest → Leads m e (suc n) s (part s p r) ts rest
  in_other : (e : End) (s : Sort) (p : Part s) (r : Rule s) (ts rest : List Token) → Leads m e 0 s r ts rest → Leads m e 0 s (part s p r) ts rest
  in_first : (e : End) (n : ℕ) (z s : Sort) (r : Rule z) (f : Gift z → Rule s) (ts rest : List Token) → Leads m e n z r ts rest → Leads m e n s (then z s r f) ts rest
  past_first : (e : End) (n : ℕ) (z s : Sort) (r : Rule z) (f : Gift z → Rule s) (ts us rest : List Token) (a : Gift z) → Follows m n z r ts us a → Leads m e n s (f a) us rest → Leads m e n s (then z s r f) ts rest
  in_next : (e : End) (n : ℕ) (s : Sort) (k : Key) (f : Gift s → Payload k → Rule s) (a : Gift s) (t : Token) (p : Payload k) (ts rest : List Token) → sees k t ts ≡ Some p → Leads m e n s (f a p) ts rest → Leads m e n s (again s k f a) (t ∷ ts) rest
  past_next : (e : End) (n : ℕ) (s : Sort) (k : Key) (f : Gift s → Payload k → Rule s) (a : Gift s) (t : Token) (p : Payload k) (ts us rest : List Token) (b : Gift s) → sees k t ts ≡ Some p → Follows m n s (f a p) ts us b → Leads m e n s (again s k f b) us rest → Leads m e n s (again s k f a) (t ∷ ts) rest
