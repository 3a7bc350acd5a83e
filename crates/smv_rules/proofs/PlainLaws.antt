-- The plain rules spell the same whole texts, and what is wrong with a text is so by them.
use Rattle.std.proofs.Common.{List, [], drop, length, refl, arith}
use Rattle.std.proofs.lemmas.List.{length-drop}
use Rattle.smv_token.specs.declared.token.Token.{Token}
use Rattle.smv_grammar.specs.Forms.{deepest}
use Rattle.smv_rules.specs.Reading.{all_read}
use Rattle.smv_rules.specs.Sorts.{Sort}
use Rattle.smv_rules.specs.Rules.{Rule}
use Rattle.smv_rules.specs.Expressions.{expr}
use Rattle.smv_rules.specs.Programs.{program}
use Rattle.smv_rules.specs.Running.{run}
use Rattle.smv_rules.specs.Follows.{by_token, plain, Follows, Leads, anywhere, at_depth}
use Rattle.smv_rules.specs.PartTexts.{formula}
use Rattle.smv_rules.specs.Texts.{IsAll}
use Rattle.smv_rules.proofs.Begun.{Late, expr_late, formula_late, late_some}
use Rattle.smv_rules.proofs.Deciding.{DecidesAll, decides_all, reached, reached_known, rule_decides}
use Rattle.smv_rules.proofs.Rests.{drop_further, drop_rest}
use Rattle.smv_rules.proofs.Ways.{leads_passed}
use Rattle.smv_rules.proofs.Plain.{Clear, leads_plain, plain_law, token_plain}
use Rattle.smv_rules.proofs.PlainFronts.{leads_front}
use Rattle.smv_rules.proofs.Firsts.{Closed}
use Rattle.smv_rules.proofs.ClearFormulas.{FormulaClosed, formula_clear}
use Rattle.smv_rules.proofs.ClearLevels.{levels_clear}
use Rattle.smv_rules.proofs.ClearPrograms.{AtEnd, program_clear, program_end}

-- a rule that is not too deep at once, behind which a text may end
pub record Whole {s : Sort} (r : Rule s) : Type 1 where
  pub late : Late r
  pub ends : List Token → Type 0
  pub clear : Clear deepest r ends
  pub end : ends []

-- reading all tokens decides it: by the next token
pub decides : {s : Sort} (r : Rule s) → Whole r → DecidesAll (λ ts x. Follows by_token deepest s r ts [] x) (Leads by_token anywhere deepest s r) (Leads by_token at_depth deepest s r) (λ ts. all_read (run deepest r ts))
decides {s} r w = decides_all (rule_decides deepest s r (λ ts rest h. late_some h refl w.late))

-- and by the plain rules
pub plain_decides : {s : Sort} (r : Rule s) → Whole r → DecidesAll (IsAll r) (Leads plain anywhere deepest s r) (Leads by_token at_depth deepest s r) (λ ts. all_read (run deepest r ts))
plain_decides {s} r w =
    let law = decides r w in
    record {
      found = λ ts x e. token_plain (law.found ts x e);
      only = λ ts x h. law.only ts x (plain_law h w.ends w.clear w.end);
      whole = λ ts x h. leads_plain (law.whole ts x (plain_law h w.ends w.clear w.end));
      stuck = λ ts k e. let a = law.stuck ts k e in (a.0, leads_plain a.1);
      sunk = law.sunk;
      reached = λ ts i k h e. let m = length-drop i ts in let l = reached_known (length (drop i ts)) k (run deepest r ts) (reached (length (drop i ts)) (run deepest r ts) (leads_front h w.ends w.clear)) e in omega (arith, m, l);
      sinks = law.sinks;
      prefix = λ ts i j le h. leads_passed h (drop i ts) (drop_rest i ts) (drop_further i j ts le);
      deep_front = λ ts i h. leads_plain (law.deep_front ts i h);
    }

at_end : Closed 15 []
unfolding Closed
at_end = tt

pub expression_whole : Whole expr
expression_whole = record { late = expr_late; ends = Closed 15; clear = (levels_clear deepest).fifteen; end = at_end }

formula_end : FormulaClosed 6 []
unfolding FormulaClosed
formula_end = tt

pub formula_whole : Whole formula
formula_whole = record { late = formula_late; ends = FormulaClosed 6; clear = formula_clear deepest; end = formula_end }

pub program_whole : Whole program
program_whole = record { late = tt; ends = AtEnd; clear = program_clear deepest; end = program_end }
