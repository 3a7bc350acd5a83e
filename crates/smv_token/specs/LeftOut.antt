-- The words that are reserved and have no use here.
use Rattle.std.specs.Prelude.{ℕ, List, [], ◌∷◌, Option, codes}
use Rattle.std.specs.List.{find}
use Rattle.std.specs.Str.{bytes_eq}
use Rattle.smv_token.specs.declared.left_out.LeftOut as out

-- how a word is written
unfoldable pub text : out.LeftOut → List ℕ
text out.TheVariants.Process = codes "process"
text out.TheVariants.Array = codes "array"
text out.TheVariants.OfWord = codes "of"
text out.TheVariants.MDefine = codes "MDEFINE"
text out.TheVariants.Constants = codes "CONSTANTS"
text out.TheVariants.Real = codes "real"
text out.TheVariants.Integer = codes "integer"
text out.TheVariants.IsA = codes "ISA"
text out.TheVariants.Pred = codes "PRED"
text out.TheVariants.Predicates = codes "PREDICATES"
text out.TheVariants.Mirror = codes "MIRROR"
text out.TheVariants.Spec = codes "SPEC"
text out.TheVariants.CtlSpec = codes "CTLSPEC"
text out.TheVariants.PslSpec = codes "PSLSPEC"
text out.TheVariants.Compute = codes "COMPUTE"
text out.TheVariants.Compassion = codes "COMPASSION"
text out.TheVariants.Constraint = codes "CONSTRAINT"
text out.TheVariants.InSection = codes "IN"
text out.TheVariants.MinCompute = codes "MIN"
text out.TheVariants.MaxCompute = codes "MAX"
text out.TheVariants.Absolute = codes "abs"
text out.TheVariants.Maximum = codes "max"
text out.TheVariants.Minimum = codes "min"
text out.TheVariants.SizeOf = codes "sizeof"
text out.TheVariants.CtlEx = codes "EX"
text out.TheVariants.CtlAx = codes "AX"
text out.TheVariants.CtlEf = codes "EF"
text out.TheVariants.CtlAf = codes "AF"
text out.TheVariants.CtlEg = codes "EG"
text out.TheVariants.CtlAg = codes "AG"
text out.TheVariants.QuantE = codes "E"
text out.TheVariants.QuantA = codes "A"
text out.TheVariants.CtlBu = codes "BU"
text out.TheVariants.CtlEbf = codes "EBF"
text out.TheVariants.CtlAbf = codes "ABF"
text out.TheVariants.CtlEbg = codes "EBG"
text out.TheVariants.CtlAbg = codes "ABG"
text out.TheVariants.Justice = codes "JUSTICE"
text out.TheVariants.Fairness = codes "FAIRNESS"
text out.TheVariants.PastY = codes "Y"
text out.TheVariants.PastZ = codes "Z"
text out.TheVariants.PastH = codes "H"
text out.TheVariants.PastO = codes "O"
text out.TheVariants.PastS = codes "S"
text out.TheVariants.PastT = codes "T"
text out.TheVariants.InvarSpec = codes "INVARSPEC"

-- all of these words
unfoldable pub words : List out.LeftOut
words =
    out.TheVariants.Process ∷ out.TheVariants.Array ∷ out.TheVariants.OfWord ∷ out.TheVariants.MDefine ∷
    out.TheVariants.Constants ∷ out.TheVariants.Real ∷ out.TheVariants.Integer ∷ out.TheVariants.IsA ∷
    out.TheVariants.Pred ∷ out.TheVariants.Predicates ∷ out.TheVariants.Mirror ∷ out.TheVariants.Spec ∷
    out.TheVariants.CtlSpec ∷ out.TheVariants.PslSpec ∷ out.TheVariants.Compute ∷ out.TheVariants.Compassion ∷
    out.TheVariants.Constraint ∷ out.TheVariants.InSection ∷ out.TheVariants.MinCompute ∷ out.TheVariants.MaxCompute ∷
    out.TheVariants.Absolute ∷ out.TheVariants.Maximum ∷ out.TheVariants.Minimum ∷ out.TheVariants.SizeOf ∷
    out.TheVariants.CtlEx ∷ out.TheVariants.CtlAx ∷ out.TheVariants.CtlEf ∷ out.TheVariants.CtlAf ∷
    out.TheVariants.CtlEg ∷ out.TheVariants.CtlAg ∷ out.TheVariants.QuantE ∷ out.TheVariants.QuantA ∷
    out.TheVariants.CtlBu ∷ out.TheVariants.CtlEbf ∷ out.TheVariants.CtlAbf ∷ out.TheVariants.CtlEbg ∷
    out.TheVariants.CtlAbg ∷ out.TheVariants.Justice ∷ out.TheVariants.Fairness ∷ out.TheVariants.PastY ∷
    out.TheVariants.PastZ ∷ out.TheVariants.PastH ∷ out.TheVariants.PastO ∷ out.TheVariants.PastS ∷
    out.TheVariants.PastT ∷ out.TheVariants.InvarSpec ∷ []

-- the left-out word that is written so
unfoldable pub left_out : List ℕ → Option out.LeftOut
left_out name = find (λ w. bytes_eq (text w) name) words
