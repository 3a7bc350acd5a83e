-- What a fault says.
use Rattle.std.specs.Prelude.{ℕ, List, [], ◌∷◌, ◌++◌, Option, Some, None, codes, decimal}
use Rattle.std.specs.List.{flat_map}
use Rattle.std.specs.Fmt.{signed_decimal}
use Rattle.smv_tree.specs.declared.place.Place.{Place}
use Rattle.smv_kinds.specs.declared.sort.TyWord.{TyWord}
use Rattle.smv_kinds.specs.declared.sort.TyWord.TheVariants as named
use Rattle.type_fault.specs.declared.fault.TypeFault.{TypeFault}
use Rattle.type_fault.specs.declared.fault.TypeFault.TheVariants as faults
use Rattle.type_fault.specs.Faults.{place_of}

-- each text behind a mark
abbrev pub behind : List ℕ → List (List ℕ) → List ℕ
behind mark texts = flat_map (λ t. mark ++ t) texts

-- texts with a mark between each two
abbrev pub between : List ℕ → List (List ℕ) → List ℕ
between mark [] = []
between mark (t ∷ ts) = t ++ behind mark ts

-- a path is written with dots, and a cycle with arrows
abbrev pub path_text : List (List ℕ) → List ℕ
path_text names = between (codes ".") names

-- paths, each behind an arrow
abbrev pub paths_behind : List (List (List ℕ)) → List ℕ
paths_behind paths = flat_map (λ p. codes " -> " ++ path_text p) paths

abbrev pub paths_between : List (List (List ℕ)) → List ℕ
paths_between [] = []
paths_between (p ∷ ps) = path_text p ++ paths_behind ps

-- a kind
abbrev pub kind_text : TyWord → List ℕ
kind_text named.Boolean = codes "boolean"
kind_text named.Integer = codes "integer"
kind_text named.Symbolic = codes "symbolic"
kind_text named.Mixed = codes "mixed"
kind_text (named.Word n) = codes "word[" ++ (decimal n ++ codes "]")
kind_text (named.Signed n) = codes "signed word[" ++ (decimal n ++ codes "]")
kind_text named.Instance = codes "instance"
kind_text named.AnyWord = codes "word"

-- what a fault says, without its place
abbrev pub said : TypeFault → List ℕ
said faults.NoMain = codes "no module main"
said (faults.Twice p n) = n ++ codes " is declared twice"
said (faults.Unknown p n) = path_text n ++ codes " is unknown"
said (faults.Arity p) = codes "wrong number of parameters"
said (faults.Operands p a b) = codes "operand types " ++ (kind_text a ++ (codes " and " ++ kind_text b))
said (faults.SetHere p) = codes "a set where one value is wanted"
said (faults.NextHere p) = codes "next is out of place"
said (faults.InputHere p n) = codes "input " ++ (path_text n ++ codes " is out of place")
said (faults.Assigned p n) = n ++ codes " is assigned twice"
said (faults.FrozenAssigned p n) = codes "frozen " ++ (n ++ codes " is assigned")
said (faults.Reversed p) = codes "reversed range"
said (faults.Width p) = codes "width or bit number out of range"
said (faults.Interval p z) = codes "integer " ++ (signed_decimal z ++ codes " is outside 64 bits")
said (faults.Contains p ns) = codes "module contains itself: " ++ between (codes " -> ") ns
said (faults.DefineCycle p ns) = codes "defines in a cycle: " ++ paths_between ns
said faults.Instances = codes "more than 100000 instances"
said (faults.Deep n) = codes "instances nested deeper than 64"
said (faults.NoMemory e) = codes "out of memory"

-- a place before what is said: line and column
abbrev pub placed : Option Place → List ℕ
placed None = []
placed (Some p) = (decimal p.line ++ codes ":") ++ (decimal p.column ++ codes ": ")

-- the text of a fault behind its number
abbrev pub fault_text : TypeFault → List ℕ
fault_text f = placed (place_of f) ++ said f
