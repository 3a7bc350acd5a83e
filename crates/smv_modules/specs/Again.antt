-- What it means that a name is declared again.
use Rattle.std.specs.Prelude.{◌≡◌, List, ◌∷◌, ◌++◌, IsTrue}
use Rattle.type_fault.specs.declared.fault.TypeFault.{TypeFault}
use Rattle.type_fault.specs.declared.fault.TypeFault.TheVariants.{Twice}
use Rattle.smv_modules.specs.Declarations.{Declaration, declares}

-- the fault of one of some declarations, whose name is declared before it
pub record IsAgain (ds : List Declaration) (f : TypeFault) : Type 0 where
  pub front : List Declaration
  pub again : Declaration
  pub rest : List Declaration
  pub listed : ds ≡ front ++ again ∷ rest
  pub earlier : IsTrue (declares front again.name)
  pub fault : f ≡ Twice again.place again.name
