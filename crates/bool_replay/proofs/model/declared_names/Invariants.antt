use Rattle.std.proofs.Common.{◌≡◌, ◌++◌, true, drop, map}
use Rattle.smv_tree.specs.Models.{part_of}
use Rattle.bool_replay.specs.Plain.{names_of, are_distinct}
use Rattle.bool_replay.proofs.model.declared_names.Given as goal

-- the names so far, each once, and those of the items from here on are all names
abbrev pub invariant-loop-item : goal.invariant-loop-item
invariant-loop-item l = (l.names ++ names_of (map part_of (drop l.item-index l.items)) ≡ names_of (map part_of l.items)) × (are_distinct l.names ≡ true)
