use Rattle.std.proofs.Common.{◌≡◌, drop, map}
use Rattle.std.specs.List.{list_all}
use Rattle.smv_tree.specs.Models.{part_of}
use Rattle.bool_replay.specs.Plain.{is_plain_part}
use Rattle.bool_replay.proofs.model.are_plain.Given as goal

-- all are plain where those from here on are
abbrev pub invariant-loop-item : goal.invariant-loop-item
invariant-loop-item l = list_all (is_plain_part l.names) (map part_of (drop l.item-index l.items)) ≡ list_all (is_plain_part l.names) (map part_of l.items)
