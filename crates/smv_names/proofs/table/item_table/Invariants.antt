use Rattle.std.proofs.Common.{◌≡◌, [], fold, map, take}
use Rattle.smv_tree.specs.Models.{part_of}
use Rattle.smv_names.specs.Entries.{put}
use Rattle.smv_names.specs.Tables.{part_entries}
use Rattle.smv_names.proofs.Entering.{defines_in}
use Rattle.smv_names.proofs.table.item_table.Given as goal

abbrev pub invariant-loop-number : goal.invariant-loop-number
invariant-loop-number l =
    (l.table ≡ fold put [] (part_entries 0 0 (map part_of (take l.number l.item-items))))
    × (l.defines ≡ defines_in (map part_of (take l.number l.item-items)))
