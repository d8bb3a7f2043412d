-- A name that opens every shut definition, for a proof that computes: `unfolding computed`. Says nothing by itself, and
-- no public promise reaches it.
use Rattle.terms.specs.Bits.{longer, odd, byte_bits, bit, begins}
use Rattle.terms.specs.Records.{zeros}
use Rattle.meaning.specs.Tree.{smaller, greater, grants_at, tree_of, node_version, next_tree}
use Rattle.meaning.specs.Store.{
  formatted,
  is_node,
  is_root,
  root_of,
  tree_at_version,
  marked,
  retire_in,
  retired_by,
  prune_record,
  child_of,
  records_of,
  new_records,
  settled,
}
use Rattle.meaning.specs.Calls.{refuse, is_kept, prune, publish, apply_as}
use Rattle.terms.specs.Bits.{pack, packed}
use Rattle.terms.specs.Fields.{le, slice, field, all_of}
use Rattle.terms.specs.Heads.{count_in}
use Rattle.meaning.specs.Sight.{agrees, lives_by, agrees_root, root_sight, node_sight}
use Rattle.meaning.specs.Reading.{beside, seen, read_key, read_root}
use Rattle.meaning.specs.Counting.{weight, read_number, read_position}
use Rattle.meaning.specs.Proving.{turns_away, absence_at, prove_seen, proof, presence_length, prove}
use Rattle.meaning.specs.Checking.{keeps_to, same_step, paths_part, leads_to, neighbour_holds}
use Rattle.meaning.specs.History.{kept_by}

unfoldable pub computed : Unit {0}
unfolding longer odd byte_bits bit begins zeros smaller greater grants_at tree_of node_version next_tree formatted
    is_node is_root root_of tree_at_version marked retire_in retired_by prune_record child_of records_of new_records
    settled refuse is_kept prune publish apply_as pack packed le slice field all_of count_in agrees lives_by
    agrees_root root_sight node_sight beside seen read_key read_root weight read_number read_position turns_away
    absence_at prove_seen proof presence_length prove keeps_to same_step paths_part leads_to neighbour_holds kept_by
computed = tt
