-- The nodes after every legal history are one store.
use Rattle.bmx_store_laws.proofs.Lifted.{one_owner, write_excludes, wants_stand_once}
use Rattle.bmx_places.proofs.Always.{no_letter_is_stray}
use Rattle.bmx_coherence.proofs.Stated.{every_history_is_a_graph_run, nodes_have_the_graph, copies_are_current, each_waits_for_its_want, stuck_nodes_name_holders}
use Rattle.bmx_world.specs.Promises.{EveryHistoryKeepsOneStore}

pub every_history_keeps_one_store : EveryHistoryKeepsOneStore
every_history_keeps_one_store st history nodes opening legal after = record {
  graph = every_history_is_a_graph_run st history opening legal;
  nodes_have = nodes_have_the_graph st history nodes opening legal after;
  current = copies_are_current st history nodes opening legal after;
  owned = one_owner st history nodes opening legal after;
  exclude = write_excludes st history nodes opening legal after;
  wants = wants_stand_once st history nodes opening legal after;
  waits = each_waits_for_its_want st history nodes opening legal after;
  stuck = stuck_nodes_name_holders st history nodes opening legal after;
  no_stray = λ e there. no_letter_is_stray st history e opening legal there;
}
