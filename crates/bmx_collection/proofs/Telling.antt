-- The first collection of a fresh store is a step; three runs with one answer changed are not legal.
use Rattle.std.proofs.Common.{◌≡◌, ℕ, zero, suc, List, [], ◌∷◌, map, refl, ap, sym, ◌∙◌, subst, arith, slice_get}
use Rattle.std.specs.Prelude.{Option, Some, None}
use Rattle.bmx_types.specs.declared.commands.Refusal.TheVariants as refusal
use Rattle.bmx_types.specs.Updates.{put}
use Rattle.bmx_table.specs.declared.tables.Table.{Table}
use Rattle.bmx_clean.specs.declared.cleaner.Applied.TheVariants.{Removed}
use Rattle.bmx_protocol.specs.Nodes.{Setting}
use Rattle.bmx_protocol.specs.Cases.{one_bunch}
use Rattle.bmx_collection.specs.Steps.{LinkedNode, first_linked, Collect, CollectorAnswer, Forgot, Cleaned, Refused, CollectorDone, collected, counted}
use Rattle.bmx_collection.specs.Histories.{Deed, Plain, Collector, LinkedEvent, IsDeed, ReplaysLinked, IsLegalLinked}
use Rattle.bmx_collection.specs.Finding.{found}
use Rattle.bmx_collection.specs.Playing.{Said, CollectorSays, LinkedLine, said_of}
use Rattle.bmx_collection.specs.Laws.{IsWithin}
use Rattle.bmx_collection.specs.Telling.{with_outcome, with_outcome_at, FirstCollectionIsAStep, RunsTell}
use Rattle.bmx_collection.specs.Cases.ALateTable as late_table
use Rattle.bmx_collection.specs.Cases.AFullCollection as full_collection
use Rattle.bmx_collection.specs.Cases.OnlyARegisterElsewhere as register_elsewhere
use Rattle.bmx_collection.proofs.Found.{found_is_told}
use Rattle.bmx_collection.proofs.Within.{first_within}
use Rattle.bmx_collection.proofs.Steps.{collector_step_is_determined}
use Rattle.bmx_collection.proofs.Replayed.{one_node}
use Rattle.bmx_collection.proofs.Worked.{worked_runs_are_legal_linked}

-- the fresh node knows the anchor alone, and only node 1 is to have a record of it
abbrev fresh : LinkedNode
fresh = first_linked (one_bunch 2) 0

fresh_within : IsWithin 8 fresh.state
fresh_within = first_within 8 (one_bunch 2) 0 refl (omega arith)

pub first_collection_is_a_step : FirstCollectionIsAStep
first_collection_is_a_step = record {
  after = counted (collected 0 fresh (found 8 0 fresh (Collect 0)) 0);
  step = record {
    told = found 8 0 fresh (Collect 0);
    is_told = found_is_told.collections 8 0 0 fresh fresh_within;
    outcome = refl;
    node = refl;
  };
  moved = refl;
}

-- ## other answers

-- a step that answered so is no step with another answer
one_answer : (st : Setting) (me stamp said_at : ℕ) (n left right : LinkedNode) (deed : Deed) (a : CollectorAnswer) (table : Option Table) (d : CollectorDone) →
    Some (said_of (record { node = me; stamp = stamp; deed = deed })) ≡ Some (CollectorSays said_at a table) →
    IsDeed st me n stamp deed left → IsDeed st me n stamp (with_outcome d deed) right → a ≡ d.answer
one_answer st me stamp said_at n left right (Plain i o) a table d said f g = cc
one_answer st me stamp said_at n left right (Collector i o) a table d said f g =
    let same : o.answer ≡ a = cc in
    sym same ∙ ap (λ (x : CollectorDone). x.answer) (collector_step_is_determined st me stamp i n left right o d f g).0

-- nor are the events that it stands among steps of the same nodes
answers_so : (st : Setting) (events : List LinkedEvent) (i said_at : ℕ) (start nodes others : ℕ → LinkedNode) (a : CollectorAnswer) (table : Option Table) (d : CollectorDone) →
    slice_get (map said_of events) i ≡ Some (CollectorSays said_at a table) → ReplaysLinked st start events nodes → ReplaysLinked st start (with_outcome_at i d events) others → a ≡ d.answer
answers_so st [] i said_at start nodes others a table d said f g = cc
answers_so st (e ∷ events) zero said_at start nodes others a table d said f g =
    one_answer st e.node e.stamp said_at (start e.node) f.0 g.0 e.deed a table d said f.1 g.1
answers_so st (e ∷ events) (suc i) said_at start nodes others a table d said f g =
    let same : f.0 ≡ g.0 = one_node st e.node e.stamp (start e.node) f.0 g.0 e.deed f.1 g.1 in
    answers_so st events i said_at (put start e.node g.0) nodes others a table d said
    (subst (λ (n : LinkedNode). ReplaysLinked st (put start e.node n) events nodes) same f.2) g.2

-- of a legal history, of whose steps that is said
is_so : (st : Setting) (history : List LinkedEvent) (lines : List LinkedLine) (i said_at : ℕ) (a : CollectorAnswer) (table : Option Table) (d : CollectorDone) →
    map said_of history ≡ map (λ l. l.said) lines → slice_get (map (λ (l : LinkedLine). l.said) lines) i ≡ Some (CollectorSays said_at a table) →
    IsLegalLinked st history → IsLegalLinked st (with_outcome_at i d history) → a ≡ d.answer
is_so st history lines i said_at a table d said at legal other =
    answers_so st history i said_at (first_linked st) legal.steps.0 other.steps.0 a table d (ap (λ (xs : List Said). slice_get xs i) said ∙ at) legal.steps.1 other.steps.1

pub runs_tell : RunsTell
runs_tell = record {
  first = first_collection_is_a_step;
  late = λ other. (let both : Cleaned (Removed 0) ≡ Cleaned (Removed 1) =
      is_so (one_bunch 2) late_table.at_the_end.history late_table.lines 46 37 (Cleaned (Removed 0)) None (record { answer = Cleaned (Removed 1); table = None })
      late_table.a_late_table refl worked_runs_are_legal_linked.a_late_table other in cc);
  full = λ other. (let both : Refused refusal.Full ≡ Forgot 0 =
      is_so (record (one_bunch 1) { limit = 2 }) full_collection.at_the_end.history full_collection.lines 6 7 (Refused refusal.Full) None (record { answer = Forgot 0; table = None })
      full_collection.a_full_collection refl worked_runs_are_legal_linked.a_full_collection other in cc);
  kept = λ other. (let both : Forgot 0 ≡ Forgot 1 =
      is_so (one_bunch 2) register_elsewhere.at_the_end.history register_elsewhere.lines 23 21 (Forgot 0) None (record { answer = Forgot 1; table = None })
      register_elsewhere.only_a_register_elsewhere refl worked_runs_are_legal_linked.only_a_register_elsewhere other in cc);
}
