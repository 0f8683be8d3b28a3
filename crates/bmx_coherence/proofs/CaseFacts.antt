-- Each law applies to runs worked by hand, and tells them from the same with one outcome changed.
use Rattle.bmx_store_laws.proofs.Words.{◌≡◌, refl, true, false, arith, nat_tests, replicate, is_some, Read, Write, anchor, the_anchor, written_by_its_taker, world_of, laws_apply}
use Rattle.bmx_store_laws.proofs.Words.command
use Rattle.bmx_store_laws.proofs.Words.msg_field
use Rattle.bmx_store_laws.proofs.Words.graph
use Rattle.bmx_coherence.specs.Stuck.{IsStuck, IsHeldElsewhere, StuckNamesHolders}
use Rattle.bmx_coherence.specs.Cases.{store, old_fields, waiting, never_asked}
use Rattle.bmx_coherence.specs.Telling.{LawsTell, WrongRulesBreak}
use Rattle.bmx_coherence.proofs.Parts.{held_of}

-- ## stuck nodes

stuck : IsStuck store (world_of written_by_its_taker.nodes written_by_its_taker.past) written_by_its_taker.past
stuck = record { no_letter = λ n m. grind arith; no_serve = λ n x below serves. grind (arith, nat_tests); not_ready = λ n c below waits. grind (arith, nat_tests) }

-- node 1 waits for the anchor, and nobody holds it
no_holder : StuckNamesHolders store (world_of waiting.nodes never_asked) never_asked → ⊥
no_holder named =
    let idle : IsStuck store (world_of waiting.nodes never_asked) never_asked =
    record { no_letter = λ n m. grind arith; no_serve = λ n x below serves. grind (arith, nat_tests); not_ready = λ n c below waits. grind (arith, nat_tests) } in
    let h : IsHeldElsewhere (world_of waiting.nodes never_asked) 1 1 =
    named idle 1 Write 1 (omega arith) (record { command = command.Write anchor; operand = anchor; waits = refl; takes = refl; means = refl }) in
    let free : is_some (held_of ((waiting.nodes h.holder).state.known 1)) ≡ false = grind (arith, nat_tests) in
    grind (arith, h.knows, h.holds)

pub laws_tell : LawsTell
laws_tell = record {
  apply = laws_apply;
  stuck = (stuck, record { command = command.Read anchor; operand = anchor; waits = refl; takes = refl; means = refl });
  run = λ r. (let both : graph.Nil ≡ graph.Wait = r.run.1.1.0 in cc);
  full = λ f. (let both : false ≡ true = f.0 refl in cc);
  graph = λ h. (let old = h.grants 0 1 old_fields.letter the_anchor (replicate 32 msg_field.Null) (0, omega arith, refl) refl in cc);
  current = λ c. (let known = (c.made 0 2 (omega arith) (omega arith) (omega arith)).in_graph in cc);
  targets = λ t. (let both : false ≡ true = (t.letters 0 1 2 _ (0, omega arith, refl) (1, omega arith, refl)).0 in cc);
  waits = λ i. (let waits = (i.wanted 0 Read 1 (omega arith) (record { known = _; knows = refl; want = refl })).waits in cc);
  holders = no_holder;
}

-- ## wrong rules

pub wrong_rules_break : WrongRulesBreak
wrong_rules_break = record {
  -- node 2 writes what node 1 holds for reading
  hasty = λ r. (let both : graph.Nil ≡ graph.Wait = r.run.1.1.1.0 in cc);
  deaf = λ t. (let both : false ≡ true = t.copies 1 1 2 _ _ (omega arith) refl refl (0, omega arith, refl) in cc);
  rash = λ r. (let both : graph.Nil ≡ graph.Wait = r.run.1.1.1.0 in cc);
}
