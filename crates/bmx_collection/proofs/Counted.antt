-- The laws of histories without collectors stand with them: stamps, counts of letters, and what can be served.
use Rattle.std.proofs.Common.{◌≡◌, ℕ, ◌+◌, ◌<◌, ◌==◌, arith, refl, ap, sym, ◌∙◌, Bool, true, false, cond, List, [], ◌∷◌, ◌++◌, length}
use Rattle.std.specs.Prelude.{Option, Some, None}
use Rattle.std.specs.Option.{option_map_or}
use Rattle.std.specs.List.{flat_map}
use Rattle.std.proofs.lemmas.List.{length-append}
use Rattle.std.proofs.lemmas.Bool.{eqb-true}
use Rattle.bmx_types.specs.Updates.{put}
use Rattle.bmx_token.specs.Transitions.{can_serve}
use Rattle.bmx_protocol.specs.declared.inputs.Input.{Input}
use Rattle.bmx_protocol.specs.declared.inputs.Sending.{Sending}
use Rattle.bmx_protocol.specs.declared.inputs.Done.{Done}
use Rattle.bmx_protocol.specs.Nodes.{Setting, NodeState, Known, AreAll}
use Rattle.bmx_protocol.specs.Changes.{after_changes}
use Rattle.bmx_protocol.specs.Rules.{Reaction}
use Rattle.bmx_protocol.specs.Steps.{Node, IsStep, rule, letters_of, sent_changes}
use Rattle.bmx_protocol.specs.Histories.{letters_to, issued}
use Rattle.bmx_protocol.specs.Runs.Programs.{CanServe}
use Rattle.bmx_protocol.proofs.Changing.{after_append}
use Rattle.bmx_protocol.proofs.Counts.{rule_issues, letter_issues}
use Rattle.bmx_collection.specs.Finding.{passing}
use Rattle.bmx_collection.specs.Steps.{LinkedNode, unlinked, first_linked}
use Rattle.bmx_collection.specs.Histories.{Deed, Plain, Collector, LinkedEvent, plain_events, IsDeed, ReplaysLinked}
use Rattle.bmx_collection.specs.Laws.{LawsOfHistoriesStand}
use Rattle.bmx_collection.proofs.Passing.{are_all}
use Rattle.bmx_collection.proofs.Tokens.{collector_touches_no_token}
use Rattle.bmx_collection.proofs.Finite.{Finite, always_finite}

-- ## letters issued

letters_count : (letters : List Sending) (s : NodeState) (m : ℕ) → (after_changes s (flat_map sent_changes letters)).issued m ≡ s.issued m + length (letters_to m letters)
letters_count [] s m = omega arith
letters_count (l ∷ letters) s m =
    ap (λ (t : NodeState). t.issued m) (after_append s (sent_changes l) (flat_map sent_changes letters))
    ∙ letters_count letters (after_changes s (sent_changes l)) m
    ∙ ap (λ (f : ℕ → ℕ). f m + length (letters_to m letters)) (letter_issues s l)
    ∙ by_test (l.to == m) (eqb-true l.to m)
  where
    by_test : (b : Bool) → (b ≡ true → l.to ≡ m) →
        cond b (s.issued l.to + 1) (s.issued m) + length (letters_to m letters) ≡ s.issued m + length (cond b (l.letter ∷ letters_to m letters) (letters_to m letters))
    by_test true q = (let same : s.issued l.to ≡ s.issued m = ap s.issued (q refl) in omega (arith, same))
    by_test false q = refl

step_count : (st : Setting) (me stamp : ℕ) (i : Input) (n n' : Node) (d : Done) → IsStep st me n stamp i d n' → (m : ℕ) →
    n'.state.issued m ≡ n.state.issued m + length (letters_to m d.letters)
step_count st me stamp i n n' d step m =
    let o : Reaction = rule st me n.state step.told i in
    let letters : List Sending = letters_of stamp n.state o in
    ap (λ (s : NodeState). s.issued m) step.state
    ∙ ap (λ (s : NodeState). s.issued m) (after_append n.state o.changes (flat_map sent_changes letters))
    ∙ letters_count letters (after_changes n.state o.changes) m
    ∙ ap (λ (f : ℕ → ℕ). f m + length (letters_to m letters)) (rule_issues st me n.state step.told i)
    ∙ ap (λ (x : Done). n.state.issued m + length (letters_to m x.letters)) (sym step.outcome)

replay_count : (st : Setting) (start : ℕ → LinkedNode) (events : List LinkedEvent) (last : ℕ → LinkedNode) → ReplaysLinked st start events last →
    (n m : ℕ) → (last n).state.issued m ≡ (start n).state.issued m + length (issued n m (plain_events events))
replay_count st start [] last h n m = (let e : (last n).state.issued m ≡ (start n).state.issued m = ap (λ (f : ℕ → LinkedNode). (f n).state.issued m) (sym h) in omega arith)
replay_count st start (e ∷ events) last h n m =
    replay_count st (put start e.node h.0) events last h.2 n m ∙ by_deed e.node e.stamp e.deed h.0 h.1 (eqb-true e.node n)
  where
    by_deed : (node stamp : ℕ) (d : Deed) (after : LinkedNode) → IsDeed st node (start node) stamp d after → ((node == n) ≡ true → node ≡ n) →
        (put start node after n).state.issued m + length (issued n m (plain_events events))
        ≡ (start n).state.issued m + length (issued n m (plain_events (record { node = node; stamp = stamp; deed = d } ∷ events)))
    by_deed node stamp (Plain i d) after step q = at_node (node == n) q
      where
        at_node : (b : Bool) → (b ≡ true → node ≡ n) →
            (cond b after (start n)).state.issued m + length (issued n m (plain_events events))
            ≡ (start n).state.issued m + length (cond b (letters_to m d.letters ++ issued n m (plain_events events)) (issued n m (plain_events events)))
        at_node true q =
            let here : after.state.issued m ≡ (start node).state.issued m + length (letters_to m d.letters) =
            step_count st node stamp i (unlinked (start node)) (unlinked after) d step.step m in
            let same : (start node).state.issued m ≡ (start n).state.issued m = ap (λ (k : ℕ). (start k).state.issued m) (q refl) in
            let both : length (letters_to m d.letters ++ issued n m (plain_events events)) ≡ length (letters_to m d.letters) + length (issued n m (plain_events events)) =
            length-append (letters_to m d.letters) (issued n m (plain_events events)) in
            omega arith
        at_node false q = refl
    by_deed node stamp (Collector i d) after step q = at_node (node == n) q
      where
        at_node : (b : Bool) → (b ≡ true → node ≡ n) →
            (cond b after (start n)).state.issued m + length (issued n m (plain_events events)) ≡ (start n).state.issued m + length (issued n m (plain_events events))
        at_node true q =
            let here : after.state.issued m ≡ (start node).state.issued m = ap (λ (f : ℕ → ℕ). f m) (collector_touches_no_token st node stamp i (start node) after d step).0.issued in
            let same : (start node).state.issued m ≡ (start n).state.issued m = ap (λ (k : ℕ). (start k).state.issued m) (q refl) in
            omega (arith, here, same)
        at_node false q = refl

-- ## what can be served

served : (n : ℕ) (s : NodeState) → Finite s → (names : List ℕ) × AreAll (CanServe n s) names
served n s k = (
  passing (λ name. option_map_or (λ (j : Known). can_serve n j.part) (s.known name) false) 0 k.0,
  are_all (λ name. option_map_or (λ (j : Known). can_serve n j.part) (s.known name) false) k.0
      (λ name serves. below name (s.known name) refl serves),
)
  where
    below : (name : ℕ) (o : Option Known) → s.known name ≡ o → option_map_or (λ (j : Known). can_serve n j.part) o false ≡ true → name < k.0
    below name None is serves = absurd cc
    below name (Some j) is serves = k.1.names name j is

-- ## the laws

not_empty : (past rest : List LinkedEvent) (e : LinkedEvent) → past ++ e ∷ rest ≡ [] → ⊥
not_empty [] rest e is = cc
not_empty (f ∷ past) rest e is = cc

pub laws_of_histories_stand : LawsOfHistoriesStand
laws_of_histories_stand = record {
  empty = λ st. record { fits = λ past rest e is. absurd (not_empty past rest e is); steps = (first_linked st, refl) };
  stamps = λ st past rest e legal. (legal.fits past rest e refl).early;
  letters = λ st history nodes r n m.
      (let e : (nodes n).state.issued m ≡ 0 + length (issued n m (plain_events history)) = replay_count st (first_linked st) history nodes r n m in omega arith);
  serves = λ st history nodes r n. served n (nodes n).state (always_finite st history nodes r n);
}
