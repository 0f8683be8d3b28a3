-- A node counts the letters that its history issued.
use Rattle.std.proofs.Common.{◌≡◌, ℕ, ◌+◌, arith, refl, ap, sym, ◌∙◌, Bool, true, false, cond, List, [], ◌∷◌, ◌++◌, length, map}
use Rattle.std.specs.Prelude.{◌==◌}
use Rattle.std.specs.List.{flat_map}
use Rattle.std.proofs.lemmas.List.{length-append}
use Rattle.std.proofs.lemmas.Bool.{eqb-true}
use Rattle.bmx_types.specs.Updates.{put}
use Rattle.bmx_msg.specs.Letters.{given}
use Rattle.bmx_protocol.specs.declared.inputs.Input.{Input}
use Rattle.bmx_protocol.specs.declared.inputs.Sending.{Sending}
use Rattle.bmx_protocol.specs.declared.inputs.Done.{Done}
use Rattle.bmx_protocol.specs.declared.events.Event.{Event}
use Rattle.bmx_protocol.specs.Nodes.{Setting, NodeState}
use Rattle.bmx_protocol.specs.Changes.{Change, Sets, Makes, Knows, Hears, Gives, Gets, Issues, Takes, after_change, after_changes}
use Rattle.bmx_protocol.specs.Rules.{Reaction}
use Rattle.bmx_protocol.specs.Steps.{Node, IsStep, rule, letters_of, sent_changes, first_node}
use Rattle.bmx_protocol.specs.Histories.{letters_to, issued, Replays}
use Rattle.bmx_protocol.specs.Laws.{IssuedIsCounted}
use Rattle.bmx_protocol.proofs.Changing.{after_append, IsOwn, kept_by_each, rule_own}

own_issues : (s t : NodeState) (c : Change) → IsOwn c → t.issued ≡ s.issued → (after_change t c).issued ≡ s.issued
own_issues s t (Sets register v) own h = h
own_issues s t Makes own h = h
own_issues s t (Knows name k) own h = h
own_issues s t (Hears from info) own h = h
own_issues s t (Gives name to seq) own h = absurd own
own_issues s t (Gets name from seq) own h = h
own_issues s t (Issues to) own h = absurd own
own_issues s t (Takes from) own h = h

-- a rule's own changes leave what was issued
pub rule_issues : (st : Setting) (me : ℕ) (s : NodeState) (t : _) (i : Input) → (after_changes s (rule st me s t i).changes).issued ≡ s.issued
rule_issues st me s t i =
    kept_by_each (λ u. u.issued ≡ s.issued) IsOwn (λ u c own h. own_issues s u c own h) (rule st me s t i).changes (rule_own st me s t i) s refl

gives_issues : (to seq : ℕ) (names : List ℕ) (s : NodeState) → (after_changes s (map (λ name. Gives name to seq) names)).issued ≡ s.issued
gives_issues to seq [] s = refl
gives_issues to seq (name ∷ names) s = gives_issues to seq names (after_change s (Gives name to seq))

-- a letter raises the count of its receiver
pub letter_issues : (s : NodeState) (l : Sending) → (after_changes s (sent_changes l)).issued ≡ put s.issued l.to (s.issued l.to + 1)
letter_issues s l =
    ap (λ (t : NodeState). t.issued) (after_append s (map (λ name. Gives name l.to l.letter.seq) (given l.letter.msg)) (Issues l.to ∷ []))
    ∙ ap (λ (f : ℕ → ℕ). put f l.to (f l.to + 1)) (gives_issues l.to l.letter.seq (given l.letter.msg) s)

letters_count : (letters : List Sending) (s : NodeState) (m : ℕ) →
    (after_changes s (flat_map sent_changes letters)).issued m ≡ s.issued m + length (letters_to m letters)
letters_count [] s m = omega arith
letters_count (l ∷ letters) s m =
    ap (λ (t : NodeState). t.issued m) (after_append s (sent_changes l) (flat_map sent_changes letters))
    ∙ letters_count letters (after_changes s (sent_changes l)) m
    ∙ ap (λ (f : ℕ → ℕ). f m + length (letters_to m letters)) (letter_issues s l)
    ∙ by_test (l.to == m) (eqb-true l.to m)
  where
    by_test : (b : Bool) → (b ≡ true → l.to ≡ m) →
        cond b (s.issued l.to + 1) (s.issued m) + length (letters_to m letters)
        ≡ s.issued m + length (cond b (l.letter ∷ letters_to m letters) (letters_to m letters))
    by_test true q = let same : s.issued l.to ≡ s.issued m = ap s.issued (q refl) in omega (arith, same)
    by_test false q = refl

-- a step raises the count of letters issued to a node by those that it issues
step_count : (st : Setting) (me stamp : ℕ) (i : Input) (n n' : Node) (d : Done) → IsStep st me n stamp i d n' → (m : ℕ) →
    n'.state.issued m ≡ n.state.issued m + length (letters_to m d.letters)
step_count st me stamp i n n' d step m =
    let o : Reaction = rule st me n.state step.told i in
    let letters : List Sending = letters_of stamp n.state o in
    ap (λ (s : NodeState). s.issued m) step.state
    ∙ ap (λ (s : NodeState). s.issued m) (after_append n.state o.changes (flat_map sent_changes letters))
    ∙ letters_count letters (after_changes n.state o.changes) m
    ∙ ap (λ (f : ℕ → ℕ). f m + length (letters_to m letters)) (rule_issues st me n.state step.told i)
    ∙ ap (λ (x : Done). n.state.issued m + length (letters_to m x.letters)) (sym step.outcome)

replay_count : (st : Setting) (start : ℕ → Node) (events : List Event) (last : ℕ → Node) → Replays st start events last →
    (n m : ℕ) → (last n).state.issued m ≡ (start n).state.issued m + length (issued n m events)
replay_count st start [] last h n m =
    let e : (last n).state.issued m ≡ (start n).state.issued m = ap (λ (f : ℕ → Node). (f n).state.issued m) (sym h) in
    omega arith
replay_count st start (e ∷ events) last h n m =
    replay_count st (put start e.node h.0) events last h.2 n m
    ∙ by_node (e.node == n) (eqb-true e.node n)
  where
    by_node : (b : Bool) → (b ≡ true → e.node ≡ n) →
        (cond b h.0 (start n)).state.issued m + length (issued n m events)
        ≡ (start n).state.issued m + length (cond b (letters_to m e.done.letters ++ issued n m events) (issued n m events))
    by_node true q =
        let here : h.0.state.issued m ≡ (start e.node).state.issued m + length (letters_to m e.done.letters) =
        step_count st e.node e.stamp e.input (start e.node) h.0 e.done h.1 m in
        let same : (start e.node).state.issued m ≡ (start n).state.issued m = ap (λ (k : ℕ). (start k).state.issued m) (q refl) in
        let both : length (letters_to m e.done.letters ++ issued n m events) ≡ length (letters_to m e.done.letters) + length (issued n m events) =
        length-append (letters_to m e.done.letters) (issued n m events) in
        omega arith
    by_node false q = refl

pub issued_is_counted : IssuedIsCounted
issued_is_counted st history nodes h n m =
    let e : (nodes n).state.issued m ≡ 0 + length (issued n m history) = replay_count st (first_node st) history nodes h n m in
    omega arith
