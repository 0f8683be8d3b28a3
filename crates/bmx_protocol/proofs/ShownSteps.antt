-- What a step shows depends only on what is shown.
use Rattle.std.proofs.Common.{◌≡◌, ℕ, suc, ◌<◌, refl, ap, sym, ◌∙◌, subst, List, [], ◌∷◌, ◌++◌, arith, All}
use Rattle.std.specs.Prelude.{◌+◌, Option, Some, None}
use Rattle.std.specs.Option.{option_map}
use Rattle.std.specs.List.{flat_map}
use Rattle.bmx_types.specs.Updates.{put}
use Rattle.bmx_protocol.specs.declared.inputs.Input.{Input}
use Rattle.bmx_protocol.specs.declared.inputs.Sending.{Sending}
use Rattle.bmx_protocol.specs.declared.inputs.Done.{Done}
use Rattle.bmx_protocol.specs.declared.views.Entry.{Entry}
use Rattle.bmx_protocol.specs.declared.views.View.{View}
use Rattle.bmx_protocol.specs.Nodes.{Setting, NodeState, Known, entry_of, AreNumbers, Shows}
use Rattle.bmx_protocol.specs.Changes.{Change, after_changes, with_step}
use Rattle.bmx_protocol.specs.Rules.{Draft, Reaction}
use Rattle.bmx_protocol.specs.Steps.{Told, rule, numbered, letters_of, sent_changes, closed, done_of}
use Rattle.bmx_protocol.specs.Histories.{IsInputOf}
use Rattle.bmx_protocol.specs.Laws.{ShownStepsAgree}
use Rattle.bmx_protocol.proofs.Alike.{SameBelow, Alike, alike_by, put_same, changes_alike, rule_same}

-- ## what a view shows

-- an entry has all that is known of its name
abbrev known_of : Entry → Known
known_of e = record {
  bunch = e.bunch;
  size = e.size;
  copy = e.copy;
  part = record {
    role = e.role;
    held = e.held;
    want = e.want;
    ready = e.ready;
    due = e.due;
    readers = e.readers;
    queue = e.queue;
    waiting = e.waiting;
  };
}

known_again : (name : ℕ) (k : Option Known) → option_map known_of (option_map (entry_of name) k) ≡ k
known_again name None = refl
known_again name (Some k) = refl

some_same : {A : Type 0} (a b : A) → Some a ≡ Some b → a ≡ b
some_same a b e = cc

numbers_alike : (nodes : ℕ) (numbers : List ℕ) (f g : ℕ → ℕ) → AreNumbers nodes numbers f → AreNumbers nodes numbers g → SameBelow nodes f g
numbers_alike nodes numbers f g a b m lt = some_same (f m) (g m) (sym (a.same m lt) ∙ b.same m lt)

-- states that one view shows are alike
shown_alike : (nodes : ℕ) (v : View) (s t : NodeState) → Shows nodes v s → Shows nodes v t → Alike nodes s t
shown_alike nodes v s t a b = record {
  known = λ i name. known_same name i;
  register = λ r lt. some_same (s.register r) (t.register r) (sym (a.registers r lt) ∙ b.registers r lt);
  entering = λ i name node. (sym (a.records name node) ∙ b.records name node) i;
  issued = numbers_alike nodes v.issued s.issued t.issued a.issued b.issued;
  taken = numbers_alike nodes v.taken s.taken t.taken a.taken b.taken;
  clock = sym a.clock ∙ b.clock;
  made = sym a.made ∙ b.made;
}
  where
    known_same : (name : ℕ) → s.known name ≡ t.known name
    known_same name =
        sym (known_again name (s.known name))
        ∙ ap (option_map known_of) (sym (a.entries name) ∙ b.entries name)
        ∙ known_again name (t.known name)

-- and a view of one shows the other
alike_shown : (nodes : ℕ) (v : View) (s t : NodeState) → Alike nodes s t → Shows nodes v s → Shows nodes v t
alike_shown nodes v s t same a = record {
  rising = a.rising;
  entries = λ name. a.entries name ∙ ap (λ f. option_map (entry_of name) (f name)) same.known;
  all_registers = a.all_registers;
  registers = λ r lt. a.registers r lt ∙ ap Some (same.register r lt);
  in_order = a.in_order;
  records = λ name node. a.records name node ∙ ap (λ f. f name node) same.entering;
  issued = record { each = a.issued.each; same = λ m lt. a.issued.same m lt ∙ ap Some (same.issued m lt) };
  taken = record { each = a.taken.each; same = λ m lt. a.taken.same m lt ∙ ap Some (same.taken m lt) };
  clock = a.clock ∙ same.clock;
  made = a.made ∙ same.made;
}

-- ## rules

-- alike states differ by registers and counts alone
reframed : (nodes : ℕ) (s t : NodeState) → Alike nodes s t → record s { register = t.register; issued = t.issued; taken = t.taken } ≡ t
reframed nodes s t same = λ i. record {
  known = same.known i;
  register = t.register;
  entering = same.entering i;
  issued = t.issued;
  taken = t.taken;
  clock = same.clock i;
  made = same.made i;
}

rules_same : (st : Setting) (me : ℕ) (s t : NodeState) (told : Told) (i : Input) → Alike st.nodes s t → IsInputOf st i →
    rule st me s told i ≡ rule st me t told i
rules_same st me s t told i same ok =
    subst (λ u. rule st me s told i ≡ rule st me u told i) (reframed st.nodes s t same)
    (rule_same s t.register t.issued t.taken same.register st same.taken me told i ok)

-- ## letters

-- all letters go to nodes of so many
abbrev Within : ℕ → List Sending → Type 0
Within nodes letters = All (λ l. l.to < nodes) letters

numbered_same : (nodes stamp : ℕ) (f g : ℕ → ℕ) (drafts : List Draft) → SameBelow nodes f g → Within nodes (numbered f stamp drafts) →
    numbered f stamp drafts ≡ numbered g stamp drafts
numbered_same nodes stamp f g [] same within = refl
numbered_same nodes stamp f g (d ∷ drafts) same within =
    let first : Sending = record { to = d.to; letter = record { seq = f d.to + 1; stamp = stamp; msg = d.msg } } in
    let lt : d.to < nodes = within 0 first (omega arith) in
    let count : f d.to + 1 ≡ g d.to + 1 = ap (λ k. k + 1) (same d.to lt) in
    let rest : numbered (put f d.to (f d.to + 1)) stamp drafts ≡ numbered (put g d.to (g d.to + 1)) stamp drafts =
    numbered_same nodes stamp (put f d.to (f d.to + 1)) (put g d.to (g d.to + 1)) drafts
    (put_same nodes d.to (f d.to + 1) (g d.to + 1) f g same (λ _. count))
    (λ k e below. within (suc k) e (omega arith)) in
    λ i. record { to = d.to; letter = record { seq = count i; stamp = stamp; msg = d.msg } } ∷ rest i

-- ## the step

pub shown_steps_agree : ShownStepsAgree
shown_steps_agree st me stamp i n m n' m' c d v w a b shows_n shows_m told ok within shows =
    let o : Reaction = rule st me n.state a.told i in
    let same : Alike st.nodes n.state m.state = shown_alike st.nodes v n.state m.state shows_n shows_m in
    let rules : o ≡ rule st me m.state b.told i = rules_same st me n.state m.state a.told i same ok ∙ ap (λ told. rule st me m.state told i) told in
    let near : Within st.nodes (letters_of stamp n.state o) = subst (Within st.nodes) (ap (λ (x : Done). x.letters) a.outcome) within in
    let letters : letters_of stamp n.state o ≡ letters_of stamp m.state o = numbered_same st.nodes stamp n.state.issued m.state.issued o.drafts same.issued near in
    let outcome : done_of stamp n.state o ≡ done_of stamp m.state o = λ j. record { answer = o.answer; letters = letters j } in
    let changes : List Change = o.changes ++ flat_map sent_changes (letters_of stamp n.state o) in
    let after : Alike st.nodes (after_changes n.state changes) (after_changes m.state changes) = changes_alike st.nodes changes n.state m.state same in
    let closed_alike : Alike st.nodes (closed stamp n.state o) (with_step (after_changes m.state changes)) = stepped_alike st.nodes (after_changes n.state changes) (after_changes m.state changes) after in
    let m_state : with_step (after_changes m.state changes) ≡ m'.state =
    ap (λ (l : List Sending). with_step (after_changes m.state (o.changes ++ flat_map sent_changes l))) letters
    ∙ ap (closed stamp m.state) rules ∙ sym b.state in
    let n_shows : Shows st.nodes w (closed stamp n.state o) = subst (Shows st.nodes w) a.state shows in (
      a.outcome ∙ outcome ∙ ap (done_of stamp m.state) rules ∙ sym b.outcome,
      subst (Shows st.nodes w) m_state (alike_shown st.nodes w (closed stamp n.state o) (with_step (after_changes m.state changes)) closed_alike n_shows),
    )
  where
    stepped_alike : (nodes : ℕ) (s t : NodeState) → Alike nodes s t → Alike nodes (with_step s) (with_step t)
    stepped_alike nodes s t a = alike_by nodes _ _ a.known a.register a.entering a.issued a.taken (ap (λ k. k + 1) a.clock) a.made
