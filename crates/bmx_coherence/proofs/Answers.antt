-- What a node answers a command the graph may answer, and what the command changes at the node it changes in the graph.
use Rattle.bmx_store_laws.proofs.Words.{◌≡◌, ℕ, refl, ap, sym, subst, ◌∙◌, Bool, true, false, cond, List, [], ◌∷◌, arith, ◌⊎◌, ◌≢◌, option_map, Option, Some, None, is_some, unwrap_or, ◌==◌, Place, Command, Operand, Refusal, Mode, Read}
use Rattle.bmx_store_laws.proofs.Words.{Write, is_excluded, State, fields_of, value_of, target_of, done_answer, answer_of, holding, changed, state_after, MayAnswer, IsAnswer, effect_after, Answer, Effect, Nothing, MakesOne, Holds, acquire, release}
use Rattle.bmx_store_laws.proofs.Words.{Share, Asks, Send, Operation, Acquires, Releases, saying, transition_of, Returns, acquired, released, with_token, without_copy, send, Acquire, Release, Part, eqb_same, put_same}
use Rattle.bmx_store_laws.proofs.Words.{put_apart, put_at_row, Every, Knows, after_changes, is_wait, IsOperandOf, IsCommandOf, IsAgain, Setting, NodeState, Known, fields_known, seen_graph, share_of, Draft, Reaction, refused, drafts_of}
use Rattle.bmx_store_laws.proofs.Words.{grant_in, with_share, operation_answer, after_operation, operation_rule, next_name, graph_changes, token_rule, knows, command_rule, about, acquire_answer, release_answer, Do}
use Rattle.bmx_store_laws.proofs.Words.{nat_tests, NodeAnswer, some_is, either, put_each, NoGrants}
use Rattle.bmx_store_laws.proofs.Words.command
use Rattle.bmx_store_laws.proofs.Words.refusal
use Rattle.bmx_store_laws.proofs.Words.graph
use Rattle.bmx_store_laws.proofs.Words.acquire_is
use Rattle.bmx_store_laws.proofs.Words.release_is
use Rattle.bmx_store_laws.proofs.Words.answer
use Rattle.bmx_coherence.specs.Graphs.{graph_answer}
use Rattle.bmx_coherence.specs.Waits.{taking}
use Rattle.std.specs.Prelude.{IfSome}
use Rattle.bmx_coherence.proofs.Parts.{IsPart, held_of, IsOwnStore, wants, taken_at, nothing, FitsAt, releasing, effect_part, waited, IsReadyFor, Given, seen_target, waiting_token, seen_value, IsWaiting, acquiring, fits_else, want_of, known_of, fields_kept, wanted_at, Taken}

-- no message grants
abbrev pub Ungranting : List Draft → Type 0
Ungranting drafts = Every (λ (d : Draft). grant_in d.msg ≡ None) drafts

-- an effect that makes a name leaves it known
abbrev pub NamesIt : ℕ → NodeState → NodeState → Effect → Type 0
NamesIt me s t (MakesOne register bunch size) = is_some (t.known (next_name me s)) ≡ true
NamesIt me s t _ = Unit {0}

effect_names : (me : ℕ) (s : NodeState) (e : Effect) → NamesIt me s (after_changes s (graph_changes me s e)) e
effect_names me s e = grind (arith, nat_tests)

-- the command that a node waits with after one that was answered so
abbrev pub waiting_after : Command → NodeAnswer → Option Command
waiting_after c a = cond (is_wait a) (Some c) None

-- a reaction to a command is a step of the graph, with an effect
pub record IsShown (me : ℕ) (s : NodeState) (g : State) (c : Command) (o : Reaction) : Type 0 where
  pub effect_is : Effect
  pub answer_is : Answer
  pub same : graph_answer o.answer ≡ Some answer_is
  pub fits : IsAnswer g me c answer_is
  pub leads : state_after g me c answer_is ≡ changed g me effect_is
  -- the node waits with the command then, if it is told to
  pub part : IsPart me (after_changes s o.changes) (changed g me effect_is) (wants (changed g me effect_is) me (waiting_after c o.answer))
  pub waits : IfSome (waiting_after c o.answer) (IsWaiting (changed g me effect_is) me)
  pub ungranting : Ungranting o.drafts
  pub own : IsOwnStore me g effect_is
  pub names : NamesIt me s (after_changes s o.changes) effect_is

-- what a command finds at its node
pub record IsSteady (st : Setting) (me : ℕ) (s : NodeState) (g : State) (w : Option Command) : Type 0 where
  pub part : IsPart me s g (wants g me w)
  pub waits : IfSome w (IsWaiting g me)
  -- who holds an object has a copy
  pub copied : (x : ℕ) (k : Known) (m : Mode) → s.known x ≡ Some k → k.part.held ≡ Some m → is_some k.copy ≡ true
  -- the next name is new
  pub new : s.known (next_name me s) ≡ None
  -- what an operand means is known
  pub aware : (on : Operand) (x : ℕ) → IsOperandOf st on → target_of g me on ≡ Some x → is_some (s.known x) ≡ true

pub notes_ungranting : (s : NodeState) (lies : ℕ → Place) (name : ℕ) (sends : List Send) → NoGrants sends → Ungranting (drafts_of s lies name sends)
notes_ungranting s lies name [] none = tt
notes_ungranting s lies name (n ∷ sends) none = grind (arith, notes_ungranting s lies name sends none.1)

-- ## commands without a token

abbrev pub tokenless : Command → Bool
tokenless (command.Read on) = false
tokenless (command.Write on) = false
tokenless (command.Done on) = false
tokenless _ = true

-- what the graph sees of an answer
abbrev pub answered_as : NodeAnswer → Answer
answered_as a = unwrap_or (graph_answer a) graph.Wait

-- what a command that is so answered does to the graph
abbrev pub done_effect : Setting → ℕ → NodeState → State → Bool → (ℕ → Place) → Command → Effect
done_effect st me s g full lies c = effect_after g me c (answered_as (command_rule me s full lies c (about c)).answer)

-- a node may answer as it sees the graph
may_answer : (st : Setting) (me : ℕ) (s : NodeState) (full : Bool) (lies : ℕ → Place) (c : Command) → tokenless c ≡ true → IsCommandOf st c →
    ((on : Operand) → IsOperandOf st on → knows s (target_of (seen_graph me s) me on) ≡ is_some (target_of (seen_graph me s) me on)) →
    MayAnswer c (answer_of (seen_graph me s) me c) (answered_as (command_rule me s full lies c (about c)).answer)
may_answer st me s full lies (command.New register bunch size) plain of means =
    either (λ (o : Reaction). MayAnswer (command.New register bunch size) graph.Nil (answered_as o.answer)) full _ _ (λ _. tt) (λ _. refl)
may_answer st me s full lies c plain of means = grind arith

-- a node whose values, holds and fields of what it holds are the graph's does what the graph does
done_alike : (st : Setting) (me : ℕ) (s : NodeState) (g : State) (full : Bool) (lies : ℕ → Place) (c : Command) → tokenless c ≡ true →
    ((on : Operand) → value_of (seen_graph me s) me on ≡ value_of g me on) → ((x : ℕ) → (seen_graph me s).held me x ≡ g.held me x) →
    ((x : ℕ) → is_some (g.held me x) ≡ true → fields_of (seen_graph me s) x ≡ fields_of g x) →
    let o : Reaction = command_rule me s full lies c (about c) in let e : Effect = done_effect st me s g full lies c in
    (graph_answer o.answer ≡ Some (answered_as o.answer)) × (o.drafts ≡ []) × (waiting_after c o.answer ≡ None) × (o.changes ≡ graph_changes me s e) ×
    (answer_of (seen_graph me s) me c ≡ answer_of g me c) × IsOwnStore me g e ×
    (((x : ℕ) → is_some (g.held me x) ≡ true → is_some (s.known x) ≡ true) → s.known (next_name me s) ≡ None → IsReadyFor me s e)
done_alike st me s g full lies c plain values holds fields = (grind arith, grind arith, grind arith, grind arith, grind arith, grind arith, λ known new. grind arith)

-- ## commands on tokens

-- the command that takes a token in a mode
abbrev takes : Mode → Operand → Command
takes Read on = command.Read on
takes Write on = command.Write on

-- what the graph answers who takes a token, and that a node may wait for it
taken_answer : (g : State) (me : ℕ) (m : Mode) (on : Operand) (x : ℕ) → target_of g me on ≡ Some x → g.held me x ≡ None → answer_of g me (takes m on) ≡ cond (is_excluded m g me x) graph.Wait graph.Nil
taken_answer g me m on x is free = grind arith

wait_may : (m : Mode) (on : Operand) (b : Bool) → MayAnswer (takes m on) (cond b graph.Wait graph.Nil) graph.Wait
wait_may m on b = grind arith

-- ## what a node wants before a command

-- a command that takes no token comes where nothing is wanted
unwanted : (g : State) (me : ℕ) (w : Option Command) (c : Command) → IsAgain w (Do c) → waited g me (Some c) ≡ None → IfSome w (IsWaiting g me) → wants g me w ≡ nothing
unwanted g me w c again none waits = grind (arith, waiting_token)

-- one that takes the token of x: no other is wanted
others_unwanted : (g : State) (me : ℕ) (w : Option Command) (c : Command) (m : Mode) (x : ℕ) → IsAgain w (Do c) → waited g me (Some c) ≡ Some (m, x) → (y : ℕ) → (x == y) ≡ false → wants g me w y ≡ None
others_unwanted g me w c m x again token y apart = grind (arith, waiting_token)

-- what bars it is that it is held, and then nothing is wanted
barred : (g : State) (me : ℕ) (w : Option Command) (c : Command) (m : Mode) (x : ℕ) → IsAgain w (Do c) → waited g me (Some c) ≡ Some (m, x) → IfSome w (IsWaiting g me) →
    (is_some (g.held me x) ≡ true) ⊎ ((n : Mode) × (wants g me w x ≡ Some n) × (n ≢ m)) → (is_some (g.held me x) ≡ true) × (wants g me w ≡ nothing)
barred g me w c m x again token waits bars = (grind (arith, nat_tests, waiting_token), grind (arith, nat_tests, waiting_token))

module _ (st : Setting) (me : ℕ) (s : NodeState) (g : State) (w : Option Command) (steady : IsSteady st me s g w) where
  abbrev h : State
  h = seen_graph me s

  target_same : (on : Operand) → target_of h me on ≡ target_of g me on
  target_same = seen_target me s g (wants g me w) steady.part

  known_same : (on : Operand) → IsOperandOf st on → knows s (target_of h me on) ≡ is_some (target_of h me on)
  known_same on of = grind (arith, steady.aware on, target_same on)

  held_same : (x : ℕ) → h.held me x ≡ g.held me x
  held_same x = (λ i. cond (eqb_same me i) (held_of (s.known x)) None) ∙ (steady.part.known x).held

  held_known : (x : ℕ) → is_some (g.held me x) ≡ true → is_some (s.known x) ≡ true
  held_known x holds = grind (arith, steady.part.known x)

  -- of what it holds it sees the fields
  fields_same : (x : ℕ) → is_some (g.held me x) ≡ true → fields_of h x ≡ fields_of g x
  fields_same x holds =
      let m = some_is (g.held me x) holds in
      let k = known_of (λ j. j.part.held) (s.known x) m.0 ((steady.part.known x).held ∙ m.1) in
      grind (arith, k.1, (steady.part.known x).fields, steady.copied x k.0 m.0 k.1 k.2)

  refused_shown : IsPart me s g nothing → (c : Command) (why : Refusal) → MayAnswer c (answer_of g me c) (graph.Refused why) → IsShown me s g c (refused why)
  refused_shown p c why may = record { effect_is = Nothing; answer_is = graph.Refused why; same = refl; fits = may; leads = refl; part = p; waits = tt; ungranting = tt; own = tt; names = tt }

  -- ## commands as the graph does them

  graph_shown : (full : Bool) (lies : ℕ → Place) (c : Command) → IsCommandOf st c → tokenless c ≡ true → IsPart me s g nothing → IsShown me s g c (command_rule me s full lies c (about c))
  graph_shown full lies c of plain p =
      let values : (on : Operand) → value_of h me on ≡ value_of g me on = seen_value me s g (wants g me w) steady.part in
      let alike = done_alike st me s g full lies c plain values held_same fields_same in
      record {
        effect_is = done_effect st me s g full lies c;
        answer_is = answered_as (command_rule me s full lies c (about c)).answer;
        same = alike.0;
        fits = subst (λ (b : Answer). MayAnswer c b (answered_as (command_rule me s full lies c (about c)).answer)) alike.4
            (may_answer st me s full lies c plain of known_same);
        leads = refl;
        part = rw (alike.2, alike.3) (effect_part me s g (done_effect st me s g full lies c) (alike.6 held_known steady.new) p);
        waits = rw alike.2 tt;
        ungranting = rw alike.1 tt;
        own = alike.5;
        names = rw alike.3 (effect_names me s (done_effect st me s g full lies c));
      }

  -- ## commands on tokens

  -- what is known of a name fits the graph
  fits : (x : ℕ) (k : Known) → s.known x ≡ Some k → FitsAt me g (wants g me w x) x (Some k)
  fits x k known = subst (FitsAt me g (wants g me w x) x) known (steady.part.known x)

  -- a token is then another's, and the graph holds it so: the node is as the graph is then, if no other name is wanted otherwise
  turned : (next : State) (u : ℕ → Option Mode) (x : ℕ) (k : Known) (q : Share) → s.known x ≡ Some k → q.part.held ≡ next.held me x → q.part.want ≡ u x →
      ((y : ℕ) → (x == y) ≡ false → (wants g me w y ≡ u y) × (g.held me y ≡ next.held me y)) → next.object ≡ g.object → next.register ≡ g.register → next.made ≡ g.made →
      IsPart me (after_changes s (Knows x (with_share k k.copy q) ∷ [])) next u
  turned next u x k q is held want others objects registers made = record {
    register = λ r. rw registers (steady.part.register r);
    known = put_each (λ y j. FitsAt me next (u y) y j) s.known x (Some (with_share k k.copy q))
        (record { held = held; want = want; fields = λ l has. rw objects ((steady.part.known x).fields l (ap fields_known is ∙ fields_kept k.copy q.copy l has)) })
        (λ y h. fits_else (steady.part.known y) (others y h).1 (others y h).0 (λ l has. rw objects refl));
    made = rw made steady.part.made;
  }

  -- a token that is then held so, or given back
  holds_shown : (c : Command) (lies : ℕ → Place) (x : ℕ) (k : Known) (q : Share) (sends : List Send) (hold : Option Mode) → s.known x ≡ Some k → NoGrants sends → IsAnswer g me c graph.Nil →
      state_after g me c graph.Nil ≡ changed g me (Holds x hold) → q.part.held ≡ hold → q.part.want ≡ None → ((y : ℕ) → (x == y) ≡ false → wants g me w y ≡ None) →
      IsShown me s g c (after_operation s lies x k answer.Nil (Some (saying q sends)))
  holds_shown c lies x k q sends hold known none fits leads held want others = record {
    effect_is = Holds x hold;
    answer_is = graph.Nil;
    same = refl;
    fits = fits;
    leads = leads;
    part = turned (changed g me (Holds x hold)) nothing x k q known (held ∙ sym (put_at_row g.held me x x hold ∙ put_same (g.held me) x hold)) want
        (λ y h. (others y h, sym (put_at_row g.held me x y hold ∙ put_apart (g.held me) x y hold h))) refl refl refl;
    waits = tt;
    ungranting = notes_ungranting s lies x sends none;
    own = tt;
    names = tt;
  }

  -- what is shown where an operand means nothing, and of what is known where it means it, is shown of what it comes to
  token_shown : (Shows : Reaction → Type 0) (act : Operation) (on : Operand) (lies : ℕ → Place) → IsOperandOf st on → (target_of g me on ≡ None → Shows (refused refusal.Empty)) →
      ((x : ℕ) (k : Known) → target_of g me on ≡ Some x → s.known x ≡ Some k →
      Shows (after_operation s lies x k (operation_answer me act (share_of k)) (transition_of me act (share_of k)))) →
      Shows (token_rule me s lies act (target_of h me on))
  token_shown Shows act on lies of none some = subst (λ (t : Option ℕ). Shows (token_rule me s lies act t)) (sym (target_same on)) (by_target (target_of g me on) refl)
    where
      by_target : (t : Option ℕ) → target_of g me on ≡ t → Shows (token_rule me s lies act t)
      by_target None is = none is
      by_target (Some x) is =
          let k = some_is (s.known x) (steady.aware on x of is) in
          subst (λ (o : Option Known). Shows (operation_rule me s lies act (answer.Refused refusal.Empty) x o)) (sym k.1) (some x k.0 is k.1)

  taken_leads : (m : Mode) (on : Operand) (x : ℕ) → target_of g me on ≡ Some x → state_after g me (takes m on) graph.Nil ≡ changed g me (Holds x (Some m))
  taken_leads m on x is = grind (arith, is)

  taking_is : (m : Mode) (on : Operand) → taking (takes m on) ≡ Some (m, on)
  taking_is m on = grind arith

  -- where the node then holds an object, no other keeps it from it
  abbrev pub IsAllowed : Reaction → Type 0
  IsAllowed o = (m : Mode) (x : ℕ) → held_of ((after_changes s o.changes).known x) ≡ Some m → is_excluded m g me x ≡ false

  module _ (m : Mode) (on : Operand) (lies : ℕ → Place) (of : IsOperandOf st on) (again : IsAgain w (Do (takes m on))) where
    token_is : (t : Option ℕ) → target_of g me on ≡ t → waited g me (Some (takes m on)) ≡ option_map (λ x. (m, x)) t
    token_is t is = ap (taken_at g me) (taking_is m on) ∙ ap (option_map (λ (x : ℕ). (m, x))) is

    module _ (x : ℕ) (k : Known) (q : Part) (is : target_of g me on ≡ Some x) (known : s.known x ≡ Some k) where
      others : (y : ℕ) → (x == y) ≡ false → wants g me w y ≡ None
      others = others_unwanted g me w (takes m on) m x again (token_is (Some x) is)

      waits_shown : (sends : List Send) → NoGrants sends → (k.part.held ≡ None) × (q.held ≡ None) × (q.want ≡ Some m) →
          IsShown me s g (takes m on) (after_operation s lies x k answer.Wait (Some (saying (with_token (share_of k) q) sends)))
      waits_shown sends none t = record {
        effect_is = Nothing;
        answer_is = graph.Wait;
        same = refl;
        fits = rw (taken_answer g me m on x is (sym (fits x k known).held ∙ t.0)) (wait_may m on _);
        leads = refl;
        part = subst (IsPart me (after_changes s (Knows x (with_share k k.copy (with_token (share_of k) q)) ∷ [])) g) (sym (ap wanted_at (token_is (Some x) is)))
            (turned g (wanted_at (Some (m, x))) x k (with_token (share_of k) q) known (t.1 ∙ sym t.0 ∙ (fits x k known).held) (t.2 ∙ (λ i. cond (sym (eqb_same x) i) (Some m) None))
            (λ y h. (others y h ∙ (λ i. cond (sym h i) (Some m) None), refl)) refl refl refl);
        waits = record { mode = m; name = x; operand = on; takes = taking_is m on; means = is; unheld = sym (fits x k known).held ∙ t.0 };
        ungranting = notes_ungranting s lies x sends none;
        own = tt;
        names = tt;
      }

      taking_shown : (r : Acquire) → Taken m k.part q r →
          let o : Reaction = after_operation s lies x k (acquire_answer r) (acquired me m (share_of k) q r) in IsAllowed o → IsShown me s g (takes m on) o
      taking_shown acquire_is.Held t free = holds_shown (takes m on) lies x k (with_token (share_of k) q) [] (Some m) known tt
          (let alone : is_excluded m g me x ≡ false = free m x (ap held_of (put_same s.known x _) ∙ t.1) in grind (arith, is, (fits x k known).held, t.0)) (taken_leads m on x is) t.1 t.2 others
      taking_shown (acquire_is.Asks parent) t free = waits_shown (send parent (Asks m me) ∷ []) (refl, tt) t
      taking_shown acquire_is.Waits t free = waits_shown [] tt t
      taking_shown acquire_is.Refused t free =
          (let b : (is_some (g.held me x) ≡ true) × (wants g me w ≡ nothing) = barred g me w (takes m on) m x again (token_is (Some x) is) steady.waits (grind (arith, fits x k known)) in
          refused_shown (subst (IsPart me s g) b.1 steady.part) (takes m on) refusal.Held (grind (arith, is, b.0)))

    take_shown : IsAllowed (token_rule me s lies (Acquires m) (target_of h me on)) → IsShown me s g (takes m on) (token_rule me s lies (Acquires m) (target_of h me on))
    take_shown = token_shown (λ o. IsAllowed o → IsShown me s g (takes m on) o) (Acquires m) on lies of
        (λ is free. refused_shown (subst (IsPart me s g) (unwanted g me w (takes m on) again (token_is None is) steady.waits) steady.part) (takes m on) refusal.Empty (grind (arith, is)))
        (λ x k is known. taking_shown x k (acquire me k.part m (is_some k.copy)).0 is known (acquire me k.part m (is_some k.copy)).1 (acquiring me m k.part (is_some k.copy)))

  -- done
  module _ (p : IsPart me s g nothing) (on : Operand) (lies : ℕ → Place) (x : ℕ) (k : Known) (is : target_of g me on ≡ Some x) (known : s.known x ≡ Some k) where
    frees_shown : (b : Share) (sends : List Send) → NoGrants sends → (is_some k.part.held ≡ true) × (b.part.held ≡ None) × (b.part.want ≡ k.part.want) →
        IsShown me s g (command.Done on) (after_operation s lies x k answer.Nil (Some (saying b sends)))
    frees_shown b sends none t = holds_shown (command.Done on) lies x k b sends None known none (grind (arith, is, (fits x k known).held, t.0))
        (ap (λ (t : Option ℕ). changed g me (holding t None)) is) t.1 (t.2 ∙ ap want_of (sym known) ∙ (p.known x).want) (λ y h. sym (steady.part.known y).want ∙ (p.known y).want)

    giving_shown : (q : Part) (r : Release) → Given k.part q r → IsShown me s g (command.Done on) (after_operation s lies x k (release_answer r) (released (share_of k) q r))
    giving_shown q release_is.Free t = frees_shown (with_token (share_of k) q) [] tt t
    giving_shown q (release_is.Answers owner) t = frees_shown (without_copy q) (send owner Returns ∷ []) (refl, tt) t
    giving_shown q release_is.Refused t = refused_shown p (command.Done on) refusal.NoToken (grind (arith, is, (fits x k known).held, t))

  done_shown : IsPart me s g nothing → (on : Operand) (lies : ℕ → Place) → IsOperandOf st on → IsShown me s g (command.Done on) (token_rule me s lies Releases (target_of h me on))
  done_shown p on lies of = token_shown (IsShown me s g (command.Done on)) Releases on lies of
      (λ is. refused_shown p (command.Done on) refusal.Empty (sym (ap (done_answer g me) is)))
      (λ x k is known. giving_shown p on lies x k is known (release k.part).0 (release k.part).1 (releasing k.part))

  -- ## each command

  pub command_shown : (full : Bool) (lies : ℕ → Place) (c : Command) → IsCommandOf st c → IsAgain w (Do c) → IsAllowed (command_rule me s full lies c (about c)) →
      IsShown me s g c (command_rule me s full lies c (about c))
  command_shown full lies (command.Read on) of again free = take_shown Read on lies of again free
  command_shown full lies (command.Write on) of again free = take_shown Write on lies of again free
  command_shown full lies (command.Done on) of again free = done_shown (subst (IsPart me s g) (unwanted g me w _ again refl steady.waits) steady.part) on lies of
  command_shown full lies c of again free = graph_shown full lies c of refl (subst (IsPart me s g) (unwanted g me w c again refl steady.waits) steady.part)
