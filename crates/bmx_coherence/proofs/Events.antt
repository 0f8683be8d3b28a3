-- A moment of a legal history, what the laws of one object say of it, and what stands after one more event: nodes are parts
-- of the graph, grants in flight bring its fields, wants are waited for, and the commands so far are a run.
use Rattle.bmx_store_laws.proofs.Words.{◌≡◌, ℕ, refl, ap, sym, subst, ◌∙◌, true, false, cond, List, [], ◌∷◌, map, ◌<◌, arith, ◌⊎◌, inl, inr, ◌+◌, ◌≤◌, ◌++◌, ◌^◌, append-nil, map-append, filter_map-append, Contains-append_cases, cons_option}
use Rattle.bmx_store_laws.proofs.Words.{option_map, Option, Some, None, is_some, ◌==◌, ◌||◌, Contains, IsSome, count_by, IsOpening, put, name_word, Command, Operand, Anchor, Mode, Write, Val, Letter, Msg, ReadGrant, WriteGrant, is_excluded-none}
use Rattle.bmx_store_laws.proofs.Words.{is_excluded, State, opening_state, target_of, changed, state_after, state_after_all, Act, IsRun, Effect, Nothing, MakesOne, Stores, Transition, Role, Owner, Parent, IsShared, shared_run, IsSound, IsSoundIf}
use Rattle.bmx_store_laws.proofs.Words.{IsNowhere, eqb_same, some_same, none_some, eqb_not, after_changes, IsOperandOf, in_flight, waits_with, letters_to, IsNext, waits_after, IsAgain, IsInputOf, AreAfter, IsLegal, Setting, NodeState, Known}
use Rattle.bmx_store_laws.proofs.Words.{fields_known, share_of, Draft, Reaction, grant_in, next_name, only, name_in, note_in, took, take_rule, Node, command_in, rule, is_bad_letter, world_of, HasOwned, Event, Input, Do, Serve, Take, Sending}
use Rattle.bmx_store_laws.proofs.Words.{nodes_of, either, put_each, every_map, every_there, first_there, flight_more, IsOneMore, step_letters, step_answer, step_leaves, numbered_each, issued_to, GrantsNothing, note_grants, each_name, Came}
use Rattle.bmx_store_laws.proofs.Words.{came_after, first_letter, new_nowhere, write_excludes, one_seat, readers_are_listed_always, split_at, moving_counted, IsLeft, shares_changed, all_spared, seen_known, seen, seen_message, seen_note, first_world}
use Rattle.bmx_store_laws.proofs.Words.{HasReader, handovers_of, IsFree, IsUnborn, IfSome, at_each_number, nat_tests, IsAnswer, some_is}
use Rattle.bmx_store_laws.proofs.Words.answer
use Rattle.bmx_store_laws.proofs.Words.seated
use Rattle.bmx_store_laws.specs.Laws.{EachReaderIsListed}
use Rattle.bmx_coherence.specs.Graphs.{act_of, acts_of, graph_after}
use Rattle.bmx_protocol.specs.Worlds.{At}
use Rattle.bmx_coherence.proofs.Answers.{IsShown, Ungranting, NamesIt, command_shown, IsSteady, waiting_after, notes_ungranting}
use Rattle.bmx_coherence.proofs.Parts.{IsPart, EachBrings, took_part, waiting_else, held_of, IsOwnStore, object_kept, wants, IsBeside, IsWaiting, part_else, known_of, served_part, BringsFields}

-- a legal history of a store, and the nodes after it
pub record IsMoment (st : Setting) (past : List Event) (nodes : ℕ → Node) : Type 0 where
  pub opening : IsOpening st.nodes st.limit st.births
  pub legal : IsLegal st past
  pub after : AreAfter st past nodes

-- nothing of an object is anywhere but at one node: no copy, no grant in flight
pub record IsAlone (past : List Event) (nodes : ℕ → Node) (me x : ℕ) : Type 0 where
  pub copies : (n : ℕ) → (me == n) ≡ false → (fields : List Val) → fields_known ((nodes n).state.known x) ≡ Some fields → ⊥
  pub grants : (n m : ℕ) (l : Letter) → Contains (in_flight n m past) l → is_some (grant_in l.msg) ≡ true → name_in l.msg ≡ x → ⊥

-- what isn't unknown is known
pub knows_it : (k : Option Known) → (k ≡ None → ⊥) → is_some k ≡ true
knows_it k none = grind arith

pub only_owner : (r : Role) → ((parent : ℕ) → r ≡ Parent parent → ⊥) → r ≡ Owner
only_owner r none = grind arith

-- who does what with its few events so far
abbrev pub IsEarly : ℕ → List Event → Type 0
IsEarly me past = count_by (λ (f : Event). f.node == me) past + 1 < 2 ^ 55

module _ (st : Setting) (past : List Event) (nodes : ℕ → Node) (now : IsMoment st past nodes) where
  pub came : (x : ℕ) → Came st x (seen x (first_world st)) past nodes
  came x = came_after st past nodes now.opening now.legal now.after x

  pub sound : (n x : ℕ) (k : Known) → (nodes n).state.known x ≡ Some k → IsSound (share_of k)
  sound n x k is = subst IsSoundIf (ap seen_known is) ((each_name IsShared shared_run st past nodes now.opening now.legal now.after x).sound n)

  -- who knows an object is a node of the store
  pub real : (n x : ℕ) (k : Known) → (nodes n).state.known x ≡ Some k → n < st.nodes
  real n x k is = nodes_of st (seen x (world_of nodes past)) ((came x).beyond) n (ap (λ (j : Option Known). is_some (seen_known j)) is)

  -- a node knows what an operand means
  pub aware : (me x : ℕ) (on : Operand) (g : State) → me < st.nodes → ((r : ℕ) → (nodes me).state.register r ≡ g.register me r) → IsOperandOf st on → target_of g me on ≡ Some x →
      is_some ((nodes me).state.known x) ≡ true
  aware me x on g below same of means = knows_it ((nodes me).state.known x) (λ none. absurd (refers on of means ((came x).aware me below (ap seen_known none))))
    where
      refers : (on : Operand) → IsOperandOf st on → target_of g me on ≡ Some x → IsFree x (nodes me).state × IsUnborn st x → ⊥
      refers (Anchor b) of means aware = aware.1 b of (sym (some_same means))
      refers on of means aware = grind (arith, aware.0.registers, same)

  -- two nodes hold it, and one of them for writing
  held_once : (x n k : ℕ) (b : Mode) → held_of ((nodes n).state.known x) ≡ Some Write → held_of ((nodes k).state.known x) ≡ Some b → k ≡ n
  held_once x n k b writes holds =
      (let i = known_of (λ l. l.part.held) ((nodes n).state.known x) Write writes in
      let j = known_of (λ l. l.part.held) ((nodes k).state.known x) b holds in
      write_excludes st past nodes now.opening now.legal now.after n k x i.0 j.0 (real n x i.0 i.1) (real k x j.0 j.1) i.1 j.1 i.2 (grind (arith, j.2)))

  -- ## the next name of a node

  -- it is that of no letter and no entry
  new_name : (me : ℕ) → IsEarly me past → IsNowhere (seen (next_name me (nodes me).state) (world_of nodes past))
  new_name me few =
      let x : ℕ = next_name me (nodes me).state in
      new_nowhere st x me nodes past (came x).named (omega (arith, (came x).few me, few)) refl

  pub new_unknown : (me : ℕ) → IsEarly me past → (n : ℕ) → (nodes n).state.known (next_name me (nodes me).state) ≡ None
  new_unknown me few n = grind (arith, (new_name me few).unknown n)

  pub new_alone : (me : ℕ) → IsEarly me past → IsAlone past nodes me (next_name me (nodes me).state)
  new_alone me few = record {
    copies = λ n apart fields has. grind (arith, new_unknown me few n, has);
    grants = λ n m l there grants named.
        (let x : ℕ = next_name me (nodes me).state in let s = split_at (in_flight n m past) l there in
        let silent : seen_note x l.msg ≡ None = ((new_name me few).untold n m (seen_message x l) (map (seen_message x) s.0) (map (seen_message x) s.1)
        (ap (map (seen_message x)) s.2 ∙ map-append (seen_message x) s.0 (l ∷ s.1))).note in grind (arith, nat_tests, silent, named));
  }

  -- ## who writes

  module _ (me x : ℕ) (k : Known) (is : (nodes me).state.known x ≡ Some k) (held : k.part.held ≡ Some Write) where
    has : HasOwned (world_of nodes past) x me k
    has = record { known = is; owns = only_owner k.part.role (λ parent e. (sound me x k is).child_holds parent e held) }

    -- no other has the owner's role, and no grant of ownership is in flight
    sole : ((n : ℕ) (j : Known) → HasOwned (world_of nodes past) x n j → n ≡ me) × ((from to : ℕ) → handovers_of x (in_flight from to past) ≡ 0)
    sole = elim (one_seat st past nodes now.opening now.legal now.after x (At me k (real me x k is) is)) [
      | seated.At n j below it others none ↦ (λ m i o. others m i o ∙ sym (others me k has), none)
      | seated.Moving from to a b one elsewhere nobody ↦ absurd (nobody me k has)
    ]

    no_reader : (owner n : ℕ) → HasReader (world_of nodes past) x owner n → ⊥
    no_reader owner n reads = grind (arith, sole.0 owner reads.known reads.owned, is, reads.owned.known, (sound me x k is).owner_writes has.owns held, reads.listed.1)

    pub writer_alone : IsAlone past nodes me x
    writer_alone = record {
      copies = λ n apart fields has.
          (let j = some_is ((nodes n).state.known x) (grind (arith, has)) in
          let owns : j.0.part.role ≡ Owner = only_owner j.0.part.role (λ parent asks.
          no_reader parent n (listed.copies n x parent j.0 (record { known = j.1; asks = asks }) (grind (arith, has, j.1)))) in
          eqb_not me n apart (sym (sole.0 n j.0 (record { known = j.1; owns = owns }))));
      grants = λ n m l there brought named. by_message n m l there l.msg refl brought named;
    }
      where
        listed : EachReaderIsListed (world_of nodes past)
        listed = readers_are_listed_always st past nodes now.opening now.legal now.after

        by_message : (n m : ℕ) (l : Letter) → Contains (in_flight n m past) l → (g : Msg) → l.msg ≡ g → is_some (grant_in g) ≡ true → name_in g ≡ x → ⊥
        by_message n m l there (ReadGrant i f) e some named = no_reader n m (subst (λ (z : ℕ). HasReader (world_of nodes past) z n m) named (listed.grants n m l i f there e))
        by_message n m l there (WriteGrant i f) e some named = omega (arith, sole.1 n m, moving_counted (world_of nodes past) x n m l i f (record { there = there; grants = e; named = named }))
        by_message n m l there _ e some named = absurd cc

  -- ## objects that effects leave

  -- an effect changes no object that isn't alone at its node
  pub beside : (me : ℕ) (g : State) (v : ℕ → Option Mode) (e : Effect) → IsEarly me past → IsPart me (nodes me).state g v → IsOwnStore me g e →
      (x : ℕ) → (IsAlone past nodes me x → ⊥) → IsBeside g me x e
  beside me g v (MakesOne register bunch size) few part own x other = λ same. other (subst (IsAlone past nodes me) (ap (λ (n : ℕ). name_word me (n + 1)) part.made ∙ same) (new_alone me few))
  beside me g v (Stores name index value) few part own x other = λ same.
      (let k = known_of (λ j. j.part.held) ((nodes me).state.known name) Write ((part.known name).held ∙ own) in other (subst (IsAlone past nodes me) same (writer_alone me name k.0 k.1 k.2)))
  beside me g v _ few part own x other = tt

-- ## what stands

-- what stands after events
pub record Stands (st : Setting) (past : List Event) (nodes : ℕ → Node) : Type 0 where
  pub now : IsMoment st past nodes
  pub parts : (n : ℕ) → IsPart n (nodes n).state (graph_after st past) (wants (graph_after st past) n (waits_with n None past))
  pub waits : (n : ℕ) → IfSome (waits_with n None past) (IsWaiting (graph_after st past) n)
  pub grants : (n m : ℕ) (l : Letter) → Contains (in_flight n m past) l → BringsFields (graph_after st past) l.msg
  pub each : (e : Event) → Contains past e → IfSome (command_in e.input) (λ c. IsSome (act_of e))
  pub run : IsRun (opening_state st.births) (acts_of past)
  -- each name that a node has counted is known to it
  pub makers : (n count : ℕ) → 1 ≤ count → count ≤ (nodes n).state.made → is_some ((nodes n).state.known (name_word n count)) ≡ true

-- ## runs

one_act : (s : State) (acts : List Act) (a : Act) → IsRun s acts → IsAnswer (state_after_all s acts) a.node a.command a.answer →
    (state_after_all s (acts ++ a ∷ []) ≡ state_after (state_after_all s acts) a.node a.command a.answer) × IsRun s (acts ++ a ∷ [])
one_act s [] a run fits = (refl, (fits, tt))
one_act s (b ∷ acts) a run fits = (let more = one_act (state_after s b.node b.command b.answer) acts a run.1 fits in (more.0, (run.0, more.1)))

waits_more : (n : ℕ) (w : Option Command) (past : List Event) (e : Event) →
    waits_with n w (past ++ e ∷ []) ≡ cond (e.node == n) (waits_after (waits_with n w past) e.input e.done.answer) (waits_with n w past)
waits_more n w [] e = refl
waits_more n w (f ∷ past) e = waits_more n (cond (f.node == n) (waits_after w f.input f.done.answer) w) past e

ungranted_brings : (g : State) (drafts : List Draft) → Ungranting drafts → EachBrings g drafts
ungranted_brings g = every_map (λ (d : Draft). grant_in d.msg ≡ None) (λ (d : Draft). BringsFields g d.msg) (λ d none info fields e. none_some (sym none ∙ e))

-- ## what an event is for the graph

-- an event has an effect on the graph, or none; its node is as the graph is then, and so are the grants that it issues
pub record IsSeen (st : Setting) (past : List Event) (nodes : ℕ → Node) (e : Event) (o : Reaction) : Type 0 where
  pub effect_is : Effect
  pub graph : graph_after st (past ++ e ∷ []) ≡ changed (graph_after st past) e.node effect_is
  pub some : IfSome (command_in e.input) (λ c. IsSome (act_of e))
  pub run : IsRun (opening_state st.births) (acts_of (past ++ e ∷ []))
  pub part : IsPart e.node (after_changes (nodes e.node).state o.changes) (changed (graph_after st past) e.node effect_is)
      (wants (changed (graph_after st past) e.node effect_is) e.node (waits_after (waits_with e.node None past) e.input e.done.answer))
  pub waits : IfSome (waits_after (waits_with e.node None past) e.input e.done.answer) (IsWaiting (changed (graph_after st past) e.node effect_is) e.node)
  pub brings : EachBrings (changed (graph_after st past) e.node effect_is) o.drafts
  pub own : IsOwnStore e.node (graph_after st past) effect_is
  pub names : NamesIt e.node (nodes e.node).state (after_changes (nodes e.node).state o.changes) effect_is

module _ (st : Setting) (opening : IsOpening st.nodes st.limit st.births) (past : List Event) (nodes : ℕ → Node) (e : Event) (after : Node) (ev : IsOneMore st past nodes e after)
    (stands : Stands st past nodes) where
  abbrev me : ℕ
  me = e.node

  abbrev s : NodeState
  s = (nodes me).state

  abbrev g : State
  g = graph_after st past

  abbrev waiting : Option Command
  waiting = waits_with me None past

  abbrev nodes_after : ℕ → Node
  nodes_after = put nodes me after

  next : IsMoment st (past ++ e ∷ []) nodes_after
  next = record { opening = opening; legal = ev.then_legal; after = ev.then_reached }

  -- ## after the step

  module _ (o : Reaction) (is : o ≡ rule st me s ev.step.told e.input) where
    abbrev own_state : NodeState
    own_state = after_changes s o.changes

    left : IsLeft own_state after.state
    left = step_leaves ev.step o is

    module _ (seen : IsSeen st past nodes e o) where
      abbrev h : State
      h = changed g me seen.effect_is

      beside_it : (x : ℕ) → (IsAlone past nodes me x → ⊥) → IsBeside g me x seen.effect_is
      beside_it = beside st past nodes stands.now me g (wants g me waiting) seen.effect_is ev.fits.few (stands.parts me) seen.own

      -- each node's part, and what it waits for, with the graph and the history as they are then
      part_of : (n : ℕ) → IsPart n (nodes_after n).state h (wants h n (waits_with n None (past ++ e ∷ []))) × IfSome (waits_with n None (past ++ e ∷ [])) (IsWaiting h n)
      part_of = at_each_number _ me
          (rw (waits_more me None past e, eqb_same me) (
            record { register = λ r. rw left.register (seen.part.register r); known = λ x. rw left.known (seen.part.known x); made = rw left.made seen.part.made },
            seen.waits,
          ))
          (λ n q. rw (waits_more n None past e, q) (
            part_else me n g seen.effect_is q (nodes n).state (waits_with n None past)
                (λ x fields has. beside_it x (λ a. a.copies n q fields has)) (stands.parts n),
            waiting_else me n g seen.effect_is q (waits_with n None past) (stands.waits n),
          ))

      grant_of : (n m : ℕ) (l : Letter) → Contains (in_flight n m past) l ⊎ ((me ≡ n) × Contains (letters_to m e.done.letters) l) → BringsFields h l.msg
      grant_of n m l (inl there) info fields grants =
          object_kept g me info.name seen.effect_is (beside_it info.name (λ a. a.grants n m l there (grind (arith, grants)) (grind (arith, grants)))) ∙ stands.grants n m l there info fields grants
      grant_of n m l (inr new) info fields grants = every_there (λ (k : Letter). BringsFields h k.msg) _ l (issued_to (λ (k : Letter). BringsFields h k.msg) m _
          (numbered_each (λ (k : Letter). BringsFields h k.msg) e.stamp o.drafts s.issued (every_map _ _ (λ d brings seq. brings) o.drafts seen.brings)))
          (subst (λ (k : List Sending). Contains (letters_to m k) l) (step_letters ev.step o is) new.1) info fields grants

      stands_more : Stands st (past ++ e ∷ []) nodes_after
      stands_more = record {
        now = next;
        parts = λ n. rw seen.graph ((part_of n).0);
        waits = λ n. rw seen.graph ((part_of n).1);
        grants = λ n m l there. rw seen.graph (grant_of n m l (flight_more n m past e l ((came st past nodes stands.now 0).channels.within n m) there));
        each = λ f there. elim (Contains-append_cases past (e ∷ []) f there) [
          | inl old ↦ stands.each f old
          | inr new ↦ every_there (λ (k : Event). IfSome (command_in k.input) (λ c. IsSome (act_of k))) (e ∷ []) f (seen.some, tt) new
        ];
        run = seen.run;
        makers = put_each (λ n z. (count : ℕ) → 1 ≤ count → count ≤ z.state.made → is_some (z.state.known (name_word n count)) ≡ true) nodes me after
            (λ count one most. (let x : ℕ = name_word me count in grind (
              arith,
              nat_tests,
              all_spared x o.changes (seen_known (s.known x)),
              shares_changed x o.changes s,
              ap (λ (f : ℕ → Option Known). f x) left.known,
              left.made,
              seen.names,
              seen.part.made,
              stands.makers me count one,
              (stands.parts me).made,
            )))
            (λ n _. stands.makers n);
      }

  -- ## events that are no command

  -- with no effect on the graph
  silent_seen : (o : Reaction) → command_in e.input ≡ None → IsPart me (after_changes s o.changes) g (wants g me waiting) → EachBrings g o.drafts → IsSeen st past nodes e o
  silent_seen o none part brings = record {
    effect_is = Nothing;
    graph = ap (state_after_all (opening_state st.births)) no_act;
    some = rw none tt;
    run = rw no_act stands.run;
    part = rw none part;
    waits = rw none (stands.waits me);
    brings = brings;
    own = tt;
    names = tt;
  }
    where
      no_act : acts_of (past ++ e ∷ []) ≡ acts_of past
      no_act = filter_map-append act_of past (e ∷ []) ∙ rw none (append-nil (acts_of past))

  letter_seen : (from : ℕ) (l : Letter) → e.input ≡ Take from l → IsSeen st past nodes e (rule st me s ev.step.told (Take from l))
  letter_seen from l is = either (IsSeen st past nodes e) (is_bad_letter st me s from l || ev.step.told.clash) _ _ (λ _. silent_seen (only answer.Stray) (ap command_in is) (stands.parts me) tt)
      (λ fine. silent_seen (take_rule me s ev.step.told.lies from l.seq l.msg) (ap command_in is)
      (took_part me s g (wants g me waiting) ev.step.told.lies (stands.parts me) from l.seq l.msg (s.known (name_in l.msg)) refl (stands.grants from me l (there fine)) _ refl)
      (by_transition _ (note_grants me from (note_in l.msg) (option_map share_of (s.known (name_in l.msg))))))
    where
      there : (is_bad_letter st me s from l || ev.step.told.clash) ≡ false → Contains (in_flight from me past) l
      there fine = first_there _ l _ (first_letter past nodes me from l (came st past nodes stands.now 0).channels (subst (IsNext past me) is ev.fits.next) (grind (arith, nat_tests, fine)))

      by_transition : (t : Option Transition) → GrantsNothing t → EachBrings g (took s ev.step.told.lies from l.seq l.msg (s.known (name_in l.msg)) t).drafts
      by_transition None none = tt
      by_transition (Some t) none = ungranted_brings g _ (notes_ungranting s ev.step.told.lies (name_in l.msg) t.sends none)

  -- ## commands

  steady : IsSteady st me s g waiting
  steady = record {
    part = stands.parts me;
    waits = stands.waits me;
    copied = λ x k m is held. (sound st past nodes stands.now me x k is).holder_has m held;
    new = new_unknown st past nodes stands.now me ev.fits.few me;
    aware = λ on x of means. aware st past nodes stands.now me x on g ev.fits.a_node (stands.parts me).register of means;
  }

  -- where it then holds an object, no other node keeps it from it
  free : (o : Reaction) → o ≡ rule st me s ev.step.told e.input → (m : Mode) (x : ℕ) → held_of ((after_changes s o.changes).known x) ≡ Some m → is_excluded m g me x ≡ false
  free o is m x held =
      (let both = held_once st (past ++ e ∷ []) nodes_after next x in is_excluded-none m g me x (λ k below.
      grind (arith, nat_tests, ((stands.parts k).known x).held, both me k, both k me m, ap (λ (f : ℕ → Option Known). held_of (f x)) (left o is).known, held)))

  command_seen : (c : Command) → e.input ≡ Do c → IsSeen st past nodes e (rule st me s ev.step.told (Do c))
  command_seen c is =
      let o : Reaction = rule st me s ev.step.told (Do c) in
      let ruled : o ≡ rule st me s ev.step.told e.input = ap (rule st me s ev.step.told) (sym is) in
      let answered : e.done.answer ≡ o.answer = step_answer ev.step o ruled in
      let shown : IsShown me s g c o = command_shown st me s g waiting steady ev.step.told.full ev.step.told.lies c (subst (IsInputOf st) is ev.fits.an_input) (subst (IsAgain waiting) is ev.fits.again) (free o ruled) in
      let after_it : waits_after waiting e.input e.done.answer ≡ waiting_after c o.answer = grind (arith, is, answered) in
      let act : Act = record { node = me; command = c; answer = shown.answer_is } in
      let act_is : act_of e ≡ Some act = grind (arith, is, answered, shown.same) in
      let acts : acts_of (past ++ e ∷ []) ≡ acts_of past ++ act ∷ [] = filter_map-append act_of past (e ∷ []) ∙ ap (λ (a : Option Act). acts_of past ++ cons_option a []) act_is in
      let more = one_act (opening_state st.births) (acts_of past) act stands.run shown.fits in
      record {
        effect_is = shown.effect_is;
        graph = ap (state_after_all (opening_state st.births)) acts ∙ more.0 ∙ shown.leads;
        some = rw (ap command_in is) (grind (arith, act_is));
        run = rw acts more.1;
        part = rw after_it shown.part;
        waits = rw after_it shown.waits;
        brings = ungranted_brings (changed g me shown.effect_is) o.drafts shown.ungranting;
        own = shown.own;
        names = shown.names;
      }

  -- ## each event

  event_seen : (i : Input) → e.input ≡ i → IsSeen st past nodes e (rule st me s ev.step.told i)
  event_seen (Do c) is = command_seen c is
  event_seen (Serve name) is =
      (let served = served_part me s g (wants g me waiting) ev.step.told.lies (stands.parts me) name (s.known name) refl (λ k at owns. (sound st past nodes stands.now me name k at).owner_has owns) in
      silent_seen (rule st me s ev.step.told (Serve name)) (ap command_in is) served.0 served.1)
  event_seen (Take from l) is = letter_seen from l is

  pub one_more : Stands st (past ++ e ∷ []) nodes_after
  one_more = stands_more (rule st me s ev.step.told e.input) refl (event_seen e.input refl)
