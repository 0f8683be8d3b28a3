-- A legal history, seen for one name, is a run of the model.
use Rattle.std.proofs.Common.{◌≡◌, inl, inr, ℕ, ◌+◌, ◌^◌, ◌<◌, ◌≤◌, arith, refl, ap, sym, subst, ◌∙◌, Bool, true, false, cond, List, [], ◌∷◌, ◌++◌, length, drop, suc}
use Rattle.std.specs.Prelude.{◌==◌, ◌≢◌, ◌||◌, not, nat_le, Option, Some, None, count_by, slice_get}
use Rattle.std.specs.Option.{option_and_then}
use Rattle.std.specs.List.{cons_option, flat_map}
use Rattle.std.proofs.lemmas.List.{append-nil}
use Rattle.std.proofs.lemmas.List.Sums.{sum_by-append}
use Rattle.std.proofs.lemmas.Nat.{div-mul-add, mod-mul-add}
use Rattle.bmx_types.specs.Words.{name_word, maker, count_of}
use Rattle.bmx_types.specs.Openings.{IsOpening}
use Rattle.bmx_types.specs.declared.values.Val.{Val}
use Rattle.bmx_types.specs.declared.values.Val.TheVariants as val
use Rattle.bmx_types.specs.Updates.{put}
use Rattle.bmx_msg.specs.declared.letters.Letter.{Letter}
use Rattle.bmx_token.specs.Transitions.{Serves}
use Rattle.bmx_protocol.specs.declared.inputs.Input.{Input}
use Rattle.bmx_protocol.specs.declared.inputs.Input.TheVariants as input
use Rattle.bmx_protocol.specs.declared.inputs.NodeAnswer.{NodeAnswer}
use Rattle.bmx_protocol.specs.declared.inputs.NodeAnswer.TheVariants as answer
use Rattle.bmx_protocol.specs.declared.inputs.Sending.{Sending}
use Rattle.bmx_protocol.specs.declared.inputs.Done.{Done}
use Rattle.bmx_protocol.specs.declared.events.Event.{Event}
use Rattle.bmx_protocol.specs.Nodes.{Setting, NodeState}
use Rattle.bmx_protocol.specs.Changes.{after_changes, with_step}
use Rattle.bmx_protocol.specs.Rules.{Reaction, only, about, next_name, take_rule}
use Rattle.bmx_protocol.specs.Strays.{too_large, is_no_node, is_bad_msg, is_bad_letter}
use Rattle.bmx_protocol.specs.Steps.{Node, first_node, letter_in, rule, letters_of, sent_changes, closed, is_taken, IsStep}
use Rattle.bmx_protocol.specs.Histories.{issued, arrived, taken, in_flight, letter_from, IsInputOf, IsNext, Fits, EachFits, Replays, AreAfter, IsLegal}
use Rattle.bmx_protocol.specs.Worlds.{world_of}
use Rattle.bmx_protocol.proofs.Changing.{after_append, Each}
use Rattle.bmx_protocol.proofs.Counts.{rule_issues, issued_is_counted}
use Rattle.bmx_protocol.proofs.Prefixes.{joined}
use Rattle.bmx_token_model.specs.Machine.{Object, IsNowhere, Run, Stays, Goes, IsFirst}
use Rattle.bmx_token_model.specs.Machine.{Makes as MakesIt}
use Rattle.bmx_store_laws.specs.Inside.Seen.{seen, seen_known, first_world}
use Rattle.bmx_protocol.proofs.Basics.{eqb_is, eqb_not, eqb_of, at_each}
use Rattle.bmx_store_laws.proofs.Sends.{letters_left}
use Rattle.bmx_store_laws.proofs.Shares.{shares_after, shares_changed, Spares, all_spared}
use Rattle.bmx_store_laws.proofs.Ruled.{FreeOf, Did, Passes, IsQuiet, act_quiet, command_quiet, command_did, serve_did}
use Rattle.bmx_store_laws.proofs.Taken.{Taken, Strayed, Taking, take_taken}
use Rattle.bmx_store_laws.proofs.Free.{IsFree, IsUnborn, Frees, changes_free, act_free, command_free, take_free}
use Rattle.bmx_store_laws.proofs.Channels.{Channels, Now, Nothing, First, numbered_at, slice_drop, IssuesDrafts, channels_more, way_nothing, way_taken}
use Rattle.bmx_store_laws.proofs.Calm.{calm_run, nowhere_calm}
use Rattle.bmx_store_laws.proofs.Events.{IsOutcomeOf, Happened, Made, Calmly, quiet_happened, taking_happened}
use Rattle.bmx_store_laws.proofs.Openings.{IsAware, IsNamed, is_first, aware_first, named_first, beyond_first, channels_first, few_first}

-- ## what has come about

abbrev steps_of : ℕ → List Event → ℕ
steps_of n past = count_by (λ f. f.node == n) past

-- after events: counts, what nodes know, names, and the run so far
pub record Came (st : Setting) (x : ℕ) (start : Object) (past : List Event) (nodes : ℕ → Node) : Type 0 where
  pub replay : AreAfter st past nodes
  pub channels : Channels past nodes
  pub few : (n : ℕ) → (nodes n).state.made ≤ 320000 + steps_of n past
  pub aware : (n : ℕ) → n < st.nodes → IsAware st x (nodes n).state
  pub named : IsNamed st x nodes past
  -- a number that is no node of the store knows nothing
  pub beyond : (n : ℕ) → (n < st.nodes → ⊥) → seen_known ((nodes n).state.known x) ≡ None
  pub run : Run start (seen x (world_of nodes past))

pub replay_more : (st : Setting) (past : List Event) (e : Event) (start mid : ℕ → Node) (n : Node) → Replays st start past mid →
    IsStep st e.node (mid e.node) e.stamp e.input e.done n → Replays st start (past ++ e ∷ []) (put mid e.node n)
replay_more st [] e start mid n h step = subst (λ (f : ℕ → Node). Replays st f (e ∷ []) (put mid e.node n)) (sym h) (n, step, refl)
replay_more st (f ∷ past) e start mid n h step = (h.0, h.1, replay_more st past e (put start f.node h.0) mid n h.2 step)

-- ## names

-- the next name of a node
pub maker_is : (n c : ℕ) → c < 2 ^ 56 → maker (name_word n c) ≡ n
maker_is n c h = div-mul-add n (2 ^ 56) c h

pub count_is : (n c : ℕ) → c < 2 ^ 56 → count_of (name_word n c) ≡ c
count_is n c h = mod-mul-add n (2 ^ 56) c h

-- it stands nowhere yet
pub new_nowhere : (st : Setting) (x me : ℕ) (nodes : ℕ → Node) (past : List Event) → IsNamed st x nodes past → (nodes me).state.made + 1 < 2 ^ 56 →
    x ≡ next_name me (nodes me).state → IsNowhere (seen x (world_of nodes past))
new_nowhere st x me nodes past (inr nowhere) few new = nowhere
new_nowhere st x me nodes past (inl counted) few new =
    let number : count_of x ≡ (nodes me).state.made + 1 = ap count_of new ∙ count_is me ((nodes me).state.made + 1) few in
    let at_most : count_of x ≤ (nodes me).state.made =
    subst (λ (z : ℕ). count_of x ≤ (nodes z).state.made) (ap maker new ∙ maker_is me ((nodes me).state.made + 1) few) counted.made in
    absurd (omega (arith, number, at_most))

-- ## one more event

-- an event with its step, and what it makes of the node
pub record IsEvent (st : Setting) (x : ℕ) (start : Object) (past : List Event) (nodes : ℕ → Node) (e : Event) (after : Node) (o : Reaction) : Type 0 where
  pub came : Came st x start past nodes
  pub step : IsStep st e.node (nodes e.node) e.stamp e.input e.done after
  pub few : steps_of e.node past + 1 < 2 ^ 55
  pub real : e.node < st.nodes
  pub of : IsOutcomeOf e (nodes e.node).state after o
  pub at_least : (nodes e.node).state.made ≤ (after_changes (nodes e.node).state o.changes).made
  pub at_most : (after_changes (nodes e.node).state o.changes).made ≤ (nodes e.node).state.made + 1
  pub frees : IsUnborn st x → IsFree x (nodes e.node).state → Each (Spares x) o.changes → Each (Frees x) o.changes

module _ (st : Setting) (x : ℕ) (start : Object) (past : List Event) (nodes : ℕ → Node) (e : Event) (after : Node) (o : Reaction)
    (ev : IsEvent st x start past nodes e after o) where
  abbrev me : ℕ
  me = e.node

  abbrev s : NodeState
  s = (nodes me).state

  abbrev own : NodeState
  own = after_changes s o.changes

  abbrev letters : List Sending
  letters = letters_of e.stamp s o

  leads : after.state ≡ with_step (after_changes own (flat_map sent_changes letters))
  leads = ev.of.state ∙ ap with_step (after_append s o.changes (flat_map sent_changes letters))

  made_is : after.state.made ≡ own.made
  made_is = ap (λ (t : NodeState). t.made) leads ∙ (letters_left letters own).made

  taken_is : after.state.taken ≡ own.taken
  taken_is = ap (λ (t : NodeState). t.taken) leads ∙ (letters_left letters own).taken

  enough : s.made + 1 < 2 ^ 56
  enough =
      let some : s.made ≤ 320000 + steps_of me past = ev.came.few me in
      let few : steps_of me past + 1 < 2 ^ 55 = ev.few in
      omega arith

  few_after : (n : ℕ) → (put nodes me after n).state.made ≤ 320000 + steps_of n (past ++ e ∷ [])
  few_after n = by_test (me == n) (eqb_is me n) (sum_by-append (λ (f : Event). cond (f.node == n) 1 0) past (e ∷ []))
    where
      before : (nodes n).state.made ≤ 320000 + steps_of n past
      before = ev.came.few n

      by_test : (b : Bool) → (b ≡ true → me ≡ n) → steps_of n (past ++ e ∷ []) ≡ steps_of n past + (0 + cond b 1 0) →
          (cond b after (nodes n)).state.made ≤ 320000 + steps_of n (past ++ e ∷ [])
      by_test true q steps =
          let same : (nodes me).state.made ≡ (nodes n).state.made = ap (λ (k : ℕ). (nodes k).state.made) (q refl) in
          omega (arith, made_is, ev.at_most, steps, before, same)
      by_test false q steps = omega (arith, steps, before)

  -- nodes know each name that they refer to
  aware_here : IsAware st x after.state
  aware_here none =
      let known : after.state.known ≡ own.known = ap (λ (t : NodeState). t.known) leads ∙ (letters_left letters own).known in
      let register : after.state.register ≡ own.register = ap (λ (t : NodeState). t.register) leads ∙ (letters_left letters own).register in
      let gone : shares_after x (seen_known (s.known x)) o.changes ≡ None =
      sym (shares_changed x o.changes s) ∙ (λ i. seen_known (sym known i x)) ∙ none in
      let spared : (seen_known (s.known x) ≡ None) × Each (Spares x) o.changes = all_spared x o.changes (seen_known (s.known x)) gone in
      let old : IsFree x s × IsUnborn st x = ev.came.aware me ev.real spared.0 in
      let free : IsFree x own = changes_free x o.changes (ev.frees old.1 old.0 spared.1) s old.0 in
      (record { fields = subst (FreeOf x) (sym known) free.fields; registers = λ r. subst (λ (f : ℕ → Val). f r ≢ val.Ref x) (sym register) (free.registers r) }, old.1)

  aware_after : (n : ℕ) → n < st.nodes → IsAware st x (put nodes me after n).state
  aware_after n below = at_each (λ (k : Node). IsAware st x k.state) nodes me after aware_here n (ev.came.aware n below)

  abbrev before_object : Object
  before_object = seen x (world_of nodes past)

  abbrev after_object : Object
  after_object = seen x (world_of (put nodes me after) (past ++ e ∷ []))

  -- a node has counted x, or x stands nowhere
  named_after : Happened x me s own before_object after_object → IsNamed st x (put nodes me after) (past ++ e ∷ [])
  named_after (Made new one is) = inl (record {
    by_a_node = subst (λ (z : ℕ). z < st.nodes) (sym made_by) ev.real;
    from_one = omega (arith, number);
    made = subst (λ (z : ℕ). count_of x ≤ (put nodes me after z).state.made) (sym made_by)
        (subst (λ (b : Bool). count_of x ≤ (cond b after (nodes me)).state.made) (sym (eqb_of {a = me} refl)) (omega (arith, number, made_is, one)));
  })
    where
      made_by : maker x ≡ me
      made_by = ap maker new ∙ maker_is me (s.made + 1) enough

      number : count_of x ≡ s.made + 1
      number = ap count_of new ∙ count_is me (s.made + 1) enough
  named_after (Calmly calm) = by_named ev.came.named
    where
      by_test : (b : Bool) → (b ≡ true → me ≡ maker x) → count_of x ≤ (nodes (maker x)).state.made → count_of x ≤ (cond b after (nodes (maker x))).state.made
      by_test true q counted =
          let same : (nodes me).state.made ≡ (nodes (maker x)).state.made = ap (λ (k : ℕ). (nodes k).state.made) (q refl) in
          omega (arith, counted, same, made_is, ev.at_least)
      by_test false q counted = counted

      by_named : IsNamed st x nodes past → IsNamed st x (put nodes me after) (past ++ e ∷ [])
      by_named (inl counted) = inl (record {
        by_a_node = counted.by_a_node;
        from_one = counted.from_one;
        made = by_test (me == maker x) (eqb_is me (maker x)) counted.made;
      })
      by_named (inr nowhere) = inr (nowhere_calm before_object after_object calm nowhere)

  run_after : Happened x me s own before_object after_object → Run start after_object
  run_after (Made new one is) = Goes ev.came.run (MakesIt me (new_nowhere st x me nodes past ev.came.named enough new) is)
  run_after (Calmly calm) = calm_run start before_object after_object ev.came.run calm

  beyond_after : (n : ℕ) → (n < st.nodes → ⊥) → seen_known ((put nodes me after n).state.known x) ≡ None
  beyond_after n none = by_test (me == n) (eqb_is me n)
    where
      by_test : (b : Bool) → (b ≡ true → me ≡ n) → seen_known ((cond b after (nodes n)).state.known x) ≡ None
      by_test true q = absurd (none (subst (λ (k : ℕ). k < st.nodes) (q refl) ev.real))
      by_test false q = ev.came.beyond n none

  issues : IssuesDrafts past e
  issues = record {
    counts = s.issued;
    stamp = e.stamp;
    drafts = o.drafts;
    letters = ev.of.letters;
    from_past = λ m. issued_is_counted st past nodes ev.came.replay me m;
  }

  pub came_more : Happened x me s own before_object after_object → Now past e s.taken own.taken →
      Came st x start (past ++ e ∷ []) (put nodes me after)
  came_more happened now = record {
    replay = replay_more st past e (first_node st) nodes after ev.came.replay ev.step;
    channels = channels_more past nodes e after issues (subst (Now past e s.taken) (sym taken_is) now) ev.came.channels;
    few = few_after;
    aware = aware_after;
    named = named_after happened;
    beyond = beyond_after;
    run = run_after happened;
  }

-- ## what an event takes

taken_none : (n m : ℕ) (e : Event) → letter_in e.input ≡ None → taken n m (e ∷ []) ≡ []
taken_none n m e none = by_test (is_taken e.done.answer)
  where
    by_node : (b : Bool) → cons_option {X = Letter} (cond b None None) [] ≡ []
    by_node true = refl
    by_node false = refl

    by_test : (t : Bool) → arrived n m (cond t (e ∷ []) []) ≡ []
    by_test true = ap (λ (l : Option (ℕ × Letter)). cons_option (cond (e.node == m) (option_and_then (λ (k : ℕ × Letter). cond (k.0 == n) (Some k.1) None) l) None) []) none
        ∙ by_node (e.node == m)
    by_test false = refl

taken_stray : (n m : ℕ) (e : Event) → e.done.answer ≡ answer.Stray → taken n m (e ∷ []) ≡ []
taken_stray n m e is = ap (λ (a : NodeAnswer). arrived n m (cond (is_taken a) (e ∷ []) [])) is

taken_one : (n m : ℕ) (e : Event) (from : ℕ) (l : Letter) → e.input ≡ input.Take from l → e.done.answer ≡ answer.Nil →
    taken n m (e ∷ []) ≡ cond (e.node == m) (cond (from == n) (l ∷ []) []) []
taken_one n m e from l is nil =
    ap (λ (a : NodeAnswer). arrived n m (cond (is_taken a) (e ∷ []) [])) nil
    ∙ ap (λ (i : Input). cons_option (cond (e.node == m) (letter_from n i) None) []) is
    ∙ by_tests (e.node == m) (from == n)
  where
    by_tests : (a b : Bool) → cons_option (cond a (cond b (Some l) None) None) [] ≡ cond a (cond b (l ∷ []) []) []
    by_tests true true = refl
    by_tests true false = refl
    by_tests false b = refl

-- a letter that isn't bad has the next number, and another sender
pub good_letter : (a b t c d f : Bool) → (a || b || not t || c || d || f) ≡ false → (a ≡ false) × (t ≡ true)
good_letter true b t c d f h = absurd cc
good_letter false true t c d f h = absurd cc
good_letter false false true c d f h = (refl, refl)
good_letter false false false c d f h = absurd cc

-- it is the first in flight
pub first_letter : (past : List Event) (nodes : ℕ → Node) (me from : ℕ) (l : Letter) → Channels past nodes →
    slice_get (issued from me past) (length (arrived from me past)) ≡ Some l → l.seq ≡ (nodes me).state.taken from + 1 →
    in_flight from me past ≡ l ∷ drop (suc (length (taken from me past))) (issued from me past)
first_letter past nodes me from l channels next counted =
    slice_drop (issued from me past) (length (taken from me past)) l (subst (λ (k : ℕ). slice_get (issued from me past) k ≡ Some l) same next)
  where
    number : l.seq ≡ 0 + length (arrived from me past) + 1
    number = numbered_at (issued from me past) 0 (length (arrived from me past)) l (channels.numbers from me) next

    same : length (arrived from me past) ≡ length (taken from me past)
    same = omega (arith, number, counted, channels.counts from me)

-- ## events by their inputs

module _ (st : Setting) (x : ℕ) (start : Object) (past : List Event) (nodes : ℕ → Node) (e : Event) (after : Node)
    (came : Came st x start past nodes) (step : IsStep st e.node (nodes e.node) e.stamp e.input e.done after) (fits : Fits st past e) where
  abbrev here : NodeState
  here = (nodes e.node).state

  -- what its step makes of the node
  outcome_of : (o : Reaction) → o ≡ rule st e.node here step.told e.input → IsOutcomeOf e here after o
  outcome_of o is = record {
    state = step.state ∙ ap (closed e.stamp here) (sym is);
    letters = ap (λ (d : Done). d.letters) step.outcome ∙ ap (letters_of e.stamp here) (sym is);
    issued = ap (λ (p : Reaction). (after_changes here p.changes).issued) is ∙ rule_issues st e.node here step.told e.input;
  }

  answers : (o : Reaction) → o ≡ rule st e.node here step.told e.input → e.done.answer ≡ o.answer
  answers o is = ap (λ (d : Done). d.answer) step.outcome ∙ ap (λ (p : Reaction). p.answer) (sym is)

  -- it takes no letter
  quiet : (o : Reaction) → o ≡ rule st e.node here step.told e.input → IsQuiet here o → Did x e.node here o →
      (IsUnborn st x → IsFree x here → Each (Spares x) o.changes → Each (Frees x) o.changes) → ((n m : ℕ) → taken n m (e ∷ []) ≡ []) →
      Came st x start (past ++ e ∷ []) (put nodes e.node after)
  quiet o is calm did frees none = came_more st x start past nodes e after o
      (record { came = came; step = step; few = fits.few; real = fits.a_node; of = outcome_of o is; at_least = calm.at_least; at_most = calm.at_most; frees = frees })
      (quiet_happened x nodes past e after o (outcome_of o is) calm (λ n m. way_nothing n m past e (came.channels.within n m) (none n m)) did
      (λ unknown. (came.aware e.node fits.a_node unknown).0.fields))
      (Nothing none (λ m. (λ i. calm.taken i m)))

  -- its letter is stray
  strayed : (o : Reaction) → o ≡ rule st e.node here step.told e.input → o ≡ only answer.Stray → Came st x start (past ++ e ∷ []) (put nodes e.node after)
  strayed o is stray = quiet (only answer.Stray) (sym stray ∙ is)
      (record { entering = refl; taken = refl; at_least = omega arith; at_most = omega arith }) (Passes refl tt) (λ unborn free spares. tt)
      (λ n m. taken_stray n m e (answers (only answer.Stray) (sym stray ∙ is)))

  -- its letter is taken
  taking : (from : ℕ) (l : Letter) → e.input ≡ input.Take from l → from ≢ e.node → l.seq ≡ here.taken from + 1 →
      take_rule e.node here step.told.lies from l.seq l.msg ≡ rule st e.node here step.told e.input → Came st x start (past ++ e ∷ []) (put nodes e.node after)
  taking from l is apart number same = by_taken (take_taken x e.node here step.told.lies from l.seq l.msg)
    where
      o : Reaction
      o = take_rule e.node here step.told.lies from l.seq l.msg

      rest : List Letter
      rest = drop (suc (length (taken from e.node past))) (issued from e.node past)

      next : slice_get (issued from e.node past) (length (arrived from e.node past)) ≡ Some l
      next = subst (IsNext past e.node) is fits.next

      first : in_flight from e.node past ≡ l ∷ rest
      first = first_letter past nodes e.node from l came.channels next number

      by_taken : Taken x e.node from l.seq here l.msg o → Came st x start (past ++ e ∷ []) (put nodes e.node after)
      by_taken (Strayed stray) = strayed o same stray
      by_taken (Taking nil took) = came_more st x start past nodes e after o
          (record {
            came = came;
            step = step;
            few = fits.few;
            real = fits.a_node;
            of = outcome_of o same;
            at_least = omega (arith, took.made);
            at_most = omega (arith, took.made);
            frees = λ unborn free spares. take_free x e.node here step.told.lies from l.seq l.msg free.fields spares;
          })
          (taking_happened x nodes past e after o from l rest (outcome_of o same) first apart took
          (λ n m. way_taken n m past e from l rest (came.channels.within n m) first (one n m)))
          (First from l rest first one (λ m. (λ i. took.taken i m)))
        where
          one : (n m : ℕ) → taken n m (e ∷ []) ≡ cond (e.node == m) (cond (from == n) (l ∷ []) []) []
          one n m = taken_one n m e from l is (answers o same ∙ nil)

  by_input : (i : Input) → e.input ≡ i → Came st x start (past ++ e ∷ []) (put nodes e.node after)
  by_input (input.Do c) is =
      quiet (rule st e.node here step.told (input.Do c)) (ap (rule st e.node here step.told) (sym is))
      (command_quiet e.node here step.told.full step.told.lies c (about c)) (command_did x e.node here step.told.full step.told.lies c (about c))
      (λ unborn free spares. command_free st x e.node here step.told.full step.told.lies c (about c) unborn (subst (IsInputOf st) is fits.an_input) free spares)
      (λ n m. taken_none n m e (ap letter_in is))
  by_input (input.Serve name) is =
      quiet (rule st e.node here step.told (input.Serve name)) (ap (rule st e.node here step.told) (sym is))
      (act_quiet e.node here step.told.lies Serves answer.Idle name (here.known name)) (serve_did x e.node here step.told.lies Serves answer.Idle name)
      (λ unborn free spares. act_free x e.node here step.told.lies Serves answer.Idle name (here.known name) refl free.fields)
      (λ n m. taken_none n m e (ap letter_in is))
  by_input (input.Take from l) is = by_test (is_bad_letter st e.node here from l || step.told.clash) refl
    where
      bad : Bool
      bad = is_bad_letter st e.node here from l || step.told.clash

      by_test : (b : Bool) → bad ≡ b → Came st x start (past ++ e ∷ []) (put nodes e.node after)
      by_test true h = strayed (rule st e.node here step.told (input.Take from l)) (ap (rule st e.node here step.told) (sym is))
          (λ i. cond (h i) (only answer.Stray) (take_rule e.node here step.told.lies from l.seq l.msg))
      by_test false h =
          let good : ((from == e.node) ≡ false) × ((l.seq == here.taken from + 1) ≡ true) =
          good_letter (from == e.node) (is_no_node st from) (l.seq == here.taken from + 1) (nat_le too_large l.stamp) (is_bad_msg st e.node here l.msg) step.told.clash h in
          taking from l is (eqb_not from e.node good.0) (eqb_is l.seq (here.taken from + 1) good.1)
          ((λ i. cond (sym h i) (only answer.Stray) (take_rule e.node here step.told.lies from l.seq l.msg)) ∙ ap (rule st e.node here step.told) (sym is))

  pub one_more : Came st x start (past ++ e ∷ []) (put nodes e.node after)
  one_more = by_input e.input refl

-- ## histories

all_more : (st : Setting) (x : ℕ) (start : Object) (rest past : List Event) (nodes last : ℕ → Node) → Came st x start past nodes →
    EachFits st (past ++ rest) → Replays st nodes rest last → Came st x start (past ++ rest) last
all_more st x start [] past nodes last came fits replay =
    subst (λ (h : List Event). Came st x start h last) (sym (append-nil past)) (subst (Came st x start past) replay came)
all_more st x start (e ∷ rest) past nodes last came fits replay =
    let one : Came st x start (past ++ e ∷ []) (put nodes e.node replay.0) =
    one_more st x start past nodes e replay.0 came replay.1 (fits past rest e refl) in
    let next : past ++ e ∷ rest ≡ (past ++ e ∷ []) ++ rest = sym (joined past (e ∷ []) rest) in
    let all : Came st x start ((past ++ e ∷ []) ++ rest) last =
    all_more st x start rest (past ++ e ∷ []) (put nodes e.node replay.0) last one (subst (EachFits st) next fits) replay.2 in
    subst (λ (h : List Event). Came st x start h last) (sym next) all

first_came : (st : Setting) (x : ℕ) → IsOpening st.nodes st.limit st.births → Came st x (seen x (first_world st)) [] (first_node st)
first_came st x opening = record {
  replay = refl;
  channels = channels_first st;
  few = λ n. (let few : (first_node st n).state.made ≤ 320000 = few_first st opening n in omega arith);
  aware = aware_first st opening x;
  named = named_first st opening x;
  beyond = beyond_first st opening x;
  run = Stays;
}

-- what has come about after a legal history
pub came_after : (st : Setting) (history : List Event) (nodes : ℕ → Node) → IsOpening st.nodes st.limit st.births → IsLegal st history → AreAfter st history nodes →
    (x : ℕ) → Came st x (seen x (first_world st)) history nodes
came_after st history nodes opening legal after x =
    all_more st x (seen x (first_world st)) history [] (first_node st) nodes (first_came st x opening) legal.fits after

-- what holds of the model's object after each run from a first one holds of each name after a legal history
pub each_name : (Holds : Object → Type 0) → ((o p : Object) → IsFirst o → Run o p → Holds p) →
    (st : Setting) (history : List Event) (nodes : ℕ → Node) → IsOpening st.nodes st.limit st.births → IsLegal st history → AreAfter st history nodes →
    (x : ℕ) → Holds (seen x (world_of nodes history))
each_name Holds law st history nodes opening legal after x =
    law (seen x (first_world st)) (seen x (world_of nodes history)) (is_first st x) (came_after st history nodes opening legal after x).run
