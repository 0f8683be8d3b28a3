-- One more event without a collector: what has come about stays so.
use Rattle.std.proofs.Common.{◌≡◌, ℕ, ◌+◌, ◌<◌, ◌≤◌, ◌||◌, arith, refl, ap, sym, subst, ◌∙◌, Bool, true, false, cond, List, [], ◌∷◌, ◌++◌, length, drop, suc}
use Rattle.std.specs.Prelude.{◌==◌, ◌≢◌, not, nat_le, Option, Some, None, IsSome, slice_get}
use Rattle.std.specs.List.{cons_option, flat_map}
use Rattle.bmx_types.specs.Words.{maker, count_of}
use Rattle.bmx_types.specs.Updates.{put}
use Rattle.bmx_table.specs.declared.tables.Table.{Table}
use Rattle.bmx_msg.specs.declared.letters.Letter.{Letter}
use Rattle.bmx_token.specs.Transitions.{Serves}
use Rattle.bmx_token_model.specs.Machine.{IsNowhere}
use Rattle.bmx_token_model.specs.Tables as model
use Rattle.bmx_token_model.specs.Tables.{Tabled}
use Rattle.bmx_protocol.specs.declared.inputs.Input.{Input}
use Rattle.bmx_protocol.specs.declared.inputs.Input.TheVariants as input
use Rattle.bmx_protocol.specs.declared.inputs.NodeAnswer.{NodeAnswer}
use Rattle.bmx_protocol.specs.declared.inputs.NodeAnswer.TheVariants as answer
use Rattle.bmx_protocol.specs.declared.inputs.Done.{Done}
use Rattle.bmx_protocol.specs.declared.events.Event.{Event}
use Rattle.bmx_protocol.specs.Nodes.{Setting, NodeState}
use Rattle.bmx_protocol.specs.Changes.{Change, Knows, after_changes, with_step}
use Rattle.bmx_protocol.specs.Rules.{Reaction, only, about, next_name, take_rule}
use Rattle.bmx_protocol.specs.Strays.{too_large, is_no_node, is_bad_msg, is_bad_letter}
use Rattle.bmx_protocol.specs.Steps.{Node, rule, letters_of, sent_changes, is_taken, IsStep}
use Rattle.bmx_protocol.specs.Histories.{letters_to, issued, arrived, taken, in_flight, letter_from, IsNext}
use Rattle.bmx_protocol.specs.Worlds.{world_of}
use Rattle.bmx_protocol.proofs.Basics.{eqb_is, eqb_of, eqb_not, at_each, Every, every_append}
use Rattle.bmx_protocol.proofs.Changing.{Each, after_append}
use Rattle.bmx_protocol.proofs.Counts.{rule_issues}
use Rattle.bmx_store_laws.specs.Laws.{IsCounted}
use Rattle.bmx_store_laws.specs.Inside.Seen.{seen_known}
use Rattle.bmx_store_laws.proofs.Sends.{IsLeft, letters_left}
use Rattle.bmx_store_laws.proofs.Shares.{shares_after, shares_changed, Spares, all_spared}
use Rattle.bmx_store_laws.proofs.Ruled.{Did, Passes, IsQuiet, act_quiet, command_quiet, command_did, serve_did}
use Rattle.bmx_store_laws.proofs.Taken.{Taken, Strayed, Taking, Took, take_taken}
use Rattle.bmx_store_laws.proofs.Channels.{Channels, Now, Nothing, First, numbered_at, slice_drop, channels_more, letters_by, way_left, way_nothing, way_taken}
use Rattle.bmx_store_laws.proofs.Calm.{nowhere_calm}
use Rattle.bmx_store_laws.proofs.Events.{IsOutcomeOf, Happened, Made, Calmly, quiet_happened, taking_happened}
use Rattle.bmx_collection_laws.proofs.Moves.{object_before, object_after, Leads, quiet_run, taking_run}
use Rattle.bmx_collection_laws.proofs.Bunches.{SaysBunch, LetterOf, InputOf, MadeOf, RuleOf, rule_of, closed_says, letters_tell}
use Rattle.bmx_collection_laws.proofs.Came.{views, SaysAll, HasRun, Kept, Nowhere, Somewhere, Came, issued_is, IsSure, sure_free, new_name, maker_next, count_next}

-- ## what an event takes

taken_by : (n m : ℕ) (e : Event) → taken n m (e ∷ []) ≡ cond (is_taken e.done.answer) (cons_option (cond (e.node == m) (letter_from n e.input) None) []) []
taken_by n m e = by (is_taken e.done.answer)
  where
    by : (t : Bool) → arrived n m (cond t (e ∷ []) []) ≡ cond t (cons_option (cond (e.node == m) (letter_from n e.input) None) []) []
    by true = refl
    by false = refl

takes_none : (n m : ℕ) (e : Event) (i : Input) → e.input ≡ i → letter_from n i ≡ None → taken n m (e ∷ []) ≡ []
takes_none n m e i is none =
    taken_by n m e ∙ ap (λ (j : Input). cond (is_taken e.done.answer) (cons_option (cond (e.node == m) (letter_from n j) None) []) []) is
    ∙ ap (λ (l : Option Letter). cond (is_taken e.done.answer) (cons_option (cond (e.node == m) l None) []) []) none ∙ by (is_taken e.done.answer) (e.node == m)
  where
    by : (t b : Bool) → cond t (cons_option {X = Letter} (cond b None None) []) [] ≡ []
    by true true = refl
    by true false = refl
    by false b = refl

takes_stray : (n m : ℕ) (e : Event) → e.done.answer ≡ answer.Stray → taken n m (e ∷ []) ≡ []
takes_stray n m e is =
    taken_by n m e ∙ ap (λ (a : NodeAnswer). cond (is_taken a) (cons_option (cond (e.node == m) (letter_from n e.input) None) []) []) is

takes_one : (n m : ℕ) (e : Event) (from : ℕ) (l : Letter) → e.input ≡ input.Take from l → e.done.answer ≡ answer.Nil →
    taken n m (e ∷ []) ≡ cond (e.node == m) (cond (from == n) (l ∷ []) []) []
takes_one n m e from l is nil =
    taken_by n m e ∙ ap (λ (a : NodeAnswer). cond (is_taken a) (cons_option (cond (e.node == m) (letter_from n e.input) None) []) []) nil
    ∙ ap (λ (j : Input). cons_option (cond (e.node == m) (letter_from n j) None) []) is ∙ by (e.node == m) (from == n)
  where
    by : (t b : Bool) → cons_option (cond t (cond b (Some l) None) None) [] ≡ cond t (cond b (l ∷ []) []) []
    by true true = refl
    by true false = refl
    by false b = refl

-- a letter that isn't bad is of another node, and has the next number
isnt_bad : (a b t c d f : Bool) → (a || b || not t || c || d || f) ≡ false → (a ≡ false) × (t ≡ true)
isnt_bad false false true c d f h = (refl, refl)
isnt_bad true b t c d f h = absurd cc
isnt_bad false true t c d f h = absurd cc
isnt_bad false false false c d f h = absurd cc

-- and is the first in flight
is_front : (past : List Event) (nodes : ℕ → Node) (me from : ℕ) (l : Letter) → Channels past nodes →
    slice_get (issued from me past) (length (arrived from me past)) ≡ Some l → l.seq ≡ (nodes me).state.taken from + 1 →
    in_flight from me past ≡ l ∷ drop (suc (length (taken from me past))) (issued from me past)
is_front past nodes me from l channels next counted =
    let number : l.seq ≡ 0 + length (arrived from me past) + 1 = numbered_at (issued from me past) 0 (length (arrived from me past)) l (channels.numbers from me) next in
    let same : length (arrived from me past) ≡ length (taken from me past) = omega (arith, number, counted, channels.counts from me) in
    slice_drop (issued from me past) (length (taken from me past)) l (subst (λ (k : ℕ). slice_get (issued from me past) k ≡ Some l) same next)

-- what an event by a reaction comes to for x
record WentBy (x : ℕ) (past : List Event) (nodes : ℕ → Node) (e : Event) (after : Node) (o : Reaction) : Type 0 where
  happened : Happened x e.node (nodes e.node).state (after_changes (nodes e.node).state o.changes) (object_before x nodes past) (object_after x nodes past e after)
  moves : (start : Tabled) (tables : ℕ → ℕ → List model.Table) → (x ≡ next_name e.node (nodes e.node).state → IsNowhere (object_before x nodes past)) →
      Leads start tables (object_before x nodes past) → Leads start tables (object_after x nodes past e after)
  now : Now past e (nodes e.node).state.taken (after_changes (nodes e.node).state o.changes).taken
  letters : (b : ℕ) → ((n m : ℕ) → Every (LetterOf b x) (in_flight n m past)) → ((n m : ℕ) → Every (LetterOf b x) (letters_by e n m)) →
      (n m : ℕ) → Every (LetterOf b x) (in_flight n m (past ++ e ∷ []))
  at_least : (nodes e.node).state.made ≤ (after_changes (nodes e.node).state o.changes).made

-- the bunch of what changes make first
abbrev first_bunch : List Change → ℕ
first_bunch [] = 0
first_bunch (Knows name k ∷ rest) = k.bunch
first_bunch (c ∷ rest) = 0

module _ (st : Setting) (x : ℕ) (past : List Event) (nodes : ℕ → Node) (made : List Table) (e : Event) (after : Node)
    (came : Came st x past nodes made) (step : IsStep st e.node (nodes e.node) e.stamp e.input e.done after) (real : e.node < st.nodes)
    (next : IsNext past e.node e.input) (sure : IsSure (nodes e.node).state) where
  abbrev me : ℕ
  me = e.node

  abbrev s : NodeState
  s = (nodes me).state

  abbrev ruled : Input → Reaction
  ruled i = rule st me s step.told i

  abbrev Went : Reaction → Type 0
  Went = WentBy x past nodes e after

  -- ## the event by its input

  outcome : (i : Input) → e.input ≡ i → IsOutcomeOf e s after (ruled i)
  outcome i is = subst (λ (j : Input). IsOutcomeOf e s after (ruled j)) is (record {
    state = step.state;
    letters = ap (λ (d : Done). d.letters) step.outcome;
    issued = rule_issues st me s step.told e.input;
  })

  answers : (i : Input) → e.input ≡ i → e.done.answer ≡ (ruled i).answer
  answers i is = ap (λ (d : Done). d.answer) step.outcome ∙ ap (λ (j : Input). (ruled j).answer) is

  went_quietly : (o : Reaction) → IsOutcomeOf e s after o → IsQuiet s o → Did x me s o → ((n m : ℕ) → taken n m (e ∷ []) ≡ []) → Went o
  went_quietly o of quiet acts none = record {
    happened = quiet_happened x nodes past e after o of quiet way acts (sure_free x s sure);
    moves = λ start tables fresh run. quiet_run start tables x nodes past e after o of quiet way acts (sure_free x s sure) fresh run;
    now = Nothing none (λ m. (λ i. quiet.taken i m));
    letters = λ b old new n m. subst (Every (LetterOf b x)) (sym (way n m)) (every_append (LetterOf b x) (in_flight n m past) (letters_by e n m) (old n m) (new n m));
    at_least = quiet.at_least;
  }
    where
      way : (n m : ℕ) → in_flight n m (past ++ e ∷ []) ≡ in_flight n m past ++ letters_by e n m
      way n m = way_nothing n m past e (came.channels.within n m) (none n m)

  strayed : (o : Reaction) → IsOutcomeOf e s after o → e.done.answer ≡ o.answer → o ≡ only answer.Stray → Went o
  strayed o of answered stray = subst Went (sym stray) (went_quietly (only answer.Stray) (subst (IsOutcomeOf e s after) stray of)
      (record { entering = refl; taken = refl; at_least = omega arith; at_most = omega arith }) (Passes refl tt)
      (λ n m. takes_stray n m e (answered ∙ ap (λ (p : Reaction). p.answer) stray)))

  went_taking : (from : ℕ) (l : Letter) (rest : List Letter) → e.input ≡ input.Take from l → in_flight from me past ≡ l ∷ rest → from ≢ me → (o : Reaction) →
      IsOutcomeOf e s after o → e.done.answer ≡ answer.Nil → Took x me from l.seq s l.msg o → Went o
  went_taking from l rest is first apart o of nil took = record {
    happened = taking_happened x nodes past e after o from l rest of first apart took way;
    moves = λ start tables fresh run. taking_run start tables x nodes past e after o of from l rest first apart took way run;
    now = First from l rest first one (λ m. (λ i. took.taken i m));
    letters = λ b old new n m. subst (Every (LetterOf b x)) (sym (way n m)) (every_append (LetterOf b x) (way_left past e from rest n m) (letters_by e n m) (left b old n m) (new n m));
    at_least = omega (arith, took.made);
  }
    where
      one : (n m : ℕ) → taken n m (e ∷ []) ≡ cond (e.node == m) (cond (from == n) (l ∷ []) []) []
      one n m = takes_one n m e from l is nil

      way : (n m : ℕ) → in_flight n m (past ++ e ∷ []) ≡ way_left past e from rest n m ++ letters_by e n m
      way n m = way_taken n m past e from l rest (came.channels.within n m) first (one n m)

      left : (b : ℕ) → ((n m : ℕ) → Every (LetterOf b x) (in_flight n m past)) → (n m : ℕ) → Every (LetterOf b x) (way_left past e from rest n m)
      left b old n m = by (e.node == m) (from == n)
        where
          by : (a c : Bool) → Every (LetterOf b x) (cond a (cond c rest (in_flight n m past)) (in_flight n m past))
          by true true = (subst (Every (LetterOf b x)) first (old from me)).1
          by true false = old n m
          by false c = old n m

  -- a letter that isn't bad comes first
  good : (from : ℕ) (l : Letter) → e.input ≡ input.Take from l → (is_bad_letter st me s from l || step.told.clash) ≡ false →
      (from ≢ me) × (in_flight from me past ≡ l ∷ drop (suc (length (taken from me past))) (issued from me past))
  good from l is h =
      let it : ((from == me) ≡ false) × ((l.seq == s.taken from + 1) ≡ true) =
      isnt_bad (from == me) (is_no_node st from) (l.seq == s.taken from + 1) (nat_le too_large l.stamp) (is_bad_msg st me s l.msg) step.told.clash h in
      (eqb_not from me it.0, is_front past nodes me from l came.channels (subst (IsNext past me) is next) (eqb_is l.seq (s.taken from + 1) it.1))

  went_by : (i : Input) → e.input ≡ i → Went (ruled i)
  went_by (input.Do c) is = went_quietly (ruled (input.Do c)) (outcome (input.Do c) is) (command_quiet me s step.told.full step.told.lies c (about c))
      (command_did x me s step.told.full step.told.lies c (about c)) (λ n m. takes_none n m e (input.Do c) is refl)
  went_by (input.Serve name) is = went_quietly (ruled (input.Serve name)) (outcome (input.Serve name) is) (act_quiet me s step.told.lies Serves answer.Idle name (s.known name))
      (serve_did x me s step.told.lies Serves answer.Idle name) (λ n m. takes_none n m e (input.Serve name) is refl)
  went_by (input.Take from l) is = by (is_bad_letter st me s from l || step.told.clash) refl
    where
      o : Reaction
      o = take_rule me s step.told.lies from l.seq l.msg

      by : (t : Bool) → (is_bad_letter st me s from l || step.told.clash) ≡ t → Went (ruled (input.Take from l))
      by true h = strayed (ruled (input.Take from l)) (outcome (input.Take from l) is) (answers (input.Take from l) is) (λ i. cond (h i) (only answer.Stray) o)
      by false h = subst Went (sym same) (by_taken (take_taken x me s step.told.lies from l.seq l.msg))
        where
          same : ruled (input.Take from l) ≡ o
          same i = cond (h i) (only answer.Stray) o

          of : IsOutcomeOf e s after o
          of = subst (IsOutcomeOf e s after) same (outcome (input.Take from l) is)

          answered : e.done.answer ≡ o.answer
          answered = answers (input.Take from l) is ∙ ap (λ (p : Reaction). p.answer) same

          by_taken : Taken x me from l.seq s l.msg o → Went o
          by_taken (Strayed stray) = strayed o of answered stray
          by_taken (Taking nil took) = went_taking from l _ is (good from l is h).1 (good from l is h).0 o of (answered ∙ nil) took

  went : Went (ruled e.input)
  went = went_by e.input refl

  -- ## what all say of x

  abbrev o : Reaction
  o = ruled e.input

  told_in : (b : ℕ) → SaysAll b x past nodes → (i : Input) → e.input ≡ i → InputOf st b x me s step.told i
  told_in b all (input.Do c) is = tt
  told_in b all (input.Serve name) is = tt
  told_in b all (input.Take from l) is = λ h. (subst (Every (LetterOf b x)) (good from l is h).1 (all.letters_say from me)).0

  says_after : (b : ℕ) → SaysAll b x past nodes → MadeOf b x me s o.changes → SaysAll b x (past ++ e ∷ []) (put nodes me after)
  says_after b all new = record {
    nodes_say = λ n. at_each (λ (k : Node). SaysBunch b x k.state) nodes me after here n (all.nodes_say n);
    letters_say = went.letters b all.letters_say (λ n m. sent n m (e.node == n));
  }
    where
      ruled_of : RuleOf b x (IsSome (s.known x)) o
      ruled_of = rule_of st b x me s step.told e.input (all.nodes_say me) sure.targets (told_in b all e.input refl) new

      here : SaysBunch b x after.state
      here = subst (SaysBunch b x) (sym step.state) (closed_says b x e.stamp s o (all.nodes_say me) ruled_of)

      sent : (n m : ℕ) (t : Bool) → Every (LetterOf b x) (cond t (letters_to m e.done.letters) [])
      sent n m true = subst (λ (d : Done). Every (LetterOf b x) (letters_to m d.letters)) (sym step.outcome)
          (letters_tell b x e.stamp (IsSome (s.known x)) s.issued o.drafts ruled_of.drafts m)
      sent n m false = tt

  has_after : (b : ℕ) → (x ≡ next_name me s → IsNowhere (object_before x nodes past)) → HasRun st b x past nodes made → MadeOf b x me s o.changes →
      HasRun st b x (past ++ e ∷ []) (put nodes me after) made
  has_after b fresh has new = record { says = says_after b has.says new; run = went.moves _ (views b x made) fresh has.run }

  -- ## one more event

  abbrev own : NodeState
  own = after_changes s o.changes

  leads : after.state ≡ with_step (after_changes own (flat_map sent_changes (letters_of e.stamp s o)))
  leads = step.state ∙ ap with_step (after_append s o.changes (flat_map sent_changes (letters_of e.stamp s o)))

  left : IsLeft own (after_changes own (flat_map sent_changes (letters_of e.stamp s o)))
  left = letters_left (letters_of e.stamp s o) own

  made_is : after.state.made ≡ own.made
  made_is = ap (λ (t : NodeState). t.made) leads ∙ left.made

  -- what the node has of x after the event
  shares : seen_known (after.state.known x) ≡ shares_after x (seen_known (s.known x)) o.changes
  shares = ap (λ (t : NodeState). seen_known (t.known x)) leads ∙ (λ i. seen_known (left.known i x)) ∙ shares_changed x o.changes s

  -- what is nowhere after the event wasn't made by it
  none_made : (b : ℕ) → IsNowhere (object_after x nodes past e after) → MadeOf b x me s o.changes
  none_made b nowhere k rest is new = absurd ((subst (Each (Spares x)) is (all_spared x o.changes (seen_known (s.known x)) gone).1).0 new)
    where
      gone : shares_after x (seen_known (s.known x)) o.changes ≡ None
      gone = sym shares ∙ sym (λ i. seen_known ((cond (eqb_of {a = me} {b = me} refl i) after (nodes me)).state.known x)) ∙ nowhere.unknown me

  counted_after : IsCounted st (world_of nodes past) x → IsCounted st (world_of (put nodes me after) (past ++ e ∷ [])) x
  counted_after counted = record {
    by_a_node = counted.by_a_node;
    from_one = counted.from_one;
    made = by (me == maker x) (eqb_is me (maker x)) counted.made;
  }
    where
      by : (t : Bool) → (t ≡ true → me ≡ maker x) → count_of x ≤ (nodes (maker x)).state.made → count_of x ≤ (cond t after (nodes (maker x))).state.made
      by true q few =
          let same : s.made ≡ (nodes (maker x)).state.made = ap (λ (k : ℕ). (nodes k).state.made) (q refl) in
          omega (arith, few, same, made_is, went.at_least)
      by false q few = few

  kept_after : Kept st x past nodes made → Kept st x (past ++ e ∷ []) (put nodes me after) made
  kept_after (Somewhere counted b has) =
      let none : x ≡ next_name me s → ⊥ = λ new. new_name st x me past nodes sure.few new counted in
      Somewhere (counted_after counted) b (has_after b (λ new. absurd (none new)) has (λ k rest is new. absurd (none (sym new))))
  kept_after (Nowhere nowhere all) = by went.happened
    where
      by : Happened x me s own (object_before x nodes past) (object_after x nodes past e after) → Kept st x (past ++ e ∷ []) (put nodes me after) made
      by (Calmly calm) =
          let still : IsNowhere (object_after x nodes past e after) = nowhere_calm (object_before x nodes past) (object_after x nodes past e after) calm nowhere in
          Nowhere still (λ b. has_after b (λ new. nowhere) (all b) (none_made b still))
      by (Made new one is) =
          Somewhere (record { by_a_node = subst (λ (z : ℕ). z < st.nodes) (sym by_me) real; from_one = omega (arith, number); made = counts })
          (first_bunch o.changes) (has_after (first_bunch o.changes) (λ named. nowhere) (all (first_bunch o.changes)) (λ k rest is named. sym (ap first_bunch is)))
        where
          by_me : maker x ≡ me
          by_me = maker_next x me s sure.few new

          number : count_of x ≡ s.made + 1
          number = count_next x me s sure.few new

          counts : count_of x ≤ (put nodes me after (maker x)).state.made
          counts = subst (λ (z : ℕ). count_of x ≤ (put nodes me after z).state.made) (sym by_me)
              (subst (λ (t : Bool). count_of x ≤ (cond t after (nodes me)).state.made) (sym (eqb_of {a = me} refl)) (omega (arith, number, made_is, one)))

  pub came_plainly : Came st x (past ++ e ∷ []) (put nodes me after) made
  came_plainly = record {
    channels = channels_more past nodes e after (record {
      counts = s.issued;
      stamp = e.stamp;
      drafts = o.drafts;
      letters = ap (λ (d : Done). d.letters) step.outcome;
      from_past = λ m. issued_is st x past nodes made came me m;
    }) (subst (Now past e s.taken) (sym taken_is) went.now) came.channels;
    kept = kept_after came.kept;
  }
    where
      taken_is : after.state.taken ≡ own.taken
      taken_is = ap (λ (t : NodeState). t.taken) leads ∙ left.taken
