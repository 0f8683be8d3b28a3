-- What is kept along a legal history: a ledger to which all belongs, and that no letter was stray.
use Rattle.bmx_store_laws.proofs.Words.{◌≡◌, ℕ, refl, ap, sym, subst, ◌∙◌, Bool, true, false, cond, List, [], ◌∷◌, map, ◌<◌, arith, drop, length, suc, inl, inr, ◌+◌, ◌≤◌, ◌++◌, ◌≢◌, ◌^◌, length-append, nat_tests, length-map, length-replicate, sum_by-append}
use Rattle.bmx_store_laws.proofs.Words.{flat_map, option_map, option_map_or, Option, Some, None, is_some, unwrap_or, slice_get, ◌==◌, ◌&&◌, not, ◌||◌, nat_le, count_by, filter, IsOpening, bunches_of, put, maker, count_of, Info, Place, Command, Write, Field}
use Rattle.bmx_store_laws.proofs.Words.{Letter, Msg, ReadGrant, WriteGrant, Note, Grants, Serves, note_transition, Owner, IsShared, shared_run, IsSoundIf, put_same, put_apart, some_same, none_some, eqb_of, Every, at_each, every_append, after_append, Each, each_append}
use Rattle.bmx_store_laws.proofs.Words.{after_changes, with_step, Change, Hears, after_change, in_flight, taken, issued, arrived, IsNext, IsInputOf, Fits, AreAfter, IsLegal, Setting, NodeState, Known, share_of, Places, with_all_learnt}
use Rattle.bmx_store_laws.proofs.Words.{has_room, with_made, Draft, Reaction, next_name, new_object, only, name_in, note_in, copy_after, took, heard_field, infos, known_change, Node, command_in, rule, letters_of, sent_changes, closed, IsStep, is_taken}
use Rattle.bmx_store_laws.proofs.Words.{finds_full, letter_in, nowhere, changes_of, is_nil, made_places, MovesTo, some_clash, world_of, World, Event, Input, Do, Serve, Take, NodeAnswer, ViewField, slice_drop, put_each, heard_each, every_map, step_state}
use Rattle.bmx_store_laws.proofs.Words.{step_letters, step_answer, taking_each, numbered_each, GrantsNothing, note_grants, each_name, Came, came_after, maker_is, count_is, FreeOf, seen_known, seen, first_world}
use Rattle.bmx_store_laws.proofs.Words.command
use Rattle.bmx_store_laws.proofs.Words.answer
use Rattle.bmx_store_laws.proofs.Words.field
use Rattle.bmx_places.specs.Ledger.{Block, AreBlocks, block_of, LiesIn}
use Rattle.bmx_places.proofs.Blocks.{Grows, IsMade, IsTold, keeps_grown, object_made, same_shape, blocks_later, hears_all, Keeps}
use Rattle.bmx_places.proofs.Next.{IssuesRight, IsIssued, next_is_takeable, Goes, IsTakeable, EachIssued}
use Rattle.bmx_places.proofs.Outcomes.{serve_not_stray, Belongs, IsRight, silent_drafts, Comes, Plainly, changes_kept, IsPlain, act_plain, known_plain, making, IsDraft, AllOf, never_stray, New, command_comes, IsKnown, Plain, sent_plain}

-- ## how many events there are

abbrev pub steps_of : ℕ → List Event → ℕ
steps_of n past = count_by (λ f. f.node == n) past

steps_more : (n : ℕ) (past : List Event) (e : Event) → steps_of n (past ++ e ∷ []) ≡ steps_of n past + (0 + cond (e.node == n) 1 0)
steps_more n past e = sum_by-append (λ (f : Event). cond (f.node == n) 1 0) past (e ∷ [])

-- the events of the nodes that there may be
abbrev total : List Event → ℕ
total past = steps_of 0 past + steps_of 1 past + steps_of 2 past + steps_of 3 past + steps_of 4 past + steps_of 5 past + steps_of 6 past + steps_of 7 past

one_of : (n : ℕ) → n < 8 → cond {A = ℕ} (n == 0) 1 0 + cond (n == 1) 1 0 + cond (n == 2) 1 0 + cond (n == 3) 1 0 + cond (n == 4) 1 0 + cond (n == 5) 1 0 + cond (n == 6) 1 0 + cond (n == 7) 1 0 ≡ 1
one_of n few = grind (arith, nat_tests)

few_more : (n me a b : ℕ) → b ≡ a + (0 + cond (me == n) 1 0) → (me ≡ n → a + 1 < 2 ^ 55) → a ≤ 2 ^ 55 → b ≤ 2 ^ 55
few_more n me a b is few old = grind (arith, nat_tests)

-- where it isn't full for want of room, not all was made
below_limit : (limit made : ℕ) (room : Bool) → (nat_le limit made && not room) ≡ false → room ≡ false → made < limit
below_limit limit made room told none = grind (arith, nat_tests)

-- ## what is kept

abbrev pub NotStray : NodeAnswer → Type 0
NotStray a = a ≢ answer.Stray

-- what a node knows, its places and its records are of blocks
pub record IsOfBlocks (blocks : ℕ → Option Block) (n : Node) : Type 0 where
  pub keeps : Keeps blocks n.state.known n.places
  pub records : AllOf blocks n.state.entering

pub record Kept (st : Setting) (past : List Event) (nodes : ℕ → Node) : Type 0 where
  pub blocks : ℕ → Option Block
  pub are : AreBlocks st (world_of nodes past) blocks
  -- nothing has moved yet
  pub still : (a : ℕ) (b : Block) → blocks a ≡ Some b → b.moves ≡ 0
  pub each : (n : ℕ) → IsOfBlocks blocks (nodes n)
  pub letters : EachIssued blocks past
  -- no letter was stray
  pub answers : Every (λ (e : Event). NotStray e.done.answer) past
  pub few : (n : ℕ) → steps_of n past ≤ 2 ^ 55
  pub all : length past ≡ total past

-- ## one more event

issued_grown : (blocks more : ℕ → Option Block) → Grows blocks more → (past : List Event) → EachIssued blocks past → EachIssued more past
issued_grown blocks more grows = every_map (IssuesRight blocks) (IssuesRight more) (λ e.
    every_map (Goes blocks) (Goes more) (λ l h. record { right = record { told = every_map (IsTold blocks) (IsTold more) (λ info. grows info.place.address (block_of info)) (infos l.letter.msg) h.right.told; full = h.right.full }; stamp = h.stamp }) e.done.letters)

node_grown : (blocks more : ℕ → Option Block) → Grows blocks more → (n : Node) → IsOfBlocks blocks n → IsOfBlocks more n
node_grown blocks more grows n of = record {
  keeps = keeps_grown blocks more grows n.state.known n.places of.keeps;
  records = λ x m r e. (let is = of.records x m r e in record { address = is.address; block = is.block; there = grows is.address is.block is.there; named = is.named; of = is.of });
}

-- changes only add to the names made
made_more : (changes : List Change) (s : NodeState) → s.made ≤ (after_changes s changes).made
made_more [] s = omega arith
made_more (c ∷ changes) s = (let one : s.made ≤ (after_change s c).made = grind arith in omega (arith, one, made_more changes (after_change s c)))

-- hearing of objects writes no record, and what was known stays
hears : (from : ℕ) (more : List Info) (s : NodeState) →
    ((after_changes s (map (Hears from) more)).entering ≡ s.entering) × ((x : ℕ) (k : Known) → s.known x ≡ Some k → (after_changes s (map (Hears from) more)).known x ≡ Some k)
hears from [] s = (refl, λ x k e. e)
hears from (info ∷ more) s =
    let rest = hears from more (after_change s (Hears from info)) in
    (rest.0, λ x k e. rest.1 x k (heard_each (λ y j. s.known y ≡ Some k → j ≡ Some k) from s.known info (λ none h. none_some (sym none ∙ h)) (λ y h. h) x e))

-- without stray letters those that came were taken
all_taken : (past : List Event) → Every (λ (e : Event). NotStray e.done.answer) past → filter (λ (e : Event). is_taken e.done.answer) past ≡ past
all_taken [] h = refl
all_taken (e ∷ past) h = (let taken : is_taken e.done.answer ≡ true = grind (arith, h.0) in rw taken (ap (λ (l : List Event). e ∷ l) (all_taken past h.1)))

module _ (st : Setting) (past : List Event) (nodes : ℕ → Node) (e : Event) (after : Node) (opening : IsOpening st.nodes st.limit st.births) (legal : IsLegal st past)
    (reached : AreAfter st past nodes) (step : IsStep st e.node (nodes e.node) e.stamp e.input e.done after) (fits : Fits st past e) (kept : Kept st past nodes) where
  abbrev me : ℕ
  me = e.node

  abbrev here : Node
  here = nodes me

  abbrev s : NodeState
  s = here.state

  abbrev w : World
  w = world_of nodes past

  abbrev v : World
  v = world_of (put nodes me after) (past ++ e ∷ [])

  came : (x : ℕ) → Came st x (seen x (first_world st)) past nodes
  came x = came_after st past nodes opening legal reached x

  -- what comes of the node, once it is shown to belong
  kept_again : (more : ℕ → Option Block) → Grows kept.blocks more → AreBlocks st v more → ((a : ℕ) (b : Block) → more a ≡ Some b → b.moves ≡ 0) → IsOfBlocks more after → IssuesRight more e →
      NotStray e.done.answer → Kept st (past ++ e ∷ []) (put nodes me after)
  kept_again more grows are still of letters answer = record {
    blocks = more;
    are = are;
    still = still;
    each = λ n. at_each (IsOfBlocks more) nodes me after of n (node_grown kept.blocks more grows (nodes n) (kept.each n));
    letters = every_append (IssuesRight more) past (e ∷ []) (issued_grown kept.blocks more grows past kept.letters) (letters, tt);
    answers = every_append (λ (f : Event). NotStray f.done.answer) past (e ∷ []) kept.answers (answer, tt);
    few = λ n. few_more n me (steps_of n past) (steps_of n (past ++ e ∷ [])) (steps_more n past e) (λ q. subst (λ (k : ℕ). steps_of k past + 1 < 2 ^ 55) q fits.few) (kept.few n);
    all = omega (arith, length-append past (e ∷ []), kept.all, one_of me (omega (arith, fits.a_node, opening.few_nodes)), steps_more);
  }

  -- ## the node's step

  module _ (o : Reaction) (is : o ≡ rule st me s step.told e.input) where
    made_later : (n : ℕ) → (w.state n).made ≤ (v.state n).made
    made_later = put_each (λ j z. (nodes j).state.made ≤ z.state.made) nodes me after
        (omega (arith, made_more (changes_of e.stamp s o) s, ap (λ (t : NodeState). t.made) (step_state step o is))) (λ j _. omega arith)

    -- after changes that begin with hearing of objects, and then are plain
    plainly : (a : Places) → after.places ≡ a → ((n : ℕ) → a.handed n ≡ here.places.handed n) → (t : NodeState) (rest : List Change) → after_changes s o.changes ≡ after_changes t rest →
        Each (Plain t.known) rest → Keeps kept.blocks t.known a → t.entering ≡ s.entering → Every (IsDraft kept.blocks t.known) o.drafts → NotStray o.answer → Kept st (past ++ e ∷ []) (put nodes me after)
    plainly a places handed t rest goes plain keeps entering drafts right =
        let sent : List Change = flat_map sent_changes (letters_of e.stamp s o) in
        let leads : after.state ≡ with_step (after_changes t (rest ++ sent)) =
        step_state step o is ∙ ap with_step (after_append s o.changes sent ∙ ap (λ (u : NodeState). after_changes u sent) goes ∙ sym (after_append t rest sent)) in
        let belongs : Belongs kept.blocks a t.known (after_changes t (rest ++ sent)) =
        changes_kept kept.blocks a t.known (rest ++ sent) (each_append (Plain t.known) rest sent plain (sent_plain kept.blocks t.known o.drafts s.issued e.stamp drafts)) t
        (record { keeps = keeps; records = rw entering (kept.each me).records; shapes = λ x. refl }) in
        let small : e.stamp < 2 ^ 62 = omega (arith, kept.all, fits.early, kept.few) in
        kept_again kept.blocks (λ x b h. h)
        (blocks_later st w v kept.blocks (record {
          handed = λ n k. put_each (λ j z. (nodes j).places.handed k ≤ z.places.handed k) nodes me after (omega (arith, handed k, ap (λ (p : Places). p.handed k) places)) (λ j _. omega arith) n;
          made = made_later;
        }) kept.are)
        kept.still (record { keeps = rw (places, leads) belongs.keeps; records = rw leads belongs.records })
        (subst (Every (Goes kept.blocks)) (sym (step_letters step o is)) (numbered_each (IsIssued kept.blocks) e.stamp o.drafts s.issued
        (every_map (IsDraft kept.blocks t.known) (λ (d : Draft). (seq : ℕ) → IsIssued kept.blocks (record { seq = seq; stamp = e.stamp; msg = d.msg })) (λ d draft seq. record { right = draft.right; stamp = small }) o.drafts drafts)))
        (λ stray. right (sym (step_answer step o is) ∙ stray))

    -- plain changes alone
    stays : IsPlain kept.blocks s.known o → NotStray o.answer → after.places ≡ here.places → Kept st (past ++ e ∷ []) (put nodes me after)
    stays p right places = plainly here.places places (λ n. refl) s o.changes refl p.changes (kept.each me).keeps refl p.drafts right

  -- ## what rules are told

  lies_at : (x : ℕ) (p : Place) → here.places.place x ≡ Some p → step.told.lies x ≡ p
  lies_at x p is = step.is_told.lies x ∙ (λ i. unwrap_or (is i) nowhere)

  aware : (x : ℕ) → s.known x ≡ None → FreeOf x s.known
  aware x none = ((came x).aware me fits.a_node (ap seen_known none)).0.fields

  owners : (x : ℕ) (k : Known) → s.known x ≡ Some k → k.part.role ≡ Owner → is_some k.copy ≡ true
  owners x k is owns = (subst IsSoundIf (ap seen_known is) ((each_name IsShared shared_run st past nodes opening legal reached x).sound me)).owner_has owns

  -- ## a new object

  new_kept : (register bunch size : ℕ) → e.input ≡ Do (command.New register bunch size) → step.told.full ≡ false → making me s register bunch size ≡ rule st me s step.told e.input →
      Kept st (past ++ e ∷ []) (put nodes me after)
  new_kept register bunch size is full rules =
      kept_again m.more m.grows m.are (λ c b there. elim (m.new_or_old c b there) [ inl new ↦ new.1 | inr old ↦ kept.still c b old ])
      (subst (IsOfBlocks m.more) (λ i. record { state = sym state i; places = sym places i }) (record { keeps = m.keeps; records = (node_grown kept.blocks m.more m.grows here (kept.each me)).records }))
      (subst (Every (Goes m.more)) (sym (step_letters step (making me s register bunch size) rules)) tt)
      (λ stray. (let both : answer.Nil ≡ answer.Stray = sym (step_answer step (making me s register bunch size) rules) ∙ stray in cc))
    where
      x : ℕ
      x = next_name me s

      asked : (register < 16) × (bunch < bunches_of st.births) × (size ≤ 32)
      asked = subst (IsInputOf st) is fits.an_input

      places : after.places ≡ with_made me here.places x bunch size
      places = subst (λ (i : Input). MovesTo me here step.told i e.done.answer after.places) is step.places
          ∙ ap (λ (y : NodeAnswer). cond (is_nil y) (with_made me here.places x bunch size) here.places) (step_answer step (making me s register bunch size) rules)

      state : after.state ≡ closed e.stamp s (making me s register bunch size)
      state = step_state step (making me s register bunch size) rules

      m : IsMade st w v kept.blocks s.known (with_made me here.places x bunch size) x (new_object bunch size)
      m =
          let enough : s.made + 1 < 2 ^ 56 = (let some : s.made ≤ 320000 + steps_of me past = (came x).few me in omega (arith, some, fits.few)) in
          let by_me : maker x ≡ me = maker_is me (s.made + 1) enough in
          let number : count_of x ≡ s.made + 1 = count_is me (s.made + 1) enough in
          let now : (put nodes me after (maker x)).state.made ≡ s.made + 1 =
          ap (λ (z : Node). z.state.made) (λ i. cond (eqb_of (sym by_me) i) after (nodes (maker x))) ∙ ap (λ (t : NodeState). t.made) state in
          let told : (nat_le st.limit here.places.made && not (has_room here.places (here.places.opened bunch) (4 + size))) ≡ false =
          sym (step.is_told.full ∙ ap (λ (i : Input). option_map_or (finds_full st here.places) (command_in i) false) is) ∙ full in
          object_made st w v kept.blocks kept.are me s.known x (new_object bunch size) (kept.each me).keeps (λ fields c. ap length (sym (some_same c)) ∙ length-replicate size field.Null) asked.2 asked.1
          fits.a_node (record { by_a_node = omega (arith, by_me, fits.a_node); from_one = omega (arith, number); made = omega (arith, now, number) })
          (λ c b there named. (let old : count_of b.name ≤ (nodes (maker b.name)).state.made = (kept.are.each c b there).counted.made in
          let same : (nodes (maker b.name)).state.made ≡ s.made = ap (λ (z : ℕ). (nodes z).state.made) (ap maker named ∙ by_me) in absurd (omega (arith, ap count_of named, number, old, same))))
          (made_later (making me s register bunch size) rules) (λ n apart. ap (λ (z : Node). z.places.handed) (put_apart nodes me n after apart))
          (λ none. (let less : here.places.made < st.limit = below_limit st.limit here.places.made _ told none in omega (arith, less, opening.few_segments)))
          (ap (λ (z : Node). z.places.handed) (put_same nodes me after) ∙ ap (λ (p : Places). p.handed) places)

  -- ## a command

  by_command : (c : Command) → e.input ≡ Do c → Comes kept.blocks me s step.told.full c (rule st me s step.told (Do c)) → Kept st (past ++ e ∷ []) (put nodes me after)
  by_command c is (New register bunch size same full makes) =
      new_kept register bunch size (is ∙ ap (λ (d : Command). Do d) same) full (sym makes ∙ ap (rule st me s step.told) (sym is))
  by_command c is (Plainly p none) = stays (rule st me s step.told (Do c)) ruled p (never_stray me s step.told.full step.told.lies c)
      (subst (λ (i : Input). MovesTo me here step.told i e.done.answer after.places) is step.places
      ∙ ap (λ (y : NodeAnswer). cond (is_nil y) (made_places me here c) here.places) (step_answer step (rule st me s step.told (Do c)) ruled) ∙ none here)
    where
      ruled : rule st me s step.told (Do c) ≡ rule st me s step.told e.input
      ruled = ap (rule st me s step.told) (sym is)

  -- ## a letter

  module _ (from : ℕ) (l : Letter) (is : e.input ≡ Take from l) where
    abbrev m : Msg
    m = l.msg

    first : in_flight from me past ≡ l ∷ drop (suc (length (taken from me past))) (issued from me past)
    first = slice_drop (issued from me past) (length (taken from me past)) l
        (subst (λ (p : List Event). slice_get (issued from me past) (length (arrived from me p)) ≡ Some l) (sym (all_taken past kept.answers)) (subst (IsNext past me) is fits.next))

    takeable : IsTakeable st kept.blocks me from here l
    takeable = next_is_takeable st past nodes opening legal reached kept.blocks kept.are kept.still me from (kept.each me).keeps kept.letters l _ first fits.a_node (subst (IsInputOf st) is fits.an_input)

    abbrev o : Reaction
    o = took s step.told.lies from l.seq m (s.known (name_in m)) (Some takeable.turn)

    takes : o ≡ rule st me s step.told e.input
    takes =
        let calm : step.told.clash ≡ false = step.is_told.clash ∙ ap (λ (i : Input). option_map_or (λ (y : ℕ × Letter). some_clash me y.0 s.known here.places (infos y.1.msg)) (letter_in i) false) is ∙ takeable.calm in
        ap (took s step.told.lies from l.seq m (s.known (name_in m))) (sym takeable.turns)
        ∙ (λ i. cond (sym takeable.good i || sym calm i) (only answer.Stray) (took s step.told.lies from l.seq m (s.known (name_in m)) (note_transition me from (note_in m) (option_map share_of (s.known (name_in m))))))
        ∙ ap (rule st me s step.told) (sym is)

    -- once its Infos were heard
    abbrev t : NodeState
    t = after_changes s (map (Hears from) (infos m))

    abbrev learnt : Places
    learnt = with_all_learnt here.places (infos m)

    heard : (some_clash me from s.known here.places (infos m) ≡ false) × Keeps kept.blocks t.known learnt × ((n : ℕ) → learnt.handed n ≡ here.places.handed n)
    heard = hears_all st w kept.blocks kept.are me from (infos m) s here.places takeable.issued.right.told (kept.each me).keeps (λ n. refl)

    -- the copy that it brings, or that there was, is whole
    brought : (info : Info) (told : List Field) → IsTold kept.blocks info → length told ≡ info.size → (k : Known) → s.known info.name ≡ Some k →
        (fields : List ViewField) → Some (map heard_field told) ≡ Some fields → length fields ≡ k.size
    brought info told of size k known fields e =
        let at : LiesIn kept.blocks (here.places.place info.name) info.name k = ((kept.each me).keeps.known info.name).lies k known in
        ap length (sym (some_same e)) ∙ length-map told heard_field ∙ size ∙ sym (same_shape st w kept.blocks kept.are me info of at.place k at.block).1

    copy_full : (m : Msg) → IsRight kept.blocks m → (k : Known) → s.known (name_in m) ≡ Some k → (fields : List ViewField) → copy_after m (Some k) ≡ Some fields → length fields ≡ k.size
    copy_full (ReadGrant info told) right k known fields c = brought info told right.told.0 (right.full (info, told) refl) k known fields c
    copy_full (WriteGrant info told) right k known fields c = brought info told right.told.0 (right.full (info, told) refl) k known fields c
    copy_full m right k known fields c = ((kept.each me).keeps.known (name_in m)).full k known fields c

    known_plainly : (k : Option Known) → s.known (name_in m) ≡ k → Each (Plain t.known) (known_change (name_in m) k (copy_after m k) takeable.turn.after)
    known_plainly None e = tt
    known_plainly (Some k) e = known_plain t.known (name_in m) k (copy_after m (Some k)) takeable.turn.after ((hears from (infos m) s).1 (name_in m) k e) (copy_full m takeable.issued.right k e)

    -- what is handed over is known
    handed_over : (n : Note) (k : Option Known) → s.known (name_in m) ≡ k → note_transition me from n (option_map share_of k) ≡ Some takeable.turn → n ≡ Grants Write → IsKnown t.known (name_in m)
    handed_over n None e turns is = none_some (sym (ap (λ (j : Note). note_transition me from j None) is) ∙ turns)
    handed_over n (Some k) e turns is = (k, (hears from (infos m) s).1 (name_in m) k e)

    drafts : Every (IsDraft kept.blocks t.known) o.drafts
    drafts = silent_drafts kept.blocks t.known s step.told.lies (name_in m) takeable.turn.sends
        (subst GrantsNothing takeable.turns (note_grants me from (note_in m) (option_map share_of (s.known (name_in m)))))

    take_kept : Kept st (past ++ e ∷ []) (put nodes me after)
    take_kept = plainly o takes learnt
        (subst (λ (i : Input). MovesTo me here step.told i e.done.answer after.places) is step.places ∙ ap (λ (y : NodeAnswer). cond (is_taken y) learnt here.places) (step_answer step o takes))
        heard.2
        t _ (after_append s (map (Hears from) (infos m)) _)
        (taking_each (Plain t.known) from l.seq (name_in m) (note_in m) _ (known_plainly (s.known (name_in m)) refl) (handed_over (note_in m) (s.known (name_in m)) refl takeable.turns) tt)
        heard.1 (hears from (infos m) s).0 drafts (λ h. cc)

  by_input : (i : Input) → e.input ≡ i → Kept st (past ++ e ∷ []) (put nodes me after)
  by_input (Do c) is = by_command c is (command_comes kept.blocks me s here.places step.told.full step.told.lies (kept.each me).keeps lies_at aware owners c)
  by_input (Serve name) is = stays (rule st me s step.told (Serve name)) (ap (rule st me s step.told) (sym is))
      (act_plain kept.blocks me s here.places step.told.full step.told.lies (kept.each me).keeps lies_at aware owners Serves answer.Idle name (s.known name) refl) (serve_not_stray me s step.told.lies name)
      (subst (λ (i : Input). MovesTo me here step.told i e.done.answer after.places) is step.places)
  by_input (Take from l) is = take_kept from l is

  pub one_more : Kept st (past ++ e ∷ []) (put nodes me after)
  one_more = by_input e.input refl
