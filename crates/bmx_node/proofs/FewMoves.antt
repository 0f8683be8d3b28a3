-- Objects have moved no more often than letters may tell.
use Rattle.std.proofs.Common.{◌≡◌, ℕ, ◌+◌, ◌^◌, max, ◌≤◌, ◌<◌, ◌||◌, ◌==◌, Bool, true, false, cond, List, [], ◌∷◌, Option, Some, None, unwrap_or, refl, sym, ◌∙◌, ap, subst, ⊎_elim, arith, filter, length}
use Rattle.std.specs.Prelude.{nat_lt, nat_le}
use Rattle.std.specs.List.{list_any}
use Rattle.std.proofs.lemmas.Bool.{cases_eq, false≢true, leb-false, ltb-true}
use Rattle.bmx_types.specs.Words.{home_of, address_word}
use Rattle.bmx_types.specs.Openings.{bunches_of}
use Rattle.bmx_types.specs.Updates.{put}
use Rattle.bmx_types.specs.declared.addresses.Place.{Place}
use Rattle.bmx_types.specs.declared.addresses.Info.{Info}
use Rattle.bmx_types.specs.declared.openings.Birth.{Birth}
use Rattle.bmx_types.specs.declared.commands.Command.{Command}
use Rattle.bmx_types.specs.declared.commands.Command.TheVariants as command
use Rattle.bmx_msg.specs.declared.letters.Letter.{Letter}
use Rattle.std.proofs.Math.Nat.{max-le}
use Rattle.bmx_protocol.specs.declared.inputs.Input.{Input}
use Rattle.bmx_protocol.specs.declared.inputs.Input.TheVariants as input
use Rattle.bmx_protocol.specs.declared.inputs.NodeAnswer.{NodeAnswer}
use Rattle.bmx_protocol.specs.declared.inputs.NodeAnswer.TheVariants as answer
use Rattle.bmx_protocol.specs.declared.inputs.Done.{Done}
use Rattle.bmx_protocol.specs.Nodes.{Setting, NodeState, is_anchor}
use Rattle.bmx_protocol.specs.Places.{Places, has_room, with_segment, with_room, with_object, with_placed, with_made, with_went, with_learnt, learn_at, with_all_learnt, no_places, with_births, by_bunch, owner_places, told_place, with_told, first_places}
use Rattle.bmx_protocol.specs.Rules.{Reaction, only, infos, take_rule, next_name}
use Rattle.bmx_protocol.specs.Strays.{too_large, is_no_node, is_no_name, is_bad_info, is_bad_letter}
use Rattle.bmx_protocol.specs.Steps.{Node, is_nil, is_taken, made_places, first_node, stamp_after, brought}
use Rattle.bmx_node.specs.declared.holdings.Holdings.{Holdings}
use Rattle.bmx_node.specs.Seen.{state_of, places_of, node_of, Suits}
use Rattle.bmx_node.specs.Moved.{MovedAtMost}
use Rattle.bmx_node.specs.Inside.Reacting.{IsReaction}
use Rattle.bmx_node.specs.Inside.Keeping.{Keeps, Frame}
use Rattle.bmx_node.proofs.Puts.{put_here, put_apart}
use Rattle.bmx_node.proofs.Hearing.{or_left, or_right}
use Rattle.bmx_node.proofs.Passed.{five, infos_none_bad}

module _ (top : ℕ) where
  -- an object lies somewhere
  few_object : (a : Places) (name size : ℕ) (place : Place) → place.moves ≤ top → MovedAtMost top a → MovedAtMost top (with_object a name size place)
  few_object a name size place low few x p is = ⊎_elim
      (λ (e : name ≡ x).
      let same : place ≡ p = ap (λ (o : Option Place). unwrap_or o place) (sym (put_here a.place name x (Some place) e) ∙ is) in
      subst (λ (q : Place). q.moves ≤ top) same low)
      (λ (ne : name ≡ x → ⊥). few x p (sym (put_apart a.place name x (Some place) ne) ∙ is))
      (cases_eq name x)

  -- one is made
  few_made : (me : ℕ) (a : Places) (name bunch size : ℕ) → MovedAtMost top a → MovedAtMost top (with_made me a name bunch size)
  few_made me a name bunch size few = placed (with_room me a bunch size) ((with_room me a bunch size).opened bunch) (roomy (has_room a (a.opened bunch) (4 + size)))
    where
      roomy : (b : Bool) → MovedAtMost top (cond b a (with_segment me a bunch))
      roomy true = few
      roomy false = few

      placed : (b : Places) (o : Option ℕ) → MovedAtMost top b → MovedAtMost top (with_placed me b name size o)
      placed b None still = still
      placed b (Some segment) still =
          few_object (record b { handed = put b.handed segment (b.handed segment + (4 + size)) }) name size (record { address = address_word me segment (b.handed segment); moves = 0 }) (omega arith) still

  -- a place is learnt
  few_learnt : (a : Places) (info : Info) → info.place.moves ≤ top → MovedAtMost top a → MovedAtMost top (with_learnt a info)
  few_learnt a info low few = by (a.place info.name)
    where
      by_test : (old : Place) (b : Bool) → MovedAtMost top (cond b (with_object (with_went a old.address info.place.address) info.name info.size info.place) a)
      by_test old true = few_object (with_went a old.address info.place.address) info.name info.size info.place low few
      by_test old false = few

      by : (o : Option Place) → MovedAtMost top (learn_at a info o)
      by None = few_object a info.name info.size info.place low few
      by (Some old) = by_test old (nat_lt old.moves info.place.moves)

  -- births are placed, and heard of
  few_births : (a : Places) (births : List Birth) → MovedAtMost top a → MovedAtMost top (with_births a births)
  few_births a [] few = few
  few_births a (b ∷ bs) few = few_births (with_made 0 a b.name b.bunch (length b.fields)) bs (few_made 0 a b.name b.bunch (length b.fields) few)

  few_told : (told a : Places) (births : List Birth) → MovedAtMost top told → MovedAtMost top a → MovedAtMost top (with_told told a births)
  few_told told a [] low few = few
  few_told told a (b ∷ bs) low few = few_told told (told_place a (told.place b.name) b) bs low (by (told.place b.name) refl)
    where
      by : (o : Option Place) → told.place b.name ≡ o → MovedAtMost top (told_place a o b)
      by None is = few
      by (Some place) is = few_object a b.name (length b.fields) place (low b.name place is) few

  few_none : MovedAtMost top no_places
  few_none name p is = absurd (none_some p is)
    where
      none_some : (q : Place) → None ≡ Some q → ⊥
      none_some q e = cc

  pub few_first : (st : Setting) (me : ℕ) → MovedAtMost top (first_places st me)
  few_first st me = by (me == 0) (nat_lt me st.nodes)
    where
      owned : MovedAtMost top (owner_places st)
      owned = few_births no_places (by_bunch st.births (bunches_of st.births)) few_none

      by : (b c : Bool) → MovedAtMost top (cond b (owner_places st) (cond c (with_told (owner_places st) no_places (filter (λ (x : Birth). is_anchor st x.name) st.births)) no_places))
      by true c = owned
      by false true = few_told (owner_places st) no_places (filter (λ (x : Birth). is_anchor st x.name) st.births) owned few_none
      by false false = few_none

  -- Infos that aren't bad are learnt
  module _ (large : too_large ≤ top) where
    few_all : (st : Setting) (me : ℕ) (s : NodeState) (a : Places) (told : List Info) → list_any (is_bad_info st me s) told ≡ false → MovedAtMost top a → MovedAtMost top (with_all_learnt a told)
    few_all st me s a [] good few = few
    few_all st me s a (info ∷ more) good few =
        let parts = five (is_no_name st me s info.name) (nat_le (bunches_of st.births) info.bunch) (is_no_node st (home_of info.place.address)) (nat_lt 32 info.size) (nat_le too_large info.place.moves)
        (or_left (is_bad_info st me s info) (list_any (is_bad_info st me s) more) good) in
        let below : info.place.moves < too_large = leb-false too_large info.place.moves parts.4 in
        few_all st me s (with_learnt a info) more (or_right (is_bad_info st me s info) (list_any (is_bad_info st me s) more) good) (few_learnt a info (omega (arith, below, large)) few)

    made_few : (me : ℕ) (n : Node) (c : Command) → MovedAtMost top n.places → MovedAtMost top (made_places me n c)
    made_few me n (command.New register bunch size) few = few_made me n.places (next_name me n.state) bunch size few
    made_few me n (command.Copy register value) few = few
    made_few me n (command.Drop register) few = few
    made_few me n (command.Read on) few = few
    made_few me n (command.Write on) few = few
    made_few me n (command.Done on) few = few
    made_few me n (command.Set on index value) few = few
    made_few me n (command.Add on index by) few = few
    made_few me n (command.Get register on index) few = few
    made_few me n (command.Show on index) few = few
    made_few me n (command.Same left right) few = few

    either : (b : Bool) (a c : Places) → MovedAtMost top a → MovedAtMost top c → MovedAtMost top (cond b a c)
    either true a c fa fc = fa
    either false a c fa fc = fc

    -- a reaction
    pub few_after : (st : Setting) (stamp : ℕ) (old new : Holdings) (i : Input) (done : Done) → IsReaction st stamp old i done new →
        MovedAtMost top (places_of old) → MovedAtMost top (places_of new)
    few_after st stamp old new (input.Do c) done r few =
        let n : Node = record { state = state_of old; places = places_of old } in
        subst (MovedAtMost top) (sym r.places) (either (is_nil done.answer) (made_places old.me n c) (places_of old) (made_few old.me n c few) few)
    few_after st stamp old new (input.Serve name) done r few = subst (MovedAtMost top) (sym r.places) few
    few_after st stamp old new (input.Take from letter) done r few =
        subst (MovedAtMost top) (sym r.places) (by (is_bad_letter st old.me (state_of old) from letter || r.told.clash) refl)
      where
        learnt : Bool → Places
        learnt b = cond b (with_all_learnt (places_of old) (infos letter.msg)) (places_of old)

        by : (b : Bool) → (is_bad_letter st old.me (state_of old) from letter || r.told.clash) ≡ b → MovedAtMost top (learnt (is_taken done.answer))
        by true stray =
            let is : done.answer ≡ answer.Stray =
            ap (λ (d : Done). d.answer) r.reacts.done
            ∙ ap (λ (b : Bool). (cond b (only answer.Stray) (take_rule old.me (state_of old) r.told.lies from letter.seq letter.msg)).answer) stray in
            subst (λ (a : NodeAnswer). MovedAtMost top (learnt (is_taken a))) (sym is) few
        by false fits =
            let good : is_bad_letter st old.me (state_of old) from letter ≡ false = or_left (is_bad_letter st old.me (state_of old) from letter) r.told.clash fits in
            either (is_taken done.answer) (with_all_learnt (places_of old) (infos letter.msg)) (places_of old)
            (few_all st old.me (state_of old) (places_of old) (infos letter.msg) (infos_none_bad st old.me (state_of old) from letter good) few) few

-- ## of holdings

-- where memory ended, nothing moved
pub still_few : (old new : Holdings) → node_of new ≡ node_of old → new.clock ≡ old.clock → MovedAtMost (2 ^ 62 + old.clock) (places_of old) →
    MovedAtMost (2 ^ 62 + new.clock) (places_of new)
still_few old new same clock few =
    let places : places_of new ≡ places_of old = ap (λ (n : Node). n.places) same in
    subst (λ (k : ℕ). MovedAtMost (2 ^ 62 + k) (places_of new)) (sym clock) (subst (MovedAtMost (2 ^ 62 + old.clock)) (sym places) few)

-- after a step that is counted
pub few_then : (st : Setting) (stamp : ℕ) (old new : Holdings) (i : Input) (done : Done) → IsReaction st stamp old i done new → new.clock ≡ old.clock →
    MovedAtMost (2 ^ 62 + old.clock) (places_of old) → MovedAtMost (2 ^ 62 + (new.clock + 1)) (places_of (record new { clock = new.clock + 1 }))
unfolding places_of
few_then st stamp old new i done r clock few name p is =
    let low : p.moves ≤ 2 ^ 62 + old.clock = few_after (2 ^ 62 + old.clock) (omega arith) st stamp old new i done r few name p is in
    omega (arith, low, clock)

-- as the store opens
pub few_opened : (st : Setting) (me : ℕ) (h : Holdings) → node_of h ≡ first_node st me → MovedAtMost (2 ^ 62 + h.clock) (places_of h)
few_opened st me h same = subst (MovedAtMost (2 ^ 62 + h.clock)) (sym (ap (λ (n : Node). n.places) same)) (few_first (2 ^ 62 + h.clock) st me)

-- ## what a node keeps after a step that is counted

brought_low : (i : Input) → brought i ≤ 2 ^ 62
brought_low (input.Do c) = omega arith
brought_low (input.Serve name) = omega arith
brought_low (input.Take from letter) = by (nat_lt letter.stamp too_large) refl
  where
    by : (b : Bool) → nat_lt letter.stamp too_large ≡ b → cond b letter.stamp 0 ≤ 2 ^ 62
    by true low = let below : letter.stamp < too_large = ltb-true letter.stamp too_large low in omega (arith, below)
    by false high = omega arith

stamp_low : (stamp clock : ℕ) (i : Input) → stamp ≤ 2 ^ 62 + clock → stamp_after stamp i ≤ 2 ^ 62 + (clock + 1)
stamp_low stamp clock i low =
    let small : brought i ≤ 2 ^ 62 = brought_low i in
    let both : max stamp (brought i) ≤ 2 ^ 62 + clock = max-le low (omega (arith, small)) in
    omega (arith, both)

pub then_keeps : (st : Setting) (old new : Holdings) (stamp risen : ℕ) (i : Input) (done : Done) → Suits st old → (Suits st old → IsReaction st risen old i done new) →
    risen ≡ stamp_after stamp i → stamp ≤ 2 ^ 62 + old.clock → Keeps new → Frame old new → MovedAtMost (2 ^ 62 + old.clock) (places_of old) →
    Keeps (record new { clock = new.clock + 1 }) × (new.made ≤ new.clock + 1 + 320000) × (risen ≤ 2 ^ 62 + (new.clock + 1)) × MovedAtMost (2 ^ 62 + (new.clock + 1)) (places_of (record new { clock = new.clock + 1 }))
then_keeps st old new stamp risen i done suits reacts rises low keeps frame few =
    let same : new.clock ≡ old.clock = frame.clock in
    let most : stamp_after stamp i ≤ 2 ^ 62 + (old.clock + 1) = stamp_low stamp old.clock i low in
    let made : new.made ≤ new.clock + 320001 = keeps.few in (
      record { me = keeps.me; tokens = keeps.tokens; few = omega (arith, made); agree = keeps.agree },
      omega (arith, made),
      omega (arith, most, rises, same),
      few_then st risen old new i done (reacts suits) same few,
    )
