-- Commands, serves and letters as reactions, and a reaction that is counted as a step.
use Rattle.bmx_node.proofs.Reactions.{reacts_only}
use Rattle.std.proofs.Common.{◌≡◌, ℕ, zero, suc, ◌+◌, ◌≤◌, ◌||◌, Bool, true, false, List, [], ◌∷◌, if◌then◌else◌, Result, Ok, Err, IfOk, refl, sym, ◌∙◌, ap, subst, arith}
use Rattle.bmx_types.specs.Openings.{bunches_of}
use Rattle.bmx_types.specs.declared.openings.Birth.{Birth}
use Rattle.bmx_types.specs.declared.commands.Command.{Command}
use Rattle.bmx_types.specs.declared.commands.Command.TheVariants as command
use Rattle.bmx_msg.specs.declared.letters.Letter.{Letter}
use Rattle.bmx_token.specs.Transitions.{Serves}
use Rattle.bmx_protocol.specs.declared.inputs.Input.{Input}
use Rattle.bmx_protocol.specs.declared.inputs.Input.TheVariants as input
use Rattle.bmx_protocol.specs.declared.inputs.NodeAnswer.TheVariants as answer
use Rattle.bmx_protocol.specs.declared.inputs.Done.{Done}
use Rattle.bmx_protocol.specs.Nodes.{Setting, NodeState}
use Rattle.bmx_protocol.specs.Places.{is_full}
use Rattle.bmx_protocol.specs.Changes.{with_step}
use Rattle.bmx_protocol.specs.Rules.{only, do_rule, take_rule, infos}
use Rattle.bmx_protocol.specs.Strays.{is_bad_letter, some_clash}
use Rattle.bmx_protocol.specs.Steps.{Node, IsStep, stamp_after, finds_full, is_nil, made_places}
use Rattle.bmx_memory.specs.Shown.{shown}
use Rattle.bmx_node.specs.declared.holdings.Holdings.{Holdings}
use Rattle.bmx_node.specs.declared.strays.Dimensions.{Dimensions}
use Rattle.bmx_node.specs.Seen.{state_of, places_of, limit_of, node_of, Suits}
use Rattle.bmx_node.specs.Stamped.{Stamped}
use Rattle.bmx_node.specs.Inside.Keeping.{Keeps, Frame}
use Rattle.bmx_node.specs.Inside.Reacting.{Reacts, Does, IsReaction, lies_at, lacks_room, operation_on}
use Rattle.bmx_node.specs.Inside.Taking.{Took}

-- ## stores

-- births with so many bunches
some_births : (n : ℕ) → (births : List Birth) × (bunches_of births ≡ n)
some_births zero = ([], refl)
some_births (suc k) = (record { name = 1; bunch = k; fields = [] } ∷ [], omega arith)

-- any holdings are those of a node of some store
pub some_setting : (h : Holdings) → (st : Setting) × Suits st h
unfolding limit_of
some_setting h =
    let born : (births : List Birth) × (bunches_of births ≡ h.store.bunches) = some_births h.store.bunches in
    (record { nodes = h.store.nodes; limit = limit_of h; births = born.0 }, record { nodes = refl; bunches = born.1; limit = refl })

-- ## inputs

-- holdings see whether there is room for a new object
pub room_is : (st : Setting) (h : Holdings) (c : Command) → Suits st h → lacks_room (shown h.memory) c ≡ finds_full st (places_of h) c
unfolding places_of limit_of
room_is st h (command.New register bunch size) suits = ap (λ (l : ℕ). is_full l (shown h.memory).places bunch size) (sym suits.limit)
room_is st h (command.Copy register value) suits = refl
room_is st h (command.Drop register) suits = refl
room_is st h (command.Read on) suits = refl
room_is st h (command.Write on) suits = refl
room_is st h (command.Done on) suits = refl
room_is st h (command.Set on index value) suits = refl
room_is st h (command.Add on index by) suits = refl
room_is st h (command.Get register on index) suits = refl
room_is st h (command.Show on index) suits = refl
room_is st h (command.Same left right) suits = refl

-- a command
pub command_reacts : (st : Setting) (stamp : ℕ) (old new : Holdings) (c : Command) (done : Done) → Suits st old →
    Reacts stamp (state_of old) (do_rule old.me (state_of old) (lacks_room (shown old.memory) c) (lies_at old) c) done (state_of new) →
    places_of new ≡ (if is_nil done.answer then made_places old.me (node_of old) c else places_of old) →
    IsReaction st stamp old (input.Do c) done new
command_reacts st stamp old new c done suits reacts places = record {
  told = record { full = lacks_room (shown old.memory) c; clash = false; lies = lies_at old };
  is_told = record { full = room_is st old c suits; clash = refl; lies = λ name. refl };
  reacts = reacts;
  places = places;
}

-- a serve
pub serve_reacts : (st : Setting) (stamp : ℕ) (old new : Holdings) (name : ℕ) (done : Done) →
    Does stamp old (operation_on old Serves answer.Idle name) done new → IsReaction st stamp old (input.Serve name) done new
serve_reacts st stamp old new name done does = record {
  told = record { full = false; clash = false; lies = lies_at old };
  is_told = record { full = refl; clash = refl; lies = λ name. refl };
  reacts = does.reacts;
  places = does.places;
}

pub both : {T E : Type 0} (r : Result T E) (P Q R : T → Type 0) → ((x : T) → P x → Q x → R x) → IfOk r P → IfOk r Q → IfOk r R
both (Ok x) P Q R joins p q = joins x p q
both (Err e) P Q R joins p q = tt

-- whether a letter is stray
abbrev is_stray : Setting → Holdings → ℕ → Letter → Bool
is_stray st h from letter =
    is_bad_letter st h.me (state_of h) from letter || some_clash h.me from (state_of h).known (places_of h) (infos letter.msg)

-- a letter that is stray changes nothing
pub stray_reacts : (st : Setting) (stamp : ℕ) (h : Holdings) (from : ℕ) (letter : Letter) → is_stray st h from letter ≡ true →
    IsReaction st stamp h (input.Take from letter) (record { answer = answer.Stray; letters = [] }) h
stray_reacts st stamp h from letter stray =
    let s : NodeState = state_of h in
    record {
      told = record { full = false; clash = some_clash h.me from s.known (places_of h) (infos letter.msg); lies = lies_at h };
      is_told = record { full = refl; clash = refl; lies = λ name. refl };
      reacts = subst (λ (b : Bool). Reacts stamp s (if b then only answer.Stray else take_rule h.me s (lies_at h) from letter.seq letter.msg) (record { answer = answer.Stray; letters = [] }) s)
          (sym stray) (reacts_only stamp s answer.Stray);
      places = refl;
    }

-- one that isn't is taken in
pub take_reacts : (st : Setting) (stamp : ℕ) (old new : Holdings) (from : ℕ) (letter : Letter) (done : Done) → is_stray st old from letter ≡ false →
    Took stamp old from letter.seq letter.msg done new → IsReaction st stamp old (input.Take from letter) done new
take_reacts st stamp old new from letter done fits took =
    let s : NodeState = state_of old in
    record {
      told = record { full = false; clash = some_clash old.me from s.known (places_of old) (infos letter.msg); lies = lies_at old };
      is_told = record { full = refl; clash = refl; lies = λ name. refl };
      reacts = subst (λ (b : Bool). Reacts stamp s (if b then only answer.Stray else take_rule old.me s (lies_at old) from letter.seq letter.msg) done (state_of new))
          (sym fits) took.reacts;
      places = took.places;
    }

-- ## the step

-- a reaction that is counted
pub counted_step : (st : Setting) (stamp : ℕ) (old new : Holdings) (i : Input) (done : Done) (clock : ℕ) → clock ≡ new.clock + 1 →
    IsReaction st stamp old i done new → IsStep st old.me (node_of old) stamp i done (node_of (record new { clock = clock }))
unfolding state_of places_of
counted_step st stamp old new i done clock counts r = record {
  told = r.told;
  is_told = r.is_told;
  outcome = r.reacts.done;
  state = ap (λ (k : ℕ). record (state_of new) { clock = k }) counts ∙ ap with_step r.reacts.state;
  places = r.places;
}

-- holdings of the same store, with the same limit, suit what the others suited
pub suits_still : (st : Setting) (old new : Holdings) → Suits st old → Frame old new → Suits st new
suits_still st old new suits frame = record {
  nodes = suits.nodes ∙ sym (ap (λ (d : Dimensions). d.nodes) frame.store);
  bunches = suits.bunches ∙ sym (ap (λ (d : Dimensions). d.bunches) frame.store);
  limit = suits.limit ∙ sym frame.limit;
}

pub suits_counted : (st : Setting) (h : Holdings) (clock : ℕ) → Suits st h → Suits st (record h { clock = clock })
unfolding limit_of
suits_counted st h clock suits = record { nodes = suits.nodes; bunches = suits.bunches; limit = suits.limit }

-- the same of what contracts see of a node, whose step is counted
module _ (st : Setting) (h new : Holdings) (v : Stamped) (stamp : ℕ) (view_is : record { holdings = h; stamp = stamp } ≡ v) where
  pub step_is : (i : Input) (done : Done) (risen : ℕ) → risen ≡ stamp_after stamp i → (Suits st h → IsReaction st risen h i done new) → Suits st v.holdings →
      IsStep st v.holdings.me (node_of v.holdings) (stamp_after v.stamp i) i done (node_of (record new { clock = new.clock + 1 }))
  step_is i done risen rises reacts =
      subst (λ (w : Stamped). Suits st w.holdings → IsStep st w.holdings.me (node_of w.holdings) (stamp_after w.stamp i) i done (node_of (record new { clock = new.clock + 1 }))) view_is
      (λ suits. subst (λ (k : ℕ). IsStep st h.me (node_of h) k i done (node_of (record new { clock = new.clock + 1 }))) rises
      (counted_step st risen h new i done (new.clock + 1) refl (reacts suits)))

  pub step_suits : Frame h new → Suits st v.holdings → Suits st (record new { clock = new.clock + 1 })
  step_suits frame =
      subst (λ (w : Stamped). Suits st w.holdings → Suits st (record new { clock = new.clock + 1 })) view_is
      (λ suits. suits_counted st new (new.clock + 1) (suits_still st h new suits frame))

-- where memory ended, a node keeps what it kept
pub still_keeps : (old new : Holdings) (stamp top : ℕ) → old.made ≤ old.clock + 320000 → stamp ≤ top + old.clock → node_of new ≡ node_of old → Keeps new → Frame old new →
    Keeps new × (new.made ≤ new.clock + 320000) × (stamp ≤ top + new.clock)
unfolding state_of
still_keeps old new stamp top few low same keeps frame =
    let made : new.made ≡ old.made = ap (λ (n : Node). n.state.made) same in
    let clock : new.clock ≡ old.clock = frame.clock in
    (keeps, omega (arith, made, clock, few), omega (arith, clock, low))
