-- What a runner's nodes may do next, and which choice stands at a place.
use Rattle.std.proofs.Common.{◌≡◌, ℕ, zero, suc, ◌+◌, ◌<◌, ◌≤◌, arith, refl, ap, sym, ◌∙◌, subst, Bool, true, false, cond, List, [], ◌∷◌, ◌++◌, length, map, filter, Option, Some, None}
use Rattle.std.specs.Prelude.{◌==◌, slice_get, get_or, Contains, is_some}
use Rattle.std.specs.Option.{option_map, option_map_or}
use Rattle.std.proofs.lemmas.List.{length-append, length-map, append_assoc}
use Rattle.std.proofs.lemmas.Option.{slice_get-map, slice_get_read, slice_get_within}
use Rattle.std.proofs.lemmas.Bool.{false≢true}
use mir.Val.{bool_byte}
use Rattle.bmx_types.specs.declared.commands.Operand.{Operand}
use Rattle.bmx_types.specs.declared.commands.Command.{Command}
use Rattle.bmx_types.specs.declared.commands.Command.TheVariants as command
use Rattle.bmx_types.specs.Openings.{bunches_of}
use Rattle.bmx_graph.specs.Step.{target_of}
use Rattle.bmx_msg.specs.declared.letters.Letter.{Letter}
use Rattle.bmx_protocol.specs.declared.events.Event.{Event}
use Rattle.bmx_protocol.specs.Nodes.{NodeState, AreAll, seen_graph}
use Rattle.bmx_protocol.specs.Steps.{Node, first_node}
use Rattle.bmx_protocol.specs.Histories.{in_flight, waits_with}
use Rattle.bmx_protocol.specs.Runs.Programs.{Order, program_in, completed, CanServe}
use Rattle.bmx_protocol.specs.Runs.Turns.{Action, TriesCommand, ServesName, TakesLetter, actions, command_action, letter_action, letter_actions, is_ready, ready_at, wanted_by}
use Rattle.bmx_protocol.proofs.Basics.{Two, Same, Apart, two, eqb_is, some_same, none_some}
use Rattle.bmx_node.specs.Stamped.{Stamped}
use Rattle.bmx_node.specs.Seen.{node_of, state_of, FitsOperand, FitsCommand}
use Rattle.bmx_lanes.specs.Sending.{lane_of, one_if_any, senders_to}
use Rattle.bmx_legal.proofs.Flight.{senders}
use Rattle.bmx_legal.proofs.Spots.{finds_lengths}
use Rattle.bmx_run.specs.declared.actions.Action.{Action as Choice}
use Rattle.bmx_run.specs.declared.actions.Action.TheVariants as choice
use Rattle.bmx_run.specs.declared.runner.Runner.{Runner}
use Rattle.bmx_run.specs.declared.seats.Seat.{Seat}
use Rattle.bmx_run.specs.Inside.Steps.{nodes_in}
use Rattle.bmx_run.specs.Inside.Running.{Point, store_of, history_of, IsAt}
use Rattle.bmx_run.specs.Inside.Picking.{served_in, ServesAll, actions_at, actions_by, others_by, MayTry, tries_by, tried, Tries, Serves, Takes, ChoosesAt, IsNextOrder}
use Rattle.bmx_run.proofs.Listing.{got_left, got_right}
use Rattle.bmx_run.proofs.Counting.{one_letter, senders_are_letters}

-- what indexing gives
pub read_at : {A : Type 0} (xs : List A) (i n : ℕ) (x : A) → i ≡ n → n < length xs → x ≡ get_or xs i x → slice_get xs n ≡ Some x
read_at xs i n x same short is = slice_get_read xs (length xs) n x refl short (is ∙ ap (λ (k : ℕ). get_or xs k x) same)

-- ## nodes

-- a node's state
abbrev pub state_at : Point → Runner → ℕ → NodeState
state_at p r n = (nodes_in (store_of p) r.nodes.items n).state

node_is : (p : Point) (r : Runner) (n : ℕ) (d : Stamped) → slice_get r.nodes.items n ≡ Some d → nodes_in (store_of p) r.nodes.items n ≡ node_of d.holdings
node_is p r n d there = ap (λ (o : Option Stamped). option_map_or (λ (x : Stamped). node_of x.holdings) o (first_node (store_of p) n)) there

served_is : (nodes : List Stamped) (n : ℕ) (d : Stamped) → slice_get nodes n ≡ Some d → served_in nodes n ≡ d.holdings.tokens.servable
served_is nodes n d there = ap (λ (o : Option Stamped). option_map_or (λ (x : Stamped). x.holdings.tokens.servable) o []) there

-- the names that it can serve are all
pub serves_all : (p : Point) (r : Runner) (n : ℕ) (d : Stamped) → IsAt p r → slice_get r.nodes.items n ≡ Some d →
    AreAll (CanServe d.holdings.me (state_of d.holdings)) d.holdings.tokens.servable → ServesAll p r n
serves_all p r n d at there all =
    subst (λ (l : List ℕ). AreAll (CanServe n (state_at p r n)) l) (sym (served_is r.nodes.items n d there))
    (subst (λ (x : Node). AreAll (CanServe n x.state) d.holdings.tokens.servable) (sym (node_is p r n d there))
    (subst (λ (m : ℕ). AreAll (CanServe m (state_of d.holdings)) d.holdings.tokens.servable) (at.whole.nodes.me n d there) all))

-- a node of a runner is one of the store, of which there are few
pub a_node : (p : Point) (r : Runner) (n : ℕ) → IsAt p r → n < length r.nodes.items → n < (store_of p).nodes
a_node p r n at short = (let each : length r.nodes.items ≡ (store_of p).nodes = at.whole.nodes.each in omega (arith, short, each))

pub few_nodes : (p : Point) (r : Runner) → IsAt p r → length r.nodes.items ≤ 8
few_nodes p r at =
    let each : length r.nodes.items ≡ (store_of p).nodes = at.whole.nodes.each in
    let few : (store_of p).nodes ≤ 8 = at.whole.opens.few_nodes in
    omega (arith, each, few)

pub all_nodes : (p : Point) (r : Runner) → IsAt p r → length r.nodes.items ≡ (store_of p).nodes
all_nodes p r at = at.whole.nodes.each

-- it has a seat
pub a_seat : (p : Point) (r : Runner) (n : ℕ) → IsAt p r → n < length r.nodes.items → n < length r.seats.items
a_seat p r n at short =
    let each : length r.nodes.items ≡ (store_of p).nodes = at.whole.nodes.each in
    let seats : length r.seats.items ≡ (store_of p).nodes = at.ready.seats.each in
    omega (arith, short, each, seats)

-- ## commands

-- the operand whose token a command takes fits
wanted_fits : (bunches : ℕ) (c : Command) (on : Operand) → wanted_by c ≡ Some on → FitsCommand bunches c → FitsOperand bunches on
wanted_fits b (command.New register bunch size) on h f = none_some h
wanted_fits b (command.Copy register value) on h f = none_some h
wanted_fits b (command.Drop register) on h f = none_some h
wanted_fits b (command.Read x) on h f = subst (FitsOperand b) (some_same h) f
wanted_fits b (command.Write x) on h f = subst (FitsOperand b) (some_same h) f
wanted_fits b (command.Done x) on h f = none_some h
wanted_fits b (command.Set x index value) on h f = none_some h
wanted_fits b (command.Add x index by) on h f = none_some h
wanted_fits b (command.Get register x index) on h f = none_some h
wanted_fits b (command.Show x index) on h f = none_some h
wanted_fits b (command.Same left right) on h f = none_some h

-- in the bunches of the node that it is for
pub fits_here : (p : Point) (r : Runner) (n : ℕ) (d : Stamped) (c : Command) (on : Operand) → IsAt p r → slice_get r.nodes.items n ≡ Some d →
    FitsCommand (bunches_of (store_of p).births) c → wanted_by c ≡ Some on → FitsOperand d.holdings.store.bunches on
fits_here p r n d c on at there fits wants =
    subst (λ (k : ℕ). FitsOperand k on) (at.whole.nodes.suits n d there).bunches (wanted_fits (bunches_of (store_of p).births) c on wants fits)

-- whether the token that a command takes is ready
pub ready_here : (p : Point) (r : Runner) (n : ℕ) (d : Stamped) (c : Command) (on : Operand) (o : Option ℕ) → IsAt p r → slice_get r.nodes.items n ≡ Some d →
    wanted_by c ≡ Some on → o ≡ target_of (seen_graph d.holdings.me (state_of d.holdings)) d.holdings.me on →
    ready_at (state_of d.holdings) o ≡ is_ready n (state_at p r n) c
ready_here p r n d c on o at there wants is =
    ap (ready_at s) (is ∙ ap (λ (m : ℕ). target_of (seen_graph m s) m on) me)
    ∙ sym (ap (λ (w : Option Operand). option_map_or (λ (x : Operand). ready_at s (target_of (seen_graph n s) n x)) w false) wants)
    ∙ ap (λ (x : Node). is_ready n x.state c) (sym (node_is p r n d there))
  where
    s : NodeState
    s = state_of d.holdings

    me : d.holdings.me ≡ n
    me = at.whole.nodes.me n d there

-- what a filter leaves
got_kept : {A : Type 0} (f : A → Bool) (xs : List A) (i : ℕ) (x : A) → slice_get (filter f xs) i ≡ Some x → (f x ≡ true) × Contains xs x
got_kept f [] i x h = none_some h
got_kept f (y ∷ xs) i x h = by (λ j g. got_kept f xs j x g) (f y) refl i h
  where
    later : (f x ≡ true) × Contains xs x → (f x ≡ true) × Contains (y ∷ xs) x
    later k = (k.0, (suc k.1.0, omega (arith, k.1.1), k.1.2))

    by : ((j : ℕ) → slice_get (filter f xs) j ≡ Some x → (f x ≡ true) × Contains xs x) →
        (b : Bool) → f y ≡ b → (j : ℕ) → slice_get (cond b (y ∷ filter f xs) (filter f xs)) j ≡ Some x → (f x ≡ true) × Contains (y ∷ xs) x
    by rest true e zero g = (ap f (sym (some_same g)) ∙ e, (0, omega arith, some_same g))
    by rest true e (suc j) g = later (rest j g)
    by rest false e j g = later (rest j g)

-- the next order of a node's seat
next_is : (p : Point) (r : Runner) (n : ℕ) (s : Seat) → IsAt p r → slice_get r.seats.items n ≡ Some s →
    slice_get s.orders.items s.completed ≡ slice_get (program_in p.stage n) (length (completed n p.part))
next_is p r n s at there =
    ap (λ (l : List Order). slice_get l s.completed) (at.ready.seats.sits n s there).program
    ∙ ap (slice_get (program_in p.stage n)) (at.ready.seats.sits n s there).completed

-- is one of the phase, and the node's
pub record IsOrder (p : Point) (n : ℕ) (g : Order) : Type 0 where
  pub next : IsNextOrder p g
  pub here : g.node ≡ n
  pub fits : FitsCommand (bunches_of (store_of p).births) g.command

pub order_is : (p : Point) (r : Runner) (n : ℕ) (s : Seat) (g : Order) → IsAt p r → slice_get r.seats.items n ≡ Some s →
    slice_get s.orders.items s.completed ≡ Some g → IsOrder p n g
order_is p r n s g at there is = record {
  next = subst (λ (m : ℕ). slice_get (program_in p.stage m) (length (completed m p.part)) ≡ Some g) (sym here) next;
  here = here;
  fits = (at.ready.given g kept.1).fits;
}
  where
    next : slice_get (program_in p.stage n) (length (completed n p.part)) ≡ Some g
    next = sym (next_is p r n s at there) ∙ is

    kept : ((g.node == n) ≡ true) × Contains p.stage.commands g
    kept = got_kept (λ (x : Order). x.node == n) p.stage.commands (length (completed n p.part)) g next

    here : g.node ≡ n
    here = eqb_is g.node n kept.0

-- what a node may try, by its next order and whether it waits
tries_is : (p : Point) (r : Runner) (n : ℕ) (s : Seat) (o : Option Order) (w : Bool) → IsAt p r → slice_get r.seats.items n ≡ Some s →
    slice_get s.orders.items s.completed ≡ o → s.waits ≡ w →
    tries_by p r n ≡ command_action n (state_at p r n) (cond w (option_map (λ (g : Order). g.command) o) None) o
tries_is p r n s o w at there is waits =
    ap (λ (x : Option Command). command_action n (state_at p r n) x (slice_get (program_in p.stage n) (length (completed n p.part)))) waiting
    ∙ ap (command_action n (state_at p r n) (cond w (option_map (λ (g : Order). g.command) o) None)) (sym (next_is p r n s at there) ∙ is)
  where
    waiting : waits_with n None (history_of p) ≡ cond w (option_map (λ (g : Order). g.command) o) None
    waiting =
        (at.ready.seats.sits n s there).waits
        ∙ ap (λ (x : Option Order). cond s.waits (option_map (λ (g : Order). g.command) x) None) is
        ∙ ap (λ (b : Bool). cond b (option_map (λ (g : Order). g.command) o) None) waits

pub tries_none : (p : Point) (r : Runner) (n : ℕ) (s : Seat) → IsAt p r → slice_get r.seats.items n ≡ Some s →
    slice_get s.orders.items s.completed ≡ None → tries_by p r n ≡ []
tries_none p r n s at there is = tries_is p r n s None s.waits at there is refl

pub tries_unwaited : (p : Point) (r : Runner) (n : ℕ) (s : Seat) (g : Order) → IsAt p r → slice_get r.seats.items n ≡ Some s →
    slice_get s.orders.items s.completed ≡ Some g → s.waits ≡ false → tries_by p r n ≡ TriesCommand n g.command ∷ []
tries_unwaited p r n s g at there is waits = tries_is p r n s (Some g) false at there is waits

pub tries_waited : (p : Point) (r : Runner) (n : ℕ) (s : Seat) (g : Order) (b : Bool) → IsAt p r → slice_get r.seats.items n ≡ Some s →
    slice_get s.orders.items s.completed ≡ Some g → s.waits ≡ true → b ≡ is_ready n (state_at p r n) g.command →
    tries_by p r n ≡ cond b (TriesCommand n g.command ∷ []) []
tries_waited p r n s g b at there is waits ready =
    tries_is p r n s (Some g) true at there is waits
    ∙ ap (λ (x : Bool). cond x (TriesCommand n g.command ∷ []) []) (sym ready)

-- so it may try its command just if that is ready
pub may_waited : (p : Point) (r : Runner) (n : ℕ) (s : Seat) (g : Order) (b : Bool) → IsAt p r → slice_get r.seats.items n ≡ Some s →
    slice_get s.orders.items s.completed ≡ Some g → s.waits ≡ true → b ≡ is_ready n (state_at p r n) g.command → MayTry p r n b
may_waited p r n s g true at there is waits ready = (Some g, refl, tries_waited p r n s g true at there is waits ready)
may_waited p r n s g false at there is waits ready = (None, refl, tries_waited p r n s g false at there is waits ready)

-- a node that may try a command has a next one
pub may_next : (p : Point) (r : Runner) (n : ℕ) (s : Seat) (o : Option Order) → IsAt p r → slice_get r.seats.items n ≡ Some s →
    slice_get s.orders.items s.completed ≡ o → MayTry p r n true → is_some o ≡ true
may_next p r n s (Some g) at there is may = refl
may_next p r n s None at there is (None, told, tries) = absurd (false≢true (sym told))
may_next p r n s None at there is (Some g, told, tries) = absurd (none_listed (sym (tries_none p r n s at there is) ∙ tries))
  where
    none_listed : [] ≡ TriesCommand n g.command ∷ [] → ⊥
    none_listed e = omega (arith, ap (λ (l : List Action). length l) e)

-- which is the one that it may try
pub may_order : (p : Point) (r : Runner) (n : ℕ) (s : Seat) (g : Order) → IsAt p r → slice_get r.seats.items n ≡ Some s →
    slice_get s.orders.items s.completed ≡ Some g → MayTry p r n true → tries_by p r n ≡ tried n (Some g)
may_order p r n s g at there is (None, told, tries) = absurd (false≢true (sym told))
may_order p r n s g at there is (Some h, told, tries) = by s.waits refl
  where
    by : (w : Bool) → s.waits ≡ w → tries_by p r n ≡ TriesCommand n g.command ∷ []
    by false waits = tries_unwaited p r n s g at there is waits
    by true waits = by_ready (is_ready n (state_at p r n) g.command) refl
      where
        by_ready : (b : Bool) → is_ready n (state_at p r n) g.command ≡ b → tries_by p r n ≡ TriesCommand n g.command ∷ []
        by_ready true ready = tries_waited p r n s g true at there is waits (sym ready)
        by_ready false ready =
            let none : [] ≡ TriesCommand n h.command ∷ [] = sym (tries_waited p r n s g false at there is waits (sym ready)) ∙ tries in
            absurd (omega (arith, ap (λ (l : List Action). length l) none))

-- ## counts

-- the letters that a node may take are as many as its lanes say
letters_are : (p : Point) (r : Runner) (n : ℕ) → IsAt p r → senders_to (lane_of r.lanes) n ≡ length (letter_actions (history_of p) n (store_of p).nodes)
letters_are p r n at =
    senders_are_letters (history_of p) n (store_of p).nodes (λ from. lane_of r.lanes from n) at.whole.opens.few_nodes
    (λ from. finds_lengths (history_of p) (lane_of r.lanes from n) (in_flight from n (history_of p)) (at.ready.lanes from n))
    (λ from beyond. senders (store_of p) (history_of p) at.whole.leads.legal.fits from n beyond)

-- a node's actions are its command and the others
actions_are : (p : Point) (r : Runner) (n : ℕ) (o : Option Order) → tries_by p r n ≡ tried n o → actions_by p r n ≡ tried n o ++ others_by p r n
actions_are p r n o is =
    append_assoc (tries_by p r n) (map (ServesName n) (served_in r.nodes.items n)) (letter_actions (history_of p) n (store_of p).nodes)
    ∙ ap (λ (l : List Action). l ++ others_by p r n) is

actions_long : (p : Point) (r : Runner) (n : ℕ) (o : Option Order) → tries_by p r n ≡ tried n o →
    length (actions_by p r n) ≡ length (tried n o) + length (others_by p r n)
actions_long p r n o is = ap (λ (l : List Action). length l) (actions_are p r n o is) ∙ length-append (tried n o) (others_by p r n)

serves_long : (r : Runner) (n : ℕ) (d : Stamped) → slice_get r.nodes.items n ≡ Some d →
    length (map (ServesName n) (served_in r.nodes.items n)) ≡ length d.holdings.tokens.servable
serves_long r n d there = length-map (served_in r.nodes.items n) (ServesName n) ∙ ap (λ (l : List ℕ). length l) (served_is r.nodes.items n d there)

others_long : (p : Point) (r : Runner) (n : ℕ) (d : Stamped) → slice_get r.nodes.items n ≡ Some d →
    length (others_by p r n) ≡ length d.holdings.tokens.servable + length (letter_actions (history_of p) n (store_of p).nodes)
others_long p r n d there =
    length-append (map (ServesName n) (served_in r.nodes.items n)) (letter_actions (history_of p) n (store_of p).nodes)
    ∙ ap (λ (k : ℕ). k + length (letter_actions (history_of p) n (store_of p).nodes)) (serves_long r n d there)

-- one where it is so, else none
abbrev pub one_if : Bool → ℕ
one_if b = cond b 1 0

pub byte_is : (b : Bool) → bool_byte b ≡ one_if b
byte_is true = refl
byte_is false = refl

-- how many a command counts for
tried_long : (n : ℕ) (o : Option Order) → length (tried n o) ≡ one_if (is_some o)
tried_long n None = refl
tried_long n (Some g) = refl

-- the sum of a node's counts
pub counted : (p : Point) (r : Runner) (n : ℕ) (d : Stamped) (o : Option Order) → IsAt p r → slice_get r.nodes.items n ≡ Some d → tries_by p r n ≡ tried n o →
    length (actions_by p r n) ≡ one_if (is_some o) + length d.holdings.tokens.servable + senders_to (lane_of r.lanes) n
counted p r n d o at there is =
    let all : length (actions_by p r n) ≡ length (tried n o) + length (others_by p r n) = actions_long p r n o is in
    let first : length (tried n o) ≡ one_if (is_some o) = tried_long n o in
    let others : length (others_by p r n) ≡ length d.holdings.tokens.servable + length (letter_actions (history_of p) n (store_of p).nodes) = others_long p r n d there in
    let last : senders_to (lane_of r.lanes) n ≡ length (letter_actions (history_of p) n (store_of p).nodes) = letters_are p r n at in
    omega (arith, all, first, others, last)

-- the actions of the first so many nodes
abbrev pub actions_below : Point → Runner → ℕ → List Action
actions_below p r count = actions (store_of p) p.stage p.past p.part (nodes_in (store_of p) r.nodes.items) (served_in r.nodes.items) count

pub below_more : (p : Point) (r : Runner) (n : ℕ) → length (actions_below p r (n + 1)) ≡ length (actions_below p r n) + length (actions_by p r n)
below_more p r n =
    let e : n + 1 ≡ suc n = omega arith in
    ap (λ (k : ℕ). length (actions_below p r k)) e ∙ length-append (actions_below p r n) (actions_by p r n)

pub serves_more : (p : Point) (r : Runner) (n : ℕ) → ServesAll p r n → ((k : ℕ) → k < n → ServesAll p r k) → (k : ℕ) → k < n + 1 → ServesAll p r k
serves_more p r n here before k below = by (two n k)
  where
    by : Two n k → ServesAll p r k
    by (Same q) = subst (ServesAll p r) q here
    by (Apart t q) = before k (omega (arith, below, q))

-- ## choices

-- a command that may be tried comes first
pub chooses_command : (p : Point) (r : Runner) (n : ℕ) (g : Order) → tries_by p r n ≡ tried n (Some g) → g.node ≡ n → IsNextOrder p g →
    ChoosesAt p (actions_by p r n) 0 (choice.Try g)
chooses_command p r n g is here next = record {
  action = TriesCommand g.node g.command;
  there = ap (λ (l : List Action). slice_get l 0) (actions_are p r n (Some g) is) ∙ ap (λ (m : ℕ). Some (TriesCommand m g.command)) (sym here);
  means = Tries g;
  next = next;
}

-- of the others the serves come first
pub chooses_serve : (p : Point) (r : Runner) (n : ℕ) (d : Stamped) (name place : ℕ) → slice_get r.nodes.items n ≡ Some d →
    slice_get d.holdings.tokens.servable place ≡ Some name → ChoosesAt p (others_by p r n) place (choice.Serve n name)
chooses_serve p r n d name place there is = record {
  action = ServesName n name;
  there = got_left (map (ServesName n) names) (letter_actions (history_of p) n (store_of p).nodes) place short ∙ here;
  means = Serves n name;
  next = tt;
}
  where
    names : List ℕ
    names = served_in r.nodes.items n

    here : slice_get (map (ServesName n) names) place ≡ Some (ServesName n name)
    here =
        slice_get-map (ServesName n) names place
        ∙ ap (λ (l : List ℕ). option_map (ServesName n) (slice_get l place)) (served_is r.nodes.items n d there)
        ∙ ap (option_map (ServesName n)) is

    short : place < length (map (ServesName n) names)
    short = slice_get_within (map (ServesName n) names) place (ServesName n name) here

-- then the letters
pub chooses_letter : (p : Point) (r : Runner) (n : ℕ) (d : Stamped) (place k : ℕ) (c : Choice) → slice_get r.nodes.items n ≡ Some d →
    place ≡ length d.holdings.tokens.servable + k → ChoosesAt p (letter_actions (history_of p) n (store_of p).nodes) k c → ChoosesAt p (others_by p r n) place c
chooses_letter p r n d place k c there at chosen = record {
  action = chosen.action;
  there =
      got_right (map (ServesName n) (served_in r.nodes.items n)) (letter_actions (history_of p) n (store_of p).nodes) k place
      (at ∙ ap (λ (m : ℕ). m + k) (sym (serves_long r n d there))) ∙ chosen.there;
  means = chosen.means;
  next = chosen.next;
}

pub none_past : {A : Type 0} (xs : List A) (i : ℕ) → slice_get xs i ≡ None → length xs ≤ i
none_past [] i h = omega arith
none_past (x ∷ xs) zero h = none_some (sym h)
none_past (x ∷ xs) (suc i) h = omega (arith, none_past xs i h)

-- ## letters

-- the letter of a sender stands behind those of the senders before it
letter_there : (history : List Event) (n from : ℕ) (l : Letter) (rest : List Letter) → in_flight from n history ≡ l ∷ rest → (nodes : ℕ) → from < nodes →
    slice_get (letter_actions history n nodes) (length (letter_actions history n from)) ≡ Some (TakesLetter n from l)
letter_there history n from l rest is zero h = absurd (omega (arith, h))
letter_there history n from l rest is (suc nodes) h = by (λ k. letter_there history n from l rest is nodes k) (two from nodes)
  where
    by : (from < nodes → slice_get (letter_actions history n nodes) (length (letter_actions history n from)) ≡ Some (TakesLetter n from l)) → Two from nodes →
        slice_get (letter_actions history n (suc nodes)) (length (letter_actions history n from)) ≡ Some (TakesLetter n from l)
    by before (Same q) =
        let long : length (letter_actions history n from) ≡ length (letter_actions history n nodes) = ap (λ (m : ℕ). length (letter_actions history n m)) q in
        got_right (letter_actions history n nodes) (letter_action n nodes (in_flight nodes n history)) 0 (length (letter_actions history n from)) (omega (arith, long))
        ∙ ap (λ (x : List Letter). slice_get (letter_action n nodes x) 0) (ap (λ (m : ℕ). in_flight m n history) (sym q) ∙ is)
        ∙ ap (λ (m : ℕ). Some (TakesLetter n m l)) (sym q)
    by before (Apart t q) =
        let there = before (omega (arith, h, q)) in
        got_left (letter_actions history n nodes) (letter_action n nodes (in_flight nodes n history)) (length (letter_actions history n from))
        (slice_get_within (letter_actions history n nodes) (length (letter_actions history n from)) (TakesLetter n from l) there) ∙ there

-- the letter of a lane that has any
takes_here : (p : Point) (r : Runner) (n from place : ℕ) (first : ℕ × ℕ) → IsAt p r → from < (store_of p).nodes → slice_get (lane_of r.lanes from n) 0 ≡ Some first →
    place ≡ length (letter_actions (history_of p) n from) → ChoosesAt p (letter_actions (history_of p) n (store_of p).nodes) place (choice.Take n from)
takes_here p r n from place first at below some is = by (in_flight from n (history_of p)) refl
  where
    by : (letters : List Letter) → in_flight from n (history_of p) ≡ letters → ChoosesAt p (letter_actions (history_of p) n (store_of p).nodes) place (choice.Take n from)
    by [] e =
        let long : 0 < length (lane_of r.lanes from n) = slice_get_within (lane_of r.lanes from n) 0 first some in
        let same : length (lane_of r.lanes from n) ≡ length (in_flight from n (history_of p)) =
        finds_lengths (history_of p) (lane_of r.lanes from n) (in_flight from n (history_of p)) (at.ready.lanes from n) in
        let none : length (in_flight from n (history_of p)) ≡ 0 = ap (λ (x : List Letter). length x) e in
        absurd (omega (arith, long, same, none))
    by (l ∷ rest) e = record {
      action = TakesLetter n from l;
      there = ap (slice_get (letter_actions (history_of p) n (store_of p).nodes)) is ∙ letter_there (history_of p) n from l rest e (store_of p).nodes below;
      means = Takes n from l rest e;
      next = tt;
    }

pub takes_some : (p : Point) (r : Runner) (n from place : ℕ) (o : Option (ℕ × ℕ)) → IsAt p r → from < (store_of p).nodes → o ≡ slice_get (lane_of r.lanes from n) 0 →
    is_some o ≡ true → place ≡ length (letter_actions (history_of p) n from) → ChoosesAt p (letter_actions (history_of p) n (store_of p).nodes) place (choice.Take n from)
takes_some p r n from place None at below first some is = absurd (false≢true some)
takes_some p r n from place (Some spot) at below first some is = takes_here p r n from place spot at below (sym first) is

any_is : {A : Type 0} (xs : List A) → one_if_any xs ≡ one_if (is_some (slice_get xs 0))
any_is [] = refl
any_is (x ∷ xs) = refl

-- the letters of one sender more
pub letters_more : (p : Point) (r : Runner) (n from : ℕ) (o : Option (ℕ × ℕ)) → IsAt p r → o ≡ slice_get (lane_of r.lanes from n) 0 →
    length (letter_actions (history_of p) n (from + 1)) ≡ length (letter_actions (history_of p) n from) + one_if (is_some o)
letters_more p r n from o at is =
    let e : from + 1 ≡ suc from = omega arith in
    ap (λ (k : ℕ). length (letter_actions (history_of p) n k)) e
    ∙ length-append (letter_actions (history_of p) n from) (letter_action n from (in_flight from n (history_of p)))
    ∙ ap (λ (k : ℕ). length (letter_actions (history_of p) n from) + k) one
  where
    found : length (lane_of r.lanes from n) ≡ length (in_flight from n (history_of p))
    found = finds_lengths (history_of p) (lane_of r.lanes from n) (in_flight from n (history_of p)) (at.ready.lanes from n)

    one : length (letter_action n from (in_flight from n (history_of p))) ≡ one_if (is_some o)
    one =
        sym (one_letter n from (lane_of r.lanes from n) (in_flight from n (history_of p)) found)
        ∙ any_is (lane_of r.lanes from n) ∙ ap (λ (x : Option (ℕ × ℕ)). one_if (is_some x)) (sym is)

-- ## all nodes

-- an action of a node stands behind those of the nodes before it
there_below : (p : Point) (r : Runner) (n place k : ℕ) (a : Action) → place ≡ length (actions_below p r n) + k → slice_get (actions_by p r n) k ≡ Some a →
    (count : ℕ) → n < count → slice_get (actions_below p r count) place ≡ Some a
there_below p r n place k a is there zero h = absurd (omega (arith, h))
there_below p r n place k a is there (suc count) h = by (λ q. there_below p r n place k a is there count q) (two n count)
  where
    by : (n < count → slice_get (actions_below p r count) place ≡ Some a) → Two n count → slice_get (actions_below p r (suc count)) place ≡ Some a
    by before (Same q) =
        got_right (actions_below p r count) (actions_by p r count) k place (is ∙ ap (λ (m : ℕ). length (actions_below p r m) + k) q)
        ∙ ap (λ (m : ℕ). slice_get (actions_by p r m) k) (sym q) ∙ there
    by before (Apart t q) =
        let earlier = before (omega (arith, h, q)) in
        got_left (actions_below p r count) (actions_by p r count) place (slice_get_within (actions_below p r count) place a earlier) ∙ earlier

pub chooses_below : (p : Point) (r : Runner) (n place k : ℕ) (c : Choice) → n < (store_of p).nodes → place ≡ length (actions_below p r n) + k →
    ChoosesAt p (actions_by p r n) k c → ChoosesAt p (actions_at p r) place c
chooses_below p r n place k c below is chosen = record {
  action = chosen.action;
  there = there_below p r n place k chosen.action is chosen.there (store_of p).nodes below;
  means = chosen.means;
  next = chosen.next;
}
