-- A run's walk through the lines of its script, and what it comes to.
use Rattle.std.proofs.Common.{◌≡◌, ℕ, zero, suc, ◌+◌, ◌<◌, ◌≤◌, ◌⊎◌, inl, inr, arith, refl, ap, sym, ◌∙◌, subst, Bool, true, false, cond, List, [], ◌∷◌, ◌++◌, length, get_or, drop, Option, Some, None, ⊎_elim}
use Rattle.std.specs.Prelude.{◌==◌, slice_get, Contains}
use Rattle.std.specs.List.{cons_option}
use Rattle.std.proofs.lemmas.Option.{slice_get_within, slice_get-get_or, slice_get_read}
use Rattle.std.proofs.lemmas.List.{append-nil}
use Rattle.rand_pcg.specs.Lcg.{advance}
use Rattle.rand_pcg.specs.Pcg.{multiplier_64}
use Rattle.bmx_types.specs.declared.commands.Command.{Command}
use Rattle.bmx_script.specs.declared.lines.Line.{Line}
use Rattle.bmx_script.specs.declared.lines.LineKind.{LineKind}
use Rattle.bmx_script.specs.declared.lines.LineKind.TheVariants as line
use Rattle.bmx_script.specs.Grammar.{AreScript}
use Rattle.bmx_protocol.specs.declared.events.Event.{Event}
use Rattle.bmx_protocol.specs.Runs.Programs.{Body, Order, Stage, stages, DoSome}
use Rattle.bmx_protocol.specs.Runs.Programs as body
use Rattle.bmx_protocol.specs.Runs.Turns.{TakeTurns, Action, generator}
use Rattle.bmx_protocol.proofs.Basics.{Two, Same, Apart, two, eqb_of, some_same}
use Rattle.bmx_turns.specs.Inside.Growing.{Comes}
use Rattle.bmx_turns.specs.Inside.Walks.{onto}
use Rattle.bmx_turns.specs.Stuck.{IsStuck}
use Rattle.bmx_turns.proofs.Completing.{begins_none}
use Rattle.bmx_turns.proofs.Turning.{takes_none}
use Rattle.bmx_turns.proofs.Growing.{comes_last, comes_serial, comes_some, comes_short, comes_stuck}
use Rattle.bmx_turns.proofs.Stopping.{stuck_is_here}
use Rattle.bmx_turns.proofs.Walks.{HasFirst, has_first, onto_nothing, onto_gives, onto_phase, onto_quiet, onto_end, program_in_one}
use Rattle.bmx_world.specs.declared.runs.RunEnd.{RunEnd}
use Rattle.bmx_world.specs.declared.runs.RunEnd.TheVariants as end
use Rattle.bmx_world.specs.Scripts.{body_line, body_of, setting_of_script}
use Rattle.bmx_world.proofs.Placed.{at_place}
use Rattle.bmx_run.specs.declared.seats.Seat.{Seat}
use Rattle.bmx_run.specs.declared.runner.Runner.{Runner}
use Rattle.bmx_run.specs.Inside.Seats.{orders_of, command_at, SitsAt}
use Rattle.bmx_run.specs.Inside.Steps.{nodes_in}
use Rattle.bmx_run.specs.Inside.Running.{Point, IsWhole, IsGiven, IsBetween}
use Rattle.bmx_run.specs.Inside.Picking.{served_in}
use Rattle.bmx_run.specs.Inside.Phases.{Starts, AfterPhase, IsDone, IsLeft, IsStuckThere, IsSpentThere, IsGivenTo, Gives, IsRun, Walk, IsThere, ComesTo, GoesOn, Obeys}
use Rattle.bmx_run.proofs.Listing.{got_same, got_other, length_set}
use Rattle.bmx_run.proofs.Opening.{pushed}
use Rattle.bmx_run.proofs.Phasing.{whole_with}
use Rattle.bmx_run.proofs.Scripted.{is_given}

-- ## a phase begins

-- where a phase begins, with these phases behind it
abbrev pub point_of : Walk → Bool → List Stage → Point
point_of w quiet rest = record { lines = w.lines; seed = w.seed; past = w.past; part = []; stage = record { commands = w.orders; quiet = quiet }; rest = rest }

pub starts : (w : Walk) (quiet : Bool) (rest : List Stage) (r : Runner) →
    IsBetween w.lines w.seed w.past w.orders (record { commands = w.orders; quiet = quiet } ∷ rest) r → Starts (point_of w quiet rest) quiet r
starts w quiet rest r b = record {
  is_at = record {
    whole = subst (λ (l : List Event). IsWhole w.lines l r) same b.whole;
    ready = b.ready;
    phase = record {
      comes = b.comes;
      begun = begins_none (record { commands = w.orders; quiet = quiet });
      turns = takes_none (setting_of_script w.lines) w.seed w.past (record { commands = w.orders; quiet = quiet });
    };
  };
  none = refl;
  ends = refl;
  draws = b.draws ∙ ap (λ (l : List Event). advance 64 multiplier_64 (length l) (generator w.seed)) same;
}
  where
    same : w.past ≡ w.past ++ []
    same = sym (append-nil w.past)

-- ## a run ends

run_stuck : (p : Point) (r : Runner) → IsStuckThere p r → IsRun p.lines p.seed r.budget end.Stuck r
run_stuck p r h = record {
  history = p.past ++ h.part;
  whole = h.is_at.whole;
  serial = comes_serial (setting_of_script p.lines) p.seed (stages (body_of p.lines)) p.past p.stage p.rest h.part h.is_at.phase.comes h.is_at.phase.turns;
  follows = comes_some (setting_of_script p.lines) p.seed (stages (body_of p.lines)) p.past p.stage p.rest h.part h.is_at.phase.comes h.is_at.phase.begun;
  ends =
      comes_stuck (setting_of_script p.lines) p.seed (body_of p.lines) p.past p.stage p.rest h.part (nodes_in (setting_of_script p.lines) r.nodes.items) (served_in r.nodes.items)
      h.is_at.phase.comes h.is_at.phase.turns h.is_at.whole.leads.reached h.served h.none h.unfinished;
}

run_spent : (p : Point) (r : Runner) → IsSpentThere p r → IsRun p.lines p.seed r.budget end.Spent r
run_spent p r h = record {
  history = p.past ++ h.part;
  whole = h.is_at.whole;
  serial = comes_serial (setting_of_script p.lines) p.seed (stages (body_of p.lines)) p.past p.stage p.rest h.part h.is_at.phase.comes h.is_at.phase.turns;
  follows = comes_some (setting_of_script p.lines) p.seed (stages (body_of p.lines)) p.past p.stage p.rest h.part h.is_at.phase.comes h.is_at.phase.begun;
  ends = record {
    all = h.spent;
    before_end = comes_short (setting_of_script p.lines) p.seed (stages (body_of p.lines)) p.past p.stage p.rest h.part h.is_at.phase.comes h.is_at.phase.turns h.goes_on;
    not_stuck = not_stuck;
  };
}
  where
    not_stuck : IsStuck (setting_of_script p.lines) (body_of p.lines) (p.past ++ h.part) → ⊥
    not_stuck stuck =
        let here = stuck_is_here (setting_of_script p.lines) p.seed (body_of p.lines) p.past p.stage p.rest h.part (nodes_in (setting_of_script p.lines) r.nodes.items) (served_in r.nodes.items)
        h.is_at.phase.comes h.is_at.phase.turns h.goes_on h.is_at.whole.leads.reached h.served stuck in
        omega (arith, h.some, ap (λ (l : List Action). length l) here.none)

run_left : (p : Point) (r : Runner) → IsLeft p r → IsRun p.lines p.seed r.budget end.NoMemory r
run_left p r h = record {
  history = p.past ++ h.part;
  whole = h.stopped.whole;
  serial = comes_serial (setting_of_script p.lines) p.seed (stages (body_of p.lines)) p.past p.stage p.rest h.part h.stopped.phase.comes h.stopped.phase.turns;
  follows = comes_some (setting_of_script p.lines) p.seed (stages (body_of p.lines)) p.past p.stage p.rest h.part h.stopped.phase.comes h.stopped.phase.begun;
  ends = tt;
}

run_done : (p : Point) (r : Runner) → p.rest ≡ [] → IsDone p r → IsRun p.lines p.seed r.budget end.Ended r
run_done p r none h =
    let last : Comes (setting_of_script p.lines) p.seed (stages (body_of p.lines)) (p.past ++ h.part) [] =
    subst (λ (ss : List Stage). Comes (setting_of_script p.lines) p.seed (stages (body_of p.lines)) (p.past ++ h.part) ss) none h.between.comes in
    let run = comes_last (setting_of_script p.lines) p.seed (stages (body_of p.lines)) (p.past ++ h.part) last in
    record { history = p.past ++ h.part; whole = h.between.whole; serial = run.serial; follows = run.parts; ends = run.runs }

-- with its last phase
pub ends_last : (p : Point) (e : RunEnd) (r : Runner) → p.rest ≡ [] → AfterPhase p e r → IsRun p.lines p.seed r.budget e r
ends_last p end.Ended r none h = run_done p r none h
ends_last p end.Stuck r none h = run_stuck p r h
ends_last p end.Spent r none h = run_spent p r h
ends_last p end.NoMemory r none h = run_left p r h

-- ## a line that ends a phase

at_line : (w : Walk) (l : Line) (r : Runner) (what : LineKind) → ComesTo w l r → l.what ≡ what →
    IsThere (record w { rest = cons_option (body_line l.number what) w.rest }) r
at_line w l r what h is = subst (λ (k : LineKind). IsThere (record w { rest = cons_option (body_line l.number k) w.rest }) r) is h.there

pub at_phase : (w : Walk) (l : Line) (r : Runner) → ComesTo w l r → l.what ≡ line.Phase → Starts (point_of w false (stages w.rest)) false r
at_phase w l r h is =
    starts w false (stages w.rest) r
    (subst (λ (ss : List Stage). IsBetween w.lines w.seed w.past w.orders ss r) (onto_phase w.orders w.rest) (at_line w l r line.Phase h is))

pub at_quiet : (w : Walk) (l : Line) (r : Runner) → ComesTo w l r → l.what ≡ line.Quiet → Starts (point_of w true (stages w.rest)) true r
at_quiet w l r h is =
    starts w true (stages w.rest) r
    (subst (λ (ss : List Stage). IsBetween w.lines w.seed w.past w.orders ss r) (onto_quiet w.orders w.rest) (at_line w l r line.Quiet h is))

pub obeys_phase : (w : Walk) (quiet : Bool) (e : RunEnd) (r : Runner) → AfterPhase (point_of w quiet (stages w.rest)) e r → Obeys w e r
obeys_phase w quiet end.Ended r h = record {
  past = w.past ++ h.part;
  orders = [];
  there = subst (λ (ss : List Stage). IsBetween w.lines w.seed (w.past ++ h.part) [] ss r) (sym (onto_nothing (stages w.rest))) h.between;
}
obeys_phase w quiet end.Stuck r h = run_stuck (point_of w quiet (stages w.rest)) r h
obeys_phase w quiet end.Spent r h = run_spent (point_of w quiet (stages w.rest)) r h
obeys_phase w quiet end.NoMemory r h = run_left (point_of w quiet (stages w.rest)) r h

-- ## a line that gives a command

contains_push : {A : Type 0} (xs : List A) (y x : A) → Contains (xs ++ y ∷ []) x → Contains xs x ⊎ (y ≡ x)
contains_push xs y x c =
    ⊎_elim (λ got. inl (there got)) (λ e. inr e.1)
    (pushed xs y c.0 x (slice_get-get_or (xs ++ y ∷ []) c.0 x c.1 ∙ ap Some c.2))
  where
    there : slice_get xs c.0 ≡ Some x → Contains xs x
    there got =
        let within : c.0 < length xs = slice_get_within xs c.0 x got in
        let is : get_or xs c.0 x ≡ x = some_same (sym (slice_get-get_or xs c.0 x within) ∙ got) in
        (c.0, within, is)

-- the seat that was given it
sits_given : (orders : List Order) (past : List Event) (g : Order) (before behind : Seat) → before.waits ≡ false → SitsAt orders [] past g.node before →
    behind.orders.items ≡ before.orders.items ++ g ∷ [] → behind.completed ≡ before.completed → behind.waits ≡ before.waits → SitsAt (orders ++ g ∷ []) [] past g.node behind
sits_given orders past g before behind calm sits more completed waits = record {
  program = more ∙ ap (λ (l : List Order). l ++ g ∷ []) sits.program
      ∙ ap (λ (b : Bool). orders_of g.node orders ++ cond b (g ∷ []) []) (sym (eqb_of {a = g.node} refl))
      ∙ sym (program_in_one orders false g g.node);
  completed = completed ∙ sits.completed;
  waits = sits.waits ∙ ap (λ (b : Bool). cond b (command_at before.orders.items before.completed) None) calm
      ∙ sym (ap (λ (b : Bool). cond b (command_at behind.orders.items behind.completed) None) (waits ∙ calm));
}

-- and another
sits_by : (orders : List Order) (past : List Event) (g : Order) (n : ℕ) (s : Seat) → (g.node == n) ≡ false → SitsAt orders [] past n s → SitsAt (orders ++ g ∷ []) [] past n s
sits_by orders past g n s apart sits = record {
  program = sits.program ∙ sym (append-nil (orders_of n orders))
      ∙ ap (λ (b : Bool). orders_of n orders ++ cond b (g ∷ []) []) (sym apart)
      ∙ sym (program_in_one orders false g n);
  completed = sits.completed;
  waits = sits.waits;
}

pub given_on : (w : Walk) (g : Order) (old new : Runner) → IsThere (record w { rest = body.Gives g.node g.line g.command ∷ w.rest }) old → IsGiven (setting_of_script w.lines) g →
    IsGivenTo old g new → new ≡ record old { seats = new.seats } → GoesOn w new
given_on w g old new b fits to rest = record {
  past = w.past;
  orders = w.orders ++ g ∷ [];
  there = subst (IsThere (record w { orders = w.orders ++ g ∷ [] })) (sym rest) here;
}
  where
    after : Runner
    after = record old { seats = new.seats }

    short : g.node < length old.seats.items
    short = slice_get_within old.seats.items g.node to.before to.there

    same : (n : ℕ) (s : Seat) → slice_get new.seats.items n ≡ Some s → g.node ≡ n → to.behind ≡ s
    same n s got e = some_same (sym (got_same old.seats.items g.node to.behind short) ∙ ap (λ (l : List Seat). slice_get l g.node) (sym to.seats) ∙ ap (slice_get new.seats.items) e ∙ got)

    other : (n : ℕ) (s : Seat) → slice_get new.seats.items n ≡ Some s → (g.node ≡ n → ⊥) → slice_get old.seats.items n ≡ Some s
    other n s got q = sym (got_other old.seats.items g.node n to.behind q) ∙ ap (λ (l : List Seat). slice_get l n) (sym to.seats) ∙ got

    calm : to.before.waits ≡ false
    calm = b.calm g.node to.before to.there

    sits : (n : ℕ) (s : Seat) → slice_get new.seats.items n ≡ Some s → Two g.node n → SitsAt (w.orders ++ g ∷ []) [] (w.past ++ []) n s
    sits n s got (Same e) =
        subst (λ (k : ℕ). SitsAt (w.orders ++ g ∷ []) [] (w.past ++ []) k s) e
        (subst (λ (x : Seat). SitsAt (w.orders ++ g ∷ []) [] (w.past ++ []) g.node x) (same n s got e)
        (sits_given w.orders (w.past ++ []) g to.before to.behind calm (b.ready.seats.sits g.node to.before to.there) to.orders to.completed to.waits))
    sits n s got (Apart t q) = sits_by w.orders (w.past ++ []) g n s t (b.ready.seats.sits n s (other n s got q))

    rests : (n : ℕ) (s : Seat) → slice_get new.seats.items n ≡ Some s → Two g.node n → s.waits ≡ false
    rests n s got (Same e) = ap (λ (x : Seat). x.waits) (sym (same n s got e)) ∙ to.waits ∙ calm
    rests n s got (Apart t q) = b.calm n s (other n s got q)

    here : IsThere (record w { orders = w.orders ++ g ∷ [] }) after
    here = record {
      whole = whole_with w.lines w.past old after b.whole refl refl refl refl;
      ready = record {
        given = λ x c. ⊎_elim (λ before. b.ready.given x before) (λ e. subst (IsGiven (setting_of_script w.lines)) e fits) (contains_push w.orders g x c);
        seats = record { each = ap (λ (l : List Seat). length l) to.seats ∙ length_set old.seats.items g.node to.behind ∙ b.ready.seats.each; sits = λ n s got. sits n s got (two g.node n) };
        lanes = b.ready.lanes;
      };
      calm = λ n s got. rests n s got (two g.node n);
      comes = subst (λ (ss : List Stage). Comes (setting_of_script w.lines) w.seed (stages (body_of w.lines)) w.past ss) (onto_gives w.orders g.node g.line g.command w.rest) b.comes;
      draws = b.draws;
    }

-- with no memory for it
pub given_left : (w : Walk) (old new : Runner) → IsThere w old → new ≡ record old { seats = new.seats } → IsRun w.lines w.seed new.budget end.NoMemory new
given_left w old new b rest = record {
  history = w.past;
  whole = subst (IsWhole w.lines w.past) (sym rest) (whole_with w.lines w.past old (record old { seats = new.seats }) b.whole refl refl refl refl);
  serial = subst (λ (l : List Event). TakeTurns (setting_of_script w.lines) w.seed [] (stages (body_of w.lines)) l) (append-nil w.past)
      (comes_serial (setting_of_script w.lines) w.seed (stages (body_of w.lines)) w.past stage first.more [] comes (takes_none (setting_of_script w.lines) w.seed w.past stage));
  follows = subst (λ (l : List Event). DoSome (setting_of_script w.lines) [] (stages (body_of w.lines)) l) (append-nil w.past)
      (comes_some (setting_of_script w.lines) w.seed (stages (body_of w.lines)) w.past stage first.more [] comes (begins_none stage));
  ends = tt;
}
  where
    first : HasFirst w.rest
    first = has_first w.rest

    stage : Stage
    stage = record { commands = w.orders ++ first.first.commands; quiet = first.first.quiet }

    comes : Comes (setting_of_script w.lines) w.seed (stages (body_of w.lines)) w.past (stage ∷ first.more)
    comes = subst (λ (ss : List Stage). Comes (setting_of_script w.lines) w.seed (stages (body_of w.lines)) w.past ss) (ap (onto w.orders) first.is) b.comes

pub at_order : (w : Walk) (l : Line) (r : Runner) (n : ℕ) (c : Command) → ComesTo w l r → l.what ≡ line.Do n c → IsThere (record w { rest = body.Gives n l.number c ∷ w.rest }) r
at_order w l r n c h is = at_line w l r (line.Do n c) h is

-- whichever
pub obeys_given : (w : Walk) (l : Line) (g : Order) (e : RunEnd) (old new : Runner) → ComesTo w l old → l.what ≡ line.Do g.node g.command → l.number ≡ g.line →
    Gives old g e new → new ≡ record old { seats = new.seats } → Obeys w e new
obeys_given w l g e old new h is number given rest = by_case given
  where
    there : IsThere (record w { rest = body.Gives g.node g.line g.command ∷ w.rest }) old
    there = subst (λ (k : ℕ). IsThere (record w { rest = body.Gives g.node k g.command ∷ w.rest }) old) number (at_order w l old g.node g.command h is)

    fits : IsGiven (setting_of_script w.lines) g
    fits = (let f = h.fits g.node g.command is in record { a_node = f.a_node; fits = f.fits })

    by_case : ((e ≡ end.Ended) × IsGivenTo old g new) ⊎ (e ≡ end.NoMemory) → Obeys w e new
    by_case (inl (ended, to)) = subst (λ (x : RunEnd). Obeys w x new) (sym ended) (given_on w g old new there fits to rest)
    by_case (inr none) =
        subst (λ (x : RunEnd). Obeys w x new) (sym none) (given_left (record w { rest = body.Gives g.node g.line g.command ∷ w.rest }) old new there rest)

-- the node that it is for has a seat
pub has_seat : (w : Walk) (l : Line) (n : ℕ) (c : Command) (r : Runner) → ComesTo w l r → l.what ≡ line.Do n c → n < length r.seats.items
has_seat w l n c r h is = (let f = h.fits n c is in omega (arith, f.a_node, h.there.ready.seats.each))

-- ## a line that is neither

pub at_other : (w : Walk) (l : Line) (r : Runner) → ComesTo w l r → body_line l.number l.what ≡ None → GoesOn w r
at_other w l r h none = record {
  past = w.past;
  orders = w.orders;
  there = subst (λ (o : Option Body). IsThere (record w { rest = cons_option o w.rest }) r) none h.there;
}

-- ## all lines

-- a runner has come to a line
pub record HasCome (lines : List Line) (seed i : ℕ) (r : Runner) : Type 0 where
  pub past : List Event
  pub orders : List Order
  pub there : IsThere (record { lines = lines; seed = seed; past = past; orders = orders; rest = body_of (drop i lines) }) r

pub come_first : (lines : List Line) (seed : ℕ) (r : Runner) → IsBetween lines seed [] [] (stages (body_of lines)) r → HasCome lines seed 0 r
come_first lines seed r b = record {
  past = [];
  orders = [];
  there = subst (λ (ss : List Stage). IsBetween lines seed [] [] ss r) (sym (onto_nothing (stages (body_of lines)))) b;
}

abbrev pub walk_at : (lines : List Line) (seed i : ℕ) (r : Runner) → HasCome lines seed i r → Walk
walk_at lines seed i r h = record { lines = lines; seed = seed; past = h.past; orders = h.orders; rest = body_of (drop (i + 1) lines) }

pub comes_to : (lines : List Line) (seed i : ℕ) (l : Line) (r : Runner) → AreScript lines → i < length lines → l ≡ get_or lines i l → (h : HasCome lines seed i r) →
    ComesTo (walk_at lines seed i r h) l r
comes_to lines seed i l r script lt is h = record {
  there = subst (λ (ls : List Line). IsThere (record { lines = lines; seed = seed; past = h.past; orders = h.orders; rest = body_of ls }) r) (at_place lines i l lt is) h.there;
  fits = λ n c what. is_given lines i l n c script (slice_get_read lines (length lines) i l refl lt is) what;
}

pub come_on : (lines : List Line) (seed i : ℕ) (r new : Runner) (h : HasCome lines seed i r) → GoesOn (walk_at lines seed i r h) new → HasCome lines seed (i + 1) new
come_on lines seed i r new h g = record { past = g.past; orders = g.orders; there = g.there }

drop_all : {A : Type 0} (xs : List A) (i : ℕ) → length xs ≤ i → drop i xs ≡ []
drop_all [] zero h = refl
drop_all [] (suc i) h = refl
drop_all (x ∷ xs) zero h = absurd (omega (arith, h))
drop_all (x ∷ xs) (suc i) h = drop_all xs i (omega (arith, h))

-- where the last phase begins
abbrev pub last_of : (lines : List Line) (seed i : ℕ) (r : Runner) → HasCome lines seed i r → Point
last_of lines seed i r h = point_of (walk_at lines seed i r h) false []

pub starts_last : (lines : List Line) (seed i : ℕ) (r : Runner) (h : HasCome lines seed i r) → length lines ≤ i → Starts (last_of lines seed i r h) false r
starts_last lines seed i r h past =
    starts (walk_at lines seed i r h) false [] r
    (subst (λ (ss : List Stage). IsBetween lines seed h.past h.orders ss r)
    (ap (λ (ls : List Line). onto h.orders (stages (body_of ls))) (drop_all lines i past) ∙ onto_end h.orders) h.there)

pub obeys_end : (w : Walk) (e : RunEnd) (r : Runner) → (e ≡ end.Ended → ⊥) → Obeys w e r → IsRun w.lines w.seed r.budget e r
obeys_end w end.Ended r not h = absurd (not refl)
obeys_end w end.Stuck r not h = h
obeys_end w end.Spent r not h = h
obeys_end w end.NoMemory r not h = h
