-- Runs worked by hand are legal: tests of their moves, and what these show.
use Rattle.std.proofs.Common.{◌≡◌, ℕ, zero, suc, ◌+◌, ◌^◌, ◌<◌, ◌≤◌, ◌==◌, ◌&&◌, ⊎_elim, nat_lt, nat_le, Bool, true, false, cond, List, [], ◌∷◌, ◌++◌, length, filter, drop, fold, slice_get, count_by, Contains, refl, ap, sym, ◌∙◌, subst, arith}
use Rattle.std.specs.Prelude.{Option, Some, None, map}
use Rattle.bmx_types.specs.Openings.{bunches_of}
use Rattle.bmx_types.specs.declared.commands.Operand.{Operand}
use Rattle.bmx_types.specs.declared.commands.Operand.TheVariants as operand
use Rattle.bmx_types.specs.declared.commands.Command.{Command}
use Rattle.bmx_types.specs.declared.commands.Command.TheVariants as command
use Rattle.bmx_types.specs.Updates.{put}
use Rattle.bmx_msg.specs.declared.letters.Letter.{Letter}
use Rattle.bmx_table.specs.declared.tables.Table.{Table}
use Rattle.bmx_protocol.specs.declared.inputs.Input.{Input}
use Rattle.bmx_protocol.specs.declared.inputs.Input.TheVariants as input
use Rattle.bmx_protocol.specs.declared.inputs.NodeAnswer.{NodeAnswer}
use Rattle.bmx_protocol.specs.declared.events.Event.{Event}
use Rattle.bmx_protocol.specs.Nodes.{Setting}
use Rattle.bmx_protocol.specs.Rules.{Reaction}
use Rattle.bmx_protocol.specs.Steps.{Node, Told, rule, changes_of, done_of, stamp_after, MovesTo, IsStep}
use Rattle.bmx_protocol.specs.Histories.{issued, arrived, taken, in_flight, IsOperandOf, IsCommandOf, IsInputOf, IsNext, IsLater, waits_with, IsAgain}
use Rattle.bmx_protocol.specs.Cases.{Move, Do, Serve, Next, mover, input_of, told_at, places_after, one_bunch}
use Rattle.std.proofs.lemmas.Bool.Decides.{nat_tests}
use Rattle.bmx_types.specs.declared.commands.Refusal.TheVariants as refusal
use Rattle.bmx_protocol.proofs.Basics.{eqb_is, eqb_of, at_each}
use Rattle.bmx_collection.proofs.Listing.{both, nothing_in, behind, one_of}
use Rattle.bmx_collection.specs.Steps.{LinkedNode, unlinked, first_linked, CollectorInput, Collect, Sweep, MakeTable, TakeTable, CollectorTold, CollectorReaction, CollectorDone, Refused, Stray, unchanged, collector_rule, outcome_of, counted, IsCollectorTold, IsCollectorStep, stamp_after_it}
use Rattle.bmx_collection.specs.Histories.{Plain, Collector, LinkedEvent, plain_events, tables_made, times_taken, FitsPlain, FitsCollector, FitsDeed, FitsLinked, IsDeed, ReplaysLinked, IsLegalLinked}
use Rattle.bmx_collection.specs.Finding.{reached_in, found}
use Rattle.bmx_collection.specs.Playing.{LinkedMove, LinkedLine, Of, By, Takes, LinkedPlay, last_stamp, linked_after, with_move, with_collector, with_taken, with_linked_move, played_linked}
use Rattle.bmx_collection.specs.Laws.{IsWithin, AreWithin}
use Rattle.bmx_collection.specs.Telling.{WorkedRunsAreLegalLinked}
use Rattle.bmx_collection.specs.Cases.Stores.{two_bunches}
use Rattle.bmx_collection.specs.Cases.OldAddresses as addresses
use Rattle.bmx_collection.specs.Cases.BetweenBunches as bunches
use Rattle.bmx_collection.specs.Cases.PairsAtTwoNodes as pairs
use Rattle.bmx_collection.specs.Cases.ALateTable as late_table
use Rattle.bmx_collection.specs.Cases.AFullCollection as full_collection
use Rattle.bmx_collection.specs.Cases.OnlyARegisterElsewhere as register_elsewhere
use Rattle.bmx_owner.specs.Records.{is_listed}
use Rattle.bmx_collection.proofs.Mapped as Mapped
use Rattle.bmx_collection.proofs.Mapped.{address_below, placed_below, made_below, infos_below, to_below, moves_below, births_made_below, place_below, told_below, input_below, collection_below, collection_within, swept_within, opening_below, first_placed}
use Rattle.bmx_collection.proofs.Found.{found_is_told}
use Rattle.bmx_collection.proofs.Within.{is_less, births_below, first_within, changes_below, changes_within, step_within, forgotten_within, cleaned_within}

is_at_most : (a b : ℕ) → nat_le a b ≡ true → a ≤ b
is_at_most a b e = grind (arith, nat_tests)

-- ## tests of inputs

pub operand_ok : Setting → Operand → Bool
operand_ok st (operand.Register r) = nat_lt r 16
operand_ok st (operand.Anchor bunch) = nat_lt bunch (bunches_of st.births)
operand_ok st (operand.Int k) = true
operand_ok st operand.Null = true

pub command_ok : Setting → Command → Bool
command_ok st (command.New register bunch size) = nat_lt register 16 && (nat_lt bunch (bunches_of st.births) && nat_le size 32)
command_ok st (command.Copy register value) = nat_lt register 16 && operand_ok st value
command_ok st (command.Drop register) = nat_lt register 16
command_ok st (command.Read on) = operand_ok st on
command_ok st (command.Write on) = operand_ok st on
command_ok st (command.Done on) = operand_ok st on
command_ok st (command.Set on index value) = operand_ok st on && operand_ok st value
command_ok st (command.Add on index by) = operand_ok st on
command_ok st (command.Get register on index) = nat_lt register 16 && operand_ok st on
command_ok st (command.Show on index) = operand_ok st on
command_ok st (command.Same left right) = operand_ok st left && operand_ok st right

pub input_ok : Setting → Input → Bool
input_ok st (input.Do c) = command_ok st c
input_ok st (input.Serve name) = true
input_ok st (input.Take from l) = nat_lt from st.nodes

is_operand : (st : Setting) (o : Operand) → operand_ok st o ≡ true → IsOperandOf st o
unfolding operand_ok
is_operand st (operand.Register r) e = is_less r 16 e
is_operand st (operand.Anchor bunch) e = is_less bunch (bunches_of st.births) e
is_operand st (operand.Int k) e = tt
is_operand st operand.Null e = tt

is_command : (st : Setting) (c : Command) → command_ok st c ≡ true → IsCommandOf st c
unfolding command_ok
is_command st (command.New register bunch size) e =
    let p : (nat_lt register 16 ≡ true) × ((nat_lt bunch (bunches_of st.births) && nat_le size 32) ≡ true) =
    both (nat_lt register 16) (nat_lt bunch (bunches_of st.births) && nat_le size 32) e in
    let q : (nat_lt bunch (bunches_of st.births) ≡ true) × (nat_le size 32 ≡ true) = both (nat_lt bunch (bunches_of st.births)) (nat_le size 32) p.1 in
    (is_less register 16 p.0, is_less bunch (bunches_of st.births) q.0, is_at_most size 32 q.1)
is_command st (command.Copy register value) e =
    let p : (nat_lt register 16 ≡ true) × (operand_ok st value ≡ true) = both (nat_lt register 16) (operand_ok st value) e in
    (is_less register 16 p.0, is_operand st value p.1)
is_command st (command.Drop register) e = is_less register 16 e
is_command st (command.Read on) e = is_operand st on e
is_command st (command.Write on) e = is_operand st on e
is_command st (command.Done on) e = is_operand st on e
is_command st (command.Set on index value) e =
    let p : (operand_ok st on ≡ true) × (operand_ok st value ≡ true) = both (operand_ok st on) (operand_ok st value) e in
    (is_operand st on p.0, is_operand st value p.1)
is_command st (command.Add on index by) e = is_operand st on e
is_command st (command.Get register on index) e =
    let p : (nat_lt register 16 ≡ true) × (operand_ok st on ≡ true) = both (nat_lt register 16) (operand_ok st on) e in
    (is_less register 16 p.0, is_operand st on p.1)
is_command st (command.Show on index) e = is_operand st on e
is_command st (command.Same left right) e =
    let p : (operand_ok st left ≡ true) × (operand_ok st right ≡ true) = both (operand_ok st left) (operand_ok st right) e in
    (is_operand st left p.0, is_operand st right p.1)

is_input : (st : Setting) (i : Input) → input_ok st i ≡ true → IsInputOf st i
unfolding input_ok
is_input st (input.Do c) e = is_command st c e
is_input st (input.Serve name) e = tt
is_input st (input.Take from l) e = is_less from st.nodes e

-- the same command: of those that may wait
pub same_operand : Operand → Operand → Bool
same_operand (operand.Register r) (operand.Register q) = r == q
same_operand (operand.Anchor b) (operand.Anchor c) = b == c
same_operand o p = false

pub same_command : Command → Command → Bool
same_command (command.Read o) (command.Read p) = same_operand o p
same_command (command.Write o) (command.Write p) = same_operand o p
same_command c d = false

operands_same : (o p : Operand) → same_operand o p ≡ true → o ≡ p
unfolding same_operand
operands_same (operand.Register r) (operand.Register q) e = ap operand.Register (eqb_is r q e)
operands_same (operand.Anchor b) (operand.Anchor c) e = ap operand.Anchor (eqb_is b c e)
operands_same o p e = cc

commands_same : (c d : Command) → same_command c d ≡ true → c ≡ d
unfolding same_command
commands_same (command.Read o) (command.Read p) e = ap command.Read (operands_same o p e)
commands_same (command.Write o) (command.Write p) e = ap command.Write (operands_same o p e)
commands_same c d e = cc

pub again_ok : Option Command → Input → Bool
again_ok None i = true
again_ok (Some c) (input.Do d) = same_command d c
again_ok (Some c) (input.Serve name) = true
again_ok (Some c) (input.Take from l) = true

is_again : (w : Option Command) (i : Input) → again_ok w i ≡ true → IsAgain w i
unfolding again_ok
is_again None i e = tt
is_again (Some c) (input.Do d) e = commands_same d c e
is_again (Some c) (input.Serve name) e = tt
is_again (Some c) (input.Take from l) e = tt

pub later_ok : Input → ℕ → Bool
later_ok (input.Do c) stamp = true
later_ok (input.Serve name) stamp = true
later_ok (input.Take from l) stamp = nat_lt l.stamp stamp

is_later : (i : Input) (stamp : ℕ) → later_ok i stamp ≡ true → IsLater i stamp
unfolding later_ok
is_later (input.Do c) stamp e = tt
is_later (input.Serve name) stamp e = tt
is_later (input.Take from l) stamp e = is_less l.stamp stamp e

-- ## the next letter

first_in : {X : Type 0} (k : ℕ) (xs : List X) (x : X) (ys : List X) → drop k xs ≡ x ∷ ys → slice_get xs k ≡ Some x
first_in zero [] x ys e = cc
first_in (suc k) [] x ys e = cc
first_in zero (y ∷ xs) x ys e = (let same : y ≡ x = cc in ap Some same)
first_in (suc k) (y ∷ xs) x ys e = first_in k xs x ys e

-- what is taken of letters in flight
abbrev taken_first : ℕ → List Letter → Input
taken_first from [] = input.Serve 0
taken_first from (l ∷ letters) = input.Take from l

next_first : (past : List Event) (from to : ℕ) → length (taken from to past) ≡ length (arrived from to past) → IsNext past to (taken_first from (in_flight from to past))
next_first past from to all = by (in_flight from to past) refl
  where
    by : (letters : List Letter) → in_flight from to past ≡ letters → IsNext past to (taken_first from letters)
    by [] e = tt
    by (l ∷ letters) e = subst (λ (k : ℕ). slice_get (issued from to past) k ≡ Some l) all (first_in (length (taken from to past)) (issued from to past) l letters e)

pub next_ok : List Event → Move → Bool
next_ok past (Do n c) = true
next_ok past (Serve n name) = true
next_ok past (Next from to) = length (taken from to past) == length (arrived from to past)

is_next : (past : List Event) (m : Move) → next_ok past m ≡ true → IsNext past (mover m) (input_of past m)
unfolding next_ok
is_next past (Do n c) e = tt
is_next past (Serve n name) e = tt
is_next past (Next from to) e = next_first past from to (eqb_is (length (taken from to past)) (length (arrived from to past)) e)

-- ## stamps rise

pub stamps_ok : List LinkedEvent → ℕ → ℕ → Bool
stamps_ok [] n stamp = true
stamps_ok (f ∷ past) n stamp = cond (f.node == n) (nat_lt f.stamp stamp) true && stamps_ok past n stamp

stamps_rise : (past : List LinkedEvent) (n stamp : ℕ) → stamps_ok past n stamp ≡ true → (f : LinkedEvent) → Contains past f → f.node ≡ n → f.stamp < stamp
unfolding stamps_ok
stamps_rise [] n stamp e f c same = absurd (nothing_in f c)
stamps_rise (g ∷ past) n stamp e f c same =
    let split : (cond (g.node == n) (nat_lt g.stamp stamp) true ≡ true) × (stamps_ok past n stamp ≡ true) =
    both (cond (g.node == n) (nat_lt g.stamp stamp) true) (stamps_ok past n stamp) e in
    ⊎_elim
    (λ here. let at : (g.node == n) ≡ true = eqb_of (ap (λ (x : LinkedEvent). x.node) here ∙ same) in
    let less : nat_lt g.stamp stamp ≡ true = sym (ap (λ (b : Bool). cond b (nat_lt g.stamp stamp) true) at) ∙ split.0 in
    subst (λ (x : LinkedEvent). x.stamp < stamp) here (is_less g.stamp stamp less))
    (λ there. stamps_rise past n stamp split.1 f there same)
    (one_of g f past c)

-- what any event has to meet
pub event_ok : Setting → List LinkedEvent → ℕ → ℕ → Bool
event_ok st past me stamp =
    (nat_lt me st.nodes && nat_lt (count_by (λ (f : LinkedEvent). f.node == me) past + 1) (2 ^ 55)) && (stamps_ok past me stamp && nat_le stamp (length past + 1))

fits_by : (st : Setting) (past : List LinkedEvent) (e : LinkedEvent) → event_ok st past e.node e.stamp ≡ true → FitsDeed st past e.node e.stamp e.deed → FitsLinked st past e
unfolding event_ok
fits_by st past e ok deed =
    let halves : ((nat_lt e.node st.nodes && nat_lt (count_by (λ (f : LinkedEvent). f.node == e.node) past + 1) (2 ^ 55)) ≡ true)
    × ((stamps_ok past e.node e.stamp && nat_le e.stamp (length past + 1)) ≡ true) =
    both (nat_lt e.node st.nodes && nat_lt (count_by (λ (f : LinkedEvent). f.node == e.node) past + 1) (2 ^ 55)) (stamps_ok past e.node e.stamp && nat_le e.stamp (length past + 1)) ok in
    let first : (nat_lt e.node st.nodes ≡ true) × (nat_lt (count_by (λ (f : LinkedEvent). f.node == e.node) past + 1) (2 ^ 55) ≡ true) =
    both (nat_lt e.node st.nodes) (nat_lt (count_by (λ (f : LinkedEvent). f.node == e.node) past + 1) (2 ^ 55)) halves.0 in
    let second : (stamps_ok past e.node e.stamp ≡ true) × (nat_le e.stamp (length past + 1) ≡ true) =
    both (stamps_ok past e.node e.stamp) (nat_le e.stamp (length past + 1)) halves.1 in
    record {
      a_node = is_less e.node st.nodes first.0;
      few = is_less (count_by (λ (f : LinkedEvent). f.node == e.node) past + 1) (2 ^ 55) first.1;
      rising = stamps_rise past e.node e.stamp second.0;
      early = is_at_most e.stamp (length past + 1) second.1;
      deed = deed;
    }

-- ## plays

-- a play so far is legal, and its nodes know of nothing from 8 on
record IsGood (st : Setting) (p : LinkedPlay) : Type 0 where
  fits : (past rest : List LinkedEvent) (e : LinkedEvent) → past ++ e ∷ rest ≡ p.history → FitsLinked st past e
  steps : ReplaysLinked st (first_linked st) p.history p.nodes
  within : (n : ℕ) → IsWithin 8 (p.nodes n).state
  placed : (n : ℕ) → AreWithin 8 (p.nodes n).places

-- an event of a history with one more at the end is the last, or of those before it
data IsLast (h : List LinkedEvent) (x : LinkedEvent) (past : List LinkedEvent) (e : LinkedEvent) : Type 0 where
  TheLast : h ≡ past → x ≡ e → IsLast h x past e
  Earlier : (rest : List LinkedEvent) → past ++ e ∷ rest ≡ h → IsLast h x past e

last_or_earlier : (h : List LinkedEvent) (x : LinkedEvent) (past rest : List LinkedEvent) (e : LinkedEvent) → past ++ e ∷ rest ≡ h ++ x ∷ [] → IsLast h x past e
last_or_earlier [] x [] rest e is = (let same : x ≡ e = cc in TheLast refl same)
last_or_earlier [] x (y ∷ past) rest e is = (let none : past ++ e ∷ rest ≡ [] = cc in absurd (not_empty past rest e none))
  where
    not_empty : (p r : List LinkedEvent) (e : LinkedEvent) → p ++ e ∷ r ≡ [] → ⊥
    not_empty [] r e h = cc
    not_empty (f ∷ p) r e h = cc
last_or_earlier (y ∷ h) x [] rest e is = (let same : e ≡ y = cc in Earlier h (λ j. same j ∷ h))
last_or_earlier (y ∷ h) x (z ∷ past) rest e is =
    let heads : z ≡ y = cc in
    let tails : past ++ e ∷ rest ≡ h ++ x ∷ [] = cc in
    by (last_or_earlier h x past rest e tails) heads
  where
    by : IsLast h x past e → z ≡ y → IsLast (y ∷ h) x (z ∷ past) e
    by (TheLast same at) heads = TheLast (λ j. sym heads j ∷ same j) at
    by (Earlier more whole) heads = Earlier more (λ j. heads j ∷ whole j)

replays_one_more : (st : Setting) (start mid : ℕ → LinkedNode) (h : List LinkedEvent) (e : LinkedEvent) (n : LinkedNode) →
    ReplaysLinked st start h mid → IsDeed st e.node (mid e.node) e.stamp e.deed n → ReplaysLinked st start (h ++ e ∷ []) (put mid e.node n)
replays_one_more st start mid [] e n r deed = subst (λ (s : ℕ → LinkedNode). ReplaysLinked st s (e ∷ []) (put mid e.node n)) (sym r) (n, deed, refl)
replays_one_more st start mid (f ∷ h) e n r deed = (r.0, r.1, replays_one_more st (put start f.node r.0) mid h e n r.2 deed)

one_more : (st : Setting) (p : LinkedPlay) (e : LinkedEvent) (n : LinkedNode) → IsGood st p → FitsLinked st p.history e →
    IsDeed st e.node (p.nodes e.node) e.stamp e.deed n → IsWithin 8 n.state → AreWithin 8 n.places → IsGood st (record { nodes = put p.nodes e.node n; history = p.history ++ e ∷ [] })
one_more st p e n good fits deed within placed = record {
  fits = λ past rest f whole. by past f (last_or_earlier p.history e past rest f whole);
  steps = replays_one_more st (first_linked st) p.nodes p.history e n good.steps deed;
  within = λ k. at_each (λ (m : LinkedNode). IsWithin 8 m.state) p.nodes e.node n within k (good.within k);
  placed = λ k. at_each (λ (m : LinkedNode). AreWithin 8 m.places) p.nodes e.node n placed k (good.placed k);
}
  where
    by : (past : List LinkedEvent) (f : LinkedEvent) → IsLast p.history e past f → FitsLinked st past f
    by past f (TheLast same at) = subst (λ (l : List LinkedEvent). FitsLinked st l f) same (subst (FitsLinked st p.history) at fits)
    by past f (Earlier rest whole) = good.fits past rest f whole

-- ## moves without a collector

moves : (me : ℕ) (n : Node) (t : Told) (i : Input) (a : NodeAnswer) → MovesTo me n t i a (places_after me n i a)
moves me n t (input.Do c) a = refl
moves me n t (input.Serve name) a = refl
moves me n t (input.Take from l) a = refl

abbrev reaction : Setting → LinkedPlay → ℕ → Input → Reaction
reaction st p me i = rule st me (p.nodes me).state (told_at st me (unlinked (p.nodes me)) i) i

pub plain_ok : Setting → LinkedPlay → ℕ → ℕ → Input → Bool
plain_ok st p me stamp i =
    (event_ok st p.history me stamp && input_ok st i)
    && ((later_ok i stamp && again_ok (waits_with me None (plain_events p.history)) i)
    && (changes_below 8 (changes_of stamp (p.nodes me).state (reaction st p me i)) && input_below 8 me (unlinked (p.nodes me)) i))

plain_good : (st : Setting) (p : LinkedPlay) (me : ℕ) (i : Input) → plain_ok st p me (stamp_after (last_stamp me p.history) i) i ≡ true →
    IsNext (plain_events p.history) me i → IsGood st p → IsGood st (with_move st p me i)
unfolding plain_ok
plain_good st p me i ok next good =
    let stamp : ℕ = stamp_after (last_stamp me p.history) i in
    let o : Reaction = reaction st p me i in
    let halves : ((event_ok st p.history me stamp && input_ok st i) ≡ true)
    × (((later_ok i stamp && again_ok (waits_with me None (plain_events p.history)) i) && (changes_below 8 (changes_of stamp (p.nodes me).state o) && input_below 8 me (unlinked (p.nodes me)) i)) ≡ true) =
    both (event_ok st p.history me stamp && input_ok st i)
    ((later_ok i stamp && again_ok (waits_with me None (plain_events p.history)) i) && (changes_below 8 (changes_of stamp (p.nodes me).state o) && input_below 8 me (unlinked (p.nodes me)) i)) ok in
    let first : (event_ok st p.history me stamp ≡ true) × (input_ok st i ≡ true) = both (event_ok st p.history me stamp) (input_ok st i) halves.0 in
    let second : ((later_ok i stamp && again_ok (waits_with me None (plain_events p.history)) i) ≡ true) × ((changes_below 8 (changes_of stamp (p.nodes me).state o) && input_below 8 me (unlinked (p.nodes me)) i) ≡ true) =
    both (later_ok i stamp && again_ok (waits_with me None (plain_events p.history)) i) (changes_below 8 (changes_of stamp (p.nodes me).state o) && input_below 8 me (unlinked (p.nodes me)) i) halves.1 in
    let fourth : (changes_below 8 (changes_of stamp (p.nodes me).state o) ≡ true) × (input_below 8 me (unlinked (p.nodes me)) i ≡ true) =
    both (changes_below 8 (changes_of stamp (p.nodes me).state o)) (input_below 8 me (unlinked (p.nodes me)) i) second.1 in
    let third : (later_ok i stamp ≡ true) × (again_ok (waits_with me None (plain_events p.history)) i ≡ true) =
    both (later_ok i stamp) (again_ok (waits_with me None (plain_events p.history)) i) second.0 in
    let deed : FitsPlain st p.history me stamp i = record {
      an_input = is_input st i first.1;
      later = is_later i stamp third.0;
      next = next;
      again = is_again (waits_with me None (plain_events p.history)) i third.1;
    } in
    let e : LinkedEvent = record { node = me; stamp = stamp; deed = Plain i (done_of stamp (p.nodes me).state o) } in
    let step : IsStep st me (unlinked (p.nodes me)) stamp i (done_of stamp (p.nodes me).state o) (unlinked (linked_after me (p.nodes me) stamp i o)) = record {
      told = told_at st me (unlinked (p.nodes me)) i;
      is_told = record { full = refl; clash = refl; lies = λ name. refl };
      outcome = refl;
      state = refl;
      places = moves me (unlinked (p.nodes me)) (told_at st me (unlinked (p.nodes me)) i) i o.answer;
    } in
    one_more st p e (linked_after me (p.nodes me) stamp i o) good (fits_by st p.history e first.0 deed) (record { step = step; links = refl })
    (step_within 8 _ (changes_within 8 (changes_of stamp (p.nodes me).state o) (p.nodes me).state fourth.0 (good.within me)))
    (Mapped.step_within 8 me (unlinked (p.nodes me)) i o.answer fourth.1 (good.placed me))

-- ## moves of a collector

-- a collection moves into segments below 8
pub places_ok : ℕ → LinkedNode → ℕ → CollectorTold → Bool
places_ok me n bunch t = collection_below 8 me n.state n.places bunch t.owned t.gone (filter (is_listed t.kept) t.owned)

pub told_ok : Setting → LinkedPlay → ℕ → CollectorInput → Bool
told_ok st p me (Collect bunch) =
    nat_lt bunch (bunches_of st.births) && places_ok me (p.nodes me) bunch (found 8 me (p.nodes me) (Collect bunch))
told_ok st p me Sweep = true
told_ok st p me (MakeTable bunch to) = nat_lt bunch (bunches_of st.births) && nat_lt to st.nodes
told_ok st p me (TakeTable t) = nat_lt t.from st.nodes && (t.to == me && nat_lt (times_taken t p.history) 3)

is_told : (st : Setting) (p : LinkedPlay) (me : ℕ) (i : CollectorInput) → told_ok st p me i ≡ true → IsGood st p → IsCollectorTold me (p.nodes me) i (found 8 me (p.nodes me) i)
unfolding told_ok
is_told st p me (Collect bunch) ok good = found_is_told.collections 8 me bunch (p.nodes me) (good.within me)
is_told st p me Sweep ok good = found_is_told.sweeps 8 me (p.nodes me) (omega arith) (good.placed me)
is_told st p me (MakeTable bunch to) ok good = found_is_told.tables 8 me bunch to (p.nodes me) (good.within me)
is_told st p me (TakeTable t) ok good = found_is_told.takings 8 me t (p.nodes me) (good.within me)

collector_within : (st : Setting) (me stamp : ℕ) (n : LinkedNode) (i : CollectorInput) → IsWithin 8 n.state → IsWithin 8 (collector_rule st me n (found 8 me n i) stamp i).node.state
collector_within st me stamp n (Collect bunch) w = by _ _ (forgotten_within 8 bunch (reached_in 8 8 n.state n.links bunch) n.state w)
  where
    by : (b : Bool) (r : CollectorReaction) → IsWithin 8 r.node.state → IsWithin 8 (cond b (unchanged n (Refused refusal.Full)) r).node.state
    by true r x = w
    by false r x = x
collector_within st me stamp n Sweep w = w
collector_within st me stamp n (MakeTable bunch to) w = w
collector_within st me stamp n (TakeTable t) w = by _ _ (cleaned_within 8 t n.state w)
  where
    by : (b : Bool) (r : CollectorReaction) → IsWithin 8 r.node.state → IsWithin 8 (cond b (unchanged n Stray) r).node.state
    by true r x = w
    by false r x = x

collector_placed : (st : Setting) (p : LinkedPlay) (me stamp : ℕ) (i : CollectorInput) → told_ok st p me i ≡ true → AreWithin 8 (p.nodes me).places →
    AreWithin 8 (collector_rule st me (p.nodes me) (found 8 me (p.nodes me) i) stamp i).node.places
unfolding told_ok places_ok
collector_placed st p me stamp (Collect bunch) ok w = by _ _ (collection_within 8 me (p.nodes me).state (p.nodes me).places bunch _ _ _ below w)
  where
    below : places_ok me (p.nodes me) bunch (found 8 me (p.nodes me) (Collect bunch)) ≡ true
    below =
        (both (nat_lt bunch (bunches_of st.births)) (places_ok me (p.nodes me) bunch (found 8 me (p.nodes me) (Collect bunch))) ok).1

    by : (b : Bool) (r : CollectorReaction) → AreWithin 8 r.node.places → AreWithin 8 (cond b (unchanged (p.nodes me) (Refused refusal.Full)) r).node.places
    by true r x = w
    by false r x = x
collector_placed st p me stamp Sweep ok w = swept_within 8 (found 8 me (p.nodes me) Sweep).dropped (p.nodes me).places w
collector_placed st p me stamp (MakeTable bunch to) ok w = w
collector_placed st p me stamp (TakeTable t) ok w = by _ _ w
  where
    by : (b : Bool) (r : CollectorReaction) → AreWithin 8 r.node.places → AreWithin 8 (cond b (unchanged (p.nodes me) Stray) r).node.places
    by true r x = w
    by false r x = x

table_before : (xs : List Table) (k : ℕ) (t : Table) → slice_get xs k ≡ Some t → Contains xs t
table_before [] k t e = cc
table_before (x ∷ xs) zero t e = (let same : x ≡ t = cc in (0, omega arith, same))
table_before (x ∷ xs) (suc k) t e = behind x t xs (table_before xs k t e)

-- a table that is taken was made before, and earlier
abbrev IsMadeBefore : LinkedPlay → ℕ → CollectorInput → Type 0
IsMadeBefore p stamp (Collect bunch) = Unit {0}
IsMadeBefore p stamp Sweep = Unit {0}
IsMadeBefore p stamp (MakeTable bunch to) = Unit {0}
IsMadeBefore p stamp (TakeTable t) = Contains (tables_made p.history) t × (t.stamp < stamp)

fits_collector : (st : Setting) (p : LinkedPlay) (me stamp : ℕ) (i : CollectorInput) (d : CollectorDone) → told_ok st p me i ≡ true → IsMadeBefore p stamp i →
    FitsCollector st p.history me stamp (Collector i d) i
unfolding told_ok
fits_collector st p me stamp (Collect bunch) d ok before = record { an_input = is_less bunch (bunches_of st.births) (both (nat_lt bunch (bunches_of st.births)) _ ok).0; table = tt }
fits_collector st p me stamp Sweep d ok before = record { an_input = tt; table = tt }
fits_collector st p me stamp (MakeTable bunch to) d ok before =
    let split : (nat_lt bunch (bunches_of st.births) ≡ true) × (nat_lt to st.nodes ≡ true) = both (nat_lt bunch (bunches_of st.births)) (nat_lt to st.nodes) ok in
    record { an_input = (is_less bunch (bunches_of st.births) split.0, is_less to st.nodes split.1); table = tt }
fits_collector st p me stamp (TakeTable t) d ok before =
    let split : (nat_lt t.from st.nodes ≡ true) × ((t.to == me && nat_lt (times_taken t p.history) 3) ≡ true) =
    both (nat_lt t.from st.nodes) (t.to == me && nat_lt (times_taken t p.history) 3) ok in
    let rest : ((t.to == me) ≡ true) × (nat_lt (times_taken t p.history) 3 ≡ true) = both (t.to == me) (nat_lt (times_taken t p.history) 3) split.1 in
    record {
      an_input = is_less t.from st.nodes split.0;
      table = record { made = before.0; here = eqb_is t.to me rest.0; later = before.1; few = is_less (times_taken t p.history) 3 rest.1 };
    }

pub collector_ok : Setting → LinkedPlay → ℕ → ℕ → CollectorInput → Bool
collector_ok st p me stamp i = event_ok st p.history me stamp && told_ok st p me i

collector_good : (st : Setting) (p : LinkedPlay) (me : ℕ) (i : CollectorInput) → collector_ok st p me (stamp_after_it (last_stamp me p.history) i) i ≡ true →
    IsMadeBefore p (stamp_after_it (last_stamp me p.history) i) i → IsGood st p → IsGood st (with_collector st p me i)
unfolding collector_ok
collector_good st p me i ok before good =
    let stamp : ℕ = stamp_after_it (last_stamp me p.history) i in
    let r : CollectorReaction = collector_rule st me (p.nodes me) (found 8 me (p.nodes me) i) stamp i in
    let split : (event_ok st p.history me stamp ≡ true) × (told_ok st p me i ≡ true) = both (event_ok st p.history me stamp) (told_ok st p me i) ok in
    let e : LinkedEvent = record { node = me; stamp = stamp; deed = Collector i (outcome_of r) } in
    let step : IsCollectorStep st me (p.nodes me) stamp i (outcome_of r) (counted r.node) = record {
      told = found 8 me (p.nodes me) i;
      is_told = is_told st p me i split.1 good;
      outcome = refl;
      node = refl;
    } in
    one_more st p e (counted r.node) good (fits_by st p.history e split.0 (fits_collector st p me stamp i (outcome_of r) split.1 before)) step
    (step_within 8 r.node.state (collector_within st me stamp (p.nodes me) i (good.within me)))
    (collector_placed st p me stamp i split.1 (good.placed me))

-- ## all moves

pub taking_ok : Setting → LinkedPlay → ℕ → Option Table → Bool
taking_ok st p me None = true
taking_ok st p me (Some t) =
    nat_lt t.stamp (stamp_after_it (last_stamp me p.history) (TakeTable t)) && collector_ok st p me (stamp_after_it (last_stamp me p.history) (TakeTable t)) (TakeTable t)

pub by_itself_ok : Setting → LinkedPlay → ℕ → CollectorInput → Bool
by_itself_ok st p me (TakeTable t) = false
by_itself_ok st p me (Collect bunch) = collector_ok st p me (stamp_after_it (last_stamp me p.history) (Collect bunch)) (Collect bunch)
by_itself_ok st p me Sweep = collector_ok st p me (stamp_after_it (last_stamp me p.history) Sweep) Sweep
by_itself_ok st p me (MakeTable bunch to) = collector_ok st p me (stamp_after_it (last_stamp me p.history) (MakeTable bunch to)) (MakeTable bunch to)

pub move_ok : Setting → LinkedPlay → LinkedMove → Bool
move_ok st p (Of m) =
    plain_ok st p (mover m) (stamp_after (last_stamp (mover m) p.history) (input_of (plain_events p.history) m)) (input_of (plain_events p.history) m)
    && next_ok (plain_events p.history) m
move_ok st p (By me i) = by_itself_ok st p me i
move_ok st p (Takes me made) = taking_ok st p me (slice_get (tables_made p.history) made)

taking_good : (st : Setting) (p : LinkedPlay) (me made : ℕ) (o : Option Table) → slice_get (tables_made p.history) made ≡ o → taking_ok st p me o ≡ true → IsGood st p → IsGood st (with_taken st p me o)
unfolding taking_ok
taking_good st p me made None is ok good = good
taking_good st p me made (Some t) is ok good =
    let split : (nat_lt t.stamp (stamp_after_it (last_stamp me p.history) (TakeTable t)) ≡ true)
    × (collector_ok st p me (stamp_after_it (last_stamp me p.history) (TakeTable t)) (TakeTable t) ≡ true) =
    both (nat_lt t.stamp (stamp_after_it (last_stamp me p.history) (TakeTable t))) (collector_ok st p me (stamp_after_it (last_stamp me p.history) (TakeTable t)) (TakeTable t)) ok in
    collector_good st p me (TakeTable t) split.1
    (table_before (tables_made p.history) made t is, is_less t.stamp (stamp_after_it (last_stamp me p.history) (TakeTable t)) split.0) good

by_itself_good : (st : Setting) (p : LinkedPlay) (me : ℕ) (i : CollectorInput) → by_itself_ok st p me i ≡ true → IsGood st p → IsGood st (with_collector st p me i)
unfolding by_itself_ok
by_itself_good st p me (TakeTable t) ok good = cc
by_itself_good st p me (Collect bunch) ok good = collector_good st p me (Collect bunch) ok tt good
by_itself_good st p me Sweep ok good = collector_good st p me Sweep ok tt good
by_itself_good st p me (MakeTable bunch to) ok good = collector_good st p me (MakeTable bunch to) ok tt good

move_good : (st : Setting) (p : LinkedPlay) (m : LinkedMove) → move_ok st p m ≡ true → IsGood st p → IsGood st (with_linked_move st p m)
unfolding move_ok
move_good st p (Of m) ok good =
    let i : Input = input_of (plain_events p.history) m in
    let split : (plain_ok st p (mover m) (stamp_after (last_stamp (mover m) p.history) i) i ≡ true) × (next_ok (plain_events p.history) m ≡ true) =
    both (plain_ok st p (mover m) (stamp_after (last_stamp (mover m) p.history) i) i) (next_ok (plain_events p.history) m) ok in
    plain_good st p (mover m) i split.0 (is_next (plain_events p.history) m split.1) good
move_good st p (By me i) ok good = by_itself_good st p me i ok good
move_good st p (Takes me made) ok good = taking_good st p me made (slice_get (tables_made p.history) made) refl ok good

pub moves_ok : Setting → LinkedPlay → List LinkedMove → Bool
moves_ok st p [] = true
moves_ok st p (m ∷ ms) = move_ok st p m && moves_ok st (with_linked_move st p m) ms

moves_good : (st : Setting) (ms : List LinkedMove) (p : LinkedPlay) → moves_ok st p ms ≡ true → IsGood st p → IsGood st (fold (with_linked_move st) p ms)
unfolding moves_ok
moves_good st [] p ok good = good
moves_good st (m ∷ ms) p ok good =
    let split : (move_ok st p m ≡ true) × (moves_ok st (with_linked_move st p m) ms ≡ true) = both (move_ok st p m) (moves_ok st (with_linked_move st p m) ms) ok in
    moves_good st ms (with_linked_move st p m) split.1 (move_good st p m split.0 good)

-- a run whose moves pass is legal
pub legal_by_tests : (st : Setting) (ms : List LinkedMove) → births_below 8 st.births ≡ true → nat_le st.nodes 8 ≡ true → opening_below 8 st ≡ true →
    moves_ok st (record { nodes = first_linked st; history = [] }) ms ≡ true → IsLegalLinked st (played_linked st ms).history
legal_by_tests st ms births nodes opening ok =
    let start : IsGood st (record { nodes = first_linked st; history = [] }) = record {
      fits = λ past rest e whole. absurd (none past rest e whole);
      steps = refl;
      within = λ n. first_within 8 st n births (is_at_most st.nodes 8 nodes);
      placed = λ n. first_placed 8 st n opening;
    } in
    let good : IsGood st (played_linked st ms) = moves_good st ms (record { nodes = first_linked st; history = [] }) ok start in
    record { fits = good.fits; steps = ((played_linked st ms).nodes, good.steps) }
  where
    none : (p r : List LinkedEvent) (e : LinkedEvent) → p ++ e ∷ r ≡ [] → ⊥
    none [] r e h = cc
    none (f ∷ p) r e h = cc

old_addresses_is_legal : IsLegalLinked (one_bunch 2) addresses.at_the_end.history
unfolding moves_ok move_ok by_itself_ok taking_ok collector_ok told_ok places_ok plain_ok event_ok stamps_ok next_ok later_ok again_ok same_command same_operand input_ok command_ok operand_ok address_below placed_below made_below infos_below to_below moves_below births_made_below place_below told_below input_below collection_below opening_below
old_addresses_is_legal = legal_by_tests (one_bunch 2) (map (λ (l : LinkedLine). l.move) addresses.lines) refl refl refl refl

only_a_register_elsewhere_is_legal : IsLegalLinked (one_bunch 2) register_elsewhere.at_the_end.history
unfolding moves_ok move_ok by_itself_ok taking_ok collector_ok told_ok places_ok plain_ok event_ok stamps_ok next_ok later_ok again_ok same_command same_operand input_ok command_ok operand_ok address_below placed_below made_below infos_below to_below moves_below births_made_below place_below told_below input_below collection_below opening_below
only_a_register_elsewhere_is_legal = legal_by_tests (one_bunch 2) (map (λ (l : LinkedLine). l.move) register_elsewhere.lines) refl refl refl refl

a_late_table_is_legal : IsLegalLinked (one_bunch 2) late_table.at_the_end.history
unfolding moves_ok move_ok by_itself_ok taking_ok collector_ok told_ok places_ok plain_ok event_ok stamps_ok next_ok later_ok again_ok same_command same_operand input_ok command_ok operand_ok address_below placed_below made_below infos_below to_below moves_below births_made_below place_below told_below input_below collection_below opening_below
a_late_table_is_legal = legal_by_tests (one_bunch 2) (map (λ (l : LinkedLine). l.move) late_table.lines) refl refl refl refl

between_bunches_is_legal : IsLegalLinked (two_bunches 1) bunches.at_the_end.history
unfolding moves_ok move_ok by_itself_ok taking_ok collector_ok told_ok places_ok plain_ok event_ok stamps_ok next_ok later_ok again_ok same_command same_operand input_ok command_ok operand_ok address_below placed_below made_below infos_below to_below moves_below births_made_below place_below told_below input_below collection_below opening_below
between_bunches_is_legal = legal_by_tests (two_bunches 1) (map (λ (l : LinkedLine). l.move) bunches.lines) refl refl refl refl

pairs_at_two_nodes_is_legal : IsLegalLinked (two_bunches 2) pairs.at_the_end.history
unfolding moves_ok move_ok by_itself_ok taking_ok collector_ok told_ok places_ok plain_ok event_ok stamps_ok next_ok later_ok again_ok same_command same_operand input_ok command_ok operand_ok address_below placed_below made_below infos_below to_below moves_below births_made_below place_below told_below input_below collection_below opening_below
pairs_at_two_nodes_is_legal = legal_by_tests (two_bunches 2) (map (λ (l : LinkedLine). l.move) pairs.lines) refl refl refl refl

a_full_collection_is_legal : IsLegalLinked (record (one_bunch 1) { limit = 2 }) full_collection.at_the_end.history
unfolding moves_ok move_ok by_itself_ok taking_ok collector_ok told_ok places_ok plain_ok event_ok stamps_ok next_ok later_ok again_ok same_command same_operand input_ok command_ok operand_ok address_below placed_below made_below infos_below to_below moves_below births_made_below place_below told_below input_below collection_below opening_below
a_full_collection_is_legal = legal_by_tests (record (one_bunch 1) { limit = 2 }) (map (λ (l : LinkedLine). l.move) full_collection.lines) refl refl refl refl

pub worked_runs_are_legal_linked : WorkedRunsAreLegalLinked
worked_runs_are_legal_linked = record {
  old_addresses = old_addresses_is_legal;
  only_a_register_elsewhere = only_a_register_elsewhere_is_legal;
  a_late_table = a_late_table_is_legal;
  between_bunches = between_bunches_is_legal;
  pairs_at_two_nodes = pairs_at_two_nodes_is_legal;
  a_full_collection = a_full_collection_is_legal;
}
