-- A history of two phases that runs its body, one that only follows it, one that only waits, and a first turn.
use Rattle.std.proofs.Common.{◌≡◌, ℕ, ◌<◌, arith, refl, ap, sym, subst, ◌∙◌, inl, false, List, [], ◌∷◌, ◌++◌, take, drop}
use Rattle.std.specs.Prelude.{pos, slice_get, Some, None}
use Rattle.std.proofs.lemmas.List.{append-nil}
use Rattle.bmx_types.specs.declared.commands.Operand.TheVariants as operand
use Rattle.bmx_types.specs.declared.commands.Command.{Command}
use Rattle.bmx_types.specs.declared.commands.Command.TheVariants as command
use Rattle.bmx_protocol.specs.declared.events.Event.{Event}
use Rattle.bmx_protocol.specs.Steps.{command_in}
use Rattle.bmx_protocol.proofs.Prefixes.{not_empty}
use Rattle.rand_pcg.specs.Lcg.{state_after}
use Rattle.rand_core.specs.Pcg32Seed.{pcg32_seed}
use Rattle.rand_core.specs.Steps.{u32_at, word_bytes}
use Rattle.bmx_protocol.specs.declared.inputs.Input.{Input}
use Rattle.bmx_protocol.specs.declared.inputs.Input.TheVariants as input
use Rattle.bmx_protocol.specs.Nodes.{AreAll}
use Rattle.bmx_protocol.specs.Steps.{first_node}
use Rattle.bmx_protocol.specs.Runs.Programs.{CanServe}
use Rattle.bmx_protocol.specs.Runs.Turns.{TriesCommand, ComesNext}
use Rattle.bmx_protocol.proofs.WorldCases.{none_served}
use Rattle.bmx_protocol.specs.Cases.{Do, one_bunch, played}
use Rattle.bmx_protocol.specs.Runs.Programs.{Body, Gives, Phase, Stage, Runs, RunsInPart, BeginsStage, DoesStage, commands_in, completed}

abbrev two_phases : List Body
two_phases = Gives 0 4 (command.Copy 0 (operand.Int (pos 1))) ∷ Phase ∷ Gives 0 6 (command.Copy 1 (operand.Int (pos 2))) ∷ []

abbrev both : List Event
both = (played (one_bunch 1) (Do 0 (command.Copy 0 (operand.Int (pos 1))) ∷ Do 0 (command.Copy 1 (operand.Int (pos 2))) ∷ [])).past

abbrev first : Stage
first = record {
  commands = record { node = 0; line = 4; command = command.Copy 0 (operand.Int (pos 1)) } ∷ [];
  quiet = false;
}

abbrev second : Stage
second = record {
  commands = record { node = 0; line = 6; command = command.Copy 1 (operand.Int (pos 2)) } ∷ [];
  quiet = false;
}

-- the one event of a phase tries the one command of it
one_tried : (s : Stage) (c : Command) (e : Event) → commands_in s e.node ≡ c ∷ [] → command_in e.input ≡ Some c → BeginsStage s (e ∷ [])
one_tried s c e program given [] rest f d is tried =
    let same : f ≡ e = ap (λ (l : List Event). first_or e l) is in
    (λ i. slice_get (commands_in s (same i).node) 0) ∙ ap (λ (l : List Command). slice_get l 0) program
    ∙ sym (given) ∙ (λ i. command_in (sym same i).input) ∙ tried
  where
    first_or : Event → List Event → Event
    first_or d [] = d
    first_or d (x ∷ l) = x
one_tried s c e program given (b ∷ before) rest f d is tried = absurd (not_empty before rest f (ap tail is))
  where
    tail : List Event → List Event
    tail [] = []
    tail (x ∷ l) = l

by_one : (n : ℕ) → n < 1 → n ≡ 0
by_one n h = omega (arith, h)

does_first : DoesStage (one_bunch 1) [] first (take 1 both)
does_first = record {
  begun = one_tried first (command.Copy 0 (operand.Int (pos 1))) _ refl refl;
  done = λ n h. subst (λ (m : ℕ). completed m (take 1 both) ≡ commands_in first m) (sym (by_one n h)) refl;
  ended = tt;
}

does_second : DoesStage (one_bunch 1) (take 1 both) second (drop 1 both)
does_second = record {
  begun = one_tried second (command.Copy 1 (operand.Int (pos 2))) _ refl refl;
  done = λ n h. subst (λ (m : ℕ). completed m (drop 1 both) ≡ commands_in second m) (sym (by_one n h)) refl;
  ended = tt;
}

a_history_runs_its_body : Runs (one_bunch 1) two_phases both
a_history_runs_its_body = (take 1 both, drop 1 both, refl, does_first, (drop 1 both, [], refl, does_second, refl))

a_prefix_follows_it : RunsInPart (one_bunch 1) two_phases (take 1 both)
a_prefix_follows_it = inl does_first.begun

-- ## a wait is followed too

-- node 1 waits for the anchor's token
abbrev waiting : List Event
waiting = (played (one_bunch 2) (Do 1 (command.Read (operand.Anchor 0)) ∷ [])).past

-- its program may begin so
abbrev wants : Stage
wants = record { commands = record { node = 1; line = 4; command = command.Read (operand.Anchor 0) } ∷ []; quiet = false }

a_wait_begins_its_program : BeginsStage wants waiting
a_wait_begins_its_program = one_tried wants (command.Read (operand.Anchor 0)) _ refl refl

-- no other script's history has the wait: that of the empty script least of all
no_other_program : (s : Stage) → commands_in s 1 ≡ [] → BeginsStage s waiting → ⊥
no_other_program s none begun =
    let next : slice_get (commands_in s 1) 0 ≡ Some (command.Read (operand.Anchor 0)) = begun [] [] _ (command.Read (operand.Anchor 0)) refl refl in
    let both : None ≡ Some (command.Read (operand.Anchor 0)) = sym (ap (λ (l : List Command). slice_get l 0) none) ∙ next in
    cc

the_empty_script_is_run_by_no_wait : Runs (one_bunch 2) [] waiting → ⊥
the_empty_script_is_run_by_no_wait (part, later, is, does, end) =
    no_other_program (record { commands = []; quiet = false }) refl
    (subst (BeginsStage (record { commands = []; quiet = false })) (sym (is ∙ ap (λ (l : List Event). part ++ l) end ∙ append-nil part)) does.begun)

-- ## the first turn

abbrev copies : List Body
copies = Gives 0 4 (command.Copy 0 (operand.Int (pos 1))) ∷ []

abbrev copied : List Event
copied = (played (one_bunch 1) (Do 0 (command.Copy 0 (operand.Int (pos 1))) ∷ [])).past

-- nothing can be served at first, so no name is listed
nothing_served : (n : ℕ) → AreAll (CanServe n (first_node (one_bunch 1) n).state) []
nothing_served n = record {
  rising = λ k within. absurd (omega (arith, within));
  all = λ name. (
    λ c. absurd (omega (arith, c.1)),
    λ serves. absurd (none_served (one_bunch 1) n name serves),
  );
}

-- the event is the serial turn's: it is the one action that is enabled
abbrev the_stage : Stage
the_stage = record { commands = record { node = 0; line = 4; command = command.Copy 0 (operand.Int (pos 1)) } ∷ []; quiet = false }

the_first_turn : (e : Event) → copied ≡ e ∷ [] → ComesNext (one_bunch 1) 0 the_stage [] [] e
unfolding state_after pcg32_seed u32_at word_bytes
the_first_turn e is = record {
  nodes = first_node (one_bunch 1);
  lead = refl;
  names = λ n. [];
  served = λ n real. nothing_served n;
  turn = record {
    action = TriesCommand 0 (command.Copy 0 (operand.Int (pos 1)));
    picks = refl;
    by_node = ap (λ (l : List Event). node_of l) (sym is);
    by_input = ap (λ (l : List Event). input_of_first l) (sym is);
  };
}
  where
    node_of : List Event → ℕ
    node_of [] = 0
    node_of (f ∷ l) = f.node

    input_of_first : List Event → Input
    input_of_first [] = input.Serve 0
    input_of_first (f ∷ l) = f.input
