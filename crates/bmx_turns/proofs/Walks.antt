-- The phases of a body, by a walk forwards through it; a node's program is what its phases give it, in order.
use Rattle.std.proofs.Common.{◌≡◌, ℕ, ◌+◌, ◌<◌, refl, ap, sym, ◌∙◌, Bool, true, false, cond, List, [], ◌∷◌, ◌++◌, length, map}
use Rattle.std.specs.Prelude.{◌==◌, slice_get, if◌then◌else◌}
use Rattle.std.specs.List.{flat_map}
use Rattle.std.proofs.lemmas.List.{append-nil, append_assoc, map-append, length-map}
use Rattle.std.proofs.lemmas.List.Concat.{flat_map-append}
use Rattle.std.proofs.lemmas.List.Elements.{filter-append}
use Rattle.bmx_types.specs.declared.commands.Command.{Command}
use Rattle.bmx_protocol.specs.declared.events.Event.{Event}
use Rattle.bmx_protocol.specs.Nodes.{Setting}
use Rattle.bmx_protocol.specs.Runs.Programs.{Body, Gives, Phase, Quiet, Order, Stage, stages, program, program_in, commands_in, completed, DoAll}
use Rattle.bmx_turns.specs.Inside.Walks.{onto}
use Rattle.bmx_turns.proofs.Lists.{slice_get_front, slice_get_behind}
use Rattle.bmx_turns.proofs.Completing.{length_two, completed_all}

-- ## phases

-- each body has a first phase
pub record HasFirst (body : List Body) : Type 0 where
  pub first : Stage
  pub more : List Stage
  pub is : stages body ≡ first ∷ more

pub has_first : (body : List Body) → HasFirst body
has_first [] = record { first = record { commands = []; quiet = false }; more = []; is = refl }
has_first (Gives node line c ∷ body) = more_of (has_first body)
  where
    more_of : HasFirst body → HasFirst (Gives node line c ∷ body)
    more_of h = record {
      first = record { commands = record { node = node; line = line; command = c } ∷ h.first.commands; quiet = h.first.quiet };
      more = h.more;
      is = rw h.is refl;
    }
has_first (Phase ∷ body) = record { first = record { commands = []; quiet = false }; more = stages body; is = refl }
has_first (Quiet ∷ body) = record { first = record { commands = []; quiet = true }; more = stages body; is = refl }

-- a command more in front of a body
stages_gives : (node line : ℕ) (c : Command) (body : List Body) → stages (Gives node line c ∷ body) ≡ onto (record { node = node; line = line; command = c } ∷ []) (stages body)
stages_gives node line c body = by_first (has_first body)
  where
    by_first : HasFirst body → stages (Gives node line c ∷ body) ≡ onto (record { node = node; line = line; command = c } ∷ []) (stages body)
    by_first h = rw h.is refl

onto_twice : (a b : List Order) (ss : List Stage) → onto a (onto b ss) ≡ onto (a ++ b) ss
onto_twice a b [] = refl
onto_twice a b (s ∷ more) = λ i. record { commands = sym (append_assoc a b s.commands) i; quiet = s.quiet } ∷ more

pub onto_nothing : (ss : List Stage) → onto [] ss ≡ ss
onto_nothing [] = refl
onto_nothing (s ∷ more) = refl

pub onto_gives : (commands : List Order) (node line : ℕ) (c : Command) (body : List Body) →
    onto commands (stages (Gives node line c ∷ body)) ≡ onto (commands ++ record { node = node; line = line; command = c } ∷ []) (stages body)
onto_gives commands node line c body =
    ap (onto commands) (stages_gives node line c body) ∙ onto_twice commands (record { node = node; line = line; command = c } ∷ []) (stages body)

-- a phase with all its commands
bare : (commands : List Order) (quiet : Bool) (more : List Stage) → onto commands (record { commands = []; quiet = quiet } ∷ more) ≡ record { commands = commands; quiet = quiet } ∷ more
bare commands quiet more = λ i. record { commands = append-nil commands i; quiet = quiet } ∷ more

pub onto_phase : (commands : List Order) (body : List Body) → onto commands (stages (Phase ∷ body)) ≡ record { commands = commands; quiet = false } ∷ stages body
onto_phase commands body = bare commands false (stages body)

pub onto_quiet : (commands : List Order) (body : List Body) → onto commands (stages (Quiet ∷ body)) ≡ record { commands = commands; quiet = true } ∷ stages body
onto_quiet commands body = bare commands true (stages body)

pub onto_end : (commands : List Order) → onto commands (stages []) ≡ record { commands = commands; quiet = false } ∷ []
onto_end commands = bare commands false []

-- ## programs

-- a node's program of a phase with one command more
pub program_in_one : (commands : List Order) (quiet : Bool) (g : Order) (n : ℕ) →
    program_in (record { commands = commands ++ g ∷ []; quiet = quiet }) n
    ≡ program_in (record { commands = commands; quiet = quiet }) n ++ (if g.node == n then g ∷ [] else [])
program_in_one commands quiet g n = filter-append (λ (h : Order). h.node == n) commands (g ∷ [])

-- a node's programs of phases, one after another
abbrev pub programs_in : List Stage → ℕ → List Order
programs_in ss n = flat_map (λ s. program_in s n) ss

pub program_is : (body : List Body) (n : ℕ) → program body n ≡ programs_in (stages body) n
program_is [] n = refl
program_is (Gives node line c ∷ body) n = by_first (has_first body) (program_is body n)
  where
    g : Order
    g = record { node = node; line = line; command = c }

    by_test : (h : HasFirst body) → program body n ≡ program_in h.first n ++ programs_in h.more n → (b : Bool) →
        cond b (g ∷ program body n) (program body n) ≡ cond b (g ∷ program_in h.first n) (program_in h.first n) ++ programs_in h.more n
    by_test h is true = ap (λ (l : List Order). g ∷ l) is
    by_test h is false = is

    by_first : HasFirst body → program body n ≡ programs_in (stages body) n → program (Gives node line c ∷ body) n ≡ programs_in (stages (Gives node line c ∷ body)) n
    by_first h is =
        by_test h (is ∙ ap (λ (ss : List Stage). programs_in ss n) h.is) (node == n)
        ∙ ap (λ (ss : List Stage). programs_in ss n) (sym (ap (onto (g ∷ [])) h.is)) ∙ ap (λ (ss : List Stage). programs_in ss n) (sym (stages_gives node line c body))
program_is (Phase ∷ body) n = program_is body n
program_is (Quiet ∷ body) n = program_is body n

-- the commands of programs
commands_of : (ss : List Stage) (n : ℕ) → flat_map (λ s. commands_in s n) ss ≡ map (λ (g : Order). g.command) (programs_in ss n)
commands_of [] n = refl
commands_of (s ∷ ss) n =
    ap (λ (l : List Command). commands_in s n ++ l) (commands_of ss n) ∙ sym (map-append (λ (g : Order). g.command) (program_in s n) (programs_in ss n))

-- in phases that are done a node completes as many commands as they give it
pub length_done : (st : Setting) (past : List Event) (ss : List Stage) (events : List Event) → DoAll st past ss events → (n : ℕ) → n < st.nodes →
    length (completed n events) ≡ length (programs_in ss n)
length_done st past ss events all n lt =
    ap (λ (l : List Command). length l) (completed_all st past ss events all n lt ∙ commands_of ss n) ∙ length-map (programs_in ss n) (λ (g : Order). g.command)

-- a node's next command, of its whole program, is the next of the phase that has come
pub next_is : (st : Setting) (body : List Body) (before : List Stage) (s : Stage) (more : List Stage) (past part : List Event) (n : ℕ) →
    stages body ≡ before ++ s ∷ more → DoAll st [] before past → n < st.nodes → length (completed n part) < length (program_in s n) →
    slice_get (program body n) (length (completed n (past ++ part))) ≡ slice_get (program_in s n) (length (completed n part))
next_is st body before s more past part n phases done lt short =
    (λ i. slice_get (whole i) (count i))
    ∙ slice_get_behind (programs_in before n) (program_in s n ++ programs_in more n) (length (completed n part))
    ∙ slice_get_front (program_in s n) (programs_in more n) (length (completed n part)) short
  where
    whole : program body n ≡ programs_in before n ++ (program_in s n ++ programs_in more n)
    whole = program_is body n ∙ ap (λ (ss : List Stage). programs_in ss n) phases ∙ flat_map-append (λ (t : Stage). program_in t n) before (s ∷ more)

    count : length (completed n (past ++ part)) ≡ length (programs_in before n) + length (completed n part)
    count = length_two n past part ∙ ap (λ (k : ℕ). k + length (completed n part)) (length_done st [] before past done n lt)
