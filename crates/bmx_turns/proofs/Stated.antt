-- The laws.
use Rattle.std.proofs.Common.{◌≡◌, inl, inr, ℕ, ◌+◌, arith, refl, ap, ◌∙◌, subst, List, [], ◌∷◌, ◌++◌, length}
use Rattle.std.proofs.lemmas.List.{length-append}
use Rattle.std.proofs.lemmas.List.Concat.{flat_map-append}
use Rattle.bmx_protocol.specs.declared.events.Event.{Event}
use Rattle.bmx_protocol.specs.Nodes.{Setting}
use Rattle.std.specs.Prelude.{Some}
use Rattle.bmx_protocol.specs.Runs.Programs.{Order, Stage, stages, program_in, completed, DoSome}
use Rattle.bmx_protocol.specs.Runs.Turns.{Action, actions, picked, TakeTurns}
use Rattle.bmx_turns.specs.Stuck.{IsStuck}
use Rattle.bmx_turns.specs.Laws.{SerialFollowsItsScript, SerialEndsFirst, StuckRunsNot, StuckEndsTurns}
use Rattle.bmx_turns.proofs.Completing.{length_two}
use Rattle.bmx_turns.proofs.Turning.{takes_begins}
use Rattle.bmx_turns.proofs.Growing.{comes_first}
use Rattle.bmx_turns.proofs.Walks.{programs_in, length_done}
use Rattle.bmx_turns.proofs.Stopping.{StandsIn, stands_in, ends_first, IsStuckIn, stuck_is_here}

-- ## serial histories follow their script

follow_all : (st : Setting) (seed : ℕ) (past : List Event) (ss : List Stage) (events : List Event) → TakeTurns st seed past ss events → DoSome st past ss events
follow_all st seed past [] events h = h
follow_all st seed past (s ∷ more) events (inl takes) = inl (takes_begins st seed past s events takes)
follow_all st seed past (s ∷ more) events (inr (part, later, is, takes, does, rest)) =
    inr (part, later, is, does, follow_all st seed (past ++ part) more later rest)

pub serial_follows_its_script : SerialFollowsItsScript
serial_follows_its_script st seed body history serial = follow_all st seed [] (stages body) history serial

-- ## they end as soon as they can

pub serial_ends_first : SerialEndsFirst
serial_ends_first st seed body past rest e serial runs = ends_first st seed (stages body) past rest e serial runs

-- ## stuck histories don't run their script

pub stuck_runs_not : StuckRunsNot
stuck_runs_not st body history stuck runs =
    omega (arith, stuck.unfinished.short, whole, parted, counted, cut)
  where
    n : ℕ
    n = stuck.unfinished.node

    whole : length (completed n history) ≡ length (programs_in (stages body) n)
    whole = length_done st [] (stages body) history runs n stuck.unfinished.real

    parted : length (completed n history) ≡ length (programs_in stuck.before n) + length (completed n stuck.part)
    parted =
        ap (λ (l : List Event). length (completed n l)) stuck.cut ∙ length_two n stuck.past stuck.part
        ∙ ap (λ (k : ℕ). k + length (completed n stuck.part)) (length_done st [] stuck.before stuck.past stuck.done n stuck.unfinished.real)

    counted : length (programs_in (stages body) n) ≡ length (programs_in stuck.before n) + length (program_in stuck.stage n ++ programs_in stuck.more n)
    counted =
        ap (λ (ss : List Stage). length (programs_in ss n)) stuck.phases
        ∙ ap (λ (l : List Order). length l) (flat_map-append (λ (t : Stage). program_in t n) stuck.before (stuck.stage ∷ stuck.more))
        ∙ length-append (programs_in stuck.before n) (program_in stuck.stage n ++ programs_in stuck.more n)

    cut : length (program_in stuck.stage n ++ programs_in stuck.more n) ≡ length (program_in stuck.stage n) + length (programs_in stuck.more n)
    cut = length-append (program_in stuck.stage n) (programs_in stuck.more n)

-- ## they are where turns end

pub stuck_ends_turns : StuckEndsTurns
stuck_ends_turns st seed body past rest e serial stuck = by_place (stands_in st seed (stages body) [] (stages body) (past ++ e ∷ rest) (comes_first st seed (stages body)) serial past rest e refl)
  where
    never : (i : ℕ) (l : List Action) (a : Action) → l ≡ [] → picked seed i l ≡ Some a → ⊥
    never i [] a none is = cc
    never i (b ∷ l) a none is = cc

    by_place : StandsIn st seed (stages body) past e → ⊥
    by_place x =
        let t : IsStuckIn st x.stage x.past x.part x.next.nodes x.next.names =
        stuck_is_here st seed body x.past x.stage x.more x.part x.next.nodes x.next.names x.comes x.takes x.goes_on x.next.lead x.next.served
        (subst (IsStuck st body) x.cut stuck) in
        never (length (x.past ++ x.part)) (actions st x.stage x.past x.part x.next.nodes x.next.names st.nodes) x.next.turn.action t.none x.next.turn.picks
