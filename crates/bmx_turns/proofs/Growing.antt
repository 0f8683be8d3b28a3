-- A run from phase to phase: serial phases end as soon as they can.
use Rattle.std.proofs.Common.{◌≡◌, inl, inr, ℕ, ◌<◌, arith, refl, ap, sym, ◌∙◌, subst, List, [], ◌∷◌, ◌++◌}
use Rattle.std.proofs.lemmas.List.{append-nil, append_cancel_left, append_assoc}
use Rattle.bmx_protocol.specs.declared.events.Event.{Event}
use Rattle.bmx_protocol.specs.Nodes.{Setting, AreAll}
use Rattle.bmx_protocol.specs.Steps.{Node}
use Rattle.bmx_protocol.specs.Histories.{AreAfter}
use Rattle.bmx_protocol.specs.Runs.Programs.{Body, Stage, stages, completed, CanServe, EndsPhase, BeginsStage, DoesStage, DoAll, DoSome}
use Rattle.bmx_protocol.specs.Runs.Turns.{actions, TakesTurns, TakeTurns}
use Rattle.bmx_protocol.proofs.Prefixes.{joined}
use Rattle.bmx_turns.specs.Stuck.{IsUnfinished, IsStuck}
use Rattle.bmx_turns.specs.Inside.Growing.{IsIdle, Delayed, Comes}
use Rattle.bmx_turns.proofs.Lists.{Cuts, Later, Sooner, cuts}
use Rattle.bmx_turns.proofs.Completing.{completed_two, begins_prefix, over_done, do_all_more}
use Rattle.bmx_turns.proofs.Turning.{takes_begins}

-- ## a phase that is cut twice

-- events that complete nothing, and then a phase, do the phase together where they begin it
idle_does : (st : Setting) (past : List Event) (s : Stage) (x p : List Event) → IsIdle st x → DoesStage st (past ++ x) s p → BeginsStage s (x ++ p) → DoesStage st past s (x ++ p)
idle_does st past s x p idle does begun = record {
  begun = begun;
  done = λ n lt. completed_two n x p ∙ (λ i. idle n lt i ++ does.done n lt i);
  ended = subst (EndsPhase st s.quiet) (joined past x p) does.ended;
}

-- a serial phase isn't done before its turns are taken
pub never_sooner : (st : Setting) (seed : ℕ) (past : List Event) (s : Stage) (part x p z : List Event) (e : Event) → TakesTurns st seed past s part →
    IsIdle st x → DoesStage st (past ++ x) s p → (x ++ p) ++ e ∷ z ≡ part → ⊥
never_sooner st seed past s part x p z e takes idle does is =
    (takes (x ++ p) z e is).0
    (idle_does st past s x p idle does (begins_prefix s (x ++ p) (e ∷ z) (subst (BeginsStage s) (sym is) (takes_begins st seed past s part takes))))

-- where the phase is done too, the other cut ends it later, by events that complete nothing
pub record Late (st : Setting) (part other behind later : List Event) : Type 0 where
  pub more : List Event
  pub same : other ≡ part ++ more
  pub rest : behind ≡ more ++ later
  pub none : IsIdle st more

pub ends_late : (st : Setting) (seed : ℕ) (past : List Event) (s : Stage) (part behind x p later : List Event) → TakesTurns st seed past s part → DoesStage st past s part →
    IsIdle st x → DoesStage st (past ++ x) s p → part ++ behind ≡ (x ++ p) ++ later → Late st part (x ++ p) behind later
ends_late st seed past s part behind x p later takes does idle other is = by_cut (cuts part behind (x ++ p) later is)
  where
    by_cut : Cuts part behind (x ++ p) later → Late st part (x ++ p) behind later
    by_cut (Later z same rest) = record {
      more = z;
      same = same;
      rest = rest;
      none = λ n lt.
          append_cancel_left (completed n part) (completed n z) []
          (sym (completed_two n part z) ∙ ap (completed n) (sym same) ∙ completed_two n x p ∙ (λ i. idle n lt i ++ other.done n lt i)
          ∙ sym (does.done n lt) ∙ sym (append-nil (completed n part)));
    }
    by_cut (Sooner e z same rest) = absurd (never_sooner st seed past s part x p z e takes idle other (sym same))

-- ## from phase to phase

pub comes_first : (st : Setting) (seed : ℕ) (all : List Stage) → Comes st seed all [] all
comes_first st seed all = record {
  before = [];
  cut = refl;
  done = refl;
  serial = λ ss events h. h;
  runs = λ ss events h. h;
  parts = λ ss events h. h;
  back = λ ss events h. record { idle = []; later = events; cut = refl; none = λ n lt. refl; does = h };
}

-- the same of other phases to come
pub comes_other : (st : Setting) (seed : ℕ) (all : List Stage) (past : List Event) (rest ss : List Stage) (c : Comes st seed all past rest) → Comes st seed (c.before ++ ss) past ss
comes_other st seed all past rest ss c = record {
  before = c.before;
  cut = refl;
  done = c.done;
  serial = c.serial;
  runs = c.runs;
  parts = c.parts;
  back = c.back;
}

pub comes_next : (st : Setting) (seed : ℕ) (all : List Stage) (past : List Event) (s : Stage) (more : List Stage) (part : List Event) →
    Comes st seed all past (s ∷ more) → TakesTurns st seed past s part → DoesStage st past s part → Comes st seed all (past ++ part) more
comes_next st seed all past s more part c takes does = record {
  before = c.before ++ s ∷ [];
  cut = c.cut ∙ sym (append_assoc c.before (s ∷ []) more);
  done = do_all_more st [] c.before (s ∷ []) past part c.done (part, [], sym (append-nil part), does, refl);
  serial = λ ss events h. moved (λ ts l. TakeTurns st seed [] ts l) ss events (c.serial (s ∷ ss) (part ++ events) (inr (part, events, refl, takes, does, h)));
  runs = λ ss events h. moved (λ ts l. DoAll st [] ts l) ss events (c.runs (s ∷ ss) (part ++ events) (part, events, refl, does, h));
  parts = λ ss events h. moved (λ ts l. DoSome st [] ts l) ss events (c.parts (s ∷ ss) (part ++ events) (inr (part, events, refl, does, h)));
  back = λ ss events h. by_delay ss events (c.back (s ∷ ss) (part ++ events) (moved_back (λ ts l. DoAll st [] ts l) ss events h));
}
  where
    moved : (P : List Stage → List Event → Type 0) (ss : List Stage) (events : List Event) → P (c.before ++ s ∷ ss) (past ++ (part ++ events)) → P ((c.before ++ s ∷ []) ++ ss) ((past ++ part) ++ events)
    moved P ss events h =
        subst (λ (l : List Event). P ((c.before ++ s ∷ []) ++ ss) l) (sym (joined past part events))
        (subst (λ (ts : List Stage). P ts (past ++ (part ++ events))) (sym (append_assoc c.before (s ∷ []) ss)) h)

    moved_back : (P : List Stage → List Event → Type 0) (ss : List Stage) (events : List Event) → P ((c.before ++ s ∷ []) ++ ss) ((past ++ part) ++ events) → P (c.before ++ s ∷ ss) (past ++ (part ++ events))
    moved_back P ss events h =
        subst (λ (l : List Event). P (c.before ++ s ∷ ss) l) (joined past part events)
        (subst (λ (ts : List Stage). P ts ((past ++ part) ++ events)) (append_assoc c.before (s ∷ []) ss) h)

    late : (events x y p later : List Event) → part ++ events ≡ x ++ y → y ≡ p ++ later → IsIdle st x → DoesStage st (past ++ x) s p → Late st part (x ++ p) events later
    late events x y p later cut is idle other =
        ends_late st seed past s part events x p later takes does idle other (cut ∙ ap (λ (l : List Event). x ++ l) is ∙ sym (joined x p later))

    by_late : (ss : List Stage) (events x p later : List Event) → DoAll st ((past ++ x) ++ p) ss later → Late st part (x ++ p) events later → Delayed st (past ++ part) ss events
    by_late ss events x p later rest l = record {
      idle = l.more;
      later = later;
      cut = l.rest;
      none = l.none;
      does = subst (λ (h : List Event). DoAll st h ss later) (joined past x p ∙ (λ i. past ++ l.same i) ∙ sym (joined past part l.more)) rest;
    }

    by_part : (ss : List Stage) (events x y : List Event) → part ++ events ≡ x ++ y → IsIdle st x → DoAll st (past ++ x) (s ∷ ss) y → Delayed st (past ++ part) ss events
    by_part ss events x y cut idle (p, later, is, other, rest) = by_late ss events x p later rest (late events x y p later cut is idle other)

    by_delay : (ss : List Stage) (events : List Event) → Delayed st past (s ∷ ss) (part ++ events) → Delayed st (past ++ part) ss events
    by_delay ss events d = by_part ss events d.idle d.later d.cut d.none d.does

-- ## at the end

-- a run that has done all phases
pub record HasRun (st : Setting) (seed : ℕ) (all : List Stage) (history : List Event) : Type 0 where
  pub serial : TakeTurns st seed [] all history
  pub parts : DoSome st [] all history
  pub runs : DoAll st [] all history

pub comes_last : (st : Setting) (seed : ℕ) (all : List Stage) (past : List Event) → Comes st seed all past [] → HasRun st seed all past
comes_last st seed all past c = record {
  serial = at_all (λ ts l. TakeTurns st seed [] ts l) (c.serial [] [] refl);
  parts = at_all (λ ts l. DoSome st [] ts l) (c.parts [] [] refl);
  runs = at_all (λ ts l. DoAll st [] ts l) (c.runs [] [] refl);
}
  where
    at_all : (P : List Stage → List Event → Type 0) → P (c.before ++ []) (past ++ []) → P all past
    at_all P h = subst (λ (l : List Event). P all l) (append-nil past) (subst (λ (ts : List Stage). P ts (past ++ [])) (sym c.cut) h)

-- ## within a phase

pub comes_serial : (st : Setting) (seed : ℕ) (all : List Stage) (past : List Event) (s : Stage) (more : List Stage) (part : List Event) →
    Comes st seed all past (s ∷ more) → TakesTurns st seed past s part → TakeTurns st seed [] all (past ++ part)
comes_serial st seed all past s more part c takes = subst (λ (ts : List Stage). TakeTurns st seed [] ts (past ++ part)) (sym c.cut) (c.serial (s ∷ more) part (inl takes))

pub comes_some : (st : Setting) (seed : ℕ) (all : List Stage) (past : List Event) (s : Stage) (more : List Stage) (part : List Event) →
    Comes st seed all past (s ∷ more) → BeginsStage s part → DoSome st [] all (past ++ part)
comes_some st seed all past s more part c begun = subst (λ (ts : List Stage). DoSome st [] ts (past ++ part)) (sym c.cut) (c.parts (s ∷ more) part (inl begun))

-- a phase that isn't done at its events is done at none of them, wherever the phases before it end
pub comes_short : (st : Setting) (seed : ℕ) (all : List Stage) (past : List Event) (s : Stage) (more : List Stage) (part : List Event) →
    Comes st seed all past (s ∷ more) → TakesTurns st seed past s part → (DoesStage st past s part → ⊥) → DoAll st [] all (past ++ part) → ⊥
comes_short st seed all past s more part c takes goes_on run = by_delay (c.back (s ∷ more) part (subst (λ (ts : List Stage). DoAll st [] ts (past ++ part)) c.cut run))
  where
    whole : (x p : List Event) → x ++ p ≡ part → IsIdle st x → DoesStage st (past ++ x) s p → ⊥
    whole x p is idle other =
        goes_on (subst (DoesStage st past s) is (idle_does st past s x p idle other (subst (BeginsStage s) (sym is) (takes_begins st seed past s part takes))))

    by_later : (x p later : List Event) → part ≡ (x ++ p) ++ later → IsIdle st x → DoesStage st (past ++ x) s p → ⊥
    by_later x p [] is idle other = whole x p (sym (append-nil (x ++ p)) ∙ sym is) idle other
    by_later x p (e ∷ z) is idle other = never_sooner st seed past s part x p z e takes idle other (sym is)

    by_part : (x y : List Event) → part ≡ x ++ y → IsIdle st x → DoAll st (past ++ x) (s ∷ more) y → ⊥
    by_part x y cut idle (p, later, is, other, rest) = by_later x p later (cut ∙ ap (λ (l : List Event). x ++ l) is ∙ sym (joined x p later)) idle other

    by_delay : Delayed st past (s ∷ more) part → ⊥
    by_delay d = by_part d.idle d.later d.cut d.none d.does

-- a run that stopped in a phase
pub record HasStopped (st : Setting) (seed : ℕ) (all : List Stage) (history : List Event) : Type 0 where
  pub serial : TakeTurns st seed [] all history
  pub parts : DoSome st [] all history
  pub short : DoAll st [] all history → ⊥

pub comes_stopped : (st : Setting) (seed : ℕ) (all : List Stage) (past : List Event) (s : Stage) (more : List Stage) (part : List Event) →
    Comes st seed all past (s ∷ more) → TakesTurns st seed past s part → (DoesStage st past s part → ⊥) → HasStopped st seed all (past ++ part)
comes_stopped st seed all past s more part c takes goes_on = record {
  serial = comes_serial st seed all past s more part c takes;
  parts = comes_some st seed all past s more part c (takes_begins st seed past s part takes);
  short = comes_short st seed all past s more part c takes goes_on;
}

-- ## where nothing can go on

-- a phase in which a program is unfinished isn't done
pub unfinished_goes_on : (st : Setting) (past : List Event) (s : Stage) (part : List Event) → IsUnfinished st s part → DoesStage st past s part → ⊥
unfinished_goes_on st past s part u does = omega (arith, u.short, (over_done st past s part does).each u.node u.real)

pub comes_stuck : (st : Setting) (seed : ℕ) (body : List Body) (past : List Event) (s : Stage) (more : List Stage) (part : List Event) (nodes : ℕ → Node) (names : ℕ → List ℕ) →
    Comes st seed (stages body) past (s ∷ more) → TakesTurns st seed past s part → AreAfter st (past ++ part) nodes →
    ((n : ℕ) → n < st.nodes → AreAll (CanServe n (nodes n).state) (names n)) → actions st s past part nodes names st.nodes ≡ [] → IsUnfinished st s part →
    IsStuck st body (past ++ part)
comes_stuck st seed body past s more part nodes names c takes lead served none unfinished = record {
  past = past;
  part = part;
  cut = refl;
  before = c.before;
  stage = s;
  more = more;
  phases = c.cut;
  done = c.done;
  begun = takes_begins st seed past s part takes;
  nodes = nodes;
  lead = lead;
  names = names;
  served = served;
  none = none;
  unfinished = unfinished;
}
