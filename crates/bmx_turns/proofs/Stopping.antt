-- Where an event of a serial history stands, and that a run can be stuck in one phase alone: that of its turns.
use Rattle.std.proofs.Common.{◌≡◌, inl, inr, ℕ, ◌+◌, ◌<◌, ◌≤◌, arith, refl, ap, sym, ◌∙◌, subst, zero, suc, Bool, true, false, List, [], ◌∷◌, ◌++◌, length, map}
use Rattle.std.specs.Prelude.{slice_get, Contains, None}
use Rattle.std.proofs.lemmas.List.{append-nil, length-append}
use Rattle.std.proofs.lemmas.List.Concat.{flat_map-append}
use Rattle.bmx_msg.specs.declared.letters.Letter.{Letter}
use Rattle.bmx_protocol.specs.declared.events.Event.{Event}
use Rattle.bmx_protocol.specs.Nodes.{Setting, AreAll}
use Rattle.bmx_protocol.specs.Steps.{Node}
use Rattle.bmx_protocol.specs.Histories.{AreAfter, in_flight, waits_with}
use Rattle.bmx_protocol.specs.Runs.Programs.{Body, Order, Stage, stages, program_in, completed, CanServe, IsQuiet, EndsPhase, BeginsStage, DoesStage, DoAll}
use Rattle.bmx_protocol.specs.Runs.Turns.{ServesName, command_action, letter_action, letter_actions, actions_of, actions, ComesNext, TakesTurns, TakeTurns}
use Rattle.bmx_protocol.proofs.Basics.{Two, Same, Apart, two}
use Rattle.bmx_protocol.proofs.Prefixes.{joined, not_empty}
use Rattle.bmx_protocol.proofs.Replayed.{replay_is_determined}
use Rattle.bmx_turns.specs.Stuck.{IsUnfinished, IsStuck}
use Rattle.bmx_turns.specs.Inside.Growing.{Comes}
use Rattle.bmx_turns.proofs.Lists.{Cuts, Later, Sooner, cuts, first_same, both_empty}
use Rattle.bmx_turns.proofs.Completing.{length_two, does_over}
use Rattle.bmx_turns.proofs.Turning.{takes_prefix}
use Rattle.bmx_turns.proofs.Growing.{comes_first, comes_other, comes_next, comes_serial, comes_short}
use Rattle.bmx_turns.proofs.Walks.{programs_in, length_done}

-- ## where an event stands

-- the phases before an event are done, its own isn't, and it comes next there
pub record StandsIn (st : Setting) (seed : ℕ) (all : List Stage) (history : List Event) (e : Event) : Type 0 where
  pub past : List Event
  pub part : List Event
  pub cut : history ≡ past ++ part
  pub stage : Stage
  pub more : List Stage
  pub comes : Comes st seed all past (stage ∷ more)
  pub takes : TakesTurns st seed past stage part
  pub goes_on : DoesStage st past stage part → ⊥
  pub next : ComesNext st seed stage past part e

stands_within : (st : Setting) (seed : ℕ) (all : List Stage) (past : List Event) (s : Stage) (more : List Stage) (part : List Event) →
    Comes st seed all past (s ∷ more) → TakesTurns st seed past s part → (before rest : List Event) (e : Event) → before ++ e ∷ rest ≡ part →
    StandsIn st seed all (past ++ before) e
stands_within st seed all past s more part c takes before rest e is = record {
  past = past;
  part = before;
  cut = refl;
  stage = s;
  more = more;
  comes = c;
  takes = takes_prefix st seed past s before (e ∷ rest) (subst (TakesTurns st seed past s) (sym is) takes);
  goes_on = (takes before rest e is).0;
  next = (takes before rest e is).1;
}

pub stands_in : (st : Setting) (seed : ℕ) (all : List Stage) (past : List Event) (ss : List Stage) (events : List Event) →
    Comes st seed all past ss → TakeTurns st seed past ss events → (before rest : List Event) (e : Event) → before ++ e ∷ rest ≡ events →
    StandsIn st seed all (past ++ before) e
stands_in st seed all past [] events c none before rest e is = absurd (not_empty before rest e (is ∙ none))
stands_in st seed all past (s ∷ more) events c (inl takes) before rest e is = stands_within st seed all past s more events c takes before rest e is
stands_in st seed all past (s ∷ more) events c (inr (part, later, cut, takes, does, turns)) before rest e is =
    by_cut (cuts part later before (e ∷ rest) (sym cut ∙ sym is))
    (λ z from. stands_in st seed all (past ++ part) more later (comes_next st seed all past s more part c takes does) turns z rest e from)
  where
    by_cut : Cuts part later before (e ∷ rest) → ((z : List Event) → z ++ e ∷ rest ≡ later → StandsIn st seed all ((past ++ part) ++ z) e) → StandsIn st seed all (past ++ before) e
    by_cut (Later z same at) beyond = subst (λ (l : List Event). StandsIn st seed all l e) (joined past part z ∙ (λ i. past ++ sym same i)) (beyond z (sym at))
    by_cut (Sooner g z same at) beyond =
        stands_within st seed all past s more part c takes before z e (ap (λ (x : Event). before ++ x ∷ z) (first_same e g rest (z ++ later) at) ∙ sym same)

-- no history that a serial one goes on from does all phases
pub ends_first : (st : Setting) (seed : ℕ) (all : List Stage) (past rest : List Event) (e : Event) →
    TakeTurns st seed [] all (past ++ e ∷ rest) → DoAll st [] all past → ⊥
ends_first st seed all past rest e serial run = by_place (stands_in st seed all [] all (past ++ e ∷ rest) (comes_first st seed all) serial past rest e refl)
  where
    by_place : StandsIn st seed all past e → ⊥
    by_place x = comes_short st seed all x.past x.stage x.more x.part x.comes x.takes x.goes_on (subst (DoAll st [] all) x.cut run)

-- ## no action is enabled

map_empty : {A B : Type 0} (f : A → B) (xs : List A) → map f xs ≡ [] → xs ≡ []
map_empty f [] h = refl
map_empty f (x ∷ xs) h = absurd cc

below_apart : (n k : ℕ) → n < suc k → (n ≡ k → ⊥) → n < k
below_apart n k lt apart = grind (arith, lt, apart)

-- each node has none then, of each kind
none_at : (st : Setting) (s : Stage) (past part : List Event) (nodes : ℕ → Node) (names : ℕ → List ℕ) (k : ℕ) → actions st s past part nodes names k ≡ [] →
    (n : ℕ) → n < k → actions_of st s past part n (nodes n).state (names n) ≡ []
none_at st s past part nodes names zero none n lt = absurd (omega (arith, lt))
none_at st s past part nodes names (suc k) none n lt = by_two (two n k) (λ none_before below. none_at st s past part nodes names k none_before n below)
  where
    both : (actions st s past part nodes names k ≡ []) × (actions_of st s past part k (nodes k).state (names k) ≡ [])
    both = both_empty (actions st s past part nodes names k) (actions_of st s past part k (nodes k).state (names k)) none

    by_two : Two n k → (actions st s past part nodes names k ≡ [] → n < k → actions_of st s past part n (nodes n).state (names n) ≡ []) →
        actions_of st s past part n (nodes n).state (names n) ≡ []
    by_two (Same e) before = subst (λ (m : ℕ). actions_of st s past part m (nodes m).state (names m) ≡ []) (sym e) both.1
    by_two (Apart h apart) before = before both.0 (below_apart n k lt apart)

letter_none : (m from : ℕ) (letters : List Letter) → letter_action m from letters ≡ [] → letters ≡ []
letter_none m from [] none = refl
letter_none m from (l ∷ letters) none = absurd cc

letters_none : (history : List Event) (m k : ℕ) → letter_actions history m k ≡ [] → (from : ℕ) → from < k → in_flight from m history ≡ []
letters_none history m zero none from lt = absurd (omega (arith, lt))
letters_none history m (suc k) none from lt = by_two (two from k) (λ none_before below. letters_none history m k none_before from below)
  where
    both : (letter_actions history m k ≡ []) × (letter_action m k (in_flight k m history) ≡ [])
    both = both_empty (letter_actions history m k) (letter_action m k (in_flight k m history)) none

    by_two : Two from k → (letter_actions history m k ≡ [] → from < k → in_flight from m history ≡ []) → in_flight from m history ≡ []
    by_two (Same e) before = subst (λ (n : ℕ). in_flight n m history ≡ []) (sym e) (letter_none m k (in_flight k m history) both.1)
    by_two (Apart h apart) before = before both.0 (below_apart from k lt apart)

-- where no action is enabled all is quiet
pub none_is_quiet : (st : Setting) (s : Stage) (past part : List Event) (nodes : ℕ → Node) (names : ℕ → List ℕ) → AreAfter st (past ++ part) nodes →
    ((n : ℕ) → n < st.nodes → AreAll (CanServe n (nodes n).state) (names n)) → actions st s past part nodes names st.nodes ≡ [] → IsQuiet st (past ++ part)
none_is_quiet st s past part nodes names lead served none = record {
  no_letter = λ n m real lt. letters_none (past ++ part) m st.nodes (of_node m lt).1 n real;
  nodes = nodes;
  lead = lead;
  no_serve = λ n name lt serves.
      nowhere name (subst (λ (l : List ℕ). Contains l name) (map_empty (ServesName n) (names n) (of_command n lt).1) (((served n lt).all name).1 serves));
}
  where
    nowhere : (name : ℕ) → Contains [] name → ⊥
    nowhere name (k, below, is) = omega (arith, below)

    of_node : (n : ℕ) → n < st.nodes →
        (command_action n (nodes n).state (waits_with n None (past ++ part)) (slice_get (program_in s n) (length (completed n part))) ++ map (ServesName n) (names n) ≡ [])
        × (letter_actions (past ++ part) n st.nodes ≡ [])
    of_node n lt =
        both_empty
        (command_action n (nodes n).state (waits_with n None (past ++ part)) (slice_get (program_in s n) (length (completed n part))) ++ map (ServesName n) (names n))
        (letter_actions (past ++ part) n st.nodes) (none_at st s past part nodes names st.nodes none n lt)

    of_command : (n : ℕ) → n < st.nodes →
        (command_action n (nodes n).state (waits_with n None (past ++ part)) (slice_get (program_in s n) (length (completed n part))) ≡ []) × (map (ServesName n) (names n) ≡ [])
    of_command n lt =
        both_empty (command_action n (nodes n).state (waits_with n None (past ++ part)) (slice_get (program_in s n) (length (completed n part)))) (map (ServesName n) (names n)) (of_node n lt).0

-- so a phase in which all programs are finished is done then
pub none_is_done : (st : Setting) (s : Stage) (past part : List Event) (nodes : ℕ → Node) (names : ℕ → List ℕ) → AreAfter st (past ++ part) nodes →
    ((n : ℕ) → n < st.nodes → AreAll (CanServe n (nodes n).state) (names n)) → actions st s past part nodes names st.nodes ≡ [] → BeginsStage s part →
    ((n : ℕ) → n < st.nodes → length (completed n part) ≡ length (program_in s n)) → DoesStage st past s part
none_is_done st s past part nodes names lead served none begun each =
    does_over st past s part begun (record { each = each; ended = by_quiet s.quiet })
  where
    by_quiet : (quiet : Bool) → EndsPhase st quiet (past ++ part)
    by_quiet true = none_is_quiet st s past part nodes names lead served none
    by_quiet false = tt

-- lists of all that has a property are empty together
none_listed : (Has : ℕ → Type 0) (xs ys : List ℕ) → AreAll Has xs → AreAll Has ys → ys ≡ [] → xs ≡ []
none_listed Has [] ys all others none = refl
none_listed Has (x ∷ xs) ys all others none = absurd (nowhere (subst (λ (l : List ℕ). Contains l x) none ((others.all x).1 ((all.all x).0 (0, omega arith, refl)))))
  where
    nowhere : Contains [] x → ⊥
    nowhere (k, below, is) = omega (arith, below)

-- two cuts of one history have no action in a phase together: nodes have completed as much in both
record IsAlike (st : Setting) (s t : Stage) (past part old done : List Event) (nodes others : ℕ → Node) (names served : ℕ → List ℕ) : Type 0 where
  stage : s ≡ t
  history : past ++ part ≡ old ++ done
  lead : nodes ≡ others
  counts : (n : ℕ) → n < st.nodes → length (completed n part) ≡ length (completed n done)
  none : (n : ℕ) → n < st.nodes → served n ≡ [] → names n ≡ []

none_of : (st : Setting) (s t : Stage) (past part old done : List Event) (nodes others : ℕ → Node) (names served : ℕ → List ℕ) → IsAlike st s t past part old done nodes others names served →
    (n : ℕ) → n < st.nodes → actions_of st t old done n (others n).state (served n) ≡ [] → actions_of st s past part n (nodes n).state (names n) ≡ []
none_of st s t past part old done nodes others names served a n lt none =
    (λ i. (command i ++ serves i) ++ letters i)
  where
    split : (command_action n (others n).state (waits_with n None (old ++ done)) (slice_get (program_in t n) (length (completed n done))) ++ map (ServesName n) (served n) ≡ [])
        × (letter_actions (old ++ done) n st.nodes ≡ [])
    split =
        both_empty
        (command_action n (others n).state (waits_with n None (old ++ done)) (slice_get (program_in t n) (length (completed n done))) ++ map (ServesName n) (served n))
        (letter_actions (old ++ done) n st.nodes) none

    parts : (command_action n (others n).state (waits_with n None (old ++ done)) (slice_get (program_in t n) (length (completed n done))) ≡ []) × (map (ServesName n) (served n) ≡ [])
    parts =
        both_empty (command_action n (others n).state (waits_with n None (old ++ done)) (slice_get (program_in t n) (length (completed n done)))) (map (ServesName n) (served n)) split.0

    command : command_action n (nodes n).state (waits_with n None (past ++ part)) (slice_get (program_in s n) (length (completed n part))) ≡ []
    command = (λ i. command_action n (a.lead i n).state (waits_with n None (a.history i)) (slice_get (program_in (a.stage i) n) (a.counts n lt i))) ∙ parts.0

    serves : map (ServesName n) (names n) ≡ []
    serves = ap (λ (l : List ℕ). map (ServesName n) l) (a.none n lt (map_empty (ServesName n) (served n) parts.1))

    letters : letter_actions (past ++ part) n st.nodes ≡ []
    letters = ap (λ (l : List Event). letter_actions l n st.nodes) a.history ∙ split.1

none_together : (st : Setting) (s t : Stage) (past part old done : List Event) (nodes others : ℕ → Node) (names served : ℕ → List ℕ) → IsAlike st s t past part old done nodes others names served →
    (k : ℕ) → k ≤ st.nodes → actions st t old done others served k ≡ [] → actions st s past part nodes names k ≡ []
none_together st s t past part old done nodes others names served a zero le none = refl
none_together st s t past part old done nodes others names served a (suc n) le none =
    let both : (actions st t old done others served n ≡ []) × (actions_of st t old done n (others n).state (served n) ≡ []) =
    both_empty (actions st t old done others served n) (actions_of st t old done n (others n).state (served n)) none in
    let before : actions st s past part nodes names n ≡ [] = none_together st s t past part old done nodes others names served a n (omega (arith, le)) both.0 in
    let here : actions_of st s past part n (nodes n).state (names n) ≡ [] = none_of st s t past part old done nodes others names served a n (omega (arith, le)) both.1 in
    λ i. before i ++ here i

-- ## a stuck history is stuck in the phase of its turns

-- in a phase no action is enabled, and the program of some node is unfinished
pub record IsStuckIn (st : Setting) (s : Stage) (past part : List Event) (nodes : ℕ → Node) (names : ℕ → List ℕ) : Type 0 where
  pub none : actions st s past part nodes names st.nodes ≡ []
  pub unfinished : IsUnfinished st s part

module _ (st : Setting) (seed : ℕ) (body : List Body) (past : List Event) (s : Stage) (more : List Stage) (part : List Event) (nodes : ℕ → Node) (names : ℕ → List ℕ)
    (c : Comes st seed (stages body) past (s ∷ more)) (takes : TakesTurns st seed past s part) (goes_on : DoesStage st past s part → ⊥)
    (lead : AreAfter st (past ++ part) nodes) (all_served : (n : ℕ) → n < st.nodes → AreAll (CanServe n (nodes n).state) (names n)) (stuck : IsStuck st body (past ++ part)) where
  -- what a node completed, by both cuts
  counted : (n : ℕ) → n < st.nodes → length (programs_in c.before n) + length (completed n part) ≡ length (programs_in stuck.before n) + length (completed n stuck.part)
  counted n lt =
      ap (λ (k : ℕ). k + length (completed n part)) (sym (length_done st [] c.before past c.done n lt)) ∙ sym (length_two n past part)
      ∙ ap (λ (l : List Event). length (completed n l)) stuck.cut ∙ length_two n stuck.past stuck.part
      ∙ ap (λ (k : ℕ). k + length (completed n stuck.part)) (length_done st [] stuck.before stuck.past stuck.done n lt)

  -- it isn't stuck in an earlier phase: that one is done
  not_earlier : (t : Stage) (z : List Stage) → c.before ≡ stuck.before ++ t ∷ z → stuck.stage ≡ t → ⊥
  not_earlier t z is same = omega (arith, stuck.unfinished.short, counted n stuck.unfinished.real, whole, here, program)
    where
      n : ℕ
      n = stuck.unfinished.node

      whole : length (programs_in c.before n) ≡ length (programs_in stuck.before n) + length (program_in t n ++ programs_in z n)
      whole =
          ap (λ (ss : List Stage). length (programs_in ss n)) is
          ∙ ap (λ (l : List Order). length l) (flat_map-append (λ (u : Stage). program_in u n) stuck.before (t ∷ z))
          ∙ length-append (programs_in stuck.before n) (program_in t n ++ programs_in z n)

      here : length (program_in t n ++ programs_in z n) ≡ length (program_in t n) + length (programs_in z n)
      here = length-append (program_in t n) (programs_in z n)

      program : length (program_in stuck.stage n) ≡ length (program_in t n)
      program = ap (λ (u : Stage). length (program_in u n)) same

  -- nor in a later one: the phase of the turns isn't done
  not_later : (z : List Stage) → stuck.before ≡ c.before ++ s ∷ z → ⊥
  not_later z is = by_part stuck.part refl
    where
      other : Comes st seed (c.before ++ s ∷ z) past (s ∷ z)
      other = comes_other st seed (stages body) past (s ∷ more) (s ∷ z) c

      done : DoAll st [] (c.before ++ s ∷ z) stuck.past
      done = subst (λ (ss : List Stage). DoAll st [] ss stuck.past) is stuck.done

      serial : TakeTurns st seed [] (c.before ++ s ∷ z) (past ++ part)
      serial = comes_serial st seed (c.before ++ s ∷ z) past s z part other takes

      by_part : (l : List Event) → stuck.part ≡ l → ⊥
      by_part [] at =
          comes_short st seed (c.before ++ s ∷ z) past s z part other takes goes_on
          (subst (DoAll st [] (c.before ++ s ∷ z)) (sym (append-nil stuck.past) ∙ (λ i. stuck.past ++ sym at i) ∙ sym stuck.cut) done)
      by_part (e ∷ l) at =
          ends_first st seed (c.before ++ s ∷ z) stuck.past l e
          (subst (TakeTurns st seed [] (c.before ++ s ∷ z)) (stuck.cut ∙ (λ i. stuck.past ++ at i)) serial) done

  here : c.before ≡ stuck.before → s ≡ stuck.stage → IsStuckIn st s past part nodes names
  here before same = record {
    none = none_together st s stuck.stage past part stuck.past stuck.part nodes stuck.nodes names stuck.names alike st.nodes (omega arith) stuck.none;
    unfinished = record {
      node = stuck.unfinished.node;
      real = stuck.unfinished.real;
      short = omega (arith, stuck.unfinished.short, count stuck.unfinished.node stuck.unfinished.real, ap (λ (u : Stage). length (program_in u stuck.unfinished.node)) same);
    };
  }
    where
      count : (n : ℕ) → n < st.nodes → length (completed n part) ≡ length (completed n stuck.part)
      count n lt = (let same_before : length (programs_in c.before n) ≡ length (programs_in stuck.before n) = ap (λ (ss : List Stage). length (programs_in ss n)) before in
          omega (arith, counted n lt, same_before))

      lead_same : nodes ≡ stuck.nodes
      lead_same = replay_is_determined st (past ++ part) nodes stuck.nodes lead stuck.lead

      alike : IsAlike st s stuck.stage past part stuck.past stuck.part nodes stuck.nodes names stuck.names
      alike = record {
        stage = same;
        history = stuck.cut;
        lead = lead_same;
        counts = count;
        none = λ n lt none.
            none_listed (CanServe n (stuck.nodes n).state) (names n) (stuck.names n)
            (subst (λ (f : ℕ → Node). AreAll (CanServe n (f n).state) (names n)) lead_same (all_served n lt)) (stuck.served n lt) none;
      }

  by_phases : Cuts c.before (s ∷ more) stuck.before (stuck.stage ∷ stuck.more) → IsStuckIn st s past part nodes names
  by_phases (Later [] is at) = here (sym (is ∙ append-nil c.before)) (first_same s stuck.stage more stuck.more at)
  by_phases (Later (t ∷ z) is at) = absurd (not_later z (is ∙ (λ i. c.before ++ sym (first_same s t more (z ++ stuck.stage ∷ stuck.more) at) i ∷ z)))
  by_phases (Sooner t z is at) = absurd (not_earlier t z is (first_same stuck.stage t stuck.more (z ++ s ∷ more) at))

  stuck_there : IsStuckIn st s past part nodes names
  stuck_there = by_phases (cuts c.before (s ∷ more) stuck.before (stuck.stage ∷ stuck.more) (sym c.cut ∙ stuck.phases))

-- a run that goes on by turns is stuck only where its present phase has no action and an unfinished program
pub stuck_is_here : (st : Setting) (seed : ℕ) (body : List Body) (past : List Event) (s : Stage) (more : List Stage) (part : List Event) (nodes : ℕ → Node) (names : ℕ → List ℕ) →
    Comes st seed (stages body) past (s ∷ more) → TakesTurns st seed past s part → (DoesStage st past s part → ⊥) → AreAfter st (past ++ part) nodes →
    ((n : ℕ) → n < st.nodes → AreAll (CanServe n (nodes n).state) (names n)) → IsStuck st body (past ++ part) → IsStuckIn st s past part nodes names
stuck_is_here st seed body past s more part nodes names c takes goes_on lead served stuck =
    stuck_there st seed body past s more part nodes names c takes goes_on lead served stuck
