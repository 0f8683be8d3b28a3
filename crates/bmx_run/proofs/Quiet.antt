-- A phase where all is quiet.
use Rattle.std.proofs.Common.{◌≡◌, ℕ, zero, suc, ◌<◌, arith, refl, ap, sym, ◌∙◌, subst, List, [], ◌∷◌, ◌++◌, length, map, None}
use Rattle.std.specs.Prelude.{slice_get, Contains}
use Rattle.bmx_protocol.specs.declared.events.Event.{Event}
use Rattle.bmx_protocol.specs.Nodes.{Setting, AreAll}
use Rattle.bmx_protocol.specs.Steps.{Node}
use Rattle.bmx_protocol.specs.Histories.{AreAfter, in_flight, waits_with}
use Rattle.bmx_protocol.specs.Runs.Programs.{Stage, program_in, completed, CanServe, IsQuiet}
use Rattle.bmx_protocol.proofs.Replayed.{replay_is_determined}
use Rattle.bmx_protocol.specs.Runs.Turns.{ServesName, actions, actions_of, command_action, letter_action, letter_actions}

both_none : {A : Type 0} (a b : List A) → a ≡ [] → b ≡ [] → a ++ b ≡ []
both_none a b h k = ap (λ l. l ++ b) h ∙ k

-- ## letters

-- where nothing is in flight there is no letter to take
none_letters : (history : List Event) (n nodes : ℕ) → ((from : ℕ) → from < nodes → in_flight from n history ≡ []) → letter_actions history n nodes ≡ []
none_letters history n zero h = refl
none_letters history n (suc nodes) h =
    both_none _ _ (none_letters history n nodes (λ from k. h from (omega (arith, k)))) (ap (letter_action n nodes) (h nodes (omega arith)))

-- ## all nodes

none_actions : (st : Setting) (stage : Stage) (past part : List Event) (nodes : ℕ → Node) (names : ℕ → List ℕ) (count : ℕ) →
    ((n : ℕ) → n < count → actions_of st stage past part n (nodes n).state (names n) ≡ []) → actions st stage past part nodes names count ≡ []
none_actions st stage past part nodes names zero h = refl
none_actions st stage past part nodes names (suc count) h =
    both_none _ _ (none_actions st stage past part nodes names count (λ n k. h n (omega (arith, k)))) (h count (omega arith))

-- where it is quiet and nobody has a command to try, no action is enabled
pub none_where_quiet : (st : Setting) (stage : Stage) (past part : List Event) (nodes : ℕ → Node) (names : ℕ → List ℕ) →
    AreAfter st (past ++ part) nodes → ((n : ℕ) → n < st.nodes → AreAll (CanServe n (nodes n).state) (names n)) →
    ((n : ℕ) → n < st.nodes → slice_get (program_in stage n) (length (completed n part)) ≡ None) →
    IsQuiet st (past ++ part) → actions st stage past part nodes names st.nodes ≡ []
none_where_quiet st stage past part nodes names lead served finished quiet =
    none_actions st stage past part nodes names st.nodes (λ n n_is.
    both_none _ _
    (both_none _ _
    (ap (command_action n (nodes n).state (waits_with n None (past ++ part))) (finished n n_is))
    (ap (map (ServesName n)) (no_names n n_is (names n) refl)))
    (none_letters (past ++ part) n st.nodes (λ from from_is. quiet.no_letter from n from_is n_is)))
  where
    same : quiet.nodes ≡ nodes
    same = replay_is_determined st (past ++ part) quiet.nodes nodes quiet.lead lead

    no_names : (n : ℕ) → n < st.nodes → (l : List ℕ) → names n ≡ l → l ≡ []
    no_names n n_is [] e = refl
    no_names n n_is (x ∷ l) e =
        absurd (quiet.no_serve n x n_is (subst (λ (w : ℕ → Node). CanServe n (w n).state x) (sym same)
        (((served n n_is).all x).0 (subst (λ (k : List ℕ). Contains k x) (sym e) (0, omega arith, refl)))))
