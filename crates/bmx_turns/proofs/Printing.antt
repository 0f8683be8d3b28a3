-- What is printed, and who waits, after one event more.
use Rattle.std.proofs.Common.{◌≡◌, ℕ, ◌+◌, arith, refl, ap, sym, ◌∙◌, Bool, true, false, cond, List, [], ◌∷◌, ◌++◌, length}
use Rattle.std.specs.Prelude.{◌==◌, slice_get, Option, Some, None, if◌then◌else◌}
use Rattle.std.specs.List.{cons_option}
use Rattle.std.proofs.lemmas.Bool.{eqb-true}
use Rattle.std.proofs.lemmas.List.{append-nil, append_assoc}
use Rattle.bmx_types.specs.declared.commands.Command.{Command}
use Rattle.bmx_protocol.specs.declared.events.Event.{Event}
use Rattle.bmx_protocol.specs.Histories.{waits_after, waits_with}
use Rattle.bmx_protocol.specs.Runs.Programs.{Body, program, completion, completed, Output, output_of, output_at, counts_after, outputs, text}

-- ## what is printed

-- what an event prints depends on its node's count alone
pub output_same : (body : List Body) (f g : ℕ → ℕ) (e : Event) (o : Option Command) → f e.node ≡ g e.node → output_at body f e o ≡ output_at body g e o
output_same body f g e None same = refl
output_same body f g e (Some c) same = ap (λ (k : ℕ). output_of (slice_get (program body e.node) k) e.node c e.done.answer) same

-- counts after an event, and then events
counts_first : (counts : ℕ → ℕ) (e : Event) (events : List Event) (n : ℕ) →
    counts_after counts e.node (completion e.input e.done.answer) n + length (completed n events) ≡ counts n + length (completed n (e ∷ events))
counts_first counts e events n = by_option (completion e.input e.done.answer)
  where
    nothing : (b : Bool) → counts n + length (completed n events) ≡ counts n + length (cons_option (cond b None None) (completed n events))
    nothing true = refl
    nothing false = refl

    something : (c : Command) (b : Bool) → (b ≡ true → e.node ≡ n) →
        cond b (counts e.node + 1) (counts n) + length (completed n events) ≡ counts n + length (cons_option (cond b (Some c) None) (completed n events))
    something c true q = (let same : counts e.node ≡ counts n = ap counts (q refl) in omega (arith, same))
    something c false q = refl

    by_option : (o : Option Command) →
        counts_after counts e.node o n + length (completed n events) ≡ counts n + length (cons_option (cond (e.node == n) o None) (completed n events))
    by_option None = nothing (e.node == n)
    by_option (Some c) = something c (e.node == n) (eqb-true e.node n)

pub outputs_one : (body : List Body) (counts : ℕ → ℕ) (events : List Event) (e : Event) →
    outputs body counts (events ++ e ∷ [])
    ≡ outputs body counts events ++ output_at body (λ n. counts n + length (completed n events)) e (completion e.input e.done.answer)
outputs_one body counts [] e =
    append-nil (output_at body counts e (completion e.input e.done.answer))
    ∙ output_same body counts (λ n. counts n + 0) e (completion e.input e.done.answer) (omega arith)
outputs_one body counts (f ∷ events) e =
    ap (λ (l : List Output). here ++ l) (outputs_one body (counts_after counts f.node (completion f.input f.done.answer)) events e)
    ∙ sym (append_assoc here rest (output_at body after e (completion e.input e.done.answer)))
    ∙ ap (λ (l : List Output). (here ++ rest) ++ l)
    (output_same body after (λ n. counts n + length (completed n (f ∷ events))) e (completion e.input e.done.answer) (counts_first counts f events e.node))
  where
    here : List Output
    here = output_at body counts f (completion f.input f.done.answer)

    rest : List Output
    rest = outputs body (counts_after counts f.node (completion f.input f.done.answer)) events

    after : ℕ → ℕ
    after n = counts_after counts f.node (completion f.input f.done.answer) n + length (completed n events)

pub text_one : (body : List Body) (history : List Event) (e : Event) →
    text body (history ++ e ∷ []) ≡ text body history ++ output_at body (λ n. length (completed n history)) e (completion e.input e.done.answer)
text_one body history e =
    outputs_one body (λ _. 0) history e
    ∙ ap (λ (l : List Output). text body history ++ l)
    (output_same body (λ n. 0 + length (completed n history)) (λ n. length (completed n history)) e (completion e.input e.done.answer) (omega arith))

-- an event that completes a command prints what the next of its node's program prints
pub text_completed : (body : List Body) (history : List Event) (e : Event) (c : Command) → completion e.input e.done.answer ≡ Some c →
    text body (history ++ e ∷ []) ≡ text body history ++ output_of (slice_get (program body e.node) (length (completed e.node history))) e.node c e.done.answer
text_completed body history e c some =
    text_one body history e ∙ ap (λ (o : Option Command). text body history ++ output_at body (λ n. length (completed n history)) e o) some

-- others print nothing
pub text_not : (body : List Body) (history : List Event) (e : Event) → completion e.input e.done.answer ≡ None → text body (history ++ e ∷ []) ≡ text body history
text_not body history e none =
    text_one body history e ∙ ap (λ (o : Option Command). text body history ++ output_at body (λ n. length (completed n history)) e o) none
    ∙ append-nil (text body history)

-- ## who waits

pub waits_none : (n : ℕ) → waits_with n None [] ≡ None
waits_none n = refl

pub waits_one : (n : ℕ) (w : Option Command) (past : List Event) (e : Event) →
    waits_with n w (past ++ e ∷ []) ≡ (if e.node == n then waits_after (waits_with n w past) e.input e.done.answer else waits_with n w past)
waits_one n w [] e = refl
waits_one n w (f ∷ past) e = waits_one n (if f.node == n then waits_after w f.input f.done.answer else w) past e
