-- The runs worked by hand are runs of the model: what comes next is a step, or nothing.
use Rattle.std.proofs.Common.{◌≡◌, ◌≢◌, ℕ, arith, refl, ap, sym, subst, Bool, true, false, cond, List, [], ◌∷◌}
use Rattle.std.specs.Prelude.{◌==◌, ◌&&◌, Option, Some, None}
use Rattle.std.proofs.lemmas.Bool.{eqb-false}
use Rattle.bmx_types.specs.declared.numbers.Mode.TheVariants.{Read, Write}
use Rattle.bmx_token.specs.Transitions.{Share, Grants, Acquires, Operation, Transition, transition_of, made_share, heard_share}
use Rattle.bmx_token_model.specs.Machine.{Message, Object, Does, Receives, Run, Stays, Goes, IsFirst, Born, IsFirstElsewhere, Unknown, Heard, IsFirstRecord, Numbers, no_numbers, popped, letter_transition}
use Rattle.bmx_token_model.specs.Tables.{MayClear}
use Rattle.bmx_token_model.specs.Laws.{WantsArePlaced, Gave, Chain, Here, On}
use Rattle.bmx_token_model.proofs.Tallies.{eqb_true}
use Rattle.bmx_token_model.proofs.Stated.{each_want_is_placed}
use Rattle.bmx_token_model.specs.Cases.{Next, Do, Take, after_transition, did, took, next, after, first_holds, opening, letter, asked, handed_over, the_taker_waits, table_of_the_owner, tabled}

-- what comes next is a step of the model, or nothing
did_runs : (o p : Object) → Run o p → (me : ℕ) (a : Operation) (h : Option Share) → p.holds me ≡ h → Run o (did p me a h)
did_runs o p run me a None has = run
did_runs o p run me a (Some h) has = by_transition (transition_of me a h) refl
  where
    by_transition : (t : Option Transition) → transition_of me a h ≡ t → Run o (after_transition p p me t)
    by_transition None is = run
    by_transition (Some t) is = Goes run (Does me false a h t has is refl)

took_runs : (o p : Object) → Run o p → (from me : ℕ) → from ≢ me → (letters : List Message) → p.channel from me ≡ letters → Run o (took p from me letters)
took_runs o p run from me apart [] channel = run
took_runs o p run from me apart (l ∷ rest) channel = by_transition (letter_transition me from l (p.holds me)) refl
  where
    by_transition : (t : Option Transition) → letter_transition me from l (p.holds me) ≡ t → Run o (after_transition p (popped p from me l rest) me t)
    by_transition None is = run
    by_transition (Some t) is = Goes run (Receives from me l rest t apart channel is refl)

next_runs : (o p : Object) → Run o p → (t : Next) → Run o (next p t)
next_runs o p run (Do me a) = did_runs o p run me a (p.holds me) refl
next_runs o p run (Take from me) = by_test (from == me) (eqb-false from me)
  where
    by_test : (t : Bool) → (t ≡ false → from ≢ me) → Run o (cond t p (took p from me (p.channel from me)))
    by_test true apart = run
    by_test false apart = took_runs o p run from me (apart refl) (p.channel from me) refl

after_runs : (o p : Object) → Run o p → (more : List Next) → Run o (after p more)
after_runs o p run [] = run
after_runs o p run (t ∷ more) = after_runs o (next p t) (next_runs o p run t) more

pub nexts_run : (o : Object) (more : List Next) → Run o (after o more)
nexts_run o more = after_runs o o Stays more

-- ## the laws apply to them: they begin where a store opens

pub opens : IsFirst opening
opens = Born
    record { channel = λ n m. refl; issued = λ n m. refl; taken = λ n m. refl; records = λ n m r e. at n m r (n == 0) (m == 1) refl refl e }
    record { owner = refl; others = λ n d. elsewhere n d (n == 0) (n == 1) refl; recorded = λ n e. recorded n (n == 0) (n == 1) e }
  where
    copies : Option Share → Bool
    copies None = false
    copies (Some h) = h.copy

    at : (n m : ℕ) (r : Numbers) (t u : Bool) → (n == 0) ≡ t → (m == 1) ≡ u → cond (t && u) (Some no_numbers) None ≡ Some r → IsFirstRecord opening n m r
    at n m r true true e f g = record {
      here = eqb_true n 0 e;
      heard = subst (λ (z : ℕ). first_holds z ≡ Some (heard_share 0)) (sym (eqb_true m 1 f)) refl;
      numbers = cc;
    }
    at n m r true false e f g = absurd cc
    at n m r false u e f g = absurd cc

    elsewhere : (n : ℕ) → n ≢ 0 → (t u : Bool) → (n == 0) ≡ t → IsFirstElsewhere (cond t (Some made_share) (cond u (Some (heard_share 0)) None))
    elsewhere n d true u e = absurd (d (eqb_true n 0 e))
    elsewhere n d false true e = Heard refl
    elsewhere n d false false e = Unknown refl

    recorded : (n : ℕ) (t u : Bool) → cond t (Some made_share) (cond u (Some (heard_share 0)) None) ≡ Some (heard_share 0) → cond {A = Option Numbers} u (Some no_numbers) None ≡ Some no_numbers
    recorded n true u e = (let both : true ≡ false = ap copies e in absurd cc)
    recorded n false true e = refl
    recorded n false false e = absurd cc

-- so each law holds of them, as that each want stands at one spot where node 1 has asked
its_want_is_placed : WantsArePlaced asked
its_want_is_placed = each_want_is_placed opening asked opens (nexts_run opening (Do 1 (Acquires Read) ∷ []))

-- the taker of ownership leads to its giver
the_taker_leads : Chain handed_over 1 1
the_taker_leads = On the_taker_waits refl refl
    (Here (Gave (heard_share 1) 1 refl refl record { letter = letter 3 (Grants Write); there = (0, omega arith, refl); brings_it = refl }))

-- the record may be cleared by the table
it_may_be_cleared : MayClear tabled 0 1
it_may_be_cleared = record {
  table = table_of_the_owner;
  numbers = record { sent = 1; got = 0 };
  made = (0, omega arith, refl);
  unlisted = refl;
  has = refl;
  taken = omega arith;
  sent = omega arith;
  got = omega arith;
}
