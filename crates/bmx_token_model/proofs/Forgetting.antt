-- Forgetting: where nothing happens about the token at a node and it has no record, nothing needs what it has.
use Rattle.std.proofs.Common.{◌≡◌, ◌≢◌, ◌⊎◌, inl, inr, ℕ, ◌+◌, ◌≤◌, zero, suc, arith, List, ◌∷◌, ◌++◌, refl, ap, sym, subst, ◌∙◌, Bool, true, false, cond}
use Rattle.std.specs.Prelude.{◌==◌, ◌||◌, is_some, Option, Some, None}
use Rattle.std.specs.Option.{option_to_list}
use Rattle.bmx_types.specs.declared.numbers.Mode.{Mode}
use Rattle.bmx_types.specs.declared.numbers.Mode.TheVariants as mode
use Rattle.bmx_types.specs.Updates.{put}
use Rattle.bmx_token.specs.declared.parts.Role.TheVariants.{Owner}
use Rattle.bmx_token.specs.Transitions.{Share, Note, Asks, Grants, Recalls, Returns}
use Rattle.bmx_token_model.specs.Machine.{Message, Numbers, Object, Run, IsFirst, IsSilent, IsIdle, IsUnneeded, gives, asks}
use Rattle.bmx_token_model.specs.Laws.{owned_at, At}
use Rattle.bmx_token_model.proofs.Tallies.{tally, tally-append, recall, return, handover, notes, notes-append, Cases, Same, Apart, cases, same_true, eqb_true}
use Rattle.bmx_token_model.proofs.Each.{Each, each_there, each_of}
use Rattle.bmx_token_model.proofs.Times.{times}
use Rattle.bmx_token_model.proofs.Roles.{stance, stance_as, Under}
use Rattle.bmx_token_model.proofs.Owners.{IsAt, IsSeated, owned_as, seat_at, owning_owned, seated_run}
use Rattle.bmx_token_model.proofs.Views.{waits_of}
use Rattle.bmx_token_model.proofs.Shared.{IsShared, shared_run}
use Rattle.bmx_token_model.proofs.Spots.{Spot, same_spot, Unasked, InFlight, IsAlone, alone_elsewhere}
use Rattle.bmx_token_model.proofs.Requests.{IsRequested, ask, stands, unwanting, unwanting_as}
use Rattle.bmx_token_model.proofs.Letters.{IsIn, Recorded, NoGift, Knows}
use Rattle.bmx_token_model.proofs.Parents.{IsKnown, known_run, granted_wants, pointed_run}
use Rattle.bmx_token_model.proofs.Asked.{some_brings, fits_there, brings_over, has_record, asked_run}
use Rattle.bmx_token_model.proofs.Chains.{ChainStop, Has, Gave, along, chained_run}

-- ## a node that wants nothing

idle_unwanting : (m : Mode) (h : Share) → h.part.want ≡ None → unwanting m (Some h) ≡ 1
idle_unwanting m h e = ap (λ w. unwanting_as m w h.part.ready) e

-- what it doesn't want stands nowhere
pub not_wanted : (p : Object) (m : Mode) (a : ℕ) (s : Spot) → IsRequested p → unwanting m (p.holds a) ≡ 1 → same_spot s Unasked ≡ false → stands p m a s ≡ 0
not_wanted p m a s r u other = by_number (stands p m a s) refl
  where
    by_number : (x : ℕ) → stands p m a s ≡ x → stands p m a s ≡ 0
    by_number zero e = e
    by_number (suc x) e =
        let z : (s : Spot) × IsAlone (stands p m a) s = r.spots m a in
        let none : unwanting m (p.holds a) ≡ 0 = alone_elsewhere (stands p m a) z.0 s Unasked z.1 (omega (arith, e)) other in
        absurd (omega (arith, none, u))

not_handed : (p : Object) (k a : ℕ) → IsRequested p → unwanting mode.Write (p.holds a) ≡ 1 → tally handover (notes (p.channel k a)) ≡ 0
not_handed p k a r u = by_number (tally handover (notes (p.channel k a))) refl
  where
    by_number : (x : ℕ) → tally handover (notes (p.channel k a)) ≡ x → tally handover (notes (p.channel k a)) ≡ 0
    by_number zero e = e
    by_number (suc x) e = absurd (omega (arith, u, granted_wants p k a r (omega (arith, e))))

-- ## letters of no kind

false_of : (b : Bool) → (b ≡ true → ⊥) → b ≡ false
false_of true f = absurd (f refl)
false_of false f = refl

no_note : (note : Option Note) (tells : Bool) → ((m : Mode) (a : ℕ) → tally (ask m a) (option_to_list note) ≡ 0) → tally recall (option_to_list note) ≡ 0 → tally return (option_to_list note) ≡ 0 →
    tally handover (option_to_list note) ≡ 0 → gives note tells ≡ false → (note ≡ None) × (tells ≡ false)
no_note None tells a c t h g = (refl, g)
no_note (Some (Asks mode.Read b)) tells a c t h g = (let one : cond {A = ℕ} true 1 0 + 0 ≡ 0 = rw (same_true b) at (a mode.Read b) in absurd (omega (arith, one)))
no_note (Some (Asks mode.Write b)) tells a c t h g = (let one : cond {A = ℕ} true 1 0 + 0 ≡ 0 = rw (same_true b) at (a mode.Write b) in absurd (omega (arith, one)))
no_note (Some (Grants mode.Read)) tells a c t h g = absurd cc
no_note (Some (Grants mode.Write)) tells a c t h g = absurd (omega (arith, h))
no_note (Some Recalls) tells a c t h g = absurd (omega (arith, c))
no_note (Some Returns) tells a c t h g = absurd (omega (arith, t))

-- of one letter among many
letter_none : (f : Note → ℕ) (letters : List Message) (l : Message) (before after : List Message) → letters ≡ before ++ l ∷ after → tally f (notes letters) ≡ 0 → tally f (option_to_list l.note) ≡ 0
letter_none f letters l before after e z = omega (
  arith,
  z,
  ap (λ w. tally f (notes w)) e ∙ ap (tally f) (notes-append before (l ∷ after)) ∙ tally-append f (notes before) (notes (l ∷ after)),
  tally-append f (option_to_list l.note) (notes after),
)

-- ## what nothing needs

pub unneeded : (o p : Object) → IsFirst o → Run o p → (me : ℕ) (h : Share) → p.holds me ≡ Some h → IsIdle h.part → ((m : ℕ) → p.entering me m ≡ None) → IsUnneeded p me h
unneeded o p first run me h has idle none = record {
  idle = idle;
  no_record = none;
  no_child = λ m k e f. no_stance m (ap stance e ∙ ap stance_as f);
  no_gift = no_gift;
  no_ask = no_ask;
  alone = λ owns. record { unknown = λ n. unknown owns n (cases n me); untold = λ n k l before after e. silent owns n k l before after e };
}
  where
    known : IsKnown p
    known = known_run o p first run

    shared : IsShared p
    shared = shared_run o p first run

    mine : (m : Mode) → unwanting m (p.holds me) ≡ 1
    mine m = ap (unwanting m) has ∙ idle_unwanting m h idle.want

    not_over : (k : ℕ) → tally handover (notes (p.channel k me)) ≡ 0
    not_over k = not_handed p k me known.requested (mine mode.Write)

    no_stance : (m : ℕ) → stance (p.holds m) ≡ Under me → ⊥
    no_stance m e = by_answer ((pointed_run o p first run).answers m me e)
      where
        by_answer : (is_some (p.entering me m) ≡ true) ⊎ (1 ≤ tally handover (notes (p.channel m me))) → ⊥
        by_answer (inl r) = (let both : false ≡ true = ap (λ (x : Option Numbers). is_some x) (sym (none m)) ∙ r in cc)
        by_answer (inr over) = absurd (omega (arith, over, not_over m))

    no_gift : (m : ℕ) (l : Message) (before after : List Message) → p.channel me m ≡ before ++ l ∷ after → gives l.note l.tells ≡ false
    no_gift m l before after e = false_of (gives l.note l.tells) (λ g.
        subst (λ (r : Option Numbers). IsIn r l.seq) (none m) (each_there (Recorded (p.entering me m)) (p.channel me m) (known.orderly.recorded.channels me m) l before after e g))

    no_ask : (m : ℕ) (l : Message) (before after : List Message) → p.channel m me ≡ before ++ l ∷ after → asks l ≡ false
    no_ask m l before after e = false_of (asks l) (λ a.
        (let front : (has_record p me m || some_brings before) ≡ true = fits_there (has_record p me m) (p.channel m me) l before after e ((asked_run o p first run).fits m me) a in
        let brought : some_brings before ≡ true = ap (λ (x : Option Numbers). is_some x || some_brings before) (sym (none m)) ∙ front in
        let over : tally handover (notes (p.channel m me)) ≡ tally handover (notes before) + tally handover (notes (l ∷ after)) =
        ap (λ w. tally handover (notes w)) e ∙ ap (tally handover) (notes-append before (l ∷ after)) ∙ tally-append handover (notes before) (notes (l ∷ after)) in
        absurd (omega (arith, over, brings_over before brought, not_over m))))

    owned : h.part.role ≡ Owner → owned_at (p.holds me) ≡ 1
    owned e = ap owned_at has ∙ ap owned_as e

    -- the owner is nobody else, and no ownership is in flight
    at_me : h.part.role ≡ Owner → IsAt p (At me)
    at_me e = by_seat (seated_run o p first run)
      where
        by_seat : IsSeated p → IsAt p (At me)
        by_seat (inl empty) = absurd (omega (arith, owned e, ap owned_at (empty.unknown me)))
        by_seat (inr s) = subst (IsAt p) (seat_at p me s.0 s.1 (owned e)) s.1

    no_end : (e : h.part.role ≡ Owner) (n : ℕ) → ChainStop p n → n ≢ me → ⊥
    no_end e n (Has f) d = by_test (n == me) refl ((at_me e).nodes n)
      where
        by_test : (t : Bool) → (n == me) ≡ t → owned_at (p.holds n) ≡ cond t 1 0 → ⊥
        by_test true is g = d (eqb_true n me is)
        by_test false is g = absurd (omega (arith, g, owning_owned (p.holds n) f))
    no_end e n (Gave k over) d = absurd (omega (arith, over, (at_me e).mail n k))

    stranger : h.part.role ≡ Owner → (n : ℕ) → n ≢ me → p.holds n ≡ None
    stranger e n d = by_holds (p.holds n) refl
      where
        by_holds : (k : Option Share) → p.holds n ≡ k → k ≡ None
        by_holds None f = refl
        by_holds (Some k) f = absurd (along p (λ n. n ≢ me → ⊥) (no_end e) (λ n j g r c. r (λ i. no_stance n (g ∙ ap (λ (z : ℕ). Under z) i))) n
            ((chained_run o p first run).chains n (ap (λ (x : Option Share). is_some x) f)) d)

    unknown : h.part.role ≡ Owner → (n : ℕ) → Cases n me → put p.holds me None n ≡ None
    unknown e n (Same f t) = rw t refl
    unknown e n (Apart f t) = rw t (stranger e n f)

    nobody_wants : h.part.role ≡ Owner → (m : Mode) (a : ℕ) → unwanting m (p.holds a) ≡ 1
    nobody_wants e m a = by_case (cases a me)
      where
        by_case : Cases a me → unwanting m (p.holds a) ≡ 1
        by_case (Same f t) = subst (λ (z : ℕ). unwanting m (p.holds z) ≡ 1) (sym f) (mine m)
        by_case (Apart f t) = ap (unwanting m) (stranger e a f)

    nobody_waits : h.part.role ≡ Owner → (n k : ℕ) → times k (waits_of (p.holds n)) ≡ 0
    nobody_waits e n k = by_case (cases n me)
      where
        by_case : Cases n me → times k (waits_of (p.holds n)) ≡ 0
        by_case (Same f t) = ap (λ (z : ℕ). times k (waits_of (p.holds z))) f ∙ ap (λ x. times k (waits_of x)) has ∙ ap (times k) idle.waiting
        by_case (Apart f t) = ap (λ x. times k (waits_of x)) (stranger e n f)

    ungiven : h.part.role ≡ Owner → (n k : ℕ) → Each NoGift (p.channel n k)
    ungiven e n k = by_knows (known.giving.channels n k) (cases n me)
      where
        by_knows : Knows p n ⊎ Each NoGift (p.channel n k) → Cases n me → Each NoGift (p.channel n k)
        by_knows (inr g) c = g
        by_knows (inl g) (Same f t) = subst (λ (z : ℕ). Each NoGift (p.channel z k)) (sym f) (each_of NoGift (p.channel me k) (no_gift k))
        by_knows (inl g) (Apart f t) = (let both : false ≡ true = ap (λ (x : Option Share). is_some x) (sym (stranger e n f)) ∙ g in absurd cc)

    silent : h.part.role ≡ Owner → (n k : ℕ) (l : Message) (before after : List Message) → p.channel n k ≡ before ++ l ∷ after → IsSilent l
    silent e n k l before after f = record { note = is.0; tells = is.1 }
      where
        at : (g : Note → ℕ) → tally g (notes (p.channel n k)) ≡ 0 → tally g (option_to_list l.note) ≡ 0
        at g z = letter_none g (p.channel n k) l before after f z

        is : (l.note ≡ None) × (l.tells ≡ false)
        is = no_note l.note l.tells
            (λ m a. at (ask m a) (not_wanted p m a (InFlight n k) known.requested (nobody_wants e m a) refl))
            (at recall (omega (arith, (shared.pairs n k).waited, nobody_waits e n k)))
            (at return (omega (arith, (shared.pairs k n).waited, nobody_waits e k n)))
            (at handover (not_handed p n k known.requested (nobody_wants e mode.Write k)))
            (each_there NoGift (p.channel n k) (ungiven e n k) l before after f)
