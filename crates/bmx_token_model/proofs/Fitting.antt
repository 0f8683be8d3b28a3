-- Letters fit: the first letter in flight to a node from another isn't stray there.
use Rattle.std.proofs.Common.{◌≡◌, ◌≢◌, ◌⊎◌, inl, inr, ℕ, ◌+◌, ◌≤◌, arith, List, [], ◌∷◌, refl, ap, sym, subst, ◌∙◌, Bool, true, false, cond}
use Rattle.std.specs.Prelude.{◌==◌, ◌||◌, is_some, Option, Some, None}
use Rattle.std.specs.Option.{option_map, option_to_list}
use Rattle.std.specs.List.{list_any}
use Rattle.bmx_types.specs.declared.numbers.Mode.{Mode}
use Rattle.bmx_types.specs.declared.numbers.Mode.TheVariants as mode
use Rattle.bmx_token.specs.declared.parts.Role.{Role}
use Rattle.bmx_token.specs.declared.parts.Role.TheVariants.{Owner, Parent}
use Rattle.bmx_token.specs.declared.parts.Part.{Part}
use Rattle.bmx_token.specs.declared.answers.Revoked.{Revoked}
use Rattle.bmx_token.specs.declared.answers.Revoked.TheVariants as revoked_is
use Rattle.bmx_token.specs.Tokens.{request_by, granted_by, inval_by, ack_by}
use Rattle.bmx_token.specs.Transitions.{Share, Note, Asks, Grants, Recalls, Returns, Transition, requested, grant_taken, recalled, returned, note_transition}
use Rattle.bmx_token_model.specs.Machine.{Message, Object, Run, IsFirst, asks, hears, said_transition, letter_transition}
use Rattle.bmx_token_model.specs.Laws.{owned_at, At}
use Rattle.bmx_token.specs.Transitions.{same_mode}
use Rattle.bmx_token_model.proofs.Tallies.{tally, tally-append, recall, return, notes, Cases, Same, Apart, cases, same_true}
use Rattle.bmx_token_model.proofs.Each.{Each}
use Rattle.bmx_token_model.proofs.Owners.{IsSeated, owned_as, seat_at, seated_run}
use Rattle.bmx_token_model.proofs.Times.{times, times-once}
use Rattle.bmx_token_model.proofs.Sound.{IsSound, IsSoundIf}
use Rattle.bmx_token_model.proofs.Views.{waits_of, due_to, due_as}
use Rattle.bmx_token_model.proofs.Shared.{IsShared, read_is_owner, shared_run}
use Rattle.bmx_token_model.proofs.Spots.{Spot, same_spot, Unasked, InFlight, Queued, Granted, IsAlone, alone_elsewhere}
use Rattle.bmx_token_model.proofs.Requests.{IsRequested, ask, granting, stands, unwanting, unwanting_as, wants_or_not, requested_run}
use Rattle.bmx_token_model.proofs.Letters.{Knows}
use Rattle.bmx_token_model.proofs.Asked.{NoAsk, asked_run}

-- there is a transition
abbrev Made : Option Transition → Type 0
Made x = is_some x ≡ true

-- what stands at a spot is wanted there, and stands at no other
record IsWanted (p : Object) (m : Mode) (a : ℕ) (s : Spot) : Type 0 where
  wants : unwanting m (p.holds a) ≡ 0
  alone : (t : Spot) → same_spot s t ≡ false → stands p m a t ≡ 0

wanted : (p : Object) (m : Mode) (a : ℕ) (s : Spot) → IsRequested p → same_spot s Unasked ≡ false → 1 ≤ stands p m a s → IsWanted p m a s
wanted p m a s r other some =
    let x : (s : Spot) × IsAlone (stands p m a) s = r.spots m a in record {
      wants = alone_elsewhere (stands p m a) x.0 s Unasked x.1 some other;
      alone = λ t apart. alone_elsewhere (stands p m a) x.0 s t x.1 some apart;
    }

-- who wants and isn't queued at home isn't the owner
not_owner : (p : Object) (m : Mode) (a : ℕ) (b : Share) → IsRequested p → p.holds a ≡ Some b → unwanting m (p.holds a) ≡ 0 → stands p m a (Queued a) ≡ 0 → b.part.role ≡ Owner → ⊥
not_owner p m a b r has wants none owns = by_mode m wants none
  where
    owned : owned_at (p.holds a) ≡ 1
    owned = ap owned_at has ∙ ap owned_as owns

    by_mode : (m : Mode) → unwanting m (p.holds a) ≡ 0 → stands p m a (Queued a) ≡ 0 → ⊥
    by_mode mode.Read w n = absurd (omega (arith, w, wants_or_not mode.Read (p.holds a), (r.nodes a).no_read owned))
    by_mode mode.Write w n = absurd (omega (arith, w, n, wants_or_not mode.Write (p.holds a), (r.nodes a).joined owned))

-- what is wanted, as its parts
pub wants_it : (m : Mode) (b : Share) → unwanting m (Some b) ≡ 0 → (b.part.want ≡ Some m) × (b.part.ready ≡ false)
wants_it m b h = by_want b.part.want b.part.ready refl refl h
  where
    by_mode : (m n : Mode) → cond {A = ℕ} (same_mode m n) 0 1 ≡ 0 → n ≡ m
    by_mode mode.Read mode.Read e = refl
    by_mode mode.Read mode.Write e = absurd (omega (arith, e))
    by_mode mode.Write mode.Read e = absurd (omega (arith, e))
    by_mode mode.Write mode.Write e = refl

    by_want : (w : Option Mode) (r : Bool) → b.part.want ≡ w → b.part.ready ≡ r → unwanting_as m w r ≡ 0 → (b.part.want ≡ Some m) × (b.part.ready ≡ false)
    by_want None r e f g = absurd (omega (arith, g))
    by_want (Some n) true e f g = absurd (omega (arith, g))
    by_want (Some n) false e f g = (e ∙ ap (λ (z : Mode). Some z) (by_mode m n g), f)

-- ## requests and grants

ask_fits : (p : Object) (from me : ℕ) (m : Mode) (a : ℕ) (b : Share) → IsRequested p → p.holds me ≡ Some b → 1 ≤ tally (ask m a) (notes (p.channel from me)) → Made (note_transition me from (Asks m a) (Some b))
ask_fits p from me m a b r has some = by_role b.part.role refl
  where
    by_role : (role : Role) → b.part.role ≡ role → Made (requested m a b (request_by me b.part a m role).0 (request_by me b.part a m role).1)
    by_role (Parent x) e = refl
    by_role Owner e = by_case (cases me a)
      where
        by_case : Cases me a → Made (requested m a b (request_by me b.part a m Owner).0 (request_by me b.part a m Owner).1)
        by_case (Apart f t) = rw t refl
        by_case (Same f t) =
            let w : IsWanted p m a (InFlight from me) = wanted p m a (InFlight from me) r refl some in
            absurd (not_owner p m a b r (ap p.holds (sym f) ∙ has) w.wants (w.alone (Queued a) refl) e)

grant_fits : (p : Object) (from me : ℕ) (m : Mode) → IsRequested p → 1 ≤ tally (granting m) (notes (p.channel from me)) → Made (note_transition me from (Grants m) (p.holds me))
grant_fits p from me m r some = by_holds (p.holds me) refl w.wants
  where
    w : IsWanted p m me (Granted from)
    w = wanted p m me (Granted from) r refl some

    by_mode : (m : Mode) (b : Share) (x : ℕ) (role : Role) (want : Option Mode) (ready : Bool) → role ≡ Parent x → want ≡ Some m → ready ≡ false →
        Made (grant_taken (granted_by b.part from m role want ready).0 (granted_by b.part from m role want ready).1)
    by_mode mode.Read b x role want ready e f g = rw (e, f, g) refl
    by_mode mode.Write b x role want ready e f g = rw (e, f, g) refl

    by_holds : (h : Option Share) → p.holds me ≡ h → unwanting m h ≡ 0 → Made (note_transition me from (Grants m) h)
    by_holds None e u = absurd (omega (arith, u))
    by_holds (Some b) e u = by_role b.part.role refl
      where
        is : (b.part.want ≡ Some m) × (b.part.ready ≡ false)
        is = wants_it m b u

        by_role : (role : Role) → b.part.role ≡ role → Made (note_transition me from (Grants m) (Some b))
        by_role Owner f = absurd (not_owner p m me b r e w.wants (w.alone (Queued me) refl) f)
        by_role (Parent x) f = by_mode m b x b.part.role b.part.want b.part.ready f is.0 is.1

-- ## recalls and returns

-- who is waited for by a node is waited for by the owner
waiting_owner : (h : Option Share) (x : ℕ) → IsSoundIf h → 1 ≤ times x (waits_of h) → owned_at h ≡ 1
waiting_owner None x s w = absurd (omega (arith, w))
waiting_owner (Some b) x s w = read_is_owner (Some b) x s (omega (arith, w, s.waiting_reads x))

one_owner : (p : Object) (n m : ℕ) → IsSeated p → owned_at (p.holds n) ≡ 1 → owned_at (p.holds m) ≡ 1 → n ≡ m
one_owner p n m (inl e) a b = absurd (omega (arith, a, ap owned_at (e.unknown n)))
one_owner p n m (inr s) a b =
    let here : At n ≡ At m = sym (seat_at p n s.0 s.1 a) ∙ seat_at p m s.0 s.1 b in
    cc

recall_fits : (p : Object) (from me : ℕ) → from ≢ me → IsSeated p → IsShared p → 1 ≤ tally recall (notes (p.channel from me)) → Made (note_transition me from Recalls (p.holds me))
recall_fits p from me apart seated shared some = by_holds (p.holds me) refl
  where
    waited : 1 ≤ times me (waits_of (p.holds from))
    waited = omega (arith, some, (shared.pairs from me).waited)

    owner : owned_at (p.holds from) ≡ 1
    owner = waiting_owner (p.holds from) me (shared.sound from) waited

    once : (h : Option Share) → IsSoundIf h → times me (waits_of h) ≤ 1
    once None s = omega arith
    once (Some b) s = times-once me b.part.waiting s.waiting_rises

    by_holds : (h : Option Share) → p.holds me ≡ h → Made (note_transition me from Recalls h)
    by_holds None e = refl
    by_holds (Some b) e = by_role b.part.role b.part.due refl refl
      where
        not_due : (o : ℕ) → b.part.due ≡ Some o → ⊥
        not_due o d =
            let one : due_to o (p.holds me) ≡ 1 = ap (due_to o) e ∙ ap (due_as o) d ∙ ap (λ (t : Bool). cond {A = ℕ} t 1 0) (same_true o) in
            let there : 1 ≤ times me (waits_of (p.holds o)) = omega (arith, one, (shared.pairs o me).waited) in
            let same : o ≡ from = one_owner p o from seated (waiting_owner (p.holds o) me (shared.sound o) there) owner in
            let here : due_to from (p.holds me) ≡ 1 = subst (λ (z : ℕ). due_to z (p.holds me) ≡ 1) same one in
            absurd (omega (arith, here, some, (shared.pairs from me).waited, once (p.holds from) (shared.sound from)))

        by_copy : (x : ℕ) (copy : Bool) → Made (recalled from b (inval_by b.part from (Parent x) None copy).0 (inval_by b.part from (Parent x) None copy).1)
        by_copy x false = refl
        by_copy x true = by_test (is_some b.part.held || b.part.ready)
          where
            by_test : (t : Bool) → Made (recalled from b (cond {A = Part × Option Revoked} t (record b.part { due = Some from }, Some revoked_is.AtRelease) (b.part, Some revoked_is.Now)).0
                (cond {A = Part × Option Revoked} t (record b.part { due = Some from }, Some revoked_is.AtRelease) (b.part, Some revoked_is.Now)).1)
            by_test true = refl
            by_test false = refl

        by_role : (role : Role) (due : Option ℕ) → b.part.role ≡ role → b.part.due ≡ due → Made (recalled from b (inval_by b.part from role due b.copy).0 (inval_by b.part from role due b.copy).1)
        by_role Owner due f g = absurd (apart (one_owner p from me seated owner (ap owned_at e ∙ ap owned_as f)))
        by_role (Parent x) (Some o) f g = absurd (not_due o g)
        by_role (Parent x) None f g = by_copy x b.copy

pub any_of : (x : ℕ) (nodes : List ℕ) → 1 ≤ times x nodes → list_any (λ node. node == x) nodes ≡ true
any_of x [] h = absurd (omega (arith, h))
any_of x (y ∷ nodes) h = by_case (cases x y) (any_of x nodes)
  where
    by_case : Cases x y → (1 ≤ times x nodes → list_any (λ node. node == x) nodes ≡ true) → ((y == x) || list_any (λ node. node == x) nodes) ≡ true
    by_case (Same e t) ih = rw t refl
    by_case (Apart e t) ih = rw t (ih (later (cases y x)))
      where
        later : Cases y x → 1 ≤ times x nodes
        later (Same f u) = absurd (e (sym f))
        later (Apart f u) = (let more : 1 ≤ cond {A = ℕ} false 1 0 + times x nodes = rw u at h in omega (arith, more))

return_fits : (p : Object) (from me : ℕ) → IsShared p → 1 ≤ tally return (notes (p.channel from me)) → Made (note_transition me from Returns (p.holds me))
return_fits p from me shared some = by_holds (p.holds me) refl waited
  where
    waited : 1 ≤ times from (waits_of (p.holds me))
    waited = omega (arith, some, (shared.pairs me from).waited)

    by_holds : (h : Option Share) → p.holds me ≡ h → 1 ≤ times from (waits_of h) → Made (note_transition me from Returns h)
    by_holds None e w = absurd (omega (arith, w))
    by_holds (Some b) e w = by_role b.part.role refl
      where
        sound : IsSound b
        sound = subst IsSoundIf e (shared.sound me)

        by_role : (role : Role) → b.part.role ≡ role → Made (returned b (ack_by b.part from role).0 (ack_by b.part from role).1)
        by_role Owner f = rw (any_of from b.part.waiting w) refl
        by_role (Parent x) f =
            let none : times from b.part.readers ≡ 0 = ap (times from) (sound.child_alone x f) in
            absurd (omega (arith, none, w, sound.waiting_reads from))

-- ## no letter is stray

-- a transition by a letter is one by its note
heard_made : (tells : Bool) (from : ℕ) (o : Option Transition) → Made o → Made (option_map (λ (t : Transition). record t { after = hears tells from t.after }) o)
heard_made tells from None h = h
heard_made tells from (Some t) h = refl

-- whatever steps are taken from an opening, the first letter in flight to a node from another is taken there
pub never_stray : (o p : Object) → IsFirst o → Run o p → (from me : ℕ) (l : Message) (rest : List Message) → from ≢ me → p.channel from me ≡ l ∷ rest → Made (letter_transition me from l (p.holds me))
never_stray o p first run from me l rest apart channel = heard_made l.tells from (said_transition me from l.note (p.holds me)) (by_said l.note refl)
  where
    requested_p : IsRequested p
    requested_p = requested_run o p first run

    some : (f : Note → ℕ) (n : Note) → l.note ≡ Some n → f n ≤ tally f (notes (p.channel from me))
    some f n e = omega (
      arith,
      ap (λ w. tally f (notes w)) channel ∙ tally-append f (option_to_list l.note) (notes rest),
      ap (λ (x : Option Note). tally f (option_to_list x)) e,
    )

    knows : (m : Mode) (a : ℕ) → l.note ≡ Some (Asks m a) → Knows p me
    knows m a e = by_way ((asked_run o p first run).knows from me)
      where
        by_way : Knows p me ⊎ Each NoAsk (p.channel from me) → Knows p me
        by_way (inl h) = h
        by_way (inr none) =
            let is : asks l ≡ true = ap (λ (x : Option Note). asks (record l { note = x })) e in
            let both : true ≡ false = sym is ∙ (subst (Each NoAsk) channel none).0 in
            absurd cc

    self : (m : Mode) (a : ℕ) → ask m a (Asks m a) ≡ 1
    self mode.Read a = rw (same_true a) refl
    self mode.Write a = rw (same_true a) refl

    grants_self : (m : Mode) → granting m (Grants m) ≡ 1
    grants_self mode.Read = refl
    grants_self mode.Write = refl

    by_holds : (m : Mode) (a : ℕ) → l.note ≡ Some (Asks m a) → (h : Option Share) → p.holds me ≡ h → is_some h ≡ true → Made (note_transition me from (Asks m a) h)
    by_holds m a e None f g = (let both : false ≡ true = g in absurd cc)
    by_holds m a e (Some b) f g = ask_fits p from me m a b requested_p f (omega (arith, self m a, some (ask m a) (Asks m a) e))

    by_said : (note : Option Note) → l.note ≡ note → Made (said_transition me from note (p.holds me))
    by_said None e = refl
    by_said (Some (Asks m a)) e = by_holds m a e (p.holds me) refl (knows m a e)
    by_said (Some (Grants m)) e = grant_fits p from me m requested_p (omega (arith, grants_self m, some (granting m) (Grants m) e))
    by_said (Some Recalls) e = recall_fits p from me apart (seated_run o p first run) (shared_run o p first run) (omega (arith, some recall Recalls e))
    by_said (Some Returns) e = return_fits p from me (shared_run o p first run) (omega (arith, some return Returns e))
