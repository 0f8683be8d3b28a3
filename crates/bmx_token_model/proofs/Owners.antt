-- One owner: each step keeps that ownership is at one place, or that the object is nowhere.
use Rattle.std.proofs.Common.{◌≡◌, ◌≢◌, ◌⊎◌, inl, inr, ℕ, ◌+◌, ◌≤◌, arith, List, [], ◌∷◌, map, refl, ap, sym, subst, ◌∙◌, Bool, true, false, cond}
use Rattle.std.specs.Prelude.{◌==◌, ◌&&◌, if◌then◌else◌, Option, Some, None}
use Rattle.std.specs.Option.{option_to_list}
use Rattle.bmx_types.specs.declared.numbers.Mode.TheVariants.{Write}
use Rattle.bmx_types.specs.Updates.{put, put_at}
use Rattle.bmx_token.specs.declared.parts.Ask.{Ask}
use Rattle.bmx_token.specs.declared.parts.Role.{Role}
use Rattle.bmx_token.specs.declared.parts.Role.TheVariants.{Owner, Parent}
use Rattle.bmx_token.specs.Transitions.{Share, Note, Asks, Grants, send, Transition, silently, made_share}
use Rattle.bmx_token_model.specs.Machine.{Message, Object, Step, Run, IsFirst, Absent, Born, IsFirstElsewhere, Unknown, Heard, IsSilent, IsNowhere, IsUnneeded, with_holding, issue, moved, popped, letter_transition}
use Rattle.bmx_token_model.specs.Machine as machine
use Rattle.bmx_token_model.specs.Laws.{is_owner, owned_at, Seat, At, Moving, is_at, is_moving, IsOwned, HasOneSeat, OwnershipIsOne}
use Rattle.bmx_token_model.proofs.Tallies.{tally, handover, notes, handovers_in-tally, Cases, Same, Apart, cases, eqb_true, swapped}
use Rattle.bmx_token_model.proofs.Roles.{Stance, Absent, Owning, Under, stance, stance_as, Looks, Stays, Meets, Transits as Looking, Gains as Gaining, Hands as Handing, acts_look}
use Rattle.bmx_token_model.proofs.Handlers.{some_is}
use Rattle.bmx_token_model.proofs.Moves.{notes_to, sent, came, Moves, Acted, Changes, Makes, Transits, Forgets, step_changes, makes_moves, kept_run, tally-came, came-here, tally-sent, came-nothing, sent-nothing, tally-before, tally-after, tally-send, asks-send}
use Rattle.bmx_token_model.proofs.Each.{Each, EachWay, each_there, each_of, issue_each, popped_each}

-- ## what an act does with ownership

pub data Owns (taken : Option Note) (h : Option Share) (t : Transition) : Type 0 where
  Keeps : owned_at t.after ≡ owned_at h → tally handover (option_to_list taken) ≡ 0 → ((k : ℕ) → tally handover (notes_to k t.sends) ≡ 0) → Owns taken h t
  Hands : (to : ℕ) → owned_at h ≡ 1 → owned_at t.after ≡ 0 → tally handover (option_to_list taken) ≡ 0 →
      ((k : ℕ) → tally handover (notes_to k t.sends) ≡ (if to == k then 1 else 0)) → Owns taken h t
  Gains : owned_at t.after ≡ 1 → tally handover (option_to_list taken) ≡ 1 → ((k : ℕ) → tally handover (notes_to k t.sends) ≡ 0) → Owns taken h t

abbrev is_owning : Stance → Bool
is_owning Absent = false
is_owning Owning = true
is_owning (Under p) = false

abbrev pub owned_as : Role → ℕ
owned_as r = if is_owner r then 1 else 0

pub write_sends_one : (k to : ℕ) (rest : List Ask) →
    tally handover (notes_to k (send to (Grants Write) ∷ map (λ (a : Ask). send to (Asks a.mode a.asker)) rest)) ≡ cond (to == k) 1 0
write_sends_one k to rest =
    tally-send handover k to (Grants Write) (map (λ (a : Ask). send to (Asks a.mode a.asker)) rest)
    ∙ omega (arith, asks-send handover (λ m asker. refl) k to rest)

pub owned_stance : (h : Option Share) → owned_at h ≡ (if is_owning (stance h) then 1 else 0)
owned_stance None = refl
owned_stance (Some h) = by_role h.part.role
  where
    by_role : (r : Role) → owned_as r ≡ cond {A = ℕ} (is_owning (stance_as r)) 1 0
    by_role Owner = refl
    by_role (Parent p) = refl

owned_by : (h : Option Share) (s : Stance) → stance h ≡ s → owned_at h ≡ cond {A = ℕ} (is_owning s) 1 0
owned_by h s e = owned_stance h ∙ ap (λ z. cond {A = ℕ} (is_owning z) 1 0) e

pub owning_owned : (h : Option Share) → stance h ≡ Owning → owned_at h ≡ 1
owning_owned h e = owned_by h Owning e

pub owned_owning : (h : Option Share) → owned_at h ≡ 1 → stance h ≡ Owning
owned_owning None e = absurd (omega (arith, e))
owned_owning (Some b) e = by_role b.part.role e
  where
    by_role : (r : Role) → owned_as r ≡ 1 → stance_as r ≡ Owning
    by_role Owner f = refl
    by_role (Parent p) f = absurd (omega (arith, f))

owns : (from : ℕ) (taken : Option Note) (tells : Bool) (h : Option Share) (t : Transition) → Looks from taken tells h t → Owns taken h t
owns from taken tells h t (Stays e x l) = Keeps (owned_by t.after (stance h) e ∙ sym (owned_stance h)) x l
owns from taken tells h t (Meets e f g x l) = Keeps (owned_by t.after (Under from) f ∙ sym (owned_by h Absent e)) x l
owns from taken tells h t (Looking p e f x s) = Keeps (owned_by t.after (Under from) f ∙ sym (owned_by h (Under p) e)) (ap (λ n. tally handover (option_to_list n)) x) (λ k. ap (λ n. tally handover (notes_to k n)) s)
owns from taken tells h t (Gaining p e f x s) = Gains (owned_by t.after Owning f) (ap (λ n. tally handover (option_to_list n)) x) (λ k. ap (λ n. tally handover (notes_to k n)) s)
owns from taken tells h t (Handing to rest e f x s) =
    Hands to (owned_by h Owning e) (owned_by t.after (Under to) f) (ap (λ n. tally handover (option_to_list n)) x) (λ k. ap (λ n. tally handover (notes_to k n)) s ∙ write_sends_one k to rest)

-- ## where ownership is

-- IsOwned, by the notes
pub record IsAt (o : Object) (s : Seat) : Type 0 where
  pub nodes : (n : ℕ) → owned_at (o.holds n) ≡ (if is_at s n then 1 else 0)
  pub mail : (n k : ℕ) → tally handover (notes (o.channel n k)) ≡ (if is_moving s n k then 1 else 0)

abbrev pub IsSeated : Object → Type 0
IsSeated o = IsNowhere o ⊎ ((s : Seat) × IsAt o s)

pub silent_ways : (o : Object) → IsNowhere o → EachWay (λ n m. IsSilent) o.channel
silent_ways o h n m = each_of IsSilent (o.channel n m) (h.untold n m)

-- no note is in a channel where the object is nowhere
pub nothing_said : (o : Object) → IsNowhere o → (n k : ℕ) → notes (o.channel n k) ≡ []
nothing_said o h n k = none (o.channel n k) (silent_ways o h n k)
  where
    none : (letters : List Message) → Each IsSilent letters → notes letters ≡ []
    none [] e = refl
    none (l ∷ letters) e = rw (e.0.note, none letters e.1) refl

-- what node n has after the act
holds_after : (o p : Object) (me : ℕ) (after : Option Share) (n : ℕ) → p.holds n ≡ put o.holds me after n →
    owned_at (p.holds n) ≡ cond (me == n) (owned_at after) (owned_at (o.holds n))
holds_after o p me after n e = ap owned_at e ∙ by_test (me == n)
  where
    by_test : (t : Bool) → owned_at (cond t after (o.holds n)) ≡ cond t (owned_at after) (owned_at (o.holds n))
    by_test true = refl
    by_test false = refl

keeps_seat : (o p : Object) (me from : ℕ) (taken : Option Note) (t : Transition) (s : Seat) → Moves o p me from taken t → IsAt o s →
    owned_at t.after ≡ owned_at (o.holds me) → tally handover (option_to_list taken) ≡ 0 → ((k : ℕ) → tally handover (notes_to k t.sends) ≡ 0) → IsAt p s
keeps_seat o p me from taken t s moves at same x none = record {
  nodes = λ n. holds_after o p me t.after n (moves.holds n) ∙ by_node n (cases n me) ∙ at.nodes n;
  mail = λ n k. omega (
    arith,
    tally-before handover o p me from taken t moves n k,
    tally-after handover o p me from taken t moves n k,
    came-nothing handover from me taken n k x,
    sent-nothing handover me t.sends n k (none k),
    at.mail n k,
  );
}
  where
    by_node : (n : ℕ) → Cases n me → cond (me == n) (owned_at t.after) (owned_at (o.holds n)) ≡ owned_at (o.holds n)
    by_node n (Same e u) = rw u (same ∙ ap (λ (x : ℕ). owned_at (o.holds x)) (sym e))
    by_node n (Apart e u) = rw u refl

one_not_zero : {A : Type 0} (x : ℕ) → x ≡ 1 → x ≡ 0 → A
one_not_zero x h z = absurd (omega arith)

pub seat_at : (o : Object) (me : ℕ) (s : Seat) → IsAt o s → owned_at (o.holds me) ≡ 1 → s ≡ At me
seat_at o me (At n) at h = by_test (me == n) refl (sym (at.nodes me) ∙ h)
  where
    by_test : (t : Bool) → (me == n) ≡ t → cond {A = ℕ} t 1 0 ≡ 1 → At n ≡ At me
    by_test true e f = ap (λ (x : ℕ). At x) (sym (eqb_true me n e))
    by_test false e f = one_not_zero 0 f refl
seat_at o me (Moving j k) at h = one_not_zero (owned_at (o.holds me)) h (at.nodes me)

pub seat_moving : (o : Object) (from me : ℕ) (s : Seat) → IsAt o s → tally handover (notes (o.channel from me)) ≢ 0 → s ≡ Moving from me
seat_moving o from me (At n) at h = absurd (h (at.mail from me))
seat_moving o from me (Moving j k) at h = by_test (from == j) (me == k) refl refl (at.mail from me)
  where
    by_test : (t u : Bool) → (from == j) ≡ t → (me == k) ≡ u → tally handover (notes (o.channel from me)) ≡ cond (t && u) 1 0 → Moving j k ≡ Moving from me
    by_test true true e f g = rw (eqb_true from j e, eqb_true me k f) refl
    by_test true false e f g = absurd (h g)
    by_test false u e f g = absurd (h g)

-- where one handover is in flight no other is, and nobody owns it
pub one_handover : (o : Object) (n k j l : ℕ) → IsSeated o → 1 ≤ tally handover (notes (o.channel n k)) → 1 ≤ tally handover (notes (o.channel j l)) → (n ≡ j) × (k ≡ l)
one_handover o n k j l (inl none) a b = absurd (omega (arith, a, ap (tally handover) (nothing_said o none n k)))
one_handover o n k j l (inr s) a b =
    let same : Moving n k ≡ Moving j l =
    sym (seat_moving o n k s.0 s.1 (λ z. absurd (omega (arith, a, z)))) ∙ seat_moving o j l s.0 s.1 (λ z. absurd (omega (arith, b, z))) in
    (cc, cc)

pub no_owner : {A : Type 0} (o : Object) (n k j : ℕ) → IsSeated o → 1 ≤ tally handover (notes (o.channel n k)) → stance (o.holds j) ≡ Owning → A
no_owner o n k j (inl none) a e = absurd (omega (arith, a, ap (tally handover) (nothing_said o none n k)))
no_owner o n k j (inr s) a e =
    let same : Moving n k ≡ At j = sym (seat_moving o n k s.0 s.1 (λ z. absurd (omega (arith, a, z)))) ∙ seat_at o j s.0 s.1 (owning_owned (o.holds j) e) in
    absurd cc

hands_seat : (o p : Object) (me from : ℕ) (taken : Option Note) (t : Transition) (to : ℕ) → Moves o p me from taken t → IsAt o (At me) →
    owned_at t.after ≡ 0 → tally handover (option_to_list taken) ≡ 0 → ((k : ℕ) → tally handover (notes_to k t.sends) ≡ (if to == k then 1 else 0)) → IsAt p (Moving me to)
hands_seat o p me from taken t to moves at gone x one = record {
  nodes = λ n. holds_after o p me t.after n (moves.holds n) ∙ by_node (me == n) (at.nodes n ∙ ap (λ (z : Bool). cond {A = ℕ} z 1 0) (swapped n me));
  mail = λ n k.
      let before : tally handover (notes (o.channel n k)) ≡ tally handover (came from me taken n k) + tally handover (moves.left n k) =
      tally-before handover o p me from taken t moves n k in
      let none : tally handover (notes (o.channel n k)) ≡ 0 = at.mail n k in
      let left : tally handover (moves.left n k) ≡ 0 = omega (arith, before, none) in
      let new : tally handover (sent me t.sends n k) ≡ cond ((n == me) && (k == to)) 1 0 =
      tally-sent handover me t.sends n k ∙ ap (λ (x : ℕ). cond (me == n) x 0) (one k) ∙ by_pair (me == n) (to == k)
      ∙ ap (λ (z : Bool). cond {A = ℕ} (z && (to == k)) 1 0) (swapped me n) ∙ ap (λ (z : Bool). cond {A = ℕ} ((n == me) && z) 1 0) (swapped to k) in
      tally-after handover o p me from taken t moves n k ∙ plus left new;
}
  where
    by_node : {x : ℕ} (u : Bool) → x ≡ cond u 1 0 → cond u (owned_at t.after) x ≡ 0
    by_node true e = gone
    by_node false e = e

    by_pair : (u x : Bool) → cond {A = ℕ} u (cond x 1 0) 0 ≡ cond (u && x) 1 0
    by_pair true x = refl
    by_pair false x = refl

    plus : {x y z : ℕ} → x ≡ 0 → y ≡ z → x + y ≡ z
    plus p q = omega arith

gains_seat : (o p : Object) (me from : ℕ) (taken : Option Note) (t : Transition) → Moves o p me from taken t → IsAt o (Moving from me) →
    owned_at t.after ≡ 1 → tally handover (option_to_list taken) ≡ 1 → ((k : ℕ) → tally handover (notes_to k t.sends) ≡ 0) → IsAt p (At me)
gains_seat o p me from taken t moves at here x none = record {
  nodes = λ n. holds_after o p me t.after n (moves.holds n) ∙ by_node (me == n) (at.nodes n) ∙ ap (λ (z : Bool). cond {A = ℕ} z 1 0) (swapped me n);
  mail = λ n k.
      let before : tally handover (notes (o.channel n k)) ≡ tally handover (came from me taken n k) + tally handover (moves.left n k) =
      tally-before handover o p me from taken t moves n k in
      let all : cond (me == k) (cond (from == n) (tally handover (option_to_list taken)) 0) 0 + tally handover (moves.left n k) ≡ cond ((from == n) && (me == k)) 1 0 =
      ap (λ (x : ℕ). x + tally handover (moves.left n k)) (sym (tally-came handover from me taken n k)) ∙ sym before ∙ at.mail n k
      ∙ ap (λ (z : Bool). cond {A = ℕ} (z && (k == me)) 1 0) (swapped n from) ∙ ap (λ (z : Bool). cond {A = ℕ} ((from == n) && z) 1 0) (swapped k me) in
      omega (arith, tally-after handover o p me from taken t moves n k, by_pair (from == n) (me == k) all, sent-nothing handover me t.sends n k (none k));
}
  where
    by_node : {x : ℕ} (u : Bool) → x ≡ 0 → cond u (owned_at t.after) x ≡ cond u 1 0
    by_node true e = here
    by_node false e = e

    by_pair : {y : ℕ} (u w : Bool) → cond w (cond u (tally handover (option_to_list taken)) 0) 0 + y ≡ cond (u && w) 1 0 → y ≡ 0
    by_pair true true e = omega (arith, x, e)
    by_pair true false e = omega (arith, e)
    by_pair false true e = omega (arith, e)
    by_pair false false e = omega (arith, e)

-- ownership is at one place after an act
abbrev SomeSeat : Object → Type 0
SomeSeat o = (s : Seat) × IsAt o s

owned_after : (o p : Object) (a : Acted o p) (s : Seat) → IsAt o s → Owns a.taken (o.holds a.me) a.transition → SomeSeat p
owned_after o p a s at (Keeps same t none) = (s, keeps_seat o p a.me a.from a.taken a.transition s a.moves at same t none)
owned_after o p a s at (Hands to mine gone t one) =
    let here : IsAt o (At a.me) = subst (λ x. IsAt o x) (seat_at o a.me s at mine) at in
    (Moving a.me to, hands_seat o p a.me a.from a.taken a.transition to a.moves here gone t one)
owned_after o p a s at (Gains mine t none) =
    let came_to : tally handover (came a.from a.me a.taken a.from a.me) ≡ 1 = ap (tally handover) (came-here a.from a.me a.taken) ∙ t in
    let some : tally handover (notes (o.channel a.from a.me)) ≢ 0 =
    λ z. absurd (omega (arith, tally-before handover o p a.me a.from a.taken a.transition a.moves a.from a.me, came_to, z)) in
    let here : IsAt o (Moving a.from a.me) = subst (λ x. IsAt o x) (seat_moving o a.from a.me s at some) at in
    (At a.me, gains_seat o p a.me a.from a.taken a.transition a.moves here mine t none)

-- ## what is kept

-- its maker owns it
made : (o p : Object) (me : ℕ) → IsNowhere o → Moves o p me me None (silently made_share) → IsAt p (At me)
made o p me none moves = record {
  nodes = λ n. holds_after o p me (Some made_share) n (moves.holds n) ∙ by_node (me == n) (ap owned_at (none.unknown n)) ∙ ap (λ (z : Bool). cond {A = ℕ} z 1 0) (swapped me n);
  mail = λ n k. omega (
    arith,
    tally-before handover o p me me None (silently made_share) moves n k,
    tally-after handover o p me me None (silently made_share) moves n k,
    sent-nothing handover me [] n k refl,
    ap (tally handover) (nothing_said o none n k),
  );
}
  where
    by_node : {x : ℕ} (u : Bool) → x ≡ 0 → cond u 1 x ≡ cond u 1 0
    by_node true e = refl
    by_node false e = e

-- a node that isn't the owner forgets, or the owner does and the object is nowhere
seated_without : (o : Object) (me : ℕ) (h : Share) → o.holds me ≡ Some h → IsUnneeded o me h → (s : Seat) → IsAt o s → IsSeated (with_holding o me None)
seated_without o me h has u s at = by_role h.part.role refl
  where
    by_node : (n : ℕ) → owned_as h.part.role ≡ 0 → Cases n me → owned_at (cond (me == n) None (o.holds n)) ≡ owned_at (o.holds n)
    by_node n child (Same e t) = rw t (sym (ap (λ (x : ℕ). owned_at (o.holds x)) e ∙ ap owned_at has ∙ child))
    by_node n child (Apart e t) = rw t refl

    by_role : (r : Role) → h.part.role ≡ r → IsSeated (with_holding o me None)
    by_role Owner e = inl (u.alone e)
    by_role (Parent x) e = inr (s, record { nodes = λ n. by_node n (ap owned_as e) (cases n me) ∙ at.nodes n; mail = at.mail })

-- ## an object that is nowhere

pub no_share : {A : Type 0} (h : Option Share) (b : Share) → h ≡ None → h ≡ Some b → A
no_share h b e f = absurd cc

-- a silent letter is taken, and its taker still has nothing
silent_taken : (o : Object) (from me : ℕ) (l : Message) (rest : List Message) (t : Transition) → IsNowhere o → o.channel from me ≡ l ∷ rest → letter_transition me from l (o.holds me) ≡ Some t →
    IsNowhere (moved (popped o from me l rest) me false t)
silent_taken o from me l rest t none channel is = subst (λ x. IsNowhere (moved (popped o from me l rest) me false x)) same record {
  unknown = λ n. by_node n (me == n);
  untold = λ n m. each_there IsSilent (put_at o.channel from me rest n m) (popped_each (λ n m. IsSilent) o from me l rest channel each n m);
}
  where
    each : EachWay (λ n m. IsSilent) o.channel
    each = silent_ways o none

    first : Each IsSilent (l ∷ rest)
    first = subst (Each IsSilent) channel (each from me)

    transition : Transition
    transition = record { after = None; sends = [] }

    same : transition ≡ t
    same = some_is transition t (sym (transition_is l.note l.tells (o.holds me) first.0.note first.0.tells (none.unknown me)) ∙ is)
      where
        transition_is : (note : Option Note) (tells : Bool) (h : Option Share) → note ≡ None → tells ≡ false → h ≡ None →
            letter_transition me from (record { seq = l.seq; note = note; tells = tells }) h ≡ Some transition
        transition_is said told h e f g = rw (e, f, g) refl

    by_node : (n : ℕ) (u : Bool) → cond u None (o.holds n) ≡ None
    by_node n true = refl
    by_node n false = none.unknown n

silent_issued : (o : Object) (me to : ℕ) (tells : Bool) → IsNowhere o → tells ≡ false → IsNowhere (issue o me (record { to = to; note = None; tells = tells }))
silent_issued o me to tells none e = record {
  unknown = none.unknown;
  untold = λ n m. each_there IsSilent ((issue o me (record { to = to; note = None; tells = tells })).channel n m)
      (issue_each (λ n m. IsSilent) o me (record { to = to; note = None; tells = tells }) (silent_ways o none) record { note = refl; tells = e } n m);
}

seated_nowhere : (o p : Object) → IsNowhere o → Step o p → IsSeated p
seated_nowhere o p none (machine.Does me refers a h t has is e) = no_share (o.holds me) h (none.unknown me) has
seated_nowhere o p none (machine.Receives from me l rest t apart channel is e) = inl (subst IsNowhere (sym e) (silent_taken o from me l rest t none channel is))
seated_nowhere o p none (machine.Writes me to tells told e) = inl (subst IsNowhere (sym e) (silent_issued o me to tells none (told (none.unknown me))))
seated_nowhere o p none (machine.Forgets me h has u e) = no_share (o.holds me) h (none.unknown me) has
seated_nowhere o p none (machine.Clears me other u e) = inl (subst IsNowhere (sym e) record { unknown = none.unknown; untold = none.untold })
seated_nowhere o p none (machine.Makes me nowhere e) = inr (At me, made o p me none (makes_moves o p me e))

seated_changes : (o p : Object) (s : Seat) → IsAt o s → Changes o p → IsSeated p
seated_changes o p s at (Makes me none moves) = inr (At me, made o p me none moves)
seated_changes o p s at (Transits a) = inr (owned_after o p a s at (owns a.from a.taken a.tells (o.holds a.me) a.transition (acts_look a.me a.from a.taken a.tells (o.holds a.me) a.transition a.acts)))
seated_changes o p s at (Forgets me h has u e) = subst IsSeated (sym e) (seated_without o me h has u s at)

pub seated_step : (o p : Object) → IsSeated o → Step o p → IsSeated p
seated_step o p (inl none) step = seated_nowhere o p none step
seated_step o p (inr at) step = seated_changes o p at.0 at.1 (step_changes o p step)

-- ## the law

seated_first : (o : Object) → IsFirst o → IsSeated o
seated_first o (Absent first holds) = inl record { unknown = holds; untold = λ n m. each_there IsSilent (o.channel n m) (subst (Each IsSilent) (sym (first.channel n m)) tt) }
seated_first o (Born first born) = inr (
  At 0,
  record {
    nodes = λ n. by_node n (cases n 0) ∙ ap (λ (z : Bool). cond {A = ℕ} z 1 0) (swapped 0 n);
    mail = λ n k. ap (λ x. tally handover (notes x)) (first.channel n k);
  },
)
  where
    by_first : (h : Option Share) → IsFirstElsewhere h → owned_at h ≡ 0
    by_first h (Unknown e) = ap owned_at e
    by_first h (Heard e) = ap owned_at e

    by_node : (n : ℕ) → Cases n 0 → owned_at (o.holds n) ≡ cond (0 == n) 1 0
    by_node n (Same e t) = rw t (ap (λ (x : ℕ). owned_at (o.holds x)) e ∙ ap owned_at born.owner)
    by_node n (Apart e t) = rw t (by_first (o.holds n) (born.others n e))

pub owned_of : (o : Object) (s : Seat) → IsAt o s → IsOwned o s
owned_of o s at = record { nodes = at.nodes; letters = λ n m. handovers_in-tally (o.channel n m) ∙ at.mail n m }

pub seated_run : (o p : Object) → IsFirst o → Run o p → IsSeated p
seated_run o p first run = kept_run IsSeated seated_step o p (seated_first o first) run

pub ownership_is_one : OwnershipIsOne
ownership_is_one o p first run = by_place (seated_run o p first run)
  where
    by_place : IsSeated p → HasOneSeat p
    by_place (inl none) = inl none
    by_place (inr at) = inr (at.0, owned_of p at.0 at.1)
