-- Each call of a token leaves it fit.
use Rattle.std.proofs.lemmas.Bool.{false≢true}
use Rattle.bmx_token.specs.Nodes.{nodes_with, nodes_without}
use Rattle.std.proofs.Common.{◌≡◌, ℕ, ◌==◌, ◌||◌, Bool, true, false, List, [], ◌∷◌, ◌++◌, Option, Some, None, is_some, refl, sym, ◌∙◌, ap, cond}
use Rattle.std.specs.List.{list_any}
use Rattle.bmx_types.specs.declared.numbers.Mode.{Mode}
use Rattle.bmx_token.specs.declared.parts.Ask.{Ask}
use Rattle.bmx_token.specs.declared.parts.Part.{Part}
use Rattle.bmx_token.specs.declared.parts.Role.{Role}
use Rattle.bmx_token.specs.declared.parts.Role.TheVariants.{Owner, Parent}
use Rattle.bmx_token.specs.Tokens.{owner_part, child_part, take_wanted, want_read, want_write, acquire_by, acquire, release_by, release, is_write, revoke, serve_alone, serve_write, serve_head, serve_by, serve, request_by, request, granted_by, granted, inval_by, inval, ack_by, ack}
use Rattle.bmx_types.specs.declared.numbers.Mode.TheVariants.{Read, Write}
use Rattle.bmx_node.specs.Inside.Keeping.{IsFair, IsFit}
use Rattle.bmx_token.proofs.Order.{keeps_order}
use Rattle.bmx_token.specs.declared.answers.Served.{Served}
use Rattle.bmx_token.specs.declared.answers.Served.TheVariants as served_is
use Rattle.bmx_token.specs.declared.answers.Requested.{Requested}
use Rattle.bmx_token.specs.declared.answers.Requested.TheVariants as requested_is
use Rattle.bmx_token.specs.declared.answers.Revoked.{Revoked}
use Rattle.bmx_token.specs.declared.answers.Revoked.TheVariants as revoked_is

is_owner : Role → Bool
is_owner Owner = true
is_owner (Parent parent) = false

-- a node with a parent owns nothing
pub no_owner : (parent : ℕ) → Parent parent ≡ Owner → ⊥
unfolding is_owner
no_owner parent e = false≢true (ap is_owner e)

-- nothing is no token
pub none_held : (o : Option Mode) → o ≡ None → is_some o ≡ true → ⊥
none_held o none some = false≢true (sym (ap is_some none) ∙ some)

none_due : (o : Option ℕ) → o ≡ None → is_some o ≡ true → ⊥
none_due o none some = false≢true (sym (ap is_some none) ∙ some)

or_true : (b : Bool) → (b || true) ≡ true
or_true true = refl
or_true false = refl

fair_owner : IsFair owner_part
fair_owner = record { wants = λ h. refl; owes = λ h. absurd (false≢true h); owner = λ e. refl }

fair_child : (parent : ℕ) → IsFair (child_part parent)
fair_child parent = record { wants = λ h. refl; owes = λ h. absurd (false≢true h); owner = λ e. refl }

-- the token is held
fair_held : (p : Part) (m : Mode) → IsFair p → p.want ≡ None → IsFair (record p { held = Some m })
fair_held p m fair none = record { wants = λ h. none; owes = λ h. refl; owner = fair.owner }

-- it is wanted
fair_wanted : (p : Part) (m : Mode) → IsFair p → p.held ≡ None → IsFair (record p { want = Some m })
fair_wanted p m fair none = record { wants = λ h. absurd (none_held p.held none h); owes = fair.owes; owner = fair.owner }

-- the lists change
fair_lists : (p : Part) (readers waiting : List ℕ) (queue : List Ask) → IsFair p → IsFair (record p { readers = readers; queue = queue; waiting = waiting })
fair_lists p readers waiting queue fair = record { wants = fair.wants; owes = fair.owes; owner = fair.owner }

fair_taken : (p : Part) (m : Mode) (ready : Bool) → IsFair p → IsFair (take_wanted p m ready).0
fair_taken p m true fair = record { wants = λ h. refl; owes = λ h. refl; owner = fair.owner }
fair_taken p m false fair = fair

fair_read : (p : Part) (r : Role) (copy : Bool) → IsFair p → p.held ≡ None → p.want ≡ None → IsFair (want_read p r copy).0
fair_read p Owner copy fair held want = fair_held p Read fair want
fair_read p (Parent parent) true fair held want = fair_held p Read fair want
fair_read p (Parent parent) false fair held want = fair_wanted p Read fair held

fair_write : (me : ℕ) (p : Part) (r : Role) (readers : List ℕ) → IsFair p → p.held ≡ None → p.want ≡ None → IsFair (want_write me p r readers).0
fair_write me p Owner [] fair held want = fair_held p Write fair want
fair_write me p Owner (x ∷ xs) fair held want = record { wants = λ h. absurd (none_held p.held held h); owes = fair.owes; owner = fair.owner }
fair_write me p (Parent parent) readers fair held want = fair_wanted p Write fair held

fair_acquire : (me : ℕ) (p : Part) (m : Mode) (copy : Bool) → IsFair p → IsFair (acquire me p m copy).0
fair_acquire me p m copy fair = by m p.held p.want refl refl
  where
    by : (n : Mode) (held want : Option Mode) → p.held ≡ held → p.want ≡ want → IsFair (acquire_by me p copy n held want).0
    by Read (Some held) want h w = fair
    by Write (Some held) want h w = fair
    by Read None (Some Write) h w = fair
    by Read None (Some Read) h w = fair_taken p Read p.ready fair
    by Read None None h w = fair_read p p.role copy fair h w
    by Write None (Some Read) h w = fair
    by Write None (Some Write) h w = fair_taken p Write p.ready fair
    by Write None None h w = fair_write me p p.role p.readers fair h w

fair_release : (p : Part) → IsFair p → IsFair (release p).0
fair_release p fair = by p.held p.due refl
  where
    by : (held : Option Mode) (due : Option ℕ) → p.due ≡ due → IsFair (release_by p held due).0
    by None due d = fair
    by (Some held) None d = record { wants = λ h. absurd (false≢true h); owes = λ h. absurd (none_due p.due d h); owner = fair.owner }
    by (Some held) (Some owner) d = record { wants = λ h. absurd (false≢true h); owes = λ h. absurd (false≢true h); owner = λ e. refl }

fair_alone : (me : ℕ) (p : Part) (asker : ℕ) (rest : List Ask) → IsFair p → IsFair (serve_alone me p asker rest).0
fair_alone me p asker rest fair = by (is_some p.held || p.ready) (asker == me)
  where
    by : (busy mine : Bool) → IsFair (cond {A = Part × Served} busy (p, served_is.Idle) (cond {A = Part × Served} mine (record p { queue = rest; ready = true }, served_is.Ready) (record p { role = Parent asker; queue = [] }, served_is.Moves asker rest))).0
    by true mine = fair
    by false true = record { wants = fair.wants; owes = λ h. or_true (is_some p.held); owner = fair.owner }
    by false false = record { wants = fair.wants; owes = fair.owes; owner = λ e. absurd (no_owner asker e) }

fair_revoke : (p : Part) (waiting : List ℕ) → IsFair p → IsFair (revoke p waiting).0
fair_revoke p [] fair = record { wants = fair.wants; owes = fair.owes; owner = fair.owner }
fair_revoke p (x ∷ xs) fair = fair

fair_head : (me : ℕ) (p : Part) (asker : ℕ) (rest : List Ask) (m : Mode) → IsFair p → IsFair (serve_head me p asker rest m).0
fair_head me p asker rest Read fair = by (is_write p.held || p.ready)
  where
    by : (b : Bool) → IsFair (cond {A = Part × Served} b (p, served_is.Idle) (record p { queue = rest; readers = nodes_with asker p.readers }, served_is.Read asker)).0
    by true = fair
    by false = record { wants = fair.wants; owes = fair.owes; owner = fair.owner }
fair_head me p asker rest Write fair = by p.readers
  where
    by : (readers : List ℕ) → IsFair (serve_write me p asker rest readers).0
    by [] = fair_alone me p asker rest fair
    by (x ∷ xs) = fair_revoke p p.waiting fair

fair_serve : (me : ℕ) (p : Part) → IsFair p → IsFair (serve me p).0
fair_serve me p fair = by p.role p.queue
  where
    by : (r : Role) (queue : List Ask) → IsFair (serve_by me p r queue).0
    by (Parent parent) queue = fair
    by Owner [] = fair
    by Owner (head ∷ rest) = fair_head me p head.asker rest head.mode fair

fair_request : (me : ℕ) (p : Part) (asker : ℕ) (m : Mode) → IsFair p → IsFair (request me p asker m).0
fair_request me p asker m fair = by p.role
  where
    at : (b : Bool) → IsFair (cond {A = Part × Requested} b (p, requested_is.Stray) (record p { queue = p.queue ++ record { asker = asker; mode = m } ∷ [] }, requested_is.Queued)).0
    at true = fair
    at false = record { wants = fair.wants; owes = fair.owes; owner = fair.owner }

    by : (r : Role) → IsFair (request_by me p asker m r).0
    by Owner = at (asker == me)
    by (Parent parent) = fair

-- who has waited for a token owes no answer
owes_none : (p : Part) (m : Mode) (due : Option ℕ) → IsFair p → p.want ≡ Some m → p.ready ≡ false → p.due ≡ due → due ≡ None
owes_none p m None fair want ready is = refl
owes_none p m (Some owner) fair want ready is =
    let busy : (is_some p.held || p.ready) ≡ true = fair.owes (ap is_some is) in
    absurd (by p.held (ap (λ b. is_some p.held || b) (sym ready) ∙ busy) refl)
  where
    by : (held : Option Mode) → (is_some p.held || false) ≡ true → p.held ≡ held → ⊥
    by None busy h = false≢true (sym (ap (λ (o : Option Mode). is_some o || false) h) ∙ busy)
    by (Some x) busy h = false≢true (sym (ap is_some (fair.wants (ap is_some h))) ∙ ap is_some want)

fair_granted : (p : Part) (from : ℕ) (m : Mode) → IsFair p → IsFair (granted p from m).0
fair_granted p from m fair = by m p.role p.want p.ready refl refl
  where
    by : (n : Mode) (r : Role) (want : Option Mode) (ready : Bool) → p.want ≡ want → p.ready ≡ ready → IsFair (granted_by p from n r want ready).0
    by Read (Parent parent) (Some Read) false w y = record { wants = fair.wants; owes = λ h. or_true (is_some p.held); owner = λ e. absurd (no_owner from e) }
    by Write (Parent parent) (Some Write) false w y = record { wants = fair.wants; owes = λ h. or_true (is_some p.held); owner = λ e. owes_none p Write p.due fair w y refl }
    by Read Owner want ready w y = fair
    by Write Owner want ready w y = fair
    by Read (Parent parent) None ready w y = fair
    by Write (Parent parent) None ready w y = fair
    by Read (Parent parent) (Some Write) ready w y = fair
    by Write (Parent parent) (Some Read) ready w y = fair
    by Read (Parent parent) (Some Read) true w y = fair
    by Write (Parent parent) (Some Write) true w y = fair

fair_inval : (p : Part) (from : ℕ) (copy : Bool) → IsFair p → IsFair (inval p from copy).0
fair_inval p from copy fair = by p.role p.due copy refl
  where
    at : (parent : ℕ) (b : Bool) → p.role ≡ Parent parent → (is_some p.held || p.ready) ≡ b → IsFair (cond {A = Part × Option Revoked} b (record p { due = Some from }, Some revoked_is.AtRelease) (p, Some revoked_is.Now)).0
    at parent true r busy = record { wants = fair.wants; owes = λ h. busy; owner = λ e. absurd (no_owner parent (sym r ∙ e)) }
    at parent false r busy = fair

    by : (r : Role) (due : Option ℕ) (c : Bool) → p.role ≡ r → IsFair (inval_by p from r due c).0
    by Owner due c r = fair
    by (Parent parent) (Some owner) c r = fair
    by (Parent parent) None false r = fair
    by (Parent parent) None true r = at parent (is_some p.held || p.ready) r refl

fair_ack : (p : Part) (from : ℕ) → IsFair p → IsFair (ack p from).0
fair_ack p from fair = by p.role
  where
    at : (b : Bool) → IsFair (cond {A = Part × Bool} b (record p { waiting = nodes_without from p.waiting; readers = nodes_without from p.readers }, true) (p, false)).0
    at true = record { wants = fair.wants; owes = fair.owes; owner = fair.owner }
    at false = fair

    by : (r : Role) → IsFair (ack_by p from r).0
    by Owner = at (list_any (λ node. node == from) p.waiting)
    by (Parent parent) = fair

-- ## the same, with the order of readers and of waiting nodes

pub fit_owner : IsFit owner_part
fit_owner = record { fair = fair_owner; ordered = keeps_order.of_owner }

pub fit_child : (parent : ℕ) → IsFit (child_part parent)
fit_child parent = record { fair = fair_child parent; ordered = keeps_order.of_child parent }

pub fit_acquire : (me : ℕ) (p : Part) (m : Mode) (copy : Bool) → IsFit p → IsFit (acquire me p m copy).0
fit_acquire me p m copy fit = record { fair = fair_acquire me p m copy fit.fair; ordered = keeps_order.by_acquire me p m copy fit.ordered }

pub fit_release : (p : Part) → IsFit p → IsFit (release p).0
fit_release p fit = record { fair = fair_release p fit.fair; ordered = keeps_order.by_release p fit.ordered }

pub fit_serve : (me : ℕ) (p : Part) → IsFit p → IsFit (serve me p).0
fit_serve me p fit = record { fair = fair_serve me p fit.fair; ordered = keeps_order.by_serve me p fit.ordered }

pub fit_request : (me : ℕ) (p : Part) (asker : ℕ) (m : Mode) → IsFit p → IsFit (request me p asker m).0
fit_request me p asker m fit = record { fair = fair_request me p asker m fit.fair; ordered = keeps_order.by_request me p asker m fit.ordered }

pub fit_granted : (p : Part) (from : ℕ) (m : Mode) → IsFit p → IsFit (granted p from m).0
fit_granted p from m fit = record { fair = fair_granted p from m fit.fair; ordered = keeps_order.by_granted p from m fit.ordered }

pub fit_inval : (p : Part) (from : ℕ) (copy : Bool) → IsFit p → IsFit (inval p from copy).0
fit_inval p from copy fit = record { fair = fair_inval p from copy fit.fair; ordered = keeps_order.by_inval p from copy fit.ordered }

pub fit_ack : (p : Part) (from : ℕ) → IsFit p → IsFit (ack p from).0
fit_ack p from fit = record { fair = fair_ack p from fit.fair; ordered = keeps_order.by_ack p from fit.ordered }

-- ## who owns

-- acquiring and giving back leave the role
taken_role : (p : Part) (m : Mode) (ready : Bool) → (take_wanted p m ready).0.role ≡ p.role
taken_role p m true = refl
taken_role p m false = refl

read_role : (p : Part) (r : Role) (copy : Bool) → (want_read p r copy).0.role ≡ p.role
read_role p Owner copy = refl
read_role p (Parent parent) true = refl
read_role p (Parent parent) false = refl

write_role : (me : ℕ) (p : Part) (r : Role) (readers : List ℕ) → (want_write me p r readers).0.role ≡ p.role
write_role me p Owner [] = refl
write_role me p Owner (x ∷ xs) = refl
write_role me p (Parent parent) readers = refl

pub acquire_role : (me : ℕ) (p : Part) (m : Mode) (copy : Bool) → (acquire me p m copy).0.role ≡ p.role
acquire_role me p m copy = by m p.held p.want
  where
    by : (n : Mode) (held want : Option Mode) → (acquire_by me p copy n held want).0.role ≡ p.role
    by Read (Some held) want = refl
    by Write (Some held) want = refl
    by Read None (Some Write) = refl
    by Read None (Some Read) = taken_role p Read p.ready
    by Read None None = read_role p p.role copy
    by Write None (Some Read) = refl
    by Write None (Some Write) = taken_role p Write p.ready
    by Write None None = write_role me p p.role p.readers

pub release_role : (p : Part) → (release p).0.role ≡ p.role
release_role p = by p.held p.due
  where
    by : (held : Option Mode) (due : Option ℕ) → (release_by p held due).0.role ≡ p.role
    by None due = refl
    by (Some held) None = refl
    by (Some held) (Some owner) = refl
