-- Nobody has to do with itself: no node is its own parent or reader, and no note is in a channel from a node to itself.
use Rattle.std.proofs.Common.{◌≡◌, ◌≢◌, ◌⊎◌, inl, inr, ℕ, ◌+◌, arith, zero, suc, List, [], ◌∷◌, ◌++◌, map, refl, ap, sym, subst, ◌∙◌, Bool, true, false, cond}
use Rattle.std.specs.Prelude.{◌==◌, is_some, Option, Some, None}
use Rattle.bmx_types.specs.declared.numbers.Mode.TheVariants as mode
use Rattle.bmx_token.specs.declared.parts.Ask.{Ask}
use Rattle.bmx_token.specs.declared.parts.Part.{Part}
use Rattle.bmx_token.specs.declared.parts.Role.{Role}
use Rattle.bmx_token.specs.declared.parts.Role.TheVariants.{Owner, Parent}
use Rattle.bmx_token.specs.Transitions.{Share, Note, Asks, Grants, Recalls, Returns, Send, send, Transition, made_share, heard_share}
use Rattle.bmx_token_model.specs.Machine.{Object, Step, Makes, Does, Receives, Writes, Forgets, Clears, Run, IsFirst}
use Rattle.bmx_token_model.specs.Laws.{owned_at, queue_at}
use Rattle.bmx_token_model.proofs.Tallies.{notes, Cases, Same, Apart, cases, same_true, apart_false}
use Rattle.bmx_token_model.proofs.First.{untouched, first_holds}
use Rattle.bmx_token_model.proofs.Times.{times, times_with-other, times_without-none}
use Rattle.bmx_token_model.proofs.Acts.{Alters, TakesWanted, Reads, Writes as Writing, Joins, Frees, Readies, Acts, Rests, Hears, AltersTo, Wants, Answers, GrantsRead, HandsOver, Revokes, Arrives, Forwards, GetsRead, GetsWrite, ReturnsNone, ReturnsNow, ReturnsLater, GetsBack}
use Rattle.bmx_token_model.proofs.Moves.{notes_to, sent, came, Moves, Taking, Nothing, Letter, Acting, does_acting, takes_acting, acting_moves, silent_notes, kept_object}
use Rattle.bmx_token_model.proofs.Roles.{Under, stance, stance_as, under_is, not_absent, not_owning, role_kept}
use Rattle.bmx_token_model.proofs.Owners.{owned_as}
use Rattle.bmx_token_model.proofs.Sound.{IsSoundIf}
use Rattle.bmx_token_model.proofs.Views.{reads_of, waits_of, due_to, due_as}
use Rattle.bmx_token_model.proofs.Shared.{IsShared, shared_run}
use Rattle.bmx_token_model.proofs.Spots.{Spot, Unasked, Queued, IsAlone, alone_elsewhere}
use Rattle.bmx_token_model.proofs.Requests.{IsRequested, queued, stands, unwanting, wants_or_not, requested_run}

pub record IsApart (o : Object) : Type 0 where
  pub parents : (n : ℕ) → stance (o.holds n) ≢ Under n
  pub readers : (n : ℕ) → times n (reads_of (o.holds n)) ≡ 0
  pub channels : (n : ℕ) → notes (o.channel n n) ≡ []

-- ## a node's own share

-- what holds of what a node has itself
record IsOwn (me : ℕ) (h : Option Share) : Type 0 where
  parent : stance h ≢ Under me
  reader : times me (reads_of h) ≡ 0
  asker : queued mode.Read me (queue_at h) ≡ 0
  due : due_to me h ≡ 0

-- and after an act
record IsAway (me : ℕ) (t : Transition) : Type 0 where
  parent : stance t.after ≢ Under me
  reader : times me (reads_of t.after) ≡ 0
  sends : notes_to me t.sends ≡ []

same_away : (me : ℕ) (t k : Transition) → t ≡ k → IsAway me k → IsAway me t
same_away me t k f a = rw f a

elsewhere : (me to : ℕ) (n : Note) (sends : List Send) → to ≢ me → notes_to me sends ≡ [] → notes_to me (send to n ∷ sends) ≡ []
elsewhere me to n sends d h = rw (apart_false to me d) h

recalls_elsewhere : (me : ℕ) (nodes : List ℕ) → times me nodes ≡ 0 → notes_to me (map (λ n. send n Recalls) nodes) ≡ []
recalls_elsewhere me [] h = refl
recalls_elsewhere me (n ∷ nodes) h = by_case (cases n me) h (recalls_elsewhere me nodes)
  where
    by_case : Cases n me → cond (me == n) 1 0 + times me nodes ≡ 0 → (times me nodes ≡ 0 → notes_to me (map (λ n. send n Recalls) nodes) ≡ []) →
        notes_to me (map (λ n. send n Recalls) (n ∷ nodes)) ≡ []
    by_case (Same e t) z rest = (let one : cond {A = ℕ} true 1 0 + times me nodes ≡ 0 = rw t at z in absurd (omega (arith, one)))
    by_case (Apart e t) z rest = elsewhere me n Recalls (map (λ n. send n Recalls) nodes) e (rest (omega (arith, z)))

rest_elsewhere : (me to : ℕ) (rest : List Ask) → to ≢ me → notes_to me (map (λ (a : Ask). send to (Asks a.mode a.asker)) rest) ≡ []
rest_elsewhere me to [] d = refl
rest_elsewhere me to (a ∷ rest) d = elsewhere me to (Asks a.mode a.asker) (map (λ (a : Ask). send to (Asks a.mode a.asker)) rest) d (rest_elsewhere me to rest d)

another : (me p : ℕ) (r : Role) → stance_as r ≢ Under me → r ≡ Parent p → p ≢ me
another me p r none e d = none (ap stance_as e ∙ ap (λ (z : ℕ). Under z) d)

-- who takes a note, or is told of the object, takes it from another
abbrev pub FromAnother : ℕ → ℕ → Option Note → Bool → Type 0
FromAnother me from taken tells = (is_some taken ≡ true) ⊎ (tells ≡ true) → from ≢ me

alters_reads : (me : ℕ) (copy : Bool) (p q : Part) → Alters me copy p q → q.readers ≡ p.readers
alters_reads me copy p q (TakesWanted m h w r e) = ap (λ (x : Part). x.readers) e
alters_reads me copy p q (Reads has h w e) = ap (λ (x : Part). x.readers) e
alters_reads me copy p q (Writing r h rs e) = ap (λ (x : Part). x.readers) e
alters_reads me copy p q (Joins r w e) = ap (λ (x : Part). x.readers) e
alters_reads me copy p q (Frees m h d e) = ap (λ (x : Part). x.readers) e
alters_reads me copy p q (Readies rest r rs queue e) = ap (λ (x : Part). x.readers) e

acts_away : (me from : ℕ) (taken : Option Note) (tells : Bool) (h : Option Share) (t : Transition) → Acts me from taken tells h t → FromAnother me from taken tells → IsOwn me h → IsAway me t
acts_away me from taken tells h t (Rests x f) away s = same_away me t _ f record { parent = s.parent; reader = s.reader; sends = refl }
acts_away me from taken tells h t (Hears e told x f) away s = same_away me t _ f record { parent = λ z. away (inr told) (under_is from me z); reader = refl; sends = refl }
acts_away me from taken tells h t (AltersTo b q e alters x f) away s0 =
    let s : IsOwn me (Some b) = subst (IsOwn me) e s0 in
    same_away me t _ f record {
      parent = λ z. s.parent (ap stance_as (sym (role_kept me b.copy b.part q alters)) ∙ z);
      reader = ap (times me) (alters_reads me b.copy b.part q alters) ∙ s.reader;
      sends = refl;
    }
acts_away me from taken tells h t (Wants b n parent e role held want x f) away s0 =
    let s : IsOwn me (Some b) = subst (IsOwn me) e s0 in
    same_away me t _ f record { parent = s.parent; reader = s.reader; sends = elsewhere me parent (Asks n me) [] (another me parent b.part.role s.parent role) refl }
acts_away me from taken tells h t (Answers b owner held e holds due x f) away s0 =
    let s : IsOwn me (Some b) = subst (IsOwn me) e s0 in
    same_away me t _ f record { parent = s.parent; reader = s.reader; sends = elsewhere me owner Returns [] (not_due s) refl }
  where
    not_due : IsOwn me (Some b) → owner ≢ me
    not_due s d = (let one : due_as me (Some owner) ≡ 0 = ap (due_as me) (sym due) ∙ s.due in
        let here : cond {A = ℕ} (me == me) 1 0 ≡ 0 = ap (λ (z : ℕ). cond {A = ℕ} (z == me) 1 0) (sym d) ∙ one in
        let yes : cond {A = ℕ} true 1 0 ≡ 0 = rw (same_true me) at here in
        absurd (omega (arith, yes)))
acts_away me from taken tells h t (GrantsRead b asker rest e role queue test x f) away s0 =
    let s : IsOwn me (Some b) = subst (IsOwn me) e s0 in
    same_away me t _ f record {
      parent = s.parent;
      reader = times_with-other me asker b.part.readers (λ d. other s (sym d)) ∙ s.reader;
      sends = elsewhere me asker (Grants mode.Read) [] (other s) refl;
    }
  where
    other : IsOwn me (Some b) → asker ≢ me
    other s d = (let all : cond {A = ℕ} (asker == me) 1 0 + queued mode.Read me rest ≡ 0 = sym (ap (queued mode.Read me) queue) ∙ s.asker in
        let here : cond {A = ℕ} (me == me) 1 0 + queued mode.Read me rest ≡ 0 = ap (λ (z : ℕ). cond {A = ℕ} (z == me) 1 0 + queued mode.Read me rest) (sym d) ∙ all in
        let yes : cond {A = ℕ} true 1 0 + queued mode.Read me rest ≡ 0 = rw (same_true me) at here in
        absurd (omega (arith, yes)))
acts_away me from taken tells h t (HandsOver b asker rest e role readers queue other test x f) away s0 =
    let s : IsOwn me (Some b) = subst (IsOwn me) e s0 in
    same_away me t _ f record {
      parent = λ z. other (under_is asker me z);
      reader = s.reader;
      sends = elsewhere me asker (Grants mode.Write) (map (λ (a : Ask). send asker (Asks a.mode a.asker)) rest) other (rest_elsewhere me asker rest other);
    }
acts_away me from taken tells h t (Revokes b asker rest e role queue waiting x f) away s0 =
    let s : IsOwn me (Some b) = subst (IsOwn me) e s0 in
    same_away me t _ f record { parent = s.parent; reader = s.reader; sends = recalls_elsewhere me b.part.readers s.reader }
acts_away me from taken tells h t (Arrives b n asker e role other x f) away s0 =
    let s : IsOwn me (Some b) = subst (IsOwn me) e s0 in
    same_away me t _ f record { parent = s.parent; reader = s.reader; sends = refl }
acts_away me from taken tells h t (Forwards b n asker parent e role x f) away s0 =
    let s : IsOwn me (Some b) = subst (IsOwn me) e s0 in
    same_away me t _ f record { parent = s.parent; reader = s.reader; sends = elsewhere me parent (Asks n asker) [] (another me parent b.part.role s.parent role) refl }
acts_away me from taken tells h t (GetsRead b parent e role want ready x f) away s0 =
    let s : IsOwn me (Some b) = subst (IsOwn me) e s0 in
    same_away me t _ f record { parent = λ z. away (inl (ap (λ (y : Option Note). is_some y) x)) (under_is from me z); reader = s.reader; sends = refl }
acts_away me from taken tells h t (GetsWrite b parent e role want ready x f) away s = same_away me t _ f record { parent = λ z. not_owning z refl; reader = refl; sends = refl }
acts_away me from taken tells h t (ReturnsNone k e c x f) away s = same_away me t _ f record { parent = parent c; reader = reader c; sends = elsewhere me from Returns [] other refl }
  where
    other : from ≢ me
    other = away (inl (ap (λ (y : Option Note). is_some y) x))

    parent : (k ≡ None) ⊎ ((k ≡ Some (heard_share from)) × (tells ≡ true)) → stance k ≢ Under me
    parent (inl z) y = not_absent y (ap stance z)
    parent (inr z) y = other (under_is from me (sym (ap stance z.0) ∙ y))

    reader : (k ≡ None) ⊎ ((k ≡ Some (heard_share from)) × (tells ≡ true)) → times me (reads_of k) ≡ 0
    reader (inl z) = ap (λ y. times me (reads_of y)) z
    reader (inr z) = ap (λ y. times me (reads_of y)) z.0
acts_away me from taken tells h t (ReturnsNow b parent e role due test x f) away s0 =
    let s : IsOwn me (Some b) = subst (IsOwn me) e s0 in
    same_away me t _ f record { parent = s.parent; reader = s.reader; sends = elsewhere me from Returns [] (away (inl (ap (λ (y : Option Note). is_some y) x))) refl }
acts_away me from taken tells h t (ReturnsLater b parent e role due copy test x f) away s0 =
    let s : IsOwn me (Some b) = subst (IsOwn me) e s0 in
    same_away me t _ f record { parent = s.parent; reader = s.reader; sends = refl }
acts_away me from taken tells h t (GetsBack b e role waited x f) away s0 =
    let s : IsOwn me (Some b) = subst (IsOwn me) e s0 in
    same_away me t _ f record { parent = s.parent; reader = times_without-none me from b.part.readers s.reader; sends = refl }

-- ## each step

-- nobody's read is asked where it is at home
pub no_own_read : (o : Object) (n : ℕ) → IsRequested o → queued mode.Read n (queue_at (o.holds n)) ≡ 0
no_own_read o n r = by_owner (o.holds n) refl
  where
    s : (s : Spot) × IsAlone (stands o mode.Read n) s
    s = r.spots mode.Read n

    by_number : (k : ℕ) → queued mode.Read n (queue_at (o.holds n)) ≡ k → owned_at (o.holds n) ≡ 1 → queued mode.Read n (queue_at (o.holds n)) ≡ 0
    by_number zero e own = e
    by_number (suc k) e own =
        let none : unwanting mode.Read (o.holds n) ≡ 0 = alone_elsewhere (stands o mode.Read n) s.0 (Queued n) Unasked s.1 (omega (arith, e)) refl in
        absurd (omega (arith, none, wants_or_not mode.Read (o.holds n), (r.nodes n).no_read own))

    by_owner : (h : Option Share) → o.holds n ≡ h → queued mode.Read n (queue_at (o.holds n)) ≡ 0
    by_owner None e = ap (λ z. queued mode.Read n (queue_at z)) e
    by_owner (Some b) e = by_role b.part.role refl
      where
        by_role : (role : Role) → b.part.role ≡ role → queued mode.Read n (queue_at (o.holds n)) ≡ 0
        by_role Owner f = by_number (queued mode.Read n (queue_at (o.holds n))) refl (ap owned_at e ∙ ap owned_as f)
        by_role (Parent p) f = ap (queued mode.Read n) ((r.nodes n).empty (ap owned_at e ∙ ap owned_as f))

own_of : (o : Object) (n : ℕ) → IsRequested o → IsShared o → IsApart o → IsOwn n (o.holds n)
own_of o n r s a = record {
  parent = a.parents n;
  reader = a.readers n;
  asker = no_own_read o n r;
  due = omega (arith, (s.pairs n n).waited, waits (o.holds n) (s.sound n) (a.readers n));
}
  where
    waits : (h : Option Share) → IsSoundIf h → times n (reads_of h) ≡ 0 → times n (waits_of h) ≡ 0
    waits None x z = refl
    waits (Some b) x z = omega (arith, x.waiting_reads n, z)

empty_left : (a b : List Note) → a ++ b ≡ [] → b ≡ []
empty_left [] b h = h
empty_left (n ∷ a) b h = absurd cc

apart_moves : (o p : Object) (me from : ℕ) (taken : Option Note) (t : Transition) → Moves o p me from taken t → IsAway me t → IsApart o → IsApart p
apart_moves o p me from taken t h away a = record { parents = λ n. parents n (cases n me); readers = λ n. readers n (cases n me); channels = λ n. channels n (cases n me) }
  where
    holds : (n : ℕ) (u : Bool) → (me == n) ≡ u → p.holds n ≡ cond u t.after (o.holds n)
    holds n u e = h.holds n ∙ ap (λ (z : Bool). cond z t.after (o.holds n)) e

    parents : (n : ℕ) → Cases n me → stance (p.holds n) ≢ Under n
    parents n (Same e u) z = away.parent (sym (ap stance (holds n true u)) ∙ z ∙ ap (λ (x : ℕ). Under x) e)
    parents n (Apart e u) z = a.parents n (sym (ap stance (holds n false u)) ∙ z)

    readers : (n : ℕ) → Cases n me → times n (reads_of (p.holds n)) ≡ 0
    readers n (Same e u) = ap (λ z. times n (reads_of z)) (holds n true u) ∙ ap (λ (x : ℕ). times x (reads_of t.after)) e ∙ away.reader
    readers n (Apart e u) = ap (λ z. times n (reads_of z)) (holds n false u) ∙ a.readers n

    left : (n : ℕ) → h.left n n ≡ []
    left n = empty_left (came from me taken n n) (h.left n n) (sym (h.before n n) ∙ a.channels n)

    channels : (n : ℕ) → Cases n me → notes (p.channel n n) ≡ []
    channels n (Same e u) = h.after n n ∙ ap (λ (z : List Note). z ++ sent me t.sends n n) (left n) ∙ ap (λ (z : Bool). cond z (notes_to n t.sends) []) u ∙ ap (λ (x : ℕ). notes_to x t.sends) e ∙ away.sends
    channels n (Apart e u) = h.after n n ∙ ap (λ (z : List Note). z ++ sent me t.sends n n) (left n) ∙ ap (λ (z : Bool). cond z (notes_to n t.sends) []) u

pub another_of : (o : Object) (me from : ℕ) (taken : Option Note) (tells : Bool) (q : Object) → Taking o me from taken tells q → FromAnother me from taken tells
another_of o me from taken tells q (Nothing x y e) (inl z) = (let both : false ≡ true = sym (ap (λ (n : Option Note). is_some n) x) ∙ z in absurd cc)
another_of o me from taken tells q (Nothing x y e) (inr z) = (let both : false ≡ true = sym y ∙ z in absurd cc)
another_of o me from taken tells q (Letter l rest channel apart x y e) z = apart

acting_apart : (o p : Object) → Acting o p → IsRequested o → IsShared o → IsApart o → IsApart p
acting_apart o p a r s g = apart_moves o p a.me a.from a.taken a.transition (acting_moves o p a.me a.from a.taken a.tells a.transition a.refers a.between a.taking a.is)
    (acts_away a.me a.from a.taken a.tells (o.holds a.me) a.transition a.acts (another_of o a.me a.from a.taken a.tells a.between a.taking) (own_of o a.me r s g)) g

same_apart : (o p : Object) → ((n : ℕ) → p.holds n ≡ o.holds n) → ((n k : ℕ) → notes (p.channel n k) ≡ notes (o.channel n k)) → IsApart o → IsApart p
same_apart o p holds channel a = record {
  parents = λ n z. a.parents n (sym (ap stance (holds n)) ∙ z);
  readers = λ n. ap (λ z. times n (reads_of z)) (holds n) ∙ a.readers n;
  channels = λ n. channel n n ∙ a.channels n;
}

apart_step : (o p : Object) → IsRequested o → IsShared o → IsApart o → Step o p → IsApart p
apart_step o p r s a (Makes me nowhere e) = subst IsApart (sym e) record { parents = λ n. parents n (me == n); readers = λ n. readers n (me == n); channels = a.channels }
  where
    parents : (n : ℕ) (u : Bool) → stance (cond u (Some made_share) (o.holds n)) ≢ Under n
    parents n true z = not_owning z refl
    parents n false z = a.parents n z

    readers : (n : ℕ) (u : Bool) → times n (reads_of (cond u (Some made_share) (o.holds n))) ≡ 0
    readers n true = refl
    readers n false = a.readers n
apart_step o p r s a (Does me refers act h t has is e) = acting_apart o p (does_acting o p me refers act h t has is e) r s a
apart_step o p r s a (Receives from me l rest t apart channel is e) = acting_apart o p (takes_acting o p from me l rest t apart channel is e) r s a
apart_step o p r s a (Writes me to tells told e) =
    same_apart o p (λ n. ap (λ (q : Object). q.holds n) e) (λ n k. ap (λ (q : Object). notes (q.channel n k)) e ∙ silent_notes o me to tells n k) a
apart_step o p r s a (Forgets me h has u e) = subst IsApart (sym e) record { parents = λ n. parents n (me == n); readers = λ n. readers n (me == n); channels = a.channels }
  where
    parents : (n : ℕ) (u : Bool) → stance (cond u None (o.holds n)) ≢ Under n
    parents n true z = not_absent z refl
    parents n false z = a.parents n z

    readers : (n : ℕ) (u : Bool) → times n (reads_of (cond u None (o.holds n))) ≡ 0
    readers n true = refl
    readers n false = a.readers n
apart_step o p r s a (Clears me other u e) = same_apart o p (λ n. ap (λ (q : Object). q.holds n) e) (λ n k. ap (λ (q : Object). notes (q.channel n k)) e) a

first_apart : (o : Object) → IsFirst o → IsApart o
first_apart o first = record { parents = λ n. (fresh n).0; readers = λ n. (fresh n).1; channels = λ n. ap notes ((untouched o first).channel n n) }
  where
    fresh : (n : ℕ) → (stance (o.holds n) ≢ Under n) × (times n (reads_of (o.holds n)) ≡ 0)
    fresh = first_holds (λ n h. (stance h ≢ Under n) × (times n (reads_of h) ≡ 0))
        (λ n. (λ z. not_absent z refl, refl)) (λ z. not_owning z refl, refl) (λ n d. (λ z. d (sym (under_is 0 n z)), refl)) o first

pub apart_run : (o p : Object) → IsFirst o → Run o p → IsApart p
apart_run o p first run =
    kept_object (λ q. IsRequested q × IsShared q) IsApart (λ q r a b x s. apart_step q r a.0 a.1 x s) o (λ q r. (requested_run o q first r, shared_run o q first r)) (first_apart o first) p run
