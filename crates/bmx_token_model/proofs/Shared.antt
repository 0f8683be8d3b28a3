-- Readers and writers: each step keeps what holds of each node, and of each owner and reader.
use Rattle.std.proofs.Common.{◌≡◌, ◌≢◌, ◌⊎◌, inl, inr, ℕ, ◌+◌, ◌*◌, ◌≤◌, arith, List, [], ◌∷◌, ◌++◌, refl, ap, sym, subst, ◌∙◌, Bool, true, false, cond}
use Rattle.std.specs.Prelude.{◌==◌, Option, Some, None, IsSome}
use Rattle.std.specs.Option.{option_to_list}
use Rattle.bmx_types.specs.declared.numbers.Mode.{Mode}
use Rattle.bmx_types.specs.declared.numbers.Mode.TheVariants.{Read, Write}
use Rattle.bmx_token.specs.declared.parts.Role.{Role}
use Rattle.bmx_token.specs.declared.parts.Role.TheVariants.{Owner, Parent}
use Rattle.bmx_types.specs.Updates.{put}
use Rattle.bmx_token.specs.Transitions.{Share, Note, Asks, Grants, Recalls, Returns, Transition, silently, made_share}
use Rattle.bmx_token_model.specs.Machine.{Message, Object, Run, IsFirst, IsUnneeded, with_holding, gives}
use Rattle.bmx_token_model.specs.Laws.{owned_at, Seat, At, TokensExclude}
use Rattle.bmx_token_model.proofs.Tallies.{tally, tally-append, read_grant, recall, return, notes, behind, behind-append, behind_no_recall, behind_no_grant, Cases, Same, Apart, cases, same_true}
use Rattle.bmx_token_model.proofs.First.{untouched, first_holds}
use Rattle.bmx_token_model.proofs.Each.{Each, each_of}
use Rattle.bmx_token_model.proofs.Moves.{notes_to, sent, came, Moves, Acted, Changes, Makes, Transits, Forgets, kept_changes, tally-before, tally-after}
use Rattle.bmx_token_model.proofs.Owners.{IsSeated, IsAt, owned_as, seat_at, seated_run, no_share}
use Rattle.bmx_token_model.proofs.Times.{times}
use Rattle.bmx_token_model.proofs.Sound.{IsSound, IsSoundIf, sound_when_made, sound_when_heard, sound_after}
use Rattle.bmx_token_model.proofs.Pairs.{IsFine, IsChange, OwnerRests, OwnerActs, ReaderRests, ReaderActs, owner_keeps, reader_keeps, forgets_keeps}
use Rattle.bmx_token_model.proofs.Views.{reads_of, waits_of, copied_as, copy_from, due_as, due_to, taken_of, AsOwner, AsReader, View, ByOwner, ByReader, view, view_new, nothing_still}

-- ## the channels between two nodes

with_none : (x y b u v : ℕ) → b ≡ u + x * y + v → x ≡ 0 → b ≡ u + v
with_none x y b u v e z = let e' : b ≡ u + 0 * y + v = rw z at e in omega arith

with_one : (x y b u v : ℕ) → b ≡ u + x * y + v → x ≡ 1 → b ≡ u + y + v
with_one x y b u v e z = let e' : b ≡ u + 1 * y + v = rw z at e in omega arith

with_zero : (x y b u v : ℕ) → b ≡ u + x * y + v → y ≡ 0 → b ≡ u + v
with_zero x y b u v e z = let e' : b ≡ u + x * 0 + v = rw z at e in omega arith

change : (w v : Object) (me from : ℕ) (taken : Option Note) (m : Transition) → Moves w v me from taken m → (n k : ℕ) →
    IsChange (tally read_grant (notes (w.channel n k))) (tally recall (notes (w.channel n k))) (behind (notes (w.channel n k))) (tally return (notes (w.channel k n)))
    (tally read_grant (notes (v.channel n k))) (tally recall (notes (v.channel n k))) (behind (notes (v.channel n k))) (tally return (notes (v.channel k n)))
    (tally read_grant (sent me m.sends n k)) (tally recall (sent me m.sends n k)) (tally return (came from me taken k n))
    (tally read_grant (came from me taken n k)) (tally recall (came from me taken n k)) (tally return (sent me m.sends k n))
change w v me from taken m h n k =
    let before : behind (notes (w.channel n k)) ≡ behind (came from me taken n k) + tally recall (came from me taken n k) * tally read_grant (h.left n k) + behind (h.left n k) =
    ap behind (h.before n k) ∙ behind-append (came from me taken n k) (h.left n k) in
    let after : behind (notes (v.channel n k)) ≡ behind (h.left n k) + tally recall (h.left n k) * tally read_grant (sent me m.sends n k) + behind (sent me m.sends n k) =
    ap behind (h.after n k) ∙ behind-append (h.left n k) (sent me m.sends n k) in
    record {
      gm = tally read_grant (h.left n k);
      cm = tally recall (h.left n k);
      bm = behind (h.left n k);
      tm = tally return (h.left k n);
      bt = behind (came from me taken n k);
      bs = behind (sent me m.sends n k);
      g_before = tally-before read_grant w v me from taken m h n k;
      g_after = tally-after read_grant w v me from taken m h n k;
      c_before = tally-before recall w v me from taken m h n k;
      c_after = tally-after recall w v me from taken m h n k;
      t_before = tally-before return w v me from taken m h k n;
      t_after = tally-after return w v me from taken m h k n;
      b_kept = λ z. with_none _ _ _ _ _ before z;
      b_called = λ z. with_one _ _ _ _ _ before z;
      b_none = λ z. with_zero _ _ _ _ _ after z;
      b_free = λ z. with_none _ _ _ _ _ after z;
      bs_none = λ z. behind_no_grant (sent me m.sends n k) z;
      bs_free = λ z. behind_no_recall (sent me m.sends n k) z;
    }

-- ## the two sides

holds_here : (w v : Object) (me from : ℕ) (taken : Option Note) (m : Transition) → Moves w v me from taken m → (n : ℕ) → (me == n) ≡ true → v.holds n ≡ m.after
holds_here w v me from taken m h n t = h.holds n ∙ ap (λ (u : Bool). cond u m.after (w.holds n)) t

holds_there : (w v : Object) (me from : ℕ) (taken : Option Note) (m : Transition) → Moves w v me from taken m → (n : ℕ) → (me == n) ≡ false → v.holds n ≡ w.holds n
holds_there w v me from taken m h n t = h.holds n ∙ ap (λ (u : Bool). cond u m.after (w.holds n)) t

-- what holds of the one who acts and of each that doesn't, by what it has, sends and takes
side : (P : Option Share → Option Share → List Note → List Note → Type 0) → ((h : Option Share) → P h h [] []) →
    (w v : Object) (me from : ℕ) (taken : Option Note) (m : Transition) → Moves w v me from taken m → (n k : ℕ) →
    P (w.holds me) m.after (notes_to k m.sends) (taken_of from taken k) → P (w.holds n) (v.holds n) (sent me m.sends n k) (came from me taken k n)
side P rest w v me from taken m h n k given = rw (h.holds n) (by_case (cases n me))
  where
    by_case : Cases n me → P (w.holds n) (put w.holds me m.after n) (sent me m.sends n k) (came from me taken k n)
    by_case (Same e t) = rw (t, e) given
    by_case (Apart e t) = rw t (rest (w.holds n))

owner_at : (F : ℕ → ℕ → ℕ → ℕ → ℕ → ℕ → ℕ → Type 0) → ((r q : ℕ) → F r q r q 0 0 0) →
    (w v : Object) (me from : ℕ) (taken : Option Note) (m : Transition) → Moves w v me from taken m → ((x : ℕ) → AsOwner F from taken (w.holds me) m x) → (n k : ℕ) →
    F (times k (reads_of (w.holds n))) (times k (waits_of (w.holds n))) (times k (reads_of (v.holds n))) (times k (waits_of (v.holds n)))
    (tally read_grant (sent me m.sends n k)) (tally recall (sent me m.sends n k)) (tally return (came from me taken k n))
owner_at F rest w v me from taken m h given n k =
    side (λ h g out into. F (times k (reads_of h)) (times k (waits_of h)) (times k (reads_of g)) (times k (waits_of g)) (tally read_grant out) (tally recall out) (tally return into))
    (λ h. rest (times k (reads_of h)) (times k (waits_of h))) w v me from taken m h n k (given k)

reader_at : (F : ℕ → ℕ → ℕ → ℕ → ℕ → ℕ → ℕ → Type 0) → ((r q : ℕ) → F r q r q 0 0 0) →
    (w v : Object) (me from : ℕ) (taken : Option Note) (m : Transition) → Moves w v me from taken m → ((x : ℕ) → AsReader F from taken (w.holds me) m x) → (n k : ℕ) →
    F (copy_from n (w.holds k)) (due_to n (w.holds k)) (copy_from n (v.holds k)) (due_to n (v.holds k))
    (tally read_grant (came from me taken n k)) (tally recall (came from me taken n k)) (tally return (sent me m.sends k n))
reader_at F rest w v me from taken m h given n k =
    side (λ h g out into. F (copy_from n h) (due_to n h) (copy_from n g) (due_to n g) (tally read_grant into) (tally recall into) (tally return out))
    (λ h. rest (copy_from n h) (due_to n h)) w v me from taken m h k n (given n)

owner_still : (r q : ℕ) → OwnerRests r q r q 0 0 0
owner_still r q = record { more = omega arith; same = refl; no_grant = refl; no_recall = refl; no_return = refl }

reader_still : (r q : ℕ) → ReaderRests r q r q 0 0 0
reader_still r q = record { less = omega arith; same = refl; no_grant = refl; no_recall = refl; no_return = refl }

-- ## what is kept

-- of an owner n and a reader k
abbrev pub IsFineAt : Object → ℕ → ℕ → Type 0
IsFineAt w n k =
    IsFine (times k (reads_of (w.holds n))) (times k (waits_of (w.holds n)))
    (tally read_grant (notes (w.channel n k))) (tally recall (notes (w.channel n k))) (behind (notes (w.channel n k))) (tally return (notes (w.channel k n)))
    (copy_from n (w.holds k)) (due_to n (w.holds k))

pub record IsShared (w : Object) : Type 0 where
  pub sound : (n : ℕ) → IsSoundIf (w.holds n)
  pub pairs : (n k : ℕ) → IsFineAt w n k

fine_after : (w v : Object) (me from : ℕ) (taken : Option Note) (m : Transition) → Moves w v me from taken m → View from taken (w.holds me) m →
    (n k : ℕ) → IsFineAt w n k → IsFineAt v n k
fine_after w v me from taken m h (ByOwner o r) n k f =
    owner_keeps _ _ _ _ _ _ _ _ _ _ _ _ _ _ _ _ _ _ _ _ _ _ f (change w v me from taken m h n k)
    (owner_at OwnerActs (λ r q. OwnerActs.Nothing (owner_still r q)) w v me from taken m h o n k)
    (reader_at ReaderRests reader_still w v me from taken m h r n k)
fine_after w v me from taken m h (ByReader o r) n k f =
    reader_keeps _ _ _ _ _ _ _ _ _ _ _ _ _ _ _ _ _ _ _ _ _ _ f (change w v me from taken m h n k)
    (owner_at OwnerRests owner_still w v me from taken m h o n k)
    (reader_at ReaderActs (λ r q. ReaderActs.Nothing (reader_still r q)) w v me from taken m h r n k)

shared_after : (w v : Object) (me from : ℕ) (taken : Option Note) (m : Transition) → Moves w v me from taken m → View from taken (w.holds me) m →
    IsSoundIf m.after → IsShared w → IsShared v
shared_after w v me from taken m h sees sound s = record {
  sound = λ n. by_case n (cases n me);
  pairs = λ n k. fine_after w v me from taken m h sees n k (s.pairs n k);
}
  where
    by_case : (n : ℕ) → Cases n me → IsSoundIf (v.holds n)
    by_case n (Same e t) = subst IsSoundIf (sym (holds_here w v me from taken m h n t)) sound
    by_case n (Apart e t) = subst IsSoundIf (sym (holds_there w v me from taken m h n t)) (s.sound n)

shared_acted : (o p : Object) → Acted o p → IsShared o → IsShared p
shared_acted o p a s =
    shared_after o p a.me a.from a.taken a.transition a.moves (view a.me a.from a.taken a.tells (o.holds a.me) a.transition a.acts (s.sound a.me))
    (sound_after a.me a.from a.taken a.tells (o.holds a.me) a.transition a.acts (s.sound a.me)) s

-- who gives the object in no letter grants no read
ungiven : (letters : List Message) → ((l : Message) (before after : List Message) → letters ≡ before ++ l ∷ after → gives l.note l.tells ≡ false) → tally read_grant (notes letters) ≡ 0
ungiven letters h = each letters (each_of (λ l. gives l.note l.tells ≡ false) letters h)
  where
    by_note : (note : Option Note) (tells : Bool) → gives note tells ≡ false → tally read_grant (option_to_list note) ≡ 0
    by_note None tells e = refl
    by_note (Some (Asks m asker)) tells e = refl
    by_note (Some (Grants Read)) tells e = absurd cc
    by_note (Some (Grants Write)) tells e = refl
    by_note (Some Recalls) tells e = refl
    by_note (Some Returns) tells e = refl

    each : (letters : List Message) → Each (λ l. gives l.note l.tells ≡ false) letters → tally read_grant (notes letters) ≡ 0
    each [] e = refl
    each (l ∷ letters) e = omega (arith, tally-append read_grant (option_to_list l.note) (notes letters), by_note l.note l.tells e.0, each letters e.1)

-- what a node has isn't needed, and is forgotten
shared_without : (w : Object) (me : ℕ) (h : Share) → w.holds me ≡ Some h → IsUnneeded w me h → IsShared w → IsShared (with_holding w me None)
shared_without w me h has u s = record {
  sound = λ n. sound n (cases n me);
  pairs = λ n k. forgets_keeps _ _ _ _ _ _ _ _ _ _ _ _ (s.pairs n k) (waits n k (cases n me)) (copies n k (cases k me)) (dues n k (cases k me)) (reads n k (cases n me));
}
  where
    after : ℕ → Option Share
    after n = (with_holding w me None).holds n

    sound : (n : ℕ) → Cases n me → IsSoundIf (after n)
    sound n (Same e t) = rw t tt
    sound n (Apart e t) = rw t (s.sound n)

    waits : (n k : ℕ) → Cases n me → times k (waits_of (after n)) ≡ times k (waits_of (w.holds n))
    waits n k (Same e t) = rw t (sym (ap (λ x. times k (waits_of (w.holds x))) e ∙ ap (λ o. times k (waits_of o)) has ∙ ap (times k) u.idle.waiting))
    waits n k (Apart e t) = rw t refl

    copies : (n k : ℕ) → Cases k me → copy_from n (after k) ≤ copy_from n (w.holds k)
    copies n k (Same e t) = rw t (omega arith)
    copies n k (Apart e t) = rw t (omega arith)

    dues : (n k : ℕ) → Cases k me → due_to n (after k) ≡ due_to n (w.holds k)
    dues n k (Same e t) = rw t (sym (ap (λ x. due_to n (w.holds x)) e ∙ ap (due_to n) has ∙ ap (due_as n) u.idle.due))
    dues n k (Apart e t) = rw t refl

    no_copy : (k : ℕ) (o : Option Share) → w.holds k ≡ o → copy_from me o ≡ 0
    no_copy k None e = refl
    no_copy k (Some b) e = by_copy b.copy b.part.role (u.no_child k b e)
      where
        by_copy : (c : Bool) (r : Role) → r ≢ Parent me → copied_as me c r ≡ 0
        by_copy false r none = refl
        by_copy true Owner none = refl
        by_copy true (Parent x) none = by_test (cases me x)
          where
            by_test : Cases me x → cond {A = ℕ} (x == me) 1 0 ≡ 0
            by_test (Same f t) = absurd (none (ap (λ (y : ℕ). Parent y) (sym f)))
            by_test (Apart f t) = rw t refl

    reads : (n k : ℕ) → Cases n me → (times k (reads_of (w.holds n)) ≤ times k (reads_of (after n))) ⊎ ((tally read_grant (notes (w.channel n k)) ≡ 0) × (copy_from n (w.holds k) ≡ 0))
    reads n k (Same e t) = inr (ap (λ x. tally read_grant (notes (w.channel x k))) e ∙ ungiven (w.channel me k) (u.no_gift k), ap (λ (x : ℕ). copy_from x (w.holds k)) e ∙ no_copy k (w.holds k) refl)
    reads n k (Apart e t) = inl (rw t (omega arith))

pub shared_kept : (o p : Object) → IsShared o → Changes o p → IsShared p
shared_kept o p s (Makes me empty moves) =
    shared_after o p me me None (silently made_share) moves
    (view_new me None (o.holds me) (silently made_share) made_share (empty.unknown me) refl refl refl (λ x. refl) refl nothing_still (λ k. nothing_still))
    sound_when_made s
shared_kept o p s (Transits a) = shared_acted o p a s
shared_kept o p s (Forgets me h has u e) = subst IsShared (sym e) (shared_without o me h has u s)

-- ## at first

-- nobody waits, has a copy from another, or owes one
record IsFresh (h : Option Share) : Type 0 where
  sound : IsSoundIf h
  waits : (k : ℕ) → times k (waits_of h) ≡ 0
  copy : (n : ℕ) → copy_from n h ≡ 0
  due : (n : ℕ) → due_to n h ≡ 0

fresh : (o : Object) → IsFirst o → (n : ℕ) → IsFresh (o.holds n)
fresh = first_holds (λ n h. IsFresh h)
    (λ n. record { sound = tt; waits = λ k. refl; copy = λ n. refl; due = λ n. refl })
    record { sound = sound_when_made; waits = λ k. refl; copy = λ n. refl; due = λ n. refl }
    (λ n d. record { sound = sound_when_heard 0; waits = λ k. refl; copy = λ n. refl; due = λ n. refl })

fine_first : (r q g c b t p d : ℕ) → q ≡ 0 → g ≡ 0 → c ≡ 0 → b ≡ 0 → t ≡ 0 → p ≡ 0 → d ≡ 0 → IsFine r q g c b t p d
fine_first r q g c b t p d q0 g0 c0 b0 t0 p0 d0 = record {
  granted = omega arith;
  copied = omega arith;
  waited = omega arith;
  ordered = b0;
  due = omega arith;
  returned = omega arith;
  silent = omega arith;
}

shared_first : (o : Object) → IsFirst o → IsShared o
shared_first o first = record {
  sound = λ n. (fresh o first n).sound;
  pairs = λ n k.
      fine_first _ _ _ _ _ _ _ _ ((fresh o first n).waits k) (ap (tally read_grant) (channel n k)) (ap (tally recall) (channel n k)) (ap behind (channel n k)) (ap (tally return) (channel k n))
      ((fresh o first k).copy n) ((fresh o first k).due n);
}
  where
    channel : (n k : ℕ) → notes (o.channel n k) ≡ []
    channel n k = ap notes ((untouched o first).channel n k)

pub shared_run : (o p : Object) → IsFirst o → Run o p → IsShared p
shared_run o p first run = kept_changes IsShared shared_kept o p (shared_first o first) run

-- ## the law

one_seat : (w : Object) (s : Seat) (n m : ℕ) → IsAt w s → owned_at (w.holds n) ≡ 1 → owned_at (w.holds m) ≡ 1 → m ≡ n
one_seat w s n m at a b =
    let here : At m ≡ At n = sym (seat_at w m s at b) ∙ seat_at w n s at a in
    cc

-- who has a reader is the owner
pub read_is_owner : (h : Option Share) (x : ℕ) → IsSoundIf h → 1 ≤ times x (reads_of h) → owned_at h ≡ 1
read_is_owner None x s r = absurd (omega arith)
read_is_owner (Some b) x s r = by_role b.part.role refl
  where
    by_role : (role : Role) → b.part.role ≡ role → owned_as b.part.role ≡ 1
    by_role Owner e = ap owned_as e
    by_role (Parent y) e =
        let none : times x b.part.readers ≡ 0 = ap (times x) (s.child_alone y e) in
        absurd (omega arith)

owner_is : (h : Option Share) (b : Share) → h ≡ Some b → b.part.role ≡ Owner → owned_at h ≡ 1
owner_is h b e r = ap owned_at e ∙ ap owned_as r

writer_is_owner : (b : Share) → IsSound b → b.part.held ≡ Some Write → b.part.role ≡ Owner
writer_is_owner b s w = by_role b.part.role refl
  where
    by_role : (role : Role) → b.part.role ≡ role → b.part.role ≡ Owner
    by_role Owner e = e
    by_role (Parent x) e = absurd (s.child_holds x e w)

-- one that has a copy beside the owner is among its readers
exclude : (w : Object) (s : Seat) → IsShared w → IsAt w s → (n m : ℕ) (h k : Share) → w.holds n ≡ Some h → w.holds m ≡ Some k →
    h.part.held ≡ Some Write → (held : Mode) → k.part.held ≡ Some held → m ≡ n
exclude w s shared at n m h k en em writes held holds = by_role k.part.role refl
  where
    sound_n : IsSound h
    sound_n = subst IsSoundIf en (shared.sound n)

    sound_m : IsSound k
    sound_m = subst IsSoundIf em (shared.sound m)

    role_n : h.part.role ≡ Owner
    role_n = writer_is_owner h sound_n writes

    owned_n : owned_at (w.holds n) ≡ 1
    owned_n = owner_is (w.holds n) h en role_n

    alone : (x : ℕ) → times x (reads_of (w.holds n)) ≡ 0
    alone x = ap (λ o. times x (reads_of o)) en ∙ ap (times x) (sound_n.owner_writes role_n writes)

    by_role : (role : Role) → k.part.role ≡ role → m ≡ n
    by_role Owner e = one_seat w s n m at owned_n (owner_is (w.holds m) k em e)
    by_role (Parent x) e =
        let has : copy_from x (w.holds m) ≡ 1 =
        ap (copy_from x) em ∙ ap (λ c. copied_as x c k.part.role) (sound_m.holder_has held holds) ∙ ap (copied_as x true) e
        ∙ ap (λ (u : Bool). cond u 1 0) (same_true x) in
        let most : copy_from x (w.holds m) ≤ times m (reads_of (w.holds x)) = (shared.pairs x m).copied in
        let some : 1 ≤ times m (reads_of (w.holds x)) = omega arith in
        let same : x ≡ n = one_seat w s n x at owned_n (read_is_owner (w.holds x) m (shared.sound x) some) in
        let none : times m (reads_of (w.holds x)) ≡ 0 = ap (λ y. times m (reads_of (w.holds y))) same ∙ alone m in
        absurd (omega arith)

pub tokens_exclude : TokensExclude
tokens_exclude o p first run n m h k en em writes some = by_place (seated_run o p first run)
  where
    shared : IsShared p
    shared = shared_run o p first run

    by_held : (s : Seat) → IsAt p s → (held : Option Mode) → k.part.held ≡ held → IsSome held → m ≡ n
    by_held s at None e is = absurd cc
    by_held s at (Some held) e is = exclude p s shared at n m h k en em writes held e

    by_place : IsSeated p → m ≡ n
    by_place (inl none) = no_share (p.holds n) h (none.unknown n) en
    by_place (inr at) = by_held at.0 at.1 k.part.held refl some
