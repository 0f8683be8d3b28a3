-- Where a node looks for the owner, and what its acts do to that.
use Rattle.std.proofs.Common.{◌≡◌, ◌⊎◌, inl, inr, ℕ, List, [], ◌∷◌, map, refl, ap, sym, ◌∙◌, Bool, true, false}
use Rattle.std.specs.Prelude.{◌||◌, is_some, Option, Some, None}
use Rattle.std.specs.Option.{option_to_list}
use Rattle.bmx_types.specs.declared.numbers.Mode.TheVariants.{Read, Write}
use Rattle.bmx_token.specs.declared.parts.Ask.{Ask}
use Rattle.bmx_token.specs.declared.parts.Role.{Role}
use Rattle.bmx_token.specs.declared.parts.Role.TheVariants.{Owner, Parent}
use Rattle.bmx_token.specs.declared.parts.Part.{Part}
use Rattle.bmx_token.specs.Transitions.{Share, Note, Asks, Grants, Recalls, Returns, send, Transition, heard_share}
use Rattle.bmx_token_model.specs.Machine.{gives, is_gift}
use Rattle.bmx_token_model.proofs.Tallies.{tally, handover}
use Rattle.bmx_token_model.proofs.Acts.{Alters, TakesWanted, Reads, Writes, Joins, Frees, Readies, Acts, Rests, Hears, AltersTo, Wants, Answers, GrantsRead, HandsOver, Revokes, Arrives, Forwards, GetsRead, GetsWrite, ReturnsNone, ReturnsNow, ReturnsLater, GetsBack}
use Rattle.bmx_token_model.proofs.Moves.{notes_to, nothing-send, recalls-nothing}

pub data Stance : Type 0 where
  Absent : Stance
  Owning : Stance
  Under : (parent : ℕ) → Stance

abbrev pub stance_as : Role → Stance
stance_as Owner = Owning
stance_as (Parent p) = Under p

abbrev pub stance : Option Share → Stance
stance None = Absent
stance (Some h) = stance_as h.part.role

pub under_is : (p q : ℕ) → Under p ≡ Under q → p ≡ q
under_is p q e = cc

pub not_absent : {A : Type 0} {s : Stance} {p : ℕ} → s ≡ Under p → s ≡ Absent → A
not_absent {A} {s} {p} e f = let both : Under p ≡ Absent = sym e ∙ f in absurd cc

pub not_owning : {A : Type 0} {s : Stance} {p : ℕ} → s ≡ Under p → s ≡ Owning → A
not_owning {A} {s} {p} e f = let both : Under p ≡ Owning = sym e ∙ f in absurd cc

pub owning_absent : {A : Type 0} {s : Stance} → s ≡ Owning → s ≡ Absent → A
owning_absent {A} {s} e f = let both : Owning ≡ Absent = sym e ∙ f in absurd cc

-- a role by its stance
pub role_under : (r : Role) (n : ℕ) → stance_as r ≡ Under n → r ≡ Parent n
role_under Owner n d = absurd cc
role_under (Parent x) n d = ap (λ (z : ℕ). Parent z) (under_is x n d)

-- who has a stance knows the object
pub some_stance : (h : Option Share) → (stance h ≡ Absent → ⊥) → is_some h ≡ true
some_stance None f = absurd (f refl)
some_stance (Some b) f = refl

pub stance_some : (h : Option Share) → is_some h ≡ true → stance h ≡ Absent → ⊥
stance_some None e f = (let both : false ≡ true = e in cc)
stance_some (Some b) e f = by_role b.part.role f
  where
    by_role : (r : Role) → stance_as r ≡ Absent → ⊥
    by_role Owner f = cc
    by_role (Parent p) f = cc

-- ## what an act does to it

pub role_kept : (me : ℕ) (copy : Bool) (p q : Part) → Alters me copy p q → q.role ≡ p.role
role_kept me copy p q (TakesWanted m held want ready e) = ap (λ (x : Part). x.role) e
role_kept me copy p q (Reads has held want e) = ap (λ (x : Part). x.role) e
role_kept me copy p q (Writes role held readers e) = ap (λ (x : Part). x.role) e
role_kept me copy p q (Joins role want e) = ap (λ (x : Part). x.role) e
role_kept me copy p q (Frees m held due e) = ap (λ (x : Part). x.role) e
role_kept me copy p q (Readies rest role readers queue e) = ap (λ (x : Part). x.role) e

-- it stays, and no ownership is taken or sent; the node hears of the object; it gets a copy from the sender, or
-- ownership; it hands ownership over
pub data Looks (from : ℕ) (taken : Option Note) (tells : Bool) (h : Option Share) (t : Transition) : Type 0 where
  Stays : stance t.after ≡ stance h → tally handover (option_to_list taken) ≡ 0 → ((k : ℕ) → tally handover (notes_to k t.sends) ≡ 0) → Looks from taken tells h t
  Meets : stance h ≡ Absent → stance t.after ≡ Under from → gives taken tells ≡ true → tally handover (option_to_list taken) ≡ 0 →
      ((k : ℕ) → tally handover (notes_to k t.sends) ≡ 0) → Looks from taken tells h t
  Transits : (p : ℕ) → stance h ≡ Under p → stance t.after ≡ Under from → taken ≡ Some (Grants Read) → t.sends ≡ [] → Looks from taken tells h t
  Gains : (p : ℕ) → stance h ≡ Under p → stance t.after ≡ Owning → taken ≡ Some (Grants Write) → t.sends ≡ [] → Looks from taken tells h t
  Hands : (to : ℕ) (rest : List Ask) → stance h ≡ Owning → stance t.after ≡ Under to → taken ≡ None →
      t.sends ≡ send to (Grants Write) ∷ map (λ (a : Ask). send to (Asks a.mode a.asker)) rest → Looks from taken tells h t

same_looks : (from : ℕ) (taken u : Option Note) (tells : Bool) (h g : Option Share) (t a : Transition) → taken ≡ u → h ≡ g → t ≡ a → Looks from u tells g a → Looks from taken tells h t
same_looks from taken u tells h g t a x e f o = rw (x, e, f) o

-- one note that brings nothing
one : (k to : ℕ) (note : Note) → handover note ≡ 0 → tally handover (notes_to k (send to note ∷ [])) ≡ 0
one k to note h = nothing-send handover k to note [] h refl

gives_told : (note : Option Note) (tells : Bool) → tells ≡ true → gives note tells ≡ true
gives_told None tells e = e
gives_told (Some n) tells e = rw e (or_true (is_gift n))
  where
    or_true : (b : Bool) → (b || true) ≡ true
    or_true true = refl
    or_true false = refl

pub acts_look : (me from : ℕ) (taken : Option Note) (tells : Bool) (h : Option Share) (t : Transition) → Acts me from taken tells h t → Looks from taken tells h t
acts_look me from taken tells h t (Rests x f) = same_looks _ _ _ _ _ _ _ _ x refl f (Stays refl refl (λ k. refl))
acts_look me from taken tells h t (Hears e told x f) = same_looks _ _ _ _ _ _ _ _ x e f (Meets refl refl (gives_told None tells told) refl (λ k. refl))
acts_look me from taken tells h t (AltersTo b q e alters x f) = same_looks _ _ _ _ _ _ _ _ x e f (Stays (ap stance_as (role_kept me b.copy b.part q alters)) refl (λ k. refl))
acts_look me from taken tells h t (Wants b n parent e role held want x f) = same_looks _ _ _ _ _ _ _ _ x e f (Stays refl refl (λ k. one k parent (Asks n me) refl))
acts_look me from taken tells h t (Answers b owner held e holds due x f) = same_looks _ _ _ _ _ _ _ _ x e f (Stays refl refl (λ k. one k owner Returns refl))
acts_look me from taken tells h t (GrantsRead b asker rest e role queue test x f) = same_looks _ _ _ _ _ _ _ _ x e f (Stays refl refl (λ k. one k asker (Grants Read) refl))
acts_look me from taken tells h t (HandsOver b asker rest e role readers queue other test x f) = same_looks _ _ _ _ _ _ _ _ x e f (Hands asker rest (ap stance_as role) refl refl refl)
acts_look me from taken tells h t (Revokes b asker rest e role queue waiting x f) = same_looks _ _ _ _ _ _ _ _ x e f (Stays refl refl (λ k. recalls-nothing handover refl k b.part.readers))
acts_look me from taken tells h t (Arrives b n asker e role other x f) = same_looks _ _ _ _ _ _ _ _ x e f (Stays refl refl (λ k. refl))
acts_look me from taken tells h t (Forwards b n asker parent e role x f) = same_looks _ _ _ _ _ _ _ _ x e f (Stays refl refl (λ k. one k parent (Asks n asker) refl))
acts_look me from taken tells h t (GetsRead b parent e role want ready x f) = same_looks _ _ _ _ _ _ _ _ x e f (Transits parent (ap stance_as role) refl refl refl)
acts_look me from taken tells h t (GetsWrite b parent e role want ready x f) = same_looks _ _ _ _ _ _ _ _ x e f (Gains parent (ap stance_as role) refl refl refl)
acts_look me from taken tells h t (ReturnsNone j e c x f) = same_looks _ _ _ _ _ _ _ _ x e f (by_hearing c)
  where
    by_hearing : (j ≡ None) ⊎ ((j ≡ Some (heard_share from)) × (tells ≡ true)) → Looks from (Some Recalls) tells None record { after = j; sends = send from Returns ∷ [] }
    by_hearing (inl z) = Stays (ap stance z) refl (λ k. one k from Returns refl)
    by_hearing (inr z) = Meets refl (ap stance z.0) (gives_told (Some Recalls) tells z.1) refl (λ k. one k from Returns refl)
acts_look me from taken tells h t (ReturnsNow b parent e role due test x f) = same_looks _ _ _ _ _ _ _ _ x e f (Stays refl refl (λ k. one k from Returns refl))
acts_look me from taken tells h t (ReturnsLater b parent e role due copy test x f) = same_looks _ _ _ _ _ _ _ _ x e f (Stays refl refl (λ k. refl))
acts_look me from taken tells h t (GetsBack b e role waited x f) = same_looks _ _ _ _ _ _ _ _ x e f (Stays refl refl (λ k. refl))
