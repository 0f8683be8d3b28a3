-- The owner's readers: who has a copy beside it, or is to get one, is among them.
use Rattle.std.proofs.Common.{◌≡◌, ◌⊎◌, inl, inr, ℕ, ◌+◌, ◌≤◌, arith, List, [], ◌∷◌, zero, suc, refl, ap, ◌∙◌, Bool, true, false, cond}
use Rattle.std.specs.Prelude.{if◌then◌else◌, Option, Some, None, Contains}
use Rattle.std.specs.Option.{option_to_list}
use Rattle.bmx_types.specs.declared.numbers.Mode.TheVariants.{Read}
use Rattle.bmx_token.specs.declared.parts.Role.{Role}
use Rattle.bmx_token.specs.declared.parts.Role.TheVariants.{Owner, Parent}
use Rattle.bmx_token.specs.Transitions.{Share, Note, Grants}
use Rattle.bmx_token_model.specs.Machine.{Message, Object}
use Rattle.bmx_token_model.specs.Laws.{is_owner, HasReader, ReadersAreListed}
use Rattle.bmx_token_model.proofs.Tallies.{tally, tally-append, read_grant, notes, Cases, Same, Apart, cases, same_true}
use Rattle.bmx_token_model.proofs.Times.{times}
use Rattle.bmx_token_model.proofs.Sound.{IsSound, IsSoundIf}
use Rattle.bmx_token_model.proofs.Views.{reads_of, copied_as, copy_from}
use Rattle.bmx_token_model.proofs.Shared.{IsShared, shared_run}

-- ## lists

pub one_or_more : {A : Type 0} (y : A) (xs : List A) (x : A) → Contains (y ∷ xs) x → (y ≡ x) ⊎ Contains xs x
one_or_more y xs x (zero, below, is) = inl is
one_or_more y xs x (suc k, below, is) = inr (k, omega arith, is)

-- who is counted is there
listed_once : (x : ℕ) (ys : List ℕ) → 1 ≤ times x ys → Contains ys x
listed_once x [] h = absurd (omega arith)
listed_once x (y ∷ ys) h = by_case (cases y x) (listed_once x ys)
  where
    by_case : Cases y x → (1 ≤ times x ys → Contains ys x) → Contains (y ∷ ys) x
    by_case (Same e t) rest = (0, omega arith, e)
    by_case (Apart e t) rest =
        let more : 1 ≤ (if false then 1 else 0) + times x ys = rw t at h in
        let c : Contains ys x = rest (omega arith) in
        (suc c.0, omega (arith, c.1), c.2)

-- a note that is in flight weighs at least what it weighs alone
weighed : (f : Note → ℕ) (letters : List Message) (l : Message) (n : Note) → Contains letters l → l.note ≡ Some n → f n ≤ tally f (notes letters)
weighed f [] l n c d = absurd (omega (arith, c.1))
weighed f (k ∷ letters) l n c d = by_place (one_or_more k letters l c) (λ there. weighed f letters l n there d)
  where
    by_place : (k ≡ l) ⊎ Contains letters l → (Contains letters l → f n ≤ tally f (notes letters)) → f n ≤ tally f (notes (k ∷ letters))
    by_place (inl here) rest =
        omega (arith, tally-append f (option_to_list k.note) (notes letters), ap (λ (x : Option Note). tally f (option_to_list x)) (ap (λ (x : Message). x.note) here ∙ d))
    by_place (inr there) rest = omega (arith, tally-append f (option_to_list k.note) (notes letters), rest there)

-- ## the law

-- who has a reader is the owner
owns_it : (b : Share) (x : ℕ) → IsSound b → 1 ≤ times x b.part.readers → is_owner b.part.role ≡ true
owns_it b x s r = by_role b.part.role refl
  where
    by_role : (role : Role) → b.part.role ≡ role → is_owner b.part.role ≡ true
    by_role Owner e = ap is_owner e
    by_role (Parent y) e =
        let none : times x b.part.readers ≡ 0 = ap (times x) (s.child_alone y e) in
        absurd (omega arith)

has_reader : (o : Object) (n x : ℕ) (h : Option Share) → o.holds n ≡ h → IsSoundIf h → 1 ≤ times x (reads_of h) → HasReader o n x
has_reader o n x None e s r = absurd (omega arith)
has_reader o n x (Some b) e s r = record { share = b; has = e; owns = owns_it b x s r; listed = listed_once x b.part.readers r }

pub readers_are_listed : ReadersAreListed
readers_are_listed o p first run = record {
  copies = λ n parent h has copy asks. reader parent n (copied n parent h has copy asks);
  grants = λ n m l there says. reader n m ((shared.pairs n m).granted (weighed read_grant (p.channel n m) l (Grants Read) there says));
}
  where
    shared : IsShared p
    shared = shared_run o p first run

    reader : (n x : ℕ) → 1 ≤ times x (reads_of (p.holds n)) → HasReader p n x
    reader n x r = has_reader p n x (p.holds n) refl (shared.sound n) r

    copied : (n parent : ℕ) (h : Share) → p.holds n ≡ Some h → h.copy ≡ true → h.part.role ≡ Parent parent → 1 ≤ times n (reads_of (p.holds parent))
    copied n parent h has copy asks =
        let one : copy_from parent (p.holds n) ≡ 1 =
        ap (copy_from parent) has ∙ ap (λ (c : Bool). copied_as parent c h.part.role) copy ∙ ap (copied_as parent true) asks
        ∙ ap (λ (u : Bool). cond u 1 0) (same_true parent) in
        let most : copy_from parent (p.holds n) ≤ times n (reads_of (p.holds parent)) = (shared.pairs parent n).copied in
        omega arith
