-- What the model's law of readers says of a store: each reader is among the owner's.
use Rattle.std.proofs.Common.{◌≡◌, inl, inr, ℕ, arith, List, [], ◌∷◌, map, suc, refl, ap, sym, subst, ◌∙◌, true, cond}
use Rattle.std.specs.Prelude.{◌⊎◌, Option, Some, None, IsSome, is_some, Contains}
use Rattle.bmx_types.specs.declared.addresses.Info.{Info}
use Rattle.bmx_types.specs.declared.numbers.Mode.TheVariants as mode
use Rattle.bmx_msg.specs.declared.letters.Field.{Field}
use Rattle.bmx_msg.specs.declared.letters.Letter.{Letter}
use Rattle.bmx_msg.specs.declared.letters.Msg.TheVariants as msg
use Rattle.bmx_token.specs.declared.parts.Role.{Role}
use Rattle.bmx_token.specs.declared.parts.Role.TheVariants as role
use Rattle.bmx_protocol.specs.Nodes.{Known, share_of}
use Rattle.bmx_protocol.specs.Worlds.{World}
use Rattle.bmx_token.specs.Transitions.{Share, Grants}
use Rattle.bmx_token_model.specs.Laws.{is_owner, ReadersListed}
use Rattle.bmx_token_model.specs.Laws.{HasReader as Reads}
use Rattle.bmx_token_model.proofs.Readers.{one_or_more}
use Rattle.bmx_store_laws.specs.Inside.Seen.{seen, seen_message, seen_note, seen_known}
use Rattle.bmx_store_laws.specs.Laws.{HasReader, EachReaderIsListed}
use Rattle.bmx_protocol.proofs.Basics.{eqb_same}

is_there : {A : Type 0} (a : Option A) → IsSome a → is_some a ≡ true
is_there None some = absurd cc
is_there (Some a) some = refl

-- what is in a list is seen in what is seen of the list
seen_in : (x : ℕ) (letters : List Letter) (l : Letter) → Contains letters l → Contains (map (seen_message x) letters) (seen_message x l)
seen_in x [] l c = absurd (omega (arith, c.1))
seen_in x (k ∷ letters) l c = by_place (one_or_more k letters l c) (seen_in x letters l)
  where
    by_place : (k ≡ l) ⊎ Contains letters l → (Contains letters l → Contains (map (seen_message x) letters) (seen_message x l)) →
        Contains (map (seen_message x) (k ∷ letters)) (seen_message x l)
    by_place (inl here) rest = (0, omega arith, ap (seen_message x) here)
    by_place (inr there) rest =
        let c : Contains (map (seen_message x) letters) (seen_message x l) = rest there in
        (suc c.0, omega (arith, c.1), c.2)

-- a grant to read is seen as one
read_seen : (l : Letter) (info : Info) (fields : List Field) → l.msg ≡ msg.ReadGrant info fields → seen_note info.name l.msg ≡ Some (Grants mode.Read)
read_seen l info fields is = ap (seen_note info.name) is ∙ (λ i. cond (eqb_same info.name i) (Some (Grants mode.Read)) None)

-- what is seen of a node is what it knows
pub known_seen : (k : Option Known) (h : Share) → seen_known k ≡ Some h → (j : Known) × (k ≡ Some j) × (share_of j ≡ h)
known_seen None h e = absurd cc
known_seen (Some j) h e = (j, refl, cc)

owns_it : (r : Role) → is_owner r ≡ true → r ≡ role.Owner
owns_it role.Owner e = refl
owns_it (role.Parent parent) e = absurd cc

in_store : (w : World) (x owner reader : ℕ) → Reads (seen x w) owner reader → HasReader w x owner reader
in_store w x owner reader r =
    let k : (j : Known) × ((w.state owner).known x ≡ Some j) × (share_of j ≡ r.share) =
    known_seen ((w.state owner).known x) r.share r.has in
    record {
      known = k.0;
      owned = record { known = k.1; owns = owns_it k.0.part.role (ap (λ (h : Share). is_owner h.part.role) k.2 ∙ r.owns) };
      listed = subst (λ (h : Share). Contains h.part.readers reader) (sym k.2) r.listed;
    }

pub each_reader : (w : World) → ((x : ℕ) → ReadersListed (seen x w)) → EachReaderIsListed w
each_reader w each = record {
  copies = λ n x parent k has some.
      in_store w x parent n ((each x).copies n parent (share_of k) (ap seen_known has.known) (is_there k.copy some) has.asks);
  grants = λ n m l info fields there is.
      in_store w info.name n m ((each info.name).grants n m (seen_message info.name l) (seen_in info.name (w.channel n m) l there) (read_seen l info fields is));
}
