-- What the model's law of chains says of a store: from each node that knows a name its parents lead to the owner,
-- or to who gave ownership.
use Rattle.std.proofs.Common.{◌≡◌, inl, inr, ℕ, suc, ◌<◌, arith, refl, ap, sym, ◌∙◌, Bool, true, false, List, [], ◌∷◌, map}
use Rattle.std.proofs.lemmas.Bool.Decides.{nat_tests}
use Rattle.std.specs.Prelude.{◌⊎◌, nat_lt, is_some, Option, Some, None, Contains}
use Rattle.bmx_msg.specs.declared.letters.Letter.{Letter}
use Rattle.bmx_token.specs.declared.parts.Role.TheVariants as role
use Rattle.bmx_token.specs.Transitions.{Share}
use Rattle.bmx_protocol.specs.Nodes.{Setting, Known, share_of}
use Rattle.bmx_protocol.specs.Worlds.{World, HasParent, Owned, Gave, ParentChain, Here, On, HasChain, EachHasChain}
use Rattle.bmx_token_model.specs.Machine.{Object, Message, brings}
use Rattle.bmx_token_model.specs.Laws.{IsBrought, ChainEnd, IsBelow, ParentsLead}
use Rattle.bmx_token_model.specs.Laws as model
use Rattle.bmx_token_model.proofs.Readers.{one_or_more}
use Rattle.bmx_store_laws.specs.Inside.Seen.{seen, seen_message, seen_known}
use Rattle.bmx_store_laws.proofs.Owners.{is_hand, counted, HandsAmong, among}
use Rattle.bmx_store_laws.proofs.Readers.{known_seen}

lt_is : (a b : ℕ) → nat_lt a b ≡ true → a < b
lt_is a b h = grind (arith, nat_tests)

not_lt : (a b : ℕ) → nat_lt a b ≡ false → a < b → ⊥
not_lt a b h e = grind (arith, nat_tests)

-- ownership that is seen to be brought is brought by a letter
brought_in : (x : ℕ) (letters : List Letter) → IsBrought (map (seen_message x) letters) → HandsAmong x letters
brought_in x letters b = by_letter (find letters b.letter b.there b.brings_it)
  where
    find : (letters : List Letter) (s : Message) → Contains (map (seen_message x) letters) s → brings s ≡ true → (l : Letter) × Contains letters l × (brings (seen_message x l) ≡ true)
    find [] s c is = absurd (omega (arith, c.1))
    find (l ∷ letters) s c is = by_place (one_or_more (seen_message x l) (map (seen_message x) letters) s c) (λ there. find letters s there is)
      where
        by_place : (seen_message x l ≡ s) ⊎ Contains (map (seen_message x) letters) s →
            (Contains (map (seen_message x) letters) s → (k : Letter) × Contains letters k × (brings (seen_message x k) ≡ true)) →
            (k : Letter) × Contains (l ∷ letters) k × (brings (seen_message x k) ≡ true)
        by_place (inl here) rest = (l, (0, omega arith, refl), ap brings here ∙ is)
        by_place (inr there) rest =
            let r : (k : Letter) × Contains letters k × (brings (seen_message x k) ≡ true) = rest there in
            (r.0, (suc r.1.0, omega (arith, r.1.1), r.1.2), r.2)

    by_letter : (l : Letter) × Contains letters l × (brings (seen_message x l) ≡ true) → HandsAmong x letters
    by_letter f = among x letters (counted x letters f.0 f.1 (sym (is_hand x f.0) ∙ f.2))

-- a parent that is seen is a parent
parent_in : (w : World) (x n parent : ℕ) (h : Share) → (seen x w).holds n ≡ Some h → h.part.role ≡ role.Parent parent → (k : Known) × HasParent w x n parent k
parent_in w x n parent h has asks =
    let k : (j : Known) × ((w.state n).known x ≡ Some j) × (share_of j ≡ h) = known_seen ((w.state n).known x) h has in
    (k.0, record { known = k.1; asks = ap (λ (j : Share). j.part.role) k.2 ∙ asks })

-- a chain of the model is one of the store
chain_in : (w : World) (x n steps : ℕ) → model.Chain (seen x w) n steps → ParentChain w x n steps
chain_in w x n steps (model.Here (model.Owns h has owns)) =
    let k : (j : Known) × ((w.state n).known x ≡ Some j) × (share_of j ≡ h) = known_seen ((w.state n).known x) h has in
    Here (Owned k.0 (record { known = k.1; owns = ap (λ (j : Share). j.part.role) k.2 ∙ owns }))
chain_in w x n steps (model.Here (model.Gave h to has asks brought)) =
    let k : (j : Known) × HasParent w x n to j = parent_in w x n to h has asks in
    let b : HandsAmong x (w.channel n to) = brought_in x (w.channel n to) brought in
    Here (Gave to k.0 k.1 (record { letter = b.letter; info = b.info; fields = b.fields; moves = record { there = b.there; grants = b.grants; named = b.named } }))
chain_in w x n steps (model.On {parent = parent} {steps = fewer} h has asks rest) =
    let k : (j : Known) × HasParent w x n parent j = parent_in w x n parent h has asks in
    On k.0 k.1 (chain_in w x parent fewer rest)

-- who knows the object is a node, where no number beyond the nodes knows it
pub nodes_of : (st : Setting) (o : Object) → ((n : ℕ) → (n < st.nodes → ⊥) → o.holds n ≡ None) → (n : ℕ) → is_some (o.holds n) ≡ true → n < st.nodes
nodes_of st o beyond n knows = by_test (nat_lt n st.nodes) (lt_is n st.nodes) (not_lt n st.nodes)
  where
    nothing : (h : Option Share) → h ≡ None → is_some h ≡ true → ⊥
    nothing h none some = (let both : false ≡ true = ap (λ (i : Option Share). is_some i) (sym none) ∙ some in cc)

    by_test : (t : Bool) → (t ≡ true → n < st.nodes) → (t ≡ false → n < st.nodes → ⊥) → n < st.nodes
    by_test true q d = q refl
    by_test false q d = absurd (nothing (o.holds n) (beyond n (d refl)) knows)

pub chains : (st : Setting) (w : World) → ((x : ℕ) → ParentsLead (seen x w)) → ((x n : ℕ) → (n < st.nodes → ⊥) → (seen x w).holds n ≡ None) → EachHasChain st w
chains st w leads beyond n x k real has = by_chain ((leads x).chains st.nodes below n (share_of k) (ap seen_known has))
  where
    below : IsBelow (seen x w) st.nodes
    below m h known = nodes_of st (seen x w) (beyond x) m (ap (λ (i : Option Share). is_some i) known)

    by_chain : (steps : ℕ) × (steps < st.nodes) × model.Chain (seen x w) n steps → HasChain st w x n
    by_chain c = (c.0, c.1, chain_in w x n c.0 c.2)
