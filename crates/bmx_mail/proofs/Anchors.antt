-- The records that a store opens with, one after another; and that they are those of its rules.
use Rattle.std.proofs.Common.{◌≡◌, ◌≢◌, ℕ, zero, suc, ◌+◌, ◌-◌, ◌<◌, ◌≤◌, Bool, true, false, ◌&&◌, cond, nat_lt, nat_le, List, [], ◌∷◌, length, slice_get, find, Option, Some, None, unwrap_or, refl, sym, ap, ◌∙◌, arith}
use Rattle.std.specs.Prelude.{◌==◌}
use Rattle.std.specs.Option.{option_map}
use Rattle.std.proofs.Math.Path.{fun_ext}
use Rattle.std.proofs.lemmas.Bool.{eq-eqb, ne_eqb, and_parts}
use Rattle.std.proofs.lemmas.Bool.Decides.{nat_tests}
use Rattle.bmx_types.specs.Openings.{bunches_of, AreBirths}
use Rattle.bmx_types.specs.declared.openings.Birth.{Birth}
use Rattle.bmx_types.specs.Updates.{put_at}
use Rattle.bmx_owner.specs.declared.entering.Record.{Record}
use Rattle.bmx_owner.specs.Records.{blank}
use Rattle.bmx_protocol.specs.Nodes.{Setting, first_entering}
use Rattle.bmx_mail.specs.Inside.Anchors.{with_anchor, anchors_entering}

abbrev Entering : Type 0
Entering = ℕ → ℕ → Option Record

-- no node is below the first
pub none_entered : (f : Entering) (bunch : ℕ) → f ≡ with_anchor f 1 bunch
none_entered f bunch = fun_ext (λ name. fun_ext (λ node. by name node))
  where
    by : (name node : ℕ) → f name node ≡ with_anchor f 1 bunch name node
    by name node = grind (arith, nat_tests)

-- no node stands below itself, so the next one has no record yet
next_is_none : (f : Entering) (bunch k : ℕ) → f (bunch + 1) k ≡ None → with_anchor f k bunch (bunch + 1) k ≡ None
next_is_none f bunch k none = grind (arith, nat_tests, none)

next_entered : (f : Entering) (bunch k name node : ℕ) → 0 < k → put_at (with_anchor f k bunch) (bunch + 1) k (Some (blank (bunch + 1) bunch k)) name node ≡ with_anchor f (k + 1) bunch name node
next_entered f bunch k name node some = grind (arith, nat_tests)

-- one node more
pub one_entered : (f now new : Entering) (bunch k name b node : ℕ) → name ≡ bunch + 1 → b ≡ bunch → node ≡ k → 0 < k → f (bunch + 1) k ≡ None → now ≡ with_anchor f k bunch →
    new ≡ put_at now name node (Some (unwrap_or (now name node) (blank name b node))) → new ≡ with_anchor f (k + 1) bunch
one_entered f now new bunch k name b node named of_bunch at some none is entered =
    entered
    ∙ (λ i. put_at (is i) (named i) (at i) (Some (unwrap_or (is i (named i) (at i)) (blank (named i) (of_bunch i) (at i)))))
    ∙ ap (λ (o : Option Record). put_at (with_anchor f k bunch) (bunch + 1) k (Some (unwrap_or o (blank (bunch + 1) bunch k)))) (next_is_none f bunch k none)
    ∙ fun_ext (λ name. fun_ext (λ node. next_entered f bunch k name node some))

-- the next bunch has no record yet
pub none_yet : (nodes bunch node : ℕ) → anchors_entering nodes bunch (bunch + 1) node ≡ None
none_yet nodes bunch node = grind (arith, nat_tests)

-- one bunch more
pub one_bunch : (nodes bunch : ℕ) → with_anchor (anchors_entering nodes bunch) nodes bunch ≡ anchors_entering nodes (bunch + 1)
one_bunch nodes bunch = fun_ext (λ name. fun_ext (λ node. by name node))
  where
    by : (name node : ℕ) → with_anchor (anchors_entering nodes bunch) nodes bunch name node ≡ anchors_entering nodes (bunch + 1) name node
    by name node = grind (arith, nat_tests)

-- ## the rules

-- names count up, so a birth is found at its place
find_at : (bs : List Birth) (k i t : ℕ) → ((j : ℕ) (b : Birth) → slice_get bs j ≡ Some b → b.name ≡ k + j + 1) → t ≡ k + i + 1 → i < length bs →
    find (λ b. b.name == t) bs ≡ slice_get bs i
find_at [] k i t named is lt = absurd (omega arith)
find_at (b ∷ bs) k zero t named is lt =
    let here : b.name ≡ t = (let e : b.name ≡ k + 0 + 1 = named 0 b refl in omega arith) in
    ap (λ (z : Bool). cond z (Some b) (find (λ b. b.name == t) bs)) (eq-eqb b.name t here)
find_at (b ∷ bs) k (suc i) t named is lt =
    let apart : b.name ≢ t = (λ e. (let f : b.name ≡ k + 0 + 1 = named 0 b refl in omega (arith, e))) in
    ap (λ (z : Bool). cond z (Some b) (find (λ b. b.name == t) bs)) (ne_eqb b.name t apart)
    ∙ find_at bs (k + 1) i t (λ j c e. (let f : c.name ≡ k + suc j + 1 = named (suc j) c e in omega arith)) (omega arith) (omega arith)

lt_of : (a b : ℕ) → nat_lt a b ≡ true → a < b
lt_of a b h = grind (arith, nat_tests)

le_of : (a b : ℕ) → nat_le a b ≡ true → a ≤ b
le_of a b h = grind (arith, nat_tests)

got : (bs : List Birth) (i : ℕ) → i < length bs → (b : Birth) × (slice_get bs i ≡ Some b)
got [] i lt = absurd (omega arith)
got (b ∷ bs) zero lt = (b, refl)
got (b ∷ bs) (suc i) lt = got bs i (omega arith)

-- the anchors' records are those that the rules say
pub anchors_are : (st : Setting) → AreBirths st.births → anchors_entering st.nodes (bunches_of st.births) ≡ first_entering st 0
anchors_are st born = fun_ext (λ name. fun_ext (λ node. by_nodes name node (nat_lt 0 node) (nat_lt node st.nodes)))
  where
    by_name : (name node : ℕ) (b : Bool) → (nat_lt 0 name && nat_le name (bunches_of st.births)) ≡ b →
        cond b (Some (blank name (name - 1) node)) None ≡ cond b (option_map (λ (c : Birth). blank name c.bunch node) (find (λ c. c.name == name) st.births)) None
    by_name name node false q = refl
    by_name name node true q =
        let parts = and_parts (nat_lt 0 name) (nat_le name (bunches_of st.births)) q in
        let low : 0 < name = lt_of 0 name parts.0 in
        let high : name ≤ bunches_of st.births = le_of name (bunches_of st.births) parts.1 in
        let one = got st.births (name - 1) (omega (arith, born.anchors)) in
        let there : find (λ c. c.name == name) st.births ≡ Some one.0 = find_at st.births 0 (name - 1) name (λ j c e. (let f : c.name ≡ j + 1 = born.named j c e in omega arith)) (omega arith) (omega (arith, born.anchors)) ∙ one.1 in
        let bunch : one.0.bunch ≡ name - 1 = born.first (name - 1) one.0 (omega arith) one.1 in
        ap (λ (n : ℕ). Some (blank name n node)) (sym bunch) ∙ ap (option_map (λ (c : Birth). blank name c.bunch node)) (sym there)

    by_nodes : (name node : ℕ) (a b : Bool) →
        cond (a && b && (nat_lt 0 name && nat_le name (bunches_of st.births))) (Some (blank name (name - 1) node)) None
        ≡ cond (a && b && (nat_lt 0 name && nat_le name (bunches_of st.births))) (option_map (λ (c : Birth). blank name c.bunch node) (find (λ c. c.name == name) st.births)) None
    by_nodes name node false b = refl
    by_nodes name node true false = refl
    by_nodes name node true true = by_name name node (nat_lt 0 name && nat_le name (bunches_of st.births)) refl
